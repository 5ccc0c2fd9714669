-- Where the first plotter with a suffix stands.
use Rattle.std.specs.Prelude.{◌≡◌, ℕ, true, List, take, slice_get, option_map, Some, None}
use Rattle.std.specs.Str.{bytes_eq}
use Rattle.plot_rack.specs.Choices.{first_with}

-- the first box with that suffix stands there
pub record IsFirstPlace {B : Type 0} (suffix_of : B → List ℕ) (boxes : List B) (name : List ℕ) (i : ℕ) : Type 0 where
  pub before : first_with suffix_of (take i boxes) name ≡ None
  pub here : option_map (λ b. bytes_eq (suffix_of b) name) (slice_get boxes i) ≡ Some true
