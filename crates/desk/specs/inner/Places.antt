-- Where a name stands among named things.
use Rattle.std.specs.Prelude.{◌≡◌, take, option_map, slice_get, ℕ, List, Some, None}
use Rattle.desk.specs.Files.{named_at}

-- the first with this name stands there
pub record IsPlaceOf {V : Type 0} (named : List (List ℕ × V)) (name : List ℕ) (i : ℕ) : Type 0 where
  pub before : named_at (take i named) name ≡ None
  pub here : option_map (λ one. one.0) (slice_get named i) ≡ Some name
