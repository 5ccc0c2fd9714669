-- Which of the plotters that are handed in names choose.
use Rattle.std.specs.Prelude.{◌≡◌, ◌<◌, ℕ, List, map, slice_get, option_map, Option, Some, None, IsSome}
use Rattle.std.specs.List.{find}
use Rattle.std.specs.Str.{bytes_eq}
use Rattle.plot_rack.specs.declared.rack.RackError.{RackError}
use Rattle.plot_rack.specs.declared.rack.RackError.TheVariants.{NoPlotter, Memory}

-- the first box with that suffix
abbrev pub first_with : {B : Type 0} → (B → List ℕ) → List B → List ℕ → Option B
first_with suffix_of boxes name = find (λ b. bytes_eq (suffix_of b) name) boxes

-- for each name, in order, the first box with that suffix
abbrev pub AreChosen : {B : Type 0} → (B → List ℕ) → List B → List (List ℕ) → List B → Type 0
AreChosen suffix_of boxes names chosen = map (first_with suffix_of boxes) names ≡ map Some chosen

-- no box has the suffix of the name at this place, and for each earlier name there is one
pub record IsFirstMissing {B : Type 0} (suffix_of : B → List ℕ) (boxes : List B) (names : List (List ℕ)) (place : ℕ) : Type 0 where
  pub missing : option_map (first_with suffix_of boxes) (slice_get names place) ≡ Some None
  pub earlier : (k : ℕ) (name : List ℕ) → k < place → slice_get names k ≡ Some name → IsSome (first_with suffix_of boxes name)

-- why names choose no boxes
abbrev pub IsPlotterRefused : {B : Type 0} → (B → List ℕ) → List B → List (List ℕ) → RackError → Type 0
IsPlotterRefused suffix_of boxes names (NoPlotter place) = IsFirstMissing suffix_of boxes names place
IsPlotterRefused suffix_of boxes names (Memory none) = Unit {0}
