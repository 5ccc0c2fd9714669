-- Strokes passed one after the other: routes, and all routes over the strokes of a sheet.
use Rattle.std.specs.Prelude.{◌≡◌, ◌≢◌, ◌<◌, ℕ, Bool, true, false, min, List, [], ◌∷◌, map, All, AllPairs, Contains}
use Rattle.std.specs.List.{flat_map}
use Rattle.sheet_plan.specs.declared.sheet.Stroke.{Stroke}
use Rattle.stroke_paths.specs.Joints.{other_tip, IsKept, AreJoined}
use Rattle.stroke_paths.specs.declared.path.End.{End}
use Rattle.stroke_paths.specs.declared.path.Step.{Step}
use Rattle.stroke_paths.specs.declared.path.Tip.{Tip}
use Rattle.stroke_paths.specs.declared.path.Tip.TheVariants.{First, Second}

-- the end of a stroke at which a step begins, where the stroke isn't turned and where it is
abbrev pub start_of : Bool → Tip
start_of false = First
start_of true = Second

-- where a step begins, and where it ends
abbrev pub first_end : Step → End
first_end s = record { stroke = s.stroke; tip = start_of s.turned }

abbrev pub last_end : Step → End
last_end s = record { stroke = s.stroke; tip = other_tip (start_of s.turned) }

-- one step, and then the other
abbrev pub Follows : List Stroke → Step → Step → Type 0
Follows strokes s t = AreJoined strokes (last_end s) (first_end t)

-- no path goes on from this end
abbrev pub IsLoose : List Stroke → End → Type 0
IsLoose strokes e = (f : End) → AreJoined strokes e f → ⊥

-- steps one after the other, at least one
pub record Route : Type 0 where
  pub closed : Bool
  pub first : Step
  pub rest : List Step

abbrev pub steps_of : Route → List Step
steps_of r = r.first ∷ r.rest

abbrev pub last_of : Step → List Step → Step
last_of s [] = s
last_of s (t ∷ rest) = last_of t rest

abbrev pub EachFollows : List Stroke → Step → List Step → Type 0
EachFollows strokes s [] = Unit {0}
EachFollows strokes s (t ∷ rest) = Follows strokes s t × EachFollows strokes t rest

-- a closed route goes on from its last step to its first; of any other both ends are loose
abbrev pub EndsAsItMust : List Stroke → Bool → Step → Step → Type 0
EndsAsItMust strokes true first last = Follows strokes last first
EndsAsItMust strokes false first last = IsLoose strokes (first_end first) × IsLoose strokes (last_end last)

-- the least of the strokes that are passed, by their places
abbrev pub least_from : ℕ → List Step → ℕ
least_from n [] = n
least_from n (s ∷ rest) = least_from (min n s.stroke) rest

abbrev pub least_of : Route → ℕ
least_of r = least_from r.first.stroke r.rest

-- a whole route: its steps follow one another as far as they can, its least stroke isn't turned, and a closed one begins with that
pub record IsRoute (strokes : List Stroke) (r : Route) : Type 0 where
  pub kept : All (λ s. IsKept strokes s.stroke) (steps_of r)
  pub follow : EachFollows strokes r.first r.rest
  pub ends : EndsAsItMust strokes r.closed r.first (last_of r.first r.rest)
  pub forward : All (λ s. s.stroke ≡ least_of r → s.turned ≡ false) (steps_of r)
  pub begins : r.closed ≡ true → r.first.stroke ≡ least_of r

-- the strokes that the routes pass, one after the other
abbrev pub strokes_in : List Route → List ℕ
strokes_in routes = flat_map (λ r. map (λ s. s.stroke) (steps_of r)) routes

-- whole routes on which each stroke that is no dot is passed exactly once, in the order of their least strokes
pub record AreRoutes (strokes : List Stroke) (routes : List Route) : Type 0 where
  pub each : All (IsRoute strokes) routes
  pub all : (i : ℕ) → IsKept strokes i → Contains (strokes_in routes) i
  pub once : AllPairs (λ i j. i ≢ j) (strokes_in routes)
  pub in_order : AllPairs (λ r q. least_of r < least_of q) routes
