-- Steps one after the other by the table of joints, and the strokes that they visit.
use Rattle.std.specs.Prelude.{◌≡◌, ◌≢◌, ◌⊎◌, ◌<◌, ℕ, Bool, true, false, List, [], ◌∷◌, None, Some, All, length, map, slice_get, slice_set, is_some, not}
use Rattle.stroke_paths.specs.declared.joint.Joint.{Joint}
use Rattle.stroke_paths.specs.declared.path.End.{End}
use Rattle.stroke_paths.specs.declared.path.Step.{Step}
use Rattle.stroke_paths.specs.inner.Tables.{partner}
use Rattle.stroke_paths.specs.Routes.{first_end, last_end, last_of}

-- the step the other way
abbrev pub turn : Step → Step
turn s = record { stroke = s.stroke; turned = not s.turned }

-- a number is among these
abbrev pub IsAmong : List ℕ → ℕ → Type 0
IsAmong [] i = ⊥
IsAmong (j ∷ rest) i = (j ≡ i) ⊎ IsAmong rest i

-- no number twice
abbrev pub AreApart : List ℕ → Type 0
AreApart [] = Unit {0}
AreApart (j ∷ rest) = (IsAmong rest j → ⊥) × AreApart rest

-- the strokes of steps
abbrev pub strokes_of : List Step → List ℕ
strokes_of steps = map (λ s. s.stroke) steps

-- ends that are joined are joined both ways, of two strokes, and in range
pub record AreMatched (joints : List Joint) : Type 0 where
  pub back : (e f : End) → partner joints e ≡ Some f → partner joints f ≡ Some e
  pub two : (e f : End) → partner joints e ≡ Some f → e.stroke ≢ f.stroke
  pub within : (e f : End) → partner joints e ≡ Some f → f.stroke < length joints

-- the stroke at i is visited
abbrev pub IsVisited : List Bool → ℕ → Type 0
IsVisited visited i = slice_get visited i ≡ Some true

-- a stroke is visited with those that it is joined to
abbrev pub AreWhole : List Joint → List Bool → Type 0
AreWhole joints visited = (e f : End) → partner joints e ≡ Some f → IsVisited visited e.stroke → IsVisited visited f.stroke

-- these strokes, which weren't visited, are visited too
pub record AreVisited (before after : List Bool) (strokes : List ℕ) : Type 0 where
  pub fresh : (i : ℕ) → IsAmong strokes i → slice_get before i ≡ Some false
  pub apart : AreApart strokes
  pub now : (i : ℕ) → IsVisited after i → IsVisited before i ⊎ IsAmong strokes i
  pub still : (i : ℕ) → IsVisited before i → IsVisited after i
  pub new : (i : ℕ) → IsAmong strokes i → IsVisited after i
  pub as_many : length after ≡ length before

-- steps from an end on: each begins at the end that is joined to where one has come
abbrev pub GoOn : List Joint → End → List Step → Type 0
GoOn joints e [] = Unit {0}
GoOn joints e (s ∷ rest) = (partner joints e ≡ Some (first_end s)) × GoOn joints (last_end s) rest

-- where steps from an end on come
abbrev pub end_after : End → List Step → End
end_after e [] = e
end_after e (s ∷ rest) = end_after (last_end s) rest

-- the next step from an end, through a stroke that wasn't visited and is visited then
pub record IsNext (joints : List Joint) (before after : List Bool) (e : End) (s : Step) : Type 0 where
  pub joined : partner joints e ≡ Some (first_end s)
  pub fresh : slice_get before s.stroke ≡ Some false
  pub visited : after ≡ slice_set before s.stroke true

-- no step goes on from an end, or only one through a stroke that is visited
pub record IsStopped (joints : List Joint) (before after : List Bool) (e : End) : Type 0 where
  pub stopped : (f : End) → partner joints e ≡ Some f → IsVisited before f.stroke
  pub same : after ≡ before

-- steps from an end on, as far as strokes go that aren't visited
pub record AreStepsFrom (joints : List Joint) (before after : List Bool) (e : End) (steps : List Step) (closed : Bool) : Type 0 where
  pub go_on : GoOn joints e steps
  pub visits : AreVisited before after (strokes_of steps)
  pub stopped : (f : End) → partner joints (end_after e steps) ≡ Some f → IsVisited after f.stroke
  pub says : closed ≡ is_some (partner joints (end_after e steps))

-- steps that follow one another by the table
abbrev pub AreLinked : List Joint → Step → List Step → Type 0
AreLinked joints s [] = Unit {0}
AreLinked joints s (t ∷ rest) = (partner joints (last_end s) ≡ Some (first_end t)) × AreLinked joints t rest

-- by the table, closed steps go on from the last to the first, and of others both ends are joined to none
abbrev pub EndByTable : List Joint → Bool → Step → Step → Type 0
EndByTable joints true first last = partner joints (last_end last) ≡ Some (first_end first)
EndByTable joints false first last = (partner joints (first_end first) ≡ None) × (partner joints (last_end last) ≡ None)

-- the route through a stroke, by the table
pub record IsRouteThrough (joints : List Joint) (before after : List Bool) (i : ℕ) (steps : List Step) (closed : Bool) : Type 0 where
  pub first : Step
  pub rest : List Step
  pub steps_are : steps ≡ first ∷ rest
  pub linked : AreLinked joints first rest
  pub ends : EndByTable joints closed first (last_of first rest)
  pub visits : AreVisited before after (strokes_of (first ∷ rest))
  pub among : IsAmong (strokes_of (first ∷ rest)) i
  pub forward : All (λ s. s.stroke ≡ i → s.turned ≡ false) (first ∷ rest)
  pub begins : closed ≡ true → first.stroke ≡ i
  pub whole : AreWhole joints after
