-- Which strokes stand side by side on routes.
use Rattle.std.specs.Prelude.{◌≡◌, ◌⊎◌, true, List, ◌∷◌, ◌++◌}
use Rattle.stroke_paths.specs.Routes.{Route, first_end, last_end, steps_of, last_of}
use Rattle.stroke_paths.specs.declared.path.End.{End}
use Rattle.stroke_paths.specs.declared.path.Step.{Step}

-- somewhere among the steps the one stands right before the other
abbrev pub StepStandsBefore : List Step → Step → Step → Type 0
StepStandsBefore steps s t = (before : List Step) × (after : List Step) × (steps ≡ before ++ s ∷ t ∷ after)

-- the one step, and then the other; after the last step of a closed route comes its first
abbrev pub IsNext : Route → Step → Step → Type 0
IsNext r s t = StepStandsBefore (steps_of r) s t ⊎ ((r.closed ≡ true) × (last_of r.first r.rest ≡ s) × (r.first ≡ t))

-- the route comes to this end of a stroke, and continues from this end of the next
abbrev pub Continues : Route → End → End → Type 0
Continues r e f = (s : Step) × (t : Step) × IsNext r s t × (last_end s ≡ e) × (first_end t ≡ f)
