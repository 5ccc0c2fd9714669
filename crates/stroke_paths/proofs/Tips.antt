-- The two ends of a stroke, and the steps that begin or end there.
use Rattle.std.proofs.Common.{◌≡◌, Bool, true, false, not, refl, ap, ◌∙◌}
use Rattle.stroke_paths.specs.declared.path.End.{End}
use Rattle.stroke_paths.specs.declared.path.Step.{Step}
use Rattle.stroke_paths.specs.declared.path.Tip.{Tip}
use Rattle.stroke_paths.specs.declared.path.Tip.TheVariants.{First, Second}
use Rattle.stroke_paths.specs.inner.Walks.{turn}
use Rattle.stroke_paths.specs.Joints.{other_tip}
use Rattle.stroke_paths.specs.Routes.{first_end, last_end, start_of}

pub other-other : (t : Tip) → other_tip (other_tip t) ≡ t
other-other First = refl
other-other Second = refl

-- ---- a step the other way
start_turned : (b : Bool) → start_of (not b) ≡ other_tip (start_of b)
start_turned true = refl
start_turned false = refl

pub first_turned : (s : Step) → first_end (turn s) ≡ last_end s
first_turned s = λ i. record { stroke = s.stroke; tip = start_turned s.turned i }

pub last_turned : (s : Step) → last_end (turn s) ≡ first_end s
last_turned s = λ i. record { stroke = s.stroke; tip = (ap other_tip (start_turned s.turned) ∙ other-other (start_of s.turned)) i }

-- ---- the steps from an end, and to one
-- whether a step that begins there is turned
abbrev pub turned_from : Tip → Bool
turned_from First = false
turned_from Second = true

pub turned_of_start : (b : Bool) → turned_from (start_of b) ≡ b
turned_of_start true = refl
turned_of_start false = refl

pub start_of_turned : (t : Tip) → start_of (turned_from t) ≡ t
start_of_turned First = refl
start_of_turned Second = refl

abbrev pub from_end : End → Step
from_end e = record { stroke = e.stroke; turned = turned_from e.tip }

abbrev pub to_end : End → Step
to_end e = record { stroke = e.stroke; turned = turned_from (other_tip e.tip) }

pub from_that_end : (e : End) → first_end (from_end e) ≡ e
from_that_end e = λ i. record { stroke = e.stroke; tip = start_of_turned e.tip i }

pub to_that_end : (e : End) → last_end (to_end e) ≡ e
to_that_end e = λ i. record { stroke = e.stroke; tip = (ap other_tip (start_of_turned (other_tip e.tip)) ∙ other-other e.tip) i }
