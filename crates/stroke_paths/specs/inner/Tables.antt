-- The table of joints.
use Rattle.std.specs.Prelude.{◌≡◌, ◌<◌, ℕ, List, Option, MatchOption, length, slice_get, option_and_then}
use Rattle.sheet_plan.specs.declared.sheet.Mark.TheVariants.{Hatch}
use Rattle.sheet_plan.specs.declared.sheet.Stroke.{Stroke}
use Rattle.stroke_paths.specs.declared.joint.Joint.{Joint}
use Rattle.stroke_paths.specs.declared.path.End.{End}
use Rattle.stroke_paths.specs.declared.path.Tip.{Tip}
use Rattle.stroke_paths.specs.declared.path.Tip.TheVariants.{First, Second}
use Rattle.stroke_paths.specs.Joints.{AreJoined, IsDot}
use Rattle.stroke_paths.specs.Routes.{IsLoose}

-- the end that is joined to the first or to the second end of a stroke
abbrev pub joined_at : Tip → Joint → Option End
joined_at First j = j.first
joined_at Second j = j.second

-- the end that is joined to this one, by the table
abbrev pub partner : List Joint → End → Option End
partner joints e = option_and_then (joined_at e.tip) (slice_get joints e.stroke)

-- a stroke that is no dot and no line of a hatching
pub record MayJoin (s : Stroke) : Type 0 where
  pub no_dot : IsDot s → ⊥
  pub no_hatch : s.mark ≡ Hatch → ⊥

-- this is the end that a path goes on from after the other, or the other is loose
abbrev pub IsJoint : List Stroke → End → Option End → Type 0
IsJoint strokes e found = MatchOption found (IsLoose strokes e) (AreJoined strokes e)

-- the joints of the strokes below i
pub record AreJointsBelow (strokes : List Stroke) (i : ℕ) (joints : List Joint) : Type 0 where
  pub all : length joints ≡ i
  pub each : (e : End) → e.stroke < i → IsJoint strokes e (partner joints e)

-- the joints of all strokes
abbrev pub AreJoints : List Stroke → List Joint → Type 0
AreJoints strokes joints = AreJointsBelow strokes (length strokes) joints
