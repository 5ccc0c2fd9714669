-- What a job calls the values at its keys.
use Rattle.std.specs.Prelude.{ℕ, Bool, if◌then◌else◌, List, ◌++◌, Option, Some, None, codes}
use Rattle.std.specs.Fmt.{decimal}
use Rattle.dec_text.specs.declared.number.Length.{Length}
use Rattle.dec_text.specs.declared.number.Length.TheVariants.{Millimetre, Inch}
use Rattle.lattice.specs.declared.pieces.Crease.{Crease}
use Rattle.lattice.specs.declared.pieces.Crease.TheVariants.{Fine, Normal, Coarse}
use Rattle.lattice.specs.declared.points.Axis.{Axis}
use Rattle.lattice.specs.declared.points.Axis.TheVariants.{X, Y, Z}
use Rattle.job_file.specs.declared.view.Principal.{Principal}
use Rattle.job_file.specs.declared.view.Principal.TheVariants.{Front, Back, Left, Right, Above, Below}

-- third-angle projection, or not
abbrev pub angle_name : Bool → List ℕ
angle_name third = if third then codes "third" else codes "first"

-- a scale, or none: the greatest one at which the views fit
abbrev pub scale_name : Option (ℕ × ℕ) → List ℕ
scale_name None = codes "fit"
scale_name (Some scale) = decimal scale.0 ++ (codes ":" ++ decimal scale.1)

abbrev pub crease_name : Crease → List ℕ
crease_name Fine = codes "fine"
crease_name Normal = codes "normal"
crease_name Coarse = codes "coarse"

abbrev pub length_name : Length → List ℕ
length_name Millimetre = codes "mm"
length_name Inch = codes "inch"

-- upright, or lying
abbrev pub layout_name : Bool → List ℕ
layout_name portrait = if portrait then codes "portrait" else codes "landscape"

abbrev pub principal_name : Principal → List ℕ
principal_name Front = codes "front"
principal_name Back = codes "back"
principal_name Left = codes "left"
principal_name Right = codes "right"
principal_name Above = codes "above"
principal_name Below = codes "below"

abbrev pub axis_name : Axis → List ℕ
axis_name X = codes "x"
axis_name Y = codes "y"
axis_name Z = codes "z"

-- the side from which the viewer looks: the high one, or not
abbrev pub side_name : Bool → List ℕ
side_name from_high = if from_high then codes "high" else codes "low"
