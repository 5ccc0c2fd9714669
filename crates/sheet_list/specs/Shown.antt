-- What a list says that a view shows.
use Rattle.std.specs.Prelude.{ℕ, Bool, if◌then◌else◌, List, Option, Some, None, take, drop, codes}
use Rattle.std.specs.Fmt.{signed_decimal}
use Rattle.job_file.specs.declared.view.Principal.{Principal}
use Rattle.job_file.specs.declared.view.Principal.TheVariants.{Front, Back, Left, Right, Above, Below}
use Rattle.lattice.specs.Cuts.{Plane, plane_of}
use Rattle.lattice.specs.Points.{of_dir}
use Rattle.lattice.specs.Triple.{Triple}
use Rattle.lattice.specs.declared.pieces.ViewSpec.{ViewSpec}
use Rattle.lattice.specs.declared.pieces.ViewSpec.TheVariants.{Plain, Section}
use Rattle.cut_marks.specs.AxisNames.{axis_name}
use Rattle.cut_marks.specs.Letters.{letters}
use Rattle.svg_page.specs.Texts.{◌⊕◌}

-- named views and sides have the names that a job calls them by
abbrev pub name_of : Principal → List ℕ
name_of Front = codes "front"
name_of Back = codes "back"
name_of Left = codes "left"
name_of Right = codes "right"
name_of Above = codes "above"
name_of Below = codes "below"

abbrev pub side_name : Bool → List ℕ
side_name from_high = if from_high then codes "high" else codes "low"

-- the letter of the cut with this number, from 0
abbrev pub letter_text : ℕ → List ℕ
letter_text number = take 1 (drop number letters)

abbrev pub toward_text : Triple → List ℕ
toward_text d = codes "toward " ⊕ signed_decimal d.x ⊕ codes " " ⊕ signed_decimal d.y ⊕ codes " " ⊕ signed_decimal d.z

-- a view of the whole part, by its name where it has one
abbrev pub plain_text : Option Principal → Triple → List ℕ
plain_text (Some name) d = name_of name
plain_text None d = toward_text d

-- the cut with this number: where its plane stands, from where it is seen, and its letter
abbrev pub cut_text : ℕ → Plane → List ℕ
cut_text number c = codes "cut " ⊕ axis_name c.axis ⊕ codes " " ⊕ signed_decimal c.at ⊕ codes " " ⊕ side_name c.from_high ⊕ codes " " ⊕ letter_text number

-- a view behind those that show so many cuts
abbrev pub shown_text : ℕ → Option Principal → ViewSpec → List ℕ
shown_text cuts named (Plain d) = plain_text named (of_dir d)
shown_text cuts named (Section c) = cut_text cuts (plane_of c)
