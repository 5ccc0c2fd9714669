-- The lines that say where each cut is.
use Rattle.std.specs.Prelude.{ℕ, ℤ, pos, negsuc, ◌+ℤ◌, ◌-ℤ◌, ◌*ℤ◌, int_lt, Bool, true, false, ◌&&◌, ◌||◌, List, [], ◌∷◌, ◌++◌, Option, Some, codes}
use Rattle.std.specs.Char.{encode_utf8}
use Rattle.cut_marks.specs.declared.figures.Heading.{Heading}
use Rattle.cut_marks.specs.declared.views.ViewMarks.{ViewMarks}
use Rattle.fault_lines.specs.Lines.{axis_text}
use Rattle.geometry.specs.Parts.{Part}
use Rattle.job_file.specs.declared.view.JobView.{JobView}
use Rattle.lattice.specs.Cuts.{Plane, plane_of}
use Rattle.lattice.specs.declared.pieces.ViewSpec.{ViewSpec}
use Rattle.lattice.specs.declared.pieces.ViewSpec.TheVariants.{Section}
use Rattle.sheet_summary.specs.Ends.{least_along, greatest_along}
use Rattle.length_text.specs.Lengths.{mm_text}
use Rattle.svg_page.specs.Texts.{◌⊕◌}

-- on which side of the place a plane stands, in halves of a unit: before it, as the viewer looks
abbrev pub side_of : Bool → ℤ
side_of true = negsuc 0
side_of false = pos 1

-- twice the place of a plane on its axis
abbrev pub twice_at : Plane → ℤ
twice_at p = (pos 2 *ℤ p.at) +ℤ side_of p.from_high

-- what is so far from both ends of a part is between them
abbrev pub is_between : ℤ → ℤ → Bool
is_between before behind = int_lt (pos 0) before && int_lt (pos 0) behind

-- so far is less than 1 % of this extent
abbrev pub is_close : ℤ → ℤ → Bool
is_close away extent = int_lt (pos 100 *ℤ away) extent

-- a plane is between these ends, and nearer to one of them than 1 % of the extent; twice its place is given
abbrev pub is_near_end : ℤ → ℤ → ℤ → Bool
is_near_end twice least greatest =
    let before = twice -ℤ (pos 2 *ℤ least) in
    let behind = (pos 2 *ℤ greatest) -ℤ twice in
    let extent = pos 2 *ℤ (greatest -ℤ least) in
    is_between before behind && (is_close before extent || is_close behind extent)

-- the plane goes through the part so near to one of its ends
abbrev pub is_near : Part → Plane → Bool
is_near s p = is_near_end (twice_at p) (least_along p.axis s.corners) (greatest_along p.axis s.corners)

-- what is said of that: by a job whose places are in units also what a unit is
abbrev pub near_text : Bool → Bool → ℕ → List ℕ
near_text false in_units decimals = []
near_text true false decimals = codes ", near the part's end"
near_text true true decimals = codes ", near the part's end: at is in units of " ⊕ mm_text decimals (pos 1) ⊕ codes " mm"

-- the line of a cut: its letter, its place, and whether that is near an end
abbrev pub cut_line : Part → ℕ → Bool → ℕ → Plane → List ℕ
cut_line s decimals in_units letter p =
    codes "cut " ⊕ encode_utf8 letter ⊕ codes " at " ⊕ axis_text p.axis ⊕ codes " = " ⊕ mm_text decimals p.at ⊕ codes " mm" ⊕ near_text (is_near s p) in_units decimals ⊕ codes "\n"

-- that of a view that shows a cut, with the letter of its heading
abbrev pub view_line : Part → ℕ → Bool → Option Heading → ViewSpec → List ℕ
view_line s decimals in_units (Some h) (Section c) = cut_line s decimals in_units h.letter (plane_of c)
view_line s decimals in_units heading spec = []

-- those of all views, in their order
abbrev pub cut_lines : Part → ℕ → Bool → List JobView → List ViewMarks → List ℕ
cut_lines s decimals in_units [] marks = []
cut_lines s decimals in_units (v ∷ views) [] = []
cut_lines s decimals in_units (v ∷ views) (m ∷ marks) = view_line s decimals in_units m.heading v.spec ++ cut_lines s decimals in_units views marks
