-- How much room each view of a job asks for around its box.
use Rattle.std.specs.Prelude.{ℕ, zero, suc, ◌+◌, ◌*◌, ◌/◌, ◌&&◌, ◌||◌, min, Bool, true, false, if◌then◌else◌, pos, List, [], ◌∷◌, length, slice_get, unwrap_or}
use Rattle.std.specs.Ordering.{int_eq}
use Rattle.dec_text.specs.declared.number.Length.{Length}
use Rattle.job_file.specs.declared.job.Job.{Job}
use Rattle.job_file.specs.declared.view.JobView.{JobView}
use Rattle.job_file.specs.ShownCuts.{cuts_in}
use Rattle.lattice.specs.Cuts.{Plane, plane_of, toward_of}
use Rattle.lattice.specs.Points.{of_dir}
use Rattle.lattice.specs.Triple.{Triple, dot}
use Rattle.lattice.specs.declared.cuts.Cut.{Cut}
use Rattle.lattice.specs.ShownCuts.{cuts_of}
use Rattle.lattice.specs.declared.pieces.ViewSpec.{ViewSpec}
use Rattle.lattice.specs.declared.pieces.ViewSpec.TheVariants.{Plain, Section}
use Rattle.sheet_layout.specs.declared.sides.Sides.{Sides}
use Rattle.text_fit.specs.Widths.{text_width}
use Rattle.cut_marks.specs.HeadingTexts.{front_text}
use Rattle.cut_marks.specs.Lanes.{same}
use Rattle.cut_marks.specs.Letters.{letters}
use Rattle.cut_marks.specs.Traces.{is_forward, is_upright, looks}
use Rattle.cut_marks.specs.declared.figures.Heading.{Heading}

-- the letter of the cut with this number
abbrev pub letter_at : ℕ → ℕ
letter_at number = unwrap_or (slice_get letters number) 0

-- a heading with this letter, wherever it stands, of a cut that shows a section
abbrev pub plain_heading : ℕ → Plane → Heading
plain_heading letter c = record { letter = letter; axis = c.axis; at = c.at; x = pos 0; y = pos 0; room = 0; has_section = true }

-- how wide a text is in letters of 5 mm, rounded up, but no wider than the widest sheet
abbrev pub wide_in : List ℕ → ℕ
wide_in text = min 118900 ((text_width text * 500 + 999) / 1000)

-- the width of a heading without its title, as A-A (y = 10), and 5 mm
abbrev pub asked_width : ℕ → Length → ℕ → Plane → ℕ
asked_width decimals unit letter c = 500 + wide_in (front_text decimals unit (plain_heading letter c))

-- 7.5 mm on each side, and this width with both sides
abbrev pub sides_in : ℕ → Sides
sides_in width = record { left = 750; right = 750; top = 750; bottom = 750; width = width }

-- ---- the marks of a plain view
-- the direction is along an axis
abbrev pub is_axial : Triple → Bool
is_axial d = (int_eq d.x (pos 0) && int_eq d.y (pos 0)) || ((int_eq d.x (pos 0) && int_eq d.z (pos 0)) || (int_eq d.y (pos 0) && int_eq d.z (pos 0)))

-- the view along d may have a trace of the cut, whose viewer looks this way: the direction is along an axis, and the cut's is across it
abbrev pub may_look : Triple → Bool → Bool → Cut → Bool
may_look d upright forward c =
    (is_axial d && int_eq (dot d (toward_of (plane_of c))) (pos 0))
    && (same upright (is_upright (looks d (plane_of c))) && same forward (is_forward (looks d (plane_of c))))

-- how many cuts may
abbrev pub looking : Triple → Bool → Bool → List Cut → ℕ
looking d upright forward [] = 0
looking d upright forward (c ∷ cuts) = (if may_look d upright forward c then 1 else 0) + looking d upright forward cuts

-- as many lanes as there may be traces, but three at most; and three where viewers look both ways
abbrev pub lanes_for : ℕ → ℕ → ℕ
lanes_for zero back = min 3 back
lanes_for (suc n) zero = min 3 (suc n)
lanes_for (suc n) (suc m) = 3

-- marks in the first lane take 10 mm, and each lane 6.2 mm more
abbrev pub lane_side : ℕ → ℕ
lane_side zero = 750
lane_side (suc n) = 1000 + 620 * n

abbrev pub side_across : Triple → Bool → List Cut → ℕ
side_across d upright cuts = lane_side (lanes_for (looking d upright true cuts) (looking d upright false cuts))

-- upright traces have their ends above and beneath the view, level ones to the left and to the right
abbrev pub marked_sides : Triple → List Cut → Sides
marked_sides d cuts =
    record { left = side_across d false cuts; right = side_across d false cuts; top = side_across d true cuts; bottom = side_across d true cuts; width = 0 }

-- ---- a job
-- a plain view asks for the marks of these cuts, and the view of a cut for its heading's width; so many cuts are shown before it
abbrev pub sides_of : ℕ → Length → List Cut → ℕ → ViewSpec → Sides
sides_of decimals unit cuts number (Plain d) = marked_sides (of_dir d) cuts
sides_of decimals unit cuts number (Section c) = sides_in (asked_width decimals unit (letter_at number) (plane_of c))

abbrev pub sides_from : ℕ → Length → List Cut → ℕ → List JobView → List Sides
sides_from decimals unit cuts number [] = []
sides_from decimals unit cuts number (v ∷ vs) = sides_of decimals unit cuts number v.spec ∷ sides_from decimals unit cuts (number + length (cuts_of v.spec)) vs

-- all views of a job, in their order
abbrev pub sides_for : Job → List Sides
sides_for job = sides_from job.decimals job.unit (cuts_in job.views.items) 0 job.views.items
