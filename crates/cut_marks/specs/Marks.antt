-- What tells the cuts of a job in its views.
use Rattle.std.specs.Prelude.{◌≡◌, ◌↔◌, ℕ, ◌++◌, Bool, IsTrue, List, [], ◌∷◌, None, Some, length, slice_get}
use Rattle.job_file.specs.declared.view.JobView.{JobView}
use Rattle.lattice.specs.declared.cuts.Cut.{Cut}
use Rattle.lattice.specs.declared.pieces.ViewSpec.{ViewSpec}
use Rattle.lattice.specs.declared.pieces.ViewSpec.TheVariants.{Plain, Section}
use Rattle.lattice.specs.Cuts.{plane_of}
use Rattle.geometry.specs.Parts.{Part}
use Rattle.sheet_plan.specs.declared.sheet.Sheet.{Sheet}
use Rattle.sheet_plan.specs.Boxes.{TakesBox, box_of}
use Rattle.cut_marks.specs.Areas.{area_of}
use Rattle.cut_marks.specs.Figures.{marks_in, heading_over}
use Rattle.cut_marks.specs.HeadingRooms.{room_over}
use Rattle.cut_marks.specs.Lanes.{AreLaned}
use Rattle.job_file.specs.ShownCuts.{cuts_in}
use Rattle.cut_marks.specs.Letters.{IsLetterOf}
use Rattle.cut_plane.specs.Loops.{HasSegment}
use Rattle.cut_marks.specs.Traces.{AreTraces}
use Rattle.sheet_layout.specs.Keeps.{with_sides}
use Rattle.sheet_layout.specs.declared.sides.Sides.{Sides}
use Rattle.sheet_plan.specs.declared.boxes.ViewBox.{ViewBox}
use Rattle.cut_marks.specs.declared.figures.Heading.{Heading}
use Rattle.cut_marks.specs.declared.views.ViewMarks.{ViewMarks}
use Rattle.cut_marks.specs.declared.ways.Laned.{Laned}
use Rattle.cut_marks.specs.declared.ways.Trace.{Trace}

-- The heading of the view with this number, over its box, with the letter of the cut with the other number. Its room goes by the sides that the
-- view asks for, which are shrunk or not.
pub record IsHeaded (sheet : Sheet) (sides : List Sides) (shrunk : Bool) (s : Part) (view number : ℕ) (c : Cut) (h : Heading) : Type 0 where
  pub box : ViewBox
  pub is_box : TakesBox sheet s.corners view (box_of box)
  pub asked : Sides
  pub listed : slice_get sides view ≡ Some asked
  pub lettered : IsLetterOf number h.letter
  pub over : h ≡ heading_over box (room_over shrunk asked box) h.letter (plane_of c) h.has_section
  pub section : IsTrue h.has_section ↔ HasSegment (plane_of c) s

-- The marks of the cuts' traces in the plain view with this number, and the letters that have no place. Marks stand within the view's box with the
-- sides that it asks for, which are shrunk or not.
pub record ArePlainMarks (sheet : Sheet) (sides : List Sides) (shrunk : Bool) (s : Part) (cuts : List Cut) (view : ℕ) (m : ViewMarks) : Type 0 where
  pub box : ViewBox
  pub asked : Sides
  pub traces : List Trace
  pub laned : List Laned
  pub is_box : TakesBox sheet s.corners view (box_of box)
  pub listed : slice_get sides view ≡ Some asked
  pub are_traces : AreTraces sheet s view cuts traces
  pub are_laned : AreLaned box (area_of (with_sides shrunk asked (box_of box))) traces laned m.left_out.items
  pub unheaded : m.heading ≡ None
  pub marks : m.marks.items ≡ marks_in box laned

-- a cut view has a heading alone
pub record IsCutView (sheet : Sheet) (sides : List Sides) (shrunk : Bool) (s : Part) (view number : ℕ) (c : Cut) (m : ViewMarks) : Type 0 where
  pub heading : Heading
  pub headed : m.heading ≡ Some heading
  pub is : IsHeaded sheet sides shrunk s view number c heading
  pub no_marks : m.marks.items ≡ []
  pub none_left_out : m.left_out.items ≡ []

-- what tells the cuts in the view with this number; the cut that it shows, if it shows one, has the other number
abbrev pub IsMarked : Sheet → List Sides → Bool → Part → List Cut → ℕ → ℕ → ViewSpec → ViewMarks → Type 0
IsMarked sheet sides shrunk s cuts view number (Plain d) m = ArePlainMarks sheet sides shrunk s cuts view m
IsMarked sheet sides shrunk s cuts view number (Section c) m = IsCutView sheet sides shrunk s view number c m

-- what tells these cuts in each view, in their order; a view's cut has as its number how many are shown before it
pub data AreMarked (sheet : Sheet) (sides : List Sides) (shrunk : Bool) (s : Part) (cuts : List Cut) : List JobView → List ViewMarks → Type 0 where
  none : AreMarked sheet sides shrunk s cuts [] []
  more : (views : List JobView) (v : JobView) (marks : List ViewMarks) (m : ViewMarks) → AreMarked sheet sides shrunk s cuts views marks
      → IsMarked sheet sides shrunk s cuts (length views) (length (cuts_in views)) v.spec m → AreMarked sheet sides shrunk s cuts (views ++ v ∷ []) (marks ++ m ∷ [])
