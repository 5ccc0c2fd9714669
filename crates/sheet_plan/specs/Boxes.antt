-- The boxes of the views on a sheet: they keep apart and within the margins, and named views are in line.
use Rattle.std.specs.Prelude.{◌≡◌, ◌≢◌, ◌⊎◌, ℕ, Bool, true, false, IsTrue, ℤ, pos, ◌+ℤ◌, ◌-ℤ◌, ◌≤ℤ◌, List, Some, slice_get}
use Rattle.lattice.specs.declared.points.Corner.{Corner}
use Rattle.lattice.specs.Points.{of_dir}
use Rattle.job_file.specs.declared.job.Job.{Job}
use Rattle.job_file.specs.declared.view.JobView.{JobView}
use Rattle.job_file.specs.declared.view.Principal.{Principal}
use Rattle.job_file.specs.declared.view.Principal.TheVariants.{Front, Back, Left, Right, Above, Below}
use Rattle.sheet_plan.specs.declared.bounds.Extent.{Extent}
use Rattle.sheet_plan.specs.declared.boxes.ViewBox.{ViewBox}
use Rattle.sheet_plan.specs.declared.sheet.Sheet.{Sheet}
use Rattle.sheet_plan.specs.declared.sheet.Spread.{Spread}
use Rattle.sheet_plan.specs.Extents.{IsExtent, AreExtents}
use Rattle.sheet_plan.specs.Layout.{gap, margin, across_at, upward_at}
use Rattle.sheet_plan.specs.Numbers.{Measure, measure_of}
use Rattle.sheet_plan.specs.Sheets.{IsPlaceOf}

-- from left to right, and from top to bottom, since y goes down
pub record Box : Type 0 where
  pub left : ℤ
  pub right : ℤ
  pub top : ℤ
  pub bottom : ℤ

abbrev pub box_of : ViewBox → Box
box_of b = record { left = b.left; right = b.right; top = b.top; bottom = b.bottom }

-- what a view takes at this place, from its least to its greatest U and V
abbrev pub box_at : Measure → Spread → Extent → Box
box_at m place e =
    let d = of_dir place.d in
    record {
      left = place.x0 +ℤ across_at m d e.u_min;
      right = place.x0 +ℤ across_at m d e.u_max;
      top = place.y0 -ℤ upward_at m d e.v_max;
      bottom = place.y0 -ℤ upward_at m d e.v_min;
    }

-- the view with this number, which shows a part with these corners, takes this box
pub record TakesBox (sheet : Sheet) (corners : List Corner) (view : ℕ) (box : Box) : Type 0 where
  pub place : Spread
  pub extent : Extent
  pub stands : IsPlaceOf sheet view place
  pub reaches : IsExtent (of_dir place.d) corners extent
  pub is : box ≡ box_at (measure_of sheet.scale sheet.decimals) place extent

-- the same where only the views' extents are known
pub record IsBoxOf (sheet : Sheet) (extents : List Extent) (view : ℕ) (box : Box) : Type 0 where
  pub place : Spread
  pub extent : Extent
  pub stands : IsPlaceOf sheet view place
  pub reaches : slice_get extents view ≡ Some extent
  pub is : box ≡ box_at (measure_of sheet.scale sheet.decimals) place extent

-- the first is to the left of the second or above it, with the gap between them
abbrev pub BoxStandsBefore : Box → Box → Type 0
BoxStandsBefore a b = ((a.right +ℤ gap) ≤ℤ b.left) ⊎ ((a.bottom +ℤ gap) ≤ℤ b.top)

abbrev pub AreApart : Box → Box → Type 0
AreApart a b = BoxStandsBefore a b ⊎ BoxStandsBefore b a

-- no two views are nearer to one another than the gap
abbrev pub ViewsAreApart : List Extent → Sheet → Type 0
ViewsAreApart extents sheet = (i j : ℕ) (a b : Box) → i ≢ j → IsBoxOf sheet extents i a → IsBoxOf sheet extents j b → AreApart a b

-- the box is within the sheet's margins, and above the title
pub record IsWithinMargins (sheet : Sheet) (box : Box) : Type 0 where
  pub left : margin ≤ℤ box.left
  pub across : box.left ≤ℤ box.right
  pub right : box.right ≤ℤ (sheet.width -ℤ margin)
  pub top : margin ≤ℤ box.top
  pub down : box.top ≤ℤ box.bottom
  pub bottom : box.bottom ≤ℤ (sheet.height -ℤ pos 4000)

abbrev pub ViewsAreWithinMargins : List Extent → Sheet → Type 0
ViewsAreWithinMargins extents sheet = (i : ℕ) (box : Box) → IsBoxOf sheet extents i box → IsWithinMargins sheet box

-- the front view and those above and below it
abbrev pub is_in_front_column : Principal → Bool
is_in_front_column Front = true
is_in_front_column Back = false
is_in_front_column Left = false
is_in_front_column Right = false
is_in_front_column Above = true
is_in_front_column Below = true

-- the front view and those beside it
abbrev pub is_in_front_row : Principal → Bool
is_in_front_row Front = true
is_in_front_row Back = true
is_in_front_row Left = true
is_in_front_row Right = true
is_in_front_row Above = false
is_in_front_row Below = false

-- the view of this name stands at this place
pub record IsPlaceNamed (job : Job) (sheet : Sheet) (name : Principal) (place : Spread) : Type 0 where
  pub number : ℕ
  pub view : JobView
  pub listed : slice_get job.views.items number ≡ Some view
  pub named : view.named ≡ Some name
  pub stands : IsPlaceOf sheet number place

-- where the extents are those of one part, the origins of a column's views have equal x
abbrev pub StandInColumn : Job → List Extent → Sheet → Type 0
StandInColumn job extents sheet =
    (corners : List Corner) → AreExtents corners job.views.items extents → (m n : Principal) (p q : Spread) → IsTrue (is_in_front_column m) → IsTrue (is_in_front_column n)
    → IsPlaceNamed job sheet m p → IsPlaceNamed job sheet n q → p.x0 ≡ q.x0

-- and those of a row's views equal y
abbrev pub StandInRow : Job → List Extent → Sheet → Type 0
StandInRow job extents sheet =
    (corners : List Corner) → AreExtents corners job.views.items extents → (m n : Principal) (p q : Spread) → IsTrue (is_in_front_row m) → IsTrue (is_in_front_row n)
    → IsPlaceNamed job sheet m p → IsPlaceNamed job sheet n q → p.y0 ≡ q.y0
