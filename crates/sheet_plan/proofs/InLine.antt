-- The origins of the views in the front view's column have equal x, and those of the views in its row equal y.
use Rattle.std.proofs.Common.{◌≡◌, ℕ, Bool, true, false, List, Some, refl, sym, ap, ◌∙◌, subst}
use Rattle.std.specs.Prelude.{ℤ, pos, ◌+ℤ◌, ◌-ℤ◌, ◌≤ℤ◌, IsTrue}
use Rattle.integers.proofs.Comparisons.{same_of_both}
use Rattle.lattice.specs.declared.pieces.ViewSpec.{ViewSpec}
use Rattle.lattice.specs.declared.pieces.ViewSpec.TheVariants.{Plain, Section}
use Rattle.lattice.specs.declared.points.Corner.{Corner}
use Rattle.lattice.specs.Points.{of_dir, point_of, scaled}
use Rattle.lattice.specs.Triple.{Triple, dot, right_axis, up_axis}
use Rattle.job_file.specs.Names.{direction_of}
use Rattle.job_file.specs.Seen.{direction_seen}
use Rattle.job_file.specs.Views.{plain_direction}
use Rattle.job_file.specs.declared.job.Job.{Job}
use Rattle.job_file.specs.declared.view.JobView.{JobView}
use Rattle.job_file.specs.declared.view.Principal.{Principal}
use Rattle.job_file.specs.declared.view.Principal.TheVariants.{Front, Back, Left, Right, Above, Below}
use Rattle.sheet_plan.specs.Boxes.{is_in_front_column, is_in_front_row, IsPlaceNamed, StandInColumn, StandInRow}
use Rattle.sheet_plan.specs.Extents.{IsLeast, IsGreatest, IsExtent, AreExtents}
use Rattle.sheet_plan.specs.Layout.{margin, cell_of, sum_below, across_at, upward_at, row_stride, column_stride, cell_x, cell_y}
use Rattle.sheet_plan.specs.Numbers.{square_of, sheet_length}
use Rattle.sheet_plan.specs.Plans.{job_shapes, IsSheetAt}
use Rattle.sheet_plan.specs.declared.bounds.Extent.{Extent}
use Rattle.sheet_plan.specs.declared.cells.Shape.{Shape}
use Rattle.sheet_plan.specs.declared.sheet.Sheet.{Sheet}
use Rattle.sheet_plan.specs.declared.sheet.Spread.{Spread}
use Rattle.sheet_plan.proofs.BoxPlaces.{measure_at, view_at}
use Rattle.sheet_plan.proofs.Listed.{zip_at}

-- ---- there is one least and one greatest value
module _ {A : Type 0} (f : A → ℤ) (xs : List A) where
  below : (m n : ℤ) → IsLeast f xs m → IsLeast f xs n → n ≤ℤ m
  below m n h g = let r = h.reached in subst (λ (z : ℤ). n ≤ℤ z) (ap f r.3 ∙ r.4) (g.bound r.0 r.1 r.2)

  one_least : (m n : ℤ) → IsLeast f xs m → IsLeast f xs n → m ≡ n
  one_least m n h g = same_of_both m n (below n m g h) (below m n h g)

  above : (m n : ℤ) → IsGreatest f xs m → IsGreatest f xs n → m ≤ℤ n
  above m n h g = let r = h.reached in subst (λ (z : ℤ). z ≤ℤ n) (ap f r.3 ∙ r.4) (g.bound r.0 r.1 r.2)

  one_greatest : (m n : ℤ) → IsGreatest f xs m → IsGreatest f xs n → m ≡ n
  one_greatest m n h g = same_of_both m n (above m n h g) (above n m g h)

-- ---- a column's views have one right axis, and a row's views one up axis
abbrev level : Triple
level = record { x = pos 1; y = pos 0; z = pos 0 }

abbrev upright : Triple
upright = record { x = pos 0; y = pos 0; z = pos 1 }

column_axis : (name : Principal) → IsTrue (is_in_front_column name) → right_axis (direction_of name) ≡ level
column_axis Front h = refl
column_axis Back h = absurd (cc)
column_axis Left h = absurd (cc)
column_axis Right h = absurd (cc)
column_axis Above h = refl
column_axis Below h = refl

row_axis : (name : Principal) → IsTrue (is_in_front_row name) → up_axis (direction_of name) ≡ upright
row_axis Front h = refl
row_axis Back h = refl
row_axis Left h = refl
row_axis Right h = refl
row_axis Above h = absurd (cc)
row_axis Below h = absurd (cc)

-- and their cells begin at one x, or at one y
column_begins : (shapes : List Shape) (i : ℕ) (third : Bool) (name : Principal) → IsTrue (is_in_front_column name)
    → cell_x shapes i (cell_of third (Some name)) ≡ margin +ℤ sum_below (column_stride shapes) 1
column_begins shapes i third Front h = refl
column_begins shapes i third Back h = absurd (cc)
column_begins shapes i third Left h = absurd (cc)
column_begins shapes i third Right h = absurd (cc)
column_begins shapes i true Above h = refl
column_begins shapes i false Above h = refl
column_begins shapes i true Below h = refl
column_begins shapes i false Below h = refl

row_begins : (shapes : List Shape) (third : Bool) (name : Principal) → IsTrue (is_in_front_row name) → cell_y shapes (cell_of third (Some name)) ≡ margin +ℤ sum_below (row_stride shapes) 1
row_begins shapes third Front h = refl
row_begins shapes third Back h = refl
row_begins shapes true Left h = refl
row_begins shapes false Left h = refl
row_begins shapes true Right h = refl
row_begins shapes false Right h = refl
row_begins shapes third Above h = absurd (cc)
row_begins shapes third Below h = absurd (cc)

-- ---- a named view is seen from its name's direction
seen_from : (spec : ViewSpec) (t : Triple) → plain_direction spec ≡ Some t → direction_seen spec ≡ t
seen_from (Plain d) t h = cc
seen_from (Section c) t h = cc

named_direction : (v : JobView) (name : Principal) → v.named ≡ Some name → direction_seen v.spec ≡ direction_of name
named_direction v name h = seen_from v.spec (direction_of name) (v.directed name h)

-- how a named view reaches, and where its origin stands
record IsNamedAt (job : Job) (num den : ℕ) (shapes : List Shape) (corners : List Corner) (name : Principal) (i : ℕ) (place : Spread) : Type 0 where
  pub extent : Extent
  pub reaches : IsExtent (direction_of name) corners extent
  pub x : place.x0 ≡ cell_x shapes i (cell_of job.third (Some name)) -ℤ across_at (measure_at job num den) (direction_of name) extent.u_min
  pub y : place.y0 ≡ cell_y shapes (cell_of job.third (Some name)) +ℤ upward_at (measure_at job num den) (direction_of name) extent.v_max

-- the same by the axis that a column's or a row's views have in common
module _ (job : Job) (num den : ℕ) (shapes : List Shape) (corners : List Corner) (name : Principal) (i : ℕ) (place : Spread) (n : IsNamedAt job num den shapes corners name i place) where
  column_x : IsTrue (is_in_front_column name)
      → place.x0 ≡ (margin +ℤ sum_below (column_stride shapes) 1) -ℤ sheet_length (measure_at job num den) (square_of level) n.extent.u_min (pos 1)
  column_x one = n.x ∙ (λ k. column_begins shapes i job.third name one k -ℤ sheet_length (measure_at job num den) (square_of (column_axis name one k)) n.extent.u_min (pos 1))

  column_least : IsTrue (is_in_front_column name) → IsLeast (λ c. dot level (scaled (point_of c))) corners n.extent.u_min
  column_least one = subst (λ (r : Triple). IsLeast (λ c. dot r (scaled (point_of c))) corners n.extent.u_min) (column_axis name one) n.reaches.leftmost

  row_y : IsTrue (is_in_front_row name)
      → place.y0 ≡ (margin +ℤ sum_below (row_stride shapes) 1) +ℤ sheet_length (measure_at job num den) (square_of upright) n.extent.v_max (pos 1)
  row_y one = n.y ∙ (λ k. row_begins shapes job.third name one k +ℤ sheet_length (measure_at job num den) (square_of (row_axis name one k)) n.extent.v_max (pos 1))

  row_greatest : IsTrue (is_in_front_row name) → IsGreatest (λ c. dot upright (scaled (point_of c))) corners n.extent.v_max
  row_greatest one = subst (λ (r : Triple). IsGreatest (λ c. dot r (scaled (point_of c))) corners n.extent.v_max) (row_axis name one) n.reaches.topmost

module _ (job : Job) (extents : List Extent) (num den : ℕ) (sheet : Sheet) (h : IsSheetAt job extents num den sheet) where
  named_at : (corners : List Corner) → AreExtents corners job.views.items extents → (name : Principal) (place : Spread) (n : IsPlaceNamed job sheet name place) → IsNamedAt job num den (job_shapes job extents num den) corners name n.number place
  named_at corners seen name place n =
      let v = view_at job extents num den sheet h n.number place n.stands in
      let s = v.shape_is in
      let e = s.extent in
      let m = measure_at job num den in
      let same : s.view ≡ n.view = cc in
      let named : s.view.named ≡ Some name = ap (λ (w : JobView). w.named) same ∙ n.named in
      let sight = named_direction s.view name named in
      let extent = zip_at (λ (w : JobView) (x : Extent). IsExtent (direction_seen w.spec) corners x) job.views.items extents seen n.number s.view e s.listed s.reaches in
      let d : of_dir e.d ≡ direction_of name = extent.direction ∙ sight in
      let cell : v.shape.cell ≡ cell_of job.third (Some name) = ap (λ (z : Shape). z.cell) s.is ∙ ap (cell_of job.third) named in
      let left : v.shape.left ≡ across_at m (direction_of name) e.u_min = ap (λ (z : Shape). z.left) s.is ∙ ap (λ (t : Triple). across_at m t e.u_min) d in
      let top : v.shape.top ≡ upward_at m (direction_of name) e.v_max = ap (λ (z : Shape). z.top) s.is ∙ ap (λ (t : Triple). upward_at m t e.v_max) d in
      record {
        extent = e;
        reaches = subst (λ (t : Triple). IsExtent t corners e) sight extent;
        x = v.in_cell.x ∙ (λ k. cell_x (job_shapes job extents num den) n.number (cell k) -ℤ left k);
        y = v.in_cell.y ∙ (λ k. cell_y (job_shapes job extents num den) (cell k) +ℤ top k);
      }

  pub stand_in_column : StandInColumn job extents sheet
  stand_in_column corners seen m n p q of_m of_n at_m at_n =
      let shapes = job_shapes job extents num den in
      let a = named_at corners seen m p at_m in
      let b = named_at corners seen n q at_n in
      let one = one_least (λ c. dot level (scaled (point_of c))) corners a.extent.u_min b.extent.u_min (column_least job num den shapes corners m at_m.number p a of_m) (column_least job num den shapes corners n at_n.number q b of_n) in
      column_x job num den shapes corners m at_m.number p a of_m
      ∙ ap (λ (u : ℤ). (margin +ℤ sum_below (column_stride shapes) 1) -ℤ sheet_length (measure_at job num den) (square_of level) u (pos 1)) one
      ∙ sym (column_x job num den shapes corners n at_n.number q b of_n)

  pub stand_in_row : StandInRow job extents sheet
  stand_in_row corners seen m n p q of_m of_n at_m at_n =
      let shapes = job_shapes job extents num den in
      let a = named_at corners seen m p at_m in
      let b = named_at corners seen n q at_n in
      let one = one_greatest (λ c. dot upright (scaled (point_of c))) corners a.extent.v_max b.extent.v_max (row_greatest job num den shapes corners m at_m.number p a of_m) (row_greatest job num den shapes corners n at_n.number q b of_n) in
      row_y job num den shapes corners m at_m.number p a of_m
      ∙ ap (λ (v : ℤ). (margin +ℤ sum_below (row_stride shapes) 1) +ℤ sheet_length (measure_at job num den) (square_of upright) v (pos 1)) one
      ∙ sym (row_y job num den shapes corners n at_n.number q b of_n)
