-- A view takes one box.
use Rattle.std.proofs.Common.{◌≡◌, ℕ, List, Any, Some, Contains, sym, subst, ap, ◌∙◌, arith}
use Rattle.std.specs.Prelude.{ℤ, ◌+ℤ◌, ◌-ℤ◌, ◌≤ℤ◌}
use Rattle.std.proofs.lemmas.Int.{ints}
use Rattle.std.proofs.lemmas.List.Elements.{All-contains}
use Rattle.lattice.specs.declared.points.Corner.{Corner}
use Rattle.lattice.specs.Points.{of_dir, point_of, across_of, upward_of}
use Rattle.lattice.specs.Triple.{Triple}
use Rattle.sheet_plan.specs.Boxes.{Box, box_at, TakesBox}
use Rattle.sheet_plan.specs.Extents.{IsExtent, IsLeast, IsGreatest}
use Rattle.sheet_plan.specs.Layout.{across_at, upward_at}
use Rattle.sheet_plan.specs.Numbers.{Measure, measure_of, sheet_x, sheet_y}
use Rattle.sheet_plan.specs.Sheets.{IsPlaceOf}
use Rattle.sheet_plan.specs.declared.bounds.Extent.{Extent}
use Rattle.sheet_plan.specs.declared.sheet.Sheet.{Sheet}
use Rattle.sheet_plan.specs.declared.sheet.Spread.{Spread}

-- ---- a part has one extent in a direction
same_number : (a b : ℤ) → a ≤ℤ b → b ≤ℤ a → a ≡ b
same_number a b h k = omega (arith, ints)

module _ (f : Corner → ℤ) (corners : List Corner) (a b : ℤ) where
  least_below : IsLeast f corners a → IsLeast f corners b → a ≤ℤ b
  least_below h k =
      let (n, l, within, at, is) = k.reached in
      subst (λ (v : ℤ). a ≤ℤ v) is (All-contains (λ x. a ≤ℤ f x) corners l h.bound (n, within, at))

  greatest_above : IsGreatest f corners a → IsGreatest f corners b → b ≤ℤ a
  greatest_above h k =
      let (n, l, within, at, is) = k.reached in
      subst (λ (v : ℤ). v ≤ℤ a) is (All-contains (λ x. f x ≤ℤ a) corners l h.bound (n, within, at))

pub one_box : (m : Measure) (place : Spread) (corners : List Corner) (e k : Extent) → IsExtent (of_dir place.d) corners e → IsExtent (of_dir place.d) corners k → box_at m place e ≡ box_at m place k
one_box m place corners e k p q =
    let d : Triple = of_dir place.d in
    let u_min : e.u_min ≡ k.u_min = same_number _ _ (least_below _ corners _ _ p.leftmost q.leftmost) (least_below _ corners _ _ q.leftmost p.leftmost) in
    let u_max : e.u_max ≡ k.u_max = same_number _ _ (greatest_above _ corners _ _ q.rightmost p.rightmost) (greatest_above _ corners _ _ p.rightmost q.rightmost) in
    let v_min : e.v_min ≡ k.v_min = same_number _ _ (least_below _ corners _ _ p.lowest q.lowest) (least_below _ corners _ _ q.lowest p.lowest) in
    let v_max : e.v_max ≡ k.v_max = same_number _ _ (greatest_above _ corners _ _ q.topmost p.topmost) (greatest_above _ corners _ _ p.topmost q.topmost) in
    λ i. record {
      left = place.x0 +ℤ across_at m d (u_min i);
      right = place.x0 +ℤ across_at m d (u_max i);
      top = place.y0 -ℤ upward_at m d (v_max i);
      bottom = place.y0 -ℤ upward_at m d (v_min i);
    }

-- ---- a view stands at one place, so it takes one box
pub one_place : (sheet : Sheet) (view : ℕ) (p q : Spread) → IsPlaceOf sheet view p → IsPlaceOf sheet view q → p ≡ q
one_place sheet view p q here there = same (sym here ∙ there)
  where
    same : Some p ≡ Some q → p ≡ q
    same e = cc

pub takes_one : (sheet : Sheet) (corners : List Corner) (view : ℕ) (a b : Box) → TakesBox sheet corners view a → TakesBox sheet corners view b → a ≡ b
takes_one sheet corners view a b t u =
    let m : Measure = measure_of sheet.scale sheet.decimals in
    let same : t.place ≡ u.place = one_place sheet view t.place u.place t.stands u.stands in
    t.is ∙ ap (λ (p : Spread). box_at m p t.extent) same ∙ one_box m u.place corners t.extent u.extent (subst (λ (p : Spread). IsExtent (of_dir p.d) corners t.extent) same t.reaches) u.reaches ∙ sym u.is

-- ---- each side of the box is where the view shows a corner that comes first or last across or upward
pub record AreShownEnds (sheet : Sheet) (corners : List Corner) (view : ℕ) (box : Box) : Type 0 where
  pub place : Spread
  pub stands : IsPlaceOf sheet view place
  pub leftmost : (k : Corner) × Contains corners k × IsLeast (λ c. across_of (of_dir place.d) (point_of c)) corners (across_of (of_dir place.d) (point_of k))
      × (box.left ≡ sheet_x (measure_of sheet.scale sheet.decimals) (of_dir place.d) place.x0 (point_of k))
  pub rightmost : (k : Corner) × Contains corners k × IsGreatest (λ c. across_of (of_dir place.d) (point_of c)) corners (across_of (of_dir place.d) (point_of k))
      × (box.right ≡ sheet_x (measure_of sheet.scale sheet.decimals) (of_dir place.d) place.x0 (point_of k))
  pub topmost : (k : Corner) × Contains corners k × IsGreatest (λ c. upward_of (of_dir place.d) (point_of c)) corners (upward_of (of_dir place.d) (point_of k))
      × (box.top ≡ sheet_y (measure_of sheet.scale sheet.decimals) (of_dir place.d) place.y0 (point_of k))
  pub lowest : (k : Corner) × Contains corners k × IsLeast (λ c. upward_of (of_dir place.d) (point_of c)) corners (upward_of (of_dir place.d) (point_of k))
      × (box.bottom ≡ sheet_y (measure_of sheet.scale sheet.decimals) (of_dir place.d) place.y0 (point_of k))

-- of a least or greatest value, found at a corner, and of what depends on it
at_corner : (f : Corner → ℤ) (corners : List Corner) (Is : ℤ → Type 0) (side : ℤ) (shown : ℤ → ℤ) (m : ℤ) → Any (λ c. f c ≡ m) corners → Is m → side ≡ shown m
    → (k : Corner) × Contains corners k × Is (f k) × (side ≡ shown (f k))
at_corner f corners Is side shown m (n, k, within, at, is) h e = (k, (n, within, at), subst Is (sym is) h, e ∙ ap shown (sym is))

pub shown_ends : (sheet : Sheet) (corners : List Corner) (view : ℕ) (box : Box) → TakesBox sheet corners view box → AreShownEnds sheet corners view box
shown_ends sheet corners view box t =
    let m : Measure = measure_of sheet.scale sheet.decimals in
    let d : Triple = of_dir t.place.d in
    let x0 : ℤ = t.place.x0 in
    let y0 : ℤ = t.place.y0 in
    let across = λ (c : Corner). across_of d (point_of c) in
    let upward = λ (c : Corner). upward_of d (point_of c) in
    let x = λ (u : ℤ). x0 +ℤ across_at m d u in
    let y = λ (v : ℤ). y0 -ℤ upward_at m d v in
    record {
      place = t.place;
      stands = t.stands;
      leftmost = at_corner across corners (IsLeast across corners) _ x _ t.reaches.leftmost.reached t.reaches.leftmost (ap (λ (b : Box). b.left) t.is);
      rightmost = at_corner across corners (IsGreatest across corners) _ x _ t.reaches.rightmost.reached t.reaches.rightmost (ap (λ (b : Box). b.right) t.is);
      topmost = at_corner upward corners (IsGreatest upward corners) _ y _ t.reaches.topmost.reached t.reaches.topmost (ap (λ (b : Box). b.top) t.is);
      lowest = at_corner upward corners (IsLeast upward corners) _ y _ t.reaches.lowest.reached t.reaches.lowest (ap (λ (b : Box). b.bottom) t.is);
    }
