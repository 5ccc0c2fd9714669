-- A view has one raster of so many columns, and all corners are in it.
use Rattle.std.proofs.Common.{◌≡◌, ℕ, ◌+◌, ◌*◌, ◌/◌, ◌≤◌, ◌<◌, List, Any, All, Some, slice_get, unsigned_abs, sym, subst, ap, ◌∙◌, arith}
use Rattle.std.specs.Prelude.{ℤ, pos, ◌-ℤ◌, ◌≤ℤ◌}
use Rattle.std.proofs.lemmas.Int.{ints}
use Rattle.std.proofs.lemmas.Option.{slice_get_within, get_or_from_slice_get}
use Rattle.std.proofs.Math.Nat.{div-lt_iff_lt-mul}
use Rattle.integers.proofs.Comparisons.{same_of_both}
use Rattle.lattice.specs.declared.points.Corner.{Corner}
use Rattle.lattice.specs.Triple.{Triple}
use Rattle.lattice.specs.Points.{point_of, across_of, upward_of}
use Rattle.sheet_plan.specs.Extents.{IsLeast, IsGreatest}
use Rattle.out_grid.specs.Cells.{Raster, IsRaster}
use Rattle.out_grid.specs.inner.Places.{IsAt}

-- ---- least and greatest values
module _ {A : Type 0} (f : A → ℤ) (xs : List A) where
  least_below : (m : ℤ) (k : ℕ) (x : A) → IsLeast f xs m → slice_get xs k ≡ Some x → m ≤ℤ f x
  least_below m k x h at = subst (λ (y : A). m ≤ℤ f y) (get_or_from_slice_get xs k x x at) (h.bound k x (slice_get_within xs k x at))

  greatest_above : (m : ℤ) (k : ℕ) (x : A) → IsGreatest f xs m → slice_get xs k ≡ Some x → f x ≤ℤ m
  greatest_above m k x h at = subst (λ (y : A). f y ≤ℤ m) (get_or_from_slice_get xs k x x at) (h.bound k x (slice_get_within xs k x at))

  below_reached : (m n : ℤ) → Any (λ x. f x ≡ m) xs → All (λ x. n ≤ℤ f x) xs → n ≤ℤ m
  below_reached m n (k, x, within, at, is) bound = subst (λ (z : ℤ). n ≤ℤ z) (ap f at ∙ is) (bound k x within)

  above_reached : (m n : ℤ) → Any (λ x. f x ≡ m) xs → All (λ x. f x ≤ℤ n) xs → m ≤ℤ n
  above_reached m n (k, x, within, at, is) bound = subst (λ (z : ℤ). z ≤ℤ n) (ap f at ∙ is) (bound k x within)

  one_least : (m n : ℤ) → IsLeast f xs m → IsLeast f xs n → m ≡ n
  one_least m n h g = same_of_both m n (below_reached n m g.reached h.bound) (below_reached m n h.reached g.bound)

  one_greatest : (m n : ℤ) → IsGreatest f xs m → IsGreatest f xs n → m ≡ n
  one_greatest m n h g = same_of_both m n (above_reached m n h.reached g.bound) (above_reached n m g.reached h.bound)

-- ---- the raster
module _ (d : Triple) (corners : List Corner) (n : ℕ) where
  pub rasters_same : (r r' : Raster) → IsRaster d corners n r → IsRaster d corners n r' → r ≡ r'
  rasters_same r r' h g =
      let u = λ (c : Corner). across_of d (point_of c) in
      let v = λ (c : Corner). upward_of d (point_of c) in
      let left = one_least u corners h.extent.u_min g.extent.u_min h.reaches.leftmost g.reaches.leftmost in
      let right = one_greatest u corners h.extent.u_max g.extent.u_max h.reaches.rightmost g.reaches.rightmost in
      let bottom = one_least v corners h.extent.v_min g.extent.v_min h.reaches.lowest g.reaches.lowest in
      let top = one_greatest v corners h.extent.v_max g.extent.v_max h.reaches.topmost g.reaches.topmost in
      same r r' (h.left ∙ left ∙ sym g.left) (h.bottom ∙ bottom ∙ sym g.bottom)
      (h.width ∙ (λ i. (unsigned_abs (right i -ℤ left i) / n) + 1) ∙ sym g.width)
      (h.height ∙ (λ i. (unsigned_abs (top i -ℤ bottom i) / n) + 1) ∙ sym g.height)
    where
      same : (r r' : Raster) → r.left ≡ r'.left → r.bottom ≡ r'.bottom → r.width ≡ r'.width → r.height ≡ r'.height → r ≡ r'
      same r r' a b c e = λ i. record { left = a i; bottom = b i; width = c i; height = e i }

  module _ (r : Raster) (h : IsRaster d corners n r) where
    more_than_none : (x y : ℕ) → x ≡ y + 1 → 0 < x
    more_than_none x y e = omega arith

    pub wide : 0 < r.width
    wide = more_than_none r.width _ h.width

    pub high : 0 < r.height
    high = more_than_none r.height _ h.height

    pub place_from : (k : ℕ) (c : Corner) → slice_get corners k ≡ Some c → (r.left ≤ℤ across_of d (point_of c)) × (r.bottom ≤ℤ upward_of d (point_of c))
    place_from k c at = (
      subst (λ (z : ℤ). z ≤ℤ across_of d (point_of c)) (sym h.left) (least_below (λ x. across_of d (point_of x)) corners h.extent.u_min k c h.reaches.leftmost at),
      subst (λ (z : ℤ). z ≤ℤ upward_of d (point_of c)) (sym h.bottom) (least_below (λ x. upward_of d (point_of x)) corners h.extent.v_min k c h.reaches.lowest at),
    )

    -- so far above the least, in steps of which n reach beyond the greatest
    within : (least most start x : ℤ) (size u : ℕ) → 1 ≤ n → start ≡ least → size ≡ (unsigned_abs (most -ℤ least) / n) + 1 → pos u ≡ x -ℤ start → x ≤ℤ most → u / size < n
    within least most start x size u some e f at below =
        (div-lt_iff_lt-mul (more_than_none size _ f)).1 (reach (unsigned_abs (most -ℤ least)) u size (near least most start x u e at below) f)
      where
        near : (least most start x : ℤ) (u : ℕ) → start ≡ least → pos u ≡ x -ℤ start → x ≤ℤ most → u ≤ unsigned_abs (most -ℤ least)
        near least most start x u e at below = omega (arith, ints)

        beyond : (q u size : ℕ) → u < (q + 1) * n → size ≡ q + 1 → u < n * size
        beyond q u size l e = omega (arith, ap (λ (m : ℕ). n * m) e)

        reach : (span u size : ℕ) → u ≤ span → size ≡ (span / n) + 1 → u < n * size
        reach span u size l e =
            let over : span < ((span / n) + 1) * n = (div-lt_iff_lt-mul some).0 (omega arith) in
            beyond (span / n) u size (omega (arith, l, over)) e

    pub place_inside : (k : ℕ) (c : Corner) (u v : ℕ) → 1 ≤ n → slice_get corners k ≡ Some c → IsAt d r c u v → (u / r.width < n) × (v / r.height < n)
    place_inside k c u v some at place = (
      within h.extent.u_min h.extent.u_max r.left (across_of d (point_of c)) r.width u some h.left h.width place.across
          (greatest_above (λ x. across_of d (point_of x)) corners h.extent.u_max k c h.reaches.rightmost at),
      within h.extent.v_min h.extent.v_max r.bottom (upward_of d (point_of c)) r.height v some h.bottom h.height place.upward
          (greatest_above (λ x. upward_of d (point_of x)) corners h.extent.v_max k c h.reaches.topmost at),
    )
