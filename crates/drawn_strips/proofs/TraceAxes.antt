-- When corners are on both sides of the plane of a cut, by those that are first and last on its axis.
use Rattle.std.proofs.Common.{◌≡◌, ◌⊎◌, inl, inr, ◌↔◌, ℕ, ◌<◌, ◌≤◌, ◌+◌, Bool, true, false, IsTrue, List, All, length, take, slice_get, Some, Contains, sym, subst, arith}
use Rattle.std.specs.Prelude.{ℤ, neg_ℤ, ◌<ℤ◌, ◌≤ℤ◌}
use Rattle.std.proofs.lemmas.Int.{ints}
use Rattle.std.proofs.lemmas.List.{take_all}
use Rattle.std.proofs.lemmas.List.Elements.{All-contains, All-more, All-weaker, All-same}
use Rattle.std.proofs.lemmas.Option.{slice_get_within, get_or_from_slice_get}
use Rattle.integers.proofs.Logic.{↔-trans}
use Rattle.lattice.specs.declared.points.Axis.{Axis}
use Rattle.lattice.specs.declared.points.Corner.{Corner}
use Rattle.lattice.specs.Cuts.{Plane}
use Rattle.lattice.specs.Points.{point_of}
use Rattle.lattice.proofs.CutSides.{corner_beyond, corner_before, height_high, height_low}
use Rattle.lattice.specs.Axes.{coordinate_of}
use Rattle.geometry.specs.Traces.{GoesThrough}
use Rattle.drawn_strips.specs.Traces.{IsFirstOn, IsLastOn}

-- ---- corners on both sides of a plane
module _ (axis : Axis) (at : ℤ) (corners : List Corner) (first last : Corner) (is_first : IsFirstOn axis corners first) (is_last : IsLastOn axis corners last) where
  abbrev high : Plane
  high = record { axis = axis; at = at; from_high = true }

  abbrev low : Plane
  low = record { axis = axis; at = at; from_high = false }

  abbrev a : ℤ
  a = coordinate_of axis (point_of first)

  abbrev b : ℤ
  b = coordinate_of axis (point_of last)

  turn_less : (m n : ℤ) → m <ℤ n → neg_ℤ n <ℤ neg_ℤ m
  turn_less m n h = omega (arith, ints)

  turn_most : (m n : ℤ) → m ≤ℤ n → neg_ℤ n ≤ℤ neg_ℤ m
  turn_most m n h = omega (arith, ints)

  less_back : (m n : ℤ) → neg_ℤ n <ℤ neg_ℤ m → m <ℤ n
  less_back m n h = omega (arith, ints)

  most_back : (m n : ℤ) → neg_ℤ n ≤ℤ neg_ℤ m → m ≤ℤ n
  most_back m n h = omega (arith, ints)

  most_less : (m n k : ℤ) → m ≤ℤ n → n <ℤ k → m <ℤ k
  most_less m n k h g = omega (arith, ints)

  less_most : (m n k : ℤ) → m <ℤ n → n ≤ℤ k → m <ℤ k
  less_most m n k h g = omega (arith, ints)

  most_most : (m n k : ℤ) → m ≤ℤ n → n ≤ℤ k → m ≤ℤ k
  most_most m n k h g = omega (arith, ints)

  bound_first : (k : Corner) → Contains corners k → a ≤ℤ coordinate_of axis (point_of k)
  bound_first k here = All-contains (λ l. a ≤ℤ coordinate_of axis (point_of l)) corners k is_first.bound here

  bound_last : (k : Corner) → Contains corners k → coordinate_of axis (point_of k) ≤ℤ b
  bound_last k here = All-contains (λ l. coordinate_of axis (point_of l) ≤ℤ b) corners k is_last.bound here

  pub sides_high : GoesThrough high corners ↔ ((a <ℤ at) × (at ≤ℤ b))
  sides_high = (
    λ h.
        let (k, here, before) = h.before in
        let (l, too, beyond) = h.beyond in (
          most_less a _ at (bound_first l too) (subst (λ (v : ℤ). v <ℤ at) (height_high axis at l) ((corner_beyond high l).0 beyond)),
          most_most at _ b (subst (λ (v : ℤ). at ≤ℤ v) (height_high axis at k) ((corner_before high k).0 before)) (bound_last k here),
        ),
    λ (less, most). record {
      before = (last, is_last.listed, (corner_before high last).1 (subst (λ (v : ℤ). at ≤ℤ v) (sym (height_high axis at last)) most));
      beyond = (first, is_first.listed, (corner_beyond high first).1 (subst (λ (v : ℤ). v <ℤ at) (sym (height_high axis at first)) less));
    },
  )

  pub sides_low : GoesThrough low corners ↔ ((a ≤ℤ at) × (at <ℤ b))
  sides_low = (
    λ h.
        let (k, here, before) = h.before in
        let (l, too, beyond) = h.beyond in (
          most_most a _ at (bound_first k here) (most_back _ at (subst (λ (v : ℤ). neg_ℤ at ≤ℤ v) (height_low axis at k) ((corner_before low k).0 before))),
          less_most at _ b (less_back at _ (subst (λ (v : ℤ). v <ℤ neg_ℤ at) (height_low axis at l) ((corner_beyond low l).0 beyond))) (bound_last l too),
        ),
    λ (most, less). record {
      before = (first, is_first.listed, (corner_before low first).1 (subst (λ (v : ℤ). neg_ℤ at ≤ℤ v) (sym (height_low axis at first)) (turn_most a at most)));
      beyond = (last, is_last.listed, (corner_beyond low last).1 (subst (λ (v : ℤ). v <ℤ neg_ℤ at) (sym (height_low axis at last)) (turn_less at b less)));
    },
  )

-- what the tests of the two numbers say of the cut
module _ (c : Plane) (corners : List Corner) (first last : Corner) (axis : Axis) (at least most : ℤ) (r : Bool) (axis_is : axis ≡ c.axis) (at_is : at ≡ c.at)
    (least_is : least ≡ coordinate_of axis (point_of first)) (most_is : most ≡ coordinate_of axis (point_of last))
    (is_first : IsFirstOn axis corners first) (is_last : IsLastOn axis corners last) where
  abbrev plane : Bool → Plane
  plane b = record { axis = axis; at = at; from_high = b }

  same : (b : Bool) → c.from_high ≡ b → plane b ≡ c
  same b e = λ t. record { axis = axis_is t; at = at_is t; from_high = sym e t }

  pub told_high : c.from_high ≡ true → IsTrue r ↔ ((least <ℤ at) × (at ≤ℤ most)) → IsTrue r ↔ GoesThrough c corners
  told_high e tells = subst (λ (p : Plane). IsTrue r ↔ GoesThrough p corners) (same true e)
      (↔-trans tells (subst (λ (v : ℤ). ((v <ℤ at) × (at ≤ℤ most)) ↔ GoesThrough (plane true) corners) (sym least_is)
      (subst (λ (v : ℤ). ((coordinate_of axis (point_of first) <ℤ at) × (at ≤ℤ v)) ↔ GoesThrough (plane true) corners) (sym most_is)
      (let sides = sides_high axis at corners first last is_first is_last in (sides.1, sides.0)))))

  pub told_low : c.from_high ≡ false → IsTrue r ↔ ((least ≤ℤ at) × (at <ℤ most)) → IsTrue r ↔ GoesThrough c corners
  told_low e tells = subst (λ (p : Plane). IsTrue r ↔ GoesThrough p corners) (same false e)
      (↔-trans tells (subst (λ (v : ℤ). ((v ≤ℤ at) × (at <ℤ most)) ↔ GoesThrough (plane false) corners) (sym least_is)
      (subst (λ (v : ℤ). ((coordinate_of axis (point_of first) ≤ℤ at) × (at <ℤ v)) ↔ GoesThrough (plane false) corners) (sym most_is)
      (let sides = sides_low axis at corners first last is_first is_last in (sides.1, sides.0)))))

-- ---- the first and the last corner of a list, found one after the other
pub record IsFirstSoFar (axis : Axis) (corners : List Corner) (n : ℕ) (k : Corner) : Type 0 where
  pub listed : Contains corners k
  pub bound : All (λ l. coordinate_of axis (point_of k) ≤ℤ coordinate_of axis (point_of l)) (take n corners)

pub record IsLastSoFar (axis : Axis) (corners : List Corner) (n : ℕ) (k : Corner) : Type 0 where
  pub listed : Contains corners k
  pub bound : All (λ l. coordinate_of axis (point_of l) ≤ℤ coordinate_of axis (point_of k)) (take n corners)

module _ (axis : Axis) (corners : List Corner) where
  at_corner : (n : ℕ) (k : Corner) → slice_get corners n ≡ Some k → Contains corners k
  at_corner n k at = (n, slice_get_within corners n k at, get_or_from_slice_get corners n k k at)

  pub first_none : (n : ℕ) (k : Corner) → slice_get corners n ≡ Some k → IsFirstSoFar axis corners 0 k
  first_none n k at = record { listed = at_corner n k at; bound = λ i d h. absurd (omega arith) }

  pub last_none : (n : ℕ) (k : Corner) → slice_get corners n ≡ Some k → IsLastSoFar axis corners 0 k
  last_none n k at = record { listed = at_corner n k at; bound = λ i d h. absurd (omega arith) }

  through : (a b c : ℤ) → a ≤ℤ b → b ≤ℤ c → a ≤ℤ c
  through a b c h g = omega (arith, ints)

  one_listed : (n : ℕ) (k l m : Corner) → Contains corners k → slice_get corners n ≡ Some l → (m ≡ k) ⊎ (m ≡ l) → Contains corners m
  one_listed n k l m here at (inl e) = subst (Contains corners) (sym e) here
  one_listed n k l m here at (inr e) = subst (Contains corners) (sym e) (at_corner n l at)

  pub first_more : (n : ℕ) (k l m : Corner) → slice_get corners n ≡ Some l → (m ≡ k) ⊎ (m ≡ l) → coordinate_of axis (point_of m) ≤ℤ coordinate_of axis (point_of k)
      → coordinate_of axis (point_of m) ≤ℤ coordinate_of axis (point_of l) → IsFirstSoFar axis corners n k → IsFirstSoFar axis corners (n + 1) m
  first_more n k l m at one old new h = record {
    listed = one_listed n k l m h.listed at one;
    bound = All-more (λ x. coordinate_of axis (point_of m) ≤ℤ coordinate_of axis (point_of x)) corners n l (slice_get_within corners n l at)
        (All-weaker (λ x. coordinate_of axis (point_of k) ≤ℤ coordinate_of axis (point_of x)) (λ x. coordinate_of axis (point_of m) ≤ℤ coordinate_of axis (point_of x))
        (λ x r. through _ _ _ old r) (take n corners) h.bound)
        (subst (λ (x : Corner). coordinate_of axis (point_of m) ≤ℤ coordinate_of axis (point_of x)) (sym (get_or_from_slice_get corners n l l at)) new);
  }

  pub last_more : (n : ℕ) (k l m : Corner) → slice_get corners n ≡ Some l → (m ≡ k) ⊎ (m ≡ l) → coordinate_of axis (point_of k) ≤ℤ coordinate_of axis (point_of m)
      → coordinate_of axis (point_of l) ≤ℤ coordinate_of axis (point_of m) → IsLastSoFar axis corners n k → IsLastSoFar axis corners (n + 1) m
  last_more n k l m at one old new h = record {
    listed = one_listed n k l m h.listed at one;
    bound = All-more (λ x. coordinate_of axis (point_of x) ≤ℤ coordinate_of axis (point_of m)) corners n l (slice_get_within corners n l at)
        (All-weaker (λ x. coordinate_of axis (point_of x) ≤ℤ coordinate_of axis (point_of k)) (λ x. coordinate_of axis (point_of x) ≤ℤ coordinate_of axis (point_of m))
        (λ x r. through _ _ _ r old) (take n corners) h.bound)
        (subst (λ (x : Corner). coordinate_of axis (point_of x) ≤ℤ coordinate_of axis (point_of m)) (sym (get_or_from_slice_get corners n l l at)) new);
  }

  pub first_whole : (n : ℕ) (k : Corner) → length corners ≤ n → IsFirstSoFar axis corners n k → IsFirstOn axis corners k
  first_whole n k all h = record { listed = h.listed; bound = All-same (λ l. coordinate_of axis (point_of k) ≤ℤ coordinate_of axis (point_of l)) corners (take n corners) (sym (take_all n corners all)) h.bound }

  pub last_whole : (n : ℕ) (k : Corner) → length corners ≤ n → IsLastSoFar axis corners n k → IsLastOn axis corners k
  last_whole n k all h = record { listed = h.listed; bound = All-same (λ l. coordinate_of axis (point_of l) ≤ℤ coordinate_of axis (point_of k)) corners (take n corners) (sym (take_all n corners all)) h.bound }
