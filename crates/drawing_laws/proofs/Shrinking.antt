-- Near a point on the way to another there is a point that is beside any lines, and of any pieces only on those that go along the way and over both points.
use Rattle.std.proofs.Common.{◌≡◌, ◌⊎◌, inl, inr, ℕ, zero, suc, ◌+◌, ◌<◌, List, [], ◌∷◌, Contains, refl, sym, subst, ◌∙◌, unsigned_abs, arith}
use Rattle.std.specs.Prelude.{ℤ, pos, negsuc, ◌+ℤ◌, ◌-ℤ◌, ◌*ℤ◌, ◌<ℤ◌}
use Rattle.std.proofs.lemmas.Int.{ints}
use Rattle.integers.proofs.Comparisons.{gap_of_same}
use Rattle.integers.proofs.Ring.{var, con, ◌⊕◌, ◌⊖◌, ◌⊗◌, ring, less_by, gap_of_less, same_of_gap}
use Rattle.integers.proofs.Weighted.{after_first, before_second}
use Rattle.lattice.specs.Triple.{Triple, dot}
use Rattle.lattice.specs.Points.{Point, IsPoint, of_spot, scaled, OnOneSight}
use Rattle.lattice.specs.declared.points.Spot.{Spot}
use Rattle.lattice.specs.declared.pieces.Piece.{Piece}
use Rattle.lattice.proofs.OnLines.{product_of_sum}
use Rattle.geometry.specs.Pieces.{spot_sum, LiesOn, IsBefore}
use Rattle.geometry.proofs.OnLines.{sum_is_point}
use Rattle.line_merge.proofs.Sights.{not_seen}
use Rattle.drawing_laws.proofs.Sparse.{ViewLine, IsOnViewLine, IsBeside}
use Rattle.drawing_laws.proofs.ViewLines.{IsProper, axis, rest_at, rest_of_sum, on_sum, on_between, on_too, line_through, through_first, through_second, through_proper}
use Rattle.drawing_laws.proofs.ViewOrder.{IsUpTo, three_ways, before_up_to, not_back, up_to_of_lies}

-- ---- from some number on
abbrev pub FromSome : (ℕ → Type 0) → Type 0
FromSome Q = (n : ℕ) × ((k : ℕ) → n < k → Q k)

both : (P Q : ℕ → Type 0) → FromSome P → FromSome Q → FromSome (λ k. P k × Q k)
both P Q (m, p) (n, q) = (m + n, λ k h. (p k (omega arith), q k (omega arith)))

pub each : {A : Type 0} (Q : A → ℕ → Type 0) → ((x : A) → FromSome (Q x)) → (xs : List A) → FromSome (λ k. (x : A) → Contains xs x → Q x k)
each Q f [] = (0, λ k h x (i, within, e). absurd (omega arith))
each {A} Q f (y ∷ xs) = let (n, h) = both (Q y) (λ k. (x : A) → Contains xs x → Q x k) (f y) (each Q f xs) in (n, λ k less x there. by k (h k less) x there)
  where
    by : (k : ℕ) → Q y k × ((x : A) → Contains xs x → Q x k) → (x : A) → Contains (y ∷ xs) x → Q x k
    by k (first, rest) x (zero, within, e) = subst (λ (z : A). Q z k) e first
    by k (first, rest) x (suc i, within, e) = rest x (i, omega (arith, within), e)

-- ---- numbers
none_of_far : (k : ℕ) (x y : ℤ) → unsigned_abs y < k → (pos k *ℤ x) +ℤ (pos 1 *ℤ y) ≡ pos 0 → x ≡ pos 0
none_of_far k (pos zero) y h e = refl
none_of_far k (pos (suc n)) y h e = absurd (omega (arith, ints))
none_of_far k (negsuc n) y h e = absurd (omega (arith, ints))

none_besides : (k : ℕ) (x y : ℤ) → x ≡ pos 0 → (pos k *ℤ x) +ℤ (pos 1 *ℤ y) ≡ pos 0 → y ≡ pos 0
none_besides k x y e h = ring (pos k ∷ y ∷ []) (var 1) ((var 0 ⊗ con (pos 0)) ⊕ (con (pos 1) ⊗ var 1)) refl ∙ (λ i. (pos k *ℤ sym e i) +ℤ (pos 1 *ℤ y)) ∙ h

far_above : (k : ℕ) (g h : ℤ) → pos 0 <ℤ g → unsigned_abs h < k → pos 0 <ℤ ((pos k *ℤ g) -ℤ h)
far_above k (pos zero) h p less = absurd (omega (arith, ints))
far_above k (pos (suc g)) h p less = omega (arith, ints)
far_above k (negsuc g) h p less = absurd (omega (arith, ints))

-- of fractions x / u, y / v and z / w
still_less : (k : ℕ) (x u y v z w : ℤ) → (x *ℤ w) <ℤ (z *ℤ u) → unsigned_abs ((y *ℤ w) -ℤ (z *ℤ v)) < k
    → (((pos k *ℤ x) +ℤ (pos 1 *ℤ y)) *ℤ w) <ℤ (z *ℤ ((pos k *ℤ u) +ℤ (pos 1 *ℤ v)))
still_less k x u y v z w less far =
    less_by _ _ ((pos k *ℤ ((z *ℤ u) -ℤ (x *ℤ w))) -ℤ ((y *ℤ w) -ℤ (z *ℤ v)))
    (ring (pos k ∷ x ∷ u ∷ y ∷ v ∷ z ∷ w ∷ [])
    ((var 5 ⊗ ((var 0 ⊗ var 2) ⊕ (con (pos 1) ⊗ var 4))) ⊖ (((var 0 ⊗ var 1) ⊕ (con (pos 1) ⊗ var 3)) ⊗ var 6))
    ((var 0 ⊗ ((var 5 ⊗ var 2) ⊖ (var 1 ⊗ var 6))) ⊖ ((var 3 ⊗ var 6) ⊖ (var 5 ⊗ var 4))) refl)
    (far_above k ((z *ℤ u) -ℤ (x *ℤ w)) ((y *ℤ w) -ℤ (z *ℤ v)) (gap_of_less _ _ less) far)

positive_of_more : (n k : ℕ) → n < k → pos 0 <ℤ pos k
positive_of_more n k h = omega (arith, ints)

one_positive : pos 0 <ℤ pos 1
one_positive = omega (arith, ints)

-- ---- k times a and once b
abbrev pub step : Spot → Spot → ℕ → Point
step a b k = spot_sum a b k 1

pub step_is_point : (a b : Spot) (k : ℕ) → IsPoint (step a b k)
step_is_point a b k = sum_is_point a b k 1 (omega arith)

pub line_near : (d : Triple) (a b : Spot) (l : ViewLine) → FromSome (λ k. IsOnViewLine d l (step a b k) → IsOnViewLine d l (of_spot a) × IsOnViewLine d l (of_spot b))
line_near d a b l = (
  unsigned_abs (rest_at d l (of_spot b)),
  λ k far on.
      let none = sym (rest_of_sum d l a b k 1) ∙ gap_of_same _ _ on in
      let first = none_of_far k (rest_at d l (of_spot a)) (rest_at d l (of_spot b)) far none in
      (same_of_gap _ _ first, same_of_gap _ _ (none_besides k (rest_at d l (of_spot a)) (rest_at d l (of_spot b)) first none)),
)

-- m goes along the line, from a or from before it to beyond p
pub record GoesOver (d : Triple) (line : ViewLine) (a : Spot) (p : Point) (m : Piece) : Type 0 where
  pub on_a : IsOnViewLine d line (of_spot m.a)
  pub on_b : IsOnViewLine d line (of_spot m.b)
  pub first : IsUpTo d (of_spot m.a) (of_spot a)
  pub last : IsBefore d p (of_spot m.b)

module _ (d : Triple) (line : ViewLine) (proper : IsProper line) (a b : Spot) (on_a : IsOnViewLine d line (of_spot a)) (on_b : IsOnViewLine d line (of_spot b)) (less : IsBefore d (of_spot a) (of_spot b)) where
  on_step : (k : ℕ) → IsOnViewLine d line (step a b k)
  on_step k = on_sum d line a b k 1 on_a on_b

  after_a : (k : ℕ) → IsBefore d (of_spot a) (step a b k)
  after_a k =
      let (r, is) = axis d line proper in
      is.before (of_spot a) (step a b k) on_a (on_step k)
      (subst (λ (o : ℤ). (dot r (scaled (of_spot a)) *ℤ (step a b k).w) <ℤ (o *ℤ a.w)) (sym (product_of_sum r (pos k) (pos 1) (of_spot a) (of_spot b)))
      (after_first (dot r (scaled (of_spot a))) a.w (dot r (scaled (of_spot b))) b.w (is.less (of_spot a) (of_spot b) on_a on_b less) (pos k) (pos 1) one_positive))

  before_b : (k : ℕ) → pos 0 <ℤ pos k → IsBefore d (step a b k) (of_spot b)
  before_b k some =
      let (r, is) = axis d line proper in
      is.before (step a b k) (of_spot b) (on_step k) on_b
      (subst (λ (o : ℤ). (o *ℤ b.w) <ℤ (dot r (scaled (of_spot b)) *ℤ (step a b k).w)) (sym (product_of_sum r (pos k) (pos 1) (of_spot a) (of_spot b)))
      (before_second (dot r (scaled (of_spot a))) a.w (dot r (scaled (of_spot b))) b.w (is.less (of_spot a) (of_spot b) on_a on_b less) (pos k) (pos 1) some))

  end_near : (q : Spot) → FromSome (λ k. IsOnViewLine d line (of_spot q) → IsBefore d (of_spot a) (of_spot q) → IsBefore d (step a b k) (of_spot q))
  end_near q =
      let (r, is) = axis d line proper in
      let u = dot r (scaled (of_spot a)) in
      let v = dot r (scaled (of_spot b)) in
      let w = dot r (scaled (of_spot q)) in (
        unsigned_abs ((v *ℤ q.w) -ℤ (w *ℤ b.w)),
        λ k far on_q above.
            is.before (step a b k) (of_spot q) (on_step k) on_q
            (subst (λ (o : ℤ). (o *ℤ q.w) <ℤ (w *ℤ (step a b k).w)) (sym (product_of_sum r (pos k) (pos 1) (of_spot a) (of_spot b)))
            (still_less k u a.w v b.w w q.w (is.less (of_spot a) (of_spot q) on_a on_q above) far)),
      )

  -- of a piece m whose ends are in order
  module _ (m : Piece) where
    abbrev through : ViewLine
    through = line_through d (of_spot m.a) (of_spot m.b)

    module _ (k : ℕ) (ends : IsBefore d (of_spot m.a) (of_spot m.b)) (lies : LiesOn d m (step a b k))
        (along : IsOnViewLine d through (step a b k) → IsOnViewLine d through (of_spot a) × IsOnViewLine d through (of_spot b))
        (below : IsOnViewLine d line (of_spot m.a) → IsBefore d (of_spot a) (of_spot m.a) → IsBefore d (step a b k) (of_spot m.a))
        (above : IsOnViewLine d line (of_spot m.b) → IsBefore d (of_spot a) (of_spot m.b) → IsBefore d (step a b k) (of_spot m.b)) where
      held : IsOnViewLine d through (of_spot a) × IsOnViewLine d through (of_spot b)
      held = along (on_between d through m.a m.b (step a b k) (through_first d (of_spot m.a) (of_spot m.b)) (through_second d (of_spot m.a) (of_spot m.b)) lies)

      on_line : (q : Point) → IsOnViewLine d through q → IsOnViewLine d line q
      on_line q on_q =
          on_too d through line (of_spot a) (of_spot b) q (through_proper d (of_spot m.a) (of_spot m.b) (not_seen d (of_spot m.a) (of_spot m.b) ends))
          (not_seen d (of_spot a) (of_spot b) less) held.0 held.1 on_q on_a on_b

      on_first : IsOnViewLine d line (of_spot m.a)
      on_first = on_line (of_spot m.a) (through_first d (of_spot m.a) (of_spot m.b))

      on_second : IsOnViewLine d line (of_spot m.b)
      on_second = on_line (of_spot m.b) (through_second d (of_spot m.a) (of_spot m.b))

      within : IsUpTo d (of_spot m.a) (step a b k) × IsUpTo d (step a b k) (of_spot m.b)
      within = up_to_of_lies d m.a m.b (step a b k) (step_is_point a b k) ends lies

      begins : IsBefore d (of_spot m.a) (of_spot a) ⊎ (OnOneSight d (of_spot m.a) (of_spot a) ⊎ IsBefore d (of_spot a) (of_spot m.a)) → IsUpTo d (of_spot m.a) (of_spot a)
      begins (inl h) = inl h
      begins (inr (inl h)) = inr h
      begins (inr (inr h)) = absurd (not_back d (step a b k) (of_spot m.a) (step_is_point a b k) m.a.positive (below on_first h) within.0)

      goes_over : GoesOver d line a (step a b k) m
      goes_over = record {
        on_a = on_first;
        on_b = on_second;
        first = begins (three_ways d (of_spot m.a) (of_spot a));
        last = above on_second (before_up_to d (of_spot a) (step a b k) (of_spot m.b) a.positive (step_is_point a b k) m.b.positive (after_a k) within.1);
      }

    piece_near : FromSome (λ k. IsBefore d (of_spot m.a) (of_spot m.b) → LiesOn d m (step a b k) → GoesOver d line a (step a b k) m)
    piece_near =
        let (i, along) = line_near d a b through in
        let (j, below) = end_near m.a in
        let (n, above) = end_near m.b in
        (i + j + n, λ k far ends lies. goes_over k ends lies (along k (omega arith)) (below k (omega arith)) (above k (omega arith)))

-- p is so near a, on the way to b
pub record IsNear (d : Triple) (line : ViewLine) (lines : List ViewLine) (pieces : List Piece) (a b : Spot) (p : Point) : Type 0 where
  pub positive : IsPoint p
  pub on : IsOnViewLine d line p
  pub after : IsBefore d (of_spot a) p
  pub before : IsBefore d p (of_spot b)
  pub beside : IsBeside d lines (of_spot a) (of_spot b) p
  pub over : (m : Piece) → Contains pieces m → IsBefore d (of_spot m.a) (of_spot m.b) → LiesOn d m p → GoesOver d line a p m

pub near : (d : Triple) (line : ViewLine) → IsProper line → (lines : List ViewLine) (pieces : List Piece) (a b : Spot) → IsOnViewLine d line (of_spot a) → IsOnViewLine d line (of_spot b)
    → IsBefore d (of_spot a) (of_spot b) → (p : Point) × IsNear d line lines pieces a b p
near d line proper lines pieces a b on_a on_b less =
    let Beside : ViewLine → ℕ → Type 0 = λ l k. IsOnViewLine d l (step a b k) → IsOnViewLine d l (of_spot a) × IsOnViewLine d l (of_spot b) in
    let Over : Piece → ℕ → Type 0 = λ m k. IsBefore d (of_spot m.a) (of_spot m.b) → LiesOn d m (step a b k) → GoesOver d line a (step a b k) m in
    let (i, beside) = each Beside (line_near d a b) lines in
    let (j, over) = each Over (piece_near d line proper a b on_a on_b less) pieces in
    let k = suc (i + j) in (
      step a b k,
      record {
        positive = step_is_point a b k;
        on = on_step d line proper a b on_a on_b less k;
        after = after_a d line proper a b on_a on_b less k;
        before = before_b d line proper a b on_a on_b less k (positive_of_more (i + j) k (omega arith));
        beside = beside k (omega arith);
        over = over k (omega arith);
      },
    )
