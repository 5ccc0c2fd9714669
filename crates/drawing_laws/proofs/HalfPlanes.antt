-- Where all that a view draws is on a line of the view or on one side of it, so are the ends of its pieces.
use Rattle.std.proofs.Common.{◌≡◌, ℕ, zero, suc, ◌+◌, ◌<◌, Contains, refl, subst, unsigned_abs, arith}
use Rattle.std.specs.Prelude.{ℤ, pos, negsuc, ◌+ℤ◌, ◌-ℤ◌, ◌*ℤ◌, ◌≤ℤ◌, List, [], ◌∷◌}
use Rattle.std.proofs.lemmas.Int.{ints}
use Rattle.std.proofs.lemmas.List.Elements.{All-contains}
use Rattle.integers.proofs.Comparisons.{at_most_of_gap, gap_of_at_most, not_negative_at, not_negative_of_positive, sum_exchanged}
use Rattle.integers.proofs.Ring.{var, ◌⊕◌, ◌⊖◌, ◌⊗◌, ring, by_two}
use Rattle.integers.proofs.Signs.{mul_nonneg, nonneg_of_mul}
use Rattle.lattice.specs.declared.points.Spot.{Spot}
use Rattle.lattice.specs.declared.pieces.Piece.{Piece}
use Rattle.lattice.specs.declared.pieces.Style.{Style}
use Rattle.lattice.specs.declared.pieces.Style.TheVariants.{Solid, Dashed, Chain}
use Rattle.lattice.specs.Triple.{Triple}
use Rattle.lattice.specs.Points.{Point, IsPoint, of_spot, across_of, upward_of, OnOneSight}
use Rattle.geometry.specs.Pieces.{spot_sum, LiesOn}
use Rattle.geometry.specs.Scenes.{AreRightIn}
use Rattle.geometry.proofs.Sights.{sight_back}
use Rattle.drawing_laws.proofs.Sparse.{ViewLine, IsOnViewLine, IsSparse}
use Rattle.drawing_laws.proofs.ViewLines.{rest_at, rest_of_sum}
use Rattle.drawing_laws.proofs.ViewOrder.{seen_itself}
use Rattle.drawing_laws.proofs.Shrinking.{each, step, step_is_point, line_near}

-- on the line x U + y V = z, or where x U + y V is less
abbrev pub IsUpToLine : Triple → ViewLine → Point → Type 0
IsUpToLine d l p = ((l.x *ℤ across_of d p) +ℤ (l.y *ℤ upward_of d p)) ≤ℤ (l.z *ℤ p.w)

-- ---- so are other points that are seen there
seen_alike : (x y z a b v c e w : ℤ) → a *ℤ w ≡ c *ℤ v → b *ℤ w ≡ e *ℤ v
    → v *ℤ ((z *ℤ w) -ℤ ((x *ℤ c) +ℤ (y *ℤ e))) ≡ w *ℤ ((z *ℤ v) -ℤ ((x *ℤ a) +ℤ (y *ℤ b)))
seen_alike x y z a b v c e w f g =
    by_two _ _ (a *ℤ w) (c *ℤ v) x (b *ℤ w) (e *ℤ v) y
    (ring (x ∷ y ∷ z ∷ a ∷ b ∷ v ∷ c ∷ e ∷ w ∷ [])
    ((var 5 ⊗ ((var 2 ⊗ var 8) ⊖ ((var 0 ⊗ var 6) ⊕ (var 1 ⊗ var 7)))) ⊖ (var 8 ⊗ ((var 2 ⊗ var 5) ⊖ ((var 0 ⊗ var 3) ⊕ (var 1 ⊗ var 4)))))
    ((((var 3 ⊗ var 8) ⊖ (var 6 ⊗ var 5)) ⊗ var 0) ⊕ (((var 4 ⊗ var 8) ⊖ (var 7 ⊗ var 5)) ⊗ var 1)) refl) f g

pub up_to_seen : (d : Triple) (l : ViewLine) (q p : Point) → IsPoint q → IsPoint p → OnOneSight d q p → IsUpToLine d l q → IsUpToLine d l p
up_to_seen d l q p hq hp same below =
    at_most_of_gap _ _
    (nonneg_of_mul q.w _ hq
    (not_negative_at _ _ (seen_alike l.x l.y l.z (across_of d q) (upward_of d q) q.w (across_of d p) (upward_of d p) p.w same.across same.upward)
    (mul_nonneg p.w _ (not_negative_of_positive p.w hp) (gap_of_at_most _ _ below))))

-- ---- k times a and once b
rest_up_to : (u v : ℤ) → u ≤ℤ v → (u -ℤ v) ≤ℤ pos 0
rest_up_to u v h = omega (arith, ints)

up_to_rest : (u v : ℤ) → (u -ℤ v) ≤ℤ pos 0 → u ≤ℤ v
up_to_rest u v h = omega (arith, ints)

not_above : (k : ℕ) (g h : ℤ) → unsigned_abs h < k → ((pos k *ℤ g) +ℤ (pos 1 *ℤ h)) ≤ℤ pos 0 → g ≤ℤ pos 0
not_above k (pos zero) h far up = omega (arith, ints)
not_above k (pos (suc g)) h far up = absurd (omega (arith, ints))
not_above k (negsuc g) h far up = omega (arith, ints)

turned : (a b : Spot) (k : ℕ) → step b a k ≡ spot_sum a b 1 k
turned a b k = λ t. record {
  x = sum_exchanged (pos k *ℤ b.x) (pos 1 *ℤ a.x) t;
  y = sum_exchanged (pos k *ℤ b.y) (pos 1 *ℤ a.y) t;
  z = sum_exchanged (pos k *ℤ b.z) (pos 1 *ℤ a.z) t;
  w = sum_exchanged (pos k *ℤ b.w) (pos 1 *ℤ a.w) t;
}

-- a point, on the line or on that side
abbrev pub IsPointUpToLine : Triple → ViewLine → Point → Type 0
IsPointUpToLine d l q = IsPoint q × IsUpToLine d l q

module _ (d : Triple) (Drawn Hidden Traced Ordinary : Point → Type 0) (lines : List ViewLine) (sparse : IsSparse d Ordinary lines) (l : ViewLine)
    (drawn : (q : Point) → Drawn q → IsPointUpToLine d l q) (traced : (q : Point) → Traced q → IsPointUpToLine d l q)
    (pieces : List Piece) (right : AreRightIn d Drawn Hidden Traced Ordinary pieces) where
  -- an ordinary point of a piece
  module _ (m : Piece) (listed : Contains pieces m) (p : Point) (is_point : IsPoint p) (ordinary : Ordinary p) (lies : LiesOn d m p) where
    seen : (q : Point) → IsPointUpToLine d l q → OnOneSight d q p → IsUpToLine d l p
    seen q (is, up) same = up_to_seen d l q p is is_point same up

    by_style : (style : Style) → m.style ≡ style → IsUpToLine d l p
    by_style Solid e = let (q, is, same, visible) = (right.visible p is_point ordinary).0 (m, listed, e, lies) in seen q (drawn q is) same
    by_style Dashed e = let (q, is) = ((right.hidden p is_point ordinary).0 (m, listed, e, lies)).some in seen q (drawn q is.0) is.1
    by_style Chain e = let (q, is) = ((right.traced p is_point ordinary).0 (m, listed, e, lies)).some in seen q (traced q is.0) is.1

  -- an end, near which there are ordinary points of the piece on the way to another point
  near_end : (m : Piece) → Contains pieces m → (a b : Spot) → ¬ OnOneSight d (of_spot a) (of_spot b) → ((k : ℕ) → LiesOn d m (step a b k)) → IsUpToLine d l (of_spot a)
  near_end m listed a b apart lies =
      let Beside : ViewLine → ℕ → Type 0 = λ x k. IsOnViewLine d x (step a b k) → IsOnViewLine d x (of_spot a) × IsOnViewLine d x (of_spot b) in
      let (n, beside) = each Beside (line_near d a b) lines in
      let far = unsigned_abs (rest_at d l (of_spot b)) in
      let k = suc (n + far) in
      let is_point = step_is_point a b k in
      let ordinary = sparse (of_spot a) (of_spot b) (step a b k) a.positive b.positive is_point apart (beside k (omega arith)) in
      let up = rest_up_to _ _ (by_style m listed (step a b k) is_point ordinary (lies k) m.style refl) in
      up_to_rest _ _ (not_above k (rest_at d l (of_spot a)) (rest_at d l (of_spot b)) (omega arith) (subst (λ (z : ℤ). z ≤ℤ pos 0) (rest_of_sum d l a b k 1) up))

  pub ends_up_to : (m : Piece) → Contains pieces m → IsUpToLine d l (of_spot m.a) × IsUpToLine d l (of_spot m.b)
  ends_up_to m listed =
      let apart = All-contains (λ (x : Piece). ¬ OnOneSight d (of_spot x.a) (of_spot x.b)) pieces m right.proper listed in (
        near_end m listed m.a m.b apart (λ k. (k, 1, omega arith, seen_itself d (step m.a m.b k))),
        near_end m listed m.b m.a (λ same. apart (sight_back d (of_spot m.b) (of_spot m.a) same))
            (λ k. (1, k, omega arith, subst (λ (q : Point). OnOneSight d q (step m.b m.a k)) (turned m.a m.b k) (seen_itself d (step m.b m.a k)))),
      )
