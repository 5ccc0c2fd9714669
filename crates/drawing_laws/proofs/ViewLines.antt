-- Points on one line of a view: the line through two points, sums of points, and an axis along which the points are in order.
use Rattle.std.proofs.Common.{◌≡◌, ◌⊎◌, inl, inr, ℕ, [], ◌∷◌, refl, sym, ◌∙◌}
use Rattle.std.specs.Prelude.{ℤ, pos, ◌+ℤ◌, ◌-ℤ◌, ◌*ℤ◌, ◌<ℤ◌}
use Rattle.integers.proofs.Comparisons.{gap_of_same, less_not_same}
use Rattle.integers.proofs.Ring.{var, con, ◌⊕◌, ◌⊖◌, ◌⊗◌, ring, by_two, by_three, same_of_gap}
use Rattle.integers.proofs.Signs.{zero_of_either}
use Rattle.lattice.specs.Triple.{Triple, dot, right_axis, up_axis}
use Rattle.lattice.specs.Points.{Point, IsPoint, of_spot, scaled, across_of, upward_of, OnOneSight}
use Rattle.lattice.specs.declared.points.Spot.{Spot}
use Rattle.lattice.specs.declared.pieces.Piece.{Piece}
use Rattle.lattice.proofs.OnLines.{seen_too, product_of_sum}
use Rattle.geometry.specs.Pieces.{spot_sum, LiesBetween, ArePiecesParallel, IsBefore}
use Rattle.geometry.proofs.OnLines.{sum_is_point}
use Rattle.drawing_laws.proofs.Sparse.{ViewLine, IsOnViewLine}
use Rattle.line_merge.proofs.Between.{zero_or_not}

-- x and y are not both 0
abbrev pub IsProper : ViewLine → Type 0
IsProper l = l.x ≡ pos 0 → l.y ≡ pos 0 → ⊥

-- ---- numbers: points (u, v, w), (s, t, z) and (k, m, n), a line (a, b, c) and a line (e, f, g)
first_on_it : (u v w s t z : ℤ) → (((t *ℤ w) -ℤ (v *ℤ z)) *ℤ u) +ℤ (((u *ℤ z) -ℤ (s *ℤ w)) *ℤ v) ≡ ((u *ℤ t) -ℤ (v *ℤ s)) *ℤ w
first_on_it u v w s t z =
    ring (u ∷ v ∷ w ∷ s ∷ t ∷ z ∷ [])
    ((((var 4 ⊗ var 2) ⊖ (var 1 ⊗ var 5)) ⊗ var 0) ⊕ (((var 0 ⊗ var 5) ⊖ (var 3 ⊗ var 2)) ⊗ var 1))
    (((var 0 ⊗ var 4) ⊖ (var 1 ⊗ var 3)) ⊗ var 2) refl

second_on_it : (u v w s t z : ℤ) → (((t *ℤ w) -ℤ (v *ℤ z)) *ℤ s) +ℤ (((u *ℤ z) -ℤ (s *ℤ w)) *ℤ t) ≡ ((u *ℤ t) -ℤ (v *ℤ s)) *ℤ z
second_on_it u v w s t z =
    ring (u ∷ v ∷ w ∷ s ∷ t ∷ z ∷ [])
    ((((var 4 ⊗ var 2) ⊖ (var 1 ⊗ var 5)) ⊗ var 3) ⊕ (((var 0 ⊗ var 5) ⊖ (var 3 ⊗ var 2)) ⊗ var 4))
    (((var 0 ⊗ var 4) ⊖ (var 1 ⊗ var 3)) ⊗ var 5) refl

-- three points of a proper line have no determinant
module _ (a b c u v w s t z k m n : ℤ) (some : a ≡ pos 0 → b ≡ pos 0 → ⊥)
    (one : (a *ℤ u) +ℤ (b *ℤ v) ≡ c *ℤ w) (two : (a *ℤ s) +ℤ (b *ℤ t) ≡ c *ℤ z) (three : (a *ℤ k) +ℤ (b *ℤ m) ≡ c *ℤ n) where
  abbrev det_of : ℤ
  det_of = ((u *ℤ ((t *ℤ n) -ℤ (z *ℤ m))) -ℤ (v *ℤ ((s *ℤ n) -ℤ (z *ℤ k)))) +ℤ (w *ℤ ((s *ℤ m) -ℤ (t *ℤ k)))

  no_determinant : det_of ≡ pos 0
  no_determinant =
      zero_of_either a b det_of some
      (by_three (a *ℤ det_of) (pos 0) ((a *ℤ u) +ℤ (b *ℤ v)) (c *ℤ w) ((t *ℤ n) -ℤ (z *ℤ m)) ((a *ℤ s) +ℤ (b *ℤ t)) (c *ℤ z) ((m *ℤ w) -ℤ (n *ℤ v)) ((a *ℤ k) +ℤ (b *ℤ m)) (c *ℤ n) ((v *ℤ z) -ℤ (w *ℤ t))
      (ring (a ∷ b ∷ c ∷ u ∷ v ∷ w ∷ s ∷ t ∷ z ∷ k ∷ m ∷ n ∷ [])
      ((var 0 ⊗ (((var 3 ⊗ ((var 7 ⊗ var 11) ⊖ (var 8 ⊗ var 10))) ⊖ (var 4 ⊗ ((var 6 ⊗ var 11) ⊖ (var 8 ⊗ var 9)))) ⊕ (var 5 ⊗ ((var 6 ⊗ var 10) ⊖ (var 7 ⊗ var 9))))) ⊖ con (pos 0))
      ((((((var 0 ⊗ var 3) ⊕ (var 1 ⊗ var 4)) ⊖ (var 2 ⊗ var 5)) ⊗ ((var 7 ⊗ var 11) ⊖ (var 8 ⊗ var 10)))
      ⊕ ((((var 0 ⊗ var 6) ⊕ (var 1 ⊗ var 7)) ⊖ (var 2 ⊗ var 8)) ⊗ ((var 10 ⊗ var 5) ⊖ (var 11 ⊗ var 4))))
      ⊕ ((((var 0 ⊗ var 9) ⊕ (var 1 ⊗ var 10)) ⊖ (var 2 ⊗ var 11)) ⊗ ((var 4 ⊗ var 8) ⊖ (var 5 ⊗ var 7)))) refl) one two three)
      (by_three (b *ℤ det_of) (pos 0) ((a *ℤ u) +ℤ (b *ℤ v)) (c *ℤ w) ((z *ℤ k) -ℤ (s *ℤ n)) ((a *ℤ s) +ℤ (b *ℤ t)) (c *ℤ z) ((n *ℤ u) -ℤ (k *ℤ w)) ((a *ℤ k) +ℤ (b *ℤ m)) (c *ℤ n) ((w *ℤ s) -ℤ (u *ℤ z))
      (ring (a ∷ b ∷ c ∷ u ∷ v ∷ w ∷ s ∷ t ∷ z ∷ k ∷ m ∷ n ∷ [])
      ((var 1 ⊗ (((var 3 ⊗ ((var 7 ⊗ var 11) ⊖ (var 8 ⊗ var 10))) ⊖ (var 4 ⊗ ((var 6 ⊗ var 11) ⊖ (var 8 ⊗ var 9)))) ⊕ (var 5 ⊗ ((var 6 ⊗ var 10) ⊖ (var 7 ⊗ var 9))))) ⊖ con (pos 0))
      ((((((var 0 ⊗ var 3) ⊕ (var 1 ⊗ var 4)) ⊖ (var 2 ⊗ var 5)) ⊗ ((var 8 ⊗ var 9) ⊖ (var 6 ⊗ var 11)))
      ⊕ ((((var 0 ⊗ var 6) ⊕ (var 1 ⊗ var 7)) ⊖ (var 2 ⊗ var 8)) ⊗ ((var 11 ⊗ var 3) ⊖ (var 9 ⊗ var 5))))
      ⊕ ((((var 0 ⊗ var 9) ⊕ (var 1 ⊗ var 10)) ⊖ (var 2 ⊗ var 11)) ⊗ ((var 5 ⊗ var 6) ⊖ (var 3 ⊗ var 8)))) refl) one two three)

  -- a line through two of them, which are apart, holds the third
  module _ (e f g : ℤ) (apart : (t *ℤ w) -ℤ (v *ℤ z) ≡ pos 0 → (u *ℤ z) -ℤ (s *ℤ w) ≡ pos 0 → ⊥)
      (first : (e *ℤ u) +ℤ (f *ℤ v) ≡ g *ℤ w) (second : (e *ℤ s) +ℤ (f *ℤ t) ≡ g *ℤ z) where
    abbrev gap_of : ℤ
    gap_of = ((e *ℤ k) +ℤ (f *ℤ m)) -ℤ (g *ℤ n)

    third : (e *ℤ k) +ℤ (f *ℤ m) ≡ g *ℤ n
    third =
        same_of_gap _ _ (zero_of_either ((t *ℤ w) -ℤ (v *ℤ z)) ((u *ℤ z) -ℤ (s *ℤ w)) gap_of apart
        (by_three (((t *ℤ w) -ℤ (v *ℤ z)) *ℤ gap_of) (pos 0) det_of (pos 0) (pos 0 -ℤ e) ((e *ℤ u) +ℤ (f *ℤ v)) (g *ℤ w) ((n *ℤ t) -ℤ (m *ℤ z)) ((e *ℤ s) +ℤ (f *ℤ t)) (g *ℤ z) ((m *ℤ w) -ℤ (n *ℤ v))
        (ring (u ∷ v ∷ w ∷ s ∷ t ∷ z ∷ k ∷ m ∷ n ∷ e ∷ f ∷ g ∷ [])
        ((((var 4 ⊗ var 2) ⊖ (var 1 ⊗ var 5)) ⊗ (((var 9 ⊗ var 6) ⊕ (var 10 ⊗ var 7)) ⊖ (var 11 ⊗ var 8))) ⊖ con (pos 0))
        (((((((var 0 ⊗ ((var 4 ⊗ var 8) ⊖ (var 5 ⊗ var 7))) ⊖ (var 1 ⊗ ((var 3 ⊗ var 8) ⊖ (var 5 ⊗ var 6)))) ⊕ (var 2 ⊗ ((var 3 ⊗ var 7) ⊖ (var 4 ⊗ var 6)))) ⊖ con (pos 0)) ⊗ (con (pos 0) ⊖ var 9))
        ⊕ ((((var 9 ⊗ var 0) ⊕ (var 10 ⊗ var 1)) ⊖ (var 11 ⊗ var 2)) ⊗ ((var 8 ⊗ var 4) ⊖ (var 7 ⊗ var 5))))
        ⊕ ((((var 9 ⊗ var 3) ⊕ (var 10 ⊗ var 4)) ⊖ (var 11 ⊗ var 5)) ⊗ ((var 7 ⊗ var 2) ⊖ (var 8 ⊗ var 1)))) refl) no_determinant first second)
        (by_three (((u *ℤ z) -ℤ (s *ℤ w)) *ℤ gap_of) (pos 0) det_of (pos 0) (pos 0 -ℤ f) ((e *ℤ u) +ℤ (f *ℤ v)) (g *ℤ w) ((k *ℤ z) -ℤ (n *ℤ s)) ((e *ℤ s) +ℤ (f *ℤ t)) (g *ℤ z) ((n *ℤ u) -ℤ (k *ℤ w))
        (ring (u ∷ v ∷ w ∷ s ∷ t ∷ z ∷ k ∷ m ∷ n ∷ e ∷ f ∷ g ∷ [])
        ((((var 0 ⊗ var 5) ⊖ (var 3 ⊗ var 2)) ⊗ (((var 9 ⊗ var 6) ⊕ (var 10 ⊗ var 7)) ⊖ (var 11 ⊗ var 8))) ⊖ con (pos 0))
        (((((((var 0 ⊗ ((var 4 ⊗ var 8) ⊖ (var 5 ⊗ var 7))) ⊖ (var 1 ⊗ ((var 3 ⊗ var 8) ⊖ (var 5 ⊗ var 6)))) ⊕ (var 2 ⊗ ((var 3 ⊗ var 7) ⊖ (var 4 ⊗ var 6)))) ⊖ con (pos 0)) ⊗ (con (pos 0) ⊖ var 10))
        ⊕ ((((var 9 ⊗ var 0) ⊕ (var 10 ⊗ var 1)) ⊖ (var 11 ⊗ var 2)) ⊗ ((var 6 ⊗ var 5) ⊖ (var 8 ⊗ var 3))))
        ⊕ ((((var 9 ⊗ var 3) ⊕ (var 10 ⊗ var 4)) ⊖ (var 11 ⊗ var 5)) ⊗ ((var 8 ⊗ var 0) ⊖ (var 6 ⊗ var 2)))) refl) no_determinant first second))

sum_gap : (a b c i j u v w s t z : ℤ)
    → ((a *ℤ ((i *ℤ u) +ℤ (j *ℤ s))) +ℤ (b *ℤ ((i *ℤ v) +ℤ (j *ℤ t)))) -ℤ (c *ℤ ((i *ℤ w) +ℤ (j *ℤ z)))
    ≡ (i *ℤ (((a *ℤ u) +ℤ (b *ℤ v)) -ℤ (c *ℤ w))) +ℤ (j *ℤ (((a *ℤ s) +ℤ (b *ℤ t)) -ℤ (c *ℤ z)))
sum_gap a b c i j u v w s t z =
    ring (a ∷ b ∷ c ∷ i ∷ j ∷ u ∷ v ∷ w ∷ s ∷ t ∷ z ∷ [])
    (((var 0 ⊗ ((var 3 ⊗ var 5) ⊕ (var 4 ⊗ var 8))) ⊕ (var 1 ⊗ ((var 3 ⊗ var 6) ⊕ (var 4 ⊗ var 9)))) ⊖ (var 2 ⊗ ((var 3 ⊗ var 7) ⊕ (var 4 ⊗ var 10))))
    ((var 3 ⊗ (((var 0 ⊗ var 5) ⊕ (var 1 ⊗ var 6)) ⊖ (var 2 ⊗ var 7))) ⊕ (var 4 ⊗ (((var 0 ⊗ var 8) ⊕ (var 1 ⊗ var 9)) ⊖ (var 2 ⊗ var 10)))) refl

-- a step along a line
step_along : (a b c u v w s t z : ℤ) → (a *ℤ u) +ℤ (b *ℤ v) ≡ c *ℤ w → (a *ℤ s) +ℤ (b *ℤ t) ≡ c *ℤ z → (a *ℤ ((s *ℤ w) -ℤ (u *ℤ z))) +ℤ (b *ℤ ((t *ℤ w) -ℤ (v *ℤ z))) ≡ pos 0
step_along a b c u v w s t z e f =
    by_two ((a *ℤ ((s *ℤ w) -ℤ (u *ℤ z))) +ℤ (b *ℤ ((t *ℤ w) -ℤ (v *ℤ z)))) (pos 0) ((a *ℤ s) +ℤ (b *ℤ t)) (c *ℤ z) w ((a *ℤ u) +ℤ (b *ℤ v)) (c *ℤ w) (pos 0 -ℤ z)
    (ring (a ∷ b ∷ c ∷ u ∷ v ∷ w ∷ s ∷ t ∷ z ∷ [])
    (((var 0 ⊗ ((var 6 ⊗ var 5) ⊖ (var 3 ⊗ var 8))) ⊕ (var 1 ⊗ ((var 7 ⊗ var 5) ⊖ (var 4 ⊗ var 8)))) ⊖ con (pos 0))
    (((((var 0 ⊗ var 6) ⊕ (var 1 ⊗ var 7)) ⊖ (var 2 ⊗ var 8)) ⊗ var 5) ⊕ ((((var 0 ⊗ var 3) ⊕ (var 1 ⊗ var 4)) ⊖ (var 2 ⊗ var 5)) ⊗ (con (pos 0) ⊖ var 8))) refl) f e

-- two solutions of a u + b v = 0: a factor that isn't 0 leaves nothing of the other
rest_of : (a b u v : ℤ) → (a *ℤ u) +ℤ (b *ℤ v) ≡ pos 0 → u ≡ pos 0 → (b ≡ pos 0 → ⊥) → v ≡ pos 0
rest_of a b u v h e some = let k = alone ((λ i. (a *ℤ sym e i) +ℤ (b *ℤ v)) ∙ h) in zero_of_either b b v (λ p q. some p) k k
  where
    alone : (a *ℤ pos 0) +ℤ (b *ℤ v) ≡ pos 0 → b *ℤ v ≡ pos 0
    alone k = ring (a ∷ b ∷ v ∷ []) (var 1 ⊗ var 2) ((var 0 ⊗ con (pos 0)) ⊕ (var 1 ⊗ var 2)) refl ∙ k

first_of : (a b u v : ℤ) → (a *ℤ u) +ℤ (b *ℤ v) ≡ pos 0 → b ≡ pos 0 → (a ≡ pos 0 → b ≡ pos 0 → ⊥) → u ≡ pos 0
first_of a b u v h flat some = let k = alone ((λ i. (a *ℤ u) +ℤ (sym flat i *ℤ v)) ∙ h) in zero_of_either a a u (λ p q. some p flat) k k
  where
    alone : (a *ℤ u) +ℤ (pos 0 *ℤ v) ≡ pos 0 → a *ℤ u ≡ pos 0
    alone k = ring (a ∷ u ∷ v ∷ []) (var 0 ⊗ var 1) ((var 0 ⊗ var 1) ⊕ (con (pos 0) ⊗ var 2)) refl ∙ k

-- two steps along one line
parallel_steps : (a b u v s t : ℤ) → (a ≡ pos 0 → b ≡ pos 0 → ⊥) → (a *ℤ u) +ℤ (b *ℤ v) ≡ pos 0 → (a *ℤ s) +ℤ (b *ℤ t) ≡ pos 0 → u *ℤ t ≡ v *ℤ s
parallel_steps a b u v s t some e f =
    same_of_gap (u *ℤ t) (v *ℤ s) (zero_of_either a b ((u *ℤ t) -ℤ (v *ℤ s)) some
    (by_two (a *ℤ ((u *ℤ t) -ℤ (v *ℤ s))) (pos 0) ((a *ℤ u) +ℤ (b *ℤ v)) (pos 0) t ((a *ℤ s) +ℤ (b *ℤ t)) (pos 0) (pos 0 -ℤ v)
    (ring (a ∷ b ∷ u ∷ v ∷ s ∷ t ∷ [])
    ((var 0 ⊗ ((var 2 ⊗ var 5) ⊖ (var 3 ⊗ var 4))) ⊖ con (pos 0))
    (((((var 0 ⊗ var 2) ⊕ (var 1 ⊗ var 3)) ⊖ con (pos 0)) ⊗ var 5) ⊕ ((((var 0 ⊗ var 4) ⊕ (var 1 ⊗ var 5)) ⊖ con (pos 0)) ⊗ (con (pos 0) ⊖ var 3))) refl) e f)
    (by_two (b *ℤ ((u *ℤ t) -ℤ (v *ℤ s))) (pos 0) ((a *ℤ u) +ℤ (b *ℤ v)) (pos 0) (pos 0 -ℤ s) ((a *ℤ s) +ℤ (b *ℤ t)) (pos 0) u
    (ring (a ∷ b ∷ u ∷ v ∷ s ∷ t ∷ [])
    ((var 1 ⊗ ((var 2 ⊗ var 5) ⊖ (var 3 ⊗ var 4))) ⊖ con (pos 0))
    (((((var 0 ⊗ var 2) ⊕ (var 1 ⊗ var 3)) ⊖ con (pos 0)) ⊗ (con (pos 0) ⊖ var 4)) ⊕ ((((var 0 ⊗ var 4) ⊕ (var 1 ⊗ var 5)) ⊖ con (pos 0)) ⊗ var 2)) refl) e f))

-- ---- the line through two points
module _ (d : Triple) (p q : Point) where
  abbrev pub line_through : ViewLine
  line_through = record {
    x = (upward_of d q *ℤ p.w) -ℤ (upward_of d p *ℤ q.w);
    y = (across_of d p *ℤ q.w) -ℤ (across_of d q *ℤ p.w);
    z = (across_of d p *ℤ upward_of d q) -ℤ (upward_of d p *ℤ across_of d q);
  }

  pub through_first : IsOnViewLine d line_through p
  through_first = first_on_it (across_of d p) (upward_of d p) p.w (across_of d q) (upward_of d q) q.w

  pub through_second : IsOnViewLine d line_through q
  through_second = second_on_it (across_of d p) (upward_of d p) p.w (across_of d q) (upward_of d q) q.w

  pub through_proper : ¬ OnOneSight d p q → IsProper line_through
  through_proper apart x y = apart (record { across = same_of_gap _ _ y; upward = sym (same_of_gap _ _ x) })

-- a line through two points that are apart holds each point of a proper line through them
pub on_too : (d : Triple) (l m : ViewLine) (p q r : Point) → IsProper l → ¬ OnOneSight d p q
    → IsOnViewLine d l p → IsOnViewLine d l q → IsOnViewLine d l r → IsOnViewLine d m p → IsOnViewLine d m q → IsOnViewLine d m r
on_too d l m p q r some apart lp lq lr mp mq =
    third l.x l.y l.z (across_of d p) (upward_of d p) p.w (across_of d q) (upward_of d q) q.w (across_of d r) (upward_of d r) r.w some lp lq lr m.x m.y m.z
    (through_proper d p q apart) mp mq

-- ---- on one line
module _ (d : Triple) (l : ViewLine) where
  pub on_sight : (p q : Point) → IsPoint p → OnOneSight d p q → IsOnViewLine d l p → IsOnViewLine d l q
  on_sight p q positive same on = seen_too l.x l.y l.z (across_of d p) (upward_of d p) p.w (across_of d q) (upward_of d q) q.w positive same.across same.upward on

  -- what a point leaves of the line's equation
  abbrev pub rest_at : Point → ℤ
  rest_at p = ((l.x *ℤ across_of d p) +ℤ (l.y *ℤ upward_of d p)) -ℤ (l.z *ℤ p.w)

  pub rest_of_sum : (a b : Spot) (i j : ℕ) → rest_at (spot_sum a b i j) ≡ (pos i *ℤ rest_at (of_spot a)) +ℤ (pos j *ℤ rest_at (of_spot b))
  rest_of_sum a b i j =
      (λ k. ((l.x *ℤ product_of_sum (right_axis d) (pos i) (pos j) (of_spot a) (of_spot b) k) +ℤ (l.y *ℤ product_of_sum (up_axis d) (pos i) (pos j) (of_spot a) (of_spot b) k)) -ℤ (l.z *ℤ (spot_sum a b i j).w))
      ∙ sum_gap l.x l.y l.z (pos i) (pos j) (across_of d (of_spot a)) (upward_of d (of_spot a)) a.w (across_of d (of_spot b)) (upward_of d (of_spot b)) b.w

  pub on_sum : (a b : Spot) (i j : ℕ) → IsOnViewLine d l (of_spot a) → IsOnViewLine d l (of_spot b) → IsOnViewLine d l (spot_sum a b i j)
  on_sum a b i j first second = same_of_gap _ _ (rest_of_sum a b i j ∙ nothing (pos i) (pos j) _ _ (gap_of_same _ _ first) (gap_of_same _ _ second))
    where
      nothing : (i j x y : ℤ) → x ≡ pos 0 → y ≡ pos 0 → (i *ℤ x) +ℤ (j *ℤ y) ≡ pos 0
      nothing i j x y e f = (λ k. (i *ℤ e k) +ℤ (j *ℤ f k)) ∙ ring (i ∷ j ∷ []) ((var 0 ⊗ con (pos 0)) ⊕ (var 1 ⊗ con (pos 0))) (con (pos 0)) refl

  pub on_between : (a b : Spot) (p : Point) → IsOnViewLine d l (of_spot a) → IsOnViewLine d l (of_spot b) → LiesBetween d a b p → IsOnViewLine d l p
  on_between a b p first second (i, j, some, same) = on_sight (spot_sum a b i j) p (sum_is_point a b i j some) same (on_sum a b i j first second)

  -- r is an axis along which the points of the line are in order
  pub record IsAxis (r : Triple) : Type 0 where
    pub less : (p q : Point) → IsOnViewLine d l p → IsOnViewLine d l q → IsBefore d p q → (dot r (scaled p) *ℤ q.w) <ℤ (dot r (scaled q) *ℤ p.w)
    pub before : (p q : Point) → IsOnViewLine d l p → IsOnViewLine d l q → (dot r (scaled p) *ℤ q.w) <ℤ (dot r (scaled q) *ℤ p.w) → IsBefore d p q
    pub sight : (p q : Point) → IsOnViewLine d l p → IsOnViewLine d l q → dot r (scaled p) *ℤ q.w ≡ dot r (scaled q) *ℤ p.w → OnOneSight d p q

  module _ (p q : Point) (on_p : IsOnViewLine d l p) (on_q : IsOnViewLine d l q) where
    along : (l.x *ℤ ((across_of d q *ℤ p.w) -ℤ (across_of d p *ℤ q.w))) +ℤ (l.y *ℤ ((upward_of d q *ℤ p.w) -ℤ (upward_of d p *ℤ q.w))) ≡ pos 0
    along = step_along l.x l.y l.z (across_of d p) (upward_of d p) p.w (across_of d q) (upward_of d q) q.w on_p on_q

    same_upward : (l.y ≡ pos 0 → ⊥) → across_of d p *ℤ q.w ≡ across_of d q *ℤ p.w → upward_of d p *ℤ q.w ≡ upward_of d q *ℤ p.w
    same_upward some e = sym (same_of_gap _ _ (rest_of l.x l.y _ _ along (gap_of_same _ _ (sym e)) some))

    same_across : IsProper l → l.y ≡ pos 0 → across_of d p *ℤ q.w ≡ across_of d q *ℤ p.w
    same_across proper flat = sym (same_of_gap _ _ (first_of l.x l.y _ _ along flat proper))

    less_across : (l.y ≡ pos 0 → ⊥) → IsBefore d p q → (across_of d p *ℤ q.w) <ℤ (across_of d q *ℤ p.w)
    less_across some (inl less) = less
    less_across some (inr (e, less)) = absurd (less_not_same _ _ less (same_upward some e))

    less_upward : IsProper l → l.y ≡ pos 0 → IsBefore d p q → (upward_of d p *ℤ q.w) <ℤ (upward_of d q *ℤ p.w)
    less_upward proper flat (inl less) = absurd (less_not_same _ _ less (same_across proper flat))
    less_upward proper flat (inr (e, less)) = less

  pub axis : IsProper l → (r : Triple) × IsAxis r
  axis proper = by (zero_or_not l.y)
    where
      by : (l.y ≡ pos 0) ⊎ (l.y ≡ pos 0 → ⊥) → (r : Triple) × IsAxis r
      by (inl flat) = (
        up_axis d,
        record {
          less = λ p q on_p on_q. less_upward p q on_p on_q proper flat;
          before = λ p q on_p on_q less. inr (same_across p q on_p on_q proper flat, less);
          sight = λ p q on_p on_q e. record { across = same_across p q on_p on_q proper flat; upward = e };
        },
      )
      by (inr some) = (
        right_axis d,
        record {
          less = λ p q on_p on_q. less_across p q on_p on_q some;
          before = λ p q on_p on_q less. inl less;
          sight = λ p q on_p on_q e. record { across = e; upward = same_upward p q on_p on_q some e };
        },
      )

-- pieces with all ends on one line
pub parallel_on : (d : Triple) (line : ViewLine) (l m : Piece) → IsProper line → IsOnViewLine d line (of_spot l.a) → IsOnViewLine d line (of_spot l.b)
    → IsOnViewLine d line (of_spot m.a) → IsOnViewLine d line (of_spot m.b) → ArePiecesParallel d l m
parallel_on d line l m proper la lb ma mb = parallel_steps line.x line.y _ _ _ _ proper (along d line (of_spot l.a) (of_spot l.b) la lb) (along d line (of_spot m.a) (of_spot m.b) ma mb)
