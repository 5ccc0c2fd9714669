-- Lines along steps, and that steps are parallel as they are seen whose lines hold one point that is beside both.
use Rattle.std.proofs.Common.{◌≡◌, List, [], ◌∷◌, Contains, refl, arith}
use Rattle.std.specs.Prelude.{ℤ, pos, ◌+ℤ◌, ◌-ℤ◌, ◌*ℤ◌}
use Rattle.std.proofs.lemmas.Int.{ints}
use Rattle.integers.proofs.Ring.{var, con, ◌⊕◌, ◌⊖◌, ◌⊗◌, ring, by_one, by_two}
use Rattle.integers.proofs.Signs.{zero_of_mul, zero_of_either}
use Rattle.lattice.specs.Triple.{Triple, dot, cross, det, right_axis, up_axis}
use Rattle.lattice.specs.Points.{Point, IsPoint, scaled, across_of, upward_of, OnOneSight}
use Rattle.lattice.proofs.SameLines.{across_between, upward_between}
use Rattle.lattice.proofs.SightLines.{right_axis-is}
use Rattle.lattice.proofs.Vectors.{Letters, letters, dots, crosses}
use Rattle.lattice.proofs.OnLines.{seen_too}
use Rattle.drawing_laws.proofs.Sparse.{ViewLine, IsOnViewLine, IsBeside}

-- along the step, through the points at which twice the determinant of direction, step and point is this number
abbrev pub line_along : Triple → Triple → ℤ → ViewLine
line_along d step number = record {
  x = (pos 0 -ℤ pos 2) *ℤ dot (up_axis d) step;
  y = pos 2 *ℤ dot (right_axis d) step;
  z = dot (right_axis d) (right_axis d) *ℤ number;
}

abbrev D : Letters
D = letters 0

abbrev R : Letters
R = letters 3

abbrev S : Letters
S = letters 6

abbrev T : Letters
T = letters 9

-- the area that two vectors span, as it is seen, is r . r times the determinant with d
seen_area : (d r s t : Triple) → dot r d ≡ pos 0 → (dot r s *ℤ dot (cross d r) t) -ℤ (dot (cross d r) s *ℤ dot r t) ≡ dot r r *ℤ det d s t
seen_area d r s t level =
    by_one _ _ (dot r d) (pos 0) (pos 0 -ℤ dot r (cross s t))
    (ring (d.x ∷ d.y ∷ d.z ∷ r.x ∷ r.y ∷ r.z ∷ s.x ∷ s.y ∷ s.z ∷ t.x ∷ t.y ∷ t.z ∷ [])
    (((dots R S ⊗ dots (crosses D R) T) ⊖ (dots (crosses D R) S ⊗ dots R T)) ⊖ (dots R R ⊗ dots D (crosses S T)))
    ((dots R D ⊖ con (pos 0)) ⊗ (con (pos 0) ⊖ dots R (crosses S T))) refl) level

pub on_line_along : (d step : Triple) (number : ℤ) (p : Point) → pos 2 *ℤ det d step (scaled p) ≡ number *ℤ p.w → IsOnViewLine d (line_along d step number) p
on_line_along d step number p e =
    go (dot (right_axis d) step) (dot (up_axis d) step) (across_of d p) (upward_of d p) p.w number (dot (right_axis d) (right_axis d)) (det d step (scaled p))
    (seen_area d (right_axis d) step (scaled p) (right_axis-is d).level) e
  where
    go : (s t u v w n k m : ℤ) → (s *ℤ v) -ℤ (t *ℤ u) ≡ k *ℤ m → pos 2 *ℤ m ≡ n *ℤ w → (((pos 0 -ℤ pos 2) *ℤ t) *ℤ u) +ℤ ((pos 2 *ℤ s) *ℤ v) ≡ (k *ℤ n) *ℤ w
    go s t u v w n k m area e =
        by_two _ _ ((s *ℤ v) -ℤ (t *ℤ u)) (k *ℤ m) (pos 2) (pos 2 *ℤ m) (n *ℤ w) k
        (ring (s ∷ t ∷ u ∷ v ∷ w ∷ n ∷ k ∷ m ∷ [])
        (((((con (pos 0) ⊖ con (pos 2)) ⊗ var 1) ⊗ var 2) ⊕ ((con (pos 2) ⊗ var 0) ⊗ var 3)) ⊖ ((var 6 ⊗ var 5) ⊗ var 4))
        (((((var 0 ⊗ var 3) ⊖ (var 1 ⊗ var 2)) ⊖ (var 6 ⊗ var 7)) ⊗ con (pos 2)) ⊕ (((con (pos 2) ⊗ var 7) ⊖ (var 5 ⊗ var 4)) ⊗ var 6)) refl) area e

-- what is seen at one place is on the same lines
pub on_line_of_sight : (d : Triple) (l : ViewLine) (p q : Point) → IsPoint p → OnOneSight d p q → IsOnViewLine d l p → IsOnViewLine d l q
on_line_of_sight d l p q positive same on = seen_too l.x l.y l.z (across_of d p) (upward_of d p) p.w (across_of d q) (upward_of d q) q.w positive same.across same.upward on

-- ---- two lines with two points in common that are seen apart
-- a step along a line
along_line : (d : Triple) (l : ViewLine) (p q : Point) → IsOnViewLine d l p → IsOnViewLine d l q → (l.x *ℤ across_between d p q) +ℤ (l.y *ℤ upward_between d p q) ≡ pos 0
along_line d l p q first second = step l.x l.y l.z (across_of d p) (upward_of d p) p.w (across_of d q) (upward_of d q) q.w first second
  where
    step : (a b c u v w s t z : ℤ) → (a *ℤ u) +ℤ (b *ℤ v) ≡ c *ℤ w → (a *ℤ s) +ℤ (b *ℤ t) ≡ c *ℤ z → (a *ℤ ((s *ℤ w) -ℤ (u *ℤ z))) +ℤ (b *ℤ ((t *ℤ w) -ℤ (v *ℤ z))) ≡ pos 0
    step a b c u v w s t z e f =
        by_two ((a *ℤ ((s *ℤ w) -ℤ (u *ℤ z))) +ℤ (b *ℤ ((t *ℤ w) -ℤ (v *ℤ z)))) (pos 0) ((a *ℤ s) +ℤ (b *ℤ t)) (c *ℤ z) w ((a *ℤ u) +ℤ (b *ℤ v)) (c *ℤ w) (pos 0 -ℤ z)
        (ring (a ∷ b ∷ c ∷ u ∷ v ∷ w ∷ s ∷ t ∷ z ∷ [])
        (((var 0 ⊗ ((var 6 ⊗ var 5) ⊖ (var 3 ⊗ var 8))) ⊕ (var 1 ⊗ ((var 7 ⊗ var 5) ⊖ (var 4 ⊗ var 8)))) ⊖ con (pos 0))
        (((((var 0 ⊗ var 6) ⊕ (var 1 ⊗ var 7)) ⊖ (var 2 ⊗ var 8)) ⊗ var 5) ⊕ ((((var 0 ⊗ var 3) ⊕ (var 1 ⊗ var 4)) ⊖ (var 2 ⊗ var 5)) ⊗ (con (pos 0) ⊖ var 8))) refl) f e

-- a step (u, v) that is square to (x, y) and to (a, b)
square_to_both : (u v x y a b : ℤ) → (u ≡ pos 0 → v ≡ pos 0 → ⊥) → (x *ℤ u) +ℤ (y *ℤ v) ≡ pos 0 → (a *ℤ u) +ℤ (b *ℤ v) ≡ pos 0 → (x *ℤ b) -ℤ (y *ℤ a) ≡ pos 0
square_to_both u v x y a b some e f =
    zero_of_either u v ((x *ℤ b) -ℤ (y *ℤ a)) some
    (by_two (u *ℤ ((x *ℤ b) -ℤ (y *ℤ a))) (pos 0) ((x *ℤ u) +ℤ (y *ℤ v)) (pos 0) b ((a *ℤ u) +ℤ (b *ℤ v)) (pos 0) (pos 0 -ℤ y)
    (ring (u ∷ v ∷ x ∷ y ∷ a ∷ b ∷ [])
    ((var 0 ⊗ ((var 2 ⊗ var 5) ⊖ (var 3 ⊗ var 4))) ⊖ con (pos 0))
    (((((var 2 ⊗ var 0) ⊕ (var 3 ⊗ var 1)) ⊖ con (pos 0)) ⊗ var 5) ⊕ ((((var 4 ⊗ var 0) ⊕ (var 5 ⊗ var 1)) ⊖ con (pos 0)) ⊗ (con (pos 0) ⊖ var 3))) refl) e f)
    (by_two (v *ℤ ((x *ℤ b) -ℤ (y *ℤ a))) (pos 0) ((x *ℤ u) +ℤ (y *ℤ v)) (pos 0) (pos 0 -ℤ a) ((a *ℤ u) +ℤ (b *ℤ v)) (pos 0) x
    (ring (u ∷ v ∷ x ∷ y ∷ a ∷ b ∷ [])
    ((var 1 ⊗ ((var 2 ⊗ var 5) ⊖ (var 3 ⊗ var 4))) ⊖ con (pos 0))
    (((((var 2 ⊗ var 0) ⊕ (var 3 ⊗ var 1)) ⊖ con (pos 0)) ⊗ (con (pos 0) ⊖ var 4)) ⊕ ((((var 4 ⊗ var 0) ⊕ (var 5 ⊗ var 1)) ⊖ con (pos 0)) ⊗ var 2)) refl) e f)

-- one of the lines goes along the step and holds p
pub record IsHeldAlong (d : Triple) (lines : List ViewLine) (p : Point) (step : Triple) : Type 0 where
  pub number : ℤ
  pub listed : Contains lines (line_along d step number)
  pub on : IsOnViewLine d (line_along d step number) p

module _ (d : Triple) (lines : List ViewLine) (a b p : Point) (apart : ¬ OnOneSight d a b) (beside : IsBeside d lines a b p) where
  some_step : across_between d a b ≡ pos 0 → upward_between d a b ≡ pos 0 → ⊥
  some_step u v = apart (record {
    across = back _ _ u;
    upward = back _ _ v;
  })
    where
      back : (x y : ℤ) → y -ℤ x ≡ pos 0 → x ≡ y
      back x y h = omega (arith, ints)

  -- the step from a to b goes along a line that holds p
  goes_along : (step : Triple) (h : IsHeldAlong d lines p step)
      → (((pos 0 -ℤ pos 2) *ℤ dot (up_axis d) step) *ℤ across_between d a b) +ℤ ((pos 2 *ℤ dot (right_axis d) step) *ℤ upward_between d a b) ≡ pos 0
  goes_along step h =
      let both = beside (line_along d step h.number) h.listed h.on in
      along_line d (line_along d step h.number) a b both.0 both.1

  pub parallel_steps : (s t : Triple) → IsHeldAlong d lines p s → IsHeldAlong d lines p t → det d s t ≡ pos 0
  parallel_steps s t first second =
      let axis = right_axis-is d in
      zero_of_mul (dot (right_axis d) (right_axis d)) (det d s t) axis.square
      (halved (dot (right_axis d) s) (dot (up_axis d) s) (dot (right_axis d) t) (dot (up_axis d) t) _ (seen_area d (right_axis d) s t axis.level)
      (square_to_both (across_between d a b) (upward_between d a b) _ _ _ _ some_step (goes_along s first) (goes_along t second)))
    where
      halved : (u v x y k : ℤ) → (u *ℤ y) -ℤ (v *ℤ x) ≡ k
          → (((pos 0 -ℤ pos 2) *ℤ v) *ℤ (pos 2 *ℤ x)) -ℤ ((pos 2 *ℤ u) *ℤ ((pos 0 -ℤ pos 2) *ℤ y)) ≡ pos 0 → k ≡ pos 0
      halved u v x y k e f =
          zero_of_mul (pos 4) k (omega (arith, ints))
          (by_two (pos 4 *ℤ k) (pos 0) ((u *ℤ y) -ℤ (v *ℤ x)) k (pos 0 -ℤ pos 4) _ (pos 0) (pos 1)
          (ring (u ∷ v ∷ x ∷ y ∷ k ∷ [])
          ((con (pos 4) ⊗ var 4) ⊖ con (pos 0))
          (((((var 0 ⊗ var 3) ⊖ (var 1 ⊗ var 2)) ⊖ var 4) ⊗ (con (pos 0) ⊖ con (pos 4)))
          ⊕ ((((((con (pos 0) ⊖ con (pos 2)) ⊗ var 1) ⊗ (con (pos 2) ⊗ var 2)) ⊖ ((con (pos 2) ⊗ var 0) ⊗ ((con (pos 0) ⊖ con (pos 2)) ⊗ var 3))) ⊖ con (pos 0)) ⊗ con (pos 1))) refl) e f)
