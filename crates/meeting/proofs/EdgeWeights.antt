-- Two edges have a common point where weights of the ends of one and of the other give one sum.
use Rattle.std.proofs.Common.{◌≡◌, ℕ, ◌+◌, ◌<◌, refl, sym, ◌∙◌, arith}
use Rattle.std.specs.Prelude.{ℤ, pos, ◌+ℤ◌, ◌*ℤ◌, ◌≤ℤ◌, ◌<ℤ◌, unsigned_abs}
use Rattle.std.proofs.lemmas.Int.{ints}
use Rattle.integers.proofs.Absolutes.{abs_of_not_negative}
use Rattle.integers.proofs.Comparisons.{positive_at}
use Rattle.lattice.specs.declared.points.Corner.{Corner}
use Rattle.lattice.specs.Points.{Point}
use Rattle.geometry.specs.Faces.{edge_sum, face_sum, IsPointOfEdge, IsPointOfFace}
use Rattle.meeting.specs.inner.Edges.{EdgesTouch}

-- weights of the ends of two edges that give one point
pub record CommonSum (a b p q : Corner) : Type 0 where
  pub k : ℤ
  pub l : ℤ
  pub i : ℤ
  pub j : ℤ
  pub k_least : pos 0 ≤ℤ k
  pub l_least : pos 0 ≤ℤ l
  pub i_least : pos 0 ≤ℤ i
  pub j_least : pos 0 ≤ℤ j
  pub some : pos 0 <ℤ (i +ℤ j)
  pub whole : k +ℤ l ≡ i +ℤ j
  pub x : (k *ℤ a.x) +ℤ (l *ℤ b.x) ≡ (i *ℤ p.x) +ℤ (j *ℤ q.x)
  pub y : (k *ℤ a.y) +ℤ (l *ℤ b.y) ≡ (i *ℤ p.y) +ℤ (j *ℤ q.y)
  pub z : (k *ℤ a.z) +ℤ (l *ℤ b.z) ≡ (i *ℤ p.z) +ℤ (j *ℤ q.z)

pub touch-of-sum : (a b p q : Corner) → CommonSum a b p q → EdgesTouch a b p q
touch-of-sum a b p q w = record {
  point = edge_sum a b (unsigned_abs w.k) (unsigned_abs w.l);
  on_first = (unsigned_abs w.k, unsigned_abs w.l, count _ _ _ (λ t. is_k t +ℤ is_l t) (positive_at _ _ w.whole w.some), refl);
  on_second = (unsigned_abs w.i, unsigned_abs w.j, count _ _ _ (λ t. is_i t +ℤ is_j t) w.some, same);
}
  where
    is_k : pos (unsigned_abs w.k) ≡ w.k
    is_k = abs_of_not_negative w.k w.k_least

    is_l : pos (unsigned_abs w.l) ≡ w.l
    is_l = abs_of_not_negative w.l w.l_least

    is_i : pos (unsigned_abs w.i) ≡ w.i
    is_i = abs_of_not_negative w.i w.i_least

    is_j : pos (unsigned_abs w.j) ≡ w.j
    is_j = abs_of_not_negative w.j w.j_least

    count : (m n : ℕ) (z : ℤ) → pos m +ℤ pos n ≡ z → pos 0 <ℤ z → 0 < m + n
    count m n z e h = omega (arith, ints)

    along : (f g h k : ℤ) → (w.k *ℤ f) +ℤ (w.l *ℤ g) ≡ (w.i *ℤ h) +ℤ (w.j *ℤ k)
        → (pos (unsigned_abs w.k) *ℤ f) +ℤ (pos (unsigned_abs w.l) *ℤ g) ≡ (pos (unsigned_abs w.i) *ℤ h) +ℤ (pos (unsigned_abs w.j) *ℤ k)
    along f g h k e = (λ t. (is_k t *ℤ f) +ℤ (is_l t *ℤ g)) ∙ e ∙ sym (λ t. (is_i t *ℤ h) +ℤ (is_j t *ℤ k))

    weight : pos (unsigned_abs w.k) +ℤ pos (unsigned_abs w.l) ≡ pos (unsigned_abs w.i) +ℤ pos (unsigned_abs w.j)
    weight = (λ t. is_k t +ℤ is_l t) ∙ w.whole ∙ sym (λ t. is_i t +ℤ is_j t)

    same : edge_sum a b (unsigned_abs w.k) (unsigned_abs w.l) ≡ edge_sum p q (unsigned_abs w.i) (unsigned_abs w.j)
    same =
        let on_x = along a.x b.x p.x q.x w.x in
        let on_y = along a.y b.y p.y q.y w.y in
        let on_z = along a.z b.z p.z q.z w.z in
        λ t. record { x = on_x t; y = on_y t; z = on_z t; w = weight t }

-- ---- points of a triangle's sides from its first corner
pub face-of-second : (a b c : Corner) (s : Point) → IsPointOfEdge a c s → IsPointOfFace a b c s
face-of-second a b c s (k, m, some, is) = (k, 0, m, omega (arith, some), is ∙ same)
  where
    more : (f g h : ℤ) → f +ℤ h ≡ (f +ℤ (pos 0 *ℤ g)) +ℤ h
    more f g h = omega (arith, ints)

    whole : (k m : ℕ) → k + m ≡ k + 0 + m
    whole k m = omega arith

    same : edge_sum a c k m ≡ face_sum a b c k 0 m
    same =
        let on_x = more (pos k *ℤ a.x) b.x (pos m *ℤ c.x) in
        let on_y = more (pos k *ℤ a.y) b.y (pos m *ℤ c.y) in
        let on_z = more (pos k *ℤ a.z) b.z (pos m *ℤ c.z) in
        λ t. record { x = on_x t; y = on_y t; z = on_z t; w = pos (whole k m t) }
