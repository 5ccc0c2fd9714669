-- What two figures have in common is in the box that they have in common.
use Rattle.std.proofs.Common.{◌≡◌, ◌⊎◌, inl, inr, ℕ, ◌+◌, [], ◌∷◌, refl, sym, subst, arith}
use Rattle.std.specs.Prelude.{ℤ, pos, ◌+ℤ◌, ◌-ℤ◌, ◌*ℤ◌, ◌≤ℤ◌}
use Rattle.std.specs.Int.{int_min, int_max}
use Rattle.std.proofs.lemmas.Int.{ints, clamps, by_lt_z}
use Rattle.integers.proofs.Absolutes.{natural_not_negative}
use Rattle.integers.proofs.Comparisons.{at_most_by, gap_of_at_most, same_of_both, sum_not_negative}
use Rattle.integers.proofs.Ring.{var, ◌⊕◌, ◌⊖◌, ◌⊗◌, ring}
use Rattle.integers.proofs.Signs.{mul_nonneg}
use Rattle.lattice.specs.declared.points.Corner.{Corner}
use Rattle.lattice.specs.Points.{Point}
use Rattle.geometry.specs.Faces.{edge_sum, face_sum}
use Rattle.fault_place.specs.Places.{Figure, stretch, triangle, least_of, greatest_of, low_of, high_of, IsPointOf, IsInBoth}
use Rattle.meeting.proofs.TouchingBoxes.{edge_low, edge_high, face_low, face_high}

-- ---- sums with weights are no less, and no greater, than what all their numbers are
share : (i : ℕ) (n p : ℤ) → n ≤ℤ p → pos 0 ≤ℤ (pos i *ℤ (p -ℤ n))
share i n p h = mul_nonneg (pos i) (p -ℤ n) (natural_not_negative i) (gap_of_at_most n p h)

two_from : (i j : ℕ) (p q n : ℤ) → n ≤ℤ p → n ≤ℤ q → (n *ℤ pos (i + j)) ≤ℤ ((pos i *ℤ p) +ℤ (pos j *ℤ q))
two_from i j p q n hp hq =
    at_most_by _ _ _
    (ring (pos i ∷ pos j ∷ p ∷ q ∷ n ∷ [])
    (((var 0 ⊗ var 2) ⊕ (var 1 ⊗ var 3)) ⊖ (var 4 ⊗ (var 0 ⊕ var 1)))
    ((var 0 ⊗ (var 2 ⊖ var 4)) ⊕ (var 1 ⊗ (var 3 ⊖ var 4))) refl)
    (sum_not_negative _ _ (share i n p hp) (share j n q hq))

two_to : (i j : ℕ) (p q n : ℤ) → p ≤ℤ n → q ≤ℤ n → ((pos i *ℤ p) +ℤ (pos j *ℤ q)) ≤ℤ (n *ℤ pos (i + j))
two_to i j p q n hp hq =
    at_most_by _ _ _
    (ring (pos i ∷ pos j ∷ p ∷ q ∷ n ∷ [])
    ((var 4 ⊗ (var 0 ⊕ var 1)) ⊖ ((var 0 ⊗ var 2) ⊕ (var 1 ⊗ var 3)))
    ((var 0 ⊗ (var 4 ⊖ var 2)) ⊕ (var 1 ⊗ (var 4 ⊖ var 3))) refl)
    (sum_not_negative _ _ (share i p n hp) (share j q n hq))

three_from : (i j k : ℕ) (a b c n : ℤ) → n ≤ℤ a → n ≤ℤ b → n ≤ℤ c → (n *ℤ pos (i + j + k)) ≤ℤ (((pos i *ℤ a) +ℤ (pos j *ℤ b)) +ℤ (pos k *ℤ c))
three_from i j k a b c n ha hb hc =
    at_most_by _ _ _
    (ring (pos i ∷ pos j ∷ pos k ∷ a ∷ b ∷ c ∷ n ∷ [])
    ((((var 0 ⊗ var 3) ⊕ (var 1 ⊗ var 4)) ⊕ (var 2 ⊗ var 5)) ⊖ (var 6 ⊗ ((var 0 ⊕ var 1) ⊕ var 2)))
    (((var 0 ⊗ (var 3 ⊖ var 6)) ⊕ (var 1 ⊗ (var 4 ⊖ var 6))) ⊕ (var 2 ⊗ (var 5 ⊖ var 6))) refl)
    (sum_not_negative _ _ (sum_not_negative _ _ (share i n a ha) (share j n b hb)) (share k n c hc))

three_to : (i j k : ℕ) (a b c n : ℤ) → a ≤ℤ n → b ≤ℤ n → c ≤ℤ n → (((pos i *ℤ a) +ℤ (pos j *ℤ b)) +ℤ (pos k *ℤ c)) ≤ℤ (n *ℤ pos (i + j + k))
three_to i j k a b c n ha hb hc =
    at_most_by _ _ _
    (ring (pos i ∷ pos j ∷ pos k ∷ a ∷ b ∷ c ∷ n ∷ [])
    ((var 6 ⊗ ((var 0 ⊕ var 1) ⊕ var 2)) ⊖ (((var 0 ⊗ var 3) ⊕ (var 1 ⊗ var 4)) ⊕ (var 2 ⊗ var 5)))
    (((var 0 ⊗ (var 6 ⊖ var 3)) ⊕ (var 1 ⊗ (var 6 ⊖ var 4))) ⊕ (var 2 ⊗ (var 6 ⊖ var 5))) refl)
    (sum_not_negative _ _ (sum_not_negative _ _ (share i a n ha) (share j b n hb)) (share k c n hc))

-- ---- the ends

greater_is : (u v : ℤ) → (int_max u v ≡ u) ⊎ (int_max u v ≡ v)
greater_is u v =
    by_lt_z u v
    (λ h. inr (same_of_both (int_max u v) v (omega (arith, ints, clamps)) (omega (arith, ints, clamps))))
    (λ h. inl (same_of_both (int_max u v) u (omega (arith, ints, clamps)) (omega (arith, ints, clamps))))

lesser_is : (u v : ℤ) → (int_min u v ≡ u) ⊎ (int_min u v ≡ v)
lesser_is u v =
    by_lt_z u v
    (λ h. inl (same_of_both (int_min u v) u (omega (arith, ints, clamps)) (omega (arith, ints, clamps))))
    (λ h. inr (same_of_both (int_min u v) v (omega (arith, ints, clamps)) (omega (arith, ints, clamps))))

-- ---- along an axis: corners and points have a coordinate there, and a sum's is the sum of its corners'
module _ (axis : Corner → ℤ) (coordinate : Point → ℤ)
    (of_edge : (p q : Corner) (i j : ℕ) → coordinate (edge_sum p q i j) ≡ (pos i *ℤ axis p) +ℤ (pos j *ℤ axis q))
    (of_face : (a b c : Corner) (i j k : ℕ) → coordinate (face_sum a b c i j k) ≡ ((pos i *ℤ axis a) +ℤ (pos j *ℤ axis b)) +ℤ (pos k *ℤ axis c)) where
  from_least : (f : Figure) (p : Point) → IsPointOf f p → (least_of axis f *ℤ p.w) ≤ℤ coordinate p
  from_least (stretch a b) p (i, j, _, is) =
      let (low_a, low_b) = edge_low (axis a) (axis b) in
      let at = two_from i j (axis a) (axis b) (int_min (axis a) (axis b)) low_a low_b in
      subst (λ (q : Point). (least_of axis (stretch a b) *ℤ q.w) ≤ℤ coordinate q) (sym is) (subst (λ (n : ℤ). (least_of axis (stretch a b) *ℤ pos (i + j)) ≤ℤ n) (sym (of_edge a b i j)) at)
  from_least (triangle a b c) p (i, j, k, _, is) =
      let (low_a, low_b, low_c) = face_low (axis a) (axis b) (axis c) in
      let at = three_from i j k (axis a) (axis b) (axis c) (int_min (int_min (axis a) (axis b)) (axis c)) low_a low_b low_c in
      subst (λ (q : Point). (least_of axis (triangle a b c) *ℤ q.w) ≤ℤ coordinate q) (sym is) (subst (λ (n : ℤ). (least_of axis (triangle a b c) *ℤ pos (i + j + k)) ≤ℤ n) (sym (of_face a b c i j k)) at)

  to_greatest : (f : Figure) (p : Point) → IsPointOf f p → coordinate p ≤ℤ (greatest_of axis f *ℤ p.w)
  to_greatest (stretch a b) p (i, j, _, is) =
      let (high_a, high_b) = edge_high (axis a) (axis b) in
      let at = two_to i j (axis a) (axis b) (int_max (axis a) (axis b)) high_a high_b in
      subst (λ (q : Point). coordinate q ≤ℤ (greatest_of axis (stretch a b) *ℤ q.w)) (sym is) (subst (λ (n : ℤ). n ≤ℤ (greatest_of axis (stretch a b) *ℤ pos (i + j))) (sym (of_edge a b i j)) at)
  to_greatest (triangle a b c) p (i, j, k, _, is) =
      let (high_a, high_b, high_c) = face_high (axis a) (axis b) (axis c) in
      let at = three_to i j k (axis a) (axis b) (axis c) (int_max (int_max (axis a) (axis b)) (axis c)) high_a high_b high_c in
      subst (λ (q : Point). coordinate q ≤ℤ (greatest_of axis (triangle a b c) *ℤ q.w)) (sym is) (subst (λ (n : ℤ). n ≤ℤ (greatest_of axis (triangle a b c) *ℤ pos (i + j + k))) (sym (of_face a b c i j k)) at)

  from_low : (f g : Figure) (p : Point) → IsPointOf f p → IsPointOf g p → (low_of axis f g *ℤ p.w) ≤ℤ coordinate p
  from_low f g p in_f in_g = by (greater_is (least_of axis f) (least_of axis g))
    where
      by : (low_of axis f g ≡ least_of axis f) ⊎ (low_of axis f g ≡ least_of axis g) → (low_of axis f g *ℤ p.w) ≤ℤ coordinate p
      by (inl e) = subst (λ (n : ℤ). (n *ℤ p.w) ≤ℤ coordinate p) (sym e) (from_least f p in_f)
      by (inr e) = subst (λ (n : ℤ). (n *ℤ p.w) ≤ℤ coordinate p) (sym e) (from_least g p in_g)

  to_high : (f g : Figure) (p : Point) → IsPointOf f p → IsPointOf g p → coordinate p ≤ℤ (high_of axis f g *ℤ p.w)
  to_high f g p in_f in_g = by (lesser_is (greatest_of axis f) (greatest_of axis g))
    where
      by : (high_of axis f g ≡ greatest_of axis f) ⊎ (high_of axis f g ≡ greatest_of axis g) → coordinate p ≤ℤ (high_of axis f g *ℤ p.w)
      by (inl e) = subst (λ (n : ℤ). coordinate p ≤ℤ (n *ℤ p.w)) (sym e) (to_greatest f p in_f)
      by (inr e) = subst (λ (n : ℤ). coordinate p ≤ℤ (n *ℤ p.w)) (sym e) (to_greatest g p in_g)

pub in_both : (f g : Figure) (p : Point) → IsPointOf f p → IsPointOf g p → IsInBoth f g p
in_both f g p in_f in_g = record {
  x_from = from_low (λ c. c.x) (λ q. q.x) (λ a b i j. refl) (λ a b c i j k. refl) f g p in_f in_g;
  x_to = to_high (λ c. c.x) (λ q. q.x) (λ a b i j. refl) (λ a b c i j k. refl) f g p in_f in_g;
  y_from = from_low (λ c. c.y) (λ q. q.y) (λ a b i j. refl) (λ a b c i j k. refl) f g p in_f in_g;
  y_to = to_high (λ c. c.y) (λ q. q.y) (λ a b i j. refl) (λ a b c i j k. refl) f g p in_f in_g;
  z_from = from_low (λ c. c.z) (λ q. q.z) (λ a b i j. refl) (λ a b c i j k. refl) f g p in_f in_g;
  z_to = to_high (λ c. c.z) (λ q. q.z) (λ a b i j. refl) (λ a b c i j k. refl) f g p in_f in_g;
}
