-- Points that are within a distance of a leg: multiples and sums of them, and what lies between two of them.
use Rattle.std.proofs.Common.{◌≡◌, [], ◌∷◌, refl, sym, ap, subst, ◌∙◌, arith}
use Rattle.std.specs.Prelude.{ℤ, pos, ◌+ℤ◌, ◌-ℤ◌, ◌*ℤ◌, ◌<ℤ◌, ◌≤ℤ◌}
use Rattle.std.proofs.lemmas.Int.{ints}
use Rattle.integers.proofs.Comparisons.{not_negative_at, not_negative_of_positive, sum_not_negative}
use Rattle.integers.proofs.Ring.{var, ◌⊕◌, ◌⊖◌, ◌⊗◌, ring, by_one}
use Rattle.integers.proofs.Signs.{mul_nonneg, mul_pos}
use Rattle.covered_paths.specs.Points.{IsNearAt, IsPointNear}
use Rattle.covered_paths.specs.declared.legs.Leg.{Leg}
use Rattle.covered_paths.proofs.Short.{short_sum, short_times, short_same}

four : (i j k l v w : ℤ) → i +ℤ j ≡ v → k +ℤ l ≡ w → (i +ℤ k) +ℤ (j +ℤ l) ≡ v +ℤ w
four i j k l v w e f = omega (arith, ints)

-- what is left of a sum, and of a multiple
left_sum : (x y i j k l a b : ℤ) → (x -ℤ ((i *ℤ a) +ℤ (j *ℤ b))) +ℤ (y -ℤ ((k *ℤ a) +ℤ (l *ℤ b))) ≡ (x +ℤ y) -ℤ (((i +ℤ k) *ℤ a) +ℤ ((j +ℤ l) *ℤ b))
left_sum x y i j k l a b =
    ring (x ∷ y ∷ i ∷ j ∷ k ∷ l ∷ a ∷ b ∷ [])
    ((var 0 ⊖ ((var 2 ⊗ var 6) ⊕ (var 3 ⊗ var 7))) ⊕ (var 1 ⊖ ((var 4 ⊗ var 6) ⊕ (var 5 ⊗ var 7))))
    ((var 0 ⊕ var 1) ⊖ (((var 2 ⊕ var 4) ⊗ var 6) ⊕ ((var 3 ⊕ var 5) ⊗ var 7))) refl

left_times : (k x i j a b : ℤ) → k *ℤ (x -ℤ ((i *ℤ a) +ℤ (j *ℤ b))) ≡ (k *ℤ x) -ℤ (((k *ℤ i) *ℤ a) +ℤ ((k *ℤ j) *ℤ b))
left_times k x i j a b =
    ring (k ∷ x ∷ i ∷ j ∷ a ∷ b ∷ [])
    (var 0 ⊗ (var 1 ⊖ ((var 2 ⊗ var 4) ⊕ (var 3 ⊗ var 5))))
    ((var 0 ⊗ var 1) ⊖ (((var 0 ⊗ var 2) ⊗ var 4) ⊕ ((var 0 ⊗ var 3) ⊗ var 5))) refl

far_sum : (far v w : ℤ) → (far *ℤ v) +ℤ (far *ℤ w) ≡ far *ℤ (v +ℤ w)
far_sum far v w = ring (far ∷ v ∷ w ∷ []) ((var 0 ⊗ var 1) ⊕ (var 0 ⊗ var 2)) (var 0 ⊗ (var 1 ⊕ var 2)) refl

far_times : (far k w : ℤ) → k *ℤ (far *ℤ w) ≡ far *ℤ (k *ℤ w)
far_times far k w = ring (far ∷ k ∷ w ∷ []) (var 1 ⊗ (var 0 ⊗ var 2)) (var 0 ⊗ (var 1 ⊗ var 2)) refl

times_sum : (k i j : ℤ) → (k *ℤ i) +ℤ (k *ℤ j) ≡ k *ℤ (i +ℤ j)
times_sum k i j = far_sum k i j

module _ (far : ℤ) (t : Leg) where
  -- the weights have a sum of at least 0
  weight_left : (x y w : ℤ) → IsNearAt far x y w t → pos 0 ≤ℤ w
  weight_left x y w h = not_negative_at w (h.i +ℤ h.j) (sym h.sum) (sum_not_negative h.i h.j h.first h.second)

  at_sum : (x y w u v z : ℤ) → pos 0 ≤ℤ far → IsNearAt far x y w t → IsNearAt far u v z t → IsNearAt far (x +ℤ u) (y +ℤ v) (w +ℤ z) t
  at_sum x y w u v z hf h k = record {
    i = h.i +ℤ k.i;
    j = h.j +ℤ k.j;
    first = sum_not_negative h.i k.i h.first k.first;
    second = sum_not_negative h.j k.j h.second k.second;
    sum = four h.i h.j k.i k.j w z h.sum k.sum;
    near = short_same _ _ _ _ _ _ (far_sum far w z) (left_sum x u h.i h.j k.i k.j t.x1 t.x2) (left_sum y v h.i h.j k.i k.j t.y1 t.y2)
        (short_sum _ _ (far *ℤ w) _ _ (far *ℤ z) (mul_nonneg far w hf (weight_left x y w h)) (mul_nonneg far z hf (weight_left u v z k)) h.near k.near);
  }

  at_times : (k x y w : ℤ) → pos 0 ≤ℤ k → IsNearAt far x y w t → IsNearAt far (k *ℤ x) (k *ℤ y) (k *ℤ w) t
  at_times k x y w hk h = record {
    i = k *ℤ h.i;
    j = k *ℤ h.j;
    first = mul_nonneg k h.i hk h.first;
    second = mul_nonneg k h.j hk h.second;
    sum = times_sum k h.i h.j ∙ ap (λ (n : ℤ). k *ℤ n) h.sum;
    near = short_same _ _ _ _ _ _ (far_times far k w) (left_times k x h.i h.j t.x1 t.x2) (left_times k y h.i h.j t.y1 t.y2) (short_times k (far *ℤ w) _ _ h.near);
  }

  at_same : (x y w u v z : ℤ) → x ≡ u → y ≡ v → w ≡ z → IsNearAt far x y w t → IsNearAt far u v z t
  at_same x y w u v z e f g h =
      subst (λ (n : ℤ). IsNearAt far n v z t) e (subst (λ (n : ℤ). IsNearAt far x n z t) f (subst (λ (n : ℤ). IsNearAt far x y n t) g h))

  -- a mix of two points, with weights of at least 0
  mix : (u v d k l x y z : ℤ) → (u *ℤ x) +ℤ (v *ℤ y) ≡ d *ℤ z → ((u *ℤ l) *ℤ (k *ℤ x)) +ℤ ((v *ℤ k) *ℤ (l *ℤ y)) ≡ ((k *ℤ l) *ℤ d) *ℤ z
  mix u v d k l x y z e =
      by_one _ _ ((u *ℤ x) +ℤ (v *ℤ y)) (d *ℤ z) (k *ℤ l)
      (ring (u ∷ v ∷ d ∷ k ∷ l ∷ x ∷ y ∷ z ∷ [])
      ((((var 0 ⊗ var 4) ⊗ (var 3 ⊗ var 5)) ⊕ ((var 1 ⊗ var 3) ⊗ (var 4 ⊗ var 6))) ⊖ (((var 3 ⊗ var 4) ⊗ var 2) ⊗ var 7))
      ((((var 0 ⊗ var 5) ⊕ (var 1 ⊗ var 6)) ⊖ (var 2 ⊗ var 7)) ⊗ (var 3 ⊗ var 4)) refl) e

  pub mixed : (u v d x1 y1 w1 x2 y2 w2 x y w : ℤ) → pos 0 ≤ℤ far → pos 0 ≤ℤ u → pos 0 ≤ℤ v → pos 0 <ℤ d
      → (u *ℤ x1) +ℤ (v *ℤ x2) ≡ d *ℤ x → (u *ℤ y1) +ℤ (v *ℤ y2) ≡ d *ℤ y → (u *ℤ w1) +ℤ (v *ℤ w2) ≡ d *ℤ w
      → IsPointNear far x1 y1 w1 t → IsPointNear far x2 y2 w2 t → IsPointNear far x y w t
  mixed u v d x1 y1 w1 x2 y2 w2 x y w hf hu hv hd e f g h k =
      let m = h.scale in
      let n = k.scale in
      record {
        scale = (m *ℤ n) *ℤ d;
        positive = mul_pos (m *ℤ n) d (mul_pos m n h.positive k.positive) hd;
        at = at_same _ _ _ _ _ _ (mix u v d m n x1 x2 x e) (mix u v d m n y1 y2 y f) (mix u v d m n w1 w2 w g)
            (at_sum _ _ _ _ _ _ hf
            (at_times (u *ℤ n) _ _ _ (mul_nonneg u n hu (not_negative_of_positive n k.positive)) h.at)
            (at_times (v *ℤ m) _ _ _ (mul_nonneg v m hv (not_negative_of_positive m h.positive)) k.at));
      }
