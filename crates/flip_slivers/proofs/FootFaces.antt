-- Faces beside the foot of a triangle's height: each point of a face at the foot's edge is near a face with the apex, and the other way about.
use Rattle.std.proofs.Common.{◌≡◌, ℕ, zero, suc, ◌+◌, ◌*◌, ◌<◌, ◌⊎◌, inl, inr, refl, sym, ◌∙◌, subst, arith}
use Rattle.std.specs.Prelude.{ℤ, pos, ◌+ℤ◌, ◌*ℤ◌}
use Rattle.std.proofs.lemmas.Int.{ints}
use Rattle.integers.proofs.Absolutes.{natural_not_negative, natural_positive, natural_of_positive}
use Rattle.integers.proofs.Signs.{mul_pos, mul_nonneg}
use Rattle.lattice.specs.declared.points.Corner.{Corner}
use Rattle.lattice.specs.Points.{Point}
use Rattle.geometry.specs.Faces.{face_sum, IsPointOfFace}
use Rattle.flip_slivers.specs.Near.{AreNear}
use Rattle.flip_slivers.proofs.Nearness.{near-itself, near-symmetric}
use Rattle.flip_slivers.proofs.Feet.{IsFoot, foot-turned, moved, to_weight, to_apex-on_axis, to_share, from_weight, from_apex-on_axis, from_share}

-- a point of the face is near p
abbrev pub IsNearFace : ℕ → Corner → Corner → Corner → Point → Type 0
IsNearFace r a b c p = (q : Point) × IsPointOfFace a b c q × AreNear r p q

-- one number is at least the other
gaps : (x y : ℕ) → ((d : ℕ) × (d + y ≡ x)) ⊎ ((d : ℕ) × (d + x ≡ y))
gaps zero y = inr (y, omega arith)
gaps (suc x) zero = inl (suc x, omega arith)
gaps (suc x) (suc y) = more (gaps x y)
  where
    more : ((d : ℕ) × (d + y ≡ x)) ⊎ ((d : ℕ) × (d + x ≡ y)) → ((d : ℕ) × (d + suc y ≡ suc x)) ⊎ ((d : ℕ) × (d + suc x ≡ suc y))
    more (inl (d, e)) = inl (d, omega arith)
    more (inr (d, e)) = inr (d, omega arith)

-- the first two corners in the other order
face-exchanged : (a b c : Corner) (i j k : ℕ) → face_sum a b c i j k ≡ face_sum b a c j i k
face-exchanged a b c i j k = λ t. record {
  x = exchanged (pos i *ℤ a.x) (pos j *ℤ b.x) (pos k *ℤ c.x) t;
  y = exchanged (pos i *ℤ a.y) (pos j *ℤ b.y) (pos k *ℤ c.y) t;
  z = exchanged (pos i *ℤ a.z) (pos j *ℤ b.z) (pos k *ℤ c.z) t;
  w = pos (whole i j k t);
}
  where
    exchanged : (x y z : ℤ) → (x +ℤ y) +ℤ z ≡ (y +ℤ x) +ℤ z
    exchanged x y z = omega (arith, ints)

    whole : (i j k : ℕ) → i + j + k ≡ j + i + k
    whole i j k = omega arith

-- a corner without a weight
face-without : (a b c e : Corner) (i k : ℕ) → face_sum a b e i 0 k ≡ face_sum a c e i 0 k
face-without a b c e i k = λ t. record {
  x = without (pos i *ℤ a.x) b.x c.x (pos k *ℤ e.x) t;
  y = without (pos i *ℤ a.y) b.y c.y (pos k *ℤ e.y) t;
  z = without (pos i *ℤ a.z) b.z c.z (pos k *ℤ e.z) t;
  w = pos (i + 0 + k);
}
  where
    without : (x b c z : ℤ) → (x +ℤ (pos 0 *ℤ b)) +ℤ z ≡ (x +ℤ (pos 0 *ℤ c)) +ℤ z
    without x b c z = omega (arith, ints)

weight_positive : (j : ℕ) (i d m n : ℕ) → d + suc j * n ≡ i * m → 0 < m + n → 0 < m
weight_positive j i d zero zero e h = absurd (omega arith)
weight_positive j i d zero (suc n) e h = absurd (omega arith)
weight_positive j i d (suc m) n e h = omega arith

module _ (a b c e : Corner) (m n r : ℕ) (foot : IsFoot a b c m n r) where
  along : (i j k d : ℕ) → 0 < i + j + k → d + j * n ≡ i * m → 0 < m → IsNearFace r a c e (face_sum a b e i j k)
  along i j k d some side rising = (
    face_sum a c e d (j * (m + n)) (k * m),
    (d, j * (m + n), k * m, natural_of_positive _ _ (to_weight i j k d m n side) (mul_pos (pos m) (pos (i + j + k)) (natural_positive m rising) (natural_positive _ some)), refl),
    moved a b c m n r foot (face_sum a b e i j k) (face_sum a c e d (j * (m + n)) (k * m)) (pos (i + j + k) *ℤ pos j)
        (mul_nonneg (pos (i + j + k)) (pos j) (natural_not_negative (i + j + k)) (natural_not_negative j))
        (λ t. record {
          x = to_apex-on_axis i j k d m n side a.x b.x c.x e.x t;
          y = to_apex-on_axis i j k d m n side a.y b.y c.y e.y t;
          z = to_apex-on_axis i j k d m n side a.z b.z c.z e.z t;
        })
        (to_share i j k d m n side),
  )

  -- on a's side of the foot
  pub near-first : (i j k d : ℕ) → 0 < i + j + k → d + j * n ≡ i * m → IsNearFace r a c e (face_sum a b e i j k)
  near-first i zero k d some side = (face_sum a b e i 0 k, (i, 0, k, some, face-without a b c e i k), near-itself r (face_sum a b e i 0 k))
  near-first i (suc j) k d some side = along i (suc j) k d some side (weight_positive j i d m n side foot.some)

  -- from the apex to the edge
  pub near-edge : (p : Point) → IsPointOfFace a e c p → IsNearFace r a b e p
  near-edge p (i, j, k, some, is) = subst (λ (q : Point). IsNearFace r a b e q) (sym is) (
    face_sum a b e (i * (m + n) + k * n) (k * m) (j * (m + n)),
    (i * (m + n) + k * n, k * m, j * (m + n), natural_of_positive _ _ (from_weight i j k m n) (mul_pos (pos (i + j + k)) (pos (m + n)) (natural_positive _ some) (natural_positive _ foot.some)), refl),
    near-symmetric r (face_sum a b e (i * (m + n) + k * n) (k * m) (j * (m + n))) (face_sum a e c i j k)
        (moved a b c m n r foot (face_sum a b e (i * (m + n) + k * n) (k * m) (j * (m + n))) (face_sum a e c i j k) (pos (i + j + k) *ℤ pos k)
        (mul_nonneg (pos (i + j + k)) (pos k) (natural_not_negative (i + j + k)) (natural_not_negative k))
        (λ t. record {
          x = from_apex-on_axis i j k m n a.x b.x c.x e.x t;
          y = from_apex-on_axis i j k m n a.y b.y c.y e.y t;
          z = from_apex-on_axis i j k m n a.z b.z c.z e.z t;
        })
        (from_share i j k m n)),
  )

-- from the edge to the apex, on either side of the foot
pub near-apex : (a b c e : Corner) (m n r : ℕ) → IsFoot a b c m n r → (p : Point) → IsPointOfFace a b e p → IsNearFace r a c e p ⊎ IsNearFace r b c e p
near-apex a b c e m n r foot p (i, j, k, some, is) = on_side (gaps (i * m) (j * n))
  where
    turned : (i j k : ℕ) → 0 < i + j + k → 0 < j + i + k
    turned i j k h = omega arith

    on_side : ((d : ℕ) × (d + j * n ≡ i * m)) ⊎ ((d : ℕ) × (d + i * m ≡ j * n)) → IsNearFace r a c e p ⊎ IsNearFace r b c e p
    on_side (inl (d, side)) = inl (subst (λ (q : Point). IsNearFace r a c e q) (sym is) (near-first a b c e m n r foot i j k d some side))
    on_side (inr (d, side)) =
        inr (subst (λ (q : Point). IsNearFace r b c e q) (sym (is ∙ face-exchanged a b e i j k))
        (near-first b a c e n m r (foot-turned a b c m n r foot) j i k d (turned i j k some) side))
