-- The two pairs of faces of a flip: each point of one is near the other, by the sliver's height.
use Rattle.std.proofs.Common.{◌≡◌, ℕ, ◌+◌, ◌<◌, ◌⊎◌, inl, inr, [], ◌∷◌, refl, sym, ap, ◌∙◌, arith}
use Rattle.std.specs.Prelude.{ℤ, pos, ◌+ℤ◌, ◌*ℤ◌}
use Rattle.std.proofs.lemmas.Int.{ints}
use Rattle.integers.proofs.Ring.{var, con, ◌⊕◌, ◌⊗◌, ring}
use Rattle.lattice.specs.declared.points.Corner.{Corner}
use Rattle.lattice.specs.Points.{Point}
use Rattle.geometry.specs.Faces.{IsPointOfFace}
use Rattle.geometry.proofs.FacePoints.{face_point-round, face_point-turned}
use Rattle.flip_slivers.proofs.Feet.{IsFoot, foot-turned}
use Rattle.flip_slivers.proofs.FootFaces.{IsNearFace, near-edge, near-apex}

-- a point of one side of a face
face_point-of_last_side : (a c d : Corner) (q : Point) → IsPointOfFace a c c q → IsPointOfFace a d c q
face_point-of_last_side a c d q (i, j, k, some, is) = (
  i,
  0,
  j + k,
  positive i j k some,
  is ∙ (λ t. record {
    x = on i j k a.x c.x d.x t;
    y = on i j k a.y c.y d.y t;
    z = on i j k a.z c.z d.z t;
    w = pos (whole i j k t);
  }),
)
  where
    positive : (i j k : ℕ) → 0 < i + j + k → 0 < i + 0 + (j + k)
    positive i j k h = omega arith

    on : (i j k : ℕ) (a c d : ℤ) → ((pos i *ℤ a) +ℤ (pos j *ℤ c)) +ℤ (pos k *ℤ c) ≡ ((pos i *ℤ a) +ℤ (pos 0 *ℤ d)) +ℤ (pos (j + k) *ℤ c)
    on i j k a c d = add (pos i *ℤ a) (pos j) (pos k) c d _ (naturals j k)
      where
        naturals : (j k : ℕ) → pos (j + k) ≡ pos j +ℤ pos k
        naturals j k = omega (arith, ints)

        add : (x j k c d s : ℤ) → s ≡ j +ℤ k → (x +ℤ (j *ℤ c)) +ℤ (k *ℤ c) ≡ (x +ℤ (pos 0 *ℤ d)) +ℤ (s *ℤ c)
        add x j k c d s e =
            ring (x ∷ j ∷ k ∷ c ∷ d ∷ []) ((var 0 ⊕ (var 1 ⊗ var 3)) ⊕ (var 2 ⊗ var 3)) ((var 0 ⊕ (con (pos 0) ⊗ var 4)) ⊕ ((var 1 ⊕ var 2) ⊗ var 3)) refl
            ∙ ap (λ v. (x +ℤ (pos 0 *ℤ d)) +ℤ (v *ℤ c)) (sym e)

    whole : (i j k : ℕ) → i + j + k ≡ i + 0 + (j + k)
    whole i j k = omega arith

-- the corners in another order
near_face-turned : (r : ℕ) (a b c : Corner) (p : Point) → IsNearFace r a b c p → IsNearFace r a c b p
near_face-turned r a b c p (q, on, near) = (q, face_point-turned a b c q on, near)

near_face-round : (r : ℕ) (a b c : Corner) (p : Point) → IsNearFace r a b c p → IsNearFace r b c a p
near_face-round r a b c p (q, on, near) = (q, face_point-round a b c q on, near)

near_face-of_last_side : (r : ℕ) (a c d : Corner) (p : Point) → IsNearFace r a c c p → IsNearFace r a d c p
near_face-of_last_side r a c d p (q, on, near) = (q, face_point-of_last_side a c d q on, near)

module _ (a b c d : Corner) (m n r : ℕ) (foot : IsFoot a b c m n r) where
  to_second : (p : Point) → IsNearFace r b c d p → IsNearFace r d b c p
  to_second p h = near_face-round r c d b p (near_face-round r b c d p h)

  -- to the new faces
  pub from_sliver : (p : Point) → IsPointOfFace a b c p → IsNearFace r a d c p ⊎ IsNearFace r d b c p
  from_sliver p on = either (near-apex a b c c m n r foot p on)
    where
      either : IsNearFace r a c c p ⊎ IsNearFace r b c c p → IsNearFace r a d c p ⊎ IsNearFace r d b c p
      either (inl h) = inl (near_face-of_last_side r a c d p h)
      either (inr h) = inr (to_second p (near_face-turned r b d c p (near_face-of_last_side r b c d p h)))

  pub from_neighbour : (p : Point) → IsPointOfFace b a d p → IsNearFace r a d c p ⊎ IsNearFace r d b c p
  from_neighbour p on = either (near-apex a b c d m n r foot p (face_point-turned a d b p (face_point-round b a d p on)))
    where
      either : IsNearFace r a c d p ⊎ IsNearFace r b c d p → IsNearFace r a d c p ⊎ IsNearFace r d b c p
      either (inl h) = inl (near_face-turned r a c d p h)
      either (inr h) = inr (to_second p h)

  -- to the neighbour
  pub from_first : (p : Point) → IsPointOfFace a d c p → IsNearFace r b a d p
  from_first p on = near_face-turned r b d a p (near_face-round r a b d p (near-edge a b c d m n r foot p on))

  pub from_second : (p : Point) → IsPointOfFace d b c p → IsNearFace r b a d p
  from_second p on = near-edge b a c d n m r (foot-turned a b c m n r foot) p (face_point-turned b c d p (face_point-round d b c p on))
