-- In a sound part the corners that triangles have are at different places.
use Rattle.std.proofs.Common.{◌≡◌, ◌≢◌, ℕ, zero, suc, ◌+◌, ◌*◌, ◌/◌, ◌%◌, ◌<◌, ◌⊎◌, inl, inr, [], ◌∷◌, All, length, slice_get, Some, refl, sym, ap, subst, ◌∙◌, arith}
use Rattle.std.specs.Prelude.{ℤ, pos, ◌+ℤ◌, ◌*ℤ◌}
use Rattle.std.proofs.lemmas.Bool.{cases_eq}
use Rattle.std.proofs.lemmas.Int.{ints}
use Rattle.integers.proofs.Lists.{some_element}
use Rattle.lattice.specs.declared.points.Corner.{Corner}
use Rattle.lattice.specs.declared.soup.Tri.{Tri}
use Rattle.lattice.specs.Points.{point_of, AreOnePoint}
use Rattle.lattice.specs.Triangles.{IsBelow}
use Rattle.geometry.specs.Faces.{IsFlat, IsPointOfEdge, IsPointOfFace}
use Rattle.geometry.specs.Parts.{Part, Face, Edge, IsHalf, IsCornerOf, part_with, start_of, end_of}
use Rattle.geometry.specs.Sound.{IsSound, IsAtSharedCorner}
use Rattle.geometry.proofs.EachEdge.{flat_face}
use Rattle.geometry.proofs.Listed.{same_element, triangle_below, face_at, edge_of}
use Rattle.answers_unique.proofs.OneCorner.{same_corner}

-- ---- triangles with two equal corners are flat
flat_first : (a b c : Corner) → a ≡ b → IsFlat a b c
flat_first a b c e =
    let t : Tri = record { a = 0; b = 0; c = 1 } in
    subst (λ (x : Corner). IsFlat a x c) e
    (flat_face (part_with (a ∷ c ∷ []) (t ∷ [])) (record { number = 0; tri = t; a = a; b = a; c = c; listed = refl; at_a = refl; at_b = refl; at_c = refl }) 0 refl)

flat_second : (a b c : Corner) → b ≡ c → IsFlat a b c
flat_second a b c e =
    let t : Tri = record { a = 0; b = 1; c = 1 } in
    subst (λ (x : Corner). IsFlat a b x) e
    (flat_face (part_with (a ∷ b ∷ []) (t ∷ [])) (record { number = 0; tri = t; a = a; b = b; c = b; listed = refl; at_a = refl; at_b = refl; at_c = refl }) 1 refl)

flat_third : (a b c : Corner) → c ≡ a → IsFlat a b c
flat_third a b c e =
    let t : Tri = record { a = 0; b = 1; c = 0 } in
    subst (λ (x : Corner). IsFlat a b x) (sym e)
    (flat_face (part_with (a ∷ b ∷ []) (t ∷ [])) (record { number = 0; tri = t; a = a; b = b; c = a; listed = refl; at_a = refl; at_b = refl; at_c = refl }) 2 refl)

-- ---- a corner is a point of its edges and faces
edge_first : (x y : ℤ) → x ≡ (pos 1 *ℤ x) +ℤ (pos 0 *ℤ y)
edge_first x y = omega (arith, ints)

face_first : (x y z : ℤ) → x ≡ ((pos 1 *ℤ x) +ℤ (pos 0 *ℤ y)) +ℤ (pos 0 *ℤ z)
face_first x y z = omega (arith, ints)

face_second : (x y z : ℤ) → y ≡ ((pos 0 *ℤ x) +ℤ (pos 1 *ℤ y)) +ℤ (pos 0 *ℤ z)
face_second x y z = omega (arith, ints)

face_third : (x y z : ℤ) → z ≡ ((pos 0 *ℤ x) +ℤ (pos 0 *ℤ y)) +ℤ (pos 1 *ℤ z)
face_third x y z = omega (arith, ints)

first_on_edge : (a b : Corner) → IsPointOfEdge a b (point_of a)
first_on_edge a b = (1, 0, omega arith, λ i. record { x = edge_first a.x b.x i; y = edge_first a.y b.y i; z = edge_first a.z b.z i; w = pos 1 })

first_on_face : (a b c : Corner) → IsPointOfFace a b c (point_of a)
first_on_face a b c = (1, 0, 0, omega arith, λ i. record { x = face_first a.x b.x c.x i; y = face_first a.y b.y c.y i; z = face_first a.z b.z c.z i; w = pos 1 })

second_on_face : (a b c : Corner) → IsPointOfFace a b c (point_of b)
second_on_face a b c = (0, 1, 0, omega arith, λ i. record { x = face_second a.x b.x c.x i; y = face_second a.y b.y c.y i; z = face_second a.z b.z c.z i; w = pos 1 })

third_on_face : (a b c : Corner) → IsPointOfFace a b c (point_of c)
third_on_face a b c = (0, 0, 1, omega arith, λ i. record { x = face_third a.x b.x c.x i; y = face_third a.y b.y c.y i; z = face_third a.z b.z c.z i; w = pos 1 })

one_corner : (c d : Corner) → AreOnePoint (point_of c) (point_of d) → c ≡ d
one_corner c d one = same_corner c d (λ i. record { x = once c.x d.x one.x i; y = once c.y d.y one.y i; z = once c.z d.z one.z i })
  where
    once : (x y : ℤ) → x *ℤ pos 1 ≡ y *ℤ pos 1 → x ≡ y
    once x y e = omega (arith, ints)

-- ---- sides
pub start_is_corner : (t : Tri) (side m : ℕ) → start_of t side ≡ m → IsCornerOf t m
start_is_corner t zero m e = inl e
start_is_corner t (suc zero) m e = inr (inl e)
start_is_corner t (suc (suc side)) m e = inr (inr e)

pub end_is_corner : (t : Tri) (side m : ℕ) → end_of t side ≡ m → IsCornerOf t m
end_is_corner t zero m e = inr (inl e)
end_is_corner t (suc zero) m e = inr (inr e)
end_is_corner t (suc (suc side)) m e = inl e

side_of : (t : Tri) (m : ℕ) → IsCornerOf t m → (side : ℕ) × (side < 3) × (start_of t side ≡ m)
side_of t m (inl e) = (0, omega arith, e)
side_of t m (inr (inl e)) = (1, omega arith, e)
side_of t m (inr (inr e)) = (2, omega arith, e)

module _ (s : Part) (in_range : All (IsBelow (length s.corners)) s.triangles) (sound : IsSound s) where
  -- a half that begins at a corner of a triangle
  half_from : (i m : ℕ) (t : Tri) → slice_get s.triangles i ≡ Some t → IsCornerOf t m → (half : ℕ) × (n : ℕ) × IsHalf s half m n
  half_from i m t at has =
      let (side, small, starts) = side_of t m has in
      let whole : (3 * i + side) / 3 ≡ i = omega (arith, small) in
      let rest : (3 * i + side) % 3 ≡ side = omega (arith, small) in (
        3 * i + side,
        end_of t side,
        record {
          tri = t;
          at = ap (slice_get s.triangles) whole ∙ at;
          start = ap (start_of t) rest ∙ starts;
          end = ap (end_of t) rest;
        },
      )

  -- no triangle has two corners at one place
  no_two : (i m n : ℕ) (t : Tri) (a : Corner) → slice_get s.triangles i ≡ Some t → IsCornerOf t m → IsCornerOf t n → slice_get s.corners m ≡ Some a → slice_get s.corners n ≡ Some a → m ≢ n → ⊥
  no_two i m n t a at first second here there differ = by first second
    where
      f : Face s
      f = face_at s in_range t i at

      read : (k l : ℕ) (c : Corner) → k ≡ l → slice_get s.corners k ≡ Some c → slice_get s.corners l ≡ Some a → c ≡ a
      read k l c e p q = same_element s.corners k l c a e p q

      by : IsCornerOf t m → IsCornerOf t n → ⊥
      by (inl e) (inl h) = differ (sym e ∙ h)
      by (inl e) (inr (inl h)) = sound.closed.none_flat f (flat_first f.a f.b f.c (read t.a m f.a e f.at_a here ∙ sym (read t.b n f.b h f.at_b there)))
      by (inl e) (inr (inr h)) = sound.closed.none_flat f (flat_third f.a f.b f.c (read t.c n f.c h f.at_c there ∙ sym (read t.a m f.a e f.at_a here)))
      by (inr (inl e)) (inl h) = sound.closed.none_flat f (flat_first f.a f.b f.c (read t.a n f.a h f.at_a there ∙ sym (read t.b m f.b e f.at_b here)))
      by (inr (inl e)) (inr (inl h)) = differ (sym e ∙ h)
      by (inr (inl e)) (inr (inr h)) = sound.closed.none_flat f (flat_second f.a f.b f.c (read t.b m f.b e f.at_b here ∙ sym (read t.c n f.c h f.at_c there)))
      by (inr (inr e)) (inl h) = sound.closed.none_flat f (flat_third f.a f.b f.c (read t.c m f.c e f.at_c here ∙ sym (read t.a n f.a h f.at_a there)))
      by (inr (inr e)) (inr (inl h)) = sound.closed.none_flat f (flat_second f.a f.b f.c (read t.b n f.b h f.at_b there ∙ sym (read t.c m f.c e f.at_c here)))
      by (inr (inr e)) (inr (inr h)) = differ (sym e ∙ h)

  -- the edge ends at the place of a corner that the face has, and not its own
  end_met : (half other m k j n : ℕ) (u : Tri) (a b : Corner) → IsHalf s half m k → IsHalf s other k m → slice_get s.corners m ≡ Some a → slice_get s.corners k ≡ Some b
      → slice_get s.triangles j ≡ Some u → IsCornerOf u n → slice_get s.corners n ≡ Some a → m ≢ n → ⊥
  end_met half other m k j n u a b goes returns at_m at_k at has at_n differ = from (sound.apart e f (point_of a) (record { not_left = not_left; not_right = not_right; on_edge = first_on_edge a b; on_face = on_face has }))
    where
      e : Edge s
      e = edge_of s in_range half other m k a b goes returns at_m at_k

      f : Face s
      f = face_at s in_range u j at

      -- the face hasn't the edge's end
      not_both : IsCornerOf u m → ⊥
      not_both h = no_two j m n u a at h has at_m at_n differ

      not_left : j ≢ half / 3
      not_left same =
          let tri_is : goes.tri ≡ u = same_element s.triangles (half / 3) j goes.tri u (sym same) goes.at at in
          not_both (subst (λ (t : Tri). IsCornerOf t m) tri_is (start_is_corner goes.tri (half % 3) m goes.start))

      not_right : j ≢ other / 3
      not_right same =
          let tri_is : returns.tri ≡ u = same_element s.triangles (other / 3) j returns.tri u (sym same) returns.at at in
          not_both (subst (λ (t : Tri). IsCornerOf t m) tri_is (end_is_corner returns.tri (other % 3) m returns.end))

      on_face : IsCornerOf u n → IsPointOfFace f.a f.b f.c (point_of a)
      on_face (inl h) = subst (λ (x : Corner). IsPointOfFace f.a f.b f.c (point_of x)) (same_element s.corners u.a n f.a a h f.at_a at_n) (first_on_face f.a f.b f.c)
      on_face (inr (inl h)) = subst (λ (x : Corner). IsPointOfFace f.a f.b f.c (point_of x)) (same_element s.corners u.b n f.b a h f.at_b at_n) (second_on_face f.a f.b f.c)
      on_face (inr (inr h)) = subst (λ (x : Corner). IsPointOfFace f.a f.b f.c (point_of x)) (same_element s.corners u.c n f.c a h f.at_c at_n) (third_on_face f.a f.b f.c)

      far_end : (number : ℕ) → k ≡ number → slice_get s.corners number ≡ Some a → IsCornerOf u number → ⊥
      far_end number same at_number shared = go (cases_eq m k)
        where
          go : (m ≡ k) ⊎ (m ≢ k) → ⊥
          go (inl loop) = not_both (subst (λ (l : ℕ). IsCornerOf u l) (sym (loop ∙ same)) shared)
          go (inr apart) =
              no_two (half / 3) m k goes.tri a goes.at (start_is_corner goes.tri (half % 3) m goes.start) (end_is_corner goes.tri (half % 3) k goes.end) at_m
              (ap (slice_get s.corners) same ∙ at_number) apart

      from : IsAtSharedCorner e f (point_of a) → ⊥
      from shared = by shared.of_edge
        where
          at_number : slice_get s.corners shared.number ≡ Some a
          at_number = shared.at ∙ ap Some (one_corner shared.corner a shared.here)

          by : (m ≡ shared.number) ⊎ (k ≡ shared.number) → ⊥
          by (inl same) = not_both (subst (λ (l : ℕ). IsCornerOf u l) (sym same) shared.of_face)
          by (inr same) = far_end shared.number same at_number shared.of_face

  pub number_once : (i j m n : ℕ) (t u : Tri) (a : Corner) → slice_get s.triangles i ≡ Some t → IsCornerOf t m → slice_get s.triangles j ≡ Some u → IsCornerOf u n
      → slice_get s.corners m ≡ Some a → slice_get s.corners n ≡ Some a → m ≡ n
  number_once i j m n t u a at_t of_t at_u of_u here there = by (cases_eq m n)
    where
      differing : m ≢ n → ⊥
      differing differ =
          let (half, k, goes) = half_from i m t at_t of_t in
          let (other, returns) = sound.closed.returns half m k goes in
          let end = some_element s.corners k (end_within half k m goes) in
          end_met half other m k j n u a end.0 goes returns here end.1 at_u of_u there differ
        where
          end_within : (half k m : ℕ) → IsHalf s half m k → k < length s.corners
          end_within half k m goes =
              let below = triangle_below s in_range goes.tri (half / 3) goes.at in
              corner_below goes.tri k below (end_is_corner goes.tri (half % 3) k goes.end)
            where
              corner_below : (t : Tri) (k : ℕ) → IsBelow (length s.corners) t → IsCornerOf t k → k < length s.corners
              corner_below t k below (inl e) = subst (λ (l : ℕ). l < length s.corners) e below.a
              corner_below t k below (inr (inl e)) = subst (λ (l : ℕ). l < length s.corners) e below.b
              corner_below t k below (inr (inr e)) = subst (λ (l : ℕ). l < length s.corners) e below.c

      by : (m ≡ n) ⊎ (m ≢ n) → m ≡ n
      by (inl same) = same
      by (inr differ) = absurd (differing differ)
