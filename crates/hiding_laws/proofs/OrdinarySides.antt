-- Over an ordinary point of a sound part, what an edge-on face hides, a face that is not edge-on hides.
use Rattle.std.proofs.Common.{◌≡◌, ℕ, ◌%◌, ◌<◌, All, length, slice_get, Some, [], ◌∷◌, refl, sym, ap, subst, ◌∙◌, arith}
use Rattle.std.specs.Prelude.{ℤ, pos, ◌+ℤ◌, ◌-ℤ◌, ◌*ℤ◌, ◌<ℤ◌}
use Rattle.std.proofs.lemmas.Int.{ints}
use Rattle.std.proofs.lemmas.Option.{slice_get_within, get_or_from_slice_get}
use Rattle.integers.proofs.Ring.{var, con, ◌⊕◌, ◌⊖◌, ◌⊗◌, ring, by_two, same_of_gap}
use Rattle.integers.proofs.Signs.{zero_of_mul}
use Rattle.lattice.specs.declared.points.Corner.{Corner}
use Rattle.lattice.specs.Triangles.{IsBelow}
use Rattle.lattice.specs.Triple.{Triple, IsZero}
use Rattle.lattice.specs.Points.{Point, IsPoint, point_of}
use Rattle.geometry.specs.Faces.{facing_of, FaceHides}
use Rattle.geometry.specs.Parts.{Part, Face}
use Rattle.geometry.specs.Sound.{IsSound}
use Rattle.geometry.specs.Views.{IsOrdinary}
use Rattle.hiding_laws.proofs.Screens.{Screen, area_of, length_of, Covers, SideCovers}
use Rattle.hiding_laws.proofs.OnScreens.{seen, hides_of_covers}
use Rattle.hiding_laws.proofs.ScreenSides.{length_least, length_zero, pos_of_least}
use Rattle.hiding_laws.proofs.Uprights.{rise_of}
use Rattle.hiding_laws.proofs.EdgeOnFaces.{edge_on_faces}
use Rattle.hiding_laws.proofs.HalfFaces.{start_corner, end_corner, apex_corner, at_start, at_end, facing_turned, flat_turned, flat_swap, hides_turned, starts_seen, ends_seen, apex_seen, first_free, second_free}
use Rattle.hiding_laws.proofs.MeshOfPart.{count, starts_at, ends_at, apex_at, twin_of, twin_within, twin_starts, twin_ends, face_of_half, corner_seen, after_half, before_half, mesh_of, is_mesh, is_fan}
use Rattle.hiding_laws.proofs.MeshOfPart as mesh
use Rattle.hiding_laws.proofs.Rises.{level_flat}
use Rattle.hiding_laws.proofs.Seen.{area_some}

-- ---- a side over a spot on whose line of sight no corner is
-- the corner is seen at x
abbrev pub IsSeenAt : Screen → Screen → Type 0
IsSeenAt a x = (a.u *ℤ x.w ≡ x.u) × (a.v *ℤ x.w ≡ x.v)

module _ (i j a b w u : ℤ) (some : pos 0 <ℤ (i +ℤ j)) (same : ((i *ℤ a) +ℤ (j *ℤ b)) *ℤ w ≡ u *ℤ (i +ℤ j)) where
  at_second : i ≡ pos 0 → b *ℤ w ≡ u
  at_second e =
      same_of_gap (b *ℤ w) u (zero_of_mul (i +ℤ j) ((b *ℤ w) -ℤ u) some
      (by_two ((i +ℤ j) *ℤ ((b *ℤ w) -ℤ u)) (pos 0) _ _ (pos 1) i (pos 0) ((b -ℤ a) *ℤ w)
      (ring (i ∷ j ∷ a ∷ b ∷ w ∷ u ∷ [])
      (((var 0 ⊕ var 1) ⊗ ((var 3 ⊗ var 4) ⊖ var 5)) ⊖ con (pos 0))
      ((((((var 0 ⊗ var 2) ⊕ (var 1 ⊗ var 3)) ⊗ var 4) ⊖ (var 5 ⊗ (var 0 ⊕ var 1))) ⊗ con (pos 1)) ⊕ ((var 0 ⊖ con (pos 0)) ⊗ ((var 3 ⊖ var 2) ⊗ var 4))) refl) same e))

  at_first : j ≡ pos 0 → a *ℤ w ≡ u
  at_first e =
      same_of_gap (a *ℤ w) u (zero_of_mul (i +ℤ j) ((a *ℤ w) -ℤ u) some
      (by_two ((i +ℤ j) *ℤ ((a *ℤ w) -ℤ u)) (pos 0) _ _ (pos 1) j (pos 0) ((a -ℤ b) *ℤ w)
      (ring (i ∷ j ∷ a ∷ b ∷ w ∷ u ∷ [])
      (((var 0 ⊕ var 1) ⊗ ((var 2 ⊗ var 4) ⊖ var 5)) ⊖ con (pos 0))
      ((((((var 0 ⊗ var 2) ⊕ (var 1 ⊗ var 3)) ⊗ var 4) ⊖ (var 5 ⊗ (var 0 ⊕ var 1))) ⊗ con (pos 1)) ⊕ ((var 1 ⊖ con (pos 0)) ⊗ ((var 2 ⊖ var 3) ⊗ var 4))) refl) same e))

  at_both : a ≡ b → a *ℤ w ≡ u
  at_both e =
      same_of_gap (a *ℤ w) u (zero_of_mul (i +ℤ j) ((a *ℤ w) -ℤ u) some
      (by_two ((i +ℤ j) *ℤ ((a *ℤ w) -ℤ u)) (pos 0) _ _ (pos 1) a b (j *ℤ w)
      (ring (i ∷ j ∷ a ∷ b ∷ w ∷ u ∷ [])
      (((var 0 ⊕ var 1) ⊗ ((var 2 ⊗ var 4) ⊖ var 5)) ⊖ con (pos 0))
      ((((((var 0 ⊗ var 2) ⊕ (var 1 ⊗ var 3)) ⊗ var 4) ⊖ (var 5 ⊗ (var 0 ⊕ var 1))) ⊗ con (pos 1)) ⊕ ((var 2 ⊖ var 3) ⊗ (var 1 ⊗ var 4))) refl) same e))

inner_side : (a b x : Screen) → ¬ IsSeenAt a x → ¬ IsSeenAt b x → (v : SideCovers a b x) → (pos 0 <ℤ length_of a b) × (pos 0 <ℤ v.i) × (pos 0 <ℤ v.j)
inner_side a b x off_a off_b v = (
  pos_of_least (length_of a b) (length_least a b) (λ e.
      let same = length_zero a b e in
      off_a (at_both v.i v.j a.u b.u x.w x.u v.some v.same_u same.0, at_both v.i v.j a.v b.v x.w x.v v.some v.same_v same.1)),
  pos_of_least v.i v.i_least (λ e. off_b (at_second v.i v.j a.u b.u x.w x.u v.some v.same_u e, at_second v.i v.j a.v b.v x.w x.v v.some v.same_v e)),
  pos_of_least v.j v.j_least (λ e. off_a (at_first v.i v.j a.u b.u x.w x.u v.some v.same_u e, at_first v.i v.j a.v b.v x.w x.v v.some v.same_v e)),
)

-- ---- in a sound part
module _ (d : Triple) (directed : ¬ IsZero d) (s : Part) (sound : IsSound s) (in_range : All (IsBelow (length s.corners)) s.triangles) where
  abbrev back : ℕ → ℕ
  back h = twin_of s sound.closed h

  abbrev face : (h : ℕ) → h < count s → Face s
  face h l = face_of_half s sound.closed in_range h l

  abbrev seen_at : ℕ → Screen
  seen_at n = corner_seen d s n

  -- an edge-on triangle rises over its sides that are not seen end-on
  abbrev Rises : Screen → Screen → Screen → Type 0
  Rises a b c = pos 0 <ℤ length_of a b → area_of a b c ≡ pos 0 → ¬ (rise_of a b c ≡ pos 0)

  rises_at : (a b c a' b' c' : Screen) → a ≡ a' → b ≡ b' → c ≡ c' → Rises a' b' c' → Rises a b c
  rises_at a b c a' b' c' p q r h = subst (λ x. Rises x b c) (sym p) (subst (λ x. Rises a' x c) (sym q) (subst (λ x. Rises a' b' x) (sym r) h))

  module _ (h : ℕ) (l : h < count s) where
    own_rises : Rises (seen_at (starts_at s h)) (seen_at (ends_at s h)) (seen_at (apex_at s h))
    own_rises =
        let f = face h l in
        rises_at _ _ _ _ _ _ (starts_seen d directed s sound in_range h l) (ends_seen d directed s sound in_range h l) (apex_seen d directed s sound in_range h l)
        (λ long level low. sound.closed.none_flat f (flat_turned f (h % 3) (level_flat d directed (start_corner f (h % 3)) (end_corner f (h % 3)) (apex_corner f (h % 3)) long level low)))

    other_rises : Rises (seen_at (starts_at s h)) (seen_at (ends_at s h)) (seen_at (apex_at s (back h)))
    other_rises =
        let there = twin_within s sound.closed h l in
        let f = face (back h) there in
        let side = back h % 3 in
        rises_at _ _ _ _ _ _
        (ap seen_at (sym (twin_ends s sound.closed h l)) ∙ ends_seen d directed s sound in_range (back h) there)
        (ap seen_at (sym (twin_starts s sound.closed h l)) ∙ starts_seen d directed s sound in_range (back h) there)
        (apex_seen d directed s sound in_range (back h) there)
        (λ long level low. sound.closed.none_flat f (flat_turned f side (flat_swap (start_corner f side) (end_corner f side) (apex_corner f side) (level_flat d directed (end_corner f side) (start_corner f side) (apex_corner f side) long level low))))

    whole_start : (seen_at (starts_at s h)).w ≡ pos 1
    whole_start = ap (λ (x : Screen). x.w) (starts_seen d directed s sound in_range h l)

    whole_apex : (seen_at (apex_at s h)).w ≡ pos 1
    whole_apex = ap (λ (x : Screen). x.w) (apex_seen d directed s sound in_range h l)

  module _ (p : Point) (point : IsPoint p) (ordinary : IsOrdinary d s p) where
    off_corner : (n : ℕ) (c : Corner) → slice_get s.corners n ≡ Some c → ¬ IsSeenAt (seen d (point_of c)) (seen d p)
    off_corner n c at e =
        ordinary.off_corners c (n, slice_get_within s.corners n c at, get_or_from_slice_get s.corners n c c at) (record { across = e.0 ∙ once _; upward = e.1 ∙ once _ })
      where
        once : (z : ℤ) → z ≡ z *ℤ pos 1
        once z = omega (arith, ints)

    inner : (h : ℕ) → h < count s → (v : SideCovers (seen_at (starts_at s h)) (seen_at (ends_at s h)) (seen d p))
        → (pos 0 <ℤ length_of (seen_at (starts_at s h)) (seen_at (ends_at s h))) × (pos 0 <ℤ v.i) × (pos 0 <ℤ v.j)
    inner h l v =
        inner_side _ _ (seen d p)
        (subst (λ (x : Screen). ¬ IsSeenAt x (seen d p)) (sym (starts_seen d directed s sound in_range h l)) (off_corner (starts_at s h) _ (at_start (face h l) (h % 3))))
        (subst (λ (x : Screen). ¬ IsSeenAt x (seen d p)) (sym (ends_seen d directed s sound in_range h l)) (off_corner (ends_at s h) _ (at_end (face h l) (h % 3))))
        v

    -- a face that is not edge-on and hides the point
    abbrev pub IsHiddenByTurned : Type 0
    IsHiddenByTurned = (f : Face s) × (¬ (facing_of d f.a f.b f.c ≡ pos 0)) × FaceHides d f.a f.b f.c p

    turned_face : (g : ℕ) → g < count s → ¬ (area_of (seen_at (starts_at s g)) (seen_at (ends_at s g)) (seen_at (apex_at s g)) ≡ pos 0)
        → Covers (seen_at (starts_at s g)) (seen_at (ends_at s g)) (seen_at (apex_at s g)) (seen d p) → IsHiddenByTurned
    turned_face g l some covers =
        let f = face g l in
        let k = g % 3 in
        let start = starts_seen d directed s sound in_range g l in
        let end = ends_seen d directed s sound in_range g l in
        let apex = apex_seen d directed s sound in_range g l in
        let covers' : Covers (seen d (point_of (start_corner f k))) (seen d (point_of (end_corner f k))) (seen d (point_of (apex_corner f k))) (seen d p) =
        subst (λ x. Covers x (seen d (point_of (end_corner f k))) (seen d (point_of (apex_corner f k))) (seen d p)) start
        (subst (λ x. Covers (seen_at (starts_at s g)) x (seen d (point_of (apex_corner f k))) (seen d p)) end
        (subst (λ x. Covers (seen_at (starts_at s g)) (seen_at (ends_at s g)) x (seen d p)) apex covers)) in (
          f,
          (λ e. area_some d (start_corner f k) (end_corner f k) (apex_corner f k) (λ z. some ((λ i. area_of (start i) (end i) (apex i)) ∙ z)) (facing_turned f d k ∙ e)),
          hides_turned f d p k (hides_of_covers d (start_corner f k) (end_corner f k) (apex_corner f k) p covers'),
        )

    pub under_side : (h : ℕ) → h < count s → SideCovers (seen_at (starts_at s h)) (seen_at (ends_at s h)) (seen d p) → IsHiddenByTurned
    under_side h l v =
        let r = edge_on_faces (mesh_of d s sound.closed) (mesh.apex_seen d s) (after_half d s) (before_half d s) (seen d p) (is_mesh d s sound.closed in_range) (is_fan d s sound.closed) point
        (λ h l. (whole_start h l, whole_apex h l)) inner own_rises other_rises
        (λ h l. (first_free d directed s sound in_range h l, second_free d directed s sound in_range h l)) h l v in
        turned_face r.0 r.1 r.2 r.3
