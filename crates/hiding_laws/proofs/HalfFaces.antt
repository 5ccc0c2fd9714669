-- The faces at the two halves of an edge of a sound part, each by its half, and what neither of them pierces.
use Rattle.std.proofs.Common.{◌≡◌, ◌≢◌, ◌⊎◌, inl, inr, ℕ, zero, suc, ◌/◌, ◌%◌, ◌<◌, All, Some, length, slice_get, [], ◌∷◌, refl, sym, ap, subst, ◌∙◌}
use Rattle.std.specs.Prelude.{pos, negsuc}
use Rattle.integers.proofs.Ring.{con, ◌⊖◌, ◌⊗◌, ring, by_one}
use Rattle.lattice.specs.declared.points.Corner.{Corner}
use Rattle.lattice.specs.declared.soup.Tri.{Tri}
use Rattle.lattice.specs.Triangles.{IsBelow}
use Rattle.lattice.specs.Triple.{Triple, IsZero}
use Rattle.lattice.specs.Points.{Point, point_of}
use Rattle.lattice.proofs.Vectors.{Letters, letters}
use Rattle.geometry.specs.Faces.{normal, IsFlat, facing_of, FaceHides}
use Rattle.geometry.specs.Parts.{Part, Face, Edge, IsCornerOf, AreDouble, start_of, end_of}
use Rattle.geometry.specs.Sound.{IsSound}
use Rattle.geometry.proofs.EachEdge.{flat_face}
use Rattle.hiding_laws.proofs.Screens.{Screen}
use Rattle.hiding_laws.proofs.Hiding.{hides_around}
use Rattle.hiding_laws.proofs.OnScreens.{seen}
use Rattle.lattice.proofs.PointLetters.{normals}
use Rattle.hiding_laws.proofs.Weights.{facing-round}
use Rattle.hiding_laws.proofs.Shares.{IsUnpierced}
use Rattle.hiding_laws.proofs.MeshOfPart.{count, triangle_at, starts_at, ends_at, apex_at, apex_of, half_at, twin_of, twin_within, twin_half, twin_starts, twin_ends, twin_back, face_of_half, goes_on, corner_seen, corner-seen, after_half, before_half, after_within, before_within, after_starts, after_ends, before_starts, before_ends}
use Rattle.hiding_laws.proofs.OneFace.{touches_rotate, touches_swap}
use Rattle.hiding_laws.proofs.Unpierced.{unpierced}

-- ---- the corners in turn
abbrev A : Letters
A = letters 0

abbrev B : Letters
B = letters 3

abbrev C : Letters
C = letters 6

flat_around : (a b c : Corner) → IsFlat a b c → IsFlat b c a
flat_around a b c h = record { x = same_x ∙ h.x; y = same_y ∙ h.y; z = same_z ∙ h.z }
  where
    same_x : (normal b c a).x ≡ (normal a b c).x
    same_x = ring (a.x ∷ a.y ∷ a.z ∷ b.x ∷ b.y ∷ b.z ∷ c.x ∷ c.y ∷ c.z ∷ []) (normals B C A).x (normals A B C).x refl

    same_y : (normal b c a).y ≡ (normal a b c).y
    same_y = ring (a.x ∷ a.y ∷ a.z ∷ b.x ∷ b.y ∷ b.z ∷ c.x ∷ c.y ∷ c.z ∷ []) (normals B C A).y (normals A B C).y refl

    same_z : (normal b c a).z ≡ (normal a b c).z
    same_z = ring (a.x ∷ a.y ∷ a.z ∷ b.x ∷ b.y ∷ b.z ∷ c.x ∷ c.y ∷ c.z ∷ []) (normals B C A).z (normals A B C).z refl

pub flat_swap : (a b c : Corner) → IsFlat b a c → IsFlat a b c
flat_swap a b c h = record {
  x = by_one _ _ _ _ (negsuc 0) (ring (a.x ∷ a.y ∷ a.z ∷ b.x ∷ b.y ∷ b.z ∷ c.x ∷ c.y ∷ c.z ∷ []) ((normals A B C).x ⊖ con (pos 0)) (((normals B A C).x ⊖ con (pos 0)) ⊗ con (negsuc 0)) refl) h.x;
  y = by_one _ _ _ _ (negsuc 0) (ring (a.x ∷ a.y ∷ a.z ∷ b.x ∷ b.y ∷ b.z ∷ c.x ∷ c.y ∷ c.z ∷ []) ((normals A B C).y ⊖ con (pos 0)) (((normals B A C).y ⊖ con (pos 0)) ⊗ con (negsuc 0)) refl) h.y;
  z = by_one _ _ _ _ (negsuc 0) (ring (a.x ∷ a.y ∷ a.z ∷ b.x ∷ b.y ∷ b.z ∷ c.x ∷ c.y ∷ c.z ∷ []) ((normals A B C).z ⊖ con (pos 0)) (((normals B A C).z ⊖ con (pos 0)) ⊗ con (negsuc 0)) refl) h.z;
}

-- ---- the corners of a face, from one of its sides on
module _ {s : Part} (f : Face s) where
  abbrev pub start_corner : ℕ → Corner
  start_corner zero = f.a
  start_corner (suc zero) = f.b
  start_corner (suc (suc side)) = f.c

  abbrev pub end_corner : ℕ → Corner
  end_corner zero = f.b
  end_corner (suc zero) = f.c
  end_corner (suc (suc side)) = f.a

  abbrev pub apex_corner : ℕ → Corner
  apex_corner zero = f.c
  apex_corner (suc zero) = f.a
  apex_corner (suc (suc side)) = f.b

  pub at_start : (side : ℕ) → slice_get s.corners (start_of f.tri side) ≡ Some (start_corner side)
  at_start zero = f.at_a
  at_start (suc zero) = f.at_b
  at_start (suc (suc side)) = f.at_c

  pub at_end : (side : ℕ) → slice_get s.corners (end_of f.tri side) ≡ Some (end_corner side)
  at_end zero = f.at_b
  at_end (suc zero) = f.at_c
  at_end (suc (suc side)) = f.at_a

  pub at_apex : (side : ℕ) → slice_get s.corners (apex_of f.tri side) ≡ Some (apex_corner side)
  at_apex zero = f.at_c
  at_apex (suc zero) = f.at_a
  at_apex (suc (suc side)) = f.at_b

  -- what is so of the face is so of its corners in turn
  pub facing_turned : (d : Triple) (side : ℕ) → facing_of d (start_corner side) (end_corner side) (apex_corner side) ≡ facing_of d f.a f.b f.c
  facing_turned d zero = refl
  facing_turned d (suc zero) = facing-round d f.a f.b f.c
  facing_turned d (suc (suc side)) = sym (facing-round d f.c f.a f.b)

  pub flat_turned : (side : ℕ) → IsFlat (start_corner side) (end_corner side) (apex_corner side) → IsFlat f.a f.b f.c
  flat_turned zero h = h
  flat_turned (suc zero) h = flat_around f.c f.a f.b (flat_around f.b f.c f.a h)
  flat_turned (suc (suc side)) h = flat_around f.c f.a f.b h

  pub hides_turned : (d : Triple) (p : Point) (side : ℕ) → FaceHides d (start_corner side) (end_corner side) (apex_corner side) p → FaceHides d f.a f.b f.c p
  hides_turned d p zero h = h
  hides_turned d p (suc zero) h = hides_around d f.c f.a f.b p (hides_around d f.b f.c f.a p h)
  hides_turned d p (suc (suc side)) h = hides_around d f.c f.a f.b p h

  pub unpierced_turned : (d : Triple) (p q : Screen) (side : ℕ) → IsUnpierced p q (seen d (point_of f.a)) (seen d (point_of f.b)) (seen d (point_of f.c))
      → IsUnpierced p q (seen d (point_of (start_corner side))) (seen d (point_of (end_corner side))) (seen d (point_of (apex_corner side)))
  unpierced_turned d p q zero h n m g l t = h n m g l t
  unpierced_turned d p q (suc zero) h n m g l t = h n m g l (touches_rotate _ _ _ _ t)
  unpierced_turned d p q (suc (suc side)) h n m g l t = h n m g l (touches_rotate _ _ _ _ (touches_rotate _ _ _ _ t))

-- ---- the numbers of a triangle's corners, from one of its sides on
pub side_corners : (t : Tri) (side x : ℕ) → IsCornerOf t x → (start_of t side ≡ x) ⊎ (end_of t side ≡ x) ⊎ (apex_of t side ≡ x)
side_corners t zero x h = h
side_corners t (suc zero) x (inl h) = inr (inr h)
side_corners t (suc zero) x (inr (inl h)) = inl h
side_corners t (suc zero) x (inr (inr h)) = inr (inl h)
side_corners t (suc (suc side)) x (inl h) = inr (inl h)
side_corners t (suc (suc side)) x (inr (inl h)) = inr (inr h)
side_corners t (suc (suc side)) x (inr (inr h)) = inl h

pub corner_of_side : (t : Tri) (side x : ℕ) → (start_of t side ≡ x) ⊎ (end_of t side ≡ x) ⊎ (apex_of t side ≡ x) → IsCornerOf t x
corner_of_side t zero x h = h
corner_of_side t (suc zero) x (inl h) = inr (inl h)
corner_of_side t (suc zero) x (inr (inl h)) = inr (inr h)
corner_of_side t (suc zero) x (inr (inr h)) = inl h
corner_of_side t (suc (suc side)) x (inl h) = inr (inr h)
corner_of_side t (suc (suc side)) x (inr (inl h)) = inl h
corner_of_side t (suc (suc side)) x (inr (inr h)) = inr (inl h)

-- no side of a triangle with three corners goes back along another
no_return : (t : Tri) (k l : ℕ) → t.a ≢ t.b → t.b ≢ t.c → t.c ≢ t.a → start_of t l ≡ end_of t k → end_of t l ≡ start_of t k → ⊥
no_return t zero zero ab bc ca e f = ab e
no_return t zero (suc zero) ab bc ca e f = ca f
no_return t zero (suc (suc l)) ab bc ca e f = bc (sym e)
no_return t (suc zero) zero ab bc ca e f = ca (sym e)
no_return t (suc zero) (suc zero) ab bc ca e f = bc e
no_return t (suc zero) (suc (suc l)) ab bc ca e f = ab f
no_return t (suc (suc k)) zero ab bc ca e f = bc f
no_return t (suc (suc k)) (suc zero) ab bc ca e f = ab (sym e)
no_return t (suc (suc k)) (suc (suc l)) ab bc ca e f = ca e

module _ (d : Triple) (s : Part) (sound : IsSound s) (in_range : All (IsBelow (length s.corners)) s.triangles) where
  abbrev twin : ℕ → ℕ
  twin h = twin_of s sound.closed h

  -- the face of a half
  abbrev face : (h : ℕ) → h < count s → Face s
  face h l = face_of_half s sound.closed in_range h l

  -- the two halves of an edge are in two triangles
  two_faces : (h : ℕ) → h < count s → ¬ (h / 3 ≡ twin h / 3)
  two_faces h l same =
      let f = face h l in
      let t = triangle_at s (h / 3) in
      let apart = λ (side : ℕ) (e : start_of t side ≡ end_of t side). sound.closed.none_flat f (flat_face s f side e) in
      no_return t (h % 3) (twin h % 3) (apart 0) (apart 1) (apart 2)
      (ap (λ n. start_of (triangle_at s n) (twin h % 3)) same ∙ twin_starts s sound.closed h l)
      (ap (λ n. end_of (triangle_at s n) (twin h % 3)) same ∙ twin_ends s sound.closed h l)

  -- the triangle of one half does not have the other's third corner
  module _ (h : ℕ) (l : h < count s) where
    there : twin h < count s
    there = twin_within s sound.closed h l

    -- the third corner is neither end of the edge
    not_start : ¬ (starts_at s h ≡ apex_at s (twin h))
    not_start e =
        goes_on s sound.closed in_range (after_half d s (twin h)) (after_within d s sound.closed (twin h) there)
        (after_starts d s sound.closed (twin h) ∙ twin_ends s sound.closed h l ∙ e ∙ sym (after_ends d s sound.closed (twin h)))

    not_end : ¬ (ends_at s h ≡ apex_at s (twin h))
    not_end e =
        goes_on s sound.closed in_range (before_half d s (twin h)) (before_within d s sound.closed (twin h) there)
        (before_starts d s sound.closed (twin h) ∙ sym e ∙ sym (twin_starts s sound.closed h l) ∙ sym (before_ends d s sound.closed (twin h)))

    double : apex_at s h ≡ apex_at s (twin h) → AreDouble s (h / 3) (twin h / 3)
    double e = record {
      first = triangle_at s (h / 3);
      second = triangle_at s (twin h / 3);
      at_first = (face h l).listed;
      at_second = (face (twin h) there).listed;
      same = λ n. (
        (λ c. corner_of_side (triangle_at s (twin h / 3)) (twin h % 3) n
            (elim (side_corners (triangle_at s (h / 3)) (h % 3) n c) [
              | inl p ↦ inr (inl (twin_ends s sound.closed h l ∙ p))
              | inr more ↦ elim more [ inl p ↦ inl (twin_starts s sound.closed h l ∙ p) | inr p ↦ inr (inr (sym e ∙ p)) ]
            ])),
        (λ c. corner_of_side (triangle_at s (h / 3)) (h % 3) n
            (elim (side_corners (triangle_at s (twin h / 3)) (twin h % 3) n c) [
              | inl p ↦ inr (inl (sym (twin_starts s sound.closed h l) ∙ p))
              | inr more ↦ elim more [ inl p ↦ inl (sym (twin_ends s sound.closed h l) ∙ p) | inr p ↦ inr (inr (e ∙ p)) ]
            ])),
      );
    }

    pub third_off : ¬ IsCornerOf (triangle_at s (h / 3)) (apex_at s (twin h))
    third_off c = elim (side_corners (triangle_at s (h / 3)) (h % 3) (apex_at s (twin h)) c) [
      | inl p ↦ not_start p
      | inr more ↦ elim more [ inl p ↦ not_end p | inr p ↦ two_faces h l (sound.no_double (h / 3) (twin h / 3) (double p)) ]
    ]

-- ---- a side to the third corner of one of the two faces does not pierce the other
unpierced_swap : (p q a b c : Screen) → IsUnpierced p q b a c → IsUnpierced p q a b c
unpierced_swap p q a b c h n m g l t = h n m g l (touches_rotate b a c _ (touches_swap a c b _ t))

unpierced_at : (p q a b c p' q' a' b' c' : Screen) → p ≡ p' → q ≡ q' → a ≡ a' → b ≡ b' → c ≡ c' → IsUnpierced p q a b c → IsUnpierced p' q' a' b' c'
unpierced_at p q a b c p' q' a' b' c' ep eq ea eb ec h =
    subst (λ x. IsUnpierced x q' a' b' c') ep (subst (λ x. IsUnpierced p x a' b' c') eq (subst (λ x. IsUnpierced p q x b' c') ea (subst (λ x. IsUnpierced p q a x c') eb (subst (λ x. IsUnpierced p q a b x) ec h))))

module _ (d : Triple) (directed : ¬ IsZero d) (s : Part) (sound : IsSound s) (in_range : All (IsBelow (length s.corners)) s.triangles) where
  abbrev back : ℕ → ℕ
  back h = twin_of s sound.closed h

  abbrev side_face : (h : ℕ) → h < count s → Face s
  side_face h l = face_of_half s sound.closed in_range h l

  -- the edge that starts with a half
  abbrev pub edge_of : (h : ℕ) → h < count s → Edge s
  edge_of h l = record {
    half = h;
    other = back h;
    m = starts_at s h;
    n = ends_at s h;
    a = start_corner (side_face h l) (h % 3);
    b = end_corner (side_face h l) (h % 3);
    left = side_face h l;
    right = side_face (back h) (twin_within s sound.closed h l);
    goes = half_at s h l;
    returns = twin_half s sound.closed h l;
    on_left = refl;
    on_right = refl;
    at_m = at_start (side_face h l) (h % 3);
    at_n = at_end (side_face h l) (h % 3);
  }

  module _ (h : ℕ) (l : h < count s) where
    pub starts_seen : corner_seen d s (starts_at s h) ≡ seen d (point_of (start_corner (side_face h l) (h % 3)))
    starts_seen = corner-seen d s (starts_at s h) (start_corner (side_face h l) (h % 3)) (at_start (side_face h l) (h % 3))

    pub ends_seen : corner_seen d s (ends_at s h) ≡ seen d (point_of (end_corner (side_face h l) (h % 3)))
    ends_seen = corner-seen d s (ends_at s h) (end_corner (side_face h l) (h % 3)) (at_end (side_face h l) (h % 3))

    pub apex_seen : corner_seen d s (apex_at s h) ≡ seen d (point_of (apex_corner (side_face h l) (h % 3)))
    apex_seen = corner-seen d s (apex_at s h) (apex_corner (side_face h l) (h % 3)) (at_apex (side_face h l) (h % 3))

  -- a half's edge does not pierce a face that does not have its end
  side_unpierced : (g : ℕ) → g < count s → (h : ℕ) → h < count s → ¬ IsCornerOf (triangle_at s (h / 3)) (ends_at s g)
      → IsUnpierced (corner_seen d s (starts_at s g)) (corner_seen d s (ends_at s g)) (corner_seen d s (starts_at s h)) (corner_seen d s (ends_at s h)) (corner_seen d s (apex_at s h))
  side_unpierced g k h l off =
      let f = side_face h l in
      let e = edge_of g k in
      let left = λ (same : h / 3 ≡ g / 3). off (subst (λ n. IsCornerOf (triangle_at s n) (ends_at s g)) (sym same) (corner_of_side (triangle_at s (g / 3)) (g % 3) (ends_at s g) (inr (inl refl)))) in
      let right = λ (same : h / 3 ≡ back g / 3).
      off (subst (λ n. IsCornerOf (triangle_at s n) (ends_at s g)) (sym same) (corner_of_side (triangle_at s (back g / 3)) (back g % 3) (ends_at s g) (inl (twin_starts s sound.closed g k)))) in
      unpierced_at (seen d (point_of e.a)) (seen d (point_of e.b)) _ _ _ _ _ _ _ _ (sym (starts_seen g k)) (sym (ends_seen g k)) (sym (starts_seen h l)) (sym (ends_seen h l)) (sym (apex_seen h l))
      (unpierced_turned f d (seen d (point_of e.a)) (seen d (point_of e.b)) (h % 3) (unpierced s sound e f left right d directed))

  module _ (h : ℕ) (l : h < count s) where
    pub first_free : IsUnpierced (corner_seen d s (starts_at s h)) (corner_seen d s (apex_at s (back h))) (corner_seen d s (starts_at s h)) (corner_seen d s (ends_at s h)) (corner_seen d s (apex_at s h))
    first_free =
        let there = twin_within s sound.closed h l in
        let g = after_half d s (back h) in
        let ends = after_ends d s sound.closed (back h) in
        unpierced_at _ _ _ _ _ _ _ _ _ _
        (ap (corner_seen d s) (after_starts d s sound.closed (back h) ∙ twin_ends s sound.closed h l)) (ap (corner_seen d s) ends) refl refl refl
        (side_unpierced g (after_within d s sound.closed (back h) there) h l
        (λ c. third_off d s sound in_range h l (subst (λ n. IsCornerOf (triangle_at s (h / 3)) n) ends c)))

    pub second_free : IsUnpierced (corner_seen d s (starts_at s h)) (corner_seen d s (apex_at s h)) (corner_seen d s (starts_at s h)) (corner_seen d s (ends_at s h)) (corner_seen d s (apex_at s (back h)))
    second_free =
        let there = twin_within s sound.closed h l in
        let side = before_half d s h in
        let side_within = before_within d s sound.closed h l in
        let g = back side in
        let starts : starts_at s g ≡ starts_at s h = twin_starts s sound.closed side side_within ∙ before_ends d s sound.closed h in
        let ends : ends_at s g ≡ apex_at s h = twin_ends s sound.closed side side_within ∙ before_starts d s sound.closed h in
        let again : apex_at s (back (back h)) ≡ apex_at s h = ap (apex_at s) (twin_back s sound.closed h l) in
        unpierced_swap (corner_seen d s (starts_at s h)) (corner_seen d s (apex_at s h)) (corner_seen d s (starts_at s h)) (corner_seen d s (ends_at s h)) (corner_seen d s (apex_at s (back h)))
        (unpierced_at _ _ _ _ _ _ _ _ _ _ (ap (corner_seen d s) starts) (ap (corner_seen d s) ends)
        (ap (corner_seen d s) (twin_starts s sound.closed h l)) (ap (corner_seen d s) (twin_ends s sound.closed h l)) refl
        (side_unpierced g (twin_within s sound.closed side side_within) (back h) there
        (λ c. third_off d s sound in_range (back h) there (subst (λ n. IsCornerOf (triangle_at s (back h / 3)) n) (ends ∙ sym again) c))))
