-- A closed part, side by side, is a mesh as it is seen along a direction.
use Rattle.std.proofs.Common.{◌≡◌, ◌⊎◌, inl, inr, ℕ, zero, suc, ◌+◌, ◌*◌, ◌/◌, ◌%◌, ◌<◌, ◌≤◌, All, Option, Some, None, length, get_or, slice_get, refl, sym, ap, subst, ◌∙◌, arith}
use Rattle.std.specs.Prelude.{ℤ, pos, negsuc, ◌*ℤ◌, ◌<ℤ◌}
use Rattle.std.proofs.lemmas.Int.{ints}
use Rattle.std.proofs.lemmas.Bool.{cases_lt}
use Rattle.std.proofs.lemmas.Option.{slice_get-get_or, get_or_from_slice_get, slice_get_within}
use Rattle.lattice.specs.declared.points.Corner.{Corner}
use Rattle.lattice.specs.declared.soup.Tri.{Tri}
use Rattle.lattice.specs.Triangles.{IsBelow}
use Rattle.lattice.specs.Triple.{Triple, dot, right_axis}
use Rattle.lattice.specs.Points.{point_of}
use Rattle.lattice.proofs.SightLines.{right_axis-is}
use Rattle.geometry.specs.Faces.{facing_of}
use Rattle.geometry.specs.Parts.{Part, Face, IsHalf, IsClosed, start_of, end_of}
use Rattle.geometry.specs.Views.{sign_of, face_sign}
use Rattle.geometry.proofs.EachEdge.{flat_face}
use Rattle.geometry.proofs.Listed.{face_at}
use Rattle.integers.proofs.Signs.{mul_pos, mul_neg}
use Rattle.hiding_laws.proofs.Screens.{Screen, area_of}
use Rattle.hiding_laws.proofs.OnScreens.{seen}
use Rattle.hiding_laws.proofs.ScreenScale.{area_scale}
use Rattle.hiding_laws.proofs.Meshes.{Mesh, IsMesh}
use Rattle.hiding_laws.proofs.Shares.{IsSign}
use Rattle.hiding_laws.proofs.Shares.IsSign.{edge_on, front, back}
use Rattle.hiding_laws.proofs.Uprights.{IsFan}

-- ---- the numbers of a side's corners
-- the third corner of a triangle, across from its side 0, 1 or 2
abbrev pub apex_of : Tri → ℕ → ℕ
apex_of t zero = t.c
apex_of t (suc zero) = t.a
apex_of t (suc (suc side)) = t.b

-- the sides after and before a side
abbrev pub after : ℕ → ℕ
after zero = 1
after (suc zero) = 2
after (suc (suc side)) = 0

abbrev pub before : ℕ → ℕ
before zero = 2
before (suc zero) = 0
before (suc (suc side)) = 1

after_below : (side : ℕ) → after side < 3
after_below zero = omega arith
after_below (suc zero) = omega arith
after_below (suc (suc side)) = omega arith

before_below : (side : ℕ) → before side < 3
before_below zero = omega arith
before_below (suc zero) = omega arith
before_below (suc (suc side)) = omega arith

starts_after : (t : Tri) (side : ℕ) → start_of t (after side) ≡ end_of t side
starts_after t zero = refl
starts_after t (suc zero) = refl
starts_after t (suc (suc side)) = refl

ends_after : (t : Tri) (side : ℕ) → end_of t (after side) ≡ apex_of t side
ends_after t zero = refl
ends_after t (suc zero) = refl
ends_after t (suc (suc side)) = refl

starts_before : (t : Tri) (side : ℕ) → start_of t (before side) ≡ apex_of t side
starts_before t zero = refl
starts_before t (suc zero) = refl
starts_before t (suc (suc side)) = refl

ends_before : (t : Tri) (side : ℕ) → end_of t (before side) ≡ start_of t side
ends_before t zero = refl
ends_before t (suc zero) = refl
ends_before t (suc (suc side)) = refl

-- ---- halves of a part, by their numbers
module _ (s : Part) where
  abbrev pub count : ℕ
  count = 3 * length s.triangles

  -- the triangle with this number, or one of no number
  abbrev pub triangle_at : ℕ → Tri
  triangle_at t = get_or s.triangles t (record { a = 0; b = 0; c = 0 })

  abbrev pub starts_at : ℕ → ℕ
  starts_at h = start_of (triangle_at (h / 3)) (h % 3)

  abbrev pub ends_at : ℕ → ℕ
  ends_at h = end_of (triangle_at (h / 3)) (h % 3)

  abbrev pub apex_at : ℕ → ℕ
  apex_at h = apex_of (triangle_at (h / 3)) (h % 3)

  abbrev pub half_at : (h : ℕ) → h < count → IsHalf s h (starts_at h) (ends_at h)
  half_at h l = record { tri = triangle_at (h / 3); at = slice_get-get_or s.triangles (h / 3) (record { a = 0; b = 0; c = 0 }) (omega arith); start = refl; end = refl }

  module _ (h : ℕ) {m n : ℕ} (half : IsHalf s h m n) where
    pub half_within : h < count
    half_within = let k : h / 3 < length s.triangles = slice_get_within s.triangles (h / 3) half.tri half.at in omega arith

    pub half_starts : starts_at h ≡ m
    half_starts = ap (λ (t : Tri). start_of t (h % 3)) (get_or_from_slice_get s.triangles (h / 3) half.tri _ half.at) ∙ half.start

    pub half_ends : ends_at h ≡ n
    half_ends = ap (λ (t : Tri). end_of t (h % 3)) (get_or_from_slice_get s.triangles (h / 3) half.tri _ half.at) ∙ half.end

  module _ (closed : IsClosed s) where
    twin_by : (h : ℕ) → ((h < count) ⊎ (count ≤ h)) → ℕ
    twin_by h (inl l) = (closed.returns h (starts_at h) (ends_at h) (half_at h l)).0
    twin_by h (inr g) = 0

    -- the half that goes back
    pub twin_of : ℕ → ℕ
    twin_of h = twin_by h (cases_lt h count)

    pub twin_half : (h : ℕ) → h < count → IsHalf s (twin_of h) (ends_at h) (starts_at h)
    unfolding twin_by twin_of
    twin_half h l = by (cases_lt h count)
      where
        by : (c : (h < count) ⊎ (count ≤ h)) → IsHalf s (twin_by h c) (ends_at h) (starts_at h)
        by (inl k) = (closed.returns h (starts_at h) (ends_at h) (half_at h k)).1
        by (inr g) = absurd (omega arith)

    module _ (h : ℕ) (l : h < count) where
      pub twin_within : twin_of h < count
      twin_within = half_within (twin_of h) (twin_half h l)

      pub twin_starts : starts_at (twin_of h) ≡ ends_at h
      twin_starts = half_starts (twin_of h) (twin_half h l)

      pub twin_ends : ends_at (twin_of h) ≡ starts_at h
      twin_ends = half_ends (twin_of h) (twin_half h l)

    pub twin_back : (h : ℕ) → h < count → twin_of (twin_of h) ≡ h
    twin_back h l =
        let there = twin_half (twin_of h) (twin_within h l) in
        let same : IsHalf s (twin_of (twin_of h)) (starts_at h) (ends_at h) =
        subst (λ m. IsHalf s (twin_of (twin_of h)) m (ends_at h)) (twin_ends h l) (subst (λ n. IsHalf s (twin_of (twin_of h)) (ends_at (twin_of h)) n) (twin_starts h l) there) in
        closed.once (twin_of (twin_of h)) h (starts_at h) (ends_at h) same (half_at h l)

    module _ (in_range : All (IsBelow (length s.corners)) s.triangles) where
      -- the face of a half
      abbrev pub face_of_half : (h : ℕ) → h < count → Face s
      face_of_half h l = face_at s in_range (triangle_at (h / 3)) (h / 3) (half_at h l).at

      -- a side does not end where it starts
      pub goes_on : (h : ℕ) → h < count → ¬ (starts_at h ≡ ends_at h)
      goes_on h l e = closed.none_flat (face_of_half h l) (flat_face s (face_of_half h l) (h % 3) e)

      pub twin_apart : (h : ℕ) → h < count → ¬ (twin_of h ≡ h)
      twin_apart h l e = goes_on h l (sym (twin_ends h l) ∙ ap ends_at e)

-- ---- signs
pub sign_is : (z : ℤ) → IsSign z (sign_of z)
sign_is (pos zero) = edge_on refl
sign_is (pos (suc n)) = front (omega (arith, ints))
sign_is (negsuc n) = back (omega (arith, ints))

pub sign_scaled : (k z : ℤ) → pos 0 <ℤ k → sign_of (k *ℤ z) ≡ sign_of z
sign_scaled k z h = by z
  where
    none : (z : ℤ) → z ≡ pos 0 → sign_of z ≡ pos 0
    none z e = ap sign_of e

    up : (z : ℤ) → pos 0 <ℤ z → sign_of z ≡ pos 1
    up (pos zero) h = absurd (omega (arith, ints))
    up (pos (suc n)) h = refl
    up (negsuc n) h = absurd (omega (arith, ints))

    down : (z : ℤ) → z <ℤ pos 0 → sign_of z ≡ negsuc 0
    down (pos n) h = absurd (omega (arith, ints))
    down (negsuc n) h = refl

    times_zero : (k : ℤ) → k *ℤ pos 0 ≡ pos 0
    times_zero k = omega (arith, ints)

    by : (z : ℤ) → sign_of (k *ℤ z) ≡ sign_of z
    by (pos zero) = none _ (times_zero k)
    by (pos (suc n)) = up _ (mul_pos k (pos (suc n)) h (omega (arith, ints)))
    by (negsuc n) = down _ (mul_neg k (negsuc n) h (omega (arith, ints)))

-- ---- the mesh
module _ (d : Triple) (s : Part) where
  seen_of : Option Corner → Screen
  seen_of (Some c) = seen d (point_of c)
  seen_of None = record { u = pos 0; v = pos 0; h = pos 0; w = pos 1 }

  -- the corner with this number as it is seen
  pub corner_seen : ℕ → Screen
  corner_seen n = seen_of (slice_get s.corners n)

  pub corner-seen : (n : ℕ) (c : Corner) → slice_get s.corners n ≡ Some c → corner_seen n ≡ seen d (point_of c)
  unfolding corner_seen seen_of
  corner-seen n c e = ap seen_of e

  -- the sign of a triangle as it is seen
  abbrev pub sign_seen : ℕ → ℤ
  sign_seen t = sign_of (area_of (corner_seen (starts_at s (3 * t))) (corner_seen (starts_at s (3 * t + 1))) (corner_seen (starts_at s (3 * t + 2))))

  abbrev pub apex_seen : ℕ → Screen
  apex_seen h = corner_seen (apex_at s h)

  abbrev pub after_half : ℕ → ℕ
  after_half h = 3 * (h / 3) + after (h % 3)

  abbrev pub before_half : ℕ → ℕ
  before_half h = 3 * (h / 3) + before (h % 3)

  module _ (closed : IsClosed s) where
    abbrev pub mesh_of : Mesh
    mesh_of = record {
      triangles = length s.triangles;
      from = λ h. corner_seen (starts_at s h);
      to = λ h. corner_seen (ends_at s h);
      sign = λ h. sign_seen (h / 3);
      twin = twin_of s closed;
    }

    -- a half by its triangle and its side
    starts_by : (h t side : ℕ) → h / 3 ≡ t → h % 3 ≡ side → starts_at s h ≡ start_of (triangle_at s t) side
    starts_by h t side e f i = start_of (triangle_at s (e i)) (f i)

    ends_by : (h t side : ℕ) → h / 3 ≡ t → h % 3 ≡ side → ends_at s h ≡ end_of (triangle_at s t) side
    ends_by h t side e f i = end_of (triangle_at s (e i)) (f i)

    -- where one side ends the next begins
    joins : (h g t k l : ℕ) → h / 3 ≡ t → h % 3 ≡ k → g / 3 ≡ t → g % 3 ≡ l → end_of (triangle_at s t) k ≡ start_of (triangle_at s t) l → ends_at s h ≡ starts_at s g
    joins h g t k l p q p' q' e = ends_by h t k p q ∙ e ∙ sym (starts_by g t l p' q')

    pub is_mesh : All (IsBelow (length s.corners)) s.triangles → IsMesh mesh_of
    is_mesh in_range = record {
      first = λ t l. ap corner_seen (joins (3 * t) (3 * t + 1) t 0 1 (omega arith) (omega arith) (omega arith) (omega arith) refl);
      second = λ t l. ap corner_seen (joins (3 * t + 1) (3 * t + 2) t 1 2 (omega arith) (omega arith) (omega arith) (omega arith) refl);
      third = λ t l. ap corner_seen (joins (3 * t + 2) (3 * t) t 2 0 (omega arith) (omega arith) (omega arith) (omega arith) refl);
      is_sign = λ t l. subst (IsSign (area_of (corner_seen (starts_at s (3 * t))) (corner_seen (starts_at s (3 * t + 1))) (corner_seen (starts_at s (3 * t + 2)))))
          (ap sign_seen (whole t)) (sign_is _);
      sign_second = λ t l. ap sign_seen (after_one t);
      sign_third = λ t l. ap sign_seen (after_two t);
      within = λ h l. twin_within s closed h l;
      back = λ h l. twin_back s closed h l;
      apart = λ h l. twin_apart s closed in_range h l;
      starts = λ h l. ap corner_seen (twin_starts s closed h l);
      ends = λ h l. ap corner_seen (twin_ends s closed h l);
    }
      where
        whole : (t : ℕ) → t ≡ (3 * t) / 3
        whole t = omega arith

        after_one : (t : ℕ) → (3 * t + 1) / 3 ≡ (3 * t) / 3
        after_one t = omega arith

        after_two : (t : ℕ) → (3 * t + 2) / 3 ≡ (3 * t) / 3
        after_two t = omega arith

    -- ---- the sides after and before a side
    after_at : (h : ℕ) → (after_half h / 3 ≡ h / 3) × (after_half h % 3 ≡ after (h % 3))
    after_at h = at (h / 3) (after (h % 3)) (after_below (h % 3))
      where
        at : (t k : ℕ) → k < 3 → ((3 * t + k) / 3 ≡ t) × ((3 * t + k) % 3 ≡ k)
        at t k l = (omega arith, omega arith)

    before_at : (h : ℕ) → (before_half h / 3 ≡ h / 3) × (before_half h % 3 ≡ before (h % 3))
    before_at h = at (h / 3) (before (h % 3)) (before_below (h % 3))
      where
        at : (t k : ℕ) → k < 3 → ((3 * t + k) / 3 ≡ t) × ((3 * t + k) % 3 ≡ k)
        at t k l = (omega arith, omega arith)

    same_triangle_within : (h g : ℕ) → g / 3 ≡ h / 3 → h < count s → g < count s
    same_triangle_within h g e l = omega arith

    pub after_within : (h : ℕ) → h < count s → after_half h < count s
    after_within h l = same_triangle_within h (after_half h) (after_at h).0 l

    pub before_within : (h : ℕ) → h < count s → before_half h < count s
    before_within h l = same_triangle_within h (before_half h) (before_at h).0 l

    pub after_starts : (h : ℕ) → starts_at s (after_half h) ≡ ends_at s h
    after_starts h = starts_by (after_half h) (h / 3) (after (h % 3)) (after_at h).0 (after_at h).1 ∙ starts_after (triangle_at s (h / 3)) (h % 3)

    pub after_ends : (h : ℕ) → ends_at s (after_half h) ≡ apex_at s h
    after_ends h = ends_by (after_half h) (h / 3) (after (h % 3)) (after_at h).0 (after_at h).1 ∙ ends_after (triangle_at s (h / 3)) (h % 3)

    pub before_starts : (h : ℕ) → starts_at s (before_half h) ≡ apex_at s h
    before_starts h = starts_by (before_half h) (h / 3) (before (h % 3)) (before_at h).0 (before_at h).1 ∙ starts_before (triangle_at s (h / 3)) (h % 3)

    pub before_ends : (h : ℕ) → ends_at s (before_half h) ≡ starts_at s h
    before_ends h = ends_by (before_half h) (h / 3) (before (h % 3)) (before_at h).0 (before_at h).1 ∙ ends_before (triangle_at s (h / 3)) (h % 3)

    pub is_fan : IsFan mesh_of apex_seen after_half before_half
    is_fan = record {
      next_within = after_within;
      next_from = λ h l. ap corner_seen (after_starts h);
      next_to = λ h l. ap corner_seen (after_ends h);
      prev_within = before_within;
      prev_from = λ h l. ap corner_seen (before_starts h);
      prev_to = λ h l. ap corner_seen (before_ends h);
    }

-- ---- the mesh's numbers are those of the part's faces
module _ (d : Triple) (s : Part) (f : Face s) where
  pub triangle-at : triangle_at s f.number ≡ f.tri
  triangle-at = get_or_from_slice_get s.triangles f.number f.tri _ f.listed

  side_by : (h side : ℕ) → h / 3 ≡ f.number → h % 3 ≡ side → starts_at s h ≡ start_of f.tri side
  side_by h side e g = (λ i. start_of (triangle_at s (e i)) (g i)) ∙ ap (λ (t : Tri). start_of t side) triangle-at

  pub first_seen : corner_seen d s (starts_at s (3 * f.number)) ≡ seen d (point_of f.a)
  first_seen = ap (corner_seen d s) (side_by (3 * f.number) 0 (omega arith) (omega arith)) ∙ corner-seen d s f.tri.a f.a f.at_a

  pub second_seen : corner_seen d s (starts_at s (3 * f.number + 1)) ≡ seen d (point_of f.b)
  second_seen = ap (corner_seen d s) (side_by (3 * f.number + 1) 1 (omega arith) (omega arith)) ∙ corner-seen d s f.tri.b f.b f.at_b

  pub third_seen : corner_seen d s (starts_at s (3 * f.number + 2)) ≡ seen d (point_of f.c)
  third_seen = ap (corner_seen d s) (side_by (3 * f.number + 2) 2 (omega arith) (omega arith)) ∙ corner-seen d s f.tri.c f.c f.at_c

  pub face_sign_seen : sign_seen d s f.number ≡ face_sign d f
  face_sign_seen =
      (λ i. sign_of (area_of (first_seen i) (second_seen i) (third_seen i)))
      ∙ ap sign_of (area_scale d (right_axis d) (right_axis-is d).level f.a f.b f.c)
      ∙ sign_scaled (dot (right_axis d) (right_axis d)) (facing_of d f.a f.b f.c) (right_axis-is d).square
