-- A point of an edge of a sound part that is beyond a cut's plane and under no border is hidden exactly where its two counts are not both 0.
use Rattle.std.proofs.Common.{◌≡◌, ◌≢◌, ◌⊎◌, inl, inr, ℕ, zero, suc, ◌+◌, ◌*◌, ◌<◌, ◌%◌, Bool, true, Some, All, Contains, length, slice_get, [], ◌∷◌, refl, sym, ap, subst, ◌∙◌, arith}
use Rattle.std.specs.Prelude.{ℤ, pos, negsuc, ◌<ℤ◌}
use Rattle.std.specs.Int.Signed.{lt_z}
use Rattle.std.proofs.lemmas.Int.{ints}
use Rattle.std.proofs.lemmas.Option.{slice_get_within, get_or_from_slice_get}
use Rattle.integers.proofs.Comparisons.{times_one}
use Rattle.integers.proofs.Orders.{lt_z_of_less}
use Rattle.integers.proofs.Ring.{var, con, ◌⊖◌, ◌⊗◌, ring, by_one}
use Rattle.lattice.specs.declared.points.Corner.{Corner}
use Rattle.lattice.specs.declared.soup.Tri.{Tri}
use Rattle.lattice.specs.Triangles.{IsBelow}
use Rattle.lattice.specs.Triple.{Triple}
use Rattle.lattice.specs.Points.{Point, IsPoint, OnOneSight}
use Rattle.lattice.specs.Cuts.{Plane, toward_of, plane_height, IsBeyond}
use Rattle.geometry.specs.Cuts.{IsCount, IsInSection, IsHiddenInCut, FaceHidesInCut, IsOrdinaryInCut}
use Rattle.geometry.specs.Faces.{facing_of, share_point, IsPointOfFace, IsPointOfEdge}
use Rattle.geometry.specs.Parts.{Part, Face, Edge}
use Rattle.geometry.specs.Sound.{IsSound}
use Rattle.geometry.specs.Views.{IsEndOn}
use Rattle.geometry.proofs.FacePoints.{face_point-round, face_point-of_side}
use Rattle.hiding_laws.specs.Values.{SideHides, WideSideHides}
use Rattle.hiding_laws.proofs.CutPlanes.{cut-somewhere}
use Rattle.hiding_laws.proofs.Decisions.{same_or}
use Rattle.hiding_laws.proofs.Hiding.{wide-side-hides}
use Rattle.hiding_laws.proofs.OnScreens.{seen, side_covers_of_hides, side_hides_of_covers}
use Rattle.hiding_laws.proofs.Screens.{Screen, area_of, length_of, SideCovers}
use Rattle.geometry.specs.Counts.{Side, to_left, to_right}
use Rattle.geometry.specs.Covers.{IsOneWhere}
use Rattle.cut_plane.proofs.Tested.{less_of}
use Rattle.cut_plane.specs.Diagonals.{IsUnderBorder}
use Rattle.hiding_laws.proofs.HalfFaces.{start_corner, end_corner, apex_corner, at_start, at_end, facing_turned, flat_turned, flat_swap, starts_seen, ends_seen, apex_seen, first_free, second_free}
use Rattle.hiding_laws.proofs.HiddenCounted.{reaches_some, count_some, some_counted}
use Rattle.hiding_laws.proofs.MeshOfPart.{count, starts_at, ends_at, apex_at, twin_of, twin_within, twin_starts, twin_ends, face_of_half, corner_seen, after_half, before_half, after_within, before_within, after_starts, after_ends, before_starts, before_ends, first_seen, second_seen, third_seen, is_mesh}
use Rattle.hiding_laws.proofs.Rises.{level_flat}
use Rattle.hiding_laws.proofs.Seen.{on, area_some}
use Rattle.hiding_laws.proofs.Upper.{upper}
use Rattle.hiding_laws.proofs.Upright.{side_back}
use Rattle.hiding_laws.proofs.Uprights.{weighed, rise_of}
use Rattle.cut_count_laws.specs.CutCounts.{HasCutCounted, AreCutCounted}
use Rattle.cut_count_laws.proofs.HighestThat.{highest_that, over_too, between_corners}
use Rattle.cut_count_laws.proofs.Laws.{HasCornersInRange, IsValid, HiddenLaw}
use Rattle.cut_count_laws.proofs.SideDrops.{drop_of, drop-back, drop_of_beyond, beyond_of_drop, HasNoBorderOver, beyond_too}
use Rattle.hiding_laws.proofs.OrdinarySides.{IsSeenAt}

-- what is a point of a face's corners in turn is one of the face
point_turned : {s : Part} (f : Face s) (side : ℕ) (q : Point) → IsPointOfFace (start_corner f side) (end_corner f side) (apex_corner f side) q → IsPointOfFace f.a f.b f.c q
point_turned f zero q h = h
point_turned f (suc zero) q h = face_point-round f.c f.a f.b q (face_point-round f.b f.c f.a q h)
point_turned f (suc (suc side)) q h = face_point-round f.c f.a f.b q h

module _ (c : Plane) (s : Part) (sound : IsSound s) (in_range : All (IsBelow (length s.corners)) s.triangles) where
  abbrev d : Triple
  d = toward_of c

  abbrev back : ℕ → ℕ
  back h = twin_of s sound.closed h

  abbrev face : (h : ℕ) → h < count s → Face s
  face h l = face_of_half s sound.closed in_range h l

  abbrev from : ℕ → Screen
  from h = corner_seen d s (starts_at s h)

  abbrev to : ℕ → Screen
  to h = corner_seen d s (ends_at s h)

  abbrev apex : ℕ → Screen
  apex h = corner_seen d s (apex_at s h)

  -- the sides after and before a half
  next_side : (h : ℕ) → h < count s → (after_half d s h < count s) × (from (after_half d s h) ≡ to h) × (to (after_half d s h) ≡ apex h)
  next_side h l = (after_within d s sound.closed h l, ap (corner_seen d s) (after_starts d s sound.closed h), ap (corner_seen d s) (after_ends d s sound.closed h))

  side_before : (h : ℕ) → h < count s → (before_half d s h < count s) × (from (before_half d s h) ≡ apex h) × (to (before_half d s h) ≡ from h)
  side_before h l = (before_within d s sound.closed h l, ap (corner_seen d s) (before_starts d s sound.closed h), ap (corner_seen d s) (before_ends d s sound.closed h))

  -- ---- the corners of a half's face
  module _ (h : ℕ) (l : h < count s) where
    abbrev start : Corner
    start = start_corner (face h l) (h % 3)

    abbrev end : Corner
    end = end_corner (face h l) (h % 3)

    abbrev third : Corner
    third = apex_corner (face h l) (h % 3)

    start-seen : from h ≡ on d start
    start-seen = starts_seen d (cut-somewhere c) s sound in_range h l

    end-seen : to h ≡ on d end
    end-seen = ends_seen d (cut-somewhere c) s sound in_range h l

    third-seen : apex h ≡ on d third
    third-seen = apex_seen d (cut-somewhere c) s sound in_range h l

    -- an edge-on triangle rises over its sides that are not seen end-on
    own_rises : pos 0 <ℤ length_of (from h) (to h) → area_of (from h) (to h) (apex h) ≡ pos 0 → ¬ (rise_of (from h) (to h) (apex h) ≡ pos 0)
    own_rises long level low =
        sound.closed.none_flat (face h l) (flat_turned (face h l) (h % 3) (level_flat d (cut-somewhere c) start end third
        (subst (λ (v : ℤ). pos 0 <ℤ v) (λ t. length_of (start-seen t) (end-seen t)) long)
        (sym (λ t. area_of (start-seen t) (end-seen t) (third-seen t)) ∙ level) (sym (λ t. rise_of (start-seen t) (end-seen t) (third-seen t)) ∙ low)))

  other_rises : (h : ℕ) (l : h < count s) → pos 0 <ℤ length_of (from h) (to h) → area_of (from h) (to h) (apex (back h)) ≡ pos 0 → ¬ (rise_of (from h) (to h) (apex (back h)) ≡ pos 0)
  other_rises h l long level low =
      let there = twin_within s sound.closed h l in
      let f = face (back h) there in
      let begins : from h ≡ on d (end (back h) there) = ap (corner_seen d s) (sym (twin_ends s sound.closed h l)) ∙ end-seen (back h) there in
      let ends : to h ≡ on d (start (back h) there) = ap (corner_seen d s) (sym (twin_starts s sound.closed h l)) ∙ start-seen (back h) there in
      let far = third-seen (back h) there in
      sound.closed.none_flat f (flat_turned f (back h % 3) (flat_swap (start (back h) there) (end (back h) there) (third (back h) there)
      (level_flat d (cut-somewhere c) (end (back h) there) (start (back h) there) (third (back h) there)
      (subst (λ (v : ℤ). pos 0 <ℤ v) (λ t. length_of (begins t) (ends t)) long)
      (sym (λ t. area_of (begins t) (ends t) (far t)) ∙ level) (sym (λ t. rise_of (begins t) (ends t) (far t)) ∙ low))))

  -- ---- sides over a point
  module _ (p : Point) (point : IsPoint p) (ordinary : IsOrdinaryInCut c s p) (free : ¬ IsUnderBorder c s p) where
    abbrev x : Screen
    x = seen d p

    abbrev Over : ℕ → Type 0
    Over h = SideCovers (from h) (to h) x

    -- the side's spot is beyond the plane
    abbrev low : ℕ → Bool
    low h = lt_z (pos 0) (drop_of (plane_height c) (from h) (to h) x)

    -- a face that is not edge-on and hides the point
    abbrev IsHiddenByTurned : Type 0
    IsHiddenByTurned = (f : Face s) × (¬ (facing_of d f.a f.b f.c ≡ pos 0)) × FaceHidesInCut c f p

    off_corner : (n : ℕ) (k : Corner) → slice_get s.corners n ≡ Some k → ¬ IsSeenAt (on d k) x
    off_corner n k at e =
        ordinary.off_corners k (n, slice_get_within s.corners n k at, get_or_from_slice_get s.corners n k k at) (record { across = e.0 ∙ times_one _; upward = e.1 ∙ times_one _ })

    inner : (h : ℕ) → h < count s → (v : Over h) → (pos 0 <ℤ length_of (from h) (to h)) × (pos 0 <ℤ v.i) × (pos 0 <ℤ v.j)
    inner h l v =
        between_corners (from h) (to h) x
        (subst (λ (w : Screen). ¬ IsSeenAt w x) (sym (start-seen h l)) (off_corner (starts_at s h) (start h l) (at_start (face h l) (h % 3))))
        (subst (λ (w : Screen). ¬ IsSeenAt w x) (sym (end-seen h l)) (off_corner (ends_at s h) (end h l) (at_end (face h l) (h % 3)))) v

    no_border : (f : Face s) → HasNoBorderOver c f.a f.b f.c p
    no_border f q there level same = free (f, (q, (there, level), same))

    -- ---- the spot of a half's side, by the corners between which the half is
    module _ (h : ℕ) (l : h < count s) (v : Over h) (a b : Corner) (begins : from h ≡ on d a) (ends : to h ≡ on d b) where
      abbrev spot : SideHides d a b p
      spot = side_hides_of_covers d a b p (subst (λ w. SideCovers (on d a) w x) ends (subst (λ w. SideCovers w (to h) x) begins v))

      wide : pos 0 <ℤ length_of (on d a) (on d b)
      wide = subst (λ (z : ℤ). pos 0 <ℤ z) (λ t. length_of (begins t) (ends t)) (inner h l v).0

      spot_beyond : low h ≡ true → IsBeyond c spot.point
      spot_beyond e =
          beyond_of_drop c a b p point wide spot.point spot.on_side spot.same_sight
          (subst (λ (z : ℤ). pos 0 <ℤ z) (λ t. drop_of (plane_height c) (begins t) (ends t) x) (less_of (pos 0) _ e))

      low_of : (q : Point) → IsPointOfEdge a b q → OnOneSight d q p → IsBeyond c q → low h ≡ true
      low_of q on_side same beyond =
          lt_z_of_less (pos 0) _ (subst (λ (z : ℤ). pos 0 <ℤ z) (sym (λ t. drop_of (plane_height c) (begins t) (ends t) x)) (drop_of_beyond c a b p point wide q on_side same beyond))

    -- ---- the sides of one face
    module _ (h : ℕ) (l : h < count s) (v : Over h) (e : low h ≡ true) where
      abbrev own : SideHides d (start h l) (end h l) p
      own = spot h l v (start h l) (end h l) (start-seen h l) (end-seen h l)

      own_beyond : IsBeyond c own.point
      own_beyond = spot_beyond h l v (start h l) (end h l) (start-seen h l) (end-seen h l) e

      own_on : IsPointOfFace (start h l) (end h l) (third h l) own.point
      own_on = face_point-of_side (start h l) (end h l) (third h l) own.point own.on_side

      turned_face : ¬ (area_of (from h) (to h) (apex h) ≡ pos 0) → IsHiddenByTurned
      turned_face some = (
        face h l,
        (λ z. area_some d (start h l) (end h l) (third h l) (λ y. some ((λ t. area_of (start-seen h l t) (end-seen h l t) (third-seen h l t)) ∙ y)) (facing_turned (face h l) d (h % 3) ∙ z)),
        record { point = own.point; on_face = point_turned (face h l) (h % 3) own.point own_on; beyond = own_beyond; same_sight = own.same_sight; nearer = own.nearer },
      )

      -- another side of the face has its spot beyond the plane too
      low_beside : (f : ℕ) → f < count s → Over f → (a b : Corner) → from f ≡ on d a → to f ≡ on d b
          → ((q : Point) → IsPointOfEdge a b q → IsPointOfFace (start h l) (end h l) (third h l) q) → low f ≡ true
      low_beside f k w a b begins ends within =
          let other = spot f k w a b begins ends in
          low_of f k w a b begins ends other.point other.on_side other.same_sight
          (beyond_too c (face h l).a (face h l).b (face h l).c p own.point other.point (no_border (face h l))
          (point_turned (face h l) (h % 3) own.point own_on) (point_turned (face h l) (h % 3) other.point (within other.point other.on_side)) own.same_sight other.same_sight own_beyond)

      low_next : (f : ℕ) → f < count s → Over f → from f ≡ to h → to f ≡ apex h → low f ≡ true
      low_next f k w begins ends =
          low_beside f k w (end h l) (third h l) (begins ∙ end-seen h l) (ends ∙ third-seen h l)
          (λ q on_side. face_point-round (third h l) (start h l) (end h l) q (face_point-round (end h l) (third h l) (start h l) q (face_point-of_side (end h l) (third h l) (start h l) q on_side)))

      low_before : (f : ℕ) → f < count s → Over f → from f ≡ apex h → to f ≡ from h → low f ≡ true
      low_before f k w begins ends =
          low_beside f k w (third h l) (start h l) (begins ∙ third-seen h l) (ends ∙ start-seen h l)
          (λ q on_side. face_point-round (third h l) (start h l) (end h l) q (face_point-of_side (third h l) (start h l) (end h l) q on_side))

    -- ---- the highest side whose spot is beyond the plane
    module _ (g : ℕ) (l : g < count s) (e : low g ≡ true) (v : Over g) where
      abbrev here : Screen
      here = weighed (from g) (to g) v.i v.j

      abbrev twin : ℕ
      twin = back g

      there : twin < count s
      there = twin_within s sound.closed g l

      begins_back : from twin ≡ to g
      begins_back = ap (corner_seen d s) (twin_starts s sound.closed g l)

      ends_back : to twin ≡ from g
      ends_back = ap (corner_seen d s) (twin_ends s sound.closed g l)

      over_back : Over twin
      over_back = subst (λ w. SideCovers w (to twin) x) (sym begins_back) (subst (λ w. SideCovers (to g) w x) (sym ends_back) (side_back (from g) (to g) x v))

      low_back : low twin ≡ true
      low_back = ap (λ z. lt_z (pos 0) z) ((λ t. drop_of (plane_height c) (begins_back t) (ends_back t) x) ∙ drop-back (plane_height c) (from g) (to g) x) ∙ e

      -- where both its faces are edge-on, one of them has a side over its spot that is beyond the plane too
      module _ (top : (f : ℕ) → f < count s → low f ≡ true → ¬ SideCovers (from f) (to f) here) where
        over : (f : ℕ) (a b : Screen) → from f ≡ a → to f ≡ b → SideCovers a b here → SideCovers (from f) (to f) here
        over f a b begins ends w = subst (λ z. SideCovers z (to f) here) (sym begins) (subst (λ z. SideCovers a z here) (sym ends) w)

        none_next : (f : ℕ) → f < count s → SideCovers (from f) (to f) here → from f ≡ to g → to f ≡ apex g → ⊥
        none_next f k w begins ends = top f k (low_next g l v e f k (over_too (from g) (to g) (from f) (to f) x v w point) begins ends) w

        none_before : (f : ℕ) → f < count s → SideCovers (from f) (to f) here → from f ≡ apex g → to f ≡ from g → ⊥
        none_before f k w begins ends = top f k (low_before g l v e f k (over_too (from g) (to g) (from f) (to f) x v w point) begins ends) w

        none_next_back : (f : ℕ) → f < count s → SideCovers (from f) (to f) here → from f ≡ to twin → to f ≡ apex twin → ⊥
        none_next_back f k w begins ends = top f k (low_next twin there over_back low_back f k (over_too (from g) (to g) (from f) (to f) x v w point) begins ends) w

        none_before_back : (f : ℕ) → f < count s → SideCovers (from f) (to f) here → from f ≡ apex twin → to f ≡ from twin → ⊥
        none_before_back f k w begins ends = top f k (low_before twin there over_back low_back f k (over_too (from g) (to g) (from f) (to f) x v w point) begins ends) w

        not_both : area_of (from g) (to g) (apex g) ≡ pos 0 → area_of (from twin) (to twin) (apex twin) ≡ pos 0 → ⊥
        not_both level level' =
            let n = inner g l v in
            let flat = area-back (from g) (to g) (apex twin) ((λ t. area_of (sym begins_back t) (sym ends_back t) (apex twin)) ∙ level') in
            let (next_in, next_from, next_to) = next_side g l in
            let (before_in, before_from, before_to) = side_before g l in
            let (next_in', next_from', next_to') = next_side twin there in
            let (before_in', before_from', before_to') = side_before twin there in
            elim (upper (from g) (to g) (apex g) (apex twin) v.i v.j (whole (start g l) (start-seen g l)) (whole (third g l) (third-seen g l)) (whole (third twin there) (third-seen twin there)) n.0 n.1 n.2 level flat
            (own_rises g l n.0 level) (other_rises g l n.0 flat) (first_free d (cut-somewhere c) s sound in_range g l) (second_free d (cut-somewhere c) s sound in_range g l)) [
              | inl w ↦ none_before (before_half d s g) before_in (over (before_half d s g) (apex g) (from g) before_from before_to (side_back (from g) (apex g) here w)) before_from before_to
              | inr more ↦ elim more [
                | inl w ↦ none_next (after_half d s g) next_in (over (after_half d s g) (to g) (apex g) next_from next_to (side_back (apex g) (to g) here w)) next_from next_to
                | inr more ↦ elim more [
                  | inl w ↦ none_next_back (after_half d s twin) next_in' (over (after_half d s twin) (from g) (apex twin) (next_from' ∙ ends_back) next_to' w) next_from' next_to'
                  | inr w ↦ none_before_back (before_half d s twin) before_in' (over (before_half d s twin) (apex twin) (to g) before_from' (before_to' ∙ begins_back) w) before_from' before_to'
                ]
              ]
            ]
          where
            whole : {w : Screen} (k : Corner) → w ≡ on d k → w.w ≡ pos 1
            whole k is = ap (λ (w : Screen). w.w) is

            area-back : (a b k : Screen) → area_of b a k ≡ pos 0 → area_of a b k ≡ pos 0
            area-back a b k h = by_one _ _ (area_of b a k) (pos 0) (negsuc 0)
                (ring (a.u ∷ a.v ∷ b.u ∷ b.v ∷ k.u ∷ k.v ∷ [])
                ((((var 2 ⊖ var 0) ⊗ (var 5 ⊖ var 1)) ⊖ ((var 3 ⊖ var 1) ⊗ (var 4 ⊖ var 0))) ⊖ con (pos 0))
                (((((var 0 ⊖ var 2) ⊗ (var 5 ⊖ var 3)) ⊖ ((var 1 ⊖ var 3) ⊗ (var 4 ⊖ var 2))) ⊖ con (pos 0)) ⊗ con (negsuc 0)) refl) h

    under_side : (h : ℕ) → h < count s → Over h → low h ≡ true → IsHiddenByTurned
    under_side h l v e = let (g, k, holds, w, top) = highest_that (count s) from to low h l e x point (λ f k w. (inner f k w).0) v in found g k holds w top
      where
        found : (g : ℕ) → g < count s → low g ≡ true → (w : Over g) → ((f : ℕ) → f < count s → low f ≡ true → ¬ SideCovers (from f) (to f) (weighed (from g) (to g) w.i w.j)) → IsHiddenByTurned
        found g k e w top = elim (same_or (area_of (from g) (to g) (apex g)) (pos 0)) [
          | inr some ↦ turned_face g k w e some
          | inl level ↦ elim (same_or (area_of (from (back g)) (to (back g)) (apex (back g))) (pos 0)) [
            | inr some ↦ turned_face (back g) (there g k e w) (over_back g k e w) (low_back g k e w) some
            | inl level' ↦ absurd (not_both g k e w top level level')
          ]
        ]

    -- ---- a face that hides the point
    module _ (f : Face s) (hides : FaceHidesInCut c f p) where
      under : (h : ℕ) → h < count s → (a b : Corner) → from h ≡ on d a → to h ≡ on d b → ((q : Point) → IsPointOfEdge a b q → IsPointOfFace f.a f.b f.c q) → WideSideHides d a b p → IsHiddenByTurned
      under h l a b begins ends within (apart, side) =
          let v : Over h = subst (λ w. SideCovers w (to h) x) (sym begins) (subst (λ w. SideCovers (on d a) w x) (sym ends) (side_covers_of_hides d a b p side)) in
          under_side h l v (low_of h l v a b begins ends side.point side.on_side side.same_sight
          (beyond_too c f.a f.b f.c p hides.point side.point (no_border f) hides.on_face (within side.point side.on_side) hides.same_sight side.same_sight hides.beyond))

      by_edge_on : facing_of d f.a f.b f.c ≡ pos 0 → IsHiddenByTurned
      by_edge_on level =
          let m = is_mesh d s sound.closed in_range in
          let n = f.number in
          let number = slice_get_within s.triangles f.number f.tri f.listed in
          elim (wide-side-hides d f.a f.b f.c p point (cut-somewhere c) (sound.closed.none_flat f) level (record { point = hides.point; on_face = hides.on_face; same_sight = hides.same_sight; nearer = hides.nearer })) [
            | inl q ↦ under (3 * n) (first number) f.a f.b (first_seen d s f) (m.first n number ∙ second_seen d s f) (λ r on_side. face_point-of_side f.a f.b f.c r on_side) q
            | inr more ↦ elim more [
              | inl q ↦ under (3 * n + 1) (second number) f.b f.c (second_seen d s f) (m.second n number ∙ third_seen d s f)
                  (λ r on_side. face_point-round f.c f.a f.b r (face_point-round f.b f.c f.a r (face_point-of_side f.b f.c f.a r on_side))) q
              | inr q ↦ under (3 * n + 2) (last number) f.c f.a (third_seen d s f) (m.third n number ∙ first_seen d s f)
                  (λ r on_side. face_point-round f.c f.a f.b r (face_point-of_side f.c f.a f.b r on_side)) q
            ]
          ]
        where
          first : f.number < length s.triangles → 3 * f.number < count s
          first h = omega arith

          second : f.number < length s.triangles → 3 * f.number + 1 < count s
          second h = omega arith

          last : f.number < length s.triangles → 3 * f.number + 2 < count s
          last h = omega arith

      pub hidden_by_turned : IsHiddenByTurned
      hidden_by_turned = elim (same_or (facing_of d f.a f.b f.c) (pos 0)) [ inr turned ↦ (f, turned, hides) | inl level ↦ by_edge_on level ]

-- ---- the counts
module _ (c : Plane) (s : Part) (sound : IsSound s) (in_range : HasCornersInRange s) (e : Edge s) (n m : ℤ) (left right : ℕ) (apart : ¬ IsEndOn (toward_of c) e) (valid : IsValid c e n m)
    (on_left : AreCutCounted to_left c e (share_point e.a e.b n m) left) (on_right : AreCutCounted to_right c e (share_point e.a e.b n m) right) where
  abbrev p : Point
  p = share_point e.a e.b n m

  listed : (f : Face s) → Contains s.triangles f.tri
  listed f = (f.number, slice_get_within s.triangles f.number f.tri f.listed, get_or_from_slice_get s.triangles f.number f.tri f.tri f.listed)

  -- one of a count's two parts is not 0
  some_of : (a b x : ℕ) → x ≡ a + b → (a ≢ 0) ⊎ (b ≢ 0) → x ≢ 0
  some_of a b x e (inl h) z = h (omega arith)
  some_of a b x e (inr h) z = h (omega arith)

  first_some : (a b : ℕ) → a ≢ 0 → a + b ≢ 0
  first_some a b h z = h (omega arith)

  last_some : (a b : ℕ) → b ≢ 0 → a + b ≢ 0
  last_some a b h z = h (omega arith)

  of_section : IsInSection c s p → left + right ≢ 0
  of_section inside = first_some left right (some_of on_left.faces on_left.section left on_left.together (inr (by on_left.inside)))
    where
      by : ((on_left.section ≡ 1) × IsInSection c s p) ⊎ ((on_left.section ≡ 0) × ¬ IsInSection c s p) → on_left.section ≢ 0
      by (inl (one, within)) z = omega arith
      by (inr (none, outside)) z = outside inside

  of_face : (f : Face s) → FaceHidesInCut c f p → left + right ≢ 0
  of_face f hides =
      let (g, turned, there) = hidden_by_turned c s sound in_range p point valid.ordinary valid.free f hides in
      elim (reaches_some (toward_of c) e apart g turned) [
        | inl reaches ↦ first_some left right (some_of on_left.faces on_left.section left on_left.together
            (inl (count_some s.triangles on_left.faces g.tri on_left.counted (listed g) (g, refl, record { turned = turned; hides = there; reaches = reaches }))))
        | inr reaches ↦ last_some left right (some_of on_right.faces on_right.section right on_right.together
            (inl (count_some s.triangles on_right.faces g.tri on_right.counted (listed g) (g, refl, record { turned = turned; hides = there; reaches = reaches }))))
      ]
    where
      point : IsPoint p
      point = positive n m valid.after valid.before
        where
          positive : (n m : ℤ) → pos 0 <ℤ n → n <ℤ m → pos 0 <ℤ m
          positive n m h l = omega (arith, ints)

  counted_of_hidden : IsHiddenInCut c s p → left + right ≢ 0
  counted_of_hidden (beyond, inl (f, hides)) = of_face f hides
  counted_of_hidden (beyond, inr inside) = of_section inside

  of_count : (k : Side) (size : ℕ) → AreCutCounted k c e p size → size ≢ 0 → IsHiddenInCut c s p
  of_count k size are some = by are.faces are.counted are.inside are.together
    where
      none : (z : ℕ) → z ≡ 0 → size ≡ 0 + z → size ≡ 0
      none z e g = omega arith

      by : (y : ℕ) → IsCount Tri (HasCutCounted k c e p) s.triangles y → IsOneWhere (IsInSection c s p) are.section → size ≡ y + are.section → IsHiddenInCut c s p
      by y h (inl (one, within)) g = (valid.beyond, inr within)
      by zero h (inr (nothing, outside)) g = absurd (some (none are.section nothing g))
      by (suc y) h (inr (nothing, outside)) g = let (t, (f, is, counted)) = some_counted s.triangles y h in (valid.beyond, inl (f, counted.hides))

  hidden_of_counted : left + right ≢ 0 → IsHiddenInCut c s p
  hidden_of_counted some = by left right on_left on_right some
    where
      last : (r : ℕ) → 0 + r ≢ 0 → r ≢ 0
      last r h e = h (omega arith)

      by : (l r : ℕ) → AreCutCounted to_left c e p l → AreCutCounted to_right c e p r → l + r ≢ 0 → IsHiddenInCut c s p
      by zero r x y some = of_count to_right r y (last r some)
      by (suc l) r x y some = of_count to_left (suc l) x (λ z. absurd (omega arith))

pub hidden_in_cut : HiddenLaw
hidden_in_cut c s sound in_range e n m left right apart valid on_left on_right = (
  counted_of_hidden c s sound in_range e n m left right apart valid on_left on_right,
  hidden_of_counted c s sound in_range e n m left right apart valid on_left on_right,
)
