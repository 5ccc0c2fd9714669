-- Whether a place of an edge is in the section, by the segments: an odd number of them is ahead of its start or passes before the place.
use Rattle.std.proofs.Common.{◌≡◌, ◌↔◌, ◌⊎◌, inl, inr, ℕ, ◌%◌, Bool, true, false, List, Contains, refl, sym, ap, ◌∙◌}
use Rattle.std.specs.Prelude.{ℤ, pos, ◌*ℤ◌, ◌<ℤ◌}
use Rattle.std.specs.Bool.{Decides}
use Rattle.std.proofs.lemmas.Bool.{false≢true}
use Rattle.std.proofs.lemmas.Option.{get_or_from_slice_get}
use Rattle.integers.proofs.Logic.{same_tests}
use Rattle.lattice.specs.declared.points.Corner.{Corner}
use Rattle.lattice.specs.declared.soup.Tri.{Tri}
use Rattle.lattice.specs.Points.{Point, of_spot, point_of}
use Rattle.lattice.specs.Cuts.{Plane, toward_of}
use Rattle.geometry.specs.Cuts.{IsBorderOf, IsCount, IsCrossed, IsInSection}
use Rattle.geometry.specs.Faces.{share_point}
use Rattle.geometry.specs.Parts.{Part, Face, Edge, IsClosed}
use Rattle.geometry.specs.Views.{IsEndOn}
use Rattle.geometry.proofs.Borders.{crossed_of_border}
use Rattle.geometry.specs.Counts.{Side}
use Rattle.cut_plane.specs.declared.segments.Segment.{Segment}
use Rattle.cut_plane.specs.Loops.{IsSegmentOf, AreBorders}
use Rattle.cut_plane.proofs.BySegments.{odd_alike}
use Rattle.cut_plane.specs.Diagonals.{IsUnderBorder}
use Rattle.cut_plane.proofs.Sections.{face_of}
use Rattle.cut_plane.proofs.Sights.{Sight, sight_of, corner_at}
use Rattle.cut_plane.proofs.Xors.{xor, odd_in, odd_in_decides, count_by}
use Rattle.cut_count_laws.proofs.Laws.{HasCornersInRange}
use Rattle.cut_count_laws.proofs.Rays.{is_ahead, of_border, border_ahead}
use Rattle.cut_count_laws.proofs.SectionChanges.{PassesBetween, ahead_at, ahead_changes, border_or_none, of_ends, of_uncrossed, odd_in-xor}
use Rattle.cut_count_laws.proofs.SectionRays.{ray}

-- ---- a test of the borders
-- it passes at a segment where it does at its face, and at no face without a border: an odd number of segments pass where an odd number of triangles do
module _ (c : Plane) (s : Part) (in_range : HasCornersInRange s) (o : Corner) (by_corners : Corner → Corner → Corner → Bool) (nowhere : (f : Face s) → ¬ IsCrossed c f → by_corners f.a f.b f.c ≡ false)
    (segments : List Segment) (starts : List ℕ) (borders : AreBorders c s segments starts) (test : Segment → Bool) (told : (x : Segment) (at : IsSegmentOf c s x) → test x ≡ by_corners at.face.a at.face.b at.face.c) where
  abbrev Passes : Segment → Type 0
  Passes x = test x ≡ true

  abbrev HasPassed : Face s → Type 0
  HasPassed f = by_corners f.a f.b f.c ≡ true

  abbrev by_triangle : Tri → Bool
  by_triangle t = by_corners (corner_at s o t.a) (corner_at s o t.b) (corner_at s o t.c)

  at_face : (f : Face s) → by_triangle f.tri ≡ by_corners f.a f.b f.c
  at_face f = λ i. by_corners (get_or_from_slice_get s.corners f.tri.a f.a o f.at_a i) (get_or_from_slice_get s.corners f.tri.b f.b o f.at_b i) (get_or_from_slice_get s.corners f.tri.c f.c o f.at_c i)

  moved : (f g : Face s) → f.a ≡ g.a → f.b ≡ g.b → f.c ≡ g.c → HasPassed f → HasPassed g
  moved f g ea eb ec h = sym (λ i. by_corners (ea i) (eb i) (ec i)) ∙ h

  crossed : (f : Face s) → HasPassed f → IsCrossed c f
  crossed f h = by (border_or_none c f)
    where
      by : ((p : Point) × (q : Point) × IsBorderOf c f p q) ⊎ ¬ IsCrossed c f → IsCrossed c f
      by (inl (p, q, ends)) = crossed_of_border c f p q ends
      by (inr uncrossed) = absurd (false≢true (sym (nowhere f uncrossed) ∙ h))

  of_face : (x : Segment) (at : IsSegmentOf c s x) → Passes x ↔ HasPassed at.face
  of_face x at = ((λ h. sym (told x at) ∙ h), (λ h. told x at ∙ h))

  decide : (x : Segment) → Passes x ⊎ ¬ Passes x
  decide x = by (test x) refl
    where
      by : (v : Bool) → test x ≡ v → Passes x ⊎ ¬ Passes x
      by true h = inl h
      by false h = inr (λ g. false≢true (sym h ∙ g))

  abbrev HasFace : Tri → Type 0
  HasFace t = (f : Face s) × (f.tri ≡ t) × HasPassed f

  triangle_decides : (t : Tri) → Contains s.triangles t → Decides (by_triangle t) (HasFace t)
  triangle_decides t in_list =
      let (f, is) = face_of s in_range t in_list in (
        (λ h. (f, is, sym (at_face f) ∙ ap by_triangle is ∙ h)),
        (λ (g, is_g, h). sym (ap by_triangle is_g) ∙ at_face g ∙ h),
      )

  by_segments : Decides (odd_in test segments) ((count : ℕ) × IsCount Segment Passes segments count × (count % 2 ≡ 1))
  by_segments = odd_in_decides Passes test segments (λ x in_list. ((λ g. g), (λ g. g)))

  by_triangles : Decides (odd_in by_triangle s.triangles) ((count : ℕ) × IsCount Tri HasFace s.triangles count × (count % 2 ≡ 1))
  by_triangles = odd_in_decides HasFace by_triangle s.triangles triangle_decides

  pub odd_of_segments : odd_in test segments ≡ odd_in by_triangle s.triangles
  odd_of_segments = same_tests (odd_in test segments) (odd_in by_triangle s.triangles)
      (λ h. let (count, listed, odd) = by_segments.0 h in by_triangles.1 ((odd_alike c s segments starts borders Passes HasPassed moved crossed of_face decide count listed).0 odd))
      (λ h.
      let (count, listed) = count_by Passes test segments (λ x in_list. ((λ g. g), (λ g. g))) in
      by_segments.1 (count, listed, (odd_alike c s segments starts borders Passes HasPassed moved crossed of_face decide count listed).1 (by_triangles.0 h)))

-- ---- two places
module _ (k : Side) (c : Plane) (s : Part) (closed : IsClosed s) (in_range : HasCornersInRange s) (o : Corner) (e : Edge s) (segments : List Segment) (starts : List ℕ) (borders : AreBorders c s segments starts) where
  -- the segment crosses the edge's line after the place n / m
  abbrev pub segment_ahead : ℤ → ℤ → Segment → Bool
  segment_ahead n m x = is_ahead k (sight_of (toward_of c) (point_of e.a)) (sight_of (toward_of c) (point_of e.b)) (sight_of (toward_of c) (share_point e.a e.b n m)) (sight_of (toward_of c) (of_spot x.a)) (sight_of (toward_of c) (of_spot x.b))

  abbrev ahead : ℤ → ℤ → Sight → Sight → Bool
  ahead n m = is_ahead k (sight_of (toward_of c) (point_of e.a)) (sight_of (toward_of c) (point_of e.b)) (sight_of (toward_of c) (share_point e.a e.b n m))

  nowhere : (n m : ℤ) (f : Face s) → ¬ IsCrossed c f → of_border (ahead n m) c f.a f.b f.c ≡ false
  nowhere n m f uncrossed = of_uncrossed k (sight_of (toward_of c) (point_of e.a)) (sight_of (toward_of c) (point_of e.b)) (sight_of (toward_of c) (share_point e.a e.b n m)) c f uncrossed

  pub odd_ahead : (n m : ℤ) → odd_in (segment_ahead n m) segments ≡ odd_in (border_ahead k c s o e n m) s.triangles
  odd_ahead n m = odd_of_segments c s in_range o (of_border (ahead n m) c) (nowhere n m) segments starts borders (segment_ahead n m)
      (λ x at. sym (of_ends k (sight_of (toward_of c) (point_of e.a)) (sight_of (toward_of c) (point_of e.b)) (sight_of (toward_of c) (share_point e.a e.b n m)) c at.face (of_spot x.a) (of_spot x.b) at.border))

  module _ (n m n' m' : ℤ) (across : ¬ IsEndOn (toward_of c) e) (there : pos 0 <ℤ m) (there' : pos 0 <ℤ m') (order : (n *ℤ m') <ℤ (n' *ℤ m)) (free : ¬ IsUnderBorder c s (share_point e.a e.b n' m'))
      (passes : Segment → Bool) (told : (x : Segment) (at : IsSegmentOf c s x) → Decides (passes x) (PassesBetween k c e at.face n m n' m')) where
    abbrev both : Corner → Corner → Corner → Bool
    both x y z = xor (of_border (ahead n m) c x y z) (of_border (ahead n' m') c x y z)

    passes_is : (x : Segment) (at : IsSegmentOf c s x) → passes x ≡ xor (of_border (ahead n m) c at.face.a at.face.b at.face.c) (of_border (ahead n' m') c at.face.a at.face.b at.face.c)
    passes_is x at =
        let changes = ahead_changes k c s o e at.face (closed.none_flat at.face) n m n' m' there there' order free in
        same_tests _ _ (λ h. changes.1 ((told x at).0 h)) (λ h. (told x at).1 (changes.0 h))
        ∙ (λ i. xor (ahead_at k c s o e n m at.face i) (ahead_at k c s o e n' m' at.face i))

    -- The place n' / m' is in the section exactly if an odd number of segments is ahead of n / m or passes between the two: n / m may be any
    -- place before it, the edge's first corner too.
    pub section_by_segments : Decides (xor (odd_in (segment_ahead n m) segments) (odd_in passes segments)) (IsInSection c s (share_point e.a e.b n' m'))
    section_by_segments =
        let told_by_triangles = ray k c s closed in_range o e n' m' across there' free in
        ((λ h. told_by_triangles.0 (sym same ∙ h)), (λ h. same ∙ told_by_triangles.1 h))
      where
        start : Bool
        start = odd_in (border_ahead k c s o e n m) s.triangles

        end : Bool
        end = odd_in (border_ahead k c s o e n' m') s.triangles

        odd_passes : odd_in passes segments ≡ xor start end
        odd_passes =
            odd_of_segments c s in_range o both (λ f uncrossed i. xor (nowhere n m f uncrossed i) (nowhere n' m' f uncrossed i)) segments starts borders passes passes_is
            ∙ odd_in-xor (border_ahead k c s o e n m) (border_ahead k c s o e n' m') s.triangles

        twice : (v w : Bool) → xor v (xor v w) ≡ w
        twice false w = refl
        twice true false = refl
        twice true true = refl

        same : xor (odd_in (segment_ahead n m) segments) (odd_in passes segments) ≡ end
        same = (λ i. xor (odd_ahead n m i) (odd_passes i)) ∙ twice start end
