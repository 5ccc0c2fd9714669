-- Where a segment of the section crosses an edge, and what is found when segment after segment is tried.
use Rattle.std.proofs.Common.{◌≡◌, ◌⊎◌, inl, inr, List, [], ◌∷◌, ◌++◌, ℕ, Contains, sym, subst, ◌∙◌, arith}
use Rattle.std.specs.Prelude.{ℤ, pos, ◌*ℤ◌, ◌<ℤ◌, ◌≤ℤ◌, Option, Some, None}
use Rattle.std.specs.List.{All}
use Rattle.std.proofs.lemmas.List.Elements.{All-push, All-contains, Contains-append_left, Contains-append_right, Contains-append_cases}
use Rattle.exact_frac.specs.declared.Frac.{Frac}
use Rattle.lattice.specs.declared.points.Corner.{Corner}
use Rattle.lattice.specs.Triple.{Triple, det, cross}
use Rattle.lattice.specs.Points.{Point, of_spot, point_of}
use Rattle.lattice.specs.Cuts.{Plane, toward_of}
use Rattle.geometry.specs.Faces.{difference, normal, IsPointOfFace, share_point}
use Rattle.geometry.specs.Parts.{Part, Face, Edge, HasNoFlatTriangle}
use Rattle.geometry.specs.Cuts.{border, IsSeenOverInCut}
use Rattle.cut_plane.specs.declared.segments.Segment.{Segment}
use Rattle.cut_plane.specs.Loops.{IsSegmentOf, AreBorders}
use Rattle.cut_plane.proofs.FaceCorners.{HaveSame, have_same}
use Rattle.cut_plane.proofs.Lists.{contains_first, contains_cases, contains_none, segment_at}
use Rattle.cut_plane.proofs.Parities.{crossed_of_point}
use Rattle.cut_plane.specs.Crossings.{CrossesAt, IsShort, AreCrossings, IsCrossingOf}
use Rattle.cut_plane.specs.inner.Crossings.{line_value, IsSeenBetween, IsRootOf}
use Rattle.cut_plane.proofs.FoundCrossings.{crossing_nowhere, crossing_there, crossing_beside}

-- ---- one segment
-- v and w are its line's values at the edge's corners
module _ (c : Plane) (s : Part) (whole : HasNoFlatTriangle s) (x : Segment) (at : IsSegmentOf c s x) (e : Edge s) (v w : ℤ) (start : v ≡ line_value (toward_of c) x.line (point_of e.a)) (end : w ≡ line_value (toward_of c) x.line (point_of e.b)) where
  to_line : (n m : ℤ) → IsRootOf v w n m → IsRootOf (line_value (toward_of c) x.line (point_of e.a)) (line_value (toward_of c) x.line (point_of e.b)) n m
  to_line n m h = subst (λ (z : ℤ). IsRootOf z (line_value (toward_of c) x.line (point_of e.b)) n m) start (subst (λ (z : ℤ). IsRootOf v z n m) end h)

  from_line : (n m : ℤ) → IsRootOf (line_value (toward_of c) x.line (point_of e.a)) (line_value (toward_of c) x.line (point_of e.b)) n m → IsRootOf v w n m
  from_line n m h = subst (λ (z : ℤ). IsRootOf z w n m) (sym start) (subst (λ (z : ℤ). IsRootOf (line_value (toward_of c) x.line (point_of e.a)) z n m) (sym end) h)

  pub found_nowhere : ((n m : ℤ) → pos 0 <ℤ m → pos 0 ≤ℤ n → n ≤ℤ m → ¬ IsRootOf v w n m) → IsCrossingOf c at.face e None
  found_nowhere none =
      crossing_nowhere c at.face (whole at.face) (of_spot x.a) (of_spot x.b) at.border x.line at.line e
      (λ n m there least most root. none n m there least most (from_line n m root))

  -- the spot at the root is p
  module _ (r : Frac) (short : IsShort r) (root : IsRootOf v w r.num r.den) (d : Triple) (toward : d ≡ toward_of c) (p : Point) (here : p ≡ share_point e.a e.b r.num r.den) where
    to_share : IsSeenBetween d (of_spot x.a) (of_spot x.b) p → IsSeenBetween (toward_of c) (of_spot x.a) (of_spot x.b) (share_point e.a e.b r.num r.den)
    to_share h = subst (λ (t : Triple). IsSeenBetween t (of_spot x.a) (of_spot x.b) (share_point e.a e.b r.num r.den)) toward (subst (IsSeenBetween d (of_spot x.a) (of_spot x.b)) here h)

    from_share : IsSeenBetween (toward_of c) (of_spot x.a) (of_spot x.b) (share_point e.a e.b r.num r.den) → IsSeenBetween d (of_spot x.a) (of_spot x.b) p
    from_share h = subst (λ (t : Triple). IsSeenBetween t (of_spot x.a) (of_spot x.b) p) (sym toward) (subst (IsSeenBetween (toward_of c) (of_spot x.a) (of_spot x.b)) (sym here) h)

    pub found_there : IsSeenBetween d (of_spot x.a) (of_spot x.b) p → IsCrossingOf c at.face e (Some r)
    found_there between = crossing_there c at.face (whole at.face) (of_spot x.a) (of_spot x.b) at.border x.line at.line e r short (to_line r.num r.den root) (to_share between)

    pub found_beside : ¬ IsSeenBetween d (of_spot x.a) (of_spot x.b) p → IsCrossingOf c at.face e None
    found_beside beside = crossing_beside c at.face (whole at.face) (of_spot x.a) (of_spot x.b) at.border x.line at.line e r (to_line r.num r.den root) (λ between. beside (from_share between))

-- ---- segment after segment
-- what the triangle of the segment has
abbrev pub IsFoundOf : (c : Plane) {s : Part} (e : Edge s) → Segment → Option Frac → Type 0
IsFoundOf c {s = s} e x found = (at : IsSegmentOf c s x) → IsCrossingOf c at.face e found

-- each of the places is a crossing, and each crossing in the triangle of one of these segments is at one of them
pub record AreFound (c : Plane) {s : Part} (e : Edge s) (segments : List Segment) (places : List Frac) : Type 0 where
  pub each : All (λ r. IsShort r × ((f : Face s) × CrossesAt c f e r.num r.den)) places
  pub all : (x : Segment) → Contains segments x → (at : IsSegmentOf c s x) → (n m : ℤ) → pos 0 <ℤ m → pos 0 ≤ℤ n → n ≤ℤ m → CrossesAt c at.face e n m → (r : Frac) × Contains places r × (n *ℤ r.den ≡ r.num *ℤ m)

module _ (c : Plane) {s : Part} (e : Edge s) where
  abbrev IsCrossingPlace : Frac → Type 0
  IsCrossingPlace r = IsShort r × ((f : Face s) × CrossesAt c f e r.num r.den)

  pub found_first : AreFound c e [] []
  found_first = record {
    each = λ k d less. absurd (omega arith);
    all = λ x there at n m some least most crosses. absurd (contains_none x there);
  }

  -- a segment among these, or the one after them
  last_cases : (xs : List Segment) (x y : Segment) → Contains (xs ++ x ∷ []) y → Contains xs y ⊎ (x ≡ y)
  last_cases xs x y there = by (Contains-append_cases xs (x ∷ []) y there)
    where
      last : (x ≡ y) ⊎ Contains [] y → x ≡ y
      last (inl same) = same
      last (inr none) = absurd (contains_none y none)

      by : Contains xs y ⊎ Contains (x ∷ []) y → Contains xs y ⊎ (x ≡ y)
      by (inl h) = inl h
      by (inr h) = inr (last (contains_cases x [] y h))

  module _ (xs : List Segment) (places : List Frac) (before : AreFound c e xs places) (x : Segment) where
    -- the next segment crosses the edge nowhere
    pub found_same : IsFoundOf c e x None → AreFound c e (xs ++ x ∷ []) places
    found_same next = record { each = before.each; all = all }
      where
        none : (r : Frac) → None ≡ Some r → ⊥
        none r h = cc

        all : (y : Segment) → Contains (xs ++ x ∷ []) y → (at : IsSegmentOf c s y) → (n m : ℤ) → pos 0 <ℤ m → pos 0 ≤ℤ n → n ≤ℤ m → CrossesAt c at.face e n m → (r : Frac) × Contains places r × (n *ℤ r.den ≡ r.num *ℤ m)
        all y there at n m some least most crosses = by (last_cases xs x y there)
          where
            by : Contains xs y ⊎ (x ≡ y) → (r : Frac) × Contains places r × (n *ℤ r.den ≡ r.num *ℤ m)
            by (inl old) = before.all y old at n m some least most crosses
            by (inr same) =
                let Next : Segment → Type 0 = λ z. IsFoundOf c e z None in
                let (r, is, value) = (subst Next same next at).all n m some least most crosses in
                absurd (none r is)

    -- or at a place
    pub found_more : (q : Frac) → IsSegmentOf c s x → IsFoundOf c e x (Some q) → AreFound c e (xs ++ x ∷ []) (places ++ q ∷ [])
    found_more q listed next = record { each = All-push IsCrossingPlace places q before.each ((next listed).found_is.0, (listed.face, (next listed).found_is.1)); all = all }
      where
        one : (r : Frac) → Some q ≡ Some r → q ≡ r
        one r h = cc

        all : (y : Segment) → Contains (xs ++ x ∷ []) y → (at : IsSegmentOf c s y) → (n m : ℤ) → pos 0 <ℤ m → pos 0 ≤ℤ n → n ≤ℤ m → CrossesAt c at.face e n m → (r : Frac) × Contains (places ++ q ∷ []) r × (n *ℤ r.den ≡ r.num *ℤ m)
        all y there at n m some least most crosses = by (last_cases xs x y there)
          where
            by : Contains xs y ⊎ (x ≡ y) → (r : Frac) × Contains (places ++ q ∷ []) r × (n *ℤ r.den ≡ r.num *ℤ m)
            by (inl old) =
                let (r, at_place, value) = before.all y old at n m some least most crosses in
                (r, Contains-append_left places (q ∷ []) r at_place, value)
            by (inr same) =
                let Next : Segment → Type 0 = λ z. IsFoundOf c e z (Some q) in
                let (r, is, value) = (subst Next same next at).all n m some least most crosses in
                (r, subst (Contains (places ++ q ∷ [])) (one r is) (Contains-append_right places (q ∷ []) q (contains_first [] q)), value)

-- ---- all segments
-- a face with the same number is crossed at the same places
crosses_alike : (c : Plane) {s : Part} (f g : Face s) → f.number ≡ g.number → (e : Edge s) (n m : ℤ) → CrossesAt c f e n m → CrossesAt c g e n m
crosses_alike c {s = s} f g number e n m crosses = record { passes = under crosses.passes; turns = subst (λ (t : Triple). det (toward_of c) (difference e.a e.b) (cross (toward_of c) t) ≡ pos 0 → ⊥) way crosses.turns }
  where
    same : HaveSame f g
    same = have_same f g number

    way : normal f.a f.b f.c ≡ normal g.a g.b g.c
    way = λ i. normal (same.a i) (same.b i) (same.c i)

    on : (r : Point) → IsPointOfFace f.a f.b f.c r → IsPointOfFace g.a g.b g.c r
    on r there = subst (λ (k : Corner). IsPointOfFace g.a g.b k r) same.c (subst (λ (k : Corner). IsPointOfFace g.a k f.c r) same.b (subst (λ (k : Corner). IsPointOfFace k f.b f.c r) same.a there))

    under : IsSeenOverInCut c (border f) (share_point e.a e.b n m) → IsSeenOverInCut c (border g) (share_point e.a e.b n m)
    under (r, on_border, sight) = (r, (on r on_border.0, on_border.1), sight)

-- each border has a segment
pub found_all : (c : Plane) {s : Part} (e : Edge s) (segments : List Segment) {loops : List ℕ} (borders : AreBorders c s segments loops) (places : List Frac) → AreFound c e segments places → AreCrossings c e places
found_all c {s = s} e segments borders places found = record { each = found.each; all = all }
  where
    all : (f : Face s) (n m : ℤ) → pos 0 <ℤ m → pos 0 ≤ℤ n → n ≤ℤ m → CrossesAt c f e n m → (r : Frac) × Contains places r × (n *ℤ r.den ≡ r.num *ℤ m)
    all f n m some least most crosses =
        let (r, on, sight) = crosses.passes in
        let (x, there, number) = segment_at segments f.number (borders.all f (crossed_of_point c f r on)) in
        let at = All-contains (IsSegmentOf c s) segments x borders.each there in
        found.all x there at n m some least most (crosses_alike c f at.face (sym (at.number ∙ number)) e n m crosses)
