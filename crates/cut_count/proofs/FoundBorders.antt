-- The borders that a walk along an edge of a cut view has found, with the numbers of their triangles.
use Rattle.std.proofs.Common.{◌≡◌, ◌≢◌, ◌⊎◌, inl, inr, ◌↔◌, ℕ, zero, suc, ◌<◌, Bool, true, false, List, [], ◌∷◌, All, AllPairs, Contains, Option, Some, None, length, map, set, get_or, eqb, refl, sym, ap, subst, ◌∙◌, arith}
use Rattle.std.specs.Prelude.{ℤ, pos, ◌-ℤ◌, ◌*ℤ◌, ◌<ℤ◌, IsTrue, IsPermutation}
use Rattle.std.specs.List.{AllZip, filter_map, swap}
use Rattle.std.specs.List.Sorted.{apply_swaps, SwapsInRange}
use Rattle.std.proofs.lemmas.Bool.{false≢true}
use Rattle.std.proofs.lemmas.Bool.Decides.{Decides-eqb, nat_tests}
use Rattle.std.proofs.lemmas.Int.{ints}
use Rattle.std.proofs.lemmas.List.{length-map, map-set}
use Rattle.std.proofs.Math.ListN.{get_or-map}
use Rattle.std.proofs.lemmas.List.Elements.{All-head, All-tail, All-nil, All-cons, All-map, All-weaker}
use Rattle.std.proofs.lemmas.List.Kept.{AllPairs-cons}
use Rattle.std.proofs.lemmas.List.Sorted.{All-permutation, Contains-permutation, IsPermutation-map}
use Rattle.std.proofs.lemmas.Map.Keys.{IsDistinct-IsPermutation}
use Rattle.std.proofs.lemmas.Map.Made.{AllPairs-from_IsDistinct, IsDistinct-from_AllPairs}
use Rattle.std.proofs.lemmas.Option.{slice_get_within}
use Rattle.integers.proofs.Lists.{Contains-later}
use Rattle.integers.proofs.Ring.{var, con, ◌⊖◌, ◌⊗◌, ring, gap_of_less, less_by}
use Rattle.exact_frac.specs.declared.Frac.{Frac}
use Rattle.intervals.specs.declared.interval.Interval.{Interval}
use Rattle.lattice.specs.declared.soup.Tri.{Tri}
use Rattle.lattice.specs.Points.{Point, of_spot, point_of}
use Rattle.lattice.specs.Cuts.{Plane, toward_of, IsBeyond}
use Rattle.geometry.specs.Cuts.{IsBorderOf}
use Rattle.geometry.specs.Faces.{share_point}
use Rattle.geometry.specs.Parts.{Part, Face, Edge}
use Rattle.geometry.specs.Places.{IsBetween}
use Rattle.geometry.specs.Views.{face_sign}
use Rattle.geometry.proofs.Borders.{crossed_of_border}
use Rattle.geometry.proofs.Listed.{same_element}
use Rattle.geometry.proofs.PlaceOrder.{between_inner, between_last, less_less}
use Rattle.hiding_laws.proofs.Decisions.{same_or}
use Rattle.geometry.specs.Counts.{Side, to_left, to_right}
use Rattle.cut_plane.specs.declared.segments.Segment.{Segment}
use Rattle.cut_plane.specs.Loops.{IsSegmentOf, AreBorders, triangles_of}
use Rattle.cut_plane.proofs.Lists.{pairs_first, pairs_rest, pairs_none}
use Rattle.cut_plane.specs.Crossings.{CrossesAt}
use Rattle.cut_plane.specs.Beyond.{IsStretch, IsWithinAny, IsPartBeyond}
use Rattle.cut_count_laws.specs.CutEnds.{mark_change}
use Rattle.cut_count_laws.proofs.CutPlaces.{beyond_between}
use Rattle.cut_count_laws.proofs.CutWalks.{IsFoundBorder}
use Rattle.cut_count_laws.proofs.CutWalks.IsFoundBorder.{turns_mark, keeps_mark}
use Rattle.cut_count_laws.proofs.FaceBorders.{one_first, one_second, border_at}
use Rattle.cut_count_laws.proofs.Rests.{HasBorderChange}
use Rattle.cut_count_laws.proofs.Rests.HasBorderChange.{along}
use Rattle.cut_count_laws.proofs.SectionChanges.{PassesBetween}
use Rattle.cut_count_laws.proofs.TurnedCuts.{place_back}
use Rattle.cut_count.specs.declared.found.CrossingBorder.{CrossingBorder}
use Rattle.cut_count.specs.inner.Borders.{ChangesMark, IsFound}
use Rattle.cut_count.specs.inner.Walks.{IsBorderAnswer, AreFound}
use Rattle.cut_count.proofs.WalkLaws.{share_to, turns_to}

-- ---- the border of a segment
-- faces with one number have the same corners
border_of_number : (c : Plane) {s : Part} (x : Segment) → IsSegmentOf c s x → (f : Face s) → f.number ≡ x.tri → IsBorderOf c f (of_spot x.a) (of_spot x.b)
border_of_number c {s} x at f is =
    let same : at.face.tri ≡ f.tri = same_element s.triangles at.face.number f.number at.face.tri f.tri (at.number ∙ sym is) at.face.listed f.listed in
    border_at c f at.face (same_element s.corners at.face.tri.a f.tri.a at.face.a f.a (ap (λ (t : Tri). t.a) same) at.face.at_a f.at_a)
    (same_element s.corners at.face.tri.b f.tri.b at.face.b f.b (ap (λ (t : Tri). t.b) same) at.face.at_b f.at_b)
    (same_element s.corners at.face.tri.c f.tri.c at.face.c f.c (ap (λ (t : Tri). t.c) same) at.face.at_c f.at_c)
    (of_spot x.a) (of_spot x.b) at.border

within_bounds : (c : Plane) {s : Part} (x : Segment) → IsSegmentOf c s x → x.tri < length s.triangles
within_bounds c {s} x at = subst (λ i. i < length s.triangles) at.number (slice_get_within s.triangles at.face.number at.face.tri at.face.listed)

-- ---- what a border that is found changes
module _ (k : Side) (c : Plane) {s : Part} (e : Edge s) (part : Interval Frac) (beyond : IsPartBeyond c e (part ∷ [])) (f : Face s) (p q : Point) (border : IsBorderOf c f p q) where
  abbrev change : ℤ
  change = mark_change k (toward_of c) e.a e.b p q

  stretch : IsStretch part
  stretch = All-head IsStretch part [] beyond.stretches

  -- whether it changes the mark tells it by a yes or no, so that one that doesn't changes it by nothing
  of_share : (turns : Bool) (own : ℤ) (at : Frac) → own ≡ pos 0 -ℤ (face_sign (toward_of c) f *ℤ change) → IsTrue turns ↔ (change ≢ pos 0) → pos 0 <ℤ at.num → at.num <ℤ at.den → CrossesAt c f e at.num at.den
      → IsFoundBorder k c e f at turns own
  of_share true own at is turns after before crosses = subst (IsFoundBorder k c e f at true) (sym is) (turns_mark change (along p q border) (turns.0 refl) after before crosses)
  of_share false own at is turns after before crosses = by (same_or change (pos 0))
    where
      nothing : change ≡ pos 0 → pos 0 -ℤ (face_sign (toward_of c) f *ℤ change) ≡ pos 0
      nothing z = ap (λ v. pos 0 -ℤ (face_sign (toward_of c) f *ℤ v)) z ∙ ring (face_sign (toward_of c) f ∷ []) (con (pos 0) ⊖ (var 0 ⊗ con (pos 0))) (con (pos 0)) refl

      by : (change ≡ pos 0) ⊎ ¬ (change ≡ pos 0) → IsFoundBorder k c e f at false own
      by (inl z) = subst (IsFoundBorder k c e f at false) (sym (is ∙ nothing z)) (keeps_mark (subst (HasBorderChange k c e f) z (along p q border)))
      by (inr some) = absurd (false≢true (turns.1 some))

  found_after : (x : CrossingBorder) → IsFound c e f part p q x → pos 0 <ℤ x.at.num
  found_after x h = between_inner part.from part.to x.at.num x.at.den x.at.positive (h.after, h.before) stretch.from_place.least

  found_before : (x : CrossingBorder) → IsFound c e f part p q x → x.at.num <ℤ x.at.den
  found_before x h = between_last part.from part.to x.at.num x.at.den x.at.positive (h.after, h.before) stretch.to_place.most

found_border : (k : Side) (c : Plane) {s : Part} (e : Edge s) (part : Interval Frac) → IsPartBeyond c e (part ∷ []) → (f : Face s) (p q : Point) → IsBorderOf c f p q → (x : CrossingBorder) → IsFound c e f part p q x
    → IsFoundBorder k c e f x.at (turns_to k x) (share_to k x).own
found_border to_left c e part beyond f p q border x h =
    of_share to_left c e part beyond f p q border x.left.turns x.left.own x.at h.on_left.own h.on_left.turns (found_after to_left c e part beyond f p q border x h) (found_before to_left c e part beyond f p q border x h) h.crosses
found_border to_right c e part beyond f p q border x h =
    of_share to_right c e part beyond f p q border x.right.turns x.right.own x.at h.on_right.own h.on_right.turns (found_after to_right c e part beyond f p q border x h) (found_before to_right c e part beyond f p q border x h) h.crosses

-- ---- numbers beside what is found
-- the triangles of those segments whose border is found
abbrev pairs_of : List Segment → List (Option CrossingBorder) → List (ℕ × CrossingBorder)
pairs_of [] ys = []
pairs_of (x ∷ xs) [] = []
pairs_of (x ∷ xs) (None ∷ ys) = pairs_of xs ys
pairs_of (x ∷ xs) (Some y ∷ ys) = (x.tri, y) ∷ pairs_of xs ys

abbrev number_of : ℕ × CrossingBorder → ℕ
number_of z = z.0

abbrev found_of : ℕ × CrossingBorder → CrossingBorder
found_of z = z.1

-- what holds of all triangles of the segments holds of these
kept : (P : ℕ → Type 0) (xs : List Segment) (ys : List (Option CrossingBorder)) → All P (triangles_of xs) → All P (map number_of (pairs_of xs ys))
kept P [] ys h = All-nil P
kept P (x ∷ xs) [] h = All-nil P
kept P (x ∷ xs) (None ∷ ys) h = kept P xs ys (All-tail P x.tri (triangles_of xs) h)
kept P (x ∷ xs) (Some y ∷ ys) h = All-cons P x.tri (map number_of (pairs_of xs ys)) (All-head P x.tri (triangles_of xs) h) (kept P xs ys (All-tail P x.tri (triangles_of xs) h))

kept_apart : (xs : List Segment) (ys : List (Option CrossingBorder)) → AllPairs ◌≢◌ (triangles_of xs) → AllPairs ◌≢◌ (map number_of (pairs_of xs ys))
kept_apart [] ys h = pairs_none ◌≢◌
kept_apart (x ∷ xs) [] h = pairs_none ◌≢◌
kept_apart (x ∷ xs) (None ∷ ys) h = kept_apart xs ys (pairs_rest ◌≢◌ x.tri (triangles_of xs) h)
kept_apart (x ∷ xs) (Some y ∷ ys) h =
    AllPairs-cons ◌≢◌ x.tri (map number_of (pairs_of xs ys)) (kept (λ i. x.tri ≢ i) xs ys (pairs_first ◌≢◌ x.tri (triangles_of xs) h)) (kept_apart xs ys (pairs_rest ◌≢◌ x.tri (triangles_of xs) h))

-- ---- pairs that change places
module _ {X Y : Type 0} (f : X → Y) where
  map_swap : (xs : List X) (i j : ℕ) → map f (swap xs i j) ≡ swap (map f xs) i j
  map_swap [] i j = refl
  map_swap (x ∷ xs) i j =
      map-set f (set (x ∷ xs) i (get_or (x ∷ xs) j x)) j (get_or (x ∷ xs) i x)
      ∙ (λ t. set ((map-set f (x ∷ xs) i (get_or (x ∷ xs) j x) ∙ ap (set (map f (x ∷ xs)) i) (sym (get_or-map f (x ∷ xs) j x))) t) j (sym (get_or-map f (x ∷ xs) i x) t))

  map_swaps : (xs : List X) (moves : List (ℕ × ℕ)) → map f (apply_swaps xs moves) ≡ apply_swaps (map f xs) moves
  map_swaps xs [] = refl
  map_swaps xs (p ∷ moves) = map_swap (apply_swaps xs moves) p.0 p.1 ∙ ap (λ l. swap l p.0 p.1) (map_swaps xs moves)

  -- elements that belong to others follow them
  followed : (xs : List X) (ys : List Y) → IsPermutation (map f xs) ys → (zs : List X) × IsPermutation xs zs × (map f zs ≡ ys)
  followed xs ys m = (
    apply_swaps xs m.moves,
    record { moves = m.moves; below = subst (λ n. SwapsInRange n m.moves) (length-map xs f) m.below; is = refl },
    map_swaps xs m.moves ∙ sym m.is,
  )

zip_of_pairs : {A B : Type 0} (R : A → B → Type 0) (zs : List (A × B)) → All (λ z. R z.0 z.1) zs → AllZip R (map (λ z. z.0) zs) (map (λ z. z.1) zs)
zip_of_pairs R [] h = tt
zip_of_pairs R (z ∷ zs) h = (All-head (λ z. R z.0 z.1) z zs h, zip_of_pairs R zs (All-tail (λ z. R z.0 z.1) z zs h))

apart_permuted : (xs ys : List ℕ) → IsPermutation xs ys → AllPairs ◌≢◌ xs → AllPairs ◌≢◌ ys
apart_permuted xs ys moved h =
    AllPairs-from_IsDistinct Decides-eqb ys (IsDistinct-IsPermutation eqb flips xs ys moved (IsDistinct-from_AllPairs Decides-eqb xs h))
  where
    flips : (x y : ℕ) → eqb x y ≡ eqb y x
    flips x y = grind (arith, nat_tests)

-- ---- all that are found
-- triangles for the borders in their order, none twice, and among them each one whose border crosses within the edge's part beyond the plane and changes the mark
pub record AreNumbered (k : Side) (c : Plane) {s : Part} (e : Edge s) (found : List CrossingBorder) : Type 0 where
  pub triangles : List ℕ
  pub within : All (λ i. i < length s.triangles) triangles
  pub once : AllPairs ◌≢◌ triangles
  pub whole : (f : Face s) (p q : Point) → IsBorderOf c f p q → mark_change k (toward_of c) e.a e.b p q ≢ pos 0 → (i j : ℤ) → pos 0 <ℤ j → pos 0 <ℤ i → i <ℤ j → IsBeyond c (share_point e.a e.b i j) → CrossesAt c f e i j
      → Contains triangles f.number
  pub each : AllZip (λ i x. (f : Face s) → f.number ≡ i → IsFoundBorder k c e f x.at (turns_to k x) (share_to k x).own) triangles found

module _ (k : Side) (c : Plane) {s : Part} (e : Edge s) (part : Interval Frac) (beyond : IsPartBeyond c e (part ∷ [])) where
  IsListed : ℕ → CrossingBorder → Type 0
  IsListed i x = (f : Face s) → f.number ≡ i → IsFoundBorder k c e f x.at (turns_to k x) (share_to k x).own

  each_listed : (xs : List Segment) (ys : List (Option CrossingBorder)) → All (IsSegmentOf c s) xs → AllZip (IsBorderAnswer c e part) xs ys → All (λ z. IsListed z.0 z.1) (pairs_of xs ys)
  unfolding IsListed
  each_listed [] ys segments h = All-nil (λ z. IsListed z.0 z.1)
  each_listed (x ∷ xs) [] segments h = absurd h
  each_listed (x ∷ xs) (None ∷ ys) segments h = each_listed xs ys (All-tail (IsSegmentOf c s) x xs segments) h.1
  each_listed (x ∷ xs) (Some y ∷ ys) segments h = All-cons (λ z. IsListed z.0 z.1) (x.tri, y) (pairs_of xs ys)
      (λ f is. found_border k c e part beyond f (of_spot x.a) (of_spot x.b) (border_of_number c x (All-head (IsSegmentOf c s) x xs segments) f is) y (h.0 f is))
      (each_listed xs ys (All-tail (IsSegmentOf c s) x xs segments) h.1)

  all_found : (xs : List Segment) (ys : List (Option CrossingBorder)) → AllZip (IsBorderAnswer c e part) xs ys → map found_of (pairs_of xs ys) ≡ filter_map (λ (y : Option CrossingBorder). y) ys
  all_found [] [] h = refl
  all_found [] (y ∷ ys) h = absurd h
  all_found (x ∷ xs) [] h = absurd h
  all_found (x ∷ xs) (None ∷ ys) h = all_found xs ys h.1
  all_found (x ∷ xs) (Some y ∷ ys) h = ap (λ zs. y ∷ zs) (all_found xs ys h.1)

  -- a segment that can't have been left out is among them
  listed_of : (n : ℕ) (xs : List Segment) (ys : List (Option CrossingBorder)) → All (IsSegmentOf c s) xs → AllZip (IsBorderAnswer c e part) xs ys → Contains (triangles_of xs) n
      → ((x : Segment) → IsSegmentOf c s x → x.tri ≡ n → IsBorderAnswer c e part x None → ⊥) → Contains (map number_of (pairs_of xs ys)) n
  listed_of n [] ys segments h (i, less, is) never = absurd (omega (arith, less))
  listed_of n (x ∷ xs) [] segments h there never = absurd h
  listed_of n (x ∷ xs) (None ∷ ys) segments h (zero, less, is) never = absurd (never x (All-head (IsSegmentOf c s) x xs segments) is h.0)
  listed_of n (x ∷ xs) (None ∷ ys) segments h (suc i, less, is) never = listed_of n xs ys (All-tail (IsSegmentOf c s) x xs segments) h.1 (i, omega arith, is) never
  listed_of n (x ∷ xs) (Some y ∷ ys) segments h (zero, less, is) never = (zero, omega arith, is)
  listed_of n (x ∷ xs) (Some y ∷ ys) segments h (suc i, less, is) never =
      Contains-later x.tri (map number_of (pairs_of xs ys)) n (listed_of n xs ys (All-tail (IsSegmentOf c s) x xs segments) h.1 (i, omega arith, is) never)

  -- a place of the edge beyond the plane is strictly within the part
  within_part : (i j : ℤ) → pos 0 <ℤ i → i <ℤ j → IsBeyond c (share_point e.a e.b i j) → IsBetween part.from part.to i j
  within_part i j after before there = by ((beyond.exactly i j after before).0 there)
    where
      by : IsWithinAny (part ∷ []) i j → IsBetween part.from part.to i j
      by (x, (zero, less, is), between) = subst (λ (y : Interval Frac). IsBetween y.from y.to i j) (sym is) between
      by (x, (suc n, less, is), between) = absurd (omega (arith, less))

  changes_mark : (k : Side) (p q : Point) → mark_change k (toward_of c) e.a e.b p q ≢ pos 0 → ChangesMark c e p q
  changes_mark to_left p q some = inl some
  changes_mark to_right p q some = inr some

  not_left_out : (f : Face s) (p q : Point) → IsBorderOf c f p q → mark_change k (toward_of c) e.a e.b p q ≢ pos 0 → (i j : ℤ) → pos 0 <ℤ j → pos 0 <ℤ i → i <ℤ j → IsBeyond c (share_point e.a e.b i j) → CrossesAt c f e i j
      → (x : Segment) → IsSegmentOf c s x → x.tri ≡ f.number → IsBorderAnswer c e part x None → ⊥
  not_left_out f p q border some i j there after before beyond_there crosses x at is none =
      let border' = border_of_number c x at f (sym is) in
      none f (sym is) i j there (within_part i j after before beyond_there)
      (subst (λ (y : Point). ChangesMark c e y (of_spot x.b)) (one_first c f p q (of_spot x.a) (of_spot x.b) border border')
      (subst (λ (y : Point). ChangesMark c e p y) (one_second c f p q (of_spot x.a) (of_spot x.b) border border') (changes_mark k p q some)))
      crosses

  module _ (segments : List Segment) (starts : List ℕ) (borders : AreBorders c s segments starts) (listed : List CrossingBorder) (are_found : AreFound c e part segments listed) (found : List CrossingBorder) (same : IsPermutation listed found) where
    abbrev pairs : List (ℕ × CrossingBorder)
    pairs = pairs_of segments are_found.answers

    moved_pairs : (zs : List (ℕ × CrossingBorder)) × IsPermutation pairs zs × (map found_of zs ≡ found)
    moved_pairs = followed found_of pairs found
        (subst (λ ys. IsPermutation ys found) (are_found.all ∙ sym (all_found segments are_found.answers are_found.each)) same)

    pub numbered : AreNumbered k c e found
    unfolding IsListed
    numbered = by moved_pairs
      where
        by : (zs : List (ℕ × CrossingBorder)) × IsPermutation pairs zs × (map found_of zs ≡ found) → AreNumbered k c e found
        by (zs, moved, is) = record {
          triangles = map number_of zs;
          within = All-permutation (λ i. i < length s.triangles) (map number_of pairs) (map number_of zs) numbers
              (kept (λ i. i < length s.triangles) segments are_found.answers
              (All-map (λ i. i < length s.triangles) (λ (x : Segment). x.tri) segments (All-weaker (IsSegmentOf c s) (λ x. x.tri < length s.triangles) (λ x at. within_bounds c x at) segments borders.each)));
          once = apart_permuted (map number_of pairs) (map number_of zs) numbers (kept_apart segments are_found.answers borders.once);
          whole = λ f p q border some i j there after before beyond_there crosses.
              Contains-permutation (map number_of pairs) (map number_of zs) f.number numbers
              (listed_of f.number segments are_found.answers borders.each are_found.each (borders.all f (crossed_of_border c f p q border)) (not_left_out f p q border some i j there after before beyond_there crosses));
          each = subst (λ ys. AllZip (λ i x. (f : Face s) → f.number ≡ i → IsFoundBorder k c e f x.at (turns_to k x) (share_to k x).own) (map number_of zs) ys) is
              (zip_of_pairs IsListed zs (All-permutation (λ z. IsListed z.0 z.1) pairs zs moved (each_listed segments are_found.answers borders.each are_found.each)));
        }
          where
            numbers : IsPermutation (map number_of pairs) (map number_of zs)
            numbers = IsPermutation-map number_of pairs zs moved

-- ---- those before a place, and those after it
module _ (k : Side) (c : Plane) {s : Part} (e : Edge s) (found : List CrossingBorder) (all : AreNumbered k c e found) (f : Face s) (n m : ℤ) (after : pos 0 <ℤ n) (before : n <ℤ m) (beyond : IsBeyond c (share_point e.a e.b n m)) where
  m_there : pos 0 <ℤ m
  m_there = more n m after before
    where
      more : (n m : ℤ) → pos 0 <ℤ n → n <ℤ m → pos 0 <ℤ m
      more n m h g = omega (arith, ints)

  -- where the first end is beyond the plane
  pub listed_before : IsBeyond c (point_of e.a) → PassesBetween k c e f (pos 0) (pos 1) n m → Contains all.triangles f.number
  listed_before start x =
      let first = first_is x.i x.j x.after in
      all.whole f x.p x.q x.border x.changes x.i x.j x.there first
      (inner x.i x.j (less_less x.i x.j n m (pos 1) (pos 1) x.there m_there (omega (arith, ints)) x.before (short n m before)))
      (beyond_between c e.a e.b n m x.i x.j after start beyond first x.before) x.crosses
    where
      first_is : (i j : ℤ) → (pos 0 *ℤ j) <ℤ (i *ℤ pos 1) → pos 0 <ℤ i
      first_is i j h = omega (arith, ints)

      short : (n m : ℤ) → n <ℤ m → (n *ℤ pos 1) <ℤ (pos 1 *ℤ m)
      short n m h = omega (arith, ints)

      inner : (i j : ℤ) → (i *ℤ pos 1) <ℤ (pos 1 *ℤ j) → i <ℤ j
      inner i j h = omega (arith, ints)

  -- where the second end is
  pub listed_after : IsBeyond c (point_of e.b) → PassesBetween k c e f n m (pos 1) (pos 1) → Contains all.triangles f.number
  listed_after finish x =
      let last = last_is x.i x.j x.before in
      all.whole f x.p x.q x.border x.changes x.i x.j x.there
      (inner x.i x.j (less_less (pos 0) (pos 1) n m x.i x.j (omega (arith, ints)) m_there x.there (short n m after) x.after)) last
      (subst (λ (p : Point). IsBeyond c p) (place_back e.a e.b x.i x.j)
      (beyond_between c e.b e.a (m -ℤ n) m (x.j -ℤ x.i) x.j (gap_of_less n m before) finish (subst (λ (p : Point). IsBeyond c p) (sym (place_back e.a e.b n m)) beyond) (gap_of_less x.i x.j last)
      (less_by ((x.j -ℤ x.i) *ℤ m) ((m -ℤ n) *ℤ x.j) ((x.i *ℤ m) -ℤ (n *ℤ x.j)) (gap_back x.i x.j) (gap_of_less (n *ℤ x.j) (x.i *ℤ m) x.after))))
      x.crosses
    where
      last_is : (i j : ℤ) → (i *ℤ pos 1) <ℤ (pos 1 *ℤ j) → i <ℤ j
      last_is i j h = omega (arith, ints)

      short : (n m : ℤ) → pos 0 <ℤ n → (pos 0 *ℤ m) <ℤ (n *ℤ pos 1)
      short n m h = omega (arith, ints)

      inner : (i j : ℤ) → (pos 0 *ℤ j) <ℤ (i *ℤ pos 1) → pos 0 <ℤ i
      inner i j h = omega (arith, ints)

      gap_back : (i j : ℤ) → ((m -ℤ n) *ℤ j) -ℤ ((j -ℤ i) *ℤ m) ≡ (i *ℤ m) -ℤ (n *ℤ j)
      gap_back i j = ring (i ∷ j ∷ n ∷ m ∷ []) (((var 3 ⊖ var 2) ⊗ var 1) ⊖ ((var 1 ⊖ var 0) ⊗ var 3)) ((var 0 ⊗ var 3) ⊖ (var 2 ⊗ var 1)) refl
