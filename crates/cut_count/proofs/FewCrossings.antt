-- Different numbers below a bound are at most as many; so the segments, the outlines of a list and the crossings along an edge are few, and what they change is small.
use Rattle.std.proofs.Common.{◌≡◌, ◌≢◌, ◌⊎◌, inl, inr, ℕ, zero, suc, ◌+◌, ◌*◌, ◌<◌, ◌≤◌, ◌^◌, ◌++◌, Bool, true, false, cond, List, [], ◌∷◌, All, AllPairs, Contains, length, get_or, sum, refl, sym, ap, subst, arith, unsigned_abs}
use Rattle.std.specs.Prelude.{ℤ, pos, negsuc, neg_ℤ, ◌+ℤ◌, ◌-ℤ◌, ◌*ℤ◌, ◌≤ℤ◌, IsPermutation}
use Rattle.std.proofs.lemmas.Int.{ints}
use Rattle.std.proofs.lemmas.List.Elements.{All-contains, All-head, All-tail, Contains-append_cases}
use Rattle.std.proofs.lemmas.List.Sorted.{Contains-permutation, IsPermutation-sym}
use Rattle.std.proofs.lemmas.List.Sums.{sum_by-le}
use Rattle.std.proofs.lemmas.Option.{slice_get-get_or, slice_get_within}
use Rattle.integers.proofs.Lists.{Contains-later}
use Rattle.lattice.specs.Cuts.{Plane, toward_of}
use Rattle.geometry.specs.Faces.{facing_of}
use Rattle.geometry.specs.Parts.{Part, Edge, IsNumbered}
use Rattle.geometry.specs.Views.{sign_of}
use Rattle.geometry.specs.Counts.{Side, to_left, to_right}
use Rattle.geometry.specs.Covers.{IsOneWhere}
use Rattle.geometry.specs.Shares.{mark}
use Rattle.hiding_laws.specs.Sums.{total}
use Rattle.hiding_laws.proofs.MeshCounts.{face_of}
use Rattle.cut_plane.specs.declared.segments.Segment.{Segment}
use Rattle.cut_plane.specs.Loops.{IsSegmentOf, AreBorders, triangles_of}
use Rattle.edge_pick.proofs.Lists.{few_of}
use Rattle.cross_find.specs.declared.meter.Crossing.{Crossing}
use Rattle.cut_plane.proofs.Xors.{xor}
use Rattle.span_count.specs.Carries.{IsSmall}
use Rattle.span_count.proofs.Lists.{zip_some}
use Rattle.cut_count_laws.specs.CutShares.{cut_change_of}
use Rattle.cut_count_laws.proofs.Laws.{HasCornersInRange}
use Rattle.cut_count.specs.declared.found.Share.{Share}
use Rattle.cut_count.specs.declared.found.CrossingBorder.{CrossingBorder}
use Rattle.cut_count.specs.Crossings.{IsCutCrossing}
use Rattle.cut_count.specs.inner.Walks.{AreCoverCounts, AreOutlineCrossings, AreSectionCrossings, IsOutlineAnswer, section_change}

-- ---- how many
below : ℕ → List ℕ
below zero = []
below (suc n) = n ∷ below n

below_long : (n : ℕ) → length (below n) ≡ n
unfolding below
below_long zero = refl
below_long (suc n) = ap suc (below_long n)

has_below : (n i : ℕ) → i < n → Contains (below n) i
unfolding below
has_below zero i h = absurd (omega arith)
has_below (suc n) i h = elim (split i n h) [ inl e ↦ (0, omega arith, sym e) | inr l ↦ Contains-later n (below n) i (has_below n i l) ]
  where
    split : (i n : ℕ) → i < suc n → (i ≡ n) ⊎ (i < n)
    split zero zero h = inl refl
    split (suc i) zero h = absurd (omega arith)
    split zero (suc n) h = inr (omega arith)
    split (suc i) (suc n) h = elim (split i n (omega arith)) [ inl e ↦ inl (ap suc e) | inr l ↦ inr (omega arith) ]

pub few_below : (xs : List ℕ) (n : ℕ) → AllPairs ◌≢◌ xs → All (λ i. i < n) xs → length xs ≤ n
few_below xs n once within = subst (λ (m : ℕ). length xs ≤ m) (below_long n) (few_of xs (below n) once (λ k d h. has_below n (get_or xs k d) (within k d h)))

-- at most one segment for each triangle
pub few_segments : (c : Plane) (s : Part) (segments : List Segment) (starts : List ℕ) → AreBorders c s segments starts → length segments ≤ length s.triangles
few_segments c s segments starts borders =
    subst (λ (m : ℕ). m ≤ length s.triangles) (long segments) (few_below (triangles_of segments) (length s.triangles) borders.once (within segments borders.each))
  where
    long : (xs : List Segment) → length (triangles_of xs) ≡ length xs
    long [] = refl
    long (x ∷ xs) = ap suc (long xs)

    within : (xs : List Segment) → All (IsSegmentOf c s) xs → All (λ i. i < length s.triangles) (triangles_of xs)
    within [] each k d h = absurd (omega arith)
    within (x ∷ xs) each zero d h =
        let r = All-head (IsSegmentOf c s) x xs each in
        subst (λ (i : ℕ). i < length s.triangles) r.number (slice_get_within s.triangles r.face.number r.face.tri r.face.listed)
    within (x ∷ xs) each (suc k) d h = within xs (All-tail (IsSegmentOf c s) x xs each) k d (omega arith)

-- ---- how much
abbrev pub IsByte : ℤ → Type 0
IsByte z = (neg_ℤ (pos 128) ≤ℤ z) × (z ≤ℤ pos 127)

-- what crossings change together
pub total_small : (change : Crossing → ℤ) (xs : List Crossing) → ((x : Crossing) → Contains xs x → IsByte (change x)) → (neg_ℤ (pos (128 * length xs)) ≤ℤ total change xs) × (total change xs ≤ℤ pos (128 * length xs))
total_small change [] each = (omega (arith, ints), omega (arith, ints))
total_small change (x ∷ xs) each =
    let b = each x (0, omega arith, refl) in
    let r = total_small change xs (λ y there. each y (Contains-later x xs y there)) in
    (lower (change x) (total change xs) (length xs) b.0 r.0, higher (change x) (total change xs) (length xs) b.1 r.1)
  where
    lower : (x t : ℤ) (n : ℕ) → neg_ℤ (pos 128) ≤ℤ x → neg_ℤ (pos (128 * n)) ≤ℤ t → neg_ℤ (pos (128 * suc n)) ≤ℤ (x +ℤ t)
    lower x t n p q = omega (arith, ints)

    higher : (x t : ℤ) (n : ℕ) → x ≤ℤ pos 127 → t ≤ℤ pos (128 * n) → (x +ℤ t) ≤ℤ pos (128 * suc n)
    higher x t n p q = omega (arith, ints)

-- a border changes its own share, and 1 for the section
share_byte : (share : Share) (there : Bool) (z : ℤ) → z ≡ share.own +ℤ section_change there share.turns → IsByte z
share_byte share there z is = sum z share.own (section_change there share.turns) is (two share.own share.own_small) (one there share.turns)
  where
    two : (z : ℤ) → unsigned_abs z ≤ 2 → (neg_ℤ (pos 2) ≤ℤ z) × (z ≤ℤ pos 2)
    two (pos n) h = (omega (arith, ints), omega (arith, ints))
    two (negsuc n) h = (omega (arith, ints), omega (arith, ints))

    one : (there turns : Bool) → (neg_ℤ (pos 1) ≤ℤ section_change there turns) × (section_change there turns ≤ℤ pos 1)
    one there false = (omega (arith, ints), omega (arith, ints))
    one false true = (omega (arith, ints), omega (arith, ints))
    one true true = (omega (arith, ints), omega (arith, ints))

    sum : (z x y : ℤ) → z ≡ x +ℤ y → (neg_ℤ (pos 2) ≤ℤ x) × (x ≤ℤ pos 2) → (neg_ℤ (pos 1) ≤ℤ y) × (y ≤ℤ pos 1) → IsByte z
    sum z x y e (a, b) (f, g) = (omega (arith, ints), omega (arith, ints))

section_bytes : (left right : Bool) (found : List CrossingBorder) (crossings : List Crossing) → AreSectionCrossings left right found crossings → (x : Crossing) → Contains crossings x → IsByte x.left × IsByte x.right
section_bytes left right [] [] h x there = absurd (omega (arith, there.1))
section_bytes left right [] (z ∷ zs) h x there = absurd h
section_bytes left right (y ∷ ys) [] h x there = absurd h
section_bytes left right (y ∷ ys) (z ∷ zs) (at, on_left, on_right, rest) x (zero, short, is) =
    subst (λ (w : Crossing). IsByte w.left × IsByte w.right) is (share_byte y.left left z.left on_left, share_byte y.right right z.right on_right)
section_bytes left right (y ∷ ys) (z ∷ zs) (at, on_left, on_right, rest) x (suc k, short, is) =
    section_bytes (xor left y.left.turns) (xor right y.right.turns) ys zs rest x (k, omega arith, is)

-- an outline changes at most 2
cut_change_byte : (k : Side) (c : Plane) {s : Part} (e o : Edge s) → IsByte (cut_change_of k c e o)
cut_change_byte k c e o = product _ _ _ (difference _ _ (sign (facing_of (toward_of c) o.left.a o.left.b o.left.c)) (sign (facing_of (toward_of c) o.right.a o.right.b o.right.c))) (marked k _) (marked k _)
  where
    sign : (z : ℤ) → (neg_ℤ (pos 1) ≤ℤ sign_of z) × (sign_of z ≤ℤ pos 1)
    sign (pos zero) = (omega (arith, ints), omega (arith, ints))
    sign (pos (suc n)) = (omega (arith, ints), omega (arith, ints))
    sign (negsuc n) = (omega (arith, ints), omega (arith, ints))

    difference : (x y : ℤ) → (neg_ℤ (pos 1) ≤ℤ x) × (x ≤ℤ pos 1) → (neg_ℤ (pos 1) ≤ℤ y) × (y ≤ℤ pos 1) → (neg_ℤ (pos 2) ≤ℤ (x -ℤ y)) × ((x -ℤ y) ≤ℤ pos 2)
    difference x y (a, b) (f, g) = (omega (arith, ints), omega (arith, ints))

    marked : (k : Side) (z : ℤ) → (mark k z ≡ pos 0) ⊎ (mark k z ≡ pos 1)
    marked to_left (pos zero) = inl refl
    marked to_left (pos (suc n)) = inr refl
    marked to_left (negsuc n) = inl refl
    marked to_right (pos n) = inr refl
    marked to_right (negsuc n) = inl refl

    none : (s : ℤ) → IsByte (s *ℤ pos 0)
    none s = (omega (arith, ints), omega (arith, ints))

    once : (s : ℤ) → (neg_ℤ (pos 2) ≤ℤ s) × (s ≤ℤ pos 2) → IsByte (s *ℤ pos 1)
    once s (a, b) = (omega (arith, ints), omega (arith, ints))

    back : (s : ℤ) → (neg_ℤ (pos 2) ≤ℤ s) × (s ≤ℤ pos 2) → IsByte (s *ℤ neg_ℤ (pos 1))
    back s (a, b) = (omega (arith, ints), omega (arith, ints))

    product : (s x y : ℤ) → (neg_ℤ (pos 2) ≤ℤ s) × (s ≤ℤ pos 2) → (x ≡ pos 0) ⊎ (x ≡ pos 1) → (y ≡ pos 0) ⊎ (y ≡ pos 1) → IsByte (s *ℤ (x -ℤ y))
    product s x y h (inl p) (inl q) = subst IsByte (λ i. s *ℤ (sym p i -ℤ sym q i)) (none s)
    product s x y h (inl p) (inr q) = subst IsByte (λ i. s *ℤ (sym p i -ℤ sym q i)) (back s h)
    product s x y h (inr p) (inl q) = subst IsByte (λ i. s *ℤ (sym p i -ℤ sym q i)) (once s h)
    product s x y h (inr p) (inr q) = subst IsByte (λ i. s *ℤ (sym p i -ℤ sym q i)) (none s)

module _ (c : Plane) (s : Part) (halves : List ℕ) (edge_there : (i : ℕ) → i < length halves → (o : Edge s) × IsNumbered halves i o) (e : Edge s) (left right : Bool) (found : List CrossingBorder) (section outlines sorted : List Crossing)
    (numbers : List ℕ) (within : All (λ i. i < length halves) numbers) (by_section : AreSectionCrossings left right found section) (by_outlines : AreOutlineCrossings c e halves numbers outlines) (moved : IsPermutation (section ++ outlines) sorted) where
  outline_bytes : (x : Crossing) → Contains outlines x → IsByte x.left × IsByte x.right
  outline_bytes x there =
      let (i, listed, answer) = zip_some (IsOutlineAnswer c e halves) numbers by_outlines.answers by_outlines.each x (subst (λ (ys : List Crossing). Contains ys x) by_outlines.all there) in
      let (o, numbered) = edge_there i (All-contains (λ i. i < length halves) numbers i within listed) in
      let is : IsCutCrossing c e o x = answer o numbered in
      (subst IsByte (sym is.left) (cut_change_byte to_left c e o), subst IsByte (sym is.right) (cut_change_byte to_right c e o))

  -- each crossing changes little
  pub crossing_bytes : (x : Crossing) → Contains sorted x → IsByte x.left × IsByte x.right
  crossing_bytes x there = elim (Contains-append_cases section outlines x (Contains-permutation sorted (section ++ outlines) x (IsPermutation-sym (section ++ outlines) sorted moved) there)) [
    | inl h ↦ section_bytes left right found section by_section x h
    | inr h ↦ outline_bytes x h
  ]

one_most : {P : Type 0} (n : ℕ) → IsOneWhere P n → n ≤ 1
one_most n (inl h) = let e = h.0 in omega arith
one_most n (inr h) = let e = h.0 in omega arith

-- what is counted next to an end
pub near_small : (k : Side) (c : Plane) {s : Part} → HasCornersInRange s → (e : Edge s) (at_b : Bool) (z : ℤ) → AreCoverCounts k c e at_b z → length s.triangles ≤ 20000 → (pos 0 ≤ℤ z) × (z ≤ℤ pos 20000)
near_small k c {s} in_range e at_b z (covers, are, is) few = by z (sum covers) (length covers) (length s.triangles) is most are.long few
  where
    each : All (λ (n : ℕ). n ≤ 1) covers
    each i d within = one_most (get_or covers i d) (are.each i (get_or covers i d) (slice_get-get_or covers i d within) (face_of s in_range i (subst (λ (m : ℕ). i < m) are.long within)) refl)

    most : sum covers ≤ length covers
    most = let r = sum_by-le (λ (m : ℕ). m) 1 covers each in omega arith

    by : (z : ℤ) (n l t : ℕ) → z ≡ pos n → n ≤ l → l ≡ t → t ≤ 20000 → (pos 0 ≤ℤ z) × (z ≤ℤ pos 20000)
    by z n l t e h g few = (omega (arith, ints), omega (arith, ints))

-- with the section there or not
pub with_one : (z o r : ℤ) (b : Bool) → (pos 0 ≤ℤ z) × (z ≤ℤ pos 20000) → o ≡ cond b (pos 1) (pos 0) → r ≡ z +ℤ o → (pos 0 ≤ℤ r) × (r ≤ℤ pos 20001)
with_one z o r true (low, high) is sum = (omega (arith, ints), omega (arith, ints))
with_one z o r false (low, high) is sum = (omega (arith, ints), omega (arith, ints))

pub one_small : (o : ℤ) (b : Bool) → o ≡ cond b (pos 1) (pos 0) → IsSmall o
one_small o true is = (omega (arith, ints), omega (arith, ints))
one_small o false is = (omega (arith, ints), omega (arith, ints))

pub counted_small : (z : ℤ) → (pos 0 ≤ℤ z) × (z ≤ℤ pos 20001) → IsSmall z
counted_small z (low, high) = (omega (arith, ints), omega (arith, ints))

pub counted_less : (z : ℤ) → (pos 0 ≤ℤ z) × (z ≤ℤ pos 20000) → (pos 0 ≤ℤ z) × (z ≤ℤ pos 20001)
counted_less z (low, high) = (low, omega (arith, ints))

-- before all crossings
pub first_small : (at_b : Bool) (z t f : ℤ) (n : ℕ) → f ≡ cond at_b (z -ℤ t) z → (pos 0 ≤ℤ z) × (z ≤ℤ pos 20001) → (neg_ℤ (pos (128 * n)) ≤ℤ t) × (t ≤ℤ pos (128 * n)) → n < 2 ^ 32 → IsSmall f
first_small true z t f n is (low, high) (least, most) few = (omega (arith, ints), omega (arith, ints))
first_small false z t f n is (low, high) (least, most) few = (omega (arith, ints), omega (arith, ints))

-- crossings with borders and with outlines together
pub few_together : (all new old listed found segments triangles halves : ℕ) → all ≡ new → new ≤ old + listed → old ≡ found → found ≤ segments → segments ≤ triangles → triangles ≤ 20000 → listed ≤ halves → halves ≤ 60000 → all < 2 ^ 32
few_together all new old listed found segments triangles halves e h g p q few r s = omega arith
