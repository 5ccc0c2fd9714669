-- A part has at most one fault, and a sound part has none.
use Rattle.std.proofs.Common.{◌≡◌, ℕ, zero, suc, ◌+◌, ◌*◌, ◌/◌, ◌<◌, ◌≤◌, List, [], ◌∷◌, Contains, AllPairs, length, get_or, refl, sym, ap, subst, ◌∙◌, arith}
use Rattle.std.proofs.lemmas.List.Kept.{AllPairs-from_increasing}
use Rattle.integers.proofs.Lists.{Contains-later}
use Rattle.geometry.specs.Parts.{Part, HasNoFlatTriangle, IsClosed, HasNoSideTwice, HasNoDouble, AreEdges}
use Rattle.geometry.specs.Sound.{IsSound, MeetInSharedCorners}
use Rattle.solid_mesh.specs.Faults.{IsLeast, IsFlatAt, SharesEarlier, IsUnpaired, DoublesEarlier, MeetsAt, HasFault}
use Rattle.solid_mesh.specs.declared.faults.MeshFault.{MeshFault}
use Rattle.solid_mesh.specs.declared.faults.MeshFault.TheVariants.{Flat, SameWay, Unpaired, Double, Meet}

-- ---- numbers
one_least : (P : ℕ → Type 0) (m n : ℕ) → IsLeast P m → IsLeast P n → m ≡ n
one_least P m n a b = omega (arith, a.least n b.holds, b.least m a.holds)

abbrev IsRising : List ℕ → Type 0
IsRising xs = AllPairs (λ x y. x < y) xs

rest_rising : (x : ℕ) (xs : List ℕ) → IsRising (x ∷ xs) → IsRising xs
rest_rising x xs h = λ i j d less within. h (suc i) (suc j) d (omega (arith, less)) (omega (arith, within))

first_below : (x y : ℕ) (xs : List ℕ) → IsRising (x ∷ xs) → Contains xs y → x < y
first_below x y xs h (k, less, e) = let below : x < get_or xs k y = h 0 (suc k) y (omega arith) (omega (arith, less)) in omega (arith, below, e)

first_least_at : (x y : ℕ) (xs : List ℕ) → IsRising (x ∷ xs) → (k : ℕ) → k < length (x ∷ xs) → get_or (x ∷ xs) k y ≡ y → x ≤ y
first_least_at x y xs h zero less e = let same : x ≡ y = e in omega (arith, same)
first_least_at x y xs h (suc k) less e = let below : x < y = first_below x y xs h (k, omega (arith, less), e) in omega (arith, below)

first_least : (x y : ℕ) (xs : List ℕ) → IsRising (x ∷ xs) → Contains (x ∷ xs) y → x ≤ y
first_least x y xs h (k, less, e) = first_least_at x y xs h k less e

behind_first : (x y : ℕ) (xs : List ℕ) → x < y → (k : ℕ) → k < length (x ∷ xs) → get_or (x ∷ xs) k y ≡ y → Contains xs y
behind_first x y xs above zero less e = let same : x ≡ y = e in absurd (omega (arith, above, same))
behind_first x y xs above (suc k) less e = (k, omega (arith, less), e)

-- behind equal first elements
others_in : (x y : ℕ) (xs ys : List ℕ) → x ≡ y → IsRising (x ∷ xs) → ((n : ℕ) → Contains (x ∷ xs) n → Contains (y ∷ ys) n) → (n : ℕ) → Contains xs n → Contains ys n
others_in x y xs ys e a f n c =
    let above : x < n = first_below x n xs a c in
    let found = f n (Contains-later x xs n c) in
    behind_first y n ys (omega (arith, above, e)) found.0 found.1 found.2

-- rising lists with the same members are one
same_rising : (xs ys : List ℕ) → IsRising xs → IsRising ys → ((n : ℕ) → Contains xs n → Contains ys n) → ((n : ℕ) → Contains ys n → Contains xs n) → xs ≡ ys
same_rising [] [] a b f g = refl
same_rising [] (y ∷ ys) a b f g = let there = g y (0, omega arith, refl) in absurd (omega (arith, there.1))
same_rising (x ∷ xs) [] a b f g = let there = f x (0, omega arith, refl) in absurd (omega (arith, there.1))
same_rising (x ∷ xs) (y ∷ ys) a b f g =
    let first : x ≡ y = omega (arith, first_least x y xs a (g y (0, omega arith, refl)), first_least y x ys b (f x (0, omega arith, refl))) in
    let others : xs ≡ ys = same_rising xs ys (rest_rising x xs a) (rest_rising y ys b) (others_in x y xs ys first a f) (others_in y x ys xs (sym first) b g) in
    λ i. first i ∷ others i

-- ---- parts
module _ (s : Part) where
  one_edges : (halves others : List ℕ) → AreEdges s halves → AreEdges s others → halves ≡ others
  one_edges halves others a b =
      same_rising halves others (AllPairs-from_increasing halves a.ascending) (AllPairs-from_increasing others b.ascending)
      (λ n c. (b.exactly n).1 ((a.exactly n).0 c)) (λ n c. (a.exactly n).1 ((b.exactly n).0 c))

  -- ---- what excludes each kind
  not_flat : (i : ℕ) → HasNoFlatTriangle s → IsFlatAt s i → ⊥
  not_flat i none (f, numbered, flat) = none f flat

  not_shared : (i j : ℕ) → HasNoSideTwice s → SharesEarlier s j i → ⊥
  not_shared i j once (less, share) =
      let same : share.half ≡ share.other = once share.half share.other share.m share.n share.goes share.goes_too in
      let equal : i ≡ j = sym share.of_first ∙ ap (λ (n : ℕ). n / 3) same ∙ share.of_second in
      absurd (omega (arith, less, equal))

  not_unpaired : (half : ℕ) → IsClosed s → IsUnpaired s half → ⊥
  not_unpaired half closed u = let back = closed.returns half u.m u.n u.goes in u.alone back.0 back.1

  not_doubled : (i j : ℕ) → HasNoDouble s → DoublesEarlier s j i → ⊥
  not_doubled i j none (less, double) = let equal : i ≡ j = none i j double in absurd (omega (arith, less, equal))

  not_met : (halves : List ℕ) (i t : ℕ) → MeetInSharedCorners s → MeetsAt s halves i t → ⊥
  not_met halves i t apart (e, f, numbered, of_face, (q, meets, not_shared)) = not_shared (apart e f q meets)

  -- a sound part has no fault
  pub none_sound : (f : MeshFault) → HasFault s f → IsSound s → ⊥
  none_sound (Flat i) h sound = not_flat i sound.closed.none_flat h.holds
  none_sound (SameWay i j) (flat, second, first) sound = not_shared i j sound.closed.once first.holds
  none_sound (Unpaired i side) (flat, once, small, h) sound = not_unpaired (3 * i + side) sound.closed h.holds
  none_sound (Double i j) (closed, second, first) sound = not_doubled i j sound.no_double first.holds
  none_sound (Meet i t) (closed, none, (halves, are, first, second)) sound = not_met halves i t sound.apart second.holds

  -- ---- two faults
  -- of two numbers the second is the least for which there is a first, and the first is the least for it
  one_pair : (P : ℕ → ℕ → Type 0) (i j k l : ℕ) → IsLeast (λ j. (i : ℕ) × P j i) j → IsLeast (P j) i → IsLeast (λ j. (i : ℕ) × P j i) l → IsLeast (P l) k → (i ≡ k) × (j ≡ l)
  one_pair P i j k l a b c d =
      let second : j ≡ l = one_least (λ j. (i : ℕ) × P j i) j l a c in
      (one_least (P j) i k b (subst (λ (n : ℕ). IsLeast (P n) k) (sym second) d), second)

  one_side : (i j side other : ℕ) → side < 3 → other < 3 → 3 * i + side ≡ 3 * j + other → (i ≡ j) × (side ≡ other)
  one_side i j side other h k e = (omega (arith, h, k, e), omega (arith, h, k, e))

  one_meeting : (i t j u : ℕ) → ((halves : List ℕ) × AreEdges s halves × IsLeast (λ i. (t : ℕ) × MeetsAt s halves i t) i × IsLeast (MeetsAt s halves i) t)
      → ((halves : List ℕ) × AreEdges s halves × IsLeast (λ i. (t : ℕ) × MeetsAt s halves i t) j × IsLeast (MeetsAt s halves j) u) → (t ≡ u) × (i ≡ j)
  one_meeting i t j u (halves, are, edge, face) (others, too, other, last) =
      let same : others ≡ halves = one_edges others halves too are in
      one_pair (MeetsAt s halves) t i u j edge face
      (subst (λ (l : List ℕ). IsLeast (λ i. (t : ℕ) × MeetsAt s l i t) j) same other) (subst (λ (l : List ℕ). IsLeast (MeetsAt s l j) u) same last)

  pub one_fault : (f g : MeshFault) → HasFault s f → HasFault s g → f ≡ g
  one_fault (Flat i) (Flat j) a b = ap Flat (one_least (IsFlatAt s) i j a b)
  one_fault (Flat i) (SameWay k l) a (flat, second, first) = absurd (not_flat i flat a.holds)
  one_fault (Flat i) (Unpaired k side) a (flat, once, small, h) = absurd (not_flat i flat a.holds)
  one_fault (Flat i) (Double k l) a (closed, second, first) = absurd (not_flat i closed.none_flat a.holds)
  one_fault (Flat i) (Meet k t) a (closed, none, h) = absurd (not_flat i closed.none_flat a.holds)
  one_fault (SameWay i j) (Flat k) (flat, second, first) b = absurd (not_flat k flat b.holds)
  one_fault (SameWay i j) (SameWay k l) (flat, second, first) (none, later, earlier) =
      let same = one_pair (SharesEarlier s) i j k l second first later earlier in
      λ n. SameWay (same.0 n) (same.1 n)
  one_fault (SameWay i j) (Unpaired k side) (flat, second, first) (none, once, small, h) = absurd (not_shared i j once first.holds)
  one_fault (SameWay i j) (Double k l) (flat, second, first) (closed, later, earlier) = absurd (not_shared i j closed.once first.holds)
  one_fault (SameWay i j) (Meet k t) (flat, second, first) (closed, none, h) = absurd (not_shared i j closed.once first.holds)
  one_fault (Unpaired i side) (Flat k) (flat, once, small, h) b = absurd (not_flat k flat b.holds)
  one_fault (Unpaired i side) (SameWay k l) (flat, once, small, h) (none, second, first) = absurd (not_shared k l once first.holds)
  one_fault (Unpaired i side) (Unpaired k other) (flat, once, small, h) (none, single, little, g) =
      let same = one_side i k side other small little (one_least (IsUnpaired s) (3 * i + side) (3 * k + other) h g) in
      λ n. Unpaired (same.0 n) (same.1 n)
  one_fault (Unpaired i side) (Double k l) (flat, once, small, h) (closed, second, first) = absurd (not_unpaired (3 * i + side) closed h.holds)
  one_fault (Unpaired i side) (Meet k t) (flat, once, small, h) (closed, none, g) = absurd (not_unpaired (3 * i + side) closed h.holds)
  one_fault (Double i j) (Flat k) (closed, second, first) b = absurd (not_flat k closed.none_flat b.holds)
  one_fault (Double i j) (SameWay k l) (closed, second, first) (flat, later, earlier) = absurd (not_shared k l closed.once earlier.holds)
  one_fault (Double i j) (Unpaired k side) (closed, second, first) (flat, once, small, h) = absurd (not_unpaired (3 * k + side) closed h.holds)
  one_fault (Double i j) (Double k l) (closed, second, first) (shut, later, earlier) =
      let same = one_pair (DoublesEarlier s) i j k l second first later earlier in
      λ n. Double (same.0 n) (same.1 n)
  one_fault (Double i j) (Meet k t) (closed, second, first) (shut, none, h) = absurd (not_doubled i j none first.holds)
  one_fault (Meet i t) (Flat k) (closed, none, h) b = absurd (not_flat k closed.none_flat b.holds)
  one_fault (Meet i t) (SameWay k l) (closed, none, h) (flat, second, first) = absurd (not_shared k l closed.once first.holds)
  one_fault (Meet i t) (Unpaired k side) (closed, none, h) (flat, once, small, g) = absurd (not_unpaired (3 * k + side) closed g.holds)
  one_fault (Meet i t) (Double k l) (closed, none, h) (shut, second, first) = absurd (not_doubled k l none first.holds)
  one_fault (Meet i t) (Meet k u) (closed, none, h) (shut, single, g) =
      let same = one_meeting i t k u h g in
      λ n. Meet (same.1 n) (same.0 n)
