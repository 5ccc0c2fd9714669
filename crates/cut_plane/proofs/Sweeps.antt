-- Loops that are followed one after the other, from their least triangles on, are all borders.
use Rattle.std.proofs.Common.{◌≡◌, ◌≢◌, ℕ, zero, suc, ◌+◌, ◌<◌, ◌≤◌, ◌⊎◌, inl, inr, ◌↔◌, Bool, false, List, [], ◌∷◌, ◌++◌, Contains, length, replicate, append_assoc, append-nil, refl, sym, subst, ap, ◌∙◌, arith, length-append}
use Rattle.std.specs.List.{All, AllPairs}
use Rattle.std.proofs.lemmas.Bool.{cases_lt, cases_eq}
use Rattle.std.proofs.lemmas.List.{map-append, length-replicate}
use Rattle.std.proofs.lemmas.List.Elements.{All-append, All-push, All-nil, All-contains, Contains-append_left, Contains-append_right, Contains-append_cases, Contains-push_cases}
use Rattle.std.proofs.lemmas.Option.{slice_get_within}
use Rattle.lattice.specs.Cuts.{Plane}
use Rattle.geometry.specs.Parts.{Part, Face}
use Rattle.geometry.specs.Cuts.{IsCrossed}
use Rattle.cut_plane.specs.declared.segments.Segment.{Segment}
use Rattle.cut_plane.specs.Loops.{IsSegmentOf, triangles_of, IsLoop, BeginsBefore, joined, places_from, AreBorders}
use Rattle.cut_plane.specs.inner.Walks.{IsCrossedAt, IsMarked, unmarked, AreFollowing, IsRound}
use Rattle.cut_plane.proofs.Following.{segment_crossed}
use Rattle.cut_plane.proofs.Lists.{segment_at, contains_first, contains_rest, contains_none, each_contains, pairs_first, pairs_none, pairs_append, unmarked_none, none_marked}

-- ---- all loops that begin at a triangle below n
pub record AreSwept (c : Plane) (s : Part) (n : ℕ) (marks : List Bool) (segments : List Segment) (places : List ℕ) : Type 0 where
  pub lists : List (List Segment)
  pub together : segments ≡ joined lists
  pub begin : places ≡ places_from 0 lists
  pub closed : All IsLoop lists
  pub ascending : AllPairs BeginsBefore lists
  pub below : (x : Segment) (xs : List Segment) → Contains lists (x ∷ xs) → x.tri < n
  pub each : All (IsSegmentOf c s) segments
  pub once : AllPairs (λ i j. i ≢ j) (triangles_of segments)
  pub marked : (i : ℕ) → IsMarked marks i ↔ Contains (triangles_of segments) i
  pub following : AreFollowing c s marks
  pub done : (f : Face s) → IsCrossed c f → f.number < n → IsMarked marks f.number
  pub long : length marks ≡ length s.triangles
  pub count : unmarked marks + length segments ≡ length s.triangles

-- ---- one more list
joined_push : (lists : List (List Segment)) (xs : List Segment) → joined (lists ++ xs ∷ []) ≡ joined lists ++ xs
joined_push [] xs = append-nil xs
joined_push (ys ∷ lists) xs = ap (λ (zs : List Segment). ys ++ zs) (joined_push lists xs) ∙ sym (append_assoc ys (joined lists) xs)

places_push : (n : ℕ) (lists : List (List Segment)) (xs : List Segment) → places_from n (lists ++ xs ∷ []) ≡ places_from n lists ++ (n + length (joined lists)) ∷ []
places_push n [] xs = λ i. whole n i ∷ []
  where
    whole : (n : ℕ) → n ≡ n + 0
    whole n = omega arith
places_push n (ys ∷ lists) xs =
    ap (λ (zs : List ℕ). n ∷ zs) (places_push (n + length ys) lists xs ∙ (λ i. places_from (n + length ys) lists ++ all i ∷ []))
  where
    all : n + length ys + length (joined lists) ≡ n + length (ys ++ joined lists)
    all = omega (arith, length-append ys (joined lists))

abbrev first_of : List Segment → ℕ
first_of [] = 0
first_of (x ∷ xs) = x.tri

module _ (c : Plane) (s : Part) where
  -- each triangle in the list has a border
  crossed_at : (xs : List Segment) → All (IsSegmentOf c s) xs → (i : ℕ) → Contains (triangles_of xs) i → IsCrossedAt c s i
  crossed_at xs each i there =
      let (x, found, same) = segment_at xs i there in
      subst (λ (k : ℕ). IsCrossedAt c s k) same (segment_crossed c s x (All-contains (IsSegmentOf c s) xs x each found))

  pub sweep_starts : (n : ℕ) → n ≡ length s.triangles → AreSwept c s 0 (replicate n false) [] []
  sweep_starts n e = record {
    lists = [];
    together = refl;
    begin = refl;
    closed = All-nil IsLoop;
    ascending = pairs_none BeginsBefore;
    below = λ x xs there. absurd (contains_none (x ∷ xs) there);
    each = All-nil (IsSegmentOf c s);
    once = pairs_none (λ i j. i ≢ j);
    marked = λ i. ((λ h. absurd (none_marked n i h)), (λ there. absurd (contains_none i there)));
    following = λ j h. absurd (none_marked n j h);
    done = λ f crossed less. absurd (omega arith);
    long = length-replicate n false ∙ e;
    count = omega (arith, unmarked_none n);
  }

  module _ (n : ℕ) (marks : List Bool) (segments : List Segment) (places : List ℕ) (h : AreSwept c s n marks segments places) where
    -- a triangle that is marked, or has no border
    pub sweep_skips : (IsCrossedAt c s n → IsMarked marks n) → AreSwept c s (n + 1) marks segments places
    sweep_skips marked = record {
      lists = h.lists;
      together = h.together;
      begin = h.begin;
      closed = h.closed;
      ascending = h.ascending;
      below = λ x xs there. let less = h.below x xs there in omega arith;
      each = h.each;
      once = h.once;
      marked = h.marked;
      following = h.following;
      done = λ f crossed less. by f crossed less (cases_eq f.number n);
      long = h.long;
      count = h.count;
    }
      where
        by : (f : Face s) → IsCrossed c f → f.number < n + 1 → (f.number ≡ n) ⊎ (¬ (f.number ≡ n)) → IsMarked marks f.number
        by f crossed less (inl same) = subst (IsMarked marks) (sym same) (marked (f, same, crossed))
        by f crossed less (inr other) = h.done f crossed (omega arith)

    -- a loop that begins at this triangle
    module _ (more : List Bool) (newer : List Segment) (r : IsRound c s n marks segments more newer) where
      triangles_are : triangles_of newer ≡ triangles_of segments ++ triangles_of (r.first ∷ r.rest)
      triangles_are = ap triangles_of r.grown ∙ map-append (λ (x : Segment). x.tri) segments (r.first ∷ r.rest)

      later : (i : ℕ) → Contains (triangles_of r.rest) i → r.first.tri < i
      later i there = by (cases_lt r.first.tri i)
        where
          within : Contains (triangles_of (r.first ∷ r.rest)) i
          within = contains_rest r.first.tri (triangles_of r.rest) i there

          unlike : r.first.tri ≢ i
          unlike = All-contains (λ (j : ℕ). r.first.tri ≢ j) (triangles_of r.rest) i (pairs_first (λ (i : ℕ) (j : ℕ). i ≢ j) r.first.tri (triangles_of r.rest) r.once) there

          early : IsCrossedAt c s i → i < n → ⊥
          early (f, number, crossed) less = r.free i within (subst (IsMarked marks) number (h.done f crossed (omega arith)))

          by : (r.first.tri < i) ⊎ (i ≤ r.first.tri) → r.first.tri < i
          by (inl less) = less
          by (inr least) = absurd (early (crossed_at (r.first ∷ r.rest) r.each i within) (strict r.first.tri i n r.begin least unlike))
            where
              strict : (k i n : ℕ) → k ≡ n → i ≤ k → k ≢ i → i < n
              strict k i n e least unlike = omega (arith, λ (same : i ≡ k). unlike (sym same))

      comes_after : (xs : List Segment) → IsLoop xs → Contains h.lists xs → BeginsBefore xs (r.first ∷ r.rest)
      comes_after [] loop there = absurd loop
      comes_after (x ∷ xs) loop there = let less = h.below x xs there in omega (arith, r.begin)

      pub sweep_rounds : AreSwept c s (n + 1) more newer (places ++ length segments ∷ [])
      sweep_rounds = record {
        lists = h.lists ++ (r.first ∷ r.rest) ∷ [];
        together = r.grown ∙ ap (λ (xs : List Segment). xs ++ r.first ∷ r.rest) h.together ∙ sym (joined_push h.lists (r.first ∷ r.rest));
        begin = (λ i. h.begin i ++ length (h.together i) ∷ []) ∙ sym (places_push 0 h.lists (r.first ∷ r.rest) ∙ (λ i. places_from 0 h.lists ++ none (length (joined h.lists)) i ∷ []));
        closed = All-push IsLoop h.lists (r.first ∷ r.rest) h.closed (r.closed, each_contains (λ (i : ℕ). r.first.tri < i) (triangles_of r.rest) later);
        ascending = pairs_append BeginsBefore h.lists ((r.first ∷ r.rest) ∷ []) h.ascending (λ i j e less within. absurd (omega arith))
            (λ xs ys first second. subst (BeginsBefore xs) (one ys second) (comes_after xs (All-contains IsLoop h.lists xs h.closed first) first));
        below = λ x xs there. by_list x xs (Contains-push_cases h.lists (r.first ∷ r.rest) (x ∷ xs) there);
        each = subst (All (IsSegmentOf c s)) (sym r.grown) (All-append (IsSegmentOf c s) segments (r.first ∷ r.rest) h.each r.each);
        once = subst (AllPairs (λ i j. i ≢ j)) (sym triangles_are) (pairs_append (λ i j. i ≢ j) (triangles_of segments) (triangles_of (r.first ∷ r.rest)) h.once r.once
            (λ i j first second same. r.free j second (subst (IsMarked marks) same ((h.marked i).1 first))));
        marked = λ i. (
          (λ k. subst (λ (ys : List ℕ). Contains ys i) (sym triangles_are) (gathered i ((r.marked i).0 k))),
          (λ k. (r.marked i).1 (parted i (Contains-append_cases (triangles_of segments) (triangles_of (r.first ∷ r.rest)) i (subst (λ (ys : List ℕ). Contains ys i) triangles_are k)))),
        );
        following = r.following;
        done = λ f crossed less. by_face f crossed less (cases_eq f.number n);
        long = r.long ∙ h.long;
        count = omega (arith, r.count, h.count);
      }
        where
          none : (n : ℕ) → 0 + n ≡ n
          none n = omega arith

          one : (ys : List Segment) → Contains ((r.first ∷ r.rest) ∷ []) ys → r.first ∷ r.rest ≡ ys
          one ys (zero, less, is) = is
          one ys (suc k, less, is) = absurd (omega arith)

          by_list : (x : Segment) (xs : List Segment) → Contains h.lists (x ∷ xs) ⊎ (r.first ∷ r.rest ≡ x ∷ xs) → x.tri < n + 1
          by_list x xs (inl there) = let less = h.below x xs there in omega arith
          by_list x xs (inr same) = let e = tri_of same in omega (arith, e, r.begin)
            where
              tri_of : r.first ∷ r.rest ≡ x ∷ xs → r.first.tri ≡ x.tri
              tri_of same = ap first_of same

          gathered : (i : ℕ) → IsMarked marks i ⊎ Contains (triangles_of (r.first ∷ r.rest)) i → Contains (triangles_of segments ++ triangles_of (r.first ∷ r.rest)) i
          gathered i (inl k) = Contains-append_left (triangles_of segments) (triangles_of (r.first ∷ r.rest)) i ((h.marked i).0 k)
          gathered i (inr k) = Contains-append_right (triangles_of segments) (triangles_of (r.first ∷ r.rest)) i k

          parted : (i : ℕ) → Contains (triangles_of segments) i ⊎ Contains (triangles_of (r.first ∷ r.rest)) i → IsMarked marks i ⊎ Contains (triangles_of (r.first ∷ r.rest)) i
          parted i (inl k) = inl ((h.marked i).1 k)
          parted i (inr k) = inr k

          by_face : (f : Face s) → IsCrossed c f → f.number < n + 1 → (f.number ≡ n) ⊎ (¬ (f.number ≡ n)) → IsMarked more f.number
          by_face f crossed less (inl same) =
              (r.marked f.number).1 (inr (subst (Contains (triangles_of (r.first ∷ r.rest))) (r.begin ∙ sym same) (contains_first (triangles_of r.rest) r.first.tri)))
          by_face f crossed less (inr other) = (r.marked f.number).1 (inl (h.done f crossed (omega arith)))

  -- at the end, each triangle was looked at
  pub sweep_ends : (n : ℕ) (marks : List Bool) (segments : List Segment) (places : List ℕ) → n ≡ length s.triangles → AreSwept c s n marks segments places → AreBorders c s segments places
  sweep_ends n marks segments places e h = record {
    each = h.each;
    once = h.once;
    all = λ f crossed. (h.marked f.number).0 (h.done f crossed (omega (arith, slice_get_within s.triangles f.number f.tri f.listed)));
    loops = record { lists = h.lists; together = h.together; begin = h.begin; closed = h.closed; ascending = h.ascending };
  }
