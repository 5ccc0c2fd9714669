-- Following a border from its least triangle comes back to that triangle, and to no triangle twice.
use Rattle.std.proofs.Common.{◌≡◌, ◌≢◌, ℕ, ◌+◌, ◌<◌, ◌⊎◌, inl, inr, ◌↔◌, Bool, true, List, [], ◌∷◌, ◌++◌, Contains, length, append_assoc, refl, sym, subst, ap, ◌∙◌, arith, length-append}
use Rattle.std.specs.List.{All, AllPairs}
use Rattle.std.proofs.lemmas.Bool.{cases_eq}
use Rattle.std.proofs.lemmas.List.{map-append, length-set}
use Rattle.std.proofs.lemmas.List.Elements.{All-head, All-push, All-cons, All-nil, Contains-append_left, Contains-push, Contains-push_cases}
use Rattle.lattice.specs.Points.{Point, of_spot}
use Rattle.lattice.specs.Cuts.{Plane}
use Rattle.geometry.specs.Parts.{Part, HasNoSideTwice}
use Rattle.cut_plane.specs.declared.segments.Segment.{Segment}
use Rattle.cut_plane.specs.Loops.{IsSegmentOf, triangles_of, LeadFrom}
use Rattle.cut_plane.specs.inner.Walks.{Follows, IsMarked, unmarked, AreFollowing, IsStep, IsRound}
use Rattle.cut_plane.proofs.Following.{EntersAt, segment_enters, segment_leaves, one_follows}
use Rattle.cut_plane.proofs.Lists.{contains_first, contains_cases, contains_none, pairs_none, pairs_append, marked_set, unmarked_set}

-- one more segment
lead_on : (p : Point) (xs : List Segment) (q : Point) (x : Segment) → LeadFrom p xs q → of_spot x.a ≡ q → LeadFrom p (xs ++ x ∷ []) (of_spot x.b)
lead_on p [] q x h e = (e ∙ sym h, refl)
lead_on p (y ∷ xs) q x h e = (h.0, lead_on (of_spot y.b) xs q x h.1 e)

more_triangles : (xs : List Segment) (x : Segment) → triangles_of (xs ++ x ∷ []) ≡ triangles_of xs ++ x.tri ∷ []
more_triangles xs x = map-append (λ (y : Segment). y.tri) xs (x ∷ [])

module _ (c : Plane) (s : Part) (start : ℕ) (old_marks : List Bool) (old : List Segment) where
  -- on the way round: the border has been followed from the start to triangle tri, which comes after the last one
  pub record IsWalk (marks : List Bool) (new : List Segment) (tri : ℕ) : Type 0 where
    pub first : Segment
    pub rest : List Segment
    pub grown : new ≡ old ++ first ∷ rest
    pub begin : first.tri ≡ start
    pub here : Point
    pub leads : LeadFrom (of_spot first.b) rest here
    pub enters : EntersAt c s tri here
    pub last : ℕ
    pub follows : Follows c s last tri
    pub last_marked : IsMarked marks last
    pub before : (j : ℕ) → IsMarked marks j → j ≢ start → (i : ℕ) × IsMarked marks i × Follows c s i j × (i ≢ last)
    pub each : All (IsSegmentOf c s) (first ∷ rest)
    pub once : AllPairs (λ i j. i ≢ j) (triangles_of (first ∷ rest))
    pub free : (i : ℕ) → Contains (triangles_of (first ∷ rest)) i → ¬ IsMarked old_marks i
    pub marked : (i : ℕ) → IsMarked marks i ↔ (IsMarked old_marks i ⊎ Contains (triangles_of (first ∷ rest)) i)
    pub long : length marks ≡ length old_marks
    pub count : unmarked marks + length new ≡ unmarked old_marks + length old

  pub walk_starts : (marks : List Bool) (new : List Segment) (next : ℕ) → start < length old_marks → ¬ IsMarked old_marks start → AreFollowing c s old_marks → IsStep c s start old_marks old marks new next → IsWalk marks new next
  walk_starts marks new next within free following step = record {
    first = step.segment;
    rest = [];
    grown = step.grown;
    begin = step.at;
    here = of_spot step.segment.b;
    leads = refl;
    enters = segment_leaves c s step.segment next step.right (subst (λ (i : ℕ). Follows c s i next) (sym step.at) step.follows);
    last = start;
    follows = step.follows;
    last_marked = (now start).1 (inr refl);
    before = λ j marked other. by j other ((now j).0 marked);
    each = All-cons (IsSegmentOf c s) step.segment [] step.right (All-nil (IsSegmentOf c s));
    once = pairs_append (λ i j. i ≢ j) [] (step.segment.tri ∷ []) (pairs_none (λ i j. i ≢ j)) (λ i j e less within'. absurd (omega arith)) (λ i j there. absurd (contains_none i there));
    free = λ i there. subst (λ (k : ℕ). ¬ IsMarked old_marks k) (sym step.at ∙ only i there) free;
    marked = λ i. (
      (λ h. added i ((now i).0 h)),
      (λ h. (now i).1 (kept i h)),
    );
    long = ap length step.marked ∙ length-set old_marks start true;
    count = omega (arith, unmarked_set old_marks start within free, ap unmarked step.marked, ap length step.grown, length-append old (step.segment ∷ []));
  }
    where
      now : (i : ℕ) → IsMarked marks i ↔ (IsMarked old_marks i ⊎ (start ≡ i))
      now i = subst (λ (m : List Bool). IsMarked m i ↔ (IsMarked old_marks i ⊎ (start ≡ i))) (sym step.marked) (marked_set old_marks start i within)

      only : (i : ℕ) → Contains (step.segment.tri ∷ []) i → step.segment.tri ≡ i
      only i there = one (contains_cases step.segment.tri [] i there)
        where
          one : (step.segment.tri ≡ i) ⊎ Contains [] i → step.segment.tri ≡ i
          one (inl e) = e
          one (inr none) = absurd (contains_none i none)

      apart : (i : ℕ) → IsMarked old_marks i → i ≢ start
      apart i h e = free (subst (λ (k : ℕ). IsMarked old_marks k) e h)

      by : (j : ℕ) → j ≢ start → IsMarked old_marks j ⊎ (start ≡ j) → (i : ℕ) × IsMarked marks i × Follows c s i j × (i ≢ start)
      by j other (inl h) = let (i, before, follows) = following j h in (i, (now i).1 (inl before), follows, apart i before)
      by j other (inr e) = absurd (other (sym e))

      added : (i : ℕ) → IsMarked old_marks i ⊎ (start ≡ i) → IsMarked old_marks i ⊎ Contains (step.segment.tri ∷ []) i
      added i (inl h) = inl h
      added i (inr e) = inr (subst (λ (k : ℕ). Contains (step.segment.tri ∷ []) k) (step.at ∙ e) (contains_first [] step.segment.tri))

      kept : (i : ℕ) → IsMarked old_marks i ⊎ Contains (step.segment.tri ∷ []) i → IsMarked old_marks i ⊎ (start ≡ i)
      kept i (inl h) = inl h
      kept i (inr there) = inr (sym step.at ∙ only i there)

  module _ (once : HasNoSideTwice s) where
    -- the triangle that comes next is a new one, or the start
    pub walk_free : (marks : List Bool) (new : List Segment) (tri : ℕ) → IsWalk marks new tri → tri ≢ start → ¬ IsMarked marks tri
    walk_free marks new tri walk other h =
        let (i, marked, follows, apart) = walk.before tri h other in
        apart (one_follows c s once i walk.last tri follows walk.follows)

    pub walk_goes_on : (marks : List Bool) (new : List Segment) (tri : ℕ) (more : List Bool) (newer : List Segment) (next : ℕ) → tri < length marks → IsWalk marks new tri → tri ≢ start → IsStep c s tri marks new more newer next → IsWalk more newer next
    walk_goes_on marks new tri more newer next within walk other step = record {
      first = walk.first;
      rest = walk.rest ++ x ∷ [];
      grown = step.grown ∙ ap (λ (ys : List Segment). ys ++ x ∷ []) walk.grown ∙ append_assoc old (walk.first ∷ walk.rest) (x ∷ []);
      begin = walk.begin;
      here = of_spot x.b;
      leads = lead_on (of_spot walk.first.b) walk.rest walk.here x walk.leads (segment_enters c s x walk.here step.right (subst (λ (i : ℕ). EntersAt c s i walk.here) (sym step.at) walk.enters));
      enters = segment_leaves c s x next step.right (subst (λ (i : ℕ). Follows c s i next) (sym step.at) step.follows);
      last = tri;
      follows = step.follows;
      last_marked = (now tri).1 (inr refl);
      before = λ j marked apart. by j apart ((now j).0 marked);
      each = All-push (IsSegmentOf c s) (walk.first ∷ walk.rest) x walk.each step.right;
      once = subst (AllPairs (λ i j. i ≢ j)) (sym list) (pairs_append (λ i j. i ≢ j) there (x.tri ∷ []) walk.once (λ i j e less within'. absurd (omega arith)) (λ i j first second. differ i j first (only j second)));
      free = λ i here. new_free i (Contains-push_cases there x.tri i (subst (λ (ys : List ℕ). Contains ys i) list here));
      marked = λ i. (
        (λ h. added i ((now i).0 h)),
        (λ h. (now i).1 (kept i h)),
      );
      long = ap length step.marked ∙ length-set marks tri true ∙ walk.long;
      count = omega (arith, walk.count, unmarked_set marks tri within fresh, ap unmarked step.marked, ap length step.grown, length-append new (x ∷ []));
    }
      where
        x : Segment
        x = step.segment

        fresh : ¬ IsMarked marks tri
        fresh = walk_free marks new tri walk other

        there : List ℕ
        there = triangles_of (walk.first ∷ walk.rest)

        list : triangles_of (walk.first ∷ (walk.rest ++ x ∷ [])) ≡ there ++ x.tri ∷ []
        list = more_triangles (walk.first ∷ walk.rest) x

        now : (i : ℕ) → IsMarked more i ↔ (IsMarked marks i ⊎ (tri ≡ i))
        now i = subst (λ (m : List Bool). IsMarked m i ↔ (IsMarked marks i ⊎ (tri ≡ i))) (sym step.marked) (marked_set marks tri i within)

        only : (i : ℕ) → Contains (x.tri ∷ []) i → x.tri ≡ i
        only i h = one (contains_cases x.tri [] i h)
          where
            one : (x.tri ≡ i) ⊎ Contains [] i → x.tri ≡ i
            one (inl e) = e
            one (inr none) = absurd (contains_none i none)

        apart : (i : ℕ) → IsMarked marks i → i ≢ tri
        apart i h e = fresh (subst (λ (k : ℕ). IsMarked marks k) e h)

        differ : (i j : ℕ) → Contains there i → x.tri ≡ j → i ≢ j
        differ i j h e same = apart i ((walk.marked i).1 (inr h)) (same ∙ sym e ∙ step.at)

        by : (j : ℕ) → j ≢ start → IsMarked marks j ⊎ (tri ≡ j) → (i : ℕ) × IsMarked more i × Follows c s i j × (i ≢ tri)
        by j away (inl h) = let (i, before, follows, aside) = walk.before j h away in (i, (now i).1 (inl before), follows, apart i before)
        by j away (inr e) = (walk.last, (now walk.last).1 (inl walk.last_marked), subst (λ (k : ℕ). Follows c s walk.last k) e walk.follows, apart walk.last walk.last_marked)

        new_free : (i : ℕ) → Contains there i ⊎ (x.tri ≡ i) → ¬ IsMarked old_marks i
        new_free i (inl h) = walk.free i h
        new_free i (inr e) = λ h. fresh (subst (λ (k : ℕ). IsMarked marks k) (sym e ∙ step.at) ((walk.marked i).1 (inl h)))

        added : (i : ℕ) → IsMarked marks i ⊎ (tri ≡ i) → IsMarked old_marks i ⊎ Contains (triangles_of (walk.first ∷ (walk.rest ++ x ∷ []))) i
        added i (inl h) = more_of ((walk.marked i).0 h)
          where
            more_of : IsMarked old_marks i ⊎ Contains there i → IsMarked old_marks i ⊎ Contains (triangles_of (walk.first ∷ (walk.rest ++ x ∷ []))) i
            more_of (inl k) = inl k
            more_of (inr k) = inr (subst (λ (ys : List ℕ). Contains ys i) (sym list) (Contains-append_left there (x.tri ∷ []) i k))
        added i (inr e) = inr (subst (λ (ys : List ℕ). Contains ys i) (sym list) (subst (λ (k : ℕ). Contains (there ++ x.tri ∷ []) k) (step.at ∙ e) (Contains-push there x.tri)))

        kept : (i : ℕ) → IsMarked old_marks i ⊎ Contains (triangles_of (walk.first ∷ (walk.rest ++ x ∷ []))) i → IsMarked marks i ⊎ (tri ≡ i)
        kept i (inl h) = inl ((walk.marked i).1 (inl h))
        kept i (inr h) = one (Contains-push_cases there x.tri i (subst (λ (ys : List ℕ). Contains ys i) list h))
          where
            one : Contains there i ⊎ (x.tri ≡ i) → IsMarked marks i ⊎ (tri ≡ i)
            one (inl k) = inl ((walk.marked i).1 (inr k))
            one (inr e) = inr (sym step.at ∙ e)

  -- back at the start, the loop is closed
  pub walk_ends : (marks : List Bool) (new : List Segment) (tri : ℕ) → IsWalk marks new tri → tri ≡ start → IsRound c s start old_marks old marks new
  walk_ends marks new tri walk back = record {
    first = walk.first;
    rest = walk.rest;
    grown = walk.grown;
    begin = walk.begin;
    closed = subst (LeadFrom (of_spot walk.first.b) walk.rest) (sym (segment_enters c s walk.first walk.here first_right (subst (λ (i : ℕ). EntersAt c s i walk.here) (back ∙ sym walk.begin) walk.enters))) walk.leads;
    each = walk.each;
    once = walk.once;
    free = walk.free;
    marked = walk.marked;
    following = λ j h. by j h (cases_eq j start);
    long = walk.long;
    count = walk.count;
  }
    where
      first_right : IsSegmentOf c s walk.first
      first_right = All-head (IsSegmentOf c s) walk.first walk.rest walk.each

      by : (j : ℕ) → IsMarked marks j → (j ≡ start) ⊎ (¬ (j ≡ start)) → (i : ℕ) × IsMarked marks i × Follows c s i j
      by j h (inl e) = (walk.last, walk.last_marked, subst (λ (k : ℕ). Follows c s walk.last k) (back ∙ sym e) walk.follows)
      by j h (inr other) = let (i, marked, follows, apart) = walk.before j h other in (i, marked, follows)
