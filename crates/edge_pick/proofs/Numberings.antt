-- Runs are the connected parts of the drawn edges, numbered by their first edge.
use Rattle.std.proofs.Common.{◌≡◌, ℕ, zero, suc, ◌+◌, ◌<◌, ◌≤◌, ◌⊎◌, inl, inr, ◌↔◌, List, [], ◌∷◌, ◌++◌, All, AllPairs, Contains, Option, Some, None, length, take, get_or, set, slice_get, refl, sym, subst, ap, ◌∙◌, arith, length-append}
use Rattle.std.specs.List.{range_with_len}
use Rattle.std.specs.List.Sorted.{IsStrictlyIncreasing}
use Rattle.std.proofs.Math.ListN.{length-set}
use Rattle.std.proofs.lemmas.Bool.{cases_eq, cases_lt}
use Rattle.std.proofs.lemmas.List.{length-map, get_or-map, get_or-set_same, get_or-set_other, take_more, take_all}
use Rattle.std.proofs.lemmas.List.Elements.{All-contains, Contains-get_or, Contains-append_left, Contains-push_cases}
use Rattle.std.proofs.lemmas.List.FromFn.{length-range_with_len, get_or-range_with_len}
use Rattle.std.proofs.lemmas.List.Quantifiers.{all_pairs_push}
use Rattle.std.proofs.lemmas.List.Sorted.{IsPermutation-sym, Contains-permutation, length_permutation}
use Rattle.std.proofs.lemmas.Option.{slice_get_within, get_or_from_slice_get}
use Rattle.integers.proofs.Lists.{some_element}
use Rattle.geometry.specs.Parts.{Part}
use Rattle.geometry.specs.Runs.{Leads, CountUpFrom, AreRuns}
use Rattle.geometry.proofs.Listed.{same_element}
use Rattle.edge_pick.specs.declared.order.EdgeCorners.{EdgeCorners}
use Rattle.edge_pick.specs.declared.order.DrawnEnd.{DrawnEnd}
use Rattle.edge_pick.specs.declared.order.Step.{Step}
use Rattle.edge_pick.specs.Orders.{corner_of, Reaches, begin, further, IsWalkedBefore, places_of, starts_in, AreWalked}
use Rattle.edge_pick.specs.inner.Numberings.{AreCornersOf, HasEdge, IsWithin, number_from, IsNumberOf, AreNumbered}
use Rattle.edge_pick.proofs.OrderSearch.{slice_get_left, places_push, starts_push, starts_same, place_listed, step_at}
use Rattle.edge_pick.proofs.EdgePlaces.{reaches_on, reaches_back, reaches_of, leads_of}

-- ---- numbers that count up
-- where all smaller numbers are before each, the numbers are new one by one
module _ (runs : List ℕ) (smaller : (k r : ℕ) → k < length runs → r < get_or runs k 0 → (l : ℕ) × (l < k) × (get_or runs l 0 ≡ r)) where
  -- of the first k numbers all are below `next`, and they reach it
  pub count_from : (k next : ℕ) (rest : List ℕ) → k + length rest ≡ length runs → ((i : ℕ) → i < length rest → get_or rest i 0 ≡ get_or runs (k + i) 0)
      → ((l : ℕ) → l < k → get_or runs l 0 < next) → ((r : ℕ) → r < next → (l : ℕ) × (l < k) × (get_or runs l 0 ≡ r)) → CountUpFrom next rest
  count_from k next [] all same below seen = tt
  count_from k next (x ∷ rest) all same below seen = by (λ most under seen_by. count_from (k + 1) most rest (omega (arith, all)) later under seen_by) (cases_lt x next) (cases_eq x next)
    where
      here : x ≡ get_or runs k 0
      here = same 0 (omega arith) ∙ ap (λ (i : ℕ). get_or runs i 0) (plus_none k)
        where
          plus_none : (k : ℕ) → k + 0 ≡ k
          plus_none k = omega arith

      later : (i : ℕ) → i < length rest → get_or rest i 0 ≡ get_or runs (k + 1 + i) 0
      later i l = same (suc i) (omega arith) ∙ ap (λ (j : ℕ). get_or runs j 0) (moved k i)
        where
          moved : (k i : ℕ) → k + suc i ≡ k + 1 + i
          moved k i = omega arith

      on : ((most : ℕ) → ((i : ℕ) → i < k + 1 → get_or runs i 0 < most) → ((r : ℕ) → r < most → (l : ℕ) × (l < k + 1) × (get_or runs l 0 ≡ r)) → CountUpFrom most rest)
          → (most : ℕ) → x < most → next ≤ most → ((r : ℕ) → r < most → (r < next) ⊎ (x ≡ r)) → CountUpFrom most rest
      on rec most l grows reach = rec most (λ i m. under i (cases_lt i k) m) (λ r m. seen_by r (reach r m))
        where
          under : (i : ℕ) → (i < k) ⊎ (k ≤ i) → i < k + 1 → get_or runs i 0 < most
          under i (inl m) n = omega (arith, below i m, grows)
          under i (inr m) n =
              let is : i ≡ k = omega arith in
              omega (arith, here, l, ap (λ (j : ℕ). get_or runs j 0) is)

          seen_by : (r : ℕ) → (r < next) ⊎ (x ≡ r) → (i : ℕ) × (i < k + 1) × (get_or runs i 0 ≡ r)
          seen_by r (inl m) = let (i, n, is) = seen r m in (i, omega (arith, n), is)
          seen_by r (inr is) = (k, omega arith, sym here ∙ is)

      by : ((most : ℕ) → ((i : ℕ) → i < k + 1 → get_or runs i 0 < most) → ((r : ℕ) → r < most → (l : ℕ) × (l < k + 1) × (get_or runs l 0 ≡ r)) → CountUpFrom most rest)
          → (x < next) ⊎ (next ≤ x) → (x ≡ next) ⊎ (x ≡ next → ⊥) → CountUpFrom next (x ∷ rest)
      by rec (inl l) e = inl (l, on rec next l (omega arith) (λ r m. inl m))
      by rec (inr l) (inl e) = inr (e, on rec (next + 1) (omega arith) (omega arith) (λ r m. last r (cases_lt r next) m))
        where
          last : (r : ℕ) → (r < next) ⊎ (next ≤ r) → r < next + 1 → (r < next) ⊎ (x ≡ r)
          last r (inl a) m = inl a
          last r (inr a) m = inr (omega (arith, e))
      by rec (inr l) (inr apart) =
          let (i, before, is) = smaller k next (omega (arith, all)) (omega (arith, here, strictly x next l apart)) in
          absurd (omega (arith, below i before, is))
        where
          strictly : (x next : ℕ) → next ≤ x → (x ≡ next → ⊥) → next < x
          strictly x next l apart = either (cases_lt next x)
            where
              either : (next < x) ⊎ (x ≤ next) → next < x
              either (inl m) = m
              either (inr m) = absurd (apart (omega arith))

-- ---- what the first steps number
-- a run begins at a place that a step goes to
start_listed : (steps : List Step) (s : ℕ) → Contains (starts_in steps) s → Contains (places_of steps) s
start_listed [] s c = c
start_listed (x ∷ steps) s c = by (start_listed steps s) x.from c
  where
    more : Contains (places_of steps) s → Contains (x.to.place ∷ places_of steps) s
    more (k, within, is) = (suc k, omega (arith, within), is)

    by : (Contains (starts_in steps) s → Contains (places_of steps) s) → (from : Option DrawnEnd) → Contains (starts_in (record { to = x.to; from = from } ∷ steps)) s → Contains (x.to.place ∷ places_of steps) s
    by rest None (zero, within, is) = (0, omega arith, is)
    by rest None (suc k, within, is) = more (rest (k, omega (arith, within), is))
    by rest (Some from) c = more (rest c)

-- the front of a list holds its first elements
within_front : {X : Type 0} (xs : List X) (k i : ℕ) (x : X) → i < k → slice_get xs i ≡ Some x → slice_get (take k xs) i ≡ Some x
within_front [] k i x l e = absurd (cc)
within_front (y ∷ xs) zero i x l e = absurd (omega arith)
within_front (y ∷ xs) (suc k) zero x l e = e
within_front (y ∷ xs) (suc k) (suc i) x l e = within_front xs k i x (omega arith) e

of_front : {X : Type 0} (xs : List X) (k i : ℕ) (x : X) → slice_get (take k xs) i ≡ Some x → (i < k) × (slice_get xs i ≡ Some x)
of_front [] zero i x e = absurd (cc)
of_front [] (suc k) i x e = absurd (cc)
of_front (y ∷ xs) zero i x e = absurd (cc)
of_front (y ∷ xs) (suc k) zero x e = (omega arith, e)
of_front (y ∷ xs) (suc k) (suc i) x e = let r = of_front xs k i x e in (omega (arith, r.0), r.1)

length-take_at_most : {X : Type 0} (k : ℕ) (xs : List X) → length (take k xs) ≤ k
length-take_at_most zero xs = omega arith
length-take_at_most (suc k) [] = omega arith
length-take_at_most (suc k) (x ∷ xs) = let l = length-take_at_most k xs in omega arith

few_starts : (steps : List Step) → length (starts_in steps) ≤ length steps
few_starts [] = omega arith
few_starts (x ∷ steps) = by x.from (few_starts steps)
  where
    by : (from : Option DrawnEnd) → length (starts_in steps) ≤ length steps → length (starts_in (record { to = x.to; from = from } ∷ steps)) ≤ length (x ∷ steps)
    by None l = omega arith
    by (Some from) l = omega arith

module _ (edges : List EdgeCorners) where
  pub record IsNumbering (front : List Step) (next : ℕ) (runs : List ℕ) : Type 0 where
    pub long : length runs ≡ length edges
    pub next_is : next ≡ length (starts_in front)
    pub rising : AllPairs ◌<◌ (starts_in front)
    pub before : (start place : ℕ) → Contains (starts_in front) start → place < start → Contains (places_of front) place
    pub right : (place : ℕ) → Contains (places_of front) place → IsNumberOf edges (starts_in front) (get_or runs place 0) place

  pub numbering_none : (runs : List ℕ) → length runs ≡ length edges → IsNumbering [] 0 runs
  numbering_none runs long = record {
    long = long;
    next_is = refl;
    rising = λ i j d l within. absurd (omega (arith, within));
    before = λ start place c l. absurd (omega (arith, c.1));
    right = λ place c. absurd (omega (arith, c.1));
  }

  -- the next step, to an edge that no step before it goes to
  module _ (front : List Step) (next : ℕ) (runs : List ℕ) (h : IsNumbering front next runs) (to : DrawnEnd) (new : Contains (places_of front) to.place → ⊥) (within : to.place < length edges) where
    others : (run place : ℕ) → Contains (places_of front) place → get_or (set runs to.place run) place 0 ≡ get_or runs place 0
    others run place c = get_or-set_other runs to.place place run 0 (λ e. new (subst (λ (i : ℕ). Contains (places_of front) i) e c))

    this : (run : ℕ) → get_or (set runs to.place run) to.place 0 ≡ run
    this run = get_or-set_same runs to.place run 0 (omega (arith, within, h.long))

    -- a start is not behind an edge that is not reached
    not_behind : (start : ℕ) → Contains (starts_in front) start → start ≤ to.place
    not_behind start c = by (cases_lt to.place start)
      where
        by : (to.place < start) ⊎ (start ≤ to.place) → start ≤ to.place
        by (inl l) = absurd (new (h.before start to.place c l))
        by (inr l) = l

    pub numbering_begun : ((place : ℕ) → place < to.place → Contains (places_of front) place) → IsNumbering (front ++ record { to = to; from = None } ∷ []) (next + 1) (set runs to.place next)
    numbering_begun all = record {
      long = length-set runs to.place next ∙ h.long;
      next_is = omega (arith, h.next_is, ap (λ (xs : List ℕ). length xs) starts, length-append (starts_in front) (to.place ∷ []));
      rising = subst (λ (xs : List ℕ). AllPairs ◌<◌ xs) (sym starts) (all_pairs_push ◌<◌ (starts_in front) to.place h.rising (λ k d l. less (get_or (starts_in front) k d) (Contains-get_or (starts_in front) k d l)));
      before = λ start place c l. reached place (before start place (Contains-push_cases (starts_in front) to.place start (subst (λ (xs : List ℕ). Contains xs start) starts c)) l);
      right = λ place c. right place (Contains-push_cases (places_of front) to.place place (subst (λ (xs : List ℕ). Contains xs place) (places_push front (record { to = to; from = None })) c));
    }
      where
        starts : starts_in (front ++ record { to = to; from = None } ∷ []) ≡ starts_in front ++ to.place ∷ []
        starts = starts_push front to

        reached : (place : ℕ) → Contains (places_of front) place → Contains (places_of (front ++ record { to = to; from = None } ∷ [])) place
        reached place c = subst (λ (xs : List ℕ). Contains xs place) (sym (places_push front (record { to = to; from = None }))) (Contains-append_left (places_of front) (to.place ∷ []) place c)

        less : (start : ℕ) → Contains (starts_in front) start → start < to.place
        less start c = by (cases_eq start to.place)
          where
            by : (start ≡ to.place) ⊎ (start ≡ to.place → ⊥) → start < to.place
            by (inl e) = absurd (new (subst (λ (i : ℕ). Contains (places_of front) i) e (start_listed front start c)))
            by (inr apart) = strict (cases_lt start to.place)
              where
                strict : (start < to.place) ⊎ (to.place ≤ start) → start < to.place
                strict (inl l) = l
                strict (inr l) = absurd (apart (omega (arith, l, not_behind start c)))

        before : (start place : ℕ) → Contains (starts_in front) start ⊎ (to.place ≡ start) → place < start → Contains (places_of front) place
        before start place (inl c) l = h.before start place c l
        before start place (inr e) l = all place (omega arith)

        right : (place : ℕ) → Contains (places_of front) place ⊎ (to.place ≡ place) → IsNumberOf edges (starts_in (front ++ record { to = to; from = None } ∷ [])) (get_or (set runs to.place next) place 0) place
        right place (inl c) =
            let n = h.right place c in
            record {
              start = n.start;
              listed = subst (λ (xs : List ℕ). slice_get xs (get_or (set runs to.place next) place 0) ≡ Some n.start) (sym starts)
                  (slice_get_left (starts_in front) (to.place ∷ []) (get_or (set runs to.place next) place 0) n.start (ap (λ (r : ℕ). slice_get (starts_in front) r) (others next place c) ∙ n.listed));
              leads = n.leads;
              first = n.first;
            }
        right place (inr e) = subst (λ (i : ℕ). IsNumberOf edges (starts_in (front ++ record { to = to; from = None } ∷ [])) (get_or (set runs to.place next) i 0) i) e (record {
          start = to.place;
          listed = ap (λ (r : ℕ). slice_get (starts_in (front ++ record { to = to; from = None } ∷ [])) r) (this next ∙ h.next_is) ∙ subst (λ (xs : List ℕ). slice_get xs (length (starts_in front)) ≡ Some to.place) (sym starts) (last (starts_in front));
          leads = begin to.place;
          first = omega arith;
        })
          where
            last : (xs : List ℕ) → slice_get (xs ++ to.place ∷ []) (length xs) ≡ Some to.place
            last [] = refl
            last (x ∷ xs) = last xs

    pub numbering_on : (from : DrawnEnd) → Contains (places_of front) from.place → corner_of edges from ≡ corner_of edges to → IsNumbering (front ++ record { to = to; from = Some from } ∷ []) next (set runs to.place (get_or runs from.place 0))
    numbering_on from c same = record {
      long = length-set runs to.place (get_or runs from.place 0) ∙ h.long;
      next_is = h.next_is ∙ ap (λ (xs : List ℕ). length xs) (sym starts);
      rising = subst (λ (xs : List ℕ). AllPairs ◌<◌ xs) (sym starts) h.rising;
      before = λ start place d l. reached place (h.before start place (subst (λ (xs : List ℕ). Contains xs start) starts d) l);
      right = λ place d. right place (Contains-push_cases (places_of front) to.place place (subst (λ (xs : List ℕ). Contains xs place) (places_push front (record { to = to; from = Some from })) d));
    }
      where
        starts : starts_in (front ++ record { to = to; from = Some from } ∷ []) ≡ starts_in front
        starts = starts_same front to from

        reached : (place : ℕ) → Contains (places_of front) place → Contains (places_of (front ++ record { to = to; from = Some from } ∷ [])) place
        reached place d = subst (λ (xs : List ℕ). Contains xs place) (sym (places_push front (record { to = to; from = Some from }))) (Contains-append_left (places_of front) (to.place ∷ []) place d)

        right : (place : ℕ) → Contains (places_of front) place ⊎ (to.place ≡ place) → IsNumberOf edges (starts_in (front ++ record { to = to; from = Some from } ∷ [])) (get_or (set runs to.place (get_or runs from.place 0)) place 0) place
        right place (inl d) =
            subst (λ (xs : List ℕ). IsNumberOf edges xs (get_or (set runs to.place (get_or runs from.place 0)) place 0) place) (sym starts)
            (subst (λ (r : ℕ). IsNumberOf edges (starts_in front) r place) (sym (others (get_or runs from.place 0) place d)) (h.right place d))
        right place (inr e) =
            let n = h.right from.place c in
            let start : ℕ = n.start in
            let listed : Contains (starts_in front) start = (get_or runs from.place 0, slice_get_within (starts_in front) (get_or runs from.place 0) start n.listed, get_or_from_slice_get (starts_in front) (get_or runs from.place 0) start start n.listed) in
            subst (λ (i : ℕ). IsNumberOf edges (starts_in (front ++ record { to = to; from = Some from } ∷ [])) (get_or (set runs to.place (get_or runs from.place 0)) i 0) i) e
            (subst (λ (xs : List ℕ). IsNumberOf edges xs (get_or (set runs to.place (get_or runs from.place 0)) to.place 0) to.place) (sym starts)
            (subst (λ (r : ℕ). IsNumberOf edges (starts_in front) r to.place) (sym (this (get_or runs from.place 0))) (record {
              start = start;
              listed = n.listed;
              leads = further start from.place to.place n.leads within (record { at_b = from.at_b; other_at_b = to.at_b; same = same });
              first = not_behind start listed;
            })))

  -- a number of a run is below the next one
  pub number_below : (front : List Step) (next : ℕ) (runs : List ℕ) → IsNumbering front next runs → (place : ℕ) → Contains (places_of front) place → get_or runs place 0 < next
  number_below front next runs h place c =
      let n = h.right place c in
      omega (arith, slice_get_within (starts_in front) (get_or runs place 0) n.start n.listed, h.next_is)

-- ---- step by step over all edges
module _ (edges : List EdgeCorners) (steps : List Step) (walked : AreWalked edges steps) where
  pub place_inside : (k : ℕ) (step : Step) → slice_get steps k ≡ Some step → step.to.place < length edges
  place_inside k step at =
      let (i, within, is) = Contains-permutation (places_of steps) (range_with_len 0 (length edges)) step.to.place walked.each (place_listed steps k step at) in
      let inside : i < length edges = omega (arith, within, length-range_with_len 0 (length edges)) in
      omega (arith, is, inside, get_or-range_with_len 0 (length edges) i step.to.place inside)

  pub every_place : (place : ℕ) → place < length edges → Contains (places_of steps) place
  every_place place below =
      Contains-permutation (range_with_len 0 (length edges)) (places_of steps) place (IsPermutation-sym (places_of steps) (range_with_len 0 (length edges)) walked.each)
      (place, omega (arith, below, length-range_with_len 0 (length edges)), omega (arith, get_or-range_with_len 0 (length edges) place place below))

  place_of : (k : ℕ) (step : Step) (d : ℕ) → slice_get steps k ≡ Some step → get_or (places_of steps) k d ≡ step.to.place
  place_of k step d at = get_or-map (λ (s : Step). s.to.place) steps k step d (slice_get_within steps k step at) ∙ ap (λ (s : Step). s.to.place) (get_or_from_slice_get steps k step step at)

  before_place : (k place : ℕ) → IsWalkedBefore steps k place → Contains (places_of (take k steps)) place
  before_place k place w = subst (λ (i : ℕ). Contains (places_of (take k steps)) i) w.same (place_listed (take k steps) w.at w.step (within_front steps k w.at w.step w.before w.listed))

  new_place : (k : ℕ) (step : Step) → slice_get steps k ≡ Some step → Contains (places_of (take k steps)) step.to.place → ⊥
  new_place k step at c =
      let (i, other, listed, same) = step_at (take k steps) step.to.place c in
      let (before, earlier) = of_front steps k i other listed in
      walked.once i k 0 before (omega (arith, slice_get_within steps k step at, length-map steps (λ (s : Step). s.to.place))) (place_of i other 0 earlier ∙ same ∙ sym (place_of k step 0 at))

  next_numbered : (k : ℕ) (to : DrawnEnd) (from : Option DrawnEnd) (next : ℕ) (runs : List ℕ) → slice_get steps k ≡ Some (record { to = to; from = from }) → IsNumbering edges (take k steps) next runs
      → (run after : ℕ) → run ≡ number_from from runs next → next ≤ after → run + 1 ≤ after → (after ≡ next) ⊎ (after ≡ run + 1) → IsNumbering edges (take k steps ++ record { to = to; from = from } ∷ []) after (set runs to.place run)
  next_numbered k to None next runs at h run after is least more most =
      let step : Step = record { to = to; from = None } in
      let begun = numbering_begun edges (take k steps) next runs h to (new_place k step at) (place_inside k step at) (λ place l. before_place k place (walked.from k step at place l)) in
      subst (λ (r : ℕ). IsNumbering edges (take k steps ++ step ∷ []) after (set runs to.place r)) (sym is)
      (subst (λ (n : ℕ). IsNumbering edges (take k steps ++ step ∷ []) n (set runs to.place next)) (next_is next run after is more most) begun)
    where
      next_is : (next run after : ℕ) → run ≡ next → run + 1 ≤ after → (after ≡ next) ⊎ (after ≡ run + 1) → next + 1 ≡ after
      next_is next run after is more (inl e) = absurd (omega arith)
      next_is next run after is more (inr e) = omega arith
  next_numbered k to (Some from) next runs at h run after is least more most =
      let step : Step = record { to = to; from = Some from } in
      let given = walked.from k step at in
      let c = before_place k from.place given.0 in
      let below = number_below edges (take k steps) next runs h from.place c in
      let on = numbering_on edges (take k steps) next runs h to (new_place k step at) (place_inside k step at) from c given.1 in
      subst (λ (r : ℕ). IsNumbering edges (take k steps ++ step ∷ []) after (set runs to.place r)) (sym is)
      (subst (λ (n : ℕ). IsNumbering edges (take k steps ++ step ∷ []) n (set runs to.place (get_or runs from.place 0))) (next_is next run after (get_or runs from.place 0) is below least most) on)
    where
      next_is : (next run after r : ℕ) → run ≡ r → r < next → next ≤ after → (after ≡ next) ⊎ (after ≡ run + 1) → next ≡ after
      next_is next run after r is below least (inl e) = omega arith
      next_is next run after r is below least (inr e) = omega arith

  -- the number at a step is at most the next one, and what it looks up is there
  pub number_small : (k : ℕ) (to : DrawnEnd) (from : Option DrawnEnd) (next : ℕ) (runs : List ℕ) → slice_get steps k ≡ Some (record { to = to; from = from }) → IsNumbering edges (take k steps) next runs
      → number_from from runs next ≤ next
  number_small k to None next runs at h = omega arith
  number_small k to (Some from) next runs at h =
      let given = walked.from k (record { to = to; from = Some from }) at in
      omega (arith, number_below edges (take k steps) next runs h from.place (before_place k from.place given.0))

  -- fewer runs have begun than there are edges
  pub few_begun : (k : ℕ) → k < length steps → (next : ℕ) (runs : List ℕ) → IsNumbering edges (take k steps) next runs → next < length edges
  few_begun k within next runs h =
      let long = length_permutation (places_of steps) (range_with_len 0 (length edges)) walked.each in
      omega (arith, h.next_is, few_starts (take k steps), length-take_at_most k steps, long, within, length-range_with_len 0 (length edges), length-map steps (λ (s : Step). s.to.place))

  pub from_inside : (k : ℕ) (to : DrawnEnd) (from : Option DrawnEnd) → slice_get steps k ≡ Some (record { to = to; from = from }) → IsWithin from (length edges)
  from_inside k to None at = tt
  from_inside k to (Some from) at =
      let w = (walked.from k (record { to = to; from = Some from }) at).0 in
      omega (arith, place_inside w.at w.step w.listed, w.same)

  pub step_numbered : (k : ℕ) (step : Step) (next : ℕ) (runs : List ℕ) → slice_get steps k ≡ Some step → IsNumbering edges (take k steps) next runs
      → (run after : ℕ) → run ≡ number_from step.from runs next → next ≤ after → run + 1 ≤ after → (after ≡ next) ⊎ (after ≡ run + 1) → IsNumbering edges (take (k + 1) steps) after (set runs step.to.place run)
  step_numbered k step next runs at h run after is least more most =
      subst (λ (xs : List Step). IsNumbering edges xs after (set runs step.to.place run)) (ap (λ (s : Step). take k steps ++ s ∷ []) (sym (get_or_from_slice_get steps k step step at)) ∙ sym (take_more steps k step (slice_get_within steps k step at)))
      (next_numbered k step.to step.from next runs at h run after is least more most)

  pub all_numbered : (k next : ℕ) (runs : List ℕ) → length steps ≤ k → IsNumbering edges (take k steps) next runs → AreNumbered edges steps runs
  all_numbered k next runs all given = numbers (subst (λ (xs : List Step). IsNumbering edges xs next runs) (take_all k steps all) given)
    where
      numbers : IsNumbering edges steps next runs → AreNumbered edges steps runs
      numbers h = record { long = h.long; rising = h.rising; right = λ place below. h.right place (every_place place below) }

-- ---- the runs
module _ (s : Part) (halves drawn : List ℕ) (edges : List EdgeCorners) (long : length edges ≡ length drawn) (corners : AreCornersOf s halves drawn edges) (each : All (HasEdge s halves) drawn)
    (ascending : IsStrictlyIncreasing drawn) (steps : List Step) (walked : AreWalked edges steps) (runs : List ℕ) (h : AreNumbered edges steps runs) where
  inside : (k i : ℕ) → slice_get drawn k ≡ Some i → k < length edges
  inside k i at = omega (arith, slice_get_within drawn k i at, long)

  edge_at : (k i : ℕ) → slice_get drawn k ≡ Some i → HasEdge s halves i
  edge_at k i at = All-contains (HasEdge s halves) drawn i each (k, slice_get_within drawn k i at, get_or_from_slice_get drawn k i i at)

  -- starts that lead to one another are one
  one_start : (q r x y : ℕ) → slice_get (starts_in steps) q ≡ Some x → slice_get (starts_in steps) r ≡ Some y → x < length edges → Reaches edges x y → q ≡ r
  one_start q r x y at_x at_y within g = by (cases_lt q r) (cases_lt r q)
    where
      is_x : get_or (starts_in steps) q 0 ≡ x
      is_x = get_or_from_slice_get (starts_in steps) q x 0 at_x

      is_y : get_or (starts_in steps) r 0 ≡ y
      is_y = get_or_from_slice_get (starts_in steps) r y 0 at_y

      by : (q < r) ⊎ (r ≤ q) → (r < q) ⊎ (q ≤ r) → q ≡ r
      by (inl l) m = absurd (walked.apart q r 0 l (slice_get_within (starts_in steps) r y at_y) (subst (λ (i : ℕ). Reaches edges i (get_or (starts_in steps) r 0)) (sym is_x) (subst (Reaches edges x) (sym is_y) g)))
      by (inr l) (inl m) =
          absurd (walked.apart r q 0 m (slice_get_within (starts_in steps) q x at_x)
          (subst (λ (i : ℕ). Reaches edges i (get_or (starts_in steps) q 0)) (sym is_y) (subst (Reaches edges y) (sym is_x) (reaches_back edges x y within g))))
      by (inr l) (inr m) = omega arith

  number : (k i r : ℕ) → slice_get drawn k ≡ Some i → slice_get runs k ≡ Some r → IsNumberOf edges (starts_in steps) r k
  number k i r at is = subst (λ (n : ℕ). IsNumberOf edges (starts_in steps) n k) (get_or_from_slice_get runs k r 0 is) (h.right k (inside k i at))

  same : (k l i j m n : ℕ) → slice_get drawn k ≡ Some i → slice_get drawn l ≡ Some j → slice_get runs k ≡ Some m → slice_get runs l ≡ Some n → (m ≡ n) ↔ Leads s halves drawn i j
  same k l i j m n at_i at_j run_m run_n = (to, from)
    where
      x : IsNumberOf edges (starts_in steps) m k
      x = number k i m at_i run_m

      y : IsNumberOf edges (starts_in steps) n l
      y = number l j n at_j run_n

      x_inside : x.start < length edges
      x_inside = omega (arith, x.first, inside k i at_i)

      y_inside : y.start < length edges
      y_inside = omega (arith, y.first, inside l j at_j)

      to : m ≡ n → Leads s halves drawn i j
      to e =
          let one : x.start ≡ y.start = same_element (starts_in steps) m n x.start y.start e x.listed y.listed in
          leads_of s halves drawn edges long corners edge_at k l
          (reaches_on edges k x.start l (reaches_back edges x.start k x_inside x.leads) (subst (λ (p : ℕ). Reaches edges p l) (sym one) y.leads)) i j at_i at_j

      from : Leads s halves drawn i j → m ≡ n
      from g =
          let on = reaches_of s halves drawn edges long corners ascending i j g k l at_i at_j in
          one_start m n x.start y.start x.listed y.listed x_inside
          (reaches_on edges x.start l y.start (reaches_on edges x.start k l x.leads on) (reaches_back edges y.start l y_inside y.leads))

  -- a smaller number is that of an edge before
  smaller : (k r : ℕ) → k < length runs → r < get_or runs k 0 → (l : ℕ) × (l < k) × (get_or runs l 0 ≡ r)
  smaller k r below less =
      let within : k < length edges = omega (arith, below, h.long) in
      let x = h.right k within in
      let x_at = slice_get_within (starts_in steps) (get_or runs k 0) x.start x.listed in
      let (start, at) = some_element (starts_in steps) r (omega (arith, x_at, less)) in
      let rises = h.rising r (get_or runs k 0) 0 less x_at in
      let before : start < x.start = omega (arith, rises, get_or_from_slice_get (starts_in steps) r start 0 at, get_or_from_slice_get (starts_in steps) (get_or runs k 0) x.start 0 x.listed) in
      let start_inside : start < length edges = omega (arith, before, x.first, within) in
      let y = h.right start start_inside in
      (start, omega (arith, before, x.first), one_start (get_or runs start 0) r y.start start y.listed at (omega (arith, y.first, start_inside)) y.leads)

  pub are_runs : AreRuns s halves drawn runs
  are_runs = record {
    each = h.long ∙ long;
    same = same;
    numbered = count_from runs smaller 0 0 runs (none_before (length runs)) (λ i l. ap (λ (j : ℕ). get_or runs j 0) (none_more i)) (λ l m. absurd (omega arith)) (λ r m. absurd (omega arith));
  }
    where
      none_before : (i : ℕ) → 0 + i ≡ i
      none_before i = omega arith

      none_more : (i : ℕ) → i ≡ 0 + i
      none_more i = omega arith
