-- Edges are reached one by one, and a search ends with all that edges lead to.
use Rattle.std.proofs.Common.{◌≡◌, ◌≢◌, ℕ, zero, suc, ◌+◌, ◌<◌, ◌≤◌, ◌⊎◌, inl, inr, Bool, true, false, List, [], ◌∷◌, ◌++◌, All, AllPairs, Contains, Option, Some, None, length, get_or, set, remove, slice_get, refl, sym, subst, ap, ◌∙◌, arith, true≢false}
use Rattle.std.specs.Prelude.{IsPermutation}
use Rattle.std.specs.List.{range_with_len}
use Rattle.std.proofs.Math.ListN.{length-set}
use Rattle.std.proofs.lemmas.Bool.{cases_eq, cases_lt}
use Rattle.std.proofs.lemmas.List.{append-nil, length-map, map-append, get_or-map, get_or-set_same, get_or-set_other}
use Rattle.std.proofs.lemmas.List.Elements.{All-head, All-tail, All-contains, All-push, All-weaker, Contains-get_or, Contains-append_left, Contains-push, Contains-push_cases, filter_map-append}
use Rattle.std.proofs.lemmas.List.FromFn.{length-range_with_len, get_or-range_with_len}
use Rattle.std.proofs.lemmas.List.Quantifiers.{all_pairs_push}
use Rattle.std.proofs.lemmas.List.Sorted.{IsPermutation-refl, IsPermutation-sym, IsPermutation-cons, IsPermutation-trans, IsPermutation-remove, Contains-permutation, length_permutation}
use Rattle.std.proofs.lemmas.Option.{slice_get_within, get_or_from_slice_get}
use Rattle.geometry.proofs.Listed.{same_element}
use Rattle.edge_pick.specs.declared.order.EdgeCorners.{EdgeCorners}
use Rattle.edge_pick.specs.declared.order.DrawnEnd.{DrawnEnd}
use Rattle.edge_pick.specs.declared.order.Step.{Step}
use Rattle.edge_pick.specs.Orders.{IsWalkedBefore}
use Rattle.edge_pick.specs.Orders.{corner_at, corner_of, Meet, Reaches, begin, further, places_of, begun_at, starts_in, IsFrom, AreWalked}
use Rattle.edge_pick.specs.inner.Searches.{AreBelow, AreEndsAt, IsReached, AreEndsLeft, IsSearch, IsClosed, IsOnward, IsSpread, IsAround, IsRun}
use Rattle.integers.proofs.Lists.{slice_get_push, some_element}
use Rattle.edge_pick.proofs.Lists.{few_of}
use Rattle.edge_pick.proofs.CornerEnds.{end_at, within_room}

-- ---- lists
flag_within : (flags : List Bool) (k : ℕ) → get_or flags k false ≡ true → k < length flags
flag_within [] k e = absurd (true≢false (sym e))
flag_within (b ∷ flags) zero e = omega arith
flag_within (b ∷ flags) (suc k) e = let l = flag_within flags k e in omega arith

pub slice_get_left : {X : Type 0} (xs ys : List X) (k : ℕ) (x : X) → slice_get xs k ≡ Some x → slice_get (xs ++ ys) k ≡ Some x
slice_get_left [] ys k x e = absurd (cc)
slice_get_left (z ∷ xs) ys zero x e = e
slice_get_left (z ∷ xs) ys (suc k) x e = slice_get_left xs ys k x e

-- lists with the same numbers, each once
same_numbers : (xs ys : List ℕ) → AllPairs ◌≢◌ xs → All (Contains ys) xs → length ys ≤ length xs → IsPermutation xs ys
same_numbers [] [] apart within few = IsPermutation-refl []
same_numbers [] (y ∷ ys) apart within few = absurd (omega arith)
same_numbers (x ∷ xs) ys apart within few =
    let (k, there, is) = All-head (Contains ys) x xs within in
    let moved = IsPermutation-remove ys k x there (sym is) in
    let rest = same_numbers xs (remove ys k) (λ i j d h l. apart (suc i) (suc j) d (omega arith) (omega arith))
    (λ i d h. other (get_or xs i d) (remove ys k) (λ e. apart 0 (suc i) d (omega arith) (omega arith) e) (Contains-permutation ys (x ∷ remove ys k) (get_or xs i d) moved (All-tail (Contains ys) x xs within i d h)))
    (let same = length_permutation ys (x ∷ remove ys k) moved in omega arith) in
    IsPermutation-trans (x ∷ xs) (x ∷ remove ys k) ys (IsPermutation-cons x xs (remove ys k) rest) (IsPermutation-sym ys (x ∷ remove ys k) moved)
  where
    other : (z : ℕ) (zs : List ℕ) → (x ≡ z → ⊥) → Contains (x ∷ zs) z → Contains zs z
    other z zs differ (zero, h, e) = absurd (differ e)
    other z zs differ (suc k, h, e) = (k, omega arith, e)

-- ---- steps and the places that they go to
abbrev pub begun : ℕ → Step
begun start = record { to = end_at start false; from = None }

pub places_push : (steps : List Step) (step : Step) → places_of (steps ++ step ∷ []) ≡ places_of steps ++ step.to.place ∷ []
places_push steps step = map-append (λ (s : Step). s.to.place) steps (step ∷ [])

pub starts_push : (steps : List Step) (to : DrawnEnd) → starts_in (steps ++ record { to = to; from = None } ∷ []) ≡ starts_in steps ++ to.place ∷ []
starts_push steps to = filter_map-append (λ (s : Step). begun_at s.to.place s.from) steps (record { to = to; from = None } ∷ [])

pub starts_same : (steps : List Step) (to from : DrawnEnd) → starts_in (steps ++ record { to = to; from = Some from } ∷ []) ≡ starts_in steps
starts_same steps to from = filter_map-append (λ (s : Step). begun_at s.to.place s.from) steps (record { to = to; from = Some from } ∷ []) ∙ append-nil (starts_in steps)

pub place_listed : (steps : List Step) (k : ℕ) (step : Step) → slice_get steps k ≡ Some step → Contains (places_of steps) step.to.place
place_listed steps k step at =
    let within = slice_get_within steps k step at in
    let same = get_or-map (λ (s : Step). s.to.place) steps k step step.to.place within ∙ ap (λ (s : Step). s.to.place) (get_or_from_slice_get steps k step step at) in
    (k, omega (arith, length-map steps (λ (s : Step). s.to.place)), same)

pub step_at : (steps : List Step) (place : ℕ) → Contains (places_of steps) place → (k : ℕ) × (step : Step) × (slice_get steps k ≡ Some step) × (step.to.place ≡ place)
step_at steps place (k, within, is) =
    let inside : k < length steps = omega (arith, length-map steps (λ (s : Step). s.to.place)) in
    let (step, at) = some_element steps k inside in
    (k, step, at, sym (get_or-map (λ (s : Step). s.to.place) steps k step place inside ∙ ap (λ (s : Step). s.to.place) (get_or_from_slice_get steps k step step at)) ∙ is)

walked_kept : (old new : List Step) → ((k : ℕ) (step : Step) → slice_get old k ≡ Some step → slice_get new k ≡ Some step) → (k place : ℕ) → IsWalkedBefore old k place → IsWalkedBefore new k place
walked_kept old new kept k place w = record { at = w.at; step = w.step; before = w.before; listed = kept w.at w.step w.listed; same = w.same }

module _ (edges : List EdgeCorners) where
  from_kept : (old new : List Step) → ((k : ℕ) (step : Step) → slice_get old k ≡ Some step → slice_get new k ≡ Some step) → (k : ℕ) (to : DrawnEnd) (from : Option DrawnEnd) → IsFrom edges old k to from → IsFrom edges new k to from
  from_kept old new kept k to None h = λ place l. walked_kept old new kept k place (h place l)
  from_kept old new kept k to (Some from) (w, same) = (walked_kept old new kept k from.place w, same)

  pub reached_within : (reached : List Bool) (steps : List Step) → IsSearch edges reached steps → (place : ℕ) → IsReached reached place → place < length edges
  reached_within reached steps h place e = let l = flag_within reached place e in omega (arith, h.long)

  -- an edge that is reached is one that a step goes to
  walked_before : (reached : List Bool) (steps : List Step) → IsSearch edges reached steps → (place : ℕ) → IsReached reached place → IsWalkedBefore steps (length steps) place
  walked_before reached steps h place e =
      let (k, step, at, same) = step_at steps place (h.told place e) in
      record { at = k; step = step; before = slice_get_within steps k step at; listed = at; same = same }

  pub reached_at : (reached : List Bool) (steps : List Step) → IsSearch edges reached steps → (k : ℕ) (step : Step) → slice_get steps k ≡ Some step → IsReached reached step.to.place
  reached_at reached steps h k step at = h.marked step.to.place (place_listed steps k step at)

  -- there are no more steps than edges
  pub few_steps : (reached : List Bool) (steps : List Step) → IsSearch edges reached steps → length steps ≤ length edges
  few_steps reached steps h =
      let few = few_of (places_of steps) (range_with_len 0 (length edges)) h.once (λ k d within.
      let place = get_or (places_of steps) k d in
      let below : place < length edges = reached_within reached steps h place (h.marked place (Contains-get_or (places_of steps) k d within)) in
      (place, omega (arith, length-range_with_len 0 (length edges)), omega (arith, get_or-range_with_len 0 (length edges) place place below))) in
      omega (arith, length-map steps (λ (s : Step). s.to.place), length-range_with_len 0 (length edges))

  -- ---- one edge more
  module _ (reached : List Bool) (steps : List Step) (h : IsSearch edges reached steps) (step : Step) (within : step.to.place < length edges) (free : get_or reached step.to.place false ≡ false) where
    abbrev more_reached : List Bool
    more_reached = set reached step.to.place true

    abbrev more_steps : List Step
    more_steps = steps ++ step ∷ []

    pub more_here : IsReached more_reached step.to.place
    more_here = get_or-set_same reached step.to.place true false (omega (arith, h.long))

    elsewhere : (k : ℕ) → (k ≡ step.to.place → ⊥) → get_or more_reached k false ≡ get_or reached k false
    elsewhere k apart = get_or-set_other reached step.to.place k true false apart

    pub more_grows : (k : ℕ) → IsReached reached k → IsReached more_reached k
    more_grows k e = by (cases_eq k step.to.place)
      where
        by : (k ≡ step.to.place) ⊎ (k ≡ step.to.place → ⊥) → IsReached more_reached k
        by (inl same) = absurd (true≢false (sym e ∙ ap (λ (i : ℕ). get_or reached i false) same ∙ free))
        by (inr apart) = elsewhere k apart ∙ e

    pub more_kept : (k : ℕ) (s : Step) → slice_get steps k ≡ Some s → slice_get more_steps k ≡ Some s
    more_kept k s e = slice_get_left steps (step ∷ []) k s e

    pub search_more : IsFrom edges steps (length steps) step.to step.from → IsSearch edges more_reached more_steps
    search_more given = record {
      long = length-set reached step.to.place true ∙ h.long;
      told = λ k e. subst (λ (xs : List ℕ). Contains xs k) (sym (places_push steps step)) (told k e (cases_eq k step.to.place));
      marked = λ k c. marked k (Contains-push_cases (places_of steps) step.to.place k (subst (λ (xs : List ℕ). Contains xs k) (places_push steps step) c));
      once = subst (λ (xs : List ℕ). AllPairs ◌≢◌ xs) (sym (places_push steps step)) (all_pairs_push ◌≢◌ (places_of steps) step.to.place h.once (λ k d l. new (get_or (places_of steps) k d) (Contains-get_or (places_of steps) k d l)));
      from = λ k s e. from k s (slice_get_push steps step k s e);
    }
      where
        told : (k : ℕ) → IsReached more_reached k → (k ≡ step.to.place) ⊎ (k ≡ step.to.place → ⊥) → Contains (places_of steps ++ step.to.place ∷ []) k
        told k e (inl same) = subst (λ (i : ℕ). Contains (places_of steps ++ step.to.place ∷ []) i) (sym same) (Contains-push (places_of steps) step.to.place)
        told k e (inr apart) = Contains-append_left (places_of steps) (step.to.place ∷ []) k (h.told k (sym (elsewhere k apart) ∙ e))

        marked : (k : ℕ) → Contains (places_of steps) k ⊎ (step.to.place ≡ k) → IsReached more_reached k
        marked k (inl c) = more_grows k (h.marked k c)
        marked k (inr same) = subst (IsReached more_reached) same more_here

        new : (k : ℕ) → Contains (places_of steps) k → k ≢ step.to.place
        new k c same = true≢false (sym (h.marked k c) ∙ ap (λ (i : ℕ). get_or reached i false) same ∙ free)

        from : (k : ℕ) (s : Step) → (slice_get steps k ≡ Some s) ⊎ ((k ≡ length steps) × (step ≡ s)) → IsFrom edges more_steps k s.to s.from
        from k s (inl e) = from_kept steps more_steps more_kept k s.to s.from (h.from k s e)
        from k s (inr (at, same)) =
            subst (λ (x : Step). IsFrom edges more_steps k x.to x.from) same
            (subst (λ (n : ℕ). IsFrom edges more_steps n step.to step.from) (sym at) (from_kept steps more_steps more_kept (length steps) step.to step.from given))

  -- ---- on from one end
  pub onward_none : (reached : List Bool) (steps : List Step) → IsSearch edges reached steps → IsOnward edges reached steps reached steps
  onward_none reached steps h = record { search = h; grows = λ k e. e; kept = λ k s e. e; starts = refl }

  pub onward_on : (r t u : List Bool) (xs ys zs : List Step) → IsOnward edges r xs t ys → IsOnward edges t ys u zs → IsOnward edges r xs u zs
  onward_on r t u xs ys zs g h = record {
    search = h.search;
    grows = λ k e. h.grows k (g.grows k e);
    kept = λ k s e. h.kept k s (g.kept k s e);
    starts = h.starts ∙ g.starts;
  }

  pub onward_more : (old : List Bool) (old_steps : List Step) (reached : List Bool) (steps : List Step) (from to : DrawnEnd) → IsOnward edges old old_steps reached steps → IsReached old from.place
      → to.place < length edges → corner_of edges from ≡ corner_of edges to → get_or reached to.place false ≡ false
      → IsOnward edges old old_steps (set reached to.place true) (steps ++ record { to = to; from = Some from } ∷ [])
  onward_more old old_steps reached steps from to h here within same free =
      let step : Step = record { to = to; from = Some from } in
      onward_on old reached (set reached to.place true) old_steps steps (steps ++ step ∷ []) h (record {
        search = search_more reached steps h.search step within free (walked_before reached steps h.search from.place (h.grows from.place here), same);
        grows = more_grows reached steps h.search step within free;
        kept = more_kept reached steps h.search step within free;
        starts = starts_same steps to from;
      })

  -- these ends have been gone over
  pub record IsSpreading (old : List Bool) (old_steps : List Step) (reached : List Bool) (steps : List Step) (ends : List DrawnEnd) : Type 0 where
    pub onward : IsOnward edges old old_steps reached steps
    pub all : All (λ (end : DrawnEnd). IsReached reached end.place) ends

  pub spread_none : (reached : List Bool) (steps : List Step) → IsSearch edges reached steps → IsSpreading reached steps reached steps []
  spread_none reached steps h = record { onward = onward_none reached steps h; all = λ k d within. absurd (omega arith) }

  pub spread_passed : (old : List Bool) (old_steps : List Step) (reached : List Bool) (steps : List Step) (ends : List DrawnEnd) (to : DrawnEnd) → IsSpreading old old_steps reached steps ends
      → IsReached reached to.place → IsSpreading old old_steps reached steps (ends ++ to ∷ [])
  spread_passed old old_steps reached steps ends to h here = record { onward = h.onward; all = All-push (λ (end : DrawnEnd). IsReached reached end.place) ends to h.all here }

  pub spread_more : (old : List Bool) (old_steps : List Step) (reached : List Bool) (steps : List Step) (ends : List DrawnEnd) (from to : DrawnEnd) → IsSpreading old old_steps reached steps ends → IsReached old from.place
      → to.place < length edges → corner_of edges from ≡ corner_of edges to → get_or reached to.place false ≡ false
      → IsSpreading old old_steps (set reached to.place true) (steps ++ record { to = to; from = Some from } ∷ []) (ends ++ to ∷ [])
  spread_more old old_steps reached steps ends from to h begins within same free =
      let step : Step = record { to = to; from = Some from } in
      let more = set reached to.place true in
      record {
        onward = onward_more old old_steps reached steps from to h.onward begins within same free;
        all = All-push (λ (end : DrawnEnd). IsReached more end.place) ends to
            (All-weaker (λ (end : DrawnEnd). IsReached reached end.place) (λ (end : DrawnEnd). IsReached more end.place) (λ end e. more_grows reached steps h.onward.search step within free end.place e) ends h.all)
            (more_here reached steps h.onward.search step within free);
      }

  pub corner_inside : (lists : List (List DrawnEnd)) (reached : List Bool) → AreEndsLeft edges lists reached → (place : ℕ) (at_b : Bool) → place < length edges → corner_at edges place at_b < length lists
  corner_inside lists reached h place at_b within = within_room edges (length lists) place at_b h.room within

  -- the corner's list has been gone over
  pub spread_all : (old : List Bool) (old_steps : List Step) (lists : List (List DrawnEnd)) (reached : List Bool) (steps : List Step) (corner : ℕ) → AreEndsLeft edges lists old → corner < length lists
      → IsOnward edges old old_steps reached steps → All (λ (end : DrawnEnd). IsReached reached end.place) (get_or lists corner [])
      → IsSpread edges corner old old_steps (set lists corner []) reached steps
  spread_all old old_steps lists reached steps corner ends inside h all = record {
    onward = h;
    ends = record {
      room = subst (λ (n : ℕ). All (AreBelow n) edges) (sym (length-set lists corner [])) ends.room;
      right = λ m end c. right m end (cases_eq m corner) c;
      listed = λ end within. listed end within (cases_eq (corner_of edges end) corner) (ends.listed end within);
    };
    all = λ end within same. reach end same (ends.listed end within);
  }
    where
      reach : (end : DrawnEnd) → corner_of edges end ≡ corner → Contains (get_or lists (corner_of edges end) []) end ⊎ IsReached old end.place → IsReached reached end.place
      reach end same (inl c) = All-contains (λ (x : DrawnEnd). IsReached reached x.place) (get_or lists corner []) end all (subst (λ (n : ℕ). Contains (get_or lists n []) end) same c)
      reach end same (inr e) = h.grows end.place e

      right : (m : ℕ) (end : DrawnEnd) → (m ≡ corner) ⊎ (m ≡ corner → ⊥) → Contains (get_or (set lists corner []) m []) end → (end.place < length edges) × (corner_of edges end ≡ m)
      right m end (inl same) (k, within, is) =
          absurd (nothing k (subst (λ (xs : List DrawnEnd). k < length xs) (ap (λ (n : ℕ). get_or (set lists corner []) n []) same ∙ get_or-set_same lists corner [] [] inside) within))
        where
          nothing : (k : ℕ) → k < 0 → ⊥
          nothing k l = omega arith
      right m end (inr apart) c = ends.right m end (subst (λ (xs : List DrawnEnd). Contains xs end) (get_or-set_other lists corner m [] [] apart) c)

      listed : (end : DrawnEnd) → end.place < length edges → (corner_of edges end ≡ corner) ⊎ (corner_of edges end ≡ corner → ⊥) → Contains (get_or lists (corner_of edges end) []) end ⊎ IsReached old end.place
          → Contains (get_or (set lists corner []) (corner_of edges end) []) end ⊎ IsReached reached end.place
      listed end within (inl same) c = inr (reach end same c)
      listed end within (inr apart) (inl c) = inl (subst (λ (xs : List DrawnEnd). Contains xs end) (sym (get_or-set_other lists corner (corner_of edges end) [] [] apart)) c)
      listed end within (inr apart) (inr e) = inr (h.grows end.place e)

  -- at both ends
  pub around : (place : ℕ) (old : List Bool) (old_steps : List Step) (mid_lists lists : List (List DrawnEnd)) (mid : List Bool) (mid_steps : List Step) (reached : List Bool) (steps : List Step)
      → IsSpread edges (corner_at edges place false) old old_steps mid_lists mid mid_steps → IsSpread edges (corner_at edges place true) mid mid_steps lists reached steps
      → IsAround edges place old old_steps lists reached steps
  around place old old_steps mid_lists lists mid mid_steps reached steps one two = record {
    onward = onward_on old mid reached old_steps mid_steps steps one.onward two.onward;
    ends = two.ends;
    all = λ other within m. all other within m.at_b m.other_at_b m.same;
  }
    where
      all : (other : ℕ) → other < length edges → (p q : Bool) → corner_at edges place p ≡ corner_at edges other q → IsReached reached other
      all other within false q same = two.onward.grows other (one.all (end_at other q) within (sym same))
      all other within true q same = two.all (end_at other q) within (sym same)

  -- ---- a run
  -- a run has begun, and of the first steps all that they meet is reached
  pub record IsWalking (start : ℕ) (old : List Bool) (old_steps : List Step) (head : ℕ) (lists : List (List DrawnEnd)) (reached : List Bool) (steps : List Step) : Type 0 where
    pub search : IsSearch edges reached steps
    pub ends : AreEndsLeft edges lists reached
    pub grows : (place : ℕ) → IsReached old place → IsReached reached place
    pub started : IsReached reached start
    pub starts : starts_in steps ≡ starts_in old_steps ++ start ∷ []
    pub done : (k : ℕ) (step : Step) → k < head → slice_get steps k ≡ Some step → (other : ℕ) → other < length edges → Meet edges step.to.place other → IsReached reached other

  ends_kept : (lists : List (List DrawnEnd)) (old reached : List Bool) → ((place : ℕ) → IsReached old place → IsReached reached place) → AreEndsLeft edges lists old → AreEndsLeft edges lists reached
  ends_kept lists old reached grows h = record { room = h.room; right = h.right; listed = λ end within. listed end (h.listed end within) }
    where
      listed : (end : DrawnEnd) → Contains (get_or lists (corner_of edges end) []) end ⊎ IsReached old end.place → Contains (get_or lists (corner_of edges end) []) end ⊎ IsReached reached end.place
      listed end (inl c) = inl c
      listed end (inr e) = inr (grows end.place e)

  module _ (start : ℕ) (old : List Bool) (old_steps : List Step) where
    pub walk_starts : (lists : List (List DrawnEnd)) → start < length edges → get_or old start false ≡ false → ((place : ℕ) → place < start → IsReached old place) → IsSearch edges old old_steps → AreEndsLeft edges lists old
        → IsClosed edges old → IsWalking start old old_steps (length old_steps) lists (set old start true) (old_steps ++ begun start ∷ [])
    walk_starts lists within free first h ends closed = record {
      search = search_more old old_steps h (begun start) within free (λ place l. walked_before old old_steps h place (first place l));
      ends = ends_kept lists old (set old start true) grows ends;
      grows = grows;
      started = more_here old old_steps h (begun start) within free;
      starts = starts_push old_steps (end_at start false);
      done = λ k s below at other inside meet. done k s below (slice_get_push old_steps (begun start) k s at) other inside meet;
    }
      where
        grows : (place : ℕ) → IsReached old place → IsReached (set old start true) place
        grows = more_grows old old_steps h (begun start) within free

        done : (k : ℕ) (s : Step) → k < length old_steps → (slice_get old_steps k ≡ Some s) ⊎ ((k ≡ length old_steps) × (begun start ≡ s)) → (other : ℕ) → other < length edges → Meet edges s.to.place other → IsReached (set old start true) other
        done k s below (inl at) other inside meet = grows other (closed s.to.place other (h.marked s.to.place (place_listed old_steps k s at)) inside meet)
        done k s below (inr (at, same)) other inside meet = absurd (omega arith)

    pub walk_on : (head : ℕ) (lists : List (List DrawnEnd)) (reached : List Bool) (steps : List Step) (step : Step) (new_lists : List (List DrawnEnd)) (new_reached : List Bool) (new_steps : List Step)
        → IsWalking start old old_steps head lists reached steps → slice_get steps head ≡ Some step → IsAround edges step.to.place reached steps new_lists new_reached new_steps
        → IsWalking start old old_steps (head + 1) new_lists new_reached new_steps
    walk_on head lists reached steps step new_lists new_reached new_steps h at on = record {
      search = on.onward.search;
      ends = on.ends;
      grows = λ k e. on.onward.grows k (h.grows k e);
      started = on.onward.grows start h.started;
      starts = on.onward.starts ∙ h.starts;
      done = λ k s below is other inside meet. done k s (cases_lt k head) below is other inside meet;
    }
      where
        done : (k : ℕ) (s : Step) → (k < head) ⊎ (head ≤ k) → k < head + 1 → slice_get new_steps k ≡ Some s → (other : ℕ) → other < length edges → Meet edges s.to.place other → IsReached new_reached other
        done k s (inl l) below is other inside meet =
            let before = slice_get_within steps head step at in
            let (x, x_at) = some_element steps k (omega arith) in
            let same : x ≡ s = same_element new_steps k k x s refl (on.onward.kept k x x_at) is in
            on.onward.grows other (h.done k x l x_at other inside (subst (λ (y : Step). Meet edges y.to.place other) (sym same) meet))
        done k s (inr l) below is other inside meet =
            let here : head ≡ k = omega arith in
            let same : step ≡ s = same_element new_steps k k step s refl (on.onward.kept k step (subst (λ (i : ℕ). slice_get steps i ≡ Some step) here at)) is in
            on.all other inside (subst (λ (y : Step). Meet edges y.to.place other) (sym same) meet)

    pub walk_ends : (head : ℕ) (lists : List (List DrawnEnd)) (reached : List Bool) (steps : List Step) → length steps ≤ head → IsWalking start old old_steps head lists reached steps → IsRun edges start old old_steps lists reached steps
    walk_ends head lists reached steps all h = record {
      search = h.search;
      ends = h.ends;
      closed = closed;
      grows = h.grows;
      started = h.started;
      starts = h.starts;
    }
      where
        closed : IsClosed edges reached
        closed i j e inside meet =
            let (k, step, at, same) = step_at steps i (h.search.told i e) in
            let before = slice_get_within steps k step at in
            h.done k step (omega arith) at j inside (subst (λ (n : ℕ). Meet edges n j) (sym same) meet)

  -- ---- all edges
  -- what is reached has all that it leads to
  reaches_on : (reached : List Bool) → IsClosed edges reached → (i j : ℕ) → Reaches edges i j → IsReached reached i → IsReached reached j
  reaches_on reached closed i j (begin _) e = e
  reaches_on reached closed i j (further _ k _ g inside meet) e = closed k j (reaches_on reached closed i k g e) inside meet

  -- the first edges are reached, and with each what it meets
  pub record AreWalkedBelow (count : ℕ) (lists : List (List DrawnEnd)) (reached : List Bool) (steps : List Step) : Type 0 where
    pub search : IsSearch edges reached steps
    pub ends : AreEndsLeft edges lists reached
    pub closed : IsClosed edges reached
    pub below : (place : ℕ) → place < count → IsReached reached place
    pub begun : (i : ℕ) → Contains (starts_in steps) i → IsReached reached i
    pub apart : AllPairs (λ i j. ¬ Reaches edges i j) (starts_in steps)

  pub below_none : (lists : List (List DrawnEnd)) (reached : List Bool) (steps : List Step) → AreEndsAt edges (length edges) lists → length reached ≡ length edges
      → ((place : ℕ) → get_or reached place false ≡ false) → steps ≡ [] → AreWalkedBelow 0 lists reached steps
  below_none lists reached steps ends long free empty = record {
    search = record {
      long = long;
      told = λ k e. absurd (not_reached k e);
      marked = λ k c. absurd (none (places_of steps) k (ap (λ (xs : List Step). places_of xs) empty) c);
      once = λ i j d l within. absurd (omega (arith, ap (λ (xs : List Step). length (places_of xs)) empty));
      from = λ k s e. absurd (no_step k s (subst (λ (xs : List Step). slice_get xs k ≡ Some s) empty e));
    };
    ends = record { room = ends.room; right = ends.right; listed = λ end within. inl (ends.listed end within) };
    closed = λ i j e inside meet. absurd (not_reached i e);
    below = λ k l. absurd (omega arith);
    begun = λ i c. absurd (none (starts_in steps) i (ap (λ (xs : List Step). starts_in xs) empty) c);
    apart = λ i j d l within. absurd (omega (arith, ap (λ (xs : List Step). length (starts_in xs)) empty));
  }
    where
      not_reached : (k : ℕ) → IsReached reached k → ⊥
      not_reached k e = true≢false (sym e ∙ free k)

      none : (xs : List ℕ) (k : ℕ) → xs ≡ [] → Contains xs k → ⊥
      none xs k e (i, within, is) = omega (arith, ap (λ (ys : List ℕ). length ys) e)

      no_step : (k : ℕ) (s : Step) → slice_get [] k ≡ Some s → ⊥
      no_step k s e = absurd (cc)

  module _ (count : ℕ) (lists : List (List DrawnEnd)) (reached : List Bool) (steps : List Step) (h : AreWalkedBelow count lists reached steps) where
    pub below_passed : IsReached reached count → AreWalkedBelow (count + 1) lists reached steps
    below_passed e = record { search = h.search; ends = h.ends; closed = h.closed; below = λ k l. below k (cases_lt k count) l; begun = h.begun; apart = h.apart }
      where
        below : (k : ℕ) → (k < count) ⊎ (count ≤ k) → k < count + 1 → IsReached reached k
        below k (inl l) m = h.below k l
        below k (inr l) m = let same : count ≡ k = omega arith in subst (IsReached reached) same e

    pub below_run : (new_lists : List (List DrawnEnd)) (new_reached : List Bool) (new_steps : List Step) → get_or reached count false ≡ false → IsRun edges count reached steps new_lists new_reached new_steps
        → AreWalkedBelow (count + 1) new_lists new_reached new_steps
    below_run new_lists new_reached new_steps free run = record {
      search = run.search;
      ends = run.ends;
      closed = run.closed;
      below = λ k l. below k (cases_lt k count) l;
      begun = λ i c. begun i (Contains-push_cases (starts_in steps) count i (subst (λ (xs : List ℕ). Contains xs i) run.starts c));
      apart = subst (λ (xs : List ℕ). AllPairs (λ i j. ¬ Reaches edges i j) xs) (sym run.starts)
          (all_pairs_push (λ i j. ¬ Reaches edges i j) (starts_in steps) count h.apart (λ k d l leads. new (get_or (starts_in steps) k d) (Contains-get_or (starts_in steps) k d l) leads));
    }
      where
        below : (k : ℕ) → (k < count) ⊎ (count ≤ k) → k < count + 1 → IsReached new_reached k
        below k (inl l) m = run.grows k (h.below k l)
        below k (inr l) m = let same : count ≡ k = omega arith in subst (IsReached new_reached) same run.started

        begun : (i : ℕ) → Contains (starts_in steps) i ⊎ (count ≡ i) → IsReached new_reached i
        begun i (inl c) = run.grows i (h.begun i c)
        begun i (inr same) = subst (IsReached new_reached) same run.started

        new : (i : ℕ) → Contains (starts_in steps) i → Reaches edges i count → ⊥
        new i c leads = true≢false (sym (reaches_on reached h.closed i count leads (h.begun i c)) ∙ free)

    pub all_walked : count ≡ length edges → AreWalked edges steps
    all_walked all = record {
      each = same_numbers (places_of steps) (range_with_len 0 (length edges)) h.search.once within (few_of (range_with_len 0 (length edges)) (places_of steps) different every);
      once = h.search.once;
      from = h.search.from;
      starts = λ k d l. reached_within reached steps h.search (get_or (starts_in steps) k d) (h.begun (get_or (starts_in steps) k d) (Contains-get_or (starts_in steps) k d l));
      apart = h.apart;
    }
      where
        number : (place : ℕ) → place < length edges → Contains (range_with_len 0 (length edges)) place
        number place below = (place, omega (arith, length-range_with_len 0 (length edges)), omega (arith, get_or-range_with_len 0 (length edges) place place below))

        within : All (Contains (range_with_len 0 (length edges))) (places_of steps)
        within k d l =
            let place = get_or (places_of steps) k d in
            number place (reached_within reached steps h.search place (h.search.marked place (Contains-get_or (places_of steps) k d l)))

        different : AllPairs ◌≢◌ (range_with_len 0 (length edges))
        different i j d l inside same =
            let m : j < length edges = omega (arith, length-range_with_len 0 (length edges)) in
            let p = get_or-range_with_len 0 (length edges) i d (omega arith) in
            let q = get_or-range_with_len 0 (length edges) j d m in
            omega (arith, p, q, same)

        every : All (Contains (places_of steps)) (range_with_len 0 (length edges))
        every k d l =
            let m : k < length edges = omega (arith, length-range_with_len 0 (length edges)) in
            let is : get_or (range_with_len 0 (length edges)) k d ≡ k = omega (arith, get_or-range_with_len 0 (length edges) k d m) in
            subst (λ (i : ℕ). Contains (places_of steps) i) (sym is) (h.search.told k (h.below k (omega arith)))
