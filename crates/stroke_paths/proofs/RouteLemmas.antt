-- The route through a stroke: the steps back from it, turned, then the stroke, then the steps onward.
use Rattle.std.proofs.Common.{◌≡◌, ◌⊎◌, inl, inr, ℕ, Bool, true, false, List, [], ◌∷◌, ◌++◌, All, Option, Some, None, map, reverse, set, slice_get, is_some, refl, sym, ap, subst, ◌∙◌}
use Rattle.std.proofs.lemmas.List.{append_assoc, map-append, reverse-append}
use Rattle.std.proofs.lemmas.List.Elements.{All-nil, All-cons}
use Rattle.stroke_paths.specs.declared.joint.Joint.{Joint}
use Rattle.stroke_paths.specs.declared.path.End.{End}
use Rattle.stroke_paths.specs.declared.path.Step.{Step}
use Rattle.stroke_paths.specs.inner.Tables.{partner}
use Rattle.stroke_paths.specs.inner.Walks.{turn, IsAmong, AreApart, strokes_of, AreMatched, IsVisited, AreWhole, AreVisited, GoOn, end_after, AreStepsFrom, AreLinked, EndByTable, IsRouteThrough}
use Rattle.stroke_paths.specs.Routes.{first_end, last_end, last_of}
use Rattle.stroke_paths.proofs.Chains.{last_among, WhereIs, where_is, comes_back, comes_round}
use Rattle.stroke_paths.proofs.Chains.WhereIs.{at_first, at_last, inner}
use Rattle.stroke_paths.proofs.Numbers.{not_both}
use Rattle.stroke_paths.proofs.StepLemmas.{fresh_of, visits_first}
use Rattle.stroke_paths.proofs.Tips.{first_turned, last_turned}

-- steps back from a step, turned, before it: the first one, and the others
abbrev pub onto_first : List Step → Step → Step
onto_first [] s = s
onto_first (u ∷ us) s = onto_first us (turn u)

abbrev pub onto_rest : List Step → Step → List Step → List Step
onto_rest [] s rest = rest
onto_rest (u ∷ us) s rest = onto_rest us (turn u) (s ∷ rest)

abbrev pub onto : List Step → Step → List Step → List Step
onto us s rest = onto_first us s ∷ onto_rest us s rest

pub onto_is : (us : List Step) (s : Step) (rest : List Step) → onto us s rest ≡ map turn (reverse us) ++ s ∷ rest
onto_is [] s rest = refl
onto_is (u ∷ us) s rest =
    let backward : reverse (u ∷ us) ≡ reverse us ++ u ∷ [] = reverse-append (u ∷ []) us in
    let turned : map turn (reverse (u ∷ us)) ≡ map turn (reverse us) ++ turn u ∷ [] = ap (map turn) backward ∙ map-append turn (reverse us) (u ∷ []) in
    onto_is us (turn u) (s ∷ rest) ∙ sym (append_assoc (map turn (reverse us)) (turn u ∷ []) (s ∷ rest)) ∙ ap (λ (x : List Step). x ++ s ∷ rest) (sym turned)

last_onto : (us : List Step) (s : Step) (rest : List Step) → last_of (onto_first us s) (onto_rest us s rest) ≡ last_of s rest
last_onto [] s rest = refl
last_onto (u ∷ us) s rest = last_onto us (turn u) (s ∷ rest)

first_onto : (us : List Step) (s : Step) → first_end (onto_first us s) ≡ end_after (first_end s) us
first_onto [] s = refl
first_onto (u ∷ us) s = first_onto us (turn u) ∙ ap (λ (e : End). end_after e us) (first_turned u)

-- ---- the strokes of them
among_onto_parts : (us : List Step) (s : Step) (rest : List Step) (i : ℕ) → IsAmong (strokes_of (onto us s rest)) i → IsAmong (strokes_of us) i ⊎ IsAmong (strokes_of (s ∷ rest)) i
among_onto_parts [] s rest i h = inr h
among_onto_parts (u ∷ us) s rest i h = by (among_onto_parts us (turn u) (s ∷ rest) i h)
  where
    by : IsAmong (strokes_of us) i ⊎ IsAmong (strokes_of (turn u ∷ s ∷ rest)) i → IsAmong (strokes_of (u ∷ us)) i ⊎ IsAmong (strokes_of (s ∷ rest)) i
    by (inl k) = inl (inr k)
    by (inr (inl k)) = inl (inl k)
    by (inr (inr k)) = inr k

among_onto : (us : List Step) (s : Step) (rest : List Step) (i : ℕ) → IsAmong (strokes_of us) i ⊎ IsAmong (strokes_of (s ∷ rest)) i → IsAmong (strokes_of (onto us s rest)) i
among_onto [] s rest i (inl h) = absurd h
among_onto [] s rest i (inr h) = h
among_onto (u ∷ us) s rest i (inl (inl h)) = among_onto us (turn u) (s ∷ rest) i (inr (inl h))
among_onto (u ∷ us) s rest i (inl (inr h)) = among_onto us (turn u) (s ∷ rest) i (inl h)
among_onto (u ∷ us) s rest i (inr h) = among_onto us (turn u) (s ∷ rest) i (inr (inr h))

apart_onto : (us : List Step) (s : Step) (rest : List Step) → AreApart (strokes_of us) → AreApart (strokes_of (s ∷ rest))
    → ((i : ℕ) → IsAmong (strokes_of us) i → IsAmong (strokes_of (s ∷ rest)) i → ⊥) → AreApart (strokes_of (onto us s rest))
apart_onto [] s rest h k apart = k
apart_onto (u ∷ us) s rest h k apart = apart_onto us (turn u) (s ∷ rest) h.1 (apart u.stroke (inl refl), k) by
  where
    by : (i : ℕ) → IsAmong (strokes_of us) i → IsAmong (strokes_of (turn u ∷ s ∷ rest)) i → ⊥
    by i a (inl e) = h.0 (subst (IsAmong (strokes_of us)) (sym e) a)
    by i a (inr b) = apart i (inr a) b

all_onto : (P : Step → Type 0) (us : List Step) (s : Step) (rest : List Step) → ((t : Step) → IsAmong (strokes_of us) t.stroke → P t) → All P (s ∷ rest) → All P (onto us s rest)
all_onto P [] s rest h k = k
all_onto P (u ∷ us) s rest h k = all_onto P us (turn u) (s ∷ rest) (λ t a. h t (inr a)) (All-cons P (turn u) (s ∷ rest) (h (turn u) (inl refl)) k)

all_away : (P : Step → Type 0) (steps : List Step) → ((t : Step) → IsAmong (strokes_of steps) t.stroke → P t) → All P steps
all_away P [] h = All-nil P
all_away P (s ∷ rest) h = All-cons P s rest (h s (inl refl)) (all_away P rest (λ t a. h t (inr a)))

module _ (joints : List Joint) (m : AreMatched joints) where
  -- ---- linked
  linked_of : (s : Step) (steps : List Step) → GoOn joints (last_end s) steps → AreLinked joints s steps
  linked_of s [] h = tt
  linked_of s (t ∷ rest) h = (h.0, linked_of t rest h.1)

  end_is : (s : Step) (steps : List Step) → end_after (last_end s) steps ≡ last_end (last_of s steps)
  end_is s [] = refl
  end_is s (t ∷ rest) = end_is t rest

  linked_onto : (us : List Step) (s : Step) (rest : List Step) → GoOn joints (first_end s) us → AreLinked joints s rest → AreLinked joints (onto_first us s) (onto_rest us s rest)
  linked_onto [] s rest h k = k
  linked_onto (u ∷ us) s rest h k = linked_onto us (turn u) (s ∷ rest) (subst (λ (e : End). GoOn joints e us) (sym (first_turned u)) h.1) (turned, k)
    where
      turned : partner joints (last_end (turn u)) ≡ Some (first_end s)
      turned = ap (partner joints) (last_turned u) ∙ m.back (first_end s) (first_end u) h.0

  -- ---- a route that ends as it must is whole
  whole_after : (before after : List Bool) (closed : Bool) (s : Step) (rest : List Step) → AreLinked joints s rest → EndByTable joints closed s (last_of s rest) → AreVisited before after (strokes_of (s ∷ rest))
      → AreWhole joints before → AreWhole joints after
  whole_after before after closed s rest linked ends visits whole e f joined there = by (visits.now e.stroke there)
    where
      inside : IsAmong (strokes_of (s ∷ rest)) f.stroke → IsVisited after f.stroke
      inside a = visits.new f.stroke a

      is_end : (z : End) → partner joints e ≡ Some z → IsAmong (strokes_of (s ∷ rest)) z.stroke → IsVisited after f.stroke
      is_end z q a = inside (subst (λ (x : End). IsAmong (strokes_of (s ∷ rest)) x.stroke) (same_end z f (sym q ∙ joined)) a)
        where
          same_end : (x y : End) → ◌≡◌ {A = Option End} (Some x) (Some y) → x ≡ y
          same_end x y h = cc

      none : partner joints e ≡ None → ⊥
      none q = no_end (sym q ∙ joined)
        where
          no_end : ◌≡◌ {A = Option End} None (Some f) → ⊥
          no_end h = cc

      first : (b : Bool) → EndByTable joints b s (last_of s rest) → e ≡ first_end s → IsVisited after f.stroke
      first true h q = is_end (last_end (last_of s rest)) (ap (partner joints) q ∙ m.back (last_end (last_of s rest)) (first_end s) h) (last_among s rest)
      first false h q = absurd (none (ap (partner joints) q ∙ h.0))

      last : (b : Bool) → EndByTable joints b s (last_of s rest) → e ≡ last_end (last_of s rest) → IsVisited after f.stroke
      last true h q = is_end (first_end s) (ap (partner joints) q ∙ h) (inl refl)
      last false h q = absurd (none (ap (partner joints) q ∙ h.1))

      place : WhereIs joints m s rest e → IsVisited after f.stroke
      place (at_first q) = first closed ends q
      place (at_last q) = last closed ends q
      place (inner i) = is_end i.other i.joined i.among

      by : IsVisited before e.stroke ⊎ IsAmong (strokes_of (s ∷ rest)) e.stroke → IsVisited after f.stroke
      by (inl v) = visits.still f.stroke (whole e f joined v)
      by (inr a) = place (where_is joints m s rest e linked visits.apart a)

  -- ---- the route
  module _ (before between after : List Bool) (i : ℕ) (back onward : List Step) (closed goes_back : Bool) (new : slice_get before i ≡ Some false) (whole : AreWhole joints before) where
    abbrev start : Step
    start = record { stroke = i; turned = false }

    module _ (forth : AreStepsFrom joints (set before i true) between (last_end start) onward closed) (behind : AreStepsFrom joints between after (first_end start) back goes_back) where
      abbrev end_forth : End
      end_forth = last_end (last_of start onward)

      visits_forth : AreVisited before between (strokes_of (start ∷ onward))
      visits_forth = visits_first before between i (strokes_of onward) new forth.visits

      linked_forth : AreLinked joints start onward
      linked_forth = linked_of start onward forth.go_on

      -- the strokes behind are none of those onward
      fresh_behind : (j : ℕ) → IsAmong (strokes_of back) j → IsAmong (strokes_of (start ∷ onward)) j → ⊥
      fresh_behind j h k = not_both between j (behind.visits.fresh j h) (visits_forth.new j k)

      abbrev all_steps : List Step
      all_steps = onto back start onward

      visits_all : AreVisited before after (strokes_of all_steps)
      visits_all =
          record {
            fresh = λ j h. fresh j (among_onto_parts back start onward j h);
            apart = apart_onto back start onward behind.visits.apart visits_forth.apart fresh_behind;
            now = λ j h. now j (behind.visits.now j h);
            still = λ j h. behind.visits.still j (visits_forth.still j h);
            new = λ j h. visited j (among_onto_parts back start onward j h);
            as_many = behind.visits.as_many ∙ visits_forth.as_many;
          }
        where
          fresh : (j : ℕ) → IsAmong (strokes_of back) j ⊎ IsAmong (strokes_of (start ∷ onward)) j → slice_get before j ≡ Some false
          fresh j (inl h) = fresh_of before between j visits_forth.as_many (visits_forth.still j) (behind.visits.fresh j h)
          fresh j (inr h) = visits_forth.fresh j h

          now : (j : ℕ) → IsVisited between j ⊎ IsAmong (strokes_of back) j → IsVisited before j ⊎ IsAmong (strokes_of all_steps) j
          now j (inl h) = by (visits_forth.now j h)
            where
              by : IsVisited before j ⊎ IsAmong (strokes_of (start ∷ onward)) j → IsVisited before j ⊎ IsAmong (strokes_of all_steps) j
              by (inl k) = inl k
              by (inr k) = inr (among_onto back start onward j (inr k))
          now j (inr h) = inr (among_onto back start onward j (inl h))

          visited : (j : ℕ) → IsAmong (strokes_of back) j ⊎ IsAmong (strokes_of (start ∷ onward)) j → IsVisited after j
          visited j (inl h) = behind.visits.new j h
          visited j (inr h) = behind.visits.still j (visits_forth.new j h)

      linked_all : AreLinked joints (onto_first back start) (onto_rest back start onward)
      linked_all = linked_onto back start onward behind.go_on linked_forth

      -- a stroke that is joined to one of the route wasn't visited before
      not_before : (e f : End) → partner joints e ≡ Some f → IsAmong (strokes_of all_steps) e.stroke → IsVisited before f.stroke → ⊥
      not_before e f joined a v = not_both before e.stroke (visits_all.fresh e.stroke a) (whole f e (m.back e f joined) v)

      last_among_all : IsAmong (strokes_of all_steps) end_forth.stroke
      last_among_all = among_onto back start onward end_forth.stroke (inr (last_among start onward))

      same_end : (x y : End) → ◌≡◌ {A = Option End} (Some x) (Some y) → x ≡ y
      same_end x y h = cc

      some_none : (x : End) → ◌≡◌ {A = Option End} (Some x) None → ⊥
      some_none x h = cc

      joined_forth : (f : End) → partner joints end_forth ≡ Some f → partner joints (end_after (last_end start) onward) ≡ Some f
      joined_forth f q = ap (partner joints) (end_is start onward) ∙ q

      -- where a stroke goes on from the last one, it is the first
      closes : (f : End) → partner joints end_forth ≡ Some f → f ≡ first_end start
      closes f q = by (visits_forth.now f.stroke (forth.stopped f (joined_forth f q)))
        where
          by : IsVisited before f.stroke ⊎ IsAmong (strokes_of (start ∷ onward)) f.stroke → f ≡ first_end start
          by (inl v) = absurd (not_before end_forth f q last_among_all v)
          by (inr a) = comes_back joints m start onward f linked_forth visits_forth.apart q a

      -- no step is behind then
      none_behind : (f : End) → partner joints end_forth ≡ Some f → back ≡ []
      none_behind f q = by back behind.go_on (λ j h. fresh_behind j h)
        where
          round : partner joints (first_end start) ≡ Some end_forth
          round = m.back end_forth (first_end start) (q ∙ ap Some (closes f q))

          by : (us : List Step) → GoOn joints (first_end start) us → ((j : ℕ) → IsAmong (strokes_of us) j → IsAmong (strokes_of (start ∷ onward)) j → ⊥) → us ≡ []
          by [] h apart = refl
          by (u ∷ us) h apart =
              absurd
              (apart u.stroke (inl refl)
              (subst (λ (x : End). IsAmong (strokes_of (start ∷ onward)) x.stroke) (same_end end_forth (first_end u) (sym round ∙ h.0)) (last_among start onward)))

      ends_closed : (f : End) → partner joints end_forth ≡ Some f → EndByTable joints true (onto_first back start) (last_of (onto_first back start) (onto_rest back start onward))
      ends_closed f q =
          subst (λ (us : List Step). partner joints (last_end (last_of (onto_first us start) (onto_rest us start onward))) ≡ Some (first_end (onto_first us start))) (sym (none_behind f q))
          (q ∙ ap Some (closes f q))

      ends_open : partner joints end_forth ≡ None → EndByTable joints false (onto_first back start) (last_of (onto_first back start) (onto_rest back start onward))
      ends_open q = (first (partner joints (first_end (onto_first back start))) refl, ap (λ (t : Step). partner joints (last_end t)) (last_onto back start onward) ∙ q)
        where
          first : (o : Option End) → partner joints (first_end (onto_first back start)) ≡ o → partner joints (first_end (onto_first back start)) ≡ None
          first None r = r
          first (Some f) r =
              absurd (by (visits_all.now f.stroke (behind.stopped f (ap (partner joints) (sym (first_onto back start)) ∙ r))))
            where
              by : IsVisited before f.stroke ⊎ IsAmong (strokes_of all_steps) f.stroke → ⊥
              by (inl v) = not_before (first_end (onto_first back start)) f r (inl refl) v
              by (inr a) =
                  let round = comes_round joints m (onto_first back start) (onto_rest back start onward) f linked_all visits_all.apart r a in
                  let is : f ≡ end_forth = round ∙ ap last_end (last_onto back start onward) in
                  some_none (first_end (onto_first back start)) (sym (m.back (first_end (onto_first back start)) f r) ∙ ap (partner joints) is ∙ q)

      begins : (f : End) → partner joints end_forth ≡ Some f → (onto_first back start).stroke ≡ i
      begins f q = ap (λ (us : List Step). (onto_first us start).stroke) (none_behind f q)

      forward : All (λ (s : Step). s.stroke ≡ i → s.turned ≡ false) all_steps
      forward =
          all_onto (λ (s : Step). s.stroke ≡ i → s.turned ≡ false) back start onward
          (λ t a e. absurd (fresh_behind t.stroke a (inl (sym e))))
          (All-cons (λ (s : Step). s.stroke ≡ i → s.turned ≡ false) start onward (λ e. refl)
          (all_away (λ (s : Step). s.stroke ≡ i → s.turned ≡ false) onward (λ t a e. absurd (visits_forth.apart.0 (subst (IsAmong (strokes_of onward)) e a)))))

      route_by : (o : Option End) → partner joints end_forth ≡ o → IsRouteThrough joints before after i all_steps (is_some o)
      route_by None q =
          record {
            first = onto_first back start;
            rest = onto_rest back start onward;
            steps_are = refl;
            linked = linked_all;
            ends = ends_open q;
            visits = visits_all;
            among = among_onto back start onward i (inr (inl refl));
            forward = forward;
            begins = λ e. cc;
            whole = whole_after before after false (onto_first back start) (onto_rest back start onward) linked_all (ends_open q) visits_all whole;
          }
      route_by (Some f) q =
          record {
            first = onto_first back start;
            rest = onto_rest back start onward;
            steps_are = refl;
            linked = linked_all;
            ends = ends_closed f q;
            visits = visits_all;
            among = among_onto back start onward i (inr (inl refl));
            forward = forward;
            begins = λ e. begins f q;
            whole = whole_after before after true (onto_first back start) (onto_rest back start onward) linked_all (ends_closed f q) visits_all whole;
          }

      pub route_is : (steps : List Step) → steps ≡ map turn (reverse back) ++ start ∷ onward → IsRouteThrough joints before after i steps closed
      route_is steps e =
          let says : closed ≡ is_some (partner joints end_forth) = forth.says ∙ ap (λ (x : End). is_some (partner joints x)) (end_is start onward) in
          subst (λ (b : Bool). IsRouteThrough joints before after i steps b) (sym says)
          (subst (λ (xs : List Step). IsRouteThrough joints before after i xs (is_some (partner joints end_forth))) (onto_is back start onward ∙ sym e) (route_by (partner joints end_forth) refl))

-- the same, by what the calls say
pub route_is_by : (joints : List Joint) → AreMatched joints → (before between after : List Bool) (i : ℕ) (back onward : List Step) (closed goes_back : Bool) → slice_get before i ≡ Some false → AreWhole joints before
    → (to from : End) → to ≡ last_end (record { stroke = i; turned = false }) → from ≡ first_end (record { stroke = i; turned = false }) → AreStepsFrom joints (set before i true) between to onward closed
    → AreStepsFrom joints between after from back goes_back → (steps back_read onward_read : List Step) → back_read ≡ back → onward_read ≡ onward
    → steps ≡ map turn (reverse back_read) ++ (record { stroke = i; turned = false }) ∷ onward_read → IsRouteThrough joints before after i steps closed
route_is_by joints m before between after i back onward closed goes_back new whole to from to_is from_is forth behind steps back_read onward_read back_is onward_is e =
    route_is joints m before between after i back onward closed goes_back new whole (subst (λ (x : End). AreStepsFrom joints (set before i true) between x onward closed) to_is forth)
    (subst (λ (x : End). AreStepsFrom joints between after x back goes_back) from_is behind) steps
    (e ∙ (λ k. map turn (reverse (back_is k)) ++ (record { stroke = i; turned = false }) ∷ onward_is k))
