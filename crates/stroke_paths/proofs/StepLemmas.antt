-- Steps from an end on, one by one, as far as strokes go that aren't visited.
use Rattle.std.proofs.Common.{◌≡◌, ◌⊎◌, inl, inr, ℕ, zero, suc, ◌<◌, Bool, true, false, List, [], ◌∷◌, ◌++◌, Some, length, set, slice_get, is_some, refl, sym, ap, subst, ◌∙◌, arith}
use Rattle.std.proofs.lemmas.List.{length-set, map_push}
use Rattle.std.proofs.lemmas.Option.{slice_get_within}
use Rattle.integers.proofs.Lists.{some_element}
use Rattle.stroke_paths.specs.declared.joint.Joint.{Joint}
use Rattle.stroke_paths.specs.declared.path.End.{End}
use Rattle.stroke_paths.specs.declared.path.Step.{Step}
use Rattle.stroke_paths.specs.inner.Tables.{partner}
use Rattle.stroke_paths.specs.inner.Walks.{IsAmong, strokes_of, AreMatched, IsVisited, AreVisited, GoOn, end_after, IsNext, IsStopped, AreStepsFrom}
use Rattle.stroke_paths.specs.Routes.{first_end, last_end}
use Rattle.stroke_paths.proofs.Numbers.{among_left, among_right, among_parts, apart_push, visited_set, visited_still, visited_before, not_both}

-- ---- how many strokes aren't visited
abbrev pub unvisited : List Bool → ℕ
unvisited [] = 0
unvisited (true ∷ vs) = unvisited vs
unvisited (false ∷ vs) = suc (unvisited vs)

pub fewer : (vs : List Bool) (n : ℕ) → slice_get vs n ≡ Some false → unvisited (set vs n true) < unvisited vs
fewer [] n h = absurd cc
fewer (true ∷ vs) zero h = absurd cc
fewer (false ∷ vs) zero h = omega arith
fewer (true ∷ vs) (suc n) h = fewer vs n h
fewer (false ∷ vs) (suc n) h = omega (arith, fewer vs n h)

-- ---- one more stroke that is visited
-- what isn't visited later wasn't visited before
pub fresh_of : (before after : List Bool) (i : ℕ) → length after ≡ length before → (IsVisited before i → IsVisited after i) → slice_get after i ≡ Some false → slice_get before i ≡ Some false
fresh_of before after i as_many still h = by (some_element before i (omega (arith, as_many, slice_get_within after i false h)))
  where
    by : (b : Bool) × (slice_get before i ≡ Some b) → slice_get before i ≡ Some false
    by (true, e) = absurd (not_both after i h (still e))
    by (false, e) = e

pub visits_none : (before : List Bool) → AreVisited before before []
visits_none before = record { fresh = λ i h. absurd h; apart = tt; now = λ i h. inl h; still = λ i h. h; new = λ i h. absurd h; as_many = refl }

pub visits_push : (before after : List Bool) (ns : List ℕ) (n : ℕ) → AreVisited before after ns → slice_get after n ≡ Some false → AreVisited before (set after n true) (ns ++ n ∷ [])
visits_push before after ns n h new =
    record {
      fresh = λ i k. fresh i (among_parts ns (n ∷ []) i k);
      apart = apart_push ns n h.apart (λ k. not_both after n new (h.new n k));
      now = λ i k. now i (visited_before after n i k);
      still = λ i k. visited_still after n i (h.still i k);
      new = λ i k. visited i (among_parts ns (n ∷ []) i k);
      as_many = length-set after n true ∙ h.as_many;
    }
  where
    fresh : (i : ℕ) → IsAmong ns i ⊎ IsAmong (n ∷ []) i → slice_get before i ≡ Some false
    fresh i (inl k) = h.fresh i k
    fresh i (inr (inl e)) = subst (λ (j : ℕ). slice_get before j ≡ Some false) e (fresh_of before after n h.as_many (h.still n) new)
    fresh i (inr (inr k)) = absurd k

    now : (i : ℕ) → IsVisited after i ⊎ (n ≡ i) → IsVisited before i ⊎ IsAmong (ns ++ n ∷ []) i
    now i (inl k) = by (h.now i k)
      where
        by : IsVisited before i ⊎ IsAmong ns i → IsVisited before i ⊎ IsAmong (ns ++ n ∷ []) i
        by (inl a) = inl a
        by (inr a) = inr (among_left ns (n ∷ []) i a)
    now i (inr e) = inr (among_right ns (n ∷ []) i (inl e))

    visited : (i : ℕ) → IsAmong ns i ⊎ IsAmong (n ∷ []) i → IsVisited (set after n true) i
    visited i (inl k) = visited_still after n i (h.new i k)
    visited i (inr (inl e)) = subst (IsVisited (set after n true)) e (visited_set after n (slice_get_within after n false new))
    visited i (inr (inr k)) = absurd k

pub visits_first : (before after : List Bool) (n : ℕ) (ns : List ℕ) → slice_get before n ≡ Some false → AreVisited (set before n true) after ns → AreVisited before after (n ∷ ns)
visits_first before after n ns new h =
    record {
      fresh = fresh;
      apart = (λ k. not_both (set before n true) n (h.fresh n k) here, h.apart);
      now = λ i k. now i (h.now i k);
      still = λ i k. h.still i (visited_still before n i k);
      new = visited;
      as_many = h.as_many ∙ length-set before n true;
    }
  where
    here : IsVisited (set before n true) n
    here = visited_set before n (slice_get_within before n false new)

    fresh : (i : ℕ) → IsAmong (n ∷ ns) i → slice_get before i ≡ Some false
    fresh i (inl e) = subst (λ (j : ℕ). slice_get before j ≡ Some false) e new
    fresh i (inr k) = fresh_of before (set before n true) i (length-set before n true) (visited_still before n i) (h.fresh i k)

    now : (i : ℕ) → IsVisited (set before n true) i ⊎ IsAmong ns i → IsVisited before i ⊎ IsAmong (n ∷ ns) i
    now i (inl k) = by (visited_before before n i k)
      where
        by : IsVisited before i ⊎ (n ≡ i) → IsVisited before i ⊎ IsAmong (n ∷ ns) i
        by (inl a) = inl a
        by (inr e) = inr (inl e)
    now i (inr k) = inr (inr k)

    visited : (i : ℕ) → IsAmong (n ∷ ns) i → IsVisited after i
    visited i (inl e) = subst (IsVisited after) e (h.still n here)
    visited i (inr k) = h.new i k

-- ---- one more step
module _ (joints : List Joint) where
  pub go_on_push : (e : End) (steps : List Step) (s : Step) → GoOn joints e steps → partner joints (end_after e steps) ≡ Some (first_end s) → GoOn joints e (steps ++ s ∷ [])
  go_on_push e [] s h joined = (joined, tt)
  go_on_push e (t ∷ rest) s h joined = (h.0, go_on_push (last_end t) rest s h.1 joined)

  pub end_after_push : (e : End) (steps : List Step) (s : Step) → end_after e (steps ++ s ∷ []) ≡ last_end s
  end_after_push e [] s = refl
  end_after_push e (t ∷ rest) s = end_after_push (last_end t) rest s

  -- the steps so far, which come to this end
  pub record AreStepsSoFar (before after : List Bool) (e : End) (steps : List Step) (at : End) : Type 0 where
    pub go_on : GoOn joints e steps
    pub visits : AreVisited before after (strokes_of steps)
    pub comes : at ≡ end_after e steps
    pub listed : at.stroke < length joints

  pub no_step : (before : List Bool) (e : End) → e.stroke < length joints → AreStepsSoFar before before e [] e
  no_step before e listed = record { go_on = tt; visits = visits_none before; comes = refl; listed = listed }

  pub one_more_step : (before middle after : List Bool) (e : End) (steps : List Step) (at : End) (s : Step) → AreMatched joints → AreStepsSoFar before middle e steps at
      → IsNext joints middle after at s → AreStepsSoFar before after e (steps ++ s ∷ []) (last_end s)
  one_more_step before middle after e steps at s m h k =
      record {
        go_on = go_on_push e steps s h.go_on (ap (partner joints) (sym h.comes) ∙ k.joined);
        visits =
            subst (λ (vs : List Bool). AreVisited before vs (strokes_of (steps ++ s ∷ []))) (sym k.visited)
            (subst (AreVisited before (set middle s.stroke true)) (sym (map_push (λ (t : Step). t.stroke) steps s)) (visits_push before middle (strokes_of steps) s.stroke h.visits k.fresh));
        comes = sym (end_after_push e steps s);
        listed = m.within at (first_end s) k.joined;
      }

  pub fewer_by : (before after : List Bool) (e : End) (s : Step) → IsNext joints before after e s → unvisited after < unvisited before
  fewer_by before after e s h = subst (λ (vs : List Bool). unvisited vs < unvisited before) (sym h.visited) (fewer before s.stroke h.fresh)

  pub one_more_step_by : (before middle after : List Bool) (e : End) (steps : List Step) (at : End) (s : Step) → AreMatched joints → AreStepsSoFar before middle e steps at → IsNext joints middle after at s
      → (more : List Step) → more ≡ steps ++ s ∷ [] → (next : End) → next ≡ last_end s → AreStepsSoFar before after e more next
  one_more_step_by before middle after e steps at s m h k more p next q =
      subst (λ (x : End). AreStepsSoFar before after e more x) (sym q) (subst (λ (xs : List Step). AreStepsSoFar before after e xs (last_end s)) (sym p) (one_more_step before middle after e steps at s m h k))

  pub stopped_steps : (before middle after : List Bool) (e : End) (steps : List Step) (at : End) (closed : Bool) → AreStepsSoFar before middle e steps at → IsStopped joints middle after at
      → closed ≡ is_some (partner joints at) → AreStepsFrom joints before after e steps closed
  stopped_steps before middle after e steps at closed h k says =
      record {
        go_on = h.go_on;
        visits = subst (λ (vs : List Bool). AreVisited before vs (strokes_of steps)) (sym k.same) h.visits;
        stopped = λ f q. subst (λ (vs : List Bool). IsVisited vs f.stroke) (sym k.same) (k.stopped f (ap (partner joints) h.comes ∙ q));
        says = says ∙ ap (λ (x : End). is_some (partner joints x)) h.comes;
      }
