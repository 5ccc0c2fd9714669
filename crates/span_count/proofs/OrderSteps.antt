-- Steps that a search over the corners of drawn edges gives are steps over the drawn edges.
use Rattle.std.proofs.Common.{◌≡◌, ◌≢◌, ℕ, ◌+◌, ◌<◌, ◌≤◌, Bool, true, false, List, [], ◌∷◌, All, AllPairs, Contains, Option, Some, None, length, map, get_or, slice_get, refl, sym, subst, ◌∙◌, arith}
use Rattle.std.specs.Prelude.{IsPermutation}
use Rattle.std.specs.List.{range_with_len}
use Rattle.std.specs.List.Sorted.{IsStrictlyIncreasing}
use Rattle.std.proofs.lemmas.List.{length-map, get_or-map}
use Rattle.std.proofs.lemmas.List.FromFn.{length-range_with_len, get_or-range_with_len}
use Rattle.std.proofs.lemmas.Option.{slice_get-get_or}
use Rattle.geometry.specs.Parts.{Edge, IsNumbered}
use Rattle.geometry.specs.Runs.{AreRuns}
use Rattle.geometry.specs.Turns.{number_at}
use Rattle.cross_find.specs.Sights.{SightState}
use Rattle.edge_pick.specs.declared.Picked.{Picked}
use Rattle.span_count.specs.Bounds.{IsRunCount}
use Rattle.edge_pick.specs.declared.order.EdgeCorners.{EdgeCorners}
use Rattle.edge_pick.specs.declared.order.DrawnEnd.{DrawnEnd}
use Rattle.edge_pick.specs.declared.order.Step.{Step}
use Rattle.span_count.specs.Orders.{AreAtOneCorner, ComesFrom, start_of, starts_of, AreSteps}
use Rattle.edge_pick.specs.Orders.{corner_at, corner_of, Reaches, places_of, starts_in, IsFrom, AreWalked}
use Rattle.edge_pick.specs.inner.Numberings.{AreCornersOf}
use Rattle.edge_pick.proofs.EdgePlaces.{number_is, reaches_of}
use Rattle.edge_pick.proofs.Lists.{few_of}

-- ---- how many begin
pub starts_count : (steps : List Step) → starts_of steps ≡ length (starts_in steps)
starts_count [] = refl
starts_count (x ∷ xs) = by x.from (starts_count xs)
  where
    by : (from : Option DrawnEnd) → starts_of xs ≡ length (starts_in xs) → start_of from + starts_of xs ≡ length (starts_in (record { to = x.to; from = from } ∷ xs))
    by None e = omega (arith, e)
    by (Some from) e = omega (arith, e)

-- ---- steps over the drawn edges
module _ (x : SightState) (p : Picked) (edges : List EdgeCorners) (long : length edges ≡ length p.drawn.items) (corners : AreCornersOf x.part x.halves p.drawn.items edges) where
  at_end : (place i : ℕ) (e : Edge x.part) (at_b : Bool) → slice_get p.drawn.items place ≡ Some i → IsNumbered x.halves i e → number_at e at_b ≡ corner_at edges place at_b
  at_end place i e false at numbered = number_is x.part x.halves p.drawn.items edges long corners place i e false at numbered
  at_end place i e true at numbered = number_is x.part x.halves p.drawn.items edges long corners place i e true at numbered

  at_one_corner : (a b : DrawnEnd) → corner_of edges a ≡ corner_of edges b → AreAtOneCorner x p a b
  at_one_corner a b same i j e f at_i at_j i_is j_is = at_end a.place i e a.at_b at_i i_is ∙ same ∙ sym (at_end b.place j f b.at_b at_j j_is)

  comes_from : (steps : List Step) (k : ℕ) (to : DrawnEnd) (from : Option DrawnEnd) → IsFrom edges steps k to from → ComesFrom x p steps k to from
  comes_from steps k to None h = tt
  comes_from steps k to (Some from) h = (h.0, at_one_corner from to h.1)

  module _ (rising : IsStrictlyIncreasing p.drawn.items) (runs : AreRuns x.part x.halves p.drawn.items p.runs.items) (steps : List Step) (walked : AreWalked edges steps) where
    abbrev run_of : ℕ → ℕ
    run_of place = get_or p.runs.items place 0

    -- places with one run number lead to one another
    same_run : (k l : ℕ) → k < length edges → l < length edges → run_of k ≡ run_of l → Reaches edges k l
    same_run k l in_k in_l same =
        let at_k = slice_get-get_or p.drawn.items k 0 (omega (arith, in_k, long)) in
        let at_l = slice_get-get_or p.drawn.items l 0 (omega (arith, in_l, long)) in
        let run_k = slice_get-get_or p.runs.items k 0 (omega (arith, in_k, long, runs.each)) in
        let run_l = slice_get-get_or p.runs.items l 0 (omega (arith, in_l, long, runs.each)) in
        reaches_of x.part x.halves p.drawn.items edges long corners rising (get_or p.drawn.items k 0) (get_or p.drawn.items l 0)
        ((runs.same k l (get_or p.drawn.items k 0) (get_or p.drawn.items l 0) (run_of k) (run_of l) at_k at_l run_k run_l).0 same) k l at_k at_l

    starts_few : (count : ℕ) → IsRunCount p.runs.items count → starts_of steps ≤ count
    starts_few count h =
        let few = few_of (map run_of (starts_in steps)) (range_with_len 0 count) apart within in
        omega (arith, few, starts_count steps, length-map (starts_in steps) run_of, length-range_with_len 0 count)
      where
        run_at : (k d : ℕ) → k < length (map run_of (starts_in steps)) → get_or (map run_of (starts_in steps)) k d ≡ run_of (get_or (starts_in steps) k 0)
        run_at k d l = get_or-map run_of (starts_in steps) k 0 d (omega (arith, l, length-map (starts_in steps) run_of))

        start_below : (k : ℕ) → k < length (map run_of (starts_in steps)) → get_or (starts_in steps) k 0 < length edges
        start_below k l = walked.starts k 0 (omega (arith, l, length-map (starts_in steps) run_of))

        apart : AllPairs ◌≢◌ (map run_of (starts_in steps))
        apart i j d less l same =
            walked.apart i j 0 less (omega (arith, l, length-map (starts_in steps) run_of))
            (same_run (get_or (starts_in steps) i 0) (get_or (starts_in steps) j 0) (start_below i (omega (arith, less, l))) (start_below j l)
            (sym (run_at i d (omega (arith, less, l))) ∙ same ∙ run_at j d l))

        within : All (Contains (range_with_len 0 count)) (map run_of (starts_in steps))
        within k d l =
            let place = get_or (starts_in steps) k 0 in
            let below : run_of place < count = h.above place 0 (omega (arith, start_below k l, long, runs.each)) in
            subst (Contains (range_with_len 0 count)) (sym (run_at k d l))
            (run_of place, omega (arith, below, length-range_with_len 0 count), omega (arith, get_or-range_with_len 0 count (run_of place) (run_of place) below))

    pub steps_right : AreSteps x p steps
    steps_right = record {
      each = subst (λ (n : ℕ). IsPermutation (places_of steps) (range_with_len 0 n)) long walked.each;
      from = λ k step at. comes_from steps k step.to step.from (walked.from k step at);
      starts = starts_few;
    }
