-- The drawn edges of a cut view one after another: which lists serve for them, what was found so far, and how many tests that took.
use Rattle.std.proofs.Common.{◌≡◌, ℕ, suc, ◌+◌, ◌*◌, ◌<◌, ◌≤◌, List, [], ◌∷◌, ◌++◌, Contains, length, get_or, take, sum, sym, subst, arith, mul-le-mul}
use Rattle.std.specs.List.{AllZip}
use Rattle.std.proofs.lemmas.List.Sums.{sum_by_push}
use Rattle.std.proofs.lemmas.Option.{slice_get-get_or}
use Rattle.lattice.specs.Cuts.{Plane, toward_of}
use Rattle.geometry.specs.Parts.{Part, Edge, IsNumbered}
use Rattle.geometry.specs.Views.{IsEndOn}
use Rattle.hiding_laws.proofs.CutPlanes.{cut-somewhere}
use Rattle.solid_mesh.specs.declared.solid.Solid.{Solid}
use Rattle.solid_mesh.specs.Solids.{solid_part, edge_halves}
use Rattle.solid_mesh.proofs.Facts.{few_corners, few_triangles, in_range, sound, edges_are}
use Rattle.edge_pick.specs.declared.Picked.{Picked}
use Rattle.cross_find.specs.Sights.{SightState, IsSeen}
use Rattle.span_count.specs.Finders.{IsPickedIn, IsFinder}
use Rattle.span_count.specs.declared.span.EdgeSpans.{EdgeSpans}
use Rattle.span_count.proofs.Lists.{front_get, all_zip_push}
use Rattle.span_count.proofs.Listings as listings
use Rattle.cut_count_laws.proofs.PartMarks.{changes_of_cut}
use Rattle.cut_count.specs.CutSpans.{AreCutCountSpans, IsCutEntry}
use Rattle.cut_count.specs.inner.Walks.{AreListedInCut}

-- ---- what serves for a drawn edge
module _ (solid : Solid) (c : Plane) (tests : ℕ) where
  -- what is seen in the cut view
  abbrev pub seen_in_cut : SightState
  seen_in_cut = record { part = solid_part solid; halves = edge_halves solid; direction = toward_of c; tests = tests }

  seen : IsSeen seen_in_cut
  seen = record {
    sound = sound solid;
    within = in_range solid;
    few_corners = few_corners solid;
    few_triangles = few_triangles solid;
    edges = edges_are solid;
    directed = cut-somewhere c;
  }

  module _ (picked : Picked) (is_picked : IsPickedIn seen_in_cut picked) (along over : ℕ → List ℕ) (near : ℕ → ℕ → Type 0) (finder : IsFinder seen_in_cut picked along over near) (edge : ℕ) (drawn : Contains picked.drawn.items edge) where
    pub not_end_on : (e : Edge (solid_part solid)) → IsNumbered (edge_halves solid) edge e → ¬ IsEndOn (toward_of c) e
    not_end_on = (listings.seen_edge seen_in_cut seen picked is_picked along over near finder edge drawn).seen

    pub edge_within : edge < length (edge_halves solid)
    edge_within = (listings.seen_edge seen_in_cut seen picked is_picked along over near finder edge drawn).in_range

    -- it costs a test of each triangle, of each outline that is listed for it and of each segment
    pub few_tests : (segments : ℕ) → length (solid_part solid).triangles + length (along edge) + segments ≤ length (solid_part solid).triangles + length picked.outlines.items + 2 * segments
    few_tests segments = at_most (length (solid_part solid).triangles) (length (along edge)) (length picked.outlines.items) segments (listings.few_along seen_in_cut seen picked is_picked along over near finder edge drawn)
      where
        at_most : (triangles along outlines segments : ℕ) → along ≤ outlines → triangles + along + segments ≤ triangles + outlines + 2 * segments
        at_most triangles along outlines segments few = omega arith

    pub listed_in_cut : AreListedInCut c (solid_part solid) (edge_halves solid) edge (along edge)
    listed_in_cut =
        let listed = listings.listed seen_in_cut seen picked is_picked along over near finder edge drawn in
        record {
          few = listed.few;
          within = λ k d h. (listed.outline k d h).0;
          once = listed.once;
          changing = λ e o i at there changes. listed.changing e o i at there (changes_of_cut c e o changes);
        }

-- ---- so far
-- what the first i edges cost, where each takes such a number of tests and costs at most so much, and their entries
pub record AreEntriesSoFar (c : Plane) (s : Part) (halves drawn : List ℕ) (takes : ℕ → ℕ → Type 0) (cost tests i now : ℕ) (entries : List EdgeSpans) : Type 0 where
  pub least : tests ≤ now
  pub most : now ≤ tests + i * cost
  pub counts : List ℕ
  pub counted : AllZip takes (take i drawn) counts
  pub all : now ≡ tests + sum counts
  pub entered : AllZip (IsCutEntry c s halves) (take i drawn) entries

module _ (c : Plane) (s : Part) (halves drawn : List ℕ) (takes : ℕ → ℕ → Type 0) (cost tests : ℕ) where
  pub entries_none : (entries : List EdgeSpans) → entries ≡ [] → AreEntriesSoFar c s halves drawn takes cost tests 0 tests entries
  entries_none entries none = record { least = omega arith; most = omega arith; counts = []; counted = tt; all = omega arith; entered = subst (AllZip (IsCutEntry c s halves) []) (sym none) tt }

  module _ (i now : ℕ) (entries : List EdgeSpans) (known : AreEntriesSoFar c s halves drawn takes cost tests i now entries) where
    -- where there is one more, its tests are within the bound
    pub one_more : i < length drawn → (one : ℕ) → one ≤ cost → now + one ≤ tests + length drawn * cost
    one_more within one most =
        let all : suc i * cost ≤ length drawn * cost = mul-le-mul (omega arith) (omega arith) in
        omega (arith, known.most)

    -- so they are where it stops there, with the tests that it took
    pub stopped_within : i < length drawn → (one new bound : ℕ) → one ≤ cost → now ≤ new → new ≤ now + one → bound ≡ length drawn * cost → (tests ≤ new) × (new ≤ tests + bound)
    stopped_within within one new bound small up most is = told tests now new one (length drawn * cost) bound known.least up most (one_more within one small) is
      where
        told : (tests now new one all bound : ℕ) → tests ≤ now → now ≤ new → new ≤ now + one → now + one ≤ tests + all → bound ≡ all → (tests ≤ new) × (new ≤ tests + bound)
        told tests now new one all bound least up most within is = (omega arith, omega arith)

    pub all_within : i ≤ length drawn → (tests ≤ now) × (now ≤ tests + length drawn * cost)
    all_within within =
        let all : i * cost ≤ length drawn * cost = mul-le-mul within (omega arith) in (
          known.least,
          omega (arith, known.most),
        )

    pub entries_more : i < length drawn → (edge : ℕ) → edge ≡ get_or drawn i 0 → (entry : EdgeSpans) → entry.edge ≡ edge
        → ((e : Edge s) → IsNumbered halves edge e → AreCutCountSpans c e entry.spans.items) → (longer : List EdgeSpans) → longer ≡ entries ++ entry ∷ []
        → (new one : ℕ) → one ≤ cost → now ≤ new → new ≤ now + one → (n : ℕ) → takes edge n → new ≡ now + n → AreEntriesSoFar c s halves drawn takes cost tests (i + 1) new longer
    entries_more within edge at entry of spans longer pushed new one small least most n taken is = record {
      least = let h = known.least in omega arith;
      most = next;
      counts = known.counts ++ n ∷ [];
      counted = subst (λ xs. AllZip takes xs (known.counts ++ n ∷ [])) (front_get drawn i (get_or drawn i 0) (slice_get-get_or drawn i 0 within))
          (all_zip_push takes (take i drawn) known.counts (get_or drawn i 0) n known.counted (subst (λ number. takes number n) at taken));
      all = together (sum known.counts) (sum (known.counts ++ n ∷ [])) (sum_by_push (λ m. m) known.counts n) known.all;
      entered = subst (λ xs. AllZip (IsCutEntry c s halves) xs longer) (front_get drawn i (get_or drawn i 0) (slice_get-get_or drawn i 0 within))
          (subst (AllZip (IsCutEntry c s halves) (take i drawn ++ get_or drawn i 0 ∷ [])) (sym pushed)
          (all_zip_push (IsCutEntry c s halves) (take i drawn) entries (get_or drawn i 0) entry known.entered
          (subst (λ n. IsCutEntry c s halves n entry) at (record { edge = of; spans = spans }))));
    }
      where
        following : i + 1 ≡ suc i
        following = omega arith

        next : new ≤ tests + (i + 1) * cost
        next =
            let further : new ≤ tests + suc i * cost = omega (arith, known.most) in
            subst (λ k. new ≤ tests + k * cost) (sym following) further

        together : (before all : ℕ) → all ≡ before + n → now ≡ tests + before → new ≡ tests + all
        together before all more so_far = omega arith
