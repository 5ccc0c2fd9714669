-- The counts along the drawn edges of a view: the tests that they take, and what each entry tells of its edge.
use Rattle.std.proofs.Common.{◌≡◌, ◌+◌, ◌<◌, ◌≤◌, ◌^◌, ℕ, List, [], ◌∷◌, Contains, length, map, get_or, ap, refl, sym, subst, arith}
use Rattle.std.specs.Prelude.{All}
use Rattle.std.specs.List.{AllZip}
use Rattle.std.proofs.lemmas.List.Elements.{All-contains, Contains-get_or}
use Rattle.cross_find.specs.Sights.{SightState}
use Rattle.edge_pick.specs.Edges.{OfEdge}
use Rattle.edge_pick.specs.Picked.{IsPicked}
use Rattle.edge_pick.specs.declared.Picked.{Picked}
use Rattle.geometry.specs.Parts.{IsNumbered}
use Rattle.geometry.specs.Views.{IsEndOn, AreDrawnEdges}
use Rattle.lattice.specs.Triple.{Triple}
use Rattle.line_merge.proofs.Lists.{map_contains}
use Rattle.line_merge.proofs.Zips.{zip_right}
use Rattle.solid_mesh.proofs.Facts.{edge_there}
use Rattle.solid_mesh.specs.Solids.{solid_part, edge_halves}
use Rattle.solid_mesh.specs.declared.solid.Solid.{Solid}
use Rattle.span_count.specs.Bounds.{IsBound}
use Rattle.span_count.specs.CountSpans.{AreCountSpans}
use Rattle.span_count.specs.Entries.{IsEntry}
use Rattle.span_count.specs.Tests.{IsTested}
use Rattle.span_count.specs.declared.span.EdgeSpans.{EdgeSpans}
use Rattle.lattice.specs.Cuts.{Plane, toward_of}
use Rattle.lattice.specs.declared.pieces.Strip.{Strip}
use Rattle.cut_count.specs.CutSpans.{AreCutCountSpans, IsCutEntry}
use Rattle.view_lines.specs.Counts.{AreCountsAlong, AreCountsBeyond}
use Rattle.view_lines.specs.inner.Told.{AreTold}
use Rattle.view_lines.specs.inner.Chained.{AreChained}
use Rattle.drawn_strips.specs.Strips.{TellHidden, IsOffBorders, TellHiddenInCut, AreEdgeStrips}
use Rattle.view_lines.proofs.CountedSpans.{edge_chained, beyond_chained, told_spans, told_cut_spans}
use Rattle.drawn_strips.proofs.StripLists.{edges_weaker}

-- the solid in this direction, before any test
abbrev pub seen_from : Solid → Triple → SightState
seen_from solid d = record { part = solid_part solid; halves = edge_halves solid; direction = d; tests = 0 }

-- ---- how many tests
module _ (solid : Solid) (d : Triple) (picked : Picked) where
  -- a bound of what was picked, in what is seen
  abbrev pub IsBoundIn : SightState → ℕ → Type 0
  IsBoundIn x most = IsBound x.part x.halves picked most

  pub has_room : (x : SightState) → x ≡ seen_from solid d → (most : ℕ) × IsBoundIn (seen_from solid d) most × (most < 2 ^ 48) → (most : ℕ) × IsBoundIn x most × (x.tests + most < 2 ^ 64)
  has_room x is (most, bound, small) =
      subst (λ (y : SightState). (n : ℕ) × IsBoundIn y n × (y.tests + n < 2 ^ 64)) (sym is) (most, bound, wider most small)
    where
      wider : (n : ℕ) → n < 2 ^ 48 → 0 + n < 2 ^ 64
      wider n h = omega arith

  pub few_tests : (old new : SightState) → old ≡ seen_from solid d → ((most : ℕ) → IsBoundIn old most → IsTested most old new) → (most : ℕ) → IsBoundIn (seen_from solid d) most → new.tests ≤ most
  few_tests old new is tested most bound =
      let (n, at_most, made) = tested most (subst (λ (y : SightState). IsBoundIn y most) (sym is) bound) in
      below new.tests old.tests n most (ap (λ (x : SightState). x.tests) made) (ap (λ (x : SightState). x.tests) is) at_most
    where
      below : (a b n m : ℕ) → a ≡ b + n → b ≡ 0 → n ≤ m → a ≤ m
      below a b n m is none most = omega arith

-- ---- the entries of the drawn edges are the counts along them
same_edges : (R : ℕ → EdgeSpans → Type 0) → ((i : ℕ) (y : EdgeSpans) → R i y → y.edge ≡ i) → (numbers : List ℕ) (entries : List EdgeSpans) → AllZip R numbers entries → map (λ y. y.edge) entries ≡ numbers
same_edges R edge [] [] zip = refl
same_edges R edge [] (y ∷ ys) zip = absurd zip
same_edges R edge (i ∷ is) [] zip = absurd zip
same_edges R edge (i ∷ is) (y ∷ ys) (here, more) = λ k. edge i y here k ∷ same_edges R edge is ys more k

module _ (solid : Solid) (d : Triple) (fraction : ℕ) (picked : Picked) (are : IsPicked d fraction (solid_part solid) (edge_halves solid) picked) where
  drawn_entries : (entries : List EdgeSpans) → map (λ y. y.edge) entries ≡ picked.drawn.items → AreDrawnEdges d fraction (solid_part solid) (edge_halves solid) (map (λ y. y.edge) entries)
  drawn_entries entries same = subst (λ (ns : List ℕ). AreDrawnEdges d fraction (solid_part solid) (edge_halves solid) ns) (sym same) are.drawn

  pub counts_of_entries : (x : SightState) (entries : List EdgeSpans) → x ≡ seen_from solid d → AllZip (IsEntry x) picked.drawn.items entries → AreCountsAlong d fraction solid entries
  counts_of_entries x entries is zip =
      let seen = seen_from solid d in
      let numbers = picked.drawn.items in
      let zipped = subst (λ (y : SightState). AllZip (IsEntry y) numbers entries) is zip in
      record {
        edges = drawn_entries entries (same_edges (IsEntry seen) (λ i y here. here.edge) numbers entries zipped);
        spans = λ k z within.
            let y = get_or entries k z in
            let (i, listed, here) = zip_right (IsEntry seen) numbers entries zipped y (Contains-get_or entries k z within) in
            λ e n. here.spans e (subst (λ (j : ℕ). IsNumbered (edge_halves solid) j e) here.edge n);
      }

module _ (solid : Solid) (c : Plane) (fraction : ℕ) (picked : Picked) (are : IsPicked (toward_of c) fraction (solid_part solid) (edge_halves solid) picked) where
  abbrev IsOfCut : ℕ → EdgeSpans → Type 0
  IsOfCut = IsCutEntry c (solid_part solid) (edge_halves solid)

  pub counts_of_cut_entries : (entries : List EdgeSpans) → AllZip IsOfCut picked.drawn.items entries → AreCountsBeyond c fraction solid entries
  counts_of_cut_entries entries zip = record {
    edges = drawn_entries solid (toward_of c) fraction picked are entries (same_edges IsOfCut (λ i y here. here.edge) picked.drawn.items entries zip);
    spans = λ k z within.
        let y = get_or entries k z in
        let (i, listed, here) = zip_right IsOfCut picked.drawn.items entries zip y (Contains-get_or entries k z within) in
        λ e n. here.spans e (subst (λ (j : ℕ). IsNumbered (edge_halves solid) j e) here.edge n);
  }

-- ---- an entry's edge
module _ (d : Triple) (fraction : ℕ) (solid : Solid) (entries : List EdgeSpans) (drawn : AreDrawnEdges d fraction (solid_part solid) (edge_halves solid) (map (λ y. y.edge) entries))
    (x : EdgeSpans) (listed : Contains entries x) where
  in_edges : Contains (map (λ y. y.edge) entries) x.edge
  in_edges = map_contains (λ (y : EdgeSpans). y.edge) entries x listed

  pub edge_within : x.edge < length (edge_halves solid)
  edge_within = All-contains (λ i. i < length (edge_halves solid)) (map (λ y. y.edge) entries) x.edge drawn.within in_edges

  pub edge_seen : OfEdge solid x.edge (λ e. ¬ IsEndOn d e)
  edge_seen e n = ((drawn.exactly x.edge e n).0 in_edges).1

-- ---- the spans that the counts tell
module _ (d : Triple) (fraction : ℕ) (solid : Solid) (entries : List EdgeSpans) (are : AreCountsAlong d fraction solid entries) where
  pub along_chained : All (λ y. AreChained y.spans.items) entries
  along_chained k z within =
      let y = get_or entries k z in
      let listed = Contains-get_or entries k z within in
      let (e, n) = edge_there solid y.edge (edge_within d fraction solid entries are.edges y listed) in
      edge_chained y.spans.items (All-contains (λ y. OfEdge solid y.edge (λ e. AreCountSpans d e y.spans.items)) entries y are.spans listed e n).covers

  pub told_along : (strips : List Strip) → AreEdgeStrips d {s = solid_part solid} (AreTold entries (edge_halves solid)) (edge_halves solid) (map (λ y. y.edge) entries) strips
      → AreEdgeStrips d {s = solid_part solid} (TellHidden d) (edge_halves solid) (map (λ y. y.edge) entries) strips
  told_along = edges_weaker d (AreTold entries (edge_halves solid)) (TellHidden d) (edge_halves solid)
      (λ e spans told. told_spans d e told.entry.spans.items spans told.told
      (All-contains (λ y. OfEdge solid y.edge (λ e. AreCountSpans d e y.spans.items)) entries told.entry are.spans told.listed e told.numbered)) (map (λ y. y.edge) entries)

module _ (c : Plane) (fraction : ℕ) (solid : Solid) (entries : List EdgeSpans) (are : AreCountsBeyond c fraction solid entries) where
  pub beyond_cut_chained : All (λ y. AreChained y.spans.items) entries
  beyond_cut_chained k z within =
      let y = get_or entries k z in
      let listed = Contains-get_or entries k z within in
      let (e, n) = edge_there solid y.edge (edge_within (toward_of c) fraction solid entries are.edges y listed) in
      beyond_chained c e y.spans.items (All-contains (λ y. OfEdge solid y.edge (λ e. AreCutCountSpans c e y.spans.items)) entries y are.spans listed e n).covers

  pub told_beyond : (strips : List Strip) → AreEdgeStrips (toward_of c) {s = solid_part solid} (AreTold entries (edge_halves solid)) (edge_halves solid) (map (λ y. y.edge) entries) strips
      → AreEdgeStrips (toward_of c) {s = solid_part solid} (TellHiddenInCut c (IsOffBorders c (solid_part solid))) (edge_halves solid) (map (λ y. y.edge) entries) strips
  told_beyond = edges_weaker (toward_of c) (AreTold entries (edge_halves solid)) (TellHiddenInCut c (IsOffBorders c (solid_part solid))) (edge_halves solid)
      (λ e spans told. told_cut_spans c e told.entry.spans.items spans told.told
      (All-contains (λ y. OfEdge solid y.edge (λ e. AreCutCountSpans c e y.spans.items)) entries told.entry are.spans told.listed e told.numbered)) (map (λ y. y.edge) entries)
