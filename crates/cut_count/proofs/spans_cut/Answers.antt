use Rattle.std.proofs.Common.{◌≡◌, ◌≤◌, ◌+◌, ◌<◌, ◌*◌, ℕ, List, Contains, length, get_or, refl, sym, subst, ap, arith, lt_of_le_of_lt}
use Rattle.std.specs.List.{AllZip}
use Rattle.std.proofs.lemmas.List.{take_all}
use Rattle.std.proofs.lemmas.List.Elements.{Contains-get_or}
use Rattle.lattice.specs.Cuts.{plane_of}
use Rattle.solid_mesh.specs.Solids.{solid_part, edge_halves}
use Rattle.cut_count.specs.CutSpans.{IsCutEntry}
use Rattle.cut_count.specs.Tests.{IsEdgeTests}
use Rattle.cut_count.proofs.CutEdges.{not_end_on, edge_within, few_tests, listed_in_cut, entries_none, entries_more, one_more, stopped_within, all_within}
use Rattle.cut_count.proofs.spans_cut.Goals as goal

-- there is one more drawn edge
within : (xs ys : List ℕ) (i : ℕ) → xs ≡ ys → i < length xs → i < length ys
within xs ys i e h = subst (λ (zs : List ℕ). i < length zs) e h

there : (xs ys : List ℕ) (i : ℕ) → xs ≡ ys → i < length xs → Contains ys (get_or xs i 0)
there xs ys i e h = subst (λ (zs : List ℕ). Contains zs (get_or xs i 0)) e (Contains-get_or xs i 0 h)

pub loop-edge-init : goal.loop-edge-init
loop-edge-init g c = entries_none _ _ _ _ _ _ _ c.new-entries.result.items c.new-entries.ensures.items

pub edge_spans-requires-clause-in_range : goal.edge_spans-requires-clause-in_range
edge_spans-requires-clause-in_range g c =
    edge_within c.args.solid.now (plane_of c.args.section.now.cut) c.args.meter.now.tests c.args.picked.now c.requires.picked (g.F.Finder.list_along c.args.finder.now) (g.F.Finder.list_over c.args.finder.now) _ c.requires.finder _
    (there c.deref-edge-items.result.now c.args.picked.now.drawn.items c.loop-edge.edge-index c.deref-edge-items.ensures.value c.loop-edge-test.true)

pub edge_spans-requires-clause-seen : goal.edge_spans-requires-clause-seen
edge_spans-requires-clause-seen g c =
    not_end_on c.args.solid.now (plane_of c.args.section.now.cut) c.args.meter.now.tests c.args.picked.now c.requires.picked (g.F.Finder.list_along c.args.finder.now) (g.F.Finder.list_over c.args.finder.now) _ c.requires.finder _
    (there c.deref-edge-items.result.now c.args.picked.now.drawn.items c.loop-edge.edge-index c.deref-edge-items.ensures.value c.loop-edge-test.true)

pub edge_spans-requires-clause-near : goal.edge_spans-requires-clause-near
edge_spans-requires-clause-near g c = c.requires.finder.covering

pub edge_spans-requires-clause-listed : goal.edge_spans-requires-clause-listed
edge_spans-requires-clause-listed g c =
    listed_in_cut c.args.solid.now (plane_of c.args.section.now.cut) c.args.meter.now.tests c.args.picked.now c.requires.picked (g.F.Finder.list_along c.args.finder.now) (g.F.Finder.list_over c.args.finder.now) _ c.requires.finder _
    (there c.deref-edge-items.result.now c.args.picked.now.drawn.items c.loop-edge.edge-index c.deref-edge-items.ensures.value c.loop-edge-test.true)

pub edge_spans-requires-clause-room : goal.edge_spans-requires-clause-room
edge_spans-requires-clause-room g c =
    let drawn = c.args.picked.now.drawn.items in
    let items = c.deref-edge-items.result.now in
    let i = c.loop-edge.edge-index in
    let few = few_tests c.args.solid.now (plane_of c.args.section.now.cut) c.args.meter.now.tests c.args.picked.now c.requires.picked (g.F.Finder.list_along c.args.finder.now) (g.F.Finder.list_over c.args.finder.now) _ c.requires.finder _ (there items drawn i c.deref-edge-items.ensures.value c.loop-edge-test.true) (length c.args.section.now.segments.items) in
    lt_of_le_of_lt (one_more _ _ _ _ _ _ _ _ _ _ c.loop-edge.invariant (within items drawn i c.deref-edge-items.ensures.value c.loop-edge-test.true) _ few) (c.requires.room _ refl)

pub returns-in_err-spans-clause-tested : goal.returns-in_err-spans-clause-tested
returns-in_err-spans-clause-tested g c bound is =
    let drawn = c.args.picked.now.drawn.items in
    let items = c.deref-edge-items.result.now in
    let i = c.loop-edge.edge-index in
    let few = few_tests c.args.solid.now (plane_of c.args.section.now.cut) c.args.meter.now.tests c.args.picked.now c.requires.picked (g.F.Finder.list_along c.args.finder.now) (g.F.Finder.list_over c.args.finder.now) _ c.requires.finder _ (there items drawn i c.deref-edge-items.ensures.value c.loop-edge-test.true) (length c.args.section.now.segments.items) in
    stopped_within _ _ _ _ _ _ _ _ _ _ c.loop-edge.invariant (within items drawn i c.deref-edge-items.ensures.value c.loop-edge-test.true) _ c.edge_spans.new.meter.tests bound few
    c.edge_spans.ensures.tested.0 c.edge_spans.ensures.tested.1 is

pub returns-in_err-push-clause-tested : goal.returns-in_err-push-clause-tested
returns-in_err-push-clause-tested g c bound is =
    let drawn = c.args.picked.now.drawn.items in
    let items = c.deref-edge-items.result.now in
    let i = c.loop-edge.edge-index in
    let few = few_tests c.args.solid.now (plane_of c.args.section.now.cut) c.args.meter.now.tests c.args.picked.now c.requires.picked (g.F.Finder.list_along c.args.finder.now) (g.F.Finder.list_over c.args.finder.now) _ c.requires.finder _ (there items drawn i c.deref-edge-items.ensures.value c.loop-edge-test.true) (length c.args.section.now.segments.items) in
    stopped_within _ _ _ _ _ _ _ _ _ _ c.loop-edge.invariant (within items drawn i c.deref-edge-items.ensures.value c.loop-edge-test.true) _ c.edge_spans.new.meter.tests bound few
    c.edge_spans.ensures.tested.0 c.edge_spans.ensures.tested.1 is

pub loop-edge-preserved : goal.loop-edge-preserved
loop-edge-preserved g c =
    let drawn = c.args.picked.now.drawn.items in
    let items = c.deref-edge-items.result.now in
    let i = c.loop-edge.edge-index in
    let few = few_tests c.args.solid.now (plane_of c.args.section.now.cut) c.args.meter.now.tests c.args.picked.now c.requires.picked (g.F.Finder.list_along c.args.finder.now) (g.F.Finder.list_over c.args.finder.now) _ c.requires.finder _ (there items drawn i c.deref-edge-items.ensures.value c.loop-edge-test.true) (length c.args.section.now.segments.items) in
    entries_more _ _ _ _ _ _ _ _ _ _ c.loop-edge.invariant (within items drawn i c.deref-edge-items.ensures.value c.loop-edge-test.true) (get_or items i 0) (ap (λ (xs : List ℕ). get_or xs i 0) c.deref-edge-items.ensures.value)
    (record { edge = get_or items i 0; spans = c.in_ok-spans.spans }) refl c.in_ok-spans.ensures.spans c.push.new.self.items c.in_ok-push.ensures.items c.edge_spans.new.meter.tests _ few
    c.edge_spans.ensures.tested.0 c.edge_spans.ensures.tested.1 c.in_ok-spans.ensures.all_tested.0 c.in_ok-spans.ensures.all_tested.1 c.in_ok-spans.ensures.all_tested.2

pub returns-clause-entries : goal.returns-clause-entries
returns-clause-entries g c =
    let drawn = c.args.picked.now.drawn.items in
    let i = c.loop-edge.edge-index in
    let past : length drawn ≤ i = omega (arith, ap (length {A = ℕ}) c.deref-edge-items.ensures.value, c.loop-edge-test.false) in
    subst (λ (xs : List ℕ). AllZip (IsCutEntry (plane_of c.args.section.now.cut) (solid_part c.args.solid.now) (edge_halves c.args.solid.now)) xs c.loop-edge.entries.items) (take_all i drawn past) c.loop-edge.invariant.entered

pub returns-clause-tested : goal.returns-clause-tested
returns-clause-tested g c bound is =
    let s = solid_part c.args.solid.now in
    let drawn = c.args.picked.now.drawn.items in
    let takes = IsEdgeTests (plane_of c.args.section.now.cut) s (edge_halves c.args.solid.now) (g.F.Finder.list_along c.args.finder.now) (length c.args.section.now.segments.items) (g.F.Finder.is_near c.args.finder.now) in
    let cost = length s.triangles + length c.args.picked.now.outlines.items + 2 * length c.args.section.now.segments.items in
    let i = c.loop-edge.edge-index in
    let up_to : i ≤ length drawn = omega (arith, ap (length {A = ℕ}) c.deref-edge-items.ensures.value, c.loop-edge.auto.edge-index-end) in
    let all = all_within (plane_of c.args.section.now.cut) s (edge_halves c.args.solid.now) drawn takes cost c.args.meter.now.tests i c.loop-edge.meter.tests c.loop-edge.entries.items c.loop-edge.invariant up_to in
    (all.0, subst (λ n. c.loop-edge.meter.tests ≤ c.args.meter.now.tests + n) (sym is) all.1)

pub returns-clause-all_tested : goal.returns-clause-all_tested
returns-clause-all_tested g c =
    let s = solid_part c.args.solid.now in
    let takes = IsEdgeTests (plane_of c.args.section.now.cut) s (edge_halves c.args.solid.now) (g.F.Finder.list_along c.args.finder.now) (length c.args.section.now.segments.items) (g.F.Finder.is_near c.args.finder.now) in
    let drawn = c.args.picked.now.drawn.items in
    let i = c.loop-edge.edge-index in
    let past : length drawn ≤ i = omega (arith, ap (length {A = ℕ}) c.deref-edge-items.ensures.value, c.loop-edge-test.false) in
    (c.loop-edge.invariant.counts, subst (λ (xs : List ℕ). AllZip takes xs c.loop-edge.invariant.counts) (take_all i drawn past) c.loop-edge.invariant.counted, c.loop-edge.invariant.all)
