use Rattle.std.proofs.Common.{◌≡◌, List, length, false, subst, ap, ◌∙◌, arith}
use Rattle.std.proofs.lemmas.List.Sorted.{length_permutation}
use Rattle.hiding_laws.specs.Sums.{total}
use Rattle.cross_find.specs.declared.meter.Crossing.{Crossing}
use Rattle.span_count.specs.Carries.{AreCarried}
use Rattle.span_count.proofs.Counted.{counts_over, counts_first, spans_carried, whole_edge}
use Rattle.span_count.proofs.Around.{counts_small}
use Rattle.span_count.proofs.along.along_edge.Goals as goal

pub change_over-change-requires : goal.change_over-change-requires
change_over-change-requires g c =
    let same : length c.deref.result.now ≡ length c.in_ok-crossings.crossings.items = ap length c.deref.ensures.value ∙ length_permutation c.in_ok-crossings.crossings.items c.in_ok-crossings-2.crossings.items c.in_ok-crossings-2.ensures.same in
    record { few = omega (arith, c.in_ok-crossings.ensures.few, c.in_ok-crossings.crossings.ok.0, c.requires.listed.few) }

pub carried-requires-clause-few : goal.carried-requires-clause-few
carried-requires-clause-few g c =
    let same : length c.deref-2.result.now ≡ length c.in_ok-crossings.crossings.items = ap length c.deref-2.ensures.value ∙ length_permutation c.in_ok-crossings.crossings.items c.in_ok-crossings-2.crossings.items c.in_ok-crossings-2.ensures.same in
    omega (arith, c.in_ok-crossings.ensures.few, c.in_ok-crossings.crossings.ok.0, c.requires.listed.few)

pub first_counts_by-first-requires-clause-small : goal.first_counts_by-first-requires-clause-small
first_counts_by-first-requires-clause-small g c =
    counts_small (g.S.Sight.sight c.args.sight.now) c.requires.seen c.args.end.edge c.requires.edge.in_range c.args.end.at_b c.args.counts c.requires.counts

pub far_counts_by-far-requires-clause-small : goal.far_counts_by-far-requires-clause-small
far_counts_by-far-requires-clause-small g c =
    counts_small (g.S.Sight.sight c.args.sight.now) c.requires.seen c.args.end.edge c.requires.edge.in_range c.args.end.at_b c.args.counts c.requires.counts

pub carried-requires-clause-small : goal.carried-requires-clause-small
carried-requires-clause-small g c =
    let x = g.S.Sight.sight c.args.sight.now in
    let list = g.F.Finder.list_along c.args.finder.now c.args.end.edge in
    counts_small x c.requires.seen c.args.end.edge c.requires.edge.in_range false c.first_counts_by-first.result
    (counts_first x c.requires.seen c.args.end.edge c.requires.edge list c.requires.listed c.in_ok-crossings.crossings.items c.in_ok-crossings-2.crossings.items c.in_ok-crossings.ensures.crossings c.in_ok-crossings-2.ensures.same
    c.args.end.at_b c.args.counts c.change_over-change.result c.requires.counts
    (c.change_over-change.ensures.left ∙ ap (total (λ (y : Crossing). y.left)) c.deref.ensures.value) (c.change_over-change.ensures.right ∙ ap (total (λ (y : Crossing). y.right)) c.deref.ensures.value)
    c.first_counts_by-first.result c.first_counts_by-first.ensures.left c.first_counts_by-first.ensures.right)

pub carried-requires-clause-some : goal.carried-requires-clause-some
carried-requires-clause-some g c = whole_edge c.start.result c.finish.result c.start.ensures.num c.finish.ensures.num

pub returns-clause-spans : goal.returns-clause-spans
returns-clause-spans g c e at =
    let x = g.S.Sight.sight c.args.sight.now in
    let list = g.F.Finder.list_along c.args.finder.now c.args.end.edge in
    spans_carried x c.requires.seen c.args.end.edge c.requires.edge list c.requires.listed c.in_ok-crossings.crossings.items c.in_ok-crossings-2.crossings.items c.in_ok-crossings.ensures.crossings c.in_ok-crossings-2.ensures.same
    c.args.end.at_b c.args.counts c.change_over-change.result c.requires.counts
    (c.change_over-change.ensures.left ∙ ap (total (λ (y : Crossing). y.left)) c.deref.ensures.value) (c.change_over-change.ensures.right ∙ ap (total (λ (y : Crossing). y.right)) c.deref.ensures.value)
    c.first_counts_by-first.result c.first_counts_by-first.ensures.left c.first_counts_by-first.ensures.right e at c.start.result c.finish.result c.start.ensures.num c.finish.ensures.num c.in_ok-spans.spans.items
    (subst (λ (xs : List Crossing). AreCarried c.start.result c.finish.result xs c.first_counts_by-first.result.left c.first_counts_by-first.result.right c.in_ok-spans.spans.items) c.deref-2.ensures.value c.in_ok-spans.ensures)

pub returns-clause-far : goal.returns-clause-far
returns-clause-far g c =
    let x = g.S.Sight.sight c.args.sight.now in
    let list = g.F.Finder.list_along c.args.finder.now c.args.end.edge in
    counts_over x c.requires.seen c.args.end.edge c.requires.edge list c.requires.listed c.in_ok-crossings.crossings.items c.in_ok-crossings-2.crossings.items c.in_ok-crossings.ensures.crossings c.in_ok-crossings-2.ensures.same
    c.args.end.at_b c.args.counts c.change_over-change.result c.requires.counts
    (c.change_over-change.ensures.left ∙ ap (total (λ (y : Crossing). y.left)) c.deref.ensures.value) (c.change_over-change.ensures.right ∙ ap (total (λ (y : Crossing). y.right)) c.deref.ensures.value)
    c.far_counts_by-far.result c.far_counts_by-far.ensures.left c.far_counts_by-far.ensures.right
