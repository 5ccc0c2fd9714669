use Rattle.std.proofs.Common.{List, map, sym, subst}
use Rattle.lattice.specs.Creases.{fraction_of}
use Rattle.lattice.specs.Cuts.{plane_of}
use Rattle.lattice.specs.Points.{of_dir}
use Rattle.span_count.specs.declared.span.EdgeSpans.{EdgeSpans}
use Rattle.view_lines.specs.Counts.{AreCountsAlong}
use Rattle.view_lines.proofs.RightViews.{right_plain}
use Rattle.view_lines.proofs.plain_strips.plain_lines.Goals as goal

pub plain_pieces-requires : goal.plain_pieces-requires
plain_pieces-requires c =
    let Along : List EdgeSpans → Type 0 = AreCountsAlong (of_dir c.args.d.now) (fraction_of c.args.crease) c.args.solid.now in
    (fraction_of c.args.crease, subst Along (sym c.deref.ensures.value) c.in_ok-entries.ensures.right)

pub returns-clause-right : goal.returns-clause-right
returns-clause-right c =
    let d = of_dir c.args.d.now in
    let fraction = fraction_of c.args.crease in
    let Along : List EdgeSpans → Type 0 = AreCountsAlong d fraction c.args.solid.now in
    let (traces, are, merged) = c.in_ok-pieces.ensures in
    right_plain d fraction c.args.solid.now (map plane_of c.args.cuts.now) c.deref.result.now traces c.in_ok-pieces.pieces.items (subst Along (sym c.deref.ensures.value) c.in_ok-entries.ensures.right) are merged

pub returns-clause-order : goal.returns-clause-order
returns-clause-order c = let (traces, are, (of_edges, told, merged)) = c.in_ok-pieces.ensures in merged.order

pub returns-clause-counted : goal.returns-clause-counted
returns-clause-counted c = (c.in_ok-picked.picked, c.in_ok-picked.ensures, c.in_ok-entries.ensures.counted)
