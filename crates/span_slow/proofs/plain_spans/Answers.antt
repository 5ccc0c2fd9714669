use Rattle.std.proofs.Common.{sym, subst, ◌∙◌}
use Rattle.lattice.specs.Triple.{Triple}
use Rattle.lattice.specs.Points.{of_dir}
use Rattle.geometry.specs.Views.{IsHidden}
use Rattle.solid_mesh.specs.Solids.{solid_part}
use Rattle.span_slow.specs.inner.Hidden.{AreWhere}
use Rattle.span_slow.proofs.Numbered.{if_ok}
use Rattle.span_slow.proofs.Told.{read_ends, spans_are}
use Rattle.span_slow.proofs.plain_spans.Goals as goal

pub spans_of-requires : goal.spans_of-requires
spans_of-requires c =
    let s = solid_part c.args.solid.now in
    let there = c.edge-numbers.ensures.edge in
    let (p, q) = read_ends s there.edge c.edge-numbers.result c.corner.result c.corner-2.result there.numbers c.corner.ensures c.corner-2.ensures in
    (c.in_ok-hidden.ensures there.edge (p ∙ sym c.new-seen.ensures.a) (q ∙ sym c.new-seen.ensures.b)).stretches

pub returns : goal.returns
returns c e numbered =
    let s = solid_part c.args.solid.now in
    let (p, q) = read_ends s e c.edge-numbers.result c.corner.result c.corner-2.result (c.edge-numbers.ensures.each e numbered) c.corner.ensures c.corner-2.ensures in
    let hidden = c.in_ok-hidden.ensures e (p ∙ sym c.new-seen.ensures.a) (q ∙ sym c.new-seen.ensures.b) in
    let of_seen : AreWhere (of_dir c.args.d.now) e (IsHidden (of_dir c.args.d.now) s) c.in_ok-hidden.hidden.items =
    subst (λ (d : Triple). AreWhere d e (IsHidden d s) c.in_ok-hidden.hidden.items) c.new-seen.ensures.d hidden in
    if_ok c.spans_of.result (λ spans right. spans_are (of_dir c.args.d.now) s e c.in_ok-hidden.hidden.items of_seen spans.items right) c.spans_of.ensures
