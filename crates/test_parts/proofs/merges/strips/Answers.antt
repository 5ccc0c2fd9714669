use Rattle.std.proofs.Common.{sym, subst}
use Rattle.std.proofs.lemmas.List.Elements.{All-push}
use Rattle.lattice.specs.declared.pieces.Strip.{Strip}
use Rattle.lattice.specs.Lines.{AreStripEnds}
use Rattle.lattice.specs.Points.{of_dir}
use Rattle.line_merge.specs.Merging.{AreStrips}
use Rattle.test_parts.proofs.merges.strips.Goals as goal

pub loop-u-preserved : goal.loop-u-preserved
loop-u-preserved g c =
    let d = of_dir c.args.d.now in
    subst (AreStrips d) (sym c.in_ok-push.ensures.items)
    (All-push (λ (x : Strip). AreStripEnds d x.line x.a x.b) c.loop-u.strips.items c.in-Some.x c.loop-u.invariant c.in-Some.ensures)
