use Rattle.std.proofs.Common.{List, [], ◌++◌, map, sym, subst, ap, ◌∙◌, append-nil}
use Rattle.std.proofs.lemmas.List.{append_assoc, take_all}
use Rattle.lattice.specs.declared.cuts.Cut.{Cut}
use Rattle.lattice.specs.declared.pieces.Strip.{Strip}
use Rattle.lattice.specs.Cuts.{plane_of}
use Rattle.lattice.specs.Points.{of_dir}
use Rattle.solid_mesh.specs.Solids.{solid_part}
use Rattle.drawn_strips.specs.Traces.{AreTraceStrips}
use Rattle.drawn_strips.proofs.TraceLists.{no_traces, next_trace}
use Rattle.drawn_strips.proofs.trace_strips.add_traces.Goals as goal

pub loop-cut-init : goal.loop-cut-init
loop-cut-init c = ([], sym (append-nil c.args.strips.now.items), no_traces (of_dir c.args.d.now) (solid_part c.args.solid.now))

pub loop-cut-preserved : goal.loop-cut-preserved
loop-cut-preserved c =
    let (here, added, are) = c.loop-cut.invariant in
    let (more, appended, is) = c.in_ok-add_trace.ensures in (
      here ++ more,
      ◌∙◌ {A = List Strip} appended (◌∙◌ {A = List Strip} (ap (λ (ys : List Strip). ys ++ more) added) (append_assoc c.args.strips.now.items here more)),
      next_trace (of_dir c.args.d.now) (solid_part c.args.solid.now) c.args.cuts.now c.loop-cut.cut-index c.cut-item.result here more c.loop-cut-test.true (sym c.cut-item.is) are is,
    )

pub returns : goal.returns
returns c =
    let (here, added, are) = c.loop-cut.invariant in
    (here, added, subst (λ (xs : List Cut). AreTraceStrips (of_dir c.args.d.now) (solid_part c.args.solid.now) (map plane_of xs) here) (take_all c.loop-cut.cut-index c.args.cuts.now c.loop-cut-test.false) are)
