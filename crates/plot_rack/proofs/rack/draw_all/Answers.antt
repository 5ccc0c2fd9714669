use Rattle.std.proofs.Common.{rules}
use Rattle.plot_rack.proofs.Drawings.{drawn_more, drawn_in_part, on_err}
use Rattle.plot_rack.proofs.rack.draw_all.Goals as goal

pub loop-plotter-preserved : goal.loop-plotter-preserved
loop-plotter-preserved g c =
    let more = drawn_more _ _ _ c.loop-plotter.plotter-index c.args.boxes.now c.loop-plotter.boxes c.plotter-item.result c.draw_on.new.plotter c.loop-plotter.auto.boxes (search rules)
    c.loop-plotter.invariant.done c.loop-plotter.invariant.rest c.plotter-item.is c.in_ok-draw_on.ensures.ok in
    record { done = more.0; rest = more.1 }

pub returns-in_err-draw_on-clause-err : goal.returns-in_err-draw_on-clause-err
returns-in_err-draw_on-clause-err g c =
    on_err c.from_residual.result
    (drawn_in_part _ _ _ c.loop-plotter.plotter-index c.args.boxes.now c.loop-plotter.boxes c.plotter-item.result c.draw_on.new.plotter c.loop-plotter.auto.boxes (search rules)
    c.loop-plotter.invariant.done c.loop-plotter.invariant.rest c.plotter-item.is c.in_err-draw_on.ensures.err)
