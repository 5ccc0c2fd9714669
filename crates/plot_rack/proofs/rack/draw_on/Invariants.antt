use Rattle.std.proofs.Common.{◌≡◌, take}
use Rattle.plot_rack.specs.Plotters.{drawn}
use Rattle.plot_rack.proofs.rack.draw_on.Given as goal

-- the strokes so far stand on the page
abbrev pub invariant-loop-stroke : goal.invariant-loop-stroke
invariant-loop-stroke g l =
    (goal.Plotter-dyn g (l.plotter.vtable, l.plotter.value)).plot l.plotter.value
    ≡ drawn (l.page.width, l.page.height) (take l.stroke-index l.strokes) ((goal.Plotter-dyn g (l.fn.plotter.vtable, l.fn.plotter.value)).plot l.fn.plotter.value)
