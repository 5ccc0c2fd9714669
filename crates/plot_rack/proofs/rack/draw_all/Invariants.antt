use Rattle.std.proofs.Common.{◌≡◌, take, drop}
use Rattle.plot_rack.specs.Plotters.{AreDrawn}
use Rattle.plot_rack.proofs.rack.draw_all.Given as goal

-- the plotters so far have drawn it, and the others are as they were
abbrev pub invariant-loop-plotter : goal.invariant-loop-plotter
invariant-loop-plotter g l =
    record {
      done : AreDrawn (λ b. (goal.Plotter-dyn g (b.vtable, b.value)).plot b.value) (l.page.width, l.page.height) l.strokes (take l.plotter-index l.fn.boxes) (take l.plotter-index l.boxes);
      rest : drop l.plotter-index l.boxes ≡ drop l.plotter-index l.fn.boxes;
    }
