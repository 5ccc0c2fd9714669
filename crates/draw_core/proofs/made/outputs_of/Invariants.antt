use Rattle.std.proofs.Common.{take}
use Rattle.plot_rack.specs.Racks.{boxes_of}
use Rattle.draw_core.specs.inner.Made.{AreOutputs}
use Rattle.draw_core.proofs.made.outputs_of.Given as goal

-- the files of the plotters so far are made
abbrev pub invariant-loop-number : goal.invariant-loop-number
invariant-loop-number g l =
    AreOutputs (λ b. (goal.Plotter-dyn g (b.vtable, b.value)).plot b.value) l.fn.out l.fn.text.items (take l.number (boxes_of l.rack)) l.outputs.items
