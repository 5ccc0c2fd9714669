use Rattle.plot_rack.specs.Racks.{boxes_of}
use Rattle.draw_core.proofs.MadeFiles.{outputs_next}
use Rattle.draw_core.proofs.made.outputs_of.Goals as goal

pub loop-number-preserved : goal.loop-number-preserved
loop-number-preserved g c =
    outputs_next (λ b. (goal.Plotter-dyn g (b.vtable, b.value)).plot b.value) c.args.out c.args.text.items (boxes_of c.args.rack.now) c.loop-number.number c.in_ok-plot_output.field-0
    c.loop-number.outputs.items c.push-in-loop-number.new.self.items c.loop-number.invariant c.in_ok-plot_output.ensures.place
    (rw c.as_str-in-loop-number.ensures.same at c.in_ok-plot_output.ensures.name) c.in_ok-plot_output.ensures.bytes c.in_ok-push-2.ensures.items
