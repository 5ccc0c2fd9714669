use Rattle.plot_rack.specs.Racks.{boxes_of}
use Rattle.plot_rack.proofs.Texts.{begun_after}
use Rattle.test_texts.proofs.plotters.text_by.Goals as goal

pub text-requires-clause-begun : goal.text-requires-clause-begun
text-requires-clause-begun g c b here = begun_after (λ b. (goal.Plotter-dyn g (b.vtable, b.value)).plot b.value) _ _ 0 (boxes_of c.in_ok-rack.rack) (boxes_of c.draw.new.self) b c.in_ok-draw.ensures.ok here
