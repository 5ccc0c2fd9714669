use Rattle.std.proofs.Common.{◌≡◌, None, take}
use Rattle.plot_rack.specs.Choices.{first_with}
use Rattle.plot_rack.proofs.rack.place_of.Given as goal

-- no plotter so far has the suffix
abbrev pub invariant-loop-i : goal.invariant-loop-i
invariant-loop-i g l = first_with (λ b. ((goal.Plotter-dyn g (b.vtable, b.value)).plot b.value).suffix) (take l.i l.boxes) l.suffix ≡ None
