use Rattle.std.proofs.Common.{◌≡◌, ◌≢◌, ◌<◌, ℕ, List, Some, take}
use Rattle.std.specs.Prelude.{slice_get}
use Rattle.plot_rack.specs.Choices.{first_with, AreChosen}
use Rattle.plot_rack.proofs.rack.Rack.choose.Given as goal

-- the names so far are chosen, and for each other name the first plotter is still there
abbrev pub invariant-loop-i : goal.invariant-loop-i
invariant-loop-i g l =
    record {
      done : AreChosen (λ b. ((goal.Plotter-dyn g (b.vtable, b.value)).plot b.value).suffix) l.fn.boxes.items (take l.i l.names) l.chosen.items;
      rest : (name : List ℕ) → ((k : ℕ) (other : List ℕ) → k < l.i → slice_get l.names k ≡ Some other → name ≢ other)
          → first_with (λ b. ((goal.Plotter-dyn g (b.vtable, b.value)).plot b.value).suffix) l.boxes.items name
          ≡ first_with (λ b. ((goal.Plotter-dyn g (b.vtable, b.value)).plot b.value).suffix) l.fn.boxes.items name;
    }
