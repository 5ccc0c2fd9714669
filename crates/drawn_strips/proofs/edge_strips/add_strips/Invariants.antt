use Rattle.std.proofs.Common.{◌≡◌, List, ◌++◌, take}
use Rattle.std.specs.List.{AllZip}
use Rattle.lattice.specs.declared.pieces.Strip.{Strip}
use Rattle.lattice.specs.Points.{of_dir}
use Rattle.edge_pick.specs.Edges.{OfEdge}
use Rattle.drawn_strips.specs.Strips.{IsStripOf}
use Rattle.drawn_strips.proofs.edge_strips.add_strips.Given as goal

-- the strips of the spans so far came to the end
abbrev pub invariant-loop-span : goal.invariant-loop-span
invariant-loop-span l =
    (here : List Strip) × (l.strips.items ≡ l.fn.strips.items ++ here)
    × OfEdge l.solid l.edge (λ e. AllZip (IsStripOf (of_dir l.d) e) (take l.span-index l.spans) here)
