use Rattle.std.proofs.Common.{◌≡◌, List, ◌++◌, map, take}
use Rattle.lattice.specs.Cuts.{plane_of}
use Rattle.lattice.specs.Points.{of_dir}
use Rattle.lattice.specs.declared.pieces.Strip.{Strip}
use Rattle.solid_mesh.specs.Solids.{solid_part}
use Rattle.drawn_strips.specs.Traces.{AreTraceStrips}
use Rattle.drawn_strips.proofs.trace_strips.add_traces.Given as goal

-- the traces of the cuts so far came to the end
abbrev pub invariant-loop-cut : goal.invariant-loop-cut
invariant-loop-cut l =
    (here : List Strip) × (l.strips.items ≡ l.fn.strips.items ++ here)
    × AreTraceStrips (of_dir l.d) (solid_part l.solid) (map plane_of (take l.cut-index l.cuts)) here
