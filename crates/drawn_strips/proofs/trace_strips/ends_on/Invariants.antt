use Rattle.solid_mesh.specs.Solids.{solid_part}
use Rattle.drawn_strips.proofs.TraceAxes.{IsFirstSoFar, IsLastSoFar}
use Rattle.drawn_strips.proofs.trace_strips.ends_on.Given as goal

-- they are the first and the last of the corners so far
abbrev pub invariant-loop-i : goal.invariant-loop-i
invariant-loop-i l = record {
  first : IsFirstSoFar l.axis (solid_part l.solid).corners l.i l.first;
  last : IsLastSoFar l.axis (solid_part l.solid).corners l.i l.last;
}
