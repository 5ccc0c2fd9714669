use Rattle.std.proofs.Common.{◌≡◌, ◌+◌, ◌*◌, ◌≤◌, take}
use Rattle.solid_mesh.specs.Solids.{solid_part}
use Rattle.out_grid.specs.inner.Triangles.{box_sizes}
use Rattle.out_grid.proofs.halving.are_crowded.Given as goal

-- the boxes of the triangles so far
abbrev pub invariant-loop-tri : goal.invariant-loop-tri
invariant-loop-tri l = record {
  met : l.met ≡ box_sizes l.columns l.cells (take l.tri (solid_part l.solid).triangles);
  small : l.met ≤ 65536 * l.tri;
  counted : l.meter.steps ≡ l.fn.meter.steps + l.tri;
}
