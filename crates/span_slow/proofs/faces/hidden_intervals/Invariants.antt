use Rattle.std.proofs.Common.{◌≡◌}
use Rattle.lattice.specs.Points.{of_dir}
use Rattle.geometry.specs.Parts.{Edge}
use Rattle.solid_mesh.specs.Solids.{solid_part}
use Rattle.span_slow.specs.inner.Hidden.{AreWhere}
use Rattle.span_slow.proofs.Numbered.{HidesBelow}
use Rattle.span_slow.proofs.faces.hidden_intervals.Given as goal

abbrev pub invariant-loop-triangle : goal.invariant-loop-triangle
invariant-loop-triangle l =
    (e : Edge (solid_part l.solid)) → e.a ≡ l.seen.a → e.b ≡ l.seen.b → AreWhere (of_dir l.seen.d) e (HidesBelow (of_dir l.seen.d) (solid_part l.solid) l.triangle) l.hidden.items
