use Rattle.std.proofs.Common.{◌≡◌}
use Rattle.lattice.specs.Cuts.{plane_of}
use Rattle.geometry.specs.Parts.{Edge}
use Rattle.geometry.specs.Cuts.{FaceHidesInCut}
use Rattle.solid_mesh.specs.Solids.{solid_part}
use Rattle.span_slow.specs.inner.CutHidden.{AreWhereBeyond}
use Rattle.span_slow.proofs.Numbered.{HoldsBelow}
use Rattle.span_slow.proofs.cut_faces.hidden_by_faces.Given as goal

abbrev pub invariant-loop-triangle : goal.invariant-loop-triangle
invariant-loop-triangle l =
    (e : Edge (solid_part l.solid)) → e.a ≡ l.edge.seen.a → e.b ≡ l.edge.seen.b → AreWhereBeyond (plane_of l.edge.cut) e (HoldsBelow {s = solid_part l.solid} (FaceHidesInCut (plane_of l.edge.cut)) l.triangle) l.hidden.items
