use Rattle.std.proofs.Common.{◌<◌, ◌≤◌, List, length, refl, sym, subst, arith}
use Rattle.lattice.specs.Cuts.{plane_of}
use Rattle.geometry.specs.Cuts.{FaceHidesInCut}
use Rattle.solid_mesh.specs.Solids.{solid_part}
use Rattle.exact_frac.specs.declared.Frac.{Frac}
use Rattle.intervals.specs.declared.interval.Interval.{Interval}
use Rattle.span_slow.specs.inner.CutHidden.{IsOrdinaryBeyond, AreWhereBeyond}
use Rattle.hiding_laws.proofs.CutCorners.{cut_read_corners}
use Rattle.span_slow.proofs.Numbered.{HoldsBelow, face_numbered, holds_none, holds_next, holds_all}
use Rattle.span_slow.proofs.cut_faces.hidden_by_faces.Goals as goal

pub loop-triangle-init : goal.loop-triangle-init
loop-triangle-init c e at_a at_b =
    let q = plane_of c.args.edge.now.cut in
    let s = solid_part c.args.solid.now in
    subst (λ (xs : List (Interval Frac)). AreWhereBeyond q e (HoldsBelow {s = s} (FaceHidesInCut q) 0) xs) (sym c.new-hidden.ensures.items) (holds_none (IsOrdinaryBeyond q s) e (FaceHidesInCut q))

pub loop-triangle-preserved : goal.loop-triangle-preserved
loop-triangle-preserved c e at_a at_b =
    let q = plane_of c.args.edge.now.cut in
    let s = solid_part c.args.solid.now in
    let within : c.loop-triangle.triangle < length (solid_part c.args.solid.now).triangles = omega (arith, c.loop-triangle-test.true, c.triangles-triangle-end.ensures.count) in
    let f = face_numbered c.args.solid.now c.loop-triangle.triangle within in
    holds_next (IsOrdinaryBeyond q s) e (FaceHidesInCut q) (λ f g p. cut_read_corners q f g p) c.loop-triangle.triangle f refl c.loop-triangle.hidden.items c.add_cut_face.new.hidden.items (c.loop-triangle.invariant e at_a at_b) (c.in_ok-add_cut_face.ensures e at_a at_b f refl)

pub returns : goal.returns
returns c e at_a at_b =
    let q = plane_of c.args.edge.now.cut in
    let s = solid_part c.args.solid.now in
    let all : length (solid_part c.args.solid.now).triangles ≤ c.loop-triangle.triangle = omega (arith, c.loop-triangle-test.false, c.triangles-triangle-end.ensures.count) in
    holds_all (IsOrdinaryBeyond q s) e (FaceHidesInCut q) c.loop-triangle.triangle all c.loop-triangle.hidden.items (c.loop-triangle.invariant e at_a at_b)
