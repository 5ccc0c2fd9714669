use Rattle.std.proofs.Common.{◌<◌, ◌≤◌, List, length, refl, sym, subst, arith}
use Rattle.lattice.specs.Points.{of_dir}
use Rattle.solid_mesh.specs.Solids.{solid_part}
use Rattle.exact_frac.specs.declared.Frac.{Frac}
use Rattle.intervals.specs.declared.interval.Interval.{Interval}
use Rattle.span_slow.specs.inner.Hidden.{AreWhere}
use Rattle.span_slow.proofs.Numbered.{HidesBelow, face_numbered, below_none, below_next, below_all}
use Rattle.span_slow.proofs.faces.hidden_intervals.Goals as goal

pub loop-triangle-init : goal.loop-triangle-init
loop-triangle-init c e at_a at_b =
    let d = of_dir c.args.seen.now.d in
    subst (λ (xs : List (Interval Frac)). AreWhere d e (HidesBelow d (solid_part c.args.solid.now) 0) xs) (sym c.new-hidden.ensures.items) (below_none d e)

pub loop-triangle-preserved : goal.loop-triangle-preserved
loop-triangle-preserved c e at_a at_b =
    let within : c.loop-triangle.triangle < length (solid_part c.args.solid.now).triangles = omega (arith, c.loop-triangle-test.true, c.triangles-triangle-end.ensures.count) in
    let f = face_numbered c.args.solid.now c.loop-triangle.triangle within in
    below_next (of_dir c.args.seen.now.d) e c.loop-triangle.triangle f refl c.loop-triangle.hidden.items c.add_face.new.hidden.items (c.loop-triangle.invariant e at_a at_b) (c.in_ok-add_face.ensures e at_a at_b f refl)

pub returns : goal.returns
returns c e at_a at_b =
    let all : length (solid_part c.args.solid.now).triangles ≤ c.loop-triangle.triangle = omega (arith, c.loop-triangle-test.false, c.triangles-triangle-end.ensures.count) in
    below_all (of_dir c.args.seen.now.d) e c.loop-triangle.triangle all c.loop-triangle.hidden.items (c.loop-triangle.invariant e at_a at_b)
