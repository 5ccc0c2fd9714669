use Rattle.std.proofs.Common.{◌∙◌, ap, sym}
use Rattle.lattice.specs.declared.points.Corner.{Corner}
use Rattle.lattice.specs.Points.{of_dir, of_spot, point_of}
use Rattle.lattice.specs.Cuts.{plane_of, toward_of}
use Rattle.solid_mesh.specs.Solids.{solid_part}
use Rattle.solid_mesh.proofs.Facts.{closed}
use Rattle.cut_plane.proofs.Lists.{not_true}
use Rattle.cut_plane.specs.inner.Crossings.{line_value}
use Rattle.cut_plane.proofs.SegmentCrossings.{found_nowhere, found_there, found_beside}
use Rattle.cut_plane.proofs.places.crossing.Goals as goal

pub returns-in-None : goal.returns-in-None
returns-in-None c e numbered at_a at_b at =
    let plane = plane_of c.args.cut.now in
    let x = c.args.segment.now in
    found_nowhere plane (solid_part c.args.solid.now) (closed c.args.solid.now).none_flat x at e _ _
    (c.along.ensures.start ∙ ap (λ (k : Corner). line_value (toward_of plane) x.line (point_of k)) (sym at_a))
    (c.along.ensures.end ∙ ap (λ (k : Corner). line_value (toward_of plane) x.line (point_of k)) (sym at_b)) c.in-None.ensures.none

pub returns-then-is_seen_between : goal.returns-then-is_seen_between
returns-then-is_seen_between c e numbered at_a at_b at =
    let plane = plane_of c.args.cut.now in
    let x = c.args.segment.now in
    found_there plane (solid_part c.args.solid.now) (closed c.args.solid.now).none_flat x at e _ _
    (c.along.ensures.start ∙ ap (λ (k : Corner). line_value (toward_of plane) x.line (point_of k)) (sym at_a))
    (c.along.ensures.end ∙ ap (λ (k : Corner). line_value (toward_of plane) x.line (point_of k)) (sym at_b))
    c.in-Some.place c.in-Some.ensures.some.0 c.in-Some.ensures.some.1 (of_dir c.dir.result) c.dir.ensures (of_spot c.spot-spot.result) (c.spot-spot.ensures.at e numbered)
    (c.is_seen_between.ensures.0 c.if-is_seen_between.true)

pub returns : goal.returns
returns c e numbered at_a at_b at =
    let plane = plane_of c.args.cut.now in
    let x = c.args.segment.now in
    found_beside plane (solid_part c.args.solid.now) (closed c.args.solid.now).none_flat x at e _ _
    (c.along.ensures.start ∙ ap (λ (k : Corner). line_value (toward_of plane) x.line (point_of k)) (sym at_a))
    (c.along.ensures.end ∙ ap (λ (k : Corner). line_value (toward_of plane) x.line (point_of k)) (sym at_b))
    c.in-Some.place c.in-Some.ensures.some.0 c.in-Some.ensures.some.1 (of_dir c.dir.result) c.dir.ensures (of_spot c.spot-spot.result) (c.spot-spot.ensures.at e numbered)
    (λ between. not_true c.is_seen_between.result c.if-is_seen_between.false (c.is_seen_between.ensures.1 between))
