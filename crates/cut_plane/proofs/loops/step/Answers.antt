use Rattle.std.proofs.Common.{ℕ, refl, sym, subst}
use Rattle.lattice.specs.Cuts.{plane_of}
use Rattle.solid_mesh.specs.Solids.{solid_part}
use Rattle.cut_plane.specs.inner.Borders.{LeadsOver}
use Rattle.cut_plane.specs.inner.Walks.{Follows}
use Rattle.cut_plane.proofs.FaceCorners.{crossed_apart, returns_at, segment_is, follows_across}
use Rattle.cut_plane.proofs.loops.step.Goals as goal

pub unreachable-requires : goal.unreachable-requires
unreachable-requires c = crossed_apart (plane_of c.args.cut.now) c.args.tri c.corners_of-corners.result c.corners_of-corners.ensures c.requires.crossed (c.in-None.ensures.none refl)

pub returns : goal.returns
returns c =
    let plane = plane_of c.args.cut.now in
    let solid = c.args.solid.now in
    let s = solid_part solid in
    let x = c.corners_of-corners.result in
    let at = c.corners_of-corners.ensures in
    let sides = c.in-Some.sides in
    let h = c.in-Some.ensures.some in
    let next = c.across_side.result in
    let leads = subst (λ (i : ℕ). LeadsOver s i sides.second next) (sym at.number) c.across_side.ensures in
    let follows = follows_across plane solid.in_range at.face sides.second next h.second_side (returns_at plane at.face x at.corners sides.first sides.second h) leads in
    record {
      segment = c.segment_of.result;
      right = segment_is plane c.args.tri x sides.first sides.second c.segment_of.result at h c.segment_of.ensures;
      at = c.segment_of.ensures.number;
      grown = c.in_ok-push-in-Some.ensures.items;
      marked = refl;
      follows = subst (λ (i : ℕ). Follows plane s i next) at.number follows;
    }
