use Rattle.std.proofs.Common.{◌<◌, length, ap, arith}
use Rattle.lattice.specs.Cuts.{plane_of}
use Rattle.solid_mesh.specs.Solids.{solid_part}
use Rattle.cut_plane.specs.inner.Walks.{unmarked}
use Rattle.cut_plane.proofs.Following.{next_crossed, crossed_within}
use Rattle.cut_plane.proofs.Lists.{unmarked_set}
use Rattle.cut_plane.proofs.Rounds.{walk_starts, walk_goes_on, walk_free, walk_ends}
use Rattle.cut_plane.proofs.loops.go_round.Goals as goal

pub loop-tri-init : goal.loop-tri-init
loop-tri-init c =
    let plane = plane_of c.args.cut.now in
    let s = solid_part c.args.solid.now in
    let within : c.args.start < length c.args.marks.now = omega (arith, crossed_within plane s c.args.start c.requires.crossed, c.requires.for_each) in
    walk_starts plane s c.args.start c.args.marks.now c.args.segments.now.items c.step.new.marks c.step.new.segments.items c.in_ok-tri.tri within c.requires.free c.requires.following c.in_ok-tri.ensures

pub step-requires-in-loop-tri-clause-crossed : goal.step-requires-in-loop-tri-clause-crossed
step-requires-in-loop-tri-clause-crossed c =
    next_crossed (plane_of c.args.cut.now) (solid_part c.args.solid.now) c.loop-tri.invariant.last c.loop-tri.tri c.loop-tri.invariant.follows

pub loop-tri-smaller : goal.loop-tri-smaller
loop-tri-smaller c =
    let plane = plane_of c.args.cut.now in
    let solid = c.args.solid.now in
    let s = solid_part solid in
    let walk = c.loop-tri.invariant in
    let crossed = next_crossed plane s walk.last c.loop-tri.tri walk.follows in
    let within : c.loop-tri.tri < length c.loop-tri.marks = omega (arith, crossed_within plane s c.loop-tri.tri crossed, c.requires.for_each, walk.long) in
    let free = walk_free plane s c.args.start c.args.marks.now c.args.segments.now.items solid.once c.loop-tri.marks c.loop-tri.segments.items c.loop-tri.tri walk c.loop-tri-test.true in
    let less = unmarked_set c.loop-tri.marks c.loop-tri.tri within free in
    let same = ap unmarked c.in_ok-tri-2.ensures.marked in
    omega (arith, less, same)

pub loop-tri-preserved : goal.loop-tri-preserved
loop-tri-preserved c =
    let plane = plane_of c.args.cut.now in
    let solid = c.args.solid.now in
    let s = solid_part solid in
    let walk = c.loop-tri.invariant in
    let crossed = next_crossed plane s walk.last c.loop-tri.tri walk.follows in
    let within : c.loop-tri.tri < length c.loop-tri.marks = omega (arith, crossed_within plane s c.loop-tri.tri crossed, c.requires.for_each, walk.long) in
    walk_goes_on plane s c.args.start c.args.marks.now c.args.segments.now.items solid.once c.loop-tri.marks c.loop-tri.segments.items c.loop-tri.tri
    c.step-in-loop-tri.new.marks c.step-in-loop-tri.new.segments.items c.in_ok-tri-2.tri within walk c.loop-tri-test.true c.in_ok-tri-2.ensures

pub returns : goal.returns
returns c =
    walk_ends (plane_of c.args.cut.now) (solid_part c.args.solid.now) c.args.start c.args.marks.now c.args.segments.now.items c.loop-tri.marks c.loop-tri.segments.items c.loop-tri.tri
    c.loop-tri.invariant c.loop-tri-test.false
