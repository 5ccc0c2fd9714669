use Rattle.std.proofs.Common.{◌≡◌, length, sym, subst, arith}
use Rattle.geometry.specs.Parts.{part_of}
use Rattle.solid_mesh.proofs.Placing.{AreNumbered, none_placed, more_placed, all_placed}
use Rattle.solid_mesh.proofs.placed.place_triangles.Goals as goal

pub loop-tri-init : goal.loop-tri-init
loop-tri-init c = subst (AreNumbered (part_of c.args.soup.now) 0) (sym c.new-placed.ensures.items) (none_placed (part_of c.args.soup.now))

pub loop-tri-preserved : goal.loop-tri-preserved
loop-tri-preserved c =
    more_placed (part_of c.args.soup.now) c.loop-tri.tri c.loop-tri.placed.items c.push.new.self.items c.place.result
    c.loop-tri.invariant c.place.ensures.placed c.place.ensures.number c.in_ok-push.ensures.items

pub returns : goal.returns
returns c =
    let all : c.loop-tri.tri ≡ length c.args.soup.now.triangles.items = omega (arith, c.args.soup.now.triangles.ok.0) in
    all_placed (part_of c.args.soup.now) c.loop-tri.tri c.loop-tri.placed.items c.in_order.result all c.loop-tri.invariant c.in_order.ensures.same
