use Rattle.std.proofs.Common.{[], ◌∷◌, refl, sym, append-nil}
use Rattle.lattice.specs.Cuts.{plane_of}
use Rattle.lattice.specs.Points.{of_dir}
use Rattle.solid_mesh.specs.Solids.{solid_part}
use Rattle.drawn_strips.proofs.TraceLists.{one_trace, without_trace}
use Rattle.drawn_strips.proofs.trace_strips.add_trace.Goals as goal

pub returns-in_ok-push : goal.returns-in_ok-push
returns-in_ok-push c =
    let (sight, is) = c.in-Some.ensures.some in
    (c.in-Some.strip ∷ [], c.in_ok-push.ensures.items, one_trace (of_dir c.args.d.now) (solid_part c.args.solid.now) (plane_of c.args.cut.now) c.in-Some.strip sight is)

pub returns-in_default : goal.returns-in_default
returns-in_default c =
    ([], sym (append-nil c.args.strips.now.items), without_trace (of_dir c.args.d.now) (solid_part c.args.solid.now) (plane_of c.args.cut.now) (c.in_default.ensures.none refl))
