use Rattle.std.proofs.Common.{rules}
use Rattle.lattice.specs.Cuts.{plane_of, toward_of}
use Rattle.cross_find.specs.Sights.{SightState}
use Rattle.solid_mesh.specs.Solids.{solid_part, edge_halves}
use Rattle.span_count.specs.Finders.{IsPickedIn}
use Rattle.test_parts.proofs.cut_counts.is_right.Goals as goal

pub spans_cut-requires-clause-finder : goal.spans_cut-requires-clause-finder
spans_cut-requires-clause-finder c =
    let x : SightState = record { part = solid_part c.args.solid.now; halves = edge_halves c.args.solid.now; direction = toward_of (plane_of c.in_ok-section.section.cut); tests = 0 } in
    let picked : IsPickedIn x c.in_ok-picked.picked = search rules in
    c.new-finder.ensures.law x picked
