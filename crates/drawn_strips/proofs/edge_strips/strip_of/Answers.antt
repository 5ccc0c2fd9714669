use Rattle.std.proofs.lemmas.Grind.{merely}
use Rattle.lattice.specs.Points.{of_dir}
use Rattle.solid_mesh.proofs.Facts.{edge_there}
use Rattle.drawn_strips.proofs.StripPlaces.{span_ends}
use Rattle.drawn_strips.proofs.edge_strips.strip_of.Goals as goal

pub invariant_of-result : goal.invariant_of-result
invariant_of-result c =
    let (e, n) = edge_there c.args.solid.now c.args.edge c.requires.in_range in
    record {
      seen = merely (
        c.args.d.now,
        span_ends (of_dir c.args.d.now) e c.args.span.now c.args.line.now c.spot.result c.spot-2.result
            (c.requires.on_line e n) (c.spot.ensures.at e n) (c.spot-2.ensures.at e n) c.requires.ordered (c.requires.seen e n),
      );
    }

pub returns : goal.returns
returns c e n = record { line = c.requires.on_line e n; from = c.spot.ensures.at e n; to = c.spot-2.ensures.at e n; kind = c.strip_kind.ensures }
