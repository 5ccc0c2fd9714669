use Rattle.std.proofs.Common.{refl}
use Rattle.cut_plane.proofs.segments.corners_of.Goals as goal

pub returns : goal.returns
returns c = record {
  face = record {
    number = c.args.tri;
    tri = c.triangle-a.result;
    a = c.corner.result;
    b = c.corner-2.result;
    c = c.corner-3.result;
    listed = c.triangle-a.ensures.listed;
    at_a = c.corner.ensures;
    at_b = c.corner-2.ensures;
    at_c = c.corner-3.ensures;
  };
  number = refl;
  corners = record { a = refl; b = refl; c = refl };
}
