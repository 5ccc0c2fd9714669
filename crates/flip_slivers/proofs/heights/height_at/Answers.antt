use Rattle.std.proofs.Common.{refl}
use Rattle.std.proofs.lemmas.Option.{slice_get_read}
use Rattle.flip_slivers.proofs.heights.height_at.Goals as goal

pub returns : goal.returns
returns c = record {
  placed = record {
    a = c.index-corners-t.result;
    b = c.index-corners-t-2.result;
    c = c.index-corners-t-3.result;
    at_a = slice_get_read c.args.corners.now _ c.args.t.now.a c.index-corners-t.result refl c.requires.a c.index-corners-t.is;
    at_b = slice_get_read c.args.corners.now _ c.args.t.now.b c.index-corners-t-2.result refl c.requires.b c.index-corners-t-2.is;
    at_c = slice_get_read c.args.corners.now _ c.args.t.now.c c.index-corners-t-3.result refl c.requires.c c.index-corners-t-3.is;
  };
  is_area = c.height_of.ensures.area;
  is_side = c.height_of.ensures.side;
}
