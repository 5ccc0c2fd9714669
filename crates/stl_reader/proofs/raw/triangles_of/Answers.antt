use Rattle.std.proofs.Common.{◌*◌, sym, arith}
use Rattle.std.proofs.lemmas.List.Elements.{All-push}
use Rattle.std.proofs.lemmas.List.FromFn.{map-range_with_len_more}
use Rattle.lattice.specs.Triangles.{IsBelow}
use Rattle.stl_reader.specs.Stl.{triangle_at}
use Rattle.stl_reader.proofs.raw.triangles_of.Goals as goal

pub loop-i-preserved : goal.loop-i-preserved
loop-i-preserved c =
    let pushed = c.in_ok-push.ensures.items in
    record {
      items = rw (pushed, c.loop-i.invariant.items) (sym (map-range_with_len_more triangle_at 0 c.loop-i.i c.loop-i.i (omega arith)));
      below = rw pushed (All-push (IsBelow (3 * c.args.count)) c.loop-i.triangles.items (triangle_at c.loop-i.i) c.loop-i.invariant.below (record { a = omega arith; b = omega arith; c = omega arith }));
      count = omega (arith, c.in_ok-push.ensures.len);
    }
