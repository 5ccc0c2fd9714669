use Rattle.std.proofs.Common.{◌^◌}
use Rattle.std.specs.Int.{w32, w64}
use Rattle.integers.proofs.Worth.{known, via, pass, size_of}
use Rattle.cut_plane.proofs.seen.seen_corner.Goals as goal

pub returns-clause-size : goal.returns-clause-size
returns-clause-size c =
    let k = c.args.k.now in
    c.seen.ensures.size (2 ^ 20) (record {
      x = size_of (2 ^ 20) (pass w64 (via c.into.ensures (pass w32 (known k.x (2 ^ 20) k.x_in_range) tt)) tt) tt;
      y = size_of (2 ^ 20) (pass w64 (via c.into-2.ensures (pass w32 (known k.y (2 ^ 20) k.y_in_range) tt)) tt) tt;
      z = size_of (2 ^ 20) (pass w64 (via c.into-3.ensures (pass w32 (known k.z (2 ^ 20) k.z_in_range) tt)) tt) tt;
    })
