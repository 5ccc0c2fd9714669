use Rattle.std.proofs.Common.{◌^◌}
use Rattle.std.specs.Int.{w64}
use Rattle.integers.proofs.Worth.{known, pass, size_of}
use Rattle.cut_plane.proofs.seen.seen_normal.Goals as goal

pub returns-clause-size : goal.returns-clause-size
returns-clause-size c =
    let n = c.args.n.now in
    c.seen.ensures.size (2 ^ 43) (record {
      x = size_of (2 ^ 43) (pass w64 (known n.x (2 ^ 43) n.x_in_range) tt) tt;
      y = size_of (2 ^ 43) (pass w64 (known n.y (2 ^ 43) n.y_in_range) tt) tt;
      z = size_of (2 ^ 43) (pass w64 (known n.z (2 ^ 43) n.z_in_range) tt) tt;
    })
