use Rattle.std.proofs.Common.{◌≡◌, take}
use Rattle.off_reader.specs.Fans.{turned, fan_of}
use Rattle.off_reader.proofs.FanNumbers.{triangle}
use Rattle.off_reader.proofs.fan.fan_from.Given as goal

abbrev pub invariant-loop-i : goal.invariant-loop-i
invariant-loop-i l = l.triangles.items ≡ take l.i (fan_of triangle (turned l.j l.numbers))
