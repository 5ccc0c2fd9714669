use Rattle.std.proofs.Common.{take}
use Rattle.std.specs.List.{AllZip}
use Rattle.lattice.specs.Points.{of_dir}
use Rattle.piece_verify.specs.Stands.{StandsFor}
use Rattle.piece_verify.proofs.compare.first_unlike.Given as goal

-- so far each entry stands for its piece
abbrev pub invariant-loop-place : goal.invariant-loop-place
invariant-loop-place l = AllZip (StandsFor (of_dir l.d)) (take l.place l.given) (take l.place l.pieces)
