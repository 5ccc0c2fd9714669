use Rattle.std.proofs.Common.{take}
use Rattle.lattice.specs.Points.{of_dir}
use Rattle.line_merge.specs.Merging.{AreStrips}
use Rattle.detail_pieces.proofs.Kept.{ArePartsIn}
use Rattle.detail_pieces.proofs.clipping.clip.Given as goal

-- the parts of the strips so far
abbrev pub invariant-loop-strip : goal.invariant-loop-strip
invariant-loop-strip l = ArePartsIn (of_dir l.d) l.window (take l.strip-index l.strips) l.clipped.items × AreStrips (of_dir l.d) l.clipped.items
