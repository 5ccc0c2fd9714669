use Rattle.std.proofs.Common.{map, take}
use Rattle.line_merge.specs.inner.Numbering.{listed_strip}
use Rattle.line_merge.proofs.Numbers.{AreNumberedIn}
use Rattle.line_merge.proofs.numbering.number_lines.Given as goal

-- the strips so far have the numbers of their lines
abbrev pub invariant-loop-strip : goal.invariant-loop-strip
invariant-loop-strip l = AreNumberedIn l.lines.keys (take l.strip-index l.strips) (map listed_strip l.listed.items)
