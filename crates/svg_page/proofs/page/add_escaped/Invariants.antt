use Rattle.std.proofs.Common.{◌≡◌, ◌++◌, drop}
use Rattle.std.specs.List.{flat_map}
use Rattle.svg_page.specs.Svg.{escaped}
use Rattle.svg_page.proofs.page.add_escaped.Given as goal

-- the bytes so far and those of what is left are all bytes
abbrev pub invariant-loop-byte : goal.invariant-loop-byte
invariant-loop-byte l = l.text.items ++ flat_map escaped (drop l.byte-index l.written) ≡ l.fn.text.items ++ flat_map escaped l.written
