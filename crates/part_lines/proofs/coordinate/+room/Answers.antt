use Rattle.part_lines.proofs.Numbers.{room_here}
use Rattle.part_lines.proofs.coordinate.+room.Goals as goal

pub returns-then-is_in_range : goal.returns-then-is_in_range
returns-then-is_in_range t c = room_here c.args.unit c.args.word.now c.args.decimals c.if-decimals-eq0.false (c.is_in_range.ensures.0 c.if-is_in_range.true)
