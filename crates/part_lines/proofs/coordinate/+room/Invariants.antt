use Rattle.part_lines.proofs.coordinate.+room.Given as goal

abbrev pub decreases-room : goal.decreases-room
decreases-room l = l.decimals
