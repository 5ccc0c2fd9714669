use Rattle.part_lines.proofs.texts.coordinate_text.Goals as goal

pub returns : goal.returns
returns c = simp (c.most_text-most.ensures, c.in_ok-decimals.ensures, c.in_ok-room.ensures) at c.format.ensures.ok
