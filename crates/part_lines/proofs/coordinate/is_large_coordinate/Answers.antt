use Rattle.part_lines.proofs.coordinate.is_large_coordinate.Goals as goal

pub returns : goal.returns
returns c = ((λ told. (c.if-left-eq0.false, c.is_large_there.ensures.0 told)), (λ h. c.is_large_there.ensures.1 (h.1)))
