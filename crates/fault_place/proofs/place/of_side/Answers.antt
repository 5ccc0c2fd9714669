use Rattle.fault_place.proofs.place.of_side.Goals as goal

pub returns : goal.returns
returns c =
    let (f, is_f, first) = c.side_bounds-side.ensures in
    let (g, is_g, second) = c.side_bounds-side.ensures in
    (f, g, is_f, is_g, c.middle_of.ensures f g first second)
