use Rattle.std.proofs.Common.{◌≡◌, ◌/◌, sym, subst, arith}
use Rattle.geometry.specs.Parts.{part_of}
use Rattle.solid_mesh.specs.Faults.{ShareSide}
use Rattle.solid_mesh.proofs.SideLemmas.{found_same, found_first, found_none}
use Rattle.solid_mesh.proofs.Sharing.{share_side}
use Rattle.solid_mesh.proofs.sides.earlier.Goals as goal

pub returns-in-Some-clause-least : goal.returns-in-Some-clause-least
returns-in-Some-clause-least c other h e =
    let low = found_first (part_of c.args.soup.now) c.args.half c.args.sides.now.keys c.side_at.result c.requires.sides c.side_at.ensures c.in-Some.place c.in-Some.ensures.index other h e in
    omega arith

pub returns-in-Some-clause-shares : goal.returns-in-Some-clause-shares
returns-in-Some-clause-shares c less =
    let s = part_of c.args.soup.now in
    let (within, same) = found_same s c.args.half c.args.sides.now.keys c.side_at.result c.requires.sides c.side_at.ensures c.in-Some.place c.in-Some.ensures.index in
    let third : c.in-Some.place / 3 ≡ c.min.result = omega arith in
    subst (λ i. ShareSide s i (c.args.half / 3)) third (share_side s c.in-Some.place c.args.half (omega (arith, c.requires.halves)) c.requires.within same)

pub returns-in-None-clause-least : goal.returns-in-None-clause-least
returns-in-None-clause-least c other h e =
    absurd (found_none (part_of c.args.soup.now) c.args.half c.args.sides.now.keys c.side_at.result c.requires.sides c.side_at.ensures (sym c.in-None.ensures.found) other h e)
