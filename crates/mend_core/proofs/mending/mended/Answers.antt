use Rattle.std.proofs.Common.{◌≡◌, subst}
use Rattle.geometry.specs.Parts.{Part, part_of}
use Rattle.geometry.specs.Sound.{IsSound}
use Rattle.mend_core.specs.Mending.{Mends}
use Rattle.mend_core.specs.Seen.{made_seen}
use Rattle.mend_core.proofs.Repairing.{unsound}
use Rattle.part_input.specs.Steps.{GivesInput}
use Rattle.mend_core.proofs.mending.mended.Goals as goal

-- the copy is the part that was refused
pub mended_by_flips-requires-clause-unsound : goal.mended_by_flips-requires-clause-unsound
mended_by_flips-requires-clause-unsound c = λ sound.
    let no = c.in-Err-Mesh in
    let same : part_of c.in-Ok.kept ≡ part_of c.args.soup = λ i. record { corners = c.in-Ok.ensures.corners i; triangles = c.in-Ok.ensures.triangles i } in
    unsound (part_of c.args.soup) no.field-0 no.field-0-0 no.field-0-is no.ensures.refused (subst IsSound same sound)

pub returns-in-Err-Mesh-clause-answer : goal.returns-in-Err-Mesh-clause-answer
returns-in-Err-Mesh-clause-answer c =
    let same : part_of c.in-Ok.kept ≡ part_of c.args.soup = λ i. record { corners = c.in-Ok.ensures.corners i; triangles = c.in-Ok.ensures.triangles i } in
    subst (λ (p : Part). GivesInput made_seen (Mends c.args.limit p) c.mended_by_flips.result) same c.mended_by_flips.ensures.answer
