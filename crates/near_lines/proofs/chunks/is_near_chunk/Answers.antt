use Rattle.std.proofs.Common.{◌≡◌, true, sym, ap, subst, ◌∙◌}
use Rattle.near_lines.specs.Scales.{extent_of}
use Rattle.near_lines.specs.declared.extent.Extent.{Extent}
use Rattle.near_lines.specs.inner.Chunks.{is_missed}
use Rattle.near_lines.proofs.Boxes.{none_near}
use Rattle.near_lines.proofs.chunks.is_near_chunk.Goals as goal

pub returns-then-is_missed : goal.returns-then-is_missed
returns-then-is_missed c =
    let chunk = c.args.chunk.now in
    let missed : is_missed c.args.d c.args.p.now chunk.extent ≡ true = sym c.is_missed.ensures ∙ c.if-is_missed.true in
    sym (none_near c.args.d c.args.s.now c.args.p.now chunk.sides.items (subst (λ (e : Extent). is_missed c.args.d c.args.p.now e ≡ true) chunk.around missed))
