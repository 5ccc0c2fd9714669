use Rattle.std.proofs.Common.{◌≡◌, List, ℕ, Some, string_bytes, sym, subst}
use Rattle.std.specs.Prelude.{IfOk, codes}
use Rattle.part_input.specs.declared.fault.Fault.{Fault}
use Rattle.sheet_core.specs.Refusals.{about, common_line}
use Rattle.sheet_core.proofs.refusals.common_line.Goals as goal
use Rattle.sheet_words.specs.Seen.{named_seen}

pub returns-in-PartTooLong : goal.returns-in-PartTooLong
returns-in-PartTooLong c =
    let r = c.about-in-PartTooLong.result in
    subst (λ (f : Fault). IfOk r (λ line. string_bytes line ≡ common_line (Some (named_seen c.args.request.now)) c.args.told.now c.args.reason f)) (sym c.in-PartTooLong.is)
    (subst (λ (part : List ℕ). IfOk r (λ line. string_bytes line ≡ about part (codes "more than 16777216 bytes"))) c.as_str-part.ensures.same c.about-in-PartTooLong.ensures)

pub returns-in-Nothing : goal.returns-in-Nothing
returns-in-Nothing c =
    let r = c.about-in-Nothing.result in
    subst (λ (f : Fault). IfOk r (λ line. string_bytes line ≡ common_line (Some (named_seen c.args.request.now)) c.args.told.now c.args.reason f)) (sym c.in-Nothing.is)
    (subst (λ (part : List ℕ). IfOk r (λ line. string_bytes line ≡ about part (codes "no triangle"))) c.as_str-part.ensures.same c.about-in-Nothing.ensures)
