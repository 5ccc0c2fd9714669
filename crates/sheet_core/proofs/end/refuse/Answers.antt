use Rattle.std.proofs.Common.{inr, ◌∙◌, Option, None, Some, sym, subst}
use Rattle.std.specs.Prelude.{IfSome}
use Rattle.part_input.specs.declared.fault.Fault.TheVariants.{ReadFault}
use Rattle.sheet_input.specs.declared.fault.SheetFault.{SheetFault}
use Rattle.sheet_input.specs.declared.fault.SheetFault.TheVariants.{Common}
use Rattle.sheet_core.specs.Refusals.{fault_line}
use Rattle.put_texts.specs.Reasoned.{IsWarnedWith}
use Rattle.sheet_core.proofs.Putting.{warned_by}
use Rattle.sheet_core.proofs.Told.{unread_told}
use Rattle.sheet_core.proofs.end.refuse.Goals as goal
use Rattle.sheet_words.specs.Seen.{named_seen}

-- a file couldn't be read, and the line with the reason found no memory
pub returns-in-Common-ReadFault-clause-warned : goal.returns-in-Common-ReadFault-clause-warned
returns-in-Common-ReadFault-clause-warned g c =
    let named = named_seen c.args.request.now in
    let told = c.args.refusal.told in
    let input = c.in-Common-ReadFault.input in
    let old = g.D.Desk.state c.args.desk.now in
    let new = g.D.Desk.state c.end_by-in-Common-ReadFault.new.desk in
    let did = c.end_by-in-Common-ReadFault.ensures in
    subst (λ (fault : Option SheetFault). IfSome fault (λ f. IsWarnedWith (g.D.Reasons.reason c.args.desk.now) (λ reason. fault_line (Some named) told reason f) old new)) (sym did.fault)
    (inr (warned_by c.line.result.now (fault_line (Some named) told None (Common (ReadFault input))) old new (c.line.ensures ∙ unread_told named c.args.unread.now c.requires input told) did.warned did.whole did.changes))
