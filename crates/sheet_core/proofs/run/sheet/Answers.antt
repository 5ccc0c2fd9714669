use Rattle.std.proofs.Common.{◌≡◌, ◌∙◌, refl, Option, None, Err, Some, ap, sym, subst}
use Rattle.draw_words.specs.Seen.{texts}
use Rattle.sheet_input.specs.Faults.{sheet_faults}
use Rattle.sheet_core.specs.Lines.{named_in}
use Rattle.sheet_core.specs.Run.{sheet_run, sheet_task}
use Rattle.sheet_input.specs.declared.fault.SheetFault.TheVariants.{Common}
use Rattle.sheet_input.specs.declared.refusal.Told.TheVariants.{Nothing}
use Rattle.sheet_core.specs.declared.lines.TheConstants.{HELP, VERSION}
use Rattle.sheet_core.specs.declared.refusals.TheConstants.{MEMORY_LINE, SAID_LINE, USAGE_LINE}
use Rattle.sheet_core.proofs.Answered.{lawful}
use Rattle.sheet_core.proofs.Asked.{short_told, undrawn_short}
use Rattle.sheet_core.proofs.HeldTexts.{writes_held}
use Rattle.sheet_core.proofs.Told.{telling, unsaid}
use Rattle.sheet_words.specs.Names.{Asks, help, version, sheet, asked_by}
use Rattle.sheet_words.specs.Seen.{asked_seen, named_seen}
use Rattle.sheet_words.specs.declared.words.Asked.{Asked}
use Rattle.part_input.specs.declared.fault.Fault.TheVariants.{Usage, Memory}
use Rattle.put_texts.specs.Order.{aloud}
use Rattle.put_texts.specs.Puts.{one_text, told_by}
use Rattle.put_texts.specs.Runs.{IsRun}
use Rattle.put_texts.proofs.Runs.{ended_run, short_refusal, told_run}
use Rattle.sheet_core.proofs.run.sheet.Goals as goal

pub returns-in-Ok-Help-clause-run : goal.returns-in-Ok-Help-clause-run
returns-in-Ok-Help-clause-run g c =
    let reason = g.D.Reasons.reason in
    let old = g.D.Desk.state c.args.desk.now in
    let new = g.D.Desk.state c.tell.new.desk in
    let end = c.tell.result in
    let did = c.tell.ensures in
    let asked = Some help in
    let is : asked_by (texts c.args.words.now) ≡ asked = c.in-Ok-Help.ensures.asked ∙ ap (λ (a : Asked). Some (asked_seen a)) c.in-Ok-Help.field-0-is in
    subst (λ (o : Option Asks). IsRun (sheet_run reason o) end.status end.fault end.made old new) (sym is)
    (told_run (sheet_run reason asked) (lawful asked) old new (one_text aloud unsaid HELP.now) (told_by sheet_faults MEMORY_LINE.now SAID_LINE.now) (telling reason HELP.now help tt old)
    end.status end.fault end.made (g.met.D.Desk.steady_tells c.args.desk.now) did.status did.none did.put did.unwarned did.changes)

pub returns-in-Ok-Version-clause-run : goal.returns-in-Ok-Version-clause-run
returns-in-Ok-Version-clause-run g c =
    let reason = g.D.Reasons.reason in
    let old = g.D.Desk.state c.args.desk.now in
    let new = g.D.Desk.state c.tell-in-Ok-Version.new.desk in
    let end = c.tell-in-Ok-Version.result in
    let did = c.tell-in-Ok-Version.ensures in
    let asked = Some version in
    let is : asked_by (texts c.args.words.now) ≡ asked = c.in-Ok-Version.ensures.asked ∙ ap (λ (a : Asked). Some (asked_seen a)) c.in-Ok-Version.field-0-is in
    subst (λ (o : Option Asks). IsRun (sheet_run reason o) end.status end.fault end.made old new) (sym is)
    (told_run (sheet_run reason asked) (lawful asked) old new (one_text aloud unsaid VERSION.now) (told_by sheet_faults MEMORY_LINE.now SAID_LINE.now) (telling reason VERSION.now version tt old)
    end.status end.fault end.made (g.met.D.Desk.steady_tells c.args.desk.now) did.status did.none did.put did.unwarned did.changes)

pub returns-in-Ok-Sheet-clause-run : goal.returns-in-Ok-Sheet-clause-run
returns-in-Ok-Sheet-clause-run g c =
    let reason = g.D.Reasons.reason in
    let old = g.D.Desk.state c.args.desk.now in
    let new = g.D.Desk.state c.draw_sheet.new.desk in
    let end = c.draw_sheet.result in
    let is : asked_by (texts c.args.words.now) ≡ Some (sheet (named_seen c.in-Ok-Sheet.request)) = c.in-Ok-Sheet.ensures.asked ∙ ap (λ (a : Asked). Some (asked_seen a)) c.in-Ok-Sheet.field-0-is in
    subst (λ (o : Option Asks). IsRun (sheet_run reason o) end.status end.fault end.made old new) (sym is) c.draw_sheet.ensures.run

pub returns-in-Err-Usage-clause-run : goal.returns-in-Err-Usage-clause-run
returns-in-Err-Usage-clause-run g c =
    let reason = g.D.Reasons.reason in
    let old = g.D.Desk.state c.args.desk.now in
    let new = g.D.Desk.state c.end_by.new.desk in
    let end = c.end_by.result in
    let did = c.end_by.ensures in
    let asked : Option Asks = None in
    subst (λ (o : Option Asks). IsRun (sheet_run reason o) end.status end.fault end.made old new) (sym (c.in-Err-Usage.ensures.usage (ap Err c.in-Err-Usage.field-0-is)))
    (ended_run (sheet_run reason asked) (lawful asked) old old new (Common Usage) (record { refuses = λ told. refl; alone = λ none files. refl; may = refl; order = λ told. tt; reads = refl; missing = λ steady. tt; no_write = tt; read = refl }) did.changes
    end.fault did.fault USAGE_LINE.now (Nothing, None, tt, refl, refl) end.status end.made (g.met.D.Desk.steady_tells c.args.desk.now) did.status did.none refl refl did.warned did.whole)

pub returns-in-Err-Memory-clause-run : goal.returns-in-Err-Memory-clause-run
returns-in-Err-Memory-clause-run g c =
    let reason = g.D.Reasons.reason in
    let old = g.D.Desk.state c.args.desk.now in
    let new = g.D.Desk.state c.end_by-in-Err-Memory.new.desk in
    let end = c.end_by-in-Err-Memory.result in
    let did = c.end_by-in-Err-Memory.ensures in
    let asked = asked_by (texts c.args.words.now) in
    ended_run (sheet_run reason asked) (lawful asked) old old new (Common Memory) (short_refusal (sheet_task asked) (lawful asked) old old refl refl) did.changes
    end.fault did.fault MEMORY_LINE.now (Nothing, None, tt, short_told (named_in asked) old, refl) end.status end.made (g.met.D.Desk.steady_tells c.args.desk.now) did.status did.none (undrawn_short asked) (undrawn_short asked) did.warned did.whole

-- the list doesn't go where the sheet goes
pub returns-in-Ok-Sheet-clause-written : goal.returns-in-Ok-Sheet-clause-written
returns-in-Ok-Sheet-clause-written g c =
    let old = g.D.Desk.state c.args.desk.now in
    let new = g.D.Desk.state c.draw_sheet.new.desk in
    let is : asked_by (texts c.args.words.now) ≡ Some (sheet (named_seen c.in-Ok-Sheet.request)) = c.in-Ok-Sheet.ensures.asked ∙ ap (λ (a : Asked). Some (asked_seen a)) c.in-Ok-Sheet.field-0-is in
    writes_held (texts c.args.words.now) (named_seen c.in-Ok-Sheet.request) is c.draw_sheet.result.fault old new c.draw_sheet.result.made c.draw_sheet.ensures.written
