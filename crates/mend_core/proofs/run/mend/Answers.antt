use Rattle.std.proofs.Common.{◌≡◌, ◌∙◌, refl, Option, None, Err, Some, ap, sym, subst}
use Rattle.draw_words.specs.Seen.{texts}
use Rattle.mend_core.specs.Hints.{named_in}
use Rattle.mend_core.specs.Run.{mend_run, mend_task}
use Rattle.mend_core.specs.declared.lines.TheConstants.{HELP, MEMORY_LINE, SAID_LINE, USAGE_LINE, VERSION}
use Rattle.mend_core.proofs.Answered.{lawful}
use Rattle.mend_core.proofs.Asked.{all_sound, short_line, short_told, unmade_short}
use Rattle.mend_core.proofs.Told.{telling}
use Rattle.mend_words.specs.Names.{Asks, help, version, mend, asked_by}
use Rattle.mend_words.specs.Seen.{asked_seen, named_seen}
use Rattle.mend_words.specs.declared.request.Asked.{Asked}
use Rattle.part_input.specs.Causes.{common}
use Rattle.part_input.specs.declared.fault.Fault.TheVariants.{Usage, WriteFault, Memory}
use Rattle.part_input.specs.declared.fault.Target.TheVariants.{Out}
use Rattle.part_lines.specs.declared.hint.PartHint.TheVariants.{Nothing}
use Rattle.put_texts.specs.Order.{aloud}
use Rattle.put_texts.specs.Puts.{one_text, told_by}
use Rattle.put_texts.specs.Runs.{IsRun}
use Rattle.put_texts.proofs.Runs.{ended_run, short_refusal, told_run}
use Rattle.mend_core.proofs.run.mend.Goals as goal

pub returns-in-Ok-Help-clause-run : goal.returns-in-Ok-Help-clause-run
returns-in-Ok-Help-clause-run g c =
    let reason = g.D.Reasons.reason in
    let old = g.D.Desk.state c.args.desk.now in
    let new = g.D.Desk.state c.tell.new.desk in
    let end = c.tell.result in
    let did = c.tell.ensures in
    let asked = Some help in
    let is : asked_by (texts c.args.words.now) ≡ asked = c.in-Ok-Help.ensures.asked ∙ ap (λ (a : Asked). Some (asked_seen a)) c.in-Ok-Help.field-0-is in
    subst (λ (o : Option Asks). IsRun (mend_run reason o) end.status end.fault end.made old new) (sym is)
    (told_run (mend_run reason asked) (lawful asked) old new (one_text aloud (WriteFault Out) HELP.now) (told_by common MEMORY_LINE.now SAID_LINE.now) (telling reason HELP.now help tt old)
    end.status end.fault end.made (g.met.D.Desk.steady_tells c.args.desk.now) did.status did.none did.put did.unwarned did.changes)

pub returns-in-Ok-Version-clause-run : goal.returns-in-Ok-Version-clause-run
returns-in-Ok-Version-clause-run g c =
    let reason = g.D.Reasons.reason in
    let old = g.D.Desk.state c.args.desk.now in
    let new = g.D.Desk.state c.tell-in-Ok-Version.new.desk in
    let end = c.tell-in-Ok-Version.result in
    let did = c.tell-in-Ok-Version.ensures in
    let asked = Some version in
    let is : asked_by (texts c.args.words.now) ≡ asked = c.in-Ok-Version.ensures.asked ∙ ap (λ (a : Asked). Some (asked_seen a)) c.in-Ok-Version.field-0-is in
    subst (λ (o : Option Asks). IsRun (mend_run reason o) end.status end.fault end.made old new) (sym is)
    (told_run (mend_run reason asked) (lawful asked) old new (one_text aloud (WriteFault Out) VERSION.now) (told_by common MEMORY_LINE.now SAID_LINE.now) (telling reason VERSION.now version tt old)
    end.status end.fault end.made (g.met.D.Desk.steady_tells c.args.desk.now) did.status did.none did.put did.unwarned did.changes)

pub returns-in-Ok-Mend-clause-run : goal.returns-in-Ok-Mend-clause-run
returns-in-Ok-Mend-clause-run g c =
    let reason = g.D.Reasons.reason in
    let old = g.D.Desk.state c.args.desk.now in
    let new = g.D.Desk.state c.mend_part.new.desk in
    let end = c.mend_part.result in
    let is : asked_by (texts c.args.words.now) ≡ Some (mend (named_seen c.in-Ok-Mend.request)) = c.in-Ok-Mend.ensures.asked ∙ ap (λ (a : Asked). Some (asked_seen a)) c.in-Ok-Mend.field-0-is in
    subst (λ (o : Option Asks). IsRun (mend_run reason o) end.status end.fault end.made old new) (sym is) c.mend_part.ensures.run

pub returns-in-Err-Usage-clause-run : goal.returns-in-Err-Usage-clause-run
returns-in-Err-Usage-clause-run g c =
    let reason = g.D.Reasons.reason in
    let old = g.D.Desk.state c.args.desk.now in
    let new = g.D.Desk.state c.end_by.new.desk in
    let end = c.end_by.result in
    let did = c.end_by.ensures in
    let asked : Option Asks = None in
    subst (λ (o : Option Asks). IsRun (mend_run reason o) end.status end.fault end.made old new) (sym (c.in-Err-Usage.ensures.usage (ap Err c.in-Err-Usage.field-0-is)))
    (ended_run (mend_run reason asked) (lawful asked) old old new Usage (record { refuses = λ told. refl; alone = λ none files. refl; may = refl; order = λ told. tt; reads = refl; missing = λ steady. tt; no_write = tt; read = refl }) did.changes
    end.fault did.fault USAGE_LINE.now (Nothing, None, tt, refl, refl) end.status end.made (g.met.D.Desk.steady_tells c.args.desk.now) did.status did.none refl refl did.warned did.whole)

pub returns-in-Err-Memory-clause-run : goal.returns-in-Err-Memory-clause-run
returns-in-Err-Memory-clause-run g c =
    let reason = g.D.Reasons.reason in
    let old = g.D.Desk.state c.args.desk.now in
    let new = g.D.Desk.state c.end_by-in-Err-Memory.new.desk in
    let end = c.end_by-in-Err-Memory.result in
    let did = c.end_by-in-Err-Memory.ensures in
    let asked = asked_by (texts c.args.words.now) in
    ended_run (mend_run reason asked) (lawful asked) old old new Memory (short_refusal (mend_task asked) (lawful asked) old old refl refl) did.changes
    end.fault did.fault MEMORY_LINE.now (Nothing, None, tt, short_told (named_in asked) old, short_line (named_in asked)) end.status end.made (g.met.D.Desk.steady_tells c.args.desk.now) did.status did.none (unmade_short asked) (unmade_short asked) did.warned did.whole

pub returns-in-Ok-Mend-clause-sound : goal.returns-in-Ok-Mend-clause-sound
returns-in-Ok-Mend-clause-sound g c = all_sound c.mend_part.result.made
