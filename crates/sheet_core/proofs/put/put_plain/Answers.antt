use Rattle.std.proofs.Common.{List, ℕ, Some, string_bytes, subst}
use Rattle.part_input.specs.declared.fault.Fault.TheVariants.{WriteFault}
use Rattle.part_input.specs.declared.fault.Target.TheVariants.{Summary}
use Rattle.put_texts.specs.Puts.{one_text, way_seen}
use Rattle.sheet_input.specs.declared.fault.SheetFault.TheVariants.{Common, WritePlain}
use Rattle.sheet_core.specs.Writing.{list_way, summary_way}
use Rattle.sheet_core.specs.inner.Warnings.{IsPutWith}
use Rattle.desk_reasons.specs.Reasons.{MayGive}
use Rattle.sheet_core.specs.Refusals.{fault_line}
use Rattle.sheet_input.specs.Faults.{sheet_faults}
use Rattle.sheet_input.specs.declared.refusal.Told.TheVariants.{Nothing}
use Rattle.put_texts.proofs.Reasoned.{put_stops, put_then}
use Rattle.sheet_core.proofs.put.put_plain.Goals as goal
use Rattle.sheet_words.specs.Seen.{named_seen}

pub returns-in-None-clause-put : goal.returns-in-None-clause-put
returns-in-None-clause-put g c =
    let state = g.D.Desk.state in
    let named = named_seen c.args.request.now in
    let texts = c.args.texts.now in
    let between = state c.put_asked.new.desk in
    let new = state c.put_summary.new.desk in
    put_then (MayGive g.D.Reasons.reason) tt sheet_faults (fault_line (Some named) Nothing) WritePlain (way_seen c.plain_way-way.result) (list_way named.plain) c.deref.result.now texts.plain.items c.plain_way-way.ensures c.deref.ensures.value (state c.args.desk.now) between
    c.in-None.ensures.put c.in-None.ensures.unwarned (one_text (summary_way named) (Common (WriteFault Summary)) (string_bytes texts.summary)) c.put_summary.result new
    (subst (λ (s : List ℕ). IsPutWith g.D.Reasons.reason named (one_text (summary_way named) (Common (WriteFault Summary)) s) c.put_summary.result between new) c.as_str-in-None.ensures.value c.put_summary.ensures.put)

pub returns-in-Some-clause-put : goal.returns-in-Some-clause-put
returns-in-Some-clause-put g c =
    let state = g.D.Desk.state in
    let named = named_seen c.args.request.now in
    let texts = c.args.texts.now in
    put_stops (MayGive g.D.Reasons.reason) tt sheet_faults (fault_line (Some named) Nothing) WritePlain (way_seen c.plain_way-way.result) (list_way named.plain) c.deref.result.now texts.plain.items c.plain_way-way.ensures c.deref.ensures.value (state c.args.desk.now) (state c.put_asked.new.desk)
    c.in-Some.fault c.in-Some.ensures.put (one_text (summary_way named) (Common (WriteFault Summary)) (string_bytes texts.summary))
