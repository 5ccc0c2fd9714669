use Rattle.std.proofs.Common.{None, Some}
use Rattle.part_input.specs.declared.fault.Fault.TheVariants.{WriteFault}
use Rattle.part_input.specs.declared.fault.Target.TheVariants.{Summary}
use Rattle.put_texts.specs.Puts.{one_text, way_seen}
use Rattle.sheet_input.specs.declared.fault.SheetFault.TheVariants.{Common}
use Rattle.sheet_core.specs.Writing.{summary_way}
use Rattle.desk_reasons.specs.Reasons.{MayGive}
use Rattle.sheet_core.specs.Refusals.{fault_line}
use Rattle.sheet_input.specs.Faults.{sheet_faults}
use Rattle.sheet_input.specs.declared.refusal.Told.TheVariants.{Nothing}
use Rattle.put_texts.proofs.Reasoned.{noted_with, of_its_way}
use Rattle.sheet_core.proofs.put.put_summary.Goals as goal
use Rattle.sheet_words.specs.Seen.{named_seen}

pub returns-in-None-clause-put : goal.returns-in-None-clause-put
returns-in-None-clause-put g c =
    let state = g.D.Desk.state in
    let reason = g.D.Reasons.reason in
    let named = named_seen c.args.request.now in
    let old = state c.args.desk.now in
    let between = state c.put_asked.new.desk in
    noted_with (MayGive reason) tt sheet_faults (fault_line (Some named) Nothing) (one_text (summary_way named) (Common (WriteFault Summary)) c.args.summary.now) old between (state c.note.new.desk)
    (of_its_way (MayGive reason) tt sheet_faults (fault_line (Some named) Nothing) (Common (WriteFault Summary)) (way_seen c.summary_way-way.result) (summary_way named) c.as_bytes.result.now c.args.summary.now c.summary_way-way.ensures c.as_bytes.ensures.value old between None c.in-None.ensures.put)
    c.note.ensures.changes

pub returns-in-Some-clause-put : goal.returns-in-Some-clause-put
returns-in-Some-clause-put g c =
    let state = g.D.Desk.state in
    let named = named_seen c.args.request.now in
    of_its_way (MayGive g.D.Reasons.reason) tt sheet_faults (fault_line (Some named) Nothing) (Common (WriteFault Summary)) (way_seen c.summary_way-way.result) (summary_way named) c.as_bytes.result.now c.args.summary.now c.summary_way-way.ensures c.as_bytes.ensures.value
    (state c.args.desk.now) (state c.put_asked.new.desk) (Some c.in-Some.fault) c.in-Some.ensures.put
