use Rattle.std.proofs.Common.{Some, string_bytes}
use Rattle.part_input.specs.declared.fault.Fault.TheVariants.{WriteFault}
use Rattle.part_input.specs.declared.fault.Target.TheVariants.{Out}
use Rattle.put_texts.specs.Puts.{way_seen}
use Rattle.sheet_input.specs.declared.fault.SheetFault.TheVariants.{Common}
use Rattle.sheet_core.specs.Writing.{way_of}
use Rattle.sheet_core.specs.inner.Puts.{texts_after_sheet}
use Rattle.desk_reasons.specs.Reasons.{MayGive}
use Rattle.sheet_core.specs.Refusals.{fault_line}
use Rattle.sheet_input.specs.Faults.{sheet_faults}
use Rattle.sheet_input.specs.declared.refusal.Told.TheVariants.{Nothing}
use Rattle.put_texts.proofs.Reasoned.{put_stops, put_then}
use Rattle.sheet_core.proofs.put.put.Goals as goal
use Rattle.sheet_words.specs.Seen.{named_seen}

pub returns-in-None-clause-put : goal.returns-in-None-clause-put
returns-in-None-clause-put g c =
    let state = g.D.Desk.state in
    let named = named_seen c.args.request.now in
    let texts = c.args.texts.now in
    put_then (MayGive g.D.Reasons.reason) tt sheet_faults (fault_line (Some named) Nothing) (Common (WriteFault Out)) (way_seen c.way_of-way.result) (way_of named.out) c.deref.result.now texts.page.items c.way_of-way.ensures c.deref.ensures.value (state c.args.desk.now) (state c.put_asked.new.desk)
    c.in-None.ensures.put c.in-None.ensures.unwarned (texts_after_sheet named texts.list.items texts.plain.items (string_bytes texts.summary)) c.put_list.result (state c.put_list.new.desk) c.put_list.ensures.put

pub returns-in-Some-clause-put : goal.returns-in-Some-clause-put
returns-in-Some-clause-put g c =
    let state = g.D.Desk.state in
    let named = named_seen c.args.request.now in
    let texts = c.args.texts.now in
    put_stops (MayGive g.D.Reasons.reason) tt sheet_faults (fault_line (Some named) Nothing) (Common (WriteFault Out)) (way_seen c.way_of-way.result) (way_of named.out) c.deref.result.now texts.page.items c.way_of-way.ensures c.deref.ensures.value (state c.args.desk.now) (state c.put_asked.new.desk)
    c.in-Some.fault c.in-Some.ensures.put (texts_after_sheet named texts.list.items texts.plain.items (string_bytes texts.summary))
