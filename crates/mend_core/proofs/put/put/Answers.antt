use Rattle.std.proofs.Common.{List, ℕ, Some, string_bytes, subst}
use Rattle.desk_reasons.specs.Reasons.{MayGive}
use Rattle.mend_core.specs.Lines.{mend_line}
use Rattle.mend_core.specs.Writing.{summary_way, way_of}
use Rattle.mend_words.specs.Seen.{named_seen}
use Rattle.part_input.specs.Causes.{common}
use Rattle.part_input.specs.declared.fault.Fault.TheVariants.{WriteFault}
use Rattle.part_input.specs.declared.fault.Target.TheVariants.{Out, Summary}
use Rattle.part_lines.specs.declared.hint.PartHint.TheVariants.{Nothing}
use Rattle.put_texts.specs.Puts.{one_text, way_seen}
use Rattle.put_texts.specs.Reasoned.{IsPutWith}
use Rattle.put_texts.proofs.Reasoned.{put_stops, put_then}
use Rattle.mend_core.proofs.put.put.Goals as goal

pub returns-in-None-clause-put : goal.returns-in-None-clause-put
returns-in-None-clause-put g c =
    let state = g.D.Desk.state in
    let between = state c.put_one.new.desk in
    let new = state c.put_summary.new.desk in
    let named = named_seen c.args.request.now in
    let may = MayGive g.D.Reasons.reason in
    let line = mend_line (Some named) Nothing in
    let texts = c.args.texts.now in
    put_then may tt common line (WriteFault Out) (way_seen c.way_of-way.result) (way_of named.out) c.deref.result.now texts.part.items c.way_of-way.ensures c.deref.ensures.value (state c.args.desk.now) between
    c.in-None.ensures.put c.in-None.ensures.unwarned (one_text (summary_way named.out) (WriteFault Summary) (string_bytes texts.summary)) c.put_summary.result new
    (subst (λ (s : List ℕ). IsPutWith may common line (one_text (summary_way named.out) (WriteFault Summary) s) c.put_summary.result between new) c.as_str.ensures.value c.put_summary.ensures.put)

pub returns-in-Some-clause-put : goal.returns-in-Some-clause-put
returns-in-Some-clause-put g c =
    let state = g.D.Desk.state in
    let named = named_seen c.args.request.now in
    let texts = c.args.texts.now in
    put_stops (MayGive g.D.Reasons.reason) tt common (mend_line (Some named) Nothing) (WriteFault Out) (way_seen c.way_of-way.result) (way_of named.out) c.deref.result.now texts.part.items c.way_of-way.ensures c.deref.ensures.value
    (state c.args.desk.now) (state c.put_one.new.desk) c.in-Some.fault c.in-Some.ensures.put (one_text (summary_way named.out) (WriteFault Summary) (string_bytes texts.summary))
