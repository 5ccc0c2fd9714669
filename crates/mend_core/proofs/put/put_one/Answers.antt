use Rattle.std.proofs.Common.{◌≡◌, ◌∙◌, None, Some, refl}
use Rattle.desk_reasons.specs.Reasons.{MayGive}
use Rattle.desk_reasons.proofs.Given.{given}
use Rattle.mend_core.specs.Lines.{mend_line}
use Rattle.mend_core.specs.declared.lines.TheConstants.{MEMORY_LINE}
use Rattle.mend_words.specs.Seen.{named_seen}
use Rattle.part_input.specs.Causes.{common}
use Rattle.part_input.specs.declared.fault.Fault.{Fault}
use Rattle.part_input.specs.declared.fault.Fault.TheVariants.{WriteFault}
use Rattle.part_input.proofs.Causes.{memory_only}
use Rattle.part_lines.specs.declared.hint.PartHint.TheVariants.{Nothing}
use Rattle.put_texts.specs.Puts.{one_text, way_seen}
use Rattle.put_texts.proofs.Putting.{of_one, told_alike}
use Rattle.put_texts.proofs.Reasoned.{placed_with, warned_with}
use Rattle.mend_core.proofs.put.put_one.Goals as goal

-- its line is that of its fault
pub warn_of-requires : goal.warn_of-requires
warn_of-requires g c =
    let its = WriteFault c.args.target in
    let line = mend_line (Some (named_seen c.args.request.now)) Nothing None in
    let found = c.in-Some.found in
    c.in-Some.ensures.line
    ∙ told_alike common line its refl MEMORY_LINE.now c.args.line.now (memory_only (λ (f : Fault). MEMORY_LINE.now ≡ line f) refl) c.requires found.fault
    (of_one common (way_seen c.args.way) its c.args.bytes.now found.fault c.in-Some.ensures.placed.of_texts)

pub returns-in-None-clause-put : goal.returns-in-None-clause-put
returns-in-None-clause-put g c =
    let state = g.D.Desk.state in
    let line = mend_line (Some (named_seen c.args.request.now)) Nothing in
    placed_with (MayGive g.D.Reasons.reason) tt common line (one_text (way_seen c.args.way) (WriteFault c.args.target) c.args.bytes.now) (state c.args.desk.now) (state c.place_text.new.desk) c.in-None.ensures.placed

pub returns-in-Some-clause-put : goal.returns-in-Some-clause-put
returns-in-Some-clause-put g c =
    let state = g.D.Desk.state in
    let reason = g.D.Reasons.reason in
    let desk = c.place_text.new.desk in
    let line = mend_line (Some (named_seen c.args.request.now)) Nothing in
    warned_with (MayGive reason) tt common line (one_text (way_seen c.args.way) (WriteFault c.args.target) c.args.bytes.now) c.in-Some.found.fault (state c.args.desk.now) (state desk) (state c.warn_of.new.desk)
    (reason desk) (given reason desk) c.in-Some.ensures.placed c.warn_of.ensures
