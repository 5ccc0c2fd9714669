use Rattle.std.proofs.Common.{◌≡◌, ◌∙◌, None, Some, refl}
use Rattle.put_texts.specs.Puts.{one_text, way_seen}
use Rattle.put_texts.proofs.Putting.{of_one, told_alike}
use Rattle.sheet_input.specs.Faults.{sheet_faults, unwritten_of}
use Rattle.sheet_input.specs.declared.fault.SheetFault.{SheetFault}
use Rattle.sheet_input.specs.declared.refusal.Told.TheVariants.{Nothing}
use Rattle.sheet_input.specs.inner.Shortage.{short_only}
use Rattle.sheet_core.proofs.Putting.{is_unwritten}
use Rattle.desk_reasons.specs.Reasons.{MayGive}
use Rattle.desk_reasons.proofs.Given.{given}
use Rattle.put_texts.proofs.Reasoned.{placed_with, warned_with}
use Rattle.sheet_core.proofs.put.put_asked.Goals as goal
use Rattle.sheet_core.specs.Refusals.{fault_line}
use Rattle.sheet_core.specs.declared.refusals.TheConstants.{MEMORY_LINE}
use Rattle.sheet_words.specs.Seen.{named_seen}

-- its line is that of its fault
pub warn_of-requires : goal.warn_of-requires
warn_of-requires g c =
    let named = named_seen c.args.request.now in
    let its = unwritten_of c.args.target in
    let line = fault_line (Some named) Nothing None in
    let found = c.in-Some.found in
    c.in-Some.ensures.line
    ∙ told_alike sheet_faults line its (is_unwritten c.args.target) MEMORY_LINE.now c.args.line.now (short_only (λ (f : SheetFault). MEMORY_LINE.now ≡ line f) refl) c.requires found.fault
    (of_one sheet_faults (way_seen c.args.way) its c.args.bytes.now found.fault c.in-Some.ensures.placed.of_texts)

pub returns-in-None-clause-put : goal.returns-in-None-clause-put
returns-in-None-clause-put g c =
    let named = named_seen c.args.request.now in
    let state = g.D.Desk.state in
    placed_with (MayGive g.D.Reasons.reason) tt sheet_faults (fault_line (Some named) Nothing) (one_text (way_seen c.args.way) (unwritten_of c.args.target) c.args.bytes.now) (state c.args.desk.now) (state c.place_text.new.desk) c.in-None.ensures.placed

pub returns-in-Some-clause-put : goal.returns-in-Some-clause-put
returns-in-Some-clause-put g c =
    let named = named_seen c.args.request.now in
    let state = g.D.Desk.state in
    warned_with (MayGive g.D.Reasons.reason) tt sheet_faults (fault_line (Some named) Nothing) (one_text (way_seen c.args.way) (unwritten_of c.args.target) c.args.bytes.now) c.in-Some.found.fault (state c.args.desk.now) (state c.place_text.new.desk) (state c.warn_of.new.desk)
    (g.D.Reasons.reason c.place_text.new.desk) (given g.D.Reasons.reason c.place_text.new.desk) c.in-Some.ensures.placed c.warn_of.ensures
