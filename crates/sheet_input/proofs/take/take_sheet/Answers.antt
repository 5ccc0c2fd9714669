use Rattle.std.proofs.Common.{subst}
use Rattle.std.specs.Prelude.{IfErr}
use Rattle.desk.specs.Files.{Files}
use Rattle.part_input.specs.Steps.{IsMissingOf}
use Rattle.sheet_words.specs.Seen.{named_seen}
use Rattle.sheet_input.specs.Answers.{GivesSheet}
use Rattle.sheet_input.specs.Faults.{sheet_faults}
use Rattle.sheet_input.specs.Jobs.{TakesAnyJob}
use Rattle.sheet_input.specs.Seen.{any_seen, input_seen}
use Rattle.sheet_input.specs.Steps.{DrawsBy}
use Rattle.sheet_input.proofs.SheetChains.{gives_next, misses_next}
use Rattle.sheet_input.proofs.TakenSheets.{drawn_in_order, drawn_of_files, drawn_told_for, same_files, still_steady, still_tells}
use Rattle.sheet_input.proofs.WordsAlone.{drawn_by_words}
use Rattle.sheet_input.proofs.take.take_sheet.Goals as goal

-- the job was taken, and the part of the same files
pub returns-clause-answer : goal.returns-clause-answer
returns-clause-answer g c = λ told.
    let old = g.D.Desk.state c.args.desk.now in
    let named = named_seen c.args.request.now in
    let values = any_seen c.in_ok-job.job in
    let between = g.D.Desk.state c.take_any_job.new.desk in
    let tells = still_tells old between c.in_ok-job.ensures.changes told in
    let P : Files → Type 0 = λ files. GivesSheet input_seen (DrawsBy files named values) c.draw_by.result in
    let drawn : P old.files = subst P (same_files old between c.in_ok-job.ensures.changes) (c.draw_by.ensures.answer tells) in
    gives_next (TakesAnyJob old.files named.job) (DrawsBy old.files named) values (c.in_ok-job.ensures.answer told) input_seen c.draw_by.result drawn

pub returns-clause-no_file : goal.returns-clause-no_file
returns-clause-no_file g c = λ alone files.
    let named = named_seen c.args.request.now in
    gives_next (TakesAnyJob files named.job) (DrawsBy files named) (any_seen c.in_ok-job.job) (c.in_ok-job.ensures.usual alone.no_job files) input_seen c.draw_by.result (c.draw_by.ensures.sample alone.sample files)

pub returns-clause-by_words : goal.returns-clause-by_words
returns-clause-by_words g c = drawn_by_words input_seen (named_seen c.args.request.now) (any_seen c.in_ok-job.job) c.in_ok-job.ensures.usual c.draw_by.result c.draw_by.ensures.of_text

pub returns-clause-of_files : goal.returns-clause-of_files
returns-clause-of_files g c =
    let named = named_seen c.args.request.now in
    drawn_of_files (g.D.Desk.state c.take_any_job.new.desk) named named.job c.in_ok-job.job c.in_ok-job.ensures.usual c.draw_by.result c.draw_by.ensures.of_part c.draw_by.ensures.told

pub returns-clause-told : goal.returns-clause-told
returns-clause-told g c =
    let state = g.D.Desk.state in
    drawn_told_for (state c.args.desk.now) (named_seen c.args.request.now) (state c.take_any_job.new.desk) c.in_ok-job.ensures.changes c.in_ok-job.job c.in_ok-job.ensures.placed c.draw_by.result c.draw_by.ensures.told

pub returns-clause-order : goal.returns-clause-order
returns-clause-order g c = λ told.
    drawn_in_order (g.D.Desk.state c.args.desk.now).files (named_seen c.args.request.now) (any_seen c.in_ok-job.job) (c.in_ok-job.ensures.answer told) c.draw_by.result c.draw_by.ensures.of_part
    c.draw_by.ensures.settled

pub returns-clause-missing : goal.returns-clause-missing
returns-clause-missing g c = λ steady.
    let old = g.D.Desk.state c.args.desk.now in
    let named = named_seen c.args.request.now in
    let values = any_seen c.in_ok-job.job in
    let told = g.met.D.Desk.steady_tells c.args.desk.now steady in
    let between = g.D.Desk.state c.take_any_job.new.desk in
    let still = still_steady old between c.in_ok-job.ensures.changes steady in
    let P : Files → Type 0 = λ files. IfErr c.draw_by.result (λ r. IsMissingOf sheet_faults (DrawsBy files named values) r.fault) in
    let missing : P old.files = subst P (same_files old between c.in_ok-job.ensures.changes) (c.draw_by.ensures.missing still) in
    misses_next (TakesAnyJob old.files named.job) (DrawsBy old.files named) values (c.in_ok-job.ensures.answer told) c.draw_by.result missing
