use Rattle.std.proofs.Common.{◌≡◌, ℕ, Ok, map, ap, subst, ◌∙◌}
use Rattle.std.specs.Prelude.{IfNone, IfSome, IsSomeAnd}
use Rattle.desk.specs.Files.{Files, DeskState}
use Rattle.draw_words.specs.Names.{Named, named_by}
use Rattle.draw_words.specs.Seen.{texts}
use Rattle.plot_rack.specs.Racks.{boxes_of}
use Rattle.draw_core.specs.inner.Kept.{WritesRack}
use Rattle.part_input.specs.Sheets.{IsOfWords}
use Rattle.draw_core.specs.Run.{RunsDraw, draw_run, draw_task}
use Rattle.draw_core.specs.inner.Taken.{drawn_of}
use Rattle.draw_core.proofs.Answered.{drawn_ends, drawn_in_order, drawn_may, drawn_misses_none, drawn_reads, lawful, none_undrawn, some_named}
use Rattle.draw_core.proofs.Drawings.{made_of, writes_named, same_outputs}
use Rattle.draw_core.proofs.HeldFiles.{with_held}
use Rattle.draw_core.proofs.Saying.{says_made}
use Rattle.draw_core.proofs.Warned.{names_nothing, silent_from, warns_from, warns_whole_from}
use Rattle.part_input.specs.Causes.{cause_of}
use Rattle.put_texts.specs.Faults.{CountsWrites}
use Rattle.put_texts.proofs.Counting.{not_there}
use Rattle.put_texts.proofs.Ends.{heard_later}
use Rattle.put_texts.proofs.Runs.{only_runs, refused_run, whole_answer}
use Rattle.draw_core.proofs.run.draw.Goals as goal

-- ---- a refusal
pub returns-in-Err-clause-run : goal.returns-in-Err-clause-run
returns-in-Err-clause-run g c =
    let state = g.D.Desk.state in
    let suffixes = map (λ b. ((goal.Plotter-dyn g (b.vtable, b.value)).plot b.value).suffix) c.args.extras.items in
    let words = texts c.args.words.now in
    let old = state c.args.desk.now in
    let between = state c.take.new.desk in
    let new = state c.refuse.new.desk in
    let e = c.in-Err.fault in
    let took = c.in-Err.ensures in
    let end = c.refuse.result in
    let did = c.refuse.ensures in
    refused_run (draw_run suffixes words) (lawful suffixes words) old between new e
    (record { refuses = took.answer; alone = took.no_file; may = took.words; order = took.order; reads = took.reads; missing = took.missing; no_write = took.no_write; read = took.changes }) did.changes
    end.fault did.fault (λ unread. did.told (names_nothing e unread)) end.status end.drawing (g.met.D.Desk.steady_tells c.args.desk.now) did.status did.none (not_there (cause_of e) took.no_write) tt
    (λ told. warns_from suffixes words old between new took.changes end.fault (did.warned (ap (λ (s : DeskState). s.tells_warned) took.changes ∙ told)))
    (λ hears. warns_whole_from suffixes words old between new took.changes end.fault (did.whole (heard_later old between new took.changes hears)))

-- ---- a drawing
pub returns-in-Ok-clause-run : goal.returns-in-Ok-clause-run
returns-in-Ok-clause-run g c =
    let state = g.D.Desk.state in
    let suffixes = map (λ b. ((goal.Plotter-dyn g (b.vtable, b.value)).plot b.value).suffix) c.args.extras.items in
    let words = texts c.args.words.now in
    let old = state c.args.desk.now in
    let between = state c.take.new.desk in
    let new = state c.write_drawing.new.desk in
    let drawn = drawn_of c.in-Ok.taken in
    let took = c.in-Ok.ensures in
    let read = took.changes in
    let end = c.write_drawing.result in
    let fault = end.fault in
    let did = c.write_drawing.ensures in
    let still : between.write_faults ≡ old.write_faults = ap (λ (s : DeskState). s.write_faults) read in
    let files : between.files ≡ old.files = ap (λ (s : DeskState). s.files) read in
    record {
      status = did.status;
      answers =
          whole_answer (draw_task suffixes words) (lawful suffixes words) old new fault (g.met.D.Desk.steady_tells c.args.desk.now)
          (λ told. drawn_ends suffixes words old.files drawn (took.answer told) fault did.fault) (λ none files. drawn_ends suffixes words files drawn (took.no_file none files) fault did.fault)
          (drawn_may (named_by words) (some_named (named_by words) (λ (names : Named). c.in-Ok.taken.out ≡ names.out) took.out) fault did.fault)
          (λ told. drawn_in_order suffixes words old.files fault did.fault)
          (drawn_reads fault old.read_faults new.read_faults did.fault (ap (λ (s : DeskState). s.read_faults) did.changes ∙ took.reads))
          (subst (λ (n : ℕ). CountsWrites fault n new.write_faults) still did.writes)
          (λ steady. drawn_misses_none (RunsDraw suffixes words old.files) fault did.fault)
          (λ steady. did.steady (ap (λ (s : DeskState). s.steady) read ∙ steady));
      made = did.drawn;
      part = λ told. made_of end.drawing (λ x. RunsDraw suffixes words old.files (Ok x)) drawn did.made (took.answer told);
      words_made = made_of end.drawing (λ x. IsSomeAnd (named_by words) (λ named. IsOfWords named.job named.part x)) drawn did.made took.by_words;
      firm = λ firm short. did.firm (ap (λ (s : DeskState). s.firm) read ∙ firm) short;
      untouched = subst (λ (f : Files). IfNone end.drawing (new.files ≡ f)) files did.untouched;
      warned = λ told. warns_from suffixes words old between new read fault (did.warned (ap (λ (s : DeskState). s.tells_warned) read ∙ told));
      whole = λ hears. warns_whole_from suffixes words old between new read fault (did.whole (heard_later old between new read hears));
      unwarned = none_undrawn fault end.drawing (new.warned ≡ old.warned) did.drawn;
      changes = only_runs old between new read did.changes;
    }

pub returns-in-Ok-clause-files : goal.returns-in-Ok-clause-files
returns-in-Ok-clause-files g c = λ told.
    let state = g.D.Desk.state in
    let taken = c.in-Ok.taken in
    let rack = boxes_of taken.rack in
    let end = c.write_drawing.result in
    let named = named_by (texts c.args.words.now) in
    let tells = ap (λ (s : DeskState). s.tells) c.in-Ok.ensures.changes ∙ told in
    let before = (state c.args.desk.now).files in
    let after = (state c.write_drawing.new.desk).files in
    let P : Files → Type 0 = λ files. IfSome end.drawing (WritesRack (λ b. (goal.Plotter-dyn g (b.vtable, b.value)).plot b.value) rack end.fault files after taken.out) in
    let left : P before = subst P (ap (λ (s : DeskState). s.files) c.in-Ok.ensures.changes) (c.write_drawing.ensures.files tells) in
    with_held (map (λ b. (goal.Plotter-dyn g (b.vtable, b.value)).plot b.value) c.args.extras.items) named end.fault before after end.drawing
    (writes_named (λ b. (goal.Plotter-dyn g (b.vtable, b.value)).plot b.value) c.args.extras.items rack named taken.out taken.drawing.job.outputs.items end.fault
    before after end.drawing c.in-Ok.ensures.out (same_outputs end.drawing (drawn_of taken) c.write_drawing.ensures.made) c.in-Ok.ensures.plotters left)

pub returns-in-Ok-clause-said : goal.returns-in-Ok-clause-said
returns-in-Ok-clause-said g c =
    let state = g.D.Desk.state in
    let between = state c.take.new.desk in
    let end = c.write_drawing.result in
    let did = c.write_drawing.ensures in
    let same = c.in-Ok.ensures.changes in
    says_made end.drawing end.fault (state c.args.desk.now) between (state c.write_drawing.new.desk) same did.said did.unsaid

pub returns-in-Ok-clause-quiet : goal.returns-in-Ok-clause-quiet
returns-in-Ok-clause-quiet g c =
    let state = g.D.Desk.state in
    let did = c.write_drawing.ensures in
    silent_from (map (λ b. ((goal.Plotter-dyn g (b.vtable, b.value)).plot b.value).suffix) c.args.extras.items) (texts c.args.words.now) (state c.args.desk.now) (state c.take.new.desk) (state c.write_drawing.new.desk) c.in-Ok.ensures.changes
    c.write_drawing.result.fault did.warned did.quiet
