use Rattle.std.proofs.Common.{inl, ℕ, List, Option, None, Some, refl, ap, subst, ◌∙◌, string_bytes}
use Rattle.std.specs.Prelude.{IfNone, IfSome}
use Rattle.job_file.specs.Seen.{job_seen}
use Rattle.job_writer.specs.PlainJobs.{plain_job}
use Rattle.part_input.specs.declared.fault.Fault.TheVariants.{Memory}
use Rattle.part_input.proofs.Chains.{missing_more, refuses_more}
use Rattle.put_texts.specs.Noting.{Notes, NotesWhole}
use Rattle.put_texts.specs.Runs.{IsRun}
use Rattle.put_texts.proofs.Ends.{at_end}
use Rattle.put_texts.proofs.Runs.{ended_run, made_unwarned, put_run, refused_run, short_refusal}
use Rattle.sheet_input.specs.Faults.{sheet_faults, status_of}
use Rattle.sheet_input.specs.Seen.{input_seen}
use Rattle.sheet_input.specs.Steps.{DrawsSheet}
use Rattle.sheet_core.specs.Run.{RunsSheet, sheet_run, sheet_task}
use Rattle.sheet_core.specs.Writing.{Writes, listed, page_text, summary_way, texts_for}
use Rattle.sheet_input.specs.declared.fault.SheetFault.{SheetFault}
use Rattle.sheet_input.specs.declared.fault.SheetFault.TheVariants.{Common}
use Rattle.sheet_input.specs.declared.refusal.Told.TheVariants.{Nothing}
use Rattle.sheet_input.specs.declared.take.SheetInput.{SheetInput}
use Rattle.sheet_core.specs.declared.refusals.TheConstants.{MEMORY_LINE}
use Rattle.sheet_core.specs.Refusals.{fault_line}
use Rattle.sheet_core.proofs.Answered.{lawful}
use Rattle.sheet_core.proofs.Asked.{answers_files, in_order, may_of, of_reading, undrawn_files, unwritten_files, writing_in_order, written_of}
use Rattle.sheet_core.proofs.Putting.{all_of_writing, of_writing}
use Rattle.put_texts.proofs.Reasoned.{warns_refused}
use Rattle.desk_reasons.proofs.Given.{given}
use Rattle.desk_reasons.specs.Reasons.{MayGive}
use Rattle.sheet_core.specs.Lines.{IsToldTo}
use Rattle.sheet_core.proofs.Warned.{writes_from, writing_line}
use Rattle.sheet_list.specs.Lists.{list_text}
use Rattle.sheet_words.specs.Names.{sheet}
use Rattle.sheet_words.specs.Seen.{named_seen}
use Rattle.sheet_core.proofs.run.draw_sheet.Goals as goal

-- the lines of files that can't be read found no memory
pub returns-in-Err-clause-run : goal.returns-in-Err-clause-run
returns-in-Err-clause-run g c =
    let old = g.D.Desk.state c.args.desk.now in
    let new = g.D.Desk.state c.end_by.new.desk in
    let reason = g.D.Reasons.reason in
    let asked = Some (sheet (named_seen c.args.request)) in
    let did = c.end_by.ensures in
    ended_run (sheet_run reason asked) (lawful asked) old old new (Common Memory) (short_refusal (sheet_task asked) (lawful asked) old old refl refl) did.changes
    c.end_by.result.fault did.fault MEMORY_LINE.now (Nothing, None, tt, refl, refl) c.end_by.result.status c.end_by.result.made (g.met.D.Desk.steady_tells c.args.desk.now) did.status did.none tt tt did.warned did.whole

-- the part is refused
pub returns-in-Err-take_sheet-clause-run : goal.returns-in-Err-take_sheet-clause-run
returns-in-Err-take_sheet-clause-run g c =
    let state = g.D.Desk.state in
    let old = state c.args.desk.now in
    let between = state c.take_sheet.new.desk in
    let new = state c.refuse.new.desk in
    let named = named_seen c.args.request in
    let reason = g.D.Reasons.reason in
    let asked = Some (sheet named) in
    let e = c.in-Err-take_sheet.refusal.fault in
    let told = c.in-Err-take_sheet.refusal.told in
    let took = c.in-Err-take_sheet.ensures in
    let end = c.refuse.result in
    let did = c.refuse.ensures in
    let steps = DrawsSheet old.files named in
    let desk = c.take_sheet.new.desk in
    let (front, whole) = warns_refused (MayGive reason) tt (IsToldTo (Some named)) (fault_line (Some named)) old between new took.changes (reason desk) (given reason desk) e (Common Memory) told Nothing took.told refl (λ reason. refl)
    end.fault did.fault did.warned in
    refused_run (sheet_run reason asked) (lawful asked) old between new e (record {
      refuses = λ tells. refuses_more sheet_faults steps (RunsSheet asked old.files) (λ e h. inl h) e (took.answer tells);
      alone = λ none files. refuses_more sheet_faults (DrawsSheet files named) (RunsSheet asked files) (λ e h. inl h) e (took.no_file none files);
      may = answers_files named e took.of_files;
      order = λ tells. in_order named old.files e (took.order tells);
      reads = took.reads;
      missing = λ steady. missing_more sheet_faults steps (RunsSheet asked old.files) (λ e h. inl h) e (took.missing steady);
      no_write = unwritten_files named.part named.job e took.of_files;
      read = took.changes;
    }) did.changes end.fault did.fault (λ unread. did.told (of_reading e unread)) end.status end.made (g.met.D.Desk.steady_tells c.args.desk.now) did.status did.none
    (undrawn_files named.part named.job e took.of_files) tt
    front whole

-- its texts find no memory
pub returns-in-Err-texts_of-clause-run : goal.returns-in-Err-texts_of-clause-run
returns-in-Err-texts_of-clause-run g c =
    let old = g.D.Desk.state c.args.desk.now in
    let between = g.D.Desk.state c.take_sheet.new.desk in
    let new = g.D.Desk.state c.end_by-in-Err-texts_of.new.desk in
    let reason = g.D.Reasons.reason in
    let asked = Some (sheet (named_seen c.args.request)) in
    let took = c.in-Ok-take_sheet.ensures in
    let did = c.end_by-in-Err-texts_of.ensures in
    ended_run (sheet_run reason asked) (lawful asked) old between new (Common Memory) (short_refusal (sheet_task asked) (lawful asked) old between took.changes took.reads) did.changes
    c.end_by-in-Err-texts_of.result.fault did.fault MEMORY_LINE.now (Nothing, None, tt, refl, refl) c.end_by-in-Err-texts_of.result.status c.end_by-in-Err-texts_of.result.made (g.met.D.Desk.steady_tells c.args.desk.now) did.status did.none tt tt did.warned did.whole

-- its texts are put
pub returns-clause-run : goal.returns-clause-run
returns-clause-run g c =
    let state = g.D.Desk.state in
    let old = state c.args.desk.now in
    let between = state c.take_sheet.new.desk in
    let new = state c.put-fault.new.desk in
    let named = named_seen c.args.request in
    let reason = g.D.Reasons.reason in
    let asked = Some (sheet named) in
    let input = c.in-Ok-take_sheet.input in
    let took = c.in-Ok-take_sheet.ensures in
    let texts = c.in-Ok-texts_of.texts in
    let page = texts.page.items in
    let list = texts.list.items in
    let plain = texts.plain.items in
    let summary = string_bytes texts.summary in
    let fault = c.put-fault.result in
    let end = c.ended.result in
    let (why, may, put) = c.put-fault.ensures.put in
    at_end (λ (f : Option SheetFault) (made : Option SheetInput). IsRun (sheet_run reason asked) end.status f made old new) end.fault fault end.made (Some input) c.ended.ensures.fault c.ended.ensures.made
    (put_run (sheet_run reason asked) (lawful asked) old between new took.changes took.reads (texts_for named page list plain summary) (fault_line (Some named) Nothing why) (Some input) (record {
      gives = λ told. (Some (input_seen input), (input_seen input, took.answer told, refl));
      alone = λ none files. (Some (input_seen input), (input_seen input, took.no_file none files, refl));
      words = took.by_words;
      part = λ told. (input_seen input, took.answer told, refl);
      may = λ f is. may_of named f (all_of_writing named page list plain summary f is);
      order = λ f is. writing_in_order named old.files f (of_writing named f page list plain summary is);
      made = λ f is. written_of named f (all_of_writing named page list plain summary f is);
      tells = λ f is. writing_line named old between new took.changes reason why may f (of_writing named f page list plain summary is);
    }) end.status fault (g.met.D.Desk.steady_tells c.args.desk.now)
    (c.ended.ensures.status ∙ ap (λ (f : Option SheetFault). status_of f) c.ended.ensures.fault) put tt (made_unwarned fault))

pub returns-clause-written : goal.returns-clause-written
returns-clause-written g c =
    let named = named_seen c.args.request in
    let texts = c.in-Ok-texts_of.texts in
    let made = c.in-Ok-texts_of.ensures in
    let shown = made.shown in
    let state = g.D.Desk.state in
    let old = state c.args.desk.now in
    let between = state c.take_sheet.new.desk in
    let new = state c.put-fault.new.desk in
    let (why, may, put) = c.put-fault.ensures.put in
    let fault = c.put-fault.result in
    let input = c.in-Ok-take_sheet.input in
    let list = texts.list.items in
    let plain = texts.plain.items in
    let shown_text = page_text named.out shown.page in
    let shown_list = listed named.list (list_text input.drawing.job input.drawing.sheet shown.drawn.items shown.strokes.items) in
    let Q : Option SheetFault → Option SheetInput → Type 0 = λ fault made. IfSome made (Writes named fault old new) in
    at_end Q c.ended.result.fault fault c.ended.result.made (Some input) c.ended.ensures.fault c.ended.ensures.made
    (writes_from named old between new c.in-Ok-take_sheet.ensures.changes fault input (record {
      page = shown.page;
      strokes = shown.strokes.items;
      marks = shown.marks.items;
      drawn = shown.drawn.items;
      covered = shown.covered;
      shows = made.shows;
      texts = texts_for named texts.page.items list plain (string_bytes texts.summary);
      are_texts = ap (λ (page : List ℕ). texts_for named page list plain (string_bytes texts.summary)) made.text
          ∙ ap (λ (l : List ℕ). texts_for named shown_text l plain (string_bytes texts.summary)) made.list
          ∙ ap (λ (p : List ℕ). texts_for named shown_text shown_list p (string_bytes texts.summary)) made.plain
          ∙ ap (λ (s : List ℕ). texts_for named shown_text shown_list (listed named.plain (plain_job (job_seen input.drawing.job))) s) made.summary;
      files = put.files;
      said = put.said;
      spared = put.spared;
      silent = put.silent;
      noted = λ told. subst (λ (s : List ℕ). IfNone fault (Notes (summary_way named) s between.warned new.warned)) made.summary (c.put-fault.ensures.noted told);
      noted_whole = λ hears. subst (λ (s : List ℕ). IfNone fault (NotesWhole (summary_way named) s between.warned new.warned)) made.summary (c.put-fault.ensures.noted_whole hears);
    }))
