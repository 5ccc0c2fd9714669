use Rattle.std.proofs.Common.{inl, ℕ, List, Option, Some, None, refl, ap, subst, ◌∙◌, string_bytes}
use Rattle.std.specs.Prelude.{IfNone, IfSome}
use Rattle.desk_reasons.specs.Reasons.{MayGive}
use Rattle.desk_reasons.proofs.Given.{given}
use Rattle.mend_core.specs.Hints.{IsToldTo}
use Rattle.mend_core.specs.Lines.{mend_line}
use Rattle.mend_core.specs.Run.{MendsPart, RunsMend, mend_run, mend_task}
use Rattle.mend_core.specs.Seen.{made_seen}
use Rattle.mend_core.specs.Writing.{Writes, summary_way, texts_for}
use Rattle.mend_core.specs.declared.lines.TheConstants.{MEMORY_LINE}
use Rattle.mend_core.specs.declared.made.Mended.{Mended}
use Rattle.mend_core.proofs.Accepted.{accepted}
use Rattle.mend_core.proofs.Answered.{lawful}
use Rattle.mend_core.proofs.Asked.{answers_named, in_order, may_of, of_reading, unmade, unwritten, writing_in_order, writing_told, written_of}
use Rattle.mend_core.proofs.Later.{writes_from}
use Rattle.mend_core.proofs.Putting.{all_of_writing, of_writing}
use Rattle.mend_words.specs.Names.{mend}
use Rattle.mend_words.specs.Seen.{named_seen}
use Rattle.part_input.specs.Faults.{status_of}
use Rattle.part_input.specs.declared.fault.Fault.{Fault}
use Rattle.part_input.specs.declared.fault.Fault.TheVariants.{Memory}
use Rattle.part_input.proofs.Chains.{missing_as, refuses_as}
use Rattle.part_lines.specs.declared.hint.PartHint.TheVariants.{Nothing}
use Rattle.put_texts.specs.Noting.{Notes, NotesWhole}
use Rattle.put_texts.specs.Runs.{IsRun}
use Rattle.put_texts.proofs.Ends.{at_end}
use Rattle.put_texts.proofs.Reasoned.{warns_refused}
use Rattle.put_texts.proofs.Runs.{ended_run, made_unwarned, put_run, refused_run, short_refusal}
use Rattle.solid_mesh.specs.Solids.{solid_part}
use Rattle.solid_mesh.proofs.Facts.{in_range, sound}
use Rattle.mend_core.proofs.run.mend_part.Goals as goal

-- the lines of its files find no memory
pub returns-in-Err-clause-run : goal.returns-in-Err-clause-run
returns-in-Err-clause-run g c =
    let old = g.D.Desk.state c.args.desk.now in
    let new = g.D.Desk.state c.end_by.new.desk in
    let reason = g.D.Reasons.reason in
    let asked = Some (mend (named_seen c.args.request.now)) in
    let did = c.end_by.ensures in
    ended_run (mend_run reason asked) (lawful asked) old old new Memory (short_refusal (mend_task asked) (lawful asked) old old refl refl) did.changes
    c.end_by.result.fault did.fault MEMORY_LINE.now (Nothing, None, tt, refl, refl) c.end_by.result.status c.end_by.result.made (g.met.D.Desk.steady_tells c.args.desk.now) did.status did.none tt tt did.warned did.whole

-- the part is refused
pub returns-in-Err-take-clause-run : goal.returns-in-Err-take-clause-run
returns-in-Err-take-clause-run g c =
    let state = g.D.Desk.state in
    let old = state c.args.desk.now in
    let between = state c.take.new.desk in
    let new = state c.refuse.new.desk in
    let named = named_seen c.args.request.now in
    let reason = g.D.Reasons.reason in
    let known = reason c.take.new.desk in
    let asked = Some (mend named) in
    let e = c.in-Err-take.refusal.fault in
    let hint = c.in-Err-take.refusal.hint in
    let took = c.in-Err-take.ensures in
    let end = c.refuse.result in
    let did = c.refuse.ensures in
    let may = MayGive reason in
    let is = given reason c.take.new.desk in
    let (front, whole) = warns_refused may tt (IsToldTo (Some named)) (mend_line (Some named)) old between new took.changes known is e Memory hint Nothing took.told refl (λ reason. refl) end.fault did.fault did.warned in
    refused_run (mend_run reason asked) (lawful asked) old between new e (record {
      refuses = λ told. refuses_as (MendsPart old.files named) (RunsMend asked old.files) (λ e h. inl h) e (took.answer told);
      alone = λ sample files. refuses_as (MendsPart files named) (RunsMend asked files) (λ e h. inl h) e (took.sample sample files);
      may = answers_named named e took.of_named;
      order = λ told. in_order named e took.of_named;
      reads = took.reads;
      missing = λ steady. missing_as (MendsPart old.files named) (RunsMend asked old.files) (λ e h. inl h) e (took.missing steady);
      no_write = unwritten named e took.of_named;
      read = took.changes;
    }) did.changes end.fault did.fault (λ unread. did.told (of_reading e unread)) end.status end.made (g.met.D.Desk.steady_tells c.args.desk.now) did.status did.none
    (unmade named e took.of_named) tt
    front whole

-- its texts find no memory
pub returns-in-Err-texts_of-clause-run : goal.returns-in-Err-texts_of-clause-run
returns-in-Err-texts_of-clause-run g c =
    let old = g.D.Desk.state c.args.desk.now in
    let between = g.D.Desk.state c.take.new.desk in
    let new = g.D.Desk.state c.end_by-in-Err-texts_of.new.desk in
    let reason = g.D.Reasons.reason in
    let asked = Some (mend (named_seen c.args.request.now)) in
    let took = c.in-Ok-take.ensures in
    let end = c.end_by-in-Err-texts_of.result in
    let did = c.end_by-in-Err-texts_of.ensures in
    ended_run (mend_run reason asked) (lawful asked) old between new Memory (short_refusal (mend_task asked) (lawful asked) old between took.changes took.reads) did.changes
    end.fault did.fault MEMORY_LINE.now (Nothing, None, tt, refl, refl) end.status end.made (g.met.D.Desk.steady_tells c.args.desk.now) did.status did.none tt tt did.warned did.whole

-- its texts are put
pub returns-clause-run : goal.returns-clause-run
returns-clause-run g c =
    let state = g.D.Desk.state in
    let old = state c.args.desk.now in
    let between = state c.take.new.desk in
    let new = state c.put-fault.new.desk in
    let named = named_seen c.args.request.now in
    let reason = g.D.Reasons.reason in
    let asked = Some (mend named) in
    let mended = c.in-Ok-take.mended in
    let took = c.in-Ok-take.ensures in
    let part = c.in-Ok-texts_of.texts.part.items in
    let summary = string_bytes c.in-Ok-texts_of.texts.summary in
    let fault = c.put-fault.result in
    let end = c.ended.result in
    let (why, may, put) = c.put-fault.ensures.put in
    at_end (λ (f : Option Fault) (made : Option Mended). IsRun (mend_run reason asked) end.status f made old new) end.fault fault end.made (Some mended) c.ended.ensures.fault c.ended.ensures.made
    (put_run (mend_run reason asked) (lawful asked) old between new took.changes took.reads (texts_for named.out part summary) (mend_line (Some named) Nothing why) (Some mended) (record {
      gives = λ told. (Some (made_seen mended), (made_seen mended, took.answer told, refl));
      alone = λ sample files. (Some (made_seen mended), (made_seen mended, took.sample sample files, refl));
      words = took.sample;
      part = λ told. (made_seen mended, took.answer told, refl);
      may = λ f is. may_of named f (all_of_writing named part summary f is);
      order = λ f is. writing_in_order named f (of_writing named f part summary is);
      made = λ f is. written_of named f (all_of_writing named part summary f is);
      tells = λ f is. (Nothing, why, may, writing_told named old f (of_writing named f part summary is), refl);
    }) end.status fault (g.met.D.Desk.steady_tells c.args.desk.now)
    (c.ended.ensures.status ∙ ap (λ (f : Option Fault). status_of f) c.ended.ensures.fault) put tt (made_unwarned fault))

pub returns-clause-written : goal.returns-clause-written
returns-clause-written g c =
    let named = named_seen c.args.request.now in
    let texts = c.in-Ok-texts_of.texts in
    let made = c.in-Ok-texts_of.ensures in
    let state = g.D.Desk.state in
    let old = state c.args.desk.now in
    let between = state c.take.new.desk in
    let new = state c.put-fault.new.desk in
    let (why, may, put) = c.put-fault.ensures.put in
    let fault = c.put-fault.result in
    let mended = c.in-Ok-take.mended in
    let Q : Option Fault → Option Mended → Type 0 = λ fault made. IfSome made (λ m. Writes named fault old new (made_seen m)) in
    at_end Q c.ended.result.fault fault c.ended.result.made (Some mended) c.ended.ensures.fault c.ended.ensures.made
    (writes_from old between new c.in-Ok-take.ensures.changes named fault (made_seen mended) (record {
      text = texts.part.items;
      is_text = made.part;
      reads_back = made.reads_back;
      texts = texts_for named.out texts.part.items (string_bytes texts.summary);
      are_texts = ap (λ (s : List ℕ). texts_for named.out texts.part.items s) made.summary;
      files = put.files;
      said = put.said;
      accepted = λ told. accepted named.decimals (solid_part mended.solid) texts.part.items (in_range mended.solid) (sound mended.solid) made.short made.reads_back
          named.out (string_bytes texts.summary) fault between.files new.files (put.files told);
      spared = put.spared;
      silent = put.silent;
      noted = λ told. subst (λ (s : List ℕ). IfNone fault (Notes (summary_way named.out) s between.warned new.warned)) made.summary (c.put-fault.ensures.noted told);
      noted_whole = λ hears. subst (λ (s : List ℕ). IfNone fault (NotesWhole (summary_way named.out) s between.warned new.warned)) made.summary (c.put-fault.ensures.noted_whole hears);
    }))
