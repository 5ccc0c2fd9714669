use Rattle.std.proofs.Common.{ℕ, List, [], ◌∷◌, ◌++◌, Some, refl, sym, subst, ap, ◌∙◌}
use Rattle.std.proofs.lemmas.Option.{slice_get-get_or}
use Rattle.solid_mesh.specs.Solids.{solid_part}
use Rattle.cut_marks.specs.Letters.{IsLetterOf}
use Rattle.cut_marks.specs.Traces.{AreTraces}
use Rattle.cut_marks.specs.Traces.AreTraces.{seen, unseen}
use Rattle.cut_marks.specs.declared.ways.Trace.{Trace}
use Rattle.cut_marks.proofs.traces.add_trace.Goals as goal

pub returns-in_ok-push : goal.returns-in_ok-push
returns-in_ok-push c = λ cuts n are.
    let sheet = c.args.sheet.now in
    let place = c.index.result.now in
    let stands = slice_get-get_or sheet.places.items c.args.view place c.requires.placed ∙ ap Some (sym c.index.ensures) in
    let t = c.trace_on.result in
    let on = c.trace_on.ensures place stands in
    subst (λ (ts : List Trace). AreTraces sheet (solid_part c.args.solid.now) c.args.view (cuts ++ c.args.cut.now ∷ []) ts) (sym c.in_ok-push.ensures.items)
    (seen cuts c.args.cut.now c.args.traces.now.items t are (record {
      place = place;
      stands = stands;
      seen = c.is_seen.ensures.seen c.if-is_seen.true;
      lettered = subst (λ (k : ℕ). IsLetterOf k t.letter) n (subst (IsLetterOf c.args.number) (sym on.letter_is) c.letter_of.ensures);
      on = record { letter_is = refl; way = on.way; at = on.at };
    }))

pub returns-else-is_seen : goal.returns-else-is_seen
returns-else-is_seen c = λ cuts n are.
    let sheet = c.args.sheet.now in
    let place = c.index.result.now in
    let stands = slice_get-get_or sheet.places.items c.args.view place c.requires.placed ∙ ap Some (sym c.index.ensures) in
    unseen cuts c.args.cut.now c.args.traces.now.items are (record {
      place = place;
      stands = stands;
      unseen = λ (sight, has). c.is_seen.ensures.unseen c.if-is_seen.false sight has;
    })
