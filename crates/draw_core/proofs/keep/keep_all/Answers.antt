use Rattle.std.proofs.Common.{◌≡◌, ◌+◌, ◌++◌, [], ◌∷◌, map, take, Some, refl, ap, ◌∙◌, rules}
use Rattle.std.specs.Prelude.{slice_get}
use Rattle.std.proofs.lemmas.List.{map_more}
use Rattle.std.proofs.lemmas.Option.{slice_get_read, get_or_from_slice_get}
use Rattle.desk.specs.Files.{DeskState}
use Rattle.draw_core.specs.inner.Made.{file_seen}
use Rattle.draw_core.proofs.Keeping.{keeps_output, leaves_at}
use Rattle.draw_core.proofs.keep.keep_all.Goals as goal

pub returns-in-Some-clause-files : goal.returns-in-Some-clause-files
returns-in-Some-clause-files g c = λ told.
    let state = g.D.Desk.state in
    let outputs = c.args.outputs.now in
    let i = c.loop-output.output-index in
    let here : slice_get outputs i ≡ Some c.output-item.result = slice_get_read outputs _ i c.output-item.result refl c.loop-output-test.true c.output-item.is in
    let tells = ap (λ (s : DeskState). s.tells) c.loop-output.invariant.changed ∙ told in
    leaves_at outputs i c.in-Some.fault (state c.args.desk.now).files (state c.loop-output.desk).files (state c.keep_output.new.desk).files c.output-item.result c.requires here
    (c.loop-output.invariant.kept told) (c.in-Some.ensures.files tells)

pub loop-output-preserved : goal.loop-output-preserved
loop-output-preserved g c =
    let state = g.D.Desk.state in
    let outputs = c.args.outputs.now in
    let i = c.loop-output.output-index in
    let x = c.output-item.result in
    let here : slice_get outputs i ≡ Some x = slice_get_read outputs _ i x refl c.loop-output-test.true c.output-item.is in
    let more : map file_seen (take (i + 1) outputs) ≡ map file_seen (take i outputs) ++ file_seen x ∷ [] =
    map_more file_seen outputs i x c.loop-output-test.true ∙ ap (λ y. map file_seen (take i outputs) ++ file_seen y ∷ []) (get_or_from_slice_get outputs i x x here) in
    record {
      changed = search rules;
      kept = λ told.
          let tells = ap (λ (s : DeskState). s.tells) c.loop-output.invariant.changed ∙ told in
          keeps_output outputs i (state c.args.desk.now).files (state c.loop-output.desk).files (state c.keep_output.new.desk).files x more
          (c.loop-output.invariant.kept told) (c.in-None.ensures.files tells);
    }
