use Rattle.std.proofs.Common.{◌≡◌, Some, refl, sym, ◌∙◌}
use Rattle.std.specs.Prelude.{slice_get}
use Rattle.std.proofs.lemmas.Option.{slice_get_read}
use Rattle.plot_rack.proofs.Firsts.{chosen_more, stay_more, is_missing}
use Rattle.plot_rack.proofs.rack.Rack.choose.Goals as goal

pub returns-in-None-clause-err : goal.returns-in-None-clause-err
returns-in-None-clause-err g c =
    let here : slice_get c.args.names.now c.loop-i.i ≡ Some c.index-names-i.result =
    slice_get_read c.args.names.now _ c.loop-i.i c.index-names-i.result refl c.loop-i-test.true c.index-names-i.is in
    is_missing _ c.args.boxes.items c.args.names.now c.loop-i.i c.index-names-i.result c.as_str.result.now c.loop-i.boxes.items c.loop-i.chosen.items c.requires.different here
    c.loop-i.invariant.done c.loop-i.invariant.rest c.as_str.ensures.same (sym c.in-None.is ∙ c.take_first.ensures.first)

pub loop-i-preserved : goal.loop-i-preserved
loop-i-preserved g c =
    let here : slice_get c.args.names.now c.loop-i.i ≡ Some c.index-names-i.result =
    slice_get_read c.args.names.now _ c.loop-i.i c.index-names-i.result refl c.loop-i-test.true c.index-names-i.is in
    record {
      done = chosen_more _ c.args.boxes.items c.args.names.now c.loop-i.i c.index-names-i.result c.as_str.result.now c.loop-i.boxes.items c.loop-i.chosen.items c.push.new.self.items c.in-Some.plotter
          c.requires.different here c.loop-i.invariant.done c.loop-i.invariant.rest c.as_str.ensures.same (sym c.in-Some.is ∙ c.take_first.ensures.first) c.in_ok-push-in-Some.ensures.items;
      rest = stay_more _ c.args.boxes.items c.args.names.now c.loop-i.i c.index-names-i.result c.as_str.result.now c.loop-i.boxes.items c.take_first.new.boxes.items
          here c.loop-i.invariant.rest c.as_str.ensures.same c.take_first.ensures.others;
    }
