use Rattle.std.proofs.Common.{◌≡◌, Some, refl, sym, ◌∙◌}
use Rattle.std.specs.Prelude.{slice_get}
use Rattle.std.proofs.lemmas.Option.{slice_get_read}
use Rattle.plot_rack.proofs.Firsts.{none_more}
use Rattle.plot_rack.proofs.rack.place_of.Goals as goal

pub loop-i-preserved : goal.loop-i-preserved
loop-i-preserved g c =
    let here : slice_get c.args.boxes.now c.loop-i.i ≡ Some c.index-boxes-i.result =
    slice_get_read c.args.boxes.now _ c.loop-i.i c.index-boxes-i.result refl c.loop-i-test.true c.index-boxes-i.is in
    none_more _ c.args.boxes.now c.loop-i.i c.index-boxes-i.result c.loop-i.invariant here (sym c.has_suffix.ensures ∙ c.if-has_suffix.false)
