use Rattle.std.proofs.Common.{◌≡◌, Some, refl, sym, ◌∙◌}
use Rattle.std.specs.Prelude.{slice_get}
use Rattle.std.proofs.lemmas.Option.{slice_get_read}
use Rattle.desk.proofs.Places.{none_more, place_at}
use Rattle.desk.proofs.files.place_of.Goals as goal

pub returns-then-eq-clause-found : goal.returns-then-eq-clause-found
returns-then-eq-clause-found g c =
    let here : slice_get c.args.named.now c.loop-i.i ≡ Some c.index-named-i.result =
    slice_get_read c.args.named.now _ c.loop-i.i c.index-named-i.result refl c.loop-i-test.true c.index-named-i.is in
    place_at c.args.named.now c.args.name.now _ c.loop-i.i _ c.loop-i.invariant here c.as_str.ensures.same (sym c.eq.ensures ∙ c.if-eq.true)

pub loop-i-preserved : goal.loop-i-preserved
loop-i-preserved g c =
    let here : slice_get c.args.named.now c.loop-i.i ≡ Some c.index-named-i.result =
    slice_get_read c.args.named.now _ c.loop-i.i c.index-named-i.result refl c.loop-i-test.true c.index-named-i.is in
    none_more c.args.named.now c.args.name.now _ c.loop-i.i _ c.loop-i.invariant here c.as_str.ensures.same (sym c.eq.ensures ∙ c.if-eq.false)
