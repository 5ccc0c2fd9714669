use Rattle.std.proofs.Common.{List, sym, subst, take, ◌+◌}
use Rattle.std.specs.List.{AllZip}
use Rattle.line_merge.proofs.Zips.{zip_more}
use Rattle.sheet_plan.specs.declared.sheet.Spread.{Spread}
use Rattle.sheet_layout.specs.Layouts.{IsOriginOf}
use Rattle.sheet_layout.proofs.trials.places_of.Goals as goal

pub loop-t-preserved : goal.loop-t-preserved
loop-t-preserved c =
    let all = c.args.standings.now in
    let k = c.loop-t.t-index in
    subst (λ (ps : List Spread). AllZip IsOriginOf (take (k + 1) all) ps) (sym {A = List Spread} c.in_ok-push.ensures.items)
    (zip_more IsOriginOf all c.loop-t.places.items k c.t-item.result c.place_of.result c.loop-t-test.true c.t-item.is c.loop-t.invariant c.place_of.ensures)
