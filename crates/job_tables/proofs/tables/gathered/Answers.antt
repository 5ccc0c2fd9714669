use Rattle.std.proofs.Common.{◌≡◌, ◌∙◌, List, [], map, Vec, Global, ap}
use Rattle.std.specs.Vec.Iter.{into_iter_items}
use Rattle.job_tables.specs.declared.headers.Headed.{Headed}
use Rattle.job_tables.specs.declared.table.JobTable.{JobTable}
use Rattle.job_tables.specs.Faults.{fault_after}
use Rattle.job_tables.specs.Seen.{entry_seen}
use Rattle.job_tables.specs.inner.Headed.{headed_seen}
use Rattle.job_tables.proofs.Placed.{none_placed, stop_at, turn_single, turn_double}
use Rattle.job_tables.proofs.tables.gathered.Goals as goal
use Rattle.job_tables.proofs.tables.gathered.Goals.{in-Single, in-Double+in_ok-push-in-Double}

pub loop-headed-init : goal.loop-headed-init
loop-headed-init c =
    let all = c.into_iter-headed-iterator.ensures.into_iter_gives.0 in
    ([], (ap (map headed_seen) all, ap (λ (ts : List Headed). fault_after [] (map headed_seen ts)) all), none_placed c.new-views.result.items c.new-views.ensures.items)

pub returns-in-Err : goal.returns-in-Err
returns-in-Err c =
    let inv = c.loop-headed.invariant in
    let counted = c.len.ensures ∙ c.loop-headed.views.ok.0 in
    stop_at (map entry_seen c.args.lines.first.items) (map headed_seen c.args.lines.tables.items) inv.0 c.loop-headed.block c.loop-headed.views.items c.in-Some.headed
    (into_iter_items c.loop-headed.headed-iterator) (into_iter_items c.next.new.self) c.is_some.result c.len.result c.in-Err.stop c.in-Some.ensures.steps.0 c.in_ok-check_keys.ensures.value inv.1 inv.2
    c.is_some.ensures counted c.in-Err.ensures.value

items_of : (v w : Vec JobTable Global) → v ≡ w → v.items ≡ w.items
items_of v w is = ap (λ (u : Vec JobTable Global). u.items) is

pub loop-headed-preserved-after-headed-2 : goal.loop-headed-preserved-after-headed-2
loop-headed-preserved-after-headed-2 c =
    let inv = c.loop-headed.invariant in
    let all = map headed_seen c.args.lines.tables.items in
    let now = into_iter_items c.loop-headed.headed-iterator in
    let left = into_iter_items c.next.new.self in
    let counted = c.len.ensures ∙ c.loop-headed.views.ok.0 in
    elim c.match-headed-2.branch [
      | in-Single w ↦ turn_single all inv.0 c.loop-headed.block c.loop-headed.views.items c.in-Some.headed now left w.in-Single.field-0 c.is_some.result c.len.result w.in-Single.is
          c.in-Some.ensures.steps.0 inv.1 inv.2 c.is_some.ensures counted c.in-Ok.ensures.value c.in-Ok.ensures.known c.match-headed-2.block c.match-headed-2.views.items w.block-is
          (items_of _ _ w.views-is)
      | in-Double+in_ok-push-in-Double w ↦ turn_double all inv.0 c.loop-headed.block c.loop-headed.views.items c.in-Some.headed now left w.in-Double.field-0 c.is_some.result c.len.result w.in-Double.is
          c.in-Some.ensures.steps.0 inv.1 inv.2 c.is_some.ensures counted c.in-Ok.ensures.value c.in-Ok.ensures.known c.match-headed-2.block c.match-headed-2.views.items w.block-is
          (items_of _ _ w.views-is ∙ w.in_ok-push-in-Double.ensures.items)
    ]

pub loop-headed-preserved : goal.loop-headed-preserved
loop-headed-preserved c =
    let inv = c.loop-headed.invariant in
    let all = map headed_seen c.args.lines.tables.items in
    let now = into_iter_items c.loop-headed.headed-iterator in
    let left = into_iter_items c.next.new.self in
    let counted = c.len.ensures ∙ c.loop-headed.views.ok.0 in
    elim c.match-headed-2.branch [
      | in-Single w ↦ turn_single all inv.0 c.loop-headed.block c.loop-headed.views.items c.in-Some.headed now left w.in-Single.field-0 c.is_some.result c.len.result w.in-Single.is
          c.in-Some.ensures.steps.0 inv.1 inv.2 c.is_some.ensures counted c.in-Ok.ensures.value c.in-Ok.ensures.known c.match-headed-2.block c.match-headed-2.views.items w.block-is
          (items_of _ _ w.views-is)
      | in-Double+in_ok-push-in-Double w ↦ turn_double all inv.0 c.loop-headed.block c.loop-headed.views.items c.in-Some.headed now left w.in-Double.field-0 c.is_some.result c.len.result w.in-Double.is
          c.in-Some.ensures.steps.0 inv.1 inv.2 c.is_some.ensures counted c.in-Ok.ensures.value c.in-Ok.ensures.known c.match-headed-2.block c.match-headed-2.views.items w.block-is
          (items_of _ _ w.views-is ∙ w.in_ok-push-in-Double.ensures.items)
    ]
