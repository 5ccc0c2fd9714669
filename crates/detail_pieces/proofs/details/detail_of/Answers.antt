use Rattle.integers.proofs.Lists.{some_element}
use Rattle.lattice.specs.Points.{of_dir}
use Rattle.detail_pieces.proofs.ViewDetails.{strips_along, detail_merged, order_merged}
use Rattle.detail_pieces.proofs.details.detail_of.Goals as goal

pub clip-requires : goal.clip-requires
clip-requires c =
    let job = c.args.job.now in
    let (asked, is_view) = some_element job.views.items c.args.view c.requires in
    strips_along c.args.solid.now job asked.spec c.args.window.now c.in_ok-strips.strips.items c.deref.result.now (c.in_ok-strips.ensures asked is_view) c.deref.ensures.value
    (of_dir c.view_dir-d.result) (c.view_dir-d.ensures asked is_view)

pub returns-clause-detail : goal.returns-clause-detail
returns-clause-detail c = λ asked is_view.
    detail_merged c.args.solid.now c.args.job.now asked.spec c.args.window.now c.in_ok-strips.strips.items c.deref.result.now (c.in_ok-strips.ensures asked is_view) c.deref.ensures.value
    (of_dir c.view_dir-d.result) (c.view_dir-d.ensures asked is_view) c.in_ok-clipped.clipped.items
    c.deref-2.result.now c.in_ok-clipped.ensures c.deref-2.ensures.value c.merge.result c.merge.ensures

pub returns-clause-order : goal.returns-clause-order
returns-clause-order c = λ asked is_view.
    order_merged c.args.solid.now c.args.job.now asked.spec c.args.window.now c.in_ok-strips.strips.items c.deref.result.now (c.in_ok-strips.ensures asked is_view) c.deref.ensures.value
    (of_dir c.view_dir-d.result) (c.view_dir-d.ensures asked is_view) c.in_ok-clipped.clipped.items
    c.deref-2.result.now c.in_ok-clipped.ensures c.deref-2.ensures.value c.merge.result c.merge.ensures
