use Rattle.std.proofs.Common.{List, Bool, sym, subst, take, ◌+◌}
use Rattle.job_file.specs.declared.view.JobView.{JobView}
use Rattle.line_merge.proofs.Zips.{zip_more}
use Rattle.solid_mesh.specs.Solids.{solid_part}
use Rattle.sheet_layout.specs.Layouts.{AreThrough, IsThrough}
use Rattle.sheet_layout.proofs.through.through_of.Goals as goal

pub loop-view-preserved : goal.loop-view-preserved
loop-view-preserved c =
    let corners = (solid_part c.args.solid.now).corners in
    let views = c.args.views.now in
    let k = c.loop-view.view-index in
    subst (λ (ts : List Bool). AreThrough corners (take (k + 1) views) ts) (sym {A = List Bool} c.in_ok-push.ensures.items)
    (zip_more (λ (v : JobView) (t : Bool). IsThrough corners v.spec t) views c.loop-view.through.items k c.view-item.result c.is_through.result c.loop-view-test.true c.view-item.is c.loop-view.invariant c.is_through.ensures)
