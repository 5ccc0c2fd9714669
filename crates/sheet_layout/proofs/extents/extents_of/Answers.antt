use Rattle.std.proofs.Common.{List, sym, subst, take, ◌+◌}
use Rattle.job_file.specs.Seen.{direction_seen}
use Rattle.job_file.specs.declared.view.JobView.{JobView}
use Rattle.lattice.specs.Triple.{Triple}
use Rattle.line_merge.proofs.Zips.{zip_more}
use Rattle.solid_mesh.specs.Solids.{solid_part}
use Rattle.sheet_plan.specs.declared.bounds.Extent.{Extent}
use Rattle.sheet_plan.specs.Extents.{IsExtent, AreExtents}
use Rattle.sheet_layout.proofs.extents.extents_of.Goals as goal

pub loop-view-preserved : goal.loop-view-preserved
loop-view-preserved c =
    let corners = (solid_part c.args.solid.now).corners in
    let views = c.args.views.now in
    let k = c.loop-view.view-index in
    subst (λ (es : List Extent). AreExtents corners (take (k + 1) views) es) (sym {A = List Extent} c.in_ok-push.ensures.items)
    (zip_more (λ (v : JobView) (e : Extent). IsExtent (direction_seen v.spec) corners e) views c.loop-view.extents.items k c.view-item.result c.extent.result c.loop-view-test.true c.view-item.is c.loop-view.invariant
    (subst (λ (d : Triple). IsExtent d corners c.extent.result) c.dir.ensures c.extent.ensures))
