use Rattle.std.proofs.Common.{length, ap, sym, ◌∙◌}
use Rattle.solid_mesh.specs.Solids.{solid_part}
use Rattle.job_file.specs.declared.view.JobView.{JobView}
use Rattle.sheet_plan.specs.declared.bounds.Extent.{Extent}
use Rattle.sheet_plan.proofs.JobSheets.{as_many_extents}
use Rattle.part_input.proofs.sheets.sheet_of.Goals as goal

pub plan-requires : goal.plan-requires
plan-requires c =
    let views = ap (length {A = JobView}) c.deref.ensures.value in
    let extents = ap (length {A = Extent}) c.deref-2.ensures.value in
    sym (extents ∙ as_many_extents (solid_part c.args.solid.now).corners c.deref.result.now c.in-Ok.extents.items c.in-Ok.ensures ∙ views)
