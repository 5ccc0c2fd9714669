use Rattle.std.proofs.Common.{refl, sym, subst, List, Bool}
use Rattle.job_file.specs.declared.view.JobView.{JobView}
use Rattle.solid_mesh.specs.Solids.{solid_part}
use Rattle.sheet_plan.specs.Extents.{AreExtents}
use Rattle.sheet_plan.specs.declared.bounds.Extent.{Extent}
use Rattle.sheet_layout.specs.Layouts.{AreThrough, case_of}
use Rattle.sheet_layout.proofs.Answered.{answered, refused, apart, in_frame, places, on_paper, in_line, on_sides}
use Rattle.sheet_layout.proofs.layout.lay_out.Goals as goal

pub returns-clause-laid : goal.returns-clause-laid
returns-clause-laid c =
    answered c.args.job.now (solid_part c.args.solid.now).corners c.args.sides.now c.args.wish (case_of c.args.job.now c.deref-3.result.now c.args.sides.now c.deref-4.result.now) (record { job_is = refl; through = subst (λ (ts : List Bool). AreThrough (solid_part c.args.solid.now).corners c.args.job.now.views.items ts) (sym c.deref-3.ensures.value) (subst (λ (vs : List JobView). AreThrough (solid_part c.args.solid.now).corners vs c.in_ok-through.through.items) c.deref-2.ensures.value c.in_ok-through.ensures); sides_are = refl; reach = subst (λ (es : List Extent). AreExtents (solid_part c.args.solid.now).corners c.args.job.now.views.items es) (sym c.deref-4.ensures.value) (subst (λ (vs : List JobView). AreExtents (solid_part c.args.solid.now).corners vs c.in_ok-extents.extents.items) c.deref.ensures.value c.in_ok-extents.ensures) }) c.laid_out.result c.laid_out.ensures.laid

pub returns-clause-refused : goal.returns-clause-refused
returns-clause-refused c =
    refused c.args.job.now (solid_part c.args.solid.now).corners c.args.sides.now c.args.wish (case_of c.args.job.now c.deref-3.result.now c.args.sides.now c.deref-4.result.now) (record { job_is = refl; through = subst (λ (ts : List Bool). AreThrough (solid_part c.args.solid.now).corners c.args.job.now.views.items ts) (sym c.deref-3.ensures.value) (subst (λ (vs : List JobView). AreThrough (solid_part c.args.solid.now).corners vs c.in_ok-through.through.items) c.deref-2.ensures.value c.in_ok-through.ensures); sides_are = refl; reach = subst (λ (es : List Extent). AreExtents (solid_part c.args.solid.now).corners c.args.job.now.views.items es) (sym c.deref-4.ensures.value) (subst (λ (vs : List JobView). AreExtents (solid_part c.args.solid.now).corners vs c.in_ok-extents.extents.items) c.deref.ensures.value c.in_ok-extents.ensures) }) c.laid_out.result c.laid_out.ensures.refused

pub returns-clause-apart : goal.returns-clause-apart
returns-clause-apart c =
    apart c.args.job.now (solid_part c.args.solid.now).corners c.args.sides.now c.args.wish (case_of c.args.job.now c.deref-3.result.now c.args.sides.now c.deref-4.result.now) (record { job_is = refl; through = subst (λ (ts : List Bool). AreThrough (solid_part c.args.solid.now).corners c.args.job.now.views.items ts) (sym c.deref-3.ensures.value) (subst (λ (vs : List JobView). AreThrough (solid_part c.args.solid.now).corners vs c.in_ok-through.through.items) c.deref-2.ensures.value c.in_ok-through.ensures); sides_are = refl; reach = subst (λ (es : List Extent). AreExtents (solid_part c.args.solid.now).corners c.args.job.now.views.items es) (sym c.deref-4.ensures.value) (subst (λ (vs : List JobView). AreExtents (solid_part c.args.solid.now).corners vs c.in_ok-extents.extents.items) c.deref.ensures.value c.in_ok-extents.ensures) }) c.laid_out.result c.laid_out.ensures.laid

pub returns-clause-in_frame : goal.returns-clause-in_frame
returns-clause-in_frame c =
    in_frame c.args.job.now (solid_part c.args.solid.now).corners c.args.sides.now c.args.wish (case_of c.args.job.now c.deref-3.result.now c.args.sides.now c.deref-4.result.now) (record { job_is = refl; through = subst (λ (ts : List Bool). AreThrough (solid_part c.args.solid.now).corners c.args.job.now.views.items ts) (sym c.deref-3.ensures.value) (subst (λ (vs : List JobView). AreThrough (solid_part c.args.solid.now).corners vs c.in_ok-through.through.items) c.deref-2.ensures.value c.in_ok-through.ensures); sides_are = refl; reach = subst (λ (es : List Extent). AreExtents (solid_part c.args.solid.now).corners c.args.job.now.views.items es) (sym c.deref-4.ensures.value) (subst (λ (vs : List JobView). AreExtents (solid_part c.args.solid.now).corners vs c.in_ok-extents.extents.items) c.deref.ensures.value c.in_ok-extents.ensures) }) c.laid_out.result c.laid_out.ensures.laid

pub returns-clause-places : goal.returns-clause-places
returns-clause-places c =
    places c.args.job.now (solid_part c.args.solid.now).corners c.args.sides.now c.args.wish (case_of c.args.job.now c.deref-3.result.now c.args.sides.now c.deref-4.result.now) (record { job_is = refl; through = subst (λ (ts : List Bool). AreThrough (solid_part c.args.solid.now).corners c.args.job.now.views.items ts) (sym c.deref-3.ensures.value) (subst (λ (vs : List JobView). AreThrough (solid_part c.args.solid.now).corners vs c.in_ok-through.through.items) c.deref-2.ensures.value c.in_ok-through.ensures); sides_are = refl; reach = subst (λ (es : List Extent). AreExtents (solid_part c.args.solid.now).corners c.args.job.now.views.items es) (sym c.deref-4.ensures.value) (subst (λ (vs : List JobView). AreExtents (solid_part c.args.solid.now).corners vs c.in_ok-extents.extents.items) c.deref.ensures.value c.in_ok-extents.ensures) }) c.requires c.laid_out.result c.laid_out.ensures.laid

pub returns-clause-on_paper : goal.returns-clause-on_paper
returns-clause-on_paper c =
    λ none. on_paper c.args.job.now (solid_part c.args.solid.now).corners c.args.sides.now c.args.wish (case_of c.args.job.now c.deref-3.result.now c.args.sides.now c.deref-4.result.now) (record { job_is = refl; through = subst (λ (ts : List Bool). AreThrough (solid_part c.args.solid.now).corners c.args.job.now.views.items ts) (sym c.deref-3.ensures.value) (subst (λ (vs : List JobView). AreThrough (solid_part c.args.solid.now).corners vs c.in_ok-through.through.items) c.deref-2.ensures.value c.in_ok-through.ensures); sides_are = refl; reach = subst (λ (es : List Extent). AreExtents (solid_part c.args.solid.now).corners c.args.job.now.views.items es) (sym c.deref-4.ensures.value) (subst (λ (vs : List JobView). AreExtents (solid_part c.args.solid.now).corners vs c.in_ok-extents.extents.items) c.deref.ensures.value c.in_ok-extents.ensures) }) none c.laid_out.result c.laid_out.ensures.laid

pub returns-clause-in_line : goal.returns-clause-in_line
returns-clause-in_line c =
    in_line c.args.job.now (solid_part c.args.solid.now).corners c.args.sides.now c.args.wish (case_of c.args.job.now c.deref-3.result.now c.args.sides.now c.deref-4.result.now) c.laid_out.result c.laid_out.ensures.laid

pub returns-clause-beside : goal.returns-clause-beside
returns-clause-beside c =
    on_sides c.args.job.now (solid_part c.args.solid.now).corners c.args.sides.now c.args.wish (case_of c.args.job.now c.deref-3.result.now c.args.sides.now c.deref-4.result.now) c.laid_out.result c.laid_out.ensures.laid
