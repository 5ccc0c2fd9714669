-- When the views of a job don't fit at one scale.
use Rattle.std.specs.Prelude.{ℕ, List}
use Rattle.job_file.specs.declared.job.Job.{Job}
use Rattle.sheet_plan.specs.declared.bounds.Extent.{Extent}
use Rattle.sheet_plan.specs.declared.errors.PlanError.{PlanError}
use Rattle.sheet_plan.specs.declared.errors.PlanError.TheVariants.{DoesNotFit, Memory}
use Rattle.sheet_plan.specs.Plans.{HasNoRoom}

-- memory ran out, or there is no room
abbrev pub IsRefusedAt : Job → List Extent → ℕ → ℕ → PlanError → Type 0
IsRefusedAt job extents num den (DoesNotFit w h room_w room_h) = HasNoRoom job extents num den w h room_w room_h
IsRefusedAt job extents num den (Memory e) = Unit {0}
