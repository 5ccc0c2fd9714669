-- What contracts see of a job of any version, of how a sheet looks, and of what it is drawn from.
use Rattle.std.specs.Prelude.{}
use Rattle.drawing.specs.Drawing.{drawn_in}
use Rattle.job_file.specs.Seen.{job_seen}
use Rattle.sheet_job.specs.SheetSeen.{block_seen, sheet_job_seen}
use Rattle.sheet_job.specs.declared.any.AnyJob.{AnyJob}
use Rattle.sheet_job.specs.declared.any.AnyJob.TheVariants as job
use Rattle.sheet_input.specs.Jobs.{AnyValues, older_job, own_job}
use Rattle.sheet_input.specs.Looks.{Look}
use Rattle.sheet_input.specs.Steps.{DrawnSheet}
use Rattle.sheet_input.specs.declared.look.SheetLook.{SheetLook}
use Rattle.sheet_input.specs.declared.take.SheetInput.{SheetInput}

abbrev pub any_seen : AnyJob → AnyValues
any_seen (job.Older j) = older_job (job_seen j)
any_seen (job.Own j) = own_job (sheet_job_seen j)

abbrev pub look_seen : SheetLook → Look
look_seen look = record { block = block_seen look.block; hidden = look.hidden.items; titles = look.titles.items; fitted = look.fitted; in_units = look.in_units }

abbrev pub input_seen : SheetInput → DrawnSheet
input_seen input = record { drawn = drawn_in input.drawing; look = look_seen input.look; wish = input.wish }
