-- From where views of a sheet see the whole part.
use Rattle.std.specs.Prelude.{Option, Some, None}
use Rattle.lattice.specs.Points.{of_dir}
use Rattle.lattice.specs.Triple.{Triple}
use Rattle.sheet_job.specs.declared.shown.SheetShown.{SheetShown}
use Rattle.sheet_job.specs.declared.shown.SheetShown.TheVariants.{Plain, Cut}

abbrev pub shown_direction : SheetShown → Option Triple
shown_direction (Plain d) = Some (of_dir d)
shown_direction (Cut c) = None
