-- What contracts see of a mended part.
use Rattle.mend_core.specs.Mending.{Made, Told, sound_already, by_flips}
use Rattle.mend_core.specs.declared.made.Mended.{Mended}
use Rattle.mend_core.specs.declared.made.Report.{Report}
use Rattle.mend_core.specs.declared.made.Report.TheVariants as report
use Rattle.solid_mesh.specs.Solids.{solid_part}

abbrev pub told_seen : Report → Told
told_seen report.Sound = sound_already
told_seen (report.Mended flips moved pairs) = by_flips flips moved pairs

abbrev pub made_seen : Mended → Made
made_seen m = record { told = told_seen m.report; part = solid_part m.solid }
