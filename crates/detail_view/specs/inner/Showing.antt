-- What contracts see of what a detail is made of.
use Rattle.job_file.specs.Seen.{job_seen}
use Rattle.solid_mesh.specs.Solids.{solid_part}
use Rattle.detail_view.specs.Run.{Given, viewed}
use Rattle.detail_view.specs.declared.detail.Shown.{Shown}

abbrev pub given_of : Shown → Given
given_of shown = viewed (job_seen shown.job) (solid_part shown.solid)
