-- How many views a drawing has.
use Rattle.std.proofs.Common.{◌≡◌, ◌≤◌, length, arith}
use Rattle.std.proofs.lemmas.Slice.Zip.{AllZip-long}
use Rattle.job_file.specs.ShownCuts.{planes_in}
use Rattle.drawing.specs.Drawing.{ShowsJobView, spacing_on, IsDrawing}
use Rattle.drawing.specs.declared.drawn.Drawing.{Drawing}

-- as many views were drawn as were asked for
as_many_views : (d : Drawing) → IsDrawing d → length d.views.items ≡ length d.job.views.items
as_many_views d is = AllZip-long (ShowsJobView d.solid d.job.crease (planes_in d.job.views.items) (spacing_on d.sheet)) d.job.views.items d.views.items is.views

pub few : (d : Drawing) → IsDrawing d → length d.views.items ≤ 12
few d is = omega (arith, as_many_views d is, d.job.few_views)

pub placed : (d : Drawing) → IsDrawing d → length d.views.items ≤ length d.sheet.places.items
placed d is = omega (arith, as_many_views d is, is.placed.count)

pub as_many_placed : (d : Drawing) → IsDrawing d → length d.views.items ≡ length d.sheet.places.items
as_many_placed d is = omega (arith, as_many_views d is, is.placed.count)
