-- What contracts see of a job.
use Rattle.std.specs.Prelude.{ℕ, map, option_map}
use Rattle.lattice.specs.Cuts.{plane_of, toward_of}
use Rattle.lattice.specs.Points.{of_dir}
use Rattle.lattice.specs.Triple.{Triple}
use Rattle.lattice.specs.declared.pieces.ViewSpec.{ViewSpec}
use Rattle.lattice.specs.declared.pieces.ViewSpec.TheVariants.{Plain, Section}
use Rattle.job_file.specs.declared.job.Job.{Job}
use Rattle.job_file.specs.declared.job.Scale.{Scale}
use Rattle.job_file.specs.declared.view.JobView.{JobView}
use Rattle.job_file.specs.Documents.{JobValues}
use Rattle.job_file.specs.ViewValues.{Shown, ViewValues, whole, behind}

-- the direction that the part is seen from
abbrev pub direction_seen : ViewSpec → Triple
direction_seen (Plain d) = of_dir d
direction_seen (Section c) = toward_of (plane_of c)

abbrev pub shown : ViewSpec → Shown
shown (Plain d) = whole (of_dir d)
shown (Section c) = behind (plane_of c)

abbrev pub view_seen : JobView → ViewValues
view_seen v = record { shows = shown v.spec; named = v.named }

abbrev pub scale_seen : Scale → ℕ × ℕ
scale_seen s = (s.num, s.den)

abbrev pub job_seen : Job → JobValues
job_seen job = record {
  decimals = job.decimals;
  third = job.third;
  paper = job.paper;
  scale = option_map scale_seen job.scale;
  crease = job.crease;
  title = job.title;
  outputs = job.outputs.items;
  unit = job.unit;
  portrait = job.portrait;
  views = map view_seen job.views.items;
}
