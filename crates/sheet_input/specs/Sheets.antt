-- The sheet that a job's views of a part are laid out on, and why there may be none.
use Rattle.std.specs.Prelude.{◌≡◌, true, false, if◌then◌else◌, find, List, Some, Result, Ok, Err}
use Rattle.cut_marks.specs.AskedSides.{sides_for}
use Rattle.geometry.specs.Parts.{Part}
use Rattle.job_file.specs.Documents.{JobValues}
use Rattle.job_file.specs.Seen.{job_seen}
use Rattle.job_file.specs.declared.job.Job.{Job}
use Rattle.job_file.specs.declared.job.Paper.{Paper}
use Rattle.lattice.specs.declared.points.Corner.{Corner}
use Rattle.sheet_layout.specs.Layouts.{Case, HasNoRoom, IsCaseOf, fits, paper_of, plans_for}
use Rattle.sheet_layout.specs.declared.layout.NoRoom.{NoRoom}
use Rattle.sheet_layout.specs.declared.layout.Wish.{Wish}
use Rattle.sheet_plan.specs.JobSheets.{Drawn}
use Rattle.sheet_input.specs.Jobs.{AnyValues, older_job, own_job}
use Rattle.sheet_input.specs.declared.fault.SheetFault.{SheetFault}
use Rattle.sheet_input.specs.declared.fault.SheetFault.TheVariants.{NoRoom as Lacking}

-- ---- what a job asks of its layout
-- a job of version 3 may leave the paper to the layout
abbrev pub wish_of : AnyValues → Wish
wish_of (older_job values) = record { any_paper = false; older = true }
wish_of (own_job values) = record { any_paper = values.any_paper; older = false }

-- the job on another paper
abbrev pub on_paper : Paper → JobValues → JobValues
on_paper paper job = record {
  decimals = job.decimals;
  third = job.third;
  paper = paper;
  scale = job.scale;
  crease = job.crease;
  title = job.title;
  outputs = job.outputs;
  unit = job.unit;
  portrait = job.portrait;
  views = job.views;
}

-- the job that is drawn: where any paper will do, it has that of its sheet
abbrev pub job_on : Wish → Paper → JobValues → JobValues
job_on w paper job = if w.any_paper then on_paper paper job else job

-- ---- the sheet
-- the job's views of the part have room by some plan, and are drawn on the paper of the first one
pub record HasLayout (w : Wish) (values : JobValues) (part : Part) (drawn : Drawn) : Type 0 where
  pub job : Job
  pub seen : job_seen job ≡ values
  pub laid : Case
  pub of_job : IsCaseOf job part.corners (sides_for job) laid
  pub paper : Paper
  pub first : paper_of (find (fits laid) (plans_for w job)) ≡ Some paper
  pub drawn_is : drawn ≡ record { job = job_on w paper values; part = part }

-- no plan has room for them
abbrev pub HasNoLayout : Wish → JobValues → List Corner → NoRoom → Type 0
HasNoLayout w values corners lack = (job : Job) × (job_seen job ≡ values) × HasNoRoom job corners (sides_for job) w lack

abbrev pub LaysSheet : Wish → JobValues → Part → Result Drawn SheetFault → Type 0
LaysSheet w values part (Ok drawn) = HasLayout w values part drawn
LaysSheet w values part (Err (Lacking lack)) = HasNoLayout w values part.corners lack
LaysSheet w values part (Err fault) = ⊥
