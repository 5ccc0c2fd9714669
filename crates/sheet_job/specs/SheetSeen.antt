-- What contracts see of a job of version 3.
use Rattle.std.specs.Prelude.{List, ℕ, map, option_map}
use Rattle.job_file.specs.Seen.{scale_seen}
use Rattle.job_text.specs.Places.{IsTextPlace}
use Rattle.lattice.specs.Points.{of_dir}
use Rattle.sheet_job.specs.SheetJobs.{BlockValues, SheetJobValues}
use Rattle.sheet_job.specs.SheetViews.{SheetShownValues, plain, cut, SheetViewValues}
use Rattle.sheet_job.specs.declared.block.BlockTexts.{BlockTexts}
use Rattle.sheet_job.specs.declared.job.SheetJob.{SheetJob}
use Rattle.sheet_job.specs.declared.shown.SheetShown.{SheetShown}
use Rattle.sheet_job.specs.declared.shown.SheetShown.TheVariants.{Plain, Cut}
use Rattle.sheet_job.specs.declared.view.SheetView.{SheetView}

abbrev pub block_seen : BlockTexts → BlockValues
block_seen b = record {
  number = b.number;
  kind = b.kind;
  material = b.material;
  author = b.author;
  approved = b.approved;
  date = b.date;
  revision = b.revision;
  company = b.company;
  tolerances = b.tolerances;
  note = b.note;
}

abbrev pub shown_seen : SheetShown → SheetShownValues
shown_seen (Plain direction) = plain (of_dir direction)
shown_seen (Cut c) = cut c.axis c.at.items c.from_high c.value_at

abbrev pub sheet_view_seen : SheetView → SheetViewValues
sheet_view_seen v = record { shows = shown_seen v.shows; named = v.named; title = v.title; hidden = v.hidden }

-- the place of a cut is that of its number in the text
abbrev pub IsShownPlaced : List ℕ → SheetShown → Type 0
IsShownPlaced text (Plain direction) = Unit {0}
IsShownPlaced text (Cut c) = IsTextPlace text c.value_at c.place

abbrev pub IsPlacedIn : List ℕ → SheetView → Type 0
IsPlacedIn text v = IsShownPlaced text v.shows

abbrev pub sheet_job_seen : SheetJob → SheetJobValues
sheet_job_seen job = record {
  decimals = job.decimals;
  third = job.third;
  paper = job.paper;
  any_paper = job.any_paper;
  scale = option_map scale_seen job.scale;
  crease = job.crease;
  title = job.title;
  unit = job.unit;
  portrait = job.portrait;
  hidden = job.hidden;
  block = block_seen job.block;
  views = map sheet_view_seen job.views.items;
}
