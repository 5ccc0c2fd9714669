-- Each view of a job asks for its sides.
use Rattle.std.proofs.Common.{◌≡◌, ℕ, suc, ◌+◌, ◌≤◌, List, [], ◌∷◌, ◌++◌, length, drop, refl, sym, ap, ◌∙◌}
use Rattle.std.proofs.lemmas.List.{append-nil, drop_all}
use Rattle.dec_text.specs.declared.number.Length.{Length}
use Rattle.job_file.specs.declared.job.Job.{Job}
use Rattle.job_file.specs.declared.view.JobView.{JobView}
use Rattle.job_file.specs.ShownCuts.{cuts_in}
use Rattle.lattice.specs.declared.cuts.Cut.{Cut}
use Rattle.lattice.specs.ShownCuts.{cuts_of}
use Rattle.sheet_layout.specs.declared.sides.Sides.{Sides}
use Rattle.cut_marks.specs.AskedSides.{sides_for, sides_from}

module _ (decimals : ℕ) (unit : Length) (cuts : List Cut) where
  as_many : (number : ℕ) (views : List JobView) → length (sides_from decimals unit cuts number views) ≡ length views
  as_many number [] = refl
  as_many number (v ∷ vs) = ap suc (as_many (number + length (cuts_of v.spec)) vs)

pub sides_for_each : (job : Job) → length (sides_for job) ≡ length job.views.items
sides_for_each job = as_many job.decimals job.unit (cuts_in job.views.items) 0 job.views.items

-- after the last view none are left
pub all_asked : (job : Job) (k number : ℕ) (sides : List Sides) → length job.views.items ≤ k
    → sides ++ sides_from job.decimals job.unit (cuts_in job.views.items) number (drop k job.views.items) ≡ sides_for job → length sides ≡ length job.views.items
all_asked job k number sides last so_far =
    ap (λ (ss : List Sides). length ss)
    (sym (append-nil sides) ∙ sym (ap (λ (vs : List JobView). sides ++ sides_from job.decimals job.unit (cuts_in job.views.items) number vs) (drop_all k job.views.items last)) ∙ so_far)
    ∙ sides_for_each job
