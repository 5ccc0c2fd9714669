-- A layout of a case is one of its job and part, and keeps what is asked.
use Rattle.std.proofs.Common.{◌≡◌, false, List, Some, Option, Result, Ok, Err, length, find, sym, subst, ap, ◌∙◌}
use Rattle.std.specs.Prelude.{IfOk, IfErr, IfSome, option_map}
use Rattle.std.specs.List.{AllZip}
use Rattle.lattice.specs.declared.points.Corner.{Corner}
use Rattle.job_file.specs.declared.job.Job.{Job}
use Rattle.sheet_layout.specs.Keeps.{HasPlaceForEach, KeepsApart, KeepsInLine, KeepsSides, StandsInFrame}
use Rattle.sheet_layout.specs.Layouts.{Case, IsCaseOf, IsLaidBy, IsLaidOut, IsNotLaidBy, IsNotLaidOut, IsOriginOf, fits, plans_for, seats_on, standings_on}
use Rattle.sheet_layout.specs.declared.layout.Layout.{Layout}
use Rattle.sheet_layout.specs.declared.layout.LayoutError.{LayoutError}
use Rattle.sheet_layout.specs.declared.layout.LayoutError.TheVariants.{NoRoom, Memory}
use Rattle.sheet_layout.specs.declared.layout.Wish.{Wish}
use Rattle.sheet_layout.specs.declared.plans.Plan.{Plan}
use Rattle.sheet_layout.specs.declared.sides.Sides.{Sides}
use Rattle.sheet_layout.specs.declared.trials.Found.{Found}
use Rattle.sheet_layout.specs.inner.Sizes.{plan_found}
use Rattle.sheet_layout.proofs.Kept.{laid_apart, laid_in_frame, laid_in_line, laid_on_sides, laid_places}
use Rattle.sheet_layout.proofs.Papers.{found_on}

-- ---- what was found
pub found_first : (c : Case) (plans : List Plan) (f : Option Found) (found : Found) → f ≡ Some found → option_map plan_found f ≡ find (fits c) plans → find (fits c) plans ≡ Some found.plan
found_first c plans f found is first = sym first ∙ ap (option_map plan_found) is

pub found_places : (c : Case) (f : Option Found) (found : Found) → f ≡ Some found → IfSome f (λ g. AllZip IsOriginOf (standings_on c g.plan) g.places.items) → AllZip IsOriginOf (standings_on c found.plan) found.places.items
found_places c f found is h = subst (λ (o : Option Found). IfSome o (λ g. AllZip IsOriginOf (standings_on c g.plan) g.places.items)) is h

-- ---- of a job and a part
module _ (job : Job) (corners : List Corner) (sides : List Sides) (w : Wish) (c : Case) (of_job : IsCaseOf job corners sides c) where
  laid_of : (layout : Layout) → IsLaidBy c w layout → IsLaidOut job corners sides w layout
  laid_of layout h = record {
    laid = c;
    of_job = of_job;
    plan = h.plan;
    first = subst (λ (j : Job). find (fits c) (plans_for w j) ≡ Some h.plan) of_job.job_is h.first;
    sheet = h.sheet;
    paper = h.paper;
    shrunk = h.shrunk;
  }

  pub answered : (r : Result Layout LayoutError) → IfOk r (IsLaidBy c w) → IfOk r (IsLaidOut job corners sides w)
  answered (Ok layout) h = laid_of layout h
  answered (Err e) h = h

  pub refused : (r : Result Layout LayoutError) → IfErr r (IsNotLaidBy c w) → IfErr r (IsNotLaidOut job corners sides w)
  refused (Ok layout) h = h
  refused (Err (NoRoom n)) h = record { tried = c; of_job = of_job; lacks = h }
  refused (Err (Memory e)) h = h

  pub apart : (r : Result Layout LayoutError) → IfOk r (IsLaidBy c w) → IfOk r (KeepsApart corners sides)
  apart (Ok layout) h = laid_apart job corners sides w layout (laid_of layout h)
  apart (Err e) h = h

  pub in_frame : (r : Result Layout LayoutError) → IfOk r (IsLaidBy c w) → IfOk r (StandsInFrame corners sides)
  in_frame (Ok layout) h = laid_in_frame job corners sides w layout (laid_of layout h)
  in_frame (Err e) h = h

  pub places : length sides ≡ length job.views.items → (r : Result Layout LayoutError) → IfOk r (IsLaidBy c w) → IfOk r (HasPlaceForEach job.views.items)
  places as_many (Ok layout) h = laid_places job corners sides w layout (laid_of layout h) as_many
  places as_many (Err e) h = h

  pub on_paper : w.any_paper ≡ false → (r : Result Layout LayoutError) → IfOk r (IsLaidBy c w) → IfOk r (λ layout. layout.paper ≡ job.paper)
  on_paper none (Ok layout) h = found_on c w layout none h ∙ ap (λ (j : Job). j.paper) of_job.job_is
  on_paper none (Err e) h = h

-- whichever case and plan it is
pub in_line : (job : Job) (corners : List Corner) (sides : List Sides) (w : Wish) (c : Case) (r : Result Layout LayoutError) → IfOk r (IsLaidBy c w)
    → IfOk r (λ layout. (l : IsLaidOut job corners sides w layout) → KeepsInLine (seats_on l.laid l.plan) layout)
in_line job corners sides w c (Ok layout) h = λ l. laid_in_line job corners sides w layout l
in_line job corners sides w c (Err e) h = h

pub on_sides : (job : Job) (corners : List Corner) (sides : List Sides) (w : Wish) (c : Case) (r : Result Layout LayoutError) → IfOk r (IsLaidBy c w)
    → IfOk r (λ layout. (l : IsLaidOut job corners sides w layout) → KeepsSides corners sides (seats_on l.laid l.plan) layout)
on_sides job corners sides w c (Ok layout) h = λ l. laid_on_sides job corners sides w layout l
on_sides job corners sides w c (Err e) h = h
