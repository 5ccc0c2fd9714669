use Rattle.std.proofs.Common.{◌≡◌, ℕ, List, length, refl, sym, subst, ap, ◌∙◌, find, Some}
use Rattle.std.specs.List.{AllZip}
use Rattle.job_file.specs.ShownCuts.{cuts_in}
use Rattle.job_file.specs.declared.view.JobView.{JobView}
use Rattle.sheet_plan.specs.declared.sheet.Spread.{Spread}
use Rattle.sheet_layout.specs.Layouts.{IsOriginOf, fits, plans_for, standings_on}
use Rattle.sheet_layout.specs.Plans.{plans_of}
use Rattle.sheet_layout.specs.declared.plans.Plan.{Plan}
use Rattle.sheet_layout.specs.inner.Sizes.{case_seen}
use Rattle.sheet_layout.proofs.Answered.{found_first, found_places}
use Rattle.sheet_layout.proofs.layout.laid_out.Goals as goal

pub returns-in-Some-clause-laid : goal.returns-in-Some-clause-laid
returns-in-Some-clause-laid c =
    let case = case_seen c.args.case.now in
    let w = c.args.wish in
    let found = c.in-Some.field-0 in
    let cuts : c.cuts_among-cuts.result ≡ length (cuts_in case.job.views.items) = c.cuts_among-cuts.ensures.value ∙ ap (λ (vs : List JobView). length (cuts_in vs)) c.deref.ensures.value in
    let plans : c.in_ok-plans.plans.items ≡ plans_for w case.job = c.in_ok-plans.ensures ∙ ap (λ (n : ℕ). plans_of w.any_paper w.older case.job.paper case.job.scale n) cuts in
    let first = found_first case c.deref-2.result.now c.in_ok-plan.field-0 found c.in-Some.is c.in_ok-plan.ensures.first in
    let places = found_places case c.in_ok-plan.field-0 found c.in-Some.is c.in_ok-plan.ensures.places in
    record {
      plan = found.plan;
      first = subst (λ (ps : List Plan). find (fits case) ps ≡ Some found.plan) (c.deref-2.ensures.value ∙ plans) first;
      sheet = record {
        width = c.sheet_by.ensures.width;
        height = c.sheet_by.ensures.height;
        decimals = c.sheet_by.ensures.decimals;
        scale = c.sheet_by.ensures.scale;
        places = subst (λ (ps : List Spread). AllZip IsOriginOf (standings_on case found.plan) ps) (sym (ap (λ v. v.items) c.sheet_by.ensures.places)) places;
      };
      paper = refl;
      shrunk = refl;
    }
