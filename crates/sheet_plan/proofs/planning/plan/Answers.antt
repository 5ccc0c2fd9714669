use Rattle.std.proofs.lemmas.Result.{IfOk-weaker}
use Rattle.sheet_plan.specs.Boxes.{ViewsAreApart, ViewsAreWithinMargins, StandInColumn, StandInRow}
use Rattle.sheet_plan.specs.Plans.{IsSheetAt, IsPlanned}
use Rattle.sheet_plan.proofs.Apart.{apart, within_margins}
use Rattle.sheet_plan.proofs.InLine.{stand_in_column, stand_in_row}
use Rattle.sheet_plan.proofs.planning.plan.Goals as goal

pub returns-in-Some-clause-apart : goal.returns-in-Some-clause-apart
returns-in-Some-clause-apart c =
    let job = c.args.job.now in
    let extents = c.args.extents.now in
    let scale = c.in-Some.scale in
    IfOk-weaker c.plan_at.result (IsSheetAt job extents scale.num scale.den) (ViewsAreApart extents) (apart job extents scale.num scale.den) c.plan_at.ensures.planned

pub returns-in-None-clause-apart : goal.returns-in-None-clause-apart
returns-in-None-clause-apart c =
    let job = c.args.job.now in
    let extents = c.args.extents.now in
    IfOk-weaker c.fit.result (IsPlanned job extents) (ViewsAreApart extents) (λ sheet h. apart job extents h.num h.den sheet h.sheet_at) c.fit.ensures.planned

pub returns-in-Some-clause-within_margins : goal.returns-in-Some-clause-within_margins
returns-in-Some-clause-within_margins c =
    let job = c.args.job.now in
    let extents = c.args.extents.now in
    let scale = c.in-Some.scale in
    IfOk-weaker c.plan_at.result (IsSheetAt job extents scale.num scale.den) (ViewsAreWithinMargins extents) (within_margins job extents scale.num scale.den) c.plan_at.ensures.planned

pub returns-in-None-clause-within_margins : goal.returns-in-None-clause-within_margins
returns-in-None-clause-within_margins c =
    let job = c.args.job.now in
    let extents = c.args.extents.now in
    IfOk-weaker c.fit.result (IsPlanned job extents) (ViewsAreWithinMargins extents) (λ sheet h. within_margins job extents h.num h.den sheet h.sheet_at) c.fit.ensures.planned

pub returns-in-Some-clause-columns : goal.returns-in-Some-clause-columns
returns-in-Some-clause-columns c =
    let job = c.args.job.now in
    let extents = c.args.extents.now in
    let scale = c.in-Some.scale in
    IfOk-weaker c.plan_at.result (IsSheetAt job extents scale.num scale.den) (StandInColumn job extents) (stand_in_column job extents scale.num scale.den) c.plan_at.ensures.planned

pub returns-in-None-clause-columns : goal.returns-in-None-clause-columns
returns-in-None-clause-columns c =
    let job = c.args.job.now in
    let extents = c.args.extents.now in
    IfOk-weaker c.fit.result (IsPlanned job extents) (StandInColumn job extents) (λ sheet h. stand_in_column job extents h.num h.den sheet h.sheet_at) c.fit.ensures.planned

pub returns-in-Some-clause-rows : goal.returns-in-Some-clause-rows
returns-in-Some-clause-rows c =
    let job = c.args.job.now in
    let extents = c.args.extents.now in
    let scale = c.in-Some.scale in
    IfOk-weaker c.plan_at.result (IsSheetAt job extents scale.num scale.den) (StandInRow job extents) (stand_in_row job extents scale.num scale.den) c.plan_at.ensures.planned

pub returns-in-None-clause-rows : goal.returns-in-None-clause-rows
returns-in-None-clause-rows c =
    let job = c.args.job.now in
    let extents = c.args.extents.now in
    IfOk-weaker c.fit.result (IsPlanned job extents) (StandInRow job extents) (λ sheet h. stand_in_row job extents h.num h.den sheet h.sheet_at) c.fit.ensures.planned
