use Rattle.std.proofs.Common.{◌≡◌, ap, sym, rules}
use Rattle.job_file.specs.ViewValues.{behind}
use Rattle.lattice.specs.Cuts.{plane_of}
use Rattle.sheet_job.proofs.JobAtLemmas.{units_moved, far_moved}
use Rattle.sheet_job.proofs.job_at.cut_at.Goals as goal

pub returns-in-Some-clause-value : goal.returns-in-Some-clause-value
returns-in-Some-clause-value c =
    let plane : plane_of c.plane_at.result ≡ record { axis = c.args.cut.now.axis; at = c.in-Some.units; from_high = c.args.cut.now.from_high } = search rules in
    (c.in-Some.units, units_moved c.args.decimals c.args.unit c.deref.result.now c.args.cut.now.at.items c.in-Some.units c.deref.ensures.value c.in-Some.ensures.value, ap behind plane)

pub returns-in-Some-clause-near : goal.returns-in-Some-clause-near
returns-in-Some-clause-near c =
    λ far. c.in-Some.ensures.near (far_moved c.args.decimals c.args.unit c.args.cut.now.at.items c.deref.result.now (sym c.deref.ensures.value) far)

pub returns-in-None-clause-value : goal.returns-in-None-clause-value
returns-in-None-clause-value c = far_moved c.args.decimals c.args.unit c.deref.result.now c.args.cut.now.at.items c.deref.ensures.value c.in-None.ensures.value
