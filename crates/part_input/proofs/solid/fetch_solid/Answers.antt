use Rattle.geometry.specs.Parts.{part_of}
use Rattle.solid_mesh.specs.Solids.{solid_part}
use Rattle.part_input.specs.Parts.{ChecksPart, TakesSoup, TakesSolid}
use Rattle.part_input.proofs.Answered.{undisturbed}
use Rattle.part_input.proofs.Chains.{gives_next}
use Rattle.part_input.proofs.Missing.{of_soup, mesh_no_desk, checked_of_part}
use Rattle.part_input.proofs.Singles.{solid_single}
use Rattle.part_input.proofs.solid.fetch_solid.Goals as goal

pub returns-in-Ok-clause-complete : goal.returns-in-Ok-clause-complete
returns-in-Ok-clause-complete g c = λ told none.
    let files = (g.D.Desk.state c.args.desk.now).files in
    let name = c.args.name.now in
    let decimals = c.args.job.now.decimals in
    let unit = c.args.job.now.unit in
    let r = c.checked.result in
    undisturbed (TakesSolid files name decimals unit) (solid_single files name decimals unit) solid_part r (mesh_no_desk r c.checked.ensures.of_mesh)
    (gives_next (TakesSoup files name decimals unit) ChecksPart (part_of c.in-Ok.soup) (c.in-Ok.ensures.answer told) solid_part r c.checked.ensures.answer)

pub returns-in-Ok-clause-exact : goal.returns-in-Ok-clause-exact
returns-in-Ok-clause-exact g c = λ steady.
    let files = (g.D.Desk.state c.args.desk.now).files in
    let name = c.args.name.now in
    let decimals = c.args.job.now.decimals in
    let unit = c.args.job.now.unit in
    let r = c.checked.result in
    let told = g.met.D.Desk.steady_tells c.args.desk.now steady in
    undisturbed (TakesSolid files name decimals unit) (solid_single files name decimals unit) solid_part r (mesh_no_desk r c.checked.ensures.of_mesh)
    (gives_next (TakesSoup files name decimals unit) ChecksPart (part_of c.in-Ok.soup) (c.in-Ok.ensures.answer told) solid_part r c.checked.ensures.answer)

pub returns-in-Err-clause-of_part : goal.returns-in-Err-clause-of_part
returns-in-Err-clause-of_part g c = of_soup (g.D.Desk.state c.args.desk.now).files c.args.name.now c.in-Err.fault c.in-Err.ensures.of_soup

-- a sample is sound
pub returns-in-Ok-clause-of_part : goal.returns-in-Ok-clause-of_part
returns-in-Ok-clause-of_part g c =
    checked_of_part c.args.name.now c.args.job.now.decimals c.args.job.now.unit (part_of c.in-Ok.soup) solid_part c.in-Ok.ensures.sample c.checked.result c.checked.ensures.of_mesh c.checked.ensures.answer
