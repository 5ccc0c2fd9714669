use Rattle.geometry.specs.Parts.{part_of}
use Rattle.part_input.specs.Parts.{TakesSoup}
use Rattle.part_input.proofs.Answered.{complete, exact}
use Rattle.part_input.proofs.Missing.{soups, part_not_written, soup_missing}
use Rattle.part_input.proofs.Singles.{soup_single}
use Rattle.part_input.proofs.solid.fetch_soup.Goals as goal

pub returns-clause-complete : goal.returns-clause-complete
returns-clause-complete g c = λ told none.
    let state = g.D.Desk.state in
    let files = (state c.args.desk.now).files in
    let name = c.args.name.now in
    let decimals = c.args.job.now.decimals in
    let unit = c.args.job.now.unit in
    let r = c.sample_or_file.result in
    complete (TakesSoup files name decimals unit) (soup_single files name decimals unit) part_of r (state c.args.desk.now).read_faults (state c.sample_or_file.new.desk).read_faults
    (part_not_written files name r (soups files name r c.sample_or_file.ensures.of_soup)) (c.sample_or_file.ensures.answer told) c.sample_or_file.ensures.reads none

pub returns-clause-exact : goal.returns-clause-exact
returns-clause-exact g c = λ steady.
    let state = g.D.Desk.state in
    let files = (state c.args.desk.now).files in
    let name = c.args.name.now in
    let decimals = c.args.job.now.decimals in
    let unit = c.args.job.now.unit in
    let r = c.sample_or_file.result in
    let told = g.met.D.Desk.steady_tells c.args.desk.now steady in
    let of_part = soups files name r c.sample_or_file.ensures.of_soup in
    exact (TakesSoup files name decimals unit) (soup_single files name decimals unit) part_of r
    (part_not_written files name r of_part) (c.sample_or_file.ensures.answer told) (soup_missing files name decimals unit r of_part (c.sample_or_file.ensures.missing steady))
