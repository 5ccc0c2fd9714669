use Rattle.std.proofs.Common.{rules, ◌≡◌, None}
use Rattle.part_input.specs.Parts.{sample_size}
use Rattle.part_input.proofs.Takings.{soup_taken}
use Rattle.part_input.proofs.solid.sample_or_file.Goals as goal

pub returns-in-None-clause-taken : goal.returns-in-None-clause-taken
returns-in-None-clause-taken g c =
    let name = c.args.name.now in
    let none : sample_size name ≡ None = search rules in
    soup_taken g.D.Desk.fetches name c.args.job.now.decimals c.args.job.now.unit c.args.desk.now c.file_soup.new.desk none c.file_soup.result c.file_soup.ensures.taken
