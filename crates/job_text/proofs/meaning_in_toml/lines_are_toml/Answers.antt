use Rattle.job_text.proofs.LinesInToml.{lines_in_toml}
use Rattle.job_text.proofs.meaning_in_toml.lines_are_toml.Goals as goal

pub returns : goal.returns
returns c = λ text lines read. lines_in_toml text lines read
