use Rattle.std.proofs.Common.{rules}
use Rattle.job_file.proofs.DirectionLemmas.{named}
use Rattle.job_file.proofs.directions.direction_of.Goals as goal

pub unreachable-requires : goal.unreachable-requires
unreachable-requires c = search (rules, named c.args.name)
