use Rattle.std.proofs.Common.{length}
use Rattle.sheet_layout.proofs.plans.+add_on_papers.Given as goal

abbrev pub decreases-add_on_papers : goal.decreases-add_on_papers
decreases-add_on_papers l = length l.papers.now
