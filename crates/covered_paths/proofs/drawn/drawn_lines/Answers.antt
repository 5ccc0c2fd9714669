use Rattle.std.proofs.Common.{List, [], sym, subst}
use Rattle.std.proofs.lemmas.Result.{IfOk-weaker}
use Rattle.covered_paths.specs.Drawn.{EachLine, IsSeen}
use Rattle.covered_paths.specs.declared.line.Line.{Line}
use Rattle.covered_paths.proofs.DrawnLines.{each_seen}
use Rattle.covered_paths.proofs.drawn.drawn_lines.Goals as goal

pub returns-clause-seen : goal.returns-clause-seen
returns-clause-seen c =
    IfOk-weaker c.add_drawn.result _ _ (λ drawn e. subst (λ (xs : List Line). EachLine (IsSeen xs) c.args.lines.items) (sym e) (each_seen [] c.args.lines.items)) c.add_drawn.ensures
