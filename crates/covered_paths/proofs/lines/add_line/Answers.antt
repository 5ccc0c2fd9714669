use Rattle.std.proofs.Common.{sym, ◌∙◌}
use Rattle.covered_paths.proofs.OnSheet.{line_on_sheet}
use Rattle.covered_paths.proofs.lines.add_line.Goals as goal

pub line_of-requires : goal.line_of-requires
line_of-requires c = line_on_sheet c.args.path.now c.args.shown (sym c.is_line.ensures ∙ c.if-is_line.true)
