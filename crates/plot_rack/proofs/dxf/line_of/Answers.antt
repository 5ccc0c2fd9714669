use Rattle.std.proofs.Common.{rules}
use Rattle.plot_rack.proofs.dxf.line_of.Goals as goal

pub returns : goal.returns
returns c = search rules
