use Rattle.draw_core.proofs.FileNames.{stem_whole}
use Rattle.draw_core.proofs.outputs.stem_of.Goals as goal

pub returns-in-None : goal.returns-in-None
returns-in-None c = stem_whole c.args.name.now c.in-None.ensures.cases
