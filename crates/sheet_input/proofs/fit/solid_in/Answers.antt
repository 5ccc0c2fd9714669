use Rattle.geometry.specs.Parts.{part_of}
use Rattle.solid_mesh.specs.Solids.{solid_part}
use Rattle.sheet_input.specs.inner.Taking.{text_seen}
use Rattle.sheet_input.proofs.FitSteps.{sound_of_solid}
use Rattle.sheet_input.proofs.fit.solid_in.Goals as goal

pub returns-in-Ok-clause-of_solid : goal.returns-in-Ok-clause-of_solid
returns-in-Ok-clause-of_solid c =
    sound_of_solid solid_part (text_seen c.args.text.now) c.args.decimals c.args.unit (part_of c.in-Ok.soup) c.in-Ok.ensures.answer c.sound.result c.sound.ensures.of_mesh c.sound.ensures.answer
