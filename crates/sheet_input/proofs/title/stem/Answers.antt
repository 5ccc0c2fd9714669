use Rattle.std.proofs.Common.{sym, ◌∙◌}
use Rattle.sheet_input.proofs.TitleChars.{stem_whole, stem_front}
use Rattle.sheet_input.proofs.title.stem.Goals as goal

pub returns-then-is_empty : goal.returns-then-is_empty
returns-then-is_empty c = stem_whole c.args.name.now c.args.front.now c.requires (sym c.is_empty.ensures ∙ c.if-is_empty.true)

pub returns-else-is_empty : goal.returns-else-is_empty
returns-else-is_empty c = stem_front c.args.name.now c.args.front.now c.utf8.front c.requires (sym c.is_empty.ensures ∙ c.if-is_empty.false)
