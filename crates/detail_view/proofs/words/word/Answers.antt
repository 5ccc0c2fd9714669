use Rattle.std.proofs.Common.{◌∙◌}
use Rattle.detail_view.proofs.Readings.{word_found}
use Rattle.detail_view.proofs.words.word.Goals as goal

pub returns : goal.returns
returns c = c.as_str.ensures.value ∙ word_found c.args.words.now c.args.at c.index-words-at.result c.requires c.index-words-at.is
