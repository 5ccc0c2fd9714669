-- What contracts see of what words name.
use Rattle.draw_words.specs.Names.{Named}
use Rattle.draw_words.specs.declared.words.Words.{Words}
pub use Rattle.command_words.specs.Seen.{texts}

abbrev pub named_seen : Words → Named
named_seen words = record { part = words.part; job = words.job; out = words.out }
