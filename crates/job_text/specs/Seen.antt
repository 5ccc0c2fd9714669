-- What contracts see of lines.
use Rattle.std.specs.Prelude.{map, string_bytes}
use Rattle.job_text.specs.Values as written
use Rattle.job_text.specs.Lines as lines
use Rattle.job_text.specs.declared.item.TextItem.{TextItem}
use Rattle.job_text.specs.declared.item.TextItem.TheVariants.{Text, Flag, Number}
use Rattle.job_text.specs.declared.item.Written.{Written}
use Rattle.job_text.specs.declared.item.Written.TheVariants.{One, Several}
use Rattle.job_text.specs.declared.line.TextLine.{TextLine}
use Rattle.job_text.specs.declared.line.Meaning.{Meaning}
use Rattle.job_text.specs.declared.line.Meaning.TheVariants.{Header, ListHeader, Entry}

abbrev pub item_seen : TextItem → written.TextItem
item_seen (Text content) = written.text (string_bytes content)
item_seen (Flag b) = written.flag b
item_seen (Number word) = written.number word.items

abbrev pub written_seen : Written → written.Written
written_seen (One item) = written.one (item_seen item)
written_seen (Several items) = written.several (map item_seen items.items)

abbrev pub meaning_seen : Meaning → lines.Meaning
meaning_seen (Header key) = lines.header (string_bytes key)
meaning_seen (ListHeader key) = lines.list_header (string_bytes key)
meaning_seen (Entry key value at) = lines.entry (string_bytes key) (written_seen value) at

abbrev pub line_seen : TextLine → lines.TextLine
line_seen line = record { at = line.at; meaning = meaning_seen line.meaning }
