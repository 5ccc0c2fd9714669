-- What contracts see of tables with their headers.
use Rattle.std.specs.Prelude.{List, map, string_bytes}
use Rattle.job_tables.specs.declared.headers.Header.{Header}
use Rattle.job_tables.specs.declared.headers.Header.TheVariants.{Single, Double}
use Rattle.job_tables.specs.declared.headers.Headed.{Headed}
use Rattle.job_tables.specs.declared.headers.LinesByHeader.{LinesByHeader}
use Rattle.job_tables.specs.Seen.{entry_seen, table_seen}
use Rattle.job_tables.specs.Tables as tables

abbrev pub header_seen : Header → tables.Header
header_seen (Single key) = tables.single (string_bytes key)
header_seen (Double key) = tables.double (string_bytes key)

abbrev pub headed_seen : Headed → tables.Headed
headed_seen t = record { header = header_seen t.header; table = table_seen t.table }

abbrev pub lines_seen : LinesByHeader → List tables.Entry × List tables.Headed
lines_seen s = (map entry_seen s.first.items, map headed_seen s.tables.items)
