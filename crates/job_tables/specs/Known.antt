-- Tables with keys that are known.
use Rattle.std.specs.Prelude.{IsTrue, All, string_bytes}
use Rattle.job_tables.specs.declared.table.JobTable.{JobTable}
use Rattle.job_tables.specs.declared.table.TableKind.{TableKind}
use Rattle.job_tables.specs.Keys.{is_known}

-- each key of the table is one of its kind
abbrev pub HasKnownKeys : TableKind → JobTable → Type 0
HasKnownKeys kind table = All (λ entry. IsTrue (is_known kind (string_bytes entry.key))) table.entries.items
