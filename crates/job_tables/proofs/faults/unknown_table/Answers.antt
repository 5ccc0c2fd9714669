use Rattle.std.proofs.Common.{Some, sym, ap, subst, ℕ, List}
use Rattle.std.specs.Option.{option_copied}
use Rattle.job_tables.specs.Faults.{unknown_table}
use Rattle.job_tables.specs.Hints.{IsNearest, table_names}
use Rattle.job_tables.proofs.faults.unknown_table.Goals as goal

pub returns : goal.returns
returns c =
    let same = sym c.in_ok-new.ensures.same in
    (ap (λ (name : List ℕ). Some (unknown_table name)) same, subst (λ name. IsNearest name table_names (option_copied c.nearest_table-near.result)) same c.nearest_table-near.ensures)
