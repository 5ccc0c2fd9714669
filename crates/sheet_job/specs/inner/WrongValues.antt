-- A wrong value, as contracts see it.
use Rattle.std.specs.Prelude.{ℕ}
use Rattle.sheet_job.specs.SheetFaults.{OwnFault, wrong}
use Rattle.sheet_job.specs.declared.wrong.WrongValue.{WrongValue}

abbrev pub wrong_seen : WrongValue → OwnFault × ℕ
wrong_seen w = (wrong w.key w.quoted w.view, w.at)
