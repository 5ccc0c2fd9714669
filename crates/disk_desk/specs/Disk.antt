-- What the desk of real files shows.
use Rattle.std.specs.Prelude.{ℕ, false, true, None, []}
use Rattle.desk.specs.Files.{DeskState}

-- it tells nothing but how many faults there were, isn't steady, and never wants memory
abbrev pub disk_state : ℕ → ℕ → ℕ → DeskState
disk_state read_faults write_faults warn_faults = record {
  tells = false;
  files = λ name. None;
  tells_said = false;
  said = [];
  tells_warned = false;
  warned = [];
  read_faults = read_faults;
  write_faults = write_faults;
  warn_faults = warn_faults;
  steady = false;
  firm = true;
}
