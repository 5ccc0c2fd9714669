-- What a desk in memory shows.
use Rattle.desk.specs.Files.{file_at}
use Rattle.desk.specs.Memory.{MemoryState}
use Rattle.desk.specs.declared.memory.MemoryDesk.{MemoryDesk}

abbrev pub state_of : MemoryDesk → MemoryState
state_of desk = record {
  files = file_at desk.files.items;
  failing = desk.failing.items;
  left = desk.left;
  calls = desk.calls;
  said = desk.said.items;
  warned = desk.warned.items;
  read_faults = desk.faults.read;
  write_faults = desk.faults.write;
  warn_faults = desk.faults.warn;
}
