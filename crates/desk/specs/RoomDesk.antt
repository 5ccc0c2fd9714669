-- What a desk with a room for each file that may be kept shows, and what its calls do to it.
use Rattle.std.specs.Prelude.{◌≡◌, ◌<◌, ℕ, List, true, false, Option, Some, None, option_map, Result, Ok, Err, if◌then◌else◌}
use Rattle.desk.specs.Files.{Files, DeskState, Keeps, file_at, named_at}
use Rattle.desk.specs.Memory.{next}
use Rattle.desk.specs.Rooms.{bytes_in, size_of}
use Rattle.desk.specs.declared.desk.DeskFault.{DeskFault}
use Rattle.desk.specs.declared.desk.DeskFault.TheVariants.{Failed, Memory}
use Rattle.desk.specs.declared.room_desk.RoomDesk.{RoomDesk}
use Rattle.desk.specs.declared.room_desk.Slot.{Slot}

-- its files, the room of each name that may be kept, what was said and warned, the rooms of both, and how many faults there were
-- of each kind
pub record RoomState : Type 0 where
  pub files : Files
  pub rooms : List ℕ → Option ℕ
  pub said : List ℕ
  pub said_room : ℕ
  pub warned : List ℕ
  pub warned_room : ℕ
  pub read_faults : ℕ
  pub write_faults : ℕ
  pub warn_faults : ℕ

-- the bytes of a slot once it was kept, and before that what else is under its name
abbrev pub kept_or : Option (List ℕ) → Option Slot → Option (List ℕ)
kept_or else_there None = else_there
kept_or else_there (Some slot) = if slot.kept then Some (bytes_in slot.room) else else_there

-- the room of the slot of each name
abbrev pub rooms_of : List (List ℕ × Slot) → List ℕ → Option ℕ
rooms_of slots name = option_map (λ slot. size_of slot.room) (named_at slots name)

abbrev pub state_of : RoomDesk → RoomState
state_of desk = record {
  files = λ name. kept_or (file_at desk.files.items name) (named_at desk.slots.items name);
  rooms = rooms_of desk.slots.items;
  said = bytes_in desk.said;
  said_room = size_of desk.said;
  warned = bytes_in desk.warned;
  warned_room = size_of desk.warned;
  read_faults = desk.faults.read;
  write_faults = desk.faults.write;
  warn_faults = desk.faults.warn;
}

-- there is no room for so many bytes: the name is none that may be kept, or they are more than its room
abbrev pub HasNoRoom : Option ℕ → ℕ → Type 0
HasNoRoom None n = Unit {0}
HasNoRoom (Some room) n = room < n

-- one fault of reading more
abbrev pub with_read_fault : RoomState → RoomState
with_read_fault s = record s { read_faults = next s.read_faults }

-- one fault of writing more
abbrev pub with_write_fault : RoomState → RoomState
with_write_fault s = record s { write_faults = next s.write_faults }

-- one fault of warning more
abbrev pub with_warn_fault : RoomState → RoomState
with_warn_fault s = record s { warn_faults = next s.warn_faults }

-- what a keep leaves, by its answer; it never wants memory
abbrev pub LeavesState : {T : Type 0} → Result T DeskFault → RoomState → RoomState → List ℕ → List ℕ → Type 0
LeavesState (Ok done) old new name bytes = (new ≡ record old { files = new.files }) × Keeps old.files new.files name bytes
LeavesState (Err Failed) old new name bytes = new ≡ with_write_fault old
LeavesState (Err (Memory none)) old new name bytes = ⊥

-- what a saying or a warning leaves, by its answer: done or failed; it never wants memory
abbrev pub IsEither : {T : Type 0} → Result T DeskFault → RoomState → RoomState → RoomState → Type 0
IsEither (Ok r) new done failed = new ≡ done
IsEither (Err Failed) new done failed = new ≡ failed
IsEither (Err (Memory none)) new done failed = ⊥

-- it tells all and always finds memory; it isn't steady, since it may have no room
abbrev pub told : RoomState → DeskState
told s = record {
  tells = true;
  files = s.files;
  tells_said = true;
  said = s.said;
  tells_warned = true;
  warned = s.warned;
  read_faults = s.read_faults;
  write_faults = s.write_faults;
  warn_faults = s.warn_faults;
  steady = false;
  firm = true;
}
