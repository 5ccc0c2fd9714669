-- Bytes in a room of a fixed size.
use Rattle.std.specs.Prelude.{ℕ, List, length, take}
use Rattle.desk.specs.declared.rooms.Room.{Room}

-- the bytes that it holds
abbrev pub bytes_in : Room → List ℕ
bytes_in room = take room.used room.bytes.items

-- how many it has room for
abbrev pub size_of : Room → ℕ
size_of room = length room.bytes.items
