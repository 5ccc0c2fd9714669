-- Slots of files that may be kept.
use Rattle.std.specs.Prelude.{◌≡◌, ℕ, List, false}
use Rattle.desk.specs.declared.room_desk.Slot.{Slot}

-- it was not kept
abbrev pub IsUnkept : List ℕ × Slot → Type 0
IsUnkept slot = slot.1.kept ≡ false
