use Rattle.std.proofs.Common.{◌≡◌, map}
use Rattle.std.specs.List.{All}
use Rattle.desk.specs.Rooms.{size_of}
use Rattle.desk.specs.inner.Slots.{IsUnkept}
use Rattle.desk.proofs.room_desk.slots_of.Given as goal

-- each name so far has its slot, which was not kept
abbrev pub invariant-loop-name : goal.invariant-loop-name
invariant-loop-name l =
    (map (λ slot. (slot.0, size_of slot.1.room)) l.slots.items ≡ l.yielded) × All IsUnkept l.slots.items
