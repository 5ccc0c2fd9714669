use Rattle.std.proofs.Common.{◌≤◌, ℕ, List, subst}
use Rattle.desk.specs.Rooms.{size_of}
use Rattle.desk.specs.declared.room_desk.Slot.{Slot}
use Rattle.desk.proofs.Slots.{no_room, apart}
use Rattle.desk.proofs.room_desk.place_with_room.Goals as goal

pub returns-else-fits-clause-none : goal.returns-else-fits-clause-none
returns-else-fits-clause-none c =
    no_room c.args.slots.now c.args.name.now c.in-Some.i c.index-slots-i.result c.in-Some.ensures.found c.index-slots-i.is c.args.count
    (λ fits. apart (c.if-fits.ensures.1 (subst (λ (x : List ℕ × Slot). c.args.count ≤ size_of x.1.room) c.index-slots-i.is fits)))
