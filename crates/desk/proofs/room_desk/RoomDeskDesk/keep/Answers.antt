use Rattle.std.proofs.Common.{refl}
use Rattle.desk.specs.Files.{file_at}
use Rattle.desk.proofs.Slots.{has_room, same_rooms, slot_kept, with_rooms}
use Rattle.desk.proofs.Torn.{failed}
use Rattle.desk.proofs.room_desk.RoomDeskDesk.keep.Goals as goal

pub returns-in-Some-clause-fails : goal.returns-in-Some-clause-fails
returns-in-Some-clause-fails c = (
  (λ never. absurd (cc)),
  λ none. absurd (has_room c.args.self.now.slots.items c.args.name.now c.in-Some.i c.index_mut.result.now (rw c.deref.ensures.value at c.in-Some.ensures.found)
      c.index_mut.ensures.value _ (rw c.deref.ensures.value at c.in-Some.ensures.room) none),
)

pub returns-in-Some-clause-leaves : goal.returns-in-Some-clause-leaves
returns-in-Some-clause-leaves c =
    let place = rw c.deref.ensures.value at c.in-Some.ensures.found in (
      with_rooms _ _ (same_rooms c.args.self.now.slots.items c.args.name.now c.in-Some.i c.index_mut.result.now place c.index_mut.ensures.value c.keep.new.self c.keep.ensures.size),
      slot_kept c.args.self.now.slots.items c.args.name.now c.in-Some.i c.index_mut.result.now place c.index_mut.ensures.value c.keep.new.self c.keep.ensures.size
          (file_at c.args.self.now.files.items) c.args.bytes.now c.keep.ensures.kept,
    )

pub returns-in-Some-clause-holds : goal.returns-in-Some-clause-holds
returns-in-Some-clause-holds c =
    let place = rw c.deref.ensures.value at c.in-Some.ensures.found in
    slot_kept c.args.self.now.slots.items c.args.name.now c.in-Some.i c.index_mut.result.now place c.index_mut.ensures.value c.keep.new.self c.keep.ensures.size
    (file_at c.args.self.now.files.items) c.args.bytes.now c.keep.ensures.kept

pub returns-in-None-clause-holds : goal.returns-in-None-clause-holds
returns-in-None-clause-holds c =
    failed (Unit {0}) c.count_write.result _ _ c.args.name.now c.args.bytes.now c.count_write.ensures.failed
    refl
