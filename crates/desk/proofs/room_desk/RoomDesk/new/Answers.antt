use Rattle.desk.proofs.Slots.{unkept_files, rooms_are}
use Rattle.desk.specs.Files.{file_at}
use Rattle.desk.proofs.room_desk.RoomDesk.new.Goals as goal

pub returns : goal.returns
returns c = λ i. record {
  files = unkept_files c.in_ok-slots.slots.items (file_at c.args.files.items) c.in_ok-slots.ensures.none_kept i;
  rooms = rooms_are c.in_ok-slots.slots.items c.args.slots.items c.in_ok-slots.ensures.rooms i;
  said = c.in_ok-said.ensures.empty i;
  said_room = c.in_ok-said.ensures.size i;
  warned = c.in_ok-warned.ensures.empty i;
  warned_room = c.in_ok-warned.ensures.size i;
  read_faults = (c.none.ensures i).read;
  write_faults = (c.none.ensures i).write;
  warn_faults = (c.none.ensures i).warn;
}
