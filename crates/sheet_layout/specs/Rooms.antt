-- The rooms that a sheet has for its views: above its title block, and beside it.
use Rattle.std.specs.Prelude.{ℕ, ◌-◌, Bool, if◌then◌else◌}
use Rattle.job_file.specs.declared.job.Paper.{Paper}
use Rattle.job_file.specs.declared.job.Paper.TheVariants.{A0, A1, A2, A3, A4}
use Rattle.sheet_layout.specs.declared.rooms.Room.{Room}

abbrev pub longer_side : Paper → ℕ
longer_side A0 = 118900
longer_side A1 = 84100
longer_side A2 = 59400
longer_side A3 = 42000
longer_side A4 = 29700

abbrev pub shorter_side : Paper → ℕ
shorter_side A0 = 84100
shorter_side A1 = 59400
shorter_side A2 = 42000
shorter_side A3 = 29700
shorter_side A4 = 21000

-- width and height of a sheet that stands upright, or lies
abbrev pub width_of : Paper → Bool → ℕ
width_of paper portrait = if portrait then shorter_side paper else longer_side paper

abbrev pub height_of : Paper → Bool → ℕ
height_of paper portrait = if portrait then longer_side paper else shorter_side paper

-- within the frame, 10 mm from the edges; the block in its lower right corner is 180 mm wide and 22 mm high
abbrev pub room_of : Paper → Bool → Bool → Room
room_of paper portrait beside = record {
  left = 1000;
  right = if beside then width_of paper portrait - 19000 else width_of paper portrait - 1000;
  top = 1000;
  bottom = if beside then height_of paper portrait - 1000 else height_of paper portrait - 3200;
}
