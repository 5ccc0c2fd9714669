-- No side and triangle of a soup meet.
use Rattle.std.specs.Prelude.{ℕ}
use Rattle.geometry.specs.Parts.{Part}
use Rattle.solid_mesh.specs.Meetings.{MeetApart}

abbrev pub HasNoMeeting : Part → Type 0
HasNoMeeting s = (half tri : ℕ) → ¬ MeetApart s half tri
