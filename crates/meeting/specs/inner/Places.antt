-- Places of an edge that are in a triangle.
use Rattle.std.specs.Prelude.{◌≡◌, ◌⊎◌, ℤ, pos, ◌+ℤ◌, ◌-ℤ◌, ◌*ℤ◌, ◌≤ℤ◌, ◌<ℤ◌}
use Rattle.meeting.specs.declared.course.Heights.{Heights}
use Rattle.meeting.specs.declared.course.Offset.{Offset}
use Rattle.meeting.specs.declared.course.Course.{Course}

-- a place of the edge, by the weights of its two ends, that is in the plane and to the right of no side
pub record CoursePlace (x : Course) : Type 0 where
  pub i : ℤ
  pub j : ℤ
  pub i_least : pos 0 ≤ℤ i
  pub j_least : pos 0 ≤ℤ j
  pub some : pos 0 <ℤ (i +ℤ j)
  pub level : (i *ℤ x.above.start) +ℤ (j *ℤ x.above.end) ≡ pos 0
  pub bc : pos 0 ≤ℤ ((i *ℤ x.bc.start) +ℤ (j *ℤ x.bc.end))
  pub ca : pos 0 ≤ℤ ((i *ℤ x.ca.start) +ℤ (j *ℤ x.ca.end))
  pub ab : pos 0 ≤ℤ ((i *ℤ x.ab.start) +ℤ (j *ℤ x.ab.end))

-- the edge has an end below the plane and one above it, or one in it and one off it
abbrev pub HasBothSides : Heights → Type 0
HasBothSides h = ((h.start ≤ℤ pos 0) × (pos 0 ≤ℤ h.end) × (h.start <ℤ h.end)) ⊎ ((pos 0 ≤ℤ h.start) × (h.end ≤ℤ pos 0) × (h.end <ℤ h.start))

-- where the edge goes through the plane, it is not to the right of the side: how far it is to the left there, times a square
abbrev pub IsLeftInPlane : Heights → Offset → Type 0
IsLeftInPlane h x = pos 0 ≤ℤ ((h.end -ℤ h.start) *ℤ ((h.end *ℤ x.start) -ℤ (h.start *ℤ x.end)))

-- where x begins below 0, it ends at 0 or above
abbrev pub IsLeftSomewhere : Offset → Type 0
IsLeftSomewhere x = x.start <ℤ pos 0 → pos 0 ≤ℤ x.end

-- where x begins below 0 and y ends there, x comes up to 0 no later than y goes below
abbrev pub IsInOrder : Offset → Offset → Type 0
IsInOrder x y = x.start <ℤ pos 0 → y.end <ℤ pos 0 → (x.start *ℤ y.end) ≤ℤ (x.end *ℤ y.start)

-- each of the two is at least 0 somewhere, and there is a place where both are
pub record Agree (x y : Offset) : Type 0 where
  pub somewhere : IsLeftSomewhere x
  pub ahead : IsInOrder x y
  pub behind : IsInOrder y x
