-- How large the numbers of a layout are.
use Rattle.std.specs.Prelude.{ℕ, ◌*◌, ◌≤◌, ◌^◌, unsigned_abs}
use Rattle.sheet_layout.specs.Layouts.{Case, case_of}
use Rattle.sheet_layout.specs.Rows.{Rows}
use Rattle.sheet_layout.specs.declared.plans.Plan.{Plan}
use Rattle.sheet_layout.specs.declared.rects.Standing.{Standing}
use Rattle.sheet_layout.specs.declared.rows.Rows as code
use Rattle.sheet_layout.specs.declared.seats.Seat.{Seat}
use Rattle.sheet_layout.specs.declared.trials.Case as code_case
use Rattle.sheet_layout.specs.declared.trials.Found.{Found}

-- a view's box, and how far it is from the view's origin
pub record IsSmall (s : Seat) : Type 0 where
  pub width : s.width ≤ 2 ^ 46
  pub height : s.height ≤ 2 ^ 46
  pub from_left : unsigned_abs s.from_left ≤ 2 ^ 45
  pub above : unsigned_abs s.above ≤ 2 ^ 45
  pub left : s.left ≤ 2 ^ 32
  pub right : s.right ≤ 2 ^ 32
  pub top : s.top ≤ 2 ^ 32
  pub bottom : s.bottom ≤ 2 ^ 32

-- what the rows are
abbrev pub rows_seen : code.Rows → Rows
rows_seen r = record { spots = r.spots.items; stood = r.stood.items; row = r.row; x = r.x; y = r.y; bottom = r.bottom; width = r.width; from = r.from }

-- rows of so many blocks
pub record IsLow (blocks : ℕ) (r : Rows) : Type 0 where
  pub row : r.row ≤ blocks
  pub x : r.x ≤ blocks * 2 ^ 52
  pub y : r.y ≤ blocks * 2 ^ 52
  pub bottom : r.bottom ≤ blocks * 2 ^ 52
  pub width : r.width ≤ blocks * 2 ^ 52
  pub from : r.from ≤ 2 ^ 52

-- a view that stands
pub record IsFar (t : Standing) : Type 0 where
  pub x : t.x ≤ 2 ^ 80
  pub y : t.y ≤ 2 ^ 80
  pub seat : IsSmall t.seat

-- one that stands on a sheet
pub record IsNear (t : Standing) : Type 0 where
  pub x : t.x ≤ 2 ^ 20
  pub y : t.y ≤ 2 ^ 20
  pub seat : IsSmall t.seat

-- what a case is
abbrev pub case_seen : code_case.Case → Case
case_seen c = case_of c.job.now c.through.now c.sides.now c.extents.now

-- the plan that was found
abbrev pub plan_found : Found → Plan
plan_found f = f.plan
