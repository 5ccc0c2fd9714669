-- The cells that an edge passes as it is seen, in whole numbers: U and V counted from the least ones of the view.
use Rattle.std.specs.Prelude.{◌≡◌, ◌⊎◌, ℕ, ◌+◌, ◌-◌, ◌*◌, ◌/◌, ◌≤◌, ◌<◌}

-- an edge from its end of lesser U to the other, and how wide and how high a cell is
pub record Course : Type 0 where
  pub from_u : ℕ
  pub from_v : ℕ
  pub to_u : ℕ
  pub to_v : ℕ
  pub width : ℕ
  pub height : ℕ

pub record IsCourse (c : Course) : Type 0 where
  pub ordered : c.from_u ≤ c.to_u
  pub wide : 0 < c.width
  pub high : 0 < c.height

-- ---- what it meets
-- the sum of two values with the weights i and j is in step k, where steps are so long
pub record IsSumIn (from to size k i j : ℕ) : Type 0 where
  pub some : 0 < i + j
  pub least : (k * size) * (i + j) ≤ (i * from) + (j * to)
  pub below : (i * from) + (j * to) < ((k + 1) * size) * (i + j)

abbrev pub MeetsColumn : Course → ℕ → Type 0
MeetsColumn c column = (i : ℕ) × (j : ℕ) × IsSumIn c.from_u c.to_u c.width column i j

abbrev pub MeetsRow : Course → ℕ → Type 0
MeetsRow c row = (i : ℕ) × (j : ℕ) × IsSumIn c.from_v c.to_v c.height row i j

-- a point of it is in that column and that row
abbrev pub Meets : Course → ℕ → ℕ → Type 0
Meets c column row = (i : ℕ) × (j : ℕ) × IsSumIn c.from_u c.to_u c.width column i j × IsSumIn c.from_v c.to_v c.height row i j

-- ---- columns and rows
abbrev pub first_column : Course → ℕ
first_column c = c.from_u / c.width

abbrev pub last_column : Course → ℕ
last_column c = c.to_u / c.width

-- V at the left border of a column, times the difference of U
abbrev pub rise_at : Course → ℕ → ℕ
rise_at c column = ((c.to_u - (column * c.width)) * c.from_v) + (((column * c.width) - c.from_u) * c.to_v)

-- a row's height, times the difference of U
abbrev pub step_of : Course → ℕ
step_of c = (c.to_u - c.from_u) * c.height

-- the row in which it comes into a column: that of its first end, or that at the left border
abbrev pub IsEnterRow : Course → ℕ → ℕ → Type 0
IsEnterRow c column row =
    ((column ≡ first_column c) × (row ≡ c.from_v / c.height))
    ⊎ ((first_column c < column) × (row ≡ rise_at c column / step_of c))

-- the last row before it leaves a column: that of its second end, or that next to the right border, which the column does not hold
abbrev pub IsLeaveRow : Course → ℕ → ℕ → Type 0
IsLeaveRow c column row =
    ((column ≡ last_column c) × (row ≡ c.to_v / c.height))
    ⊎ ((column < last_column c) × (c.from_v < c.to_v) × (row ≡ (rise_at c (column + 1) - 1) / step_of c))
    ⊎ ((column < last_column c) × (c.to_v ≤ c.from_v) × (row ≡ rise_at c (column + 1) / step_of c))

-- the lesser and the greater of two numbers
abbrev pub AreInOrder : ℕ → ℕ → ℕ → ℕ → Type 0
AreInOrder a b low high = ((a ≤ b) × (low ≡ a) × (high ≡ b)) ⊎ ((b ≤ a) × (low ≡ b) × (high ≡ a))

-- the lowest and the highest row in a column
pub record AreRows (c : Course) (column low high : ℕ) : Type 0 where
  pub enter : ℕ
  pub leave : ℕ
  pub is_enter : IsEnterRow c column enter
  pub is_leave : IsLeaveRow c column leave
  pub in_order : AreInOrder enter leave low high

-- the lowest and the highest row of all
abbrev pub AreRowsOfAll : Course → ℕ → ℕ → Type 0
AreRowsOfAll c low high = AreInOrder (c.from_v / c.height) (c.to_v / c.height) low high

-- ---- how many cells
-- how far apart two numbers are
abbrev pub apart : ℕ → ℕ → ℕ
apart a b = (a - b) + (b - a)

-- columns and rows less one, of those from the first end's cell to the second's
abbrev pub span_of : Course → ℕ
span_of c = (last_column c - first_column c) + apart (c.from_v / c.height) (c.to_v / c.height) + 1

-- in the columns before this one there are at most n cells, by the row in which it comes into this one
abbrev pub AreBefore : Course → ℕ → ℕ → Type 0
AreBefore c column n = (row : ℕ) → IsEnterRow c column row → n ≤ (column - first_column c) + apart (c.from_v / c.height) row
