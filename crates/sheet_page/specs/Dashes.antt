-- The dashes of a hidden path, fitted to its length so that a corner or an end shows a dash.
use Rattle.std.specs.Prelude.{ℕ, ◌+◌, ◌-◌, ◌*◌, ◌/◌, ◌%◌, ◌^◌, ◌<◌, ◌≤◌, min, max, nat_lt, if◌then◌else◌, ℤ, ◌-ℤ◌, unsigned_abs, Bool, true, false, List, [], ◌∷◌, Option, Some, None, codes}
use Rattle.std.specs.Fmt.{decimal}
use Rattle.sheet_plan.specs.Numbers.{root_of}
use Rattle.sheet_page.specs.Pens.{narrow_of}
use Rattle.sheet_page.specs.declared.dashes.Dashes.{Dashes}
use Rattle.sheet_page.specs.declared.pens.Pens.{Pens}
use Rattle.sheet_plan.specs.declared.sheet.Mark.{Mark}
use Rattle.sheet_plan.specs.declared.sheet.Mark.TheVariants.{Dashed}
use Rattle.stroke_paths.specs.declared.path.Point.{Point}
use Rattle.svg_page.specs.Texts.{◌⊕◌}

-- how far apart two coordinates are, and no more than the widest sheet
abbrev pub apart : ℤ → ℤ → ℕ
apart a b = min 118900 (unsigned_abs (a -ℤ b))

-- the length from one point to another in 10^-6 mm, cut off
abbrev pub side : Point → Point → ℕ
side p q = root_of (10 ^ 8 * (apart p.x q.x * apart p.x q.x + apart p.y q.y * apart p.y q.y))

-- the length from a point through others, in their order
abbrev pub through : Point → List Point → ℕ
through p [] = 0
through p (q ∷ rest) = side p q + through q rest

-- the last of a point and others
abbrev pub last_of : Point → List Point → Point
last_of p [] = p
last_of p (q ∷ rest) = last_of q rest

-- the length of a path through these points in 10^-6 mm; a closed one has a side from its last point to its first
abbrev pub length_of : Bool → List Point → ℕ
length_of closed [] = 0
length_of false (p ∷ rest) = through p rest
length_of true (p ∷ rest) = through (last_of p rest) (p ∷ rest)

-- how many dashes a path has: at least two, and as many as come nearest to dashes of 12 widths and gaps of 3, halves rounded up. A closed
-- path is as long as dashes and gaps in turn; an open one ends with a dash, and is shorter by a gap. A width is in hundredths of a millimetre
abbrev pub dashes_on : Pens → Bool → ℕ → ℕ
dashes_on pens true length = max 2 ((length + 75000 * narrow_of pens) / (150000 * narrow_of pens))
dashes_on pens false length = max 2 ((length + 105000 * narrow_of pens) / (150000 * narrow_of pens))

-- how many gaps are between n dashes
abbrev pub gaps_between : Bool → ℕ → ℕ
gaps_between true n = n
gaps_between false n = n - 1

-- how long a gap is: a quarter of a dash, cut off, and at least 0.5 mm
abbrev pub gap_on : Bool → ℕ → ℕ → ℕ
gap_on closed length n = max 500000 (length / (4 * n + gaps_between closed n))

-- how long a dash is, cut off: the dashes share the rest
abbrev pub dash_on : Bool → ℕ → ℕ → ℕ
dash_on closed length n = (length - gaps_between closed n * gap_on closed length n) / n

abbrev pub shared : Bool → ℕ → ℕ → Dashes
shared closed length n = record { dash = dash_on closed length n; gap = gap_on closed length n }

-- the dashes that fit a path of this length; one below 1.5 mm is drawn whole
abbrev pub fitted : Pens → Bool → ℕ → Option Dashes
fitted pens closed length = if nat_lt length 1500000 then None else Some (shared closed length (dashes_on pens closed length))

-- n dashes and the gaps between them fill a length, but for less than 10^-6 mm a dash
pub record IsFilled (closed : Bool) (length n : ℕ) (d : Dashes) : Type 0 where
  pub within : n * d.dash + gaps_between closed n * d.gap ≤ length
  pub rest : length < n * d.dash + gaps_between closed n * d.gap + n

-- only a hidden path has dashes of its own
abbrev pub own_dashes : Pens → Mark → Bool → List Point → Option Dashes
own_dashes pens Dashed closed points = fitted pens closed (length_of closed points)
own_dashes pens mark closed points = None

-- 10^-6 mm as hundredths of a millimetre, with four decimals
abbrev pub with_decimals : ℕ → List ℕ
with_decimals n =
    decimal (n / 10000) ⊕ codes "." ⊕ decimal (n / 1000 % 10) ⊕ decimal (n / 100 % 10) ⊕ decimal (n / 10 % 10) ⊕ decimal (n % 10)
