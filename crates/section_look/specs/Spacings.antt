-- How far apart the hatch lines of a cut view are.
use Rattle.std.specs.Prelude.{◌≡◌, ◌⊎◌, ℕ, ◌*◌, ◌/◌, ◌^◌, ◌<◌, ◌≤◌, max, Bool, true, false, List, [], ◌∷◌, length, Some, slice_get}
use Rattle.std.specs.List.{AllZip}
use Rattle.lattice.specs.declared.pieces.HatchLine.{HatchLine}
use Rattle.lattice.specs.Cuts.{Plane}
use Rattle.hatch_fill.specs.Chords.{AreChords}
use Rattle.sheet_plan.specs.declared.sheet.Sheet.{Sheet}
use Rattle.section_look.specs.declared.regions.Region.{Region}
use Rattle.section_look.specs.Regions.{segments_in}

-- so many tenths of a millimetre on the sheet in whole units, cut off, and at least one
abbrev pub spacing_at : Sheet → ℕ → ℕ
spacing_at sheet tenths = max (tenths * 10 ^ sheet.decimals * sheet.scale.den / (10 * sheet.scale.num)) 1

-- the region has at least four chords
abbrev pub HasFour : Plane → ℕ → Region → Type 0
HasFour c spacing region = (lines : List HatchLine) × AreChords c spacing (segments_in region) lines × (4 ≤ length lines)

abbrev pub HasFewer : Plane → ℕ → Region → Type 0
HasFewer c spacing region = (lines : List HatchLine) × AreChords c spacing (segments_in region) lines × (length lines < 4)

-- the region is thin, or has at least four chords
abbrev pub IsHatched : Plane → ℕ → Region → Bool → Type 0
IsHatched c spacing region thin = (thin ≡ true) ⊎ HasFour c spacing region

abbrev pub AreHatched : Plane → List Region → List Bool → ℕ → Type 0
AreHatched c regions marks spacing = AllZip (IsHatched c spacing) regions marks

-- a region that is not thin has fewer
pub record LacksLines (c : Plane) (regions : List Region) (marks : List Bool) (spacing : ℕ) : Type 0 where
  pub number : ℕ
  pub region : Region
  pub at : slice_get regions number ≡ Some region
  pub thick : slice_get marks number ≡ Some false
  pub fewer : HasFewer c spacing region

-- the first of these spacings at which no region lacks lines, or else the last
pub data IsChosen (c : Plane) (regions : List Region) (marks : List Bool) : List ℕ → ℕ → Type 0 where
  last : (spacing : ℕ) → IsChosen c regions marks (spacing ∷ []) spacing
  first : (spacing : ℕ) (others : List ℕ) → AreHatched c regions marks spacing → IsChosen c regions marks (spacing ∷ others) spacing
  later : (spacing : ℕ) (others : List ℕ) (chosen : ℕ) → LacksLines c regions marks spacing → IsChosen c regions marks others chosen → IsChosen c regions marks (spacing ∷ others) chosen

-- 3, 2, 1.5 and 1 mm
abbrev pub spacings : Sheet → List ℕ
spacings sheet = spacing_at sheet 30 ∷ spacing_at sheet 20 ∷ spacing_at sheet 15 ∷ spacing_at sheet 10 ∷ []
