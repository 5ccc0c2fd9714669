-- Where loops end, and what is added one by one.
use Rattle.std.specs.Prelude.{◌≡◌, ◌⊎◌, ℕ, ◌+◌, Bool, true, false, List, [], ◌∷◌, ◌++◌, slice_index_or}
use Rattle.lattice.specs.Triple.{Triple}
use Rattle.cut_plane.specs.declared.segments.Segment.{Segment}
use Rattle.sheet_plan.specs.declared.sheet.Sheet.{Sheet}
use Rattle.sheet_plan.specs.declared.sheet.Spread.{Spread}
use Rattle.section_look.specs.Looks.{IsFillOf}
use Rattle.section_look.specs.Regions.{ArePicked, IsIn, IsInner, IsRegion}
use Rattle.section_look.specs.declared.fills.Fill.{Fill}
use Rattle.section_look.specs.declared.regions.Region.{Region}

-- the loop with this number ends where the next begins, and the last at the end of all
abbrev pub end_of : List ℕ → ℕ → ℕ → ℕ
end_of starts k count = slice_index_or starts (k + 1) count

-- the loop is added if it is in the outer one
abbrev pub IsAddedIfIn : Triple → List Segment → List Segment → List (List Segment) → List (List Segment) → Type 0
IsAddedIfIn d outer other old new = (IsIn d other outer × (new ≡ old ++ other ∷ [])) ⊎ ((¬ IsIn d other outer) × (new ≡ old))

-- those of the others that are in the outer loop are added
pub record AreAddedIfIn (d : Triple) (outer : List Segment) (others old new : List (List Segment)) : Type 0 where
  pub added : List (List Segment)
  pub grown : new ≡ old ++ added
  pub right : ArePicked (λ other. IsIn d other outer) others added

-- the region of the loop with this number is added if that is an outer one
abbrev pub IsRegionAdded : Triple → List (List Segment) → ℕ → List Region → List Region → Type 0
IsRegionAdded d loops k old new = ((region : Region) × IsRegion d loops k region × (new ≡ old ++ region ∷ [])) ⊎ ((loop : List Segment) × IsInner d loops k loop × (new ≡ old))

-- a fill of the region is added if it is thin
abbrev pub IsFillAdded : Sheet → Spread → Region → Bool → List Fill → List Fill → Type 0
IsFillAdded sheet place region thin old new = ((fill : Fill) × (thin ≡ true) × IsFillOf sheet place region fill × (new ≡ old ++ fill ∷ [])) ⊎ ((thin ≡ false) × (new ≡ old))
