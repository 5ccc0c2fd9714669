-- How many faces are counted next to an end of an edge.
use Rattle.std.specs.Prelude.{◌≡◌, ℕ, Bool, List, Some, length, slice_get, sum}
use Rattle.std.specs.List.{AllZip}
use Rattle.lattice.specs.Triple.{Triple}
use Rattle.geometry.specs.Parts.{Part, Face, Edge}
use Rattle.geometry.specs.Counts.{Side}
use Rattle.geometry.specs.Covers.{IsCountedNext, IsOneWhere}

-- for each face of the part, in order, 1 where it is counted next to the end and else 0
pub record AreCovers (k : Side) (d : Triple) {s : Part} (e : Edge s) (at_b : Bool) (covers : List ℕ) : Type 0 where
  pub long : length covers ≡ length s.triangles
  pub each : (i x : ℕ) → slice_get covers i ≡ Some x → (f : Face s) → f.number ≡ i → IsOneWhere (IsCountedNext k d e at_b f) x

-- the same for the faces with these numbers
abbrev pub AreCoversOf : Side → Triple → {s : Part} → Edge s → Bool → List ℕ → List ℕ → Type 0
AreCoversOf k d {s = s} e at_b numbers covers = AllZip (λ i x. (f : Face s) → f.number ≡ i → IsOneWhere (IsCountedNext k d e at_b f) x) numbers covers

-- so many faces are counted on that side next to the end
pub record AreCountedNext (k : Side) (d : Triple) {s : Part} (e : Edge s) (at_b : Bool) (n : ℕ) : Type 0 where
  pub covers : List ℕ
  pub next : AreCovers k d e at_b covers
  pub all : n ≡ sum covers
