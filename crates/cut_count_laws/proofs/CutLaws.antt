-- What outlines and borders have changed of a count along an edge of a cut view by a place, and the lists that a walk along the edge has of them.
use Rattle.std.specs.Prelude.{◌≡◌, ◌≢◌, ℕ, ◌<◌, Bool, true, false, List, All, AllPairs, Contains, Some, length, slice_get, ℤ, pos, ◌-ℤ◌, ◌*ℤ◌, ◌<ℤ◌}
use Rattle.lattice.specs.declared.points.Corner.{Corner}
use Rattle.lattice.specs.declared.soup.Tri.{Tri}
use Rattle.lattice.specs.Triple.{Triple}
use Rattle.lattice.specs.Points.{point_of}
use Rattle.lattice.specs.Cuts.{Plane, toward_of}
use Rattle.geometry.specs.Faces.{share_point}
use Rattle.geometry.specs.Parts.{Part, Face, Edge, AreEdges, IsNumbered}
use Rattle.geometry.specs.Views.{face_sign}
use Rattle.geometry.specs.Counts.{Side}
use Rattle.geometry.specs.Covers.{IsOneWhere}
use Rattle.geometry.specs.Shares.{denominator_of, numerator_of}
use Rattle.hiding_laws.proofs.Changed.{IsCrossedBefore}
use Rattle.cut_plane.proofs.Sights.{Sight, sight_of, turn_of, counts, corner_at}
use Rattle.cut_plane.proofs.Xors.{xor}
use Rattle.cut_count_laws.specs.CutCovers.{IsCutCoveredNext}
use Rattle.cut_count_laws.specs.CutShares.{cut_change_of, PassesInCut, CutChanges}
use Rattle.cut_count_laws.proofs.Rests.{HasBorderChange}
use Rattle.cut_count_laws.proofs.Rays.{is_marked, of_border, border_ahead}

-- ---- outlines
-- what the outline has changed of a count by the place n / m
pub data HasCutChanged (k : Side) (c : Plane) {s : Part} (e o : Edge s) (n m : ℤ) : ℤ → Type 0 where
  passed : PassesInCut c e o → IsCrossedBefore (toward_of c) e o n m → HasCutChanged k c e o n m (cut_change_of k c e o)
  not_passed : ¬ (PassesInCut c e o × IsCrossedBefore (toward_of c) e o n m) → HasCutChanged k c e o n m (pos 0)

-- a list of edges, none twice, that has each one which changes a count before the place
pub record HasEachOutline (c : Plane) {s : Part} (e : Edge s) (n m : ℤ) (halves numbers : List ℕ) : Type 0 where
  pub edges : AreEdges s halves
  pub within : All (λ i. i < length halves) numbers
  pub once : AllPairs ◌≢◌ numbers
  pub whole : (i : ℕ) (o : Edge s) → IsNumbered halves i o → CutChanges c e o → IsCrossedBefore (toward_of c) e o n m → Contains numbers i

-- ---- borders
-- whether the triangle's border crosses the edge's line after its first end and not after the place n / m
abbrev pub border_passed : Side → Plane → (s : Part) → Corner → Edge s → ℤ → ℤ → Tri → Bool
border_passed k c s o e n m t = xor (border_ahead k c s o e (pos 0) (pos 1) t) (border_ahead k c s o e n m t)

-- what the border has changed by the place of how many faces are counted: the face ends there
pub data HasBorderChanged (k : Side) (c : Plane) {s : Part} (o : Corner) (e : Edge s) (f : Face s) (n m : ℤ) : ℤ → Type 0 where
  passed : (change : ℤ) → border_passed k c s o e n m f.tri ≡ true → HasBorderChange k c e f change → HasBorderChanged k c o e f n m (pos 0 -ℤ (face_sign (toward_of c) f *ℤ change))
  not_passed : border_passed k c s o e n m f.tri ≡ false → HasBorderChanged k c o e f n m (pos 0)

-- a list of triangles, none twice, that has each one whose border passes the test
pub record HasEachBorder (s : Part) (passes : Tri → Bool) (numbers : List ℕ) : Type 0 where
  pub within : All (λ i. i < length s.triangles) numbers
  pub once : AllPairs ◌≢◌ numbers
  pub whole : (f : Face s) → passes f.tri ≡ true → Contains numbers f.number

-- ---- from the second end
-- the lines of the two cross after the place n / m
abbrev pub IsCrossedAfter : Triple → {s : Part} → Edge s → Edge s → ℤ → ℤ → Type 0
IsCrossedAfter d e o n m = (n *ℤ (denominator_of d e o *ℤ denominator_of d e o)) <ℤ ((numerator_of d e o *ℤ denominator_of d e o) *ℤ m)

-- what the outline changes of a count after the place, in the edge's own direction
pub data ChangesAfter (k : Side) (c : Plane) {s : Part} (e o : Edge s) (n m : ℤ) : ℤ → Type 0 where
  to_come : PassesInCut c e o → IsCrossedAfter (toward_of c) e o n m → ChangesAfter k c e o n m (cut_change_of k c e o)
  not_to_come : ¬ (PassesInCut c e o × IsCrossedAfter (toward_of c) e o n m) → ChangesAfter k c e o n m (pos 0)

-- a list of edges, none twice, that has each one which changes a count after the place
pub record HasEachOutlineAfter (c : Plane) {s : Part} (e : Edge s) (n m : ℤ) (halves numbers : List ℕ) : Type 0 where
  pub edges : AreEdges s halves
  pub within : All (λ i. i < length halves) numbers
  pub once : AllPairs ◌≢◌ numbers
  pub whole : (i : ℕ) (o : Edge s) → IsNumbered halves i o → CutChanges c e o → IsCrossedAfter (toward_of c) e o n m → Contains numbers i

-- whether the marks of a and b differ and the way between them crosses the line from p to q before t, which is on that line
abbrev pub is_behind : Side → Sight → Sight → Sight → Sight → Sight → Bool
is_behind k p q t a b = counts (is_marked k (turn_of p q a)) (is_marked k (turn_of p q b)) (pos 0 -ℤ turn_of a b t)

-- whether the triangle's border crosses the edge's line before its place n / m
abbrev pub border_behind : Side → Plane → (s : Part) → Corner → Edge s → ℤ → ℤ → Tri → Bool
border_behind k c s o e n m t =
    let sight = sight_of (toward_of c) in
    of_border (is_behind k (sight (point_of e.a)) (sight (point_of e.b)) (sight (share_point e.a e.b n m))) c (corner_at s o t.a) (corner_at s o t.b) (corner_at s o t.c)

-- before the edge's second end and not before the place
abbrev pub border_to_come : Side → Plane → (s : Part) → Corner → Edge s → ℤ → ℤ → Tri → Bool
border_to_come k c s o e n m t = xor (border_behind k c s o e (pos 1) (pos 1) t) (border_behind k c s o e n m t)

-- what the border changes after the place of how many faces are counted, in the edge's own direction
pub data BorderChangesAfter (k : Side) (c : Plane) {s : Part} (o : Corner) (e : Edge s) (f : Face s) (n m : ℤ) : ℤ → Type 0 where
  to_come : (change : ℤ) → border_to_come k c s o e n m f.tri ≡ true → HasBorderChange k c e f change → BorderChangesAfter k c o e f n m (pos 0 -ℤ (face_sign (toward_of c) f *ℤ change))
  not_to_come : border_to_come k c s o e n m f.tri ≡ false → BorderChangesAfter k c o e f n m (pos 0)

-- ---- next to an end of the edge
-- the list has, for each triangle in its order, 1 where it is counted next to that end and else 0
pub record AreCutCovers (k : Side) (c : Plane) {s : Part} (e : Edge s) (at_b : Bool) (covers : List ℕ) : Type 0 where
  pub long : length covers ≡ length s.triangles
  pub each : (i x : ℕ) → slice_get covers i ≡ Some x → (f : Face s) → f.number ≡ i → IsOneWhere (IsCutCoveredNext k c e at_b f) x
