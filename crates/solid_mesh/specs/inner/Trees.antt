-- The triangles of a part in some order, and trees over them.
use Rattle.std.specs.Prelude.{◌≡◌, ◌⊎◌, ℕ, ◌≤◌, List, map, length, Some, slice_get}
use Rattle.std.specs.List.{All, range_with_len}
use Rattle.std.specs.List.Sorted.{IsPermutation}
use Rattle.lattice.specs.declared.points.Corner.{Corner}
use Rattle.lattice.specs.declared.soup.Tri.{Tri}
use Rattle.geometry.specs.Parts.{Part, Face, IsCornerOf}
use Rattle.solid_mesh.specs.inner.Bounds.{AreTriangleBounds, IsInBounds, AreWithin}
use Rattle.solid_mesh.specs.declared.bounds.Bounds.{Bounds}
use Rattle.solid_mesh.specs.declared.placed.Placed.{Placed}
use Rattle.solid_mesh.specs.declared.subtrees.Subtree.{Subtree}

-- of the triangle's corners a, b and c one has this number, and the other two are within the bounds
abbrev pub IsRim : Tri → ℕ → Corner → Corner → Corner → Bounds → Type 0
IsRim t corner a b c r =
    ((t.a ≡ corner) × IsInBounds b r × IsInBounds c r) ⊎ ((t.b ≡ corner) × IsInBounds c r × IsInBounds a r)
    ⊎ ((t.c ≡ corner) × IsInBounds a r × IsInBounds b r)

-- the bounds are those of the triangle with its number, the corner is one of its three, at its place, and the others are within the rim
pub record IsPlaced (s : Part) (x : Placed) : Type 0 where
  pub face : Face s
  pub numbered : face.number ≡ x.tri
  pub of_face : AreTriangleBounds face.a face.b face.c x.bounds
  pub has : IsCornerOf face.tri x.corner
  pub at : slice_get s.corners x.corner ≡ Some x.at
  pub rim : IsRim face.tri x.corner face.a face.b face.c x.rim

-- each of the part's triangles, in some order
pub record AreAllPlaced (s : Part) (placed : List Placed) : Type 0 where
  pub each : All (IsPlaced s) placed
  pub numbers : IsPermutation (range_with_len 0 (length s.triangles)) (map (λ (x : Placed). x.tri) placed)

-- the subtree of the triangle at place k begins there or before, and each triangle from its first to that one is within its bounds,
-- and has its corner, if it has one; its other corners are within the rim
pub record IsSubtree (placed : List Placed) (k : ℕ) (t : Subtree) : Type 0 where
  pub first : t.first ≤ k
  pub around : (j : ℕ) (x : Placed) → t.first ≤ j → j ≤ k → slice_get placed j ≡ Some x → AreWithin x.bounds t.around
  pub corner : (corner : ℕ) → t.corner ≡ Some corner → (j : ℕ) (x : Placed) → t.first ≤ j → j ≤ k → slice_get placed j ≡ Some x → x.corner ≡ corner
  pub rim : (j : ℕ) (x : Placed) → t.first ≤ j → j ≤ k → slice_get placed j ≡ Some x → AreWithin x.rim t.rim

-- those of the first of these triangles, one for each place
abbrev pub AreSubtrees : List Placed → List Subtree → Type 0
AreSubtrees placed subtrees = (k : ℕ) (t : Subtree) → slice_get subtrees k ≡ Some t → IsSubtree placed k t
