-- What a solid and its edges stand for, and when a part is refused.
use Rattle.std.specs.Prelude.{◌≡◌, ◌↔◌, ℕ, ◌<◌, List, Contains, Some, length, slice_get}
use Rattle.std.specs.List.Sorted.{IsStrictlyIncreasing}
use Rattle.lattice.specs.declared.soup.Tri.{Tri}
use Rattle.geometry.specs.Parts as parts
use Rattle.geometry.specs.Parts.{Part, part_with, IsNumbered, IsCornerOf}
use Rattle.solid_mesh.specs.declared.faults.MeshError.{MeshError}
use Rattle.solid_mesh.specs.declared.faults.MeshError.TheVariants.{Mesh, Memory}
use Rattle.solid_mesh.specs.Faults.{HasFault}
use Rattle.solid_mesh.specs.declared.solid.Edge.{Edge}
use Rattle.solid_mesh.specs.declared.solid.Solid.{Solid}

-- the solid's corners and triangles
abbrev pub solid_part : Solid → Part
solid_part s = part_with s.corners.items s.triangles.items

-- the halves that number the solid's edges
abbrev pub edge_halves : Solid → List ℕ
edge_halves s = s.lower_halves.items

-- these are the numbers of the edge's two corners and of its two faces
pub record HasNumbers {s : Part} (edge : parts.Edge s) (given : Edge) : Type 0 where
  pub a : edge.m ≡ given.a
  pub b : edge.n ≡ given.b
  pub left : edge.left.number ≡ given.left
  pub right : edge.right.number ≡ given.right

-- these are the numbers of an edge of the part, whose number is i
pub record IsEdgeAt (s : Part) (halves : List ℕ) (i : ℕ) (given : Edge) : Type 0 where
  pub edge : parts.Edge s
  pub numbered : IsNumbered halves i edge
  pub numbers : HasNumbers edge given

-- the edge's numbers are in range
pub record IsWithinPart (s : Part) (given : Edge) : Type 0 where
  pub a : given.a < length s.corners
  pub b : given.b < length s.corners
  pub left : given.left < length s.triangles
  pub right : given.right < length s.triangles

-- the numbers of the triangles that have this corner, in order
pub record AreTrianglesAt (s : Part) (corner : ℕ) (triangles : List ℕ) : Type 0 where
  pub ascending : IsStrictlyIncreasing triangles
  pub exactly : (i : ℕ) → Contains triangles i ↔ ((t : Tri) × (slice_get s.triangles i ≡ Some t) × IsCornerOf t corner)

-- the part is refused for a cause: its first fault, or want of memory
abbrev pub IsRefusedFor : Part → MeshError → Type 0
IsRefusedFor s (Mesh fault) = HasFault s fault
IsRefusedFor s (Memory e) = Unit {0}
