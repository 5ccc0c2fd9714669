-- The triangles near a corner.
use Rattle.std.specs.Prelude.{ℕ, ◌+◌, ◌*◌, List, [], Contains, length, slice_index_or}
use Rattle.lattice.specs.Triple.{Triple}
use Rattle.geometry.specs.Parts.{Part}
use Rattle.solid_mesh.specs.Stars.{lists_of}
use Rattle.span_count.specs.Finders.{AreAllNear}
use Rattle.out_grid.specs.declared.near.NearTriangles.{NearTriangles}

-- those of the corner's cell, and none for another number
abbrev pub near_list : NearTriangles → ℕ → List ℕ
near_list t corner = slice_index_or (lists_of t.cells.items) (slice_index_or t.corner_cells.items corner (length t.cells.items)) []

-- all that may cover it are there
abbrev pub AreNear : Triple → Part → NearTriangles → Type 0
AreNear d s t = AreAllNear d s (λ corner. Contains (near_list t corner))

-- at most so many steps are made to find those near the corners of a part
abbrev pub near_bound : Part → ℕ
near_bound s = 9 * length s.corners + 18 * length s.triangles
