-- How many tests the counts of a cut view may take.
use Rattle.std.specs.Prelude.{◌≡◌, ℕ, ◌+◌, ◌*◌, length}
use Rattle.geometry.specs.Parts.{Part}
use Rattle.cut_plane.specs.declared.loops.Section.{Section}
use Rattle.edge_pick.specs.declared.Picked.{Picked}

-- the number of drawn edges, times the sum of those of triangles, of outlines and of the section's segments twice
abbrev pub IsCutBound : Part → Section → Picked → ℕ → Type 0
IsCutBound s section picked bound = bound ≡ length picked.drawn.items * (length s.triangles + length picked.outlines.items + 2 * length section.segments.items)
