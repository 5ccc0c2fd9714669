-- The edges of a solid by their numbers.
use Rattle.std.specs.Prelude.{ℕ}
use Rattle.geometry.specs.Parts.{Edge, IsNumbered}
use Rattle.solid_mesh.specs.declared.solid.Solid.{Solid}
use Rattle.solid_mesh.specs.Solids.{solid_part, edge_halves}

-- P holds of the solid's edge with the number i
abbrev pub OfEdge : (s : Solid) → ℕ → (Edge (solid_part s) → Type 0) → Type 0
OfEdge s i P = (e : Edge (solid_part s)) → IsNumbered (edge_halves s) i e → P e
