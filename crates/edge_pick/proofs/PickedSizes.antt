-- How many edges of a solid may be picked.
use Rattle.std.proofs.Common.{ℕ, ◌≤◌, List, length, arith}
use Rattle.lattice.specs.Triple.{Triple}
use Rattle.geometry.specs.Parts.{Edge}
use Rattle.geometry.specs.Views.{AreEdgesThat, IsDrawn, IsOutline}
use Rattle.solid_mesh.specs.declared.solid.Solid.{Solid}
use Rattle.solid_mesh.specs.Solids.{solid_part, edge_halves}
use Rattle.solid_mesh.proofs.Facts.{few_edges}
use Rattle.edge_pick.specs.Picked.{IsPicked}
use Rattle.edge_pick.specs.declared.Picked.{Picked}
use Rattle.edge_pick.proofs.Lists.{few_rising}

few_numbers : (solid : Solid) (P : Edge (solid_part solid) → Type 0) (numbers : List ℕ) → AreEdgesThat P (edge_halves solid) numbers → length numbers ≤ 60000
few_numbers solid P numbers are = omega (arith, few_rising numbers (length (edge_halves solid)) are.ascending are.within, few_edges solid)

module _ (solid : Solid) (picked : Picked) where
  pub few_drawn : (d : Triple) × (fraction : ℕ) × IsPicked d fraction (solid_part solid) (edge_halves solid) picked → length picked.drawn.items ≤ 60000
  few_drawn (d, fraction, are) = few_numbers solid (IsDrawn d fraction) picked.drawn.items are.drawn

  pub few_outlines : (d : Triple) × (fraction : ℕ) × IsPicked d fraction (solid_part solid) (edge_halves solid) picked → length picked.outlines.items ≤ 60000
  few_outlines (d, fraction, are) = few_numbers solid (IsOutline d) picked.outlines.items are.outlines
