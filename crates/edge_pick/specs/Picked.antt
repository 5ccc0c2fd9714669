-- What is picked for a view.
use Rattle.std.specs.Prelude.{ℕ, List}
use Rattle.lattice.specs.Triple.{Triple}
use Rattle.geometry.specs.Parts.{Part}
use Rattle.geometry.specs.Views.{AreDrawnEdges, AreOutlines}
use Rattle.geometry.specs.Runs.{AreRuns}
use Rattle.edge_pick.specs.declared.Picked.{Picked}

-- the drawn edges, the outlines, and the run of each drawn edge
pub record IsPicked (d : Triple) (fraction : ℕ) (s : Part) (halves : List ℕ) (p : Picked) : Type 0 where
  pub drawn : AreDrawnEdges d fraction s halves p.drawn.items
  pub outlines : AreOutlines d s halves p.outlines.items
  pub runs : AreRuns s halves p.drawn.items p.runs.items
