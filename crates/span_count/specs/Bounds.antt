-- How many tests the counts of a view may take.
use Rattle.std.specs.Prelude.{◌≡◌, ◌≤◌, ◌<◌, ◌+◌, ◌*◌, ℕ, List, All, length, sum}
use Rattle.std.specs.List.{AllZip}
use Rattle.edge_pick.specs.declared.Picked.{Picked}
use Rattle.geometry.specs.Parts.{Part, Edge, IsNumbered}
use Rattle.solid_mesh.specs.Solids.{AreTrianglesAt}

-- how many runs there are, where runs are numbered from 0 without a gap: the least number above each run's
pub record IsRunCount (runs : List ℕ) (count : ℕ) : Type 0 where
  pub above : All (λ run. run < count) runs
  pub least : (n : ℕ) → All (λ run. run < n) runs → count ≤ n

-- how many triangles there are at the two ends of the edge with this number, those at both counted twice
pub record IsEndCount (s : Part) (halves : List ℕ) (number count : ℕ) : Type 0 where
  pub edge : Edge s
  pub numbered : IsNumbered halves number edge
  pub at_first : List ℕ
  pub at_second : List ℕ
  pub first : AreTrianglesAt s edge.m at_first
  pub second : AreTrianglesAt s edge.n at_second
  pub count_is : count ≡ length at_first + length at_second

-- runs times triangles, three times drawn edges times outlines, and the triangles at the ends of each drawn edge
pub record IsBound (s : Part) (halves : List ℕ) (picked : Picked) (bound : ℕ) : Type 0 where
  pub runs : ℕ
  pub ends : List ℕ
  pub are_runs : IsRunCount picked.runs.items runs
  pub are_ends : AllZip (IsEndCount s halves) picked.drawn.items ends
  pub bound_is : bound ≡ runs * length s.triangles + 3 * length picked.drawn.items * length picked.outlines.items + sum ends
