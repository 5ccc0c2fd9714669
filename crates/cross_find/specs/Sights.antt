-- What is seen of a part in one direction, and the count of the tests that were made on it.
use Rattle.std.specs.Prelude.{ℕ, ◌+◌, ◌≤◌, List, length}
use Rattle.std.specs.List.{All}
use Rattle.lattice.specs.Triangles.{IsBelow}
use Rattle.lattice.specs.Triple.{Triple, IsZero}
use Rattle.geometry.specs.Parts.{Part, AreEdges}
use Rattle.geometry.specs.Sound.{IsSound}

-- a part, the halves that number its edges, the direction to the viewer, and how many tests were made
pub record SightState : Type 0 where
  pub part : Part
  pub halves : List ℕ
  pub direction : Triple
  pub tests : ℕ

-- the part is sound and of limited size, the halves are those of its edges, and there is a direction
pub record IsSeen (x : SightState) : Type 0 where
  pub sound : IsSound x.part
  pub within : All (IsBelow (length x.part.corners)) x.part.triangles
  pub few_corners : length x.part.corners ≤ 60000
  pub few_triangles : length x.part.triangles ≤ 20000
  pub edges : AreEdges x.part x.halves
  pub directed : ¬ IsZero x.direction

-- one test more was made
abbrev pub with_test : SightState → SightState
with_test x = record x { tests = x.tests + 1 }
