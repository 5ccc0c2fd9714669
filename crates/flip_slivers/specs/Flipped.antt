-- What flips of slivers leave.
use Rattle.std.specs.Prelude.{◌≡◌, ℕ, List, map}
use Rattle.lattice.specs.declared.points.Corner.{Corner}
use Rattle.lattice.specs.declared.soup.Tri.{Tri}
use Rattle.flip_slivers.specs.declared.bounded.Bounded.{Bounded}
use Rattle.flip_slivers.specs.Flips.{IsFlip, AreFlips, unmoved, IsGreatestBound}

-- the triangles after so many flips, of which none is left, and the greatest bound that one of them carries
pub record IsFlipped (corners : List Corner) (most : ℕ) (given triangles : List Tri) (flips moved : ℕ) : Type 0 where
  pub last : List Bounded
  pub by_flips : AreFlips corners most flips (map unmoved given) last
  pub is_triangles : triangles ≡ map (λ x. x.tri) last
  pub is_moved : IsGreatestBound last moved
  pub settled : (new : List Bounded) → ¬ IsFlip corners most last new
