-- The spots of an edge.
use Rattle.std.proofs.Common.{◌≡◌, ◌+◌, ◌<◌, arith}
use Rattle.std.specs.Prelude.{ℤ, pos, ◌+ℤ◌, ◌-ℤ◌, ◌*ℤ◌, ◌<ℤ◌, ◌≤ℤ◌, unsigned_abs}
use Rattle.std.proofs.lemmas.Int.{ints}
use Rattle.lattice.specs.declared.points.Corner.{Corner}
use Rattle.geometry.specs.Faces.{share_point, IsPointOfEdge}

-- the point at a share from 0 to 1 is a point of the edge
pub share_on_edge : (a b : Corner) (n m : ℤ) → pos 0 ≤ℤ n → n ≤ℤ m → pos 0 <ℤ m → IsPointOfEdge a b (share_point a b n m)
share_on_edge a b n m from to positive =
    let rest : m -ℤ n ≡ pos (unsigned_abs (m -ℤ n)) = omega (arith, ints) in
    let gone : n ≡ pos (unsigned_abs n) = omega (arith, ints) in
    let whole : m ≡ pos (unsigned_abs (m -ℤ n) + unsigned_abs n) = omega (arith, ints) in
    let some : 0 < unsigned_abs (m -ℤ n) + unsigned_abs n = omega (arith, ints) in (
      unsigned_abs (m -ℤ n),
      unsigned_abs n,
      some,
      λ i. record {
        x = (rest i *ℤ a.x) +ℤ (gone i *ℤ b.x);
        y = (rest i *ℤ a.y) +ℤ (gone i *ℤ b.y);
        z = (rest i *ℤ a.z) +ℤ (gone i *ℤ b.z);
        w = whole i;
      },
    )
