-- What holds along an edge next to an end of it.
use Rattle.std.specs.Prelude.{◌≡◌, ◌⊎◌, ℤ, pos, ◌*ℤ◌, ◌<ℤ◌, ◌≤ℤ◌, Bool, true, false}
use Rattle.lattice.specs.declared.points.Corner.{Corner}
use Rattle.lattice.specs.Triple.{Triple, dot}
use Rattle.geometry.specs.Faces.{difference, share_point, FaceHides}

-- P holds at each inner share below some share of the edge
pub record HoldsNext (P : ℤ → ℤ → Type 0) : Type 0 where
  pub n : ℤ
  pub m : ℤ
  pub some : pos 0 <ℤ n
  pub within : n ≤ℤ m
  pub over : (k l : ℤ) → pos 0 <ℤ k → pos 0 <ℤ l → (k *ℤ m) <ℤ (n *ℤ l) → P k l

-- the triangle of a, b and c is strictly nearer over some stretch of the edge from o to q, from o on
abbrev pub HidesFrom : Triple → Corner → Corner → Corner → Corner → Corner → Type 0
HidesFrom d a b c o q = HoldsNext (λ k l. FaceHides d a b c (share_point o q k l))

-- the same from the first corner p on, or from the second corner q on
abbrev pub HidesAt : Bool → Triple → Corner → Corner → Corner → Corner → Corner → Type 0
HidesAt false d a b c p q = HidesFrom d a b c p q
HidesAt true d a b c p q = HidesFrom d a b c q p

-- a value that is linear, here at one end and there at the other, is at least 0 next to the first
abbrev pub IsNotBelow : ℤ → ℤ → Type 0
IsNotBelow here there = (pos 0 <ℤ here) ⊎ ((here ≡ pos 0) × (pos 0 ≤ℤ there))

-- and is above 0 there
abbrev pub IsAbove : ℤ → ℤ → Type 0
IsAbove here there = (pos 0 <ℤ here) ⊎ ((here ≡ pos 0) × (pos 0 <ℤ there))

-- three corners are all strictly past o along an axis at right angles to the direction, and so none is seen there
pub record IsApart (d : Triple) (a b c o : Corner) : Type 0 where
  pub axis : Triple
  pub level : dot axis d ≡ pos 0
  pub first : pos 0 <ℤ dot axis (difference o a)
  pub second : pos 0 <ℤ dot axis (difference o b)
  pub third : pos 0 <ℤ dot axis (difference o c)

-- three numbers are all above another, or all below it
abbrev pub AreBeside : ℤ → ℤ → ℤ → ℤ → Type 0
AreBeside o a b c = ((o <ℤ a) × (o <ℤ b) × (o <ℤ c)) ⊎ ((a <ℤ o) × (b <ℤ o) × (c <ℤ o))
