-- The share of a side of a triangle in the two counts along an edge.
use Rattle.std.specs.Prelude.{◌≡◌, ◌⊎◌, ℤ, pos, negsuc, ◌+ℤ◌, ◌-ℤ◌, ◌*ℤ◌, ◌≤ℤ◌, ◌<ℤ◌}
use Rattle.hiding_laws.proofs.Places.{place_of}
use Rattle.geometry.specs.Counts.{Side, to_left, to_right}
use Rattle.geometry.specs.Shares.{mark}
use Rattle.hiding_laws.proofs.Screens.{Screen, area_of, turn_of, Covers}

-- `[a-p, b-a]` and `[q-p, b-a]`: over one another, the place where the side from a to b crosses the edge's line
abbrev pub numerator_of : Screen → Screen → Screen → ℤ
numerator_of p a b = ((a.u -ℤ p.u) *ℤ (b.v -ℤ a.v)) -ℤ ((a.v -ℤ p.v) *ℤ (b.u -ℤ a.u))

abbrev pub denominator_of : Screen → Screen → Screen → Screen → ℤ
denominator_of p q a b = ((q.u -ℤ p.u) *ℤ (b.v -ℤ a.v)) -ℤ ((q.v -ℤ p.v) *ℤ (b.u -ℤ a.u))

-- `det(q-p, b-a, a-p)`
abbrev pub depth_of : Screen → Screen → Screen → Screen → ℤ
depth_of p q a b =
    ((((q.v -ℤ p.v) *ℤ (b.h -ℤ a.h)) -ℤ ((q.h -ℤ p.h) *ℤ (b.v -ℤ a.v))) *ℤ (a.u -ℤ p.u)
    +ℤ ((((q.h -ℤ p.h) *ℤ (b.u -ℤ a.u)) -ℤ ((q.u -ℤ p.u) *ℤ (b.h -ℤ a.h))) *ℤ (a.v -ℤ p.v)))
    +ℤ ((((q.u -ℤ p.u) *ℤ (b.v -ℤ a.v)) -ℤ ((q.v -ℤ p.v) *ℤ (b.u -ℤ a.u))) *ℤ (a.h -ℤ p.h))

-- the side crosses the edge's line between the places n/m and n'/m', and strictly nearer
pub record Crosses (p q a b : Screen) (n m n' m' : ℤ) : Type 0 where
  pub after : (n *ℤ (denominator_of p q a b *ℤ denominator_of p q a b)) <ℤ ((numerator_of p a b *ℤ denominator_of p q a b) *ℤ m)
  pub before : ((numerator_of p a b *ℤ denominator_of p q a b) *ℤ m') <ℤ (n' *ℤ (denominator_of p q a b *ℤ denominator_of p q a b))
  pub nearer : pos 0 <ℤ (depth_of p q a b *ℤ denominator_of p q a b)

-- by how much a side of a face of that sign changes a count where it crosses
abbrev pub change_of : Side → ℤ → Screen → Screen → Screen → Screen → ℤ
change_of k sign p q a b = sign *ℤ (mark k (area_of p q a) -ℤ mark k (area_of p q b))

-- the corner stands strictly on that side of the edge's line
abbrev pub IsOnSide : Side → Screen → Screen → Screen → Type 0
IsOnSide to_left p q c = pos 0 <ℤ area_of p q c
IsOnSide to_right p q c = area_of p q c <ℤ pos 0

-- the triangle is strictly nearer over the place n/m of the edge, and has a corner strictly on that side
abbrev pub CountsAt : Side → Screen → Screen → Screen → Screen → Screen → ℤ → ℤ → Type 0
CountsAt k p q a b c n m = Covers a b c (place_of p q n m) × (IsOnSide k p q a ⊎ IsOnSide k p q b ⊎ IsOnSide k p q c)

-- a side that has a spot on the line of sight of the place has a projection along the edge
abbrev pub IsClearOf : Screen → Screen → Screen → Screen → ℤ → ℤ → Type 0
IsClearOf p q a b n m = turn_of (place_of p q n m) a b ≡ pos 0
    → ((area_of p q a ≤ℤ pos 0) × (pos 0 ≤ℤ area_of p q b)) ⊎ ((area_of p q b ≤ℤ pos 0) × (pos 0 ≤ℤ area_of p q a))
    → denominator_of p q a b ≡ pos 0

pub record IsClear (p q a b c : Screen) (n m : ℤ) : Type 0 where
  pub after : pos 0 <ℤ n
  pub before : n <ℤ m
  pub ab : IsClearOf p q a b n m
  pub bc : IsClearOf p q b c n m
  pub ca : IsClearOf p q c a n m

-- a sum of three corners with weights that are not all 0 is at p
pub record Touches (a b c p : Screen) : Type 0 where
  pub i : ℤ
  pub j : ℤ
  pub k : ℤ
  pub i_least : pos 0 ≤ℤ i
  pub j_least : pos 0 ≤ℤ j
  pub k_least : pos 0 ≤ℤ k
  pub some : pos 0 <ℤ ((i +ℤ j) +ℤ k)
  pub same_u : (((i *ℤ a.u) +ℤ (j *ℤ b.u)) +ℤ (k *ℤ c.u)) *ℤ p.w ≡ p.u *ℤ ((i +ℤ j) +ℤ k)
  pub same_v : (((i *ℤ a.v) +ℤ (j *ℤ b.v)) +ℤ (k *ℤ c.v)) *ℤ p.w ≡ p.v *ℤ ((i +ℤ j) +ℤ k)
  pub same_h : (((i *ℤ a.h) +ℤ (j *ℤ b.h)) +ℤ (k *ℤ c.h)) *ℤ p.w ≡ p.h *ℤ ((i +ℤ j) +ℤ k)

-- no inner spot of the edge is on the triangle
abbrev pub IsUnpierced : Screen → Screen → Screen → Screen → Screen → Type 0
IsUnpierced p q a b c = (n m : ℤ) → pos 0 <ℤ n → n <ℤ m → ¬ Touches a b c (place_of p q n m)

-- the triangle has the edge as a side, in either direction
abbrev pub IsSideOf : Screen → Screen → Screen → Screen → Screen → Type 0
IsSideOf p q a b c =
    ((a ≡ p) × (b ≡ q)) ⊎ ((b ≡ p) × (c ≡ q)) ⊎ ((c ≡ p) × (a ≡ q)) ⊎ ((b ≡ p) × (a ≡ q)) ⊎ ((c ≡ p) × (b ≡ q)) ⊎ ((a ≡ p) × (c ≡ q))

-- the sign of a triangle, from twice its area
pub data IsSign : ℤ → ℤ → Type 0 where
  edge_on : {z : ℤ} → z ≡ pos 0 → IsSign z (pos 0)
  front : {z : ℤ} → pos 0 <ℤ z → IsSign z (pos 1)
  back : {z : ℤ} → z <ℤ pos 0 → IsSign z (negsuc 0)

-- the triangle is one of those that are counted: not edge-on, strictly nearer, with a corner strictly on that side
abbrev pub Adds : Side → Screen → Screen → Screen → Screen → Screen → ℤ → ℤ → Type 0
Adds k p q a b c n m = (¬ (area_of a b c ≡ pos 0)) × CountsAt k p q a b c n m

-- what soundness says of an edge and a triangle, and what an ordinary place does
abbrev pub Passes : Screen → Screen → Screen → Screen → Screen → Type 0
Passes p q a b c = IsUnpierced p q a b c ⊎ IsSideOf p q a b c
