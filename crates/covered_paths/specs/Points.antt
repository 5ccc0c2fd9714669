-- The points of a leg, and which are within a distance of others.
use Rattle.std.specs.Prelude.{◌≡◌, ◌⊎◌, ℤ, pos, ◌+ℤ◌, ◌-ℤ◌, ◌*ℤ◌, ◌<ℤ◌, ◌≤ℤ◌, List, [], ◌∷◌}
use Rattle.covered_paths.specs.declared.legs.Leg.{Leg}

-- the point (x / w, y / w) is within the distance of the point of a leg at which its ends have the weights i and j, with i + j = w
pub record IsNearAt (far x y w : ℤ) (t : Leg) : Type 0 where
  pub i : ℤ
  pub j : ℤ
  pub first : pos 0 ≤ℤ i
  pub second : pos 0 ≤ℤ j
  pub sum : i +ℤ j ≡ w
  pub near : (((x -ℤ ((i *ℤ t.x1) +ℤ (j *ℤ t.x2))) *ℤ (x -ℤ ((i *ℤ t.x1) +ℤ (j *ℤ t.x2)))) +ℤ ((y -ℤ ((i *ℤ t.y1) +ℤ (j *ℤ t.y2))) *ℤ (y -ℤ ((i *ℤ t.y1) +ℤ (j *ℤ t.y2))))) ≤ℤ ((far *ℤ w) *ℤ (far *ℤ w))

-- the point is within the distance of some point of a leg
pub record IsPointNear (far x y w : ℤ) (t : Leg) : Type 0 where
  pub scale : ℤ
  pub positive : pos 0 <ℤ scale
  pub at : IsNearAt far (scale *ℤ x) (scale *ℤ y) (scale *ℤ w) t

-- some leg of these does so
abbrev pub SomeLeg : (Leg → Type 0) → List Leg → Type 0
SomeLeg P [] = ⊥
SomeLeg P (t ∷ ts) = P t ⊎ SomeLeg P ts

-- each point of a leg, whose ends have any weights, is within the distance of some leg of these
abbrev pub EachPointNear : ℤ → List Leg → Leg → Type 0
EachPointNear far others s =
    (i j : ℤ) → pos 0 ≤ℤ i → pos 0 ≤ℤ j → pos 0 <ℤ (i +ℤ j)
    → SomeLeg (IsPointNear far ((i *ℤ s.x1) +ℤ (j *ℤ s.x2)) ((i *ℤ s.y1) +ℤ (j *ℤ s.y2)) (i +ℤ j)) others

-- each leg of a path so
abbrev pub EachLeg : (Leg → Type 0) → List Leg → Type 0
EachLeg P [] = Unit {0}
EachLeg P (s ∷ ss) = P s × EachLeg P ss
