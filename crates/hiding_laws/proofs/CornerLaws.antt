-- What a face adds to a count next to a corner that it does not have.
use Rattle.std.specs.Prelude.{◌≡◌, ◌⊎◌, ◌↔◌, ℕ, ◌+◌, ◌*◌, ◌<◌, nat_lt, ℤ, pos, ◌+ℤ◌, ◌-ℤ◌, ◌*ℤ◌, ◌<ℤ◌}
use Rattle.hiding_laws.proofs.Screens.{Screen, area_of, turn_of, SideCovers, lead_of}
use Rattle.geometry.specs.Counts.{Side}
use Rattle.geometry.specs.Turns.{Way, turn_from, product_of, Passes, perturbed, TurnPasses}
use Rattle.hiding_laws.specs.inner.Tallies.{IsTally}
use Rattle.hiding_laws.specs.inner.Perturbations.{perturbation_between, TwoAreLeft}
use Rattle.hiding_laws.proofs.Shares.{CountsAt, Touches, Adds}
use Rattle.hiding_laws.proofs.SumsBelow.{sum_below, keep}
use Rattle.hiding_laws.proofs.Meshes.{Mesh, IsMesh}

-- the way in the view from o to q
abbrev pub way : Screen → Screen → Way
way o q = record { u = q.u -ℤ o.u; v = q.v -ℤ o.v }

-- k is above the size of z
pub record IsBelow (k z : ℤ) : Type 0 where
  pub least : (pos 0 -ℤ k) <ℤ z
  pub most : z <ℤ k

-- k is above the numbers of a side of a face, seen from the edge from o to q
pub record IsFine (o q a b : Screen) (k : ℤ) : Type 0 where
  pub turn : IsBelow k (turn_of q a b)
  pub product : IsBelow k (product_of (way a b) (way o q))

-- the place n/m of the edge from o is nearer to o than 1/k
pub record IsNear (k n m : ℤ) : Type 0 where
  pub after : pos 0 <ℤ n
  pub before : n <ℤ m
  pub near : (n *ℤ k) <ℤ m

-- from o, the way x goes to the inner side of the side from a to b
abbrev pub IsWithin : Screen → Screen → Screen → Way → Type 0
IsWithin o a b x = (pos 0 <ℤ turn_of o a b) ⊎ ((turn_of o a b ≡ pos 0) × (pos 0 <ℤ turn_from (way a b) x))

-- next to o, along the way x, the face is strictly nearer
abbrev pub IsOverWay : Screen → Screen → Screen → Screen → Way → Type 0
IsOverWay o a b c x = (pos 0 <ℤ lead_of a b c o) × IsWithin o b c x × IsWithin o c a x × IsWithin o a b x

-- next to o, a face that is turned to the viewer counts along an edge from o exactly where it is over the way that is perturbed to that side
abbrev pub NearLaw : Type 0
NearLaw = (c : Side) (o q a b d : Screen) (k n m : ℤ) → o.w ≡ pos 1 → q.w ≡ pos 1 → ¬ ((o.u ≡ q.u) × (o.v ≡ q.v)) → pos 0 <ℤ area_of a b d
    → ¬ Touches a b d o → IsFine o q a b k → IsFine o q b d k → IsFine o q d a k → IsBelow k (lead_of a b d q) → IsNear k n m
    → CountsAt c o q a b d n m ↔ IsOverWay o a b d (perturbed c k (way o q))

-- an end e of the side from a to b changes a count by the turn from x to y: the side has a strictly nearer spot on o's line of sight, the end is not on that line, and the turn passes the way to it
abbrev pub EndPasses : Screen → Screen → Screen → Screen → Way → Way → Type 0
EndPasses o a b e x y = SideCovers a b o × (¬ ((o.u ≡ e.u) × (o.v ≡ e.v))) × Passes x (way o e) y

pub record Ends (o a b d : Screen) (x y : Way) (ab_a ab_b bd_b bd_d da_d da_a : ℤ) : Type 0 where
  pub at_ab_a : IsTally (EndPasses o a b a x y) ab_a
  pub at_ab_b : IsTally (EndPasses o a b b x y) ab_b
  pub at_bd_b : IsTally (EndPasses o b d b x y) bd_b
  pub at_bd_d : IsTally (EndPasses o b d d x y) bd_d
  pub at_da_d : IsTally (EndPasses o d a d x y) da_d
  pub at_da_a : IsTally (EndPasses o d a a x y) da_a

-- what a face without the corner o adds next to o changes from one edge at o to another by the ends of its sides that the turn passes
abbrev pub FrontCornerLaw : Type 0
FrontCornerLaw = (c c' : Side) (o q q' a b d : Screen) (k n m n' m' before after ab_a ab_b bd_b bd_d da_d da_a : ℤ)
    → o.w ≡ pos 1 → q.w ≡ pos 1 → q'.w ≡ pos 1 → ¬ ((o.u ≡ q.u) × (o.v ≡ q.v)) → ¬ ((o.u ≡ q'.u) × (o.v ≡ q'.v)) → pos 0 <ℤ area_of a b d → ¬ Touches a b d o
    → IsFine o q a b k → IsFine o q b d k → IsFine o q d a k → IsBelow k (lead_of a b d q) → IsNear k n m
    → IsFine o q' a b k → IsFine o q' b d k → IsFine o q' d a k → IsBelow k (lead_of a b d q') → IsNear k n' m'
    → IsTally (CountsAt c o q a b d n m) before → IsTally (CountsAt c' o q' a b d n' m') after
    → Ends o a b d (perturbed c k (way o q)) (perturbed c' k (way o q')) ab_a ab_b bd_b bd_d da_d da_a
    → after -ℤ before ≡ ((ab_b -ℤ ab_a) +ℤ (bd_d -ℤ bd_b)) +ℤ (da_a -ℤ da_d)

-- for a fine perturbation, one perturbed way is to the left of another where the ways themselves are; where these are along one line, the perturbations decide
abbrev pub PerturbedLaw : Type 0
PerturbedLaw = (c c' : Side) (k : ℤ) (x y : Way) → pos 1 <ℤ k → IsBelow k (product_of x y +ℤ product_of x y)
    → (pos 0 <ℤ turn_from x y → pos 0 <ℤ turn_from (perturbed c k x) (perturbed c' k y))
    × (turn_from x y <ℤ pos 0 → turn_from (perturbed c k x) (perturbed c' k y) <ℤ pos 0)
    × (turn_from x y ≡ pos 0 → turn_from (perturbed c k x) (perturbed c' k y) ≡ k *ℤ (perturbation_between c c' *ℤ product_of x y))

-- whether a turn passes a way is told by the signs of three turns and three products, without a perturbation
abbrev pub TurnSignsLaw : Type 0
TurnSignsLaw = (k l : Side) (x y w : Way) → TurnPasses k x l y w ↔ TwoAreLeft k x l y w

-- h is above the products of the three ways of a turn
pub record IsFineTurn (h : ℤ) (x w y : Way) : Type 0 where
  pub large : pos 1 <ℤ h
  pub first : IsBelow h (product_of x w)
  pub second : IsBelow h (product_of w y)
  pub third : IsBelow h (product_of y x +ℤ product_of y x)

-- k and the two places suit the face next to the corner, and the corner is not on the face
pub record Suits (o q a b d : Screen) (k n m : ℤ) : Type 0 where
  pub ab : IsFine o q a b k
  pub bd : IsFine o q b d k
  pub da : IsFine o q d a k
  pub lead : IsBelow k (lead_of a b d q)
  pub near : IsNear k n m

abbrev pub HasCorner : Screen → Screen → Screen → Screen → Type 0
HasCorner o a b d = (a ≡ o) ⊎ (b ≡ o) ⊎ (d ≡ o)

-- from one edge at a corner to another, a count over the faces without that corner changes by the ends of the pairs of twins that the turn passes
abbrev pub AllCornerLaw : Type 0
AllCornerLaw = (c c' : Side) (o q q' : Screen) (s : Mesh) (k n m n' m' : ℤ) (before after starts ends : ℕ → ℤ)
    → o.w ≡ pos 1 → q.w ≡ pos 1 → q'.w ≡ pos 1 → ¬ ((o.u ≡ q.u) × (o.v ≡ q.v)) → ¬ ((o.u ≡ q'.u) × (o.v ≡ q'.v)) → IsMesh s
    → ((t : ℕ) → t < s.triangles → ¬ (area_of (s.from (3 * t)) (s.from (3 * t + 1)) (s.from (3 * t + 2)) ≡ pos 0)
    → Suits o q (s.from (3 * t)) (s.from (3 * t + 1)) (s.from (3 * t + 2)) k n m
    × Suits o q' (s.from (3 * t)) (s.from (3 * t + 1)) (s.from (3 * t + 2)) k n' m'
    × ((¬ HasCorner o (s.from (3 * t)) (s.from (3 * t + 1)) (s.from (3 * t + 2)) × ¬ Touches (s.from (3 * t)) (s.from (3 * t + 1)) (s.from (3 * t + 2)) o)
    ⊎ HasCorner o (s.from (3 * t)) (s.from (3 * t + 1)) (s.from (3 * t + 2))))
    → ((t : ℕ) → t < s.triangles → IsTally (¬ HasCorner o (s.from (3 * t)) (s.from (3 * t + 1)) (s.from (3 * t + 2)) × Adds c o q (s.from (3 * t)) (s.from (3 * t + 1)) (s.from (3 * t + 2)) n m) (before t))
    → ((t : ℕ) → t < s.triangles → IsTally (¬ HasCorner o (s.from (3 * t)) (s.from (3 * t + 1)) (s.from (3 * t + 2)) × Adds c' o q' (s.from (3 * t)) (s.from (3 * t + 1)) (s.from (3 * t + 2)) n' m') (after t))
    → ((h : ℕ) → h < 3 * s.triangles → IsTally (EndPasses o (s.from h) (s.to h) (s.from h) (perturbed c k (way o q)) (perturbed c' k (way o q'))) (starts h))
    → ((h : ℕ) → h < 3 * s.triangles → IsTally (EndPasses o (s.from h) (s.to h) (s.to h) (perturbed c k (way o q)) (perturbed c' k (way o q'))) (ends h))
    → sum_below after s.triangles -ℤ sum_below before s.triangles
    ≡ sum_below (λ h. keep (nat_lt h (s.twin h)) ((s.sign h -ℤ s.sign (s.twin h)) *ℤ (ends h -ℤ starts h))) (3 * s.triangles)
