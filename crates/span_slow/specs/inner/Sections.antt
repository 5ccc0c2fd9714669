-- The stretches of an edge between neighbouring places, of which those in a section are kept.
use Rattle.std.specs.Prelude.{◌≡◌, ◌⊎◌, ◌↔◌, ℤ, pos, ◌+ℤ◌, ◌*ℤ◌, ◌<ℤ◌, ◌≤ℤ◌, List, [], ◌∷◌, ◌++◌, All}
use Rattle.exact_frac.specs.declared.Frac.{Frac}
use Rattle.lattice.specs.Points.{Point}
use Rattle.geometry.specs.Faces.{share_point}
use Rattle.geometry.specs.Parts.{Part, Edge}
use Rattle.intervals.specs.declared.interval.Interval.{Interval}
use Rattle.geometry.specs.Places.{IsEarlier, IsValue, HasNoEndAt}
use Rattle.cut_plane.specs.Beyond.{IsWithinAny, IsStretch}

-- the point of the edge at the mediant of two places
abbrev pub mediant_point : {s : Part} → Edge s → Frac → Frac → Point
mediant_point e x y = share_point e.a e.b (x.num +ℤ y.num) (x.den +ℤ y.den)

-- the stretch from one place to the other has an inside, and P holds at its mediant
abbrev pub IsKept : {s : Part} → Edge s → (Point → Type 0) → Frac → Frac → Type 0
IsKept e P from to = IsEarlier from to × P (mediant_point e from to)

-- such a stretch is added, and no other
abbrev pub IsStretchAdded : {s : Part} → Edge s → (Point → Type 0) → Frac → Frac → List (Interval Frac) → List (Interval Frac) → Type 0
IsStretchAdded e P from to old new =
    (IsKept e P from to × (new ≡ old ++ record { from = from; to = to } ∷ [])) ⊎ ((¬ IsKept e P from to) × (new ≡ old))

-- O does not hold at the place of this value
abbrev pub IsApartFrom : (Point → Type 0) → {s : Part} → Edge s → Frac → Type 0
IsApartFrom O e r = (n m : ℤ) → pos 0 <ℤ m → pos 0 ≤ℤ n → n ≤ℤ m → IsValue r n m → ¬ O (share_point e.a e.b n m)

-- up to a place at which O does not hold: at each inner point of the edge that O holds of, P holds exactly if it is strictly within an interval
pub record AreWhereUpTo (O : Point → Type 0) {s : Part} (e : Edge s) (P : Point → Type 0) (to : Frac) (xs : List (Interval Frac)) : Type 0 where
  pub stretches : All IsStretch xs
  pub ends : All (λ x. HasNoEndAt O e x.from x.to) xs
  pub before : All (λ x. (x.to.num *ℤ to.den) ≤ℤ (to.num *ℤ x.to.den)) xs
  pub apart : IsApartFrom O e to
  pub exactly : (n m : ℤ) → pos 0 <ℤ n → n <ℤ m → (n *ℤ to.den) <ℤ (to.num *ℤ m) → O (share_point e.a e.b n m) → P (share_point e.a e.b n m) ↔ IsWithinAny xs n m
