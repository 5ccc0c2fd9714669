-- The part of an edge that is beyond the plane of a cut, and spans that cover it.
use Rattle.std.specs.Prelude.{◌≡◌, ◌⊎◌, ◌↔◌, ℤ, pos, ◌<ℤ◌, List, [], ◌∷◌, All, Contains}
use Rattle.exact_frac.specs.declared.Frac.{Frac}
use Rattle.intervals.specs.declared.interval.Interval.{Interval}
use Rattle.lattice.specs.declared.spans.Span.{Span}
use Rattle.lattice.specs.Cuts.{Plane, IsBeyond, IsOnPlane}
use Rattle.geometry.specs.Faces.{share_point}
use Rattle.geometry.specs.Parts.{Part, Edge}
use Rattle.geometry.specs.Places.{IsPlace, IsEarlier, IsBetween, point_at}
use Rattle.geometry.specs.Spans.{Follow}

-- it is between two places of an edge, and has an inside
pub record IsStretch (x : Interval Frac) : Type 0 where
  pub from_place : IsPlace x.from
  pub to_place : IsPlace x.to
  pub earlier : IsEarlier x.from x.to

-- n / m is strictly within one of them
abbrev pub IsWithinAny : List (Interval Frac) → ℤ → ℤ → Type 0
IsWithinAny xs n m = (x : Interval Frac) × Contains xs x × IsBetween x.from x.to n m

-- 0, 1, or where the edge meets the plane
abbrev pub IsPartEnd : Plane → {s : Part} → Edge s → Frac → Type 0
IsPartEnd c e r = (r.num ≡ pos 0) ⊎ (r.num ≡ r.den) ⊎ IsOnPlane c (point_at e r)

-- each inner point of the edge is beyond the plane exactly if it is strictly within an interval
pub record IsPartBeyond (c : Plane) {s : Part} (e : Edge s) (xs : List (Interval Frac)) : Type 0 where
  pub stretches : All IsStretch xs
  pub ends : All (λ x. IsPartEnd c e x.from × IsPartEnd c e x.to) xs
  pub exactly : (n m : ℤ) → pos 0 <ℤ n → n <ℤ m → IsBeyond c (share_point e.a e.b n m) ↔ IsWithinAny xs n m

-- the spans follow one another over the part, if there is one
abbrev pub CoverPart : List (Interval Frac) → List Span → Type 0
CoverPart [] spans = spans ≡ []
CoverPart (x ∷ []) spans = Follow x.from spans x.to
CoverPart (x ∷ y ∷ xs) spans = ⊥

-- over the part of the edge that is beyond the plane
abbrev pub CoverBeyond : Plane → {s : Part} → Edge s → List Span → Type 0
CoverBeyond c e spans = (xs : List (Interval Frac)) × IsPartBeyond c e xs × CoverPart xs spans
