-- Spans of an edge: that they follow one another, and that they tell where the edge is hidden.
use Rattle.std.specs.Prelude.{◌≡◌, ◌↔◌, ℤ, pos, ◌<ℤ◌, IsTrue, List, [], ◌∷◌}
use Rattle.exact_frac.specs.declared.Frac.{Frac}
use Rattle.lattice.specs.declared.spans.Span.{Span}
use Rattle.lattice.specs.Triple.{Triple}
use Rattle.geometry.specs.Faces.{share_point}
use Rattle.geometry.specs.Parts.{Part, Edge}
use Rattle.geometry.specs.Places.{IsEarlier, IsSame, IsBetween}
use Rattle.geometry.specs.Views.{IsHidden, IsOrdinary}

-- the spans follow one another from a place to a place
abbrev pub Follow : Frac → List Span → Frac → Type 0
Follow from [] to = IsSame from to
Follow from (x ∷ xs) to = IsSame x.from from × IsEarlier x.from x.to × Follow x.to xs to

-- from 0 to 1
abbrev pub CoverEdge : List Span → Type 0
CoverEdge spans = (from : Frac) × (to : Frac) × (from.num ≡ pos 0) × (to.num ≡ to.den) × Follow from spans to

-- at each ordinary point strictly within the span, what it tells is so
abbrev pub IsAnswer : Triple → {s : Part} → Edge s → Span → Type 0
IsAnswer d {s = s} e x = (n m : ℤ) → pos 0 <ℤ m → IsBetween x.from x.to n m → IsOrdinary d s (share_point e.a e.b n m) → IsTrue x.hidden ↔ IsHidden d s (share_point e.a e.b n m)
