-- The spans that counts tell, each over neighbours that are all hidden or all visible.
use Rattle.std.specs.Prelude.{◌≡◌, ◌≢◌, ◌↔◌, ℕ, ◌+◌, IsTrue, List, [], ◌∷◌, ◌++◌, All, Contains}
use Rattle.std.specs.List.{AllZip}
use Rattle.geometry.specs.Parts.{Part, Edge, IsNumbered}
use Rattle.geometry.specs.Places.{IsSame}
use Rattle.span_count.specs.declared.span.CountSpan.{CountSpan}
use Rattle.span_count.specs.declared.span.EdgeSpans.{EdgeSpans}
use Rattle.lattice.specs.declared.spans.Span.{Span}

-- the span is hidden exactly where the two counts are not both 0
pub record IsToldBy (x : CountSpan) (span : Span) : Type 0 where
  pub from : IsSame span.from x.from
  pub to : IsSame span.to x.to
  pub hidden : IsTrue span.hidden ↔ (x.left + x.right ≢ 0)

-- the span goes over these: from where the first of them begins to where the last of them ends, and where it is hidden all of them are,
-- where it is visible none is
pub record IsJoined (here : List Span) (span : Span) : Type 0 where
  pub first : Span
  pub others : List Span
  pub begins : here ≡ first ∷ others
  pub from : IsSame span.from first.from
  pub before : List Span
  pub last : Span
  pub ends : here ≡ before ++ last ∷ []
  pub to : IsSame span.to last.to
  pub hidden : All (λ x. x.hidden ≡ span.hidden) here

-- the spans go over these, one after the other, and together over all of them
abbrev pub AreJoined : List Span → List Span → Type 0
AreJoined singles [] = singles ≡ []
AreJoined singles (y ∷ ys) = (here : List Span) × (rest : List Span) × (singles ≡ here ++ rest) × IsJoined here y × AreJoined rest ys

-- the spans are those that the counts tell, each over neighbours that are all hidden or all visible
abbrev pub AreToldBy : List CountSpan → List Span → Type 0
AreToldBy counts spans = (singles : List Span) × AllZip IsToldBy counts singles × AreJoined singles spans

-- the spans are those that the counts of an entry of the edge tell
pub record AreTold (entries : List EdgeSpans) (halves : List ℕ) {s : Part} (e : Edge s) (spans : List Span) : Type 0 where
  pub entry : EdgeSpans
  pub listed : Contains entries entry
  pub numbered : IsNumbered halves entry.edge e
  pub told : AreToldBy entry.spans.items spans
