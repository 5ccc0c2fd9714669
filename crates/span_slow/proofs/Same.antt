-- What is an end of an interval is so by its numbers.
use Rattle.std.proofs.Common.{sym, ◌∙◌, inl, inr}
use Rattle.std.specs.Prelude.{List}
use Rattle.exact_frac.specs.declared.Frac.{Frac}
use Rattle.geometry.specs.Places.{IsSame}
use Rattle.geometry.proofs.SamePlaces.{same_trans}
use Rattle.intervals.specs.declared.interval.Interval.{Interval}
use Rattle.span_slow.specs.inner.Hidden.{IsIntervalEnd}

pub same_known : (xs : List (Interval Frac)) (a b : Frac) → IsSame a b → IsIntervalEnd xs b → IsIntervalEnd xs a
same_known xs a b p h = elim h [
  | inl z ↦ inl (p.0 ∙ z)
  | inr k ↦ elim k [
    | inl z ↦ inr (inl (p.0 ∙ z ∙ sym p.1))
    | inr x ↦ inr (inr (x.0, x.1, elim x.2 [ inl s ↦ inl (same_trans a b x.0.from p s) | inr s ↦ inr (same_trans a b x.0.to p s) ]))
  ]
]
