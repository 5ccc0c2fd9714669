-- The spans of an edge in a cut view: they are within its part beyond the plane, and cover it.
use Rattle.std.proofs.Common.{◌⊎◌, inl, inr, List, [], Contains, subst, arith}
use Rattle.std.specs.Prelude.{ℤ, pos, ◌<ℤ◌}
use Rattle.lattice.specs.Cuts.{Plane, toward_of, IsBeyond}
use Rattle.geometry.specs.Faces.{share_point}
use Rattle.geometry.specs.Parts.{Part, Edge}
use Rattle.geometry.specs.Cuts.{IsOrdinaryInCut}
use Rattle.geometry.proofs.BorderSteps.{ordinary_along_cut}
use Rattle.lattice.specs.declared.spans.Span.{Span}
use Rattle.geometry.specs.Places.{IsEarlier, IsBetween, HasNoEndAt}
use Rattle.cut_plane.specs.Beyond.{CoverBeyond}
use Rattle.cut_plane.proofs.CutCovers.{CoverNothing, CoverBetween, cover_cases}
use Rattle.drawn_strips.proofs.SpanPlaces.{earlier_in, between_chain, find, weak, inner_of_between}

module _ (c : Plane) {s : Part} (e : Edge s) where
  -- the span is within the part
  pub record IsInPart (x : Span) : Type 0 where
    pub earlier : IsEarlier x.from x.to
    pub within : (n m : ℤ) → pos 0 <ℤ m → IsBetween x.from x.to n m → IsBeyond c (share_point e.a e.b n m)

  pub in_part : (spans : List Span) → CoverBeyond c e spans → (x : Span) → Contains spans x → IsInPart x
  in_part spans cover x listed = by (cover_cases c e spans cover)
    where
      by : CoverNothing c e spans ⊎ CoverBetween c e spans → IsInPart x
      by (inl h) = absurd (let empty : Contains [] x = subst (λ ys. Contains ys x) h.none listed in omega (arith, empty.1))
      by (inr h) = record {
        earlier = earlier_in h.from h.to spans h.follow x listed;
        within = λ n m positive between.
            let wide = between_chain n m positive h.from h.to spans h.follow x listed between in
            let strict = inner_of_between h.from h.to n m positive h.from_place h.to_place wide in
            (h.exactly n m strict.0 strict.1).1 wide;
      }

  -- a place beyond the plane that is at no end of a span is within one
  pub span_beyond : (n m : ℤ) → pos 0 <ℤ m → IsOrdinaryInCut c s (share_point e.a e.b n m) → (pos 0 <ℤ n) × (n <ℤ m) → IsBeyond c (share_point e.a e.b n m)
      → (spans : List Span) → CoverBeyond c e spans → ((x : Span) → Contains spans x → HasNoEndAt (IsOrdinaryInCut c s) e x.from x.to)
      → (x : Span) × Contains spans x × IsBetween x.from x.to n m
  span_beyond n m positive ordinary strict beyond spans cover apart = by (cover_cases c e spans cover)
    where
      by : CoverNothing c e spans ⊎ CoverBetween c e spans → (x : Span) × Contains spans x × IsBetween x.from x.to n m
      by (inl h) = absurd (h.before n m strict.0 strict.1 beyond)
      by (inr h) =
          let here = (h.exactly n m strict.0 strict.1).0 beyond in
          find (toward_of c) (IsOrdinaryInCut c s) (ordinary_along_cut c s) e n m positive ordinary h.from h.to spans h.follow apart here.0 (weak _ _ here.1)
