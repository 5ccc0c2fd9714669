-- What spans cover in a cut view, in the words of spans alone: nothing, or what is between two places.
use Rattle.std.proofs.Common.{◌≡◌, ◌⊎◌, inl, inr, ◌↔◌, zero, suc, ℕ, ◌<◌, List, [], ◌∷◌, get_or, refl, sym, subst, arith}
use Rattle.std.specs.Prelude.{ℤ, pos, ◌<ℤ◌}
use Rattle.std.proofs.lemmas.List.Elements.{All-head}
use Rattle.exact_frac.specs.declared.Frac.{Frac}
use Rattle.lattice.specs.Cuts.{Plane, IsBeyond}
use Rattle.geometry.specs.Faces.{share_point}
use Rattle.geometry.specs.Parts.{Part, Edge}
use Rattle.intervals.specs.declared.interval.Interval.{Interval}
use Rattle.lattice.specs.declared.spans.Span.{Span}
use Rattle.geometry.specs.Places.{IsPlace, IsBetween}
use Rattle.geometry.specs.Spans.{Follow}
use Rattle.cut_plane.specs.Beyond.{IsStretch, IsPartBeyond, CoverPart, CoverBeyond}

module _ (c : Plane) {s : Part} (e : Edge s) (spans : List Span) where
  -- no inner point of the edge is beyond the plane, and there is no span
  pub record CoverNothing : Type 0 where
    pub none : spans ≡ []
    pub before : (n m : ℤ) → pos 0 <ℤ n → n <ℤ m → ¬ IsBeyond c (share_point e.a e.b n m)

  -- the inner points beyond the plane are those between two places, and the spans lead from the one to the other
  pub record CoverBetween : Type 0 where
    pub from : Frac
    pub to : Frac
    pub from_place : IsPlace from
    pub to_place : IsPlace to
    pub follow : Follow from spans to
    pub exactly : (n m : ℤ) → pos 0 <ℤ n → n <ℤ m → IsBeyond c (share_point e.a e.b n m) ↔ IsBetween from to n m

  pub cover_cases : CoverBeyond c e spans → CoverNothing ⊎ CoverBetween
  cover_cases (xs, part, cover) = by xs part cover
    where
      alone : (k : ℕ) (v x : Interval Frac) → k < 1 → get_or (v ∷ []) k x ≡ x → v ≡ x
      alone zero v x below is = is
      alone (suc k) v x below is = absurd (omega arith)

      by : (xs : List (Interval Frac)) → IsPartBeyond c e xs → CoverPart xs spans → CoverNothing ⊎ CoverBetween
      by [] part none = inl (record { none = none; before = λ n m up down beyond. let (x, (k, below, is), between) = (part.exactly n m up down).0 beyond in omega (arith, below) })
      by (v ∷ []) part follow = inr (record {
        from = v.from;
        to = v.to;
        from_place = (All-head IsStretch v [] part.stretches).from_place;
        to_place = (All-head IsStretch v [] part.stretches).to_place;
        follow = follow;
        exactly = λ n m up down. (
          λ beyond. let (x, (k, below, is), between) = (part.exactly n m up down).0 beyond in subst (λ (y : Interval Frac). IsBetween y.from y.to n m) (sym (alone k v x below is)) between,
          λ between. (part.exactly n m up down).1 (v, (0, omega arith, refl), between),
        );
      })
      by (v ∷ w ∷ xs) part none = absurd none
