-- Flips come to an end: for all triangles there are some that flips leave.
use Rattle.std.proofs.Common.{◌⊎◌, inl, inr, ℕ, zero, suc, ◌+◌, ◌<◌, ◌≤◌, List, length, map, get_or, refl, subst, arith}
use Rattle.std.specs.List.{All}
use Rattle.std.proofs.lemmas.Bool.{cases_lt}
use Rattle.std.proofs.lemmas.List.Elements.{All-map}
use Rattle.lattice.specs.declared.points.Corner.{Corner}
use Rattle.lattice.specs.declared.soup.Tri.{Tri}
use Rattle.lattice.specs.Triangles.{IsBelow}
use Rattle.answers_exist.proofs.Decided.{Decided}
use Rattle.flip_slivers.specs.declared.bounded.Bounded.{Bounded}
use Rattle.flip_slivers.specs.Flips.{tri, IsFlip, AreFlips, none as no_flips, more as one_more, unmoved, IsGreatestBound}
use Rattle.flip_slivers.specs.inner.Lists.{triangles_of}
use Rattle.flip_slivers.proofs.FlipsNear.{flips_in_range}
use Rattle.flip_slivers.proofs.Potential.{flip_falls, potential}
use Rattle.flip_slivers.proofs.SettlingLemmas.{Settled, settled_by, IsGreatestOfFirst, greatest_of_all, more_greatest}
use Rattle.mend_core.proofs.DecidedFlips.{decided_flip}

-- ---- until none is left
module _ (corners : List Corner) (most : ℕ) (first : List Bounded) (in_range : All (λ (x : Bounded). IsBelow (length corners) x.tri) first) where
  record FlipsEnd : Type 0 where
    pub last : List Bounded
    pub count : ℕ
    pub by_flips : AreFlips corners most count first last
    pub left : (new : List Bounded) → ¬ IsFlip corners most last new

  -- so many more flips at most: their sum falls at each
  abbrev FlipsEndWithin : ℕ → Type 0
  FlipsEndWithin room = (count : ℕ) (s : List Bounded) → AreFlips corners most count first s → potential corners most s < room → FlipsEnd

  after_one : (room : ℕ) → FlipsEndWithin room → FlipsEndWithin (suc room)
  after_one room ends count s flips fits = by (decided_flip corners most s (flips_in_range corners most count first s flips in_range))
    where
      by : Decided ((new : List Bounded) × IsFlip corners most s new) → FlipsEnd
      by (inl (new, x)) = let falls = flip_falls corners most s new x in ends (suc count) new (one_more count first s new flips x) (omega (arith, falls, fits))
      by (inr fails) = record { last = s; count = count; by_flips = flips; left = λ new x. fails (new, x) }

  ends_within : (room : ℕ) → FlipsEndWithin room
  ends_within zero count s flips fits = absurd (omega (arith, fits))
  ends_within (suc room) count s flips fits = after_one room (ends_within room) count s flips fits

  flips_end : FlipsEnd
  flips_end = ends_within (suc (potential corners most first)) 0 first (no_flips first) (omega arith)

-- ---- the greatest bound
some_bound : (surface : List Bounded) → (moved : ℕ) × IsGreatestBound surface moved
some_bound surface = let (moved, first) = of_first (length surface) (omega arith) in (moved, greatest_of_all surface (length surface) moved (omega arith) first)
  where
    nothing : Bounded
    nothing = record { tri = tri 0 0 0; bound = 0 }

    one_later : (n m : ℕ) → n < length surface → IsGreatestOfFirst surface n m → (m < (get_or surface n nothing).bound) ⊎ ((get_or surface n nothing).bound ≤ m) → (moved : ℕ) × IsGreatestOfFirst surface (n + 1) moved
    one_later n m within first (inl greater) = ((get_or surface n nothing).bound, more_greatest surface n m (get_or surface n nothing).bound nothing within first (inl (greater, refl)))
    one_later n m within first (inr most) = (m, more_greatest surface n m m nothing within first (inr (most, refl)))

    as_next : (n : ℕ) → (moved : ℕ) × IsGreatestOfFirst surface (n + 1) moved → (moved : ℕ) × IsGreatestOfFirst surface (suc n) moved
    as_next n = subst (λ (k : ℕ). (moved : ℕ) × IsGreatestOfFirst surface k moved) (omega arith)

    of_first : (n : ℕ) → n ≤ length surface → (moved : ℕ) × IsGreatestOfFirst surface n moved
    of_first zero within = (0, record { none_greater = λ k d below. absurd (omega (arith, below)); carried = inl refl })
    of_first (suc n) within = let (m, first) = of_first n (omega (arith, within)) in as_next n (one_later n m (omega (arith, within)) first (cases_lt m (get_or surface n nothing).bound))

-- ---- all together
-- flips leave some triangles, of which no two may be flipped
pub some_flips : (corners : List Corner) (most : ℕ) (given : List Tri) → All (IsBelow (length corners)) given → (left : List Tri) × (flips : ℕ) × (moved : ℕ) × Settled corners most given left flips moved
some_flips corners most given in_range = by (flips_end corners most (map unmoved given) (All-map (λ (x : Bounded). IsBelow (length corners) x.tri) unmoved given in_range))
  where
    by : FlipsEnd corners most (map unmoved given) (All-map (λ (x : Bounded). IsBelow (length corners) x.tri) unmoved given in_range) → (left : List Tri) × (flips : ℕ) × (moved : ℕ) × Settled corners most given left flips moved
    by e = let (moved, greatest) = some_bound e.last in (triangles_of e.last, e.count, moved, settled_by corners most given (triangles_of e.last) (map unmoved given) e.last e.count moved in_range refl e.by_flips refl greatest e.left)
