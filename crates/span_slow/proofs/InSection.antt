-- An edge of a solid, place by place: the intervals in which its points are in a section, up to the place reached.
use Rattle.std.proofs.Common.{◌≡◌, ℕ, ◌+◌, ◌<◌, ◌≤◌, List, [], All, length, get_or, sym, subst, arith}
use Rattle.std.specs.Prelude.{◌^◌, ℤ, pos, unsigned_abs, IsPermutation}
use Rattle.std.proofs.lemmas.Int.{ints}
use Rattle.std.specs.List.Sorted.{IsSorted}
use Rattle.exact_frac.specs.declared.Frac.{Frac}
use Rattle.exact_frac.specs.Frac.{order_of}
use Rattle.lattice.specs.Cuts.{Plane}
use Rattle.geometry.specs.Parts.{Edge, IsNumbered}
use Rattle.geometry.specs.Cuts.{IsInSection}
use Rattle.solid_mesh.specs.Solids.{solid_part, edge_halves}
use Rattle.solid_mesh.specs.declared.solid.Solid.{Solid}
use Rattle.solid_mesh.proofs.Facts as facts
use Rattle.cut_plane.specs.Crossings.{IsShort, AreCrossings}
use Rattle.intervals.specs.declared.interval.Interval.{Interval}
use Rattle.geometry.specs.Places.{IsPlace}
use Rattle.span_slow.specs.inner.CutHidden.{IsOrdinaryBeyond, AreWhereBeyond}
use Rattle.span_slow.specs.inner.Sections.{IsStretchAdded, AreWhereUpTo}
use Rattle.span_slow.proofs.Stretches.{up_to_start, up_to_finish, up_to_next}
use Rattle.span_slow.proofs.Crossed.{IsReached, reached_start, reached_next, neighbours, neighbours_last, not_earlier, not_after_finish, crossings_moved, start_apart, finish_apart, crossing_apart, alike_between}

pub short_end : (r : Frac) → IsPlace r → r.den ≡ pos 1 → IsShort r
short_end r place one = record { least = place.least; most = place.most; small = small r.den one }
  where
    small : (n : ℤ) → n ≡ pos 1 → unsigned_abs n ≤ 2 ^ 66
    small n e = omega (arith, ints)

place_of_short : (r : Frac) → IsShort r → IsPlace r
place_of_short r short = record { least = short.least; most = short.most; small = smaller r.den short.small }
  where
    smaller : (n : ℤ) → unsigned_abs n ≤ 2 ^ 66 → unsigned_abs n < 2 ^ 69
    smaller n h = omega arith

-- the places before number k are not after this one, and the intervals are right up to it
abbrev pub AreRightUpTo : Plane → Solid → ℕ → List Frac → ℕ → Frac → List (Interval Frac) → Type 0
AreRightUpTo c solid edge places k from xs =
    let s = solid_part solid in
    IsShort from × IsReached places k from × ((e : Edge s) → IsNumbered (edge_halves solid) edge e → AreWhereUpTo (IsOrdinaryBeyond c s) e (IsInSection c s) from xs)

module _ (c : Plane) (solid : Solid) (edge : ℕ) (there : edge < length (edge_halves solid)) (given sorted places : List Frac) (moved : IsPermutation given sorted) (order : IsSorted order_of sorted) (same : places ≡ sorted)
    (crossings : (e : Edge (solid_part solid)) → IsNumbered (edge_halves solid) edge e → AreCrossings c e given) where
  are : (e : Edge (solid_part solid)) → IsNumbered (edge_halves solid) edge e → AreCrossings c e places
  are e numbered = subst (AreCrossings c e) (sym same) (crossings_moved c e given sorted moved (crossings e numbered))

  up : IsSorted order_of places
  up = subst (IsSorted order_of) (sym same) order

  all_short : All IsShort places
  all_short k d h = let (e, numbered) = facts.edge_there solid edge there in ((are e numbered).each k d h).0

  pub short_at : (k : ℕ) (x : Frac) → k < length places → get_or places k x ≡ x → IsShort x
  short_at k x within at = subst IsShort at (all_short k x within)

  pub right_at_start : (from : Frac) → IsShort from → from.num ≡ pos 0 → AreRightUpTo c solid edge places 0 from []
  right_at_start from short zero = (
    short,
    reached_start places all_short from zero,
    λ e numbered. let s = solid_part solid in up_to_start (IsOrdinaryBeyond c s) e (IsInSection c s) from zero (start_apart c s e from zero),
  )

  module _ (k : ℕ) (from : Frac) (old : List (Interval Frac)) (right : AreRightUpTo c solid edge places k from old) where
    pub right_next : (x : Frac) → k < length places → get_or places k x ≡ x → (new : List (Interval Frac))
        → ((e : Edge (solid_part solid)) → IsNumbered (edge_halves solid) edge e → IsStretchAdded e (IsInSection c (solid_part solid)) from x old new)
        → AreRightUpTo c solid edge places (k + 1) x new
    right_next x within at new added = (
      short_at k x within at,
      reached_next places up k x within at,
      λ e numbered.
          let s = solid_part solid in
          up_to_next (IsOrdinaryBeyond c s) e (IsInSection c s) from x (not_earlier places up k x within at from right.1) (crossing_apart c s e places (are e numbered) x (k, within, at))
          (alike_between c s e places (are e numbered) from x right.0.least (short_at k x within at).most (neighbours places up k x within at from right.1) (facts.closed solid) (facts.in_range solid))
          old (right.2 e numbered) (place_of_short from right.0) (place_of_short x (short_at k x within at)) new (added e numbered),
    )

    pub right_all : length places ≤ k → (to : Frac) → IsShort to → to.num ≡ to.den → (new : List (Interval Frac)) (e : Edge (solid_part solid)) → IsNumbered (edge_halves solid) edge e
        → IsStretchAdded e (IsInSection c (solid_part solid)) from to old new → AreWhereBeyond c e (IsInSection c (solid_part solid)) new
    right_all all to short one new e numbered added =
        let s = solid_part solid in
        up_to_finish (IsOrdinaryBeyond c s) e (IsInSection c s) to one new
        (up_to_next (IsOrdinaryBeyond c s) e (IsInSection c s) from to (not_after_finish from to right.0.most one) (finish_apart c s e to one)
        (alike_between c s e places (are e numbered) from to right.0.least short.most (neighbours_last places k from to all right.1) (facts.closed solid) (facts.in_range solid))
        old (right.2 e numbered) (place_of_short from right.0) (place_of_short to short) new added)
