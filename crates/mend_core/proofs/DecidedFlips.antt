-- Whether there is a flip is decided.
use Rattle.std.proofs.Common.{◌≡◌, ◌≢◌, ◌⊎◌, inl, inr, ℕ, ◌+◌, ◌<◌, ◌≤◌, max, List, length, Some, slice_get, refl, sym, ◌∙◌, subst, arith}
use Rattle.std.specs.Prelude.{ℤ, pos, ◌-ℤ◌, ◌*ℤ◌, ◌<ℤ◌, ◌≤ℤ◌}
use Rattle.std.specs.List.{All}
use Rattle.std.proofs.lemmas.Bool.{cases_lt}
use Rattle.std.proofs.lemmas.Int.{ints}
use Rattle.std.proofs.lemmas.Option.{none-some, same_Some, slice_get_within}
use Rattle.integers.proofs.Lists.{some_element}
use Rattle.lattice.specs.declared.points.Corner.{Corner}
use Rattle.lattice.specs.declared.soup.Tri.{Tri}
use Rattle.lattice.specs.Triangles.{IsBelow}
use Rattle.answers_exist.proofs.Decided.{Decided, decided_as, decided_not, decided_both, decided_three, decided_either, decided_some, decided_any, decided_equal, decided_same, decided_at_most, decided_less, by_option, IsFirstBelow, first_below, Sign, sign_of}
use Rattle.flip_slivers.specs.declared.bounded.Bounded.{Bounded}
use Rattle.flip_slivers.specs.Heights.{HasHeight, IsLower, IsRoundedUp, Placed, area_square, side_square}
use Rattle.flip_slivers.specs.Flips.{tri, IsRound, HasSide, IsSideOf, IsRise, first_of, second_of, IsFlip}
use Rattle.flip_slivers.proofs.ChoiceLemmas.{below_at, round_below, same_side}
use Rattle.flip_slivers.proofs.OneHeight.{lower_by, one_height, rounded_once}
use Rattle.mend_core.proofs.SomePairs.{decided_tri}

-- ---- numbers
less_of_fall : (a b : ℤ) → (b -ℤ a) <ℤ pos 0 → b <ℤ a
less_of_fall a b h = omega (arith, ints)

at_most_of_rise : (a b : ℤ) → ((b -ℤ a) ≡ pos 0) ⊎ (pos 0 <ℤ (b -ℤ a)) → a ≤ℤ b
at_most_of_rise a b (inl e) = omega (arith, ints)
at_most_of_rise a b (inr h) = omega (arith, ints)

not_at_most : (a b : ℤ) → ¬ (a ≤ℤ b) → b <ℤ a
not_at_most a b fails = by (sign_of (b -ℤ a))
  where
    by : Sign (b -ℤ a) → b <ℤ a
    by (inl less) = less_of_fall a b less
    by (inr other) = absurd (fails (at_most_of_rise a b other))

decided_within : (m n : ℕ) → Decided (m ≤ n)
decided_within m n = by (cases_lt n m)
  where
    by : (n < m) ⊎ (m ≤ n) → Decided (m ≤ n)
    by (inl more) = inr (λ h. absurd (omega (arith, more, h)))
    by (inr most) = inl most

-- ---- heights
-- the greatest of three
greatest_of_three : (x y z : ℤ) → (l : ℤ) × (((l ≡ x) ⊎ (l ≡ y) ⊎ (l ≡ z)) × ((x ≤ℤ l) × (y ≤ℤ l) × (z ≤ℤ l)))
greatest_of_three x y z = by (decided_at_most x y) (decided_at_most x z) (decided_at_most y z)
  where
    first : (x y z : ℤ) → y <ℤ x → z <ℤ x → (x ≤ℤ x) × (y ≤ℤ x) × (z ≤ℤ x)
    first x y z h k = (omega (arith, ints), omega (arith, ints), omega (arith, ints))

    second : (x y z : ℤ) → x ≤ℤ y → z <ℤ y → (x ≤ℤ y) × (y ≤ℤ y) × (z ≤ℤ y)
    second x y z h k = (omega (arith, ints), omega (arith, ints), omega (arith, ints))

    third : (x y z : ℤ) → x ≤ℤ y → y ≤ℤ z → (x ≤ℤ z) × (y ≤ℤ z) × (z ≤ℤ z)
    third x y z h k = (omega (arith, ints), omega (arith, ints), omega (arith, ints))

    third_past_first : (x y z : ℤ) → y <ℤ x → x ≤ℤ z → (x ≤ℤ z) × (y ≤ℤ z) × (z ≤ℤ z)
    third_past_first x y z h k = (omega (arith, ints), omega (arith, ints), omega (arith, ints))

    by : Decided (x ≤ℤ y) → Decided (x ≤ℤ z) → Decided (y ≤ℤ z) → (l : ℤ) × (((l ≡ x) ⊎ (l ≡ y) ⊎ (l ≡ z)) × ((x ≤ℤ l) × (y ≤ℤ l) × (z ≤ℤ l)))
    by (inl xy) xz (inl yz) = (z, (inr (inr refl), third x y z xy yz))
    by (inl xy) xz (inr yz) = (y, (inr (inl refl), second x y z xy (not_at_most y z yz)))
    by (inr xy) (inl xz) yz = (z, (inr (inr refl), third_past_first x y z (not_at_most x y xy) xz))
    by (inr xy) (inr xz) yz = (x, (inl refl, first x y z (not_at_most x y xy) (not_at_most x z xz)))

-- a low height, rounded up
some_rounded : (area side : ℤ) → area ≤ℤ (pos 4 *ℤ side) → (n : ℕ) × IsRoundedUp n area side
some_rounded area side low = by (first_below IsEnough (λ n. decided_at_most (area *ℤ pos 1048576) ((pos n *ℤ pos n) *ℤ side)) 2049)
  where
    IsEnough : ℕ → Type 0
    IsEnough n = (area *ℤ pos 1048576) ≤ℤ ((pos n *ℤ pos n) *ℤ side)

    at_most : (a s : ℤ) → a ≤ℤ (pos 4 *ℤ s) → (a *ℤ pos 1048576) ≤ℤ ((pos 2048 *ℤ pos 2048) *ℤ s)
    at_most a s h = omega (arith, ints)

    by : ((n : ℕ) × IsFirstBelow IsEnough 2049 n) ⊎ ((n : ℕ) → n < 2049 → ¬ IsEnough n) → (n : ℕ) × IsRoundedUp n area side
    by (inl (n, first)) = (n, record { enough = first.holds; least = λ m below. not_at_most (area *ℤ pos 1048576) ((pos m *ℤ pos m) *ℤ side) (first.none_before m below) })
    by (inr none) = absurd (none 2048 (omega arith) (at_most area side low))

-- ---- sides
decided_has : (t : Tri) (m n : ℕ) → Decided (HasSide t m n)
decided_has t m n =
    decided_either (decided_both (decided_equal t.a m) (decided_equal t.b n))
    (decided_either (decided_both (decided_equal t.b m) (decided_equal t.c n)) (decided_both (decided_equal t.c m) (decided_equal t.a n)))

decided_side : (surface : List Bounded) (m n : ℕ) → Decided (IsSideOf surface m n)
decided_side surface m n =
    decided_as ((λ (k, x, below, at, has). (x, (k, below, at), has)), (λ (x, (k, below, at), has). (k, x, below, at, has))) (decided_any (λ (x : Bounded). HasSide x.tri m n) (λ x. decided_has x.tri m n) surface)

-- ---- turned triangles
module _ (t : Tri) (P : Tri → Type 0) where
  one_of : P (tri t.a t.b t.c) ⊎ (P (tri t.b t.c t.a) ⊎ P (tri t.c t.a t.b)) → (u : Tri) × (IsRound t u × P u)
  one_of (inl p) = (tri t.a t.b t.c, (inl refl, p))
  one_of (inr (inl p)) = (tri t.b t.c t.a, (inr (inl refl), p))
  one_of (inr (inr p)) = (tri t.c t.a t.b, (inr (inr refl), p))

  of_one : (u : Tri) × (IsRound t u × P u) → P (tri t.a t.b t.c) ⊎ (P (tri t.b t.c t.a) ⊎ P (tri t.c t.a t.b))
  of_one (u, (inl e, p)) = inl (subst P e p)
  of_one (u, (inr (inl e), p)) = inr (inl (subst P e p))
  of_one (u, (inr (inr e), p)) = inr (inr (subst P e p))

  -- what is decided of a triangle from each corner on is decided of one of them
  decided_turned : ((u : Tri) → IsRound t u → Decided (P u)) → Decided ((u : Tri) × (IsRound t u × P u))
  decided_turned each =
      decided_as (one_of, of_one) (decided_either (each (tri t.a t.b t.c) (inl refl)) (decided_either (each (tri t.b t.c t.a) (inr (inl refl))) (each (tri t.c t.a t.b) (inr (inr refl)))))

module _ (corners : List Corner) (most : ℕ) where
  abbrev InRange : Tri → Type 0
  InRange t = IsBelow (length corners) t

  some_height : (t : Tri) → InRange t → (area : ℤ) × (side : ℤ) × HasHeight corners t area side
  some_height t below =
      let a = some_element corners t.a below.a in
      let b = some_element corners t.b below.b in
      let c = some_element corners t.c below.c in
      by (record { a = a.0; b = b.0; c = c.0; at_a = a.1; at_b = b.1; at_c = c.1 })
    where
      by : Placed corners t → (area : ℤ) × (side : ℤ) × HasHeight corners t area side
      by p =
          let (l, (one, bounds)) = greatest_of_three (side_square p.a p.b) (side_square p.b p.c) (side_square p.c p.a) in
          (area_square p.a p.b p.c, l, record { placed = p; is_area = refl; is_side = record { one = one; first = bounds.0; second = bounds.1; third = bounds.2 } })

  -- ---- what a flip asks of heights
  decided_lower : (t u : Tri) → InRange t → InRange u → Decided (IsLower corners t u)
  decided_lower t u below_t below_u = by (some_height t below_t) (some_height u below_u)
    where
      by : (area : ℤ) × (side : ℤ) × HasHeight corners t area side → (area : ℤ) × (side : ℤ) × HasHeight corners u area side → Decided (IsLower corners t u)
      by (area, side, h) (other_area, other_side, k) =
          decided_as ((λ less. record { area = area; side = side; other_area = other_area; other_side = other_side; height = h; other_height = k; less = less }), lower_by corners t u area side other_area other_side h k)
          (decided_less (area *ℤ other_side) (other_area *ℤ side))

  decided_rise : (s t u v : Tri) → InRange s → InRange t → InRange u → InRange v → Decided (IsRise corners s t u v)
  decided_rise s t u v at_s at_t at_u at_v =
      decided_either (decided_both (decided_lower s u at_s at_u) (decided_lower s v at_s at_v)) (decided_both (decided_lower t u at_t at_u) (decided_lower t v at_t at_v))

  -- the triangle is a sliver on its first side, and its height on top of a bound is within the limit
  record IsSliverWithin (t : Tri) (bound : ℕ) : Type 0 where
    pub area : ℤ
    pub side : ℤ
    pub height : HasHeight corners t area side
    pub on_longest : side ≡ side_square height.placed.a height.placed.b
    pub long : pos 0 <ℤ side
    pub low : area ≤ℤ (pos 4 *ℤ side)
    pub rise : ℕ
    pub is_rise : IsRoundedUp rise area side
    pub within : bound + rise ≤ most

  module _ (t : Tri) (bound : ℕ) (area side : ℤ) (h : HasHeight corners t area side) where
    abbrev IsSliverOn : Type 0
    IsSliverOn = (side ≡ side_square h.placed.a h.placed.b) × (pos 0 <ℤ side) × (area ≤ℤ (pos 4 *ℤ side))

    on_first : IsSliverWithin t bound → IsSliverOn
    on_first s =
        let same = one_height corners t s.area s.side area side s.height h in (
          sym same.1 ∙ s.on_longest ∙ same_side corners t h.placed s.height.placed.a s.height.placed.b s.height.placed.at_a s.height.placed.at_b,
          subst (λ (z : ℤ). pos 0 <ℤ z) same.1 s.long,
          subst (λ (z : ℤ). z ≤ℤ (pos 4 *ℤ side)) same.0 (subst (λ (z : ℤ). s.area ≤ℤ (pos 4 *ℤ z)) same.1 s.low),
        )

    with_rise : IsSliverOn → (rise : ℕ) → IsRoundedUp rise area side → Decided (bound + rise ≤ most) → Decided (IsSliverWithin t bound)
    with_rise on rise is_rise (inl within) =
        inl (record { area = area; side = side; height = h; on_longest = on.0; long = on.1; low = on.2; rise = rise; is_rise = is_rise; within = within })
    with_rise on rise is_rise (inr beyond) = inr (λ s.
        let same = one_height corners t s.area s.side area side s.height h in
        let again : IsRoundedUp s.rise area side = subst (λ (z : ℤ). IsRoundedUp s.rise z side) same.0 (subst (λ (z : ℤ). IsRoundedUp s.rise s.area z) same.1 s.is_rise) in
        beyond (subst (λ (n : ℕ). bound + n ≤ most) (rounded_once s.rise rise area side again is_rise) s.within))

    with_height : Decided IsSliverOn → Decided (IsSliverWithin t bound)
    with_height (inl on) = let (rise, is_rise) = some_rounded area side on.2 in with_rise on rise is_rise (decided_within (bound + rise) most)
    with_height (inr off) = inr (λ s. off (on_first s))

  decided_sliver : (t : Tri) (bound : ℕ) → InRange t → Decided (IsSliverWithin t bound)
  decided_sliver t bound below = by (some_height t below)
    where
      by : (area : ℤ) × (side : ℤ) × HasHeight corners t area side → Decided (IsSliverWithin t bound)
      by (area, side, h) =
          with_height t bound area side h (decided_three (decided_same side (side_square h.placed.a h.placed.b)) (decided_less (pos 0) side) (decided_at_most area (pos 4 *ℤ side)))

  -- ---- flips
  module _ (surface : List Bounded) where
    -- a flip of two triangles, turned to the side that they share
    record MayFlip (x y : Bounded) (t u : Tri) : Type 0 where
      pub beside : u ≡ tri t.b t.a u.c
      pub sliver : IsSliverWithin t (max x.bound y.bound)
      pub no_side : ¬ IsSideOf surface t.c u.c
      pub no_side_back : ¬ IsSideOf surface u.c t.c
      pub rises : IsRise corners x.tri y.tri (first_of t.a t.b t.c u.c) (second_of t.a t.b t.c u.c)

    decided_may : (x y : Bounded) (t u : Tri) → InRange x.tri → InRange y.tri → InRange t → InRange u → Decided (MayFlip x y t u)
    decided_may x y t u at_x at_y at_t at_u =
        decided_as (
          (λ (beside, sliver, (no_side, no_side_back, rises)). record { beside = beside; sliver = sliver; no_side = no_side; no_side_back = no_side_back; rises = rises }),
          (λ m. (m.beside, m.sliver, (m.no_side, m.no_side_back, m.rises))),
        )
        (decided_three (decided_tri u (tri t.b t.a u.c)) (decided_sliver t (max x.bound y.bound) at_t)
        (decided_three (decided_not (decided_side surface t.c u.c)) (decided_not (decided_side surface u.c t.c))
        (decided_rise x.tri y.tri (first_of t.a t.b t.c u.c) (second_of t.a t.b t.c u.c) at_x at_y (record { a = at_t.a; b = at_u.c; c = at_t.c }) (record { a = at_u.c; b = at_t.b; c = at_t.c }))))

    -- a flip of the two, each from one of its corners on
    abbrev AreFlipped : Bounded → Bounded → Type 0
    AreFlipped x y = (t : Tri) × (IsRound x.tri t × ((u : Tri) × (IsRound y.tri u × MayFlip x y t u)))

    -- a flip of the triangles at two places
    record HasFlipAt (i j : ℕ) : Type 0 where
      pub different : i ≢ j
      pub sliver : Bounded
      pub neighbour : Bounded
      pub at_sliver : slice_get surface i ≡ Some sliver
      pub at_neighbour : slice_get surface j ≡ Some neighbour
      pub turned : AreFlipped sliver neighbour

    module _ (in_range : All (λ (x : Bounded). InRange x.tri) surface) where
      decided_two : (x y : Bounded) → InRange x.tri → InRange y.tri → Decided (AreFlipped x y)
      decided_two x y at_x at_y =
          decided_turned x.tri (λ t. (u : Tri) × (IsRound y.tri u × MayFlip x y t u))
          (λ t round. decided_turned y.tri (MayFlip x y t) (λ u also. decided_may x y t u at_x at_y (round_below (length corners) x.tri t round at_x) (round_below (length corners) y.tri u also at_y)))

      same_two : (i j : ℕ) (x y : Bounded) → slice_get surface i ≡ Some x → slice_get surface j ≡ Some y → HasFlipAt i j → AreFlipped x y
      same_two i j x y at_x at_y f =
          subst (λ (z : Bounded). AreFlipped z y) (same_Some f.sliver x (sym f.at_sliver ∙ at_x)) (subst (AreFlipped f.sliver) (same_Some f.neighbour y (sym f.at_neighbour ∙ at_y)) f.turned)

      decided_apart : (i j : ℕ) → i ≢ j → Decided (HasFlipAt i j)
      decided_apart i j differ =
          by_option (slice_get surface i) (λ none. inr (λ f. none-some f.sliver (sym none ∙ f.at_sliver)))
          (λ x at_x. by_option (slice_get surface j) (λ none. inr (λ f. none-some f.neighbour (sym none ∙ f.at_neighbour)))
          (λ y at_y. decided_as ((λ turned. record { different = differ; sliver = x; neighbour = y; at_sliver = at_x; at_neighbour = at_y; turned = turned }), same_two i j x y at_x at_y)
          (decided_two x y (below_at (length corners) surface i x in_range at_x) (below_at (length corners) surface j y in_range at_y))))

      decided_at : (i j : ℕ) → Decided (HasFlipAt i j)
      decided_at i j = by (decided_equal i j)
        where
          by : Decided (i ≡ j) → Decided (HasFlipAt i j)
          by (inl same) = inr (λ f. f.different same)
          by (inr differ) = decided_apart i j differ

      decided_some_place : Decided ((i : ℕ) × ((j : ℕ) × HasFlipAt i j))
      decided_some_place =
          decided_some (λ i. (j : ℕ) × HasFlipAt i j) (λ i. decided_some (HasFlipAt i) (decided_at i) (length surface) (λ j f. slice_get_within surface j f.neighbour f.at_neighbour)) (length surface)
          (λ i (j, f). slice_get_within surface i f.sliver f.at_sliver)

    flip_at : (i : ℕ) × ((j : ℕ) × HasFlipAt i j) → (new : List Bounded) × IsFlip corners most surface new
    flip_at (i, (j, f)) = by f.turned
      where
        by : AreFlipped f.sliver f.neighbour → (new : List Bounded) × IsFlip corners most surface new
        by (t, (round, (u, (also, m)))) = (
          _,
          record {
            i = i;
            j = j;
            different = f.different;
            sliver = f.sliver;
            neighbour = f.neighbour;
            at_sliver = f.at_sliver;
            at_neighbour = f.at_neighbour;
            a = t.a;
            b = t.b;
            c = t.c;
            d = u.c;
            area = m.sliver.area;
            side = m.sliver.side;
            is_sliver = record {
              turned = round;
              beside = subst (IsRound f.neighbour.tri) m.beside also;
              height = m.sliver.height;
              on_longest = m.sliver.on_longest;
              long = m.sliver.long;
              low = m.sliver.low;
            };
            no_side = m.no_side;
            no_side_back = m.no_side_back;
            rises = m.rises;
            rise = m.sliver.rise;
            is_rise = m.sliver.is_rise;
            bound = max f.sliver.bound f.neighbour.bound + m.sliver.rise;
            is_bound = refl;
            within = m.sliver.within;
            changed = refl;
          },
        )

    place_of : (new : List Bounded) × IsFlip corners most surface new → (i : ℕ) × ((j : ℕ) × HasFlipAt i j)
    place_of (new, x) =
        let sliver : IsSliverWithin (tri x.a x.b x.c) (max x.sliver.bound x.neighbour.bound) = record {
          area = x.area;
          side = x.side;
          height = x.is_sliver.height;
          on_longest = x.is_sliver.on_longest;
          long = x.is_sliver.long;
          low = x.is_sliver.low;
          rise = x.rise;
          is_rise = x.is_rise;
          within = subst (λ (n : ℕ). n ≤ most) x.is_bound x.within;
        } in
        let may : MayFlip x.sliver x.neighbour (tri x.a x.b x.c) (tri x.b x.a x.d) = record { beside = refl; sliver = sliver; no_side = x.no_side; no_side_back = x.no_side_back; rises = x.rises } in
        let turned : AreFlipped x.sliver x.neighbour = (tri x.a x.b x.c, (x.is_sliver.turned, (tri x.b x.a x.d, (x.is_sliver.beside, may)))) in
        (x.i, (x.j, record { different = x.different; sliver = x.sliver; neighbour = x.neighbour; at_sliver = x.at_sliver; at_neighbour = x.at_neighbour; turned = turned }))

    -- whether there is a flip is decided
    pub decided_flip : All (λ (x : Bounded). InRange x.tri) surface → Decided ((new : List Bounded) × IsFlip corners most surface new)
    decided_flip in_range = decided_as (flip_at, place_of) (decided_some_place in_range)
