-- What falls at each flip: what the triangles have left of the limit, and one for each that is flat.
use Rattle.std.proofs.Common.{◌≡◌, ℕ, zero, suc, ◌+◌, ◌-◌, ◌<◌, ◌≤◌, max, List, length, get_or, set, Option, Some, None, sum_by, refl, sym, ap, ◌∙◌, subst, arith, ⊎_elim, le_trans}
use Rattle.std.specs.Prelude.{ℤ, pos, negsuc, ◌*ℤ◌, ◌<ℤ◌, ◌≤ℤ◌, slice_get}
use Rattle.std.proofs.lemmas.Int.{ints}
use Rattle.std.proofs.lemmas.List.{get_or-set_other}
use Rattle.std.proofs.lemmas.List.Sums.{sum_by-set, sum_by-le}
use Rattle.std.proofs.lemmas.Nat.{mul-le}
use Rattle.std.proofs.lemmas.Option.{get_or_from_slice_get, slice_get_within}
use Rattle.std.proofs.lemmas.List.{length-set}
use Rattle.integers.proofs.Signs.{mul_nonneg}
use Rattle.lattice.specs.declared.points.Corner.{Corner}
use Rattle.lattice.specs.declared.soup.Tri.{Tri}
use Rattle.flip_slivers.specs.declared.bounded.Bounded.{Bounded}
use Rattle.flip_slivers.specs.Heights.{HasHeight, IsLower, area_square}
use Rattle.flip_slivers.specs.Flips.{tri, IsRound, IsFlip, AreFlips, none, more, first_of, second_of}
use Rattle.flip_slivers.proofs.OneHeight.{turned_normal, area_not_negative, side_not_negative}

-- ---- flat triangles
abbrev counted : ℤ → ℕ
counted (pos zero) = 1
counted (pos (suc n)) = 0
counted (negsuc n) = 0

abbrev flat_at : Option Corner → Option Corner → Option Corner → ℕ
flat_at (Some a) (Some b) (Some c) = counted (area_square a b c)
flat_at (Some a) (Some b) None = 0
flat_at (Some a) None c = 0
flat_at None b c = 0

abbrev flat_of : List Corner → Tri → ℕ
flat_of corners t = flat_at (slice_get corners t.a) (slice_get corners t.b) (slice_get corners t.c)

flat_from : (corners : List Corner) (t : Tri) (area side : ℤ) → HasHeight corners t area side → flat_of corners t ≡ counted area
flat_from corners t area side h =
    ap (λ (o : Option Corner). flat_at o (slice_get corners t.b) (slice_get corners t.c)) h.placed.at_a
    ∙ ap (λ (o : Option Corner). flat_at (Some h.placed.a) o (slice_get corners t.c)) h.placed.at_b
    ∙ ap (flat_at (Some h.placed.a) (Some h.placed.b)) h.placed.at_c ∙ ap counted (sym h.is_area)

counted_positive : (z : ℤ) → pos 0 <ℤ z → counted z ≡ 0
counted_positive (pos zero) h = absurd (omega (arith, ints))
counted_positive (pos (suc n)) h = refl
counted_positive (negsuc n) h = refl

counted_most : (z : ℤ) → counted z ≤ 1
counted_most (pos zero) = omega arith
counted_most (pos (suc n)) = omega arith
counted_most (negsuc n) = omega arith

flat_most : (o p q : Option Corner) → flat_at o p q ≤ 1
flat_most (Some a) (Some b) (Some c) = counted_most (area_square a b c)
flat_most (Some a) (Some b) None = omega arith
flat_most (Some a) None q = omega arith
flat_most None p q = omega arith

turned : (o p q : Option Corner) → flat_at p q o ≡ flat_at o p q
turned (Some a) (Some b) (Some c) = ap counted (turned_normal a b c)
turned (Some a) (Some b) None = refl
turned (Some a) None q = refl
turned None (Some b) (Some c) = refl
turned None (Some b) None = refl
turned None None q = refl

flat_round : (corners : List Corner) (t u : Tri) → IsRound t u → flat_of corners u ≡ flat_of corners t
flat_round corners t u = ⊎_elim (λ e. ap (flat_of corners) e) (⊎_elim
    (λ e. ap (flat_of corners) e ∙ turned (slice_get corners t.a) (slice_get corners t.b) (slice_get corners t.c))
    (λ e. ap (flat_of corners) e ∙ turned (slice_get corners t.b) (slice_get corners t.c) (slice_get corners t.a) ∙ turned (slice_get corners t.a) (slice_get corners t.b) (slice_get corners t.c)))

not_flat : (corners : List Corner) (t u : Tri) → IsLower corners t u → flat_of corners u ≡ 0
not_flat corners t u x =
    flat_from corners u x.other_area x.other_side x.other_height
    ∙ counted_positive x.other_area (positive x.area x.other_side x.other_area x.side (area_not_negative corners t x.area x.side x.height) (side_not_negative corners u x.other_area x.other_side x.other_height)
    (area_not_negative corners u x.other_area x.other_side x.other_height) x.less)
  where
    positive : (a b c d : ℤ) → pos 0 ≤ℤ a → pos 0 ≤ℤ b → pos 0 ≤ℤ c → (a *ℤ b) <ℤ (c *ℤ d) → pos 0 <ℤ c
    positive a b (pos zero) d ha hb hc h = absurd (nothing (a *ℤ b) d (mul_nonneg a b ha hb) h)
      where
        nothing : (x d : ℤ) → pos 0 ≤ℤ x → x <ℤ (pos 0 *ℤ d) → ⊥
        nothing x d h k = omega (arith, ints)
    positive a b (pos (suc n)) d ha hb hc h = omega (arith, ints)
    positive a b (negsuc n) d ha hb hc h = absurd (omega (arith, ints))

-- ---- the sum
abbrev weight : List Corner → ℕ → Bounded → ℕ
weight corners most x = (most - x.bound) + flat_of corners x.tri

abbrev pub potential : List Corner → ℕ → List Bounded → ℕ
potential corners most surface = sum_by (weight corners most) surface

-- a sliver that rises nothing is flat
flat_sliver : (corners : List Corner) (most : ℕ) (old new : List Bounded) (x : IsFlip corners most old new) → x.rise ≡ 0 → flat_of corners x.sliver.tri ≡ 1
flat_sliver corners most old new x no_rise =
    let P : ℕ → Type 0 = λ n. (x.area *ℤ pos 1048576) ≤ℤ ((pos n *ℤ pos n) *ℤ x.side) in
    let gone : x.area ≡ pos 0 = zero_area x.area x.side (area_not_negative corners (tri x.a x.b x.c) x.area x.side x.is_sliver.height) (subst P no_rise x.is_rise.enough) in
    sym (flat_round corners x.sliver.tri (tri x.a x.b x.c) x.is_sliver.turned) ∙ flat_from corners (tri x.a x.b x.c) x.area x.side x.is_sliver.height ∙ ap counted gone
  where
    zero_area : (a s : ℤ) → pos 0 ≤ℤ a → (a *ℤ pos 1048576) ≤ℤ ((pos 0 *ℤ pos 0) *ℤ s) → a ≡ pos 0
    zero_area a s h k = omega (arith, ints)

first_not_flat : (corners : List Corner) (most : ℕ) (old new : List Bounded) (x : IsFlip corners most old new) → flat_of corners (first_of x.a x.b x.c x.d) ≡ 0
first_not_flat corners most old new x = ⊎_elim (λ h. not_flat corners x.sliver.tri (first_of x.a x.b x.c x.d) h.0) (λ h. not_flat corners x.neighbour.tri (first_of x.a x.b x.c x.d) h.0) x.rises

second_not_flat : (corners : List Corner) (most : ℕ) (old new : List Bounded) (x : IsFlip corners most old new) → flat_of corners (second_of x.a x.b x.c x.d) ≡ 0
second_not_flat corners most old new x = ⊎_elim (λ h. not_flat corners x.sliver.tri (second_of x.a x.b x.c x.d) h.1) (λ h. not_flat corners x.neighbour.tri (second_of x.a x.b x.c x.d) h.1) x.rises

-- the two together
pair_falls : (most b k bound rise f g u v : ℕ) → bound ≡ max b k + rise → bound ≤ most → (rise ≡ 0 → f ≡ 1) → u ≡ 0 → v ≡ 0 → ((most - bound) + u) + ((most - bound) + v) < ((most - b) + f) + ((most - k) + g)
pair_falls most b k bound zero f g u v is within flat hu hv = let one : f ≡ 1 = flat refl in omega arith
pair_falls most b k bound (suc rise) f g u v is within flat hu hv = omega arith

sum_falls : (s t u old_first old_second first second : ℕ) → t + old_first ≡ s + first → u + old_second ≡ t + second → first + second < old_first + old_second → u < s
sum_falls s t u old_first old_second first second e f h = omega arith

pub flip_falls : (corners : List Corner) (most : ℕ) (old new : List Bounded) → IsFlip corners most old new → potential corners most new < potential corners most old
flip_falls corners most old new x =
    let first : Bounded = record { tri = first_of x.a x.b x.c x.d; bound = x.bound } in
    let second : Bounded = record { tri = second_of x.a x.b x.c x.d; bound = x.bound } in
    let w = weight corners most in
    let here : x.i < length old = slice_get_within old x.i x.sliver x.at_sliver in
    let there : x.j < length old = slice_get_within old x.j x.neighbour x.at_neighbour in
    let also : x.j < length (set old x.i first) = omega (arith, length-set old x.i first) in
    let e : sum_by w (set old x.i first) + w (get_or old x.i x.sliver) ≡ sum_by w old + w first = sum_by-set w old x.i first x.sliver here in
    let f : sum_by w (set (set old x.i first) x.j second) + w (get_or (set old x.i first) x.j x.neighbour) ≡ sum_by w (set old x.i first) + w second =
    sum_by-set w (set old x.i first) x.j second x.neighbour also in
    let P : Bounded → Type 0 = λ y. sum_by w (set old x.i first) + w y ≡ sum_by w old + w first in
    let Q : Bounded → Type 0 = λ y. sum_by w (set (set old x.i first) x.j second) + w y ≡ sum_by w (set old x.i first) + w second in
    let N : List Bounded → Type 0 = λ s. sum_by w s < sum_by w old in
    subst N (sym x.changed) (sum_falls (sum_by w old) (sum_by w (set old x.i first)) (sum_by w (set (set old x.i first) x.j second)) (w x.sliver) (w x.neighbour) (w first) (w second)
    (subst P (get_or_from_slice_get old x.i x.sliver x.sliver x.at_sliver) e)
    (subst Q (get_or-set_other old x.i x.j first x.neighbour (λ same. x.different (sym same)) ∙ get_or_from_slice_get old x.j x.neighbour x.neighbour x.at_neighbour) f)
    (pair_falls most x.sliver.bound x.neighbour.bound x.bound x.rise (flat_of corners x.sliver.tri) (flat_of corners x.neighbour.tri) (flat_of corners first.tri) (flat_of corners second.tri)
    x.is_bound x.within (flat_sliver corners most old new x) (first_not_flat corners most old new x) (second_not_flat corners most old new x)))

pub flips_fall : (corners : List Corner) (most n : ℕ) (first last : List Bounded) → AreFlips corners most n first last → potential corners most last + n ≤ potential corners most first
flips_fall corners most _ _ _ (none s) = omega arith
flips_fall corners most _ _ _ (more n s t u flips x) =
    step (potential corners most s) (potential corners most t) (potential corners most u) n (flips_fall corners most n s t flips) (flip_falls corners most t u x)
  where
    step : (s t u n : ℕ) → t + n ≤ s → u < t → u + suc n ≤ s
    step s t u n h k = omega arith

pub potential_most : (corners : List Corner) (most : ℕ) (surface : List Bounded) → length surface ≤ 20000 → most ≤ 102400 → potential corners most surface ≤ 2048020000
potential_most corners most surface few limit =
    le_trans (sum_by-le (weight corners most) 102401 surface (λ k d below. weighed (get_or surface k d))) (mul-le (length surface) 102401 20000 102401 few (omega arith))
  where
    weighed : (x : Bounded) → weight corners most x ≤ 102401
    weighed x = let one : flat_of corners x.tri ≤ 1 = flat_most (slice_get corners x.tri.a) (slice_get corners x.tri.b) (slice_get corners x.tri.c) in omega arith

-- so many flips at most
pub flips_most : (corners : List Corner) (most n : ℕ) (first last : List Bounded) → length first ≤ 20000 → most ≤ 102400 → AreFlips corners most n first last → n ≤ 2048020000
flips_most corners most n first last few limit flips =
    let fall : potential corners most last + n ≤ potential corners most first = flips_fall corners most n first last flips in
    let start : potential corners most first ≤ 2048020000 = potential_most corners most first few limit in
    below (potential corners most last) (potential corners most first) n fall start
  where
    below : (n m k : ℕ) → n + k ≤ m → m ≤ 2048020000 → k ≤ 2048020000
    below n m k h most = omega arith
