-- An edge in a triangle's plane has a place to the right of no side where that is so of each two sides.
use Rattle.std.proofs.Common.{◌≡◌, [], ◌∷◌, refl, sym, ap, ◌∙◌, arith}
use Rattle.std.specs.Prelude.{◌↔◌, ℤ, pos, ◌+ℤ◌, ◌-ℤ◌, ◌*ℤ◌, ◌≤ℤ◌, ◌<ℤ◌}
use Rattle.std.proofs.lemmas.Int.{ints, by_lt_z}
use Rattle.integers.proofs.Comparisons.{negation_positive, not_negative_at, sum_not_negative, not_negative_of_positive, sum_positive_first, sum_positive_last, gap_of_at_most, at_most_of_gap, positive_not_zero}
use Rattle.integers.proofs.Ring.{Expr, var, con, ◌⊕◌, ◌⊖◌, ◌⊗◌, ring}
use Rattle.integers.proofs.Signs.{mul_nonneg, mul_pos, nonneg_of_mul}
use Rattle.meeting.specs.declared.course.Offset.{Offset}
use Rattle.meeting.specs.declared.course.Course.{Course}
use Rattle.meeting.specs.inner.Places.{CoursePlace, IsLeftSomewhere, IsInOrder, Agree}

abbrev O : Expr
O = con (pos 0)

-- ---- sums with weights
sum_nonneg : (i j f g : ℤ) → pos 0 ≤ℤ i → pos 0 ≤ℤ j → pos 0 ≤ℤ f → pos 0 ≤ℤ g → pos 0 ≤ℤ ((i *ℤ f) +ℤ (j *ℤ g))
sum_nonneg i j f g p q r s = sum_not_negative _ _ (mul_nonneg i f p r) (mul_nonneg j g q s)

pub sum_pos : (i j f g : ℤ) → pos 0 ≤ℤ i → pos 0 ≤ℤ j → pos 0 <ℤ (i +ℤ j) → pos 0 <ℤ f → pos 0 <ℤ g → pos 0 <ℤ ((i *ℤ f) +ℤ (j *ℤ g))
sum_pos i j f g p q some r s =
    by_lt_z (pos 0) i
    (λ h. sum_positive_first _ _ (mul_pos i f h r) (mul_nonneg j g q (not_negative_of_positive g s)))
    (λ h. sum_positive_last _ _ (mul_nonneg i f p (not_negative_of_positive f r)) (mul_pos j g (rest i j h some) s))
  where
    rest : (i j : ℤ) → i ≤ℤ pos 0 → pos 0 <ℤ (i +ℤ j) → pos 0 <ℤ j
    rest i j h s = omega (arith, ints)

turned_nonneg : (z : ℤ) → z <ℤ pos 0 → pos 0 ≤ℤ (pos 0 -ℤ z)
turned_nonneg z h = omega (arith, ints)

clash : {C : Type 0} (z : ℤ) → z <ℤ pos 0 → pos 0 ≤ℤ z → C
clash z p q = absurd (omega (arith, ints))

pub sum_neg : (i j f g : ℤ) → pos 0 ≤ℤ i → pos 0 ≤ℤ j → pos 0 <ℤ (i +ℤ j) → f <ℤ pos 0 → g <ℤ pos 0 → ((i *ℤ f) +ℤ (j *ℤ g)) <ℤ pos 0
sum_neg i j f g p q some r s = back _ _
    (ring (i ∷ j ∷ f ∷ g ∷ []) ((var 0 ⊗ (O ⊖ var 2)) ⊕ (var 1 ⊗ (O ⊖ var 3))) (O ⊖ ((var 0 ⊗ var 2) ⊕ (var 1 ⊗ var 3))) refl)
    (sum_pos i j _ _ p q some (negation_positive f r) (negation_positive g s))
  where
    back : (m n : ℤ) → n ≡ pos 0 -ℤ m → pos 0 <ℤ n → m <ℤ pos 0
    back m n e h = omega (arith, ints)

-- ---- one side
abbrev value : Offset → ℤ → ℤ → ℤ
value x i j = (i *ℤ x.start) +ℤ (j *ℤ x.end)

-- the place is not to the right of the side
abbrev IsMet : Offset → ℤ → ℤ → Type 0
IsMet x i j = pos 0 ≤ℤ value x i j

-- it is not yet, where the edge goes to the right of it
abbrev IsSafe : Offset → ℤ → ℤ → Type 0
IsSafe x i j = x.end <ℤ pos 0 → IsMet x i j

safe_at_start : (x : Offset) → IsLeftSomewhere x → IsSafe x (pos 1) (pos 0)
safe_at_start x somewhere falls = by_lt_z x.start (pos 0) (λ h. clash x.end falls (somewhere h)) (λ h. simple x.start x.end h)
  where
    simple : (f g : ℤ) → pos 0 ≤ℤ f → pos 0 ≤ℤ ((pos 1 *ℤ f) +ℤ (pos 0 *ℤ g))
    simple f g h = omega (arith, ints)

-- a place, by its weights, and a fact of it
record Held (P : ℤ → ℤ → Type 0) : Type 0 where
  i : ℤ
  j : ℤ
  i_least : pos 0 ≤ℤ i
  j_least : pos 0 ≤ℤ j
  some : pos 0 <ℤ (i +ℤ j)
  holds : P i j

-- the place is kept, or left for that at which the edge comes up to the side
step : (x : Offset) (P : ℤ → ℤ → Type 0) → IsLeftSomewhere x → Held (λ i j. P i j × IsSafe x i j)
    → ((i j : ℤ) → pos 0 ≤ℤ j → pos 0 <ℤ (i +ℤ j) → P i j → x.start <ℤ pos 0 → value x i j <ℤ pos 0 → P x.end (pos 0 -ℤ x.start))
    → Held (λ i j. P i j × IsMet x i j)
step x P somewhere h move =
    by_lt_z (value x h.i h.j) (pos 0)
    (λ below. by_lt_z x.start (pos 0)
    (λ neg. record {
      i = x.end;
      j = pos 0 -ℤ x.start;
      i_least = somewhere neg;
      j_least = turned_nonneg x.start neg;
      some = some_there x.start x.end neg (somewhere neg);
      holds = (move h.i h.j h.j_least h.some h.holds.0 neg below, own);
    })
    (λ least. clash _ below (by_lt_z x.end (pos 0) (λ falls. h.holds.1 falls) (λ high. sum_nonneg h.i h.j x.start x.end h.i_least h.j_least least high))))
    (λ met. record { i = h.i; j = h.j; i_least = h.i_least; j_least = h.j_least; some = h.some; holds = (h.holds.0, met) })
  where
    own : IsMet x x.end (pos 0 -ℤ x.start)
    own = not_negative_at _ _ (ring (x.start ∷ x.end ∷ []) ((var 1 ⊗ var 0) ⊕ ((O ⊖ var 0) ⊗ var 1)) O refl) (omega (arith, ints))

    some_there : (f g : ℤ) → f <ℤ pos 0 → pos 0 ≤ℤ g → pos 0 <ℤ (g +ℤ (pos 0 -ℤ f))
    some_there f g h k = omega (arith, ints)

-- ---- two sides
module _ (x y : Offset) where
  -- the value of y where the edge comes up to x
  root-value : value y x.end (pos 0 -ℤ x.start) ≡ (x.end *ℤ y.start) -ℤ (x.start *ℤ y.end)
  root-value = ring (x.start ∷ x.end ∷ y.start ∷ y.end ∷ []) ((var 1 ⊗ var 2) ⊕ ((O ⊖ var 0) ⊗ var 3)) ((var 1 ⊗ var 2) ⊖ (var 0 ⊗ var 3)) refl

  safe-there : IsInOrder x y → x.start <ℤ pos 0 → IsSafe y x.end (pos 0 -ℤ x.start)
  safe-there order neg falls = not_negative_at _ _ root-value (gap_of_at_most _ _ (order neg falls))

  -- what was met at a place is met there too, where that comes later
  met-there : IsInOrder x y → IsLeftSomewhere x → (i j : ℤ) → pos 0 ≤ℤ j → pos 0 <ℤ (i +ℤ j) → IsMet y i j → x.start <ℤ pos 0 → value x i j <ℤ pos 0 → IsMet y x.end (pos 0 -ℤ x.start)
  met-there order somewhere i j j_least some met neg below =
      by_lt_z y.start (pos 0)
      (λ low. nonneg_of_mul j _ (forward low)
      (not_negative_at _ _
      (ring (x.start ∷ x.end ∷ y.start ∷ y.end ∷ i ∷ j ∷ [])
      (var 5 ⊗ ((var 1 ⊗ var 2) ⊕ ((O ⊖ var 0) ⊗ var 3)))
      (((O ⊖ var 2) ⊗ (O ⊖ ((var 4 ⊗ var 0) ⊕ (var 5 ⊗ var 1)))) ⊕ ((O ⊖ var 0) ⊗ ((var 4 ⊗ var 2) ⊕ (var 5 ⊗ var 3)))) refl)
      (sum_nonneg _ _ _ _ (turned_nonneg y.start low) (turned_nonneg x.start neg) (turned_nonneg _ below) met)))
      (λ high. by_lt_z y.end (pos 0)
      (λ falls. safe-there order neg falls)
      (λ up. sum_nonneg _ _ _ _ (somewhere neg) (turned_nonneg x.start neg) high up))
    where
      only : (i j : ℤ) → pos 0 ≤ℤ j → j ≤ℤ pos 0 → pos 0 <ℤ (i +ℤ j) → (j ≡ pos 0) × (pos 0 <ℤ i)
      only i j p q r = (omega (arith, ints), omega (arith, ints))

      no_second : (f g : ℤ) → f +ℤ (pos 0 *ℤ g) ≡ f
      no_second f g = omega (arith, ints)

      less_of : (f g : ℤ) → f ≡ pos 0 -ℤ g → pos 0 <ℤ f → g <ℤ pos 0
      less_of f g e h = omega (arith, ints)

      forward : y.start <ℤ pos 0 → pos 0 <ℤ j
      forward low = by_lt_z (pos 0) j (λ h. h)
          (λ h.
          let e = only i j j_least h some in
          let down = less_of _ _ (ring (i ∷ y.start ∷ []) (var 0 ⊗ (O ⊖ var 1)) (O ⊖ (var 0 ⊗ var 1)) refl) (mul_pos i _ e.1 (negation_positive y.start low)) in
          clash _ down (not_negative_at _ _ (sym (ap (λ v. (i *ℤ y.start) +ℤ (v *ℤ y.end)) e.0 ∙ no_second (i *ℤ y.start) y.end)) met))

  -- from a place where both are met
  module _ (i j : ℤ) (i_least : pos 0 ≤ℤ i) (j_least : pos 0 ≤ℤ j) (some : pos 0 <ℤ (i +ℤ j)) (met_x : IsMet x i j) where
    somewhere-of : IsLeftSomewhere x
    somewhere-of neg = by_lt_z x.end (pos 0) (λ h. clash _ (sum_neg i j x.start x.end i_least j_least some neg h) met_x) (λ h. h)

    order-of : IsMet y i j → IsInOrder x y
    order-of met_y neg falls = at_most_of_gap _ _
        (nonneg_of_mul i _ forward
        (not_negative_at _ _
        (ring (x.start ∷ x.end ∷ y.start ∷ y.end ∷ i ∷ j ∷ [])
        (var 4 ⊗ ((var 1 ⊗ var 2) ⊖ (var 0 ⊗ var 3)))
        (((O ⊖ var 3) ⊗ ((var 4 ⊗ var 0) ⊕ (var 5 ⊗ var 1))) ⊕ (var 1 ⊗ ((var 4 ⊗ var 2) ⊕ (var 5 ⊗ var 3)))) refl)
        (sum_nonneg _ _ _ _ (turned_nonneg y.end falls) (somewhere-of neg) met_x met_y)))
      where
        only : (i j : ℤ) → pos 0 ≤ℤ i → i ≤ℤ pos 0 → pos 0 <ℤ (i +ℤ j) → (i ≡ pos 0) × (pos 0 <ℤ j)
        only i j p q r = (omega (arith, ints), omega (arith, ints))

        no_first : (f g : ℤ) → (pos 0 *ℤ g) +ℤ f ≡ f
        no_first f g = omega (arith, ints)

        less_of : (f g : ℤ) → f ≡ pos 0 -ℤ g → pos 0 <ℤ f → g <ℤ pos 0
        less_of f g e h = omega (arith, ints)

        forward : pos 0 <ℤ i
        forward = by_lt_z (pos 0) i (λ h. h)
            (λ h.
            let e = only i j i_least h some in
            let down = less_of _ _ (ring (j ∷ y.end ∷ []) (var 0 ⊗ (O ⊖ var 1)) (O ⊖ (var 0 ⊗ var 1)) refl) (mul_pos j _ e.1 (negation_positive y.end falls)) in
            clash _ down (not_negative_at _ _ (sym (ap (λ v. (v *ℤ y.start) +ℤ (j *ℤ y.end)) e.0 ∙ no_first (j *ℤ y.end) y.start)) met_y))

agree_of : (x y : Offset) (i j : ℤ) → pos 0 ≤ℤ i → pos 0 ≤ℤ j → pos 0 <ℤ (i +ℤ j) → IsMet x i j → IsMet y i j → Agree x y
agree_of x y i j il jl some met_x met_y = record {
  somewhere = somewhere-of x y i j il jl some met_x;
  ahead = order-of x y i j il jl some met_x met_y;
  behind = order-of y x i j il jl some met_y met_x;
}

-- ---- three sides
module _ (x y z : Offset) (xy : Agree x y) (yz : Agree y z) (zx : Agree z x) where
  beginning : Held (λ i j. (IsSafe y i j × IsSafe z i j) × IsSafe x i j)
  beginning = record {
    i = pos 1;
    j = pos 0;
    i_least = omega (arith, ints);
    j_least = omega (arith, ints);
    some = omega (arith, ints);
    holds = ((safe_at_start y yz.somewhere, safe_at_start z zx.somewhere), safe_at_start x xy.somewhere);
  }

  first : Held (λ i j. (IsSafe y i j × IsSafe z i j) × IsMet x i j)
  first = step x _ xy.somewhere beginning (λ i j jl some held neg below. (safe-there x y xy.ahead neg, safe-there x z zx.behind neg))

  second : Held (λ i j. (IsMet x i j × IsSafe z i j) × IsMet y i j)
  second = step y _ yz.somewhere (regroup first)
      (λ i j jl some held neg below. (met-there y x xy.behind yz.somewhere i j jl some held.0 neg below, safe-there y z yz.ahead neg))
    where
      regroup : Held (λ i j. (IsSafe y i j × IsSafe z i j) × IsMet x i j) → Held (λ i j. (IsMet x i j × IsSafe z i j) × IsSafe y i j)
      regroup h = record { i = h.i; j = h.j; i_least = h.i_least; j_least = h.j_least; some = h.some; holds = ((h.holds.1, h.holds.0.1), h.holds.0.0) }

  third : Held (λ i j. (IsMet x i j × IsMet y i j) × IsMet z i j)
  third = step z _ zx.somewhere (regroup second)
      (λ i j jl some held neg below. (
        met-there z x zx.ahead zx.somewhere i j jl some held.0 neg below,
        met-there z y yz.behind zx.somewhere i j jl some held.1 neg below,
      ))
    where
      regroup : Held (λ i j. (IsMet x i j × IsSafe z i j) × IsMet y i j) → Held (λ i j. (IsMet x i j × IsMet y i j) × IsSafe z i j)
      regroup h = record { i = h.i; j = h.j; i_least = h.i_least; j_least = h.j_least; some = h.some; holds = ((h.holds.0.0, h.holds.1), h.holds.0.1) }

pub flat-place : (x : Course) → x.above.start ≡ pos 0 → x.above.end ≡ pos 0 → CoursePlace x ↔ (Agree x.bc x.ca × Agree x.ca x.ab × Agree x.ab x.bc)
flat-place x e f = (to, from)
  where
    to : CoursePlace x → Agree x.bc x.ca × Agree x.ca x.ab × Agree x.ab x.bc
    to r = (
      agree_of x.bc x.ca r.i r.j r.i_least r.j_least r.some r.bc r.ca,
      agree_of x.ca x.ab r.i r.j r.i_least r.j_least r.some r.ca r.ab,
      agree_of x.ab x.bc r.i r.j r.i_least r.j_least r.some r.ab r.bc,
    )

    from : Agree x.bc x.ca × Agree x.ca x.ab × Agree x.ab x.bc → CoursePlace x
    from (first_two, last_two, outer) =
        let h = third x.bc x.ca x.ab first_two last_two outer in
        record {
          i = h.i;
          j = h.j;
          i_least = h.i_least;
          j_least = h.j_least;
          some = h.some;
          level = (λ t. (h.i *ℤ e t) +ℤ (h.j *ℤ f t)) ∙ ring (h.i ∷ h.j ∷ []) ((var 0 ⊗ O) ⊕ (var 1 ⊗ O)) O refl;
          bc = h.holds.0.0;
          ca = h.holds.0.1;
          ab = h.holds.1;
        }

-- an edge above the plane
pub not-above : (x : Course) → pos 0 <ℤ x.above.start → pos 0 <ℤ x.above.end → ¬ CoursePlace x
not-above x h k r = positive_not_zero _ (sum_pos r.i r.j x.above.start x.above.end r.i_least r.j_least r.some h k) r.level
