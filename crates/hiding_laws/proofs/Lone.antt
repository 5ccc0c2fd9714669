-- A face turned to the viewer that has one corner on one side of the edge's line and two on the other: it comes at one of that corner's sides and goes at the other.
use Rattle.std.proofs.Common.{◌≡◌, [], ◌∷◌, refl, sym, ap, ◌∙◌, arith}
use Rattle.std.specs.Prelude.{ℤ, pos, ◌+ℤ◌, ◌-ℤ◌, ◌*ℤ◌, ◌≤ℤ◌, ◌<ℤ◌}
use Rattle.std.proofs.lemmas.Int.{ints}
use Rattle.integers.proofs.Comparisons.{positive_at}
use Rattle.hiding_laws.proofs.Places.{place_of}
use Rattle.hiding_laws.proofs.ScreenSides.{pos_of_least}
use Rattle.hiding_laws.proofs.Screens.{lead_of, Screen, area_of, turn_of, Covers}
use Rattle.hiding_laws.specs.Values.{value_at}
use Rattle.integers.proofs.Ring.{var, con, ◌⊕◌, ◌⊖◌, ◌⊗◌, ring, by_one, gap_of_less}
use Rattle.integers.proofs.Signs.{mul_pos}
use Rattle.hiding_laws.specs.inner.Tallies.{IsTally}
use Rattle.hiding_laws.proofs.Shares.{numerator_of, denominator_of, Crosses, IsUnpierced}
use Rattle.hiding_laws.proofs.ScreenLetters.{area}
use Rattle.hiding_laws.proofs.EdgeScreenLetters.{A, B, C, Zero, flat_values}
use Rattle.hiding_laws.proofs.Signs.{weak, sign_cases, sum_pos, up_weak, up, pos_of_mul_pos}
use Rattle.hiding_laws.proofs.Wedge.{third_least, right_of_left, left_of_right}
use Rattle.hiding_laws.proofs.Come.{IsInner, IsFree, Over, come_and_go}
use Rattle.hiding_laws.proofs.Sides.{tally_of, denominator-areas, turn-numerator, comes_of_crosses, crosses_of_comes, goes_of_crosses, crosses_of_goes}
use Rattle.hiding_laws.proofs.Faces.{weight_a, weight_b, weight_c, height, whole, on_line, covers_at, at_covers, touches_at}

-- ---- what is linear and above 0 stays so on its way up
module _ (r k n m n' m' : ℤ) (m_pos : pos 0 <ℤ m) (m'_pos : pos 0 <ℤ m') (order : (n *ℤ m') <ℤ (n' *ℤ m)) where
  rising : k <ℤ pos 0 → pos 0 <ℤ ((r *ℤ m) -ℤ (n *ℤ k)) → pos 0 <ℤ ((r *ℤ m') -ℤ (n' *ℤ k))
  rising falls h =
      pos_of_mul_pos _ m m_pos (positive_at _ _
      (ring (r ∷ k ∷ n ∷ m ∷ n' ∷ m' ∷ [])
      (((var 0 ⊗ var 5) ⊖ (var 4 ⊗ var 1)) ⊗ var 3)
      ((((var 4 ⊗ var 3) ⊖ (var 2 ⊗ var 5)) ⊗ (con (pos 0) ⊖ var 1)) ⊕ (((var 0 ⊗ var 3) ⊖ (var 2 ⊗ var 1)) ⊗ var 5)) refl)
      (sum_pos _ _ (weak _ (mul_pos _ _ (gap_of_less _ _ order) (up k falls))) (mul_pos _ _ h m'_pos)))

  falling : pos 0 <ℤ k → pos 0 <ℤ ((r *ℤ m') -ℤ (n' *ℤ k)) → pos 0 <ℤ ((r *ℤ m) -ℤ (n *ℤ k))
  falling rises h =
      pos_of_mul_pos _ m' m'_pos (positive_at _ _
      (ring (r ∷ k ∷ n ∷ m ∷ n' ∷ m' ∷ [])
      (((var 0 ⊗ var 3) ⊖ (var 2 ⊗ var 1)) ⊗ var 5)
      ((((var 4 ⊗ var 3) ⊖ (var 2 ⊗ var 5)) ⊗ var 1) ⊕ (((var 0 ⊗ var 5) ⊖ (var 4 ⊗ var 1)) ⊗ var 3)) refl)
      (sum_pos _ _ (weak _ (mul_pos _ _ (gap_of_less _ _ order) rises)) (mul_pos _ _ h m_pos)))

pub inner_pos : (n m : ℤ) → IsInner n m → pos 0 <ℤ m
inner_pos n m i = let a = i.after in let b = i.before in omega (arith, ints)

pub area-rotate : (a b c : Screen) → area_of c a b ≡ area_of a b c
area-rotate a b c = ring (flat_values a a a b c (pos 0) (pos 0)) (area C A B) (area A B C) refl

pub lead-rotate : (a b c p : Screen) → lead_of c a b p ≡ lead_of a b c p
lead-rotate a b c p =
    ap (λ v. (((turn_of p a b *ℤ c.h) +ℤ (turn_of p b c *ℤ a.h)) +ℤ (turn_of p c a *ℤ b.h)) -ℤ (p.h *ℤ v)) (area-rotate a b c)
    ∙ moved (turn_of p a b *ℤ c.h) (turn_of p b c *ℤ a.h) (turn_of p c a *ℤ b.h) (p.h *ℤ area_of a b c)
  where
    moved : (x y z w : ℤ) → ((x +ℤ y) +ℤ z) -ℤ w ≡ ((y +ℤ z) +ℤ x) -ℤ w
    moved x y z w = omega (arith, ints)

-- a sum with equal values in it
pub sum_at : (x y f g f' g' : ℤ) → f ≡ f' → g ≡ g' → pos 0 <ℤ ((x *ℤ f) +ℤ (y *ℤ g)) → pos 0 <ℤ ((x *ℤ f') +ℤ (y *ℤ g'))
sum_at x y f g f' g' e h = positive_at _ _ (λ t. (x *ℤ sym e t) +ℤ (y *ℤ sym h t))

module _ (p q a b c : Screen) (n m n' m' : ℤ) (pw : p.w ≡ pos 1) (qw : q.w ≡ pos 1) (i : IsInner n m) (i' : IsInner n' m') (order : (n *ℤ m') <ℤ (n' *ℤ m))
    (area_up : pos 0 <ℤ area_of a b c) (unpierced : IsUnpierced p q a b c)
    (b_off : ¬ (weight_b p q a b c n m pw qw ≡ pos 0)) (c_off : ¬ (weight_c p q a b c n m pw qw ≡ pos 0))
    (b_off' : ¬ (weight_b p q a b c n' m' pw qw ≡ pos 0)) (c_off' : ¬ (weight_c p q a b c n' m' pw qw ≡ pos 0)) where
  abbrev Wa : ℤ → ℤ → ℤ
  Wa n m = weight_a p q a b c n m pw qw

  abbrev Wb : ℤ → ℤ → ℤ
  Wb n m = weight_b p q a b c n m pw qw

  abbrev Wc : ℤ → ℤ → ℤ
  Wc n m = weight_c p q a b c n m pw qw

  abbrev H : ℤ → ℤ → ℤ
  H n m = height p q a b c n m pw qw

  -- the sides at the lone corner
  abbrev Kab : ℤ
  Kab = denominator_of p q a b

  abbrev Kca : ℤ
  Kca = denominator_of p q c a

  some : (n m : ℤ) → IsInner n m → pos 0 <ℤ (m *ℤ area_of a b c)
  some n m i = mul_pos m _ (inner_pos n m i) area_up

  other_order : (x y z w : ℤ) → (x +ℤ y) +ℤ z ≡ w → (x +ℤ z) +ℤ y ≡ w
  other_order x y z w e = omega (arith, ints)

  turned_up : (x y : ℤ) → x <ℤ y → pos 0 <ℤ (y +ℤ (pos 0 -ℤ x))
  turned_up x y h = omega (arith, ints)

  turned_down : (x y : ℤ) → y <ℤ x → pos 0 <ℤ ((pos 0 -ℤ y) +ℤ x)
  turned_down x y h = omega (arith, ints)

  below_of : (k x y : ℤ) → k ≡ y -ℤ x → y <ℤ x → k <ℤ pos 0
  below_of k x y e h = omega (arith, ints)

  above_of : (k x y : ℤ) → k ≡ y -ℤ x → x <ℤ y → pos 0 <ℤ k
  above_of k x y e h = omega (arith, ints)

  -- the crossing of the side from c to a, told with the face's heights from a
  turned : (n m : ℤ) → value_at (lead_of c a b p) (lead_of c a b q) n m ≡ H n m
  turned n m t = value_at (lead-rotate a b c p t) (lead-rotate a b c q t) n m

  up_ca : pos 0 <ℤ area_of c a b
  up_ca = positive_at _ _ (area-rotate a b c) area_up

  comes_ca : Kca <ℤ pos 0 → {z : ℤ} → IsTally (Crosses p q c a n m n' m') z
      → IsTally ((Wb n m <ℤ pos 0) × (pos 0 <ℤ Wb n' m') × (pos 0 <ℤ ((Wb n' m' *ℤ H n m) +ℤ ((pos 0 -ℤ Wb n m) *ℤ H n' m')))) z
  comes_ca falls =
      tally_of
      (λ x. let r = comes_of_crosses p q c a b n m n' m' pw qw order up_ca falls x in (r.0, r.1, sum_at (Wb n' m') (pos 0 -ℤ Wb n m) _ _ _ _ (turned n m) (turned n' m') r.2))
      (λ x. crosses_of_comes p q c a b n m n' m' pw qw order up_ca falls (x.0, x.1, sum_at (Wb n' m') (pos 0 -ℤ Wb n m) _ _ _ _ (sym (turned n m)) (sym (turned n' m')) x.2))

  goes_ca : pos 0 <ℤ Kca → {z : ℤ} → IsTally (Crosses p q c a n m n' m') z
      → IsTally ((pos 0 <ℤ Wb n m) × (Wb n' m' <ℤ pos 0) × (pos 0 <ℤ (((pos 0 -ℤ Wb n' m') *ℤ H n m) +ℤ (Wb n m *ℤ H n' m')))) z
  goes_ca rises =
      tally_of
      (λ x. let r = goes_of_crosses p q c a b n m n' m' pw qw order up_ca rises x in (r.0, r.1, sum_at (pos 0 -ℤ Wb n' m') (Wb n m) _ _ _ _ (turned n m) (turned n' m') r.2))
      (λ x. crosses_of_goes p q c a b n m n' m' pw qw order up_ca rises (x.0, x.1, sum_at (pos 0 -ℤ Wb n' m') (Wb n m) _ _ _ _ (sym (turned n m)) (sym (turned n' m')) x.2))

  -- with one corner high, the face comes at the side from it and goes at the side to it
  module _ (a_least : pos 0 ≤ℤ area_of p q a) (b_most : area_of p q b ≤ℤ pos 0) (c_most : area_of p q c ≤ℤ pos 0)
      (b_less : area_of p q b <ℤ area_of p q a) (c_less : area_of p q c <ℤ area_of p q a) where
    high_line : (n m : ℤ) → Wa n m *ℤ area_of p q a ≡ (Wc n m *ℤ (pos 0 -ℤ area_of p q c)) +ℤ (Wb n m *ℤ (pos 0 -ℤ area_of p q b))
    high_line n m =
        by_one _ _ _ _ (pos 1)
        (ring (Wa n m ∷ Wb n m ∷ Wc n m ∷ area_of p q a ∷ area_of p q b ∷ area_of p q c ∷ [])
        ((var 0 ⊗ var 3) ⊖ ((var 2 ⊗ (Zero ⊖ var 5)) ⊕ (var 1 ⊗ (Zero ⊖ var 4)))) (((((var 0 ⊗ var 3) ⊕ (var 1 ⊗ var 4)) ⊕ (var 2 ⊗ var 5)) ⊖ Zero) ⊗ con (pos 1)) refl)
        (on_line p q a b c n m pw qw)

    high_third : (n m : ℤ) → IsInner n m → pos 0 ≤ℤ Wc n m → pos 0 ≤ℤ Wb n m → pos 0 ≤ℤ Wa n m
    high_third n m i =
        third_least (Wa n m) (Wc n m) (Wb n m) (m *ℤ area_of a b c) (area_of p q a) (pos 0 -ℤ area_of p q c) (pos 0 -ℤ area_of p q b)
        (other_order (Wa n m) (Wb n m) (Wc n m) (m *ℤ area_of a b c) (whole p q a b c n m pw qw)) (some n m i) (high_line n m) a_least (up_weak _ c_most) (up_weak _ b_most) (turned_up _ _ c_less) (turned_up _ _ b_less)

    high_free : IsFree (turn_of p a b) (turn_of q a b) (turn_of p c a) (turn_of q c a) (lead_of a b c p) (lead_of a b c q)
    high_free = record {
      free = λ n m i e z l. unpierced n m i.after i.before (touches_at p q a b c n m pw qw (inner_pos n m i) area_up (high_third n m i e z) z e l);
      right_of_left = λ n m i.
          right_of_left (Wa n m) (Wc n m) (Wb n m) (m *ℤ area_of a b c) (area_of p q a) (pos 0 -ℤ area_of p q c) (pos 0 -ℤ area_of p q b)
          (other_order (Wa n m) (Wb n m) (Wc n m) (m *ℤ area_of a b c) (whole p q a b c n m pw qw)) (some n m i) (high_line n m) a_least (up_weak _ c_most) (up_weak _ b_most) (turned_up _ _ c_less) (turned_up _ _ b_less);
      left_of_right = λ n m i.
          left_of_right (Wa n m) (Wc n m) (Wb n m) (m *ℤ area_of a b c) (area_of p q a) (pos 0 -ℤ area_of p q c) (pos 0 -ℤ area_of p q b)
          (other_order (Wa n m) (Wb n m) (Wc n m) (m *ℤ area_of a b c) (whole p q a b c n m pw qw)) (some n m i) (high_line n m) a_least (up_weak _ c_most) (up_weak _ b_most) (turned_up _ _ c_less) (turned_up _ _ b_less);
    }

    high_over : (n m : ℤ) → IsInner n m → ¬ (Wb n m ≡ pos 0) → ¬ (Wc n m ≡ pos 0) → {z : ℤ} → IsTally (Covers a b c (place_of p q n m)) z
        → IsTally (Over (turn_of p a b) (turn_of q a b) (turn_of p c a) (turn_of q c a) (lead_of a b c p) (lead_of a b c q) n m) z
    high_over n m i b_off c_off =
        tally_of
        (λ x. let r = at_covers p q a b c n m pw qw (inner_pos n m i) area_up x in (pos_of_least _ r.2 c_off, pos_of_least _ r.1 b_off, r.3))
        (λ x. covers_at p q a b c n m pw qw (inner_pos n m i) area_up (high_third n m i (weak _ x.0) (weak _ x.1)) (weak _ x.1) (weak _ x.0) x.2)

    falls_ab : Kab <ℤ pos 0
    falls_ab = below_of _ _ _ (denominator-areas p q a b) b_less

    rises_ca : pos 0 <ℤ Kca
    rises_ca = above_of _ _ _ (denominator-areas p q c a) c_less

    pub high_change : {before after ab ca : ℤ} → IsTally (Covers a b c (place_of p q n m)) before → IsTally (Covers a b c (place_of p q n' m')) after
        → IsTally (Crosses p q a b n m n' m') ab → IsTally (Crosses p q c a n m n' m') ca → after -ℤ before ≡ ab -ℤ ca
    high_change t t' x y =
        come_and_go high_free n m n' m' i i' (sign_cases _ c_off) (sign_cases _ b_off')
        (λ h. positive_at _ _ (turn-numerator p q a b n' m' pw qw)
        (rising (numerator_of p a b) Kab n m n' m' (inner_pos n m i) (inner_pos n' m' i') order falls_ab (positive_at _ _ (sym (turn-numerator p q a b n m pw qw)) h)))
        (λ h. positive_at _ _ (turn-numerator p q c a n m pw qw)
        (falling (numerator_of p c a) Kca n m n' m' (inner_pos n m i) (inner_pos n' m' i') order rises_ca (positive_at _ _ (sym (turn-numerator p q c a n' m' pw qw)) h)))
        (high_over n m i b_off c_off t) (high_over n' m' i' b_off' c_off' t')
        (tally_of (comes_of_crosses p q a b c n m n' m' pw qw order area_up falls_ab) (crosses_of_comes p q a b c n m n' m' pw qw order area_up falls_ab) x)
        (goes_ca rises_ca y)

  -- with one corner low, it comes at the side to it and goes at the side from it
  module _ (a_most : area_of p q a ≤ℤ pos 0) (b_least : pos 0 ≤ℤ area_of p q b) (c_least : pos 0 ≤ℤ area_of p q c)
      (b_more : area_of p q a <ℤ area_of p q b) (c_more : area_of p q a <ℤ area_of p q c) where
    low_line : (n m : ℤ) → Wa n m *ℤ (pos 0 -ℤ area_of p q a) ≡ (Wb n m *ℤ area_of p q b) +ℤ (Wc n m *ℤ area_of p q c)
    low_line n m =
        by_one _ _ _ _ (pos 0 -ℤ pos 1)
        (ring (Wa n m ∷ Wb n m ∷ Wc n m ∷ area_of p q a ∷ area_of p q b ∷ area_of p q c ∷ [])
        ((var 0 ⊗ (Zero ⊖ var 3)) ⊖ ((var 1 ⊗ var 4) ⊕ (var 2 ⊗ var 5))) (((((var 0 ⊗ var 3) ⊕ (var 1 ⊗ var 4)) ⊕ (var 2 ⊗ var 5)) ⊖ Zero) ⊗ (Zero ⊖ con (pos 1))) refl)
        (on_line p q a b c n m pw qw)

    low_third : (n m : ℤ) → IsInner n m → pos 0 ≤ℤ Wb n m → pos 0 ≤ℤ Wc n m → pos 0 ≤ℤ Wa n m
    low_third n m i =
        third_least (Wa n m) (Wb n m) (Wc n m) (m *ℤ area_of a b c) (pos 0 -ℤ area_of p q a) (area_of p q b) (area_of p q c)
        (whole p q a b c n m pw qw) (some n m i) (low_line n m) (up_weak _ a_most) b_least c_least (turned_down _ _ b_more) (turned_down _ _ c_more)

    low_free : IsFree (turn_of p c a) (turn_of q c a) (turn_of p a b) (turn_of q a b) (lead_of a b c p) (lead_of a b c q)
    low_free = record {
      free = λ n m i e z l. unpierced n m i.after i.before (touches_at p q a b c n m pw qw (inner_pos n m i) area_up (low_third n m i e z) e z l);
      right_of_left = λ n m i.
          right_of_left (Wa n m) (Wb n m) (Wc n m) (m *ℤ area_of a b c) (pos 0 -ℤ area_of p q a) (area_of p q b) (area_of p q c)
          (whole p q a b c n m pw qw) (some n m i) (low_line n m) (up_weak _ a_most) b_least c_least (turned_down _ _ b_more) (turned_down _ _ c_more);
      left_of_right = λ n m i.
          left_of_right (Wa n m) (Wb n m) (Wc n m) (m *ℤ area_of a b c) (pos 0 -ℤ area_of p q a) (area_of p q b) (area_of p q c)
          (whole p q a b c n m pw qw) (some n m i) (low_line n m) (up_weak _ a_most) b_least c_least (turned_down _ _ b_more) (turned_down _ _ c_more);
    }

    low_over : (n m : ℤ) → IsInner n m → ¬ (Wb n m ≡ pos 0) → ¬ (Wc n m ≡ pos 0) → {z : ℤ} → IsTally (Covers a b c (place_of p q n m)) z
        → IsTally (Over (turn_of p c a) (turn_of q c a) (turn_of p a b) (turn_of q a b) (lead_of a b c p) (lead_of a b c q) n m) z
    low_over n m i b_off c_off =
        tally_of
        (λ x. let r = at_covers p q a b c n m pw qw (inner_pos n m i) area_up x in (pos_of_least _ r.1 b_off, pos_of_least _ r.2 c_off, r.3))
        (λ x. covers_at p q a b c n m pw qw (inner_pos n m i) area_up (low_third n m i (weak _ x.0) (weak _ x.1)) (weak _ x.0) (weak _ x.1) x.2)

    falls_ca : Kca <ℤ pos 0
    falls_ca = below_of _ _ _ (denominator-areas p q c a) c_more

    rises_ab : pos 0 <ℤ Kab
    rises_ab = above_of _ _ _ (denominator-areas p q a b) b_more

    pub low_change : {before after ab ca : ℤ} → IsTally (Covers a b c (place_of p q n m)) before → IsTally (Covers a b c (place_of p q n' m')) after
        → IsTally (Crosses p q a b n m n' m') ab → IsTally (Crosses p q c a n m n' m') ca → after -ℤ before ≡ ca -ℤ ab
    low_change t t' x y =
        come_and_go low_free n m n' m' i i' (sign_cases _ b_off) (sign_cases _ c_off')
        (λ h. positive_at _ _ (turn-numerator p q c a n' m' pw qw)
        (rising (numerator_of p c a) Kca n m n' m' (inner_pos n m i) (inner_pos n' m' i') order falls_ca (positive_at _ _ (sym (turn-numerator p q c a n m pw qw)) h)))
        (λ h. positive_at _ _ (turn-numerator p q a b n m pw qw)
        (falling (numerator_of p a b) Kab n m n' m' (inner_pos n m i) (inner_pos n' m' i') order rises_ab (positive_at _ _ (sym (turn-numerator p q a b n' m' pw qw)) h)))
        (low_over n m i b_off c_off t) (low_over n' m' i' b_off' c_off' t')
        (comes_ca falls_ca y)
        (tally_of (goes_of_crosses p q a b c n m n' m' pw qw order area_up rises_ab) (crosses_of_goes p q a b c n m n' m' pw qw order area_up rises_ab) x)
