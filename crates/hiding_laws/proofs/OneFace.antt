-- What one face adds to a count, between two places of an edge.
use Rattle.std.proofs.Common.{◌≡◌, ◌⊎◌, zero, suc, inl, inr, [], ◌∷◌, refl, sym, ap, ◌∙◌, arith}
use Rattle.std.specs.Prelude.{ℤ, pos, negsuc, ◌+ℤ◌, ◌-ℤ◌, ◌*ℤ◌, ◌≤ℤ◌, ◌<ℤ◌}
use Rattle.std.proofs.lemmas.Int.{ints, by_lt_z}
use Rattle.integers.proofs.Comparisons.{positive_at}
use Rattle.hiding_laws.proofs.Linear.{turn-place}
use Rattle.hiding_laws.proofs.Places.{place_of}
use Rattle.hiding_laws.proofs.Screens.{Screen, area_of, turn_of, Covers}
use Rattle.hiding_laws.specs.Values.{value_at}
use Rattle.integers.proofs.Ring.{var, con, ◌⊕◌, ◌⊖◌, ◌⊗◌, ring}
use Rattle.integers.proofs.Signs.{mul_nonneg, mul_pos}
use Rattle.geometry.specs.Counts.{Side, to_left, to_right}
use Rattle.geometry.specs.Shares.{mark}
use Rattle.hiding_laws.specs.inner.Tallies.{IsTally}
use Rattle.hiding_laws.specs.inner.Tallies.{yes, no}
use Rattle.hiding_laws.proofs.Shares.{Crosses, IsOnSide, CountsAt, IsClearOf, IsClear, Touches, IsUnpierced, edge_on, front, back}
use Rattle.hiding_laws.proofs.Laws.{OneFaceLaw}
use Rattle.hiding_laws.proofs.ScreenLetters.{area}
use Rattle.hiding_laws.proofs.EdgeScreenLetters.{A, B, C, Zero, flat_values}
use Rattle.hiding_laws.proofs.Signs.{weak, weak_neg, up, clash, clash_neg}
use Rattle.hiding_laws.proofs.Come.{IsInner}
use Rattle.hiding_laws.proofs.Sides.{tally_of, denominator-areas, denominator-reverse, crosses_reverse}
use Rattle.hiding_laws.proofs.Faces.{weight_a, weight_b, weight_c, whole, on_line, at_covers}
use Rattle.hiding_laws.proofs.Lone.{inner_pos, area-rotate, high_change, low_change}

-- ---- where a corner stands for a count
abbrev pub IsHigh : Side → ℤ → Type 0
IsHigh to_left z = pos 0 <ℤ z
IsHigh to_right z = pos 0 ≤ℤ z

abbrev pub IsLow : Side → ℤ → Type 0
IsLow to_left z = z ≤ℤ pos 0
IsLow to_right z = z <ℤ pos 0

pub data Stands (k : Side) (z : ℤ) : ℤ → Type 0 where
  high : IsHigh k z → Stands k z (pos 1)
  low : IsLow k z → Stands k z (pos 0)

pub stands : (k : Side) (z : ℤ) → Stands k z (mark k z)
stands to_left (pos zero) = low (omega (arith, ints))
stands to_left (pos (suc n)) = high (omega (arith, ints))
stands to_left (negsuc n) = low (omega (arith, ints))
stands to_right (pos n) = high (omega (arith, ints))
stands to_right (negsuc n) = low (omega (arith, ints))

high_least : (k : Side) (z : ℤ) → IsHigh k z → pos 0 ≤ℤ z
high_least to_left z h = weak z h
high_least to_right z h = h

low_most : (k : Side) (z : ℤ) → IsLow k z → z ≤ℤ pos 0
low_most to_left z h = h
low_most to_right z h = weak_neg z h

apart : (k : Side) (x y : ℤ) → IsHigh k x → IsLow k y → y <ℤ x
apart to_left x y h l = omega (arith, ints)
apart to_right x y h l = omega (arith, ints)

-- one of a high and a low corner is on the side of the count
on_side : (k : Side) (p q a b : Screen) → IsHigh k (area_of p q a) → IsLow k (area_of p q b) → IsOnSide k p q a ⊎ IsOnSide k p q b
on_side to_left p q a b h l = inl h
on_side to_right p q a b h l = inr l

-- ---- one setting
pub record Scene (p q a b c : Screen) (n m n' m' : ℤ) : Type 0 where
  pub pw : p.w ≡ pos 1
  pub qw : q.w ≡ pos 1
  pub order : (n *ℤ m') <ℤ (n' *ℤ m)
  pub area_up : pos 0 <ℤ area_of a b c
  pub clear : IsClear p q a b c n m
  pub clear' : IsClear p q a b c n' m'
  pub unpierced : IsUnpierced p q a b c

rotated_sum : (x y z : ℤ) → (x +ℤ y) +ℤ z ≡ (y +ℤ z) +ℤ x
rotated_sum x y z = omega (arith, ints)

abbrev sum : ℤ → ℤ → ℤ → ℤ
sum x y z = (x +ℤ y) +ℤ z

pub touches_rotate : (a b c p : Screen) → Touches b c a p → Touches a b c p
touches_rotate a b c p t =
    let e = rotated_sum (t.k) t.i t.j in record {
      i = t.k;
      j = t.i;
      k = t.j;
      i_least = t.k_least;
      j_least = t.i_least;
      k_least = t.j_least;
      some = positive_at _ _ e t.some;
      same_u = ap (λ v. v *ℤ p.w) (rotated_sum (t.k *ℤ a.u) (t.i *ℤ b.u) (t.j *ℤ c.u)) ∙ t.same_u ∙ ap (λ v. p.u *ℤ v) (sym e);
      same_v = ap (λ v. v *ℤ p.w) (rotated_sum (t.k *ℤ a.v) (t.i *ℤ b.v) (t.j *ℤ c.v)) ∙ t.same_v ∙ ap (λ v. p.v *ℤ v) (sym e);
      same_h = ap (λ v. v *ℤ p.w) (rotated_sum (t.k *ℤ a.h) (t.i *ℤ b.h) (t.j *ℤ c.h)) ∙ t.same_h ∙ ap (λ v. p.h *ℤ v) (sym e);
    }

less_at : (x y x' y' : ℤ) → x' ≡ x → y' ≡ y → x <ℤ y → x' <ℤ y'
less_at x y x' y' e h l = omega (arith, ints)

pub covers_rotate : (a b c p : Screen) → Covers b c a p → Covers a b c p
covers_rotate a b c p t =
    let e = rotated_sum (t.k) t.i t.j in record {
      i = t.k;
      j = t.i;
      k = t.j;
      i_least = t.k_least;
      j_least = t.i_least;
      k_least = t.j_least;
      some = positive_at _ _ e t.some;
      same_u = ap (λ v. v *ℤ p.w) (rotated_sum (t.k *ℤ a.u) (t.i *ℤ b.u) (t.j *ℤ c.u)) ∙ t.same_u ∙ ap (λ v. p.u *ℤ v) (sym e);
      same_v = ap (λ v. v *ℤ p.w) (rotated_sum (t.k *ℤ a.v) (t.i *ℤ b.v) (t.j *ℤ c.v)) ∙ t.same_v ∙ ap (λ v. p.v *ℤ v) (sym e);
      nearer = less_at _ _ _ _ (ap (λ v. p.h *ℤ v) e) (ap (λ v. v *ℤ p.w) (rotated_sum (t.k *ℤ a.h) (t.i *ℤ b.h) (t.j *ℤ c.h))) t.nearer;
    }

clear_rotate : {p q a b c : Screen} {n m : ℤ} → IsClear p q a b c n m → IsClear p q b c a n m
clear_rotate x = record {
  after = x.after;
  before = x.before;
  ab = x.bc;
  bc = x.ca;
  ca = x.ab;
}

scene_rotate : {p q a b c : Screen} {n m n' m' : ℤ} → Scene p q a b c n m n' m' → Scene p q b c a n m n' m'
scene_rotate {p = p} {q = q} {a = a} {b = b} {c = c} s = record {
  pw = s.pw;
  qw = s.qw;
  order = s.order;
  area_up = positive_at _ _ (sym (area-rotate b c a)) s.area_up;
  clear = clear_rotate s.clear;
  clear' = clear_rotate s.clear';
  unpierced = λ n m h k t. s.unpierced n m h k (touches_rotate a b c (place_of p q n m) t);
}

-- ---- a corner alone on its side
-- no side that changes sides has the place on its line
off : (k : Side) (p q a b : Screen) (n m : ℤ) → p.w ≡ pos 1 → q.w ≡ pos 1 → IsClearOf p q a b n m
    → (IsHigh k (area_of p q a) × IsLow k (area_of p q b)) ⊎ (IsHigh k (area_of p q b) × IsLow k (area_of p q a))
    → ¬ (value_at (turn_of p a b) (turn_of q a b) n m ≡ pos 0)
off k p q a b n m pw qw clear (inl h) e =
    apart_clash _ _ _ (denominator-areas p q a b) (clear (turn-place p q a b n m pw qw ∙ e) (inr (low_most k _ h.1, high_least k _ h.0))) (apart k _ _ h.0 h.1)
  where
    apart_clash : (k x y : ℤ) → k ≡ y -ℤ x → k ≡ pos 0 → y <ℤ x → ⊥
    apart_clash k x y e z h = omega (arith, ints)
off k p q a b n m pw qw clear (inr h) e =
    apart_clash _ _ _ (denominator-areas p q a b) (clear (turn-place p q a b n m pw qw ∙ e) (inl (low_most k _ h.1, high_least k _ h.0))) (apart k _ _ h.0 h.1)
  where
    apart_clash : (k x y : ℤ) → k ≡ y -ℤ x → k ≡ pos 0 → x <ℤ y → ⊥
    apart_clash k x y e z h = omega (arith, ints)

inner_of : {p q a b c : Screen} {n m : ℤ} → IsClear p q a b c n m → IsInner n m
inner_of x = record { after = x.after; before = x.before }

high_case : (k : Side) {p q a b c : Screen} {n m n' m' before after ab ca : ℤ} → Scene p q a b c n m n' m'
    → IsHigh k (area_of p q a) → IsLow k (area_of p q b) → IsLow k (area_of p q c)
    → IsTally (Covers a b c (place_of p q n m)) before → IsTally (Covers a b c (place_of p q n' m')) after
    → IsTally (Crosses p q a b n m n' m') ab → IsTally (Crosses p q c a n m n' m') ca → after -ℤ before ≡ ab -ℤ ca
high_case k {p = p} {q = q} {a = a} {b = b} {c = c} {n = n} {m = m} {n' = n'} {m' = m'} s ha lb lc =
    high_change p q a b c n m n' m' s.pw s.qw (inner_of s.clear) (inner_of s.clear') s.order s.area_up s.unpierced
    (off k p q c a n m s.pw s.qw s.clear.ca (inr (ha, lc))) (off k p q a b n m s.pw s.qw s.clear.ab (inl (ha, lb)))
    (off k p q c a n' m' s.pw s.qw s.clear'.ca (inr (ha, lc))) (off k p q a b n' m' s.pw s.qw s.clear'.ab (inl (ha, lb)))
    (high_least k _ ha) (low_most k _ lb) (low_most k _ lc) (apart k _ _ ha lb) (apart k _ _ ha lc)

low_case : (k : Side) {p q a b c : Screen} {n m n' m' before after ab ca : ℤ} → Scene p q a b c n m n' m'
    → IsLow k (area_of p q a) → IsHigh k (area_of p q b) → IsHigh k (area_of p q c)
    → IsTally (Covers a b c (place_of p q n m)) before → IsTally (Covers a b c (place_of p q n' m')) after
    → IsTally (Crosses p q a b n m n' m') ab → IsTally (Crosses p q c a n m n' m') ca → after -ℤ before ≡ ca -ℤ ab
low_case k {p = p} {q = q} {a = a} {b = b} {c = c} {n = n} {m = m} {n' = n'} {m' = m'} s la hb hc =
    low_change p q a b c n m n' m' s.pw s.qw (inner_of s.clear) (inner_of s.clear') s.order s.area_up s.unpierced
    (off k p q c a n m s.pw s.qw s.clear.ca (inl (hc, la))) (off k p q a b n m s.pw s.qw s.clear.ab (inr (hb, la)))
    (off k p q c a n' m' s.pw s.qw s.clear'.ca (inl (hc, la))) (off k p q a b n' m' s.pw s.qw s.clear'.ab (inr (hb, la)))
    (low_most k _ la) (high_least k _ hb) (high_least k _ hc) (apart k _ _ hb la) (apart k _ _ hc la)

-- ---- no corner, or each, on one side
not_all : (x y z s t u w : ℤ) → pos 0 ≤ℤ x → pos 0 ≤ℤ y → pos 0 ≤ℤ z → pos 0 <ℤ s → pos 0 <ℤ t → pos 0 <ℤ u
    → ((x *ℤ s) +ℤ (y *ℤ t)) +ℤ (z *ℤ u) ≡ pos 0 → (x +ℤ y) +ℤ z ≡ w → pos 0 <ℤ w → ⊥
not_all x y z s t u w hx hy hz hs ht hu e whole some =
    let a = mul_nonneg x s hx (weak s hs) in
    let b = mul_nonneg y t hy (weak t ht) in
    let c = mul_nonneg z u hz (weak u hu) in
    by_lt_z (pos 0) x (λ h. first _ _ _ e (mul_pos x s h hs) b c)
    (λ i. by_lt_z (pos 0) y (λ h. second _ _ _ e a (mul_pos y t h ht) c)
    (λ j. by_lt_z (pos 0) z (λ h. third _ _ _ e a b (mul_pos z u h hu)) (λ k. rest _ _ _ _ whole some i j k)))
  where
    first : (a b c : ℤ) → (a +ℤ b) +ℤ c ≡ pos 0 → pos 0 <ℤ a → pos 0 ≤ℤ b → pos 0 ≤ℤ c → ⊥
    first a b c e p q r = omega (arith, ints)

    second : (a b c : ℤ) → (a +ℤ b) +ℤ c ≡ pos 0 → pos 0 ≤ℤ a → pos 0 <ℤ b → pos 0 ≤ℤ c → ⊥
    second a b c e p q r = omega (arith, ints)

    third : (a b c : ℤ) → (a +ℤ b) +ℤ c ≡ pos 0 → pos 0 ≤ℤ a → pos 0 ≤ℤ b → pos 0 <ℤ c → ⊥
    third a b c e p q r = omega (arith, ints)

    rest : (x y z w : ℤ) → (x +ℤ y) +ℤ z ≡ w → pos 0 <ℤ w → x ≤ℤ pos 0 → y ≤ℤ pos 0 → z ≤ℤ pos 0 → ⊥
    rest x y z w e h i j k = omega (arith, ints)

module _ {p q a b c : Screen} (n m : ℤ) (pw : p.w ≡ pos 1) (qw : q.w ≡ pos 1) (area_up : pos 0 <ℤ area_of a b c) (clear : IsClear p q a b c n m) where
  m_pos : pos 0 <ℤ m
  m_pos = inner_pos n m (inner_of clear)

  none_high : (k : Side) → IsHigh k (area_of p q a) → IsHigh k (area_of p q b) → IsHigh k (area_of p q c) → ¬ CountsAt k p q a b c n m
  none_high to_left ha hb hc x =
      let r = at_covers p q a b c n m pw qw m_pos area_up x.0 in
      not_all _ _ _ _ _ _ _ r.0 r.1 r.2 ha hb hc (on_line p q a b c n m pw qw) (whole p q a b c n m pw qw) (mul_pos m _ m_pos area_up)
  none_high to_right ha hb hc (v, inl s) = clash_neg _ ha s
  none_high to_right ha hb hc (v, inr (inl s)) = clash_neg _ hb s
  none_high to_right ha hb hc (v, inr (inr s)) = clash_neg _ hc s

  none_low : (k : Side) → IsLow k (area_of p q a) → IsLow k (area_of p q b) → IsLow k (area_of p q c) → ¬ CountsAt k p q a b c n m
  none_low to_right ha hb hc x =
      let r = at_covers p q a b c n m pw qw m_pos area_up x.0 in
      not_all (weight_a p q a b c n m pw qw) (weight_b p q a b c n m pw qw) (weight_c p q a b c n m pw qw) (pos 0 -ℤ area_of p q a) (pos 0 -ℤ area_of p q b) (pos 0 -ℤ area_of p q c) _
      r.0 r.1 r.2 (up _ ha) (up _ hb) (up _ hc)
      (ring (weight_a p q a b c n m pw qw ∷ weight_b p q a b c n m pw qw ∷ weight_c p q a b c n m pw qw ∷ area_of p q a ∷ area_of p q b ∷ area_of p q c ∷ [])
      (((var 0 ⊗ (Zero ⊖ var 3)) ⊕ (var 1 ⊗ (Zero ⊖ var 4))) ⊕ (var 2 ⊗ (Zero ⊖ var 5))) (Zero ⊖ (((var 0 ⊗ var 3) ⊕ (var 1 ⊗ var 4)) ⊕ (var 2 ⊗ var 5))) refl
      ∙ ap (λ v. pos 0 -ℤ v) (on_line p q a b c n m pw qw))
      (whole p q a b c n m pw qw) (mul_pos m _ m_pos area_up)
  none_low to_left ha hb hc (v, inl s) = clash _ s ha
  none_low to_left ha hb hc (v, inr (inl s)) = clash _ s hb
  none_low to_left ha hb hc (v, inr (inr s)) = clash _ s hc

pub none_tally : {P : Type 0} {z : ℤ} → ¬ P → IsTally P z → z ≡ pos 0
none_tally n (yes p) = absurd (n p)
none_tally n (no p) = refl

-- ---- a face that is turned to the viewer
abbrev pub shares : ℤ → ℤ → ℤ → ℤ → ℤ → ℤ → ℤ → ℤ
shares sign x y z ab bc ca = (((sign *ℤ (x -ℤ y)) *ℤ ab) +ℤ ((sign *ℤ (y -ℤ z)) *ℤ bc)) +ℤ ((sign *ℤ (z -ℤ x)) *ℤ ca)

module _ (k : Side) {p q a b c : Screen} {n m n' m' : ℤ} (s : Scene p q a b c n m n' m') where
  same_ab : (r ab bc ca : ℤ) → r ≡ ab -ℤ ca → r ≡ shares (pos 1) (pos 1) (pos 0) (pos 0) ab bc ca
  same_ab r ab bc ca e = omega (arith, ints)

  same_bc : (r ab bc ca : ℤ) → r ≡ bc -ℤ ab → r ≡ shares (pos 1) (pos 0) (pos 1) (pos 0) ab bc ca
  same_bc r ab bc ca e = omega (arith, ints)

  same_ca : (r ab bc ca : ℤ) → r ≡ ca -ℤ bc → r ≡ shares (pos 1) (pos 0) (pos 0) (pos 1) ab bc ca
  same_ca r ab bc ca e = omega (arith, ints)

  back_ab : (r ab bc ca : ℤ) → r ≡ ca -ℤ ab → r ≡ shares (pos 1) (pos 0) (pos 1) (pos 1) ab bc ca
  back_ab r ab bc ca e = omega (arith, ints)

  back_bc : (r ab bc ca : ℤ) → r ≡ ab -ℤ bc → r ≡ shares (pos 1) (pos 1) (pos 0) (pos 1) ab bc ca
  back_bc r ab bc ca e = omega (arith, ints)

  back_ca : (r ab bc ca : ℤ) → r ≡ bc -ℤ ca → r ≡ shares (pos 1) (pos 1) (pos 1) (pos 0) ab bc ca
  back_ca r ab bc ca e = omega (arith, ints)

  nothing_high : (x y ab bc ca : ℤ) → x ≡ pos 0 → y ≡ pos 0 → y -ℤ x ≡ shares (pos 1) (pos 1) (pos 1) (pos 1) ab bc ca
  nothing_high x y ab bc ca e h = omega (arith, ints)

  nothing_low : (x y ab bc ca : ℤ) → x ≡ pos 0 → y ≡ pos 0 → y -ℤ x ≡ shares (pos 1) (pos 0) (pos 0) (pos 0) ab bc ca
  nothing_low x y ab bc ca e h = omega (arith, ints)

  -- with a corner on the side, a face counts where it covers
  covers_tally : (n m : ℤ) {z : ℤ} → (IsOnSide k p q a ⊎ IsOnSide k p q b ⊎ IsOnSide k p q c) → IsTally (CountsAt k p q a b c n m) z → IsTally (Covers a b c (place_of p q n m)) z
  covers_tally n m side = tally_of (λ x. x.0) (λ v. (v, side))

  once : (n m : ℤ) {z : ℤ} → IsTally (Covers a b c (place_of p q n m)) z → IsTally (Covers b c a (place_of p q n m)) z
  once n m = tally_of (λ x. covers_rotate b c a (place_of p q n m) (covers_rotate c a b (place_of p q n m) x)) (covers_rotate a b c (place_of p q n m))

  twice : (n m : ℤ) {z : ℤ} → IsTally (Covers a b c (place_of p q n m)) z → IsTally (Covers c a b (place_of p q n m)) z
  twice n m = tally_of (covers_rotate c a b (place_of p q n m)) (λ x. covers_rotate a b c (place_of p q n m) (covers_rotate b c a (place_of p q n m) x))

  side_ab : IsOnSide k p q a ⊎ IsOnSide k p q b → IsOnSide k p q a ⊎ IsOnSide k p q b ⊎ IsOnSide k p q c
  side_ab (inl h) = inl h
  side_ab (inr h) = inr (inl h)

  side_ba : IsOnSide k p q b ⊎ IsOnSide k p q a → IsOnSide k p q a ⊎ IsOnSide k p q b ⊎ IsOnSide k p q c
  side_ba (inl h) = inr (inl h)
  side_ba (inr h) = inl h

  side_ca : IsOnSide k p q c ⊎ IsOnSide k p q a → IsOnSide k p q a ⊎ IsOnSide k p q b ⊎ IsOnSide k p q c
  side_ca (inl h) = inr (inr h)
  side_ca (inr h) = inl h

  side_ac : IsOnSide k p q a ⊎ IsOnSide k p q c → IsOnSide k p q a ⊎ IsOnSide k p q b ⊎ IsOnSide k p q c
  side_ac (inl h) = inl h
  side_ac (inr h) = inr (inr h)

  pub front_face : {x y z before after ab bc ca : ℤ} → Stands k (area_of p q a) x → Stands k (area_of p q b) y → Stands k (area_of p q c) z
      → IsTally (CountsAt k p q a b c n m) before → IsTally (CountsAt k p q a b c n' m') after
      → IsTally (Crosses p q a b n m n' m') ab → IsTally (Crosses p q b c n m n' m') bc → IsTally (Crosses p q c a n m n' m') ca
      → after -ℤ before ≡ shares (pos 1) x y z ab bc ca
  front_face {ab = i} {bc = j} {ca = l} (high ha) (high hb) (high hc) t t' ab bc ca =
      nothing_high _ _ i j l (none_tally (none_high n m s.pw s.qw s.area_up s.clear k ha hb hc) t) (none_tally (none_high n' m' s.pw s.qw s.area_up s.clear' k ha hb hc) t')
  front_face {ab = i} {bc = j} {ca = l} (low la) (low lb) (low lc) t t' ab bc ca =
      nothing_low _ _ i j l (none_tally (none_low n m s.pw s.qw s.area_up s.clear k la lb lc) t) (none_tally (none_low n' m' s.pw s.qw s.area_up s.clear' k la lb lc) t')
  front_face {ab = i} {bc = j} {ca = l} (high ha) (low lb) (low lc) t t' ab bc ca =
      let side = side_ab (on_side k p q a b ha lb) in
      same_ab _ i j l (high_case k s ha lb lc (covers_tally n m side t) (covers_tally n' m' side t') ab ca)
  front_face {ab = i} {bc = j} {ca = l} (low la) (high hb) (low lc) t t' ab bc ca =
      let side = side_ba (on_side k p q b a hb la) in
      same_bc _ i j l (high_case k (scene_rotate s) hb lc la (once n m (covers_tally n m side t)) (once n' m' (covers_tally n' m' side t')) bc ab)
  front_face {ab = i} {bc = j} {ca = l} (low la) (low lb) (high hc) t t' ab bc ca =
      let side = side_ca (on_side k p q c a hc la) in
      same_ca _ i j l (high_case k (scene_rotate (scene_rotate s)) hc la lb (twice n m (covers_tally n m side t)) (twice n' m' (covers_tally n' m' side t')) ca bc)
  front_face {ab = i} {bc = j} {ca = l} (low la) (high hb) (high hc) t t' ab bc ca =
      let side = side_ba (on_side k p q b a hb la) in
      back_ab _ i j l (low_case k s la hb hc (covers_tally n m side t) (covers_tally n' m' side t') ab ca)
  front_face {ab = i} {bc = j} {ca = l} (high ha) (low lb) (high hc) t t' ab bc ca =
      let side = side_ab (on_side k p q a b ha lb) in
      back_bc _ i j l (low_case k (scene_rotate s) lb hc ha (once n m (covers_tally n m side t)) (once n' m' (covers_tally n' m' side t')) bc ab)
  front_face {ab = i} {bc = j} {ca = l} (high ha) (high hb) (low lc) t t' ab bc ca =
      let side = side_ac (on_side k p q a c ha lc) in
      back_ca _ i j l (low_case k (scene_rotate (scene_rotate s)) lc ha hb (twice n m (covers_tally n m side t)) (twice n' m' (covers_tally n' m' side t')) ca bc)

-- ---- a face that is turned away is one turned to the viewer, with its sides reversed
swapped_sum : (x y z : ℤ) → (x +ℤ y) +ℤ z ≡ (x +ℤ z) +ℤ y
swapped_sum x y z = omega (arith, ints)

pub touches_swap : (a b c p : Screen) → Touches a c b p → Touches a b c p
touches_swap a b c p t =
    let e = swapped_sum t.i t.k t.j in record {
      i = t.i;
      j = t.k;
      k = t.j;
      i_least = t.i_least;
      j_least = t.k_least;
      k_least = t.j_least;
      some = positive_at _ _ e t.some;
      same_u = ap (λ v. v *ℤ p.w) (swapped_sum (t.i *ℤ a.u) (t.k *ℤ b.u) (t.j *ℤ c.u)) ∙ t.same_u ∙ ap (λ v. p.u *ℤ v) (sym e);
      same_v = ap (λ v. v *ℤ p.w) (swapped_sum (t.i *ℤ a.v) (t.k *ℤ b.v) (t.j *ℤ c.v)) ∙ t.same_v ∙ ap (λ v. p.v *ℤ v) (sym e);
      same_h = ap (λ v. v *ℤ p.w) (swapped_sum (t.i *ℤ a.h) (t.k *ℤ b.h) (t.j *ℤ c.h)) ∙ t.same_h ∙ ap (λ v. p.h *ℤ v) (sym e);
    }

pub covers_swap : (a b c p : Screen) → Covers a c b p → Covers a b c p
covers_swap a b c p t =
    let e = swapped_sum t.i t.k t.j in record {
      i = t.i;
      j = t.k;
      k = t.j;
      i_least = t.i_least;
      j_least = t.k_least;
      k_least = t.j_least;
      some = positive_at _ _ e t.some;
      same_u = ap (λ v. v *ℤ p.w) (swapped_sum (t.i *ℤ a.u) (t.k *ℤ b.u) (t.j *ℤ c.u)) ∙ t.same_u ∙ ap (λ v. p.u *ℤ v) (sym e);
      same_v = ap (λ v. v *ℤ p.w) (swapped_sum (t.i *ℤ a.v) (t.k *ℤ b.v) (t.j *ℤ c.v)) ∙ t.same_v ∙ ap (λ v. p.v *ℤ v) (sym e);
      nearer = less_at _ _ _ _ (ap (λ v. p.h *ℤ v) e) (ap (λ v. v *ℤ p.w) (swapped_sum (t.i *ℤ a.h) (t.k *ℤ b.h) (t.j *ℤ c.h))) t.nearer;
    }

pub counts_swap : (k : Side) (p q a b c : Screen) (n m : ℤ) → CountsAt k p q a c b n m → CountsAt k p q a b c n m
counts_swap k p q a b c n m (v, inl h) = (covers_swap a b c (place_of p q n m) v, inl h)
counts_swap k p q a b c n m (v, inr (inl h)) = (covers_swap a b c (place_of p q n m) v, inr (inr h))
counts_swap k p q a b c n m (v, inr (inr h)) = (covers_swap a b c (place_of p q n m) v, inr (inl h))

pub turn-reverse : (x a b : Screen) → turn_of x b a ≡ pos 0 -ℤ turn_of x a b
turn-reverse x a b =
    ring (x.u ∷ x.v ∷ x.w ∷ a.u ∷ a.v ∷ b.u ∷ b.v ∷ [])
    (((var 0 ⊗ (var 6 ⊖ var 4)) ⊖ (var 1 ⊗ (var 5 ⊖ var 3))) ⊕ (var 2 ⊗ ((var 5 ⊗ var 4) ⊖ (var 3 ⊗ var 6))))
    (Zero ⊖ (((var 0 ⊗ (var 4 ⊖ var 6)) ⊖ (var 1 ⊗ (var 3 ⊖ var 5))) ⊕ (var 2 ⊗ ((var 3 ⊗ var 6) ⊖ (var 5 ⊗ var 4))))) refl

clear_of_reverse : (p q a b : Screen) (n m : ℤ) → IsClearOf p q a b n m → IsClearOf p q b a n m
clear_of_reverse p q a b n m f e (inl h) = denominator-reverse p q a b ∙ zero_of _ (f (zero_at _ _ (turn-reverse (place_of p q n m) a b) e) (inr h))
  where
    zero_at : (x y : ℤ) → x ≡ pos 0 -ℤ y → x ≡ pos 0 → y ≡ pos 0
    zero_at x y e h = omega (arith, ints)

    zero_of : (y : ℤ) → y ≡ pos 0 → pos 0 -ℤ y ≡ pos 0
    zero_of y h = omega (arith, ints)
clear_of_reverse p q a b n m f e (inr h) = denominator-reverse p q a b ∙ zero_of _ (f (zero_at _ _ (turn-reverse (place_of p q n m) a b) e) (inl h))
  where
    zero_at : (x y : ℤ) → x ≡ pos 0 -ℤ y → x ≡ pos 0 → y ≡ pos 0
    zero_at x y e h = omega (arith, ints)

    zero_of : (y : ℤ) → y ≡ pos 0 → pos 0 -ℤ y ≡ pos 0
    zero_of y h = omega (arith, ints)

clear_swap : (p q a b c : Screen) (n m : ℤ) → IsClear p q a b c n m → IsClear p q a c b n m
clear_swap p q a b c n m x = record {
  after = x.after;
  before = x.before;
  ab = clear_of_reverse p q c a n m x.ca;
  bc = clear_of_reverse p q b c n m x.bc;
  ca = clear_of_reverse p q a b n m x.ab;
}

pub area-swap : (a b c : Screen) → area_of a c b ≡ pos 0 -ℤ area_of a b c
area-swap a b c = ring (flat_values a a a b c (pos 0) (pos 0)) (area A C B) (Zero ⊖ area A B C) refl

pub reverse_tally : (p q a b : Screen) (n m n' m' : ℤ) {z : ℤ} → IsTally (Crosses p q a b n m n' m') z → IsTally (Crosses p q b a n m n' m') z
reverse_tally p q a b n m n' m' = tally_of (crosses_reverse p q a b n m n' m') (crosses_reverse p q b a n m n' m')

shares-swap : (x y z ab bc ca : ℤ) → shares (pos 1) x z y ca bc ab ≡ shares (negsuc 0) x y z ab bc ca
shares-swap x y z ab bc ca =
    let one = con (pos 1) in let less = con (negsuc 0) in
    ring (x ∷ y ∷ z ∷ ab ∷ bc ∷ ca ∷ [])
    ((((one ⊗ (var 0 ⊖ var 2)) ⊗ var 5) ⊕ ((one ⊗ (var 2 ⊖ var 1)) ⊗ var 4)) ⊕ ((one ⊗ (var 1 ⊖ var 0)) ⊗ var 3))
    ((((less ⊗ (var 0 ⊖ var 1)) ⊗ var 3) ⊕ ((less ⊗ (var 1 ⊖ var 2)) ⊗ var 4)) ⊕ ((less ⊗ (var 2 ⊖ var 0)) ⊗ var 5)) refl

pub one_face : OneFaceLaw
one_face k p q a b c sign n m n' m' before after ab bc ca pw qw (edge_on z) some order clear clear' unpierced t t' x y w = absurd (some z)
one_face k p q a b c sign n m n' m' before after ab bc ca pw qw (front up) some order clear clear' unpierced t t' x y z =
    front_face k {p = p} {q = q} {a = a} {b = b} {c = c} {n = n} {m = m} {n' = n'} {m' = m'} record { pw = pw; qw = qw; order = order; area_up = up; clear = clear; clear' = clear'; unpierced = unpierced }
    (stands k _) (stands k _) (stands k _) t t' x y z
one_face k p q a b c sign n m n' m' before after ab bc ca pw qw (back down) some order clear clear' unpierced t t' x y z =
    front_face k {p = p} {q = q} {a = a} {b = c} {c = b} {n = n} {m = m} {n' = n'} {m' = m'} record {
      pw = pw;
      qw = qw;
      order = order;
      area_up = positive_at _ _ (area-swap a b c) (up _ down);
      clear = clear_swap p q a b c n m clear;
      clear' = clear_swap p q a b c n' m' clear';
      unpierced = λ n m h k t. unpierced n m h k (touches_swap a b c (place_of p q n m) t);
    }
    (stands k _) (stands k _) (stands k _)
    (tally_of (counts_swap k p q a c b n m) (counts_swap k p q a b c n m) t) (tally_of (counts_swap k p q a c b n' m') (counts_swap k p q a b c n' m') t')
    (reverse_tally p q c a n m n' m' z) (reverse_tally p q b c n m n' m' y) (reverse_tally p q a b n m n' m' x)
    ∙ shares-swap (mark k (area_of p q a)) (mark k (area_of p q b)) (mark k (area_of p q c)) ab bc ca
