-- A face next to a corner that it does not have.
use Rattle.std.proofs.Common.{◌≡◌, ◌⊎◌, inl, inr, [], ◌∷◌, refl, sym, ap, ◌∙◌, arith}
use Rattle.std.specs.Prelude.{ℤ, pos, ◌+ℤ◌, ◌-ℤ◌, ◌*ℤ◌, ◌≤ℤ◌, ◌<ℤ◌}
use Rattle.std.proofs.lemmas.Int.{ints, by_lt_z}
use Rattle.integers.proofs.Comparisons.{positive_at, not_negative_at}
use Rattle.hiding_laws.proofs.ScreenSides.{pos_of_least, length_least, length_zero}
use Rattle.hiding_laws.proofs.Screens.{lead_of, Screen, area_of, turn_of, length_of}
use Rattle.hiding_laws.specs.Values.{value_at}
use Rattle.integers.proofs.Ring.{Expr, var, con, ◌⊕◌, ◌⊖◌, ◌⊗◌, ring, by_two, gap_of_less}
use Rattle.integers.proofs.Signs.{mul_pos, mul_nonneg, mul_nonpos, pos_of_mul, nonneg_of_mul, zero_of_mul}
use Rattle.geometry.specs.Counts.{Side, to_left, to_right}
use Rattle.hiding_laws.proofs.Shares.{IsOnSide, CountsAt, Touches}
use Rattle.geometry.specs.Turns.{turn_from, product_of, perturbed}
use Rattle.hiding_laws.proofs.CornerLaws.{way, IsBelow, IsFine, IsNear, IsWithin, IsOverWay, NearLaw}
use Rattle.hiding_laws.proofs.ScreenLetters.{ScreenPoint, area, turn}
use Rattle.hiding_laws.proofs.EdgeScreenLetters.{P, Q, A, B, C, Zero, flat_values}
use Rattle.hiding_laws.proofs.Signs.{weak, up, sum_pos, sum_nonneg, clash, clash_neg, clash_zero, clash_both, pos_of_mul_pos}
use Rattle.hiding_laws.proofs.Faces.{on_line, covers_at, at_covers}
use Rattle.hiding_laws.proofs.Touch.{touches}
use Rattle.hiding_laws.proofs.InLine.{in_line}
use Rattle.hiding_laws.proofs.Lone.{area-rotate}

-- ---- the sign near the start of what goes evenly
module _ (f g k n m : ℤ) (near : IsNear k n m) where
  pub near_pos : pos 0 <ℤ f → (pos 0 -ℤ k) <ℤ g → pos 0 <ℤ value_at f g n m
  near_pos h l =
      positive_at _ _
      (ring (f ∷ g ∷ k ∷ n ∷ m ∷ [])
      (((var 4 ⊖ var 3) ⊗ var 0) ⊕ (var 3 ⊗ var 1))
      ((((var 4 ⊖ var 3) ⊗ (var 0 ⊖ con (pos 1))) ⊕ (var 3 ⊗ ((var 2 ⊕ var 1) ⊖ con (pos 1)))) ⊕ (var 4 ⊖ (var 3 ⊗ var 2))) refl)
      (sum_pos _ _ (sum_nonneg _ _ (mul_nonneg _ _ (weak _ (gap_of_less n m near.before)) (one_less f h)) (mul_nonneg _ _ (weak n near.after) (rest k g l))) (gap_of_less _ _ near.near))
    where
      one_less : (x : ℤ) → pos 0 <ℤ x → pos 0 ≤ℤ (x -ℤ pos 1)
      one_less x h = omega (arith, ints)

      rest : (k g : ℤ) → (pos 0 -ℤ k) <ℤ g → pos 0 ≤ℤ ((k +ℤ g) -ℤ pos 1)
      rest k g h = omega (arith, ints)

  pub near_zero : f ≡ pos 0 → value_at f g n m ≡ n *ℤ g
  near_zero e = ap (λ v. ((m -ℤ n) *ℤ v) +ℤ (n *ℤ g)) e ∙ ring (m ∷ n ∷ g ∷ []) (((var 0 ⊖ var 1) ⊗ con (pos 0)) ⊕ (var 1 ⊗ var 2)) (var 1 ⊗ var 2) refl

pub near_neg : (f g k n m : ℤ) → IsNear k n m → f <ℤ pos 0 → g <ℤ k → value_at f g n m <ℤ pos 0
near_neg f g k n m near h l =
    turned _ (positive_at _ _ (ring (f ∷ g ∷ n ∷ m ∷ []) (con (pos 0) ⊖ (((var 3 ⊖ var 2) ⊗ var 0) ⊕ (var 2 ⊗ var 1))) (((var 3 ⊖ var 2) ⊗ (con (pos 0) ⊖ var 0)) ⊕ (var 2 ⊗ (con (pos 0) ⊖ var 1))) refl)
    (near_pos (pos 0 -ℤ f) (pos 0 -ℤ g) k n m near (up f h) (flip k g l)))
  where
    turned : (x : ℤ) → pos 0 <ℤ (pos 0 -ℤ x) → x <ℤ pos 0
    turned x h = omega (arith, ints)

    flip : (k g : ℤ) → g <ℤ k → (pos 0 -ℤ k) <ℤ (pos 0 -ℤ g)
    flip k g h = omega (arith, ints)

-- ---- the count's side, by one number
abbrev pub tilt : Side → ℤ → ℤ
tilt to_left z = z
tilt to_right z = pos 0 -ℤ z

side_of : (k : Side) (p q c : Screen) → pos 0 <ℤ tilt k (area_of p q c) → IsOnSide k p q c
side_of to_left p q c h = h
side_of to_right p q c h = omega (arith, ints)

of_side : (k : Side) (p q c : Screen) → IsOnSide k p q c → pos 0 <ℤ tilt k (area_of p q c)
of_side to_left p q c h = h
of_side to_right p q c h = omega (arith, ints)

tilt_zero : (k : Side) (z : ℤ) → z ≡ pos 0 → tilt k z ≡ pos 0
tilt_zero to_left z e = e
tilt_zero to_right z e = omega (arith, ints)

tilt_back : (k : Side) (z : ℤ) → tilt k z ≡ pos 0 → z ≡ pos 0
tilt_back to_left z e = e
tilt_back to_right z e = omega (arith, ints)

tilt_below : (c : Side) (k z : ℤ) → IsBelow k z → IsBelow k (tilt c z)
tilt_below to_left k z h = h
tilt_below to_right k z h = let a = h.least in let b = h.most in record { least = omega (arith, ints); most = omega (arith, ints) }

tilt_sum : (k : Side) (x y z s t u : ℤ) → ((x *ℤ s) +ℤ (y *ℤ t)) +ℤ (z *ℤ u) ≡ pos 0 → ((x *ℤ tilt k s) +ℤ (y *ℤ tilt k t)) +ℤ (z *ℤ tilt k u) ≡ pos 0
tilt_sum to_left x y z s t u e = e
tilt_sum to_right x y z s t u e =
    ring (x ∷ y ∷ z ∷ s ∷ t ∷ u ∷ []) (((var 0 ⊗ (Zero ⊖ var 3)) ⊕ (var 1 ⊗ (Zero ⊖ var 4))) ⊕ (var 2 ⊗ (Zero ⊖ var 5))) (Zero ⊖ (((var 0 ⊗ var 3) ⊕ (var 1 ⊗ var 4)) ⊕ (var 2 ⊗ var 5))) refl
    ∙ ap (λ v. pos 0 -ℤ v) e

-- ---- one side
module _ (c : Side) (o q a b : Screen) (k : ℤ) (ow : o.w ≡ pos 1) (qw : q.w ≡ pos 1) where
  abbrev F : ℤ
  F = turn_of o a b

  abbrev G : ℤ
  G = turn_of q a b

  abbrev T : ℤ
  T = turn_from (way a b) (perturbed c k (way o q))

  abbrev pub E : ℤ
  E = tilt c (product_of (way a b) (way o q))

  climbs : G -ℤ F ≡ turn_from (way a b) (way o q)
  climbs =
      (λ t. turn_of record { u = q.u; v = q.v; h = q.h; w = qw t } a b -ℤ turn_of record { u = o.u; v = o.v; h = o.h; w = ow t } a b)
      ∙ ring (flat_values o q a b a (pos 0) (pos 0)) (turn Q A B ⊖ turn P A B) (((B.u ⊖ A.u) ⊗ (Q.v ⊖ P.v)) ⊖ ((B.v ⊖ A.v) ⊗ (Q.u ⊖ P.u))) refl

  -- how the perturbed way turns from the side
  turn_is : T ≡ (k *ℤ (G -ℤ F)) +ℤ E
  turn_is = leans c ∙ sym (ap (λ v. (k *ℤ v) +ℤ E) climbs)
    where
      leans : (c : Side) → turn_from (way a b) (perturbed c k (way o q)) ≡ (k *ℤ turn_from (way a b) (way o q)) +ℤ tilt c (product_of (way a b) (way o q))
      leans to_left =
          ring (k ∷ (way a b).u ∷ (way a b).v ∷ (way o q).u ∷ (way o q).v ∷ [])
          ((var 1 ⊗ ((var 0 ⊗ var 4) ⊕ var 3)) ⊖ (var 2 ⊗ ((var 0 ⊗ var 3) ⊖ var 4)))
          ((var 0 ⊗ ((var 1 ⊗ var 4) ⊖ (var 2 ⊗ var 3))) ⊕ ((var 1 ⊗ var 3) ⊕ (var 2 ⊗ var 4))) refl
      leans to_right =
          ring (k ∷ (way a b).u ∷ (way a b).v ∷ (way o q).u ∷ (way o q).v ∷ [])
          ((var 1 ⊗ ((var 0 ⊗ var 4) ⊖ var 3)) ⊖ (var 2 ⊗ ((var 0 ⊗ var 3) ⊕ var 4)))
          ((var 0 ⊗ ((var 1 ⊗ var 4) ⊖ (var 2 ⊗ var 3))) ⊕ (con (pos 0) ⊖ ((var 1 ⊗ var 3) ⊕ (var 2 ⊗ var 4)))) refl

  at_zero : F ≡ pos 0 → T ≡ (k *ℤ G) +ℤ E
  at_zero e = turn_is ∙ ap (λ v. (k *ℤ v) +ℤ E) (less G F e)
    where
      less : (x y : ℤ) → y ≡ pos 0 → x -ℤ y ≡ x
      less x y e = omega (arith, ints)

  module _ (fine : IsFine o q a b k) where
    k_pos : pos 0 <ℤ k
    k_pos = let f = fine.turn in of_below k _ f.least f.most
      where
        of_below : (k z : ℤ) → (pos 0 -ℤ k) <ℤ z → z <ℤ k → pos 0 <ℤ k
        of_below k z h l = omega (arith, ints)

    e_below : IsBelow k E
    e_below = tilt_below c k _ fine.product

    -- a way to the inner side does not go out
    not_out : F ≡ pos 0 → pos 0 <ℤ T → pos 0 ≤ℤ G
    not_out e h =
        by_lt_z G (pos 0)
        (λ low. absurd (drop (k *ℤ G) E k (past k G k_pos low) e_below.most (positive_at _ _ (sym (at_zero e)) h)))
        (λ r. r)
      where
        -- k times a number below 0 is at most -k
        past : (k g : ℤ) → pos 0 <ℤ k → g <ℤ pos 0 → (k *ℤ g) ≤ℤ (pos 0 -ℤ k)
        past k g h l = turned k (k *ℤ g) (k *ℤ ((pos 0 -ℤ g) -ℤ pos 1)) (mul_nonneg k ((pos 0 -ℤ g) -ℤ pos 1) (weak k h) (one g l)) (ring (k ∷ g ∷ []) (var 0 ⊗ ((con (pos 0) ⊖ var 1) ⊖ con (pos 1))) ((con (pos 0) ⊖ (var 0 ⊗ var 1)) ⊖ var 0) refl)
          where
            one : (g : ℤ) → g <ℤ pos 0 → pos 0 ≤ℤ ((pos 0 -ℤ g) -ℤ pos 1)
            one g l = omega (arith, ints)

            turned : (k x y : ℤ) → pos 0 ≤ℤ y → y ≡ (pos 0 -ℤ x) -ℤ k → x ≤ℤ (pos 0 -ℤ k)
            turned k x y h e = omega (arith, ints)

        drop : (x e k : ℤ) → x ≤ℤ (pos 0 -ℤ k) → e <ℤ k → pos 0 <ℤ (x +ℤ e) → ⊥
        drop x e k h l n = omega (arith, ints)

    inward : F ≡ pos 0 → pos 0 <ℤ G → pos 0 <ℤ T
    inward e h = positive_at _ _ (at_zero e) (rise (k *ℤ G) E k (past k G k_pos h) e_below.least)
      where
        past : (k g : ℤ) → pos 0 <ℤ k → pos 0 <ℤ g → k ≤ℤ (k *ℤ g)
        past k g h l = turned k (k *ℤ g) (k *ℤ (g -ℤ pos 1)) (mul_nonneg k (g -ℤ pos 1) (weak k h) (one g l)) (ring (k ∷ g ∷ []) (var 0 ⊗ (var 1 ⊖ con (pos 1))) ((var 0 ⊗ var 1) ⊖ var 0) refl)
          where
            one : (g : ℤ) → pos 0 <ℤ g → pos 0 ≤ℤ (g -ℤ pos 1)
            one g l = omega (arith, ints)

            turned : (k x y : ℤ) → pos 0 ≤ℤ y → y ≡ x -ℤ k → k ≤ℤ x
            turned k x y h e = omega (arith, ints)

        rise : (x e k : ℤ) → k ≤ℤ x → (pos 0 -ℤ k) <ℤ e → pos 0 <ℤ (x +ℤ e)
        rise x e k h l = omega (arith, ints)

    beside : F ≡ pos 0 → G ≡ pos 0 → T ≡ E
    beside e f = at_zero e ∙ ap (λ v. (k *ℤ v) +ℤ E) f ∙ none k E
      where
        none : (k e : ℤ) → (k *ℤ pos 0) +ℤ e ≡ e
        none k e = ring (k ∷ e ∷ []) ((var 0 ⊗ con (pos 0)) ⊕ var 1) (var 1) refl

-- ---- a side that the edge runs along
module _ (o q a b d : Screen) (ow : o.w ≡ pos 1) (qw : q.w ≡ pos 1) (e : turn_of o a b ≡ pos 0) (f : turn_of q a b ≡ pos 0) where
  -- the third corner's distance and the side's way go together
  along_side : product_of (way a b) (way o q) *ℤ area_of a b d ≡ length_of a b *ℤ area_of o q d
  along_side =
      by_two _ _ _ _ (product_of (way a b) (way o q) -ℤ product_of (way a b) (way o d)) _ _ (product_of (way a b) (way o d))
      ((λ t.
      let x : Screen = record { u = o.u; v = o.v; h = o.h; w = ow t } in
      let y : Screen = record { u = q.u; v = q.v; h = q.h; w = qw t } in
      (product_of (way a b) (way o q) *ℤ area_of a b d) -ℤ (length_of a b *ℤ area_of o q d))
      ∙ ring (flat_values o q a b d (pos 0) (pos 0))
      ((prod A B P Q ⊗ area A B C) ⊖ (prod A B A B ⊗ area P Q C))
      (((turn P A B ⊖ Zero) ⊗ (prod A B P Q ⊖ prod A B P C)) ⊕ ((turn Q A B ⊖ Zero) ⊗ prod A B P C)) refl
      ∙ (λ t.
      let x : Screen = record { u = o.u; v = o.v; h = o.h; w = sym ow t } in
      let y : Screen = record { u = q.u; v = q.v; h = q.h; w = sym qw t } in
      ((turn_of x a b -ℤ pos 0) *ℤ (product_of (way a b) (way o q) -ℤ product_of (way a b) (way o d))) +ℤ ((turn_of y a b -ℤ pos 0) *ℤ product_of (way a b) (way o d)))) e f
    where
      prod : ScreenPoint → ScreenPoint → ScreenPoint → ScreenPoint → Expr
      prod a b c d = ((b.u ⊖ a.u) ⊗ (d.u ⊖ c.u)) ⊕ ((b.v ⊖ a.v) ⊗ (d.v ⊖ c.v))

  tilt_along : (c : Side) → tilt c (product_of (way a b) (way o q)) *ℤ area_of a b d ≡ length_of a b *ℤ tilt c (area_of o q d)
  tilt_along to_left = along_side
  tilt_along to_right =
      ring (product_of (way a b) (way o q) ∷ area_of a b d ∷ []) ((Zero ⊖ var 0) ⊗ var 1) (Zero ⊖ (var 0 ⊗ var 1)) refl
      ∙ ap (λ v. pos 0 -ℤ v) along_side
      ∙ ring (length_of a b ∷ area_of o q d ∷ []) (Zero ⊖ (var 0 ⊗ var 1)) (var 0 ⊗ (Zero ⊖ var 1)) refl

  -- its own corners are on the edge's line
  on_edge_a : area_of a b d *ℤ area_of o q a ≡ pos 0
  on_edge_a =
      by_two _ _ _ _ (pos 0 -ℤ turn_of q d a) _ _ (turn_of o d a)
      ((λ t.
      let x : Screen = record { u = o.u; v = o.v; h = o.h; w = ow t } in
      let y : Screen = record { u = q.u; v = q.v; h = q.h; w = qw t } in
      (area_of a b d *ℤ area_of o q a) -ℤ pos 0)
      ∙ ring (flat_values o q a b d (pos 0) (pos 0))
      ((area A B C ⊗ area P Q A) ⊖ Zero)
      (((turn P A B ⊖ Zero) ⊗ (Zero ⊖ turn Q C A)) ⊕ ((turn Q A B ⊖ Zero) ⊗ turn P C A)) refl
      ∙ (λ t.
      let x : Screen = record { u = o.u; v = o.v; h = o.h; w = sym ow t } in
      let y : Screen = record { u = q.u; v = q.v; h = q.h; w = sym qw t } in
      ((turn_of x a b -ℤ pos 0) *ℤ (pos 0 -ℤ turn_of y d a)) +ℤ ((turn_of y a b -ℤ pos 0) *ℤ turn_of x d a))) e f

  on_edge_b : area_of a b d *ℤ area_of o q b ≡ pos 0
  on_edge_b =
      by_two _ _ _ _ (turn_of q b d) _ _ (pos 0 -ℤ turn_of o b d)
      ((λ t.
      let x : Screen = record { u = o.u; v = o.v; h = o.h; w = ow t } in
      let y : Screen = record { u = q.u; v = q.v; h = q.h; w = qw t } in
      (area_of a b d *ℤ area_of o q b) -ℤ pos 0)
      ∙ ring (flat_values o q a b d (pos 0) (pos 0))
      ((area A B C ⊗ area P Q B) ⊖ Zero)
      (((turn P A B ⊖ Zero) ⊗ turn Q B C) ⊕ ((turn Q A B ⊖ Zero) ⊗ (Zero ⊖ turn P B C))) refl
      ∙ (λ t.
      let x : Screen = record { u = o.u; v = o.v; h = o.h; w = sym ow t } in
      let y : Screen = record { u = q.u; v = q.v; h = q.h; w = sym qw t } in
      ((turn_of x a b -ℤ pos 0) *ℤ turn_of y b d) +ℤ ((turn_of y a b -ℤ pos 0) *ℤ (pos 0 -ℤ turn_of x b d)))) e f

-- ---- one side, from the places and back
pub long_of : (a b d : Screen) → pos 0 <ℤ area_of a b d → pos 0 <ℤ length_of a b
long_of a b d up = pos_of_least _ (length_least a b) (λ e. let s = length_zero a b e in clash_zero _ up (flat s.0 s.1))
  where
    flat : a.u ≡ b.u → a.v ≡ b.v → area_of a b d ≡ pos 0
    flat s s' = (λ t. ((sym s t -ℤ a.u) *ℤ (d.v -ℤ a.v)) -ℤ ((sym s' t -ℤ a.v) *ℤ (d.u -ℤ a.u))) ∙ ring (a.u ∷ a.v ∷ d.u ∷ d.v ∷ []) (((var 0 ⊖ var 0) ⊗ (var 3 ⊖ var 1)) ⊖ ((var 1 ⊖ var 1) ⊗ (var 2 ⊖ var 0))) (con (pos 0)) refl

module _ (c : Side) (o q a b d : Screen) (k n m : ℤ) (ow : o.w ≡ pos 1) (qw : q.w ≡ pos 1) (area_up : pos 0 <ℤ area_of a b d) (fine : IsFine o q a b k) (near : IsNear k n m) where
  abbrev W : ℤ
  W = value_at (turn_of o a b) (turn_of q a b) n m

  zero_of : (x : ℤ) → pos 0 ≤ℤ x → x ≤ℤ pos 0 → x ≡ pos 0
  zero_of x h l = omega (arith, ints)

  start_least : pos 0 ≤ℤ W → pos 0 ≤ℤ turn_of o a b
  start_least h = by_lt_z (turn_of o a b) (pos 0) (λ low. absurd (clash_neg _ h (near_neg _ _ k n m near low (let f = fine.turn in f.most)))) (λ r. r)

  third_side : turn_of o a b ≡ pos 0 → turn_of q a b ≡ pos 0 → IsOnSide c o q a ⊎ IsOnSide c o q b ⊎ IsOnSide c o q d → pos 0 <ℤ tilt c (area_of o q d)
  third_side e f (inl s) = absurd (clash_zero _ (of_side c o q a s) (tilt_zero c _ (zero_of_mul (area_of a b d) _ area_up (on_edge_a o q a b d ow qw e f))))
  third_side e f (inr (inl s)) = absurd (clash_zero _ (of_side c o q b s) (tilt_zero c _ (zero_of_mul (area_of a b d) _ area_up (on_edge_b o q a b d ow qw e f))))
  third_side e f (inr (inr s)) = of_side c o q d s

  pub within_side : pos 0 ≤ℤ W → IsOnSide c o q a ⊎ IsOnSide c o q b ⊎ IsOnSide c o q d → IsWithin o a b (perturbed c k (way o q))
  within_side h side =
      by_lt_z (pos 0) (turn_of o a b) (λ r. inl r)
      (λ low.
      let e = zero_of _ (start_least h) low in
      let g = nonneg_of_mul n _ near.after (not_negative_at _ _ (sym (near_zero _ _ k n m near e)) h) in
      by_lt_z (pos 0) (turn_of q a b) (λ r. inr (e, inward c o q a b k ow qw fine e r))
      (λ flat.
      let f = zero_of _ g flat in
      inr (
        e,
        positive_at _ _ (beside c o q a b k ow qw fine e f)
            (pos_of_mul_pos _ _ area_up (positive_at _ _ (tilt_along o q a b d ow qw e f c) (mul_pos _ _ (long_of a b d area_up) (third_side e f side)))),
      )))

  pub weight_least : IsWithin o a b (perturbed c k (way o q)) → pos 0 ≤ℤ W
  weight_least (inl r) = weak _ (near_pos _ _ k n m near r (let f = fine.turn in f.least))
  weight_least (inr r) = not_negative_at _ _ (near_zero _ _ k n m near r.0) (mul_nonneg n _ (weak n near.after) (not_out c o q a b k ow qw fine r.0 r.1))

  -- with no third corner on the side, the weight is above 0
  pub weight_some : IsWithin o a b (perturbed c k (way o q)) → tilt c (area_of o q d) ≤ℤ pos 0 → pos 0 <ℤ W
  weight_some (inl r) low = near_pos _ _ k n m near r (let f = fine.turn in f.least)
  weight_some (inr r) low =
      by_lt_z (pos 0) (turn_of q a b)
      (λ g. positive_at _ _ (near_zero _ _ k n m near r.0) (mul_pos n _ near.after g))
      (λ flat.
      let f = zero_of _ (not_out c o q a b k ow qw fine r.0 r.1) flat in
      absurd (clash _
      (pos_of_mul _ _ (long_of a b d area_up)
      (positive_at _ _ (sym (tilt_along o q a b d ow qw r.0 f c)) (mul_pos _ _ (positive_at _ _ (sym (beside c o q a b k ow qw fine r.0 f)) r.1) area_up)))
      low))

-- ---- the law
each_zero : (x y z s t u : ℤ) → pos 0 <ℤ x → pos 0 <ℤ y → pos 0 <ℤ z → s ≤ℤ pos 0 → t ≤ℤ pos 0 → u ≤ℤ pos 0 → ((x *ℤ s) +ℤ (y *ℤ t)) +ℤ (z *ℤ u) ≡ pos 0
    → (s ≡ pos 0) × (t ≡ pos 0) × (u ≡ pos 0)
each_zero x y z s t u hx hy hz hs ht hu e =
    let a = mul_nonpos x s hx hs in
    let b = mul_nonpos y t hy ht in
    let c = mul_nonpos z u hz hu in
    (zero_of_mul x s hx (first _ _ _ e a b c), zero_of_mul y t hy (second _ _ _ e a b c), zero_of_mul z u hz (third _ _ _ e a b c))
  where
    first : (a b c : ℤ) → (a +ℤ b) +ℤ c ≡ pos 0 → a ≤ℤ pos 0 → b ≤ℤ pos 0 → c ≤ℤ pos 0 → a ≡ pos 0
    first a b c e p q r = omega (arith, ints)

    second : (a b c : ℤ) → (a +ℤ b) +ℤ c ≡ pos 0 → a ≤ℤ pos 0 → b ≤ℤ pos 0 → c ≤ℤ pos 0 → b ≡ pos 0
    second a b c e p q r = omega (arith, ints)

    third : (a b c : ℤ) → (a +ℤ b) +ℤ c ≡ pos 0 → a ≤ℤ pos 0 → b ≤ℤ pos 0 → c ≤ℤ pos 0 → c ≡ pos 0
    third a b c e p q r = omega (arith, ints)

module _ (c : Side) (o q a b d : Screen) (k n m : ℤ) (ow : o.w ≡ pos 1) (qw : q.w ≡ pos 1) (apart : ¬ ((o.u ≡ q.u) × (o.v ≡ q.v))) (area_up : pos 0 <ℤ area_of a b d)
    (free : ¬ Touches a b d o) (fine_ab : IsFine o q a b k) (fine_bd : IsFine o q b d k) (fine_da : IsFine o q d a k) (fine_lead : IsBelow k (lead_of a b d q)) (near : IsNear k n m) where
  up_bd : pos 0 <ℤ area_of b d a
  up_bd = positive_at _ _ (sym (area-rotate b d a)) area_up

  up_da : pos 0 <ℤ area_of d a b
  up_da = positive_at _ _ (area-rotate a b d) area_up

  m_pos : pos 0 <ℤ m
  m_pos = sum_of n m near.after near.before
    where
      sum_of : (n m : ℤ) → pos 0 <ℤ n → n <ℤ m → pos 0 <ℤ m
      sum_of n m h l = omega (arith, ints)

  one_pos : pos 0 <ℤ o.w
  one_pos = positive_at _ _ ow (omega (arith, ints))

  to_over : CountsAt c o q a b d n m → IsOverWay o a b d (perturbed c k (way o q))
  to_over (v, s) =
      let r = at_covers o q a b d n m ow qw m_pos area_up v in
      let fa = start_least c o q b d a k n m ow qw up_bd fine_bd near r.0 in
      let fb = start_least c o q d a b k n m ow qw up_da fine_da near r.1 in
      let fd = start_least c o q a b d k n m ow qw area_up fine_ab near r.2 in (
        by_lt_z (pos 0) (lead_of a b d o) (λ h. h)
            (λ low. by_lt_z (lead_of a b d o) (pos 0)
            (λ h. absurd (clash_both _ r.3 (near_neg _ _ k n m near h fine_lead.most)))
            (λ h. absurd (free (touches a b d o one_pos area_up fa fb fd (zero_of _ h low))))),
        within_side c o q b d a k n m ow qw up_bd fine_bd near r.0 (once s),
        within_side c o q d a b k n m ow qw up_da fine_da near r.1 (once (once s)),
        within_side c o q a b d k n m ow qw area_up fine_ab near r.2 s,
      )
    where
      zero_of : (x : ℤ) → pos 0 ≤ℤ x → x ≤ℤ pos 0 → x ≡ pos 0
      zero_of x h l = omega (arith, ints)

      once : {A B C : Type 0} → A ⊎ B ⊎ C → B ⊎ C ⊎ A
      once (inl x) = inr (inr x)
      once (inr (inl x)) = inl x
      once (inr (inr x)) = inr (inl x)

  -- the corners are not all on the edge's line
  flat : area_of o q a ≡ pos 0 → area_of o q b ≡ pos 0 → area_of o q d ≡ pos 0 → ⊥
  flat ea eb ed = apart (in_line o q a b d ea eb ed (clash_zero _ area_up))

  of_over : IsOverWay o a b d (perturbed c k (way o q)) → CountsAt c o q a b d n m
  of_over (l, wa, wb, wd) = (
    covers_at o q a b d n m ow qw m_pos area_up
        (weight_least c o q b d a k n m ow qw up_bd fine_bd near wa) (weight_least c o q d a b k n m ow qw up_da fine_da near wb) (weight_least c o q a b d k n m ow qw area_up fine_ab near wd)
        (near_pos _ _ k n m near l fine_lead.least),
    by_lt_z (pos 0) (tilt c (area_of o q a)) (λ h. inl (side_of c o q a h))
        (λ la. by_lt_z (pos 0) (tilt c (area_of o q b)) (λ h. inr (inl (side_of c o q b h)))
        (λ lb. by_lt_z (pos 0) (tilt c (area_of o q d)) (λ h. inr (inr (side_of c o q d h)))
        (λ ld.
        let z = each_zero _ _ _ _ _ _
        (weight_some c o q b d a k n m ow qw up_bd fine_bd near wa la) (weight_some c o q d a b k n m ow qw up_da fine_da near wb lb) (weight_some c o q a b d k n m ow qw area_up fine_ab near wd ld)
        la lb ld (tilt_sum c _ _ _ _ _ _ (on_line o q a b d n m ow qw)) in
        absurd (flat (tilt_back c _ z.0) (tilt_back c _ z.1) (tilt_back c _ z.2))))),
  )

pub near_law : NearLaw
near_law c o q a b d k n m ow qw apart area_up free fine_ab fine_bd fine_da fine_lead near =
    (to_over c o q a b d k n m ow qw apart area_up free fine_ab fine_bd fine_da fine_lead near, of_over c o q a b d k n m ow qw apart area_up free fine_ab fine_bd fine_da fine_lead near)

-- ---- a way that is perturbed is along no side
module _ (c : Side) (o q a b d : Screen) (k : ℤ) (ow : o.w ≡ pos 1) (qw : q.w ≡ pos 1) (apart : ¬ ((o.u ≡ q.u) × (o.v ≡ q.v))) (area_up : pos 0 <ℤ area_of a b d) (fine : IsFine o q a b k) where
  squares : length_of a b *ℤ length_of o q ≡ (product_of (way a b) (way o q) *ℤ product_of (way a b) (way o q)) +ℤ (turn_from (way a b) (way o q) *ℤ turn_from (way a b) (way o q))
  squares =
      let X = (var 0 ⊗ var 2) ⊕ (var 1 ⊗ var 3) in
      let Y = (var 0 ⊗ var 3) ⊖ (var 1 ⊗ var 2) in
      ring ((way a b).u ∷ (way a b).v ∷ (way o q).u ∷ (way o q).v ∷ []) (((var 0 ⊗ var 0) ⊕ (var 1 ⊗ var 1)) ⊗ ((var 2 ⊗ var 2) ⊕ (var 3 ⊗ var 3))) ((X ⊗ X) ⊕ (Y ⊗ Y)) refl

  no_way : product_of (way a b) (way o q) ≡ pos 0 → turn_from (way a b) (way o q) ≡ pos 0 → ⊥
  no_way e f =
      apart (length_zero o q (zero_of_mul (length_of a b) (length_of o q) (long_of a b d area_up)
      (squares ∙ (λ t. (e t *ℤ e t) +ℤ (f t *ℤ f t)))))

  pub leans_off : turn_of o a b ≡ pos 0 → ¬ (turn_from (way a b) (perturbed c k (way o q)) ≡ pos 0)
  leans_off e z =
      by_lt_z (pos 0) (turn_of q a b) (λ h. clash_zero _ (inward c o q a b k ow qw fine e h) z)
      (λ low. by_lt_z (turn_of q a b) (pos 0)
      (λ h. outward h)
      (λ h.
      let g : turn_of q a b ≡ pos 0 = zero_of _ h low in
      no_way (tilt_back c _ (sym (beside c o q a b k ow qw fine e g) ∙ z)) (sym (climbs c o q a b k ow qw) ∙ (λ t. g t -ℤ e t))))
    where
      zero_of : (x : ℤ) → pos 0 ≤ℤ x → x ≤ℤ pos 0 → x ≡ pos 0
      zero_of x h l = omega (arith, ints)

      past : (k g : ℤ) → pos 0 <ℤ k → g <ℤ pos 0 → pos 0 ≤ℤ (k *ℤ ((pos 0 -ℤ g) -ℤ pos 1))
      past k g h l = mul_nonneg k ((pos 0 -ℤ g) -ℤ pos 1) (weak k h) (omega (arith, ints))

      none : (k x y e : ℤ) → pos 0 ≤ℤ y → y ≡ (pos 0 -ℤ x) -ℤ k → e <ℤ k → x +ℤ e ≡ pos 0 → ⊥
      none k x y e h f l z = omega (arith, ints)

      outward : turn_of q a b <ℤ pos 0 → ⊥
      outward h =
          none k (k *ℤ turn_of q a b) (k *ℤ ((pos 0 -ℤ turn_of q a b) -ℤ pos 1)) (E c o q a b k ow qw) (past k _ (k_pos c o q a b k ow qw fine) h)
          (ring (k ∷ turn_of q a b ∷ []) (var 0 ⊗ ((con (pos 0) ⊖ var 1) ⊖ con (pos 1))) ((con (pos 0) ⊖ (var 0 ⊗ var 1)) ⊖ var 0) refl)
          (let f = e_below c o q a b k ow qw fine in f.most) (sym (at_zero c o q a b k ow qw e) ∙ z)
