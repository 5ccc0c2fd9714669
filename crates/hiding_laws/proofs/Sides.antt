-- What the three tests of a crossing say: the place passes from one side of a triangle's side to the other, nearer than the edge.
use Rattle.std.proofs.Common.{◌≡◌, [], ◌∷◌, refl, sym, ap, ◌∙◌, arith}
use Rattle.std.specs.Prelude.{ℤ, pos, ◌+ℤ◌, ◌-ℤ◌, ◌*ℤ◌, ◌<ℤ◌}
use Rattle.std.proofs.lemmas.Int.{ints}
use Rattle.integers.proofs.Comparisons.{positive_at}
use Rattle.hiding_laws.proofs.Screens.{lead_of, Screen, area_of, turn_of}
use Rattle.hiding_laws.specs.Values.{value_at}
use Rattle.integers.proofs.Ring.{Expr, var, con, ◌⊕◌, ◌⊖◌, ◌⊗◌, ring, less_by, gap_of_less}
use Rattle.integers.proofs.Signs.{mul_pos, pos_of_mul, mul_two_neg}
use Rattle.hiding_laws.specs.inner.Tallies.{IsTally}
use Rattle.hiding_laws.specs.inner.Tallies.{yes, no}
use Rattle.hiding_laws.proofs.Shares.{numerator_of, denominator_of, depth_of, Crosses}
use Rattle.hiding_laws.proofs.ScreenLetters.{area, turn}
use Rattle.hiding_laws.proofs.EdgeScreenLetters.{P, Q, A, B, C, N, M, Zero, flat_values, values, lead, numerator, denominator, depth, at}
use Rattle.hiding_laws.proofs.Signs.{up, neg_of_mul_neg, pos_of_mul_pos}

-- ---- tallies
pub tally_of : {P Q : Type 0} {z : ℤ} → (P → Q) → (Q → P) → IsTally P z → IsTally Q z
tally_of f g (yes p) = yes (f p)
tally_of f g (no p) = no (λ q. p (g q))

pub same_tally : {P : Type 0} {x y : ℤ} → IsTally P x → IsTally P y → x ≡ y
same_tally (yes p) (yes q) = refl
same_tally (yes p) (no q) = absurd (q p)
same_tally (no p) (yes q) = absurd (p q)
same_tally (no p) (no q) = refl

-- ---- the numbers of a side
-- the side from a to b climbs from one distance to the other
pub denominator-areas : (p q a b : Screen) → denominator_of p q a b ≡ area_of p q b -ℤ area_of p q a
denominator-areas p q a b = ring (flat_values p q a b a (pos 0) (pos 0)) (denominator P Q A B) (area P Q B ⊖ area P Q A) refl

pub turn-numerator : (p q a b : Screen) (n m : ℤ) → p.w ≡ pos 1 → q.w ≡ pos 1
    → value_at (turn_of p a b) (turn_of q a b) n m ≡ (numerator_of p a b *ℤ m) -ℤ (n *ℤ denominator_of p q a b)
turn-numerator p q a b n m pw qw =
    (λ t. value_at (turn_of record { u = p.u; v = p.v; h = p.h; w = pw t } a b) (turn_of record { u = q.u; v = q.v; h = q.h; w = qw t } a b) n m)
    ∙ ring (flat_values p q a b a n m) (at (turn P A B) (turn Q A B)) ((numerator P A B ⊗ M) ⊖ (N ⊗ denominator P Q A B)) refl

-- the height of the face where the line crosses the side, against that of the edge
pub lead-depth : (p q a b c : Screen) → p.w ≡ pos 1 → q.w ≡ pos 1
    → (turn_of q a b *ℤ lead_of a b c p) -ℤ (turn_of p a b *ℤ lead_of a b c q) ≡ area_of a b c *ℤ (pos 0 -ℤ depth_of p q a b)
lead-depth p q a b c pw qw =
    (λ t.
    let x : Screen = record { u = p.u; v = p.v; h = p.h; w = pw t } in
    let y : Screen = record { u = q.u; v = q.v; h = q.h; w = qw t } in
    (turn_of y a b *ℤ lead_of a b c x) -ℤ (turn_of x a b *ℤ lead_of a b c y))
    ∙ ring (values p q a b c) ((turn Q A B ⊗ lead A B C P) ⊖ (turn P A B ⊗ lead A B C Q)) (area A B C ⊗ (Zero ⊖ depth P Q A B)) refl

-- two values that go evenly, at two places
pub crossed : (e e' l l' n m n' m' : ℤ)
    → (value_at e e' n' m' *ℤ value_at l l' n m) +ℤ ((pos 0 -ℤ value_at e e' n m) *ℤ value_at l l' n' m') ≡ ((n' *ℤ m) -ℤ (n *ℤ m')) *ℤ ((e' *ℤ l) -ℤ (e *ℤ l'))
crossed e e' l l' n m n' m' =
    let E = var 0 in let E' = var 1 in let L = var 2 in let L' = var 3 in let N = var 4 in let M = var 5 in let N' = var 6 in let M' = var 7 in
    let v = λ (f g n m : Expr). ((m ⊖ n) ⊗ f) ⊕ (n ⊗ g) in
    ring (e ∷ e' ∷ l ∷ l' ∷ n ∷ m ∷ n' ∷ m' ∷ [])
    ((v E E' N' M' ⊗ v L L' N M) ⊕ ((con (pos 0) ⊖ v E E' N M) ⊗ v L L' N' M')) (((N' ⊗ M) ⊖ (N ⊗ M')) ⊗ ((E' ⊗ L) ⊖ (E ⊗ L'))) refl

-- ---- the three tests
module _ (p q a b c : Screen) (n m n' m' : ℤ) (pw : p.w ≡ pos 1) (qw : q.w ≡ pos 1) (order : (n *ℤ m') <ℤ (n' *ℤ m)) (area_up : pos 0 <ℤ area_of a b c) where
  abbrev E0 : ℤ
  E0 = value_at (turn_of p a b) (turn_of q a b) n m

  abbrev E1 : ℤ
  E1 = value_at (turn_of p a b) (turn_of q a b) n' m'

  abbrev L0 : ℤ
  L0 = value_at (lead_of a b c p) (lead_of a b c q) n m

  abbrev L1 : ℤ
  L1 = value_at (lead_of a b c p) (lead_of a b c q) n' m'

  abbrev K : ℤ
  K = denominator_of p q a b

  abbrev R : ℤ
  R = numerator_of p a b

  abbrev D : ℤ
  D = depth_of p q a b

  before_is : E0 *ℤ K ≡ ((R *ℤ K) *ℤ m) -ℤ (n *ℤ (K *ℤ K))
  before_is = ap (λ v. v *ℤ K) (turn-numerator p q a b n m pw qw)
      ∙ ring (R ∷ K ∷ n ∷ m ∷ []) (((var 0 ⊗ var 3) ⊖ (var 2 ⊗ var 1)) ⊗ var 1) (((var 0 ⊗ var 1) ⊗ var 3) ⊖ (var 2 ⊗ (var 1 ⊗ var 1))) refl

  after_is : (pos 0 -ℤ E1) *ℤ K ≡ (n' *ℤ (K *ℤ K)) -ℤ ((R *ℤ K) *ℤ m')
  after_is = ap (λ v. (pos 0 -ℤ v) *ℤ K) (turn-numerator p q a b n' m' pw qw)
      ∙ ring (R ∷ K ∷ n' ∷ m' ∷ []) ((Zero ⊖ ((var 0 ⊗ var 3) ⊖ (var 2 ⊗ var 1))) ⊗ var 1) ((var 2 ⊗ (var 1 ⊗ var 1)) ⊖ ((var 0 ⊗ var 1) ⊗ var 3)) refl

  wide : pos 0 <ℤ ((n' *ℤ m) -ℤ (n *ℤ m'))
  wide = gap_of_less _ _ order

  lead_is : (E1 *ℤ L0) +ℤ ((pos 0 -ℤ E0) *ℤ L1) ≡ ((n' *ℤ m) -ℤ (n *ℤ m')) *ℤ (area_of a b c *ℤ (pos 0 -ℤ D))
  lead_is = crossed _ _ _ _ n m n' m' ∙ ap (λ v. ((n' *ℤ m) -ℤ (n *ℤ m')) *ℤ v) (lead-depth p q a b c pw qw)

  -- the same, where the face goes
  lead_back : ((pos 0 -ℤ E1) *ℤ L0) +ℤ (E0 *ℤ L1) ≡ ((n' *ℤ m) -ℤ (n *ℤ m')) *ℤ (area_of a b c *ℤ D)
  lead_back =
      ring (E0 ∷ E1 ∷ L0 ∷ L1 ∷ []) (((Zero ⊖ var 1) ⊗ var 2) ⊕ (var 0 ⊗ var 3)) (Zero ⊖ ((var 1 ⊗ var 2) ⊕ ((Zero ⊖ var 0) ⊗ var 3))) refl
      ∙ ap (λ v. pos 0 -ℤ v) lead_is
      ∙ ring (((n' *ℤ m) -ℤ (n *ℤ m')) ∷ area_of a b c ∷ D ∷ []) (Zero ⊖ (var 0 ⊗ (var 1 ⊗ (Zero ⊖ var 2)))) (var 0 ⊗ (var 1 ⊗ var 2)) refl

  down : (x : ℤ) → (pos 0 -ℤ x) <ℤ pos 0 → pos 0 <ℤ x
  down x h = omega (arith, ints)

  down_pos : (x : ℤ) → pos 0 <ℤ (pos 0 -ℤ x) → x <ℤ pos 0
  down_pos x h = omega (arith, ints)

  up_pos : (x : ℤ) → pos 0 <ℤ x → (pos 0 -ℤ x) <ℤ pos 0
  up_pos x h = omega (arith, ints)

  -- a side that falls to the right is where the face comes
  module _ (falls : K <ℤ pos 0) where
    pub comes_of_crosses : Crosses p q a b n m n' m' → (E0 <ℤ pos 0) × (pos 0 <ℤ E1) × (pos 0 <ℤ ((E1 *ℤ L0) +ℤ ((pos 0 -ℤ E0) *ℤ L1)))
    comes_of_crosses x = (
      neg_of_mul_neg E0 K falls (positive_at _ _ before_is (gap_of_less _ _ x.after)),
      down E1 (neg_of_mul_neg (pos 0 -ℤ E1) K falls (positive_at _ _ after_is (gap_of_less _ _ x.before))),
      positive_at _ _ lead_is (mul_pos _ _ wide (mul_pos _ _ area_up (up D (neg_of_mul_neg D K falls x.nearer)))),
    )

    pub crosses_of_comes : (E0 <ℤ pos 0) × (pos 0 <ℤ E1) × (pos 0 <ℤ ((E1 *ℤ L0) +ℤ ((pos 0 -ℤ E0) *ℤ L1))) → Crosses p q a b n m n' m'
    crosses_of_comes x = record {
      after = less_by _ _ _ (sym before_is) (mul_two_neg E0 K x.0 falls);
      before = less_by _ _ _ (sym after_is) (mul_two_neg (pos 0 -ℤ E1) K (up_pos E1 x.1) falls);
      nearer = mul_two_neg D K (down_pos D (pos_of_mul _ _ area_up (pos_of_mul _ _ wide (positive_at _ _ (sym lead_is) x.2)))) falls;
    }

  -- a side that climbs to the left is where it goes
  module _ (rises : pos 0 <ℤ K) where
    pub goes_of_crosses : Crosses p q a b n m n' m' → (pos 0 <ℤ E0) × (E1 <ℤ pos 0) × (pos 0 <ℤ (((pos 0 -ℤ E1) *ℤ L0) +ℤ (E0 *ℤ L1)))
    goes_of_crosses x = (
      pos_of_mul_pos E0 K rises (positive_at _ _ before_is (gap_of_less _ _ x.after)),
      down_pos E1 (pos_of_mul_pos (pos 0 -ℤ E1) K rises (positive_at _ _ after_is (gap_of_less _ _ x.before))),
      positive_at _ _ lead_back (mul_pos _ _ wide (mul_pos _ _ area_up (pos_of_mul_pos D K rises x.nearer))),
    )

    pub crosses_of_goes : (pos 0 <ℤ E0) × (E1 <ℤ pos 0) × (pos 0 <ℤ (((pos 0 -ℤ E1) *ℤ L0) +ℤ (E0 *ℤ L1))) → Crosses p q a b n m n' m'
    crosses_of_goes x = record {
      after = less_by _ _ _ (sym before_is) (mul_pos E0 K x.0 rises);
      before = less_by _ _ _ (sym after_is) (mul_pos (pos 0 -ℤ E1) K (up E1 x.1) rises);
      nearer = mul_pos D K (pos_of_mul _ _ area_up (pos_of_mul _ _ wide (positive_at _ _ (sym lead_back) x.2))) rises;
    }

-- ---- the reverse of a side crosses where it does
pub denominator-reverse : (p q a b : Screen) → denominator_of p q b a ≡ pos 0 -ℤ denominator_of p q a b
denominator-reverse p q a b = ring (flat_values p q a b a (pos 0) (pos 0)) (denominator P Q B A) (Zero ⊖ denominator P Q A B) refl

pub crosses_reverse : (p q a b : Screen) (n m n' m' : ℤ) → Crosses p q a b n m n' m' → Crosses p q b a n m n' m'
crosses_reverse p q a b n m n' m' x = record {
  after = same_less _ _ _ _ (ap (λ v. n *ℤ v) squares) (ap (λ v. v *ℤ m) reaches) x.after;
  before = same_less _ _ _ _ (ap (λ v. v *ℤ m') reaches) (ap (λ v. n' *ℤ v) squares) x.before;
  nearer = positive_at _ _ (ap (λ v. v *ℤ denominator_of p q b a) depths ∙ ap (λ v. (pos 0 -ℤ depth_of p q a b) *ℤ v) (denominator-reverse p q a b)
      ∙ ring (depth_of p q a b ∷ denominator_of p q a b ∷ []) ((Zero ⊖ var 0) ⊗ (Zero ⊖ var 1)) (var 0 ⊗ var 1) refl) x.nearer;
}
  where
    same_less : (x y x' y' : ℤ) → x ≡ x' → y ≡ y' → x <ℤ y → x' <ℤ y'
    same_less x y x' y' e h l = omega (arith, ints)

    squares : denominator_of p q a b *ℤ denominator_of p q a b ≡ denominator_of p q b a *ℤ denominator_of p q b a
    squares = ring (flat_values p q a b a (pos 0) (pos 0)) (denominator P Q A B ⊗ denominator P Q A B) (denominator P Q B A ⊗ denominator P Q B A) refl

    reaches : numerator_of p a b *ℤ denominator_of p q a b ≡ numerator_of p b a *ℤ denominator_of p q b a
    reaches = ring (flat_values p q a b a (pos 0) (pos 0)) (numerator P A B ⊗ denominator P Q A B) (numerator P B A ⊗ denominator P Q B A) refl

    depths : depth_of p q b a ≡ pos 0 -ℤ depth_of p q a b
    depths = ring (values p q a b a) (depth P Q B A) (Zero ⊖ depth P Q A B) refl
