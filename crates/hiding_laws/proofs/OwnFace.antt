-- A face that has the edge as a side never hides it, and none of its sides crosses it.
use Rattle.std.proofs.Common.{◌≡◌, inl, inr, [], ◌∷◌, refl, sym, ap, ◌∙◌, subst, arith}
use Rattle.std.specs.Prelude.{ℤ, pos, negsuc, ◌-ℤ◌, ◌*ℤ◌, ◌≤ℤ◌, ◌<ℤ◌}
use Rattle.std.proofs.lemmas.Int.{ints}
use Rattle.integers.proofs.Comparisons.{positive_at}
use Rattle.hiding_laws.proofs.Places.{place_of}
use Rattle.hiding_laws.proofs.Screens.{lead_of, Screen, area_of, Covers}
use Rattle.hiding_laws.specs.Values.{value_at}
use Rattle.integers.proofs.Ring.{var, ◌⊕◌, ◌⊖◌, ◌⊗◌, ring, gap_of_less}
use Rattle.integers.proofs.Signs.{mul_nonneg}
use Rattle.hiding_laws.proofs.Shares.{denominator_of, depth_of, Crosses, IsSideOf}
use Rattle.hiding_laws.proofs.EdgeScreenLetters.{P, Q, A, Zero, flat_values, values, lead, numerator, denominator}
use Rattle.hiding_laws.proofs.Signs.{weak, up, clash_zero, sign_cases}
use Rattle.hiding_laws.proofs.Come.{IsInner}
use Rattle.hiding_laws.proofs.Sides.{crosses_reverse}
use Rattle.hiding_laws.proofs.Faces.{at_covers, height}
use Rattle.hiding_laws.proofs.Lone.{inner_pos, area-rotate}
use Rattle.hiding_laws.proofs.OneFace.{covers_rotate, covers_swap, area-swap}

square_least : (x : ℤ) → pos 0 ≤ℤ (x *ℤ x)
square_least (pos n) = omega (arith, ints)
square_least (negsuc n) = omega (arith, ints)

-- ---- no side at an end of the edge crosses an inner place
pub uncrossed_along : (p q : Screen) (n m n' m' : ℤ) → ¬ Crosses p q p q n m n' m'
uncrossed_along p q n m n' m' x = clash_zero _ x.nearer (ap (λ v. depth_of p q p q *ℤ v) (ring (flat_values p q p q p (pos 0) (pos 0)) (denominator P Q P Q) Zero refl) ∙ ring (depth_of p q p q ∷ []) (var 0 ⊗ Zero) Zero refl)

pub uncrossed_from : (p q c : Screen) (n m n' m' : ℤ) → IsInner n m → ¬ Crosses p q p c n m n' m'
uncrossed_from p q c n m n' m' i x =
    under _ _ (mul_nonneg n _ (weak n i.after) (square_least (denominator_of p q p c)))
    (ap (λ v. (v *ℤ denominator_of p q p c) *ℤ m) (ring (flat_values p q c c c (pos 0) (pos 0)) (numerator P P A) Zero refl) ∙ ring (denominator_of p q p c ∷ m ∷ []) ((Zero ⊗ var 0) ⊗ var 1) Zero refl) x.after
  where
    under : (x y : ℤ) → pos 0 ≤ℤ x → y ≡ pos 0 → x <ℤ y → ⊥
    under x y h e l = omega (arith, ints)

pub uncrossed_to : (p q c : Screen) (n m n' m' : ℤ) → IsInner n' m' → ¬ Crosses p q q c n m n' m'
uncrossed_to p q c n m n' m' i x =
    let k = denominator_of p q q c in
    over _ _ (ap (λ v. (v *ℤ denominator_of p q q c) *ℤ m') (ring (flat_values p q c c c (pos 0) (pos 0)) (numerator P Q A) (denominator P Q Q A) refl))
    (ring (k ∷ n' ∷ m' ∷ []) (((var 0 ⊗ var 0) ⊗ var 2) ⊖ (var 1 ⊗ (var 0 ⊗ var 0))) ((var 2 ⊖ var 1) ⊗ (var 0 ⊗ var 0)) refl)
    (mul_nonneg _ _ (weak _ (gap_of_less n' m' i.before)) (square_least k)) x.before
  where
    over : {y w : ℤ} (x z : ℤ) → x ≡ z → z -ℤ y ≡ w → pos 0 ≤ℤ w → x <ℤ y → ⊥
    over {y = y} {w = w} x z e h k l = omega (arith, ints)

-- ---- the face does not cover the edge
level : (p q c : Screen) (n m : ℤ) (pw : p.w ≡ pos 1) (qw : q.w ≡ pos 1) → height p q p q c n m pw qw ≡ pos 0
level p q c n m pw qw =
    (λ t.
    let x : Screen = record { u = p.u; v = p.v; h = p.h; w = pw t } in
    let y : Screen = record { u = q.u; v = q.v; h = q.h; w = qw t } in
    value_at (lead_of p q c x) (lead_of p q c y) n m)
    ∙ (λ t. value_at (ring (values p q c c c) (lead P Q A P) Zero refl t) (ring (values p q c c c) (lead P Q A Q) Zero refl t) n m)
    ∙ ring (n ∷ m ∷ []) (((var 1 ⊖ var 0) ⊗ Zero) ⊕ (var 0 ⊗ Zero)) Zero refl

level_back : (p q c : Screen) (n m : ℤ) (pw : p.w ≡ pos 1) (qw : q.w ≡ pos 1) → height p q p c q n m pw qw ≡ pos 0
level_back p q c n m pw qw =
    (λ t.
    let x : Screen = record { u = p.u; v = p.v; h = p.h; w = pw t } in
    let y : Screen = record { u = q.u; v = q.v; h = q.h; w = qw t } in
    value_at (lead_of p c q x) (lead_of p c q y) n m)
    ∙ (λ t. value_at (ring (values p q c c c) (lead P A Q P) Zero refl t) (ring (values p q c c c) (lead P A Q Q) Zero refl t) n m)
    ∙ ring (n ∷ m ∷ []) (((var 1 ⊖ var 0) ⊗ Zero) ⊕ (var 0 ⊗ Zero)) Zero refl

module _ (p q : Screen) (n m : ℤ) (pw : p.w ≡ pos 1) (qw : q.w ≡ pos 1) (i : IsInner n m) where
  uncovered_at : (c : Screen) → ¬ (area_of p q c ≡ pos 0) → ¬ Covers p q c (place_of p q n m)
  uncovered_at c some x = elim (sign_cases _ some) [
    | inl h ↦ clash_zero _ ((at_covers p q p c q n m pw qw (inner_pos n m i) (positive_at _ _ (area-swap p q c) (up _ h)) (covers_swap p c q (place_of p q n m) x)).3) (level_back p q c n m pw qw)
    | inr h ↦ clash_zero _ ((at_covers p q p q c n m pw qw (inner_pos n m i) h x).3) (level p q c n m pw qw)
  ]

  goes : (x y z : Screen) → ¬ (area_of x y z ≡ pos 0) → x ≡ p → y ≡ q → ¬ Covers x y z (place_of p q n m)
  goes x y z some s s' v =
      uncovered_at z (λ e. some ((λ t. area_of (s t) (s' t) z) ∙ e))
      (subst (λ w. Covers p w z (place_of p q n m)) s' (subst (λ w. Covers w y z (place_of p q n m)) s v))

  -- whichever two of its corners the edge has
  pub uncovered : (a b c : Screen) → ¬ (area_of a b c ≡ pos 0) → IsSideOf p q a b c → ¬ Covers a b c (place_of p q n m)
  uncovered a b c some side x =
      let X = place_of p q n m in
      let abc : ¬ (area_of b c a ≡ pos 0) = λ e. some (area-rotate b c a ∙ e) in
      let cab : ¬ (area_of c a b ≡ pos 0) = λ e. some (sym (area-rotate a b c) ∙ e) in
      let Xbca = covers_rotate b c a X (covers_rotate c a b X x) in
      let Xcab = covers_rotate c a b X x in
      elim side [
        | inl s ↦ goes a b c some s.0 s.1 x
        | inr s ↦ elim s [
          | inl s ↦ goes b c a abc s.0 s.1 Xbca
          | inr s ↦ elim s [
            | inl s ↦ goes c a b cab s.0 s.1 Xcab
            | inr s ↦ elim s [
              | inl s ↦ goes b a c (λ e. abc (zero_of _ _ (area-swap b c a) e)) s.0 s.1 (covers_swap b a c X Xbca)
              | inr s ↦ elim s [
                | inl s ↦ goes c b a (λ e. cab (zero_of _ _ (area-swap c a b) e)) s.0 s.1 (covers_swap c b a X Xcab)
                | inr s ↦ goes a c b (λ e. some (zero_of _ _ (area-swap a b c) e)) s.0 s.1 (covers_swap a c b X x)
              ]
            ]
          ]
        ]
      ]
    where
      zero_of : (x y : ℤ) → x ≡ pos 0 -ℤ y → x ≡ pos 0 → y ≡ pos 0
      zero_of x y e h = omega (arith, ints)

-- no side of such a face crosses between two inner places
module _ (p q : Screen) (n m n' m' : ℤ) (i : IsInner n m) (i' : IsInner n' m') where
  abbrev Clean : Screen → Screen → Type 0
  Clean a b = ¬ Crosses p q a b n m n' m'

  along : (a b : Screen) → a ≡ p → b ≡ q → Clean a b
  along a b s s' x = uncrossed_along p q n m n' m' (subst (λ w. Crosses p q p w n m n' m') s' (subst (λ w. Crosses p q w b n m n' m') s x))

  from_p : (a b : Screen) → a ≡ p → Clean a b
  from_p a b s x = uncrossed_from p q b n m n' m' i (subst (λ w. Crosses p q w b n m n' m') s x)

  from_q : (a b : Screen) → a ≡ q → Clean a b
  from_q a b s x = uncrossed_to p q b n m n' m' i' (subst (λ w. Crosses p q w b n m n' m') s x)

  turn_back : (a b : Screen) → Clean b a → Clean a b
  turn_back a b n x = n (crosses_reverse p q a b _ _ _ _ x)

  pub uncrossed : (a b c : Screen) → IsSideOf p q a b c → (Clean a b × Clean b c × Clean c a)
  uncrossed a b c (inl s) = (along a b s.0 s.1, from_q b c s.1, turn_back c a (from_p a c s.0))
  uncrossed a b c (inr (inl s)) = (turn_back a b (from_p b a s.0), along b c s.0 s.1, from_q c a s.1)
  uncrossed a b c (inr (inr (inl s))) = (from_q a b s.1, turn_back b c (from_p c b s.0), along c a s.0 s.1)
  uncrossed a b c (inr (inr (inr (inl s)))) = (turn_back a b (along b a s.0 s.1), from_p b c s.0, turn_back c a (from_q a c s.1))
  uncrossed a b c (inr (inr (inr (inr (inl s))))) = (turn_back a b (from_q b a s.1), turn_back b c (along c b s.0 s.1), from_p c a s.0)
  uncrossed a b c (inr (inr (inr (inr (inr s))))) = (from_p a b s.0, turn_back b c (from_q c b s.1), turn_back c a (along a c s.0 s.1))
