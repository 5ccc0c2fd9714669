-- An edge from its other end: the faces that are counted, clear places, and what is crossed before a place near to that end.
use Rattle.std.proofs.Common.{◌≡◌, ◌⊎◌, inl, inr, [], ◌∷◌, refl, sym, subst, ◌∙◌, arith}
use Rattle.std.specs.Prelude.{ℤ, pos, ◌-ℤ◌, ◌*ℤ◌, ◌≤ℤ◌, ◌<ℤ◌, ◌↔◌}
use Rattle.std.proofs.lemmas.Int.{ints}
use Rattle.integers.proofs.Comparisons.{positive_at}
use Rattle.integers.proofs.Ring.{var, ◌⊕◌, ◌⊖◌, ◌⊗◌, ring, less_by, gap_of_less}
use Rattle.hiding_laws.proofs.Screens.{Screen, area_of, turn_of, Covers}
use Rattle.hiding_laws.specs.Values.{value_at}
use Rattle.geometry.specs.Counts.{Side, to_left, to_right}
use Rattle.geometry.specs.Turns.{other_side}
use Rattle.hiding_laws.proofs.CornerLaws.{IsBelow, IsNear}
use Rattle.hiding_laws.proofs.Places.{place_of}
use Rattle.hiding_laws.proofs.Shares.{numerator_of, denominator_of, IsOnSide, Adds, IsClearOf, IsClear}
use Rattle.hiding_laws.proofs.ScreenLetters.{area}
use Rattle.hiding_laws.proofs.EdgeScreenLetters.{P, Q, A, B, Zero, flat_values, numerator, denominator}
use Rattle.hiding_laws.proofs.NearPlace.{after_near}

-- ---- places
value_back : (f g n m : ℤ) → value_at g f n m ≡ value_at f g (m -ℤ n) m
value_back f g n m = ring (f ∷ g ∷ n ∷ m ∷ []) (((var 3 ⊖ var 2) ⊗ var 1) ⊕ (var 2 ⊗ var 0)) (((var 3 ⊖ (var 3 ⊖ var 2)) ⊗ var 0) ⊕ ((var 3 ⊖ var 2) ⊗ var 1)) refl

module _ (p q : Screen) where
  place_back : (n m : ℤ) → place_of q p n m ≡ place_of p q (m -ℤ n) m
  place_back n m = λ t. record { u = value_back p.u q.u n m t; v = value_back p.v q.v n m t; h = value_back p.h q.h n m t; w = m }

  area_back : (a : Screen) → area_of q p a ≡ pos 0 -ℤ area_of p q a
  area_back a = ring (flat_values p q a a a (pos 0) (pos 0)) (area Q P A) (Zero ⊖ area P Q A) refl

  denominator_back : (a b : Screen) → denominator_of q p a b ≡ pos 0 -ℤ denominator_of p q a b
  denominator_back a b = ring (flat_values p q a b a (pos 0) (pos 0)) (denominator Q P A B) (Zero ⊖ denominator P Q A B) refl

  numerator_back : (a b : Screen) → numerator_of q a b ≡ numerator_of p a b -ℤ denominator_of p q a b
  numerator_back a b = ring (flat_values p q a b a (pos 0) (pos 0)) (numerator Q A B) (numerator P A B ⊖ denominator P Q A B) refl

  -- ---- a face that is counted
  side_there : (c : Side) (a : Screen) → IsOnSide (other_side c) q p a → IsOnSide c p q a
  side_there to_left a h = low _ _ (area_back a) h
    where
      low : (x y : ℤ) → x ≡ pos 0 -ℤ y → x <ℤ pos 0 → pos 0 <ℤ y
      low x y e h = omega (arith, ints)
  side_there to_right a h = high _ _ (area_back a) h
    where
      high : (x y : ℤ) → x ≡ pos 0 -ℤ y → pos 0 <ℤ x → y <ℤ pos 0
      high x y e h = omega (arith, ints)

  side_here : (c : Side) (a : Screen) → IsOnSide c p q a → IsOnSide (other_side c) q p a
  side_here to_left a h = low _ _ (area_back a) h
    where
      low : (x y : ℤ) → x ≡ pos 0 -ℤ y → pos 0 <ℤ y → x <ℤ pos 0
      low x y e h = omega (arith, ints)
  side_here to_right a h = high _ _ (area_back a) h
    where
      high : (x y : ℤ) → x ≡ pos 0 -ℤ y → y <ℤ pos 0 → pos 0 <ℤ x
      high x y e h = omega (arith, ints)

  three : {X Y Z X' Y' Z' : Type 0} → (X → X') → (Y → Y') → (Z → Z') → X ⊎ Y ⊎ Z → X' ⊎ Y' ⊎ Z'
  three f g h (inl x) = inl (f x)
  three f g h (inr (inl y)) = inr (inl (g y))
  three f g h (inr (inr z)) = inr (inr (h z))

  pub adds_back : (c : Side) (a b g : Screen) (n m : ℤ) → Adds (other_side c) q p a b g n m ↔ Adds c p q a b g (m -ℤ n) m
  adds_back c a b g n m = (
    (λ v. (v.0, (subst (λ x. Covers a b g x) (place_back n m) v.1.0, three (side_there c a) (side_there c b) (side_there c g) v.1.1))),
    (λ v. (v.0, (subst (λ x. Covers a b g x) (sym (place_back n m)) v.1.0, three (side_here c a) (side_here c b) (side_here c g) v.1.1))),
  )

  -- ---- a clear place
  clear_side_back : (a b : Screen) (n m : ℤ) → IsClearOf q p a b n m → IsClearOf p q a b (m -ℤ n) m
  clear_side_back a b n m clear e sides = none _ _ (denominator_back a b) (clear (subst (λ x. turn_of x a b ≡ pos 0) (sym (place_back n m)) e) (by sides))
    where
      none : (x y : ℤ) → x ≡ pos 0 -ℤ y → x ≡ pos 0 → y ≡ pos 0
      none x y e z = omega (arith, ints)

      least : (x y : ℤ) → x ≡ pos 0 -ℤ y → y ≤ℤ pos 0 → pos 0 ≤ℤ x
      least x y e h = omega (arith, ints)

      most : (x y : ℤ) → x ≡ pos 0 -ℤ y → pos 0 ≤ℤ y → x ≤ℤ pos 0
      most x y e h = omega (arith, ints)

      by : ((area_of p q a ≤ℤ pos 0) × (pos 0 ≤ℤ area_of p q b)) ⊎ ((area_of p q b ≤ℤ pos 0) × (pos 0 ≤ℤ area_of p q a))
          → ((area_of q p a ≤ℤ pos 0) × (pos 0 ≤ℤ area_of q p b)) ⊎ ((area_of q p b ≤ℤ pos 0) × (pos 0 ≤ℤ area_of q p a))
      by (inl h) = inr (most _ _ (area_back b) h.1, least _ _ (area_back a) h.0)
      by (inr h) = inl (most _ _ (area_back a) h.1, least _ _ (area_back b) h.0)

  pub clear_back : (a b g : Screen) (n m : ℤ) → IsClear q p a b g n m → IsClear p q a b g (m -ℤ n) m
  clear_back a b g n m clear = record {
    after = rest n m clear.before;
    before = short n m clear.after;
    ab = clear_side_back a b n m clear.ab;
    bc = clear_side_back b g n m clear.bc;
    ca = clear_side_back g a n m clear.ca;
  }
    where
      rest : (n m : ℤ) → n <ℤ m → pos 0 <ℤ (m -ℤ n)
      rest n m h = omega (arith, ints)

      short : (n m : ℤ) → pos 0 <ℤ n → (m -ℤ n) <ℤ m
      short n m h = omega (arith, ints)

  -- ---- a crossing
  module _ (a b : Screen) (k n m : ℤ) (pw : p.w ≡ pos 1) (qw : q.w ≡ pos 1) (near : IsNear k n m) (small : IsBelow k (turn_of p a b)) where
    abbrev R : ℤ
    R = numerator_of p a b

    abbrev K : ℤ
    K = denominator_of p q a b

    -- what is crossed before the second end is crossed before a place near to it
    pub before_far : (R *ℤ K) <ℤ (K *ℤ K) → ((R *ℤ K) *ℤ m) <ℤ ((m -ℤ n) *ℤ (K *ℤ K))
    before_far h =
        less_by _ _ _
        (ring (R ∷ K ∷ n ∷ m ∷ []) (((var 3 ⊖ var 2) ⊗ (var 1 ⊗ var 1)) ⊖ ((var 0 ⊗ var 1) ⊗ var 3))
        ((((var 0 ⊖ var 1) ⊗ (Zero ⊖ var 1)) ⊗ var 3) ⊖ (var 2 ⊗ ((Zero ⊖ var 1) ⊗ (Zero ⊖ var 1)))) refl
        ∙ sym (λ t. ((numerator_back a b t *ℤ denominator_back a b t) *ℤ m) -ℤ (n *ℤ (denominator_back a b t *ℤ denominator_back a b t))))
        (gap_of_less _ _ (after_near q p a b k n m qw pw near small (positive_at _ _
        ((λ t. numerator_back a b t *ℤ denominator_back a b t) ∙ ring (R ∷ K ∷ []) ((var 0 ⊖ var 1) ⊗ (Zero ⊖ var 1)) ((var 1 ⊗ var 1) ⊖ (var 0 ⊗ var 1)) refl) (gap_of_less _ _ h))))
