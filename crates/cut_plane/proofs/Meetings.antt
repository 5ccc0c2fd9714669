-- Where a border crosses the way from one sight to another, a sum of its ends is a sum of the two.
use Rattle.std.proofs.Common.{◌≡◌, ℕ, zero, suc, ◌+◌, ◌<◌, ◌≤◌, ◌⊎◌, inl, inr, [], ◌∷◌, refl, sym, ◌∙◌, arith, unsigned_abs}
use Rattle.std.specs.Prelude.{ℤ, pos, ◌+ℤ◌, ◌-ℤ◌, ◌*ℤ◌, ◌<ℤ◌, ◌≤ℤ◌}
use Rattle.std.proofs.lemmas.Bool.{cases_lt}
use Rattle.std.proofs.lemmas.Int.{ints, by_lt_z}
use Rattle.integers.proofs.Absolutes.{abs_of_not_negative, abs_of_not_positive}
use Rattle.integers.proofs.Comparisons.{not_negative_of_positive, not_negative_of_zero}
use Rattle.integers.proofs.Ring.{var, con, ◌⊕◌, ◌⊖◌, ◌⊗◌, ring}
use Rattle.integers.proofs.Weighted.{sum_pos}
use Rattle.cut_plane.proofs.Sights.{Sight, turn_of}
use Rattle.cut_plane.proofs.Lies.{IsClear, first_up, first_down, second_up, second_down, in_line, IsAcross, up, down}
use Rattle.cut_plane.proofs.Planes.{seen, turns, four}

-- ---- clear or not
pub record AreAcross (x x' y y' : ℤ) : Type 0 where
  pub first : IsAcross x x'
  pub second : IsAcross y y'
  pub some : 0 < unsigned_abs x + unsigned_abs x' + unsigned_abs y + unsigned_abs y'

pub data Sides (x x' : ℤ) : Type 0 where
  both_up : pos 0 <ℤ x → pos 0 <ℤ x' → Sides x x'
  both_down : x <ℤ pos 0 → x' <ℤ pos 0 → Sides x x'
  apart : IsAcross x x' → Sides x x'

pub sides : (x x' : ℤ) → Sides x x'
sides x x' = by_lt_z (pos 0) x
    (λ p. by_lt_z (pos 0) x' (λ q. both_up p q) (λ q. apart (down (omega (arith, ints)) q)))
    (λ p. by_lt_z x (pos 0)
    (λ r. by_lt_z x' (pos 0) (λ q. both_down r q) (λ q. apart (up p q)))
    (λ r. by_lt_z (pos 0) x' (λ q. apart (up p (omega (arith, ints)))) (λ q. apart (down r q))))

pub clear_unless : (x x' y y' : ℤ) → IsClear x x' y y' ⊎ AreAcross x x' y y'
clear_unless x x' y y' = by (sides x x') (sides y y') (cases_lt 0 (unsigned_abs x + unsigned_abs x' + unsigned_abs y + unsigned_abs y'))
  where
    none : (x : ℤ) → unsigned_abs x ≡ 0 → x ≡ pos 0
    none x e = omega (arith, ints)

    by : Sides x x' → Sides y y' → (0 < unsigned_abs x + unsigned_abs x' + unsigned_abs y + unsigned_abs y') ⊎ (unsigned_abs x + unsigned_abs x' + unsigned_abs y + unsigned_abs y' ≤ 0) → IsClear x x' y y' ⊎ AreAcross x x' y y'
    by (both_up p q) second some = inl (first_up p q)
    by (both_down p q) second some = inl (first_down p q)
    by (apart first) (both_up p q) some = inl (second_up p q)
    by (apart first) (both_down p q) some = inl (second_down p q)
    by (apart first) (apart second) (inl some) = inr (record { first = first; second = second; some = some })
    by (apart first) (apart second) (inr all) = inl (in_line (none x (omega arith)) (none x' (omega arith)) (none y (omega arith)) (none y' (omega arith)))

-- ---- the same sum
-- weights of the segment's ends and of the two sights, whose sums are the same
pub record AreOneSum (k l p q : Sight) (x x' : ℤ) : Type 0 where
  pub i : ℕ
  pub j : ℕ
  pub u : (pos i *ℤ k.u) +ℤ (pos j *ℤ l.u) ≡ (pos (unsigned_abs x') *ℤ p.u) +ℤ (pos (unsigned_abs x) *ℤ q.u)
  pub v : (pos i *ℤ k.v) +ℤ (pos j *ℤ l.v) ≡ (pos (unsigned_abs x') *ℤ p.v) +ℤ (pos (unsigned_abs x) *ℤ q.v)
  pub w : (pos i *ℤ k.w) +ℤ (pos j *ℤ l.w) ≡ (pos (unsigned_abs x') *ℤ p.w) +ℤ (pos (unsigned_abs x) *ℤ q.w)
  pub some_ends : 0 < i + j
  pub some_sights : 0 < unsigned_abs x' + unsigned_abs x

module _ (k l p q : Sight) where
  -- four sights of a plane
  balance_u : (turn_of p q l *ℤ k.u) -ℤ (turn_of p q k *ℤ l.u) ≡ (turn_of k l p *ℤ q.u) -ℤ (turn_of k l q *ℤ p.u)
  balance_u = ring (four k l p q) ((turns (seen 6) (seen 9) (seen 3) ⊗ var 0) ⊖ (turns (seen 6) (seen 9) (seen 0) ⊗ var 3)) ((turns (seen 0) (seen 3) (seen 6) ⊗ var 9) ⊖ (turns (seen 0) (seen 3) (seen 9) ⊗ var 6)) refl

  balance_v : (turn_of p q l *ℤ k.v) -ℤ (turn_of p q k *ℤ l.v) ≡ (turn_of k l p *ℤ q.v) -ℤ (turn_of k l q *ℤ p.v)
  balance_v = ring (four k l p q) ((turns (seen 6) (seen 9) (seen 3) ⊗ var 1) ⊖ (turns (seen 6) (seen 9) (seen 0) ⊗ var 4)) ((turns (seen 0) (seen 3) (seen 6) ⊗ var 10) ⊖ (turns (seen 0) (seen 3) (seen 9) ⊗ var 7)) refl

  balance_w : (turn_of p q l *ℤ k.w) -ℤ (turn_of p q k *ℤ l.w) ≡ (turn_of k l p *ℤ q.w) -ℤ (turn_of k l q *ℤ p.w)
  balance_w = ring (four k l p q) ((turns (seen 6) (seen 9) (seen 3) ⊗ var 2) ⊖ (turns (seen 6) (seen 9) (seen 0) ⊗ var 5)) ((turns (seen 0) (seen 3) (seen 6) ⊗ var 11) ⊖ (turns (seen 0) (seen 3) (seen 9) ⊗ var 8)) refl

-- the two sides of a balance with sizes for weights: as they stand, or turned
left_up : (y y' k l : ℤ) → y ≤ℤ pos 0 → pos 0 ≤ℤ y' → (pos (unsigned_abs y') *ℤ k) +ℤ (pos (unsigned_abs y) *ℤ l) ≡ (y' *ℤ k) -ℤ (y *ℤ l)
left_up y y' k l h g = (λ i. (abs_of_not_negative y' g i *ℤ k) +ℤ (abs_of_not_positive y h i *ℤ l)) ∙ ring (y ∷ y' ∷ k ∷ l ∷ []) ((var 1 ⊗ var 2) ⊕ ((con (pos 0) ⊖ var 0) ⊗ var 3)) ((var 1 ⊗ var 2) ⊖ (var 0 ⊗ var 3)) refl

left_down : (y y' k l : ℤ) → pos 0 ≤ℤ y → y' ≤ℤ pos 0 → (pos (unsigned_abs y') *ℤ k) +ℤ (pos (unsigned_abs y) *ℤ l) ≡ pos 0 -ℤ ((y' *ℤ k) -ℤ (y *ℤ l))
left_down y y' k l h g = (λ i. (abs_of_not_positive y' g i *ℤ k) +ℤ (abs_of_not_negative y h i *ℤ l)) ∙ ring (y ∷ y' ∷ k ∷ l ∷ []) (((con (pos 0) ⊖ var 1) ⊗ var 2) ⊕ (var 0 ⊗ var 3)) (con (pos 0) ⊖ ((var 1 ⊗ var 2) ⊖ (var 0 ⊗ var 3))) refl

right_up : (x x' p q : ℤ) → x ≤ℤ pos 0 → pos 0 ≤ℤ x' → (pos (unsigned_abs x') *ℤ p) +ℤ (pos (unsigned_abs x) *ℤ q) ≡ pos 0 -ℤ ((x *ℤ q) -ℤ (x' *ℤ p))
right_up x x' p q h g = (λ i. (abs_of_not_negative x' g i *ℤ p) +ℤ (abs_of_not_positive x h i *ℤ q)) ∙ ring (x ∷ x' ∷ p ∷ q ∷ []) ((var 1 ⊗ var 2) ⊕ ((con (pos 0) ⊖ var 0) ⊗ var 3)) (con (pos 0) ⊖ ((var 0 ⊗ var 3) ⊖ (var 1 ⊗ var 2))) refl

right_down : (x x' p q : ℤ) → pos 0 ≤ℤ x → x' ≤ℤ pos 0 → (pos (unsigned_abs x') *ℤ p) +ℤ (pos (unsigned_abs x) *ℤ q) ≡ (x *ℤ q) -ℤ (x' *ℤ p)
right_down x x' p q h g = (λ i. (abs_of_not_positive x' g i *ℤ p) +ℤ (abs_of_not_negative x h i *ℤ q)) ∙ ring (x ∷ x' ∷ p ∷ q ∷ []) (((con (pos 0) ⊖ var 1) ⊗ var 2) ⊕ (var 0 ⊗ var 3)) ((var 0 ⊗ var 3) ⊖ (var 1 ⊗ var 2)) refl

turned : (l l' r r' : ℤ) → l ≡ pos 0 -ℤ l' → r ≡ pos 0 -ℤ r' → l' ≡ r' → l ≡ r
turned l l' r r' e g h = omega (arith, ints)

-- sums of which one is turned are nothing
opposite : (l l' r r' : ℤ) → l ≡ l' → r ≡ pos 0 -ℤ r' → l' ≡ r' → l +ℤ r ≡ pos 0
opposite l l' r r' e g h = omega (arith, ints)

opposite_back : (l l' r r' : ℤ) → l ≡ pos 0 -ℤ l' → r ≡ r' → l' ≡ r' → l +ℤ r ≡ pos 0
opposite_back l l' r r' e g h = omega (arith, ints)

module _ (k l p q : Sight) (k_there : pos 0 <ℤ k.w) (l_there : pos 0 <ℤ l.w) (p_there : pos 0 <ℤ p.w) (q_there : pos 0 <ℤ q.w) where
  no_weight : (i j g h : ℕ) → ((pos i *ℤ k.w) +ℤ (pos j *ℤ l.w)) +ℤ ((pos g *ℤ p.w) +ℤ (pos h *ℤ q.w)) ≡ pos 0 → 0 < h + g + j + i → ⊥
  no_weight i j g h e some = by (cases_lt 0 (i + j)) (cases_lt 0 (g + h))
    where
      clash : (a b : ℤ) → a +ℤ b ≡ pos 0 → pos 0 <ℤ a → pos 0 ≤ℤ b → ⊥
      clash a b e h g = omega (arith, ints)

      clash_second : (a b : ℤ) → a +ℤ b ≡ pos 0 → pos 0 ≤ℤ a → pos 0 <ℤ b → ⊥
      clash_second a b e h g = omega (arith, ints)

      none : (i j : ℕ) (a b : ℤ) → i + j ≤ 0 → pos 0 ≤ℤ ((pos i *ℤ a) +ℤ (pos j *ℤ b))
      none zero zero a b h = not_negative_of_zero _ (ring (a ∷ b ∷ []) ((con (pos 0) ⊗ var 0) ⊕ (con (pos 0) ⊗ var 1)) (con (pos 0)) refl)
      none zero (suc j) a b h = absurd (omega arith)
      none (suc i) j a b h = absurd (omega arith)

      by : (0 < i + j) ⊎ (i + j ≤ 0) → (0 < g + h) ⊎ (g + h ≤ 0) → ⊥
      by (inl a) (inl b) = clash _ _ e (sum_pos k.w l.w i j k_there l_there a) (not_negative_of_positive _ (sum_pos p.w q.w g h p_there q_there b))
      by (inl a) (inr b) = clash _ _ e (sum_pos k.w l.w i j k_there l_there a) (none g h p.w q.w b)
      by (inr a) (inl b) = clash_second _ _ e (none i j k.w l.w a) (sum_pos p.w q.w g h p_there q_there b)
      by (inr a) (inr b) = omega arith

  -- equal sums of which one has weights: so has the other
  other_weight : (i j g h : ℕ) (a b c d : ℤ) → pos 0 <ℤ a → pos 0 <ℤ b → (pos i *ℤ a) +ℤ (pos j *ℤ b) ≡ (pos g *ℤ c) +ℤ (pos h *ℤ d) → 0 < i + j → 0 < g + h
  other_weight i j zero zero a b c d p q e some = absurd (clash _ _ e (ring (c ∷ d ∷ []) ((con (pos 0) ⊗ var 0) ⊕ (con (pos 0) ⊗ var 1)) (con (pos 0)) refl) (sum_pos a b i j p q some))
    where
      clash : (x y : ℤ) → x ≡ y → y ≡ pos 0 → pos 0 <ℤ x → ⊥
      clash x y e g h = omega (arith, ints)
  other_weight i j (suc g) h a b c d p q e some = omega arith
  other_weight i j zero (suc h) a b c d p q e some = omega arith

  pub meeting : AreAcross (turn_of k l p) (turn_of k l q) (turn_of p q k) (turn_of p q l) → AreOneSum k l p q (turn_of k l p) (turn_of k l q)
  meeting across = by across.first across.second
    where
      x : ℤ
      x = turn_of k l p

      x' : ℤ
      x' = turn_of k l q

      y : ℤ
      y = turn_of p q k

      y' : ℤ
      y' = turn_of p q l

      some : 0 < unsigned_abs x + unsigned_abs x' + unsigned_abs y + unsigned_abs y'
      some = across.some

      sum : (pos (unsigned_abs y') *ℤ k.u) +ℤ (pos (unsigned_abs y) *ℤ l.u) ≡ (pos (unsigned_abs x') *ℤ p.u) +ℤ (pos (unsigned_abs x) *ℤ q.u)
          → (pos (unsigned_abs y') *ℤ k.v) +ℤ (pos (unsigned_abs y) *ℤ l.v) ≡ (pos (unsigned_abs x') *ℤ p.v) +ℤ (pos (unsigned_abs x) *ℤ q.v)
          → (pos (unsigned_abs y') *ℤ k.w) +ℤ (pos (unsigned_abs y) *ℤ l.w) ≡ (pos (unsigned_abs x') *ℤ p.w) +ℤ (pos (unsigned_abs x) *ℤ q.w)
          → AreOneSum k l p q x x'
      sum u v w = record { i = unsigned_abs y'; j = unsigned_abs y; u = u; v = v; w = w; some_ends = ends; some_sights = sights }
        where
          ends : 0 < unsigned_abs y' + unsigned_abs y
          ends = from (cases_lt 0 (unsigned_abs x' + unsigned_abs x))
            where
              from : (0 < unsigned_abs x' + unsigned_abs x) ⊎ (unsigned_abs x' + unsigned_abs x ≤ 0) → 0 < unsigned_abs y' + unsigned_abs y
              from (inl h) = other_weight (unsigned_abs x') (unsigned_abs x) (unsigned_abs y') (unsigned_abs y) p.w q.w k.w l.w p_there q_there (sym w) h
              from (inr h) = omega arith

          sights : 0 < unsigned_abs x' + unsigned_abs x
          sights = other_weight (unsigned_abs y') (unsigned_abs y) (unsigned_abs x') (unsigned_abs x) k.w l.w p.w q.w k_there l_there w ends

      by : IsAcross x x' → IsAcross y y' → AreOneSum k l p q x x'
      by (down h g) (up f e) = sum
          (left_up y y' k.u l.u f e ∙ balance_u k l p q ∙ sym (right_down x x' p.u q.u h g))
          (left_up y y' k.v l.v f e ∙ balance_v k l p q ∙ sym (right_down x x' p.v q.v h g))
          (left_up y y' k.w l.w f e ∙ balance_w k l p q ∙ sym (right_down x x' p.w q.w h g))
      by (up h g) (down f e) = sum
          (turned _ _ _ _ (left_down y y' k.u l.u f e) (right_up x x' p.u q.u h g) (balance_u k l p q))
          (turned _ _ _ _ (left_down y y' k.v l.v f e) (right_up x x' p.v q.v h g) (balance_v k l p q))
          (turned _ _ _ _ (left_down y y' k.w l.w f e) (right_up x x' p.w q.w h g) (balance_w k l p q))
      by (up h g) (up f e) = absurd (no_weight (unsigned_abs y') (unsigned_abs y) (unsigned_abs x') (unsigned_abs x)
          (opposite _ _ _ _ (left_up y y' k.w l.w f e) (right_up x x' p.w q.w h g) (balance_w k l p q)) some)
      by (down h g) (down f e) = absurd (no_weight (unsigned_abs y') (unsigned_abs y) (unsigned_abs x') (unsigned_abs x)
          (opposite_back _ _ _ _ (left_down y y' k.w l.w f e) (right_down x x' p.w q.w h g) (balance_w k l p q)) some)
