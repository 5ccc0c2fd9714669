-- A turn between two ways, and an angle that either way may be in.
use Rattle.std.proofs.Common.{◌≡◌, ◌⊎◌, true, inl, inr, [], ◌∷◌, refl, sym, ap, ◌∙◌}
use Rattle.std.specs.Prelude.{ℤ, pos, ◌+ℤ◌, ◌-ℤ◌, ◌*ℤ◌}
use Rattle.integers.proofs.Ring.{Expr, var, con, ◌⊕◌, ◌⊖◌, ◌⊗◌, ring}
use Rattle.hiding_laws.specs.inner.Tallies.{IsTally}
use Rattle.hiding_laws.specs.inner.Tallies.{yes, no}
use Rattle.geometry.specs.Turns.{Way, turn_from, Passes}
use Rattle.hiding_laws.proofs.TurnLaw.{TurnLaw}
use Rattle.hiding_laws.proofs.SignTable.{Sign, minus, none, plus, sign_of, negated, times, balanced, two, count, table, sign_neg, sign_mul, sign_sum, sign_some, plus_of, of_plus}

no_two : (x y w : Sign) → ¬ ((x ≡ plus) × (y ≡ plus)) → ¬ ((y ≡ plus) × (w ≡ plus)) → ¬ ((w ≡ plus) × (x ≡ plus)) → pos 0 ≡ count (two x y w)
no_two minus minus minus n k l = refl
no_two minus minus none n k l = refl
no_two minus minus plus n k l = refl
no_two minus none minus n k l = refl
no_two minus none none n k l = refl
no_two minus none plus n k l = refl
no_two minus plus minus n k l = refl
no_two minus plus none n k l = refl
no_two minus plus plus n k l = absurd (k (refl, refl))
no_two none minus minus n k l = refl
no_two none minus none n k l = refl
no_two none minus plus n k l = refl
no_two none none minus n k l = refl
no_two none none none n k l = refl
no_two none none plus n k l = refl
no_two none plus minus n k l = refl
no_two none plus none n k l = refl
no_two none plus plus n k l = absurd (k (refl, refl))
no_two plus minus minus n k l = refl
no_two plus minus none n k l = refl
no_two plus minus plus n k l = absurd (l (refl, refl))
no_two plus none minus n k l = refl
no_two plus none none n k l = refl
no_two plus none plus n k l = absurd (l (refl, refl))
no_two plus plus minus n k l = absurd (n (refl, refl))
no_two plus plus none n k l = absurd (n (refl, refl))
no_two plus plus plus n k l = absurd (n (refl, refl))

last_two : (x : Sign) → count (two x plus plus) ≡ pos 1
last_two minus = refl
last_two none = refl
last_two plus = refl

outer_two : (y : Sign) → count (two plus y plus) ≡ pos 1
outer_two minus = refl
outer_two none = refl
outer_two plus = refl

-- the three signs tell whether a turn passes
tally_two : {A B C : Type 0} {z : ℤ} (x y w : Sign) → (A → x ≡ plus) → (x ≡ plus → A) → (B → y ≡ plus) → (y ≡ plus → B) → (C → w ≡ plus) → (w ≡ plus → C)
    → IsTally ((A × B) ⊎ (B × C) ⊎ (C × A)) z → z ≡ count (two x y w)
tally_two x y w a a' b b' c c' (yes (inl h)) = sym (λ t. count (two (a h.0 t) (b h.1 t) w))
tally_two x y w a a' b b' c c' (yes (inr (inl h))) = sym ((λ t. count (two x (b h.0 t) (c h.1 t))) ∙ last_two x)
tally_two x y w a a' b b' c c' (yes (inr (inr h))) = sym ((λ t. count (two (a h.1 t) y (c h.0 t))) ∙ outer_two y)
tally_two x y w a a' b b' c c' (no n) = no_two x y w (λ h. n (inl (a' h.0, b' h.1))) (λ h. n (inr (inl (b' h.0, c' h.1)))) (λ h. n (inr (inr (c' h.0, a' h.1))))

module _ (u v g h : Way) where
  reversed : (x y : Way) → turn_from y x ≡ pos 0 -ℤ turn_from x y
  reversed x y = ring (x.u ∷ x.v ∷ y.u ∷ y.v ∷ []) ((var 2 ⊗ var 1) ⊖ (var 3 ⊗ var 0)) (con (pos 0) ⊖ ((var 0 ⊗ var 3) ⊖ (var 1 ⊗ var 2))) refl

  -- the six turns among four ways
  six : ((turn_from u g *ℤ turn_from h v) +ℤ (pos 0 -ℤ (turn_from u h *ℤ turn_from g v))) +ℤ (turn_from u v *ℤ turn_from g h) ≡ pos 0
  six =
      let x = λ (a b c d : Expr). (a ⊗ d) ⊖ (b ⊗ c) in
      let U = var 0 in let U' = var 1 in let V = var 2 in let V' = var 3 in let G = var 4 in let G' = var 5 in let H = var 6 in let H' = var 7 in
      ring (u.u ∷ u.v ∷ v.u ∷ v.v ∷ g.u ∷ g.v ∷ h.u ∷ h.v ∷ [])
      (((x U U' G G' ⊗ x H H' V V') ⊕ (con (pos 0) ⊖ (x U U' H H' ⊗ x G G' V V'))) ⊕ (x U U' V V' ⊗ x G G' H H')) (con (pos 0)) refl

  abbrev S : Way → Way → Sign
  S x y = sign_of (turn_from x y)

  signs : balanced (times (S u g) (S h v)) (negated (times (S u h) (S g v))) (times (S u v) (S g h)) ≡ true
  signs =
      (λ t. balanced (sym (sign_mul (turn_from u g) (turn_from h v)) t)
      ((sym (ap negated (sign_mul (turn_from u h) (turn_from g v))) ∙ sym (sign_neg (turn_from u h *ℤ turn_from g v))) t)
      (sym (sign_mul (turn_from u v) (turn_from g h)) t))
      ∙ sign_sum (turn_from u g *ℤ turn_from h v) (pos 0 -ℤ (turn_from u h *ℤ turn_from g v)) (turn_from u v *ℤ turn_from g h) six

  opposite : (x y : Way) → S y x ≡ negated (S x y)
  opposite x y = ap sign_of (reversed x y) ∙ sign_neg (turn_from x y)

  passes_is : (x w y : Way) {z : ℤ} → IsTally (Passes x w y) z → z ≡ count (two (S x w) (S w y) (S y x))
  passes_is x w y t = tally_two (S x w) (S w y) (S y x) (plus_of _) (of_plus _) (plus_of _) (of_plus _) (plus_of _) (of_plus _) t

  pub turn_change : {before after enters leaves : ℤ}
      → ¬ (turn_from u g ≡ pos 0) → ¬ (turn_from u h ≡ pos 0) → ¬ (turn_from g v ≡ pos 0) → ¬ (turn_from h v ≡ pos 0)
      → IsTally (Passes g u h) before → IsTally (Passes g v h) after → IsTally (Passes u g v) enters → IsTally (Passes u h v) leaves
      → after -ℤ before ≡ enters -ℤ leaves
  turn_change ug uh gv hv t t' x y =
      (λ i. passes_is g v h t' i -ℤ passes_is g u h t i)
      ∙ (λ i. count (two (S g v) (opposite h v i) (opposite g h i)) -ℤ count (two (opposite u g i) (S u h) (opposite g h i)))
      ∙ table (S u g) (S u h) (S u v) (S g h) (S g v) (S h v) (sign_some _ ug) (sign_some _ uh) (sign_some _ gv) (sign_some _ hv) signs
      ∙ sym (λ i. count (two (S u g) (S g v) (opposite u v i)) -ℤ count (two (S u h) (S h v) (opposite u v i)))
      ∙ sym (λ i. passes_is u g v x i -ℤ passes_is u h v y i)

pub turn_law : TurnLaw
turn_law u v g h before after enters leaves ug uh gv hv t t' x y = turn_change u v g h ug uh gv hv t t' x y
