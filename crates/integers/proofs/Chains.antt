-- What two orders among three values say of the third, also where values are compared by one key after another.
use Rattle.std.proofs.Common.{◌≡◌, [], ◌∷◌, true, refl, sym, ap, subst, ◌∙◌}
use Rattle.std.specs.Prelude.{ℤ, pos, ◌*ℤ◌, ◌<ℤ◌}
use Rattle.std.specs.Cmp.{IsTotalOrder, int_cmp_total, alike_right}
use Rattle.std.specs.Ordering.{int_cmp, ordering_then, is_lt}
use Rattle.std.specs.declared.cmp.Ordering.{Ordering}
use Rattle.std.specs.declared.cmp.Ordering.TheVariants.{Less, Equal, Greater}
use Rattle.integers.proofs.Ring.{var, ◌⊗◌, ring}
use Rattle.integers.proofs.Orders.{int_cmp-mul}

-- r, s and t are the orders of x and y, of y and z, and of x and z
pub record Chains (r s t : Ordering) : Type 0 where
  pub less : r ≡ Less → s ≡ Less → t ≡ Less
  pub first : r ≡ Equal → t ≡ s
  pub second : s ≡ Equal → t ≡ r

-- of one thing, and then of another
module _ (r s t r' s' t' : Ordering) (h : Chains r s t) (k : Chains r' s' t') where
  less_then : ordering_then r r' ≡ Less → ordering_then s s' ≡ Less → ordering_then t t' ≡ Less
  less_then = by r s h.less h.first h.second
    where
      by : (r s : Ordering) → (r ≡ Less → s ≡ Less → t ≡ Less) → (r ≡ Equal → t ≡ s) → (s ≡ Equal → t ≡ r)
          → ordering_then r r' ≡ Less → ordering_then s s' ≡ Less → ordering_then t t' ≡ Less
      by Less Less less first second p q = ap (λ o. ordering_then o t') (less refl refl)
      by Less Equal less first second p q = ap (λ o. ordering_then o t') (second refl)
      by Less Greater less first second p q = cc
      by Equal Less less first second p q = ap (λ o. ordering_then o t') (first refl)
      by Equal Equal less first second p q = ap (λ o. ordering_then o t') (first refl) ∙ k.less p q
      by Equal Greater less first second p q = cc
      by Greater s less first second p q = cc

  first_then : ordering_then r r' ≡ Equal → ordering_then t t' ≡ ordering_then s s'
  first_then = by r h.first
    where
      by : (r : Ordering) → (r ≡ Equal → t ≡ s) → ordering_then r r' ≡ Equal → ordering_then t t' ≡ ordering_then s s'
      by Less first p = cc
      by Equal first p = λ i. ordering_then (first refl i) (k.first p i)
      by Greater first p = cc

  second_then : ordering_then s s' ≡ Equal → ordering_then t t' ≡ ordering_then r r'
  second_then = by s h.second
    where
      by : (s : Ordering) → (s ≡ Equal → t ≡ r) → ordering_then s s' ≡ Equal → ordering_then t t' ≡ ordering_then r r'
      by Less second p = cc
      by Equal second p = λ i. ordering_then (second refl i) (k.second p i)
      by Greater second p = cc

  pub chained : Chains (ordering_then r r') (ordering_then s s') (ordering_then t t')
  chained = record { less = less_then; first = first_then; second = second_then }

pub chained_total : {K : Type 0} {R : K → K → Ordering} → IsTotalOrder R → (x y z : K) → Chains (R x y) (R y z) (R x z)
chained_total total x y z = record {
  less = total.trans x y z;
  first = λ p. total.congr x y z p;
  second = λ p. sym (alike_right total y z x p);
}

turned : (a b c : ℤ) → (a *ℤ b) *ℤ c ≡ (a *ℤ c) *ℤ b
turned a b c = ring (a ∷ b ∷ c ∷ []) ((var 0 ⊗ var 1) ⊗ var 2) ((var 0 ⊗ var 2) ⊗ var 1) refl

-- fractions, by their cross products
module _ (k l m n p q : ℤ) (hl : pos 0 <ℤ l) (hn : pos 0 <ℤ n) (hq : pos 0 <ℤ q) where
  abbrev x : ℤ
  x = (k *ℤ n) *ℤ q

  abbrev y : ℤ
  y = (m *ℤ l) *ℤ q

  abbrev z : ℤ
  z = (p *ℤ l) *ℤ n

  y-z : int_cmp y z ≡ int_cmp (m *ℤ q) (p *ℤ n)
  y-z = (λ i. int_cmp (turned m l q i) (turned p l n i)) ∙ int_cmp-mul (m *ℤ q) (p *ℤ n) l hl

  x-z : int_cmp x z ≡ int_cmp (k *ℤ q) (p *ℤ l)
  x-z = ap (λ (o : ℤ). int_cmp o z) (turned k n q) ∙ int_cmp-mul (k *ℤ q) (p *ℤ l) n hn

  pub chained_ratios : Chains (int_cmp (k *ℤ n) (m *ℤ l)) (int_cmp (m *ℤ q) (p *ℤ n)) (int_cmp (k *ℤ q) (p *ℤ l))
  chained_ratios =
      subst (λ (o : Ordering). Chains (int_cmp (k *ℤ n) (m *ℤ l)) (int_cmp (m *ℤ q) (p *ℤ n)) o) x-z
      (subst (λ (o : Ordering). Chains (int_cmp (k *ℤ n) (m *ℤ l)) o (int_cmp x z)) y-z
      (subst (λ (o : Ordering). Chains o (int_cmp y z) (int_cmp x z)) (int_cmp-mul (k *ℤ n) (m *ℤ l) q hq) (chained_total int_cmp_total x y z)))

-- what isn't greater than something less is less
pub before_less : (r s t : Ordering) → Chains r s t → is_lt s ≡ true → ¬ (r ≡ Greater) → is_lt t ≡ true
before_less Less Less t h p q = ap is_lt (h.less refl refl)
before_less Less Equal t h p q = cc
before_less Less Greater t h p q = cc
before_less Equal s t h p q = ap is_lt (h.first refl) ∙ p
before_less Greater s t h p q = absurd (q refl)
