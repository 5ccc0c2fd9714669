-- A total order: what comes before what, and where a cut goes.
use Rattle.std.proofs.Common.{◌≡◌, Bool, true, false, refl, sym, ◌∙◌, ap, true≢false, ◌⊎◌, inl, inr}
use Rattle.std.proofs.lemmas.Bool.{not-true}
use Rattle.std.specs.Prelude.{not}
use Rattle.std.specs.declared.cmp.Ordering.{Ordering}
use Rattle.std.specs.declared.cmp.Ordering.TheVariants.{Less, Equal, Greater}
use Rattle.std.specs.Ordering.{ordering_reverse, is_lt}
use Rattle.std.specs.Cmp.{IsTotalOrder}
use Rattle.std.proofs.lemmas.Cmp.{alike_right, tied_itself}
use Rattle.intervals.specs.Cuts.{IsNotAfter, IsCut}
use Rattle.integers.proofs.Orders.{less_of_is_lt}

pub either : (b : Bool) → (b ≡ true) ⊎ (b ≡ false)
either true = inl refl
either false = inr refl

pub not_true : (b : Bool) → ¬ (b ≡ true) → b ≡ false
not_true true h = absurd (h refl)
not_true false h = refl

pub not_less : (r : Ordering) → is_lt r ≡ false → ¬ (r ≡ Less)
not_less r h e = true≢false (sym (ap is_lt e) ∙ h)

not_is_true : (b : Bool) → ¬ (b ≡ true) → not b ≡ true
not_is_true true h = absurd (h refl)
not_is_true false h = refl

turned : (r : Ordering) → Greater ≡ ordering_reverse r → r ≡ Less
turned Less e = refl
turned Equal e = cc
turned Greater e = cc

less_or_not : (r : Ordering) → (r ≡ Less) ⊎ (¬ (r ≡ Less))
less_or_not Less = inl refl
less_or_not Equal = inr (λ e. cc)
less_or_not Greater = inr (λ e. cc)

module _ {T : Type 0} {cmp : T → T → Ordering} (o : IsTotalOrder cmp) where
  pub not_after : (x y : T) → ¬ (cmp x y ≡ Less) → IsNotAfter cmp y x
  not_after x y h k = h (turned (cmp x y) (sym k ∙ o.antisymm y x))

  pub less : (x y : T) → cmp x y ≡ Less → IsNotAfter cmp x y
  less x y h k = cc

  pub itself : (x : T) → IsNotAfter cmp x x
  itself x k = let e = tied_itself o x in cc

  pub not_after_less : (x y z : T) → IsNotAfter cmp x y → cmp y z ≡ Less → cmp x z ≡ Less
  not_after_less x y z h k = go (cmp x y) refl
    where
      go : (r : Ordering) → cmp x y ≡ r → cmp x z ≡ Less
      go Less e = o.trans x y z e k
      go Equal e = o.congr x y z e ∙ k
      go Greater e = absurd (h e)

  pub less_not_after : (x y z : T) → cmp x y ≡ Less → IsNotAfter cmp y z → cmp x z ≡ Less
  less_not_after x y z h k = go (cmp y z) refl
    where
      go : (r : Ordering) → cmp y z ≡ r → cmp x z ≡ Less
      go Less e = o.trans x y z h e
      go Equal e = sym (alike_right o y z x e) ∙ h
      go Greater e = absurd (k e)

  pub not_after_not_after : (x y z : T) → IsNotAfter cmp x y → IsNotAfter cmp y z → IsNotAfter cmp x z
  not_after_not_after x y z h k = go (cmp y z) refl
    where
      go : (r : Ordering) → cmp y z ≡ r → IsNotAfter cmp x z
      go Less e = less x z (not_after_less x y z h e)
      go Equal e = λ l. h (alike_right o y z x e ∙ l)
      go Greater e = absurd (k e)

  pub before_or_not : (x y : T) → (cmp x y ≡ Less) ⊎ (¬ (cmp x y ≡ Less))
  before_or_not x y = less_or_not (cmp x y)

  pub not_both : (x y : T) → cmp x y ≡ Less → IsNotAfter cmp y x → ⊥
  not_both x y h k = let e = not_after_less y x y k h in let same = tied_itself o y in cc

  -- ---- cuts
  pub cut_false : (cut : T → Bool) → IsCut cmp cut → (x y : T) → cut x ≡ false → IsNotAfter cmp x y → cut y ≡ false
  cut_false cut is x y h k = not_true (cut y) (λ e. true≢false (sym (is x y e k) ∙ h))

  -- before the value, and up to it
  pub before_value : (t : T) → IsCut cmp (λ x. is_lt (cmp x t))
  before_value t x y h k = ap is_lt (not_after_less x y t k (less_of_is_lt (cmp y t) h))

  pub up_to_value : (t : T) → IsCut cmp (λ x. not (is_lt (cmp t x)))
  up_to_value t x y h k = not_is_true (is_lt (cmp t x)) (λ e. true≢false (sym (ap is_lt (less_not_after t x y (less_of_is_lt (cmp t x) e) k)) ∙ not-true (is_lt (cmp t y)) h))
