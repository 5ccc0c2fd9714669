-- What is so of a fraction is so of the same numbers.
use Rattle.std.proofs.Common.{◌≡◌, refl, subst, ◌∙◌, sym}
use Rattle.std.specs.Prelude.{ℤ, ◌*ℤ◌, ◌<ℤ◌, ◌≤ℤ◌}
use Rattle.exact_frac.specs.declared.Frac.{Frac}
use Rattle.geometry.specs.Places.{IsSame, IsEarlier, IsValue, IsBetween, IsFromTo}

pub same : (a : Frac) → IsSame a a
same a = (refl, refl)

pub same_back : (a b : Frac) → IsSame a b → IsSame b a
same_back a b p = (sym p.0, sym p.1)

pub same_trans : (a b c : Frac) → IsSame a b → IsSame b c → IsSame a c
same_trans a b c p q = (p.0 ∙ q.0, p.1 ∙ q.1)

pub same_from_to : (a b c d : Frac) (n m : ℤ) → IsSame a c → IsSame b d → IsFromTo a b n m → IsFromTo c d n m
same_from_to a b c d n m p q h = (
  subst (λ v. (v *ℤ m) ≤ℤ (n *ℤ c.den)) p.0 (subst (λ v. (a.num *ℤ m) ≤ℤ (n *ℤ v)) p.1 h.0),
  subst (λ v. (n *ℤ d.den) ≤ℤ (v *ℤ m)) q.0 (subst (λ v. (n *ℤ v) ≤ℤ (b.num *ℤ m)) q.1 h.1),
)

pub same_between : (a b c d : Frac) (n m : ℤ) → IsSame a c → IsSame b d → IsBetween a b n m → IsBetween c d n m
same_between a b c d n m p q h = (
  subst (λ v. (v *ℤ m) <ℤ (n *ℤ c.den)) p.0 (subst (λ v. (a.num *ℤ m) <ℤ (n *ℤ v)) p.1 h.0),
  subst (λ v. (n *ℤ d.den) <ℤ (v *ℤ m)) q.0 (subst (λ v. (n *ℤ v) <ℤ (b.num *ℤ m)) q.1 h.1),
)

pub same_earlier : (a b c d : Frac) → IsSame a c → IsSame b d → IsEarlier a b → IsEarlier c d
same_earlier a b c d p q h =
    subst (λ v. (c.num *ℤ d.den) <ℤ (v *ℤ c.den)) q.0 (subst (λ v. (c.num *ℤ d.den) <ℤ (b.num *ℤ v)) p.1
    (subst (λ v. (c.num *ℤ v) <ℤ (b.num *ℤ a.den)) q.1 (subst (λ v. (v *ℤ b.den) <ℤ (b.num *ℤ a.den)) p.0 h)))

pub same_value : (a b : Frac) (n m : ℤ) → IsSame a b → IsValue a n m → IsValue b n m
same_value a b n m p h = subst (λ v. n *ℤ b.den ≡ v *ℤ m) p.0 (subst (λ v. n *ℤ v ≡ a.num *ℤ m) p.1 h)

pub same_not_later : (a b c d : Frac) → IsSame a c → IsSame b d → (a.num *ℤ b.den) ≤ℤ (b.num *ℤ a.den) → (c.num *ℤ d.den) ≤ℤ (d.num *ℤ c.den)
same_not_later a b c d p q h =
    subst (λ v. (c.num *ℤ d.den) ≤ℤ (v *ℤ c.den)) q.0 (subst (λ v. (c.num *ℤ d.den) ≤ℤ (b.num *ℤ v)) p.1
    (subst (λ v. (c.num *ℤ v) ≤ℤ (b.num *ℤ a.den)) q.1 (subst (λ v. (v *ℤ b.den) ≤ℤ (b.num *ℤ a.den)) p.0 h)))
