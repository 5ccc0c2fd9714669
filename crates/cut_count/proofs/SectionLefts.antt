-- On which side of a border the section is, by its middle and by the order of its two ends.
use Rattle.std.proofs.Common.{◌≡◌, ◌↔◌, ◌⊎◌, inl, inr, Bool, true, false, [], ◌∷◌, refl, sym, subst, arith}
use Rattle.std.specs.Prelude.{ℤ, pos, ◌+ℤ◌, ◌*ℤ◌, ◌<ℤ◌, ◌≤ℤ◌, IsTrue, MatchBool}
use Rattle.std.specs.Cmp.{int_ranks}
use Rattle.std.specs.Ordering.{int_cmp, is_lt, MatchOrdering}
use Rattle.std.specs.declared.cmp.Ordering.{Ordering}
use Rattle.std.specs.declared.cmp.Ordering.TheVariants.{Less, Equal, Greater}
use Rattle.std.proofs.lemmas.Int.{ints, by_lt_z}
use Rattle.integers.proofs.Ring.{var, con, ◌⊕◌, ◌⊗◌, ring}
use mathlib.Core.Bool.{beq}
use Rattle.lattice.specs.Triple.{Triple}
use Rattle.lattice.specs.Points.{Point, across_of, upward_of, OnOneSight}
use Rattle.lattice.specs.Cuts.{Plane, toward_of}
use Rattle.geometry.specs.Cuts.{IsInSection}
use Rattle.geometry.specs.Parts.{Part}
use Rattle.cut_plane.proofs.Lists.{not_true}
use Rattle.cut_count_laws.specs.BorderShares.{middle_of, HasGreaterLeft, HasSectionLeft}

-- ---- the order of two ends
pub less_of_lt : (x y : ℤ) (b : Bool) → b ≡ is_lt (int_cmp x y) → IsTrue b ↔ (x <ℤ y)
less_of_lt x y b e = by (int_cmp x y) (int_ranks x y) e
  where
    by : (r : Ordering) → MatchOrdering r (x <ℤ y) (x ≡ y) (y <ℤ x) → b ≡ is_lt r → IsTrue b ↔ (x <ℤ y)
    by Less h f = ((λ t. h), (λ t. f))
    by Equal h f = ((λ t. absurd (not_true b f t)), (λ t. absurd (omega (arith, ints))))
    by Greater h f = ((λ t. absurd (not_true b f t)), (λ t. absurd (omega (arith, ints))))

pub level_told : (x y u v : ℤ) (b : Bool) → y ≡ x → IsTrue b ↔ (u <ℤ v) → IsTrue b ↔ ((y <ℤ x) ⊎ ((x ≡ y) × (u <ℤ v)))
level_told x y u v b e told = ((λ t. inr (sym e, told.0 t)), by)
  where
    by : (y <ℤ x) ⊎ ((x ≡ y) × (u <ℤ v)) → IsTrue b
    by (inl h) = absurd (omega (arith, ints))
    by (inr h) = told.1 h.1

module _ (d : Triple) (p q : Point) where
  greater_not_both : HasGreaterLeft d p q → HasGreaterLeft d q p → ⊥
  greater_not_both h g = go (upward_of d p *ℤ q.w) (upward_of d q *ℤ p.w) (across_of d p *ℤ q.w) (across_of d q *ℤ p.w) h g
    where
      go : (x y u v : ℤ) → (y <ℤ x) ⊎ ((x ≡ y) × (u <ℤ v)) → (x <ℤ y) ⊎ ((y ≡ x) × (v <ℤ u)) → ⊥
      go x y u v (inl h) (inl g) = omega (arith, ints)
      go x y u v (inl h) (inr (e, g)) = omega (arith, ints)
      go x y u v (inr (e, h)) (inl g) = omega (arith, ints)
      go x y u v (inr (e, h)) (inr (f, g)) = omega (arith, ints)

  greater_back : ¬ OnOneSight d p q → ¬ HasGreaterLeft d p q → HasGreaterLeft d q p
  greater_back apart not = go (upward_of d p *ℤ q.w) (upward_of d q *ℤ p.w) (across_of d p *ℤ q.w) (across_of d q *ℤ p.w) (λ e f. apart (record { across = f; upward = e })) not
    where
      go : (x y u v : ℤ) → (x ≡ y → u ≡ v → ⊥) → ¬ ((y <ℤ x) ⊎ ((x ≡ y) × (u <ℤ v))) → (x <ℤ y) ⊎ ((y ≡ x) × (v <ℤ u))
      go x y u v apart not =
          by_lt_z y x (λ h. absurd (not (inl h))) (λ h. by_lt_z x y inl (λ g. let e = same x y h g in inr (sym e, by_lt_z v u (λ k. k) (λ k. by_lt_z u v (λ l. absurd (not (inr (e, l)))) (λ l. absurd (apart e (same u v k l)))))))
        where
          same : (a b : ℤ) → a ≤ℤ b → b ≤ℤ a → a ≡ b
          same a b h g = omega (arith, ints)

module _ (p q : Point) where
  middle_back : middle_of q p ≡ middle_of p q
  middle_back = λ t. record { x = sum q.x p.w p.x q.w t; y = sum q.y p.w p.y q.w t; z = sum q.z p.w p.z q.w t; w = double q.w p.w t }
    where
      sum : (a b u v : ℤ) → (a *ℤ b) +ℤ (u *ℤ v) ≡ (u *ℤ v) +ℤ (a *ℤ b)
      sum a b u v = ring (a ∷ b ∷ u ∷ v ∷ []) ((var 0 ⊗ var 1) ⊕ (var 2 ⊗ var 3)) ((var 2 ⊗ var 3) ⊕ (var 0 ⊗ var 1)) refl

      double : (a b : ℤ) → pos 2 *ℤ (a *ℤ b) ≡ pos 2 *ℤ (b *ℤ a)
      double a b = ring (a ∷ b ∷ []) (con (pos 2) ⊗ (var 0 ⊗ var 1)) (con (pos 2) ⊗ (var 1 ⊗ var 0)) refl

-- ---- the section
module _ (c : Plane) (s : Part) (p q : Point) where
  abbrev Inside : Type 0
  Inside = IsInSection c s (middle_of p q)

  there_back : Inside → IsInSection c s (middle_of q p)
  there_back h = subst (IsInSection c s) (sym (middle_back p q)) h

  back_there : IsInSection c s (middle_of q p) → Inside
  back_there h = subst (IsInSection c s) (middle_back p q) h

  -- it is on one side alone
  pub one_left : HasSectionLeft c s p q → HasSectionLeft c s q p → ⊥
  one_left (inl (g, i)) (inl (h, j)) = greater_not_both (toward_of c) p q g h
  one_left (inl (g, i)) (inr (h, n)) = n (there_back i)
  one_left (inr (g, n)) (inl (h, j)) = n (back_there j)
  one_left (inr (g, n)) (inr (h, m)) = greater_not_both (toward_of c) p q h g

  pub left_told : ¬ OnOneSight (toward_of c) p q → (h i : Bool) → IsTrue h ↔ HasGreaterLeft (toward_of c) p q → IsTrue i ↔ Inside
      → MatchBool (beq h i) (HasSectionLeft c s p q) (HasSectionLeft c s q p)
  left_told apart true true greater inside = inl (greater.0 refl, inside.0 refl)
  left_told apart true false greater inside = inr (greater.0 refl, (λ j. not_true false refl (inside.1 (back_there j))))
  left_told apart false true greater inside = inl (greater_back (toward_of c) p q apart (λ g. not_true false refl (greater.1 g)), there_back (inside.0 refl))
  left_told apart false false greater inside = inr (greater_back (toward_of c) p q apart (λ g. not_true false refl (greater.1 g)), (λ j. not_true false refl (inside.1 j)))
