-- The test for a crease by two fractions.
use Rattle.std.proofs.Common.{◌≡◌, ◌⊎◌, inl, inr, ◌↔◌, arith, [], ◌∷◌, Bool, IsTrue, refl, sym, subst, ◌∙◌}
use Rattle.std.specs.Prelude.{ℤ, pos, ◌+ℤ◌, ◌*ℤ◌, ◌≤ℤ◌, ◌<ℤ◌}
use Rattle.std.specs.Cmp.{int_ranks}
use Rattle.std.specs.Ordering.{int_cmp, is_lt, MatchOrdering}
use Rattle.std.specs.declared.cmp.Ordering.{Ordering}
use Rattle.std.specs.declared.cmp.Ordering.TheVariants.{Less, Equal, Greater}
use Rattle.std.proofs.lemmas.Int.{ints, by_lt_z}
use Rattle.integers.proofs.Ring.{ring, var, con, ◌⊕◌, ◌⊗◌}
use Rattle.integers.proofs.Signs.{square_nonneg, square_zero}
use Rattle.lattice.specs.Triple.{Triple, dot}

-- what the clause says of the product of two normals and of their squared lengths
abbrev pub Turns : ℤ → ℤ → ℤ → ℤ → Type 0
Turns fraction p a b = (p ≤ℤ pos 0) ⊎ (((pos 1000000 *ℤ p) *ℤ p) <ℤ ((fraction *ℤ a) *ℤ b))

-- p / a is less than f b / (1,000,000 p)
pub by_ratios : (f p a b : ℤ) (r : Bool) → pos 0 <ℤ p → r ≡ is_lt (int_cmp (p *ℤ (pos 1000000 *ℤ p)) ((f *ℤ b) *ℤ a)) → IsTrue r ↔ Turns f p a b
by_ratios f p a b r positive e = go (int_cmp u v) (int_ranks u v) e
  where
    u : ℤ
    u = p *ℤ (pos 1000000 *ℤ p)

    v : ℤ
    v = (f *ℤ b) *ℤ a

    left : p *ℤ (pos 1000000 *ℤ p) ≡ (pos 1000000 *ℤ p) *ℤ p
    left = ring (p ∷ []) (var 0 ⊗ (con (pos 1000000) ⊗ var 0)) ((con (pos 1000000) ⊗ var 0) ⊗ var 0) refl

    right : (f *ℤ b) *ℤ a ≡ (f *ℤ a) *ℤ b
    right = ring (f ∷ a ∷ b ∷ []) ((var 0 ⊗ var 2) ⊗ var 1) ((var 0 ⊗ var 1) ⊗ var 2) refl

    less : u <ℤ v → ((pos 1000000 *ℤ p) *ℤ p) <ℤ ((f *ℤ a) *ℤ b)
    less h = subst (λ (x : ℤ). x <ℤ ((f *ℤ a) *ℤ b)) left (subst (λ (x : ℤ). u <ℤ x) right h)

    back : ((pos 1000000 *ℤ p) *ℤ p) <ℤ ((f *ℤ a) *ℤ b) → u <ℤ v
    back h = subst (λ (x : ℤ). x <ℤ v) (sym left) (subst (λ (x : ℤ). ((pos 1000000 *ℤ p) *ℤ p) <ℤ x) (sym right) h)

    apart : (x y : ℤ) → x <ℤ y → (x ≡ y) ⊎ (y <ℤ x) → ⊥
    apart x y h (inl g) = omega (arith, ints)
    apart x y h (inr g) = omega (arith, ints)

    no : (u ≡ v) ⊎ (v <ℤ u) → Turns f p a b → ⊥
    no g (inl l) = omega (arith, ints, positive, l)
    no g (inr l) = apart u v (back l) g

    go : (o : Ordering) → MatchOrdering o (u <ℤ v) (u ≡ v) (v <ℤ u) → r ≡ is_lt o → IsTrue r ↔ Turns f p a b
    go Less h q = (λ t. inr (less h), λ s. q)
    go Equal h q = (λ t. absurd (cc), λ s. absurd (no (inl h) s))
    go Greater h q = (λ t. absurd (cc), λ s. absurd (no (inr h) s))

-- a vector of length 0 has the scalar product 0 with each vector
pub long_of_product : (l r : Triple) → pos 0 <ℤ dot l r → pos 0 <ℤ dot l l
long_of_product l r h = by_lt_z (pos 0) (dot l l) (λ g. g) (λ g. absurd (none (zero_x g) (zero_y g) (zero_z g)))
  where
    first : (x y z : ℤ) → pos 0 ≤ℤ x → pos 0 ≤ℤ y → pos 0 ≤ℤ z → ((x +ℤ y) +ℤ z) ≤ℤ pos 0 → (x ≤ℤ pos 0) × (y ≤ℤ pos 0) × (z ≤ℤ pos 0)
    first x y z p q s g = (omega (arith, ints), omega (arith, ints), omega (arith, ints))

    parts : dot l l ≤ℤ pos 0 → ((l.x *ℤ l.x) ≤ℤ pos 0) × ((l.y *ℤ l.y) ≤ℤ pos 0) × ((l.z *ℤ l.z) ≤ℤ pos 0)
    parts g = first (l.x *ℤ l.x) (l.y *ℤ l.y) (l.z *ℤ l.z) (square_nonneg l.x) (square_nonneg l.y) (square_nonneg l.z) g

    zero_x : dot l l ≤ℤ pos 0 → l.x ≡ pos 0
    zero_x g = square_zero l.x (parts g).0

    zero_y : dot l l ≤ℤ pos 0 → l.y ≡ pos 0
    zero_y g = square_zero l.y (parts g).1

    zero_z : dot l l ≤ℤ pos 0 → l.z ≡ pos 0
    zero_z g = square_zero l.z (parts g).2

    null : dot (record { x = pos 0; y = pos 0; z = pos 0 }) r ≡ pos 0
    null = ring (r.x ∷ r.y ∷ r.z ∷ []) (((con (pos 0) ⊗ var 0) ⊕ (con (pos 0) ⊗ var 1)) ⊕ (con (pos 0) ⊗ var 2)) (con (pos 0)) refl

    positive : (p : ℤ) → pos 0 <ℤ p → p ≡ pos 0 → ⊥
    positive p g e = omega (arith, ints)

    none : l.x ≡ pos 0 → l.y ≡ pos 0 → l.z ≡ pos 0 → ⊥
    none x y z = positive (dot l r) h ((λ i. ((x i *ℤ r.x) +ℤ (y i *ℤ r.y)) +ℤ (z i *ℤ r.z)) ∙ null)
