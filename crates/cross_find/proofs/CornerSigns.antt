-- Ways, perturbations and their products as the machine computes them.
use Rattle.std.proofs.Common.{◌≡◌, ◌⊎◌, inl, inr, ◌<◌, ◌≤◌, ◌+◌, ◌*◌, ◌^◌, Bool, refl, sym, ap, subst, ◌∙◌, arith, unsigned_abs, to_z, of_z}
use Rattle.std.specs.Prelude.{ℤ, pos, ◌+ℤ◌, ◌-ℤ◌, ◌*ℤ◌, ◌<ℤ◌, ◌≤ℤ◌, ◌↔◌, IsTrue}
use Rattle.std.specs.Int.{w128}
use Rattle.integers.proofs.Worth.{Reads, below, pass, times, minus, known}
use Rattle.geometry.specs.Counts.{Side, to_left, to_right}
use Rattle.geometry.specs.Turns.{Way, turn_from, product_of}
use Rattle.hiding_laws.specs.inner.Perturbations.{perturbation_between, perturbation_of}
use Rattle.hiding_laws.specs.inner.CornerTests.{PassesBetween}

-- a number below 2^64 passes
pub wide : (x : ℤ) → unsigned_abs x < 2 ^ 64 → to_z w128 (of_z w128 x) ≡ x
wide x h = (pass w128 (below x (2 ^ 64) h) tt).is

pub wide_product : (x : ℤ) → unsigned_abs x < 2 ^ 62 → to_z w128 (of_z w128 x) ≡ x
wide_product x h = (pass w128 (below x (2 ^ 62) h) tt).is

-- the product of two components
pub product_reads : (a b : ℤ) → unsigned_abs a < 2 ^ 30 → unsigned_abs b < 2 ^ 30 → Reads (to_z w128 (of_z w128 (to_z w128 (of_z w128 a) *ℤ to_z w128 (of_z w128 b)))) (a *ℤ b) (2 ^ 30 * 2 ^ 30)
product_reads a b h l = pass w128 (times (pass w128 (below a (2 ^ 30) h) tt) (pass w128 (below b (2 ^ 30) l) tt)) tt

-- a difference of two products, times a height
pub weighed_reads : (x y f : ℤ) → unsigned_abs x < 2 ^ 62 → unsigned_abs y < 2 ^ 62 → unsigned_abs f < 2 ^ 30
    → Reads (to_z w128 (of_z w128 (to_z w128 (of_z w128 (to_z w128 (of_z w128 x) -ℤ to_z w128 (of_z w128 y))) *ℤ to_z w128 (of_z w128 f)))) ((x -ℤ y) *ℤ f) ((2 ^ 62 + 2 ^ 62) * 2 ^ 30)
weighed_reads x y f h l g = pass w128 (times (pass w128 (minus (pass w128 (below x (2 ^ 62) h) tt) (pass w128 (below y (2 ^ 62) l) tt)) tt) (pass w128 (below f (2 ^ 30) g) tt)) tt

pub wide_lead : (x : ℤ) → unsigned_abs x < 2 ^ 96 → to_z w128 (of_z w128 x) ≡ x
wide_lead x h = (pass w128 (below x (2 ^ 96) h) tt).is

pub wide_part : (x : ℤ) → unsigned_abs x < 2 ^ 30 → to_z w128 (of_z w128 x) ≡ x
wide_part x h = (pass w128 (below x (2 ^ 30) h) tt).is

pub still_small : (x : ℤ) → unsigned_abs x < 2 ^ 30 → unsigned_abs (to_z w128 (of_z w128 x)) < 2 ^ 30
still_small x h = subst (λ z. unsigned_abs z < 2 ^ 30) (sym (wide_part x h)) h

-- a line between two points, by its three numbers
pub between_by : (v w : Way) (f g : ℤ) {turn product lead : ℤ} {r : Bool} → turn ≡ turn_from v w → product ≡ product_of v w
    → lead ≡ ((product_of w w -ℤ product_of v w) *ℤ f) +ℤ ((product_of v v -ℤ product_of v w) *ℤ g)
    → IsTrue r ↔ ((turn ≡ pos 0) × (product ≤ℤ pos 0) × (pos 0 <ℤ lead)) → IsTrue r ↔ PassesBetween v w f g
between_by v w f g {r = r} e h l t =
    let x = subst (λ (T : Type 0). IsTrue r ↔ T) (λ i. (e i ≡ pos 0) × (h i ≤ℤ pos 0) × (pos 0 <ℤ l i)) t in
    (λ s. let p = x.0 s in record { on_line = p.0; between = p.1; nearer = p.2 }, λ p. x.1 (p.on_line, p.between, p.nearer))

-- ---- perturbations
perturbation_small : (k : Side) → unsigned_abs (perturbation_of k) ≤ 1
perturbation_small to_left = omega arith
perturbation_small to_right = omega arith

pub perturbation_passed : (x : ℤ) → unsigned_abs x ≤ 2 → to_z w128 (of_z w128 x) ≡ x
perturbation_passed x h = (pass w128 (known x 2 h) tt).is

pub less_perturbation : (k : Side) (x : ℤ) → x ≡ perturbation_of k → to_z w128 (of_z w128 (pos 0 -ℤ to_z w128 (of_z w128 x))) ≡ pos 0 -ℤ perturbation_of k
less_perturbation k x e = ap (λ z. to_z w128 (of_z w128 (pos 0 -ℤ to_z w128 (of_z w128 z)))) e ∙ by k
  where
    by : (k : Side) → to_z w128 (of_z w128 (pos 0 -ℤ to_z w128 (of_z w128 (perturbation_of k)))) ≡ pos 0 -ℤ perturbation_of k
    by to_left = refl
    by to_right = refl

pub one_perturbation : (k : Side) (x : ℤ) → x ≡ perturbation_of k → to_z w128 (of_z w128 x) ≡ perturbation_of k
one_perturbation k x e = ap (λ z. to_z w128 (of_z w128 z)) e ∙ by k
  where
    by : (k : Side) → to_z w128 (of_z w128 (perturbation_of k)) ≡ perturbation_of k
    by to_left = refl
    by to_right = refl

pub two_perturbations : (k l : Side) (x y : ℤ) → x ≡ perturbation_of k → y ≡ perturbation_of l → to_z w128 (of_z w128 (to_z w128 (of_z w128 x) -ℤ to_z w128 (of_z w128 y))) ≡ perturbation_between l k
two_perturbations k l x y e f = (λ i. to_z w128 (of_z w128 (to_z w128 (of_z w128 (e i)) -ℤ to_z w128 (of_z w128 (f i))))) ∙ by k l
  where
    by : (k l : Side) → to_z w128 (of_z w128 (to_z w128 (of_z w128 (perturbation_of k)) -ℤ to_z w128 (of_z w128 (perturbation_of l)))) ≡ perturbation_between l k
    by to_left to_left = refl
    by to_left to_right = refl
    by to_right to_left = refl
    by to_right to_right = refl

-- ---- two of three
pub two_alike : {A B C X Y Z : Type 0} {r : Bool} → A ↔ X → B ↔ Y → C ↔ Z → IsTrue r ↔ ((A × B) ⊎ (B × C) ⊎ (C × A)) → IsTrue r ↔ ((X × Y) ⊎ (Y × Z) ⊎ (Z × X))
two_alike {A} {B} {C} {X} {Y} {Z} a b c t = (λ h. to (t.0 h), λ h. t.1 (of h))
  where
    to : (A × B) ⊎ (B × C) ⊎ (C × A) → (X × Y) ⊎ (Y × Z) ⊎ (Z × X)
    to (inl h) = inl (a.0 h.0, b.0 h.1)
    to (inr (inl h)) = inr (inl (b.0 h.0, c.0 h.1))
    to (inr (inr h)) = inr (inr (c.0 h.0, a.0 h.1))

    of : (X × Y) ⊎ (Y × Z) ⊎ (Z × X) → (A × B) ⊎ (B × C) ⊎ (C × A)
    of (inl h) = inl (a.1 h.0, b.1 h.1)
    of (inr (inl h)) = inr (inl (b.1 h.0, c.1 h.1))
    of (inr (inr h)) = inr (inr (c.1 h.0, a.1 h.1))
