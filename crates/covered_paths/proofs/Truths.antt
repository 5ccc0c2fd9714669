-- What tests say of numbers, and of lists.
use Rattle.std.proofs.Common.{◌≡◌, ◌⊎◌, inl, inr, Bool, true, false, List, [], ◌∷◌, refl}
use Rattle.std.specs.Prelude.{ℤ, ◌<ℤ◌, ◌≤ℤ◌, not, ◌&&◌, ◌||◌, cond}
use Rattle.std.specs.List.{filter, list_all, list_any}
use Rattle.std.specs.Int.Signed.{lt_z}
use Rattle.std.proofs.lemmas.Int.{by_lt_z}
use Rattle.integers.proofs.Orders.{lt_z_of_less, lt_z_of_at_most}
use Rattle.covered_paths.specs.Numbers.{at_most}
use Rattle.covered_paths.specs.Points.{SomeLeg, EachLeg}
use Rattle.covered_paths.specs.declared.legs.Leg.{Leg}

-- ---- truth values
not_both : (b : Bool) → b ≡ true → not b ≡ true → ⊥
not_both true e f = cc
not_both false e f = cc

pub not_both_ways : (b : Bool) → b ≡ false → b ≡ true → ⊥
not_both_ways true e f = cc
not_both_ways false e f = cc

pub both_left : (a b : Bool) → (a && b) ≡ true → a ≡ true
both_left true b h = refl
both_left false b h = h

pub both_right : (a b : Bool) → (a && b) ≡ true → b ≡ true
both_right true b h = h
both_right false b h = absurd cc

pub either : (a b : Bool) → (a || b) ≡ true → (a ≡ true) ⊎ (b ≡ true)
either true b h = inl refl
either false b h = inr h

-- ---- numbers
pub at_most_is : (a b : ℤ) → at_most a b ≡ true → a ≤ℤ b
at_most_is a b h = by_lt_z b a (λ q. absurd (not_both (lt_z b a) (lt_z_of_less b a q) h)) (λ q. q)

pub less_is : (a b : ℤ) → lt_z a b ≡ true → a <ℤ b
less_is a b h = by_lt_z a b (λ q. q) (λ q. absurd (not_both_ways (lt_z a b) (lt_z_of_at_most a b q) h))

-- ---- legs
pub some_leg : (P : Leg → Type 0) (f : Leg → Bool) → ((t : Leg) → f t ≡ true → P t) → (ts : List Leg) → list_any f ts ≡ true → SomeLeg P ts
some_leg P f says [] h = absurd cc
some_leg P f says (t ∷ ts) h = by (some_leg P f says ts) (either (f t) (list_any f ts) h)
  where
    by : (list_any f ts ≡ true → SomeLeg P ts) → (f t ≡ true) ⊎ (list_any f ts ≡ true) → SomeLeg P (t ∷ ts)
    by rest (inl e) = inl (says t e)
    by rest (inr e) = inr (rest e)

pub each_leg : (P : Leg → Type 0) (f : Leg → Bool) → ((t : Leg) → f t ≡ true → P t) → (ts : List Leg) → list_all f ts ≡ true → EachLeg P ts
each_leg P f says [] h = tt
each_leg P f says (t ∷ ts) h = (says t (both_left (f t) (list_all f ts) h), each_leg P f says ts (both_right (f t) (list_all f ts) h))

pub unfiltered : (P : Leg → Type 0) (f : Leg → Bool) (ts : List Leg) → SomeLeg P (filter f ts) → SomeLeg P ts
unfiltered P f [] h = h
unfiltered P f (t ∷ ts) h = by (unfiltered P f ts) (f t) h
  where
    by : (SomeLeg P (filter f ts) → SomeLeg P ts) → (b : Bool) → SomeLeg P (cond b (t ∷ filter f ts) (filter f ts)) → SomeLeg P (t ∷ ts)
    by rest true (inl x) = inl x
    by rest true (inr y) = inr (rest y)
    by rest false y = inr (rest y)
