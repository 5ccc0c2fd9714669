-- An edge that goes through a triangle's plane has one place there.
use Rattle.std.proofs.Common.{◌≡◌, ◌⊎◌, inl, inr, [], ◌∷◌, refl, sym, subst, arith}
use Rattle.std.specs.Prelude.{◌↔◌, ℤ, pos, ◌+ℤ◌, ◌-ℤ◌, ◌*ℤ◌, ◌≤ℤ◌, ◌<ℤ◌}
use Rattle.std.proofs.lemmas.Int.{ints}
use Rattle.integers.proofs.Comparisons.{not_negative_of_positive, not_negative_at, positive_at, gap_of_at_most}
use Rattle.integers.proofs.Ring.{var, con, ◌⊕◌, ◌⊖◌, ◌⊗◌, ring, by_one, gap_of_less}
use Rattle.integers.proofs.Signs.{mul_nonneg, mul_pos, nonneg_of_mul}
use Rattle.meeting.specs.declared.course.Course.{Course}
use Rattle.meeting.specs.declared.course.Heights.{Heights}
use Rattle.meeting.specs.declared.course.Offset.{Offset}
use Rattle.meeting.specs.inner.Places.{CoursePlace, HasBothSides, IsLeftInPlane}

-- k is positive where the edge goes up, and negative where it goes down
module _ (k : ℤ) (x : Course) (start : pos 0 ≤ℤ (pos 0 -ℤ (k *ℤ x.above.start))) (end : pos 0 ≤ℤ (k *ℤ x.above.end)) (changes : pos 0 <ℤ (k *ℤ (x.above.end -ℤ x.above.start))) where
  -- what is linear along the edge, in the plane
  abbrev value : ℤ → ℤ → ℤ
  value f g = k *ℤ ((x.above.end *ℤ f) -ℤ (x.above.start *ℤ g))

  value-is : (f g : ℤ) → ((k *ℤ x.above.end) *ℤ f) +ℤ ((pos 0 -ℤ (k *ℤ x.above.start)) *ℤ g) ≡ value f g
  value-is f g = ring (k ∷ x.above.start ∷ x.above.end ∷ f ∷ g ∷ [])
      (((var 0 ⊗ var 2) ⊗ var 3) ⊕ ((con (pos 0) ⊖ (var 0 ⊗ var 1)) ⊗ var 4)) (var 0 ⊗ ((var 2 ⊗ var 3) ⊖ (var 1 ⊗ var 4))) refl

  from : (pos 0 ≤ℤ value x.bc.start x.bc.end) × (pos 0 ≤ℤ value x.ca.start x.ca.end) × (pos 0 ≤ℤ value x.ab.start x.ab.end) → CoursePlace x
  from (bc, ca, ab) = record {
    i = k *ℤ x.above.end;
    j = pos 0 -ℤ (k *ℤ x.above.start);
    i_least = end;
    j_least = start;
    some = positive_at _ _ (ring (k ∷ x.above.start ∷ x.above.end ∷ []) ((var 0 ⊗ var 2) ⊕ (con (pos 0) ⊖ (var 0 ⊗ var 1))) (var 0 ⊗ (var 2 ⊖ var 1)) refl) changes;
    level = ring (k ∷ x.above.start ∷ x.above.end ∷ []) (((var 0 ⊗ var 2) ⊗ var 1) ⊕ ((con (pos 0) ⊖ (var 0 ⊗ var 1)) ⊗ var 2)) (con (pos 0)) refl;
    bc = not_negative_at _ _ (value-is x.bc.start x.bc.end) bc;
    ca = not_negative_at _ _ (value-is x.ca.start x.ca.end) ca;
    ab = not_negative_at _ _ (value-is x.ab.start x.ab.end) ab;
  }

  -- each place in the plane is that one
  module _ (r : CoursePlace x) where
    one-place : (f g : ℤ) → (r.i +ℤ r.j) *ℤ value f g ≡ (k *ℤ (x.above.end -ℤ x.above.start)) *ℤ ((r.i *ℤ f) +ℤ (r.j *ℤ g))
    one-place f g = by_one _ _ ((r.i *ℤ x.above.start) +ℤ (r.j *ℤ x.above.end)) (pos 0) (k *ℤ (f -ℤ g))
        (ring (k ∷ x.above.start ∷ x.above.end ∷ f ∷ g ∷ r.i ∷ r.j ∷ [])
        (((var 5 ⊕ var 6) ⊗ (var 0 ⊗ ((var 2 ⊗ var 3) ⊖ (var 1 ⊗ var 4)))) ⊖ ((var 0 ⊗ (var 2 ⊖ var 1)) ⊗ ((var 5 ⊗ var 3) ⊕ (var 6 ⊗ var 4))))
        ((((var 5 ⊗ var 1) ⊕ (var 6 ⊗ var 2)) ⊖ con (pos 0)) ⊗ (var 0 ⊗ (var 3 ⊖ var 4))) refl) r.level

    nonneg : (f g : ℤ) → pos 0 ≤ℤ ((r.i *ℤ f) +ℤ (r.j *ℤ g)) → pos 0 ≤ℤ value f g
    nonneg f g h = nonneg_of_mul (r.i +ℤ r.j) (value f g) r.some (not_negative_at _ _ (one-place f g) (mul_nonneg _ _ (not_negative_of_positive _ changes) h))

  pub through : CoursePlace x ↔ ((pos 0 ≤ℤ value x.bc.start x.bc.end) × (pos 0 ≤ℤ value x.ca.start x.ca.end) × (pos 0 ≤ℤ value x.ab.start x.ab.end))
  through = (λ r. (nonneg r x.bc.start x.bc.end r.bc, nonneg r x.ca.start x.ca.end r.ca, nonneg r x.ab.start x.ab.end r.ab), from)

-- by how much the height changes, for k
pub in_plane : (x : Course) → HasBothSides x.above → CoursePlace x ↔ (IsLeftInPlane x.above x.bc × IsLeftInPlane x.above x.ca × IsLeftInPlane x.above x.ab)
in_plane x goes = through (x.above.end -ℤ x.above.start) x (start x.above.start x.above.end goes) (end x.above.start x.above.end goes) (changes x.above.start x.above.end goes)
  where
    Between : ℤ → ℤ → Type 0
    Between s e = ((s ≤ℤ pos 0) × (pos 0 ≤ℤ e) × (s <ℤ e)) ⊎ ((pos 0 ≤ℤ s) × (e ≤ℤ pos 0) × (e <ℤ s))

    up : (s e : ℤ) → s <ℤ e → pos 0 ≤ℤ (e -ℤ s)
    up s e h = not_negative_of_positive (e -ℤ s) (gap_of_less s e h)

    start : (s e : ℤ) → Between s e → pos 0 ≤ℤ (pos 0 -ℤ ((e -ℤ s) *ℤ s))
    start s e (inl (low, high, less)) =
        not_negative_at _ _ (ring (s ∷ e ∷ []) (con (pos 0) ⊖ ((var 1 ⊖ var 0) ⊗ var 0)) ((var 1 ⊖ var 0) ⊗ (con (pos 0) ⊖ var 0)) refl)
        (mul_nonneg (e -ℤ s) (pos 0 -ℤ s) (up s e less) (gap_of_at_most s (pos 0) low))
    start s e (inr (high, low, less)) =
        not_negative_at _ _ (ring (s ∷ e ∷ []) (con (pos 0) ⊖ ((var 1 ⊖ var 0) ⊗ var 0)) ((var 0 ⊖ var 1) ⊗ var 0) refl) (mul_nonneg (s -ℤ e) s (up e s less) high)

    end : (s e : ℤ) → Between s e → pos 0 ≤ℤ ((e -ℤ s) *ℤ e)
    end s e (inl (low, high, less)) = mul_nonneg (e -ℤ s) e (up s e less) high
    end s e (inr (high, low, less)) =
        not_negative_at _ _ (ring (s ∷ e ∷ []) ((var 1 ⊖ var 0) ⊗ var 1) ((var 0 ⊖ var 1) ⊗ (con (pos 0) ⊖ var 1)) refl)
        (mul_nonneg (s -ℤ e) (pos 0 -ℤ e) (up e s less) (gap_of_at_most e (pos 0) low))

    changes : (s e : ℤ) → Between s e → pos 0 <ℤ ((e -ℤ s) *ℤ (e -ℤ s))
    changes s e (inl (low, high, less)) = mul_pos (e -ℤ s) (e -ℤ s) (gap_of_less s e less) (gap_of_less s e less)
    changes s e (inr (high, low, less)) =
        subst (λ (z : ℤ). pos 0 <ℤ z) (ring (s ∷ e ∷ []) ((var 0 ⊖ var 1) ⊗ (var 0 ⊖ var 1)) ((var 1 ⊖ var 0) ⊗ (var 1 ⊖ var 0)) refl)
        (mul_pos (s -ℤ e) (s -ℤ e) (gap_of_less e s less) (gap_of_less e s less))

-- where it doesn't go up, it goes down
pub falls : (h : Heights) → HasBothSides h → (h.start <ℤ h.end → ⊥) → h.end <ℤ h.start
falls h (inl (low, high, less)) never = absurd (never less)
falls h (inr (high, low, less)) never = less

-- ---- one side
compared : (k m n : ℤ) → pos 0 <ℤ k → (n ≤ℤ m) ↔ (pos 0 ≤ℤ (k *ℤ (m -ℤ n)))
compared k m n positive = (λ h. mul_nonneg k (m -ℤ n) (not_negative_of_positive k positive) (gap_of_at_most n m h), λ h. order m n (nonneg_of_mul k (m -ℤ n) positive h))
  where
    order : (m n : ℤ) → pos 0 ≤ℤ (m -ℤ n) → n ≤ℤ m
    order m n h = omega (arith, ints)

pub upward : (h : Heights) (x : Offset) → h.start <ℤ h.end → ((h.start *ℤ x.end) ≤ℤ (h.end *ℤ x.start)) ↔ IsLeftInPlane h x
upward h x less = compared (h.end -ℤ h.start) (h.end *ℤ x.start) (h.start *ℤ x.end) (gap_of_less _ _ less)

pub downward : (h : Heights) (x : Offset) → h.end <ℤ h.start → ((h.end *ℤ x.start) ≤ℤ (h.start *ℤ x.end)) ↔ IsLeftInPlane h x
downward h x less =
    let c = compared (h.start -ℤ h.end) (h.start *ℤ x.end) (h.end *ℤ x.start) (gap_of_less _ _ less) in
    let turned = ring (h.start ∷ h.end ∷ x.start ∷ x.end ∷ []) ((var 1 ⊖ var 0) ⊗ ((var 1 ⊗ var 2) ⊖ (var 0 ⊗ var 3))) ((var 0 ⊖ var 1) ⊗ ((var 0 ⊗ var 3) ⊖ (var 1 ⊗ var 2))) refl in
    (λ h. not_negative_at _ _ turned (c.0 h), λ h. c.1 (not_negative_at _ _ (sym turned) h))
