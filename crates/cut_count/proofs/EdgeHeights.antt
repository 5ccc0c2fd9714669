-- Where the points of an edge are beyond the plane of a cut, by the heights of its corners.
use Rattle.std.proofs.Common.{◌≡◌, [], ◌∷◌, refl, sym, subst, ◌∙◌}
use Rattle.std.specs.Prelude.{ℤ, pos, ◌-ℤ◌, ◌*ℤ◌, ◌<ℤ◌, ◌↔◌}
use Rattle.std.proofs.lemmas.Int.{ints}
use Rattle.std.proofs.Common.{arith}
use Rattle.integers.proofs.Comparisons.{negation_positive, negative_of_negation}
use Rattle.integers.proofs.Ring.{Expr, var, con, ◌⊕◌, ◌⊖◌, ◌⊗◌, ring, by_one, same_of_gap}
use Rattle.integers.proofs.Signs.{mul_neg, pos_of_mul}
use Rattle.lattice.specs.declared.points.Corner.{Corner}
use Rattle.lattice.specs.Points.{height_of}
use Rattle.lattice.specs.Cuts.{Plane, toward_of, plane_height, IsBeyond, IsOnPlane}
use Rattle.lattice.proofs.Vectors.{letters, dots}
use Rattle.geometry.specs.Cuts.{over_of}
use Rattle.geometry.specs.Faces.{share_point}
use Rattle.hiding_laws.specs.Values.{value_at}

-- a value that is linear along an edge has one sign at all that stand for one place
same_sign : (f g n m n' m' : ℤ) → pos 0 <ℤ m → pos 0 <ℤ m' → n *ℤ m' ≡ n' *ℤ m → value_at f g n m <ℤ pos 0 → value_at f g n' m' <ℤ pos 0
same_sign f g n m n' m' up up' same h =
    negative_of_negation (value_at f g n' m') (pos_of_mul m (pos 0 -ℤ value_at f g n' m') up
    (subst (λ (z : ℤ). pos 0 <ℤ z) (times_negated m (value_at f g n' m')) (negation_positive _ (subst (λ (z : ℤ). z <ℤ pos 0) scaled (mul_neg m' (value_at f g n m) up' h)))))
  where
    times_negated : (k v : ℤ) → pos 0 -ℤ (k *ℤ v) ≡ k *ℤ (pos 0 -ℤ v)
    times_negated k v = ring (k ∷ v ∷ []) (con (pos 0) ⊖ (var 0 ⊗ var 1)) (var 0 ⊗ (con (pos 0) ⊖ var 1)) refl

    at : Expr → Expr → Expr
    at n m = ((m ⊖ n) ⊗ var 0) ⊕ (n ⊗ var 1)

    scaled : m' *ℤ value_at f g n m ≡ m *ℤ value_at f g n' m'
    scaled =
        by_one _ _ (n *ℤ m') (n' *ℤ m) (g -ℤ f)
        (ring (f ∷ g ∷ n ∷ m ∷ n' ∷ m' ∷ []) ((var 5 ⊗ at (var 2) (var 3)) ⊖ (var 3 ⊗ at (var 4) (var 5))) (((var 2 ⊗ var 5) ⊖ (var 4 ⊗ var 3)) ⊗ (var 1 ⊖ var 0)) refl) same

module _ (c : Plane) (p q : Corner) where
  rise_share : (n m : ℤ) → (pos 2 *ℤ height_of (toward_of c) (share_point p q n m)) -ℤ (plane_height c *ℤ m) ≡ value_at (over_of c p) (over_of c q) n m
  rise_share n m =
      let d = toward_of c in
      ring (d.x ∷ d.y ∷ d.z ∷ p.x ∷ p.y ∷ p.z ∷ q.x ∷ q.y ∷ q.z ∷ n ∷ m ∷ plane_height c ∷ [])
      ((con (pos 2) ⊗ dots (letters 0) (record { x = mixed (var 3) (var 6); y = mixed (var 4) (var 7); z = mixed (var 5) (var 8) })) ⊖ (var 11 ⊗ var 10))
      (mixed ((con (pos 2) ⊗ dots (letters 0) (letters 3)) ⊖ var 11) ((con (pos 2) ⊗ dots (letters 0) (letters 6)) ⊖ var 11)) refl
    where
      mixed : Expr → Expr → Expr
      mixed x y = ((var 10 ⊖ var 9) ⊗ x) ⊕ (var 9 ⊗ y)

  pub beyond_at : (n m : ℤ) → IsBeyond c (share_point p q n m) ↔ (value_at (over_of c p) (over_of c q) n m <ℤ pos 0)
  beyond_at n m = (
    λ h. subst (λ (z : ℤ). z <ℤ pos 0) (rise_share n m) (below _ _ h),
    λ h. above _ _ (subst (λ (z : ℤ). z <ℤ pos 0) (sym (rise_share n m)) h),
  )
    where
      below : (x y : ℤ) → x <ℤ y → (x -ℤ y) <ℤ pos 0
      below x y h = omega (arith, ints)

      above : (x y : ℤ) → (x -ℤ y) <ℤ pos 0 → x <ℤ y
      above x y h = omega (arith, ints)

  -- it is on the plane where the value is 0
  pub on_at : (n m : ℤ) → value_at (over_of c p) (over_of c q) n m ≡ pos 0 → IsOnPlane c (share_point p q n m)
  on_at n m h = same_of_gap (pos 2 *ℤ height_of (toward_of c) (share_point p q n m)) (plane_height c *ℤ m) (rise_share n m ∙ h)

  -- what stands for one place is beyond the plane together
  pub beyond_too : (n m n' m' : ℤ) → pos 0 <ℤ m → pos 0 <ℤ m' → n *ℤ m' ≡ n' *ℤ m → IsBeyond c (share_point p q n m) → IsBeyond c (share_point p q n' m')
  beyond_too n m n' m' up up' same h = (beyond_at n' m').1 (same_sign _ _ n m n' m' up up' same ((beyond_at n m).0 h))
