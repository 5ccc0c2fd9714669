-- What the heights and the turns of corners say of an edge and of what the plane leaves of an outline.
use Rattle.std.proofs.Common.{◌≡◌, ◌⊎◌, inl, inr, [], ◌∷◌, refl, sym, subst, ◌∙◌, arith}
use Rattle.std.specs.Prelude.{ℤ, pos, ◌-ℤ◌, ◌*ℤ◌, ◌<ℤ◌}
use Rattle.std.proofs.lemmas.Int.{ints}
use Rattle.integers.proofs.Ring.{var, ◌⊖◌, ◌⊗◌, ring, by_one}
use Rattle.exact_frac.specs.declared.Frac.{Frac}
use Rattle.lattice.specs.declared.points.Corner.{Corner}
use Rattle.lattice.specs.Points.{point_of}
use Rattle.lattice.specs.Cuts.{Plane, toward_of, IsBeyond, IsBeforePlane}
use Rattle.geometry.specs.Cuts.{over_of}
use Rattle.geometry.specs.Faces.{share_point}
use Rattle.geometry.specs.Parts.{Part, Edge}
use Rattle.geometry.specs.Views.{face_sign}
use Rattle.geometry.proofs.Borders.{side_of_corner, over_beyond, over_before}
use Rattle.hiding_laws.specs.Values.{side_of}
use Rattle.geometry.specs.Counts.{Side}
use Rattle.geometry.specs.Shares.{mark, PassesNearer, IsCrossedAt, denominator_of, numerator_of}
use Rattle.cut_count_laws.specs.CutEnds.{cut_end, IsCrossedBeyond}
use Rattle.cut_count_laws.specs.CutShares.{cut_change_of}
use Rattle.cut_count.proofs.EdgeHeights.{beyond_too}

-- ---- the place at which an outline passes nearer
-- it stands for that of the denominator's square
scaled : (n d h m : ℤ) → n *ℤ d ≡ h *ℤ m → n *ℤ (d *ℤ d) ≡ (h *ℤ d) *ℤ m
scaled n d h m e =
    by_one _ _ (n *ℤ d) (h *ℤ m) d
    (ring (n ∷ d ∷ h ∷ m ∷ []) ((var 0 ⊗ (var 1 ⊗ var 1)) ⊖ ((var 2 ⊗ var 1) ⊗ var 3)) (((var 0 ⊗ var 1) ⊖ (var 2 ⊗ var 3)) ⊗ var 1) refl) e

module _ (c : Plane) {s : Part} (e o : Edge s) (a b p q : Corner) (at_a : e.a ≡ a) (at_b : e.b ≡ b) (at_p : o.a ≡ p) (at_q : o.b ≡ q) where
  module _ (passes : PassesNearer (toward_of c) e o) (r : Frac) (at : IsCrossedAt (toward_of c) e o r) where
    abbrev numerator : ℤ
    numerator = numerator_of (toward_of c) e o

    abbrev denominator : ℤ
    denominator = denominator_of (toward_of c) e o

    positive : pos 0 <ℤ (denominator *ℤ denominator)
    positive = through (numerator *ℤ denominator) (denominator *ℤ denominator) passes.after passes.before
      where
        through : (x y : ℤ) → pos 0 <ℤ x → x <ℤ y → pos 0 <ℤ y
        through x y h k = omega (arith, ints)

    same : r.num *ℤ (denominator *ℤ denominator) ≡ (numerator *ℤ denominator) *ℤ r.den
    same = scaled r.num denominator numerator r.den at

    pub crossed_beyond : IsBeyond c (share_point a b r.num r.den) → IsCrossedBeyond c e o
    crossed_beyond h =
        beyond_too c e.a e.b r.num r.den (numerator *ℤ denominator) (denominator *ℤ denominator) r.positive positive same
        (subst (λ (T : Type 0). T) (sym (λ i. IsBeyond c (share_point (at_a i) (at_b i) r.num r.den))) h)

    pub place_beyond : IsCrossedBeyond c e o → IsBeyond c (share_point a b r.num r.den)
    place_beyond h =
        subst (λ (T : Type 0). T) (λ i. IsBeyond c (share_point (at_a i) (at_b i) r.num r.den))
        (beyond_too c e.a e.b (numerator *ℤ denominator) (denominator *ℤ denominator) r.num r.den positive r.positive (sym same) h)

  -- ---- what is left of the outline
  pub none_left : pos 0 <ℤ over_of c p → pos 0 <ℤ over_of c q → ¬ (IsBeyond c (point_of o.a) ⊎ IsBeyond c (point_of o.b))
  none_left before before' (inl h) = apart _ before (subst (λ (k : Corner). over_of c k <ℤ pos 0) at_p (over_beyond c o.a h))
    where
      apart : (x : ℤ) → pos 0 <ℤ x → x <ℤ pos 0 → ⊥
      apart x h k = omega (arith, ints)
  none_left before before' (inr h) = apart _ before' (subst (λ (k : Corner). over_of c k <ℤ pos 0) at_q (over_beyond c o.b h))
    where
      apart : (x : ℤ) → pos 0 <ℤ x → x <ℤ pos 0 → ⊥
      apart x h k = omega (arith, ints)

  pub some_left_of : ((pos 0 <ℤ over_of c p) → (pos 0 <ℤ over_of c q) → ⊥) → IsBeyond c (point_of o.a) ⊎ IsBeyond c (point_of o.b)
  some_left_of not_both = by (side_of_corner c o.a) (side_of_corner c o.b)
    where
      by : IsBeyond c (point_of o.a) ⊎ IsBeforePlane c (point_of o.a) → IsBeyond c (point_of o.b) ⊎ IsBeforePlane c (point_of o.b) → IsBeyond c (point_of o.a) ⊎ IsBeyond c (point_of o.b)
      by (inl h) second = inl h
      by (inr h) (inl k) = inr k
      by (inr h) (inr k) =
          absurd (not_both (subst (λ (k : Corner). pos 0 <ℤ over_of c k) at_p (over_before c o.a h)) (subst (λ (k : Corner). pos 0 <ℤ over_of c k) at_q (over_before c o.b k)))

  -- what it changes of a count, by where its two ends are seen
  pub cut_changed : (k : Side) (turn from to change : ℤ) → turn ≡ face_sign (toward_of c) o.left -ℤ face_sign (toward_of c) o.right
      → side_of (toward_of c) a b (cut_end c p q) ≡ from → side_of (toward_of c) a b (cut_end c q p) ≡ to
      → change ≡ turn *ℤ (mark k from -ℤ mark k to) → change ≡ cut_change_of k c e o
  cut_changed k turn from to change is_turn is_from is_to is =
      is ∙ (λ i. is_turn i *ℤ (mark k (sym is_from i) -ℤ mark k (sym is_to i)))
      ∙ sym (λ i. (face_sign (toward_of c) o.left -ℤ face_sign (toward_of c) o.right)
      *ℤ (mark k (side_of (toward_of c) (at_a i) (at_b i) (cut_end c (at_p i) (at_q i))) -ℤ mark k (side_of (toward_of c) (at_a i) (at_b i) (cut_end c (at_q i) (at_p i)))))
