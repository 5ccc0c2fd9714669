-- A valid place of an edge is clear of what the plane leaves of each face, and of its border.
use Rattle.std.proofs.Common.{◌≡◌, ℕ, ◌+◌, ◌<◌, [], ◌∷◌, refl, sym, subst, ◌∙◌, arith}
use Rattle.std.specs.Prelude.{ℤ, pos, ◌+ℤ◌, ◌-ℤ◌, ◌*ℤ◌, ◌<ℤ◌, ◌≤ℤ◌}
use Rattle.std.proofs.lemmas.Int.{ints, by_lt_z}
use Rattle.integers.proofs.Absolutes.{natural_positive}
use Rattle.integers.proofs.Ring.{var, con, ◌⊕◌, ◌⊖◌, ◌⊗◌, ring, by_one}
use Rattle.integers.proofs.Signs.{mul_pos, mul_nonneg}
use Rattle.lattice.specs.Triple.{Triple, dot, right_axis, up_axis}
use Rattle.lattice.specs.Points.{Point, IsPoint, scaled}
use Rattle.lattice.specs.Cuts.{Plane, toward_of}
use Rattle.lattice.proofs.OnLines.{weighted_sum, product_of_sum}
use Rattle.geometry.specs.Cuts.{border, IsBorderOf, IsSeenOverInCut}
use Rattle.geometry.specs.Faces.{share_point, IsPointOfFace}
use Rattle.geometry.specs.Parts.{Part, Face, Edge}
use Rattle.geometry.specs.Sound.{IsSound}
use Rattle.hiding_laws.proofs.CutPlanes.{ordinary-in-plain}
use Rattle.hiding_laws.proofs.Readings.{dot-share}
use Rattle.hiding_laws.proofs.Weights.{natural}
use Rattle.hiding_laws.proofs.ClearPlaces.{clear_ordinary, no_denominator}
use Rattle.hiding_laws.proofs.Shares.{IsClearOf}
use Rattle.hiding_laws.proofs.Signs.{weak}
use Rattle.cut_plane.proofs.BorderSums.{AreEnds, border_ends}
use Rattle.cut_plane.proofs.RightOf.{first_alone, second_alone}
use Rattle.cut_plane.specs.Diagonals.{IsUnderBorder}
use Rattle.cut_count_laws.proofs.Laws.{IsValid, HasCornersInRange}
use Rattle.cut_count_laws.proofs.Rests.{IsClearOfRest, corner_with, first_with, second_with}

module _ (c : Plane) {s : Part} (f : Face s) (p q : Point) (ends : IsBorderOf c f p q) where
  are_ends : AreEnds c f.a f.b f.c p q
  are_ends = border_ends c f p q ends

  is_point : (r : Point) → IsPointOfFace f.a f.b f.c r → IsPoint r
  is_point r (i, j, n, some, is) = subst IsPoint (sym is) (natural_positive (i + j + n) some)

  pub first_there : pos 0 <ℤ p.w
  first_there = is_point p (subst (IsPointOfFace f.a f.b f.c) (first_alone p q) (are_ends.on_face 1 0 (omega arith)))

  pub second_there : pos 0 <ℤ q.w
  second_there = is_point q (subst (IsPointOfFace f.a f.b f.c) (second_alone p q) (are_ends.on_face 0 1 (omega arith)))

  module _ (e : Edge s) (n m : ℤ) where
    abbrev d : Triple
    d = toward_of c

    -- along an axis, from the values in one scale to those of the sum
    over_one : (x y t n' m' i j u v : ℤ) (i' j' : ℕ) → i *ℤ q.w ≡ pos i' → j *ℤ p.w ≡ pos j' → t ≡ ((m' -ℤ n') *ℤ u) +ℤ (n' *ℤ v)
        → ((i *ℤ (q.w *ℤ x)) +ℤ (j *ℤ (p.w *ℤ y))) *ℤ m' ≡ (((m' -ℤ n') *ℤ ((p.w *ℤ q.w) *ℤ u)) +ℤ (n' *ℤ ((p.w *ℤ q.w) *ℤ v))) *ℤ (i +ℤ j)
        → ((pos i' *ℤ x) +ℤ (pos j' *ℤ y)) *ℤ m' ≡ t *ℤ ((pos i' *ℤ p.w) +ℤ (pos j' *ℤ q.w))
    over_one x y t n' m' i j u v i' j' hi hj ht same =
        (λ r. ((sym hi r *ℤ x) +ℤ (sym hj r *ℤ y)) *ℤ m')
        ∙ by_one _ _ _ _ (pos 1)
        (ring (x ∷ y ∷ n' ∷ m' ∷ i ∷ j ∷ u ∷ v ∷ p.w ∷ q.w ∷ [])
        (((((var 4 ⊗ var 9) ⊗ var 0) ⊕ ((var 5 ⊗ var 8) ⊗ var 1)) ⊗ var 3) ⊖ ((((var 3 ⊖ var 2) ⊗ var 6) ⊕ (var 2 ⊗ var 7)) ⊗ (((var 4 ⊗ var 9) ⊗ var 8) ⊕ ((var 5 ⊗ var 8) ⊗ var 9))))
        (((((var 4 ⊗ (var 9 ⊗ var 0)) ⊕ (var 5 ⊗ (var 8 ⊗ var 1))) ⊗ var 3) ⊖ ((((var 3 ⊖ var 2) ⊗ ((var 8 ⊗ var 9) ⊗ var 6)) ⊕ (var 2 ⊗ ((var 8 ⊗ var 9) ⊗ var 7))) ⊗ (var 4 ⊕ var 5))) ⊗ con (pos 1)) refl) same
        ∙ (λ r. sym ht r *ℤ ((hi r *ℤ p.w) +ℤ (hj r *ℤ q.w)))

    some_weight : (i j : ℤ) (i' j' : ℕ) → i *ℤ q.w ≡ pos i' → j *ℤ p.w ≡ pos j' → pos 0 ≤ℤ i → pos 0 ≤ℤ j → pos 0 <ℤ (i +ℤ j) → 0 < i' + j'
    some_weight i j i' j' hi hj i_least j_least some =
        by_lt_z (pos 0) i (λ up. first (i *ℤ q.w) i' j' hi (mul_pos i q.w up second_there))
        (λ down. last (j *ℤ p.w) i' j' hj (mul_pos j p.w (other i j down some) first_there))
      where
        first : (x : ℤ) (i' j' : ℕ) → x ≡ pos i' → pos 0 <ℤ x → 0 < i' + j'
        first x i' j' e h = omega (arith, ints)

        last : (x : ℤ) (i' j' : ℕ) → x ≡ pos j' → pos 0 <ℤ x → 0 < i' + j'
        last x i' j' e h = omega (arith, ints)

        other : (i j : ℤ) → i ≤ℤ pos 0 → pos 0 <ℤ (i +ℤ j) → pos 0 <ℤ j
        other i j h g = omega (arith, ints)

    -- a sum of the ends that is seen at the place is a point of the border over it
    under : (i j : ℤ) → pos 0 ≤ℤ i → pos 0 ≤ℤ j → pos 0 <ℤ (i +ℤ j)
        → ((i *ℤ (first_with c p q).u) +ℤ (j *ℤ (second_with c p q).u)) *ℤ m ≡ (((m -ℤ n) *ℤ (corner_with c p q e.a).u) +ℤ (n *ℤ (corner_with c p q e.b).u)) *ℤ (i +ℤ j)
        → ((i *ℤ (first_with c p q).v) +ℤ (j *ℤ (second_with c p q).v)) *ℤ m ≡ (((m -ℤ n) *ℤ (corner_with c p q e.a).v) +ℤ (n *ℤ (corner_with c p q e.b).v)) *ℤ (i +ℤ j)
        → IsSeenOverInCut c (border f) (share_point e.a e.b n m)
    under i j i_least j_least some same_u same_v =
        let (i', hi) = natural (i *ℤ q.w) (mul_nonneg i q.w i_least (weak _ second_there)) in
        let (j', hj) = natural (j *ℤ p.w) (mul_nonneg j p.w j_least (weak _ first_there)) in (
          weighted_sum (pos i') p (pos j') q,
          (are_ends.on_face i' j' (some_weight i j i' j' hi hj i_least j_least some), are_ends.on_plane i' j'),
          record {
            across = (λ t. product_of_sum (right_axis d) (pos i') (pos j') p q t *ℤ m)
                ∙ over_one (dot (right_axis d) (scaled p)) (dot (right_axis d) (scaled q)) _ n m i j _ _ i' j' hi hj (dot-share (right_axis d) e.a e.b n m) same_u;
            upward = (λ t. product_of_sum (up_axis d) (pos i') (pos j') p q t *ℤ m)
                ∙ over_one (dot (up_axis d) (scaled p)) (dot (up_axis d) (scaled q)) _ n m i j _ _ i' j' hi hj (dot-share (up_axis d) e.a e.b n m) same_v;
          },
        )

    pub border_clear : ¬ IsUnderBorder c s (share_point e.a e.b n m) → IsClearOf (corner_with c p q e.a) (corner_with c p q e.b) (first_with c p q) (second_with c p q) n m
    border_clear free on_line sides =
        no_denominator (corner_with c p q e.a) (corner_with c p q e.b) (first_with c p q) (second_with c p q) n m on_line
        (λ i j i_least j_least some same_u same_v. absurd (free (f, under i j i_least j_least some same_u same_v))) sides

pub clear_valid : (c : Plane) (s : Part) → IsSound s → HasCornersInRange s → (e : Edge s) (f : Face s) (n m : ℤ) → IsValid c e n m → IsClearOfRest c e f n m
clear_valid c s sound in_range e f n m valid = record {
  sides = clear_ordinary (toward_of c) sound.closed in_range e n m valid.after valid.before (ordinary-in-plain c s (share_point e.a e.b n m) valid.ordinary) f;
  border = λ p q ends. border_clear c f p q ends e n m valid.free;
}
