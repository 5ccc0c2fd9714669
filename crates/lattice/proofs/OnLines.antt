-- What is on a line of a view, the line through two corners, and the ends of a strip.
use Rattle.std.proofs.Common.{◌≡◌, [], ◌∷◌, zero, suc, ◌<◌, ◌+◌, unsigned_abs, refl, sym, ◌∙◌, arith}
use Rattle.std.specs.Prelude.{ℤ, pos, negsuc, ◌+ℤ◌, ◌-ℤ◌, ◌*ℤ◌, ◌<ℤ◌}
use Rattle.std.proofs.lemmas.Int.{ints}
use Rattle.std.proofs.lemmas.Grind.{merely}
use Rattle.integers.proofs.Comparisons.{times_one}
use Rattle.integers.proofs.Ring.{var, con, ◌⊕◌, ◌⊖◌, ◌⊗◌, ring, by_one, by_two, by_three, same_of_gap}
use Rattle.integers.proofs.Signs.{zero_of_mul, zero_of_times}
use Rattle.lattice.specs.Triple.{Triple, dot, right_axis, up_axis}
use Rattle.lattice.specs.Points.{Point, IsPoint, OnOneSight, of_dir, of_spot, point_of, scaled, difference, across_of, upward_of}
use Rattle.lattice.specs.declared.lines.Line.{Line}
use Rattle.lattice.specs.declared.points.Corner.{Corner}
use Rattle.lattice.specs.declared.points.Spot.{Spot}
use Rattle.lattice.specs.declared.points.Dir.{Dir}
use Rattle.lattice.specs.Lines.{IsOnLine, IsLineOf, AreStripEndsInSomeView}
use Rattle.lattice.proofs.Vectors.{letters, dots}

-- a line through u / w and v / w goes through s / z and t / z, if these are the same: w times what it leaves of one is z times what it leaves of the other
pub seen_too : (a b c u v w s t z : ℤ) → pos 0 <ℤ w → u *ℤ z ≡ s *ℤ w → v *ℤ z ≡ t *ℤ w → (a *ℤ u) +ℤ (b *ℤ v) ≡ c *ℤ w → (a *ℤ s) +ℤ (b *ℤ t) ≡ c *ℤ z
seen_too a b c u v w s t z positive e f g =
    same_of_gap ((a *ℤ s) +ℤ (b *ℤ t)) (c *ℤ z) (zero_of_mul w (((a *ℤ s) +ℤ (b *ℤ t)) -ℤ (c *ℤ z)) positive
    (by_three (w *ℤ (((a *ℤ s) +ℤ (b *ℤ t)) -ℤ (c *ℤ z))) (pos 0) (u *ℤ z) (s *ℤ w) (pos 0 -ℤ a) (v *ℤ z) (t *ℤ w) (pos 0 -ℤ b) ((a *ℤ u) +ℤ (b *ℤ v)) (c *ℤ w) z
    (ring (a ∷ b ∷ c ∷ u ∷ v ∷ w ∷ s ∷ t ∷ z ∷ [])
    ((var 5 ⊗ (((var 0 ⊗ var 6) ⊕ (var 1 ⊗ var 7)) ⊖ (var 2 ⊗ var 8))) ⊖ con (pos 0))
    (((((var 3 ⊗ var 8) ⊖ (var 6 ⊗ var 5)) ⊗ (con (pos 0) ⊖ var 0)) ⊕ (((var 4 ⊗ var 8) ⊖ (var 7 ⊗ var 5)) ⊗ (con (pos 0) ⊖ var 1))) ⊕ ((((var 0 ⊗ var 3) ⊕ (var 1 ⊗ var 4)) ⊖ (var 2 ⊗ var 5)) ⊗ var 8)) refl) e f g))

-- what is seen at one place is on the same lines
pub on_line_of_sight : (d : Triple) (l : Line) (p q : Point) → IsPoint p → OnOneSight d p q → IsOnLine d l p → IsOnLine d l q
on_line_of_sight d l p q positive same on = seen_too l.a l.b l.c (across_of d p) (upward_of d p) p.w (across_of d q) (upward_of d q) q.w positive same.across same.upward on

-- the sum of two points with whole weights
abbrev pub weighted_sum : ℤ → Point → ℤ → Point → Point
weighted_sum i p j q = record {
  x = (i *ℤ p.x) +ℤ (j *ℤ q.x);
  y = (i *ℤ p.y) +ℤ (j *ℤ q.y);
  z = (i *ℤ p.z) +ℤ (j *ℤ q.z);
  w = (i *ℤ p.w) +ℤ (j *ℤ q.w);
}

-- its product with a vector
pub product_of_sum : (s : Triple) (i j : ℤ) (p q : Point) → dot s (scaled (weighted_sum i p j q)) ≡ (i *ℤ dot s (scaled p)) +ℤ (j *ℤ dot s (scaled q))
product_of_sum s i j p q =
    ring (s.x ∷ s.y ∷ s.z ∷ p.x ∷ p.y ∷ p.z ∷ q.x ∷ q.y ∷ q.z ∷ i ∷ j ∷ [])
    (dots (letters 0) (record { x = (var 9 ⊗ var 3) ⊕ (var 10 ⊗ var 6); y = (var 9 ⊗ var 4) ⊕ (var 10 ⊗ var 7); z = (var 9 ⊗ var 5) ⊕ (var 10 ⊗ var 8) }))
    ((var 9 ⊗ dots (letters 0) (letters 3)) ⊕ (var 10 ⊗ dots (letters 0) (letters 6))) refl

-- between points of a line there are points of the line only
pub on_line_of_sum : (d : Triple) (l : Line) (i j : ℤ) (p q : Point) → IsOnLine d l p → IsOnLine d l q → IsOnLine d l (weighted_sum i p j q)
on_line_of_sum d l i j p q first second =
    (λ i'. (l.a *ℤ product_of_sum (right_axis d) i j p q i') +ℤ (l.b *ℤ product_of_sum (up_axis d) i j p q i')) ∙ sum l.a l.b l.c i j (across_of d p) (upward_of d p) p.w (across_of d q) (upward_of d q) q.w first second
  where
    sum : (a b c i j u v w s t z : ℤ) → (a *ℤ u) +ℤ (b *ℤ v) ≡ c *ℤ w → (a *ℤ s) +ℤ (b *ℤ t) ≡ c *ℤ z
        → (a *ℤ ((i *ℤ u) +ℤ (j *ℤ s))) +ℤ (b *ℤ ((i *ℤ v) +ℤ (j *ℤ t))) ≡ c *ℤ ((i *ℤ w) +ℤ (j *ℤ z))
    sum a b c i j u v w s t z e f =
        by_two ((a *ℤ ((i *ℤ u) +ℤ (j *ℤ s))) +ℤ (b *ℤ ((i *ℤ v) +ℤ (j *ℤ t)))) (c *ℤ ((i *ℤ w) +ℤ (j *ℤ z))) ((a *ℤ u) +ℤ (b *ℤ v)) (c *ℤ w) i ((a *ℤ s) +ℤ (b *ℤ t)) (c *ℤ z) j
        (ring (a ∷ b ∷ c ∷ i ∷ j ∷ u ∷ v ∷ w ∷ s ∷ t ∷ z ∷ [])
        (((var 0 ⊗ ((var 3 ⊗ var 5) ⊕ (var 4 ⊗ var 8))) ⊕ (var 1 ⊗ ((var 3 ⊗ var 6) ⊕ (var 4 ⊗ var 9)))) ⊖ (var 2 ⊗ ((var 3 ⊗ var 7) ⊕ (var 4 ⊗ var 10))))
        (((((var 0 ⊗ var 5) ⊕ (var 1 ⊗ var 6)) ⊖ (var 2 ⊗ var 7)) ⊗ var 3) ⊕ ((((var 0 ⊗ var 8) ⊕ (var 1 ⊗ var 9)) ⊖ (var 2 ⊗ var 10)) ⊗ var 4)) refl) e f

-- what a strip keeps
pub strip_seen : (d : Dir) (l : Line) (a b : Spot) → IsOnLine (of_dir d) l (of_spot a) → IsOnLine (of_dir d) l (of_spot b)
    → ¬ OnOneSight (of_dir d) (of_spot a) (of_spot b) → ∥ AreStripEndsInSomeView l a b ∥₁
strip_seen d l a b first second apart = merely (d, record { first = first; second = second; apart = apart })

-- ---- the line through two corners
-- a point that meets an equation of the line is on it
on_line_of : (d : Triple) (l : Line) (x y z : ℤ) (p : Point) → IsLineOf l x y z → (x *ℤ across_of d p) +ℤ (y *ℤ upward_of d p) ≡ z *ℤ p.w → IsOnLine d l p
on_line_of d l x y z p t e = divided l.a l.b l.c t.n (across_of d p) (upward_of d p) p.w t.somewhere (sym (λ i. (t.a i *ℤ across_of d p) +ℤ (t.b i *ℤ upward_of d p)) ∙ e ∙ (λ i. t.c i *ℤ p.w))
  where
    divided : (a b c n u v w : ℤ) → 0 < unsigned_abs n → ((a *ℤ n) *ℤ u) +ℤ ((b *ℤ n) *ℤ v) ≡ (c *ℤ n) *ℤ w → (a *ℤ u) +ℤ (b *ℤ v) ≡ c *ℤ w
    divided a b c n u v w some e =
        same_of_gap ((a *ℤ u) +ℤ (b *ℤ v)) (c *ℤ w) (zero_of_times n (((a *ℤ u) +ℤ (b *ℤ v)) -ℤ (c *ℤ w)) some
        (by_one (n *ℤ (((a *ℤ u) +ℤ (b *ℤ v)) -ℤ (c *ℤ w))) (pos 0) (((a *ℤ n) *ℤ u) +ℤ ((b *ℤ n) *ℤ v)) ((c *ℤ n) *ℤ w) (pos 1)
        (ring (a ∷ b ∷ c ∷ n ∷ u ∷ v ∷ w ∷ [])
        ((var 3 ⊗ (((var 0 ⊗ var 4) ⊕ (var 1 ⊗ var 5)) ⊖ (var 2 ⊗ var 6))) ⊖ con (pos 0))
        (((((var 0 ⊗ var 3) ⊗ var 4) ⊕ ((var 1 ⊗ var 3) ⊗ var 5)) ⊖ ((var 2 ⊗ var 3) ⊗ var 6)) ⊗ con (pos 1)) refl) e))

pub dot_difference : (s : Triple) (p q : Corner) → dot s (difference p q) ≡ dot s (scaled (point_of q)) -ℤ dot s (scaled (point_of p))
dot_difference s p q =
    ring (s.x ∷ s.y ∷ s.z ∷ p.x ∷ p.y ∷ p.z ∷ q.x ∷ q.y ∷ q.z ∷ [])
    (dots (letters 0) (record { x = var 6 ⊖ var 3; y = var 7 ⊖ var 4; z = var 8 ⊖ var 5 }))
    (dots (letters 0) (letters 6) ⊖ dots (letters 0) (letters 3)) refl

module _ (d : Triple) (p q : Corner) (a b : ℤ) (ea : a ≡ dot (up_axis d) (difference p q)) (eb : b ≡ dot (right_axis d) (difference q p)) where
  step_up : a ≡ upward_of d (point_of q) -ℤ upward_of d (point_of p)
  step_up = ea ∙ dot_difference (up_axis d) p q

  step_back : b ≡ across_of d (point_of p) -ℤ across_of d (point_of q)
  step_back = eb ∙ dot_difference (right_axis d) q p

  -- corners that are not seen at one place have a step between them
  pub some_step : ¬ OnOneSight d (point_of p) (point_of q) → 0 < unsigned_abs a + unsigned_abs b
  some_step apart = counts a b (λ x y. apart (record {
    across = level b (across_of d (point_of p)) (across_of d (point_of q)) step_back y;
    upward = sym (level a (upward_of d (point_of q)) (upward_of d (point_of p)) step_up x);
  }))
    where
      level : (a u v : ℤ) → a ≡ u -ℤ v → a ≡ pos 0 → u *ℤ pos 1 ≡ v *ℤ pos 1
      level a u v e h = omega (arith, ints)

      counts : (x y : ℤ) → (x ≡ pos 0 → y ≡ pos 0 → ⊥) → 0 < unsigned_abs x + unsigned_abs y
      counts (pos zero) (pos zero) h = absurd (h refl refl)
      counts (pos zero) (pos (suc y)) h = omega arith
      counts (pos zero) (negsuc y) h = omega arith
      counts (pos (suc x)) y h = omega arith
      counts (negsuc x) y h = omega arith

  module _ (l : Line) (c : ℤ) (ec : c ≡ (a *ℤ across_of d (point_of p)) +ℤ (b *ℤ upward_of d (point_of p))) (t : IsLineOf l a b c) where
    pub first_on : IsOnLine d l (point_of p)
    first_on = on_line_of d l a b c (point_of p) t (sym ec ∙ times_one c)

    pub second_on : IsOnLine d l (point_of q)
    second_on = on_line_of d l a b c (point_of q) t (crossed a b c (across_of d (point_of p)) (upward_of d (point_of p)) (across_of d (point_of q)) (upward_of d (point_of q)) step_up step_back ec)
      where
        crossed : (a b c u v s t : ℤ) → a ≡ t -ℤ v → b ≡ u -ℤ s → c ≡ (a *ℤ u) +ℤ (b *ℤ v) → (a *ℤ s) +ℤ (b *ℤ t) ≡ c *ℤ pos 1
        crossed a b c u v s t e f g =
            by_three ((a *ℤ s) +ℤ (b *ℤ t)) (c *ℤ pos 1) a (t -ℤ v) (s -ℤ u) b (u -ℤ s) (t -ℤ v) c ((a *ℤ u) +ℤ (b *ℤ v)) (pos 0 -ℤ pos 1)
            (ring (a ∷ b ∷ c ∷ u ∷ v ∷ s ∷ t ∷ [])
            (((var 0 ⊗ var 5) ⊕ (var 1 ⊗ var 6)) ⊖ (var 2 ⊗ con (pos 1)))
            ((((var 0 ⊖ (var 6 ⊖ var 4)) ⊗ (var 5 ⊖ var 3)) ⊕ ((var 1 ⊖ (var 3 ⊖ var 5)) ⊗ (var 6 ⊖ var 4))) ⊕ ((var 2 ⊖ ((var 0 ⊗ var 3) ⊕ (var 1 ⊗ var 4))) ⊗ (con (pos 0) ⊖ con (pos 1)))) refl) e f g
