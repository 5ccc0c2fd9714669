-- When two lines of a view are one: their numbers are in lowest terms.
use Rattle.std.proofs.Common.{◌≡◌, [], ◌∷◌, zero, suc, ◌*◌, arith, refl, sym, ap, ◌∙◌, subst}
use Rattle.std.specs.Prelude.{ℤ, pos, negsuc, ◌+ℤ◌, ◌-ℤ◌, ◌*ℤ◌, ◌<ℤ◌, unsigned_abs}
use Rattle.std.specs.Int.{◌∣◌}
use Rattle.std.proofs.Math.Nat.{dvd-mul_right, dvd_antisymm}
use Rattle.std.proofs.lemmas.Int.{ints, unsigned_abs-mul}
use Rattle.integers.proofs.Comparisons.{zero_times}
use Rattle.integers.proofs.Divisors.{divides_factor}
use Rattle.integers.proofs.Ring.{var, con, ◌⊕◌, ◌⊖◌, ◌⊗◌, ring, mul_comm, by_two, by_three, same_of_gap}
use Rattle.integers.proofs.Signs.{zero_of_mul, zero_of_either}
use Rattle.lattice.specs.Triple.{Triple}
use Rattle.lattice.specs.Points.{Point, IsPoint, OnOneSight, across_of, upward_of}
use Rattle.lattice.specs.declared.lines.Line.{Line}
use Rattle.lattice.specs.LowestTerms.{leading_of, HaveNoCommonDivisor}
use Rattle.lattice.specs.Lines.{IsOnLine, IsSameLine}

-- ---- differences
-- the difference of U of two points, and that of V, each times both divisors
abbrev pub across_between : Triple → Point → Point → ℤ
across_between d p q = (across_of d q *ℤ p.w) -ℤ (across_of d p *ℤ q.w)

abbrev pub upward_between : Triple → Point → Point → ℤ
upward_between d p q = (upward_of d q *ℤ p.w) -ℤ (upward_of d p *ℤ q.w)

-- ---- proportional numbers in lowest terms are equal
-- those of one triple, each times the leading number of the other
record AreCrossed (x y a b c e f g : ℤ) : Type 0 where
  first : x *ℤ e ≡ y *ℤ a
  second : x *ℤ f ≡ y *ℤ b
  third : x *ℤ g ≡ y *ℤ c

by_leading : (a b c e f g : ℤ) → pos 0 <ℤ leading_of a b → pos 0 <ℤ leading_of e f → a *ℤ f ≡ e *ℤ b → a *ℤ g ≡ e *ℤ c → b *ℤ g ≡ f *ℤ c → AreCrossed (leading_of a b) (leading_of e f) a b c e f g
by_leading (pos zero) b c (pos zero) f g h k ab ac bc = record { first = nothing b f; second = mul_comm b f; third = bc }
  where
    nothing : (b f : ℤ) → b *ℤ pos 0 ≡ f *ℤ pos 0
    nothing b f = omega (arith, ints)
by_leading (pos zero) b c (pos (suc e)) f g h k ab ac bc = absurd (neither (pos (suc e)) b f k h ab)
  where
    neither : (e b f : ℤ) → pos 0 <ℤ e → pos 0 <ℤ b → pos 0 *ℤ f ≡ e *ℤ b → ⊥
    neither e b f k h ab = let z = zero_of_mul e b k (sym ab ∙ zero_times f) in omega (arith, ints)
by_leading (pos (suc a)) b c (pos zero) f g h k ab ac bc = absurd (neither (pos (suc a)) b f h k ab)
  where
    neither : (a b f : ℤ) → pos 0 <ℤ a → pos 0 <ℤ f → a *ℤ f ≡ pos 0 *ℤ b → ⊥
    neither a b f h k ab = let z = zero_of_mul a f h (ab ∙ zero_times b) in omega (arith, ints)
by_leading (pos (suc a)) b c (pos (suc e)) f g h k ab ac bc = record { first = mul_comm (pos (suc a)) (pos (suc e)); second = ab; third = ac }
by_leading a b c (negsuc e) f g h k ab ac bc = absurd (omega (arith, ints, k))
by_leading (negsuc a) b c e f g h k ab ac bc = absurd (omega (arith, ints, h))

record AreSame (a b c e f g : ℤ) : Type 0 where
  first : a ≡ e
  second : b ≡ f
  third : c ≡ g

-- x divides y, where it divides y times numbers without a common divisor
divides : (x y a b c e f g : ℤ) → pos 0 <ℤ x → HaveNoCommonDivisor a b c → AreCrossed x y a b c e f g → unsigned_abs x ∣ unsigned_abs y
divides x y a b c e f g positive lowest h =
    divides_factor (unsigned_abs x) (unsigned_abs y) (unsigned_abs a) (unsigned_abs b) (unsigned_abs c) (omega (arith, ints)) lowest (part e a h.first) (part f b h.second) (part g c h.third)
  where
    part : (e a : ℤ) → x *ℤ e ≡ y *ℤ a → unsigned_abs x ∣ unsigned_abs y * unsigned_abs a
    part e a h = subst (λ n. unsigned_abs x ∣ n) (sym (unsigned_abs-mul x e) ∙ ap unsigned_abs h ∙ unsigned_abs-mul y a) (dvd-mul_right (unsigned_abs x) (unsigned_abs e))

same_numbers : (x y a b c e f g : ℤ) → pos 0 <ℤ x → pos 0 <ℤ y → HaveNoCommonDivisor a b c → HaveNoCommonDivisor e f g → AreCrossed x y a b c e f g → AreSame a b c e f g
same_numbers x y a b c e f g hx hy low low_too h =
    let same : x ≡ y = alike x y hx hy (dvd_antisymm (divides x y a b c e f g hx low h) (divides y x e f g a b c hy low_too (record { first = sym h.first; second = sym h.second; third = sym h.third }))) in
    record { first = cancel same a e h.first; second = cancel same b f h.second; third = cancel same c g h.third }
  where
    alike : (x y : ℤ) → pos 0 <ℤ x → pos 0 <ℤ y → unsigned_abs x ≡ unsigned_abs y → x ≡ y
    alike x y hx hy h = omega (arith, ints)

    cancel : x ≡ y → (a e : ℤ) → x *ℤ e ≡ y *ℤ a → a ≡ e
    cancel same a e h =
        same_of_gap a e (zero_of_mul y (a -ℤ e) hy (by_two (y *ℤ (a -ℤ e)) (pos 0) (x *ℤ e) (y *ℤ a) (pos 0 -ℤ pos 1) x y e
        (ring (x ∷ y ∷ a ∷ e ∷ [])
        ((var 1 ⊗ (var 2 ⊖ var 3)) ⊖ con (pos 0))
        ((((var 0 ⊗ var 3) ⊖ (var 1 ⊗ var 2)) ⊗ (con (pos 0) ⊖ con (pos 1))) ⊕ ((var 0 ⊖ var 1) ⊗ var 3)) refl) h same))

-- ---- lines
-- a step along a line
pub along_line : (d : Triple) (l : Line) (p q : Point) → IsOnLine d l p → IsOnLine d l q → (l.a *ℤ across_between d p q) +ℤ (l.b *ℤ upward_between d p q) ≡ pos 0
along_line d l p q first second = step l.a l.b l.c (across_of d p) (upward_of d p) p.w (across_of d q) (upward_of d q) q.w first second
  where
    step : (a b c u v w s t z : ℤ) → (a *ℤ u) +ℤ (b *ℤ v) ≡ c *ℤ w → (a *ℤ s) +ℤ (b *ℤ t) ≡ c *ℤ z → (a *ℤ ((s *ℤ w) -ℤ (u *ℤ z))) +ℤ (b *ℤ ((t *ℤ w) -ℤ (v *ℤ z))) ≡ pos 0
    step a b c u v w s t z e f =
        by_two ((a *ℤ ((s *ℤ w) -ℤ (u *ℤ z))) +ℤ (b *ℤ ((t *ℤ w) -ℤ (v *ℤ z)))) (pos 0) ((a *ℤ s) +ℤ (b *ℤ t)) (c *ℤ z) w ((a *ℤ u) +ℤ (b *ℤ v)) (c *ℤ w) (pos 0 -ℤ z)
        (ring (a ∷ b ∷ c ∷ u ∷ v ∷ w ∷ s ∷ t ∷ z ∷ [])
        (((var 0 ⊗ ((var 6 ⊗ var 5) ⊖ (var 3 ⊗ var 8))) ⊕ (var 1 ⊗ ((var 7 ⊗ var 5) ⊖ (var 4 ⊗ var 8)))) ⊖ con (pos 0))
        (((((var 0 ⊗ var 6) ⊕ (var 1 ⊗ var 7)) ⊖ (var 2 ⊗ var 8)) ⊗ var 5) ⊕ ((((var 0 ⊗ var 3) ⊕ (var 1 ⊗ var 4)) ⊖ (var 2 ⊗ var 5)) ⊗ (con (pos 0) ⊖ var 8))) refl) f e

no_step : (d : Triple) (p q : Point) → ¬ OnOneSight d p q → across_between d p q ≡ pos 0 → upward_between d p q ≡ pos 0 → ⊥
no_step d p q apart u v = apart (record {
  across = sym (same_of_gap (across_of d q *ℤ p.w) (across_of d p *ℤ q.w) u);
  upward = sym (same_of_gap (upward_of d q *ℤ p.w) (upward_of d p *ℤ q.w) v);
})

-- the steps (u, v) along one line and (s, t) along another are parallel: then so are the lines
parallel_lines : (a b e f u v s t : ℤ) → (u ≡ pos 0 → v ≡ pos 0 → ⊥) → (s ≡ pos 0 → t ≡ pos 0 → ⊥) → (a *ℤ u) +ℤ (b *ℤ v) ≡ pos 0 → (e *ℤ s) +ℤ (f *ℤ t) ≡ pos 0 → u *ℤ t ≡ v *ℤ s → a *ℤ f ≡ e *ℤ b
parallel_lines a b e f u v s t some some_too on on_too parallel =
    let level : (a *ℤ s) +ℤ (b *ℤ t) ≡ pos 0 = zero_of_either u v ((a *ℤ s) +ℤ (b *ℤ t)) some
    (by_two (u *ℤ ((a *ℤ s) +ℤ (b *ℤ t))) (pos 0) (u *ℤ t) (v *ℤ s) b ((a *ℤ u) +ℤ (b *ℤ v)) (pos 0) s
    (ring (a ∷ b ∷ u ∷ v ∷ s ∷ t ∷ [])
    ((var 2 ⊗ ((var 0 ⊗ var 4) ⊕ (var 1 ⊗ var 5))) ⊖ con (pos 0))
    ((((var 2 ⊗ var 5) ⊖ (var 3 ⊗ var 4)) ⊗ var 1) ⊕ ((((var 0 ⊗ var 2) ⊕ (var 1 ⊗ var 3)) ⊖ con (pos 0)) ⊗ var 4)) refl) parallel on)
    (by_two (v *ℤ ((a *ℤ s) +ℤ (b *ℤ t))) (pos 0) (u *ℤ t) (v *ℤ s) (pos 0 -ℤ a) ((a *ℤ u) +ℤ (b *ℤ v)) (pos 0) t
    (ring (a ∷ b ∷ u ∷ v ∷ s ∷ t ∷ [])
    ((var 3 ⊗ ((var 0 ⊗ var 4) ⊕ (var 1 ⊗ var 5))) ⊖ con (pos 0))
    ((((var 2 ⊗ var 5) ⊖ (var 3 ⊗ var 4)) ⊗ (con (pos 0) ⊖ var 0)) ⊕ ((((var 0 ⊗ var 2) ⊕ (var 1 ⊗ var 3)) ⊖ con (pos 0)) ⊗ var 5)) refl) parallel on) in
    same_of_gap (a *ℤ f) (e *ℤ b) (zero_of_either s t ((a *ℤ f) -ℤ (e *ℤ b)) some_too
    (by_two (s *ℤ ((a *ℤ f) -ℤ (e *ℤ b))) (pos 0) ((a *ℤ s) +ℤ (b *ℤ t)) (pos 0) f ((e *ℤ s) +ℤ (f *ℤ t)) (pos 0) (pos 0 -ℤ b)
    (ring (a ∷ b ∷ e ∷ f ∷ s ∷ t ∷ [])
    ((var 4 ⊗ ((var 0 ⊗ var 3) ⊖ (var 2 ⊗ var 1))) ⊖ con (pos 0))
    (((((var 0 ⊗ var 4) ⊕ (var 1 ⊗ var 5)) ⊖ con (pos 0)) ⊗ var 3) ⊕ ((((var 2 ⊗ var 4) ⊕ (var 3 ⊗ var 5)) ⊖ con (pos 0)) ⊗ (con (pos 0) ⊖ var 1))) refl) level on_too)
    (by_two (t *ℤ ((a *ℤ f) -ℤ (e *ℤ b))) (pos 0) ((e *ℤ s) +ℤ (f *ℤ t)) (pos 0) a ((a *ℤ s) +ℤ (b *ℤ t)) (pos 0) (pos 0 -ℤ e)
    (ring (a ∷ b ∷ e ∷ f ∷ s ∷ t ∷ [])
    ((var 5 ⊗ ((var 0 ⊗ var 3) ⊖ (var 2 ⊗ var 1))) ⊖ con (pos 0))
    (((((var 2 ⊗ var 4) ⊕ (var 3 ⊗ var 5)) ⊖ con (pos 0)) ⊗ var 0) ⊕ ((((var 0 ⊗ var 4) ⊕ (var 1 ⊗ var 5)) ⊖ con (pos 0)) ⊗ (con (pos 0) ⊖ var 2))) refl) on_too level))

-- parallel lines with a common point (u, v, w) are one
module _ (a b c e f g u v w : ℤ) (positive : pos 0 <ℤ w) (on : (a *ℤ u) +ℤ (b *ℤ v) ≡ c *ℤ w) (on_too : (e *ℤ u) +ℤ (f *ℤ v) ≡ g *ℤ w) (parallel : a *ℤ f ≡ e *ℤ b) where
  first_third : a *ℤ g ≡ e *ℤ c
  first_third =
      same_of_gap (a *ℤ g) (e *ℤ c) (zero_of_mul w ((a *ℤ g) -ℤ (e *ℤ c)) positive
      (by_three (w *ℤ ((a *ℤ g) -ℤ (e *ℤ c))) (pos 0) ((e *ℤ u) +ℤ (f *ℤ v)) (g *ℤ w) (pos 0 -ℤ a) ((a *ℤ u) +ℤ (b *ℤ v)) (c *ℤ w) e (a *ℤ f) (e *ℤ b) v
      (ring (a ∷ b ∷ c ∷ e ∷ f ∷ g ∷ u ∷ v ∷ w ∷ [])
      ((var 8 ⊗ ((var 0 ⊗ var 5) ⊖ (var 3 ⊗ var 2))) ⊖ con (pos 0))
      ((((((var 3 ⊗ var 6) ⊕ (var 4 ⊗ var 7)) ⊖ (var 5 ⊗ var 8)) ⊗ (con (pos 0) ⊖ var 0)) ⊕ ((((var 0 ⊗ var 6) ⊕ (var 1 ⊗ var 7)) ⊖ (var 2 ⊗ var 8)) ⊗ var 3)) ⊕ (((var 0 ⊗ var 4) ⊖ (var 3 ⊗ var 1)) ⊗ var 7)) refl) on_too on parallel))

  second_third : b *ℤ g ≡ f *ℤ c
  second_third =
      same_of_gap (b *ℤ g) (f *ℤ c) (zero_of_mul w ((b *ℤ g) -ℤ (f *ℤ c)) positive
      (by_three (w *ℤ ((b *ℤ g) -ℤ (f *ℤ c))) (pos 0) ((e *ℤ u) +ℤ (f *ℤ v)) (g *ℤ w) (pos 0 -ℤ b) ((a *ℤ u) +ℤ (b *ℤ v)) (c *ℤ w) f (a *ℤ f) (e *ℤ b) (pos 0 -ℤ u)
      (ring (a ∷ b ∷ c ∷ e ∷ f ∷ g ∷ u ∷ v ∷ w ∷ [])
      ((var 8 ⊗ ((var 1 ⊗ var 5) ⊖ (var 4 ⊗ var 2))) ⊖ con (pos 0))
      ((((((var 3 ⊗ var 6) ⊕ (var 4 ⊗ var 7)) ⊖ (var 5 ⊗ var 8)) ⊗ (con (pos 0) ⊖ var 1)) ⊕ ((((var 0 ⊗ var 6) ⊕ (var 1 ⊗ var 7)) ⊖ (var 2 ⊗ var 8)) ⊗ var 4)) ⊕ (((var 0 ⊗ var 4) ⊖ (var 3 ⊗ var 1)) ⊗ (con (pos 0) ⊖ var 6))) refl) on_too on parallel))

-- two lines with parallel stretches p q and r s, and a common point x
pub same_of_parallel : (d : Triple) (l m : Line) (p q r s x : Point) → IsPoint p → IsPoint q → IsPoint r → IsPoint s → IsPoint x
    → ¬ OnOneSight d p q → ¬ OnOneSight d r s → IsOnLine d l p → IsOnLine d l q → IsOnLine d m r → IsOnLine d m s
    → across_between d p q *ℤ upward_between d r s ≡ upward_between d p q *ℤ across_between d r s → IsOnLine d l x → IsOnLine d m x → IsSameLine l m
same_of_parallel d l m p q r s x pp pq pr ps px apart apart_too lp lq mr ms parallel lx mx =
    let first = parallel_lines l.a l.b m.a m.b (across_between d p q) (upward_between d p q) (across_between d r s) (upward_between d r s) (no_step d p q apart) (no_step d r s apart_too)
    (along_line d l p q lp lq) (along_line d m r s mr ms) parallel in
    let second = first_third l.a l.b l.c m.a m.b m.c (across_of d x) (upward_of d x) x.w px lx mx first in
    let third = second_third l.a l.b l.c m.a m.b m.c (across_of d x) (upward_of d x) x.w px lx mx first in
    let same = same_numbers (leading_of l.a l.b) (leading_of m.a m.b) l.a l.b l.c m.a m.b m.c l.leads m.leads l.lowest m.lowest (by_leading l.a l.b l.c m.a m.b m.c l.leads m.leads first second third) in
    record { a = same.first; b = same.second; c = same.third }

-- two lines with two common points that are not seen at one place
pub same_line : (d : Triple) (l m : Line) (p q : Point) → IsPoint p → IsPoint q → ¬ OnOneSight d p q
    → IsOnLine d l p → IsOnLine d l q → IsOnLine d m p → IsOnLine d m q → IsSameLine l m
same_line d l m p q pp pq apart lp lq mp mq =
    same_of_parallel d l m p q p q p pp pq pp pq pp apart apart lp lq mp mq (mul_comm (across_between d p q) (upward_between d p q)) lp mp
