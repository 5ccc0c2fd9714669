-- A segment across a hatch line: where it crosses, and on which side of it a point is.
use Rattle.std.proofs.Common.{◌≡◌, ◌≢◌, ◌↔◌, List, [], ◌∷◌, refl, sym, subst, ◌∙◌, arith}
use Rattle.std.specs.Prelude.{ℤ, pos, ◌+ℤ◌, ◌-ℤ◌, ◌*ℤ◌, ◌<ℤ◌, ◌≤ℤ◌}
use Rattle.std.proofs.lemmas.Int.{ints}
use Rattle.integers.proofs.Comparisons.{gap_of_at_most, not_negative_of_positive, less_of_gap}
use Rattle.integers.proofs.Ring.{var, con, ◌⊕◌, ◌⊖◌, ◌⊗◌, ring, by_one, by_two, same_of_gap, gap_of_less}
use Rattle.integers.proofs.Signs.{mul_pos, mul_nonneg, zero_of_times, pos_of_mul, nonneg_of_mul}
use Rattle.lattice.specs.declared.lines.Line.{Line}
use Rattle.lattice.specs.Triple.{Triple}
use Rattle.lattice.specs.Points.{Point, IsPoint, across_of}
use Rattle.lattice.specs.Lines.{IsOnLine}
use Rattle.cut_plane.proofs.Sights.{Sight, sight_of, turn_of}
use Rattle.cut_plane.specs.Diagonals.{diagonal_of}
use Rattle.cut_plane.proofs.OverDiagonals.{GoesOver}
use Rattle.hatch_fill.specs.inner.Meetings.{MeetsAt}
use Rattle.hatch_fill.proofs.Meets.{size_of_some}

abbrev three : Sight → Sight → Sight → ℤ → ℤ → ℤ → List ℤ
three k l p a b c = k.u ∷ k.v ∷ k.w ∷ l.u ∷ l.v ∷ l.w ∷ p.u ∷ p.v ∷ p.w ∷ a ∷ b ∷ c ∷ []

-- how much further l is across the diagonals than k, times both divisors
abbrev pub rise : Sight → Sight → ℤ
rise k l = ((l.u -ℤ l.v) *ℤ k.w) -ℤ ((k.u -ℤ k.v) *ℤ l.w)

-- the turn to p, by what the line is worth there
turn_by_line : (k l p : Sight) (a b c : ℤ) → (a *ℤ k.u) +ℤ (b *ℤ k.v) ≡ c *ℤ k.w → (a *ℤ l.u) +ℤ (b *ℤ l.v) ≡ c *ℤ l.w → turn_of k l p *ℤ (a +ℤ b) ≡ rise k l *ℤ (((a *ℤ p.u) +ℤ (b *ℤ p.v)) -ℤ (c *ℤ p.w))
turn_by_line k l p a b c on_k on_l =
    by_two _ _ ((a *ℤ k.u) +ℤ (b *ℤ k.v)) (c *ℤ k.w) ((l.w *ℤ (p.u -ℤ p.v)) -ℤ ((l.u -ℤ l.v) *ℤ p.w)) ((a *ℤ l.u) +ℤ (b *ℤ l.v)) (c *ℤ l.w) (((k.u -ℤ k.v) *ℤ p.w) -ℤ (k.w *ℤ (p.u -ℤ p.v)))
    (ring (three k l p a b c)
    (((((var 0 ⊗ ((var 4 ⊗ var 8) ⊖ (var 5 ⊗ var 7))) ⊖ (var 1 ⊗ ((var 3 ⊗ var 8) ⊖ (var 5 ⊗ var 6)))) ⊕ (var 2 ⊗ ((var 3 ⊗ var 7) ⊖ (var 4 ⊗ var 6)))) ⊗ (var 9 ⊕ var 10))
    ⊖ ((((var 3 ⊖ var 4) ⊗ var 2) ⊖ ((var 0 ⊖ var 1) ⊗ var 5)) ⊗ (((var 9 ⊗ var 6) ⊕ (var 10 ⊗ var 7)) ⊖ (var 11 ⊗ var 8))))
    (((((var 9 ⊗ var 0) ⊕ (var 10 ⊗ var 1)) ⊖ (var 11 ⊗ var 2)) ⊗ ((var 5 ⊗ (var 6 ⊖ var 7)) ⊖ ((var 3 ⊖ var 4) ⊗ var 8)))
    ⊕ ((((var 9 ⊗ var 3) ⊕ (var 10 ⊗ var 4)) ⊖ (var 11 ⊗ var 5)) ⊗ (((var 0 ⊖ var 1) ⊗ var 8) ⊖ (var 2 ⊗ (var 6 ⊖ var 7))))) refl) on_k on_l

-- what the line is worth at a point of the hatch line, by where it crosses that
line_by_place : (u v w a b c d n m : ℤ) → u -ℤ v ≡ d *ℤ w → (a +ℤ b) *ℤ n ≡ (c +ℤ (b *ℤ d)) *ℤ m → (((a *ℤ u) +ℤ (b *ℤ v)) -ℤ (c *ℤ w)) *ℤ m ≡ (a +ℤ b) *ℤ ((u *ℤ m) -ℤ (n *ℤ w))
line_by_place u v w a b c d n m on meets =
    by_two _ _ (u -ℤ v) (d *ℤ w) (pos 0 -ℤ (b *ℤ m)) ((a +ℤ b) *ℤ n) ((c +ℤ (b *ℤ d)) *ℤ m) w
    (ring (u ∷ v ∷ w ∷ a ∷ b ∷ c ∷ d ∷ n ∷ m ∷ [])
    (((((var 3 ⊗ var 0) ⊕ (var 4 ⊗ var 1)) ⊖ (var 5 ⊗ var 2)) ⊗ var 8) ⊖ ((var 3 ⊕ var 4) ⊗ ((var 0 ⊗ var 8) ⊖ (var 7 ⊗ var 2))))
    ((((var 0 ⊖ var 1) ⊖ (var 6 ⊗ var 2)) ⊗ (con (pos 0) ⊖ (var 4 ⊗ var 8))) ⊕ ((((var 3 ⊕ var 4) ⊗ var 7) ⊖ ((var 5 ⊕ (var 4 ⊗ var 6)) ⊗ var 8)) ⊗ var 2)) refl) on meets

cancelled : (g x y : ℤ) → g ≢ pos 0 → g *ℤ x ≡ g *ℤ y → x ≡ y
cancelled g x y some e =
    same_of_gap x y (zero_of_times g (x -ℤ y) (size_of_some g some)
    (by_one _ _ (g *ℤ x) (g *ℤ y) (pos 1) (ring (g ∷ x ∷ y ∷ []) ((var 0 ⊗ (var 1 ⊖ var 2)) ⊖ con (pos 0)) (((var 0 ⊗ var 1) ⊖ (var 0 ⊗ var 2)) ⊗ con (pos 1)) refl) e))

turn_by_place : (k l p : Sight) (a b c d n m : ℤ) → a +ℤ b ≢ pos 0 → (a *ℤ k.u) +ℤ (b *ℤ k.v) ≡ c *ℤ k.w → (a *ℤ l.u) +ℤ (b *ℤ l.v) ≡ c *ℤ l.w → p.u -ℤ p.v ≡ d *ℤ p.w → (a +ℤ b) *ℤ n ≡ (c +ℤ (b *ℤ d)) *ℤ m
    → turn_of k l p *ℤ m ≡ rise k l *ℤ ((p.u *ℤ m) -ℤ (n *ℤ p.w))
turn_by_place k l p a b c d n m some on_k on_l on meets = cancelled (a +ℤ b) (turn_of k l p *ℤ m) (rise k l *ℤ ((p.u *ℤ m) -ℤ (n *ℤ p.w))) some (by (turn_of k l p) (rise k l) (((a *ℤ p.u) +ℤ (b *ℤ p.v)) -ℤ (c *ℤ p.w)) ((p.u *ℤ m) -ℤ (n *ℤ p.w)) (turn_by_line k l p a b c on_k on_l) (line_by_place p.u p.v p.w a b c d n m on meets))
  where
    by : (t r x y : ℤ) → t *ℤ (a +ℤ b) ≡ r *ℤ x → x *ℤ m ≡ (a +ℤ b) *ℤ y → (a +ℤ b) *ℤ (t *ℤ m) ≡ (a +ℤ b) *ℤ (r *ℤ y)
    by t r x y e f =
        by_two _ _ (t *ℤ (a +ℤ b)) (r *ℤ x) m (x *ℤ m) ((a +ℤ b) *ℤ y) r
        (ring (t ∷ r ∷ x ∷ y ∷ m ∷ a ∷ b ∷ [])
        (((var 5 ⊕ var 6) ⊗ (var 0 ⊗ var 4)) ⊖ ((var 5 ⊕ var 6) ⊗ (var 1 ⊗ var 3)))
        ((((var 0 ⊗ (var 5 ⊕ var 6)) ⊖ (var 1 ⊗ var 2)) ⊗ var 4) ⊕ (((var 2 ⊗ var 4) ⊖ ((var 5 ⊕ var 6) ⊗ var 3)) ⊗ var 1)) refl) e f

-- ---- signs
positive_both : (t m r x : ℤ) → pos 0 <ℤ m → pos 0 <ℤ r → t *ℤ m ≡ r *ℤ x → (pos 0 <ℤ t) ↔ (pos 0 <ℤ x)
positive_both t m r x hm hr e = (
  (λ h. pos_of_mul r x hr (subst (λ (z : ℤ). pos 0 <ℤ z) e (mul_pos t m h hm))),
  (λ h. pos_of_mul m t hm (subst (λ (z : ℤ). pos 0 <ℤ z) (sym e ∙ ring (t ∷ m ∷ []) (var 0 ⊗ var 1) (var 1 ⊗ var 0) refl) (mul_pos r x hr h))),
)

-- k is at this U - V or before it, and l is beyond it
pub record IsAcross (diagonal : ℤ) (k l : Sight) : Type 0 where
  pub from : (k.u -ℤ k.v) ≤ℤ (diagonal *ℤ k.w)
  pub to : (diagonal *ℤ l.w) <ℤ (l.u -ℤ l.v)

pub rise_positive : (d : ℤ) (k l : Sight) → pos 0 <ℤ k.w → pos 0 <ℤ l.w → IsAcross d k l → pos 0 <ℤ rise k l
rise_positive d k l hk hl h =
    sum (rise k l) (((l.u -ℤ l.v) -ℤ (d *ℤ l.w)) *ℤ k.w) (((d *ℤ k.w) -ℤ (k.u -ℤ k.v)) *ℤ l.w)
    (ring (k.u ∷ k.v ∷ k.w ∷ l.u ∷ l.v ∷ l.w ∷ d ∷ [])
    (((var 3 ⊖ var 4) ⊗ var 2) ⊖ ((var 0 ⊖ var 1) ⊗ var 5))
    ((((var 3 ⊖ var 4) ⊖ (var 6 ⊗ var 5)) ⊗ var 2) ⊕ (((var 6 ⊗ var 2) ⊖ (var 0 ⊖ var 1)) ⊗ var 5)) refl)
    (mul_pos _ k.w (gap_of_less _ _ h.to) hk) (mul_nonneg _ l.w (gap_of_at_most _ _ h.from) (not_negative_of_positive l.w hl))
  where
    sum : (r x y : ℤ) → r ≡ x +ℤ y → pos 0 <ℤ x → pos 0 ≤ℤ y → pos 0 <ℤ r
    sum r x y e h k = omega (arith, ints)

-- the diagonal's number, without the point's divisor
scaled_most : (x d w k : ℤ) → pos 0 <ℤ w → (x *ℤ w) ≤ℤ ((d *ℤ w) *ℤ k) → x ≤ℤ (d *ℤ k)
scaled_most x d w k h l = back (nonneg_of_mul w ((d *ℤ k) -ℤ x) h (subst (λ (z : ℤ). pos 0 ≤ℤ z) (ring (x ∷ d ∷ w ∷ k ∷ []) (((var 1 ⊗ var 2) ⊗ var 3) ⊖ (var 0 ⊗ var 2)) (var 2 ⊗ ((var 1 ⊗ var 3) ⊖ var 0)) refl) (gap_of_at_most _ _ l)))
  where
    back : pos 0 ≤ℤ ((d *ℤ k) -ℤ x) → x ≤ℤ (d *ℤ k)
    back h = omega (arith, ints)

scaled_less : (x d w k : ℤ) → pos 0 <ℤ w → ((d *ℤ w) *ℤ k) <ℤ (x *ℤ w) → (d *ℤ k) <ℤ x
scaled_less x d w k h l = back (pos_of_mul w (x -ℤ (d *ℤ k)) h (subst (λ (z : ℤ). pos 0 <ℤ z) (ring (x ∷ d ∷ w ∷ k ∷ []) ((var 0 ⊗ var 2) ⊖ ((var 1 ⊗ var 2) ⊗ var 3)) (var 2 ⊗ (var 0 ⊖ (var 1 ⊗ var 3))) refl) (gap_of_less _ _ l)))
  where
    back : pos 0 <ℤ (x -ℤ (d *ℤ k)) → (d *ℤ k) <ℤ x
    back h = omega (arith, ints)

most_scaled : (x d w k : ℤ) → pos 0 <ℤ w → x ≤ℤ (d *ℤ k) → (x *ℤ w) ≤ℤ ((d *ℤ w) *ℤ k)
most_scaled x d w k h l = back (subst (λ (z : ℤ). pos 0 ≤ℤ z) (ring (x ∷ d ∷ w ∷ k ∷ []) (((var 1 ⊗ var 3) ⊖ var 0) ⊗ var 2) (((var 1 ⊗ var 2) ⊗ var 3) ⊖ (var 0 ⊗ var 2)) refl) (mul_nonneg ((d *ℤ k) -ℤ x) w (gap_of_at_most _ _ l) (not_negative_of_positive w h)))
  where
    back : pos 0 ≤ℤ (((d *ℤ w) *ℤ k) -ℤ (x *ℤ w)) → (x *ℤ w) ≤ℤ ((d *ℤ w) *ℤ k)
    back h = omega (arith, ints)

less_scaled : (x d w k : ℤ) → pos 0 <ℤ w → (d *ℤ k) <ℤ x → ((d *ℤ w) *ℤ k) <ℤ (x *ℤ w)
less_scaled x d w k h l = back (subst (λ (z : ℤ). pos 0 <ℤ z) (ring (x ∷ d ∷ w ∷ k ∷ []) ((var 0 ⊖ (var 1 ⊗ var 3)) ⊗ var 2) ((var 0 ⊗ var 2) ⊖ ((var 1 ⊗ var 2) ⊗ var 3)) refl) (mul_pos (x -ℤ (d *ℤ k)) w (gap_of_less _ _ l) h))
  where
    back : pos 0 <ℤ ((x *ℤ w) -ℤ ((d *ℤ w) *ℤ k)) → ((d *ℤ w) *ℤ k) <ℤ (x *ℤ w)
    back h = omega (arith, ints)

-- ---- points
-- the point is where U - V is this number
abbrev pub IsAt : Triple → ℤ → Point → Type 0
IsAt d diagonal p = diagonal_of d p ≡ diagonal *ℤ p.w

module _ (d : Triple) (l : Line) (k m p : Point) (k_there : IsPoint k) (m_there : IsPoint m) (p_there : IsPoint p) (diagonal : ℤ) (at : IsAt d diagonal p) where
  pub across_of_goes : GoesOver d k m p → IsAcross diagonal (sight_of d k) (sight_of d m)
  across_of_goes h = record {
    from = scaled_most (diagonal_of d k) diagonal p.w k.w p_there (subst (λ (z : ℤ). (diagonal_of d k *ℤ p.w) ≤ℤ (z *ℤ k.w)) at h.from);
    to = scaled_less (diagonal_of d m) diagonal p.w m.w p_there (subst (λ (z : ℤ). (z *ℤ m.w) <ℤ (diagonal_of d m *ℤ p.w)) at h.to);
  }

  -- the way from k to m goes over the hatch line to the left of p exactly where the place at which the line crosses it is left of p
  module _ (on_k : IsOnLine d l k) (on_m : IsOnLine d l m) (n : ℤ) (q : ℤ) (q_there : pos 0 <ℤ q) (crosses : l.a +ℤ l.b ≢ pos 0) (meets : MeetsAt l diagonal n q) (h : IsAcross diagonal (sight_of d k) (sight_of d m)) where
    sides : (pos 0 <ℤ turn_of (sight_of d k) (sight_of d m) (sight_of d p)) ↔ (pos 0 <ℤ ((across_of d p *ℤ q) -ℤ (n *ℤ p.w)))
    sides =
        positive_both _ q (rise (sight_of d k) (sight_of d m)) _ q_there (rise_positive diagonal (sight_of d k) (sight_of d m) k_there m_there h)
        (turn_by_place (sight_of d k) (sight_of d m) (sight_of d p) l.a l.b l.c diagonal n q crosses on_k on_m at meets)

    pub less_of_goes : GoesOver d k m p → (n *ℤ p.w) <ℤ (across_of d p *ℤ q)
    less_of_goes g = less_of_gap (n *ℤ p.w) (across_of d p *ℤ q) (sides.0 g.left)

    pub goes_of_less : (n *ℤ p.w) <ℤ (across_of d p *ℤ q) → GoesOver d k m p
    goes_of_less less = record {
      from = subst (λ (z : ℤ). (diagonal_of d k *ℤ p.w) ≤ℤ (z *ℤ k.w)) (sym at) (most_scaled (diagonal_of d k) diagonal p.w k.w p_there h.from);
      to = subst (λ (z : ℤ). (z *ℤ m.w) <ℤ (diagonal_of d m *ℤ p.w)) (sym at) (less_scaled (diagonal_of d m) diagonal p.w m.w p_there h.to);
      left = sides.1 (gap_of_less (n *ℤ p.w) (across_of d p *ℤ q) less);
    }
