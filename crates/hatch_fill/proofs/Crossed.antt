-- The point of a segment that is on a hatch line.
use Rattle.std.proofs.Common.{◌≡◌, ◌≢◌, ℕ, ◌+◌, ◌<◌, [], ◌∷◌, refl, sym, subst, ◌∙◌, unsigned_abs, arith}
use Rattle.std.specs.Prelude.{ℤ, pos, ◌+ℤ◌, ◌-ℤ◌, ◌*ℤ◌, ◌<ℤ◌, ◌≤ℤ◌}
use Rattle.std.proofs.lemmas.Int.{ints}
use Rattle.integers.proofs.Absolutes.{abs_of_positive, abs_of_not_negative}
use Rattle.integers.proofs.Comparisons.{gap_of_at_most}
use Rattle.integers.proofs.Orders.{same_through}
use Rattle.integers.proofs.Ring.{var, con, ◌⊕◌, ◌⊖◌, ◌⊗◌, ring, by_two, by_three, gap_of_less}
use Rattle.integers.proofs.Signs.{zero_of_mul}
use Rattle.integers.proofs.Weighted.{sum_pos}
use Rattle.lattice.specs.declared.lines.Line.{Line}
use Rattle.lattice.specs.declared.points.Spot.{Spot}
use Rattle.lattice.specs.Triple.{Triple, right_axis, up_axis}
use Rattle.lattice.specs.Points.{Point, IsPoint, of_spot, across_of, upward_of, OnOneSight}
use Rattle.lattice.specs.Lines.{IsOnLine}
use Rattle.lattice.specs.Cuts.{Plane, toward_of}
use Rattle.lattice.proofs.OnLines.{weighted_sum, product_of_sum, on_line_of_sum}
use Rattle.cut_plane.proofs.Sights.{Sight, sight_of}
use Rattle.cut_plane.specs.Diagonals.{diagonal_of}
use Rattle.cut_plane.proofs.Roots.{some_number}
use Rattle.hatch_fill.specs.inner.Places.{IsNear}
use Rattle.hatch_fill.specs.inner.Meetings.{MeetsAt, HasMeeting}
use Rattle.hatch_fill.proofs.Meets.{same_quotient}
use Rattle.hatch_fill.proofs.Turns.{IsAcross, IsAt, rise, rise_positive}
use Rattle.hatch_fill.proofs.Seen.{across_near, upward_near, near_sum}

-- ---- a line that crosses a hatch line does not run along it
crosses_of : (k l : Sight) (a b c : ℤ) → (a *ℤ k.u) +ℤ (b *ℤ k.v) ≡ c *ℤ k.w → (a *ℤ l.u) +ℤ (b *ℤ l.v) ≡ c *ℤ l.w → a +ℤ b ≡ pos 0 → rise k l *ℤ a ≡ pos 0
crosses_of k l a b c on_k on_l e =
    by_three _ _ ((a *ℤ l.u) +ℤ (b *ℤ l.v)) (c *ℤ l.w) k.w ((a *ℤ k.u) +ℤ (b *ℤ k.v)) (c *ℤ k.w) (pos 0 -ℤ l.w) (a +ℤ b) (pos 0) ((k.v *ℤ l.w) -ℤ (l.v *ℤ k.w))
    (ring (k.u ∷ k.v ∷ k.w ∷ l.u ∷ l.v ∷ l.w ∷ a ∷ b ∷ c ∷ [])
    (((((var 3 ⊖ var 4) ⊗ var 2) ⊖ ((var 0 ⊖ var 1) ⊗ var 5)) ⊗ var 6) ⊖ con (pos 0))
    (((((var 6 ⊗ var 3) ⊕ (var 7 ⊗ var 4)) ⊖ (var 8 ⊗ var 5)) ⊗ var 2) ⊕ ((((var 6 ⊗ var 0) ⊕ (var 7 ⊗ var 1)) ⊖ (var 8 ⊗ var 2)) ⊗ (con (pos 0) ⊖ var 5))
    ⊕ (((var 6 ⊕ var 7) ⊖ con (pos 0)) ⊗ ((var 1 ⊗ var 5) ⊖ (var 4 ⊗ var 2)))) refl) on_l on_k e

-- what is on the line and on the hatch line
pub meets_of : (u v w a b c d : ℤ) → (a *ℤ u) +ℤ (b *ℤ v) ≡ c *ℤ w → u -ℤ v ≡ d *ℤ w → (a +ℤ b) *ℤ u ≡ (c +ℤ (b *ℤ d)) *ℤ w
meets_of u v w a b c d on at =
    by_two _ _ ((a *ℤ u) +ℤ (b *ℤ v)) (c *ℤ w) (pos 1) (u -ℤ v) (d *ℤ w) b
    (ring (u ∷ v ∷ w ∷ a ∷ b ∷ c ∷ d ∷ [])
    (((var 3 ⊕ var 4) ⊗ var 0) ⊖ ((var 5 ⊕ (var 4 ⊗ var 6)) ⊗ var 2))
    (((((var 3 ⊗ var 0) ⊕ (var 4 ⊗ var 1)) ⊖ (var 5 ⊗ var 2)) ⊗ con (pos 1)) ⊕ (((var 0 ⊖ var 1) ⊖ (var 6 ⊗ var 2)) ⊗ var 4)) refl) on at

-- V of a point of the hatch line
pub upward_at : (u v w d : ℤ) → u -ℤ v ≡ d *ℤ w → v ≡ u -ℤ (d *ℤ w)
upward_at u v w d e = by (d *ℤ w) e
  where
    by : (x : ℤ) → u -ℤ v ≡ x → v ≡ u -ℤ x
    by x e = omega (arith, ints)

-- points of one hatch line with one U are on one line of sight
pub same_sight : (d : Triple) (p q : Point) (diagonal : ℤ) → IsAt d diagonal p → IsAt d diagonal q → across_of d p *ℤ q.w ≡ across_of d q *ℤ p.w → OnOneSight d p q
same_sight d p q diagonal at_p at_q e = record { across = e; upward = by (across_of d p) (upward_of d p) p.w (across_of d q) (upward_of d q) q.w at_p at_q e }
  where
    by : (u v w u' v' w' : ℤ) → u -ℤ v ≡ diagonal *ℤ w → u' -ℤ v' ≡ diagonal *ℤ w' → u *ℤ w' ≡ u' *ℤ w → v *ℤ w' ≡ v' *ℤ w
    by u v w u' v' w' f g e =
        by_three _ _ (u *ℤ w') (u' *ℤ w) (pos 1) (u -ℤ v) (diagonal *ℤ w) (pos 0 -ℤ w') (u' -ℤ v') (diagonal *ℤ w') w
        (ring (u ∷ v ∷ w ∷ u' ∷ v' ∷ w' ∷ diagonal ∷ [])
        ((var 1 ⊗ var 5) ⊖ (var 4 ⊗ var 2))
        (((((var 0 ⊗ var 5) ⊖ (var 3 ⊗ var 2)) ⊗ con (pos 1)) ⊕ (((var 0 ⊖ var 1) ⊖ (var 6 ⊗ var 2)) ⊗ (con (pos 0) ⊖ var 5))) ⊕ (((var 3 ⊖ var 4) ⊖ (var 6 ⊗ var 5)) ⊗ var 2)) refl) e f g

-- ---- the point
module _ (d : Triple) (k m : Point) (k_there : IsPoint k) (m_there : IsPoint m) (diagonal : ℤ) (h : IsAcross diagonal (sight_of d k) (sight_of d m)) where
  abbrev x : ℤ
  x = diagonal_of d m -ℤ (diagonal *ℤ m.w)

  abbrev y : ℤ
  y = (diagonal *ℤ k.w) -ℤ diagonal_of d k

  x_positive : pos 0 <ℤ x
  x_positive = gap_of_less _ _ h.to

  y_least : pos 0 ≤ℤ y
  y_least = gap_of_at_most _ _ h.from

  abbrev pub weight : ℕ
  weight = unsigned_abs x

  abbrev pub weight' : ℕ
  weight' = unsigned_abs y

  x_is : pos weight ≡ x
  x_is = abs_of_positive x x_positive

  y_is : pos weight' ≡ y
  y_is = abs_of_not_negative y y_least

  pub some_weight : 0 < weight + weight'
  some_weight = by x weight' x_positive
    where
      by : (z : ℤ) (n : ℕ) → pos 0 <ℤ z → 0 < unsigned_abs z + n
      by z n h = omega (arith, ints)

  abbrev pub mid : Point
  mid = weighted_sum (pos weight) k (pos weight') m

  pub mid_there : IsPoint mid
  mid_there = sum_pos k.w m.w weight weight' k_there m_there some_weight

  across_mid : across_of d mid ≡ (pos weight *ℤ across_of d k) +ℤ (pos weight' *ℤ across_of d m)
  across_mid = product_of_sum (right_axis d) (pos weight) (pos weight') k m

  upward_mid : upward_of d mid ≡ (pos weight *ℤ upward_of d k) +ℤ (pos weight' *ℤ upward_of d m)
  upward_mid = product_of_sum (up_axis d) (pos weight) (pos weight') k m

  pub mid_at : IsAt d diagonal mid
  mid_at = (λ i. across_mid i -ℤ upward_mid i) ∙ by (across_of d k) (upward_of d k) k.w (across_of d m) (upward_of d m) m.w (pos weight) (pos weight') x_is y_is
    where
      by : (u v w u' v' w' i j : ℤ) → i ≡ (u' -ℤ v') -ℤ (diagonal *ℤ w') → j ≡ (diagonal *ℤ w) -ℤ (u -ℤ v) → ((i *ℤ u) +ℤ (j *ℤ u')) -ℤ ((i *ℤ v) +ℤ (j *ℤ v')) ≡ diagonal *ℤ ((i *ℤ w) +ℤ (j *ℤ w'))
      by u v w u' v' w' i j e f =
          by_two _ _ i ((u' -ℤ v') -ℤ (diagonal *ℤ w')) ((u -ℤ v) -ℤ (diagonal *ℤ w)) j ((diagonal *ℤ w) -ℤ (u -ℤ v)) ((u' -ℤ v') -ℤ (diagonal *ℤ w'))
          (ring (u ∷ v ∷ w ∷ u' ∷ v' ∷ w' ∷ i ∷ j ∷ diagonal ∷ [])
          ((((var 6 ⊗ var 0) ⊕ (var 7 ⊗ var 3)) ⊖ ((var 6 ⊗ var 1) ⊕ (var 7 ⊗ var 4))) ⊖ (var 8 ⊗ ((var 6 ⊗ var 2) ⊕ (var 7 ⊗ var 5))))
          (((var 6 ⊖ ((var 3 ⊖ var 4) ⊖ (var 8 ⊗ var 5))) ⊗ ((var 0 ⊖ var 1) ⊖ (var 8 ⊗ var 2))) ⊕ ((var 7 ⊖ ((var 8 ⊗ var 2) ⊖ (var 0 ⊖ var 1))) ⊗ ((var 3 ⊖ var 4) ⊖ (var 8 ⊗ var 5)))) refl) e f

  module _ (l : Line) (on_k : IsOnLine d l k) (on_m : IsOnLine d l m) where
    pub line_crosses : l.a +ℤ l.b ≢ pos 0
    line_crosses e = some_number l.a l.b l.leads first (second l.a l.b first e)
      where
        first : l.a ≡ pos 0
        first = zero_of_mul (rise (sight_of d k) (sight_of d m)) l.a (rise_positive diagonal (sight_of d k) (sight_of d m) k_there m_there h) (crosses_of (sight_of d k) (sight_of d m) l.a l.b l.c on_k on_m e)

        second : (a b : ℤ) → a ≡ pos 0 → a +ℤ b ≡ pos 0 → b ≡ pos 0
        second a b f g = omega (arith, ints)

    pub mid_meets : MeetsAt l diagonal (across_of d mid) mid.w
    mid_meets = meets_of (across_of d mid) (upward_of d mid) mid.w l.a l.b l.c diagonal (on_line_of_sum d l (pos weight) (pos weight') k m on_k on_m) mid_at

    -- a point of the hatch line where the line meets it is seen with the point of the segment
    pub mid_seen : (n q : ℤ) → pos 0 <ℤ q → MeetsAt l diagonal n q → (p : Point) → IsAt d diagonal p → n *ℤ p.w ≡ across_of d p *ℤ q → OnOneSight d mid p
    mid_seen n q positive meets p at e =
        same_sight d mid p diagonal mid_at at (same_through (across_of d mid) n (across_of d p) mid.w q p.w positive (same_quotient (l.a +ℤ l.b) (l.c +ℤ (l.b *ℤ diagonal)) (across_of d mid) mid.w n q line_crosses mid_meets meets) e)

-- so the hatch line has a place there
pub has_meeting : (c : Plane) (l : Line) (k m : Spot) (diagonal : ℤ) → IsAcross diagonal (sight_of (toward_of c) (of_spot k)) (sight_of (toward_of c) (of_spot m)) → IsOnLine (toward_of c) l (of_spot k) → IsOnLine (toward_of c) l (of_spot m) → HasMeeting l diagonal
has_meeting c l k m diagonal h on_k on_m =
    let d = toward_of c in
    let p = of_spot k in
    let q = of_spot m in
    let i = weight d p q k.positive m.positive diagonal h in
    let j = weight' d p q k.positive m.positive diagonal h in
    let r = mid d p q k.positive m.positive diagonal h in
    record {
      n = across_of d r;
      m = r.w;
      positive = mid_there d p q k.positive m.positive diagonal h;
      crosses = line_crosses d p q k.positive m.positive diagonal h l on_k on_m;
      on = mid_meets d p q k.positive m.positive diagonal h l on_k on_m;
      across = subst (λ (z : ℤ). IsNear z r.w) (sym (product_of_sum (right_axis d) (pos i) (pos j) p q)) (near_sum i j (across_of d p) (across_of d q) k.w m.w k.positive m.positive (across_near c k) (across_near c m));
      upward =
          subst (λ (z : ℤ). IsNear z r.w) (sym (product_of_sum (up_axis d) (pos i) (pos j) p q) ∙ upward_at (across_of d r) (upward_of d r) r.w diagonal (mid_at d p q k.positive m.positive diagonal h))
          (near_sum i j (upward_of d p) (upward_of d q) k.w m.w k.positive m.positive (upward_near c k) (upward_near c m));
    }
