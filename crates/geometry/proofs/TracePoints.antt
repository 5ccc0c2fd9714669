-- Points of traces: which are on one line of sight, what is between two of them, and what is ordinary beside them.
use Rattle.std.proofs.Common.{◌≡◌, ◌≢◌, ◌⊎◌, inl, inr, ◌<◌, zero, suc, List, [], ◌∷◌, Contains, refl, sym, subst, ◌∙◌, arith, unsigned_abs}
use Rattle.std.specs.Prelude.{ℤ, pos, negsuc, ◌+ℤ◌, ◌-ℤ◌, ◌*ℤ◌, ◌≤ℤ◌}
use Rattle.std.proofs.lemmas.Int.{ints, by_lt_z}
use Rattle.integers.proofs.Comparisons.{at_most_by, at_most_of_less, gap_of_at_most, sum_not_negative}
use Rattle.integers.proofs.Ring.{var, con, ◌⊕◌, ◌⊖◌, ◌⊗◌, ring, by_one}
use Rattle.integers.proofs.Signs.{mul_nonneg, square_pos}
use Rattle.lattice.specs.declared.points.Axis.{Axis}
use Rattle.lattice.specs.declared.points.Axis.TheVariants.{X, Y, Z}
use Rattle.lattice.specs.declared.points.Corner.{Corner}
use Rattle.lattice.specs.Cuts.{Plane, unit_of}
use Rattle.lattice.specs.Points.{Point, IsPoint, point_of, scaled, OnOneSight}
use Rattle.lattice.specs.Triple.{Triple, dot, det, IsZero}
use Rattle.lattice.proofs.SightAxes.{agree_of_sight}
use Rattle.lattice.proofs.SightLines.{sight_of_along}
use Rattle.lattice.proofs.Vectors.{letters, dots, crosses}
use Rattle.geometry.specs.Parts.{Part}
use Rattle.lattice.specs.Axes.{component_of, coordinate_of, third_of, IsAlong}
use Rattle.geometry.specs.Traces.{IsAmongCorners, TraceRuns, EdgeRuns, IsOrdinaryBeside}
use Rattle.geometry.proofs.Sights.{sight_on, ordinary_along}

-- ---- axes
pub same_or_other : (x y : Axis) → (x ≡ y) ⊎ (x ≢ y)
same_or_other X X = inl refl
same_or_other X Y = inr (λ e. cc)
same_or_other X Z = inr (λ e. cc)
same_or_other Y X = inr (λ e. cc)
same_or_other Y Y = inl refl
same_or_other Y Z = inr (λ e. cc)
same_or_other Z X = inr (λ e. cc)
same_or_other Z Y = inr (λ e. cc)
same_or_other Z Z = inl refl

-- beside one axis there are two others
pub one_of_others : (x y z : Axis) → y ≢ x → z ≢ y → (z ≡ x) ⊎ (z ≡ third_of x y)
one_of_others X X z n m = absurd (n refl)
one_of_others X Y X n m = inl refl
one_of_others X Y Y n m = absurd (m refl)
one_of_others X Y Z n m = inr refl
one_of_others X Z X n m = inl refl
one_of_others X Z Y n m = inr refl
one_of_others X Z Z n m = absurd (m refl)
one_of_others Y X X n m = absurd (m refl)
one_of_others Y X Y n m = inl refl
one_of_others Y X Z n m = inr refl
one_of_others Y Y z n m = absurd (n refl)
one_of_others Y Z X n m = inr refl
one_of_others Y Z Y n m = inl refl
one_of_others Y Z Z n m = absurd (m refl)
one_of_others Z X X n m = absurd (m refl)
one_of_others Z X Y n m = inr refl
one_of_others Z X Z n m = inl refl
one_of_others Z Y X n m = inr refl
one_of_others Z Y Y n m = absurd (m refl)
one_of_others Z Y Z n m = inl refl
one_of_others Z Z z n m = absurd (n refl)

pub third_other : (x y : Axis) → y ≢ x → third_of x y ≢ y
third_other X X n = absurd (n refl)
third_other X Y n = λ e. cc
third_other X Z n = λ e. cc
third_other Y X n = λ e. cc
third_other Y Y n = absurd (n refl)
third_other Y Z n = λ e. cc
third_other Z X n = λ e. cc
third_other Z Y n = λ e. cc
third_other Z Z n = absurd (n refl)

pub third_aside : (x y : Axis) → y ≢ x → third_of x y ≢ x
third_aside X X n = absurd (n refl)
third_aside X Y n = λ e. cc
third_aside X Z n = λ e. cc
third_aside Y X n = λ e. cc
third_aside Y Y n = absurd (n refl)
third_aside Y Z n = λ e. cc
third_aside Z X n = λ e. cc
third_aside Z Y n = λ e. cc
third_aside Z Z n = absurd (n refl)

-- a direction is along one axis at most
pub one_sight : (d : Triple) (x y : Axis) → IsAlong x d → IsAlong y d → x ≡ y
one_sight d x y along too = by (same_or_other x y)
  where
    by : (x ≡ y) ⊎ (x ≢ y) → x ≡ y
    by (inl e) = e
    by (inr n) = absurd (along.there (too.alone x n))

-- ---- the unit of an axis
pub unit_here : (x : Axis) → component_of x (unit_of x) ≡ pos 1
unit_here X = refl
unit_here Y = refl
unit_here Z = refl

pub unit_elsewhere : (x y : Axis) → x ≢ y → component_of x (unit_of y) ≡ pos 0
unit_elsewhere X X n = absurd (n refl)
unit_elsewhere X Y n = refl
unit_elsewhere X Z n = refl
unit_elsewhere Y X n = refl
unit_elsewhere Y Y n = absurd (n refl)
unit_elsewhere Y Z n = refl
unit_elsewhere Z X n = refl
unit_elsewhere Z Y n = refl
unit_elsewhere Z Z n = absurd (n refl)

unit_product : (x : Axis) (t : Triple) → dot (unit_of x) t ≡ component_of x t
unit_product X t = omega (arith, ints)
unit_product Y t = omega (arith, ints)
unit_product Z t = omega (arith, ints)

scaled_component : (x : Axis) (p : Point) → component_of x (scaled p) ≡ coordinate_of x p
scaled_component X p = refl
scaled_component Y p = refl
scaled_component Z p = refl

-- ---- along an axis points are on one line of sight where their other coordinates agree
not_nothing : (a : ℤ) → a ≢ pos 0 → 0 < unsigned_abs a
not_nothing (pos zero) n = absurd (n refl)
not_nothing (pos (suc k)) n = omega arith
not_nothing (negsuc k) n = omega arith

module _ (d : Triple) (sight : Axis) (along : IsAlong sight d) (p q : Point) where
  abbrev gap_at : Axis → ℤ
  gap_at x = (coordinate_of x p *ℤ q.w) -ℤ (coordinate_of x q *ℤ p.w)

  pub sight_of_coordinates : ((x : Axis) → x ≢ sight → coordinate_of x p *ℤ q.w ≡ coordinate_of x q *ℤ p.w) → OnOneSight d p q
  sight_of_coordinates agree = sight_of_along d p q (record {
    n = way *ℤ gap_at sight;
    m = way *ℤ way;
    positive = square_pos way (not_nothing way along.there);
    x = part X;
    y = part Y;
    z = part Z;
  })
    where
      way : ℤ
      way = component_of sight d

      turned : (k g : ℤ) → (k *ℤ k) *ℤ g ≡ (k *ℤ g) *ℤ k
      turned k g = ring (k ∷ g ∷ []) ((var 0 ⊗ var 0) ⊗ var 1) ((var 0 ⊗ var 1) ⊗ var 0) refl

      none : (k g a b c : ℤ) → a ≡ b → c ≡ pos 0 → (k *ℤ k) *ℤ (a -ℤ b) ≡ (k *ℤ g) *ℤ c
      none k g a b c same nothing = (λ t. (k *ℤ k) *ℤ (same t -ℤ b)) ∙ both k g b ∙ (λ t. (k *ℤ g) *ℤ sym nothing t)
        where
          both : (k g b : ℤ) → (k *ℤ k) *ℤ (b -ℤ b) ≡ (k *ℤ g) *ℤ pos 0
          both k g b = ring (k ∷ g ∷ b ∷ []) ((var 0 ⊗ var 0) ⊗ (var 2 ⊖ var 2)) ((var 0 ⊗ var 1) ⊗ con (pos 0)) refl

      part : (x : Axis) → (way *ℤ way) *ℤ gap_at x ≡ (way *ℤ gap_at sight) *ℤ component_of x d
      part x = by (same_or_other x sight)
        where
          by : (x ≡ sight) ⊎ (x ≢ sight) → (way *ℤ way) *ℤ gap_at x ≡ (way *ℤ gap_at sight) *ℤ component_of x d
          by (inl e) = subst (λ (y : Axis). (way *ℤ way) *ℤ gap_at y ≡ (way *ℤ gap_at sight) *ℤ component_of y d) (sym e) (turned way (gap_at sight))
          by (inr n) = none way (gap_at sight) (coordinate_of x p *ℤ q.w) (coordinate_of x q *ℤ p.w) (component_of x d) (agree x n) (along.alone x n)

  somewhere : ¬ IsZero d
  somewhere nothing = along.there (nothing_at sight)
    where
      nothing_at : (x : Axis) → component_of x d ≡ pos 0
      nothing_at X = nothing.x
      nothing_at Y = nothing.y
      nothing_at Z = nothing.z

  pub coordinates_of_sight : OnOneSight d p q → (x : Axis) → x ≢ sight → coordinate_of x p *ℤ q.w ≡ coordinate_of x q *ℤ p.w
  coordinates_of_sight same x n =
      let is = λ (r : Point). unit_product x (scaled r) ∙ scaled_component x r in
      (λ t. sym (is p) t *ℤ q.w) ∙ agree_of_sight d (unit_of x) p q somewhere (unit_product x d ∙ along.alone x n) same ∙ (λ t. is q t *ℤ p.w)

-- the order of two ways doesn't matter to whether they are parallel as they are seen
pub det_turned : (d s t : Triple) → det d s t ≡ pos 0 → det d t s ≡ pos 0
det_turned d s t none =
    by_one _ _ (det d s t) (pos 0) (pos 0 -ℤ pos 1)
    (ring (d.x ∷ d.y ∷ d.z ∷ s.x ∷ s.y ∷ s.z ∷ t.x ∷ t.y ∷ t.z ∷ [])
    (dots (letters 0) (crosses (letters 6) (letters 3)) ⊖ con (pos 0))
    ((dots (letters 0) (crosses (letters 3) (letters 6)) ⊖ con (pos 0)) ⊗ (con (pos 0) ⊖ con (pos 1))) refl) none

-- ---- between two points
-- what is at least so far as the nearer of two corners
sum_least : (k l p q v w i j : ℤ) → k ≤ℤ l → (k *ℤ v) ≤ℤ p → (l *ℤ w) ≤ℤ q → pos 0 ≤ℤ i → pos 0 ≤ℤ j → pos 0 ≤ℤ w → (k *ℤ ((i *ℤ v) +ℤ (j *ℤ w))) ≤ℤ ((i *ℤ p) +ℤ (j *ℤ q))
sum_least k l p q v w i j h at_p at_q some_i some_j some_w =
    at_most_by _ _ (((i *ℤ (p -ℤ (k *ℤ v))) +ℤ (j *ℤ (q -ℤ (l *ℤ w)))) +ℤ ((j *ℤ w) *ℤ (l -ℤ k)))
    (ring (k ∷ l ∷ p ∷ q ∷ v ∷ w ∷ i ∷ j ∷ [])
    (((var 6 ⊗ var 2) ⊕ (var 7 ⊗ var 3)) ⊖ (var 0 ⊗ ((var 6 ⊗ var 4) ⊕ (var 7 ⊗ var 5))))
    (((var 6 ⊗ (var 2 ⊖ (var 0 ⊗ var 4))) ⊕ (var 7 ⊗ (var 3 ⊖ (var 1 ⊗ var 5)))) ⊕ ((var 7 ⊗ var 5) ⊗ (var 1 ⊖ var 0))) refl)
    (sum_not_negative _ _ (sum_not_negative _ _ (mul_nonneg i _ some_i (gap_of_at_most _ _ at_p)) (mul_nonneg j _ some_j (gap_of_at_most _ _ at_q)))
    (mul_nonneg _ _ (mul_nonneg j w some_j some_w) (gap_of_at_most _ _ h)))

sum_most : (k l p q v w i j : ℤ) → l ≤ℤ k → p ≤ℤ (k *ℤ v) → q ≤ℤ (l *ℤ w) → pos 0 ≤ℤ i → pos 0 ≤ℤ j → pos 0 ≤ℤ w → ((i *ℤ p) +ℤ (j *ℤ q)) ≤ℤ (k *ℤ ((i *ℤ v) +ℤ (j *ℤ w)))
sum_most k l p q v w i j h at_p at_q some_i some_j some_w =
    at_most_by _ _ (((i *ℤ ((k *ℤ v) -ℤ p)) +ℤ (j *ℤ ((l *ℤ w) -ℤ q))) +ℤ ((j *ℤ w) *ℤ (k -ℤ l)))
    (ring (k ∷ l ∷ p ∷ q ∷ v ∷ w ∷ i ∷ j ∷ [])
    ((var 0 ⊗ ((var 6 ⊗ var 4) ⊕ (var 7 ⊗ var 5))) ⊖ ((var 6 ⊗ var 2) ⊕ (var 7 ⊗ var 3)))
    (((var 6 ⊗ ((var 0 ⊗ var 4) ⊖ var 2)) ⊕ (var 7 ⊗ ((var 1 ⊗ var 5) ⊖ var 3))) ⊕ ((var 7 ⊗ var 5) ⊗ (var 0 ⊖ var 1))) refl)
    (sum_not_negative _ _ (sum_not_negative _ _ (mul_nonneg i _ some_i (gap_of_at_most _ _ at_p)) (mul_nonneg j _ some_j (gap_of_at_most _ _ at_q)))
    (mul_nonneg _ _ (mul_nonneg j w some_j some_w) (gap_of_at_most _ _ h)))

swapped : (i j a b : ℤ) → (i *ℤ a) +ℤ (j *ℤ b) ≡ (j *ℤ b) +ℤ (i *ℤ a)
swapped i j a b = ring (i ∷ j ∷ a ∷ b ∷ []) ((var 0 ⊗ var 2) ⊕ (var 1 ⊗ var 3)) ((var 1 ⊗ var 3) ⊕ (var 0 ⊗ var 2)) refl

-- the sum of two points that are among the corners on an axis is so too
pub among_sum : (s : Part) (x : Axis) (p q r : Point) (i j : ℤ) → IsAmongCorners s x p → IsAmongCorners s x q → pos 0 ≤ℤ p.w → pos 0 ≤ℤ q.w → pos 0 ≤ℤ i → pos 0 ≤ℤ j
    → coordinate_of x r ≡ (i *ℤ coordinate_of x p) +ℤ (j *ℤ coordinate_of x q) → r.w ≡ (i *ℤ p.w) +ℤ (j *ℤ q.w) → IsAmongCorners s x r
among_sum s x p q r i j on_p on_q some_v some_w some_i some_j at whole = record { least = least; most = most }
  where
    Least : Corner → Type 0
    Least k = (coordinate_of x (point_of k) *ℤ r.w) ≤ℤ coordinate_of x r

    Most : Corner → Type 0
    Most k = coordinate_of x r ≤ℤ (coordinate_of x (point_of k) *ℤ r.w)

    least : (k : Corner) × Contains s.corners k × Least k
    least =
        let (k, here, at_p) = on_p.least in
        let (l, there, at_q) = on_q.least in
        let m = coordinate_of x (point_of k) in
        let n = coordinate_of x (point_of l) in
        by_lt_z n m
        (λ h. (
          l,
          there,
          subst (λ (v : ℤ). (n *ℤ v) ≤ℤ coordinate_of x r) (sym (whole ∙ swapped i j p.w q.w)) (subst (λ (v : ℤ). (n *ℤ ((j *ℤ q.w) +ℤ (i *ℤ p.w))) ≤ℤ v) (sym (at ∙ swapped i j (coordinate_of x p) (coordinate_of x q)))
              (sum_least n m (coordinate_of x q) (coordinate_of x p) q.w p.w j i (at_most_of_less n m h) at_q at_p some_j some_i some_v)),
        ))
        (λ h. (
          k,
          here,
          subst (λ (v : ℤ). (m *ℤ v) ≤ℤ coordinate_of x r) (sym whole) (subst (λ (v : ℤ). (m *ℤ ((i *ℤ p.w) +ℤ (j *ℤ q.w))) ≤ℤ v) (sym at)
              (sum_least m n (coordinate_of x p) (coordinate_of x q) p.w q.w i j h at_p at_q some_i some_j some_w)),
        ))

    most : (k : Corner) × Contains s.corners k × Most k
    most =
        let (k, here, at_p) = on_p.most in
        let (l, there, at_q) = on_q.most in
        let m = coordinate_of x (point_of k) in
        let n = coordinate_of x (point_of l) in
        by_lt_z m n
        (λ h. (
          l,
          there,
          subst (λ (v : ℤ). coordinate_of x r ≤ℤ (n *ℤ v)) (sym (whole ∙ swapped i j p.w q.w)) (subst (λ (v : ℤ). v ≤ℤ (n *ℤ ((j *ℤ q.w) +ℤ (i *ℤ p.w)))) (sym (at ∙ swapped i j (coordinate_of x p) (coordinate_of x q)))
              (sum_most n m (coordinate_of x q) (coordinate_of x p) q.w p.w j i (at_most_of_less m n h) at_q at_p some_j some_i some_v)),
        ))
        (λ h. (
          k,
          here,
          subst (λ (v : ℤ). coordinate_of x r ≤ℤ (m *ℤ v)) (sym whole) (subst (λ (v : ℤ). v ≤ℤ (m *ℤ ((i *ℤ p.w) +ℤ (j *ℤ q.w)))) (sym at)
              (sum_most m n (coordinate_of x p) (coordinate_of x q) p.w q.w i j h at_p at_q some_i some_j some_w)),
        ))

-- ---- what is ordinary beside traces stays so along a line of sight
pub ordinary_beside_along : (d : Triple) (s : Part) (cuts : List Plane) (p q : Point) → IsPoint q → OnOneSight d q p → IsOrdinaryBeside d s cuts p → IsOrdinaryBeside d s cuts q
ordinary_beside_along d s cuts p q positive h ordinary = record {
  ordinary = ordinary_along d s p q positive h ordinary.ordinary;
  off_ends = λ r is k. ordinary.off_ends r is (sight_on d r q p positive k h);
  off_traces = λ way other runs runs_too. ordinary.off_traces way other (trace way runs) (either other runs_too);
}
  where
    trace : (way : Triple) → TraceRuns d s cuts q way → TraceRuns d s cuts p way
    trace way (c, listed, (sight, (r, on, k), is)) = (c, listed, (sight, (r, on, sight_on d r q p positive k h), is))

    edge : (way : Triple) → EdgeRuns d s q way → EdgeRuns d s p way
    edge way (e, (r, on, k), is) = (e, (r, on, sight_on d r q p positive k h), is)

    either : (way : Triple) → EdgeRuns d s q way ⊎ TraceRuns d s cuts q way → EdgeRuns d s p way ⊎ TraceRuns d s cuts p way
    either way (inl e) = inl (edge way e)
    either way (inr t) = inr (trace way t)
