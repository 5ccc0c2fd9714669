-- Lines along steps: two of them with a common point, whose steps have parallel projections, are one.
use Rattle.std.proofs.Common.{◌≡◌, [], ◌∷◌, refl, sym, ◌∙◌, arith}
use Rattle.std.specs.Prelude.{ℤ, pos, ◌-ℤ◌, ◌*ℤ◌}
use Rattle.std.proofs.lemmas.Int.{ints}
use Rattle.integers.proofs.Ring.{var, con, ◌⊕◌, ◌⊖◌, ◌⊗◌, ring, by_one, by_two}
use Rattle.lattice.specs.declared.lines.Line.{Line}
use Rattle.lattice.specs.declared.points.Corner.{Corner}
use Rattle.lattice.specs.Lines.{IsOnLine, IsSameLine}
use Rattle.lattice.specs.Triple.{Triple, dot, cross, det, right_axis, up_axis}
use Rattle.lattice.specs.Points.{Point, IsPoint, OnOneSight, point_of, scaled, difference}
use Rattle.lattice.proofs.SameLines.{across_between, upward_between, same_of_parallel}
use Rattle.lattice.proofs.SightLines.{right_axis-is}
use Rattle.lattice.proofs.Vectors.{Letters, letters, dots, crosses}
use Rattle.geometry.specs.Parts.{Part, Edge}
use Rattle.geometry.specs.Views.{IsEndOn}

-- two points of the line that are not seen at one place: from one to the other it goes, as it is seen, some times the step
pub record RunsAlong (d : Triple) (l : Line) (step : Triple) : Type 0 where
  pub from : Point
  pub to : Point
  pub from_there : IsPoint from
  pub to_there : IsPoint to
  pub apart : ¬ OnOneSight d from to
  pub first : IsOnLine d l from
  pub second : IsOnLine d l to
  pub times : ℤ
  pub across : across_between d from to ≡ times *ℤ dot (right_axis d) step
  pub upward : upward_between d from to ≡ times *ℤ dot (up_axis d) step

-- the step from one corner to another, along an axis
step_product : (r : Triple) (a b : Corner) → (dot r (scaled (point_of b)) *ℤ pos 1) -ℤ (dot r (scaled (point_of a)) *ℤ pos 1) ≡ pos 1 *ℤ dot r (difference a b)
step_product r a b =
    ring (r.x ∷ r.y ∷ r.z ∷ a.x ∷ a.y ∷ a.z ∷ b.x ∷ b.y ∷ b.z ∷ [])
    ((dots (letters 0) (letters 6) ⊗ con (pos 1)) ⊖ (dots (letters 0) (letters 3) ⊗ con (pos 1)))
    (con (pos 1) ⊗ dots (letters 0) (record { x = var 6 ⊖ var 3; y = var 7 ⊖ var 4; z = var 8 ⊖ var 5 })) refl

-- the line of an edge runs along it
pub edge_runs : (d : Triple) {s : Part} (e : Edge s) (l : Line) → ¬ IsEndOn d e → IsOnLine d l (point_of e.a) → IsOnLine d l (point_of e.b) → RunsAlong d l (difference e.a e.b)
edge_runs d e l seen first second = record {
  from = point_of e.a;
  to = point_of e.b;
  from_there = omega (arith, ints);
  to_there = omega (arith, ints);
  apart = seen;
  first = first;
  second = second;
  times = pos 1;
  across = step_product (right_axis d) e.a e.b;
  upward = step_product (up_axis d) e.a e.b;
}

abbrev D : Letters
D = letters 0

abbrev R : Letters
R = letters 3

abbrev S : Letters
S = letters 6

abbrev T : Letters
T = letters 9

-- the area that two vectors span, as it is seen, is r . r times the determinant with d
seen_area : (d r s t : Triple) → dot r d ≡ pos 0 → det d s t ≡ pos 0 → dot r s *ℤ dot (cross d r) t ≡ dot (cross d r) s *ℤ dot r t
seen_area d r s t level none =
    by_two _ _ (det d s t) (pos 0) (dot r r) (dot r d) (pos 0) (pos 0 -ℤ dot r (cross s t))
    (ring (d.x ∷ d.y ∷ d.z ∷ r.x ∷ r.y ∷ r.z ∷ s.x ∷ s.y ∷ s.z ∷ t.x ∷ t.y ∷ t.z ∷ [])
    ((dots R S ⊗ dots (crosses D R) T) ⊖ (dots (crosses D R) S ⊗ dots R T))
    (((dots D (crosses S T) ⊖ con (pos 0)) ⊗ dots R R) ⊕ ((dots R D ⊖ con (pos 0)) ⊗ (con (pos 0) ⊖ dots R (crosses S T)))) refl) none level

-- two lines along parallel steps with a common point are one
pub one_line : (d : Triple) (l m : Line) (s t : Triple) (x : Point) → RunsAlong d l s → RunsAlong d m t → det d s t ≡ pos 0 → IsPoint x → IsOnLine d l x → IsOnLine d m x → IsSameLine l m
one_line d l m s t x runs runs_too none positive on on_too =
    same_of_parallel d l m runs.from runs.to runs_too.from runs_too.to x runs.from_there runs.to_there runs_too.from_there runs_too.to_there positive
    runs.apart runs_too.apart runs.first runs.second runs_too.first runs_too.second parallel on on_too
  where
    multiples : (n k a b c e : ℤ) → a *ℤ e ≡ b *ℤ c → (n *ℤ a) *ℤ (k *ℤ e) ≡ (n *ℤ b) *ℤ (k *ℤ c)
    multiples n k a b c e h = by_one _ _ (a *ℤ e) (b *ℤ c) (n *ℤ k)
        (ring (n ∷ k ∷ a ∷ b ∷ c ∷ e ∷ [])
        (((var 0 ⊗ var 2) ⊗ (var 1 ⊗ var 5)) ⊖ ((var 0 ⊗ var 3) ⊗ (var 1 ⊗ var 4)))
        (((var 2 ⊗ var 5) ⊖ (var 3 ⊗ var 4)) ⊗ (var 0 ⊗ var 1)) refl) h

    parallel : across_between d runs.from runs.to *ℤ upward_between d runs_too.from runs_too.to ≡ upward_between d runs.from runs.to *ℤ across_between d runs_too.from runs_too.to
    parallel =
        (λ i. runs.across i *ℤ runs_too.upward i)
        ∙ multiples runs.times runs_too.times (dot (right_axis d) s) (dot (up_axis d) s) (dot (right_axis d) t) (dot (up_axis d) t)
        (seen_area d (right_axis d) s t (right_axis-is d).level none)
        ∙ (λ i. sym runs.upward i *ℤ sym runs_too.across i)
