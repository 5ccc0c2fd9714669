-- The foot of a line of sight, and where three steps from it end.
use Rattle.std.proofs.Common.{◌≡◌, [], ◌∷◌, refl, sym, ap, subst, ◌∙◌, ◌≤◌, ◌<◌, ◌*◌, ◌^◌, arith, unsigned_abs}
use Rattle.std.specs.Prelude.{ℤ, pos, ◌+ℤ◌, ◌-ℤ◌, ◌*ℤ◌, ◌<ℤ◌, ◌≤ℤ◌}
use Rattle.std.proofs.lemmas.Int.{ints}
use Rattle.integers.proofs.Orders.{same_through}
use Rattle.integers.proofs.Ring.{var, con, ◌⊕◌, ◌⊖◌, ◌⊗◌, ring, by_one}
use Rattle.integers.proofs.Signs.{mul_pos}
use Rattle.lattice.specs.declared.points.Dir.{Dir}
use Rattle.lattice.specs.Triple.{Triple, dot, cross, right_axis, up_axis}
use Rattle.lattice.specs.Points.{Point, IsPoint, of_dir, across_of, upward_of, OnOneSight, scaled}
use Rattle.lattice.proofs.Vectors.{Letters, letters, dots, crosses, dot_itself}
use Rattle.lattice.proofs.SightLines.{right_axis-is, along_of_sight, sight_of_along}
use Rattle.detail_pieces.specs.declared.places.ViewPlace.{ViewPlace}
use Rattle.detail_pieces.specs.declared.reaches.Reach.{Reach}
use Rattle.detail_pieces.specs.declared.reaches.Heading.{Heading}
use Rattle.detail_pieces.specs.inner.Places.{IsSeenAt, IsNear, IsInBox, HasSpot}
use Rattle.detail_pieces.specs.inner.Steps.{of_reach, of_heading, turned, turned_point, IsStep}
use Rattle.detail_pieces.proofs.Boxes.{step_to}

-- ---- what is seen at one place is on one line of sight
pub sight_of_place : (d : Triple) (t : ViewPlace) (p q : Point) → IsSeenAt d t p → IsSeenAt d t q → OnOneSight d p q
sight_of_place d t p q h k = record {
  across = same_through (across_of d p) t.across (across_of d q) p.w t.den q.w t.positive h.across (sym k.across);
  upward = same_through (upward_of d p) t.upward (upward_of d q) p.w t.den q.w t.positive h.upward (sym k.upward);
}

pub place_along : (d : Triple) (t : ViewPlace) (p q : Point) → IsPoint p → IsSeenAt d t p → OnOneSight d p q → IsSeenAt d t q
place_along d t p q positive h k = record {
  across = same_through (across_of d q) (across_of d p) t.across q.w p.w t.den positive (sym k.across) h.across;
  upward = same_through (upward_of d q) (upward_of d p) t.upward q.w p.w t.den positive (sym k.upward) h.upward;
}

-- ---- the foot
abbrev pub foot_of : Triple → Triple → ViewPlace → Point
foot_of d r t = record {
  x = ((t.across *ℤ dot d d) *ℤ r.x) +ℤ (t.upward *ℤ (cross d r).x);
  y = ((t.across *ℤ dot d d) *ℤ r.y) +ℤ (t.upward *ℤ (cross d r).y);
  z = ((t.across *ℤ dot d d) *ℤ r.z) +ℤ (t.upward *ℤ (cross d r).z);
  w = t.den *ℤ dot (cross d r) (cross d r);
}

abbrev D : Letters
D = letters 0

abbrev R : Letters
R = letters 3

abbrev F : Letters
F = record {
  x = ((var 6 ⊗ dots D D) ⊗ R.x) ⊕ (var 7 ⊗ (crosses D R).x);
  y = ((var 6 ⊗ dots D D) ⊗ R.y) ⊕ (var 7 ⊗ (crosses D R).y);
  z = ((var 6 ⊗ dots D D) ⊗ R.z) ⊕ (var 7 ⊗ (crosses D R).z);
}

module _ (d r : Triple) (t : ViewPlace) (level : dot r d ≡ pos 0) where
  foot_across : dot r (scaled (foot_of d r t)) *ℤ t.den ≡ t.across *ℤ (foot_of d r t).w
  foot_across = by_one _ _ (dot r d) (pos 0) ((t.across *ℤ t.den) *ℤ dot r d)
      (ring (d.x ∷ d.y ∷ d.z ∷ r.x ∷ r.y ∷ r.z ∷ t.across ∷ t.upward ∷ t.den ∷ [])
      ((dots R F ⊗ var 8) ⊖ (var 6 ⊗ (var 8 ⊗ dots (crosses D R) (crosses D R))))
      ((dots R D ⊖ con (pos 0)) ⊗ ((var 6 ⊗ var 8) ⊗ dots R D)) refl) level

  foot_upward : dot (cross d r) (scaled (foot_of d r t)) *ℤ t.den ≡ t.upward *ℤ (foot_of d r t).w
  foot_upward = ring (d.x ∷ d.y ∷ d.z ∷ r.x ∷ r.y ∷ r.z ∷ t.across ∷ t.upward ∷ t.den ∷ [])
      (dots (crosses D R) F ⊗ var 8)
      (var 7 ⊗ (var 8 ⊗ dots (crosses D R) (crosses D R))) refl

pub foot_seen : (d : Triple) (t : ViewPlace) → IsSeenAt d t (foot_of d (right_axis d) t)
foot_seen d t = record {
  across = foot_across d (right_axis d) t (right_axis-is d).level;
  upward = foot_upward d (right_axis d) t (right_axis-is d).level;
}

-- the square of the up axis
pub up_positive : (d : Triple) → pos 0 <ℤ dot d d → pos 0 <ℤ dot (up_axis d) (up_axis d)
up_positive d h = at _ _ (square d (right_axis d) (right_axis-is d).level) (mul_pos (dot d d) (dot (right_axis d) (right_axis d)) h (right_axis-is d).square)
  where
    at : (a b : ℤ) → a ≡ b → pos 0 <ℤ b → pos 0 <ℤ a
    at a b e h = omega (arith, ints)

    square : (d r : Triple) → dot r d ≡ pos 0 → dot (cross d r) (cross d r) ≡ dot d d *ℤ dot r r
    square d r level = by_one _ _ (dot r d) (pos 0) (pos 0 -ℤ dot r d)
        (ring (d.x ∷ d.y ∷ d.z ∷ r.x ∷ r.y ∷ r.z ∷ [])
        (dots (crosses D R) (crosses D R) ⊖ (dots D D ⊗ dots R R))
        ((dots R D ⊖ con (pos 0)) ⊗ (con (pos 0) ⊖ dots R D)) refl) level

-- ---- three steps
pub record IsReached (d : Triple) (t : ViewPlace) (q : Point) : Type 0 where
  pub positive : pos 0 <ℤ q.w
  pub in_box : IsInBox q
  pub seen : IsSeenAt d t q

three_steps : (d : Dir) (t : ViewPlace) (h : HasSpot (of_dir d) t) (p q r s : Point) → IsSeenAt (of_dir d) t p → pos 0 <ℤ p.w
    → IsStep (of_dir d) p q → IsStep (turned (of_dir d)) q r → IsStep (turned (turned (of_dir d))) r s → IsReached (of_dir d) t s
three_steps d t h p q r s seen positive one two three =
    let g = h.at in
    let v = of_dir d in
    let along = along_of_sight v g p (dot_itself v d.not_zero) (sight_of_place v t g p h.seen seen) in
    let first = step_to v g p q h.is positive h.in_box along one in
    let second = step_to (turned v) (turned_point g) q r h.is first.positive (record { x = h.in_box.y; y = h.in_box.z; z = h.in_box.x }) first.along two in
    let third = step_to (turned (turned v)) (turned_point (turned_point g)) r s h.is second.positive (record { x = h.in_box.z; y = h.in_box.x; z = h.in_box.y }) second.along three in
    record {
      positive = third.positive;
      in_box = record { x = third.first (second.second first.home); y = third.second second.home; z = third.home };
      seen = place_along v t g s h.is h.seen (sight_of_along v g s third.along);
    }

pub reached : (d : Dir) (t : ViewPlace) (h : HasSpot (of_dir d) t) (x y z : Heading) (p q r s : Reach) → of_heading x ≡ of_dir d → of_heading y ≡ turned (of_heading x) → of_heading z ≡ turned (of_heading y)
    → IsSeenAt (of_dir d) t (of_reach p) → pos 0 <ℤ p.w → IsStep (of_heading x) (of_reach p) (of_reach q) → IsStep (of_heading y) (of_reach q) (of_reach r) → IsStep (of_heading z) (of_reach r) (of_reach s)
    → IsReached (of_dir d) t (of_reach s)
reached d t h x y z p q r s ex ey ez seen positive one two three =
    three_steps d t h (of_reach p) (of_reach q) (of_reach r) (of_reach s) seen positive
    (subst (λ (v : Triple). IsStep v (of_reach p) (of_reach q)) ex one)
    (subst (λ (v : Triple). IsStep v (of_reach q) (of_reach r)) (ey ∙ ap turned ex) two)
    (subst (λ (v : Triple). IsStep v (of_reach r) (of_reach s)) (ez ∙ ap turned (ey ∙ ap turned ex)) three)

-- ---- the sizes of a spot
pub near_size : (x w : ℤ) → pos 0 <ℤ w → IsNear x w → unsigned_abs x ≤ 2 ^ 21 * unsigned_abs w
near_size x w h near = size near.low near.high
  where
    size : pos 0 ≤ℤ (x +ℤ (pos (2 ^ 21) *ℤ w)) → pos 0 ≤ℤ ((pos (2 ^ 21) *ℤ w) -ℤ x) → unsigned_abs x ≤ 2 ^ 21 * unsigned_abs w
    size low high = omega (arith, ints)

pub near_below : (x w : ℤ) → pos 0 <ℤ w → unsigned_abs w < 2 ^ 70 → IsNear x w → unsigned_abs x < 2 ^ 92
near_below x w h short near = let size = near_size x w h near in omega (arith, size)
