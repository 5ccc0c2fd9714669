-- Axes of the view: reversed, and two corners along them.
use Rattle.std.proofs.Common.{◌≡◌, [], ◌∷◌, refl, ap, ◌∙◌, arith}
use Rattle.std.specs.Prelude.{ℤ, pos, negsuc, neg_ℤ, ◌+ℤ◌, ◌-ℤ◌, ◌*ℤ◌, ◌<ℤ◌}
use Rattle.std.proofs.lemmas.Int.{ints}
use Rattle.integers.proofs.Comparisons.{positive_of_negated}
use Rattle.integers.proofs.Ring.{var, con, ◌⊖◌, ◌⊗◌, ring, by_one}
use Rattle.lattice.specs.declared.points.Corner.{Corner}
use Rattle.lattice.specs.declared.points.Dir.{Dir}
use Rattle.lattice.specs.Triple.{Triple, dot, negated, right_axis, up_axis}
use Rattle.lattice.specs.Points.{of_dir, point_of, difference, scaled, OnOneSight, DifferAlong}
use Rattle.lattice.proofs.Vectors.{Letters, letters, dots, dot_itself}
use Rattle.lattice.proofs.SightLines.{no_part, along_by_sight}

-- ---- a reversed axis
abbrev backward : Letters
backward = record { x = con (pos 0) ⊖ var 0; y = con (pos 0) ⊖ var 1; z = con (pos 0) ⊖ var 2 }

pub dot_negated : (s t : Triple) → dot (negated s) t ≡ pos 0 -ℤ dot s t
dot_negated s t =
    (λ i. (back s.x i *ℤ t.x +ℤ back s.y i *ℤ t.y) +ℤ back s.z i *ℤ t.z)
    ∙ ring (s.x ∷ s.y ∷ s.z ∷ t.x ∷ t.y ∷ t.z ∷ []) (dots backward (letters 3)) (con (pos 0) ⊖ dots (letters 0) (letters 3)) refl
  where
    back : (a : ℤ) → neg_ℤ a ≡ pos 0 -ℤ a
    back a = omega (arith, ints)

module _ (r s : Triple) (reversed : r ≡ negated s) (t : Triple) where
  dot_reversed : dot r t ≡ pos 0 -ℤ dot s t
  dot_reversed = ap (λ (v : Triple). dot v t) reversed ∙ dot_negated s t

  pub reversed_forward : dot s t <ℤ pos 0 → pos 0 <ℤ dot r t
  reversed_forward h = positive_of_negated (dot s t) (dot r t) dot_reversed h

  pub reversed_level : dot s t ≡ pos 0 → dot r t ≡ pos 0
  reversed_level h = stays (dot r t) (dot s t) dot_reversed h
    where
      stays : (a b : ℤ) → a ≡ pos 0 -ℤ b → b ≡ pos 0 → a ≡ pos 0
      stays a b e h = omega (arith, ints)

-- ---- corners that agree along both axes are on one line of sight
abbrev R : Letters
R = letters 0

abbrev A : Letters
A = letters 3

abbrev B : Letters
B = letters 6

abbrev way : Letters
way = record { x = B.x ⊖ A.x; y = B.y ⊖ A.y; z = B.z ⊖ A.z }

agree_at : (r : Triple) (a b : Corner) → dot r (difference a b) ≡ pos 0 → dot r (scaled (point_of a)) *ℤ pos 1 ≡ dot r (scaled (point_of b)) *ℤ pos 1
agree_at r a b h =
    by_one (dot r (scaled (point_of a)) *ℤ pos 1) (dot r (scaled (point_of b)) *ℤ pos 1) (dot r (difference a b)) (pos 0) (negsuc 0)
    (ring (r.x ∷ r.y ∷ r.z ∷ a.x ∷ a.y ∷ a.z ∷ b.x ∷ b.y ∷ b.z ∷ []) ((dots R A ⊗ con (pos 1)) ⊖ (dots R B ⊗ con (pos 1))) ((dots R way ⊖ con (pos 0)) ⊗ con (negsuc 0)) refl) h

pub one_sight_by_axes : (d : Triple) (a b : Corner) → dot (right_axis d) (difference a b) ≡ pos 0 → dot (up_axis d) (difference a b) ≡ pos 0 → OnOneSight d (point_of a) (point_of b)
one_sight_by_axes d a b right up = record { across = agree_at (right_axis d) a b right; upward = agree_at (up_axis d) a b up }

abbrev apart : Letters
apart = record { x = (A.x ⊗ con (pos 1)) ⊖ (B.x ⊗ con (pos 1)); y = (A.y ⊗ con (pos 1)) ⊖ (B.y ⊗ con (pos 1)); z = (A.z ⊗ con (pos 1)) ⊖ (B.z ⊗ con (pos 1)) }

-- and corners on one line of sight agree along each axis that is square to the direction
pub level_by_sight : (d axis : Triple) (a b : Corner) → pos 0 <ℤ dot d d → dot axis d ≡ pos 0 → OnOneSight d (point_of a) (point_of b) → dot axis (difference a b) ≡ pos 0
level_by_sight d axis a b square level same =
    let along : DifferAlong d (point_of a) (point_of b) = (along_by_sight d (point_of a) (point_of b) {P = OnOneSight d (point_of a) (point_of b)} square ((λ h. h), (λ h. h))).0 same in
    let e : Triple = record { x = a.x *ℤ pos 1 -ℤ b.x *ℤ pos 1; y = a.y *ℤ pos 1 -ℤ b.y *ℤ pos 1; z = a.z *ℤ pos 1 -ℤ b.z *ℤ pos 1 } in
    by_one (dot axis (difference a b)) (pos 0) (dot axis e) (pos 0) (negsuc 0)
    (ring (axis.x ∷ axis.y ∷ axis.z ∷ a.x ∷ a.y ∷ a.z ∷ b.x ∷ b.y ∷ b.z ∷ []) (dots R way ⊖ con (pos 0)) ((dots R apart ⊖ con (pos 0)) ⊗ con (negsuc 0)) refl)
    (no_part axis e d along.n along.m along.positive along.x along.y along.z level)

-- ---- a direction is not zero
pub square_positive : (d : Dir) → pos 0 <ℤ dot (of_dir d) (of_dir d)
square_positive d = dot_itself (of_dir d) d.not_zero
