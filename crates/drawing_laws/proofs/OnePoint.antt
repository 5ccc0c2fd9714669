-- A line of sight holds one point at most of an edge that isn't seen end-on, and of the plane of a cut. So where all points but those on
-- n lines of sight are ordinary, at most n points of such an edge, or of a border, are not.
use Rattle.std.proofs.Common.{◌≡◌, ◌+◌, [], ◌∷◌, Bool, true, false, refl, sym, subst, ◌∙◌, arith}
use Rattle.std.specs.Prelude.{ℤ, pos, ◌+ℤ◌, ◌-ℤ◌, ◌*ℤ◌}
use Rattle.std.proofs.lemmas.Int.{ints, by_lt_z}
use Rattle.integers.proofs.Comparisons.{same_of_both}
use Rattle.integers.proofs.Ring.{var, ◌⊕◌, ◌⊖◌, ◌⊗◌, ring, by_one}
use Rattle.lattice.specs.declared.points.Axis.{Axis}
use Rattle.lattice.specs.declared.points.Axis.TheVariants.{X, Y, Z}
use Rattle.lattice.specs.declared.points.Corner.{Corner}
use Rattle.lattice.specs.Cuts.{Plane, toward_of, plane_height, side_of, IsOnPlane}
use Rattle.lattice.specs.Points.{Point, point_of, height_of, OnOneSight, AreOnePoint}
use Rattle.lattice.specs.Triple.{Triple, IsZero, right_axis}
use Rattle.lattice.proofs.SightAxes.{one_point_of_agreement}
use Rattle.lattice.proofs.SightLines.{right_axis-is}
use Rattle.geometry.specs.Faces.{share_point, IsPointOfEdge}
use Rattle.geometry.specs.Parts.{Part, Edge}
use Rattle.geometry.specs.Views.{IsEndOn}
use Rattle.geometry.proofs.Shares.{edge_share, end_on}
use Rattle.geometry.proofs.Sights.{sight_back}
use Rattle.geometry.proofs.Crossings.{one_number}

-- ---- edges
-- shares of one value are one point
one_share : (a b : Corner) (n m n' m' : ℤ) → n *ℤ m' ≡ n' *ℤ m → AreOnePoint (share_point a b n m) (share_point a b n' m')
one_share a b n m n' m' same = record { x = along a.x b.x; y = along a.y b.y; z = along a.z b.z }
  where
    along : (a b : ℤ) → (((m -ℤ n) *ℤ a) +ℤ (n *ℤ b)) *ℤ m' ≡ (((m' -ℤ n') *ℤ a) +ℤ (n' *ℤ b)) *ℤ m
    along a b =
        by_one _ _ (n *ℤ m') (n' *ℤ m) (b -ℤ a)
        (ring (a ∷ b ∷ n ∷ m ∷ n' ∷ m' ∷ [])
        (((((var 3 ⊖ var 2) ⊗ var 0) ⊕ (var 2 ⊗ var 1)) ⊗ var 5) ⊖ ((((var 5 ⊖ var 4) ⊗ var 0) ⊕ (var 4 ⊗ var 1)) ⊗ var 3))
        (((var 2 ⊗ var 5) ⊖ (var 4 ⊗ var 3)) ⊗ (var 1 ⊖ var 0)) refl) same

-- shares on one line of sight are one point, where the ends aren't
one_of_shares : (d : Triple) (a b : Corner) (n m n' m' : ℤ) → ¬ OnOneSight d (point_of a) (point_of b) → OnOneSight d (share_point a b n m) (share_point a b n' m')
    → AreOnePoint (share_point a b n m) (share_point a b n' m')
one_of_shares d a b n m n' m' apart same =
    by_lt_z (n *ℤ m') (n' *ℤ m)
    (λ less. absurd (apart (end_on d a b n m n' m' less same)))
    (λ most. by_lt_z (n' *ℤ m) (n *ℤ m')
    (λ less. absurd (apart (end_on d a b n' m' n m less (sight_back d (share_point a b n m) (share_point a b n' m') same))))
    (λ least. one_share a b n m n' m' (same_of_both (n *ℤ m') (n' *ℤ m) least most)))

pub one_point_of_edge : (d : Triple) {s : Part} (e : Edge s) (p q : Point) → ¬ IsEndOn d e → IsPointOfEdge e.a e.b p → IsPointOfEdge e.a e.b q → OnOneSight d p q → AreOnePoint p q
one_point_of_edge d e p q apart (i, j, some, is) (k, l, some_too, is_too) same = back (subst (OnOneSight d first) share_too (subst (λ (x : Point). OnOneSight d x q) share same))
  where
    first : Point
    first = share_point e.a e.b (pos j) (pos (i + j))

    second : Point
    second = share_point e.a e.b (pos l) (pos (k + l))

    share : p ≡ share_point e.a e.b (pos j) (pos (i + j))
    share = is ∙ edge_share e.a e.b i j

    share_too : q ≡ share_point e.a e.b (pos l) (pos (k + l))
    share_too = is_too ∙ edge_share e.a e.b k l

    back : OnOneSight d first second → AreOnePoint p q
    back same =
        subst (λ (x : Point). AreOnePoint x q) (sym share)
        (subst (AreOnePoint first) (sym share_too) (one_of_shares d e.a e.b (pos j) (pos (i + j)) (pos l) (pos (k + l)) apart same))

-- ---- the plane of a cut
toward_somewhere : (c : Plane) → ¬ IsZero (toward_of c)
toward_somewhere c = by c.axis c.from_high
  where
    by : (axis : Axis) (high : Bool) → ¬ IsZero (side_of axis high)
    by X true nothing = omega (arith, ints)
    by X false nothing = omega (arith, ints)
    by Y true nothing = omega (arith, ints)
    by Y false nothing = omega (arith, ints)
    by Z true nothing = omega (arith, ints)
    by Z false nothing = omega (arith, ints)

pub one_point_on_plane : (c : Plane) (p q : Point) → IsOnPlane c p → IsOnPlane c q → OnOneSight (toward_of c) p q → AreOnePoint p q
one_point_on_plane c p q on on_too same =
    let d = toward_of c in
    let axis = right_axis-is d in
    one_point_of_agreement d (right_axis d) (right_axis d) p q (toward_somewhere c) axis.level axis.square same.across same.upward
    (one_number (height_of d p) (height_of d q) (plane_height c) p.w q.w on on_too)
