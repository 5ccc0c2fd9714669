-- The ends of borders in a cut view: where an edge crosses the plane, of which each edge has one at most.
use Rattle.std.proofs.Common.{◌≡◌, ◌⊎◌, inl, inr, ℕ, ◌+◌, ◌*◌, ◌<◌, ◌≤◌, List, [], ◌∷◌, All, Contains, length, unsigned_abs, refl, sym, subst, ap, ◌∙◌, arith}
use Rattle.std.specs.Prelude.{ℤ, pos, ◌+ℤ◌, ◌-ℤ◌, ◌*ℤ◌, ◌<ℤ◌}
use Rattle.std.proofs.lemmas.Int.{ints, unsigned_abs-mul}
use Rattle.integers.proofs.Absolutes.{natural_positive, pos-sum, pos-product, some_abs_of_positive, some_abs_of_negative}
use Rattle.integers.proofs.Ring.{var, ◌⊕◌, ◌⊖◌, ◌⊗◌, ring, by_one}
use Rattle.integers.proofs.Signs.{zero_of_mul}
use Rattle.lattice.specs.declared.points.Corner.{Corner}
use Rattle.lattice.specs.Cuts.{Plane, toward_of, IsBeyond, IsOnPlane, IsBeforePlane}
use Rattle.lattice.specs.Points.{Point, IsPoint, point_of, scaled, OnOneSight}
use Rattle.lattice.specs.Triple.{Triple, dot, right_axis, up_axis}
use Rattle.geometry.specs.Cuts.{over_of, crossing_of}
use Rattle.geometry.specs.Faces.{edge_sum, IsPointOfEdge}
use Rattle.geometry.specs.Parts.{Part, Edge, AreEdges}
use Rattle.geometry.proofs.Borders.{edge_rise, rise_on, side_of_corner, over_beyond, over_before}
use Rattle.geometry.proofs.FacePoints.{dot-edge_sum, edge_point-turned}
use Rattle.geometry.proofs.Sights.{sight_on}
use Rattle.geometry.specs.Exceptions.{IsInSightOfOne}
use Rattle.geometry.proofs.EdgeStepLines.{edge_point-is_point}
use Rattle.geometry.proofs.ForEach.{for_edges, for_edges-few, for_edges-all, Contains-for_edges}

-- weights i, j and m, n in one ratio give one point, in its product with any vector
one_product : (s : Triple) (a b : Corner) (i j m n : ℕ) → i * n ≡ j * m → dot s (scaled (edge_sum a b m n)) *ℤ pos (i + j) ≡ dot s (scaled (edge_sum a b i j)) *ℤ pos (m + n)
one_product s a b i j m n same =
    (λ t. dot-edge_sum s a b m n t *ℤ pos-sum i j t)
    ∙ balance (dot s (scaled (point_of a))) (dot s (scaled (point_of b))) (pos i) (pos j) (pos m) (pos n) (sym (pos-product i n) ∙ ap pos same ∙ pos-product j m)
    ∙ (λ t. sym (dot-edge_sum s a b i j) t *ℤ sym (pos-sum m n) t)
  where
    balance : (u v i j m n : ℤ) → i *ℤ n ≡ j *ℤ m → ((m *ℤ u) +ℤ (n *ℤ v)) *ℤ (i +ℤ j) ≡ ((i *ℤ u) +ℤ (j *ℤ v)) *ℤ (m +ℤ n)
    balance u v i j m n e =
        by_one _ _ (i *ℤ n) (j *ℤ m) (v -ℤ u)
        (ring (u ∷ v ∷ i ∷ j ∷ m ∷ n ∷ [])
        ((((var 4 ⊗ var 0) ⊕ (var 5 ⊗ var 1)) ⊗ (var 2 ⊕ var 3)) ⊖ (((var 2 ⊗ var 0) ⊕ (var 3 ⊗ var 1)) ⊗ (var 4 ⊕ var 5)))
        (((var 2 ⊗ var 5) ⊖ (var 3 ⊗ var 4)) ⊗ (var 1 ⊖ var 0)) refl) e

module _ (c : Plane) where
  over_somewhere : (k : Corner) → 0 < unsigned_abs (over_of c k)
  over_somewhere k = by (side_of_corner c k)
    where
      by : IsBeyond c (point_of k) ⊎ IsBeforePlane c (point_of k) → 0 < unsigned_abs (over_of c k)
      by (inl h) = some_abs_of_negative (over_of c k) (over_beyond c k h)
      by (inr h) = some_abs_of_positive (over_of c k) (over_before c k h)

  crossing-is_point : (a b : Corner) → IsPoint (crossing_of c a b)
  crossing-is_point a b = natural_positive (unsigned_abs (over_of c b) + unsigned_abs (over_of c a)) (more _ _ (over_somewhere a))
    where
      more : (m n : ℕ) → 0 < n → 0 < m + n
      more m n h = omega arith

  -- the weights of a point on the plane
  level : (a b : Corner) (i j : ℕ) → IsOnPlane c (edge_sum a b i j) → (pos i *ℤ over_of c a) +ℤ (pos j *ℤ over_of c b) ≡ pos 0
  level a b i j on = sym (edge_rise c a b i j) ∙ rise_on c (edge_sum a b i j) on

  end_is_crossing : (a b : Corner) (q : Point) → IsPointOfEdge a b q → IsOnPlane c q → OnOneSight (toward_of c) (crossing_of c a b) q
  end_is_crossing a b q (i, j, some, is) on = subst (OnOneSight (toward_of c) (crossing_of c a b)) (sym is) (record {
    across = one_product (right_axis (toward_of c)) a b i j (unsigned_abs (over_of c b)) (unsigned_abs (over_of c a)) weights;
    upward = one_product (up_axis (toward_of c)) a b i j (unsigned_abs (over_of c b)) (unsigned_abs (over_of c a)) weights;
  })
    where
      opposite : (x y : ℤ) → x +ℤ y ≡ pos 0 → unsigned_abs x ≡ unsigned_abs y
      opposite x y e = omega (arith, ints)

      weights : i * unsigned_abs (over_of c a) ≡ j * unsigned_abs (over_of c b)
      weights =
          sym (unsigned_abs-mul (pos i) (over_of c a)) ∙ opposite (pos i *ℤ over_of c a) (pos j *ℤ over_of c b) (level a b i j (subst (IsOnPlane c) is on))
          ∙ unsigned_abs-mul (pos j) (over_of c b)

  -- an edge with one corner alone has none
  no_end : (a : Corner) (q : Point) → IsPointOfEdge a a q → ¬ IsOnPlane c q
  no_end a q (i, j, some, is) on =
      nowhere (over_of c a) (over_somewhere a)
      (zero_of_mul (pos i +ℤ pos j) (over_of c a) (positive i j some) (joined (pos i) (pos j) (over_of c a) ∙ level a a i j (subst (IsOnPlane c) is on)))
    where
      nowhere : (z : ℤ) → 0 < unsigned_abs z → z ≡ pos 0 → ⊥
      nowhere z h e = omega (arith, ints)

      positive : (i j : ℕ) → 0 < i + j → pos 0 <ℤ (pos i +ℤ pos j)
      positive i j h = omega (arith, ints)

      joined : (x y z : ℤ) → (x +ℤ y) *ℤ z ≡ (x *ℤ z) +ℤ (y *ℤ z)
      joined x y z = ring (x ∷ y ∷ z ∷ []) ((var 0 ⊕ var 1) ⊗ var 2) ((var 0 ⊗ var 2) ⊕ (var 1 ⊗ var 2)) refl

-- ---- the ends of all borders
abbrev pub end_marks : Plane → Part → List ℕ → List Point
end_marks c s halves = for_edges (crossing_of c) s halves

pub end_marks-few : (c : Plane) (s : Part) (halves : List ℕ) → length (end_marks c s halves) ≤ 1 * length halves
end_marks-few c s halves = for_edges-few (crossing_of c) s halves

pub end_marks-points : (c : Plane) (s : Part) (halves : List ℕ) → All IsPoint (end_marks c s halves)
end_marks-points c s halves = for_edges-all (crossing_of c) s IsPoint (crossing-is_point c) halves

module _ (c : Plane) (s : Part) (halves : List ℕ) (edges : AreEdges s halves) (marks : List Point) (within : (q : Point) → Contains (end_marks c s halves) q → Contains marks q)
    (p : Point) (off : ¬ IsInSightOfOne (toward_of c) marks p) where
  pub off_end : (e : Edge s) (q : Point) → IsPointOfEdge e.a e.b q → IsOnPlane c q → ¬ OnOneSight (toward_of c) q p
  off_end e q on_edge on same = by (Contains-for_edges (crossing_of c) s halves edges e)
    where
      seen : (a b : Corner) → IsPointOfEdge a b q → OnOneSight (toward_of c) (crossing_of c a b) p
      seen a b on_edge = sight_on (toward_of c) (crossing_of c a b) q p (edge_point-is_point a b q on_edge) (end_is_crossing c a b q on_edge on) same

      by : Contains (end_marks c s halves) (crossing_of c e.a e.b) ⊎ Contains (end_marks c s halves) (crossing_of c e.b e.a) ⊎ (e.a ≡ e.b) → ⊥
      by (inl there) = off (crossing_of c e.a e.b, within (crossing_of c e.a e.b) there, seen e.a e.b on_edge)
      by (inr (inl back)) = off (crossing_of c e.b e.a, within (crossing_of c e.b e.a) back, seen e.b e.a (edge_point-turned e.a e.b q on_edge))
      by (inr (inr one)) = no_end c e.a q (subst (λ (b : Corner). IsPointOfEdge e.a b q) (sym one) on_edge) on
