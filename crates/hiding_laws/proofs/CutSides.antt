-- Where a side of an edge-on face is beyond the plane over an edge that is seen in line with it, and that where it meets the plane there is no ordinary point.
use Rattle.std.proofs.Common.{◌≡◌, ℕ, ◌+◌, ◌<◌, All, length, [], ◌∷◌, refl, sym, subst, ◌∙◌}
use Rattle.std.specs.Prelude.{◌↔◌, ℤ, pos, ◌+ℤ◌, ◌-ℤ◌, ◌*ℤ◌, ◌<ℤ◌, ◌≤ℤ◌}
use Rattle.integers.proofs.Absolutes.{natural_positive}
use Rattle.geometry.proofs.FacePoints.{edge_point-turned}
use Rattle.integers.proofs.Ring.{Expr, var, ◌⊕◌, ◌⊖◌, ◌⊗◌, ring, by_one}
use Rattle.integers.proofs.Signs.{mul_pos, pos_of_mul}
use Rattle.lattice.specs.declared.points.Corner.{Corner}
use Rattle.lattice.specs.Triangles.{IsBelow}
use Rattle.lattice.specs.Triple.{Triple, dot}
use Rattle.lattice.specs.Points.{Point, point_of, of_corner, scaled, difference, OnOneSight}
use Rattle.lattice.specs.Cuts.{Plane, toward_of, IsBeyond}
use Rattle.geometry.specs.Faces.{share_point, edge_sum, IsPointOfEdge}
use Rattle.geometry.specs.Parts.{Part, Face, Edge, IsClosed}
use Rattle.geometry.specs.Cuts.{IsOrdinaryInCut}
use Rattle.hiding_laws.specs.Values.{IsSideOf, IsAhead, IsInLine, value_at, past_of, short_of}
use Rattle.hiding_laws.specs.CutValues.{below_of, reach_of, SideReaches, IsOverReach}
use Rattle.hiding_laws.proofs.Values.{past-share, short-share}
use Rattle.hiding_laws.proofs.Ordinary.{side-edge}
use Rattle.hiding_laws.proofs.Readings.{dot-offset, dot-difference, short-is}
use Rattle.hiding_laws.proofs.SidePoints.{natural}
use Rattle.hiding_laws.proofs.SideEnds.{sum-meets, sum-past, sum-short, there-sight, some-there}
use Rattle.hiding_laws.proofs.CutPlanes.{cut-somewhere, below-beyond, below-on, below-sum}

-- the order of the two ends does not count
pub side-reaches-turned : (c : Plane) (k l : Corner) (p : Point) → SideReaches c k l p → SideReaches c l k p
side-reaches-turned c k l p h = record {
  point = h.point;
  on_side = edge_point-turned k l h.point h.on_side;
  beyond = h.beyond;
  same_sight = h.same_sight;
}

-- linear along an edge
pub reach-share : (c : Plane) (axis : Triple) (k l p q : Corner) (n m : ℤ) → reach_of c axis k l (share_point p q n m) ≡ value_at (reach_of c axis k l (point_of p)) (reach_of c axis k l (point_of q)) n m
reach-share c axis k l p q n m =
    (λ t. (short-share (toward_of c) p q n m axis l t *ℤ below_of c (point_of k)) +ℤ (past-share (toward_of c) p q n m axis k t *ℤ below_of c (point_of l)))
    ∙ ring (short_of axis l (point_of p) ∷ short_of axis l (point_of q) ∷ past_of axis k (point_of p) ∷ past_of axis k (point_of q) ∷ below_of c (point_of k) ∷ below_of c (point_of l) ∷ n ∷ m ∷ [])
    ((evenly (var 0) (var 1) ⊗ var 4) ⊕ (evenly (var 2) (var 3) ⊗ var 5))
    (evenly ((var 0 ⊗ var 4) ⊕ (var 2 ⊗ var 5)) ((var 1 ⊗ var 4) ⊕ (var 3 ⊗ var 5))) refl
  where
    evenly : Expr → Expr → Expr
    evenly x y = ((var 7 ⊖ var 6) ⊗ x) ⊕ (var 6 ⊗ y)

module _ (c : Plane) (axis : Triple) (p q k l : Corner) (n m : ℤ) (positive : pos 0 <ℤ m) (ahead : IsAhead (toward_of c) axis p q) (in_line : IsInLine (toward_of c) p q k l) (forward : pos 0 <ℤ dot axis (difference k l)) where
  abbrev here : Point
  here = share_point p q n m

  abbrev d : Triple
  d = toward_of c

  -- a point of the side over the share is as far below the plane as the value says
  reach-of-sum : (i j : ℕ) → 0 < i + j → OnOneSight d (edge_sum k l i j) here → pos 0 <ℤ below_of c (edge_sum k l i j) → pos 0 <ℤ reach_of c axis k l here
  reach-of-sum i j some same low =
      let bk = below_of c (point_of k) in
      let bl = below_of c (point_of l) in
      let along : pos 0 <ℤ (dot axis (of_corner l) -ℤ dot axis (of_corner k)) = subst (λ (v : ℤ). pos 0 <ℤ v) (dot-difference axis k l) forward in
      let meets = sum-meets d axis k l here (cut-somewhere c) positive ahead.level forward i j some same in
      let is : reach_of c axis k l here ≡ (((m *ℤ dot axis (of_corner l)) -ℤ dot axis (scaled here)) *ℤ bk) +ℤ ((dot axis (scaled here) -ℤ (m *ℤ dot axis (of_corner k))) *ℤ bl) =
      (λ t. (short-is axis l here t *ℤ bk) +ℤ (dot-offset axis k here t *ℤ bl)) in
      subst (λ (v : ℤ). pos 0 <ℤ v) (sym is) (pos_of_mul (pos i +ℤ pos j) _ (natural_positive (i + j) some)
      (subst (λ (v : ℤ). pos 0 <ℤ v) (sym (weighed m (dot axis (of_corner k)) (dot axis (of_corner l)) (dot axis (scaled here)) (pos i) (pos j) bk bl meets))
      (mul_pos _ _ (mul_pos m _ positive along) (subst (λ (v : ℤ). pos 0 <ℤ v) (below-sum c k l i j) low))))
    where
      weighed : (w ak al at i j bk bl : ℤ) → (i *ℤ ak +ℤ j *ℤ al) *ℤ w ≡ at *ℤ (i +ℤ j)
          → (i +ℤ j) *ℤ ((((w *ℤ al) -ℤ at) *ℤ bk) +ℤ ((at -ℤ (w *ℤ ak)) *ℤ bl)) ≡ (w *ℤ (al -ℤ ak)) *ℤ ((i *ℤ bk) +ℤ (j *ℤ bl))
      weighed w ak al at i j bk bl meets =
          by_one _ _ _ _ (bk -ℤ bl)
          (ring (w ∷ ak ∷ al ∷ at ∷ i ∷ j ∷ bk ∷ bl ∷ [])
          (((var 4 ⊕ var 5) ⊗ ((((var 0 ⊗ var 2) ⊖ var 3) ⊗ var 6) ⊕ ((var 3 ⊖ (var 0 ⊗ var 1)) ⊗ var 7))) ⊖ ((var 0 ⊗ (var 2 ⊖ var 1)) ⊗ ((var 4 ⊗ var 6) ⊕ (var 5 ⊗ var 7))))
          (((((var 4 ⊗ var 1) ⊕ (var 5 ⊗ var 2)) ⊗ var 0) ⊖ (var 3 ⊗ (var 4 ⊕ var 5))) ⊗ (var 6 ⊖ var 7)) refl) meets

  over-reach : SideReaches c k l here → IsOverReach c axis k l here
  over-reach h =
      let f = h.on_side in
      let same = subst (λ (t : Point). OnOneSight d t here) f.3 h.same_sight in
      record {
        past = sum-past d axis k l here (cut-somewhere c) positive ahead.level forward f.0 f.1 f.2 same;
        short = sum-short d axis k l here (cut-somewhere c) positive ahead.level forward f.0 f.1 f.2 same;
        reach = reach-of-sum f.0 f.1 f.2 same ((below-beyond c (edge_sum k l f.0 f.1)).0 (subst (λ (t : Point). IsBeyond c t) f.3 h.beyond));
      }

  -- the point of the side over the share, by how far the share is past k and short of l
  module _ (i j : ℕ) (is_i : pos i ≡ short_of axis l (share_point p q n m)) (is_j : pos j ≡ past_of axis k (share_point p q n m)) where
    pub reach-below : below_of c (edge_sum k l i j) ≡ reach_of c axis k l (share_point p q n m)
    reach-below = below-sum c k l i j ∙ (λ t. (is_i t *ℤ below_of c (point_of k)) +ℤ (is_j t *ℤ below_of c (point_of l)))

    pub reach-sight : OnOneSight (toward_of c) (edge_sum k l i j) (share_point p q n m)
    reach-sight = there-sight d axis p q k l n m (cut-somewhere c) positive ahead in_line i j is_i is_j

    pub reach-on-side : IsPointOfEdge k l (edge_sum k l i j)
    reach-on-side = (i, j, some-there d axis p q k l n m (cut-somewhere c) positive ahead in_line i j is_i is_j forward, refl)

  reaches : IsOverReach c axis k l here → SideReaches c k l here
  reaches h =
      let i = natural (short_of axis l here) h.short in
      let j = natural (past_of axis k here) h.past in
      record {
        point = edge_sum k l i.0 j.0;
        on_side = reach-on-side i.0 j.0 i.1 j.1;
        beyond = (below-beyond c (edge_sum k l i.0 j.0)).1 (subst (λ (v : ℤ). pos 0 <ℤ v) (sym (reach-below i.0 j.0 i.1 j.1)) h.reach);
        same_sight = reach-sight i.0 j.0 i.1 j.1;
      }

  -- a side in line with the edge, which goes forward as the edge does
  pub side-reaches : SideReaches c k l (share_point p q n m) ↔ IsOverReach c axis k l (share_point p q n m)
  side-reaches = (over-reach, reaches)

-- where the side meets the plane a border ends
pub not-at-reach : (c : Plane) (axis : Triple) (s : Part) → IsClosed s → All (IsBelow (length s.corners)) s.triangles → (e : Edge s) (n m : ℤ) → pos 0 <ℤ m → IsAhead (toward_of c) axis e.a e.b
    → (f : Face s) (k l : Corner) → IsSideOf f k l → IsInLine (toward_of c) e.a e.b k l → pos 0 <ℤ dot axis (difference k l)
    → pos 0 ≤ℤ past_of axis k (share_point e.a e.b n m) → pos 0 ≤ℤ short_of axis l (share_point e.a e.b n m) → reach_of c axis k l (share_point e.a e.b n m) ≡ pos 0
    → ¬ IsOrdinaryInCut c s (share_point e.a e.b n m)
not-at-reach c axis s closed in_range e n m positive ahead f k l side in_line forward past short none ordinary =
    let i = natural (short_of axis l (share_point e.a e.b n m)) short in
    let j = natural (past_of axis k (share_point e.a e.b n m)) past in
    let q = edge_sum k l i.0 j.0 in
    let here = side-edge s closed in_range f k l side in
    ordinary.off_ends here.edge q
    (subst (λ (x : Corner). IsPointOfEdge x here.edge.b q) (sym here.at_a) (subst (λ (y : Corner). IsPointOfEdge k y q) (sym here.at_b) (reach-on-side c axis e.a e.b k l n m positive ahead in_line forward i.0 j.0 i.1 j.1)))
    (below-on c q (reach-below c axis e.a e.b k l n m positive ahead in_line forward i.0 j.0 i.1 j.1 ∙ none))
    (reach-sight c axis e.a e.b k l n m positive ahead in_line forward i.0 j.0 i.1 j.1)
