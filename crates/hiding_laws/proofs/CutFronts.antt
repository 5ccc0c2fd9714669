-- What a face that is turned to the viewer hides in a cut view, and that where its border begins or ceases to cover an edge there is no ordinary point.
use Rattle.std.proofs.Common.{◌≡◌, inl, inr, ℕ, ◌+◌, ◌<◌, [], ◌∷◌, refl, sym, ap, subst, ◌∙◌, arith}
use Rattle.std.specs.Prelude.{◌↔◌, ℤ, pos, negsuc, ◌+ℤ◌, ◌-ℤ◌, ◌*ℤ◌, ◌<ℤ◌, ◌≤ℤ◌}
use Rattle.std.proofs.lemmas.Int.{ints}
use Rattle.integers.proofs.Ring.{Expr, var, con, ◌⊕◌, ◌⊖◌, ◌⊗◌, ring, by_one, by_two, by_three, less_by}
use Rattle.integers.proofs.Signs.{mul_pos, pos_of_mul, zero_of_mul}
use Rattle.lattice.specs.declared.points.Corner.{Corner}
use Rattle.lattice.specs.Triple.{Triple, dot, cross, det}
use Rattle.lattice.specs.Points.{Point, IsPoint, point_of, scaled, height_of, difference, OnOneSight, IsNearer, DifferAlong}
use Rattle.lattice.specs.Cuts.{Plane, toward_of, plane_height, IsOnPlane}
use Rattle.lattice.proofs.Vectors.{Letters, letters, dots, crosses, dot_somewhere}
use Rattle.lattice.proofs.SightLines.{along_of_sight, sight_of_along}
use Rattle.geometry.specs.Faces.{normal, facing_of, face_sum, share_point, FaceHides, IsPointOfFace}
use Rattle.geometry.specs.Parts.{Part, Face, Edge}
use Rattle.geometry.specs.Cuts.{edge, border, IsSeenOverInCut, IsOrdinaryInCut}
use Rattle.geometry.proofs.BorderSteps.{along_normal}
use Rattle.geometry.proofs.FacePoints.{face_point-turned, edge_point-at_share}
use Rattle.hiding_laws.specs.Values.{value_at, side_of, depth_of, IsBehind, AreCornersOf}
use Rattle.hiding_laws.specs.CutValues.{below_of, under_of, HidesInCut}
use Rattle.lattice.proofs.PointLetters.{corner_letters, ways, offsets, normals}
use Rattle.hiding_laws.proofs.Values.{depth-share}
use Rattle.hiding_laws.proofs.Weights.{natural, sides-sum, weigh_x, weigh_y, weigh_z}
use Rattle.hiding_laws.proofs.Hiding.{hides-front}
use Rattle.hiding_laws.proofs.FrontEnds.{IsRoot}
use Rattle.hiding_laws.proofs.CutPlanes.{square-one, cut-somewhere, below-beyond, below-on, below-share}

-- ---- heights on the line of sight
-- t = q / q.w - p / p.w is n / m times d: times f, the plane's depth times the length of d
climb : (m n f g t hq hp w v : ℤ) → pos 0 <ℤ m → m *ℤ ((hq *ℤ w) -ℤ (hp *ℤ v)) ≡ n *ℤ t → m *ℤ (v *ℤ g) ≡ n *ℤ f → f *ℤ ((hq *ℤ w) -ℤ (hp *ℤ v)) ≡ (v *ℤ g) *ℤ t
climb m n f g t hq hp w v positive along deep = same _ _ (zero_of_mul m _ positive
    (by_two (m *ℤ ((f *ℤ ((hq *ℤ w) -ℤ (hp *ℤ v))) -ℤ ((v *ℤ g) *ℤ t))) (pos 0) (m *ℤ ((hq *ℤ w) -ℤ (hp *ℤ v))) (n *ℤ t) f (m *ℤ (v *ℤ g)) (n *ℤ f) (pos 0 -ℤ t)
    (ring (m ∷ n ∷ f ∷ g ∷ t ∷ hq ∷ hp ∷ w ∷ v ∷ [])
    ((var 0 ⊗ ((var 2 ⊗ rise) ⊖ ((var 8 ⊗ var 3) ⊗ var 4))) ⊖ con (pos 0))
    ((((var 0 ⊗ rise) ⊖ (var 1 ⊗ var 4)) ⊗ var 2) ⊕ (((var 0 ⊗ (var 8 ⊗ var 3)) ⊖ (var 1 ⊗ var 2)) ⊗ (con (pos 0) ⊖ var 4))) refl) along deep))
  where
    rise : Expr
    rise = (var 5 ⊗ var 7) ⊖ (var 6 ⊗ var 8)

    same : (a b : ℤ) → a -ℤ b ≡ pos 0 → a ≡ b
    same a b h = omega (arith, ints)

module _ (c : Plane) (i j k : Corner) (p : Point) (point : IsPoint p) (front : pos 0 <ℤ facing_of (toward_of c) i j k) where
  abbrev d : Triple
  d = toward_of c

  -- the product with what differs along d
  differ-dot : (r : Triple) (q : Point) (a : DifferAlong d q p) → a.m *ℤ ((dot r (scaled q) *ℤ p.w) -ℤ (dot r (scaled p) *ℤ q.w)) ≡ a.n *ℤ dot r d
  differ-dot r q a =
      by_three _ _ _ _ r.x _ _ r.y _ _ r.z
      (ring (r.x ∷ r.y ∷ r.z ∷ q.x ∷ q.y ∷ q.z ∷ q.w ∷ p.x ∷ p.y ∷ p.z ∷ p.w ∷ d.x ∷ d.y ∷ d.z ∷ a.m ∷ a.n ∷ [])
      ((var 14 ⊗ ((dots (letters 0) (letters 3) ⊗ var 10) ⊖ (dots (letters 0) (letters 7) ⊗ var 6))) ⊖ (var 15 ⊗ dots (letters 0) (letters 11)))
      (((one 3 7 11 ⊗ var 0) ⊕ (one 4 8 12 ⊗ var 1)) ⊕ (one 5 9 13 ⊗ var 2)) refl) a.x a.y a.z
    where
      one : ℕ → ℕ → ℕ → Expr
      one x y z = (var 14 ⊗ ((var x ⊗ var 10) ⊖ (var y ⊗ var 6))) ⊖ (var 15 ⊗ var z)

  -- the point of the face over p is as far below the plane as its value says
  under-is : (q : Point) → IsPointOfFace i j k q → OnOneSight d q p → (facing_of d i j k *ℤ p.w) *ℤ below_of c q ≡ q.w *ℤ under_of c i j k p
  under-is q on_face same =
      let a = along_of_sight d q p (dot_somewhere d (cut-somewhere c)) same in
      let n = normal i j k in
      let deep : a.m *ℤ (q.w *ℤ depth_of i j k p) ≡ a.n *ℤ facing_of d i j k =
      deepen n q a (along_normal i j k q on_face) (differ-dot n q a) in
      let up = climb a.m a.n (facing_of d i j k) (depth_of i j k p) (dot d d) (height_of d q) (height_of d p) p.w q.w a.positive (differ-dot d q a) deep in
      level (facing_of d i j k) (depth_of i j k p) (dot d d) (height_of d q) (height_of d p) p.w q.w (plane_height c) (square-one c) up
    where
      deepen : (n : Triple) (q : Point) (a : DifferAlong d q p) → pos 1 *ℤ dot n (scaled q) ≡ dot n (scaled (point_of i)) *ℤ q.w → a.m *ℤ ((dot n (scaled q) *ℤ p.w) -ℤ (dot n (scaled p) *ℤ q.w)) ≡ a.n *ℤ dot n d
          → a.m *ℤ (q.w *ℤ (pos 0 -ℤ dot (record { x = p.x -ℤ p.w *ℤ i.x; y = p.y -ℤ p.w *ℤ i.y; z = p.z -ℤ p.w *ℤ i.z }) n)) ≡ a.n *ℤ dot d n
      deepen n q a on along =
          by_two _ _ _ _ (pos 0 -ℤ (a.m *ℤ p.w)) _ _ (pos 1)
          (ring (n.x ∷ n.y ∷ n.z ∷ q.x ∷ q.y ∷ q.z ∷ q.w ∷ p.x ∷ p.y ∷ p.z ∷ p.w ∷ i.x ∷ i.y ∷ i.z ∷ d.x ∷ d.y ∷ d.z ∷ a.m ∷ a.n ∷ [])
          ((var 17 ⊗ (var 6 ⊗ (con (pos 0) ⊖ dots (record { x = var 7 ⊖ (var 10 ⊗ var 11); y = var 8 ⊖ (var 10 ⊗ var 12); z = var 9 ⊖ (var 10 ⊗ var 13) }) (letters 0)))) ⊖ (var 18 ⊗ dots (letters 14) (letters 0)))
          ((((con (pos 1) ⊗ dots (letters 0) (letters 3)) ⊖ (dots (letters 0) (letters 11) ⊗ var 6)) ⊗ (con (pos 0) ⊖ (var 17 ⊗ var 10)))
          ⊕ (((var 17 ⊗ ((dots (letters 0) (letters 3) ⊗ var 10) ⊖ (dots (letters 0) (letters 7) ⊗ var 6))) ⊖ (var 18 ⊗ dots (letters 0) (letters 14))) ⊗ con (pos 1))) refl) on along

      level : (f g t hq hp w v l : ℤ) → t ≡ pos 1 → f *ℤ ((hq *ℤ w) -ℤ (hp *ℤ v)) ≡ (v *ℤ g) *ℤ t → (f *ℤ w) *ℤ ((l *ℤ v) -ℤ (pos 2 *ℤ hq)) ≡ v *ℤ ((f *ℤ ((l *ℤ w) -ℤ (pos 2 *ℤ hp))) -ℤ (pos 2 *ℤ g))
      level f g t hq hp w v l one up =
          by_two _ _ _ _ (pos 0 -ℤ pos 2) _ _ (pos 0 -ℤ ((pos 2 *ℤ v) *ℤ g))
          (ring (f ∷ g ∷ t ∷ hq ∷ hp ∷ w ∷ v ∷ l ∷ [])
          (((var 0 ⊗ var 5) ⊗ ((var 7 ⊗ var 6) ⊖ (con (pos 2) ⊗ var 3))) ⊖ (var 6 ⊗ ((var 0 ⊗ ((var 7 ⊗ var 5) ⊖ (con (pos 2) ⊗ var 4))) ⊖ (con (pos 2) ⊗ var 1))))
          ((((var 0 ⊗ ((var 3 ⊗ var 5) ⊖ (var 4 ⊗ var 6))) ⊖ ((var 6 ⊗ var 1) ⊗ var 2)) ⊗ (con (pos 0) ⊖ con (pos 2))) ⊕ ((var 2 ⊖ con (pos 1)) ⊗ (con (pos 0) ⊖ ((con (pos 2) ⊗ var 6) ⊗ var 1)))) refl)
          up one

  -- ---- the point of the face over p, by the values of its three sides
  module _ (x y z : ℕ) (jk : side_of d j k p ≡ pos x) (ki : side_of d k i p ≡ pos y) (ij : side_of d i j p ≡ pos z) where
    abbrev there : Point
    there = face_sum i j k x y z

    there-w : pos (x + y + z) ≡ p.w *ℤ facing_of d i j k
    there-w = total _ _ _ jk ki ij ∙ sides-sum d i j k p
      where
        total : (a b c : ℤ) → a ≡ pos x → b ≡ pos y → c ≡ pos z → pos (x + y + z) ≡ (a +ℤ b) +ℤ c
        total a b c ha hb hc = omega (arith, ints)

    there-some : 0 < x + y + z
    there-some = counted (x + y + z) _ there-w (mul_pos p.w (facing_of d i j k) point front)
      where
        counted : (a : ℕ) (v : ℤ) → pos a ≡ v → pos 0 <ℤ v → 0 < a
        counted a v e h = omega (arith, ints)

    there-along : DifferAlong d there p
    there-along =
        let by = λ (f : Corner → ℤ). sym (λ t. ((jk t *ℤ f i) +ℤ (ki t *ℤ f j)) +ℤ (ij t *ℤ f k)) in
        record {
          n = p.w *ℤ depth_of i j k p;
          m = pos 1;
          positive = omega (arith, ints);
          x = away _ (facing_of d i j k) p.x p.w _ (depth_of i j k p) d.x (by (λ a. a.x) ∙ weigh_x d i j k p) there-w;
          y = away _ (facing_of d i j k) p.y p.w _ (depth_of i j k p) d.y (by (λ a. a.y) ∙ weigh_y d i j k p) there-w;
          z = away _ (facing_of d i j k) p.z p.w _ (depth_of i j k p) d.z (by (λ a. a.z) ∙ weigh_z d i j k p) there-w;
        }
      where
        away : (s f p w t g r : ℤ) → s ≡ (f *ℤ p) +ℤ (g *ℤ r) → t ≡ w *ℤ f → pos 1 *ℤ (s *ℤ w -ℤ p *ℤ t) ≡ (w *ℤ g) *ℤ r
        away s f p w t g r weigh sum =
            by_two _ _ _ _ w _ _ (pos 0 -ℤ p)
            (ring (s ∷ f ∷ p ∷ w ∷ t ∷ g ∷ r ∷ [])
            ((con (pos 1) ⊗ ((var 0 ⊗ var 3) ⊖ (var 2 ⊗ var 4))) ⊖ ((var 3 ⊗ var 5) ⊗ var 6))
            (((var 0 ⊖ ((var 1 ⊗ var 2) ⊕ (var 5 ⊗ var 6))) ⊗ var 3) ⊕ ((var 4 ⊖ (var 3 ⊗ var 1)) ⊗ (con (pos 0) ⊖ var 2))) refl) weigh sum

    there-sight : OnOneSight d there p
    there-sight = sight_of_along d there p there-along

    there-on : IsPointOfFace i j k there
    there-on = (x, y, z, there-some, refl)

    there-nearer : pos 0 <ℤ depth_of i j k p → IsNearer d there p
    unfolding there-along
    there-nearer deep =
        less_by _ _ _ (one _ _ (differ-dot d there there-along))
        (mul_pos _ _ (mul_pos _ _ point deep) (subst (λ (v : ℤ). pos 0 <ℤ v) (sym (square-one c)) (omega (arith, ints))))
      where
        one : (a b : ℤ) → pos 1 *ℤ a ≡ b → a ≡ b
        one a b h = omega (arith, ints)

    -- below the plane exactly so far
    there-below : below_of c there ≡ under_of c i j k p
    there-below = same (under_of c i j k p) (below_of c there) (mul_pos (facing_of d i j k) p.w front point) (under-is there there-on there-sight ∙ (λ t. turn t *ℤ under_of c i j k p))
      where
        swap : (a b : ℤ) → a *ℤ b ≡ b *ℤ a
        swap a b = omega (arith, ints)

        turn : pos (x + y + z) ≡ facing_of d i j k *ℤ p.w
        turn = there-w ∙ swap p.w (facing_of d i j k)

        same : {f : ℤ} (u b : ℤ) → pos 0 <ℤ f → f *ℤ b ≡ f *ℤ u → b ≡ u
        same {f} u b positive h = equal b u (zero_of_mul f (b -ℤ u) positive
            (by_one _ _ _ _ (pos 1) (ring (f ∷ b ∷ u ∷ []) ((var 0 ⊗ (var 1 ⊖ var 2)) ⊖ con (pos 0)) (((var 0 ⊗ var 1) ⊖ (var 0 ⊗ var 2)) ⊗ con (pos 1)) refl) h))
          where
            equal : (a b : ℤ) → a -ℤ b ≡ pos 0 → a ≡ b
            equal a b h = omega (arith, ints)

  hides-of : IsBehind d i j k p → pos 0 <ℤ under_of c i j k p → HidesInCut c i j k p
  hides-of h under =
      let x = natural (side_of d j k p) h.bc in
      let y = natural (side_of d k i p) h.ca in
      let z = natural (side_of d i j p) h.ab in
      record {
        point = there x.0 y.0 z.0 x.1 y.1 z.1;
        on_face = there-on x.0 y.0 z.0 x.1 y.1 z.1;
        beyond = (below-beyond c _).1 (subst (λ (v : ℤ). pos 0 <ℤ v) (sym (there-below x.0 y.0 z.0 x.1 y.1 z.1)) under);
        same_sight = there-sight x.0 y.0 z.0 x.1 y.1 z.1;
        nearer = there-nearer x.0 y.0 z.0 x.1 y.1 z.1 h.depth;
      }

  under-of : HidesInCut c i j k p → pos 0 <ℤ under_of c i j k p
  under-of h =
      let f = h.on_face in
      let w : pos 0 <ℤ h.point.w = divisor f.0 f.1 f.2 h.point.w (ap (λ (q : Point). q.w) f.4) f.3 in
      pos_of_mul h.point.w (under_of c i j k p) w
      (subst (λ (v : ℤ). pos 0 <ℤ v) (under-is h.point f h.same_sight) (mul_pos _ _ (mul_pos (facing_of d i j k) p.w front point) ((below-beyond c h.point).0 h.beyond)))
    where
      divisor : (a b e : ℕ) (w : ℤ) → w ≡ pos (a + b + e) → 0 < a + b + e → pos 0 <ℤ w
      divisor a b e w is some = omega (arith, ints)

-- a face that is turned to the viewer hides what is seen within it and behind it, where its point is beyond the plane
pub hides-in-cut : (c : Plane) (i j k : Corner) (p : Point) → IsPoint p → pos 0 <ℤ facing_of (toward_of c) i j k
    → HidesInCut c i j k p ↔ (FaceHides (toward_of c) i j k p × (pos 0 <ℤ under_of c i j k p))
hides-in-cut c i j k p point front = (
  (λ h. (record { point = h.point; on_face = h.on_face; same_sight = h.same_sight; nearer = h.nearer }, under-of c i j k p point front h)),
  (λ (hides, under). hides-of c i j k p point front ((hides-front (toward_of c) i j k p point front).0 hides) under),
)

-- its value is linear along an edge
pub under-share : (c : Plane) (i j k a b : Corner) (n m : ℤ) → under_of c i j k (share_point a b n m) ≡ value_at (under_of c i j k (point_of a)) (under_of c i j k (point_of b)) n m
under-share c i j k a b n m =
    (λ t. (facing_of (toward_of c) i j k *ℤ below-share c a b n m t) -ℤ (pos 2 *ℤ depth-share (toward_of c) a b n m i j k t))
    ∙ ring (facing_of (toward_of c) i j k ∷ below_of c (point_of a) ∷ below_of c (point_of b) ∷ depth_of i j k (point_of a) ∷ depth_of i j k (point_of b) ∷ n ∷ m ∷ [])
    ((var 0 ⊗ evenly (var 1) (var 2)) ⊖ (con (pos 2) ⊗ evenly (var 3) (var 4)))
    (evenly ((var 0 ⊗ var 1) ⊖ (con (pos 2) ⊗ var 3)) ((var 0 ⊗ var 2) ⊖ (con (pos 2) ⊗ var 4))) refl
  where
    evenly : Expr → Expr → Expr
    evenly x y = ((var 6 ⊖ var 5) ⊗ x) ⊕ (var 5 ⊗ y)

-- ---- the face's border
-- along an edge that is seen parallel to the border the value stays the same
border-slope : (c : Plane) (i j k a b : Corner) → det (toward_of c) (difference a b) (cross (toward_of c) (normal i j k)) ≡ pos 0 → under_of c i j k (point_of a) ≡ under_of c i j k (point_of b)
border-slope c i j k a b parallel = go (toward_of c) (normal i j k) (plane_height c) (square-one c) parallel
  where
    here : Triple → Triple → ℤ → Corner → ℤ
    here d n l q = (dot d n *ℤ ((l *ℤ pos 1) -ℤ (pos 2 *ℤ dot d (scaled (point_of q))))) -ℤ (pos 2 *ℤ (pos 0 -ℤ dot (record { x = q.x -ℤ pos 1 *ℤ i.x; y = q.y -ℤ pos 1 *ℤ i.y; z = q.z -ℤ pos 1 *ℤ i.z }) n))

    at : ℕ → Expr
    at q = (dots (letters 0) (letters 3) ⊗ ((var 15 ⊗ con (pos 1)) ⊖ (con (pos 2) ⊗ dots (letters 0) (letters q)))) ⊖ (con (pos 2) ⊗ (con (pos 0) ⊖ dots (offsets (letters 12) (corner_letters (letters q))) (letters 3)))

    way : Letters
    way = ways (letters 6) (letters 9)

    go : (d n : Triple) (l : ℤ) → dot d d ≡ pos 1 → det d (difference a b) (cross d n) ≡ pos 0 → here d n l a ≡ here d n l b
    go d n l one parallel = by_two _ _ _ _ (pos 0 -ℤ pos 2) _ _ (pos 2 *ℤ dot n (difference a b))
        (ring (d.x ∷ d.y ∷ d.z ∷ n.x ∷ n.y ∷ n.z ∷ a.x ∷ a.y ∷ a.z ∷ b.x ∷ b.y ∷ b.z ∷ i.x ∷ i.y ∷ i.z ∷ l ∷ [])
        (at 6 ⊖ at 9)
        (((dots (letters 0) (crosses way (crosses (letters 0) (letters 3))) ⊖ con (pos 0)) ⊗ (con (pos 0) ⊖ con (pos 2)))
        ⊕ ((dots (letters 0) (letters 0) ⊖ con (pos 1)) ⊗ (con (pos 2) ⊗ dots (letters 3) way))) refl) parallel one

-- the other order of the corners turns the border round
turned-border : (d e : Triple) (i j k : Corner) → det d e (cross d (normal i k j)) ≡ pos 0 → det d e (cross d (normal i j k)) ≡ pos 0
turned-border d e i j k h =
    by_one _ _ _ _ (negsuc 0)
    (ring (d.x ∷ d.y ∷ d.z ∷ e.x ∷ e.y ∷ e.z ∷ i.x ∷ i.y ∷ i.z ∷ j.x ∷ j.y ∷ j.z ∷ k.x ∷ k.y ∷ k.z ∷ [])
    (dots (letters 0) (crosses (letters 3) (crosses (letters 0) (normals (letters 6) (letters 9) (letters 12)))) ⊖ con (pos 0))
    ((dots (letters 0) (crosses (letters 3) (crosses (letters 0) (normals (letters 6) (letters 12) (letters 9)))) ⊖ con (pos 0)) ⊗ con (negsuc 0)) refl) h

module _ (c : Plane) (s : Part) (e : Edge s) (n m : ℤ) (positive : pos 0 <ℤ m) (least : pos 0 ≤ℤ n) (most : n ≤ℤ m)
    (f : Face s) (i j k : Corner) (corners : AreCornersOf f i j k) (front : pos 0 <ℤ facing_of (toward_of c) i j k) where
  abbrev here : Point
  here = share_point e.a e.b n m

  -- an ordinary point on the border's line of sight: the edge is seen parallel to it
  border-parallel : IsOrdinaryInCut c s here → (q : Point) → IsPointOfFace i j k q → IsOnPlane c q → OnOneSight (toward_of c) q here
      → det (toward_of c) (difference e.a e.b) (cross (toward_of c) (normal i j k)) ≡ pos 0
  border-parallel ordinary q on_face on same = by corners
    where
      under : IsSeenOverInCut c (edge e) here
      under = (here, edge_point-at_share e.a e.b n m positive least most, record { across = refl; upward = refl })

      by : AreCornersOf f i j k → det (toward_of c) (difference e.a e.b) (cross (toward_of c) (normal i j k)) ≡ pos 0
      by (inl (x, y, z)) =
          subst (λ (t : Triple). det (toward_of c) (difference e.a e.b) (cross (toward_of c) t) ≡ pos 0) (λ t. normal (x t) (y t) (z t))
          (ordinary.off_crossings (edge e) (border f) under (q, (by_corners on_face, on), same))
        where
          by_corners : IsPointOfFace i j k q → IsPointOfFace f.a f.b f.c q
          by_corners (u, v, w, some, is) = (u, v, w, some, is ∙ sym (λ t. face_sum (x t) (y t) (z t) u v w))
      by (inr (x, y, z)) =
          turned-border (toward_of c) (difference e.a e.b) i j k
          (subst (λ (t : Triple). det (toward_of c) (difference e.a e.b) (cross (toward_of c) t) ≡ pos 0) (λ t. normal (x t) (y t) (z t))
          (ordinary.off_crossings (edge e) (border f) under (q, (by_corners (face_point-turned i j k q on_face), on), same)))
        where
          by_corners : IsPointOfFace i k j q → IsPointOfFace f.a f.b f.c q
          by_corners (u, v, w, some, is) = (u, v, w, some, is ∙ sym (λ t. face_sum (x t) (y t) (z t) u v w))

  -- where the value changes and is 0 within the face's three sides there is no ordinary point
  pub not-at-border : pos 0 ≤ℤ side_of (toward_of c) i j (share_point e.a e.b n m) → pos 0 ≤ℤ side_of (toward_of c) j k (share_point e.a e.b n m) → pos 0 ≤ℤ side_of (toward_of c) k i (share_point e.a e.b n m)
      → IsRoot (under_of c i j k (point_of e.a)) (under_of c i j k (point_of e.b)) (under_of c i j k (share_point e.a e.b n m)) → ¬ IsOrdinaryInCut c s (share_point e.a e.b n m)
  not-at-border ij jk ki (changes, zero) ordinary =
      let x = natural (side_of (toward_of c) j k here) jk in
      let y = natural (side_of (toward_of c) k i here) ki in
      let z = natural (side_of (toward_of c) i j here) ij in
      changes (border-slope c i j k e.a e.b (border-parallel ordinary (face_sum i j k x.0 y.0 z.0)
      (there-on c i j k here positive front x.0 y.0 z.0 x.1 y.1 z.1)
      (below-on c (face_sum i j k x.0 y.0 z.0) (there-below c i j k here positive front x.0 y.0 z.0 x.1 y.1 z.1 ∙ zero))
      (there-sight c i j k here positive front x.0 y.0 z.0 x.1 y.1 z.1)))
