-- An edge and a triangle whose bounds tell that they meet nowhere, or in a common corner alone.
use Rattle.std.proofs.Common.{◌≡◌, ℕ, ◌<◌, ◌⊎◌, inl, inr, List, Option, [], ◌∷◌, slice_get, Some, refl, sym, subst, ap, ◌∙◌, arith}
use Rattle.std.specs.Prelude.{ℤ, pos, negsuc, ◌+ℤ◌, ◌-ℤ◌, ◌*ℤ◌, ◌≤ℤ◌, ◌<ℤ◌}
use Rattle.std.specs.Int.{int_min, int_max}
use Rattle.std.proofs.lemmas.Int.{ints, clamps}
use Rattle.integers.proofs.Absolutes.{natural_not_negative, natural_positive}
use Rattle.integers.proofs.Ring.{var, con, ◌⊕◌, ◌⊖◌, ◌⊗◌, ring, by_two}
use Rattle.integers.proofs.Signs.{mul_nonneg, mul_pos}
use Rattle.lattice.specs.declared.points.Corner.{Corner}
use Rattle.lattice.specs.Points.{Point, point_of, AreOnePoint}
use Rattle.geometry.specs.Faces.{edge_sum, face_sum}
use Rattle.geometry.specs.Parts.{Part, Face, IsCornerOf}
use Rattle.geometry.proofs.Listed.{same_element}
use Rattle.meeting.specs.declared.range.Range.{Range}
use Rattle.meeting.specs.Ranges.{IsEdgeRange, IsTriangleRange}
use Rattle.meeting.proofs.Beyond.{off-start}
use Rattle.meeting.proofs.TouchingBoxes.{above, least, below, most, edge_low, edge_high, face_low, face_high, difference}
use Rattle.solid_mesh.specs.Meetings.{Side, MeetApart}
use Rattle.solid_mesh.specs.inner.Bounds.{AreEdgeBounds, AreTriangleBounds, RangesEnd, BoundsEnd, PassesBy, PassesRound, IsInBounds, IsWithin, AreWithin}
use Rattle.solid_mesh.specs.inner.Pairs.{MeetBeyond}
use Rattle.solid_mesh.specs.inner.Searches.{AtHalf, IsReachOf, IsEnd, IsBeside, IsApart}
use Rattle.solid_mesh.specs.inner.Trees.{IsRim, IsPlaced}
use Rattle.solid_mesh.specs.declared.bounds.Bounds.{Bounds}
use Rattle.solid_mesh.specs.declared.placed.Placed.{Placed}
use Rattle.solid_mesh.specs.declared.search.Reach.{Reach}
use Rattle.solid_mesh.proofs.BoundLemmas.{in_wider, corners_in}
use Rattle.solid_mesh.proofs.PassingLemmas.{passed, passed_all, passed_round, first_beside, second_beside, third_beside}
use Rattle.solid_mesh.proofs.Meets.{touch_of_apart, apart_from, apart-first, apart-second, apart-both}

-- ---- equal sums with weights, along one of the six
module _ (i j k l m : ℕ) (a b c p q : ℤ) (some : 0 < j) (weights : pos i +ℤ pos j ≡ (pos k +ℤ pos l) +ℤ pos m) (same : (pos i *ℤ p) +ℤ (pos j *ℤ q) ≡ ((pos k *ℤ a) +ℤ (pos l *ℤ b)) +ℤ (pos m *ℤ c)) where
  -- a corner of the edge, and with it the triangle, are not on one side of the other; s is 1 where the other is below, and -1 where it is above
  not-one-sided : (s : ℤ) → pos 0 ≤ℤ (s *ℤ (a -ℤ p)) → pos 0 ≤ℤ (s *ℤ (b -ℤ p)) → pos 0 ≤ℤ (s *ℤ (c -ℤ p)) → pos 0 <ℤ (s *ℤ (p -ℤ q)) → ⊥
  not-one-sided s at_a at_b at_c at_q =
      none _ _ _ _ (mul_pos (pos j) _ (natural_positive j some) at_q)
      (mul_nonneg (pos k) _ (natural_not_negative k) at_a) (mul_nonneg (pos l) _ (natural_not_negative l) at_b) (mul_nonneg (pos m) _ (natural_not_negative m) at_c) balance
    where
      none : (u x y z : ℤ) → pos 0 <ℤ u → pos 0 ≤ℤ x → pos 0 ≤ℤ y → pos 0 ≤ℤ z → ((u +ℤ x) +ℤ y) +ℤ z ≡ pos 0 → ⊥
      none u x y z hu hx hy hz e = omega (arith, ints)

      balance : (((pos j *ℤ (s *ℤ (p -ℤ q))) +ℤ (pos k *ℤ (s *ℤ (a -ℤ p)))) +ℤ (pos l *ℤ (s *ℤ (b -ℤ p)))) +ℤ (pos m *ℤ (s *ℤ (c -ℤ p))) ≡ pos 0
      balance =
          by_two _ _ ((pos i *ℤ p) +ℤ (pos j *ℤ q)) (((pos k *ℤ a) +ℤ (pos l *ℤ b)) +ℤ (pos m *ℤ c)) (pos 0 -ℤ s) (pos i +ℤ pos j) ((pos k +ℤ pos l) +ℤ pos m) (s *ℤ p)
          (ring (pos i ∷ pos j ∷ pos k ∷ pos l ∷ pos m ∷ a ∷ b ∷ c ∷ p ∷ q ∷ s ∷ [])
          (((((var 1 ⊗ (var 10 ⊗ (var 8 ⊖ var 9))) ⊕ (var 2 ⊗ (var 10 ⊗ (var 5 ⊖ var 8)))) ⊕ (var 3 ⊗ (var 10 ⊗ (var 6 ⊖ var 8)))) ⊕ (var 4 ⊗ (var 10 ⊗ (var 7 ⊖ var 8)))) ⊖ con (pos 0))
          (((((var 0 ⊗ var 8) ⊕ (var 1 ⊗ var 9)) ⊖ (((var 2 ⊗ var 5) ⊕ (var 3 ⊗ var 6)) ⊕ (var 4 ⊗ var 7))) ⊗ (con (pos 0) ⊖ var 10))
          ⊕ (((var 0 ⊕ var 1) ⊖ ((var 2 ⊕ var 3) ⊕ var 4)) ⊗ (var 10 ⊗ var 8))) refl) same weights

  module _ (t e s : Range) (of_face : IsTriangleRange a b c t) (of_edge : IsEdgeRange p q e) (within : IsWithin t s) (at : (p ≡ a) ⊎ (p ≡ b) ⊎ (p ≡ c)) where
    through : (x y z : ℤ) → x ≤ℤ y → y ≤ℤ z → x ≤ℤ z
    through x y z h g = omega (arith, ints)

    first : (n x : ℤ) → n ≡ x → x ≤ℤ a → x ≤ℤ b → x ≤ℤ c → (n ≤ℤ a) × (n ≤ℤ b) × (n ≤ℤ c) × (n ≤ℤ p)
    first n x is h_a h_b h_c = (
      subst (λ (z : ℤ). z ≤ℤ a) (sym is) h_a,
      subst (λ (z : ℤ). z ≤ℤ b) (sym is) h_b,
      subst (λ (z : ℤ). z ≤ℤ c) (sym is) h_c,
      elim at [
        | inl f ↦ omega (arith, ints)
        | inr g ↦ elim g [ inl f ↦ omega (arith, ints) | inr f ↦ omega (arith, ints) ]
      ],
    )

    last : (n x : ℤ) → n ≡ x → a ≤ℤ x → b ≤ℤ x → c ≤ℤ x → (a ≤ℤ n) × (b ≤ℤ n) × (c ≤ℤ n) × (p ≤ℤ n)
    last n x is h_a h_b h_c = (
      subst (λ (z : ℤ). a ≤ℤ z) (sym is) h_a,
      subst (λ (z : ℤ). b ≤ℤ z) (sym is) h_b,
      subst (λ (z : ℤ). c ≤ℤ z) (sym is) h_c,
      elim at [
        | inl f ↦ omega (arith, ints)
        | inr g ↦ elim g [ inl f ↦ omega (arith, ints) | inr f ↦ omega (arith, ints) ]
      ],
    )

    other_below : (n : ℤ) → int_min p q <ℤ int_max p q → int_max p q ≤ℤ n → n ≤ℤ p → q <ℤ p
    other_below n h g f = omega (arith, ints, clamps)

    other_above : (n : ℤ) → int_min p q <ℤ int_max p q → n ≤ℤ int_min p q → p ≤ℤ n → p <ℤ q
    other_above n h g f = omega (arith, ints, clamps)

    more : e.from <ℤ e.to → int_min p q <ℤ int_max p q
    more h = subst (λ (z : ℤ). z <ℤ int_max p q) of_edge.from (subst (λ (z : ℤ). e.from <ℤ z) of_edge.to h)

    pub not-in-corner-alone : RangesEnd e s → ⊥
    not-in-corner-alone h = by h.end
      where
        by : (e.to ≤ℤ s.from) ⊎ (s.to ≤ℤ e.from) → ⊥
        by (inl end) =
            let (low_a, low_b, low_c) = face_low a b c in
            let (at_a, at_b, at_c, at_p) = first t.from _ of_face.from low_a low_b low_c in
            let over : int_max p q ≤ℤ t.from = subst (λ (z : ℤ). z ≤ℤ t.from) of_edge.to (through _ _ _ end within.from) in
            let p_over : p ≤ℤ t.from = through _ _ _ ((edge_high p q).0) over in
            not-one-sided (pos 1) (least a p (through _ _ _ p_over at_a)) (least b p (through _ _ _ p_over at_b)) (least c p (through _ _ _ p_over at_c))
            (above p q (other_below t.from (more h.more) over at_p))
        by (inr end) =
            let (high_a, high_b, high_c) = face_high a b c in
            let (at_a, at_b, at_c, at_p) = last t.to _ of_face.to high_a high_b high_c in
            let under : t.to ≤ℤ int_min p q = subst (λ (z : ℤ). t.to ≤ℤ z) of_edge.from (through _ _ _ within.to end) in
            let p_under : t.to ≤ℤ p = through _ _ _ under ((edge_low p q).0) in
            not-one-sided (negsuc 0) (most a p (through _ _ _ at_a p_under)) (most b p (through _ _ _ at_b p_under)) (most c p (through _ _ _ at_c p_under))
            (below p q (other_above t.to (more h.more) under at_p))

-- ---- an edge from a corner of a triangle
module _ (a b c p q : Corner) (t e s : Bounds) (of_face : AreTriangleBounds a b c t) (of_edge : AreEdgeBounds p q e) (within : AreWithin t s) (place : (p ≡ a) ⊎ (p ≡ b) ⊎ (p ≡ c)) where
  at_corner : (f : Corner → ℤ) → (f p ≡ f a) ⊎ (f p ≡ f b) ⊎ (f p ≡ f c)
  at_corner f = elim place [
    | inl h ↦ inl (ap f h)
    | inr g ↦ elim g [ inl h ↦ inr (inl (ap f h)) | inr h ↦ inr (inr (ap f h)) ]
  ]

  pub not_beyond : BoundsEnd e s → MeetBeyond a b c p q → ⊥
  not_beyond ends h =
      let (i, j, some, is) = h.on_edge in
      let (k, l, m, some_face, f) = h.on_face in
      let same : edge_sum p q i j ≡ face_sum a b c k l m = sym is ∙ f in
      let weights = ap (λ (n : Point). n.w) same in
      let x = ap (λ (n : Point). n.x) same in
      let y = ap (λ (n : Point). n.y) same in
      let z = ap (λ (n : Point). n.z) same in
      let beyond : 0 < j = off-start p q i j (subst (λ (n : Point). ¬ AreOnePoint (point_of p) n) is h.off) in
      elim ends [
        | inl r ↦ not-in-corner-alone i j k l m a.x b.x c.x p.x q.x beyond weights x t.x e.x s.x of_face.x of_edge.x within.x (at_corner (λ n. n.x)) r
        | inr g ↦ elim g [
          | inl r ↦ not-in-corner-alone i j k l m a.y b.y c.y p.y q.y beyond weights y t.y e.y s.y of_face.y of_edge.y within.y (at_corner (λ n. n.y)) r
          | inr g ↦ elim g [
            | inl r ↦ not-in-corner-alone i j k l m a.z b.z c.z p.z q.z beyond weights z t.z e.z s.z of_face.z of_edge.z within.z (at_corner (λ n. n.z)) r
            | inr g ↦ elim g [
              | inl r ↦
                  not-in-corner-alone i j k l m _ _ _ _ _ beyond weights (difference i j k l m a.x b.x c.x p.x q.x a.y b.y c.y p.y q.y x y)
                  t.xy e.xy s.xy of_face.xy of_edge.xy within.xy (at_corner (λ n. n.x -ℤ n.y)) r
              | inr g ↦ elim g [
                | inl r ↦
                    not-in-corner-alone i j k l m _ _ _ _ _ beyond weights (difference i j k l m a.y b.y c.y p.y q.y a.z b.z c.z p.z q.z y z)
                    t.yz e.yz s.yz of_face.yz of_edge.yz within.yz (at_corner (λ n. n.y -ℤ n.z)) r
                | inr r ↦
                    not-in-corner-alone i j k l m _ _ _ _ _ beyond weights (difference i j k l m a.z b.z c.z p.z q.z a.x b.x c.x p.x q.x z x)
                    t.zx e.zx s.zx of_face.zx of_edge.zx within.zx (at_corner (λ n. n.z -ℤ n.x)) r
              ]
            ]
          ]
        ]
      ]

-- ---- the edge the other way
turned : {p q : ℤ} {r : Range} → IsEdgeRange p q r → IsEdgeRange q p r
turned {p} {q} h = record { from = h.from ∙ least_turned p q; to = h.to ∙ greatest_turned p q }
  where
    least_turned : (p q : ℤ) → int_min p q ≡ int_min q p
    least_turned p q = omega (arith, ints, clamps)

    greatest_turned : (p q : ℤ) → int_max p q ≡ int_max q p
    greatest_turned p q = omega (arith, ints, clamps)

bounds_turned : (p q : Corner) (r : Bounds) → AreEdgeBounds p q r → AreEdgeBounds q p r
bounds_turned p q r h = record { x = turned h.x; y = turned h.y; z = turned h.z; xy = turned h.xy; yz = turned h.yz; zx = turned h.zx }

-- ---- an edge and a triangle by their numbers
module _ (s : Part) (halves : List ℕ) (edge : ℕ) (reach : Reach) (of_edge : IsReachOf s halves edge reach) (x : Placed) (of_triangle : IsPlaced s x) (around : Bounds) (within : AreWithin x.bounds around) where
  abbrev f : Face s
  f = of_triangle.face

  abbrev e : Side s of_edge.half
  e = of_edge.side

  place_of : (n : ℕ) (p : Corner) → slice_get s.corners n ≡ Some p → IsCornerOf f.tri n → (p ≡ f.a) ⊎ (p ≡ f.b) ⊎ (p ≡ f.c)
  place_of n p at h = elim h [
    | inl is ↦ inl (same_element s.corners n f.tri.a p f.a (sym is) at f.at_a)
    | inr g ↦ elim g [
      | inl is ↦ inr (inl (same_element s.corners n f.tri.b p f.b (sym is) at f.at_b))
      | inr is ↦ inr (inr (same_element s.corners n f.tri.c p f.c (sym is) at f.at_c))
    ]
  ]

  -- where the bounds meet no farther than in an end of the edge's, and a corner of the edge is the triangle's, they don't meet apart
  apart_in_corner : IsEnd reach x.corner → BoundsEnd reach.bounds around → AtHalf (MeetApart s) halves (edge, x.tri) → ⊥
  apart_in_corner end ends (half, at, meets) = by end
    where
      h : MeetApart s of_edge.half x.tri
      h = subst (λ (k : ℕ). MeetApart s k x.tri) (same_element halves edge edge half of_edge.half refl at of_edge.listed) meets

      by : IsEnd reach x.corner → ⊥
      by (inl is) =
          let has : IsCornerOf f.tri e.m = subst (IsCornerOf f.tri) (sym is ∙ of_edge.start) of_triangle.has in
          not_beyond f.a f.b f.c e.p e.q x.bounds reach.bounds around of_triangle.of_face of_edge.of_side within (place_of e.m e.p e.at_m has) ends
          ((apart-first s of_edge.half x.tri e f of_triangle.numbered has (λ other. apart-both s of_edge.half x.tri e f of_triangle.numbered has other h)).1 h)
      by (inr is) =
          let has : IsCornerOf f.tri e.n = subst (IsCornerOf f.tri) (sym is ∙ of_edge.end) of_triangle.has in
          not_beyond f.a f.b f.c e.q e.p x.bounds reach.bounds around of_triangle.of_face (bounds_turned e.p e.q reach.bounds of_edge.of_side) within (place_of e.n e.q e.at_n has) ends
          ((apart-second s of_edge.half x.tri e f of_triangle.numbered (λ other. apart-both s of_edge.half x.tri e f of_triangle.numbered other has h) has).1 h)

  -- the same where the edge passes by bounds of the other corners
  apart_beside : IsEnd reach x.corner → (rim : Bounds) → AreWithin x.rim rim → PassesBy reach.p reach.q rim → AtHalf (MeetApart s) halves (edge, x.tri) → ⊥
  apart_beside end rim in_rim passes (half, at, meets) = by end
    where
      h : MeetApart s of_edge.half x.tri
      h = subst (λ (k : ℕ). MeetApart s k x.tri) (same_element halves edge edge half of_edge.half refl at of_edge.listed) meets

      line : PassesBy e.p e.q rim
      line = subst (λ (k : Corner). PassesBy e.p k rim) of_edge.at_end (subst (λ (k : Corner). PassesBy k reach.q rim) of_edge.at_start passes)

      -- a corner is at the common one, or within the rim
      in_either : (n i : ℕ) (p k : Corner) → slice_get s.corners n ≡ Some p → slice_get s.corners i ≡ Some k → x.corner ≡ n → (i ≡ x.corner) ⊎ IsInBounds k x.rim → (k ≡ p) ⊎ IsInBounds k rim
      in_either n i p k at there is (inl same) = inl (same_element s.corners i n k p (same ∙ is) there at)
      in_either n i p k at there is (inr within) = inr (in_wider k x.rim rim in_rim within)

      by_corner : (n : ℕ) (p : Corner) → slice_get s.corners n ≡ Some p → x.corner ≡ n → (p ≡ e.p) ⊎ (p ≡ e.q) → (e.m ≡ n) ⊎ (e.n ≡ n) → ⊥
      by_corner n p at is end here =
          apart_from s of_edge.half x.tri e f of_triangle.numbered h n p at here (subst (IsCornerOf f.tri) is of_triangle.has)
          (passed f.a f.b f.c e.p e.q p rim end
          (in_either n f.tri.a p f.a at f.at_a is (first_beside f.tri x.corner f.a f.b f.c x.rim of_triangle.rim)) (in_either n f.tri.b p f.b at f.at_b is (second_beside f.tri x.corner f.a f.b f.c x.rim of_triangle.rim))
          (in_either n f.tri.c p f.c at f.at_c is (third_beside f.tri x.corner f.a f.b f.c x.rim of_triangle.rim))
          (touch_of_apart s of_edge.half x.tri e f of_triangle.numbered h) line)

      by : IsEnd reach x.corner → ⊥
      by (inl is) = by_corner e.m e.p e.at_m (sym is ∙ of_edge.start) (inl refl) (inl refl)
      by (inr is) = by_corner e.n e.q e.at_n (sym is ∙ of_edge.end) (inr refl) (inr refl)

  here : AtHalf (MeetApart s) halves (edge, x.tri) → MeetApart s of_edge.half x.tri
  here (half, at, meets) = subst (λ (k : ℕ). MeetApart s k x.tri) (same_element halves edge edge half of_edge.half refl at of_edge.listed) meets

  -- where the edge passes by all of them
  apart_all : PassesBy reach.p reach.q around → AtHalf (MeetApart s) halves (edge, x.tri) → ⊥
  apart_all passes meets =
      let (in_a, in_b, in_c) = corners_in f.a f.b f.c x.bounds of_triangle.of_face in
      passed_all f.a f.b f.c e.p e.q around (in_wider f.a x.bounds around within in_a) (in_wider f.b x.bounds around within in_b) (in_wider f.c x.bounds around within in_c)
      (subst (λ (k : Corner). PassesBy e.p k around) of_edge.at_end (subst (λ (k : Corner). PassesBy k reach.q around) of_edge.at_start passes))
      (touch_of_apart s of_edge.half x.tri e f of_triangle.numbered (here meets))

  -- where it passes round the common corner and bounds of the others
  apart_round : (rim : Bounds) → AreWithin x.rim rim → PassesRound x.at reach.p reach.q rim → AtHalf (MeetApart s) halves (edge, x.tri) → ⊥
  apart_round rim in_rim passes meets =
      passed_round f.tri x.corner f.a f.b f.c e.p e.q x.at rim
      (λ is. same_element s.corners f.tri.a x.corner f.a x.at is f.at_a of_triangle.at) (λ is. same_element s.corners f.tri.b x.corner f.b x.at is f.at_b of_triangle.at)
      (λ is. same_element s.corners f.tri.c x.corner f.c x.at is f.at_c of_triangle.at) (wider of_triangle.rim)
      (subst (λ (k : Corner). PassesRound x.at e.p k rim) of_edge.at_end (subst (λ (k : Corner). PassesRound x.at k reach.q rim) of_edge.at_start passes))
      (touch_of_apart s of_edge.half x.tri e f of_triangle.numbered (here meets))
    where
      wider : IsRim f.tri x.corner f.a f.b f.c x.rim → IsRim f.tri x.corner f.a f.b f.c rim
      wider (inl (is, b, c)) = inl (is, in_wider f.b x.rim rim in_rim b, in_wider f.c x.rim rim in_rim c)
      wider (inr (inl (is, c, a))) = inr (inl (is, in_wider f.c x.rim rim in_rim c, in_wider f.a x.rim rim in_rim a))
      wider (inr (inr (is, a, b))) = inr (inr (is, in_wider f.a x.rim rim in_rim a, in_wider f.b x.rim rim in_rim b))

  -- where bounds tell that the edge is apart from all triangles with the same corner, or from all within these bounds
  pub apart_by_bounds : (corner : Option ℕ) (at : Corner) → ((n : ℕ) → corner ≡ Some n → (x.corner ≡ n) × (x.at ≡ at)) → (rim : Bounds) → AreWithin x.rim rim
      → IsApart reach around corner at rim → AtHalf (MeetApart s) halves (edge, x.tri) → ⊥
  apart_by_bounds corner at same rim in_rim (inl passes) meets = apart_all passes meets
  apart_by_bounds corner at same rim in_rim (inr (n, is, beside)) meets = by beside
    where
      by : IsBeside reach around n at rim → ⊥
      by (inl (end, inl ends)) = apart_in_corner (subst (IsEnd reach) (sym ((same n is).0)) end) ends meets
      by (inl (end, inr passes)) = apart_beside (subst (IsEnd reach) (sym ((same n is).0)) end) rim in_rim passes meets
      by (inr passes) = apart_round rim in_rim (subst (λ (k : Corner). PassesRound k reach.p reach.q rim) (sym ((same n is).1)) passes) meets
