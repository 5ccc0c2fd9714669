-- A cut view is sparse: only points on the lines of edges and borders, and through corners and ends of borders, are not ordinary.
use Rattle.std.proofs.Common.{◌≡◌, ◌⊎◌, inl, inr, ℕ, zero, suc, ◌+◌, ◌<◌, List, [], ◌∷◌, ◌++◌, Contains, unsigned_abs, refl, sym, subst, ◌∙◌, arith}
use Rattle.std.specs.Prelude.{ℤ, pos, negsuc, ◌+ℤ◌, ◌-ℤ◌, ◌*ℤ◌, ◌<ℤ◌}
use Rattle.std.proofs.lemmas.Int.{ints}
use Rattle.std.proofs.lemmas.List.Elements.{Contains-append_left, Contains-append_right}
use Rattle.integers.proofs.Absolutes.{pos-sum}
use Rattle.integers.proofs.Comparisons.{positive_not_zero, negative_not_zero}
use Rattle.integers.proofs.Ring.{var, con, ◌⊕◌, ◌⊖◌, ◌⊗◌, ring, by_one, by_two}
use Rattle.integers.proofs.Signs.{zero_of_mul}
use Rattle.lattice.specs.declared.points.Corner.{Corner}
use Rattle.lattice.specs.Cuts.{Plane, toward_of, plane_height, IsBeyond, IsOnPlane, IsBeforePlane}
use Rattle.lattice.specs.Triple.{Triple, dot, cross, right_axis, up_axis}
use Rattle.lattice.specs.Points.{Point, IsPoint, point_of, scaled, OnOneSight}
use Rattle.lattice.proofs.OnLines.{weighted_sum, product_of_sum}
use Rattle.geometry.specs.Cuts.{EdgeOrBorder, edge, border, step_of, over_of, IsOnBorder, IsSeenOverInCut, IsOrdinaryInCut}
use Rattle.geometry.specs.Faces.{normal, edge_sum, IsPointOfEdge, IsPointOfFace}
use Rattle.geometry.specs.Parts.{Part, Edge, Face}
use Rattle.geometry.proofs.BorderSteps.{along_normal}
use Rattle.geometry.proofs.CutViews.{on_both}
use Rattle.geometry.proofs.Borders.{edge_rise, rise_on, side_of_corner, over_beyond, over_before}
use Rattle.geometry.proofs.FacePoints.{dot-edge_sum}
use Rattle.geometry.proofs.Sights.{sight_on}
use Rattle.geometry.proofs.EdgeStepLines.{edge_point-is_point}
use Rattle.drawing_laws.proofs.CornerViewLines.{part_lines, lines_of_corner, edge_held, listed_corner}
use Rattle.drawing_laws.proofs.LinesAlong.{line_along, on_line_along, on_line_of_sight, IsHeldAlong, parallel_steps}
use Rattle.drawing_laws.proofs.LinesListed.{for_two, for_three, Contains-for_two, Contains-for_three, Contains-first}
use Rattle.drawing_laws.proofs.LinesThrough.{lines_through, off_place}
use Rattle.drawing_laws.proofs.Sparse.{ViewLine, IsOnViewLine, IsBeside, IsSparse}

-- ---- where the line from corner to corner meets the plane
-- its w may be negative: as a place of the view it serves all the same
abbrev meeting_of : Plane → Corner → Corner → Point
meeting_of c k l = weighted_sum (pos 0 -ℤ over_of c l) (point_of k) (over_of c k) (point_of l)

-- a point of the edge that is on the plane has the product of that place, along any vector
one_product : (s : Triple) (k l : Corner) (i j : ℕ) (m n : ℤ) → (pos i *ℤ m) +ℤ (pos j *ℤ n) ≡ pos 0
    → dot s (scaled (weighted_sum (pos 0 -ℤ n) (point_of k) m (point_of l))) *ℤ pos (i + j) ≡ dot s (scaled (edge_sum k l i j)) *ℤ (((pos 0 -ℤ n) *ℤ pos 1) +ℤ (m *ℤ pos 1))
one_product s k l i j m n on =
    (λ t. product_of_sum s (pos 0 -ℤ n) m (point_of k) (point_of l) t *ℤ pos-sum i j t)
    ∙ balance (dot s (scaled (point_of k))) (dot s (scaled (point_of l))) (pos i) (pos j) m n on
    ∙ (λ t. sym (dot-edge_sum s k l i j) t *ℤ (((pos 0 -ℤ n) *ℤ pos 1) +ℤ (m *ℤ pos 1)))
  where
    balance : (u v i j m n : ℤ) → (i *ℤ m) +ℤ (j *ℤ n) ≡ pos 0 → (((pos 0 -ℤ n) *ℤ u) +ℤ (m *ℤ v)) *ℤ (i +ℤ j) ≡ ((i *ℤ u) +ℤ (j *ℤ v)) *ℤ (((pos 0 -ℤ n) *ℤ pos 1) +ℤ (m *ℤ pos 1))
    balance u v i j m n e =
        by_one _ _ ((i *ℤ m) +ℤ (j *ℤ n)) (pos 0) (v -ℤ u)
        (ring (u ∷ v ∷ i ∷ j ∷ m ∷ n ∷ [])
        (((((con (pos 0) ⊖ var 5) ⊗ var 0) ⊕ (var 4 ⊗ var 1)) ⊗ (var 2 ⊕ var 3)) ⊖ (((var 2 ⊗ var 0) ⊕ (var 3 ⊗ var 1)) ⊗ (((con (pos 0) ⊖ var 5) ⊗ con (pos 1)) ⊕ (var 4 ⊗ con (pos 1)))))
        ((((var 2 ⊗ var 4) ⊕ (var 3 ⊗ var 5)) ⊖ con (pos 0)) ⊗ (var 1 ⊖ var 0)) refl) e

module _ (c : Plane) where
  never_level : (k : Corner) → over_of c k ≡ pos 0 → ⊥
  never_level k e = by (side_of_corner c k)
    where
      by : IsBeyond c (point_of k) ⊎ IsBeforePlane c (point_of k) → ⊥
      by (inl h) = negative_not_zero (over_of c k) (over_beyond c k h) e
      by (inr h) = positive_not_zero (over_of c k) (over_before c k h) e

  -- where the edge has a point on the plane, its corners are not as high as one another
  some_weight : (k l : Corner) (i j : ℕ) → 0 < i + j → (pos i *ℤ over_of c k) +ℤ (pos j *ℤ over_of c l) ≡ pos 0 → 0 < unsigned_abs (((pos 0 -ℤ over_of c l) *ℤ pos 1) +ℤ (over_of c k *ℤ pos 1))
  some_weight k l i j some on = counts _ (λ e. never_level k (none (over_of c k) (over_of c l) e on))
    where
      counts : (z : ℤ) → (z ≡ pos 0 → ⊥) → 0 < unsigned_abs z
      counts (pos zero) h = absurd (h refl)
      counts (pos (suc n)) h = omega arith
      counts (negsuc n) h = omega arith

      positive : (i j : ℕ) → 0 < i + j → pos 0 <ℤ (pos i +ℤ pos j)
      positive i j h = omega (arith, ints)

      none : (m n : ℤ) → ((pos 0 -ℤ n) *ℤ pos 1) +ℤ (m *ℤ pos 1) ≡ pos 0 → (pos i *ℤ m) +ℤ (pos j *ℤ n) ≡ pos 0 → m ≡ pos 0
      none m n e f =
          zero_of_mul (pos i +ℤ pos j) m (positive i j some)
          (by_two _ _ ((pos i *ℤ m) +ℤ (pos j *ℤ n)) (pos 0) (pos 1) (((pos 0 -ℤ n) *ℤ pos 1) +ℤ (m *ℤ pos 1)) (pos 0) (pos j)
          (ring (m ∷ n ∷ pos i ∷ pos j ∷ [])
          (((var 2 ⊕ var 3) ⊗ var 0) ⊖ con (pos 0))
          (((((var 2 ⊗ var 0) ⊕ (var 3 ⊗ var 1)) ⊖ con (pos 0)) ⊗ con (pos 1)) ⊕ (((((con (pos 0) ⊖ var 1) ⊗ con (pos 1)) ⊕ (var 0 ⊗ con (pos 1))) ⊖ con (pos 0)) ⊗ var 3)) refl) f e)

  -- q is seen where the line from corner to corner meets the plane, at one place
  record IsSeenMeeting (k l : Corner) (q : Point) : Type 0 where
    some : 0 < unsigned_abs (meeting_of c k l).w
    same : OnOneSight (toward_of c) (meeting_of c k l) q

  meeting_seen : (k l : Corner) (q : Point) → IsPointOfEdge k l q → IsOnPlane c q → IsSeenMeeting k l q
  meeting_seen k l q (i, j, some, is) on =
      subst (IsSeenMeeting k l) (sym is) (go (sym (edge_rise c k l i j) ∙ rise_on c (edge_sum k l i j) (subst (IsOnPlane c) is on)))
    where
      go : (pos i *ℤ over_of c k) +ℤ (pos j *ℤ over_of c l) ≡ pos 0 → IsSeenMeeting k l (edge_sum k l i j)
      go level = record {
        some = some_weight k l i j some level;
        same = record {
          across = one_product (right_axis (toward_of c)) k l i j (over_of c k) (over_of c l) level;
          upward = one_product (up_axis (toward_of c)) k l i j (over_of c k) (over_of c l) level;
        };
      }

-- ---- the line of the border of a face
abbrev border_number : Plane → Corner → Corner → Corner → ℤ
border_number c k l m =
    let d = toward_of c in
    let n = normal k l m in
    (dot d n *ℤ plane_height c) -ℤ ((pos 2 *ℤ dot d d) *ℤ dot n (scaled (point_of k)))

abbrev border_line : Plane → Corner → Corner → Corner → ViewLine
border_line c k l m = line_along (toward_of c) (cross (toward_of c) (normal k l m)) (border_number c k l m)

on_border_line : (c : Plane) {s : Part} (f : Face s) (q : Point) → IsOnBorder c f q → IsOnViewLine (toward_of c) (border_line c f.a f.b f.c) q
on_border_line c f q on =
    let d = toward_of c in
    let n = normal f.a f.b f.c in
    on_line_along d (cross d n) (border_number c f.a f.b f.c) q
    (on_both d n (scaled q) (plane_height c) (dot n (scaled (point_of f.a))) q.w on.1 (along_normal f.a f.b f.c q on.0))

face_point-is_point : (k l m : Corner) (q : Point) → IsPointOfFace k l m q → IsPoint q
face_point-is_point k l m q (i, j, n, some, is) = subst IsPoint (sym is) (positive (i + j + n) some)
  where
    positive : (n : ℕ) → 0 < n → IsPoint (record { x = pos 0; y = pos 0; z = pos 0; w = pos n })
    positive n h = omega (arith, ints)

-- ---- all lines of the view
abbrev meeting_lines : Plane → Part → List ViewLine
meeting_lines c s = for_two s.corners (λ k l. lines_through (toward_of c) (meeting_of c k l))

abbrev border_lines : Plane → Part → List ViewLine
border_lines c s = for_three s.corners (λ k l m. border_line c k l m ∷ [])

abbrev pub cut_lines : Plane → Part → List ViewLine
cut_lines c s = part_lines (toward_of c) s ++ (meeting_lines c s ++ border_lines c s)

module _ (c : Plane) (s : Part) where
  abbrev d : Triple
  d = toward_of c

  abbrev lines : List ViewLine
  lines = cut_lines c s

  of_part : (l : ViewLine) → Contains (part_lines d s) l → Contains lines l
  of_part l there = Contains-append_left (part_lines d s) (meeting_lines c s ++ border_lines c s) l there

  of_meetings : (l : ViewLine) → Contains (meeting_lines c s) l → Contains lines l
  of_meetings l there = Contains-append_right (part_lines d s) (meeting_lines c s ++ border_lines c s) l (Contains-append_left (meeting_lines c s) (border_lines c s) l there)

  of_borders : (l : ViewLine) → Contains (border_lines c s) l → Contains lines l
  of_borders l there = Contains-append_right (part_lines d s) (meeting_lines c s ++ border_lines c s) l (Contains-append_right (meeting_lines c s) (border_lines c s) l there)

  lines_of_end : (e : Edge s) (l : ViewLine) → Contains (lines_through d (meeting_of c e.a e.b)) l → Contains lines l
  lines_of_end e l there =
      of_meetings l (Contains-for_two s.corners (λ k m. lines_through d (meeting_of c k m)) e.a e.b l (listed_corner s.corners e.m e.a e.at_m) (listed_corner s.corners e.n e.b e.at_n) there)

  line_of_border : (f : Face s) → Contains lines (border_line c f.a f.b f.c)
  line_of_border f =
      let l = border_line c f.a f.b f.c in
      of_borders l (Contains-for_three s.corners (λ k l m. border_line c k l m ∷ []) f.a f.b f.c l
      (listed_corner s.corners f.tri.a f.a f.at_a) (listed_corner s.corners f.tri.b f.b f.at_b) (listed_corner s.corners f.tri.c f.c f.at_c) (Contains-first l []))

  -- the line of an edge or a border that is seen over p holds p
  held : (p : Point) (x : EdgeOrBorder s) → IsSeenOverInCut c x p → IsHeldAlong d lines p (step_of c x)
  held p (edge e) seen = edge_held d s lines of_part e p seen
  held p (border f) (q, on, same) = record {
    number = border_number c f.a f.b f.c;
    listed = line_of_border f;
    on = on_line_of_sight d (border_line c f.a f.b f.c) q p (face_point-is_point f.a f.b f.c q on.0) same (on_border_line c f q on);
  }

  pub cut_ordinary : (a b p : Point) → ¬ OnOneSight d a b → IsBeside d lines a b p → IsOrdinaryInCut c s p
  cut_ordinary a b p apart beside = record {
    off_corners = λ k here. off_place d lines a b p apart beside (point_of k) (omega arith) (lines_of_corner d s lines of_part k here);
    off_ends = off_end;
    off_crossings = λ x y seen_x seen_y. parallel_steps d lines a b p apart beside (step_of c x) (step_of c y) (held p x seen_x) (held p y seen_y);
  }
    where
      off_end : (e : Edge s) (q : Point) → IsPointOfEdge e.a e.b q → IsOnPlane c q → ¬ OnOneSight d q p
      off_end e q on_edge on same =
          let seen = meeting_seen c e.a e.b q on_edge on in
          off_place d lines a b p apart beside (meeting_of c e.a e.b) seen.some (lines_of_end e)
          (sight_on d (meeting_of c e.a e.b) q p (edge_point-is_point e.a e.b q on_edge) seen.same same)

pub cut_sparse : (c : Plane) (s : Part) → (lines : List ViewLine) × IsSparse (toward_of c) (IsOrdinaryInCut c s) lines
cut_sparse c s = (cut_lines c s, λ a b p at_a at_b at_p apart beside. cut_ordinary c s a b p apart beside)
