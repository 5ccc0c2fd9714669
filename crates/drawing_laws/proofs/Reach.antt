-- Where the corners of a part are on one side of a line of the view, so are the points of its edges and faces.
use Rattle.std.proofs.Common.{◌≡◌, ℕ, ◌+◌, [], ◌∷◌, Contains, List, slice_get, Some, sym, subst, ◌∙◌, refl}
use Rattle.std.specs.Prelude.{ℤ, pos, negsuc, ◌+ℤ◌, ◌-ℤ◌, ◌*ℤ◌, ◌≤ℤ◌}
use Rattle.std.proofs.lemmas.List.Elements.{All-contains}
use Rattle.integers.proofs.Absolutes.{natural_not_negative, natural_positive, pos-sum, pos-sum_of_three}
use Rattle.integers.proofs.Comparisons.{gap_of_at_most, at_most_by, sum_not_negative}
use Rattle.integers.proofs.Ring.{var, con, ◌⊕◌, ◌⊖◌, ◌⊗◌, ring}
use Rattle.integers.proofs.Signs.{mul_nonneg}
use Rattle.lattice.specs.declared.points.Corner.{Corner}
use Rattle.lattice.specs.Points.{Point, point_of, across_of, upward_of}
use Rattle.lattice.specs.Triple.{Triple, right_axis, up_axis}
use Rattle.geometry.specs.Faces.{edge_sum, face_sum, IsPointOfEdge, IsPointOfFace}
use Rattle.geometry.specs.Parts.{Part, Face, Edge}
use Rattle.geometry.proofs.FacePoints.{dot-edge_sum, dot-face_sum}
use Rattle.drawing_laws.proofs.CornerViewLines.{listed_corner}
use Rattle.drawing_laws.proofs.HalfPlanes.{IsUpToLine, IsPointUpToLine}
use Rattle.drawing_laws.proofs.Sparse.{ViewLine}
use Rattle.sheet_plan.specs.Extents.{IsExtent}
use Rattle.sheet_plan.specs.declared.bounds.Extent.{Extent}
use Rattle.drawing_laws.proofs.OnPaper.{left_line, right_line, low_line, high_line}

-- all these corners are on the line or on one side of it
abbrev pub CornersUpTo : Triple → ViewLine → List Corner → Type 0
CornersUpTo d l corners = (k : Corner) → Contains corners k → IsUpToLine d l (point_of k)

-- ---- sums
two_sums : (x y z i j a b c e : ℤ) → (z *ℤ (i +ℤ j)) -ℤ ((x *ℤ ((i *ℤ a) +ℤ (j *ℤ c))) +ℤ (y *ℤ ((i *ℤ b) +ℤ (j *ℤ e))))
    ≡ (i *ℤ ((z *ℤ pos 1) -ℤ ((x *ℤ a) +ℤ (y *ℤ b)))) +ℤ (j *ℤ ((z *ℤ pos 1) -ℤ ((x *ℤ c) +ℤ (y *ℤ e))))
two_sums x y z i j a b c e =
    ring (x ∷ y ∷ z ∷ i ∷ j ∷ a ∷ b ∷ c ∷ e ∷ [])
    ((var 2 ⊗ (var 3 ⊕ var 4)) ⊖ ((var 0 ⊗ ((var 3 ⊗ var 5) ⊕ (var 4 ⊗ var 7))) ⊕ (var 1 ⊗ ((var 3 ⊗ var 6) ⊕ (var 4 ⊗ var 8)))))
    ((var 3 ⊗ ((var 2 ⊗ con (pos 1)) ⊖ ((var 0 ⊗ var 5) ⊕ (var 1 ⊗ var 6)))) ⊕ (var 4 ⊗ ((var 2 ⊗ con (pos 1)) ⊖ ((var 0 ⊗ var 7) ⊕ (var 1 ⊗ var 8))))) refl

three_sums : (x y z i j k a b c e f g : ℤ) → (z *ℤ ((i +ℤ j) +ℤ k)) -ℤ ((x *ℤ (((i *ℤ a) +ℤ (j *ℤ c)) +ℤ (k *ℤ f))) +ℤ (y *ℤ (((i *ℤ b) +ℤ (j *ℤ e)) +ℤ (k *ℤ g))))
    ≡ ((i *ℤ ((z *ℤ pos 1) -ℤ ((x *ℤ a) +ℤ (y *ℤ b)))) +ℤ (j *ℤ ((z *ℤ pos 1) -ℤ ((x *ℤ c) +ℤ (y *ℤ e))))) +ℤ (k *ℤ ((z *ℤ pos 1) -ℤ ((x *ℤ f) +ℤ (y *ℤ g))))
three_sums x y z i j k a b c e f g =
    ring (x ∷ y ∷ z ∷ i ∷ j ∷ k ∷ a ∷ b ∷ c ∷ e ∷ f ∷ g ∷ [])
    ((var 2 ⊗ ((var 3 ⊕ var 4) ⊕ var 5)) ⊖ ((var 0 ⊗ (((var 3 ⊗ var 6) ⊕ (var 4 ⊗ var 8)) ⊕ (var 5 ⊗ var 10))) ⊕ (var 1 ⊗ (((var 3 ⊗ var 7) ⊕ (var 4 ⊗ var 9)) ⊕ (var 5 ⊗ var 11)))))
    (((var 3 ⊗ ((var 2 ⊗ con (pos 1)) ⊖ ((var 0 ⊗ var 6) ⊕ (var 1 ⊗ var 7)))) ⊕ (var 4 ⊗ ((var 2 ⊗ con (pos 1)) ⊖ ((var 0 ⊗ var 8) ⊕ (var 1 ⊗ var 9))))) ⊕ (var 5 ⊗ ((var 2 ⊗ con (pos 1)) ⊖ ((var 0 ⊗ var 10) ⊕ (var 1 ⊗ var 11))))) refl

module _ (d : Triple) (l : ViewLine) where
  edge_sum_up_to : (a b : Corner) (i j : ℕ) → IsUpToLine d l (point_of a) → IsUpToLine d l (point_of b) → IsUpToLine d l (edge_sum a b i j)
  edge_sum_up_to a b i j at_a at_b =
      at_most_by _ _ _
      ((λ t. (l.z *ℤ pos-sum i j t) -ℤ ((l.x *ℤ dot-edge_sum (right_axis d) a b i j t) +ℤ (l.y *ℤ dot-edge_sum (up_axis d) a b i j t)))
      ∙ two_sums l.x l.y l.z (pos i) (pos j) (across_of d (point_of a)) (upward_of d (point_of a)) (across_of d (point_of b)) (upward_of d (point_of b)))
      (sum_not_negative _ _ (mul_nonneg (pos i) _ (natural_not_negative i) (gap_of_at_most _ _ at_a)) (mul_nonneg (pos j) _ (natural_not_negative j) (gap_of_at_most _ _ at_b)))

  face_sum_up_to : (a b c : Corner) (i j k : ℕ) → IsUpToLine d l (point_of a) → IsUpToLine d l (point_of b) → IsUpToLine d l (point_of c) → IsUpToLine d l (face_sum a b c i j k)
  face_sum_up_to a b c i j k at_a at_b at_c =
      at_most_by _ _ _
      ((λ t. (l.z *ℤ pos-sum_of_three i j k t) -ℤ ((l.x *ℤ dot-face_sum (right_axis d) a b c i j k t) +ℤ (l.y *ℤ dot-face_sum (up_axis d) a b c i j k t)))
      ∙ three_sums l.x l.y l.z (pos i) (pos j) (pos k) (across_of d (point_of a)) (upward_of d (point_of a)) (across_of d (point_of b)) (upward_of d (point_of b)) (across_of d (point_of c)) (upward_of d (point_of c)))
      (sum_not_negative _ _
      (sum_not_negative _ _ (mul_nonneg (pos i) _ (natural_not_negative i) (gap_of_at_most _ _ at_a)) (mul_nonneg (pos j) _ (natural_not_negative j) (gap_of_at_most _ _ at_b)))
      (mul_nonneg (pos k) _ (natural_not_negative k) (gap_of_at_most _ _ at_c)))

  pub corner_edge_up_to : (a b : Corner) → IsUpToLine d l (point_of a) → IsUpToLine d l (point_of b) → (p : Point) → IsPointOfEdge a b p → IsPointUpToLine d l p
  corner_edge_up_to a b at_a at_b p (i, j, some, is) = subst (IsPointUpToLine d l) (sym is) (natural_positive (i + j) some, edge_sum_up_to a b i j at_a at_b)

  -- ---- points of a part
  module _ (s : Part) (up : CornersUpTo d l s.corners) where
    pub corner_up_to : (n : ℕ) (k : Corner) → slice_get s.corners n ≡ Some k → IsUpToLine d l (point_of k)
    corner_up_to n k here = up k (listed_corner s.corners n k here)

    pub edge_up_to : (e : Edge s) (p : Point) → IsPointOfEdge e.a e.b p → IsPointUpToLine d l p
    edge_up_to e p on = corner_edge_up_to e.a e.b (corner_up_to e.m e.a e.at_m) (corner_up_to e.n e.b e.at_n) p on

    pub face_up_to : (f : Face s) (p : Point) → IsPointOfFace f.a f.b f.c p → IsPointUpToLine d l p
    face_up_to f p (i, j, k, some, is) =
        subst (IsPointUpToLine d l) (sym is)
        (natural_positive (i + j + k) some, face_sum_up_to f.a f.b f.c i j k (corner_up_to f.tri.a f.a f.at_a) (corner_up_to f.tri.b f.b f.at_b) (corner_up_to f.tri.c f.c f.at_c))

-- ---- the lines of the part's own extent
to_left : (u a b : ℤ) → u ≤ℤ a → ((negsuc 0 *ℤ a) +ℤ (pos 0 *ℤ b)) ≤ℤ ((pos 0 -ℤ u) *ℤ pos 1)
to_left u a b h =
    at_most_by _ _ (a -ℤ u)
    (ring (u ∷ a ∷ b ∷ []) (((con (pos 0) ⊖ var 0) ⊗ con (pos 1)) ⊖ ((con (negsuc 0) ⊗ var 1) ⊕ (con (pos 0) ⊗ var 2))) (var 1 ⊖ var 0) refl) (gap_of_at_most _ _ h)

to_right : (u a b : ℤ) → a ≤ℤ u → ((pos 1 *ℤ a) +ℤ (pos 0 *ℤ b)) ≤ℤ (u *ℤ pos 1)
to_right u a b h =
    at_most_by _ _ (u -ℤ a)
    (ring (u ∷ a ∷ b ∷ []) ((var 0 ⊗ con (pos 1)) ⊖ ((con (pos 1) ⊗ var 1) ⊕ (con (pos 0) ⊗ var 2))) (var 0 ⊖ var 1) refl) (gap_of_at_most _ _ h)

to_low : (v a b : ℤ) → v ≤ℤ b → ((pos 0 *ℤ a) +ℤ (negsuc 0 *ℤ b)) ≤ℤ ((pos 0 -ℤ v) *ℤ pos 1)
to_low v a b h =
    at_most_by _ _ (b -ℤ v)
    (ring (v ∷ a ∷ b ∷ []) (((con (pos 0) ⊖ var 0) ⊗ con (pos 1)) ⊖ ((con (pos 0) ⊗ var 1) ⊕ (con (negsuc 0) ⊗ var 2))) (var 2 ⊖ var 0) refl) (gap_of_at_most _ _ h)

to_high : (v a b : ℤ) → b ≤ℤ v → ((pos 0 *ℤ a) +ℤ (pos 1 *ℤ b)) ≤ℤ (v *ℤ pos 1)
to_high v a b h =
    at_most_by _ _ (v -ℤ b)
    (ring (v ∷ a ∷ b ∷ []) ((var 0 ⊗ con (pos 1)) ⊖ ((con (pos 0) ⊗ var 1) ⊕ (con (pos 1) ⊗ var 2))) (var 0 ⊖ var 2) refl) (gap_of_at_most _ _ h)

pub record IsExtentOfCorners (d : Triple) (corners : List Corner) (e : Extent) : Type 0 where
  pub left : CornersUpTo d (left_line e) corners
  pub right : CornersUpTo d (right_line e) corners
  pub low : CornersUpTo d (low_line e) corners
  pub high : CornersUpTo d (high_line e) corners

pub extent_of_corners : (d : Triple) (corners : List Corner) (e : Extent) → IsExtent d corners e → IsExtentOfCorners d corners e
extent_of_corners d corners e is =
    record {
      left = λ k here. to_left e.u_min (across_of d (point_of k)) (upward_of d (point_of k)) (All-contains (λ (c : Corner). e.u_min ≤ℤ across_of d (point_of c)) corners k is.leftmost.bound here);
      right = λ k here. to_right e.u_max (across_of d (point_of k)) (upward_of d (point_of k)) (All-contains (λ (c : Corner). across_of d (point_of c) ≤ℤ e.u_max) corners k is.rightmost.bound here);
      low = λ k here. to_low e.v_min (across_of d (point_of k)) (upward_of d (point_of k)) (All-contains (λ (c : Corner). e.v_min ≤ℤ upward_of d (point_of c)) corners k is.lowest.bound here);
      high = λ k here. to_high e.v_max (across_of d (point_of k)) (upward_of d (point_of k)) (All-contains (λ (c : Corner). upward_of d (point_of c) ≤ℤ e.v_max) corners k is.topmost.bound here);
    }
