-- The lines of a part's edges in a view, and that they hold what is seen over an edge.
use Rattle.std.proofs.Common.{◌≡◌, ◌⊎◌, inl, inr, ℕ, ◌+◌, List, [], ◌∷◌, Contains, refl, sym, subst}
use Rattle.std.specs.Prelude.{ℤ, pos, ◌+ℤ◌, ◌-ℤ◌, ◌*ℤ◌}
use Rattle.integers.proofs.Absolutes.{natural_positive, pos-sum}
use Rattle.integers.proofs.Ring.{Expr, var, con, ◌⊕◌, ◌⊖◌, ◌⊗◌, ring, by_one}
use Rattle.lattice.specs.declared.points.Corner.{Corner}
use Rattle.lattice.specs.Points.{Point, IsPoint, point_of, scaled, OnOneSight}
use Rattle.lattice.specs.Triple.{Triple, det}
use Rattle.lattice.proofs.Vectors.{Letters, letters, dots, crosses}
use Rattle.geometry.specs.Faces.{difference, IsPointOfEdge}
use Rattle.geometry.specs.Parts.{Part, Edge, AreEdges}
use Rattle.geometry.specs.Views.{IsSeenOver}
use Rattle.geometry.proofs.FacePoints.{edge_point-turned}
use Rattle.geometry.proofs.Crossings.{StepLine, IsOnStepLine, IsSeenOn}
use Rattle.geometry.proofs.ForEach.{for_edges, Contains-for_edges}
use Rattle.geometry.proofs.Marks.{IsStill, IsHeld}

-- through two corners
abbrev pub line_between : Triple → Corner → Corner → StepLine
line_between d a b = record { step = difference a b; number = pos 2 *ℤ det d (difference a b) (scaled (point_of a)) }

pub edge_point-is_point : (a b : Corner) (q : Point) → IsPointOfEdge a b q → IsPoint q
edge_point-is_point a b q (i, j, some, is) = subst IsPoint (sym is) (natural_positive (i + j) some)

pub on_line_between : (d : Triple) (a b : Corner) (q : Point) → IsPointOfEdge a b q → IsOnStepLine d (line_between d a b) q
on_line_between d a b q (i, j, some, is) = subst (IsOnStepLine d (line_between d a b)) (sym is) (sum (pos i) (pos j) (pos (i + j)) (pos-sum i j))
  where
    sum : (i j w : ℤ) → w ≡ i +ℤ j
        → pos 2 *ℤ det d (difference a b) (record { x = (i *ℤ a.x) +ℤ (j *ℤ b.x); y = (i *ℤ a.y) +ℤ (j *ℤ b.y); z = (i *ℤ a.z) +ℤ (j *ℤ b.z) })
        ≡ (pos 2 *ℤ det d (difference a b) (scaled (point_of a))) *ℤ w
    sum i j w e =
        by_one _ _ w (i +ℤ j) (pos 0 -ℤ (pos 2 *ℤ det d (difference a b) (scaled (point_of a))))
        (ring (d.x ∷ d.y ∷ d.z ∷ a.x ∷ a.y ∷ a.z ∷ b.x ∷ b.y ∷ b.z ∷ i ∷ j ∷ w ∷ [])
        ((con (pos 2) ⊗ dots (letters 0) (crosses way (record { x = mixed 3 6; y = mixed 4 7; z = mixed 5 8 }))) ⊖ (at_start ⊗ var 11))
        ((var 11 ⊖ (var 9 ⊕ var 10)) ⊗ (con (pos 0) ⊖ at_start)) refl) e
      where
        way : Letters
        way = record { x = var 6 ⊖ var 3; y = var 7 ⊖ var 4; z = var 8 ⊖ var 5 }

        at_start : Expr
        at_start = con (pos 2) ⊗ dots (letters 0) (crosses way (letters 3))

        mixed : ℕ → ℕ → Expr
        mixed k l = (var 9 ⊗ var k) ⊕ (var 10 ⊗ var l)

seen_on_line : (d : Triple) (a b : Corner) {p : Point} → (q : Point) × IsPointOfEdge a b q × OnOneSight d q p → IsSeenOn d (line_between d a b) p
seen_on_line d a b (q, on, same) = (q, edge_point-is_point a b q on, on_line_between d a b q on, same)

-- ---- steps there and back, and none
parallel_back : (d : Triple) (a b : Corner) (t : Triple) → det d (difference b a) t ≡ pos 0 → det d (difference a b) t ≡ pos 0
parallel_back d a b t none =
    by_one _ _ (det d (difference b a) t) (pos 0) (pos 0 -ℤ pos 1)
    (ring (d.x ∷ d.y ∷ d.z ∷ a.x ∷ a.y ∷ a.z ∷ b.x ∷ b.y ∷ b.z ∷ t.x ∷ t.y ∷ t.z ∷ [])
    (dots (letters 0) (crosses (record { x = var 6 ⊖ var 3; y = var 7 ⊖ var 4; z = var 8 ⊖ var 5 }) (letters 9)) ⊖ con (pos 0))
    ((dots (letters 0) (crosses (record { x = var 3 ⊖ var 6; y = var 4 ⊖ var 7; z = var 5 ⊖ var 8 }) (letters 9)) ⊖ con (pos 0)) ⊗ (con (pos 0) ⊖ con (pos 1))) refl) none

stays : (d : Triple) (a : Corner) (t : Triple) → det d (difference a a) t ≡ pos 0
stays d a t =
    ring (d.x ∷ d.y ∷ d.z ∷ a.x ∷ a.y ∷ a.z ∷ t.x ∷ t.y ∷ t.z ∷ [])
    (dots (letters 0) (crosses (record { x = var 3 ⊖ var 3; y = var 4 ⊖ var 4; z = var 5 ⊖ var 5 }) (letters 6))) (con (pos 0)) refl

-- ---- all edges
abbrev pub edge_lines : Triple → Part → List ℕ → List StepLine
edge_lines d s halves = for_edges (line_between d) s halves

module _ (d : Triple) (s : Part) (halves : List ℕ) (edges : AreEdges s halves) (lines : List StepLine) (within : (l : StepLine) → Contains (edge_lines d s halves) l → Contains lines l) where
  pub edge_held : (e : Edge s) (p : Point) → IsSeenOver d e p → IsStill d (difference e.a e.b) ⊎ IsHeld d lines p (difference e.a e.b)
  edge_held e p (q, on, same) = by (Contains-for_edges (line_between d) s halves edges e)
    where
      by : Contains (edge_lines d s halves) (line_between d e.a e.b) ⊎ Contains (edge_lines d s halves) (line_between d e.b e.a) ⊎ (e.a ≡ e.b)
          → IsStill d (difference e.a e.b) ⊎ IsHeld d lines p (difference e.a e.b)
      by (inl there) = inr (record {
        line = line_between d e.a e.b;
        listed = within (line_between d e.a e.b) there;
        seen = seen_on_line d e.a e.b (q, on, same);
        along = λ t none. none;
      })
      by (inr (inl back)) = inr (record {
        line = line_between d e.b e.a;
        listed = within (line_between d e.b e.a) back;
        seen = seen_on_line d e.b e.a (q, edge_point-turned e.a e.b q on, same);
        along = λ t none. parallel_back d e.a e.b t none;
      })
      by (inr (inr one)) = inl (subst (λ (b : Corner). IsStill d (difference e.a b)) one (stays d e.a))
