-- The ends of a view's pieces are within the extent of the part.
use Rattle.std.proofs.Common.{ℕ, List, Contains, inl, inr}
use Rattle.std.specs.Prelude.{ℤ, pos, negsuc, ◌-ℤ◌}
use Rattle.lattice.specs.Cuts.{Plane, toward_of}
use Rattle.lattice.specs.Points.{Point, of_dir, of_spot}
use Rattle.lattice.specs.Triple.{Triple}
use Rattle.lattice.specs.declared.pieces.Piece.{Piece}
use Rattle.lattice.specs.declared.points.Dir.{Dir}
use Rattle.geometry.specs.Cuts.{IsDrawnInCut, IsHiddenInCut, IsOrdinaryInCut}
use Rattle.geometry.specs.Parts.{Part}
use Rattle.geometry.specs.Scenes.{AreRight, AreRightInCut}
use Rattle.geometry.specs.Traces.{IsTracePoint, IsOrdinaryBeside}
use Rattle.geometry.specs.Views.{IsDrawnPoint, IsHidden}
use Rattle.drawing_laws.proofs.CutLines.{cut_sparse}
use Rattle.drawing_laws.proofs.HalfPlanes.{IsUpToLine, IsPointUpToLine, ends_up_to}
use Rattle.drawing_laws.proofs.PlainLines.{plain_sparse}
use Rattle.drawing_laws.proofs.Sparse.{ViewLine}
use Rattle.sheet_plan.specs.Extents.{IsExtent}
use Rattle.sheet_plan.specs.declared.bounds.Extent.{Extent}
use Rattle.drawing_laws.proofs.OnPaper.{across_line, upward_line, left_line, right_line, low_line, high_line, IsInExtent}
use Rattle.drawing_laws.proofs.Reach.{CornersUpTo, extent_of_corners, edge_up_to, face_up_to}
use Rattle.drawing_laws.proofs.Traced.{trace_across, trace_upward}

-- both ends of the piece are
pub record EndsInExtent (d : Triple) (e : Extent) (m : Piece) : Type 0 where
  pub first : IsInExtent d e (of_spot m.a)
  pub second : IsInExtent d e (of_spot m.b)

-- both are up to a line
abbrev EndsUpTo : Triple → ViewLine → Piece → Type 0
EndsUpTo d l m = IsUpToLine d l (of_spot m.a) × IsUpToLine d l (of_spot m.b)

ends_in_extent : (d : Triple) (e : Extent) (m : Piece) → EndsUpTo d (left_line e) m → EndsUpTo d (right_line e) m → EndsUpTo d (low_line e) m → EndsUpTo d (high_line e) m → EndsInExtent d e m
ends_in_extent d e m left right low high =
    record {
      first = record { left = left.0; right = right.0; low = low.0; high = high.0 };
      second = record { left = left.1; right = right.1; low = low.1; high = high.1 };
    }

-- ---- in a plain view
module _ (d : Dir) (fraction : ℕ) (s : Part) (cuts : List Plane) (pieces : List Piece) (right : AreRight (of_dir d) fraction s cuts pieces) where
  plain_up_to : (l : ViewLine) → CornersUpTo (of_dir d) l s.corners → ((q : Point) → IsTracePoint (of_dir d) s cuts q → IsPointUpToLine (of_dir d) l q)
      → (m : Piece) → Contains pieces m → EndsUpTo (of_dir d) l m
  plain_up_to l up traced =
      let (lines, sparse) = plain_sparse d s cuts in
      ends_up_to (of_dir d) (IsDrawnPoint (of_dir d) fraction s) (IsHidden (of_dir d) s) (IsTracePoint (of_dir d) s cuts) (IsOrdinaryBeside (of_dir d) s cuts) lines sparse l
      (λ q drawn. edge_up_to (of_dir d) l s up drawn.0 q drawn.2) traced pieces right

  across : (g z : ℤ) → CornersUpTo (of_dir d) (across_line g z) s.corners → (m : Piece) → Contains pieces m → EndsUpTo (of_dir d) (across_line g z) m
  across g z up = plain_up_to (across_line g z) up (λ q on. (on.2.1.there, trace_across (of_dir d) s on.0 on.2.0 q on.2.1 g z up))

  upward : (g z : ℤ) → CornersUpTo (of_dir d) (upward_line g z) s.corners → (m : Piece) → Contains pieces m → EndsUpTo (of_dir d) (upward_line g z) m
  upward g z up = plain_up_to (upward_line g z) up (λ q on. (on.2.1.there, trace_upward (of_dir d) s on.0 on.2.0 q on.2.1 g z up))

  pub plain_in_extent : (e : Extent) → IsExtent (of_dir d) s.corners e → (m : Piece) → Contains pieces m → EndsInExtent (of_dir d) e m
  plain_in_extent e is m here =
      let corners = extent_of_corners (of_dir d) s.corners e is in
      ends_in_extent (of_dir d) e m (across (negsuc 0) (pos 0 -ℤ e.u_min) corners.left m here) (across (pos 1) e.u_max corners.right m here)
      (upward (negsuc 0) (pos 0 -ℤ e.v_min) corners.low m here) (upward (pos 1) e.v_max corners.high m here)

-- ---- in the view of a cut
module _ (c : Plane) (fraction : ℕ) (s : Part) (pieces : List Piece) (right : AreRightInCut c fraction s pieces) where
  abbrev toward : Triple
  toward = toward_of c

  drawn_up_to : (l : ViewLine) → CornersUpTo toward l s.corners → (q : Point) → IsDrawnInCut c fraction s q → IsPointUpToLine toward l q
  drawn_up_to l up q (inl (e, drawn, on, beyond)) = edge_up_to toward l s up e q on
  drawn_up_to l up q (inr (f, on)) = face_up_to toward l s up f q on.0

  cut_up_to : (l : ViewLine) → CornersUpTo toward l s.corners → (m : Piece) → Contains pieces m → EndsUpTo toward l m
  cut_up_to l up =
      let (lines, sparse) = cut_sparse c s in
      ends_up_to toward (IsDrawnInCut c fraction s) (IsHiddenInCut c s) (λ p. ⊥) (IsOrdinaryInCut c s) lines sparse l (drawn_up_to l up) (λ q none. absurd (none)) pieces right

  pub cut_in_extent : (e : Extent) → IsExtent toward s.corners e → (m : Piece) → Contains pieces m → EndsInExtent toward e m
  cut_in_extent e is m here =
      let corners = extent_of_corners toward s.corners e is in
      ends_in_extent toward e m (cut_up_to (left_line e) corners.left m here) (cut_up_to (right_line e) corners.right m here) (cut_up_to (low_line e) corners.low m here) (cut_up_to (high_line e) corners.high m here)
