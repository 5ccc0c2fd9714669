-- The same for what a view shows.
use Rattle.std.proofs.Common.{◌≡◌, ℕ, List, sym, subst, Vec, Global}
use Rattle.std.specs.Prelude.{Result, Ok, Err, IfOk}
use Rattle.exact_frac.specs.declared.OutOfMemory.{OutOfMemory}
use Rattle.lattice.specs.Creases.{fraction_of}
use Rattle.lattice.specs.Triple.{Triple}
use Rattle.job_file.specs.declared.job.Job.{Job}
use Rattle.solid_mesh.specs.Solids.{solid_part}
use Rattle.solid_mesh.specs.declared.solid.Solid.{Solid}
use Rattle.job_file.specs.ShownCuts.{planes_in}
use Rattle.drawing_laws.specs.Views.{IsOrderedView}
use Rattle.drawn_strips.proofs.StripsRight.{strips_of_view, ordered_of_view}
use Rattle.lattice.specs.Cuts.{Plane, plane_of, toward_of}
use Rattle.lattice.specs.Points.{of_dir}
use Rattle.lattice.specs.declared.pieces.Piece.{Piece}
use Rattle.lattice.specs.declared.pieces.Strip.{Strip}
use Rattle.lattice.specs.declared.pieces.ViewSpec.{ViewSpec}
use Rattle.lattice.specs.declared.pieces.ViewSpec.TheVariants.{Plain, Section}
use Rattle.geometry.specs.Parts.{Part}
use Rattle.geometry.specs.Cuts.{IsDrawnInCut, IsHiddenInCut, IsOrdinaryInCut}
use Rattle.geometry.specs.Traces.{IsTracePoint, IsOrdinaryBeside}
use Rattle.geometry.specs.Views.{IsHidden, IsDrawnPoint}
use Rattle.job_file.specs.Seen.{direction_seen}
use Rattle.line_merge.specs.Merging.{AreStrips, AreMerged}
use Rattle.detail_pieces.specs.declared.windows.Window.{Window}
use Rattle.detail_pieces.specs.Windows.{AreClipped}
use Rattle.drawn_strips.specs.Scenes.{AreViewStrips}
use Rattle.detail_pieces.specs.Details.{IsDetailView}
use Rattle.detail_pieces.proofs.DetailRight.{detail_of_strips}

pub detail_of_view_strips : (spec : ViewSpec) (o : Window) (fraction : ℕ) (s : Part) (cuts : List Plane) (strips clipped : List Strip) (pieces : List Piece)
    → AreViewStrips spec fraction s cuts strips → AreClipped (direction_seen spec) o strips clipped
    → AreMerged (direction_seen spec) clipped pieces → IsDetailView spec o fraction s cuts pieces
detail_of_view_strips (Plain d) o fraction s cuts strips clipped pieces given are merged =
    detail_of_strips (of_dir d) (IsDrawnPoint (of_dir d) fraction s) (IsHidden (of_dir d) s) (IsTracePoint (of_dir d) s cuts) (IsOrdinaryBeside (of_dir d) s cuts) o
    strips clipped given are pieces merged
detail_of_view_strips (Section c) o fraction s cuts strips clipped pieces given are merged =
    detail_of_strips (toward_of (plane_of c)) (IsDrawnInCut (plane_of c) fraction s) (IsHiddenInCut (plane_of c) s) (λ p. ⊥) (IsOrdinaryInCut (plane_of c) s) o
    strips clipped given are pieces merged

-- ---- what a call gives, from the strips of a view of a job
module _ (solid : Solid) (job : Job) (spec : ViewSpec) (o : Window) where
  abbrev IsDetail : List Piece → Type 0
  IsDetail pieces = IsDetailView spec o (fraction_of job.crease) (solid_part solid) (planes_in job.views.items) pieces

  module _ (strips given : List Strip) (are : AreViewStrips spec (fraction_of job.crease) (solid_part solid) (planes_in job.views.items) strips) (is : given ≡ strips)
      (d : Triple) (along : d ≡ direction_seen spec) where
    pub strips_along : AreStrips d given
    strips_along =
        subst (λ (t : Triple). AreStrips t given) (sym along)
        (subst (AreStrips (direction_seen spec)) (sym is) (strips_of_view spec (fraction_of job.crease) (solid_part solid) (planes_in job.views.items) strips are))

    module _ (clipped left : List Strip) (cut : AreClipped d o given clipped) (is_left : left ≡ clipped) (r : Result (Vec Piece Global) OutOfMemory) where
      merged_along : (pieces : List Piece) → AreMerged d left pieces → AreMerged (direction_seen spec) clipped pieces
      merged_along pieces h = subst (λ (t : Triple). AreMerged t clipped pieces) along (subst (λ (ys : List Strip). AreMerged d ys pieces) is_left h)

      cut_along : AreClipped (direction_seen spec) o strips clipped
      cut_along = subst (λ (t : Triple). AreClipped t o strips clipped) along (subst (λ (ys : List Strip). AreClipped d o ys clipped) is cut)

      pub detail_merged : IfOk r (λ pieces. AreMerged d left pieces.items) → IfOk r (λ pieces. IsDetail pieces.items)
      detail_merged = by r
        where
          by : (r : Result (Vec Piece Global) OutOfMemory) → IfOk r (λ pieces. AreMerged d left pieces.items) → IfOk r (λ pieces. IsDetail pieces.items)
          by (Err e) h = h
          by (Ok pieces) h =
              detail_of_view_strips spec o (fraction_of job.crease) (solid_part solid) (planes_in job.views.items) strips clipped pieces.items are cut_along (merged_along pieces.items h)

      pub order_merged : IfOk r (λ pieces. AreMerged d left pieces.items) → IfOk r (λ pieces. IsOrderedView spec pieces.items)
      order_merged = by r
        where
          by : (r : Result (Vec Piece Global) OutOfMemory) → IfOk r (λ pieces. AreMerged d left pieces.items) → IfOk r (λ pieces. IsOrderedView spec pieces.items)
          by (Err e) h = h
          by (Ok pieces) h = ordered_of_view spec clipped pieces.items (merged_along pieces.items h)
