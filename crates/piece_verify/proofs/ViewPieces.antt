-- What is drawn alike is a right list too, and right lists of one view are drawn alike.
use Rattle.std.proofs.Common.{◌≡◌, List, subst, Vec, Global}
use Rattle.std.specs.Prelude.{Result, Ok, Err, IfOk}
use Rattle.exact_frac.specs.declared.OutOfMemory.{OutOfMemory}
use Rattle.lattice.specs.declared.pieces.Strip.{Strip}
use Rattle.lattice.specs.Triple.{Triple}
use Rattle.line_merge.specs.Merging.{AreMerged}
use Rattle.drawn_strips.specs.Scenes.{AreViewStrips}
use Rattle.drawn_strips.proofs.StripsRight.{right_of_view_strips, ordered_of_view}
use Rattle.std.specs.List.{AllZip}
use Rattle.lattice.specs.Creases.{fraction_of}
use Rattle.lattice.specs.Cuts.{plane_of, toward_of}
use Rattle.lattice.specs.Points.{of_dir}
use Rattle.lattice.specs.declared.pieces.Piece.{Piece}
use Rattle.lattice.specs.declared.pieces.ViewSpec.{ViewSpec}
use Rattle.lattice.specs.declared.pieces.ViewSpec.TheVariants.{Plain, Section}
use Rattle.geometry.specs.Cuts.{IsDrawnInCut, IsHiddenInCut, IsOrdinaryInCut}
use Rattle.geometry.specs.Traces.{IsTracePoint, IsOrdinaryBeside}
use Rattle.geometry.specs.Views.{IsDrawnPoint, IsHidden}
use Rattle.job_file.specs.Seen.{direction_seen}
use Rattle.job_file.specs.declared.job.Job.{Job}
use Rattle.solid_mesh.specs.Solids.{solid_part}
use Rattle.solid_mesh.specs.declared.solid.Solid.{Solid}
use Rattle.job_file.specs.ShownCuts.{planes_in}
use Rattle.drawing_laws.specs.Alike.{AreAlike}
use Rattle.drawing_laws.proofs.Alikes.{right_alike, order_alike}
use Rattle.drawing_laws.proofs.OneView.{one_plain, one_cut}
use Rattle.piece_verify.specs.Checked.{IsRightList}

module _ (solid : Solid) (job : Job) where
  pub kept_view : (spec : ViewSpec) (pieces others : List Piece) → AllZip (AreAlike (direction_seen spec)) pieces others → IsRightList solid job spec pieces → IsRightList solid job spec others
  kept_view (Plain d) pieces others alike h =
      let s = solid_part solid in
      let cuts = planes_in job.views.items in
      record {
        right = right_alike (of_dir d) (IsDrawnPoint (of_dir d) (fraction_of job.crease) s) (IsHidden (of_dir d) s) (IsTracePoint (of_dir d) s cuts) (IsOrdinaryBeside (of_dir d) s cuts) pieces others alike h.right;
        order = order_alike (of_dir d) pieces others alike h.order;
      }
  kept_view (Section c) pieces others alike h =
      let s = solid_part solid in
      let p = plane_of c in
      record {
        right = right_alike (toward_of p) (IsDrawnInCut p (fraction_of job.crease) s) (IsHiddenInCut p s) (λ q. ⊥) (IsOrdinaryInCut p s) pieces others alike h.right;
        order = order_alike (toward_of p) pieces others alike h.order;
      }

  pub one_view : (spec : ViewSpec) (pieces others : List Piece) → IsRightList solid job spec pieces → IsRightList solid job spec others → AllZip (AreAlike (direction_seen spec)) pieces others
  one_view (Plain d) pieces others h k = one_plain d (fraction_of job.crease) (solid_part solid) (planes_in job.views.items) pieces others h.right h.order k.right k.order
  one_view (Section c) pieces others h k = one_cut (plane_of c) (fraction_of job.crease) (solid_part solid) pieces others h.right h.order k.right k.order

  -- the strips of a view put together
  pub merged_right : (spec : ViewSpec) (strips : List Strip) → AreViewStrips spec (fraction_of job.crease) (solid_part solid) (planes_in job.views.items) strips → (given : List Strip) → given ≡ strips
      → (d : Triple) → d ≡ direction_seen spec → (r : Result (Vec Piece Global) OutOfMemory) → IfOk r (λ pieces. AreMerged d given pieces.items) → IfOk r (λ pieces. IsRightList solid job spec pieces.items)
  merged_right spec strips are given is d along (Err e) h = h
  merged_right spec strips are given is d along (Ok pieces) h =
      let merged = subst (λ (t : Triple). AreMerged t strips pieces.items) along (subst (λ (ys : List Strip). AreMerged d ys pieces.items) is h) in
      record {
        right = right_of_view_strips spec (fraction_of job.crease) (solid_part solid) (planes_in job.views.items) strips pieces.items are merged;
        order = ordered_of_view spec strips pieces.items merged;
      }
