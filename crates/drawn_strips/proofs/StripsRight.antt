-- Strips of what a view draws and hides, put together, are right for it.
use Rattle.std.proofs.Common.{◌≡◌, ◌↔◌, ◌⊎◌, inl, inr, ℕ, List, Contains, refl}
use Rattle.lattice.specs.declared.pieces.Piece.{Piece}
use Rattle.lattice.specs.declared.pieces.Strip.{Strip}
use Rattle.lattice.specs.declared.pieces.StripKind.{StripKind}
use Rattle.lattice.specs.declared.pieces.StripKind.TheVariants.{Seen, Hidden, Trace}
use Rattle.lattice.specs.declared.pieces.ViewSpec.{ViewSpec}
use Rattle.lattice.specs.declared.pieces.ViewSpec.TheVariants.{Plain, Section}
use Rattle.lattice.specs.Triple.{Triple}
use Rattle.lattice.specs.Points.{Point, IsPoint, of_dir}
use Rattle.lattice.specs.Cuts.{Plane, plane_of, toward_of}
use Rattle.geometry.specs.Parts.{Part}
use Rattle.geometry.specs.Cuts.{IsDrawnInCut, IsHiddenInCut, IsOrdinaryInCut}
use Rattle.geometry.specs.Scenes.{IsSeenAt, SeesHiddenAlone, SeesTraceAlone, AreRightIn}
use Rattle.geometry.specs.Traces.{IsTracePoint, IsOrdinaryBeside}
use Rattle.geometry.specs.Views.{IsHidden, IsDrawnPoint}
use Rattle.job_file.specs.Seen.{direction_seen}
use Rattle.line_merge.specs.Merging.{AreStrips, LiesOnStrip, LiesOnKind, LiesOnTracesOnly, AreMerged}
use Rattle.drawn_strips.specs.Scenes.{AreStripsIn, AreViewStrips}
use Rattle.drawing_laws.specs.Views.{IsRightView, IsOrderedView}
use Rattle.drawn_strips.proofs.StripScenes.{not_seen, not_hidden, both}

kind_or : (k : StripKind) → (k ≡ Seen) ⊎ (k ≡ Hidden) ⊎ (k ≡ Trace)
kind_or Seen = inl refl
kind_or Hidden = inr (inl refl)
kind_or Trace = inr (inr refl)

module _ (d : Triple) (Drawn Hides Traced Ordinary : Point → Type 0) (strips : List Strip) (are : AreStripsIn d Drawn Hides Traced Ordinary strips) where
  module _ (p : Point) (positive : IsPoint p) (ordinary : Ordinary p) where
    -- where no strip is seen each drawn point is hidden
    all_hidden : (q : Point) → IsSeenAt d Drawn p q → ¬ LiesOnKind d strips Seen p → Hides q ⊎ ¬ Hides q → Hides q
    all_hidden q at none (inl hides) = hides
    all_hidden q at none (inr unseen) = absurd (none ((are.visible p positive ordinary).1 (q, at.0, at.1, unseen)))

    dashed : (LiesOnKind d strips Hidden p × ¬ LiesOnKind d strips Seen p) ↔ SeesHiddenAlone d Drawn Hides p
    dashed = (
      λ h. record {
        some = let (q, at, hides) = (are.hidden p positive ordinary).0 h.0 in (q, at);
        hidden = λ q at. all_hidden q at h.1 (are.decided p positive ordinary q at);
      },
      λ h. (
        let (q, at) = h.some in (are.hidden p positive ordinary).1 (q, at, h.hidden q at),
        λ v. let (q, drawn, sight, unseen) = (are.visible p positive ordinary).0 v in unseen (h.hidden q (drawn, sight)),
      ),
    )

    -- where all strips are of traces there is no drawn point, and the other way round
    none_drawn : ((y : Strip) → Contains strips y → LiesOnStrip d y p → y.kind ≡ Trace) → (q : Point) → IsSeenAt d Drawn p q → Hides q ⊎ ¬ Hides q → ⊥
    none_drawn traces q at (inl hides) = let (y, c, is, on) = (are.hidden p positive ordinary).1 (q, at, hides) in not_hidden y.kind (traces y c on) is
    none_drawn traces q at (inr unseen) = let (y, c, is, on) = (are.visible p positive ordinary).1 (q, at.0, at.1, unseen) in not_seen y.kind (traces y c on) is

    only_trace : ((q : Point) → ¬ IsSeenAt d Drawn p q) → (y : Strip) → Contains strips y → LiesOnStrip d y p → (y.kind ≡ Seen) ⊎ (y.kind ≡ Hidden) ⊎ (y.kind ≡ Trace) → y.kind ≡ Trace
    only_trace none y c on (inl is) = let (q, drawn, sight, unseen) = (are.visible p positive ordinary).0 (y, c, is, on) in absurd (none q (drawn, sight))
    only_trace none y c on (inr (inl is)) = let (q, at, hides) = (are.hidden p positive ordinary).0 (y, c, is, on) in absurd (none q at)
    only_trace none y c on (inr (inr is)) = is

    chained : LiesOnTracesOnly d strips p ↔ SeesTraceAlone d Drawn Traced p
    chained = (
      λ h. record {
        some = let (y, c, on) = h.some in (are.traced p positive ordinary).0 (y, c, h.traces y c on, on);
        none = λ q at. none_drawn h.traces q at (are.decided p positive ordinary q at);
      },
      λ h. record {
        some = let (y, c, is, on) = (are.traced p positive ordinary).1 h.some in (y, c, on);
        traces = λ y c on. only_trace h.none y c on (kind_or y.kind);
      },
    )

  pub right_of_strips : (pieces : List Piece) → AreMerged d strips pieces → AreRightIn d Drawn Hides Traced Ordinary pieces
  right_of_strips pieces merged = record {
    proper = merged.proper;
    visible = λ p positive ordinary. both (merged.visible p positive (are.clear p positive ordinary)) (are.visible p positive ordinary);
    hidden = λ p positive ordinary. both (merged.hidden p positive (are.clear p positive ordinary)) (dashed p positive ordinary);
    traced = λ p positive ordinary. both (merged.traces p positive (are.clear p positive ordinary)) (chained p positive ordinary);
    once = λ p positive ordinary. merged.once p positive (are.clear p positive ordinary);
    whole = merged.whole;
  }

-- ---- those of what a view shows
pub strips_of_view : (spec : ViewSpec) (fraction : ℕ) (s : Part) (cuts : List Plane) (strips : List Strip) → AreViewStrips spec fraction s cuts strips → AreStrips (direction_seen spec) strips
strips_of_view (Plain d) fraction s cuts strips are = are.proper
strips_of_view (Section c) fraction s cuts strips are = are.proper

pub right_of_view_strips : (spec : ViewSpec) (fraction : ℕ) (s : Part) (cuts : List Plane) (strips : List Strip) (pieces : List Piece)
    → AreViewStrips spec fraction s cuts strips → AreMerged (direction_seen spec) strips pieces → IsRightView spec fraction s cuts pieces
right_of_view_strips (Plain d) fraction s cuts strips pieces are merged =
    right_of_strips (of_dir d) (IsDrawnPoint (of_dir d) fraction s) (IsHidden (of_dir d) s) (IsTracePoint (of_dir d) s cuts) (IsOrdinaryBeside (of_dir d) s cuts) strips are pieces merged
right_of_view_strips (Section c) fraction s cuts strips pieces are merged =
    right_of_strips (toward_of (plane_of c)) (IsDrawnInCut (plane_of c) fraction s) (IsHiddenInCut (plane_of c) s) (λ p. ⊥) (IsOrdinaryInCut (plane_of c) s) strips are pieces merged

pub ordered_of_view : (spec : ViewSpec) (strips : List Strip) (pieces : List Piece) → AreMerged (direction_seen spec) strips pieces → IsOrderedView spec pieces
ordered_of_view (Plain d) strips pieces merged = merged.order
ordered_of_view (Section c) strips pieces merged = merged.order
