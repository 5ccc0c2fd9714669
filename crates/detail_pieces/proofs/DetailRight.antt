-- Strips of a view that are clipped to a window and then put together are a detail of the view.
use Rattle.std.proofs.Common.{◌≡◌, ◌⊎◌, inl, inr, ◌↔◌, List, Contains, refl}
use Rattle.lattice.specs.declared.pieces.Piece.{Piece}
use Rattle.lattice.specs.declared.pieces.Strip.{Strip}
use Rattle.lattice.specs.declared.pieces.StripKind.{StripKind}
use Rattle.lattice.specs.declared.pieces.StripKind.TheVariants.{Seen, Hidden, Trace}
use Rattle.lattice.specs.declared.pieces.Style.TheVariants.{Solid, Dashed, Chain}
use Rattle.lattice.specs.Triple.{Triple}
use Rattle.lattice.specs.Points.{Point, IsPoint}
use Rattle.geometry.specs.Pieces.{LiesOn}
use Rattle.geometry.specs.Scenes.{IsSeenAt, SeesHiddenAlone, SeesTraceAlone}
use Rattle.line_merge.specs.Merging.{LiesOnStrip, LiesOnKind, AreMerged}
use Rattle.drawn_strips.specs.Scenes.{AreStripsIn}
use Rattle.drawn_strips.proofs.StripScenes.{both}
use Rattle.detail_pieces.specs.declared.windows.Window.{Window}
use Rattle.detail_pieces.specs.Windows.{AreClipped}
use Rattle.detail_pieces.specs.Details.{IsDetailIn}
use Rattle.detail_pieces.proofs.Covered.{strip_of_piece}
use Rattle.detail_pieces.proofs.InWindow.{within_window, shows, shown_once}
use Rattle.detail_pieces.proofs.Told.{Tells}

module _ (d : Triple) (Drawn Hides Traced Ordinary : Point → Type 0) (o : Window) (strips clipped : List Strip) (given : AreStripsIn d Drawn Hides Traced Ordinary strips)
    (are : AreClipped d o strips clipped) (pieces : List Piece) (merged : AreMerged d clipped pieces) where
  module _ (p : Point) (positive : IsPoint p) (ordinary : Ordinary p) where
    -- ---- what the strips say is what the view shows
    all_hidden : (q : Point) → IsSeenAt d Drawn p q → ¬ LiesOnKind d strips Seen p → Hides q ⊎ ¬ Hides q → Hides q
    all_hidden q at none (inl hides) = hides
    all_hidden q at none (inr unseen) = absurd (none ((given.visible p positive ordinary).1 (q, at.0, at.1, unseen)))

    says_hidden : Tells d strips Dashed p ↔ SeesHiddenAlone d Drawn Hides p
    says_hidden = (
      λ h. record {
        some = let (q, at, hides) = (given.hidden p positive ordinary).0 h.0 in (q, at);
        hidden = λ q at. all_hidden q at h.1 (given.decided p positive ordinary q at);
      },
      λ h. (
        let (q, at) = h.some in (given.hidden p positive ordinary).1 (q, at, h.hidden q at),
        λ v. let (q, drawn, sight, unseen) = (given.visible p positive ordinary).0 v in unseen (h.hidden q (drawn, sight)),
      ),
    )

    none_drawn : Tells d strips Chain p → (q : Point) → IsSeenAt d Drawn p q → Hides q ⊎ ¬ Hides q → ⊥
    none_drawn h q at (inl hides) = h.2 ((given.hidden p positive ordinary).1 (q, at, hides))
    none_drawn h q at (inr unseen) = h.1 ((given.visible p positive ordinary).1 (q, at.0, at.1, unseen))

    says_traced : Tells d strips Chain p ↔ SeesTraceAlone d Drawn Traced p
    says_traced = (
      λ h. record { some = (given.traced p positive ordinary).0 h.0; none = λ q at. none_drawn h q at (given.decided p positive ordinary q at) },
      λ h. (
        (given.traced p positive ordinary).1 h.some,
        λ v. let (q, drawn, sight, unseen) = (given.visible p positive ordinary).0 v in h.none q (drawn, sight),
        λ v. let (q, at, hides) = (given.hidden p positive ordinary).0 v in h.none q at,
      ),
    )

    -- ---- what lies on a piece is shown by the view
    shown_by : (x : Strip) → Contains strips x → LiesOnStrip d x p → (kind : StripKind) → x.kind ≡ kind → ((q : Point) × IsSeenAt d Drawn p q) ⊎ ((q : Point) × IsSeenAt d Traced p q)
    shown_by x there on Seen is = let (q, drawn, sight, unseen) = (given.visible p positive ordinary).0 (x, there, is, on) in inl (q, (drawn, sight))
    shown_by x there on Hidden is = let (q, at, hides) = (given.hidden p positive ordinary).0 (x, there, is, on) in inl (q, at)
    shown_by x there on Trace is = inr ((given.traced p positive ordinary).0 (x, there, is, on))

    shown : (l : Piece) → Contains pieces l → LiesOn d l p → ((q : Point) × IsSeenAt d Drawn p q) ⊎ ((q : Point) × IsSeenAt d Traced p q)
    shown l there lies =
        let (x, listed, on) = strip_of_piece d clipped are.proper pieces merged l there p positive lies in
        let (y, in_strips, same, kind, on_y) = (are.within x listed p positive on).1 in
        shown_by y in_strips on_y y.kind refl

  pub detail_of_strips : IsDetailIn d Drawn Hides Traced Ordinary o pieces
  detail_of_strips = record {
    proper = merged.proper;
    visible = λ p positive ordinary within off.
        both (shows d o strips clipped given.proper are pieces merged p positive (given.clear p positive ordinary) within off Solid) (given.visible p positive ordinary);
    hidden = λ p positive ordinary within off.
        both (shows d o strips clipped given.proper are pieces merged p positive (given.clear p positive ordinary) within off Dashed) (says_hidden p positive ordinary);
    traced = λ p positive ordinary within off.
        both (shows d o strips clipped given.proper are pieces merged p positive (given.clear p positive ordinary) within off Chain) (says_traced p positive ordinary);
    within = λ l there p positive lies. within_window d o strips clipped given.proper are pieces merged l there p positive lies;
    shown = shown;
    once = λ p positive ordinary. shown_once d o strips clipped given.proper are pieces merged p positive (given.clear p positive ordinary);
    whole = merged.whole;
  }
