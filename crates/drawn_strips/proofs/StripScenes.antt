-- Strips that show what a view draws and hides: they are those of the view, and are put together to pieces that are right for it.
use Rattle.std.proofs.Common.{◌≡◌, ◌⊎◌, inl, inr, Bool, true, false, List, Contains, ◌↔◌, refl, sym, subst, IsTrue}
use Rattle.lattice.specs.declared.pieces.Piece.{Piece}
use Rattle.lattice.specs.declared.pieces.Strip.{Strip}
use Rattle.lattice.specs.declared.pieces.StripKind.{StripKind}
use Rattle.lattice.specs.declared.pieces.StripKind.TheVariants.{Seen, Hidden, Trace}
use Rattle.lattice.specs.Triple.{Triple}
use Rattle.lattice.specs.Points.{Point, IsPoint, OnOneSight}
use Rattle.geometry.specs.Scenes.{IsSeenAt, SeesVisible, SeesHiddenAlone, SeesTraceAlone, AreRightIn}
use Rattle.line_merge.specs.Merging.{AreStrips, LiesOnStrip, IsClear, LiesOnKind, LiesOnTracesOnly, AreMerged}
use Rattle.drawn_strips.specs.Scenes.{SeesHidden, AreStripsIn}
use Rattle.drawn_strips.specs.Strips.{strip_kind}

-- a strip of this kind is hidden or seen, as its point is
abbrev pub TellsOf : StripKind → Type 0 → Type 0
TellsOf Seen P = ¬ P
TellsOf Hidden P = P
TellsOf Trace P = ⊥

-- the kind of a span that tells whether it is hidden
pub kind_tells : (k : StripKind) (hidden : Bool) {P : Type 0} → k ≡ strip_kind hidden → IsTrue hidden ↔ P → TellsOf k P
kind_tells k hidden {P} is tells = subst (λ (k : StripKind). TellsOf k P) (sym is) (by hidden tells)
  where
    by : (hidden : Bool) → IsTrue hidden ↔ P → TellsOf (strip_kind hidden) P
    by true tells = tells.0 refl
    by false tells = λ p. let t = tells.1 p in cc

-- the strip is hidden exactly if the drawn point on the line of sight is, and else seen
pub record Shows (d : Triple) (Drawn Hides : Point → Type 0) (y : Strip) (p q : Point) : Type 0 where
  pub drawn : Drawn q
  pub sight : OnOneSight d q p
  pub tells : TellsOf y.kind (Hides q)

-- the strip is one of a trace, and a point of a trace is on the line of sight
pub record ShowsTrace (d : Triple) (Traced : Point → Type 0) (y : Strip) (p : Point) : Type 0 where
  pub kind : y.kind ≡ Trace
  pub seen : (q : Point) × IsSeenAt d Traced p q

-- a strip lies on the line of sight of p exactly where a drawn point or one of a trace is on it, and shows it
pub record ShowAt (d : Triple) (Drawn Hides Traced : Point → Type 0) (strips : List Strip) (p : Point) : Type 0 where
  pub clear : IsClear d strips p
  pub point_of : (y : Strip) → Contains strips y → LiesOnStrip d y p → ((q : Point) × Shows d Drawn Hides y p q) ⊎ ShowsTrace d Traced y p
  pub strip_of : (q : Point) → IsSeenAt d Drawn p q → (y : Strip) × Contains strips y × LiesOnStrip d y p × Shows d Drawn Hides y p q
  pub trace_of : (q : Point) → IsSeenAt d Traced p q → (y : Strip) × Contains strips y × LiesOnStrip d y p × (y.kind ≡ Trace)

-- a strip that is seen lies on the line of sight of p, and so does a drawn point that is not hidden: whatever else lies there
pub record ShowVisible (d : Triple) (Drawn Hides : Point → Type 0) (strips : List Strip) (p : Point) : Type 0 where
  pub clear : IsClear d strips p
  pub strip : LiesOnKind d strips Seen p
  pub point : SeesVisible d Drawn Hides p

of_kind : (k l : StripKind) (P : Type 0) → k ≡ l → TellsOf k P → TellsOf l P
of_kind k l P same tells = subst (λ (k : StripKind). TellsOf k P) same tells

seen_of : (k : StripKind) (P : Type 0) → TellsOf k P → ¬ P → k ≡ Seen
seen_of Seen P tells unseen = refl
seen_of Hidden P tells unseen = absurd (unseen tells)
seen_of Trace P tells unseen = absurd tells

hidden_of : (k : StripKind) (P : Type 0) → TellsOf k P → P → k ≡ Hidden
hidden_of Seen P tells p = absurd (tells p)
hidden_of Hidden P tells p = refl
hidden_of Trace P tells p = absurd tells

hides_of : (k : StripKind) (P : Type 0) → TellsOf k P → ¬ (k ≡ Seen) → P
hides_of Seen P tells none = absurd (none refl)
hides_of Hidden P tells none = tells
hides_of Trace P tells none = absurd tells

told_or : (k : StripKind) (P : Type 0) → TellsOf k P → P ⊎ ¬ P
told_or Seen P tells = inr tells
told_or Hidden P tells = inl tells
told_or Trace P tells = absurd tells

-- no strip of a trace is of another kind
pub not_seen : (k : StripKind) → k ≡ Trace → ¬ (k ≡ Seen)
not_seen Seen e = λ f. cc
not_seen Hidden e = λ f. cc
not_seen Trace e = λ f. cc

pub not_hidden : (k : StripKind) → k ≡ Trace → ¬ (k ≡ Hidden)
not_hidden Seen e = λ f. cc
not_hidden Hidden e = λ f. cc
not_hidden Trace e = λ f. cc

pub both : {A B C : Type 0} → A ↔ B → B ↔ C → A ↔ C
both f g = (λ a. g.0 (f.0 a), λ c. f.1 (g.1 c))

module _ (d : Triple) (Drawn Hides Traced : Point → Type 0) (strips : List Strip) where
  module _ (p : Point) (shown : ShowAt d Drawn Hides Traced strips p) where
    -- a strip that isn't one of a trace shows a drawn point
    drawn_by : (y : Strip) → ¬ (y.kind ≡ Trace) → ((q : Point) × Shows d Drawn Hides y p q) ⊎ ShowsTrace d Traced y p → (q : Point) × Shows d Drawn Hides y p q
    drawn_by y not_trace (inl shows) = shows
    drawn_by y not_trace (inr trace) = absurd (not_trace trace.kind)

    of_seen : (y : Strip) → y.kind ≡ Seen → Contains strips y → LiesOnStrip d y p → (q : Point) × Shows d Drawn Hides y p q
    of_seen y is c on = drawn_by y (λ t. not_seen y.kind t is) (shown.point_of y c on)

    of_hidden : (y : Strip) → y.kind ≡ Hidden → Contains strips y → LiesOnStrip d y p → (q : Point) × Shows d Drawn Hides y p q
    of_hidden y is c on = drawn_by y (λ t. not_hidden y.kind t is) (shown.point_of y c on)

    visible : LiesOnKind d strips Seen p ↔ SeesVisible d Drawn Hides p
    visible = (
      λ v. let (y, c, is, on) = v in let (q, shows) = of_seen y is c on in (q, shows.drawn, shows.sight, of_kind y.kind Seen (Hides q) is shows.tells),
      λ v. let (q, drawn, sight, unseen) = v in let (y, c, on, shows) = shown.strip_of q (drawn, sight) in (y, c, seen_of y.kind (Hides q) shows.tells unseen, on),
    )

    hidden : (LiesOnKind d strips Hidden p × ¬ LiesOnKind d strips Seen p) ↔ SeesHiddenAlone d Drawn Hides p
    hidden = (
      λ h. let ((y, c, is, on), none) = h in record {
        some = let (q, shows) = of_hidden y is c on in (q, (shows.drawn, shows.sight));
        hidden = λ q at. let (z, e, on_z, shows) = shown.strip_of q at in hides_of z.kind (Hides q) shows.tells (λ seen. none (z, e, seen, on_z));
      },
      λ h. (
        let (q, at) = h.some in let (y, c, on, shows) = shown.strip_of q at in (y, c, hidden_of y.kind (Hides q) shows.tells (h.hidden q at), on),
        λ v. let (y, c, is, on) = v in let (q, shows) = of_seen y is c on in of_kind y.kind Seen (Hides q) is shows.tells (h.hidden q (shows.drawn, shows.sight)),
      ),
    )

    -- a strip of a drawn point is none of a trace
    not_trace : (y : Strip) (q : Point) → Shows d Drawn Hides y p q → ¬ (y.kind ≡ Trace)
    not_trace y q shows is = of_kind y.kind Trace (Hides q) is shows.tells

    seen_trace : (y : Strip) → y.kind ≡ Trace → ((q : Point) × Shows d Drawn Hides y p q) ⊎ ShowsTrace d Traced y p → (q : Point) × IsSeenAt d Traced p q
    seen_trace y is (inl (q, shows)) = absurd (not_trace y q shows is)
    seen_trace y is (inr trace) = trace.seen

    kind_alone : (y : Strip) → ((q : Point) → ¬ IsSeenAt d Drawn p q) → ((q : Point) × Shows d Drawn Hides y p q) ⊎ ShowsTrace d Traced y p → y.kind ≡ Trace
    kind_alone y none (inl (q, shows)) = absurd (none q (shows.drawn, shows.sight))
    kind_alone y none (inr trace) = trace.kind

    traced : LiesOnTracesOnly d strips p ↔ SeesTraceAlone d Drawn Traced p
    traced = (
      λ h. record {
        some = let (y, c, on) = h.some in seen_trace y (h.traces y c on) (shown.point_of y c on);
        none = λ q at. let (y, c, on, shows) = shown.strip_of q at in not_trace y q shows (h.traces y c on);
      },
      λ h. record {
        some = let (q, at) = h.some in let (y, c, on, is) = shown.trace_of q at in (y, c, on);
        traces = λ y c on. kind_alone y h.none (shown.point_of y c on);
      },
    )

    -- kind by kind
    hidden_kind : LiesOnKind d strips Hidden p ↔ SeesHidden d Drawn Hides p
    hidden_kind = (
      λ h. let (y, c, is, on) = h in let (q, shows) = of_hidden y is c on in (q, (shows.drawn, shows.sight), of_kind y.kind Hidden (Hides q) is shows.tells),
      λ h. let (q, at, hides) = h in let (y, c, on, shows) = shown.strip_of q at in (y, c, hidden_of y.kind (Hides q) shows.tells hides, on),
    )

    trace_kind : LiesOnKind d strips Trace p ↔ ((q : Point) × IsSeenAt d Traced p q)
    trace_kind = (
      λ h. let (y, c, is, on) = h in seen_trace y is (shown.point_of y c on),
      λ h. let (q, at) = h in let (y, c, on, is) = shown.trace_of q at in (y, c, is, on),
    )

    -- the kind of a drawn point's strip tells whether the point is hidden
    hidden_or : (q : Point) → IsSeenAt d Drawn p q → Hides q ⊎ ¬ Hides q
    hidden_or q at = let (y, c, on, shows) = shown.strip_of q at in told_or y.kind (Hides q) shows.tells

  -- so they are the strips of the view
  pub strips_in : (Ordinary : Point → Type 0) → AreStrips d strips → ((p : Point) → IsPoint p → Ordinary p → ShowAt d Drawn Hides Traced strips p) → AreStripsIn d Drawn Hides Traced Ordinary strips
  strips_in Ordinary are shown = record {
    proper = are;
    clear = λ p positive ordinary. (shown p positive ordinary).clear;
    visible = λ p positive ordinary. visible p (shown p positive ordinary);
    hidden = λ p positive ordinary. hidden_kind p (shown p positive ordinary);
    traced = λ p positive ordinary. trace_kind p (shown p positive ordinary);
    decided = λ p positive ordinary. hidden_or p (shown p positive ordinary);
  }

  module _ (p : Point) (shown : ShowVisible d Drawn Hides strips p) where
    visible_alike : LiesOnKind d strips Seen p ↔ SeesVisible d Drawn Hides p
    visible_alike = (λ v. shown.point, λ v. shown.strip)

    hidden_alike : (LiesOnKind d strips Hidden p × ¬ LiesOnKind d strips Seen p) ↔ SeesHiddenAlone d Drawn Hides p
    hidden_alike = (
      λ h. absurd (h.1 shown.strip),
      λ h. let (q, drawn, sight, unseen) = shown.point in absurd (unseen (h.hidden q (drawn, sight))),
    )

    traced_alike : LiesOnTracesOnly d strips p ↔ SeesTraceAlone d Drawn Traced p
    traced_alike = (
      λ h. let (y, c, is, on) = shown.strip in absurd (not_seen y.kind (h.traces y c on) is),
      λ h. let (q, drawn, sight, unseen) = shown.point in absurd (h.none q (drawn, sight)),
    )

  -- what the strips show at p, by the one or by the other
  abbrev pub Shown : Point → Type 0
  Shown p = ShowAt d Drawn Hides Traced strips p ⊎ ShowVisible d Drawn Hides strips p

  clear_by : (p : Point) → Shown p → IsClear d strips p
  clear_by p (inl shown) = shown.clear
  clear_by p (inr shown) = shown.clear

  visible_by : (p : Point) → Shown p → LiesOnKind d strips Seen p ↔ SeesVisible d Drawn Hides p
  visible_by p (inl shown) = visible p shown
  visible_by p (inr shown) = visible_alike p shown

  hidden_by : (p : Point) → Shown p → (LiesOnKind d strips Hidden p × ¬ LiesOnKind d strips Seen p) ↔ SeesHiddenAlone d Drawn Hides p
  hidden_by p (inl shown) = hidden p shown
  hidden_by p (inr shown) = hidden_alike p shown

  traced_by : (p : Point) → Shown p → LiesOnTracesOnly d strips p ↔ SeesTraceAlone d Drawn Traced p
  traced_by p (inl shown) = traced p shown
  traced_by p (inr shown) = traced_alike p shown

  -- the strips put together are a right list
  pub right_of_merged : (Ordinary : Point → Type 0) → ((p : Point) → IsPoint p → Ordinary p → Shown p)
      → (pieces : List Piece) → AreMerged d strips pieces → AreRightIn d Drawn Hides Traced Ordinary pieces
  right_of_merged Ordinary shown pieces merged = record {
    proper = merged.proper;
    visible = λ p positive ordinary. let at = shown p positive ordinary in both (merged.visible p positive (clear_by p at)) (visible_by p at);
    hidden = λ p positive ordinary. let at = shown p positive ordinary in both (merged.hidden p positive (clear_by p at)) (hidden_by p at);
    traced = λ p positive ordinary. let at = shown p positive ordinary in both (merged.traces p positive (clear_by p at)) (traced_by p at);
    once = λ p positive ordinary. merged.once p positive (clear_by p (shown p positive ordinary));
    whole = merged.whole;
  }
