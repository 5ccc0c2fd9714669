-- The pieces of the styles' layers are the strips put together.
use Rattle.std.proofs.Common.{◌≡◌, ℕ, ◌⊎◌, inl, inr, Bool, true, false, true≢false, List, ◌++◌, Contains, ◌↔◌, map, get_or, refl, sym, ap, subst, ◌∙◌, arith}
use Rattle.std.specs.List.{All, AllPairs}
use Rattle.std.specs.List.Sorted.{IsPermutation, IsSorted}
use Rattle.std.specs.Ordering.{nat_cmp, ordering_then, ordering_reverse, is_lt}
use Rattle.std.specs.declared.cmp.Ordering.TheVariants.{Less, Greater}
use Rattle.std.proofs.lemmas.List.{length-map, get_or-map}
use Rattle.std.proofs.lemmas.List.Elements.{All-contains, All-map, All-weaker, Contains-append_left, Contains-append_right, Contains-append_cases, Contains-get_or}
use Rattle.std.proofs.lemmas.List.Sorted.{Contains-permutation, IsPermutation-sym, ranks_by, sorted_far}
use Rattle.intervals.specs.declared.interval.Interval.{Interval}
use Rattle.intervals.specs.Cuts.{AreRest, Crosses}
use Rattle.intervals.proofs.Lists.{pairs_append}
use Rattle.lattice.specs.declared.lines.Line.{Line}
use Rattle.lattice.specs.declared.pieces.Piece.{Piece}
use Rattle.lattice.specs.declared.pieces.Strip.{Strip}
use Rattle.lattice.specs.declared.pieces.StripKind.{StripKind}
use Rattle.lattice.specs.declared.pieces.StripKind.TheVariants.{Seen, Hidden, Trace}
use Rattle.lattice.specs.declared.pieces.Style.{Style}
use Rattle.lattice.specs.declared.pieces.Style.TheVariants.{Solid, Dashed, Chain}
use Rattle.lattice.specs.Triple.{Triple}
use Rattle.lattice.specs.Points.{Point, IsPoint, of_spot, OnOneSight}
use Rattle.geometry.specs.Pieces.{rank_of, LiesBetween, LiesOn, LiesOnStyle, PieceStandsBefore, ArePiecesParallel, ShareAnEnd, IsBefore}
use Rattle.line_merge.specs.declared.ends.SeenEnd.{SeenEnd}
use Rattle.line_merge.specs.inner.Kinds.{is_up_to}
use Rattle.line_merge.specs.inner.Ends.{end_order}
use Rattle.line_merge.specs.inner.Pieces.{piece_order, pieces_over}
use Rattle.line_merge.proofs.Stretches.{Stretch, stretch_order, stretch_of, piece_of, stretches_over, pieces_of_stretches}
use Rattle.line_merge.specs.Merging.{LiesOnStrip, IsClear, LiesOnKind, LiesOnTracesOnly, AreMerged}
use Rattle.line_merge.proofs.Sights.{not_seen, piece_order_total}
use Rattle.line_merge.proofs.EndOrders.{seen_is}
use Rattle.line_merge.proofs.Lists.{map_contains, contains_map, pairs_map, pairs_from, pairs_permuted, map_permuted}
use Rattle.line_merge.proofs.Courses.{cut_at, is_cut, AreNumberedStrips, IsCourse, meets}
use Rattle.line_merge.proofs.Given.{lies_of_any, any_of_lies}
use Rattle.line_merge.proofs.Drawn.{AreSeparate, separate_back, IsAlong, not_going_on, stands_first}
use Rattle.line_merge.proofs.Layers.{IsCover, IsShownOn, IsLayer, on_strip_line, one_number, cover_layer, rest_layer}

-- ---- styles and kinds
-- the strips that a style shows where none goes before them
abbrev pub shown_in : Style → Strip → Bool
shown_in Solid x = is_up_to Seen x.kind
shown_in Dashed x = is_up_to Hidden x.kind
shown_in Chain x = is_up_to Trace x.kind

-- those that go before a style
abbrev pub before_in : Style → Strip → Bool
before_in Solid x = false
before_in Dashed x = is_up_to Seen x.kind
before_in Chain x = is_up_to Hidden x.kind

seen_of : (k : StripKind) → is_up_to Seen k ≡ true → k ≡ Seen
seen_of Seen h = refl
seen_of Hidden h = cc
seen_of Trace h = cc

hidden_of : (k : StripKind) → is_up_to Hidden k ≡ true → ¬ (k ≡ Seen) → k ≡ Hidden
hidden_of Seen h none = absurd (none refl)
hidden_of Hidden h none = refl
hidden_of Trace h none = cc

trace_of : (k : StripKind) → ¬ (is_up_to Hidden k ≡ true) → k ≡ Trace
trace_of Seen none = absurd (none refl)
trace_of Hidden none = absurd (none refl)
trace_of Trace none = refl

not_trace : (k : StripKind) → is_up_to Hidden k ≡ true → k ≡ Trace → ⊥
not_trace Seen h e = cc
not_trace Hidden h e = cc
not_trace Trace h e = cc

seen_early : (k : StripKind) → is_up_to Seen k ≡ true → is_up_to Hidden k ≡ true
seen_early Seen h = refl
seen_early Hidden h = refl
seen_early Trace h = cc

-- what the one style shows goes before the other
abbrev GoesBefore : Style → Style → Type 0
GoesBefore x y = (s : Strip) → shown_in x s ≡ true → before_in y s ≡ true

order_of_styles : (x y : Style) → (x ≡ y) ⊎ (GoesBefore x y ⊎ GoesBefore y x)
order_of_styles Solid Solid = inl refl
order_of_styles Solid Dashed = inr (inl (λ s h. h))
order_of_styles Solid Chain = inr (inl (λ s h. seen_early s.kind h))
order_of_styles Dashed Solid = inr (inr (λ s h. h))
order_of_styles Dashed Dashed = inl refl
order_of_styles Dashed Chain = inr (inl (λ s h. h))
order_of_styles Chain Solid = inr (inr (λ s h. seen_early s.kind h))
order_of_styles Chain Dashed = inr (inr (λ s h. h))
order_of_styles Chain Chain = inl refl

-- each style's layer
abbrev pub layer_of : List (Interval SeenEnd) → List (Interval SeenEnd) → List (Interval SeenEnd) → Style → List (Interval SeenEnd)
layer_of visible hidden traces Solid = visible
layer_of visible hidden traces Dashed = hidden
layer_of visible hidden traces Chain = traces

module _ (d : Triple) (strips : List Strip) (number : Line → ℕ) (are : AreNumberedStrips d strips number) (layers : Style → List (Interval SeenEnd))
    (right : (style : Style) → IsLayer d strips number (shown_in style) (before_in style) (layers style)) where
  -- ---- the stretches, before they are sorted
  abbrev in_style : Style → List Stretch
  in_style style = map (stretch_of style) (layers style)

  abbrev drawn : List Stretch
  drawn = (in_style Solid ++ in_style Dashed) ++ in_style Chain

  -- it comes from its style's layer
  abbrev IsDrawn : Stretch → Type 0
  IsDrawn s = (u : Interval SeenEnd) × Contains (layers s.style) u × (stretch_of s.style u ≡ s)

  drawn_in : (style : Style) (s : Stretch) → Contains (in_style style) s → IsDrawn s
  drawn_in style s there = let (u, there_u, e) = contains_map (stretch_of style) (layers style) s there in subst IsDrawn e (u, there_u, refl)

  is_drawn : (s : Stretch) → Contains drawn s → IsDrawn s
  is_drawn s there = by (Contains-append_cases (in_style Solid ++ in_style Dashed) (in_style Chain) s there)
    where
      first : Contains (in_style Solid) s ⊎ Contains (in_style Dashed) s → IsDrawn s
      first (inl c) = drawn_in Solid s c
      first (inr c) = drawn_in Dashed s c

      by : Contains (in_style Solid ++ in_style Dashed) s ⊎ Contains (in_style Chain) s → IsDrawn s
      by (inl c) = first (Contains-append_cases (in_style Solid) (in_style Dashed) s c)
      by (inr c) = drawn_in Chain s c

  in_drawn : (style : Style) (s : Stretch) → Contains (in_style style) s → Contains drawn s
  in_drawn Solid s c = Contains-append_left (in_style Solid ++ in_style Dashed) (in_style Chain) s (Contains-append_left (in_style Solid) (in_style Dashed) s c)
  in_drawn Dashed s c = Contains-append_left (in_style Solid ++ in_style Dashed) (in_style Chain) s (Contains-append_right (in_style Solid) (in_style Dashed) s c)
  in_drawn Chain s c = Contains-append_right (in_style Solid ++ in_style Dashed) (in_style Chain) s c

  along : (s : Stretch) → IsDrawn s → IsAlong d strips number s
  along s (u, there, e) = subst (IsAlong d strips number) e (All-contains (IsCourse d strips number) (layers s.style) u (right s.style).courses there)

  style_in : (style : Style) (s : Stretch) → Contains (in_style style) s → s.style ≡ style
  style_in style s there = let (u, there_u, e) = contains_map (stretch_of style) (layers style) s there in sym (ap (λ (t : Stretch). t.style) e)

  separate_drawn : AllPairs AreSeparate drawn
  separate_drawn =
      pairs_append AreSeparate (in_style Solid ++ in_style Dashed) (in_style Chain)
      (pairs_append AreSeparate (in_style Solid) (in_style Dashed) (each Solid) (each Dashed) (λ x y in_x in_y. other Solid Dashed (λ e. cc) x y in_x in_y)) (each Chain)
      (λ x y in_x in_y. two x y in_y (Contains-append_cases (in_style Solid) (in_style Dashed) x in_x))
    where
      each : (style : Style) → AllPairs AreSeparate (in_style style)
      each style = pairs_map AreSeparate (stretch_of style) (layers style) (λ i j e less within same. inl ((right style).apart.apart i j e less within))

      other : (a b : Style) → ¬ (a ≡ b) → (x y : Stretch) → Contains (in_style a) x → Contains (in_style b) y → AreSeparate x y
      other a b differ x y in_x in_y same = absurd (differ (sym (style_in a x in_x) ∙ same ∙ style_in b y in_y))

      two : (x y : Stretch) → Contains (in_style Chain) y → Contains (in_style Solid) x ⊎ Contains (in_style Dashed) x → AreSeparate x y
      two x y in_y (inl in_x) = other Solid Chain (λ e. cc) x y in_x in_y
      two x y in_y (inr in_x) = other Dashed Chain (λ e. cc) x y in_x in_y

  -- ---- a point that is clear of ends and of other lines
  module _ (p : Point) (positive : IsPoint p) (clear : IsClear d strips p) where
    -- what is shown of a stretch on which it lies
    shown_at : (s : Stretch) → IsDrawn s → LiesOn d (piece_of s) p → IsShownOn d strips number (shown_in s.style) (before_in s.style) s.from.line p
    shown_at s (u, there, e) on =
        let (on_line, c) = any_of_lies d strips number are (layers s.style) (right s.style).courses p positive clear.off_ends u there (subst (λ (t : Stretch). LiesBetween d t.from.spot t.to.spot p) (sym e) on) in
        subst (λ (t : Stretch). IsShownOn d strips number (shown_in s.style) (before_in s.style) t.from.line p) e (((right s.style).within p positive clear u.from.line on_line).0 c)

    one_line_at : (s t : Stretch) → IsDrawn s → IsDrawn t → LiesOn d (piece_of s) p → LiesOn d (piece_of t) p → s.from.line ≡ t.from.line
    one_line_at s t drawn_s drawn_t on_s on_t =
        let x = shown_at s drawn_s on_s in
        let y = shown_at t drawn_t on_t in
        sym x.line ∙ one_number d strips number are p clear x.strip y.strip x.listed y.listed x.on y.on ∙ y.line

    -- no cut goes through two that are clear of each other
    not_both : (n : ℕ) (s t : Stretch) → Crosses (cut_at d n p) (record { from = s.from; to = s.to }) → Crosses (cut_at d n p) (record { from = t.from; to = t.to }) → end_order s.to t.from ≡ Less → ⊥
    not_both n s t (in_s, out_s) (in_t, out_t) less = true≢false (sym (is_cut d n p positive s.to t.from in_t (λ k. cc)) ∙ out_s)

    through : (s : Stretch) → IsDrawn s → LiesOn d (piece_of s) p → Crosses (cut_at d s.from.line p) (record { from = s.from; to = s.to })
    through s drawn_s on = (meets d strips number are (record { from = s.from; to = s.to }) (along s drawn_s) p positive clear.off_ends on).1

    not_two : (s t : Stretch) → IsDrawn s → IsDrawn t → AreSeparate s t → LiesOn d (piece_of s) p → ¬ LiesOn d (piece_of t) p
    not_two s t drawn_s drawn_t separate on_s on_t = by (order_of_styles s.style t.style)
      where
        in_t : Crosses (cut_at d s.from.line p) (record { from = t.from; to = t.to })
        in_t =
            subst (λ n. Crosses (cut_at d n p) (record { from = t.from; to = t.to }))
            (one_line_at t s drawn_t drawn_s on_t on_s) (through t drawn_t on_t)

        clear_of : end_order s.to t.from ≡ Less ⊎ end_order t.to s.from ≡ Less → ⊥
        clear_of (inl less) = not_both s.from.line s t (through s drawn_s on_s) in_t less
        clear_of (inr less) = not_both s.from.line t s in_t (through s drawn_s on_s) less

        earlier : (x y : Stretch) → IsDrawn x → IsDrawn y → LiesOn d (piece_of x) p → LiesOn d (piece_of y) p → GoesBefore x.style y.style → ⊥
        earlier x y drawn_x drawn_y on_x on_y before =
            let shown = shown_at x drawn_x on_x in
            (shown_at y drawn_y on_y).bare shown.strip shown.listed (before shown.strip shown.kept) shown.on

        by : (s.style ≡ t.style) ⊎ (GoesBefore s.style t.style ⊎ GoesBefore t.style s.style) → ⊥
        by (inl same) = clear_of (separate same)
        by (inr (inl before)) = earlier s t drawn_s drawn_t on_s on_t before
        by (inr (inr before)) = earlier t s drawn_t drawn_s on_t on_s before

  -- ---- the pieces, in order
  module _ (sorted : List Stretch) (moves : IsPermutation drawn sorted) (ascending : IsSorted (piece_order d) (map piece_of sorted)) where
    abbrev pieces : List Piece
    pieces = map piece_of sorted

    drawn_of : (s : Stretch) → Contains sorted s → IsDrawn s
    drawn_of s there = is_drawn s (Contains-permutation sorted drawn s (IsPermutation-sym drawn sorted moves) there)

    separate : AllPairs AreSeparate sorted
    separate = pairs_permuted AreSeparate separate_back drawn sorted moves separate_drawn

    pairs_of : (T : Stretch → Stretch → Type 0) → ((x y : Stretch) → IsDrawn x → IsDrawn y → AreSeparate x y → ¬ (stretch_order x y ≡ Greater) → T x y) → AllPairs T sorted
    pairs_of T holds =
        pairs_from AreSeparate (λ x y. ¬ (stretch_order x y ≡ Greater)) T sorted separate not_after
        (λ x y there_x there_y apart h. holds x y (drawn_of x there_x) (drawn_of y there_y) apart h)
      where
        -- the order of stretches is that of their pieces
        same_order : (x y : Stretch) → IsAlong d strips number x → IsAlong d strips number y → stretch_order x y ≡ piece_order d (piece_of x) (piece_of y)
        same_order x y along_x along_y =
            λ i. ordering_then (nat_cmp (rank_of x.style) (rank_of y.style))
            (ordering_then (seen_is d x.from y.from along_x.from.seen along_y.from.seen i) (seen_is d x.to y.to along_x.to.seen along_y.to.seen i))

        pieces_after : AllPairs (λ l m. ¬ (piece_order d l m ≡ Greater)) pieces
        pieces_after i j e less within after =
            let l = get_or pieces i e in
            let m = get_or pieces j e in
            true≢false
            (sym (ap is_lt ((piece_order_total d).antisymm m l ∙ ap ordering_reverse after))
            ∙ sorted_far (λ l m. is_lt (piece_order d l m)) (ranks_by (piece_order_total d) (λ (l : Piece). l)) pieces ascending i j e (omega arith) within)

        not_after : AllPairs (λ x y. ¬ (stretch_order x y ≡ Greater)) sorted
        not_after i j e less within after =
            let x = get_or sorted i e in
            let y = get_or sorted j e in
            let in_x = Contains-get_or sorted i e (omega arith) in
            let in_y = Contains-get_or sorted j e within in
            let long = length-map sorted piece_of in
            pieces_after i j (piece_of e) less (omega (arith, long))
            ((λ k. piece_order d (get_or-map piece_of sorted i e (piece_of e) (omega arith) k) (get_or-map piece_of sorted j e (piece_of e) within k))
            ∙ sym (same_order x y (along x (drawn_of x in_x)) (along y (drawn_of y in_y))) ∙ after)

    -- p lies on a strip that the style shows, and on none that goes before it
    abbrev IsShown : Style → Point → Type 0
    IsShown style p =
        ((x : Strip) × Contains strips x × (shown_in style x ≡ true) × LiesOnStrip d x p)
        × ((y : Strip) → Contains strips y → before_in style y ≡ true → ¬ LiesOnStrip d y p)

    module _ (p : Point) (positive : IsPoint p) (clear : IsClear d strips p) where
      shown_of : (style : Style) → LiesOnStyle d pieces style p → IsShown style p
      shown_of style (l, there, is, on) =
          let (s, in_sorted, e) = contains_map piece_of sorted l there in
          let h = shown_at p positive clear s (drawn_of s in_sorted) (subst (λ (m : Piece). LiesOn d m p) (sym e) on) in
          subst (λ (style : Style). IsShown style p) (ap (λ (m : Piece). m.style) e ∙ is) ((h.strip, h.listed, h.kept, h.on), h.bare)

      of_shown : (style : Style) → IsShown style p → LiesOnStyle d pieces style p
      of_shown style ((x, there, kept, on), bare) =
          let on_line = on_strip_line d strips number are x there p on in
          let c = ((right style).within p positive clear (number x.line) on_line).1 (record { strip = x; listed = there; kept = kept; on = on; line = refl; bare = bare }) in
          let (u, there_u, lies) = lies_of_any d strips number are (layers style) (right style).courses p positive clear.off_ends (number x.line) on_line c in (
            piece_of (stretch_of style u),
            map_contains piece_of sorted (stretch_of style u)
                (Contains-permutation drawn sorted (stretch_of style u) moves (in_drawn style (stretch_of style u) (map_contains (stretch_of style) (layers style) u there_u))),
            refl,
            lies,
          )

      solid : LiesOnStyle d pieces Solid p ↔ LiesOnKind d strips Seen p
      solid = (
        λ on. let ((x, there, kept, lies), bare) = shown_of Solid on in (x, there, seen_of x.kind kept, lies),
        λ h. let (x, there, is, lies) = h in of_shown Solid ((x, there, ap (is_up_to Seen) is, lies), λ y there_y early on_y. cc),
      )

      dashed : LiesOnStyle d pieces Dashed p ↔ (LiesOnKind d strips Hidden p × ¬ LiesOnKind d strips Seen p)
      dashed = (
        λ on. let ((x, there, kept, lies), bare) = shown_of Dashed on in (
          (x, there, hidden_of x.kind kept (λ is. bare x there (ap (is_up_to Seen) is) lies), lies),
          λ h. let (y, there_y, is, on_y) = h in bare y there_y (ap (is_up_to Seen) is) on_y,
        ),
        λ h. let ((x, there, is, lies), none) = h in
            of_shown Dashed ((x, there, ap (is_up_to Hidden) is, lies), λ y there_y early on_y. none (y, there_y, seen_of y.kind early, on_y)),
      )

      chain : LiesOnStyle d pieces Chain p ↔ LiesOnTracesOnly d strips p
      chain = (
        λ on. let ((x, there, kept, lies), bare) = shown_of Chain on in
            record { some = (x, there, lies); traces = λ y there_y on_y. trace_of y.kind (λ early. bare y there_y early on_y) },
        λ h. let (x, there, lies) = h.some in
            of_shown Chain ((x, there, refl, lies), λ y there_y early on_y. not_trace y.kind early (h.traces y there_y on_y)),
      )

    ascends : (s : Stretch) → Contains sorted s → IsBefore d (of_spot s.from.spot) (of_spot s.to.spot)
    ascends s there = (along s (drawn_of s there)).before

    all_ascend : All (λ (l : Piece). IsBefore d (of_spot l.a) (of_spot l.b)) pieces
    all_ascend = All-map (λ (l : Piece). IsBefore d (of_spot l.a) (of_spot l.b)) piece_of sorted (λ k e less. ascends (get_or sorted k e) (Contains-get_or sorted k e less))

    pub merged : AreMerged d strips pieces
    merged = record {
      proper = All-weaker (λ (l : Piece). IsBefore d (of_spot l.a) (of_spot l.b)) (λ (l : Piece). ¬ OnOneSight d (of_spot l.a) (of_spot l.b)) (λ l. not_seen d (of_spot l.a) (of_spot l.b)) pieces all_ascend;
      visible = solid;
      hidden = dashed;
      traces = chain;
      once = λ p positive clear.
          pairs_map (λ (l m : Piece). LiesOn d l p → ¬ LiesOn d m p) piece_of sorted
          (pairs_of (λ x y. LiesOn d (piece_of x) p → ¬ LiesOn d (piece_of y) p) (λ x y drawn_x drawn_y apart h. not_two p positive clear x y drawn_x drawn_y apart));
      whole =
          pairs_map (λ (l m : Piece). l.style ≡ m.style → ArePiecesParallel d l m → ¬ ShareAnEnd d l m) piece_of sorted
          (pairs_of (λ x y. x.style ≡ y.style → ArePiecesParallel d (piece_of x) (piece_of y) → ¬ ShareAnEnd d (piece_of x) (piece_of y))
          (λ x y drawn_x drawn_y apart h same. not_going_on d strips number are x y (along x drawn_x) (along y drawn_y) (apart same)));
      order = record {
        ends = all_ascend;
        order =
            pairs_map (PieceStandsBefore d) piece_of sorted
            (pairs_of (λ x y. PieceStandsBefore d (piece_of x) (piece_of y)) (λ x y drawn_x drawn_y apart h. stands_first d strips number are x y (along x drawn_x) (along y drawn_y) apart h));
      };
    }

-- ---- the steps of the merging
pub record AreSteps (d : Triple) (strips : List Strip) (number : Line → ℕ) (visible drawn all hidden traces : List (Interval SeenEnd)) : Type 0 where
  pub are : AreNumberedStrips d strips number
  pub of_visible : IsCover d strips number (shown_in Solid) visible
  pub of_drawn : IsCover d strips number (shown_in Dashed) drawn
  pub of_all : IsCover d strips number (shown_in Chain) all
  pub left_hidden : AreRest end_order drawn visible hidden
  pub left_traces : AreRest end_order all drawn traces

module _ (d : Triple) (strips : List Strip) (number : Line → ℕ) (visible drawn all hidden traces : List (Interval SeenEnd)) (steps : AreSteps d strips number visible drawn all hidden traces) where
  abbrev layers : Style → List (Interval SeenEnd)
  layers = layer_of visible hidden traces

  right : (style : Style) → IsLayer d strips number (shown_in style) (before_in style) (layers style)
  right Solid = cover_layer d strips number steps.are (shown_in Solid) visible steps.of_visible
  right Dashed = rest_layer d strips number steps.are (shown_in Dashed) (shown_in Solid) drawn visible hidden steps.of_drawn steps.of_visible steps.left_hidden
  right Chain = rest_layer d strips number steps.are (shown_in Chain) (shown_in Dashed) all drawn traces steps.of_all steps.of_drawn steps.left_traces

  pub merged_of : (pieces : List Piece) → IsPermutation (pieces_over visible hidden traces) pieces → IsSorted (piece_order d) pieces → AreMerged d strips pieces
  merged_of pieces moves ascending =
      let (sorted, e, moved) = map_permuted piece_of (stretches_over visible hidden traces) pieces
      (subst (λ (ls : List Piece). IsPermutation ls pieces) (pieces_of_stretches visible hidden traces) moves) in
      subst (AreMerged d strips) (sym e) (merged d strips number steps.are layers right sorted moved (subst (λ (ls : List Piece). IsSorted (piece_order d) ls) e ascending))
