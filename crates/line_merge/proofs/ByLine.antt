-- What is put together of the strips of some lines, and then of those of later lines, is put together of all of them.
use Rattle.std.proofs.Common.{◌≡◌, ℕ, ◌+◌, ◌<◌, ◌≤◌, ◌⊎◌, inl, inr, List, [], ◌∷◌, ◌++◌, length, take, get_or, map, refl, sym, ap, subst, ◌∙◌, arith, IsPermutation}
use Rattle.std.specs.Cmp.{nat_cmp_is}
use Rattle.std.specs.List.{All, AllZip, filter}
use Rattle.std.specs.Ordering.{ordering_then}
use Rattle.std.specs.declared.cmp.Ordering.{Ordering}
use Rattle.std.specs.declared.cmp.Ordering.TheVariants.{Less}
use Rattle.std.proofs.lemmas.List.{append_assoc, map-append, take_more, length-map, get_or-map}
use Rattle.std.proofs.lemmas.List.Elements.{All-nil, All-append, All-push, All-weaker, All-contains, All-filter, filter-append, Contains-append_right, Contains-get_or}
use Rattle.std.proofs.lemmas.List.Sorted.{IsPermutation-refl, IsPermutation-trans, IsPermutation-append, IsPermutation-append_left}
use Rattle.intervals.specs.declared.interval.Interval.{Interval}
use Rattle.intervals.specs.Cuts.{IsEndOf, AreUnited, AreRest}
use Rattle.intervals.proofs.Touching.{AreEndsOf, united_none}
use Rattle.intervals.proofs.Appended.{AreBefore, united_append, rest_append}
use Rattle.lattice.specs.Triple.{Triple}
use Rattle.lattice.specs.declared.pieces.Piece.{Piece}
use Rattle.lattice.specs.declared.pieces.StripKind.{StripKind}
use Rattle.lattice.specs.declared.pieces.StripKind.TheVariants.{Seen, Hidden, Trace}
use Rattle.lattice.specs.declared.pieces.Style.TheVariants.{Solid, Dashed, Chain}
use Rattle.line_merge.specs.declared.ends.SeenEnd.{SeenEnd}
use Rattle.line_merge.specs.declared.numbering.Numbered.{Numbered}
use Rattle.line_merge.specs.inner.Ends.{seen_order, end_order, IsSeenEndOf, IsIntervalOf, AreUnitedOf}
use Rattle.line_merge.specs.inner.Kinds.{is_up_to}
use Rattle.line_merge.specs.inner.Laws.{end_order_total}
use Rattle.line_merge.specs.declared.numbering.Listed.{Listed}
use Rattle.line_merge.specs.inner.Numbering.{listed_strip}
use Rattle.line_merge.specs.inner.Pieces.{piece_over, pieces_over, ArePiecesOf, AreUpToLine}
use Rattle.line_merge.proofs.Lists.{two_and_two}
use Rattle.line_merge.proofs.Untraced.{nothing_left}
use Rattle.line_merge.proofs.Zips.{zip_right, zip_append}

-- ---- the lines of ends
-- the number of each end's line is so
abbrev HaveLines : (ℕ → Type 0) → List (Interval SeenEnd) → Type 0
HaveLines P us = (t : SeenEnd) → IsEndOf us t → P t.line

both_lines : (d : Triple) (x : Numbered) (i : Interval SeenEnd) → IsIntervalOf d x i → (i.from.line ≡ x.line) × (i.to.line ≡ x.line)
both_lines d x i h = by h.ends
  where
    by : (IsSeenEndOf d x.line x.strip.a i.from × IsSeenEndOf d x.line x.strip.b i.to) ⊎ (IsSeenEndOf d x.line x.strip.b i.from × IsSeenEndOf d x.line x.strip.a i.to) → (i.from.line ≡ x.line) × (i.to.line ≡ x.line)
    by (inl (k, l)) = (k.line, l.line)
    by (inr (k, l)) = (k.line, l.line)

module _ (P : ℕ → Type 0) where
  given_lines : (d : Triple) (given : List Numbered) (xs : List (Interval SeenEnd)) → AllZip (IsIntervalOf d) given xs → All (λ x. P x.line) given → HaveLines P xs
  given_lines d given xs each all t (k, i, within, at, is) =
      let (x, there, h) = zip_right (IsIntervalOf d) given xs each i (k, within, at) in
      by (both_lines d x i h) (All-contains (λ x. P x.line) given x all there) is
    where
      by : {n : ℕ} → (i.from.line ≡ n) × (i.to.line ≡ n) → P n → (i.from ≡ t) ⊎ (i.to ≡ t) → P t.line
      by (e, f) p (inl same) = subst P (sym e ∙ ap (λ (s : SeenEnd). s.line) same) p
      by (e, f) p (inr same) = subst P (sym f ∙ ap (λ (s : SeenEnd). s.line) same) p

  united_lines : (xs us : List (Interval SeenEnd)) → AreUnited end_order xs us → HaveLines P xs → HaveLines P us
  united_lines xs us united lines t (k, u, within, at, is) = lines t (by (All-contains (AreEndsOf xs) us u united.ends (k, within, at)) is)
    where
      by : AreEndsOf xs u → (u.from ≡ t) ⊎ (u.to ≡ t) → IsEndOf xs t
      by (h, k) (inl same) = subst (IsEndOf xs) same h
      by (h, k) (inr same) = subst (IsEndOf xs) same k

  lines_of : (d : Triple) (given : List Numbered) (us : List (Interval SeenEnd)) → AreUnitedOf d given us → All (λ x. P x.line) given → HaveLines P us
  lines_of d given us h all = united_lines h.intervals us h.united (given_lines d given h.intervals h.each all)

before_lines : (n : ℕ) (us vs : List (Interval SeenEnd)) → HaveLines (λ m. m < n) us → HaveLines (λ m. n ≤ m) vs → AreBefore end_order us vs
before_lines n us vs low high s t h k = ap (λ (o : Ordering). ordering_then o (seen_order s t)) (sym (nat_cmp_is s.line t.line Less (less s.line t.line (low s h) (high t k))))
  where
    less : (l m : ℕ) → l < n → n ≤ m → l < m
    less l m h k = omega arith

-- ---- two lists of strips, of which the second is of later lines
module _ (d : Triple) (n : ℕ) (first more : List Numbered) (low : All (λ x. x.line < n) first) (high : All (λ x. n ≤ x.line) more) where
  abbrev kept : StripKind → List Numbered → List Numbered
  kept last = filter (λ x. is_up_to last x.strip.kind)

  low_kept : (last : StripKind) → All (λ x. x.line < n) (kept last first)
  low_kept last = All-filter (λ (x : Numbered). is_up_to last x.strip.kind) (λ x. x.line < n) first low

  high_kept : (last : StripKind) → All (λ x. n ≤ x.line) (kept last more)
  high_kept last = All-filter (λ (x : Numbered). is_up_to last x.strip.kind) (λ x. n ≤ x.line) more high

  united_of_both : (last : StripKind) (us vs : List (Interval SeenEnd)) → AreUnitedOf d (kept last first) us → AreUnitedOf d (kept last more) vs → AreUnitedOf d (kept last (first ++ more)) (us ++ vs)
  united_of_both last us vs h k =
      subst (λ (given : List Numbered). AreUnitedOf d given (us ++ vs)) (sym (filter-append (λ (x : Numbered). is_up_to last x.strip.kind) first more)) (record {
        intervals = h.intervals ++ k.intervals;
        each = zip_append (IsIntervalOf d) (kept last first) h.intervals (kept last more) k.intervals h.each k.each;
        united =
            united_append end_order h.intervals us k.intervals vs h.united k.united
            (before_lines n h.intervals k.intervals
            (given_lines (λ m. m < n) d (kept last first) h.intervals h.each (low_kept last))
            (given_lines (λ m. n ≤ m) d (kept last more) k.intervals k.each (high_kept last)));
      })

  before_of : (last next : StripKind) (us vs : List (Interval SeenEnd)) → AreUnitedOf d (kept last first) us → AreUnitedOf d (kept next more) vs → AreBefore end_order us vs
  before_of last next us vs h k =
      before_lines n us vs (lines_of (λ m. m < n) d (kept last first) us h (low_kept last)) (lines_of (λ m. n ≤ m) d (kept next more) vs k (high_kept next))

  module _ (pieces others : List Piece) (h : ArePiecesOf d first pieces) (k : ArePiecesOf d more others) where
    left_of_both : (last early : StripKind) (us vs ls us' vs' ls' : List (Interval SeenEnd)) → AreUnitedOf d (kept last first) us → AreUnitedOf d (kept early first) vs → AreRest end_order us vs ls
        → AreUnitedOf d (kept last more) us' → AreUnitedOf d (kept early more) vs' → AreRest end_order us' vs' ls' → AreRest end_order (us ++ us') (vs ++ vs') (ls ++ ls')
    left_of_both last early us vs ls us' vs' ls' a b c a' b' c' =
        rest_append end_order_total us vs ls c us' vs' ls' c'
        (before_of last last us us' a a') (before_of last early us vs' a b') (before_of early last vs us' b a') (before_of early early vs vs' b b')

    abbrev solid : List (Interval SeenEnd) → List Piece
    solid = map (piece_over Solid)

    abbrev dashed : List (Interval SeenEnd) → List Piece
    dashed = map (piece_over Dashed)

    abbrev chain : List (Interval SeenEnd) → List Piece
    chain = map (piece_over Chain)

    in_styles : (us vs ls us' vs' ls' : List (Interval SeenEnd)) → IsPermutation (pieces_over (us ++ us') (vs ++ vs') (ls ++ ls')) (pieces_over us vs ls ++ pieces_over us' vs' ls')
    in_styles us vs ls us' vs' ls' =
        subst (λ (l : List Piece). IsPermutation l (pieces_over us vs ls ++ pieces_over us' vs' ls')) (sym together)
        (IsPermutation-trans _ _ _
        (IsPermutation-append_left (chain ls ++ chain ls') ((solid us ++ solid us') ++ (dashed vs ++ dashed vs')) ((solid us ++ dashed vs) ++ (solid us' ++ dashed vs')) (two_and_two (solid us) (solid us') (dashed vs) (dashed vs')))
        (two_and_two (solid us ++ dashed vs) (solid us' ++ dashed vs') (chain ls) (chain ls')))
      where
        together : pieces_over (us ++ us') (vs ++ vs') (ls ++ ls') ≡ ((solid us ++ solid us') ++ (dashed vs ++ dashed vs')) ++ (chain ls ++ chain ls')
        together = λ i. (map-append (piece_over Solid) us us' i ++ map-append (piece_over Dashed) vs vs' i) ++ map-append (piece_over Chain) ls ls' i

    pub pieces_of_both : ArePiecesOf d (first ++ more) (pieces ++ others)
    pieces_of_both = record {
      visible = h.visible ++ k.visible;
      drawn = h.drawn ++ k.drawn;
      hidden = h.hidden ++ k.hidden;
      traces = h.traces ++ k.traces;
      of_visible = united_of_both Seen h.visible k.visible h.of_visible k.of_visible;
      of_drawn = united_of_both Hidden h.drawn k.drawn h.of_drawn k.of_drawn;
      left_hidden = left_of_both Hidden Seen h.drawn h.visible h.hidden k.drawn k.visible k.hidden h.of_drawn h.of_visible h.left_hidden k.of_drawn k.of_visible k.left_hidden;
      left_traces = record {
        all = h.left_traces.all ++ k.left_traces.all;
        united = united_of_both Trace h.left_traces.all k.left_traces.all h.left_traces.united k.left_traces.united;
        left =
            left_of_both Trace Hidden h.left_traces.all h.drawn h.traces k.left_traces.all k.drawn k.traces
            h.left_traces.united h.of_drawn h.left_traces.left k.left_traces.united k.of_drawn k.left_traces.left;
      };
      over =
          IsPermutation-trans _ _ _ (in_styles h.visible h.hidden h.traces k.visible k.hidden k.traces)
          (IsPermutation-append (pieces_over h.visible h.hidden h.traces) pieces (pieces_over k.visible k.hidden k.traces) others h.over k.over);
    }

-- ---- line by line
united_of_none : (d : Triple) → AreUnitedOf d [] []
united_of_none d = record { intervals = []; each = tt; united = united_none end_order }

no_pieces : (d : Triple) → ArePiecesOf d [] []
no_pieces d = record {
  visible = [];
  drawn = [];
  hidden = [];
  traces = [];
  of_visible = united_of_none d;
  of_drawn = united_of_none d;
  left_hidden = nothing_left end_order [];
  left_traces = record { all = []; united = united_of_none d; left = nothing_left end_order [] };
  over = IsPermutation-refl [];
}

pub none_yet : (d : Triple) → AreUpToLine d [] [] [] 0
none_yet d = record { done = []; all = refl; right = no_pieces d; earlier = All-nil (λ (x : Numbered). x.line < 0); on_line = All-nil (λ (x : Numbered). x.line ≡ 0) }

module _ (d : Triple) (given : List Numbered) (pieces : List Piece) (last : List Numbered) (line : ℕ) (h : AreUpToLine d given pieces last line) where
  -- what holds of the strips so far holds of those of the last line
  pub all_last : (P : Numbered → Type 0) → All P given → All P last
  all_last P all k e less = All-contains P (h.done ++ last) _ (subst (All P) h.all all) (Contains-append_right h.done last _ (Contains-get_or last k e less))

  -- one more strip of the same line
  pub one_more : (x : Numbered) → x.line ≡ line → AreUpToLine d (given ++ x ∷ []) pieces (last ++ x ∷ []) x.line
  one_more x same = record {
    done = h.done;
    all = ap (λ (xs : List Numbered). xs ++ x ∷ []) h.all ∙ append_assoc h.done last (x ∷ []);
    right = h.right;
    earlier = All-weaker (λ (y : Numbered). y.line < line) (λ y. y.line < x.line) (λ y k. less y.line k) h.done h.earlier;
    on_line = All-push (λ (y : Numbered). y.line ≡ x.line) last x (All-weaker (λ (y : Numbered). y.line ≡ line) (λ y. y.line ≡ x.line) (λ y k. k ∙ sym same) last h.on_line) refl;
  }
    where
      less : (m : ℕ) → m < line → m < x.line
      less m k = omega (arith, same)

  module _ (others : List Piece) (k : ArePiecesOf d last others) where
    -- with the pieces of the last line
    pub all_lines : ArePiecesOf d given (pieces ++ others)
    all_lines = subst (λ (xs : List Numbered). ArePiecesOf d xs (pieces ++ others)) (sym h.all) (pieces_of_both d line h.done last h.earlier on_or_after pieces others h.right k)
      where
        on_or_after : All (λ x. line ≤ x.line) last
        on_or_after = All-weaker (λ (x : Numbered). x.line ≡ line) (λ x. line ≤ x.line) (λ x e. from_same x.line e) last h.on_line
          where
            from_same : (m : ℕ) → m ≡ line → line ≤ m
            from_same m e = omega (arith, e)

    -- and then the first strip of a later line
    pub next_line : (x : Numbered) → line < x.line → AreUpToLine d (given ++ x ∷ []) (pieces ++ others) (x ∷ []) x.line
    next_line x later = record {
      done = given;
      all = refl;
      right = all_lines;
      earlier =
          subst (All (λ (y : Numbered). y.line < x.line)) (sym h.all)
          (All-append (λ (y : Numbered). y.line < x.line) h.done last
          (All-weaker (λ (y : Numbered). y.line < line) (λ y. y.line < x.line) (λ y l. below y.line l) h.done h.earlier)
          (All-weaker (λ (y : Numbered). y.line ≡ line) (λ y. y.line < x.line) (λ y e. from_same y.line e) last h.on_line));
      on_line = All-push (λ (y : Numbered). y.line ≡ x.line) [] x (All-nil (λ (y : Numbered). y.line ≡ x.line)) refl;
    }
      where
        below : (m : ℕ) → m < line → m < x.line
        below m l = omega arith

        from_same : (m : ℕ) → m ≡ line → m < x.line
        from_same m e = omega (arith, e)

-- ---- strips in another list
pub one_more_listed : (listed : List Listed) (k : ℕ) (x : Listed) → k < length listed → x ≡ get_or listed k x → take (k + 1) (map listed_strip listed) ≡ take k (map listed_strip listed) ++ listed_strip x ∷ []
one_more_listed listed k x within is =
    take_more (map listed_strip listed) k (listed_strip x) (omega (arith, within, length-map listed listed_strip))
    ∙ ap (λ (y : Numbered). take k (map listed_strip listed) ++ y ∷ []) (get_or-map listed_strip listed k x (listed_strip x) within ∙ ap listed_strip (sym is))
