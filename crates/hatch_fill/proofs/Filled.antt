-- The hatch lines of united pairs without the stretches along borders fill the section.
use Rattle.std.proofs.Common.{◌≡◌, ◌↔◌, ◌⊎◌, inl, inr, ℕ, ◌≤◌, ◌^◌, List, [], ◌∷◌, Contains, length, get_or, sym, subst, ◌∙◌, unsigned_abs, arith}
use Rattle.std.specs.Prelude.{ℤ, pos, ◌*ℤ◌, ◌<ℤ◌, ◌≤ℤ◌}
use Rattle.std.specs.List.{All, AllPairs, AllZip}
use Rattle.std.specs.List.Sorted.{IsPermutation, IsSorted}
use Rattle.std.specs.Cmp.{int_ranks}
use Rattle.std.specs.Ordering.{int_cmp, ordering_then, MatchOrdering}
use Rattle.std.specs.declared.cmp.Ordering.{Ordering}
use Rattle.std.specs.declared.cmp.Ordering.TheVariants.{Less, Equal, Greater}
use Rattle.std.proofs.lemmas.Int.{ints, by_lt_z}
use Rattle.std.proofs.lemmas.List.Elements.{All-contains, Contains-append_cases, Contains-get_or}
use Rattle.std.proofs.lemmas.List.Kept.{AllPairs-cons}
use Rattle.integers.proofs.Comparisons.{less_not_at_most, less_not_same, at_most_of_less, at_most_itself}
use Rattle.exact_frac.specs.Frac.{order_of}
use Rattle.intervals.specs.declared.interval.Interval.{Interval}
use Rattle.intervals.specs.Cuts.{IsEndOf, AreUnited, AreRest, Crosses, CrossesAny, IsProper}
use Rattle.intervals.proofs.Lists.{any_of}
use Rattle.lattice.specs.declared.pieces.HatchLine.{HatchLine}
use Rattle.lattice.specs.Triangles.{IsBelow}
use Rattle.lattice.specs.Triple.{Triple}
use Rattle.lattice.specs.Points.{Point, IsPoint, of_spot, across_of}
use Rattle.lattice.specs.Cuts.{Plane, toward_of}
use Rattle.geometry.specs.Parts.{Part, Face, IsClosed}
use Rattle.geometry.specs.Cuts.{IsInSection, border, IsSeenOverInCut}
use Rattle.cut_plane.specs.declared.segments.Segment.{Segment}
use Rattle.cut_plane.specs.Loops.{IsSegmentOf, AreBorders}
use Rattle.cut_plane.proofs.Lists.{contains_first, contains_rest, contains_cases, contains_none, each_contains, pairs_first, pairs_rest}
use Rattle.line_merge.proofs.Zips.{zip_left, zip_right}
use Rattle.cut_plane.specs.Diagonals.{IsUnderBorder}
use Rattle.hatch_fill.specs.declared.places.HatchPlace.{HatchPlace}
use Rattle.hatch_fill.specs.inner.Crossings.{AreCrossings}
use Rattle.hatch_fill.specs.Hatching.{IsLeftOf, IsHatchLine, LiesOnHatch, IsOffBorder, AreApart, HatchStandsBefore, IsHatching}
use Rattle.hatch_fill.specs.inner.Lines.{IsLineOver}
use Rattle.hatch_fill.specs.inner.Parts.{AreJoined}
use Rattle.hatch_fill.specs.inner.Places.{place_order}
use Rattle.hatch_fill.specs.inner.Stretches.{between, pairs_of, IsStretchOf, AreStretches}
use Rattle.hatch_fill.proofs.Along.{by_less}
use Rattle.hatch_fill.proofs.AlongBorders.{covered}
use Rattle.hatch_fill.proofs.Crossed.{same_sight}
use Rattle.hatch_fill.proofs.Cuts.{line_cut, is_line_cut, is_before, before_is_cut, is_not_after, not_after_is_cut, among, crosses, crosses_after, not_line_crossed, of_less, of_most}
use Rattle.hatch_fill.proofs.MeetingLists.{numbers_apart}
use Rattle.hatch_fill.proofs.Paired.{Ascend, EvenLines, pairs_on_lines, crossed_where_odd}
use Rattle.hatch_fill.proofs.Ratios.{less_most, doubled_both}
use Rattle.hatch_fill.proofs.Runs.{less_on_line, one_diagonal, spot_across, spot_divisor, spot_at, is_hatch_line, from_to, lies_within}
use Rattle.hatch_fill.proofs.SegmentCounts.{one_number}
use Rattle.hatch_fill.proofs.Sections.{sorted_ascend, even_sorted, sorted_mark, inside_where_odd_sorted}
use Rattle.hatch_fill.proofs.Turns.{IsAt}
use Rattle.hatch_fill.proofs.Under.{joined_part, IsMark, stretch_marks, stretch_under}

-- ---- lists
pub between_proper : (s t : HatchPlace) → All (IsProper place_order) (between s t)
between_proper s t = by_less s t (All (IsProper place_order)) (λ e. each_contains (IsProper place_order) (record { from = s; to = t } ∷ []) (λ i there. by i e (contains_cases (record { from = s; to = t }) [] i there))) (λ n k d less. absurd (omega arith))
  where
    by : (i : Interval HatchPlace) → place_order s t ≡ Less → (record { from = s; to = t } ≡ i) ⊎ Contains [] i → IsProper place_order i
    by i e (inl same) = subst (IsProper place_order) same e
    by i e (inr k) = absurd (contains_none i k)

pub pairs_proper : (xs : List HatchPlace) → (i : Interval HatchPlace) → Contains (pairs_of xs) i → IsProper place_order i
pairs_proper [] i there = absurd (contains_none i there)
pairs_proper (s ∷ []) i there = absurd (contains_none i there)
pairs_proper (s ∷ t ∷ rest) i there = by (Contains-append_cases (between s t) (pairs_of rest) i there) (pairs_proper rest i)
  where
    by : Contains (between s t) i ⊎ Contains (pairs_of rest) i → (Contains (pairs_of rest) i → IsProper place_order i) → IsProper place_order i
    by (inl here) later = All-contains (IsProper place_order) (between s t) i (between_proper s t) here
    by (inr k) later = later k

pairs_ends : (xs : List HatchPlace) → (i : Interval HatchPlace) → Contains (pairs_of xs) i → Contains xs i.from × Contains xs i.to
pairs_ends [] i there = absurd (contains_none i there)
pairs_ends (s ∷ []) i there = absurd (contains_none i there)
pairs_ends (s ∷ t ∷ rest) i there = by (Contains-append_cases (between s t) (pairs_of rest) i there) (pairs_ends rest i)
  where
    ends : (record { from = s; to = t } ≡ i) ⊎ Contains [] i → Contains (s ∷ t ∷ rest) i.from × Contains (s ∷ t ∷ rest) i.to
    ends (inl e) = subst (λ (j : Interval HatchPlace). Contains (s ∷ t ∷ rest) j.from × Contains (s ∷ t ∷ rest) j.to) e (contains_first (t ∷ rest) s, contains_rest s (t ∷ rest) t (contains_first rest t))
    ends (inr k) = absurd (contains_none i k)

    by : Contains (between s t) i ⊎ Contains (pairs_of rest) i → (Contains (pairs_of rest) i → Contains rest i.from × Contains rest i.to) → Contains (s ∷ t ∷ rest) i.from × Contains (s ∷ t ∷ rest) i.to
    by (inl here) later = by_less s t (λ is. Contains is i → Contains (s ∷ t ∷ rest) i.from × Contains (s ∷ t ∷ rest) i.to) (λ e k. ends (contains_cases (record { from = s; to = t }) [] i k)) (λ n k. absurd (contains_none i k)) here
    by (inr k) later = let (from, to) = later k in (contains_rest s (t ∷ rest) i.from (contains_rest t rest i.from from), contains_rest s (t ∷ rest) i.to (contains_rest t rest i.to to))

-- what holds of two intervals holds of their lines
zip_pairs : {A B : Type 0} (R : A → B → Type 0) (P : A → A → Type 0) (Q : B → B → Type 0) → ((x x' : A) (y y' : B) → R x y → R x' y' → P x x' → Q y y') → (xs : List A) (ys : List B) → AllZip R xs ys → AllPairs P xs → AllPairs Q ys
zip_pairs R P Q holds [] [] zip pairs = λ i j o less within. absurd (omega arith)
zip_pairs R P Q holds [] (y ∷ ys) zip pairs = absurd zip
zip_pairs R P Q holds (x ∷ xs) [] zip pairs = absurd zip
zip_pairs R P Q holds (x ∷ xs) (y ∷ ys) (r, more) pairs =
    AllPairs-cons Q y ys
    (each_contains (Q y) ys (λ y' there. let (x', listed, r') = zip_right R xs ys more y' there in holds x x' y y' r r' (All-contains (P x) xs x' (pairs_first P x xs pairs) listed)))
    (zip_pairs R P Q holds xs ys more (pairs_rest P x xs pairs))

-- an interval of one hatch line, whose ends are on borders
pub record IsRun (c : Plane) (s : Part) (spacing : ℕ) (i : Interval HatchPlace) : Type 0 where
  pub proper : place_order i.from i.to ≡ Less
  pub one : i.from.diagonal ≡ i.to.diagonal
  pub from : IsMark c s spacing i.from
  pub to : IsMark c s spacing i.to

-- what the steps of the filling give
pub record AreSteps (c : Plane) (s : Part) (segments : List Segment) (spacing : ℕ) (places sorted : List HatchPlace) (stretches whole parts rest : List (Interval HatchPlace)) (lines : List HatchLine) : Type 0 where
  pub crossings : AreJoined (AreCrossings (toward_of c) spacing) segments places
  pub moved : IsPermutation places sorted
  pub ascending : IsSorted place_order sorted
  pub united : AreUnited place_order (pairs_of sorted) whole
  pub along : AreJoined (AreStretches (toward_of c) spacing) segments stretches
  pub united_along : AreUnited place_order stretches parts
  pub left : AreRest place_order whole parts rest
  pub drawn : AllZip (IsLineOver c) rest lines

module _ (c : Plane) (small : unsigned_abs c.at ≤ 2 ^ 20) (s : Part) (closed : IsClosed s) (below : All (IsBelow (length s.corners)) s.triangles) (segments : List Segment) (starts : List ℕ) (borders : AreBorders c s segments starts) (spacing : ℕ) (some : 1 ≤ spacing)
    (places sorted : List HatchPlace) (stretches whole parts rest : List (Interval HatchPlace)) (lines : List HatchLine) (steps : AreSteps c s segments spacing places sorted stretches whole parts rest lines) where
  abbrev d : Triple
  d = toward_of c

  ascend : Ascend sorted
  ascend = sorted_ascend sorted steps.ascending

  even : EvenLines sorted
  even = even_sorted c s closed below segments starts borders spacing some places steps.crossings sorted steps.moved

  pair_line : (i : Interval HatchPlace) → Contains (pairs_of sorted) i → i.from.diagonal ≡ i.to.diagonal
  pair_line = pairs_on_lines sorted ascend even

  mark_of : (t : HatchPlace) → Contains sorted t → IsMark c s spacing t
  mark_of = sorted_mark c s closed below segments starts borders spacing some places steps.crossings sorted steps.moved

  -- ---- marks
  pair_mark : (t : HatchPlace) → IsEndOf (pairs_of sorted) t → IsMark c s spacing t
  pair_mark t (k, i, within, at, is) = by (pairs_ends sorted i (k, within, at)) is
    where
      by : Contains sorted i.from × Contains sorted i.to → (i.from ≡ t) ⊎ (i.to ≡ t) → IsMark c s spacing t
      by (from, to) (inl e) = subst (IsMark c s spacing) e (mark_of i.from from)
      by (from, to) (inr e) = subst (IsMark c s spacing) e (mark_of i.to to)

  -- the segment of a stretch
  stretch_of : (i : Interval HatchPlace) → Contains stretches i → (x : Segment) × IsSegmentOf c s x × IsStretchOf d spacing x i
  stretch_of i there =
      let (x, listed, (part, are, in_part)) = joined_part (AreStretches d spacing) segments stretches steps.along i there in
      (x, All-contains (IsSegmentOf c s) segments x borders.each listed, All-contains (IsStretchOf d spacing x) part i are.each in_part)

  stretch_mark : (t : HatchPlace) → IsEndOf stretches t → IsMark c s spacing t
  stretch_mark t (k, i, within, at, is) = let (x, h, stretch) = stretch_of i (k, within, at) in by (stretch_marks c s spacing some x h i stretch) is
    where
      by : IsMark c s spacing i.from × IsMark c s spacing i.to × (i.from.diagonal ≡ i.to.diagonal) → (i.from ≡ t) ⊎ (i.to ≡ t) → IsMark c s spacing t
      by (from, to, one) (inl e) = subst (IsMark c s spacing) e from
      by (from, to, one) (inr e) = subst (IsMark c s spacing) e to

  united_mark : (xs us : List (Interval HatchPlace)) → ((t : HatchPlace) → IsEndOf xs t → IsMark c s spacing t) → AreUnited place_order xs us → (t : HatchPlace) → IsEndOf us t → IsMark c s spacing t
  united_mark xs us marks united t (k, u, within, at, is) = by (All-contains (λ (v : Interval HatchPlace). IsEndOf xs v.from × IsEndOf xs v.to) us u united.ends (k, within, at)) is
    where
      by : IsEndOf xs u.from × IsEndOf xs u.to → (u.from ≡ t) ⊎ (u.to ≡ t) → IsMark c s spacing t
      by (from, to) (inl e) = subst (IsMark c s spacing) e (marks u.from from)
      by (from, to) (inr e) = subst (IsMark c s spacing) e (marks u.to to)

  rest_mark : (t : HatchPlace) → IsEndOf whole t ⊎ IsEndOf parts t → IsMark c s spacing t
  rest_mark t (inl h) = united_mark (pairs_of sorted) whole pair_mark steps.united t h
  rest_mark t (inr h) = united_mark stretches parts stretch_mark steps.united_along t h

  -- ---- runs
  rest_line : (i : Interval HatchPlace) → Contains rest i → place_order i.from i.to ≡ Less → i.from.diagonal ≡ i.to.diagonal
  rest_line i there proper = by (int_cmp i.from.diagonal i.to.diagonal) (int_ranks i.from.diagonal i.to.diagonal) proper
    where
      none : CrossesAny (line_cut i.to.diagonal) (pairs_of sorted) → ⊥
      none (k, u, within, at, crossed) = not_line_crossed u (pair_line u (k, within, at)) (pos 0) (pos 0) (pos 0) i.to.diagonal crossed

      by : (r : Ordering) → MatchOrdering r (i.from.diagonal <ℤ i.to.diagonal) (i.from.diagonal ≡ i.to.diagonal) (i.to.diagonal <ℤ i.from.diagonal) → ordering_then r (order_of i.from.across i.to.across) ≡ Less → i.from.diagonal ≡ i.to.diagonal
      by Less h e =
          let cut = is_line_cut i.to.diagonal in
          absurd (none ((steps.united.within (line_cut i.to.diagonal) cut).0 ((steps.left.within (line_cut i.to.diagonal) cut).0
          (any_of (Crosses (line_cut i.to.diagonal)) rest i there (of_less i.from.diagonal i.to.diagonal h, of_most i.to.diagonal i.to.diagonal (at_most_itself i.to.diagonal)))).0))
      by Equal h e = h
      by Greater h e = cc

  run_of : (i : Interval HatchPlace) → Contains rest i → IsRun c s spacing i
  run_of i there =
      let proper = All-contains (IsProper place_order) rest i steps.left.apart.inside there in
      let (from, to) = All-contains (λ (r : Interval HatchPlace). (IsEndOf whole r.from ⊎ IsEndOf parts r.from) × (IsEndOf whole r.to ⊎ IsEndOf parts r.to)) rest i steps.left.ends there in
      record { proper = proper; one = rest_line i there proper; from = rest_mark i.from from; to = rest_mark i.to to }

  -- ---- points off the borders
  module _ (number : ℤ) (p : Point) (positive : IsPoint p) (on : IsAt d (number *ℤ pos spacing) p) (off : ¬ IsUnderBorder c s p) where
    abbrev D : ℤ
    D = number *ℤ pos spacing

    abbrev u : ℤ
    u = across_of d p

    -- it is at no mark
    off_mark : (t : HatchPlace) → IsMark c s spacing t → t.diagonal ≡ D → t.across.num *ℤ p.w ≡ u *ℤ t.across.den → ⊥
    off_mark t m line e = off (m.under p (subst (λ (z : ℤ). IsAt d z p) (sym line) on) e)

    none_along : CrossesAny (is_before D u p.w) parts → ⊥
    none_along crossed = by ((steps.united_along.within (is_before D u p.w) (before_is_cut D u p.w positive)).0 crossed)
      where
        by : CrossesAny (is_before D u p.w) stretches → ⊥
        by (k, i, within, at, through) =
            let (x, h, stretch) = stretch_of i (k, within, at) in
            let (from, to, one) = stretch_marks c s spacing some x h i stretch in
            let h' = among i one D u p.w through in
            off (stretch_under c s spacing some x h i stretch p positive (subst (λ (z : ℤ). IsAt d z p) (sym h'.line) on) h'.after h'.until)

    crossed_inside : CrossesAny (is_before D u p.w) rest ↔ IsInSection c s p
    crossed_inside =
        let cut = before_is_cut D u p.w positive in
        let odd = crossed_where_odd D u p.w positive sorted ascend even in
        let inside = inside_where_odd_sorted c s closed below segments starts borders spacing some places steps.crossings sorted steps.moved number p positive on off in (
          (λ crossed. inside.0 (odd.0 ((steps.united.within (is_before D u p.w) cut).0 ((steps.left.within (is_before D u p.w) cut).0 crossed).0))),
          (λ within. (steps.left.within (is_before D u p.w) cut).1 ((steps.united.within (is_before D u p.w) cut).1 (odd.1 (inside.1 within)), none_along)),
        )

    most_cases : (a b : ℤ) → a ≤ℤ b → (a <ℤ b) ⊎ (a ≡ b)
    most_cases a b h = by_lt_z a b (λ l. inl l) (λ l. inr (same l))
      where
        same : b ≤ℤ a → a ≡ b
        same l = omega (arith, ints)

    on_line : (x : HatchLine) → Contains lines x → LiesOnHatch d x p → CrossesAny (is_before D u p.w) rest
    on_line x there lies =
        let (i, listed, over) = zip_right (IsLineOver c) rest lines steps.drawn x there in
        let run = run_of i listed in
        let h = from_to c i run.one run.proper x over p positive lies in
        let line = one_diagonal d p i.from.diagonal D positive h.at on in
        any_of (Crosses (is_before D u p.w)) rest i listed (crosses i run.one D u p.w (record { line = line; after = strict i.from run.from line (most_cases _ _ h.from); until = h.to }))
      where
        strict : (t : HatchPlace) → IsMark c s spacing t → t.diagonal ≡ D → ((t.across.num *ℤ p.w) <ℤ (u *ℤ t.across.den)) ⊎ (t.across.num *ℤ p.w ≡ u *ℤ t.across.den) → (t.across.num *ℤ p.w) <ℤ (u *ℤ t.across.den)
        strict t m line (inl h) = h
        strict t m line (inr e) = absurd (off_mark t m line e)

    line_on : CrossesAny (is_before D u p.w) rest → (x : HatchLine) × Contains lines x × LiesOnHatch d x p
    line_on (k, i, within, at, through) =
        let (j, x, inside, is, over) = zip_left (IsLineOver c) rest lines steps.drawn i (k, within, at) in
        let run = run_of i (k, within, at) in
        let h = among i run.one D u p.w through in
        (x, (j, inside, is), lies_within c i run.one run.proper x over p (subst (λ (z : ℤ). IsAt d z p) (sym h.line) on) h.after (strict i.to run.to (sym run.one ∙ h.line) (most_cases _ _ h.until)))
      where
        strict : (t : HatchPlace) → IsMark c s spacing t → t.diagonal ≡ D → ((u *ℤ t.across.den) <ℤ (t.across.num *ℤ p.w)) ⊎ (u *ℤ t.across.den ≡ t.across.num *ℤ p.w) → (u *ℤ t.across.den) <ℤ (t.across.num *ℤ p.w)
        strict t m line (inl h) = h
        strict t m line (inr e) = absurd (off_mark t m line (sym e))

    exactly_here : ((x : HatchLine) × Contains lines x × LiesOnHatch d x p) ↔ IsInSection c s p
    exactly_here = ((λ (x, there, lies). crossed_inside.0 (on_line x there lies)), (λ inside. line_on (crossed_inside.1 inside)))

  -- ---- off borders
  module _ (f : Face s) (x : HatchLine) (there : Contains lines x) where
    never_less : (p q : Point) → IsPoint p → IsPoint q → LiesOnHatch d x p → LiesOnHatch d x q → IsSeenOverInCut c (border f) p → IsSeenOverInCut c (border f) q → (across_of d p *ℤ q.w) <ℤ (across_of d q *ℤ p.w) → ⊥
    never_less p q p_there q_there lies_p lies_q under_p under_q less =
        let (i, listed, over) = zip_right (IsLineOver c) rest lines steps.drawn x there in
        let run = run_of i listed in
        let h = from_to c i run.one run.proper x over p p_there lies_p in
        let h' = from_to c i run.one run.proper x over q q_there lies_q in
        let m = run.from in
        let D = m.number *ℤ pos spacing in
        let at_p = subst (λ (z : ℤ). IsAt d z p) m.line h.at in
        let at_q = subst (λ (z : ℤ). IsAt d z q) m.line h'.at in
        let cut = not_after_is_cut D (across_of d p) p.w p_there in
        let over_it = covered c small s closed.none_flat segments starts borders spacing stretches steps.along f m.number p q p_there q_there at_p at_q under_p under_q less in
        let through = crosses_after i run.one D (across_of d p) p.w m.line h.from (less_most (across_of d p) p.w (across_of d q) q.w i.to.across.num i.to.across.den p_there q_there i.to.across.positive less h'.to) in
        ((steps.left.within (is_not_after D (across_of d p) p.w) cut).0 (any_of (Crosses (is_not_after D (across_of d p) p.w)) rest i listed through)).1
        ((steps.united_along.within (is_not_after D (across_of d p) p.w) cut).1 over_it)

    off_border : IsOffBorder c f x
    off_border p q p_there q_there lies_p lies_q under_p under_q =
        let (i, listed, over) = zip_right (IsLineOver c) rest lines steps.drawn x there in
        let run = run_of i listed in
        let h = from_to c i run.one run.proper x over p p_there lies_p in
        let h' = from_to c i run.one run.proper x over q q_there lies_q in
        same_sight d p q i.from.diagonal h.at h'.at
        (by_lt_z (across_of d p *ℤ q.w) (across_of d q *ℤ p.w) (λ l. absurd (never_less p q p_there q_there lies_p lies_q under_p under_q l))
        (λ least. by_lt_z (across_of d q *ℤ p.w) (across_of d p *ℤ q.w) (λ l. absurd (never_less q p q_there p_there lies_q lies_p under_q under_p l)) (λ most. same most least)))
      where
        same : (across_of d p *ℤ q.w) ≤ℤ (across_of d q *ℤ p.w) → (across_of d q *ℤ p.w) ≤ℤ (across_of d p *ℤ q.w) → across_of d p *ℤ q.w ≡ across_of d q *ℤ p.w
        same h k = omega (arith, ints)

  -- ---- apart and in order
  -- two runs, the first before the second
  record AreAfter (i i' : Interval HatchPlace) : Type 0 where
    pub first : IsRun c s spacing i
    pub second : IsRun c s spacing i'
    pub less : place_order i.to i'.from ≡ Less

  after : AllPairs AreAfter rest
  after k j o less within = record {
    first = run_of (get_or rest k o) (Contains-get_or rest k o (omega arith));
    second = run_of (get_or rest j o) (Contains-get_or rest j o within);
    less = steps.left.apart.apart k j o less within;
  }

  lines_apart : (i i' : Interval HatchPlace) (x x' : HatchLine) → IsLineOver c i x → IsLineOver c i' x' → AreAfter i i' → AreApart d x x'
  lines_apart i i' x x' over over' h p there lies lies' =
      let at = from_to c i h.first.one h.first.proper x over p there lies in
      let at' = from_to c i' h.second.one h.second.proper x' over' p there lies' in
      let one = one_diagonal d p i.from.diagonal i'.from.diagonal there at.at at'.at in
      let less = less_on_line i.to i'.from (sym h.first.one ∙ one) h.less in
      less_not_at_most _ _ (less_most i.to.across.num i.to.across.den i'.from.across.num i'.from.across.den (across_of d p) p.w i.to.across.positive i'.from.across.positive there less at'.from) at.to

  stands : (i i' : Interval HatchPlace) (x x' : HatchLine) → IsLineOver c i x → IsLineOver c i' x' → AreAfter i i' → HatchStandsBefore c spacing x x'
  stands i i' x x' over over' h m n is is' = by (int_cmp i.to.diagonal i'.from.diagonal) (int_ranks i.to.diagonal i'.from.diagonal) h.less
    where
      first : m *ℤ pos spacing ≡ i.from.diagonal
      first = one_diagonal d (of_spot x.a) (m *ℤ pos spacing) i.from.diagonal x.a.positive is.first (spot_at c i.from x.a over.first)

      second : n *ℤ pos spacing ≡ i'.from.diagonal
      second = one_diagonal d (of_spot x'.a) (n *ℤ pos spacing) i'.from.diagonal x'.a.positive is'.first (spot_at c i'.from x'.a over'.first)

      lesser : i.to.diagonal <ℤ i'.from.diagonal → m <ℤ n
      lesser l = by_lt_z m n (λ k. k) (λ most. absurd (past most (subst (λ (z : ℤ). z <ℤ (n *ℤ pos spacing)) (sym h.first.one ∙ sym first) (subst (λ (z : ℤ). i.to.diagonal <ℤ z) (sym second) l))))
        where
          past : n ≤ℤ m → (m *ℤ pos spacing) <ℤ (n *ℤ pos spacing) → ⊥
          past most k = by_lt_z n m (λ o. less_not_at_most _ _ k (at_most_of_less _ _ (numbers_apart n m spacing some o))) (λ o. less_not_same _ _ k (λ z. same o most z *ℤ pos spacing))
            where
              same : m ≤ℤ n → n ≤ℤ m → m ≡ n
              same a b = omega (arith, ints)

      further : i.to.diagonal ≡ i'.from.diagonal → place_order i.to i'.from ≡ Less → IsLeftOf d (of_spot x.a) (of_spot x'.a)
      further one l =
          let a = less_on_line i.from i.to h.first.one h.first.proper in
          let b = less_on_line i.to i'.from one l in
          subst (λ (z : ℤ). z <ℤ (across_of d (of_spot x'.a) *ℤ x.a.w)) (λ t. sym (spot_across c i.from x.a over.first) t *ℤ sym (spot_divisor c i'.from x'.a over'.first) t)
          (subst (λ (z : ℤ). ((pos 2 *ℤ i.from.across.num) *ℤ (pos 2 *ℤ i'.from.across.den)) <ℤ z) (λ t. sym (spot_across c i'.from x'.a over'.first) t *ℤ sym (spot_divisor c i.from x.a over.first) t)
          (doubled_both i.from.across.num i.from.across.den i'.from.across.num i'.from.across.den
          (less_most i.from.across.num i.from.across.den i.to.across.num i.to.across.den i'.from.across.num i'.from.across.den i.from.across.positive i.to.across.positive i'.from.across.positive a (at_most_of_less _ _ b))))

      by : (r : Ordering) → MatchOrdering r (i.to.diagonal <ℤ i'.from.diagonal) (i.to.diagonal ≡ i'.from.diagonal) (i'.from.diagonal <ℤ i.to.diagonal) → ordering_then r (order_of i.to.across i'.from.across) ≡ Less → (m <ℤ n) ⊎ ((m ≡ n) × IsLeftOf d (of_spot x.a) (of_spot x'.a))
      by Less l e = inl (lesser l)
      by Equal one e = inr (one_number m n spacing some (first ∙ h.first.one ∙ one ∙ sym second), further one h.less)
      by Greater l e = cc

  pub filled : IsHatching c s spacing lines
  filled = record {
    each = each_contains (λ x. (number : ℤ) × IsHatchLine c spacing number x) lines (λ x there.
        let (i, listed, over) = zip_right (IsLineOver c) rest lines steps.drawn x there in
        let run = run_of i listed in
        (run.from.number, is_hatch_line c i run.one run.proper x over run.from.number spacing run.from.line));
    exactly = exactly_here;
    off_borders = λ f. each_contains (IsOffBorder c f) lines (λ x there. off_border f x there);
    apart = zip_pairs (IsLineOver c) AreAfter (AreApart d) lines_apart rest lines steps.drawn after;
    order = zip_pairs (IsLineOver c) AreAfter (HatchStandsBefore c spacing) stands rest lines steps.drawn after;
  }
