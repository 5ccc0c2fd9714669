-- Where what the plane leaves of a face that is edge-on hides an edge: where a side of it hides the edge, and a side of it is beyond the plane.
use Rattle.std.proofs.Common.{◌≡◌, ◌⊎◌, inl, inr, List, [], ◌∷◌, Option, sym, subst, arith, All, length}
use Rattle.std.specs.Prelude.{ℤ, pos, ◌<ℤ◌, ◌≤ℤ◌, ◌↔◌, IfSome, IfNone, option_to_list}
use Rattle.std.proofs.lemmas.Int.{ints}
use Rattle.integers.proofs.Comparisons.{at_most_of_less, positive_not_zero, positive_of_more}
use Rattle.lattice.specs.declared.points.Corner.{Corner}
use Rattle.lattice.specs.Triangles.{IsBelow}
use Rattle.lattice.specs.Triple.{Triple, dot}
use Rattle.lattice.specs.Points.{Point, IsPoint, point_of, difference, OnOneSight}
use Rattle.lattice.specs.Cuts.{Plane, toward_of, IsBeyond}
use Rattle.geometry.specs.Faces.{share_point, facing_of, IsFlat}
use Rattle.geometry.specs.Parts.{Part, Face, Edge, IsClosed}
use Rattle.geometry.specs.Cuts.{FaceHidesInCut}
use Rattle.geometry.specs.Sound.{IsSound}
use Rattle.geometry.specs.Views.{IsOrdinary}
use Rattle.hiding_laws.specs.Values.{value_at, past_of, short_of, behind_of, IsAhead, IsInLine, IsSideOf, WideSideHides}
use Rattle.hiding_laws.specs.CutValues.{reach_of, WideSideReaches}
use Rattle.hiding_laws.proofs.Values.{past-share, short-share}
use Rattle.hiding_laws.proofs.CutEdgeOn.{edge-on-in-cut}
use Rattle.hiding_laws.proofs.CutPlanes.{square-one, cut-somewhere, ordinary-in-plain}
use Rattle.hiding_laws.proofs.CutSides.{reach-share, side-reaches, side-reaches-turned, not-at-reach}
use Rattle.hiding_laws.proofs.FrontEnds.{not-at-start, not-at-finish}
use Rattle.hiding_laws.proofs.SideEnds.{one-sight, in-line-over, not-at-ends}
use Rattle.exact_frac.specs.declared.Frac.{Frac}
use Rattle.intervals.specs.declared.interval.Interval.{Interval}
use Rattle.span_slow.specs.declared.linear.Linear.{Linear}
use Rattle.geometry.specs.Places.{IsEarlier}
use Rattle.span_slow.specs.inner.Hidden.{AreNonnegative, IsWhereNonnegative, AreWhere}
use Rattle.span_slow.specs.inner.CutHidden.{IsOrdinaryBeyond, AreWhereBeyond, AreAddedBeyond, PairHides, SomeSideReaches}
use Rattle.span_slow.proofs.Axes.{level_by_sight}
use Rattle.span_slow.proofs.CutFronts.{none_beyond}
use Rattle.hiding_laws.proofs.CutCorners.{cut_hides_by_corners}
use Rattle.geometry.proofs.PlaceFractions.{strict}
use Rattle.span_slow.proofs.Sides.{in_line_at, turned, side_turned, side_off_line, side_end_on, side_none, inside, end_apart}
use Rattle.span_slow.proofs.Where.{Tells, told, IsRootOrEndAt, where_none, where_alike, where_proper, added_then, added_alike}

-- ---- the order of the ends does not count
reaches_turned : (c : Plane) (k l : Corner) (p : Point) → WideSideReaches c k l p → WideSideReaches c l k p
reaches_turned c k l p (wide, h) = ((λ same. wide (record { across = sym same.across; upward = sym same.upward })), side-reaches-turned c k l p h)

-- the ends of a side, in either order
abbrev pub AreTwoEnds : Corner → Corner → Corner → Corner → Type 0
AreTwoEnds k l x y = ((x ≡ k) × (y ≡ l)) ⊎ ((x ≡ l) × (y ≡ k))

pub side_renamed : {s : Part} (f : Face s) (k l x y : Corner) → AreTwoEnds k l x y → IsSideOf f k l → IsSideOf f x y
side_renamed f k l x y (inl (p, q)) h = subst (λ (a : Corner). IsSideOf f a y) (sym p) (subst (λ (b : Corner). IsSideOf f k b) (sym q) h)
side_renamed f k l x y (inr (p, q)) h = subst (λ (a : Corner). IsSideOf f a y) (sym p) (subst (λ (b : Corner). IsSideOf f l b) (sym q) (side_turned f k l h))

hides_renamed : (d : Triple) (k l x y : Corner) (p : Point) → AreTwoEnds k l x y → WideSideHides d k l p ↔ WideSideHides d x y p
hides_renamed d k l x y p (inl (a, b)) = (
  (λ h. subst (λ (i : Corner). WideSideHides d i y p) (sym a) (subst (λ (j : Corner). WideSideHides d k j p) (sym b) h)),
  (λ h. subst (λ (i : Corner). WideSideHides d i l p) a (subst (λ (j : Corner). WideSideHides d x j p) b h)),
)
hides_renamed d k l x y p (inr (a, b)) = (
  (λ h. subst (λ (i : Corner). WideSideHides d i y p) (sym a) (subst (λ (j : Corner). WideSideHides d l j p) (sym b) (turned d k l p h))),
  (λ h. turned d l k p (subst (λ (i : Corner). WideSideHides d i k p) a (subst (λ (j : Corner). WideSideHides d x j p) b h))),
)

reaches_renamed : (c : Plane) (k l x y : Corner) (p : Point) → AreTwoEnds k l x y → WideSideReaches c k l p ↔ WideSideReaches c x y p
reaches_renamed c k l x y p (inl (a, b)) = (
  (λ h. subst (λ (i : Corner). WideSideReaches c i y p) (sym a) (subst (λ (j : Corner). WideSideReaches c k j p) (sym b) h)),
  (λ h. subst (λ (i : Corner). WideSideReaches c i l p) a (subst (λ (j : Corner). WideSideReaches c x j p) b h)),
)
reaches_renamed c k l x y p (inr (a, b)) = (
  (λ h. subst (λ (i : Corner). WideSideReaches c i y p) (sym a) (subst (λ (j : Corner). WideSideReaches c l j p) (sym b) (reaches_turned c k l p h))),
  (λ h. reaches_turned c l k p (subst (λ (i : Corner). WideSideReaches c i k p) a (subst (λ (j : Corner). WideSideReaches c x j p) b h))),
)

pub pair_renamed : (c : Plane) {s : Part} (e : Edge s) (k l m n x y u v : Corner) → AreTwoEnds k l x y → AreTwoEnds m n u v → (xs : List (Interval Frac))
    → AreWhereBeyond c e (PairHides c x y u v) xs → AreWhereBeyond c e (PairHides c k l m n) xs
pair_renamed c {s} e k l m n x y u v first second xs h =
    where_alike (IsOrdinaryBeyond c s) e (PairHides c x y u v) (PairHides c k l m n) xs (λ i j hi hj ordinary.
    let p = share_point e.a e.b i j in
    let hides = hides_renamed (toward_of c) k l x y p first in
    let reaches = reaches_renamed c m n u v p second in
    ((λ q. (hides.1 q.0, reaches.1 q.1)), (λ q. (hides.0 q.0, reaches.0 q.1)))) h

-- ---- a side that is not in line, or is seen end-on
-- of the edge's own corners
pub line_none : (d v axis : Triple) → d ≡ v → {s : Part} (e : Edge s) (a b k l : Corner) → e.a ≡ a → e.b ≡ b
    → (¬ IsInLine d a b k l) ⊎ (dot axis (difference k l) ≡ pos 0) → (¬ IsInLine v e.a e.b k l) ⊎ (dot axis (difference k l) ≡ pos 0)
line_none d v axis same e a b k l at_a at_b (inl off) = inl (λ h. off (subst (λ (t : Triple). IsInLine t a b k l) (sym same) ((in_line_at v e a b k l at_a at_b).0 h)))
line_none d v axis same e a b k l at_a at_b (inr none) = inr none

-- ---- one side
square_there : (c : Plane) → pos 0 <ℤ dot (toward_of c) (toward_of c)
square_there c = subst (λ (v : ℤ). pos 0 <ℤ v) (sym (square-one c)) (omega (arith, ints))

-- the order of its ends does not count
pub hidden_renamed : (d : Triple) {s : Part} (e : Edge s) (k l x y : Corner) → AreTwoEnds k l x y → AreWhere d e (WideSideHides d x y) [] → AreWhere d e (WideSideHides d k l) []
hidden_renamed d {s} e k l x y ends h =
    where_alike (IsOrdinary d s) e (WideSideHides d x y) (WideSideHides d k l) [] (λ i j hi hj ordinary. let same = hides_renamed d k l x y (share_point e.a e.b i j) ends in (same.1, same.0)) h

module _ (c : Plane) (axis : Triple) (s : Part) (sound : IsSound s) (in_range : All (IsBelow (length s.corners)) s.triangles) (e : Edge s) (ahead : IsAhead (toward_of c) axis e.a e.b)
    (f : Face s) (k l : Corner) (side : IsSideOf f k l) where
  -- it is not in line, or is seen end-on
  pub side_apart : (¬ IsInLine (toward_of c) e.a e.b k l) ⊎ (dot axis (difference k l) ≡ pos 0) → AreWhere (toward_of c) e (WideSideHides (toward_of c) k l) []
  side_apart (inl off) = side_off_line (toward_of c) axis (cut-somewhere c) s sound in_range e ahead f k l side off
  side_apart (inr same) = side_end_on (toward_of c) axis (cut-somewhere c) s sound in_range e ahead f k l side same

  -- it is in line, and not nearer at either end of the edge
  pub side_before : IsInLine (toward_of c) e.a e.b k l → pos 0 <ℤ dot axis (difference k l) → (behind : Linear) → Tells e behind (behind_of (toward_of c) axis k l)
      → behind.start ≤ℤ pos 0 → behind.end ≤ℤ pos 0 → AreWhere (toward_of c) e (WideSideHides (toward_of c) k l) []
  side_before in_line forward behind tells_behind start end =
      side_none (toward_of c) axis (cut-somewhere c) s sound in_range e ahead f k l side (square_there c) in_line forward behind tells_behind start end

-- ---- one pair of sides
module _ (c : Plane) (axis : Triple) (s : Part) (sound : IsSound s) (in_range : All (IsBelow (length s.corners)) s.triangles) (e : Edge s) (ahead : IsAhead (toward_of c) axis e.a e.b)
    (f : Face s) (k l m n : Corner) (first : IsSideOf f k l) (second : IsSideOf f m n) where
  abbrev d : Triple
  d = toward_of c

  pub pair_first_none : (¬ IsInLine (toward_of c) e.a e.b k l) ⊎ (dot axis (difference k l) ≡ pos 0) → AreWhereBeyond c e (PairHides c k l m n) []
  pair_first_none none = none_beyond c s e (PairHides c k l m n) (WideSideHides d k l) (λ p h. h.0) (side_apart c axis s sound in_range e ahead f k l first none)

  pub pair_second_none : (¬ IsInLine (toward_of c) e.a e.b m n) ⊎ (dot axis (difference m n) ≡ pos 0) → AreWhereBeyond c e (PairHides c k l m n) []
  pair_second_none none = where_none (IsOrdinaryBeyond c s) e (PairHides c k l m n) (λ i j hi hj ordinary h.
      let here : IsInLine d e.a e.b m n = in-line-over d axis (cut-somewhere c) s sound in_range e i j (positive_of_more i j hi hj) (at_most_of_less _ _ hi) (at_most_of_less _ _ hj) ahead f m n second
      (ordinary-in-plain c s (share_point e.a e.b i j) ordinary.0) h.1.1.point h.1.1.on_side h.1.1.same_sight in
      by none here h.1.0)
    where
      by : (¬ IsInLine d e.a e.b m n) ⊎ (dot axis (difference m n) ≡ pos 0) → IsInLine d e.a e.b m n → ¬ OnOneSight d (point_of m) (point_of n) → ⊥
      by (inl off) here wide = off here
      by (inr same) here wide = wide (one-sight d axis e.a e.b m n (cut-somewhere c) ahead here same)

  module _ (first_line : IsInLine (toward_of c) e.a e.b k l) (first_forward : pos 0 <ℤ dot axis (difference k l))
      (second_line : IsInLine (toward_of c) e.a e.b m n) (second_forward : pos 0 <ℤ dot axis (difference m n))
      (behind : Linear) (tells_behind : Tells e behind (behind_of (toward_of c) axis k l)) where
    square : pos 0 <ℤ dot d d
    square = square_there c

    -- in front of the first side
    pub pair_none : behind.start ≤ℤ pos 0 → behind.end ≤ℤ pos 0 → AreWhereBeyond c e (PairHides c k l m n) []
    pair_none start end = none_beyond c s e (PairHides c k l m n) (WideSideHides d k l) (λ p h. h.0)
        (side_before c axis s sound in_range e ahead f k l first first_line first_forward behind tells_behind start end)

    module _ (past short reach second_past second_short : Linear) (tells_past : Tells e past (past_of axis k)) (tells_short : Tells e short (short_of axis l))
        (tells_reach : Tells e reach (reach_of c axis m n)) (tells_second_past : Tells e second_past (past_of axis m)) (tells_second_short : Tells e second_short (short_of axis n)) where
      abbrev plain : List Linear
      plain = past ∷ short ∷ behind ∷ []

      at_reach : (i j : ℤ) → value_at reach.start reach.end i j ≡ reach_of c axis m n (share_point e.a e.b i j)
      at_reach i j = told e reach (reach_of c axis m n) i j tells_reach (reach-share c axis m n e.a e.b i j)

      at_second_past : (i j : ℤ) → value_at second_past.start second_past.end i j ≡ past_of axis m (share_point e.a e.b i j)
      at_second_past i j = told e second_past (past_of axis m) i j tells_second_past (past-share d e.a e.b i j axis m)

      at_second_short : (i j : ℤ) → value_at second_short.start second_short.end i j ≡ short_of axis n (share_point e.a e.b i j)
      at_second_short i j = told e second_short (short_of axis n) i j tells_second_short (short-share d e.a e.b i j axis n)

      moved : {v w : ℤ} → v ≡ w → pos 0 ≤ℤ v → pos 0 ≤ℤ w
      moved same h = subst (λ (z : ℤ). pos 0 ≤ℤ z) same h

      zero_at : {v w : ℤ} → v ≡ w → v ≡ pos 0 → w ≡ pos 0
      zero_at same zero = subst (λ (z : ℤ). z ≡ pos 0) same zero

      -- where one of the six begins or ceases to be at least 0
      pair_end_apart : (i j : ℤ) → pos 0 <ℤ j → pos 0 ≤ℤ i → i ≤ℤ j → AreNonnegative (reach ∷ second_past ∷ second_short ∷ plain) i j → IsRootOrEndAt (reach ∷ second_past ∷ second_short ∷ plain) i j → ¬ IsOrdinaryBeyond c s (share_point e.a e.b i j)
      pair_end_apart i j positive least most all (inl h) ordinary = not-at-start d s e i j positive least most h (ordinary-in-plain c s (share_point e.a e.b i j) ordinary.0)
      pair_end_apart i j positive least most all (inr (inl h)) ordinary = not-at-finish d s e i j positive least most h (ordinary-in-plain c s (share_point e.a e.b i j) ordinary.0)
      pair_end_apart i j positive least most (h_reach, (h_second_past, (h_second_short, all))) (inr (inr (inl root))) ordinary =
          not-at-reach c axis s sound.closed in_range e i j positive ahead f m n second second_line second_forward (moved (at_second_past i j) h_second_past) (moved (at_second_short i j) h_second_short)
          (zero_at (at_reach i j) root.1) ordinary.0
      pair_end_apart i j positive least most all (inr (inr (inr (inl root)))) ordinary =
          not-at-ends d axis (cut-somewhere c) s sound in_range e i j positive least most ahead f m n second second_line (inl (zero_at (at_second_past i j) root.1)) (ordinary-in-plain c s (share_point e.a e.b i j) ordinary.0)
      pair_end_apart i j positive least most all (inr (inr (inr (inr (inl root))))) ordinary =
          not-at-ends d axis (cut-somewhere c) s sound in_range e i j positive least most ahead f m n second second_line (inr (zero_at (at_second_short i j) root.1)) (ordinary-in-plain c s (share_point e.a e.b i j) ordinary.0)
      pair_end_apart i j positive least most (h_reach, (h_second_past, (h_second_short, all))) (inr (inr (inr (inr (inr root))))) ordinary =
          end_apart d axis (cut-somewhere c) s sound in_range e ahead f k l first square first_line first_forward behind tells_behind past short tells_past tells_short i j positive least most all (inr (inr root))
          (ordinary-in-plain c s (share_point e.a e.b i j) ordinary.0)

      -- the second side is not seen end-on
      second_wide : ¬ OnOneSight d (point_of m) (point_of n)
      second_wide same = positive_not_zero (dot axis (difference m n)) second_forward (level_by_sight d axis m n square ahead.level same)

      module _ (some : (pos 0 <ℤ behind.start) ⊎ (pos 0 <ℤ behind.end)) where
        pair_inside : (i j : ℤ) → pos 0 <ℤ i → i <ℤ j → IsOrdinaryBeyond c s (share_point e.a e.b i j) → PairHides c k l m n (share_point e.a e.b i j) ↔ AreNonnegative (reach ∷ second_past ∷ second_short ∷ plain) i j
        pair_inside i j hi hj ordinary =
            let positive = positive_of_more i j hi hj in
            let known = inside d axis (cut-somewhere c) s sound in_range e ahead f k l first square first_line first_forward behind tells_behind past short tells_past tells_short some i j hi hj (ordinary-in-plain c s (share_point e.a e.b i j) ordinary.0) in
            let over = side-reaches c axis e.a e.b m n i j positive ahead second_line second_forward in (
              (λ h. let o = over.0 h.1.1 in
                  (moved (sym (at_reach i j)) (at_most_of_less _ _ o.reach), (moved (sym (at_second_past i j)) o.past, (moved (sym (at_second_short i j)) o.short, known.0 h.0)))),
              (λ (h_reach, (h_second_past, (h_second_short, rest))). (
                known.1 rest,
                (
                  second_wide,
                  over.1 (record {
                    past = moved (at_second_past i j) h_second_past;
                    short = moved (at_second_short i j) h_second_short;
                    reach = strict (moved (at_reach i j) h_reach) (λ zero.
                        not-at-reach c axis s sound.closed in_range e i j positive ahead f m n second second_line second_forward (moved (at_second_past i j) h_second_past) (moved (at_second_short i j) h_second_short) (sym zero) ordinary.0);
                  }),
                ),
              )),
            )

        pub pair_where : (x : Interval Frac) → IsWhereNonnegative (reach ∷ second_past ∷ second_short ∷ plain) x → (o : Option (Interval Frac)) → IfSome o (λ y. (y ≡ x) × IsEarlier x.from x.to) → IfNone o (¬ IsEarlier x.from x.to)
            → AreWhereBeyond c e (PairHides c k l m n) (option_to_list o)
        pair_where x least o kept dropped = where_proper (IsOrdinaryBeyond c s) e (PairHides c k l m n) (reach ∷ second_past ∷ second_short ∷ plain) pair_inside pair_end_apart x least o kept dropped

-- ---- the pairs of a face
-- one side with each of the three
pub pairs_added : (c : Plane) {s : Part} (e : Edge s) (k l i j g : Corner) (old first second new : List (Interval Frac))
    → AreAddedBeyond c e (PairHides c k l i j) old first → AreAddedBeyond c e (PairHides c k l j g) first second → AreAddedBeyond c e (PairHides c k l g i) second new
    → AreAddedBeyond c e (λ p. WideSideHides (toward_of c) k l p × SomeSideReaches c i j g p) old new
pairs_added c {s} e k l i j g old first second new x y z =
    added_alike (IsOrdinaryBeyond c s) e Each (λ p. WideSideHides (toward_of c) k l p × SomeSideReaches c i j g p) old new (λ n m hn hm ordinary. (there _, back _))
    (added_then (IsOrdinaryBeyond c s) e (λ p. PairHides c k l i j p ⊎ PairHides c k l j g p) (PairHides c k l g i) old second new
    (added_then (IsOrdinaryBeyond c s) e (PairHides c k l i j) (PairHides c k l j g) old first second x y) z)
  where
    Each : Point → Type 0
    Each p = (PairHides c k l i j p ⊎ PairHides c k l j g p) ⊎ PairHides c k l g i p

    there : (p : Point) → Each p → WideSideHides (toward_of c) k l p × SomeSideReaches c i j g p
    there p (inl (inl h)) = (h.0, inl h.1)
    there p (inl (inr h)) = (h.0, inr (inl h.1))
    there p (inr h) = (h.0, inr (inr h.1))

    back : (p : Point) → WideSideHides (toward_of c) k l p × SomeSideReaches c i j g p → Each p
    back p (h, inl r) = inl (inl (h, r))
    back p (h, inr (inl r)) = inl (inr (h, r))
    back p (h, inr (inr r)) = inr (h, r)

-- the three sides, of a face that is edge-on
module _ (c : Plane) {s : Part} (closed : IsClosed s) (e : Edge s) (f : Face s) (i j g : Corner) (at_i : f.a ≡ i) (at_j : f.b ≡ j) (at_g : f.c ≡ g) (edge_on : facing_of (toward_of c) i j g ≡ pos 0) where
  abbrev WithSide : Corner → Corner → Point → Type 0
  WithSide k l p = WideSideHides (toward_of c) k l p × SomeSideReaches c i j g p

  not_flat : ¬ IsFlat i j g
  not_flat h =
      closed.none_flat f (subst (λ (x : Corner). IsFlat x f.b f.c) (sym at_i) (subst (λ (y : Corner). IsFlat i y f.c) (sym at_j) (subst (λ (z : Corner). IsFlat i j z) (sym at_g) h)))

  by_pairs : (p : Point) → IsPoint p → IsBeyond c p → ((WithSide i j p ⊎ WithSide j g p) ⊎ WithSide g i p) ↔ FaceHidesInCut c f p
  by_pairs p point beyond =
      let same = cut_hides_by_corners c f i j g p (inl (at_i, at_j, at_g)) in
      let known = edge-on-in-cut c i j g p point beyond not_flat edge_on in
      ((λ h. same.1 (known.1 (there h))), (λ h. let both = known.0 (same.0 h) in back both.0 both.1))
    where
      there : (WithSide i j p ⊎ WithSide j g p) ⊎ WithSide g i p → (WideSideHides (toward_of c) i j p ⊎ WideSideHides (toward_of c) j g p ⊎ WideSideHides (toward_of c) g i p) × SomeSideReaches c i j g p
      there (inl (inl h)) = (inl h.0, h.1)
      there (inl (inr h)) = (inr (inl h.0), h.1)
      there (inr h) = (inr (inr h.0), h.1)

      back : WideSideHides (toward_of c) i j p ⊎ WideSideHides (toward_of c) j g p ⊎ WideSideHides (toward_of c) g i p → SomeSideReaches c i j g p → (WithSide i j p ⊎ WithSide j g p) ⊎ WithSide g i p
      back (inl h) r = inl (inl (h, r))
      back (inr (inl h)) r = inl (inr (h, r))
      back (inr (inr h)) r = inr (h, r)

  pub edge_on_added : (old first second new : List (Interval Frac)) → AreAddedBeyond c e (WithSide i j) old first → AreAddedBeyond c e (WithSide j g) first second → AreAddedBeyond c e (WithSide g i) second new
      → AreAddedBeyond c e (FaceHidesInCut c f) old new
  edge_on_added old first second new x y z =
      added_alike (IsOrdinaryBeyond c s) e (λ p. (WithSide i j p ⊎ WithSide j g p) ⊎ WithSide g i p) (FaceHidesInCut c f) old new
      (λ n m hn hm ordinary. by_pairs (share_point e.a e.b n m) (positive_of_more n m hn hm) ordinary.1)
      (added_then (IsOrdinaryBeyond c s) e (λ p. WithSide i j p ⊎ WithSide j g p) (WithSide g i) old second new (added_then (IsOrdinaryBeyond c s) e (WithSide i j) (WithSide j g) old first second x y) z)
