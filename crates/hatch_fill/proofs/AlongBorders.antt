-- A border that is under two points of a hatch line runs along it, and a stretch covers what is between.
use Rattle.std.proofs.Common.{◌≡◌, ◌≢◌, ◌⊎◌, inl, inr, ℕ, zero, suc, ◌+◌, ◌<◌, ◌≤◌, ◌^◌, List, [], ◌∷◌, Contains, refl, sym, ap, subst, ◌∙◌, unsigned_abs, arith}
use Rattle.std.specs.Prelude.{ℤ, pos, negsuc, ◌+ℤ◌, ◌-ℤ◌, ◌*ℤ◌, ◌<ℤ◌, ◌≤ℤ◌}
use Rattle.std.proofs.lemmas.Int.{ints}
use Rattle.std.proofs.lemmas.List.Elements.{All-contains, Contains-append_left, Contains-append_right}
use Rattle.integers.proofs.Comparisons.{less_not_same, at_most_of_less}
use Rattle.integers.proofs.Ring.{var, con, ◌⊕◌, ◌⊖◌, ◌⊗◌, ring, by_three, same_of_gap}
use Rattle.integers.proofs.Signs.{zero_of_times, zero_of_mul}
use Rattle.integers.proofs.Weighted.{sum_pos}
use Rattle.intervals.specs.declared.interval.Interval.{Interval}
use Rattle.intervals.specs.Cuts.{Crosses, CrossesAny}
use Rattle.intervals.proofs.Lists.{any_of}
use Rattle.lattice.specs.declared.lines.Line.{Line}
use Rattle.lattice.specs.declared.points.Spot.{Spot}
use Rattle.lattice.specs.Triple.{Triple, right_axis}
use Rattle.lattice.specs.Points.{Point, IsPoint, of_spot, across_of, upward_of, OnOneSight}
use Rattle.lattice.specs.Lines.{IsOnLine}
use Rattle.lattice.specs.Cuts.{Plane, toward_of}
use Rattle.lattice.proofs.OnLines.{weighted_sum, product_of_sum, on_line_of_sum, on_line_of_sight}
use Rattle.geometry.specs.Parts.{Part, Face, HasNoFlatTriangle}
use Rattle.geometry.specs.Cuts.{border, IsSeenOverInCut, start_corner, end_corner}
use Rattle.geometry.proofs.Sights.{sight_on}
use Rattle.cut_plane.specs.declared.segments.Segment.{Segment}
use Rattle.cut_plane.specs.Loops.{AreBorders}
use Rattle.cut_plane.proofs.Apart.{border_apart}
use Rattle.cut_plane.proofs.BorderSums.{IsMixOf}
use Rattle.cut_plane.proofs.Lists.{contains_cases, contains_none}
use Rattle.cut_plane.proofs.RightOf.{sum_turned}
use Rattle.cut_plane.proofs.Roots.{some_number}
use Rattle.hatch_fill.specs.declared.places.HatchPlace.{HatchPlace}
use Rattle.hatch_fill.specs.inner.Parts.{AreJoined}
use Rattle.hatch_fill.specs.inner.Places.{IsNear}
use Rattle.hatch_fill.specs.inner.Stretches.{IsPlaceOf, IsSpotOn, AreEndsAlong, IsStretchOf, HasStretch, AreStretches}
use Rattle.hatch_fill.proofs.Crossed.{meets_of, upward_at, same_sight}
use Rattle.hatch_fill.proofs.Cuts.{is_not_after, crosses_after}
use Rattle.hatch_fill.proofs.Meets.{size_of_some, same_quotient}
use Rattle.hatch_fill.proofs.Ratios.{from_first, until_second, less_most}
use Rattle.hatch_fill.proofs.Runs.{less_on_line, one_diagonal}
use Rattle.hatch_fill.proofs.Seen.{across_near, upward_near, crossing_short}
use Rattle.hatch_fill.proofs.Turns.{IsAt}
use Rattle.hatch_fill.proofs.Under.{first_on_line, second_on_line, IsSegmentFor, segment_for, mix_sight, mix_there}

-- the part of an element
pub joined_has : {A B : Type 0} (R : A → List B → Type 0) (xs : List A) (all : List B) → AreJoined R xs all → (x : A) → Contains xs x → (part : List B) × R x part × ((t : B) → Contains part t → Contains all t)
joined_has {A} {B} R [] all e x there = absurd (contains_none x there)
joined_has {A} {B} R (w ∷ xs) all (part, rest, e, r, more) x there = by (contains_cases w xs x there) (joined_has R xs rest more x)
  where
    by : (w ≡ x) ⊎ Contains xs x → (Contains xs x → (p : List B) × R x p × ((t : B) → Contains p t → Contains rest t)) → (p : List B) × R x p × ((t : B) → Contains p t → Contains all t)
    by (inl same) later = (part, subst (λ (z : A). R z part) same r, λ t k. subst (λ (ys : List B). Contains ys t) (sym e) (Contains-append_left part rest t k))
    by (inr k) later = let (p, q, within) = later k in (p, q, λ t h. subst (λ (ys : List B). Contains ys t) (sym e) (Contains-append_right part rest t (within t h)))

zero_or_not : (b : ℤ) → (b ≡ pos 0) ⊎ (b ≢ pos 0)
zero_or_not (pos zero) = inl refl
zero_or_not (pos (suc n)) = inr (λ e. omega (arith, ints))
zero_or_not (negsuc n) = inr (λ e. omega (arith, ints))

-- a line along a hatch line is on it
along_at : (l : Line) (u v w diagonal : ℤ) → (l.a *ℤ u) +ℤ (l.b *ℤ v) ≡ l.c *ℤ w → l.a +ℤ l.b ≡ pos 0 → l.c +ℤ (l.b *ℤ diagonal) ≡ pos 0 → u -ℤ v ≡ diagonal *ℤ w
along_at l u v w diagonal on slope level =
    same_of_gap (u -ℤ v) (diagonal *ℤ w) (zero_of_times l.a ((u -ℤ v) -ℤ (diagonal *ℤ w)) (size_of_some l.a some)
    (by_three _ _ ((l.a *ℤ u) +ℤ (l.b *ℤ v)) (l.c *ℤ w) (pos 1) (l.a +ℤ l.b) (pos 0) ((pos 0 -ℤ v) -ℤ (diagonal *ℤ w)) (l.c +ℤ (l.b *ℤ diagonal)) (pos 0) w
    (ring (u ∷ v ∷ w ∷ l.a ∷ l.b ∷ l.c ∷ diagonal ∷ [])
    ((var 3 ⊗ ((var 0 ⊖ var 1) ⊖ (var 6 ⊗ var 2))) ⊖ con (pos 0))
    ((((((var 3 ⊗ var 0) ⊕ (var 4 ⊗ var 1)) ⊖ (var 5 ⊗ var 2)) ⊗ con (pos 1)) ⊕ (((var 3 ⊕ var 4) ⊖ con (pos 0)) ⊗ ((con (pos 0) ⊖ var 1) ⊖ (var 6 ⊗ var 2)))) ⊕ (((var 5 ⊕ (var 4 ⊗ var 6)) ⊖ con (pos 0)) ⊗ var 2)) refl) on slope level))
  where
    some : l.a ≢ pos 0
    some e = some_number l.a l.b l.leads e (second l.a l.b e slope)
      where
        second : (a b : ℤ) → a ≡ pos 0 → a +ℤ b ≡ pos 0 → b ≡ pos 0
        second a b f g = omega (arith, ints)

-- what is seen between the spots of two places
module _ (d : Triple) (diagonal : ℤ) (t t' : HatchPlace) (k k' : Spot) (is : IsPlaceOf d diagonal k t) (is' : IsPlaceOf d diagonal k' t') (order : (t.across.num *ℤ t'.across.den) <ℤ (t'.across.num *ℤ t.across.den)) (i j : ℕ) (some : 0 < i + j) (r : Point) (there : IsPoint r)
    (sight : OnOneSight d (weighted_sum (pos i) (of_spot k) (pos j) (of_spot k')) r) where
  same : ((pos i *ℤ t.across.num) +ℤ (pos j *ℤ t'.across.num)) *ℤ r.w ≡ across_of d r *ℤ ((pos i *ℤ t.across.den) +ℤ (pos j *ℤ t'.across.den))
  same =
      (λ z. ((pos i *ℤ is.num z) +ℤ (pos j *ℤ is'.num z)) *ℤ r.w) ∙ ap (λ (z : ℤ). z *ℤ r.w) (sym (product_of_sum (right_axis d) (pos i) (pos j) (of_spot k) (of_spot k'))) ∙ sight.across
      ∙ (λ z. across_of d r *ℤ ((pos i *ℤ sym is.den z) +ℤ (pos j *ℤ sym is'.den z)))

  pub seen_after : (t.across.num *ℤ r.w) ≤ℤ (across_of d r *ℤ t.across.den)
  seen_after = from_first t.across.num t.across.den t'.across.num t'.across.den (across_of d r) r.w i j t.across.positive t'.across.positive some (at_most_of_less _ _ order) same there

  pub seen_until : (across_of d r *ℤ t'.across.den) ≤ℤ (t'.across.num *ℤ r.w)
  seen_until = until_second t.across.num t.across.den t'.across.num t'.across.den (across_of d r) r.w i j t.across.positive t'.across.positive some (at_most_of_less _ _ order) same there

module _ (c : Plane) (small : unsigned_abs c.at ≤ 2 ^ 20) (s : Part) (whole : HasNoFlatTriangle s) (segments : List Segment) (starts : List ℕ) (borders : AreBorders c s segments starts) (spacing : ℕ) (stretches : List (Interval HatchPlace))
    (joined : AreJoined (AreStretches (toward_of c) spacing) segments stretches) where
  abbrev d : Triple
  d = toward_of c

  module _ (f : Face s) (number : ℤ) (p q : Point) (p_there : IsPoint p) (q_there : IsPoint q) (at_p : IsAt d (number *ℤ pos spacing) p) (at_q : IsAt d (number *ℤ pos spacing) q) (under_p : IsSeenOverInCut c (border f) p) (under_q : IsSeenOverInCut c (border f) q)
      (less : (across_of d p *ℤ q.w) <ℤ (across_of d q *ℤ p.w)) where
    abbrev D : ℤ
    D = number *ℤ pos spacing

    abbrev g : IsSegmentFor c s segments f
    g = segment_for c s segments starts borders f under_p.0 under_p.1

    abbrev x : Segment
    x = g.x

    abbrev a : Point
    a = of_spot g.x.a

    abbrev b : Point
    b = of_spot g.x.b

    on_a : IsOnLine d g.x.line a
    on_a = first_on_line c s g.x g.is

    on_b : IsOnLine d g.x.line b
    on_b = second_on_line c s g.x g.is

    abbrev m : IsMixOf a b under_p.0
    m = g.mixes under_p.0 under_p.1

    abbrev m' : IsMixOf a b under_q.0
    m' = g.mixes under_q.0 under_q.1

    sight_p : OnOneSight d (weighted_sum (pos m.i) a (pos m.j) b) p
    sight_p = sight_on d (weighted_sum (pos m.i) a (pos m.j) b) under_p.0 p (mix_there c s segments starts borders a b under_p.0 g.x.a.positive g.x.b.positive m) (mix_sight c s segments starts borders d a b under_p.0 m) under_p.2

    sight_q : OnOneSight d (weighted_sum (pos m'.i) a (pos m'.j) b) q
    sight_q = sight_on d (weighted_sum (pos m'.i) a (pos m'.j) b) under_q.0 q (mix_there c s segments starts borders a b under_q.0 g.x.a.positive g.x.b.positive m') (mix_sight c s segments starts borders d a b under_q.0 m') under_q.2

    on_p : IsOnLine d g.x.line p
    on_p = on_line_of_sight d g.x.line (weighted_sum (pos m.i) a (pos m.j) b) p (sum_pos g.x.a.w g.x.b.w m.i m.j g.x.a.positive g.x.b.positive m.some) sight_p (on_line_of_sum d g.x.line (pos m.i) (pos m.j) a b on_a on_b)

    on_q : IsOnLine d g.x.line q
    on_q = on_line_of_sight d g.x.line (weighted_sum (pos m'.i) a (pos m'.j) b) q (sum_pos g.x.a.w g.x.b.w m'.i m'.j g.x.a.positive g.x.b.positive m'.some) sight_q (on_line_of_sum d g.x.line (pos m'.i) (pos m'.j) a b on_a on_b)

    meets_p : (g.x.line.a +ℤ g.x.line.b) *ℤ across_of d p ≡ (g.x.line.c +ℤ (g.x.line.b *ℤ D)) *ℤ p.w
    meets_p = meets_of (across_of d p) (upward_of d p) p.w g.x.line.a g.x.line.b g.x.line.c D on_p at_p

    meets_q : (g.x.line.a +ℤ g.x.line.b) *ℤ across_of d q ≡ (g.x.line.c +ℤ (g.x.line.b *ℤ D)) *ℤ q.w
    meets_q = meets_of (across_of d q) (upward_of d q) q.w g.x.line.a g.x.line.b g.x.line.c D on_q at_q

    slope : g.x.line.a +ℤ g.x.line.b ≡ pos 0
    slope = by (zero_or_not (g.x.line.a +ℤ g.x.line.b))
      where
        by : (g.x.line.a +ℤ g.x.line.b ≡ pos 0) ⊎ (g.x.line.a +ℤ g.x.line.b ≢ pos 0) → g.x.line.a +ℤ g.x.line.b ≡ pos 0
        by (inl e) = e
        by (inr some) = absurd (less_not_same _ _ less (same_quotient (g.x.line.a +ℤ g.x.line.b) (g.x.line.c +ℤ (g.x.line.b *ℤ D)) (across_of d p) p.w (across_of d q) q.w some meets_p meets_q))

    level : g.x.line.c +ℤ (g.x.line.b *ℤ D) ≡ pos 0
    level = zero_of_mul p.w (g.x.line.c +ℤ (g.x.line.b *ℤ D)) p_there (ring (p.w ∷ (g.x.line.c +ℤ (g.x.line.b *ℤ D)) ∷ []) (var 0 ⊗ var 1) (var 1 ⊗ var 0) refl ∙ sym meets_p ∙ (λ i. slope i *ℤ across_of d p) ∙ ring (across_of d p ∷ []) (con (pos 0) ⊗ var 0) (con (pos 0)) refl)

    at_a : IsAt d D a
    at_a = along_at g.x.line (across_of d a) (upward_of d a) g.x.a.w D on_a slope level

    at_b : IsAt d D b
    at_b = along_at g.x.line (across_of d b) (upward_of d b) g.x.b.w D on_b slope level

    spot_on : (k : Spot) → IsAt d D (of_spot k) → unsigned_abs k.w < 2 ^ 69 → IsSpotOn d D k
    spot_on k at short = record {
      on = at;
      spot = record { short = short; across = across_near c k; upward = subst (λ (z : ℤ). IsNear z k.w) (upward_at (across_of d (of_spot k)) (upward_of d (of_spot k)) k.w D at) (upward_near c k) };
    }

    has_stretch : HasStretch d spacing g.x
    has_stretch =
        let e = g.is.border in
        record {
          number = number;
          first = spot_on g.x.a at_a (subst (λ (r : Point). unsigned_abs r.w < 2 ^ 69) (sym e.from) (crossing_short c (start_corner g.is.face e.first) (end_corner g.is.face e.first) small));
          second = spot_on g.x.b at_b (subst (λ (r : Point). unsigned_abs r.w < 2 ^ 69) (sym e.to) (crossing_short c (end_corner g.is.face e.second) (start_corner g.is.face e.second) small));
          apart = λ same. border_apart c g.is.face a b e (whole g.is.face) (same_sight d a b D at_a at_b same);
        }

    through : (i : Interval HatchPlace) → IsStretchOf d spacing g.x i → Crosses (is_not_after D (across_of d p) p.w) i
    through i is = by is.ends
      where
        cross : (k k' : Spot) (j : ℤ) → IsPlaceOf d (j *ℤ pos spacing) k i.from → IsPlaceOf d (j *ℤ pos spacing) k' i.to → IsAt d D (of_spot k)
            → (n n' : ℕ) → 0 < n + n' → OnOneSight d (weighted_sum (pos n) (of_spot k) (pos n') (of_spot k')) p → (o o' : ℕ) → 0 < o + o' → OnOneSight d (weighted_sum (pos o) (of_spot k) (pos o') (of_spot k')) q → Crosses (is_not_after D (across_of d p) p.w) i
        cross k k' j from to at n n' some here o o' some' there =
            let one : i.from.diagonal ≡ i.to.diagonal = from.line ∙ sym to.line in
            let order = less_on_line i.from i.to one is.proper in
            crosses_after i one D (across_of d p) p.w (from.line ∙ one_diagonal d (of_spot k) (j *ℤ pos spacing) D k.positive from.on at)
            (seen_after d (j *ℤ pos spacing) i.from i.to k k' from to order n n' some p p_there here)
            (less_most (across_of d p) p.w (across_of d q) q.w i.to.across.num i.to.across.den p_there q_there i.to.across.positive less
            (seen_until d (j *ℤ pos spacing) i.from i.to k k' from to order o o' some' q q_there there))

        swap : (m n : ℕ) → 0 < m + n → 0 < n + m
        swap m n h = omega arith

        by : AreEndsAlong d spacing g.x i.from i.to ⊎ AreEndsAlong d spacing g.x i.to i.from → Crosses (is_not_after D (across_of d p) p.w) i
        by (inl e) = cross g.x.a g.x.b e.number e.first e.second at_a m.i m.j m.some sight_p m'.i m'.j m'.some sight_q
        by (inr e) =
            cross g.x.b g.x.a e.number e.second e.first at_b m.j m.i (swap m.i m.j m.some) (subst (λ (r : Point). OnOneSight d r p) (sum_turned (pos m.i) (pos m.j) a b) sight_p)
            m'.j m'.i (swap m'.i m'.j m'.some) (subst (λ (r : Point). OnOneSight d r q) (sum_turned (pos m'.i) (pos m'.j) a b) sight_q)

    pub covered : CrossesAny (is_not_after D (across_of d p) p.w) stretches
    covered =
        let (part, are, within) = joined_has (AreStretches d spacing) segments stretches joined g.x g.listed in
        let (i, there) = are.all has_stretch in
        any_of (Crosses (is_not_after D (across_of d p) p.w)) stretches i (within i there) (through i (All-contains (IsStretchOf d spacing g.x) part i are.each there))
