-- Intervals of ends along one line, and the cuts at places of lines.
use Rattle.std.proofs.Common.{◌≡◌, ℕ, ◌⊎◌, inl, inr, Bool, true, false, true≢false, List, Contains, refl, sym, ap, subst, ◌∙◌}
use Rattle.std.specs.Prelude.{◌*ℤ◌, ◌+ℤ◌}
use Rattle.std.specs.Cmp.{nat_cmp_is, nat_cmp_total}
use Rattle.std.specs.List.{All}
use Rattle.std.specs.Ordering.{int_cmp, nat_cmp, ordering_then, ordering_reverse, is_lt}
use Rattle.std.specs.declared.cmp.Ordering.{Ordering}
use Rattle.std.specs.declared.cmp.Ordering.TheVariants.{Less, Equal, Greater}
use Rattle.std.proofs.lemmas.List.Elements.{All-contains}
use Rattle.std.proofs.lemmas.Map.Lookups.{exact_unsigned}
use Rattle.intervals.specs.declared.interval.Interval.{Interval}
use Rattle.intervals.specs.Cuts.{IsCut, Crosses, CrossesAny}
use Rattle.lattice.specs.declared.lines.Line.{Line}
use Rattle.lattice.specs.declared.points.Spot.{Spot}
use Rattle.lattice.specs.declared.pieces.Strip.{Strip}
use Rattle.lattice.specs.Triple.{Triple}
use Rattle.lattice.specs.Points.{Point, IsPoint, of_spot, across_of, upward_of, OnOneSight}
use Rattle.lattice.specs.Lines.{IsOnLine, IsSameLine, AreStripEnds}
use Rattle.geometry.specs.Pieces.{LiesBetween, IsBefore}
use Rattle.geometry.proofs.OnLines.{on_line_between}
use Rattle.line_merge.specs.declared.ends.SeenEnd.{SeenEnd}
use Rattle.line_merge.specs.inner.Ends.{seen_order, end_order, IsSeenEnd}
use Rattle.line_merge.specs.Merging.{AreStrips}
use Rattle.line_merge.specs.Numbers.{IsNumbering}
use Rattle.integers.proofs.Chains.{chained, chained_total, chained_ratios, before_less}
use Rattle.integers.proofs.Orders.{less_of_is_lt}
use Rattle.line_merge.proofs.Sights.{view_order, before, order_of_before, order_back, sight}
use Rattle.line_merge.proofs.EndOrders.{order_on_line}
use Rattle.line_merge.proofs.Between.{between, seen_between}

-- ---- cuts
module _ (d : Triple) (n : ℕ) (p : Point) where
  -- the order of an end and a point, as they are seen
  abbrev pub point_order : SeenEnd → Ordering
  point_order t = ordering_then (int_cmp (t.across.num *ℤ p.w) (across_of d p *ℤ t.across.den)) (int_cmp (t.upward.num *ℤ p.w) (upward_of d p *ℤ t.upward.den))

  -- the end is before the point of the line with this number
  abbrev pub cut_at : SeenEnd → Bool
  cut_at t = is_lt (ordering_then (nat_cmp t.line n) (point_order t))

  pub is_cut : IsPoint p → IsCut end_order cut_at
  is_cut positive x y h k =
      before_less (end_order x y) (ordering_then (nat_cmp y.line n) (point_order y)) (ordering_then (nat_cmp x.line n) (point_order x))
      (chained _ _ _ _ _ _ (chained_total nat_cmp_total x.line y.line n)
      (chained _ _ _ _ _ _
      (chained_ratios x.across.num x.across.den y.across.num y.across.den (across_of d p) p.w x.across.positive y.across.positive positive)
      (chained_ratios x.upward.num x.upward.den y.upward.num y.upward.den (upward_of d p) p.w x.upward.positive y.upward.positive positive)))
      h k

  pub point_order_is : (t : SeenEnd) → IsSeenEnd d t → point_order t ≡ view_order d (of_spot t.spot) p
  point_order_is t h =
      λ i. ordering_then (int_cmp (h.across.num i *ℤ p.w) (across_of d p *ℤ h.across.den i)) (int_cmp (h.upward.num i *ℤ p.w) (upward_of d p *ℤ h.upward.den i))

-- the number of the line of the end is before this one
abbrev pub line_cut : ℕ → SeenEnd → Bool
line_cut n t = is_lt (nat_cmp t.line n)

pub is_line_cut : (n : ℕ) → IsCut end_order (line_cut n)
is_line_cut n x y h k =
    before_less (nat_cmp x.line y.line) (nat_cmp y.line n) (nat_cmp x.line n) (chained_total nat_cmp_total x.line y.line n) h
    (λ e. k (ap (λ (o : Ordering). ordering_then o (seen_order x y)) e))

-- ---- ends of strips
-- the lines of strips have numbers
pub record AreNumberedStrips (d : Triple) (strips : List Strip) (number : Line → ℕ) : Type 0 where
  pub ends : AreStrips d strips
  pub numbering : IsNumbering strips number

-- p is on the line with this number
pub record IsOnNumbered (d : Triple) (strips : List Strip) (number : Line → ℕ) (n : ℕ) (p : Point) : Type 0 where
  pub strip : Strip
  pub listed : Contains strips strip
  pub line : n ≡ number strip.line
  pub on : IsOnLine d strip.line p

on_same : (d : Triple) (l m : Line) (p : Point) → IsSameLine l m → IsOnLine d m p → IsOnLine d l p
on_same d l m p same h = (λ i. (same.a i *ℤ across_of d p) +ℤ (same.b i *ℤ upward_of d p)) ∙ h ∙ (λ i. sym same.c i *ℤ p.w)

-- so it is on the line of each strip of that number
pub on_line_of : (d : Triple) (strips : List Strip) (number : Line → ℕ) (are : AreNumberedStrips d strips number) (n : ℕ) (p : Point) → IsOnNumbered d strips number n p
    → (x : Strip) → Contains strips x → n ≡ number x.line → IsOnLine d x.line p
on_line_of d strips number are n p h x there e = on_same d x.line h.strip.line p ((are.numbering x h.strip there h.listed).0 (sym e ∙ h.line)) h.on

-- an end of one of the strips, as it is seen
pub record IsEnd (d : Triple) (strips : List Strip) (number : Line → ℕ) (t : SeenEnd) : Type 0 where
  pub strip : Strip
  pub listed : Contains strips strip
  pub seen : IsSeenEnd d t
  pub line : t.line ≡ number strip.line
  pub spot : (t.spot ≡ strip.a) ⊎ (t.spot ≡ strip.b)

module _ (d : Triple) (strips : List Strip) (number : Line → ℕ) (are : AreNumberedStrips d strips number) (t : SeenEnd) (h : IsEnd d strips number t) where
  pub end_on_line : IsOnNumbered d strips number t.line (of_spot t.spot)
  end_on_line = record { strip = h.strip; listed = h.listed; line = h.line; on = by h.spot }
    where
      ends : AreStripEnds d h.strip.line h.strip.a h.strip.b
      ends = All-contains (λ (x : Strip). AreStripEnds d x.line x.a x.b) strips h.strip are.ends h.listed

      by : (t.spot ≡ h.strip.a) ⊎ (t.spot ≡ h.strip.b) → IsOnLine d h.strip.line (of_spot t.spot)
      by (inl e) = subst (λ (s : Spot). IsOnLine d h.strip.line (of_spot s)) (sym e) ends.first
      by (inr e) = subst (λ (s : Spot). IsOnLine d h.strip.line (of_spot s)) (sym e) ends.second

-- p is at no end of a strip
abbrev pub IsOffEnds : Triple → List Strip → Point → Type 0
IsOffEnds d strips p = All (λ x. (¬ OnOneSight d (of_spot x.a) p) × (¬ OnOneSight d (of_spot x.b) p)) strips

pub end_off : (d : Triple) (strips : List Strip) (number : Line → ℕ) (p : Point) → IsOffEnds d strips p → (t : SeenEnd) → IsEnd d strips number t → ¬ OnOneSight d (of_spot t.spot) p
end_off d strips number p off t h = by h.spot
  where
    none : (¬ OnOneSight d (of_spot h.strip.a) p) × (¬ OnOneSight d (of_spot h.strip.b) p)
    none = All-contains (λ (x : Strip). (¬ OnOneSight d (of_spot x.a) p) × (¬ OnOneSight d (of_spot x.b) p)) strips h.strip off h.listed

    by : (t.spot ≡ h.strip.a) ⊎ (t.spot ≡ h.strip.b) → ¬ OnOneSight d (of_spot t.spot) p
    by (inl e) = subst (λ (s : Spot). ¬ OnOneSight d (of_spot s) p) (sym e) none.0
    by (inr e) = subst (λ (s : Spot). ¬ OnOneSight d (of_spot s) p) (sym e) none.1

-- ---- courses
-- an interval of one line, from an end of a strip to a later one
pub record IsCourse (d : Triple) (strips : List Strip) (number : Line → ℕ) (u : Interval SeenEnd) : Type 0 where
  pub from : IsEnd d strips number u.from
  pub to : IsEnd d strips number u.to
  pub one_line : u.from.line ≡ u.to.line
  pub before : IsBefore d (of_spot u.from.spot) (of_spot u.to.spot)

back_less : (r : Ordering) → is_lt r ≡ false → ¬ (r ≡ Equal) → ordering_reverse r ≡ Less
back_less Less h k = cc
back_less Equal h k = absurd (k refl)
back_less Greater h k = refl

module _ (d : Triple) (strips : List Strip) (number : Line → ℕ) (are : AreNumberedStrips d strips number) (u : Interval SeenEnd) (h : IsCourse d strips number u) where
  -- the line of its first end
  abbrev pub line_of : Line
  line_of = h.from.strip.line

  on_it : (p : Point) → IsOnNumbered d strips number u.from.line p → IsOnLine d line_of p
  on_it p on = on_line_of d strips number are u.from.line p on h.from.strip h.from.listed h.from.line

  pub first_on : IsOnLine d line_of (of_spot u.from.spot)
  first_on = on_it (of_spot u.from.spot) (end_on_line d strips number are u.from h.from)

  pub second_on : IsOnLine d line_of (of_spot u.to.spot)
  second_on = on_it (of_spot u.to.spot) (subst (λ n. IsOnNumbered d strips number n (of_spot u.to.spot)) (sym h.one_line) (end_on_line d strips number are u.to h.to))

  -- both ends have one order to a number
  one_order : (n : ℕ) → nat_cmp u.from.line n ≡ nat_cmp u.to.line n
  one_order n = λ i. nat_cmp (h.one_line i) n

  -- no cut between lines goes through a course
  pub not_line_crossed : (n : ℕ) → Crosses (line_cut n) u → ⊥
  not_line_crossed n (is, not) = true≢false (sym is ∙ ap is_lt (one_order n) ∙ not)

  module _ (p : Point) (positive : IsPoint p) (off : IsOffEnds d strips p) where
    -- the cut at a point of a line goes through it exactly where it is of that line and the point is seen between its ends
    pub crossed : (n : ℕ) → Crosses (cut_at d n p) u → (u.from.line ≡ n) × IsBefore d (of_spot u.from.spot) p × IsBefore d p (of_spot u.to.spot)
    crossed n (is, not) = by (nat_cmp u.from.line n) refl is (ap (λ (o : Ordering). is_lt (ordering_then o (point_order d n p u.to))) (one_order n) ∙ not)
      where
        after : is_lt (point_order d n p u.from) ≡ true → IsBefore d (of_spot u.from.spot) p
        after e = before d (of_spot u.from.spot) p (sym (point_order_is d n p u.from h.from.seen) ∙ less_of_is_lt (point_order d n p u.from) e)

        earlier : is_lt (point_order d n p u.to) ≡ false → IsBefore d p (of_spot u.to.spot)
        earlier e =
            before d p (of_spot u.to.spot)
            (order_back d p (of_spot u.to.spot)
            ∙ back_less (view_order d (of_spot u.to.spot) p) (sym (ap is_lt (point_order_is d n p u.to h.to.seen)) ∙ e)
            (λ k. end_off d strips number p off u.to h.to (sight d (of_spot u.to.spot) p k)))

        by : (r : Ordering) → nat_cmp u.from.line n ≡ r → is_lt (ordering_then r (point_order d n p u.from)) ≡ true → is_lt (ordering_then r (point_order d n p u.to)) ≡ false
            → (u.from.line ≡ n) × IsBefore d (of_spot u.from.spot) p × IsBefore d p (of_spot u.to.spot)
        by Less e is not = absurd (true≢false not)
        by Equal e is not = (exact_unsigned u.from.line n e, after is, earlier not)
        by Greater e is not = absurd (true≢false (sym is))

    crosses : (n : ℕ) → u.from.line ≡ n → IsBefore d (of_spot u.from.spot) p → IsBefore d p (of_spot u.to.spot) → Crosses (cut_at d n p) u
    crosses n same after earlier = (
      ap (λ (o : Ordering). is_lt (ordering_then o (point_order d n p u.from))) (sym (nat_cmp_is u.from.line n Equal same))
          ∙ ap is_lt (point_order_is d n p u.from h.from.seen ∙ order_of_before d (of_spot u.from.spot) p after),
      ap (λ (o : Ordering). is_lt (ordering_then o (point_order d n p u.to))) (sym (one_order n) ∙ sym (nat_cmp_is u.from.line n Equal same))
          ∙ ap is_lt (point_order_is d n p u.to h.to.seen ∙ order_back d (of_spot u.to.spot) p ∙ ap ordering_reverse (order_of_before d p (of_spot u.to.spot) earlier)),
    )

    -- a point of the line whose cut goes through the course lies on it
    pub lies : (n : ℕ) → IsOnNumbered d strips number n p → Crosses (cut_at d n p) u → LiesBetween d u.from.spot u.to.spot p
    lies n on c =
        let (same, after, earlier) = crossed n c in
        between d line_of u.from.spot u.to.spot p first_on second_on (on_it p (subst (λ m. IsOnNumbered d strips number m p) (sym same) on)) after earlier

    -- and what lies on the course is a point of its line, whose cut goes through it
    pub meets : LiesBetween d u.from.spot u.to.spot p → IsOnNumbered d strips number u.from.line p × Crosses (cut_at d u.from.line p) u
    meets on = (
      record { strip = h.from.strip; listed = h.from.listed; line = h.from.line; on = on_line_between d line_of u.from.spot u.to.spot p first_on second_on on },
      let seen = seen_between d u.from.spot u.to.spot p positive h.before (end_off d strips number p off u.from h.from) (end_off d strips number p off u.to h.to) on in
          crosses u.from.line refl seen.0 seen.1,
    )

-- an interval through which a cut between lines goes only if it goes through a course is on one line
pub one_line_of : (d : Triple) (strips : List Strip) (number : Line → ℕ) (are : AreNumberedStrips d strips number) (xs : List (Interval SeenEnd)) → All (IsCourse d strips number) xs → (u : Interval SeenEnd) → end_order u.from u.to ≡ Less
    → (Crosses (line_cut u.to.line) u → CrossesAny (line_cut u.to.line) xs) → u.from.line ≡ u.to.line
one_line_of d strips number are xs courses u proper through = by (nat_cmp u.from.line u.to.line) refl proper
  where
    none : CrossesAny (line_cut u.to.line) xs → ⊥
    none (k, x, within, is, c) = not_line_crossed d strips number are x (All-contains (IsCourse d strips number) xs x courses (k, within, is)) u.to.line c

    by : (r : Ordering) → nat_cmp u.from.line u.to.line ≡ r → ordering_then r (seen_order u.from u.to) ≡ Less → u.from.line ≡ u.to.line
    by Less e p = absurd (none (through (ap is_lt e, ap is_lt (sym (nat_cmp_is u.to.line u.to.line Equal refl)))))
    by Equal e p = exact_unsigned u.from.line u.to.line e
    by Greater e p = cc

pub course_of : (d : Triple) (strips : List Strip) (number : Line → ℕ) (u : Interval SeenEnd) → IsEnd d strips number u.from → IsEnd d strips number u.to → end_order u.from u.to ≡ Less → u.from.line ≡ u.to.line
    → IsCourse d strips number u
course_of d strips number u from to proper same = record {
  from = from;
  to = to;
  one_line = same;
  before = before d (of_spot u.from.spot) (of_spot u.to.spot) (sym (order_on_line d u.from u.to from.seen to.seen same) ∙ proper);
}
