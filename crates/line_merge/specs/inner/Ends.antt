-- Where the ends of strips are seen on lines, their order, the intervals of strips, and these put together.
use Rattle.std.specs.Prelude.{◌≡◌, ℕ, ◌⊎◌, List}
use Rattle.std.specs.List.{AllZip, filter}
use Rattle.std.specs.Ordering.{nat_cmp, ordering_then}
use Rattle.std.specs.declared.cmp.Ordering.{Ordering}
use Rattle.std.specs.declared.cmp.Ordering.TheVariants.{Less}
use Rattle.exact_frac.specs.Frac.{order_of}
use Rattle.intervals.specs.Cuts.{AreUnited, AreRest}
use Rattle.intervals.specs.declared.interval.Interval.{Interval}
use Rattle.lattice.specs.declared.pieces.StripKind.TheVariants.{Trace}
use Rattle.lattice.specs.declared.points.Spot.{Spot}
use Rattle.lattice.specs.Triple.{Triple}
use Rattle.lattice.specs.Points.{of_spot, across_of, upward_of, IsRatio}
use Rattle.line_merge.specs.declared.ends.SeenEnd.{SeenEnd}
use Rattle.line_merge.specs.declared.numbering.Numbered.{Numbered}
use Rattle.line_merge.specs.inner.Kinds.{is_up_to}

-- by U, and then by V
abbrev pub seen_order : SeenEnd → SeenEnd → Ordering
seen_order s t = ordering_then (order_of s.across t.across) (order_of s.upward t.upward)

-- by the number of the line, and then by the place on it
abbrev pub end_order : SeenEnd → SeenEnd → Ordering
end_order s t = ordering_then (nat_cmp s.line t.line) (seen_order s t)

-- U and V of the end are those of its spot
pub record IsSeenEnd (d : Triple) (t : SeenEnd) : Type 0 where
  pub across : IsRatio t.across (across_of d (of_spot t.spot)) t.spot.w
  pub upward : IsRatio t.upward (upward_of d (of_spot t.spot)) t.spot.w

pub record IsSeenEndOf (d : Triple) (n : ℕ) (p : Spot) (t : SeenEnd) : Type 0 where
  pub seen : IsSeenEnd d t
  pub line : t.line ≡ n
  pub spot : t.spot ≡ p

-- from the one end of the strip to the other, the lesser first
pub record IsIntervalOf (d : Triple) (x : Numbered) (i : Interval SeenEnd) : Type 0 where
  pub proper : end_order i.from i.to ≡ Less
  pub ends : (IsSeenEndOf d x.line x.strip.a i.from × IsSeenEndOf d x.line x.strip.b i.to) ⊎ (IsSeenEndOf d x.line x.strip.b i.from × IsSeenEndOf d x.line x.strip.a i.to)

-- these are the intervals of the strips, put together
pub record AreUnitedOf (d : Triple) (given : List Numbered) (joined : List (Interval SeenEnd)) : Type 0 where
  pub intervals : List (Interval SeenEnd)
  pub each : AllZip (IsIntervalOf d) given intervals
  pub united : AreUnited end_order intervals joined

-- these are what the strips of all kinds, put together, leave beside those that are drawn
pub record IsLeftOfAll (d : Triple) (given : List Numbered) (drawn traces : List (Interval SeenEnd)) : Type 0 where
  pub all : List (Interval SeenEnd)
  pub united : AreUnitedOf d (filter (λ x. is_up_to Trace x.strip.kind) given) all
  pub left : AreRest end_order all drawn traces
