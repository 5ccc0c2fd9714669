-- A walk along an edge of a cut view from its first end has the counts at each place.
use Rattle.std.proofs.Common.{◌≡◌, ℕ, Bool, true, false, cond, List, ◌++◌, sum, refl, ap, ◌∙◌, arith}
use Rattle.std.specs.Prelude.{ℤ, pos, ◌+ℤ◌, ◌*ℤ◌, ◌<ℤ◌}
use Rattle.std.specs.Int.Signed.{lt_z}
use Rattle.std.proofs.lemmas.Int.{ints}
use Rattle.integers.proofs.Comparisons.{positive_of_more}
use Rattle.exact_frac.specs.declared.Frac.{Frac}
use Rattle.intervals.specs.declared.interval.Interval.{Interval}
use Rattle.lattice.specs.Cuts.{Plane, toward_of, IsBeyond}
use Rattle.lattice.specs.Points.{point_of}
use Rattle.geometry.specs.Faces.{share_point}
use Rattle.geometry.specs.Parts.{Part, Edge}
use Rattle.geometry.specs.Sound.{IsSound}
use Rattle.geometry.specs.Counts.{Side}
use Rattle.hiding_laws.specs.Sums.{total}
use Rattle.hiding_laws.proofs.SumsBelow.{keep}
use Rattle.cross_find.specs.declared.meter.Crossing.{Crossing}
use Rattle.cut_plane.specs.declared.segments.Segment.{Segment}
use Rattle.cut_plane.proofs.Xors.{odd_in}
use Rattle.span_count.specs.Carries.{change_before}
use Rattle.span_count.proofs.Sums.{of_option, total_append}
use Rattle.cut_count_laws.specs.CutCounts.{AreCutCounted}
use Rattle.cut_count_laws.proofs.CutWalks.{count_walked}
use Rattle.cut_count_laws.proofs.Laws.{HasCornersInRange, IsValid}
use Rattle.cut_count_laws.proofs.Rays.{border_ahead}
use Rattle.cut_count_laws.proofs.SectionSums.{worth, steps, sum_before, front_of_sorted}
use Rattle.cut_count.specs.declared.found.CrossingBorder.{CrossingBorder}
use Rattle.cut_count.specs.inner.Walks.{IsOddAhead, AreCoverCounts}
use Rattle.cut_count.proofs.AheadEnds.{odd_from_start}
use Rattle.cut_count.proofs.FoundBorders.{AreNumbered, numbered, listed_before}
use Rattle.cut_count.proofs.OutlineTotals.{outlines_changed, outlines_total, each_outline}
use Rattle.cut_count.proofs.SectionTotals.{section_before}
use Rattle.cut_count.proofs.WalkLaws.{share_to, turns_to, change_to, odd_to, HasWalked, WalkedLaw}

worth_is : (b : Bool) → worth b ≡ cond b (pos 1) (pos 0)
worth_is false = refl
worth_is true = refl

module _ (c : Plane) (s : Part) (sound : IsSound s) (in_range : HasCornersInRange s) (halves : List ℕ) (edge : ℕ) (e : Edge s) (part : Interval Frac) (segments : List Segment) (left right : Bool) (found : List CrossingBorder) (section outlines : List Crossing)
    (walk : HasWalked false c s halves edge e part segments left right found section outlines) (start : IsBeyond c (point_of e.a)) (k : Side) (is_odd : IsOddAhead k false (toward_of c) e.a e.b segments (odd_to k left right))
    (n m : ℤ) (valid : IsValid c e n m) where
  there : pos 0 <ℤ m
  there = positive_of_more n m valid.after valid.before

  listed : AreNumbered k c e found
  listed = numbered k c e part walk.beyond segments walk.starts walk.borders walk.listed walk.are_found found walk.same

  -- the section is next to the first end where it is before the first border
  abbrev at_start : Bool
  at_start = odd_in (border_ahead k c s e.a e (pos 0) (pos 1)) s.triangles

  same_start : odd_to k left right ≡ at_start
  same_start = odd_from_start k c s sound.closed in_range e.a e segments walk.starts walk.borders (odd_to k left right) is_odd

  -- ---- what changes before the place
  abbrev by_outlines : ℤ
  by_outlines = total (of_option (change_before (change_to k) n m)) walk.by_outlines.answers

  abbrev before : CrossingBorder → Bool
  before x = lt_z (x.at.num *ℤ m) (n *ℤ x.at.den)

  abbrev by_faces : ℤ
  by_faces = total (λ x. keep (before x) (share_to k x).own) found

  abbrev by_section : Bool → ℤ
  by_section b = sum_before (turns_to k) before found (steps (turns_to k) b found)

  changes : total (change_before (change_to k) n m) (section ++ outlines) ≡ (by_faces +ℤ by_section at_start) +ℤ by_outlines
  changes =
      total_append (change_before (change_to k) n m) section outlines
      ∙ (λ i. section_before k left right found section walk.by_section n m i +ℤ outlines_total k c e halves walk.numbers outlines walk.by_outlines (change_before (change_to k) n m) i)
      ∙ (λ i. (by_faces +ℤ by_section (same_start i)) +ℤ by_outlines)

  counted : (near : ℤ) → AreCoverCounts k c e false near → (all : ℕ) → AreCutCounted k c e (share_point e.a e.b n m) all
      → pos all ≡ (near +ℤ cond (odd_to k left right) (pos 1) (pos 0)) +ℤ total (change_before (change_to k) n m) (section ++ outlines)
  counted near (covers, next, near_is) all are =
      together (pos all) (pos (sum covers)) near (worth at_start) (cond (odd_to k left right) (pos 1) (pos 0)) (worth (odd_to k left right)) by_outlines by_faces (by_section at_start) (total (change_before (change_to k) n m) (section ++ outlines))
      (count_walked c s sound in_range k e.a e start n m valid walk.across
      (each_outline c s halves walk.edges edge e walk.numbered walk.numbers walk.are_listed n m) (of_option (change_before (change_to k) n m)) walk.by_outlines.answers
      (outlines_changed k c e halves walk.numbers outlines walk.by_outlines n m there)
      listed.triangles listed.within listed.once (λ f x. listed_before k c e found listed f n m valid.after valid.before valid.beyond start x)
      (λ x. x.at) (turns_to k) (λ x. (share_to k x).own) found listed.each (front_of_sorted (λ (x : CrossingBorder). x.at) n m there found walk.sorted)
      covers next all are)
      near_is (worth_is (odd_to k left right)) (ap worth same_start) changes
    where
      together : (z c near w o x outlines faces section t : ℤ) → z ≡ (((c +ℤ w) +ℤ outlines) +ℤ faces) +ℤ section → near ≡ c → x ≡ o → x ≡ w → t ≡ (faces +ℤ section) +ℤ outlines → z ≡ (near +ℤ o) +ℤ t
      together z c near w o x outlines faces section t p q r u v = omega (arith, ints)

pub walked : WalkedLaw
walked c s sound in_range halves edge e part segments left right found section outlines walk start k is_odd near covers n m valid all are =
    counted c s sound in_range halves edge e part segments left right found section outlines walk start k is_odd n m valid near covers all are
