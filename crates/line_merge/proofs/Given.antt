-- From strips to intervals along their lines, to united ones and to what is left, and back.
use Rattle.std.proofs.Common.{◌≡◌, ℕ, ◌<◌, ◌⊎◌, inl, inr, Bool, List, Contains, length, map, get_or, sym, ap, subst, ◌∙◌, arith}
use Rattle.std.specs.List.{All, AllZip, Any, filter}
use Rattle.std.proofs.lemmas.List.Elements.{All-contains, All-map, Contains-get_or}
use Rattle.intervals.specs.declared.interval.Interval.{Interval}
use Rattle.intervals.specs.Cuts.{IsProper, IsEndOf, AreUnited, AreRest, Crosses, CrossesAny}
use Rattle.lattice.specs.declared.lines.Line.{Line}
use Rattle.lattice.specs.declared.points.Spot.{Spot}
use Rattle.lattice.specs.declared.pieces.Strip.{Strip}
use Rattle.lattice.specs.Triple.{Triple}
use Rattle.lattice.specs.Points.{Point, IsPoint, OnOneSight}
use Rattle.lattice.specs.Lines.{AreStripEnds}
use Rattle.geometry.specs.Pieces.{LiesBetween}
use Rattle.geometry.proofs.Shares.{sum_turned}
use Rattle.line_merge.specs.declared.ends.SeenEnd.{SeenEnd}
use Rattle.line_merge.specs.declared.numbering.Numbered.{Numbered}
use Rattle.line_merge.specs.inner.Ends.{end_order, IsSeenEndOf, IsIntervalOf}
use Rattle.line_merge.specs.Merging.{AreStrips, LiesOnStrip}
use Rattle.line_merge.specs.inner.Numbering.{numbered_by}
use Rattle.line_merge.proofs.Courses.{cut_at, line_cut, is_line_cut, AreNumberedStrips, IsOnNumbered, IsEnd, IsOffEnds, IsCourse, crossed, lies, meets, one_line_of, course_of}
use Rattle.line_merge.proofs.Lists.{filter_map}
use Rattle.line_merge.proofs.Zips.{zip_left, zip_right, zip_map}

-- ---- one strip
pub between_turned : (d : Triple) (a b : Spot) (p : Point) → LiesBetween d a b p → LiesBetween d b a p
between_turned d a b p (i, j, some, seen) = (j, i, omega arith, subst (λ (q : Point). OnOneSight d q p) (sum_turned a b i j) seen)

module _ (d : Triple) (strips : List Strip) (number : Line → ℕ) (x : Strip) (there : Contains strips x) (i : Interval SeenEnd) (h : IsIntervalOf d (numbered_by number x) i) where
  pub strip_course : IsCourse d strips number i
  strip_course = by h.ends
    where
      by : (IsSeenEndOf d (number x.line) x.a i.from × IsSeenEndOf d (number x.line) x.b i.to) ⊎ (IsSeenEndOf d (number x.line) x.b i.from × IsSeenEndOf d (number x.line) x.a i.to) → IsCourse d strips number i
      by (inl (k, l)) =
          course_of d strips number i (record { strip = x; listed = there; seen = k.seen; line = k.line; spot = inl k.spot }) (record { strip = x; listed = there; seen = l.seen; line = l.line; spot = inr l.spot })
          h.proper (k.line ∙ sym l.line)
      by (inr (k, l)) =
          course_of d strips number i (record { strip = x; listed = there; seen = k.seen; line = k.line; spot = inr k.spot }) (record { strip = x; listed = there; seen = l.seen; line = l.line; spot = inl l.spot })
          h.proper (k.line ∙ sym l.line)

  strip_line : i.from.line ≡ number x.line
  strip_line = by h.ends
    where
      by : (IsSeenEndOf d (number x.line) x.a i.from × IsSeenEndOf d (number x.line) x.b i.to) ⊎ (IsSeenEndOf d (number x.line) x.b i.from × IsSeenEndOf d (number x.line) x.a i.to) → i.from.line ≡ number x.line
      by (inl (k, l)) = k.line
      by (inr (k, l)) = k.line

  module _ (p : Point) where
    moved : (a b s t : Spot) → a ≡ s → b ≡ t → LiesBetween d a b p → LiesBetween d s t p
    moved a b s t e f on = subst (λ (q : Spot). LiesBetween d q t p) e (subst (λ (q : Spot). LiesBetween d a q p) f on)

    interval_of_strip : LiesOnStrip d x p → LiesBetween d i.from.spot i.to.spot p
    interval_of_strip on = by h.ends
      where
        by : (IsSeenEndOf d (number x.line) x.a i.from × IsSeenEndOf d (number x.line) x.b i.to) ⊎ (IsSeenEndOf d (number x.line) x.b i.from × IsSeenEndOf d (number x.line) x.a i.to) → LiesBetween d i.from.spot i.to.spot p
        by (inl (k, l)) = moved x.a x.b i.from.spot i.to.spot (sym k.spot) (sym l.spot) on
        by (inr (k, l)) = moved x.b x.a i.from.spot i.to.spot (sym k.spot) (sym l.spot) (between_turned d x.a x.b p on)

    strip_of_interval : LiesBetween d i.from.spot i.to.spot p → LiesOnStrip d x p
    strip_of_interval on = by h.ends
      where
        by : (IsSeenEndOf d (number x.line) x.a i.from × IsSeenEndOf d (number x.line) x.b i.to) ⊎ (IsSeenEndOf d (number x.line) x.b i.from × IsSeenEndOf d (number x.line) x.a i.to) → LiesOnStrip d x p
        by (inl (k, l)) = moved i.from.spot i.to.spot x.a x.b k.spot l.spot on
        by (inr (k, l)) = between_turned d x.b x.a p (moved i.from.spot i.to.spot x.b x.a k.spot l.spot on)

-- ---- the strips of a list, which are among all strips
module _ (d : Triple) (strips : List Strip) (number : Line → ℕ) (are : AreNumberedStrips d strips number) (given : List Strip) (among : (x : Strip) → Contains given x → Contains strips x)
    (xs : List (Interval SeenEnd)) (each : AllZip (λ (x : Strip) (i : Interval SeenEnd). IsIntervalOf d (numbered_by number x) i) given xs) where
  abbrev Belongs : Strip → Interval SeenEnd → Type 0
  Belongs x i = IsIntervalOf d (numbered_by number x) i

  pub given_courses : All (IsCourse d strips number) xs
  given_courses k e less =
      let (x, there, is) = zip_right Belongs given xs each (get_or xs k e) (Contains-get_or xs k e less) in
      strip_course d strips number x (among x there) (get_or xs k e) is

  module _ (p : Point) (positive : IsPoint p) (off : IsOffEnds d strips p) where
    -- the cut at a point of a strip goes through an interval
    pub hit : (x : Strip) → Contains given x → LiesOnStrip d x p → IsOnNumbered d strips number (number x.line) p × CrossesAny (cut_at d (number x.line) p) xs
    hit x there on =
        let (k, i, within, at, is) = zip_left Belongs given xs each x there in
        let (on_line, c) = meets d strips number are i (strip_course d strips number x (among x there) i is) p positive off (interval_of_strip d strips number x (among x there) i is p on) in
        let same = strip_line d strips number x (among x there) i is in (
          subst (λ n. IsOnNumbered d strips number n p) same on_line,
          (k, i, within, at, subst (λ n. Crosses (cut_at d n p) i) same c),
        )

    -- where the cut at a point of a line goes through an interval, the point lies on a strip of that line
    pub strip_at : (n : ℕ) → IsOnNumbered d strips number n p → CrossesAny (cut_at d n p) xs → (x : Strip) × Contains given x × LiesOnStrip d x p × (number x.line ≡ n)
    strip_at n on (k, i, within, at, c) =
        let (x, there, is) = zip_right Belongs given xs each i (k, within, at) in
        let course = strip_course d strips number x (among x there) i is in (
          x,
          there,
          strip_of_interval d strips number x (among x there) i is p (lies d strips number are i course p positive off n on c),
          sym (strip_line d strips number x (among x there) i is) ∙ (crossed d strips number are i course p positive off n c).0,
        )

-- ---- united, and what is left
end_of : (d : Triple) (strips : List Strip) (number : Line → ℕ) (xs : List (Interval SeenEnd)) → All (IsCourse d strips number) xs → (t : SeenEnd) → IsEndOf xs t → IsEnd d strips number t
end_of d strips number xs courses t (k, x, within, at, is) = by is
  where
    course : IsCourse d strips number x
    course = All-contains (IsCourse d strips number) xs x courses (k, within, at)

    by : (x.from ≡ t) ⊎ (x.to ≡ t) → IsEnd d strips number t
    by (inl e) = subst (IsEnd d strips number) e course.from
    by (inr e) = subst (IsEnd d strips number) e course.to

any_at : (us : List (Interval SeenEnd)) (P : Interval SeenEnd → Type 0) (k : ℕ) (e : Interval SeenEnd) → k < length us → P (get_or us k e) → Any P us
any_at us P k e less h = let there = Contains-get_or us k e less in (there.0, get_or us k e, there.1, there.2, h)

module _ (d : Triple) (strips : List Strip) (number : Line → ℕ) (are : AreNumberedStrips d strips number) where
  pub united_courses : (xs us : List (Interval SeenEnd)) → AreUnited end_order xs us → All (IsCourse d strips number) xs → All (IsCourse d strips number) us
  united_courses xs us united courses k e less =
      let u = get_or us k e in
      let ends = united.ends k e less in
      let proper = united.apart.inside k e less in
      course_of d strips number u (end_of d strips number xs courses u.from ends.0) (end_of d strips number xs courses u.to ends.1) proper
      (one_line_of d strips number are xs courses u proper
      (λ c. (united.within (line_cut u.to.line) (is_line_cut u.to.line)).0 (any_at us (Crosses (line_cut u.to.line)) k e less c)))

  pub rest_courses : (whole parts rs : List (Interval SeenEnd)) → AreRest end_order whole parts rs → All (IsCourse d strips number) whole → All (IsCourse d strips number) parts → All (IsCourse d strips number) rs
  rest_courses whole parts rs left courses others k e less =
      let u = get_or rs k e in
      let ends = left.ends k e less in
      let proper = left.apart.inside k e less in
      course_of d strips number u (either u.from ends.0) (either u.to ends.1) proper
      (one_line_of d strips number are whole courses u proper
      (λ c. ((left.within (line_cut u.to.line) (is_line_cut u.to.line)).0 (any_at rs (Crosses (line_cut u.to.line)) k e less c)).0))
    where
      either : (t : SeenEnd) → IsEndOf whole t ⊎ IsEndOf parts t → IsEnd d strips number t
      either t (inl h) = end_of d strips number whole courses t h
      either t (inr h) = end_of d strips number parts others t h

  module _ (us : List (Interval SeenEnd)) (courses : All (IsCourse d strips number) us) (p : Point) (positive : IsPoint p) (off : IsOffEnds d strips p) where
    -- where the cut at a point of a line goes through one of them, the point lies on it
    pub lies_of_any : (n : ℕ) → IsOnNumbered d strips number n p → CrossesAny (cut_at d n p) us → (u : Interval SeenEnd) × Contains us u × LiesBetween d u.from.spot u.to.spot p
    lies_of_any n on (k, u, within, at, c) =
        (u, (k, within, at), lies d strips number are u (All-contains (IsCourse d strips number) us u courses (k, within, at)) p positive off n on c)

    pub any_of_lies : (u : Interval SeenEnd) → Contains us u → LiesBetween d u.from.spot u.to.spot p → IsOnNumbered d strips number u.from.line p × CrossesAny (cut_at d u.from.line p) us
    any_of_lies u (k, within, at) on =
        let h = meets d strips number are u (All-contains (IsCourse d strips number) us u courses (k, within, at)) p positive off on in
        (h.0, (k, u, within, at, h.1))

-- each interval of a strip has an inside
pub given_proper : (d : Triple) (given : List Numbered) (xs : List (Interval SeenEnd)) → AllZip (IsIntervalOf d) given xs → All (IsProper end_order) xs
given_proper d given xs each k e less = let (x, there, is) = zip_right (IsIntervalOf d) given xs each (get_or xs k e) (Contains-get_or xs k e less) in is.proper

-- ---- strips with their numbers
pub kept_of : (number : Line → ℕ) (strips : List Strip) (numbered : List Numbered) → numbered ≡ map (numbered_by number) strips → (test : Strip → Bool) (kept : List Numbered)
    → kept ≡ filter (λ (x : Numbered). test x.strip) numbered → kept ≡ map (numbered_by number) (filter test strips)
kept_of number strips numbered same test kept e = e ∙ ap (filter (λ (x : Numbered). test x.strip)) same ∙ filter_map (numbered_by number) (λ (x : Numbered). test x.strip) strips

module _ (d : Triple) (number : Line → ℕ) (strips : List Strip) (numbered : List Numbered) (same : numbered ≡ map (numbered_by number) strips) where
  pub ends_of : AreStrips d strips → All (λ (x : Numbered). AreStripEnds d x.strip.line x.strip.a x.strip.b) numbered
  ends_of are =
      subst (All (λ (x : Numbered). AreStripEnds d x.strip.line x.strip.a x.strip.b)) (sym same)
      (All-map (λ (x : Numbered). AreStripEnds d x.strip.line x.strip.a x.strip.b) (numbered_by number) strips are)

  pub each_of : (xs : List (Interval SeenEnd)) → AllZip (IsIntervalOf d) numbered xs → AllZip (λ (x : Strip) (i : Interval SeenEnd). IsIntervalOf d (numbered_by number x) i) strips xs
  each_of xs each = zip_map (IsIntervalOf d) (numbered_by number) strips xs (subst (λ (ys : List Numbered). AllZip (IsIntervalOf d) ys xs) same each)
