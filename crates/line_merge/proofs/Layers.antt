-- What is drawn of each style: the strips of some kinds, put together, and what others leave of them.
use Rattle.std.proofs.Common.{◌≡◌, ℕ, Bool, true, false, List, Contains, map, ◌↔◌, refl, subst, ◌∙◌}
use Rattle.std.specs.List.{All, AllZip, filter}
use Rattle.std.proofs.lemmas.List.Elements.{All-contains}
use Rattle.intervals.specs.declared.interval.Interval.{Interval}
use Rattle.intervals.specs.Cuts.{AreApart, AreUnited, AreRest, CrossesAny}
use Rattle.lattice.specs.declared.lines.Line.{Line}
use Rattle.lattice.specs.declared.pieces.Strip.{Strip}
use Rattle.lattice.specs.Triple.{Triple}
use Rattle.lattice.specs.Points.{Point, IsPoint}
use Rattle.lattice.specs.Lines.{AreStripEnds}
use Rattle.geometry.proofs.OnLines.{on_line_between}
use Rattle.line_merge.specs.declared.ends.SeenEnd.{SeenEnd}
use Rattle.line_merge.specs.declared.numbering.Numbered.{Numbered}
use Rattle.line_merge.specs.inner.Ends.{end_order, IsIntervalOf, AreUnitedOf}
use Rattle.line_merge.specs.inner.Numbering.{numbered_by}
use Rattle.line_merge.specs.Merging.{LiesOnStrip, IsClear}
use Rattle.line_merge.proofs.Courses.{cut_at, is_cut, AreNumberedStrips, IsOnNumbered, IsCourse}
use Rattle.line_merge.proofs.Given.{kept_of, each_of, given_courses, hit, strip_at, united_courses, rest_courses}
use Rattle.line_merge.proofs.Lists.{filter_contains, contains_filter}

-- these strips are put together
pub record IsCover (d : Triple) (strips : List Strip) (number : Line → ℕ) (test : Strip → Bool) (joined : List (Interval SeenEnd)) : Type 0 where
  pub intervals : List (Interval SeenEnd)
  pub each : AllZip (λ x i. IsIntervalOf d (numbered_by number x) i) (filter test strips) intervals
  pub united : AreUnited end_order intervals joined

-- with their numbers they are so
pub cover_of : (d : Triple) (strips : List Strip) (number : Line → ℕ) (numbered : List Numbered) → numbered ≡ map (numbered_by number) strips → (test : Strip → Bool) (joined : List (Interval SeenEnd))
    → AreUnitedOf d (filter (λ x. test x.strip) numbered) joined → IsCover d strips number test joined
cover_of d strips number numbered same test joined h = record {
  intervals = h.intervals;
  each =
      each_of d number (filter test strips) (filter (λ (x : Numbered). test x.strip) numbered)
      (kept_of number strips numbered same test (filter (λ (x : Numbered). test x.strip) numbered) refl) h.intervals h.each;
  united = h.united;
}

-- on the line with this number p lies on a strip that is shown, and on none that goes before
pub record IsShownOn (d : Triple) (strips : List Strip) (number : Line → ℕ) (shown before : Strip → Bool) (n : ℕ) (p : Point) : Type 0 where
  pub strip : Strip
  pub listed : Contains strips strip
  pub kept : shown strip ≡ true
  pub on : LiesOnStrip d strip p
  pub line : number strip.line ≡ n
  pub bare : (y : Strip) → Contains strips y → before y ≡ true → ¬ LiesOnStrip d y p

pub record IsLayer (d : Triple) (strips : List Strip) (number : Line → ℕ) (shown before : Strip → Bool) (layer : List (Interval SeenEnd)) : Type 0 where
  pub courses : All (IsCourse d strips number) layer
  pub apart : AreApart end_order layer
  pub within : (p : Point) → IsPoint p → IsClear d strips p → (n : ℕ) → IsOnNumbered d strips number n p → CrossesAny (cut_at d n p) layer ↔ IsShownOn d strips number shown before n p

module _ (d : Triple) (strips : List Strip) (number : Line → ℕ) (are : AreNumberedStrips d strips number) where
  -- a point of a strip is on its line
  pub on_strip_line : (x : Strip) → Contains strips x → (p : Point) → LiesOnStrip d x p → IsOnNumbered d strips number (number x.line) p
  on_strip_line x there p on =
      let ends = All-contains (λ (x : Strip). AreStripEnds d x.line x.a x.b) strips x are.ends there in
      record { strip = x; listed = there; line = refl; on = on_line_between d x.line x.a x.b p ends.first ends.second on }

  pub one_number : (p : Point) → IsClear d strips p → (x y : Strip) → Contains strips x → Contains strips y → LiesOnStrip d x p → LiesOnStrip d y p → number x.line ≡ number y.line
  one_number p clear x y there_x there_y on_x on_y = (are.numbering x y there_x there_y).1 (clear.one_line x y there_x there_y on_x on_y)

  module _ (test : Strip → Bool) (joined : List (Interval SeenEnd)) (cover : IsCover d strips number test joined) where
    among : (x : Strip) → Contains (filter test strips) x → Contains strips x
    among x there = (contains_filter test strips x there).0

    cover_courses : All (IsCourse d strips number) joined
    cover_courses = united_courses d strips number are cover.intervals joined cover.united (given_courses d strips number are (filter test strips) among cover.intervals cover.each)

    module _ (p : Point) (positive : IsPoint p) (clear : IsClear d strips p) where
      -- where the cut at a point of a line goes through, it lies on a strip of that line
      cover_at : (n : ℕ) → IsOnNumbered d strips number n p → CrossesAny (cut_at d n p) joined → (x : Strip) × Contains strips x × (test x ≡ true) × LiesOnStrip d x p × (number x.line ≡ n)
      cover_at n on_line c =
          let (x, there, on, same) =
          strip_at d strips number are (filter test strips) among cover.intervals cover.each p positive clear.off_ends n on_line
          ((cover.united.within (cut_at d n p) (is_cut d n p positive)).0 c) in
          let kept = contains_filter test strips x there in
          (x, kept.0, kept.1, on, same)

      -- the cut at a point of a strip goes through
      cover_through : (x : Strip) → Contains strips x → test x ≡ true → LiesOnStrip d x p → CrossesAny (cut_at d (number x.line) p) joined
      cover_through x there kept on =
          let (on_line, c) = hit d strips number are (filter test strips) among cover.intervals cover.each p positive clear.off_ends x (filter_contains test strips x there kept) on in
          (cover.united.within (cut_at d (number x.line) p) (is_cut d (number x.line) p positive)).1 c

    pub cover_layer : IsLayer d strips number test (λ x. false) joined
    cover_layer = record {
      courses = cover_courses;
      apart = cover.united.apart;
      within = λ p positive clear n on_line. (
        λ c. let (x, there, kept, on, same) = cover_at p positive clear n on_line c in
            record { strip = x; listed = there; kept = kept; on = on; line = same; bare = λ y there_y early on_y. cc },
        λ h. subst (λ m. CrossesAny (cut_at d m p) joined) h.line (cover_through p positive clear h.strip h.listed h.kept h.on),
      );
    }

  pub rest_layer : (shown before : Strip → Bool) (whole parts layer : List (Interval SeenEnd)) → IsCover d strips number shown whole → IsCover d strips number before parts → AreRest end_order whole parts layer
      → IsLayer d strips number shown before layer
  rest_layer shown before whole parts layer all early left = record {
    courses = rest_courses d strips number are whole parts layer left (cover_courses shown whole all) (cover_courses before parts early);
    apart = left.apart;
    within = λ p positive clear n on_line. (
      λ c. to p positive clear n on_line ((left.within (cut_at d n p) (is_cut d n p positive)).0 c),
      λ h. (left.within (cut_at d n p) (is_cut d n p positive)).1 (
        subst (λ m. CrossesAny (cut_at d m p) whole) h.line (cover_through shown whole all p positive clear h.strip h.listed h.kept h.on),
        λ k. let (z, there_z, kept_z, on_z, same) = cover_at before parts early p positive clear n on_line k in h.bare z there_z kept_z on_z,
      ),
    );
  }
    where
      to : (p : Point) → IsPoint p → IsClear d strips p → (n : ℕ) → IsOnNumbered d strips number n p → CrossesAny (cut_at d n p) whole × ¬ CrossesAny (cut_at d n p) parts → IsShownOn d strips number shown before n p
      to p positive clear n on_line (c, none) =
          let (x, there, kept, on, same) = cover_at shown whole all p positive clear n on_line c in
          record {
            strip = x;
            listed = there;
            kept = kept;
            on = on;
            line = same;
            bare = λ y there_y early_y on_y. none (subst (λ m. CrossesAny (cut_at d m p) parts) (one_number p clear y x there_y there on_y on ∙ same) (cover_through before parts early p positive clear y there_y early_y on_y));
          }
