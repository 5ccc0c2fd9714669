-- What a walk along an edge of a cut view knows of the borders it has found, and the count by what is before a place.
use Rattle.std.proofs.Common.{◌≡◌, ◌≢◌, ℕ, ◌<◌, Bool, true, false, List, All, AllPairs, Contains, length, sum, refl, sym, ap, ◌∙◌, arith}
use Rattle.std.specs.Prelude.{ℤ, pos, ◌+ℤ◌, ◌-ℤ◌, ◌*ℤ◌, ◌<ℤ◌}
use Rattle.std.specs.Bool.{Decides}
use Rattle.std.specs.Int.Signed.{lt_z}
use Rattle.std.specs.List.{AllZip}
use Rattle.std.proofs.lemmas.Bool.{false_from_ne_true}
use Rattle.std.proofs.lemmas.Int.{ints, by_lt_z}
use Rattle.integers.proofs.Comparisons.{at_most_of_less, positive_of_more, same_of_both}
use Rattle.integers.proofs.Orders.{lt_z_of_less, lt_z_of_at_most}
use Rattle.exact_frac.specs.declared.Frac.{Frac}
use Rattle.lattice.specs.declared.points.Corner.{Corner}
use Rattle.lattice.specs.Points.{point_of}
use Rattle.lattice.specs.Cuts.{Plane, toward_of, IsBeyond}
use Rattle.geometry.specs.Faces.{share_point}
use Rattle.geometry.specs.Parts.{Part, Face, Edge, IsNumbered}
use Rattle.geometry.specs.Sound.{IsSound}
use Rattle.geometry.specs.Views.{face_sign, IsEndOn}
use Rattle.geometry.specs.Counts.{Side}
use Rattle.hiding_laws.specs.Sums.{total}
use Rattle.hiding_laws.proofs.SumsBelow.{keep}
use Rattle.cut_plane.specs.Crossings.{CrossesAt}
use Rattle.cut_plane.proofs.FoundCrossings.{crosses_same}
use Rattle.cut_plane.proofs.Sights.{sight_of}
use Rattle.cut_plane.proofs.Xors.{xor, odd_in}
use Rattle.cut_count_laws.specs.CutCounts.{AreCutCounted}
use Rattle.cut_count_laws.proofs.BorderPlaces.{ahead_is, marks_of_change, root_of_crossing}
use Rattle.cut_count_laws.proofs.BorderRows.{border_row, ahead_at}
use Rattle.cut_count_laws.proofs.BordersPassed.{ahead_back}
use Rattle.cut_count_laws.proofs.CutCountAlong.{count_in_cut}
use Rattle.cut_count_laws.proofs.CutLaws.{HasCutChanged, HasEachOutline, border_passed, HasBorderChanged, AreCutCovers}
use Rattle.cut_count_laws.proofs.CutLaws.HasBorderChanged.{passed, not_passed}
use Rattle.cut_count_laws.proofs.FaceBorders.{one_change}
use Rattle.cut_count_laws.proofs.Laws.{HasCornersInRange, IsValid}
use Rattle.cut_count_laws.proofs.Rays.{is_ahead, border_ahead}
use Rattle.cut_count_laws.proofs.Rests.{HasBorderChange}
use Rattle.cut_count_laws.proofs.Rests.HasBorderChange.{along, none}
use Rattle.cut_count_laws.proofs.SectionChanges.{PassesBetween, ahead_changes}
use Rattle.cut_count_laws.proofs.TurnedCuts.{zip_same}
use Rattle.cut_count_laws.proofs.SectionSums.{worth, both, IsFront, steps, sum_before, section_sums}

-- a border as it is found: whether it changes the mark on that side, and what it changes of how many faces are counted, at its inner place of the edge
pub data IsFoundBorder (k : Side) (c : Plane) {s : Part} (e : Edge s) (f : Face s) (at : Frac) : Bool → ℤ → Type 0 where
  turns_mark : (change : ℤ) → HasBorderChange k c e f change → change ≢ pos 0 → pos 0 <ℤ at.num → at.num <ℤ at.den → CrossesAt c f e at.num at.den → IsFoundBorder k c e f at true (pos 0 -ℤ (face_sign (toward_of c) f *ℤ change))
  keeps_mark : HasBorderChange k c e f (pos 0) → IsFoundBorder k c e f at false (pos 0)

module _ (k : Side) (c : Plane) (s : Part) (sound : IsSound s) (spare : Corner) (e : Edge s) (f : Face s) (n m : ℤ) (valid : IsValid c e n m) where
  m_there : pos 0 <ℤ m
  m_there = positive_of_more n m valid.after valid.before

  -- a border is passed exactly if it changes the mark and has its place between the first end and the place
  pub passed_decides : Decides (border_passed k c s spare e n m f.tri) (PassesBetween k c e f (pos 0) (pos 1) n m)
  passed_decides = ahead_changes k c s spare e f (sound.closed.none_flat f) (pos 0) (pos 1) n m (omega (arith, ints)) m_there (order n m valid.after) valid.free
    where
      order : (n m : ℤ) → pos 0 <ℤ n → (pos 0 *ℤ m) <ℤ (n *ℤ pos 1)
      order n m h = omega (arith, ints)

  not_passing : HasBorderChange k c e f (pos 0) → border_passed k c s spare e n m f.tri ≡ false
  not_passing has = false_from_ne_true (border_passed k c s spare e n m f.tri) (λ is. let x = passed_decides.0 is in x.changes (one_change c f k e (along x.p x.q x.border) has))

  -- where it changes the mark it is passed exactly if its place is before
  pub passing : (change : ℤ) → HasBorderChange k c e f change → change ≢ pos 0 → (i j : ℤ) → pos 0 <ℤ j → pos 0 <ℤ i → CrossesAt c f e i j → border_passed k c s spare e n m f.tri ≡ lt_z (i *ℤ m) (n *ℤ j)
  passing change (none h) some i j j_there i_there crosses = absurd (some refl)
  passing change (along p q ends) some i j j_there i_there crosses =
      (λ t. xor (row_is (pos 0) (pos 1) t) (row_is n m t)) ∙ ap (λ b. xor b (lt_z (n *ℤ j) (i *ℤ m))) (lt_z_of_less (pos 0 *ℤ j) (i *ℤ pos 1) (start i j i_there)) ∙ by_place
    where
      start : (i j : ℤ) → pos 0 <ℤ i → (pos 0 *ℤ j) <ℤ (i *ℤ pos 1)
      start i j h = omega (arith, ints)

      row_is : (n m : ℤ) → border_ahead k c s spare e n m f.tri ≡ lt_z (n *ℤ j) (i *ℤ m)
      row_is n m =
          let a = sight_of (toward_of c) (point_of e.a) in
          let b = sight_of (toward_of c) (point_of e.b) in
          let x = sight_of (toward_of c) (share_point e.a e.b n m) in
          ahead_at k c s spare e n m f ∙ border_row (is_ahead k a b x) (λ y z. ahead_back k a b x y z) c f p q ends
          ∙ ahead_is c f p q ends e k n m i j j_there (root_of_crossing c f p q ends e i j crosses) (marks_of_change c f p q ends e k some)

      by_place : xor true (lt_z (n *ℤ j) (i *ℤ m)) ≡ lt_z (i *ℤ m) (n *ℤ j)
      by_place = by_lt_z (i *ℤ m) (n *ℤ j)
          (λ h. ap (xor true) (lt_z_of_at_most (n *ℤ j) (i *ℤ m) (at_most_of_less _ _ h)) ∙ sym (lt_z_of_less (i *ℤ m) (n *ℤ j) h))
          (λ h. by_lt_z (n *ℤ j) (i *ℤ m)
          (λ g. ap (xor true) (lt_z_of_less (n *ℤ j) (i *ℤ m) g) ∙ sym (lt_z_of_at_most (i *ℤ m) (n *ℤ j) h))
          (λ g. absurd (valid.free (f, (crosses_same c f e i j n m j_there (same_of_both _ _ g h) crosses).passes))))

  -- what a border that is found has changed by the place
  module _ (at : Frac) where
    abbrev before : Bool
    before = lt_z (at.num *ℤ m) (n *ℤ at.den)

    pub found_changed : {flips : Bool} {own : ℤ} → IsFoundBorder k c e f at flips own → HasBorderChanged k c spare e f n m (keep before own) × (border_passed k c s spare e n m f.tri ≡ both before flips)
    found_changed (keeps_mark has) = by before
      where
        by : (b : Bool) → HasBorderChanged k c spare e f n m (keep b (pos 0)) × (border_passed k c s spare e n m f.tri ≡ both b false)
        by true = (not_passed (not_passing has), not_passing has)
        by false = (not_passed (not_passing has), not_passing has)
    found_changed (turns_mark change has some i_there short crosses) = by before (passing change has some at.num at.den at.positive i_there crosses)
      where
        by : (b : Bool) → border_passed k c s spare e n m f.tri ≡ b → HasBorderChanged k c spare e f n m (keep b (pos 0 -ℤ (face_sign (toward_of c) f *ℤ change))) × (border_passed k c s spare e n m f.tri ≡ both b true)
        by true is = (passed change is has, is)
        by false is = (not_passed is, is)

-- ---- the walk
module _ (c : Plane) (s : Part) (sound : IsSound s) (in_range : HasCornersInRange s) where
  -- A count is what is counted next to the first end, with the section there, and the sums of what changes before the place: of outlines, of the faces'
  -- borders, and of the section, which begins and ends in turn along the borders in their order.
  pub count_walked : (k : Side) (spare : Corner) (e : Edge s) → IsBeyond c (point_of e.a) → (n m : ℤ) → IsValid c e n m → ¬ IsEndOn (toward_of c) e
      → {halves numbers : List ℕ} → HasEachOutline c e n m halves numbers → {A : Type 0} (value : A → ℤ) (changes : List A)
      → AllZip (λ i x. (o : Edge s) → IsNumbered halves i o → HasCutChanged k c e o n m (value x)) numbers changes
      → (triangles : List ℕ) → All (λ i. i < length s.triangles) triangles → AllPairs ◌≢◌ triangles
      → ((f : Face s) → PassesBetween k c e f (pos 0) (pos 1) n m → Contains triangles f.number)
      → {B : Type 0} (place : B → Frac) (flips : B → Bool) (own : B → ℤ) (borders : List B)
      → AllZip (λ i x. (f : Face s) → f.number ≡ i → IsFoundBorder k c e f (place x) (flips x) (own x)) triangles borders
      → IsFront (λ x. lt_z ((place x).num *ℤ m) (n *ℤ (place x).den)) borders
      → (covers : List ℕ) → AreCutCovers k c e false covers → (all : ℕ) → AreCutCounted k c e (share_point e.a e.b n m) all
      → (let start = odd_in (border_ahead k c s spare e (pos 0) (pos 1)) s.triangles in let before = λ (x : B). lt_z ((place x).num *ℤ m) (n *ℤ (place x).den) in
      pos all ≡ (((pos (sum covers) +ℤ worth start) +ℤ total value changes) +ℤ total (λ x. keep (before x) (own x)) borders) +ℤ sum_before flips before borders (steps flips start borders))
  count_walked k spare e beyond n m valid across {halves} {numbers} outlines value changes has triangles within once whole {B} place flips own borders has' front covers next all are =
      count_in_cut c s sound in_range k spare e beyond n m valid across outlines value changes has
      (record { within = within; once = once; whole = λ f is. whole f ((passed_decides k c s sound spare e f n m valid).0 is) })
      (λ x. keep (before x) (own x)) (λ x. both (before x) (flips x)) borders
      (zip_same _ _ triangles borders (λ i x h f same. found_changed k c s sound spare e f n m valid (place x) (h f same)) has') covers next all are
      ∙ ap (λ v. (((pos (sum covers) +ℤ worth start) +ℤ total value changes) +ℤ total (λ x. keep (before x) (own x)) borders) +ℤ v) (sym (section_sums flips before start borders front))
    where
      before : B → Bool
      before x = lt_z ((place x).num *ℤ m) (n *ℤ (place x).den)

      start : Bool
      start = odd_in (border_ahead k c s spare e (pos 0) (pos 1)) s.triangles
