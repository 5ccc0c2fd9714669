-- A walk from an edge's second end in a cut view: what is counted there, without all that changes along the edge, and with what changes before a place.
use Rattle.std.proofs.Common.{◌≡◌, ◌≢◌, ℕ, ◌<◌, Bool, true, false, List, [], ◌∷◌, All, AllPairs, Contains, length, sum, refl, sym, ap, subst, ◌∙◌, arith}
use Rattle.std.specs.Prelude.{ℤ, pos, ◌+ℤ◌, ◌-ℤ◌, ◌*ℤ◌, ◌<ℤ◌}
use Rattle.std.specs.Int.Signed.{lt_z}
use Rattle.std.specs.List.{AllZip}
use Rattle.std.proofs.lemmas.Bool.{false_from_ne_true}
use Rattle.std.proofs.lemmas.Int.{ints}
use Rattle.integers.proofs.Ring.{var, con, ◌⊖◌, ◌⊗◌, ring, less_by, gap_of_less}
use Rattle.exact_frac.specs.declared.Frac.{Frac}
use Rattle.lattice.specs.declared.points.Corner.{Corner}
use Rattle.lattice.specs.Triple.{Triple, det}
use Rattle.lattice.specs.Points.{Point, point_of, difference}
use Rattle.lattice.specs.Cuts.{Plane, toward_of, IsBeyond}
use Rattle.lattice.proofs.Vectors.{Letters, letters, dots, crosses}
use Rattle.geometry.specs.Cuts.{border, step_of, IsSeenOverInCut}
use Rattle.geometry.specs.Faces.{share_point}
use Rattle.geometry.specs.Parts.{Part, Face, Edge, IsNumbered}
use Rattle.geometry.specs.Sound.{IsSound}
use Rattle.geometry.specs.Views.{face_sign, IsEndOn}
use Rattle.geometry.proofs.EachEdge.{turned_edge}
use Rattle.geometry.specs.Counts.{Side}
use Rattle.geometry.specs.Turns.{other_side}
use Rattle.hiding_laws.specs.Sums.{total}
use Rattle.hiding_laws.proofs.SumsBelow.{keep}
use Rattle.cut_plane.specs.Crossings.{CrossesAt}
use Rattle.cut_plane.proofs.Tested.{same_test}
use Rattle.cut_plane.proofs.Xors.{xor, odd_in}
use Rattle.cut_count_laws.specs.CutCounts.{AreCutCounted}
use Rattle.cut_count_laws.proofs.CutLaws.{AreCutCovers, ChangesAfter, HasEachOutlineAfter, border_behind, border_to_come, BorderChangesAfter}
use Rattle.cut_count_laws.proofs.CutLaws.BorderChangesAfter.{to_come, not_to_come}
use Rattle.cut_count_laws.proofs.CutWalks.{IsFoundBorder, passed_decides, passing}
use Rattle.cut_count_laws.proofs.CutWalks.IsFoundBorder.{turns_mark, keeps_mark}
use Rattle.cut_count_laws.proofs.FaceBorders.{one_change}
use Rattle.cut_count_laws.proofs.Laws.{HasCornersInRange, IsValid}
use Rattle.cut_count_laws.proofs.Rests.{HasBorderChange}
use Rattle.cut_count_laws.proofs.Rests.HasBorderChange.{along}
use Rattle.cut_count_laws.proofs.SectionChanges.{PassesBetween}
use Rattle.cut_count_laws.proofs.SectionSums.{worth, both}
use Rattle.cut_count_laws.proofs.TurnedCuts.{place_back, valid_back, passed_back, border_change_back, change_back, count_from_back, zip_same}

-- ---- a crossing from the other end
module _ (c : Plane) {s : Part} (f : Face s) (e : Edge s) (i j : ℤ) where
  step_back : (d t : Triple) (a b : Corner) → det d (difference b a) t ≡ pos 0 -ℤ det d (difference a b) t
  step_back d t a b =
      ring (d.x ∷ d.y ∷ d.z ∷ t.x ∷ t.y ∷ t.z ∷ a.x ∷ a.y ∷ a.z ∷ b.x ∷ b.y ∷ b.z ∷ [])
      (dots (letters 0) (crosses (way (letters 9) (letters 6)) (letters 3))) (con (pos 0) ⊖ dots (letters 0) (crosses (way (letters 6) (letters 9)) (letters 3))) refl
    where
      way : Letters → Letters → Letters
      way x y = record { x = y.x ⊖ x.x; y = y.y ⊖ x.y; z = y.z ⊖ x.z }

  crosses_back : CrossesAt c f e i j → CrossesAt c f (turned_edge e) (j -ℤ i) j
  crosses_back h = record {
    passes = subst (λ (p : Point). IsSeenOverInCut c (border f) p) (sym (place_back e.a e.b i j)) h.passes;
    turns = λ z. h.turns (nil _ _ (step_back (toward_of c) (step_of c (border f)) e.a e.b) z);
  }
    where
      nil : (x y : ℤ) → x ≡ pos 0 -ℤ y → x ≡ pos 0 → y ≡ pos 0
      nil x y e g = omega (arith, ints)

-- ---- a border
opposite_some : (x y : ℤ) → x ≡ pos 0 -ℤ y → y ≢ pos 0 → x ≢ pos 0
opposite_some x y e f z = f (nil x y e z)
  where
    nil : (x y : ℤ) → x ≡ pos 0 -ℤ y → x ≡ pos 0 → y ≡ pos 0
    nil x y e g = omega (arith, ints)

same_gap : (a b x y : ℤ) → b -ℤ a ≡ y -ℤ x → lt_z a b ≡ lt_z x y
same_gap a b x y e = same_test a b x y (λ h g. omega (arith, ints)) (λ h g. omega (arith, ints))

gap_back : (i j n m : ℤ) → ((m -ℤ n) *ℤ j) -ℤ ((j -ℤ i) *ℤ m) ≡ (i *ℤ m) -ℤ (n *ℤ j)
gap_back i j n m = ring (i ∷ j ∷ n ∷ m ∷ []) (((var 3 ⊖ var 2) ⊗ var 1) ⊖ ((var 1 ⊖ var 0) ⊗ var 3)) ((var 0 ⊗ var 3) ⊖ (var 2 ⊗ var 1)) refl

module _ (k : Side) (c : Plane) (s : Part) (sound : IsSound s) (spare : Corner) (e : Edge s) (f : Face s) (n m : ℤ) (valid : IsValid c e n m) where
  -- a border that is to come changes the mark and has its place between this one and the second end
  pub to_come_between : border_to_come k c s spare e n m f.tri ≡ true → PassesBetween k c e f n m (pos 1) (pos 1)
  to_come_between is =
      let x = (passed_decides (other_side k) c s sound spare (turned_edge e) f (m -ℤ n) m (valid_back c e n m valid)).0 (passed_back k c spare e n m f.tri ∙ is) in
      record {
        p = x.p;
        q = x.q;
        border = x.border;
        changes = λ z. x.changes (change_back k (toward_of c) e.a e.b x.p x.q ∙ ap (λ v. pos 0 -ℤ v) z);
        i = x.j -ℤ x.i;
        j = x.j;
        there = x.there;
        after = less_by _ _ _ (after_gap x.i x.j) (gap_of_less _ _ x.before);
        before = earlier x.i x.j x.after;
        crosses = crosses_back c f (turned_edge e) x.i x.j x.crosses;
      }
    where
      after_gap : (i j : ℤ) → ((j -ℤ i) *ℤ m) -ℤ (n *ℤ j) ≡ ((m -ℤ n) *ℤ j) -ℤ (i *ℤ m)
      after_gap i j = ring (i ∷ j ∷ n ∷ m ∷ []) (((var 1 ⊖ var 0) ⊗ var 3) ⊖ (var 2 ⊗ var 1)) (((var 3 ⊖ var 2) ⊗ var 1) ⊖ (var 0 ⊗ var 3)) refl

      earlier : (i j : ℤ) → (pos 0 *ℤ j) <ℤ (i *ℤ pos 1) → ((j -ℤ i) *ℤ pos 1) <ℤ (pos 1 *ℤ j)
      earlier i j h = omega (arith, ints)

  -- where it changes the mark it is to come exactly if its place is after this one
  coming : (change : ℤ) → HasBorderChange k c e f change → change ≢ pos 0 → (i j : ℤ) → pos 0 <ℤ j → i <ℤ j → CrossesAt c f e i j → border_to_come k c s spare e n m f.tri ≡ lt_z (n *ℤ j) (i *ℤ m)
  coming change has some i j j_there short crosses =
      sym (passed_back k c spare e n m f.tri)
      ∙ passing (other_side k) c s sound spare (turned_edge e) f (m -ℤ n) m (valid_back c e n m valid) (pos 0 -ℤ change) (border_change_back k c spare e f has) (opposite_some _ change refl some)
      (j -ℤ i) j j_there (left i j short) (crosses_back c f e i j crosses)
      ∙ same_gap ((j -ℤ i) *ℤ m) ((m -ℤ n) *ℤ j) (n *ℤ j) (i *ℤ m) (gap_back i j n m)
    where
      left : (i j : ℤ) → i <ℤ j → pos 0 <ℤ (j -ℤ i)
      left i j h = omega (arith, ints)

  not_coming : HasBorderChange k c e f (pos 0) → border_to_come k c s spare e n m f.tri ≡ false
  not_coming has = false_from_ne_true (border_to_come k c s spare e n m f.tri) (λ is. let x = to_come_between is in x.changes (one_change c f k e (along x.p x.q x.border) has))

  module _ (at : Frac) where
    abbrev after : Bool
    after = lt_z (n *ℤ at.den) (at.num *ℤ m)

    -- what a border that is found changes after the place
    pub found_coming : {flips : Bool} {own : ℤ} → IsFoundBorder k c e f at flips own → BorderChangesAfter k c spare e f n m (keep after own) × (border_to_come k c s spare e n m f.tri ≡ both after flips)
    found_coming (keeps_mark has) = by after
      where
        by : (b : Bool) → BorderChangesAfter k c spare e f n m (keep b (pos 0)) × (border_to_come k c s spare e n m f.tri ≡ both b false)
        by true = (not_to_come (not_coming has), not_coming has)
        by false = (not_to_come (not_coming has), not_coming has)
    found_coming (turns_mark change has some i_there short crosses) = by after (coming change has some at.num at.den at.positive short crosses)
      where
        by : (b : Bool) → border_to_come k c s spare e n m f.tri ≡ b → BorderChangesAfter k c spare e f n m (keep b (pos 0 -ℤ (face_sign (toward_of c) f *ℤ change))) × (border_to_come k c s spare e n m f.tri ≡ both b true)
        by true is = (to_come change is has, is)
        by false is = (not_to_come is, is)

-- ---- the walk
module _ (c : Plane) (s : Part) (sound : IsSound s) (in_range : HasCornersInRange s) where
  -- A count is what is counted next to the second end, with the section there, less what changes after the place.
  pub count_walked_back : (k : Side) (spare : Corner) (e : Edge s) → IsBeyond c (point_of e.b) → (n m : ℤ) → IsValid c e n m → ¬ IsEndOn (toward_of c) e
      → {halves numbers : List ℕ} → HasEachOutlineAfter c e n m halves numbers → {A : Type 0} (value : A → ℤ) (changes : List A)
      → AllZip (λ i x. (o : Edge s) → IsNumbered halves i o → ChangesAfter k c e o n m (value x)) numbers changes
      → (triangles : List ℕ) → All (λ i. i < length s.triangles) triangles → AllPairs ◌≢◌ triangles
      → ((f : Face s) → PassesBetween k c e f n m (pos 1) (pos 1) → Contains triangles f.number)
      → {B : Type 0} (place : B → Frac) (flips : B → Bool) (own : B → ℤ) (borders : List B)
      → AllZip (λ i x. (f : Face s) → f.number ≡ i → IsFoundBorder k c e f (place x) (flips x) (own x)) triangles borders
      → (covers : List ℕ) → AreCutCovers k c e true covers → (all : ℕ) → AreCutCounted k c e (share_point e.a e.b n m) all
      → (let finish = odd_in (border_behind k c s spare e (pos 1) (pos 1)) s.triangles in let after = λ (x : B). lt_z (n *ℤ (place x).den) ((place x).num *ℤ m) in
      pos all ≡ (((pos (sum covers) +ℤ worth finish) -ℤ total value changes) -ℤ total (λ x. keep (after x) (own x)) borders)
      +ℤ (worth (xor finish (odd_in (λ x. both (after x) (flips x)) borders)) -ℤ worth finish))
  count_walked_back k spare e beyond n m valid across {halves} {numbers} outlines value changes has triangles within once whole {B} place flips own borders has' covers next all are =
      count_from_back c s sound in_range k spare e beyond n m valid across outlines value changes has
      (record { within = within; once = once; whole = λ f is. whole f (to_come_between k c s sound spare e f n m valid is) })
      (λ x. keep (after x) (own x)) (λ x. both (after x) (flips x)) borders
      (zip_same _ _ triangles borders (λ i x h f same. found_coming k c s sound spare e f n m valid (place x) (h f same)) has') covers next all are
    where
      after : B → Bool
      after x = lt_z (n *ℤ (place x).den) ((place x).num *ℤ m)
