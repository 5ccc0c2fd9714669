-- Along an edge in a cut view the counts change, from its second end back, by what is left of the outlines that pass nearer, and by the borders.
use Rattle.std.proofs.Common.{◌≡◌, ◌≢◌, ◌⊎◌, inl, inr, ℕ, zero, suc, Bool, true, false, not, cond, List, [], ◌∷◌, sum, refl, sym, ap, subst, ◌∙◌, arith}
use Rattle.std.specs.Prelude.{ℤ, pos, negsuc, ◌+ℤ◌, ◌-ℤ◌, ◌*ℤ◌, ◌<ℤ◌, ◌↔◌}
use Rattle.std.specs.Int.Signed.{lt_z}
use Rattle.std.specs.List.{AllZip}
use Rattle.std.proofs.lemmas.Int.{ints}
use Rattle.integers.proofs.Comparisons.{positive_at}
use Rattle.integers.proofs.Ring.{var, con, ◌⊕◌, ◌⊖◌, ◌⊗◌, ring, less_by, gap_of_less}
use Rattle.lattice.specs.declared.points.Corner.{Corner}
use Rattle.lattice.specs.declared.soup.Tri.{Tri}
use Rattle.lattice.specs.Triple.{Triple}
use Rattle.lattice.specs.Points.{Point, point_of}
use Rattle.lattice.specs.Cuts.{Plane, toward_of, IsBeyond}
use Rattle.lattice.proofs.Vectors.{Letters, letters, dots, crosses}
use Rattle.geometry.specs.Cuts.{start_corner, end_corner, IsCount, IsOrdinaryInCut}
use Rattle.geometry.specs.Cuts.IsCount.{nothing, counted, skipped}
use Rattle.geometry.specs.Faces.{share_point}
use Rattle.geometry.specs.Parts.{Part, Face, Edge, IsNumbered}
use Rattle.geometry.specs.Sound.{IsSound}
use Rattle.geometry.specs.Views.{face_sign, IsEndOn}
use Rattle.geometry.proofs.EachEdge.{turned_edge}
use Rattle.geometry.proofs.Sights.{sight_back}
use Rattle.hiding_laws.specs.Values.{side_of}
use Rattle.geometry.specs.Counts.{Side, to_left, to_right, StandsOn, ReachesTo, orientation_of}
use Rattle.geometry.specs.Covers.{IsOneWhere}
use Rattle.geometry.specs.Shares.{mark, PassesNearer, denominator_of, numerator_of, height_numerator_of}
use Rattle.geometry.specs.Turns.{other_side}
use Rattle.hiding_laws.specs.Sums.{total}
use Rattle.hiding_laws.proofs.Changed.{IsCrossedBefore}
use Rattle.cut_plane.proofs.Sights.{Sight, sight_of, turn_of, counts, corner_at}
use Rattle.cut_plane.specs.Diagonals.{IsUnderBorder}
use Rattle.cut_plane.proofs.Tested.{same_test}
use Rattle.cut_plane.proofs.Xors.{xor, odd_in}
use Rattle.cut_count_laws.specs.CutCounts.{IsCutCounted, HasCutCounted, AreCutCounted}
use Rattle.cut_count_laws.specs.CutCovers.{RestHidesNext, RestOfSideReaches, RestReachesTo, IsCutCoveredNext}
use Rattle.cut_count_laws.specs.CutEnds.{cut_end, mark_change, part_change, PointStandsOn}
use Rattle.cut_count_laws.specs.CutShares.{cut_change_of, PassesInCut, CutChanges}
use Rattle.cut_count_laws.proofs.BordersPassed.{turn_back}
use Rattle.cut_count_laws.proofs.CutCountAlong.{count_in_cut}
use Rattle.cut_count_laws.proofs.CutLaws.{HasCutChanged, HasEachOutline, border_passed, HasBorderChanged, HasEachBorder, AreCutCovers, IsCrossedAfter, ChangesAfter, HasEachOutlineAfter, is_behind, border_behind, border_to_come, BorderChangesAfter}
use Rattle.cut_count_laws.proofs.CutLaws.HasCutChanged.{passed, not_passed}
use Rattle.cut_count_laws.proofs.CutLaws.HasBorderChanged.{passed as border_is_passed, not_passed as border_not_passed}
use Rattle.cut_count_laws.proofs.CutLaws.ChangesAfter.{to_come, not_to_come}
use Rattle.cut_count_laws.proofs.CutLaws.BorderChangesAfter.{to_come as border_comes, not_to_come as border_gone}
use Rattle.cut_count_laws.proofs.Laws.{HasCornersInRange, IsValid}
use Rattle.cut_count_laws.proofs.Rays.{is_marked, is_ahead, of_border, border_ahead}
use Rattle.cut_count_laws.proofs.Rests.{HasBorderChange}
use Rattle.cut_count_laws.proofs.Rests.HasBorderChange.{along, none}
use Rattle.cut_count_laws.proofs.SectionSums.{worth}

-- ---- sides and marks
side_back : (d : Triple) (a b : Corner) (p : Point) → side_of d b a p ≡ pos 0 -ℤ side_of d a b p
side_back d a b p =
    ring (d.x ∷ d.y ∷ d.z ∷ a.x ∷ a.y ∷ a.z ∷ b.x ∷ b.y ∷ b.z ∷ p.x ∷ p.y ∷ p.z ∷ p.w ∷ [])
    (dots (letters 0) (crosses (less (letters 3) (letters 6)) (from (letters 6))))
    (con (pos 0) ⊖ dots (letters 0) (crosses (less (letters 6) (letters 3)) (from (letters 3)))) refl
  where
    less : Letters → Letters → Letters
    less x y = record { x = x.x ⊖ y.x; y = x.y ⊖ y.y; z = x.z ⊖ y.z }

    from : Letters → Letters
    from x = record { x = var 9 ⊖ (var 12 ⊗ x.x); y = var 10 ⊖ (var 12 ⊗ x.y); z = var 11 ⊖ (var 12 ⊗ x.z) }

turn_of_back : (d : Triple) (a b p : Corner) → orientation_of d b a p ≡ pos 0 -ℤ orientation_of d a b p
turn_of_back d a b p =
    ring (d.x ∷ d.y ∷ d.z ∷ a.x ∷ a.y ∷ a.z ∷ b.x ∷ b.y ∷ b.z ∷ p.x ∷ p.y ∷ p.z ∷ [])
    (dots (letters 0) (crosses (less (letters 3) (letters 6)) (less (letters 9) (letters 6))))
    (con (pos 0) ⊖ dots (letters 0) (crosses (less (letters 6) (letters 3)) (less (letters 9) (letters 3)))) refl
  where
    less : Letters → Letters → Letters
    less x y = record { x = x.x ⊖ y.x; y = x.y ⊖ y.y; z = x.z ⊖ y.z }

below : (x y : ℤ) → x ≡ pos 0 -ℤ y → pos 0 <ℤ y → x <ℤ pos 0
below x y e h = omega (arith, ints)

above : (x y : ℤ) → x ≡ pos 0 -ℤ y → y <ℤ pos 0 → pos 0 <ℤ x
above x y e h = omega (arith, ints)

pub twice : (k : Side) → other_side (other_side k) ≡ k
twice to_left = refl
twice to_right = refl

corner_back : (k : Side) (d : Triple) (a b p : Corner) → StandsOn k d a b p → StandsOn (other_side k) d b a p
corner_back to_left d a b p h = below _ _ (turn_of_back d a b p) h
corner_back to_right d a b p h = above _ _ (turn_of_back d a b p) h

point_back : (k : Side) (d : Triple) (a b : Corner) (p : Point) → PointStandsOn k d a b p → PointStandsOn (other_side k) d b a p
point_back to_left d a b p h = below _ _ (side_back d a b p) h
point_back to_right d a b p h = above _ _ (side_back d a b p) h

-- the other mark of the opposite
down_is : (z : ℕ) → pos 0 -ℤ pos (suc z) ≡ negsuc z
down_is z = omega (arith, ints)

up_is : (z : ℕ) → pos 0 -ℤ negsuc z ≡ pos (suc z)
up_is z = omega (arith, ints)

mark_other : (k : Side) (z : ℤ) → mark (other_side k) (pos 0 -ℤ z) ≡ pos 1 -ℤ mark k z
mark_other to_left (pos zero) = refl
mark_other to_left (pos (suc z)) = ap (mark to_right) (down_is z)
mark_other to_left (negsuc z) = ap (mark to_right) (up_is z)
mark_other to_right (pos zero) = refl
mark_other to_right (pos (suc z)) = ap (mark to_left) (down_is z)
mark_other to_right (negsuc z) = ap (mark to_left) (up_is z)

pub change_back : (k : Side) (d : Triple) (a b : Corner) (x y : Point) → mark_change (other_side k) d b a x y ≡ pos 0 -ℤ mark_change k d a b x y
change_back k d a b x y =
    (λ t. (ap (mark (other_side k)) (side_back d a b x) ∙ mark_other k (side_of d a b x)) t -ℤ (ap (mark (other_side k)) (side_back d a b y) ∙ mark_other k (side_of d a b y)) t)
    ∙ turned (mark k (side_of d a b x)) (mark k (side_of d a b y))
  where
    turned : (u v : ℤ) → (pos 1 -ℤ u) -ℤ (pos 1 -ℤ v) ≡ pos 0 -ℤ (u -ℤ v)
    turned u v = omega (arith, ints)

-- ---- places
pub place_back : (a b : Corner) (n m : ℤ) → share_point b a (m -ℤ n) m ≡ share_point a b n m
place_back a b n m = λ t. record { x = one a.x b.x t; y = one a.y b.y t; z = one a.z b.z t; w = m }
  where
    one : (x y : ℤ) → ((m -ℤ (m -ℤ n)) *ℤ y) +ℤ ((m -ℤ n) *ℤ x) ≡ ((m -ℤ n) *ℤ x) +ℤ (n *ℤ y)
    one x y = ring (x ∷ y ∷ n ∷ m ∷ []) (((var 3 ⊖ (var 3 ⊖ var 2)) ⊗ var 1) ⊕ ((var 3 ⊖ var 2) ⊗ var 0)) (((var 3 ⊖ var 2) ⊗ var 0) ⊕ (var 2 ⊗ var 1)) refl

module _ (c : Plane) {s : Part} (e : Edge s) where
  abbrev d : Triple
  d = toward_of c

  abbrev back : Edge s
  back = turned_edge e

  pub valid_back : (n m : ℤ) → IsValid c e n m → IsValid c back (m -ℤ n) m
  valid_back n m valid = record {
    after = first n m valid.before;
    before = second n m valid.after;
    beyond = subst (λ (p : Point). IsBeyond c p) (sym (place_back e.a e.b n m)) valid.beyond;
    ordinary = subst (λ (p : Point). IsOrdinaryInCut c s p) (sym (place_back e.a e.b n m)) valid.ordinary;
    free = subst (λ (p : Point). ¬ IsUnderBorder c s p) (sym (place_back e.a e.b n m)) valid.free;
  }
    where
      first : (n m : ℤ) → n <ℤ m → pos 0 <ℤ (m -ℤ n)
      first n m h = omega (arith, ints)

      second : (n m : ℤ) → pos 0 <ℤ n → (m -ℤ n) <ℤ m
      second n m h = omega (arith, ints)

  across_back : ¬ IsEndOn d e → ¬ IsEndOn d back
  across_back f h = f (sight_back d (point_of e.b) (point_of e.a) h)

-- ---- an outline
way : Letters → Letters → Letters
way x y = record { x = y.x ⊖ x.x; y = y.y ⊖ x.y; z = y.z ⊖ x.z }

module _ (d : Triple) {s : Part} (e o : Edge s) where
  abbrev K : ℤ
  K = denominator_of d e o

  abbrev R : ℤ
  R = numerator_of d e o

  corners : List ℤ
  corners = d.x ∷ d.y ∷ d.z ∷ e.a.x ∷ e.a.y ∷ e.a.z ∷ e.b.x ∷ e.b.y ∷ e.b.z ∷ o.a.x ∷ o.a.y ∷ o.a.z ∷ o.b.x ∷ o.b.y ∷ o.b.z ∷ []

  denominator_back : denominator_of d (turned_edge e) o ≡ pos 0 -ℤ K
  unfolding corners way
  denominator_back =
      ring corners (dots (letters 0) (crosses (way (letters 6) (letters 3)) (way (letters 9) (letters 12))))
      (con (pos 0) ⊖ dots (letters 0) (crosses (way (letters 3) (letters 6)) (way (letters 9) (letters 12)))) refl

  numerator_back : numerator_of d (turned_edge e) o ≡ R -ℤ K
  unfolding corners way
  numerator_back =
      ring corners (dots (letters 0) (crosses (way (letters 6) (letters 9)) (way (letters 9) (letters 12))))
      (dots (letters 0) (crosses (way (letters 3) (letters 9)) (way (letters 9) (letters 12))) ⊖ dots (letters 0) (crosses (way (letters 3) (letters 6)) (way (letters 9) (letters 12)))) refl

  height_back : height_numerator_of (turned_edge e) o ≡ pos 0 -ℤ height_numerator_of e o
  unfolding corners way
  height_back =
      ring corners (dots (way (letters 6) (letters 3)) (crosses (way (letters 9) (letters 12)) (way (letters 6) (letters 9))))
      (con (pos 0) ⊖ dots (way (letters 3) (letters 6)) (crosses (way (letters 9) (letters 12)) (way (letters 3) (letters 9)))) refl

  product_back : numerator_of d (turned_edge e) o *ℤ denominator_of d (turned_edge e) o ≡ (K *ℤ K) -ℤ (R *ℤ K)
  product_back = (λ t. numerator_back t *ℤ denominator_back t) ∙ ring (R ∷ K ∷ []) ((var 0 ⊖ var 1) ⊗ (con (pos 0) ⊖ var 1)) ((var 1 ⊗ var 1) ⊖ (var 0 ⊗ var 1)) refl

  square_back : denominator_of d (turned_edge e) o *ℤ denominator_of d (turned_edge e) o ≡ K *ℤ K
  square_back = (λ t. denominator_back t *ℤ denominator_back t) ∙ ring (K ∷ []) ((con (pos 0) ⊖ var 0) ⊗ (con (pos 0) ⊖ var 0)) (var 0 ⊗ var 0) refl

  height_product_back : height_numerator_of (turned_edge e) o *ℤ denominator_of d (turned_edge e) o ≡ height_numerator_of e o *ℤ K
  height_product_back = (λ t. height_back t *ℤ denominator_back t) ∙ ring (height_numerator_of e o ∷ K ∷ []) ((con (pos 0) ⊖ var 0) ⊗ (con (pos 0) ⊖ var 1)) (var 0 ⊗ var 1) refl

  passes_back : PassesNearer d e o → PassesNearer d (turned_edge e) o
  passes_back h = record {
    after = first _ (K *ℤ K) (R *ℤ K) product_back h.before;
    before = second _ _ (K *ℤ K) (R *ℤ K) product_back square_back h.after;
    nearer = positive_at _ _ height_product_back h.nearer;
  }
    where
      first : (x y z : ℤ) → x ≡ y -ℤ z → z <ℤ y → pos 0 <ℤ x
      first x y z e h = omega (arith, ints)

      second : (x w y z : ℤ) → x ≡ y -ℤ z → w ≡ y → pos 0 <ℤ z → x <ℤ w
      second x w y z e g h = omega (arith, ints)

  -- what is crossed before a place from the one end is crossed after it from the other
  before_gap : (n m : ℤ) → ((m -ℤ n) *ℤ (denominator_of d (turned_edge e) o *ℤ denominator_of d (turned_edge e) o)) -ℤ ((numerator_of d (turned_edge e) o *ℤ denominator_of d (turned_edge e) o) *ℤ m)
      ≡ ((R *ℤ K) *ℤ m) -ℤ (n *ℤ (K *ℤ K))
  before_gap n m = (λ t. ((m -ℤ n) *ℤ square_back t) -ℤ (product_back t *ℤ m))
      ∙ ring (R ∷ K ∷ n ∷ m ∷ []) (((var 3 ⊖ var 2) ⊗ (var 1 ⊗ var 1)) ⊖ (((var 1 ⊗ var 1) ⊖ (var 0 ⊗ var 1)) ⊗ var 3)) (((var 0 ⊗ var 1) ⊗ var 3) ⊖ (var 2 ⊗ (var 1 ⊗ var 1))) refl

  before_of_after : (n m : ℤ) → IsCrossedAfter d e o n m → IsCrossedBefore d (turned_edge e) o (m -ℤ n) m
  before_of_after n m h = less_by _ _ _ (before_gap n m) (gap_of_less _ _ h)

  after_of_before : (n m : ℤ) → IsCrossedBefore d (turned_edge e) o (m -ℤ n) m → IsCrossedAfter d e o n m
  after_of_before n m h = less_by _ _ _ (sym (before_gap n m)) (gap_of_less _ _ h)

module _ (c : Plane) {s : Part} (e o : Edge s) where
  cut_passes_back : PassesInCut c e o → PassesInCut c (turned_edge e) o
  cut_passes_back h = record {
    passes = passes_back (toward_of c) e o h.passes;
    beyond = subst (λ (p : Point). IsBeyond c p)
        (sym ((λ t. share_point e.b e.a (product_back (toward_of c) e o t) (square_back (toward_of c) e o t))
        ∙ place_back e.a e.b (numerator_of (toward_of c) e o *ℤ denominator_of (toward_of c) e o) (denominator_of (toward_of c) e o *ℤ denominator_of (toward_of c) e o))) h.beyond;
    left = h.left;
  }

  cut_change_back : (k : Side) → cut_change_of (other_side k) c (turned_edge e) o ≡ pos 0 -ℤ cut_change_of k c e o
  cut_change_back k =
      ap (λ v. (face_sign (toward_of c) o.left -ℤ face_sign (toward_of c) o.right) *ℤ v) (change_back k (toward_of c) e.a e.b (cut_end c o.a o.b) (cut_end c o.b o.a))
      ∙ opposite (face_sign (toward_of c) o.left -ℤ face_sign (toward_of c) o.right) (part_change k c e.a e.b o.a o.b)
    where
      opposite : (x y : ℤ) → x *ℤ (pos 0 -ℤ y) ≡ pos 0 -ℤ (x *ℤ y)
      opposite x y = ring (x ∷ y ∷ []) (var 0 ⊗ (con (pos 0) ⊖ var 1)) (con (pos 0) ⊖ (var 0 ⊗ var 1)) refl

  changes_back : CutChanges c e o → CutChanges c (turned_edge e) o
  changes_back h = record { passes = cut_passes_back h.passes; some = by h.some }
    where
      nil : (x y : ℤ) → x ≡ pos 0 -ℤ y → x ≡ pos 0 → y ≡ pos 0
      nil x y e g = omega (arith, ints)

      by : (cut_change_of to_left c e o ≢ pos 0) ⊎ (cut_change_of to_right c e o ≢ pos 0) → (cut_change_of to_left c (turned_edge e) o ≢ pos 0) ⊎ (cut_change_of to_right c (turned_edge e) o ≢ pos 0)
      by (inl f) = inr (λ z. f (nil _ _ (cut_change_back to_left) z))
      by (inr f) = inl (λ z. f (nil _ _ (cut_change_back to_right) z))

module _ (c : Plane) {s : Part} (e o : Edge s) (n m : ℤ) where
  has_back : (k : Side) (z : ℤ) → ChangesAfter k c e o n m z → HasCutChanged (other_side k) c (turned_edge e) o (m -ℤ n) m (pos 0 -ℤ z)
  has_back k z (to_come p q) =
      subst (λ (x : ℤ). HasCutChanged (other_side k) c (turned_edge e) o (m -ℤ n) m x) (cut_change_back c e o k) (passed (cut_passes_back c e o p) (before_of_after (toward_of c) e o n m q))
  has_back k z (not_to_come f) = not_passed (λ h. f (cut_passes_back c (turned_edge e) o h.0, after_of_before (toward_of c) e o n m h.1))

outlines_back : (c : Plane) {s : Part} (e : Edge s) (n m : ℤ) {halves numbers : List ℕ} → HasEachOutlineAfter c e n m halves numbers → HasEachOutline c (turned_edge e) (m -ℤ n) m halves numbers
outlines_back c e n m h = record {
  edges = h.edges;
  within = h.within;
  once = h.once;
  whole = λ i o at changes before. h.whole i o at (changes_back c (turned_edge e) o changes) (after_of_before (toward_of c) e o n m before);
}

-- ---- borders
marked_other : (k : Side) (z : ℤ) → is_marked (other_side k) (pos 0 -ℤ z) ≡ not (is_marked k z)
marked_other to_left z = by (lt_z (pos 0 -ℤ z) (pos 0)) (lt_z (pos 0) z) (same_test (pos 0 -ℤ z) (pos 0) (pos 0) z (λ h g. omega (arith, ints)) (λ h g. omega (arith, ints)))
  where
    by : (b b' : Bool) → b ≡ b' → cond b false true ≡ not b'
    by b true e = ap (λ v. cond v false true) e
    by b false e = ap (λ v. cond v false true) e
marked_other to_right z = same_test (pos 0) (pos 0 -ℤ z) z (pos 0) (λ h g. omega (arith, ints)) (λ h g. omega (arith, ints)) ∙ by (lt_z z (pos 0))
  where
    by : (b : Bool) → b ≡ not (cond b false true)
    by true = refl
    by false = refl

counts_other : (u v : Bool) (x : ℤ) → counts (not u) (not v) x ≡ counts u v (pos 0 -ℤ x)
counts_other false false x = refl
counts_other true true x = refl
counts_other false true x = same_test x (pos 0) (pos 0) (pos 0 -ℤ x) (λ h g. omega (arith, ints)) (λ h g. omega (arith, ints))
counts_other true false x = same_test (pos 0) x (pos 0 -ℤ x) (pos 0) (λ h g. omega (arith, ints)) (λ h g. omega (arith, ints))

ahead_other : (k : Side) (p q t a b : Sight) → is_ahead (other_side k) q p t a b ≡ is_behind k p q t a b
ahead_other k p q t a b =
    (λ i. counts (at a i) (at b i) (turn_of a b t)) ∙ counts_other (is_marked k (turn_of p q a)) (is_marked k (turn_of p q b)) (turn_of a b t)
  where
    at : (r : Sight) → is_marked (other_side k) (turn_of q p r) ≡ not (is_marked k (turn_of p q r))
    at r = ap (is_marked (other_side k)) (turn_back p q r) ∙ marked_other k (turn_of p q r)

module _ (k : Side) (c : Plane) {s : Part} (o : Corner) (e : Edge s) where
  behind_is : (n m : ℤ) (t : Tri) → border_ahead (other_side k) c s o (turned_edge e) (m -ℤ n) m t ≡ border_behind k c s o e n m t
  behind_is n m t =
      let a = sight_of (toward_of c) (point_of e.a) in
      let b = sight_of (toward_of c) (point_of e.b) in
      (λ i. of_border (is_ahead (other_side k) b a (sight_of (toward_of c) (place_back e.a e.b n m i))) c (corner_at s o t.a) (corner_at s o t.b) (corner_at s o t.c))
      ∙ (λ i. of_border (λ x y. ahead_other k a b (sight_of (toward_of c) (share_point e.a e.b n m)) x y i) c (corner_at s o t.a) (corner_at s o t.b) (corner_at s o t.c))

  pub passed_back : (n m : ℤ) (t : Tri) → border_passed (other_side k) c s o (turned_edge e) (m -ℤ n) m t ≡ border_to_come k c s o e n m t
  passed_back n m t = λ i. xor (behind_is (pos 1) (pos 1) t i) (behind_is n m t i)

  pub border_change_back : (f : Face s) {x : ℤ} → HasBorderChange k c e f x → HasBorderChange (other_side k) c (turned_edge e) f (pos 0 -ℤ x)
  border_change_back f (along p q h) = subst (λ (x : ℤ). HasBorderChange (other_side k) c (turned_edge e) f x) (change_back k (toward_of c) e.a e.b p q) (along p q h)
  border_change_back f (none h) = none h

  border_has_back : (f : Face s) (n m z : ℤ) → BorderChangesAfter k c o e f n m z → HasBorderChanged (other_side k) c o (turned_edge e) f (m -ℤ n) m (pos 0 -ℤ z)
  border_has_back f n m z (border_comes change is has) =
      subst (λ (x : ℤ). HasBorderChanged (other_side k) c o (turned_edge e) f (m -ℤ n) m x) (opposite (face_sign (toward_of c) f) change)
      (border_is_passed (pos 0 -ℤ change) (passed_back n m f.tri ∙ is) (border_change_back f has))
    where
      opposite : (x y : ℤ) → pos 0 -ℤ (x *ℤ (pos 0 -ℤ y)) ≡ pos 0 -ℤ (pos 0 -ℤ (x *ℤ y))
      opposite x y = ring (x ∷ y ∷ []) (con (pos 0) ⊖ (var 0 ⊗ (con (pos 0) ⊖ var 1))) (con (pos 0) ⊖ (con (pos 0) ⊖ (var 0 ⊗ var 1))) refl
  border_has_back f n m z (border_gone is) = border_not_passed (passed_back n m f.tri ∙ is)

-- ---- next to the second end
module _ (k : Side) (c : Plane) {s : Part} (e : Edge s) (f : Face s) where
  rest_reaches_back : RestReachesTo k c e f → RestReachesTo (other_side k) c (turned_edge e) f
  rest_reaches_back (side, l, h) =
      let r : RestOfSideReaches k c e (start_corner f side) (end_corner f side) = h in
      (side, l, record { left = r.left; reaches = by r.reaches })
    where
      by : PointStandsOn k (toward_of c) e.a e.b (cut_end c (start_corner f side) (end_corner f side)) ⊎ PointStandsOn k (toward_of c) e.a e.b (cut_end c (end_corner f side) (start_corner f side))
          → PointStandsOn (other_side k) (toward_of c) e.b e.a (cut_end c (start_corner f side) (end_corner f side)) ⊎ PointStandsOn (other_side k) (toward_of c) e.b e.a (cut_end c (end_corner f side) (start_corner f side))
      by (inl x) = inl (point_back k (toward_of c) e.a e.b _ x)
      by (inr x) = inr (point_back k (toward_of c) e.a e.b _ x)

module _ (k : Side) (c : Plane) {s : Part} (e : Edge s) where
  pub cut_next_turned : (f : Face s) → IsCutCoveredNext k c e true f ↔ IsCutCoveredNext (other_side k) c (turned_edge e) false f
  cut_next_turned f = (there, back_again)
    where
      there : IsCutCoveredNext k c e true f → IsCutCoveredNext (other_side k) c (turned_edge e) false f
      there x = let h : RestHidesNext c e true f = x.hides in
          record { turned = x.turned; hides = record { n = h.n; m = h.m; some = h.some; within = h.within; over = h.over }; reaches = rest_reaches_back k c e f x.reaches }

      back_again : IsCutCoveredNext (other_side k) c (turned_edge e) false f → IsCutCoveredNext k c e true f
      back_again x = let h : RestHidesNext c (turned_edge e) false f = x.hides in
          record {
            turned = x.turned;
            hides = record { n = h.n; m = h.m; some = h.some; within = h.within; over = h.over };
            reaches = subst (λ (k : Side). RestReachesTo k c e f) (twice k) (rest_reaches_back (other_side k) c (turned_edge e) f x.reaches);
          }

  covers_back : (covers : List ℕ) → AreCutCovers k c e true covers → AreCutCovers (other_side k) c (turned_edge e) false covers
  covers_back covers h = record { long = h.long; each = λ i x g f same. by f x (h.each i x g f same) }
    where
      by : (f : Face s) (x : ℕ) → IsOneWhere (IsCutCoveredNext k c e true f) x → IsOneWhere (IsCutCoveredNext (other_side k) c (turned_edge e) false f) x
      by f x (inl (one, h)) = inl (one, (cut_next_turned f).0 h)
      by f x (inr (nil, h)) = inr (nil, λ g. h ((cut_next_turned f).1 g))

-- ---- the count
count_same : {A : Type 0} (P Q : A → Type 0) → ((x : A) → P x → Q x) → ((x : A) → Q x → P x) → (xs : List A) (n : ℕ) → IsCount A P xs n → IsCount A Q xs n
count_same P Q to from [] n nothing = nothing
count_same P Q to from (x ∷ xs) n (counted _ _ k p h) = counted x xs k (to x p) (count_same P Q to from xs k h)
count_same P Q to from (x ∷ xs) n (skipped _ _ k p h) = skipped x xs k (λ q. p (from x q)) (count_same P Q to from xs k h)

module _ (k : Side) (c : Plane) {s : Part} (e : Edge s) (p : Point) where
  reaches_back : (f : Face s) → ReachesTo k (toward_of c) e f → ReachesTo (other_side k) (toward_of c) (turned_edge e) f
  reaches_back f (inl h) = inl (corner_back k (toward_of c) e.a e.b f.a h)
  reaches_back f (inr (inl h)) = inr (inl (corner_back k (toward_of c) e.a e.b f.b h))
  reaches_back f (inr (inr h)) = inr (inr (corner_back k (toward_of c) e.a e.b f.c h))

  cut_counted_back : (t : Tri) → HasCutCounted k c e p t → HasCutCounted (other_side k) c (turned_edge e) p t
  cut_counted_back t (f, same, x) = let h : IsCutCounted k c e p f = x in (f, same, record { turned = h.turned; hides = h.hides; reaches = reaches_back f h.reaches })

counts_back : (k : Side) (c : Plane) {s : Part} (e : Edge s) (n m : ℤ) (all : ℕ) → AreCutCounted k c e (share_point e.a e.b n m) all
    → AreCutCounted (other_side k) c (turned_edge e) (share_point e.b e.a (m -ℤ n) m) all
counts_back k c {s} e n m all h =
    let p = share_point e.a e.b n m in
    subst (λ (p : Point). AreCutCounted (other_side k) c (turned_edge e) p all) (sym (place_back e.a e.b n m)) (record {
      faces = h.faces;
      section = h.section;
      counted = count_same (HasCutCounted k c e p) (HasCutCounted (other_side k) c (turned_edge e) p) (cut_counted_back k c e p)
          (λ t x. subst (λ (k : Side). HasCutCounted k c e p t) (twice k) (cut_counted_back (other_side k) c (turned_edge e) p t x)) s.triangles h.faces h.counted;
      inside = h.inside;
      together = h.together;
    })

total_back : {A : Type 0} (value : A → ℤ) (xs : List A) → total (λ x. pos 0 -ℤ value x) xs ≡ pos 0 -ℤ total value xs
total_back value [] = refl
total_back value (x ∷ xs) = ap (λ v. (pos 0 -ℤ value x) +ℤ v) (total_back value xs) ∙ opposite (value x) (total value xs)
  where
    opposite : (x y : ℤ) → (pos 0 -ℤ x) +ℤ (pos 0 -ℤ y) ≡ pos 0 -ℤ (x +ℤ y)
    opposite x y = omega (arith, ints)

pub zip_same : {X Y : Type 0} (R S : X → Y → Type 0) (xs : List X) (ys : List Y) → ((x : X) (y : Y) → R x y → S x y) → AllZip R xs ys → AllZip S xs ys
zip_same R S [] [] to h = h
zip_same R S [] (y ∷ ys) to h = h
zip_same R S (x ∷ xs) [] to h = h
zip_same R S (x ∷ xs) (y ∷ ys) to (r, h) = (to x y r, zip_same R S xs ys to h)

-- ---- the law
module _ (c : Plane) (s : Part) (sound : IsSound s) (in_range : HasCornersInRange s) where
  -- A count is what is counted next to the second end, with the section there, less what changes after the place: by a list of outlines that has each
  -- one which changes a count there, by a list of triangles that has each one whose border is to come, and by the section, which turns with each border to come.
  pub count_from_back : (k : Side) (spare : Corner) (e : Edge s) → IsBeyond c (point_of e.b) → (n m : ℤ) → IsValid c e n m → ¬ IsEndOn (toward_of c) e
      → {halves numbers : List ℕ} → HasEachOutlineAfter c e n m halves numbers → {A : Type 0} (value : A → ℤ) (changes : List A)
      → AllZip (λ i x. (o : Edge s) → IsNumbered halves i o → ChangesAfter k c e o n m (value x)) numbers changes
      → {triangles : List ℕ} → HasEachBorder s (border_to_come k c s spare e n m) triangles → {B : Type 0} (changed : B → ℤ) (turns : B → Bool) (borders : List B)
      → AllZip (λ i x. (f : Face s) → f.number ≡ i → BorderChangesAfter k c spare e f n m (changed x) × (border_to_come k c s spare e n m f.tri ≡ turns x)) triangles borders
      → (covers : List ℕ) → AreCutCovers k c e true covers → (all : ℕ) → AreCutCounted k c e (share_point e.a e.b n m) all
      → (let finish = odd_in (border_behind k c s spare e (pos 1) (pos 1)) s.triangles in
      pos all ≡ (((pos (sum covers) +ℤ worth finish) -ℤ total value changes) -ℤ total changed borders) +ℤ (worth (xor finish (odd_in turns borders)) -ℤ worth finish))
  count_from_back k spare e finish n m valid across {halves} {numbers} outlines value changes has {triangles} each changed turns borders has' covers next all are =
      count_in_cut c s sound in_range (other_side k) spare (turned_edge e) finish (m -ℤ n) m (valid_back c e n m valid) (across_back c e across)
      (outlines_back c e n m outlines) (λ x. pos 0 -ℤ value x) changes (zip_same _ _ numbers changes (λ i x h o at. has_back c e o n m k (value x) (h o at)) has)
      (record { within = each.within; once = each.once; whole = λ f is. each.whole f (sym (passed_back k c spare e n m f.tri) ∙ is) }) (λ x. pos 0 -ℤ changed x) turns borders
      (zip_same _ _ triangles borders (λ i x h f at. (border_has_back k c spare e f n m (changed x) (h f at).0, passed_back k c spare e n m f.tri ∙ (h f at).1)) has')
      covers (covers_back k c e covers next) all (counts_back k c e n m all are)
      ∙ (λ i. (((pos (sum covers) +ℤ worth (start i)) +ℤ total_back value changes i) +ℤ total_back changed borders i) +ℤ (worth (xor (start i) (odd_in turns borders)) -ℤ worth (start i)))
      ∙ less (pos (sum covers) +ℤ worth (start_at)) (total value changes) (total changed borders) (worth (xor start_at (odd_in turns borders)) -ℤ worth start_at)
    where
      start_at : Bool
      start_at = odd_in (border_behind k c s spare e (pos 1) (pos 1)) s.triangles

      start : odd_in (border_ahead (other_side k) c s spare (turned_edge e) (pos 0) (pos 1)) s.triangles ≡ odd_in (border_behind k c s spare e (pos 1) (pos 1)) s.triangles
      start = λ i. odd_in (λ t. behind_is k c spare e (pos 1) (pos 1) t i) s.triangles

      less : (x y z w : ℤ) → ((x +ℤ (pos 0 -ℤ y)) +ℤ (pos 0 -ℤ z)) +ℤ w ≡ ((x -ℤ y) -ℤ z) +ℤ w
      less x y z w = omega (arith, ints)
