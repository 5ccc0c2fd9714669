-- Whether a point is in the section can be told along its diagonal, by the borders that cross it to the point's left.
use Rattle.std.proofs.Common.{◌≡◌, ℕ, suc, zero, ◌+◌, ◌<◌, ◌⊎◌, inl, inr, Bool, true, false, All, Contains, length, [], ◌∷◌, refl, sym, subst, ap, ◌∙◌, arith, unsigned_abs}
use Rattle.std.specs.Prelude.{ℤ, pos, negsuc, ◌+ℤ◌, ◌-ℤ◌, ◌*ℤ◌, ◌<ℤ◌, ◌≤ℤ◌, ◌↔◌}
use Rattle.std.specs.Bool.{Decides}
use Rattle.std.proofs.lemmas.Bool.{false≢true}
use Rattle.std.proofs.lemmas.Int.{ints}
use Rattle.integers.proofs.Comparisons.{at_most_of_less, times_zero}
use Rattle.integers.proofs.Orders.{lt_z_of_less, lt_z_of_at_most}
use Rattle.integers.proofs.Ring.{con, var, ◌⊖◌, ◌⊕◌, ◌⊗◌, ring, by_three, same_of_gap}
use Rattle.lattice.specs.declared.points.Corner.{Corner}
use Rattle.lattice.specs.declared.soup.Tri.{Tri}
use Rattle.lattice.specs.Triangles.{IsBelow}
use Rattle.lattice.specs.Triple.{Triple}
use Rattle.lattice.specs.Points.{Point, IsPoint, point_of}
use Rattle.lattice.specs.Cuts.{Plane, toward_of, IsBeyond, IsBeforePlane}
use Rattle.geometry.specs.Faces.{IsPointOfFace}
use Rattle.geometry.specs.Parts.{Part, Face, IsClosed}
use Rattle.geometry.specs.Cuts.{border, start_corner, end_corner, over_of, GoesBeyond, IsBorderOf, IsCrossed, IsInSection, IsSeenOverInCut}
use Rattle.geometry.proofs.Borders.{over_before, over_beyond, side_of_corner, not_both_sides, border_of_crossed}
use Rattle.geometry.proofs.FacePoints.{face_point-round}
use Rattle.cut_plane.proofs.OverDiagonals.{CrossesLeftOf, HasCrossingLeftOf, HasOddLeft}
use Rattle.cut_plane.specs.Diagonals.{IsUnderBorder}
use Rattle.cut_plane.proofs.Sights.{Sight, sight_of, right_by, above_by, turn_of, counts_at, crossing_sight, is_before, left_by, left_of_border, left_of_triangle, if_apart}
use Rattle.cut_plane.proofs.Xors.{xor, xor-none, xor-comm, odd_in, odd_in_decides}
use Rattle.cut_plane.proofs.LoneCorners.{IsAlone, before, beyond, border_sum, sum_on_plane, sum_there, above_sum, right_sum}
use Rattle.cut_plane.proofs.FaceBorders.{crossing_turned}
use Rattle.cut_plane.proofs.Sections.{sides_between, sides_of, sides_at, left_at, face_of, with_sides, section_decides}
use Rattle.cut_plane.proofs.DiagonalCrossings.{AreApart, over, back, past_by, under_way, crosses_left, crosses_left-turned, crosses_left_decides, diagonal_balanced, turn_by_past}

-- ---- where the diagonal goes between the ends of a border
-- With the ends a and b above the point, r and q to its right, and so r - a and q - b beyond its diagonal, and the point on their
-- line: their sums, with the other's distance from the diagonal as each one's weight, are 0.
module _ (a b r q i j m : ℤ) (line : ((r -ℤ a) *ℤ b) -ℤ (a *ℤ (q -ℤ b)) ≡ pos 0) (first : i ≡ m *ℤ (q -ℤ b)) (second : j ≡ pos 0 -ℤ (m *ℤ (r -ℤ a))) where
  level_sum : (i *ℤ a) +ℤ (j *ℤ b) ≡ pos 0
  level_sum =
      by_three _ _ i (m *ℤ (q -ℤ b)) a j (pos 0 -ℤ (m *ℤ (r -ℤ a))) b (((r -ℤ a) *ℤ b) -ℤ (a *ℤ (q -ℤ b))) (pos 0) (pos 0 -ℤ m)
      (ring (a ∷ b ∷ r ∷ q ∷ i ∷ j ∷ m ∷ []) (((var 4 ⊗ var 0) ⊕ (var 5 ⊗ var 1)) ⊖ con (pos 0))
      ((((var 4 ⊖ (var 6 ⊗ (var 3 ⊖ var 1))) ⊗ var 0) ⊕ ((var 5 ⊖ (con (pos 0) ⊖ (var 6 ⊗ (var 2 ⊖ var 0)))) ⊗ var 1))
      ⊕ (((((var 2 ⊖ var 0) ⊗ var 1) ⊖ (var 0 ⊗ (var 3 ⊖ var 1))) ⊖ con (pos 0)) ⊗ (con (pos 0) ⊖ var 6))) refl)
      first second line

  right_total : (i *ℤ r) +ℤ (j *ℤ q) ≡ pos 0
  right_total =
      by_three _ _ i (m *ℤ (q -ℤ b)) r j (pos 0 -ℤ (m *ℤ (r -ℤ a))) q (((r -ℤ a) *ℤ b) -ℤ (a *ℤ (q -ℤ b))) (pos 0) (pos 0 -ℤ m)
      (ring (a ∷ b ∷ r ∷ q ∷ i ∷ j ∷ m ∷ []) (((var 4 ⊗ var 2) ⊕ (var 5 ⊗ var 3)) ⊖ con (pos 0))
      ((((var 4 ⊖ (var 6 ⊗ (var 3 ⊖ var 1))) ⊗ var 2) ⊕ ((var 5 ⊖ (con (pos 0) ⊖ (var 6 ⊗ (var 2 ⊖ var 0)))) ⊗ var 3))
      ⊕ (((((var 2 ⊖ var 0) ⊗ var 1) ⊖ (var 0 ⊗ (var 3 ⊖ var 1))) ⊖ con (pos 0)) ⊗ (con (pos 0) ⊖ var 6))) refl)
      first second line

-- ---- a face
-- which side of the plane a corner is on, as a test tells it
pub before_test : (c : Plane) (k : Corner) → IsBeforePlane c (point_of k) → is_before c k ≡ true
before_test c k h = lt_z_of_less (pos 0) (over_of c k) (over_before c k h)

pub beyond_test : (c : Plane) (k : Corner) → IsBeyond c (point_of k) → is_before c k ≡ false
beyond_test c k h = lt_z_of_at_most (pos 0) (over_of c k) (at_most_of_less _ _ (over_beyond c k h))

-- a corner alone on its side
alone_before : (c : Plane) (k l m : Corner) → GoesBeyond c k l → GoesBeyond c k m → IsAlone c k l m
alone_before c k l m p q = before (over_before c k p.0) (over_beyond c l p.1) (over_beyond c m q.1)

alone_beyond : (c : Plane) (k l m : Corner) → GoesBeyond c l k → GoesBeyond c m k → IsAlone c k l m
alone_beyond c k l m p q = beyond (over_beyond c k p.1) (over_before c l p.0) (over_before c m q.0)

module _ (c : Plane) {s : Part} (f : Face s) (p : Point) (is_point : IsPoint p) (off : ¬ IsSeenOverInCut c (border f) p) where
  abbrev d : Triple
  d = toward_of c

  abbrev P : Sight
  P = sight_of d p

  module _ (k l m : Corner) (alone : IsAlone c k l m) (of_face : (r : Point) → IsPointOfFace f.a f.b f.c r → IsPointOfFace k l m r) (on_face : (r : Point) → IsPointOfFace k l m r → IsPointOfFace f.a f.b f.c r) where
    abbrev K : Sight
    K = crossing_sight c k l

    abbrev L : Sight
    L = crossing_sight c k m

    -- no sum of the border's ends is at the point
    no_sum : (i j : ℕ) → 0 < i + j → (pos i *ℤ above_by P K) +ℤ (pos j *ℤ above_by P L) ≡ pos 0 → (pos i *ℤ right_by P K) +ℤ (pos j *ℤ right_by P L) ≡ pos 0 → ⊥
    no_sum i j some level straight = off (
      border_sum c k l m alone i j,
      (on_face _ (sum_there c k l m alone i j some), sum_on_plane c k l m alone i j),
      record {
        across = same_of_gap _ _ (right_sum c k l m alone p f of_face on_face i j ∙ straight);
        upward = same_of_gap _ _ (above_sum c k l m alone p f of_face on_face i j ∙ level);
      },
    )

    -- nor is the point on the border's line, where the diagonal goes between the ends
    off_line : AreApart (past_by P K) (past_by P L) → turn_of K L P ≡ pos 0 → ⊥
    off_line apart e = by apart
      where
        line : (past_by P K *ℤ above_by P L) -ℤ (above_by P K *ℤ past_by P L) ≡ pos 0
        line = sym (turn_by_past K L P) ∙ ap (λ x. p.w *ℤ x) e ∙ times_zero p.w

        never : (m : ℤ) → pos (unsigned_abs (past_by P L)) ≡ m *ℤ past_by P L → pos (unsigned_abs (past_by P K)) ≡ pos 0 -ℤ (m *ℤ past_by P K)
            → 0 < unsigned_abs (past_by P L) + unsigned_abs (past_by P K) → ⊥
        never m first second some =
            no_sum _ _ some
            (level_sum (above_by P K) (above_by P L) (right_by P K) (right_by P L) _ _ m line first second)
            (right_total (above_by P K) (above_by P L) (right_by P K) (right_by P L) _ _ m line first second)

        by : AreApart (past_by P K) (past_by P L) → ⊥
        by (over h g) = never (pos 1) (size_is (past_by P L) g) (size_back (past_by P K) h) (some (past_by P L) (past_by P K) g)
          where
            size_is : (x : ℤ) → pos 0 <ℤ x → pos (unsigned_abs x) ≡ pos 1 *ℤ x
            size_is x h = omega (arith, ints)

            size_back : (x : ℤ) → x ≤ℤ pos 0 → pos (unsigned_abs x) ≡ pos 0 -ℤ (pos 1 *ℤ x)
            size_back x h = omega (arith, ints)

            some : (x y : ℤ) → pos 0 <ℤ x → 0 < unsigned_abs x + unsigned_abs y
            some x y h = omega (arith, ints)
        by (back h g) = never (negsuc 0) (size_back (past_by P L) g) (size_is (past_by P K) h) (some (past_by P L) (past_by P K) h)
          where
            size_is : (x : ℤ) → pos 0 <ℤ x → pos (unsigned_abs x) ≡ pos 0 -ℤ (negsuc 0 *ℤ x)
            size_is x h = omega (arith, ints)

            size_back : (x : ℤ) → x ≤ℤ pos 0 → pos (unsigned_abs x) ≡ negsuc 0 *ℤ x
            size_back x h = omega (arith, ints)

            some : (x y : ℤ) → pos 0 <ℤ y → 0 < unsigned_abs x + unsigned_abs y
            some x y h = omega (arith, ints)

    -- of the corner alone, its two sides
    alone_balanced : xor (counts_at K (crossing_sight c m k) P) (xor (under_way P K) (under_way P (crossing_sight c m k))) ≡ crosses_left K (crossing_sight c m k) P
    alone_balanced =
        subst (λ (x : Sight). xor (counts_at K x P) (xor (under_way P K) (under_way P x)) ≡ crosses_left K x P) (crossing_turned c k m) (diagonal_balanced K L P is_point off_line)

  -- where its three sides cross the plane
  abbrev AB : Sight
  AB = crossing_sight c f.a f.b

  abbrev BC : Sight
  BC = crossing_sight c f.b f.c

  abbrev CA : Sight
  CA = crossing_sight c f.c f.a

  first_alone : IsAlone c f.a f.b f.c → xor (counts_at AB CA P) (xor (xor (under_way P AB) false) (under_way P CA)) ≡ crosses_left AB CA P
  first_alone alone =
      ap (λ z. xor (counts_at AB CA P) (xor z (under_way P CA))) (xor-none (under_way P AB))
      ∙ alone_balanced f.a f.b f.c alone (λ r h. h) (λ r h. h)

  second_alone : IsAlone c f.b f.c f.a → xor (counts_at BC AB P) (xor (xor (under_way P AB) (under_way P BC)) false) ≡ crosses_left BC AB P
  second_alone alone =
      ap (xor (counts_at BC AB P)) (xor-none (xor (under_way P AB) (under_way P BC)) ∙ xor-comm (under_way P AB) (under_way P BC))
      ∙ alone_balanced f.b f.c f.a alone (face_point-round f.a f.b f.c) (λ r h. face_point-round f.c f.a f.b r (face_point-round f.b f.c f.a r h))

  third_alone : IsAlone c f.c f.a f.b → xor (counts_at CA BC P) (xor (under_way P BC) (under_way P CA)) ≡ crosses_left CA BC P
  third_alone alone =
      ap (xor (counts_at CA BC P)) (xor-comm (under_way P BC) (under_way P CA))
      ∙ alone_balanced f.c f.a f.b alone (λ r h. face_point-round f.b f.c f.a r (face_point-round f.a f.b f.c r h)) (face_point-round f.c f.a f.b)

  -- the face's border counts at the point, but for the sides that cross the plane under the way
  abbrev Moved : Bool → Bool → Bool → Bool
  Moved u v w = xor (left_by u v w AB BC CA P) (xor (xor (if_apart u v (under_way P AB)) (if_apart v w (under_way P BC))) (if_apart w u (under_way P CA)))

  abbrev pub moved : Bool
  moved = xor (left_of_border c f.a f.b f.c P) (sides_between (under_way P) c f.a f.b f.c)

  moved_by : (u v w : Bool) → is_before c f.a ≡ u → is_before c f.b ≡ v → is_before c f.c ≡ w → moved ≡ Moved u v w
  moved_by u v w e g h = λ i. Moved (e i) (g i) (h i)

  by_sides : (first second : ℕ) → GoesBeyond c (start_corner f first) (end_corner f first) → GoesBeyond c (end_corner f second) (start_corner f second)
      → moved ≡ crosses_left (crossing_sight c (start_corner f first) (end_corner f first)) (crossing_sight c (end_corner f second) (start_corner f second)) P
  by_sides zero zero p q = absurd (not_both_sides c (point_of f.a) q.1 p.0)
  by_sides zero (suc zero) p q =
      moved_by true false true (before_test c f.a p.0) (beyond_test c f.b p.1) (before_test c f.c q.0)
      ∙ second_alone (alone_beyond c f.b f.c f.a q p)
      ∙ crosses_left-turned BC AB P
      ∙ ap (λ x. crosses_left AB x P) (crossing_turned c f.b f.c)
  by_sides zero (suc (suc n)) p q =
      moved_by true false false (before_test c f.a p.0) (beyond_test c f.b p.1) (beyond_test c f.c q.1)
      ∙ first_alone (alone_before c f.a f.b f.c p q)
      ∙ ap (λ x. crosses_left AB x P) (crossing_turned c f.c f.a)
  by_sides (suc zero) zero p q =
      moved_by false true false (beyond_test c f.a q.1) (before_test c f.b p.0) (beyond_test c f.c p.1)
      ∙ second_alone (alone_before c f.b f.c f.a p q)
      ∙ ap (λ x. crosses_left BC x P) (crossing_turned c f.a f.b)
  by_sides (suc zero) (suc zero) p q = absurd (not_both_sides c (point_of f.b) q.1 p.0)
  by_sides (suc zero) (suc (suc n)) p q =
      moved_by true true false (before_test c f.a q.0) (before_test c f.b p.0) (beyond_test c f.c p.1)
      ∙ third_alone (alone_beyond c f.c f.a f.b q p)
      ∙ crosses_left-turned CA BC P
      ∙ ap (λ x. crosses_left BC x P) (crossing_turned c f.c f.a)
  by_sides (suc (suc m)) zero p q =
      moved_by false true true (beyond_test c f.a p.1) (before_test c f.b q.0) (before_test c f.c p.0)
      ∙ first_alone (alone_beyond c f.a f.b f.c q p)
      ∙ crosses_left-turned AB CA P
      ∙ ap (λ x. crosses_left CA x P) (crossing_turned c f.a f.b)
  by_sides (suc (suc m)) (suc zero) p q =
      moved_by false false true (beyond_test c f.a p.1) (beyond_test c f.b q.1) (before_test c f.c p.0)
      ∙ third_alone (alone_before c f.c f.a f.b p q)
      ∙ ap (λ x. crosses_left CA x P) (crossing_turned c f.b f.c)
  by_sides (suc (suc m)) (suc (suc n)) p q = absurd (not_both_sides c (point_of f.c) q.1 p.0)

  by_border : (k l : Point) → IsBorderOf c f k l → moved ≡ crosses_left (sight_of d k) (sight_of d l) P
  by_border k l h = by_sides h.first h.second h.goes h.returns ∙ sym (λ i. crosses_left (sight_of d (h.from i)) (sight_of d (h.to i)) P)

  -- with no border nothing counts
  crossed : moved ≡ true → IsCrossed c f
  crossed e = by (side_of_corner c f.a) (side_of_corner c f.b) (side_of_corner c f.c)
    where
      by : IsBeyond c (point_of f.a) ⊎ IsBeforePlane c (point_of f.a) → IsBeyond c (point_of f.b) ⊎ IsBeforePlane c (point_of f.b) → IsBeyond c (point_of f.c) ⊎ IsBeforePlane c (point_of f.c) → IsCrossed c f
      by (inl x) (inl y) (inl z) = absurd (false≢true (sym (moved_by false false false (beyond_test c f.a x) (beyond_test c f.b y) (beyond_test c f.c z)) ∙ e))
      by (inr x) (inr y) (inr z) = absurd (false≢true (sym (moved_by true true true (before_test c f.a x) (before_test c f.b y) (before_test c f.c z)) ∙ e))
      by (inl x) (inl y) (inr z) = record { before = inr (inr z); beyond = inl x }
      by (inl x) (inr y) z = record { before = inr (inl y); beyond = inl x }
      by (inr x) (inl y) z = record { before = inl x; beyond = inr (inl y) }
      by (inr x) (inr y) (inl z) = record { before = inl x; beyond = inr (inr z) }

  pub moved_decides : Decides moved ((k : Point) × (l : Point) × IsBorderOf c f k l × CrossesLeftOf d k l p)
  moved_decides = (
    (λ e.
        let (k, l, ends) = border_of_crossed c f (crossed e) in
        (k, l, ends, (crosses_left_decides d k l p).0 (sym (by_border k l ends) ∙ e))),
    (λ (k, l, ends, crosses). by_border k l ends ∙ (crosses_left_decides d k l p).1 crosses),
  )

-- ---- the section
module _ (c : Plane) (s : Part) (closed : IsClosed s) (in_range : All (IsBelow (length s.corners)) s.triangles) (o : Corner) (p : Point) (is_point : IsPoint p) (off : ¬ IsUnderBorder c s p) where
  abbrev sight : Sight
  sight = sight_of (toward_of c) p

  abbrev tested : Tri → Bool
  tested t = xor (left_of_triangle c s o sight t) (sides_of c s closed o (under_way sight) t)

  tested_at : (f : Face s) → tested f.tri ≡ moved c f p is_point (λ passes. off (f, passes))
  tested_at f = λ i. xor (left_at c s o sight f i) (sides_at c s closed o (under_way sight) f i)

  crossing_decides : (t : Tri) → Contains s.triangles t → Decides (tested t) (HasCrossingLeftOf c s p t)
  crossing_decides t there = (
    (λ e.
        let (f, same) = face_of s in_range t there in
        (f, same, (moved_decides c f p is_point (λ passes. off (f, passes))).0 (sym (tested_at f) ∙ ap tested same ∙ e))),
    (λ (f, same, crosses). ap tested (sym same) ∙ tested_at f ∙ (moved_decides c f p is_point (λ passes. off (f, passes))).1 crosses),
  )

  odd_decides : Decides (odd_in tested s.triangles) (HasOddLeft c s p)
  odd_decides = odd_in_decides (HasCrossingLeftOf c s p) tested s.triangles crossing_decides

  by_corner : IsInSection c s p ↔ HasOddLeft c s p
  by_corner =
      let here = section_decides c s in_range o p is_point in
      let same = with_sides c s closed o (under_way sight) (left_of_triangle c s o sight) in
      ((λ h. odd_decides.0 (same ∙ here.1 h)), (λ h. here.0 (sym same ∙ odd_decides.1 h)))

-- any corner
middle : Corner
middle = record { x = pos 0; y = pos 0; z = pos 0; x_in_range = omega arith; y_in_range = omega arith; z_in_range = omega arith }

-- A point that no border is under is in the section exactly if an odd number of borders cross its diagonal to its left.
pub section_on_diagonal : (c : Plane) (s : Part) → IsClosed s → All (IsBelow (length s.corners)) s.triangles → (p : Point) → IsPoint p → ¬ IsUnderBorder c s p
    → IsInSection c s p ↔ HasOddLeft c s p
section_on_diagonal c s closed in_range p is_point off = by_corner c s closed in_range middle p is_point off
