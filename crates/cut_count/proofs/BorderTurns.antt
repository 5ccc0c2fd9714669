-- Where the corners of a face beyond the plane are seen to its border, so on which side of the border is what the plane leaves of the face.
use Rattle.std.proofs.Common.{◌≡◌, ◌⊎◌, inl, inr, ℕ, ◌+◌, Bool, List, [], ◌∷◌, refl, sym, ap, subst, ◌∙◌, arith, unsigned_abs, slice_get, Some}
use Rattle.std.specs.Prelude.{◌≢◌, ◌↔◌, IsTrue, ℤ, pos, ◌+ℤ◌, ◌-ℤ◌, ◌*ℤ◌, ◌<ℤ◌}
use Rattle.std.proofs.lemmas.Int.{ints}
use Rattle.std.proofs.lemmas.List.Elements.{All-get_or}
use Rattle.std.proofs.lemmas.Option.{slice_get_within, get_or_from_slice_get}
use Rattle.integers.proofs.Absolutes.{natural_positive, pos-sum, some_abs_of_positive, some_abs_of_negative}
use Rattle.integers.proofs.Comparisons.{zero_of_negation}
use Rattle.integers.proofs.Ring.{Expr, var, con, ◌⊕◌, ◌⊖◌, ◌⊗◌, ring, by_one}
use Rattle.integers.proofs.Signs.{mul_pos, pos_of_mul, zero_of_mul}
use Rattle.lattice.specs.declared.points.Corner.{Corner}
use Rattle.lattice.specs.Triple.{Triple, det}
use Rattle.lattice.specs.Points.{Point, IsPoint, point_of, of_spot}
use Rattle.lattice.specs.Cuts.{Plane, toward_of, IsBeyond, IsBeforePlane}
use Rattle.lattice.proofs.Vectors.{Letters, letters, dots, crosses}
use Rattle.geometry.specs.Faces.{difference, facing_of, edge_sum, IsPointOfFace}
use Rattle.geometry.specs.Parts.{Part, Face}
use Rattle.geometry.specs.Cuts.{over_of, crossing_of, IsBorderOf, IsLeftOfBorder}
use Rattle.geometry.proofs.Borders.{over_beyond, over_before, not_both_sides, crossed_of_border}
use Rattle.cut_plane.specs.declared.segments.Segment.{Segment}
use Rattle.cut_plane.specs.Loops.{IsSegmentOf, AreBorders}
use Rattle.cut_plane.specs.Sides.{IsRightOf}
use Rattle.cut_plane.proofs.FaceCorners.{HaveSame, have_same}
use Rattle.cut_plane.proofs.RightOf.{left_of_right, right_of_left}
use Rattle.hiding_laws.specs.Values.{offset}
use Rattle.cut_count_laws.specs.BorderShares.{way_turn, IsFaceCorner, IsTurnedBy}
use Rattle.cut_count_laws.specs.BorderShares.IsTurnedBy.{edge_on, on_right, on_left}
use Rattle.cut_count_laws.proofs.FaceBorders.{border_at}
use Rattle.cut_count_laws.proofs.Rests.{AreInOrder}
use Rattle.cut_count_laws.proofs.FaceBorder.{Lies, lies, only_one, only_two}
use Rattle.cut_count_laws.proofs.FaceBorder.Lies.{all_beyond, all_before, one_before, one_beyond}

-- ---- ways from a corner to a sum of two, of which one is the corner
first_part : (a b i j w : ℤ) → w ≡ i +ℤ j → ((i *ℤ a) +ℤ (j *ℤ b)) -ℤ (w *ℤ a) ≡ j *ℤ (b -ℤ a)
first_part a b i j w e = by_one _ _ w (i +ℤ j) (pos 0 -ℤ a)
    (ring (a ∷ b ∷ i ∷ j ∷ w ∷ []) ((((var 2 ⊗ var 0) ⊕ (var 3 ⊗ var 1)) ⊖ (var 4 ⊗ var 0)) ⊖ (var 3 ⊗ (var 1 ⊖ var 0))) ((var 4 ⊖ (var 2 ⊕ var 3)) ⊗ (con (pos 0) ⊖ var 0)) refl) e

second_part : (a b i j w : ℤ) → w ≡ i +ℤ j → ((i *ℤ a) +ℤ (j *ℤ b)) -ℤ (w *ℤ b) ≡ i *ℤ (a -ℤ b)
second_part a b i j w e = by_one _ _ w (i +ℤ j) (pos 0 -ℤ b)
    (ring (a ∷ b ∷ i ∷ j ∷ w ∷ []) ((((var 2 ⊗ var 0) ⊕ (var 3 ⊗ var 1)) ⊖ (var 4 ⊗ var 1)) ⊖ (var 2 ⊗ (var 0 ⊖ var 1))) ((var 4 ⊖ (var 2 ⊕ var 3)) ⊗ (con (pos 0) ⊖ var 1)) refl) e

both_parts : (a b k i j w : ℤ) → w ≡ i +ℤ j → ((i *ℤ a) +ℤ (j *ℤ b)) -ℤ (w *ℤ k) ≡ (i *ℤ (a -ℤ k)) +ℤ (j *ℤ (b -ℤ k))
both_parts a b k i j w e = by_one _ _ w (i +ℤ j) (pos 0 -ℤ k)
    (ring (a ∷ b ∷ k ∷ i ∷ j ∷ w ∷ []) ((((var 3 ⊗ var 0) ⊕ (var 4 ⊗ var 1)) ⊖ (var 5 ⊗ var 2)) ⊖ ((var 3 ⊗ (var 0 ⊖ var 2)) ⊕ (var 4 ⊗ (var 1 ⊖ var 2)))) ((var 5 ⊖ (var 3 ⊕ var 4)) ⊗ (con (pos 0) ⊖ var 2)) refl) e

abbrev times : ℤ → Triple → Triple
times n t = record { x = n *ℤ t.x; y = n *ℤ t.y; z = n *ℤ t.z }

abbrev mixed : ℤ → Triple → ℤ → Triple → Triple
mixed i s j t = record { x = (i *ℤ s.x) +ℤ (j *ℤ t.x); y = (i *ℤ s.y) +ℤ (j *ℤ t.y); z = (i *ℤ s.z) +ℤ (j *ℤ t.z) }

module _ (k l : Corner) (i j : ℕ) where
  from_first : offset k (edge_sum k l i j) ≡ times (pos j) (difference k l)
  from_first = λ t. record {
    x = first_part k.x l.x (pos i) (pos j) (pos (i + j)) (pos-sum i j) t;
    y = first_part k.y l.y (pos i) (pos j) (pos (i + j)) (pos-sum i j) t;
    z = first_part k.z l.z (pos i) (pos j) (pos (i + j)) (pos-sum i j) t;
  }

  from_second : offset l (edge_sum k l i j) ≡ times (pos i) (difference l k)
  from_second = λ t. record {
    x = second_part k.x l.x (pos i) (pos j) (pos (i + j)) (pos-sum i j) t;
    y = second_part k.y l.y (pos i) (pos j) (pos (i + j)) (pos-sum i j) t;
    z = second_part k.z l.z (pos i) (pos j) (pos (i + j)) (pos-sum i j) t;
  }

  from_third : (m : Corner) → offset m (edge_sum k l i j) ≡ mixed (pos i) (difference m k) (pos j) (difference m l)
  from_third m = λ t. record {
    x = both_parts k.x l.x m.x (pos i) (pos j) (pos (i + j)) (pos-sum i j) t;
    y = both_parts k.y l.y m.y (pos i) (pos j) (pos (i + j)) (pos-sum i j) t;
    z = both_parts k.z l.z m.z (pos i) (pos j) (pos (i + j)) (pos-sum i j) t;
  }

-- ---- the determinants
module _ (d : Triple) (x y z : Corner) where
  abbrev values : ℤ → ℤ → ℤ → List ℤ
  values i j k = d.x ∷ d.y ∷ d.z ∷ x.x ∷ x.y ∷ x.z ∷ y.x ∷ y.y ∷ y.z ∷ z.x ∷ z.y ∷ z.z ∷ i ∷ j ∷ k ∷ []

  abbrev way : ℕ → ℕ → Letters
  way a b = record { x = var b ⊖ var a; y = var (b + 1) ⊖ var (a + 1); z = var (b + 2) ⊖ var (a + 2) }

  abbrev longer : Expr → Letters → Letters
  longer n t = record { x = n ⊗ t.x; y = n ⊗ t.y; z = n ⊗ t.z }

  abbrev sums : Expr → Letters → Expr → Letters → Letters
  sums i s j t = record { x = (i ⊗ s.x) ⊕ (j ⊗ t.x); y = (i ⊗ s.y) ⊕ (j ⊗ t.y); z = (i ⊗ s.z) ⊕ (j ⊗ t.z) }

  abbrev faces : Expr
  faces = dots (letters 0) (crosses (way 3 6) (way 3 9))

  -- from the second corner, where the first is alone
  second_turn : (i j k : ℤ) → det d (times i (difference y x)) (mixed j (difference y x) k (difference y z)) ≡ pos 0 -ℤ ((i *ℤ k) *ℤ facing_of d x y z)
  second_turn i j k = ring (values i j k) (dots (letters 0) (crosses (longer (var 12) (way 6 3)) (sums (var 13) (way 6 3) (var 14) (way 6 9)))) (con (pos 0) ⊖ ((var 12 ⊗ var 14) ⊗ faces)) refl

  -- from the third
  third_turn : (i j k : ℤ) → det d (mixed i (difference z x) k (difference z y)) (times j (difference z x)) ≡ pos 0 -ℤ ((k *ℤ j) *ℤ facing_of d x y z)
  third_turn i j k = ring (values i j k) (dots (letters 0) (crosses (sums (var 12) (way 9 3) (var 14) (way 9 6)) (longer (var 13) (way 9 3)))) (con (pos 0) ⊖ ((var 14 ⊗ var 13) ⊗ faces)) refl

  -- from the first
  first_turn : (i j : ℤ) → det d (times i (difference x z)) (times j (difference x y)) ≡ pos 0 -ℤ ((i *ℤ j) *ℤ facing_of d x y z)
  first_turn i j = ring (values i j (pos 0)) (dots (letters 0) (crosses (longer (var 12) (way 3 9)) (longer (var 13) (way 3 6)))) (con (pos 0) ⊖ ((var 12 ⊗ var 13) ⊗ faces)) refl

  round : facing_of d y z x ≡ facing_of d x y z
  round = ring (values (pos 0) (pos 0) (pos 0)) (dots (letters 0) (crosses (way 6 9) (way 6 3))) faces refl

way_turn_back : (d : Triple) (p q : Point) (k : Corner) → way_turn d q p k ≡ pos 0 -ℤ way_turn d p q k
way_turn_back d p q k = go d (offset k p) (offset k q)
  where
    go : (d s t : Triple) → det d t s ≡ pos 0 -ℤ det d s t
    go d s t = ring (d.x ∷ d.y ∷ d.z ∷ s.x ∷ s.y ∷ s.z ∷ t.x ∷ t.y ∷ t.z ∷ []) (dots (letters 0) (crosses (letters 6) (letters 3))) (con (pos 0) ⊖ dots (letters 0) (crosses (letters 3) (letters 6))) refl

-- ---- the corners of a crossed face
-- the corner's turn has the other sign than the face
abbrev pub TurnsAgainst : Plane → {s : Part} → Face s → Point → Point → Corner → Type 0
TurnsAgainst c f p q k = (w : ℤ) × (pos 0 <ℤ w) × (way_turn (toward_of c) p q k ≡ pos 0 -ℤ (w *ℤ facing_of (toward_of c) f.a f.b f.c))

module _ (c : Plane) {s : Part} (f : Face s) where
  abbrev d : Triple
  d = toward_of c

  beyond_weight : (k : Corner) → IsBeyond c (point_of k) → pos 0 <ℤ pos (unsigned_abs (over_of c k))
  beyond_weight k h = natural_positive _ (some_abs_of_negative _ (over_beyond c k h))

  before_weight : (k : Corner) → IsBeforePlane c (point_of k) → pos 0 <ℤ pos (unsigned_abs (over_of c k))
  before_weight k h = natural_positive _ (some_abs_of_positive _ (over_before c k h))

  facing_in_order : (x y z : Corner) → AreInOrder f x y z → facing_of d x y z ≡ facing_of d f.a f.b f.c
  facing_in_order x y z (inl (a, b, e)) = λ t. facing_of d (sym a t) (sym b t) (sym e t)
  facing_in_order x y z (inr (inl (b, e, a))) = (λ t. facing_of d (sym b t) (sym e t) (sym a t)) ∙ round d f.a f.b f.c
  facing_in_order x y z (inr (inr (e, a, b))) = (λ t. facing_of d (sym e t) (sym a t) (sym b t)) ∙ round d f.b f.c f.a ∙ round d f.a f.b f.c

  corner_in_order : (x y z k : Corner) → AreInOrder f x y z → IsFaceCorner f k → (x ≡ k) ⊎ (y ≡ k) ⊎ (z ≡ k)
  corner_in_order x y z k (inl (a, b, e)) (inl h) = inl (sym a ∙ h)
  corner_in_order x y z k (inl (a, b, e)) (inr (inl h)) = inr (inl (sym b ∙ h))
  corner_in_order x y z k (inl (a, b, e)) (inr (inr h)) = inr (inr (sym e ∙ h))
  corner_in_order x y z k (inr (inl (b, e, a))) (inl h) = inr (inr (sym a ∙ h))
  corner_in_order x y z k (inr (inl (b, e, a))) (inr (inl h)) = inl (sym b ∙ h)
  corner_in_order x y z k (inr (inl (b, e, a))) (inr (inr h)) = inr (inl (sym e ∙ h))
  corner_in_order x y z k (inr (inr (e, a, b))) (inl h) = inr (inl (sym a ∙ h))
  corner_in_order x y z k (inr (inr (e, a, b))) (inr (inl h)) = inr (inr (sym b ∙ h))
  corner_in_order x y z k (inr (inr (e, a, b))) (inr (inr h)) = inl (sym e ∙ h)

  abbrev weight : Corner → ℤ
  weight k = pos (unsigned_abs (over_of c k))

  module _ (p q : Point) (border : IsBorderOf c f p q) where
    at_order : (x y z k : Corner) → AreInOrder f x y z → (w : ℤ) → pos 0 <ℤ w → (u v : Point) → p ≡ u → q ≡ v → way_turn d u v k ≡ pos 0 -ℤ (w *ℤ facing_of d x y z) → TurnsAgainst c f p q k
    at_order x y z k order w w_pos u v from to e = (w, w_pos, (λ t. way_turn d (from t) (to t) k) ∙ e ∙ ap (λ r. pos 0 -ℤ (w *ℤ r)) (facing_in_order x y z order))

    pub corner_turns : (k : Corner) → IsFaceCorner f k → IsBeyond c (point_of k) → TurnsAgainst c f p q k
    corner_turns k corner beyond = by (lies c f)
      where
        by : Lies c f → TurnsAgainst c f p q k
        by (all_beyond h l m) = absurd (never (crossed_of_border c f p q border).before)
          where
            never : IsBeforePlane c (point_of f.a) ⊎ IsBeforePlane c (point_of f.b) ⊎ IsBeforePlane c (point_of f.c) → ⊥
            never (inl r) = not_both_sides c (point_of f.a) h r
            never (inr (inl r)) = not_both_sides c (point_of f.b) l r
            never (inr (inr r)) = not_both_sides c (point_of f.c) m r
        by (all_before h l m) = absurd (never (crossed_of_border c f p q border).beyond)
          where
            never : IsBeyond c (point_of f.a) ⊎ IsBeyond c (point_of f.b) ⊎ IsBeyond c (point_of f.c) → ⊥
            never (inl r) = not_both_sides c (point_of f.a) r h
            never (inr (inl r)) = not_both_sides c (point_of f.b) r l
            never (inr (inr r)) = not_both_sides c (point_of f.c) r m
        by (one_before x y z order h l m) = one (corner_in_order x y z k order corner)
          where
            ends : (p ≡ crossing_of c x y) × (q ≡ crossing_of c x z)
            ends = only_one c f x y z order h l m p q border

            one : (x ≡ k) ⊎ (y ≡ k) ⊎ (z ≡ k) → TurnsAgainst c f p q k
            one (inl e) = absurd (not_both_sides c (point_of x) (subst (λ (r : Corner). IsBeyond c (point_of r)) (sym e) beyond) h)
            one (inr (inl e)) = subst (TurnsAgainst c f p q) e
                (at_order x y z y order (weight y *ℤ weight x) (mul_pos _ _ (beyond_weight y l) (before_weight x h)) _ _ ends.0 ends.1
                ((λ t. det d (from_second x y (unsigned_abs (over_of c y)) (unsigned_abs (over_of c x)) t) (from_third x z (unsigned_abs (over_of c z)) (unsigned_abs (over_of c x)) y t))
                ∙ second_turn d x y z (weight y) (weight z) (weight x)))
            one (inr (inr e)) = subst (TurnsAgainst c f p q) e
                (at_order x y z z order (weight x *ℤ weight z) (mul_pos _ _ (before_weight x h) (beyond_weight z m)) _ _ ends.0 ends.1
                ((λ t. det d (from_third x y (unsigned_abs (over_of c y)) (unsigned_abs (over_of c x)) z t) (from_second x z (unsigned_abs (over_of c z)) (unsigned_abs (over_of c x)) t))
                ∙ third_turn d x y z (weight y) (weight z) (weight x)))
        by (one_beyond x y z order h l m) = one (corner_in_order x y z k order corner)
          where
            ends : (p ≡ crossing_of c z x) × (q ≡ crossing_of c y x)
            ends = only_two c f x y z order h l m p q border

            one : (x ≡ k) ⊎ (y ≡ k) ⊎ (z ≡ k) → TurnsAgainst c f p q k
            one (inl e) = subst (TurnsAgainst c f p q) e
                (at_order x y z x order (weight x *ℤ weight x) (mul_pos _ _ (beyond_weight x h) (beyond_weight x h)) _ _ ends.0 ends.1
                ((λ t. det d (from_second z x (unsigned_abs (over_of c x)) (unsigned_abs (over_of c z)) t) (from_second y x (unsigned_abs (over_of c x)) (unsigned_abs (over_of c y)) t))
                ∙ first_turn d x y z (weight x) (weight x)))
            one (inr (inl e)) = absurd (not_both_sides c (point_of y) (subst (λ (r : Corner). IsBeyond c (point_of r)) (sym e) beyond) l)
            one (inr (inr e)) = absurd (not_both_sides c (point_of z) (subst (λ (r : Corner). IsBeyond c (point_of r)) (sym e) beyond) m)

    -- it is not seen on the border's line
    pub turns_apart : facing_of d f.a f.b f.c ≢ pos 0 → (k : Corner) → IsFaceCorner f k → IsBeyond c (point_of k) → way_turn d p q k ≢ pos 0
    turns_apart some k corner beyond none =
        let (w, w_pos, e) = corner_turns k corner beyond in
        some (zero_of_mul w _ w_pos (zero_of_negation _ _ e none))

    -- corners beyond the plane are seen on one side
    one_side : (k l : Corner) → IsFaceCorner f k → IsBeyond c (point_of k) → way_turn d p q k <ℤ pos 0 → IsFaceCorner f l → IsBeyond c (point_of l) → pos 0 <ℤ way_turn d p q l → ⊥
    one_side k l k_corner k_beyond k_turn l_corner l_beyond l_turn =
        let (v, v_pos, e) = corner_turns k k_corner k_beyond in
        let (w, w_pos, g) = corner_turns l l_corner l_beyond in
        let front = pos_of_mul v _ v_pos (under _ _ e k_turn) in
        no (w *ℤ facing_of d f.a f.b f.c) _ (mul_pos w _ w_pos front) g l_turn
      where
        under : (r t : ℤ) → r ≡ pos 0 -ℤ t → r <ℤ pos 0 → pos 0 <ℤ t
        under r t e h = omega (arith, ints)

        no : (t r : ℤ) → pos 0 <ℤ t → r ≡ pos 0 -ℤ t → pos 0 <ℤ r → ⊥
        no t r h e g = omega (arith, ints)

    one_turned_there : {t u : ℤ} → IsTurnedBy c f p q t → IsTurnedBy c f p q u → t ≡ u
    one_turned_there (edge_on e) (edge_on g) = refl
    one_turned_there (edge_on e) (on_right some k i b n) = absurd (some e)
    one_turned_there (edge_on e) (on_left some k i b n) = absurd (some e)
    one_turned_there (on_right some k i b n) (edge_on e) = absurd (some e)
    one_turned_there (on_left some k i b n) (edge_on e) = absurd (some e)
    one_turned_there (on_right some k i b n) (on_right some' l i' b' n') = refl
    one_turned_there (on_left some k i b n) (on_left some' l i' b' n') = refl
    one_turned_there (on_right some k i b n) (on_left some' l i' b' n') = absurd (one_side k l i b n i' b' n')
    one_turned_there (on_left some k i b n) (on_right some' l i' b' n') = absurd (one_side l k i' b' n' i b n)

  pub turned_back : (p q : Point) {t : ℤ} → IsTurnedBy c f p q t → IsTurnedBy c f q p (pos 0 -ℤ t)
  turned_back p q (edge_on e) = edge_on e
  turned_back p q (on_right some k i b n) = on_left some k i b (over (way_turn d p q k) _ (way_turn_back d p q k) n)
    where
      over : (r t : ℤ) → t ≡ pos 0 -ℤ r → r <ℤ pos 0 → pos 0 <ℤ t
      over r t e h = omega (arith, ints)
  turned_back p q (on_left some k i b n) = on_right some k i b (under (way_turn d p q k) _ (way_turn_back d p q k) n)
    where
      under : (r t : ℤ) → t ≡ pos 0 -ℤ r → pos 0 <ℤ r → t <ℤ pos 0
      under r t e h = omega (arith, ints)

  -- one number alone, along the border or back
  pub one_turned : (p q : Point) → IsBorderOf c f p q ⊎ IsBorderOf c f q p → (t u : ℤ) → IsTurnedBy c f p q t → IsTurnedBy c f p q u → t ≡ u
  one_turned p q (inl h) t u a b = one_turned_there p q h a b
  one_turned p q (inr h) t u a b = back t u (one_turned_there q p h (turned_back p q a) (turned_back p q b))
    where
      back : (t u : ℤ) → pos 0 -ℤ t ≡ pos 0 -ℤ u → t ≡ u
      back t u e = omega (arith, ints)

-- ---- the border of a segment
pub segment_border : (c : Plane) (s : Part) (x : Segment) (at : IsSegmentOf c s x) (f : Face s) → f.number ≡ x.tri → IsBorderOf c f (of_spot x.a) (of_spot x.b)
segment_border c s x at f number =
    let same = have_same at.face f (at.number ∙ sym number) in
    border_at c f at.face same.a same.b same.c (of_spot x.a) (of_spot x.b) at.border

pub beyond_of_border : (c : Plane) {s : Part} (f : Face s) (p q : Point) → IsBorderOf c f p q → (a b l : Corner) → (f.a ≡ a) × (f.b ≡ b) × (f.c ≡ l)
    → IsBeyond c (point_of a) ⊎ IsBeyond c (point_of b) ⊎ IsBeyond c (point_of l)
beyond_of_border c f p q border a b l same = by (crossed_of_border c f p q border).beyond
  where
    by : IsBeyond c (point_of f.a) ⊎ IsBeyond c (point_of f.b) ⊎ IsBeyond c (point_of f.c) → IsBeyond c (point_of a) ⊎ IsBeyond c (point_of b) ⊎ IsBeyond c (point_of l)
    by (inl h) = inl (subst (λ (k : Corner). IsBeyond c (point_of k)) same.0 h)
    by (inr (inl h)) = inr (inl (subst (λ (k : Corner). IsBeyond c (point_of k)) same.1 h))
    by (inr (inr h)) = inr (inr (subst (λ (k : Corner). IsBeyond c (point_of k)) same.2 h))

-- ---- segments of a section
pub segment_listed : (c : Plane) (s : Part) (xs : List Segment) (places : List ℕ) → AreBorders c s xs places → (i : ℕ) (x : Segment) → slice_get xs i ≡ Some x → IsSegmentOf c s x
segment_listed c s xs places borders i x listed =
    subst (IsSegmentOf c s) (get_or_from_slice_get xs i x x listed) (All-get_or (IsSegmentOf c s) xs i x (slice_get_within xs i x listed) borders.each)

-- a segment is to the right of a point where the point is left of the border
pub right_is_left : (c : Plane) (s : Part) (x : Segment) → IsSegmentOf c s x → (f : Face s) → f.number ≡ x.tri → (p : Point) → IsPoint p → (b : Bool) → IsTrue b ↔ IsRightOf (toward_of c) x p
    → IsTrue b ↔ IsLeftOfBorder c f p
right_is_left c s x at f number p positive b told =
    ((λ t. left_alike at.face f same p (left_of_right c s x at p positive (told.0 t))), (λ l. told.1 (right_of_left c s x at p positive (left_alike f at.face back p l))))
  where
    same : HaveSame at.face f
    same = have_same at.face f (at.number ∙ sym number)

    back : HaveSame f at.face
    back = have_same f at.face (number ∙ sym at.number)

    left_alike : (f g : Face s) → HaveSame f g → (p : Point) → IsLeftOfBorder c f p → IsLeftOfBorder c g p
    left_alike f g same p h = record {
      right = h.right;
      above = h.above;
      right_on = (subst (λ t. t) (λ i. IsPointOfFace (same.a i) (same.b i) (same.c i) h.right) h.right_on.0, h.right_on.1);
      above_on = (subst (λ t. t) (λ i. IsPointOfFace (same.a i) (same.b i) (same.c i) h.above) h.above_on.0, h.above_on.1);
      same_upward = h.same_upward;
      more_across = h.more_across;
      more_upward = h.more_upward;
    }
