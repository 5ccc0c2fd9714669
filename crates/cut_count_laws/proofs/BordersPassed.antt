-- Where a border changes a mark, it is seen to cross nearer between a near place and a valid one exactly where it is passed.
use Rattle.std.proofs.Common.{◌≡◌, ◌⊎◌, inl, inr, zero, suc, Bool, true, false, cond, List, [], ◌∷◌, refl, sym, subst, ap, ◌∙◌, arith}
use Rattle.std.specs.Prelude.{◌≢◌, ℤ, pos, negsuc, ◌-ℤ◌, ◌*ℤ◌, ◌<ℤ◌, ◌≤ℤ◌, ◌↔◌}
use Rattle.std.specs.Int.Signed.{lt_z}
use Rattle.std.proofs.lemmas.Bool.{false_from_ne_true, false≢true}
use Rattle.std.proofs.lemmas.Int.{ints, by_lt_z}
use Rattle.integers.proofs.Comparisons.{positive_at, not_negative_at, positive_of_more, zero_between, zero_times, times_zero}
use Rattle.integers.proofs.Orders.{lt_z_of_less, lt_z_of_at_most}
use Rattle.integers.proofs.Ring.{Expr, var, con, ◌⊕◌, ◌⊖◌, ◌⊗◌, ring, less_by, gap_of_less}
use Rattle.integers.proofs.Signs.{mul_pos, mul_neg, mul_nonneg, mul_nonpos, mul_two_neg, pos_of_mul, zero_of_mul, square_nonneg}
use Rattle.lattice.specs.declared.points.Corner.{Corner}
use Rattle.lattice.specs.Triple.{Triple, dot, right_axis, up_axis}
use Rattle.lattice.specs.Points.{Point, point_of}
use Rattle.lattice.specs.Cuts.{Plane, toward_of, IsBeyond}
use Rattle.lattice.proofs.SightLines.{right_axis-is}
use Rattle.geometry.specs.Cuts.{IsBorderOf, IsCrossed}
use Rattle.geometry.specs.Faces.{share_point}
use Rattle.geometry.specs.Parts.{Part, Face, Edge}
use Rattle.hiding_laws.specs.Values.{side_of, value_at}
use Rattle.hiding_laws.proofs.Readings.{dot-share}
use Rattle.hiding_laws.proofs.ScreenScale.{turn_scale}
use Rattle.hiding_laws.proofs.Screens.{area_of, turn_of as screen_turn}
use Rattle.geometry.specs.Counts.{Side, to_left, to_right}
use Rattle.geometry.specs.Shares.{mark}
use Rattle.hiding_laws.specs.inner.Tallies.{IsTally}
use Rattle.hiding_laws.specs.inner.Tallies.{yes, no}
use Rattle.hiding_laws.proofs.CornerLaws.{IsBelow, IsNear}
use Rattle.hiding_laws.proofs.NearPlace.{passed_near, passed_start}
use Rattle.hiding_laws.proofs.Places.{place_of}
use Rattle.hiding_laws.proofs.Shares.{Crosses, denominator_of}
use Rattle.hiding_laws.proofs.Signs.{neg_at, neg_of_mul_neg, pos_of_mul_pos, sum_pos_left, sign_cases, clash_both, up, weak}
use Rattle.cut_plane.proofs.Planes.{Seen, turns}
use Rattle.cut_plane.proofs.Sights.{Sight, sight_of, turn_of, counts}
use Rattle.cut_plane.proofs.Tested.{less_of, most_of, same_test}
use Rattle.cut_plane.proofs.Xors.{xor}
use Rattle.cut_count_laws.specs.CutEnds.{mark_change}
use Rattle.cut_count_laws.proofs.BorderPlaces.{crosses_is}
use Rattle.cut_count_laws.proofs.BorderRows.{border_row, no_border_row, ahead_at}
use Rattle.cut_count_laws.proofs.ClearRests.{first_there, second_there, border_clear}
use Rattle.cut_count_laws.proofs.CutLaws.{border_passed}
use Rattle.cut_count_laws.proofs.CutPlaces.{beyond_between}
use Rattle.cut_count_laws.proofs.FaceBorders.{one_first, one_second}
use Rattle.cut_count_laws.proofs.Laws.{IsValid}
use Rattle.cut_count_laws.proofs.Rays.{is_marked, is_ahead, border_ahead}
use Rattle.cut_count_laws.proofs.Rests.{HasBorderChange, BorderCrosses, corner_with, first_with, second_with}
use Rattle.cut_count_laws.proofs.Rests.HasBorderChange.{along, none}
use Rattle.cut_count_laws.proofs.SectionSums.{worth}

-- how far the edge's second end is to the left of the border's line
abbrev pub last_turn : Plane → {s : Part} → Edge s → Point → Point → ℤ
last_turn c e p q = turn_of (sight_of (toward_of c) p) (sight_of (toward_of c) q) (sight_of (toward_of c) (point_of e.b))

-- ---- the test from the other end
counts_back : (u v : Bool) (x y : ℤ) → y ≡ pos 0 -ℤ x → counts u v x ≡ counts v u y
counts_back false false x y e = refl
counts_back true true x y e = refl
counts_back false true x y e = same_test (pos 0) x y (pos 0) (first x y e) (second x y e)
  where
    first : (x y : ℤ) → y ≡ pos 0 -ℤ x → pos 0 <ℤ x → pos 0 ≤ℤ y → ⊥
    first x y e h g = omega (arith, ints)

    second : (x y : ℤ) → y ≡ pos 0 -ℤ x → y <ℤ pos 0 → x ≤ℤ pos 0 → ⊥
    second x y e h g = omega (arith, ints)
counts_back true false x y e = same_test x (pos 0) (pos 0) y (first x y e) (second x y e)
  where
    first : (x y : ℤ) → y ≡ pos 0 -ℤ x → x <ℤ pos 0 → y ≤ℤ pos 0 → ⊥
    first x y e h g = omega (arith, ints)

    second : (x y : ℤ) → y ≡ pos 0 -ℤ x → pos 0 <ℤ y → pos 0 ≤ℤ x → ⊥
    second x y e h g = omega (arith, ints)

abbrev seen_at : ℤ → ℤ → ℤ → Sight
seen_at u v w = record { u = u; v = v; w = w }

abbrev first_seen : Seen
first_seen = record { u = var 0; v = var 1; w = var 2 }

abbrev second_seen : Seen
second_seen = record { u = var 3; v = var 4; w = var 5 }

abbrev third_seen : Seen
third_seen = record { u = var 6; v = var 7; w = var 8 }

-- the edge's ends, and all four in one scale
abbrev start_seen : Seen
start_seen = record { u = var 6; v = var 7; w = con (pos 1) }

abbrev finish_seen : Seen
finish_seen = record { u = var 8; v = var 9; w = con (pos 1) }

abbrev au : Expr
au = var 5 ⊗ var 0

abbrev av : Expr
av = var 5 ⊗ var 1

abbrev bu : Expr
bu = var 2 ⊗ var 3

abbrev bv : Expr
bv = var 2 ⊗ var 4

abbrev pu : Expr
pu = (var 2 ⊗ var 5) ⊗ var 6

abbrev pv : Expr
pv = (var 2 ⊗ var 5) ⊗ var 7

abbrev qu : Expr
qu = (var 2 ⊗ var 5) ⊗ var 8

abbrev qv : Expr
qv = (var 2 ⊗ var 5) ⊗ var 9

pub turn_back : (a b t : Sight) → turn_of b a t ≡ pos 0 -ℤ turn_of a b t
turn_back a b t =
    ring (a.u ∷ a.v ∷ a.w ∷ b.u ∷ b.v ∷ b.w ∷ t.u ∷ t.v ∷ t.w ∷ []) (turns second_seen first_seen third_seen) (con (pos 0) ⊖ turns first_seen second_seen third_seen) refl

pub ahead_back : (k : Side) (p q t a b : Sight) → is_ahead k p q t a b ≡ is_ahead k p q t b a
ahead_back k p q t a b = counts_back (is_marked k (turn_of p q a)) (is_marked k (turn_of p q b)) (turn_of a b t) (turn_of b a t) (turn_back a b t)

-- ---- marks
cond_true : (b : Bool) → cond b false true ≡ false → b ≡ true
cond_true true e = refl
cond_true false e = sym e

cond_false : (b : Bool) → cond b false true ≡ true → b ≡ false
cond_false true e = sym e
cond_false false e = refl

marked_up : (k : Side) (z : ℤ) → is_marked k z ≡ true → pos 0 ≤ℤ z
marked_up to_left z e = weak z (less_of (pos 0) z e)
marked_up to_right z e = most_of z (pos 0) (cond_false (lt_z z (pos 0)) e)

unmarked_down : (k : Side) (z : ℤ) → is_marked k z ≡ false → z ≤ℤ pos 0
unmarked_down to_left z e = most_of (pos 0) z e
unmarked_down to_right z e = down z (less_of z (pos 0) (cond_true (lt_z z (pos 0)) e))
  where
    down : (z : ℤ) → z <ℤ pos 0 → z ≤ℤ pos 0
    down z h = omega (arith, ints)

-- of two marked otherwise one is not 0
marked_gap : (k : Side) (x y : ℤ) → is_marked k x ≡ false → is_marked k y ≡ true → ((x ≤ℤ pos 0) × (pos 0 <ℤ y)) ⊎ ((x <ℤ pos 0) × (pos 0 ≤ℤ y))
marked_gap to_left x y e g = inl (most_of (pos 0) x e, less_of (pos 0) y g)
marked_gap to_right x y e g = inr (less_of x (pos 0) (cond_true (lt_z x (pos 0)) e), most_of y (pos 0) (cond_false (lt_z y (pos 0)) g))

mark_is : (k : Side) (r z w : ℤ) → pos 0 <ℤ r → w ≡ r *ℤ z → mark k z ≡ worth (is_marked k w)
mark_is to_left r (pos zero) w there e = sym (ap worth (lt_z_of_at_most (pos 0) w (none w e)))
  where
    none : (w : ℤ) → w ≡ r *ℤ pos 0 → w ≤ℤ pos 0
    none w e = by w (e ∙ ring (r ∷ []) (var 0 ⊗ con (pos 0)) (con (pos 0)) refl)
      where
        by : (w : ℤ) → w ≡ pos 0 → w ≤ℤ pos 0
        by w e = omega (arith, ints)
mark_is to_left r (pos (suc z)) w there e = sym (ap worth (lt_z_of_less (pos 0) w (positive_at _ _ e (mul_pos r (pos (suc z)) there (omega (arith, ints))))))
mark_is to_left r (negsuc z) w there e = sym (ap worth (lt_z_of_at_most (pos 0) w (down w (r *ℤ negsuc z) e (mul_neg r (negsuc z) there (omega (arith, ints))))))
  where
    down : (w x : ℤ) → w ≡ x → x <ℤ pos 0 → w ≤ℤ pos 0
    down w x e h = omega (arith, ints)
mark_is to_right r (pos z) w there e =
    sym (ap (λ b. worth (cond b false true)) (lt_z_of_at_most w (pos 0) (up w (r *ℤ pos z) e (mul_nonneg r (pos z) (weak r there) (omega (arith, ints))))))
  where
    up : (w x : ℤ) → w ≡ x → pos 0 ≤ℤ x → pos 0 ≤ℤ w
    up w x e h = omega (arith, ints)
mark_is to_right r (negsuc z) w there e =
    sym (ap (λ b. worth (cond b false true)) (lt_z_of_less w (pos 0) (down w (r *ℤ negsuc z) e (mul_neg r (negsuc z) there (omega (arith, ints))))))
  where
    down : (w x : ℤ) → w ≡ x → x <ℤ pos 0 → w <ℤ pos 0
    down w x e h = omega (arith, ints)

-- ---- signs
clash_zero : (x : ℤ) → pos 0 <ℤ x → x ≡ pos 0 → ⊥
clash_zero x h e = omega (arith, ints)

clash_down : (x : ℤ) → x <ℤ pos 0 → x ≡ pos 0 → ⊥
clash_down x h e = omega (arith, ints)

not_positive_at : (x y : ℤ) → x ≡ y → y ≤ℤ pos 0 → x ≤ℤ pos 0
not_positive_at x y e h = omega (arith, ints)

rises : (w w' x y t : ℤ) → t ≡ (w *ℤ y) -ℤ (w' *ℤ x) → pos 0 <ℤ w → pos 0 <ℤ w' → ((x ≤ℤ pos 0) × (pos 0 <ℤ y)) ⊎ ((x <ℤ pos 0) × (pos 0 ≤ℤ y)) → pos 0 <ℤ t
rises w w' x y t e w_pos w'_pos (inl (a, b)) = go t (w *ℤ y) (w' *ℤ x) e (mul_pos w y w_pos b) (mul_nonpos w' x w'_pos a)
  where
    go : (t a b : ℤ) → t ≡ a -ℤ b → pos 0 <ℤ a → b ≤ℤ pos 0 → pos 0 <ℤ t
    go t a b e h g = omega (arith, ints)
rises w w' x y t e w_pos w'_pos (inr (a, b)) = go t (w *ℤ y) (w' *ℤ x) e (mul_nonneg w y (weak w w_pos) b) (mul_neg w' x w'_pos a)
  where
    go : (t a b : ℤ) → t ≡ a -ℤ b → pos 0 ≤ℤ a → b <ℤ pos 0 → pos 0 <ℤ t
    go t a b e h g = omega (arith, ints)

falls : (w w' x y t : ℤ) → t ≡ (w *ℤ y) -ℤ (w' *ℤ x) → pos 0 <ℤ w → pos 0 <ℤ w' → ((y ≤ℤ pos 0) × (pos 0 <ℤ x)) ⊎ ((y <ℤ pos 0) × (pos 0 ≤ℤ x)) → t <ℤ pos 0
falls w w' x y t e w_pos w'_pos h = go t ((w' *ℤ x) -ℤ (w *ℤ y)) (turned t (w *ℤ y) (w' *ℤ x) e) (rises w' w y x ((w' *ℤ x) -ℤ (w *ℤ y)) refl w'_pos w_pos h)
  where
    turned : (t a b : ℤ) → t ≡ a -ℤ b → t ≡ pos 0 -ℤ (b -ℤ a)
    turned t a b e = omega (arith, ints)

    go : (t a : ℤ) → t ≡ pos 0 -ℤ a → pos 0 <ℤ a → t <ℤ pos 0
    go t a e h = omega (arith, ints)

no_factor : (x y : ℤ) → ¬ (y ≡ pos 0) → x *ℤ y ≡ pos 0 → x ≡ pos 0
no_factor x y some e = by (sign_cases y some)
  where
    by : (y <ℤ pos 0) ⊎ (pos 0 <ℤ y) → x ≡ pos 0
    by (inl h) = zero_of_mul (pos 0 -ℤ y) x (up y h) (ring (x ∷ y ∷ []) ((con (pos 0) ⊖ var 1) ⊗ var 0) (con (pos 0) ⊖ (var 0 ⊗ var 1)) refl ∙ ap (λ v. pos 0 -ℤ v) e)
    by (inr h) = zero_of_mul y x h (ring (x ∷ y ∷ []) (var 1 ⊗ var 0) (var 0 ⊗ var 1) refl ∙ e)

-- ---- what is linear along the edge
module _ (f g n m : ℤ) where
  value_slope : value_at f g n m *ℤ (f -ℤ g) ≡ ((f *ℤ (f -ℤ g)) *ℤ m) -ℤ (n *ℤ ((f -ℤ g) *ℤ (f -ℤ g)))
  value_slope = ring (f ∷ g ∷ n ∷ m ∷ []) ((((var 3 ⊖ var 2) ⊗ var 0) ⊕ (var 2 ⊗ var 1)) ⊗ (var 0 ⊖ var 1))
      (((var 0 ⊗ (var 0 ⊖ var 1)) ⊗ var 3) ⊖ (var 2 ⊗ ((var 0 ⊖ var 1) ⊗ (var 0 ⊖ var 1)))) refl

  after_of : pos 0 <ℤ (value_at f g n m *ℤ (f -ℤ g)) → (n *ℤ ((f -ℤ g) *ℤ (f -ℤ g))) <ℤ ((f *ℤ (f -ℤ g)) *ℤ m)
  after_of h = less_by _ _ _ (sym value_slope) h

  of_after : (n *ℤ ((f -ℤ g) *ℤ (f -ℤ g))) <ℤ ((f *ℤ (f -ℤ g)) *ℤ m) → pos 0 <ℤ (value_at f g n m *ℤ (f -ℤ g))
  of_after h = positive_at _ _ value_slope (gap_of_less _ _ h)

  before_of : (value_at f g n m *ℤ (f -ℤ g)) <ℤ pos 0 → ((f *ℤ (f -ℤ g)) *ℤ m) <ℤ (n *ℤ ((f -ℤ g) *ℤ (f -ℤ g)))
  before_of h = go _ _ _ value_slope h
    where
      go : (v x y : ℤ) → v ≡ x -ℤ y → v <ℤ pos 0 → x <ℤ y
      go v x y e h = omega (arith, ints)

  of_before : ((f *ℤ (f -ℤ g)) *ℤ m) <ℤ (n *ℤ ((f -ℤ g) *ℤ (f -ℤ g))) → (value_at f g n m *ℤ (f -ℤ g)) <ℤ pos 0
  of_before h = go _ _ _ value_slope h
    where
      go : (v x y : ℤ) → v ≡ x -ℤ y → x <ℤ y → v <ℤ pos 0
      go v x y e h = omega (arith, ints)

-- what is above 0 at a place by the slope is so at the start
start_of : (f g n m : ℤ) → pos 0 <ℤ n → pos 0 <ℤ m → pos 0 <ℤ (value_at f g n m *ℤ (f -ℤ g)) → pos 0 <ℤ (f *ℤ (f -ℤ g))
start_of f g n m after there h =
    pos_of_mul m _ there (positive_at _ _
    (ring (f ∷ g ∷ n ∷ m ∷ []) (var 3 ⊗ (var 0 ⊗ (var 0 ⊖ var 1)))
    (((((var 3 ⊖ var 2) ⊗ var 0) ⊕ (var 2 ⊗ var 1)) ⊗ (var 0 ⊖ var 1)) ⊕ (var 2 ⊗ ((var 0 ⊖ var 1) ⊗ (var 0 ⊖ var 1)))) refl)
    (sum_pos_left _ _ h (mul_nonneg n _ (weak n after) (square_nonneg (f -ℤ g)))))

start_value : (f g : ℤ) → value_at f g (pos 0) (pos 1) *ℤ (f -ℤ g) ≡ f *ℤ (f -ℤ g)
start_value f g = ring (f ∷ g ∷ []) ((((con (pos 1) ⊖ con (pos 0)) ⊗ var 0) ⊕ (con (pos 0) ⊗ var 1)) ⊗ (var 0 ⊖ var 1)) (var 0 ⊗ (var 0 ⊖ var 1)) refl

-- ---- a border and an edge
module _ (k : Side) (c : Plane) {s : Part} (e : Edge s) (f : Face s) (p q : Point) (ends : IsBorderOf c f p q) where
  abbrev d : Triple
  d = toward_of c

  abbrev P : Sight
  P = sight_of d (point_of e.a)

  abbrev Q : Sight
  Q = sight_of d (point_of e.b)

  abbrev A : Sight
  A = sight_of d p

  abbrev B : Sight
  B = sight_of d q

  abbrev T : ℤ → ℤ → Sight
  T n m = sight_of d (share_point e.a e.b n m)

  abbrev W : ℤ
  W = p.w *ℤ q.w

  -- how far the edge's ends are to the left of the border's line, and the border's ends to that of the edge's
  abbrev F : ℤ
  F = turn_of A B P

  abbrev G : ℤ
  G = turn_of A B Q

  abbrev D : ℤ
  D = F -ℤ G

  abbrev first_turn : ℤ
  first_turn = turn_of P Q A

  abbrev second_turn : ℤ
  second_turn = turn_of P Q B

  abbrev numbers : List ℤ
  numbers = A.u ∷ A.v ∷ p.w ∷ B.u ∷ B.v ∷ q.w ∷ P.u ∷ P.v ∷ Q.u ∷ Q.v ∷ []

  there : pos 0 <ℤ W
  there = mul_pos p.w q.w (first_there c f p q ends) (second_there c f p q ends)

  turn_seen : (r : Point) → turn_of P Q (sight_of d r) ≡ dot (right_axis d) (right_axis d) *ℤ side_of d e.a e.b r
  turn_seen r =
      (let t = sight_of d r in
      ring (P.u ∷ P.v ∷ Q.u ∷ Q.v ∷ t.u ∷ t.v ∷ r.w ∷ [])
      (turns (record { u = var 0; v = var 1; w = con (pos 1) }) (record { u = var 2; v = var 3; w = con (pos 1) }) (record { u = var 4; v = var 5; w = var 6 }))
      (((var 4 ⊗ (var 1 ⊖ var 3)) ⊖ (var 5 ⊗ (var 0 ⊖ var 2))) ⊕ (var 6 ⊗ ((var 0 ⊗ var 3) ⊖ (var 2 ⊗ var 1)))) refl)
      ∙ turn_scale d (right_axis d) (right_axis-is d).level e.a e.b r

  mark_at : (r : Point) → mark k (side_of d e.a e.b r) ≡ worth (is_marked k (turn_of P Q (sight_of d r)))
  mark_at r = mark_is k (dot (right_axis d) (right_axis d)) (side_of d e.a e.b r) (turn_of P Q (sight_of d r)) (right_axis-is d).square (turn_seen r)

  place_turn : (n m : ℤ) → turn_of A B (T n m) ≡ value_at F G n m
  place_turn n m =
      (λ t. turn_of A B (record { u = dot-share (right_axis d) e.a e.b n m t; v = dot-share (up_axis d) e.a e.b n m t; w = m }))
      ∙ ring (A.u ∷ A.v ∷ p.w ∷ B.u ∷ B.v ∷ q.w ∷ P.u ∷ P.v ∷ Q.u ∷ Q.v ∷ n ∷ m ∷ [])
      (turns first_seen second_seen (record { u = ((var 11 ⊖ var 10) ⊗ var 6) ⊕ (var 10 ⊗ var 8); v = ((var 11 ⊖ var 10) ⊗ var 7) ⊕ (var 10 ⊗ var 9); w = var 11 }))
      (((var 11 ⊖ var 10) ⊗ turns first_seen second_seen start_seen) ⊕ (var 10 ⊗ turns first_seen second_seen finish_seen)) refl

  slope_is : D ≡ (p.w *ℤ second_turn) -ℤ (q.w *ℤ first_turn)
  slope_is =
      ring numbers (turns first_seen second_seen start_seen ⊖ turns first_seen second_seen finish_seen)
      ((var 2 ⊗ turns start_seen finish_seen second_seen) ⊖ (var 5 ⊗ turns start_seen finish_seen first_seen)) refl

  abbrev Denominator : ℤ
  Denominator = denominator_of (corner_with c p q e.a) (corner_with c p q e.b) (first_with c p q) (second_with c p q)

  denominator_is : Denominator ≡ W *ℤ D
  denominator_is =
      ring numbers (((qu ⊖ pu) ⊗ (bv ⊖ av)) ⊖ ((qv ⊖ pv) ⊗ (bu ⊖ au)))
      ((var 2 ⊗ var 5) ⊗ (turns first_seen second_seen start_seen ⊖ turns first_seen second_seen finish_seen)) refl

  first_area : area_of (corner_with c p q e.a) (corner_with c p q e.b) (first_with c p q) ≡ (W *ℤ q.w) *ℤ first_turn
  first_area = ring numbers (((qu ⊖ pu) ⊗ (av ⊖ pv)) ⊖ ((qv ⊖ pv) ⊗ (au ⊖ pu))) (((var 2 ⊗ var 5) ⊗ var 5) ⊗ turns start_seen finish_seen first_seen) refl

  second_area : area_of (corner_with c p q e.a) (corner_with c p q e.b) (second_with c p q) ≡ (W *ℤ p.w) *ℤ second_turn
  second_area = ring numbers (((qu ⊖ pu) ⊗ (bv ⊖ pv)) ⊖ ((qv ⊖ pv) ⊗ (bu ⊖ pu))) (((var 2 ⊗ var 5) ⊗ var 2) ⊗ turns start_seen finish_seen second_seen) refl

  on_line : (n m : ℤ) → screen_turn (place_of (corner_with c p q e.a) (corner_with c p q e.b) n m) (first_with c p q) (second_with c p q) ≡ W *ℤ value_at F G n m
  on_line n m =
      ring (A.u ∷ A.v ∷ p.w ∷ B.u ∷ B.v ∷ q.w ∷ P.u ∷ P.v ∷ Q.u ∷ Q.v ∷ n ∷ m ∷ [])
      ((((((var 11 ⊖ var 10) ⊗ pu) ⊕ (var 10 ⊗ qu)) ⊗ (av ⊖ bv)) ⊖ ((((var 11 ⊖ var 10) ⊗ pv) ⊕ (var 10 ⊗ qv)) ⊗ (au ⊖ bu))) ⊕ (var 11 ⊗ ((au ⊗ bv) ⊖ (bu ⊗ av))))
      ((var 2 ⊗ var 5) ⊗ (((var 11 ⊖ var 10) ⊗ turns first_seen second_seen start_seen) ⊕ (var 10 ⊗ turns first_seen second_seen finish_seen))) refl

  abbrev ahead : ℤ → ℤ → Bool
  ahead n m = is_ahead k P Q (T n m) A B

  abbrev is_passed : ℤ → ℤ → Bool
  is_passed n m = xor (ahead (pos 0) (pos 1)) (ahead n m)

  -- the border crosses the edge's line: which places it is ahead of
  record IsTurning : Type 0 where
    some : ¬ (D ≡ pos 0)
    sides : ((first_turn ≤ℤ pos 0) × (pos 0 ≤ℤ second_turn)) ⊎ ((second_turn ≤ℤ pos 0) × (pos 0 ≤ℤ first_turn))
    to_value : (n m : ℤ) → ahead n m ≡ true → pos 0 <ℤ (value_at F G n m *ℤ D)
    of_value : (n m : ℤ) → pos 0 <ℤ (value_at F G n m *ℤ D) → ahead n m ≡ true

  turning_up : is_marked k first_turn ≡ false → is_marked k second_turn ≡ true → IsTurning
  turning_up u v = record {
    some = λ e. clash_zero D up e;
    sides = inl (unmarked_down k first_turn u, marked_up k second_turn v);
    to_value = λ n m h. mul_pos _ D (positive_at _ _ (sym (place_turn n m)) (less_of (pos 0) (turn_of A B (T n m)) (sym (at n m) ∙ h))) up;
    of_value = λ n m h. at n m ∙ lt_z_of_less (pos 0) (turn_of A B (T n m)) (positive_at _ _ (place_turn n m) (pos_of_mul_pos _ D up h));
  }
    where
      at : (n m : ℤ) → ahead n m ≡ lt_z (pos 0) (turn_of A B (T n m))
      at n m = λ t. counts (u t) (v t) (turn_of A B (T n m))

      up : pos 0 <ℤ D
      up = rises p.w q.w first_turn second_turn D slope_is (first_there c f p q ends) (second_there c f p q ends) (marked_gap k first_turn second_turn u v)

  turning_down : is_marked k first_turn ≡ true → is_marked k second_turn ≡ false → IsTurning
  turning_down u v = record {
    some = λ e. clash_down D down e;
    sides = inr (unmarked_down k second_turn v, marked_up k first_turn u);
    to_value = λ n m h. mul_two_neg _ D (neg_at _ _ (sym (place_turn n m)) (less_of (turn_of A B (T n m)) (pos 0) (sym (at n m) ∙ h))) down;
    of_value = λ n m h. at n m ∙ lt_z_of_less (turn_of A B (T n m)) (pos 0) (neg_at _ _ (place_turn n m) (neg_of_mul_neg _ D down h));
  }
    where
      at : (n m : ℤ) → ahead n m ≡ lt_z (turn_of A B (T n m)) (pos 0)
      at n m = λ t. counts (u t) (v t) (turn_of A B (T n m))

      down : D <ℤ pos 0
      down = falls p.w q.w first_turn second_turn D slope_is (first_there c f p q ends) (second_there c f p q ends) (marked_gap k second_turn first_turn v u)

  -- ---- between a near place and a valid one
  module _ (turning : IsTurning) (size i j n m : ℤ) (near : IsNear size i j) (small : IsBelow size G) (start : IsBeyond c (point_of e.a)) (valid : IsValid c e n m) where
    abbrev IsCrossing : Type 0
    IsCrossing = Crosses (corner_with c p q e.a) (corner_with c p q e.b) (first_with c p q) (second_with c p q) i j n m

    crossing : IsCrossing ↔ (((i *ℤ (D *ℤ D)) <ℤ ((F *ℤ D) *ℤ j)) × (((F *ℤ D) *ℤ m) <ℤ (n *ℤ (D *ℤ D))) × IsBeyond c (share_point e.a e.b (F *ℤ D) (D *ℤ D)))
    crossing = crosses_is c f p q ends e (F *ℤ D) (D *ℤ D) square root slope i j n m
      where
        square : pos 0 <ℤ (D *ℤ D)
        square = by (sign_cases D turning.some)
          where
            by : (D <ℤ pos 0) ⊎ (pos 0 <ℤ D) → pos 0 <ℤ (D *ℤ D)
            by (inl h) = mul_two_neg D D h h
            by (inr h) = mul_pos D D h h

        root : turn_of A B (T (F *ℤ D) (D *ℤ D)) ≡ pos 0
        root = place_turn (F *ℤ D) (D *ℤ D)
            ∙ ring (F ∷ G ∷ []) ((((var 0 ⊖ var 1) ⊗ (var 0 ⊖ var 1)) ⊖ (var 0 ⊗ (var 0 ⊖ var 1))) ⊗ var 0 ⊕ ((var 0 ⊗ (var 0 ⊖ var 1)) ⊗ var 1)) (con (pos 0)) refl

        slope : Denominator ≢ pos 0
        slope h = turning.some (zero_of_mul W D there (sym denominator_is ∙ h))

    -- it is not at the place itself
    not_here : ¬ (value_at F G n m ≡ pos 0)
    not_here h =
        turning.some (zero_of_mul W D there (sym denominator_is
        ∙ border_clear c f p q ends e n m valid.free (on_line n m ∙ ap (λ v. W *ℤ v) h ∙ times_zero W) (by turning.sides)))
      where
        by : ((first_turn ≤ℤ pos 0) × (pos 0 ≤ℤ second_turn)) ⊎ ((second_turn ≤ℤ pos 0) × (pos 0 ≤ℤ first_turn))
            → ((area_of (corner_with c p q e.a) (corner_with c p q e.b) (first_with c p q) ≤ℤ pos 0) × (pos 0 ≤ℤ area_of (corner_with c p q e.a) (corner_with c p q e.b) (second_with c p q)))
            ⊎ ((area_of (corner_with c p q e.a) (corner_with c p q e.b) (second_with c p q) ≤ℤ pos 0) × (pos 0 ≤ℤ area_of (corner_with c p q e.a) (corner_with c p q e.b) (first_with c p q)))
        by (inl (a, b)) = inl (not_positive_at _ _ first_area (mul_nonpos _ _ (mul_pos W q.w there (second_there c f p q ends)) a), not_negative_at _ _ second_area (mul_nonneg _ _ (weak _ (mul_pos W p.w there (first_there c f p q ends))) b))
        by (inr (b, a)) = inr (not_positive_at _ _ second_area (mul_nonpos _ _ (mul_pos W p.w there (first_there c f p q ends)) b), not_negative_at _ _ first_area (mul_nonneg _ _ (weak _ (mul_pos W q.w there (second_there c f p q ends))) a))

    passed_of : IsCrossing → is_passed n m ≡ true
    passed_of x =
        let r = crossing.0 x in
        λ t. xor (turning.of_value (pos 0) (pos 1) (positive_at _ _ (start_value F G) (passed_start F G size i j near small (of_after F G i j r.0))) t)
        (false_from_ne_true (ahead n m) (λ h. clash_both _ (turning.to_value n m h) (of_before F G n m r.1)) t)

    crossing_of : is_passed n m ≡ true → IsCrossing
    crossing_of h = by (ahead (pos 0) (pos 1)) (ahead n m) refl refl h
      where
        m_there : pos 0 <ℤ m
        m_there = positive_of_more n m valid.after valid.before

        falling : ahead n m ≡ false → (value_at F G n m *ℤ D) <ℤ pos 0
        falling g = by_lt_z (value_at F G n m *ℤ D) (pos 0) (λ l. l)
            (λ l. by_lt_z (pos 0) (value_at F G n m *ℤ D) (λ up. absurd (false≢true (sym g ∙ turning.of_value n m up)))
            (λ l'. absurd (not_here (no_factor (value_at F G n m) D turning.some (zero_between _ l l')))))

        by : (u v : Bool) → ahead (pos 0) (pos 1) ≡ u → ahead n m ≡ v → xor u v ≡ true → IsCrossing
        by false false a b g = absurd (false≢true g)
        by true true a b g = absurd (false≢true g)
        by false true a b g = absurd (false≢true (sym a ∙ turning.of_value (pos 0) (pos 1) (positive_at _ _ (start_value F G) (start_of F G n m valid.after m_there (turning.to_value n m b)))))
        by true false a b g =
            let up : pos 0 <ℤ (F *ℤ D) = positive_at _ _ (sym (start_value F G)) (turning.to_value (pos 0) (pos 1) a) in
            let earlier = before_of F G n m (falling b) in
            crossing.1 (after_of F G i j (passed_near F G size i j near small up), earlier, beyond_between c e.a e.b n m (F *ℤ D) (D *ℤ D) valid.after start valid.beyond up earlier)

-- ---- the law
pub border_is : (k : Side) (c : Plane) {s : Part} (o : Corner) (e : Edge s) (f : Face s) (size i j n m : ℤ) → IsNear size i j
    → ((p q : Point) → IsBorderOf c f p q → IsBelow size (last_turn c e p q)) → IsBeyond c (point_of e.a) → IsValid c e n m
    → (own b : ℤ) → HasBorderChange k c e f own → IsTally (BorderCrosses c e f i j n m) b → own *ℤ b ≡ own *ℤ worth (border_passed k c s o e n m f.tri)
border_is k c o e f size i j n m near small start valid own b (none h) crosses = zero_times b ∙ sym (zero_times (worth (border_passed k c _ o e n m f.tri)))
border_is k c {s} o e f size i j n m near small start valid own b (along p q ends) crosses =
    by (is_marked k (first_turn k c e f p q ends)) (is_marked k (second_turn k c e f p q ends)) refl refl
  where
    row_is : (n m : ℤ) → border_ahead k c s o e n m f.tri ≡ ahead k c e f p q ends n m
    row_is n m =
        ahead_at k c s o e n m f
        ∙ border_row (is_ahead k (P k c e f p q ends) (Q k c e f p q ends) (T k c e f p q ends n m)) (λ x y. ahead_back k (P k c e f p q ends) (Q k c e f p q ends) (T k c e f p q ends n m) x y) c f p q ends

    passed_is : border_passed k c s o e n m f.tri ≡ is_passed k c e f p q ends n m
    passed_is = λ t. xor (row_is (pos 0) (pos 1) t) (row_is n m t)

    tally_is : {b : ℤ} → IsTurning k c e f p q ends → IsTally (BorderCrosses c e f i j n m) b → b ≡ worth (border_passed k c s o e n m f.tri)
    tally_is turning (yes x) =
        sym (ap worth (passed_is ∙ passed_of k c e f p q ends turning size i j n m near (small p q ends) start valid
        (subst (λ (r : Point). Crosses (corner_with c r q e.a) (corner_with c r q e.b) (first_with c r q) (second_with c r q) i j n m) (one_first c f x.p x.q p q x.border ends)
        (subst (λ (r : Point). Crosses (corner_with c x.p r e.a) (corner_with c x.p r e.b) (first_with c x.p r) (second_with c x.p r) i j n m) (one_second c f x.p x.q p q x.border ends) x.crosses))))
    tally_is turning (no g) =
        sym (ap worth (false_from_ne_true (border_passed k c s o e n m f.tri) (λ h. g (record {
          p = p;
          q = q;
          border = ends;
          crosses = crossing_of k c e f p q ends turning size i j n m near (small p q ends) start valid (sym passed_is ∙ h);
        }))))

    alike : (u : Bool) → is_marked k (first_turn k c e f p q ends) ≡ u → is_marked k (second_turn k c e f p q ends) ≡ u → mark_change k (toward_of c) e.a e.b p q ≡ pos 0
    alike u a g = (λ t. (mark_at k c e f p q ends p ∙ ap worth a) t -ℤ (mark_at k c e f p q ends q ∙ ap worth g) t) ∙ nothing (worth u)
      where
        nothing : (x : ℤ) → x -ℤ x ≡ pos 0
        nothing x = omega (arith, ints)

    unchanged : mark_change k (toward_of c) e.a e.b p q ≡ pos 0 → mark_change k (toward_of c) e.a e.b p q *ℤ b ≡ mark_change k (toward_of c) e.a e.b p q *ℤ worth (border_passed k c s o e n m f.tri)
    unchanged h = (λ t. h t *ℤ b) ∙ zero_times b ∙ sym (zero_times (worth (border_passed k c s o e n m f.tri))) ∙ sym (λ t. h t *ℤ worth (border_passed k c s o e n m f.tri))

    by : (u v : Bool) → is_marked k (first_turn k c e f p q ends) ≡ u → is_marked k (second_turn k c e f p q ends) ≡ v
        → mark_change k (toward_of c) e.a e.b p q *ℤ b ≡ mark_change k (toward_of c) e.a e.b p q *ℤ worth (border_passed k c s o e n m f.tri)
    by false false a g = unchanged (alike false a g)
    by true true a g = unchanged (alike true a g)
    by false true a g = ap (λ v. mark_change k (toward_of c) e.a e.b p q *ℤ v) (tally_is (turning_up k c e f p q ends a g) crosses)
    by true false a g = ap (λ v. mark_change k (toward_of c) e.a e.b p q *ℤ v) (tally_is (turning_down k c e f p q ends a g) crosses)

-- a triangle with no border is not passed
pub none_passed : (k : Side) (c : Plane) {s : Part} (o : Corner) (e : Edge s) (f : Face s) (n m : ℤ) → ¬ IsCrossed c f → border_passed k c s o e n m f.tri ≡ false
none_passed k c {s} o e f n m h = λ t. xor (off (pos 0) (pos 1) t) (off n m t)
  where
    off : (n m : ℤ) → border_ahead k c s o e n m f.tri ≡ false
    off n m =
        let a = sight_of (toward_of c) (point_of e.a) in
        let b = sight_of (toward_of c) (point_of e.b) in
        let x = sight_of (toward_of c) (share_point e.a e.b n m) in
        ahead_at k c s o e n m f ∙ no_border_row (is_ahead k a b x) (λ y z. ahead_back k a b x y z) c f h
