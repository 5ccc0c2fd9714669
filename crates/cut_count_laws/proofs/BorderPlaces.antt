-- A border crosses an edge between two places, strictly nearer, exactly where its own place on the edge is between them and the edge is beyond the plane there.
use Rattle.std.proofs.Common.{◌≡◌, ℕ, suc, ◌+◌, ◌<◌, [], ◌∷◌, List, refl, sym, subst, ap, ◌∙◌, arith, unsigned_abs, zero, Bool, true, false}
use Rattle.std.specs.Prelude.{◌≢◌, ℤ, pos, ◌+ℤ◌, ◌-ℤ◌, ◌*ℤ◌, ◌<ℤ◌, ◌≤ℤ◌, ◌↔◌, negsuc, cond}
use Rattle.std.specs.Int.Signed.{lt_z}
use Rattle.std.proofs.lemmas.Bool.{false≢true}
use Rattle.std.proofs.lemmas.Int.{ints, by_lt_z}
use Rattle.integers.proofs.Absolutes.{natural_positive, natural_not_negative, abs_of_not_negative}
use Rattle.integers.proofs.Comparisons.{at_most_of_less, positive_at, zero_between, negation_positive, twice_positive, sum_positive_first}
use Rattle.integers.proofs.Orders.{lt_z_of_less, lt_z_of_at_most}
use Rattle.integers.proofs.Ring.{Expr, var, con, ◌⊕◌, ◌⊖◌, ◌⊗◌, ring, by_one, by_two, same_of_gap, less_by, gap_of_less}
use Rattle.integers.proofs.Signs.{mul_pos, mul_neg, mul_nonneg, mul_nonpos_first, mul_two_neg, pos_of_mul, zero_of_mul}
use Rattle.lattice.specs.Triple.{Triple, dot, cross, det, right_axis, up_axis, IsZero}
use Rattle.lattice.specs.Points.{Point, IsPoint, point_of, scaled, across_of, upward_of, height_of, OnOneSight}
use Rattle.lattice.specs.Cuts.{Plane, toward_of, plane_height, IsBeyond}
use Rattle.lattice.proofs.OnLines.{dot_difference, weighted_sum, product_of_sum}
use Rattle.lattice.proofs.SightLines.{right_axis-is}
use Rattle.lattice.proofs.Vectors.{Letters, letters, dots, crosses}
use Rattle.geometry.specs.Faces.{difference, normal, IsFlat, share_point, IsPointOfFace}
use Rattle.geometry.specs.Parts.{Part, Face, Edge}
use Rattle.geometry.specs.Cuts.{border, step_of, IsOnBorder, IsBorderOf}
use Rattle.geometry.proofs.BorderSteps.{step_between, border_runs}
use Rattle.hiding_laws.specs.Values.{offset, side_of}
use Rattle.geometry.specs.Counts.{Side, to_left, to_right}
use Rattle.geometry.specs.Shares.{mark}
use Rattle.hiding_laws.proofs.Readings.{dot-share}
use Rattle.hiding_laws.proofs.Screens.{Screen}
use Rattle.hiding_laws.proofs.Shares.{Crosses, numerator_of, denominator_of, depth_of}
use Rattle.cut_plane.proofs.Apart.{border_apart}
use Rattle.cut_plane.proofs.BorderSums.{AreEnds, border_ends, IsMixOf}
use Rattle.cut_plane.proofs.Following.{one_border}
use Rattle.cut_plane.proofs.RightOf.{first_alone, second_alone, mix_product}
use Rattle.cut_plane.specs.Crossings.{CrossesAt}
use Rattle.cut_plane.proofs.Planes.{Seen, turns}
use Rattle.cut_plane.proofs.Roots.{Apex, apex_of, some_border}
use Rattle.cut_plane.proofs.Sights.{Sight, sight_of, turn_of, counts}
use Rattle.cut_plane.proofs.Tested.{same_test}
use Rattle.cut_plane.proofs.Steps.{seen_det}
use Rattle.cut_count_laws.specs.CutEnds.{mark_change}
use Rattle.cut_count_laws.proofs.Rays.{is_marked, is_ahead, IsOnWay}
use Rattle.cut_count_laws.proofs.SectionSums.{worth}
use Rattle.cut_count_laws.proofs.Wedges.{Differ, AreMarked, rising as rise, falling as fall, marks_differ, same_sign, other_sign, on_way_of_marks}
use Rattle.cut_count_laws.proofs.Rests.{HasBorderChange, along, none, BorderCrosses, corner_with, first_with, second_with}
use Rattle.cut_count_laws.proofs.SectionRays.{on_line}

-- ---- a place of the line
positive_square : (h : ℤ) → (h ≡ pos 0 → ⊥) → pos 0 <ℤ (h *ℤ h)
positive_square h some = by_lt_z (pos 0) h (λ p. mul_pos h h p p) (λ p. by_lt_z h (pos 0) (λ q. mul_two_neg h h q q) (λ q. absurd (some (zero_between h q p))))

-- with g / h the place of the crossing, that is i / j
module _ (g h i j : ℤ) (there : pos 0 <ℤ j) (same : j *ℤ g ≡ i *ℤ h) (some : h ≡ pos 0 → ⊥) where
  square : pos 0 <ℤ (h *ℤ h)
  square = positive_square h some

  after_gap : (n m : ℤ) → j *ℤ (((g *ℤ h) *ℤ m) -ℤ (n *ℤ (h *ℤ h))) ≡ (h *ℤ h) *ℤ ((i *ℤ m) -ℤ (n *ℤ j))
  after_gap n m = by_one _ _ (j *ℤ g) (i *ℤ h) (h *ℤ m)
      (ring (g ∷ h ∷ i ∷ j ∷ n ∷ m ∷ [])
      ((var 3 ⊗ (((var 0 ⊗ var 1) ⊗ var 5) ⊖ (var 4 ⊗ (var 1 ⊗ var 1)))) ⊖ ((var 1 ⊗ var 1) ⊗ ((var 2 ⊗ var 5) ⊖ (var 4 ⊗ var 3))))
      (((var 3 ⊗ var 0) ⊖ (var 2 ⊗ var 1)) ⊗ (var 1 ⊗ var 5)) refl) same

  before_gap : (n m : ℤ) → j *ℤ ((n *ℤ (h *ℤ h)) -ℤ ((g *ℤ h) *ℤ m)) ≡ (h *ℤ h) *ℤ ((n *ℤ j) -ℤ (i *ℤ m))
  before_gap n m = by_one _ _ (j *ℤ g) (i *ℤ h) (pos 0 -ℤ (h *ℤ m))
      (ring (g ∷ h ∷ i ∷ j ∷ n ∷ m ∷ [])
      ((var 3 ⊗ ((var 4 ⊗ (var 1 ⊗ var 1)) ⊖ ((var 0 ⊗ var 1) ⊗ var 5))) ⊖ ((var 1 ⊗ var 1) ⊗ ((var 4 ⊗ var 3) ⊖ (var 2 ⊗ var 5))))
      (((var 3 ⊗ var 0) ⊖ (var 2 ⊗ var 1)) ⊗ (con (pos 0) ⊖ (var 1 ⊗ var 5))) refl) same

  exchanged : (x y : ℤ) → j *ℤ x ≡ (h *ℤ h) *ℤ y → pos 0 <ℤ x ↔ pos 0 <ℤ y
  exchanged x y e = (
    (λ p. pos_of_mul (h *ℤ h) y square (positive_at _ _ (sym e) (mul_pos j x there p))),
    (λ p. pos_of_mul j x there (positive_at _ _ e (mul_pos (h *ℤ h) y square p))),
  )

  after_is : (n m : ℤ) → (n *ℤ (h *ℤ h)) <ℤ ((g *ℤ h) *ℤ m) ↔ (n *ℤ j) <ℤ (i *ℤ m)
  after_is n m = let by = exchanged _ _ (after_gap n m) in ((λ p. less_by _ _ _ refl (by.0 (gap_of_less _ _ p))), (λ p. less_by _ _ _ refl (by.1 (gap_of_less _ _ p))))

  before_is : (n m : ℤ) → ((g *ℤ h) *ℤ m) <ℤ (n *ℤ (h *ℤ h)) ↔ (i *ℤ m) <ℤ (n *ℤ j)
  before_is n m = let by = exchanged _ _ (before_gap n m) in ((λ p. less_by _ _ _ refl (by.0 (gap_of_less _ _ p))), (λ p. less_by _ _ _ refl (by.1 (gap_of_less _ _ p))))

-- ---- vectors
zero_dot : (r t : Triple) → IsZero t → dot r t ≡ pos 0
zero_dot r t nil = (λ i. ((r.x *ℤ nil.x i) +ℤ (r.y *ℤ nil.y i)) +ℤ (r.z *ℤ nil.z i)) ∙ ring (r.x ∷ r.y ∷ r.z ∷ []) (((var 0 ⊗ con (pos 0)) ⊕ (var 1 ⊗ con (pos 0))) ⊕ (var 2 ⊗ con (pos 0))) (con (pos 0)) refl

-- what is 0 times each component of a vector that is not nothing is 0
zero_of_vector : (t : Triple) (a : ℤ) → ¬ IsZero t → t.x *ℤ a ≡ pos 0 → t.y *ℤ a ≡ pos 0 → t.z *ℤ a ≡ pos 0 → a ≡ pos 0
zero_of_vector t a some x y z = by_lt_z (pos 0) a
    (λ p. absurd (some (record { x = out t.x a p x; y = out t.y a p y; z = out t.z a p z })))
    (λ p. by_lt_z a (pos 0) (λ q. absurd (some (record { x = out_back t.x a q x; y = out_back t.y a q y; z = out_back t.z a q z }))) (λ q. zero_between a q p))
  where
    out : (k a : ℤ) → pos 0 <ℤ a → k *ℤ a ≡ pos 0 → k ≡ pos 0
    out k a p e = zero_of_mul a k p (ring (k ∷ a ∷ []) (var 1 ⊗ var 0) (var 0 ⊗ var 1) refl ∙ e)

    out_back : (k a : ℤ) → a <ℤ pos 0 → k *ℤ a ≡ pos 0 → k ≡ pos 0
    out_back k a p e = zero_of_mul (pos 0 -ℤ a) k (negation_positive a p) (ring (k ∷ a ∷ []) ((con (pos 0) ⊖ var 1) ⊗ var 0) (con (pos 0) ⊖ (var 0 ⊗ var 1)) refl ∙ ap (λ z. pos 0 -ℤ z) e)

module _ (m t r : Triple) (along : IsZero (cross t r)) where
  values : List ℤ
  values = m.x ∷ m.y ∷ m.z ∷ t.x ∷ t.y ∷ t.z ∷ r.x ∷ r.y ∷ r.z ∷ []

  abbrev M : Letters
  M = letters 0

  abbrev S : Letters
  S = letters 3

  abbrev R : Letters
  R = letters 6

  -- two ways along one line have products with a third vector in their own ratio
  first_ratio : r.x *ℤ dot m t ≡ t.x *ℤ dot m r
  unfolding values
  first_ratio = by_two _ _ (cross t r).z (pos 0) (pos 0 -ℤ m.y) (cross t r).y (pos 0) m.z
      (ring values ((R.x ⊗ dots M S) ⊖ (S.x ⊗ dots M R)) ((((crosses S R).z ⊖ con (pos 0)) ⊗ (con (pos 0) ⊖ M.y)) ⊕ (((crosses S R).y ⊖ con (pos 0)) ⊗ M.z)) refl) along.z along.y

  second_ratio : r.y *ℤ dot m t ≡ t.y *ℤ dot m r
  unfolding values
  second_ratio = by_two _ _ (cross t r).z (pos 0) m.x (cross t r).x (pos 0) (pos 0 -ℤ m.z)
      (ring values ((R.y ⊗ dots M S) ⊖ (S.y ⊗ dots M R)) ((((crosses S R).z ⊖ con (pos 0)) ⊗ M.x) ⊕ (((crosses S R).x ⊖ con (pos 0)) ⊗ (con (pos 0) ⊖ M.z))) refl) along.z along.x

  third_ratio : r.z *ℤ dot m t ≡ t.z *ℤ dot m r
  unfolding values
  third_ratio = by_two _ _ (cross t r).y (pos 0) (pos 0 -ℤ m.x) (cross t r).x (pos 0) m.y
      (ring values ((R.z ⊗ dots M S) ⊖ (S.z ⊗ dots M R)) ((((crosses S R).y ⊖ con (pos 0)) ⊗ (con (pos 0) ⊖ M.x)) ⊕ (((crosses S R).x ⊖ con (pos 0)) ⊗ M.y)) refl) along.y along.x

  level : (k a : ℤ) → a ≡ pos 0 → k *ℤ a ≡ pos 0
  level k a e = ap (λ z. k *ℤ z) e ∙ ring (k ∷ []) (var 0 ⊗ con (pos 0)) (con (pos 0)) refl

  other_product : ¬ IsZero t → dot m t ≡ pos 0 → dot m r ≡ pos 0
  other_product some e = zero_of_vector t (dot m r) some (sym first_ratio ∙ level r.x _ e) (sym second_ratio ∙ level r.y _ e) (sym third_ratio ∙ level r.z _ e)

  first_product : ¬ IsZero r → dot m r ≡ pos 0 → dot m t ≡ pos 0
  first_product some e = zero_of_vector r (dot m t) some (first_ratio ∙ level t.x _ e) (second_ratio ∙ level t.y _ e) (third_ratio ∙ level t.z _ e)

det_is : (d e t : Triple) → det d e t ≡ dot (cross d e) t
det_is d e t = ring (d.x ∷ d.y ∷ d.z ∷ e.x ∷ e.y ∷ e.z ∷ t.x ∷ t.y ∷ t.z ∷ []) (dots (letters 0) (crosses (letters 3) (letters 6))) (dots (crosses (letters 0) (letters 3)) (letters 6)) refl

-- ---- heights
-- of two lines, the second level, of which each is twice as high as z there
level_depth : (p q a b : Screen) (z : ℤ) → pos 2 *ℤ a.h ≡ z → pos 2 *ℤ b.h ≡ z
    → pos 2 *ℤ depth_of p q a b ≡ (denominator_of p q a b *ℤ (z -ℤ (pos 2 *ℤ p.h))) -ℤ ((pos 2 *ℤ (q.h -ℤ p.h)) *ℤ numerator_of p a b)
level_depth p q a b z e g =
    by_two _ _ (pos 2 *ℤ a.h) z (denominator_of p q a b -ℤ lever) (pos 2 *ℤ b.h) z lever
    (ring (p.u ∷ p.v ∷ p.h ∷ q.u ∷ q.v ∷ q.h ∷ a.u ∷ a.v ∷ a.h ∷ b.u ∷ b.v ∷ b.h ∷ z ∷ [])
    ((con (pos 2) ⊗ depth) ⊖ ((denominator ⊗ (var 12 ⊖ (con (pos 2) ⊗ var 2))) ⊖ ((con (pos 2) ⊗ qh) ⊗ numerator)))
    ((((con (pos 2) ⊗ var 8) ⊖ var 12) ⊗ (denominator ⊖ levers)) ⊕ (((con (pos 2) ⊗ var 11) ⊖ var 12) ⊗ levers)) refl) e g
  where
    lever : ℤ
    lever = ((q.v -ℤ p.v) *ℤ (a.u -ℤ p.u)) -ℤ ((q.u -ℤ p.u) *ℤ (a.v -ℤ p.v))

    qu : Expr
    qu = var 3 ⊖ var 0

    qv : Expr
    qv = var 4 ⊖ var 1

    qh : Expr
    qh = var 5 ⊖ var 2

    au : Expr
    au = var 6 ⊖ var 0

    av : Expr
    av = var 7 ⊖ var 1

    ah : Expr
    ah = var 8 ⊖ var 2

    bu : Expr
    bu = var 9 ⊖ var 6

    bv : Expr
    bv = var 10 ⊖ var 7

    bh : Expr
    bh = var 11 ⊖ var 8

    numerator : Expr
    numerator = (au ⊗ bv) ⊖ (av ⊗ bu)

    denominator : Expr
    denominator = (qu ⊗ bv) ⊖ (qv ⊗ bu)

    levers : Expr
    levers = (qv ⊗ au) ⊖ (qu ⊗ av)

    depth : Expr
    depth = ((((qv ⊗ bh) ⊖ (qh ⊗ bv)) ⊗ au) ⊕ (((qh ⊗ bu) ⊖ (qu ⊗ bh)) ⊗ av)) ⊕ (denominator ⊗ ah)

-- at the place i / j of the crossing
height_at : (t h z x y g i j : ℤ) → pos 2 *ℤ t ≡ (h *ℤ (z -ℤ (pos 2 *ℤ x))) -ℤ ((pos 2 *ℤ (y -ℤ x)) *ℤ g) → j *ℤ g ≡ i *ℤ h
    → (pos 2 *ℤ j) *ℤ (t *ℤ h) ≡ (h *ℤ h) *ℤ ((z *ℤ j) -ℤ (pos 2 *ℤ (((j -ℤ i) *ℤ x) +ℤ (i *ℤ y))))
height_at t h z x y g i j e same =
    by_two _ _ (pos 2 *ℤ t) ((h *ℤ (z -ℤ (pos 2 *ℤ x))) -ℤ ((pos 2 *ℤ (y -ℤ x)) *ℤ g)) (j *ℤ h) (j *ℤ g) (i *ℤ h) (pos 0 -ℤ ((pos 2 *ℤ (y -ℤ x)) *ℤ h))
    (ring (t ∷ h ∷ z ∷ x ∷ y ∷ g ∷ i ∷ j ∷ [])
    (((con (pos 2) ⊗ var 7) ⊗ (var 0 ⊗ var 1)) ⊖ ((var 1 ⊗ var 1) ⊗ ((var 2 ⊗ var 7) ⊖ (con (pos 2) ⊗ (((var 7 ⊖ var 6) ⊗ var 3) ⊕ (var 6 ⊗ var 4))))))
    ((((con (pos 2) ⊗ var 0) ⊖ ((var 1 ⊗ (var 2 ⊖ (con (pos 2) ⊗ var 3))) ⊖ ((con (pos 2) ⊗ (var 4 ⊖ var 3)) ⊗ var 5))) ⊗ (var 7 ⊗ var 1))
    ⊕ (((var 7 ⊗ var 5) ⊖ (var 6 ⊗ var 1)) ⊗ (con (pos 0) ⊖ ((con (pos 2) ⊗ (var 4 ⊖ var 3)) ⊗ var 1)))) refl) e same

-- ---- marks
pub mark-is : (k : Side) (z : ℤ) → mark k z ≡ worth (is_marked k z)
mark-is to_left (pos zero) = refl
mark-is to_left (pos (suc n)) = sym (ap worth (lt_z_of_less (pos 0) (pos (suc n)) (omega (arith, ints))))
mark-is to_left (negsuc n) = refl
mark-is to_right (pos n) = sym (ap (λ v. worth (cond v false true)) (lt_z_of_at_most (pos n) (pos 0) (natural_not_negative n)))
mark-is to_right (negsuc n) = refl

marked_alike : (k : Side) (w x y : ℤ) → pos 0 <ℤ w → x ≡ w *ℤ y → is_marked k x ≡ is_marked k y
marked_alike k w x y there e = by k (same_sign (pos 1) x w y (omega (arith, ints)) there (ring (x ∷ []) (con (pos 1) ⊗ var 0) (var 0) refl ∙ e))
  where
    by : (k : Side) → (lt_z (pos 0) x ≡ lt_z (pos 0) y) × (lt_z x (pos 0) ≡ lt_z y (pos 0)) → is_marked k x ≡ is_marked k y
    by to_left h = h.0
    by to_right h = ap (λ v. cond v false true) h.1

differ_of : (v w : Bool) → (worth v -ℤ worth w ≡ pos 0 → ⊥) → Differ v w
differ_of false false h = h refl
differ_of true true h = h refl
differ_of false true h = tt
differ_of true false h = tt

marks_rise : (k : Side) (y y' : ℤ) → is_marked k y ≡ false → is_marked k y' ≡ true → (y ≤ℤ pos 0) × (pos 0 ≤ℤ y') × (y <ℤ y')
marks_rise to_left y y' e f = (omega (arith, ints), omega (arith, ints), omega (arith, ints))
marks_rise to_right y y' e f = by (lt_z y (pos 0)) (lt_z y' (pos 0)) refl refl e f
  where
    by : (v w : Bool) → lt_z y (pos 0) ≡ v → lt_z y' (pos 0) ≡ w → cond v false true ≡ false → cond w false true ≡ true → (y ≤ℤ pos 0) × (pos 0 ≤ℤ y') × (y <ℤ y')
    by false w g h e f = absurd (false≢true (sym e))
    by true true g h e f = absurd (false≢true f)
    by true false g h e f = (omega (arith, ints), omega (arith, ints), omega (arith, ints))

gap_test : (x y : ℤ) → lt_z (pos 0) (y -ℤ x) ≡ lt_z x y
gap_test x y = same_test (pos 0) (y -ℤ x) x y (λ h g. omega (arith, ints)) (λ h g. omega (arith, ints))

lever_apart : (y z w v : ℤ) → pos 0 <ℤ w → pos 0 <ℤ v → y ≤ℤ pos 0 → pos 0 ≤ℤ z → y <ℤ z → pos 0 <ℤ ((z *ℤ w) -ℤ (y *ℤ v))
lever_apart y z w v w_there v_there low high more = by_lt_z (pos 0) z
    (λ p. first (z *ℤ w) (y *ℤ v) (mul_pos z w p w_there) (mul_nonpos_first y v low (at_most_of_less _ _ v_there)))
    (λ p. second (z *ℤ w) (y *ℤ v) (mul_nonneg z w high (at_most_of_less _ _ w_there)) (times (y *ℤ v) (v *ℤ y) (ring (y ∷ v ∷ []) (var 0 ⊗ var 1) (var 1 ⊗ var 0) refl) (mul_neg v y v_there (below p))))
  where
    below : z ≤ℤ pos 0 → y <ℤ pos 0
    below p = omega (arith, ints)

    times : (x x' : ℤ) → x ≡ x' → x' <ℤ pos 0 → x <ℤ pos 0
    times x x' e h = omega (arith, ints)

    first : (x x' : ℤ) → pos 0 <ℤ x → x' ≤ℤ pos 0 → pos 0 <ℤ (x -ℤ x')
    first x x' h g = omega (arith, ints)

    second : (x x' : ℤ) → pos 0 ≤ℤ x → x' <ℤ pos 0 → pos 0 <ℤ (x -ℤ x')
    second x x' h g = omega (arith, ints)

-- ---- a border's place between two others
-- the border crosses the edge at a place between n / m and n' / m', and the edge's point there is beyond the plane
pub record HasPlaceBetween (c : Plane) {s : Part} (e : Edge s) (f : Face s) (n m n' m' : ℤ) : Type 0 where
  pub i : ℤ
  pub j : ℤ
  pub there : pos 0 <ℤ j
  pub after : (n *ℤ j) <ℤ (i *ℤ m)
  pub before : (i *ℤ m') <ℤ (n' *ℤ j)
  pub beyond : IsBeyond c (share_point e.a e.b i j)
  pub crosses : CrossesAt c f e i j

some_of : (i j : ℤ) → pos 0 ≤ℤ i → pos 0 ≤ℤ j → pos 0 <ℤ (i +ℤ j) → 0 < unsigned_abs i + unsigned_abs j
some_of i j h g q = omega (arith, ints)

alike : (x y x' y' w z : ℤ) (m n : ℕ) (i j : ℤ) → pos m ≡ i → pos n ≡ j → ((i *ℤ x) +ℤ (j *ℤ y)) *ℤ w ≡ z *ℤ ((i *ℤ x') +ℤ (j *ℤ y'))
    → ((pos m *ℤ x) +ℤ (pos n *ℤ y)) *ℤ w ≡ z *ℤ ((pos m *ℤ x') +ℤ (pos n *ℤ y'))
alike x y x' y' w z m n i j e g h =
    (λ t. ((e t *ℤ x) +ℤ (g t *ℤ y)) *ℤ w) ∙ h ∙ sym (λ t. z *ℤ ((e t *ℤ x') +ℤ (g t *ℤ y')))

-- ---- the two lines
abbrev seen_at : Expr → Expr → Expr → Seen
seen_at u v w = record { u = u; v = v; w = w }

module _ (c : Plane) {s : Part} (f : Face s) (p q : Point) (ends : IsBorderOf c f p q) (e : Edge s) where
  abbrev d : Triple
  d = toward_of c

  abbrev A : Sight
  A = sight_of d (point_of e.a)

  abbrev B : Sight
  B = sight_of d (point_of e.b)

  abbrev K : Sight
  K = sight_of d p

  abbrev L : Sight
  L = sight_of d q

  abbrev T : ℤ → ℤ → Sight
  T n m = sight_of d (share_point e.a e.b n m)

  abbrev W : ℤ
  W = p.w *ℤ q.w

  abbrev G : ℤ
  G = numerator_of (corner_with c p q e.a) (first_with c p q) (second_with c p q)

  abbrev H : ℤ
  H = denominator_of (corner_with c p q e.a) (corner_with c p q e.b) (first_with c p q) (second_with c p q)

  abbrev way : Triple
  way = difference e.a e.b

  abbrev step : Triple
  step = step_between p q

  are_ends : AreEnds c f.a f.b f.c p q
  are_ends = border_ends c f p q ends

  first_on : IsOnBorder c f p
  first_on = subst (IsOnBorder c f) (first_alone p q) (are_ends.on_face 1 0 (omega arith), are_ends.on_plane 1 0)

  second_on : IsOnBorder c f q
  second_on = subst (IsOnBorder c f) (second_alone p q) (are_ends.on_face 0 1 (omega arith), are_ends.on_plane 0 1)

  is_point : (r : Point) → IsPointOfFace f.a f.b f.c r → IsPoint r
  is_point r (i, j, n, some, is) = subst IsPoint (sym is) (natural_positive (i + j + n) some)

  p_there : pos 0 <ℤ p.w
  p_there = is_point p first_on.0

  q_there : pos 0 <ℤ q.w
  q_there = is_point q second_on.0

  scale : pos 0 <ℤ W
  scale = mul_pos p.w q.w p_there q_there

  -- the turn of a place, by the place of the crossing
  turn_at : (n m : ℤ) → W *ℤ turn_of K L (T n m) ≡ (m *ℤ G) -ℤ (n *ℤ H)
  turn_at n m =
      (λ t. W *ℤ turn_of K L (record { u = dot-share (right_axis d) e.a e.b n m t; v = dot-share (up_axis d) e.a e.b n m t; w = m }))
      ∙ ring (A.u ∷ A.v ∷ B.u ∷ B.v ∷ K.u ∷ K.v ∷ p.w ∷ L.u ∷ L.v ∷ q.w ∷ n ∷ m ∷ [])
      ((var 6 ⊗ var 9) ⊗ turns (seen_at (var 4) (var 5) (var 6)) (seen_at (var 7) (var 8) (var 9)) (seen_at (((var 11 ⊖ var 10) ⊗ var 0) ⊕ (var 10 ⊗ var 2)) (((var 11 ⊖ var 10) ⊗ var 1) ⊕ (var 10 ⊗ var 3)) (var 11)))
      ((var 11 ⊗ ((first_u ⊗ step_v) ⊖ (first_v ⊗ step_u))) ⊖ (var 10 ⊗ ((way_u ⊗ step_v) ⊖ (way_v ⊗ step_u)))) refl
    where
      big : Expr
      big = var 6 ⊗ var 9

      first_u : Expr
      first_u = (var 9 ⊗ var 4) ⊖ (big ⊗ var 0)

      first_v : Expr
      first_v = (var 9 ⊗ var 5) ⊖ (big ⊗ var 1)

      step_u : Expr
      step_u = (var 6 ⊗ var 7) ⊖ (var 9 ⊗ var 4)

      step_v : Expr
      step_v = (var 6 ⊗ var 8) ⊖ (var 9 ⊗ var 5)

      way_u : Expr
      way_u = (big ⊗ var 2) ⊖ (big ⊗ var 0)

      way_v : Expr
      way_v = (big ⊗ var 3) ⊖ (big ⊗ var 1)

  place_of_turn : (i j : ℤ) → turn_of K L (T i j) ≡ pos 0 → j *ℤ G ≡ i *ℤ H
  place_of_turn i j root = same_of_gap _ _ (sym (turn_at i j) ∙ ap (λ z. W *ℤ z) root ∙ ring (W ∷ []) (var 0 ⊗ con (pos 0)) (con (pos 0)) refl)

  turn_of_place : (i j : ℤ) → j *ℤ G ≡ i *ℤ H → turn_of K L (T i j) ≡ pos 0
  turn_of_place i j same = zero_of_mul W _ scale (turn_at i j ∙ nothing (j *ℤ G) (i *ℤ H) same)
    where
      nothing : (x y : ℤ) → x ≡ y → x -ℤ y ≡ pos 0
      nothing x y e = omega (arith, ints)

  -- ---- a point of the border over a place
  module _ (r : Point) (i j : ℤ) where
    mixed_turn : IsMixOf p q r → turn_of K L (sight_of d r) ≡ pos 0
    mixed_turn mix = zero_of_mul mix.k _ mix.positive
        (ring (K.u ∷ K.v ∷ K.w ∷ L.u ∷ L.v ∷ L.w ∷ across_of d r ∷ upward_of d r ∷ r.w ∷ mix.k ∷ [])
        (var 9 ⊗ turns (seen_at (var 0) (var 1) (var 2)) (seen_at (var 3) (var 4) (var 5)) (seen_at (var 6) (var 7) (var 8)))
        (turns (seen_at (var 0) (var 1) (var 2)) (seen_at (var 3) (var 4) (var 5)) (seen_at (var 9 ⊗ var 6) (var 9 ⊗ var 7) (var 9 ⊗ var 8))) refl
        ∙ sym (λ t. turn_of K L (record { u = mix_product (right_axis d) p q r mix t; v = mix_product (up_axis d) p q r mix t; w = mix.w t }))
        ∙ ring (K.u ∷ K.v ∷ K.w ∷ L.u ∷ L.v ∷ L.w ∷ pos mix.i ∷ pos mix.j ∷ [])
        (turns (seen_at (var 0) (var 1) (var 2)) (seen_at (var 3) (var 4) (var 5)) (seen_at ((var 6 ⊗ var 0) ⊕ (var 7 ⊗ var 3)) ((var 6 ⊗ var 1) ⊕ (var 7 ⊗ var 4)) ((var 6 ⊗ var 2) ⊕ (var 7 ⊗ var 5))))
        (con (pos 0)) refl)

    times_sight : (x : Sight) (k : ℤ) → k *ℤ turn_of K L x ≡ turn_of K L (record { u = x.u *ℤ k; v = x.v *ℤ k; w = x.w *ℤ k })
    times_sight x k = ring (K.u ∷ K.v ∷ K.w ∷ L.u ∷ L.v ∷ L.w ∷ x.u ∷ x.v ∷ x.w ∷ k ∷ [])
        (var 9 ⊗ turns (seen_at (var 0) (var 1) (var 2)) (seen_at (var 3) (var 4) (var 5)) (seen_at (var 6) (var 7) (var 8)))
        (turns (seen_at (var 0) (var 1) (var 2)) (seen_at (var 3) (var 4) (var 5)) (seen_at (var 6 ⊗ var 9) (var 7 ⊗ var 9) (var 8 ⊗ var 9))) refl

    turn_of_sight : IsPoint r → OnOneSight d r (share_point e.a e.b i j) → turn_of K L (sight_of d r) ≡ pos 0 → turn_of K L (T i j) ≡ pos 0
    turn_of_sight positive sight nil = zero_of_mul r.w _ positive
        (times_sight (T i j) r.w
        ∙ sym (λ t. turn_of K L (record { u = sight.across t; v = sight.upward t; w = swap r.w j t }))
        ∙ sym (times_sight (sight_of d r) j)
        ∙ ap (λ z. j *ℤ z) nil
        ∙ ring (j ∷ []) (var 0 ⊗ con (pos 0)) (con (pos 0)) refl)
      where
        swap : (x y : ℤ) → x *ℤ y ≡ y *ℤ x
        swap x y = ring (x ∷ y ∷ []) (var 0 ⊗ var 1) (var 1 ⊗ var 0) refl

  pub root_of_crossing : (i j : ℤ) → CrossesAt c f e i j → turn_of K L (T i j) ≡ pos 0
  root_of_crossing i j crosses =
      let (r, on, sight) = crosses.passes in
      turn_of_sight r i j (is_point r on.0) sight (mixed_turn r i j (are_ends.within r on.0 on.1))

  -- ---- how the turn changes along the edge
  step_product : (x : Triple) → dot x step ≡ (dot x (scaled q) *ℤ p.w) -ℤ (dot x (scaled p) *ℤ q.w)
  step_product x =
      ring (x.x ∷ x.y ∷ x.z ∷ p.x ∷ p.y ∷ p.z ∷ p.w ∷ q.x ∷ q.y ∷ q.z ∷ q.w ∷ [])
      (dots (letters 0) (record { x = (var 7 ⊗ var 6) ⊖ (var 3 ⊗ var 10); y = (var 8 ⊗ var 6) ⊖ (var 4 ⊗ var 10); z = (var 9 ⊗ var 6) ⊖ (var 5 ⊗ var 10) }))
      ((dots (letters 0) (letters 7) ⊗ var 6) ⊖ (dots (letters 0) (letters 3) ⊗ var 10)) refl

  denominator_is : H ≡ W *ℤ (dot (right_axis d) (right_axis d) *ℤ det d way step)
  denominator_is =
      ring (A.u ∷ A.v ∷ B.u ∷ B.v ∷ K.u ∷ K.v ∷ p.w ∷ L.u ∷ L.v ∷ q.w ∷ [])
      ((((big ⊗ var 2) ⊖ (big ⊗ var 0)) ⊗ ((var 6 ⊗ var 8) ⊖ (var 9 ⊗ var 5))) ⊖ (((big ⊗ var 3) ⊖ (big ⊗ var 1)) ⊗ ((var 6 ⊗ var 7) ⊖ (var 9 ⊗ var 4))))
      (big ⊗ ((((var 8 ⊗ var 6) ⊖ (var 5 ⊗ var 9)) ⊗ (var 2 ⊖ var 0)) ⊖ (((var 7 ⊗ var 6) ⊖ (var 4 ⊗ var 9)) ⊗ (var 3 ⊖ var 1)))) refl
      ∙ sym (λ t. W *ℤ ((step_product (up_axis d) t *ℤ dot_difference (right_axis d) e.a e.b t) -ℤ (step_product (right_axis d) t *ℤ dot_difference (up_axis d) e.a e.b t)))
      ∙ ap (λ z. W *ℤ z) (seen_det d (right_axis d) way step (right_axis-is d).level)
    where
      big : Expr
      big = var 6 ⊗ var 9

  runs : IsZero (cross step (step_of c (border f)))
  runs = border_runs c f p q first_on second_on

  -- a border is seen to cross the edge's line where the ways of both are not parallel
  none_of_step : det d way step ≡ pos 0 → H ≡ pos 0
  none_of_step e = denominator_is ∙ ap (λ z. W *ℤ (dot (right_axis d) (right_axis d) *ℤ z)) e ∙ ring (W ∷ dot (right_axis d) (right_axis d) ∷ []) (var 0 ⊗ (var 1 ⊗ con (pos 0))) (con (pos 0)) refl

  step_of_none : H ≡ pos 0 → det d way step ≡ pos 0
  step_of_none e = zero_of_mul (dot (right_axis d) (right_axis d)) _ (right_axis-is d).square (zero_of_mul W _ scale (sym denominator_is ∙ e))

  module _ (whole : ¬ IsFlat f.a f.b f.c) where
    not_at_one_place : ¬ IsZero step
    not_at_one_place nil = border_apart c f p q ends whole (record {
      across = sym (same_of_gap _ _ (sym (step_product (right_axis d)) ∙ zero_dot (right_axis d) step nil));
      upward = sym (same_of_gap _ _ (sym (step_product (up_axis d)) ∙ zero_dot (up_axis d) step nil));
    })

    some_direction : ¬ IsZero (step_of c (border f))
    some_direction nil = some_border c apex.k apex.l apex.t apex.alone (λ flat. whole (subst IsZero apex.same_normal flat)) (across (right_axis d)) (across (up_axis d))
      where
        apex : Apex c f
        apex = apex_of c f p first_on

        across : (r : Triple) → dot r (cross d (normal apex.k apex.l apex.t)) ≡ pos 0
        across r = ap (λ n. dot r (cross d n)) apex.same_normal ∙ zero_dot r (step_of c (border f)) nil

    slope_of_turns : det d way (step_of c (border f)) ≢ pos 0 → H ≢ pos 0
    slope_of_turns turns nil = turns (det_is d way (step_of c (border f)) ∙ other_product (cross d way) step (step_of c (border f)) runs not_at_one_place (sym (det_is d way step) ∙ step_of_none nil))

    turns_of_slope : H ≢ pos 0 → det d way (step_of c (border f)) ≢ pos 0
    turns_of_slope some parallel = some (none_of_step (det_is d way step ∙ first_product (cross d way) step (step_of c (border f)) runs some_direction (sym (det_is d way (step_of c (border f))) ∙ parallel)))

  -- ---- heights at the place of the crossing
  abbrev Z : ℤ
  Z = plane_height c *ℤ W

  abbrev depth : ℤ
  depth = depth_of (corner_with c p q e.a) (corner_with c p q e.b) (first_with c p q) (second_with c p q)

  first_height : pos 2 *ℤ (q.w *ℤ height_of d p) ≡ Z
  first_height = by_one _ _ (pos 2 *ℤ height_of d p) (plane_height c *ℤ p.w) q.w
      (ring (height_of d p ∷ plane_height c ∷ p.w ∷ q.w ∷ []) ((con (pos 2) ⊗ (var 3 ⊗ var 0)) ⊖ (var 1 ⊗ (var 2 ⊗ var 3))) (((con (pos 2) ⊗ var 0) ⊖ (var 1 ⊗ var 2)) ⊗ var 3) refl) first_on.1

  second_height : pos 2 *ℤ (p.w *ℤ height_of d q) ≡ Z
  second_height = by_one _ _ (pos 2 *ℤ height_of d q) (plane_height c *ℤ q.w) p.w
      (ring (height_of d q ∷ plane_height c ∷ p.w ∷ q.w ∷ []) ((con (pos 2) ⊗ (var 2 ⊗ var 0)) ⊖ (var 1 ⊗ (var 2 ⊗ var 3))) (((con (pos 2) ⊗ var 0) ⊖ (var 1 ⊗ var 3)) ⊗ var 2) refl) second_on.1

  module _ (i j : ℤ) (there : pos 0 <ℤ j) (root : turn_of K L (T i j) ≡ pos 0) (slope : H ≢ pos 0) where
    height_is : (pos 2 *ℤ j) *ℤ (depth *ℤ H) ≡ ((H *ℤ H) *ℤ W) *ℤ ((plane_height c *ℤ j) -ℤ (pos 2 *ℤ height_of d (share_point e.a e.b i j)))
    height_is =
        height_at depth H Z (W *ℤ height_of d (point_of e.a)) (W *ℤ height_of d (point_of e.b)) G i j
        (level_depth (corner_with c p q e.a) (corner_with c p q e.b) (first_with c p q) (second_with c p q) Z first_height second_height) (place_of_turn i j root)
        ∙ ring (H ∷ plane_height c ∷ W ∷ height_of d (point_of e.a) ∷ height_of d (point_of e.b) ∷ i ∷ j ∷ [])
        ((var 0 ⊗ var 0) ⊗ (((var 1 ⊗ var 2) ⊗ var 6) ⊖ (con (pos 2) ⊗ (((var 6 ⊖ var 5) ⊗ (var 2 ⊗ var 3)) ⊕ (var 5 ⊗ (var 2 ⊗ var 4))))))
        (((var 0 ⊗ var 0) ⊗ var 2) ⊗ ((var 1 ⊗ var 6) ⊖ (con (pos 2) ⊗ (((var 6 ⊖ var 5) ⊗ var 3) ⊕ (var 5 ⊗ var 4))))) refl
        ∙ sym (λ t. ((H *ℤ H) *ℤ W) *ℤ ((plane_height c *ℤ j) -ℤ (pos 2 *ℤ dot-share d e.a e.b i j t)))

    square_there : pos 0 <ℤ ((H *ℤ H) *ℤ W)
    square_there = mul_pos (H *ℤ H) W (square G H i j there (place_of_turn i j root) slope) scale

    nearer_is : pos 0 <ℤ (depth *ℤ H) ↔ IsBeyond c (share_point e.a e.b i j)
    nearer_is = (
      (λ near. less_by _ _ _ refl (pos_of_mul _ _ square_there (positive_at _ _ (sym height_is) (mul_pos (pos 2 *ℤ j) _ (twice_positive j there) near)))),
      (λ beyond. pos_of_mul _ _ (twice_positive j there) (positive_at _ _ height_is (mul_pos _ _ square_there (gap_of_less _ _ beyond)))),
    )

    pub crosses_is : (n m n' m' : ℤ) → Crosses (corner_with c p q e.a) (corner_with c p q e.b) (first_with c p q) (second_with c p q) n m n' m'
        ↔ (((n *ℤ j) <ℤ (i *ℤ m)) × ((i *ℤ m') <ℤ (n' *ℤ j)) × IsBeyond c (share_point e.a e.b i j))
    crosses_is n m n' m' =
        let same = place_of_turn i j root in (
          (λ x. ((after_is G H i j there same slope n m).0 x.after, (before_is G H i j there same slope n' m').0 x.before, nearer_is.0 x.nearer)),
          (λ (after, before, beyond). record { after = (after_is G H i j there same slope n m).1 after; before = (before_is G H i j there same slope n' m').1 before; nearer = nearer_is.1 beyond }),
        )

  -- ---- marks
  offset_product : (r : Triple) (x : Point) → dot r (offset e.a x) ≡ dot r (scaled x) -ℤ (x.w *ℤ dot r (scaled (point_of e.a)))
  offset_product r x =
      ring (r.x ∷ r.y ∷ r.z ∷ x.x ∷ x.y ∷ x.z ∷ x.w ∷ e.a.x ∷ e.a.y ∷ e.a.z ∷ [])
      (dots (letters 0) (record { x = var 3 ⊖ (var 6 ⊗ var 7); y = var 4 ⊖ (var 6 ⊗ var 8); z = var 5 ⊖ (var 6 ⊗ var 9) }))
      (dots (letters 0) (letters 3) ⊖ (var 6 ⊗ dots (letters 0) (letters 7))) refl

  side_turn : (x : Point) → turn_of A B (sight_of d x) ≡ dot (right_axis d) (right_axis d) *ℤ side_of d e.a e.b x
  side_turn x =
      ring (A.u ∷ A.v ∷ B.u ∷ B.v ∷ across_of d x ∷ upward_of d x ∷ x.w ∷ [])
      (turns (seen_at (var 0) (var 1) (con (pos 1))) (seen_at (var 2) (var 3) (con (pos 1))) (seen_at (var 4) (var 5) (var 6)))
      (((var 5 ⊖ (var 6 ⊗ var 1)) ⊗ (var 2 ⊖ var 0)) ⊖ ((var 4 ⊖ (var 6 ⊗ var 0)) ⊗ (var 3 ⊖ var 1))) refl
      ∙ sym (λ t. (offset_product (up_axis d) x t *ℤ dot_difference (right_axis d) e.a e.b t) -ℤ (offset_product (right_axis d) x t *ℤ dot_difference (up_axis d) e.a e.b t))
      ∙ seen_det d (right_axis d) way (offset e.a x) (right_axis-is d).level

  mark_at : (k : Side) (x : Point) → mark k (side_of d e.a e.b x) ≡ worth (is_marked k (turn_of A B (sight_of d x)))
  mark_at k x = mark-is k (side_of d e.a e.b x) ∙ sym (ap worth (marked_alike k (dot (right_axis d) (right_axis d)) _ _ (right_axis-is d).square (side_turn x)))

  pub marks_of_change : (k : Side) → mark_change k d e.a e.b p q ≢ pos 0 → Differ (is_marked k (turn_of A B K)) (is_marked k (turn_of A B L))
  marks_of_change k some = differ_of _ _ (λ nil. some ((λ t. mark_at k p t -ℤ mark_at k q t) ∙ nil))

  -- ---- before and after the crossing
  slope_is : H ≡ W *ℤ ((turn_of A B L *ℤ p.w) -ℤ (turn_of A B K *ℤ q.w))
  slope_is =
      ring (A.u ∷ A.v ∷ B.u ∷ B.v ∷ K.u ∷ K.v ∷ p.w ∷ L.u ∷ L.v ∷ q.w ∷ [])
      ((((big ⊗ var 2) ⊖ (big ⊗ var 0)) ⊗ ((var 6 ⊗ var 8) ⊖ (var 9 ⊗ var 5))) ⊖ (((big ⊗ var 3) ⊖ (big ⊗ var 1)) ⊗ ((var 6 ⊗ var 7) ⊖ (var 9 ⊗ var 4))))
      (big ⊗ ((turns first second (seen_at (var 7) (var 8) (var 9)) ⊗ var 6) ⊖ (turns first second (seen_at (var 4) (var 5) (var 6)) ⊗ var 9))) refl
    where
      big : Expr
      big = var 6 ⊗ var 9

      first : Seen
      first = seen_at (var 0) (var 1) (con (pos 1))

      second : Seen
      second = seen_at (var 2) (var 3) (con (pos 1))

  rising : turn_of A B K ≤ℤ pos 0 → pos 0 ≤ℤ turn_of A B L → turn_of A B K <ℤ turn_of A B L → pos 0 <ℤ H
  rising low high more = positive_at H _ slope_is (mul_pos W _ scale (lever_apart (turn_of A B K) (turn_of A B L) p.w q.w p_there q_there low high more))

  falling : pos 0 ≤ℤ turn_of A B K → turn_of A B L ≤ℤ pos 0 → turn_of A B L <ℤ turn_of A B K → pos 0 <ℤ (pos 0 -ℤ H)
  falling low high more = positive_at (pos 0 -ℤ H) _ (ap (λ z. pos 0 -ℤ z) slope_is ∙ ring (W ∷ turn_of A B K ∷ turn_of A B L ∷ p.w ∷ q.w ∷ []) (con (pos 0) ⊖ (var 0 ⊗ ((var 2 ⊗ var 3) ⊖ (var 1 ⊗ var 4)))) (var 0 ⊗ ((var 1 ⊗ var 4) ⊖ (var 2 ⊗ var 3))) refl)
      (mul_pos W _ scale (lever_apart (turn_of A B L) (turn_of A B K) q.w p.w q_there p_there high low more))

  module _ (k : Side) (n m i j : ℤ) (there : pos 0 <ℤ j) (root : turn_of K L (T i j) ≡ pos 0) where
    turn_is : (j *ℤ W) *ℤ turn_of K L (T n m) ≡ H *ℤ ((i *ℤ m) -ℤ (n *ℤ j))
    turn_is = by_two _ _ (W *ℤ turn_of K L (T n m)) ((m *ℤ G) -ℤ (n *ℤ H)) j (j *ℤ G) (i *ℤ H) m
        (ring (j ∷ W ∷ turn_of K L (T n m) ∷ H ∷ i ∷ m ∷ n ∷ G ∷ [])
        (((var 0 ⊗ var 1) ⊗ var 2) ⊖ (var 3 ⊗ ((var 4 ⊗ var 5) ⊖ (var 6 ⊗ var 0))))
        ((((var 1 ⊗ var 2) ⊖ ((var 5 ⊗ var 7) ⊖ (var 6 ⊗ var 3))) ⊗ var 0) ⊕ (((var 0 ⊗ var 7) ⊖ (var 4 ⊗ var 3)) ⊗ var 5)) refl) (turn_at n m) (place_of_turn i j root)

    after_test : lt_z (pos 0) ((i *ℤ m) -ℤ (n *ℤ j)) ≡ lt_z (n *ℤ j) (i *ℤ m)
    after_test = gap_test (n *ℤ j) (i *ℤ m)

    turned_gap : H *ℤ ((i *ℤ m) -ℤ (n *ℤ j)) ≡ (pos 0 -ℤ H) *ℤ (pos 0 -ℤ ((i *ℤ m) -ℤ (n *ℤ j)))
    turned_gap = ring (H ∷ (i *ℤ m) ∷ (n *ℤ j) ∷ []) (var 0 ⊗ (var 1 ⊖ var 2)) ((con (pos 0) ⊖ var 0) ⊗ (con (pos 0) ⊖ (var 1 ⊖ var 2))) refl

    up_test : turn_of A B K ≤ℤ pos 0 → pos 0 ≤ℤ turn_of A B L → turn_of A B K <ℤ turn_of A B L → lt_z (pos 0) (turn_of K L (T n m)) ≡ lt_z (n *ℤ j) (i *ℤ m)
    up_test low high more = (same_sign (j *ℤ W) (turn_of K L (T n m)) H ((i *ℤ m) -ℤ (n *ℤ j)) (mul_pos j W there scale) (rising low high more) turn_is).0 ∙ after_test

    down_test : pos 0 ≤ℤ turn_of A B K → turn_of A B L ≤ℤ pos 0 → turn_of A B L <ℤ turn_of A B K → lt_z (turn_of K L (T n m)) (pos 0) ≡ lt_z (n *ℤ j) (i *ℤ m)
    down_test low high more = (other_sign (j *ℤ W) (turn_of K L (T n m)) (pos 0 -ℤ H) ((i *ℤ m) -ℤ (n *ℤ j)) (mul_pos j W there scale) (falling low high more) (turn_is ∙ turned_gap)).1 ∙ after_test

    -- a border whose ends have different marks crosses the edge's line after a place exactly if its own place is after that
    pub ahead_is : Differ (is_marked k (turn_of A B K)) (is_marked k (turn_of A B L)) → is_ahead k A B (T n m) K L ≡ lt_z (n *ℤ j) (i *ℤ m)
    ahead_is differ = by (is_marked k (turn_of A B K)) (is_marked k (turn_of A B L)) refl refl differ
      where
        by : (v w : Bool) → is_marked k (turn_of A B K) ≡ v → is_marked k (turn_of A B L) ≡ w → Differ v w → counts v w (turn_of K L (T n m)) ≡ lt_z (n *ℤ j) (i *ℤ m)
        by false false g h differ = absurd differ
        by true true g h differ = absurd differ
        by false true g h differ = let (low, high, more) = marks_rise k _ _ g h in up_test low high more
        by true false g h differ = let (low, high, more) = marks_rise k _ _ h g in down_test high low more

  pub never_ahead : (k : Side) (n m : ℤ) → is_marked k (turn_of A B K) ≡ is_marked k (turn_of A B L) → is_ahead k A B (T n m) K L ≡ false
  never_ahead k n m same = ap (λ v. counts v (is_marked k (turn_of A B L)) (turn_of K L (T n m))) same ∙ by (is_marked k (turn_of A B L))
    where
      by : (v : Bool) → counts v v (turn_of K L (T n m)) ≡ false
      by false = refl
      by true = refl

  -- ---- a crossing of the line, and the border's own
  -- where the border's line crosses the edge's at a place and the border's ends have different marks, the border does so
  module _ (whole : ¬ IsFlat f.a f.b f.c) (k : Side) (differ : Differ (is_marked k (turn_of A B K)) (is_marked k (turn_of A B L))) (i j : ℤ) (there : pos 0 <ℤ j) (root : turn_of K L (T i j) ≡ pos 0) (slope : H ≢ pos 0) where
    crosses_at : CrossesAt c f e i j
    crosses_at = record {
      passes = (
        r,
        (are_ends.on_face m n some, are_ends.on_plane m n),
        record {
          across = ap (λ x. x *ℤ j) (product_of_sum (right_axis d) (pos m) (pos n) p q) ∙ alike K.u L.u K.w L.w j (T i j).u m n on.i on.j (abs_of_not_negative on.i on.i_least) (abs_of_not_negative on.j on.j_least) on.same_u;
          upward = ap (λ x. x *ℤ j) (product_of_sum (up_axis d) (pos m) (pos n) p q) ∙ alike K.v L.v K.w L.w j (T i j).v m n on.i on.j (abs_of_not_negative on.i on.i_least) (abs_of_not_negative on.j on.j_least) on.same_v;
        },
      );
      turns = turns_of_slope whole slope;
    }
      where
        on : IsOnWay K L (T i j)
        on = on_way_of_marks A B (T i j) K L there (on_line d e i j) k differ root

        m : ℕ
        m = unsigned_abs on.i

        n : ℕ
        n = unsigned_abs on.j

        some : 0 < m + n
        some = some_of on.i on.j on.i_least on.j_least on.some

        r : Point
        r = weighted_sum (pos m) p (pos n) q

  slope_of_marks : (k : Side) → Differ (is_marked k (turn_of A B K)) (is_marked k (turn_of A B L)) → H ≢ pos 0
  slope_of_marks k differ nil = by (marks_differ k (turn_of A B K) (turn_of A B L) differ)
    where
      up : (h : ℤ) → h ≡ pos 0 → pos 0 <ℤ h → ⊥
      up h e g = omega (arith, ints)

      down : (h : ℤ) → h ≡ pos 0 → pos 0 <ℤ (pos 0 -ℤ h) → ⊥
      down h e g = omega (arith, ints)

      by : AreMarked (turn_of A B K) (turn_of A B L) → ⊥
      by (rise low high more) = up H nil (rising low high more)
      by (fall low high more) = down H nil (falling low high more)

  -- a border whose ends have different marks has a place on the edge's line
  pub place_of_marks : (k : Side) → Differ (is_marked k (turn_of A B K)) (is_marked k (turn_of A B L)) → (i : ℤ) × (j : ℤ) × (pos 0 <ℤ j) × (turn_of K L (T i j) ≡ pos 0)
  place_of_marks k differ = (
    G *ℤ H,
    H *ℤ H,
    positive_square H (slope_of_marks k differ),
    turn_of_place (G *ℤ H) (H *ℤ H) (ring (G ∷ H ∷ []) ((var 1 ⊗ var 1) ⊗ var 0) ((var 0 ⊗ var 1) ⊗ var 1) refl),
  )

  -- and crosses it there
  pub crossing_of_root : ¬ IsFlat f.a f.b f.c → (k : Side) → Differ (is_marked k (turn_of A B K)) (is_marked k (turn_of A B L)) → (i j : ℤ) → pos 0 <ℤ j → turn_of K L (T i j) ≡ pos 0 → CrossesAt c f e i j
  crossing_of_root whole k differ i j there root = crosses_at whole k differ i j there root (slope_of_marks k differ)

  pub change_of_marks : (k : Side) → Differ (is_marked k (turn_of A B K)) (is_marked k (turn_of A B L)) → mark_change k d e.a e.b p q ≢ pos 0
  change_of_marks k differ nil = apart_worth (is_marked k (turn_of A B K)) (is_marked k (turn_of A B L)) differ (sym (λ t. mark_at k p t -ℤ mark_at k q t) ∙ nil)
    where
      apart_worth : (v w : Bool) → Differ v w → worth v -ℤ worth w ≡ pos 0 → ⊥
      apart_worth false false differ h = differ
      apart_worth true true differ h = differ
      apart_worth false true differ h = omega (arith, ints)
      apart_worth true false differ h = omega (arith, ints)

  -- where the border crosses between two places and changes a mark, it has a place there
  pub place_of_crosses : ¬ IsFlat f.a f.b f.c → (k : Side) → Differ (is_marked k (turn_of A B K)) (is_marked k (turn_of A B L)) → (n m n' m' : ℤ)
      → Crosses (corner_with c p q e.a) (corner_with c p q e.b) (first_with c p q) (second_with c p q) n m n' m' → HasPlaceBetween c e f n m n' m'
  place_of_crosses whole k differ n m n' m' crosses = record {
    i = G *ℤ H;
    j = H *ℤ H;
    there = square_h;
    after = is.0;
    before = is.1;
    beyond = is.2;
    crosses = crosses_at whole k differ (G *ℤ H) (H *ℤ H) square_h root slope;
  }
    where
      slope : H ≢ pos 0
      slope nil = nothing (n *ℤ (H *ℤ H)) ((G *ℤ H) *ℤ m) (left H n nil) (right G H m nil) crosses.after
        where
          left : (h n : ℤ) → h ≡ pos 0 → n *ℤ (h *ℤ h) ≡ pos 0
          left h n e = ap (λ z. n *ℤ (z *ℤ z)) e ∙ ring (n ∷ []) (var 0 ⊗ (con (pos 0) ⊗ con (pos 0))) (con (pos 0)) refl

          right : (g h m : ℤ) → h ≡ pos 0 → (g *ℤ h) *ℤ m ≡ pos 0
          right g h m e = ap (λ z. (g *ℤ z) *ℤ m) e ∙ ring (g ∷ m ∷ []) ((var 0 ⊗ con (pos 0)) ⊗ var 1) (con (pos 0)) refl

          nothing : (x y : ℤ) → x ≡ pos 0 → y ≡ pos 0 → x <ℤ y → ⊥
          nothing x y e f h = omega (arith, ints)

      square_h : pos 0 <ℤ (H *ℤ H)
      square_h = positive_square H slope

      root : turn_of K L (T (G *ℤ H) (H *ℤ H)) ≡ pos 0
      root = turn_of_place (G *ℤ H) (H *ℤ H) (ring (G ∷ H ∷ []) ((var 1 ⊗ var 1) ⊗ var 0) ((var 0 ⊗ var 1) ⊗ var 1) refl)

      is : ((n *ℤ (H *ℤ H)) <ℤ ((G *ℤ H) *ℤ m)) × (((G *ℤ H) *ℤ m') <ℤ (n' *ℤ (H *ℤ H))) × IsBeyond c (share_point e.a e.b (G *ℤ H) (H *ℤ H))
      is = (crosses_is (G *ℤ H) (H *ℤ H) square_h root slope n m n' m').0 crosses

  -- where it has a place there, it crosses there
  pub crosses_of_place : ¬ IsFlat f.a f.b f.c → (n m n' m' : ℤ) → HasPlaceBetween c e f n m n' m' → Crosses (corner_with c p q e.a) (corner_with c p q e.b) (first_with c p q) (second_with c p q) n m n' m'
  crosses_of_place whole n m n' m' at =
      (crosses_is at.i at.j at.there (root_of_crossing at.i at.j at.crosses) (slope_of_turns whole at.crosses.turns) n m n' m').1 (at.after, at.before, at.beyond)

-- ---- a border that changes a mark
-- it crosses between the places exactly if its own place is between them
pub place_between : (k : Side) (c : Plane) {s : Part} (e : Edge s) (f : Face s) (n m n' m' change : ℤ) → ¬ IsFlat f.a f.b f.c → HasBorderChange k c e f change → change ≢ pos 0
    → BorderCrosses c e f n m n' m' ↔ HasPlaceBetween c e f n m n' m'
place_between k c e f n m n' m' change whole (none uncrossed) some = absurd (some refl)
place_between k c e f n m n' m' change whole (along p q ends) some = (
  (λ x.
      let one = one_border c f p q x.p x.q ends x.border in
      place_of_crosses c f x.p x.q x.border e whole k (subst (λ (y : Point). Differ (is_marked k (mark_turn x.p)) (is_marked k (mark_turn y))) one.1 (subst (λ (y : Point). Differ (is_marked k (mark_turn y)) (is_marked k (mark_turn q))) one.0 (marks_of_change c f p q ends e k some))) n m n' m' x.crosses),
  (λ at. record { p = p; q = q; border = ends; crosses = crosses_of_place c f p q ends e whole n m n' m' at }),
)
  where
    mark_turn : Point → ℤ
    mark_turn x = turn_of (sight_of (toward_of c) (point_of e.a)) (sight_of (toward_of c) (point_of e.b)) (sight_of (toward_of c) x)

-- ---- between two places beyond the plane the edge is beyond it
pub beyond_between : (c : Plane) {s : Part} (e : Edge s) (n m n' m' i j : ℤ) → pos 0 <ℤ m → (n *ℤ m') <ℤ (n' *ℤ m) → (n *ℤ j) <ℤ (i *ℤ m) → (i *ℤ m') <ℤ (n' *ℤ j)
    → IsBeyond c (share_point e.a e.b n m) → IsBeyond c (share_point e.a e.b n' m') → IsBeyond c (share_point e.a e.b i j)
beyond_between c e n m n' m' i j there order after before first second =
    less_by _ _ _ refl (pos_of_mul ((n' *ℤ m) -ℤ (n *ℤ m')) _ (gap_of_less _ _ order)
    (positive_at _ _ levers (sum_positive_first _ _ (mul_pos ((n' *ℤ j) -ℤ (i *ℤ m')) _ (gap_of_less _ _ before) (gap_of_less _ _ first)) (at_most_of_less _ _ (mul_pos ((i *ℤ m) -ℤ (n *ℤ j)) _ (gap_of_less _ _ after) (gap_of_less _ _ second))))))
  where
    d : Triple
    d = toward_of c

    under : ℤ → ℤ → ℤ
    under n m = (plane_height c *ℤ m) -ℤ (pos 2 *ℤ height_of d (share_point e.a e.b n m))

    a : ℤ
    a = height_of d (point_of e.a)

    b : ℤ
    b = height_of d (point_of e.b)

    under_is : (n m : ℤ) → under n m ≡ (plane_height c *ℤ m) -ℤ (pos 2 *ℤ (((m -ℤ n) *ℤ a) +ℤ (n *ℤ b)))
    under_is n m = λ t. (plane_height c *ℤ m) -ℤ (pos 2 *ℤ dot-share d e.a e.b n m t)

    levers : ((n' *ℤ m) -ℤ (n *ℤ m')) *ℤ under i j ≡ (((n' *ℤ j) -ℤ (i *ℤ m')) *ℤ under n m) +ℤ (((i *ℤ m) -ℤ (n *ℤ j)) *ℤ under n' m')
    levers =
        (λ t. ((n' *ℤ m) -ℤ (n *ℤ m')) *ℤ under_is i j t)
        ∙ ring (plane_height c ∷ a ∷ b ∷ n ∷ m ∷ n' ∷ m' ∷ i ∷ j ∷ [])
        (((var 5 ⊗ var 4) ⊖ (var 3 ⊗ var 6)) ⊗ below (var 7) (var 8))
        ((((var 5 ⊗ var 8) ⊖ (var 7 ⊗ var 6)) ⊗ below (var 3) (var 4)) ⊕ (((var 7 ⊗ var 4) ⊖ (var 3 ⊗ var 8)) ⊗ below (var 5) (var 6))) refl
        ∙ sym (λ t. (((n' *ℤ j) -ℤ (i *ℤ m')) *ℤ under_is n m t) +ℤ (((i *ℤ m) -ℤ (n *ℤ j)) *ℤ under_is n' m' t))
      where
        below : Expr → Expr → Expr
        below n m = (var 0 ⊗ m) ⊖ (con (pos 2) ⊗ (((m ⊖ n) ⊗ var 1) ⊕ (n ⊗ var 2)))
