-- With one corner before the plane, what is left of a face counts as the face does less the triangle that is taken away.
use Rattle.std.proofs.Common.{◌≡◌, ◌⊎◌, inl, inr, [], ◌∷◌, refl, sym, ap, subst, ◌∙◌, arith}
use Rattle.std.specs.Prelude.{◌↔◌, ℤ, pos, ◌+ℤ◌, ◌-ℤ◌, ◌*ℤ◌, ◌≤ℤ◌, ◌<ℤ◌}
use Rattle.std.proofs.lemmas.Int.{ints, by_lt_z}
use Rattle.integers.proofs.Comparisons.{positive_at, not_negative_at}
use Rattle.integers.proofs.Ring.{Expr, var, con, ◌⊕◌, ◌⊖◌, ◌⊗◌, ring}
use Rattle.integers.proofs.Signs.{mul_pos, mul_neg, mul_nonneg, mul_nonpos, pos_of_mul, zero_of_mul, mul_two_neg}
use Rattle.lattice.specs.declared.points.Corner.{Corner}
use Rattle.lattice.specs.Cuts.{Plane, toward_of}
use Rattle.geometry.specs.Cuts.{over_of, crossing_of}
use Rattle.geometry.specs.Parts.{Part, Face, Edge}
use Rattle.geometry.proofs.Borders.{over_beyond, over_before}
use Rattle.hiding_laws.proofs.Screens.{Screen, area_of, turn_of, Covers}
use Rattle.geometry.specs.Counts.{Side, to_left, to_right}
use Rattle.hiding_laws.specs.inner.Tallies.{IsTally}
use Rattle.hiding_laws.specs.inner.Tallies.{yes, no}
use Rattle.hiding_laws.proofs.Places.{place_of}
use Rattle.hiding_laws.proofs.Seen.{on}
use Rattle.hiding_laws.proofs.Shares.{IsClearOf, IsOnSide, Adds, CountsAt}
use Rattle.hiding_laws.proofs.Sides.{tally_of, same_tally, denominator-areas}
use Rattle.hiding_laws.proofs.Signs.{weak, weak_neg, up, neg_at, sign_cases, clash, clash_zero, clash_neg}
use Rattle.hiding_laws.proofs.OneFace.{none_tally}
use Rattle.cut_count_laws.specs.CutCovers.{RestOfSideReaches, RestReachesTo}
use Rattle.cut_count_laws.proofs.Rests.{RestCounts, AreInOrder, grown, corner_with, first_with, second_with}
use Rattle.cut_count_laws.proofs.Laws.{DifferenceLaw}
use Rattle.cut_count_laws.proofs.Parts.{toward, part_covers, covers_of_part}
use Rattle.cut_count_laws.proofs.CoverWeights.{balance, evenly}
use Rattle.cut_count_laws.proofs.CornerSides.{corner_whole, rest_whole, whole_rest, whole_corner, even_ends, opposite, both_none}
use Rattle.cut_count_laws.proofs.RestCovers.{over_sum, CoversNotBefore, side_from, side_of_from, covers_at_place, rest_at_place}
use Rattle.cut_count_laws.proofs.RestSides.{value, cut_value, sided_sum, reaches_whole, reaches_going, reaches_back}
use Rattle.cut_count_laws.proofs.CornerScreens.{far, far_before, far_beyond, far_pos_before, far_pos_beyond, scale_of, first_of, second_of, first_is, second_is, on_side_is, corner_side, first_side, second_side, first_area, second_area}
use Rattle.cut_count_laws.proofs.FaceBorder.{border_one}
use Rattle.cut_count_laws.proofs.CornerRest.{whole_some, turned_of, part_some, some_of_part, PartSides, AddsPart, sum_up}
use Rattle.hiding_laws.proofs.Near.{tilt}

-- the turn of a place to the cut's two ends
turn_cut : (x y z s : Screen) (ξ η ζ : ℤ)
    → turn_of record { u = (η +ℤ ξ) *ℤ (ζ +ℤ ξ) *ℤ s.u; v = (η +ℤ ξ) *ℤ (ζ +ℤ ξ) *ℤ s.v; h = pos 0; w = s.w }
    record { u = ((((η +ℤ ξ) *ℤ (ζ +ℤ ξ)) -ℤ ((ζ +ℤ ξ) *ℤ ξ)) *ℤ x.u) +ℤ (((ζ +ℤ ξ) *ℤ ξ) *ℤ y.u); v = ((((η +ℤ ξ) *ℤ (ζ +ℤ ξ)) -ℤ ((ζ +ℤ ξ) *ℤ ξ)) *ℤ x.v) +ℤ (((ζ +ℤ ξ) *ℤ ξ) *ℤ y.v); h = pos 0; w = pos 1 }
    record { u = ((((η +ℤ ξ) *ℤ (ζ +ℤ ξ)) -ℤ ((η +ℤ ξ) *ℤ ξ)) *ℤ x.u) +ℤ (((η +ℤ ξ) *ℤ ξ) *ℤ z.u); v = ((((η +ℤ ξ) *ℤ (ζ +ℤ ξ)) -ℤ ((η +ℤ ξ) *ℤ ξ)) *ℤ x.v) +ℤ (((η +ℤ ξ) *ℤ ξ) *ℤ z.v); h = pos 0; w = pos 1 }
    ≡ (((η +ℤ ξ) *ℤ (ζ +ℤ ξ)) *ℤ ξ) *ℤ (((ξ *ℤ turn_of s y z) -ℤ (η *ℤ turn_of s z x)) -ℤ (ζ *ℤ turn_of s x y))
turn_cut x y z s ξ η ζ =
    let S = var 1 ⊕ var 0 in
    let R = var 2 ⊕ var 0 in
    let W = S ⊗ R in
    let turn = λ (su sv bu bv cu cv : Expr). ((su ⊗ (bv ⊖ cv)) ⊖ (sv ⊗ (bu ⊖ cu))) ⊕ (var 5 ⊗ ((bu ⊗ cv) ⊖ (cu ⊗ bv))) in
    let f = λ (a b : Expr). ((W ⊖ (R ⊗ var 0)) ⊗ a) ⊕ ((R ⊗ var 0) ⊗ b) in
    let g = λ (a b : Expr). ((W ⊖ (S ⊗ var 0)) ⊗ a) ⊕ ((S ⊗ var 0) ⊗ b) in
    ring (ξ ∷ η ∷ ζ ∷ s.u ∷ s.v ∷ s.w ∷ x.u ∷ x.v ∷ y.u ∷ y.v ∷ z.u ∷ z.v ∷ [])
    (turn (W ⊗ var 3) (W ⊗ var 4) (f (var 6) (var 8)) (f (var 7) (var 9)) (g (var 6) (var 10)) (g (var 7) (var 11)))
    ((W ⊗ var 0) ⊗ (((var 0 ⊗ turn (var 3) (var 4) (var 8) (var 9) (var 10) (var 11)) ⊖ (var 1 ⊗ turn (var 3) (var 4) (var 10) (var 11) (var 6) (var 7))) ⊖ (var 2 ⊗ turn (var 3) (var 4) (var 6) (var 7) (var 8) (var 9)))) refl

sided_even : (k : Side) (i j l x y z : ℤ) → ((i *ℤ x) +ℤ (j *ℤ y)) +ℤ (l *ℤ z) ≡ pos 0 → ((i *ℤ tilt k x) +ℤ (j *ℤ tilt k y)) +ℤ (l *ℤ tilt k z) ≡ pos 0
sided_even to_left i j l x y z e = e
sided_even to_right i j l x y z e =
    ring (i ∷ j ∷ l ∷ x ∷ y ∷ z ∷ []) (((var 0 ⊗ (con (pos 0) ⊖ var 3)) ⊕ (var 1 ⊗ (con (pos 0) ⊖ var 4))) ⊕ (var 2 ⊗ (con (pos 0) ⊖ var 5)))
    (con (pos 0) ⊖ (((var 0 ⊗ var 3) ⊕ (var 1 ⊗ var 4)) ⊕ (var 2 ⊗ var 5))) refl
    ∙ ap (λ v. pos 0 -ℤ v) e

pub which : {P : Type 0} {z : ℤ} → IsTally P z → P ⊎ (¬ P)
which (yes p) = inl p
which (no n) = inr n

sided_none : (k : Side) (z : ℤ) → z ≡ pos 0 → tilt k z ≡ pos 0
sided_none k z e = ap (tilt k) e ∙ nothing k
  where
    nothing : (k : Side) → tilt k (pos 0) ≡ pos 0
    nothing to_left = refl
    nothing to_right = refl

module _ (k : Side) (c : Plane) {s : Part} (e : Edge s) (f : Face s) (x y z : Corner) (order : AreInOrder f x y z) where
  abbrev P : Screen
  P = on (toward_of c) e.a

  abbrev Q : Screen
  Q = on (toward_of c) e.b

  abbrev X : Screen
  X = on (toward_of c) x

  abbrev Y : Screen
  Y = on (toward_of c) y

  abbrev Z : Screen
  Z = on (toward_of c) z

  abbrev vx : ℤ
  vx = tilt k (value (toward_of c) e.a e.b x)

  abbrev vy : ℤ
  vy = tilt k (value (toward_of c) e.a e.b y)

  abbrev vz : ℤ
  vz = tilt k (value (toward_of c) e.a e.b z)

  abbrev ξ : ℤ
  ξ = far c x

  abbrev η : ℤ
  η = far c y

  abbrev ζ : ℤ
  ζ = far c z

  -- the whole's corners are on that side, and what is left has such a corner
  abbrev pub WholeSides : Type 0
  WholeSides = (pos 0 <ℤ vx) ⊎ (pos 0 <ℤ vy) ⊎ (pos 0 <ℤ vz)

  abbrev pub RestSides : Type 0
  RestSides = (pos 0 <ℤ vy) ⊎ (pos 0 <ℤ vz) ⊎ (pos 0 <ℤ tilt k (cut_value k c e x y)) ⊎ (pos 0 <ℤ tilt k (cut_value k c e x z))

  first_sum : tilt k (cut_value k c e x y) ≡ (η *ℤ vx) +ℤ (ξ *ℤ vy)
  first_sum = sided_sum k η ξ (value (toward_of c) e.a e.b x) (value (toward_of c) e.a e.b y)

  second_sum : tilt k (cut_value k c e x z) ≡ (ζ *ℤ vx) +ℤ (ξ *ℤ vz)
  second_sum = sided_sum k ζ ξ (value (toward_of c) e.a e.b x) (value (toward_of c) e.a e.b z)

  rest_sums : RestSides ≡ ((pos 0 <ℤ vy) ⊎ (pos 0 <ℤ vz) ⊎ (pos 0 <ℤ ((η *ℤ vx) +ℤ (ξ *ℤ vy))) ⊎ (pos 0 <ℤ ((ζ *ℤ vx) +ℤ (ξ *ℤ vz))))
  rest_sums = λ r. (pos 0 <ℤ vy) ⊎ (pos 0 <ℤ vz) ⊎ (pos 0 <ℤ first_sum r) ⊎ (pos 0 <ℤ second_sum r)

  part_sums : PartSides k c e x y z ≡ ((pos 0 <ℤ vx) ⊎ (pos 0 <ℤ ((η *ℤ vx) +ℤ (ξ *ℤ vy))) ⊎ (pos 0 <ℤ ((ζ *ℤ vx) +ℤ (ξ *ℤ vz))))
  part_sums = λ r. (pos 0 <ℤ vx) ⊎ (pos 0 <ℤ first_sum r) ⊎ (pos 0 <ℤ second_sum r)

  module _ (ξ_pos : pos 0 <ℤ ξ) (η_pos : pos 0 <ℤ η) (ζ_pos : pos 0 <ℤ ζ) where
    pub part_to_whole : PartSides k c e x y z → WholeSides
    part_to_whole h = corner_whole vx vy vz ξ η ζ (pos 0) (pos 0) (pos 0) ξ_pos η_pos ζ_pos (subst (λ t. t) part_sums h)

    pub rest_to_whole : RestSides → WholeSides
    rest_to_whole h = rest_whole vx vy vz ξ η ζ (pos 0) (pos 0) (pos 0) ξ_pos η_pos ζ_pos (subst (λ t. t) rest_sums h)

    module _ (n m : ℤ) (m_pos : pos 0 <ℤ m) (v : Covers X Y Z (place_of P Q n m)) where
      abbrev pub level : ℤ
      level = toward X Y Z ξ η ζ v.i v.j v.k

      even : ((v.i *ℤ vx) +ℤ (v.j *ℤ vy)) +ℤ (v.k *ℤ vz) ≡ pos 0
      even = sided_even k v.i v.j v.k (value (toward_of c) e.a e.b x) (value (toward_of c) e.a e.b y) (value (toward_of c) e.a e.b z) (evenly P Q X Y Z n m m_pos v)

      pub whole_to_part : pos 0 <ℤ level → WholeSides → PartSides k c e x y z
      whole_to_part over h = subst (λ t. t) (sym part_sums) (whole_corner vx vy vz ξ η ζ v.i v.j v.k ξ_pos η_pos ζ_pos v.j_least v.k_least even over h)

      pub whole_to_rest : level <ℤ pos 0 → WholeSides → RestSides
      whole_to_rest under h = subst (λ t. t) (sym rest_sums) (whole_rest vx vy vz ξ η ζ v.i v.j v.k ξ_pos η_pos ζ_pos v.j_least v.k_least even under h)

  -- ---- one corner before the plane
  module _ (x_before : pos 0 <ℤ over_of c x) (y_beyond : over_of c y <ℤ pos 0) (z_beyond : over_of c z <ℤ pos 0) where
    x_far : pos 0 <ℤ ξ
    x_far = far_pos_before c x x_before

    y_far : pos 0 <ℤ η
    y_far = far_pos_beyond c y y_beyond

    z_far : pos 0 <ℤ ζ
    z_far = far_pos_beyond c z z_beyond

    scale_pos : pos 0 <ℤ scale_of c x y z
    scale_pos = mul_pos _ _ (sum_up _ _ y_far x_far) (sum_up _ _ z_far x_far)

    pub over_is : (i j l : ℤ) → over_sum c x y z i j l ≡ toward X Y Z ξ η ζ i j l
    over_is i j l = (λ r. ((i *ℤ far_before c x x_before r) +ℤ (j *ℤ far_beyond c y y_beyond r)) +ℤ (l *ℤ far_beyond c z z_beyond r))
        ∙ ring (i ∷ j ∷ l ∷ ξ ∷ η ∷ ζ ∷ []) (((var 0 ⊗ var 3) ⊕ (var 1 ⊗ (con (pos 0) ⊖ var 4))) ⊕ (var 2 ⊗ (con (pos 0) ⊖ var 5)))
        (((var 3 ⊗ var 0) ⊖ (var 4 ⊗ var 1)) ⊖ (var 5 ⊗ var 2)) refl

    pub rest_sides_of : RestReachesTo k c e f → RestSides
    rest_sides_of h = by (side_from f x y z order (RestOfSideReaches k c e) h)
      where
        by : RestOfSideReaches k c e x y ⊎ RestOfSideReaches k c e y z ⊎ RestOfSideReaches k c e z x → RestSides
        by (inl r) = elim ((reaches_going k c e x y x_before y_beyond).0 r) [ inl a ↦ inr (inr (inl a)) | inr a ↦ inl a ]
        by (inr (inl r)) = elim ((reaches_whole k c e y z y_beyond z_beyond).0 r) [ inl a ↦ inl a | inr a ↦ inr (inl a) ]
        by (inr (inr r)) = elim ((reaches_back k c e z x z_beyond x_before).0 r) [ inl a ↦ inr (inl a) | inr a ↦ inr (inr (inr a)) ]

    pub of_rest_sides : RestSides → RestReachesTo k c e f
    of_rest_sides h = side_of_from f x y z order (RestOfSideReaches k c e) (by h)
      where
        by : RestSides → RestOfSideReaches k c e x y ⊎ RestOfSideReaches k c e y z ⊎ RestOfSideReaches k c e z x
        by (inl a) = inl ((reaches_going k c e x y x_before y_beyond).1 (inr a))
        by (inr (inl a)) = inr (inl ((reaches_whole k c e y z y_beyond z_beyond).1 (inr a)))
        by (inr (inr (inl a))) = inl ((reaches_going k c e x y x_before y_beyond).1 (inl a))
        by (inr (inr (inr a))) = inr (inr ((reaches_back k c e z x z_beyond x_before).1 (inr a)))

    -- the same triangle and the same border, by the border's ends
    pub off_is : (n m : ℤ) → (let p = crossing_of c x y in let q = crossing_of c x z in
        Adds k (corner_with c p q e.a) (corner_with c p q e.b) (corner_with c p q x) (first_with c p q) (second_with c p q) n m) ≡ AddsPart k c e f x y z order n m
    off_is n m = λ r. Adds k (grown (scale_of c x y z) P) (grown (scale_of c x y z) Q) (grown (scale_of c x y z) X) (first_is c x y z r) (second_is c x y z r) n m

    pub border_clear : (n m : ℤ) → (let p = crossing_of c x y in let q = crossing_of c x z in IsClearOf (corner_with c p q e.a) (corner_with c p q e.b) (first_with c p q) (second_with c p q) n m)
        ≡ IsClearOf (grown (scale_of c x y z) P) (grown (scale_of c x y z) Q) (first_of c x y z) (second_of c x y z) n m
    border_clear n m = λ r. IsClearOf (grown (scale_of c x y z) P) (grown (scale_of c x y z) Q) (first_is c x y z r) (second_is c x y z r) n m

    module _ (n m : ℤ) (m_pos : pos 0 <ℤ m) where
      abbrev Whole : Type 0
      Whole = Adds k P Q X Y Z n m

      abbrev Rest : Type 0
      Rest = RestCounts k c e f n m

      abbrev Off : Type 0
      Off = AddsPart k c e f x y z order n m

      abbrev area : ℤ
      area = area_of X Y Z

      whole_sides : CountsAt k P Q X Y Z n m → WholeSides
      whole_sides (covers, inl a) = inl ((on_side_is k P Q X).0 a)
      whole_sides (covers, inr (inl a)) = inr (inl ((on_side_is k P Q Y).0 a))
      whole_sides (covers, inr (inr a)) = inr (inr ((on_side_is k P Q Z).0 a))

      pub whole_of : ¬ (area ≡ pos 0) → Covers X Y Z (place_of P Q n m) → WholeSides → Whole
      whole_of some v h = (some, (v, by h))
        where
          by : WholeSides → IsOnSide k P Q X ⊎ IsOnSide k P Q Y ⊎ IsOnSide k P Q Z
          by (inl a) = inl ((on_side_is k P Q X).1 a)
          by (inr (inl a)) = inr (inl ((on_side_is k P Q Y).1 a))
          by (inr (inr a)) = inr (inr ((on_side_is k P Q Z).1 a))

      abbrev Big : Screen → Screen
      Big a = grown (scale_of c x y z) a

      corner_at : IsOnSide k (Big P) (Big Q) (Big X) ↔ (pos 0 <ℤ vx)
      corner_at = corner_side k P Q X Y Z ξ η ζ scale_pos (sum_up _ _ y_far x_far) (sum_up _ _ z_far x_far)

      first_at : IsOnSide k (Big P) (Big Q) (first_of c x y z) ↔ (pos 0 <ℤ tilt k (cut_value k c e x y))
      first_at = first_side k P Q X Y Z ξ η ζ scale_pos (sum_up _ _ y_far x_far) (sum_up _ _ z_far x_far)

      second_at : IsOnSide k (Big P) (Big Q) (second_of c x y z) ↔ (pos 0 <ℤ tilt k (cut_value k c e x z))
      second_at = second_side k P Q X Y Z ξ η ζ scale_pos (sum_up _ _ y_far x_far) (sum_up _ _ z_far x_far)

      off_sides : CountsAt k (Big P) (Big Q) (Big X) (first_of c x y z) (second_of c x y z) n m → PartSides k c e x y z
      off_sides (covers, inl a) = inl (corner_at.0 a)
      off_sides (covers, inr (inl a)) = inr (inl (first_at.0 a))
      off_sides (covers, inr (inr a)) = inr (inr (second_at.0 a))

      off_of : ¬ (area ≡ pos 0) → (v : Covers X Y Z (place_of P Q n m)) → pos 0 ≤ℤ toward X Y Z ξ η ζ v.i v.j v.k → PartSides k c e x y z → Off
      off_of some v least h = (part_some c x y z x_far y_far z_far some, (part_covers X Y Z ξ η ζ P Q n m x_far y_far z_far v least, by h))
        where
          by : PartSides k c e x y z → IsOnSide k (Big P) (Big Q) (Big X) ⊎ IsOnSide k (Big P) (Big Q) (first_of c x y z) ⊎ IsOnSide k (Big P) (Big Q) (second_of c x y z)
          by (inl a) = inl (corner_at.1 a)
          by (inr (inl a)) = inr (inl (first_at.1 a))
          by (inr (inr a)) = inr (inr (second_at.1 a))

      rest_covers : Rest → CoversNotBefore c x y z (place_of P Q n m)
      rest_covers h = covers_at_place c x y z e f order n m h.hides

      off_covers : Off → (v : Covers X Y Z (place_of P Q n m)) × (pos 0 ≤ℤ toward X Y Z ξ η ζ v.i v.j v.k)
      off_covers h = covers_of_part X Y Z ξ η ζ P Q n m x_far y_far z_far h.1.0

      most_at : (u v : ℤ) → u ≡ v → u ≤ℤ pos 0 → v ≤ℤ pos 0
      most_at u v e h = omega (arith, ints)

      pub rest_of : ¬ (area ≡ pos 0) → (v : Covers X Y Z (place_of P Q n m)) → toward X Y Z ξ η ζ v.i v.j v.k ≤ℤ pos 0 → RestSides → Rest
      rest_of some v most h = record {
        turned = turned_of c f x y z order some;
        hides = rest_at_place c x y z e f order n m (v, most_at _ _ (sym (over_is v.i v.j v.k)) most);
        reaches = of_rest_sides h;
      }

      whole_of_rest : Rest → Whole
      whole_of_rest h = whole_of (whole_some c f x y z order h.turned) (rest_covers h).0 (rest_to_whole x_far y_far z_far (rest_sides_of h.reaches))

      whole_of_off : Off → Whole
      whole_of_off h = whole_of (some_of_part c x y z x_far y_far z_far h.0) (off_covers h).0 (part_to_whole x_far y_far z_far (off_sides h.1))

      -- on which side of the cut the place is
      abbrev turns : ℤ
      turns = ((ξ *ℤ turn_of (place_of P Q n m) Y Z) -ℤ (η *ℤ turn_of (place_of P Q n m) Z X)) -ℤ (ζ *ℤ turn_of (place_of P Q n m) X Y)

      module _ (some : ¬ (area ≡ pos 0)) where
        square : pos 0 <ℤ (area *ℤ area)
        square = elim (sign_cases area some) [ inl h ↦ mul_two_neg area area h h | inr h ↦ mul_pos area area h h ]

        size : pos 0 <ℤ (m *ℤ (area *ℤ area))
        size = mul_pos _ _ m_pos square

        neg_of : (k a : ℤ) → pos 0 <ℤ k → (k *ℤ a) <ℤ pos 0 → a <ℤ pos 0
        neg_of k a h l = by_lt_z a (pos 0) (λ m. m) (λ m. absurd (clash_neg _ (mul_nonneg k a (weak k h) m) l))

        module _ (v : Covers X Y Z (place_of P Q n m)) where
          abbrev at_v : ℤ
          at_v = toward X Y Z ξ η ζ v.i v.j v.k

          level_up : pos 0 <ℤ (area *ℤ turns) → pos 0 <ℤ at_v
          level_up h = pos_of_mul _ _ size (positive_at _ _ (sym (balance X Y Z (place_of P Q n m) v ξ η ζ)) (mul_pos _ _ v.some h))

          level_down : (area *ℤ turns) <ℤ pos 0 → at_v <ℤ pos 0
          level_down h = neg_of _ _ size (neg_at _ _ (sym (balance X Y Z (place_of P Q n m) v ξ η ζ)) (mul_neg _ _ v.some h))

          level_none : (area *ℤ turns) ≡ pos 0 → at_v ≡ pos 0
          level_none h = zero_of_mul _ _ size (sym (balance X Y Z (place_of P Q n m) v ξ η ζ) ∙ ap (λ w. ((v.i +ℤ v.j) +ℤ v.k) *ℤ w) h
              ∙ ring (((v.i +ℤ v.j) +ℤ v.k) ∷ []) (var 0 ⊗ con (pos 0)) (con (pos 0)) refl)

        turns_none : (area *ℤ turns) ≡ pos 0 → turns ≡ pos 0
        turns_none h = elim (sign_cases area some) [ inl l ↦ zero_of_mul (pos 0 -ℤ area) turns (up _ l) (back area turns ∙ ap (λ v. pos 0 -ℤ v) h) | inr l ↦ zero_of_mul area turns l h ]
          where
            back : (a b : ℤ) → (pos 0 -ℤ a) *ℤ b ≡ pos 0 -ℤ (a *ℤ b)
            back a b = ring (a ∷ b ∷ []) ((con (pos 0) ⊖ var 0) ⊗ var 1) (con (pos 0) ⊖ (var 0 ⊗ var 1)) refl

        times_none : (a : ℤ) → a *ℤ pos 0 ≡ pos 0
        times_none a = ring (a ∷ []) (var 0 ⊗ con (pos 0)) (con (pos 0)) refl

        at_grown : (t p q : ℤ) → ((m -ℤ n) *ℤ (t *ℤ p)) +ℤ (n *ℤ (t *ℤ q)) ≡ t *ℤ (((m -ℤ n) *ℤ p) +ℤ (n *ℤ q))
        at_grown t p q = ring (n ∷ m ∷ t ∷ p ∷ q ∷ []) (((var 1 ⊖ var 0) ⊗ (var 2 ⊗ var 3)) ⊕ (var 0 ⊗ (var 2 ⊗ var 4))) (var 2 ⊗ (((var 1 ⊖ var 0) ⊗ var 3) ⊕ (var 0 ⊗ var 4))) refl

        turn_none : (area *ℤ turns) ≡ pos 0 → turn_of (place_of (Big P) (Big Q) n m) (first_of c x y z) (second_of c x y z) ≡ pos 0
        turn_none h =
            (λ r. turn_of record { u = at_grown (scale_of c x y z) P.u Q.u r; v = at_grown (scale_of c x y z) P.v Q.v r; h = pos 0; w = m } (first_of c x y z) (second_of c x y z))
            ∙ turn_cut X Y Z (place_of P Q n m) ξ η ζ
            ∙ ap (λ v. (((η +ℤ ξ) *ℤ (ζ +ℤ ξ)) *ℤ ξ) *ℤ v) (turns_none h)
            ∙ times_none (((η +ℤ ξ) *ℤ (ζ +ℤ ξ)) *ℤ ξ)

        some_ends : (i j l : ℤ) → pos 0 ≤ℤ j → pos 0 ≤ℤ l → pos 0 <ℤ ((i +ℤ j) +ℤ l) → ((ξ *ℤ i) -ℤ (η *ℤ j)) -ℤ (ζ *ℤ l) ≡ pos 0 → pos 0 <ℤ (j +ℤ l)
        some_ends i j l j_least l_least all e =
            by_lt_z (pos 0) (j +ℤ l) (λ h. h)
            (λ h.
            let j_none = first_none j l j_least l_least h in
            let l_none = second_none j l j_least l_least h in
            let alone : ξ *ℤ i ≡ pos 0 = lone (ξ *ℤ i) (η *ℤ j) (ζ *ℤ l) (ap (λ v. η *ℤ v) j_none ∙ times_none η) (ap (λ v. ζ *ℤ v) l_none ∙ times_none ζ) e in
            absurd (nothing i j l (zero_of_mul ξ i x_far alone) j_none l_none all))
          where
            first_none : (j l : ℤ) → pos 0 ≤ℤ j → pos 0 ≤ℤ l → (j +ℤ l) ≤ℤ pos 0 → j ≡ pos 0
            first_none j l a b h = omega (arith, ints)

            second_none : (j l : ℤ) → pos 0 ≤ℤ j → pos 0 ≤ℤ l → (j +ℤ l) ≤ℤ pos 0 → l ≡ pos 0
            second_none j l a b h = omega (arith, ints)

            lone : (a b d : ℤ) → b ≡ pos 0 → d ≡ pos 0 → (a -ℤ b) -ℤ d ≡ pos 0 → a ≡ pos 0
            lone a b d g h e = omega (arith, ints)

            nothing : (i j l : ℤ) → i ≡ pos 0 → j ≡ pos 0 → l ≡ pos 0 → pos 0 <ℤ ((i +ℤ j) +ℤ l) → ⊥
            nothing i j l a b d h = omega (arith, ints)

        abbrev fv : ℤ
        fv = cut_value k c e x y

        abbrev gv : ℤ
        gv = cut_value k c e x z

        abbrev by_first : ℤ
        by_first = scale_of c x y z *ℤ (ζ +ℤ ξ)

        abbrev by_second : ℤ
        by_second = scale_of c x y z *ℤ (η +ℤ ξ)

        first_by : pos 0 <ℤ by_first
        first_by = mul_pos _ _ scale_pos (sum_up _ _ z_far x_far)

        second_by : pos 0 <ℤ by_second
        second_by = mul_pos _ _ scale_pos (sum_up _ _ y_far x_far)

        first_is_area : area_of (Big P) (Big Q) (first_of c x y z) ≡ by_first *ℤ fv
        first_is_area = first_area k P Q X Y Z ξ η ζ scale_pos (sum_up _ _ y_far x_far) (sum_up _ _ z_far x_far)

        second_is_area : area_of (Big P) (Big Q) (second_of c x y z) ≡ by_second *ℤ gv
        second_is_area = second_area k P Q X Y Z ξ η ζ scale_pos (sum_up _ _ y_far x_far) (sum_up _ _ z_far x_far)

        least_to : (u a b : ℤ) → u ≡ a *ℤ b → pos 0 <ℤ a → pos 0 ≤ℤ b → pos 0 ≤ℤ u
        least_to u a b e h l = not_negative_at u _ e (mul_nonneg a b (weak a h) l)

        most_to : (u a b : ℤ) → u ≡ a *ℤ b → pos 0 <ℤ a → b ≤ℤ pos 0 → u ≤ℤ pos 0
        most_to u a b e h l = most_at _ _ (sym e) (mul_nonpos a b h l)

        -- where the place is on a clear border, both its ends are on the edge's line
        ends_none : IsClearOf (Big P) (Big Q) (first_of c x y z) (second_of c x y z) n m → (v : Covers X Y Z (place_of P Q n m)) → (area *ℤ turns) ≡ pos 0 → (fv ≡ pos 0) × (gv ≡ pos 0)
        ends_none clear v h =
            let on = level_none v h in
            let balanced = even_ends (value (toward_of c) e.a e.b x) (value (toward_of c) e.a e.b y) (value (toward_of c) e.a e.b z) ξ η ζ v.i v.j v.k x_far y_far z_far v.j_least v.k_least (evenly P Q X Y Z n m m_pos v) on in
            let ends = some_ends v.i v.j v.k v.j_least v.k_least v.some on in
            both_none v.j v.k fv gv v.j_least v.k_least ends balanced by_first by_second first_by second_by
            (level_ends _ _ _ _ first_is_area second_is_area
            (sym (denominator-areas (Big P) (Big Q) (first_of c x y z) (second_of c x y z)) ∙ clear (turn_none h) (signs (opposite v.j v.k fv gv v.j_least v.k_least ends balanced))))
          where
            level_ends : (a b a' b' : ℤ) → a ≡ a' → b ≡ b' → b -ℤ a ≡ pos 0 → a' ≡ b'
            level_ends a b a' b' e g h = omega (arith, ints)

            signs : ((fv ≤ℤ pos 0) × (pos 0 ≤ℤ gv)) ⊎ ((gv ≤ℤ pos 0) × (pos 0 ≤ℤ fv))
                → ((area_of (Big P) (Big Q) (first_of c x y z) ≤ℤ pos 0) × (pos 0 ≤ℤ area_of (Big P) (Big Q) (second_of c x y z)))
                ⊎ ((area_of (Big P) (Big Q) (second_of c x y z) ≤ℤ pos 0) × (pos 0 ≤ℤ area_of (Big P) (Big Q) (first_of c x y z)))
            signs (inl (a, b)) = inl (most_to _ _ _ first_is_area first_by a, least_to _ _ _ second_is_area second_by b)
            signs (inr (a, b)) = inr (most_to _ _ _ second_is_area second_by a, least_to _ _ _ first_is_area first_by b)

        -- ---- the three cases
        none_and_same : (r w o : ℤ) → r ≡ pos 0 → w ≡ o → r ≡ w -ℤ o
        none_and_same r w o e h = omega (arith, ints)

        same_and_none : (r w o : ℤ) → r ≡ w → o ≡ pos 0 → r ≡ w -ℤ o
        same_and_none r w o e h = omega (arith, ints)

        module _ {rest whole off : ℤ} (t : IsTally Rest rest) (u : IsTally Whole whole) (w : IsTally Off off) where
          over_cut : pos 0 <ℤ (area *ℤ turns) → rest ≡ whole -ℤ off
          over_cut h = none_and_same _ _ _
              (none_tally (λ r. let v = rest_covers r in clash _ (level_up v.0 h) (most_at _ _ (over_is v.0.i v.0.j v.0.k) v.1)) t)
              (same_tally u (tally_of whole_of_off (λ a. off_of some a.1.0 (weak _ (level_up a.1.0 h)) (whole_to_part x_far y_far z_far n m m_pos a.1.0 (level_up a.1.0 h) (whole_sides a.1))) w))

          under_cut : (area *ℤ turns) <ℤ pos 0 → rest ≡ whole -ℤ off
          under_cut h = same_and_none _ _ _
              (same_tally t (tally_of (λ a. rest_of some a.1.0 (weak_neg _ (level_down a.1.0 h)) (whole_to_rest x_far y_far z_far n m m_pos a.1.0 (level_down a.1.0 h) (whole_sides a.1))) whole_of_rest u))
              (none_tally (λ o. let v = off_covers o in clash_neg _ v.1 (level_down v.0 h)) w)

          level_at : (z : ℤ) → z ≡ pos 0 → z ≤ℤ pos 0
          level_at z e = omega (arith, ints)

          least_at : (z : ℤ) → z ≡ pos 0 → pos 0 ≤ℤ z
          least_at z e = omega (arith, ints)

          -- an end on the line is between corners on both sides of it
          between : (a b p q : ℤ) → pos 0 <ℤ a → pos 0 <ℤ b → (a *ℤ p) +ℤ (b *ℤ q) ≡ pos 0 → pos 0 <ℤ p → pos 0 <ℤ q → ⊥
          between a b p q a_pos b_pos e h l = clash_zero _ (sum_up _ _ (mul_pos a p a_pos h) (mul_pos b q b_pos l)) e

          on_cut : IsClearOf (Big P) (Big Q) (first_of c x y z) (second_of c x y z) n m → (area *ℤ turns) ≡ pos 0 → Whole ⊎ (¬ Whole) → rest ≡ whole -ℤ off
          on_cut clear h (inr n) = none_and_same _ _ _ (none_tally (λ r. n (whole_of_rest r)) t) (none_tally n u ∙ sym (none_tally (λ o. n (whole_of_off o)) w))
          on_cut clear h (inl a) =
              let v = a.1.0 in
              let ends = ends_none clear v h in
              let f_none = sided_none k fv ends.0 in
              let g_none = sided_none k gv ends.1 in
              let f_even = sym first_sum ∙ f_none in
              let g_even = sym second_sum ∙ g_none in
              by_lt_z (pos 0) vx
              (λ high. none_and_same _ _ _
              (none_tally (λ r. no_rest f_none g_none f_even g_even high (rest_sides_of r.reaches)) t)
              (same_tally u (tally_of whole_of_off (λ b. off_of some v (least_at _ (level_none v h)) (inl high)) w)))
              (λ down. same_and_none _ _ _
              (same_tally t (tally_of (λ b. rest_of some v (level_at _ (level_none v h)) (some_rest down (whole_sides a.1))) whole_of_rest u))
              (none_tally (λ o. no_part f_none g_none down (off_sides o.1)) w))
            where
              no_rest : tilt k fv ≡ pos 0 → tilt k gv ≡ pos 0 → (η *ℤ vx) +ℤ (ξ *ℤ vy) ≡ pos 0 → (ζ *ℤ vx) +ℤ (ξ *ℤ vz) ≡ pos 0 → pos 0 <ℤ vx → ¬ RestSides
              no_rest f g fe ge high (inl b) = between η ξ vx vy y_far x_far fe high b
              no_rest f g fe ge high (inr (inl b)) = between ζ ξ vx vz z_far x_far ge high b
              no_rest f g fe ge high (inr (inr (inl b))) = clash_zero _ b f
              no_rest f g fe ge high (inr (inr (inr b))) = clash_zero _ b g

              some_rest : vx ≤ℤ pos 0 → WholeSides → RestSides
              some_rest down (inl b) = absurd (clash _ b down)
              some_rest down (inr (inl b)) = inl b
              some_rest down (inr (inr b)) = inr (inl b)

              no_part : tilt k fv ≡ pos 0 → tilt k gv ≡ pos 0 → vx ≤ℤ pos 0 → ¬ PartSides k c e x y z
              no_part f g down (inl b) = clash _ b down
              no_part f g down (inr (inl b)) = clash_zero _ b f
              no_part f g down (inr (inr b)) = clash_zero _ b g

          pub cut_difference : IsClearOf (Big P) (Big Q) (first_of c x y z) (second_of c x y z) n m → rest ≡ whole -ℤ off
          cut_difference clear =
              by_lt_z (pos 0) (area *ℤ turns) over_cut
              (λ h. by_lt_z (area *ℤ turns) (pos 0) under_cut (λ l. on_cut clear (both _ h l) (which u)))
            where
              both : (z : ℤ) → z ≤ℤ pos 0 → pos 0 ≤ℤ z → z ≡ pos 0
              both z h l = omega (arith, ints)

none_left : (r w o : ℤ) → r ≡ pos 0 → w ≡ pos 0 → o ≡ pos 0 → r ≡ w -ℤ o
none_left r w o e h l = omega (arith, ints)

pub inner_size : (n m : ℤ) → pos 0 <ℤ n → n <ℤ m → pos 0 <ℤ m
inner_size n m h l = omega (arith, ints)

pub difference : DifferenceLaw
difference k c s e f x y z n m rest whole off order x_before y_beyond z_beyond clear t u w =
    let bx = over_before c x x_before in
    let by = over_beyond c y y_beyond in
    let bz = over_beyond c z z_beyond in
    let area = area_of (on (toward_of c) x) (on (toward_of c) y) (on (toward_of c) z) in
    let flat : area ≡ pos 0 → rest ≡ whole -ℤ off = λ none. none_left _ _ _
    (none_tally (λ r. whole_some c f x y z order r.turned none) t)
    (none_tally (λ a. a.0 none) u)
    (none_tally (λ o. some_of_part c x y z (far_pos_before c x bx) (far_pos_beyond c y by) (far_pos_beyond c z bz) (subst (λ t. t) (off_is k c e f x y z order bx by bz n m) o).0 none) w) in
    let wide : ¬ (area ≡ pos 0) → rest ≡ whole -ℤ off = λ some.
    let g = clear (turned_of c f x y z order some) in
    cut_difference k c e f x y z order bx by bz n m (inner_size n m g.sides.after g.sides.before) some t u (subst (λ A. IsTally A off) (off_is k c e f x y z order bx by bz n m) w)
    (subst (λ t. t) (border_clear k c e f x y z order bx by bz n m) (g.border (crossing_of c x y) (crossing_of c x z) (border_one c f x y z order x_before y_beyond z_beyond))) in
    by_lt_z area (pos 0) (λ h. wide (λ e. below _ h e)) (λ h. by_lt_z (pos 0) area (λ l. wide (λ e. clash_zero _ l e)) (λ l. flat (both _ h l)))
  where
    below : (z : ℤ) → z <ℤ pos 0 → z ≡ pos 0 → ⊥
    below z h e = omega (arith, ints)

    both : (z : ℤ) → pos 0 ≤ℤ z → z ≤ℤ pos 0 → z ≡ pos 0
    both z h l = omega (arith, ints)
