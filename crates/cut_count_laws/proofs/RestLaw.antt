-- Between two clear places, what the rest of a face adds to a count changes by what is left of its sides that cross nearer, and by its border.
use Rattle.std.proofs.Common.{◌≡◌, ◌⊎◌, inl, inr, [], ◌∷◌, refl, sym, ap, subst, ◌∙◌, arith}
use Rattle.std.specs.Prelude.{◌≢◌, ℤ, pos, ◌+ℤ◌, ◌-ℤ◌, ◌*ℤ◌, ◌≤ℤ◌, ◌<ℤ◌}
use Rattle.std.proofs.lemmas.Int.{ints}
use Rattle.integers.proofs.Ring.{var, con, ◌⊕◌, ◌⊖◌, ◌⊗◌, ring}
use Rattle.lattice.specs.declared.points.Corner.{Corner}
use Rattle.lattice.specs.Points.{point_of}
use Rattle.lattice.specs.Cuts.{Plane, toward_of, IsBeyond, IsBeforePlane}
use Rattle.geometry.specs.Cuts.{over_of, crossing_of}
use Rattle.geometry.specs.Faces.{facing_of}
use Rattle.geometry.specs.Parts.{Part, Face, Edge}
use Rattle.geometry.specs.Views.{sign_of, face_sign}
use Rattle.geometry.proofs.Borders.{over_beyond, over_before, not_both_sides, crossed_of_border}
use Rattle.hiding_laws.proofs.Decisions.{same_or}
use Rattle.hiding_laws.proofs.Screens.{Screen}
use Rattle.geometry.specs.Counts.{Side}
use Rattle.geometry.specs.Shares.{mark}
use Rattle.hiding_laws.specs.inner.Tallies.{IsTally}
use Rattle.hiding_laws.proofs.Come.{IsInner}
use Rattle.hiding_laws.proofs.OneFace.{none_tally}
use Rattle.hiding_laws.proofs.OwnFace.{uncovered, uncrossed}
use Rattle.hiding_laws.proofs.Seen.{on}
use Rattle.hiding_laws.proofs.Shares.{Crosses, IsClear, IsClearOf, IsOnSide, IsSideOf, IsUnpierced, Adds}
use Rattle.hiding_laws.proofs.Sides.{tally_of, crosses_reverse}
use Rattle.hiding_laws.proofs.Signs.{weak_neg}
use Rattle.cut_count_laws.specs.CutEnds.{part_change, mark_change}
use Rattle.cut_count_laws.specs.CutCovers.{RestOfSideReaches}
use Rattle.cut_count_laws.proofs.Rests.{RestCounts, HasBorderChange, along, none, BorderCrosses, IsClearOfRest, AreInOrder, grown, corner_with, first_with, second_with}
use Rattle.cut_count_laws.proofs.Laws.{RestLaw, AreInTurn, IsPassed}
use Rattle.cut_count_laws.proofs.ScaledScreens.{clear_back}
use Rattle.cut_count_laws.proofs.RestCovers.{side_from, side_of_from, covers_at_place, rest_at_place}
use Rattle.cut_count_laws.proofs.RestSides.{value, cut_value, cut_value_back, mark_corner, mark_crossing, mark_crossing_of, reaches_whole, reaches_none}
use Rattle.cut_count_laws.proofs.CornerScreens.{far, far_pos_before, far_pos_beyond, crossing_back, scale_of, first_of, second_of, first_is, second_is, scale_is, on_side_is}
use Rattle.cut_count_laws.proofs.FaceBorder.{border_one, border_two, only_one, only_two, Lies, all_beyond, all_before, one_before, one_beyond, lies}
use Rattle.cut_count_laws.proofs.CornerRest.{whole_some, turned_of, part_some, part_of_rest, rest_of_part}
use Rattle.cut_count_laws.proofs.Difference.{inner_size, border_clear, cut_difference}
use Rattle.cut_count_laws.proofs.AddsDecided.{adds_tally}
use Rattle.cut_count_laws.proofs.FaceOrders.{Sum, CrossTally, in_order, side_round, clear_round, free_round, from_first}
use Rattle.cut_count_laws.proofs.FlatBorders.{uncrossed_border}
use Rattle.cut_count_laws.proofs.PartChanges.{whole_change, part_change_is}
use Rattle.integers.proofs.Signs.{mul_nonpos_first}

module _ (k : Side) (c : Plane) (s : Part) (e : Edge s) (f : Face s) (n m n' m' : ℤ) (turn : AreInTurn n m n' m') where
  abbrev SP : Screen
  SP = on (toward_of c) e.a

  abbrev SQ : Screen
  SQ = on (toward_of c) e.b

  abbrev sgn : ℤ
  sgn = face_sign (toward_of c) f

  m_pos : pos 0 <ℤ m
  m_pos = inner_size n m turn.after turn.before

  m_pos' : pos 0 <ℤ m'
  m_pos' = inner_size n' m' turn.after' turn.before'

  pub sides_from : (x y z : Corner) → AreInOrder f x y z → (n m : ℤ) → IsClear SP SQ (on (toward_of c) f.a) (on (toward_of c) f.b) (on (toward_of c) f.c) n m
      → IsClear SP SQ (on (toward_of c) x) (on (toward_of c) y) (on (toward_of c) z) n m
  sides_from x y z order n m h = from_first SP SQ (λ a b d. IsClear SP SQ a b d n m) (λ a b d g. clear_round SP SQ a b d n m g) c f x y z order h

  -- one corner before it
  module _ (x y z : Corner) (order : AreInOrder f x y z) (x_before : IsBeforePlane c (point_of x)) (y_beyond : IsBeyond c (point_of y)) (z_beyond : IsBeyond c (point_of z)) where
    bx : pos 0 <ℤ over_of c x
    bx = over_before c x x_before

    by : over_of c y <ℤ pos 0
    by = over_beyond c y y_beyond

    bz : over_of c z <ℤ pos 0
    bz = over_beyond c z z_beyond

    abbrev BorderAt : Type 0
    BorderAt = Crosses (grown (scale_of c x y z) SP) (grown (scale_of c x y z) SQ) (first_of c x y z) (second_of c x y z) n m n' m'

    crosses_is : (let p = crossing_of c x y in let q = crossing_of c x z in Crosses (corner_with c p q e.a) (corner_with c p q e.b) (first_with c p q) (second_with c p q) n m n' m') ≡ BorderAt
    crosses_is = λ r. Crosses (grown (scale_of c x y z) SP) (grown (scale_of c x y z) SQ) (first_is c x y z r) (second_is c x y z r) n m n' m'

    of_border : BorderCrosses c e f n m n' m' → BorderAt
    of_border h =
        let g = only_one c f x y z order x_before y_beyond z_beyond h.p h.q h.border in
        subst (λ t. t) crosses_is
        (subst (λ t. t) (λ r. Crosses (corner_with c (g.0 r) (g.1 r) e.a) (corner_with c (g.0 r) (g.1 r) e.b) (first_with c (g.0 r) (g.1 r)) (second_with c (g.0 r) (g.1 r)) n m n' m') h.crosses)

    to_border : BorderAt → BorderCrosses c e f n m n' m'
    to_border h = record { p = crossing_of c x y; q = crossing_of c x z; border = border_one c f x y z order x_before y_beyond z_beyond; crosses = subst (λ t. t) (sym crosses_is) h }

    border_change : {change : ℤ} → HasBorderChange k c e f change → change ≡ mark k (cut_value k c e x y) -ℤ mark k (cut_value k c e x z)
    border_change (along p q b) =
        let g = only_one c f x y z order x_before y_beyond z_beyond p q b in
        (λ r. mark_change k (toward_of c) e.a e.b (g.0 r) (g.1 r))
        ∙ (λ r. mark_crossing_of k c e x y r -ℤ mark_crossing_of k c e x z r)
    border_change (none not_crossed) = absurd (not_crossed (crossed_of_border c f (crossing_of c x y) (crossing_of c x z) (border_one c f x y z order x_before y_beyond z_beyond)))

    clear_border : (n m : ℤ) → IsClearOfRest c e f n m → IsClearOf (grown (scale_of c x y z) SP) (grown (scale_of c x y z) SQ) (first_of c x y z) (second_of c x y z) n m
    clear_border n m g = subst (λ t. t) (border_clear k c e f x y z order bx by bz n m) (g.border (crossing_of c x y) (crossing_of c x z) (border_one c f x y z order x_before y_beyond z_beyond))

    together : (r r' w w' o o' i a b d f g xy yz zx l : ℤ) → r ≡ w -ℤ o → r' ≡ w' -ℤ o'
        → w' -ℤ w ≡ (((i *ℤ (a -ℤ b)) *ℤ xy) +ℤ ((i *ℤ (b -ℤ d)) *ℤ yz)) +ℤ ((i *ℤ (d -ℤ a)) *ℤ zx)
        → o' -ℤ o ≡ (((i *ℤ (a -ℤ f)) *ℤ xy) +ℤ ((i *ℤ (f -ℤ g)) *ℤ l)) +ℤ ((i *ℤ (g -ℤ a)) *ℤ zx)
        → r' -ℤ r ≡ i *ℤ (((((f -ℤ b) *ℤ xy) +ℤ ((b -ℤ d) *ℤ yz)) +ℤ ((d -ℤ g) *ℤ zx)) -ℤ ((f -ℤ g) *ℤ l))
    together r r' w w' o o' i a b d f g xy yz zx l er er' ew eo =
        (λ t. er' t -ℤ er t)
        ∙ ring (w ∷ w' ∷ o ∷ o' ∷ []) ((var 1 ⊖ var 3) ⊖ (var 0 ⊖ var 2)) ((var 1 ⊖ var 0) ⊖ (var 3 ⊖ var 2)) refl
        ∙ (λ t. ew t -ℤ eo t)
        ∙ ring (i ∷ a ∷ b ∷ d ∷ f ∷ g ∷ xy ∷ yz ∷ zx ∷ l ∷ [])
        (((((var 0 ⊗ (var 1 ⊖ var 2)) ⊗ var 6) ⊕ ((var 0 ⊗ (var 2 ⊖ var 3)) ⊗ var 7)) ⊕ ((var 0 ⊗ (var 3 ⊖ var 1)) ⊗ var 8))
        ⊖ ((((var 0 ⊗ (var 1 ⊖ var 4)) ⊗ var 6) ⊕ ((var 0 ⊗ (var 4 ⊖ var 5)) ⊗ var 9)) ⊕ ((var 0 ⊗ (var 5 ⊖ var 1)) ⊗ var 8)))
        (var 0 ⊗ (((((var 4 ⊖ var 2) ⊗ var 6) ⊕ ((var 2 ⊖ var 3) ⊗ var 7)) ⊕ ((var 3 ⊖ var 5) ⊗ var 8)) ⊖ ((var 4 ⊖ var 5) ⊗ var 9))) refl

    row_one : {before after xy yz zx border change : ℤ} → facing_of (toward_of c) f.a f.b f.c ≢ pos 0 → IsClearOfRest c e f n m → IsClearOfRest c e f n' m'
        → IsUnpierced SP SQ (on (toward_of c) x) (on (toward_of c) y) (on (toward_of c) z)
        → IsTally (RestCounts k c e f n m) before → IsTally (RestCounts k c e f n' m') after
        → CrossTally k c e f n m n' m' x y xy → CrossTally k c e f n m n' m' y z yz → CrossTally k c e f n m n' m' z x zx
        → IsTally (BorderCrosses c e f n m n' m') border → HasBorderChange k c e f change
        → after -ℤ before ≡ sgn *ℤ (Sum k c e f n m n' m' x y z xy yz zx -ℤ (change *ℤ border))
    row_one {xy = xy} {yz = yz} {zx = zx} {border = border} turned clear clear' free t t' u v w b ch =
        let x_far = far_pos_before c x bx in
        let y_far = far_pos_beyond c y by in
        let z_far = far_pos_beyond c z bz in
        let some = whole_some c f x y z order turned in
        let some' = part_some c x y z x_far y_far z_far some in
        let X = on (toward_of c) x in
        let Y = on (toward_of c) y in
        let Z = on (toward_of c) z in
        let wh = adds_tally k SP SQ X Y Z n m m_pos some in
        let wh' = adds_tally k SP SQ X Y Z n' m' m_pos' some in
        let off = adds_tally k (grown (scale_of c x y z) SP) (grown (scale_of c x y z) SQ) (grown (scale_of c x y z) X) (first_of c x y z) (second_of c x y z) n m m_pos some' in
        let off' = adds_tally k (grown (scale_of c x y z) SP) (grown (scale_of c x y z) SQ) (grown (scale_of c x y z) X) (first_of c x y z) (second_of c x y z) n' m' m_pos' some' in
        let s0 = sides_from x y z order n m clear.sides in
        let s1 = sides_from x y z order n' m' clear'.sides in
        together _ _ wh.0 wh'.0 off.0 off'.0 sgn (mark k (value (toward_of c) e.a e.b x)) (mark k (value (toward_of c) e.a e.b y)) (mark k (value (toward_of c) e.a e.b z)) (mark k (cut_value k c e x y)) (mark k (cut_value k c e x z)) xy yz zx border
        (cut_difference k c e f x y z order bx by bz n m m_pos some t wh.1 off.1 (clear_border n m clear))
        (cut_difference k c e f x y z order bx by bz n' m' m_pos' some t' wh'.1 off'.1 (clear_border n' m' clear'))
        (whole_change k c e f x y z order x_far y_far z_far n m n' m' turn s0 s1 free wh.1 wh'.1 u v w)
        (part_change_is k c e f x y z order x_far y_far z_far n m n' m' turn s0 s1 free (clear_border n m clear) (clear_border n' m' clear') off.1 off'.1 u (tally_of of_border to_border b) w)
        ∙ (λ r. sgn *ℤ (((((sym (mark_crossing k c e x y bx) r -ℤ sym (mark_corner k c e y x by) r) *ℤ xy) +ℤ ((sym (mark_corner k c e y z by) r -ℤ sym (mark_corner k c e z y bz) r) *ℤ yz))
        +ℤ ((sym (mark_corner k c e z x bz) r -ℤ sym (mark_crossing k c e x z bx) r) *ℤ zx)) -ℤ (sym (border_change ch) r *ℤ border)))

  -- one corner beyond it
  module _ (x y z : Corner) (order : AreInOrder f x y z) (x_beyond : IsBeyond c (point_of x)) (y_before : IsBeforePlane c (point_of y)) (z_before : IsBeforePlane c (point_of z)) where
    dx : over_of c x <ℤ pos 0
    dx = over_beyond c x x_beyond

    dy : pos 0 <ℤ over_of c y
    dy = over_before c y y_before

    dz : pos 0 <ℤ over_of c z
    dz = over_before c z z_before

    abbrev EdgeAt : Type 0
    EdgeAt = Crosses (grown (scale_of c x y z) SP) (grown (scale_of c x y z) SQ) (first_of c x y z) (second_of c x y z) n m n' m'

    abbrev EdgeBack : Type 0
    EdgeBack = Crosses (grown (scale_of c x y z) SP) (grown (scale_of c x y z) SQ) (second_of c x y z) (first_of c x y z) n m n' m'

    back_is : (let p = crossing_of c z x in let q = crossing_of c y x in Crosses (corner_with c p q e.a) (corner_with c p q e.b) (first_with c p q) (second_with c p q) n m n' m') ≡ EdgeBack
    back_is =
        (λ r. let p = crossing_back c z x r in let q = crossing_back c y x r in Crosses (corner_with c p q e.a) (corner_with c p q e.b) (first_with c p q) (second_with c p q) n m n' m')
        ∙ (λ r. Crosses (grown (scale_is c x y z r) SP) (grown (scale_is c x y z r) SQ) (second_is c x y z r) (first_is c x y z r) n m n' m')

    clear_is : (n m : ℤ) → (let p = crossing_of c z x in let q = crossing_of c y x in IsClearOf (corner_with c p q e.a) (corner_with c p q e.b) (first_with c p q) (second_with c p q) n m)
        ≡ IsClearOf (grown (scale_of c x y z) SP) (grown (scale_of c x y z) SQ) (second_of c x y z) (first_of c x y z) n m
    clear_is n m =
        (λ r. let p = crossing_back c z x r in let q = crossing_back c y x r in IsClearOf (corner_with c p q e.a) (corner_with c p q e.b) (first_with c p q) (second_with c p q) n m)
        ∙ (λ r. IsClearOf (grown (scale_is c x y z r) SP) (grown (scale_is c x y z r) SQ) (second_is c x y z r) (first_is c x y z r) n m)

    of_edge : BorderCrosses c e f n m n' m' → EdgeAt
    of_edge h =
        let g = only_two c f x y z order x_beyond y_before z_before h.p h.q h.border in
        crosses_reverse _ _ _ _ n m n' m'
        (subst (λ t. t) back_is
        (subst (λ t. t) (λ r. Crosses (corner_with c (g.0 r) (g.1 r) e.a) (corner_with c (g.0 r) (g.1 r) e.b) (first_with c (g.0 r) (g.1 r)) (second_with c (g.0 r) (g.1 r)) n m n' m') h.crosses))

    to_edge : EdgeAt → BorderCrosses c e f n m n' m'
    to_edge h = record {
      p = crossing_of c z x;
      q = crossing_of c y x;
      border = border_two c f x y z order x_beyond y_before z_before;
      crosses = subst (λ t. t) (sym back_is) (crosses_reverse (grown (scale_of c x y z) SP) (grown (scale_of c x y z) SQ) (first_of c x y z) (second_of c x y z) n m n' m' h);
    }

    edge_change : {change : ℤ} → HasBorderChange k c e f change → change ≡ mark k (cut_value k c e x z) -ℤ mark k (cut_value k c e x y)
    edge_change (along p q b) =
        let g = only_two c f x y z order x_beyond y_before z_before p q b in
        (λ r. mark_change k (toward_of c) e.a e.b (g.0 r) (g.1 r))
        ∙ (λ r. mark_crossing_of k c e z x r -ℤ mark_crossing_of k c e y x r)
        ∙ (λ r. mark k (cut_value_back k c e z x r) -ℤ mark k (cut_value_back k c e y x r))
    edge_change (none not_crossed) = absurd (not_crossed (crossed_of_border c f (crossing_of c z x) (crossing_of c y x) (border_two c f x y z order x_beyond y_before z_before)))

    clear_edge : (n m : ℤ) → IsClearOfRest c e f n m → IsClearOf (grown (scale_of c x y z) SP) (grown (scale_of c x y z) SQ) (first_of c x y z) (second_of c x y z) n m
    clear_edge n m g = clear_back (grown (scale_of c x y z) SP) (grown (scale_of c x y z) SQ) (second_of c x y z) (first_of c x y z) n m
        (subst (λ t. t) (clear_is n m) (g.border (crossing_of c z x) (crossing_of c y x) (border_two c f x y z order x_beyond y_before z_before)))

    alone : (i a f g u xy yz zx l : ℤ) → (((i *ℤ (a -ℤ f)) *ℤ xy) +ℤ ((i *ℤ (f -ℤ g)) *ℤ l)) +ℤ ((i *ℤ (g -ℤ a)) *ℤ zx)
        ≡ i *ℤ (((((a -ℤ f) *ℤ xy) +ℤ ((u -ℤ u) *ℤ yz)) +ℤ ((g -ℤ a) *ℤ zx)) -ℤ ((g -ℤ f) *ℤ l))
    alone i a f g u xy yz zx l =
        ring (i ∷ a ∷ f ∷ g ∷ u ∷ xy ∷ yz ∷ zx ∷ l ∷ [])
        ((((var 0 ⊗ (var 1 ⊖ var 2)) ⊗ var 5) ⊕ ((var 0 ⊗ (var 2 ⊖ var 3)) ⊗ var 8)) ⊕ ((var 0 ⊗ (var 3 ⊖ var 1)) ⊗ var 7))
        (var 0 ⊗ (((((var 1 ⊖ var 2) ⊗ var 5) ⊕ ((var 4 ⊖ var 4) ⊗ var 6)) ⊕ ((var 3 ⊖ var 1) ⊗ var 7)) ⊖ ((var 3 ⊖ var 2) ⊗ var 8))) refl

    row_two : (yz : ℤ) → {before after xy zx border change : ℤ} → IsClearOfRest c e f n m → IsClearOfRest c e f n' m'
        → IsUnpierced SP SQ (on (toward_of c) x) (on (toward_of c) y) (on (toward_of c) z)
        → IsTally (RestCounts k c e f n m) before → IsTally (RestCounts k c e f n' m') after
        → CrossTally k c e f n m n' m' x y xy → CrossTally k c e f n m n' m' z x zx
        → IsTally (BorderCrosses c e f n m n' m') border → HasBorderChange k c e f change
        → after -ℤ before ≡ sgn *ℤ (Sum k c e f n m n' m' x y z xy yz zx -ℤ (change *ℤ border))
    row_two yz {xy = xy} {zx = zx} {border = border} clear clear' free t t' u w b ch =
        let x_far = far_pos_beyond c x dx in
        let y_far = far_pos_before c y dy in
        let z_far = far_pos_before c z dz in
        part_change_is k c e f x y z order x_far y_far z_far n m n' m' turn (sides_from x y z order n m clear.sides) (sides_from x y z order n' m' clear'.sides) free (clear_edge n m clear) (clear_edge n' m' clear')
        (tally_of (part_of_rest k c e f x y z order n m dx dy dz) (rest_of_part k c e f x y z order n m dx dy dz) t)
        (tally_of (part_of_rest k c e f x y z order n' m' dx dy dz) (rest_of_part k c e f x y z order n' m' dx dy dz) t')
        u (tally_of of_edge to_edge b) w
        ∙ alone sgn (mark k (value (toward_of c) e.a e.b x)) (mark k (cut_value k c e x y)) (mark k (cut_value k c e x z)) (mark k (cut_value k c e y z)) xy yz zx border
        ∙ (λ r. sgn *ℤ (((((sym (mark_corner k c e x y dx) r -ℤ sym (mark_crossing k c e y x dy ∙ ap (mark k) (cut_value_back k c e y x)) r) *ℤ xy)
        +ℤ ((sym (mark_crossing k c e y z dy) r -ℤ sym (mark_crossing k c e z y dz ∙ ap (mark k) (cut_value_back k c e z y)) r) *ℤ yz))
        +ℤ ((sym (mark_crossing k c e z x dz ∙ ap (mark k) (cut_value_back k c e z x)) r -ℤ sym (mark_corner k c e x z dx) r) *ℤ zx)) -ℤ (sym (edge_change ch) r *ℤ border)))

  -- ---- nothing counts and nothing crosses
  nothing : (i a b d ch x y xy yz zx l : ℤ) → x ≡ pos 0 → y ≡ pos 0 → xy ≡ pos 0 → yz ≡ pos 0 → zx ≡ pos 0 → l ≡ pos 0
      → y -ℤ x ≡ i *ℤ ((((a *ℤ xy) +ℤ (b *ℤ yz)) +ℤ (d *ℤ zx)) -ℤ (ch *ℤ l))
  nothing i a b d ch x y xy yz zx l ex ey e0 e1 e2 e3 =
      (λ r. ey r -ℤ ex r)
      ∙ ring (i ∷ a ∷ b ∷ d ∷ ch ∷ []) (con (pos 0) ⊖ con (pos 0))
      (var 0 ⊗ ((((var 1 ⊗ con (pos 0)) ⊕ (var 2 ⊗ con (pos 0))) ⊕ (var 3 ⊗ con (pos 0))) ⊖ (var 4 ⊗ con (pos 0)))) refl
      ∙ (λ r. i *ℤ ((((a *ℤ sym e0 r) +ℤ (b *ℤ sym e1 r)) +ℤ (d *ℤ sym e2 r)) -ℤ (ch *ℤ sym e3 r)))

  level : (i a x y : ℤ) → x ≡ pos 0 → y ≡ pos 0 → i ≡ pos 0 → y -ℤ x ≡ i *ℤ a
  level i a x y ex ey ei = (λ r. ey r -ℤ ex r) ∙ ring (a ∷ []) (con (pos 0) ⊖ con (pos 0)) (con (pos 0) ⊗ var 0) refl ∙ (λ r. sym ei r *ℤ a)

  abbrev SA : Screen
  SA = on (toward_of c) f.a

  abbrev SB : Screen
  SB = on (toward_of c) f.b

  abbrev SC : Screen
  SC = on (toward_of c) f.c

  as_is : AreInOrder f f.a f.b f.c
  as_is = inl (refl, refl, refl)

  not_all_beyond : IsBeyond c (point_of f.a) → IsBeyond c (point_of f.b) → IsBeyond c (point_of f.c) → ¬ BorderCrosses c e f n m n' m'
  not_all_beyond p q r h = elim ((crossed_of_border c f h.p h.q h.border).before) [
    | inl a ↦ not_both_sides c (point_of f.a) p a
    | inr a ↦ elim a [ inl b ↦ not_both_sides c (point_of f.b) q b | inr b ↦ not_both_sides c (point_of f.c) r b ]
  ]

  not_all_before : IsBeforePlane c (point_of f.a) → IsBeforePlane c (point_of f.b) → IsBeforePlane c (point_of f.c) → ¬ BorderCrosses c e f n m n' m'
  not_all_before p q r h = elim ((crossed_of_border c f h.p h.q h.border).beyond) [
    | inl a ↦ not_both_sides c (point_of f.a) a p
    | inr a ↦ elim a [ inl b ↦ not_both_sides c (point_of f.b) b q | inr b ↦ not_both_sides c (point_of f.c) b r ]
  ]

  -- the border of a face of the edge
  own_border : IsSideOf SP SQ SA SB SC → ¬ BorderCrosses c e f n m n' m'
  own_border own h = by_lies (lies c f)
    where
      by_lies : Lies c f → ⊥
      by_lies (all_beyond p q r) = not_all_beyond p q r h
      by_lies (all_before p q r) = not_all_before p q r h
      by_lies (one_before x y z order p q r) =
          uncrossed_border (on (toward_of c) x) (on (toward_of c) y) (on (toward_of c) z) (scale_of c x y z) ((far c z +ℤ far c x) *ℤ far c x) ((far c y +ℤ far c x) *ℤ far c x) SP SQ n m n' m'
          (from_first SP SQ (IsSideOf SP SQ) (side_round SP SQ) c f x y z order own) (of_border x y z order p q r h)
      by_lies (one_beyond x y z order p q r) =
          uncrossed_border (on (toward_of c) x) (on (toward_of c) y) (on (toward_of c) z) (scale_of c x y z) ((far c z +ℤ far c x) *ℤ far c x) ((far c y +ℤ far c x) *ℤ far c x) SP SQ n m n' m'
          (from_first SP SQ (IsSideOf SP SQ) (side_round SP SQ) c f x y z order own) (of_edge x y z order p q r h)

  at_first : IsInner n m
  at_first = record { after = turn.after; before = turn.before }

  at_second : IsInner n' m'
  at_second = record { after = turn.after'; before = turn.before' }

  own_uncounted : facing_of (toward_of c) f.a f.b f.c ≢ pos 0 → IsSideOf SP SQ SA SB SC → (n m : ℤ) → IsInner n m → ¬ RestCounts k c e f n m
  own_uncounted turned own n m inner h =
      uncovered SP SQ n m refl refl inner SA SB SC (whole_some c f f.a f.b f.c as_is turned) own (covers_at_place c f.a f.b f.c e f as_is n m h.hides).0

  -- no corner before the plane
  module _ (p : IsBeyond c (point_of f.a)) (q : IsBeyond c (point_of f.b)) (r : IsBeyond c (point_of f.c)) where
    pa : over_of c f.a <ℤ pos 0
    pa = over_beyond c f.a p

    pb : over_of c f.b <ℤ pos 0
    pb = over_beyond c f.b q

    pc : over_of c f.c <ℤ pos 0
    pc = over_beyond c f.c r

    most : (i j l x y z : ℤ) → pos 0 ≤ℤ i → pos 0 ≤ℤ j → pos 0 ≤ℤ l → x <ℤ pos 0 → y <ℤ pos 0 → z <ℤ pos 0 → (((i *ℤ x) +ℤ (j *ℤ y)) +ℤ (l *ℤ z)) ≤ℤ pos 0
    most i j l x y z hi hj hl hx hy hz = sum _ _ _ (one i x hi hx) (one j y hj hy) (one l z hl hz)
      where
        sum : (u v w : ℤ) → u ≤ℤ pos 0 → v ≤ℤ pos 0 → w ≤ℤ pos 0 → ((u +ℤ v) +ℤ w) ≤ℤ pos 0
        sum u v w a b d = omega (arith, ints)

        at : (u v : ℤ) → u ≡ v → v ≤ℤ pos 0 → u ≤ℤ pos 0
        at u v e h = omega (arith, ints)

        one : (a b : ℤ) → pos 0 ≤ℤ a → b <ℤ pos 0 → (a *ℤ b) ≤ℤ pos 0
        one a b h l = at _ _ (ring (a ∷ b ∷ []) (var 0 ⊗ var 1) (var 1 ⊗ var 0) refl) (mul_nonpos_first b a (weak_neg b l) h)

    all_of_rest : (n m : ℤ) → RestCounts k c e f n m → Adds k SP SQ SA SB SC n m
    all_of_rest n m h =
        (whole_some c f f.a f.b f.c as_is h.turned, ((covers_at_place c f.a f.b f.c e f as_is n m h.hides).0, by (side_from f f.a f.b f.c as_is (RestOfSideReaches k c e) h.reaches)))
      where
        by : RestOfSideReaches k c e f.a f.b ⊎ RestOfSideReaches k c e f.b f.c ⊎ RestOfSideReaches k c e f.c f.a → IsOnSide k SP SQ SA ⊎ IsOnSide k SP SQ SB ⊎ IsOnSide k SP SQ SC
        by (inl g) = elim ((reaches_whole k c e f.a f.b pa pb).0 g) [ inl a ↦ inl ((on_side_is k SP SQ SA).1 a) | inr a ↦ inr (inl ((on_side_is k SP SQ SB).1 a)) ]
        by (inr (inl g)) = elim ((reaches_whole k c e f.b f.c pb pc).0 g) [ inl a ↦ inr (inl ((on_side_is k SP SQ SB).1 a)) | inr a ↦ inr (inr ((on_side_is k SP SQ SC).1 a)) ]
        by (inr (inr g)) = elim ((reaches_whole k c e f.c f.a pc pa).0 g) [ inl a ↦ inr (inr ((on_side_is k SP SQ SC).1 a)) | inr a ↦ inl ((on_side_is k SP SQ SA).1 a) ]

    rest_of_all : (n m : ℤ) → Adds k SP SQ SA SB SC n m → RestCounts k c e f n m
    rest_of_all n m (some, (v, side)) = record {
      turned = turned_of c f f.a f.b f.c as_is some;
      hides = rest_at_place c f.a f.b f.c e f as_is n m (v, most v.i v.j v.k (over_of c f.a) (over_of c f.b) (over_of c f.c) v.i_least v.j_least v.k_least pa pb pc);
      reaches = side_of_from f f.a f.b f.c as_is (RestOfSideReaches k c e) (by side);
    }
      where
        by : IsOnSide k SP SQ SA ⊎ IsOnSide k SP SQ SB ⊎ IsOnSide k SP SQ SC → RestOfSideReaches k c e f.a f.b ⊎ RestOfSideReaches k c e f.b f.c ⊎ RestOfSideReaches k c e f.c f.a
        by (inl a) = inl ((reaches_whole k c e f.a f.b pa pb).1 (inl ((on_side_is k SP SQ SA).0 a)))
        by (inr (inl a)) = inl ((reaches_whole k c e f.a f.b pa pb).1 (inr ((on_side_is k SP SQ SB).0 a)))
        by (inr (inr a)) = inr (inl ((reaches_whole k c e f.b f.c pb pc).1 (inr ((on_side_is k SP SQ SC).0 a))))

    whole_law : (i a b d ch xy yz zx l : ℤ) → l ≡ pos 0 → (((i *ℤ (a -ℤ b)) *ℤ xy) +ℤ ((i *ℤ (b -ℤ d)) *ℤ yz)) +ℤ ((i *ℤ (d -ℤ a)) *ℤ zx)
        ≡ i *ℤ (((((a -ℤ b) *ℤ xy) +ℤ ((b -ℤ d) *ℤ yz)) +ℤ ((d -ℤ a) *ℤ zx)) -ℤ (ch *ℤ l))
    whole_law i a b d ch xy yz zx l e =
        ring (i ∷ a ∷ b ∷ d ∷ ch ∷ xy ∷ yz ∷ zx ∷ [])
        ((((var 0 ⊗ (var 1 ⊖ var 2)) ⊗ var 5) ⊕ ((var 0 ⊗ (var 2 ⊖ var 3)) ⊗ var 6)) ⊕ ((var 0 ⊗ (var 3 ⊖ var 1)) ⊗ var 7))
        (var 0 ⊗ (((((var 1 ⊖ var 2) ⊗ var 5) ⊕ ((var 2 ⊖ var 3) ⊗ var 6)) ⊕ ((var 3 ⊖ var 1) ⊗ var 7)) ⊖ (var 4 ⊗ con (pos 0)))) refl
        ∙ (λ t. i *ℤ (((((a -ℤ b) *ℤ xy) +ℤ ((b -ℤ d) *ℤ yz)) +ℤ ((d -ℤ a) *ℤ zx)) -ℤ (ch *ℤ sym e t)))

    row_none : {before after ab bc ca border : ℤ} (change : ℤ) → IsClearOfRest c e f n m → IsClearOfRest c e f n' m' → IsUnpierced SP SQ SA SB SC
        → IsTally (RestCounts k c e f n m) before → IsTally (RestCounts k c e f n' m') after
        → CrossTally k c e f n m n' m' f.a f.b ab → CrossTally k c e f n m n' m' f.b f.c bc → CrossTally k c e f n m n' m' f.c f.a ca
        → IsTally (BorderCrosses c e f n m n' m') border
        → after -ℤ before ≡ sgn *ℤ (Sum k c e f n m n' m' f.a f.b f.c ab bc ca -ℤ (change *ℤ border))
    row_none {ab = ab} {bc = bc} {ca = ca} {border = border} change clear clear' free t t' u v w b =
        whole_change k c e f f.a f.b f.c as_is (far_pos_beyond c f.a pa) (far_pos_beyond c f.b pb) (far_pos_beyond c f.c pc) n m n' m' turn clear.sides clear'.sides free
        (tally_of (all_of_rest n m) (rest_of_all n m) t) (tally_of (all_of_rest n' m') (rest_of_all n' m') t') u v w
        ∙ whole_law sgn (mark k (value (toward_of c) e.a e.b f.a)) (mark k (value (toward_of c) e.a e.b f.b)) (mark k (value (toward_of c) e.a e.b f.c)) change ab bc ca border (none_tally (not_all_beyond p q r) b)
        ∙ (λ r. sgn *ℤ (((((sym (mark_corner k c e f.a f.b pa) r -ℤ sym (mark_corner k c e f.b f.a pb) r) *ℤ ab) +ℤ ((sym (mark_corner k c e f.b f.c pb) r -ℤ sym (mark_corner k c e f.c f.b pc) r) *ℤ bc))
        +ℤ ((sym (mark_corner k c e f.c f.a pc) r -ℤ sym (mark_corner k c e f.a f.c pa) r) *ℤ ca)) -ℤ (change *ℤ border)))

  -- all corners before it
  module _ (p : IsBeforePlane c (point_of f.a)) (q : IsBeforePlane c (point_of f.b)) (r : IsBeforePlane c (point_of f.c)) where
    qa : pos 0 <ℤ over_of c f.a
    qa = over_before c f.a p

    qb : pos 0 <ℤ over_of c f.b
    qb = over_before c f.b q

    qc : pos 0 <ℤ over_of c f.c
    qc = over_before c f.c r

    nothing_left : (n m : ℤ) → ¬ RestCounts k c e f n m
    nothing_left n m h = by_side (side_from f f.a f.b f.c as_is (RestOfSideReaches k c e) h.reaches)
      where
        by_side : RestOfSideReaches k c e f.a f.b ⊎ RestOfSideReaches k c e f.b f.c ⊎ RestOfSideReaches k c e f.c f.a → ⊥
        by_side (inl g) = reaches_none k c e f.a f.b qa qb g
        by_side (inr (inl g)) = reaches_none k c e f.b f.c qb qc g
        by_side (inr (inr g)) = reaches_none k c e f.c f.a qc qa g

    none_law : (i a b d ch x y xy yz zx l : ℤ) → x ≡ pos 0 → y ≡ pos 0 → l ≡ pos 0
        → y -ℤ x ≡ i *ℤ (((((a -ℤ a) *ℤ xy) +ℤ ((b -ℤ b) *ℤ yz)) +ℤ ((d -ℤ d) *ℤ zx)) -ℤ (ch *ℤ l))
    none_law i a b d ch x y xy yz zx l ex ey el =
        (λ t. ey t -ℤ ex t)
        ∙ ring (i ∷ a ∷ b ∷ d ∷ ch ∷ xy ∷ yz ∷ zx ∷ []) (con (pos 0) ⊖ con (pos 0))
        (var 0 ⊗ (((((var 1 ⊖ var 1) ⊗ var 5) ⊕ ((var 2 ⊖ var 2) ⊗ var 6)) ⊕ ((var 3 ⊖ var 3) ⊗ var 7)) ⊖ (var 4 ⊗ con (pos 0)))) refl
        ∙ (λ t. i *ℤ (((((a -ℤ a) *ℤ xy) +ℤ ((b -ℤ b) *ℤ yz)) +ℤ ((d -ℤ d) *ℤ zx)) -ℤ (ch *ℤ sym el t)))

    row_all : {before after border : ℤ} (ab bc ca change : ℤ)
        → IsTally (RestCounts k c e f n m) before → IsTally (RestCounts k c e f n' m') after → IsTally (BorderCrosses c e f n m n' m') border
        → after -ℤ before ≡ sgn *ℤ (Sum k c e f n m n' m' f.a f.b f.c ab bc ca -ℤ (change *ℤ border))
    row_all {before = before} {after = after} {border = border} ab bc ca change t t' b =
        none_law sgn (mark k (cut_value k c e f.a f.b)) (mark k (cut_value k c e f.b f.c)) (mark k (cut_value k c e f.c f.a)) change before after ab bc ca border (none_tally (nothing_left n m) t) (none_tally (nothing_left n' m') t') (none_tally (not_all_before p q r) b)
        ∙ (λ r. sgn *ℤ (((((sym (mark_crossing k c e f.a f.b qa) r -ℤ sym (mark_crossing k c e f.b f.a qb ∙ ap (mark k) (cut_value_back k c e f.b f.a)) r) *ℤ ab)
        +ℤ ((sym (mark_crossing k c e f.b f.c qb) r -ℤ sym (mark_crossing k c e f.c f.b qc ∙ ap (mark k) (cut_value_back k c e f.c f.b)) r) *ℤ bc))
        +ℤ ((sym (mark_crossing k c e f.c f.a qc) r -ℤ sym (mark_crossing k c e f.a f.c qa ∙ ap (mark k) (cut_value_back k c e f.a f.c)) r) *ℤ ca)) -ℤ (change *ℤ border)))

  flat_or : (z : ℤ) → (z ≡ pos 0) ⊎ ¬ (z ≡ pos 0)
  flat_or z = same_or z (pos 0)

  -- a count that changes so
  abbrev Claim : ℤ → ℤ → ℤ → ℤ → ℤ → ℤ → ℤ → Type 0
  Claim before after ab bc ca border change = after -ℤ before ≡ sgn *ℤ (Sum k c e f n m n' m' f.a f.b f.c ab bc ca -ℤ (change *ℤ border))

  law : {before after ab bc ca border change : ℤ} → (facing_of (toward_of c) f.a f.b f.c ≢ pos 0 → IsPassed c e f n m n' m')
      → IsTally (RestCounts k c e f n m) before → IsTally (RestCounts k c e f n' m') after
      → CrossTally k c e f n m n' m' f.a f.b ab → CrossTally k c e f n m n' m' f.b f.c bc → CrossTally k c e f n m n' m' f.c f.a ca
      → IsTally (BorderCrosses c e f n m n' m') border → HasBorderChange k c e f change
      → after -ℤ before ≡ sgn *ℤ (Sum k c e f n m n' m' f.a f.b f.c ab bc ca -ℤ (change *ℤ border))
  law {before = before} {after = after} {ab = ab} {bc = bc} {ca = ca} {border = border} {change = change} passed t t' u v w b ch = by_facing (flat_or (facing_of (toward_of c) f.a f.b f.c))
    where
      own : facing_of (toward_of c) f.a f.b f.c ≢ pos 0 → IsSideOf SP SQ SA SB SC → Claim before after ab bc ca border change
      own turned h =
          let none_crosses = uncrossed SP SQ n m n' m' at_first at_second SA SB SC h in
          nothing sgn (part_change k c e.a e.b f.a f.b) (part_change k c e.a e.b f.b f.c) (part_change k c e.a e.b f.c f.a) change before after ab bc ca border
          (none_tally (own_uncounted turned h n m at_first) t) (none_tally (own_uncounted turned h n' m' at_second) t')
          (none_tally none_crosses.0 u) (none_tally none_crosses.1 v) (none_tally none_crosses.2 w) (none_tally (own_border h) b)

      free : facing_of (toward_of c) f.a f.b f.c ≢ pos 0 → IsClearOfRest c e f n m → IsClearOfRest c e f n' m' → IsUnpierced SP SQ SA SB SC → Lies c f → Claim before after ab bc ca border change
      free turned clear clear' h (all_beyond p q r) = row_none p q r change clear clear' h t t' u v w b
      free turned clear clear' h (all_before p q r) = row_all p q r ab bc ca change t t' b
      free turned clear clear' h (one_before x y z order p q r) =
          let (xy, yz, zx, tu, tv, tw, same) = in_order k c e f n m n' m' x y z order ab bc ca u v w in
          row_one x y z order p q r turned clear clear' (from_first SP SQ (IsUnpierced SP SQ) (free_round SP SQ) c f x y z order h) t t' tu tv tw b ch
          ∙ ap (λ (a : ℤ). sgn *ℤ (a -ℤ (change *ℤ border))) same
      free turned clear clear' h (one_beyond x y z order p q r) =
          let (xy, yz, zx, tu, tv, tw, same) = in_order k c e f n m n' m' x y z order ab bc ca u v w in
          row_two x y z order p q r yz clear clear' (from_first SP SQ (IsUnpierced SP SQ) (free_round SP SQ) c f x y z order h) t t' tu tw b ch
          ∙ ap (λ (a : ℤ). sgn *ℤ (a -ℤ (change *ℤ border))) same

      by_facing : (facing_of (toward_of c) f.a f.b f.c ≡ pos 0) ⊎ ¬ (facing_of (toward_of c) f.a f.b f.c ≡ pos 0) → Claim before after ab bc ca border change
      by_facing (inl flat) = level sgn _ before after (none_tally (λ h. h.turned flat) t) (none_tally (λ h. h.turned flat) t') (ap sign_of flat)
      by_facing (inr turned) = let g = passed turned in elim (g.passes) [ inl h ↦ free turned g.clear g.clear' h (lies c f) | inr h ↦ own turned h ]

pub rest_law : RestLaw
rest_law k c s e f n m n' m' before after ab bc ca border change turn passed t t' u v w b ch = law k c s e f n m n' m' turn passed t t' u v w b ch
