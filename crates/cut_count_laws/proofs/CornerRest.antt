-- With one corner beyond the plane, what is left of a face is the triangle of that corner and the border.
use Rattle.std.proofs.Common.{◌≡◌, ◌⊎◌, inl, inr, [], ◌∷◌, refl, sym, ap, subst, ◌∙◌, arith}
use Rattle.std.specs.Prelude.{◌≢◌, ℤ, pos, ◌+ℤ◌, ◌-ℤ◌, ◌*ℤ◌, ◌≤ℤ◌, ◌<ℤ◌}
use Rattle.std.proofs.lemmas.Int.{ints}
use Rattle.integers.proofs.Ring.{var, con, ◌⊕◌, ◌⊖◌, ◌⊗◌, ring}
use Rattle.integers.proofs.Signs.{mul_pos, zero_of_mul}
use Rattle.lattice.specs.declared.points.Corner.{Corner}
use Rattle.lattice.specs.Cuts.{Plane, toward_of}
use Rattle.geometry.specs.Cuts.{over_of, crossing_of}
use Rattle.geometry.specs.Faces.{facing_of}
use Rattle.geometry.specs.Parts.{Part, Face, Edge}
use Rattle.geometry.proofs.Borders.{over_beyond, over_before}
use Rattle.hiding_laws.proofs.Screens.{Screen, area_of}
use Rattle.geometry.specs.Counts.{Side}
use Rattle.hiding_laws.proofs.Seen.{on, facing_some, area_some}
use Rattle.hiding_laws.proofs.Shares.{Adds}
use Rattle.cut_count_laws.specs.CutCovers.{RestOfSideReaches, RestReachesTo}
use Rattle.cut_count_laws.proofs.Rests.{RestCounts, AreInOrder, grown, corner_with, first_with, second_with}
use Rattle.cut_count_laws.proofs.Laws.{CornerRestLaw}
use Rattle.cut_count_laws.proofs.Parts.{toward, corner_area, part_covers, covers_of_part}
use Rattle.cut_count_laws.proofs.RestCovers.{over_sum, side_from, side_of_from, covers_at_place, rest_at_place}
use Rattle.cut_count_laws.proofs.RestSides.{value, cut_value, cut_value_back, reaches_going, reaches_back, reaches_none}
use Rattle.cut_count_laws.proofs.CornerScreens.{far, far_before, far_beyond, far_pos_before, far_pos_beyond, crossing_back, scale_of, first_of, second_of, first_is, second_is, scale_is, area_from, corner_side, first_side, second_side}
use Rattle.hiding_laws.proofs.Near.{tilt}

pub sum_up : (a b : ℤ) → pos 0 <ℤ a → pos 0 <ℤ b → pos 0 <ℤ (a +ℤ b)
sum_up a b h k = omega (arith, ints)

-- ---- edge-on or not
module _ (c : Plane) {s : Part} (f : Face s) (x y z : Corner) (order : AreInOrder f x y z) where
  abbrev d_area : ℤ
  d_area = area_of (on (toward_of c) x) (on (toward_of c) y) (on (toward_of c) z)

  pub whole_some : facing_of (toward_of c) f.a f.b f.c ≢ pos 0 → ¬ (d_area ≡ pos 0)
  whole_some turned e = facing_some (toward_of c) f.a f.b f.c turned (sym (area_from (toward_of c) f x y z order) ∙ e)

  pub turned_of : ¬ (d_area ≡ pos 0) → facing_of (toward_of c) f.a f.b f.c ≢ pos 0
  turned_of some = area_some (toward_of c) f.a f.b f.c (λ e. some (area_from (toward_of c) f x y z order ∙ e))

module _ (c : Plane) (x y z : Corner) (ξ_pos : pos 0 <ℤ far c x) (η_pos : pos 0 <ℤ far c y) (ζ_pos : pos 0 <ℤ far c z) where
  abbrev areas : ℤ
  areas = area_of (on (toward_of c) x) (on (toward_of c) y) (on (toward_of c) z)

  abbrev part_area : ℤ
  part_area = area_of (grown (scale_of c x y z) (on (toward_of c) x)) (first_of c x y z) (second_of c x y z)

  pub part_by : pos 0 <ℤ (((far c z +ℤ far c x) *ℤ far c x) *ℤ ((far c y +ℤ far c x) *ℤ far c x))
  part_by = mul_pos _ _ (mul_pos _ _ (sum_up _ _ ζ_pos ξ_pos) ξ_pos) (mul_pos _ _ (sum_up _ _ η_pos ξ_pos) ξ_pos)

  pub area_is : part_area ≡ (((far c z +ℤ far c x) *ℤ far c x) *ℤ ((far c y +ℤ far c x) *ℤ far c x)) *ℤ areas
  area_is = corner_area (on (toward_of c) x) (on (toward_of c) y) (on (toward_of c) z) (far c x) (far c y) (far c z)

  pub part_some : ¬ (areas ≡ pos 0) → ¬ (part_area ≡ pos 0)
  part_some some e = some (zero_of_mul _ _ part_by (sym area_is ∙ e))

  pub some_of_part : ¬ (part_area ≡ pos 0) → ¬ (areas ≡ pos 0)
  some_of_part some e = some (area_is ∙ ap (λ v. (((far c z +ℤ far c x) *ℤ far c x) *ℤ ((far c y +ℤ far c x) *ℤ far c x)) *ℤ v) e
      ∙ ring ((((far c z +ℤ far c x) *ℤ far c x) *ℤ ((far c y +ℤ far c x) *ℤ far c x)) ∷ []) (var 0 ⊗ con (pos 0)) (con (pos 0)) refl)

-- a corner of the part is on that side
abbrev pub PartSides : Side → Plane → {s : Part} → Edge s → Corner → Corner → Corner → Type 0
PartSides k c e x y z = (pos 0 <ℤ tilt k (value (toward_of c) e.a e.b x)) ⊎ (pos 0 <ℤ tilt k (cut_value k c e x y)) ⊎ (pos 0 <ℤ tilt k (cut_value k c e x z))

module _ (k : Side) (c : Plane) {s : Part} (e : Edge s) (f : Face s) (x y z : Corner) (order : AreInOrder f x y z) (n m : ℤ) where
  abbrev pub AddsPart : Type 0
  AddsPart = Adds k (grown (scale_of c x y z) (on (toward_of c) e.a)) (grown (scale_of c x y z) (on (toward_of c) e.b)) (grown (scale_of c x y z) (on (toward_of c) x)) (first_of c x y z) (second_of c x y z) n m

  module _ (x_beyond : over_of c x <ℤ pos 0) (y_before : pos 0 <ℤ over_of c y) (z_before : pos 0 <ℤ over_of c z) where
    ξ_pos : pos 0 <ℤ far c x
    ξ_pos = far_pos_beyond c x x_beyond

    η_pos : pos 0 <ℤ far c y
    η_pos = far_pos_before c y y_before

    ζ_pos : pos 0 <ℤ far c z
    ζ_pos = far_pos_before c z z_before

    abbrev X : Screen
    X = on (toward_of c) x

    abbrev Y : Screen
    Y = on (toward_of c) y

    abbrev Z : Screen
    Z = on (toward_of c) z

    scale_pos : pos 0 <ℤ scale_of c x y z
    scale_pos = mul_pos _ _ (sum_up _ _ η_pos ξ_pos) (sum_up _ _ ζ_pos ξ_pos)

    pub over_is : (i j l : ℤ) → over_sum c x y z i j l ≡ pos 0 -ℤ toward X Y Z (far c x) (far c y) (far c z) i j l
    over_is i j l = (λ r. ((i *ℤ far_beyond c x x_beyond r) +ℤ (j *ℤ far_before c y y_before r)) +ℤ (l *ℤ far_before c z z_before r))
        ∙ ring (i ∷ j ∷ l ∷ far c x ∷ far c y ∷ far c z ∷ []) (((var 0 ⊗ (con (pos 0) ⊖ var 3)) ⊕ (var 1 ⊗ var 4)) ⊕ (var 2 ⊗ var 5))
        (con (pos 0) ⊖ (((var 3 ⊗ var 0) ⊖ (var 4 ⊗ var 1)) ⊖ (var 5 ⊗ var 2))) refl

    least_of : (u v : ℤ) → u ≡ pos 0 -ℤ v → u ≤ℤ pos 0 → pos 0 ≤ℤ v
    least_of u v e h = omega (arith, ints)

    most_of : (u v : ℤ) → u ≡ pos 0 -ℤ v → pos 0 ≤ℤ v → u ≤ℤ pos 0
    most_of u v e h = omega (arith, ints)

    pub sides_of : RestReachesTo k c e f → PartSides k c e x y z
    sides_of h = by (side_from f x y z order (RestOfSideReaches k c e) h)
      where
        by : RestOfSideReaches k c e x y ⊎ RestOfSideReaches k c e y z ⊎ RestOfSideReaches k c e z x → PartSides k c e x y z
        by (inl r) = elim ((reaches_back k c e x y x_beyond y_before).0 r) [ inl a ↦ inl a | inr a ↦ inr (inl (subst (λ (v : ℤ). pos 0 <ℤ tilt k v) (cut_value_back k c e y x) a)) ]
        by (inr (inl r)) = absurd (reaches_none k c e y z y_before z_before r)
        by (inr (inr r)) = elim ((reaches_going k c e z x z_before x_beyond).0 r) [ inl a ↦ inr (inr (subst (λ (v : ℤ). pos 0 <ℤ tilt k v) (cut_value_back k c e z x) a)) | inr a ↦ inl a ]

    pub of_sides : PartSides k c e x y z → RestReachesTo k c e f
    of_sides h = side_of_from f x y z order (RestOfSideReaches k c e) (by h)
      where
        by : PartSides k c e x y z → RestOfSideReaches k c e x y ⊎ RestOfSideReaches k c e y z ⊎ RestOfSideReaches k c e z x
        by (inl a) = inl ((reaches_back k c e x y x_beyond y_before).1 (inl a))
        by (inr (inl a)) = inl ((reaches_back k c e x y x_beyond y_before).1 (inr (subst (λ (v : ℤ). pos 0 <ℤ tilt k v) (cut_value_back k c e x y) a)))
        by (inr (inr a)) = inr (inr ((reaches_going k c e z x z_before x_beyond).1 (inl (subst (λ (v : ℤ). pos 0 <ℤ tilt k v) (cut_value_back k c e x z) a))))

    pub part_of_rest : RestCounts k c e f n m → AddsPart
    part_of_rest h =
        let v = covers_at_place c x y z e f order n m h.hides in
        let i = corner_side k (on (toward_of c) e.a) (on (toward_of c) e.b) X Y Z (far c x) (far c y) (far c z) scale_pos (sum_up _ _ η_pos ξ_pos) (sum_up _ _ ζ_pos ξ_pos) in
        let j = first_side k (on (toward_of c) e.a) (on (toward_of c) e.b) X Y Z (far c x) (far c y) (far c z) scale_pos (sum_up _ _ η_pos ξ_pos) (sum_up _ _ ζ_pos ξ_pos) in
        let l = second_side k (on (toward_of c) e.a) (on (toward_of c) e.b) X Y Z (far c x) (far c y) (far c z) scale_pos (sum_up _ _ η_pos ξ_pos) (sum_up _ _ ζ_pos ξ_pos) in (
          part_some c x y z ξ_pos η_pos ζ_pos (whole_some c f x y z order h.turned),
          (
            part_covers X Y Z (far c x) (far c y) (far c z) (on (toward_of c) e.a) (on (toward_of c) e.b) n m ξ_pos η_pos ζ_pos v.0 (least_of _ _ (over_is v.0.i v.0.j v.0.k) v.1),
            elim (sides_of h.reaches) [ inl a ↦ inl (i.1 a) | inr b ↦ elim b [ inl a ↦ inr (inl (j.1 a)) | inr a ↦ inr (inr (l.1 a)) ] ],
          ),
        )

    pub rest_of_part : AddsPart → RestCounts k c e f n m
    rest_of_part (some, (covers, side)) =
        let v = covers_of_part X Y Z (far c x) (far c y) (far c z) (on (toward_of c) e.a) (on (toward_of c) e.b) n m ξ_pos η_pos ζ_pos covers in
        let i = corner_side k (on (toward_of c) e.a) (on (toward_of c) e.b) X Y Z (far c x) (far c y) (far c z) scale_pos (sum_up _ _ η_pos ξ_pos) (sum_up _ _ ζ_pos ξ_pos) in
        let j = first_side k (on (toward_of c) e.a) (on (toward_of c) e.b) X Y Z (far c x) (far c y) (far c z) scale_pos (sum_up _ _ η_pos ξ_pos) (sum_up _ _ ζ_pos ξ_pos) in
        let l = second_side k (on (toward_of c) e.a) (on (toward_of c) e.b) X Y Z (far c x) (far c y) (far c z) scale_pos (sum_up _ _ η_pos ξ_pos) (sum_up _ _ ζ_pos ξ_pos) in
        record {
          turned = turned_of c f x y z order (some_of_part c x y z ξ_pos η_pos ζ_pos some);
          hides = rest_at_place c x y z e f order n m (v.0, most_of _ _ (over_is v.0.i v.0.j v.0.k) v.1);
          reaches = of_sides (elim side [ inl a ↦ inl (i.0 a) | inr b ↦ elim b [ inl a ↦ inr (inl (j.0 a)) | inr a ↦ inr (inr (l.0 a)) ] ]);
        }

    -- the same triangle, by the border's ends
    pub part_is : AddsPart ≡ (let p = crossing_of c z x in let q = crossing_of c y x in
        Adds k (corner_with c p q e.a) (corner_with c p q e.b) (corner_with c p q x) (second_with c p q) (first_with c p q) n m)
    part_is = sym ((λ r. let p = crossing_back c z x r in let q = crossing_back c y x r in
        Adds k (corner_with c p q e.a) (corner_with c p q e.b) (corner_with c p q x) (second_with c p q) (first_with c p q) n m)
        ∙ (λ r. Adds k (grown (scale_is c x y z r) (on (toward_of c) e.a)) (grown (scale_is c x y z r) (on (toward_of c) e.b)) (grown (scale_is c x y z r) (on (toward_of c) x)) (first_is c x y z r) (second_is c x y z r) n m))

pub corner_rest : CornerRestLaw
corner_rest k c s e f x y z n m order x_beyond y_before z_before m_pos =
    let u = over_beyond c x x_beyond in
    let v = over_before c y y_before in
    let w = over_before c z z_before in
    let t = part_is k c e f x y z order n m u v w in
    ((λ h. subst (λ t. t) t (part_of_rest k c e f x y z order n m u v w h)), (λ h. rest_of_part k c e f x y z order n m u v w (subst (λ t. t) (sym t) h)))
