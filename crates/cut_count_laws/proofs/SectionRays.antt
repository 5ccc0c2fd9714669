-- Whether a point of an edge is in the section is told by the borders that cross the edge's line after it.
use Rattle.std.proofs.Common.{◌≡◌, ℕ, ◌+◌, ◌<◌, Bool, true, false, [], ◌∷◌, refl, sym, subst, ap, ◌∙◌, arith, unsigned_abs}
use Rattle.std.specs.Prelude.{ℤ, pos, ◌+ℤ◌, ◌-ℤ◌, ◌*ℤ◌, ◌<ℤ◌, ◌≤ℤ◌}
use Rattle.std.proofs.lemmas.Int.{ints}
use Rattle.std.proofs.lemmas.Option.{get_or_from_slice_get}
use Rattle.geometry.proofs.FacePoints.{face_point-round}
use Rattle.integers.proofs.Absolutes.{abs_of_not_negative}
use Rattle.integers.proofs.Ring.{var, con, ◌⊕◌, ◌⊖◌, ◌⊗◌, ring, same_of_gap, by_one}
use Rattle.lattice.specs.declared.points.Corner.{Corner}
use Rattle.lattice.specs.declared.soup.Tri.{Tri}
use Rattle.lattice.specs.Triple.{Triple, right_axis, up_axis}
use Rattle.lattice.specs.Points.{Point, point_of}
use Rattle.hiding_laws.proofs.Readings.{dot-share}
use Rattle.lattice.specs.Cuts.{Plane, toward_of}
use Rattle.geometry.specs.Faces.{share_point, IsPointOfFace}
use Rattle.geometry.specs.Parts.{Part, Face, Edge}
use Rattle.geometry.specs.Views.{IsEndOn}
use Rattle.geometry.specs.Cuts.{border, IsSeenOverInCut, IsInSection}
use Rattle.geometry.specs.Counts.{Side}
use Rattle.cut_plane.proofs.LoneCorners.{IsAlone, before, beyond, border_sum, sum_on_plane, sum_there, above_sum, right_sum}
use Rattle.cut_plane.proofs.Along.{crossings_there}
use Rattle.cut_plane.proofs.FaceBorders.{beyond_of, before_of, crossing_turned, in_first, in_second, in_third}
use Rattle.cut_plane.proofs.Planes.{turns}
use Rattle.cut_plane.proofs.Sections.{with_sides, sides_of, sides_at, sides_between, left_at, face_of, section_decides}
use Rattle.cut_plane.proofs.Sights.{Sight, sight_of, right_by, above_by, turn_of, counts_at, crossing_sight, is_before, left_by, left_of_border, left_of_triangle, if_apart}
use Rattle.cut_plane.proofs.Xors.{xor, same_of_xor, odd_in, odd_in-same}
use Rattle.cut_count_laws.proofs.Rays.{is_ahead, by_border, of_border, border_ahead, in_wedge, IsOnWay}
use Rattle.cut_count_laws.proofs.Laws.{RayLaw}
use Rattle.cut_count_laws.proofs.Wedges.{wedge}

-- ---- a place of an edge
module _ (d : Triple) {s : Part} (e : Edge s) (n m : ℤ) where
  abbrev A : Sight
  A = sight_of d (point_of e.a)

  abbrev B : Sight
  B = sight_of d (point_of e.b)

  abbrev T : Sight
  T = sight_of d (share_point e.a e.b n m)

  pub on_line : turn_of A B T ≡ pos 0
  on_line =
      (λ i. turn_of A B (record { u = dot-share (right_axis d) e.a e.b n m i; v = dot-share (up_axis d) e.a e.b n m i; w = m }))
      ∙ ring (A.u ∷ A.v ∷ B.u ∷ B.v ∷ n ∷ m ∷ [])
      (turns (record { u = var 0; v = var 1; w = con (pos 1) }) (record { u = var 2; v = var 3; w = con (pos 1) })
      (record { u = ((var 5 ⊖ var 4) ⊗ var 0) ⊕ (var 4 ⊗ var 2); v = ((var 5 ⊖ var 4) ⊗ var 1) ⊕ (var 4 ⊗ var 3); w = var 5 }))
      (con (pos 0)) refl

  some_way : ¬ IsEndOn d e → ¬ ((right_by A B ≡ pos 0) × (above_by A B ≡ pos 0))
  some_way across (right, above) = across (record { across = sym (same_of_gap _ _ right); upward = sym (same_of_gap _ _ above) })

-- ---- no border is on the line of sight
module _ (c : Plane) {s : Part} (f : Face s) (p : Point) (free : ¬ IsSeenOverInCut c (border f) p) where
  abbrev P : Sight
  P = sight_of (toward_of c) p

  -- a sum of a border's ends that is seen over the point is a point of the border
  module _ (k l t : Corner) (alone : IsAlone c k l t) (of_face : (r : Point) → IsPointOfFace f.a f.b f.c r → IsPointOfFace k l t r) (on_face : (r : Point) → IsPointOfFace k l t r → IsPointOfFace f.a f.b f.c r) where
    abbrev K : Sight
    K = crossing_sight c k l

    abbrev L : Sight
    L = crossing_sight c k t

    gap : (i j x y z w x' y' : ℤ) (i' j' : ℕ) → pos i' ≡ i → pos j' ≡ j → ((i *ℤ x) +ℤ (j *ℤ y)) *ℤ w ≡ z *ℤ ((i *ℤ x') +ℤ (j *ℤ y'))
        → (pos i' *ℤ ((x *ℤ w) -ℤ (z *ℤ x'))) +ℤ (pos j' *ℤ ((y *ℤ w) -ℤ (z *ℤ y'))) ≡ pos 0
    gap i j x y z w x' y' i' j' e g same =
        (λ q. (e q *ℤ ((x *ℤ w) -ℤ (z *ℤ x'))) +ℤ (g q *ℤ ((y *ℤ w) -ℤ (z *ℤ y'))))
        ∙ by_one _ _ (((i *ℤ x) +ℤ (j *ℤ y)) *ℤ w) (z *ℤ ((i *ℤ x') +ℤ (j *ℤ y'))) (pos 1)
        (ring (i ∷ j ∷ x ∷ y ∷ z ∷ w ∷ x' ∷ y' ∷ [])
        (((var 0 ⊗ ((var 2 ⊗ var 5) ⊖ (var 4 ⊗ var 6))) ⊕ (var 1 ⊗ ((var 3 ⊗ var 5) ⊖ (var 4 ⊗ var 7)))) ⊖ con (pos 0))
        (((((var 0 ⊗ var 2) ⊕ (var 1 ⊗ var 3)) ⊗ var 5) ⊖ (var 4 ⊗ ((var 0 ⊗ var 6) ⊕ (var 1 ⊗ var 7)))) ⊗ con (pos 1)) refl) same

    off_border : ¬ IsOnWay K L P
    off_border on = free (
      r,
      (on_face r (sum_there c k l t alone i j (some on.i on.j on.i_least on.j_least on.some)), sum_on_plane c k l t alone i j),
      record {
        across = same_of_gap _ _ (right_sum c k l t alone p f of_face on_face i j ∙ gap on.i on.j K.u L.u P.u P.w K.w L.w i j (abs_of_not_negative on.i on.i_least) (abs_of_not_negative on.j on.j_least) on.same_u);
        upward = same_of_gap _ _ (above_sum c k l t alone p f of_face on_face i j ∙ gap on.i on.j K.v L.v P.v P.w K.w L.w i j (abs_of_not_negative on.i on.i_least) (abs_of_not_negative on.j on.j_least) on.same_v);
      },
    )
      where
        i : ℕ
        i = unsigned_abs on.i

        j : ℕ
        j = unsigned_abs on.j

        r : Point
        r = border_sum c k l t alone i j

        some : (i j : ℤ) → pos 0 ≤ℤ i → pos 0 ≤ℤ j → pos 0 <ℤ (i +ℤ j) → 0 < unsigned_abs i + unsigned_abs j
        some i j h g q = omega (arith, ints)

    off_way : ¬ IsOnWay K (crossing_sight c t k) P
    off_way on = off_border (subst (λ (x : Sight). IsOnWay K x P) (crossing_turned c t k) on)

-- ---- one face

other_of_xor : (x y z : Bool) → xor (xor x y) z ≡ false → xor x z ≡ y
other_of_xor false y z h = sym (same_of_xor y z h)
other_of_xor true false z h = sym (ap (λ v. xor true v) (same_of_xor true z h))
other_of_xor true true z h = ap (λ v. xor true v) h

module _ (k : Side) (c : Plane) {s : Part} (e : Edge s) (n m : ℤ) (across : ¬ IsEndOn (toward_of c) e) (there : pos 0 <ℤ m) where
  abbrev from : Sight
  from = A (toward_of c) e n m

  abbrev to : Sight
  to = B (toward_of c) e n m

  abbrev place : Sight
  place = T (toward_of c) e n m

  abbrev pub ahead : Sight → Sight → Bool
  ahead = is_ahead k from to place

  abbrev pub between : Sight → Bool
  between = in_wedge k from to place

  module _ (f : Face s) (free : ¬ IsSeenOverInCut c (border f) (share_point e.a e.b n m)) where
    alone_balanced : (x y z : Corner) → IsAlone c x y z → ((r : Point) → IsPointOfFace f.a f.b f.c r → IsPointOfFace x y z r) → ((r : Point) → IsPointOfFace x y z r → IsPointOfFace f.a f.b f.c r)
        → xor (xor (counts_at (crossing_sight c x y) (crossing_sight c z x) place) (ahead (crossing_sight c x y) (crossing_sight c z x))) (xor (between (crossing_sight c x y)) (between (crossing_sight c z x))) ≡ false
    alone_balanced x y z alone of_face on_face =
        let ends = crossings_there c x y z alone in
        wedge k from to place (crossing_sight c x y) (crossing_sight c z x) (omega (arith, ints)) (omega (arith, ints)) there ends.0 (subst (λ (a : Sight). pos 0 <ℤ a.w) (crossing_turned c x z) ends.1)
        (some_way (toward_of c) e n m across) (on_line (toward_of c) e n m) (off_way c f (share_point e.a e.b n m) free x y z alone of_face on_face)

    abbrev AB : Sight
    AB = crossing_sight c f.a f.b

    abbrev BC : Sight
    BC = crossing_sight c f.b f.c

    abbrev CA : Sight
    CA = crossing_sight c f.c f.a

    abbrev Both : Bool → Bool → Bool → Bool
    Both u v w = xor (left_by u v w AB BC CA place) (by_border ahead u v w AB BC CA)

    abbrev Sides : Bool → Bool → Bool → Bool
    Sides u v w = xor (xor (if_apart u v (between AB)) (if_apart v w (between BC))) (if_apart w u (between CA))

    first_alone : IsAlone c f.a f.b f.c → xor (xor (counts_at AB CA place) (ahead AB CA)) (xor (between AB) (between CA)) ≡ false
    first_alone alone = alone_balanced f.a f.b f.c alone (λ r h. h) (λ r h. h)

    second_alone : IsAlone c f.b f.c f.a → xor (xor (counts_at BC AB place) (ahead BC AB)) (xor (between BC) (between AB)) ≡ false
    second_alone alone = alone_balanced f.b f.c f.a alone (face_point-round f.a f.b f.c) (λ r h. face_point-round f.c f.a f.b r (face_point-round f.b f.c f.a r h))

    third_alone : IsAlone c f.c f.a f.b → xor (xor (counts_at CA BC place) (ahead CA BC)) (xor (between CA) (between BC)) ≡ false
    third_alone alone = alone_balanced f.c f.a f.b alone (λ r h. face_point-round f.b f.c f.a r (face_point-round f.a f.b f.c r h)) (face_point-round f.c f.a f.b)

    balanced : xor (xor (left_of_border c f.a f.b f.c place) (of_border ahead c f.a f.b f.c)) (sides_between between c f.a f.b f.c) ≡ false
    balanced = by (is_before c f.a) (is_before c f.b) (is_before c f.c) refl refl refl
      where
        by : (u v w : Bool) → is_before c f.a ≡ u → is_before c f.b ≡ v → is_before c f.c ≡ w → xor (Both u v w) (Sides u v w) ≡ false
        by false false false g h i = refl
        by true true true g h i = refl
        by true false false g h i = in_first (Both true false false) (between AB) (between CA) (first_alone (before (before_of c f.a g) (beyond_of c f.b h) (beyond_of c f.c i)))
        by false true true g h i = in_first (Both false true true) (between AB) (between CA) (first_alone (beyond (beyond_of c f.a g) (before_of c f.b h) (before_of c f.c i)))
        by false true false g h i = in_second (Both false true false) (between BC) (between AB) (second_alone (before (before_of c f.b h) (beyond_of c f.c i) (beyond_of c f.a g)))
        by true false true g h i = in_second (Both true false true) (between BC) (between AB) (second_alone (beyond (beyond_of c f.b h) (before_of c f.c i) (before_of c f.a g)))
        by false false true g h i = in_third (Both false false true) (between CA) (between BC) (third_alone (before (before_of c f.c i) (beyond_of c f.a g) (beyond_of c f.b h)))
        by true true false g h i = in_third (Both true true false) (between CA) (between BC) (third_alone (beyond (beyond_of c f.c i) (before_of c f.a g) (before_of c f.b h)))

    face_same : xor (left_of_border c f.a f.b f.c place) (sides_between between c f.a f.b f.c) ≡ of_border ahead c f.a f.b f.c
    face_same = other_of_xor (left_of_border c f.a f.b f.c place) (of_border ahead c f.a f.b f.c) (sides_between between c f.a f.b f.c) balanced

-- ---- all faces
ahead_at : (k : Side) (c : Plane) (s : Part) (o : Corner) (e : Edge s) (n m : ℤ) (across : ¬ IsEndOn (toward_of c) e) (there : pos 0 <ℤ m) (f : Face s)
    → border_ahead k c s o e n m f.tri ≡ of_border (ahead k c e n m across there) c f.a f.b f.c
ahead_at k c s o e n m across there f = λ i. of_border (ahead k c e n m across there) c
    (get_or_from_slice_get s.corners f.tri.a f.a o f.at_a i)
    (get_or_from_slice_get s.corners f.tri.b f.b o f.at_b i)
    (get_or_from_slice_get s.corners f.tri.c f.c o f.at_c i)

pub ray : RayLaw
ray k c s closed in_range o e n m across there free = ((λ h. told.0 (same ∙ h)), (λ h. sym same ∙ told.1 h))
  where
    P : Sight
    P = sight_of (toward_of c) (share_point e.a e.b n m)

    told : (odd_in (left_of_triangle c s o P) s.triangles ≡ true → IsInSection c s (share_point e.a e.b n m)) × (IsInSection c s (share_point e.a e.b n m) → odd_in (left_of_triangle c s o P) s.triangles ≡ true)
    told = section_decides c s in_range o (share_point e.a e.b n m) there

    moved : Tri → Bool
    moved t = xor (left_of_triangle c s o P t) (sides_of c s closed o (between k c e n m across there) t)

    at : (f : Face s) → moved f.tri ≡ border_ahead k c s o e n m f.tri
    at f =
        (λ i. xor (left_at c s o P f i) (sides_at c s closed o (between k c e n m across there) f i))
        ∙ face_same k c e n m across there f (λ on. free (f, on))
        ∙ sym (ahead_at k c s o e n m across there f)

    same : odd_in (left_of_triangle c s o P) s.triangles ≡ odd_in (border_ahead k c s o e n m) s.triangles
    same =
        sym (with_sides c s closed o (between k c e n m across there) (left_of_triangle c s o P))
        ∙ odd_in-same moved (border_ahead k c s o e n m) s.triangles (λ t in_list.
        let (f, is) = face_of s in_range t in_list in
        ap moved (sym is) ∙ at f ∙ ap (border_ahead k c s o e n m) is)
