-- When a face hides a point, and that this is decided.
use Rattle.std.proofs.Common.{◌≡◌, ◌⊎◌, ℕ, ◌<◌, zero, suc, length, slice_get, Some, inl, inr, refl, sym, ap, subst, ◌∙◌, arith}
use Rattle.std.specs.Prelude.{ℤ, pos, ◌+ℤ◌, ◌*ℤ◌, ◌<ℤ◌, ◌≤ℤ◌, ◌↔◌}
use Rattle.std.proofs.lemmas.Int.{ints, by_lt_z}
use Rattle.std.proofs.lemmas.Option.{slice_get_within}
use Rattle.geometry.proofs.FacePoints.{face_point-round, face_point-turned, face_point-of_side}
use Rattle.integers.proofs.Comparisons.{positive_not_zero, not_negative_of_positive, not_negative_at, positive_at, negation_positive, times_zero, zero_between}
use Rattle.integers.proofs.Signs.{mul_nonneg, mul_pos, nonneg_of_mul, pos_of_mul}
use Rattle.lattice.specs.declared.points.Corner.{Corner}
use Rattle.lattice.specs.declared.soup.Tri.{Tri}
use Rattle.lattice.specs.Triple.{Triple, dot, right_axis, IsZero}
use Rattle.lattice.specs.Points.{Point, IsPoint, point_of, OnOneSight}
use Rattle.lattice.proofs.Vectors.{dot_somewhere}
use Rattle.lattice.proofs.SightLines.{right_axis-is}
use Rattle.geometry.specs.Faces.{normal, FaceHides, IsFlat, facing_of}
use Rattle.geometry.specs.Parts.{Part, Face, HasNoFlatTriangle}
use Rattle.geometry.specs.Views.{IsHidden}
use Rattle.hiding_laws.specs.Values.{side_of, depth_of, IsBehind, SideHides, WideSideHides}
use Rattle.hiding_laws.proofs.Screens.{Screen, area_of, turn_of, AreApart, length_of, along_of, rest_of, side_lead_of}
use Rattle.geometry.proofs.Listed.{same_element}
use Rattle.hiding_laws.proofs.Decisions.{same_or, less_or, at_most_or, four_or, either_or, alike_or, element_or, below_next}
use Rattle.hiding_laws.proofs.Values.{facing-turned}
use Rattle.hiding_laws.proofs.ScreenFaces.{covers_from, covers_to}
use Rattle.hiding_laws.proofs.ScreenScale.{area_scale, turn_scale, lead_scale}
use Rattle.hiding_laws.proofs.ScreenSides.{side_from, side_to, length_least, length_zero, length_none}
use Rattle.hiding_laws.proofs.EdgeOn.{edge_on}
use Rattle.hiding_laws.proofs.OnScreens.{seen, covers_of_hides, hides_of_covers, side_hides_of_covers, side_covers_of_hides}
use Rattle.hiding_laws.proofs.Flatness.{together_flat}

pub hides-turned : (d : Triple) (a b c : Corner) (p : Point) → FaceHides d a b c p → FaceHides d a c b p
hides-turned d a b c p h = record {
  point = h.point;
  on_face = face_point-turned a b c h.point h.on_face;
  same_sight = h.same_sight;
  nearer = h.nearer;
}

-- ---- a face that is turned to the viewer
-- the direction is not 0, since the face has a sign
front_somewhere : (d : Triple) (a b c : Corner) → pos 0 <ℤ facing_of d a b c → ¬ IsZero d
front_somewhere d a b c front none = positive_not_zero _ front ((λ t. (none.x t *ℤ (normal a b c).x) +ℤ (none.y t *ℤ (normal a b c).y) +ℤ (none.z t *ℤ (normal a b c).z)) ∙ no_sum (normal a b c).x (normal a b c).y (normal a b c).z)
  where
    no_sum : (x y z : ℤ) → ((pos 0 *ℤ x) +ℤ (pos 0 *ℤ y)) +ℤ (pos 0 *ℤ z) ≡ pos 0
    no_sum x y z = omega (arith, ints)

module _ (d : Triple) (a b c : Corner) (p : Point) (point : IsPoint p) (front : pos 0 <ℤ facing_of d a b c) where
  abbrev at : Corner → Screen
  at a = seen d (point_of a)

  level : dot (right_axis d) d ≡ pos 0
  level = (right_axis-is d).level

  factor : pos 0 <ℤ dot (right_axis d) (right_axis d)
  factor = (right_axis-is d).square

  square : pos 0 <ℤ dot d d
  square = dot_somewhere d (front_somewhere d a b c front)

  seen_front : pos 0 <ℤ area_of (at a) (at b) (at c)
  seen_front = positive_at _ _ (area_scale d (right_axis d) level a b c) (mul_pos _ _ factor front)

  turn_to : (k l : Corner) → pos 0 ≤ℤ turn_of (seen d p) (at k) (at l) → pos 0 ≤ℤ side_of d k l p
  turn_to k l h = nonneg_of_mul _ _ factor (not_negative_at _ _ (sym (turn_scale d (right_axis d) level k l p)) h)

  turn_from : (k l : Corner) → pos 0 ≤ℤ side_of d k l p → pos 0 ≤ℤ turn_of (seen d p) (at k) (at l)
  turn_from k l h = not_negative_at _ _ (turn_scale d (right_axis d) level k l p) (mul_nonneg _ _ (not_negative_of_positive _ factor) h)

  behind_of : FaceHides d a b c p → IsBehind d a b c p
  behind_of h =
      let t = covers_to (at a) (at b) (at c) (seen d p) (covers_of_hides d a b c p h) point seen_front in
      record {
        ab = turn_to a b t.2;
        bc = turn_to b c t.0;
        ca = turn_to c a t.1;
        depth = pos_of_mul _ _ square (pos_of_mul _ _ factor (positive_at _ _ (sym (lead_scale d (right_axis d) level a b c p)) t.3));
      }

  hides_of : IsBehind d a b c p → FaceHides d a b c p
  hides_of h = hides_of_covers d a b c p (covers_from (at a) (at b) (at c) (seen d p) point seen_front (turn_from b c h.bc) (turn_from c a h.ca) (turn_from a b h.ab)
      (positive_at _ _ (lead_scale d (right_axis d) level a b c p) (mul_pos _ _ factor (mul_pos _ _ square h.depth))))

pub hides-front : (d : Triple) (a b c : Corner) (p : Point) → IsPoint p → pos 0 <ℤ facing_of d a b c → FaceHides d a b c p ↔ IsBehind d a b c p
hides-front d a b c p point front = (behind_of d a b c p point front, hides_of d a b c p point front)

-- ---- an edge-on face
-- corners that are seen apart are not on one line of sight
pub wide : (d : Triple) (k l : Corner) → AreApart (seen d (point_of k)) (seen d (point_of l)) → ¬ OnOneSight d (point_of k) (point_of l)
wide d k l apart same = apart (once _ _ same.across, once _ _ same.upward)
  where
    once : (x y : ℤ) → x *ℤ pos 1 ≡ y *ℤ pos 1 → x ≡ y
    once x y e = omega (arith, ints)

-- what an edge-on face hides, one of its sides hides, and what a side hides, the face hides
pub wide-side-hides : (d : Triple) (a b c : Corner) (p : Point) → IsPoint p → ¬ IsZero d → ¬ IsFlat a b c → facing_of d a b c ≡ pos 0 → FaceHides d a b c p
    → WideSideHides d a b p ⊎ WideSideHides d b c p ⊎ WideSideHides d c a p
wide-side-hides d a b c p point somewhere solid flat h =
    let at = λ (a : Corner). seen d (point_of a) in
    let none = area_scale d (right_axis d) (right_axis-is d).level a b c ∙ ap (λ v. dot (right_axis d) (right_axis d) *ℤ v) flat ∙ times_zero (dot (right_axis d) (right_axis d)) in
    elim (edge_on (at a) (at b) (at c) (seen d p) (covers_of_hides d a b c p h) point none (λ e. solid (together_flat d a b c (dot_somewhere d somewhere) flat e))) [
      | inl q ↦ inr (inl (wide d b c q.0, side_hides_of_covers d b c p q.1))
      | inr more ↦ elim more [
        | inl q ↦ inr (inr (wide d c a q.0, side_hides_of_covers d c a p q.1))
        | inr q ↦ inl (wide d a b q.0, side_hides_of_covers d a b p q.1)
      ]
    ]

first_side : (d : Triple) (a b c : Corner) (p : Point) → SideHides d a b p → FaceHides d a b c p
first_side d a b c p h = record { point = h.point; on_face = face_point-of_side a b c h.point h.on_side; same_sight = h.same_sight; nearer = h.nearer }

pub hides_around : (d : Triple) (a b c : Corner) (p : Point) → FaceHides d a b c p → FaceHides d b c a p
hides_around d a b c p h = record {
  point = h.point;
  on_face = face_point-round a b c h.point h.on_face;
  same_sight = h.same_sight;
  nearer = h.nearer;
}

pub face-hides : (d : Triple) (a b c : Corner) (p : Point) → SideHides d a b p ⊎ SideHides d b c p ⊎ SideHides d c a p → FaceHides d a b c p
face-hides d a b c p h = elim h [
  | inl q ↦ first_side d a b c p q
  | inr more ↦ elim more [
    | inl q ↦ hides_around d c a b p (hides_around d b c a p (first_side d b c a p q))
    | inr q ↦ hides_around d c a b p (first_side d c a b p q)
  ]
]

-- ---- whether a part hides a point is decided
module _ (d : Triple) (p : Point) (point : IsPoint p) where
  -- whether a side that is not seen end-on hides it
  wide_or : (k l : Corner) → WideSideHides d k l p ⊎ ¬ WideSideHides d k l p
  wide_or k l = by_lt_z (pos 0) (length_of K L) long (λ h. inr (λ q. q.0 (one_sight (length_zero K L (zero_between _ (length_least K L) h)))))
    where
      K : Screen
      K = seen d (point_of k)

      L : Screen
      L = seen d (point_of l)

      one_sight : (K.u ≡ L.u) × (K.v ≡ L.v) → OnOneSight d (point_of k) (point_of l)
      one_sight e = record { across = ap (λ v. v *ℤ pos 1) e.0; upward = ap (λ v. v *ℤ pos 1) e.1 }

      Four : Type 0
      Four = (turn_of (seen d p) K L ≡ pos 0) × (pos 0 ≤ℤ along_of K L (seen d p)) × (pos 0 ≤ℤ rest_of K L (seen d p)) × (pos 0 <ℤ side_lead_of K L (seen d p))

      long : pos 0 <ℤ length_of K L → WideSideHides d k l p ⊎ ¬ WideSideHides d k l p
      long h = alike_or Four (WideSideHides d k l p)
          (λ f. (wide d k l (λ e. positive_not_zero _ h (length_none K L e)), side_hides_of_covers d k l p (side_from K L (seen d p) point h f.0 f.1 f.2 f.3)))
          (λ q. side_to K L (seen d p) (side_covers_of_hides d k l p q.1) point h)
          (four_or (turn_of (seen d p) K L ≡ pos 0) (pos 0 ≤ℤ along_of K L (seen d p)) (pos 0 ≤ℤ rest_of K L (seen d p)) (pos 0 <ℤ side_lead_of K L (seen d p)) (same_or _ _) (at_most_or _ _) (at_most_or _ _) (less_or _ _))

  -- whether a face that is turned to the viewer hides it
  pub front_or : (a b c : Corner) → pos 0 <ℤ facing_of d a b c → FaceHides d a b c p ⊎ ¬ FaceHides d a b c p
  front_or a b c front =
      let exact = hides-front d a b c p point front in
      alike_or ((pos 0 ≤ℤ side_of d a b p) × (pos 0 ≤ℤ side_of d b c p) × (pos 0 ≤ℤ side_of d c a p) × (pos 0 <ℤ depth_of a b c p)) (FaceHides d a b c p)
      (λ f. exact.1 (record { ab = f.0; bc = f.1; ca = f.2; depth = f.3 }))
      (λ h. let e = exact.0 h in (e.ab, e.bc, e.ca, e.depth))
      (four_or (pos 0 ≤ℤ side_of d a b p) (pos 0 ≤ℤ side_of d b c p) (pos 0 ≤ℤ side_of d c a p) (pos 0 <ℤ depth_of a b c p) (at_most_or _ _) (at_most_or _ _) (at_most_or _ _) (less_or _ _))

  edge_on_or : (a b c : Corner) → ¬ IsZero d → ¬ IsFlat a b c → facing_of d a b c ≡ pos 0 → FaceHides d a b c p ⊎ ¬ FaceHides d a b c p
  edge_on_or a b c somewhere solid flat =
      alike_or (WideSideHides d a b p ⊎ WideSideHides d b c p ⊎ WideSideHides d c a p) (FaceHides d a b c p)
      (λ w. face-hides d a b c p (elim w [ inl q ↦ inl q.1 | inr more ↦ elim more [ inl q ↦ inr (inl q.1) | inr q ↦ inr (inr q.1) ] ]))
      (wide-side-hides d a b c p point somewhere solid flat)
      (either_or _ _ (wide_or a b) (either_or _ _ (wide_or b c) (wide_or c a)))

  face_or : (a b c : Corner) → ¬ IsZero d → ¬ IsFlat a b c → FaceHides d a b c p ⊎ ¬ FaceHides d a b c p
  face_or a b c somewhere solid =
      by_lt_z (pos 0) (facing_of d a b c) (front_or a b c)
      (λ h. by_lt_z (facing_of d a b c) (pos 0)
      (λ back. alike_or (FaceHides d a c b p) (FaceHides d a b c p) (hides-turned d a c b p) (hides-turned d a b c p) (front_or a c b (positive_at _ _ (facing-turned d a b c) (negation_positive _ back))))
      (λ g. edge_on_or a b c somewhere solid (zero_between _ g h)))

module _ (d : Triple) (somewhere : ¬ IsZero d) (s : Part) (solid : HasNoFlatTriangle s) (p : Point) (point : IsPoint p) where
  -- a face with this number hides it
  abbrev HidesAt : ℕ → Type 0
  HidesAt n = (f : Face s) × (f.number ≡ n) × FaceHides d f.a f.b f.c p

  -- the corners are those of the triangle's numbers
  face_at_or : (f : Face s) → HidesAt f.number ⊎ ¬ HidesAt f.number
  face_at_or f = alike_or (FaceHides d f.a f.b f.c p) (HidesAt f.number) (λ h. (f, refl, h)) back (face_or d p point f.a f.b f.c somewhere (solid f))
    where
      back : HidesAt f.number → FaceHides d f.a f.b f.c p
      back (g, same, h) =
          let t : g.tri ≡ f.tri = same_element s.triangles g.number f.number g.tri f.tri same g.listed f.listed in
          let a : g.a ≡ f.a = same_element s.corners g.tri.a f.tri.a g.a f.a (ap (λ (t : Tri). t.a) t) g.at_a f.at_a in
          let b : g.b ≡ f.b = same_element s.corners g.tri.b f.tri.b g.b f.b (ap (λ (t : Tri). t.b) t) g.at_b f.at_b in
          let c : g.c ≡ f.c = same_element s.corners g.tri.c f.tri.c g.c f.c (ap (λ (t : Tri). t.c) t) g.at_c f.at_c in
          subst (λ (x : Corner). FaceHides d x f.b f.c p) a (subst (λ (x : Corner). FaceHides d g.a x f.c p) b (subst (λ (x : Corner). FaceHides d g.a g.b x p) c h))

  -- a triangle with a number that is no corner's has no face
  at_or : (n : ℕ) → HidesAt n ⊎ ¬ HidesAt n
  at_or n = elim (element_or s.triangles n) [
    | inr past ↦ inr (λ g. omega (arith, slice_get_within s.triangles g.0.number g.0.tri g.0.listed, g.1))
    | inl t ↦ with_triangle t.0 t.1
  ]
    where
      with_triangle : (t : Tri) → slice_get s.triangles n ≡ Some t → HidesAt n ⊎ ¬ HidesAt n
      with_triangle t listed = elim (element_or s.corners t.a) [
        | inr past ↦ inr (λ g. omega (arith, past, slice_get_within s.corners g.0.tri.a g.0.a g.0.at_a, ap (λ (t : Tri). t.a) (tri_of g)))
        | inl a ↦ elim (element_or s.corners t.b) [
          | inr past ↦ inr (λ g. omega (arith, past, slice_get_within s.corners g.0.tri.b g.0.b g.0.at_b, ap (λ (t : Tri). t.b) (tri_of g)))
          | inl b ↦ elim (element_or s.corners t.c) [
            | inr past ↦ inr (λ g. omega (arith, past, slice_get_within s.corners g.0.tri.c g.0.c g.0.at_c, ap (λ (t : Tri). t.c) (tri_of g)))
            | inl c ↦ face_at_or (record { number = n; tri = t; a = a.0; b = b.0; c = c.0; listed = listed; at_a = a.1; at_b = b.1; at_c = c.1 })
          ]
        ]
      ]
        where
          tri_of : (g : HidesAt n) → g.0.tri ≡ t
          tri_of g = same_element s.triangles g.0.number n g.0.tri t g.1 g.0.listed listed

  abbrev HidesBelow : ℕ → Type 0
  HidesBelow n = (f : Face s) × (f.number < n) × FaceHides d f.a f.b f.c p

  below_or : (n : ℕ) → HidesBelow n ⊎ ¬ HidesBelow n
  below_or zero = inr (λ g. omega (arith, g.1))
  below_or (suc n) = alike_or (HidesBelow n ⊎ HidesAt n) (HidesBelow (suc n)) (λ h. elim h [ inl g ↦ (g.0, omega (arith, g.1), g.2) | inr g ↦ (g.0, omega (arith, g.1), g.2) ]) split (either_or _ _ (below_or n) (at_or n))
    where
      split : HidesBelow (suc n) → HidesBelow n ⊎ HidesAt n
      split g = elim (below_next g.0.number n g.1) [ inl h ↦ inl (g.0, h, g.2) | inr e ↦ inr (g.0, e, g.2) ]

pub decided : (d : Triple) → ¬ IsZero d → (s : Part) → HasNoFlatTriangle s → (p : Point) → IsPoint p → IsHidden d s p ⊎ ¬ IsHidden d s p
decided d somewhere s solid p point =
    alike_or (HidesBelow d somewhere s solid p point (length s.triangles)) (IsHidden d s p) (λ g. (g.0, g.2)) (λ g. (g.0, slice_get_within s.triangles g.0.number g.0.tri g.0.listed, g.1))
    (below_or d somewhere s solid p point (length s.triangles))
