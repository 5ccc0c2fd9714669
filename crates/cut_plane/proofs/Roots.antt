-- A border crosses an edge, as they are seen, where the value of the border's line along the edge changes its sign.
use Rattle.std.proofs.Common.{◌≡◌, ℕ, suc, ◌+◌, ◌<◌, ◌⊎◌, inl, inr, Bool, true, false, [], ◌∷◌, List, refl, sym, ap, ◌∙◌, arith, unsigned_abs}
use Rattle.std.specs.Prelude.{◌≢◌, ℤ, pos, ◌+ℤ◌, ◌-ℤ◌, ◌*ℤ◌, ◌<ℤ◌}
use Rattle.std.proofs.lemmas.Int.{ints, by_lt_z}
use Rattle.lattice.proofs.OnLines.{dot_difference}
use Rattle.integers.proofs.Absolutes.{abs_of_positive, abs_of_negative, some_abs_of_positive, some_abs_of_negative}
use Rattle.integers.proofs.Comparisons.{positive_not_zero}
use Rattle.integers.proofs.Ring.{Expr, var, con, ◌⊕◌, ◌⊖◌, ◌⊗◌, ring, by_two}
use Rattle.integers.proofs.Signs.{zero_of_mul, zero_of_times, zero_of_either}
use Rattle.lattice.specs.declared.points.Corner.{Corner}
use Rattle.lattice.specs.declared.lines.Line.{Line}
use Rattle.lattice.specs.Triple.{Triple, dot, cross, det, right_axis, up_axis, IsZero}
use Rattle.lattice.specs.Points.{Point, point_of, scaled, across_of, upward_of}
use Rattle.lattice.specs.Cuts.{Plane, toward_of, plane_height, IsOnPlane}
use Rattle.lattice.specs.Lines.{IsOnLine}
use Rattle.lattice.specs.LowestTerms.{leading_of}
use Rattle.lattice.proofs.SameLines.{along_line}
use Rattle.lattice.proofs.SightLines.{alike, multiple_x, multiple_y, multiple_z, right_axis-is}
use Rattle.lattice.proofs.Vectors.{Letters, letters, dots, crosses, dot_somewhere}
use Rattle.geometry.specs.Faces.{difference, normal, IsFlat, face_sum, edge_sum, share_point, IsPointOfFace}
use Rattle.geometry.specs.Parts.{Part, Face}
use Rattle.geometry.specs.Cuts.{over_of, crossing_of, IsOnBorder}
use Rattle.geometry.proofs.Borders.{edge_rise, on_of_rise}
use Rattle.geometry.proofs.FacePoints.{face_point-round}
use Rattle.cut_plane.proofs.Sights.{is_before}
use Rattle.cut_plane.specs.inner.Crossings.{line_value}
use Rattle.cut_plane.proofs.LoneCorners.{IsAlone, before, beyond}
use Rattle.cut_plane.proofs.FaceBorders.{beyond_of, before_of, not_all_before, not_all_beyond}
use Rattle.cut_plane.proofs.Steps.{border_gap, seen_det, normal_turned}

-- ---- the corner alone
-- the face's corners from the one that is alone on its side of the plane
pub record Apex (c : Plane) {s : Part} (f : Face s) : Type 0 where
  pub k : Corner
  pub l : Corner
  pub t : Corner
  pub alone : IsAlone c k l t
  pub of_face : (r : Point) → IsPointOfFace f.a f.b f.c r → IsPointOfFace k l t r
  pub on_face : (r : Point) → IsPointOfFace k l t r → IsPointOfFace f.a f.b f.c r
  pub same_normal : normal k l t ≡ normal f.a f.b f.c

module _ (c : Plane) {s : Part} (f : Face s) where
  first_apex : IsAlone c f.a f.b f.c → Apex c f
  first_apex alone = record { k = f.a; l = f.b; t = f.c; alone = alone; of_face = λ r h. h; on_face = λ r h. h; same_normal = refl }

  second_apex : IsAlone c f.b f.c f.a → Apex c f
  second_apex alone = record { k = f.b; l = f.c; t = f.a; alone = alone; of_face = face_point-round f.a f.b f.c; on_face = λ r h. face_point-round f.c f.a f.b r (face_point-round f.b f.c f.a r h); same_normal = normal_turned f.a f.b f.c }

  third_apex : IsAlone c f.c f.a f.b → Apex c f
  third_apex alone = record {
    k = f.c;
    l = f.a;
    t = f.b;
    alone = alone;
    of_face = λ r h. face_point-round f.b f.c f.a r (face_point-round f.a f.b f.c r h);
    on_face = face_point-round f.c f.a f.b;
    same_normal = normal_turned f.b f.c f.a ∙ normal_turned f.a f.b f.c;
  }

  -- a face with a point on the plane has one
  pub apex_of : (r : Point) → IsOnBorder c f r → Apex c f
  apex_of r on = by (is_before c f.a) (is_before c f.b) (is_before c f.c) refl refl refl
    where
      by : (u v w : Bool) → is_before c f.a ≡ u → is_before c f.b ≡ v → is_before c f.c ≡ w → Apex c f
      by false false false e g h = absurd (not_all_beyond c f.a f.b f.c r on.0 on.1 (beyond_of c f.a e) (beyond_of c f.b g) (beyond_of c f.c h))
      by true true true e g h = absurd (not_all_before c f.a f.b f.c r on.0 on.1 (before_of c f.a e) (before_of c f.b g) (before_of c f.c h))
      by true false false e g h = first_apex (before (before_of c f.a e) (beyond_of c f.b g) (beyond_of c f.c h))
      by false true true e g h = first_apex (beyond (beyond_of c f.a e) (before_of c f.b g) (before_of c f.c h))
      by false true false e g h = second_apex (before (before_of c f.b g) (beyond_of c f.c h) (beyond_of c f.a e))
      by true false true e g h = second_apex (beyond (beyond_of c f.b g) (before_of c f.c h) (before_of c f.a e))
      by false false true e g h = third_apex (before (before_of c f.c h) (beyond_of c f.a e) (beyond_of c f.b g))
      by true true false e g h = third_apex (beyond (beyond_of c f.c h) (before_of c f.a e) (before_of c f.b g))

-- ---- no border is seen as a point
-- the normal times the height of one of its face's ways
flat_way : (d : Triple) (k l t : Corner) → IsZero (cross d (normal k l t)) → dot d (difference k l) ≢ pos 0 → IsFlat k l t
flat_way d k l t none rises = record {
  x = out (normal k l t).x (by_two _ _ (cross d (normal k l t)).y (pos 0) (difference k l).z (cross d (normal k l t)).z (pos 0) (pos 0 -ℤ (difference k l).y)
      (ring values ((dots D (way 6) ⊗ N.x) ⊖ con (pos 0)) ((((crosses D N).y ⊖ con (pos 0)) ⊗ (way 6).z) ⊕ (((crosses D N).z ⊖ con (pos 0)) ⊗ (con (pos 0) ⊖ (way 6).y))) refl) none.y none.z);
  y = out (normal k l t).y (by_two _ _ (cross d (normal k l t)).z (pos 0) (difference k l).x (cross d (normal k l t)).x (pos 0) (pos 0 -ℤ (difference k l).z)
      (ring values ((dots D (way 6) ⊗ N.y) ⊖ con (pos 0)) ((((crosses D N).z ⊖ con (pos 0)) ⊗ (way 6).x) ⊕ (((crosses D N).x ⊖ con (pos 0)) ⊗ (con (pos 0) ⊖ (way 6).z))) refl) none.z none.x);
  z = out (normal k l t).z (by_two _ _ (cross d (normal k l t)).x (pos 0) (difference k l).y (cross d (normal k l t)).y (pos 0) (pos 0 -ℤ (difference k l).x)
      (ring values ((dots D (way 6) ⊗ N.z) ⊖ con (pos 0)) ((((crosses D N).x ⊖ con (pos 0)) ⊗ (way 6).y) ⊕ (((crosses D N).y ⊖ con (pos 0)) ⊗ (con (pos 0) ⊖ (way 6).x))) refl) none.x none.y);
}
  where
    values : List ℤ
    values = d.x ∷ d.y ∷ d.z ∷ k.x ∷ k.y ∷ k.z ∷ l.x ∷ l.y ∷ l.z ∷ t.x ∷ t.y ∷ t.z ∷ []

    D : Letters
    D = letters 0

    way : ℕ → Letters
    way n = record { x = var n ⊖ var 3; y = var (suc n) ⊖ var 4; z = var (suc (suc n)) ⊖ var 5 }

    N : Letters
    N = crosses (way 6) (way 9)

    some : (a : ℤ) → a ≢ pos 0 → 0 < unsigned_abs a
    some a h = by_lt_z a (pos 0) (λ p. omega (arith, ints)) (λ p. by_lt_z (pos 0) a (λ q. omega (arith, ints)) (λ q. absurd (h (omega (arith, ints)))))

    out : (n : ℤ) → dot d (difference k l) *ℤ n ≡ pos 0 → n ≡ pos 0
    out n e = zero_of_times (dot d (difference k l)) n (some _ rises) e

rising : (c : Plane) (k l t : Corner) → IsAlone c k l t → dot (toward_of c) (difference k l) ≢ pos 0
rising c k l t alone level = by alone
  where
    step : (over_of c l) -ℤ (over_of c k) ≡ pos 2 *ℤ dot (toward_of c) (difference k l)
    step = ring ((toward_of c).x ∷ (toward_of c).y ∷ (toward_of c).z ∷ k.x ∷ k.y ∷ k.z ∷ l.x ∷ l.y ∷ l.z ∷ plane_height c ∷ [])
        (((con (pos 2) ⊗ dots (letters 0) (letters 6)) ⊖ var 9) ⊖ ((con (pos 2) ⊗ dots (letters 0) (letters 3)) ⊖ var 9))
        (con (pos 2) ⊗ dots (letters 0) (record { x = var 6 ⊖ var 3; y = var 7 ⊖ var 4; z = var 8 ⊖ var 5 })) refl

    same : (x y z : ℤ) → y -ℤ x ≡ pos 2 *ℤ z → z ≡ pos 0 → y ≡ x
    same x y z e h = omega (arith, ints)

    clash : (x y : ℤ) → y ≡ x → pos 0 <ℤ x → y <ℤ pos 0 → ⊥
    clash x y e h g = omega (arith, ints)

    clash_back : (x y : ℤ) → y ≡ x → x <ℤ pos 0 → pos 0 <ℤ y → ⊥
    clash_back x y e h g = omega (arith, ints)

    by : IsAlone c k l t → ⊥
    by (before p q r) = clash (over_of c k) (over_of c l) (same _ _ _ step level) p q
    by (beyond p q r) = clash_back (over_of c k) (over_of c l) (same _ _ _ step level) p q

module _ (c : Plane) (k l t : Corner) (alone : IsAlone c k l t) where
  abbrev d : Triple
  d = toward_of c

  abbrev R : Triple
  R = right_axis d

  abbrev U : Triple
  U = up_axis d

  abbrev B : Triple
  B = cross d (normal k l t)

  some_direction : ¬ IsZero d
  some_direction none = rising c k l t alone ((λ i. ((none.x i *ℤ v.x) +ℤ (none.y i *ℤ v.y)) +ℤ (none.z i *ℤ v.z)) ∙ ring (v.x ∷ v.y ∷ v.z ∷ []) (((con (pos 0) ⊗ var 0) ⊕ (con (pos 0) ⊗ var 1)) ⊕ (con (pos 0) ⊗ var 2)) (con (pos 0)) refl)
    where
      v : Triple
      v = difference k l

  pub some_border : ¬ IsFlat k l t → dot R B ≡ pos 0 → dot U B ≡ pos 0 → ⊥
  some_border whole across upward = whole (flat_way d k l t (record { x = out B.x d.x (multiple_x d B along); y = out B.y d.y (multiple_y d B along); z = out B.z d.z (multiple_z d B along) }) (rising c k l t alone))
    where
      along : IsZero (cross B d)
      along = alike R R B d (right_axis-is d).square (right_axis-is d).level across upward

      level : dot d B ≡ pos 0
      level = ring (d.x ∷ d.y ∷ d.z ∷ (normal k l t).x ∷ (normal k l t).y ∷ (normal k l t).z ∷ []) (dots (letters 0) (crosses (letters 0) (letters 3))) (con (pos 0)) refl

      out : (x y : ℤ) → dot d d *ℤ x ≡ dot d B *ℤ y → x ≡ pos 0
      out x y e = zero_of_mul (dot d d) x (dot_somewhere d some_direction) (e ∙ ap (λ z. z *ℤ y) level ∙ ring (y ∷ []) (con (pos 0) ⊗ var 0) (con (pos 0)) refl)

  -- ---- its ends are points of the face on the plane
  first_on_face : (i j : ℕ) → edge_sum k l i j ≡ face_sum k l t i j 0
  first_on_face i j = λ q. record { x = more (pos i *ℤ k.x) (pos j *ℤ l.x) t.x q; y = more (pos i *ℤ k.y) (pos j *ℤ l.y) t.y q; z = more (pos i *ℤ k.z) (pos j *ℤ l.z) t.z q; w = weight q }
    where
      more : (x y z : ℤ) → x +ℤ y ≡ (x +ℤ y) +ℤ (pos 0 *ℤ z)
      more x y z = ring (x ∷ y ∷ z ∷ []) (var 0 ⊕ var 1) ((var 0 ⊕ var 1) ⊕ (con (pos 0) ⊗ var 2)) refl

      weight : pos (i + j) ≡ pos (i + j + 0)
      weight = ap pos (omega arith)

  second_on_face : (i j : ℕ) → edge_sum k t i j ≡ face_sum k l t i 0 j
  second_on_face i j = λ q. record { x = more (pos i *ℤ k.x) l.x (pos j *ℤ t.x) q; y = more (pos i *ℤ k.y) l.y (pos j *ℤ t.y) q; z = more (pos i *ℤ k.z) l.z (pos j *ℤ t.z) q; w = weight q }
    where
      more : (x y z : ℤ) → x +ℤ z ≡ (x +ℤ (pos 0 *ℤ y)) +ℤ z
      more x y z = ring (x ∷ y ∷ z ∷ []) (var 0 ⊕ var 2) ((var 0 ⊕ (con (pos 0) ⊗ var 1)) ⊕ var 2) refl

      weight : pos (i + j) ≡ pos (i + 0 + j)
      weight = ap pos (omega arith)

  crossing_on : (m : Corner) → (over_of c k <ℤ pos 0) × (pos 0 <ℤ over_of c m) ⊎ (pos 0 <ℤ over_of c k) × (over_of c m <ℤ pos 0) → IsOnPlane c (crossing_of c k m)
  crossing_on m apart = on_of_rise c (crossing_of c k m) (edge_rise c k m (unsigned_abs (over_of c m)) (unsigned_abs (over_of c k)) ∙ by apart)
    where
      by : (over_of c k <ℤ pos 0) × (pos 0 <ℤ over_of c m) ⊎ (pos 0 <ℤ over_of c k) × (over_of c m <ℤ pos 0)
          → (pos (unsigned_abs (over_of c m)) *ℤ over_of c k) +ℤ (pos (unsigned_abs (over_of c k)) *ℤ over_of c m) ≡ pos 0
      by (inl (p, q)) =
          (λ i. (abs_of_positive (over_of c m) q i *ℤ over_of c k) +ℤ (abs_of_negative (over_of c k) p i *ℤ over_of c m))
          ∙ ring (over_of c k ∷ over_of c m ∷ []) ((var 1 ⊗ var 0) ⊕ ((con (pos 0) ⊖ var 0) ⊗ var 1)) (con (pos 0)) refl
      by (inr (p, q)) =
          (λ i. (abs_of_negative (over_of c m) q i *ℤ over_of c k) +ℤ (abs_of_positive (over_of c k) p i *ℤ over_of c m))
          ∙ ring (over_of c k ∷ over_of c m ∷ []) (((con (pos 0) ⊖ var 1) ⊗ var 0) ⊕ (var 0 ⊗ var 1)) (con (pos 0)) refl

  first_apart : (over_of c k <ℤ pos 0) × (pos 0 <ℤ over_of c l) ⊎ (pos 0 <ℤ over_of c k) × (over_of c l <ℤ pos 0)
  first_apart = by alone
    where
      by : IsAlone c k l t → (over_of c k <ℤ pos 0) × (pos 0 <ℤ over_of c l) ⊎ (pos 0 <ℤ over_of c k) × (over_of c l <ℤ pos 0)
      by (before p q r) = inr (p, q)
      by (beyond p q r) = inl (p, q)

  second_apart : (over_of c k <ℤ pos 0) × (pos 0 <ℤ over_of c t) ⊎ (pos 0 <ℤ over_of c k) × (over_of c t <ℤ pos 0)
  second_apart = by alone
    where
      by : IsAlone c k l t → (over_of c k <ℤ pos 0) × (pos 0 <ℤ over_of c t) ⊎ (pos 0 <ℤ over_of c k) × (over_of c t <ℤ pos 0)
      by (before p q r) = inr (p, r)
      by (beyond p q r) = inl (p, r)

  some_weight : (m : Corner) → (over_of c k <ℤ pos 0) × (pos 0 <ℤ over_of c m) ⊎ (pos 0 <ℤ over_of c k) × (over_of c m <ℤ pos 0) → 0 < unsigned_abs (over_of c m)
  some_weight m apart = by apart
    where
      by : (over_of c k <ℤ pos 0) × (pos 0 <ℤ over_of c m) ⊎ (pos 0 <ℤ over_of c k) × (over_of c m <ℤ pos 0) → 0 < unsigned_abs (over_of c m)
      by (inl (p, q)) = some_abs_of_positive (over_of c m) q
      by (inr (p, q)) = some_abs_of_negative (over_of c m) q

  pub first_end : IsPointOfFace k l t (crossing_of c k l) × IsOnPlane c (crossing_of c k l)
  first_end = (
    (unsigned_abs (over_of c l), unsigned_abs (over_of c k), 0, let h = some_weight l first_apart in omega arith, first_on_face (unsigned_abs (over_of c l)) (unsigned_abs (over_of c k))),
    crossing_on l first_apart,
  )

  pub second_end : IsPointOfFace k l t (crossing_of c k t) × IsOnPlane c (crossing_of c k t)
  second_end = (
    (unsigned_abs (over_of c t), 0, unsigned_abs (over_of c k), let h = some_weight t second_apart in omega arith, second_on_face (unsigned_abs (over_of c t)) (unsigned_abs (over_of c k))),
    crossing_on t second_apart,
  )

-- ---- the value of a line along an edge
share_is : (s : Triple) (a b : Corner) (n m : ℤ) → dot s (scaled (share_point a b n m)) ≡ ((m -ℤ n) *ℤ dot s (scaled (point_of a))) +ℤ (n *ℤ dot s (scaled (point_of b)))
share_is s a b n m =
    ring (s.x ∷ s.y ∷ s.z ∷ a.x ∷ a.y ∷ a.z ∷ b.x ∷ b.y ∷ b.z ∷ n ∷ m ∷ [])
    (dots (letters 0) (record { x = mixed 3 6; y = mixed 4 7; z = mixed 5 8 }))
    (((var 10 ⊖ var 9) ⊗ dots (letters 0) (letters 3)) ⊕ (var 9 ⊗ dots (letters 0) (letters 6))) refl
  where
    mixed : ℕ → ℕ → Expr
    mixed i j = ((var 10 ⊖ var 9) ⊗ var i) ⊕ (var 9 ⊗ var j)

-- a line has a or b
pub some_number : (a b : ℤ) → pos 0 <ℤ leading_of a b → a ≡ pos 0 → b ≡ pos 0 → ⊥
some_number a b leads e g = positive_not_zero (leading_of a b) leads ((λ i. leading_of (e i) (g i)))

module _ (d : Triple) (line : Line) (a b : Corner) where
  pub value_share : (n m : ℤ) → line_value d line (share_point a b n m) ≡ ((m -ℤ n) *ℤ line_value d line (point_of a)) +ℤ (n *ℤ line_value d line (point_of b))
  value_share n m =
      (λ i. ((line.a *ℤ share_is (right_axis d) a b n m i) +ℤ (line.b *ℤ share_is (up_axis d) a b n m i)) -ℤ (line.c *ℤ m))
      ∙ ring (line.a ∷ line.b ∷ line.c ∷ across_of d (point_of a) ∷ upward_of d (point_of a) ∷ across_of d (point_of b) ∷ upward_of d (point_of b) ∷ n ∷ m ∷ [])
      (((var 0 ⊗ (((var 8 ⊖ var 7) ⊗ var 3) ⊕ (var 7 ⊗ var 5))) ⊕ (var 1 ⊗ (((var 8 ⊖ var 7) ⊗ var 4) ⊕ (var 7 ⊗ var 6)))) ⊖ (var 2 ⊗ var 8))
      (((var 8 ⊖ var 7) ⊗ (((var 0 ⊗ var 3) ⊕ (var 1 ⊗ var 4)) ⊖ (var 2 ⊗ con (pos 1)))) ⊕ (var 7 ⊗ (((var 0 ⊗ var 5) ⊕ (var 1 ⊗ var 6)) ⊖ (var 2 ⊗ con (pos 1))))) refl

  value_change : line_value d line (point_of b) -ℤ line_value d line (point_of a) ≡ (line.a *ℤ dot (right_axis d) (difference a b)) +ℤ (line.b *ℤ dot (up_axis d) (difference a b))
  value_change =
      ring (line.a ∷ line.b ∷ line.c ∷ across_of d (point_of a) ∷ upward_of d (point_of a) ∷ across_of d (point_of b) ∷ upward_of d (point_of b) ∷ [])
      ((((var 0 ⊗ var 5) ⊕ (var 1 ⊗ var 6)) ⊖ (var 2 ⊗ con (pos 1))) ⊖ (((var 0 ⊗ var 3) ⊕ (var 1 ⊗ var 4)) ⊖ (var 2 ⊗ con (pos 1))))
      ((var 0 ⊗ (var 5 ⊖ var 3)) ⊕ (var 1 ⊗ (var 6 ⊖ var 4))) refl
      ∙ sym (λ i. (line.a *ℤ dot_difference (right_axis d) a b i) +ℤ (line.b *ℤ dot_difference (up_axis d) a b i))

module _ (c : Plane) (k l t : Corner) (alone : IsAlone c k l t) (line : Line) (on_line : (r : Point) → IsPointOfFace k l t r → IsOnPlane c r → IsOnLine (toward_of c) line r) (a b : Corner) where
  abbrev D : Triple
  D = toward_of c

  abbrev X : Triple
  X = right_axis D

  abbrev Y : Triple
  Y = up_axis D

  abbrev N : Triple
  N = cross D (normal k l t)

  abbrev e : Triple
  e = difference a b

  -- the border runs along the line
  along_border : (line.a *ℤ dot X N) +ℤ (line.b *ℤ dot Y N) ≡ pos 0
  along_border = zero_of_times (pos 2 *ℤ over_of c k) _ (twice (over_of c k) some_over)
      (ring (line.a ∷ line.b ∷ over_of c k ∷ dot X N ∷ dot Y N ∷ [])
      ((con (pos 2) ⊗ var 2) ⊗ ((var 0 ⊗ var 3) ⊕ (var 1 ⊗ var 4)))
      ((var 0 ⊗ (var 2 ⊗ (con (pos 2) ⊗ var 3))) ⊕ (var 1 ⊗ (var 2 ⊗ (con (pos 2) ⊗ var 4)))) refl
      ∙ sym (λ i. (line.a *ℤ border_gap c k l t alone X i) +ℤ (line.b *ℤ border_gap c k l t alone Y i))
      ∙ along_line D line (crossing_of c k l) (crossing_of c k t) (on_line _ (first_end c k l t alone).0 (first_end c k l t alone).1) (on_line _ (second_end c k l t alone).0 (second_end c k l t alone).1))
    where
      twice : (x : ℤ) → 0 < unsigned_abs x → 0 < unsigned_abs (pos 2 *ℤ x)
      twice x h = omega (arith, ints)

      some_over : 0 < unsigned_abs (over_of c k)
      some_over = by alone
        where
          by : IsAlone c k l t → 0 < unsigned_abs (over_of c k)
          by (before p q r) = some_abs_of_positive (over_of c k) p
          by (beyond p q r) = some_abs_of_negative (over_of c k) p

  -- where the value does not change along the edge, the projections are parallel
  pub parallel_of_same : line_value D line (point_of a) ≡ line_value D line (point_of b) → det D e N ≡ pos 0
  parallel_of_same same = zero_of_mul (dot X X) (det D e N) (right_axis-is D).square (sym (seen_det D X e N (right_axis-is D).level) ∙ none)
    where
      nothing : (x y z : ℤ) → y -ℤ x ≡ z → x ≡ y → z ≡ pos 0
      nothing x y z e h = omega (arith, ints)

      level : (line.a *ℤ dot X e) +ℤ (line.b *ℤ dot Y e) ≡ pos 0
      level = nothing _ _ _ (value_change D line a b) same

      none : (dot Y N *ℤ dot X e) -ℤ (dot X N *ℤ dot Y e) ≡ pos 0
      none = zero_of_either line.a line.b _ (some_number line.a line.b line.leads)
          (by_two _ _ ((line.a *ℤ dot X e) +ℤ (line.b *ℤ dot Y e)) (pos 0) (dot Y N) ((line.a *ℤ dot X N) +ℤ (line.b *ℤ dot Y N)) (pos 0) (pos 0 -ℤ dot Y e)
          (ring (line.a ∷ line.b ∷ dot X e ∷ dot Y e ∷ dot X N ∷ dot Y N ∷ [])
          ((var 0 ⊗ ((var 5 ⊗ var 2) ⊖ (var 4 ⊗ var 3))) ⊖ con (pos 0))
          (((((var 0 ⊗ var 2) ⊕ (var 1 ⊗ var 3)) ⊖ con (pos 0)) ⊗ var 5) ⊕ ((((var 0 ⊗ var 4) ⊕ (var 1 ⊗ var 5)) ⊖ con (pos 0)) ⊗ (con (pos 0) ⊖ var 3))) refl) level along_border)
          (by_two _ _ ((line.a *ℤ dot X e) +ℤ (line.b *ℤ dot Y e)) (pos 0) (pos 0 -ℤ dot X N) ((line.a *ℤ dot X N) +ℤ (line.b *ℤ dot Y N)) (pos 0) (dot X e)
          (ring (line.a ∷ line.b ∷ dot X e ∷ dot Y e ∷ dot X N ∷ dot Y N ∷ [])
          ((var 1 ⊗ ((var 5 ⊗ var 2) ⊖ (var 4 ⊗ var 3))) ⊖ con (pos 0))
          (((((var 0 ⊗ var 2) ⊕ (var 1 ⊗ var 3)) ⊖ con (pos 0)) ⊗ (con (pos 0) ⊖ var 4)) ⊕ ((((var 0 ⊗ var 4) ⊕ (var 1 ⊗ var 5)) ⊖ con (pos 0)) ⊗ var 2)) refl) level along_border)

  -- and the other way, for a face that is not flat
  pub same_of_parallel : ¬ IsFlat k l t → det D e N ≡ pos 0 → line_value D line (point_of a) ≡ line_value D line (point_of b)
  same_of_parallel whole parallel = equal _ _ _ (value_change D line a b) none
    where
      equal : (x y z : ℤ) → y -ℤ x ≡ z → z ≡ pos 0 → x ≡ y
      equal x y z e h = omega (arith, ints)

      flat : (dot Y N *ℤ dot X e) -ℤ (dot X N *ℤ dot Y e) ≡ pos 0
      flat = seen_det D X e N (right_axis-is D).level ∙ ap (λ z. dot X X *ℤ z) parallel ∙ ring (dot X X ∷ []) (var 0 ⊗ con (pos 0)) (con (pos 0)) refl

      none : (line.a *ℤ dot X e) +ℤ (line.b *ℤ dot Y e) ≡ pos 0
      none = zero_of_either (dot X N) (dot Y N) _ (some_border c k l t alone whole)
          (by_two _ _ ((line.a *ℤ dot X N) +ℤ (line.b *ℤ dot Y N)) (pos 0) (dot X e) ((dot Y N *ℤ dot X e) -ℤ (dot X N *ℤ dot Y e)) (pos 0) (pos 0 -ℤ line.b)
          (ring (line.a ∷ line.b ∷ dot X e ∷ dot Y e ∷ dot X N ∷ dot Y N ∷ [])
          ((var 4 ⊗ ((var 0 ⊗ var 2) ⊕ (var 1 ⊗ var 3))) ⊖ con (pos 0))
          (((((var 0 ⊗ var 4) ⊕ (var 1 ⊗ var 5)) ⊖ con (pos 0)) ⊗ var 2) ⊕ ((((var 5 ⊗ var 2) ⊖ (var 4 ⊗ var 3)) ⊖ con (pos 0)) ⊗ (con (pos 0) ⊖ var 1))) refl) along_border flat)
          (by_two _ _ ((line.a *ℤ dot X N) +ℤ (line.b *ℤ dot Y N)) (pos 0) (dot Y e) ((dot Y N *ℤ dot X e) -ℤ (dot X N *ℤ dot Y e)) (pos 0) line.a
          (ring (line.a ∷ line.b ∷ dot X e ∷ dot Y e ∷ dot X N ∷ dot Y N ∷ [])
          ((var 5 ⊗ ((var 0 ⊗ var 2) ⊕ (var 1 ⊗ var 3))) ⊖ con (pos 0))
          (((((var 0 ⊗ var 4) ⊕ (var 1 ⊗ var 5)) ⊖ con (pos 0)) ⊗ var 3) ⊕ ((((var 5 ⊗ var 2) ⊖ (var 4 ⊗ var 3)) ⊖ con (pos 0)) ⊗ var 0)) refl) along_border flat)
