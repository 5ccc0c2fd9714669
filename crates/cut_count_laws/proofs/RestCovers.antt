-- What the plane leaves of a face is nearer over a point where a sum of the face's corners that is not before the plane covers it.
use Rattle.std.proofs.Common.{◌≡◌, ◌⊎◌, ℕ, ◌+◌, ◌<◌, zero, suc, inl, inr, refl, sym, ap, subst, ◌∙◌, arith}
use Rattle.std.specs.Prelude.{ℤ, pos, ◌+ℤ◌, ◌-ℤ◌, ◌*ℤ◌, ◌≤ℤ◌, ◌<ℤ◌}
use Rattle.std.proofs.lemmas.Int.{ints, by_lt_z}
use Rattle.integers.proofs.Absolutes.{natural_not_negative}
use Rattle.lattice.specs.declared.points.Corner.{Corner}
use Rattle.lattice.specs.Triple.{right_axis, up_axis}
use Rattle.lattice.specs.Points.{Point, across_of, upward_of, height_of, OnOneSight, IsNearer}
use Rattle.lattice.specs.Cuts.{Plane, toward_of, plane_height, IsBeyond, IsBeforePlane}
use Rattle.geometry.specs.Cuts.{over_of, start_corner, end_corner, FaceHidesInCut}
use Rattle.geometry.specs.Faces.{face_sum, share_point, IsPointOfFace}
use Rattle.geometry.specs.Parts.{Part, Face, Edge}
use Rattle.geometry.proofs.Borders.{rise_of, face_rise, rise_before, rise_beyond}
use Rattle.geometry.proofs.FacePoints.{dot-face_sum, face_point-round}
use Rattle.hiding_laws.proofs.Screens.{Screen, Covers}
use Rattle.hiding_laws.proofs.OnScreens.{seen, unpack}
use Rattle.hiding_laws.proofs.Places.{place_of}
use Rattle.hiding_laws.proofs.Seen.{on, place_seen}
use Rattle.cut_count_laws.specs.CutCovers.{RestHides}
use Rattle.cut_count_laws.proofs.Rests.{AreInOrder}

-- ---- the face's corners from another one on
module _ {s : Part} (f : Face s) where
  pub point_from : (x y z : Corner) → AreInOrder f x y z → (q : Point) → IsPointOfFace f.a f.b f.c q → IsPointOfFace x y z q
  point_from x y z (inl (a, b, c)) q h = subst (λ t. t) (λ r. IsPointOfFace (a r) (b r) (c r) q) h
  point_from x y z (inr (inl (b, c, a))) q h = subst (λ t. t) (λ r. IsPointOfFace (b r) (c r) (a r) q) (face_point-round f.a f.b f.c q h)
  point_from x y z (inr (inr (c, a, b))) q h =
      subst (λ t. t) (λ r. IsPointOfFace (c r) (a r) (b r) q) (face_point-round f.b f.c f.a q (face_point-round f.a f.b f.c q h))

  pub point_of_from : (x y z : Corner) → AreInOrder f x y z → (q : Point) → IsPointOfFace x y z q → IsPointOfFace f.a f.b f.c q
  point_of_from x y z (inl (a, b, c)) q h = subst (λ t. t) (λ r. IsPointOfFace (sym a r) (sym b r) (sym c r) q) h
  point_of_from x y z (inr (inl (b, c, a))) q h =
      face_point-round f.c f.a f.b q (face_point-round f.b f.c f.a q (subst (λ t. t) (λ r. IsPointOfFace (sym b r) (sym c r) (sym a r) q) h))
  point_of_from x y z (inr (inr (c, a, b))) q h = face_point-round f.c f.a f.b q (subst (λ t. t) (λ r. IsPointOfFace (sym c r) (sym a r) (sym b r) q) h)

  -- something of each of the three sides
  pub side_from : (x y z : Corner) → AreInOrder f x y z → (R : Corner → Corner → Type 0)
      → (side : ℕ) × (side < 3) × R (start_corner f side) (end_corner f side) → R x y ⊎ R y z ⊎ R z x
  side_from x y z (inl (a, b, c)) R (zero, l, h) = inl (subst (λ t. t) (λ r. R (a r) (b r)) h)
  side_from x y z (inl (a, b, c)) R (suc zero, l, h) = inr (inl (subst (λ t. t) (λ r. R (b r) (c r)) h))
  side_from x y z (inl (a, b, c)) R (suc (suc n), l, h) = inr (inr (subst (λ t. t) (λ r. R (c r) (a r)) h))
  side_from x y z (inr (inl (b, c, a))) R (zero, l, h) = inr (inr (subst (λ t. t) (λ r. R (a r) (b r)) h))
  side_from x y z (inr (inl (b, c, a))) R (suc zero, l, h) = inl (subst (λ t. t) (λ r. R (b r) (c r)) h)
  side_from x y z (inr (inl (b, c, a))) R (suc (suc n), l, h) = inr (inl (subst (λ t. t) (λ r. R (c r) (a r)) h))
  side_from x y z (inr (inr (c, a, b))) R (zero, l, h) = inr (inl (subst (λ t. t) (λ r. R (a r) (b r)) h))
  side_from x y z (inr (inr (c, a, b))) R (suc zero, l, h) = inr (inr (subst (λ t. t) (λ r. R (b r) (c r)) h))
  side_from x y z (inr (inr (c, a, b))) R (suc (suc n), l, h) = inl (subst (λ t. t) (λ r. R (c r) (a r)) h)

  zero_in : 0 < 3
  zero_in = omega arith

  one_in : 1 < 3
  one_in = omega arith

  two_in : 2 < 3
  two_in = omega arith

  pub side_of_from : (x y z : Corner) → AreInOrder f x y z → (R : Corner → Corner → Type 0)
      → R x y ⊎ R y z ⊎ R z x → (side : ℕ) × (side < 3) × R (start_corner f side) (end_corner f side)
  side_of_from x y z (inl (a, b, c)) R (inl h) = (0, zero_in, subst (λ t. t) (λ r. R (sym a r) (sym b r)) h)
  side_of_from x y z (inl (a, b, c)) R (inr (inl h)) = (1, one_in, subst (λ t. t) (λ r. R (sym b r) (sym c r)) h)
  side_of_from x y z (inl (a, b, c)) R (inr (inr h)) = (2, two_in, subst (λ t. t) (λ r. R (sym c r) (sym a r)) h)
  side_of_from x y z (inr (inl (b, c, a))) R (inl h) = (1, one_in, subst (λ t. t) (λ r. R (sym b r) (sym c r)) h)
  side_of_from x y z (inr (inl (b, c, a))) R (inr (inl h)) = (2, two_in, subst (λ t. t) (λ r. R (sym c r) (sym a r)) h)
  side_of_from x y z (inr (inl (b, c, a))) R (inr (inr h)) = (0, zero_in, subst (λ t. t) (λ r. R (sym a r) (sym b r)) h)
  side_of_from x y z (inr (inr (c, a, b))) R (inl h) = (2, two_in, subst (λ t. t) (λ r. R (sym c r) (sym a r)) h)
  side_of_from x y z (inr (inr (c, a, b))) R (inr (inl h)) = (0, zero_in, subst (λ t. t) (λ r. R (sym a r) (sym b r)) h)
  side_of_from x y z (inr (inr (c, a, b))) R (inr (inr h)) = (1, one_in, subst (λ t. t) (λ r. R (sym b r) (sym c r)) h)

-- ---- covers
module _ (c : Plane) (x y z : Corner) where
  -- twice the height above the plane of a sum of the corners
  abbrev pub over_sum : ℤ → ℤ → ℤ → ℤ
  over_sum i j k = ((i *ℤ over_of c x) +ℤ (j *ℤ over_of c y)) +ℤ (k *ℤ over_of c z)

  abbrev pub X : Screen
  X = on (toward_of c) x

  abbrev pub Y : Screen
  Y = on (toward_of c) y

  abbrev pub Z : Screen
  Z = on (toward_of c) z

  -- a sum of the corners that is not before the plane covers
  abbrev pub CoversNotBefore : Screen → Type 0
  CoversNotBefore p = (v : Covers X Y Z p) × (over_sum v.i v.j v.k ≤ℤ pos 0)

  abbrev pub CoversBeyond : Screen → Type 0
  CoversBeyond p = (v : Covers X Y Z p) × (over_sum v.i v.j v.k <ℤ pos 0)

  module _ {s : Part} (f : Face s) (order : AreInOrder f x y z) (p : Point) where
    -- a sum on the line of sight covers, and is as high above the plane as its point
    covers_of : (i j k : ℕ) → 0 < i + j + k → OnOneSight (toward_of c) (face_sum x y z i j k) p → IsNearer (toward_of c) (face_sum x y z i j k) p
        → (v : Covers X Y Z (seen (toward_of c) p)) × (rise_of c (face_sum x y z i j k) ≡ over_sum v.i v.j v.k)
    covers_of i j k some same near = (
      record {
        i = pos i;
        j = pos j;
        k = pos k;
        i_least = natural_not_negative i;
        j_least = natural_not_negative j;
        k_least = natural_not_negative k;
        some = is_some i j k some;
        same_u = ap (λ v. v *ℤ p.w) (sym (dot-face_sum (right_axis (toward_of c)) x y z i j k)) ∙ same.across;
        same_v = ap (λ v. v *ℤ p.w) (sym (dot-face_sum (up_axis (toward_of c)) x y z i j k)) ∙ same.upward;
        nearer = subst (λ v. (height_of (toward_of c) p *ℤ pos (i + j + k)) <ℤ (v *ℤ p.w)) (dot-face_sum (toward_of c) x y z i j k) near;
      },
      face_rise c x y z i j k,
    )
      where
        is_some : (i j k : ℕ) → 0 < i + j + k → pos 0 <ℤ ((pos i +ℤ pos j) +ℤ pos k)
        is_some i j k h = omega (arith, ints)

    lower : (u v : ℤ) → ¬ (v <ℤ u) → (u -ℤ v) ≤ℤ pos 0
    lower u v h = by_lt_z v u (λ l. absurd (h l)) (λ l. most u v l)
      where
        most : (u v : ℤ) → u ≤ℤ v → (u -ℤ v) ≤ℤ pos 0
        most u v l = omega (arith, ints)

    pub covers_of_rest : RestHides c f p → CoversNotBefore (seen (toward_of c) p)
    covers_of_rest h =
        let (i, j, k, some, is) = point_from f x y z order h.point h.on_face in
        let v = covers_of i j k some (subst (λ q. OnOneSight (toward_of c) q p) is h.same_sight) (subst (λ q. IsNearer (toward_of c) q p) is h.nearer) in (
          v.0,
          subst (λ (r : ℤ). r ≤ℤ pos 0) v.1
              (lower (pos 2 *ℤ height_of (toward_of c) (face_sum x y z i j k)) (plane_height c *ℤ pos (i + j + k)) (subst (λ q. ¬ IsBeforePlane c q) is h.not_before)),
        )

    -- what hides in the cut covers by a sum beyond the plane
    pub covers_of_hides : FaceHidesInCut c f p → CoversBeyond (seen (toward_of c) p)
    covers_of_hides h =
        let (i, j, k, some, is) = point_from f x y z order h.point h.on_face in
        let v = covers_of i j k some (subst (λ q. OnOneSight (toward_of c) q p) is h.same_sight) (subst (λ q. IsNearer (toward_of c) q p) is h.nearer) in
        (v.0, subst (λ (r : ℤ). r <ℤ pos 0) v.1 (rise_beyond c (face_sum x y z i j k) (subst (λ q. IsBeyond c q) is h.beyond)))

    rest_of : (i j k : ℕ) → 0 < i + j + k → over_sum (pos i) (pos j) (pos k) ≤ℤ pos 0
        → (((pos i *ℤ X.u) +ℤ (pos j *ℤ Y.u)) +ℤ (pos k *ℤ Z.u)) *ℤ p.w ≡ across_of (toward_of c) p *ℤ pos (i + j + k)
        → (((pos i *ℤ X.v) +ℤ (pos j *ℤ Y.v)) +ℤ (pos k *ℤ Z.v)) *ℤ p.w ≡ upward_of (toward_of c) p *ℤ pos (i + j + k)
        → (height_of (toward_of c) p *ℤ pos (i + j + k)) <ℤ ((((pos i *ℤ X.h) +ℤ (pos j *ℤ Y.h)) +ℤ (pos k *ℤ Z.h)) *ℤ p.w)
        → RestHides c f p
    rest_of i j k some most same_u same_v near = record {
      point = face_sum x y z i j k;
      on_face = point_of_from f x y z order (face_sum x y z i j k) (i, j, k, some, refl);
      not_before = λ before. clash _ _ (rise_before c (face_sum x y z i j k) before) (face_rise c x y z i j k) most;
      same_sight = record {
        across = ap (λ v. v *ℤ p.w) (dot-face_sum (right_axis (toward_of c)) x y z i j k) ∙ same_u;
        upward = ap (λ v. v *ℤ p.w) (dot-face_sum (up_axis (toward_of c)) x y z i j k) ∙ same_v;
      };
      nearer = subst (λ v. (height_of (toward_of c) p *ℤ pos (i + j + k)) <ℤ (v *ℤ p.w)) (sym (dot-face_sum (toward_of c) x y z i j k)) near;
    }
      where
        clash : (u v : ℤ) → pos 0 <ℤ u → u ≡ v → v ≤ℤ pos 0 → ⊥
        clash u v h e l = omega (arith, ints)

    pub rest_of_covers : CoversNotBefore (seen (toward_of c) p) → RestHides c f p
    rest_of_covers (q, most) =
        let e = unpack
        (λ i j k. (pos 0 <ℤ ((i +ℤ j) +ℤ k))
        × (over_sum i j k ≤ℤ pos 0)
        × ((((i *ℤ X.u) +ℤ (j *ℤ Y.u)) +ℤ (k *ℤ Z.u)) *ℤ p.w ≡ across_of (toward_of c) p *ℤ ((i +ℤ j) +ℤ k))
        × ((((i *ℤ X.v) +ℤ (j *ℤ Y.v)) +ℤ (k *ℤ Z.v)) *ℤ p.w ≡ upward_of (toward_of c) p *ℤ ((i +ℤ j) +ℤ k))
        × ((height_of (toward_of c) p *ℤ ((i +ℤ j) +ℤ k)) <ℤ ((((i *ℤ X.h) +ℤ (j *ℤ Y.h)) +ℤ (k *ℤ Z.h)) *ℤ p.w)))
        q.i q.j q.k q.i_least q.j_least q.k_least (q.some, most, q.same_u, q.same_v, q.nearer) in
        rest_of e.0 e.1 e.2 (some_of e.0 e.1 e.2 e.3.0) e.3.1 e.3.2 e.3.3 e.3.4
      where
        some_of : (i j k : ℕ) → pos 0 <ℤ pos (i + j + k) → 0 < i + j + k
        some_of i j k h = omega (arith, ints)

  -- at a place of an edge
  module _ {s : Part} (e : Edge s) (f : Face s) (order : AreInOrder f x y z) (n m : ℤ) where
    pub covers_at_place : RestHides c f (share_point e.a e.b n m) → CoversNotBefore (place_of (on (toward_of c) e.a) (on (toward_of c) e.b) n m)
    covers_at_place h = subst CoversNotBefore (place_seen (toward_of c) e.a e.b n m) (covers_of_rest f order (share_point e.a e.b n m) h)

    pub rest_at_place : CoversNotBefore (place_of (on (toward_of c) e.a) (on (toward_of c) e.b) n m) → RestHides c f (share_point e.a e.b n m)
    rest_at_place h = rest_of_covers f order (share_point e.a e.b n m) (subst CoversNotBefore (sym (place_seen (toward_of c) e.a e.b n m)) h)

    pub beyond_at_place : FaceHidesInCut c f (share_point e.a e.b n m) → CoversBeyond (place_of (on (toward_of c) e.a) (on (toward_of c) e.b) n m)
    beyond_at_place h = subst CoversBeyond (place_seen (toward_of c) e.a e.b n m) (covers_of_hides f order (share_point e.a e.b n m) h)
