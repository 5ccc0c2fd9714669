-- A face of a sound part either has the corner at an edge's first end, by its number, or does not touch it.
use Rattle.std.proofs.Common.{◌≡◌, ◌⊎◌, inl, inr, ℕ, ◌+◌, ◌/◌, ◌%◌, ◌<◌, [], ◌∷◌, refl, sym, ap, subst, ◌∙◌, arith}
use Rattle.std.specs.Prelude.{ℤ, pos, ◌+ℤ◌, ◌*ℤ◌, ◌<ℤ◌}
use Rattle.std.proofs.lemmas.Int.{ints}
use Rattle.geometry.proofs.FacePoints.{dot-face_sum}
use Rattle.integers.proofs.Ring.{var, con, ◌⊕◌, ◌⊗◌, ring}
use Rattle.lattice.specs.declared.points.Corner.{Corner}
use Rattle.lattice.specs.declared.soup.Tri.{Tri}
use Rattle.lattice.specs.Triple.{Triple, dot, right_axis, up_axis, IsZero}
use Rattle.lattice.specs.Points.{Point, point_of, scaled, AreOnePoint}
use Rattle.lattice.proofs.SightLines.{right_axis-is}
use Rattle.lattice.proofs.SightAxes.{one_point_of_agreement}
use Rattle.geometry.specs.Faces.{face_sum, edge_sum}
use Rattle.geometry.specs.Parts.{Part, Face, Edge, IsHalf, IsCornerOf, start_of, end_of}
use Rattle.geometry.specs.Sound.{MeetsFace, IsSound}
use Rattle.geometry.proofs.Listed.{same_element}
use Rattle.hiding_laws.proofs.Screens.{Screen}
use Rattle.hiding_laws.proofs.Decisions.{either_or}
use Rattle.hiding_laws.proofs.OnScreens.{unpack}
use Rattle.hiding_laws.proofs.Shares.{Touches}
use Rattle.hiding_laws.proofs.CornerLaws.{HasCorner}
use Rattle.hiding_laws.proofs.EdgePasses.{same_or_not}
use Rattle.hiding_laws.proofs.HalfFaces.{corner_of_side}
use Rattle.hiding_laws.proofs.OneFace.{touches_rotate}
use Rattle.hiding_laws.proofs.Seen.{on}
use Rattle.hiding_laws.proofs.Unpierced.{second_end, ends_apart}

-- it is decided whether a triangle has a corner
pub corner_or : (t : Tri) (n : ℕ) → IsCornerOf t n ⊎ ¬ IsCornerOf t n
corner_or t n = either_or _ _ (same_or_not t.a n) (either_or _ _ (same_or_not t.b n) (same_or_not t.c n))

-- ---- as it is seen
-- a triangle touches its first corner, and so each of its own
touches_first : (o a b c : Screen) → o.w ≡ pos 1 → a ≡ o → Touches a b c o
touches_first o a b c ow e = subst (λ (x : Screen). Touches x b c o) (sym e) record {
  i = pos 1;
  j = pos 0;
  k = pos 0;
  i_least = omega (arith, ints);
  j_least = omega (arith, ints);
  k_least = omega (arith, ints);
  some = omega (arith, ints);
  same_u = ap (λ w. (((pos 1 *ℤ o.u) +ℤ (pos 0 *ℤ b.u)) +ℤ (pos 0 *ℤ c.u)) *ℤ w) ow ∙ first o.u b.u c.u;
  same_v = ap (λ w. (((pos 1 *ℤ o.v) +ℤ (pos 0 *ℤ b.v)) +ℤ (pos 0 *ℤ c.v)) *ℤ w) ow ∙ first o.v b.v c.v;
  same_h = ap (λ w. (((pos 1 *ℤ o.h) +ℤ (pos 0 *ℤ b.h)) +ℤ (pos 0 *ℤ c.h)) *ℤ w) ow ∙ first o.h b.h c.h;
}
  where
    first : (x y z : ℤ) → (((pos 1 *ℤ x) +ℤ (pos 0 *ℤ y)) +ℤ (pos 0 *ℤ z)) *ℤ pos 1 ≡ x *ℤ ((pos 1 +ℤ pos 0) +ℤ pos 0)
    first x y z = ring (x ∷ y ∷ z ∷ []) ((((con (pos 1) ⊗ var 0) ⊕ (con (pos 0) ⊗ var 1)) ⊕ (con (pos 0) ⊗ var 2)) ⊗ con (pos 1)) (var 0 ⊗ ((con (pos 1) ⊕ con (pos 0)) ⊕ con (pos 0))) refl

touches_own : (o a b c : Screen) → o.w ≡ pos 1 → HasCorner o a b c → Touches a b c o
touches_own o a b c ow (inl e) = touches_first o a b c ow e
touches_own o a b c ow (inr (inl e)) = touches_rotate a b c o (touches_first o b c a ow e)
touches_own o a b c ow (inr (inr e)) = touches_rotate a b c o (touches_rotate b c a o (touches_first o c a b ow e))

-- ---- the corner at an edge's first end
module _ (d : Triple) {s : Part} (e : Edge s) (f : Face s) where
  pub seen_corner : IsCornerOf f.tri e.m → HasCorner (on d e.a) (on d f.a) (on d f.b) (on d f.c)
  seen_corner (inl h) = inl (ap (on d) (same_element s.corners f.tri.a e.m f.a e.a h f.at_a e.at_m))
  seen_corner (inr (inl h)) = inr (inl (ap (on d) (same_element s.corners f.tri.b e.m f.b e.a h f.at_b e.at_m)))
  seen_corner (inr (inr h)) = inr (inr (ap (on d) (same_element s.corners f.tri.c e.m f.c e.a h f.at_c e.at_m)))

  -- a face at one of the edge's two halves has the corner
  half_tri : {half m n : ℕ} (h : IsHalf s half m n) → f.number ≡ half / 3 → h.tri ≡ f.tri
  half_tri {half = half} h own = same_element s.triangles (half / 3) f.number h.tri f.tri (sym own) h.at f.listed

  left_has : f.number ≡ e.left.number → IsCornerOf f.tri e.m
  left_has h = corner_of_side f.tri (e.half % 3) e.m (inl (ap (λ (t : Tri). start_of t (e.half % 3)) (sym (half_tri e.goes (h ∙ e.on_left))) ∙ e.goes.start))

  right_has : f.number ≡ e.right.number → IsCornerOf f.tri e.m
  right_has h = corner_of_side f.tri (e.other % 3) e.m (inr (inl (ap (λ (t : Tri). end_of t (e.other % 3)) (sym (half_tri e.returns (h ∙ e.on_right))) ∙ e.returns.end)))

module _ (d : Triple) (directed : ¬ IsZero d) (s : Part) (sound : IsSound s) (e : Edge s) (f : Face s) (off : ¬ IsCornerOf f.tri e.m) where
  -- no point of the face is there
  no_meeting : (n : ℕ) (q : Point) → 0 < n → q ≡ edge_sum e.a e.b n 0 → ¬ MeetsFace e f q
  no_meeting n q some is meets =
      let shared = sound.apart e f q meets in
      elim shared.of_edge [
        | inl m ↦ off (subst (λ (k : ℕ). IsCornerOf f.tri k) (sym m) shared.of_face)
        | inr m ↦
            let at : shared.corner ≡ e.b = same_element s.corners shared.number e.n shared.corner e.b (sym m) shared.at e.at_n in
            let one : AreOnePoint (point_of e.b) (edge_sum e.a e.b n 0) = subst (λ (c : Corner). AreOnePoint (point_of c) (edge_sum e.a e.b n 0)) at (subst (λ (q : Point). AreOnePoint (point_of shared.corner) q) is shared.here) in
            ends_apart s sound.closed e (record { x = second_end n 0 e.a.x e.b.x some one.x; y = second_end n 0 e.a.y e.b.y some one.y; z = second_end n 0 e.a.z e.b.z some one.z })
      ]

  not_there : (i j k : ℕ) → 0 < i + j + k → ¬ AreOnePoint (face_sum f.a f.b f.c i j k) (point_of e.a)
  not_there i j k some one =
      let q = face_sum f.a f.b f.c i j k in
      let n = i + j + k in
      let is : q ≡ edge_sum e.a e.b n 0 = λ t. record { x = same n q.x e.a.x e.b.x one.x t; y = same n q.y e.a.y e.b.y one.y t; z = same n q.z e.a.z e.b.z one.z t; w = pos (whole n t) } in
      no_meeting n q some is (record {
        not_left = λ h. off (left_has d e f h);
        not_right = λ h. off (right_has d e f h);
        on_edge = (n, 0, subst (λ w. 0 < w) (whole n) some, is);
        on_face = (i, j, k, some, refl);
      })
    where
      same : (n : ℕ) (x y z : ℤ) → x *ℤ pos 1 ≡ y *ℤ pos n → x ≡ (pos n *ℤ y) +ℤ (pos 0 *ℤ z)
      same n x y z e = once x ∙ e ∙ ring (pos n ∷ y ∷ z ∷ []) (var 1 ⊗ var 0) ((var 0 ⊗ var 1) ⊕ (con (pos 0) ⊗ var 2)) refl
        where
          once : (x : ℤ) → x ≡ x *ℤ pos 1
          once x = omega (arith, ints)

      whole : (n : ℕ) → n ≡ n + 0
      whole n = omega arith

  pub not_touched : ¬ Touches (on d f.a) (on d f.b) (on d f.c) (on d e.a)
  not_touched t =
      let A = on d f.a in
      let B = on d f.b in
      let C = on d f.c in
      let O = on d e.a in
      let r = unpack
      (λ i j k. (pos 0 <ℤ ((i +ℤ j) +ℤ k))
      × ((((i *ℤ A.u) +ℤ (j *ℤ B.u)) +ℤ (k *ℤ C.u)) *ℤ pos 1 ≡ O.u *ℤ ((i +ℤ j) +ℤ k))
      × ((((i *ℤ A.v) +ℤ (j *ℤ B.v)) +ℤ (k *ℤ C.v)) *ℤ pos 1 ≡ O.v *ℤ ((i +ℤ j) +ℤ k))
      × ((((i *ℤ A.h) +ℤ (j *ℤ B.h)) +ℤ (k *ℤ C.h)) *ℤ pos 1 ≡ O.h *ℤ ((i +ℤ j) +ℤ k)))
      t.i t.j t.k t.i_least t.j_least t.k_least (t.some, t.same_u, t.same_v, t.same_h) in
      not_there r.0 r.1 r.2 (some_of r.0 r.1 r.2 r.3.0)
      (one_point_of_agreement d (right_axis d) (right_axis d) (face_sum f.a f.b f.c r.0 r.1 r.2) (point_of e.a) directed (right_axis-is d).level (right_axis-is d).square
      (told r.0 r.1 r.2 (right_axis d) r.3.1) (told r.0 r.1 r.2 (up_axis d) r.3.2) (told r.0 r.1 r.2 d r.3.3))
    where
      some_of : (i j k : ℕ) → pos 0 <ℤ pos (i + j + k) → 0 < i + j + k
      some_of i j k h = omega (arith, ints)

      told : (i j k : ℕ) (t : Triple)
          → (((pos i *ℤ dot t (scaled (point_of f.a))) +ℤ (pos j *ℤ dot t (scaled (point_of f.b)))) +ℤ (pos k *ℤ dot t (scaled (point_of f.c)))) *ℤ pos 1 ≡ dot t (scaled (point_of e.a)) *ℤ pos (i + j + k)
          → dot t (scaled (face_sum f.a f.b f.c i j k)) *ℤ pos 1 ≡ dot t (scaled (point_of e.a)) *ℤ pos (i + j + k)
      told i j k t h = ap (λ v. v *ℤ pos 1) (dot-face_sum t f.a f.b f.c i j k) ∙ h

  -- so the corner is none of its own, as it is seen
  pub not_seen_corner : ¬ HasCorner (on d e.a) (on d f.a) (on d f.b) (on d f.c)
  not_seen_corner h = not_touched (touches_own (on d e.a) (on d f.a) (on d f.b) (on d f.c) refl h)
