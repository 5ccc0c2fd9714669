-- In a sound part an edge meets no inner point of a face that does not have it as a side, also as they are seen.
use Rattle.std.proofs.Common.{◌≡◌, ◌≢◌, inl, inr, ℕ, zero, suc, ◌+◌, ◌*◌, ◌-◌, ◌/◌, ◌%◌, ◌<◌, [], ◌∷◌, Some, slice_get, refl, sym, ap, subst, ◌∙◌, arith}
use Rattle.std.specs.Prelude.{ℤ, pos, negsuc, ◌+ℤ◌, ◌-ℤ◌, ◌*ℤ◌, ◌≤ℤ◌, ◌<ℤ◌}
use Rattle.std.proofs.lemmas.Int.{ints}
use Rattle.geometry.proofs.FacePoints.{dot-face_sum}
use Rattle.integers.proofs.Ring.{var, con, ◌⊕◌, ◌⊖◌, ◌⊗◌, ring, by_one, same_of_gap}
use Rattle.integers.proofs.Signs.{zero_of_mul}
use Rattle.lattice.specs.declared.points.Corner.{Corner}
use Rattle.lattice.specs.Triple.{Triple, dot, right_axis, up_axis, IsZero}
use Rattle.lattice.specs.Points.{Point, point_of, scaled, AreOnePoint}
use Rattle.lattice.proofs.SightLines.{right_axis-is}
use Rattle.lattice.proofs.SightAxes.{one_point_of_agreement}
use Rattle.geometry.specs.Faces.{IsFlat, face_sum, edge_sum, share_point}
use Rattle.geometry.specs.Parts.{Part, Face, Edge, IsClosed, start_of, end_of}
use Rattle.geometry.specs.Sound.{MeetsFace, IsSound}
use Rattle.geometry.proofs.Listed.{same_element}
use Rattle.hiding_laws.specs.Values.{value_at}
use Rattle.hiding_laws.proofs.Screens.{Screen}
use Rattle.hiding_laws.proofs.OnScreens.{seen}
use Rattle.hiding_laws.proofs.Readings.{dot-share}
use Rattle.hiding_laws.proofs.Shares.{IsUnpierced}
use Rattle.integers.proofs.Absolutes.{natural_positive}

-- ---- a triangle with two corners at one place is flat
pub record IsAt (a b : Corner) : Type 0 where
  pub x : a.x ≡ b.x
  pub y : a.y ≡ b.y
  pub z : a.z ≡ b.z

still_first : (p q r s : ℤ) → p ≡ pos 0 → q ≡ pos 0 → (p *ℤ r) -ℤ (q *ℤ s) ≡ pos 0
still_first p q r s e f = (λ i. (e i *ℤ r) -ℤ (f i *ℤ s)) ∙ ring (r ∷ s ∷ []) ((con (pos 0) ⊗ var 0) ⊖ (con (pos 0) ⊗ var 1)) (con (pos 0)) refl

still_second : (p q r s : ℤ) → r ≡ pos 0 → s ≡ pos 0 → (p *ℤ r) -ℤ (q *ℤ s) ≡ pos 0
still_second p q r s e f = (λ i. (p *ℤ e i) -ℤ (q *ℤ f i)) ∙ ring (p ∷ q ∷ []) ((var 0 ⊗ con (pos 0)) ⊖ (var 1 ⊗ con (pos 0))) (con (pos 0)) refl

still_both : (p q r s : ℤ) → p ≡ s → q ≡ r → (p *ℤ r) -ℤ (q *ℤ s) ≡ pos 0
still_both p q r s e f = (λ i. (e i *ℤ r) -ℤ (f i *ℤ s)) ∙ ring (r ∷ s ∷ []) ((var 1 ⊗ var 0) ⊖ (var 0 ⊗ var 1)) (con (pos 0)) refl

no_way : (x y : ℤ) → x ≡ y → y -ℤ x ≡ pos 0
no_way x y e = omega (arith, ints)

no_way_back : (x y : ℤ) → y ≡ x → y -ℤ x ≡ pos 0
no_way_back x y e = omega (arith, ints)

one_way : (a x y : ℤ) → x ≡ y → x -ℤ a ≡ y -ℤ a
one_way a x y e = ap (λ v. v -ℤ a) e

flat_ab : (a b c : Corner) → IsAt a b → IsFlat a b c
flat_ab a b c e = record {
  x = still_first (b.y -ℤ a.y) (b.z -ℤ a.z) (c.z -ℤ a.z) (c.y -ℤ a.y) (no_way _ _ e.y) (no_way _ _ e.z);
  y = still_first (b.z -ℤ a.z) (b.x -ℤ a.x) (c.x -ℤ a.x) (c.z -ℤ a.z) (no_way _ _ e.z) (no_way _ _ e.x);
  z = still_first (b.x -ℤ a.x) (b.y -ℤ a.y) (c.y -ℤ a.y) (c.x -ℤ a.x) (no_way _ _ e.x) (no_way _ _ e.y);
}

flat_bc : (a b c : Corner) → IsAt b c → IsFlat a b c
flat_bc a b c e = record {
  x = still_both (b.y -ℤ a.y) (b.z -ℤ a.z) (c.z -ℤ a.z) (c.y -ℤ a.y) (one_way a.y _ _ e.y) (one_way a.z _ _ e.z);
  y = still_both (b.z -ℤ a.z) (b.x -ℤ a.x) (c.x -ℤ a.x) (c.z -ℤ a.z) (one_way a.z _ _ e.z) (one_way a.x _ _ e.x);
  z = still_both (b.x -ℤ a.x) (b.y -ℤ a.y) (c.y -ℤ a.y) (c.x -ℤ a.x) (one_way a.x _ _ e.x) (one_way a.y _ _ e.y);
}

flat_ca : (a b c : Corner) → IsAt c a → IsFlat a b c
flat_ca a b c e = record {
  x = still_second (b.y -ℤ a.y) (b.z -ℤ a.z) (c.z -ℤ a.z) (c.y -ℤ a.y) (no_way_back _ _ e.z) (no_way_back _ _ e.y);
  y = still_second (b.z -ℤ a.z) (b.x -ℤ a.x) (c.x -ℤ a.x) (c.z -ℤ a.z) (no_way_back _ _ e.x) (no_way_back _ _ e.z);
  z = still_second (b.x -ℤ a.x) (b.y -ℤ a.y) (c.y -ℤ a.y) (c.x -ℤ a.x) (no_way_back _ _ e.y) (no_way_back _ _ e.x);
}

is_at : (a b x y : Corner) → a ≡ x → b ≡ y → IsAt x y → IsAt a b
is_at a b x y p q e = subst (λ (c : Corner). IsAt c b) (sym p) (subst (λ (c : Corner). IsAt x c) (sym q) e)

-- the corners of a side are apart, where its triangle is not flat
side_flat : {s : Part} (f : Face s) (side : ℕ) (a b : Corner) → slice_get s.corners (start_of f.tri side) ≡ Some a → slice_get s.corners (end_of f.tri side) ≡ Some b → IsAt a b → IsFlat f.a f.b f.c
side_flat {s = s} f zero a b p q e =
    flat_ab f.a f.b f.c (is_at f.a f.b a b (same_element s.corners f.tri.a f.tri.a f.a a refl f.at_a p) (same_element s.corners f.tri.b f.tri.b f.b b refl f.at_b q) e)
side_flat {s = s} f (suc zero) a b p q e =
    flat_bc f.a f.b f.c (is_at f.b f.c a b (same_element s.corners f.tri.b f.tri.b f.b a refl f.at_b p) (same_element s.corners f.tri.c f.tri.c f.c b refl f.at_c q) e)
side_flat {s = s} f (suc (suc side)) a b p q e =
    flat_ca f.a f.b f.c (is_at f.c f.a a b (same_element s.corners f.tri.c f.tri.c f.c a refl f.at_c p) (same_element s.corners f.tri.a f.tri.a f.a b refl f.at_a q) e)

-- so are the ends of an edge
pub ends_apart : (s : Part) → IsClosed s → (e : Edge s) → ¬ IsAt e.a e.b
ends_apart s closed e same =
    let tri = same_element s.triangles (e.half / 3) e.left.number e.goes.tri e.left.tri (sym e.on_left) e.goes.at e.left.listed in
    let starts : start_of e.left.tri (e.half % 3) ≡ e.m = ap (λ t. start_of t (e.half % 3)) (sym tri) ∙ e.goes.start in
    let ends : end_of e.left.tri (e.half % 3) ≡ e.n = ap (λ t. end_of t (e.half % 3)) (sym tri) ∙ e.goes.end in
    closed.none_flat e.left
    (side_flat e.left (e.half % 3) e.a e.b (ap (λ n. slice_get s.corners n) starts ∙ e.at_m) (ap (λ n. slice_get s.corners n) ends ∙ e.at_n) same)

-- ---- points of an edge
some_times : (a b : ℕ) → 0 < a → 0 < b → 0 < a * b
some_times zero b h l = absurd (omega arith)
some_times (suc a) zero h l = absurd (omega arith)
some_times (suc a) (suc b) h l = omega arith

first_end : (u v : ℕ) (x y : ℤ) → 0 < v → x *ℤ pos (u + v) ≡ ((pos u *ℤ x) +ℤ (pos v *ℤ y)) *ℤ pos 1 → x ≡ y
first_end u v x y h e =
    same_of_gap x y (zero_of_mul (pos v) (x -ℤ y) (natural_positive v h)
    (by_one (pos v *ℤ (x -ℤ y)) (pos 0) _ _ (pos 1)
    (ring (pos u ∷ pos v ∷ x ∷ y ∷ []) ((var 1 ⊗ (var 2 ⊖ var 3)) ⊖ con (pos 0))
    (((var 2 ⊗ (var 0 ⊕ var 1)) ⊖ (((var 0 ⊗ var 2) ⊕ (var 1 ⊗ var 3)) ⊗ con (pos 1))) ⊗ con (pos 1)) refl) e))

pub second_end : (u v : ℕ) (x y : ℤ) → 0 < u → y *ℤ pos (u + v) ≡ ((pos u *ℤ x) +ℤ (pos v *ℤ y)) *ℤ pos 1 → x ≡ y
second_end u v x y h e =
    same_of_gap x y (zero_of_mul (pos u) (x -ℤ y) (natural_positive u h)
    (by_one (pos u *ℤ (x -ℤ y)) (pos 0) _ _ (negsuc 0)
    (ring (pos u ∷ pos v ∷ x ∷ y ∷ []) ((var 0 ⊗ (var 2 ⊖ var 3)) ⊖ con (pos 0))
    (((var 3 ⊗ (var 0 ⊕ var 1)) ⊖ (((var 0 ⊗ var 2) ⊕ (var 1 ⊗ var 3)) ⊗ con (pos 1))) ⊗ con (negsuc 0)) refl) e))

-- a point of a face and one of an edge that are one point, by common weights
weighed_alike : (i j k r n : ℕ) (a b c x y : ℤ)
    → (((pos i *ℤ a) +ℤ (pos j *ℤ b)) +ℤ (pos k *ℤ c)) *ℤ pos (r + n) ≡ (((pos (r + n) -ℤ pos n) *ℤ x) +ℤ (pos n *ℤ y)) *ℤ pos (i + j + k)
    → ((pos ((r + n) * i) *ℤ a) +ℤ (pos ((r + n) * j) *ℤ b)) +ℤ (pos ((r + n) * k) *ℤ c) ≡ (pos ((i + j + k) * r) *ℤ x) +ℤ (pos ((i + j + k) * n) *ℤ y)
weighed_alike i j k r n a b c x y e =
    let I = var 0 in let J = var 1 in let K = var 2 in let R = var 3 in let N = var 4 in
    let M = R ⊕ N in let S = (I ⊕ J) ⊕ K in
    by_one _ _ _ _ (pos 1)
    (ring (pos i ∷ pos j ∷ pos k ∷ pos r ∷ pos n ∷ a ∷ b ∷ c ∷ x ∷ y ∷ [])
    (((((M ⊗ I) ⊗ var 5) ⊕ ((M ⊗ J) ⊗ var 6)) ⊕ ((M ⊗ K) ⊗ var 7)) ⊖ (((S ⊗ R) ⊗ var 8) ⊕ ((S ⊗ N) ⊗ var 9)))
    ((((((I ⊗ var 5) ⊕ (J ⊗ var 6)) ⊕ (K ⊗ var 7)) ⊗ M) ⊖ ((((M ⊖ N) ⊗ var 8) ⊕ (N ⊗ var 9)) ⊗ S)) ⊗ con (pos 1)) refl) e

weights_alike : (i j k r n : ℕ) → (r + n) * i + (r + n) * j + (r + n) * k ≡ (i + j + k) * r + (i + j + k) * n
weights_alike i j k r n =
    let I = var 0 in let J = var 1 in let K = var 2 in let R = var 3 in let N = var 4 in
    let M = R ⊕ N in let S = (I ⊕ J) ⊕ K in
    same _ _ (ring (pos i ∷ pos j ∷ pos k ∷ pos r ∷ pos n ∷ []) (((M ⊗ I) ⊕ (M ⊗ J)) ⊕ (M ⊗ K)) ((S ⊗ R) ⊕ (S ⊗ N)) refl)
  where
    same : (x y : ℕ) → pos x ≡ pos y → x ≡ y
    same x y e = omega (arith, ints)

module _ (s : Part) (sound : IsSound s) (e : Edge s) (f : Face s) (not_left : f.number ≢ e.left.number) (not_right : f.number ≢ e.right.number) where
  -- no point that is on both is within the edge
  no_meeting : (u v : ℕ) (q : Point) → 0 < u → 0 < v → q ≡ edge_sum e.a e.b u v → ¬ MeetsFace e f q
  no_meeting u v q hu hv is meets =
      let shared = sound.apart e f q meets in
      let here : AreOnePoint (point_of shared.corner) (edge_sum e.a e.b u v) = subst (λ (q : Point). AreOnePoint (point_of shared.corner) q) is shared.here in
      elim shared.of_edge [
        | inl m ↦
            let at : shared.corner ≡ e.a = same_element s.corners shared.number e.m shared.corner e.a (sym m) shared.at e.at_m in
            let one : AreOnePoint (point_of e.a) (edge_sum e.a e.b u v) = subst (λ (c : Corner). AreOnePoint (point_of c) (edge_sum e.a e.b u v)) at here in
            ends_apart s sound.closed e (record { x = first_end u v e.a.x e.b.x hv one.x; y = first_end u v e.a.y e.b.y hv one.y; z = first_end u v e.a.z e.b.z hv one.z })
        | inr n ↦
            let at : shared.corner ≡ e.b = same_element s.corners shared.number e.n shared.corner e.b (sym n) shared.at e.at_n in
            let one : AreOnePoint (point_of e.b) (edge_sum e.a e.b u v) = subst (λ (c : Corner). AreOnePoint (point_of c) (edge_sum e.a e.b u v)) at here in
            ends_apart s sound.closed e (record { x = second_end u v e.a.x e.b.x hu one.x; y = second_end u v e.a.y e.b.y hu one.y; z = second_end u v e.a.z e.b.z hu one.z })
      ]

  not_one : (i j k r n : ℕ) → 0 < i + j + k → 0 < r → 0 < n → ¬ AreOnePoint (face_sum f.a f.b f.c i j k) (share_point e.a e.b (pos n) (pos (r + n)))
  not_one i j k r n some hr hn one =
      let q = face_sum f.a f.b f.c ((r + n) * i) ((r + n) * j) ((r + n) * k) in
      let is : q ≡ edge_sum e.a e.b ((i + j + k) * r) ((i + j + k) * n) =
      λ t. record {
        x = weighed_alike i j k r n f.a.x f.b.x f.c.x e.a.x e.b.x one.x t;
        y = weighed_alike i j k r n f.a.y f.b.y f.c.y e.a.y e.b.y one.y t;
        z = weighed_alike i j k r n f.a.z f.b.z f.c.z e.a.z e.b.z one.z t;
        w = pos (weights_alike i j k r n t);
      } in
      let on_left = some_times (i + j + k) r some hr in
      let on_right = some_times (i + j + k) n some hn in
      let whole : 0 < (i + j + k) * r + (i + j + k) * n = omega arith in
      no_meeting ((i + j + k) * r) ((i + j + k) * n) q on_left on_right is (record {
        not_left = not_left;
        not_right = not_right;
        on_edge = ((i + j + k) * r, (i + j + k) * n, whole, is);
        on_face = ((r + n) * i, (r + n) * j, (r + n) * k, subst (λ w. 0 < w) (sym (weights_alike i j k r n)) whole, refl);
      })

  module _ (d : Triple) (directed : ¬ IsZero d) where
    abbrev on : Corner → Screen
    on c = seen d (point_of c)

    pierced_at : (r n i j k : ℕ) → 0 < r → 0 < n → 0 < i + j + k
        → (((pos i *ℤ (on f.a).u) +ℤ (pos j *ℤ (on f.b).u)) +ℤ (pos k *ℤ (on f.c).u)) *ℤ pos (r + n) ≡ value_at (on e.a).u (on e.b).u (pos n) (pos (r + n)) *ℤ pos (i + j + k)
        → (((pos i *ℤ (on f.a).v) +ℤ (pos j *ℤ (on f.b).v)) +ℤ (pos k *ℤ (on f.c).v)) *ℤ pos (r + n) ≡ value_at (on e.a).v (on e.b).v (pos n) (pos (r + n)) *ℤ pos (i + j + k)
        → (((pos i *ℤ (on f.a).h) +ℤ (pos j *ℤ (on f.b).h)) +ℤ (pos k *ℤ (on f.c).h)) *ℤ pos (r + n) ≡ value_at (on e.a).h (on e.b).h (pos n) (pos (r + n)) *ℤ pos (i + j + k) → ⊥
    pierced_at r n i j k hr hn some eu ev eh =
        not_one i j k r n some hr hn
        (one_point_of_agreement d (right_axis d) (right_axis d) (face_sum f.a f.b f.c i j k) (share_point e.a e.b (pos n) (pos (r + n))) directed (right_axis-is d).level (right_axis-is d).square
        (told (right_axis d) eu) (told (up_axis d) ev) (told d eh))
      where
        told : (t : Triple)
            → (((pos i *ℤ dot t (scaled (point_of f.a))) +ℤ (pos j *ℤ dot t (scaled (point_of f.b)))) +ℤ (pos k *ℤ dot t (scaled (point_of f.c)))) *ℤ pos (r + n)
            ≡ value_at (dot t (scaled (point_of e.a))) (dot t (scaled (point_of e.b))) (pos n) (pos (r + n)) *ℤ pos (i + j + k)
            → dot t (scaled (face_sum f.a f.b f.c i j k)) *ℤ pos (r + n) ≡ dot t (scaled (share_point e.a e.b (pos n) (pos (r + n)))) *ℤ pos (i + j + k)
        told t h = (λ v. dot-face_sum t f.a f.b f.c i j k v *ℤ pos (r + n)) ∙ h ∙ (λ v. sym (dot-share t e.a e.b (pos n) (pos (r + n))) v *ℤ pos (i + j + k))

    pub unpierced : IsUnpierced (on e.a) (on e.b) (on f.a) (on f.b) (on f.c)
    unpierced (negsuc n) m g h t = absurd (omega (arith, ints))
    unpierced (pos n) (negsuc m) g h t = absurd (omega (arith, ints))
    unpierced (pos n) (pos m) g h t = at t.i t.j t.k t.i_least t.j_least t.k_least t.some t.same_u t.same_v t.same_h
      where
        rest : m ≡ (m - n) + n
        rest = omega (arith, ints)

        some_of : (i j k : ℕ) → pos 0 <ℤ pos (i + j + k) → 0 < i + j + k
        some_of i j k h = omega (arith, ints)

        at : (i j k : ℤ) → pos 0 ≤ℤ i → pos 0 ≤ℤ j → pos 0 ≤ℤ k → pos 0 <ℤ ((i +ℤ j) +ℤ k)
            → (((i *ℤ (on f.a).u) +ℤ (j *ℤ (on f.b).u)) +ℤ (k *ℤ (on f.c).u)) *ℤ pos m ≡ value_at (on e.a).u (on e.b).u (pos n) (pos m) *ℤ ((i +ℤ j) +ℤ k)
            → (((i *ℤ (on f.a).v) +ℤ (j *ℤ (on f.b).v)) +ℤ (k *ℤ (on f.c).v)) *ℤ pos m ≡ value_at (on e.a).v (on e.b).v (pos n) (pos m) *ℤ ((i +ℤ j) +ℤ k)
            → (((i *ℤ (on f.a).h) +ℤ (j *ℤ (on f.b).h)) +ℤ (k *ℤ (on f.c).h)) *ℤ pos m ≡ value_at (on e.a).h (on e.b).h (pos n) (pos m) *ℤ ((i +ℤ j) +ℤ k) → ⊥
        at (negsuc i) j k hi hj hk some eu ev eh = absurd (omega (arith, ints))
        at (pos i) (negsuc j) k hi hj hk some eu ev eh = absurd (omega (arith, ints))
        at (pos i) (pos j) (negsuc k) hi hj hk some eu ev eh = absurd (omega (arith, ints))
        at (pos i) (pos j) (pos k) hi hj hk some eu ev eh =
            let by = λ (p q r x y : ℤ) (e : (((pos i *ℤ p) +ℤ (pos j *ℤ q)) +ℤ (pos k *ℤ r)) *ℤ pos m ≡ value_at x y (pos n) (pos m) *ℤ pos (i + j + k)).
            subst (λ (w : ℕ). (((pos i *ℤ p) +ℤ (pos j *ℤ q)) +ℤ (pos k *ℤ r)) *ℤ pos w ≡ value_at x y (pos n) (pos w) *ℤ pos (i + j + k)) rest e in
            pierced_at (m - n) n i j k (omega (arith, ints)) (omega (arith, ints)) (some_of i j k some) (by _ _ _ _ _ eu) (by _ _ _ _ _ ev) (by _ _ _ _ _ eh)
