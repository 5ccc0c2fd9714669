-- The two ends of the border of a face that is not flat are seen at different places.
use Rattle.std.proofs.Common.{◌≡◌, ℕ, zero, suc, ◌<◌, List, [], ◌∷◌, refl, sym, subst, ◌∙◌, unsigned_abs, arith}
use Rattle.std.specs.Prelude.{ℤ, pos, ◌+ℤ◌, ◌-ℤ◌, ◌*ℤ◌, ◌<ℤ◌}
use Rattle.std.proofs.lemmas.Int.{ints}
use Rattle.integers.proofs.Absolutes.{pos-sum, some_abs_of_positive, some_abs_of_negative, natural_positive}
use Rattle.integers.proofs.Ring.{Expr, var, con, ◌⊕◌, ◌⊖◌, ◌⊗◌, ring, by_two, by_three, same_of_gap}
use Rattle.integers.proofs.Signs.{zero_of_mul, mul_pos}
use Rattle.lattice.specs.declared.points.Corner.{Corner}
use Rattle.lattice.specs.Triple.{Triple, dot, right_axis, up_axis}
use Rattle.lattice.specs.Points.{Point, point_of, OnOneSight, scaled, across_of, upward_of, height_of}
use Rattle.lattice.specs.Cuts.{Plane, toward_of, plane_height, IsOnPlane}
use Rattle.lattice.proofs.Vectors.{Letters, dots, crosses}
use Rattle.geometry.specs.Faces.{difference, IsFlat}
use Rattle.geometry.specs.Parts.{Part, Face}
use Rattle.geometry.specs.Cuts.{over_of, crossing_of, start_corner, end_corner, GoesBeyond, IsBorderOf}
use Rattle.geometry.proofs.Shares.{edge_turned}
use Rattle.geometry.proofs.Borders.{over_beyond, over_before, not_both_sides, crossing_on_plane}
use Rattle.cut_plane.proofs.BorderLines.{by_view}

-- two points on the plane and on one line of sight agree along every vector
agree_along : (c : Plane) (p q : Point) → IsOnPlane c p → IsOnPlane c q → OnOneSight (toward_of c) p q → (s : Triple) → dot s (scaled p) *ℤ q.w ≡ dot s (scaled q) *ℤ p.w
agree_along c p q first second sight s =
    (λ i. by_view s (scaled p) c i *ℤ q.w)
    ∙ by_three _ _ (across_of d p *ℤ q.w) (across_of d q *ℤ p.w) (dot (right_axis d) s) (upward_of d p *ℤ q.w) (upward_of d q *ℤ p.w) (dot (up_axis d) s) (height_of d p *ℤ q.w) (height_of d q *ℤ p.w) (dot d s)
    (ring (dot (right_axis d) s ∷ dot (up_axis d) s ∷ dot d s ∷ across_of d p ∷ upward_of d p ∷ height_of d p ∷ across_of d q ∷ upward_of d q ∷ height_of d q ∷ p.w ∷ q.w ∷ [])
    (((((var 0 ⊗ var 3) ⊕ (var 1 ⊗ var 4)) ⊕ (var 2 ⊗ var 5)) ⊗ var 10) ⊖ ((((var 0 ⊗ var 6) ⊕ (var 1 ⊗ var 7)) ⊕ (var 2 ⊗ var 8)) ⊗ var 9))
    (((((var 3 ⊗ var 10) ⊖ (var 6 ⊗ var 9)) ⊗ var 0) ⊕ (((var 4 ⊗ var 10) ⊖ (var 7 ⊗ var 9)) ⊗ var 1)) ⊕ (((var 5 ⊗ var 10) ⊖ (var 8 ⊗ var 9)) ⊗ var 2)) refl)
    sight.across sight.upward (heights (height_of d p) (height_of d q) (plane_height c) p.w q.w first second)
    ∙ (λ i. sym (by_view s (scaled q) c) i *ℤ p.w)
  where
    d : Triple
    d = toward_of c

    heights : (x y h v w : ℤ) → pos 2 *ℤ x ≡ h *ℤ v → pos 2 *ℤ y ≡ h *ℤ w → x *ℤ w ≡ y *ℤ v
    heights x y h v w e f =
        same_of_gap (x *ℤ w) (y *ℤ v) (zero_of_mul (pos 2) _ (omega (arith, ints))
        (by_two _ _ (pos 2 *ℤ x) (h *ℤ v) w (pos 2 *ℤ y) (h *ℤ w) (pos 0 -ℤ v)
        (ring (x ∷ y ∷ h ∷ v ∷ w ∷ [])
        ((con (pos 2) ⊗ ((var 0 ⊗ var 4) ⊖ (var 1 ⊗ var 3))) ⊖ con (pos 0))
        ((((con (pos 2) ⊗ var 0) ⊖ (var 2 ⊗ var 3)) ⊗ var 4) ⊕ (((con (pos 2) ⊗ var 1) ⊖ (var 2 ⊗ var 4)) ⊗ (con (pos 0) ⊖ var 3))) refl) e f))

-- ---- crossings of two sides of a corner
module _ (c : Plane) (k l m : Corner) (far : 0 < unsigned_abs (over_of c k)) (first : IsOnPlane c (crossing_of c k l)) (second : IsOnPlane c (crossing_of c k m)) (sight : OnOneSight (toward_of c) (crossing_of c k l) (crossing_of c k m)) where
  abbrev near : ℤ
  near = pos (unsigned_abs (over_of c k))

  abbrev of_l : ℤ
  of_l = pos (unsigned_abs (over_of c l))

  abbrev of_m : ℤ
  of_m = pos (unsigned_abs (over_of c m))

  -- a vector at right angles to the way from k to m is so to the way from k to l
  none_along : (s : Triple) → dot s (difference k m) ≡ pos 0 → dot s (difference k l) ≡ pos 0
  none_along s level =
      zero_of_mul (near *ℤ (of_m +ℤ near)) (dot s (difference k l)) positive
      (by_two _ _ (dot s (scaled (crossing_of c k l)) *ℤ (of_m +ℤ near)) (dot s (scaled (crossing_of c k m)) *ℤ (of_l +ℤ near)) (pos 1) (dot s (difference k m)) (pos 0) (near *ℤ (of_l +ℤ near))
      (ring (s.x ∷ s.y ∷ s.z ∷ k.x ∷ k.y ∷ k.z ∷ l.x ∷ l.y ∷ l.z ∷ m.x ∷ m.y ∷ m.z ∷ near ∷ of_l ∷ of_m ∷ [])
      (((var 12 ⊗ (var 14 ⊕ var 12)) ⊗ along 6) ⊖ con (pos 0))
      ((((spot 13 6 ⊗ (var 14 ⊕ var 12)) ⊖ (spot 14 9 ⊗ (var 13 ⊕ var 12))) ⊗ con (pos 1)) ⊕ ((along 9 ⊖ con (pos 0)) ⊗ (var 12 ⊗ (var 13 ⊕ var 12)))) refl) agreed level)
    where
      along : ℕ → Expr
      along n = ((var 0 ⊗ (var n ⊖ var 3)) ⊕ (var 1 ⊗ (var (suc n) ⊖ var 4))) ⊕ (var 2 ⊗ (var (suc (suc n)) ⊖ var 5))

      spot : ℕ → ℕ → Expr
      spot far n = ((var 0 ⊗ ((var far ⊗ var 3) ⊕ (var 12 ⊗ var n))) ⊕ (var 1 ⊗ ((var far ⊗ var 4) ⊕ (var 12 ⊗ var (suc n))))) ⊕ (var 2 ⊗ ((var far ⊗ var 5) ⊕ (var 12 ⊗ var (suc (suc n)))))

      agreed : dot s (scaled (crossing_of c k l)) *ℤ (of_m +ℤ near) ≡ dot s (scaled (crossing_of c k m)) *ℤ (of_l +ℤ near)
      agreed =
          (λ i. dot s (scaled (crossing_of c k l)) *ℤ sym (pos-sum (unsigned_abs (over_of c m)) (unsigned_abs (over_of c k))) i)
          ∙ agree_along c (crossing_of c k l) (crossing_of c k m) first second sight s
          ∙ (λ i. dot s (scaled (crossing_of c k m)) *ℤ pos-sum (unsigned_abs (over_of c l)) (unsigned_abs (over_of c k)) i)

      positive : pos 0 <ℤ (near *ℤ (of_m +ℤ near))
      positive = mul_pos near (of_m +ℤ near) (natural_positive (unsigned_abs (over_of c k)) far) (more (unsigned_abs (over_of c m)) (unsigned_abs (over_of c k)) far)
        where
          more : (m n : ℕ) → 0 < n → pos 0 <ℤ (pos m +ℤ pos n)
          more m n h = omega (arith, ints)

  flat_of_sight : IsFlat k l m
  flat_of_sight = record {
    x = ring ways (crosses kl km).x (dots (record { x = con (pos 0); y = km.z; z = con (pos 0) ⊖ km.y }) kl) refl ∙ none_along (record { x = pos 0; y = w.z; z = pos 0 -ℤ w.y }) (ring ways (dots (record { x = con (pos 0); y = km.z; z = con (pos 0) ⊖ km.y }) km) (con (pos 0)) refl);
    y = ring ways (crosses kl km).y (dots (record { x = con (pos 0) ⊖ km.z; y = con (pos 0); z = km.x }) kl) refl ∙ none_along (record { x = pos 0 -ℤ w.z; y = pos 0; z = w.x }) (ring ways (dots (record { x = con (pos 0) ⊖ km.z; y = con (pos 0); z = km.x }) km) (con (pos 0)) refl);
    z = ring ways (crosses kl km).z (dots (record { x = km.y; y = con (pos 0) ⊖ km.x; z = con (pos 0) }) kl) refl ∙ none_along (record { x = w.y; y = pos 0 -ℤ w.x; z = pos 0 }) (ring ways (dots (record { x = km.y; y = con (pos 0) ⊖ km.x; z = con (pos 0) }) km) (con (pos 0)) refl);
  }
    where
      w : Triple
      w = difference k m

      ways : List ℤ
      ways = k.x ∷ k.y ∷ k.z ∷ l.x ∷ l.y ∷ l.z ∷ m.x ∷ m.y ∷ m.z ∷ []

      kl : Letters
      kl = record { x = var 3 ⊖ var 0; y = var 4 ⊖ var 1; z = var 5 ⊖ var 2 }

      km : Letters
      km = record { x = var 6 ⊖ var 0; y = var 7 ⊖ var 1; z = var 8 ⊖ var 2 }

-- ---- the order of the corners
module _ (a b d : Corner) where
  three : List ℤ
  three = a.x ∷ a.y ∷ a.z ∷ b.x ∷ b.y ∷ b.z ∷ d.x ∷ d.y ∷ d.z ∷ []

  abbrev way : ℕ → ℕ → Letters
  way m n = record { x = var n ⊖ var m; y = var (suc n) ⊖ var (suc m); z = var (suc (suc n)) ⊖ var (suc (suc m)) }

  flat_round : IsFlat b d a → IsFlat a b d
  unfolding three
  flat_round h = record {
    x = ring three (crosses (way 0 3) (way 0 6)).x (crosses (way 3 6) (way 3 0)).x refl ∙ h.x;
    y = ring three (crosses (way 0 3) (way 0 6)).y (crosses (way 3 6) (way 3 0)).y refl ∙ h.y;
    z = ring three (crosses (way 0 3) (way 0 6)).z (crosses (way 3 6) (way 3 0)).z refl ∙ h.z;
  }

  flat_swap : IsFlat a d b → IsFlat a b d
  unfolding three
  flat_swap h = record {
    x = ring three (crosses (way 0 3) (way 0 6)).x (con (pos 0) ⊖ (crosses (way 0 6) (way 0 3)).x) refl ∙ none _ h.x;
    y = ring three (crosses (way 0 3) (way 0 6)).y (con (pos 0) ⊖ (crosses (way 0 6) (way 0 3)).y) refl ∙ none _ h.y;
    z = ring three (crosses (way 0 3) (way 0 6)).z (con (pos 0) ⊖ (crosses (way 0 6) (way 0 3)).z) refl ∙ none _ h.z;
  }
    where
      none : (z : ℤ) → z ≡ pos 0 → pos 0 -ℤ z ≡ pos 0
      none z e = omega (arith, ints)

-- ---- the border of a face
module _ (c : Plane) (k l m : Corner) where
  flat_before : GoesBeyond c k l → GoesBeyond c k m → OnOneSight (toward_of c) (crossing_of c k l) (crossing_of c k m) → IsFlat k l m
  flat_before p q sight = flat_of_sight c k l m (some_abs_of_positive (over_of c k) (over_before c k p.0)) (crossing_on_plane c k l p) (crossing_on_plane c k m q) sight

  flat_beyond : GoesBeyond c l k → GoesBeyond c m k → OnOneSight (toward_of c) (crossing_of c l k) (crossing_of c m k) → IsFlat k l m
  flat_beyond p q sight =
      let first = edge_turned l k (unsigned_abs (over_of c k)) (unsigned_abs (over_of c l)) in
      let second = edge_turned m k (unsigned_abs (over_of c k)) (unsigned_abs (over_of c m)) in
      flat_of_sight c k l m (some_abs_of_negative (over_of c k) (over_beyond c k p.1)) (subst (IsOnPlane c) first (crossing_on_plane c l k p)) (subst (IsOnPlane c) second (crossing_on_plane c m k q))
      (subst (λ (x : Point). OnOneSight (toward_of c) x (crossing_of c k m)) first (subst (λ (y : Point). OnOneSight (toward_of c) (crossing_of c l k) y) second sight))

module _ (c : Plane) {s : Part} (f : Face s) where
  by_sides : (first second : ℕ) → GoesBeyond c (start_corner f first) (end_corner f first) → GoesBeyond c (end_corner f second) (start_corner f second)
      → OnOneSight (toward_of c) (crossing_of c (start_corner f first) (end_corner f first)) (crossing_of c (end_corner f second) (start_corner f second)) → IsFlat f.a f.b f.c
  by_sides zero zero p q sight = absurd (not_both_sides c (point_of f.a) q.1 p.0)
  by_sides zero (suc zero) p q sight = flat_round f.a f.b f.c (flat_swap f.b f.c f.a (flat_beyond c f.b f.a f.c p q sight))
  by_sides zero (suc (suc n)) p q sight = flat_before c f.a f.b f.c p q sight
  by_sides (suc zero) zero p q sight = flat_round f.a f.b f.c (flat_before c f.b f.c f.a p q sight)
  by_sides (suc zero) (suc zero) p q sight = absurd (not_both_sides c (point_of f.b) q.1 p.0)
  by_sides (suc zero) (suc (suc n)) p q sight = flat_round f.a f.b f.c (flat_round f.b f.c f.a (flat_swap f.c f.a f.b (flat_beyond c f.c f.b f.a p q sight)))
  by_sides (suc (suc m)) zero p q sight = flat_swap f.a f.b f.c (flat_beyond c f.a f.c f.b p q sight)
  by_sides (suc (suc m)) (suc zero) p q sight = flat_round f.a f.b f.c (flat_round f.b f.c f.a (flat_before c f.c f.a f.b p q sight))
  by_sides (suc (suc m)) (suc (suc n)) p q sight = absurd (not_both_sides c (point_of f.c) q.1 p.0)

  -- the ends of the border of a face that is not flat are seen at different places
  pub border_apart : (p q : Point) → IsBorderOf c f p q → ¬ IsFlat f.a f.b f.c → ¬ OnOneSight (toward_of c) p q
  border_apart p q h whole sight =
      whole (by_sides h.first h.second h.goes h.returns
      (subst (λ (x : Point). OnOneSight (toward_of c) x (crossing_of c (end_corner f h.second) (start_corner f h.second))) h.from (subst (λ (y : Point). OnOneSight (toward_of c) p y) h.to sight)))
