-- The ends of a face's border in the scale of both, the corners' order, and sides of the edge's line in that scale.
use Rattle.std.proofs.Common.{◌≡◌, ℕ, inl, inr, [], ◌∷◌, refl, sym, ap, subst, ◌∙◌, arith}
use Rattle.std.specs.Prelude.{◌↔◌, ℤ, pos, ◌+ℤ◌, ◌-ℤ◌, ◌*ℤ◌, ◌<ℤ◌, unsigned_abs}
use Rattle.std.proofs.lemmas.Int.{ints}
use Rattle.integers.proofs.Ring.{Expr, var, ◌⊕◌, ◌⊖◌, ◌⊗◌, ring, mul_comm}
use Rattle.integers.proofs.Signs.{mul_pos}
use Rattle.lattice.specs.declared.points.Corner.{Corner}
use Rattle.lattice.specs.Triple.{Triple, right_axis, up_axis, dot}
use Rattle.lattice.specs.Points.{scaled, point_of}
use Rattle.lattice.specs.Cuts.{Plane, toward_of}
use Rattle.geometry.specs.Cuts.{over_of, crossing_of}
use Rattle.geometry.specs.Faces.{edge_sum}
use Rattle.geometry.specs.Parts.{Part, Face}
use Rattle.geometry.proofs.FacePoints.{dot-edge_sum}
use Rattle.geometry.proofs.Shares.{edge_turned}
use Rattle.hiding_laws.proofs.Screens.{Screen, area_of}
use Rattle.hiding_laws.proofs.OnScreens.{seen}
use Rattle.geometry.specs.Counts.{Side, to_left, to_right}
use Rattle.hiding_laws.proofs.Seen.{on}
use Rattle.hiding_laws.proofs.Shares.{IsOnSide}
use Rattle.hiding_laws.proofs.Lone.{area-rotate}
use Rattle.cut_count_laws.proofs.Rests.{grown, AreInOrder}
use Rattle.cut_count_laws.proofs.ScaledScreens.{part, area_part, area_grown}
use Rattle.cut_count_laws.proofs.Parts.{t_of, on_first, on_second}
use Rattle.cut_count_laws.proofs.RestSides.{sided_pos}
use Rattle.hiding_laws.proofs.Near.{tilt}

-- ---- distances from the plane
abbrev pub far : Plane → Corner → ℤ
far c x = pos (unsigned_abs (over_of c x))

pub far_before : (c : Plane) (x : Corner) → pos 0 <ℤ over_of c x → over_of c x ≡ far c x
far_before c x h = at (over_of c x) h
  where
    at : (z : ℤ) → pos 0 <ℤ z → z ≡ pos (unsigned_abs z)
    at z h = omega (arith, ints)

pub far_beyond : (c : Plane) (x : Corner) → over_of c x <ℤ pos 0 → over_of c x ≡ pos 0 -ℤ far c x
far_beyond c x h = at (over_of c x) h
  where
    at : (z : ℤ) → z <ℤ pos 0 → z ≡ pos 0 -ℤ pos (unsigned_abs z)
    at z h = omega (arith, ints)

pub far_pos_before : (c : Plane) (x : Corner) → pos 0 <ℤ over_of c x → pos 0 <ℤ far c x
far_pos_before c x h = at (over_of c x) h
  where
    at : (z : ℤ) → pos 0 <ℤ z → pos 0 <ℤ pos (unsigned_abs z)
    at z h = omega (arith, ints)

pub far_pos_beyond : (c : Plane) (x : Corner) → over_of c x <ℤ pos 0 → pos 0 <ℤ far c x
far_pos_beyond c x h = at (over_of c x) h
  where
    at : (z : ℤ) → z <ℤ pos 0 → pos 0 <ℤ pos (unsigned_abs z)
    at z h = omega (arith, ints)

-- ---- ends of borders
pub crossing_back : (c : Plane) (x y : Corner) → crossing_of c x y ≡ crossing_of c y x
crossing_back c x y = edge_turned x y (unsigned_abs (over_of c y)) (unsigned_abs (over_of c x))

-- the end on the side from x to y in a scale that is larger by r
pub end_is : (d : Triple) (x y : Corner) (i j : ℕ) (r : ℤ) → grown r (seen d (edge_sum x y i j)) ≡ part ((pos i +ℤ pos j) *ℤ r) (r *ℤ pos j) (on d x) (on d y)
end_is d x y i j r = λ t. record { u = one (right_axis d) t; v = one (up_axis d) t; h = one d t; w = pos 1 }
  where
    one : (k : Triple) → r *ℤ dot k (scaled (edge_sum x y i j)) ≡ ((((pos i +ℤ pos j) *ℤ r) -ℤ (r *ℤ pos j)) *ℤ dot k (scaled (point_of x))) +ℤ ((r *ℤ pos j) *ℤ dot k (scaled (point_of y)))
    one k = ap (λ v. r *ℤ v) (dot-edge_sum k x y i j)
        ∙ ring (r ∷ pos i ∷ pos j ∷ dot k (scaled (point_of x)) ∷ dot k (scaled (point_of y)) ∷ [])
        (var 0 ⊗ ((var 1 ⊗ var 3) ⊕ (var 2 ⊗ var 4))) (((((var 1 ⊕ var 2) ⊗ var 0) ⊖ (var 0 ⊗ var 2)) ⊗ var 3) ⊕ ((var 0 ⊗ var 2) ⊗ var 4)) refl

module _ (c : Plane) (x y z : Corner) where
  abbrev pub scale_of : ℤ
  scale_of = t_of (on (toward_of c) x) (on (toward_of c) y) (on (toward_of c) z) (far c x) (far c y) (far c z)

  abbrev pub first_of : Screen
  first_of = on_first (on (toward_of c) x) (on (toward_of c) y) (on (toward_of c) z) (far c x) (far c y) (far c z)

  abbrev pub second_of : Screen
  second_of = on_second (on (toward_of c) x) (on (toward_of c) y) (on (toward_of c) z) (far c x) (far c y) (far c z)

  pub first_is : grown (crossing_of c x z).w (seen (toward_of c) (crossing_of c x y)) ≡ first_of
  first_is = end_is (toward_of c) x y (unsigned_abs (over_of c y)) (unsigned_abs (over_of c x)) (far c z +ℤ far c x)

  pub second_is : grown (crossing_of c x y).w (seen (toward_of c) (crossing_of c x z)) ≡ second_of
  second_is = end_is (toward_of c) x z (unsigned_abs (over_of c z)) (unsigned_abs (over_of c x)) (far c y +ℤ far c x)
      ∙ (λ t. part (mul_comm (far c z +ℤ far c x) (far c y +ℤ far c x) t) ((far c y +ℤ far c x) *ℤ far c x) (on (toward_of c) x) (on (toward_of c) z))

  pub scale_is : (crossing_of c x z).w *ℤ (crossing_of c x y).w ≡ scale_of
  scale_is = mul_comm (far c z +ℤ far c x) (far c y +ℤ far c x)

-- ---- the face's own order
pub area_from : (d : Triple) {s : Part} (f : Face s) (x y z : Corner) → AreInOrder f x y z → area_of (on d x) (on d y) (on d z) ≡ area_of (on d f.a) (on d f.b) (on d f.c)
area_from d f x y z (inl (a, b, c)) = λ r. area_of (on d (sym a r)) (on d (sym b r)) (on d (sym c r))
area_from d f x y z (inr (inl (b, c, a))) = (λ r. area_of (on d (sym b r)) (on d (sym c r)) (on d (sym a r))) ∙ sym (area-rotate (on d f.b) (on d f.c) (on d f.a))
area_from d f x y z (inr (inr (c, a, b))) = (λ r. area_of (on d (sym c r)) (on d (sym a r)) (on d (sym b r))) ∙ area-rotate (on d f.a) (on d f.b) (on d f.c)

-- ---- sides
pub on_side_is : (k : Side) (p q a : Screen) → IsOnSide k p q a ↔ (pos 0 <ℤ tilt k (area_of p q a))
on_side_is to_left p q a = ((λ h. h), (λ h. h))
on_side_is to_right p q a = ((λ h. up _ h), (λ h. down _ h))
  where
    up : (z : ℤ) → z <ℤ pos 0 → pos 0 <ℤ (pos 0 -ℤ z)
    up z h = omega (arith, ints)

    down : (z : ℤ) → pos 0 <ℤ (pos 0 -ℤ z) → z <ℤ pos 0
    down z h = omega (arith, ints)

on_side_at : (k : Side) (p q a : Screen) (s v : ℤ) → pos 0 <ℤ s → area_of p q a ≡ s *ℤ v → IsOnSide k p q a ↔ (pos 0 <ℤ tilt k v)
on_side_at k p q a s v s_pos e =
    let i = on_side_is k p q a in
    let j = sided_pos k s v s_pos in
    let P : ℤ → Type 0 = λ w. pos 0 <ℤ tilt k w in
    ((λ h. j.0 (subst P e (i.0 h))), (λ h. i.1 (subst P (sym e) (j.1 h))))

-- of the part's three corners
module _ (k : Side) (p q x y z : Screen) (ξ η ζ : ℤ) (t_pos : pos 0 <ℤ t_of x y z ξ η ζ) (s_pos : pos 0 <ℤ (η +ℤ ξ)) (r_pos : pos 0 <ℤ (ζ +ℤ ξ)) where
  abbrev S : Expr
  S = var 1 ⊕ var 0

  abbrev R : Expr
  R = var 2 ⊕ var 0

  abbrev W : Expr
  W = S ⊗ R

  pub first_area : area_of (grown (t_of x y z ξ η ζ) p) (grown (t_of x y z ξ η ζ) q) (on_first x y z ξ η ζ) ≡ (t_of x y z ξ η ζ *ℤ (ζ +ℤ ξ)) *ℤ ((η *ℤ area_of p q x) +ℤ (ξ *ℤ area_of p q y))
  first_area = area_part p q x y (t_of x y z ξ η ζ) ((ζ +ℤ ξ) *ℤ ξ)
      ∙ ring (ξ ∷ η ∷ ζ ∷ area_of p q x ∷ area_of p q y ∷ []) (W ⊗ (((W ⊖ (R ⊗ var 0)) ⊗ var 3) ⊕ ((R ⊗ var 0) ⊗ var 4))) ((W ⊗ R) ⊗ ((var 1 ⊗ var 3) ⊕ (var 0 ⊗ var 4))) refl

  pub second_area : area_of (grown (t_of x y z ξ η ζ) p) (grown (t_of x y z ξ η ζ) q) (on_second x y z ξ η ζ) ≡ (t_of x y z ξ η ζ *ℤ (η +ℤ ξ)) *ℤ ((ζ *ℤ area_of p q x) +ℤ (ξ *ℤ area_of p q z))
  second_area = area_part p q x z (t_of x y z ξ η ζ) ((η +ℤ ξ) *ℤ ξ)
      ∙ ring (ξ ∷ η ∷ ζ ∷ area_of p q x ∷ area_of p q z ∷ []) (W ⊗ (((W ⊖ (S ⊗ var 0)) ⊗ var 3) ⊕ ((S ⊗ var 0) ⊗ var 4))) ((W ⊗ S) ⊗ ((var 2 ⊗ var 3) ⊕ (var 0 ⊗ var 4))) refl

  pub corner_side : IsOnSide k (grown (t_of x y z ξ η ζ) p) (grown (t_of x y z ξ η ζ) q) (grown (t_of x y z ξ η ζ) x) ↔ (pos 0 <ℤ tilt k (area_of p q x))
  corner_side = on_side_at k _ _ _ _ _ (mul_pos _ _ t_pos t_pos) (area_grown p q x (t_of x y z ξ η ζ))

  pub first_side : IsOnSide k (grown (t_of x y z ξ η ζ) p) (grown (t_of x y z ξ η ζ) q) (on_first x y z ξ η ζ) ↔ (pos 0 <ℤ tilt k ((η *ℤ area_of p q x) +ℤ (ξ *ℤ area_of p q y)))
  first_side = on_side_at k _ _ _ _ _ (mul_pos _ _ t_pos r_pos) first_area

  pub second_side : IsOnSide k (grown (t_of x y z ξ η ζ) p) (grown (t_of x y z ξ η ζ) q) (on_second x y z ξ η ζ) ↔ (pos 0 <ℤ tilt k ((ζ *ℤ area_of p q x) +ℤ (ξ *ℤ area_of p q z)))
  second_side = on_side_at k _ _ _ _ _ (mul_pos _ _ t_pos s_pos) second_area
