-- Next to an end of an edge what the plane leaves of a face is nearer exactly where the face is and the points of its plane are not before that plane.
use Rattle.std.proofs.Common.{◌≡◌, ◌≢◌, inl, inr, [], ◌∷◌, refl, sym, subst, ◌∙◌, zero, suc, arith}
use Rattle.std.specs.Prelude.{ℤ, pos, negsuc, ◌+ℤ◌, ◌-ℤ◌, ◌*ℤ◌, ◌<ℤ◌, ◌≤ℤ◌, ◌↔◌, Bool, true, false, unsigned_abs, ◌<◌}
use Rattle.std.proofs.lemmas.Int.{ints, by_lt_z}
use Rattle.integers.proofs.Comparisons.{less_not_at_most, not_negative_of_positive}
use Rattle.integers.proofs.Ring.{var, con, ◌⊕◌, ◌⊖◌, ◌⊗◌, ring, by_one, by_three}
use Rattle.integers.proofs.Signs.{mul_pos, mul_nonneg, nonneg_of_mul, zero_of_mul, square_pos}
use Rattle.lattice.specs.declared.points.Corner.{Corner}
use Rattle.lattice.specs.Triple.{Triple, dot, right_axis}
use Rattle.lattice.specs.Points.{Point, IsPoint, point_of, height_of}
use Rattle.lattice.specs.Cuts.{Plane, toward_of, plane_height}
use Rattle.lattice.proofs.SightLines.{right_axis-is}
use Rattle.lattice.proofs.Vectors.{letters, dots}
use Rattle.geometry.specs.Cuts.{over_of}
use Rattle.geometry.specs.Faces.{facing_of, share_point, FaceHides}
use Rattle.geometry.specs.Parts.{Part, Face, Edge}
use Rattle.hiding_laws.specs.Values.{value_at, side_of, depth_of}
use Rattle.hiding_laws.specs.CutValues.{below_of, under_of}
use Rattle.hiding_laws.proofs.CutFronts.{under-share}
use Rattle.hiding_laws.proofs.CutPlanes.{square-one}
use Rattle.lattice.proofs.PointLetters.{point_letters, offsets, normals}
use Rattle.hiding_laws.proofs.OnScreens.{seen, covers_of_hides}
use Rattle.hiding_laws.proofs.Screens.{Covers}
use Rattle.hiding_laws.proofs.ScreenScale.{area_scale, turn_scale}
use Rattle.hiding_laws.proofs.Values.{facing-turned}
use Rattle.hiding_laws.proofs.Weights.{sides-sum, weigh_x, weigh_y, weigh_z}
use Rattle.hiding_laws.proofs.Seen.{on, scale, scale_pos}
use Rattle.cross_find.specs.Ends.{HoldsNext, HidesFrom, HidesAt, IsNotBelow}
use Rattle.cross_find.proofs.Next.{next_map, next_both, not_below_next, not_below_of_next}
use Rattle.cut_count_laws.specs.CutCovers.{RestHides, RestHidesNext}
use Rattle.cut_count_laws.proofs.CoverWeights.{first_turn, second_turn, third_turn}
use Rattle.cut_count_laws.proofs.RestCovers.{over_sum, covers_of_rest, rest_of_covers}
use Rattle.cut_count.specs.inner.Rests.{IsRestNext, IsRestNextAt}

-- ---- heights above the plane, by the values of a face's three sides
-- three corners with weights that sum up to w times f, at height g times f and q times t above p's
rises : (r s t f g h l m n w u q : ℤ) → ((r *ℤ l) +ℤ (s *ℤ m)) +ℤ (t *ℤ n) ≡ (f *ℤ g) +ℤ (u *ℤ q) → (r +ℤ s) +ℤ t ≡ w *ℤ f → q ≡ pos 1
    → ((r *ℤ ((pos 2 *ℤ l) -ℤ h)) +ℤ (s *ℤ ((pos 2 *ℤ m) -ℤ h))) +ℤ (t *ℤ ((pos 2 *ℤ n) -ℤ h)) ≡ pos 0 -ℤ ((f *ℤ ((h *ℤ w) -ℤ (pos 2 *ℤ g))) -ℤ (pos 2 *ℤ u))
rises r s t f g h l m n w u q weigh sum one =
    by_three _ _ _ _ (pos 2) _ _ (pos 0 -ℤ h) _ _ (pos 2 *ℤ u)
    (ring (r ∷ s ∷ t ∷ f ∷ g ∷ h ∷ l ∷ m ∷ n ∷ w ∷ u ∷ q ∷ [])
    ((((var 0 ⊗ ((con (pos 2) ⊗ var 6) ⊖ var 5)) ⊕ (var 1 ⊗ ((con (pos 2) ⊗ var 7) ⊖ var 5))) ⊕ (var 2 ⊗ ((con (pos 2) ⊗ var 8) ⊖ var 5)))
    ⊖ (con (pos 0) ⊖ ((var 3 ⊗ ((var 5 ⊗ var 9) ⊖ (con (pos 2) ⊗ var 4))) ⊖ (con (pos 2) ⊗ var 10))))
    (((((((var 0 ⊗ var 6) ⊕ (var 1 ⊗ var 7)) ⊕ (var 2 ⊗ var 8)) ⊖ ((var 3 ⊗ var 4) ⊕ (var 10 ⊗ var 11))) ⊗ con (pos 2))
    ⊕ ((((var 0 ⊕ var 1) ⊕ var 2) ⊖ (var 9 ⊗ var 3)) ⊗ (con (pos 0) ⊖ var 5)))
    ⊕ ((var 11 ⊖ con (pos 1)) ⊗ (con (pos 2) ⊗ var 10))) refl) weigh sum one

module _ (d : Triple) (a b c : Corner) (p : Point) where
  -- their weighed height
  weigh_height : ((side_of d b c p *ℤ height_of d (point_of a)) +ℤ (side_of d c a p *ℤ height_of d (point_of b))) +ℤ (side_of d a b p *ℤ height_of d (point_of c))
      ≡ (facing_of d a b c *ℤ height_of d p) +ℤ (depth_of a b c p *ℤ dot d d)
  weigh_height =
      by_three _ _ _ _ d.x _ _ d.y _ _ d.z
      (ring (d.x ∷ d.y ∷ d.z ∷ a.x ∷ a.y ∷ a.z ∷ b.x ∷ b.y ∷ b.z ∷ c.x ∷ c.y ∷ c.z ∷ p.x ∷ p.y ∷ p.z ∷ side_of d b c p ∷ side_of d c a p ∷ side_of d a b p ∷ facing_of d a b c ∷ depth_of a b c p ∷ [])
      (((((var 15 ⊗ dots (letters 0) (letters 3)) ⊕ (var 16 ⊗ dots (letters 0) (letters 6))) ⊕ (var 17 ⊗ dots (letters 0) (letters 9))))
      ⊖ ((var 18 ⊗ dots (letters 0) (letters 12)) ⊕ (var 19 ⊗ dots (letters 0) (letters 0))))
      (((((((var 15 ⊗ var 3) ⊕ (var 16 ⊗ var 6)) ⊕ (var 17 ⊗ var 9)) ⊖ ((var 18 ⊗ var 12) ⊕ (var 19 ⊗ var 0))) ⊗ var 0)
      ⊕ (((((var 15 ⊗ var 4) ⊕ (var 16 ⊗ var 7)) ⊕ (var 17 ⊗ var 10)) ⊖ ((var 18 ⊗ var 13) ⊕ (var 19 ⊗ var 1))) ⊗ var 1))
      ⊕ (((((var 15 ⊗ var 5) ⊕ (var 16 ⊗ var 8)) ⊕ (var 17 ⊗ var 11)) ⊖ ((var 18 ⊗ var 14) ⊕ (var 19 ⊗ var 2))) ⊗ var 2)) refl)
      (weigh_x d a b c p) (weigh_y d a b c p) (weigh_z d a b c p)

-- the other order of the corners turns the value round
under-turned : (x : Plane) (a b c : Corner) (p : Point) → under_of x a c b p ≡ pos 0 -ℤ under_of x a b c p
under-turned x a b c p =
    sum (facing_of (toward_of x) a b c) (facing_of (toward_of x) a c b) (depth_of a b c p) (depth_of a c b p) (below_of x p) (facing-turned (toward_of x) a b c)
    (ring (a.x ∷ a.y ∷ a.z ∷ b.x ∷ b.y ∷ b.z ∷ c.x ∷ c.y ∷ c.z ∷ p.x ∷ p.y ∷ p.z ∷ p.w ∷ [])
    (con (pos 0) ⊖ dots (offsets (letters 0) (point_letters 9)) (normals (letters 0) (letters 6) (letters 3)))
    (con (pos 0) ⊖ (con (pos 0) ⊖ dots (offsets (letters 0) (point_letters 9)) (normals (letters 0) (letters 3) (letters 6)))) refl)
  where
    sum : (f g u t h : ℤ) → g ≡ pos 0 -ℤ f → t ≡ pos 0 -ℤ u → (g *ℤ h) -ℤ (pos 2 *ℤ t) ≡ pos 0 -ℤ ((f *ℤ h) -ℤ (pos 2 *ℤ u))
    sum f g u t h e k =
        (λ i. (e i *ℤ h) -ℤ (pos 2 *ℤ k i))
        ∙ ring (f ∷ u ∷ h ∷ []) (((con (pos 0) ⊖ var 0) ⊗ var 2) ⊖ (con (pos 2) ⊗ (con (pos 0) ⊖ var 1))) (con (pos 0) ⊖ ((var 0 ⊗ var 2) ⊖ (con (pos 2) ⊗ var 1))) refl

-- ---- over a point
module _ (x : Plane) {s : Part} (f : Face s) where
  abbrev d : Triple
  d = toward_of x

  abbrev facing : ℤ
  facing = facing_of d f.a f.b f.c

  -- the face's point over p is not before the plane
  abbrev Leaves : Point → Type 0
  Leaves p = pos 0 ≤ℤ (facing *ℤ under_of x f.a f.b f.c p)

  module _ (turned : facing ≢ pos 0) (p : Point) (point : IsPoint p) where
    abbrev under : ℤ
    under = under_of x f.a f.b f.c p

    heights : ((side_of d f.b f.c p *ℤ over_of x f.a) +ℤ (side_of d f.c f.a p *ℤ over_of x f.b)) +ℤ (side_of d f.a f.b p *ℤ over_of x f.c) ≡ pos 0 -ℤ under
    heights = rises (side_of d f.b f.c p) (side_of d f.c f.a p) (side_of d f.a f.b p) facing (height_of d p) (plane_height x) (height_of d (point_of f.a)) (height_of d (point_of f.b)) (height_of d (point_of f.c)) p.w
        (depth_of f.a f.b f.c p) (dot d d) (weigh_height d f.a f.b f.c p) (sides-sum d f.a f.b f.c p) (square-one x)

    module _ (v : Covers (on d f.a) (on d f.b) (on d f.c) (seen d p)) where
      abbrev sum : ℤ
      sum = (v.i +ℤ v.j) +ℤ v.k

      abbrev over : ℤ
      over = over_sum x f.a f.b f.c v.i v.j v.k

      unscaled : (l t z w i g : ℤ) → pos 0 <ℤ l → t *ℤ (l *ℤ z) ≡ w *ℤ (i *ℤ (l *ℤ g)) → t *ℤ z ≡ w *ℤ (i *ℤ g)
      unscaled l t z w i g positive h = equal _ _ (zero_of_mul l _ positive
          (by_one _ _ _ _ (pos 1) (ring (l ∷ t ∷ z ∷ w ∷ i ∷ g ∷ []) ((var 0 ⊗ ((var 1 ⊗ var 2) ⊖ (var 3 ⊗ (var 4 ⊗ var 5)))) ⊖ con (pos 0))
          (((var 1 ⊗ (var 0 ⊗ var 2)) ⊖ (var 3 ⊗ (var 4 ⊗ (var 0 ⊗ var 5)))) ⊗ con (pos 1)) refl) h))
        where
          equal : (a b : ℤ) → a -ℤ b ≡ pos 0 → a ≡ b
          equal a b h = omega (arith, ints)

      area : (i : ℤ) (k l : Corner) → sum *ℤ (scale d *ℤ side_of d k l p) ≡ p.w *ℤ (i *ℤ (scale d *ℤ facing)) → sum *ℤ side_of d k l p ≡ p.w *ℤ (i *ℤ facing)
      area i k l h = unscaled (scale d) sum (side_of d k l p) p.w i facing (scale_pos d) h

      first : sum *ℤ side_of d f.b f.c p ≡ p.w *ℤ (v.i *ℤ facing)
      first = area v.i f.b f.c
          ((λ t. sum *ℤ sym (turn_scale d (right_axis d) (right_axis-is d).level f.b f.c p) t)
          ∙ first_turn (on d f.a) (on d f.b) (on d f.c) (seen d p) v
          ∙ (λ t. p.w *ℤ (v.i *ℤ area_scale d (right_axis d) (right_axis-is d).level f.a f.b f.c t)))

      second : sum *ℤ side_of d f.c f.a p ≡ p.w *ℤ (v.j *ℤ facing)
      second = area v.j f.c f.a
          ((λ t. sum *ℤ sym (turn_scale d (right_axis d) (right_axis-is d).level f.c f.a p) t)
          ∙ second_turn (on d f.a) (on d f.b) (on d f.c) (seen d p) v
          ∙ (λ t. p.w *ℤ (v.j *ℤ area_scale d (right_axis d) (right_axis-is d).level f.a f.b f.c t)))

      third : sum *ℤ side_of d f.a f.b p ≡ p.w *ℤ (v.k *ℤ facing)
      third = area v.k f.a f.b
          ((λ t. sum *ℤ sym (turn_scale d (right_axis d) (right_axis-is d).level f.a f.b p) t)
          ∙ third_turn (on d f.a) (on d f.b) (on d f.c) (seen d p) v
          ∙ (λ t. p.w *ℤ (v.k *ℤ area_scale d (right_axis d) (right_axis-is d).level f.a f.b f.c t)))

      -- the face's point over p is as high above the plane as its value says
      over-is : sum *ℤ (facing *ℤ under) ≡ (p.w *ℤ (facing *ℤ facing)) *ℤ (pos 0 -ℤ over)
      over-is = weighed sum facing under p.w v.i v.j v.k (side_of d f.b f.c p) (side_of d f.c f.a p) (side_of d f.a f.b p) (over_of x f.a) (over_of x f.b) (over_of x f.c) heights first second third
        where
          weighed : (t g u w i j k y z r l m n : ℤ) → ((y *ℤ l) +ℤ (z *ℤ m)) +ℤ (r *ℤ n) ≡ pos 0 -ℤ u → t *ℤ y ≡ w *ℤ (i *ℤ g) → t *ℤ z ≡ w *ℤ (j *ℤ g) → t *ℤ r ≡ w *ℤ (k *ℤ g)
              → t *ℤ (g *ℤ u) ≡ (w *ℤ (g *ℤ g)) *ℤ (pos 0 -ℤ (((i *ℤ l) +ℤ (j *ℤ m)) +ℤ (k *ℤ n)))
          weighed t g u w i j k y z r l m n rise a b c =
              (λ q. t *ℤ (g *ℤ turn u _ rise q))
              ∙ by_three _ _ _ _ (pos 0 -ℤ (g *ℤ l)) _ _ (pos 0 -ℤ (g *ℤ m)) _ _ (pos 0 -ℤ (g *ℤ n))
              (ring (t ∷ g ∷ w ∷ i ∷ j ∷ k ∷ y ∷ z ∷ r ∷ l ∷ m ∷ n ∷ [])
              ((var 0 ⊗ (var 1 ⊗ (con (pos 0) ⊖ (((var 6 ⊗ var 9) ⊕ (var 7 ⊗ var 10)) ⊕ (var 8 ⊗ var 11)))))
              ⊖ ((var 2 ⊗ (var 1 ⊗ var 1)) ⊗ (con (pos 0) ⊖ (((var 3 ⊗ var 9) ⊕ (var 4 ⊗ var 10)) ⊕ (var 5 ⊗ var 11)))))
              (((((var 0 ⊗ var 6) ⊖ (var 2 ⊗ (var 3 ⊗ var 1))) ⊗ (con (pos 0) ⊖ (var 1 ⊗ var 9)))
              ⊕ (((var 0 ⊗ var 7) ⊖ (var 2 ⊗ (var 4 ⊗ var 1))) ⊗ (con (pos 0) ⊖ (var 1 ⊗ var 10))))
              ⊕ (((var 0 ⊗ var 8) ⊖ (var 2 ⊗ (var 5 ⊗ var 1))) ⊗ (con (pos 0) ⊖ (var 1 ⊗ var 11)))) refl) a b c
            where
              turn : (u y : ℤ) → y ≡ pos 0 -ℤ u → u ≡ pos 0 -ℤ y
              turn u y h = omega (arith, ints)

      factor : pos 0 <ℤ (p.w *ℤ (facing *ℤ facing))
      factor = mul_pos p.w (facing *ℤ facing) point (square_pos facing (some facing turned))
        where
          some : (z : ℤ) → z ≢ pos 0 → 0 < unsigned_abs z
          some (pos zero) h = absurd (h refl)
          some (pos (suc n)) h = omega arith
          some (negsuc n) h = omega arith

      value_of_over : over ≤ℤ pos 0 → pos 0 ≤ℤ (facing *ℤ under)
      value_of_over h = nonneg_of_mul sum (facing *ℤ under) v.some (subst (λ (z : ℤ). pos 0 ≤ℤ z) (sym over-is)
          (mul_nonneg (p.w *ℤ (facing *ℤ facing)) (pos 0 -ℤ over) (least (p.w *ℤ (facing *ℤ facing)) factor) (negated over h)))
        where
          least : (z : ℤ) → pos 0 <ℤ z → pos 0 ≤ℤ z
          least z h = omega (arith, ints)

          negated : (z : ℤ) → z ≤ℤ pos 0 → pos 0 ≤ℤ (pos 0 -ℤ z)
          negated z h = omega (arith, ints)

      over_of_value : pos 0 ≤ℤ (facing *ℤ under) → over ≤ℤ pos 0
      over_of_value h = negated over (nonneg_of_mul (p.w *ℤ (facing *ℤ facing)) (pos 0 -ℤ over) factor (subst (λ (z : ℤ). pos 0 ≤ℤ z) over-is
          (mul_nonneg sum (facing *ℤ under) (least sum v.some) h)))
        where
          least : (z : ℤ) → pos 0 <ℤ z → pos 0 ≤ℤ z
          least z h = omega (arith, ints)

          negated : (z : ℤ) → pos 0 ≤ℤ (pos 0 -ℤ z) → z ≤ℤ pos 0
          negated z h = omega (arith, ints)

    rest_is : RestHides x f p ↔ (FaceHides d f.a f.b f.c p × Leaves p)
    rest_is = (
      (λ h.
          let (v, most) = covers_of_rest x f.a f.b f.c f (inl (refl, refl, refl)) p h in
          (record { point = h.point; on_face = h.on_face; same_sight = h.same_sight; nearer = h.nearer }, value_of_over v most)),
      (λ (h, least).
          let v = covers_of_hides d f.a f.b f.c p h in
          rest_of_covers x f.a f.b f.c f (inl (refl, refl, refl)) p (v, over_of_value v least)),
    )

-- ---- next to an end of an edge
module _ (x : Plane) {s : Part} (f : Face s) (turned : facing_of (toward_of x) f.a f.b f.c ≢ pos 0) (o q : Corner) where
  abbrev Hides : ℤ → ℤ → Type 0
  Hides k l = FaceHides (toward_of x) f.a f.b f.c (share_point o q k l)

  abbrev Left : ℤ → ℤ → Type 0
  Left k l = Leaves x f (share_point o q k l)

  abbrev Rest : ℤ → ℤ → Type 0
  Rest k l = RestHides x f (share_point o q k l)

  -- a value that is linear along the edge
  module _ (b c : Corner) where
    abbrev Evenly : ℤ → ℤ → Type 0
    Evenly k l = pos 0 ≤ℤ value_at (under_of x f.a b c (point_of o)) (under_of x f.a b c (point_of q)) k l

    to_ends : ((k l : ℤ) → Left k l → pos 0 ≤ℤ under_of x f.a b c (share_point o q k l)) → HoldsNext Left
        → IsNotBelow (under_of x f.a b c (point_of o)) (under_of x f.a b c (point_of q))
    to_ends least h = not_below_of_next _ _ (next_map Left Evenly (λ k l hk hl left. subst (λ (z : ℤ). pos 0 ≤ℤ z) (under-share x f.a b c o q k l) (least k l left)) h)

    of_ends : ((k l : ℤ) → pos 0 ≤ℤ under_of x f.a b c (share_point o q k l) → Left k l)
        → IsNotBelow (under_of x f.a b c (point_of o)) (under_of x f.a b c (point_of q)) → HoldsNext Left
    of_ends left h = next_map Evenly Left (λ k l hk hl least. left k l (subst (λ (z : ℤ). pos 0 ≤ℤ z) (sym (under-share x f.a b c o q k l)) least)) (not_below_next _ _ h)

  -- the sign of the face tells in which order its corners are seen counterclockwise
  same_sign : (g u : ℤ) → pos 0 <ℤ g → pos 0 ≤ℤ (g *ℤ u) ↔ (pos 0 ≤ℤ u)
  same_sign g u positive = (nonneg_of_mul g u positive, λ h. mul_nonneg g u (not_negative_of_positive g positive) h)

  other_sign : (g u v : ℤ) → v ≡ pos 0 -ℤ u → ¬ (pos 0 <ℤ g) → g ≢ pos 0 → pos 0 ≤ℤ (g *ℤ u) ↔ (pos 0 ≤ℤ v)
  other_sign g u v other front some =
      let back = negative g front some in (
        (λ h. subst (λ (z : ℤ). pos 0 ≤ℤ z) (sym other) (nonneg_of_mul (pos 0 -ℤ g) (pos 0 -ℤ u) back (subst (λ (z : ℤ). pos 0 ≤ℤ z) turned_both h))),
        (λ h. subst (λ (z : ℤ). pos 0 ≤ℤ z) (sym turned_both) (mul_nonneg (pos 0 -ℤ g) (pos 0 -ℤ u) (not_negative_of_positive _ back) (subst (λ (z : ℤ). pos 0 ≤ℤ z) other h))),
      )
    where
      negative : (g : ℤ) → ¬ (pos 0 <ℤ g) → g ≢ pos 0 → pos 0 <ℤ (pos 0 -ℤ g)
      negative (pos zero) h n = absurd (n refl)
      negative (pos (suc k)) h n = absurd (h (omega (arith, ints)))
      negative (negsuc k) h n = omega (arith, ints)

      turned_both : g *ℤ u ≡ (pos 0 -ℤ g) *ℤ (pos 0 -ℤ u)
      turned_both = ring (g ∷ u ∷ []) (var 0 ⊗ var 1) ((con (pos 0) ⊖ var 0) ⊗ (con (pos 0) ⊖ var 1)) refl

  abbrev value : Corner → Corner → ℤ → ℤ → ℤ
  value b c k l = under_of x f.a b c (share_point o q k l)

  front_sign : pos 0 <ℤ facing_of (toward_of x) f.a f.b f.c → (k l : ℤ) → Left k l ↔ (pos 0 ≤ℤ value f.b f.c k l)
  front_sign front k l = same_sign (facing_of (toward_of x) f.a f.b f.c) (value f.b f.c k l) front

  back_sign : ¬ (pos 0 <ℤ facing_of (toward_of x) f.a f.b f.c) → (k l : ℤ) → Left k l ↔ (pos 0 ≤ℤ value f.c f.b k l)
  back_sign front k l = other_sign (facing_of (toward_of x) f.a f.b f.c) (value f.b f.c k l) (value f.c f.b k l) (under-turned x f.a f.b f.c (share_point o q k l)) front turned

  left_next : HoldsNext Left ↔ IsRestNext x f.a f.b f.c o q
  left_next = (to, of)
    where
      to : HoldsNext Left → IsRestNext x f.a f.b f.c o q
      to h = by_lt_z (pos 0) (facing_of (toward_of x) f.a f.b f.c)
          (λ front. inl (front, to_ends f.b f.c (λ k l. (front_sign front k l).0) h))
          (λ most.
          let back : ¬ (pos 0 <ℤ facing_of (toward_of x) f.a f.b f.c) = λ less. less_not_at_most _ _ less most in
          inr (back, to_ends f.c f.b (λ k l. (back_sign back k l).0) h))

      of : IsRestNext x f.a f.b f.c o q → HoldsNext Left
      of (inl (front, h)) = of_ends f.b f.c (λ k l. (front_sign front k l).1) h
      of (inr (back, h)) = of_ends f.c f.b (λ k l. (back_sign back k l).1) h

  rest_next : HoldsNext Rest ↔ (HidesFrom (toward_of x) f.a f.b f.c o q × IsRestNext x f.a f.b f.c o q)
  rest_next = (
    (λ h. (
      next_map Rest Hides (λ k l hk hl rest. ((rest_is x f turned (share_point o q k l) hl).0 rest).0) h,
      left_next.0 (next_map Rest Left (λ k l hk hl rest. ((rest_is x f turned (share_point o q k l) hl).0 rest).1) h),
    )),
    (λ (hides, left). next_map (λ k l. Hides k l × Left k l) Rest (λ k l hk hl both. (rest_is x f turned (share_point o q k l) hl).1 both) (next_both Hides Left hides (left_next.1 left))),
  )

-- from either end
module _ (x : Plane) {s : Part} (e : Edge s) (f : Face s) (turned : facing_of (toward_of x) f.a f.b f.c ≢ pos 0) where
  pub rest_at : (at_b : Bool) → RestHidesNext x e at_b f ↔ (HidesAt at_b (toward_of x) f.a f.b f.c e.a e.b × IsRestNextAt at_b x f.a f.b f.c e.a e.b)
  rest_at false = (
    (λ h. (rest_next x f turned e.a e.b).0 (record { n = h.n; m = h.m; some = h.some; within = h.within; over = h.over })),
    (λ both. let h = (rest_next x f turned e.a e.b).1 both in record { n = h.n; m = h.m; some = h.some; within = h.within; over = h.over }),
  )
  rest_at true = (
    (λ h. (rest_next x f turned e.b e.a).0 (record { n = h.n; m = h.m; some = h.some; within = h.within; over = h.over })),
    (λ both. let h = (rest_next x f turned e.b e.a).1 both in record { n = h.n; m = h.m; some = h.some; within = h.within; over = h.over }),
  )
