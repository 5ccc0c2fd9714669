-- At a valid place the rest of a face counts exactly where the face is counted.
use Rattle.std.proofs.Common.{◌≡◌, ◌⊎◌, inl, inr, refl, sym, subst, arith}
use Rattle.std.specs.Prelude.{ℤ, pos, ◌+ℤ◌, ◌-ℤ◌, ◌*ℤ◌, ◌≤ℤ◌, ◌<ℤ◌}
use Rattle.std.proofs.lemmas.Int.{ints, by_lt_z}
use Rattle.integers.proofs.Signs.{mul_nonneg}
use Rattle.lattice.specs.declared.points.Corner.{Corner}
use Rattle.lattice.specs.Points.{Point, height_of}
use Rattle.lattice.specs.Cuts.{Plane, toward_of, plane_height, IsBeyond, IsBeforePlane, IsOnPlane}
use Rattle.geometry.specs.Cuts.{over_of, FaceHidesInCut}
use Rattle.geometry.specs.Faces.{share_point}
use Rattle.geometry.specs.Parts.{Part, Face, Edge}
use Rattle.geometry.proofs.Borders.{over_beyond, over_before, not_both_sides}
use Rattle.geometry.specs.Counts.{Side, ReachesTo}
use Rattle.hiding_laws.proofs.Seen.{on, on_side_of, of_on_side}
use Rattle.hiding_laws.proofs.Signs.{weak}
use Rattle.cut_count_laws.specs.CutCovers.{RestOfSideReaches, RestReachesTo}
use Rattle.cut_count_laws.proofs.Rests.{AreInOrder}
use Rattle.cut_count_laws.proofs.Laws.{ValidRestLaw}
use Rattle.cut_count_laws.proofs.RestCovers.{side_from, side_of_from, beyond_at_place}
use Rattle.cut_count_laws.proofs.RestSides.{value, reaches_whole, reaches_none}
use Rattle.cut_count_laws.proofs.CornerScreens.{far_pos_before, far_pos_beyond, on_side_is}
use Rattle.cut_count_laws.proofs.FaceBorder.{Lies, all_beyond, all_before, one_before, one_beyond, lies}
use Rattle.cut_count_laws.proofs.CornerRest.{sides_of, of_sides}
use Rattle.cut_count_laws.proofs.CornerRest.{over_is as over_part}
use Rattle.cut_count_laws.proofs.Difference.{part_to_whole, rest_to_whole, whole_to_part, whole_to_rest, rest_sides_of, of_rest_sides, over_is, inner_size}
use Rattle.hiding_laws.proofs.Near.{tilt}

module _ {s : Part} (f : Face s) (T : Corner → Type 0) where
  -- of one of the face's corners, in its order and from another corner on
  corner_from : (x y z : Corner) → AreInOrder f x y z → T f.a ⊎ T f.b ⊎ T f.c → T x ⊎ T y ⊎ T z
  corner_from x y z (inl (a, b, c)) h = subst (λ t. t) (λ r. T (a r) ⊎ T (b r) ⊎ T (c r)) h
  corner_from x y z (inr (inl (b, c, a))) h = subst (λ t. t) (λ r. T (b r) ⊎ T (c r) ⊎ T (a r)) (elim h [ inl h ↦ inr (inr h) | inr h ↦ elim h [ inl h ↦ inl h | inr h ↦ inr (inl h) ] ])
  corner_from x y z (inr (inr (c, a, b))) h = subst (λ t. t) (λ r. T (c r) ⊎ T (a r) ⊎ T (b r)) (elim h [ inl h ↦ inr (inl h) | inr h ↦ elim h [ inl h ↦ inr (inr h) | inr h ↦ inl h ] ])

  of_corner_from : (x y z : Corner) → AreInOrder f x y z → T x ⊎ T y ⊎ T z → T f.a ⊎ T f.b ⊎ T f.c
  of_corner_from x y z (inl (a, b, c)) h = subst (λ t. t) (λ r. T (sym a r) ⊎ T (sym b r) ⊎ T (sym c r)) h
  of_corner_from x y z (inr (inl (b, c, a))) h = elim (subst (λ t. t) (λ r. T (sym b r) ⊎ T (sym c r) ⊎ T (sym a r)) h) [ inl h ↦ inr (inl h) | inr h ↦ elim h [ inl h ↦ inr (inr h) | inr h ↦ inl h ] ]
  of_corner_from x y z (inr (inr (c, a, b))) h = elim (subst (λ t. t) (λ r. T (sym c r) ⊎ T (sym a r) ⊎ T (sym b r)) h) [ inl h ↦ inr (inr h) | inr h ↦ elim h [ inl h ↦ inl h | inr h ↦ inr (inl h) ] ]

module _ (k : Side) (c : Plane) (s : Part) (e : Edge s) (f : Face s) (n m : ℤ) (m_pos : pos 0 <ℤ m) where
  abbrev Up : Corner → Type 0
  Up x = pos 0 <ℤ tilt k (value (toward_of c) e.a e.b x)

  reach_up : ReachesTo k (toward_of c) e f → Up f.a ⊎ Up f.b ⊎ Up f.c
  reach_up (inl h) = inl ((on_side_is k (on (toward_of c) e.a) (on (toward_of c) e.b) (on (toward_of c) f.a)).0 (on_side_of (toward_of c) k e.a e.b f.a h))
  reach_up (inr (inl h)) = inr (inl ((on_side_is k (on (toward_of c) e.a) (on (toward_of c) e.b) (on (toward_of c) f.b)).0 (on_side_of (toward_of c) k e.a e.b f.b h)))
  reach_up (inr (inr h)) = inr (inr ((on_side_is k (on (toward_of c) e.a) (on (toward_of c) e.b) (on (toward_of c) f.c)).0 (on_side_of (toward_of c) k e.a e.b f.c h)))

  up_reach : Up f.a ⊎ Up f.b ⊎ Up f.c → ReachesTo k (toward_of c) e f
  up_reach (inl h) = inl (of_on_side (toward_of c) k e.a e.b f.a ((on_side_is k (on (toward_of c) e.a) (on (toward_of c) e.b) (on (toward_of c) f.a)).1 h))
  up_reach (inr (inl h)) = inr (inl (of_on_side (toward_of c) k e.a e.b f.b ((on_side_is k (on (toward_of c) e.a) (on (toward_of c) e.b) (on (toward_of c) f.b)).1 h)))
  up_reach (inr (inr h)) = inr (inr (of_on_side (toward_of c) k e.a e.b f.c ((on_side_is k (on (toward_of c) e.a) (on (toward_of c) e.b) (on (toward_of c) f.c)).1 h)))

  as_is : AreInOrder f f.a f.b f.c
  as_is = inl (refl, refl, refl)

  -- what is left of the face reaches where a corner of the face does
  reach_of_rest : Lies c f → RestReachesTo k c e f → ReachesTo k (toward_of c) e f
  reach_of_rest (all_beyond p q r) h = up_reach (by (side_from f f.a f.b f.c as_is (RestOfSideReaches k c e) h))
    where
      by : RestOfSideReaches k c e f.a f.b ⊎ RestOfSideReaches k c e f.b f.c ⊎ RestOfSideReaches k c e f.c f.a → Up f.a ⊎ Up f.b ⊎ Up f.c
      by (inl g) = elim ((reaches_whole k c e f.a f.b (over_beyond c f.a p) (over_beyond c f.b q)).0 g) [ inl a ↦ inl a | inr a ↦ inr (inl a) ]
      by (inr (inl g)) = elim ((reaches_whole k c e f.b f.c (over_beyond c f.b q) (over_beyond c f.c r)).0 g) [ inl a ↦ inr (inl a) | inr a ↦ inr (inr a) ]
      by (inr (inr g)) = elim ((reaches_whole k c e f.c f.a (over_beyond c f.c r) (over_beyond c f.a p)).0 g) [ inl a ↦ inr (inr a) | inr a ↦ inl a ]
  reach_of_rest (all_before p q r) h = absurd (by (side_from f f.a f.b f.c as_is (RestOfSideReaches k c e) h))
    where
      by : RestOfSideReaches k c e f.a f.b ⊎ RestOfSideReaches k c e f.b f.c ⊎ RestOfSideReaches k c e f.c f.a → ⊥
      by (inl g) = reaches_none k c e f.a f.b (over_before c f.a p) (over_before c f.b q) g
      by (inr (inl g)) = reaches_none k c e f.b f.c (over_before c f.b q) (over_before c f.c r) g
      by (inr (inr g)) = reaches_none k c e f.c f.a (over_before c f.c r) (over_before c f.a p) g
  reach_of_rest (one_before x y z order p q r) h =
      let u = over_before c x p in
      let v = over_beyond c y q in
      let w = over_beyond c z r in
      up_reach (of_corner_from f Up x y z order
      (rest_to_whole k c e f x y z order (far_pos_before c x u) (far_pos_beyond c y v) (far_pos_beyond c z w) (rest_sides_of k c e f x y z order u v w h)))
  reach_of_rest (one_beyond x y z order p q r) h =
      let u = over_beyond c x p in
      let v = over_before c y q in
      let w = over_before c z r in
      up_reach (of_corner_from f Up x y z order
      (part_to_whole k c e f x y z order (far_pos_beyond c x u) (far_pos_before c y v) (far_pos_before c z w) (sides_of k c e f x y z order n m u v w h)))

  negative_at : (a b : ℤ) → a ≡ b → a <ℤ pos 0 → b <ℤ pos 0
  negative_at a b g h = omega (arith, ints)

  positive_back : (a b : ℤ) → a ≡ pos 0 -ℤ b → a <ℤ pos 0 → pos 0 <ℤ b
  positive_back a b g h = omega (arith, ints)

  -- and a face that hides the place beyond the plane reaches there by what is left of it
  rest_of_reach : Lies c f → FaceHidesInCut c f (share_point e.a e.b n m) → ReachesTo k (toward_of c) e f → RestReachesTo k c e f
  rest_of_reach (all_beyond p q r) hides h = side_of_from f f.a f.b f.c as_is (RestOfSideReaches k c e) (by (reach_up h))
    where
      by : Up f.a ⊎ Up f.b ⊎ Up f.c → RestOfSideReaches k c e f.a f.b ⊎ RestOfSideReaches k c e f.b f.c ⊎ RestOfSideReaches k c e f.c f.a
      by (inl a) = inl ((reaches_whole k c e f.a f.b (over_beyond c f.a p) (over_beyond c f.b q)).1 (inl a))
      by (inr (inl a)) = inl ((reaches_whole k c e f.a f.b (over_beyond c f.a p) (over_beyond c f.b q)).1 (inr a))
      by (inr (inr a)) = inr (inl ((reaches_whole k c e f.b f.c (over_beyond c f.b q) (over_beyond c f.c r)).1 (inr a)))
  rest_of_reach (all_before p q r) hides h =
      let v = beyond_at_place c f.a f.b f.c e f as_is n m hides in
      absurd (never v.0.i v.0.j v.0.k (over_of c f.a) (over_of c f.b) (over_of c f.c) v.0.i_least v.0.j_least v.0.k_least (over_before c f.a p) (over_before c f.b q) (over_before c f.c r) v.1)
    where
      never : (i j l x y z : ℤ) → pos 0 ≤ℤ i → pos 0 ≤ℤ j → pos 0 ≤ℤ l → pos 0 <ℤ x → pos 0 <ℤ y → pos 0 <ℤ z → (((i *ℤ x) +ℤ (j *ℤ y)) +ℤ (l *ℤ z)) <ℤ pos 0 → ⊥
      never i j l x y z hi hj hl hx hy hz h = sum _ _ _ (mul_nonneg i x hi (weak x hx)) (mul_nonneg j y hj (weak y hy)) (mul_nonneg l z hl (weak z hz)) h
        where
          sum : (u v w : ℤ) → pos 0 ≤ℤ u → pos 0 ≤ℤ v → pos 0 ≤ℤ w → ((u +ℤ v) +ℤ w) <ℤ pos 0 → ⊥
          sum u v w a b d g = omega (arith, ints)
  rest_of_reach (one_before x y z order p q r) hides h =
      let u = over_before c x p in
      let v = over_beyond c y q in
      let w = over_beyond c z r in
      let g = beyond_at_place c x y z e f order n m hides in
      of_rest_sides k c e f x y z order u v w
      (whole_to_rest k c e f x y z order (far_pos_before c x u) (far_pos_beyond c y v) (far_pos_beyond c z w) n m m_pos g.0 (negative_at _ _ (over_is k c e f x y z order u v w g.0.i g.0.j g.0.k) g.1)
      (corner_from f Up x y z order (reach_up h)))
  rest_of_reach (one_beyond x y z order p q r) hides h =
      let u = over_beyond c x p in
      let v = over_before c y q in
      let w = over_before c z r in
      let g = beyond_at_place c x y z e f order n m hides in
      of_sides k c e f x y z order n m u v w
      (whole_to_part k c e f x y z order (far_pos_beyond c x u) (far_pos_before c y v) (far_pos_before c z w) n m m_pos g.0 (positive_back _ _ (over_part k c e f x y z order n m u v w g.0.i g.0.j g.0.k) g.1)
      (corner_from f Up x y z order (reach_up h)))

-- a point that is neither before the plane nor on it is beyond it
beyond_else : (c : Plane) (p : Point) → ¬ IsBeforePlane c p → ¬ IsOnPlane c p → IsBeyond c p
beyond_else c p not_before not_on = by (pos 2 *ℤ height_of (toward_of c) p) (plane_height c *ℤ p.w) not_before not_on
  where
    both : (a b : ℤ) → a ≤ℤ b → b ≤ℤ a → a ≡ b
    both a b h l = omega (arith, ints)

    by : (a b : ℤ) → ¬ (b <ℤ a) → ¬ (a ≡ b) → a <ℤ b
    by a b h l = by_lt_z a b (λ g. g) (λ g. by_lt_z b a (λ t. absurd (h t)) (λ t. absurd (l (both a b t g))))

pub valid_rest : ValidRestLaw
valid_rest k c s sound in_range e f n m valid =
    let m_pos = inner_size n m valid.after valid.before in (
      (λ h. record {
        turned = h.turned;
        hides = record {
          point = h.hides.point;
          on_face = h.hides.on_face;
          beyond = beyond_else c h.hides.point h.hides.not_before (λ on. valid.free (f, (h.hides.point, (h.hides.on_face, on), h.hides.same_sight)));
          same_sight = h.hides.same_sight;
          nearer = h.hides.nearer;
        };
        reaches = reach_of_rest k c s e f n m m_pos (lies c f) h.reaches;
      }),
      (λ h. record {
        turned = h.turned;
        hides = record {
          point = h.hides.point;
          on_face = h.hides.on_face;
          not_before = λ b. not_both_sides c h.hides.point h.hides.beyond b;
          same_sight = h.hides.same_sight;
          nearer = h.hides.nearer;
        };
        reaches = rest_of_reach k c s e f n m m_pos (lies c f) h.hides h.reaches;
      }),
    )
