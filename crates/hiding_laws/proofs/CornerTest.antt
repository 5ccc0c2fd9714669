-- What an outline changes of a count in a turn about a corner, from which of its ends the turn passes by the signs of numbers.
use Rattle.std.proofs.Common.{◌≡◌, ◌⊎◌, inl, inr, ℕ, [], ◌∷◌, refl, sym, ap, subst, ◌∙◌, arith}
use Rattle.std.specs.Prelude.{ℤ, pos, ◌+ℤ◌, ◌-ℤ◌, ◌*ℤ◌, ◌≤ℤ◌, ◌<ℤ◌}
use Rattle.std.proofs.lemmas.Int.{ints}
use Rattle.integers.proofs.Comparisons.{positive_at, not_negative_at}
use Rattle.integers.proofs.Ring.{var, con, ◌⊕◌, ◌⊖◌, ◌⊗◌, ring, by_one, by_two}
use Rattle.integers.proofs.Signs.{mul_nonneg, nonneg_of_mul, square_nonneg}
use Rattle.lattice.specs.declared.points.Corner.{Corner}
use Rattle.lattice.specs.Triple.{Triple, dot, right_axis, up_axis}
use Rattle.lattice.specs.Points.{point_of, scaled, difference}
use Rattle.lattice.proofs.Vectors.{letters, dots}
use Rattle.geometry.specs.Parts.{Part, Edge}
use Rattle.geometry.specs.Views.{face_sign}
use Rattle.hiding_laws.proofs.Screens.{Screen, length_of, along_of, rest_of, side_lead_of, SideCovers}
use Rattle.lattice.proofs.PointLetters.{ways}
use Rattle.hiding_laws.proofs.ScreenSides.{side_from, side_to, length_least, length_zero, pos_of_least}
use Rattle.geometry.specs.Counts.{Side}
use Rattle.geometry.specs.Covers.{IsOneWhere}
use Rattle.geometry.specs.Turns.{Way, product_of, way_to, IsNearerOver, PassesEnd, HasTurned}
use Rattle.geometry.specs.Turns.HasTurned.{over, not_over}
use Rattle.hiding_laws.specs.inner.Perturbations.{IsLeft, TwoAreLeft}
use Rattle.hiding_laws.proofs.CornerLaws.{way}
use Rattle.hiding_laws.specs.inner.Tallies.{IsTally}
use Rattle.hiding_laws.specs.inner.Tallies.{yes, no}
use Rattle.hiding_laws.specs.inner.CornerTests.{PassesBetween, rise_to, IsOver}
use Rattle.hiding_laws.proofs.Corner.{to_both}
use Rattle.hiding_laws.proofs.CornerEnds.{AtOnePlace, covers_or, end_on_place, one_place, one_sight, covers_of_over, over_of_covers}
use Rattle.hiding_laws.proofs.EdgePasses.{same_or_not}
use Rattle.hiding_laws.proofs.FinePerturbations.{of_two_left, two_left}
use Rattle.hiding_laws.proofs.Seen.{on}
use Rattle.hiding_laws.proofs.Signs.{clash_zero, sum_nonneg}

-- ---- ways by scalar products
by_product : (t : Triple) (p q : Corner) → dot t (scaled (point_of q)) -ℤ dot t (scaled (point_of p)) ≡ dot t (difference p q)
by_product t p q =
    ring (t.x ∷ t.y ∷ t.z ∷ p.x ∷ p.y ∷ p.z ∷ q.x ∷ q.y ∷ q.z ∷ []) (dots (letters 0) (letters 6) ⊖ dots (letters 0) (letters 3)) (dots (letters 0) (ways (letters 3) (letters 6))) refl

pub way-axes : (d : Triple) (p q : Corner) → way_to d p q ≡ record { u = dot (right_axis d) (difference p q); v = dot (up_axis d) (difference p q) }
way-axes d p q = λ t. record { u = by_product (right_axis d) p q t; v = by_product (up_axis d) p q t }

pub rise-direction : (d : Triple) (p q : Corner) → rise_to d p q ≡ dot d (difference p q)
rise-direction d p q = by_product d p q

-- ---- a side over the corner, by the ways to its ends
module _ (o a b : Screen) (ow : o.w ≡ pos 1) where
  abbrev V : Way
  V = way o a

  abbrev W : Way
  W = way o b

  abbrev at : (z : ℤ) → Screen
  at z = record { u = o.u; v = o.v; h = o.h; w = z }

  along_is : along_of a b o ≡ product_of V V -ℤ product_of V W
  along_is =
      (λ t. along_of a b (at (ow t)))
      ∙ ring (o.u ∷ o.v ∷ a.u ∷ a.v ∷ b.u ∷ b.v ∷ []) (((var 4 ⊖ var 2) ⊗ (var 0 ⊖ (con (pos 1) ⊗ var 2))) ⊕ ((var 5 ⊖ var 3) ⊗ (var 1 ⊖ (con (pos 1) ⊗ var 3))))
      ((((var 2 ⊖ var 0) ⊗ (var 2 ⊖ var 0)) ⊕ ((var 3 ⊖ var 1) ⊗ (var 3 ⊖ var 1))) ⊖ (((var 2 ⊖ var 0) ⊗ (var 4 ⊖ var 0)) ⊕ ((var 3 ⊖ var 1) ⊗ (var 5 ⊖ var 1)))) refl

  length_is : length_of a b ≡ (product_of W W -ℤ product_of V W) +ℤ (product_of V V -ℤ product_of V W)
  length_is =
      ring (o.u ∷ o.v ∷ a.u ∷ a.v ∷ b.u ∷ b.v ∷ []) (((var 4 ⊖ var 2) ⊗ (var 4 ⊖ var 2)) ⊕ ((var 5 ⊖ var 3) ⊗ (var 5 ⊖ var 3)))
      (((((var 4 ⊖ var 0) ⊗ (var 4 ⊖ var 0)) ⊕ ((var 5 ⊖ var 1) ⊗ (var 5 ⊖ var 1))) ⊖ (((var 2 ⊖ var 0) ⊗ (var 4 ⊖ var 0)) ⊕ ((var 3 ⊖ var 1) ⊗ (var 5 ⊖ var 1))))
      ⊕ ((((var 2 ⊖ var 0) ⊗ (var 2 ⊖ var 0)) ⊕ ((var 3 ⊖ var 1) ⊗ (var 3 ⊖ var 1))) ⊖ (((var 2 ⊖ var 0) ⊗ (var 4 ⊖ var 0)) ⊕ ((var 3 ⊖ var 1) ⊗ (var 5 ⊖ var 1))))) refl

  rest_is : rest_of a b o ≡ product_of W W -ℤ product_of V W
  rest_is = (λ t. (ow t *ℤ length_is t) -ℤ along_is t) ∙ left (product_of W W -ℤ product_of V W) (product_of V V -ℤ product_of V W)
    where
      left : (x y : ℤ) → (pos 1 *ℤ (x +ℤ y)) -ℤ y ≡ x
      left x y = omega (arith, ints)

  lead_is : side_lead_of a b o ≡ ((product_of W W -ℤ product_of V W) *ℤ (a.h -ℤ o.h)) +ℤ ((product_of V V -ℤ product_of V W) *ℤ (b.h -ℤ o.h))
  lead_is =
      (λ t. ((rest_is t *ℤ a.h) +ℤ (along_is t *ℤ b.h)) -ℤ (o.h *ℤ length_is t))
      ∙ ring ((product_of W W -ℤ product_of V W) ∷ (product_of V V -ℤ product_of V W) ∷ a.h ∷ b.h ∷ o.h ∷ []) (((var 0 ⊗ var 2) ⊕ (var 1 ⊗ var 3)) ⊖ (var 4 ⊗ (var 0 ⊕ var 1))) ((var 0 ⊗ (var 2 ⊖ var 4)) ⊕ (var 1 ⊗ (var 3 ⊖ var 4))) refl

  square_least : (x : Way) → pos 0 ≤ℤ product_of x x
  square_least x = sum_nonneg _ _ (square_nonneg x.u) (square_nonneg x.v)

  o_pos : pos 0 <ℤ o.w
  o_pos = positive_at _ _ ow (omega (arith, ints))

  more : (x y : ℤ) → pos 0 ≤ℤ x → y ≤ℤ pos 0 → pos 0 ≤ℤ (x -ℤ y)
  more x y h l = omega (arith, ints)

  rest_least : PassesBetween V W (a.h -ℤ o.h) (b.h -ℤ o.h) → pos 0 ≤ℤ (product_of W W -ℤ product_of V W)
  rest_least p = more _ _ (square_least W) p.between

  along_least : PassesBetween V W (a.h -ℤ o.h) (b.h -ℤ o.h) → pos 0 ≤ℤ (product_of V V -ℤ product_of V W)
  along_least p = more _ _ (square_least V) p.between

  pub between_wide : PassesBetween V W (a.h -ℤ o.h) (b.h -ℤ o.h) → pos 0 <ℤ length_of a b
  between_wide p = pos_of_least _ (length_least a b) (λ z. clash_zero _ p.nearer (none (product_of W W -ℤ product_of V W) (product_of V V -ℤ product_of V W) (a.h -ℤ o.h) (b.h -ℤ o.h)
      (parts _ _ (rest_least p) (along_least p) (sym length_is ∙ z)).0 (parts _ _ (rest_least p) (along_least p) (sym length_is ∙ z)).1))
    where
      parts : (x y : ℤ) → pos 0 ≤ℤ x → pos 0 ≤ℤ y → x +ℤ y ≡ pos 0 → (x ≡ pos 0) × (y ≡ pos 0)
      parts x y h l e = (omega (arith, ints), omega (arith, ints))

      none : (x y f g : ℤ) → x ≡ pos 0 → y ≡ pos 0 → (x *ℤ f) +ℤ (y *ℤ g) ≡ pos 0
      none x y f g e h = (λ t. (e t *ℤ f) +ℤ (h t *ℤ g)) ∙ ring (f ∷ g ∷ []) ((con (pos 0) ⊗ var 0) ⊕ (con (pos 0) ⊗ var 1)) (con (pos 0)) refl

  pub covers_of_between : PassesBetween V W (a.h -ℤ o.h) (b.h -ℤ o.h) → SideCovers a b o
  covers_of_between p =
      side_from a b o o_pos (between_wide p) (sym (to_both o a b b V ow) ∙ p.on_line) (not_negative_at _ _ along_is (along_least p)) (not_negative_at _ _ rest_is (rest_least p)) (positive_at _ _ lead_is p.nearer)

  pub between_of_covers : ¬ AtOnePlace a b → SideCovers a b o → PassesBetween V W (a.h -ℤ o.h) (b.h -ℤ o.h)
  between_of_covers apart s =
      let r = side_to a b o s o_pos (pos_of_least _ (length_least a b) (λ z. apart (length_zero a b z))) in
      record { on_line = to_both o a b b V ow ∙ r.0; between = between; nearer = positive_at _ _ (sym lead_is) r.3 }
    where
      low : (x y : ℤ) → x ≡ pos 0 -ℤ y → pos 0 ≤ℤ x → y ≤ℤ pos 0
      low x y e h = omega (arith, ints)

      -- the two ways balance, by the weights of the side's point
      balanced : (p q r : ℤ) → ((s.i *ℤ p) +ℤ (s.j *ℤ q)) *ℤ o.w ≡ r *ℤ (s.i +ℤ s.j) → (s.i *ℤ (p -ℤ r)) +ℤ (s.j *ℤ (q -ℤ r)) ≡ pos 0
      balanced p q r e =
          by_one _ _ _ _ (pos 1)
          (ring (s.i ∷ s.j ∷ p ∷ q ∷ r ∷ []) (((var 0 ⊗ (var 2 ⊖ var 4)) ⊕ (var 1 ⊗ (var 3 ⊖ var 4))) ⊖ con (pos 0))
          (((((var 0 ⊗ var 2) ⊕ (var 1 ⊗ var 3)) ⊗ con (pos 1)) ⊖ (var 4 ⊗ (var 0 ⊕ var 1))) ⊗ con (pos 1)) refl)
          (ap (λ w. ((s.i *ℤ p) +ℤ (s.j *ℤ q)) *ℤ w) (sym ow) ∙ e)

      sum_is : (s.i *ℤ product_of V V) +ℤ (s.j *ℤ product_of W W) ≡ (s.i +ℤ s.j) *ℤ (pos 0 -ℤ product_of V W)
      sum_is =
          by_two _ _ _ _ (V.u +ℤ W.u) _ _ (V.v +ℤ W.v)
          (ring (s.i ∷ s.j ∷ V.u ∷ V.v ∷ W.u ∷ W.v ∷ [])
          (((var 0 ⊗ ((var 2 ⊗ var 2) ⊕ (var 3 ⊗ var 3))) ⊕ (var 1 ⊗ ((var 4 ⊗ var 4) ⊕ (var 5 ⊗ var 5)))) ⊖ ((var 0 ⊕ var 1) ⊗ (con (pos 0) ⊖ ((var 2 ⊗ var 4) ⊕ (var 3 ⊗ var 5)))))
          (((((var 0 ⊗ var 2) ⊕ (var 1 ⊗ var 4)) ⊖ con (pos 0)) ⊗ (var 2 ⊕ var 4)) ⊕ ((((var 0 ⊗ var 3) ⊕ (var 1 ⊗ var 5)) ⊖ con (pos 0)) ⊗ (var 3 ⊕ var 5))) refl)
          (balanced a.u b.u o.u s.same_u) (balanced a.v b.v o.v s.same_v)

      between : product_of V W ≤ℤ pos 0
      between =
          low _ _ refl (nonneg_of_mul (s.i +ℤ s.j) (pos 0 -ℤ product_of V W) s.some
          (not_negative_at _ _ (sym sum_is) (sum_nonneg _ _ (mul_nonneg s.i _ s.i_least (square_least V)) (mul_nonneg s.j _ s.j_least (square_least W)))))

-- ---- an end that the turn passes
module _ (d : Triple) (number : ℕ) (c : Corner) (k : Side) (x : Way) (l : Side) (y : Way) {s : Part} (o : Edge s) where
  abbrev C : Screen
  C = on d c

  abbrev A : Screen
  A = on d o.a

  abbrev B : Screen
  B = on d o.b

  -- the outline is over the corner, and the turn passes the way to its end p
  abbrev IsPassed : Corner → Type 0
  IsPassed p = IsOver d number c o × TwoAreLeft k x l y (way_to d c p)

  passes_over : IsOver d number c o → IsNearerOver d number c o
  passes_over v = over_of_covers d o number c v.not_first v.not_second (covers_of_between C A B refl v.between)

  -- no turn passes the way of no length
  not_still : (w : Way) → w.u ≡ pos 0 → w.v ≡ pos 0 → ¬ TwoAreLeft k x l y w
  not_still w e f two = by two
    where
      zero_turn : (g : ℤ) (z : Way) → ¬ IsLeft g z w
      zero_turn g z (inl h) = clash_zero _ h ((λ t. (z.u *ℤ f t) -ℤ (z.v *ℤ e t)) ∙ ring (z.u ∷ z.v ∷ []) ((var 0 ⊗ con (pos 0)) ⊖ (var 1 ⊗ con (pos 0))) (con (pos 0)) refl)
      zero_turn g z (inr h) = clash_zero _ h.1 ((λ t. g *ℤ ((z.u *ℤ e t) +ℤ (z.v *ℤ f t))) ∙ ring (g ∷ z.u ∷ z.v ∷ []) (var 0 ⊗ ((var 1 ⊗ con (pos 0)) ⊕ (var 2 ⊗ con (pos 0)))) (con (pos 0)) refl)

      zero_back : (g : ℤ) (z : Way) → ¬ IsLeft g w z
      zero_back g z (inl h) = clash_zero _ h ((λ t. (e t *ℤ z.v) -ℤ (f t *ℤ z.u)) ∙ ring (z.u ∷ z.v ∷ []) ((con (pos 0) ⊗ var 1) ⊖ (con (pos 0) ⊗ var 0)) (con (pos 0)) refl)
      zero_back g z (inr h) = clash_zero _ h.1 ((λ t. g *ℤ ((e t *ℤ z.u) +ℤ (f t *ℤ z.v))) ∙ ring (g ∷ z.u ∷ z.v ∷ []) (var 0 ⊗ ((con (pos 0) ⊗ var 1) ⊕ (con (pos 0) ⊗ var 2))) (con (pos 0)) refl)

      by : ¬ TwoAreLeft k x l y w
      by (inl h) = zero_turn _ x h.0
      by (inr (inl h)) = zero_back _ y h.0
      by (inr (inr h)) = zero_turn _ x h.1

  module _ (p : Corner) (is : (p ≡ o.a) ⊎ (p ≡ o.b)) (q : IsNearerOver d number c o) where
    passed_of_end : PassesEnd d c k x l y p → IsPassed p
    passed_of_end h = (
      record { not_first = q.not_first; not_second = q.not_second; between = between_of_covers C A B refl apart (covers_of_over d o number c q) },
      two_left k l x y (way_to d c p) h.1,
    )
      where
        at : {x y : Corner} → y ≡ x → AtOnePlace C (on d x) → AtOnePlace C (on d y)
        at e g = subst (λ (z : Corner). AtOnePlace C (on d z)) (sym e) g

        apart : ¬ AtOnePlace A B
        apart same =
            let here = end_on_place C A B refl same (covers_of_over d o number c q) in
            h.0 (one_sight d c p (elim is [ inl e ↦ at e here | inr e ↦ at e (here.0 ∙ same.0, here.1 ∙ same.1) ]))

    end_of_passed : IsPassed p → PassesEnd d c k x l y p
    end_of_passed h = (
      (λ g. let r = one_place d c p g in not_still (way_to d c p) (still _ _ r.0) (still _ _ r.1) h.1),
      of_two_left k l x y (way_to d c p) h.1,
    )
      where
        still : (x y : ℤ) → x ≡ y → y -ℤ x ≡ pos 0
        still x y e = omega (arith, ints)

    one_end : (n : ℕ) → IsOneWhere (IsPassed p) n → IsOneWhere (PassesEnd d c k x l y p) n
    one_end n (inl (e, h)) = inl (e, end_of_passed h)
    one_end n (inr (e, h)) = inr (e, λ g. h (passed_of_end g))

  none_end : (p : Corner) → ¬ IsNearerOver d number c o → (n : ℕ) → IsOneWhere (IsPassed p) n → n ≡ 0
  none_end p off n (inl (e, h)) = absurd (off (passes_over h.0))
  none_end p off n (inr (e, h)) = e

  over_or : IsNearerOver d number c o ⊎ ¬ IsNearerOver d number c o
  over_or = by (same_or_not o.m number) (same_or_not o.n number) (covers_or C A B refl)
    where
      by : (o.m ≡ number) ⊎ ¬ (o.m ≡ number) → (o.n ≡ number) ⊎ ¬ (o.n ≡ number) → SideCovers A B C ⊎ ¬ SideCovers A B C → IsNearerOver d number c o ⊎ ¬ IsNearerOver d number c o
      by (inl e) f g = inr (λ q. q.not_first e)
      by (inr e) (inl f) g = inr (λ q. q.not_second f)
      by (inr e) (inr f) (inl g) = inl (over_of_covers d o number c e f g)
      by (inr e) (inr f) (inr g) = inr (λ q. g (covers_of_over d o number c q))

  -- what the outline changes, from its two ends
  turned_by_signs : (first second : ℕ) → IsOneWhere (IsPassed o.a) first → IsOneWhere (IsPassed o.b) second
      → HasTurned d number c k x l y o ((face_sign d o.left -ℤ face_sign d o.right) *ℤ (pos second -ℤ pos first))
  turned_by_signs first second f g = by over_or
    where
      none : (s : ℤ) (m n : ℕ) → m ≡ 0 → n ≡ 0 → s *ℤ (pos n -ℤ pos m) ≡ pos 0
      none s m n e h = (λ t. s *ℤ (pos (h t) -ℤ pos (e t))) ∙ ring (s ∷ []) (var 0 ⊗ (con (pos 0) ⊖ con (pos 0))) (con (pos 0)) refl

      by : IsNearerOver d number c o ⊎ ¬ IsNearerOver d number c o → HasTurned d number c k x l y o ((face_sign d o.left -ℤ face_sign d o.right) *ℤ (pos second -ℤ pos first))
      by (inl q) = over q first second (one_end o.a (inl refl) q first f) (one_end o.b (inr refl) q second g)
      by (inr n) =
          subst (λ (z : ℤ). HasTurned d number c k x l y o z)
          (sym (none (face_sign d o.left -ℤ face_sign d o.right) first second (none_end o.a n first f) (none_end o.b n second g))) (not_over n)

  one_passed : (v : IsOver d number c o) (p : Corner) {z : ℤ} → IsTally (TwoAreLeft k x l y (way_to d c p)) z → (n : ℕ) × (z ≡ pos n) × IsOneWhere (IsPassed p) n
  one_passed v p (yes h) = (1, refl, inl (refl, (v, h)))
  one_passed v p (no n) = (0, refl, inr (refl, λ h. n h.1))

  -- what one changes that is over the corner, from the ends that the turn passes
  pub turned_over : IsOver d number c o → {first second : ℤ} → IsTally (TwoAreLeft k x l y (way_to d c o.a)) first → IsTally (TwoAreLeft k x l y (way_to d c o.b)) second
      → HasTurned d number c k x l y o ((face_sign d o.left -ℤ face_sign d o.right) *ℤ (second -ℤ first))
  turned_over v f g =
      let a = one_passed v o.a f in
      let b = one_passed v o.b g in
      subst (λ (z : ℤ). HasTurned d number c k x l y o z) (λ t. (face_sign d o.left -ℤ face_sign d o.right) *ℤ (sym b.1 t -ℤ sym a.1 t)) (turned_by_signs a.0 b.0 a.2 b.2)

  -- and one that is not
  pub turned_elsewhere : ¬ IsOver d number c o → HasTurned d number c k x l y o (pos 0)
  turned_elsewhere n =
      subst (λ (z : ℤ). HasTurned d number c k x l y o z) (nothing (face_sign d o.left -ℤ face_sign d o.right)) (turned_by_signs 0 0 (inr (refl, λ h. n h.0)) (inr (refl, λ h. n h.0)))
    where
      nothing : (s : ℤ) → s *ℤ (pos 0 -ℤ pos 0) ≡ pos 0
      nothing s = ring (s ∷ []) (var 0 ⊗ (con (pos 0) ⊖ con (pos 0))) (con (pos 0)) refl
