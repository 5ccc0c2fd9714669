-- Edge-on triangles at one edge: on opposite sides of it, so that one of them reaches higher.
use Rattle.std.proofs.Common.{◌≡◌, inl, inr, [], ◌∷◌, refl, sym, ap, subst, ◌∙◌, arith}
use Rattle.std.specs.Prelude.{ℤ, pos, ◌+ℤ◌, ◌-ℤ◌, ◌*ℤ◌, ◌≤ℤ◌, ◌<ℤ◌}
use Rattle.std.proofs.lemmas.Int.{ints, by_lt_z}
use Rattle.integers.proofs.Comparisons.{positive_at, not_negative_at}
use Rattle.hiding_laws.proofs.Places.{place_of}
use Rattle.hiding_laws.proofs.Screens.{Screen, SideCovers}
use Rattle.hiding_laws.specs.Values.{value_at}
use Rattle.integers.proofs.Ring.{Expr, var, con, ◌⊕◌, ◌⊖◌, ◌⊗◌, ring, by_one, less_by, mul_comm}
use Rattle.integers.proofs.Signs.{mul_pos}
use Rattle.hiding_laws.proofs.Shares.{Touches}
use Rattle.hiding_laws.proofs.Uprights.{Stands, weighed, NoFoldLaw, HigherSideLaw}
use Rattle.hiding_laws.proofs.Signs.{weak, sum_pos, sum_nonneg}

-- ---- no fold
-- where d's side is within the angle of c's triangle at a, its first part is in that triangle
module _ (a b c d : Screen) (l t t' s r r' : ℤ) (l_pos : pos 0 <ℤ l) (r_pos : pos 0 <ℤ r) (r'_pos : pos 0 <ℤ r')
    (on : Stands a b c l t s r) (on' : Stands a b d l t' s r') (within : pos 0 ≤ℤ ((r *ℤ t') -ℤ (r' *ℤ t))) where
  abbrev along : ℤ
  along = (r *ℤ t') -ℤ (r' *ℤ t)

  -- the place (r*l)/whole of the side from a to d
  abbrev pub fold_n : ℤ
  fold_n = r *ℤ l

  abbrev pub fold_m : ℤ
  fold_m = (r *ℤ l) +ℤ (along +ℤ (r' *ℤ l))

  abbrev T : Expr
  T = var 2

  abbrev L : Expr
  L = var 1

  -- in one coordinate: the weights of a, b and c, and the two equations
  coordinate : (x y z w e e' : ℤ) → l *ℤ z ≡ (((l -ℤ t) *ℤ x) +ℤ (t *ℤ y)) +ℤ (s *ℤ e) → l *ℤ w ≡ (((l -ℤ t') *ℤ x) +ℤ (t' *ℤ y)) +ℤ (s *ℤ e')
      → r *ℤ e' ≡ r' *ℤ e
      → ((fold_n *ℤ x) +ℤ (along *ℤ y)) +ℤ ((r' *ℤ l) *ℤ z) ≡ value_at x w fold_n fold_m
  coordinate x y z w e e' f f' g =
      by_three' (((fold_n *ℤ x) +ℤ (along *ℤ y)) +ℤ ((r' *ℤ l) *ℤ z)) (value_at x w fold_n fold_m) _ _ r' _ _ (pos 0 -ℤ r) _ _ (pos 0 -ℤ s)
      (ring (s ∷ l ∷ t ∷ t' ∷ r ∷ r' ∷ x ∷ y ∷ z ∷ w ∷ e ∷ e' ∷ [])
      (((((R ⊗ L) ⊗ X) ⊕ (D ⊗ Y)) ⊕ ((R' ⊗ L) ⊗ Z)) ⊖ ((((M ⊖ (R ⊗ L)) ⊗ X) ⊕ ((R ⊗ L) ⊗ W))))
      (((((L ⊗ Z) ⊖ ((((L ⊖ T) ⊗ X) ⊕ (T ⊗ Y)) ⊕ (S ⊗ E))) ⊗ R')
      ⊕ (((L ⊗ W) ⊖ ((((L ⊖ T') ⊗ X) ⊕ (T' ⊗ Y)) ⊕ (S ⊗ E'))) ⊗ (con (pos 0) ⊖ R)))
      ⊕ (((R ⊗ E') ⊖ (R' ⊗ E)) ⊗ (con (pos 0) ⊖ S))) refl) f f' g
    where
      S : Expr
      S = var 0

      T' : Expr
      T' = var 3

      R : Expr
      R = var 4

      R' : Expr
      R' = var 5

      X : Expr
      X = var 6

      Y : Expr
      Y = var 7

      Z : Expr
      Z = var 8

      W : Expr
      W = var 9

      E : Expr
      E = var 10

      E' : Expr
      E' = var 11

      D : Expr
      D = (R ⊗ T') ⊖ (R' ⊗ T)

      M : Expr
      M = (R ⊗ L) ⊕ (D ⊕ (R' ⊗ L))

      by_three' : (x y l r k l' r' k' l'' r'' k'' : ℤ) → x -ℤ y ≡ (((l -ℤ r) *ℤ k) +ℤ ((l' -ℤ r') *ℤ k')) +ℤ ((l'' -ℤ r'') *ℤ k'') → l ≡ r → l' ≡ r' → l'' ≡ r'' → x ≡ y
      by_three' x y l r k l' r' k' l'' r'' k'' e h h' h'' =
          let z : l -ℤ r ≡ pos 0 = omega (arith, ints) in
          let z' : l' -ℤ r' ≡ pos 0 = omega (arith, ints) in
          let z'' : l'' -ℤ r'' ≡ pos 0 = omega (arith, ints) in
          let f = e ∙ (λ i. ((z i *ℤ k) +ℤ (z' i *ℤ k')) +ℤ (z'' i *ℤ k'')) in
          omega (arith, ints, f)

  flat : (x y z k t : ℤ) → l *ℤ z ≡ ((k *ℤ x) +ℤ (t *ℤ y)) → l *ℤ z ≡ ((k *ℤ x) +ℤ (t *ℤ y)) +ℤ (s *ℤ pos 0)
  flat x y z k t e = e ∙ ring (k ∷ x ∷ t ∷ y ∷ s ∷ []) ((var 0 ⊗ var 1) ⊕ (var 2 ⊗ var 3)) (((var 0 ⊗ var 1) ⊕ (var 2 ⊗ var 3)) ⊕ (var 4 ⊗ con (pos 0))) refl

  level : r *ℤ pos 0 ≡ r' *ℤ pos 0
  level = ring (r ∷ r' ∷ []) (var 0 ⊗ con (pos 0)) (var 1 ⊗ con (pos 0)) refl

  whole : (fold_n +ℤ along) +ℤ (r' *ℤ l) ≡ fold_m
  whole = joined (r *ℤ l) ((r *ℤ t') -ℤ (r' *ℤ t)) (r' *ℤ l)
    where
      joined : (x y z : ℤ) → (x +ℤ y) +ℤ z ≡ x +ℤ (y +ℤ z)
      joined x y z = omega (arith, ints)

  rest_pos : pos 0 <ℤ (along +ℤ (r' *ℤ l))
  rest_pos = sum_pos _ _ within (mul_pos r' l r'_pos l_pos)

  pub fold_after : pos 0 <ℤ fold_n
  fold_after = mul_pos r l r_pos l_pos

  pub fold_before : fold_n <ℤ fold_m
  fold_before = more (r *ℤ l) (along +ℤ (r' *ℤ l)) rest_pos
    where
      more : (x y : ℤ) → pos 0 <ℤ y → x <ℤ (x +ℤ y)
      more x y h = omega (arith, ints)

  at_place : (x y z w : ℤ) → ((fold_n *ℤ x) +ℤ (along *ℤ y)) +ℤ ((r' *ℤ l) *ℤ z) ≡ value_at x w fold_n fold_m
      → (((fold_n *ℤ x) +ℤ (along *ℤ y)) +ℤ ((r' *ℤ l) *ℤ z)) *ℤ fold_m ≡ value_at x w fold_n fold_m *ℤ ((fold_n +ℤ along) +ℤ (r' *ℤ l))
  at_place x y z w e = (λ i. e i *ℤ sym whole i)

  pub fold_touches : Touches a b c (place_of a d fold_n fold_m)
  fold_touches = record {
    i = fold_n;
    j = along;
    k = r' *ℤ l;
    i_least = weak _ fold_after;
    j_least = within;
    k_least = weak _ (mul_pos r' l r'_pos l_pos);
    some = sum_pos _ _ (sum_nonneg _ _ (weak _ fold_after) within) (mul_pos r' l r'_pos l_pos);
    same_u = at_place a.u b.u c.u d.u (coordinate a.u b.u c.u d.u (pos 0) (pos 0) (flat a.u b.u c.u (l -ℤ t) t on.same_u) (flat a.u b.u d.u (l -ℤ t') t' on'.same_u) level);
    same_v = at_place a.v b.v c.v d.v (coordinate a.v b.v c.v d.v (pos 0) (pos 0) (flat a.v b.v c.v (l -ℤ t) t on.same_v) (flat a.v b.v d.v (l -ℤ t') t' on'.same_v) level);
    same_h = at_place a.h b.h c.h d.h (coordinate a.h b.h c.h d.h r r' on.height on'.height (mul_comm r r'));
  }

pub no_fold : NoFoldLaw
no_fold a b c d l t t' s r r' aw cw dw l_pos r_pos r'_pos on on' free free' =
    by_lt_z ((r *ℤ t') -ℤ (r' *ℤ t)) (pos 0)
    (λ h. let w = turned r t' r' t h in free' _ _ (fold_after a b d c l t' t s r' r l_pos r'_pos r_pos on' on w) (fold_before a b d c l t' t s r' r l_pos r'_pos r_pos on' on w) (fold_touches a b d c l t' t s r' r l_pos r'_pos r_pos on' on w))
    (λ w. free _ _ (fold_after a b c d l t t' s r r' l_pos r_pos r'_pos on on' w) (fold_before a b c d l t t' s r r' l_pos r_pos r'_pos on on' w) (fold_touches a b c d l t t' s r r' l_pos r_pos r'_pos on on' w))
  where
    turned : (r t' r' t : ℤ) → ((r *ℤ t') -ℤ (r' *ℤ t)) <ℤ pos 0 → pos 0 ≤ℤ ((r' *ℤ t) -ℤ (r *ℤ t'))
    turned r t' r' t h = flip (r *ℤ t') (r' *ℤ t) h
      where
        flip : (x y : ℤ) → (x -ℤ y) <ℤ pos 0 → pos 0 ≤ℤ (y -ℤ x)
        flip x y h = omega (arith, ints)

-- ---- a higher side
module _ (a b c : Screen) (l t r i j : ℤ) (l_pos : pos 0 <ℤ l) (r_pos : pos 0 <ℤ r) (i_pos : pos 0 <ℤ i) (j_pos : pos 0 <ℤ j)
    (on : Stands a b c l t (pos 1) r) (reach : pos 0 ≤ℤ (((i +ℤ j) *ℤ t) -ℤ (j *ℤ l))) where
  -- the weights of a and c, with the sum w
  abbrev x : ℤ
  x = ((i +ℤ j) *ℤ t) -ℤ (j *ℤ l)

  abbrev y : ℤ
  y = j *ℤ l

  I : Expr
  I = var 0

  y_pos : pos 0 <ℤ y
  y_pos = mul_pos j l j_pos l_pos

  flat_side : (p q z : ℤ) → l *ℤ z ≡ ((l -ℤ t) *ℤ p) +ℤ (t *ℤ q) → ((x *ℤ p) +ℤ (y *ℤ z)) *ℤ (i +ℤ j) ≡ ((i *ℤ p) +ℤ (j *ℤ q)) *ℤ (x +ℤ y)
  flat_side p q z e =
      by_one _ _ _ _ (j *ℤ (i +ℤ j))
      (ring (i ∷ j ∷ l ∷ t ∷ p ∷ q ∷ z ∷ [])
      (((((((var 0 ⊕ var 1) ⊗ var 3) ⊖ (var 1 ⊗ var 2)) ⊗ var 4) ⊕ ((var 1 ⊗ var 2) ⊗ var 6)) ⊗ (var 0 ⊕ var 1))
      ⊖ (((var 0 ⊗ var 4) ⊕ (var 1 ⊗ var 5)) ⊗ ((((var 0 ⊕ var 1) ⊗ var 3) ⊖ (var 1 ⊗ var 2)) ⊕ (var 1 ⊗ var 2))))
      (((var 2 ⊗ var 6) ⊖ (((var 2 ⊖ var 3) ⊗ var 4) ⊕ (var 3 ⊗ var 5))) ⊗ (var 1 ⊗ (var 0 ⊕ var 1))) refl) e

  rise : (((x *ℤ a.h) +ℤ (y *ℤ c.h)) *ℤ (i +ℤ j)) -ℤ (((i *ℤ a.h) +ℤ (j *ℤ b.h)) *ℤ (x +ℤ y)) ≡ (j *ℤ (i +ℤ j)) *ℤ r
  rise =
      by_one _ _ _ _ (j *ℤ (i +ℤ j))
      (ring (i ∷ j ∷ l ∷ t ∷ a.h ∷ b.h ∷ c.h ∷ r ∷ [])
      ((((((((var 0 ⊕ var 1) ⊗ var 3) ⊖ (var 1 ⊗ var 2)) ⊗ var 4) ⊕ ((var 1 ⊗ var 2) ⊗ var 6)) ⊗ (var 0 ⊕ var 1))
      ⊖ (((var 0 ⊗ var 4) ⊕ (var 1 ⊗ var 5)) ⊗ ((((var 0 ⊕ var 1) ⊗ var 3) ⊖ (var 1 ⊗ var 2)) ⊕ (var 1 ⊗ var 2)))) ⊖ ((var 1 ⊗ (var 0 ⊕ var 1)) ⊗ var 7))
      (((var 2 ⊗ var 6) ⊖ ((((var 2 ⊖ var 3) ⊗ var 4) ⊕ (var 3 ⊗ var 5)) ⊕ (con (pos 1) ⊗ var 7))) ⊗ (var 1 ⊗ (var 0 ⊕ var 1))) refl) on.height

  pub higher_from : SideCovers a c (weighed a b i j)
  higher_from = record {
    i = x;
    j = y;
    i_least = reach;
    j_least = weak _ y_pos;
    some = sum_pos _ _ reach y_pos;
    same_u = flat_side a.u b.u c.u on.same_u;
    same_v = flat_side a.v b.v c.v on.same_v;
    nearer = less_by _ _ _ rise (mul_pos _ r (mul_pos j _ j_pos (sum_pos _ _ (weak _ i_pos) j_pos)) r_pos);
  }

stands_back : (a b c : Screen) (l t s r : ℤ) → Stands a b c l t s r → Stands b a c l (l -ℤ t) s r
stands_back a b c l t s r on = record {
  same_u = on.same_u ∙ turned a.u b.u;
  same_v = on.same_v ∙ turned a.v b.v;
  height = on.height ∙ ap (λ v. v +ℤ (s *ℤ r)) (turned a.h b.h);
}
  where
    turned : (x y : ℤ) → ((l -ℤ t) *ℤ x) +ℤ (t *ℤ y) ≡ ((l -ℤ (l -ℤ t)) *ℤ y) +ℤ ((l -ℤ t) *ℤ x)
    turned x y = ring (l ∷ t ∷ x ∷ y ∷ []) (((var 0 ⊖ var 1) ⊗ var 2) ⊕ (var 1 ⊗ var 3)) (((var 0 ⊖ (var 0 ⊖ var 1)) ⊗ var 3) ⊕ ((var 0 ⊖ var 1) ⊗ var 2)) refl

pub side_back : (a b p : Screen) → SideCovers a b p → SideCovers b a p
side_back a b p q = record {
  i = q.j;
  j = q.i;
  i_least = q.j_least;
  j_least = q.i_least;
  some = positive_at _ _ (swapped q.j q.i) q.some;
  same_u = (λ e. swapped (q.j *ℤ b.u) (q.i *ℤ a.u) e *ℤ p.w) ∙ q.same_u ∙ (λ e. p.u *ℤ swapped q.i q.j e);
  same_v = (λ e. swapped (q.j *ℤ b.v) (q.i *ℤ a.v) e *ℤ p.w) ∙ q.same_v ∙ (λ e. p.v *ℤ swapped q.i q.j e);
  nearer = less_at _ _ _ _ (λ e. p.h *ℤ swapped q.j q.i e) (λ e. swapped (q.j *ℤ b.h) (q.i *ℤ a.h) e *ℤ p.w) q.nearer;
}
  where
    swapped : (x y : ℤ) → x +ℤ y ≡ y +ℤ x
    swapped x y = omega (arith, ints)

    less_at : (x y x' y' : ℤ) → x' ≡ x → y' ≡ y → x <ℤ y → x' <ℤ y'
    less_at x y x' y' e h l = omega (arith, ints)

pub higher_side : HigherSideLaw
higher_side a b c l t r i j l_pos r_pos i_pos j_pos on =
    by_lt_z (((i +ℤ j) *ℤ t) -ℤ (j *ℤ l)) (pos 0)
    (λ h. inr (same_spot (side_back b c _ (higher_from b a c l (l -ℤ t) r j i l_pos r_pos j_pos i_pos (stands_back a b c l t (pos 1) r on) (left_over h)))))
    (λ h. inl (higher_from a b c l t r i j l_pos r_pos i_pos j_pos on h))
  where
    swapped : (x y : ℤ) → x +ℤ y ≡ y +ℤ x
    swapped x y = omega (arith, ints)

    same_spot : SideCovers c b (weighed b a j i) → SideCovers c b (weighed a b i j)
    same_spot = subst (λ p. SideCovers c b p) (λ e. record { u = swapped (j *ℤ b.u) (i *ℤ a.u) e; v = swapped (j *ℤ b.v) (i *ℤ a.v) e; h = swapped (j *ℤ b.h) (i *ℤ a.h) e; w = swapped j i e })

    left_over : (((i +ℤ j) *ℤ t) -ℤ (j *ℤ l)) <ℤ pos 0 → pos 0 ≤ℤ (((j +ℤ i) *ℤ (l -ℤ t)) -ℤ (i *ℤ l))
    left_over h = not_negative_at _ _ (ring (i ∷ j ∷ l ∷ t ∷ []) (((var 1 ⊕ var 0) ⊗ (var 2 ⊖ var 3)) ⊖ (var 0 ⊗ var 2)) (con (pos 0) ⊖ (((var 0 ⊕ var 1) ⊗ var 3) ⊖ (var 1 ⊗ var 2))) refl) (flip _ h)
      where
        flip : (x : ℤ) → x <ℤ pos 0 → pos 0 ≤ℤ (pos 0 -ℤ x)
        flip x h = omega (arith, ints)
