-- The triangle at a corner that a plane cuts off: what it covers, its area, its sides and where it is clear.
use Rattle.std.proofs.Common.{◌≡◌, [], ◌∷◌, refl, arith}
use Rattle.std.specs.Prelude.{ℤ, pos, ◌+ℤ◌, ◌-ℤ◌, ◌*ℤ◌, ◌≤ℤ◌, ◌<ℤ◌}
use Rattle.std.proofs.lemmas.Int.{ints}
use Rattle.integers.proofs.Comparisons.{positive_at, not_negative_at}
use Rattle.integers.proofs.Ring.{Expr, var, con, ◌⊕◌, ◌⊖◌, ◌⊗◌, ring, by_one, less_by, gap_of_less}
use Rattle.integers.proofs.Signs.{mul_pos, mul_nonneg}
use Rattle.hiding_laws.proofs.Screens.{Screen, area_of, Covers}
use Rattle.hiding_laws.proofs.Places.{place_of}
use Rattle.hiding_laws.proofs.Shares.{Touches}
use Rattle.hiding_laws.proofs.Signs.{weak, sum_nonneg}
use Rattle.cut_count_laws.proofs.Rests.{grown}
use Rattle.cut_count_laws.proofs.ScaledScreens.{part}

-- the whole's corners are x, y and z; the plane cuts off x, by weights of the distances from it
module _ (x y z : Screen) (ξ η ζ : ℤ) where
  abbrev pub s_of : ℤ
  s_of = η +ℤ ξ

  abbrev pub r_of : ℤ
  r_of = ζ +ℤ ξ

  abbrev pub t_of : ℤ
  t_of = s_of *ℤ r_of

  abbrev pub on_first : Screen
  on_first = part t_of (r_of *ℤ ξ) x y

  abbrev pub on_second : Screen
  on_second = part t_of (s_of *ℤ ξ) x z

  pub corner_area : area_of (grown t_of x) on_first on_second ≡ ((r_of *ℤ ξ) *ℤ (s_of *ℤ ξ)) *ℤ area_of x y z
  corner_area = areas t_of (r_of *ℤ ξ) (s_of *ℤ ξ)
    where
      areas : (t j i : ℤ) → area_of (grown t x) (part t j x y) (part t i x z) ≡ (j *ℤ i) *ℤ area_of x y z
      areas t j i =
          let p = λ (k a b : Expr). ((var 6 ⊖ k) ⊗ a) ⊕ (k ⊗ b) in
          let J = var 7 in let I = var 8 in
          ring (x.u ∷ x.v ∷ y.u ∷ y.v ∷ z.u ∷ z.v ∷ t ∷ j ∷ i ∷ [])
          (((p J (var 0) (var 2) ⊖ (var 6 ⊗ var 0)) ⊗ (p I (var 1) (var 5) ⊖ (var 6 ⊗ var 1))) ⊖ ((p J (var 1) (var 3) ⊖ (var 6 ⊗ var 1)) ⊗ (p I (var 0) (var 4) ⊖ (var 6 ⊗ var 0))))
          ((J ⊗ I) ⊗ (((var 2 ⊖ var 0) ⊗ (var 5 ⊖ var 1)) ⊖ ((var 3 ⊖ var 1) ⊗ (var 4 ⊖ var 0)))) refl

  -- ---- weights
  -- how far a sum of the whole's corners is on the corner's side of the cut
  abbrev pub toward : ℤ → ℤ → ℤ → ℤ
  toward i j k = ((ξ *ℤ i) -ℤ (η *ℤ j)) -ℤ (ζ *ℤ k)

  abbrev X : Expr
  X = var 0

  abbrev H : Expr
  H = var 1

  abbrev Z : Expr
  Z = var 2

  abbrev S : Expr
  S = H ⊕ X

  abbrev R : Expr
  R = Z ⊕ X

  abbrev W : Expr
  W = S ⊗ R

  abbrev first_e : Expr
  first_e = ((W ⊖ (R ⊗ X)) ⊗ var 6) ⊕ ((R ⊗ X) ⊗ var 7)

  abbrev second_e : Expr
  second_e = ((W ⊖ (S ⊗ X)) ⊗ var 6) ⊕ ((S ⊗ X) ⊗ var 8)

  abbrev place_e : Expr
  place_e = ((var 12 ⊖ var 11) ⊗ var 9) ⊕ (var 11 ⊗ var 10)

  abbrev place_grown_e : Expr
  place_grown_e = ((var 12 ⊖ var 11) ⊗ (W ⊗ var 9)) ⊕ (var 11 ⊗ (W ⊗ var 10))

  abbrev toward_e : Expr
  toward_e = ((X ⊗ var 3) ⊖ (H ⊗ var 4)) ⊖ (Z ⊗ var 5)

  -- coordinates a, b and c of the corners, and p and q of the edge's ends
  to_part : (i j k a b c p q n m : ℤ)
      → ((((toward i j k *ℤ (t_of *ℤ a)) +ℤ ((s_of *ℤ j) *ℤ (((t_of -ℤ (r_of *ℤ ξ)) *ℤ a) +ℤ ((r_of *ℤ ξ) *ℤ b)))) +ℤ ((r_of *ℤ k) *ℤ (((t_of -ℤ (s_of *ℤ ξ)) *ℤ a) +ℤ ((s_of *ℤ ξ) *ℤ c)))) *ℤ m)
      -ℤ ((((m -ℤ n) *ℤ (t_of *ℤ p)) +ℤ (n *ℤ (t_of *ℤ q))) *ℤ ((toward i j k +ℤ (s_of *ℤ j)) +ℤ (r_of *ℤ k)))
      ≡ (((((i *ℤ a) +ℤ (j *ℤ b)) +ℤ (k *ℤ c)) *ℤ m) -ℤ ((((m -ℤ n) *ℤ p) +ℤ (n *ℤ q)) *ℤ ((i +ℤ j) +ℤ k))) *ℤ (t_of *ℤ ξ)
  to_part i j k a b c p q n m =
      ring (ξ ∷ η ∷ ζ ∷ i ∷ j ∷ k ∷ a ∷ b ∷ c ∷ p ∷ q ∷ n ∷ m ∷ [])
      (((((toward_e ⊗ (W ⊗ var 6)) ⊕ ((S ⊗ var 4) ⊗ first_e)) ⊕ ((R ⊗ var 5) ⊗ second_e)) ⊗ var 12) ⊖ (place_grown_e ⊗ ((toward_e ⊕ (S ⊗ var 4)) ⊕ (R ⊗ var 5))))
      ((((((var 3 ⊗ var 6) ⊕ (var 4 ⊗ var 7)) ⊕ (var 5 ⊗ var 8)) ⊗ var 12) ⊖ (place_e ⊗ ((var 3 ⊕ var 4) ⊕ var 5))) ⊗ (W ⊗ X)) refl

  of_part : (i j k a b c p q n m : ℤ)
      → ((((((i *ℤ t_of) +ℤ (j *ℤ (r_of *ℤ η))) +ℤ (k *ℤ (s_of *ℤ ζ))) *ℤ a) +ℤ ((j *ℤ (r_of *ℤ ξ)) *ℤ b)) +ℤ ((k *ℤ (s_of *ℤ ξ)) *ℤ c)) *ℤ m
      -ℤ ((((m -ℤ n) *ℤ p) +ℤ (n *ℤ q)) *ℤ (((((i *ℤ t_of) +ℤ (j *ℤ (r_of *ℤ η))) +ℤ (k *ℤ (s_of *ℤ ζ))) +ℤ (j *ℤ (r_of *ℤ ξ))) +ℤ (k *ℤ (s_of *ℤ ξ))))
      ≡ (((((i *ℤ (t_of *ℤ a)) +ℤ (j *ℤ (((t_of -ℤ (r_of *ℤ ξ)) *ℤ a) +ℤ ((r_of *ℤ ξ) *ℤ b)))) +ℤ (k *ℤ (((t_of -ℤ (s_of *ℤ ξ)) *ℤ a) +ℤ ((s_of *ℤ ξ) *ℤ c)))) *ℤ m)
      -ℤ ((((m -ℤ n) *ℤ (t_of *ℤ p)) +ℤ (n *ℤ (t_of *ℤ q))) *ℤ ((i +ℤ j) +ℤ k))) *ℤ pos 1
  of_part i j k a b c p q n m =
      ring (ξ ∷ η ∷ ζ ∷ i ∷ j ∷ k ∷ a ∷ b ∷ c ∷ p ∷ q ∷ n ∷ m ∷ [])
      ((((((var 3 ⊗ W) ⊕ (var 4 ⊗ (R ⊗ H))) ⊕ (var 5 ⊗ (S ⊗ Z))) ⊗ var 6) ⊕ ((var 4 ⊗ (R ⊗ X)) ⊗ var 7) ⊕ ((var 5 ⊗ (S ⊗ X)) ⊗ var 8)) ⊗ var 12
      ⊖ (place_e ⊗ (((((var 3 ⊗ W) ⊕ (var 4 ⊗ (R ⊗ H))) ⊕ (var 5 ⊗ (S ⊗ Z))) ⊕ (var 4 ⊗ (R ⊗ X))) ⊕ (var 5 ⊗ (S ⊗ X)))))
      ((((((var 3 ⊗ (W ⊗ var 6)) ⊕ (var 4 ⊗ first_e)) ⊕ (var 5 ⊗ second_e)) ⊗ var 12) ⊖ (place_grown_e ⊗ ((var 3 ⊕ var 4) ⊕ var 5))) ⊗ con (pos 1)) refl

  module _ (p q : Screen) (n m : ℤ) (ξ_pos : pos 0 <ℤ ξ) (η_pos : pos 0 <ℤ η) (ζ_pos : pos 0 <ℤ ζ) where
    s_pos : pos 0 <ℤ s_of
    s_pos = sum _ _ η_pos ξ_pos
      where
        sum : (a b : ℤ) → pos 0 <ℤ a → pos 0 <ℤ b → pos 0 <ℤ (a +ℤ b)
        sum a b h k = omega (arith, ints)

    r_pos : pos 0 <ℤ r_of
    r_pos = sum _ _ ζ_pos ξ_pos
      where
        sum : (a b : ℤ) → pos 0 <ℤ a → pos 0 <ℤ b → pos 0 <ℤ (a +ℤ b)
        sum a b h k = omega (arith, ints)

    pub t_pos : pos 0 <ℤ t_of
    t_pos = mul_pos _ _ s_pos r_pos

    pub j_pos : pos 0 <ℤ (r_of *ℤ ξ)
    j_pos = mul_pos _ _ r_pos ξ_pos

    pub i_pos : pos 0 <ℤ (s_of *ℤ ξ)
    i_pos = mul_pos _ _ s_pos ξ_pos

    first_rest : t_of -ℤ (r_of *ℤ ξ) ≡ r_of *ℤ η
    first_rest = ring (ξ ∷ η ∷ ζ ∷ []) (W ⊖ (R ⊗ X)) (R ⊗ H) refl

    second_rest : t_of -ℤ (s_of *ℤ ξ) ≡ s_of *ℤ ζ
    second_rest = ring (ξ ∷ η ∷ ζ ∷ []) (W ⊖ (S ⊗ X)) (S ⊗ Z) refl

    pub first_rest_pos : pos 0 <ℤ (t_of -ℤ (r_of *ℤ ξ))
    first_rest_pos = positive_at _ _ first_rest (mul_pos _ _ r_pos η_pos)

    pub second_rest_pos : pos 0 <ℤ (t_of -ℤ (s_of *ℤ ξ))
    second_rest_pos = positive_at _ _ second_rest (mul_pos _ _ s_pos ζ_pos)

    same_by : (l r l' r' k : ℤ) → l' -ℤ r' ≡ (l -ℤ r) *ℤ k → l ≡ r → l' ≡ r'
    same_by l r l' r' k e h = by_one l' r' l r k e h

    less_of : (l r l' r' k : ℤ) → pos 0 <ℤ k → l' -ℤ r' ≡ (l -ℤ r) *ℤ k → r <ℤ l → r' <ℤ l'
    less_of l r l' r' k k_pos e h = less_by r' l' _ e (mul_pos _ _ (gap_of_less r l h) k_pos)

    abbrev Here : Screen
    Here = place_of p q n m

    abbrev Grown : Screen
    Grown = place_of (grown t_of p) (grown t_of q) n m

    -- the part covers where the whole does so toward the corner
    pub part_covers : (c : Covers x y z Here) → pos 0 ≤ℤ toward c.i c.j c.k → Covers (grown t_of x) on_first on_second Grown
    part_covers c least = record {
      i = toward c.i c.j c.k;
      j = s_of *ℤ c.j;
      k = r_of *ℤ c.k;
      i_least = least;
      j_least = mul_nonneg _ _ (weak _ s_pos) c.j_least;
      k_least = mul_nonneg _ _ (weak _ r_pos) c.k_least;
      some = positive_at _ _
          (ring (ξ ∷ η ∷ ζ ∷ c.i ∷ c.j ∷ c.k ∷ []) ((toward_e ⊕ (S ⊗ var 4)) ⊕ (R ⊗ var 5)) (X ⊗ ((var 3 ⊕ var 4) ⊕ var 5)) refl) (mul_pos _ _ ξ_pos c.some);
      same_u = same_by _ _ _ _ _ (to_part c.i c.j c.k x.u y.u z.u p.u q.u n m) c.same_u;
      same_v = same_by _ _ _ _ _ (to_part c.i c.j c.k x.v y.v z.v p.v q.v n m) c.same_v;
      nearer = less_of _ _ _ _ _ (mul_pos _ _ t_pos ξ_pos) (to_part c.i c.j c.k x.h y.h z.h p.h q.h n m) c.nearer;
    }

    whole_some : (i j k : ℤ) → (((i *ℤ t_of) +ℤ (j *ℤ (r_of *ℤ η))) +ℤ (k *ℤ (s_of *ℤ ζ)) +ℤ (j *ℤ (r_of *ℤ ξ))) +ℤ (k *ℤ (s_of *ℤ ξ)) ≡ t_of *ℤ ((i +ℤ j) +ℤ k)
    whole_some i j k = ring (ξ ∷ η ∷ ζ ∷ i ∷ j ∷ k ∷ [])
        ((((var 3 ⊗ W) ⊕ (var 4 ⊗ (R ⊗ H))) ⊕ (var 5 ⊗ (S ⊗ Z)) ⊕ (var 4 ⊗ (R ⊗ X))) ⊕ (var 5 ⊗ (S ⊗ X))) (W ⊗ ((var 3 ⊕ var 4) ⊕ var 5)) refl

    first_weight : (i j k : ℤ) → pos 0 ≤ℤ i → pos 0 ≤ℤ j → pos 0 ≤ℤ k → pos 0 ≤ℤ (((i *ℤ t_of) +ℤ (j *ℤ (r_of *ℤ η))) +ℤ (k *ℤ (s_of *ℤ ζ)))
    first_weight i j k i_least j_least k_least =
        sum_nonneg _ _ (sum_nonneg _ _ (mul_nonneg _ _ i_least (weak _ t_pos)) (mul_nonneg _ _ j_least (weak _ (mul_pos _ _ r_pos η_pos)))) (mul_nonneg _ _ k_least (weak _ (mul_pos _ _ s_pos ζ_pos)))

    level : (i j k : ℤ) → toward (((i *ℤ t_of) +ℤ (j *ℤ (r_of *ℤ η))) +ℤ (k *ℤ (s_of *ℤ ζ))) (j *ℤ (r_of *ℤ ξ)) (k *ℤ (s_of *ℤ ξ)) ≡ (ξ *ℤ t_of) *ℤ i
    level i j k = ring (ξ ∷ η ∷ ζ ∷ i ∷ j ∷ k ∷ [])
        (((X ⊗ (((var 3 ⊗ W) ⊕ (var 4 ⊗ (R ⊗ H))) ⊕ (var 5 ⊗ (S ⊗ Z)))) ⊖ (H ⊗ (var 4 ⊗ (R ⊗ X)))) ⊖ (Z ⊗ (var 5 ⊗ (S ⊗ X)))) ((X ⊗ W) ⊗ var 3) refl

    -- and what it covers the whole does, toward the corner
    pub covers_of_part : Covers (grown t_of x) on_first on_second Grown → (c : Covers x y z Here) × (pos 0 ≤ℤ toward c.i c.j c.k)
    covers_of_part c = (
      record {
        i = ((c.i *ℤ t_of) +ℤ (c.j *ℤ (r_of *ℤ η))) +ℤ (c.k *ℤ (s_of *ℤ ζ));
        j = c.j *ℤ (r_of *ℤ ξ);
        k = c.k *ℤ (s_of *ℤ ξ);
        i_least = first_weight c.i c.j c.k c.i_least c.j_least c.k_least;
        j_least = mul_nonneg _ _ c.j_least (weak _ j_pos);
        k_least = mul_nonneg _ _ c.k_least (weak _ i_pos);
        some = positive_at _ _ (whole_some c.i c.j c.k) (mul_pos _ _ t_pos c.some);
        same_u = same_by _ _ _ _ _ (of_part c.i c.j c.k x.u y.u z.u p.u q.u n m) c.same_u;
        same_v = same_by _ _ _ _ _ (of_part c.i c.j c.k x.v y.v z.v p.v q.v n m) c.same_v;
        nearer = less_of _ _ _ _ (pos 1) (omega (arith, ints)) (of_part c.i c.j c.k x.h y.h z.h p.h q.h n m) c.nearer;
      },
      not_negative_at _ _ (level c.i c.j c.k) (mul_nonneg _ _ (weak _ (mul_pos _ _ ξ_pos t_pos)) c.i_least),
    )

    pub touches_of_part : Touches (grown t_of x) on_first on_second Grown → Touches x y z Here
    touches_of_part c = record {
      i = ((c.i *ℤ t_of) +ℤ (c.j *ℤ (r_of *ℤ η))) +ℤ (c.k *ℤ (s_of *ℤ ζ));
      j = c.j *ℤ (r_of *ℤ ξ);
      k = c.k *ℤ (s_of *ℤ ξ);
      i_least = first_weight c.i c.j c.k c.i_least c.j_least c.k_least;
      j_least = mul_nonneg _ _ c.j_least (weak _ j_pos);
      k_least = mul_nonneg _ _ c.k_least (weak _ i_pos);
      some = positive_at _ _ (whole_some c.i c.j c.k) (mul_pos _ _ t_pos c.some);
      same_u = same_by _ _ _ _ _ (of_part c.i c.j c.k x.u y.u z.u p.u q.u n m) c.same_u;
      same_v = same_by _ _ _ _ _ (of_part c.i c.j c.k x.v y.v z.v p.v q.v n m) c.same_v;
      same_h = same_by _ _ _ _ _ (of_part c.i c.j c.k x.h y.h z.h p.h q.h n m) c.same_h;
    }
