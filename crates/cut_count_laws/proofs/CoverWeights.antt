-- The weights of what covers a place of an edge: in proportion to determinants, and evenly on both sides of the edge's line.
use Rattle.std.proofs.Common.{◌≡◌, List, [], ◌∷◌, refl}
use Rattle.std.specs.Prelude.{ℤ, pos, ◌+ℤ◌, ◌-ℤ◌, ◌*ℤ◌, ◌<ℤ◌}
use Rattle.integers.proofs.Ring.{Expr, var, con, ◌⊕◌, ◌⊖◌, ◌⊗◌, ring, by_two, by_three}
use Rattle.integers.proofs.Signs.{zero_of_mul}
use Rattle.hiding_laws.proofs.ScreenLetters.{A, B, C, P, I, J, K, area, turn, weighed, values}
use Rattle.hiding_laws.proofs.Screens.{Screen, area_of, turn_of, Covers}
use Rattle.hiding_laws.proofs.Places.{place_of}

module _ (a b c p : Screen) (q : Covers a b c p) where
  abbrev sum : ℤ
  sum = (q.i +ℤ q.j) +ℤ q.k

  abbrev here : List ℤ
  here = values a b c p q.i q.j q.k

  -- what the two equations of the cover say, as expressions
  abbrev gap_u : Expr
  gap_u = (weighed I J K A.u B.u C.u ⊗ P.w) ⊖ (P.u ⊗ ((I ⊕ J) ⊕ K))

  abbrev gap_v : Expr
  gap_v = (weighed I J K A.v B.v C.v ⊗ P.w) ⊖ (P.v ⊗ ((I ⊕ J) ⊕ K))

  pub first_turn : sum *ℤ turn_of p b c ≡ p.w *ℤ (q.i *ℤ area_of a b c)
  first_turn = by_two _ _ _ _ (c.v -ℤ b.v) _ _ (b.u -ℤ c.u)
      (ring here ((((I ⊕ J) ⊕ K) ⊗ turn P B C) ⊖ (P.w ⊗ (I ⊗ area A B C))) ((gap_u ⊗ (C.v ⊖ B.v)) ⊕ (gap_v ⊗ (B.u ⊖ C.u))) refl) q.same_u q.same_v

  pub second_turn : sum *ℤ turn_of p c a ≡ p.w *ℤ (q.j *ℤ area_of a b c)
  second_turn = by_two _ _ _ _ (a.v -ℤ c.v) _ _ (c.u -ℤ a.u)
      (ring here ((((I ⊕ J) ⊕ K) ⊗ turn P C A) ⊖ (P.w ⊗ (J ⊗ area A B C))) ((gap_u ⊗ (A.v ⊖ C.v)) ⊕ (gap_v ⊗ (C.u ⊖ A.u))) refl) q.same_u q.same_v

  pub third_turn : sum *ℤ turn_of p a b ≡ p.w *ℤ (q.k *ℤ area_of a b c)
  third_turn = by_two _ _ _ _ (b.v -ℤ a.v) _ _ (a.u -ℤ b.u)
      (ring here ((((I ⊕ J) ⊕ K) ⊗ turn P A B) ⊖ (P.w ⊗ (K ⊗ area A B C))) ((gap_u ⊗ (B.v ⊖ A.v)) ⊕ (gap_v ⊗ (A.u ⊖ B.u))) refl) q.same_u q.same_v

  -- how far the place is on one corner's side, by the place alone
  pub balance : (x y z : ℤ) → sum *ℤ (area_of a b c *ℤ (((x *ℤ turn_of p b c) -ℤ (y *ℤ turn_of p c a)) -ℤ (z *ℤ turn_of p a b)))
      ≡ (p.w *ℤ (area_of a b c *ℤ area_of a b c)) *ℤ (((x *ℤ q.i) -ℤ (y *ℤ q.j)) -ℤ (z *ℤ q.k))
  balance x y z =
      by_three _ _ _ _ (area_of a b c *ℤ x) _ _ (pos 0 -ℤ (area_of a b c *ℤ y)) _ _ (pos 0 -ℤ (area_of a b c *ℤ z))
      (ring (sum ∷ area_of a b c ∷ p.w ∷ x ∷ y ∷ z ∷ turn_of p b c ∷ turn_of p c a ∷ turn_of p a b ∷ q.i ∷ q.j ∷ q.k ∷ [])
      ((var 0 ⊗ (var 1 ⊗ (((var 3 ⊗ var 6) ⊖ (var 4 ⊗ var 7)) ⊖ (var 5 ⊗ var 8)))) ⊖ ((var 2 ⊗ (var 1 ⊗ var 1)) ⊗ (((var 3 ⊗ var 9) ⊖ (var 4 ⊗ var 10)) ⊖ (var 5 ⊗ var 11))))
      (((((var 0 ⊗ var 6) ⊖ (var 2 ⊗ (var 9 ⊗ var 1))) ⊗ (var 1 ⊗ var 3)) ⊕ (((var 0 ⊗ var 7) ⊖ (var 2 ⊗ (var 10 ⊗ var 1))) ⊗ (con (pos 0) ⊖ (var 1 ⊗ var 4))))
      ⊕ (((var 0 ⊗ var 8) ⊖ (var 2 ⊗ (var 11 ⊗ var 1))) ⊗ (con (pos 0) ⊖ (var 1 ⊗ var 5)))) refl)
      first_turn second_turn third_turn

-- the corners are as far to the left of the edge's line as to the right, with these weights
pub evenly : (p q a b c : Screen) (n m : ℤ) → pos 0 <ℤ m → (x : Covers a b c (place_of p q n m))
    → ((x.i *ℤ area_of p q a) +ℤ (x.j *ℤ area_of p q b)) +ℤ (x.k *ℤ area_of p q c) ≡ pos 0
evenly p q a b c n m m_pos x =
    zero_of_mul m _ m_pos
    (by_two _ _ _ _ (pos 0 -ℤ (q.v -ℤ p.v)) _ _ (q.u -ℤ p.u)
    (ring (p.u ∷ p.v ∷ q.u ∷ q.v ∷ a.u ∷ a.v ∷ b.u ∷ b.v ∷ c.u ∷ c.v ∷ n ∷ m ∷ x.i ∷ x.j ∷ x.k ∷ [])
    ((var 11 ⊗ (((var 12 ⊗ side (var 4) (var 5)) ⊕ (var 13 ⊗ side (var 6) (var 7))) ⊕ (var 14 ⊗ side (var 8) (var 9)))) ⊖ con (pos 0))
    (((sums (var 4) (var 6) (var 8) (var 0) (var 2)) ⊗ (con (pos 0) ⊖ (var 3 ⊖ var 1))) ⊕ ((sums (var 5) (var 7) (var 9) (var 1) (var 3)) ⊗ (var 2 ⊖ var 0))) refl) x.same_u x.same_v)
  where
    side : Expr → Expr → Expr
    side u v = ((var 2 ⊖ var 0) ⊗ (v ⊖ var 1)) ⊖ ((var 3 ⊖ var 1) ⊗ (u ⊖ var 0))

    sums : Expr → Expr → Expr → Expr → Expr → Expr
    sums f g h s t = (((((var 12 ⊗ f) ⊕ (var 13 ⊗ g)) ⊕ (var 14 ⊗ h)) ⊗ var 11) ⊖ ((((var 11 ⊖ var 10) ⊗ s) ⊕ (var 10 ⊗ t)) ⊗ ((var 12 ⊕ var 13) ⊕ var 14)))
