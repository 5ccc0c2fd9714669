-- The border of a face of an edge does not cross it: both are in one plane.
use Rattle.std.proofs.Common.{◌≡◌, ℕ, ◌+◌, inl, inr, [], ◌∷◌, refl, sym, ap, ◌∙◌}
use Rattle.std.specs.Prelude.{ℤ, pos, ◌+ℤ◌, ◌-ℤ◌, ◌*ℤ◌}
use Rattle.integers.proofs.Ring.{var, con, ◌⊕◌, ◌⊖◌, ◌⊗◌, ring}
use Rattle.hiding_laws.proofs.Screens.{Screen}
use Rattle.hiding_laws.proofs.Shares.{Crosses, IsSideOf, depth_of, denominator_of}
use Rattle.hiding_laws.proofs.Signs.{clash_zero}
use Rattle.cut_count_laws.proofs.Rests.{grown}
use Rattle.cut_count_laws.proofs.ScaledScreens.{part, box}

-- three ways in one plane have no determinant
flat_box : (a b c d e f uu uv uh vu vv vh : ℤ)
    → box ((a *ℤ uu) +ℤ (b *ℤ vu)) ((a *ℤ uv) +ℤ (b *ℤ vv)) ((a *ℤ uh) +ℤ (b *ℤ vh)) ((c *ℤ uu) +ℤ (d *ℤ vu)) ((c *ℤ uv) +ℤ (d *ℤ vv)) ((c *ℤ uh) +ℤ (d *ℤ vh))
    ((e *ℤ uu) +ℤ (f *ℤ vu)) ((e *ℤ uv) +ℤ (f *ℤ vv)) ((e *ℤ uh) +ℤ (f *ℤ vh)) ≡ pos 0
flat_box a b c d e f uu uv uh vu vv vh =
    let way = λ (k l m : ℕ). (var k ⊗ var m) ⊕ (var l ⊗ var (m + 3)) in
    let p = way 0 1 in
    let q = way 2 3 in
    let r = way 4 5 in
    ring (a ∷ b ∷ c ∷ d ∷ e ∷ f ∷ uu ∷ uv ∷ uh ∷ vu ∷ vv ∷ vh ∷ [])
    (((((p 7 ⊗ q 8) ⊖ (p 8 ⊗ q 7)) ⊗ r 6) ⊕ (((p 8 ⊗ q 6) ⊖ (p 6 ⊗ q 8)) ⊗ r 7)) ⊕ (((p 6 ⊗ q 7) ⊖ (p 7 ⊗ q 6)) ⊗ r 8)) (con (pos 0)) refl

module _ (x y z : Screen) (t j i : ℤ) where
  -- a corner, by the two sides from x
  abbrev spot : ℤ → ℤ → Screen
  spot a b = record {
    u = x.u +ℤ ((a *ℤ (y.u -ℤ x.u)) +ℤ (b *ℤ (z.u -ℤ x.u)));
    v = x.v +ℤ ((a *ℤ (y.v -ℤ x.v)) +ℤ (b *ℤ (z.v -ℤ x.v)));
    h = x.h +ℤ ((a *ℤ (y.h -ℤ x.h)) +ℤ (b *ℤ (z.h -ℤ x.h)));
    w = pos 1;
  }

  abbrev deep : Screen → Screen → ℤ
  deep p q = depth_of (grown t p) (grown t q) (part t j x y) (part t i x z)

  flat_spots : (a b a' b' : ℤ) → deep (spot a b) (spot a' b') ≡ pos 0
  flat_spots a b a' b' =
      (λ r. box (goes x.u y.u z.u r) (goes x.v y.v z.v r) (goes x.h y.h z.h r) (cuts x.u y.u z.u r) (cuts x.v y.v z.v r) (cuts x.h y.h z.h r) (from x.u y.u z.u r) (from x.v y.v z.v r) (from x.h y.h z.h r))
      ∙ flat_box (t *ℤ (a' -ℤ a)) (t *ℤ (b' -ℤ b)) (pos 0 -ℤ j) i (j -ℤ (t *ℤ a)) (pos 0 -ℤ (t *ℤ b)) (y.u -ℤ x.u) (y.v -ℤ x.v) (y.h -ℤ x.h) (z.u -ℤ x.u) (z.v -ℤ x.v) (z.h -ℤ x.h)
    where
      goes : (k l m : ℤ) → (t *ℤ (k +ℤ ((a' *ℤ (l -ℤ k)) +ℤ (b' *ℤ (m -ℤ k))))) -ℤ (t *ℤ (k +ℤ ((a *ℤ (l -ℤ k)) +ℤ (b *ℤ (m -ℤ k))))) ≡ ((t *ℤ (a' -ℤ a)) *ℤ (l -ℤ k)) +ℤ ((t *ℤ (b' -ℤ b)) *ℤ (m -ℤ k))
      goes k l m = ring (t ∷ a ∷ b ∷ a' ∷ b' ∷ k ∷ l ∷ m ∷ [])
          ((var 0 ⊗ (var 5 ⊕ ((var 3 ⊗ (var 6 ⊖ var 5)) ⊕ (var 4 ⊗ (var 7 ⊖ var 5))))) ⊖ (var 0 ⊗ (var 5 ⊕ ((var 1 ⊗ (var 6 ⊖ var 5)) ⊕ (var 2 ⊗ (var 7 ⊖ var 5))))))
          (((var 0 ⊗ (var 3 ⊖ var 1)) ⊗ (var 6 ⊖ var 5)) ⊕ ((var 0 ⊗ (var 4 ⊖ var 2)) ⊗ (var 7 ⊖ var 5))) refl

      cuts : (k l m : ℤ) → (((t -ℤ i) *ℤ k) +ℤ (i *ℤ m)) -ℤ (((t -ℤ j) *ℤ k) +ℤ (j *ℤ l)) ≡ ((pos 0 -ℤ j) *ℤ (l -ℤ k)) +ℤ (i *ℤ (m -ℤ k))
      cuts k l m = ring (t ∷ j ∷ i ∷ k ∷ l ∷ m ∷ [])
          ((((var 0 ⊖ var 2) ⊗ var 3) ⊕ (var 2 ⊗ var 5)) ⊖ (((var 0 ⊖ var 1) ⊗ var 3) ⊕ (var 1 ⊗ var 4)))
          (((con (pos 0) ⊖ var 1) ⊗ (var 4 ⊖ var 3)) ⊕ (var 2 ⊗ (var 5 ⊖ var 3))) refl

      from : (k l m : ℤ) → (((t -ℤ j) *ℤ k) +ℤ (j *ℤ l)) -ℤ (t *ℤ (k +ℤ ((a *ℤ (l -ℤ k)) +ℤ (b *ℤ (m -ℤ k))))) ≡ ((j -ℤ (t *ℤ a)) *ℤ (l -ℤ k)) +ℤ ((pos 0 -ℤ (t *ℤ b)) *ℤ (m -ℤ k))
      from k l m = ring (t ∷ j ∷ a ∷ b ∷ k ∷ l ∷ m ∷ [])
          ((((var 0 ⊖ var 1) ⊗ var 4) ⊕ (var 1 ⊗ var 5)) ⊖ (var 0 ⊗ (var 4 ⊕ ((var 2 ⊗ (var 5 ⊖ var 4)) ⊕ (var 3 ⊗ (var 6 ⊖ var 4))))))
          (((var 1 ⊖ (var 0 ⊗ var 2)) ⊗ (var 5 ⊖ var 4)) ⊕ ((con (pos 0) ⊖ (var 0 ⊗ var 3)) ⊗ (var 6 ⊖ var 4))) refl

  at_x : grown t x ≡ grown t (spot (pos 0) (pos 0))
  at_x = λ r. record { u = one x.u y.u z.u r; v = one x.v y.v z.v r; h = one x.h y.h z.h r; w = pos 1 }
    where
      one : (k l m : ℤ) → t *ℤ k ≡ t *ℤ (k +ℤ ((pos 0 *ℤ (l -ℤ k)) +ℤ (pos 0 *ℤ (m -ℤ k))))
      one k l m = ring (t ∷ k ∷ l ∷ m ∷ []) (var 0 ⊗ var 1) (var 0 ⊗ (var 1 ⊕ ((con (pos 0) ⊗ (var 2 ⊖ var 1)) ⊕ (con (pos 0) ⊗ (var 3 ⊖ var 1))))) refl

  at_y : grown t y ≡ grown t (spot (pos 1) (pos 0))
  at_y = λ r. record { u = one x.u y.u z.u r; v = one x.v y.v z.v r; h = one x.h y.h z.h r; w = pos 1 }
    where
      one : (k l m : ℤ) → t *ℤ l ≡ t *ℤ (k +ℤ ((pos 1 *ℤ (l -ℤ k)) +ℤ (pos 0 *ℤ (m -ℤ k))))
      one k l m = ring (t ∷ k ∷ l ∷ m ∷ []) (var 0 ⊗ var 2) (var 0 ⊗ (var 1 ⊕ ((con (pos 1) ⊗ (var 2 ⊖ var 1)) ⊕ (con (pos 0) ⊗ (var 3 ⊖ var 1))))) refl

  at_z : grown t z ≡ grown t (spot (pos 0) (pos 1))
  at_z = λ r. record { u = one x.u y.u z.u r; v = one x.v y.v z.v r; h = one x.h y.h z.h r; w = pos 1 }
    where
      one : (k l m : ℤ) → t *ℤ m ≡ t *ℤ (k +ℤ ((pos 0 *ℤ (l -ℤ k)) +ℤ (pos 1 *ℤ (m -ℤ k))))
      one k l m = ring (t ∷ k ∷ l ∷ m ∷ []) (var 0 ⊗ var 3) (var 0 ⊗ (var 1 ⊕ ((con (pos 0) ⊗ (var 2 ⊖ var 1)) ⊕ (con (pos 1) ⊗ (var 3 ⊖ var 1))))) refl

  flat_pair : (p q : Screen) (a b a' b' : ℤ) → grown t p ≡ grown t (spot a b) → grown t q ≡ grown t (spot a' b') → deep p q ≡ pos 0
  flat_pair p q a b a' b' e g = (λ r. depth_of (e r) (g r) (part t j x y) (part t i x z)) ∙ flat_spots a b a' b'

  flat_border : (p q : Screen) → IsSideOf p q x y z → deep p q ≡ pos 0
  flat_border p q (inl s) = (λ r. deep (sym s.0 r) (sym s.1 r)) ∙ flat_pair x y (pos 0) (pos 0) (pos 1) (pos 0) at_x at_y
  flat_border p q (inr (inl s)) = (λ r. deep (sym s.0 r) (sym s.1 r)) ∙ flat_pair y z (pos 1) (pos 0) (pos 0) (pos 1) at_y at_z
  flat_border p q (inr (inr (inl s))) = (λ r. deep (sym s.0 r) (sym s.1 r)) ∙ flat_pair z x (pos 0) (pos 1) (pos 0) (pos 0) at_z at_x
  flat_border p q (inr (inr (inr (inl s)))) = (λ r. deep (sym s.0 r) (sym s.1 r)) ∙ flat_pair y x (pos 1) (pos 0) (pos 0) (pos 0) at_y at_x
  flat_border p q (inr (inr (inr (inr (inl s))))) = (λ r. deep (sym s.0 r) (sym s.1 r)) ∙ flat_pair z y (pos 0) (pos 1) (pos 1) (pos 0) at_z at_y
  flat_border p q (inr (inr (inr (inr (inr s))))) = (λ r. deep (sym s.0 r) (sym s.1 r)) ∙ flat_pair x z (pos 0) (pos 0) (pos 0) (pos 1) at_x at_z

  pub uncrossed_border : (p q : Screen) (n m n' m' : ℤ) → IsSideOf p q x y z → ¬ Crosses (grown t p) (grown t q) (part t j x y) (part t i x z) n m n' m'
  uncrossed_border p q n m n' m' own h = clash_zero _ h.nearer
      (ap (λ v. v *ℤ denominator_of (grown t p) (grown t q) (part t j x y) (part t i x z)) (flat_border p q own)
      ∙ ring (denominator_of (grown t p) (grown t q) (part t j x y) (part t i x z) ∷ []) (con (pos 0) ⊗ var 0) (con (pos 0)) refl)
