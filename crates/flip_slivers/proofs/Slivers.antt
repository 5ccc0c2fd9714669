-- The foot of a sliver's height is on its longest side, and as near the apex as the height says.
use Rattle.std.proofs.Common.{◌≡◌, ℕ, ◌+◌, ◌<◌, [], ◌∷◌, refl, sym, ap, ◌∙◌, subst, unsigned_abs, arith}
use Rattle.std.specs.Prelude.{ℤ, pos, ◌+ℤ◌, ◌-ℤ◌, ◌*ℤ◌, ◌≤ℤ◌, ◌<ℤ◌}
use Rattle.std.proofs.lemmas.Int.{ints}
use Rattle.integers.proofs.Absolutes.{abs_of_not_negative}
use Rattle.integers.proofs.Comparisons.{not_negative_of_positive}
use Rattle.integers.proofs.Ring.{var, con, ◌⊕◌, ◌⊖◌, ◌⊗◌, ring}
use Rattle.lattice.specs.declared.points.Corner.{Corner}
use Rattle.lattice.specs.Triple.{Triple, dot, cross}
use Rattle.lattice.specs.Points.{difference}
use Rattle.lattice.proofs.Vectors.{Letters, letters, dots}
use Rattle.flip_slivers.specs.Near.{square}
use Rattle.flip_slivers.specs.Heights.{side_square, area_square}
use Rattle.flip_slivers.proofs.Lengths.{IsNoLonger, product_order, square-cross, square_not_negative}
use Rattle.flip_slivers.proofs.Feet.{IsFoot, height_way}

abbrev between : Letters → Letters → Letters
between s t = record { x = t.x ⊖ s.x; y = t.y ⊖ s.y; z = t.z ⊖ s.z }

-- the law of cosines
twice_product : (a b c : Corner) → pos 2 *ℤ dot (difference a b) (difference a c) ≡ (side_square a b +ℤ side_square c a) -ℤ side_square b c
twice_product a b c =
    let ab = between (letters 0) (letters 3) in
    let ac = between (letters 0) (letters 6) in
    let ca = between (letters 6) (letters 0) in
    let bc = between (letters 3) (letters 6) in
    ring (a.x ∷ a.y ∷ a.z ∷ b.x ∷ b.y ∷ b.z ∷ c.x ∷ c.y ∷ c.z ∷ []) (con (pos 2) ⊗ dots ab ac) ((dots ab ab ⊕ dots ca ca) ⊖ dots bc bc) refl

-- a multiple of one vector less one of another
abbrev less : ℤ → Triple → ℤ → Triple → Triple
less l s m t = record { x = (l *ℤ s.x) -ℤ (m *ℤ t.x); y = (l *ℤ s.y) -ℤ (m *ℤ t.y); z = (l *ℤ s.z) -ℤ (m *ℤ t.z) }

square-less : (l m : ℤ) (s t : Triple) → square (less l s m t) ≡ (((l *ℤ l) *ℤ square s) -ℤ ((pos 2 *ℤ (l *ℤ m)) *ℤ dot t s)) +ℤ ((m *ℤ m) *ℤ square t)
square-less l m s t =
    let on = letters 2 in
    let to = letters 5 in
    let gap : Letters = record { x = (var 0 ⊗ var 2) ⊖ (var 1 ⊗ var 5); y = (var 0 ⊗ var 3) ⊖ (var 1 ⊗ var 6); z = (var 0 ⊗ var 4) ⊖ (var 1 ⊗ var 7) } in
    ring (l ∷ m ∷ s.x ∷ s.y ∷ s.z ∷ t.x ∷ t.y ∷ t.z ∷ []) (dots gap gap)
    ((((var 0 ⊗ var 0) ⊗ dots on on) ⊖ ((con (pos 2) ⊗ (var 0 ⊗ var 1)) ⊗ dots to on)) ⊕ ((var 1 ⊗ var 1) ⊗ dots to to)) refl

height_way-is : (a b c : Corner) (m n l : ℤ) → m +ℤ n ≡ l → height_way a b c m n ≡ less l (difference a c) m (difference a b)
height_way-is a b c m n l whole = (λ i. record { x = on m n a.x b.x c.x i; y = on m n a.y b.y c.y i; z = on m n a.z b.z c.z i }) ∙ ap (λ v. less v (difference a c) m (difference a b)) whole
  where
    on : (m n a b c : ℤ) → (((m +ℤ n) *ℤ c) -ℤ (n *ℤ a)) -ℤ (m *ℤ b) ≡ ((m +ℤ n) *ℤ (c -ℤ a)) -ℤ (m *ℤ (b -ℤ a))
    on m n a b c =
        ring (m ∷ n ∷ a ∷ b ∷ c ∷ []) ((((var 0 ⊕ var 1) ⊗ var 4) ⊖ (var 1 ⊗ var 2)) ⊖ (var 0 ⊗ var 3)) (((var 0 ⊕ var 1) ⊗ (var 4 ⊖ var 2)) ⊖ (var 0 ⊗ (var 3 ⊖ var 2))) refl

-- the square of the way, where m is the product of two sides and l the square of one
square-way : (s t : Triple) (l m area : ℤ) → l ≡ square t → m ≡ dot t s → area ≡ square (cross t s) → square (less l s m t) ≡ l *ℤ area
square-way s t l m area is_l is_m is_area =
    square-less l m s t
    ∙ (λ i. (((l *ℤ l) *ℤ square s) -ℤ ((pos 2 *ℤ (l *ℤ m)) *ℤ sym is_m i)) +ℤ ((m *ℤ m) *ℤ sym is_l i))
    ∙ turn l m (square s)
    ∙ ap (λ v. l *ℤ v) ((λ i. (is_l i *ℤ square s) -ℤ (is_m i *ℤ is_m i)) ∙ square-cross t s ∙ sym is_area)
  where
    turn : (l m p : ℤ) → (((l *ℤ l) *ℤ p) -ℤ ((pos 2 *ℤ (l *ℤ m)) *ℤ m)) +ℤ ((m *ℤ m) *ℤ l) ≡ l *ℤ ((l *ℤ p) -ℤ (m *ℤ m))
    turn l m p =
        ring (l ∷ m ∷ p ∷ []) ((((var 0 ⊗ var 0) ⊗ var 2) ⊖ ((con (pos 2) ⊗ (var 0 ⊗ var 1)) ⊗ var 1)) ⊕ ((var 1 ⊗ var 1) ⊗ var 0)) (var 0 ⊗ ((var 0 ⊗ var 2) ⊖ (var 1 ⊗ var 1))) refl

module _ (a b c : Corner) (area side : ℤ) (r : ℕ) (is_area : area ≡ area_square a b c) (is_side : side ≡ side_square a b)
    (second : side_square b c ≤ℤ side) (third : side_square c a ≤ℤ side) (some : pos 0 <ℤ side) (enough : (area *ℤ pos 1048576) ≤ℤ ((pos r *ℤ pos r) *ℤ side)) where
  m : ℤ
  m = dot (difference a b) (difference a c)

  n : ℤ
  n = side -ℤ m

  from_start : pos 0 ≤ℤ m
  unfolding m
  from_start = half _ _ _ _ _ (twice_product a b c) is_side second (square_not_negative (difference c a))
    where
      half : (m x y z l : ℤ) → pos 2 *ℤ m ≡ (x +ℤ y) -ℤ z → l ≡ x → z ≤ℤ l → pos 0 ≤ℤ y → pos 0 ≤ℤ m
      half m x y z l e f h k = omega (arith, ints)

  to_end : pos 0 ≤ℤ n
  unfolding m n
  to_end = half _ _ _ _ _ (twice_product a b c) is_side third (square_not_negative (difference b c))
    where
      half : (m x y z l : ℤ) → pos 2 *ℤ m ≡ (x +ℤ y) -ℤ z → l ≡ x → y ≤ℤ l → pos 0 ≤ℤ z → pos 0 ≤ℤ (l -ℤ m)
      half m x y z l e f h k = omega (arith, ints)

  both : m +ℤ n ≡ side
  unfolding n
  both = sum m side
    where
      sum : (m l : ℤ) → m +ℤ (l -ℤ m) ≡ l
      sum m l = omega (arith, ints)

  is_square : square (height_way a b c m n) ≡ side *ℤ area
  unfolding m
  is_square = ap square (height_way-is a b c m n side both) ∙ square-way (difference a c) (difference a b) side m area is_side refl is_area

  is_near : IsNoLonger (pos 1048576) (height_way a b c m n) (pos r *ℤ (m +ℤ n))
  is_near =
      within _ _ _ _ (ap (λ v. pos 1048576 *ℤ v) is_square ∙ turn side area) (ap (λ v. (pos r *ℤ v) *ℤ (pos r *ℤ v)) both ∙ turn_square (pos r) side)
      (product_order side (area *ℤ pos 1048576) ((pos r *ℤ pos r) *ℤ side) (not_negative_of_positive side some) enough)
    where
      within : (x y u v : ℤ) → x ≡ u → y ≡ v → u ≤ℤ v → x ≤ℤ y
      within x y u v e f h = omega (arith, ints)

      turn : (l n : ℤ) → pos 1048576 *ℤ (l *ℤ n) ≡ l *ℤ (n *ℤ pos 1048576)
      turn l n = ring (l ∷ n ∷ []) (con (pos 1048576) ⊗ (var 0 ⊗ var 1)) (var 0 ⊗ (var 1 ⊗ con (pos 1048576))) refl

      turn_square : (r l : ℤ) → (r *ℤ l) *ℤ (r *ℤ l) ≡ l *ℤ ((r *ℤ r) *ℤ l)
      turn_square r l = ring (r ∷ l ∷ []) ((var 0 ⊗ var 1) ⊗ (var 0 ⊗ var 1)) (var 1 ⊗ ((var 0 ⊗ var 0) ⊗ var 1)) refl

  pub foot-of_sliver : (m : ℕ) × (n : ℕ) × IsFoot a b c m n r
  foot-of_sliver = (
    unsigned_abs m,
    unsigned_abs n,
    record {
      some = not_both m n side both some;
      near = subst (λ (v : ℤ). IsNoLonger (pos 1048576) (height_way a b c v (pos (unsigned_abs n))) (pos r *ℤ (v +ℤ pos (unsigned_abs n)))) (sym (abs_of_not_negative m from_start))
          (subst (λ (v : ℤ). IsNoLonger (pos 1048576) (height_way a b c m v) (pos r *ℤ (m +ℤ v))) (sym (abs_of_not_negative n to_end)) is_near);
    },
  )
    where
      not_both : (m n l : ℤ) → m +ℤ n ≡ l → pos 0 <ℤ l → 0 < unsigned_abs m + unsigned_abs n
      not_both m n l e h = omega (arith, ints)
