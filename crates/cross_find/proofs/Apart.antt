-- A triangle whose corners are all seen to one side of an end of an edge is not nearer next to that end.
use Rattle.std.proofs.Common.{◌≡◌, inl, inr, [], ◌∷◌, refl, sym, subst, ap, ◌∙◌, arith}
use Rattle.std.specs.Prelude.{ℤ, pos, ◌+ℤ◌, ◌-ℤ◌, ◌*ℤ◌, ◌<ℤ◌, ◌≤ℤ◌, ◌≢◌}
use Rattle.std.proofs.lemmas.Int.{ints, by_lt_z}
use Rattle.integers.proofs.Comparisons.{not_negative_of_positive, not_negative_of_zero, one_less_not_negative, positive_not_zero, positive_at, sum_not_negative, sum_positive_last, negation_positive, zero_between, times_zero}
use Rattle.integers.proofs.Ring.{var, con, ◌⊕◌, ◌⊖◌, ◌⊗◌, ring, gap_of_less}
use Rattle.integers.proofs.Signs.{mul_nonneg}
use Rattle.lattice.specs.declared.points.Corner.{Corner}
use Rattle.lattice.specs.Triple.{Triple, dot}
use Rattle.lattice.specs.Points.{point_of, of_corner, difference}
use Rattle.lattice.proofs.Vectors.{letters, dots}
use Rattle.geometry.specs.Faces.{facing_of}
use Rattle.hiding_laws.specs.Values.{side_of, depth_of}
use Rattle.lattice.proofs.PointLetters.{ways}
use Rattle.hiding_laws.proofs.Values.{facing-turned}
use Rattle.hiding_laws.proofs.Weights.{sides-sum, weigh_x, weigh_y, weigh_z}
use Rattle.cross_find.specs.Ends.{HidesFrom, IsNotBelow, IsApart, AreBeside}
use Rattle.cross_find.proofs.Fronts.{from_turned, side_next}

-- three numbers above 0, by weights of at least 0 that are not all 0
heavy : (s t u x y z : ℤ) → pos 0 ≤ℤ s → pos 0 ≤ℤ t → pos 0 ≤ℤ u → pos 0 <ℤ ((s +ℤ t) +ℤ u) → pos 0 <ℤ x → pos 0 <ℤ y → pos 0 <ℤ z
    → pos 0 <ℤ (((s *ℤ x) +ℤ (t *ℤ y)) +ℤ (u *ℤ z))
heavy s t u x y z hs ht hu some hx hy hz =
    subst (λ (v : ℤ). pos 0 <ℤ v) (sym same)
    (sum_positive_last _ _ (sum_not_negative _ _ (sum_not_negative _ _ (mul_nonneg s (x -ℤ pos 1) hs (one_less_not_negative x hx)) (mul_nonneg t (y -ℤ pos 1) ht (one_less_not_negative y hy)))
    (mul_nonneg u (z -ℤ pos 1) hu (one_less_not_negative z hz))) some)
  where
    same : ((s *ℤ x) +ℤ (t *ℤ y)) +ℤ (u *ℤ z) ≡ (((s *ℤ (x -ℤ pos 1)) +ℤ (t *ℤ (y -ℤ pos 1))) +ℤ (u *ℤ (z -ℤ pos 1))) +ℤ ((s +ℤ t) +ℤ u)
    same = ring (s ∷ t ∷ u ∷ x ∷ y ∷ z ∷ []) (((var 0 ⊗ var 3) ⊕ (var 1 ⊗ var 4)) ⊕ (var 2 ⊗ var 5))
        ((((var 0 ⊗ (var 3 ⊖ con (pos 1))) ⊕ (var 1 ⊗ (var 4 ⊖ con (pos 1)))) ⊕ (var 2 ⊗ (var 5 ⊖ con (pos 1)))) ⊕ ((var 0 ⊕ var 1) ⊕ var 2)) refl

-- the values of a triangle's sides at o weigh its corners to a corner on the line of sight of o, which is level with o
module _ (d axis : Triple) (a b c o : Corner) where
  opened : (s t u : ℤ) → ((s *ℤ dot axis (difference o a)) +ℤ (t *ℤ dot axis (difference o b))) +ℤ (u *ℤ dot axis (difference o c))
      ≡ (((axis.x *ℤ (((s *ℤ a.x) +ℤ (t *ℤ b.x)) +ℤ (u *ℤ c.x))) +ℤ (axis.y *ℤ (((s *ℤ a.y) +ℤ (t *ℤ b.y)) +ℤ (u *ℤ c.y)))) +ℤ (axis.z *ℤ (((s *ℤ a.z) +ℤ (t *ℤ b.z)) +ℤ (u *ℤ c.z))))
      -ℤ (((s +ℤ t) +ℤ u) *ℤ dot axis (of_corner o))
  opened s t u =
      let A = letters 6 in
      let B = letters 9 in
      let C = letters 12 in
      let O = letters 15 in
      ring (s ∷ t ∷ u ∷ axis.x ∷ axis.y ∷ axis.z ∷ a.x ∷ a.y ∷ a.z ∷ b.x ∷ b.y ∷ b.z ∷ c.x ∷ c.y ∷ c.z ∷ o.x ∷ o.y ∷ o.z ∷ [])
      (((var 0 ⊗ dots (letters 3) (ways O A)) ⊕ (var 1 ⊗ dots (letters 3) (ways O B))) ⊕ (var 2 ⊗ dots (letters 3) (ways O C)))
      ((((var 3 ⊗ (((var 0 ⊗ A.x) ⊕ (var 1 ⊗ B.x)) ⊕ (var 2 ⊗ C.x))) ⊕ (var 4 ⊗ (((var 0 ⊗ A.y) ⊕ (var 1 ⊗ B.y)) ⊕ (var 2 ⊗ C.y)))) ⊕ (var 5 ⊗ (((var 0 ⊗ A.z) ⊕ (var 1 ⊗ B.z)) ⊕ (var 2 ⊗ C.z))))
      ⊖ (((var 0 ⊕ var 1) ⊕ var 2) ⊗ dots (letters 3) O)) refl

  closed : (f g : ℤ) → (((axis.x *ℤ ((f *ℤ o.x) +ℤ (g *ℤ d.x))) +ℤ (axis.y *ℤ ((f *ℤ o.y) +ℤ (g *ℤ d.y)))) +ℤ (axis.z *ℤ ((f *ℤ o.z) +ℤ (g *ℤ d.z)))) -ℤ ((pos 1 *ℤ f) *ℤ dot axis (of_corner o))
      ≡ g *ℤ dot axis d
  closed f g =
      ring (f ∷ g ∷ axis.x ∷ axis.y ∷ axis.z ∷ o.x ∷ o.y ∷ o.z ∷ d.x ∷ d.y ∷ d.z ∷ [])
      ((((var 2 ⊗ ((var 0 ⊗ var 5) ⊕ (var 1 ⊗ var 8))) ⊕ (var 3 ⊗ ((var 0 ⊗ var 6) ⊕ (var 1 ⊗ var 9)))) ⊕ (var 4 ⊗ ((var 0 ⊗ var 7) ⊕ (var 1 ⊗ var 10)))) ⊖ ((con (pos 1) ⊗ var 0) ⊗ dots (letters 2) (letters 5)))
      (var 1 ⊗ dots (letters 2) (letters 8)) refl

  balanced : dot axis d ≡ pos 0 → ((side_of d b c (point_of o) *ℤ dot axis (difference o a)) +ℤ (side_of d c a (point_of o) *ℤ dot axis (difference o b))) +ℤ (side_of d a b (point_of o) *ℤ dot axis (difference o c)) ≡ pos 0
  balanced level =
      let p = point_of o in
      opened (side_of d b c p) (side_of d c a p) (side_of d a b p)
      ∙ (λ i. (((axis.x *ℤ weigh_x d a b c p i) +ℤ (axis.y *ℤ weigh_y d a b c p i)) +ℤ (axis.z *ℤ weigh_z d a b c p i)) -ℤ (sides-sum d a b c p i *ℤ dot axis (of_corner o)))
      ∙ closed (facing_of d a b c) (depth_of a b c p) ∙ ap (λ (v : ℤ). depth_of a b c p *ℤ v) level ∙ times_zero (depth_of a b c p)

least : (here there : ℤ) → IsNotBelow here there → pos 0 ≤ℤ here
least here there (inl h) = not_negative_of_positive here h
least here there (inr h) = not_negative_of_zero here h.0

once : (x : ℤ) → pos 1 *ℤ x ≡ x
once x = omega (arith, ints)

front_apart : (d : Triple) (a b c o q : Corner) → pos 0 <ℤ facing_of d a b c → IsApart d a b c o → HidesFrom d a b c o q → ⊥
front_apart d a b c o q front h hides =
    let p = point_of o in
    let ab = least _ _ (side_next d a b c o q front a b (λ k l b. b.ab) hides) in
    let bc = least _ _ (side_next d a b c o q front b c (λ k l b. b.bc) hides) in
    let ca = least _ _ (side_next d a b c o q front c a (λ k l b. b.ca) hides) in
    positive_not_zero _
    (heavy (side_of d b c p) (side_of d c a p) (side_of d a b p) _ _ _ bc ca ab (positive_at _ _ (sides-sum d a b c p ∙ once (facing_of d a b c)) front) h.first h.second h.third)
    (balanced d h.axis a b c o h.level)

pub never_apart : (d : Triple) (a b c o q : Corner) → facing_of d a b c ≢ pos 0 → IsApart d a b c o → HidesFrom d a b c o q → ⊥
never_apart d a b c o q turned h hides =
    by_lt_z (pos 0) (facing_of d a b c) (λ front. front_apart d a b c o q front h hides) (λ most. by_lt_z (facing_of d a b c) (pos 0)
    (λ back. front_apart d a c b o q (positive_at _ _ (facing-turned d a b c) (negation_positive _ back))
    (record { axis = h.axis; level = h.level; first = h.first; second = h.third; third = h.second }) (from_turned d a b c o q hides))
    (λ least. turned (zero_between _ least most)))

-- ---- by an axis, to either side
abbrev back : Triple → Triple
back s = record { x = pos 0 -ℤ s.x; y = pos 0 -ℤ s.y; z = pos 0 -ℤ s.z }

dot_back : (s t : Triple) → dot (back s) t ≡ pos 0 -ℤ dot s t
dot_back s t =
    ring (s.x ∷ s.y ∷ s.z ∷ t.x ∷ t.y ∷ t.z ∷ [])
    ((((con (pos 0) ⊖ var 0) ⊗ var 3) ⊕ ((con (pos 0) ⊖ var 1) ⊗ var 4)) ⊕ ((con (pos 0) ⊖ var 2) ⊗ var 5)) (con (pos 0) ⊖ dots (letters 0) (letters 3)) refl

module _ (d : Triple) (a b c o : Corner) where
  pub apart_along : (axis : Triple) → dot axis d ≡ pos 0
      → AreBeside (pos 0) (dot axis (difference o a)) (dot axis (difference o b)) (dot axis (difference o c)) → IsApart d a b c o
  apart_along axis level (inl h) = record { axis = axis; level = level; first = h.0; second = h.1; third = h.2 }
  apart_along axis level (inr h) =
      let past = λ (k : Corner) (below : dot axis (difference o k) <ℤ pos 0). positive_at _ _ (dot_back axis (difference o k)) (negation_positive _ below) in
      record { axis = back axis; level = dot_back axis d ∙ ap (λ (v : ℤ). pos 0 -ℤ v) level; first = past a h.0; second = past b h.1; third = past c h.2 }

  -- by a coordinate
  module _ (axis : Triple) (at : Corner → ℤ) (is : (k : Corner) → dot axis (difference o k) ≡ at k -ℤ at o) (level : dot axis d ≡ pos 0) where
    above : (k : Corner) → at o <ℤ at k → pos 0 <ℤ dot axis (difference o k)
    above k h = positive_at _ _ (is k) (gap_of_less (at o) (at k) h)

    below : (k : Corner) → at k <ℤ at o → dot axis (difference o k) <ℤ pos 0
    below k h = subst (λ (v : ℤ). v <ℤ pos 0) (sym (is k)) (gap_below (at k) (at o) h)
      where
        gap_below : (x y : ℤ) → x <ℤ y → (x -ℤ y) <ℤ pos 0
        gap_below x y h = omega (arith, ints)

    beside : AreBeside (at o) (at a) (at b) (at c) → IsApart d a b c o
    beside (inl h) = apart_along axis level (inl (above a h.0, above b h.1, above c h.2))
    beside (inr h) = apart_along axis level (inr (below a h.0, below b h.1, below c h.2))

  pub apart_by_x : d.x ≡ pos 0 → AreBeside o.x a.x b.x c.x → IsApart d a b c o
  apart_by_x none = beside (record { x = pos 1; y = pos 0; z = pos 0 }) (λ k. k.x) (λ k. first (k.x -ℤ o.x) (k.y -ℤ o.y) (k.z -ℤ o.z)) (first d.x d.y d.z ∙ none)
    where
      first : (x y z : ℤ) → ((pos 1 *ℤ x) +ℤ (pos 0 *ℤ y)) +ℤ (pos 0 *ℤ z) ≡ x
      first x y z = omega (arith, ints)

  pub apart_by_y : d.y ≡ pos 0 → AreBeside o.y a.y b.y c.y → IsApart d a b c o
  apart_by_y none = beside (record { x = pos 0; y = pos 1; z = pos 0 }) (λ k. k.y) (λ k. second (k.x -ℤ o.x) (k.y -ℤ o.y) (k.z -ℤ o.z)) (second d.x d.y d.z ∙ none)
    where
      second : (x y z : ℤ) → ((pos 0 *ℤ x) +ℤ (pos 1 *ℤ y)) +ℤ (pos 0 *ℤ z) ≡ y
      second x y z = omega (arith, ints)

  pub apart_by_z : d.z ≡ pos 0 → AreBeside o.z a.z b.z c.z → IsApart d a b c o
  apart_by_z none = beside (record { x = pos 0; y = pos 0; z = pos 1 }) (λ k. k.z) (λ k. third (k.x -ℤ o.x) (k.y -ℤ o.y) (k.z -ℤ o.z)) (third d.x d.y d.z ∙ none)
    where
      third : (x y z : ℤ) → ((pos 0 *ℤ x) +ℤ (pos 0 *ℤ y)) +ℤ (pos 1 *ℤ z) ≡ z
      third x y z = omega (arith, ints)
