-- A triangle has one height, whichever corner comes first.
use Rattle.std.proofs.Common.{◌≡◌, ℕ, List, [], ◌∷◌, refl, sym, ap, ◌∙◌, subst, arith, inl, inr, ◌⊎◌, ⊎_elim}
use Rattle.std.specs.Prelude.{ℤ, pos, ◌+ℤ◌, ◌-ℤ◌, ◌*ℤ◌, ◌<ℤ◌, ◌≤ℤ◌}
use Rattle.std.proofs.lemmas.Bool.{cases_lt}
use Rattle.std.proofs.lemmas.Int.{ints}
use Rattle.std.proofs.lemmas.Option.{same_Some}
use Rattle.integers.proofs.Absolutes.{natural_not_negative}
use Rattle.integers.proofs.Comparisons.{same_of_both, less_not_at_most}
use Rattle.integers.proofs.Signs.{mul_nonneg, square_nonneg, square_zero}
use Rattle.integers.proofs.Ring.{var, ◌⊖◌, ◌⊗◌, ring}
use Rattle.lattice.specs.declared.points.Corner.{Corner}
use Rattle.lattice.specs.declared.soup.Tri.{Tri}
use Rattle.lattice.specs.Points.{difference}
use Rattle.lattice.specs.Triple.{Triple, dot, cross}
use Rattle.geometry.specs.Faces.{normal}
use Rattle.flip_slivers.specs.Heights.{HasHeight, IsLongest, IsLower, IsRoundedUp, side_square, area_square}
use Rattle.flip_slivers.specs.Flips.{tri, IsRound, IsRise, first_of, second_of}
use Rattle.flip_slivers.proofs.Lengths.{square_not_negative}

-- ---- one height
pub longest_once : (a b c : Corner) (l m : ℤ) → IsLongest a b c l → IsLongest a b c m → l ≡ m
longest_once a b c l m x y = same_of_both l m (at_most l m x y) (at_most m l y x)
  where
    at_most : (l m : ℤ) → IsLongest a b c l → IsLongest a b c m → l ≤ℤ m
    at_most l m x y = let P : ℤ → Type 0 = λ z. z ≤ℤ m in ⊎_elim (λ e. subst P (sym e) y.first) (⊎_elim (λ e. subst P (sym e) y.second) (λ e. subst P (sym e) y.third)) x.one

pub one_height : (corners : List Corner) (t : Tri) (area side area' side' : ℤ) → HasHeight corners t area side → HasHeight corners t area' side' → (area ≡ area') × (side ≡ side')
one_height corners t area side area' side' h k =
    let P : Corner → Type 0 = λ z. IsLongest z k.placed.b k.placed.c side in
    let Q : Corner → Type 0 = λ z. IsLongest h.placed.a z k.placed.c side in
    let R : Corner → Type 0 = λ z. IsLongest h.placed.a h.placed.b z side in (
      h.is_area ∙ ap (λ (z : Corner). area_square z h.placed.b h.placed.c) a ∙ ap (λ (z : Corner). area_square k.placed.a z h.placed.c) b ∙ ap (area_square k.placed.a k.placed.b) c ∙ sym k.is_area,
      longest_once k.placed.a k.placed.b k.placed.c side side' (subst P a (subst Q b (subst R c h.is_side))) k.is_side,
    )
  where
    a : h.placed.a ≡ k.placed.a
    a = same_Some h.placed.a k.placed.a (sym h.placed.at_a ∙ k.placed.at_a)

    b : h.placed.b ≡ k.placed.b
    b = same_Some h.placed.b k.placed.b (sym h.placed.at_b ∙ k.placed.at_b)

    c : h.placed.c ≡ k.placed.c
    c = same_Some h.placed.c k.placed.c (sym h.placed.at_c ∙ k.placed.at_c)

pub rounded_once : (m n : ℕ) (area side : ℤ) → IsRoundedUp m area side → IsRoundedUp n area side → m ≡ n
rounded_once m n area side x y = elim (cases_lt m n) [
  | inl less ↦ absurd (less_not_at_most _ _ (y.least m less) x.enough)
  | inr most ↦ elim (cases_lt n m) [
    | inl less ↦ absurd (less_not_at_most _ _ (x.least n less) y.enough)
    | inr also ↦ omega arith
  ]
]

-- ---- signs
pub area_not_negative : (corners : List Corner) (t : Tri) (area side : ℤ) → HasHeight corners t area side → pos 0 ≤ℤ area
area_not_negative corners t area side h = let P : ℤ → Type 0 = λ z. pos 0 ≤ℤ z in subst P (sym h.is_area) (square_not_negative (normal h.placed.a h.placed.b h.placed.c))

pub side_not_negative : (corners : List Corner) (t : Tri) (area side : ℤ) → HasHeight corners t area side → pos 0 ≤ℤ side
side_not_negative corners t area side h = through _ side (square_not_negative (difference h.placed.a h.placed.b)) h.is_side.first
  where
    through : (a b : ℤ) → pos 0 ≤ℤ a → a ≤ℤ b → pos 0 ≤ℤ b
    through a b h k = omega (arith, ints)

-- ---- no side, no area
parts_zero : (a b c : ℤ) → ((a *ℤ a +ℤ b *ℤ b) +ℤ c *ℤ c) ≤ℤ pos 0 → (a ≡ pos 0) × (b ≡ pos 0) × (c ≡ pos 0)
parts_zero a b c h = let bounds = split (a *ℤ a) (b *ℤ b) (c *ℤ c) (square_nonneg a) (square_nonneg b) (square_nonneg c) h in (square_zero a bounds.0, square_zero b bounds.1, square_zero c bounds.2)
  where
    split : (x y z : ℤ) → pos 0 ≤ℤ x → pos 0 ≤ℤ y → pos 0 ≤ℤ z → ((x +ℤ y) +ℤ z) ≤ℤ pos 0 → (x ≤ℤ pos 0) × (y ≤ℤ pos 0) × (z ≤ℤ pos 0)
    split x y z hx hy hz h = (omega (arith, ints), omega (arith, ints), omega (arith, ints))

cross_zero : (s t : Triple) → (s.x ≡ pos 0) × (s.y ≡ pos 0) × (s.z ≡ pos 0) → dot (cross s t) (cross s t) ≡ pos 0
cross_zero s t (x, y, z) = flat (s.y *ℤ t.z -ℤ s.z *ℤ t.y) (s.z *ℤ t.x -ℤ s.x *ℤ t.z) (s.x *ℤ t.y -ℤ s.y *ℤ t.x) (minor s.y s.z t.z t.y y z) (minor s.z s.x t.x t.z z x) (minor s.x s.y t.y t.x x y)
  where
    minor : (a b c d : ℤ) → a ≡ pos 0 → b ≡ pos 0 → a *ℤ c -ℤ b *ℤ d ≡ pos 0
    minor a b c d e f = let P : ℤ → Type 0 = λ u. u *ℤ c -ℤ b *ℤ d ≡ pos 0 in let Q : ℤ → Type 0 = λ u. pos 0 *ℤ c -ℤ u *ℤ d ≡ pos 0 in subst P (sym e) (subst Q (sym f) (omega (arith, ints)))

    flat : (a b c : ℤ) → a ≡ pos 0 → b ≡ pos 0 → c ≡ pos 0 → (a *ℤ a +ℤ b *ℤ b) +ℤ c *ℤ c ≡ pos 0
    flat a b c e f g =
        let P : ℤ → Type 0 = λ u. (u *ℤ u +ℤ b *ℤ b) +ℤ c *ℤ c ≡ pos 0 in
        let Q : ℤ → Type 0 = λ u. (pos 0 *ℤ pos 0 +ℤ u *ℤ u) +ℤ c *ℤ c ≡ pos 0 in
        let R : ℤ → Type 0 = λ u. (pos 0 *ℤ pos 0 +ℤ pos 0 *ℤ pos 0) +ℤ u *ℤ u ≡ pos 0 in
        subst P (sym e) (subst Q (sym f) (subst R (sym g) refl))

pub no_side_no_area : (corners : List Corner) (t : Tri) (area side : ℕ) → HasHeight corners t (pos area) (pos side) → side ≡ 0 → area ≡ 0
no_side_no_area corners t area side h none =
    let s = difference h.placed.a h.placed.b in
    let P : ℕ → Type 0 = λ n. side_square h.placed.a h.placed.b ≤ℤ pos n in
    let zeros = parts_zero s.x s.y s.z (subst P none h.is_side.first) in
    natural (h.is_area ∙ cross_zero s (difference h.placed.a h.placed.c) zeros)
  where
    natural : pos area ≡ pos 0 → area ≡ 0
    natural e = cc

-- ---- lower heights
pub lower_by : (corners : List Corner) (t u : Tri) (area side area' side' : ℤ) → HasHeight corners t area side → HasHeight corners u area' side' → IsLower corners t u → (area *ℤ side') <ℤ (area' *ℤ side)
lower_by corners t u area side area' side' h k x =
    let first = one_height corners t x.area x.side area side x.height h in
    let second = one_height corners u x.other_area x.other_side area' side' x.other_height k in
    let P : ℤ → Type 0 = λ z. (z *ℤ x.other_side) <ℤ (x.other_area *ℤ x.side) in
    let Q : ℤ → Type 0 = λ z. (area *ℤ z) <ℤ (x.other_area *ℤ x.side) in
    let R : ℤ → Type 0 = λ z. (area *ℤ side') <ℤ (z *ℤ x.side) in
    let S : ℤ → Type 0 = λ z. (area *ℤ side') <ℤ (area' *ℤ z) in
    subst S first.1 (subst R second.0 (subst Q second.1 (subst P first.0 x.less)))

pub lower_as : (corners : List Corner) (t u : Tri) (area side area' side' : ℕ) → HasHeight corners t (pos area) (pos side) → HasHeight corners u (pos area') (pos side')
    → IsLower corners t u → (pos area *ℤ pos side') <ℤ (pos area' *ℤ pos side)
lower_as corners t u area side area' side' = lower_by corners t u (pos area) (pos side) (pos area') (pos side')

-- the products compare only where both have a side
pub less_sides : (area side area' side' : ℕ) → (side' ≡ 0 → area' ≡ 0) → (pos area *ℤ pos side') <ℤ (pos area' *ℤ pos side) → (side ≡ 0) ⊎ (side' ≡ 0) → ⊥
less_sides area side area' side' flat less = ⊎_elim
    (λ none. let P : ℕ → Type 0 = λ n. (pos area *ℤ pos side') <ℤ (pos area' *ℤ pos n) in
    no_less (pos area *ℤ pos side') (pos area') (mul_nonneg (pos area) (pos side') (natural_not_negative area) (natural_not_negative side')) (subst P none less))
    (λ none. let P : ℕ → Type 0 = λ n. (pos area *ℤ pos side') <ℤ (pos n *ℤ pos side) in
    none_less (pos area *ℤ pos side') (pos side) (mul_nonneg (pos area) (pos side') (natural_not_negative area) (natural_not_negative side')) (subst P (flat none) less))
  where
    no_less : (x a : ℤ) → pos 0 ≤ℤ x → x <ℤ (a *ℤ pos 0) → ⊥
    no_less x a h k = omega (arith, ints)

    none_less : (x b : ℤ) → pos 0 ≤ℤ x → x <ℤ (pos 0 *ℤ b) → ⊥
    none_less x b h k = omega (arith, ints)

-- ---- the same from any corner on
pub turned_normal : (a b c : Corner) → area_square b c a ≡ area_square a b c
turned_normal a b c = squares (normal b c a) (normal a b c)
    (minor a.y b.y c.y a.z b.z c.z) (minor a.z b.z c.z a.x b.x c.x) (minor a.x b.x c.x a.y b.y c.y)
  where
    minor : (a b c d e f : ℤ) → (c -ℤ b) *ℤ (d -ℤ e) -ℤ (f -ℤ e) *ℤ (a -ℤ b) ≡ (b -ℤ a) *ℤ (f -ℤ d) -ℤ (e -ℤ d) *ℤ (c -ℤ a)
    minor a b c d e f = ring (a ∷ b ∷ c ∷ d ∷ e ∷ f ∷ [])
        (((var 2 ⊖ var 1) ⊗ (var 3 ⊖ var 4)) ⊖ ((var 5 ⊖ var 4) ⊗ (var 0 ⊖ var 1)))
        (((var 1 ⊖ var 0) ⊗ (var 5 ⊖ var 3)) ⊖ ((var 4 ⊖ var 3) ⊗ (var 2 ⊖ var 0))) refl

    squares : (s t : Triple) → s.x ≡ t.x → s.y ≡ t.y → s.z ≡ t.z → dot s s ≡ dot t t
    squares s t x y z = ap (λ (v : Triple). dot v v) (triple s t x y z)
      where
        triple : (s t : Triple) → s.x ≡ t.x → s.y ≡ t.y → s.z ≡ t.z → s ≡ t
        triple s t x y z = ap (λ (v : ℤ). record { x = v; y = s.y; z = s.z }) x ∙ ap (λ (v : ℤ). record { x = t.x; y = v; z = s.z }) y ∙ ap (λ (v : ℤ). record { x = t.x; y = t.y; z = v }) z

turned_longest : (a b c : Corner) (l : ℤ) → IsLongest a b c l → IsLongest b c a l
turned_longest a b c l x = record {
  one = ⊎_elim (λ e. inr (inr e)) (⊎_elim (λ e. inl e) (λ e. inr (inl e))) x.one;
  first = x.second;
  second = x.third;
  third = x.first;
}

turned_height : (corners : List Corner) (t : Tri) (area side : ℤ) → HasHeight corners t area side → HasHeight corners (tri t.b t.c t.a) area side
turned_height corners t area side h = record {
  placed = record { a = h.placed.b; b = h.placed.c; c = h.placed.a; at_a = h.placed.at_b; at_b = h.placed.at_c; at_c = h.placed.at_a };
  is_area = h.is_area ∙ sym (turned_normal h.placed.a h.placed.b h.placed.c);
  is_side = turned_longest h.placed.a h.placed.b h.placed.c side h.is_side;
}

pub round_height : (corners : List Corner) (t u : Tri) (area side : ℤ) → IsRound t u → HasHeight corners t area side → HasHeight corners u area side
round_height corners t u area side round h = let P : Tri → Type 0 = λ v. HasHeight corners v area side in ⊎_elim
    (λ e. subst P (sym e) h)
    (⊎_elim
    (λ e. subst P (sym e) (turned_height corners t area side h))
    (λ e. subst P (sym e) (turned_height corners (tri t.b t.c t.a) area side (turned_height corners t area side h)))) round

-- lower than a triangle, and than it is from another corner on
lower_round : (corners : List Corner) (s u v : Tri) → IsRound u v → IsLower corners s u → IsLower corners s v
lower_round corners s u v round x = record {
  area = x.area;
  side = x.side;
  other_area = x.other_area;
  other_side = x.other_side;
  height = x.height;
  other_height = round_height corners u v x.other_area x.other_side round x.other_height;
  less = x.less;
}

-- the two triangles on the other diagonal are the same, whichever of the first two is the sliver
pub rise_back : (corners : List Corner) (s t : Tri) (a b c d : ℕ) → IsRise corners s t (first_of a b c d) (second_of a b c d) → IsRise corners t s (first_of b a d c) (second_of b a d c)
rise_back corners s t a b c d = ⊎_elim (λ h. inr (over s h)) (λ h. inl (over t h))
  where
    over : (r : Tri) → IsLower corners r (first_of a b c d) × IsLower corners r (second_of a b c d) → IsLower corners r (first_of b a d c) × IsLower corners r (second_of b a d c)
    over r h = (lower_round corners r (second_of a b c d) (first_of b a d c) (inr (inl refl)) h.1, lower_round corners r (first_of a b c d) (second_of b a d c) (inr (inr refl)) h.0)
