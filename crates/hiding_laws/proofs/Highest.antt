-- Among the sides over a spot one is highest.
use Rattle.std.proofs.Common.{◌≡◌, ◌⊎◌, ℕ, zero, suc, ◌<◌, ◌≤◌, inl, inr, [], ◌∷◌, refl, sym, ap, subst, ◌∙◌, arith}
use Rattle.std.specs.Prelude.{ℤ, pos, ◌+ℤ◌, ◌-ℤ◌, ◌*ℤ◌, ◌≤ℤ◌, ◌<ℤ◌}
use Rattle.std.proofs.lemmas.Int.{ints, by_lt_z}
use Rattle.integers.proofs.Comparisons.{positive_at}
use Rattle.hiding_laws.proofs.ScreenSides.{side_from, side_to}
use Rattle.hiding_laws.proofs.Screens.{rest_of, side_lead_of, Screen, turn_of, along_of, length_of, SideCovers}
use Rattle.integers.proofs.Ring.{var, con, ◌⊕◌, ◌⊖◌, ◌⊗◌, ring, by_two, less_by, gap_of_less}
use Rattle.integers.proofs.Signs.{mul_pos, mul_nonneg, pos_of_mul, zero_of_mul}
use Rattle.hiding_laws.proofs.Uprights.{weighed, HighestLaw}
use Rattle.hiding_laws.proofs.Signs.{weak, sum_pos, clash_zero}

-- ---- fractions
-- p/q < r/s and r/s ≤ t/u give p/q < t/u
after_most : (p q r s t u : ℤ) → pos 0 <ℤ q → pos 0 <ℤ s → pos 0 <ℤ u → (p *ℤ s) <ℤ (r *ℤ q) → (r *ℤ u) ≤ℤ (t *ℤ s) → (p *ℤ u) <ℤ (t *ℤ q)
after_most p q r s t u hq hs hu l m =
    less_by _ _ _ refl (pos_of_mul s _ hs (positive_at _ _
    (ring (p ∷ q ∷ r ∷ s ∷ t ∷ u ∷ []) (var 3 ⊗ ((var 4 ⊗ var 1) ⊖ (var 0 ⊗ var 5))) ((var 1 ⊗ ((var 4 ⊗ var 3) ⊖ (var 2 ⊗ var 5))) ⊕ (var 5 ⊗ ((var 2 ⊗ var 1) ⊖ (var 0 ⊗ var 3)))) refl)
    (sum_pos _ _ (mul_nonneg q _ (weak q hq) (gap_weak _ _ m)) (mul_pos u _ hu (gap_of_less _ _ l)))))
  where
    gap_weak : (x y : ℤ) → x ≤ℤ y → pos 0 ≤ℤ (y -ℤ x)
    gap_weak x y h = omega (arith, ints)

after_less : (p q r s t u : ℤ) → pos 0 <ℤ q → pos 0 <ℤ s → pos 0 <ℤ u → (p *ℤ s) <ℤ (r *ℤ q) → (r *ℤ u) <ℤ (t *ℤ s) → (p *ℤ u) <ℤ (t *ℤ q)
after_less p q r s t u hq hs hu l m = after_most p q r s t u hq hs hu l (weaker _ _ m)
  where
    weaker : (x y : ℤ) → x <ℤ y → x ≤ℤ y
    weaker x y h = omega (arith, ints)

-- ---- one side
module _ (a b x : Screen) (x_pos : pos 0 <ℤ x.w) where
  decide_side : (SideCovers a b x → pos 0 <ℤ length_of a b) → SideCovers a b x ⊎ ¬ SideCovers a b x
  decide_side long =
      by_lt_z (pos 0) (length_of a b)
      (λ l. by_lt_z (turn_of x a b) (pos 0) (λ h. inr (λ s. below _ h (side_to a b x s x_pos l).0))
      (λ h. by_lt_z (pos 0) (turn_of x a b) (λ k. inr (λ s. clash_zero _ k (side_to a b x s x_pos l).0))
      (λ k. by_lt_z (along_of a b x) (pos 0) (λ m. inr (λ s. under _ m (side_to a b x s x_pos l).1))
      (λ m. by_lt_z (rest_of a b x) (pos 0) (λ o. inr (λ s. under _ o (side_to a b x s x_pos l).2))
      (λ o. by_lt_z (pos 0) (side_lead_of a b x) (λ p. inl (side_from a b x x_pos l (zero_of _ h k) m o p)) (λ p. inr (λ s. over _ p (side_to a b x s x_pos l).3)))))))
      (λ l. inr (λ s. over _ l (long s)))
    where
      below : (z : ℤ) → z <ℤ pos 0 → z ≡ pos 0 → ⊥
      below z h e = omega (arith, ints)

      under : (z : ℤ) → z <ℤ pos 0 → pos 0 ≤ℤ z → ⊥
      under z h e = omega (arith, ints)

      over : (z : ℤ) → z ≤ℤ pos 0 → pos 0 <ℤ z → ⊥
      over z h e = omega (arith, ints)

      zero_of : (z : ℤ) → pos 0 ≤ℤ z → z ≤ℤ pos 0 → z ≡ pos 0
      zero_of z h e = omega (arith, ints)

  -- the height of its spot, and the sum of the weights
  abbrev top : SideCovers a b x → ℤ
  top v = (v.i *ℤ a.h) +ℤ (v.j *ℤ b.h)

  abbrev size : SideCovers a b x → ℤ
  size v = v.i +ℤ v.j

  -- a side that is not end-on has one spot over x
  module _ (long : pos 0 <ℤ length_of a b) (v w : SideCovers a b x) where
    same_weights : (v.i *ℤ w.j) -ℤ (w.i *ℤ v.j) ≡ pos 0
    same_weights = by_sides (v.i *ℤ w.j -ℤ w.i *ℤ v.j) (flat a.u b.u x.u v.same_u w.same_u) (flat a.v b.v x.v v.same_v w.same_v)
      where
        flat : (p q r : ℤ) → ((v.i *ℤ p) +ℤ (v.j *ℤ q)) *ℤ x.w ≡ r *ℤ (v.i +ℤ v.j) → ((w.i *ℤ p) +ℤ (w.j *ℤ q)) *ℤ x.w ≡ r *ℤ (w.i +ℤ w.j)
            → ((v.i *ℤ w.j) -ℤ (w.i *ℤ v.j)) *ℤ (q -ℤ p) ≡ pos 0
        flat p q r e f =
            zero_of_mul x.w _ x_pos
            (by_two (x.w *ℤ (((v.i *ℤ w.j) -ℤ (w.i *ℤ v.j)) *ℤ (q -ℤ p))) (pos 0) _ _ (pos 0 -ℤ (w.i +ℤ w.j)) _ _ (v.i +ℤ v.j)
            (ring (v.i ∷ v.j ∷ w.i ∷ w.j ∷ p ∷ q ∷ r ∷ x.w ∷ [])
            ((var 7 ⊗ (((var 0 ⊗ var 3) ⊖ (var 2 ⊗ var 1)) ⊗ (var 5 ⊖ var 4))) ⊖ con (pos 0))
            (((((var 0 ⊗ var 4) ⊕ (var 1 ⊗ var 5)) ⊗ var 7 ⊖ (var 6 ⊗ (var 0 ⊕ var 1))) ⊗ (con (pos 0) ⊖ (var 2 ⊕ var 3)))
            ⊕ ((((var 2 ⊗ var 4) ⊕ (var 3 ⊗ var 5)) ⊗ var 7 ⊖ (var 6 ⊗ (var 2 ⊕ var 3))) ⊗ (var 0 ⊕ var 1))) refl) e f)

        by_sides : (d : ℤ) → d *ℤ (b.u -ℤ a.u) ≡ pos 0 → d *ℤ (b.v -ℤ a.v) ≡ pos 0 → d ≡ pos 0
        by_sides d e f =
            zero_of_mul (length_of a b) d long
            (ring (d ∷ a.u ∷ a.v ∷ b.u ∷ b.v ∷ [])
            ((((var 3 ⊖ var 1) ⊗ (var 3 ⊖ var 1)) ⊕ ((var 4 ⊖ var 2) ⊗ (var 4 ⊖ var 2))) ⊗ var 0)
            (((var 0 ⊗ (var 3 ⊖ var 1)) ⊗ (var 3 ⊖ var 1)) ⊕ ((var 0 ⊗ (var 4 ⊖ var 2)) ⊗ (var 4 ⊖ var 2))) refl
            ∙ (λ t. (e t *ℤ (b.u -ℤ a.u)) +ℤ (f t *ℤ (b.v -ℤ a.v)))
            ∙ ring ((b.u -ℤ a.u) ∷ (b.v -ℤ a.v) ∷ []) ((con (pos 0) ⊗ var 0) ⊕ (con (pos 0) ⊗ var 1)) (con (pos 0)) refl)

    same_top : top v *ℤ size w ≡ top w *ℤ size v
    same_top =
        equal _ _ _ (ap (λ z. z *ℤ (a.h -ℤ b.h)) same_weights ∙ none (a.h -ℤ b.h))
        (ring (v.i ∷ v.j ∷ w.i ∷ w.j ∷ a.h ∷ b.h ∷ [])
        ((((var 0 ⊗ var 4) ⊕ (var 1 ⊗ var 5)) ⊗ (var 2 ⊕ var 3)) ⊖ (((var 2 ⊗ var 4) ⊕ (var 3 ⊗ var 5)) ⊗ (var 0 ⊕ var 1)))
        (((var 0 ⊗ var 3) ⊖ (var 2 ⊗ var 1)) ⊗ (var 4 ⊖ var 5)) refl)
      where
        equal : (x y z : ℤ) → z ≡ pos 0 → x -ℤ y ≡ z → x ≡ y
        equal x y z e h = omega (arith, ints)

        none : (z : ℤ) → pos 0 *ℤ z ≡ pos 0
        none z = ring (z ∷ []) (con (pos 0) ⊗ var 0) (con (pos 0)) refl

-- ---- the highest of all
module _ (n : ℕ) (a b : ℕ → Screen) (x : Screen) (x_pos : pos 0 <ℤ x.w) (long : (h : ℕ) → h < n → SideCovers (a h) (b h) x → pos 0 <ℤ length_of (a h) (b h)) where
  abbrev Side : ℕ → Type 0
  Side h = SideCovers (a h) (b h) x

  abbrev H : (h : ℕ) → Side h → ℤ
  H h v = (v.i *ℤ (a h).h) +ℤ (v.j *ℤ (b h).h)

  abbrev S : (h : ℕ) → Side h → ℤ
  S h v = v.i +ℤ v.j

  -- no spot of that side is higher than h's
  abbrev NoHigher : (h : ℕ) → Side h → ℕ → Type 0
  NoHigher h v g = (w : Side g) → (H g w *ℤ S h v) ≤ℤ (H h v *ℤ S g w)

  data Found (m : ℕ) : Type 0 where
    nowhere : ((g : ℕ) → g < m → ¬ Side g) → Found m
    best : (h : ℕ) → h < m → (v : Side h) → ((g : ℕ) → g < m → NoHigher h v g) → Found m

  last : (P : ℕ → Type 0) (m : ℕ) → ((g : ℕ) → g < m → P g) → P m → (g : ℕ) → g < suc m → P g
  last P m all top g l = elim (split g m l) [ inl k ↦ all g k | inr e ↦ subst P (sym e) top ]
    where
      split : (g m : ℕ) → g < suc m → (g < m) ⊎ (g ≡ m)
      split g m l = grind arith

  same_least : (p q : ℤ) → p ≡ q → p ≤ℤ q
  same_least p q e = omega (arith, ints)

  not_less : (p q : ℤ) → ¬ (p <ℤ q) → q ≤ℤ p
  not_less p q n = by_lt_z p q (λ h. absurd (n h)) (λ h. h)

  clash : (p q : ℤ) → p <ℤ q → q ≤ℤ p → ⊥
  clash p q l h = omega (arith, ints)

  search_to : (m : ℕ) → m ≤ n → Found m
  search_to zero l = nowhere (λ g k. absurd (omega arith))
  search_to (suc m) l =
      let in_range : m < n = omega arith in
      next (search_to m (omega arith)) (decide_side (a m) (b m) x x_pos (long m in_range)) in_range
    where
      own : (m < n) → (v : Side m) → NoHigher m v m
      own k v w = same_least _ _ (same_top (a m) (b m) x x_pos (long m k v) w v)

      next : Found m → Side m ⊎ ¬ Side m → m < n → Found (suc m)
      next (nowhere none) (inr missing) k = nowhere (last (λ g. ¬ Side g) m none missing)
      next (nowhere none) (inl v) k = best m (omega arith) v (last (NoHigher m v) m (λ g i w. absurd (none g i w)) (own k v))
      next (best h i u most) (inr missing) k = best h (omega arith) u (last (NoHigher h u) m most (λ w. absurd (missing w)))
      next (best h i u most) (inl v) k =
          by_lt_z (H h u *ℤ S m v) (H m v *ℤ S h u)
          (λ less. best m (omega arith) v (last (NoHigher m v) m
          (λ g l w. not_less _ _ (λ over. clash _ _ (after_less (H h u) (S h u) (H m v) (S m v) (H g w) (S g w) u.some v.some w.some less over) (most g l w))) (own k v)))
          (λ least. best h (omega arith) u (last (NoHigher h u) m most
          (λ w. not_less _ _ (λ over. clash _ _ (after_most (H h u) (S h u) (H m w) (S m w) (H m v) (S m v) u.some w.some v.some over (own k v w)) least))))

-- a side over a spot of another is over x too, where the other is
module _ (a b c d x : Screen) (v : SideCovers a b x) (s : SideCovers c d (weighed a b v.i v.j)) (x_pos : pos 0 <ℤ x.w) where
  same : (p q r t u : ℤ) → ((s.i *ℤ r) +ℤ (s.j *ℤ t)) *ℤ (v.i +ℤ v.j) ≡ ((v.i *ℤ p) +ℤ (v.j *ℤ q)) *ℤ (s.i +ℤ s.j) → ((v.i *ℤ p) +ℤ (v.j *ℤ q)) *ℤ x.w ≡ u *ℤ (v.i +ℤ v.j)
      → ((s.i *ℤ r) +ℤ (s.j *ℤ t)) *ℤ x.w ≡ u *ℤ (s.i +ℤ s.j)
  same p q r t u e f =
      equal _ _ (zero_of_mul (v.i +ℤ v.j) _ v.some
      (by_two ((v.i +ℤ v.j) *ℤ ((((s.i *ℤ r) +ℤ (s.j *ℤ t)) *ℤ x.w) -ℤ (u *ℤ (s.i +ℤ s.j)))) (pos 0) _ _ x.w _ _ (s.i +ℤ s.j)
      (ring (v.i ∷ v.j ∷ s.i ∷ s.j ∷ p ∷ q ∷ r ∷ t ∷ u ∷ x.w ∷ [])
      (((var 0 ⊕ var 1) ⊗ ((((var 2 ⊗ var 6) ⊕ (var 3 ⊗ var 7)) ⊗ var 9) ⊖ (var 8 ⊗ (var 2 ⊕ var 3)))) ⊖ con (pos 0))
      ((((((var 2 ⊗ var 6) ⊕ (var 3 ⊗ var 7)) ⊗ (var 0 ⊕ var 1)) ⊖ (((var 0 ⊗ var 4) ⊕ (var 1 ⊗ var 5)) ⊗ (var 2 ⊕ var 3))) ⊗ var 9)
      ⊕ (((((var 0 ⊗ var 4) ⊕ (var 1 ⊗ var 5)) ⊗ var 9) ⊖ (var 8 ⊗ (var 0 ⊕ var 1))) ⊗ (var 2 ⊕ var 3))) refl) e f))
    where
      equal : (x y : ℤ) → x -ℤ y ≡ pos 0 → x ≡ y
      equal x y e = omega (arith, ints)

  abbrev over_too : SideCovers c d x
  over_too = record {
    i = s.i;
    j = s.j;
    i_least = s.i_least;
    j_least = s.j_least;
    some = s.some;
    same_u = same a.u b.u c.u d.u x.u s.same_u v.same_u;
    same_v = same a.v b.v c.v d.v x.v s.same_v v.same_v;
    nearer = after_less x.h x.w ((v.i *ℤ a.h) +ℤ (v.j *ℤ b.h)) (v.i +ℤ v.j) ((s.i *ℤ c.h) +ℤ (s.j *ℤ d.h)) (s.i +ℤ s.j) x_pos v.some s.some v.nearer s.nearer;
  }

pub highest : HighestLaw
highest n a b x x_pos long h l v = elim (search_to n a b x x_pos long n (omega arith)) [
  | nowhere none ↦ absurd (none h l v)
  | best g k u most ↦ (g, k, u, λ f m s. clash n a b x x_pos long _ _ s.nearer (most f m (over_too (a g) (b g) (a f) (b f) x u s x_pos)))
]
