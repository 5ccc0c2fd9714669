-- A point of an edge that is at no end of its spans is strictly within one of them. What points are at no end is what a view takes for ordinary.
use Rattle.std.proofs.Common.{◌≡◌, zero, suc, List, [], ◌∷◌, Contains, refl, sym, subst, ◌∙◌, arith}
use Rattle.std.specs.Prelude.{ℤ, pos, ◌-ℤ◌, ◌*ℤ◌, ◌<ℤ◌, ◌≤ℤ◌}
use Rattle.std.proofs.lemmas.Int.{ints, by_lt_z}
use Rattle.integers.proofs.Lists.{Contains-later}
use Rattle.integers.proofs.Ring.{var, ◌⊖◌, ◌⊗◌, ring}
use Rattle.integers.proofs.Signs.{mul_nonneg}
use Rattle.exact_frac.specs.declared.Frac.{Frac}
use Rattle.lattice.specs.Triple.{Triple}
use Rattle.lattice.specs.Points.{Point, IsPoint, OnOneSight}
use Rattle.geometry.specs.Faces.{share_point}
use Rattle.geometry.specs.Parts.{Part, Edge}
use Rattle.line_merge.proofs.Lists.{contains_first}
use Rattle.lattice.specs.declared.spans.Span.{Span}
use Rattle.geometry.specs.Places.{IsPlace, point_at, IsEarlier, IsBetween, HasNoEndAt}
use Rattle.geometry.specs.Spans.{Follow, CoverEdge}
use Rattle.geometry.proofs.PlaceOrder.{less_less, less_most, between_inner}
use Rattle.geometry.proofs.SamePlaces.{same_between, same_earlier}
use Rattle.geometry.proofs.Shares.{one_place}
use Rattle.integers.proofs.Comparisons.{less_not_at_most}

-- ---- orders
equal_of : (a b : ℤ) → b ≤ℤ a → a ≤ℤ b → a ≡ b
equal_of a b h k = omega (arith, ints)

pub at_most_by : (x y z : ℤ) → y -ℤ x ≡ z → pos 0 ≤ℤ z → x ≤ℤ y
at_most_by x y z e h = omega (arith, ints)

pub weak : (x y : ℤ) → x <ℤ y → x ≤ℤ y
weak x y h = omega (arith, ints)

-- each span of a chain begins before it ends
pub earlier_in : (from to : Frac) (spans : List Span) → Follow from spans to → (x : Span) → Contains spans x → IsEarlier x.from x.to
earlier_in from to [] h x (k, within, is) = absurd (omega arith)
earlier_in from to (y ∷ ys) (same, earlier, later) x (zero, within, is) = subst (λ (z : Span). IsEarlier z.from z.to) is earlier
earlier_in from to (y ∷ ys) (same, earlier, later) x (suc k, within, is) = earlier_in y.to to ys later x (k, omega arith, is)

-- and is within the chain
module _ (n m : ℤ) (positive : pos 0 <ℤ m) where
  before_chain : (from to : Frac) (spans : List Span) → Follow from spans to → (n *ℤ from.den) <ℤ (from.num *ℤ m) → (n *ℤ to.den) <ℤ (to.num *ℤ m)
  before_chain from to [] same before = subst (λ (k : ℤ). (n *ℤ to.den) <ℤ (k *ℤ m)) same.0 (subst (λ (k : ℤ). (n *ℤ k) <ℤ (from.num *ℤ m)) same.1 before)
  before_chain from to (x ∷ xs) (same, earlier, later) before =
      before_chain x.to to xs later
      (less_less n m from.num from.den x.to.num x.to.den positive from.positive x.to.positive before (same_earlier x.from x.to from x.to same (refl, refl) earlier))

  pub between_chain : (from to : Frac) (spans : List Span) → Follow from spans to → (x : Span) → Contains spans x → IsBetween x.from x.to n m → IsBetween from to n m
  between_chain from to [] h x (k, within, is) between = absurd (omega arith)
  between_chain from to (y ∷ ys) (same, earlier, later) x (zero, within, is) between =
      let here = same_between y.from y.to from y.to n m same (refl, refl) (subst (λ (z : Span). IsBetween z.from z.to n m) (sym is) between) in
      (here.0, before_chain y.to to ys later here.1)
  between_chain from to (y ∷ ys) (same, earlier, later) x (suc k, within, is) between =
      let there = between_chain y.to to ys later x (k, omega arith, is) between in
      (less_less from.num from.den y.to.num y.to.den n m from.positive y.to.positive positive (same_earlier y.from y.to from y.to same (refl, refl) earlier) there.0, there.1)

-- strictly between two places of an edge is within the edge
pub inner_of_between : (from to : Frac) (n m : ℤ) → pos 0 <ℤ m → IsPlace from → IsPlace to → IsBetween from to n m → (pos 0 <ℤ n) × (n <ℤ m)
inner_of_between from to n m positive first second between =
    (between_inner from to n m positive between first.least, below_one n m to.num to.den positive to.positive second.most between.1)
  where
    weak_once : (f g : ℤ) → f ≤ℤ g → (f *ℤ pos 1) ≤ℤ (pos 1 *ℤ g)
    weak_once f g h = omega (arith, ints)

    below : (n m : ℤ) → (n *ℤ pos 1) <ℤ (pos 1 *ℤ m) → n <ℤ m
    below n m h = omega (arith, ints)

    below_one : (n m f g : ℤ) → pos 0 <ℤ m → pos 0 <ℤ g → f ≤ℤ g → (n *ℤ g) <ℤ (f *ℤ m) → n <ℤ m
    below_one n m f g up g_up most h = below n m (less_most n m f g (pos 1) (pos 1) up g_up (omega (arith, ints)) h (weak_once f g most))

-- ---- from a place to its span
-- what is so of a point is so along its line of sight
abbrev pub StaysAlong : Triple → (Point → Type 0) → Type 0
StaysAlong d O = (p q : Point) → IsPoint q → OnOneSight d q p → O p → O q

module _ (d : Triple) (O : Point → Type 0) (along : StaysAlong d O) {s : Part} (e : Edge s) (n m : ℤ) (positive : pos 0 <ℤ m) (ordinary : O (share_point e.a e.b n m)) where
  -- an ordinary point is at no end
  pub not_at : (r : Frac) → ¬ O (point_at e r) → r.num *ℤ m ≡ n *ℤ r.den → ⊥
  not_at r apart same = apart (along (share_point e.a e.b n m) (point_at e r) r.positive (one_place d e.a e.b r.num r.den n m same) ordinary)

  pub find : (from to : Frac) (spans : List Span) → Follow from spans to → ((x : Span) → Contains spans x → HasNoEndAt O e x.from x.to)
      → (from.num *ℤ m) <ℤ (n *ℤ from.den) → (n *ℤ to.den) ≤ℤ (to.num *ℤ m) → (x : Span) × Contains spans x × IsBetween x.from x.to n m
  find from to [] same apart after before =
      absurd (less_not_at_most (from.num *ℤ m) (n *ℤ from.den) after
      (subst (λ (k : ℤ). (n *ℤ from.den) ≤ℤ (k *ℤ m)) (sym same.0) (subst (λ (k : ℤ). (n *ℤ k) ≤ℤ (to.num *ℤ m)) (sym same.1) before)))
  find from to (x ∷ xs) (same, earlier, later) apart after before =
      by_lt_z (n *ℤ x.to.den) (x.to.num *ℤ m)
      (λ within. (
        x,
        contains_first xs x,
        (subst (λ (k : ℤ). (k *ℤ m) <ℤ (n *ℤ x.from.den)) (sym same.0) (subst (λ (k : ℤ). (from.num *ℤ m) <ℤ (n *ℤ k)) (sym same.1) after), within),
      ))
      (λ past. by_lt_z (x.to.num *ℤ m) (n *ℤ x.to.den)
      (λ beyond. let (y, c, between) = find x.to to xs later (λ y c. apart y (Contains-later x xs y c)) beyond before in (y, Contains-later x xs y c, between))
      (λ not_past. absurd (not_at x.to (apart x (contains_first xs x)).1 (equal_of (x.to.num *ℤ m) (n *ℤ x.to.den) not_past past))))

  -- the share is at most 1
  before_end : (t : ℤ) → pos 0 <ℤ t → n ≤ℤ m → (n *ℤ t) ≤ℤ (t *ℤ m)
  before_end t h most =
      at_most_by (n *ℤ t) (t *ℤ m) ((m -ℤ n) *ℤ t) (ring (n ∷ m ∷ t ∷ []) ((var 2 ⊗ var 1) ⊖ (var 0 ⊗ var 2)) ((var 1 ⊖ var 0) ⊗ var 2) refl)
      (mul_nonneg (m -ℤ n) t (left n m most) (weak (pos 0) t h))
    where
      left : (n m : ℤ) → n ≤ℤ m → pos 0 ≤ℤ (m -ℤ n)
      left n m h = omega (arith, ints)

  -- a share of at least 0 that isn't past 0 is 0
  at_start : (f g : ℤ) → f ≡ pos 0 → pos 0 <ℤ g → pos 0 ≤ℤ n → (n *ℤ g) ≤ℤ (f *ℤ m) → f *ℤ m ≡ n *ℤ g
  at_start f g zero_is h least k = equal_of (f *ℤ m) (n *ℤ g) k (subst (λ (z : ℤ). z ≤ℤ (n *ℤ g)) (sym none) (mul_nonneg n g least (weak (pos 0) g h)))
    where
      times_zero : (m : ℤ) → pos 0 *ℤ m ≡ pos 0
      times_zero m = omega (arith, ints)

      none : f *ℤ m ≡ pos 0
      none = (λ i. zero_is i *ℤ m) ∙ times_zero m

  -- in spans of the whole edge
  pub span_of_place : pos 0 ≤ℤ n → n ≤ℤ m → (spans : List Span) → CoverEdge spans → ((x : Span) → Contains spans x → HasNoEndAt O e x.from x.to) → (x : Span) × Contains spans x × IsBetween x.from x.to n m
  span_of_place least most = go
    where
      no_length : (k : ℤ) → pos 0 <ℤ k → k ≡ pos 0 → ⊥
      no_length k h e = omega (arith, ints)

      go : (spans : List Span) → CoverEdge spans → ((x : Span) → Contains spans x → HasNoEndAt O e x.from x.to) → (x : Span) × Contains spans x × IsBetween x.from x.to n m
      go [] (from, to, zero_is, one_is, same) apart = absurd (no_length to.den to.positive (sym one_is ∙ sym same.0 ∙ zero_is))
      go (x ∷ xs) (from, to, zero_is, one_is, follow) apart =
          by_lt_z (from.num *ℤ m) (n *ℤ from.den)
          (λ after. find from to (x ∷ xs) follow apart after (subst (λ (k : ℤ). (n *ℤ to.den) ≤ℤ (k *ℤ m)) (sym one_is) (before_end to.den to.positive most)))
          (λ not_after. absurd (not_at x.from (apart x (contains_first xs x)).0
          ((λ i. follow.0.0 i *ℤ m) ∙ at_start from.num from.den zero_is from.positive least not_after ∙ (λ i. n *ℤ sym follow.0.1 i))))
