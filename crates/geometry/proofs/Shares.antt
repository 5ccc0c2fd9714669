-- Points of an edge by their shares: which are on one line of sight, and sums of two of them.
use Rattle.std.proofs.Common.{◌≡◌, ℕ, ◌+◌, List, [], ◌∷◌, refl, ◌∙◌, arith}
use Rattle.std.specs.Prelude.{ℤ, pos, ◌+ℤ◌, ◌-ℤ◌, ◌*ℤ◌, ◌<ℤ◌}
use Rattle.std.proofs.lemmas.Int.{ints}
use Rattle.integers.proofs.Comparisons.{sum_exchanged}
use Rattle.integers.proofs.Ring.{Expr, var, con, ◌⊕◌, ◌⊖◌, ◌⊗◌, ring, by_one, gap_of_less, same_of_gap}
use Rattle.integers.proofs.Signs.{zero_of_mul}
use Rattle.lattice.specs.declared.points.Corner.{Corner}
use Rattle.lattice.specs.declared.points.Spot.{Spot}
use Rattle.lattice.specs.Triple.{Triple, dot, right_axis, up_axis}
use Rattle.lattice.specs.Points.{Point, of_spot, point_of, scaled, OnOneSight}
use Rattle.lattice.proofs.Vectors.{Letters, letters, dots}
use Rattle.geometry.specs.Faces.{share_point, edge_sum}
use Rattle.geometry.specs.Pieces.{spot_sum}

-- ---- a product with the point at a share
abbrev values : Triple → Corner → Corner → ℤ → ℤ → ℤ → ℤ → List ℤ
values r a b n m n' m' = r.x ∷ r.y ∷ r.z ∷ a.x ∷ a.y ∷ a.z ∷ b.x ∷ b.y ∷ b.z ∷ n ∷ m ∷ n' ∷ m' ∷ []

abbrev R : Letters
R = letters 0

abbrev A : Letters
A = letters 3

abbrev B : Letters
B = letters 6

abbrev shared : Expr → Expr → Letters
shared n m = record {
  x = ((m ⊖ n) ⊗ A.x) ⊕ (n ⊗ B.x);
  y = ((m ⊖ n) ⊗ A.y) ⊕ (n ⊗ B.y);
  z = ((m ⊖ n) ⊗ A.z) ⊕ (n ⊗ B.z);
}

module _ (r : Triple) (a b : Corner) (n m n' m' : ℤ) where
  -- the gap of two shares, and the step from a to b
  gap : (dot r (scaled (share_point a b n m)) *ℤ m') -ℤ (dot r (scaled (share_point a b n' m')) *ℤ m)
      ≡ ((n *ℤ m') -ℤ (n' *ℤ m)) *ℤ (dot r (scaled (point_of b)) -ℤ dot r (scaled (point_of a)))
  gap = ring (values r a b n m n' m')
      ((dots R (shared (var 9) (var 10)) ⊗ var 12) ⊖ (dots R (shared (var 11) (var 12)) ⊗ var 10))
      (((var 9 ⊗ var 12) ⊖ (var 11 ⊗ var 10)) ⊗ (dots R B ⊖ dots R A)) refl

  same_product : n *ℤ m' ≡ n' *ℤ m → dot r (scaled (share_point a b n m)) *ℤ m' ≡ dot r (scaled (share_point a b n' m')) *ℤ m
  same_product same = by_one _ _ (n *ℤ m') (n' *ℤ m) (dot r (scaled (point_of b)) -ℤ dot r (scaled (point_of a))) gap same

  same_ends : (n *ℤ m') <ℤ (n' *ℤ m) → dot r (scaled (share_point a b n m)) *ℤ m' ≡ dot r (scaled (share_point a b n' m')) *ℤ m
      → dot r (scaled (point_of a)) *ℤ pos 1 ≡ dot r (scaled (point_of b)) *ℤ pos 1
  same_ends less same = go (dot r (scaled (point_of a))) (dot r (scaled (point_of b))) (n *ℤ m') (n' *ℤ m) _ _ gap (gap_of_less (n *ℤ m') (n' *ℤ m) less) same
    where
      turn : (x y p q : ℤ) → (q -ℤ p) *ℤ ((x *ℤ pos 1) -ℤ (y *ℤ pos 1)) ≡ (p -ℤ q) *ℤ (y -ℤ x)
      turn x y p q = ring (x ∷ y ∷ p ∷ q ∷ []) ((var 3 ⊖ var 2) ⊗ ((var 0 ⊗ con (pos 1)) ⊖ (var 1 ⊗ con (pos 1)))) ((var 2 ⊖ var 3) ⊗ (var 1 ⊖ var 0)) refl

      none : (k l z : ℤ) → k -ℤ l ≡ z → k ≡ l → z ≡ pos 0
      none k l z e h = omega (arith, ints)

      go : (x y p q k l : ℤ) → k -ℤ l ≡ (p -ℤ q) *ℤ (y -ℤ x) → pos 0 <ℤ (q -ℤ p) → k ≡ l → x *ℤ pos 1 ≡ y *ℤ pos 1
      go x y p q k l e positive h = same_of_gap (x *ℤ pos 1) (y *ℤ pos 1) (zero_of_mul (q -ℤ p) _ positive (turn x y p q ∙ none k l _ e h))

module _ (d : Triple) (a b : Corner) (n m n' m' : ℤ) where
  -- shares of one value are on one line of sight
  pub one_place : n *ℤ m' ≡ n' *ℤ m → OnOneSight d (share_point a b n m) (share_point a b n' m')
  one_place same = record { across = same_product (right_axis d) a b n m n' m' same; upward = same_product (up_axis d) a b n m n' m' same }

  -- two different shares on one line of sight: so are the ends
  pub end_on : (n *ℤ m') <ℤ (n' *ℤ m) → OnOneSight d (share_point a b n m) (share_point a b n' m') → OnOneSight d (point_of a) (point_of b)
  end_on less h = record { across = same_ends (right_axis d) a b n m n' m' less h.across; upward = same_ends (up_axis d) a b n m n' m' less h.upward }

-- ---- sums
abbrev point_sum : Point → Point → ℕ → ℕ → Point
point_sum p q i j = record {
  x = (pos i *ℤ p.x) +ℤ (pos j *ℤ q.x);
  y = (pos i *ℤ p.y) +ℤ (pos j *ℤ q.y);
  z = (pos i *ℤ p.z) +ℤ (pos j *ℤ q.z);
  w = (pos i *ℤ p.w) +ℤ (pos j *ℤ q.w);
}

-- the sum of two spots of an edge with whole weights
pub sum_is : (a b : Corner) (n m n' m' : ℤ) (i j : ℕ) (p q : Spot) → of_spot p ≡ share_point a b n m → of_spot q ≡ share_point a b n' m'
    → spot_sum p q i j ≡ share_point a b ((pos i *ℤ n) +ℤ (pos j *ℤ n')) ((pos i *ℤ m) +ℤ (pos j *ℤ m'))
sum_is a b n m n' m' i j p q is_p is_q =
    (λ k. point_sum (is_p k) (is_q k) i j)
    ∙ (λ k. record { x = mixed (pos i) (pos j) a.x b.x k; y = mixed (pos i) (pos j) a.y b.y k; z = mixed (pos i) (pos j) a.z b.z k; w = (pos i *ℤ m) +ℤ (pos j *ℤ m') })
  where
    mixed : (i j x y : ℤ) → (i *ℤ (((m -ℤ n) *ℤ x) +ℤ (n *ℤ y))) +ℤ (j *ℤ (((m' -ℤ n') *ℤ x) +ℤ (n' *ℤ y)))
        ≡ ((((i *ℤ m) +ℤ (j *ℤ m')) -ℤ ((i *ℤ n) +ℤ (j *ℤ n'))) *ℤ x) +ℤ (((i *ℤ n) +ℤ (j *ℤ n')) *ℤ y)
    mixed i j x y = ring (i ∷ j ∷ x ∷ y ∷ n ∷ m ∷ n' ∷ m' ∷ [])
        ((var 0 ⊗ (((var 5 ⊖ var 4) ⊗ var 2) ⊕ (var 4 ⊗ var 3))) ⊕ (var 1 ⊗ (((var 7 ⊖ var 6) ⊗ var 2) ⊕ (var 6 ⊗ var 3))))
        (((((var 0 ⊗ var 5) ⊕ (var 1 ⊗ var 7)) ⊖ ((var 0 ⊗ var 4) ⊕ (var 1 ⊗ var 6))) ⊗ var 2) ⊕ (((var 0 ⊗ var 4) ⊕ (var 1 ⊗ var 6)) ⊗ var 3)) refl

pub sum_turned : (p q : Spot) (i j : ℕ) → spot_sum p q i j ≡ spot_sum q p j i
sum_turned p q i j k = record {
  x = sum_exchanged (pos i *ℤ p.x) (pos j *ℤ q.x) k;
  y = sum_exchanged (pos i *ℤ p.y) (pos j *ℤ q.y) k;
  z = sum_exchanged (pos i *ℤ p.z) (pos j *ℤ q.z) k;
  w = sum_exchanged (pos i *ℤ p.w) (pos j *ℤ q.w) k;
}

pub edge_turned : (a b : Corner) (i j : ℕ) → edge_sum a b i j ≡ edge_sum b a j i
edge_turned a b i j k = record {
  x = sum_exchanged (pos i *ℤ a.x) (pos j *ℤ b.x) k;
  y = sum_exchanged (pos i *ℤ a.y) (pos j *ℤ b.y) k;
  z = sum_exchanged (pos i *ℤ a.z) (pos j *ℤ b.z) k;
  w = pos (swap i j k);
}
  where
    swap : (i j : ℕ) → i + j ≡ j + i
    swap i j = omega arith

-- the sum of the two ends is a share
pub edge_share : (a b : Corner) (i j : ℕ) → edge_sum a b i j ≡ share_point a b (pos j) (pos (i + j))
edge_share a b i j k = record {
  x = (left i j k *ℤ a.x) +ℤ (pos j *ℤ b.x);
  y = (left i j k *ℤ a.y) +ℤ (pos j *ℤ b.y);
  z = (left i j k *ℤ a.z) +ℤ (pos j *ℤ b.z);
  w = pos (i + j);
}
  where
    left : (i j : ℕ) → pos i ≡ pos (i + j) -ℤ pos j
    left i j = omega (arith, ints)
