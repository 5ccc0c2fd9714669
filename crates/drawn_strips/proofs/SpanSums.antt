-- The places within a span are the sums of its two ends with positive weights.
use Rattle.std.proofs.Common.{ℕ, zero, suc, ◌+◌, ◌<◌, [], ◌∷◌, refl, arith}
use Rattle.std.specs.Prelude.{ℤ, pos, ◌+ℤ◌, ◌-ℤ◌, ◌*ℤ◌, ◌<ℤ◌, ◌≤ℤ◌}
use Rattle.std.proofs.lemmas.Int.{ints}
use Rattle.integers.proofs.Ring.{var, ◌⊕◌, ◌⊖◌, ◌⊗◌, ring}
use Rattle.integers.proofs.Signs.{mul_nonneg}
use Rattle.integers.proofs.Weighted.{after_first, before_second, at_first, at_second, sum_pos, weights_between}
use Rattle.lattice.specs.Triple.{Triple}
use Rattle.lattice.specs.Points.{Point, OnOneSight}
use Rattle.geometry.specs.Faces.{share_point}
use Rattle.geometry.specs.Parts.{Part, Edge}
use Rattle.lattice.specs.declared.spans.Span.{Span}
use Rattle.geometry.specs.Places.{IsEarlier, IsBetween, HasNoEndAt}
use Rattle.geometry.proofs.Sights.{sight_on}
use Rattle.geometry.proofs.Shares.{one_place}
use Rattle.drawn_strips.proofs.SpanPlaces.{at_most_by, StaysAlong, not_at}

-- on one line of sight with a sum of the span's two ends
abbrev pub LiesWithin : Triple → {s : Part} → Edge s → Span → Point → Type 0
LiesWithin d e x p =
    (i : ℕ) × (j : ℕ) × (0 < i + j)
    × OnOneSight d (share_point e.a e.b ((pos i *ℤ x.from.num) +ℤ (pos j *ℤ x.to.num)) ((pos i *ℤ x.from.den) +ℤ (pos j *ℤ x.to.den))) p

sum_nonneg : (n n' : ℤ) (i j : ℕ) → pos 0 ≤ℤ n → pos 0 ≤ℤ n' → pos 0 ≤ℤ ((pos i *ℤ n) +ℤ (pos j *ℤ n'))
sum_nonneg n n' i j h k = both _ _ (mul_nonneg (pos i) n (omega (arith, ints)) h) (mul_nonneg (pos j) n' (omega (arith, ints)) k)
  where
    both : (x y : ℤ) → pos 0 ≤ℤ x → pos 0 ≤ℤ y → pos 0 ≤ℤ (x +ℤ y)
    both x y p q = omega (arith, ints)

sum_at_most : (n m n' m' : ℤ) (i j : ℕ) → n ≤ℤ m → n' ≤ℤ m' → ((pos i *ℤ n) +ℤ (pos j *ℤ n')) ≤ℤ ((pos i *ℤ m) +ℤ (pos j *ℤ m'))
sum_at_most n m n' m' i j h k =
    at_most_by ((pos i *ℤ n) +ℤ (pos j *ℤ n')) ((pos i *ℤ m) +ℤ (pos j *ℤ m')) ((pos i *ℤ (m -ℤ n)) +ℤ (pos j *ℤ (m' -ℤ n')))
    (ring (n ∷ m ∷ n' ∷ m' ∷ pos i ∷ pos j ∷ [])
    (((var 4 ⊗ var 1) ⊕ (var 5 ⊗ var 3)) ⊖ ((var 4 ⊗ var 0) ⊕ (var 5 ⊗ var 2)))
    ((var 4 ⊗ (var 1 ⊖ var 0)) ⊕ (var 5 ⊗ (var 3 ⊖ var 2))) refl)
    (sum_nonneg (m -ℤ n) (m' -ℤ n') i j (left n m h) (left n' m' k))
  where
    left : (a b : ℤ) → a ≤ℤ b → pos 0 ≤ℤ (b -ℤ a)
    left a b h = omega (arith, ints)

-- a place of the span that is on one line of sight with the point
pub record HasPlace (d : Triple) {s : Part} (e : Edge s) (x : Span) (p : Point) : Type 0 where
  pub n : ℤ
  pub m : ℤ
  pub positive : pos 0 <ℤ m
  pub least : pos 0 ≤ℤ n
  pub most : n ≤ℤ m
  pub within : IsBetween x.from x.to n m
  pub sight : OnOneSight d (share_point e.a e.b n m) p

one_positive : (i : ℕ) → pos 0 <ℤ pos (suc i)
one_positive i = omega (arith, ints)

module _ (d : Triple) {s : Part} (e : Edge s) (x : Span) (p : Point) where
  -- the sum with these weights is this share
  abbrev n_of : ℕ → ℕ → ℤ
  n_of i j = (pos i *ℤ x.from.num) +ℤ (pos j *ℤ x.to.num)

  abbrev m_of : ℕ → ℕ → ℤ
  m_of i j = (pos i *ℤ x.from.den) +ℤ (pos j *ℤ x.to.den)

  -- a sum of the ends that is seen at an ordinary point is a place within the span
  pub place_of_sum : (O : Point → Type 0) → StaysAlong d O → IsEarlier x.from x.to → HasNoEndAt O e x.from x.to → O p → LiesWithin d e x p → HasPlace d e x p
  place_of_sum O stays earlier apart ordinary (i, j, some, sight) = go i j (sum_pos x.from.den x.to.den i j x.from.positive x.to.positive some) sight
    where
      along : (n m : ℤ) → pos 0 <ℤ m → OnOneSight d (share_point e.a e.b n m) p → O (share_point e.a e.b n m)
      along n m h sight = stays p (share_point e.a e.b n m) h sight ordinary

      go : (i j : ℕ) → pos 0 <ℤ m_of i j → OnOneSight d (share_point e.a e.b (n_of i j) (m_of i j)) p → HasPlace d e x p
      go zero j h sight =
          absurd (not_at d O stays e (n_of zero j) (m_of zero j) h (along (n_of zero j) (m_of zero j) h sight) x.to apart.1
          (at_second x.from.num x.from.den x.to.num x.to.den (pos j)))
      go (suc i) zero h sight =
          absurd (not_at d O stays e (n_of (suc i) zero) (m_of (suc i) zero) h (along (n_of (suc i) zero) (m_of (suc i) zero) h sight) x.from apart.0
          (at_first x.from.num x.from.den x.to.num x.to.den (pos (suc i))))
      go (suc i) (suc j) h sight = record {
        n = n_of (suc i) (suc j);
        m = m_of (suc i) (suc j);
        positive = h;
        least = sum_nonneg x.from.num x.to.num (suc i) (suc j) x.from_place.least x.to_place.least;
        most = sum_at_most x.from.num x.from.den x.to.num x.to.den (suc i) (suc j) x.from_place.most x.to_place.most;
        within = (
          after_first x.from.num x.from.den x.to.num x.to.den earlier (pos (suc i)) (pos (suc j)) (one_positive j),
          before_second x.from.num x.from.den x.to.num x.to.den earlier (pos (suc i)) (pos (suc j)) (one_positive i),
        );
        sight = sight;
      }

  -- a place within the span is a sum of its ends
  pub sum_of_place : HasPlace d e x p → LiesWithin d e x p
  sum_of_place h =
      let w = weights_between x.from.num x.from.den x.to.num x.to.den h.n h.m h.within.0 h.within.1 in (
        w.i,
        w.j,
        w.some,
        sight_on d (share_point e.a e.b (n_of w.i w.j) (m_of w.i w.j)) (share_point e.a e.b h.n h.m) p h.positive
            (one_place d e.a e.b (n_of w.i w.j) (m_of w.i w.j) h.n h.m w.same) h.sight,
      )
