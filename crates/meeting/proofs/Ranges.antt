-- Ranges that have a common number, by their ends, and the ranges of edges and triangles.
use Rattle.std.proofs.Common.{◌≡◌, ◌⊎◌, inl, inr, sym, subst, arith}
use Rattle.std.specs.Prelude.{◌↔◌, ℤ, ◌≤ℤ◌}
use Rattle.std.specs.Int.{int_min, int_max}
use Rattle.std.proofs.lemmas.Int.{ints, clamps, by_lt_z}
use Rattle.integers.proofs.Comparisons.{at_most_of_less, at_most_itself}
use Rattle.meeting.specs.declared.range.Range.{Range}
use Rattle.meeting.specs.Ranges.{RangesMeet, IsEdgeRange, IsTriangleRange}
use Rattle.meeting.specs.Boxes.{CoordinatesMeet}

pub ends_meet : (r s : Range) → r.from ≤ℤ s.to → s.from ≤ℤ r.to → RangesMeet r s
ends_meet r s h k =
    by_lt_z r.from s.from
    (λ less. record { number = s.from; first = record { from = at_most_of_less r.from s.from less; to = k }; second = record { from = at_most_itself s.from; to = s.ordered } })
    (λ more. record { number = r.from; first = record { from = at_most_itself r.from; to = r.ordered }; second = record { from = more; to = h } })

pub meeting_ends : (r s : Range) → RangesMeet r s → (r.from ≤ℤ s.to) × (s.from ≤ℤ r.to)
meeting_ends r s h = (through h.first.from h.second.to, through h.second.from h.first.to)
  where
    through : {x y z : ℤ} → x ≤ℤ y → y ≤ℤ z → x ≤ℤ z
    through {x} {y} {z} h k = omega (arith, ints)

-- ---- the numbers from a lesser of two on, and up to a greater
from_lesser : (x y n : ℤ) → int_min x y ≤ℤ n → (x ≤ℤ n) ⊎ (y ≤ℤ n)
from_lesser x y n h = by_lt_z n x (λ k. inr (omega (arith, ints, clamps))) (λ k. inl k)

lesser_from : (x y n : ℤ) → (x ≤ℤ n) ⊎ (y ≤ℤ n) → int_min x y ≤ℤ n
lesser_from x y n (inl h) = omega (arith, ints, clamps)
lesser_from x y n (inr h) = omega (arith, ints, clamps)

to_greater : (x y n : ℤ) → n ≤ℤ int_max x y → (n ≤ℤ x) ⊎ (n ≤ℤ y)
to_greater x y n h = by_lt_z x n (λ k. inr (omega (arith, ints, clamps))) (λ k. inl k)

greater_to : (x y n : ℤ) → (n ≤ℤ x) ⊎ (n ≤ℤ y) → n ≤ℤ int_max x y
greater_to x y n (inl h) = omega (arith, ints, clamps)
greater_to x y n (inr h) = omega (arith, ints, clamps)

-- ---- the same of three
from_least : (x y z n : ℤ) → int_min (int_min x y) z ≤ℤ n → (x ≤ℤ n) ⊎ (y ≤ℤ n) ⊎ (z ≤ℤ n)
from_least x y z n h = elim (from_lesser (int_min x y) z n h) [
  | inl k ↦ elim (from_lesser x y n k) [ inl l ↦ inl l | inr l ↦ inr (inl l) ]
  | inr k ↦ inr (inr k)
]

least_from : (x y z n : ℤ) → (x ≤ℤ n) ⊎ (y ≤ℤ n) ⊎ (z ≤ℤ n) → int_min (int_min x y) z ≤ℤ n
least_from x y z n (inl h) = lesser_from (int_min x y) z n (inl (lesser_from x y n (inl h)))
least_from x y z n (inr (inl h)) = lesser_from (int_min x y) z n (inl (lesser_from x y n (inr h)))
least_from x y z n (inr (inr h)) = lesser_from (int_min x y) z n (inr h)

to_greatest : (x y z n : ℤ) → n ≤ℤ int_max (int_max x y) z → (n ≤ℤ x) ⊎ (n ≤ℤ y) ⊎ (n ≤ℤ z)
to_greatest x y z n h = elim (to_greater (int_max x y) z n h) [
  | inl k ↦ elim (to_greater x y n k) [ inl l ↦ inl l | inr l ↦ inr (inl l) ]
  | inr k ↦ inr (inr k)
]

greatest_to : (x y z n : ℤ) → (n ≤ℤ x) ⊎ (n ≤ℤ y) ⊎ (n ≤ℤ z) → n ≤ℤ int_max (int_max x y) z
greatest_to x y z n (inl h) = greater_to (int_max x y) z n (inl (greater_to x y n (inl h)))
greatest_to x y z n (inr (inl h)) = greater_to (int_max x y) z n (inl (greater_to x y n (inr h)))
greatest_to x y z n (inr (inr h)) = greater_to (int_max x y) z n (inr h)

-- a lesser end that is no further than a greater
pub coordinates-by-ends : (a b c p q : ℤ) → int_min p q ≤ℤ int_max (int_max a b) c → int_min (int_min a b) c ≤ℤ int_max p q → CoordinatesMeet a b c p q
coordinates-by-ends a b c p q h k = by_lt_z (int_min p q) (int_min (int_min a b) c)
    (λ less. record {
      number = int_min (int_min a b) c;
      face_from = from_least a b c _ (at_most_itself _);
      face_to = to_greatest a b c _ (least_greatest a b c);
      edge_from = from_lesser p q _ (at_most_of_less _ _ less);
      edge_to = to_greater p q _ k;
    })
    (λ more. record {
      number = int_min p q;
      face_from = from_least a b c _ more;
      face_to = to_greatest a b c _ h;
      edge_from = from_lesser p q _ (at_most_itself _);
      edge_to = to_greater p q _ (lesser_greater p q);
    })
  where
    lesser_greater : (x y : ℤ) → int_min x y ≤ℤ int_max x y
    lesser_greater x y = omega (arith, ints, clamps)

    least_greatest : (x y z : ℤ) → int_min (int_min x y) z ≤ℤ int_max (int_max x y) z
    least_greatest x y z = omega (arith, ints, clamps)

module _ (a b c p q : ℤ) (t e : Range) (triangle : IsTriangleRange a b c t) (edge : IsEdgeRange p q e) where
  pub coordinates-by-ranges : RangesMeet t e ↔ CoordinatesMeet a b c p q
  coordinates-by-ranges = (to, from)
    where
      at_most : (n : ℤ) {x y : ℤ} → x ≡ y → x ≤ℤ n → y ≤ℤ n
      at_most n e h = subst (λ (z : ℤ). z ≤ℤ n) e h

      at_least : (n : ℤ) {x y : ℤ} → x ≡ y → n ≤ℤ x → n ≤ℤ y
      at_least n e h = subst (λ (z : ℤ). n ≤ℤ z) e h

      to : RangesMeet t e → CoordinatesMeet a b c p q
      to h = record {
        number = h.number;
        face_from = from_least a b c h.number (at_most h.number triangle.from h.first.from);
        face_to = to_greatest a b c h.number (at_least h.number triangle.to h.first.to);
        edge_from = from_lesser p q h.number (at_most h.number edge.from h.second.from);
        edge_to = to_greater p q h.number (at_least h.number edge.to h.second.to);
      }

      from : CoordinatesMeet a b c p q → RangesMeet t e
      from h = record {
        number = h.number;
        first = record {
          from = at_most h.number (sym triangle.from) (least_from a b c h.number h.face_from);
          to = at_least h.number (sym triangle.to) (greatest_to a b c h.number h.face_to);
        };
        second = record {
          from = at_most h.number (sym edge.from) (lesser_from p q h.number h.edge_from);
          to = at_least h.number (sym edge.to) (greater_to p q h.number h.edge_to);
        };
      }
