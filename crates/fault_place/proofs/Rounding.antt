-- Points rounded to whole units.
use Rattle.std.proofs.Common.{◌≡◌, ℕ, ◌+◌, ◌*◌, ◌<◌, ◌≤◌, ◌^◌, [], ◌∷◌, unsigned_abs, refl, sym, subst, ◌∙◌, to_z, of_z, arith}
use Rattle.std.specs.Prelude.{ℤ, pos, negsuc, ◌+ℤ◌, ◌-ℤ◌, ◌*ℤ◌, ◌<ℤ◌, ◌≤ℤ◌}
use Rattle.std.specs.Int.{w32}
use Rattle.std.proofs.lemmas.Int.{ints}
use Rattle.integers.specs.Floors.{IsFloor}
use Rattle.integers.proofs.Absolutes.{natural_not_negative, natural_positive, pos-product}
use Rattle.integers.proofs.Comparisons.{at_most_by, at_most_of_gap, gap_of_at_most, not_negative_of_positive, not_negative_at, twice_positive}
use Rattle.integers.proofs.Floors.{IsFloor-ordered, floor_of-is, floor_of-unique}
use Rattle.integers.proofs.Ring.{var, con, ◌⊕◌, ◌⊖◌, ◌⊗◌, ring, less_by, gap_of_less}
use Rattle.integers.proofs.Signs.{mul_nonneg, mul_pos}
use Rattle.integers.proofs.Sizes.{abs_mix}
use Rattle.lattice.specs.declared.points.Corner.{Corner}
use Rattle.geometry.specs.Faces.{edge_sum}
use Rattle.meeting.proofs.BoxAxes.{read}
use Rattle.fault_place.specs.Places.{nearest, IsRounded}

-- the number that is rounded, and its divisor, times one number
scaled_floor : (q n d m : ℤ) → pos 0 <ℤ m → IsFloor q n d → IsFloor q (m *ℤ n) (m *ℤ d)
scaled_floor q n d m h f = record {
  at_most = at_most_of_gap _ _ (not_negative_at _ _
      (ring (q ∷ n ∷ d ∷ m ∷ []) ((var 3 ⊗ var 1) ⊖ (var 0 ⊗ (var 3 ⊗ var 2))) (var 3 ⊗ (var 1 ⊖ (var 0 ⊗ var 2))) refl)
      (mul_nonneg m _ (not_negative_of_positive m h) (gap_of_at_most _ _ f.at_most)));
  rest_below = less_by _ _ _
      (ring (q ∷ n ∷ d ∷ m ∷ []) (((var 0 ⊗ (var 3 ⊗ var 2)) ⊕ (var 3 ⊗ var 2)) ⊖ (var 3 ⊗ var 1)) (var 3 ⊗ (((var 0 ⊗ var 2) ⊕ var 2) ⊖ var 1)) refl)
      (mul_pos m _ h (gap_of_less _ _ f.rest_below));
}

pub nearest_of_times : (n d m : ℤ) → pos 0 <ℤ m → pos 0 <ℤ d → nearest (m *ℤ n) (m *ℤ d) ≡ nearest n d
nearest_of_times n d m h g =
    let at : IsFloor (nearest n d) (m *ℤ (pos 2 *ℤ n +ℤ d)) (m *ℤ (pos 2 *ℤ d)) = scaled_floor _ _ _ m h (floor_of-is _ _ (twice_positive d g)) in
    let num : m *ℤ (pos 2 *ℤ n +ℤ d) ≡ pos 2 *ℤ (m *ℤ n) +ℤ (m *ℤ d) =
    ring (n ∷ d ∷ m ∷ []) (var 2 ⊗ ((con (pos 2) ⊗ var 0) ⊕ var 1)) ((con (pos 2) ⊗ (var 2 ⊗ var 0)) ⊕ (var 2 ⊗ var 1)) refl in
    let den : m *ℤ (pos 2 *ℤ d) ≡ pos 2 *ℤ (m *ℤ d) = ring (d ∷ m ∷ []) (var 1 ⊗ (con (pos 2) ⊗ var 0)) (con (pos 2) ⊗ (var 1 ⊗ var 0)) refl in
    let there : IsFloor (nearest n d) (pos 2 *ℤ (m *ℤ n) +ℤ (m *ℤ d)) (pos 2 *ℤ (m *ℤ d)) =
    subst (λ (z : ℤ). IsFloor (nearest n d) z (pos 2 *ℤ (m *ℤ d))) num (subst (IsFloor (nearest n d) (m *ℤ (pos 2 *ℤ n +ℤ d))) den at) in
    sym (floor_of-unique _ _ _ (twice_positive (m *ℤ d) (mul_pos m d h g)) there)

-- what a floor's parts are worth, and that it is the nearest number
pub nearest_is : (q n d num den : ℤ) → pos 0 <ℤ d → num ≡ n → den ≡ d → IsFloor q (pos 2 *ℤ num +ℤ den) (pos 2 *ℤ den) → q ≡ nearest n d
nearest_is q n d num den h e g f = floor_of-unique q _ _ (twice_positive d h) (subst (λ (z : ℤ). IsFloor q (pos 2 *ℤ n +ℤ z) (pos 2 *ℤ z)) g (subst (λ (z : ℤ). IsFloor q (pos 2 *ℤ z +ℤ den) (pos 2 *ℤ den)) e f))

-- a whole number is the nearest to itself, and greater numbers have no lesser ones nearest
module _ (d : ℤ) (positive : pos 0 <ℤ d) where
  whole : (k : ℤ) → IsFloor k (pos 2 *ℤ (k *ℤ d) +ℤ d) (pos 2 *ℤ d)
  whole k = record {
    at_most = at_most_by _ _ d (ring (k ∷ d ∷ []) (((con (pos 2) ⊗ (var 0 ⊗ var 1)) ⊕ var 1) ⊖ (var 0 ⊗ (con (pos 2) ⊗ var 1))) (var 1) refl) (not_negative_of_positive d positive);
    rest_below = less_by _ _ d (ring (k ∷ d ∷ []) (((var 0 ⊗ (con (pos 2) ⊗ var 1)) ⊕ (con (pos 2) ⊗ var 1)) ⊖ ((con (pos 2) ⊗ (var 0 ⊗ var 1)) ⊕ var 1)) (var 1) refl) positive;
  }

  ordered : (n m p q : ℤ) → n ≤ℤ m → IsFloor p (pos 2 *ℤ n +ℤ d) (pos 2 *ℤ d) → IsFloor q (pos 2 *ℤ m +ℤ d) (pos 2 *ℤ d) → p ≤ℤ q
  ordered n m p q h f g =
      IsFloor-ordered p _ _ q _ _ (twice_positive d positive) (twice_positive d positive) f g
      (at_most_by _ _ _
      (ring (n ∷ m ∷ d ∷ []) ((((con (pos 2) ⊗ var 1) ⊕ var 2) ⊗ (con (pos 2) ⊗ var 2)) ⊖ (((con (pos 2) ⊗ var 0) ⊕ var 2) ⊗ (con (pos 2) ⊗ var 2))) ((con (pos 4) ⊗ (var 1 ⊖ var 0)) ⊗ var 2) refl)
      (mul_nonneg _ d (mul_nonneg (pos 4) _ (natural_not_negative 4) (gap_of_at_most n m h)) (not_negative_of_positive d positive)))

  pub nearest_size : (n : ℤ) (m : ℕ) → unsigned_abs n ≤ m * unsigned_abs d → unsigned_abs (nearest n d) ≤ m
  nearest_size n m h =
      let here = floor_of-is (pos 2 *ℤ n +ℤ d) (pos 2 *ℤ d) (twice_positive d positive) in
      within (nearest n d) m (ordered n (pos m *ℤ d) (nearest n d) (pos m) (below n d m positive h) here (whole (pos m)))
      (ordered ((pos 0 -ℤ pos m) *ℤ d) n (pos 0 -ℤ pos m) (nearest n d) (above n d m positive h) (whole (pos 0 -ℤ pos m)) here)
    where
      below : (n d : ℤ) (m : ℕ) → pos 0 <ℤ d → unsigned_abs n ≤ m * unsigned_abs d → n ≤ℤ (pos m *ℤ d)
      below n (pos d) m h g = omega (arith, ints)
      below n (negsuc d) m h g = absurd (omega (arith, ints))

      above : (n d : ℤ) (m : ℕ) → pos 0 <ℤ d → unsigned_abs n ≤ m * unsigned_abs d → ((pos 0 -ℤ pos m) *ℤ d) ≤ℤ n
      above n (pos d) m h g =
          let e : (pos 0 -ℤ pos m) *ℤ pos d ≡ pos 0 -ℤ (pos m *ℤ pos d) = ring (pos m ∷ pos d ∷ []) ((con (pos 0) ⊖ var 0) ⊗ var 1) (con (pos 0) ⊖ (var 0 ⊗ var 1)) refl in
          subst (λ (z : ℤ). z ≤ℤ n) (sym e) (omega (arith, ints))
      above n (negsuc d) m h g = absurd (omega (arith, ints))

      within : (q : ℤ) (m : ℕ) → q ≤ℤ pos m → (pos 0 -ℤ pos m) ≤ℤ q → unsigned_abs q ≤ m
      within q m h g = omega (arith, ints)

-- a place of an edge with its weights, and with all of them times one number
abbrev pub between : ℕ → ℕ → ℤ → ℤ → ℤ
between i j p q = (pos i *ℤ p) +ℤ (pos j *ℤ q)

-- it is no larger than the numbers between which it is
pub between_size : (i j m : ℕ) (p q : ℤ) → 0 < i + j → unsigned_abs p ≤ m → unsigned_abs q ≤ m → unsigned_abs (nearest (between i j p q) (pos (i + j))) ≤ m
between_size i j m p q some h g = nearest_size (pos (i + j)) (natural_positive (i + j) some) (between i j p q) m (abs_mix (pos i) (pos j) p q m (natural_not_negative i) (natural_not_negative j) h g)

-- as the machine reads them
pub rounded_read : (r : ℤ) (i j : ℕ) (p q : ℤ) → unsigned_abs p ≤ 2 ^ 20 → unsigned_abs q ≤ 2 ^ 20 → unsigned_abs r ≤ 2 ^ 20
    → r ≡ nearest (between i j (to_z w32 (of_z w32 p)) (to_z w32 (of_z w32 q))) (pos (i + j)) → to_z w32 (of_z w32 r) ≡ nearest (between i j p q) (pos (i + j))
rounded_read r i j p q h g k e = read r k ∙ e ∙ (λ s. nearest (between i j (read p h s) (read q g s)) (pos (i + j)))

same_rounded : (m i j : ℕ) (p q r : ℤ) → 0 < m → 0 < i + j → r ≡ nearest (between i j p q) (pos (i + j)) → r ≡ nearest (between (m * i) (m * j) p q) (pos (m * i + m * j))
same_rounded m i j p q r h g e =
    e ∙ sym (nearest_of_times (between i j p q) (pos (i + j)) (pos m) (natural_positive m h) (natural_positive (i + j) g))
    ∙ (λ s. nearest (num s) (den s))
  where
    num : pos m *ℤ between i j p q ≡ between (m * i) (m * j) p q
    num =
        ring (pos m ∷ pos i ∷ pos j ∷ p ∷ q ∷ []) (var 0 ⊗ ((var 1 ⊗ var 3) ⊕ (var 2 ⊗ var 4))) (((var 0 ⊗ var 1) ⊗ var 3) ⊕ ((var 0 ⊗ var 2) ⊗ var 4)) refl
        ∙ sym (λ s. (pos-product m i s *ℤ p) +ℤ (pos-product m j s *ℤ q))

    den : pos m *ℤ pos (i + j) ≡ pos (m * i + m * j)
    den = omega (arith, ints)

pub is_rounded : (m i j : ℕ) (p q place : Corner) → 0 < m → 0 < i + j → place.x ≡ nearest (between i j p.x q.x) (pos (i + j)) → place.y ≡ nearest (between i j p.y q.y) (pos (i + j))
    → place.z ≡ nearest (between i j p.z q.z) (pos (i + j)) → IsRounded (edge_sum p q (m * i) (m * j)) place
is_rounded m i j p q place h g x y z = record {
  x = same_rounded m i j p.x q.x place.x h g x;
  y = same_rounded m i j p.y q.y place.y h g y;
  z = same_rounded m i j p.z q.z place.z h g z;
}
