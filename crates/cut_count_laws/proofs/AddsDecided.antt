-- It is decided whether a triangle that is not edge-on adds to a count at a place.
use Rattle.std.proofs.Common.{◌≡◌, ◌⊎◌, inl, inr}
use Rattle.std.specs.Prelude.{ℤ, pos, ◌<ℤ◌}
use Rattle.integers.proofs.Comparisons.{positive_at}
use Rattle.hiding_laws.proofs.Decisions.{less_or, at_most_or, four_or, either_or, alike_or}
use Rattle.hiding_laws.proofs.ScreenFaces.{covers_from, covers_to}
use Rattle.hiding_laws.proofs.Screens.{Screen, area_of, turn_of, lead_of, Covers}
use Rattle.geometry.specs.Counts.{Side, to_left, to_right}
use Rattle.hiding_laws.specs.inner.Tallies.{IsTally}
use Rattle.hiding_laws.specs.inner.Tallies.{yes, no}
use Rattle.hiding_laws.proofs.OneFace.{covers_swap, area-swap}
use Rattle.hiding_laws.proofs.Places.{place_of}
use Rattle.hiding_laws.proofs.Shares.{IsOnSide, Adds}
use Rattle.hiding_laws.proofs.Signs.{up, sign_cases}

covers_front : (a b c p : Screen) → pos 0 <ℤ p.w → pos 0 <ℤ area_of a b c → Covers a b c p ⊎ ¬ Covers a b c p
covers_front a b c p w high = alike_or _ _ (λ h. covers_from a b c p w high h.0 h.1 h.2 h.3) (λ h. covers_to a b c p h w high)
    (four_or _ _ _ _ (at_most_or (pos 0) (turn_of p b c)) (at_most_or (pos 0) (turn_of p c a)) (at_most_or (pos 0) (turn_of p a b)) (less_or (pos 0) (lead_of a b c p)))

covers_or : (a b c p : Screen) → pos 0 <ℤ p.w → ¬ (area_of a b c ≡ pos 0) → Covers a b c p ⊎ ¬ Covers a b c p
covers_or a b c p w some = elim (sign_cases _ some) [
  | inl h ↦ alike_or _ _ (covers_swap a b c p) (covers_swap a c b p) (covers_front a c b p w (positive_at _ _ (area-swap a b c) (up _ h)))
  | inr h ↦ covers_front a b c p w h
]

on_side_or : (k : Side) (p q a : Screen) → IsOnSide k p q a ⊎ ¬ IsOnSide k p q a
on_side_or to_left p q a = less_or (pos 0) (area_of p q a)
on_side_or to_right p q a = less_or (area_of p q a) (pos 0)

pub both_or : (P Q : Type 0) → P ⊎ ¬ P → Q ⊎ ¬ Q → (P × Q) ⊎ ¬ (P × Q)
both_or P Q (inl p) (inl q) = inl (p, q)
both_or P Q (inl p) (inr n) = inr (λ h. n h.1)
both_or P Q (inr n) q = inr (λ h. n h.0)

tally_where : {P : Type 0} → P ⊎ ¬ P → (z : ℤ) × IsTally P z
tally_where (inl p) = (pos 1, yes p)
tally_where (inr n) = (pos 0, no n)

pub adds_tally : (k : Side) (p q a b c : Screen) (n m : ℤ) → pos 0 <ℤ m → ¬ (area_of a b c ≡ pos 0) → (z : ℤ) × IsTally (Adds k p q a b c n m) z
adds_tally k p q a b c n m m_pos some =
    tally_where (alike_or _ _ (λ h. (some, h)) (λ h. h.1) (both_or _ _ (covers_or a b c (place_of p q n m) m_pos some)
    (either_or _ _ (on_side_or k p q a) (either_or _ _ (on_side_or k p q b) (on_side_or k p q c)))))
