-- One face that is turned to the viewer, and that has one corner on one side of the edge's line and two on the other.
use Rattle.std.proofs.Common.{◌≡◌, refl, sym, ◌∙◌}
use Rattle.std.specs.Prelude.{ℤ, pos, ◌+ℤ◌, ◌*ℤ◌, ◌≤ℤ◌, ◌<ℤ◌}
use Rattle.integers.proofs.Comparisons.{positive_at, not_negative_at}
use Rattle.hiding_laws.proofs.Linear.{turn-place, lead-place}
use Rattle.hiding_laws.proofs.Places.{place_of}
use Rattle.hiding_laws.proofs.ScreenFaces.{covers_from, covers_to}
use Rattle.hiding_laws.proofs.Screens.{lead_of, Screen, area_of, turn_of, Covers}
use Rattle.hiding_laws.specs.Values.{value_at}
use Rattle.integers.proofs.Ring.{◌⊕◌, ◌⊗◌, ring}
use Rattle.hiding_laws.proofs.Shares.{Touches}
use Rattle.hiding_laws.proofs.ScreenLetters.{area, turn}
use Rattle.hiding_laws.proofs.EdgeScreenLetters.{P, Q, A, B, C, M, Zero, flat_values, at}
use Rattle.hiding_laws.proofs.Touch.{touches}

-- ---- the weights of a place of the edge
module _ (p q a b c : Screen) (n m : ℤ) (pw : p.w ≡ pos 1) (qw : q.w ≡ pos 1) where
  abbrev pub weight_a : ℤ
  weight_a = value_at (turn_of p b c) (turn_of q b c) n m

  abbrev pub weight_b : ℤ
  weight_b = value_at (turn_of p c a) (turn_of q c a) n m

  abbrev pub weight_c : ℤ
  weight_c = value_at (turn_of p a b) (turn_of q a b) n m

  abbrev pub height : ℤ
  height = value_at (lead_of a b c p) (lead_of a b c q) n m

  pub whole : (weight_a +ℤ weight_b) +ℤ weight_c ≡ m *ℤ area_of a b c
  whole =
      (λ t.
      let x : Screen = record { u = p.u; v = p.v; h = p.h; w = pw t } in
      let y : Screen = record { u = q.u; v = q.v; h = q.h; w = qw t } in
      (value_at (turn_of x b c) (turn_of y b c) n m +ℤ value_at (turn_of x c a) (turn_of y c a) n m) +ℤ value_at (turn_of x a b) (turn_of y a b) n m)
      ∙ ring (flat_values p q a b c n m) ((at (turn P B C) (turn Q B C) ⊕ at (turn P C A) (turn Q C A)) ⊕ at (turn P A B) (turn Q A B)) (M ⊗ area A B C) refl

  pub on_line : ((weight_a *ℤ area_of p q a) +ℤ (weight_b *ℤ area_of p q b)) +ℤ (weight_c *ℤ area_of p q c) ≡ pos 0
  on_line =
      (λ t.
      let x : Screen = record { u = p.u; v = p.v; h = p.h; w = pw t } in
      let y : Screen = record { u = q.u; v = q.v; h = q.h; w = qw t } in
      ((value_at (turn_of x b c) (turn_of y b c) n m *ℤ area_of p q a) +ℤ (value_at (turn_of x c a) (turn_of y c a) n m *ℤ area_of p q b)) +ℤ (value_at (turn_of x a b) (turn_of y a b) n m *ℤ area_of p q c))
      ∙ ring (flat_values p q a b c n m)
      (((at (turn P B C) (turn Q B C) ⊗ area P Q A) ⊕ (at (turn P C A) (turn Q C A) ⊗ area P Q B)) ⊕ (at (turn P A B) (turn Q A B) ⊗ area P Q C)) Zero refl

  module _ (m_pos : pos 0 <ℤ m) (area_up : pos 0 <ℤ area_of a b c) where
    pub covers_at : pos 0 ≤ℤ weight_a → pos 0 ≤ℤ weight_b → pos 0 ≤ℤ weight_c → pos 0 <ℤ height → Covers a b c (place_of p q n m)
    covers_at i j k l =
        covers_from a b c (place_of p q n m) m_pos area_up
        (not_negative_at _ _ (turn-place p q b c n m pw qw) i) (not_negative_at _ _ (turn-place p q c a n m pw qw) j) (not_negative_at _ _ (turn-place p q a b n m pw qw) k)
        (positive_at _ _ (lead-place p q a b c n m pw qw) l)

    pub at_covers : Covers a b c (place_of p q n m) → (pos 0 ≤ℤ weight_a) × (pos 0 ≤ℤ weight_b) × (pos 0 ≤ℤ weight_c) × (pos 0 <ℤ height)
    at_covers x =
        let t = covers_to a b c (place_of p q n m) x m_pos area_up in (
          not_negative_at _ _ (sym (turn-place p q b c n m pw qw)) t.0,
          not_negative_at _ _ (sym (turn-place p q c a n m pw qw)) t.1,
          not_negative_at _ _ (sym (turn-place p q a b n m pw qw)) t.2,
          positive_at _ _ (sym (lead-place p q a b c n m pw qw)) t.3,
        )

    -- a place that the face covers at the edge's own height is on the face
    pub touches_at : pos 0 ≤ℤ weight_a → pos 0 ≤ℤ weight_b → pos 0 ≤ℤ weight_c → height ≡ pos 0 → Touches a b c (place_of p q n m)
    touches_at i j k l =
        touches a b c (place_of p q n m) m_pos area_up
        (not_negative_at _ _ (turn-place p q b c n m pw qw) i) (not_negative_at _ _ (turn-place p q c a n m pw qw) j) (not_negative_at _ _ (turn-place p q a b n m pw qw) k)
        (lead-place p q a b c n m pw qw ∙ l)
