-- Sums over triangles of what their sides change, side by twin: a pair changes what its two signs differ by.
use Rattle.std.proofs.Common.{◌≡◌, ℕ, ◌+◌, ◌*◌, nat_lt, [], ◌∷◌, refl, sym, ap, ◌∙◌}
use Rattle.std.specs.Prelude.{ℤ, pos, ◌+ℤ◌, ◌-ℤ◌, ◌*ℤ◌}
use Rattle.integers.proofs.Ring.{var, con, ◌⊕◌, ◌⊖◌, ◌⊗◌, ring}
use Rattle.hiding_laws.proofs.SumsBelow.{sum_below, keep}
use Rattle.hiding_laws.proofs.Sums.{sum_same, sum_pairs, sum_threes, sum_less}
use Rattle.cut_count_laws.proofs.Laws.{TwinSumsLaw}

-- a triangle's three sides, each with the triangle's sign
spread : (s s' s'' a b c x : ℤ) → s' ≡ s → s'' ≡ s → s *ℤ (((a +ℤ b) +ℤ c) -ℤ x) ≡ (((s *ℤ a) +ℤ (s' *ℤ b)) +ℤ (s'' *ℤ c)) -ℤ (s *ℤ x)
spread s s' s'' a b c x e f =
    ring (s ∷ a ∷ b ∷ c ∷ x ∷ []) (var 0 ⊗ (((var 1 ⊕ var 2) ⊕ var 3) ⊖ var 4)) ((((var 0 ⊗ var 1) ⊕ (var 0 ⊗ var 2)) ⊕ (var 0 ⊗ var 3)) ⊖ (var 0 ⊗ var 4)) refl
    ∙ (λ t. (((s *ℤ a) +ℤ (sym e t *ℤ b)) +ℤ (sym f t *ℤ c)) -ℤ (s *ℤ x))

-- a side and its twin
together : (s s' c c' x x' : ℤ) → c' ≡ pos 0 -ℤ c → x' ≡ x → (s *ℤ (c *ℤ x)) +ℤ (s' *ℤ (c' *ℤ x')) ≡ ((s -ℤ s') *ℤ c) *ℤ x
together s s' c c' x x' e f =
    (λ t. (s *ℤ (c *ℤ x)) +ℤ (s' *ℤ (e t *ℤ f t)))
    ∙ ring (s ∷ s' ∷ c ∷ x ∷ []) ((var 0 ⊗ (var 2 ⊗ var 3)) ⊕ (var 1 ⊗ ((con (pos 0) ⊖ var 2) ⊗ var 3))) (((var 0 ⊖ var 1) ⊗ var 2) ⊗ var 3) refl

pub twin_sums : TwinSumsLaw
twin_sums triangles twin sign before after more change crossing within back apart signs changes crossings each =
    sum_less after before triangles
    ∙ sum_same _ _ triangles (λ t l. each t l ∙ spread (sign (3 * t)) (sign (3 * t + 1)) (sign (3 * t + 2)) _ _ _ (more t) (signs t l).0 (signs t l).1)
    ∙ sym (sum_less (λ t. (share (3 * t) +ℤ share (3 * t + 1)) +ℤ share (3 * t + 2)) (λ t. sign (3 * t) *ℤ more t) triangles)
    ∙ ap (λ v. v -ℤ sum_below (λ t. sign (3 * t) *ℤ more t) triangles)
    (sum_threes share triangles
    ∙ sum_pairs twin (3 * triangles) within back share apart
    ∙ sum_same _ _ (3 * triangles) (λ h l. ap (keep (nat_lt h (twin h))) (together (sign h) (sign (twin h)) (change h) (change (twin h)) (crossing h) (crossing (twin h)) (changes h l) (crossings h l))))
  where
    share : ℕ → ℤ
    share h = sign h *ℤ (change h *ℤ crossing h)
