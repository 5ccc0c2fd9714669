-- It is decided whether bytes are a number: they are read byte after byte.
use Rattle.std.proofs.Common.{◌≡◌, ◌⊎◌, inl, inr, ℕ, zero, suc, ◌+◌, ◌<◌, ◌≤◌, List, length, take, get_or, Some, refl, ap, ◌∙◌, arith}
use Rattle.std.proofs.lemmas.Bool.{cases_order}
use Rattle.std.proofs.lemmas.List.Sums.{fold_more}
use Rattle.dec_text.specs.Numbers.{Number}
use Rattle.dec_text.specs.inner.Reading.{byte_kind, step, may_end}
use Rattle.dec_text.proofs.States.{reads, state_after, stops, ends_early, ends_well}
use Rattle.answers_exist.proofs.Decided.{Decided, by_option, by_test}

-- ---- one pass
-- a pass over n elements comes to a claim, at an element or at the end, since each state that it reaches leads on to one
module _ {S : Type 0} (Claim : Type 0) (n : ℕ) (Reached : ℕ → S → Type 0) (goes_on : (at : ℕ) (s : S) → at < n → Reached at s → Claim ⊎ ((t : S) × Reached (at + 1) t))
    (ends : (at : ℕ) (s : S) → n ≤ at → Reached at s → Claim) where
  further : (at : ℕ) → ((t : S) → Reached (at + 1) t → Claim) → Claim ⊎ ((t : S) × Reached (at + 1) t) → Claim
  further at next (inl claim) = claim
  further at next (inr (t, reached)) = next t reached

  by_place : (at : ℕ) (s : S) → Reached at s → ((t : S) → Reached (at + 1) t → Claim) → (at ≡ n) ⊎ ((at < n) ⊎ (n < at)) → Claim
  by_place at s h next (inl last) = ends at s (omega (arith, last)) h
  by_place at s h next (inr (inl less)) = further at next (goes_on at s less h)
  by_place at s h next (inr (inr past)) = ends at s (omega (arith, past)) h

  pass : (more at : ℕ) (s : S) → n ≤ at + more → Reached at s → Claim
  pass zero at s few h = ends at s (omega (arith, few)) h
  pass (suc more) at s few h = by_place at s h (λ t reached. pass more (at + 1) t (omega (arith, few)) reached) (cases_order at n)

-- ---- numbers
module _ (bytes : List ℕ) where
  pub decided_number : Decided (Number bytes)
  decided_number =
      pass (Decided (Number bytes)) (length bytes) (λ at s. state_after (take at bytes) ≡ Some s)
      (λ at s less e. by_option (step s (byte_kind (get_or bytes at 0)))
      (λ h. inl (inr (stops bytes at s less e h).0))
      (λ t h. inr (t, fold_more reads (Some _) bytes at 0 less ∙ ap (λ o. reads o (get_or bytes at 0)) e ∙ h)))
      (λ at s all e. by_test (may_end s) (λ h. inl (ends_well bytes at s all e h)) (λ h. inr (ends_early bytes at s all e h).0))
      (length bytes) 0 _ (omega arith) refl
