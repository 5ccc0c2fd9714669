-- How large the coordinates of a step are, and when one is made.
use Rattle.std.proofs.Common.{◌≡◌, inl, inr, true, ℕ, ◌≤◌, ◌*◌, ◌^◌, subst, unsigned_abs, arith, le_trans}
use Rattle.std.specs.Prelude.{ℤ, pos, ◌+ℤ◌, ◌-ℤ◌, ◌*ℤ◌, ◌<ℤ◌, ◌≤ℤ◌}
use Rattle.std.specs.Int.Signed.{lt_z}
use Rattle.std.proofs.lemmas.Int.{ints}
use Rattle.integers.proofs.Sizes.{abs_times, abs_minus}
use Rattle.lattice.specs.Triple.{Triple, IsWithin}
use Rattle.detail_pieces.specs.inner.Steps.{IsPushTo, IsPush}

pub moved_size : (s x e a : ℤ) (m : ℕ) → unsigned_abs s ≤ 9 → unsigned_abs x ≤ m → unsigned_abs e ≤ m → unsigned_abs a ≤ 9 → unsigned_abs ((s *ℤ x) -ℤ (e *ℤ a)) ≤ 18 * m
moved_size s x e a m hs hx he ha =
    let all = abs_minus (s *ℤ x) (e *ℤ a) (9 * m) (m * 9) (abs_times s x 9 m hs hx) (abs_times e a m 9 he ha) in
    omega (arith, all)

pub within_more : (k m : ℕ) (t : Triple) → k ≤ m → IsWithin k t → IsWithin m t
within_more k m t more h = record { x = le_trans h.x more; y = le_trans h.y more; z = le_trans h.z more }

-- ---- a coordinate beyond the edge f of the box
pub pushed_down : (a x w f s e : ℤ) → f ≡ pos (2 ^ 21) *ℤ w → lt_z f x ≡ true → IsPushTo a (x -ℤ f) s e → IsPush a x w s e
pushed_down a x w f s e at out h =
    inr (inl (less (pos (2 ^ 21) *ℤ w) at, subst (λ (k : ℤ). IsPushTo a (x -ℤ k) s e) at h))
  where
    less : (k : ℤ) → f ≡ k → k <ℤ x
    less k at = grind (arith, ints)

pub pushed_up : (a x w f s e : ℤ) → f ≡ pos (2 ^ 21) *ℤ w → lt_z x (pos 0 -ℤ f) ≡ true → IsPushTo a (x +ℤ f) s e → IsPush a x w s e
pushed_up a x w f s e at out h =
    inr (inr (less (pos (2 ^ 21) *ℤ w) at, subst (λ (k : ℤ). IsPushTo a (x +ℤ k) s e) at h))
  where
    less : (k : ℤ) → f ≡ k → x <ℤ (pos 0 -ℤ k)
    less k at = grind (arith, ints)

pub less_far : (x f e : ℤ) → pos 0 ≤ℤ f → lt_z x (pos 0 -ℤ f) ≡ true → unsigned_abs e ≤ unsigned_abs (x +ℤ f) → unsigned_abs e ≤ unsigned_abs x
less_far x f e h out size = grind (arith, ints)
