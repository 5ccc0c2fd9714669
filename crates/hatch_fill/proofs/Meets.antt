-- Where a line meets a hatch line, by a quotient.
use Rattle.std.proofs.Common.{◌≡◌, ◌≢◌, ℕ, zero, suc, ◌<◌, ◌≤◌, ◌^◌, [], ◌∷◌, refl, sym, ◌∙◌, arith, unsigned_abs}
use Rattle.std.specs.Prelude.{ℤ, pos, ◌+ℤ◌, ◌-ℤ◌, ◌*ℤ◌}
use Rattle.std.proofs.lemmas.Int.{ints}
use Rattle.integers.proofs.Ring.{var, con, ◌⊕◌, ◌⊖◌, ◌⊗◌, ring, by_two, same_of_gap}
use Rattle.integers.proofs.Signs.{zero_of_times}
use Rattle.exact_frac.specs.declared.Frac.{Frac}
use Rattle.lattice.specs.declared.lines.Line.{Line}
use Rattle.hatch_fill.specs.declared.places.HatchPlace.{HatchPlace}
use Rattle.hatch_fill.specs.inner.Places.{IsPlaceAt, HasSpot}
use Rattle.hatch_fill.specs.inner.Meetings.{MeetsAt, IsMeeting, HasMeeting}
use Rattle.hatch_fill.proofs.Near.{near_same, upward_same}

pub size_of_some : (m : ℤ) → m ≢ pos 0 → 0 < unsigned_abs m
size_of_some m h = by (unsigned_abs m) refl
  where
    by : (n : ℕ) → unsigned_abs m ≡ n → 0 < n
    by zero e = absurd (h (omega (arith, ints, e)))
    by (suc n) e = omega arith

-- two fractions that are one quotient
pub same_quotient : (m k n l n' l' : ℤ) → m ≢ pos 0 → m *ℤ n ≡ k *ℤ l → m *ℤ n' ≡ k *ℤ l' → n *ℤ l' ≡ n' *ℤ l
same_quotient m k n l n' l' some e f =
    same_of_gap (n *ℤ l') (n' *ℤ l) (zero_of_times m ((n *ℤ l') -ℤ (n' *ℤ l)) (size_of_some m some)
    (by_two _ _ (m *ℤ n) (k *ℤ l) l' (m *ℤ n') (k *ℤ l') (pos 0 -ℤ l)
    (ring (m ∷ k ∷ n ∷ l ∷ n' ∷ l' ∷ [])
    ((var 0 ⊗ ((var 2 ⊗ var 5) ⊖ (var 4 ⊗ var 3))) ⊖ con (pos 0))
    ((((var 0 ⊗ var 2) ⊖ (var 1 ⊗ var 3)) ⊗ var 5) ⊕ (((var 0 ⊗ var 4) ⊖ (var 1 ⊗ var 5)) ⊗ (con (pos 0) ⊖ var 3))) refl) e f))

module _ (line : Line) (diagonal m k : ℤ) (x : Frac) (slope : m ≡ line.a +ℤ line.b) (some : m ≢ pos 0) (level : k ≡ line.c +ℤ (line.b *ℤ diagonal)) (is : m *ℤ x.num ≡ k *ℤ x.den) where
  crosses : line.a +ℤ line.b ≢ pos 0
  crosses e = some (slope ∙ e)

  meets : MeetsAt line diagonal x.num x.den
  meets = (λ i. sym slope i *ℤ x.num) ∙ is ∙ (λ i. level i *ℤ x.den)

  pub meeting_there : (t : HatchPlace) → IsPlaceAt diagonal x t → IsMeeting line diagonal t
  meeting_there t h = record { crosses = crosses; at = h.line; on = (λ i. (line.a +ℤ line.b) *ℤ h.num i) ∙ meets ∙ (λ i. (line.c +ℤ (line.b *ℤ diagonal)) *ℤ sym h.den i) }

  pub meeting_nowhere : unsigned_abs x.den ≤ 2 ^ 45 → ¬ HasSpot diagonal x.num x.den → ¬ HasMeeting line diagonal
  meeting_nowhere short none h =
      let same = same_quotient (line.a +ℤ line.b) (line.c +ℤ (line.b *ℤ diagonal)) h.n h.m x.num x.den h.crosses h.on meets in
      none (record {
        short = omega (arith, short);
        across = near_same h.n h.m x.num x.den h.positive same h.across;
        upward = near_same (h.n -ℤ (diagonal *ℤ h.m)) h.m (x.num -ℤ (diagonal *ℤ x.den)) x.den h.positive (upward_same diagonal h.n h.m x.num x.den same) h.upward;
      })
