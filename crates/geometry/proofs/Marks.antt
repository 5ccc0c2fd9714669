-- When all points but those on a few lines of sight are so: what is on no line of sight of some marks, nor of a crossing of some lines.
use Rattle.std.proofs.Common.{◌≡◌, ◌⊎◌, inl, inr, ℕ, zero, suc, ◌+◌, ◌≤◌, List, [], ◌∷◌, ◌++◌, All, Contains, length, sym, subst, arith}
use Rattle.std.specs.Prelude.{ℤ, pos, ◌*ℤ◌}
use Rattle.std.proofs.lemmas.Bool.{cases_eq}
use Rattle.std.proofs.lemmas.Int.{ints, by_lt_z}
use Rattle.std.proofs.lemmas.List.{length-append}
use Rattle.std.proofs.lemmas.List.Elements.{All-append, Contains-append_left, Contains-append_right}
use Rattle.integers.proofs.Comparisons.{same_of_both}
use Rattle.lattice.specs.Points.{Point, IsPoint, OnOneSight, across_of, upward_of}
use Rattle.lattice.specs.Triple.{Triple, det}
use Rattle.geometry.proofs.TracePoints.{det_turned}
use Rattle.integers.proofs.Lists.{Contains-later}
use Rattle.geometry.specs.Exceptions.{pairs_of, IsInSightOfOne, HoldsExceptAt}
use Rattle.geometry.proofs.Crossings.{StepLine, IsSeenOn, turn_of, crossings, crossings-few, crossings-points, crossings-listed}
use Rattle.geometry.proofs.Lists.{Contains-first, pairs-suc}

-- ---- decisions
pub same_or_not : (a b : ℤ) → (a ≡ b) ⊎ ¬ (a ≡ b)
same_or_not a b = by_lt_z a b (λ h. inr (λ e. omega (arith, ints))) (λ h. by_lt_z b a (λ k. inr (λ e. omega (arith, ints))) (λ k. inl (same_of_both a b k h)))

sight_or_not : (d : Triple) (p q : Point) → OnOneSight d p q ⊎ ¬ OnOneSight d p q
sight_or_not d p q = by (same_or_not (across_of d p *ℤ q.w) (across_of d q *ℤ p.w)) (same_or_not (upward_of d p *ℤ q.w) (upward_of d q *ℤ p.w))
  where
    by : (across_of d p *ℤ q.w ≡ across_of d q *ℤ p.w) ⊎ ¬ (across_of d p *ℤ q.w ≡ across_of d q *ℤ p.w)
        → (upward_of d p *ℤ q.w ≡ upward_of d q *ℤ p.w) ⊎ ¬ (upward_of d p *ℤ q.w ≡ upward_of d q *ℤ p.w) → OnOneSight d p q ⊎ ¬ OnOneSight d p q
    by (inl across) (inl upward) = inl (record { across = across; upward = upward })
    by (inl across) (inr apart) = inr (λ same. apart same.upward)
    by (inr apart) upward = inr (λ same. apart same.across)

in_sight_or_not : (d : Triple) (places : List Point) (p : Point) → IsInSightOfOne d places p ⊎ ¬ IsInSightOfOne d places p
in_sight_or_not d [] p = inr (λ (q, (k, within, is), same). absurd (omega arith))
in_sight_or_not d (q ∷ qs) p = by (sight_or_not d q p) (in_sight_or_not d qs p)
  where
    none : ¬ OnOneSight d q p → ¬ IsInSightOfOne d qs p → ¬ IsInSightOfOne d (q ∷ qs) p
    none apart rest (r, (zero, within, is), same) = apart (subst (λ (s : Point). OnOneSight d s p) (sym is) same)
    none apart rest (r, (suc k, within, is), same) = rest (r, (k, omega arith, is), same)

    by : OnOneSight d q p ⊎ ¬ OnOneSight d q p → IsInSightOfOne d qs p ⊎ ¬ IsInSightOfOne d qs p → IsInSightOfOne d (q ∷ qs) p ⊎ ¬ IsInSightOfOne d (q ∷ qs) p
    by (inl same) rest = inl (q, Contains-first q qs, same)
    by (inr apart) (inl (r, here, same)) = inl (r, Contains-later q qs r here, same)
    by (inr apart) (inr rest) = inr (none apart rest)

-- ---- steps
-- one of the lines is seen at p, and what is seen parallel to it is seen parallel to the step
pub record IsHeld (d : Triple) (lines : List StepLine) (p : Point) (step : Triple) : Type 0 where
  pub line : StepLine
  pub listed : Contains lines line
  pub seen : IsSeenOn d line p
  pub along : (t : Triple) → det d line.step t ≡ pos 0 → det d step t ≡ pos 0

-- all is seen parallel to it
abbrev pub IsStill : Triple → Triple → Type 0
IsStill d step = (t : Triple) → det d step t ≡ pos 0

-- what is off all crossings is on lines that are seen parallel
module _ (d : Triple) (lines : List StepLine) (p : Point) (off : ¬ IsInSightOfOne d (crossings d lines) p) where
  held_parallel : (s t : Triple) → IsHeld d lines p s → IsHeld d lines p t → det d s t ≡ pos 0
  held_parallel s t first second = by (same_or_not (turn_of d first.line second.line) (pos 0))
    where
      by : (turn_of d first.line second.line ≡ pos 0) ⊎ ¬ (turn_of d first.line second.line ≡ pos 0) → det d s t ≡ pos 0
      by (inl none) = det_turned d t s (second.along s (det_turned d s second.line.step (first.along second.line.step none)))
      by (inr turns) = absurd (off (crossings-listed d lines first.line second.line p first.listed second.listed turns first.seen second.seen))

  pub parallel_steps : (s t : Triple) → IsStill d s ⊎ IsHeld d lines p s → IsStill d t ⊎ IsHeld d lines p t → det d s t ≡ pos 0
  parallel_steps s t (inl still) second = still t
  parallel_steps s t (inr held) (inl still) = det_turned d t s (still s)
  parallel_steps s t (inr held) (inr held_too) = held_parallel s t held held_too

-- ---- counts
pairs-monotone : (m n : ℕ) → m ≤ n → pairs_of m ≤ pairs_of n
pairs-monotone m zero h = subst (λ (k : ℕ). pairs_of k ≤ pairs_of zero) (none m h) (omega arith)
  where
    none : (m : ℕ) → m ≤ zero → zero ≡ m
    none m h = omega arith
pairs-monotone m (suc n) h = by (cases_eq m (suc n)) (pairs-monotone m n)
  where
    by : (m ≡ suc n) ⊎ ¬ (m ≡ suc n) → (m ≤ n → pairs_of m ≤ pairs_of n) → pairs_of m ≤ pairs_of (suc n)
    by (inl same) below = subst (λ (k : ℕ). pairs_of m ≤ pairs_of k) same (omega arith)
    by (inr other) below = more n _ _ _ (pairs-suc n) (below (omega arith))
      where
        more : (n a b c : ℕ) → c ≡ n + b → a ≤ b → a ≤ c
        more n a b c e h = omega arith

-- ---- marks and crossings together
module _ (d : Triple) (Holds : Point → Type 0) (marks : List Point) (lines : List StepLine) (m n : ℕ) (points : All IsPoint marks) (few_marks : length marks ≤ m) (few_lines : length lines ≤ n)
    (holds : (p : Point) → ¬ IsInSightOfOne d marks p → ¬ IsInSightOfOne d (crossings d lines) p → Holds p) where
  pub except_at : HoldsExceptAt d (m + pairs_of n) Holds
  except_at = record {
    places = marks ++ crossings d lines;
    there = All-append IsPoint marks (crossings d lines) points (crossings-points d lines);
    few = sum _ _ _ _ _ (length-append marks (crossings d lines)) few_marks (crossings-few d lines) (pairs-monotone (length lines) n few_lines);
    rest = λ p. by p (in_sight_or_not d (marks ++ crossings d lines) p);
  }
    where
      sum : (l a b c k : ℕ) → l ≡ a + b → a ≤ m → b ≤ c → c ≤ k → l ≤ m + k
      sum l a b c k e f g h = omega arith

      by : (p : Point) → IsInSightOfOne d (marks ++ crossings d lines) p ⊎ ¬ IsInSightOfOne d (marks ++ crossings d lines) p → Holds p ⊎ IsInSightOfOne d (marks ++ crossings d lines) p
      by p (inl seen) = inr seen
      by p (inr off) =
          inl (holds p (λ (q, here, same). off (q, Contains-append_left marks (crossings d lines) q here, same)) (λ (q, here, same). off (q, Contains-append_right marks (crossings d lines) q here, same)))
