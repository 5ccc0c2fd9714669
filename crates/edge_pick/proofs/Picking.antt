-- The edges of which something holds, found one number after the other.
use Rattle.std.proofs.Common.{◌≡◌, ℕ, ◌+◌, ◌<◌, ◌≤◌, ◌⊎◌, inl, inr, List, [], ◌∷◌, ◌++◌, length, All, Contains, ◌↔◌, arith, length-append}
use Rattle.std.specs.List.Sorted.{IsStrictlyIncreasing}
use Rattle.std.proofs.lemmas.List.Elements.{All-push, All-weaker, All-contains, Contains-append_left, Contains-push, Contains-push_cases}
use Rattle.std.proofs.lemmas.Option.{slice_get_within}
use Rattle.std.proofs.lemmas.Grind.{common_steps}
use borrow.Author.Count.{below_more}
use Rattle.geometry.specs.Parts.{Part, Edge, AreEdges, IsNumbered}
use Rattle.geometry.specs.Views.{AreEdgesThat}

-- the numbers below n of the edges of which P holds, in order
pub record AreThoseBelow {s : Part} (P : Edge s → Type 0) (halves numbers : List ℕ) (n : ℕ) : Type 0 where
  pub ascending : IsStrictlyIncreasing numbers
  pub within : All (λ i. i < n) numbers
  pub few : length numbers ≤ n
  pub exactly : (i : ℕ) → i < n → (e : Edge s) → IsNumbered halves i e → Contains numbers i ↔ P e

-- a list in order stays so where a greater number follows
ascending_push : (numbers : List ℕ) (n : ℕ) → IsStrictlyIncreasing numbers → All (λ i. i < n) numbers → IsStrictlyIncreasing (numbers ++ n ∷ [])
ascending_push numbers n up below k h = grind (arith, common_steps)

module _ (s : Part) (P : Edge s → Type 0) (halves : List ℕ) where
  pub none_below : AreThoseBelow P halves [] 0
  none_below = record {
    ascending = λ k h. absurd (omega arith);
    within = λ k x h. absurd (omega arith);
    few = omega arith;
    exactly = λ i h. absurd (omega arith);
  }

  pub one_more : (numbers : List ℕ) (n : ℕ) → ((e : Edge s) → IsNumbered halves n e → P e) → AreThoseBelow P halves numbers n → AreThoseBelow P halves (numbers ++ n ∷ []) (n + 1)
  one_more numbers n holds h = record {
    ascending = ascending_push numbers n h.ascending h.within;
    within = All-push (λ i. i < n + 1) numbers n (All-weaker (λ i. i < n) (λ i. i < n + 1) (λ i l. omega arith) numbers h.within) (omega arith);
    few = omega (arith, length-append numbers (n ∷ []), h.few);
    exactly = below_more (λ i. (e : Edge s) → IsNumbered halves i e → Contains (numbers ++ n ∷ []) i ↔ P e) n
        (λ i l e is. (λ c. (h.exactly i l e is).0 (kept i l (Contains-push_cases numbers n i c)), λ p. Contains-append_left numbers (n ∷ []) i ((h.exactly i l e is).1 p)))
        (λ e is. (λ c. holds e is, λ p. Contains-push numbers n));
  }
    where
      kept : (i : ℕ) → i < n → (Contains numbers i ⊎ (n ≡ i)) → Contains numbers i
      kept i l (inl c) = c
      kept i l (inr e) = absurd (omega arith)

  pub none_more : (numbers : List ℕ) (n : ℕ) → ((e : Edge s) → IsNumbered halves n e → ¬ P e) → AreThoseBelow P halves numbers n → AreThoseBelow P halves numbers (n + 1)
  none_more numbers n fails h = record {
    ascending = h.ascending;
    within = All-weaker (λ i. i < n) (λ i. i < n + 1) (λ i l. omega arith) numbers h.within;
    few = omega (arith, h.few);
    exactly = below_more (λ i. (e : Edge s) → IsNumbered halves i e → Contains numbers i ↔ P e) n h.exactly
        (λ e is. (λ c. absurd (let l : n < n = All-contains (λ i. i < n) numbers n h.within c in omega arith), λ p. absurd (fails e is p)));
  }

  pub all_found : AreEdges s halves → (numbers : List ℕ) (n : ℕ) → n ≡ length halves → AreThoseBelow P halves numbers n → AreEdgesThat P halves numbers
  all_found edges numbers n all h = record {
    edges = edges;
    ascending = h.ascending;
    within = All-weaker (λ i. i < n) (λ i. i < length halves) (λ i l. omega arith) numbers h.within;
    exactly = λ i e is. h.exactly i (let l = slice_get_within halves i e.half is in omega arith) e is;
  }
