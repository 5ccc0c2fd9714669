-- The numbers in a fan are those of its face.
use Rattle.std.proofs.Common.{ℕ, zero, suc, ◌<◌, List, [], ◌∷◌, map, All, arith}
use Rattle.std.proofs.lemmas.List.Elements.{All-append, All-take, All-drop}
use Rattle.lattice.specs.declared.soup.Tri.{Tri}
use Rattle.lattice.specs.Triangles.{IsBelow}
use Rattle.off_reader.specs.Fans.{turned, neighbours, fan_of}

abbrev pub triangle : ℕ → ℕ → ℕ → Tri
triangle a b c = record { a = a; b = b; c = c }

module _ (n : ℕ) where
  others : (x : ℕ) (xs : List ℕ) → All (λ i. i < n) (x ∷ xs) → All (λ i. i < n) xs
  others x xs h k d within = h (suc k) d (omega arith)

  below_neighbours : (a b : ℕ) (xs : List ℕ) → a < n → All (λ i. i < n) (b ∷ xs) → All (IsBelow n) (map (λ e. triangle a e.0 e.1) (neighbours (b ∷ xs)))
  below_neighbours a b [] less h k d within = absurd (omega arith)
  below_neighbours a b (c ∷ xs) less h zero d within = record { a = less; b = h 0 b (omega arith); c = h 1 b (omega arith) }
  below_neighbours a b (c ∷ xs) less h (suc k) d within = below_neighbours a c xs less (others b (c ∷ xs) h) k d (omega arith)

  below_fan : (xs : List ℕ) → All (λ i. i < n) xs → All (IsBelow n) (fan_of triangle xs)
  below_fan [] h = λ k d within. absurd (omega arith)
  below_fan (a ∷ []) h = λ k d within. absurd (omega arith)
  below_fan (a ∷ b ∷ xs) h = below_neighbours a b xs (h 0 a (omega arith)) (others a (b ∷ xs) h)

  pub below_fan_from : (j : ℕ) (numbers : List ℕ) → All (λ i. i < n) numbers → All (IsBelow n) (fan_of triangle (turned j numbers))
  below_fan_from j numbers h = below_fan (turned j numbers) (All-append (λ i. i < n) _ _ (All-drop (λ i. i < n) j numbers h) (All-take (λ i. i < n) j numbers h))
