-- The list of a part's edges is one, and so are the counts over it.
use Rattle.std.proofs.Common.{◌≡◌, ℕ, zero, suc, ◌<◌, ◌⊎◌, inl, inr, List, [], ◌∷◌, refl, sym, subst, arith}
use Rattle.std.specs.Prelude.{AllPairs, Contains}
use Rattle.std.proofs.lemmas.List.Kept.{AllPairs-from_increasing}
use Rattle.integers.proofs.Lists.{Contains-later}
use Rattle.geometry.specs.Parts.{Part, HasNoSideTwice, AreEdges}
use Rattle.solid_mesh.specs.inner.Halves.{AreTwins, lower_halves_of}
use Rattle.solid_mesh.specs.Meetings.{IsAtMostPairs}
use Rattle.solid_mesh.proofs.HalfLemmas.{table_edges}

abbrev Rising : List ℕ → Type 0
Rising xs = AllPairs (λ x y. x < y) xs

-- ---- the first number and the others
rest_rises : (x : ℕ) (xs : List ℕ) → Rising (x ∷ xs) → Rising xs
rest_rises x xs h i j d less within = h (suc i) (suc j) d (omega arith) (omega arith)

rest_above : (x : ℕ) (xs : List ℕ) → Rising (x ∷ xs) → (q : ℕ) → Contains xs q → x < q
rest_above x xs h q (k, within, is) = subst (λ (n : ℕ). x < n) is (h 0 (suc k) q (omega arith) (omega arith))

first_or_rest : (x : ℕ) (xs : List ℕ) (q : ℕ) → Contains (x ∷ xs) q → (x ≡ q) ⊎ Contains xs q
first_or_rest x xs q (zero, within, is) = inl is
first_or_rest x xs q (suc k, within, is) = inr (k, omega arith, is)

in_first : (x : ℕ) (xs : List ℕ) → Contains (x ∷ xs) x
in_first x xs = (0, omega arith, refl)

-- rising lists of the same numbers are one
one_list : (xs ys : List ℕ) → Rising xs → Rising ys → ((q : ℕ) → Contains xs q → Contains ys q) → ((q : ℕ) → Contains ys q → Contains xs q) → xs ≡ ys
one_list [] [] p q to from = refl
one_list [] (y ∷ ys) p q to from = let (k, within, is) = from y (in_first y ys) in absurd (omega arith)
one_list (x ∷ xs) [] p q to from = let (k, within, is) = to x (in_first x xs) in absurd (omega arith)
one_list (x ∷ xs) (y ∷ ys) p q to from = λ i. same i ∷ one_list xs ys (rest_rises x xs p) (rest_rises y ys q) rest_to rest_from i
  where
    same : x ≡ y
    same = by (first_or_rest y ys x (to x (in_first x xs))) (first_or_rest x xs y (from y (in_first y ys)))
      where
        by : (y ≡ x) ⊎ Contains ys x → (x ≡ y) ⊎ Contains xs y → x ≡ y
        by (inl e) other = sym e
        by (inr h) (inl e) = e
        by (inr h) (inr k) = absurd (omega (arith, rest_above y ys q x h, rest_above x xs p y k))

    rest_to : (n : ℕ) → Contains xs n → Contains ys n
    rest_to n h = by (first_or_rest y ys n (to n (Contains-later x xs n h)))
      where
        by : (y ≡ n) ⊎ Contains ys n → Contains ys n
        by (inl e) = absurd (omega (arith, e, same, rest_above x xs p n h))
        by (inr k) = k

    rest_from : (n : ℕ) → Contains ys n → Contains xs n
    rest_from n h = by (first_or_rest x xs n (from n (Contains-later y ys n h)))
      where
        by : (x ≡ n) ⊎ Contains xs n → Contains xs n
        by (inl e) = absurd (omega (arith, e, same, rest_above y ys q n h))
        by (inr k) = k

pub one_edges : (s : Part) (xs ys : List ℕ) → AreEdges s xs → AreEdges s ys → xs ≡ ys
one_edges s xs ys h k =
    one_list xs ys (AllPairs-from_increasing xs h.ascending) (AllPairs-from_increasing ys k.ascending) (λ q in_xs. (k.exactly q).1 ((h.exactly q).0 in_xs)) (λ q in_ys. (h.exactly q).1 ((k.exactly q).0 in_ys))

-- ---- counts
pub at_most_as : (P : ℕ → ℕ → Type 0) (xs ys : List ℕ) (m n : ℕ) → xs ≡ ys → m ≡ n → IsAtMostPairs P xs m → IsAtMostPairs P ys n
at_most_as P xs ys m n e f h = subst (λ (zs : List ℕ). IsAtMostPairs P zs n) e (subst (IsAtMostPairs P xs) f h)

-- a count over the lower halves, by twins that were read, is one over any list of the edges
pub edges_counted : (s : Part) (P : ℕ → ℕ → Type 0) (read twins : List ℕ) (n : ℕ) → read ≡ twins → AreTwins s.triangles twins → HasNoSideTwice s → IsAtMostPairs P (lower_halves_of read) n → (halves : List ℕ) → AreEdges s halves → IsAtMostPairs P halves n
edges_counted s P read twins n same paired once h halves are =
    let table = table_edges s read (subst (AreTwins s.triangles) (sym same) paired) once in
    at_most_as P (lower_halves_of read) halves n n (one_edges s (lower_halves_of read) halves table are) refl h
