-- Whether a place of an edge is in the section, by the borders that cross the edge's line after its first end and by those that it passes before the place.
use Rattle.std.proofs.Common.{◌≡◌, ◌≢◌, inl, inr, ℕ, zero, suc, ◌<◌, Bool, true, false, List, [], ◌∷◌, All, AllPairs, Contains, refl, sym, ap, subst, ◌∙◌, arith}
use Rattle.std.specs.Prelude.{ℤ, pos, ◌+ℤ◌}
use Rattle.std.specs.Bool.{Decides}
use Rattle.std.specs.List.{AllZip}
use Rattle.std.proofs.lemmas.Bool.{false_from_ne_true}
use Rattle.std.proofs.lemmas.Int.{ints}
use Rattle.lattice.specs.declared.points.Corner.{Corner}
use Rattle.lattice.specs.Cuts.{Plane}
use Rattle.geometry.specs.Parts.{Part, Edge}
use Rattle.geometry.specs.Counts.{Side}
use Rattle.geometry.specs.Covers.{IsOneWhere}
use Rattle.hiding_laws.proofs.ListSums.{IsIn, different, in_place, listed_sum, place_in, zip_in}
use Rattle.hiding_laws.specs.Sums.{total}
use Rattle.hiding_laws.proofs.SumsBelow.{sum_below}
use Rattle.cut_plane.proofs.Xors.{xor, xor-across, xor-assoc, xor-comm, xor-twice, odd_below, odd_in, is_odd}
use Rattle.cut_count_laws.proofs.CutLaws.{border_passed}
use Rattle.cut_count_laws.proofs.Rays.{border_ahead}
use Rattle.cut_count_laws.proofs.SectionSums.{worth}

-- ---- borders that are passed
module _ {A : Type 0} (b c : A → Bool) where
  odd_in-xor : (xs : List A) → odd_in (λ x. xor (b x) (c x)) xs ≡ xor (odd_in b xs) (odd_in c xs)
  odd_in-xor [] = refl
  odd_in-xor (x ∷ xs) = ap (xor (xor (b x) (c x))) (odd_in-xor xs) ∙ xor-across (b x) (c x) (odd_in b xs) (odd_in c xs)

-- those after the place are those after the first end but for those that are passed
pub ahead_of_passed : (k : Side) (c : Plane) (s : Part) (o : Corner) (e : Edge s) (n m : ℤ)
    → odd_in (border_ahead k c s o e n m) s.triangles ≡ xor (odd_in (border_ahead k c s o e (pos 0) (pos 1)) s.triangles) (odd_in (border_passed k c s o e n m) s.triangles)
ahead_of_passed k c s o e n m =
    sym (ap (xor start) (odd_in-xor (border_ahead k c s o e (pos 0) (pos 1)) (border_ahead k c s o e n m) s.triangles)
    ∙ sym (xor-assoc start start here) ∙ ap (λ x. xor x here) (xor-twice start))
  where
    start : Bool
    start = odd_in (border_ahead k c s o e (pos 0) (pos 1)) s.triangles

    here : Bool
    here = odd_in (border_ahead k c s o e n m) s.triangles

-- what is decided by a test counts 1 where that is true
pub one_decided : {P : Type 0} (b : Bool) (n : ℕ) → Decides b P → IsOneWhere P n → pos n ≡ worth b
one_decided b n decides (inl (e, p)) = ap (λ (i : ℕ). pos i) e ∙ sym (ap worth (decides.1 p))
one_decided b n decides (inr (e, no_p)) = ap (λ (i : ℕ). pos i) e ∙ sym (ap worth (false_from_ne_true b (λ t. no_p (decides.0 t))))

-- ---- of a list
-- a sum of ones, and whether it is odd
abbrev IsOddSum : ℤ → Bool → Type 0
IsOddSum z b = (k : ℕ) × (z ≡ pos k) × (is_odd k ≡ b)

one_more : (z : ℤ) (b x : Bool) → IsOddSum z b → IsOddSum (worth x +ℤ z) (xor x b)
one_more z b false (k, e, odd) = (k, ap (λ v. pos 0 +ℤ v) e ∙ same k, odd)
  where
    same : (k : ℕ) → pos 0 +ℤ pos k ≡ pos k
    same k = omega (arith, ints)
one_more z b true (k, e, odd) = (suc k, ap (λ v. pos 1 +ℤ v) e ∙ more k, ap (xor true) odd)
  where
    more : (k : ℕ) → pos 1 +ℤ pos k ≡ pos (suc k)
    more k = omega (arith, ints)

odd_total : {A : Type 0} (b : A → Bool) (xs : List A) → IsOddSum (total (λ x. worth (b x)) xs) (odd_in b xs)
odd_total b [] = (0, refl, refl)
odd_total b (x ∷ xs) = one_more _ _ (b x) (odd_total b xs)

odd_sum : (b : ℕ → Bool) (n : ℕ) → IsOddSum (sum_below (λ i. worth (b i)) n) (odd_below b n)
odd_sum b zero = (0, refl, refl)
odd_sum b (suc n) =
    let r = one_more _ _ (b n) (odd_sum b n) in
    (r.0, exchanged (sum_below (λ i. worth (b i)) n) (worth (b n)) ∙ r.1, r.2 ∙ xor-comm (b n) (odd_below b n))
  where
    exchanged : (x y : ℤ) → x +ℤ y ≡ y +ℤ x
    exchanged x y = omega (arith, ints)

one_oddness : (z z' : ℤ) (b b' : Bool) → z ≡ z' → IsOddSum z b → IsOddSum z' b' → b ≡ b'
one_oddness z z' b b' e (k, is, odd) (l, is', odd') = sym odd ∙ ap is_odd (same k l (sym is ∙ e ∙ is')) ∙ odd'
  where
    same : (k l : ℕ) → pos k ≡ pos l → k ≡ l
    same k l e = omega (arith, ints)

-- a number of a list is below the bound of all of them
pub listed_below : (n : ℕ) (xs : List ℕ) → All (λ i. i < n) xs → (i : ℕ) → IsIn i xs → i < n
listed_below n xs within i h = let r = in_place xs i h in subst (λ (j : ℕ). j < n) r.2 (within r.0 i r.1)

-- an odd number below the bound pass where an odd number of a list do, that has each one which passes
pub odd_listed : (b : ℕ → Bool) (n : ℕ) (numbers : List ℕ) → All (λ i. i < n) numbers → AllPairs ◌≢◌ numbers → ((i : ℕ) → i < n → b i ≡ true → Contains numbers i)
    → {A : Type 0} (turns : A → Bool) (xs : List A) → AllZip (λ i x. b i ≡ turns x) numbers xs → odd_below b n ≡ odd_in turns xs
odd_listed b n numbers within once whole turns xs all =
    one_oddness _ _ _ _
    (listed_sum (λ x. worth (turns x)) n (λ i. worth (b i)) numbers xs (different numbers once)
    (zip_in (λ i x. b i ≡ turns x) (λ i x. (i < n) × (worth (turns x) ≡ worth (b i))) numbers xs (λ i x there e. (listed_below n numbers within i there, ap worth (sym e))) all)
    (λ i l out. ap worth (false_from_ne_true (b i) (λ e. out (place_in numbers i (whole i l e))))))
    (odd_sum b n) (odd_total turns xs)
