-- Tests and what they say.
use Rattle.std.proofs.Common.{◌≡◌, ◌↔◌, ℕ, zero, suc, ◌+◌, ◌<◌, Bool, true, false, List, [], ◌∷◌, ◌++◌, length, take, get_or, slice_get, Some, refl, sym, ap, subst, arith}
use Rattle.std.specs.Prelude.{IsTrue, MatchBool}
use Rattle.std.specs.List.{AllZip}
use Rattle.std.proofs.lemmas.List.{take_more}
use Rattle.line_merge.proofs.Zips.{zip_push}

-- what follows from what a test says
pub match_of : (b : Bool) (P Yes No : Type 0) → IsTrue b ↔ P → (P → Yes) → (¬ P → No) → MatchBool b Yes No
match_of true P Yes No told if_so if_not = if_so (told.0 refl)
match_of false P Yes No told if_so if_not = if_not (λ p. cc_of (told.1 p))
  where
    cc_of : IsTrue false → ⊥
    cc_of h = cc

pub match_true : (b : Bool) (Yes No : Type 0) → MatchBool b Yes No → b ≡ true → Yes
match_true b Yes No told e = subst (λ (x : Bool). MatchBool x Yes No) e told

pub match_false : (b : Bool) (Yes No : Type 0) → MatchBool b Yes No → b ≡ false → No
match_false b Yes No told e = subst (λ (x : Bool). MatchBool x Yes No) e told

-- ---- lists by their numbers
pub at_number : {A : Type 0} (xs : List A) (k : ℕ) (x : A) → k < length xs → x ≡ get_or xs k x → slice_get xs k ≡ Some x
at_number [] k x less is = absurd (omega arith)
at_number (y ∷ xs) zero x less is = ap (λ z. Some z) (sym is)
at_number (y ∷ xs) (suc k) x less is = at_number xs k x (omega arith) is

pub at_flag : (xs : List Bool) (k : ℕ) → k < length xs → slice_get xs k ≡ Some (get_or xs k false)
at_flag [] k less = absurd (omega arith)
at_flag (y ∷ xs) zero less = refl
at_flag (y ∷ xs) (suc k) less = at_flag xs k (omega arith)

pub one_there : {A : Type 0} (xs : List A) (k : ℕ) → k < length xs → (x : A) × (slice_get xs k ≡ Some x)
one_there [] k less = absurd (omega arith)
one_there (y ∷ xs) zero less = (y, refl)
one_there (y ∷ xs) (suc k) less = one_there xs k (omega arith)

pub zip_length : {A B : Type 0} (R : A → B → Type 0) (xs : List A) (ys : List B) → AllZip R xs ys → length ys ≡ length xs
zip_length R [] [] h = refl
zip_length R [] (y ∷ ys) h = absurd h
zip_length R (x ∷ xs) [] h = absurd h
zip_length R (x ∷ xs) (y ∷ ys) (r, h) = ap (λ (n : ℕ). suc n) (zip_length R xs ys h)

-- one more of both lists, the second of tests
pub zip_flags : {A : Type 0} (R : A → Bool → Type 0) (xs : List A) (ys : List Bool) (k : ℕ) (x : A) → k < length xs → k < length ys → x ≡ get_or xs k x → AllZip R (take k xs) (take k ys) → R x (get_or ys k false)
    → AllZip R (take (k + 1) xs) (take (k + 1) ys)
zip_flags {A} R xs ys k x less less' is h r =
    subst (λ (zs : List A). AllZip R zs (take (k + 1) ys)) (sym (take_more xs k x less))
    (subst (λ (zs : List Bool). AllZip R (take k xs ++ get_or xs k x ∷ []) zs) (sym (take_more ys k false less'))
    (zip_push R (take k xs) (take k ys) (get_or xs k x) (get_or ys k false) h (subst (λ (z : A). R z (get_or ys k false)) is r)))
