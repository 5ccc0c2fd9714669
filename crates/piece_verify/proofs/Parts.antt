-- A text is parted at the first of a byte in one way only.
use Rattle.std.proofs.Common.{◌≡◌, ◌≢◌, ℕ, ◌+◌, ◌<◌, List, [], ◌∷◌, ◌++◌, length, get_or, take, refl, sym, take-suc, add-one}
use Rattle.piece_verify.specs.Columns.{IsFree}

pub free-append : (byte : ℕ) (xs ys : List ℕ) → IsFree byte xs → IsFree byte ys → IsFree byte (xs ++ ys)
free-append byte [] ys h k = k
free-append byte (x ∷ xs) ys h k = (h.0, free-append byte xs ys h.1 k)

-- the byte itself is not free of itself
pub not_free : (byte : ℕ) (xs ys : List ℕ) → IsFree byte (xs ++ byte ∷ ys) → ⊥
not_free byte [] ys h = h.0 refl
not_free byte (x ∷ xs) ys h = not_free byte xs ys h.1

pub same_parts : (byte : ℕ) (xs ys us vs : List ℕ) → IsFree byte xs → IsFree byte us → xs ++ byte ∷ ys ≡ us ++ byte ∷ vs → (xs ≡ us) × (ys ≡ vs)
same_parts byte [] ys [] vs h k e = (refl, cc)
same_parts byte [] ys (u ∷ us) vs h k e = absurd (k.0 (let n : byte ≡ u = cc in sym n))
same_parts byte (x ∷ xs) ys [] vs h k e = absurd (h.0 (let n : x ≡ byte = cc in n))
same_parts byte (x ∷ xs) ys (u ∷ us) vs h k e =
    let heads : x ≡ u = cc in
    let tails : xs ++ byte ∷ ys ≡ us ++ byte ∷ vs = cc in
    let rest = same_parts byte xs ys us vs h.1 k.1 tails in
    (let first : xs ≡ us = rest.0 in let all : x ∷ xs ≡ u ∷ us = cc in all, rest.1)

-- one place further
pub free-more : (byte : ℕ) (text : List ℕ) (at : ℕ) → at < length text → IsFree byte (take at text) → get_or text at 0 ≢ byte → IsFree byte (take (at + 1) text)
free-more byte text at within before other =
    rw (add-one at, take-suc text at 0 within) (free-append byte (take at text) (get_or text at 0 ∷ []) before (other, tt))
