-- What stands at each place of a list, going around it, and in its fans.
use Rattle.std.proofs.Common.{◌≡◌, ℕ, zero, suc, ◌+◌, ◌<◌, ◌≤◌, List, [], ◌∷◌, ◌++◌, length, take, drop, map, slice_get, Some, refl, sym, ap, ◌∙◌, arith, length-append}
use Rattle.std.specs.List.{zip}
use Rattle.std.proofs.lemmas.List.{take-append-drop, length-map}
use Rattle.off_reader.specs.Fans.{turned, neighbours, around, fan_of}
use Rattle.off_reader.specs.inner.Fans.{twice}

-- ---- places
from_zero : (k : ℕ) → 0 + k ≡ k
from_zero k = omega arith

suc_out : (n k : ℕ) → suc n + k ≡ suc (n + k)
suc_out n k = omega arith

one_more : (k : ℕ) → k + 1 ≡ suc k
one_more k = omega arith

pub at_front : {X : Type 0} (xs ys : List X) (k : ℕ) → k < length xs → slice_get (xs ++ ys) k ≡ slice_get xs k
at_front [] ys k h = absurd (omega arith)
at_front (x ∷ xs) ys zero h = refl
at_front (x ∷ xs) ys (suc k) h = at_front xs ys k (omega arith)

pub at_back : {X : Type 0} (xs ys : List X) (k : ℕ) → slice_get (xs ++ ys) (length xs + k) ≡ slice_get ys k
at_back [] ys k = ap (λ (n : ℕ). slice_get ys n) (from_zero k)
at_back (x ∷ xs) ys k = ap (λ (n : ℕ). slice_get (x ∷ (xs ++ ys)) n) (suc_out (length xs) k) ∙ at_back xs ys k

pub at_drop : {X : Type 0} (xs : List X) (n k : ℕ) → slice_get (drop n xs) k ≡ slice_get xs (n + k)
at_drop xs zero k = ap (λ (n : ℕ). slice_get xs n) (sym (from_zero k))
at_drop [] (suc n) k = refl
at_drop (x ∷ xs) (suc n) k = at_drop xs n k ∙ ap (λ (m : ℕ). slice_get (x ∷ xs) m) (sym (suc_out n k))

pub at_zip : {X Y : Type 0} (xs : List X) (ys : List Y) (k : ℕ) (x : X) (y : Y) → slice_get xs k ≡ Some x → slice_get ys k ≡ Some y → slice_get (zip xs ys) k ≡ Some (x, y)
at_zip [] ys k x y h g = cc
at_zip (a ∷ xs) [] k x y h g = cc
at_zip (a ∷ xs) (b ∷ ys) zero x y h g = cc
at_zip (a ∷ xs) (b ∷ ys) (suc k) x y h g = at_zip xs ys k x y h g

pub at_map : {X Y : Type 0} (f : X → Y) (xs : List X) (k : ℕ) (x : X) → slice_get xs k ≡ Some x → slice_get (map f xs) k ≡ Some (f x)
at_map f [] k x h = cc
at_map f (a ∷ xs) zero x h = cc
at_map f (a ∷ xs) (suc k) x h = at_map f xs k x h

taken_next : {X : Type 0} (xs : List X) (k : ℕ) (x : X) → slice_get xs k ≡ Some x → take (suc k) xs ≡ take k xs ++ x ∷ []
taken_next [] k x h = cc
taken_next (a ∷ xs) zero x h = cc
taken_next {X} (a ∷ xs) (suc k) x h = ap (λ (ys : List X). a ∷ ys) (taken_next xs k x h)

-- the first elements, and one more
pub taken : {X : Type 0} (xs : List X) (k : ℕ) (x : X) → slice_get xs k ≡ Some x → take (k + 1) xs ≡ take k xs ++ x ∷ []
taken xs k x h = ap (λ (n : ℕ). take n xs) (one_more k) ∙ taken_next xs k x h

left_next : {X : Type 0} (xs : List X) (k : ℕ) (x : X) → slice_get xs k ≡ Some x → drop k xs ≡ x ∷ drop (suc k) xs
left_next [] k x h = cc
left_next (a ∷ xs) zero x h = cc
left_next (a ∷ xs) (suc k) x h = left_next xs k x h

-- what is left from an element on
pub left : {X : Type 0} (xs : List X) (k : ℕ) (x : X) → slice_get xs k ≡ Some x → drop k xs ≡ x ∷ drop (k + 1) xs
left {X} xs k x h = left_next xs k x h ∙ ap (λ (n : ℕ). x ∷ drop n xs) (sym (one_more k))

-- ---- going around
associated : {X : Type 0} (xs ys zs : List X) → (xs ++ ys) ++ zs ≡ xs ++ (ys ++ zs)
associated [] ys zs = refl
associated (x ∷ xs) ys zs = ap (λ (l : List _). x ∷ l) (associated xs ys zs)

long_front : {X : Type 0} (n : ℕ) (xs : List X) → n ≤ length xs → length (take n xs) ≡ n
long_front zero xs h = refl
long_front (suc n) [] h = absurd (omega arith)
long_front (suc n) (x ∷ xs) h = ap suc (long_front n xs (omega arith))

pub long_rest : {X : Type 0} (n : ℕ) (xs : List X) → n ≤ length xs → n + length (drop n xs) ≡ length xs
long_rest zero xs h = from_zero (length xs)
long_rest (suc n) [] h = absurd (omega arith)
long_rest (suc n) (x ∷ xs) h = suc_out n (length (drop n xs)) ∙ ap suc (long_rest n xs (omega arith))

pub long_turned : {X : Type 0} (j : ℕ) (xs : List X) → j ≤ length xs → length (turned j xs) ≡ length xs
long_turned j xs h = omega (arith, length-append (drop j xs) (take j xs), long_front j xs h, long_rest j xs h)

-- of two parts, the second and the first
crossed : {X : Type 0} (front back : List X) (k : ℕ) → k < length (back ++ front) → slice_get (back ++ front) k ≡ slice_get (twice (front ++ back)) (length front + k)
crossed front back k h =
    sym (
    ap (λ (l : List _). slice_get l (length front + k)) (associated front back (front ++ back))
    ∙ at_back front (back ++ (front ++ back)) k
    ∙ ap (λ (l : List _). slice_get l k) (sym (associated back front back))
    ∙ at_front (back ++ front) back k h)

pub at_turned : {X : Type 0} (j : ℕ) (xs : List X) (k : ℕ) → j ≤ length xs → k < length xs → slice_get (turned j xs) k ≡ slice_get (twice xs) (j + k)
at_turned j xs k h g =
    crossed (take j xs) (drop j xs) k (omega (arith, long_turned j xs h))
    ∙ ap (λ (l : List _). slice_get (twice l) (length (take j xs) + k)) (take-append-drop j xs)
    ∙ ap (λ (n : ℕ). slice_get (twice xs) (n + k)) (long_front j xs h)

-- ---- pairs
-- the pair at a place, around
pub at_around : {X : Type 0} (xs : List X) (k : ℕ) (a b : X) → k < length xs → slice_get (twice xs) k ≡ Some a → slice_get (twice xs) (k + 1) ≡ Some b → slice_get (around xs) k ≡ Some (a, b)
at_around xs k a b within first next =
    at_zip xs (turned 1 xs) k a b (sym (at_front xs xs k within) ∙ first) (
    at_turned 1 xs k (omega arith) within
    ∙ ap (λ (n : ℕ). slice_get (twice xs) n) (omega arith)
    ∙ next)

-- the triangle at a place of a fan
pub at_fan : {X Y : Type 0} (triangle : X → X → X → Y) (xs : List X) (k : ℕ) (a b c : X)
    → slice_get xs 0 ≡ Some a → slice_get xs (k + 1) ≡ Some b → slice_get xs (k + 2) ≡ Some c → slice_get (fan_of triangle xs) k ≡ Some (triangle a b c)
at_fan triangle [] k a b c first second third = cc
at_fan {X} triangle (x ∷ xs) k a b c first second third =
    let same : x ≡ a = some_of first in
    let pair : slice_get (neighbours xs) k ≡ Some (b, c) = at_zip xs (drop 1 xs) k b c
    (ap (λ (n : ℕ). slice_get (x ∷ xs) n) (suc_of k) ∙ second)
    (at_drop xs 1 k ∙ ap (λ (n : ℕ). slice_get (x ∷ xs) n) (suc_two k) ∙ third) in
    at_map (λ e. triangle x e.0 e.1) (neighbours xs) k (b, c) pair ∙ ap (λ (y : X). Some (triangle y b c)) same
  where
    some_of : {X : Type 0} {x y : X} → Some x ≡ Some y → x ≡ y
    some_of h = cc

    suc_of : (k : ℕ) → suc k ≡ k + 1
    suc_of k = omega arith

    suc_two : (k : ℕ) → suc (1 + k) ≡ k + 2
    suc_two k = omega arith

-- the triangle at a place of the fan from place j
pub at_fan_from : {X Y : Type 0} (triangle : X → X → X → Y) (xs : List X) (j k : ℕ) (a b c : X)
    → j < length xs → k + 2 < length xs → slice_get (twice xs) j ≡ Some a → slice_get (twice xs) (j + k + 1) ≡ Some b → slice_get (twice xs) (j + k + 2) ≡ Some c
    → slice_get (fan_of triangle (turned j xs)) k ≡ Some (triangle a b c)
at_fan_from {X} triangle xs j k a b c place within first second third =
    at_fan triangle (turned j xs) k a b c
    (moved 0 j (omega arith) (omega arith) ∙ first)
    (moved (k + 1) (j + k + 1) (omega arith) (omega arith) ∙ second)
    (moved (k + 2) (j + k + 2) (omega arith) (omega arith) ∙ third)
  where
    moved : (m n : ℕ) → m < length xs → j + m ≡ n → slice_get (turned j xs) m ≡ slice_get (twice xs) n
    moved m n h e = at_turned j xs m (omega arith) h ∙ ap (λ (i : ℕ). slice_get (twice xs) i) e

-- ---- lengths
long_neighbours : {X : Type 0} (x : X) (xs : List X) → length (neighbours (x ∷ xs)) ≡ length xs
long_neighbours x [] = refl
long_neighbours x (y ∷ xs) = ap suc (long_neighbours y xs)

pub long_fan : {X Y : Type 0} (triangle : X → X → X → Y) (xs : List X) → 2 < length xs → length (fan_of triangle xs) + 2 ≡ length xs
long_fan triangle [] h = absurd (omega arith)
long_fan triangle (x ∷ []) h = absurd (omega arith)
long_fan triangle (x ∷ y ∷ xs) h = omega (arith, length-map (neighbours (y ∷ xs)) (λ e. triangle x e.0 e.1), long_neighbours y xs)

pub long_fan_from : {X Y : Type 0} (triangle : X → X → X → Y) (xs : List X) (j : ℕ) → 3 < length xs → j < length xs → length (fan_of triangle (turned j xs)) + 2 ≡ length xs
long_fan_from triangle xs j some place =
    let same = long_turned j xs (omega arith) in
    long_fan triangle (turned j xs) (omega (arith, same)) ∙ same

pub long_around : {X : Type 0} (xs : List X) → length (around xs) ≡ length xs
long_around [] = refl
long_around (x ∷ xs) = long_zip (x ∷ xs) (turned 1 (x ∷ xs)) (sym (long_turned 1 (x ∷ xs) (omega arith)))
  where
    long_zip : {X Y : Type 0} (xs : List X) (ys : List Y) → length xs ≡ length ys → length (zip xs ys) ≡ length xs
    long_zip [] ys e = refl
    long_zip (x ∷ xs) [] e = absurd (omega arith)
    long_zip (x ∷ xs) (y ∷ ys) e = ap suc (long_zip xs ys (omega arith))
