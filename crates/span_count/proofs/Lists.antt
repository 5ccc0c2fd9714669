-- Lists: their fronts, place by place, and how many elements they have.
use Rattle.std.proofs.Common.{◌≡◌, ℕ, zero, suc, ◌+◌, ◌<◌, ◌≤◌, List, [], ◌∷◌, ◌++◌, Contains, Option, Some, None, length, take, get_or, set, slice_get, refl, subst, ap, ◌∙◌, arith}
use Rattle.std.specs.List.{AllZip, filter_map}
use Rattle.integers.proofs.Lists.{front_more}
use Rattle.std.proofs.lemmas.List.Elements.{Contains-append_right}
use Rattle.std.proofs.lemmas.Option.{slice_get_within, get_or_from_slice_get, same_Some}
use Rattle.geometry.specs.Cuts.{IsCount}
use Rattle.geometry.specs.Cuts.IsCount.{nothing, counted, skipped}

-- ---- the front of a list, and one element more
pub front_get : {X : Type 0} (xs : List X) (k : ℕ) (x : X) → slice_get xs k ≡ Some x → take k xs ++ x ∷ [] ≡ take (k + 1) xs
front_get xs k x at = front_more xs k x (slice_get_within xs k x at) (get_or_from_slice_get xs k x x at)

pub none_past : (xs : List ℕ) (i : ℕ) → slice_get xs i ≡ None → length xs ≤ i
none_past [] i e = omega arith
none_past (x ∷ xs) zero e = absurd (cc)
none_past (x ∷ xs) (suc i) e = let h = none_past xs i e in omega arith

-- ---- two lists place by place
pub all_zip_push : {A B : Type 0} (R : A → B → Type 0) (xs : List A) (ys : List B) (x : A) (y : B) → AllZip R xs ys → R x y → AllZip R (xs ++ x ∷ []) (ys ++ y ∷ [])
all_zip_push R [] [] x y h r = (r, tt)
all_zip_push R [] (z ∷ zs) x y h r = absurd h
all_zip_push R (z ∷ zs) [] x y h r = absurd h
all_zip_push R (w ∷ ws) (z ∷ zs) x y h r = (h.0, all_zip_push R ws zs x y h.1 r)

pub all_zip_weaker : {A B : Type 0} (R Q : A → B → Type 0) → ((x : A) (y : B) → R x y → Q x y) → (xs : List A) (ys : List B) → AllZip R xs ys → AllZip Q xs ys
all_zip_weaker R Q f [] [] h = tt
all_zip_weaker R Q f [] (y ∷ ys) h = absurd h
all_zip_weaker R Q f (x ∷ xs) [] h = absurd h
all_zip_weaker R Q f (x ∷ xs) (y ∷ ys) h = (f x y h.0, all_zip_weaker R Q f xs ys h.1)

-- what is there of optional items is one of them
pub zip_some : {A B : Type 0} (R : A → Option B → Type 0) (xs : List A) (ys : List (Option B)) → AllZip R xs ys → (y : B) → Contains (filter_map (λ (o : Option B). o) ys) y → (x : A) × Contains xs x × R x (Some y)
zip_some R [] [] h y c = absurd (omega (arith, c.1))
zip_some R [] (z ∷ ys) h y c = absurd h
zip_some R (x ∷ xs) [] h y c = absurd h
zip_some R (x ∷ xs) (None ∷ ys) h y c =
    let (w, there, r) = zip_some R xs ys h.1 y c in
    (w, Contains-append_right (x ∷ []) xs w there, r)
zip_some R (x ∷ xs) (Some z ∷ ys) h y (zero, within, is) = (x, (0, omega arith, refl), subst (λ w. R x (Some w)) is h.0)
zip_some {A} R (x ∷ xs) (Some z ∷ ys) h y (suc k, within, is) =
    let (w, there, r) = zip_some R xs ys h.1 y (k, omega arith, is) in
    (w, Contains-append_right (x ∷ []) xs w there, r)

-- ---- how many
pub count_few : {A : Type 0} {P : A → Type 0} (xs : List A) (n : ℕ) → IsCount A P xs n → n ≤ length xs
count_few [] n nothing = omega arith
count_few (x ∷ xs) n (counted _ _ k p h) = let r = count_few xs k h in omega arith
count_few (x ∷ xs) n (skipped _ _ k p h) = let r = count_few xs n h in omega arith

-- each relates to at most one, so the lists that go with a list are one list
pub zip_one : {A B : Type 0} (R : A → B → Type 0) → ((x : A) (y z : B) → R x y → R x z → y ≡ z) → (xs : List A) (ys zs : List B) → AllZip R xs ys → AllZip R xs zs → ys ≡ zs
zip_one R one [] [] [] p q = refl
zip_one R one [] [] (z ∷ zs) p q = absurd q
zip_one R one [] (y ∷ ys) zs p q = absurd p
zip_one R one (x ∷ xs) [] zs p q = absurd p
zip_one R one (x ∷ xs) (y ∷ ys) [] p q = absurd q
zip_one R one (x ∷ xs) (y ∷ ys) (z ∷ zs) p q = ap (λ w. w ∷ ys) (one x y z p.0 q.0) ∙ ap (λ ws. z ∷ ws) (zip_one R one xs ys zs p.1 q.1)

pub zip_each : {A B : Type 0} (R : A → B → Type 0) (xs : List A) (ys : List B) → length ys ≡ length xs → ((i : ℕ) (x : A) (y : B) → slice_get xs i ≡ Some x → slice_get ys i ≡ Some y → R x y) → AllZip R xs ys
zip_each R [] [] long each = tt
zip_each R [] (y ∷ ys) long each = absurd (omega arith)
zip_each R (x ∷ xs) [] long each = absurd (omega arith)
zip_each R (x ∷ xs) (y ∷ ys) long each = (each 0 x y refl refl, zip_each R xs ys (omega arith) (λ i v w p q. each (suc i) v w p q))

pub zip_long : {A B : Type 0} (R : A → B → Type 0) (xs : List A) (ys : List B) → AllZip R xs ys → length ys ≡ length xs
zip_long R [] [] h = refl
zip_long R [] (y ∷ ys) h = absurd h
zip_long R (x ∷ xs) [] h = absurd h
zip_long R (x ∷ xs) (y ∷ ys) h = ap suc (zip_long R xs ys h.1)

pub zip_at : {A B : Type 0} (R : A → B → Type 0) (xs : List A) (ys : List B) → AllZip R xs ys → (i : ℕ) (x : A) (d : B) → slice_get xs i ≡ Some x → R x (get_or ys i d)
zip_at R [] ys h i x d e = absurd (cc)
zip_at R (x ∷ xs) [] h i z d e = absurd h
zip_at R (x ∷ xs) (y ∷ ys) h zero z d e = subst (λ w. R w y) (same_Some x z e) h.0
zip_at R (x ∷ xs) (y ∷ ys) h (suc i) z d e = zip_at R xs ys h.1 i z d e

-- ---- one element changed
pub slice_get-set_same : {X : Type 0} (xs : List X) (i : ℕ) (v : X) → i < length xs → slice_get (set xs i v) i ≡ Some v
slice_get-set_same [] i v within = absurd (omega arith)
slice_get-set_same (x ∷ xs) zero v within = refl
slice_get-set_same (x ∷ xs) (suc i) v within = slice_get-set_same xs i v (omega arith)

pub slice_get-set_other : {X : Type 0} (xs : List X) (i j : ℕ) (v z : X) → (j ≡ i → ⊥) → slice_get xs j ≡ Some z → slice_get (set xs i v) j ≡ Some z
slice_get-set_other [] i j v z differ e = absurd (cc)
slice_get-set_other (x ∷ xs) zero zero v z differ e = absurd (differ refl)
slice_get-set_other (x ∷ xs) zero (suc j) v z differ e = e
slice_get-set_other (x ∷ xs) (suc i) zero v z differ e = e
slice_get-set_other (x ∷ xs) (suc i) (suc j) v z differ e = slice_get-set_other xs i j v z (λ p. differ (ap suc p)) e
