-- Lists of loops, counts, and what is picked of a list.
use Rattle.std.proofs.Common.{◌≡◌, ℕ, zero, suc, ◌+◌, ◌<◌, List, [], ◌∷◌, ◌++◌, length, take, drop, get_or, slice_get, Some, refl, sym, ap, subst, ◌∙◌, arith, append-nil, append_assoc, Vec, Global}
use Rattle.std.specs.List.{All}
use Rattle.std.proofs.lemmas.List.{take_more}
use Rattle.std.proofs.lemmas.List.Elements.{All-contains, Contains-append_left, Contains-append_right}
use Rattle.geometry.specs.Cuts.{IsCount, nothing, counted, skipped}
use Rattle.cut_plane.specs.declared.segments.Segment.{Segment}
use Rattle.cut_plane.proofs.Lists.{each_contains}
use Rattle.section_look.specs.Regions.{lists_of, ArePicked, none, picked, passed}

-- a list has one count
pub count_same : {A : Type 0} {P : A → Type 0} (xs : List A) (m n : ℕ) → IsCount A P xs m → IsCount A P xs n → m ≡ n
count_same [] m n nothing nothing = refl
count_same (x ∷ xs) m n (counted _ _ k p rest) (counted _ _ l q others) = ap (λ (i : ℕ). suc i) (count_same xs k l rest others)
count_same (x ∷ xs) m n (counted _ _ k p rest) (skipped _ _ l q others) = absurd (q p)
count_same (x ∷ xs) m n (skipped _ _ k p rest) (counted _ _ l q others) = absurd (p q)
count_same (x ∷ xs) m n (skipped _ _ k p rest) (skipped _ _ l q others) = count_same xs m n rest others

-- ---- lists of vectors
pub lists_more : (vs : List (Vec Segment Global)) (v : Vec Segment Global) → lists_of (vs ++ v ∷ []) ≡ lists_of vs ++ v.items ∷ []
lists_more [] v = refl
lists_more (w ∷ vs) v = ap (λ (xs : List (List Segment)). w.items ∷ xs) (lists_more vs v)

pub lists_take : (vs : List (Vec Segment Global)) (k : ℕ) → lists_of (take k vs) ≡ take k (lists_of vs)
lists_take vs zero = refl
lists_take [] (suc k) = refl
lists_take (w ∷ vs) (suc k) = ap (λ (xs : List (List Segment)). w.items ∷ xs) (lists_take vs k)

pub lists_drop : (vs : List (Vec Segment Global)) (k : ℕ) → lists_of (drop k vs) ≡ drop k (lists_of vs)
lists_drop vs zero = refl
lists_drop [] (suc k) = refl
lists_drop (w ∷ vs) (suc k) = lists_drop vs k

pub lists_length : (vs : List (Vec Segment Global)) → length (lists_of vs) ≡ length vs
lists_length [] = refl
lists_length (w ∷ vs) = ap (λ (i : ℕ). suc i) (lists_length vs)

pub lists_get : (vs : List (Vec Segment Global)) (k : ℕ) (v : Vec Segment Global) → k < length vs → v ≡ get_or vs k v → slice_get (lists_of vs) k ≡ Some v.items
lists_get [] k v less is = absurd (omega arith)
lists_get (w ∷ vs) zero v less is = ap (λ (u : Vec Segment Global). Some u.items) (sym is)
lists_get (w ∷ vs) (suc k) v less is = lists_get vs k v (omega arith) is

-- the first of the lists, and one more
pub lists_take_more : (vs : List (Vec Segment Global)) (k : ℕ) (v : Vec Segment Global) → k < length vs → v ≡ get_or vs k v → lists_of (take (k + 1) vs) ≡ lists_of (take k vs) ++ v.items ∷ []
lists_take_more vs k v less is =
    ap (λ (us : List (Vec Segment Global)). lists_of us) (take_more vs k v less)
    ∙ lists_more (take k vs) (get_or vs k v)
    ∙ ap (λ (u : Vec Segment Global). lists_of (take k vs) ++ u.items ∷ []) (sym is)

pub all_at : (P : List Segment → Type 0) (vs : List (Vec Segment Global)) (k : ℕ) (v : Vec Segment Global) → k < length vs → v ≡ get_or vs k v → All P (lists_of vs) → P v.items
all_at P [] k v less is all = absurd (omega arith)
all_at P (w ∷ vs) zero v less is all = subst (λ (u : Vec Segment Global). P u.items) (sym is) (all zero w.items (omega arith))
all_at P (w ∷ vs) (suc k) v less is all = all_at P vs k v (omega arith) is (λ j e within. all (suc j) e (omega arith))

-- ---- parts of a list
pub all_left : {A : Type 0} (P : A → Type 0) (xs ys : List A) → All P (xs ++ ys) → All P xs
all_left P xs ys all = each_contains P xs (λ x there. All-contains P (xs ++ ys) x all (Contains-append_left xs ys x there))

pub all_right : {A : Type 0} (P : A → Type 0) (xs ys : List A) → All P (xs ++ ys) → All P ys
all_right P xs ys all = each_contains P ys (λ y there. All-contains P (xs ++ ys) y all (Contains-append_right xs ys y there))

-- ---- what is picked
pub picked_append : {A : Type 0} (P : A → Type 0) (xs us ys vs : List A) → ArePicked P xs us → ArePicked P ys vs → ArePicked P (xs ++ ys) (us ++ vs)
picked_append {A} P xs us ys vs h none = subst (λ (zs : List A). ArePicked P zs (us ++ [])) (sym (append-nil xs)) (subst (λ (zs : List A). ArePicked P xs zs) (sym (append-nil us)) h)
picked_append {A} P xs us ys vs h (picked ys' vs' y more p) =
    subst (λ (zs : List A). ArePicked P zs (us ++ (vs' ++ y ∷ []))) (append_assoc xs ys' (y ∷ []))
    (subst (λ (zs : List A). ArePicked P ((xs ++ ys') ++ y ∷ []) zs) (append_assoc us vs' (y ∷ [])) (picked (xs ++ ys') (us ++ vs') y (picked_append P xs us ys' vs' h more) p))
picked_append {A} P xs us ys vs h (passed ys' _ y more p) =
    subst (λ (zs : List A). ArePicked P zs (us ++ vs)) (append_assoc xs ys' (y ∷ [])) (passed (xs ++ ys') (us ++ vs) y (picked_append P xs us ys' vs h more) p)
