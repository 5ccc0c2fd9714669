-- Whether the section is there changes with each border that is passed: along a sorted list, the changes before a place are what it is there less what it was at first.
use Rattle.std.proofs.Common.{◌≡◌, ℕ, suc, ◌<◌, ◌≤◌, Bool, true, false, List, [], ◌∷◌, ◌++◌, Contains, length, get_or, refl, sym, subst, ap, ◌∙◌, arith, is_lt}
use Rattle.std.specs.Prelude.{ℤ, pos, negsuc, ◌+ℤ◌, ◌-ℤ◌, ◌*ℤ◌, ◌<ℤ◌, ◌≤ℤ◌}
use Rattle.std.specs.Int.Signed.{lt_z}
use Rattle.std.specs.List.Sorted.{IsSortedByKey}
use Rattle.std.proofs.lemmas.Bool.{false_from_ne_true, false≢true}
use Rattle.std.proofs.lemmas.Int.{ints}
use Rattle.std.proofs.lemmas.List.Sorted.{sorted_far, ranks_by}
use Rattle.integers.proofs.Lists.{Contains-later}
use Rattle.integers.proofs.Orders.{at_most_of_not_lt, lt_z_of_less}
use Rattle.exact_frac.specs.declared.Frac.{Frac}
use Rattle.exact_frac.specs.Frac.{order_of}
use Rattle.exact_frac.specs.Laws.{order_of_total}
use Rattle.geometry.proofs.PlaceOrder.{most_less}
use Rattle.hiding_laws.proofs.SumsBelow.{keep}
use Rattle.cut_plane.proofs.Tested.{less_of}
use Rattle.cut_plane.proofs.Xors.{xor, xor-assoc, xor-none, odd_in}

-- ---- what a border changes
-- 1 where the section is there, and 0 where it is not
abbrev pub worth : Bool → ℤ
worth false = pos 0
worth true = pos 1

-- what the next border changes, by whether the section is there before it and whether the border is passed on that side
abbrev pub step : Bool → Bool → ℤ
step there false = pos 0
step false true = pos 1
step true true = negsuc 0

pub step-is : (there passed : Bool) → step there passed ≡ worth (xor there passed) -ℤ worth there
step-is false false = refl
step-is true false = refl
step-is false true = refl
step-is true true = refl

abbrev pub both : Bool → Bool → Bool
both false b = false
both true b = b

-- none of the elements passes the test of which an earlier one does not
abbrev pub IsFront : {A : Type 0} → (A → Bool) → List A → Type 0
IsFront before [] = Unit {0}
IsFront {A} before (x ∷ xs) = ((y : A) → Contains xs y → before y ≡ true → before x ≡ true) × IsFront before xs

module _ {A : Type 0} (passed : A → Bool) where
  -- what each of them changes, from the first on
  abbrev pub steps : Bool → List A → List ℤ
  steps there [] = []
  steps there (x ∷ xs) = step there (passed x) ∷ steps (xor there (passed x)) xs

  -- one more, by an odd number of those so far
  pub steps_push : (there : Bool) (xs : List A) (x : A) → steps there (xs ++ x ∷ []) ≡ steps there xs ++ step (xor there (odd_in passed xs)) (passed x) ∷ []
  steps_push there [] x = ap (λ b. step b (passed x) ∷ []) (sym (xor-none there))
  steps_push there (y ∷ xs) x =
      ap (λ zs. step there (passed y) ∷ zs)
      (steps_push (xor there (passed y)) xs x
      ∙ ap (λ b. steps (xor there (passed y)) xs ++ step b (passed x) ∷ []) (xor-assoc there (passed y) (odd_in passed xs)))

  -- ---- those before a place
  module _ (before : A → Bool) where
    abbrev pub passed_before : A → Bool
    passed_before x = both (before x) (passed x)

    -- the sum of those numbers whose elements are before it
    abbrev pub sum_before : List A → List ℤ → ℤ
    sum_before [] zs = pos 0
    sum_before (x ∷ xs) [] = pos 0
    sum_before (x ∷ xs) (z ∷ zs) = keep (before x) z +ℤ sum_before xs zs

    none_before : (xs : List A) (zs : List ℤ) → ((y : A) → Contains xs y → before y ≡ false) → (sum_before xs zs ≡ pos 0) × (odd_in passed_before xs ≡ false)
    none_before [] zs none = (refl, refl)
    none_before (x ∷ xs) [] none = (refl, (λ i. xor (both (none x (0, omega arith, refl) i) (passed x)) ((none_before xs [] (λ y there. none y (Contains-later x xs y there))).1 i)))
    none_before (x ∷ xs) (z ∷ zs) none =
        let rest = none_before xs zs (λ y there. none y (Contains-later x xs y there)) in
        ((λ i. keep (none x (0, omega arith, refl) i) z +ℤ rest.0 i), (λ i. xor (both (none x (0, omega arith, refl) i) (passed x)) (rest.1 i)))

    pub section_sums : (there : Bool) (xs : List A) → IsFront before xs → sum_before xs (steps there xs) ≡ worth (xor there (odd_in passed_before xs)) -ℤ worth there
    section_sums there [] front = sym ((λ i. worth (xor-none there i) -ℤ worth there) ∙ nothing (worth there))
      where
        nothing : (z : ℤ) → z -ℤ z ≡ pos 0
        nothing z = omega (arith, ints)
    section_sums there (x ∷ xs) front = by (section_sums (xor there (passed x)) xs front.1) (before x) refl
      where
        later : ℤ
        later = sum_before xs (steps (xor there (passed x)) xs)

        odd : Bool
        odd = odd_in passed_before xs

        through : (a b c d e : ℤ) → a ≡ c -ℤ d → b ≡ e -ℤ c → a +ℤ b ≡ e -ℤ d
        through a b c d e p q = omega (arith, ints)

        nothing : (a z : ℤ) → a ≡ pos 0 → pos 0 +ℤ a ≡ z -ℤ z
        nothing a z e = omega (arith, ints)

        by : later ≡ worth (xor (xor there (passed x)) odd) -ℤ worth (xor there (passed x)) → (b : Bool) → before x ≡ b → keep b (step there (passed x)) +ℤ later ≡ worth (xor there (xor (both b (passed x)) odd)) -ℤ worth there
        by rest true e =
            through (step there (passed x)) later (worth (xor there (passed x))) (worth there) (worth (xor (xor there (passed x)) odd))
            (step-is there (passed x)) rest
            ∙ (λ i. worth (xor-assoc there (passed x) odd i) -ℤ worth there)
        by rest false e =
            let none = none_before xs (steps (xor there (passed x)) xs) (λ y in_list. false_from_ne_true (before y) (λ is. false≢true (sym e ∙ front.0 y in_list is))) in
            nothing later (worth there) none.0
            ∙ sym (λ i. worth ((ap (xor there) none.1 ∙ xor-none there) i) -ℤ worth there)

-- ---- sorted by places
module _ {A : Type 0} (place : A → Frac) (n m : ℤ) (there : pos 0 <ℤ m) where
  abbrev pub is_before : A → Bool
  is_before x = lt_z ((place x).num *ℤ m) (n *ℤ (place x).den)

  abbrev IsNotAfter : A → A → Type 0
  IsNotAfter x y = ((place x).num *ℤ (place y).den) ≤ℤ ((place y).num *ℤ (place x).den)

  earlier : (x y : A) → IsNotAfter x y → is_before y ≡ true → is_before x ≡ true
  earlier x y order is = lt_z_of_less _ _ (most_less (place x).num (place x).den (place y).num (place y).den n m (place x).positive (place y).positive there order (less_of _ _ is))

  in_order : (xs : List A) → ((i j : ℕ) (d : A) → i ≤ j → j < length xs → IsNotAfter (get_or xs i d) (get_or xs j d)) → IsFront is_before xs
  in_order [] order = tt
  in_order (x ∷ xs) order = (
    (λ y (k, short, is) before_y. earlier x y (subst (λ (z : A). IsNotAfter x z) is (order 0 (suc k) y (omega arith) (omega arith))) before_y),
    in_order xs (λ i j d up short. order (suc i) (suc j) d (omega arith) (omega arith)),
  )

  pub front_of_sorted : (xs : List A) → IsSortedByKey place order_of xs → IsFront is_before xs
  front_of_sorted xs sorted = in_order xs (λ i j d up short.
      at_most_of_not_lt _ _ (sorted_far (λ (x y : A). is_lt (order_of (place x) (place y))) (ranks_by order_of_total place) xs sorted i j d up short))
