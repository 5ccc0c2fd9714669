-- Finite sums of integers, and sums over pairs of twins.
use Rattle.std.proofs.Common.{◌≡◌, ℕ, zero, suc, ◌+◌, ◌*◌, ◌<◌, ◌≤◌, Bool, true, false, not, nat_lt, nat_eq, refl, sym, ap, ◌∙◌, arith, ⊎_elim}
use Rattle.std.proofs.lemmas.Bool.{cases_Bool}
use Rattle.std.specs.Prelude.{ℤ, pos, ◌+ℤ◌, ◌-ℤ◌}
use Rattle.std.proofs.lemmas.Int.{ints}
use Rattle.hiding_laws.proofs.SumsBelow.{sum_below, keep}

pub sum_same : (f g : ℕ → ℤ) (n : ℕ) → ((i : ℕ) → i < n → f i ≡ g i) → sum_below f n ≡ sum_below g n
sum_same f g zero h = refl
sum_same f g (suc n) h =
    let a = sum_same f g n (λ i l. h i (omega arith)) in
    let b = h n (omega arith) in
    (λ t. a t +ℤ b t)

pub sum_add : (f g : ℕ → ℤ) (n : ℕ) → sum_below (λ i. f i +ℤ g i) n ≡ sum_below f n +ℤ sum_below g n
sum_add f g zero = refl
sum_add f g (suc n) = ap (λ v. v +ℤ (f n +ℤ g n)) (sum_add f g n) ∙ moved (sum_below f n) (sum_below g n) (f n) (g n)
  where
    moved : (x y z w : ℤ) → (x +ℤ y) +ℤ (z +ℤ w) ≡ (x +ℤ z) +ℤ (y +ℤ w)
    moved x y z w = omega (arith, ints)

pub sum_zero : (n : ℕ) → sum_below (λ i. pos 0) n ≡ pos 0
sum_zero zero = refl
sum_zero (suc n) = ap (λ v. v +ℤ pos 0) (sum_zero n)

-- two sums change places
pub sum_swap : (f : ℕ → ℕ → ℤ) (m n : ℕ) → sum_below (λ i. sum_below (f i) n) m ≡ sum_below (λ j. sum_below (λ i. f i j) m) n
sum_swap f zero n = sym (sum_zero n)
sum_swap f (suc m) n = ap (λ v. v +ℤ sum_below (f m) n) (sum_swap f m n) ∙ sym (sum_add (λ j. sum_below (λ i. f i j) m) (f m) n)

-- a sum of which one item counts
none_of : (g : ℕ → ℤ) (j n : ℕ) → n ≤ j → sum_below (λ i. keep (nat_eq i j) (g i)) n ≡ pos 0
none_of g j zero h = refl
none_of g j (suc n) h =
    let e : nat_eq n j ≡ false = grind arith in
    (λ t. none_of g j n (omega arith) t +ℤ keep (e t) (g n))

pub one_of : (g : ℕ → ℤ) (j n : ℕ) → j < n → sum_below (λ i. keep (nat_eq i j) (g i)) n ≡ g j
one_of g j zero h = absurd (omega arith)
one_of g j (suc n) h = ⊎_elim
    (λ (e : nat_eq n j ≡ true).
    let same : n ≡ j = grind arith in
    (λ t. none_of g j n (omega arith) t +ℤ keep (e t) (g n)) ∙ zero_add _ ∙ ap g same)
    (λ (e : nat_eq n j ≡ false).
    let below : j < n = grind arith in
    (λ t. one_of g j n below t +ℤ keep (e t) (g n)) ∙ add_zero _)
    (cases_Bool (nat_eq n j))
  where
    zero_add : (x : ℤ) → pos 0 +ℤ x ≡ x
    zero_add x = omega (arith, ints)

    add_zero : (x : ℤ) → x +ℤ pos 0 ≡ x
    add_zero x = omega (arith, ints)

-- ---- twins
same_bools : (b c : Bool) → (b ≡ true → c ≡ true) → (c ≡ true → b ≡ true) → b ≡ c
same_bools true c f g = sym (f refl)
same_bools false true f g = g refl
same_bools false false f g = refl

pub is_eq : (m n : ℕ) → nat_eq m n ≡ true → m ≡ n
is_eq m n e = grind arith

eq_is : (m n : ℕ) → m ≡ n → nat_eq n m ≡ true
eq_is m n e = grind arith

module _ (twin : ℕ → ℕ) (n : ℕ) (within : (h : ℕ) → h < n → twin h < n) (back : (h : ℕ) → h < n → twin (twin h) ≡ h) where
  -- a sum over all is the sum over their twins
  pub sum_twins : (g : ℕ → ℤ) → sum_below (λ h. g (twin h)) n ≡ sum_below g n
  sum_twins g =
      sum_same _ _ n (λ h l. sym (one_of g (twin h) n (within h l)))
      ∙ sum_swap (λ h i. keep (nat_eq i (twin h)) (g i)) n n
      ∙ sum_same _ _ n (λ i l.
      sum_same _ _ n (λ h k. ap (λ b. keep b (g i)) (same_test h i k l))
      ∙ one_of (λ h. g i) (twin i) n (within i l))
    where
      same_test : (h i : ℕ) → h < n → i < n → nat_eq i (twin h) ≡ nat_eq h (twin i)
      same_test h i k l =
          same_bools _ _
          (λ e. let f : i ≡ twin h = is_eq _ _ e in eq_is _ _ (ap twin f ∙ back h k))
          (λ e. let f : h ≡ twin i = is_eq _ _ e in eq_is _ _ (ap twin f ∙ back i l))

  -- a sum over all is a sum over the pairs, where none is its own twin
  pub sum_pairs : (f : ℕ → ℤ) → ((h : ℕ) → h < n → ¬ (twin h ≡ h))
      → sum_below f n ≡ sum_below (λ h. keep (nat_lt h (twin h)) (f h +ℤ f (twin h))) n
  sum_pairs f apart =
      sum_same _ _ n (λ h l. split (f h) _ _ (one_way h (twin h) (apart h l)))
      ∙ sum_add (λ h. keep (nat_lt h (twin h)) (f h)) (λ h. keep (nat_lt (twin h) h) (f h)) n
      ∙ ap (λ v. sum_below (λ h. keep (nat_lt h (twin h)) (f h)) n +ℤ v)
      (sym (sum_twins (λ h. keep (nat_lt (twin h) h) (f h))) ∙ sum_same _ _ n (λ h l. ap (λ i. keep (nat_lt i (twin h)) (f (twin h))) (back h l)))
      ∙ sym (sum_add (λ h. keep (nat_lt h (twin h)) (f h)) (λ h. keep (nat_lt h (twin h)) (f (twin h))) n)
      ∙ sum_same _ _ n (λ h l. sym (join (nat_lt h (twin h)) (f h) (f (twin h))))
    where
      one_way : (h i : ℕ) → ¬ (i ≡ h) → nat_lt i h ≡ not (nat_lt h i)
      one_way h i n = grind arith

      add_zero : (x : ℤ) → x ≡ x +ℤ pos 0
      add_zero x = omega (arith, ints)

      zero_add : (x : ℤ) → x ≡ pos 0 +ℤ x
      zero_add x = omega (arith, ints)

      split : (x : ℤ) (b c : Bool) → c ≡ not b → x ≡ keep b x +ℤ keep c x
      split x true c e = add_zero x ∙ (λ t. x +ℤ keep (sym e t) x)
      split x false c e = zero_add x ∙ (λ t. pos 0 +ℤ keep (sym e t) x)

      join : (b : Bool) (x y : ℤ) → keep b (x +ℤ y) ≡ keep b x +ℤ keep b y
      join true x y = refl
      join false x y = refl

-- ---- three by three
pub sum_threes : (f : ℕ → ℤ) (n : ℕ) → sum_below (λ t. (f (3 * t) +ℤ f (3 * t + 1)) +ℤ f (3 * t + 2)) n ≡ sum_below f (3 * n)
sum_threes f zero = refl
sum_threes f (suc n) =
    ap (λ v. v +ℤ ((f (3 * n) +ℤ f (3 * n + 1)) +ℤ f (3 * n + 2))) (sum_threes f n)
    ∙ joined (sum_below f (3 * n)) (f (3 * n)) (f (3 * n + 1)) (f (3 * n + 2))
    ∙ (λ t. ((sum_below f (3 * n) +ℤ f (3 * n)) +ℤ f (one n t)) +ℤ f (two n t))
    ∙ ap (sum_below f) (three n)
  where
    joined : (s x y z : ℤ) → s +ℤ ((x +ℤ y) +ℤ z) ≡ ((s +ℤ x) +ℤ y) +ℤ z
    joined s x y z = omega (arith, ints)

    one : (n : ℕ) → 3 * n + 1 ≡ suc (3 * n)
    one n = omega arith

    two : (n : ℕ) → 3 * n + 2 ≡ suc (suc (3 * n))
    two n = omega arith

    three : (n : ℕ) → suc (suc (suc (3 * n))) ≡ 3 * suc n
    three n = omega arith

pub sum_less : (f g : ℕ → ℤ) (n : ℕ) → sum_below f n -ℤ sum_below g n ≡ sum_below (λ i. f i -ℤ g i) n
sum_less f g zero = refl
sum_less f g (suc n) = moved (sum_below f n) (f n) (sum_below g n) (g n) ∙ ap (λ v. v +ℤ (f n -ℤ g n)) (sum_less f g n)
  where
    moved : (x y z w : ℤ) → (x +ℤ y) -ℤ (z +ℤ w) ≡ (x -ℤ z) +ℤ (y -ℤ w)
    moved x y z w = omega (arith, ints)
