-- A list that takes numbers, each once, by stamps.
use Rattle.std.proofs.Common.{◌≡◌, ◌≢◌, ◌⊎◌, ◌↔◌, inl, inr, ℕ, ◌<◌, ◌≤◌, List, [], ◌∷◌, ◌++◌, All, Contains, length, get_or, set, sym, ap, subst, ◌∙◌, arith}
use Rattle.std.proofs.Math.ListN.{length-set}
use Rattle.std.proofs.lemmas.Bool.{cases_eq}
use Rattle.std.proofs.lemmas.List.{get_or-set_same, get_or-set_other}
use Rattle.std.proofs.lemmas.List.Elements.{All-weaker, All-push, All-set, Contains-get_or, Contains-append_left, Contains-push, Contains-push_cases}
use Rattle.std.proofs.lemmas.List.Quantifiers.{all_pairs_push}
use Rattle.out_grid.specs.inner.Lists.{IsStamped, IsGrown}

pub none_in : (k : ℕ) → Contains [] k → ⊥
none_in k (i, within, is) = omega (arith, within)

-- ---- what a list has also
pub grown_none : (Q : ℕ → Type 0) (list : List ℕ) → ((k : ℕ) → Q k → ⊥) → IsGrown Q list list
grown_none Q list none k = ((λ c. inl c), by)
  where
    by : Contains list k ⊎ Q k → Contains list k
    by (inl c) = c
    by (inr q) = absurd (none k q)

pub grown_more : (Q R S : ℕ → Type 0) (a b c : List ℕ) → IsGrown Q a b → IsGrown R b c → ((k : ℕ) → Q k → S k) → ((k : ℕ) → R k → S k) → ((k : ℕ) → S k → Q k ⊎ R k) → IsGrown S a c
grown_more Q R S a b c q r of_q of_r split k = ((λ h. to ((r k).0 h)), from)
  where
    first : Contains a k ⊎ Q k → Contains a k ⊎ S k
    first (inl h) = inl h
    first (inr h) = inr (of_q k h)

    to : Contains b k ⊎ R k → Contains a k ⊎ S k
    to (inl h) = first ((q k).0 h)
    to (inr h) = inr (of_r k h)

    second : Q k ⊎ R k → Contains c k
    second (inl h) = (r k).1 (inl ((q k).1 (inr h)))
    second (inr h) = (r k).1 (inr h)

    from : Contains a k ⊎ S k → Contains c k
    from (inl h) = (r k).1 (inl ((q k).1 (inl h)))
    from (inr h) = second (split k h)

pub grown_same : (Q S : ℕ → Type 0) (a b : List ℕ) → IsGrown Q a b → ((k : ℕ) → Q k → S k) → ((k : ℕ) → S k → Q k) → IsGrown S a b
grown_same Q S a b q of_q from k = ((λ h. to ((q k).0 h)), back)
  where
    to : Contains a k ⊎ Q k → Contains a k ⊎ S k
    to (inl h) = inl h
    to (inr h) = inr (of_q k h)

    back : Contains a k ⊎ S k → Contains b k
    back (inl h) = (q k).1 (inl h)
    back (inr h) = (q k).1 (inr (from k h))

-- ---- stamps
-- where all stamps are below the stamp, nothing has it
pub stamped_none : (stamp : ℕ) (stamps : List ℕ) → All (λ m. m < stamp) stamps → IsStamped stamp stamps []
stamped_none stamp stamps below = record {
  once = λ i j d h l. absurd (omega (arith, l));
  within = λ i d h. absurd (omega (arith, h));
  stamped = λ k l. ((λ e. absurd (no k l e)), (λ c. absurd (none_in k c)));
  most = All-weaker (λ m. m < stamp) (λ m. m ≤ stamp) (λ m h. omega (arith, h)) stamps below;
}
  where
    no : (k : ℕ) → k < length stamps → get_or stamps k 0 ≡ stamp → ⊥
    no k l e = let b = below k 0 l in omega (arith, b, e)

module _ (stamp : ℕ) (stamps list : List ℕ) (h : IsStamped stamp stamps list) (o : ℕ) (inside : o < length stamps) where
  -- what has the stamp is listed
  pub stamped_same : get_or stamps o 0 ≡ stamp → (Q R : ℕ → Type 0) (old : List ℕ) → IsGrown Q old list → ((k : ℕ) → Q k → R k) → ((k : ℕ) → R k → Q k ⊎ (o ≡ k)) → IsGrown R old list
  stamped_same e Q R old grown of_q split k = ((λ c. to ((grown k).0 c)), from)
    where
      to : Contains old k ⊎ Q k → Contains old k ⊎ R k
      to (inl c) = inl c
      to (inr q) = inr (of_q k q)

      either : Q k ⊎ (o ≡ k) → Contains list k
      either (inl q) = (grown k).1 (inr q)
      either (inr same) = subst (Contains list) same ((h.stamped o inside).0 e)

      from : Contains old k ⊎ R k → Contains list k
      from (inl c) = (grown k).1 (inl c)
      from (inr r) = either (split k r)

  -- what does not have it gets it, and is listed
  module _ (differ : get_or stamps o 0 ≡ stamp → ⊥) where
    pub stamped_more : IsStamped stamp (set stamps o stamp) (list ++ o ∷ [])
    stamped_more = record {
      once = all_pairs_push ◌≢◌ list o h.once (λ i d l e. differ ((h.stamped o inside).1 (subst (Contains list) e (Contains-get_or list i d l))));
      within = subst (λ (n : ℕ). All (λ k. k < n) (list ++ o ∷ [])) (sym long) (All-push (λ k. k < length stamps) list o h.within inside);
      stamped = λ k l. stamped k (subst (λ (n : ℕ). k < n) long l) (cases_eq k o);
      most = All-set (λ m. m ≤ stamp) stamps o stamp (omega arith) h.most;
    }
      where
        long : length (set stamps o stamp) ≡ length stamps
        long = length-set stamps o stamp

        stamped : (k : ℕ) → k < length stamps → (k ≡ o) ⊎ (k ≡ o → ⊥) → (get_or (set stamps o stamp) k 0 ≡ stamp) ↔ Contains (list ++ o ∷ []) k
        stamped k l (inl same) = ((λ e. subst (Contains (list ++ o ∷ [])) (sym same) (Contains-push list o)), (λ c. ap (λ (i : ℕ). get_or (set stamps o stamp) i 0) same ∙ get_or-set_same stamps o stamp 0 inside))
        stamped k l (inr apart) = ((λ e. Contains-append_left list (o ∷ []) k ((h.stamped k l).0 (sym other ∙ e))), (λ c. other ∙ (h.stamped k l).1 (old (Contains-push_cases list o k c))))
          where
            other : get_or (set stamps o stamp) k 0 ≡ get_or stamps k 0
            other = get_or-set_other stamps o k stamp 0 apart

            old : Contains list k ⊎ (o ≡ k) → Contains list k
            old (inl c) = c
            old (inr e) = absurd (apart (sym e))

    pub grown_one : (Q R : ℕ → Type 0) (old : List ℕ) → IsGrown Q old list → ((k : ℕ) → Q k → R k) → R o → ((k : ℕ) → R k → Q k ⊎ (o ≡ k)) → IsGrown R old (list ++ o ∷ [])
    grown_one Q R old grown of_q this split k = ((λ c. to (Contains-push_cases list o k c)), from)
      where
        first : Contains old k ⊎ Q k → Contains old k ⊎ R k
        first (inl c) = inl c
        first (inr q) = inr (of_q k q)

        to : Contains list k ⊎ (o ≡ k) → Contains old k ⊎ R k
        to (inl c) = first ((grown k).0 c)
        to (inr e) = inr (subst R e this)

        either : Q k ⊎ (o ≡ k) → Contains (list ++ o ∷ []) k
        either (inl q) = Contains-append_left list (o ∷ []) k ((grown k).1 (inr q))
        either (inr e) = subst (Contains (list ++ o ∷ [])) e (Contains-push list o)

        from : Contains old k ⊎ R k → Contains (list ++ o ∷ []) k
        from (inl c) = Contains-append_left list (o ∷ []) k ((grown k).1 (inl c))
        from (inr r) = either (split k r)
