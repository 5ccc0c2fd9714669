-- A text has one list of tokens.
use Rattle.std.proofs.Common.{◌≡◌, ℕ, ◌<◌, ◌≤◌, suc, zero, ◌⊎◌, inl, inr, List, [], ◌∷◌, length, refl, sym, ◌∙◌, arith}
use Rattle.std.proofs.lemmas.List.Elements.{All-contains, Contains-append_right}
use Rattle.std.specs.Prelude.{Bool, AllPairs, Contains, slice_index_or}
use Rattle.lex_lines.specs.declared.token.Token.{Token}
use Rattle.lex_lines.specs.Places.{IsToken, AreTokens}

-- ---- elements of a list
cons_cases_at : (u : Token) (us : List Token) (t : Token) (k : ℕ) → k < length (u ∷ us) → slice_index_or (u ∷ us) k t ≡ t → (u ≡ t) ⊎ Contains us t
cons_cases_at u us t zero h e = inl e
cons_cases_at u us t (suc k) h e = inr (k, omega (arith, h), e)

cons_cases : (u : Token) (us : List Token) (t : Token) → Contains (u ∷ us) t → (u ≡ t) ⊎ Contains us t
cons_cases u us t c = cons_cases_at u us t c.0 c.1 c.2

contains_more : (t u : Token) (us : List Token) → Contains us t → Contains (u ∷ us) t
contains_more t u us c = Contains-append_right (u ∷ []) us t c

none_in : (t : Token) → Contains [] t → ⊥
none_in t c = let h : c.0 < 0 = c.1 in omega arith

-- ---- by where they begin
abbrev pub Before : Token → Token → Type 0
Before t u = t.from < u.from

head_first : (t u : Token) (us : List Token) → AllPairs Before (u ∷ us) → Contains us t → u.from < t.from
head_first t u us h c = let r = h 0 (suc c.0) t (omega arith) (let k : c.0 < length us = c.1 in omega (arith, k)) in rw c.2 at r

tail_pairs : (u : Token) (us : List Token) → AllPairs Before (u ∷ us) → AllPairs Before us
tail_pairs u us h = λ i j d a b. h (suc i) (suc j) d (omega (arith, a)) (omega (arith, b))

same_head : (t u : Token) (ts us : List Token) → AllPairs Before (t ∷ ts) → AllPairs Before (u ∷ us) → (u ≡ t) ⊎ Contains us t → (t ≡ u) ⊎ Contains ts u → t ≡ u
same_head t u ts us a b (inl e) _ = sym e
same_head t u ts us a b (inr c) (inl e) = e
same_head t u ts us a b (inr c) (inr d) = let h = head_first t u us b c in let k = head_first u t ts a d in absurd (omega (arith, h, k))

later_self : (t u : Token) → t ≡ u → t.from < u.from → ⊥
later_self t u e h = let k : u.from < u.from = rw e at h in omega arith

in_tail : (t u v : Token) (ts us : List Token) → t ≡ u → AllPairs Before (t ∷ ts) → Contains ts v → (u ≡ v) ⊎ Contains us v → Contains us v
in_tail t u v ts us e a c (inl f) = let h : t.from < v.from = head_first v t ts a c in absurd (later_self t v (e ∙ f) h)
in_tail t u v ts us e a c (inr d) = d

same_list : (ts us : List Token) → AllPairs Before ts → AllPairs Before us → ((t : Token) → Contains ts t → Contains us t) → ((t : Token) → Contains us t → Contains ts t) → ts ≡ us
same_list [] [] a b f g = refl
same_list [] (u ∷ us) a b f g = absurd (none_in u (g u (0, omega arith, refl)))
same_list (t ∷ ts) [] a b f g = absurd (none_in t (f t (0, omega arith, refl)))
same_list (t ∷ ts) (u ∷ us) a b f g =
    let e : t ≡ u = same_head t u ts us a b (cons_cases u us t (f t (0, omega arith, refl))) (cons_cases t ts u (g u (0, omega arith, refl))) in
    let there = λ (v : Token) (c : Contains ts v). in_tail t u v ts us e a c (cons_cases u us v (f v (contains_more v t ts c))) in
    let back = λ (v : Token) (c : Contains us v). in_tail u t v us ts (sym e) b c (cons_cases t ts v (g v (contains_more v u us c))) in
    let rest : ts ≡ us = same_list ts us (tail_pairs t ts a) (tail_pairs u us b) there back in
    rw (e, rest) refl

-- ---- tokens
-- each ends before the next begins, and none is empty
begin_apart : (comments : Bool) (text : List ℕ) (tokens : List Token) → AreTokens comments text tokens → AllPairs Before tokens
begin_apart comments text tokens r = λ i j d a b. let e : (slice_index_or tokens i d).to ≤ (slice_index_or tokens j d).from = r.ascending i j d a b in let k = r.each i d (omega (arith, a, b)) in let s : (slice_index_or tokens i d).from < (slice_index_or tokens i d).to = k.some in omega arith

pub only_tokens : (comments : Bool) (text : List ℕ) (ts us : List Token) → AreTokens comments text ts → AreTokens comments text us → ts ≡ us
only_tokens comments text ts us a b =
    same_list ts us (begin_apart comments text ts a) (begin_apart comments text us b) (λ t c. b.complete t (All-contains (IsToken comments text) ts t a.each c)) (λ t c. a.complete t (All-contains (IsToken comments text) us t b.each c))
