-- The name of a part's file, character by character.
use Rattle.std.proofs.Common.{◌≡◌, ℕ, ◌+◌, ◌<◌, ◌≤◌, Bool, true, false, ◌||◌, List, [], ◌∷◌, ◌++◌, length, get_or, drop, refl, sym, ap, ◌∙◌, append_assoc}
use Rattle.std.specs.Prelude.{◌==◌, if◌then◌else◌}
use Rattle.std.specs.Char.{encode_utf8}
use Rattle.std.proofs.lemmas.List.{append-nil, at_drop_more, drop_all}
use Rattle.sheet_page.specs.BlockNames.{has_slash, behind_slash, shown_char, shown}
use Rattle.sheet_page.specs.inner.Reading.{with_char}

-- what is shown of a path of which this much is shown and these characters are left
abbrev pub with_rest : List ℕ → List ℕ → List ℕ
with_rest text rest = if has_slash rest then shown (behind_slash rest) else text ++ shown rest

none_behind : (cs : List ℕ) → has_slash cs ≡ false → behind_slash cs ≡ cs
none_behind [] h = refl
none_behind (c ∷ rest) h = ap (λ (b : Bool). if b then behind_slash rest else c ∷ rest) h

-- at its beginning nothing is shown
pub from_start : (text cs : List ℕ) → text ≡ [] → with_rest text cs ≡ shown (behind_slash cs)
from_start text cs empty = ap (λ (t : List ℕ). with_rest t cs) empty ∙ go (has_slash cs) refl
  where
    go : (b : Bool) → has_slash cs ≡ b → (if b then shown (behind_slash cs) else shown cs) ≡ shown (behind_slash cs)
    go true h = refl
    go false h = sym (ap shown (none_behind cs h))

-- one more character is read
one_more : (text rest all : List ℕ) (c : ℕ) → with_rest text (c ∷ rest) ≡ all → with_rest (with_char text c) rest ≡ all
one_more text rest all c before = by (c == 47) before
  where
    other : (b : Bool) → (if b then shown (if b then behind_slash rest else c ∷ rest) else text ++ (encode_utf8 (shown_char c) ++ shown rest)) ≡ all
        → (if b then shown (behind_slash rest) else (text ++ encode_utf8 (shown_char c)) ++ shown rest) ≡ all
    other true h = h
    other false h = append_assoc text (encode_utf8 (shown_char c)) (shown rest) ∙ h

    by : (b : Bool) → (if (b || has_slash rest) then shown (if (b || has_slash rest) then behind_slash rest else c ∷ rest) else text ++ (encode_utf8 (shown_char c) ++ shown rest)) ≡ all
        → with_rest (if b then [] else text ++ encode_utf8 (shown_char c)) rest ≡ all
    by true h = from_start [] rest refl ∙ h
    by false h = other (has_slash rest) h

pub after_char : (text new all cs : List ℕ) (n c : ℕ) → (n < length cs) × (c ≡ get_or cs n c) → new ≡ with_char text c → with_rest text (drop n cs) ≡ all → with_rest new (drop (n + 1) cs) ≡ all
after_char text new all cs n c turn step before =
    let here : with_rest text (drop n cs) ≡ with_rest text (c ∷ drop (n + 1) cs) =
    at_drop_more (with_rest text) cs n c turn.0 ∙ ap (λ (x : ℕ). with_rest text (x ∷ drop (n + 1) cs)) (sym turn.1) in
    ap (λ (t : List ℕ). with_rest t (drop (n + 1) cs)) step ∙ one_more text (drop (n + 1) cs) all c (sym here ∙ before)

-- after the last character the whole is shown
pub at_end : (text all cs : List ℕ) (n : ℕ) → length cs ≤ n → with_rest text (drop n cs) ≡ all → text ≡ all
at_end text all cs n last before = sym (append-nil text) ∙ sym (ap (with_rest text) (drop_all n cs last)) ∙ before
