-- The characters that are kept of a text, one by one.
use Rattle.std.proofs.Common.{◌≡◌, ℕ, zero, suc, ◌+◌, ◌<◌, ◌≤◌, List, [], ◌∷◌, ◌++◌, length, get_or, take, refl, sym, ap, ◌∙◌, arith, append-nil}
use Rattle.std.specs.Prelude.{encode_utf8_all, codes}
use Rattle.std.specs.Char.{encode_utf8}
use Rattle.std.proofs.lemmas.List.{take_more}
use Rattle.std.proofs.lemmas.Str.{encodes-append}
use Rattle.text_fit.specs.Widths.{widths, width_of, chars_width}
use Rattle.text_fit.specs.inner.Kept.{AreKept}

pub width_of_both : (xs ys : List ℕ) → chars_width (xs ++ ys) ≡ chars_width xs + chars_width ys
width_of_both [] ys = omega arith
width_of_both (c ∷ xs) ys = omega (arith, width_of_both xs ys)

pub width_of_points : chars_width (codes "...") ≡ 834
unfolding widths
width_of_points = refl

-- of the first characters, one more
pub width_of_more : (cs : List ℕ) (n c : ℕ) → (n < length cs) × (c ≡ get_or cs n c) → chars_width (take (n + 1) cs) ≡ chars_width (take n cs) + width_of c
width_of_more cs n c turn =
    let both = ap chars_width (take_more cs n c turn.0) ∙ width_of_both (take n cs) (get_or cs n c ∷ []) in
    omega (arith, both, ap width_of turn.1)

longer : (cs : List ℕ) (n more : ℕ) → n ≤ more → chars_width (take n cs) ≤ chars_width (take more cs)
longer cs zero more h = omega arith
longer [] (suc n) more h = omega arith
longer (c ∷ cs) (suc n) zero h = omega (arith, h)
longer (c ∷ cs) (suc n) (suc more) h = omega (arith, longer cs n more (omega (arith, h)))

pub bytes_of_more : (cs new old : List ℕ) (n c : ℕ) → new ≡ old ++ encode_utf8 c → old ≡ encode_utf8_all (take n cs) → (n < length cs) × (c ≡ get_or cs n c) → new ≡ encode_utf8_all (take (n + 1) cs)
bytes_of_more cs new old n c step so_far turn =
    let more : take (n + 1) cs ≡ take n cs ++ c ∷ [] = take_more cs n c turn.0 ∙ ap (λ (x : ℕ). take n cs ++ x ∷ []) (sym turn.1) in
    step ∙ ap (λ (bytes : List ℕ). bytes ++ encode_utf8 c) so_far
    ∙ sym (ap encode_utf8_all more ∙ encodes-append (take n cs) (c ∷ []) ∙ ap (λ (bytes : List ℕ). encode_utf8_all (take n cs) ++ bytes) (append-nil (encode_utf8 c)))

-- the next one is too wide
pub kept_before : (width left w c n : ℕ) (cs : List ℕ) → left + chars_width (take n cs) ≡ width → (n < length cs) × (c ≡ get_or cs n c) → w ≡ width_of c → left < w → AreKept width cs n
kept_before width left w c n cs so_far turn here wide = record {
  fits = omega (arith, so_far);
  longest = λ more after last. omega (arith, so_far, here, wide, width_of_more cs n c turn, longer cs (n + 1) more (omega (arith, after)));
}

-- all are kept
pub kept_all : (width left n : ℕ) (cs : List ℕ) → left + chars_width (take n cs) ≡ width → length cs ≤ n → AreKept width cs n
kept_all width left n cs so_far end = record {
  fits = omega (arith, so_far);
  longest = λ more after last. omega (arith, end, after, last);
}
