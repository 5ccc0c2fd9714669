-- Texts of PDF, as a loop and a format write them.
use Rattle.std.proofs.Common.{◌≡◌, ℕ, ◌+◌, ◌-◌, ◌<◌, ◌^◌, false, List, [], ◌++◌, length, get_or, drop, sym, ap, ◌∙◌, append_assoc}
use Rattle.std.proofs.Math.Nat.{sub-zero}
use Rattle.std.proofs.lemmas.List.{append-nil, at_drop_more}
use Rattle.std.specs.Fmt.{char_count, padded_integral, format_spec}
use Rattle.std.specs.List.{flat_map}
use Rattle.sheet_page.specs.PdfWords.{filled}

-- what a format writes for digits with zeros before them
pub padded_filled : (least : ℕ) (digits : List ℕ) → padded_integral (format_spec 32 0 4 least (2 ^ 64 - 1)) false [] digits ≡ filled least digits
unfolding padded_integral char_count
padded_filled least digits = simp (sub-zero, append-nil)

-- one more character is written
pub one_written : (f : ℕ → List ℕ) (cs new now all : List ℕ) (n c : ℕ) → (n < length cs) × (c ≡ get_or cs n c) → new ≡ now ++ f c → now ++ flat_map f (drop n cs) ≡ all
    → new ++ flat_map f (drop (n + 1) cs) ≡ all
one_written f cs new now all n c turn step before =
    let next : flat_map f (drop n cs) ≡ f c ++ flat_map f (drop (n + 1) cs) =
    at_drop_more (flat_map f) cs n c turn.0 ∙ ap (λ (x : ℕ). f x ++ flat_map f (drop (n + 1) cs)) (sym turn.1) in
    ap (λ (xs : List ℕ). xs ++ flat_map f (drop (n + 1) cs)) step ∙ append_assoc now (f c) (flat_map f (drop (n + 1) cs)) ∙ sym (ap (λ (xs : List ℕ). now ++ xs) next) ∙ before
