-- Widths of characters, one by one.
use Rattle.std.proofs.Common.{◌≡◌, ℕ, ◌+◌, ◌<◌, ◌≤◌, List, length, get_or, drop, sym, ap, ◌∙◌, arith}
use Rattle.std.proofs.lemmas.List.{at_drop_more, drop_all}
use Rattle.text_fit.specs.Widths.{width_of, chars_width}

-- with one more
pub width_more : (all width w c n : ℕ) (cs : List ℕ) → width + chars_width (drop n cs) ≡ all → (n < length cs) × (c ≡ get_or cs n c) → w ≡ width_of c → width + w + chars_width (drop (n + 1) cs) ≡ all
width_more all width w c n cs so_far turn here =
    let next : chars_width (drop n cs) ≡ width_of c + chars_width (drop (n + 1) cs) =
    at_drop_more chars_width cs n c turn.0 ∙ ap (λ (x : ℕ). width_of x + chars_width (drop (n + 1) cs)) (sym turn.1) in
    omega (arith, so_far, next, here)

-- after the last
pub width_at_end : (all width n : ℕ) (cs : List ℕ) → width + chars_width (drop n cs) ≡ all → length cs ≤ n → width ≡ all
width_at_end all width n cs so_far last = omega (arith, so_far, ap chars_width (drop_all n cs last))
