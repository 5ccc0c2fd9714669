-- The names of plotters' files.
use Rattle.std.proofs.Common.{◌≡◌, ◌≢◌, ℕ, ◌-◌, List, ◌++◌, length, take, drop, codes, Bool, true, false, refl, sym, ap, ◌∙◌}
use Rattle.std.specs.Prelude.{if◌then◌else◌}
use Rattle.std.specs.Str.{bytes_eq}
use Rattle.std.proofs.lemmas.List.{take-append-drop, append_cancel_left}
use Rattle.std.proofs.lemmas.Slice.Eq.{bytes_eq-Decides}
use Rattle.draw_core.specs.Outputs.{stem_of}

pub stem_found : (name stem : List ℕ) (k : ℕ) → k ≡ 4 → stem ≡ take (length name - k) name → name ≡ take (length name - k) name ++ codes ".svg" → stem ≡ stem_of name
stem_found name stem k four is whole =
    let n : ℕ = length name - 4 in
    let at = ap (λ (m : ℕ). length name - m) four in
    let cut : name ≡ take n name ++ codes ".svg" = whole ∙ ap (λ (m : ℕ). take m name ++ codes ".svg") at in
    let end : drop n name ≡ codes ".svg" = append_cancel_left (take n name) (drop n name) (codes ".svg") (take-append-drop n name ∙ cut) in
    is ∙ ap (λ (m : ℕ). take m name) at ∙ sym (ap (λ (b : Bool). if b then take n name else name) ((bytes_eq-Decides (drop n name) (codes ".svg")).1 end))

pub stem_whole : (name : List ℕ) → ((front : List ℕ) → name ≢ front ++ codes ".svg") → name ≡ stem_of name
stem_whole name none = go (bytes_eq (drop (length name - 4) name) (codes ".svg")) (bytes_eq-Decides (drop (length name - 4) name) (codes ".svg")).0
  where
    go : (b : Bool) → (b ≡ true → drop (length name - 4) name ≡ codes ".svg") → name ≡ (if b then take (length name - 4) name else name)
    go true end = absurd (none (take (length name - 4) name) (sym (take-append-drop (length name - 4) name) ∙ ap (λ (t : List ℕ). take (length name - 4) name ++ t) (end refl)))
    go false end = refl
