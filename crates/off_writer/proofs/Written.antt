-- A corner's line as it is written, word by word.
use Rattle.std.proofs.Common.{◌≡◌, ℕ, ◌≤◌, ◌^◌, ℤ, unsigned_abs, List, [], ◌∷◌, ◌++◌, ap, ◌∙◌, append_assoc}
use Rattle.part_text.proofs.Units.{stored, stored_same}
use Rattle.off_writer.specs.OffTexts.{coordinate_text}

pub coordinate_written : (decimals : ℕ) (z : ℤ) (before after : List ℕ) → unsigned_abs z ≤ 2 ^ 20 → after ≡ before ++ coordinate_text decimals (stored z)
    → after ≡ before ++ coordinate_text decimals z
coordinate_written decimals z before after small e = e ∙ ap (λ (v : ℤ). before ++ coordinate_text decimals v) (stored_same z small)

pub three_written : (start x y z first second third fourth fifth all : List ℕ) → first ≡ start ++ x → second ≡ first ++ (32 ∷ []) → third ≡ second ++ y → fourth ≡ third ++ (32 ∷ [])
    → fifth ≡ fourth ++ z → all ≡ fifth ++ (10 ∷ []) → all ≡ start ++ (x ++ (32 ∷ []) ++ y ++ (32 ∷ []) ++ z ++ (10 ∷ []))
three_written start x y z first second third fourth fifth all a b c d e f = rw (f, e, d, c, b, a) (simp append_assoc)
