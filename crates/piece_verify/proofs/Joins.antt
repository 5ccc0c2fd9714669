-- Two columns as one.
use Rattle.std.proofs.Common.{◌≡◌, ℕ, List, ◌∷◌, ◌++◌, sym, ◌∙◌, ap, append_assoc}
use Rattle.piece_verify.specs.Columns.{IsColumn, HasNoColumn}
use Rattle.piece_verify.specs.inner.Pairs.{Both, both_texts}

apart : {X Y : Type 0} (first : X → List ℕ) (second : Y → List ℕ) (end : ℕ) (p : X × Y) (tail : List ℕ)
    → both_texts first second p ++ end ∷ tail ≡ first p.0 ++ 32 ∷ (second p.1 ++ end ∷ tail)
apart first second end p tail = append_assoc (first p.0) (32 ∷ second p.1) (end ∷ tail)

pub no_first : {X Y : Type 0} (P : X → Type 0) (Q : Y → Type 0) (first : X → List ℕ) (second : Y → List ℕ) (end : ℕ) (text : List ℕ)
    → HasNoColumn P first 32 text → HasNoColumn (Both P Q) (both_texts first second) end text
no_first P Q first second end text none p tail h e = none p.0 (second p.1 ++ end ∷ tail) h.0 (e ∙ apart first second end p tail)

pub no_second : {X Y : Type 0} (P : X → Type 0) (Q : Y → Type 0) (first : X → List ℕ) (second : Y → List ℕ) (end : ℕ) (text : List ℕ) (x : X) (middle : List ℕ)
    → IsColumn P first 32 text x middle → HasNoColumn Q second end middle → HasNoColumn (Both P Q) (both_texts first second) end text
no_second P Q first second end text x middle one none p tail h e =
    none p.1 tail h.1 (sym (one.alone p.0 (second p.1 ++ end ∷ tail) h.0 (e ∙ apart first second end p tail)).1)

pub both : {X Y : Type 0} (P : X → Type 0) (Q : Y → Type 0) (first : X → List ℕ) (second : Y → List ℕ) (end : ℕ) (text : List ℕ) (x : X) (middle : List ℕ) (y : Y) (rest : List ℕ)
    → IsColumn P first 32 text x middle → IsColumn Q second end middle y rest → IsColumn (Both P Q) (both_texts first second) end text (x, y) rest
both P Q first second end text x middle y rest one two = record {
  holds = (one.holds, two.holds);
  written = one.written ∙ ap (λ (t : List ℕ). first x ++ 32 ∷ t) two.written ∙ sym (append_assoc (first x) (32 ∷ second y) (end ∷ rest));
  alone = λ p tail h e. (
      let a = one.alone p.0 (second p.1 ++ end ∷ tail) h.0 (e ∙ apart first second end p tail) in
      let b = two.alone p.1 tail h.1 (sym a.1) in
      ((λ i. a.0 i ++ 32 ∷ b.0 i), b.1));
}
