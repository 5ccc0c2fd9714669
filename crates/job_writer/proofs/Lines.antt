-- Lines that TOML reads one after the other.
use Rattle.std.proofs.Common.{◌≡◌, ℕ, ◌-◌, ◌<◌, true, false, ◌==◌, List, [], ◌∷◌, ◌++◌, length, Option, Some, None, option_and_then, refl, sym, ap, ◌∙◌, arith, append_assoc}
use Rattle.std.proofs.lemmas.Bool.Decides.{nat_tests}
use Rattle.toml_parser.specs.Lexical.{skip_blank}
use Rattle.toml_parser.proofs.LexicalLemmas.{skip_from-nil}
use Rattle.toml.specs.Tables.{Document, Expression, define}
use Rattle.toml.specs.Parse.{line, lines}
use Rattle.toml.proofs.Blanks.{skip_newline, skip_within}
use Rattle.toml.proofs.ReadLines.{run, Turn}
use Rattle.toml.proofs.Turns.{lines_end, lines_more, lines_refused}

-- in front of any text, this is read as the expression
abbrev pub IsLine : Expression → List ℕ → Type 0
IsLine e this = (rest : List ℕ) → Turn e.0 e.1 (this ++ rest) rest

abbrev pub AreLines : List Expression → List ℕ → Type 0
AreLines [] text = text ≡ []
AreLines (e ∷ es) text = (this : List ℕ) × (rest : List ℕ) × (text ≡ this ++ rest) × IsLine e this × AreLines es rest

pub lines-append : (es fs : List Expression) (text more : List ℕ) → AreLines es text → AreLines fs more → AreLines (es ++ fs) (text ++ more)
lines-append [] fs text more all others = rw all others
lines-append (e ∷ es) fs text more (this, rest, whole, is, all) others =
    (this, rest ++ more, rw whole (append_assoc this rest more), is, lines-append es fs rest more all others)

-- one line, and the rest
step : (m : ℕ) (doc : Document) (x : List ℕ) (e : Expression) (behind : List ℕ) (es : List Expression) (next : Option Document) → next ≡ define doc e → 0 < m → (length (skip_blank x) == 0) ≡ false
    → line (skip_blank x) ≡ Some (e, behind) → ((after : Document) → lines (m - 1) after behind ≡ run after es) → lines m doc x ≡ option_and_then (λ after. run after es) next
step m doc x e behind es None is some other read rest = lines_refused m doc x e behind some other read (sym is)
step m doc x e behind es (Some after) is some other read rest = lines_more m doc after x e behind some other read (sym is) ∙ rest after

pub lines_read : (es : List Expression) (text x : List ℕ) (doc : Document) (m : ℕ) → AreLines es text → skip_blank x ≡ skip_blank text → length x < m → lines m doc x ≡ run doc es
lines_read [] text x doc m all skip room = lines_end m doc x (omega arith) (rw (skip, all, skip_from-nil true false) refl)
lines_read (e ∷ es) text x doc m (this, rest, whole, is, all) skip room =
    let (s, at_start, read, some, shorter, no_mark) = is rest in
    let same : skip_blank x ≡ s = skip ∙ rw whole at_start in
    let other : (length (skip_blank x) == 0) ≡ false = rw same (grind (arith, nat_tests)) in
    let within = skip_within x in
    step m doc x e (10 ∷ rest) es (define doc e) refl (omega arith) other (rw same read) (λ after. lines_read es rest (10 ∷ rest) after (m - 1) all (skip_newline rest) (omega (arith, ap length same)))
