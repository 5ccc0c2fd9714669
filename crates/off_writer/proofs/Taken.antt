-- What steps of reading make of tokens that spell words.
use Rattle.std.proofs.Common.{◌≡◌, ℕ, ◌<◌, ◌≤◌, ◌^◌, Bool, true, ℤ, unsigned_abs, List, [], ◌∷◌, Ok, refl, sym, ap, subst, ◌∙◌}
use Rattle.std.specs.Fmt.{decimal}
use Rattle.dec_text.specs.declared.number.Length.TheVariants.{Millimetre}
use Rattle.lex_lines.specs.declared.token.Token.{Token}
use Rattle.weld.specs.declared.fault.PartKind.{PartKind}
use Rattle.weld.specs.declared.fault.Want.{Want}
use Rattle.part_text.specs.Steps.{Step, StepGives, ◌then◌, checked, Check}
use Rattle.part_text.specs.Words.{text_of, NextToken, Units}
use Rattle.part_text.specs.Vertices.{Coordinate, SkipLine}
use Rattle.off_reader.specs.Counts.{count_of, CountOf, Count}
use Rattle.off_writer.specs.OffTexts.{coordinate_text}
use Rattle.off_writer.proofs.Words.{Word, letters, line_behind, Spells, later_kept}
use Rattle.off_writer.proofs.Numerals.{decimal_read}
use Rattle.off_writer.proofs.CoordinateNumbers.{units_read}

-- the step gives x of the tokens, and leaves tokens that spell these words, the first on this line
pub record Gets {X : Type 0} (bytes : List ℕ) (step : Step X) (tokens : List Token) (x : X) (line : ℕ) (words : List Word) : Type 0 where
  pub rest : List Token
  pub made : step tokens (Ok (x, rest))
  pub spelled : Spells bytes line words rest

-- ---- steps
pub gets_then : {X Y : Type 0} {bytes : List ℕ} {first : Step X} {tokens : List Token} {x : X} {y : Y} {between line : ℕ} {others words : List Word} (next : X → Step Y)
    → Gets bytes first tokens x between others → ((rest : List Token) → Spells bytes between others rest → Gets bytes (next x) rest y line words)
    → Gets bytes (first then next) tokens y line words
gets_then {x = x} next g more =
    let h = more g.rest g.spelled in
    record { rest = h.rest; made = (Ok (x, g.rest), g.made, h.made); spelled = h.spelled }

pub gets_given : {X : Type 0} (bytes : List ℕ) (x : X) (line : ℕ) (words : List Word) (tokens : List Token) → Spells bytes line words tokens → Gets bytes (StepGives x) tokens x line words
gets_given bytes x line words tokens s = record { rest = tokens; made = refl; spelled = s }

-- a test that passes
pub gets_checked : {X : Type 0} (bytes : List ℕ) (test : Bool) (x : X) (at : ℕ) (kind : PartKind) (line : ℕ) (words : List Word) (tokens : List Token) → test ≡ true
    → Spells bytes line words tokens → Gets bytes (Check test x at kind) tokens x line words
gets_checked bytes test x at kind line words tokens e s =
    record { rest = tokens; made = ap (λ (b : Bool). checked b x at kind tokens) (sym e); spelled = s }

-- the rest of an earlier line
pub gets_skipped : (bytes : List ℕ) (before line : ℕ) (words : List Word) (tokens : List Token) → before < line → Spells bytes line words tokens
    → Gets bytes (SkipLine before) tokens tt line words
gets_skipped bytes before line words tokens h s =
    record { rest = tokens; made = ap (λ (left : List Token). Ok (tt, left)) (sym (later_kept bytes before line words tokens h s)); spelled = s }

-- ---- tokens
pub gets_next : (bytes : List ℕ) (end : ℕ) (want : Want) (line : ℕ) (word : Word) (words : List Word) (tokens : List Token) → Spells bytes line (word ∷ words) tokens
    → (t : Token) × Gets bytes (NextToken end want) tokens t (line_behind line word) words
gets_next bytes end want line word words [] s = absurd s
gets_next bytes end want line word words (t ∷ tokens) (text, at, more) = (t, record { rest = tokens; made = refl; spelled = more })

counted : (n line at : ℕ) (text : List ℕ) (tokens : List Token) → n < 2 ^ 32 → text ≡ decimal n → at ≡ line → CountOf (count_of text) at tokens (Ok ((n, line), tokens))
counted n line at text tokens small e f =
    subst (λ count. CountOf count at tokens (Ok ((n, line), tokens))) (sym (ap count_of e ∙ decimal_read n small)) (ap (λ (l : ℕ). Ok ((n, l), tokens)) (sym f))

pub gets_count : (bytes : List ℕ) (end : ℕ) (want : Want) (n line : ℕ) (word : Word) (words : List Word) (tokens : List Token) → n < 2 ^ 32 → letters word ≡ decimal n
    → Spells bytes line (word ∷ words) tokens → Gets bytes (Count bytes end want) tokens (n, line) (line_behind line word) words
gets_count bytes end want n line word words [] small is s = absurd s
gets_count bytes end want n line word words (t ∷ tokens) small is (text, at, more) =
    record { rest = tokens; made = (Ok (t, tokens), refl, counted n line t.line (text_of bytes t) tokens small (text ∙ is) at); spelled = more }

pub gets_coordinate : (bytes : List ℕ) (decimals : ℕ) (z : ℤ) (line : ℕ) (word : Word) (words : List Word) (tokens : List Token) → unsigned_abs z ≤ 2 ^ 20
    → letters word ≡ coordinate_text decimals z → Spells bytes line (word ∷ words) tokens
    → Gets bytes (Coordinate decimals Millimetre bytes) tokens z (line_behind line word) words
gets_coordinate bytes decimals z line word words [] small is s = absurd s
gets_coordinate bytes decimals z line word words (t ∷ tokens) small is (text, at, more) =
    let read : Units decimals Millimetre (text_of bytes t) t.line tokens (Ok (z, tokens)) =
    subst (λ (bytes : List ℕ). Units decimals Millimetre bytes t.line tokens (Ok (z, tokens))) (sym (text ∙ is)) (units_read decimals z t.line tokens small) in
    record { rest = tokens; made = (Ok (t, tokens), refl, read); spelled = more }
