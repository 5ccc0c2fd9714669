-- Values that TOML reads up to the end of their lines, and their keys.
use Rattle.std.proofs.Common.{◌≡◌, ℕ, ◌≤◌, true, false, ◌==◌, List, [], ◌∷◌, ◌++◌, codes, Some, refl, arith, append_assoc, length-append}
use Rattle.std.proofs.lemmas.Bool.Decides.{nat_tests}
use Rattle.toml_parser.specs.Lexical.{first, skip_ws}
use Rattle.toml_parser.proofs.LexicalLemmas.{skip_ws_none}
use Rattle.toml_writer.specs.Text.{key_text}
use Rattle.toml_writer.proofs.Strings.{is_key_start-key_text}
use Rattle.toml.specs.Data.{Data, depth, has_valid_dates}
use Rattle.toml.specs.Parse.{val, expression, ends_line, line}
use Rattle.toml.specs.Tables.{key_value}
use Rattle.toml.specs.Text.{IsValueText}
use Rattle.toml.proofs.Blanks.{starts_value, skip_start}
use Rattle.toml.proofs.ReadValues.{value_start, read_value, key_equals-pair}
use Rattle.toml.proofs.Turns.{keyval_ok}
use Rattle.job_writer.specs.Pairs.{key_line}
use Rattle.job_writer.proofs.Lines.{IsLine}

-- in front of a line feed, the text is read as the value
abbrev pub IsReadAs : List ℕ → Data → Type 0
IsReadAs text d = (rest : List ℕ) → (starts_value (first (text ++ 10 ∷ rest)) ≡ true) × (val 80 (text ++ 10 ∷ rest) ≡ Some (d, 10 ∷ rest))

-- as the crate for TOML prints it
pub printed : (text : List ℕ) (d : Data) → IsValueText false d text → depth d ≤ 80 → has_valid_dates d ≡ true → IsReadAs text d
printed text d is deep valid rest =
    ((value_start false d text (10 ∷ rest) is valid).1, read_value false d 80 text (10 ∷ rest) is deep valid ((refl, refl), (refl, refl)))

line_over : (rest : List ℕ) → ends_line (skip_ws (10 ∷ rest)) ≡ true
line_over rest = rw (skip_ws_none (10 ∷ rest) refl) (grind (arith, nat_tests))

pair_read : (k text rest : List ℕ) (d : Data) → IsReadAs text d → line (key_text k ++ (codes " = " ++ (text ++ 10 ∷ rest))) ≡ Some ((([], k), key_value d), 10 ∷ rest)
unfolding line expression
pair_read k text rest d is =
    let at = text ++ 10 ∷ rest in
    let s = key_text k ++ (codes " = " ++ at) in
    let (start, read) = is rest in
    let pair = keyval_ok (val 80) s at (10 ∷ rest) ([], k) d (key_equals-pair k at start) read in
    let key_first = is_key_start-key_text k (codes " = " ++ at) in
    let other : (first s == 91) ≡ false = grind (arith, nat_tests) in
    rw (other, pair, line_over rest)

-- a key that needs no quotes, and its value
pub key_read : (k text : List ℕ) (d : Data) → key_text k ≡ k → IsReadAs text d → IsLine (([], k), key_value d) (key_line (k, text))
key_read k text d bare is rest =
    let s = key_text k ++ (codes " = " ++ (text ++ 10 ∷ rest)) in
    let same : key_line (k, text) ++ rest ≡ s = rw bare (simp append_assoc refl) in
    let key_first = is_key_start-key_text k (codes " = " ++ (text ++ 10 ∷ rest)) in
    let start : starts_value (first s) ≡ true = grind (arith, nat_tests) in
    let key_size = length-append (key_text k) (codes " = " ++ (text ++ 10 ∷ rest)) in
    let value_size = length-append text (10 ∷ rest) in
    (s, rw same (skip_start s start), pair_read k text rest d is, omega (arith, key_size), omega (arith, key_size, value_size), rw same (grind (arith, nat_tests)))
