-- The text up to a line, and texts that TOML accepts.
use Rattle.std.proofs.Common.{◌≡◌, ℕ, zero, suc, ◌<◌, List, [], ◌∷◌, Some, map, length, take, drop, refl, sym, subst, ap, arith}
use Rattle.std.proofs.lemmas.Option.{slice_get_within, get_or_from_slice_get}
use Rattle.std.specs.List.{slice_get, AllZip}
use Rattle.std.specs.Option.{IsSome, option_map}
use Rattle.std.specs.Str.{IsUtf8}
use Rattle.job_text.specs.Lines.{TextLine as SeenLine}
use Rattle.job_text.specs.Seen.{line_seen}
use Rattle.job_text.specs.Toml.{AreLinesOfToml, IsExpressionOf, defined}
use Rattle.job_text.specs.declared.line.TextLine.{TextLine}
use Rattle.toml.proofs.OnLiterals.{toml_on_literals}
use Rattle.toml.specs.Parse.{parse_document}
use Rattle.toml.specs.Tables.{no_nodes, close, Expression}
use Rattle.job_tables.specs.Refused.{IsToml, up_to_first, before_line}

-- ---- places
up_to_line : (text : List ℕ) (lines : List TextLine) (i : ℕ) (line : TextLine) → slice_get lines i ≡ Some line → up_to_first text (drop i (map line_seen lines)) ≡ take line.at text
up_to_line text [] i line is = absurd (omega (arith, slice_get_within [] i line is))
up_to_line text (l ∷ lines) zero line is = ap (λ (x : TextLine). take x.at text) (get_or_from_slice_get (l ∷ lines) zero line l is)
up_to_line text (l ∷ lines) (suc i) line is = up_to_line text lines i line is

pub before_line_of : (text : List ℕ) (lines : List TextLine) (i : ℕ) (line : TextLine) → (i ≡ 0 → ⊥) → slice_get lines i ≡ Some line → before_line text (map line_seen lines) i ≡ take line.at text
before_line_of text lines zero line some is = absurd (some refl)
before_line_of text lines (suc i) line some is = up_to_line text lines (suc i) line is

up_to_end : (text : List ℕ) (lines : List SeenLine) → up_to_first text (drop (length lines) lines) ≡ text
up_to_end text [] = refl
up_to_end text (l ∷ lines) = up_to_end text lines

pub before_end : (text : List ℕ) (lines : List SeenLine) → 0 < length lines → before_line text lines (length lines) ≡ text
before_end text [] some = absurd (omega (arith, some))
before_end text (l ∷ lines) some = up_to_end text (l ∷ lines)

-- ---- texts
pub empty_is_toml : IsToml []
unfolding toml_on_literals
empty_is_toml = (([], (refl, refl)), refl)

no_expressions : (text : List ℕ) (es : List (ℕ × Expression)) → AllZip IsExpressionOf [] es → parse_document text ≡ option_map (λ doc. close doc.0) (defined (no_nodes, []) (map (λ e. e.1) es)) → IsSome (parse_document text)
no_expressions text [] each all = subst IsSome (sym all) refl
no_expressions text (e ∷ es) each all = absurd each

pub some_lines : (text : List ℕ) (lines : List SeenLine) → AreLinesOfToml text lines → IsUtf8 text → ¬ IsToml text → 0 < length lines
some_lines text [] read utf8 refused = absurd (refused (utf8, no_expressions text read.expressions read.each read.all))
some_lines text (l ∷ lines) read utf8 refused = omega arith
