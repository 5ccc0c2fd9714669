-- The line of a text at which TOML refuses it.
use Rattle.std.specs.Prelude.{ℕ, zero, suc, ◌<◌, List, [], ◌∷◌, length, take, drop, IsSome}
use Rattle.std.specs.Str.{IsUtf8}
use Rattle.toml.specs.Parse.{parse_document}
use Rattle.job_text.specs.Lines.{TextLine}

-- bytes that TOML accepts
abbrev pub IsToml : List ℕ → Type 0
IsToml bytes = IsUtf8 bytes × IsSome (parse_document bytes)

-- the text up to the first of some lines; all of it, if there is none
abbrev pub up_to_first : List ℕ → List TextLine → List ℕ
up_to_first text [] = text
up_to_first text (line ∷ lines) = take line.at text

-- the text up to the line of this index; nothing before the first line
abbrev pub before_line : List ℕ → List TextLine → ℕ → List ℕ
before_line text lines zero = []
before_line text lines (suc i) = up_to_first text (drop (suc i) lines)

-- TOML accepts the text up to this line, and refuses it with the line
pub record IsRefusedLine (text : List ℕ) (lines : List TextLine) (i : ℕ) : Type 0 where
  pub inside : i < length lines
  pub accepted : IsToml (before_line text lines i)
  pub refused : ¬ IsToml (before_line text lines (suc i))
