-- Vertices, lines, and the text's end.
use Rattle.std.specs.Prelude.{ℕ, nat_lt, ℤ, List, length, filter, Ok}
use Rattle.lattice.specs.Triple.{Triple}
use Rattle.lex_lines.specs.Places.{line_at}
use Rattle.dec_text.specs.declared.number.Length.{Length}
use Rattle.weld.specs.declared.fault.Want.TheVariants as want
use Rattle.part_text.specs.Steps.{Step, StepGives, ◌then◌, Computes}
use Rattle.part_text.specs.Words.{text_of, NextToken, Units}

-- the text's last line
abbrev pub end : List ℕ → ℕ
end bytes = line_at bytes (length bytes)

module _ (decimals : ℕ) (unit : Length) (bytes : List ℕ) where
  abbrev pub Coordinate : Step ℤ
  Coordinate = NextToken (end bytes) want.Coordinate then λ t. Units decimals unit (text_of bytes t) t.line

  abbrev pub Vertex : Step Triple
  Vertex = Coordinate then λ x. Coordinate then λ y. Coordinate then λ z. StepGives (record { x = x; y = y; z = z })

-- the rest of a line is not read
abbrev pub SkipLine : ℕ → Step (Unit {0})
SkipLine line = Computes (λ tokens. Ok (tt, filter (λ t. nat_lt line t.line) tokens))
