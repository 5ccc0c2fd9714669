-- The text of a line.
use Rattle.std.specs.Prelude.{ℕ, List, string_bytes}
use Rattle.fault_lines.specs.declared.line.Line.{Line}
use Rattle.fault_lines.specs.declared.line.Line.TheVariants.{Fixed, Made}

abbrev pub text_of : Line → List ℕ
text_of (Fixed text) = text.bytes
text_of (Made text) = string_bytes text
