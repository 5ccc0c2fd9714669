-- A path, read character by character.
use Rattle.std.specs.Prelude.{ℕ, ◌==◌, if◌then◌else◌, List, [], ◌++◌}
use Rattle.std.specs.Char.{encode_utf8}
use Rattle.sheet_page.specs.BlockNames.{shown_char}

-- what is shown after one more character: after a slash nothing
abbrev pub with_char : List ℕ → ℕ → List ℕ
with_char text c = if c == 47 then [] else text ++ encode_utf8 (shown_char c)
