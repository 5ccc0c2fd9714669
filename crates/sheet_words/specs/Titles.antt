-- Texts that a title may be.
use Rattle.std.specs.Prelude.{ℕ, IsTrue, List, Option}
use Rattle.std.specs.Option.{ForSome}
use Rattle.job_file.specs.Texts.{is_title}

-- if there is a text, a title may be it
abbrev pub IsProper : Option (List ℕ) → Type 0
IsProper said = ForSome said (λ text. IsTrue (is_title text))
