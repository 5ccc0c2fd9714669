-- A summary that is said, unless another text is; then it is warned.
use Rattle.std.specs.Prelude.{◌≡◌, ◌++◌, ℕ, List}
use Rattle.desk.specs.Files.{AppendsFront}
use Rattle.put_texts.specs.Order.{Way, nowhere, aloud, under}

-- what else is said where a text isn't
abbrev pub unless_said : Way → Way → Way
unless_said nowhere way = way
unless_said aloud way = nowhere
unless_said (under name) way = way

-- beside a text that is said a run without a fault warns by the summary: by a prefix of it, and where no warning fails by all of it
abbrev pub Notes : Way → List ℕ → List ℕ → List ℕ → Type 0
Notes nowhere summary old new = AppendsFront old new summary
Notes aloud summary old new = new ≡ old
Notes (under name) summary old new = new ≡ old

abbrev pub NotesWhole : Way → List ℕ → List ℕ → List ℕ → Type 0
NotesWhole nowhere summary old new = new ≡ old ++ summary
NotesWhole aloud summary old new = new ≡ old
NotesWhole (under name) summary old new = new ≡ old

-- and else it doesn't try to
abbrev pub IsQuiet : Way → ℕ → ℕ → Type 0
IsQuiet nowhere old new = Unit {0}
IsQuiet aloud old new = new ≡ old
IsQuiet (under name) old new = new ≡ old
