-- What a failed call leaves of a file.
use Rattle.std.specs.Prelude.{◌≡◌, ℕ, List}
use Rattle.desk.specs.Memory.{MemoryState, TearsFile}

-- it changes nothing but the files
abbrev pub TearsState : MemoryState → MemoryState → List ℕ → List ℕ → Type 0
TearsState old new name bytes = (new ≡ record old { files = new.files }) × TearsFile old.left old.files new.files name bytes
