-- Texts that were fetched whole from a desk, a block at a time.
use Rattle.std.specs.Prelude.{ℕ, ◌<◌, List, [], ◌++◌, length, Option, Some}
use Rattle.desk.specs.Files.{Files}

-- by fetches of some bytes of a file with this name, each from where those before it end, one desk became another
pub data AreFetched {D : Type 0} (Fetches : D → List ℕ → ℕ → List ℕ → D → Type 0) (name : List ℕ) : D → D → List ℕ → Type 0 where
  nothing : (desk : D) → AreFetched Fetches name desk desk []
  block : (old between new : D) (bytes next : List ℕ) → AreFetched Fetches name old between bytes → 0 < length next → Fetches between name (length bytes) next new
      → AreFetched Fetches name old new (bytes ++ next)

-- the text of a file was taken: its bytes, and then none more, and no other fetch was made between
pub record IsTaken {D : Type 0} (Fetches : D → List ℕ → ℕ → List ℕ → D → Type 0) (name : List ℕ) (old new : D) (text : List ℕ) : Type 0 where
  pub last : D
  pub fetched : AreFetched Fetches name old last text
  pub end : Fetches last name (length text) [] new

-- files that all hold this text
abbrev pub all_hold : List ℕ → Files
all_hold text name = Some text
