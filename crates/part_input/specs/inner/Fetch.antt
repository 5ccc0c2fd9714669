-- What is fetched of a file, a block at a time.
use Rattle.std.specs.Prelude.{◌≡◌, ◌≤◌, ◌+◌, ℕ, List, ◌++◌, length, take, drop, Option, Some, None, ◌↔◌}

-- the next n of the bytes came to the end of old; there were none exactly at the end
pub record AddsBlock (bytes old : List ℕ) (n : ℕ) (new : List ℕ) : Type 0 where
  pub onto : new ≡ old ++ take n (drop (length old) bytes)
  pub count : length new ≡ length old + n
  pub end : (n ≡ 0) ↔ (length bytes ≤ length old)

-- a fetch of n bytes, from where old ends, brought them to the end of old
pub record AddsFetched {D : Type 0} (Fetches : D → List ℕ → ℕ → List ℕ → D → Type 0) (name : List ℕ) (before after : D) (old : List ℕ) (n : ℕ) (new : List ℕ) : Type 0 where
  pub next : List ℕ
  pub count : length next ≡ n
  pub onto : new ≡ old ++ next
  pub fetched : Fetches before name (length old) next after

-- the file is there, and its next n bytes came to the end of old
abbrev pub IsFetchedOnto : Option (List ℕ) → List ℕ → ℕ → List ℕ → Type 0
IsFetchedOnto None old n new = ⊥
IsFetchedOnto (Some bytes) old n new = AddsBlock bytes old n new
