-- What the calls of a desk in memory do to it.
use Rattle.std.specs.Prelude.{◌≡◌, ◌+◌, ◌-◌, ◌^◌, ◌++◌, min, ℕ, Bool, true, false, List, [], ◌∷◌, take, Option, Some, None, Result, Ok, Err}
use Rattle.desk.specs.Files.{Files, Keeps, DeskState}
use Rattle.desk.specs.declared.desk.DeskFault.{DeskFault}
use Rattle.desk.specs.declared.desk.DeskFault.TheVariants.{Failed, Memory}

-- its files, the numbers of the calls that are to fail, how many bytes such a call leaves, if it leaves any, how many calls there
-- were, what was said and warned, and how many faults there were of each kind
pub record MemoryState : Type 0 where
  pub files : Files
  pub failing : List ℕ
  pub left : Option ℕ
  pub calls : ℕ
  pub said : List ℕ
  pub warned : List ℕ
  pub read_faults : ℕ
  pub write_faults : ℕ
  pub warn_faults : ℕ

-- a count after one more: it stays at the end of its type
abbrev pub next : ℕ → ℕ
next count = min (count + 1) (2 ^ 64 - 1)

-- one call more
abbrev pub called : MemoryState → MemoryState
called s = record s { calls = next s.calls }

-- one fault of reading more
abbrev pub with_read_fault : MemoryState → MemoryState
with_read_fault s = record s { read_faults = next s.read_faults }

-- one fault of writing more
abbrev pub with_write_fault : MemoryState → MemoryState
with_write_fault s = record s { write_faults = next s.write_faults }

-- one fault of warning more
abbrev pub with_warn_fault : MemoryState → MemoryState
with_warn_fault s = record s { warn_faults = next s.warn_faults }

abbrev pub with_said : List ℕ → MemoryState → MemoryState
with_said bytes s = record s { said = bytes }

abbrev pub with_warned : List ℕ → MemoryState → MemoryState
with_warned bytes s = record s { warned = bytes }

-- a text to which a failed call has added what it leaves of these bytes
abbrev pub torn_text : Option ℕ → List ℕ → List ℕ → List ℕ
torn_text None text bytes = text
torn_text (Some n) text bytes = text ++ take n bytes

abbrev pub with_torn_said : List ℕ → MemoryState → MemoryState
with_torn_said bytes s = with_said (torn_text s.left s.said bytes) s

abbrev pub with_torn_warned : List ℕ → MemoryState → MemoryState
with_torn_warned bytes s = with_warned (torn_text s.left s.warned bytes) s

-- a failed call leaves the files as they were, or under this name the first so many of these bytes
abbrev pub TearsFile : Option ℕ → Files → Files → List ℕ → List ℕ → Type 0
TearsFile None old new name bytes = new ≡ old
TearsFile (Some n) old new name bytes = Keeps old new name (take n bytes)

-- what a keep leaves, by its answer
abbrev pub LeavesState : {T : Type 0} → Result T DeskFault → MemoryState → MemoryState → List ℕ → List ℕ → Type 0
LeavesState (Ok done) old new name bytes = (new ≡ record (called old) { files = new.files }) × Keeps old.files new.files name bytes
LeavesState (Err Failed) old new name bytes =
    (new ≡ record (with_write_fault (called old)) { files = new.files }) × TearsFile old.left old.files new.files name bytes
LeavesState (Err (Memory none)) old new name bytes = new ≡ called old

-- what a saying or a warning leaves, by its answer: done, failed, or with no memory found
abbrev pub IsOneOf : {T : Type 0} → Result T DeskFault → MemoryState → MemoryState → MemoryState → MemoryState → Type 0
IsOneOf (Ok r) new done failed wanting = new ≡ done
IsOneOf (Err Failed) new done failed wanting = new ≡ failed
IsOneOf (Err (Memory e)) new done failed wanting = new ≡ wanting

-- there is nothing in the list
abbrev pub is_no_text : List ℕ → Bool
is_no_text [] = true
is_no_text (x ∷ xs) = false

-- it tells all; it is steady where no call is to fail, and may find no memory
abbrev pub told : MemoryState → DeskState
told s = record {
  tells = true;
  files = s.files;
  tells_said = true;
  said = s.said;
  tells_warned = true;
  warned = s.warned;
  read_faults = s.read_faults;
  write_faults = s.write_faults;
  warn_faults = s.warn_faults;
  steady = is_no_text s.failing;
  firm = false;
}
