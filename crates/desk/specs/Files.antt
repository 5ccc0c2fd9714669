-- What a desk holds, and what its calls do to it.
use Rattle.std.specs.Prelude.{◌≡◌, ◌≢◌, ◌<◌, ◌≤◌, ◌-◌, ◌^◌, ◌⊎◌, ◌↔◌, ◌++◌, ℕ, Bool, List, [], ◌∷◌, length, take, drop, option_map, Option, Some, None, Result, Ok, Err, if◌then◌else◌, Vec}
use Rattle.std.specs.Str.{bytes_eq}
use Rattle.std.specs.declared.alloc.Global.{Global}
use Rattle.desk.specs.declared.desk.DeskFault.{DeskFault}
use Rattle.desk.specs.declared.desk.DeskFault.TheVariants.{Failed, Memory}

-- the bytes under each name, and none where there is no such name
abbrev pub Files : Type 0
Files = List ℕ → Option (List ℕ)

-- the first of these with this name
abbrev pub named_at : {V : Type 0} → List (List ℕ × V) → List ℕ → Option V
named_at [] name = None
named_at (one ∷ others) name = if bytes_eq one.0 name then Some one.1 else named_at others name

-- the bytes of the first file with this name
abbrev pub file_at : List (List ℕ × Vec ℕ Global) → Files
file_at files name = option_map (λ bytes. bytes.items) (named_at files name)

-- what a desk stands for
pub record DeskState : Type 0 where
  -- whether it tells its files, and the bytes under each name where it tells them
  pub tells : Bool
  pub files : Files
  -- the same of what was said, and of what was warned
  pub tells_said : Bool
  pub said : List ℕ
  pub tells_warned : Bool
  pub warned : List ℕ
  -- the faults of reading, of keeping and saying, and of warning so far
  pub read_faults : ℕ
  pub write_faults : ℕ
  pub warn_faults : ℕ
  -- whether it fails only where a name is missing
  pub steady : Bool
  -- whether it always finds memory
  pub firm : Bool

-- nothing but the faults of reading changed
abbrev pub OnlyReads : DeskState → DeskState → Type 0
OnlyReads old new = new ≡ record old { read_faults = new.read_faults }

-- nothing but the files and the faults of writing changed
abbrev pub OnlyKeeps : DeskState → DeskState → Type 0
OnlyKeeps old new = new ≡ record old { files = new.files; write_faults = new.write_faults }

-- nothing but what was said and the faults of writing changed
abbrev pub OnlySays : DeskState → DeskState → Type 0
OnlySays old new = new ≡ record old { said = new.said; write_faults = new.write_faults }

-- nothing but what was warned and the faults of warning changed
abbrev pub OnlyWarns : DeskState → DeskState → Type 0
OnlyWarns old new = new ≡ record old { warned = new.warned; warn_faults = new.warn_faults }

-- a count rose: it is greater now, or it stands at the end of its type
abbrev pub Rose : ℕ → ℕ → Type 0
Rose before now = (before < now) ⊎ (now ≡ 2 ^ 64 - 1)

-- the next n bytes from that place on stand at the front of into, and n is 0 exactly at the end or past it
pub record IsFetchedFrom (bytes : List ℕ) (at n : ℕ) (into : List ℕ) : Type 0 where
  pub front : take n into ≡ take n (drop at bytes)
  pub end : (n ≡ 0) ↔ (length bytes ≤ at)

-- the file is there, and its next n bytes were fetched
abbrev pub IsFetched : Option (List ℕ) → ℕ → ℕ → List ℕ → Type 0
IsFetched None at n into = ⊥
IsFetched (Some bytes) at n into = IsFetchedFrom bytes at n into

-- the name holds these bytes, and each other name what it held
pub record Keeps (old new : Files) (name bytes : List ℕ) : Type 0 where
  pub holds : new name ≡ Some bytes
  pub others : (other : List ℕ) → other ≢ name → new other ≡ old other

-- the name holds what it held or a prefix of these bytes, and each other name what it held
pub record MayKeepFront (old new : Files) (name bytes : List ℕ) : Type 0 where
  pub holds : (new name ≡ old name) ⊎ ((n : ℕ) × (new name ≡ Some (take n bytes)))
  pub others : (other : List ℕ) → other ≢ name → new other ≡ old other

-- what a keep leaves of the files, by its answer
abbrev pub Leaves : {T : Type 0} → Result T DeskFault → Files → Files → List ℕ → List ℕ → Type 0
Leaves (Ok done) old new name bytes = Keeps old new name bytes
Leaves (Err Failed) old new name bytes = MayKeepFront old new name bytes
Leaves (Err (Memory none)) old new name bytes = new ≡ old

-- a prefix of these bytes came to the end
abbrev pub AppendsFront : List ℕ → List ℕ → List ℕ → Type 0
AppendsFront old new bytes = (n : ℕ) × (new ≡ old ++ take n bytes)

-- what saying or warning leaves of what was said or warned before, by its answer
abbrev pub Appends : {T : Type 0} → Result T DeskFault → List ℕ → List ℕ → List ℕ → Type 0
Appends (Ok done) old new bytes = new ≡ old ++ bytes
Appends (Err Failed) old new bytes = AppendsFront old new bytes
Appends (Err (Memory none)) old new bytes = new ≡ old
