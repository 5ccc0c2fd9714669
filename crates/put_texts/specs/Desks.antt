-- What a run, or a step of it, changes of its desk.
use Rattle.std.specs.Prelude.{◌≡◌, ◌++◌, ℕ, true, List}
use Rattle.desk.specs.Files.{DeskState, AppendsFront, OnlyWarns, Rose}

-- ---- a run
-- nothing but the files, what was said and warned, and the faults changed
abbrev pub OnlyRuns : DeskState → DeskState → Type 0
OnlyRuns old new =
    new ≡ record old { files = new.files; said = new.said; warned = new.warned; read_faults = new.read_faults; write_faults = new.write_faults; warn_faults = new.warn_faults }

-- the desk tells what was warned, always finds memory, and no warning failed
pub record HearsAll (old new : DeskState) : Type 0 where
  pub tells : old.tells_warned ≡ true
  pub firm : old.firm ≡ true
  pub no_fault : Rose old.warn_faults new.warn_faults → ⊥

-- ---- a step of it
-- nothing but the files, what was said, and the faults of writing changed
abbrev pub OnlyPuts : DeskState → DeskState → Type 0
OnlyPuts old new = new ≡ record old { files = new.files; said = new.said; write_faults = new.write_faults }

-- nothing but the files, what was warned, and the faults of writing and warning changed
abbrev pub OnlyFilesAndWarned : DeskState → DeskState → Type 0
OnlyFilesAndWarned old new = new ≡ record old { files = new.files; warned = new.warned; write_faults = new.write_faults; warn_faults = new.warn_faults }

-- nothing but what was said and warned, and the faults of writing and warning changed
abbrev pub OnlySaidAndWarned : DeskState → DeskState → Type 0
OnlySaidAndWarned old new = new ≡ record old { said = new.said; warned = new.warned; write_faults = new.write_faults; warn_faults = new.warn_faults }

-- nothing but the files, what was said and warned, and the faults of writing and warning changed
abbrev pub OnlyWrites : DeskState → DeskState → Type 0
OnlyWrites old new = new ≡ record old { files = new.files; said = new.said; warned = new.warned; write_faults = new.write_faults; warn_faults = new.warn_faults }

-- nothing was warned
pub record IsUnwarned (old new : DeskState) : Type 0 where
  pub warned : new.warned ≡ old.warned
  pub warn_faults : new.warn_faults ≡ old.warn_faults

-- it was warned by this line: by a prefix of it, and where no warning fails by all of it
pub record IsWarned (line : List ℕ) (old new : DeskState) : Type 0 where
  pub front : old.tells_warned ≡ true → AppendsFront old.warned new.warned line
  pub whole : HearsAll old new → new.warned ≡ old.warned ++ line
  pub changes : OnlyWarns old new
