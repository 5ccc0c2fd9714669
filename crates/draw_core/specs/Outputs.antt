-- The outputs of a job, and the files that a run keeps.
use Rattle.std.specs.Prelude.{◌≡◌, ℕ, ◌+◌, ◌-◌, All, List, [], ◌∷◌, length, take, drop, slice_get, codes, Option, Some, None, is_some, if◌then◌else◌}
use Rattle.std.specs.Str.{bytes_eq}
use Rattle.desk.specs.Files.{Files, Keeps, MayKeepFront}
use Rattle.plot_rack.specs.Choices.{first_with}
use Rattle.svg_page.specs.Texts.{◌⊕◌}
use Rattle.part_input.specs.declared.fault.Target.{Target}
use Rattle.part_input.specs.declared.fault.Target.TheVariants.{Out, Plot, Summary}
use Rattle.part_input.specs.declared.fault.Fault.{Fault}
use Rattle.part_input.specs.declared.fault.Fault.TheVariants.{WriteFault, Memory}

-- the first name that is none of these suffixes
abbrev pub first_unmet : List (List ℕ) → List (List ℕ) → Option (List ℕ)
first_unmet suffixes [] = None
first_unmet suffixes (name ∷ names) = if is_some (first_with (λ suffix. suffix) suffixes name) then first_unmet suffixes names else Some name

-- a name without a last `.svg`
abbrev pub stem_of : List ℕ → List ℕ
stem_of name = if bytes_eq (drop (length name - 4) name) (codes ".svg") then take (length name - 4) name else name

-- the name of a plotter's file, beside a drawing with this name
abbrev pub plot_name : List ℕ → List ℕ → List ℕ
plot_name out suffix = stem_of out ⊕ codes "." ⊕ suffix

-- ---- files that are kept, one after the other
-- a name, and the bytes under it
abbrev pub File : Type 0
File = List ℕ × List ℕ

abbrev pub KeepsAll : Files → Files → List File → Type 0
KeepsAll old new [] = new ≡ old
KeepsAll old new (file ∷ files) = (between : Files) × Keeps old between file.0 file.1 × KeepsAll between new files

-- each of these files is there, with its bytes
abbrev pub HoldsAll : Files → List File → Type 0
HoldsAll held files = All (λ file. held file.0 ≡ Some file.1) files

-- a file that is kept in part: its name holds what it held, or a prefix of its bytes
abbrev pub MayKeep : Files → Files → Option File → Type 0
MayKeep old new None = ⊥
MayKeep old new (Some file) = MayKeepFront old new file.0 file.1

-- the drawing's file comes first, and then those of the plotters, in the order of the job's outputs; the summary is no file
abbrev pub place_of : Target → Option ℕ
place_of Out = Some 0
place_of (Plot number) = Some (number + 1)
place_of Summary = None

-- what a fault of writing leaves: the files before the one at this place whole, that one in part, and the later ones as they
-- were; and all files whole where it was at none of them
abbrev pub LeavesUpTo : Option ℕ → Files → Files → List File → Type 0
LeavesUpTo None old new files = KeepsAll old new files
LeavesUpTo (Some place) old new files =
    (between : Files) × KeepsAll old between (take place files) × MayKeep between new (slice_get files place)

-- what a run that has a drawing leaves: all files whole; what its fault of writing leaves; after want of memory some first
-- ones whole, and the others as they were
abbrev pub LeavesAll : Option Fault → Files → Files → List File → Type 0
LeavesAll None old new files = KeepsAll old new files
LeavesAll (Some (WriteFault target)) old new files = LeavesUpTo (place_of target) old new files
LeavesAll (Some Memory) old new files = (n : ℕ) × KeepsAll old new (take n files)
LeavesAll (Some fault) old new files = ⊥
