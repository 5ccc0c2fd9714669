-- The part that a name stands for, a sample or the part of a file: what is taken, what it says, and what may be at fault.
use Rattle.std.specs.Prelude.{◌≡◌, ◌<◌, ◌-◌, ◌&&◌, nat_le, ℕ, List, [], ◌∷◌, length, map, codes, Option, Some, None, IsSome, IsSomeAnd, Result, Ok, Err, if◌then◌else◌}
use Rattle.dec_text.specs.declared.number.Length.{Length}
use Rattle.desk.specs.Files.{Files}
use Rattle.command_words.specs.Grammar.{behind}
use Rattle.geometry.specs.Parts.{Part}
use Rattle.geometry.specs.Sound.{IsSound}
use Rattle.lattice.specs.Points.{of_corner}
use Rattle.sample_part.specs.Boxes.{corners_of, triangles_of}
use Rattle.weld.specs.Raw.{Raw}
use Rattle.weld.specs.Welds.{IsWeldOf, proper_of}
use Rattle.weld.specs.declared.fault.PartFault.{PartFault}
use Rattle.solid_mesh.specs.Faults.{HasFault}
use Rattle.solid_mesh.specs.declared.faults.MeshFault.{MeshFault}
use Rattle.part_input.specs.Jobs.{TakesFile}
use Rattle.part_input.specs.Reading.{ReadsPartText}
use Rattle.part_input.specs.Steps.{◌and_then◌}
use Rattle.part_input.specs.declared.fault.Input.TheVariants.{Part as ThePart}
use Rattle.part_input.specs.declared.fault.Fault.{Fault}
use Rattle.part_input.specs.declared.fault.Fault.TheVariants.{ReadFault, SampleRange, PartTooLong, Part as PartUnread, Nothing, Mesh, Memory}

-- what the part's text says, in lengths of that unit, in units of 10^-decimals mm
abbrev pub ReadsText : ℕ → Length → (bytes : List ℕ) → Result Raw Fault → Type 0
ReadsText decimals unit bytes (Ok raw) = ReadsPartText decimals unit bytes (Ok raw)
ReadsText decimals unit bytes (Err e) = (cause : PartFault) × (e ≡ PartUnread cause) × ReadsPartText decimals unit bytes (Err cause)

-- its weld has a triangle
abbrev pub WeldsPart : Raw → Result Part Fault → Type 0
WeldsPart raw (Ok part) = IsWeldOf raw part.corners part.triangles × (0 < length part.triangles)
WeldsPart raw (Err e) = (e ≡ Nothing) × (proper_of raw ≡ [])

-- its text is read, and welded
abbrev pub ReadsPart : ℕ → Length → List ℕ → Result Part Fault → Type 0
ReadsPart decimals unit bytes = ReadsText decimals unit bytes and_then WeldsPart

-- its surface is sound: it is closed, no two triangles have the same corners, and edges meet faces in shared corners only
abbrev pub ChecksPart : Part → Result Part Fault → Type 0
ChecksPart part (Ok solid) = (solid ≡ part) × IsSound part
ChecksPart part (Err e) = (fault : MeshFault) × (e ≡ Mesh fault) × HasFault part fault

-- what stands behind `sample:`, where a name begins so: the size of a sample
abbrev pub sample_size : List ℕ → Option (List ℕ)
sample_size name = behind (codes "sample:") name

-- how many cubes a size asks for along each axis: it is one of the digits 1 to 8
abbrev pub cubes_along : List ℕ → Option ℕ
cubes_along [] = None
cubes_along (digit ∷ []) = if nat_le 49 digit && nat_le digit 56 then Some (digit - 48) else None
cubes_along (digit ∷ more ∷ rest) = None

-- the sample with n cubes along each axis
pub record IsSample (n : ℕ) (part : Part) : Type 0 where
  pub corners : map of_corner part.corners ≡ corners_of n
  pub triangles : part.triangles ≡ triangles_of n

-- the sample of a size is made
abbrev pub MakesSample : List ℕ → Result Part Fault → Type 0
MakesSample size (Ok part) = IsSomeAnd (cubes_along size) (λ n. IsSample n part)
MakesSample size (Err e) = (e ≡ SampleRange) × (cubes_along size ≡ None)

-- the part is a sample of this size, which is made, or the file of this name, which is taken, read with the job's decimals and unit, and welded
abbrev pub TakesSoupOr : Option (List ℕ) → Files → List ℕ → ℕ → Length → Result Part Fault → Type 0
TakesSoupOr (Some size) files name decimals unit = MakesSample size
TakesSoupOr None files name decimals unit = TakesFile ThePart files name and_then ReadsPart decimals unit

-- the part that a name stands for
abbrev pub TakesSoup : Files → List ℕ → ℕ → Length → Result Part Fault → Type 0
TakesSoup files name decimals unit = TakesSoupOr (sample_size name) files name decimals unit

-- it is sound
abbrev pub TakesSolid : Files → List ℕ → ℕ → Length → Result Part Fault → Type 0
TakesSolid files name decimals unit = TakesSoup files name decimals unit and_then ChecksPart

-- ---- faults
-- those of making a sample of this size, and those of the text of a file
abbrev pub IsOfSize : List ℕ → Fault → Type 0
IsOfSize size SampleRange = cubes_along size ≡ None
IsOfSize size Memory = Unit {0}
IsOfSize size fault = ⊥

abbrev pub IsOfPartText : Fault → Type 0
IsOfPartText (ReadFault ThePart) = Unit {0}
IsOfPartText PartTooLong = Unit {0}
IsOfPartText (PartUnread cause) = Unit {0}
IsOfPartText Nothing = Unit {0}
IsOfPartText Memory = Unit {0}
IsOfPartText fault = ⊥

abbrev pub IsOfSoupOr : Option (List ℕ) → Fault → Type 0
IsOfSoupOr (Some size) fault = IsOfSize size fault
IsOfSoupOr None fault = IsOfPartText fault

-- the faults of the part that a name stands for, before it is checked
abbrev pub IsOfSoup : List ℕ → Fault → Type 0
IsOfSoup name fault = IsOfSoupOr (sample_size name) fault

-- the faults of the part of a file
abbrev pub IsOfPartFile : Fault → Type 0
IsOfPartFile (ReadFault ThePart) = Unit {0}
IsOfPartFile PartTooLong = Unit {0}
IsOfPartFile (PartUnread cause) = Unit {0}
IsOfPartFile Nothing = Unit {0}
IsOfPartFile (Mesh fault) = Unit {0}
IsOfPartFile Memory = Unit {0}
IsOfPartFile fault = ⊥

abbrev pub IsOfSampleOr : Option (List ℕ) → Fault → Type 0
IsOfSampleOr (Some size) fault = IsOfSize size fault
IsOfSampleOr None fault = IsOfPartFile fault

-- the faults of the part that a name stands for: a sample, which is sound, has none of a surface
abbrev pub IsOfPart : List ℕ → Fault → Type 0
IsOfPart name fault = IsOfSampleOr (sample_size name) fault

-- ---- files
-- a part that isn't a sample is there
abbrev pub HasSampleOr : Option (List ℕ) → Files → List ℕ → Type 0
HasSampleOr (Some size) files name = Unit {0}
HasSampleOr None files name = IsSome (files name)
