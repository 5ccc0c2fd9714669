-- The steps of mending a part that isn't sound.
use Rattle.std.specs.Prelude.{◌≡◌, ℕ, [], Result, Ok, Err}
use Rattle.flip_slivers.specs.Pairs.{IsWithoutPairs}
use Rattle.geometry.specs.Parts.{Part, part_of}
use Rattle.geometry.specs.Sound.{IsSound}
use Rattle.mend_core.specs.Mending.{Made, Told, sound_already, by_flips, IsMendedBy}
use Rattle.mend_core.specs.declared.mending.Repair.{Repair}
use Rattle.part_input.specs.declared.fault.Fault.{Fault}
use Rattle.part_input.specs.declared.fault.Fault.TheVariants.{Nothing, Mesh}
use Rattle.solid_mesh.specs.Faults.{HasFault}
use Rattle.solid_mesh.specs.declared.faults.MeshFault.{MeshFault}

-- a part after so many flips, which moved no point by more than so many 1024ths of a unit, without so many pairs
abbrev pub repair_of : Repair → Made
repair_of r = record { told = by_flips r.flips r.moved r.pairs; part = part_of r.soup }

abbrev pub IsRepair : ℕ → Part → Told → Part → Type 0
IsRepair limit given sound_already part = ⊥
IsRepair limit given (by_flips flips moved pairs) part = IsMendedBy limit flips moved pairs given part

-- the part is repaired as far as flips do, or all its triangles went in pairs
abbrev pub Repairs : ℕ → Part → Result Made Fault → Type 0
Repairs limit given (Ok repaired) = IsRepair limit given repaired.told repaired.part
Repairs limit given (Err e) = (e ≡ Nothing) × IsWithoutPairs given.triangles []

-- what was repaired is sound, or has a fault
abbrev pub ChecksRepair : Made → Result Made Fault → Type 0
ChecksRepair repaired (Ok made) = (made ≡ repaired) × IsSound made.part
ChecksRepair repaired (Err e) = (fault : MeshFault) × (e ≡ Mesh fault) × HasFault repaired.part fault
