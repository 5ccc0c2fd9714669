-- The part of a sample is sound, so no run of a sample has a fault of a surface.
use Rattle.std.proofs.Common.{◌≡◌, inl, inr, ℕ, List, Option, Some, None, IsSomeAnd, Ok, Err, refl, subst}
use Rattle.desk.specs.Files.{Files}
use Rattle.dec_text.specs.declared.number.Length.{Length}
use Rattle.geometry.specs.Parts.{Part}
use Rattle.geometry.specs.Sound.{IsSound}
use Rattle.solid_mesh.specs.declared.faults.MeshFault.{MeshFault}
use Rattle.answers_unique.proofs.OneFault.{none_sound}
use Rattle.part_input.specs.declared.fault.Fault.TheVariants.{SampleRange, Mesh}
use Rattle.part_input.specs.Parts.{sample_size, cubes_along, IsSample, MakesSample, TakesSoupOr, TakesSolid}
use Rattle.part_input.proofs.SomeSteps.{cubes_within}
use Rattle.answers_exist.proofs.SoundSample.{sound_sample}

-- the sample that is made for a size is sound
pub sample_is_sound : (size : List ℕ) (part : Part) → MakesSample size (Ok part) → IsSound part
sample_is_sound size part made = by (cubes_along size) refl made
  where
    by : (o : Option ℕ) → cubes_along size ≡ o → IsSomeAnd o (λ n. IsSample n part) → IsSound part
    by None e made = elim made [ ]
    by (Some n) e made = let (least, most) = cubes_within size n e in sound_sample n least most part made.corners made.triangles

not_mesh : (fault : MeshFault) → Mesh fault ≡ SampleRange → ⊥
not_mesh fault e = cc

-- the part that a name stands for is never refused for its surface, where the name is that of a sample
pub no_fault_of_sample : (files : Files) (name size : List ℕ) (decimals : ℕ) (unit : Length) → sample_size name ≡ Some size → (fault : MeshFault) → TakesSolid files name decimals unit (Err (Mesh fault)) → ⊥
no_fault_of_sample files name size decimals unit is fault (inl made) = not_mesh fault (subst (λ (o : Option (List ℕ)). TakesSoupOr o files name decimals unit (Err (Mesh fault))) is made).0
no_fault_of_sample files name size decimals unit is fault (inr (part, made, (other, same, has))) =
    none_sound part other has (sample_is_sound size part (subst (λ (o : Option (List ℕ)). TakesSoupOr o files name decimals unit (Ok part)) is made))
