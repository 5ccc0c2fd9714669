-- What is made of a part: itself where its surface is sound, and else what flips of slivers make sound.
use Rattle.std.specs.Prelude.{◌≡◌, ◌⊎◌, ℕ, ◌+◌, ◌*◌, ◌<◌, ◌≤◌, List, [], length, Result, Ok, Err}
use Rattle.flip_slivers.specs.Near.{AreNearSurfaces}
use Rattle.flip_slivers.specs.Flipped.{IsFlipped}
use Rattle.flip_slivers.specs.Pairs.{IsWithoutPairs}
use Rattle.geometry.specs.Parts.{Part, part_with}
use Rattle.geometry.specs.Sound.{IsSound}
use Rattle.lattice.specs.declared.soup.Tri.{Tri}
use Rattle.part_input.specs.declared.fault.Fault.{Fault}
use Rattle.part_input.specs.declared.fault.Fault.TheVariants.{Nothing, Mesh, Memory}
use Rattle.solid_mesh.specs.Faults.{HasFault}
use Rattle.solid_mesh.specs.declared.faults.MeshFault.{MeshFault}

-- how a part came to be sound: it was already, or by so many flips, which moved no point by more than so many 1024ths of a unit, without
-- so many pairs of triangles
pub data Told : Type 0 where
  sound_already : Told
  by_flips : ℕ → ℕ → ℕ → Told

-- a part, and how it came to be sound
pub record Made : Type 0 where
  pub told : Told
  pub part : Part

-- The part after flips within the limit, in units. It has the corners of the one that was given, in their order, and as many triangles,
-- less two for each pair that went; how far points moved is told of the surface without the pairs.
pub record IsMendedBy (limit flips moved pairs : ℕ) (given mended : Part) : Type 0 where
  pub corners : mended.corners ≡ given.corners
  pub left : List Tri
  pub without_pairs : IsWithoutPairs given.triangles left
  pub in_pairs : length given.triangles ≡ length left + 2 * pairs
  pub some_left : 0 < length left
  pub flipped : IsFlipped given.corners (1024 * limit) left mended.triangles flips moved
  pub count : length mended.triangles ≡ length left
  -- each point of the one surface is near one of the other
  pub near : AreNearSurfaces moved (part_with given.corners left) mended
  pub within : moved ≤ 1024 * limit

-- so it was made of the part that was given: no sound part is changed
abbrev pub Makes : ℕ → Part → Told → Part → Type 0
Makes limit given sound_already made = made ≡ given
Makes limit given (by_flips flips moved pairs) made = (IsSound given → ⊥) × IsMendedBy limit flips moved pairs given made

-- flips left a surface with this fault
pub record IsUnmended (limit : ℕ) (given : Part) (fault : MeshFault) : Type 0 where
  pub flips : ℕ
  pub moved : ℕ
  pub pairs : ℕ
  pub made : Part
  pub by : IsMendedBy limit flips moved pairs given made
  pub has : HasFault made fault

-- all triangles went in pairs, or the surface that was left isn't sound
abbrev pub IsPartRefused : ℕ → Part → Fault → Type 0
IsPartRefused limit given e =
    ((e ≡ Nothing) × IsWithoutPairs given.triangles []) ⊎ ((fault : MeshFault) × (e ≡ Mesh fault) × IsUnmended limit given fault)

-- a sound part is made of the part, or it isn't sound and refused
abbrev pub Mends : ℕ → Part → Result Made Fault → Type 0
Mends limit given (Ok made) = Makes limit given made.told made.part × IsSound made.part
Mends limit given (Err e) = (IsSound given → ⊥) × IsPartRefused limit given e

-- the faults of mending
abbrev pub IsOfMending : Fault → Type 0
IsOfMending Nothing = Unit {0}
IsOfMending (Mesh fault) = Unit {0}
IsOfMending Memory = Unit {0}
IsOfMending fault = ⊥
