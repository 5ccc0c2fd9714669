-- For each part there is what mending makes of it, or a refusal.
use Rattle.std.proofs.Common.{◌⊎◌, inl, inr, ℕ, ◌*◌, ◌<◌, List, [], ◌∷◌, All, length, Ok, Err, refl, arith}
use Rattle.answers_exist.proofs.SomeFault.{some_fault}
use Rattle.answers_unique.proofs.OneFault.{none_sound}
use Rattle.flip_slivers.specs.Pairs.{IsWithoutPairs}
use Rattle.flip_slivers.proofs.SettlingLemmas.{Settled}
use Rattle.mend_core.proofs.SomeFlips.{some_flips}
use Rattle.mend_core.proofs.SomePairs.{some_without_pairs}
use Rattle.geometry.specs.Parts.{Part, part_with}
use Rattle.geometry.specs.Sound.{IsSound}
use Rattle.lattice.specs.Triangles.{IsBelow}
use Rattle.lattice.specs.declared.soup.Tri.{Tri}
use Rattle.mend_core.specs.Mending.{Mends, IsMendedBy, sound_already, by_flips}
use Rattle.mend_core.proofs.Repairing.{left_all}
use Rattle.part_input.specs.Steps.{HasAnswer}
use Rattle.part_input.specs.declared.fault.Fault.TheVariants.{Nothing, Mesh}
use Rattle.solid_mesh.specs.Faults.{HasFault}
use Rattle.solid_mesh.specs.declared.faults.MeshFault.{MeshFault}

module _ (limit : ℕ) (given : Part) (in_range : All (IsBelow (length given.corners)) given.triangles) where
  -- ---- a part that isn't sound
  module _ (unsound : IsSound given → ⊥) where
    module _ (left : List Tri) (without : IsWithoutPairs given.triangles left) (some_left : 0 < length left) where
      module _ (triangles : List Tri) (flips moved : ℕ) (settled : Settled given.corners (1024 * limit) left triangles flips moved) where
        by_settled : IsMendedBy limit flips moved without.pairs given (part_with given.corners triangles)
        by_settled = record {
          corners = refl;
          left = left;
          without_pairs = without;
          in_pairs = without.in_pairs;
          some_left = some_left;
          flipped = settled.flipped;
          count = settled.count;
          near = settled.near;
          within = settled.within;
        }

        -- what flips left is sound, or has a fault
        checked : IsSound (part_with given.corners triangles) ⊎ ((f : MeshFault) × HasFault (part_with given.corners triangles) f) → HasAnswer (Mends limit given)
        checked (inl sound) = (Ok (record { told = by_flips flips moved without.pairs; part = part_with given.corners triangles }), ((unsound, by_settled), sound))
        checked (inr (fault, has)) = (
          Err (Mesh fault),
          (unsound, inr (fault, refl, record { flips = flips; moved = moved; pairs = without.pairs; made = part_with given.corners triangles; by = by_settled; has = has })),
        )

        still_some : 0 < length triangles
        still_some = let count = settled.count in omega (arith, count, some_left)

        settled_answer : HasAnswer (Mends limit given)
        settled_answer = checked (some_fault (part_with given.corners triangles) settled.in_range still_some)

      flips_answer : HasAnswer (Mends limit given)
      flips_answer =
          let (triangles, flips, moved, settled) = some_flips given.corners (1024 * limit) left (left_all given.triangles left without (IsBelow (length given.corners)) in_range) in
          settled_answer triangles flips moved settled

    -- all triangles went in pairs, or some are left
    pairs_answer : (left : List Tri) → IsWithoutPairs given.triangles left → HasAnswer (Mends limit given)
    pairs_answer [] without = (Err Nothing, (unsound, inl (refl, without)))
    pairs_answer (t ∷ left) without = flips_answer (t ∷ left) without (omega arith)

    repair_answer : HasAnswer (Mends limit given)
    repair_answer = let (left, without) = some_without_pairs given.triangles in pairs_answer left without

  -- ---- any part
  -- a part with a triangle, whose corner numbers are in range, is mended or refused
  pub some_mending : 0 < length given.triangles → HasAnswer (Mends limit given)
  some_mending some = by (some_fault given in_range some)
    where
      by : IsSound given ⊎ ((f : MeshFault) × HasFault given f) → HasAnswer (Mends limit given)
      by (inl sound) = (Ok (record { told = sound_already; part = given }), (refl, sound))
      by (inr (fault, has)) = repair_answer (none_sound given fault has)
