-- A part that isn't sound: what is left of its triangles, and what its repair answers.
use Rattle.std.proofs.Common.{◌≡◌, inl, inr, ℕ, ◌≤◌, List, [], ◌∷◌, All, length, Option, None, Some, sym, ap, subst, arith}
use Rattle.std.specs.Prelude.{Result, Ok, Err}
use Rattle.std.proofs.lemmas.List.Elements.{All-cons, All-head, All-nil, All-tail}
use Rattle.flip_slivers.specs.Pairs.{IsWithoutPairs, alone}
use Rattle.geometry.specs.Parts.{Part}
use Rattle.geometry.specs.Sound.{IsSound}
use Rattle.lattice.specs.declared.soup.Tri.{Tri}
use Rattle.mend_core.specs.Mending.{Made, Makes, Mends, Told, sound_already, by_flips, IsUnmended}
use Rattle.mend_core.specs.inner.Repairs.{ChecksRepair, IsRepair, Repairs}
use Rattle.answers_unique.proofs.OneFault.{none_sound}
use Rattle.part_input.specs.Steps.{GivesInput}
use Rattle.part_input.specs.declared.fault.Fault.{Fault}
use Rattle.part_input.proofs.Chains.{refuses_as}
use Rattle.solid_mesh.specs.Faults.{HasFault}
use Rattle.solid_mesh.specs.Solids.{IsRefusedFor}
use Rattle.solid_mesh.specs.declared.faults.MeshError.{MeshError}
use Rattle.solid_mesh.specs.declared.faults.MeshError.TheVariants.{Mesh}
use Rattle.solid_mesh.specs.declared.faults.MeshFault.{MeshFault}

-- ---- triangles without a partner
fewer : (triangles : List Tri) (partners : List (Option ℕ)) → length (alone triangles partners) ≤ length triangles
fewer [] partners = omega arith
fewer (t ∷ triangles) [] = omega arith
fewer (t ∷ triangles) (None ∷ partners) = let h = fewer triangles partners in omega arith
fewer (t ∷ triangles) (Some place ∷ partners) = let h = fewer triangles partners in omega arith

all_alone : (P : Tri → Type 0) (triangles : List Tri) (partners : List (Option ℕ)) → All P triangles → All P (alone triangles partners)
all_alone P [] partners all = All-nil P
all_alone P (t ∷ triangles) [] all = All-nil P
all_alone P (t ∷ triangles) (None ∷ partners) all =
    All-cons P t (alone triangles partners) (All-head P t triangles all) (all_alone P triangles partners (All-tail P t triangles all))
all_alone P (t ∷ triangles) (Some place ∷ partners) all = all_alone P triangles partners (All-tail P t triangles all)

module _ (given left : List Tri) (h : IsWithoutPairs given left) where
  pub left_fewer : length left ≤ length given
  left_fewer = omega (arith, ap length h.is_left, fewer given h.partners)

  pub left_all : (P : Tri → Type 0) → All P given → All P left
  left_all P all = subst (All P) (sym h.is_left) (all_alone P given h.partners all)

-- ---- the check
-- what is refused for a fault isn't sound
pub unsound : (part : Part) (e : MeshError) (fault : MeshFault) → e ≡ Mesh fault → IsRefusedFor part e → IsSound part → ⊥
unsound part e fault is refused = none_sound part fault (subst (IsRefusedFor part) is refused)

-- ---- the repair
module _ (limit : ℕ) (given : Part) (unsound : IsSound given → ⊥) where
  makes : (told : Told) (part : Part) → IsRepair limit given told part → Makes limit given told part
  makes sound_already part is = absurd is
  makes (by_flips flips moved pairs) part is = (unsound, is)

  unmended : (told : Told) (part : Part) → IsRepair limit given told part → (fault : MeshFault) → HasFault part fault → IsUnmended limit given fault
  unmended sound_already part is fault has = absurd is
  unmended (by_flips flips moved pairs) part is fault has = record { flips = flips; moved = moved; pairs = pairs; made = part; by = is; has = has }

  -- all triangles went in pairs
  pub none_left : (e : Fault) → Repairs limit given (Err e) → Mends limit given (Err e)
  none_left e h = (unsound, inl h)

  -- what was repaired was checked
  pub mends : (repaired : Made) → Repairs limit given (Ok repaired) → (r : Result Made Fault) → ChecksRepair repaired r → Mends limit given r
  mends repaired is (Ok made) (same, sound) =
      (subst (λ (m : Made). Makes limit given m.told m.part) (sym same) (makes repaired.told repaired.part is), sound)
  mends repaired is (Err e) (fault, same, has) = (unsound, inr (fault, same, unmended repaired.told repaired.part is fault has))

-- ---- steps
-- what some steps give or refuse is an answer of others that have all their answers
module _ {A : Type 0} (steps others : Result A Fault → Type 0) (also : (r : Result A Fault) → steps r → others r) where
  pub gives_as : {X : Type 0} (view : X → A) (r : Result X Fault) → GivesInput view steps r → GivesInput view others r
  gives_as view (Ok x) h = also (Ok (view x)) h
  gives_as view (Err e) h = refuses_as steps others (λ e h. also (Err e) h) e h
