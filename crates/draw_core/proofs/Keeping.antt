-- Files that are kept one after the other.
use Rattle.std.proofs.Common.{◌≡◌, ◌≤◌, ℕ, ◌+◌, List, [], ◌∷◌, ◌++◌, length, take, map, option_map, Some, refl, sym, ap, ◌∙◌, subst}
use Rattle.std.specs.Prelude.{slice_get}
use Rattle.std.proofs.lemmas.List.{take-map, take_all}
use Rattle.std.proofs.lemmas.Option.{slice_get-map}
use Rattle.desk.specs.Files.{Files, Keeps}
use Rattle.draw_core.specs.inner.Kept.{LeavesOne, TargetsInOrder}
use Rattle.draw_core.specs.inner.Made.{file_seen}
use Rattle.draw_core.specs.Outputs.{File, KeepsAll, MayKeep, LeavesUpTo, LeavesAll, place_of}
use Rattle.draw_core.specs.declared.outputs.Output.{Output}
use Rattle.part_input.specs.declared.fault.Fault.{Fault}
use Rattle.part_input.specs.declared.fault.Fault.TheVariants.{WriteFault, Memory}

-- one file more
pub keeps_more : (old between new : Files) (files : List File) (file : File) → KeepsAll old between files → Keeps between new file.0 file.1 → KeepsAll old new (files ++ file ∷ [])
keeps_more old between new [] file same step = (new, subst (λ (f : Files). Keeps f new file.0 file.1) same step, refl)
keeps_more old between new (first ∷ files) file (mid, kept, rest) step = (mid, kept, keeps_more mid between new files file rest step)

module _ (outputs : List Output) (i : ℕ) where
  pub keeps_output : (old between new : Files) (output : Output) → map file_seen (take (i + 1) outputs) ≡ map file_seen (take i outputs) ++ file_seen output ∷ []
      → KeepsAll old between (map file_seen (take i outputs)) → Keeps between new output.name output.bytes.items → KeepsAll old new (map file_seen (take (i + 1) outputs))
  keeps_output old between new output more kept step =
      subst (λ (files : List File). KeepsAll old new files) (sym more) (keeps_more old between new (map file_seen (take i outputs)) (file_seen output) kept step)

  -- all of them
  pub keeps_all : (old new : Files) → length outputs ≤ i → KeepsAll old new (map file_seen (take i outputs)) → KeepsAll old new (map file_seen outputs)
  keeps_all old new last kept = subst (λ (xs : List Output). KeepsAll old new (map file_seen xs)) (take_all i outputs last) kept

  -- the first that isn't kept whole
  pub leaves_at : (fault : Fault) (old between new : Files) (output : Output) → TargetsInOrder outputs → slice_get outputs i ≡ Some output
      → KeepsAll old between (map file_seen (take i outputs)) → LeavesOne (Some fault) between new output → LeavesAll (Some fault) old new (map file_seen outputs)
  leaves_at (WriteFault target) old between new output places here kept (same, part) =
      let files = map file_seen outputs in
      let at : place_of target ≡ Some i = ap place_of same ∙ places i output here in
      let before = subst (λ (fs : List File). KeepsAll old between fs) (sym (take-map file_seen i outputs)) kept in
      let found : slice_get files i ≡ Some (file_seen output) = slice_get-map file_seen outputs i ∙ ap (option_map file_seen) here in
      subst (λ place. LeavesUpTo place old new files) (sym at) (between, before, subst (MayKeep between new) (sym found) part)
  leaves_at Memory old between new output places here kept same =
      (i, subst (λ (f : Files). KeepsAll old f (take i (map file_seen outputs))) (sym same) (subst (λ (fs : List File). KeepsAll old between fs) (sym (take-map file_seen i outputs)) kept))
  leaves_at e old between new output places here kept h = absurd h
