-- A part that was written is read again as a sound one.
use Rattle.std.proofs.Common.{◌≡◌, inl, inr, ℕ, ◌<◌, ◌≤◌, List, [], All, length, Option, None, Some, IsSomeAnd, IfNone, Result, Ok, Err, ap, subst, ◌∙◌, arith}
use Rattle.std.specs.Prelude.{IsOkAnd}
use Rattle.dec_text.specs.declared.number.Length.TheVariants.{Millimetre}
use Rattle.desk.specs.Files.{Files}
use Rattle.geometry.specs.Parts.{Part}
use Rattle.geometry.specs.Sound.{IsSound}
use Rattle.lattice.specs.Triangles.{IsBelow}
use Rattle.mend_core.specs.Writing.{ReadsSound, texts_for}
use Rattle.mend_words.specs.Names.{Goal, said, file}
use Rattle.off_writer.specs.OffTexts.{raw_of}
use Rattle.answers_unique.proofs.SoundWeld.{sound_weld, all_gone}
use Rattle.part_input.specs.Parts.{ReadsText, TakesSoupOr, WeldsPart}
use Rattle.part_input.specs.Reading.{ReadsPartText}
use Rattle.part_input.specs.declared.fault.Fault.{Fault}
use Rattle.part_input.proofs.Singles.{none_some, not_both, same_some, same_value, text_one}
use Rattle.part_input.specs.Causes.{common}
use Rattle.put_texts.specs.Order.{KeepsTexts}
use Rattle.weld.specs.Raw.{Raw}
use Rattle.weld.specs.Welds.{proper_of}

module _ (decimals : ℕ) (part : Part) (text : List ℕ) (in_range : All (IsBelow (length part.corners)) part.triangles) (sound : IsSound part) (short : length text ≤ 16777216)
    (reads : ReadsPartText decimals Millimetre text (Ok (raw_of part.corners part.triangles))) where
  abbrev raw : Raw
  raw = raw_of part.corners part.triangles

  module _ (files : Files) (name : List ℕ) (there : files name ≡ Some text) where
    not_long : IsSomeAnd (files name) (λ bytes. 16777216 < length bytes) → ⊥
    not_long long = both (subst (λ (o : Option (List ℕ)). IsSomeAnd o (λ bytes. 16777216 < length bytes)) there long)
      where
        both : 16777216 < length text → ⊥
        both large = absurd (omega (arith, large, short))

    same_raw : (bytes : List ℕ) (other : Raw) → files name ≡ Some bytes → ReadsText decimals Millimetre bytes (Ok other) → other ≡ raw
    same_raw bytes other at h =
        let is : bytes ≡ text = same_some (files name) bytes text at there in
        same_value other raw (text_one decimals Millimetre text (Ok other) (Ok raw) (subst (λ (b : List ℕ). ReadsPartText decimals Millimetre b (Ok other)) is h) reads)

    welded : (other : Part) → WeldsPart raw (Ok other) → IsSound other
    welded other (weld, some) = sound_weld part other in_range sound weld

    -- a sound part has triangles to be welded
    some_welded : proper_of raw ≡ [] → ⊥
    some_welded none = all_gone part in_range sound none

    taken : (r : Result Part Fault) → TakesSoupOr None files name decimals Millimetre r → IsOkAnd r IsSound
    taken (Ok other) (bytes, (at, small), (found, read, welds)) = welded other (subst (λ (x : Raw). WeldsPart x (Ok other)) (same_raw bytes found at read) welds)
    taken (Err e) (inl (inl (_, missing))) = absurd (none_some (files name) text missing there)
    taken (Err e) (inl (inr (_, long))) = absurd (not_long long)
    taken (Err e) (inr (bytes, (at, small), (inl (cause, _, h)))) =
        let is : bytes ≡ text = same_some (files name) bytes text at there in
        absurd (not_both raw cause (text_one decimals Millimetre text (Ok raw) (Err cause) reads (subst (λ (b : List ℕ). ReadsPartText decimals Millimetre b (Err cause)) is h)))
    taken (Err e) (inr (bytes, (at, small), (inr (found, read, (_, none))))) = absurd (some_welded (subst (λ (x : Raw). proper_of x ≡ []) (same_raw bytes found at read) none))

  named : (name : List ℕ) (summary : List ℕ) (old new : Files) → KeepsTexts common None (texts_for (file name) text summary) old new → ReadsSound decimals (file name) new
  named name summary old new (between, keeps, (next, e, f)) no_sample r takes =
      let there : new name ≡ Some text = ap (λ (files : Files). files name) (f ∙ e) ∙ keeps.holds in
      taken new name there r (subst (λ (size : Option (List ℕ)). TakesSoupOr size new name decimals Millimetre r) no_sample takes)

  pub accepted : (out : Goal) (summary : List ℕ) (fault : Option Fault) (old new : Files) → KeepsTexts common fault (texts_for out text summary) old new → IfNone fault (ReadsSound decimals out new)
  accepted said summary None old new keeps = tt
  accepted (file name) summary None old new keeps = named name summary old new keeps
  accepted out summary (Some e) old new keeps = tt
