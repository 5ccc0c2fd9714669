-- A text that is said alone: what it adds, and that it touches no file.
use Rattle.std.proofs.Common.{◌≡◌, inl, inr, ℕ, List, Option, None, Some, ◌∙◌}
use Rattle.desk.specs.Files.{Files}
use Rattle.part_input.specs.Causes.{Faults}
use Rattle.put_texts.specs.Order.{aloud, SaysAlone, SaysTexts, SparesFiles}
use Rattle.put_texts.specs.Puts.{one_text}

module _ {F : Type 0} (faults : Faults F) (its : F) (bytes : List ℕ) where
  pub said_alone : (fault : Option F) (old new : List ℕ) → SaysTexts faults fault (one_text aloud its bytes) old new → SaysAlone faults fault bytes old new
  said_alone None old new (between, said, same) = same ∙ said
  said_alone (Some f) old new (inl (is, part)) = part
  said_alone (Some f) old new (inr (between, said, none)) = absurd none

  pub no_file_alone : (fault : Option F) (old new : Files) → SparesFiles faults fault (one_text aloud its bytes) old new → new ≡ old
  no_file_alone None old new (between, still, same) = same ∙ still
  no_file_alone (Some f) old new (inl (is, still)) = still
  no_file_alone (Some f) old new (inr (between, still, none)) = absurd none
