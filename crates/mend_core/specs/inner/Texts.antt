-- What is written of a mended part, made before anything is.
use Rattle.std.specs.Prelude.{◌≡◌, ◌≤◌, ℕ, Ok, length, string_bytes}
use Rattle.dec_text.specs.declared.number.Length.TheVariants.{Millimetre}
use Rattle.mend_core.specs.Mending.{Made}
use Rattle.mend_core.specs.Telling.{told_text}
use Rattle.mend_core.specs.declared.texts.Texts.{Texts}
use Rattle.off_writer.specs.OffTexts.{off_of, raw_of}
use Rattle.part_input.specs.Reading.{ReadsPartText}

-- the text of the part, from which it is read again, and which isn't too long for that, and the line that tells of it
pub record AreTextsOf (decimals : ℕ) (made : Made) (texts : Texts) : Type 0 where
  pub part : texts.part.items ≡ off_of decimals made.part.corners made.part.triangles
  pub reads_back : ReadsPartText decimals Millimetre texts.part.items (Ok (raw_of made.part.corners made.part.triangles))
  pub short : length texts.part.items ≤ 16777216
  pub summary : string_bytes texts.summary ≡ told_text made.told
