-- The whole reading, by the step at which it ends.
use Rattle.std.proofs.Common.{◌≡◌, ℕ, false, List, None, refl, Ok, Err}
use Rattle.lex_lines.specs.declared.token.Token.{Token}
use Rattle.lex_lines.specs.Places.{AreTokens}
use Rattle.dec_text.specs.declared.number.Length.{Length}
use Rattle.weld.specs.Raw.{Raw}
use Rattle.weld.specs.declared.fault.PartError.{PartError}
use Rattle.weld.specs.declared.fault.PartError.TheVariants.{Part, Memory}
use Rattle.weld.specs.declared.fault.PartFault.{PartFault}
use Rattle.weld.specs.declared.fault.Word.TheVariants as word
use Rattle.part_text.specs.Made.{IsMade}
use Rattle.part_text.proofs.FirstZero.{zero_place}
use Rattle.part_text.proofs.WholeTexts.{text_read}
use Rattle.stl_reader.specs.Stl.{WordLine, raw_of, Whole, ReadsStl, AnswersStl}
use Rattle.stl_reader.proofs.Turns.{Three, Read}

module _ (decimals : ℕ) (unit : Length) (bytes : List ℕ) where
  -- there is no zero byte
  module _ (start : List Token) (none : zero_place bytes ≡ None) (tokens : AreTokens false bytes start) where
    module _ (mid : List Token) (solid : WordLine bytes word.Solid start (Ok (tt, mid))) where
      facets_fail : (fault : PartFault) → Read decimals unit bytes 0 mid (Err fault) → ReadsStl decimals unit bytes (Err fault)
      facets_fail fault (turns, h) = text_read false (Whole decimals unit bytes) bytes start (Err fault) none tokens (turns, (Ok (tt, mid), solid, (Err fault, h, refl)))

      pub facets_read : (facets : List Three) (left : List Token) (raw : Raw) → raw ≡ raw_of facets → Read decimals unit bytes 0 mid (Ok (facets, left)) → ReadsStl decimals unit bytes (Ok raw)
      facets_read facets left raw e (turns, h) = rw e (text_read false (Whole decimals unit bytes) bytes start (Ok (raw_of facets, left)) none tokens (turns, (Ok (tt, mid), solid, (Ok (facets, left), h, refl))))

      -- an error of the facets is the answer of the whole
      pub error_answer : {A : Type 0} (view : A → List Three) (error : PartError) (left : List Token) → IsMade view (Read decimals unit bytes 0 mid) (Err error) left → AnswersStl decimals unit bytes (Err error)
      error_answer view (Part fault) left h = facets_fail fault h
      error_answer view (Memory e) left h = tt
