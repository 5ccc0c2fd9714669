-- What a whole text says, and what a reader answers.
use Rattle.std.specs.Prelude.{◌≡◌, ◌==◌, ℕ, Bool, List, Option, Some, None, Result, Ok, Err, position}
use Rattle.lex_lines.specs.declared.token.Token.{Token}
use Rattle.lex_lines.specs.Places.{AreTokens, line_at}
use Rattle.weld.specs.Raw.{Raw, seen}
use Rattle.weld.specs.declared.fault.PartError.{PartError}
use Rattle.weld.specs.declared.fault.PartError.TheVariants.{Part, Memory}
use Rattle.weld.specs.declared.fault.PartFault.{PartFault}
use Rattle.weld.specs.declared.fault.PartKind.TheVariants.{Binary}
use Rattle.weld.specs.declared.raw_part.RawPart.{RawPart}
use Rattle.part_text.specs.Steps.{Reading, Step, fault_at, read_value}

-- a text, with comments or without, whose tokens are read by these steps
module _ (comments : Bool) (whole : Step Raw) (bytes : List ℕ) where
  -- a zero byte, before anything else
  abbrev pub ReadsFrom : Option ℕ → Result Raw PartFault → Type 0
  ReadsFrom (Some place) r = r ≡ Err (fault_at (line_at bytes place) Binary)
  ReadsFrom None r = (tokens : List Token) × AreTokens comments bytes tokens × (made : Reading Raw) × whole tokens made × (r ≡ read_value made)

  -- what the text says
  abbrev pub ReadsText : Result Raw PartFault → Type 0
  ReadsText = ReadsFrom (position (λ byte. byte == 0) bytes)

  -- the answer is what the text says, or want of memory
  abbrev pub AnswersText : Result RawPart PartError → Type 0
  AnswersText (Ok raw) = ReadsText (Ok (seen raw))
  AnswersText (Err (Part fault)) = ReadsText (Err fault)
  AnswersText (Err (Memory e)) = Unit {0}
