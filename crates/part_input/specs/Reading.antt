-- What the text of a part says, whatever its form.
use Rattle.std.specs.Prelude.{ℕ, Bool, true, false, List, [], ◌∷◌, Result, codes}
use Rattle.dec_text.specs.declared.number.Length.{Length}
use Rattle.lex_lines.specs.declared.token.Token.{Token}
use Rattle.lex_lines.specs.Places.{AreTokens}
use Rattle.weld.specs.Raw.{Raw}
use Rattle.weld.specs.declared.fault.PartFault.{PartFault}
use Rattle.part_text.specs.Words.{text_of, is_word}
use Rattle.off_reader.specs.Off.{ReadsOff}
use Rattle.stl_reader.specs.Stl.{ReadsStl}

-- the first token is the word `solid`, in any case of its letters
abbrev pub begins_solid : List ℕ → List Token → Bool
begins_solid bytes [] = false
begins_solid bytes (t ∷ tokens) = is_word (codes "solid") (text_of bytes t)

-- as STL, or as OFF
abbrev pub ReadsAs : Bool → ℕ → Length → List ℕ → Result Raw PartFault → Type 0
ReadsAs true decimals unit bytes r = ReadsStl decimals unit bytes r
ReadsAs false decimals unit bytes r = ReadsOff decimals unit bytes r

-- what the text says, in lengths of that unit, in units of 10^-decimals mm: it is STL where its first token, no byte being in a comment, is `solid`, and else OFF
abbrev pub ReadsPartText : ℕ → Length → List ℕ → Result Raw PartFault → Type 0
ReadsPartText decimals unit bytes r =
    (tokens : List Token) × AreTokens false bytes tokens × ReadsAs (begins_solid bytes tokens) decimals unit bytes r
