-- What single tokens say.
use Rattle.std.specs.Prelude.{◌≡◌, ◌⊎◌, ℕ, ◌-◌, ◌<◌, ◌≤◌, Bool, ℤ, List, [], ◌∷◌, length, take, drop, Ok, Err}
use Rattle.std.specs.Str.{str_eq_ignore_ascii_case}
use Rattle.lex_lines.specs.declared.token.Token.{Token}
use Rattle.dec_text.specs.Numbers.{Number, magnitude_of, units_of}
use Rattle.dec_text.specs.declared.number.Length.{Length}
use Rattle.weld.specs.declared.fault.PartKind.TheVariants.{Missing, BadNumber, TooLarge}
use Rattle.weld.specs.declared.fault.Want.{Want}
use Rattle.part_text.specs.Steps.{Step, fault_at}

-- the bytes of a token
abbrev pub text_of : List ℕ → Token → List ℕ
text_of bytes t = take (t.to - t.from) (drop t.from bytes)

-- the next token; where there is none, the lack of what is wanted, on the text's last line
abbrev pub NextToken : ℕ → Want → Step Token
NextToken end want [] r = r ≡ Err (fault_at end (Missing want))
NextToken end want (t ∷ tokens) r = r ≡ Ok (t, tokens)

-- the text is this word, in any case of its letters
abbrev pub is_word : List ℕ → List ℕ → Bool
is_word word text = str_eq_ignore_ascii_case text word

abbrev pub ends_with : List ℕ → List ℕ → Bool
ends_with word text = is_word word (drop (length text - length word) text)

-- a number in units
abbrev pub Units : ℕ → Length → List ℕ → ℕ → Step ℤ
Units decimals unit text line tokens r =
    ((n : Number text) × (magnitude_of decimals unit n ≤ 1048576) × (r ≡ Ok (units_of decimals unit n, tokens)))
    ⊎ ((n : Number text) × (1048576 < magnitude_of decimals unit n) × (r ≡ Err (fault_at line TooLarge)))
    ⊎ ((Number text → ⊥) × (r ≡ Err (fault_at line BadNumber)))
