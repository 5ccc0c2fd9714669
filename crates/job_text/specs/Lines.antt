-- The lines of a text: headers and entries, each with its place.
use Rattle.std.specs.Prelude.{ℕ, zero, suc, ◌-◌, Bool, ◌&&◌, ◌||◌, ◌==◌, nat_lt, if◌then◌else◌, List, [], ◌∷◌, ◌++◌, length, drop, slice_index, Result, Ok}
use Rattle.toml.specs.Parse.{ends_line}
use Rattle.toml_parser.specs.Lexical.{equals, left_bracket, right_bracket, first, skip_ws, skip_blank}
use Rattle.job_text.specs.declared.fault.Flaw.{Flaw}
use Rattle.job_text.specs.declared.fault.Flaw.TheVariants.{NoKey, NoEquals, NoBracket, More, Unprintable}
use Rattle.job_text.specs.Readings.{TextReading, flawed, ◌>>=◌}
use Rattle.job_text.specs.Values.{Written, one_key, value}

-- `[key]`, `[[key]]`, or `key = value`, whose value has so many bytes before it
pub data Meaning : Type 0 where
  header : List ℕ → Meaning
  list_header : List ℕ → Meaning
  entry : List ℕ → Written → ℕ → Meaning

-- a line that isn't empty, and how many bytes are before its first byte that isn't white space
pub record TextLine : Type 0 where
  pub at : ℕ
  pub meaning : Meaning

-- ---- one line
-- the bracket at the front, and the text after it
abbrev pub bracket : List ℕ → Result (List ℕ) (Flaw × ℕ)
bracket front = if first front == right_bracket then Ok (drop 1 front) else flawed NoBracket front

abbrev pub header_line : List ℕ → TextReading Meaning
header_line front = one_key (skip_ws front) >>= λ k. bracket k.1 >>= λ rest. Ok (header k.0, rest)

abbrev pub list_header_line : List ℕ → TextReading Meaning
list_header_line front = one_key (skip_ws front) >>= λ k. bracket k.1 >>= λ inner. bracket inner >>= λ rest. Ok (list_header k.0, rest)

-- the value behind `=`, in a text of so many bytes
abbrev pub entry_of : ℕ → List ℕ → List ℕ → TextReading Meaning
entry_of size key front = value front >>= λ v. Ok (entry key v.0 (size - length front), v.1)

abbrev pub entry_after : ℕ → List ℕ → List ℕ → TextReading Meaning
entry_after size key front = if first front == equals then entry_of size key (skip_ws (drop 1 front)) else flawed NoEquals front

abbrev pub entry_line : ℕ → List ℕ → TextReading Meaning
entry_line size front =
    one_key front >>= λ k. entry_after size k.0 k.1

abbrev pub meaning_of : ℕ → List ℕ → TextReading Meaning
meaning_of size front =
    if first front == left_bracket && slice_index front 1 == left_bracket then list_header_line (drop 2 front)
    else if first front == left_bracket then header_line (drop 1 front)
    else entry_line size front

-- nothing else is on the line but a comment
abbrev pub ended : Meaning × List ℕ → TextReading Meaning
ended m = if ends_line (skip_ws m.1) then Ok m else flawed More (skip_ws m.1)

-- a byte order mark or a control character, as a carriage return without a line feed, is there
abbrev pub is_unprintable : List ℕ → Bool
is_unprintable front =
    nat_lt (first front) 32 || first front == 127 || (first front == 239 && slice_index front 1 == 187 && slice_index front 2 == 191)

-- the line at the front, in a text of so many bytes
abbrev pub line_of : ℕ → List ℕ → TextReading Meaning
line_of size front = if is_unprintable front then flawed Unprintable front else (meaning_of size front >>= ended)

-- ---- all lines
-- the lines of the rest of a text of so many bytes, after those found; they are fewer than n
unfoldable pub lines_after : ℕ → ℕ → List TextLine → List ℕ → Result (List TextLine) (Flaw × ℕ)
lines_after size zero found front = flawed NoKey front
lines_after size (suc n) found front =
    let start = skip_blank front in
    if length start == 0 then Ok found
    else line_of size start >>= λ m. lines_after size n (found ++ record { at = size - length start; meaning = m.0 } ∷ []) m.1

-- the lines of a text
abbrev pub text_lines : List ℕ → Result (List TextLine) (Flaw × ℕ)
text_lines text = lines_after (length text) (suc (length text)) [] text
