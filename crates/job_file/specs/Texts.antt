-- Titles and names of outputs.
use Rattle.std.specs.Prelude.{ℕ, Bool, true, not, ◌&&◌, ◌||◌, ◌==◌, List, [], ◌∷◌, length, nat_le, codes}
use Rattle.std.specs.List.{list_all, list_any}
use Rattle.std.specs.Str.{bytes_eq, chars}

-- not a control character of ASCII, U+FFFE or U+FFFF, which XML 1.0 doesn't allow or doesn't show
abbrev pub is_title_char : ℕ → Bool
is_title_char c = nat_le 32 c && not (c == 127) && not (c == 0xFFFE) && not (c == 0xFFFF)

-- at most 120 bytes, and such characters alone
abbrev pub is_title : List ℕ → Bool
is_title text = nat_le (length text) 120 && list_all is_title_char (chars text)

-- `a` to `z` and `0` to `9`
abbrev pub is_output_byte : ℕ → Bool
is_output_byte byte = (nat_le 97 byte && nat_le byte 122) || (nat_le 48 byte && nat_le byte 57)

-- 1 to 16 such bytes; `svg` isn't a name of an output, since it is always written
abbrev pub is_output : List ℕ → Bool
is_output text = nat_le 1 (length text) && nat_le (length text) 16 && list_all is_output_byte text && not (bytes_eq text (codes "svg"))

-- the texts are all different
abbrev pub are_different : List (List ℕ) → Bool
are_different [] = true
are_different (text ∷ texts) = not (list_any (bytes_eq text) texts) && are_different texts

-- at most 8 names of outputs, all different
abbrev pub are_outputs : List (List ℕ) → Bool
are_outputs texts = nat_le (length texts) 8 && list_all is_output texts && are_different texts
