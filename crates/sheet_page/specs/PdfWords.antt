-- How PDF writes a text: by one byte a character on the page, and by the units of UTF-16 in the title.
use Rattle.std.specs.Prelude.{ℕ, Bool, false, ◌==◌, ◌&&◌, ◌||◌, if◌then◌else◌, nat_le, List, [], ◌∷◌, ◌++◌, ◌-◌, length, replicate, codes}
use Rattle.std.specs.Char.Escape.{encode_utf16}
use Rattle.std.specs.Fmt.{digits}
use Rattle.std.specs.List.{flat_map}
use Rattle.std.specs.Str.{chars}
use Rattle.svg_page.specs.Texts.{◌⊕◌}

-- digits with zeros before them, at least so many in all
abbrev pub filled : ℕ → List ℕ → List ℕ
filled least digits = replicate (least - length digits) 48 ++ digits

-- a character that WinAnsiEncoding has at the place that it has in Unicode
abbrev pub stays : ℕ → Bool
stays c = (nat_le 32 c && nat_le c 126) || (nat_le 160 c && nat_le c 255)

-- the byte of any other character; of one that WinAnsiEncoding doesn't have, a question mark
abbrev pub moved : ℕ → ℕ
moved c =
    if c == 8364 then 128 else if c == 8218 then 130 else if c == 402 then 131 else if c == 8222 then 132
    else if c == 8230 then 133 else if c == 8224 then 134 else if c == 8225 then 135 else if c == 710 then 136
    else if c == 8240 then 137 else if c == 352 then 138 else if c == 8249 then 139 else if c == 338 then 140
    else if c == 381 then 142 else if c == 8216 then 145 else if c == 8217 then 146 else if c == 8220 then 147
    else if c == 8221 then 148 else if c == 8226 then 149 else if c == 8211 then 150 else if c == 8212 then 151
    else if c == 732 then 152 else if c == 8482 then 153 else if c == 353 then 154 else if c == 8250 then 155
    else if c == 339 then 156 else if c == 382 then 158 else if c == 376 then 159 else 63

-- the byte of a character in WinAnsiEncoding
abbrev pub win_ansi : ℕ → ℕ
win_ansi c = if stays c then c else moved c

-- parentheses and backslashes have a backslash before them
abbrev pub escaped : ℕ → List ℕ
escaped byte = if byte == 40 || byte == 41 || byte == 92 then 92 ∷ byte ∷ [] else byte ∷ []

-- a text on the page
abbrev pub words_of : List ℕ → List ℕ
words_of text = flat_map (λ c. escaped (win_ansi c)) (chars text)

-- a unit of UTF-16 in four hexadecimal digits
abbrev pub unit_digits : ℕ → List ℕ
unit_digits unit = filled 4 (digits 16 false unit)

-- the title, behind the mark of UTF-16
abbrev pub title_entry : List ℕ → List ℕ
title_entry title = codes "<< /Title <FEFF" ⊕ flat_map (λ c. flat_map unit_digits (encode_utf16 c)) (chars title) ⊕ codes "> >>"
