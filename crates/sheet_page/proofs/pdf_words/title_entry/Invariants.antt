use Rattle.std.proofs.Common.{◌≡◌, ◌++◌, length, drop, codes}
use Rattle.std.specs.Char.Escape.{encode_utf16}
use Rattle.std.specs.List.{flat_map}
use Rattle.std.specs.Str.{chars}
use Rattle.sheet_page.specs.PdfWords.{unit_digits}
use Rattle.sheet_page.proofs.pdf_words.title_entry.Given as goal

-- the characters so far and those that are left are all characters
abbrev pub invariant-loop-c : goal.invariant-loop-c
invariant-loop-c l =
    l.text.items ++ flat_map (λ c. flat_map unit_digits (encode_utf16 c)) (drop (length l.yielded) (chars l.title))
    ≡ codes "<< /Title <FEFF" ++ flat_map (λ c. flat_map unit_digits (encode_utf16 c)) (chars l.title)
