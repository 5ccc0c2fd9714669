use Rattle.std.proofs.Common.{◌≡◌, ◌++◌, length, drop}
use Rattle.std.specs.List.{flat_map}
use Rattle.std.specs.Str.{chars}
use Rattle.sheet_page.specs.PdfWords.{escaped, win_ansi, words_of}
use Rattle.sheet_page.proofs.pdf_words.add_words.Given as goal

-- the characters so far and those that are left are all characters
abbrev pub invariant-loop-c : goal.invariant-loop-c
invariant-loop-c l =
    l.text.items ++ flat_map (λ c. escaped (win_ansi c)) (drop (length l.yielded) (chars l.words)) ≡ l.fn.text.items ++ words_of l.words
