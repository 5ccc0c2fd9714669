-- The title of a sheet.
use Rattle.std.specs.Prelude.{ℕ, ◌-◌, Bool, ◌==◌, if◌then◌else◌, List, [], ◌∷◌, ◌++◌, length, nat_le, Option, Some, None, unwrap_or}
use Rattle.std.specs.Char.{encode_utf8}
use Rattle.std.specs.List.{list_any}
use Rattle.std.specs.Str.{chars}
use Rattle.job_file.specs.Texts.{is_title}
use Rattle.sheet_page.specs.BlockNames.{part_name}
use Rattle.sheet_input.specs.Jobs.{AnyValues, older_job, own_job}

-- 46 is a full stop
abbrev pub has_stop : List ℕ → Bool
has_stop text = list_any (λ c. c == 46) text

-- the characters before the last full stop; none where there is no stop
abbrev pub before_stop : List ℕ → List ℕ
before_stop [] = []
before_stop (c ∷ rest) = if has_stop rest then c ∷ before_stop rest else []

-- a name without its ending
abbrev pub stem : List ℕ → List ℕ
stem name = if length (before_stop name) == 0 then name else before_stop name

-- as many of the first characters as so many bytes have room for
abbrev pub kept : ℕ → List ℕ → List ℕ
kept room [] = []
kept room (c ∷ rest) = if nat_le (length (encode_utf8 c)) room then encode_utf8 c ++ kept (room - length (encode_utf8 c)) rest else []

-- the name of a part's file without its folders and its ending, in at most 120 bytes
abbrev pub name_title : List ℕ → List ℕ
name_title part = kept 120 (stem (chars (part_name part)))

-- as far as it is one that a title may be
abbrev pub part_title : List ℕ → List ℕ
part_title part = if is_title (name_title part) then name_title part else []

-- the words' title; or the job's; or, of a job of version 3 without one, that of the part
abbrev pub title_of : Option (List ℕ) → AnyValues → List ℕ → List ℕ
title_of (Some title) values part = title
title_of None (older_job values) part = values.title
title_of None (own_job values) part = unwrap_or values.title (part_title part)
