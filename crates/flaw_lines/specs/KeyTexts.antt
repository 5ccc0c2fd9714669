-- The keys of a job of version 3 as they are written, and the values that each may have.
use Rattle.std.specs.Prelude.{ℕ, List, [], Bool, true, false, codes}
use Rattle.sheet_job.specs.declared.keys.SheetKey.{SheetKey}
use Rattle.sheet_job.specs.declared.keys.SheetKey.TheVariants.{Version, Title, Unit, Decimals, Sheet, Layout, Angle, Scale, Crease, Hidden, Number, Kind, Material, Author, Approved, Date, Revision, Company, Tolerances, Note, Name, Toward, Cut, At, From, CutTitle, HiddenHere}
use Rattle.svg_page.specs.Texts.{◌⊕◌}

abbrev pub key_name : SheetKey → List ℕ
key_name Version = codes "version"
key_name Title = codes "title"
key_name Unit = codes "unit"
key_name Decimals = codes "decimals"
key_name Sheet = codes "sheet"
key_name Layout = codes "layout"
key_name Angle = codes "angle"
key_name Scale = codes "scale"
key_name Crease = codes "crease"
key_name Hidden = codes "hidden"
key_name Number = codes "number"
key_name Kind = codes "type"
key_name Material = codes "material"
key_name Author = codes "author"
key_name Approved = codes "approved"
key_name Date = codes "date"
key_name Revision = codes "revision"
key_name Company = codes "company"
key_name Tolerances = codes "tolerances"
key_name Note = codes "note"
key_name Name = codes "name"
key_name Toward = codes "toward"
key_name Cut = codes "cut"
key_name At = codes "at"
key_name From = codes "from"
key_name CutTitle = codes "title"
key_name HiddenHere = codes "hidden"

-- what is allowed for a title and for each text of the title block
abbrev pub title_values : List ℕ
title_values = codes "a text of at most 120 bytes, without bytes below 32, the byte 127, U+FFFE and U+FFFF"

-- what is allowed for a key
abbrev pub allowed_values : SheetKey → List ℕ
allowed_values Version = codes "3"
allowed_values Unit = codes "\"mm\" or \"inch\""
allowed_values Decimals = codes "\"fit\", or 0 to 6"
allowed_values Sheet = codes "\"A0\", \"A1\", \"A2\", \"A3\", \"A4\" or \"fit\""
allowed_values Layout = codes "\"landscape\" or \"portrait\""
allowed_values Angle = codes "\"first\" or \"third\""
allowed_values Scale = codes "one of \"50:1\", \"20:1\", \"10:1\", \"5:1\", \"2:1\", \"1:1\", \"1:2\", \"1:5\", \"1:10\", \"1:20\", \"1:50\", \"1:100\", or \"fit\""
allowed_values Crease = codes "\"fine\", \"normal\" or \"coarse\""
allowed_values Hidden = codes "\"all\", \"plain\" or \"none\""
allowed_values Name = codes "\"front\", \"back\", \"left\", \"right\", \"above\" or \"below\""
allowed_values Toward = codes "a list of three whole numbers from -9 to 9, not all 0, as [1, -1, 1]"
allowed_values Cut = codes "\"x\", \"y\" or \"z\""
allowed_values At = codes "a number in the job's unit, millimetres or inches, as 22.5"
allowed_values From = codes "\"high\" or \"low\""
allowed_values HiddenHere = codes "true or false"
allowed_values _ = title_values

-- what is said more of a text that the key may have without its quotes
abbrev pub unquote_text : Bool → List ℕ
unquote_text true = codes "; leave the quotes out"
unquote_text false = []

-- a value that its key doesn't have
abbrev pub wrong_value_text : SheetKey → Bool → List ℕ
wrong_value_text key quoted = codes "wrong " ⊕ key_name key ⊕ codes ": " ⊕ allowed_values key ⊕ unquote_text quoted
