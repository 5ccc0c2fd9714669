-- A text as a piece list, and the first line at which it can't be one.
use Rattle.std.specs.Prelude.{◌≡◌, ◌==◌, ◌<◌, ◌≤◌, ℕ, ℤ, if◌then◌else◌, List, [], ◌∷◌, take, All, AllPairs}
use Rattle.sheet_plan.specs.declared.sheet.Stroke.{Stroke}
use Rattle.plot_rack.specs.Lists.{list_of}
use Rattle.piece_verify.specs.ListLines.{IsListedPage, IsListed}

-- ---- the lines of a text
-- these lines with a byte before the first
abbrev pub begun_by : ℕ → List (List ℕ) → List (List ℕ)
begun_by byte [] = (byte ∷ []) ∷ []
begun_by byte (line ∷ lines) = (byte ∷ line) ∷ lines

-- the pieces up to and with each line feed, and the bytes behind the last line feed where there are any
abbrev pub pieces_of : List ℕ → List (List ℕ)
pieces_of [] = []
pieces_of (byte ∷ bytes) = if byte == 10 then (byte ∷ []) ∷ pieces_of bytes else begun_by byte (pieces_of bytes)

-- an empty text has one empty line
abbrev pub lines_of : List ℕ → List (List ℕ)
lines_of [] = [] ∷ []
lines_of (byte ∷ bytes) = pieces_of (byte ∷ bytes)

-- ---- lists
-- the text is that of a page and these strokes, whose views never fall
pub record IsList (text : List ℕ) (strokes : List Stroke) : Type 0 where
  pub page : ℤ × ℤ
  pub listed_page : IsListedPage page
  pub listed : All IsListed strokes
  pub rising : AllPairs (λ s t. s.view ≤ t.view) strokes
  pub written : text ≡ list_of page strokes

-- some list has the first n lines of the text
pub record BeginsList (text : List ℕ) (n : ℕ) : Type 0 where
  pub list : List ℕ
  pub strokes : List Stroke
  pub is_list : IsList list strokes
  pub same : take n (lines_of list) ≡ take n (lines_of text)

-- n is the least number of first lines that no list has
pub record IsFaultLine (text : List ℕ) (n : ℕ) : Type 0 where
  pub none : ¬ BeginsList text n
  pub least : (m : ℕ) → m < n → BeginsList text m
