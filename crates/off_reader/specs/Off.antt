-- What a text of OFF says: corners and triangles, or its one fault.
use Rattle.std.specs.Prelude.{◌≡◌, ℕ, zero, suc, ◌+◌, ◌-◌, true, nat_le, nat_lt, ◌&&◌, if◌then◌else◌, List, [], ◌∷◌, ◌++◌, length, map, fold, Option, Some, None, Result, Ok, Err, codes}
use Rattle.lattice.specs.declared.soup.Tri.{Tri}
use Rattle.lattice.specs.Triple.{Triple}
use Rattle.lex_lines.specs.declared.token.Token.{Token}
use Rattle.dec_text.specs.declared.number.Length.{Length}
use Rattle.weld.specs.declared.fault.PartError.{PartError}
use Rattle.weld.specs.declared.fault.PartFault.{PartFault}
use Rattle.weld.specs.declared.fault.PartKind.TheVariants.{Binary, Prefixed, TooMany, BadIndex, FaceSize, FaceUnseen, Trailing}
use Rattle.weld.specs.declared.fault.Want.TheVariants as want
use Rattle.weld.specs.declared.raw_part.RawPart.{RawPart}
use Rattle.weld.specs.Raw.{Raw}
use Rattle.part_text.specs.Steps.{Reading, Step, fault_at, StepGives, ◌then◌, Times, Computes, Check}
use Rattle.part_text.specs.Texts.{ReadsText, AnswersText}
use Rattle.part_text.specs.Words.{text_of, NextToken, is_word, ends_with}
use Rattle.part_text.specs.Vertices.{end, Vertex, SkipLine}
use Rattle.off_reader.specs.Counts.{Count}
use Rattle.off_reader.specs.Fans.{corners_at, IsFan}

-- ---- the header
module _ (bytes : List ℕ) where
  -- behind `OFF`
  abbrev pub behind_keyword : List Token → Reading (Unit {0})
  behind_keyword [] = Ok (tt, [])
  behind_keyword (t ∷ tokens) = if is_word (codes "BINARY") (text_of bytes t) then Err (fault_at t.line Binary) else Ok (tt, t ∷ tokens)

  -- the word `OFF`, if it is there
  abbrev pub keyword : List Token → Reading (Unit {0})
  keyword [] = Ok (tt, [])
  keyword (t ∷ tokens) =
      if is_word (codes "OFF") (text_of bytes t) then behind_keyword tokens
      else (if ends_with (codes "OFF") (text_of bytes t) then Err (fault_at t.line Prefixed) else Ok (tt, t ∷ tokens))

  -- a count up to a limit
  abbrev pub Limited : ℕ → Step ℕ
  Limited limit = Count bytes (end bytes) want.Count then λ n. Check (nat_le n.0 limit) n.0 n.1 TooMany

  -- the counts of vertices and of faces; that of edges may be any token
  abbrev pub Header : Step (ℕ × ℕ)
  Header = Computes keyword then λ _. Limited 60000 then λ vertices. Limited 20000 then λ faces. NextToken (end bytes) want.Count then λ _. StepGives (vertices, faces)

-- ---- faces
module _ (bytes : List ℕ) where
  -- how many corners, where there are so many triangles before, and the line
  abbrev pub Size : ℕ → Step (ℕ × ℕ)
  Size before =
      Count bytes (end bytes) want.FaceSize then λ n. Check (nat_le 3 n.0 && nat_le n.0 64) n n.1 (FaceSize n.0)
      then λ n. Check (nat_le (before + (n.0 - 2)) 20000) n n.1 TooMany

  -- the number of a vertex, and its line
  abbrev pub Index : ℕ → Step (ℕ × ℕ)
  Index vertices = Count bytes (end bytes) want.Index then λ i. Check (nat_lt i.0 vertices) i i.1 (BadIndex i.0)

abbrev pub last_line : List (ℕ × ℕ) → ℕ
last_line indices = fold (λ line i. i.1) 0 indices

abbrev pub fan_read : ℕ → ℕ → Option (List Tri) → List Token → Reading (List Tri)
fan_read number line (Some triangles) tokens = Ok (triangles, tokens)
fan_read number line None tokens = Err (fault_at line (FaceUnseen number))

-- the triangles of the face with this number, whose corner count is on this line
abbrev pub Triangles : List Triple → ℕ → ℕ → List ℕ → Step (List Tri)
Triangles vertices number line (a ∷ b ∷ c ∷ []) = StepGives (record { a = a; b = b; c = c } ∷ [])
Triangles vertices number line numbers =
    λ tokens r. (fan : Option (List Tri)) × IsFan numbers (corners_at vertices numbers) fan × (r ≡ fan_read number line fan tokens)

module _ (bytes : List ℕ) where
  abbrev pub Face : List Triple → ℕ → ℕ → Step (List Tri)
  Face vertices number before =
      Size bytes before then λ n. Times n.0 (Index bytes (length vertices)) then λ indices. SkipLine (last_line indices)
      then λ _. Triangles vertices number n.1 (map (λ i. i.0) indices)

  -- so many faces more, from the one with this number on
  abbrev pub Faces : List Triple → ℕ → ℕ → ℕ → Step (List Tri)
  Faces vertices zero number before = StepGives []
  Faces vertices (suc more) number before =
      Face vertices number before then λ triangles. Faces vertices more (number + 1) (before + length triangles) then λ others. StepGives (triangles ++ others)

-- ---- the whole
abbrev pub at_end : Raw → List Token → Reading Raw
at_end raw [] = Ok (raw, [])
at_end raw (t ∷ tokens) = Err (fault_at t.line Trailing)

module _ (decimals : ℕ) (unit : Length) (bytes : List ℕ) where
  abbrev pub Whole : Step Raw
  Whole =
      Header bytes then λ counts. Times counts.0 (Vertex decimals unit bytes) then λ vertices. Faces bytes vertices counts.1 0 0
      then λ triangles. Computes (at_end (record { vertices = vertices; triangles = triangles }))

  -- what the text says
  abbrev pub ReadsOff : Result Raw PartFault → Type 0
  ReadsOff = ReadsText true Whole bytes

  -- the answer is what the text says, or want of memory
  abbrev pub AnswersOff : Result RawPart PartError → Type 0
  AnswersOff = AnswersText true Whole bytes
