-- A text of OFF has one reading.
use Rattle.std.proofs.Common.{◌≡◌, inl, inr, ℕ, zero, suc, ◌+◌, ◌-◌, ◌<◌, ◌&&◌, true, List, [], ◌∷◌, ◌++◌, length, map, Option, Some, None, refl, sym, ap, ◌∙◌, Result}
use Rattle.std.specs.Prelude.{nat_le, nat_lt}
use Rattle.std.proofs.lemmas.Bool.{cases_order}
use Rattle.lattice.specs.declared.soup.Tri.{Tri}
use Rattle.lattice.specs.Triple.{Triple}
use Rattle.lex_lines.specs.declared.token.Token.{Token}
use Rattle.dec_text.specs.declared.number.Length.{Length}
use Rattle.weld.specs.declared.fault.PartFault.{PartFault}
use Rattle.weld.specs.declared.fault.PartKind.TheVariants.{BadNumber, TooMany, BadIndex, FaceSize}
use Rattle.weld.specs.declared.fault.Want.{Want}
use Rattle.weld.specs.declared.fault.Want.TheVariants as want
use Rattle.part_text.specs.Steps.{Reading, Step, checked}
use Rattle.part_text.specs.Words.{text_of}
use Rattle.part_text.specs.Vertices.{end, Vertex}
use Rattle.part_text.proofs.Single.{IsSingle, one_computed, one_given, one_failed, one_then, one_times, one_next, one_vertex, one_skip}
use Rattle.part_text.proofs.WholeTexts.{one_text}
use Rattle.off_reader.specs.Counts.{count_of, CountOf, Count}
use Rattle.off_reader.specs.Fans.{turned, fan_of, SeesWhole, corners_at, IsFan}
use Rattle.weld.specs.Raw.{Raw}
use Rattle.off_reader.specs.Off.{keyword, Limited, Header, Size, Index, last_line, fan_read, Triangles, Face, Faces, at_end, Whole, ReadsOff}

-- ---- counts
one_count_of : (count : Option ℕ) (line : ℕ) → IsSingle (CountOf count line)
one_count_of (Some n) line = one_given (n, line)
one_count_of None line = one_failed line BadNumber

one_count : (bytes : List ℕ) (line : ℕ) (what : Want) → IsSingle (Count bytes line what)
one_count bytes line what = one_then (one_next line what) (λ t. one_count_of (count_of (text_of bytes t)) t.line)

-- ---- the header
one_limited : (bytes : List ℕ) (limit : ℕ) → IsSingle (Limited bytes limit)
one_limited bytes limit = one_then (one_count bytes (end bytes) want.Count) (λ n. one_computed (checked (nat_le n.0 limit) n.0 n.1 TooMany))

one_header : (bytes : List ℕ) → IsSingle (Header bytes)
one_header bytes =
    one_then (one_computed (keyword bytes)) (λ _. one_then (one_limited bytes 60000) (λ vertices. one_then (one_limited bytes 20000) (λ faces. one_then (one_next (end bytes) want.Count) (λ _. one_given (vertices, faces)))))

-- ---- faces
one_size : (bytes : List ℕ) (before : ℕ) → IsSingle (Size bytes before)
one_size bytes before =
    one_then (one_count bytes (end bytes) want.FaceSize) (λ n. one_then (one_computed (checked (nat_le 3 n.0 && nat_le n.0 64) n n.1 (FaceSize n.0))) (λ n. one_computed (checked (nat_le (before + (n.0 - 2)) 20000) n n.1 TooMany)))

one_index : (bytes : List ℕ) (vertices : ℕ) → IsSingle (Index bytes vertices)
one_index bytes vertices = one_then (one_count bytes (end bytes) want.Index) (λ i. one_computed (checked (nat_lt i.0 vertices) i i.1 (BadIndex i.0)))

-- no two places are the least
least_place : (P : ℕ → Type 0) (i j : ℕ) → P i → ((k : ℕ) → k < i → ¬ P k) → P j → ((k : ℕ) → k < j → ¬ P k) → i ≡ j
least_place P i j p before q earlier = elim (cases_order i j) [
  | inl e ↦ e
  | inr o ↦ elim o [ inl lt ↦ absurd (earlier i lt p) | inr lt ↦ absurd (before j lt q) ]
]

one_fan : (numbers : List ℕ) (corners : List Triple) (fan other : Option (List Tri)) → IsFan numbers corners fan → IsFan numbers corners other → fan ≡ other
one_fan numbers corners (Some fan) (Some other) (i, a, p, before, e) (j, b, q, earlier, h) =
    let same : i ≡ j = least_place (SeesWhole corners) i j p before q earlier in
    ap (λ (l : List Tri). Some l) (e ∙ ap (λ (k : ℕ). fan_of (λ a b c. record { a = a; b = b; c = c }) (turned k numbers)) same ∙ sym h)
one_fan numbers corners (Some fan) None (i, a, p, before, e) none = absurd (none i a p)
one_fan numbers corners None (Some other) none (j, b, q, earlier, h) = absurd (none j b q)
one_fan numbers corners None None none never = refl

abbrev FanStep : List ℕ → List Triple → ℕ → ℕ → Step (List Tri)
FanStep numbers corners number line tokens r = (fan : Option (List Tri)) × IsFan numbers corners fan × (r ≡ fan_read number line fan tokens)

fan_at : (numbers : List ℕ) (corners : List Triple) (number line : ℕ) (tokens : List Token) (r s : Reading (List Tri)) → FanStep numbers corners number line tokens r → FanStep numbers corners number line tokens s → r ≡ s
fan_at numbers corners number line tokens r s (fan, a, e) (other, b, h) = e ∙ ap (λ f. fan_read number line f tokens) (one_fan numbers corners fan other a b) ∙ sym h

one_fan_step : (numbers : List ℕ) (corners : List Triple) (number line : ℕ) → IsSingle (FanStep numbers corners number line)
one_fan_step numbers corners number line = record { one = fan_at numbers corners number line }

one_triangles : (vertices : List Triple) (number line : ℕ) (numbers : List ℕ) → IsSingle (Triangles vertices number line numbers)
one_triangles vertices number line [] = one_fan_step [] (corners_at vertices []) number line
one_triangles vertices number line (a ∷ []) = one_fan_step (a ∷ []) (corners_at vertices (a ∷ [])) number line
one_triangles vertices number line (a ∷ b ∷ []) = one_fan_step (a ∷ b ∷ []) (corners_at vertices (a ∷ b ∷ [])) number line
one_triangles vertices number line (a ∷ b ∷ c ∷ []) = one_given (record { a = a; b = b; c = c } ∷ [])
one_triangles vertices number line (a ∷ b ∷ c ∷ d ∷ others) = one_fan_step (a ∷ b ∷ c ∷ d ∷ others) (corners_at vertices (a ∷ b ∷ c ∷ d ∷ others)) number line

one_face : (bytes : List ℕ) (vertices : List Triple) (number before : ℕ) → IsSingle (Face bytes vertices number before)
one_face bytes vertices number before =
    one_then (one_size bytes before) (λ n. one_then (one_times n.0 (Index bytes (length vertices)) (one_index bytes (length vertices)))
    (λ indices. one_then (one_skip (last_line indices)) (λ _. one_triangles vertices number n.1 (map (λ i. i.0) indices))))

one_faces : (bytes : List ℕ) (vertices : List Triple) (more number before : ℕ) → IsSingle (Faces bytes vertices more number before)
one_faces bytes vertices zero number before = one_given []
one_faces bytes vertices (suc more) number before =
    one_then (one_face bytes vertices number before) (λ triangles. one_then (one_faces bytes vertices more (number + 1) (before + length triangles)) (λ others. one_given (triangles ++ others)))

-- ---- the whole
one_whole : (decimals : ℕ) (unit : Length) (bytes : List ℕ) → IsSingle (Whole decimals unit bytes)
one_whole decimals unit bytes =
    one_then (one_header bytes) (λ counts. one_then (one_times counts.0 (Vertex decimals unit bytes) (one_vertex decimals unit bytes))
    (λ vertices. one_then (one_faces bytes vertices counts.1 0 0) (λ triangles. one_computed (at_end (record { vertices = vertices; triangles = triangles })))))

-- what a text says is one thing
pub only_reading : (decimals : ℕ) (unit : Length) (bytes : List ℕ) (r s : Result Raw PartFault) → ReadsOff decimals unit bytes r → ReadsOff decimals unit bytes s → r ≡ s
only_reading decimals unit bytes r s = one_text true (Whole decimals unit bytes) bytes (one_whole decimals unit bytes) r s
