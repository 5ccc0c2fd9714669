-- A text of OFF says something: a part, or a fault.
use Rattle.std.proofs.Common.{◌≡◌, ◌⊎◌, inl, inr, ℕ, zero, suc, ◌+◌, ◌-◌, ◌<◌, ◌&&◌, true, List, [], ◌∷◌, ◌++◌, length, map, Option, Some, None, Result, refl}
use Rattle.std.specs.Prelude.{nat_le, nat_lt}
use Rattle.lattice.specs.declared.soup.Tri.{Tri}
use Rattle.lattice.specs.Triple.{Triple}
use Rattle.lex_lines.specs.declared.token.Token.{Token}
use Rattle.dec_text.specs.declared.number.Length.{Length}
use Rattle.weld.specs.Raw.{Raw}
use Rattle.weld.specs.declared.fault.PartFault.{PartFault}
use Rattle.weld.specs.declared.fault.PartKind.TheVariants.{BadNumber, TooMany, BadIndex, FaceSize}
use Rattle.weld.specs.declared.fault.Want.{Want}
use Rattle.weld.specs.declared.fault.Want.TheVariants as want
use Rattle.part_text.specs.Steps.{Step}
use Rattle.part_text.specs.Words.{text_of}
use Rattle.part_text.specs.Vertices.{end, Vertex}
use Rattle.off_reader.specs.Counts.{count_of, CountOf, Count}
use Rattle.off_reader.specs.Fans.{turned, fan_of, fan_from, HasTwoEqual, IsTurnedAs, vector_area, SeesWhole, corners_at, IsFan}
use Rattle.off_reader.specs.Off.{keyword, Limited, Header, Size, Index, last_line, fan_read, Triangles, Face, Faces, at_end, Whole, ReadsOff}
use Rattle.answers_exist.proofs.Decided.{Decided, decided_as, decided_both, decided_either, decided_positive, decided_all, decided_any, IsFirstBelow, first_below}
use Rattle.answers_exist.proofs.SomeReading.{ReadsSuch, HasAnswer, Any, any_reading, some_computed, some_given, some_failed, some_checked, some_then, some_times, some_next, some_skip, some_vertex, HasCornerPlaces, SaysSuch, some_text}
use Rattle.answers_exist.proofs.SomeWeld.{IsCornerPlace, decided_place}

-- ---- counts
some_count_of : (count : Option ℕ) (line : ℕ) → HasAnswer Any (CountOf count line)
some_count_of (Some n) line = some_given Any (n, line) tt
some_count_of None line = some_failed Any line BadNumber

some_count : (bytes : List ℕ) (line : ℕ) (what : Want) → HasAnswer Any (Count bytes line what)
some_count bytes line what = some_then (some_next line what) (λ t _. some_count_of (count_of (text_of bytes t)) t.line)

-- ---- the header
some_limited : (bytes : List ℕ) (limit : ℕ) → HasAnswer Any (Limited bytes limit)
some_limited bytes limit = some_then (some_count bytes (end bytes) want.Count) (λ n _. some_checked Any (nat_le n.0 limit) n.0 n.1 TooMany tt)

some_header : (bytes : List ℕ) → HasAnswer Any (Header bytes)
some_header bytes =
    some_then (some_computed Any (keyword bytes) (λ tokens. any_reading (keyword bytes tokens)))
    (λ _ _. some_then (some_limited bytes 60000) (λ vertices _. some_then (some_limited bytes 20000) (λ faces _. some_then (some_next (end bytes) want.Count) (λ _ _. some_given Any (vertices, faces) tt))))

-- ---- fans
abbrev Three : Type 0
Three = Triple × Triple × Triple

decided_two_equal : (a b c : Triple) → Decided (HasTwoEqual a b c)
decided_two_equal a b c = decided_either (decided_place a b) (decided_either (decided_place b c) (decided_place c a))

decided_turned : (area : Triple) (t : Three) → Decided (IsTurnedAs area t.0 t.1 t.2)
decided_turned area t = decided_positive _

decided_sees : (corners : List Triple) (j : ℕ) → Decided (SeesWhole corners j)
decided_sees corners j =
    decided_as ((λ both. record { all = both.0; some = both.1 }), (λ sees. (sees.all, sees.some)))
    (decided_both
    (decided_all (λ t. HasTwoEqual t.0 t.1 t.2 ⊎ IsTurnedAs (vector_area corners) t.0 t.1 t.2) (λ t. decided_either (decided_two_equal t.0 t.1 t.2) (decided_turned (vector_area corners) t)) (fan_from corners j))
    (decided_any (λ t. IsTurnedAs (vector_area corners) t.0 t.1 t.2) (decided_turned (vector_area corners)) (fan_from corners j)))

some_fan : (numbers : List ℕ) (corners : List Triple) → (fan : Option (List Tri)) × IsFan numbers corners fan
some_fan numbers corners = by (first_below (SeesWhole corners) (decided_sees corners) (length corners))
  where
    by : ((j : ℕ) × IsFirstBelow (SeesWhole corners) (length corners) j) ⊎ ((j : ℕ) → j < length corners → ¬ SeesWhole corners j) → (fan : Option (List Tri)) × IsFan numbers corners fan
    by (inl (j, first)) = (Some (fan_of (λ a b c. record { a = a; b = b; c = c }) (turned j numbers)), (j, first.within, first.holds, first.none_before, refl))
    by (inr none) = (None, none)

-- ---- faces
some_size : (bytes : List ℕ) (before : ℕ) → HasAnswer Any (Size bytes before)
some_size bytes before =
    some_then (some_count bytes (end bytes) want.FaceSize)
    (λ n _. some_then (some_checked Any (nat_le 3 n.0 && nat_le n.0 64) n n.1 (FaceSize n.0) tt) (λ n _. some_checked Any (nat_le (before + (n.0 - 2)) 20000) n n.1 TooMany tt))

some_index : (bytes : List ℕ) (vertices : ℕ) → HasAnswer Any (Index bytes vertices)
some_index bytes vertices = some_then (some_count bytes (end bytes) want.Index) (λ i _. some_checked Any (nat_lt i.0 vertices) i i.1 (BadIndex i.0) tt)

abbrev FanStep : List ℕ → List Triple → ℕ → ℕ → Step (List Tri)
FanStep numbers corners number line tokens r = (fan : Option (List Tri)) × IsFan numbers corners fan × (r ≡ fan_read number line fan tokens)

some_fan_step : (numbers : List ℕ) (corners : List Triple) (number line : ℕ) → HasAnswer Any (FanStep numbers corners number line)
some_fan_step numbers corners number line = record { made = λ tokens. let (fan, is) = some_fan numbers corners in (fan_read number line fan tokens, (fan, is, refl), any_reading (fan_read number line fan tokens)) }

some_triangles : (vertices : List Triple) (number line : ℕ) (numbers : List ℕ) → HasAnswer Any (Triangles vertices number line numbers)
some_triangles vertices number line [] = some_fan_step [] (corners_at vertices []) number line
some_triangles vertices number line (a ∷ []) = some_fan_step (a ∷ []) (corners_at vertices (a ∷ [])) number line
some_triangles vertices number line (a ∷ b ∷ []) = some_fan_step (a ∷ b ∷ []) (corners_at vertices (a ∷ b ∷ [])) number line
some_triangles vertices number line (a ∷ b ∷ c ∷ []) = some_given Any (record { a = a; b = b; c = c } ∷ []) tt
some_triangles vertices number line (a ∷ b ∷ c ∷ d ∷ others) = some_fan_step (a ∷ b ∷ c ∷ d ∷ others) (corners_at vertices (a ∷ b ∷ c ∷ d ∷ others)) number line

some_face : (bytes : List ℕ) (vertices : List Triple) (number before : ℕ) → HasAnswer Any (Face bytes vertices number before)
some_face bytes vertices number before =
    some_then (some_size bytes before) (λ n _. some_then (some_times Any n.0 (Index bytes (length vertices)) (some_index bytes (length vertices)))
    (λ indices _. some_then (some_skip (last_line indices)) (λ _ _. some_triangles vertices number n.1 (map (λ i. i.0) indices))))

some_faces : (bytes : List ℕ) (vertices : List Triple) (more number before : ℕ) → HasAnswer Any (Faces bytes vertices more number before)
some_faces bytes vertices zero number before = some_given Any [] tt
some_faces bytes vertices (suc more) number before =
    some_then (some_face bytes vertices number before) (λ triangles _. some_then (some_faces bytes vertices more (number + 1) (before + length triangles)) (λ others _. some_given Any (triangles ++ others) tt))

-- ---- the whole
ended : (raw : Raw) → HasCornerPlaces raw → (tokens : List Token) → ReadsSuch HasCornerPlaces (at_end raw tokens)
ended raw each [] = each
ended raw each (t ∷ tokens) = tt

module _ (decimals : ℕ) (unit : Length) (bytes : List ℕ) where
  some_whole : HasAnswer HasCornerPlaces (Whole decimals unit bytes)
  some_whole =
      some_then (some_header bytes) (λ counts _. some_then (some_times IsCornerPlace counts.0 (Vertex decimals unit bytes) (some_vertex decimals unit bytes))
      (λ vertices each. some_then (some_faces bytes vertices counts.1 0 0)
      (λ triangles _. some_computed HasCornerPlaces (at_end (record { vertices = vertices; triangles = triangles })) (ended (record { vertices = vertices; triangles = triangles }) each))))

  -- the bytes say something as a text of OFF, and where they give vertices, corners can be there
  pub some_off : (r : Result Raw PartFault) × ReadsOff decimals unit bytes r × SaysSuch HasCornerPlaces r
  some_off = some_text true (Whole decimals unit bytes) bytes HasCornerPlaces some_whole
