-- The lines of a text of OFF as words, and what reading makes of them.
use Rattle.std.proofs.Common.{◌≡◌, ℕ, ◌+◌, ◌<◌, ◌≤◌, ◌^◌, true, false, List, [], ◌∷◌, ◌++◌, length, map, refl, sym, ap, subst, ◌∙◌, arith, lit<, append_assoc, le-leb, lt-ltb}
use Rattle.std.specs.Prelude.{All, codes, nat_le, nat_lt}
use Rattle.std.specs.List.{flat_map}
use Rattle.std.specs.Fmt.{decimal}
use Rattle.std.proofs.lemmas.Fmt.{decimal_digit}
use Rattle.std.proofs.lemmas.List.Elements.{All-head, All-rest}
use Rattle.dec_text.specs.declared.number.Length.TheVariants.{Millimetre}
use Rattle.lattice.specs.declared.points.Corner.{Corner}
use Rattle.lattice.specs.declared.soup.Tri.{Tri}
use Rattle.lattice.specs.Points.{of_corner}
use Rattle.lattice.specs.Triangles.{IsBelow}
use Rattle.lattice.specs.Triple.{Triple}
use Rattle.lex_lines.specs.declared.token.Token.{Token}
use Rattle.weld.specs.declared.fault.PartKind.TheVariants.{TooMany, BadIndex, FaceSize}
use Rattle.weld.specs.declared.fault.Want.TheVariants as want
use Rattle.weld.specs.Raw.{Raw}
use Rattle.part_text.specs.Steps.{Times, Computes}
use Rattle.part_text.specs.Words.{text_of, is_word}
use Rattle.part_text.specs.Vertices.{end, Vertex}
use Rattle.off_reader.specs.Off.{keyword, Limited, Header, Size, Index, Face, Faces, at_end, Whole}
use Rattle.off_writer.specs.OffTexts.{coordinate_text, corner_line, triangle_line, head_text, off_of, raw_of}
use Rattle.off_writer.proofs.Words.{Word, spaced, ending, spelled, spelled-append, spelled-flat_map, letters, line_behind, Spells}
use Rattle.off_writer.proofs.Numerals.{numeral, not_binary}
use Rattle.off_writer.proofs.Taken.{Gets, gets_then, gets_given, gets_checked, gets_skipped, gets_next, gets_count, gets_coordinate}

-- ---- their words
abbrev pub head_words : ℕ → ℕ → List Word
head_words corners triangles = ending (codes "OFF") ∷ spaced (decimal corners) ∷ spaced (decimal triangles) ∷ ending (codes "0") ∷ []

abbrev pub corner_words : ℕ → Corner → List Word
corner_words decimals c = spaced (coordinate_text decimals c.x) ∷ spaced (coordinate_text decimals c.y) ∷ ending (coordinate_text decimals c.z) ∷ []

abbrev pub triangle_words : Tri → List Word
triangle_words t = spaced (codes "3") ∷ spaced (decimal t.a) ∷ spaced (decimal t.b) ∷ ending (decimal t.c) ∷ []

abbrev pub off_words : ℕ → List Corner → List Tri → List Word
off_words decimals corners triangles =
    head_words (length corners) (length triangles) ++ (flat_map (corner_words decimals) corners ++ flat_map triangle_words triangles)

three_words : (x y z : List ℕ) → x ++ (32 ∷ (y ++ (32 ∷ (z ++ (10 ∷ []))))) ≡ x ++ (32 ∷ []) ++ y ++ (32 ∷ []) ++ z ++ (10 ∷ [])
three_words x y z = sym (simp append_assoc)

spelled_corner : (decimals : ℕ) (c : Corner) → spelled (corner_words decimals c) ≡ corner_line decimals c
spelled_corner decimals c = three_words (coordinate_text decimals c.x) (coordinate_text decimals c.y) (coordinate_text decimals c.z)

spelled_triangle : (t : Tri) → spelled (triangle_words t) ≡ triangle_line t
spelled_triangle t = ap (λ (text : List ℕ). 51 ∷ 32 ∷ text) (three_words (decimal t.a) (decimal t.b) (decimal t.c))

two_words : (x y : List ℕ) → x ++ (32 ∷ (y ++ (32 ∷ 48 ∷ 10 ∷ []))) ≡ x ++ (32 ∷ []) ++ y ++ (32 ∷ 48 ∷ 10 ∷ [])
two_words x y = sym (simp append_assoc)

spelled_head : (corners triangles : ℕ) → spelled (head_words corners triangles) ≡ head_text corners triangles
spelled_head corners triangles = ap (λ (text : List ℕ). codes "OFF\n" ++ text) (two_words (decimal corners) (decimal triangles))

all_three : {a b c d e f : List ℕ} → a ≡ d → b ≡ e → c ≡ f → a ++ b ++ c ≡ d ++ e ++ f
all_three p q r = cc

pub spelled_off : (decimals : ℕ) (corners : List Corner) (triangles : List Tri) → spelled (off_words decimals corners triangles) ≡ off_of decimals corners triangles
spelled_off decimals corners triangles =
    let head = head_words (length corners) (length triangles) in
    let lines = flat_map (corner_words decimals) corners in
    let faces = flat_map triangle_words triangles in
    spelled-append head (lines ++ faces) ∙ ap (λ (text : List ℕ). spelled head ++ text) (spelled-append lines faces)
    ∙ sym (append_assoc (spelled head) (spelled lines) (spelled faces))
    ∙ all_three (spelled_head (length corners) (length triangles)) (spelled-flat_map (corner_words decimals) (corner_line decimals) (spelled_corner decimals) corners)
    (spelled-flat_map triangle_words triangle_line spelled_triangle triangles)

-- ---- the head
is_off : (text : List ℕ) → text ≡ codes "OFF" → is_word (codes "OFF") text ≡ true
is_off text e = rw e refl

no_binary : (n : ℕ) (text : List ℕ) → n < 2 ^ 64 → text ≡ decimal n → is_word (codes "BINARY") text ≡ false
no_binary n text small e = not_binary n text (rw e (numeral n small))

gets_keyword : (bytes : List ℕ) (n line : ℕ) (word : Word) (words : List Word) (tokens : List Token) → n < 2 ^ 64 → letters word ≡ decimal n
    → Spells bytes line (ending (codes "OFF") ∷ word ∷ words) tokens → Gets bytes (Computes (keyword bytes)) tokens tt (line + 1) (word ∷ words)
gets_keyword bytes n line word words [] small is s = absurd s
gets_keyword bytes n line word words (t ∷ []) small is (text, at, more) = absurd more
gets_keyword bytes n line word words (t ∷ u ∷ tokens) small is (text, at, more) =
    record {
      rest = u ∷ tokens;
      made = rw (is_off (text_of bytes t) text, no_binary n (text_of bytes u) small (more.0 ∙ is)) refl;
      spelled = more;
    }

gets_limited : (bytes : List ℕ) (limit n line : ℕ) (words : List Word) (tokens : List Token) → n ≤ limit → n < 2 ^ 32 → Spells bytes line (spaced (decimal n) ∷ words) tokens
    → Gets bytes (Limited bytes limit) tokens n line words
gets_limited bytes limit n line words tokens most small s =
    gets_then _ (gets_count bytes (end bytes) want.Count n line (spaced (decimal n)) words tokens small refl s)
    (λ rest s. gets_checked bytes (nat_le n limit) n line TooMany line words rest (le-leb n limit most) s)

gets_head : (bytes : List ℕ) (corners triangles : ℕ) (words : List Word) (tokens : List Token) → corners ≤ 60000 → triangles ≤ 20000
    → Spells bytes 1 (head_words corners triangles ++ words) tokens → Gets bytes (Header bytes) tokens (corners, triangles) 3 words
gets_head bytes corners triangles words tokens few_corners few_triangles s =
    let faces = spaced (decimal triangles) in
    let edges = ending (codes "0") in
    gets_then _ (gets_keyword bytes corners 1 (spaced (decimal corners)) (faces ∷ edges ∷ words) tokens (omega (arith, few_corners)) refl s)
    (λ rest s. gets_then _ (gets_limited bytes 60000 corners 2 (faces ∷ edges ∷ words) rest few_corners (omega (arith, few_corners)) s)
    (λ rest s. gets_then _ (gets_limited bytes 20000 triangles 2 (edges ∷ words) rest few_triangles (omega (arith, few_triangles)) s)
    (λ rest s. gets_then _ (gets_next bytes (end bytes) want.Count 2 edges words rest s).1
    (λ rest s. gets_given bytes (corners, triangles) 3 words rest s))))

-- ---- corners
abbrev pub line_past : {X : Type 0} → ℕ → List X → ℕ
line_past line [] = line
line_past line (x ∷ xs) = line_past (line + 1) xs

gets_vertex : (bytes : List ℕ) (decimals : ℕ) (c : Corner) (line : ℕ) (words : List Word) (tokens : List Token) → Spells bytes line (corner_words decimals c ++ words) tokens
    → Gets bytes (Vertex decimals Millimetre bytes) tokens (of_corner c) (line + 1) words
gets_vertex bytes decimals c line words tokens s =
    let x = spaced (coordinate_text decimals c.x) in
    let y = spaced (coordinate_text decimals c.y) in
    let z = ending (coordinate_text decimals c.z) in
    gets_then _ (gets_coordinate bytes decimals c.x line x (y ∷ z ∷ words) tokens c.x_in_range refl s)
    (λ rest s. gets_then _ (gets_coordinate bytes decimals c.y line y (z ∷ words) rest c.y_in_range refl s)
    (λ rest s. gets_then _ (gets_coordinate bytes decimals c.z line z words rest c.z_in_range refl s)
    (λ rest s. gets_given bytes (of_corner c) (line + 1) words rest s)))

gets_vertices : (bytes : List ℕ) (decimals : ℕ) (corners : List Corner) (line : ℕ) (words : List Word) (tokens : List Token)
    → Spells bytes line (flat_map (corner_words decimals) corners ++ words) tokens
    → Gets bytes (Times (length corners) (Vertex decimals Millimetre bytes)) tokens (map of_corner corners) (line_past line corners) words
gets_vertices bytes decimals [] line words tokens s = gets_given bytes [] line words tokens s
gets_vertices bytes decimals (c ∷ corners) line words tokens s =
    gets_then _ (gets_vertex bytes decimals c line (flat_map (corner_words decimals) corners ++ words) tokens s)
    (λ rest s. gets_then _ (gets_vertices bytes decimals corners (line + 1) words rest s)
    (λ rest s. gets_given bytes (of_corner c ∷ map of_corner corners) (line_past (line + 1) corners) words rest s))

-- ---- triangles
gets_size : (bytes : List ℕ) (before line : ℕ) (words : List Word) (tokens : List Token) → before + 1 ≤ 20000 → Spells bytes line (spaced (codes "3") ∷ words) tokens
    → Gets bytes (Size bytes before) tokens (3, line) line words
gets_size bytes before line words tokens few s =
    gets_then _ (gets_count bytes (end bytes) want.FaceSize 3 line (spaced (codes "3")) words tokens (lit< tt) (sym (decimal_digit 3 (lit< tt))) s)
    (λ rest s. gets_then _ (gets_checked bytes true (3, line) line (FaceSize 3) line words rest refl s)
    (λ rest s. gets_checked bytes (nat_le (before + 1) 20000) (3, line) line TooMany line words rest (le-leb (before + 1) 20000 few) s))

gets_index : (bytes : List ℕ) (vertices i line : ℕ) (word : Word) (words : List Word) (tokens : List Token) → i < vertices → i < 2 ^ 32 → letters word ≡ decimal i
    → Spells bytes line (word ∷ words) tokens → Gets bytes (Index bytes vertices) tokens (i, line) (line_behind line word) words
gets_index bytes vertices i line word words tokens less small is s =
    gets_then _ (gets_count bytes (end bytes) want.Index i line word words tokens small is s)
    (λ rest s. gets_checked bytes (nat_lt i vertices) (i, line) line (BadIndex i) (line_behind line word) words rest (lt-ltb i vertices less) s)

gets_indices : (bytes : List ℕ) (vertices line : ℕ) (t : Tri) (words : List Word) (tokens : List Token) → vertices ≤ 60000 → IsBelow vertices t
    → Spells bytes line (spaced (decimal t.a) ∷ spaced (decimal t.b) ∷ ending (decimal t.c) ∷ words) tokens
    → Gets bytes (Times 3 (Index bytes vertices)) tokens ((t.a, line) ∷ (t.b, line) ∷ (t.c, line) ∷ []) (line + 1) words
gets_indices bytes vertices line t words tokens few below s =
    let b = spaced (decimal t.b) in
    let c = ending (decimal t.c) in
    gets_then _ (gets_index bytes vertices t.a line (spaced (decimal t.a)) (b ∷ c ∷ words) tokens below.a (omega (arith, few, below.a)) refl s)
    (λ rest s. gets_then _ (gets_then _ (gets_index bytes vertices t.b line b (c ∷ words) rest below.b (omega (arith, few, below.b)) refl s)
    (λ rest s. gets_then _ (gets_then _ (gets_index bytes vertices t.c line c words rest below.c (omega (arith, few, below.c)) refl s)
    (λ rest s. gets_then _ (gets_given bytes [] (line + 1) words rest s) (λ rest s. gets_given bytes ((t.c, line) ∷ []) (line + 1) words rest s)))
    (λ rest s. gets_given bytes ((t.b, line) ∷ (t.c, line) ∷ []) (line + 1) words rest s)))
    (λ rest s. gets_given bytes ((t.a, line) ∷ (t.b, line) ∷ (t.c, line) ∷ []) (line + 1) words rest s))

gets_face : (bytes : List ℕ) (vertices : List Triple) (number before line : ℕ) (t : Tri) (words : List Word) (tokens : List Token) → length vertices ≤ 60000
    → IsBelow (length vertices) t → before + 1 ≤ 20000 → Spells bytes line (triangle_words t ++ words) tokens
    → Gets bytes (Face bytes vertices number before) tokens (t ∷ []) (line + 1) words
gets_face bytes vertices number before line t words tokens few below room s =
    let corners = spaced (decimal t.a) ∷ spaced (decimal t.b) ∷ ending (decimal t.c) ∷ words in
    gets_then _ (gets_size bytes before line corners tokens room s)
    (λ rest s. gets_then _ (gets_indices bytes (length vertices) line t words rest few below s)
    (λ rest s. gets_then _ (gets_skipped bytes line (line + 1) words rest (omega arith) s)
    (λ rest s. gets_given bytes (t ∷ []) (line + 1) words rest s)))

gets_faces : (bytes : List ℕ) (vertices : List Triple) (triangles : List Tri) (number before line : ℕ) (tokens : List Token) → length vertices ≤ 60000
    → All (IsBelow (length vertices)) triangles → before + length triangles ≤ 20000 → Spells bytes line (flat_map triangle_words triangles) tokens
    → Gets bytes (Faces bytes vertices (length triangles) number before) tokens triangles (line_past line triangles) []
gets_faces bytes vertices [] number before line tokens few below room s = gets_given bytes [] line [] tokens s
gets_faces bytes vertices (t ∷ triangles) number before line tokens few below room s =
    let here = All-head (IsBelow (length vertices)) t triangles below in
    let others = All-rest (IsBelow (length vertices)) t triangles (t ∷ triangles) refl below in
    let one : before + 1 ≤ 20000 = omega (arith, room) in
    let more : before + 1 + length triangles ≤ 20000 = omega (arith, room) in
    gets_then _ (gets_face bytes vertices number before line t (flat_map triangle_words triangles) tokens few here one s)
    (λ rest s. gets_then _ (gets_faces bytes vertices triangles (number + 1) (before + 1) (line + 1) rest few others more s)
    (λ rest s. gets_given bytes (t ∷ triangles) (line_past (line + 1) triangles) [] rest s))

-- ---- the whole
gets_end : (bytes : List ℕ) (raw : Raw) (line : ℕ) (tokens : List Token) → Spells bytes line [] tokens → Gets bytes (Computes (at_end raw)) tokens raw line []
gets_end bytes raw line [] s = record { rest = []; made = refl; spelled = tt }
gets_end bytes raw line (t ∷ tokens) s = absurd s

pub gets_whole : (bytes : List ℕ) (decimals : ℕ) (corners : List Corner) (triangles : List Tri) (tokens : List Token) → length corners ≤ 60000 → length triangles ≤ 20000
    → length (map of_corner corners) ≡ length corners → All (IsBelow (length corners)) triangles → Spells bytes 1 (off_words decimals corners triangles) tokens
    → Gets bytes (Whole decimals Millimetre bytes) tokens (raw_of corners triangles) (line_past (line_past 3 corners) triangles) []
gets_whole bytes decimals corners triangles tokens few_corners few_triangles same below s =
    let few : length (map of_corner corners) ≤ 60000 = rw same few_corners in
    let less : All (IsBelow (length (map of_corner corners))) triangles = subst (λ (n : ℕ). All (IsBelow n) triangles) (sym same) below in
    let room : 0 + length triangles ≤ 20000 = omega (arith, few_triangles) in
    let faces = flat_map triangle_words triangles in
    gets_then _ (gets_head bytes (length corners) (length triangles) (flat_map (corner_words decimals) corners ++ faces) tokens few_corners few_triangles s)
    (λ rest s. gets_then _ (gets_vertices bytes decimals corners 3 faces rest s)
    (λ rest s. gets_then _ (gets_faces bytes (map of_corner corners) triangles 0 0 (line_past 3 corners) rest few less room s)
    (λ rest s. gets_end bytes (raw_of corners triangles) (line_past (line_past 3 corners) triangles) rest s)))
