-- The lines of a job's text are those of its keys.
use Rattle.std.proofs.Common.{◌≡◌, ℕ, pos, Bool, true, false, not, ◌&&◌, nat_le, nat_lt, List, [], ◌∷◌, length, map, codes, Option, Some, None, refl, subst, arith}
use Rattle.std.proofs.lemmas.Bool.{and_parts}
use Rattle.std.proofs.lemmas.Bool.Decides.{nat_tests}
use Rattle.std.specs.Fmt.{digits}
use Rattle.std.specs.List.{flat_map, list_all}
use Rattle.std.specs.Option.{ForSome}
use Rattle.std.specs.Str.{bytes_eq}
use Rattle.dec_text.specs.declared.number.Length.{Length}
use Rattle.dec_text.specs.declared.number.Length.TheVariants.{Millimetre, Inch}
use Rattle.lattice.specs.declared.pieces.Crease.{Crease}
use Rattle.lattice.specs.declared.pieces.Crease.TheVariants.{Fine, Normal, Coarse}
use Rattle.lattice.specs.declared.points.Axis.{Axis}
use Rattle.lattice.specs.declared.points.Axis.TheVariants.{X, Y, Z}
use Rattle.toml_parser.specs.Lexical.{is_bare}
use Rattle.toml_writer.specs.Text.{key_text}
use Rattle.toml.specs.Data.{integer}
use Rattle.toml.specs.Tables.{array_table}
use Rattle.toml.specs.Text.{IsLineText}
use Rattle.toml.proofs.ReadLines.{line_turn}
use Rattle.job_file.specs.Documents.{JobValues}
use Rattle.job_file.specs.Papers.{paper_name}
use Rattle.job_file.specs.Scales.{scales, is_scale}
use Rattle.job_file.specs.Texts.{is_output_byte, is_output, are_different, are_outputs}
use Rattle.job_file.specs.ViewValues.{Shown, ViewValues, whole, behind}
use Rattle.job_file.specs.declared.job.Paper.{Paper}
use Rattle.job_file.specs.declared.job.Paper.TheVariants.{A0, A1, A2, A3, A4}
use Rattle.job_file.specs.declared.view.Principal.{Principal}
use Rattle.job_file.specs.declared.view.Principal.TheVariants.{Front, Back, Left, Right, Above, Below}
use Rattle.job_writer.specs.Called.{angle_name, scale_name, crease_name, length_name, layout_name, principal_name, axis_name, side_name}
use Rattle.job_writer.specs.Pairs.{Pair, key_line}
use Rattle.job_writer.specs.PlainJobs.{job_pairs, view_pairs, view_block, plain_job}
use Rattle.job_writer.proofs.Lines.{IsLine, AreLines, lines-append}
use Rattle.job_writer.proofs.Nodes.{Row, row_entry, row_pair, word_row, job_rows, view_rows, job_entries, view_entries, view_expressions, job_expressions}
use Rattle.job_writer.proofs.Proper.{IsShown, AreShown, IsProper}
use Rattle.job_writer.proofs.Taken.{AllScales, of_scale}
use Rattle.job_writer.proofs.Title.{title_read}
use Rattle.job_writer.proofs.Values.{IsReadAs, key_read}
use Rattle.job_writer.proofs.Words.{is_word_byte, IsWord, AreWords, word_read, words_read, number_read, count_read, direction_read}

-- ---- the words
angle_word : (third : Bool) → IsWord (angle_name third)
angle_word true = refl
angle_word false = refl

paper_word : (paper : Paper) → IsWord (paper_name paper)
paper_word A0 = refl
paper_word A1 = refl
paper_word A2 = refl
paper_word A3 = refl
paper_word A4 = refl

each_scale : AllScales (λ scale. IsWord (scale_name (Some scale))) scales
unfolding digits
each_scale = (refl, (refl, (refl, (refl, (refl, (refl, (refl, (refl, (refl, (refl, (refl, (refl, tt))))))))))))

scale_word : (scale : Option (ℕ × ℕ)) → ForSome scale (λ s. is_scale s.0 s.1 ≡ true) → IsWord (scale_name scale)
scale_word None listed = refl
scale_word (Some scale) listed = of_scale (λ scale. IsWord (scale_name (Some scale))) scales scale.0 scale.1 each_scale (listed scale refl)

crease_word : (crease : Crease) → IsWord (crease_name crease)
crease_word Fine = refl
crease_word Normal = refl
crease_word Coarse = refl

unit_word : (unit : Length) → IsWord (length_name unit)
unit_word Millimetre = refl
unit_word Inch = refl

layout_word : (portrait : Bool) → IsWord (layout_name portrait)
layout_word true = refl
layout_word false = refl

principal_word : (name : Principal) → IsWord (principal_name name)
principal_word Front = refl
principal_word Back = refl
principal_word Left = refl
principal_word Right = refl
principal_word Above = refl
principal_word Below = refl

axis_word : (axis : Axis) → IsWord (axis_name axis)
axis_word X = refl
axis_word Y = refl
axis_word Z = refl

side_word : (from_high : Bool) → IsWord (side_name from_high)
side_word true = refl
side_word false = refl

output_byte : (c : ℕ) → is_output_byte c ≡ true → is_word_byte c ≡ true
output_byte c is = grind (arith, nat_tests)

output_bytes : (text : List ℕ) → is_output text ≡ true → list_all is_output_byte text ≡ true
output_bytes text is =
    let (front, _) = and_parts (nat_le 1 (length text) && nat_le (length text) 16 && list_all is_output_byte text) (not (bytes_eq text (codes "svg"))) is in
    (and_parts (nat_le 1 (length text) && nat_le (length text) 16) (list_all is_output_byte text) front).1

output_word : (text : List ℕ) → list_all is_output_byte text ≡ true → IsWord text
output_word [] all = refl
output_word (c ∷ cs) all =
    let (here, more) = and_parts (is_output_byte c) (list_all is_output_byte cs) all in
    rw (output_byte c here) (output_word cs more)

output_words : (texts : List (List ℕ)) → list_all is_output texts ≡ true → AreWords texts
output_words [] all = tt
output_words (text ∷ texts) all =
    let (here, more) = and_parts (is_output text) (list_all is_output texts) all in
    (output_word text (output_bytes text here), output_words texts more)

outputs_words : (texts : List (List ℕ)) → are_outputs texts ≡ true → AreWords texts
outputs_words texts fine =
    let (front, _) = and_parts (nat_le (length texts) 8 && list_all is_output texts) (are_different texts) fine in
    output_words texts (and_parts (nat_le (length texts) 8) (list_all is_output texts) front).1

-- ---- the lines
bare : (k : List ℕ) → (nat_lt 0 (length k) && list_all is_bare k) ≡ true → key_text k ≡ k
unfolding key_text
bare k is = rw is

-- the text of the row's value is read as its value
abbrev IsRow : Row → Type 0
IsRow row = ((nat_lt 0 (length row.0) && list_all is_bare row.0) ≡ true) × IsReadAs row.1 row.2

abbrev AreRows : List Row → Type 0
AreRows [] = Unit {0}
AreRows (row ∷ rows) = IsRow row × AreRows rows

rows_lines : (rows : List Row) → AreRows rows → AreLines (map row_entry rows) (flat_map key_line (map row_pair rows))
rows_lines [] are = refl
rows_lines (row ∷ rows) (is, are) = (key_line (row_pair row), flat_map key_line (map row_pair rows), refl, key_read row.0 row.1 row.2 (bare row.0 is.0) is.1, rows_lines rows are)

word_is : (key word : List ℕ) → (nat_lt 0 (length key) && list_all is_bare key) ≡ true → IsWord word → IsRow (word_row key word)
word_is key word fine is = (fine, word_read word is)

two_read : IsReadAs (codes "2") (integer (pos 2))
unfolding digits
two_read = count_read 2 (omega arith)

job_are : (job : JobValues) → IsProper job → AreRows (job_rows job)
job_are job is = (
  (refl, two_read),
  (
    (refl, count_read job.decimals (omega (arith, is.few_decimals))),
    (
      word_is (codes "angle") (angle_name job.third) refl (angle_word job.third),
      (
        word_is (codes "sheet") (paper_name job.paper) refl (paper_word job.paper),
        (
          word_is (codes "scale") (scale_name job.scale) refl (scale_word job.scale is.scaled),
          (
            word_is (codes "crease") (crease_name job.crease) refl (crease_word job.crease),
            (
              (refl, title_read job.title is.utf8 is.title),
              (
                (refl, words_read job.outputs (outputs_words job.outputs is.outputs)),
                (word_is (codes "unit") (length_name job.unit) refl (unit_word job.unit), (word_is (codes "layout") (layout_name job.portrait) refl (layout_word job.portrait), tt)),
              ),
            ),
          ),
        ),
      ),
    ),
  ),
)

job_lines : (job : JobValues) → IsProper job → AreLines (job_entries job) (flat_map key_line (job_pairs job))
job_lines job is = rows_lines (job_rows job) (job_are job is)

view_are : (named : Option Principal) (shows : Shown) → IsShown named shows → AreRows (view_rows named shows)
view_are (Some name) shows is = (word_is (codes "name") (principal_name name) refl (principal_word name), tt)
view_are None (whole d) is = ((refl, direction_read d is.x is.y is.z), tt)
view_are None (behind plane) is = (
  word_is (codes "cut") (axis_name plane.axis) refl (axis_word plane.axis),
  ((refl, number_read plane.at (omega (arith, is))), (word_is (codes "from") (side_name plane.from_high) refl (side_word plane.from_high), tt)),
)

same_pairs : (named : Option Principal) (shows : Shown) → map row_pair (view_rows named shows) ≡ view_pairs named shows
same_pairs (Some name) shows = refl
same_pairs None (whole d) = refl
same_pairs None (behind plane) = refl

view_keys : (named : Option Principal) (shows : Shown) → IsShown named shows → AreLines (view_entries named shows) (flat_map key_line (view_pairs named shows))
view_keys named shows is =
    subst (λ (pairs : List Pair). AreLines (view_entries named shows) (flat_map key_line pairs)) (same_pairs named shows) (rows_lines (view_rows named shows) (view_are named shows is))

header_text : IsLineText false true ([], codes "view") array_table (codes "\n[[view]]\n")
unfolding key_text
header_text = refl

header_line : IsLine (([], codes "view"), array_table) (codes "\n[[view]]\n")
header_line rest = line_turn false true ([], codes "view") array_table (codes "\n[[view]]\n") rest header_text (omega arith)

block_lines : (v : ViewValues) → IsShown v.named v.shows → AreLines (view_expressions v) (view_block v)
block_lines v is = (codes "\n[[view]]\n", flat_map key_line (view_pairs v.named v.shows), refl, header_line, view_keys v.named v.shows is)

views_lines : (views : List ViewValues) → AreShown views → AreLines (flat_map view_expressions views) (flat_map view_block views)
views_lines [] are = refl
views_lines (v ∷ vs) (is, are) = lines-append (view_expressions v) (flat_map view_expressions vs) (view_block v) (flat_map view_block vs) (block_lines v is) (views_lines vs are)

pub all_lines : (job : JobValues) → IsProper job → AreLines (job_expressions job) (plain_job job)
all_lines job is = lines-append (job_entries job) (flat_map view_expressions job.views) (flat_map key_line (job_pairs job)) (flat_map view_block job.views) (job_lines job is) (views_lines job.views is.shown)
