-- A job's text is short.
use Rattle.std.proofs.Common.{◌≡◌, ℕ, suc, ◌+◌, ◌*◌, ◌^◌, ◌≤◌, ℤ, pos, negsuc, unsigned_abs, Bool, true, false, not, ◌&&◌, ◌||◌, ◌==◌, nat_le, List, [], ◌∷◌, ◌++◌, length, map, codes, decimal, Option, Some, None, IsUtf8, encode_utf8, encode_utf8_all, refl, ap, inl, inr, arith, length-append}
use Rattle.std.proofs.lemmas.Bool.{cases_Bool, and_parts}
use Rattle.std.proofs.lemmas.Bool.Decides.{nat_tests}
use Rattle.std.proofs.lemmas.Fmt.{length-decimal-le}
use Rattle.std.proofs.lemmas.Str.{length-encode, encodes-chars}
use Rattle.std.specs.Char.{len_utf8}
use Rattle.std.specs.Fmt.{digits, signed_decimal}
use Rattle.std.specs.List.{flat_map, list_all}
use Rattle.std.specs.Option.{ForSome}
use Rattle.std.specs.Str.{chars, bytes_eq}
use Rattle.dec_text.specs.declared.number.Length.{Length}
use Rattle.dec_text.specs.declared.number.Length.TheVariants.{Millimetre, Inch}
use Rattle.lattice.specs.Triple.{Triple}
use Rattle.lattice.specs.declared.pieces.Crease.{Crease}
use Rattle.lattice.specs.declared.pieces.Crease.TheVariants.{Fine, Normal, Coarse}
use Rattle.lattice.specs.declared.points.Axis.{Axis}
use Rattle.lattice.specs.declared.points.Axis.TheVariants.{X, Y, Z}
use Rattle.job_file.specs.Documents.{JobValues}
use Rattle.job_file.specs.Papers.{paper_name}
use Rattle.job_file.specs.Scales.{scales, is_scale}
use Rattle.job_file.specs.Texts.{is_title_char, is_title, is_output_byte, is_output, are_different, are_outputs}
use Rattle.job_file.specs.ViewValues.{Shown, ViewValues, whole, behind}
use Rattle.job_file.specs.declared.job.Paper.{Paper}
use Rattle.job_file.specs.declared.job.Paper.TheVariants.{A0, A1, A2, A3, A4}
use Rattle.job_file.specs.declared.view.Principal.{Principal}
use Rattle.job_file.specs.declared.view.Principal.TheVariants.{Front, Back, Left, Right, Above, Below}
use Rattle.job_writer.specs.Called.{angle_name, scale_name, crease_name, length_name, layout_name, principal_name, axis_name, side_name}
use Rattle.job_writer.specs.Pairs.{Pair, key_line, in_quotes, escaped_char, escaped_title, behind_commas, in_brackets}
use Rattle.job_writer.specs.PlainJobs.{job_pairs, direction_text, view_pairs, view_block, plain_job}
use Rattle.job_writer.proofs.Proper.{IsShown, AreShown, IsProper}
use Rattle.job_writer.proofs.Taken.{AllScales, of_scale}

-- ---- parts
quoted_size : (text : List ℕ) → length (in_quotes text) ≡ length text + 2
quoted_size text = omega (arith, length-append text (codes "\""))

-- the lengths of the values of some keys, one after the other
abbrev AreShort : List Pair → List ℕ → Type 0
AreShort [] sizes = Unit {0}
AreShort (pair ∷ pairs) [] = ⊥
AreShort (pair ∷ pairs) (size ∷ sizes) = (length pair.0 + length pair.1 ≤ size) × AreShort pairs sizes

abbrev total : List ℕ → ℕ
total [] = 0
total (size ∷ sizes) = size + 4 + total sizes

line_size : (pair : Pair) → length (key_line pair) ≡ length pair.0 + length pair.1 + 4
line_size pair = omega (arith, length-append pair.0 (codes " = " ++ (pair.1 ++ codes "\n")), length-append pair.1 (codes "\n"))

lines_size : (pairs : List Pair) (sizes : List ℕ) → AreShort pairs sizes → length (flat_map key_line pairs) ≤ total sizes
lines_size [] sizes are = omega arith
lines_size (pair ∷ pairs) [] are = absurd are
lines_size (pair ∷ pairs) (size ∷ sizes) (is, are) =
    let rest = lines_size pairs sizes are in
    omega (arith, length-append (key_line pair) (flat_map key_line pairs), line_size pair, is, rest)

-- ---- a title
one_byte : (c : ℕ) → 1 ≤ len_utf8 c
one_byte c = grind (arith, nat_tests)

char_size : (c : ℕ) → length (escaped_char c) ≤ 2 * length (encode_utf8 c)
char_size c =
    let some : 1 ≤ length (encode_utf8 c) = rw (length-encode c) (one_byte c) in
    elim (cases_Bool (c == 34 || c == 92)) [
      | inl marked ↦ rw marked (omega (arith, some))
      | inr other ↦ rw other (omega arith)
    ]

chars_size : (cs : List ℕ) → length (flat_map escaped_char cs) ≤ 2 * length (encode_utf8_all cs)
chars_size [] = omega arith
chars_size (c ∷ cs) =
    let here = char_size c in
    let rest = chars_size cs in
    omega (arith, length-append (escaped_char c) (flat_map escaped_char cs), length-append (encode_utf8 c) (encode_utf8_all cs), here, rest)

title_size : (title : List ℕ) → IsUtf8 title → is_title title ≡ true → length (escaped_title title) ≤ 240
title_size title utf8 fine =
    let few : nat_le (length title) 120 ≡ true = (and_parts (nat_le (length title) 120) (list_all is_title_char (chars title)) fine).0 in
    let most : length title ≤ 120 = grind (arith, nat_tests) in
    let twice = chars_size (chars title) in
    omega (arith, twice, most, ap length (encodes-chars title utf8))

-- ---- outputs
output_size : (text : List ℕ) → is_output text ≡ true → length text ≤ 16
output_size text is =
    let (front, _) = and_parts (nat_le 1 (length text) && nat_le (length text) 16 && list_all is_output_byte text) (not (bytes_eq text (codes "svg"))) is in
    let (sized, _) = and_parts (nat_le 1 (length text) && nat_le (length text) 16) (list_all is_output_byte text) front in
    let (_, few) = and_parts (nat_le 1 (length text)) (nat_le (length text) 16) sized in
    grind (arith, nat_tests)

others_size : (texts : List (List ℕ)) → list_all is_output texts ≡ true → length (behind_commas (map in_quotes texts)) ≤ 20 * length texts
others_size [] all = omega arith
others_size (text ∷ texts) all =
    let (is, more) = and_parts (is_output text) (list_all is_output texts) all in
    let here = output_size text is in
    let rest = others_size texts more in
    omega (arith, length-append (codes ", " ++ in_quotes text) (behind_commas (map in_quotes texts)), quoted_size text, here, rest)

list_size : (texts : List (List ℕ)) → list_all is_output texts ≡ true → length (in_brackets (map in_quotes texts)) ≤ 20 * length texts + 2
list_size [] all = omega arith
list_size (text ∷ texts) all =
    let (is, more) = and_parts (is_output text) (list_all is_output texts) all in
    let here = output_size text is in
    let rest = others_size texts more in
    let others = behind_commas (map in_quotes texts) in
    omega (arith, length-append (in_quotes text) (others ++ codes "]"), length-append others (codes "]"), quoted_size text, here, rest)

outputs_size : (texts : List (List ℕ)) → are_outputs texts ≡ true → length (in_brackets (map in_quotes texts)) ≤ 162
outputs_size texts fine =
    let (front, _) = and_parts (nat_le (length texts) 8 && list_all is_output texts) (are_different texts) fine in
    let (few, all) = and_parts (nat_le (length texts) 8) (list_all is_output texts) front in
    let most : length texts ≤ 8 = grind (arith, nat_tests) in
    omega (arith, list_size texts all, most)

-- ---- words
angle_size : (third : Bool) → length (angle_name third) ≤ 16
angle_size true = omega arith
angle_size false = omega arith

paper_size : (paper : Paper) → length (paper_name paper) ≤ 16
paper_size A0 = omega arith
paper_size A1 = omega arith
paper_size A2 = omega arith
paper_size A3 = omega arith
paper_size A4 = omega arith

each_scale : AllScales (λ scale. nat_le (length (scale_name (Some scale))) 16 ≡ true) scales
unfolding digits
each_scale = (refl, (refl, (refl, (refl, (refl, (refl, (refl, (refl, (refl, (refl, (refl, (refl, tt))))))))))))

scale_size : (scale : Option (ℕ × ℕ)) → ForSome scale (λ s. is_scale s.0 s.1 ≡ true) → length (scale_name scale) ≤ 16
scale_size None listed = omega arith
scale_size (Some scale) listed =
    let few = of_scale (λ scale. nat_le (length (scale_name (Some scale))) 16 ≡ true) scales scale.0 scale.1 each_scale (listed scale refl) in
    grind (arith, nat_tests)

crease_size : (crease : Crease) → length (crease_name crease) ≤ 16
crease_size Fine = omega arith
crease_size Normal = omega arith
crease_size Coarse = omega arith

unit_size : (unit : Length) → length (length_name unit) ≤ 16
unit_size Millimetre = omega arith
unit_size Inch = omega arith

layout_size : (portrait : Bool) → length (layout_name portrait) ≤ 16
layout_size true = omega arith
layout_size false = omega arith

principal_size : (name : Principal) → length (principal_name name) ≤ 16
principal_size Front = omega arith
principal_size Back = omega arith
principal_size Left = omega arith
principal_size Right = omega arith
principal_size Above = omega arith
principal_size Below = omega arith

axis_size : (axis : Axis) → length (axis_name axis) ≤ 16
axis_size X = omega arith
axis_size Y = omega arith
axis_size Z = omega arith

side_size : (from_high : Bool) → length (side_name from_high) ≤ 16
side_size true = omega arith
side_size false = omega arith

-- ---- numbers
number_size : (z : ℤ) → unsigned_abs z ≤ 2 ^ 20 → length (signed_decimal z) ≤ 8
number_size (pos n) small =
    let few = length-decimal-le 7 n (omega arith) (omega (arith, small)) (omega (arith, small)) in
    omega (arith, few)
number_size (negsuc n) small =
    let few = length-decimal-le 7 (suc n) (omega arith) (omega (arith, small)) (omega (arith, small)) in
    omega (arith, few)

direction_size : (d : Triple) → unsigned_abs d.x ≤ 2 ^ 20 → unsigned_abs d.y ≤ 2 ^ 20 → unsigned_abs d.z ≤ 2 ^ 20 → length (direction_text d) ≤ 30
direction_size d x y z =
    let a = signed_decimal d.x in
    let b = signed_decimal d.y in
    let c = signed_decimal d.z in
    let behind = codes ", " ++ (c ++ codes "]") in
    omega (
      arith,
      length-append a (codes ", " ++ (b ++ behind)),
      length-append b behind,
      length-append c (codes "]"),
      number_size d.x x,
      number_size d.y y,
      number_size d.z z,
    )

decimals_size : (n : ℕ) → n ≤ 6 → length (decimal n) ≤ 7
decimals_size n few = length-decimal-le 7 n (omega arith) (omega (arith, few)) (omega (arith, few))

-- ---- the text
word_fits : (n : ℕ) (key word : List ℕ) → length key ≤ n → length word ≤ 16 → length key + length (in_quotes word) ≤ n + 18
word_fits n key word few small = omega (arith, quoted_size word, few, small)

job_size : (job : JobValues) → IsProper job → length (flat_map key_line (job_pairs job)) ≤ 618
job_size job is =
    let title = title_size job.title is.utf8 is.title in
    let outputs = outputs_size job.outputs is.outputs in
    lines_size (job_pairs job) (8 ∷ 15 ∷ 23 ∷ 23 ∷ 23 ∷ 24 ∷ 247 ∷ 169 ∷ 22 ∷ 24 ∷ []) (
      omega arith,
      (
        omega (arith, decimals_size job.decimals is.few_decimals),
        (
          word_fits 5 (codes "angle") (angle_name job.third) (omega arith) (angle_size job.third),
          (
            word_fits 5 (codes "sheet") (paper_name job.paper) (omega arith) (paper_size job.paper),
            (
              word_fits 5 (codes "scale") (scale_name job.scale) (omega arith) (scale_size job.scale is.scaled),
              (
                word_fits 6 (codes "crease") (crease_name job.crease) (omega arith) (crease_size job.crease),
                (
                  omega (arith, quoted_size (escaped_title job.title), title),
                  (
                    omega (arith, outputs),
                    (
                      word_fits 4 (codes "unit") (length_name job.unit) (omega arith) (unit_size job.unit),
                      (word_fits 6 (codes "layout") (layout_name job.portrait) (omega arith) (layout_size job.portrait), tt),
                    ),
                  ),
                ),
              ),
            ),
          ),
        ),
      ),
    )

keys_size : (named : Option Principal) (shows : Shown) → IsShown named shows → length (flat_map key_line (view_pairs named shows)) ≤ 65
keys_size (Some name) shows is =
    let all = lines_size (view_pairs (Some name) shows) (22 ∷ []) (word_fits 4 (codes "name") (principal_name name) (omega arith) (principal_size name), tt) in
    omega (arith, all)
keys_size None (whole d) is =
    let toward = direction_size d (omega (arith, is.x)) (omega (arith, is.y)) (omega (arith, is.z)) in
    let all = lines_size (view_pairs None (whole d)) (36 ∷ []) (omega (arith, toward), tt) in
    omega (arith, all)
keys_size None (behind plane) is =
    lines_size (view_pairs None (behind plane)) (21 ∷ 10 ∷ 22 ∷ []) (
      word_fits 3 (codes "cut") (axis_name plane.axis) (omega arith) (axis_size plane.axis),
      (omega (arith, number_size plane.at is), (word_fits 4 (codes "from") (side_name plane.from_high) (omega arith) (side_size plane.from_high), tt)),
    )

views_size : (views : List ViewValues) → AreShown views → length (flat_map view_block views) ≤ 75 * length views
views_size [] are = omega arith
views_size (v ∷ vs) (is, are) =
    let here = keys_size v.named v.shows is in
    let rest = views_size vs are in
    omega (arith, length-append (view_block v) (flat_map view_block vs), length-append (codes "\n[[view]]\n") (flat_map key_line (view_pairs v.named v.shows)), here, rest)

pub job_short : (job : JobValues) → IsProper job → length (plain_job job) ≤ 2048
job_short job is =
    let settings = job_size job is in
    let views = views_size job.views is.shown in
    omega (arith, length-append (flat_map key_line (job_pairs job)) (flat_map view_block job.views), settings, views, is.few_views)
