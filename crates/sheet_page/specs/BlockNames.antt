-- What the cells of a title block say.
use Rattle.std.specs.Prelude.{ℕ, Bool, ◌==◌, if◌then◌else◌, List, [], ◌∷◌, codes}
use Rattle.std.specs.Char.{encode_utf8}
use Rattle.std.specs.Fmt.{decimal}
use Rattle.std.specs.List.{flat_map, list_any}
use Rattle.std.specs.Str.{chars}
use Rattle.dec_text.specs.declared.number.Length.{Length}
use Rattle.dec_text.specs.declared.number.Length.TheVariants.{Millimetre, Inch}
use Rattle.job_file.specs.Texts.{is_title_char}
use Rattle.job_file.specs.declared.job.Scale.{Scale}
use Rattle.svg_page.specs.Texts.{◌⊕◌}

-- 47 is a slash
abbrev pub has_slash : List ℕ → Bool
has_slash text = list_any (λ c. c == 47) text

-- what stands behind the last slash, or all where there is none
abbrev pub behind_slash : List ℕ → List ℕ
behind_slash [] = []
behind_slash (c ∷ rest) = if has_slash (c ∷ rest) then behind_slash rest else c ∷ rest

-- a character that may not stand in a title is shown as a question mark
abbrev pub shown_char : ℕ → ℕ
shown_char c = if is_title_char c then c else 63

abbrev pub shown : List ℕ → List ℕ
shown text = flat_map (λ c. encode_utf8 (shown_char c)) text

-- the name of a part's file without its folders
abbrev pub part_name : List ℕ → List ℕ
part_name part = shown (behind_slash (chars part))

abbrev pub scale_text : Scale → List ℕ
scale_text scale = decimal scale.num ⊕ codes ":" ⊕ decimal scale.den

abbrev pub unit_name : Length → List ℕ
unit_name Millimetre = codes "mm"
unit_name Inch = codes "inch"
