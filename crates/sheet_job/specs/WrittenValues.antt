-- What a value of a line means.
use Rattle.std.specs.Prelude.{ℕ, ◌-◌, ℤ, pos, neg_ℤ, Bool, true, false, ◌&&◌, ◌||◌, ◌==◌, nat_le, List, [], ◌∷◌, length, Option, Some, None, option_map, option_and_then, if◌then◌else◌, codes}
use Rattle.std.specs.Char.{is_ascii_digit}
use Rattle.std.specs.List.{list_all, list_any}
use Rattle.std.specs.Str.{bytes_eq}
use Rattle.lattice.specs.Triple.{Triple}
use Rattle.job_file.specs.Steps.{look_up}
use Rattle.job_file.specs.Texts.{is_title}
use Rattle.job_file.specs.ViewKeys.{triple_of, is_zero}
use Rattle.job_text.specs.Values.{TextItem, text, flag, number, Written, one, several}
use Rattle.sheet_job.specs.declared.hidden.Hidden.{Hidden}
use Rattle.sheet_job.specs.declared.hidden.Hidden.TheVariants as hidden

-- ---- texts and flags
abbrev pub text_in : Written → Option (List ℕ)
text_in (one (text t)) = Some t
text_in _ = None

abbrev pub flag_in : Written → Option Bool
flag_in (one (flag b)) = Some b
flag_in _ = None

-- one of some texts
abbrev pub choice_in : {A : Type 0} → List (List ℕ × A) → Written → Option A
choice_in rows value = option_and_then (look_up rows) (text_in value)

abbrev pub proper_title : List ℕ → Option (List ℕ)
proper_title t = if is_title t then Some t else None

abbrev pub title_in : Written → Option (List ℕ)
title_in value = option_and_then proper_title (text_in value)

-- the text "fit"
abbrev pub is_fit_text : Option (List ℕ) → Bool
is_fit_text None = false
is_fit_text (Some t) = bytes_eq t (codes "fit")

abbrev pub is_fit : Written → Bool
is_fit value = is_fit_text (text_in value)

-- hidden lines in all views, in plain views, or in none
abbrev pub hiddens : List (List ℕ × Hidden)
hiddens = (codes "all", hidden.All) ∷ (codes "plain", hidden.Plain) ∷ (codes "none", hidden.Never) ∷ []

-- ---- the number of decimals
-- one of the digits 0 to 6
abbrev pub decimals_digit : List ℕ → Option ℕ
decimals_digit (byte ∷ []) = if nat_le 48 byte && nat_le byte 54 then Some (byte - 48) else None
decimals_digit _ = None

-- "fit", which is none
abbrev pub decimals_fit : List ℕ → Option (Option ℕ)
decimals_fit t = if bytes_eq t (codes "fit") then Some None else None

-- such a digit, or "fit"
abbrev pub decimals_in : Written → Option (Option ℕ)
decimals_in (one (number word)) = option_map (λ n. Some n) (decimals_digit word)
decimals_in (one (text t)) = decimals_fit t
decimals_in _ = None

-- ---- directions
abbrev pub digit_value : ℕ → Option ℤ
digit_value byte = if is_ascii_digit byte then Some (pos (byte - 48)) else None

abbrev pub signed_digit : ℕ → ℕ → Option ℤ
signed_digit sign byte = if sign == 43 then digit_value byte else if sign == 45 then option_map neg_ℤ (digit_value byte) else None

-- one digit, maybe behind a sign
abbrev pub small_number : List ℕ → Option ℤ
small_number (byte ∷ []) = digit_value byte
small_number (sign ∷ byte ∷ []) = signed_digit sign byte
small_number _ = None

abbrev pub small_in : TextItem → Option ℤ
small_in (number word) = small_number word
small_in _ = None

abbrev pub not_zero : Triple → Option Triple
not_zero t = if is_zero t then None else Some t

-- three such numbers, not all 0
abbrev pub toward_of : List TextItem → Option Triple
toward_of (x ∷ y ∷ z ∷ []) = option_and_then not_zero (triple_of (small_in x) (small_in y) (small_in z))
toward_of _ = None

abbrev pub toward_in : Written → Option Triple
toward_in (several items) = toward_of items
toward_in _ = None

-- ---- lengths
abbrev pub after_sign : List ℕ → List ℕ
after_sign [] = []
after_sign (byte ∷ rest) = if byte == 43 || byte == 45 then rest else byte ∷ rest

-- digits, and maybe a point before, among or after them
abbrev pub has_point_form : List ℕ → Bool
has_point_form [] = true
has_point_form (byte ∷ rest) = if byte == 46 then list_all is_ascii_digit rest else is_ascii_digit byte && has_point_form rest

-- A number as coordinates have it: a sign or none, and then such digits, at least one. No job has a word of more than 2^24 bytes.
abbrev pub is_length : List ℕ → Bool
is_length word = has_point_form (after_sign word) && list_any is_ascii_digit word && nat_le (length word) 16777216

abbrev pub proper_length : List ℕ → Option (List ℕ)
proper_length word = if is_length word then Some word else None

-- the number as it is written
abbrev pub length_in : Written → Option (List ℕ)
length_in (one (number word)) = proper_length word
length_in _ = None
