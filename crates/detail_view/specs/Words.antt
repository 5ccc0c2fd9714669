-- What the words behind the program's name ask for: `check PART JOB LIST`, or `detail PART JOB VIEW U1 V1 U2 V2 SCALE OUT`.
use Rattle.std.specs.Prelude.{ℕ, ◌^◌, Bool, true, false, nat_le, ◌&&◌, ◌||◌, ◌==◌, ℤ, int_lt, unsigned_abs, List, [], ◌∷◌, length, get_or, Option, Some, None, option_map, if◌then◌else◌, codes}
use Rattle.std.specs.Str.{bytes_eq}
use Rattle.dec_text.specs.Numbers.{digits_value, signed}
use Rattle.job_file.specs.Scales.{scales}
use Rattle.job_file.specs.Steps.{look_up}

-- ---- numbers
-- what a minus sign, or none, and 1 to 13 digits stand for
abbrev pub whole_value : List ℕ → Option ℤ
whole_value [] = None
whole_value (byte ∷ text) = if byte == 45 then option_map (signed true) (digits_value 13 text) else option_map (signed false) (digits_value 13 (byte ∷ text))

-- ---- windows
pub record Bounds : Type 0 where
  pub u1 : ℤ
  pub v1 : ℤ
  pub u2 : ℤ
  pub v2 : ℤ

-- at most 2^40 in size
abbrev pub is_near : ℤ → Bool
is_near z = nat_le (unsigned_abs z) (2 ^ 40)

-- from one number to a greater one, and both are near
abbrev pub is_span : ℤ → ℤ → Bool
is_span from to = int_lt from to && is_near from && is_near to

abbrev pub is_window : ℤ → ℤ → ℤ → ℤ → Bool
is_window u1 v1 u2 v2 = is_span u1 u2 && is_span v1 v2

abbrev pub bounds_or : Option ℤ → Option ℤ → Option ℤ → Option ℤ → Option Bounds
bounds_or (Some u1) (Some v1) (Some u2) (Some v2) = if is_window u1 v1 u2 v2 then Some (record { u1 = u1; v1 = v1; u2 = u2; v2 = v2 }) else None
bounds_or _ _ _ _ = None

-- the window between two corners
abbrev pub bounds_by : List ℕ → List ℕ → List ℕ → List ℕ → Option Bounds
bounds_by u1 v1 u2 v2 = bounds_or (whole_value u1) (whole_value v1) (whole_value u2) (whole_value v2)

-- ---- what is asked for
-- whether the list is the right one for the part and the job
pub record Check : Type 0 where
  pub part : List ℕ
  pub job : List ℕ
  pub list : List ℕ

-- what of the job's view with this number stands in the window, at a scale, and under which name its page goes
pub record Detail : Type 0 where
  pub part : List ℕ
  pub job : List ℕ
  pub view : ℕ
  pub window : Bounds
  pub scale : ℕ × ℕ
  pub out : List ℕ

pub data Asked : Type 0 where
  checks : Check → Asked
  details : Detail → Asked

abbrev pub is_no_name : List ℕ → Bool
is_no_name name = length name == 0

abbrev pub check_by : List ℕ → List ℕ → List ℕ → Option Asked
check_by part job list =
    if is_no_name part || is_no_name job || is_no_name list then None else Some (checks (record { part = part; job = job; list = list }))

abbrev pub detail_or : List ℕ → List ℕ → Option ℕ → Option Bounds → Option (ℕ × ℕ) → List ℕ → Option Asked
detail_or part job (Some view) (Some window) (Some scale) out =
    if is_no_name part || is_no_name job || is_no_name out then None
    else Some (details (record { part = part; job = job; view = view; window = window; scale = scale; out = out }))
detail_or part job _ _ _ out = None

abbrev pub word_at : List (List ℕ) → ℕ → List ℕ
word_at words i = get_or words i []

-- these words behind `check`, and behind `detail`
abbrev pub check_words : List (List ℕ) → Option Asked
check_words words = check_by (word_at words 1) (word_at words 2) (word_at words 3)

abbrev pub detail_words : List (List ℕ) → Option Asked
detail_words words =
    detail_or (word_at words 1) (word_at words 2) (digits_value 9 (word_at words 3))
    (bounds_by (word_at words 4) (word_at words 5) (word_at words 6) (word_at words 7)) (look_up scales (word_at words 8)) (word_at words 9)

-- what the words ask for; None where they are refused
abbrev pub asked_by : List (List ℕ) → Option Asked
asked_by words =
    if length words == 4 && bytes_eq (word_at words 0) (codes "check") then check_words words
    else if length words == 10 && bytes_eq (word_at words 0) (codes "detail") then detail_words words else None
