-- What bytes say as a job: the bytes of a document, other bytes, and none.
use Rattle.std.proofs.Common.{◌≡◌, List, [], ℕ, false, Some, None, Ok, Err, refl, inl, inr}
use Rattle.std.proofs.lemmas.Bool.{cases_Bool}
use Rattle.std.proofs.lemmas.Str.{IsUtf8-from_is_utf8, is_utf8-from_IsUtf8}
use Rattle.std.specs.Str.{IsUtf8, is_utf8, chars}
use Rattle.toml.proofs.OnLiterals.{toml_on_literals}
use Rattle.toml.specs.Data.{Members, no_members}
use Rattle.toml.specs.Parse.{parse_document}
use Rattle.job_file.specs.Documents.{JobValues, usual_views, table_of, job_of, job_of_bytes}
use Rattle.job_file.specs.declared.fault.JobFault.TheVariants.{NotToml}
use Rattle.job_file.specs.declared.job.Paper.TheVariants.{A3}
use Rattle.lattice.specs.declared.pieces.Crease.TheVariants.{Normal}
use Rattle.dec_text.specs.declared.number.Length.TheVariants.{Millimetre}

pub document : (bytes : List ℕ) (ms : Members) → IsUtf8 bytes × (parse_document bytes ≡ Some ms) → job_of_bytes bytes ≡ job_of ms
document bytes ms h = rw (is_utf8-from_IsUtf8 bytes h.0, h.1) refl

pub refused : (bytes : List ℕ) → (IsUtf8 bytes → parse_document bytes ≡ None) → job_of_bytes bytes ≡ Err NotToml
refused bytes h =
    elim (cases_Bool (is_utf8 bytes)) [
      | inl text ↦ rw (text, h (IsUtf8-from_is_utf8 bytes text)) refl
      | inr other ↦ rw other refl
    ]

empty_table : table_of [] ≡ Some no_members
unfolding toml_on_literals is_utf8 chars
empty_table = refl

pub empty : job_of_bytes [] ≡ job_of no_members
empty = rw empty_table refl

-- the usual values
abbrev pub usual_values : JobValues
usual_values = record { decimals = 3; third = false; paper = A3; scale = None; crease = Normal; title = []; outputs = []; unit = Millimetre; portrait = false; views = usual_views }

pub usual : job_of no_members ≡ Ok usual_values
unfolding job_of
usual = refl
