-- What bytes are, by what TOML reads.
use Rattle.std.proofs.Common.{◌≡◌, ℕ, List, true, false, Some, None, refl, inl, inr}
use Rattle.std.proofs.lemmas.Bool.{cases_Bool}
use Rattle.std.proofs.lemmas.Str.{IsUtf8-from_is_utf8, is_utf8-from_IsUtf8}
use Rattle.std.specs.Str.{IsUtf8, is_utf8}
use Rattle.toml.specs.Data.{Members}
use Rattle.toml.specs.Parse.{parse_document}
use Rattle.job_file.specs.Documents.{table_of, job_of_bytes}
use Rattle.sheet_job.specs.AnyJobs.{older, own, no_toml, is_own, any_job_of_bytes}
use Rattle.sheet_job.specs.SheetJobs.{sheet_job_of_text}

accepted : (bytes : List ℕ) (ms : Members) → IsUtf8 bytes × (parse_document bytes ≡ Some ms) → table_of bytes ≡ Some ms
accepted bytes ms h = rw (is_utf8-from_IsUtf8 bytes h.0) h.1

pub own_bytes : (bytes : List ℕ) (ms : Members) → IsUtf8 bytes × (parse_document bytes ≡ Some ms) → is_own ms ≡ true → any_job_of_bytes bytes ≡ own (sheet_job_of_text bytes)
own_bytes bytes ms h mine = rw (accepted bytes ms h, mine) refl

pub older_bytes : (bytes : List ℕ) (ms : Members) → IsUtf8 bytes × (parse_document bytes ≡ Some ms) → is_own ms ≡ false → any_job_of_bytes bytes ≡ older (job_of_bytes bytes)
older_bytes bytes ms h other = rw (accepted bytes ms h, other) refl

pub refused_bytes : (bytes : List ℕ) → (IsUtf8 bytes → parse_document bytes ≡ None) → any_job_of_bytes bytes ≡ no_toml
refused_bytes bytes h =
    elim (cases_Bool (is_utf8 bytes)) [
      | inl text ↦ rw (text, h (IsUtf8-from_is_utf8 bytes text)) refl
      | inr other ↦ rw other refl
    ]
