-- Entries without an unknown key.
use Rattle.std.proofs.Common.{◌≡◌, ℕ, List, [], ◌∷◌, Option, None, map, string_bytes, sym, inl, inr, arith}
use Rattle.std.specs.Prelude.{All, IsTrue}
use Rattle.std.proofs.lemmas.Bool.{cases_Bool}
use Rattle.std.proofs.lemmas.List.Elements.{All-cons}
use Rattle.std.proofs.lemmas.Option.{none-some}
use Rattle.job_tables.specs.declared.table.TableEntry.{TableEntry}
use Rattle.job_tables.specs.declared.table.TableKind.{TableKind}
use Rattle.job_tables.specs.Faults.{key_fault}
use Rattle.job_tables.specs.Keys.{is_known}
use Rattle.job_tables.specs.Seen.{entry_seen}

pub known_of_none : (kind : TableKind) (view : Option ℕ) (es : List TableEntry) → key_fault kind view (map entry_seen es) ≡ None → All (λ e. IsTrue (is_known kind (string_bytes e.key))) es
known_of_none kind view [] none = λ k d h. absurd (omega (arith, h))
known_of_none kind view (e ∷ es) none =
    elim (cases_Bool (is_known kind (string_bytes e.key))) [
      | inl known ↦ All-cons (λ (x : TableEntry). IsTrue (is_known kind (string_bytes x.key))) e es known (known_of_none kind view es (rw known at none))
      | inr unknown ↦ absurd (none-some _ (sym (rw unknown at none)))
    ]
