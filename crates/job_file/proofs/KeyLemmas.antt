-- The keys of a table ascend, so the first that isn't known is the least.
use Rattle.std.proofs.Common.{◌≡◌, ℕ, List, [], ◌∷◌, Option, Some, None, String, Global, string_bytes, Less, refl, inl, inr}
use Rattle.std.proofs.lemmas.Bool.{cases_Bool}
use Rattle.std.specs.List.{list_any, AllByRecursion}
use Rattle.std.specs.List.Sorted.{IsStrictlySortedBy}
use Rattle.std.specs.Map.{keys_of}
use Rattle.std.specs.Prelude.{if◌then◌else◌}
use Rattle.std.specs.Str.{bytes_eq}
use Rattle.std.specs.String.{string_cmp}
use Rattle.toml.specs.declared.value.Value.{Value}
use Rattle.toml.specs.View.{members_view}
use Rattle.job_file.specs.Keys.{keys_of as known_keys, lesser, unknown_key}
use Rattle.job_file.specs.declared.table.Kind.{Kind}

-- the first of some keys that no table of this kind has
abbrev pub unknown_in : Kind → List (String Global) → Option (List ℕ)
unknown_in kind [] = None
unknown_in kind (k ∷ ks) = if list_any (bytes_eq (string_bytes k)) (known_keys kind) then unknown_in kind ks else Some (string_bytes k)

-- a key that is below all others is the lesser one
below_all : (kind : Kind) (k : String Global) (ks : List (String Global)) → AllByRecursion (λ y. string_cmp k y ≡ Less) ks → lesser (string_bytes k) (unknown_in kind ks) ≡ string_bytes k
below_all kind k [] h = refl
below_all kind k (y ∷ ks) h =
    elim (cases_Bool (list_any (bytes_eq (string_bytes y)) (known_keys kind))) [
      | inl known ↦ rw known (below_all kind k ks h.1)
      | inr unknown ↦ rw (unknown, h.0) refl
    ]

pub unknown_in-keys : (kind : Kind) (es : List (String Global × Value)) → IsStrictlySortedBy string_cmp (keys_of es) → unknown_in kind (keys_of es) ≡ unknown_key kind (members_view es)
unfolding IsStrictlySortedBy
unknown_in-keys kind [] h = refl
unknown_in-keys kind (e ∷ es) h =
    let rest : unknown_in kind (keys_of es) ≡ unknown_key kind (members_view es) = unknown_in-keys kind es h.1 in
    elim (cases_Bool (list_any (bytes_eq (string_bytes e.0)) (known_keys kind))) [
      | inl known ↦ rw known rest
      | inr unknown ↦ rw (unknown, ← rest, below_all kind e.0 (keys_of es) h.0) refl
    ]
