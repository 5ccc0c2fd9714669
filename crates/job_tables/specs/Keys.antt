-- The keys of a job's tables.
use Rattle.std.specs.Prelude.{ℕ, Bool, List, [], ◌∷◌, codes}
use Rattle.std.specs.List.{list_any}
use Rattle.std.specs.Str.{bytes_eq}
use Rattle.job_tables.specs.declared.table.TableKind.{TableKind}
use Rattle.job_tables.specs.declared.table.TableKind.TheVariants.{Job, Block, View}

-- in this order
abbrev pub known_keys : TableKind → List (List ℕ)
known_keys Job =
    codes "version" ∷ codes "title" ∷ codes "unit" ∷ codes "decimals" ∷ codes "sheet" ∷ codes "layout" ∷ codes "angle" ∷ codes "scale" ∷ codes "crease" ∷ codes "hidden" ∷ []
known_keys Block =
    codes "number" ∷ codes "type" ∷ codes "material" ∷ codes "author" ∷ codes "approved" ∷ codes "date" ∷ codes "revision" ∷ codes "company" ∷ codes "tolerances" ∷ codes "note" ∷ []
known_keys View = codes "name" ∷ codes "toward" ∷ codes "cut" ∷ codes "at" ∷ codes "from" ∷ codes "title" ∷ codes "hidden" ∷ []

abbrev pub is_known : TableKind → List ℕ → Bool
is_known kind key = list_any (bytes_eq key) (known_keys kind)
