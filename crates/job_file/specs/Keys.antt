-- The keys that are known.
use Rattle.std.specs.Prelude.{ℕ, List, [], ◌∷◌, Option, Some, None, if◌then◌else◌, codes}
use Rattle.std.specs.Cmp.Lexicographic.{slice_cmp}
use Rattle.std.specs.List.{list_any}
use Rattle.std.specs.Ordering.{nat_cmp, match_ordering}
use Rattle.std.specs.Str.{bytes_eq}
use Rattle.toml.specs.Data.{Members, no_members, member}
use Rattle.job_file.specs.declared.table.Kind.{Kind}
use Rattle.job_file.specs.declared.table.Kind.TheVariants.{JobOne, JobTwo, View}

abbrev pub keys_of : Kind → List (List ℕ)
keys_of JobOne = codes "version" ∷ codes "decimals" ∷ codes "angle" ∷ codes "sheet" ∷ codes "scale" ∷ codes "crease" ∷ codes "title" ∷ codes "outputs" ∷ codes "view" ∷ []
keys_of JobTwo =
    codes "version" ∷ codes "decimals" ∷ codes "angle" ∷ codes "sheet" ∷ codes "scale" ∷ codes "crease" ∷ codes "title" ∷ codes "outputs" ∷ codes "view"
    ∷ codes "unit" ∷ codes "layout" ∷ []
keys_of View = codes "name" ∷ codes "toward" ∷ codes "cut" ∷ codes "at" ∷ codes "from" ∷ []

-- the lesser of a key and another one, if there is one, in the order of their bytes
abbrev pub lesser : List ℕ → Option (List ℕ) → List ℕ
lesser k None = k
lesser k (Some l) = match_ordering (slice_cmp nat_cmp k l) k k l

-- the least key that no table of this kind has
abbrev pub unknown_key : Kind → Members → Option (List ℕ)
unknown_key kind no_members = None
unknown_key kind (member k d ms) = if list_any (bytes_eq k) (keys_of kind) then unknown_key kind ms else Some (lesser k (unknown_key kind ms))
