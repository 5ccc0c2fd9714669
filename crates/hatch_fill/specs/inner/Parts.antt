-- Lists that are put together of parts.
use Rattle.std.specs.Prelude.{◌≡◌, List, [], ◌∷◌, ◌++◌}

-- each element of the one list gives a part of the other, in order
abbrev pub AreJoined : {A B : Type 0} → (A → List B → Type 0) → List A → List B → Type 0
AreJoined {A} {B} R [] all = all ≡ []
AreJoined {A} {B} R (x ∷ xs) all = (part : List B) × (rest : List B) × (all ≡ part ++ rest) × R x part × AreJoined R xs rest

-- such elements are added to the old ones
abbrev pub AreAdded : {B : Type 0} → (List B → Type 0) → List B → List B → Type 0
AreAdded {B} R old new = (added : List B) × (new ≡ old ++ added) × R added
