-- What a fetch finds under a name.
use Rattle.std.proofs.Common.{◌≡◌, ◌⊎◌, ℕ, List, Option, Some, None, true, false, ap, sym, subst, ◌∙◌, inl, inr}
use Rattle.std.specs.Prelude.{IsSomeAnd}
use Rattle.desk.specs.Memory.{MemoryState, called}

-- a call that is counted leaves the files
pub found : (old new : MemoryState) (name : List ℕ) (held : Option (List ℕ)) → new ≡ called old → held ≡ new.files name → old.files name ≡ held
found old new name held counted is = sym (is ∙ ap (λ (s : MemoryState). s.files name) counted)

-- a file that is there is not missing
pub not_refused : {P : Type 0} (held : Option (List ℕ)) (bytes : List ℕ) → (P → false ≡ true) → held ≡ Some bytes →
    (false ≡ true → P ⊎ (held ≡ None)) × (P ⊎ (held ≡ None) → false ≡ true)
not_refused held bytes unlisted is =
    ((λ fails. absurd (cc)), λ refused. elim refused [ inl listed ↦ unlisted listed | inr missing ↦ cc ])

pub some_and : (P : List ℕ → Type 0) (held : Option (List ℕ)) (bytes : List ℕ) → held ≡ Some bytes → P bytes → IsSomeAnd held P
some_and P held bytes is fact = subst (λ (o : Option (List ℕ)). IsSomeAnd o P) (sym is) fact
