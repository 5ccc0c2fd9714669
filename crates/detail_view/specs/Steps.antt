-- Steps with the faults of a run of `pieces`.
use Rattle.std.specs.Prelude.{◌≡◌, Result, Ok, Err}
use Rattle.part_input.specs.declared.fault.Fault.{Fault}
use Rattle.detail_view.specs.declared.fault.PiecesFault.{PiecesFault}
use Rattle.detail_view.specs.declared.fault.PiecesFault.TheVariants.{Input}

-- steps of reading a job or a part
abbrev pub Lifted : {A : Type 0} → (Result A Fault → Type 0) → Result A PiecesFault → Type 0
Lifted steps (Ok x) = steps (Ok x)
Lifted steps (Err (Input e)) = steps (Err e)
Lifted steps (Err e) = ⊥

-- what steps give, made into something else
abbrev pub Yields : {A B : Type 0} → (A → B) → (Result A PiecesFault → Type 0) → Result B PiecesFault → Type 0
Yields {A} f steps (Ok y) = (x : A) × steps (Ok x) × (y ≡ f x)
Yields f steps (Err e) = steps (Err e)
