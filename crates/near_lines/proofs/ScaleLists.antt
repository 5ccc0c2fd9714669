-- A scale is told by its two numbers.
use Rattle.std.proofs.Common.{◌≡◌, ℕ, List, ◌∷◌}
use Rattle.std.specs.Prelude.{IsTrue}
use mathlib.Core.Bool.{Bool-set}
use Rattle.job_file.specs.Scales.{is_scale}
use Rattle.job_file.specs.declared.job.Scale.{Scale}

abbrev scale_with : (num den : ℕ) → IsTrue (is_scale num den) → Scale
scale_with num den p = record { num = num; den = den; listed = p }

pub next_scale : (num den : ℕ) (p q : IsTrue (is_scale num den)) (ss ts : List Scale) → ss ≡ ts → scale_with num den p ∷ ss ≡ scale_with num den q ∷ ts
next_scale num den p q ss ts rest = λ i. record { num = num; den = den; listed = Bool-set _ _ p q i } ∷ rest i
