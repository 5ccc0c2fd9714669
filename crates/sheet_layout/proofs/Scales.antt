-- A scale is told by its two numbers.
use Rattle.std.proofs.Common.{◌≡◌, ℕ, List, ◌∷◌}
use Rattle.std.specs.Prelude.{IsTrue}
use mathlib.Core.Bool.{Bool-set}
use Rattle.job_file.specs.Scales.{is_scale}
use Rattle.job_file.specs.declared.job.Scale.{Scale}

abbrev scale_with : (num den : ℕ) → IsTrue (is_scale num den) → Scale
scale_with num den p = record { num = num; den = den; listed = p }

pub one_scale : (num den : ℕ) (p q : IsTrue (is_scale num den)) → scale_with num den p ≡ scale_with num den q
one_scale num den p q = λ i. record { num = num; den = den; listed = Bool-set _ _ p q i }

pub both_same : (s t : Scale) (ss ts : List Scale) → s ≡ t → ss ≡ ts → s ∷ ss ≡ t ∷ ts
both_same s t ss ts e f = λ i. e i ∷ f i
