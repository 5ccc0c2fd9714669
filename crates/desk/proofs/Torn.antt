-- What a failed call leaves of a file is what a desk may leave.
use Rattle.std.proofs.Common.{◌≡◌, ℕ, List, Option, Some, None, Err, ap, sym, subst, inl, inr}
use Rattle.desk.specs.Files.{Files, Leaves, MayKeepFront}
use Rattle.desk.specs.declared.desk.DeskFault.{DeskFault}
use Rattle.desk.specs.declared.desk.DeskFault.TheVariants.{Failed}
use Rattle.desk.specs.Memory.{TearsFile}

pub tears : (left : Option ℕ) (old new : Files) (name bytes : List ℕ) → TearsFile left old new name bytes → MayKeepFront old new name bytes
tears None old new name bytes same = record { holds = inl (ap (λ (f : Files). f name) same); others = λ other unlike. ap (λ (f : Files). f other) same }
tears (Some n) old new name bytes torn = record { holds = inr (n, torn.holds); others = torn.others }

-- so is no change
pub failed : (T : Type 0) (e : DeskFault) (old new : Files) (name bytes : List ℕ) → e ≡ Failed → new ≡ old → Leaves {T = T} (Err e) old new name bytes
failed T e old new name bytes is same =
    subst (λ (x : DeskFault). Leaves {T = T} (Err x) old new name bytes) (sym is)
    (record { holds = inl (ap (λ (f : Files). f name) same); others = λ other unlike. ap (λ (f : Files). f other) same })
