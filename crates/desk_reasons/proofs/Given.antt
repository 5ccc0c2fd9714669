-- What a desk knows is what one of its kind may give.
use Rattle.std.proofs.Common.{◌≡◌, Option, Some, None, refl}
use Rattle.desk_reasons.specs.Reasons.{MayGive}
use Rattle.desk_reasons.specs.declared.reason.Reason.{Reason}

pub given : {D : Type 0} (of_desk : D → Option Reason) (desk : D) → MayGive of_desk (of_desk desk)
given {D} of_desk desk = by (of_desk desk) refl
  where
    by : (known : Option Reason) → of_desk desk ≡ known → MayGive of_desk known
    by None is = tt
    by (Some reason) is = (desk, is)
