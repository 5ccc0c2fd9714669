-- Which reasons desks of one kind may give.
use Rattle.std.specs.Prelude.{◌≡◌, Option, Some, None}
use Rattle.desk_reasons.specs.declared.reason.Reason.{Reason}

-- some desk of this kind gives this reason; each may give none
abbrev pub MayGive : {D : Type 0} → (D → Option Reason) → Option Reason → Type 0
MayGive of_desk None = Unit {0}
MayGive {D} of_desk (Some reason) = (desk : D) × (of_desk desk ≡ Some reason)
