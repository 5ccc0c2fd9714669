use Rattle.std.proofs.Common.{[], ℕ, List, sym, subst}
use Rattle.cut_marks.specs.Lanes.{AreLaned}
use Rattle.cut_marks.specs.Lanes.AreLaned.{none}
use Rattle.cut_marks.specs.declared.ways.Laned.{Laned}
use Rattle.cut_marks.proofs.lanes.laned.Goals as goal

pub loop-trace-init : goal.loop-trace-init
loop-trace-init c =
    subst (λ (letters : List ℕ). AreLaned c.args.b.now c.args.room.now [] c.new.result.items letters) (sym c.new-2.ensures.items)
    (subst (λ (xs : List Laned). AreLaned c.args.b.now c.args.room.now [] xs []) (sym c.new.ensures.items) none)
