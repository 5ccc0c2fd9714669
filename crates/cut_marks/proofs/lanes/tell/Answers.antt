use Rattle.std.proofs.Common.{◌≡◌, ◌++◌, ◌∷◌, [], ℕ, List, Option, None, Some, IfSome, Vec, Global, sym, subst}
use Rattle.cut_marks.specs.Lanes.{placed, AreLaned}
use Rattle.cut_marks.specs.Lanes.AreLaned.{told, untold}
use Rattle.cut_marks.specs.declared.ways.Laned.{Laned}
use Rattle.cut_marks.proofs.lanes.tell.Goals as goal

pub returns-in-Some : goal.returns-in-Some
returns-in-Some c = λ traces are.
    let was = c.args.told.now in
    told traces was.laned.items was.left_out.items c.args.trace.now c.in-Some.laned.items are
    (subst (λ (xs : List Laned). placed c.args.b.now c.args.room.now xs c.args.trace.now ≡ Some c.in-Some.laned.items) c.deref.ensures.value
    (subst (λ (o : Option (Vec Laned Global)). IfSome o (λ laned. placed c.args.b.now c.args.room.now c.deref.result.now c.args.trace.now ≡ Some laned.items)) c.in-Some.is c.in_ok-laned.ensures.told))

pub returns-in_ok-push-in-None : goal.returns-in_ok-push-in-None
returns-in_ok-push-in-None c = λ traces are.
    let was = c.args.told.now in
    subst (λ (letters : List ℕ). AreLaned c.args.b.now c.args.room.now (traces ++ c.args.trace.now ∷ []) was.laned.items letters) (sym c.in_ok-push-in-None.ensures.items)
    (untold traces was.laned.items was.left_out.items c.args.trace.now are
    (subst (λ (xs : List Laned). placed c.args.b.now c.args.room.now xs c.args.trace.now ≡ None) c.deref.ensures.value (c.in_ok-laned.ensures.untold c.in-None.is)))
