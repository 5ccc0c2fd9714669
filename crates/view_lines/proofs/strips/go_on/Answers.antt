use Rattle.std.proofs.Common.{◌≡◌, Bool, true, false, refl, List, ◌++◌, ◌∷◌, [], sym, subst}
use Rattle.std.proofs.Math.Bool.{beq}
use Rattle.lattice.specs.declared.spans.Span.{Span}
use Rattle.view_lines.specs.inner.Told.{AreJoined}
use Rattle.view_lines.proofs.Runs.{runs_more, runs_longer}
use Rattle.view_lines.proofs.strips.go_on.Goals as goal

alike : (a b : Bool) → beq a b ≡ true → a ≡ b
alike true true is = refl
alike false false is = refl
alike true false is = absurd (cc)
alike false true is = absurd (cc)

pub returns-then-last-next : goal.returns-then-last-next
returns-then-last-next c singles runs =
    runs_longer c.args.spans.now.items singles c.args.last c.args.next c.over_both.result runs c.over_both.ensures.from c.over_both.ensures.to c.over_both.ensures.hidden (alike c.args.last.hidden c.args.next.hidden c.if-last-next.true)

pub returns : goal.returns
returns c singles runs =
    subst (λ (ys : List Span). AreJoined (singles ++ c.args.next ∷ []) (ys ++ c.args.next ∷ [])) (sym {A = List Span} c.in_ok-push.ensures.items)
    (runs_more (c.args.spans.now.items ++ c.args.last ∷ []) singles c.args.next runs)
