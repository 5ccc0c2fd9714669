use Rattle.std.proofs.Common.{◌≤◌, ℕ, subst, sym}
use Rattle.std.proofs.Math.Nat.{le-max_left}
use Rattle.sheet_page.specs.Dashes.{dashes_on, IsFilled}
use Rattle.sheet_page.specs.declared.dashes.Dashes.{Dashes}
use Rattle.sheet_page.proofs.FittedDashes.{fills, long_dash}
use Rattle.sheet_page.proofs.dashes.dashes_of.Goals as goal

pub returns-clause-wide : goal.returns-clause-wide
returns-clause-wide c =
    subst (λ (d : Dashes). 500000 ≤ d.gap) (sym c.shared.ensures) (le-max_left 500000 _)

pub returns-clause-long : goal.returns-clause-long
returns-clause-long c =
    let closed = c.args.path.now.closed in
    subst (λ (d : Dashes). 250000 ≤ d.dash) (sym c.shared.ensures)
    (long_dash closed c.length-length.result c.dashes_on-n.result c.dashes_on-n.ensures.two c.dashes_on-n.ensures.at_least)

pub returns-clause-filled : goal.returns-clause-filled
returns-clause-filled c =
    let closed = c.args.path.now.closed in
    let length = c.length-length.result in
    let n = c.dashes_on-n.result in
    let all = subst (λ (d : Dashes). IsFilled closed length n d) (sym c.shared.ensures) (fills closed length n c.dashes_on-n.ensures.two c.dashes_on-n.ensures.at_least) in
    let counted = subst (λ (k : ℕ). IsFilled closed length k c.shared.result) c.dashes_on-n.ensures.value all in
    subst (λ (m : ℕ). IsFilled closed m (dashes_on c.args.pens closed m) c.shared.result) c.length-length.ensures.value counted
