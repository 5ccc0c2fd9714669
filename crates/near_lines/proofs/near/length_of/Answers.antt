use Rattle.std.proofs.Common.{◌≡◌, ◌*◌, ◌+◌, ap, ◌∙◌, unsigned_abs}
use Rattle.sheet_plan.specs.Numbers.{root_of}
use Rattle.sheet_plan.proofs.Roots.{root_of-is}
use Rattle.near_lines.specs.Near.{square_of}
use Rattle.near_lines.proofs.near.length_of.Goals as goal

pub returns-clause-value : goal.returns-clause-value
returns-clause-value c =
    let across = c.way_of.ensures.across in
    let down = c.way_of.ensures.down in
    let square : c.square.result ≡ square_of c.args.s.now = c.square.ensures.value ∙ (λ i. unsigned_abs (across i) * unsigned_abs (across i) + unsigned_abs (down i) * unsigned_abs (down i)) in
    root_of-is _ _ c.isqrt.ensures.at_most c.isqrt.ensures.greatest ∙ (λ i. root_of (10000 * square i))
