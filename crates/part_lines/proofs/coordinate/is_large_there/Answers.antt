use Rattle.std.proofs.Common.{◌≡◌, List, ℕ, sym, subst, rules}
use Rattle.part_lines.specs.Hints.{IsTooLarge}
use Rattle.part_lines.proofs.coordinate.is_large_there.Goals as goal

pub returns : goal.returns
returns c =
    let P : List ℕ → Type 0 = λ word. IsTooLarge c.args.decimals c.args.unit word in
    let same : c.args.token.line ≡ c.args.line = search rules in
    ((λ t. (same, subst P c.bytes_of.ensures (c.is_too_large.ensures.0 t))), (λ h. c.is_too_large.ensures.1 (subst P (sym c.bytes_of.ensures) h.1)))
