use Rattle.std.proofs.Common.{refl, inl, ◌∙◌, rules, FitsSigned, w64}
use Rattle.std.proofs.lemmas.Int.{to_z-of_z}
use Rattle.span_count.proofs.carry.add_span.Goals as goal

pub returns-clause-added : goal.returns-clause-added
returns-clause-added c =
    let l : FitsSigned w64 c.args.left = search rules in
    let r : FitsSigned w64 c.args.right = search rules in
    inl (
      c.is_earlier.ensures.0 c.if-not-is_earlier.false,
      (refl, refl),
      (
        _,
        (refl, refl),
        (refl, refl),
        (λ n small e. c.count.ensures n small (to_z-of_z w64 c.args.left l ∙ e)),
        (λ n small e. c.count-2.ensures n small (to_z-of_z w64 c.args.right r ∙ e)),
        c.in_ok-push.ensures.items,
      ),
    )
