use Rattle.std.proofs.Common.{sym, subst, inl, inr, refl, Some, List, ◌∙◌, true≢false}
use Rattle.lex_lines.specs.declared.token.Token.{Token}
use Rattle.part_lines.specs.Hints.{IsFirstLarge}
use Rattle.part_lines.proofs.coordinate.large_in_off.Goals as goal

pub returns-then-is_large_there-clause-first : goal.returns-then-is_large_there-clause-first
returns-then-is_large_there-clause-first c =
    let P : List Token → Type 0 = λ left. IsFirstLarge c.args.decimals c.args.unit c.args.text.now c.args.line left (Some c.in-Some.token) in
    c.loop-token.invariant.first (Some c.in-Some.token) (subst P (sym c.in-Some.ensures.left) (inl (c.is_large_there.ensures.0 c.if-is_large_there.true, refl)))

pub loop-token-preserved : goal.loop-token-preserved
loop-token-preserved c = record {
  first = λ found h. let P : List Token → Type 0 = λ left. IsFirstLarge c.args.decimals c.args.unit c.args.text.now c.args.line left found in
      c.loop-token.invariant.first found (subst P (sym c.in-Some.ensures.left) (inr ((λ there. true≢false (sym (c.is_large_there.ensures.1 there) ∙ c.if-is_large_there.false)), h)));
  text = c.in-Some.ensures.text ∙ c.loop-token.invariant.text;
}
