use Rattle.std.proofs.Common.{sym, subst, Some, List, ℕ, ◌∙◌, true≢false}
use Rattle.lex_lines.specs.declared.token.Token.{Token}
use Rattle.part_lines.specs.Hints.{IsFirstLarge, coordinates_from}
use Rattle.part_lines.proofs.Coordinates.{found_here, found_later}
use Rattle.part_lines.proofs.coordinate.large_in_stl.Goals as goal

pub returns-then-is_large_coordinate-clause-first : goal.returns-then-is_large_coordinate-clause-first
returns-then-is_large_coordinate-clause-first c =
    let P : List Token → Type 0 = λ left. IsFirstLarge c.args.decimals c.args.unit c.args.text.now c.args.line (coordinates_from c.args.text.now c.loop-token.left left) (Some c.in-Some.token) in
    c.loop-token.invariant.first (Some c.in-Some.token)
    (subst P (sym c.in-Some.ensures.left) (found_here c.args.decimals c.args.unit c.args.text.now c.args.line c.loop-token.left c.in-Some.token _ (c.is_large_coordinate.ensures.0 c.if-is_large_coordinate.true)))

pub loop-token-preserved : goal.loop-token-preserved
loop-token-preserved c = record {
  first = λ found h.
      let P : List Token → Type 0 = λ left. IsFirstLarge c.args.decimals c.args.unit c.args.text.now c.args.line (coordinates_from c.args.text.now c.loop-token.left left) found in
      let Q : ℕ → Type 0 = λ n. IsFirstLarge c.args.decimals c.args.unit c.args.text.now c.args.line (coordinates_from c.args.text.now n c.next.new.self.left) found in
      c.loop-token.invariant.first found
      (subst P (sym c.in-Some.ensures.left)
      (found_later c.args.decimals c.args.unit c.args.text.now c.args.line c.loop-token.left c.in-Some.token _ found
      (λ there. true≢false (sym (c.is_large_coordinate.ensures.1 there) ∙ c.if-is_large_coordinate.false)) (subst Q c.left_after-left.ensures h)));
  text = c.in-Some.ensures.text ∙ c.loop-token.invariant.text;
}
