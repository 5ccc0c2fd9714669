use Rattle.std.proofs.Common.{List, refl, subst}
use Rattle.std.specs.List.{All}
use Rattle.std.proofs.lemmas.List.{take_all}
use Rattle.std.proofs.lemmas.List.Elements.{All-more}
use Rattle.lattice.specs.declared.pieces.HatchLine.{HatchLine}
use Rattle.section_look.specs.Thin.{IsShort}
use Rattle.section_look.proofs.thin.are_short.Goals as goal

pub loop-line-preserved : goal.loop-line-preserved
loop-line-preserved c place at =
    let P = IsShort c.args.sheet.now place in
    let x = c.line-item.result in
    All-more P c.args.lines.now c.loop-line.line-index x c.loop-line-test.true (c.loop-line.invariant place at) (subst P c.line-item.is ((c.is_short.ensures place at).0 c.if-not-is_short.false))

pub returns : goal.returns
returns c place at = (
  (λ h. subst (λ (xs : List HatchLine). All (IsShort c.args.sheet.now place) xs) (take_all c.loop-line.line-index c.args.lines.now c.loop-line-test.false) (c.loop-line.invariant place at)),
  (λ all. refl),
)
