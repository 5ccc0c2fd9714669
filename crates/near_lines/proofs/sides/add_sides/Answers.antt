use Rattle.std.proofs.Common.{◌≡◌, ◌++◌, List, All, sym, subst}
use Rattle.std.proofs.lemmas.List.Elements.{All-append}
use Rattle.std.proofs.lemmas.Result.{on_ok_weaker}
use Rattle.near_lines.specs.Sides.{IsSmall, along}
use Rattle.near_lines.specs.declared.sides.Side.{Side}
use Rattle.near_lines.proofs.Sizes.{small_along}
use Rattle.near_lines.proofs.sides.add_sides.Goals as goal

pub returns-then-is_visible-clause-small : goal.returns-then-is_visible-clause-small
returns-then-is_visible-clause-small c =
    let path = c.args.path.now in
    let more = along c.args.number path.closed path.points.items in
    let small = All-append IsSmall c.args.sides.now.items more c.requires.small (small_along c.args.number path.closed path.points.items) in
    on_ok_weaker c.add_along.result (λ e. subst (λ (sides : List Side). All IsSmall sides) (sym e) small) c.add_along.ensures
