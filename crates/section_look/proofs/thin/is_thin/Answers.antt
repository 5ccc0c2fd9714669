use Rattle.std.proofs.Common.{List, subst, sym}
use Rattle.std.specs.List.{All}
use Rattle.lattice.specs.declared.pieces.HatchLine.{HatchLine}
use Rattle.section_look.specs.Thin.{IsShort}
use Rattle.section_look.proofs.Marks.{match_of}
use Rattle.section_look.proofs.thin.is_thin.Goals as goal

pub returns : goal.returns
returns c place at =
    let lines = c.in_ok-lines.lines.items in
    let P = IsShort c.args.sheet.now place in
    match_of c.are_short.result (All P c.deref.result.now) _ _ (c.are_short.ensures place at)
    (λ all. record { lines = lines; chords = c.in_ok-lines.ensures; short = subst (λ (xs : List HatchLine). All P xs) c.deref.ensures.value all })
    (λ some. record { lines = lines; chords = c.in_ok-lines.ensures; long = λ all. some (subst (λ (xs : List HatchLine). All P xs) (sym c.deref.ensures.value) all) })
