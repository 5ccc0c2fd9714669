use Rattle.std.proofs.Common.{refl, sym, subst}
use Rattle.std.proofs.lemmas.Grind.{merely}
use Rattle.lattice.specs.Lines.{AreStripEnds}
use Rattle.lattice.specs.Triple.{Triple}
use Rattle.drawn_strips.proofs.BorderStrips.{segment_ends, dir_toward}
use Rattle.drawn_strips.proofs.border_strips.border_strip.Goals as goal

pub invariant_of-result : goal.invariant_of-result
invariant_of-result c =
    let (plane, s, closed, is) = c.requires in
    let (d, same) = dir_toward plane.axis plane.from_high in
    let x = c.args.segment.now in
    record { seen = merely (d, subst (λ (v : Triple). AreStripEnds v x.line x.a x.b) (sym same) (segment_ends plane s closed x is)) }

pub returns : goal.returns
returns c = record { line = refl; from = refl; to = refl; kind = refl }
