use Rattle.std.proofs.Common.{refl, sym, ◌∙◌, arith, below_more}
use Rattle.geometry.specs.Parts.{part_of}
use Rattle.solid_mesh.proofs.DoubleLemmas.{double_fault, earlier_twins, none_double}
use Rattle.solid_mesh.proofs.doubles.find_double.Goals as goal
use Rattle.solid_mesh.proofs.doubles.find_double.Goals.{else-first-second-via-then-first-second+else-twins-side, else-first-second-via-else-first-second}

pub returns-then-twins-side : goal.returns-then-twins-side
returns-then-twins-side c =
    double_fault (part_of c.args.soup.now) c.args.soup.now.in_range c.requires.closed c.args.twins.now c.requires.twins _ c.loop-second.second c.if-first-second.true (omega (arith, c.args.soup.now.triangles.ok.0)) refl
    c.if-twins-side.true c.loop-second.invariant

pub loop-second-preserved : goal.loop-second-preserved
loop-second-preserved c = below_more _ _ c.loop-second.invariant (λ (i, h).
    let (first, second) = earlier_twins (part_of c.args.soup.now) c.args.soup.now.in_range c.requires.closed c.args.twins.now c.requires.twins i c.loop-second.second h in
    elim c.else-first-second.branch [
      | else-first-second-via-then-first-second+else-twins-side w ↦ w.if-twins-side.false (second ∙ sym first)
      | else-first-second-via-else-first-second w ↦ omega (arith, first, h.0)
    ])

pub returns : goal.returns
returns c =
    none_double (part_of c.args.soup.now) (λ k within. c.loop-second.invariant k (omega (arith, c.args.soup.now.triangles.ok.0)))
