use Rattle.std.proofs.Common.{sym, subst}
use Rattle.lattice.specs.Points.{Point, of_dir}
use Rattle.lattice.specs.Lines.{IsOnLine}
use Rattle.lattice.proofs.OnLines.{strip_seen}
use Rattle.test_parts.proofs.merges.strip.Goals as goal

pub invariant_of-result : goal.invariant_of-result
invariant_of-result c =
    let on : Point → Type 0 = λ x. IsOnLine (of_dir c.args.d.now) c.through-line.result x in
    record {
      seen = strip_seen c.args.d.now c.through-line.result c.at-a.result c.at-b.result
          (subst on (sym c.at-a.ensures) c.through-line.ensures.first)
          (subst on (sym c.at-b.ensures) c.through-line.ensures.second)
          (λ same. let seen = c.if-same_sight.ensures.sight.1 same in cc);
    }
