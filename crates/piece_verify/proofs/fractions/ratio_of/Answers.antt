use Rattle.std.proofs.Common.{to_z, FitsSigned, rules}
use Rattle.std.specs.Int.{w128}
use Rattle.piece_verify.proofs.Ratios.{no_ratio, is_ratio, kept, kept_natural}
use Rattle.piece_verify.proofs.fractions.ratio_of.Goals as goal

pub returns-then-gcd-ne1 : goal.returns-then-gcd-ne1
returns-then-gcd-ne1 c =
    let same = kept c.args.num c.requires in
    let den = kept_natural c.args.den c.if-den-ge-END.false in
    let divisor = rw same at c.gcd.ensures in
    no_ratio c.args.num (to_z w128 c.args.den) c.args.den c.gcd.result den divisor c.if-gcd-ne1.true

pub returns : goal.returns
returns c =
    let same = kept c.args.num c.requires in
    let den = kept_natural c.args.den c.if-den-ge-END.false in
    let divisor = rw same at c.gcd.ensures in
    let within : FitsSigned w128 c.gcd.result = search rules in
    (is_ratio c.args.num (to_z w128 c.args.den) c.args.den c.gcd.result c.if-den-lt2.false c.if-den-ge-END.false den divisor c.if-gcd-ne1.false within, same, den)
