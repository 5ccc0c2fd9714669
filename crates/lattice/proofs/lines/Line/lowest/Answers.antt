use Rattle.std.proofs.Common.{rules, arith, sym, FitsSigned}
use Rattle.std.specs.Int.{w128}
use Rattle.std.proofs.lemmas.Int.{to_z-of_z}
use Rattle.lattice.proofs.LowestTerms.{quotients}
use Rattle.lattice.proofs.lines.Line.lowest.Goals as goal

pub invariant_of-result : goal.invariant_of-result
invariant_of-result c =
    let a_fits = c.ranges.a in
    let b_fits = c.ranges.b in
    let c_fits = c.ranges.c in
    let g_fits : FitsSigned w128 c.leading_divisor-divisor.result = search rules in
    let q = quotients c.args.a c.args.b c.args.c c.leading_divisor-divisor.result c.requires.first c.requires.second c.requires.third (simp to_z-of_z at c.leading_divisor-divisor.ensures) in
    let first = q.a_fits in
    let second = q.b_fits in
    let third = q.c_fits in
    record {
      a_in_range = simp to_z-of_z (omega (arith, q.a_size));
      b_in_range = simp to_z-of_z (omega (arith, q.b_size));
      c_in_range = simp to_z-of_z (omega (arith, q.c_size));
      leads = simp to_z-of_z q.leads;
      lowest = simp to_z-of_z q.lowest;
    }

pub returns : goal.returns
returns c =
    let a_fits = c.ranges.a in
    let b_fits = c.ranges.b in
    let c_fits = c.ranges.c in
    let g_fits : FitsSigned w128 c.leading_divisor-divisor.result = search rules in
    let q = quotients c.args.a c.args.b c.args.c c.leading_divisor-divisor.result c.requires.first c.requires.second c.requires.third (simp to_z-of_z at c.leading_divisor-divisor.ensures) in
    let first = q.a_fits in
    let second = q.b_fits in
    let third = q.c_fits in
    record {
      n = c.leading_divisor-divisor.result;
      somewhere = q.counts;
      a = simp to_z-of_z (sym q.a_exact);
      b = simp to_z-of_z (sym q.b_exact);
      c = simp to_z-of_z (sym q.c_exact);
    }
