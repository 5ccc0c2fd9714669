use Rattle.std.proofs.Common.{◌^◌}
use Rattle.std.specs.Int.{w128}
use Rattle.integers.proofs.Worth.{fits, pass, minus, below_of}
use Rattle.cross_find.proofs.CornerSigns.{product_reads}
use Rattle.cross_find.proofs.corner.turn_from.Goals as goal

pub overflow_sub-result : goal.overflow_sub-result
overflow_sub-result c = let x = c.args.x.now in let y = c.args.y.now in fits w128 (minus (product_reads x.u y.v x.u_small y.v_small) (product_reads x.v y.u x.v_small y.u_small)) tt

pub returns-clause-value : goal.returns-clause-value
returns-clause-value c = let x = c.args.x.now in let y = c.args.y.now in (pass w128 (minus (product_reads x.u y.v x.u_small y.v_small) (product_reads x.v y.u x.v_small y.u_small)) tt).is

pub returns-clause-size : goal.returns-clause-size
returns-clause-size c = let x = c.args.x.now in let y = c.args.y.now in below_of (2 ^ 62) (pass w128 (minus (product_reads x.u y.v x.u_small y.v_small) (product_reads x.v y.u x.v_small y.u_small)) tt) tt
