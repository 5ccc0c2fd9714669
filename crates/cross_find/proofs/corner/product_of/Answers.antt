use Rattle.std.proofs.Common.{◌^◌}
use Rattle.std.specs.Int.{w128}
use Rattle.integers.proofs.Worth.{fits, pass, plus, below_of}
use Rattle.cross_find.proofs.CornerSigns.{product_reads}
use Rattle.cross_find.proofs.corner.product_of.Goals as goal

pub overflow_add-result : goal.overflow_add-result
overflow_add-result c = let x = c.args.x.now in let y = c.args.y.now in fits w128 (plus (product_reads x.u y.u x.u_small y.u_small) (product_reads x.v y.v x.v_small y.v_small)) tt

pub returns-clause-value : goal.returns-clause-value
returns-clause-value c = let x = c.args.x.now in let y = c.args.y.now in (pass w128 (plus (product_reads x.u y.u x.u_small y.u_small) (product_reads x.v y.v x.v_small y.v_small)) tt).is

pub returns-clause-size : goal.returns-clause-size
returns-clause-size c = let x = c.args.x.now in let y = c.args.y.now in below_of (2 ^ 62) (pass w128 (plus (product_reads x.u y.u x.u_small y.u_small) (product_reads x.v y.v x.v_small y.v_small)) tt) tt
