use Rattle.std.proofs.Common.{◌^◌, arith}
use Rattle.std.specs.Prelude.{pos}
use Rattle.std.specs.Int.{w128}
use Rattle.std.proofs.lemmas.Option.{IfSome_then}
use Rattle.integers.proofs.Worth.{known, below, pass, minus}
use Rattle.cut_plane.proofs.EdgeValues.{if_none, rises, falls, rising_none, falling_found, falling_none}
use Rattle.cut_plane.proofs.places.root.Goals as goal

pub returns-then-linear-gt0-clause-none : goal.returns-then-linear-gt0-clause-none
returns-then-linear-gt0-clause-none c =
    let v = c.args.linear in
    let start = (pass w128 (minus (known (pos 0) 0 (omega arith)) (pass w128 (below v.start (2 ^ 68) v.start_small) tt)) tt).is in
    let change = (pass w128 (known v.change (2 ^ 66) v.change_small) tt).is in
    if_none c.on_edge.result (rising_none v.start v.change (rises v.change v.change_small c.if-linear-gt0.true) _ _ start change) c.on_edge.ensures.none

pub returns-then-linear-lt0-clause-some : goal.returns-then-linear-lt0-clause-some
returns-then-linear-lt0-clause-some c =
    let v = c.args.linear in
    let start = (pass w128 (below v.start (2 ^ 68) v.start_small) tt).is in
    let change = (pass w128 (minus (known (pos 0) 0 (omega arith)) (pass w128 (known v.change (2 ^ 66) v.change_small) tt)) tt).is in
    IfSome_then c.on_edge-then-linear-lt0.result c.on_edge-then-linear-lt0.ensures.some (falling_found v.start v.change (falls v.change v.change_small c.if-linear-lt0.true) _ _ start change)

pub returns-then-linear-lt0-clause-none : goal.returns-then-linear-lt0-clause-none
returns-then-linear-lt0-clause-none c =
    let v = c.args.linear in
    let start = (pass w128 (below v.start (2 ^ 68) v.start_small) tt).is in
    let change = (pass w128 (minus (known (pos 0) 0 (omega arith)) (pass w128 (known v.change (2 ^ 66) v.change_small) tt)) tt).is in
    if_none c.on_edge-then-linear-lt0.result (falling_none v.start v.change (falls v.change v.change_small c.if-linear-lt0.true) _ _ start change) c.on_edge-then-linear-lt0.ensures.none
