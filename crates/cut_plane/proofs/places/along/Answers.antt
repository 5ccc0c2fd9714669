use Rattle.std.proofs.Common.{◌∙◌, ◌^◌}
use Rattle.std.specs.Prelude.{◌+ℤ◌, ◌-ℤ◌, ◌*ℤ◌}
use Rattle.std.specs.Int.{w64, w128}
use Rattle.integers.proofs.Worth.{known, below, pass, minus, size_of}
use Rattle.lattice.specs.Points.{point_of, across_of, upward_of}
use Rattle.lattice.specs.Cuts.{plane_of, toward_of}
use Rattle.cut_plane.proofs.EdgeValues.{by_one_divisor, value_after}
use Rattle.cut_plane.proofs.places.along.Goals as goal

pub change-requires-clause-first : goal.change-requires-clause-first
change-requires-clause-first c =
    let a = pass w64 (known c.seen_corner-a.result.across (2 ^ 20) c.seen_corner-a.ensures.size.x) tt in
    let b = pass w64 (known c.seen_corner-b.result.across (2 ^ 20) c.seen_corner-b.ensures.size.x) tt in
    size_of (2 ^ 21) (pass w64 (minus b a) tt) tt

pub change-requires-clause-second : goal.change-requires-clause-second
change-requires-clause-second c =
    let a = pass w64 (known c.seen_corner-a.result.upward (2 ^ 20) c.seen_corner-a.ensures.size.y) tt in
    let b = pass w64 (known c.seen_corner-b.result.upward (2 ^ 20) c.seen_corner-b.ensures.size.y) tt in
    size_of (2 ^ 21) (pass w64 (minus b a) tt) tt

pub returns-clause-start : goal.returns-clause-start
returns-clause-start c =
    let line = c.args.line.now in
    let u = (pass w64 (known c.seen_corner-a.result.across (2 ^ 20) c.seen_corner-a.ensures.size.x) tt).is ∙ c.seen_corner-a.ensures.across in
    let v = (pass w64 (known c.seen_corner-a.result.upward (2 ^ 20) c.seen_corner-a.ensures.size.y) tt).is ∙ c.seen_corner-a.ensures.upward in
    (pass w128 (below c.value.result (2 ^ 68) c.value.ensures.size) tt).is ∙ c.value.ensures.value ∙ (λ i. ((line.a *ℤ u i) +ℤ (line.b *ℤ v i)) -ℤ line.c) ∙ by_one_divisor _ line.c

pub returns-clause-end : goal.returns-clause-end
returns-clause-end c =
    let line = c.args.line.now in
    let d = toward_of (plane_of c.args.cut.now) in
    let p = point_of c.args.a.now in
    let q = point_of c.args.b.now in
    let across = pass w64 (known c.seen_corner-a.result.across (2 ^ 20) c.seen_corner-a.ensures.size.x) tt in
    let upward = pass w64 (known c.seen_corner-a.result.upward (2 ^ 20) c.seen_corner-a.ensures.size.y) tt in
    let across_too = pass w64 (known c.seen_corner-b.result.across (2 ^ 20) c.seen_corner-b.ensures.size.x) tt in
    let upward_too = pass w64 (known c.seen_corner-b.result.upward (2 ^ 20) c.seen_corner-b.ensures.size.y) tt in
    let u = across.is ∙ c.seen_corner-a.ensures.across in
    let v = upward.is ∙ c.seen_corner-a.ensures.upward in
    let du = (pass w64 (minus across_too across) tt).is ∙ (λ i. c.seen_corner-b.ensures.across i -ℤ c.seen_corner-a.ensures.across i) in
    let dv = (pass w64 (minus upward_too upward) tt).is ∙ (λ i. c.seen_corner-b.ensures.upward i -ℤ c.seen_corner-a.ensures.upward i) in
    let value = (pass w128 (below c.value.result (2 ^ 68) c.value.ensures.size) tt).is ∙ c.value.ensures.value ∙ (λ i. ((line.a *ℤ u i) +ℤ (line.b *ℤ v i)) -ℤ line.c) in
    let change = (pass w128 (known c.change.result (2 ^ 66) c.change.ensures.size) tt).is ∙ c.change.ensures.value ∙ (λ i. (line.a *ℤ du i) +ℤ (line.b *ℤ dv i)) in
    (λ i. value i +ℤ change i) ∙ value_after line.a line.b line.c (across_of d p) (upward_of d p) (across_of d q) (upward_of d q)
