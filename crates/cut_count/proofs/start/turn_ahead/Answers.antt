use Rattle.std.proofs.Common.{◌^◌, ℤ, pos, ◌-ℤ◌, Bool, to_z, of_z, ap, sym, ◌∙◌, ◌+◌, ◌≤◌, unsigned_abs, lit≤}
use Rattle.std.specs.Int.{w128}
use Rattle.integers.proofs.Worth.{Reads, known, minus, pass, fits}
use Rattle.lattice.specs.Cuts.{plane_of, toward_of}
use Rattle.lattice.specs.Points.{of_spot}
use Rattle.cut_count.specs.inner.Borders.{ahead_turn}
use Rattle.cut_count.proofs.SegmentEnds.{small_ends}
use Rattle.cut_count.proofs.start.turn_ahead.Goals as goal

pub corner_side-requires-clause-first : goal.corner_side-requires-clause-first
corner_side-requires-clause-first c = (small_ends c.args.seen.now.cut c.requires.0 c.args.x.now c.requires.1).0

pub corner_side-requires-clause-second : goal.corner_side-requires-clause-second
corner_side-requires-clause-second c = (small_ends c.args.seen.now.cut c.requires.0 c.args.x.now c.requires.1).1

-- the turn, the other way
turned : (z : ℤ) → unsigned_abs z ≤ 2 ^ 93 → Reads (pos 0 -ℤ to_z w128 (of_z w128 z)) (pos 0 -ℤ z) (0 + 2 ^ 93)
turned z h = minus (known (pos 0) 0 (lit≤ tt)) (pass w128 (known z (2 ^ 93) h) tt)

pub overflow_sub-result : goal.overflow_sub-result
overflow_sub-result c = fits w128 (turned c.corner_side.result c.corner_side.ensures.size) tt

pub corner_side-requires-else-at_b-clause-first : goal.corner_side-requires-else-at_b-clause-first
corner_side-requires-else-at_b-clause-first c = (small_ends c.args.seen.now.cut c.requires.0 c.args.x.now c.requires.1).0

pub corner_side-requires-else-at_b-clause-second : goal.corner_side-requires-else-at_b-clause-second
corner_side-requires-else-at_b-clause-second c = (small_ends c.args.seen.now.cut c.requires.0 c.args.x.now c.requires.1).1

pub returns-then-at_b : goal.returns-then-at_b
returns-then-at_b c =
    let seen = c.args.seen.now in
    (pass w128 (turned c.corner_side.result c.corner_side.ensures.size) tt).is
    ∙ ap (λ (v : ℤ). pos 0 -ℤ v) c.corner_side.ensures.value
    ∙ ap (λ (b : Bool). ahead_turn b (toward_of (plane_of seen.cut)) seen.at.a seen.at.b (of_spot c.args.x.now.a) (of_spot c.args.x.now.b)) (sym c.if-at_b.true)

pub returns-else-at_b : goal.returns-else-at_b
returns-else-at_b c =
    let seen = c.args.seen.now in
    (pass w128 (known c.corner_side-else-at_b.result (2 ^ 93) c.corner_side-else-at_b.ensures.size) tt).is
    ∙ c.corner_side-else-at_b.ensures.value
    ∙ ap (λ (b : Bool). ahead_turn b (toward_of (plane_of seen.cut)) seen.at.a seen.at.b (of_spot c.args.x.now.a) (of_spot c.args.x.now.b)) (sym c.if-at_b.false)
