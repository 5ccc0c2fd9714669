use Rattle.std.proofs.Common.{◌≡◌, ℕ, inl, inr, length, take, subst, arith}
use Rattle.std.specs.List.{AllZip}
use Rattle.lattice.specs.Points.{of_dir}
use Rattle.piece_verify.specs.Stands.{StandsFor}
use Rattle.piece_verify.proofs.Unlike.{lesser, more, unlike, alike, ended}
use Rattle.piece_verify.proofs.compare.first_unlike.Goals as goal

pub returns-then-not-stands_for : goal.returns-then-not-stands_for
returns-then-not-stands_for c =
    let both = lesser c.min-both.result (length c.args.given.now) (length c.args.pieces.now) c.min-both.ensures in
    unlike (of_dir c.args.d.now) c.args.given.now c.args.pieces.now c.loop-place.place c.index-given-place.result c.index-pieces-place.result
    (omega (arith, c.loop-place-test.true, both.first)) (omega (arith, c.loop-place-test.true, both.second)) c.index-given-place.is c.index-pieces-place.is c.loop-place.invariant
    (λ stands. let t = c.stands_for.ensures.1 stands in let f = c.if-not-stands_for.true in cc)

pub loop-place-preserved : goal.loop-place-preserved
loop-place-preserved c =
    let both = lesser c.min-both.result (length c.args.given.now) (length c.args.pieces.now) c.min-both.ensures in
    more (of_dir c.args.d.now) c.args.given.now c.args.pieces.now c.loop-place.place c.index-given-place.result c.index-pieces-place.result
    (omega (arith, c.loop-place-test.true, both.first)) (omega (arith, c.loop-place-test.true, both.second)) c.index-given-place.is c.index-pieces-place.is c.loop-place.invariant
    (c.stands_for.ensures.0 c.if-not-stands_for.false)

pub returns-then-given-pieces : goal.returns-then-given-pieces
returns-then-given-pieces c =
    let both = lesser c.min-both.result (length c.args.given.now) (length c.args.pieces.now) c.min-both.ensures in
    alike (of_dir c.args.d.now) c.args.given.now c.args.pieces.now c.loop-place.place c.if-given-pieces.true
    (elim both.one [ inl h ↦ omega (arith, h, c.loop-place-test.false) | inr h ↦ omega (arith, h, c.loop-place-test.false, c.if-given-pieces.true) ]) c.loop-place.invariant

pub returns-else-given-pieces : goal.returns-else-given-pieces
returns-else-given-pieces c =
    let both = lesser c.min-both.result (length c.args.given.now) (length c.args.pieces.now) c.min-both.ensures in
    let here : c.loop-place.place ≡ c.min-both.result = omega (arith, c.loop-place.auto.place-end, c.loop-place-test.false) in
    ended (of_dir c.args.d.now) c.args.given.now c.args.pieces.now c.min-both.result both.first both.second both.one c.if-given-pieces.false
    (subst (λ (k : ℕ). AllZip (StandsFor (of_dir c.args.d.now)) (take k c.args.given.now) (take k c.args.pieces.now)) here c.loop-place.invariant)
