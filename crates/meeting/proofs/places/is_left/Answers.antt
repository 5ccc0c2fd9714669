use Rattle.std.proofs.Common.{sym, ◌∙◌, true≢false}
use Rattle.integers.proofs.Logic.{↔-trans}
use Rattle.meeting.proofs.Products.{heights_test, mixed_test}
use Rattle.meeting.proofs.Through.{upward, downward, falls}
use Rattle.meeting.proofs.places.is_left.Goals as goal

pub returns-then-above : goal.returns-then-above
returns-then-above c =
    let f = c.args.above.now in
    let x = c.args.side.now in
    ↔-trans (mixed_test f.start x.end f.end x.start f.start_small x.end_small f.end_small x.start_small)
    (upward f x ((heights_test f.start f.end f.start_small f.end_small).0 c.if-above.true))

pub returns : goal.returns
returns c =
    let f = c.args.above.now in
    let x = c.args.side.now in
    ↔-trans (mixed_test f.end x.start f.start x.end f.end_small x.start_small f.start_small x.end_small)
    (downward f x (falls f c.requires (λ less. true≢false (sym ((heights_test f.start f.end f.start_small f.end_small).1 less) ∙ c.if-above.false))))
