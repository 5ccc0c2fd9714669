use Rattle.std.proofs.Common.{◌<◌, Some, length, refl, sym, ap, subst, ◌∙◌, arith}
use Rattle.std.proofs.lemmas.Option.{slice_get_read, slice_get-get_or}
use Rattle.stroke_paths.specs.inner.Tables.{IsJoint}
use Rattle.stroke_paths.proofs.JoinedLemmas.{loose_nowhere, loose_here, joint_here}
use Rattle.stroke_paths.proofs.joint.find_partner.Goals as goal

pub returns-in_err-corner : goal.returns-in_err-corner
returns-in_err-corner c =
    let strokes = c.args.strokes.now in
    let s = c.index-strokes-end.result in
    let listed = slice_get_read strokes _ c.args.end.stroke s refl c.requires.listed c.index-strokes-end.is in
    subst (IsJoint strokes c.args.end) (sym c.from_residual.ensures)
    (loose_nowhere strokes c.args.corners.now c.requires.corners c.args.pairs.now c.requires.pairs c.args.end s listed (c.may_join.ensures.0 c.if-not-may_join.false) c.place_of.result c.place_of.ensures c.in_err-corner.ensures.found)

pub returns-in_err-pairs : goal.returns-in_err-pairs
returns-in_err-pairs c =
    let strokes = c.args.strokes.now in
    let pairs = c.args.pairs.now in
    let s = c.index-strokes-end.result in
    let n = c.in_ok-corner.corner in
    let listed = slice_get_read strokes _ c.args.end.stroke s refl c.requires.listed c.index-strokes-end.is in
    let within : n < length pairs = omega (arith, c.in_ok-corner.ensures.within, c.requires.pairs.as_many) in
    subst (IsJoint strokes c.args.end) (sym c.from_residual-in_err-pairs.ensures)
    (loose_here strokes c.args.corners.now c.requires.corners pairs c.requires.pairs c.args.end s listed (c.may_join.ensures.0 c.if-not-may_join.false) c.place_of.result c.place_of.ensures n c.in_ok-corner.ensures.value
    c.in_ok-corner.ensures.found (slice_get-get_or pairs n _ within ∙ ap Some c.in_err-pairs.was))

pub returns : goal.returns
returns c =
    let strokes = c.args.strokes.now in
    let pairs = c.args.pairs.now in
    let s = c.index-strokes-end.result in
    let n = c.in_ok-corner.corner in
    let listed = slice_get_read strokes _ c.args.end.stroke s refl c.requires.listed c.index-strokes-end.is in
    let within : n < length pairs = omega (arith, c.in_ok-corner.ensures.within, c.requires.pairs.as_many) in
    joint_here strokes c.args.corners.now c.requires.corners pairs c.requires.pairs c.args.end s listed (c.may_join.ensures.0 c.if-not-may_join.false) c.place_of.result c.place_of.ensures n c.in_ok-corner.ensures.value
    c.in_ok-corner.ensures.found c.in_ok-pairs.field-0 (slice_get-get_or pairs n _ within ∙ ap Some c.in_ok-pairs.was) c.other_end.result c.other_end.ensures
