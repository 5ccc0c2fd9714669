use Rattle.std.proofs.Common.{refl}
use Rattle.std.proofs.lemmas.Bool.{iff_false}
use Rattle.std.proofs.lemmas.Option.{slice_get_read}
use Rattle.stroke_paths.proofs.CornerLemmas.{none_noted, both_noted_by}
use Rattle.stroke_paths.proofs.corners.note_stroke.Goals as goal

pub returns-then-not-may_join : goal.returns-then-not-may_join
returns-then-not-may_join c =
    let strokes = c.args.strokes.now in
    let s = c.index-strokes-i.result in
    none_noted strokes c.args.i s (slice_get_read strokes _ c.args.i s refl c.requires.listed c.index-strokes-i.is) c.args.corners.now c.requires.so_far (iff_false c.may_join.ensures c.if-not-may_join.true)

pub returns : goal.returns
returns c =
    let strokes = c.args.strokes.now in
    let s = c.index-strokes-i.result in
    both_noted_by strokes c.args.i s (slice_get_read strokes _ c.args.i s refl c.requires.listed c.index-strokes-i.is) c.args.corners.now c.requires.so_far (c.may_join.ensures.0 c.if-not-may_join.false)
    c.note.new.corners c.note-2.new.corners c.place_of.result c.place_of-2.result c.place_of.ensures c.place_of-2.ensures c.in_ok-note.ensures c.note-2.result c.note-2.ensures
