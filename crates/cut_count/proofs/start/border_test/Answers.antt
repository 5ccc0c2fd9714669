use Rattle.std.proofs.Common.{inl, inr, FitsSigned, to_z, of_z, ap, sym, ◌∙◌, rules}
use Rattle.std.specs.Int.{w8, w128}
use Rattle.std.proofs.lemmas.Int.{to_z-of_z}
use Rattle.lattice.specs.Cuts.{plane_of, toward_of}
use Rattle.lattice.specs.Points.{of_spot}
use Rattle.geometry.specs.Counts.{to_left, to_right}
use Rattle.solid_mesh.specs.Solids.{solid_part}
use Rattle.cut_count.proofs.BorderTests.{mark_read, ahead_is, none_ahead, unchanged_at}
use Rattle.cut_count.proofs.SegmentEnds.{small_ends}
use Rattle.cut_count.proofs.start.border_test.Goals as goal
use Rattle.cut_count.proofs.start.border_test.Goals.{else-left_mark-via-then-left_mark+else-right_mark, else-left_mark-via-else-left_mark}

pub side-from-requires : goal.side-from-requires
side-from-requires c = (small_ends c.args.seen.now.cut (solid_part c.args.solid.now) c.args.x.now c.requires.segment).0

pub side-to-requires : goal.side-to-requires
side-to-requires c = (small_ends c.args.seen.now.cut (solid_part c.args.solid.now) c.args.x.now c.requires.segment).1

pub returns-then-right_mark-clause-left : goal.returns-then-right_mark-clause-left
returns-then-right_mark-clause-left c =
    let seen = c.args.seen.now in
    let from : FitsSigned w128 c.side-from.result = search rules in
    let to : FitsSigned w128 c.side-to.result = search rules in
    let none = none_ahead to_left (toward_of (plane_of seen.cut)) seen.at.a seen.at.b (of_spot c.args.x.now.a) (of_spot c.args.x.now.b) _ _
    (mark_read to_left c.left_mark.result c.side-from.result _ c.left_mark.ensures.size c.left_mark.ensures.value from c.side-from.ensures)
    (mark_read to_left c.left_mark-2.result c.side-to.result _ c.left_mark-2.ensures.size c.left_mark-2.ensures.value to c.side-to.ensures)
    c.args.at_b (ap (to_z w8) c.if-left_mark.true) in
    ((λ h. cc), (λ h. absurd (none h)))

pub returns-then-right_mark-clause-right : goal.returns-then-right_mark-clause-right
returns-then-right_mark-clause-right c =
    let seen = c.args.seen.now in
    let from : FitsSigned w128 c.side-from.result = search rules in
    let to : FitsSigned w128 c.side-to.result = search rules in
    let none = none_ahead to_right (toward_of (plane_of seen.cut)) seen.at.a seen.at.b (of_spot c.args.x.now.a) (of_spot c.args.x.now.b) _ _
    (mark_read to_right c.right_mark.result c.side-from.result _ c.right_mark.ensures.size c.right_mark.ensures.value from c.side-from.ensures)
    (mark_read to_right c.right_mark-then-left_mark.result c.side-to.result _ c.right_mark-then-left_mark.ensures.size c.right_mark-then-left_mark.ensures.value to c.side-to.ensures)
    c.args.at_b (ap (to_z w8) c.if-right_mark.true) in
    ((λ h. cc), (λ h. absurd (none h)))

pub returns-then-right_mark-clause-found : goal.returns-then-right_mark-clause-found
returns-then-right_mark-clause-found c e f numbered number n m up between changes crosses =
    let seen = c.args.seen.now in
    let plane = plane_of seen.cut in
    let ends = c.requires.ends e numbered in
    let from : FitsSigned w128 c.side-from.result = search rules in
    let to : FitsSigned w128 c.side-to.result = search rules in
    let on_left = unchanged_at to_left plane e seen.at.a seen.at.b ends.0 ends.1 (of_spot c.args.x.now.a) (of_spot c.args.x.now.b) _ _
    (mark_read to_left c.left_mark.result c.side-from.result _ c.left_mark.ensures.size c.left_mark.ensures.value from c.side-from.ensures)
    (mark_read to_left c.left_mark-2.result c.side-to.result _ c.left_mark-2.ensures.size c.left_mark-2.ensures.value to c.side-to.ensures)
    (ap (to_z w8) c.if-left_mark.true) in
    let on_right = unchanged_at to_right plane e seen.at.a seen.at.b ends.0 ends.1 (of_spot c.args.x.now.a) (of_spot c.args.x.now.b) _ _
    (mark_read to_right c.right_mark.result c.side-from.result _ c.right_mark.ensures.size c.right_mark.ensures.value from c.side-from.ensures)
    (mark_read to_right c.right_mark-then-left_mark.result c.side-to.result _ c.right_mark-then-left_mark.ensures.size c.right_mark-then-left_mark.ensures.value to c.side-to.ensures)
    (ap (to_z w8) c.if-right_mark.true) in
    elim changes [
      | inl h ↦ h on_left
      | inr h ↦ h on_right
    ]

pub turn_ahead-turn-requires : goal.turn_ahead-turn-requires
turn_ahead-turn-requires c = (solid_part c.args.solid.now, c.requires.segment)

pub found_at-requires-clause-from : goal.found_at-requires-clause-from
found_at-requires-clause-from c =
    let from : FitsSigned w128 c.side-from.result = search rules in
    to_z-of_z w128 c.side-from.result from ∙ c.side-from.ensures

pub found_at-requires-clause-to : goal.found_at-requires-clause-to
found_at-requires-clause-to c =
    let to : FitsSigned w128 c.side-to.result = search rules in
    to_z-of_z w128 c.side-to.result to ∙ c.side-to.ensures

pub found_at-requires-clause-changes : goal.found_at-requires-clause-changes
found_at-requires-clause-changes c = elim c.else-left_mark.branch [
  | else-left_mark-via-then-left_mark+else-right_mark w ↦ inr (λ e. w.if-right_mark.false (ap (of_z w8) (w.right_mark.ensures.value ∙ e ∙ sym w.right_mark-then-left_mark.ensures.value)))
  | else-left_mark-via-else-left_mark w ↦ inl (λ e. w.if-left_mark.false (ap (of_z w8) (c.left_mark.ensures.value ∙ e ∙ sym c.left_mark-2.ensures.value)))
]

pub returns-clause-left : goal.returns-clause-left
returns-clause-left c =
    let seen = c.args.seen.now in
    let from : FitsSigned w128 c.side-from.result = search rules in
    let to : FitsSigned w128 c.side-to.result = search rules in
    let turn : FitsSigned w128 c.turn_ahead-turn.result = search rules in
    ahead_is to_left (toward_of (plane_of seen.cut)) seen.at.a seen.at.b (of_spot c.args.x.now.a) (of_spot c.args.x.now.b) _ _
    (mark_read to_left c.left_mark-3.result c.side-from.result _ c.left_mark-3.ensures.size c.left_mark-3.ensures.value from c.side-from.ensures)
    (mark_read to_left c.left_mark-4.result c.side-to.result _ c.left_mark-4.ensures.size c.left_mark-4.ensures.value to c.side-to.ensures)
    c.args.at_b _ c.is_ahead.result (to_z-of_z w128 c.turn_ahead-turn.result turn ∙ c.turn_ahead-turn.ensures) c.is_ahead.ensures

pub returns-clause-right : goal.returns-clause-right
returns-clause-right c =
    let seen = c.args.seen.now in
    let from : FitsSigned w128 c.side-from.result = search rules in
    let to : FitsSigned w128 c.side-to.result = search rules in
    let turn : FitsSigned w128 c.turn_ahead-turn.result = search rules in
    ahead_is to_right (toward_of (plane_of seen.cut)) seen.at.a seen.at.b (of_spot c.args.x.now.a) (of_spot c.args.x.now.b) _ _
    (mark_read to_right c.right_mark-2.result c.side-from.result _ c.right_mark-2.ensures.size c.right_mark-2.ensures.value from c.side-from.ensures)
    (mark_read to_right c.right_mark-3.result c.side-to.result _ c.right_mark-3.ensures.size c.right_mark-3.ensures.value to c.side-to.ensures)
    c.args.at_b _ c.is_ahead-2.result (to_z-of_z w128 c.turn_ahead-turn.result turn ∙ c.turn_ahead-turn.ensures) c.is_ahead-2.ensures

pub returns-clause-found : goal.returns-clause-found
returns-clause-found c = c.found_at.ensures
