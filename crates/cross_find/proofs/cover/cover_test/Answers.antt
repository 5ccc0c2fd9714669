use Rattle.std.proofs.Common.{true≢false, sym, ◌∙◌}
use Rattle.lattice.specs.Points.{of_dir}
use Rattle.geometry.specs.Counts.{to_left, to_right}
use Rattle.cross_find.proofs.Passed.{passed}
use Rattle.cross_find.proofs.Counted.{not_counted, counted, reaches_left, reaches_right}
use Rattle.cross_find.proofs.cover.cover_test.Goals as goal

pub returns-then-not-hides_at-clause-left : goal.returns-then-not-hides_at-clause-left
returns-then-not-hides_at-clause-left c e f at_e at_f =
    let (a, b) = c.ends.ensures e at_e in
    let (x, y, z) = c.corners_of-t.ensures f at_f in
    not_counted (of_dir c.args.d.now) e f c.args.end.at_b _ _ _ _ _ a b x y z (λ h. true≢false (sym (c.hides_at.ensures.1 h) ∙ c.if-not-hides_at.true)) to_left

pub returns-then-not-hides_at-clause-right : goal.returns-then-not-hides_at-clause-right
returns-then-not-hides_at-clause-right c e f at_e at_f =
    let (a, b) = c.ends.ensures e at_e in
    let (x, y, z) = c.corners_of-t.ensures f at_f in
    not_counted (of_dir c.args.d.now) e f c.args.end.at_b _ _ _ _ _ a b x y z (λ h. true≢false (sym (c.hides_at.ensures.1 h) ∙ c.if-not-hides_at.true)) to_right

pub returns-clause-left : goal.returns-clause-left
returns-clause-left c e f at_e at_f =
    let d = of_dir c.args.d.now in
    let (a, b) = c.ends.ensures e at_e in
    let (x, y, z) = c.corners_of-t.ensures f at_f in
    let p = passed c.orientation_of-x.result c.orientation_of-x.ensures.size ∙ c.orientation_of-x.ensures.value in
    let q = passed c.orientation_of-y.result c.orientation_of-y.ensures.size ∙ c.orientation_of-y.ensures.value in
    let r = passed c.orientation_of-z.result c.orientation_of-z.ensures.size ∙ c.orientation_of-z.ensures.value in
    counted d e f c.args.end.at_b _ _ _ _ _ a b x y z (c.hides_at.ensures.0 c.if-not-hides_at.false) to_left c.any_above.result
    (reaches_left d e f c.args.end.at_b _ _ _ _ _ a b x y z _ _ _ p q r c.any_above.result c.any_above.ensures)

pub returns-clause-right : goal.returns-clause-right
returns-clause-right c e f at_e at_f =
    let d = of_dir c.args.d.now in
    let (a, b) = c.ends.ensures e at_e in
    let (x, y, z) = c.corners_of-t.ensures f at_f in
    let p = passed c.orientation_of-x.result c.orientation_of-x.ensures.size ∙ c.orientation_of-x.ensures.value in
    let q = passed c.orientation_of-y.result c.orientation_of-y.ensures.size ∙ c.orientation_of-y.ensures.value in
    let r = passed c.orientation_of-z.result c.orientation_of-z.ensures.size ∙ c.orientation_of-z.ensures.value in
    counted d e f c.args.end.at_b _ _ _ _ _ a b x y z (c.hides_at.ensures.0 c.if-not-hides_at.false) to_right c.any_below.result
    (reaches_right d e f c.args.end.at_b _ _ _ _ _ a b x y z _ _ _ p q r c.any_below.result c.any_below.ensures)
