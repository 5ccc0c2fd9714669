use Rattle.std.proofs.Common.{sym, subst, ◌∙◌}
use Rattle.std.specs.Prelude.{ℤ, ◌-ℤ◌, ◌*ℤ◌}
use Rattle.lattice.specs.Points.{of_dir}
use Rattle.geometry.specs.Counts.{to_left, to_right}
use Rattle.geometry.specs.Turns.{way_from, corner_at, number_at, side_from, HasTurnedAt}
use Rattle.hiding_laws.specs.inner.Perturbations.{TwoAreLeft}
use Rattle.hiding_laws.specs.inner.Tallies.{IsTally}
use Rattle.hiding_laws.proofs.CornerTest.{turned_over, turned_elsewhere}
use Rattle.cross_find.proofs.Passed.{small, turn_passed}
use Rattle.cross_find.proofs.turns.corner_test.Goals as goal

pub returns-in_default-clause-left : goal.returns-in_default-clause-left
returns-in_default-clause-left c e f o at_e at_f at_o =
    let d = of_dir c.args.d.now in
    turned_elsewhere d (number_at e c.args.from.at_b) (corner_at e c.args.from.at_b) (side_from c.args.from.at_b to_left) (way_from d e c.args.from.at_b) (side_from c.args.to.at_b to_left) (way_from d f c.args.to.at_b) o
    (c.in_default.ensures e o at_e at_o)

pub returns-in_default-clause-right : goal.returns-in_default-clause-right
returns-in_default-clause-right c e f o at_e at_f at_o =
    let d = of_dir c.args.d.now in
    turned_elsewhere d (number_at e c.args.from.at_b) (corner_at e c.args.from.at_b) (side_from c.args.from.at_b to_right) (way_from d e c.args.from.at_b) (side_from c.args.to.at_b to_right) (way_from d f c.args.to.at_b) o
    (c.in_default.ensures e o at_e at_o)

pub returns-clause-left : goal.returns-clause-left
returns-clause-left c e f o at_e at_f at_o =
    let d = of_dir c.args.d.now in
    let (over, is_a, is_b) = c.in-Some.ensures e o at_e at_o in
    let k = c.seen_left.ensures in
    let x = c.way_from-x.ensures e at_e in
    let l = c.seen_left-2.ensures in
    let y = c.way_from-y.ensures f at_f in
    let turn = turn_passed c.turn_of-turn.result c.turn_of-turn.ensures.size ∙ c.turn_of-turn.ensures.value o at_o in
    let s = c.share.ensures.share in
    let first = subst (λ (T : Type 0). IsTally T s.first) (λ i. TwoAreLeft (k i) (x i) (l i) (y i) (is_a i)) s.passes_first in
    let second = subst (λ (T : Type 0). IsTally T s.second) (λ i. TwoAreLeft (k i) (x i) (l i) (y i) (is_b i)) s.passes_second in
    subst (λ (z : ℤ). HasTurnedAt to_left d e c.args.from.at_b f c.args.to.at_b o z) (sym (small c.share.result c.share.ensures.size ∙ s.is ∙ (λ i. turn i *ℤ (s.second -ℤ s.first))))
    (turned_over d (number_at e c.args.from.at_b) (corner_at e c.args.from.at_b) (side_from c.args.from.at_b to_left) (way_from d e c.args.from.at_b) (side_from c.args.to.at_b to_left) (way_from d f c.args.to.at_b) o over first second)

pub returns-clause-right : goal.returns-clause-right
returns-clause-right c e f o at_e at_f at_o =
    let d = of_dir c.args.d.now in
    let (over, is_a, is_b) = c.in-Some.ensures e o at_e at_o in
    let k = c.seen_left-3.ensures in
    let x = c.way_from-x.ensures e at_e in
    let l = c.seen_left-4.ensures in
    let y = c.way_from-y.ensures f at_f in
    let turn = turn_passed c.turn_of-turn.result c.turn_of-turn.ensures.size ∙ c.turn_of-turn.ensures.value o at_o in
    let s = c.share-2.ensures.share in
    let first = subst (λ (T : Type 0). IsTally T s.first) (λ i. TwoAreLeft (k i) (x i) (l i) (y i) (is_a i)) s.passes_first in
    let second = subst (λ (T : Type 0). IsTally T s.second) (λ i. TwoAreLeft (k i) (x i) (l i) (y i) (is_b i)) s.passes_second in
    subst (λ (z : ℤ). HasTurnedAt to_right d e c.args.from.at_b f c.args.to.at_b o z) (sym (small c.share-2.result c.share-2.ensures.size ∙ s.is ∙ (λ i. turn i *ℤ (s.second -ℤ s.first))))
    (turned_over d (number_at e c.args.from.at_b) (corner_at e c.args.from.at_b) (side_from c.args.from.at_b to_right) (way_from d e c.args.from.at_b) (side_from c.args.to.at_b to_right) (way_from d f c.args.to.at_b) o over first second)
