use Rattle.std.proofs.Common.{List, map, sym, subst, ◌∙◌, true≢false}
use Rattle.lattice.specs.Points.{of_corner}
use Rattle.lattice.specs.Triple.{Triple}
use Rattle.off_reader.specs.Fans.{corners_at, IsTurnedAs}
use Rattle.off_reader.proofs.Seen.{triangle_at, all_triangles, seen_none, seen_turned, seen_repeat, unseen, seen_all}
use Rattle.off_reader.proofs.fan.sees_whole.Goals as goal
use Rattle.off_reader.proofs.fan.sees_whole.Goals.{then-is_turned_as, else-is_turned_as+else-not-has_two_equal}

pub loop-i-init : goal.loop-i-init
loop-i-init c = seen_none _ _

pub loop-i-preserved : goal.loop-i-preserved
loop-i-preserved c =
    let vertices : List Triple = map of_corner c.args.vertices.now in
    let numbers = c.args.numbers.now in
    let corners = corners_at vertices numbers in
    let a = of_corner c.corner_at-a.result in
    let b = of_corner c.corner_at-b.result in
    let d = of_corner c.corner_at-c.result in
    let at = triangle_at vertices numbers c.args.j c.requires.place c.loop-i.i c.loop-i-test.true a b d c.corner_at-a.ensures c.corner_at-b.ensures c.corner_at-c.ensures in
    elim c.if-is_turned_as.branch [
      | then-is_turned_as w ↦ rw w.some-is (seen_turned corners c.args.j c.loop-i.i (a, b, d) at c.loop-i.some
          (subst (λ (t : Triple). IsTurnedAs t a b d) c.requires.area (c.is_turned_as.ensures.0 w.if-is_turned_as.true)) c.loop-i.invariant)
      | else-is_turned_as+else-not-has_two_equal w ↦ rw w.some-is (seen_repeat corners c.args.j c.loop-i.i (a, b, d) at c.loop-i.some
          (λ turned. true≢false (sym (c.is_turned_as.ensures.1 (subst (λ (t : Triple). IsTurnedAs t a b d) (sym c.requires.area) turned)) ∙ w.if-is_turned_as.false))
          (w.has_two_equal.ensures.0 w.if-not-has_two_equal.false) c.loop-i.invariant)
    ]

pub returns-then-not-has_two_equal : goal.returns-then-not-has_two_equal
returns-then-not-has_two_equal c =
    let vertices : List Triple = map of_corner c.args.vertices.now in
    let numbers = c.args.numbers.now in
    let corners = corners_at vertices numbers in
    let a = of_corner c.corner_at-a.result in
    let b = of_corner c.corner_at-b.result in
    let d = of_corner c.corner_at-c.result in
    let at = triangle_at vertices numbers c.args.j c.requires.place c.loop-i.i c.loop-i-test.true a b d c.corner_at-a.ensures c.corner_at-b.ensures c.corner_at-c.ensures in (
      (λ e. absurd (true≢false (sym e))),
      (λ sees. absurd (unseen corners c.args.j c.loop-i.i (a, b, d) at
          (λ turned. true≢false (sym (c.is_turned_as.ensures.1 (subst (λ (t : Triple). IsTurnedAs t a b d) (sym c.requires.area) turned)) ∙ c.if-is_turned_as.false))
          (λ repeats. true≢false (sym (c.has_two_equal.ensures.1 repeats) ∙ c.if-not-has_two_equal.true))
          sees)),
    )

pub returns : goal.returns
returns c =
    let vertices : List Triple = map of_corner c.args.vertices.now in
    let numbers = c.args.numbers.now in
    seen_all (corners_at vertices numbers) c.args.j c.loop-i.i c.loop-i.some (all_triangles vertices numbers c.args.j c.requires.place c.requires.some c.loop-i.i c.loop-i-test.false) c.loop-i.invariant
