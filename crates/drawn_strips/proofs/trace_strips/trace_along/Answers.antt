use Rattle.std.proofs.Common.{rules, ◌≡◌, Bool, false, IsTrue, sym, subst, ap, ◌∙◌}
use Rattle.std.specs.Prelude.{◌<ℤ◌}
use Rattle.lattice.specs.declared.points.Axis.{Axis}
use Rattle.lattice.specs.Cuts.{plane_of}
use Rattle.lattice.specs.Points.{of_dir, point_of}
use Rattle.lattice.specs.Axes.{coordinate_of, third_of}
use Rattle.solid_mesh.specs.Solids.{solid_part}
use Rattle.drawn_strips.specs.Traces.{IsFirstOn, IsLastOn}
use Rattle.drawn_strips.proofs.TraceMade.{trace_there, none_flat}
use Rattle.drawn_strips.proofs.trace_strips.trace_along.Goals as goal

no_truth : (b : Bool) → b ≡ false → IsTrue b → ⊥
no_truth b e t = cc

pub returns-then-not-are_apart-clause-none : goal.returns-then-not-are_apart-clause-none
returns-then-not-are_apart-clause-none c = λ none.
    let s = solid_part c.args.solid.now in
    let run : c.third-run.result ≡ third_of (plane_of c.args.cut.now).axis c.args.sight = c.third-run.ensures ∙ ap (λ (x : Axis). third_of x c.args.sight) c.axis-2.ensures in
    let first = c.ends_on-ends.result.first in
    let last = c.ends_on-ends.result.last in
    none_flat (of_dir c.args.d.now) s (plane_of c.args.cut.now) c.args.sight c.requires first last
    (subst (λ (x : Axis). IsFirstOn x s.corners first) run c.ends_on-ends.ensures.first) (subst (λ (x : Axis). IsLastOn x s.corners last) run c.ends_on-ends.ensures.last)
    (λ less. no_truth c.are_apart.result c.if-not-are_apart.true (c.are_apart.ensures.1 (subst (λ (x : Axis). coordinate_of x (point_of first) <ℤ coordinate_of x (point_of last)) (sym run) less)))

pub trace_strip-requires-clause-has : goal.trace_strip-requires-clause-has
trace_strip-requires-clause-has c =
    let s = solid_part c.args.solid.now in
    let run : c.third-run.result ≡ third_of (plane_of c.args.cut.now).axis c.args.sight = c.third-run.ensures ∙ ap (λ (x : Axis). third_of x c.args.sight) c.axis-2.ensures in
    let first = c.ends_on-ends.result.first in
    let last = c.ends_on-ends.result.last in
    trace_there (of_dir c.args.d.now) s (plane_of c.args.cut.now) c.args.sight c.requires (search rules) (c.is_cut.ensures.0 c.if-not-is_cut.false) first last
    (subst (λ (x : Axis). IsFirstOn x s.corners first) run c.ends_on-ends.ensures.first) (subst (λ (x : Axis). IsLastOn x s.corners last) run c.ends_on-ends.ensures.last)
    (subst (λ (x : Axis). coordinate_of x (point_of first) <ℤ coordinate_of x (point_of last)) run (c.are_apart.ensures.0 c.if-not-are_apart.false))
