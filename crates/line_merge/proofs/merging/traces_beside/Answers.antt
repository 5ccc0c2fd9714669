use Rattle.std.proofs.Common.{List, sym, subst, ◌∙◌}
use Rattle.intervals.specs.declared.interval.Interval.{Interval}
use Rattle.lattice.specs.Points.{of_dir}
use Rattle.line_merge.specs.declared.ends.SeenEnd.{SeenEnd}
use Rattle.line_merge.specs.inner.Ends.{IsLeftOfAll}
use Rattle.line_merge.proofs.Untraced.{none_left}
use Rattle.line_merge.proofs.merging.traces_beside.Goals as goal

pub returns-then-not-has_trace : goal.returns-then-not-has_trace
returns-then-not-has_trace c =
    let d = of_dir c.args.d.now in
    subst (λ (xs : List (Interval SeenEnd)). IsLeftOfAll d c.args.numbered.now c.args.drawn.now xs) (sym c.new.ensures.items)
    (none_left d c.args.numbered.now c.args.drawn.now (sym c.has_trace.ensures ∙ c.if-not-has_trace.true) c.requires.drawn)
