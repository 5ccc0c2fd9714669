use Rattle.std.proofs.Common.{true≢false, sym, ap, ◌∙◌}
use Rattle.std.specs.Ordering.{is_lt}
use Rattle.lattice.specs.Points.{of_dir}
use Rattle.line_merge.proofs.EndOrders.{turned_interval}
use Rattle.line_merge.proofs.ends.interval_of.Goals as goal

pub returns-else-lt : goal.returns-else-lt
returns-else-lt c =
    turned_interval (of_dir c.args.d.now) c.args.numbered.now c.new-a.result c.new-b.result c.requires c.new-a.ensures c.new-b.ensures
    (λ e. true≢false (sym (ap is_lt e) ∙ sym c.lt.ensures ∙ c.if-lt.false))
