use Rattle.std.specs.List.{filter}
use Rattle.lattice.specs.Points.{of_dir}
use Rattle.line_merge.specs.declared.numbering.Numbered.{Numbered}
use Rattle.line_merge.specs.inner.Kinds.{is_up_to}
use Rattle.line_merge.proofs.Given.{given_proper}
use Rattle.line_merge.proofs.merging.united_up_to.Goals as goal

pub united-requires : goal.united-requires
united-requires c =
    given_proper (of_dir c.args.d.now) (filter (λ (x : Numbered). is_up_to c.args.last x.strip.kind) c.args.numbered.now) c.in_ok-intervals_up_to.field-0.items c.in_ok-intervals_up_to.ensures
