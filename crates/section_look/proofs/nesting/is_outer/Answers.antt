use Rattle.std.proofs.Common.{◌↔◌, List, Vec, Global, subst}
use Rattle.std.specs.Prelude.{IsTrue, All}
use Rattle.lattice.specs.Points.{of_dir}
use Rattle.cut_plane.proofs.Lists.{not_true}
use Rattle.cut_plane.specs.declared.segments.Segment.{Segment}
use Rattle.section_look.specs.Regions.{IsIn, lists_of}
use Rattle.section_look.proofs.Nested.{inner_before, after_decide}
use Rattle.section_look.proofs.nesting.is_outer.Goals as goal

pub returns-then-not-is_in_none : goal.returns-then-not-is_in_none
returns-then-not-is_in_none c =
    inner_before (of_dir c.args.d.now) c.args.loops.now c.args.k c.index-loops-k.result c.requires c.index-loops-k.is c.as_slice-this.result.now c.as_slice-this.ensures.value
    (λ all. not_true c.is_in_none.result c.if-not-is_in_none.true (c.is_in_none.ensures.1 all))

pub returns : goal.returns
returns c =
    after_decide (of_dir c.args.d.now) c.args.loops.now c.args.k c.index-loops-k.result c.requires c.index-loops-k.is c.as_slice-this.result.now c.as_slice-this.ensures.value
    (c.is_in_none.ensures.0 c.if-not-is_in_none.false) c.is_in_none-2.result
    (subst (λ (vs : List (Vec Segment Global)). IsTrue c.is_in_none-2.result ↔ All (λ other. ¬ IsIn (of_dir c.args.d.now) c.as_slice-this.result.now other) (lists_of vs)) c.after.ensures c.is_in_none-2.ensures)
