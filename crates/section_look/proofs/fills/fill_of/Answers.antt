use Rattle.std.proofs.Common.{List, subst, Vec, Global}
use Rattle.cut_plane.specs.declared.segments.Segment.{Segment}
use Rattle.section_look.specs.Looks.{AreOutlines}
use Rattle.section_look.proofs.fills.fill_of.Goals as goal

pub returns : goal.returns
returns c place at = subst (λ (xs : List (Vec Segment Global)). AreOutlines c.args.sheet.now place xs c.in_ok-loops.loops.items) c.deref.ensures.value (c.in_ok-loops.ensures place at)
