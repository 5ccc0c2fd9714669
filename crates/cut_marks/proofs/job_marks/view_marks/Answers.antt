use Rattle.std.proofs.Common.{◌≡◌, Some, [], subst}
use Rattle.std.proofs.lemmas.List.Elements.{All-nil, All-same}
use Rattle.solid_mesh.specs.Solids.{solid_part}
use Rattle.cut_marks.specs.Ranges.{IsHeadingInRange, IsMarkInRange}
use Rattle.cut_marks.specs.declared.figures.Heading.{Heading}
use Rattle.cut_marks.proofs.InReach.{headed_in_range}
use Rattle.cut_marks.proofs.job_marks.view_marks.Goals as goal

one : (h x : Heading) → Some h ≡ Some x → h ≡ x
one h x e = cc

pub invariant_of-result : goal.invariant_of-result
invariant_of-result c = record {
  heading_in_range = λ x e. subst IsHeadingInRange (one c.heading_of.result x e)
      (headed_in_range c.args.sheet.now c.args.sides.now c.args.shrunk (solid_part c.args.solid.now) c.args.view c.args.number c.in-Section.cut c.heading_of.result c.heading_of.ensures);
  marks_in_range = All-same IsMarkInRange c.new.result.items [] c.new.ensures.items (All-nil IsMarkInRange);
}
