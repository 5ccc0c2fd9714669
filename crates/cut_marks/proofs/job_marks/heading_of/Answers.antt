use Rattle.std.proofs.Common.{◌≡◌, ◌↔◌, Bool, IsTrue, get_or, sym, subst, ap, ◌∙◌}
use Rattle.std.proofs.lemmas.Option.{slice_get-get_or}
use Rattle.lattice.specs.Cuts.{plane_of}
use Rattle.sheet_layout.specs.declared.sides.Sides.{Sides}
use Rattle.solid_mesh.specs.Solids.{solid_part}
use Rattle.cut_marks.specs.Figures.{heading_over}
use Rattle.cut_marks.specs.Letters.{IsLetterOf}
use Rattle.cut_plane.specs.Loops.{HasSegment}
use Rattle.cut_marks.specs.declared.figures.Heading.{Heading}
use Rattle.cut_marks.proofs.job_marks.heading_of.Goals as goal

pub returns : goal.returns
returns c =
    let b = c.of-b.result in
    let h : Heading = c.heading_over.result in
    let none : Sides = record { left = 0; right = 0; top = 0; bottom = 0; width = 0 } in
    let asked = get_or c.args.sides.now c.args.view none in
    let letter : c.letter_of.result ≡ h.letter = sym (ap (λ (x : Heading). x.letter) c.heading_over.ensures) in
    let same : c.has_segment.result ≡ h.has_section = sym (ap (λ (x : Heading). x.has_section) c.heading_over.ensures) in
    record {
      box = b;
      is_box = c.of-b.ensures;
      asked = asked;
      listed = slice_get-get_or c.args.sides.now c.args.view none c.requires.asked;
      lettered = subst (IsLetterOf c.args.number) letter c.letter_of.ensures;
      over = c.heading_over.ensures ∙ (λ i. heading_over b (c.room_over-room.ensures i) (letter i) (plane_of c.args.cut.now) (same i));
      section = subst (λ (v : Bool). IsTrue v ↔ HasSegment (plane_of c.args.cut.now) (solid_part c.args.solid.now)) same c.has_segment.ensures;
    }
