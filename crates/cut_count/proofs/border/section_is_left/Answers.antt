use Rattle.std.proofs.Common.{subst, ◌↔◌}
use Rattle.std.specs.Prelude.{IsTrue}
use Rattle.lattice.specs.Triple.{Triple}
use Rattle.lattice.specs.Points.{Point, of_spot}
use Rattle.lattice.specs.Cuts.{plane_of}
use Rattle.geometry.specs.Cuts.{IsInSection}
use Rattle.cut_plane.proofs.Apart.{border_apart}
use Rattle.cut_count_laws.specs.BorderShares.{HasGreaterLeft}
use Rattle.cut_count.proofs.SectionLefts.{left_told}
use Rattle.cut_count.proofs.SegmentEnds.{small_ends}
use Rattle.cut_count.proofs.border.section_is_left.Goals as goal

pub middle-requires-clause-first : goal.middle-requires-clause-first
middle-requires-clause-first c = let (s, borders, segment) = c.requires in (small_ends c.args.section.now.cut s c.args.x.now segment).0

pub middle-requires-clause-second : goal.middle-requires-clause-second
middle-requires-clause-second c = let (s, borders, segment) = c.requires in (small_ends c.args.section.now.cut s c.args.x.now segment).1

pub returns : goal.returns
returns c s none_flat borders segment =
    let section = c.args.section.now in
    let plane = plane_of section.cut in
    let x = c.args.x.now in
    left_told plane s (of_spot x.a) (of_spot x.b) (border_apart plane segment.face (of_spot x.a) (of_spot x.b) segment.border (none_flat segment.face))
    c.has_greater_left.result c.inside.result
    (subst (λ (d : Triple). IsTrue c.has_greater_left.result ↔ HasGreaterLeft d (of_spot x.a) (of_spot x.b)) c.dir.ensures c.has_greater_left.ensures)
    (subst (λ (p : Point). IsTrue c.inside.result ↔ IsInSection plane s p) c.middle.ensures (c.inside.ensures s borders))
