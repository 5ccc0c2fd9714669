use Rattle.std.proofs.Common.{rules, FitsSigned}
use Rattle.std.specs.Int.{w64}
use Rattle.std.proofs.lemmas.Int.{to_z-of_z}
use Rattle.lattice.specs.Points.{of_dir, of_spot}
use Rattle.detail_pieces.specs.inner.Sides.{meeting_of}
use Rattle.detail_pieces.proofs.Meetings.{crosses, has_spot, seen_there}
use Rattle.detail_pieces.proofs.Reached.{sight_of_place}
use Rattle.detail_pieces.proofs.halves.meeting.Goals as goal

pub crossing-requires-clause-crosses : goal.crossing-requires-clause-crosses
crossing-requires-clause-crosses c =
    crosses (of_dir c.args.d.now) c.args.side.now c.args.inside.now c.args.outside.now c.requires.inside c.requires.outside c.args.line.now c.requires.first c.requires.second

pub spot_at-requires : goal.spot_at-requires
spot_at-requires c =
    let at_fits : FitsSigned w64 c.args.side.now.at = search rules in
    has_spot (of_dir c.args.d.now) c.args.side.now c.args.inside.now c.args.outside.now c.requires.inside c.requires.outside c.args.line.now c.requires.first c.requires.second
    c.crossing.result (simp to_z-of_z at c.crossing.ensures)

pub returns : goal.returns
returns c =
    let at_fits : FitsSigned w64 c.args.side.now.at = search rules in
    let d = of_dir c.args.d.now in
    let seen = seen_there d c.args.side.now c.args.inside.now c.args.outside.now c.requires.inside c.requires.outside c.args.line.now c.requires.first c.requires.second
    c.crossing.result (simp to_z-of_z at c.crossing.ensures) in
    sight_of_place d c.crossing.result (meeting_of d c.args.side.now c.args.inside.now c.args.outside.now) (of_spot c.spot_at.result) seen c.spot_at.ensures
