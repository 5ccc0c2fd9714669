use Rattle.std.proofs.Common.{◌≡◌, ℕ, ◌+◌, ◌*◌, sym, subst, arith}
use Rattle.geometry.specs.Parts.{part_of}
use Rattle.solid_mesh.specs.Faults.{HasFault}
use Rattle.solid_mesh.specs.declared.faults.MeshFault.{MeshFault}
use Rattle.fault_place.specs.Places.{IsSide, IsBetween, IsPlaceOf}
use Rattle.fault_place.proofs.Faults.{met_within, have_common_point, place_of_meeting}
use Rattle.fault_place.proofs.place.fault_place.Goals as goal

pub of_meeting-requires-clause-triangle : goal.of_meeting-requires-clause-triangle
of_meeting-requires-clause-triangle c =
    let s = part_of c.args.soup.now in
    met_within s c.in-Meet.edge c.in-Meet.t (subst (HasFault s) c.in-Meet.is c.requires.fault)

pub of_meeting-requires-clause-meet : goal.of_meeting-requires-clause-meet
of_meeting-requires-clause-meet c =
    let s = part_of c.args.soup.now in
    have_common_point s c.in-Meet.edge c.in-Meet.t (subst (HasFault s) c.in-Meet.is c.requires.fault) c.in_ok-half-in-Meet.half c.in_ok-half-in-Meet.ensures.half

pub returns-in-SameWay : goal.returns-in-SameWay
returns-in-SameWay c =
    subst (λ (f : MeshFault). IsPlaceOf (part_of c.args.soup.now) f c.of_triangles-in-SameWay.result) (sym c.in-SameWay.is) c.of_triangles-in-SameWay.ensures

pub returns-in-Unpaired : goal.returns-in-Unpaired
returns-in-Unpaired c =
    let s = part_of c.args.soup.now in
    let half : 3 * c.from.result + c.from-in-Unpaired.result ≡ 3 * c.in-Unpaired.t + c.in-Unpaired.side = omega arith in
    let place = subst (λ (half : ℕ). IsBetween (IsSide s half) (IsSide s half) c.of_side.result) half c.of_side.ensures in
    subst (λ (f : MeshFault). IsPlaceOf s f c.of_side.result) (sym c.in-Unpaired.is) place

pub returns-in-Double : goal.returns-in-Double
returns-in-Double c =
    subst (λ (f : MeshFault). IsPlaceOf (part_of c.args.soup.now) f c.of_triangles-in-Double.result) (sym c.in-Double.is) c.of_triangles-in-Double.ensures

pub returns-in_ok-half-in-Meet : goal.returns-in_ok-half-in-Meet
returns-in_ok-half-in-Meet c =
    let s = part_of c.args.soup.now in
    let fault = subst (HasFault s) c.in-Meet.is c.requires.fault in
    let place = place_of_meeting s c.in-Meet.edge c.in-Meet.t fault c.in_ok-half-in-Meet.half c.in_ok-half-in-Meet.ensures.half c.of_meeting.result c.of_meeting.ensures in
    subst (λ (f : MeshFault). IsPlaceOf s f c.of_meeting.result) (sym c.in-Meet.is) place
