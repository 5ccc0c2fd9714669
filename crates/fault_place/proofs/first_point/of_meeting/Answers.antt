use Rattle.std.proofs.Common.{◌≡◌, ℕ, ◌<◌, get_or, sym, length, refl, subst}
use Rattle.std.proofs.lemmas.Option.{slice_get_read}
use Rattle.geometry.specs.Parts.{part_of, Face, IsHalf}
use Rattle.lattice.specs.declared.points.Corner.{Corner}
use Rattle.lattice.specs.declared.soup.Soup.{Soup}
use Rattle.lattice.specs.declared.soup.Tri.{Tri}
use Rattle.solid_mesh.specs.Meetings.{Side}
use Rattle.solid_mesh.proofs.Readings.{Reading, same_reading, side_read}
use Rattle.solid_mesh.proofs.FlatLemmas.{face_read}
use Rattle.fault_place.specs.Places.{IsFirstPlace}
use Rattle.fault_place.proofs.first_point.of_meeting.Goals as goal

-- the side and the triangle that were read
abbrev side : (soup : Soup) (half m n : ℕ) (p q : Corner) → IsHalf (part_of soup) half m n → p ≡ get_or soup.corners.items m p → q ≡ get_or soup.corners.items n q → Side (part_of soup) half
side soup half m n p q is at_p at_q = side_read (part_of soup) soup.in_range half is.tri is.at m n (sym is.start) (sym is.end) p q at_p at_q

abbrev face : (soup : Soup) (number : ℕ) (t : Tri) (a b c : Corner) → number < length soup.triangles.items → t ≡ get_or soup.triangles.items number t
    → a ≡ get_or soup.corners.items t.a a → b ≡ get_or soup.corners.items t.b b → c ≡ get_or soup.corners.items t.c c → Face (part_of soup)
face soup number t a b c within at at_a at_b at_c =
    face_read (part_of soup) soup.in_range t number (slice_get_read soup.triangles.items (length soup.triangles.items) number t refl within at) a b c at_a at_b at_c

pub first_place-requires : goal.first_place-requires
first_place-requires c =
    let soup = c.args.soup.now in
    let meet = c.requires.meet (side soup c.args.half c.side_at-from.result.from c.side_at-from.result.to c.index-2.result.now c.index-3.result.now c.side_at-from.ensures c.index-2.ensures c.index-3.ensures)
    (face soup c.args.t c.index.result.now c.index-4.result.now c.index-5.result.now c.index-6.result.now c.requires.triangle c.index.ensures c.index-4.ensures c.index-5.ensures c.index-6.ensures) refl in
    record { touch = meet.0; not_flat = meet.1 }

pub returns : goal.returns
returns c e f number =
    let soup = c.args.soup.now in
    let read_side = side soup c.args.half c.side_at-from.result.from c.side_at-from.result.to c.index-2.result.now c.index-3.result.now c.side_at-from.ensures c.index-2.ensures c.index-3.ensures in
    let read_face = face soup c.args.t c.index.result.now c.index-4.result.now c.index-5.result.now c.index-6.result.now c.requires.triangle c.index.ensures c.index-4.ensures c.index-5.ensures c.index-6.ensures in
    subst (λ (r : Reading). IsFirstPlace r.p r.q r.a r.b r.c c.first_place.result) (same_reading (part_of soup) c.args.half read_side e read_face f (sym number)) c.first_place.ensures
