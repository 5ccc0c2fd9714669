-- An edge that meets a triangle: they have a common point, and their place is that of the fault.
use Rattle.std.proofs.Common.{◌≡◌, ℕ, ◌<◌, length, refl, sym, subst, ◌∙◌, arith}
use Rattle.std.proofs.lemmas.Option.{slice_get_within}
use Rattle.lattice.specs.declared.points.Corner.{Corner}
use Rattle.geometry.specs.Faces.{IsFlat}
use Rattle.geometry.specs.Parts.{Part, Edge, IsHalf}
use Rattle.geometry.proofs.Listed.{same_element}
use Rattle.meeting.specs.Touching.{Touch}
use Rattle.solid_mesh.specs.declared.faults.MeshFault.TheVariants.{Meet}
use Rattle.solid_mesh.specs.Faults.{HasFault}
use Rattle.solid_mesh.specs.Meetings.{Side}
use Rattle.solid_mesh.proofs.Readings.{Reading, same_reading}
use Rattle.fault_place.specs.Places.{IsPlaceOf}
use Rattle.fault_place.specs.inner.Halves.{IsHalfOfEdge}
use Rattle.fault_place.specs.inner.Meetings.{HaveCommonPoint, MeetFirstAt}

-- the side along an edge's half
abbrev side_of : {s : Part} (e : Edge s) (half : ℕ) → e.half ≡ half → Side s half
side_of {s} e half same = record {
  m = e.m;
  n = e.n;
  p = e.a;
  q = e.b;
  goes = subst (λ (k : ℕ). IsHalf s k e.m e.n) same e.goes;
  at_m = e.at_m;
  at_n = e.at_n;
}

module _ (s : Part) (i t : ℕ) (fault : HasFault s (Meet i t)) where
  pub met_within : t < length s.triangles
  met_within =
      let (_, _, (halves, are, _, h)) = fault in
      let (e, f, numbered, number, elsewhere) = h.holds in
      let within = slice_get_within s.triangles f.number f.tri f.listed in
      omega (arith, within, number)

  module _ (half : ℕ) (here : IsHalfOfEdge s i half) where
    pub have_common_point : HaveCommonPoint s half t
    have_common_point side face number =
        let (closed, _, (halves, are, _, h)) = fault in
        let (e, f, numbered, is, (q, meets, apart)) = h.holds in
        let half_is : e.half ≡ half = same_element halves i i e.half half refl numbered (here halves are) in
        let same = same_reading s half (side_of e half half_is) side f face (is ∙ sym number) in
        let touch : Touch f.a f.b f.c e.a e.b = record { point = q; on_edge = meets.on_edge; on_face = meets.on_face } in
        subst (λ (r : Reading). Touch r.a r.b r.c r.p r.q × ¬ IsFlat r.a r.b r.c) same (touch, closed.none_flat f)

    pub place_of_meeting : (place : Corner) → MeetFirstAt s half t place → IsPlaceOf s (Meet i t) place
    place_of_meeting place at =
        let (_, _, (halves, are, _, h)) = fault in
        let (e, f, numbered, is, elsewhere) = h.holds in
        let half_is : e.half ≡ half = same_element halves i i e.half half refl numbered (here halves are) in
        record {
          halves = halves;
          are = are;
          edge = e;
          face = f;
          number = numbered;
          number_of_face = is;
          there = at (side_of e half half_is) f is;
        }
