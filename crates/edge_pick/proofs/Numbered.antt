-- What was looked up for an edge's numbers, or for a triangle's, is what the edge and the face have.
use Rattle.std.proofs.Common.{◌≡◌, ℕ, Some, slice_get, sym, ap, ◌∙◌}
use Rattle.lattice.specs.declared.points.Corner.{Corner}
use Rattle.lattice.specs.declared.soup.Tri.{Tri}
use Rattle.lattice.specs.Points.{Point, point_of}
use Rattle.geometry.specs.Parts as parts
use Rattle.geometry.specs.Parts.{Part, Face}
use Rattle.solid_mesh.specs.declared.solid.Edge.{Edge}
use Rattle.solid_mesh.specs.Solids.{HasNumbers}
use Rattle.geometry.proofs.Listed.{same_element}

-- the spots of the two corners that were looked up are the edge's ends
pub ends_of : (s : Part) (given : Edge) (e : parts.Edge s) → HasNumbers e given → (x y : Corner) (p q : Point)
    → slice_get s.corners given.a ≡ Some x → slice_get s.corners given.b ≡ Some y → p ≡ point_of x → q ≡ point_of y → (p ≡ point_of e.a) × (q ≡ point_of e.b)
ends_of s given e h x y p q at_a at_b is_p is_q = (
  is_p ∙ ap point_of (same_element s.corners given.a e.m x e.a (sym h.a) at_a e.at_m),
  is_q ∙ ap point_of (same_element s.corners given.b e.n y e.b (sym h.b) at_b e.at_n),
)

-- the corners that were looked up for a triangle are those of the face
pub face_corners : (s : Part) (f : Face s) (i : ℕ) (t : Tri) (a b c : Corner) → f.number ≡ i → slice_get s.triangles i ≡ Some t
    → slice_get s.corners t.a ≡ Some a → slice_get s.corners t.b ≡ Some b → slice_get s.corners t.c ≡ Some c → (a ≡ f.a) × (b ≡ f.b) × (c ≡ f.c)
face_corners s f i t a b c at here at_a at_b at_c =
    let same : t ≡ f.tri = same_element s.triangles i f.number t f.tri (sym at) here f.listed in (
      same_element s.corners t.a f.tri.a a f.a (ap (λ (u : Tri). u.a) same) at_a f.at_a,
      same_element s.corners t.b f.tri.b b f.b (ap (λ (u : Tri). u.b) same) at_b f.at_b,
      same_element s.corners t.c f.tri.c c f.c (ap (λ (u : Tri). u.c) same) at_c f.at_c,
    )
