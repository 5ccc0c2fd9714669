-- Faces by the number of their triangle, and flat ones.
use Rattle.std.proofs.Common.{◌≡◌, ℕ, All, length, get_or, slice_get, Some, refl, sym, subst, ap, ◌∙◌}
use Rattle.std.proofs.lemmas.Option.{get_or_from_slice_get, slice_get_read}
use Rattle.lattice.specs.declared.points.Corner.{Corner}
use Rattle.lattice.specs.declared.soup.Tri.{Tri}
use Rattle.lattice.specs.Triangles.{IsBelow}
use Rattle.geometry.specs.Parts.{Part, Face}
use Rattle.solid_mesh.proofs.EdgeLemmas.{triangle_below}

module _ (s : Part) (f : Face s) (t : Tri) (same : f.tri ≡ t) where
  -- what holds of the face's corners holds of those that are read at the triangle's numbers
  pub at_corners : (P : Corner → Corner → Corner → Type 0) (a b c : Corner) → get_or s.corners t.a a ≡ a → get_or s.corners t.b b ≡ b → get_or s.corners t.c c ≡ c → P f.a f.b f.c → P a b c
  at_corners P a b c at_a at_b at_c h =
      let p : f.a ≡ a = sym (get_or_from_slice_get s.corners f.tri.a f.a a f.at_a) ∙ ap (λ (u : Tri). get_or s.corners u.a a) same ∙ at_a in
      let q : f.b ≡ b = sym (get_or_from_slice_get s.corners f.tri.b f.b b f.at_b) ∙ ap (λ (u : Tri). get_or s.corners u.b b) same ∙ at_b in
      let r : f.c ≡ c = sym (get_or_from_slice_get s.corners f.tri.c f.c c f.at_c) ∙ ap (λ (u : Tri). get_or s.corners u.c c) same ∙ at_c in
      subst (λ (x : Corner). P x b c) p (subst (λ (x : Corner). P f.a x c) q (subst (λ (x : Corner). P f.a f.b x) r h))

-- a triangle with the corners that were read at its numbers
module _ (s : Part) (in_range : All (IsBelow (length s.corners)) s.triangles) (t : Tri) (i : ℕ) (at : slice_get s.triangles i ≡ Some t)
    (a b c : Corner) (at_a : a ≡ get_or s.corners t.a a) (at_b : b ≡ get_or s.corners t.b b) (at_c : c ≡ get_or s.corners t.c c) where
  abbrev pub face_read : Face s
  face_read =
      let below : IsBelow (length s.corners) t = triangle_below s in_range t i at in
      let n = length s.corners in
      record {
        number = i;
        tri = t;
        a = a;
        b = b;
        c = c;
        listed = at;
        at_a = slice_get_read s.corners n t.a a refl below.a at_a;
        at_b = slice_get_read s.corners n t.b b refl below.b at_b;
        at_c = slice_get_read s.corners n t.c c refl below.c at_c;
      }
