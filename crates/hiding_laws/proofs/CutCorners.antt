-- What a face hides in a cut view is by its corners, in any order.
use Rattle.std.proofs.Common.{◌≡◌, inl, inr, sym, subst}
use Rattle.std.specs.Prelude.{◌↔◌}
use Rattle.lattice.specs.declared.points.Corner.{Corner}
use Rattle.lattice.specs.Points.{Point}
use Rattle.lattice.specs.Cuts.{Plane}
use Rattle.geometry.specs.Faces.{IsPointOfFace}
use Rattle.geometry.specs.Parts.{Part, Face}
use Rattle.geometry.specs.Cuts.{FaceHidesInCut}
use Rattle.geometry.proofs.FacePoints.{face_point-turned}
use Rattle.hiding_laws.specs.Values.{AreCornersOf}
use Rattle.hiding_laws.specs.CutValues.{HidesInCut}

-- the order of the corners does not count
read_point : (q : Point) (a b e i j k : Corner) → a ≡ i → b ≡ j → e ≡ k → IsPointOfFace a b e q → IsPointOfFace i j k q
read_point q a b e i j k ha hb he h =
    subst (λ (z : Corner). IsPointOfFace i j z q) he (subst (λ (y : Corner). IsPointOfFace i y e q) hb (subst (λ (x : Corner). IsPointOfFace x b e q) ha h))

pub cut_hides_by_corners : (c : Plane) {s : Part} (f : Face s) (i j k : Corner) (p : Point) → AreCornersOf f i j k → FaceHidesInCut c f p ↔ HidesInCut c i j k p
cut_hides_by_corners c f i j k p corners = (
  (λ h. record { point = h.point; on_face = there corners h.point h.on_face; beyond = h.beyond; same_sight = h.same_sight; nearer = h.nearer }),
  (λ h. record { point = h.point; on_face = back corners h.point h.on_face; beyond = h.beyond; same_sight = h.same_sight; nearer = h.nearer }),
)
  where
    there : AreCornersOf f i j k → (q : Point) → IsPointOfFace f.a f.b f.c q → IsPointOfFace i j k q
    there (inl (x, y, z)) q h = read_point q f.a f.b f.c i j k x y z h
    there (inr (x, z, y)) q h = face_point-turned i k j q (read_point q f.a f.b f.c i k j x z y h)

    back : AreCornersOf f i j k → (q : Point) → IsPointOfFace i j k q → IsPointOfFace f.a f.b f.c q
    back (inl (x, y, z)) q h = read_point q i j k f.a f.b f.c (sym x) (sym y) (sym z) h
    back (inr (x, z, y)) q h = read_point q i k j f.a f.b f.c (sym x) (sym z) (sym y) (face_point-turned i j k q h)

pub cut_read_corners : (c : Plane) {s : Part} (f g : Face s) (p : Point) → f.a ≡ g.a → f.b ≡ g.b → f.c ≡ g.c → FaceHidesInCut c f p → FaceHidesInCut c g p
cut_read_corners c f g p x y z h = record { point = h.point; on_face = read_point h.point f.a f.b f.c g.a g.b g.c x y z h.on_face; beyond = h.beyond; same_sight = h.same_sight; nearer = h.nearer }
