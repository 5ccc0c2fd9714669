use Rattle.std.proofs.Common.{◌≡◌, ◌↔◌, ℕ, Bool, Option, Some, None, is_some, refl}
use Rattle.std.specs.Prelude.{IsTrue, IsNone, IfSome}
use Rattle.lattice.specs.Cuts.{Plane, plane_of}
use Rattle.geometry.specs.Parts.{Part}
use Rattle.solid_mesh.specs.Solids.{solid_part}
use Rattle.cut_plane.specs.declared.segments.Corners.{Corners}
use Rattle.cut_plane.specs.declared.segments.Sides.{Sides}
use Rattle.cut_plane.specs.inner.Borders.{IsFaceAt, CrossesBySides, IsOnOneSide}
use Rattle.cut_plane.specs.inner.Walks.{IsCrossedAt}
use Rattle.cut_plane.proofs.FaceCorners.{crossed_apart, crossed_at}
use Rattle.cut_plane.proofs.Lists.{not_true}
use Rattle.cut_plane.proofs.loops.is_crossed.Goals as goal

tells : (c : Plane) (s : Part) (tri : ℕ) (x : Corners) (o : Option Sides) (b : Bool) → IsFaceAt s tri x → b ≡ is_some o
    → IfSome o (λ y. CrossesBySides c x y.first y.second) → (IsNone o → IsOnOneSide c x) → IsTrue b ↔ IsCrossedAt c s tri
tells c s tri x (Some y) b at e some none = ((λ h. crossed_at c tri x y.first y.second at some), (λ crossed. e))
tells c s tri x None b at e some none = ((λ h. absurd (not_true b e h)), (λ crossed. absurd (crossed_apart c tri x at crossed (none refl))))

pub returns : goal.returns
returns c =
    tells (plane_of c.args.cut.now) (solid_part c.args.solid.now) c.args.tri c.corners_of.result c.sides_of.result c.is_some.result c.corners_of.ensures c.is_some.ensures
    c.sides_of.ensures.some c.sides_of.ensures.none
