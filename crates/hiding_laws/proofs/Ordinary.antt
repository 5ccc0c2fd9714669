-- Points that are not ordinary: at corners, where edges cross, and where an edge meets a face that does not have it as a side.
use Rattle.std.proofs.Common.{◌≡◌, ◌⊎◌, inl, inr, ℕ, ◌+◌, ◌*◌, ◌/◌, ◌%◌, ◌<◌, All, Contains, length, slice_get, Some, refl, sym, subst, ap, ◌∙◌, arith}
use Rattle.std.specs.Prelude.{pos}
use Rattle.std.proofs.lemmas.Int.{ints}
use Rattle.std.proofs.lemmas.Option.{slice_get_within, get_or_from_slice_get}
use Rattle.lattice.specs.declared.points.Corner.{Corner}
use Rattle.lattice.specs.Triangles.{IsBelow}
use Rattle.lattice.specs.Triple.{Triple, det}
use Rattle.lattice.specs.Points.{Point, IsPoint, OnOneSight, point_of, difference}
use Rattle.lattice.proofs.SightAxes.{sight_of_one_point}
use Rattle.geometry.specs.Faces.{IsPointOfEdge}
use Rattle.geometry.specs.Parts.{Part, Face, Edge, IsHalf, IsClosed, start_of, end_of}
use Rattle.geometry.specs.Views.{IsOrdinary, IsSeenOver}
use Rattle.geometry.specs.Sound.{MeetsFace, MeetInSharedCorners}
use Rattle.geometry.proofs.Listed.{edge_of}
use Rattle.geometry.proofs.Sights.{sight_on}
use Rattle.hiding_laws.specs.Values.{IsSideOf}

-- two corners of a face are the ends of an edge of a closed part, in either order
pub record SideEdge (s : Part) (k l : Corner) : Type 0 where
  pub edge : Edge s
  pub at_a : edge.a ≡ k
  pub at_b : edge.b ≡ l

-- a side of a face is the half three times the face's number and the side's
side_half : (s : Part) (f : Face s) (side : ℕ) → side < 3 → IsHalf s (3 * f.number + side) (start_of f.tri side) (end_of f.tri side)
side_half s f side h =
    let face : f.number ≡ (3 * f.number + side) / 3 = omega arith in
    let number : (3 * f.number + side) % 3 ≡ side = omega arith in
    record {
      tri = f.tri;
      at = subst (λ (i : ℕ). slice_get s.triangles i ≡ Some f.tri) face f.listed;
      start = ap (start_of f.tri) number;
      end = ap (end_of f.tri) number;
    }

module _ (s : Part) (closed : IsClosed s) (in_range : All (IsBelow (length s.corners)) s.triangles) where
  -- an edge from a half and a half that goes back
  edge_from : (half other m n : ℕ) (k l : Corner) → IsHalf s half m n → IsHalf s other n m → slice_get s.corners m ≡ Some k → slice_get s.corners n ≡ Some l → SideEdge s k l
  edge_from half other m n k l goes returns at_m at_n = record { edge = edge_of s in_range half other m n k l goes returns at_m at_n; at_a = refl; at_b = refl }

  -- the two corners of a half, in its order and in the other
  half_edge : (half m n : ℕ) (x y k l : Corner) → IsHalf s half m n → slice_get s.corners m ≡ Some x → slice_get s.corners n ≡ Some y
      → ((k ≡ x) × (l ≡ y)) ⊎ ((k ≡ y) × (l ≡ x)) → SideEdge s k l
  half_edge half m n x y k l h at_x at_y (inl (p, q)) =
      let back = closed.returns half m n h in
      edge_from half back.0 m n k l h back.1 (at_x ∙ ap (λ (c : Corner). Some c) (sym p)) (at_y ∙ ap (λ (c : Corner). Some c) (sym q))
  half_edge half m n x y k l h at_x at_y (inr (p, q)) =
      let back = closed.returns half m n h in
      edge_from back.0 half n m k l back.1 h (at_y ∙ ap (λ (c : Corner). Some c) (sym p)) (at_x ∙ ap (λ (c : Corner). Some c) (sym q))

pub side-edge : (s : Part) → IsClosed s → All (IsBelow (length s.corners)) s.triangles → (f : Face s) (k l : Corner) → IsSideOf f k l → SideEdge s k l
side-edge s closed in_range f k l (inl h) = half_edge s closed in_range (3 * f.number + 0) f.tri.a f.tri.b f.a f.b k l (side_half s f 0 (omega arith)) f.at_a f.at_b h
side-edge s closed in_range f k l (inr (inl h)) = half_edge s closed in_range (3 * f.number + 1) f.tri.b f.tri.c f.b f.c k l (side_half s f 1 (omega arith)) f.at_b f.at_c h
side-edge s closed in_range f k l (inr (inr h)) = half_edge s closed in_range (3 * f.number + 2) f.tri.c f.tri.a f.c f.a k l (side_half s f 2 (omega arith)) f.at_c f.at_a h

module _ (d : Triple) (s : Part) (p : Point) where
  pub not-at-corner : (c : Corner) → Contains s.corners c → OnOneSight d (point_of c) p → ¬ IsOrdinary d s p
  not-at-corner c listed same r = r.off_corners c listed same

  -- a side of a face and an edge cross
  pub not-at-crossing : IsClosed s → All (IsBelow (length s.corners)) s.triangles → (e : Edge s) → IsSeenOver d e p → (f : Face s) (k l : Corner) → IsSideOf f k l
      → (q : Point) → IsPointOfEdge k l q → OnOneSight d q p → ¬ (det d (difference e.a e.b) (difference k l) ≡ pos 0) → ¬ IsOrdinary d s p
  not-at-crossing closed in_range e over f k l side q on_side same crosses r =
      let here = side-edge s closed in_range f k l side in
      let on_edge : IsPointOfEdge here.edge.a here.edge.b q =
      subst (λ (x : Corner). IsPointOfEdge x here.edge.b q) (sym here.at_a) (subst (λ (y : Corner). IsPointOfEdge k y q) (sym here.at_b) on_side) in
      let parallel : det d (difference e.a e.b) (difference here.edge.a here.edge.b) ≡ pos 0 = r.off_crossings e here.edge over (q, on_edge, same) in
      crosses (subst (λ (x : Corner). det d (difference e.a e.b) (difference x l) ≡ pos 0) here.at_a (subst (λ (y : Corner). det d (difference e.a e.b) (difference here.edge.a y) ≡ pos 0) here.at_b parallel))

  -- an edge meets a face that does not have it as a side: in a shared corner
  pub not-at-meeting : MeetInSharedCorners s → (e : Edge s) (f : Face s) (q : Point) → MeetsFace e f q → OnOneSight d q p → ¬ IsOrdinary d s p
  not-at-meeting apart e f q meets same r =
      let shared = apart e f q meets in
      let k = shared.number in
      let c = shared.corner in
      not-at-corner c (k, slice_get_within s.corners k c shared.at, get_or_from_slice_get s.corners k c c shared.at)
      (sight_on d (point_of c) q p (is_point e.a e.b q meets.on_edge) (sight_of_one_point d (point_of c) q shared.here) same) r
    where
      is_point : (a b : Corner) (q : Point) → IsPointOfEdge a b q → IsPoint q
      is_point a b q (i, j, some, is) = subst IsPoint (sym is) (omega (arith, ints))
