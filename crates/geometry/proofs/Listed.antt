-- Elements of lists at their places, and the faces and edges of a part whose corner numbers are in range.
use Rattle.std.proofs.Common.{◌≡◌, ℕ, ◌/◌, List, All, length, get_or, slice_get, Some, refl, sym, ap, ◌∙◌}
use Rattle.std.proofs.lemmas.Option.{slice_get_within, get_or_from_slice_get}
use Rattle.std.proofs.lemmas.List.Elements.{All-contains}
use Rattle.integers.proofs.Lists.{some_element}
use Rattle.lattice.specs.declared.points.Corner.{Corner}
use Rattle.lattice.specs.declared.soup.Tri.{Tri}
use Rattle.lattice.specs.Triangles.{IsBelow}
use Rattle.geometry.specs.Parts.{Part, Face, Edge, IsHalf}

-- and one element
pub same_element : {X : Type 0} (xs : List X) (i j : ℕ) (x y : X) → i ≡ j → slice_get xs i ≡ Some x → slice_get xs j ≡ Some y → x ≡ y
same_element xs i j x y e p q = sym (get_or_from_slice_get xs i x x p) ∙ ap (λ k. get_or xs k x) e ∙ get_or_from_slice_get xs j y x q

-- a triangle of a part whose corner numbers are in range
module _ (s : Part) (in_range : All (IsBelow (length s.corners)) s.triangles) (t : Tri) (i : ℕ) (at : slice_get s.triangles i ≡ Some t) where
  pub triangle_below : IsBelow (length s.corners) t
  triangle_below = All-contains (IsBelow (length s.corners)) s.triangles t in_range (i, slice_get_within s.triangles i t at, get_or_from_slice_get s.triangles i t t at)

  -- the triangle with its corners
  abbrev pub face_at : Face s
  face_at =
      let a = some_element s.corners t.a triangle_below.a in
      let b = some_element s.corners t.b triangle_below.b in
      let c = some_element s.corners t.c triangle_below.c in
      record { number = i; tri = t; a = a.0; b = b.0; c = c.0; listed = at; at_a = a.1; at_b = b.1; at_c = c.1 }

-- the edge of a half and of one that goes back
module _ (s : Part) (in_range : All (IsBelow (length s.corners)) s.triangles) where
  abbrev pub edge_of : (half other m n : ℕ) (a b : Corner) → IsHalf s half m n → IsHalf s other n m → slice_get s.corners m ≡ Some a → slice_get s.corners n ≡ Some b → Edge s
  edge_of half other m n a b goes returns at_m at_n = record {
    half = half;
    other = other;
    m = m;
    n = n;
    a = a;
    b = b;
    left = face_at s in_range goes.tri (half / 3) goes.at;
    right = face_at s in_range returns.tri (other / 3) returns.at;
    goes = goes;
    returns = returns;
    on_left = refl;
    on_right = refl;
    at_m = at_m;
    at_n = at_n;
  }
