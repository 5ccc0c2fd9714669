-- From halves to edges with their two faces.
use Rattle.std.proofs.Common.{◌≡◌, ℕ, zero, suc, ◌/◌, ◌%◌, ◌<◌, List, All, length, slice_get, Some, refl, sym, subst, ap, ◌∙◌}
use Rattle.std.proofs.lemmas.Option.{slice_get_within}
use Rattle.integers.proofs.Lists.{some_element}
use Rattle.lattice.specs.declared.soup.Tri.{Tri}
use Rattle.lattice.specs.Triangles.{IsBelow}
use Rattle.geometry.specs.Parts as parts
use Rattle.geometry.specs.Parts.{Part, IsHalf, IsNumbered, HasNoSideTwice, start_of, end_of}
pub use Rattle.geometry.proofs.Listed.{same_element, triangle_below, face_at}
use Rattle.solid_mesh.specs.declared.solid.Edge.{Edge}
use Rattle.solid_mesh.specs.inner.Halves.{start_at, end_at}
use Rattle.solid_mesh.specs.Solids.{HasNumbers, IsEdgeAt, IsWithinPart}
use Rattle.solid_mesh.proofs.HalfLemmas.{start_of_half, end_of_half}

pub start_below : (n : ℕ) (t : Tri) (side : ℕ) → IsBelow n t → start_of t side < n
start_below n t zero h = h.a
start_below n t (suc zero) h = h.b
start_below n t (suc (suc side)) h = h.c

pub end_below : (n : ℕ) (t : Tri) (side : ℕ) → IsBelow n t → end_of t side < n
end_below n t zero h = h.b
end_below n t (suc zero) h = h.c
end_below n t (suc (suc side)) h = h.a

module _ (s : Part) (in_range : All (IsBelow (length s.corners)) s.triangles) where
  -- the edge along a half and back along another
  pub edge_along : (halves : List ℕ) (i half other m n : ℕ) → slice_get halves i ≡ Some half → IsHalf s half m n → IsHalf s other n m
      → IsEdgeAt s halves i (record { a = m; b = n; left = half / 3; right = other / 3 })
  edge_along halves i half other m n at goes returns = record {
    edge = edge;
    numbered = at;
    numbers = record { a = refl; b = refl; left = refl; right = refl };
  }
    where
      first : m < length s.corners
      first = let P : ℕ → Type 0 = λ k. k < length s.corners in subst P goes.start (start_below (length s.corners) goes.tri (half % 3) (triangle_below s in_range goes.tri (half / 3) goes.at))

      second : n < length s.corners
      second = let P : ℕ → Type 0 = λ k. k < length s.corners in subst P goes.end (end_below (length s.corners) goes.tri (half % 3) (triangle_below s in_range goes.tri (half / 3) goes.at))

      edge : parts.Edge s
      edge = record {
        half = half;
        other = other;
        m = m;
        n = n;
        a = (some_element s.corners m first).0;
        b = (some_element s.corners n second).0;
        left = face_at s in_range goes.tri (half / 3) goes.at;
        right = face_at s in_range returns.tri (other / 3) returns.at;
        goes = goes;
        returns = returns;
        on_left = refl;
        on_right = refl;
        at_m = (some_element s.corners m first).1;
        at_n = (some_element s.corners n second).1;
      }

-- an edge's numbers are in range
pub edge_within : (s : Part) (halves : List ℕ) (i : ℕ) (e : Edge) → IsEdgeAt s halves i e → IsWithinPart s e
edge_within s halves i e h =
    let Corners : ℕ → Type 0 = λ k. k < length s.corners in
    let Triangles : ℕ → Type 0 = λ k. k < length s.triangles in
    record {
      a = subst Corners h.numbers.a (slice_get_within s.corners h.edge.m h.edge.a h.edge.at_m);
      b = subst Corners h.numbers.b (slice_get_within s.corners h.edge.n h.edge.b h.edge.at_n);
      left = subst Triangles h.numbers.left (slice_get_within s.triangles h.edge.left.number h.edge.left.tri h.edge.left.listed);
      right = subst Triangles h.numbers.right (slice_get_within s.triangles h.edge.right.number h.edge.right.tri h.edge.right.listed);
    }

-- an edge's number determines its two ends and, where no side occurs twice, its two faces
pub same_numbers : (s : Part) → HasNoSideTwice s → (halves : List ℕ) (i : ℕ) (given : Edge) → IsEdgeAt s halves i given → (e : parts.Edge s) → IsNumbered halves i e → HasNumbers e given
same_numbers s once halves i given h e numbered =
    let half : e.half ≡ h.edge.half = same_element halves i i _ _ refl numbered h.numbered in
    let start : e.m ≡ h.edge.m = sym (start_of_half s e.half e.goes) ∙ ap (start_at s.triangles) half ∙ start_of_half s h.edge.half h.edge.goes in
    let end : e.n ≡ h.edge.n = sym (end_of_half s e.half e.goes) ∙ ap (end_at s.triangles) half ∙ end_of_half s h.edge.half h.edge.goes in
    let back : IsHalf s e.other h.edge.n h.edge.m = subst (λ (k : ℕ). IsHalf s e.other h.edge.n k) start (subst (λ (k : ℕ). IsHalf s e.other k e.m) end e.returns) in
    let other : e.other ≡ h.edge.other = once e.other h.edge.other h.edge.n h.edge.m back h.edge.returns in
    let third : ℕ → ℕ = λ k. k / 3 in
    record {
      a = start ∙ h.numbers.a;
      b = end ∙ h.numbers.b;
      left = e.on_left ∙ ap third half ∙ sym h.edge.on_left ∙ h.numbers.left;
      right = e.on_right ∙ ap third other ∙ sym h.edge.on_right ∙ h.numbers.right;
    }
