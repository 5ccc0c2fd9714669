-- Lists with one element for each edge of a part, and for each triangle, by the corners.
use Rattle.std.proofs.Common.{◌≡◌, ◌⊎◌, inl, inr, ℕ, ◌*◌, ◌/◌, ◌%◌, ◌<◌, ◌≤◌, List, [], ◌∷◌, All, Contains, Option, Some, None, length, flat_map, slice_get, refl, sym, subst, ap, ◌∙◌, arith}
use Rattle.std.proofs.lemmas.Bool.{cases_order}
use Rattle.std.proofs.lemmas.List.Elements.{All-cons, All-nil}
use Rattle.lattice.specs.declared.points.Corner.{Corner}
use Rattle.lattice.specs.declared.soup.Tri.{Tri}
use Rattle.geometry.specs.Parts.{Part, Face, Edge, IsHalf, AreEdges, start_of, end_of}
use Rattle.geometry.proofs.Listed.{same_element}
use Rattle.geometry.proofs.EachEdge.{turned_edge}
use Rattle.geometry.proofs.Lists.{Contains-first, Contains-listed, Contains-flat_map, All-flat_map, length-flat_map-few}

-- ---- edges, by their halves
module _ {A : Type 0} (f : Corner → Corner → A) (s : Part) where
  abbrev of_ends : Option Corner → Option Corner → List A
  of_ends (Some a) (Some b) = f a b ∷ []
  of_ends (Some a) None = []
  of_ends None b = []

  abbrev of_side : ℕ → Option Tri → List A
  of_side side (Some t) = of_ends (slice_get s.corners (start_of t side)) (slice_get s.corners (end_of t side))
  of_side side None = []

  -- from the corner where the half begins to that where it ends
  abbrev of_half : ℕ → List A
  of_half half = of_side (half % 3) (slice_get s.triangles (half / 3))

  abbrev pub for_edges : List ℕ → List A
  for_edges halves = flat_map of_half halves

  of_ends-few : (a b : Option Corner) → length (of_ends a b) ≤ 1
  of_ends-few (Some a) (Some b) = omega arith
  of_ends-few (Some a) None = omega arith
  of_ends-few None b = omega arith

  of_side-few : (side : ℕ) (t : Option Tri) → length (of_side side t) ≤ 1
  of_side-few side (Some t) = of_ends-few (slice_get s.corners (start_of t side)) (slice_get s.corners (end_of t side))
  of_side-few side None = omega arith

  pub for_edges-few : (halves : List ℕ) → length (for_edges halves) ≤ 1 * length halves
  for_edges-few = length-flat_map-few of_half 1 (λ half. of_side-few (half % 3) (slice_get s.triangles (half / 3)))

  module _ (P : A → Type 0) (each : (a b : Corner) → P (f a b)) where
    of_ends-all : (a b : Option Corner) → All P (of_ends a b)
    of_ends-all (Some a) (Some b) = All-cons P (f a b) [] (each a b) (All-nil P)
    of_ends-all (Some a) None = All-nil P
    of_ends-all None b = All-nil P

    of_side-all : (side : ℕ) (t : Option Tri) → All P (of_side side t)
    of_side-all side (Some t) = of_ends-all (slice_get s.corners (start_of t side)) (slice_get s.corners (end_of t side))
    of_side-all side None = All-nil P

    pub for_edges-all : (halves : List ℕ) → All P (for_edges halves)
    for_edges-all = All-flat_map of_half P (λ half. of_side-all (half % 3) (slice_get s.triangles (half / 3)))

  of_half-is : (e : Edge s) → of_half e.half ≡ f e.a e.b ∷ []
  of_half-is e =
      ap (of_side (e.half % 3)) e.goes.at
      ∙ (λ i. of_ends (slice_get s.corners (e.goes.start i)) (slice_get s.corners (e.goes.end i)))
      ∙ (λ i. of_ends (e.at_m i) (e.at_n i))

  by_half : (halves : List ℕ) (e : Edge s) → Contains halves e.half → Contains (for_edges halves) (f e.a e.b)
  by_half halves e here = Contains-flat_map of_half halves e.half (f e.a e.b) here (subst (λ (ys : List A). Contains ys (f e.a e.b)) (sym (of_half-is e)) (Contains-first (f e.a e.b) []))

  -- an edge with one half alone has one corner alone
  one_corner : (e : Edge s) → e.half ≡ e.other → e.a ≡ e.b
  one_corner e same = same_element s.corners e.m e.n e.a e.b one_number e.at_m e.at_n
    where
      back : IsHalf s e.half e.n e.m
      back = subst (λ (k : ℕ). IsHalf s k e.n e.m) (sym same) e.returns

      one_number : e.m ≡ e.n
      one_number = sym e.goes.start ∙ ap (λ (t : Tri). start_of t (e.half % 3)) (same_element s.triangles (e.half / 3) (e.half / 3) e.goes.tri back.tri refl e.goes.at back.at) ∙ back.start

  module _ (halves : List ℕ) (edges : AreEdges s halves) where
    by_lower : (e : Edge s) → e.half < e.other → Contains (for_edges halves) (f e.a e.b)
    by_lower e lower = by_half halves e ((edges.exactly e.half).1 (e.other, record { m = e.m; n = e.n; goes = e.goes; returns = e.returns }, lower))

    -- each edge is there from one end or from the other, unless it has one corner alone
    pub Contains-for_edges : (e : Edge s) → Contains (for_edges halves) (f e.a e.b) ⊎ Contains (for_edges halves) (f e.b e.a) ⊎ (e.a ≡ e.b)
    Contains-for_edges e = by (cases_order e.half e.other)
      where
        by : (e.half ≡ e.other) ⊎ (e.half < e.other) ⊎ (e.other < e.half) → Contains (for_edges halves) (f e.a e.b) ⊎ Contains (for_edges halves) (f e.b e.a) ⊎ (e.a ≡ e.b)
        by (inl same) = inr (inr (one_corner e same))
        by (inr (inl lower)) = inl (by_lower e lower)
        by (inr (inr higher)) = inr (inl (by_lower (turned_edge e) higher))

-- ---- triangles
module _ {A : Type 0} (f : Corner → Corner → Corner → A) (s : Part) where
  abbrev of_three : Option Corner → Option Corner → Option Corner → List A
  of_three (Some a) (Some b) (Some c) = f a b c ∷ []
  of_three (Some a) (Some b) None = []
  of_three (Some a) None c = []
  of_three None b c = []

  abbrev of_triangle : Tri → List A
  of_triangle t = of_three (slice_get s.corners t.a) (slice_get s.corners t.b) (slice_get s.corners t.c)

  abbrev pub for_faces : List A
  for_faces = flat_map of_triangle s.triangles

  of_three-few : (a b c : Option Corner) → length (of_three a b c) ≤ 1
  of_three-few (Some a) (Some b) (Some c) = omega arith
  of_three-few (Some a) (Some b) None = omega arith
  of_three-few (Some a) None c = omega arith
  of_three-few None b c = omega arith

  pub for_faces-few : length for_faces ≤ 1 * length s.triangles
  for_faces-few = length-flat_map-few of_triangle 1 (λ t. of_three-few (slice_get s.corners t.a) (slice_get s.corners t.b) (slice_get s.corners t.c)) s.triangles

  pub Contains-for_faces : (face : Face s) → Contains for_faces (f face.a face.b face.c)
  Contains-for_faces face =
      Contains-flat_map of_triangle s.triangles face.tri (f face.a face.b face.c) (Contains-listed s.triangles face.number face.tri face.listed)
      (subst (λ (ys : List A). Contains ys (f face.a face.b face.c)) (λ i. of_three (sym face.at_a i) (sym face.at_b i) (sym face.at_c i)) (Contains-first (f face.a face.b face.c) []))
