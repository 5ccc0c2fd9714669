-- What each solid keeps, for the crates above.
use Rattle.std.proofs.Common.{ℕ, ◌*◌, ◌<◌, ◌≤◌, List, All, length, get_or, sym, subst, ap, arith}
use Rattle.std.proofs.lemmas.Option.{slice_get-get_or}
use Rattle.std.proofs.lemmas.List.Elements.{Contains-get_or}
use Rattle.lattice.specs.Triangles.{IsBelow}
use Rattle.geometry.specs.Parts.{Edge, IsClosed, HasNoDouble, AreEdges, IsNumbered}
use Rattle.geometry.specs.Sound.{MeetInSharedCorners, IsSound}
use Rattle.integers.proofs.Passing as passing
use Rattle.solid_mesh.specs.inner.Halves.{is_lower}
use Rattle.solid_mesh.specs.Solids.{solid_part, edge_halves}
use Rattle.solid_mesh.specs.declared.solid.Solid.{Solid}
use Rattle.solid_mesh.proofs.Apart.{shared_only}
use Rattle.solid_mesh.proofs.EdgeLemmas.{edge_along}
use Rattle.solid_mesh.proofs.HalfLemmas.{table_closed, table_edges}

module _ (s : Solid) where
  pub some_triangle : 0 < length (solid_part s).triangles
  some_triangle = s.some_triangle

  pub few_corners : length (solid_part s).corners ≤ 60000
  few_corners = s.few_corners

  pub few_triangles : length (solid_part s).triangles ≤ 20000
  few_triangles = s.few_triangles

  -- the numbers of each triangle's corners are in range
  pub in_range : All (IsBelow (length (solid_part s).corners)) (solid_part s).triangles
  in_range = s.in_range

  pub closed : IsClosed (solid_part s)
  closed = table_closed (solid_part s) s.twins.items s.paired s.none_flat s.once

  pub no_double : HasNoDouble (solid_part s)
  no_double = s.no_double

  -- edges meet faces in shared corners only
  pub apart : MeetInSharedCorners (solid_part s)
  apart = shared_only (solid_part s) closed s.apart

  pub sound : IsSound (solid_part s)
  sound = record { some = some_triangle; closed = closed; no_double = no_double; apart = apart }

  -- the edges' halves are halves, of which there are three a triangle
  pub halves_within : All (λ half. half < 3 * length (solid_part s).triangles) (edge_halves s)
  halves_within k d h =
      let P : List ℕ → Type 0 = λ xs. All (λ half. half < length s.twins.items) xs in
      let below : All (λ half. half < length s.twins.items) s.lower_halves.items = subst P (sym s.lower) (passing.below (is_lower s.twins.items) (length s.twins.items)) in
      omega (arith, s.paired.for_each, below k d h)

  -- there are at most 60,000 edges
  pub few_edges : length (edge_halves s) ≤ 60000
  few_edges = omega (arith, s.few_triangles, s.paired.for_each, ap length s.lower, passing.few (is_lower s.twins.items) (length s.twins.items))

  pub edges_are : AreEdges (solid_part s) (edge_halves s)
  edges_are = subst (AreEdges (solid_part s)) (sym s.lower) (table_edges (solid_part s) s.twins.items s.paired s.once)

  -- each number is that of an edge
  pub edge_there : (i : ℕ) → i < length (edge_halves s) → (e : Edge (solid_part s)) × IsNumbered (edge_halves s) i e
  edge_there i h =
      let half = get_or (edge_halves s) i 0 in
      let (other, twin, less) = (edges_are.exactly half).0 (Contains-get_or (edge_halves s) i 0 h) in
      let found = edge_along (solid_part s) s.in_range (edge_halves s) i half other twin.m twin.n (slice_get-get_or (edge_halves s) i 0 h) twin.goes twin.returns in
      (found.edge, found.numbered)
