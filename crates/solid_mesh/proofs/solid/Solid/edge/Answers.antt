use Rattle.std.proofs.Common.{◌≡◌, ℕ, ◌*◌, ◌<◌, ◌/◌, length, get_or, slice_get, Some, refl, sym, subst, arith}
use Rattle.std.proofs.lemmas.Option.{slice_get_read}
use Rattle.geometry.specs.Parts.{IsHalf}
use Rattle.solid_mesh.specs.Solids.{solid_part, edge_halves}
use Rattle.solid_mesh.specs.declared.solid.Solid.{Solid}
use Rattle.solid_mesh.proofs.EdgeLemmas.{edge_along, edge_within, same_numbers}
use Rattle.solid_mesh.proofs.Facts.{halves_within}
use Rattle.solid_mesh.proofs.HalfLemmas.{read_number, table_returns}
use Rattle.solid_mesh.proofs.solid.Solid.edge.Goals as goal

-- the half that was read is a half
half_read : (s : Solid) (i half : ℕ) → i < length (edge_halves s) → half ≡ get_or (edge_halves s) i half → half < 3 * length (solid_part s).triangles
half_read s i half h e = let w = halves_within s i half h in omega (arith, w, e)

pub index-other-requires : goal.index-other-requires
index-other-requires c =
    let s = c.args.self.now in
    omega (arith, half_read s c.args.i c.index-half.result.now c.requires c.index-half.ensures, s.paired.for_each, s.twins.ok.0)

pub index-requires : goal.index-requires
index-requires c =
    let s = c.args.self.now in
    omega (arith, half_read s c.args.i c.index-half.result.now c.requires c.index-half.ensures, s.triangles.ok.0)

pub returns-clause-edge : goal.returns-clause-edge
returns-clause-edge c =
    let s = c.args.self.now in
    let half = c.index-half.result.now in
    let other = c.index-other.result.now in
    let within : half < 3 * length s.triangles.items = half_read s c.args.i half c.requires c.index-half.ensures in
    let tri_within : half / 3 < length s.triangles.items = omega arith in
    let table_within : half < length s.twins.items = omega (arith, s.paired.for_each) in
    let goes : IsHalf (solid_part s) half c.ends-a.result.0 c.ends-a.result.1 = record {
      tri = c.index.result.now;
      at = slice_get_read s.triangles.items (length s.triangles.items) (half / 3) c.index.result.now refl tri_within c.index.ensures;
      start = sym c.ends-a.ensures.start;
      end = sym c.ends-a.ensures.end;
    } in
    let P : ℕ → Type 0 = λ k. IsHalf (solid_part s) k c.ends-a.result.1 c.ends-a.result.0 in
    let returns : IsHalf (solid_part s) other c.ends-a.result.1 c.ends-a.result.0 =
    subst P (read_number s.twins.items half other table_within c.index-other.ensures) (table_returns (solid_part s) s.twins.items s.paired half goes) in
    let listed : slice_get (edge_halves s) c.args.i ≡ Some half = slice_get_read (edge_halves s) (length (edge_halves s)) c.args.i half refl c.requires c.index-half.ensures in
    edge_along (solid_part s) s.in_range (edge_halves s) c.args.i half other _ _ listed goes returns

pub returns-clause-within : goal.returns-clause-within
returns-clause-within c = edge_within (solid_part c.args.self.now) (edge_halves c.args.self.now) c.args.i _ (returns-clause-edge c)

pub returns-clause-each : goal.returns-clause-each
returns-clause-each c e numbered =
    let s = c.args.self.now in
    same_numbers (solid_part s) s.once (edge_halves s) c.args.i _ (returns-clause-edge c) e numbered
