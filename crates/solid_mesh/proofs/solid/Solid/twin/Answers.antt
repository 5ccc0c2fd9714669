use Rattle.std.proofs.Common.{◌*◌, ℕ, ◌<◌, length, subst, arith}
use Rattle.geometry.specs.Parts.{IsTwin}
use Rattle.solid_mesh.specs.Solids.{solid_part}
use Rattle.solid_mesh.proofs.HalfLemmas.{read_number, table_twin}
use Rattle.solid_mesh.proofs.solid.Solid.twin.Goals as goal

pub returns-clause-twin : goal.returns-clause-twin
returns-clause-twin c =
    let s = c.args.self.now in
    let within : c.args.half < length s.twins.items = omega (arith, s.paired.for_each) in
    let P : ℕ → Type 0 = λ other. IsTwin (solid_part s) c.args.half other in
    subst P (read_number s.twins.items c.args.half _ within c.index.ensures) (table_twin (solid_part s) s.twins.items s.paired c.args.half within)

pub returns-clause-within : goal.returns-clause-within
returns-clause-within c =
    let s = c.args.self.now in
    let within : c.args.half < length s.twins.items = omega (arith, s.paired.for_each) in
    let P : ℕ → Type 0 = λ other. other < 3 * length s.triangles.items in
    subst P (read_number s.twins.items c.args.half _ within c.index.ensures) (s.paired.back c.args.half within).within
