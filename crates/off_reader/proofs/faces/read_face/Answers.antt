use Rattle.std.proofs.Common.{length, map, Global, Vec}
use Rattle.std.proofs.lemmas.List.{length-map}
use Rattle.lattice.specs.Points.{of_corner}
use Rattle.lattice.specs.declared.soup.Tri.{Tri}
use Rattle.off_reader.specs.declared.faces.Indices.{Indices}
use Rattle.off_reader.specs.Off.{Face}
use Rattle.off_reader.specs.inner.Rows.{Numbers}
use Rattle.part_text.proofs.Again.{made_so, error_so}
use Rattle.off_reader.proofs.Rows.{face_passed, numbers_fail}
use Rattle.off_reader.proofs.faces.read_face.Goals as goal

pub returns-in-Err-read_indices-clause-step : goal.returns-in-Err-read_indices-clause-step
returns-in-Err-read_indices-clause-step c =
    error_so
    (Numbers c.args.bytes.now (length c.args.vertices.now) c.in-Ok.size.value c.read_size.new.tokens.left)
    (Face c.args.bytes.now (map of_corner c.args.vertices.now) c.args.number c.args.before c.args.tokens.now.left)
    (λ (i : Indices). (i.numbers.items, i.line)) (λ (v : Vec Tri Global). v.items) c.in-Err-read_indices.error c.read_indices.new.tokens.left _
    (λ fault h.
    numbers_fail c.args.bytes.now (map of_corner c.args.vertices.now) c.args.number c.args.before c.in-Ok.size.value c.in-Ok.size.line _ c.read_size.new.tokens.left fault c.in-Ok.ensures.step
    (rw (length-map c.args.vertices.now of_corner) h))
    c.in-Err-read_indices.ensures.step

pub returns-clause-step : goal.returns-clause-step
returns-clause-step c =
    made_so _ _ _ c.triangles_of.result c.skip_line.new.self.left
    (λ r h.
    face_passed c.args.bytes.now (map of_corner c.args.vertices.now) c.args.number c.args.before c.in-Ok.size.value c.in-Ok.size.line c.deref.result.now c.in-Ok-read_indices.indices.line _ _ c.read_size.new.tokens.left _ _ r c.in-Ok-read_indices.ensures.line c.skip_line.ensures.left c.in-Ok.ensures.step
    (rw (length-map c.args.vertices.now of_corner, c.deref.ensures.value) (c.in-Ok-read_indices.ensures.step)) h)
    (c.triangles_of.ensures.step c.skip_line.new.self.left)
