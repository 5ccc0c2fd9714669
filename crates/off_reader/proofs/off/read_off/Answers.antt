use Rattle.std.proofs.Common.{◌≡◌, map, None, Err, sym, Vec, Global, rules}
use Rattle.lattice.specs.declared.points.Corner.{Corner}
use Rattle.lattice.specs.declared.soup.Tri.{Tri}
use Rattle.lattice.specs.Points.{of_corner}
use Rattle.off_reader.specs.Off.{Faces}
use Rattle.part_text.specs.Steps.{Times}
use Rattle.part_text.specs.Vertices.{Vertex}
use Rattle.part_text.proofs.FirstZero.{no_zero}
use Rattle.off_reader.proofs.Whole.{error_answer, end_answer, vertices_fail, faces_fail}
use Rattle.off_reader.proofs.off.read_off.Goals as goal

pub returns-in-Err-read_vertices : goal.returns-in-Err-read_vertices
returns-in-Err-read_vertices c =
    let none : c.zero_line.result ≡ None = search rules in
    error_answer c.args.decimals c.args.unit c.args.bytes.now (Times c.in-Ok.header.vertices (Vertex c.args.decimals c.args.unit c.args.bytes.now) c.read_header.new.tokens.left) (λ (v : Vec Corner Global). map of_corner v.items) c.in-Err-read_vertices.error c.new-tokens.result.left c.read_vertices.new.tokens.left
    (no_zero c.args.bytes.now _ c.zero_line.ensures none) c.new-tokens.ensures.tokens
    (λ fault h. vertices_fail c.args.decimals c.args.unit c.args.bytes.now c.in-Ok.header.vertices c.in-Ok.header.faces c.new-tokens.result.left c.read_header.new.tokens.left fault c.in-Ok.ensures.step h)
    c.in-Err-read_vertices.ensures.step

pub returns-in-Err-read_faces : goal.returns-in-Err-read_faces
returns-in-Err-read_faces c =
    let none : c.zero_line.result ≡ None = search rules in
    let corners : c.deref.result.now ≡ c.in-Ok-read_vertices.corners.items = c.deref.ensures.value in
    error_answer c.args.decimals c.args.unit c.args.bytes.now (Faces c.args.bytes.now (map of_corner c.deref.result.now) c.in-Ok.header.faces 0 0 c.read_vertices.new.tokens.left) (λ (v : Vec Tri Global). v.items) c.in-Err-read_faces.error c.new-tokens.result.left c.read_faces.new.tokens.left
    (no_zero c.args.bytes.now _ c.zero_line.ensures none) c.new-tokens.ensures.tokens
    (λ fault h. faces_fail c.args.decimals c.args.unit c.args.bytes.now c.in-Ok.header.vertices c.in-Ok.header.faces c.new-tokens.result.left c.read_header.new.tokens.left c.read_vertices.new.tokens.left (map of_corner c.deref.result.now) fault c.in-Ok.ensures.step (rw corners (c.in-Ok-read_vertices.ensures.step)) h)
    c.in-Err-read_faces.ensures.step

pub returns-in-Ok-at_end : goal.returns-in-Ok-at_end
returns-in-Ok-at_end c =
    let none : c.zero_line.result ≡ None = search rules in
    let corners : c.in-Ok-read_vertices.corners.items ≡ c.deref.result.now = sym (c.deref.ensures.value) in
    end_answer c.args.decimals c.args.unit c.args.bytes.now c.in-Ok.header.vertices c.in-Ok.header.faces c.new-tokens.result.left c.read_header.new.tokens.left c.read_vertices.new.tokens.left c.read_faces.new.tokens.left (map of_corner c.in-Ok-read_vertices.corners.items) c.in-Ok-read_faces.triangles.items _
    (no_zero c.args.bytes.now _ c.zero_line.ensures none) c.new-tokens.ensures.tokens c.in-Ok.ensures.step c.in-Ok-read_vertices.ensures.step (rw corners (c.in-Ok-read_faces.ensures.step))
    (c.in-Ok-at_end.ensures (record { vertices = map of_corner c.in-Ok-read_vertices.corners.items; triangles = c.in-Ok-read_faces.triangles.items }))

pub returns-in-Err-at_end : goal.returns-in-Err-at_end
returns-in-Err-at_end c =
    let none : c.zero_line.result ≡ None = search rules in
    let corners : c.in-Ok-read_vertices.corners.items ≡ c.deref.result.now = sym (c.deref.ensures.value) in
    end_answer c.args.decimals c.args.unit c.args.bytes.now c.in-Ok.header.vertices c.in-Ok.header.faces c.new-tokens.result.left c.read_header.new.tokens.left c.read_vertices.new.tokens.left c.read_faces.new.tokens.left (map of_corner c.in-Ok-read_vertices.corners.items) c.in-Ok-read_faces.triangles.items (Err c.in-Err-at_end.fault)
    (no_zero c.args.bytes.now _ c.zero_line.ensures none) c.new-tokens.ensures.tokens c.in-Ok.ensures.step c.in-Ok-read_vertices.ensures.step (rw corners (c.in-Ok-read_faces.ensures.step))
    (c.in-Err-at_end.ensures (record { vertices = map of_corner c.in-Ok-read_vertices.corners.items; triangles = c.in-Ok-read_faces.triangles.items }))
