use Rattle.std.proofs.Common.{◌≡◌, ◌∙◌, length, map, rules, Vec, Global}
use Rattle.lattice.specs.declared.soup.Tri.{Tri}
use Rattle.lattice.specs.Points.{of_corner}
use Rattle.lattice.specs.Triangles.{IsBelow}
use Rattle.off_reader.specs.Off.{Face, Faces}
use Rattle.part_text.proofs.Again.{error_so}
use Rattle.off_reader.proofs.Rows.{faces_more, faces_fail, most_joined, below_joined}
use Rattle.off_reader.proofs.faces.read_faces.Goals as goal

pub returns-in-Err-clause-step : goal.returns-in-Err-clause-step
returns-in-Err-clause-step c =
    let before : c.len.result ≡ length c.loop-number.triangles.items = search rules in
    error_so
    (Face c.args.bytes.now (map of_corner c.args.vertices.now) c.loop-number.number c.len.result c.loop-number.tokens.left)
    (Faces c.args.bytes.now (map of_corner c.args.vertices.now) c.args.count 0 0 c.args.tokens.now.left)
    (λ (v : Vec Tri Global). v.items) (λ (v : Vec Tri Global). v.items) c.in-Err.error c.read_face.new.tokens.left _
    (λ fault h. faces_fail c.args.bytes.now (map of_corner c.args.vertices.now) c.loop-number.number c.args.count c.len.result _ c.loop-number.tokens.left c.loop-number.triangles.items fault c.loop-number-test.true before c.loop-number.invariant.step h)
    c.in-Err.ensures.step

pub loop-number-preserved : goal.loop-number-preserved
loop-number-preserved c =
    let before : c.len.result ≡ length c.loop-number.triangles.items = search rules in
    let joined = c.in_ok-append-in-Ok.ensures.items in
    record {
      step = faces_more c.args.bytes.now (map of_corner c.args.vertices.now) c.loop-number.number c.len.result _ c.loop-number.tokens.left _ c.loop-number.triangles.items c.in-Ok.face.items _ joined before c.loop-number.invariant.step c.in-Ok.ensures.step;
      text = c.in-Ok.ensures.text ∙ c.loop-number.invariant.text;
      below = below_joined (IsBelow (length c.args.vertices.now)) c.loop-number.triangles.items c.in-Ok.face.items _ joined c.loop-number.invariant.below c.in-Ok.ensures.below;
      most = most_joined c.len.result c.loop-number.triangles.items c.in-Ok.face.items _ joined before c.in-Ok.ensures.room;
    }
