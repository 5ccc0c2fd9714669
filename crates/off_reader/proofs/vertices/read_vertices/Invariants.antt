use Rattle.std.proofs.Common.{◌≡◌, map, vec_len, Ok}
use Rattle.lattice.specs.Points.{of_corner}
use Rattle.part_text.specs.Steps.{Times}
use Rattle.part_text.specs.Vertices.{Vertex}
use Rattle.off_reader.proofs.vertices.read_vertices.Given as goal

abbrev pub invariant-loop : goal.invariant-loop
invariant-loop l = record {
  read : Times l.counter (Vertex l.decimals l.unit l.bytes) l.fn.tokens.left (Ok (map of_corner l.vertices.items, l.tokens.left));
  count : vec_len l.vertices ≡ l.counter;
  text : l.tokens.text ≡ l.fn.tokens.text;
  comments : l.tokens.comments ≡ l.fn.tokens.comments;
}
