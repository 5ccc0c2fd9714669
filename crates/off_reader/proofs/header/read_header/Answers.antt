use Rattle.std.proofs.Common.{refl, Ok, Err, ◌∙◌}
use Rattle.part_text.proofs.Readings.{next_of, handed_on}
use Rattle.off_reader.proofs.header.read_header.Goals as goal

pub returns-in_err-_edges-clause-step : goal.returns-in_err-_edges-clause-step
returns-in_err-_edges-clause-step c = (
  Ok (tt, c.read_keyword.new.tokens.left),
  c.in_ok-read_keyword.ensures.step,
  (
    Ok (c.in_ok-vertices.vertices, c.read_limited.new.tokens.left),
    c.in_ok-vertices.ensures.step,
    (
      Ok (c.in_ok-faces.faces, c.read_limited-2.new.tokens.left),
      c.in_ok-faces.ensures.step,
      (Err c.in_err-_edges.field-0.0, next_of _ _ _ _ _ (c.read_limited-2.ensures.text ∙ c.read_limited.ensures.text ∙ c.read_keyword.ensures.text ∙ c.requires.same) c.in_err-_edges.ensures.step, handed_on _ _ _ _ c.from_residual-in_err-_edges.ensures.1),
    ),
  ),
)

pub returns-clause-step : goal.returns-clause-step
returns-clause-step c = (
  Ok (tt, c.read_keyword.new.tokens.left),
  c.in_ok-read_keyword.ensures.step,
  (
    Ok (c.in_ok-vertices.vertices, c.read_limited.new.tokens.left),
    c.in_ok-vertices.ensures.step,
    (
      Ok (c.in_ok-faces.faces, c.read_limited-2.new.tokens.left),
      c.in_ok-faces.ensures.step,
      (Ok (c.in_ok-_edges._edges, c.next_token.new.tokens.left), next_of _ _ _ _ _ (c.read_limited-2.ensures.text ∙ c.read_limited.ensures.text ∙ c.read_keyword.ensures.text ∙ c.requires.same) c.in_ok-_edges.ensures.step, refl),
    ),
  ),
)
