use Rattle.std.proofs.Common.{ap, ◌∙◌, le_trans, lit≤}
use Rattle.lattice.specs.Points.{of_vector}
use Rattle.lattice.specs.Triple.{Triple, dot}
use Rattle.flip_slivers.proofs.HeightLemmas.{part_read, square_of_parts}
use Rattle.flip_slivers.proofs.heights.side_between.Goals as goal

pub returns-clause-value : goal.returns-clause-value
returns-clause-value c =
    let way = c.between-way.result in
    square_of_parts (of_vector way) c.side_part.result c.side_part-2.result c.side_part-3.result
    (part_read way.x c.side_part.result (le_trans way.x_in_range (lit≤ tt)) c.side_part.ensures.value) (part_read way.y c.side_part-2.result (le_trans way.y_in_range (lit≤ tt)) c.side_part-2.ensures.value)
    (part_read way.z c.side_part-3.result (le_trans way.z_in_range (lit≤ tt)) c.side_part-3.ensures.value)
    ∙ ap (λ (s : Triple). dot s s) c.between-way.ensures
