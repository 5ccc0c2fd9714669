use Rattle.std.proofs.Common.{ap, ◌∙◌}
use Rattle.lattice.specs.Points.{of_vector, of_normal, difference}
use Rattle.lattice.specs.Triple.{Triple, dot, cross}
use Rattle.flip_slivers.proofs.HeightLemmas.{part_read, square_of_parts}
use Rattle.flip_slivers.proofs.heights.area_between.Goals as goal

pub returns-clause-value : goal.returns-clause-value
returns-clause-value c =
    let n = c.cross-normal.result in
    square_of_parts (of_normal n) c.area_part.result c.area_part-2.result c.area_part-3.result
    (part_read n.x c.area_part.result n.x_in_range c.area_part.ensures.value) (part_read n.y c.area_part-2.result n.y_in_range c.area_part-2.ensures.value) (part_read n.z c.area_part-3.result n.z_in_range c.area_part-3.ensures.value)
    ∙ ap (λ (s : Triple). dot s s)
    (c.cross-normal.ensures ∙ ap (λ (v : Triple). cross v (of_vector c.between-2.result)) c.between.ensures ∙ ap (cross (difference c.args.a.now c.args.b.now)) c.between-2.ensures)
