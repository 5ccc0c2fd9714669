use Rattle.std.proofs.Common.{List, ◌++◌, flat_map, ap, sym, ◌∙◌}
use Rattle.lattice.specs.declared.soup.Tri.{Tri}
use Rattle.sample_part.specs.Boxes.{below, cube_triangles}
use Rattle.sample_part.proofs.Numbered.{listed_more}
use Rattle.sample_part.proofs.sample.all_triangles.Goals as goal

pub loop-number-preserved : goal.loop-number-preserved
loop-number-preserved c =
    c.in_ok-extend_from_slice.ensures.items ∙ ap (λ (x : List Tri). x ++ c.triangles.result) c.loop-number.invariant
    ∙ ap (λ (x : List Tri). flat_map cube_triangles (below c.loop-number.number) ++ x) c.triangles.ensures
    ∙ sym (listed_more cube_triangles c.loop-number.number)
