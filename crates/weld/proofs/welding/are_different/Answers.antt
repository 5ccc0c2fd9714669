use Rattle.std.proofs.Common.{true, sym, ◌∙◌}
use Rattle.weld.specs.Welds.{are_different}
use Rattle.weld.proofs.PlaceLemmas.{different_by_tests, vertex_read}
use Rattle.weld.proofs.welding.are_different.Goals as goal
use Rattle.weld.proofs.welding.are_different.Goals.{then-ne, else-ne}

pub returns-then-ne-2 : goal.returns-then-ne-2
returns-then-ne-2 c =
    let corners = c.args.corners.now in
    let a = c.place_of-a.ensures ∙ vertex_read corners c.args.triangle.now.a c.index-corners-triangle.result c.requires.a c.index-corners-triangle.is in
    let b = c.place_of-b.ensures ∙ vertex_read corners c.args.triangle.now.b c.index-corners-triangle-2.result c.requires.b c.index-corners-triangle-2.is in
    let d = c.place_of-c.ensures ∙ vertex_read corners c.args.triangle.now.c c.index-corners-triangle-3.result c.requires.c c.index-corners-triangle-3.is in
    elim c.if-ne.branch [
      | then-ne w ↦
          different_by_tests c.place_of-a.result c.place_of-b.result c.place_of-c.result true true c.ne-then-ne-2.result (sym w.if-ne.true ∙ c.ne.ensures) (sym c.if-ne-2.true ∙ w.value-is ∙ w.ne-then-ne.ensures) c.ne-then-ne-2.ensures
          ∙ (λ i. are_different (a i, b i, d i))
      | else-ne w ↦ cc
    ]
