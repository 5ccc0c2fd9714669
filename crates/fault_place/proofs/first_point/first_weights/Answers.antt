use Rattle.std.proofs.Common.{◌∙◌, sym, subst, pos, ◌<ℤ◌}
use Rattle.lattice.specs.Points.{of_normal}
use Rattle.lattice.specs.Triple.{Triple, dot, cross}
use Rattle.lattice.proofs.Vectors.{dot_somewhere}
use Rattle.geometry.specs.Faces.{normal}
use Rattle.fault_place.proofs.FirstWeights.{first_at}
use Rattle.fault_place.proofs.first_point.first_weights.Goals as goal

pub returns : goal.returns
returns c =
    let s = c.args in
    let across = normal s.a.now s.b.now s.c.now in
    let is = c.cross-normal.ensures ∙ (λ i. cross (c.between.ensures i) (c.between-2.ensures i)) in
    let front = subst (λ (d : Triple). pos 0 <ℤ dot d across) (sym is) (dot_somewhere across c.requires.not_flat) in
    first_at s.a.now s.b.now s.c.now s.p.now s.q.now (of_normal c.cross-normal.result) front c.heights.result c.offsets.result c.offsets-2.result c.offsets-3.result
    c.crossing-in_plane.result c.entry-over_bc.result c.entry-over_ca.result c.entry-over_ab.result c.later-2.result c.later.result c.later-3.result
    c.heights.ensures c.offsets.ensures c.offsets-2.ensures c.offsets-3.ensures c.crossing-in_plane.ensures c.entry-over_bc.ensures c.entry-over_ca.ensures c.entry-over_ab.ensures
    c.later.ensures c.later-2.ensures c.later-3.ensures c.requires.touch
