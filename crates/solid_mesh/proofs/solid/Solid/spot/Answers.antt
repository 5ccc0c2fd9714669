use Rattle.std.proofs.Common.{◌≡◌, sym, subst, ◌∙◌}
use Rattle.geometry.specs.Faces.{share_point, IsPointOfEdge}
use Rattle.solid_mesh.specs.Solids.{solid_part}
use Rattle.geometry.proofs.Listed.{same_element}
use Rattle.solid_mesh.proofs.SpotLemmas.{share_on_edge}
use Rattle.solid_mesh.proofs.solid.Solid.spot.Goals as goal

pub returns-clause-at : goal.returns-clause-at
returns-clause-at c e numbered =
    let s = solid_part c.args.self.now in
    let numbers = c.edge-a.ensures.each e numbered in
    let a : e.a ≡ c.corner.result = same_element s.corners e.m c.edge-a.result.a e.a c.corner.result numbers.a e.at_m c.corner.ensures in
    let b : e.b ≡ c.corner-2.result = same_element s.corners e.n c.edge-a.result.b e.b c.corner-2.result numbers.b e.at_n c.corner-2.ensures in
    c.spot_at.ensures ∙ (λ i. share_point (sym a i) (sym b i) c.args.t.now.num c.args.t.now.den)

pub returns-clause-on_edge : goal.returns-clause-on_edge
returns-clause-on_edge c e numbered =
    let t = c.args.t.now in
    subst (IsPointOfEdge e.a e.b) (sym (returns-clause-at c e numbered)) (share_on_edge e.a e.b t.num t.den c.requires.from_start c.requires.to_end t.positive)
