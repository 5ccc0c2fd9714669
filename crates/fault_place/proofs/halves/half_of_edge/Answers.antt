use Rattle.std.proofs.Common.{◌≡◌, ◌*◌, length, sym, subst, ◌∙◌, arith}
use Rattle.geometry.specs.Parts.{part_of}
use Rattle.fault_place.specs.inner.Halves.{AreFirstEdges, IsHalfOfEdge}
use Rattle.fault_place.proofs.FirstHalves.{sides_more, edges_more, edges_same, edge_here, edge_passed}
use Rattle.fault_place.proofs.halves.half_of_edge.Goals as goal
use Rattle.fault_place.proofs.halves.half_of_edge.Goals.{then-not-contains+else-edges-edge, else-not-contains}

pub returns-then-edges-edge-clause-half : goal.returns-then-edges-edge-clause-half
returns-then-edges-edge-clause-half c =
    let s = part_of c.args.soup.now in
    let half = c.loop-half.half in
    let v = c.side_at-from.result in
    let goes = c.side_at-from.ensures in
    let invariant = c.loop-half.invariant in
    let sides = sides_more s half v goes c.loop-half.sides.keys c.insert.new.self.keys invariant.sides c.in_ok-insert.ensures.updates.0 in
    let here = edge_here s half v goes c.requires.closed c.insert.new.self.keys sides c.loop-half.edges invariant.edges (sym c.contains.ensures ∙ c.if-not-contains.true) in
    subst (λ edge. IsHalfOfEdge s edge half) c.if-edges-edge.true here

pub loop-half-preserved : goal.loop-half-preserved
loop-half-preserved c =
    let s = part_of c.args.soup.now in
    let half = c.loop-half.half in
    let v = c.side_at-from.result in
    let goes = c.side_at-from.ensures in
    let invariant = c.loop-half.invariant in
    let few = invariant.few in
    let sides = sides_more s half v goes c.loop-half.sides.keys c.insert.new.self.keys invariant.sides c.in_ok-insert.ensures.updates.0 in
    let more = edges_more s half v goes c.requires.closed c.insert.new.self.keys sides c.loop-half.edges invariant.edges in
    let same = edges_same s half v goes c.requires.closed c.insert.new.self.keys sides c.loop-half.edges invariant.edges in
    elim c.if-not-contains.branch [
      | then-not-contains+else-edges-edge w ↦
          let test = w.if-edges-edge.false in
          record {
            sides = sides;
            edges = rw w.edges-is (more (sym c.contains.ensures ∙ w.if-not-contains.true));
            few = rw w.edges-is (omega (arith, test, few));
          }
      | else-not-contains w ↦ record {
        sides = sides;
        edges = rw w.edges-is (same (sym c.contains.ensures ∙ w.if-not-contains.false));
        few = rw w.edges-is few;
      }
    ]

pub unreachable-requires : goal.unreachable-requires
unreachable-requires c =
    let s = part_of c.args.soup.now in
    let all : c.loop-half.half ≡ 3 * length s.triangles = omega (arith, c.args.soup.now.triangles.ok.0) in
    edge_passed s c.args.edge c.loop-half.edges c.requires.there (subst (λ half. AreFirstEdges s half c.loop-half.edges) all c.loop-half.invariant.edges) c.loop-half.invariant.few
