use Rattle.std.proofs.Common.{◌≡◌, length, sym, ◌∙◌, arith}
use Rattle.geometry.specs.Parts.{part_of}
use Rattle.solid_mesh.proofs.SearchedEdges.{edges_none, edges_more, edges_all, edges_found, none_found}
use Rattle.solid_mesh.proofs.search.search.Goals as goal

pub loop-edge-init : goal.loop-edge-init
loop-edge-init c = record {
  searched = edges_none (part_of c.args.soup.now) c.args.halves.now c.args.found.now;
  none = c.requires.none;
  boxes = omega (arith, c.requires.boxes);
  pairs = omega (arith, c.requires.pairs);
}

pub returns-then-is_some-clause-searched : goal.returns-then-is_some-clause-searched
returns-then-is_some-clause-searched c =
    let s = part_of c.args.soup.now in
    edges_found s c.args.halves.now c.loop-edge.edge c.args.found.now c.search_edge.new.found (sym c.is_some.ensures ∙ c.if-is_some.true) c.search_edge.ensures.here
    (edges_more s c.args.halves.now c.loop-edge.edge _ _ _ c.loop-edge.invariant.searched c.search_edge.ensures.searched)

pub loop-edge-preserved : goal.loop-edge-preserved
loop-edge-preserved c = record {
  searched = edges_more (part_of c.args.soup.now) c.args.halves.now c.loop-edge.edge _ _ _ c.loop-edge.invariant.searched c.search_edge.ensures.searched;
  none = none_found c.search_edge.new.found.first (sym c.is_some.ensures ∙ c.if-is_some.false);
  boxes = omega (arith, c.loop-edge.invariant.boxes, c.search_edge.ensures.boxes);
  pairs = omega (arith, c.loop-edge.invariant.pairs, c.search_edge.ensures.pairs);
}

pub returns-clause-searched : goal.returns-clause-searched
returns-clause-searched c =
    let all : c.loop-edge.edge ≡ length c.args.halves.now = omega arith in
    edges_all (part_of c.args.soup.now) c.args.halves.now c.loop-edge.edge all _ _ c.loop-edge.invariant.searched
