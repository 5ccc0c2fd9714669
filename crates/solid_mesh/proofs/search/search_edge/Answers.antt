use Rattle.std.proofs.Common.{◌≡◌, ℕ, ◌+◌, ◌-◌, ◌≤◌, Option, length, sym, subst, arith}
use Rattle.std.specs.Prelude.{IfSome}
use Rattle.geometry.specs.Parts.{part_of}
use Rattle.solid_mesh.specs.inner.Searches.{Searched, IsOfPlaces}
use Rattle.solid_mesh.specs.declared.search.Meeting.{Meeting}
use Rattle.solid_mesh.proofs.SearchedEdges.{places_none, places_more, places_all}
use Rattle.solid_mesh.proofs.search.search_edge.Goals as goal

pub loop-end-init : goal.loop-end-init
loop-end-init c = record {
  low = omega arith;
  searched = places_none (part_of c.args.soup.now) c.args.halves.now c.args.edge c.args.placed.now (length c.args.subtrees.now) c.args.found.now;
  here = subst (λ (first : Option Meeting). IfSome first (λ m. m.edge ≡ c.args.edge)) (sym c.requires.none) tt;
  boxes = omega arith;
  pairs = omega arith;
}

pub loop-end-preserved : goal.loop-end-preserved
loop-end-preserved c =
    let s = part_of c.args.soup.now in
    let halves = c.args.halves.now in
    let placed = c.args.placed.now in
    let end = c.loop-end.end in
    let before = c.visit-end.result in
    let next : (end - 1) + 1 ≡ end = omega (arith, c.loop-end-test.true) in
    let visited = subst (λ (n : ℕ). Searched s halves (IsOfPlaces s halves c.args.edge placed before n) c.loop-end.found c.visit-end.new.found) next c.visit-end.ensures.searched in
    let less : before ≤ end = omega (arith, c.visit-end.ensures.low) in
    record {
      low = omega (arith, less, c.loop-end.invariant.low);
      searched = places_more s halves c.args.edge placed c.requires.placed before end (length c.args.subtrees.now) less c.loop-end.invariant.low _ _ _ c.loop-end.invariant.searched visited;
      here = c.visit-end.ensures.here c.loop-end.invariant.here;
      boxes = omega (arith, c.loop-end.invariant.boxes, c.visit-end.ensures.boxes, c.visit-end.ensures.low, c.loop-end-test.true);
      pairs = omega (arith, c.loop-end.invariant.pairs, c.visit-end.ensures.pairs, c.visit-end.ensures.low, c.loop-end-test.true);
    }

pub returns-clause-searched : goal.returns-clause-searched
returns-clause-searched c =
    let s = part_of c.args.soup.now in
    let halves = c.args.halves.now in
    let placed = c.args.placed.now in
    let none : c.loop-end.end ≡ 0 = omega (arith, c.loop-end-test.false) in
    places_all s halves c.args.edge placed c.requires.placed (length c.args.subtrees.now) c.requires.count c.args.found.now c.loop-end.found
    (subst (λ (n : ℕ). Searched s halves (IsOfPlaces s halves c.args.edge placed n (length c.args.subtrees.now)) c.args.found.now c.loop-end.found) none c.loop-end.invariant.searched)
