use Rattle.std.proofs.Common.{◌≡◌, ℕ, ◌++◌, [], ◌∷◌, List, Some, length, take, get_or, slice_get, sym, ap, subst, ◌∙◌, arith, length-append}
use Rattle.std.specs.List.{All}
use Rattle.std.proofs.lemmas.List.{take_more, take_all}
use Rattle.std.proofs.lemmas.List.Elements.{All-push}
use Rattle.std.proofs.lemmas.Option.{slice_get-get_or}
use Rattle.solid_mesh.specs.Solids.{solid_part, edge_halves}
use Rattle.edge_pick.specs.declared.order.EdgeCorners.{EdgeCorners}
use Rattle.edge_pick.specs.inner.Numberings.{AreCornersOf, HasEdge}
use Rattle.edge_pick.proofs.EdgePlaces.{corners_none, corners_more}
use Rattle.edge_pick.proofs.runs.corners_of.Goals as goal

pub loop-edge-init : goal.loop-edge-init
loop-edge-init c =
    let edges = c.new-edges.result.items in
    record {
      long = ap (λ (xs : List EdgeCorners). length xs) c.new-edges.ensures.items;
      each = λ k d l. absurd (omega (arith, l));
      right = corners_none (solid_part c.args.solid.now) (edge_halves c.args.solid.now) c.args.drawn.now edges c.new-edges.ensures.items;
    }

pub loop-edge-preserved : goal.loop-edge-preserved
loop-edge-preserved c =
    let s = solid_part c.args.solid.now in
    let halves = edge_halves c.args.solid.now in
    let drawn = c.args.drawn.now in
    let edges = c.loop-edge.edges.items in
    let k = c.loop-edge.edge-index in
    let i = get_or drawn k 0 in
    let numbers = c.edge-numbers.result in
    let given = c.edge-numbers.ensures.edge in
    let pushed : c.push.new.self.items ≡ edges ++ record { a = numbers.a; b = numbers.b } ∷ [] = c.in_ok-push.ensures.items in
    let at : slice_get drawn (length edges) ≡ Some i = subst (λ (n : ℕ). slice_get drawn n ≡ Some i) (sym c.loop-edge.invariant.long) (slice_get-get_or drawn k 0 c.loop-edge-test.true) in
    record {
      long = ap (λ (xs : List EdgeCorners). length xs) pushed ∙ omega (arith, length-append edges (record { a = numbers.a; b = numbers.b } ∷ []), c.loop-edge.invariant.long);
      each = subst (λ (xs : List ℕ). All (HasEdge s halves) xs) (sym (take_more drawn k 0 c.loop-edge-test.true))
          (All-push (HasEdge s halves) (take k drawn) i c.loop-edge.invariant.each (record { edge = given.edge; numbered = given.numbered }));
      right = subst (AreCornersOf s halves drawn) (sym pushed) (corners_more s halves drawn edges i numbers c.loop-edge.invariant.right at c.edge-numbers.ensures.each);
    }

pub returns-clause-for_each : goal.returns-clause-for_each
returns-clause-for_each c = omega (arith, c.loop-edge.invariant.long)

pub returns-clause-edges : goal.returns-clause-edges
returns-clause-edges c =
    subst (λ (xs : List ℕ). All (HasEdge (solid_part c.args.solid.now) (edge_halves c.args.solid.now)) xs) (take_all c.loop-edge.edge-index c.args.drawn.now (omega arith)) c.loop-edge.invariant.each
