use Rattle.std.proofs.Common.{◌≡◌, ℕ, ◌++◌, [], ◌∷◌, List, Some, length, get_or, slice_get, sym, ap, subst, ◌∙◌, arith, length-append}
use Rattle.std.proofs.lemmas.Option.{slice_get-get_or}
use Rattle.edge_pick.specs.declared.order.EdgeCorners.{EdgeCorners}
use Rattle.edge_pick.specs.inner.Numberings.{AreCornersOf}
use Rattle.edge_pick.proofs.EdgePlaces.{corners_none, corners_more}
use Rattle.span_count.proofs.order.corners_of.Goals as goal

pub loop-edge-init : goal.loop-edge-init
loop-edge-init g c =
    let edges = c.new-edges.result.items in
    record { long = ap (λ (xs : List EdgeCorners). length xs) c.new-edges.ensures.items; right = corners_none (g.S.Sight.sight c.args.sight.now).part (g.S.Sight.sight c.args.sight.now).halves c.args.drawn.now edges c.new-edges.ensures.items }

pub loop-edge-preserved : goal.loop-edge-preserved
loop-edge-preserved g c =
    let x = g.S.Sight.sight c.args.sight.now in
    let drawn = c.args.drawn.now in
    let edges = c.loop-edge.edges.items in
    let k = c.loop-edge.edge-index in
    let i = get_or drawn k 0 in
    let numbers = c.edge-numbers.result in
    let pushed : c.push.new.self.items ≡ edges ++ record { a = numbers.a; b = numbers.b } ∷ [] = c.in_ok-push.ensures.items in
    let at : slice_get drawn (length edges) ≡ Some i = subst (λ (n : ℕ). slice_get drawn n ≡ Some i) (sym c.loop-edge.invariant.long) (slice_get-get_or drawn k 0 c.loop-edge-test.true) in
    record {
      long = ap (λ (xs : List EdgeCorners). length xs) pushed ∙ omega (arith, length-append edges (record { a = numbers.a; b = numbers.b } ∷ []), c.loop-edge.invariant.long);
      right = subst (AreCornersOf x.part x.halves drawn) (sym pushed) (corners_more x.part x.halves drawn edges i numbers c.loop-edge.invariant.right at c.edge-numbers.ensures);
    }
