use Rattle.std.proofs.Common.{◌≡◌, ℕ, ◌+◌, ◌<◌, ◌++◌, [], ◌∷◌, List, Bool, true, false, take, length, get_or, set, sym, ap, subst, ◌∙◌, arith, All, Contains}
use Rattle.std.proofs.lemmas.List.{take_more, take_all, get_or_default, map-set, get_or-map, length-map}
use Rattle.std.proofs.lemmas.List.Elements.{Contains-get_or}
use Rattle.smallvec.specs.SmallVec.{SmallVec}
use Rattle.edge_pick.specs.declared.order.EdgeCorners.{EdgeCorners}
use Rattle.edge_pick.specs.declared.order.DrawnEnd.{DrawnEnd}
use Rattle.edge_pick.specs.Orders.{corner_of}
use Rattle.edge_pick.specs.inner.Searches.{lists_of, AreEndsLeft, IsReached, IsSpread}
use Rattle.edge_pick.proofs.CornerEnds.{end_at}
use Rattle.edge_pick.proofs.OrderSearch.{reached_within, corner_inside, IsSpreading, spread_passed, spread_more, spread_all}
use Rattle.edge_pick.proofs.order_search.spread.Goals as goal
use Rattle.edge_pick.proofs.order_search.spread.Goals.{then-not-index+in_ok-push, else-not-index}

-- what was looked up at the corner are the ends left there
module _ (edges : List EdgeCorners) (from : DrawnEnd) (lists : List (SmallVec DrawnEnd)) (old : List Bool) (left : AreEndsLeft edges (lists_of lists) old) (within : from.place < length edges) (corner : ℕ) (is : corner ≡ corner_of edges from) where
  inside : corner < length lists
  inside = omega (arith, corner_inside edges (lists_of lists) old left from.place from.at_b within, length-map lists (λ (v : SmallVec DrawnEnd). v.items))

  module _ (x : SmallVec DrawnEnd) (xs : List DrawnEnd) (found : x ≡ get_or lists corner x) (items : xs ≡ x.items) where
    same_list : xs ≡ get_or (lists_of lists) corner []
    same_list = items ∙ ap (λ (v : SmallVec DrawnEnd). v.items) found ∙ sym (get_or-map (λ (v : SmallVec DrawnEnd). v.items) lists corner x [] inside)

    right : (i : ℕ) (d : DrawnEnd) → i < length xs → ((get_or xs i d).place < length edges) × (corner_of edges (get_or xs i d) ≡ corner)
    right i d l = left.right corner (get_or xs i d) (subst (λ (ys : List DrawnEnd). Contains ys (get_or xs i d)) same_list (Contains-get_or xs i d l))

-- a list with nothing in it is put back
emptied : (lists : List (SmallVec DrawnEnd)) (corner : ℕ) (new : SmallVec DrawnEnd) → new.items ≡ [] → lists_of (set lists corner new) ≡ set (lists_of lists) corner []
emptied lists corner new e = map-set (λ (v : SmallVec DrawnEnd). v.items) lists corner new ∙ ap (set (lists_of lists) corner) e

pub index-requires-in-loop-to : goal.index-requires-in-loop-to
index-requires-in-loop-to c =
    let within = reached_within c.args.edges.now c.args.reached.now.items c.args.steps.now.items c.requires.search c.args.from.place c.requires.from in
    let r = right c.args.edges.now c.args.from c.args.lists.now.items c.args.reached.now.items c.requires.ends within c.number_of-corner.result c.number_of-corner.ensures
    c.index.result.now c.as_slice-to-items.result.now c.index.ensures c.as_slice-to-items.ensures c.loop-to.to-index (end_at 0 false) c.loop-to-test.true in
    omega (arith, r.0, c.loop-to.invariant.onward.search.long, c.loop-to.reached.ok.0)

pub index_mut-requires : goal.index_mut-requires
index_mut-requires c =
    let within = reached_within c.args.edges.now c.args.reached.now.items c.args.steps.now.items c.requires.search c.args.from.place c.requires.from in
    let r = right c.args.edges.now c.args.from c.args.lists.now.items c.args.reached.now.items c.requires.ends within c.number_of-corner.result c.number_of-corner.ensures
    c.index.result.now c.as_slice-to-items.result.now c.index.ensures c.as_slice-to-items.ensures c.loop-to.to-index (end_at 0 false) c.loop-to-test.true in
    omega (arith, r.0, c.loop-to.invariant.onward.search.long, c.loop-to.reached.ok.0)

pub loop-to-preserved : goal.loop-to-preserved
loop-to-preserved c =
    let edges = c.args.edges.now in
    let from = c.args.from in
    let old = c.args.reached.now.items in
    let old_steps = c.args.steps.now.items in
    let reached = c.loop-to.reached.items in
    let steps = c.loop-to.steps.items in
    let xs = c.as_slice-to-items.result.now in
    let i = c.loop-to.to-index in
    let to = get_or xs i (end_at 0 false) in
    let within = reached_within edges old old_steps c.requires.search from.place c.requires.from in
    let r = right edges from c.args.lists.now.items old c.requires.ends within c.number_of-corner.result c.number_of-corner.ensures
    c.index.result.now xs c.index.ensures c.as_slice-to-items.ensures i (end_at 0 false) c.loop-to-test.true in
    let front : take (i + 1) xs ≡ take i xs ++ to ∷ [] = take_more xs i (end_at 0 false) c.loop-to-test.true in
    let inside : to.place < length reached = omega (arith, r.0, c.loop-to.invariant.onward.search.long) in
    let flag : get_or reached to.place false ≡ c.index-in-loop-to.result.now = get_or_default reached to.place false c.index-in-loop-to.result.now inside ∙ sym c.index-in-loop-to.ensures in
    elim c.if-not-index.branch [
      | then-not-index+in_ok-push w ↦
          let more = spread_more edges old old_steps reached steps (take i xs) from to c.loop-to.invariant c.requires.from r.0 (sym c.number_of-corner.ensures ∙ sym r.1) (flag ∙ w.if-not-index.true) in
          subst (IsSpreading edges old old_steps c.if-not-index.reached.items c.if-not-index.steps.items) (sym front)
          (subst (λ ys. IsSpreading edges old old_steps ys c.if-not-index.steps.items (take i xs ++ to ∷ [])) (sym (ap (λ v. v.items) w.reached-is))
          (subst (λ ys. IsSpreading edges old old_steps (set reached to.place true) ys (take i xs ++ to ∷ [])) (sym (ap (λ v. v.items) w.steps-is ∙ w.in_ok-push.ensures.items)) more))
      | else-not-index w ↦
          let passed = spread_passed edges old old_steps reached steps (take i xs) to c.loop-to.invariant (flag ∙ w.if-not-index.false) in
          subst (IsSpreading edges old old_steps c.if-not-index.reached.items c.if-not-index.steps.items) (sym front)
          (subst (λ ys. IsSpreading edges old old_steps ys c.if-not-index.steps.items (take i xs ++ to ∷ [])) (sym (ap (λ v. v.items) w.reached-is))
          (subst (λ ys. IsSpreading edges old old_steps reached ys (take i xs ++ to ∷ [])) (sym (ap (λ v. v.items) w.steps-is)) passed))
    ]

pub returns : goal.returns
returns c =
    let edges = c.args.edges.now in
    let from = c.args.from in
    let lists = c.args.lists.now.items in
    let old = c.args.reached.now.items in
    let old_steps = c.args.steps.now.items in
    let reached = c.loop-to.reached.items in
    let steps = c.loop-to.steps.items in
    let xs = c.as_slice-to-items.result.now in
    let i = c.loop-to.to-index in
    let corner = c.number_of-corner.result in
    let within = reached_within edges old old_steps c.requires.search from.place c.requires.from in
    let in_lists = inside edges from lists old c.requires.ends within corner c.number_of-corner.ensures in
    let same = same_list edges from lists old c.requires.ends within corner c.number_of-corner.ensures c.index.result.now xs c.index.ensures c.as_slice-to-items.ensures in
    let over : take i xs ≡ get_or (lists_of lists) corner [] = take_all i xs (omega arith) ∙ same in
    let all = subst (λ ys. All (λ end. IsReached reached end.place) ys) over c.loop-to.invariant.all in
    let empty : c.truncate.new.self.items ≡ [] = c.truncate.ensures.items in
    subst (λ n. IsSpread edges n old old_steps (lists_of (set lists corner c.truncate.new.self)) reached steps) c.number_of-corner.ensures
    (subst (λ ys. IsSpread edges corner old old_steps ys reached steps) (sym (emptied lists corner c.truncate.new.self empty))
    (spread_all edges old old_steps (lists_of lists) reached steps corner c.requires.ends (omega (arith, in_lists, length-map lists (λ (v : SmallVec DrawnEnd). v.items))) c.loop-to.invariant.onward all))
