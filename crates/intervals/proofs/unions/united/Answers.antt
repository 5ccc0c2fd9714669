use Rattle.std.proofs.Common.{List, subst, sym}
use Rattle.std.specs.Prelude.{All}
use Rattle.std.proofs.lemmas.Result.{IfOk-weaker}
use Rattle.std.proofs.lemmas.List.Sorted.{All-permutation, Contains-permutation, IsPermutation-sym}
use Rattle.intervals.specs.declared.interval.Interval.{Interval}
use Rattle.intervals.specs.Cuts.{IsProper, AreUnited}
use Rattle.intervals.proofs.Touching.{united_same}
use Rattle.intervals.proofs.unions.united.Goals as goal

pub joined-requires-clause-proper : goal.joined-requires-clause-proper
joined-requires-clause-proper g c =
    let P : List (Interval g.row.T.Denot) → Type 0 = λ xs. All (IsProper g.T.Ord.cmp) xs in
    subst P (sym c.deref.ensures.value) (All-permutation (IsProper g.T.Ord.cmp) c.args.intervals.items c.in_ok-intervals.intervals.items c.in_ok-intervals.ensures.same c.requires)

pub returns : goal.returns
returns g c =
    let given = c.args.intervals.items in
    let sorted = c.in_ok-intervals.intervals.items in
    let moved = c.in_ok-intervals.ensures.same in
    IfOk-weaker c.joined.result _ _
    (λ us h. united_same g.T.Ord.cmp sorted given us.items
    (λ x k. Contains-permutation sorted given x (IsPermutation-sym given sorted moved) k)
    (λ x k. Contains-permutation given sorted x moved k)
    (subst (λ (xs : List (Interval g.row.T.Denot)). AreUnited g.T.Ord.cmp xs us.items) c.deref.ensures.value h)) c.joined.ensures
