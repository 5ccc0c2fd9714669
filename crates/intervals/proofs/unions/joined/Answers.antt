use Rattle.std.proofs.Common.{◌≡◌, List, [], ◌∷◌, ◌++◌, ◌+◌, ap, sym, subst, take, ◌∙◌, true≢false}
use Rattle.std.specs.Prelude.{Some, slice_get}
use Rattle.std.proofs.lemmas.List.{take_all}
use Rattle.std.proofs.lemmas.List.Elements.{All-contains}
use Rattle.std.proofs.lemmas.Option.{slice_get_within, get_or_from_slice_get}
use Rattle.intervals.specs.declared.interval.Interval.{Interval}
use Rattle.intervals.specs.Cuts.{IsProper, AreUnited}
use Rattle.intervals.proofs.Lists.{at_front}
use Rattle.intervals.proofs.Orders.{not_after}
use Rattle.intervals.proofs.Touching.{AreJoined, BeginsBeforeRest, joined_first, joined_inside, joined_longer, joined_next, united, united_first, begins_before, begins_less, begins_at}
use Rattle.intervals.proofs.unions.joined.Goals as goal
use Rattle.intervals.proofs.unions.joined.Goals.{then-is_before+in_ok-push, else-is_before+then-is_before-2, else-is_before+else-is_before-2}
use Rattle.integers.proofs.Lists.{front_more}

pub loop-x-init : goal.loop-x-init
loop-x-init g c =
    let xs = c.args.intervals.now in
    let first = c.in-Some.first.now in
    let o = g.met.T.Ord.total in
    let item : slice_get xs 0 ≡ Some first = sym c.in-Some.ensures.value in
    let proper = All-contains (IsProper g.T.Ord.cmp) xs first c.requires.proper (at_front xs first item) in (
      begins_before o xs c.requires.sorted 0 first (slice_get_within xs 0 first item) (get_or_from_slice_get xs 0 first first item),
      subst (λ (us : List (Interval g.row.T.Denot)). AreJoined g.T.Ord.cmp (first ∷ []) us first) (sym c.new-united.ensures.items) (joined_first g.T.Ord.cmp first proper),
    )

pub loop-x-preserved : goal.loop-x-preserved
loop-x-preserved g c =
    let X : Type 0 = Interval g.row.T.Denot in
    let o = g.met.T.Ord.total in
    let xs = c.args.intervals.now in
    let first = c.in-Some.first.now in
    let k = c.loop-x.x-index in
    let x = c.x-item.result in
    let long = c.loop-x-test.true in
    let at = sym c.x-item.is in
    let closed = c.loop-x.united.items in
    let open' = c.loop-x.open in
    let old = c.loop-x.invariant in
    let done = first ∷ take k xs in
    let proper = subst (λ (y : X). g.T.Ord.cmp y.from y.to ≡ _) at (c.requires.proper k x long) in
    let forth = begins_at o xs k open'.from x old.0 long at in
    let more = λ (us : List X) (p : X) (h : AreJoined g.T.Ord.cmp (done ++ x ∷ []) us p). subst (λ (ds : List X). AreJoined g.T.Ord.cmp (first ∷ ds) us p) (front_more xs k x long at) h in
    let Kept : List X → X → Type 0 = λ us p. BeginsBeforeRest g.T.Ord.cmp xs (k + 1) p.from × AreJoined g.T.Ord.cmp (first ∷ take (k + 1) xs) us p in
    let now = c.if-is_before in
    let kept = λ (us : List X) (p : X) (e : now.united.items ≡ us) (f : now.open ≡ p) (h : Kept us p).
    subst (λ v. Kept v now.open) (sym e) (subst (λ v. Kept us v) (sym f) h) in
    elim now.branch [
      | then-is_before+in_ok-push w ↦
          kept (closed ++ open' ∷ []) x (cc (ap (λ v. v.items) w.united-is, w.in_ok-push.ensures.items)) w.open-is (
            begins_less o xs k x.from (begins_before o xs c.requires.sorted k x long at),
            more _ x (joined_next o done closed open' old.1 x proper forth (c.is_before.ensures.0 w.if-is_before.true)),
          )
      | else-is_before+then-is_before-2 w ↦
          kept closed (record { from = open'.from; to = x.to }) (ap (λ v. v.items) w.united-is) w.open-is (
            begins_less o xs k open'.from old.0,
            more closed _ (joined_longer o done closed open' old.1 x proper forth
                (not_after o open'.to x.from (λ h. true≢false (sym (c.is_before.ensures.1 h) ∙ w.if-is_before.false)))
                (w.is_before-else-is_before.ensures.0 w.if-is_before-2.true)),
          )
      | else-is_before+else-is_before-2 w ↦
          kept closed open' (ap (λ v. v.items) w.united-is) w.open-is (
            begins_less o xs k open'.from old.0,
            more closed open' (joined_inside o done closed open' old.1 x proper forth
                (not_after o open'.to x.to (λ h. true≢false (sym (w.is_before-else-is_before.ensures.1 h) ∙ w.if-is_before-2.false)))),
          )
    ]

pub returns : goal.returns
returns g c =
    let o = g.met.T.Ord.total in
    let xs = c.args.intervals.now in
    let first = c.in-Some.first.now in
    let k = c.loop-x.x-index in
    let us = c.loop-x.united.items ++ c.loop-x.open ∷ [] in
    let right = united o (first ∷ take k xs) c.loop-x.united.items c.loop-x.open c.loop-x.invariant.1 in
    subst (λ (new : List (Interval g.row.T.Denot)). AreUnited g.T.Ord.cmp xs new) (sym c.in_ok-push-2.ensures.items)
    (united_first g.T.Ord.cmp first xs us (at_front xs first (sym c.in-Some.ensures.value))
    (subst (λ (ds : List (Interval g.row.T.Denot)). AreUnited g.T.Ord.cmp (first ∷ ds) us) (take_all k xs c.loop-x-test.false) right))
