use Rattle.std.proofs.Common.{List, [], ◌∷◌, ◌++◌, take, ◌+◌, sym, ap, subst, ◌∙◌, Vec, Global}
use Rattle.std.specs.List.{AllZip, filter}
use Rattle.intervals.specs.declared.interval.Interval.{Interval}
use Rattle.lattice.specs.Points.{of_dir}
use Rattle.line_merge.specs.declared.ends.SeenEnd.{SeenEnd}
use Rattle.line_merge.specs.declared.numbering.Numbered.{Numbered}
use Rattle.line_merge.specs.inner.Ends.{IsIntervalOf}
use Rattle.line_merge.specs.inner.Kinds.{is_up_to}
use Rattle.line_merge.proofs.Filtered.{kept_more, kept_same}
use Rattle.line_merge.proofs.Zips.{zip_push}
use Rattle.line_merge.proofs.merging.intervals_up_to.Goals.{then-is_up_to+in_ok-push, else-is_up_to}
use Rattle.line_merge.proofs.merging.intervals_up_to.Goals as goal

pub loop-x-preserved : goal.loop-x-preserved
loop-x-preserved c =
    let d = of_dir c.args.d.now in
    let xs = c.args.numbered.now in
    let k = c.loop-x.x-index in
    let x = c.x-item.result in
    let test = λ (x : Numbered). is_up_to c.args.last x.strip.kind in
    let Zipped : List Numbered → List (Interval SeenEnd) → Type 0 = AllZip (IsIntervalOf d) in
    elim c.if-is_up_to.branch [
      | then-is_up_to+in_ok-push w ↦
          subst (Zipped (filter test (take (k + 1) xs))) (sym {A = List (Interval SeenEnd)} (◌∙◌ {A = List (Interval SeenEnd)} (ap (λ (v : Vec (Interval SeenEnd) Global). v.items) w.intervals-is) w.in_ok-push.ensures.items))
          (subst (λ (ys : List Numbered). Zipped ys (c.loop-x.intervals.items ++ w.interval_of.result ∷ [])) (sym (kept_more test xs k x c.loop-x-test.true c.x-item.is (sym c.is_up_to.ensures ∙ w.if-is_up_to.true)))
          (zip_push (IsIntervalOf d) (filter test (take k xs)) c.loop-x.intervals.items x w.interval_of.result c.loop-x.invariant w.interval_of.ensures))
      | else-is_up_to w ↦
          subst (Zipped (filter test (take (k + 1) xs))) (sym {A = List (Interval SeenEnd)} (ap (λ (v : Vec (Interval SeenEnd) Global). v.items) w.intervals-is))
          (subst (λ (ys : List Numbered). Zipped ys c.loop-x.intervals.items) (sym (kept_same test xs k x c.loop-x-test.true c.x-item.is (sym c.is_up_to.ensures ∙ w.if-is_up_to.false)))
          c.loop-x.invariant)
    ]
