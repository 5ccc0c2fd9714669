use Rattle.std.proofs.Common.{◌≡◌, [], ◌∷◌, ◌++◌, ◌+◌, length, take, drop, ap, arith, rules}
use Rattle.std.proofs.lemmas.Grind.{common_steps}
use Rattle.std.proofs.lemmas.List.Elements.{All-push}
use Rattle.sheet_job.specs.JobsAt.{IsTooFar}
use Rattle.sheet_job.specs.SheetSeen.{sheet_view_seen}
use Rattle.sheet_job.specs.declared.flaw.JobFlaw.TheVariants.{AtRange}
use Rattle.sheet_job.proofs.JobAtLemmas.{take_one_more, split_there, views_push}
use Rattle.sheet_job.proofs.job_at.views_at.Goals as goal

pub returns-in-Err : goal.returns-in-Err
returns-in-Err c =
    let views = c.args.views.now in
    let k = c.loop-view.view-index in
    let number : c.len.result ≡ length (take k views) = grind (arith, common_steps) in
    record {
      before = take k views;
      view = c.view-item.result;
      after = drop (k + 1) views;
      all = split_there views k c.view-item.result c.loop-view-test.true c.view-item.is;
      in_range = c.loop-view.invariant.2;
      too_far = c.in-Err.ensures.value;
      place = c.in-Err.ensures.place;
      flaw = ap AtRange number;
    }

pub loop-view-preserved : goal.loop-view-preserved
loop-view-preserved c =
    let views = c.args.views.now in
    let k = c.loop-view.view-index in
    let pushed : c.push.new.self.items ≡ c.loop-view.found.items ++ c.in-Ok.next ∷ [] = search rules in
    let front : take (k + 1) views ≡ take k views ++ c.view-item.result ∷ [] = take_one_more views k c.view-item.result c.loop-view-test.true c.view-item.is in
    rw (pushed, front) (
      grind (arith, common_steps),
      views_push c.args.decimals c.args.unit (take k views) c.loop-view.found.items c.view-item.result c.in-Ok.next c.loop-view.invariant.1 c.in-Ok.ensures.value,
      All-push (λ v. ¬ IsTooFar c.args.decimals c.args.unit (sheet_view_seen v)) (take k views) c.view-item.result c.loop-view.invariant.2 c.in-Ok.ensures.near,
    )
