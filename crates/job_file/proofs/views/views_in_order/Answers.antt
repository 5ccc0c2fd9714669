use Rattle.std.proofs.Common.{◌≡◌, [], ◌∷◌, ◌++◌, ◌∙◌, map, Ok, arith, rules}
use Rattle.std.proofs.lemmas.Grind.{common_steps}
use Rattle.std.proofs.lemmas.List.Quantifiers.{all_pairs_push}
use Rattle.toml.specs.View.{view}
use Rattle.job_file.specs.Seen.{view_seen}
use Rattle.job_file.specs.ViewKeys.{view_of}
use Rattle.job_file.specs.Views.{AreNamedApart}
use Rattle.job_file.proofs.ViewLemmas.{views_after-more}
use Rattle.job_file.proofs.views.views_in_order.Goals as goal

pub loop-value-preserved : goal.loop-value-preserved
loop-value-preserved c =
    let pushed : c.push.new.self.items ≡ c.loop-value.views.items ++ c.in_ok-view.view ∷ [] = search rules in
    let said : view_of (map view_seen c.loop-value.views.items) (view c.value-item.result) ≡ Ok (view_seen c.in_ok-view.view) = search rules in
    let apart = rw c.deref.ensures.value at c.in_ok-view.ensures.apart in
    rw pushed (
      grind (arith, common_steps),
      all_pairs_push (λ v w. AreNamedApart v.named w.named) c.loop-value.views.items c.in_ok-view.view c.loop-value.invariant.1 apart,
      views_after-more c.loop-value.views.items c.args.values.now c.loop-value.value-index c.value-item.result c.in_ok-view.view (search rules) c.value-item.is said ∙ c.loop-value.invariant.2,
    )
