use Rattle.std.proofs.Common.{◌≡◌, [], ◌∷◌, ◌++◌, ◌∙◌, map, Ok, arith, rules}
use Rattle.std.proofs.lemmas.Grind.{common_steps}
use Rattle.std.proofs.lemmas.List.Elements.{All-push}
use Rattle.std.proofs.lemmas.List.Quantifiers.{all_pairs_push}
use Rattle.job_file.specs.Views.{AreNamedApart}
use Rattle.job_tables.specs.Seen.{table_seen}
use Rattle.sheet_job.specs.SheetSeen.{sheet_view_seen, IsPlacedIn}
use Rattle.sheet_job.specs.SheetViews.{sheet_view_of}
use Rattle.sheet_job.proofs.NameLemmas.{views_after-more}
use Rattle.sheet_job.proofs.views.views_in_order.Goals as goal

pub loop-table-preserved : goal.loop-table-preserved
loop-table-preserved c =
    let pushed : c.push.new.self.items ≡ c.loop-table.views.items ++ c.in-Ok.view ∷ [] = search rules in
    let said : sheet_view_of (map sheet_view_seen c.loop-table.views.items) (table_seen c.table-item.result) ≡ Ok (sheet_view_seen c.in-Ok.view) = search rules in
    let apart = rw c.deref.ensures.value at c.in-Ok.ensures.apart in
    rw pushed (
      grind (arith, common_steps),
      all_pairs_push (λ v w. AreNamedApart v.named w.named) c.loop-table.views.items c.in-Ok.view c.loop-table.invariant.1 apart,
      All-push (IsPlacedIn c.args.text.now) c.loop-table.views.items c.in-Ok.view c.loop-table.invariant.2 c.in-Ok.ensures.placed,
      views_after-more c.loop-table.views.items c.args.tables.now c.loop-table.table-index c.table-item.result c.in-Ok.view (search rules) c.table-item.is said ∙ c.loop-table.invariant.3,
    )
