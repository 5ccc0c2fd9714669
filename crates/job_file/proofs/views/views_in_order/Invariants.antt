use Rattle.std.proofs.Common.{◌≡◌, [], drop, length, map}
use Rattle.std.specs.List.{AllPairs}
use Rattle.toml.specs.View.{view}
use Rattle.job_file.specs.Seen.{view_seen}
use Rattle.job_file.specs.ViewKeys.{views_after}
use Rattle.job_file.specs.Views.{AreNamedApart}
use Rattle.job_file.proofs.views.views_in_order.Given as goal

-- the views so far, and then those of the values that are left
abbrev pub invariant-loop-value : goal.invariant-loop-value
invariant-loop-value l =
    (length l.views.items ≡ l.value-index) ×
    (AllPairs (λ v w. AreNamedApart v.named w.named) l.views.items) ×
    (views_after (map view_seen l.views.items) (map view (drop l.value-index l.values)) ≡ views_after [] (map view l.values))
