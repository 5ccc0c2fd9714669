use Rattle.std.proofs.Common.{◌≡◌, [], ◌∷◌, rules}
use Rattle.sheet_job.specs.SheetSeen.{IsPlacedIn}
use Rattle.sheet_job.proofs.NameLemmas.{all_three}
use Rattle.sheet_job.proofs.views.usual_views.Goals as goal

pub returns-clause-placed : goal.returns-clause-placed
returns-clause-placed c =
    let is : c.push-3.new.self.items ≡ c.in_ok-usual_view.field-0 ∷ c.in_ok-usual_view-2.field-0 ∷ c.in_ok-usual_view-3.field-0 ∷ [] = search rules in
    λ text. rw is (all_three (IsPlacedIn text) c.in_ok-usual_view.field-0 c.in_ok-usual_view-2.field-0 c.in_ok-usual_view-3.field-0
    (c.in_ok-usual_view.ensures.placed text) (c.in_ok-usual_view-2.ensures.placed text) (c.in_ok-usual_view-3.ensures.placed text))
