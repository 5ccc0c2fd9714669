use Rattle.std.proofs.Common.{sym, refl, ◌∙◌}
use Rattle.weld.proofs.PlaceLemmas.{numbers_known, numbers_new}
use Rattle.weld.proofs.welding.Kept.number.Goals as goal
use Rattle.weld.proofs.welding.Kept.number.Goals.{then-added+in_ok-push, else-added}

pub returns-clause-numbers : goal.returns-clause-numbers
returns-clause-numbers c =
    let keys = c.args.self.now.places.keys in
    let corners = c.args.self.now.corners.items in
    let n = c.in_ok-number.number in
    elim c.if-added.branch [
      | then-added+in_ok-push w ↦
          rw w.self-is
          (numbers_new keys c.insert_full.new.self.keys corners c.place_of.result _ n c.requires.tied.same c.place_of.ensures c.in_ok-number.ensures.keys c.args.corner.now w.push.new.self.items refl w.in_ok-push.ensures.items
          c.in_ok-number.ensures.index (sym c.in_ok-number.ensures.added ∙ w.if-added.true))
      | else-added w ↦
          let (k, at, same) = c.in_ok-number.ensures.stored in
          rw w.self-is
          (numbers_known keys c.insert_full.new.self.keys corners c.place_of.result _ n c.requires.tied.same c.place_of.ensures c.in_ok-number.ensures.keys k at same (sym c.in_ok-number.ensures.added ∙ w.if-added.false))
    ]
