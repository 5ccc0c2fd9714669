use Rattle.std.proofs.Common.{◌≡◌, ◌≤◌, ◌*◌, ◌^◌, take}
use Rattle.draw_core.specs.Summary.{hatches_in}
use Rattle.draw_core.proofs.summary.hatches_in.Given as goal

-- those of the views so far are counted
abbrev pub invariant-loop-view : goal.invariant-loop-view
invariant-loop-view l = record { counted : l.count ≡ hatches_in (take l.view-index l.views); small : l.count ≤ 2 ^ 58 * l.view-index }
