use Rattle.flip_slivers.proofs.QueueLemmas.{IsQueueOfFirst}
use Rattle.flip_slivers.proofs.queue.all_waiting.Given as goal

abbrev pub invariant-loop-i : goal.invariant-loop-i
invariant-loop-i l = IsQueueOfFirst l.count l.i l.waits.items l.places.items
