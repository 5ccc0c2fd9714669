use Rattle.std.proofs.lemmas.Bool.{false≢true}
use Rattle.flip_slivers.proofs.QueueLemmas.{as_full}
use Rattle.flip_slivers.proofs.queue.wake_facing.Goals as goal

pub returns-then-not-faces : goal.returns-then-not-faces
returns-then-not-faces c = record {
  fuller = as_full c.args.queue.now.waits.items c.args.queue.now.places.items;
  woken = λ j m n here there. absurd (false≢true (c.if-not-faces.ensures j m n here there));
}

pub returns : goal.returns
returns c = record { fuller = c.in_ok-wait.ensures.fuller; woken = λ j m n here there. c.in_ok-wait.ensures.waits }
