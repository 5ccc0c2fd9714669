use Rattle.std.proofs.lemmas.Bool.{false≢true}
use Rattle.std.proofs.lemmas.Option.{slice_get-get_or}
use Rattle.flip_slivers.specs.declared.bounded.Bounded.{Bounded}
use Rattle.flip_slivers.proofs.QueueLemmas.{faces_turned}
use Rattle.flip_slivers.proofs.queue.faces.Goals as goal

abbrev nothing : Bounded
nothing = record { tri = record { a = 0; b = 0; c = 0 }; bound = 0 }

pub returns : goal.returns
returns c =
    faces_turned c.args.surface.now c.args.place c.args.corner c.args.other _ _ (slice_get-get_or c.args.surface.now c.args.place nothing c.requires.place)
    (λ j is there. absurd (false≢true (c.if-faces_across.ensures j is there))) (λ j is there. absurd (false≢true (c.if-faces_across-2.ensures j is there))) c.faces_across-3.ensures
