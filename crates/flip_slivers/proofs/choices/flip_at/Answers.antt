use Rattle.std.proofs.Common.{refl}
use Rattle.std.proofs.lemmas.Option.{slice_get-get_or}
use Rattle.flip_slivers.specs.declared.bounded.Bounded.{Bounded}
use Rattle.flip_slivers.proofs.SettledLemmas.{idle_at}
use Rattle.flip_slivers.proofs.choices.flip_at.Goals as goal

abbrev nothing : Bounded
nothing = record { tri = record { a = 0; b = 0; c = 0 }; bound = 0 }

pub returns-clause-none : goal.returns-clause-none
returns-clause-none c e =
    idle_at c.args.scene.now.corners.now c.args.scene.now.most c.args.scene.now.surface.now c.args.waits.now c.args.place _ (slice_get-get_or c.args.scene.now.surface.now c.args.place nothing c.requires.place)
    (c.in_default.ensures.none refl) (c.in_default-flip_on.ensures.none refl) (c.flip_on-3.ensures.none e)
