use Rattle.std.proofs.lemmas.Option.{slice_get-get_or}
use Rattle.flip_slivers.specs.declared.bounded.Bounded.{Bounded}
use Rattle.flip_slivers.proofs.MakingLemmas.{put_laid}
use Rattle.flip_slivers.proofs.making.put.Goals as goal

abbrev nothing : Bounded
nothing = record { tri = record { a = 0; b = 0; c = 0 }; bound = 0 }

pub returns-clause-laid : goal.returns-clause-laid
returns-clause-laid c =
    put_laid c.args.corners.now c.args.mesh.now.surface.items c.args.mesh.now.measures.items c.args.mesh.now.lists.items c.take_out_all.new.lists.items c.add_all.new.lists.items c.args.place _ c.args.new c.measure_of.result
    c.requires.laid (slice_get-get_or c.args.mesh.now.surface.items c.args.place nothing c.requires.place) c.take_out_all.ensures c.in_ok-add_all.ensures c.measure_of.ensures c.requires.below
