-- The cuts that views show, and their planes.
use Rattle.std.specs.Prelude.{List, map, flat_map}
use Rattle.lattice.specs.declared.cuts.Cut.{Cut}
use Rattle.lattice.specs.Cuts.{Plane, plane_of}
use Rattle.lattice.specs.ShownCuts.{cuts_of}
use Rattle.job_file.specs.declared.view.JobView.{JobView}

-- the cuts among a job's views, in their order
abbrev pub cuts_in : List JobView → List Cut
cuts_in views = flat_map (λ view. cuts_of view.spec) views

abbrev pub planes_in : List JobView → List Plane
planes_in views = map plane_of (cuts_in views)
