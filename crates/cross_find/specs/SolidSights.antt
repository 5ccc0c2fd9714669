-- What a solid that is seen in one direction stands for.
use Rattle.lattice.specs.Points.{of_dir}
use Rattle.solid_mesh.specs.Solids.{solid_part, edge_halves}
use Rattle.cross_find.specs.Sights.{SightState}
use Rattle.cross_find.specs.declared.solid_sight.SolidSight.{SolidSight}

abbrev pub state_of : SolidSight → SightState
state_of x = record { part = solid_part x.solid.now; halves = edge_halves x.solid.now; direction = of_dir x.d.now; tests = x.meter.tests }
