-- Three whole numbers, as contracts see them.
use Rattle.lattice.specs.Triple.{Triple}
use Rattle.job_file.specs.declared.directions.Numbers.{Numbers}

abbrev pub triple_seen : Numbers → Triple
triple_seen n = record { x = n.x; y = n.y; z = n.z }
