-- What contracts see of a view.
use Rattle.std.specs.Prelude.{Option}
use Rattle.lattice.specs.Cuts.{Plane}
use Rattle.lattice.specs.Triple.{Triple}
use Rattle.job_file.specs.declared.view.Principal.{Principal}

-- the whole part from a direction, or what a plane leaves of it
pub data Shown : Type 0 where
  whole : Triple → Shown
  behind : Plane → Shown

-- a view: what it shows, and its name if it has one
pub record ViewValues : Type 0 where
  pub shows : Shown
  pub named : Option Principal
