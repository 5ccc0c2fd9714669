-- What a view shows, and when two views don't have one name.
use Rattle.std.specs.Prelude.{◌≡◌, Option, Some, None}
use Rattle.lattice.specs.Points.{of_dir}
use Rattle.lattice.specs.Triple.{Triple}
use Rattle.lattice.specs.declared.pieces.ViewSpec.{ViewSpec}
use Rattle.lattice.specs.declared.pieces.ViewSpec.TheVariants.{Plain, Section}
use Rattle.job_file.specs.declared.view.Principal.{Principal}

-- the direction that a whole part is seen from
abbrev pub plain_direction : ViewSpec → Option Triple
plain_direction (Plain d) = Some (of_dir d)
plain_direction (Section c) = None

-- not both have a name, or the names differ
abbrev pub AreNamedApart : Option Principal → Option Principal → Type 0
AreNamedApart m n = (p : Principal) → m ≡ Some p → ¬ (n ≡ Some p)
