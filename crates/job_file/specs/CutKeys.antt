-- The keys of a cut view.
use Rattle.std.specs.Prelude.{ℕ, ◌^◌, ℤ, unsigned_abs, Bool, true, false, nat_lt, List, [], ◌∷◌, Option, None, Result, Ok, Err, if◌then◌else◌, codes}
use Rattle.std.specs.Option.{option_and_then}
use Rattle.lattice.specs.Cuts.{Plane}
use Rattle.lattice.specs.declared.points.Axis.{Axis}
use Rattle.lattice.specs.declared.points.Axis.TheVariants.{X, Y, Z}
use Rattle.toml.specs.Data.{Data, as_str, as_integer}
use Rattle.job_file.specs.declared.fault.JobFault.{JobFault}
use Rattle.job_file.specs.declared.fault.JobFault.TheVariants.{CutRange}
use Rattle.job_file.specs.declared.fault.Key.TheVariants as key
use Rattle.job_file.specs.Steps.{◌>>=◌, or_wrong, look_up}
use Rattle.job_file.specs.ViewValues.{ViewValues, behind}

-- what a job calls the axes
abbrev pub axes : List (List ℕ × Axis)
axes = (codes "x", X) ∷ (codes "y", Y) ∷ (codes "z", Z) ∷ []

-- the sides from which the viewer looks: from the high one, or not
abbrev pub sides : List (List ℕ × Bool)
sides = (codes "high", true) ∷ (codes "low", false) ∷ []

-- the plane of the view with this number: at most 2^20 units from the origin
abbrev pub plane_at : ℕ → Axis → ℤ → Bool → Result Plane JobFault
plane_at n axis at from_high = if nat_lt (2 ^ 20) (unsigned_abs at) then Err (CutRange n) else Ok (record { axis = axis; at = at; from_high = from_high })

-- the axis, then the place, then the side, then its range
abbrev pub cut_view : ℕ → Data → Option Data → Option Data → Result ViewValues JobFault
cut_view n cut at from =
    or_wrong key.Cut (option_and_then (look_up axes) (as_str cut)) >>= λ axis.
    or_wrong key.At (option_and_then as_integer at) >>= λ place.
    or_wrong key.From (option_and_then (look_up sides) (option_and_then as_str from)) >>= λ from_high.
    plane_at n axis place from_high >>= λ plane.
    Ok (record { shows = behind plane; named = None })
