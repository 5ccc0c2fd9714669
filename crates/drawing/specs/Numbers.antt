-- The sums of the numbers of a job's views.
use Rattle.std.specs.Prelude.{◌≡◌, List, [], ◌∷◌}
use Rattle.std.specs.List.{AllZip}
use Rattle.job_file.specs.declared.view.JobView.{JobView}
use Rattle.lattice.specs.declared.pieces.Crease.{Crease}
use Rattle.solid_mesh.specs.declared.solid.Solid.{Solid}
use Rattle.view_lines.specs.Numbers.{no_numbers, plus, CountsView}
use Rattle.view_lines.specs.declared.numbers.ViewNumbers.{ViewNumbers}

abbrev pub sum_of : List ViewNumbers → ViewNumbers
sum_of [] = no_numbers
sum_of (x ∷ xs) = plus x (sum_of xs)

-- the sums over the views that are asked for
pub record SumsViews (solid : Solid) (crease : Crease) (asked : List JobView) (n : ViewNumbers) : Type 0 where
  pub each : List ViewNumbers
  pub counted : AllZip (λ view. CountsView solid crease view.spec) asked each
  pub sum : n ≡ sum_of each
