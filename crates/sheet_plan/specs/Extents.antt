-- The least and the greatest U and V of a part.
use Rattle.std.specs.Prelude.{◌≡◌, ℤ, ◌≤ℤ◌, List, Any, All}
use Rattle.std.specs.List.{AllZip}
use Rattle.lattice.specs.declared.points.Corner.{Corner}
use Rattle.lattice.specs.Points.{of_dir, point_of, across_of, upward_of}
use Rattle.lattice.specs.Triple.{Triple}
use Rattle.job_file.specs.declared.view.JobView.{JobView}
use Rattle.job_file.specs.Seen.{direction_seen}
use Rattle.sheet_plan.specs.declared.bounds.Extent.{Extent}

-- m is the least value of f over the list
pub record IsLeast {A : Type 0} (f : A → ℤ) (xs : List A) (m : ℤ) : Type 0 where
  pub reached : Any (λ x. f x ≡ m) xs
  pub bound : All (λ x. m ≤ℤ f x) xs

-- m is the greatest value of f over the list
pub record IsGreatest {A : Type 0} (f : A → ℤ) (xs : List A) (m : ℤ) : Type 0 where
  pub reached : Any (λ x. f x ≡ m) xs
  pub bound : All (λ x. f x ≤ℤ m) xs

-- how far the corners reach, as they are seen from d
pub record IsExtent (d : Triple) (corners : List Corner) (e : Extent) : Type 0 where
  pub direction : of_dir e.d ≡ d
  pub leftmost : IsLeast (λ c. across_of d (point_of c)) corners e.u_min
  pub rightmost : IsGreatest (λ c. across_of d (point_of c)) corners e.u_max
  pub lowest : IsLeast (λ c. upward_of d (point_of c)) corners e.v_min
  pub topmost : IsGreatest (λ c. upward_of d (point_of c)) corners e.v_max

-- how far the corners reach in each view of a job, in order
abbrev pub AreExtents : List Corner → List JobView → List Extent → Type 0
AreExtents corners views extents = AllZip (λ v e. IsExtent (direction_seen v.spec) corners e) views extents
