-- Corners with equal coordinates are equal.
use Rattle.std.proofs.Common.{◌≡◌, ◌≤◌, ◌^◌, ℤ, List, [], ◌∷◌, drop, map, get_or, refl, ap, unsigned_abs}
use Rattle.std.proofs.Math.Bridge.{le_prop}
use mathlib.Core.HLevel.{is_prop→PathP}
use Rattle.lattice.specs.declared.points.Corner.{Corner}
use Rattle.lattice.specs.Points.{of_corner}

-- the range of a coordinate is a proposition
one_range : (z : ℤ) → IsProp (unsigned_abs z ≤ 2 ^ 20)
one_range z = le_prop

pub same_corner : (c d : Corner) → of_corner c ≡ of_corner d → c ≡ d
same_corner c d e = λ i. record {
  x = (e i).x;
  y = (e i).y;
  z = (e i).z;
  x_in_range = is_prop→PathP (λ j. unsigned_abs ((e j).x) ≤ 2 ^ 20) (λ j. one_range ((e j).x)) c.x_in_range d.x_in_range i;
  y_in_range = is_prop→PathP (λ j. unsigned_abs ((e j).y) ≤ 2 ^ 20) (λ j. one_range ((e j).y)) c.y_in_range d.y_in_range i;
  z_in_range = is_prop→PathP (λ j. unsigned_abs ((e j).z) ≤ 2 ^ 20) (λ j. one_range ((e j).z)) c.z_in_range d.z_in_range i;
}

pub same_corners : (cs ds : List Corner) → map of_corner cs ≡ map of_corner ds → cs ≡ ds
same_corners [] [] e = refl
same_corners [] (d ∷ ds) e = let no : [] ≡ of_corner d ∷ map of_corner ds = e in cc
same_corners (c ∷ cs) [] e = let no : of_corner c ∷ map of_corner cs ≡ [] = e in cc
same_corners (c ∷ cs) (d ∷ ds) e =
    let first : c ≡ d = same_corner c d (ap (λ ts. get_or ts 0 (of_corner c)) e) in
    let others : cs ≡ ds = same_corners cs ds (ap (drop 1) e) in
    λ i. first i ∷ others i
