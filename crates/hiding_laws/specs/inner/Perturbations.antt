-- Which of two ways is to the left of the other, where each is turned a little to one side.
use Rattle.std.specs.Prelude.{◌≡◌, ◌⊎◌, ℤ, pos, negsuc, ◌-ℤ◌, ◌*ℤ◌, ◌<ℤ◌}
use Rattle.geometry.specs.Counts.{Side, to_left, to_right}
use Rattle.geometry.specs.Turns.{Way, turn_from, product_of}

-- how far apart two perturbations of one way are: from that to the side c to that to the side c', counterclockwise
abbrev pub perturbation_between : Side → Side → ℤ
perturbation_between to_left to_left = pos 0
perturbation_between to_left to_right = negsuc 1
perturbation_between to_right to_left = pos 2
perturbation_between to_right to_right = pos 0

-- 1 for a perturbation to the left, -1 for one to the right
abbrev pub perturbation_of : Side → ℤ
perturbation_of to_left = pos 1
perturbation_of to_right = negsuc 0

-- y is to the left of x; where the two are along one line, a perturbation decides, by how far it turns from x to y counterclockwise
abbrev pub IsLeft : ℤ → Way → Way → Type 0
IsLeft perturbation x y = (pos 0 <ℤ turn_from x y) ⊎ ((turn_from x y ≡ pos 0) × (pos 0 <ℤ (perturbation *ℤ product_of x y)))

-- at least two of the three turns are to the left: from beside x to w, from w to beside y, and from beside y to beside x
abbrev pub TwoAreLeft : Side → Way → Side → Way → Way → Type 0
TwoAreLeft k x l y w =
    (IsLeft (pos 0 -ℤ perturbation_of k) x w × IsLeft (perturbation_of l) w y) ⊎ (IsLeft (perturbation_of l) w y × IsLeft (perturbation_between l k) y x) ⊎ (IsLeft (perturbation_between l k) y x × IsLeft (pos 0 -ℤ perturbation_of k) x w)
