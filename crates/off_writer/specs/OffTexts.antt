-- The text of a part as OFF.
use Rattle.std.specs.Prelude.{ℕ, zero, suc, ◌+◌, ◌/◌, ◌%◌, ◌^◌, ℤ, pos, negsuc, unsigned_abs, List, [], ◌∷◌, ◌++◌, length, map, codes}
use Rattle.std.specs.List.{flat_map}
use Rattle.std.specs.Fmt.{decimal}
use Rattle.lattice.specs.declared.points.Corner.{Corner}
use Rattle.lattice.specs.declared.soup.Tri.{Tri}
use Rattle.lattice.specs.Points.{of_corner}
use Rattle.weld.specs.Raw.{Raw}

-- ---- a coordinate
-- the last digits of a number, so many of them, zeros in front where it has fewer; 48 is `0`
abbrev pub last_digits : ℕ → ℕ → List ℕ
last_digits zero n = []
last_digits (suc count) n = last_digits count (n / 10) ++ ((48 + n % 10) ∷ [])

-- a point and the digits behind it, where there are any
abbrev pub fraction_text : ℕ → ℕ → List ℕ
fraction_text zero n = []
fraction_text (suc decimals) n = codes "." ++ last_digits (suc decimals) n

-- a number of units, of which 10 ^ decimals make a millimetre
abbrev pub size_text : ℕ → ℕ → List ℕ
size_text decimals n = decimal (n / 10 ^ decimals) ++ fraction_text decimals n

abbrev pub sign_text : ℤ → List ℕ
sign_text (pos n) = []
sign_text (negsuc n) = codes "-"

abbrev pub coordinate_text : ℕ → ℤ → List ℕ
coordinate_text decimals z = sign_text z ++ size_text decimals (unsigned_abs z)

-- ---- lines
abbrev pub corner_line : ℕ → Corner → List ℕ
corner_line decimals c =
    coordinate_text decimals c.x ++ codes " " ++ coordinate_text decimals c.y ++ codes " " ++ coordinate_text decimals c.z ++ codes "\n"

abbrev pub triangle_line : Tri → List ℕ
triangle_line t = codes "3 " ++ decimal t.a ++ codes " " ++ decimal t.b ++ codes " " ++ decimal t.c ++ codes "\n"

-- how many corners and triangles there are; edges are not counted
abbrev pub head_text : ℕ → ℕ → List ℕ
head_text corners triangles = codes "OFF\n" ++ decimal corners ++ codes " " ++ decimal triangles ++ codes " 0\n"

-- ---- the whole
abbrev pub off_of : ℕ → List Corner → List Tri → List ℕ
off_of decimals corners triangles =
    head_text (length corners) (length triangles) ++ flat_map (corner_line decimals) corners ++ flat_map triangle_line triangles

-- what it is read as
abbrev pub raw_of : List Corner → List Tri → Raw
raw_of corners triangles = record { vertices = map of_corner corners; triangles = triangles }
