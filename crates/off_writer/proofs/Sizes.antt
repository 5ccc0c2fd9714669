-- How long the text of a part is.
use Rattle.std.proofs.Common.{◌≡◌, ℕ, ◌+◌, ◌*◌, ◌≤◌, List, [], ◌∷◌, ◌++◌, length, refl, arith, length-append}
use Rattle.std.specs.Prelude.{All, codes}
use Rattle.std.specs.List.{flat_map}
use Rattle.std.specs.Fmt.{decimal}
use Rattle.std.proofs.lemmas.Fmt.{length-decimal-le}
use Rattle.std.proofs.lemmas.List.Elements.{All-head, All-rest}
use Rattle.lattice.specs.declared.points.Corner.{Corner}
use Rattle.lattice.specs.declared.soup.Tri.{Tri}
use Rattle.lattice.specs.Triangles.{IsBelow}
use Rattle.off_writer.specs.OffTexts.{coordinate_text, corner_line, triangle_line, head_text, off_of}
use Rattle.off_writer.proofs.CoordinateNumbers.{coordinate_short}

three_long : (x y z : List ℕ) → length (x ++ codes " " ++ y ++ codes " " ++ z ++ codes "\n") ≡ length x + length y + length z + 3
three_long x y z = simp length-append (omega arith)

two_long : (x y : List ℕ) → length (codes "OFF\n" ++ x ++ codes " " ++ y ++ codes " 0\n") ≡ length x + length y + 8
two_long x y = simp length-append (omega arith)

behind_three : (x y z : List ℕ) → length (codes "3 " ++ x ++ codes " " ++ y ++ codes " " ++ z ++ codes "\n") ≡ length x + length y + length z + 5
behind_three x y z = simp length-append (omega arith)

number_short : (n : ℕ) → n ≤ 60000 → length (decimal n) ≤ 5
number_short n h = length-decimal-le 5 n (omega arith) (omega (arith, h)) (omega (arith, h))

-- ---- lines
corner_short : (decimals : ℕ) (c : Corner) → decimals ≤ 6 → length (corner_line decimals c) ≤ 48
corner_short decimals c few =
    let x = coordinate_short decimals c.x few c.x_in_range in
    let y = coordinate_short decimals c.y few c.y_in_range in
    let z = coordinate_short decimals c.z few c.z_in_range in
    let all = three_long (coordinate_text decimals c.x) (coordinate_text decimals c.y) (coordinate_text decimals c.z) in
    omega (arith, x, y, z, all)

triangle_short : (vertices : ℕ) (t : Tri) → vertices ≤ 60000 → IsBelow vertices t → length (triangle_line t) ≤ 20
triangle_short vertices t few below =
    let a = number_short t.a (omega (arith, few, below.a)) in
    let b = number_short t.b (omega (arith, few, below.b)) in
    let c = number_short t.c (omega (arith, few, below.c)) in
    let all = behind_three (decimal t.a) (decimal t.b) (decimal t.c) in
    omega (arith, a, b, c, all)

head_short : (corners triangles : ℕ) → corners ≤ 60000 → triangles ≤ 20000 → length (head_text corners triangles) ≤ 18
head_short corners triangles few_corners few_triangles =
    let a = number_short corners few_corners in
    let b = number_short triangles (omega (arith, few_triangles)) in
    let all = two_long (decimal corners) (decimal triangles) in
    omega (arith, a, b, all)

corners_short : (decimals : ℕ) (corners : List Corner) → decimals ≤ 6 → length (flat_map (corner_line decimals) corners) ≤ 48 * length corners
corners_short decimals [] few = omega arith
corners_short decimals (c ∷ corners) few =
    let here = corner_short decimals c few in
    let others = corners_short decimals corners few in
    let all = length-append (corner_line decimals c) (flat_map (corner_line decimals) corners) in
    omega (arith, here, others, all)

triangles_short : (vertices : ℕ) (triangles : List Tri) → vertices ≤ 60000 → All (IsBelow vertices) triangles → length (flat_map triangle_line triangles) ≤ 20 * length triangles
triangles_short vertices [] few below = omega arith
triangles_short vertices (t ∷ triangles) few below =
    let here = triangle_short vertices t few (All-head (IsBelow vertices) t triangles below) in
    let others = triangles_short vertices triangles few (All-rest (IsBelow vertices) t triangles (t ∷ triangles) refl below) in
    let all = length-append (triangle_line t) (flat_map triangle_line triangles) in
    omega (arith, here, others, all)

-- ---- the whole
pub off_short : (decimals : ℕ) (corners : List Corner) (triangles : List Tri) → decimals ≤ 6 → length corners ≤ 60000 → length triangles ≤ 20000
    → All (IsBelow (length corners)) triangles → length (off_of decimals corners triangles) ≤ 16777216
off_short decimals corners triangles few few_corners few_triangles below =
    let head = head_text (length corners) (length triangles) in
    let lines = flat_map (corner_line decimals) corners in
    let faces = flat_map triangle_line triangles in
    let a = head_short (length corners) (length triangles) few_corners few_triangles in
    let b = corners_short decimals corners few in
    let d = triangles_short (length corners) triangles few_corners below in
    let e = length-append (head ++ lines) faces in
    let f = length-append head lines in
    omega (arith, a, b, d, e, f, few_corners, few_triangles)
