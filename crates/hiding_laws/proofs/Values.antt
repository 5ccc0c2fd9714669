-- What the determinants are at the corners, and that they are linear along an edge.
use Rattle.std.proofs.Common.{◌≡◌, List, [], ◌∷◌, refl}
use Rattle.std.specs.Prelude.{ℤ, pos, ◌-ℤ◌, ◌*ℤ◌}
use Rattle.integers.proofs.Ring.{Expr, var, con, ◌⊕◌, ◌⊖◌, ◌⊗◌, ring}
use Rattle.lattice.specs.declared.points.Corner.{Corner}
use Rattle.lattice.specs.Triple.{Triple}
use Rattle.lattice.specs.Points.{point_of, difference}
use Rattle.lattice.proofs.Vectors.{Letters, letters, dots, crosses}
use Rattle.geometry.specs.Faces.{share_point, facing_of}
use Rattle.hiding_laws.specs.Values.{offset, value_at, side_of, depth_of, past_of, short_of, behind_of}
use Rattle.lattice.proofs.PointLetters.{PointLetters, corner_letters, ways, offsets, normals}

pub offset-corner : (a p : Corner) → offset a (point_of p) ≡ difference a p
offset-corner a p = λ i. record { x = once p.x a.x i; y = once p.y a.y i; z = once p.z a.z i }
  where
    once : (x y : ℤ) → x -ℤ pos 1 *ℤ y ≡ x -ℤ y
    once x y = ring (x ∷ y ∷ []) (var 0 ⊖ (con (pos 1) ⊗ var 1)) (var 0 ⊖ var 1) refl

module _ (d : Triple) (p q : Corner) (n m : ℤ) where
  -- the values, with three more vectors
  abbrev values : Triple → Corner → Corner → Corner → List ℤ
  values s a b c =
      n ∷ m ∷ d.x ∷ d.y ∷ d.z ∷ p.x ∷ p.y ∷ p.z ∷ q.x ∷ q.y ∷ q.z ∷ s.x ∷ s.y ∷ s.z ∷ a.x ∷ a.y ∷ a.z ∷ b.x ∷ b.y ∷ b.z ∷ c.x ∷ c.y ∷ c.z ∷ []

  abbrev N : Expr
  N = var 0

  abbrev M : Expr
  M = var 1

  abbrev D : Letters
  D = letters 2

  abbrev S : Letters
  S = letters 11

  abbrev A : Letters
  A = letters 14

  abbrev B : Letters
  B = letters 17

  abbrev C : Letters
  C = letters 20

  -- what is linear from x to y
  abbrev evenly : Expr → Expr → Expr
  evenly x y = ((M ⊖ N) ⊗ x) ⊕ (N ⊗ y)

  abbrev P : PointLetters
  P = corner_letters (letters 5)

  abbrev Q : PointLetters
  Q = corner_letters (letters 8)

  abbrev Here : PointLetters
  Here = record { x = evenly P.x Q.x; y = evenly P.y Q.y; z = evenly P.z Q.z; w = M }

  pub side-share : (a b : Corner) → side_of d a b (share_point p q n m) ≡ value_at (side_of d a b (point_of p)) (side_of d a b (point_of q)) n m
  side-share a b =
      let at = λ (e : PointLetters). dots D (crosses (ways A B) (offsets A e)) in
      ring (values d a b b) (at Here) (evenly (at P) (at Q)) refl

  pub depth-share : (a b c : Corner) → depth_of a b c (share_point p q n m) ≡ value_at (depth_of a b c (point_of p)) (depth_of a b c (point_of q)) n m
  depth-share a b c =
      let at = λ (e : PointLetters). con (pos 0) ⊖ dots (offsets A e) (normals A B C) in
      ring (values d a b c) (at Here) (evenly (at P) (at Q)) refl

  pub past-share : (axis : Triple) (k : Corner) → past_of axis k (share_point p q n m) ≡ value_at (past_of axis k (point_of p)) (past_of axis k (point_of q)) n m
  past-share axis k =
      let at = λ (e : PointLetters). dots S (offsets A e) in
      ring (values axis k k k) (at Here) (evenly (at P) (at Q)) refl

  pub short-share : (axis : Triple) (k : Corner) → short_of axis k (share_point p q n m) ≡ value_at (short_of axis k (point_of p)) (short_of axis k (point_of q)) n m
  short-share axis k =
      let at = λ (e : PointLetters). con (pos 0) ⊖ dots S (offsets A e) in
      ring (values axis k k k) (at Here) (evenly (at P) (at Q)) refl

  pub behind-share : (axis : Triple) (k l : Corner) → behind_of d axis k l (share_point p q n m) ≡ value_at (behind_of d axis k l (point_of p)) (behind_of d axis k l (point_of q)) n m
  behind-share axis k l =
      let at = λ (e : PointLetters). (dots D (ways A B) ⊗ dots S (offsets A e)) ⊖ (dots S (ways A B) ⊗ dots D (offsets A e)) in
      ring (values axis k l l) (at Here) (evenly (at P) (at Q)) refl

-- the other order of the corners turns the face round
pub facing-turned : (d : Triple) (a b c : Corner) → facing_of d a c b ≡ pos 0 -ℤ facing_of d a b c
facing-turned d a b c =
    let at = λ (b c : Letters). dots (letters 0) (normals (letters 3) b c) in
    ring (d.x ∷ d.y ∷ d.z ∷ a.x ∷ a.y ∷ a.z ∷ b.x ∷ b.y ∷ b.z ∷ c.x ∷ c.y ∷ c.z ∷ [])
    (at (letters 9) (letters 6)) (con (pos 0) ⊖ at (letters 6) (letters 9)) refl
