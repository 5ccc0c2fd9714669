-- Points of edges and faces: their corners in another order, a side of a face, a share of an edge; and products with sums of corners.
use Rattle.std.proofs.Common.{◌≡◌, ℕ, ◌+◌, ◌-◌, [], ◌∷◌, refl, sym, ap, ◌∙◌, arith}
use Rattle.std.specs.Prelude.{ℤ, pos, negsuc, ◌+ℤ◌, ◌*ℤ◌, ◌<ℤ◌, ◌≤ℤ◌}
use Rattle.std.proofs.lemmas.Int.{ints}
use Rattle.integers.proofs.Comparisons.{last_two_exchanged}
use Rattle.integers.proofs.Ring.{Expr, var, ◌⊕◌, ◌⊗◌, ring}
use Rattle.lattice.specs.declared.points.Corner.{Corner}
use Rattle.lattice.specs.Triple.{Triple, dot}
use Rattle.lattice.specs.Points.{Point, point_of, scaled}
use Rattle.lattice.proofs.Vectors.{letters, dots}
use Rattle.geometry.specs.Faces.{face_sum, edge_sum, share_point, IsPointOfEdge, IsPointOfFace}
use Rattle.geometry.proofs.Shares.{edge_turned, edge_share}

pub face-round : (a b c : Corner) (i j k : ℕ) → face_sum a b c i j k ≡ face_sum b c a j k i
face-round a b c i j k = λ t. record {
  x = round (pos i *ℤ a.x) (pos j *ℤ b.x) (pos k *ℤ c.x) t;
  y = round (pos i *ℤ a.y) (pos j *ℤ b.y) (pos k *ℤ c.y) t;
  z = round (pos i *ℤ a.z) (pos j *ℤ b.z) (pos k *ℤ c.z) t;
  w = pos (whole i j k t);
}
  where
    round : (x y z : ℤ) → (x +ℤ y) +ℤ z ≡ (y +ℤ z) +ℤ x
    round x y z = omega (arith, ints)

    whole : (i j k : ℕ) → i + j + k ≡ j + k + i
    whole i j k = omega arith

pub face_point-round : (a b c : Corner) (q : Point) → IsPointOfFace a b c q → IsPointOfFace b c a q
face_point-round a b c q (i, j, k, some, is) = (j, k, i, omega arith, is ∙ face-round a b c i j k)

pub face_point-turned : (a b c : Corner) (q : Point) → IsPointOfFace a b c q → IsPointOfFace a c b q
face_point-turned a b c q (i, j, k, some, is) = (
  i,
  k,
  j,
  omega arith,
  is ∙ (λ t. record {
    x = last_two_exchanged (pos i *ℤ a.x) (pos j *ℤ b.x) (pos k *ℤ c.x) t;
    y = last_two_exchanged (pos i *ℤ a.y) (pos j *ℤ b.y) (pos k *ℤ c.y) t;
    z = last_two_exchanged (pos i *ℤ a.z) (pos j *ℤ b.z) (pos k *ℤ c.z) t;
    w = pos (sum i j k t);
  }),
)
  where
    sum : (i j k : ℕ) → i + j + k ≡ i + k + j
    sum i j k = omega arith

pub face_point-of_side : (a b c : Corner) (q : Point) → IsPointOfEdge a b q → IsPointOfFace a b c q
face_point-of_side a b c q (i, j, some, is) = (i, j, 0, omega (arith, some), is ∙ same)
  where
    more : (f g : ℤ) → f ≡ f +ℤ (pos 0 *ℤ g)
    more f g = omega (arith, ints)

    whole : (i j : ℕ) → i + j ≡ i + j + 0
    whole i j = omega arith

    same : edge_sum a b i j ≡ face_sum a b c i j 0
    same =
        let on_x = more ((pos i *ℤ a.x) +ℤ (pos j *ℤ b.x)) c.x in
        let on_y = more ((pos i *ℤ a.y) +ℤ (pos j *ℤ b.y)) c.y in
        let on_z = more ((pos i *ℤ a.z) +ℤ (pos j *ℤ b.z)) c.z in
        λ t. record { x = on_x t; y = on_y t; z = on_z t; w = pos (whole i j t) }

pub edge_point-turned : (a b : Corner) (q : Point) → IsPointOfEdge a b q → IsPointOfEdge b a q
edge_point-turned a b q (i, j, some, is) = (j, i, omega arith, is ∙ edge_turned a b i j)

-- the point at the share n / m of an edge
pub edge_point-at_share : (a b : Corner) (n m : ℤ) → pos 0 <ℤ m → pos 0 ≤ℤ n → n ≤ℤ m → IsPointOfEdge a b (share_point a b n m)
edge_point-at_share a b (negsuc n) m there least most = absurd (omega (arith, ints))
edge_point-at_share a b (pos n) (negsuc m) there least most = absurd (omega (arith, ints))
edge_point-at_share a b (pos n) (pos m) there least most =
    (m - n, n, omega (arith, ints), sym (edge_share a b (m - n) n ∙ ap (λ k. share_point a b (pos n) (pos k)) (whole n m most)))
  where
    whole : (n m : ℕ) → pos n ≤ℤ pos m → (m - n) + n ≡ m
    whole n m h = omega (arith, ints)

-- products with sums of corners
pub dot-face_sum : (s : Triple) (a b c : Corner) (i j k : ℕ)
    → dot s (scaled (face_sum a b c i j k)) ≡ ((pos i *ℤ dot s (scaled (point_of a))) +ℤ (pos j *ℤ dot s (scaled (point_of b)))) +ℤ (pos k *ℤ dot s (scaled (point_of c)))
dot-face_sum s a b c i j k =
    let sum = λ (x y z : Expr). ((var 0 ⊗ x) ⊕ (var 1 ⊗ y)) ⊕ (var 2 ⊗ z) in
    let on = dots (letters 3) in
    ring (pos i ∷ pos j ∷ pos k ∷ s.x ∷ s.y ∷ s.z ∷ a.x ∷ a.y ∷ a.z ∷ b.x ∷ b.y ∷ b.z ∷ c.x ∷ c.y ∷ c.z ∷ [])
    (on (record { x = sum (var 6) (var 9) (var 12); y = sum (var 7) (var 10) (var 13); z = sum (var 8) (var 11) (var 14) }))
    (sum (on (letters 6)) (on (letters 9)) (on (letters 12))) refl

pub dot-edge_sum : (s : Triple) (a b : Corner) (i j : ℕ)
    → dot s (scaled (edge_sum a b i j)) ≡ (pos i *ℤ dot s (scaled (point_of a))) +ℤ (pos j *ℤ dot s (scaled (point_of b)))
dot-edge_sum s a b i j =
    let sum = λ (x y : Expr). (var 0 ⊗ x) ⊕ (var 1 ⊗ y) in
    let on = dots (letters 2) in
    ring (pos i ∷ pos j ∷ s.x ∷ s.y ∷ s.z ∷ a.x ∷ a.y ∷ a.z ∷ b.x ∷ b.y ∷ b.z ∷ [])
    (on (record { x = sum (var 5) (var 8); y = sum (var 6) (var 9); z = sum (var 7) (var 10) }))
    (sum (on (letters 5)) (on (letters 8))) refl
