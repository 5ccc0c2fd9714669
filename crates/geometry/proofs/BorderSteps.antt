-- The border of a face runs at right angles to its normal and to the direction, and what is ordinary in a cut view stays so along a line of sight.
use Rattle.std.proofs.Common.{◌≡◌, List, [], ◌∷◌, suc, refl, subst, sym, ◌∙◌, arith}
use Rattle.std.proofs.lemmas.Int.{ints}
use Rattle.integers.proofs.Absolutes.{pos-sum_of_three}
use Rattle.integers.proofs.Signs.{zero_of_mul}
use Rattle.std.specs.Prelude.{ℕ, ◌+◌, ℤ, pos, ◌+ℤ◌, ◌-ℤ◌, ◌*ℤ◌, ◌<ℤ◌}
use Rattle.integers.proofs.Ring.{Expr, var, con, ◌⊕◌, ◌⊖◌, ◌⊗◌, ring, by_one, by_two}
use Rattle.lattice.specs.declared.points.Corner.{Corner}
use Rattle.lattice.specs.Triple.{Triple, dot, cross, IsZero}
use Rattle.lattice.specs.Points.{Point, IsPoint, point_of, scaled, height_of, OnOneSight}
use Rattle.lattice.specs.Cuts.{Plane, toward_of, plane_height}
use Rattle.lattice.proofs.Vectors.{Letters, letters, dots, crosses}
use Rattle.geometry.specs.Faces.{normal, IsPointOfFace}
use Rattle.geometry.specs.Parts.{Part, Face}
use Rattle.geometry.specs.Cuts.{EdgeOrBorder, border, step_of, IsOnBorder, IsSeenOverInCut, IsOrdinaryInCut}
use Rattle.geometry.proofs.Sights.{sight_on}

-- from one point to another, times both divisors
abbrev pub step_between : Point → Point → Triple
step_between p q = record { x = (q.x *ℤ p.w) -ℤ (p.x *ℤ q.w); y = (q.y *ℤ p.w) -ℤ (p.y *ℤ q.w); z = (q.z *ℤ p.w) -ℤ (p.z *ℤ q.w) }

-- what is at right angles to d and to n is along their cross product
abbrev D : Letters
D = letters 0

abbrev N : Letters
N = letters 3

abbrev T : Letters
T = letters 6

along_cross : (d n t : Triple) → dot d t ≡ pos 0 → dot n t ≡ pos 0 → IsZero (cross t (cross d n))
along_cross d n t level flat = record {
  x = by_two _ _ (dot d t) (pos 0) (pos 0 -ℤ n.x) (dot n t) (pos 0) d.x
      (ring values ((crosses T (crosses D N)).x ⊖ con (pos 0)) (((dots D T ⊖ con (pos 0)) ⊗ (con (pos 0) ⊖ N.x)) ⊕ ((dots N T ⊖ con (pos 0)) ⊗ D.x)) refl) level flat;
  y = by_two _ _ (dot d t) (pos 0) (pos 0 -ℤ n.y) (dot n t) (pos 0) d.y
      (ring values ((crosses T (crosses D N)).y ⊖ con (pos 0)) (((dots D T ⊖ con (pos 0)) ⊗ (con (pos 0) ⊖ N.y)) ⊕ ((dots N T ⊖ con (pos 0)) ⊗ D.y)) refl) level flat;
  z = by_two _ _ (dot d t) (pos 0) (pos 0 -ℤ n.z) (dot n t) (pos 0) d.z
      (ring values ((crosses T (crosses D N)).z ⊖ con (pos 0)) (((dots D T ⊖ con (pos 0)) ⊗ (con (pos 0) ⊖ N.z)) ⊕ ((dots N T ⊖ con (pos 0)) ⊗ D.z)) refl) level flat;
}
  where
    values : List ℤ
    values = d.x ∷ d.y ∷ d.z ∷ n.x ∷ n.y ∷ n.z ∷ t.x ∷ t.y ∷ t.z ∷ []

-- the product with a step, and when it is nothing
step_product : (r : Triple) (p q : Point) → dot r (step_between p q) ≡ (dot r (scaled q) *ℤ p.w) -ℤ (dot r (scaled p) *ℤ q.w)
step_product r p q =
    ring (r.x ∷ r.y ∷ r.z ∷ p.x ∷ p.y ∷ p.z ∷ p.w ∷ q.x ∷ q.y ∷ q.z ∷ q.w ∷ [])
    (dots (letters 0) (record { x = (var 7 ⊗ var 6) ⊖ (var 3 ⊗ var 10); y = (var 8 ⊗ var 6) ⊖ (var 4 ⊗ var 10); z = (var 9 ⊗ var 6) ⊖ (var 5 ⊗ var 10) }))
    ((dots (letters 0) (letters 7) ⊗ var 6) ⊖ (dots (letters 0) (letters 3) ⊗ var 10)) refl

-- both have one value
level_step : (k x y h v w : ℤ) → pos 0 <ℤ k → k *ℤ x ≡ h *ℤ v → k *ℤ y ≡ h *ℤ w → (y *ℤ v) -ℤ (x *ℤ w) ≡ pos 0
level_step k x y h v w positive e g =
    zero_of_mul k ((y *ℤ v) -ℤ (x *ℤ w)) positive
    (by_two _ _ (k *ℤ y) (h *ℤ w) v (k *ℤ x) (h *ℤ v) (pos 0 -ℤ w)
    (ring (k ∷ x ∷ y ∷ h ∷ v ∷ w ∷ [])
    ((var 0 ⊗ ((var 2 ⊗ var 4) ⊖ (var 1 ⊗ var 5))) ⊖ con (pos 0))
    ((((var 0 ⊗ var 2) ⊖ (var 3 ⊗ var 5)) ⊗ var 4) ⊕ (((var 0 ⊗ var 1) ⊖ (var 3 ⊗ var 4)) ⊗ (con (pos 0) ⊖ var 5))) refl) g e)

-- a point of a face is as far along the normal as its corners
pub along_normal : (a b c : Corner) (p : Point) → IsPointOfFace a b c p → pos 1 *ℤ dot (normal a b c) (scaled p) ≡ dot (normal a b c) (scaled (point_of a)) *ℤ p.w
along_normal a b c p (i, j, k, some, is) =
    let P : Point → Type 0 = λ q. pos 1 *ℤ dot (normal a b c) (scaled q) ≡ dot (normal a b c) (scaled (point_of a)) *ℤ q.w in
    subst P (sym is) (sum (pos i) (pos j) (pos k) (pos (i + j + k)) (pos-sum_of_three i j k))
  where
    sum : (i j k w : ℤ) → w ≡ (i +ℤ j) +ℤ k
        → pos 1 *ℤ dot (normal a b c) (record { x = ((i *ℤ a.x) +ℤ (j *ℤ b.x)) +ℤ (k *ℤ c.x); y = ((i *ℤ a.y) +ℤ (j *ℤ b.y)) +ℤ (k *ℤ c.y); z = ((i *ℤ a.z) +ℤ (j *ℤ b.z)) +ℤ (k *ℤ c.z) })
        ≡ dot (normal a b c) (scaled (point_of a)) *ℤ w
    sum i j k w e =
        by_one _ _ w ((i +ℤ j) +ℤ k) (pos 0 -ℤ dot (normal a b c) (scaled (point_of a)))
        (ring (a.x ∷ a.y ∷ a.z ∷ b.x ∷ b.y ∷ b.z ∷ c.x ∷ c.y ∷ c.z ∷ i ∷ j ∷ k ∷ w ∷ [])
        ((con (pos 1) ⊗ dots normals (record { x = mixed 0 3 6; y = mixed 1 4 7; z = mixed 2 5 8 })) ⊖ (dots normals (letters 0) ⊗ var 12))
        ((var 12 ⊖ ((var 9 ⊕ var 10) ⊕ var 11)) ⊗ (con (pos 0) ⊖ dots normals (letters 0))) refl) e
      where
        way : ℕ → Letters
        way n = record { x = var n ⊖ var 0; y = var (suc n) ⊖ var 1; z = var (suc (suc n)) ⊖ var 2 }

        normals : Letters
        normals = crosses (way 3) (way 6)

        mixed : ℕ → ℕ → ℕ → Expr
        mixed k l m = ((var 9 ⊗ var k) ⊕ (var 10 ⊗ var l)) ⊕ (var 11 ⊗ var m)

-- any two points of a border are along it
pub border_runs : (c : Plane) {s : Part} (f : Face s) (p q : Point) → IsOnBorder c f p → IsOnBorder c f q → IsZero (cross (step_between p q) (step_of c (border f)))
border_runs c f p q first second =
    let d = toward_of c in
    let n = normal f.a f.b f.c in
    along_cross d n (step_between p q)
    (step_product d p q ∙ level_step (pos 2) (height_of d p) (height_of d q) (plane_height c) p.w q.w (omega (arith, ints)) first.1 second.1)
    (step_product n p q ∙ level_step (pos 1) (dot n (scaled p)) (dot n (scaled q)) (dot n (scaled (point_of f.a))) p.w q.w (omega (arith, ints)) (along_normal f.a f.b f.c p first.0) (along_normal f.a f.b f.c q second.0))

-- ---- ordinary points
pub ordinary_along_cut : (c : Plane) (s : Part) (p q : Point) → IsPoint q → OnOneSight (toward_of c) q p → IsOrdinaryInCut c s p → IsOrdinaryInCut c s q
ordinary_along_cut c s p q positive h ordinary = record {
  off_corners = λ k there g. ordinary.off_corners k there (sight_on d (point_of k) q p positive g h);
  off_ends = λ e r on_edge on g. ordinary.off_ends e r on_edge on (sight_on d r q p positive g h);
  off_crossings = λ x y under_x under_y. ordinary.off_crossings x y (along x under_x) (along y under_y);
}
  where
    d : Triple
    d = toward_of c

    along : (x : EdgeOrBorder s) → IsSeenOverInCut c x q → IsSeenOverInCut c x p
    along x (r, on, g) = (r, on, sight_on d r q p positive g h)
