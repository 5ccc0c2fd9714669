-- Along an edge and along a border, as they are seen: a border whose projection is parallel to that of the edge has all points of the edge to one side, equally far.
use Rattle.std.proofs.Common.{◌≡◌, ℕ, suc, ◌+◌, [], ◌∷◌, List, refl, ap, ◌∙◌, unsigned_abs}
use Rattle.std.specs.Prelude.{ℤ, pos, ◌+ℤ◌, ◌-ℤ◌, ◌*ℤ◌}
use Rattle.geometry.proofs.FacePoints.{dot-edge_sum}
use Rattle.integers.proofs.Absolutes.{abs_of_positive, pos-sum, abs_of_negative}
use Rattle.integers.proofs.Ring.{Expr, var, con, ◌⊕◌, ◌⊖◌, ◌⊗◌, ring, by_one, same_of_gap}
use Rattle.lattice.specs.declared.points.Corner.{Corner}
use Rattle.lattice.specs.Triple.{Triple, dot, cross, det, right_axis, up_axis}
use Rattle.lattice.specs.Points.{point_of, scaled}
use Rattle.lattice.specs.Cuts.{Plane, toward_of, plane_height}
use Rattle.lattice.proofs.Vectors.{Letters, letters, dots, crosses}
use Rattle.lattice.proofs.SightLines.{right_axis-is}
use Rattle.geometry.specs.Faces.{difference, normal, edge_sum, share_point}
use Rattle.geometry.specs.Cuts.{over_of}
use Rattle.cut_plane.proofs.Sights.{Sight, sight_of, right_by, above_by, turn_of, crossing_sight}
use Rattle.cut_plane.proofs.Planes.{seen, rights, aboves, turns}
use Rattle.cut_plane.proofs.LoneCorners.{IsAlone, before, beyond}

-- ---- along an edge
share_gap : (s : Triple) (a b : Corner) (n m n' m' : ℤ)
    → (dot s (scaled (share_point a b n' m')) *ℤ m) -ℤ (dot s (scaled (share_point a b n m)) *ℤ m') ≡ ((n' *ℤ m) -ℤ (n *ℤ m')) *ℤ dot s (difference a b)
share_gap s a b n m n' m' =
    ring (s.x ∷ s.y ∷ s.z ∷ a.x ∷ a.y ∷ a.z ∷ b.x ∷ b.y ∷ b.z ∷ n ∷ m ∷ n' ∷ m' ∷ [])
    ((dots (letters 0) (shared (var 11) (var 12)) ⊗ var 10) ⊖ (dots (letters 0) (shared (var 9) (var 10)) ⊗ var 12))
    (((var 11 ⊗ var 10) ⊖ (var 9 ⊗ var 12)) ⊗ dots (letters 0) (record { x = var 6 ⊖ var 3; y = var 7 ⊖ var 4; z = var 8 ⊖ var 5 })) refl
  where
    shared : Expr → Expr → Letters
    shared n m = record { x = ((m ⊖ n) ⊗ var 3) ⊕ (n ⊗ var 6); y = ((m ⊖ n) ⊗ var 4) ⊕ (n ⊗ var 7); z = ((m ⊖ n) ⊗ var 5) ⊕ (n ⊗ var 8) }

-- ---- along a border
-- with values x, y and z at three corners whose heights above the plane are u, v and w
crossed_gap : (u v w x y z : ℤ) → ((((pos 0 -ℤ w) *ℤ x) +ℤ (u *ℤ z)) *ℤ ((pos 0 -ℤ v) +ℤ u)) -ℤ ((((pos 0 -ℤ v) *ℤ x) +ℤ (u *ℤ y)) *ℤ ((pos 0 -ℤ w) +ℤ u))
    ≡ u *ℤ (((u -ℤ v) *ℤ (z -ℤ x)) -ℤ ((u -ℤ w) *ℤ (y -ℤ x)))
crossed_gap u v w x y z =
    ring (u ∷ v ∷ w ∷ x ∷ y ∷ z ∷ [])
    (((((con (pos 0) ⊖ var 2) ⊗ var 3) ⊕ (var 0 ⊗ var 5)) ⊗ ((con (pos 0) ⊖ var 1) ⊕ var 0)) ⊖ ((((con (pos 0) ⊖ var 1) ⊗ var 3) ⊕ (var 0 ⊗ var 4)) ⊗ ((con (pos 0) ⊖ var 2) ⊕ var 0)))
    (var 0 ⊗ (((var 0 ⊖ var 1) ⊗ (var 5 ⊖ var 3)) ⊖ ((var 0 ⊖ var 2) ⊗ (var 4 ⊖ var 3)))) refl

crossed_gap_back : (u v w x y z : ℤ) → (((w *ℤ x) +ℤ ((pos 0 -ℤ u) *ℤ z)) *ℤ (v +ℤ (pos 0 -ℤ u))) -ℤ (((v *ℤ x) +ℤ ((pos 0 -ℤ u) *ℤ y)) *ℤ (w +ℤ (pos 0 -ℤ u)))
    ≡ u *ℤ (((u -ℤ v) *ℤ (z -ℤ x)) -ℤ ((u -ℤ w) *ℤ (y -ℤ x)))
crossed_gap_back u v w x y z =
    ring (u ∷ v ∷ w ∷ x ∷ y ∷ z ∷ [])
    ((((var 2 ⊗ var 3) ⊕ ((con (pos 0) ⊖ var 0) ⊗ var 5)) ⊗ (var 1 ⊕ (con (pos 0) ⊖ var 0))) ⊖ (((var 1 ⊗ var 3) ⊕ ((con (pos 0) ⊖ var 0) ⊗ var 4)) ⊗ (var 2 ⊕ (con (pos 0) ⊖ var 0))))
    (var 0 ⊗ (((var 0 ⊖ var 1) ⊗ (var 5 ⊖ var 3)) ⊖ ((var 0 ⊖ var 2) ⊗ (var 4 ⊖ var 3)))) refl

-- the difference of the heights twice, with two ways from a corner: along the cross product of the direction and the normal
normal_gap : (s d : Triple) (h : ℤ) (k l m : Corner)
    → ((((pos 2 *ℤ dot d (scaled (point_of k))) -ℤ h) -ℤ ((pos 2 *ℤ dot d (scaled (point_of l))) -ℤ h)) *ℤ (dot s (scaled (point_of m)) -ℤ dot s (scaled (point_of k))))
    -ℤ ((((pos 2 *ℤ dot d (scaled (point_of k))) -ℤ h) -ℤ ((pos 2 *ℤ dot d (scaled (point_of m))) -ℤ h)) *ℤ (dot s (scaled (point_of l)) -ℤ dot s (scaled (point_of k))))
    ≡ pos 2 *ℤ dot s (cross d (normal k l m))
normal_gap s d h k l m =
    ring (s.x ∷ s.y ∷ s.z ∷ d.x ∷ d.y ∷ d.z ∷ k.x ∷ k.y ∷ k.z ∷ l.x ∷ l.y ∷ l.z ∷ m.x ∷ m.y ∷ m.z ∷ h ∷ [])
    (((over 6 ⊖ over 9) ⊗ (dots (letters 0) (letters 12) ⊖ dots (letters 0) (letters 6))) ⊖ ((over 6 ⊖ over 12) ⊗ (dots (letters 0) (letters 9) ⊖ dots (letters 0) (letters 6))))
    (con (pos 2) ⊗ dots (letters 0) (crosses (letters 3) (crosses (way 9) (way 12)))) refl
  where
    over : ℕ → Expr
    over n = (con (pos 2) ⊗ dots (letters 3) (letters n)) ⊖ var 15

    way : ℕ → Letters
    way n = record { x = var n ⊖ var 6; y = var (suc n) ⊖ var 7; z = var (suc (suc n)) ⊖ var 8 }

module _ (c : Plane) (k l m : Corner) (alone : IsAlone c k l m) where
  abbrev u : ℤ
  u = over_of c k

  -- from one end of the border to the other, along an axis
  pub border_gap : (s : Triple)
      → (dot s (scaled (edge_sum k m (unsigned_abs (over_of c m)) (unsigned_abs u))) *ℤ pos (unsigned_abs (over_of c l) + unsigned_abs u))
      -ℤ (dot s (scaled (edge_sum k l (unsigned_abs (over_of c l)) (unsigned_abs u))) *ℤ pos (unsigned_abs (over_of c m) + unsigned_abs u))
      ≡ u *ℤ (pos 2 *ℤ dot s (cross (toward_of c) (normal k l m)))
  border_gap s =
      let x = dot s (scaled (point_of k)) in
      let y = dot s (scaled (point_of l)) in
      let z = dot s (scaled (point_of m)) in
      (λ i. (dot-edge_sum s k m (unsigned_abs (over_of c m)) (unsigned_abs u) i *ℤ pos-sum (unsigned_abs (over_of c l)) (unsigned_abs u) i)
      -ℤ (dot-edge_sum s k l (unsigned_abs (over_of c l)) (unsigned_abs u) i *ℤ pos-sum (unsigned_abs (over_of c m)) (unsigned_abs u) i))
      ∙ by alone x y z
      ∙ ap (λ g. u *ℤ g) (normal_gap s (toward_of c) (plane_height c) k l m)
    where
      by : IsAlone c k l m → (x y z : ℤ)
          → (((pos (unsigned_abs (over_of c m)) *ℤ x) +ℤ (pos (unsigned_abs u) *ℤ z)) *ℤ (pos (unsigned_abs (over_of c l)) +ℤ pos (unsigned_abs u)))
          -ℤ (((pos (unsigned_abs (over_of c l)) *ℤ x) +ℤ (pos (unsigned_abs u) *ℤ y)) *ℤ (pos (unsigned_abs (over_of c m)) +ℤ pos (unsigned_abs u)))
          ≡ u *ℤ (((u -ℤ over_of c l) *ℤ (z -ℤ x)) -ℤ ((u -ℤ over_of c m) *ℤ (y -ℤ x)))
      by (before p q r) x y z =
          (λ i. (((abs_of_negative (over_of c m) r i *ℤ x) +ℤ (abs_of_positive u p i *ℤ z)) *ℤ (abs_of_negative (over_of c l) q i +ℤ abs_of_positive u p i))
          -ℤ (((abs_of_negative (over_of c l) q i *ℤ x) +ℤ (abs_of_positive u p i *ℤ y)) *ℤ (abs_of_negative (over_of c m) r i +ℤ abs_of_positive u p i)))
          ∙ crossed_gap u (over_of c l) (over_of c m) x y z
      by (beyond p q r) x y z =
          (λ i. (((abs_of_positive (over_of c m) r i *ℤ x) +ℤ (abs_of_negative u p i *ℤ z)) *ℤ (abs_of_positive (over_of c l) q i +ℤ abs_of_negative u p i))
          -ℤ (((abs_of_positive (over_of c l) q i *ℤ x) +ℤ (abs_of_negative u p i *ℤ y)) *ℤ (abs_of_positive (over_of c m) r i +ℤ abs_of_negative u p i)))
          ∙ crossed_gap_back u (over_of c l) (over_of c m) x y z

-- ---- both
-- the sides of two sights by a segment differ by the steps' determinant
turn_gap : (k l p q : Sight) → (turn_of k l p *ℤ q.w) -ℤ (turn_of k l q *ℤ p.w) ≡ (above_by k l *ℤ right_by p q) -ℤ (right_by k l *ℤ above_by p q)
turn_gap k l p q =
    ring (k.u ∷ k.v ∷ k.w ∷ l.u ∷ l.v ∷ l.w ∷ p.u ∷ p.v ∷ p.w ∷ q.u ∷ q.v ∷ q.w ∷ [])
    ((turns (seen 0) (seen 3) (seen 6) ⊗ var 11) ⊖ (turns (seen 0) (seen 3) (seen 9) ⊗ var 8))
    ((aboves (seen 0) (seen 3) ⊗ rights (seen 6) (seen 9)) ⊖ (rights (seen 0) (seen 3) ⊗ aboves (seen 6) (seen 9))) refl

-- of two vectors as they are seen, with r square to d
pub seen_det : (d r e t : Triple) → dot r d ≡ pos 0 → (dot (cross d r) t *ℤ dot r e) -ℤ (dot r t *ℤ dot (cross d r) e) ≡ dot r r *ℤ det d e t
seen_det d r e t level =
    by_one _ _ (dot r d) (pos 0) (pos 0 -ℤ det r e t)
    (ring (d.x ∷ d.y ∷ d.z ∷ r.x ∷ r.y ∷ r.z ∷ e.x ∷ e.y ∷ e.z ∷ t.x ∷ t.y ∷ t.z ∷ [])
    (((dots (crosses D R) T ⊗ dots R E) ⊖ (dots R T ⊗ dots (crosses D R) E)) ⊖ (dots R R ⊗ dots D (crosses E T)))
    ((dots R D ⊖ con (pos 0)) ⊗ (con (pos 0) ⊖ dots R (crosses E T))) refl) level
  where
    D : Letters
    D = letters 0

    R : Letters
    R = letters 3

    E : Letters
    E = letters 6

    T : Letters
    T = letters 9

-- the normal from another corner
pub normal_turned : (k l m : Corner) → normal l m k ≡ normal k l m
normal_turned k l m = λ i. record { x = first i; y = second i; z = third i }
  where
    way : ℕ → ℕ → Letters
    way n p = record { x = var p ⊖ var n; y = var (suc p) ⊖ var (suc n); z = var (suc (suc p)) ⊖ var (suc (suc n)) }

    values : List ℤ
    values = k.x ∷ k.y ∷ k.z ∷ l.x ∷ l.y ∷ l.z ∷ m.x ∷ m.y ∷ m.z ∷ []

    first : (normal l m k).x ≡ (normal k l m).x
    first = ring values (crosses (way 3 6) (way 3 0)).x (crosses (way 0 3) (way 0 6)).x refl

    second : (normal l m k).y ≡ (normal k l m).y
    second = ring values (crosses (way 3 6) (way 3 0)).y (crosses (way 0 3) (way 0 6)).y refl

    third : (normal l m k).z ≡ (normal k l m).z
    third = ring values (crosses (way 3 6) (way 3 0)).z (crosses (way 0 3) (way 0 6)).z refl

-- two places of an edge, by a border
module _ (c : Plane) (k l t : Corner) (alone : IsAlone c k l t) (a b : Corner) (n m n' m' : ℤ) where
  abbrev d : Triple
  d = toward_of c

  abbrev K : Sight
  K = crossing_sight c k l

  abbrev L : Sight
  L = crossing_sight c k t

  abbrev P : Sight
  P = sight_of d (share_point a b n m)

  abbrev Q : Sight
  Q = sight_of d (share_point a b n' m')

  abbrev R : Triple
  R = right_axis d

  abbrev U : Triple
  U = up_axis d

  abbrev e : Triple
  e = difference a b

  abbrev B : Triple
  B = cross d (normal k l t)

  abbrev G : ℤ
  G = (n' *ℤ m) -ℤ (n *ℤ m')

  together : (u g x y z w : ℤ) → ((u *ℤ (pos 2 *ℤ x)) *ℤ (g *ℤ y)) -ℤ ((u *ℤ (pos 2 *ℤ z)) *ℤ (g *ℤ w)) ≡ ((pos 2 *ℤ u) *ℤ g) *ℤ ((x *ℤ y) -ℤ (z *ℤ w))
  together u g x y z w =
      ring (u ∷ g ∷ x ∷ y ∷ z ∷ w ∷ [])
      (((var 0 ⊗ (con (pos 2) ⊗ var 2)) ⊗ (var 1 ⊗ var 3)) ⊖ ((var 0 ⊗ (con (pos 2) ⊗ var 4)) ⊗ (var 1 ⊗ var 5)))
      (((con (pos 2) ⊗ var 0) ⊗ var 1) ⊗ ((var 2 ⊗ var 3) ⊖ (var 4 ⊗ var 5))) refl

  -- how the border's side changes along the edge
  pub turn_change : (turn_of K L P *ℤ m') -ℤ (turn_of K L Q *ℤ m) ≡ ((pos 2 *ℤ over_of c k) *ℤ G) *ℤ (dot R R *ℤ det d e B)
  turn_change =
      turn_gap K L P Q
      ∙ (λ i. (border_gap c k l t alone U i *ℤ share_gap R a b n m n' m' i) -ℤ (border_gap c k l t alone R i *ℤ share_gap U a b n m n' m' i))
      ∙ together (over_of c k) G (dot U B) (dot R e) (dot R B) (dot U e)
      ∙ ap (λ x. ((pos 2 *ℤ over_of c k) *ℤ G) *ℤ x) (seen_det d R e B (right_axis-is d).level)

  pub same_turns : det d e B ≡ pos 0 → turn_of K L P *ℤ m' ≡ turn_of K L Q *ℤ m
  same_turns parallel = same_of_gap _ _ (turn_change ∙ nothing ((pos 2 *ℤ over_of c k) *ℤ G) (dot R R) (det d e B) parallel)
    where
      nothing : (x y z : ℤ) → z ≡ pos 0 → x *ℤ (y *ℤ z) ≡ pos 0
      nothing x y z e = ap (λ z. x *ℤ (y *ℤ z)) e ∙ ring (x ∷ y ∷ []) (var 0 ⊗ (var 1 ⊗ con (pos 0))) (con (pos 0)) refl
