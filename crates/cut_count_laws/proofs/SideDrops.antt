-- How far the spot of a side on a line of sight is below the plane of a cut, and that a face has its spots there all beyond the plane, or a border point.
use Rattle.std.proofs.Common.{◌≡◌, ℕ, ◌+◌, ◌*◌, ◌<◌, [], ◌∷◌, refl, sym, ap, subst, ◌∙◌, arith, unsigned_abs}
use Rattle.std.specs.Prelude.{ℤ, pos, ◌+ℤ◌, ◌-ℤ◌, ◌*ℤ◌, ◌<ℤ◌, ◌≤ℤ◌}
use Rattle.std.proofs.lemmas.Int.{ints, by_lt_z}
use Rattle.integers.proofs.Absolutes.{natural_not_negative, natural_positive, abs_of_negative, abs_of_not_negative, some_abs_of_negative}
use Rattle.integers.proofs.Comparisons.{gap_of_at_most}
use Rattle.integers.proofs.Ring.{Expr, var, con, ◌⊕◌, ◌⊖◌, ◌⊗◌, ring, by_two}
use Rattle.integers.proofs.Signs.{mul_pos, mul_nonneg, pos_of_mul}
use Rattle.lattice.specs.declared.points.Corner.{Corner}
use Rattle.lattice.specs.Triple.{Triple, dot, right_axis, up_axis}
use Rattle.lattice.specs.Points.{Point, IsPoint, scaled, height_of, OnOneSight}
use Rattle.lattice.specs.Cuts.{Plane, toward_of, plane_height, IsBeyond, IsOnPlane}
use Rattle.geometry.specs.Faces.{face_sum, edge_sum, IsPointOfFace, IsPointOfEdge}
use Rattle.geometry.proofs.Borders.{rise_of, face_rise, rise_beyond, on_of_rise}
use Rattle.geometry.proofs.FacePoints.{dot-face_sum, dot-edge_sum}
use Rattle.hiding_laws.proofs.Screens.{Screen, along_of, length_of, rest_of}
use Rattle.hiding_laws.proofs.CutPlanes.{below-beyond}
use Rattle.hiding_laws.specs.CutValues.{below_of}
use Rattle.hiding_laws.proofs.Seen.{on}
use Rattle.hiding_laws.proofs.OnScreens.{seen}

-- ---- sides
-- twice how far the spot of a side over x is below the height l / 2, times x.w and the square of the side's length
abbrev pub drop_of : ℤ → Screen → Screen → Screen → ℤ
drop_of l a b x = (l *ℤ (x.w *ℤ length_of a b)) -ℤ (pos 2 *ℤ ((rest_of a b x *ℤ a.h) +ℤ (along_of a b x *ℤ b.h)))

abbrev E : Expr
E = var 3 ⊖ var 0

abbrev F : Expr
F = var 4 ⊖ var 1

abbrev Length : Expr
Length = (E ⊗ E) ⊕ (F ⊗ F)

abbrev Along : Expr
Along = (E ⊗ (var 6 ⊖ (var 8 ⊗ var 0))) ⊕ (F ⊗ (var 7 ⊖ (var 8 ⊗ var 1)))

abbrev Rest : Expr
Rest = (var 8 ⊗ Length) ⊖ Along

abbrev Drop : Expr
Drop = (var 11 ⊗ (var 8 ⊗ Length)) ⊖ (con (pos 2) ⊗ ((Rest ⊗ var 2) ⊕ (Along ⊗ var 5)))

-- by the weights of the side's corners
drop-weighed : (l : ℤ) (a b x : Screen) (i j : ℤ) → ((i *ℤ a.u) +ℤ (j *ℤ b.u)) *ℤ x.w ≡ x.u *ℤ (i +ℤ j) → ((i *ℤ a.v) +ℤ (j *ℤ b.v)) *ℤ x.w ≡ x.v *ℤ (i +ℤ j)
    → (i +ℤ j) *ℤ drop_of l a b x ≡ (x.w *ℤ length_of a b) *ℤ ((l *ℤ (i +ℤ j)) -ℤ (pos 2 *ℤ ((i *ℤ a.h) +ℤ (j *ℤ b.h))))
drop-weighed l a b x i j same_u same_v =
    by_two _ _ _ _ ((pos 2 *ℤ (b.h -ℤ a.h)) *ℤ (b.u -ℤ a.u)) _ _ ((pos 2 *ℤ (b.h -ℤ a.h)) *ℤ (b.v -ℤ a.v))
    (ring (a.u ∷ a.v ∷ a.h ∷ b.u ∷ b.v ∷ b.h ∷ x.u ∷ x.v ∷ x.w ∷ i ∷ j ∷ l ∷ [])
    (((var 9 ⊕ var 10) ⊗ Drop) ⊖ ((var 8 ⊗ Length) ⊗ ((var 11 ⊗ (var 9 ⊕ var 10)) ⊖ (con (pos 2) ⊗ ((var 9 ⊗ var 2) ⊕ (var 10 ⊗ var 5))))))
    ((((((var 9 ⊗ var 0) ⊕ (var 10 ⊗ var 3)) ⊗ var 8) ⊖ (var 6 ⊗ (var 9 ⊕ var 10))) ⊗ ((con (pos 2) ⊗ (var 5 ⊖ var 2)) ⊗ E))
    ⊕ (((((var 9 ⊗ var 1) ⊕ (var 10 ⊗ var 4)) ⊗ var 8) ⊖ (var 7 ⊗ (var 9 ⊕ var 10))) ⊗ ((con (pos 2) ⊗ (var 5 ⊖ var 2)) ⊗ F))) refl) same_u same_v

-- the order of the side's corners does not count
pub drop-back : (l : ℤ) (a b x : Screen) → drop_of l b a x ≡ drop_of l a b x
drop-back l a b x =
    ring (b.u ∷ b.v ∷ b.h ∷ a.u ∷ a.v ∷ a.h ∷ x.u ∷ x.v ∷ x.w ∷ pos 0 ∷ pos 0 ∷ l ∷ []) Drop
    ((var 11 ⊗ (var 8 ⊗ L)) ⊖ (con (pos 2) ⊗ ((((var 8 ⊗ L) ⊖ T) ⊗ var 5) ⊕ (T ⊗ var 2)))) refl
  where
    L : Expr
    L = ((var 0 ⊖ var 3) ⊗ (var 0 ⊖ var 3)) ⊕ ((var 1 ⊖ var 4) ⊗ (var 1 ⊖ var 4))

    T : Expr
    T = ((var 0 ⊖ var 3) ⊗ (var 6 ⊖ (var 8 ⊗ var 3))) ⊕ ((var 1 ⊖ var 4) ⊗ (var 7 ⊖ (var 8 ⊗ var 4)))

module _ (c : Plane) (a b : Corner) (p : Point) (point : IsPoint p) (long : pos 0 <ℤ length_of (on (toward_of c) a) (on (toward_of c) b)) (q : Point) (on_side : IsPointOfEdge a b q) (same : OnOneSight (toward_of c) q p) where
  abbrev d : Triple
  d = toward_of c

  abbrev drop : ℤ
  drop = drop_of (plane_height c) (on d a) (on d b) (seen d p)

  abbrev size : ℤ
  size = p.w *ℤ length_of (on d a) (on d b)

  drop-below : q.w *ℤ drop ≡ size *ℤ below_of c q
  drop-below = by on_side
    where
      at : (i j : ℕ) → OnOneSight d (edge_sum a b i j) p → pos (i + j) *ℤ drop ≡ size *ℤ below_of c (edge_sum a b i j)
      at i j same =
          drop-weighed (plane_height c) (on d a) (on d b) (seen d p) (pos i) (pos j)
          (ap (λ v. v *ℤ p.w) (sym (dot-edge_sum (right_axis d) a b i j)) ∙ same.across)
          (ap (λ v. v *ℤ p.w) (sym (dot-edge_sum (up_axis d) a b i j)) ∙ same.upward)
          ∙ ap (λ v. size *ℤ ((plane_height c *ℤ pos (i + j)) -ℤ (pos 2 *ℤ v))) (sym (dot-edge_sum d a b i j))

      by : IsPointOfEdge a b q → q.w *ℤ drop ≡ size *ℤ below_of c q
      by (i, j, some, is) = subst (λ (t : Point). t.w *ℤ drop ≡ size *ℤ below_of c t) (sym is) (at i j (subst (λ t. OnOneSight d t p) is same))

  there : pos 0 <ℤ q.w
  there = let (i, j, some, is) = on_side in subst (λ (t : Point). pos 0 <ℤ t.w) (sym is) (natural_positive (i + j) some)

  pub drop_of_beyond : IsBeyond c q → pos 0 <ℤ drop
  drop_of_beyond h = pos_of_mul q.w drop there (subst (λ (v : ℤ). pos 0 <ℤ v) (sym drop-below) (mul_pos size _ (mul_pos p.w _ point long) ((below-beyond c q).0 h)))

  pub beyond_of_drop : pos 0 <ℤ drop → IsBeyond c q
  beyond_of_drop h = (below-beyond c q).1 (pos_of_mul size _ (mul_pos p.w _ point long) (subst (λ (v : ℤ). pos 0 <ℤ v) drop-below (mul_pos q.w drop there h)))

-- ---- faces
-- two sums of three corners on one line of sight, weighed together
module _ (d : Triple) (a b e : Corner) (p : Point) (i j k u v w m n : ℕ) where
  abbrev together : Point
  together = face_sum a b e (m * i + n * u) (m * j + n * v) (m * k + n * w)

  together-sight : OnOneSight d (face_sum a b e i j k) p → OnOneSight d (face_sum a b e u v w) p → OnOneSight d together p
  together-sight f g = record { across = by (right_axis d) f.across g.across; upward = by (up_axis d) f.upward g.upward }
    where
      mix : (x y z t o : ℤ) → (((pos i *ℤ x) +ℤ (pos j *ℤ y)) +ℤ (pos k *ℤ z)) *ℤ o ≡ t *ℤ pos (i + j + k) → (((pos u *ℤ x) +ℤ (pos v *ℤ y)) +ℤ (pos w *ℤ z)) *ℤ o ≡ t *ℤ pos (u + v + w)
          → (((pos (m * i + n * u) *ℤ x) +ℤ (pos (m * j + n * v) *ℤ y)) +ℤ (pos (m * k + n * w) *ℤ z)) *ℤ o ≡ t *ℤ pos ((m * i + n * u) + (m * j + n * v) + (m * k + n * w))
      mix x y z t o h l =
          by_two _ _ _ _ (pos m) _ _ (pos n)
          (ring (x ∷ y ∷ z ∷ pos i ∷ pos j ∷ pos k ∷ pos u ∷ pos v ∷ pos w ∷ pos m ∷ pos n ∷ t ∷ o ∷ [])
          ((((((M ⊗ var 3) ⊕ (N ⊗ var 6)) ⊗ var 0) ⊕ (((M ⊗ var 4) ⊕ (N ⊗ var 7)) ⊗ var 1)) ⊕ (((M ⊗ var 5) ⊕ (N ⊗ var 8)) ⊗ var 2)) ⊗ var 12
          ⊖ (var 11 ⊗ ((((M ⊗ var 3) ⊕ (N ⊗ var 6)) ⊕ ((M ⊗ var 4) ⊕ (N ⊗ var 7))) ⊕ ((M ⊗ var 5) ⊕ (N ⊗ var 8)))))
          (((((((var 3 ⊗ var 0) ⊕ (var 4 ⊗ var 1)) ⊕ (var 5 ⊗ var 2)) ⊗ var 12) ⊖ (var 11 ⊗ ((var 3 ⊕ var 4) ⊕ var 5))) ⊗ M)
          ⊕ ((((((var 6 ⊗ var 0) ⊕ (var 7 ⊗ var 1)) ⊕ (var 8 ⊗ var 2)) ⊗ var 12) ⊖ (var 11 ⊗ ((var 6 ⊕ var 7) ⊕ var 8))) ⊗ N)) refl) h l
        where
          M : Expr
          M = var 9

          N : Expr
          N = var 10

      by : (r : Triple) → dot r (scaled (face_sum a b e i j k)) *ℤ p.w ≡ dot r (scaled p) *ℤ pos (i + j + k) → dot r (scaled (face_sum a b e u v w)) *ℤ p.w ≡ dot r (scaled p) *ℤ pos (u + v + w)
          → dot r (scaled together) *ℤ p.w ≡ dot r (scaled p) *ℤ pos ((m * i + n * u) + (m * j + n * v) + (m * k + n * w))
      by r h l =
          ap (λ z. z *ℤ p.w) (dot-face_sum r a b e (m * i + n * u) (m * j + n * v) (m * k + n * w))
          ∙ mix _ _ _ (dot r (scaled p)) p.w (ap (λ z. z *ℤ p.w) (sym (dot-face_sum r a b e i j k)) ∙ h) (ap (λ z. z *ℤ p.w) (sym (dot-face_sum r a b e u v w)) ∙ l)

  together-some : 0 < n → 0 < u + v + w → 0 < (m * i + n * u) + (m * j + n * v) + (m * k + n * w)
  together-some h l =
      counted _ _ _ (ring (pos i ∷ pos j ∷ pos k ∷ pos u ∷ pos v ∷ pos w ∷ pos m ∷ pos n ∷ [])
      ((var 6 ⊗ ((var 0 ⊕ var 1) ⊕ var 2)) ⊕ (var 7 ⊗ ((var 3 ⊕ var 4) ⊕ var 5)))
      ((((var 6 ⊗ var 0) ⊕ (var 7 ⊗ var 3)) ⊕ ((var 6 ⊗ var 1) ⊕ (var 7 ⊗ var 4))) ⊕ ((var 6 ⊗ var 2) ⊕ (var 7 ⊗ var 5))) refl)
      (mul_nonneg (pos m) (pos (i + j + k)) (natural_not_negative m) (natural_not_negative (i + j + k)))
      (mul_pos (pos n) (pos (u + v + w)) (natural_positive n h) (natural_positive (u + v + w) l))
    where
      counted : (x : ℕ) (y z : ℤ) → y +ℤ z ≡ pos x → pos 0 ≤ℤ y → pos 0 <ℤ z → 0 < x
      counted x y z h p q = omega (arith, ints)

  together-rise : (c : Plane) → rise_of c together ≡ (pos m *ℤ rise_of c (face_sum a b e i j k)) +ℤ (pos n *ℤ rise_of c (face_sum a b e u v w))
  together-rise c =
      face_rise c a b e (m * i + n * u) (m * j + n * v) (m * k + n * w)
      ∙ mix _ _ _
      ∙ (λ t. (pos m *ℤ sym (face_rise c a b e i j k) t) +ℤ (pos n *ℤ sym (face_rise c a b e u v w) t))
    where
      mix : (x y z : ℤ) → ((pos (m * i + n * u) *ℤ x) +ℤ (pos (m * j + n * v) *ℤ y)) +ℤ (pos (m * k + n * w) *ℤ z)
          ≡ (pos m *ℤ (((pos i *ℤ x) +ℤ (pos j *ℤ y)) +ℤ (pos k *ℤ z))) +ℤ (pos n *ℤ (((pos u *ℤ x) +ℤ (pos v *ℤ y)) +ℤ (pos w *ℤ z)))
      mix x y z = ring (x ∷ y ∷ z ∷ pos i ∷ pos j ∷ pos k ∷ pos u ∷ pos v ∷ pos w ∷ pos m ∷ pos n ∷ [])
          (((((var 9 ⊗ var 3) ⊕ (var 10 ⊗ var 6)) ⊗ var 0) ⊕ (((var 9 ⊗ var 4) ⊕ (var 10 ⊗ var 7)) ⊗ var 1)) ⊕ (((var 9 ⊗ var 5) ⊕ (var 10 ⊗ var 8)) ⊗ var 2))
          ((var 9 ⊗ (((var 3 ⊗ var 0) ⊕ (var 4 ⊗ var 1)) ⊕ (var 5 ⊗ var 2))) ⊕ (var 10 ⊗ (((var 6 ⊗ var 0) ⊕ (var 7 ⊗ var 1)) ⊕ (var 8 ⊗ var 2)))) refl

-- no point of the triangle on the plane is on the line of sight
abbrev pub HasNoBorderOver : Plane → Corner → Corner → Corner → Point → Type 0
HasNoBorderOver c a b e p = (q : Point) → IsPointOfFace a b e q → IsOnPlane c q → ¬ OnOneSight (toward_of c) q p

-- a triangle with none has no spot before the plane where it has one beyond
pub beyond_too : (c : Plane) (a b e : Corner) (p q r : Point) → HasNoBorderOver c a b e p → IsPointOfFace a b e q → IsPointOfFace a b e r → OnOneSight (toward_of c) q p → OnOneSight (toward_of c) r p
    → IsBeyond c q → IsBeyond c r
beyond_too c a b e p q r free (i, j, k, some, is) (u, v, w, more, are) same also beyond =
    subst (IsBeyond c) (sym are)
    (by_lt_z (pos 2 *ℤ height_of (toward_of c) (face_sum a b e u v w)) (plane_height c *ℤ pos (u + v + w)) (λ h. h)
    (λ high. absurd (over (gap_of_at_most _ _ high) (rise_beyond c _ (subst (IsBeyond c) is beyond)) (subst (λ t. OnOneSight (toward_of c) t p) is same) (subst (λ t. OnOneSight (toward_of c) t p) are also))))
  where
    over : pos 0 ≤ℤ rise_of c (face_sum a b e u v w) → rise_of c (face_sum a b e i j k) <ℤ pos 0 → OnOneSight (toward_of c) (face_sum a b e i j k) p → OnOneSight (toward_of c) (face_sum a b e u v w) p → ⊥
    over high low same also =
        let m = unsigned_abs (rise_of c (face_sum a b e u v w)) in
        let n = unsigned_abs (rise_of c (face_sum a b e i j k)) in
        free (together (toward_of c) a b e p i j k u v w m n)
        (m * i + n * u, m * j + n * v, m * k + n * w, together-some (toward_of c) a b e p i j k u v w m n (some_abs_of_negative _ low) more, refl)
        (on_of_rise c _ (together-rise (toward_of c) a b e p i j k u v w m n c ∙ balance _ _ (abs_of_not_negative _ high) (abs_of_negative _ low)))
        (together-sight (toward_of c) a b e p i j k u v w m n same also)
      where
        balance : {m n : ℕ} (x y : ℤ) → pos m ≡ y → pos n ≡ pos 0 -ℤ x → (pos m *ℤ x) +ℤ (pos n *ℤ y) ≡ pos 0
        balance x y e f = (λ t. (e t *ℤ x) +ℤ (f t *ℤ y)) ∙ ring (x ∷ y ∷ []) ((var 1 ⊗ var 0) ⊕ ((con (pos 0) ⊖ var 0) ⊗ var 1)) (con (pos 0)) refl
