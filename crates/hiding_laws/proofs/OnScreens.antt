-- A face hides a point where it covers it as they are seen.
use Rattle.std.proofs.Common.{◌≡◌, ℕ, ◌+◌, ◌<◌, refl, sym, ap, subst, ◌∙◌, arith}
use Rattle.std.specs.Prelude.{ℤ, pos, negsuc, ◌+ℤ◌, ◌*ℤ◌, ◌≤ℤ◌, ◌<ℤ◌}
use Rattle.std.proofs.lemmas.Int.{ints}
use Rattle.geometry.proofs.FacePoints.{dot-face_sum, dot-edge_sum}
use Rattle.integers.proofs.Absolutes.{natural_not_negative, natural_positive}
use Rattle.lattice.specs.declared.points.Corner.{Corner}
use Rattle.lattice.specs.Triple.{Triple, right_axis, up_axis}
use Rattle.lattice.specs.Points.{Point, point_of, across_of, upward_of, height_of, OnOneSight, IsNearer}
use Rattle.geometry.specs.Faces.{face_sum, edge_sum, FaceHides}
use Rattle.hiding_laws.specs.Values.{SideHides}
use Rattle.hiding_laws.proofs.Screens.{Screen, screen_of, Covers, SideCovers}

-- the point as it is seen along d
abbrev pub seen : Triple → Point → Screen
seen d p = screen_of d (right_axis d) p

-- weights of at least 0 are natural numbers
pub unpack : (P : ℤ → ℤ → ℤ → Type 0) (i j k : ℤ) → pos 0 ≤ℤ i → pos 0 ≤ℤ j → pos 0 ≤ℤ k → P i j k → (l : ℕ) × (m : ℕ) × (n : ℕ) × P (pos l) (pos m) (pos n)
unpack P (pos i) (pos j) (pos k) p q r h = (i, j, k, h)
unpack P (negsuc i) j k p q r h = absurd (omega (arith, ints))
unpack P (pos i) (negsuc j) k p q r h = absurd (omega (arith, ints))
unpack P (pos i) (pos j) (negsuc k) p q r h = absurd (omega (arith, ints))

-- a point as it is seen, with another height
abbrev pub raised : Screen → ℤ → Screen
raised a h = record { u = a.u; v = a.v; h = h; w = a.w }

-- a sum of corners on the line of sight covers, whatever the heights are
pub covers_of_sum : (d : Triple) (a b c : Corner) (p : Point) (x y z h : ℤ) (i j k : ℕ) → 0 < i + j + k → OnOneSight d (face_sum a b c i j k) p
    → (h *ℤ pos (i + j + k)) <ℤ ((((pos i *ℤ x) +ℤ (pos j *ℤ y)) +ℤ (pos k *ℤ z)) *ℤ p.w)
    → Covers (raised (seen d (point_of a)) x) (raised (seen d (point_of b)) y) (raised (seen d (point_of c)) z) (raised (seen d p) h)
covers_of_sum d a b c p x y z h i j k some same near = record {
  i = pos i;
  j = pos j;
  k = pos k;
  i_least = natural_not_negative i;
  j_least = natural_not_negative j;
  k_least = natural_not_negative k;
  some = is_some i j k some;
  same_u = ap (λ v. v *ℤ p.w) (sym (dot-face_sum (right_axis d) a b c i j k)) ∙ same.across;
  same_v = ap (λ v. v *ℤ p.w) (sym (dot-face_sum (up_axis d) a b c i j k)) ∙ same.upward;
  nearer = near;
}
  where
    is_some : (i j k : ℕ) → 0 < i + j + k → pos 0 <ℤ ((pos i +ℤ pos j) +ℤ pos k)
    is_some i j k h = omega (arith, ints)

-- a side that covers has a point on the line of sight, with natural weights
pub sum_of_side_covers : (d : Triple) (a b : Corner) (p : Point) (x y h : ℤ) → SideCovers (raised (seen d (point_of a)) x) (raised (seen d (point_of b)) y) (raised (seen d p) h)
    → (i : ℕ) × (j : ℕ) × (0 < i + j) × OnOneSight d (edge_sum a b i j) p × ((h *ℤ pos (i + j)) <ℤ (((pos i *ℤ x) +ℤ (pos j *ℤ y)) *ℤ p.w))
sum_of_side_covers d a b p x y h q =
    let e = unpack
    (λ i j k. (pos 0 <ℤ (i +ℤ j))
    × (((i *ℤ (seen d (point_of a)).u) +ℤ (j *ℤ (seen d (point_of b)).u)) *ℤ p.w ≡ across_of d p *ℤ (i +ℤ j))
    × (((i *ℤ (seen d (point_of a)).v) +ℤ (j *ℤ (seen d (point_of b)).v)) *ℤ p.w ≡ upward_of d p *ℤ (i +ℤ j))
    × ((h *ℤ (i +ℤ j)) <ℤ (((i *ℤ x) +ℤ (j *ℤ y)) *ℤ p.w)))
    q.i q.j (pos 0) q.i_least q.j_least (natural_not_negative 0) (q.some, q.same_u, q.same_v, q.nearer) in (
      e.0,
      e.1,
      some_of e.0 e.1 e.3.0,
      record {
        across = ap (λ v. v *ℤ p.w) (dot-edge_sum (right_axis d) a b e.0 e.1) ∙ e.3.1;
        upward = ap (λ v. v *ℤ p.w) (dot-edge_sum (up_axis d) a b e.0 e.1) ∙ e.3.2;
      },
      e.3.3,
    )
  where
    some_of : (i j : ℕ) → pos 0 <ℤ pos (i + j) → 0 < i + j
    some_of i j h = omega (arith, ints)

module _ (d : Triple) (a b c : Corner) (p : Point) where
  abbrev A : Screen
  A = seen d (point_of a)

  abbrev B : Screen
  B = seen d (point_of b)

  abbrev C : Screen
  C = seen d (point_of c)

  pub covers_of_hides : FaceHides d a b c p → Covers A B C (seen d p)
  covers_of_hides q =
      let f = q.on_face in
      covers_of_sum d a b c p A.h B.h C.h (height_of d p) f.0 f.1 f.2 f.3 (subst (λ s. OnOneSight d s p) f.4 q.same_sight)
      (subst (λ v. (height_of d p *ℤ pos (f.0 + f.1 + f.2)) <ℤ (v *ℤ p.w)) (dot-face_sum d a b c f.0 f.1 f.2) (subst (λ s. IsNearer d s p) f.4 q.nearer))

  hides_of : (i j k : ℕ) → 0 < i + j + k
      → (((pos i *ℤ A.u) +ℤ (pos j *ℤ B.u)) +ℤ (pos k *ℤ C.u)) *ℤ p.w ≡ across_of d p *ℤ pos (i + j + k)
      → (((pos i *ℤ A.v) +ℤ (pos j *ℤ B.v)) +ℤ (pos k *ℤ C.v)) *ℤ p.w ≡ upward_of d p *ℤ pos (i + j + k)
      → (height_of d p *ℤ pos (i + j + k)) <ℤ ((((pos i *ℤ A.h) +ℤ (pos j *ℤ B.h)) +ℤ (pos k *ℤ C.h)) *ℤ p.w)
      → FaceHides d a b c p
  hides_of i j k some same_u same_v near = record {
    point = face_sum a b c i j k;
    on_face = (i, j, k, some, refl);
    same_sight = record {
      across = ap (λ v. v *ℤ p.w) (dot-face_sum (right_axis d) a b c i j k) ∙ same_u;
      upward = ap (λ v. v *ℤ p.w) (dot-face_sum (up_axis d) a b c i j k) ∙ same_v;
    };
    nearer = subst (λ v. (height_of d p *ℤ pos (i + j + k)) <ℤ (v *ℤ p.w)) (sym (dot-face_sum d a b c i j k)) near;
  }

  pub hides_of_covers : Covers A B C (seen d p) → FaceHides d a b c p
  hides_of_covers q =
      let e = unpack
      (λ i j k. (pos 0 <ℤ ((i +ℤ j) +ℤ k))
      × ((((i *ℤ A.u) +ℤ (j *ℤ B.u)) +ℤ (k *ℤ C.u)) *ℤ p.w ≡ across_of d p *ℤ ((i +ℤ j) +ℤ k))
      × ((((i *ℤ A.v) +ℤ (j *ℤ B.v)) +ℤ (k *ℤ C.v)) *ℤ p.w ≡ upward_of d p *ℤ ((i +ℤ j) +ℤ k))
      × ((height_of d p *ℤ ((i +ℤ j) +ℤ k)) <ℤ ((((i *ℤ A.h) +ℤ (j *ℤ B.h)) +ℤ (k *ℤ C.h)) *ℤ p.w)))
      q.i q.j q.k q.i_least q.j_least q.k_least (q.some, q.same_u, q.same_v, q.nearer) in
      hides_of e.0 e.1 e.2 (some_of e.0 e.1 e.2 e.3.0) e.3.1 e.3.2 e.3.3
    where
      some_of : (i j k : ℕ) → pos 0 <ℤ pos (i + j + k) → 0 < i + j + k
      some_of i j k h = omega (arith, ints)

-- the same with a side
module _ (d : Triple) (a b : Corner) (p : Point) where
  abbrev K : Screen
  K = seen d (point_of a)

  abbrev L : Screen
  L = seen d (point_of b)

  side_covers_of : (i j : ℕ) → 0 < i + j → OnOneSight d (edge_sum a b i j) p → IsNearer d (edge_sum a b i j) p → SideCovers K L (seen d p)
  side_covers_of i j some same near = record {
    i = pos i;
    j = pos j;
    i_least = natural_not_negative i;
    j_least = natural_not_negative j;
    some = natural_positive (i + j) some;
    same_u = ap (λ v. v *ℤ p.w) (sym (dot-edge_sum (right_axis d) a b i j)) ∙ same.across;
    same_v = ap (λ v. v *ℤ p.w) (sym (dot-edge_sum (up_axis d) a b i j)) ∙ same.upward;
    nearer = subst (λ v. (height_of d p *ℤ pos (i + j)) <ℤ (v *ℤ p.w)) (dot-edge_sum d a b i j) near;
  }

  pub side_covers_of_hides : SideHides d a b p → SideCovers K L (seen d p)
  side_covers_of_hides q =
      let f = q.on_side in
      side_covers_of f.0 f.1 f.2 (subst (λ s. OnOneSight d s p) f.3 q.same_sight) (subst (λ s. IsNearer d s p) f.3 q.nearer)

  pub side_hides_of_covers : SideCovers K L (seen d p) → SideHides d a b p
  side_hides_of_covers q =
      let w = sum_of_side_covers d a b p K.h L.h (height_of d p) q in
      record {
        point = edge_sum a b w.0 w.1;
        on_side = (w.0, w.1, w.2, refl);
        same_sight = w.3;
        nearer = subst (λ v. (height_of d p *ℤ pos (w.0 + w.1)) <ℤ (v *ℤ p.w)) (sym (dot-edge_sum d a b w.0 w.1)) w.4;
      }
