-- The foot of a triangle's height, and the share of the height by which points of faces move.
use Rattle.std.proofs.Common.{◌≡◌, ℕ, ◌+◌, ◌*◌, ◌<◌, [], ◌∷◌, refl, sym, ap, ◌∙◌, subst, arith}
use Rattle.std.specs.Prelude.{ℤ, pos, ◌+ℤ◌, ◌-ℤ◌, ◌*ℤ◌, ◌≤ℤ◌}
use Rattle.std.proofs.lemmas.Int.{ints}
use Rattle.integers.proofs.Absolutes.{natural_not_negative}
use Rattle.integers.proofs.Comparisons.{at_most_by}
use Rattle.integers.proofs.Ring.{var, ◌⊕◌, ◌⊖◌, ◌⊗◌, ring}
use Rattle.integers.proofs.Signs.{mul_nonneg}
use Rattle.lattice.specs.declared.points.Corner.{Corner}
use Rattle.lattice.specs.Triple.{Triple}
use Rattle.lattice.specs.Points.{Point}
use Rattle.flip_slivers.specs.Near.{apart, span_of, AreNear}
use Rattle.flip_slivers.proofs.Lengths.{times, IsNoLonger, no_longer-times, product_order, squares_order}

-- the way from the point of a and b with the weights n and m to c, times the sum of both weights
abbrev pub height_way : Corner → Corner → Corner → ℤ → ℤ → Triple
height_way a b c m n = record {
  x = (((m +ℤ n) *ℤ c.x) -ℤ (n *ℤ a.x)) -ℤ (m *ℤ b.x);
  y = (((m +ℤ n) *ℤ c.y) -ℤ (n *ℤ a.y)) -ℤ (m *ℤ b.y);
  z = (((m +ℤ n) *ℤ c.z) -ℤ (n *ℤ a.z)) -ℤ (m *ℤ b.z);
}

-- the point of a and b with the weights n and m is at most r 1024ths of a unit from c
pub record IsFoot (a b c : Corner) (m n r : ℕ) : Type 0 where
  pub some : 0 < m + n
  pub near : IsNoLonger (pos 1048576) (height_way a b c (pos m) (pos n)) (pos r *ℤ (pos m +ℤ pos n))

pub foot-turned : (a b c : Corner) (m n r : ℕ) → IsFoot a b c m n r → IsFoot b a c n m r
foot-turned a b c m n r h = record {
  some = turned m n h.some;
  near = subst (λ (s : Triple). IsNoLonger (pos 1048576) s (pos r *ℤ (pos n +ℤ pos m))) same
      (subst (λ (v : ℤ). IsNoLonger (pos 1048576) (height_way a b c (pos m) (pos n)) (pos r *ℤ v)) (exchanged (pos m) (pos n)) h.near);
}
  where
    turned : (m n : ℕ) → 0 < m + n → 0 < n + m
    turned m n h = omega arith

    exchanged : (m n : ℤ) → m +ℤ n ≡ n +ℤ m
    exchanged m n = omega (arith, ints)

    on : (m n a b c : ℤ) → (((m +ℤ n) *ℤ c) -ℤ (n *ℤ a)) -ℤ (m *ℤ b) ≡ (((n +ℤ m) *ℤ c) -ℤ (m *ℤ b)) -ℤ (n *ℤ a)
    on m n a b c =
        ring (m ∷ n ∷ a ∷ b ∷ c ∷ []) ((((var 0 ⊕ var 1) ⊗ var 4) ⊖ (var 1 ⊗ var 2)) ⊖ (var 0 ⊗ var 3)) ((((var 1 ⊕ var 0) ⊗ var 4) ⊖ (var 0 ⊗ var 3)) ⊖ (var 1 ⊗ var 2)) refl

    same : height_way a b c (pos m) (pos n) ≡ height_way b a c (pos n) (pos m)
    same = λ i. record { x = on (pos m) (pos n) a.x b.x c.x i; y = on (pos m) (pos n) a.y b.y c.y i; z = on (pos m) (pos n) a.z b.z c.z i }

module _ (a b c : Corner) (m n r : ℕ) (foot : IsFoot a b c m n r) where
  -- two points whose way is the share t of the height, times their w
  pub moved : (p q : Point) (t : ℤ) → pos 0 ≤ℤ t → apart p q ≡ times t (height_way a b c (pos m) (pos n)) → (t *ℤ (pos m +ℤ pos n)) ≤ℤ (p.w *ℤ q.w) → AreNear r p q
  moved p q t ht way share =
      through _ _ _
      (subst (λ (s : Triple). IsNoLonger (pos 1048576) s (t *ℤ (pos r *ℤ (pos m +ℤ pos n)))) (sym way) (no_longer-times (pos 1048576) (omega (arith, ints)) t (height_way a b c (pos m) (pos n)) (pos r *ℤ (pos m +ℤ pos n)) foot.near))
      (squares_order (t *ℤ (pos r *ℤ (pos m +ℤ pos n))) (span_of r p q)
      (mul_nonneg t _ ht (mul_nonneg (pos r) _ (natural_not_negative r) (sum_not_negative m n)))
      (subst (λ (v : ℤ). v ≤ℤ span_of r p q) (sym (turn t (pos r) (pos m +ℤ pos n))) (product_order (pos r) _ _ (natural_not_negative r) share)))
    where
      through : (x y z : ℤ) → x ≤ℤ y → y ≤ℤ z → x ≤ℤ z
      through x y z h k = omega (arith, ints)

      sum_not_negative : (m n : ℕ) → pos 0 ≤ℤ (pos m +ℤ pos n)
      sum_not_negative m n = omega (arith, ints)

      turn : (t r l : ℤ) → t *ℤ (r *ℤ l) ≡ r *ℤ (t *ℤ l)
      turn t r l = ring (t ∷ r ∷ l ∷ []) (var 0 ⊗ (var 1 ⊗ var 2)) (var 1 ⊗ (var 0 ⊗ var 2)) refl

-- ---- from a, b and e: a point on a's side of the foot moves along the height to one of a, c and e
module _ (i j k d m n : ℕ) (side : d + j * n ≡ i * m) where
  pub to_weight : pos (d + j * (m + n) + k * m) ≡ pos m *ℤ pos (i + j + k)
  to_weight = sum d i j k m n side
    where
      sum : (d i j k m n : ℕ) → d + j * n ≡ i * m → pos (d + j * (m + n) + k * m) ≡ pos m *ℤ pos (i + j + k)
      sum d i j k m n e = omega (arith, ints)

  pub to_apex-on_axis : (a b c e : ℤ)
      → ((((pos d *ℤ a) +ℤ (pos (j * (m + n)) *ℤ c)) +ℤ (pos (k * m) *ℤ e)) *ℤ pos (i + j + k)) -ℤ ((((pos i *ℤ a) +ℤ (pos j *ℤ b)) +ℤ (pos k *ℤ e)) *ℤ pos (d + j * (m + n) + k * m))
      ≡ (pos (i + j + k) *ℤ pos j) *ℤ ((((pos m +ℤ pos n) *ℤ c) -ℤ (pos n *ℤ a)) -ℤ (pos m *ℤ b))
  to_apex-on_axis a b c e = swept (pos i) (pos j) (pos k) (pos m) (pos n) a b c e (pos d) _ _ (pos (i + j + k)) _ (rest d i j m n side) (product j m n) refl to_weight
    where
      rest : (d i j m n : ℕ) → d + j * n ≡ i * m → pos d ≡ (pos i *ℤ pos m) -ℤ (pos j *ℤ pos n)
      rest d i j m n e = omega (arith, ints)

      product : (j m n : ℕ) → pos (j * (m + n)) ≡ pos j *ℤ (pos m +ℤ pos n)
      product j m n = omega (arith, ints)

      swept : (i j k m n a b c e d f g v w : ℤ) → d ≡ (i *ℤ m) -ℤ (j *ℤ n) → f ≡ j *ℤ (m +ℤ n) → g ≡ k *ℤ m → w ≡ m *ℤ v
          → ((((d *ℤ a) +ℤ (f *ℤ c)) +ℤ (g *ℤ e)) *ℤ v) -ℤ ((((i *ℤ a) +ℤ (j *ℤ b)) +ℤ (k *ℤ e)) *ℤ w) ≡ (v *ℤ j) *ℤ ((((m +ℤ n) *ℤ c) -ℤ (n *ℤ a)) -ℤ (m *ℤ b))
      swept i j k m n a b c e d f g v w is_d is_f is_g is_w =
          (λ h. ((((is_d h *ℤ a) +ℤ (is_f h *ℤ c)) +ℤ (is_g h *ℤ e)) *ℤ v) -ℤ ((((i *ℤ a) +ℤ (j *ℤ b)) +ℤ (k *ℤ e)) *ℤ is_w h))
          ∙ ring (i ∷ j ∷ k ∷ m ∷ n ∷ a ∷ b ∷ c ∷ e ∷ v ∷ [])
          (((((((var 0 ⊗ var 3) ⊖ (var 1 ⊗ var 4)) ⊗ var 5) ⊕ ((var 1 ⊗ (var 3 ⊕ var 4)) ⊗ var 7)) ⊕ ((var 2 ⊗ var 3) ⊗ var 8)) ⊗ var 9)
          ⊖ ((((var 0 ⊗ var 5) ⊕ (var 1 ⊗ var 6)) ⊕ (var 2 ⊗ var 8)) ⊗ (var 3 ⊗ var 9)))
          ((var 9 ⊗ var 1) ⊗ ((((var 3 ⊕ var 4) ⊗ var 7) ⊖ (var 4 ⊗ var 5)) ⊖ (var 3 ⊗ var 6))) refl

  pub to_share : ((pos (i + j + k) *ℤ pos j) *ℤ (pos m +ℤ pos n)) ≤ℤ (pos (i + j + k) *ℤ pos (d + j * (m + n) + k * m))
  to_share =
      at_most_by _ _ _ (gap (pos (i + j + k)) (pos j) (pos m +ℤ pos n) (pos (d + j * (m + n) + k * m)) (pos (d + k * m)) (rest d j k m n))
      (mul_nonneg (pos (i + j + k)) (pos (d + k * m)) (natural_not_negative (i + j + k)) (natural_not_negative (d + k * m)))
    where
      rest : (d j k m n : ℕ) → pos (d + j * (m + n) + k * m) -ℤ (pos j *ℤ (pos m +ℤ pos n)) ≡ pos (d + k * m)
      rest d j k m n = omega (arith, ints)

      gap : (v j l w u : ℤ) → w -ℤ (j *ℤ l) ≡ u → (v *ℤ w) -ℤ ((v *ℤ j) *ℤ l) ≡ v *ℤ u
      gap v j l w u e = ring (v ∷ j ∷ l ∷ w ∷ []) ((var 0 ⊗ var 3) ⊖ ((var 0 ⊗ var 1) ⊗ var 2)) (var 0 ⊗ (var 3 ⊖ (var 1 ⊗ var 2))) refl ∙ ap (λ z. v *ℤ z) e

-- ---- from a, e and c: a point moves along the height to one of a, b and e
module _ (i j k m n : ℕ) where
  pub from_weight : pos ((i * (m + n) + k * n) + k * m + j * (m + n)) ≡ pos (i + j + k) *ℤ (pos m +ℤ pos n)
  from_weight = sum i j k m n
    where
      sum : (i j k m n : ℕ) → pos ((i * (m + n) + k * n) + k * m + j * (m + n)) ≡ pos (i + j + k) *ℤ (pos m +ℤ pos n)
      sum i j k m n = omega (arith, ints)

  pub from_apex-on_axis : (a b c e : ℤ)
      → ((((pos i *ℤ a) +ℤ (pos j *ℤ e)) +ℤ (pos k *ℤ c)) *ℤ pos ((i * (m + n) + k * n) + k * m + j * (m + n)))
      -ℤ ((((pos (i * (m + n) + k * n) *ℤ a) +ℤ (pos (k * m) *ℤ b)) +ℤ (pos (j * (m + n)) *ℤ e)) *ℤ pos (i + j + k))
      ≡ (pos (i + j + k) *ℤ pos k) *ℤ ((((pos m +ℤ pos n) *ℤ c) -ℤ (pos n *ℤ a)) -ℤ (pos m *ℤ b))
  from_apex-on_axis a b c e = swept (pos i) (pos j) (pos k) (pos m) (pos n) a b c e _ _ _ (pos (i + j + k)) _ (first i k m n) refl (product j m n) from_weight
    where
      first : (i k m n : ℕ) → pos (i * (m + n) + k * n) ≡ (pos i *ℤ (pos m +ℤ pos n)) +ℤ (pos k *ℤ pos n)
      first i k m n = omega (arith, ints)

      product : (j m n : ℕ) → pos (j * (m + n)) ≡ pos j *ℤ (pos m +ℤ pos n)
      product j m n = omega (arith, ints)

      swept : (i j k m n a b c e d f g v w : ℤ) → d ≡ (i *ℤ (m +ℤ n)) +ℤ (k *ℤ n) → f ≡ k *ℤ m → g ≡ j *ℤ (m +ℤ n) → w ≡ v *ℤ (m +ℤ n)
          → ((((i *ℤ a) +ℤ (j *ℤ e)) +ℤ (k *ℤ c)) *ℤ w) -ℤ ((((d *ℤ a) +ℤ (f *ℤ b)) +ℤ (g *ℤ e)) *ℤ v) ≡ (v *ℤ k) *ℤ ((((m +ℤ n) *ℤ c) -ℤ (n *ℤ a)) -ℤ (m *ℤ b))
      swept i j k m n a b c e d f g v w is_d is_f is_g is_w =
          (λ h. ((((i *ℤ a) +ℤ (j *ℤ e)) +ℤ (k *ℤ c)) *ℤ is_w h) -ℤ ((((is_d h *ℤ a) +ℤ (is_f h *ℤ b)) +ℤ (is_g h *ℤ e)) *ℤ v))
          ∙ ring (i ∷ j ∷ k ∷ m ∷ n ∷ a ∷ b ∷ c ∷ e ∷ v ∷ [])
          (((((var 0 ⊗ var 5) ⊕ (var 1 ⊗ var 8)) ⊕ (var 2 ⊗ var 7)) ⊗ (var 9 ⊗ (var 3 ⊕ var 4)))
          ⊖ (((((var 0 ⊗ (var 3 ⊕ var 4)) ⊕ (var 2 ⊗ var 4)) ⊗ var 5) ⊕ ((var 2 ⊗ var 3) ⊗ var 6) ⊕ ((var 1 ⊗ (var 3 ⊕ var 4)) ⊗ var 8)) ⊗ var 9))
          ((var 9 ⊗ var 2) ⊗ ((((var 3 ⊕ var 4) ⊗ var 7) ⊖ (var 4 ⊗ var 5)) ⊖ (var 3 ⊗ var 6))) refl

  pub from_share : ((pos (i + j + k) *ℤ pos k) *ℤ (pos m +ℤ pos n)) ≤ℤ (pos ((i * (m + n) + k * n) + k * m + j * (m + n)) *ℤ pos (i + j + k))
  from_share =
      at_most_by _ _ _ (gap (pos (i + j + k)) (pos k) (pos m +ℤ pos n) (pos ((i * (m + n) + k * n) + k * m + j * (m + n))) (pos ((i + j) * (m + n))) (rest i j k m n))
      (mul_nonneg (pos (i + j + k)) (pos ((i + j) * (m + n))) (natural_not_negative (i + j + k)) (natural_not_negative ((i + j) * (m + n))))
    where
      rest : (i j k m n : ℕ) → pos ((i * (m + n) + k * n) + k * m + j * (m + n)) -ℤ (pos k *ℤ (pos m +ℤ pos n)) ≡ pos ((i + j) * (m + n))
      rest i j k m n = omega (arith, ints)

      gap : (v k l w u : ℤ) → w -ℤ (k *ℤ l) ≡ u → (w *ℤ v) -ℤ ((v *ℤ k) *ℤ l) ≡ v *ℤ u
      gap v k l w u e = ring (v ∷ k ∷ l ∷ w ∷ []) ((var 3 ⊗ var 0) ⊖ ((var 0 ⊗ var 1) ⊗ var 2)) (var 0 ⊗ (var 3 ⊖ (var 1 ⊗ var 2))) refl ∙ ap (λ z. v *ℤ z) e
