-- Each point of a flat triangle is on one of its two sides from its first corner.
use Rattle.std.proofs.Common.{◌≡◌, ℕ, ◌+◌, ◌<◌, ◌⊎◌, inl, inr, List, [], ◌∷◌, refl, sym, subst, ap, ◌∙◌, arith}
use Rattle.std.specs.Prelude.{◌↔◌, ℤ, pos, ◌+ℤ◌, ◌-ℤ◌, ◌*ℤ◌, ◌≤ℤ◌, ◌<ℤ◌}
use Rattle.std.proofs.lemmas.Int.{ints, by_lt_z}
use Rattle.geometry.proofs.FacePoints.{face_point-of_side}
use Rattle.integers.proofs.Absolutes.{natural_not_negative}
use Rattle.integers.proofs.Comparisons.{not_negative_of_positive, sum_not_negative, positive_at}
use Rattle.integers.proofs.Ring.{Expr, var, con, ◌⊕◌, ◌⊖◌, ◌⊗◌, ring, by_one, by_two}
use Rattle.integers.proofs.Signs.{mul_nonneg, mul_pos}
use Rattle.lattice.specs.declared.points.Corner.{Corner}
use Rattle.lattice.specs.Triple.{Triple, dot, cross, IsZero}
use Rattle.lattice.specs.Points.{Point, difference}
use Rattle.lattice.proofs.Vectors.{Letters, letters, dots, crosses}
use Rattle.geometry.specs.Faces.{IsFlat, edge_sum, face_sum}
use Rattle.meeting.specs.inner.Edges.{EdgesTouch}
use Rattle.meeting.specs.Touching.{Touch}
use Rattle.meeting.proofs.InPlane.{sum_pos}
use Rattle.meeting.proofs.Balance.{Balance, balance, square-of-product}
use Rattle.meeting.proofs.EdgeWeights.{touch-of-sum, face-of-second}

-- the sides from the first corner, the weights of the three, and their sum
abbrev U : Letters
U = letters 0

abbrev V : Letters
V = letters 3

abbrev K : Expr
K = var 6

abbrev L : Expr
L = var 7

abbrev M : Expr
M = var 8

abbrev W : Expr
W = (K ⊕ L) ⊕ M

abbrev to_first : Letters
to_first = record { x = con (pos 0) ⊖ ((L ⊗ U.x) ⊕ (M ⊗ V.x)); y = con (pos 0) ⊖ ((L ⊗ U.y) ⊕ (M ⊗ V.y)); z = con (pos 0) ⊖ ((L ⊗ U.z) ⊕ (M ⊗ V.z)) }

abbrev to_end : Letters → Letters
to_end s = record { x = (W ⊗ s.x) ⊕ to_first.x; y = (W ⊗ s.y) ⊕ to_first.y; z = (W ⊗ s.z) ⊕ to_first.z }

module _ (u v : Triple) (k l m : ℤ) where
  abbrev values : List ℤ
  values = u.x ∷ u.y ∷ u.z ∷ v.x ∷ v.y ∷ v.z ∷ k ∷ l ∷ m ∷ []

  -- from the point to the first corner, times the sum of the weights
  abbrev first : Triple
  first = record { x = pos 0 -ℤ ((l *ℤ u.x) +ℤ (m *ℤ v.x)); y = pos 0 -ℤ ((l *ℤ u.y) +ℤ (m *ℤ v.y)); z = pos 0 -ℤ ((l *ℤ u.z) +ℤ (m *ℤ v.z)) }

  -- and to the end of a side
  abbrev end : Triple → Triple
  end s = record {
    x = (((k +ℤ l) +ℤ m) *ℤ s.x) +ℤ first.x;
    y = (((k +ℤ l) +ℤ m) *ℤ s.y) +ℤ first.y;
    z = (((k +ℤ l) +ℤ m) *ℤ s.z) +ℤ first.z;
  }

  module _ (flat : IsZero (cross u v)) where
    line-u : IsZero (cross first (end u))
    line-u =
        let n = crosses U V in
        let c = crosses to_first (to_end U) in
        let by = ((k +ℤ l) +ℤ m) *ℤ m in
        record {
          x = by_one _ _ (cross u v).x (pos 0) by (ring values (c.x ⊖ con (pos 0)) ((n.x ⊖ con (pos 0)) ⊗ (W ⊗ M)) refl) flat.x;
          y = by_one _ _ (cross u v).y (pos 0) by (ring values (c.y ⊖ con (pos 0)) ((n.y ⊖ con (pos 0)) ⊗ (W ⊗ M)) refl) flat.y;
          z = by_one _ _ (cross u v).z (pos 0) by (ring values (c.z ⊖ con (pos 0)) ((n.z ⊖ con (pos 0)) ⊗ (W ⊗ M)) refl) flat.z;
        }

    line-v : IsZero (cross first (end v))
    line-v =
        let n = crosses U V in
        let c = crosses to_first (to_end V) in
        let by = pos 0 -ℤ (((k +ℤ l) +ℤ m) *ℤ l) in
        record {
          x = by_one _ _ (cross u v).x (pos 0) by (ring values (c.x ⊖ con (pos 0)) ((n.x ⊖ con (pos 0)) ⊗ (con (pos 0) ⊖ (W ⊗ L))) refl) flat.x;
          y = by_one _ _ (cross u v).y (pos 0) by (ring values (c.y ⊖ con (pos 0)) ((n.y ⊖ con (pos 0)) ⊗ (con (pos 0) ⊖ (W ⊗ L))) refl) flat.y;
          z = by_one _ _ (cross u v).z (pos 0) by (ring values (c.z ⊖ con (pos 0)) ((n.z ⊖ con (pos 0)) ⊗ (con (pos 0) ⊖ (W ⊗ L))) refl) flat.z;
        }

  -- the weighted sum of the ways to the corners is 0, so they aren't all in one direction
  balanced : (k *ℤ dot first first) +ℤ ((l *ℤ dot first (end u)) +ℤ (m *ℤ dot first (end v))) ≡ pos 0
  balanced = ring values
      ((K ⊗ dots to_first to_first) ⊕ ((L ⊗ dots to_first (to_end U)) ⊕ (M ⊗ dots to_first (to_end V)))) (con (pos 0)) refl

  module _ (k_least : pos 0 ≤ℤ k) (l_least : pos 0 ≤ℤ l) (m_least : pos 0 ≤ℤ m) (some : pos 0 <ℤ ((k +ℤ l) +ℤ m)) where
    not-ahead : pos 0 <ℤ dot first (end u) → pos 0 <ℤ dot first (end v) → ⊥
    not-ahead h g = sum k (l +ℤ m) k_least (regroup k l m some) _ _ balanced (square-of-product first (end u) h) (λ more. sum_pos l m _ _ l_least m_least more h g) (least l m _ _ l_least m_least h g)
      where
        regroup : (k l m : ℤ) → pos 0 <ℤ ((k +ℤ l) +ℤ m) → pos 0 <ℤ (k +ℤ (l +ℤ m))
        regroup k l m h = omega (arith, ints)

        least : (l m f g : ℤ) → pos 0 ≤ℤ l → pos 0 ≤ℤ m → pos 0 <ℤ f → pos 0 <ℤ g → pos 0 ≤ℤ ((l *ℤ f) +ℤ (m *ℤ g))
        least l m f g p q h k = sum_not_negative (l *ℤ f) (m *ℤ g) (mul_nonneg l f p (not_negative_of_positive f h)) (mul_nonneg m g q (not_negative_of_positive g k))

        none : (y z : ℤ) → y +ℤ z ≡ pos 0 → pos 0 <ℤ y → pos 0 ≤ℤ z → ⊥
        none y z e p q = omega (arith, ints)

        none-last : (y z : ℤ) → y +ℤ z ≡ pos 0 → pos 0 ≤ℤ y → pos 0 <ℤ z → ⊥
        none-last y z e p q = omega (arith, ints)

        rest : (k n : ℤ) → pos 0 <ℤ (k +ℤ n) → k ≤ℤ pos 0 → pos 0 <ℤ n
        rest k n h p = omega (arith, ints)

        sum : (k n : ℤ) → pos 0 ≤ℤ k → pos 0 <ℤ (k +ℤ n) → (f g : ℤ) → (k *ℤ f) +ℤ g ≡ pos 0 → pos 0 <ℤ f → (pos 0 <ℤ n → pos 0 <ℤ g) → pos 0 ≤ℤ g → ⊥
        sum k n kl some f g e hf hg gl = by_lt_z (pos 0) k
            (λ p. none (k *ℤ f) g e (mul_pos k f p hf) gl)
            (λ p. none-last (k *ℤ f) g e (mul_nonneg k f kl (not_negative_of_positive f hf)) (hg (rest k n some p)))

-- ---- edges
module _ (a b c p q : Corner) (flat : IsFlat a b c) where
  module _ (i j k l m : ℕ) (some : 0 < i + j) (same : edge_sum p q i j ≡ face_sum a b c k l m) where
    abbrev all : ℤ
    all = (pos k +ℤ pos l) +ℤ pos m

    whole : pos i +ℤ pos j ≡ all
    whole = ap (λ (s : Point). s.w) same

    positive : pos 0 <ℤ all
    positive = at _ (sym whole)
      where
        at : (z : ℤ) → z ≡ pos i +ℤ pos j → pos 0 <ℤ z
        at z e = omega (arith, ints, some)

    abbrev u : Triple
    u = difference a b

    abbrev v : Triple
    v = difference a c

    -- weights of a side's ends, where those of the ways to them are x and y
    module _ (x y : ℤ) (x_least : pos 0 ≤ℤ x) (y_least : pos 0 ≤ℤ y) (more : pos 0 <ℤ (x +ℤ y)) where
      edge-some : pos 0 <ℤ (((x +ℤ y) *ℤ pos i) +ℤ ((x +ℤ y) *ℤ pos j))
      edge-some = positive_at _ _ (ring (x ∷ y ∷ pos i ∷ pos j ∷ []) (((var 0 ⊕ var 1) ⊗ var 2) ⊕ ((var 0 ⊕ var 1) ⊗ var 3)) ((var 0 ⊕ var 1) ⊗ (var 2 ⊕ var 3)) refl)
          (mul_pos (x +ℤ y) (pos i +ℤ pos j) more (subst (λ (z : ℤ). pos 0 <ℤ z) (sym whole) positive))

      edge-whole : (x *ℤ all) +ℤ (y *ℤ all) ≡ ((x +ℤ y) *ℤ pos i) +ℤ ((x +ℤ y) *ℤ pos j)
      edge-whole = by_one _ _ (pos i +ℤ pos j) all (pos 0 -ℤ (x +ℤ y))
          (ring (x ∷ y ∷ pos i ∷ pos j ∷ all ∷ [])
          (((var 0 ⊗ var 4) ⊕ (var 1 ⊗ var 4)) ⊖ (((var 0 ⊕ var 1) ⊗ var 2) ⊕ ((var 0 ⊕ var 1) ⊗ var 3)))
          (((var 2 ⊕ var 3) ⊖ var 4) ⊗ (con (pos 0) ⊖ (var 0 ⊕ var 1))) refl) whole

      -- one coordinate, where e is that of the side's end
      side : (e a b c p q : ℤ) → (pos i *ℤ p) +ℤ (pos j *ℤ q) ≡ ((pos k *ℤ a) +ℤ (pos l *ℤ b)) +ℤ (pos m *ℤ c)
          → (x *ℤ (pos 0 -ℤ ((pos l *ℤ (b -ℤ a)) +ℤ (pos m *ℤ (c -ℤ a))))) +ℤ (y *ℤ ((all *ℤ (e -ℤ a)) +ℤ (pos 0 -ℤ ((pos l *ℤ (b -ℤ a)) +ℤ (pos m *ℤ (c -ℤ a)))))) ≡ pos 0
          → ((x *ℤ all) *ℤ a) +ℤ ((y *ℤ all) *ℤ e) ≡ (((x +ℤ y) *ℤ pos i) *ℤ p) +ℤ (((x +ℤ y) *ℤ pos j) *ℤ q)
      side e a b c p q h g =
          let way = con (pos 0) ⊖ ((var 3 ⊗ (var 9 ⊖ var 8)) ⊕ (var 4 ⊗ (var 10 ⊖ var 8))) in
          let sum = (var 2 ⊕ var 3) ⊕ var 4 in
          by_two _ _ ((pos i *ℤ p) +ℤ (pos j *ℤ q)) (((pos k *ℤ a) +ℤ (pos l *ℤ b)) +ℤ (pos m *ℤ c)) (pos 0 -ℤ (x +ℤ y))
          ((x *ℤ (pos 0 -ℤ ((pos l *ℤ (b -ℤ a)) +ℤ (pos m *ℤ (c -ℤ a))))) +ℤ (y *ℤ ((all *ℤ (e -ℤ a)) +ℤ (pos 0 -ℤ ((pos l *ℤ (b -ℤ a)) +ℤ (pos m *ℤ (c -ℤ a))))))) (pos 0) (pos 1)
          (ring (x ∷ y ∷ pos k ∷ pos l ∷ pos m ∷ pos i ∷ pos j ∷ e ∷ a ∷ b ∷ c ∷ p ∷ q ∷ [])
          ((((var 0 ⊗ sum) ⊗ var 8) ⊕ ((var 1 ⊗ sum) ⊗ var 7)) ⊖ ((((var 0 ⊕ var 1) ⊗ var 5) ⊗ var 11) ⊕ (((var 0 ⊕ var 1) ⊗ var 6) ⊗ var 12)))
          (((((var 5 ⊗ var 11) ⊕ (var 6 ⊗ var 12)) ⊖ (((var 2 ⊗ var 8) ⊕ (var 3 ⊗ var 9)) ⊕ (var 4 ⊗ var 10))) ⊗ (con (pos 0) ⊖ (var 0 ⊕ var 1)))
          ⊕ ((((var 0 ⊗ way) ⊕ (var 1 ⊗ ((sum ⊗ (var 7 ⊖ var 8)) ⊕ way))) ⊖ con (pos 0)) ⊗ con (pos 1))) refl) h g

    on-side : (e : Corner) → Balance (first u v (pos k) (pos l) (pos m)) (end u v (pos k) (pos l) (pos m) (difference a e)) → EdgesTouch a e p q
    on-side e w = touch-of-sum a e p q (record {
      k = w.i *ℤ all;
      l = w.j *ℤ all;
      i = (w.i +ℤ w.j) *ℤ pos i;
      j = (w.i +ℤ w.j) *ℤ pos j;
      k_least = mul_nonneg w.i all w.i_least (not_negative_of_positive all positive);
      l_least = mul_nonneg w.j all w.j_least (not_negative_of_positive all positive);
      i_least = mul_nonneg (w.i +ℤ w.j) (pos i) (not_negative_of_positive _ w.some) (natural_not_negative i);
      j_least = mul_nonneg (w.i +ℤ w.j) (pos j) (not_negative_of_positive _ w.some) (natural_not_negative j);
      some = edge-some w.i w.j w.i_least w.j_least w.some;
      whole = edge-whole w.i w.j w.i_least w.j_least w.some;
      x = side w.i w.j w.i_least w.j_least w.some e.x a.x b.x c.x p.x q.x (ap (λ (s : Point). s.x) same) w.x;
      y = side w.i w.j w.i_least w.j_least w.some e.y a.y b.y c.y p.y q.y (ap (λ (s : Point). s.y) same) w.y;
      z = side w.i w.j w.i_least w.j_least w.some e.z a.z b.z c.z p.z q.z (ap (λ (s : Point). s.z) same) w.z;
    })

    one-side : EdgesTouch a b p q ⊎ EdgesTouch a c p q
    one-side =
        let r = first u v (pos k) (pos l) (pos m) in
        let s = end u v (pos k) (pos l) (pos m) u in
        let t = end u v (pos k) (pos l) (pos m) v in
        by_lt_z (pos 0) (dot r s)
        (λ ahead. by_lt_z (pos 0) (dot r t)
        (λ further. absurd (not-ahead u v (pos k) (pos l) (pos m) (natural_not_negative k) (natural_not_negative l) (natural_not_negative m) positive ahead further))
        (λ opposed. inr (on-side c (balance r t (line-v u v (pos k) (pos l) (pos m) flat) opposed))))
        (λ opposed. inl (on-side b (balance r s (line-u u v (pos k) (pos l) (pos m) flat) opposed)))

  pub touch-of-flat : Touch a b c p q ↔ (EdgesTouch a b p q ⊎ EdgesTouch a c p q)
  touch-of-flat = (
    to,
    λ h. elim h [
      | inl t ↦ record { point = t.point; on_edge = t.on_second; on_face = face_point-of_side a b c t.point t.on_first }
      | inr t ↦ record { point = t.point; on_edge = t.on_second; on_face = face-of-second a b c t.point t.on_first }
    ],
  )
    where
      to : Touch a b c p q → EdgesTouch a b p q ⊎ EdgesTouch a c p q
      to t =
          let (i, j, some, e) = t.on_edge in
          let (k, l, m, some_face, f) = t.on_face in
          one-side i j k l m some (sym e ∙ f)
