-- An edge that passes by bounds, and triangles whose corners but a common one are within them.
use Rattle.std.proofs.Common.{◌≡◌, ℕ, ◌*◌, ◌+◌, ◌<◌, ◌≤◌, ◌^◌, ◌⊎◌, inl, inr, [], ◌∷◌, refl, sym, subst, ap, ◌∙◌, arith, FitsSigned, to_z, of_z}
use Rattle.std.specs.Prelude.{ℤ, pos, negsuc, ◌+ℤ◌, ◌-ℤ◌, ◌*ℤ◌, ◌≤ℤ◌, ◌<ℤ◌, unsigned_abs}
use Rattle.std.specs.Int.{w32, w64}
use Rattle.std.proofs.lemmas.Int.{ints, to_z-of_z}
use Rattle.std.proofs.lemmas.Bool.{cases_lt}
use Rattle.integers.proofs.Absolutes.{natural_not_negative, natural_positive}
use Rattle.integers.proofs.Comparisons.{gap_of_at_most, at_most_by, at_most_itself, not_negative_of_positive, sum_positive_first, sum_positive_last, sum_not_negative, positive_not_zero, zero_times}
use Rattle.integers.proofs.Ring.{var, con, ◌⊕◌, ◌⊖◌, ◌⊗◌, ring, by_three}
use Rattle.integers.proofs.Signs.{mul_nonneg, mul_pos, zero_of_mul}
use Rattle.integers.proofs.Worth.{Reads, pass, minus, times}
use Rattle.lattice.specs.declared.points.Corner.{Corner}
use Rattle.lattice.specs.declared.soup.Tri.{Tri}
use Rattle.lattice.specs.Points.{Point, point_of, AreOnePoint}
use Rattle.geometry.specs.Faces.{edge_sum, face_sum}
use Rattle.geometry.proofs.FacePoints.{face_point-round}
use Rattle.meeting.specs.declared.range.Range.{Range}
use Rattle.meeting.specs.Ranges.{IsInRange}
use Rattle.meeting.specs.Touching.{Touch}
use Rattle.solid_mesh.specs.inner.Bounds.{IsInBounds, left_of_line, AreLeft, AreLeftOfBoth, PassesBy, PassesRound}
use Rattle.solid_mesh.specs.inner.Trees.{IsRim}
use Rattle.solid_mesh.specs.declared.bounds.Bounds.{Bounds}

-- ---- products of a number with those of a range
pub extended : (v : ℤ) (m : ℕ) {r : ℤ} → r ≡ to_z w32 (of_z w32 v) → FitsSigned w32 v → unsigned_abs v ≤ m → Reads (to_z w64 (of_z w64 r)) v m
extended v m {r} e f h = record { is = whole v r (e ∙ to_z-of_z w32 v f) f; size = h }
  where
    whole : (v r : ℤ) → r ≡ v → FitsSigned w32 v → to_z w64 (of_z w64 r) ≡ v
    whole v r e f = omega (arith, ints)

pub any_size : (v : ℤ) → FitsSigned w32 v → unsigned_abs v ≤ 2 ^ 31
any_size v f = omega (arith, ints)

abbrev pub product_read : (k n o : ℤ) {r s t : ℤ} → r ≡ to_z w32 (of_z w32 k) → s ≡ to_z w32 (of_z w32 n) → t ≡ to_z w32 (of_z w32 o) → FitsSigned w32 k → FitsSigned w32 n → FitsSigned w32 o
    → unsigned_abs k ≤ 2 ^ 21 → unsigned_abs o ≤ 2 ^ 20
    → Reads (to_z w64 (of_z w64 r) *ℤ to_z w64 (of_z w64 (to_z w64 (of_z w64 s) -ℤ to_z w64 (of_z w64 t)))) (k *ℤ (n -ℤ o)) (2 ^ 21 * (2 ^ 31 + 2 ^ 20))
product_read k n o e f g fit_k fit_n fit_o small near =
    times (extended k (2 ^ 21) e fit_k small) (pass w64 (minus (extended n (2 ^ 31) f fit_n (any_size n fit_n)) (extended o (2 ^ 20) g fit_o near)) tt)

pub rising : (k x y o : ℤ) → pos 0 ≤ℤ k → x ≤ℤ y → (k *ℤ (x -ℤ o)) ≤ℤ (k *ℤ (y -ℤ o))
rising k x y o h g =
    at_most_by _ _ (k *ℤ (y -ℤ x)) (ring (k ∷ x ∷ y ∷ o ∷ []) ((var 0 ⊗ (var 2 ⊖ var 3)) ⊖ (var 0 ⊗ (var 1 ⊖ var 3))) (var 0 ⊗ (var 2 ⊖ var 1)) refl) (mul_nonneg k _ h (gap_of_at_most x y g))

pub falling : (k x y o : ℤ) → k ≤ℤ pos 0 → x ≤ℤ y → (k *ℤ (y -ℤ o)) ≤ℤ (k *ℤ (x -ℤ o))
falling k x y o h g =
    at_most_by _ _ ((pos 0 -ℤ k) *ℤ (y -ℤ x)) (ring (k ∷ x ∷ y ∷ o ∷ []) ((var 0 ⊗ (var 1 ⊖ var 3)) ⊖ (var 0 ⊗ (var 2 ⊖ var 3))) ((con (pos 0) ⊖ var 0) ⊗ (var 2 ⊖ var 1)) refl)
    (mul_nonneg (pos 0 -ℤ k) _ (gap_of_at_most k (pos 0) h) (gap_of_at_most x y g))

-- a product that was read
pub product_is : (k n o : ℤ) {r k' n' o' : ℤ} → unsigned_abs r ≤ 2 ^ 54 → r ≡ k' *ℤ (n' -ℤ o') → k' ≡ k → n' ≡ n → o' ≡ o → to_z w64 (of_z w64 r) ≡ k *ℤ (n -ℤ o)
product_is k n o {r} small e is_k is_n is_o = whole r small ∙ e ∙ (λ i. is_k i *ℤ (is_n i -ℤ is_o i))
  where
    whole : (r : ℤ) → unsigned_abs r ≤ 2 ^ 54 → to_z w64 (of_z w64 r) ≡ r
    whole r h = omega (arith, ints)

-- ---- a line
pub left_read : (pu qu pv qv : ℤ) {pu' qu' pv' qv' : ℤ} → pu' ≡ pu → qu' ≡ qu → pv' ≡ pv → qv' ≡ qv → (u v : Range) → AreLeft pu' qu' pv' qv' u v → AreLeft pu qu pv qv u v
left_read pu qu pv qv {pu'} {qu'} {pv'} {qv'} e f g h u v left =
    subst (λ (z : ℤ). AreLeft z qu pv qv u v) e (subst (λ (z : ℤ). AreLeft pu' z pv qv u v) f (subst (λ (z : ℤ). AreLeft pu' qu' z qv u v) g (subst (λ (z : ℤ). AreLeft pu' qu' pv' z u v) h left)))

-- left by the least of both products
pub left_by_sum : (pu qu pv qv u v l r : ℤ) → l ≤ℤ ((qu -ℤ pu) *ℤ (v -ℤ pv)) → r ≤ℤ ((pv -ℤ qv) *ℤ (u -ℤ pu)) → pos 0 <ℤ (l +ℤ r) → pos 0 <ℤ left_of_line pu qu pv qv u v
left_by_sum pu qu pv qv u v l r h g more =
    together _ _ _ l r (ring (pu ∷ pv ∷ qv ∷ u ∷ []) ((var 1 ⊖ var 2) ⊗ (var 3 ⊖ var 0)) (con (pos 0) ⊖ ((var 2 ⊖ var 1) ⊗ (var 3 ⊖ var 0))) refl) h g more
  where
    together : (x y z l r : ℤ) → y ≡ pos 0 -ℤ z → l ≤ℤ x → r ≤ℤ y → pos 0 <ℤ (l +ℤ r) → pos 0 <ℤ (x -ℤ z)
    together x y z l r e h g more = omega (arith, ints)

-- the ends of a line are on it
on_line : (pu qu pv qv hu hv : ℤ) → ((hu ≡ pu) × (hv ≡ pv)) ⊎ ((hu ≡ qu) × (hv ≡ qv)) → left_of_line pu qu pv qv hu hv ≡ pos 0
on_line pu qu pv qv hu hv (inl (e, f)) =
    (λ i. left_of_line pu qu pv qv (e i) (f i))
    ∙ ring (pu ∷ qu ∷ pv ∷ qv ∷ []) (((var 1 ⊖ var 0) ⊗ (var 2 ⊖ var 2)) ⊖ ((var 3 ⊖ var 2) ⊗ (var 0 ⊖ var 0))) (con (pos 0)) refl
on_line pu qu pv qv hu hv (inr (e, f)) =
    (λ i. left_of_line pu qu pv qv (e i) (f i))
    ∙ ring (pu ∷ qu ∷ pv ∷ qv ∷ []) (((var 1 ⊖ var 0) ⊗ (var 3 ⊖ var 2)) ⊖ ((var 3 ⊖ var 2) ⊗ (var 1 ⊖ var 0))) (con (pos 0)) refl

-- how far a triangle's corners are to the left of an edge's line, with the weights of a common point, is nothing in all
sum_on_line : (i j k l m : ℕ) (pu qu au bu cu pv qv av bv cv : ℤ) → pos i +ℤ pos j ≡ (pos k +ℤ pos l) +ℤ pos m
    → (pos i *ℤ pu) +ℤ (pos j *ℤ qu) ≡ ((pos k *ℤ au) +ℤ (pos l *ℤ bu)) +ℤ (pos m *ℤ cu)
    → (pos i *ℤ pv) +ℤ (pos j *ℤ qv) ≡ ((pos k *ℤ av) +ℤ (pos l *ℤ bv)) +ℤ (pos m *ℤ cv)
    → ((pos k *ℤ left_of_line pu qu pv qv au av) +ℤ (pos l *ℤ left_of_line pu qu pv qv bu bv)) +ℤ (pos m *ℤ left_of_line pu qu pv qv cu cv) ≡ pos 0
sum_on_line i j k l m pu qu au bu cu pv qv av bv cv weights same_u same_v =
    by_three _ _ ((pos i *ℤ pv) +ℤ (pos j *ℤ qv)) (((pos k *ℤ av) +ℤ (pos l *ℤ bv)) +ℤ (pos m *ℤ cv)) (pu -ℤ qu)
    ((pos i *ℤ pu) +ℤ (pos j *ℤ qu)) (((pos k *ℤ au) +ℤ (pos l *ℤ bu)) +ℤ (pos m *ℤ cu)) (qv -ℤ pv)
    (pos i +ℤ pos j) ((pos k +ℤ pos l) +ℤ pos m) (((qu -ℤ pu) *ℤ pv) -ℤ ((qv -ℤ pv) *ℤ pu))
    (ring (pos i ∷ pos j ∷ pos k ∷ pos l ∷ pos m ∷ pu ∷ qu ∷ au ∷ bu ∷ cu ∷ pv ∷ qv ∷ av ∷ bv ∷ cv ∷ [])
    ((((var 2 ⊗ (((var 6 ⊖ var 5) ⊗ (var 12 ⊖ var 10)) ⊖ ((var 11 ⊖ var 10) ⊗ (var 7 ⊖ var 5)))) ⊕ (var 3 ⊗ (((var 6 ⊖ var 5) ⊗ (var 13 ⊖ var 10)) ⊖ ((var 11 ⊖ var 10) ⊗ (var 8 ⊖ var 5)))))
    ⊕ (var 4 ⊗ (((var 6 ⊖ var 5) ⊗ (var 14 ⊖ var 10)) ⊖ ((var 11 ⊖ var 10) ⊗ (var 9 ⊖ var 5))))) ⊖ con (pos 0))
    (((((((var 0 ⊗ var 10) ⊕ (var 1 ⊗ var 11)) ⊖ (((var 2 ⊗ var 12) ⊕ (var 3 ⊗ var 13)) ⊕ (var 4 ⊗ var 14))) ⊗ (var 5 ⊖ var 6))
    ⊕ ((((var 0 ⊗ var 5) ⊕ (var 1 ⊗ var 6)) ⊖ (((var 2 ⊗ var 7) ⊕ (var 3 ⊗ var 8)) ⊕ (var 4 ⊗ var 9))) ⊗ (var 11 ⊖ var 10)))
    ⊕ (((var 0 ⊕ var 1) ⊖ ((var 2 ⊕ var 3) ⊕ var 4)) ⊗ (((var 6 ⊖ var 5) ⊗ var 10) ⊖ ((var 11 ⊖ var 10) ⊗ var 5))))) refl) same_v same_u weights

-- ---- a triangle whose corners but h, a corner of the edge, are to the left of the edge's line as it is seen along an axis
module _ (a b c p q h : Corner) (f g : Corner → ℤ) (u v : Range) (left : AreLeft (f p) (f q) (g p) (g q) u v) (end : (h ≡ p) ⊎ (h ≡ q)) where
  abbrev how_left : Corner → ℤ
  how_left x = left_of_line (f p) (f q) (g p) (g q) (f x) (g x)

  abbrev IsBeside : Corner → Type 0
  IsBeside x = (x ≡ h) ⊎ (IsInRange u (f x) × IsInRange v (g x))

  level : (x : Corner) → x ≡ h → how_left x ≡ pos 0
  level x e = ap how_left e ∙ on_line (f p) (f q) (g p) (g q) (f h) (g h) (elim end [ inl is ↦ inl (ap f is, ap g is) | inr is ↦ inr (ap f is, ap g is) ])

  least_left : (k : ℕ) (x : Corner) → IsBeside x → pos 0 ≤ℤ (pos k *ℤ how_left x)
  least_left k x (inl e) = mul_nonneg (pos k) _ (natural_not_negative k) (subst (λ (z : ℤ). pos 0 ≤ℤ z) (sym (level x e)) (at_most_itself (pos 0)))
  least_left k x (inr (in_u, in_v)) = mul_nonneg (pos k) _ (natural_not_negative k) (not_negative_of_positive _ (left (f x) (g x) in_u in_v))

  -- where it has a weight, it is at h
  at_end : (k : ℕ) (x : Corner) → IsBeside x → pos k *ℤ how_left x ≡ pos 0 → (e : Corner → ℤ) → pos k *ℤ (e x -ℤ e h) ≡ pos 0
  at_end k x (inl is) zero e = (λ i. pos k *ℤ (e (is i) -ℤ e h)) ∙ ring (pos k ∷ e h ∷ []) (var 0 ⊗ (var 1 ⊖ var 1)) (con (pos 0)) refl
  at_end k x (inr (in_u, in_v)) zero e =
      let turned : how_left x *ℤ pos k ≡ pos 0 = ring (how_left x ∷ pos k ∷ []) (var 0 ⊗ var 1) (var 1 ⊗ var 0) refl ∙ zero in
      let none : pos k ≡ pos 0 = zero_of_mul (how_left x) (pos k) (left (f x) (g x) in_u in_v) turned in
      ap (λ (z : ℤ). z *ℤ (e x -ℤ e h)) none ∙ zero_times (e x -ℤ e h)

  module _ (i j k l m : ℕ) (weights : pos i +ℤ pos j ≡ (pos k +ℤ pos l) +ℤ pos m)
      (same_u : (pos i *ℤ f p) +ℤ (pos j *ℤ f q) ≡ ((pos k *ℤ f a) +ℤ (pos l *ℤ f b)) +ℤ (pos m *ℤ f c))
      (same_v : (pos i *ℤ g p) +ℤ (pos j *ℤ g q) ≡ ((pos k *ℤ g a) +ℤ (pos l *ℤ g b)) +ℤ (pos m *ℤ g c))
      (at_a : IsBeside a) (at_b : IsBeside b) (at_c : IsBeside c) where
    zeros : (pos k *ℤ how_left a ≡ pos 0) × (pos l *ℤ how_left b ≡ pos 0) × (pos m *ℤ how_left c ≡ pos 0)
    zeros = each _ _ _ (least_left k a at_a) (least_left l b at_b) (least_left m c at_c) (sum_on_line i j k l m (f p) (f q) (f a) (f b) (f c) (g p) (g q) (g a) (g b) (g c) weights same_u same_v)
      where
        each : (x y z : ℤ) → pos 0 ≤ℤ x → pos 0 ≤ℤ y → pos 0 ≤ℤ z → (x +ℤ y) +ℤ z ≡ pos 0 → (x ≡ pos 0) × (y ≡ pos 0) × (z ≡ pos 0)
        each x y z hx hy hz e = (omega (arith, ints), omega (arith, ints), omega (arith, ints))

    coordinate : (e : Corner → ℤ) → e h *ℤ ((pos k +ℤ pos l) +ℤ pos m) ≡ (((pos k *ℤ e a) +ℤ (pos l *ℤ e b)) +ℤ (pos m *ℤ e c)) *ℤ pos 1
    coordinate e =
        by_three _ _ (pos k *ℤ (e a -ℤ e h)) (pos 0) (pos 0 -ℤ pos 1) (pos l *ℤ (e b -ℤ e h)) (pos 0) (pos 0 -ℤ pos 1) (pos m *ℤ (e c -ℤ e h)) (pos 0) (pos 0 -ℤ pos 1)
        (ring (pos k ∷ pos l ∷ pos m ∷ e a ∷ e b ∷ e c ∷ e h ∷ [])
        ((var 6 ⊗ ((var 0 ⊕ var 1) ⊕ var 2)) ⊖ ((((var 0 ⊗ var 3) ⊕ (var 1 ⊗ var 4)) ⊕ (var 2 ⊗ var 5)) ⊗ con (pos 1)))
        (((((var 0 ⊗ (var 3 ⊖ var 6)) ⊖ con (pos 0)) ⊗ (con (pos 0) ⊖ con (pos 1))) ⊕ (((var 1 ⊗ (var 4 ⊖ var 6)) ⊖ con (pos 0)) ⊗ (con (pos 0) ⊖ con (pos 1))))
        ⊕ (((var 2 ⊗ (var 5 ⊖ var 6)) ⊖ con (pos 0)) ⊗ (con (pos 0) ⊖ con (pos 1)))) refl)
        (at_end k a at_a (zeros.0) e) (at_end l b at_b (zeros.1) e) (at_end m c at_c (zeros.2) e)

    pub only_end : AreOnePoint (point_of h) (face_sum a b c k l m)
    only_end = record { x = coordinate (λ n. n.x); y = coordinate (λ n. n.y); z = coordinate (λ n. n.z) }

-- ---- along each axis, with its two coordinates in either order
-- a range for each of the two coordinates
abbrev AreRanges : Bounds → (Corner → ℤ) → (Corner → ℤ) → Range → Range → Type 0
AreRanges r f g u v = (n : Corner) → IsInBounds n r → IsInRange u (f n) × IsInRange v (g n)

-- the edge's ends and the triangle's corners have one sum, with these weights
abbrev HaveOneSum : (a b c p q : Corner) (i j k l m : ℕ) → (Corner → ℤ) → Type 0
HaveOneSum a b c p q i j k l m f = (pos i *ℤ f p) +ℤ (pos j *ℤ f q) ≡ ((pos k *ℤ f a) +ℤ (pos l *ℤ f b)) +ℤ (pos m *ℤ f c)

-- at a common point, what follows from being to the left along any axis follows from being so along one of them
along_one : (a b c p q : Corner) (i j k l m : ℕ) → edge_sum p q i j ≡ face_sum a b c k l m → (r : Bounds) (AreLeftAlong : (Corner → ℤ) → (Corner → ℤ) → Range → Range → Type 0) (C : Type 0)
    → ((f g : Corner → ℤ) (u v : Range) → AreRanges r f g u v → pos i +ℤ pos j ≡ (pos k +ℤ pos l) +ℤ pos m → HaveOneSum a b c p q i j k l m f → HaveOneSum a b c p q i j k l m g → AreLeftAlong f g u v → C)
    → AreLeftAlong (λ n. n.x) (λ n. n.y) r.x r.y ⊎ AreLeftAlong (λ n. n.y) (λ n. n.x) r.y r.x ⊎ AreLeftAlong (λ n. n.y) (λ n. n.z) r.y r.z
    ⊎ AreLeftAlong (λ n. n.z) (λ n. n.y) r.z r.y ⊎ AreLeftAlong (λ n. n.z) (λ n. n.x) r.z r.x ⊎ AreLeftAlong (λ n. n.x) (λ n. n.z) r.x r.z → C
along_one a b c p q i j k l m same r AreLeftAlong C along passes =
    let weights = ap (λ (n : Point). n.w) same in
    let x = ap (λ (n : Point). n.x) same in
    let y = ap (λ (n : Point). n.y) same in
    let z = ap (λ (n : Point). n.z) same in
    elim passes [
      | inl left ↦ along (λ n. n.x) (λ n. n.y) r.x r.y (λ n g. (g.x, g.y)) weights x y left
      | inr g ↦ elim g [
        | inl left ↦ along (λ n. n.y) (λ n. n.x) r.y r.x (λ n g. (g.y, g.x)) weights y x left
        | inr g ↦ elim g [
          | inl left ↦ along (λ n. n.y) (λ n. n.z) r.y r.z (λ n g. (g.y, g.z)) weights y z left
          | inr g ↦ elim g [
            | inl left ↦ along (λ n. n.z) (λ n. n.y) r.z r.y (λ n g. (g.z, g.y)) weights z y left
            | inr g ↦ elim g [
              | inl left ↦ along (λ n. n.z) (λ n. n.x) r.z r.x (λ n g. (g.z, g.x)) weights z x left
              | inr left ↦ along (λ n. n.x) (λ n. n.z) r.x r.z (λ n g. (g.x, g.z)) weights x z left
            ]
          ]
        ]
      ]
    ]

-- ---- a triangle whose corners but h are within bounds that the edge passes by
module _ (a b c p q h : Corner) (rim : Bounds) (end : (h ≡ p) ⊎ (h ≡ q)) (at_a : (a ≡ h) ⊎ IsInBounds a rim) (at_b : (b ≡ h) ⊎ IsInBounds b rim) (at_c : (c ≡ h) ⊎ IsInBounds c rim) where
  beside : (x : Corner) (f g : Corner → ℤ) (u v : Range) → AreRanges rim f g u v → (x ≡ h) ⊎ IsInBounds x rim → (x ≡ h) ⊎ (IsInRange u (f x) × IsInRange v (g x))
  beside x f g u v read (inl e) = inl e
  beside x f g u v read (inr e) = inr (read x e)

  pub passed : (t : Touch a b c p q) → PassesBy p q rim → AreOnePoint (point_of h) t.point
  passed t passes =
      let (i, j, some, e) = t.on_edge in
      let (k, l, m, some_face, is) = t.on_face in
      subst (AreOnePoint (point_of h)) (sym is)
      (along_one a b c p q i j k l m (sym e ∙ is) rim (λ f g u v. AreLeft (f p) (f q) (g p) (g q) u v) (AreOnePoint (point_of h) (face_sum a b c k l m)) (along i j k l m) passes)
    where
      along : (i j k l m : ℕ) (f g : Corner → ℤ) (u v : Range) → AreRanges rim f g u v → pos i +ℤ pos j ≡ (pos k +ℤ pos l) +ℤ pos m → HaveOneSum a b c p q i j k l m f → HaveOneSum a b c p q i j k l m g
          → AreLeft (f p) (f q) (g p) (g q) u v → AreOnePoint (point_of h) (face_sum a b c k l m)
      along i j k l m f g u v read weights same_u same_v left =
          only_end a b c p q h f g u v left end i j k l m weights same_u same_v (beside a f g u v read at_a) (beside b f g u v read at_b) (beside c f g u v read at_c)

-- ---- sums with weights of what is positive
some_of_two : (i j : ℕ) (x y : ℤ) → 0 < i + j → pos 0 <ℤ x → pos 0 <ℤ y → pos 0 <ℤ ((pos i *ℤ x) +ℤ (pos j *ℤ y))
some_of_two i j x y some hx hy = elim (cases_lt 0 i) [
  | inl h ↦ sum_positive_first (pos i *ℤ x) (pos j *ℤ y) (mul_pos (pos i) x (natural_positive i h) hx) (mul_nonneg (pos j) y (natural_not_negative j) (not_negative_of_positive y hy))
  | inr h ↦
      let there : 0 < j = omega (arith, some, h) in
      sum_positive_last (pos i *ℤ x) (pos j *ℤ y) (mul_nonneg (pos i) x (natural_not_negative i) (not_negative_of_positive x hx)) (mul_pos (pos j) y (natural_positive j there) hy)
]

some_of_three : (i j k : ℕ) (x y z : ℤ) → 0 < i + j + k → pos 0 <ℤ x → pos 0 <ℤ y → pos 0 <ℤ z → pos 0 <ℤ (((pos i *ℤ x) +ℤ (pos j *ℤ y)) +ℤ (pos k *ℤ z))
some_of_three i j k x y z some hx hy hz = elim (cases_lt 0 k) [
  | inl h ↦
      sum_positive_last _ _
      (sum_not_negative (pos i *ℤ x) (pos j *ℤ y) (mul_nonneg (pos i) x (natural_not_negative i) (not_negative_of_positive x hx)) (mul_nonneg (pos j) y (natural_not_negative j) (not_negative_of_positive y hy)))
      (mul_pos (pos k) z (natural_positive k h) hz)
  | inr h ↦
      let there : 0 < i + j = omega (arith, some, h) in
      sum_positive_first _ _ (some_of_two i j x y there hx hy) (mul_nonneg (pos k) z (natural_not_negative k) (not_negative_of_positive z hz))
]

-- ---- a triangle within bounds that the edge passes by
pub passed_all : (a b c p q : Corner) (r : Bounds) → IsInBounds a r → IsInBounds b r → IsInBounds c r → PassesBy p q r → Touch a b c p q → ⊥
passed_all a b c p q r in_a in_b in_c passes t =
    let (i, j, some, e) = t.on_edge in
    let (k, l, m, some_face, is) = t.on_face in
    along_one a b c p q i j k l m (sym e ∙ is) r (λ f g u v. AreLeft (f p) (f q) (g p) (g q) u v) ⊥ (along i j k l m some_face) passes
  where
    along : (i j k l m : ℕ) → 0 < k + l + m → (f g : Corner → ℤ) (u v : Range) → AreRanges r f g u v → pos i +ℤ pos j ≡ (pos k +ℤ pos l) +ℤ pos m → HaveOneSum a b c p q i j k l m f → HaveOneSum a b c p q i j k l m g
        → AreLeft (f p) (f q) (g p) (g q) u v → ⊥
    along i j k l m some f g u v read weights same_u same_v left =
        positive_not_zero _
        (some_of_three k l m _ _ _ some (left (f a) (g a) ((read a in_a).0) ((read a in_a).1)) (left (f b) (g b) ((read b in_b).0) ((read b in_b).1)) (left (f c) (g c) ((read c in_c).0) ((read c in_c).1)))
        (sum_on_line i j k l m (f p) (f q) (f a) (f b) (f c) (g p) (g q) (g a) (g b) (g c) weights same_u same_v)

-- ---- a triangle of h and of two corners that are to the left of the lines from h to both ends of an edge
module _ (i j k l m : ℕ) (hu hv pu pv qu qv bu bv cu cv : ℤ) (weights : pos i +ℤ pos j ≡ (pos k +ℤ pos l) +ℤ pos m)
    (same_u : (pos i *ℤ pu) +ℤ (pos j *ℤ qu) ≡ ((pos k *ℤ hu) +ℤ (pos l *ℤ bu)) +ℤ (pos m *ℤ cu))
    (same_v : (pos i *ℤ pv) +ℤ (pos j *ℤ qv) ≡ ((pos k *ℤ hv) +ℤ (pos l *ℤ bv)) +ℤ (pos m *ℤ cv)) where
  -- how far the one corner is to the right of the line from h to the other
  abbrev turn : ℤ
  turn = ((cu -ℤ hu) *ℤ (bv -ℤ hv)) -ℤ ((cv -ℤ hv) *ℤ (bu -ℤ hu))

  -- how far a corner is to the left of the line from h to the common point, with that point's weight
  first_left : (pos i *ℤ left_of_line hu pu hv pv bu bv) +ℤ (pos j *ℤ left_of_line hu qu hv qv bu bv) ≡ pos m *ℤ turn
  first_left =
      by_three _ _ ((pos i *ℤ pu) +ℤ (pos j *ℤ qu)) (((pos k *ℤ hu) +ℤ (pos l *ℤ bu)) +ℤ (pos m *ℤ cu)) (bv -ℤ hv)
      ((pos i *ℤ pv) +ℤ (pos j *ℤ qv)) (((pos k *ℤ hv) +ℤ (pos l *ℤ bv)) +ℤ (pos m *ℤ cv)) (hu -ℤ bu)
      (pos i +ℤ pos j) ((pos k +ℤ pos l) +ℤ pos m) ((hv *ℤ (bu -ℤ hu)) -ℤ (hu *ℤ (bv -ℤ hv)))
      (ring (pos i ∷ pos j ∷ pos k ∷ pos l ∷ pos m ∷ hu ∷ hv ∷ pu ∷ pv ∷ qu ∷ qv ∷ bu ∷ bv ∷ cu ∷ cv ∷ [])
      (((var 0 ⊗ (((var 7 ⊖ var 5) ⊗ (var 12 ⊖ var 6)) ⊖ ((var 8 ⊖ var 6) ⊗ (var 11 ⊖ var 5)))) ⊕ (var 1 ⊗ (((var 9 ⊖ var 5) ⊗ (var 12 ⊖ var 6)) ⊖ ((var 10 ⊖ var 6) ⊗ (var 11 ⊖ var 5)))))
      ⊖ (var 4 ⊗ (((var 13 ⊖ var 5) ⊗ (var 12 ⊖ var 6)) ⊖ ((var 14 ⊖ var 6) ⊗ (var 11 ⊖ var 5)))))
      (((((((var 0 ⊗ var 7) ⊕ (var 1 ⊗ var 9)) ⊖ (((var 2 ⊗ var 5) ⊕ (var 3 ⊗ var 11)) ⊕ (var 4 ⊗ var 13))) ⊗ (var 12 ⊖ var 6))
      ⊕ ((((var 0 ⊗ var 8) ⊕ (var 1 ⊗ var 10)) ⊖ (((var 2 ⊗ var 6) ⊕ (var 3 ⊗ var 12)) ⊕ (var 4 ⊗ var 14))) ⊗ (var 5 ⊖ var 11)))
      ⊕ (((var 0 ⊕ var 1) ⊖ ((var 2 ⊕ var 3) ⊕ var 4)) ⊗ ((var 6 ⊗ (var 11 ⊖ var 5)) ⊖ (var 5 ⊗ (var 12 ⊖ var 6)))))) refl) same_u same_v weights

  second_left : (pos i *ℤ left_of_line hu pu hv pv cu cv) +ℤ (pos j *ℤ left_of_line hu qu hv qv cu cv) ≡ pos 0 -ℤ (pos l *ℤ turn)
  second_left =
      by_three _ _ ((pos i *ℤ pu) +ℤ (pos j *ℤ qu)) (((pos k *ℤ hu) +ℤ (pos l *ℤ bu)) +ℤ (pos m *ℤ cu)) (cv -ℤ hv)
      ((pos i *ℤ pv) +ℤ (pos j *ℤ qv)) (((pos k *ℤ hv) +ℤ (pos l *ℤ bv)) +ℤ (pos m *ℤ cv)) (hu -ℤ cu)
      (pos i +ℤ pos j) ((pos k +ℤ pos l) +ℤ pos m) ((hv *ℤ (cu -ℤ hu)) -ℤ (hu *ℤ (cv -ℤ hv)))
      (ring (pos i ∷ pos j ∷ pos k ∷ pos l ∷ pos m ∷ hu ∷ hv ∷ pu ∷ pv ∷ qu ∷ qv ∷ bu ∷ bv ∷ cu ∷ cv ∷ [])
      (((var 0 ⊗ (((var 7 ⊖ var 5) ⊗ (var 14 ⊖ var 6)) ⊖ ((var 8 ⊖ var 6) ⊗ (var 13 ⊖ var 5)))) ⊕ (var 1 ⊗ (((var 9 ⊖ var 5) ⊗ (var 14 ⊖ var 6)) ⊖ ((var 10 ⊖ var 6) ⊗ (var 13 ⊖ var 5)))))
      ⊖ (con (pos 0) ⊖ (var 3 ⊗ (((var 13 ⊖ var 5) ⊗ (var 12 ⊖ var 6)) ⊖ ((var 14 ⊖ var 6) ⊗ (var 11 ⊖ var 5))))))
      (((((((var 0 ⊗ var 7) ⊕ (var 1 ⊗ var 9)) ⊖ (((var 2 ⊗ var 5) ⊕ (var 3 ⊗ var 11)) ⊕ (var 4 ⊗ var 13))) ⊗ (var 14 ⊖ var 6))
      ⊕ ((((var 0 ⊗ var 8) ⊕ (var 1 ⊗ var 10)) ⊖ (((var 2 ⊗ var 6) ⊕ (var 3 ⊗ var 12)) ⊕ (var 4 ⊗ var 14))) ⊗ (var 5 ⊖ var 13)))
      ⊕ (((var 0 ⊕ var 1) ⊖ ((var 2 ⊕ var 3) ⊕ var 4)) ⊗ ((var 6 ⊗ (var 13 ⊖ var 5)) ⊖ (var 5 ⊗ (var 14 ⊖ var 6)))))) refl) same_u same_v weights

  -- both can't be to the left
  none_between : 0 < i + j → pos 0 <ℤ left_of_line hu pu hv pv bu bv → pos 0 <ℤ left_of_line hu qu hv qv bu bv → pos 0 <ℤ left_of_line hu pu hv pv cu cv → pos 0 <ℤ left_of_line hu qu hv qv cu cv → ⊥
  none_between some b_p b_q c_p c_q =
      by turn (subst (λ (z : ℤ). pos 0 <ℤ z) first_left (some_of_two i j _ _ some b_p b_q)) (subst (λ (z : ℤ). pos 0 <ℤ z) second_left (some_of_two i j _ _ some c_p c_q))
    where
      none : (x : ℤ) → pos 0 <ℤ (pos 0 -ℤ x) → pos 0 ≤ℤ x → ⊥
      none x h g = omega (arith, ints)

      flipped : (x y : ℤ) → x ≡ pos 0 -ℤ y → pos 0 ≤ℤ x → pos 0 <ℤ y → ⊥
      flipped x y e h g = omega (arith, ints)

      at_least : (n : ℕ) → pos 0 ≤ℤ (pos 0 -ℤ negsuc n)
      at_least n = omega (arith, ints)

      by : (d : ℤ) → pos 0 <ℤ (pos m *ℤ d) → pos 0 <ℤ (pos 0 -ℤ (pos l *ℤ d)) → ⊥
      by (pos n) first second = none (pos l *ℤ pos n) second (mul_nonneg (pos l) (pos n) (natural_not_negative l) (natural_not_negative n))
      by (negsuc n) first second =
          flipped (pos m *ℤ (pos 0 -ℤ negsuc n)) (pos m *ℤ negsuc n) (ring (pos m ∷ negsuc n ∷ []) (var 0 ⊗ (con (pos 0) ⊖ var 1)) (con (pos 0) ⊖ (var 0 ⊗ var 1)) refl)
          (mul_nonneg (pos m) (pos 0 -ℤ negsuc n) (natural_not_negative m) (at_least n)) first

-- the triangle of h and of two corners within bounds that the edge passes round
past_fan : (h b c p q : Corner) (r : Bounds) → IsInBounds b r → IsInBounds c r → PassesRound h p q r → Touch h b c p q → ⊥
past_fan h b c p q r in_b in_c passes t =
    let (i, j, some, e) = t.on_edge in
    let (k, l, m, some_face, is) = t.on_face in
    along_one h b c p q i j k l m (sym e ∙ is) r (λ f g u v. AreLeftOfBoth (f h) (f p) (f q) (g h) (g p) (g q) u v) ⊥ (along i j k l m some) passes
  where
    along : (i j k l m : ℕ) → 0 < i + j → (f g : Corner → ℤ) (u v : Range) → AreRanges r f g u v → pos i +ℤ pos j ≡ (pos k +ℤ pos l) +ℤ pos m → HaveOneSum h b c p q i j k l m f → HaveOneSum h b c p q i j k l m g
        → AreLeftOfBoth (f h) (f p) (f q) (g h) (g p) (g q) u v → ⊥
    along i j k l m some f g u v read weights same_u same_v (of_p, of_q) =
        let (b_u, b_v) = read b in_b in
        let (c_u, c_v) = read c in_c in
        none_between i j k l m (f h) (g h) (f p) (g p) (f q) (g q) (f b) (g b) (f c) (g c) weights same_u same_v some
        (of_p (f b) (g b) b_u b_v) (of_q (f b) (g b) b_u b_v) (of_p (f c) (g c) c_u c_v) (of_q (f c) (g c) c_u c_v)

-- ---- a triangle with the bounds of all its corners but one
touch_round : (a b c p q : Corner) → Touch a b c p q → Touch b c a p q
touch_round a b c p q t = record { point = t.point; on_edge = t.on_edge; on_face = face_point-round a b c t.point t.on_face }

-- the one is at h, and the edge passes round it and the bounds
pub passed_round : (t : Tri) (corner : ℕ) (a b c p q h : Corner) (r : Bounds) → (t.a ≡ corner → a ≡ h) → (t.b ≡ corner → b ≡ h) → (t.c ≡ corner → c ≡ h)
    → IsRim t corner a b c r → PassesRound h p q r → Touch a b c p q → ⊥
passed_round t corner a b c p q h r at_a at_b at_c (inl (is, in_b, in_c)) passes touch = past_fan a b c p q r in_b in_c (subst (λ (k : Corner). PassesRound k p q r) (sym (at_a is)) passes) touch
passed_round t corner a b c p q h r at_a at_b at_c (inr (inl (is, in_c, in_a))) passes touch =
    past_fan b c a p q r in_c in_a (subst (λ (k : Corner). PassesRound k p q r) (sym (at_b is)) passes) (touch_round a b c p q touch)
passed_round t corner a b c p q h r at_a at_b at_c (inr (inr (is, in_a, in_b))) passes touch =
    past_fan c a b p q r in_a in_b (subst (λ (k : Corner). PassesRound k p q r) (sym (at_c is)) passes) (touch_round b c a p q (touch_round a b c p q touch))

-- each corner has its number, or is within the bounds
module _ (t : Tri) (corner : ℕ) (a b c : Corner) (r : Bounds) where
  pub first_beside : IsRim t corner a b c r → (t.a ≡ corner) ⊎ IsInBounds a r
  first_beside (inl (is, b, c)) = inl is
  first_beside (inr (inl (is, c, a))) = inr a
  first_beside (inr (inr (is, a, b))) = inr a

  pub second_beside : IsRim t corner a b c r → (t.b ≡ corner) ⊎ IsInBounds b r
  second_beside (inl (is, b, c)) = inr b
  second_beside (inr (inl (is, c, a))) = inl is
  second_beside (inr (inr (is, a, b))) = inr b

  pub third_beside : IsRim t corner a b c r → (t.c ≡ corner) ⊎ IsInBounds c r
  third_beside (inl (is, b, c)) = inr c
  third_beside (inr (inl (is, c, a))) = inr c
  third_beside (inr (inr (is, a, b))) = inl is
