-- What points, edges and sides read along a vector, and what a side's ends and the weights of its points say of the point that the side hides.
use Rattle.std.proofs.Common.{◌≡◌, ◌≢◌, ℕ, List, [], ◌∷◌, refl, sym, ap, ◌∙◌, subst, arith}
use Rattle.std.specs.Prelude.{ℤ, pos, negsuc, ◌+ℤ◌, ◌-ℤ◌, ◌*ℤ◌, ◌<ℤ◌, ◌≤ℤ◌}
use Rattle.std.proofs.lemmas.Int.{ints, by_lt_z}
use Rattle.integers.proofs.Comparisons.{not_negative_of_positive, zero_between, same_of_both}
use Rattle.integers.proofs.Ring.{Expr, var, con, ◌⊕◌, ◌⊖◌, ◌⊗◌, ring, by_one, by_two, by_three, gap_of_less, same_of_gap}
use Rattle.integers.proofs.Signs.{mul_nonneg, mul_pos, nonneg_of_mul, pos_of_mul, zero_of_mul}
use Rattle.lattice.specs.declared.points.Corner.{Corner}
use Rattle.lattice.specs.Triple.{Triple, dot, cross, det}
use Rattle.lattice.specs.Points.{Point, point_of, of_corner, scaled, difference}
use Rattle.lattice.proofs.Vectors.{Letters, letters, dots, crosses}
use Rattle.geometry.specs.Faces.{edge_sum, share_point}
use Rattle.hiding_laws.specs.Values.{offset, value_at, short_of, behind_of}

-- ---- along any vector
abbrev T : Letters
T = letters 0

-- the letters of a corner, after those of the vector and of a point
abbrev offsets : Letters
offsets = record {
  x = var 3 ⊖ (var 6 ⊗ var 7);
  y = var 4 ⊖ (var 6 ⊗ var 8);
  z = var 5 ⊖ (var 6 ⊗ var 9);
}

pub dot-offset : (t : Triple) (a : Corner) (p : Point) → dot t (offset a p) ≡ dot t (scaled p) -ℤ p.w *ℤ dot t (of_corner a)
dot-offset t a p = ring (t.x ∷ t.y ∷ t.z ∷ p.x ∷ p.y ∷ p.z ∷ p.w ∷ a.x ∷ a.y ∷ a.z ∷ []) (dots T offsets) (dots T (letters 3) ⊖ (var 6 ⊗ dots T (letters 7))) refl

abbrev pair : Triple → Corner → Corner → ℤ → ℤ → List ℤ
pair t a b n m = t.x ∷ t.y ∷ t.z ∷ a.x ∷ a.y ∷ a.z ∷ b.x ∷ b.y ∷ b.z ∷ n ∷ m ∷ []

-- one component of the sum of two corners with these weights
abbrev mixed : Expr → Expr → Letters
mixed i j = record {
  x = (i ⊗ var 3) ⊕ (j ⊗ var 6);
  y = (i ⊗ var 4) ⊕ (j ⊗ var 7);
  z = (i ⊗ var 5) ⊕ (j ⊗ var 8);
}

abbrev differences : Letters
differences = record {
  x = var 6 ⊖ var 3;
  y = var 7 ⊖ var 4;
  z = var 8 ⊖ var 5;
}

pub dot-difference : (t : Triple) (a b : Corner) → dot t (difference a b) ≡ dot t (of_corner b) -ℤ dot t (of_corner a)
dot-difference t a b = ring (pair t a b (pos 0) (pos 0)) (dots T differences) (dots T (letters 6) ⊖ dots T (letters 3)) refl

pub dot-share : (t : Triple) (a b : Corner) (n m : ℤ) → dot t (scaled (share_point a b n m)) ≡ (m -ℤ n) *ℤ dot t (of_corner a) +ℤ n *ℤ dot t (of_corner b)
dot-share t a b n m =
    ring (pair t a b n m) (dots T (mixed (var 10 ⊖ var 9) (var 9))) (((var 10 ⊖ var 9) ⊗ dots T (letters 3)) ⊕ (var 9 ⊗ dots T (letters 6))) refl

pub dot-sum : (t : Triple) (a b : Corner) (i j : ℕ) → dot t (scaled (edge_sum a b i j)) ≡ pos i *ℤ dot t (of_corner a) +ℤ pos j *ℤ dot t (of_corner b)
dot-sum t a b i j = ring (pair t a b (pos i) (pos j)) (dots T (mixed (var 9) (var 10))) ((var 9 ⊗ dots T (letters 3)) ⊕ (var 10 ⊗ dots T (letters 6))) refl

abbrev three : Triple → Triple → Triple → List ℤ
three d s e = d.x ∷ d.y ∷ d.z ∷ s.x ∷ s.y ∷ s.z ∷ e.x ∷ e.y ∷ e.z ∷ []

-- a determinant reads the third vector along the product of the others
pub det-reads : (d s e : Triple) → det d s e ≡ dot (cross d s) e
det-reads d s e = ring (three d s e) (dots T (crosses (letters 3) (letters 6))) (dots (crosses T (letters 3)) (letters 6)) refl

pub cross-second : (d s : Triple) → dot (cross d s) s ≡ pos 0
cross-second d s = ring (three d s s) (dots (crosses T (letters 3)) (letters 3)) (con (pos 0)) refl

-- ---- past, short and behind
pub short-is : (axis : Triple) (l : Corner) (p : Point) → short_of axis l p ≡ p.w *ℤ dot axis (of_corner l) -ℤ dot axis (scaled p)
short-is axis l p = ap (λ (v : ℤ). pos 0 -ℤ v) (dot-offset axis l p) ∙ turned (dot axis (scaled p)) (p.w *ℤ dot axis (of_corner l))
  where
    turned : (a b : ℤ) → pos 0 -ℤ (a -ℤ b) ≡ b -ℤ a
    turned a b = omega (arith, ints)

-- of two ends at ak and al along the axis, hk and hl high, and a point times its w
abbrev pub behind_by : ℤ → ℤ → ℤ → ℤ → ℤ → ℤ → ℤ → ℤ
behind_by m ak al at hk hl high = ((hl -ℤ hk) *ℤ (at -ℤ m *ℤ ak)) -ℤ ((al -ℤ ak) *ℤ (high -ℤ m *ℤ hk))

pub behind-is : (d axis : Triple) (k l : Corner) (p : Point)
    → behind_of d axis k l p ≡ behind_by p.w (dot axis (of_corner k)) (dot axis (of_corner l)) (dot axis (scaled p)) (dot d (of_corner k)) (dot d (of_corner l)) (dot d (scaled p))
behind-is d axis k l p =
    let up = dot-difference d k l in
    let past = dot-offset axis k p in
    let ahead = dot-difference axis k l in
    let high = dot-offset d k p in
    λ i. (up i *ℤ past i) -ℤ (ahead i *ℤ high i)

-- ---- numbers: the ends of a side with weights i and j, and a point that the sum of the ends meets along the axis
abbrev numbers : ℤ → ℤ → ℤ → ℤ → ℤ → ℤ → List ℤ
numbers m ak al at i j = m ∷ ak ∷ al ∷ at ∷ i ∷ j ∷ []

-- the difference of the two sides of `meets`
abbrev meeting : Expr
meeting = (((var 4 ⊗ var 1) ⊕ (var 5 ⊗ var 2)) ⊗ var 0) ⊖ (var 3 ⊗ (var 4 ⊕ var 5))

-- `behind_by`, with the heights as numbers 6, 7 and 8
abbrev rises : Expr
rises = ((var 7 ⊖ var 6) ⊗ (var 3 ⊖ (var 0 ⊗ var 1))) ⊖ ((var 2 ⊖ var 1) ⊗ (var 8 ⊖ (var 0 ⊗ var 6)))

-- how much higher the sum of the ends is
abbrev gaps : Expr
gaps = (((var 4 ⊗ var 6) ⊕ (var 5 ⊗ var 7)) ⊗ var 0) ⊖ (var 8 ⊗ (var 4 ⊕ var 5))

module _ (m ak al at i j : ℤ) (positive : pos 0 <ℤ m) (some : pos 0 <ℤ (i +ℤ j)) (forward : pos 0 <ℤ (al -ℤ ak)) (meets : (i *ℤ ak +ℤ j *ℤ al) *ℤ m ≡ at *ℤ (i +ℤ j)) where
  pub past-nonneg : pos 0 ≤ℤ j → pos 0 ≤ℤ (at -ℤ m *ℤ ak)
  past-nonneg least =
      let same : (i +ℤ j) *ℤ (at -ℤ m *ℤ ak) ≡ (j *ℤ m) *ℤ (al -ℤ ak) =
      by_one _ _ ((i *ℤ ak +ℤ j *ℤ al) *ℤ m) (at *ℤ (i +ℤ j)) (negsuc 0)
      (ring (numbers m ak al at i j) (((var 4 ⊕ var 5) ⊗ (var 3 ⊖ (var 0 ⊗ var 1))) ⊖ ((var 5 ⊗ var 0) ⊗ (var 2 ⊖ var 1))) (meeting ⊗ con (negsuc 0)) refl) meets in
      nonneg_of_mul (i +ℤ j) (at -ℤ m *ℤ ak) some
      (subst (λ (v : ℤ). pos 0 ≤ℤ v) (sym same) (mul_nonneg (j *ℤ m) (al -ℤ ak) (mul_nonneg j m least (not_negative_of_positive m positive)) (not_negative_of_positive (al -ℤ ak) forward)))

  pub short-nonneg : pos 0 ≤ℤ i → pos 0 ≤ℤ (m *ℤ al -ℤ at)
  short-nonneg least =
      let same : (i +ℤ j) *ℤ (m *ℤ al -ℤ at) ≡ (i *ℤ m) *ℤ (al -ℤ ak) =
      by_one _ _ ((i *ℤ ak +ℤ j *ℤ al) *ℤ m) (at *ℤ (i +ℤ j)) (pos 1)
      (ring (numbers m ak al at i j) (((var 4 ⊕ var 5) ⊗ ((var 0 ⊗ var 2) ⊖ var 3)) ⊖ ((var 4 ⊗ var 0) ⊗ (var 2 ⊖ var 1))) (meeting ⊗ con (pos 1)) refl) meets in
      nonneg_of_mul (i +ℤ j) (m *ℤ al -ℤ at) some
      (subst (λ (v : ℤ). pos 0 ≤ℤ v) (sym same) (mul_nonneg (i *ℤ m) (al -ℤ ak) (mul_nonneg i m least (not_negative_of_positive m positive)) (not_negative_of_positive (al -ℤ ak) forward)))

  pub behind-positive : (hk hl high : ℤ) → (high *ℤ (i +ℤ j)) <ℤ ((i *ℤ hk +ℤ j *ℤ hl) *ℤ m) → pos 0 <ℤ behind_by m ak al at hk hl high
  behind-positive hk hl high nearer =
      let gap = (i *ℤ hk +ℤ j *ℤ hl) *ℤ m -ℤ high *ℤ (i +ℤ j) in
      let same : (i +ℤ j) *ℤ behind_by m ak al at hk hl high ≡ (al -ℤ ak) *ℤ gap =
      by_one _ _ ((i *ℤ ak +ℤ j *ℤ al) *ℤ m) (at *ℤ (i +ℤ j)) (pos 0 -ℤ (hl -ℤ hk))
      (ring (m ∷ ak ∷ al ∷ at ∷ i ∷ j ∷ hk ∷ hl ∷ high ∷ []) (((var 4 ⊕ var 5) ⊗ rises) ⊖ ((var 2 ⊖ var 1) ⊗ gaps)) (meeting ⊗ (con (pos 0) ⊖ (var 7 ⊖ var 6))) refl) meets in
      pos_of_mul (i +ℤ j) (behind_by m ak al at hk hl high) some
      (subst (λ (v : ℤ). pos 0 <ℤ v) (sym same) (mul_pos (al -ℤ ak) gap forward (gap_of_less (high *ℤ (i +ℤ j)) ((i *ℤ hk +ℤ j *ℤ hl) *ℤ m) nearer)))

-- the weights that make the sum meet the point: how far it is short of the second end, and how far past the first
module _ (m ak al at i j : ℤ) (is_i : i ≡ m *ℤ al -ℤ at) (is_j : j ≡ at -ℤ m *ℤ ak) where
  pub weights-sum : i +ℤ j ≡ m *ℤ (al -ℤ ak)
  weights-sum =
      by_two (i +ℤ j) (m *ℤ (al -ℤ ak)) i (m *ℤ al -ℤ at) (pos 1) j (at -ℤ m *ℤ ak) (pos 1)
      (ring (numbers m ak al at i j) ((var 4 ⊕ var 5) ⊖ (var 0 ⊗ (var 2 ⊖ var 1)))
      (((var 4 ⊖ ((var 0 ⊗ var 2) ⊖ var 3)) ⊗ con (pos 1)) ⊕ ((var 5 ⊖ (var 3 ⊖ (var 0 ⊗ var 1))) ⊗ con (pos 1))) refl) is_i is_j

  pub weights-meet : (i *ℤ ak +ℤ j *ℤ al) *ℤ m ≡ at *ℤ (i +ℤ j)
  weights-meet =
      by_two ((i *ℤ ak +ℤ j *ℤ al) *ℤ m) (at *ℤ (i +ℤ j)) i (m *ℤ al -ℤ at) (ak *ℤ m -ℤ at) j (at -ℤ m *ℤ ak) (al *ℤ m -ℤ at)
      (ring (numbers m ak al at i j) meeting
      (((var 4 ⊖ ((var 0 ⊗ var 2) ⊖ var 3)) ⊗ ((var 1 ⊗ var 0) ⊖ var 3)) ⊕ ((var 5 ⊖ (var 3 ⊖ (var 0 ⊗ var 1))) ⊗ ((var 2 ⊗ var 0) ⊖ var 3))) refl) is_i is_j

  pub weights-behind : (hk hl high : ℤ) → (i *ℤ hk +ℤ j *ℤ hl) *ℤ m -ℤ high *ℤ (i +ℤ j) ≡ m *ℤ behind_by m ak al at hk hl high
  weights-behind hk hl high =
      by_two ((i *ℤ hk +ℤ j *ℤ hl) *ℤ m -ℤ high *ℤ (i +ℤ j)) (m *ℤ behind_by m ak al at hk hl high)
      i (m *ℤ al -ℤ at) (hk *ℤ m -ℤ high) j (at -ℤ m *ℤ ak) (hl *ℤ m -ℤ high)
      (ring (m ∷ ak ∷ al ∷ at ∷ i ∷ j ∷ hk ∷ hl ∷ high ∷ []) (gaps ⊖ (var 0 ⊗ rises))
      (((var 4 ⊖ ((var 0 ⊗ var 2) ⊖ var 3)) ⊗ ((var 6 ⊗ var 0) ⊖ var 8)) ⊕ ((var 5 ⊖ (var 3 ⊖ (var 0 ⊗ var 1))) ⊗ ((var 7 ⊗ var 0) ⊖ var 8))) refl) is_i is_j

-- ends and a point that read the same meet with any weights
pub level-meet : (m gk gl g at i j : ℤ) → gk ≡ g → gl ≡ g → at ≡ m *ℤ g → (i *ℤ gk +ℤ j *ℤ gl) *ℤ m ≡ at *ℤ (i +ℤ j)
level-meet m gk gl g at i j =
    by_three ((i *ℤ gk +ℤ j *ℤ gl) *ℤ m) (at *ℤ (i +ℤ j)) gk g (i *ℤ m) gl g (j *ℤ m) at (m *ℤ g) (pos 0 -ℤ (i +ℤ j))
    (ring (m ∷ gk ∷ gl ∷ at ∷ i ∷ j ∷ g ∷ []) meeting
    ((((var 1 ⊖ var 6) ⊗ (var 4 ⊗ var 0)) ⊕ ((var 2 ⊖ var 6) ⊗ (var 5 ⊗ var 0))) ⊕ ((var 3 ⊖ (var 0 ⊗ var 6)) ⊗ (con (pos 0) ⊖ (var 4 ⊕ var 5)))) refl)

-- and an end that the point is not past
pub end-meets : (m gk at : ℤ) → at -ℤ m *ℤ gk ≡ pos 0 → gk *ℤ m ≡ at *ℤ pos 1
end-meets m gk at = by_one (gk *ℤ m) (at *ℤ pos 1) (at -ℤ m *ℤ gk) (pos 0) (negsuc 0)
    (ring (m ∷ gk ∷ at ∷ []) ((var 1 ⊗ var 0) ⊖ (var 2 ⊗ con (pos 1))) (((var 2 ⊖ (var 0 ⊗ var 1)) ⊖ con (pos 0)) ⊗ con (negsuc 0)) refl)

-- and one that reads the same as the point
pub level-end : (m gk g at : ℤ) → gk ≡ g → at ≡ m *ℤ g → gk *ℤ m ≡ at *ℤ pos 1
level-end m gk g at =
    by_two (gk *ℤ m) (at *ℤ pos 1) gk g m at (m *ℤ g) (negsuc 0)
    (ring (m ∷ gk ∷ g ∷ at ∷ []) ((var 1 ⊗ var 0) ⊖ (var 3 ⊗ con (pos 1))) (((var 1 ⊖ var 2) ⊗ var 0) ⊕ ((var 3 ⊖ (var 0 ⊗ var 2)) ⊗ con (negsuc 0))) refl)

-- ends that read the same read as the point that some sum of them meets
pub level-by-meeting : (m gk gl g i j : ℤ) → pos 0 <ℤ m → pos 0 <ℤ (i +ℤ j) → gl -ℤ gk ≡ pos 0 → (i *ℤ gk +ℤ j *ℤ gl) *ℤ m ≡ (m *ℤ g) *ℤ (i +ℤ j) → gk ≡ g
level-by-meeting m gk gl g i j positive some same meets =
    same_of_gap gk g (zero_of_mul (m *ℤ (i +ℤ j)) (gk -ℤ g) (mul_pos m (i +ℤ j) positive some)
    (by_two ((m *ℤ (i +ℤ j)) *ℤ (gk -ℤ g)) (pos 0) ((i *ℤ gk +ℤ j *ℤ gl) *ℤ m) ((m *ℤ g) *ℤ (i +ℤ j)) (pos 1) (gl -ℤ gk) (pos 0) (pos 0 -ℤ j *ℤ m)
    (ring (m ∷ gk ∷ gl ∷ g ∷ i ∷ j ∷ []) (((var 0 ⊗ (var 4 ⊕ var 5)) ⊗ (var 1 ⊖ var 3)) ⊖ con (pos 0))
    ((((((var 4 ⊗ var 1) ⊕ (var 5 ⊗ var 2)) ⊗ var 0) ⊖ ((var 0 ⊗ var 3) ⊗ (var 4 ⊕ var 5))) ⊗ con (pos 1)) ⊕ (((var 2 ⊖ var 1) ⊖ con (pos 0)) ⊗ (con (pos 0) ⊖ (var 5 ⊗ var 0)))) refl) meets same))

-- ---- the behind at the ends of the side
none-at-first : (ak al hk hl : ℤ) → behind_by (pos 1) ak al ak hk hl hk ≡ pos 0
none-at-first ak al hk hl =
    ring (ak ∷ al ∷ hk ∷ hl ∷ []) (((var 3 ⊖ var 2) ⊗ (var 0 ⊖ (con (pos 1) ⊗ var 0))) ⊖ ((var 1 ⊖ var 0) ⊗ (var 2 ⊖ (con (pos 1) ⊗ var 2)))) (con (pos 0)) refl

none-at-second : (ak al hk hl : ℤ) → behind_by (pos 1) ak al al hk hl hl ≡ pos 0
none-at-second ak al hk hl =
    ring (ak ∷ al ∷ hk ∷ hl ∷ []) (((var 3 ⊖ var 2) ⊗ (var 1 ⊖ (con (pos 1) ⊗ var 0))) ⊖ ((var 1 ⊖ var 0) ⊗ (var 3 ⊖ (con (pos 1) ⊗ var 2)))) (con (pos 0)) refl

pub behind-at-first : (d axis : Triple) (k l : Corner) → behind_of d axis k l (point_of k) ≡ pos 0
behind-at-first d axis k l = behind-is d axis k l (point_of k) ∙ none-at-first (dot axis (of_corner k)) (dot axis (of_corner l)) (dot d (of_corner k)) (dot d (of_corner l))

pub behind-at-second : (d axis : Triple) (k l : Corner) → behind_of d axis k l (point_of l) ≡ pos 0
behind-at-second d axis k l = behind-is d axis k l (point_of l) ∙ none-at-second (dot axis (of_corner k)) (dot axis (of_corner l)) (dot d (of_corner k)) (dot d (of_corner l))

-- ---- what is linear, is 0 at one end of an edge and not the same at the other, is 0 at that end alone
pub only-at-start : (f g n m : ℤ) → f ≢ g → f ≡ pos 0 → value_at f g n m ≡ pos 0 → pos 0 ≤ℤ n → n ≡ pos 0
only-at-start f g n m differ none here least =
    let rest : n *ℤ g ≡ pos 0 =
    by_two (n *ℤ g) (pos 0) (value_at f g n m) (pos 0) (pos 1) f (pos 0) (pos 0 -ℤ (m -ℤ n))
    (ring (f ∷ g ∷ n ∷ m ∷ []) ((var 2 ⊗ var 1) ⊖ con (pos 0))
    ((((((var 3 ⊖ var 2) ⊗ var 0) ⊕ (var 2 ⊗ var 1)) ⊖ con (pos 0)) ⊗ con (pos 1)) ⊕ ((var 0 ⊖ con (pos 0)) ⊗ (con (pos 0) ⊖ (var 3 ⊖ var 2)))) refl) here none in
    by_lt_z (pos 0) n (λ positive. absurd (differ (none ∙ sym (zero_of_mul n g positive rest)))) (λ most. zero_between n least most)

pub only-at-finish : (f g n m : ℤ) → f ≢ g → g ≡ pos 0 → value_at f g n m ≡ pos 0 → n ≤ℤ m → n ≡ m
only-at-finish f g n m differ none here most =
    let rest : (m -ℤ n) *ℤ f ≡ pos 0 =
    by_two ((m -ℤ n) *ℤ f) (pos 0) (value_at f g n m) (pos 0) (pos 1) g (pos 0) (pos 0 -ℤ n)
    (ring (f ∷ g ∷ n ∷ m ∷ []) (((var 3 ⊖ var 2) ⊗ var 0) ⊖ con (pos 0))
    ((((((var 3 ⊖ var 2) ⊗ var 0) ⊕ (var 2 ⊗ var 1)) ⊖ con (pos 0)) ⊗ con (pos 1)) ⊕ ((var 1 ⊖ con (pos 0)) ⊗ (con (pos 0) ⊖ var 2))) refl) here none in
    by_lt_z n m (λ short. absurd (differ (zero_of_mul (m -ℤ n) f (gap_of_less n m short) rest ∙ sym none))) (λ least. same_of_both n m most least)
