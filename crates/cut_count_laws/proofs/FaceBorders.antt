-- A face has one border or none, by its corners alone; so it is decided how that changes a mark, and whether it crosses between two places.
use Rattle.std.proofs.Common.{◌≡◌, ◌⊎◌, inl, inr, ℕ, zero, suc, ◌<◌, ◌≤◌, length, refl, sym, ap, subst, ◌∙◌, arith}
use Rattle.std.specs.Prelude.{ℤ, pos}
use Rattle.std.proofs.lemmas.Bool.{cases_lt}
use Rattle.std.proofs.lemmas.Option.{slice_get_within}
use Rattle.lattice.specs.declared.points.Corner.{Corner}
use Rattle.lattice.specs.declared.soup.Tri.{Tri}
use Rattle.lattice.specs.Points.{Point, point_of}
use Rattle.lattice.specs.Cuts.{Plane, toward_of, IsBeyond, IsBeforePlane}
use Rattle.geometry.specs.Cuts.{start_corner, end_corner, GoesBeyond, crossing_of, IsBorderOf, IsCrossed}
use Rattle.geometry.specs.Parts.{Part, Face, Edge}
use Rattle.geometry.proofs.Borders.{side_of_corner, not_both_sides, border_of_crossed, crossed_of_border}
use Rattle.geometry.proofs.Listed.{same_element}
use Rattle.hiding_laws.proofs.Decisions.{less_or, either_or}
use Rattle.geometry.specs.Counts.{Side}
use Rattle.hiding_laws.specs.inner.Tallies.{IsTally}
use Rattle.hiding_laws.proofs.MeshCounts.{face_of, tally, tally_is, three_or}
use Rattle.hiding_laws.proofs.Shares.{Crosses}
use Rattle.cut_count_laws.specs.CutEnds.{mark_change}
use Rattle.cut_count_laws.proofs.Laws.{HasCornersInRange}
use Rattle.cut_count_laws.proofs.Rests.{HasBorderChange, BorderCrosses, corner_with, first_with, second_with}
use Rattle.cut_count_laws.proofs.Rests.HasBorderChange.{along, none}

-- ---- one border
module _ (c : Plane) where
  -- two sides that go beyond the plane start at one corner: the one ends where the other would start
  clash : (x : Corner) → IsBeyond c (point_of x) → IsBeforePlane c (point_of x) → ⊥
  clash x h g = not_both_sides c (point_of x) h g

  module _ {s : Part} (f : Face s) where
    first_one : (i j : ℕ) → i < 3 → j < 3 → GoesBeyond c (start_corner f i) (end_corner f i) → GoesBeyond c (start_corner f j) (end_corner f j)
        → crossing_of c (start_corner f i) (end_corner f i) ≡ crossing_of c (start_corner f j) (end_corner f j)
    first_one zero zero l m g h = refl
    first_one zero (suc zero) l m g h = absurd (clash f.b g.1 h.0)
    first_one zero (suc (suc j)) l m g h = absurd (clash f.a h.1 g.0)
    first_one (suc zero) zero l m g h = absurd (clash f.b h.1 g.0)
    first_one (suc zero) (suc zero) l m g h = refl
    first_one (suc zero) (suc (suc j)) l m g h = absurd (clash f.c g.1 h.0)
    first_one (suc (suc i)) zero l m g h = absurd (clash f.a g.1 h.0)
    first_one (suc (suc i)) (suc zero) l m g h = absurd (clash f.c h.1 g.0)
    first_one (suc (suc i)) (suc (suc j)) l m g h = refl

    second_one : (i j : ℕ) → i < 3 → j < 3 → GoesBeyond c (end_corner f i) (start_corner f i) → GoesBeyond c (end_corner f j) (start_corner f j)
        → crossing_of c (end_corner f i) (start_corner f i) ≡ crossing_of c (end_corner f j) (start_corner f j)
    second_one zero zero l m g h = refl
    second_one zero (suc zero) l m g h = absurd (clash f.b h.1 g.0)
    second_one zero (suc (suc j)) l m g h = absurd (clash f.a g.1 h.0)
    second_one (suc zero) zero l m g h = absurd (clash f.b g.1 h.0)
    second_one (suc zero) (suc zero) l m g h = refl
    second_one (suc zero) (suc (suc j)) l m g h = absurd (clash f.c h.1 g.0)
    second_one (suc (suc i)) zero l m g h = absurd (clash f.a h.1 g.0)
    second_one (suc (suc i)) (suc zero) l m g h = absurd (clash f.c g.1 h.0)
    second_one (suc (suc i)) (suc (suc j)) l m g h = refl

    pub one_first : (p q p' q' : Point) → IsBorderOf c f p q → IsBorderOf c f p' q' → p ≡ p'
    one_first p q p' q' h g = h.from ∙ first_one h.first g.first h.first_side g.first_side h.goes g.goes ∙ sym g.from

    pub one_second : (p q p' q' : Point) → IsBorderOf c f p q → IsBorderOf c f p' q' → q ≡ q'
    one_second p q p' q' h g = h.to ∙ second_one h.second g.second h.second_side g.second_side h.returns g.returns ∙ sym g.to

    -- it changes a mark by one number
    pub one_change : (k : Side) (e : Edge s) {x y : ℤ} → HasBorderChange k c e f x → HasBorderChange k c e f y → x ≡ y
    one_change k e (along p q h) (along p' q' g) = λ t. mark_change k (toward_of c) e.a e.b (one_first p q p' q' h g t) (one_second p q p' q' h g t)
    one_change k e (along p q h) (none g) = absurd (g (crossed_of_border c f p q h))
    one_change k e (none h) (along p q g) = absurd (h (crossed_of_border c f p q g))
    one_change k e (none h) (none g) = refl

    pub no_change : (k : Side) (e : Edge s) {x : ℤ} → HasBorderChange k c e f x → ¬ IsCrossed c f → x ≡ pos 0
    no_change k e x h = one_change k e x (none h)

    -- ---- decided
    before_or : (x : Corner) → IsBeforePlane c (point_of x) ⊎ ¬ IsBeforePlane c (point_of x)
    before_or x = by (side_of_corner c x)
      where
        by : IsBeyond c (point_of x) ⊎ IsBeforePlane c (point_of x) → IsBeforePlane c (point_of x) ⊎ ¬ IsBeforePlane c (point_of x)
        by (inl h) = inr (clash x h)
        by (inr h) = inl h

    beyond_or : (x : Corner) → IsBeyond c (point_of x) ⊎ ¬ IsBeyond c (point_of x)
    beyond_or x = by (side_of_corner c x)
      where
        by : IsBeyond c (point_of x) ⊎ IsBeforePlane c (point_of x) → IsBeyond c (point_of x) ⊎ ¬ IsBeyond c (point_of x)
        by (inl h) = inl h
        by (inr h) = inr (λ g. clash x g h)

    abbrev Before : Type 0
    Before = IsBeforePlane c (point_of f.a) ⊎ IsBeforePlane c (point_of f.b) ⊎ IsBeforePlane c (point_of f.c)

    abbrev Beyond : Type 0
    Beyond = IsBeyond c (point_of f.a) ⊎ IsBeyond c (point_of f.b) ⊎ IsBeyond c (point_of f.c)

    pub crossed_or : IsCrossed c f ⊎ ¬ IsCrossed c f
    crossed_or =
        by (either_or _ _ (before_or f.a) (either_or _ _ (before_or f.b) (before_or f.c))) (either_or _ _ (beyond_or f.a) (either_or _ _ (beyond_or f.b) (beyond_or f.c)))
      where
        by : Before ⊎ ¬ Before → Beyond ⊎ ¬ Beyond → IsCrossed c f ⊎ ¬ IsCrossed c f
        by (inl h) (inl g) = inl (record { before = h; beyond = g })
        by (inl h) (inr n) = inr (λ x. n x.beyond)
        by (inr n) g = inr (λ x. n x.before)

    pub some_change : (k : Side) (e : Edge s) → (x : ℤ) × HasBorderChange k c e f x
    some_change k e = by crossed_or
      where
        by : IsCrossed c f ⊎ ¬ IsCrossed c f → (x : ℤ) × HasBorderChange k c e f x
        by (inl h) = let r = border_of_crossed c f h in (mark_change k (toward_of c) e.a e.b r.0 r.1, along r.0 r.1 r.2)
        by (inr h) = (pos 0, none h)

    abbrev BorderHere : Edge s → ℤ → ℤ → ℤ → ℤ → Point → Point → Type 0
    BorderHere e n m n' m' p q = Crosses (corner_with c p q e.a) (corner_with c p q e.b) (first_with c p q) (second_with c p q) n m n' m'

    border_crosses_or : (e : Edge s) (n m n' m' : ℤ) → BorderCrosses c e f n m n' m' ⊎ ¬ BorderCrosses c e f n m n' m'
    border_crosses_or e n m n' m' = by crossed_or
      where
        at : (p q : Point) → IsBorderOf c f p q → BorderHere e n m n' m' p q ⊎ ¬ BorderHere e n m n' m' p q → BorderCrosses c e f n m n' m' ⊎ ¬ BorderCrosses c e f n m n' m'
        at p q h (inl x) = inl (record { p = p; q = q; border = h; crosses = x })
        at p q h (inr f) = inr (λ x. f (subst (λ r. BorderHere e n m n' m' r q) (one_first x.p x.q p q x.border h) (subst (λ r. BorderHere e n m n' m' x.p r) (one_second x.p x.q p q x.border h) x.crosses)))

        by : IsCrossed c f ⊎ ¬ IsCrossed c f → BorderCrosses c e f n m n' m' ⊎ ¬ BorderCrosses c e f n m n' m'
        by (inl h) =
            let r = border_of_crossed c f h in
            at r.0 r.1 r.2 (three_or (λ a b g. record { after = a; before = b; nearer = g }) (λ x. x.after) (λ x. x.before) (λ x. x.nearer) (less_or _ _) (less_or _ _) (less_or _ _))
        by (inr g) = inr (λ x. g (crossed_of_border c f x.p x.q x.border))

    pub some_crossing : (e : Edge s) (n m n' m' : ℤ) → (x : ℤ) × IsTally (BorderCrosses c e f n m n' m') x
    some_crossing e n m n' m' = (tally (border_crosses_or e n m n' m'), tally_is (border_crosses_or e n m n' m'))

-- ---- by the corners alone
module _ (c : Plane) {s : Part} (f g : Face s) (a : g.a ≡ f.a) (b : g.b ≡ f.b) (l : g.c ≡ f.c) where
  same_start : (side : ℕ) → start_corner g side ≡ start_corner f side
  same_start zero = a
  same_start (suc zero) = b
  same_start (suc (suc side)) = l

  same_end : (side : ℕ) → end_corner g side ≡ end_corner f side
  same_end zero = b
  same_end (suc zero) = l
  same_end (suc (suc side)) = a

  goes_at : (i j i' j' : Corner) → i ≡ i' → j ≡ j' → GoesBeyond c i j → GoesBeyond c i' j'
  goes_at i j i' j' p q h = subst (λ (x : Corner). GoesBeyond c x j') p (subst (λ (x : Corner). GoesBeyond c i x) q h)

  pub border_at : (p q : Point) → IsBorderOf c g p q → IsBorderOf c f p q
  border_at p q h = record {
    first = h.first;
    second = h.second;
    first_side = h.first_side;
    second_side = h.second_side;
    goes = goes_at _ _ _ _ (same_start h.first) (same_end h.first) h.goes;
    returns = goes_at _ _ _ _ (same_end h.second) (same_start h.second) h.returns;
    from = h.from ∙ (λ t. crossing_of c (same_start h.first t) (same_end h.first t));
    to = h.to ∙ (λ t. crossing_of c (same_end h.second t) (same_start h.second t));
  }

  crossed_at : IsCrossed c f → IsCrossed c g
  crossed_at h = record { before = three (λ (x : Corner). IsBeforePlane c (point_of x)) h.before; beyond = three (λ (x : Corner). IsBeyond c (point_of x)) h.beyond }
    where
      three : (P : Corner → Type 0) → P f.a ⊎ P f.b ⊎ P f.c → P g.a ⊎ P g.b ⊎ P g.c
      three P (inl h) = inl (subst P (sym a) h)
      three P (inr (inl h)) = inr (inl (subst P (sym b) h))
      three P (inr (inr h)) = inr (inr (subst P (sym l) h))

  pub change_at : (k : Side) (e : Edge s) {x : ℤ} → HasBorderChange k c e g x → HasBorderChange k c e f x
  change_at k e (along p q h) = along p q (border_at p q h)
  change_at k e (none h) = none (λ x. h (crossed_at x))

  pub crosses_at : (e : Edge s) (n m n' m' : ℤ) → BorderCrosses c e g n m n' m' → BorderCrosses c e f n m n' m'
  crosses_at e n m n' m' x = record { p = x.p; q = x.q; border = border_at x.p x.q x.border; crosses = x.crosses }

-- ---- numbers by the faces' numbers
module _ {s : Part} (in_range : HasCornersInRange s) (X : Face s → ℤ → Type 0)
    (move : (f g : Face s) → g.a ≡ f.a → g.b ≡ f.b → g.c ≡ f.c → (x : ℤ) → X g x → X f x) (some : (f : Face s) → (x : ℤ) × X f x) where
  number_by : (t : ℕ) → (t < length s.triangles) ⊎ (length s.triangles ≤ t) → ℤ
  number_by t (inl l) = (some (face_of s in_range t l)).0
  number_by t (inr l) = pos 0

  pub number_of : ℕ → ℤ
  number_of t = number_by t (cases_lt t (length s.triangles))

  pub number_is : (f : Face s) → X f (number_of f.number)
  unfolding number_of number_by
  number_is f = by (cases_lt f.number (length s.triangles))
    where
      by : (w : (f.number < length s.triangles) ⊎ (length s.triangles ≤ f.number)) → X f (number_by f.number w)
      by (inl l) =
          let g = face_of s in_range f.number l in
          let same : g.tri ≡ f.tri = same_element s.triangles f.number f.number g.tri f.tri refl g.listed f.listed in
          move f g (same_element s.corners g.tri.a f.tri.a g.a f.a (ap (λ (t : Tri). t.a) same) g.at_a f.at_a)
          (same_element s.corners g.tri.b f.tri.b g.b f.b (ap (λ (t : Tri). t.b) same) g.at_b f.at_b)
          (same_element s.corners g.tri.c f.tri.c g.c f.c (ap (λ (t : Tri). t.c) same) g.at_c f.at_c) (some g).0 (some g).1
      by (inr h) = absurd (past (slice_get_within s.triangles f.number f.tri f.listed) h)
        where
          past : {m n : ℕ} → m < n → n ≤ m → ⊥
          past h g = omega arith
