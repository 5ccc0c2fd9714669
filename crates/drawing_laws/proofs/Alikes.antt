-- Pieces that are drawn alike lie on the same points and stand in the same order: a list that is drawn alike is right where the other is.
use Rattle.std.proofs.Common.{◌≡◌, ◌↔◌, inl, inr, ℕ, ◌+◌, ◌*◌, ◌<◌, List, [], ◌∷◌, length, get_or, refl, sym, ap, subst, ◌∙◌, unsigned_abs, arith}
use Rattle.std.specs.Prelude.{ℤ, pos, ◌+ℤ◌, ◌-ℤ◌, ◌*ℤ◌, ◌<ℤ◌}
use Rattle.std.specs.List.{AllZip}
use Rattle.std.proofs.lemmas.List.Elements.{length_all_zip, AllZip-get_or}
use Rattle.integers.proofs.Absolutes.{abs_of_positive, some_abs_of_positive, pos-product, pos-sum_of_products, natural_of_positive, natural_positive}
use Rattle.integers.proofs.Comparisons.{gap_of_same}
use Rattle.integers.proofs.Ring.{var, con, ◌⊕◌, ◌⊖◌, ◌⊗◌, ring, by_two, same_of_gap}
use Rattle.integers.proofs.Signs.{mul_pos, zero_of_mul}
use Rattle.integers.proofs.Weighted.{sum_pos}
use Rattle.lattice.specs.declared.pieces.Piece.{Piece}
use Rattle.lattice.specs.declared.pieces.Style.{Style}
use Rattle.lattice.specs.declared.points.Spot.{Spot}
use Rattle.lattice.specs.Triple.{Triple, dot, right_axis, up_axis}
use Rattle.lattice.specs.Points.{Point, of_spot, scaled, across_of, upward_of, OnOneSight}
use Rattle.lattice.proofs.OnLines.{product_of_sum}
use Rattle.geometry.specs.Pieces.{spot_sum, LiesBetween, LiesOn, LiesOnStyle, ArePiecesParallel, ShareAnEnd, AreProper, LieOnOnce, AreWhole, IsBefore, rank_of, PieceStandsBefore, AreInOrder}
use Rattle.geometry.specs.Scenes.{AreRightIn}
use Rattle.geometry.proofs.OnLines.{sum_is_point}
use Rattle.geometry.proofs.Sights.{sight_on, sight_back}
use Rattle.line_merge.proofs.Sights.{before_seen, seen_before}
use Rattle.line_merge.proofs.Zips.{zip_left}
use Rattle.drawing_laws.specs.Alike.{AreAlike}

-- ---- sums of spots on the same lines of sight
-- weights that keep the sum's value
same_sum : (i j a b s t x y u v m n : ℤ) → x *ℤ s ≡ u *ℤ a → y *ℤ t ≡ v *ℤ b → m ≡ i *ℤ (a *ℤ t) → n ≡ j *ℤ (b *ℤ s)
    → ((m *ℤ u) +ℤ (n *ℤ v)) *ℤ ((i *ℤ a) +ℤ (j *ℤ b)) ≡ ((i *ℤ x) +ℤ (j *ℤ y)) *ℤ ((m *ℤ s) +ℤ (n *ℤ t))
same_sum i j a b s t x y u v m n first second m_is n_is =
    (λ k. ((m_is k *ℤ u) +ℤ (n_is k *ℤ v)) *ℤ ((i *ℤ a) +ℤ (j *ℤ b)))
    ∙ by_two (((((i *ℤ (a *ℤ t)) *ℤ u) +ℤ ((j *ℤ (b *ℤ s)) *ℤ v))) *ℤ ((i *ℤ a) +ℤ (j *ℤ b))) (((i *ℤ x) +ℤ (j *ℤ y)) *ℤ (((i *ℤ (a *ℤ t)) *ℤ s) +ℤ ((j *ℤ (b *ℤ s)) *ℤ t)))
    (u *ℤ a) (x *ℤ s) (((i *ℤ a) +ℤ (j *ℤ b)) *ℤ (i *ℤ t)) (v *ℤ b) (y *ℤ t) (((i *ℤ a) +ℤ (j *ℤ b)) *ℤ (j *ℤ s))
    (ring (i ∷ j ∷ a ∷ b ∷ s ∷ t ∷ x ∷ y ∷ u ∷ v ∷ [])
    (((((var 0 ⊗ (var 2 ⊗ var 5)) ⊗ var 8) ⊕ ((var 1 ⊗ (var 3 ⊗ var 4)) ⊗ var 9)) ⊗ ((var 0 ⊗ var 2) ⊕ (var 1 ⊗ var 3)))
    ⊖ (((var 0 ⊗ var 6) ⊕ (var 1 ⊗ var 7)) ⊗ (((var 0 ⊗ (var 2 ⊗ var 5)) ⊗ var 4) ⊕ ((var 1 ⊗ (var 3 ⊗ var 4)) ⊗ var 5))))
    ((((var 8 ⊗ var 2) ⊖ (var 6 ⊗ var 4)) ⊗ (((var 0 ⊗ var 2) ⊕ (var 1 ⊗ var 3)) ⊗ (var 0 ⊗ var 5)))
    ⊕ (((var 9 ⊗ var 3) ⊖ (var 7 ⊗ var 5)) ⊗ (((var 0 ⊗ var 2) ⊕ (var 1 ⊗ var 3)) ⊗ (var 1 ⊗ var 4)))) refl) (sym first) (sym second)
    ∙ (λ k. ((i *ℤ x) +ℤ (j *ℤ y)) *ℤ ((sym m_is k *ℤ s) +ℤ (sym n_is k *ℤ t)))

some_products : (i j m n : ℕ) → 0 < i + j → 0 < m → 0 < n → 0 < i * m + j * n
some_products i j m n some h k =
    natural_of_positive (i * m + j * n) ((pos i *ℤ pos m) +ℤ (pos j *ℤ pos n)) (pos-sum_of_products i m j n)
    (sum_pos (pos m) (pos n) i j (natural_positive m h) (natural_positive n k) some)

-- the weights of two products
abbrev weight : ℕ → ℤ → ℕ
weight i z = i * unsigned_abs z

weight_is : (i : ℕ) (z : ℤ) → pos 0 <ℤ z → pos (weight i z) ≡ pos i *ℤ z
weight_is i z h = pos-product i (unsigned_abs z) ∙ ap (λ (y : ℤ). pos i *ℤ y) (abs_of_positive z h)

module _ (d : Triple) (a b s t : Spot) (first : OnOneSight d (of_spot a) (of_spot s)) (second : OnOneSight d (of_spot b) (of_spot t)) where
  -- what lies between two spots lies between two others on their lines of sight
  pub between_alike : (p : Point) → LiesBetween d a b p → LiesBetween d s t p
  between_alike p (i, j, some, seen) =
      (m, n, some', sight_on d (spot_sum s t m n) (spot_sum a b i j) p (sum_is_point a b i j some) (record { across = along (right_axis d) first.across second.across; upward = along (up_axis d) first.upward second.upward }) seen)
    where
      m : ℕ
      m = weight i (a.w *ℤ t.w)

      n : ℕ
      n = weight j (b.w *ℤ s.w)

      first_positive : pos 0 <ℤ (a.w *ℤ t.w)
      first_positive = mul_pos a.w t.w a.positive t.positive

      second_positive : pos 0 <ℤ (b.w *ℤ s.w)
      second_positive = mul_pos b.w s.w b.positive s.positive

      some' : 0 < m + n
      some' = some_products i j (unsigned_abs (a.w *ℤ t.w)) (unsigned_abs (b.w *ℤ s.w)) some (some_abs_of_positive (a.w *ℤ t.w) first_positive) (some_abs_of_positive (b.w *ℤ s.w) second_positive)

      along : (r : Triple) → dot r (scaled (of_spot a)) *ℤ s.w ≡ dot r (scaled (of_spot s)) *ℤ a.w → dot r (scaled (of_spot b)) *ℤ t.w ≡ dot r (scaled (of_spot t)) *ℤ b.w
          → dot r (scaled (spot_sum s t m n)) *ℤ (spot_sum a b i j).w ≡ dot r (scaled (spot_sum a b i j)) *ℤ (spot_sum s t m n).w
      along r e f =
          ap (λ (z : ℤ). z *ℤ (spot_sum a b i j).w) (product_of_sum r (pos m) (pos n) (of_spot s) (of_spot t))
          ∙ same_sum (pos i) (pos j) a.w b.w s.w t.w (dot r (scaled (of_spot a))) (dot r (scaled (of_spot b))) (dot r (scaled (of_spot s))) (dot r (scaled (of_spot t))) (pos m) (pos n) e f
          (weight_is i (a.w *ℤ t.w) first_positive) (weight_is j (b.w *ℤ s.w) second_positive)
          ∙ ap (λ (z : ℤ). z *ℤ (spot_sum s t m n).w) (sym (product_of_sum r (pos i) (pos j) (of_spot a) (of_spot b)))

-- ---- two pieces
-- a step from an end to the other, for two spots on their lines of sight
same_step : (x y u v a b s t : ℤ) → x *ℤ s ≡ u *ℤ a → y *ℤ t ≡ v *ℤ b → ((y *ℤ a) -ℤ (x *ℤ b)) *ℤ (s *ℤ t) ≡ ((v *ℤ s) -ℤ (u *ℤ t)) *ℤ (a *ℤ b)
same_step x y u v a b s t e f =
    by_two (((y *ℤ a) -ℤ (x *ℤ b)) *ℤ (s *ℤ t)) (((v *ℤ s) -ℤ (u *ℤ t)) *ℤ (a *ℤ b)) (y *ℤ t) (v *ℤ b) (a *ℤ s) (x *ℤ s) (u *ℤ a) (pos 0 -ℤ (b *ℤ t))
    (ring (x ∷ y ∷ u ∷ v ∷ a ∷ b ∷ s ∷ t ∷ [])
    ((((var 1 ⊗ var 4) ⊖ (var 0 ⊗ var 5)) ⊗ (var 6 ⊗ var 7)) ⊖ (((var 3 ⊗ var 6) ⊖ (var 2 ⊗ var 7)) ⊗ (var 4 ⊗ var 5)))
    ((((var 1 ⊗ var 7) ⊖ (var 3 ⊗ var 5)) ⊗ (var 4 ⊗ var 6)) ⊕ (((var 0 ⊗ var 6) ⊖ (var 2 ⊗ var 4)) ⊗ (con (pos 0) ⊖ (var 5 ⊗ var 7)))) refl) f e

-- two steps are parallel where two others in the same ways are
same_cross : (u v u' v' k l x y x' y' m n : ℤ) → pos 0 <ℤ k → pos 0 <ℤ m → u *ℤ k ≡ u' *ℤ l → v *ℤ k ≡ v' *ℤ l → x *ℤ m ≡ x' *ℤ n → y *ℤ m ≡ y' *ℤ n
    → u' *ℤ y' ≡ v' *ℤ x' → u *ℤ y ≡ v *ℤ x
same_cross u v u' v' k l x y x' y' m n hk hm eu ev ex ey parallel =
    same_of_gap (u *ℤ y) (v *ℤ x) (zero_of_mul (k *ℤ m) ((u *ℤ y) -ℤ (v *ℤ x)) (mul_pos k m hk hm) (grouped ∙ products ∙ ap (λ (z : ℤ). z *ℤ (l *ℤ n)) (gap_of_same (u' *ℤ y') (v' *ℤ x') parallel) ∙ ring (l ∷ n ∷ []) (con (pos 0) ⊗ (var 0 ⊗ var 1)) (con (pos 0)) refl))
  where
    grouped : (k *ℤ m) *ℤ ((u *ℤ y) -ℤ (v *ℤ x)) ≡ ((u *ℤ k) *ℤ (y *ℤ m)) -ℤ ((v *ℤ k) *ℤ (x *ℤ m))
    grouped = ring (u ∷ v ∷ k ∷ x ∷ y ∷ m ∷ []) ((var 2 ⊗ var 5) ⊗ ((var 0 ⊗ var 4) ⊖ (var 1 ⊗ var 3))) (((var 0 ⊗ var 2) ⊗ (var 4 ⊗ var 5)) ⊖ ((var 1 ⊗ var 2) ⊗ (var 3 ⊗ var 5))) refl

    products : ((u *ℤ k) *ℤ (y *ℤ m)) -ℤ ((v *ℤ k) *ℤ (x *ℤ m)) ≡ ((u' *ℤ y') -ℤ (v' *ℤ x')) *ℤ (l *ℤ n)
    products =
        (λ i. (eu i *ℤ ey i) -ℤ (ev i *ℤ ex i))
        ∙ ring (u' ∷ v' ∷ x' ∷ y' ∷ l ∷ n ∷ []) (((var 0 ⊗ var 4) ⊗ (var 3 ⊗ var 5)) ⊖ ((var 1 ⊗ var 4) ⊗ (var 2 ⊗ var 5))) (((var 0 ⊗ var 3) ⊖ (var 1 ⊗ var 2)) ⊗ (var 4 ⊗ var 5)) refl

module _ (d : Triple) where
  pub alike_back : (l m : Piece) → AreAlike d l m → AreAlike d m l
  alike_back l m h = record { style = sym h.style; a = sight_back d (of_spot l.a) (of_spot m.a) h.a; b = sight_back d (of_spot l.b) (of_spot m.b) h.b }

  pub alike_on : (l m n : Piece) → AreAlike d l m → AreAlike d m n → AreAlike d l n
  alike_on l m n h k = record {
    style = h.style ∙ k.style;
    a = sight_on d (of_spot l.a) (of_spot m.a) (of_spot n.a) m.a.positive h.a k.a;
    b = sight_on d (of_spot l.b) (of_spot m.b) (of_spot n.b) m.b.positive h.b k.b;
  }

  pub lies_alike : (l m : Piece) → AreAlike d l m → (p : Point) → LiesOn d l p → LiesOn d m p
  lies_alike l m h = between_alike d l.a l.b m.a m.b h.a h.b

  -- of two pairs of pieces that are drawn alike
  module _ (l l' m m' : Piece) (h : AreAlike d l l') (k : AreAlike d m m') where
    parallel_alike : ArePiecesParallel d l m → ArePiecesParallel d l' m'
    parallel_alike =
        same_cross _ _ _ _ (l.a.w *ℤ l.b.w) (l'.a.w *ℤ l'.b.w) _ _ _ _ (m.a.w *ℤ m.b.w) (m'.a.w *ℤ m'.b.w)
        (mul_pos l.a.w l.b.w l.a.positive l.b.positive) (mul_pos m.a.w m.b.w m.a.positive m.b.positive)
        (step l l' h (across_of d (of_spot l.a)) (across_of d (of_spot l.b)) (across_of d (of_spot l'.a)) (across_of d (of_spot l'.b)) h.a.across h.b.across)
        (step l l' h (upward_of d (of_spot l.a)) (upward_of d (of_spot l.b)) (upward_of d (of_spot l'.a)) (upward_of d (of_spot l'.b)) h.a.upward h.b.upward)
        (step m m' k (across_of d (of_spot m.a)) (across_of d (of_spot m.b)) (across_of d (of_spot m'.a)) (across_of d (of_spot m'.b)) k.a.across k.b.across)
        (step m m' k (upward_of d (of_spot m.a)) (upward_of d (of_spot m.b)) (upward_of d (of_spot m'.a)) (upward_of d (of_spot m'.b)) k.a.upward k.b.upward)
      where
        step : (l l' : Piece) → AreAlike d l l' → (x y u v : ℤ) → x *ℤ l'.a.w ≡ u *ℤ l.a.w → y *ℤ l'.b.w ≡ v *ℤ l.b.w
            → ((v *ℤ l'.a.w) -ℤ (u *ℤ l'.b.w)) *ℤ (l.a.w *ℤ l.b.w) ≡ ((y *ℤ l.a.w) -ℤ (x *ℤ l.b.w)) *ℤ (l'.a.w *ℤ l'.b.w)
        step l l' h x y u v e f = sym (same_step x y u v l.a.w l.b.w l'.a.w l'.b.w e f)

    meet : (p q p' q' : Spot) → OnOneSight d (of_spot p) (of_spot p') → OnOneSight d (of_spot q) (of_spot q') → OnOneSight d (of_spot p) (of_spot q) → OnOneSight d (of_spot p') (of_spot q')
    meet p q p' q' e f g =
        sight_on d (of_spot p') (of_spot p) (of_spot q') p.positive (sight_back d (of_spot p) (of_spot p') e) (sight_on d (of_spot p) (of_spot q) (of_spot q') q.positive g f)

    share_alike : ShareAnEnd d l m → ShareAnEnd d l' m'
    share_alike (inl e) = inl (meet l.a m.a l'.a m'.a h.a k.a e)
    share_alike (inr (inl e)) = inr (inl (meet l.a m.b l'.a m'.b h.a k.b e))
    share_alike (inr (inr (inl e))) = inr (inr (inl (meet l.b m.a l'.b m'.a h.b k.a e)))
    share_alike (inr (inr (inr e))) = inr (inr (inr (meet l.b m.b l'.b m'.b h.b k.b e)))

    before_alike : (p q p' q' : Spot) → OnOneSight d (of_spot p) (of_spot p') → OnOneSight d (of_spot q) (of_spot q') → IsBefore d (of_spot p) (of_spot q) → IsBefore d (of_spot p') (of_spot q')
    before_alike p q p' q' e f g =
        seen_before d (of_spot p') (of_spot p) (of_spot q') p'.positive p.positive q'.positive (sight_back d (of_spot p) (of_spot p') e)
        (before_seen d (of_spot p) (of_spot q) (of_spot q') p.positive q.positive q'.positive g f)

    pub stands_alike : PieceStandsBefore d l m → PieceStandsBefore d l' m'
    stands_alike (inl less) = inl (subst (λ (n : ℕ). n < rank_of m'.style) (ap rank_of h.style) (subst (λ (n : ℕ). rank_of l.style < n) (ap rank_of k.style) less))
    stands_alike (inr (same, inl e)) = inr (sym h.style ∙ same ∙ k.style, inl (before_alike l.a m.a l'.a m'.a h.a k.a e))
    stands_alike (inr (same, inr (e, f))) = inr (sym h.style ∙ same ∙ k.style, inr (meet l.a m.a l'.a m'.a h.a k.a e, before_alike l.b m.b l'.b m'.b h.b k.b f))

  ends_alike : (l m : Piece) → AreAlike d l m → IsBefore d (of_spot l.a) (of_spot l.b) → IsBefore d (of_spot m.a) (of_spot m.b)
  ends_alike l m h = before_alike l m l m h h l.a l.b m.a m.b h.a h.b

  -- ---- two lists
  module _ (pieces others : List Piece) (alike : AllZip (AreAlike d) pieces others) where
    at : (k : ℕ) (y : Piece) → k < length others → AreAlike d (get_or pieces k y) (get_or others k y)
    at k y within = AllZip-get_or (AreAlike d) pieces others k y y alike (subst (λ (n : ℕ). k < n) (sym (length_all_zip (AreAlike d) pieces others alike)) within)

    within : (k : ℕ) → k < length others → k < length pieces
    within k less = subst (λ (n : ℕ). k < n) (sym (length_all_zip (AreAlike d) pieces others alike)) less

    turned : AllZip (AreAlike d) others pieces
    turned = turn pieces others alike
      where
        turn : (xs ys : List Piece) → AllZip (AreAlike d) xs ys → AllZip (AreAlike d) ys xs
        turn [] [] h = h
        turn [] (y ∷ ys) h = absurd h
        turn (x ∷ xs) [] h = absurd h
        turn (x ∷ xs) (y ∷ ys) (h, more) = (alike_back x y h, turn xs ys more)

    -- what is on a piece of the one list is on a piece of the other
    style_alike : (style : Style) (p : Point) → LiesOnStyle d pieces style p → LiesOnStyle d others style p
    style_alike style p (l, listed, is, on) =
        let (k, m, less, here, h) = zip_left (AreAlike d) pieces others alike l listed in
        (m, (k, less, here), sym h.style ∙ is, lies_alike l m h p on)

    pub order_alike : AreInOrder d pieces → AreInOrder d others
    order_alike h = record {
      ends = λ k y less. ends_alike (get_or pieces k y) (get_or others k y) (at k y less) (h.ends k y (within k less));
      order = λ i j y less below.
          stands_alike (get_or pieces i y) (get_or others i y) (get_or pieces j y) (get_or others j y) (at i y (omega (arith, less, below))) (at j y below) (h.order i j y less (within j below));
    }

    once_alike : (p : Point) → LieOnOnce d pieces p → LieOnOnce d others p
    once_alike p h i j y less below on_first on_second =
        h i j y less (within j below)
        (lies_alike (get_or others i y) (get_or pieces i y) (alike_back (get_or pieces i y) (get_or others i y) (at i y (omega (arith, less, below)))) p on_first)
        (lies_alike (get_or others j y) (get_or pieces j y) (alike_back (get_or pieces j y) (get_or others j y) (at j y below)) p on_second)

    whole_alike : AreWhole d pieces → AreWhole d others
    whole_alike h i j y less below same parallel share =
        let first = at i y (omega (arith, less, below)) in
        let second = at j y below in
        let first' = alike_back (get_or pieces i y) (get_or others i y) first in
        let second' = alike_back (get_or pieces j y) (get_or others j y) second in
        h i j y less (within j below) (first.style ∙ same ∙ sym second.style)
        (parallel_alike (get_or others i y) (get_or pieces i y) (get_or others j y) (get_or pieces j y) first' second' parallel)
        (share_alike (get_or others i y) (get_or pieces i y) (get_or others j y) (get_or pieces j y) first' second' share)

    proper_alike : AreProper d pieces → AreProper d others
    proper_alike h k y less seen =
        let m = get_or others k y in
        let l = get_or pieces k y in
        let back = alike_back l m (at k y less) in
        h k y (within k less) (meet m l m l back back m.a m.b l.a l.b back.a back.b seen)

-- right for what is drawn and hidden in a view, with these points of traces and ordinary points
pub right_alike : (d : Triple) (Drawn Hidden Traced Ordinary : Point → Type 0) (pieces others : List Piece) → AllZip (AreAlike d) pieces others
    → AreRightIn d Drawn Hidden Traced Ordinary pieces → AreRightIn d Drawn Hidden Traced Ordinary others
right_alike d Drawn Hidden Traced Ordinary pieces others alike h = record {
  proper = proper_alike d pieces others alike h.proper;
  visible = λ p there ordinary. on_both (style p) (h.visible p there ordinary);
  hidden = λ p there ordinary. on_both (style p) (h.hidden p there ordinary);
  traced = λ p there ordinary. on_both (style p) (h.traced p there ordinary);
  once = λ p there ordinary. once_alike d pieces others alike p (h.once p there ordinary);
  whole = whole_alike d pieces others alike h.whole;
}
  where
    style : (p : Point) (s : Style) → LiesOnStyle d others s p ↔ LiesOnStyle d pieces s p
    style p s = (style_alike d others pieces (turned d pieces others alike) s p, style_alike d pieces others alike s p)

    on_both : {s : Style} {p : Point} {B : Type 0} → ((s : Style) → LiesOnStyle d others s p ↔ LiesOnStyle d pieces s p) → LiesOnStyle d pieces s p ↔ B → LiesOnStyle d others s p ↔ B
    on_both {s = s} f g = (λ a. g.0 ((f s).0 a), λ b. (f s).1 (g.1 b))
