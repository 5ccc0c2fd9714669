-- A face that comes over an edge at one side and goes at another.
use Rattle.std.proofs.Common.{◌≡◌, ◌⊎◌, inl, inr, [], ◌∷◌, refl, sym, ◌∙◌, arith}
use Rattle.std.specs.Prelude.{ℤ, pos, ◌+ℤ◌, ◌-ℤ◌, ◌*ℤ◌, ◌≤ℤ◌, ◌<ℤ◌}
use Rattle.std.proofs.lemmas.Int.{ints, by_lt_z}
use Rattle.integers.proofs.Comparisons.{positive_at, not_negative_at}
use Rattle.hiding_laws.specs.Values.{value_at}
use Rattle.integers.proofs.Ring.{Expr, var, con, ◌⊕◌, ◌⊖◌, ◌⊗◌, ring, less_by, gap_of_less}
use Rattle.integers.proofs.Signs.{mul_nonneg, mul_pos}
use Rattle.hiding_laws.specs.inner.Tallies.{IsTally}
use Rattle.hiding_laws.specs.inner.Tallies.{yes, no}
use Rattle.hiding_laws.proofs.Signs.{weak, up, up_weak, sum_pos, sum_nonneg, nonneg_of_zero, clash_zero, clash_both}

pub record IsInner (n m : ℤ) : Type 0 where
  pub after : pos 0 <ℤ n
  pub before : n <ℤ m

-- between two places, by weights
pub mixed : (f g n m n' m' i j : ℤ)
    → value_at f g ((i *ℤ n) +ℤ (j *ℤ n')) ((i *ℤ m) +ℤ (j *ℤ m')) ≡ (i *ℤ value_at f g n m) +ℤ (j *ℤ value_at f g n' m')
mixed f g n m n' m' i j =
    let F = var 0 in let G = var 1 in let N = var 2 in let M = var 3 in let N' = var 4 in let M' = var 5 in let I = var 6 in let J = var 7 in
    let at = λ (n m : Expr). ((m ⊖ n) ⊗ F) ⊕ (n ⊗ G) in
    ring (f ∷ g ∷ n ∷ m ∷ n' ∷ m' ∷ i ∷ j ∷ [])
    (at ((I ⊗ N) ⊕ (J ⊗ N')) ((I ⊗ M) ⊕ (J ⊗ M'))) ((I ⊗ at N M) ⊕ (J ⊗ at N' M')) refl

pub inner_mixed : (n m n' m' i j : ℤ) → IsInner n m → IsInner n' m' → pos 0 ≤ℤ i → pos 0 <ℤ j
    → IsInner ((i *ℤ n) +ℤ (j *ℤ n')) ((i *ℤ m) +ℤ (j *ℤ m'))
inner_mixed n m n' m' i j p q h k = record {
  after = sum_pos _ _ (mul_nonneg i n h (weak n p.after)) (mul_pos j n' k q.after);
  before =
      let N = var 0 in let M = var 1 in let N' = var 2 in let M' = var 3 in let I = var 4 in let J = var 5 in
      less_by _ _ _
      (ring (n ∷ m ∷ n' ∷ m' ∷ i ∷ j ∷ [])
      (((I ⊗ M) ⊕ (J ⊗ M')) ⊖ ((I ⊗ N) ⊕ (J ⊗ N'))) ((I ⊗ (M ⊖ N)) ⊕ (J ⊗ (M' ⊖ N'))) refl)
      (sum_pos _ _ (mul_nonneg i _ h (weak _ (gap_of_less n m p.before))) (mul_pos j _ k (gap_of_less n' m' q.before)));
}

-- e and z are above 0 within the two sides, and l where the face is nearer; each is given at both ends of the edge
module _ (e e' z z' l l' : ℤ) where
  abbrev pub E : ℤ → ℤ → ℤ
  E n m = value_at e e' n m

  abbrev pub Z : ℤ → ℤ → ℤ
  Z n m = value_at z z' n m

  abbrev pub L : ℤ → ℤ → ℤ
  L n m = value_at l l' n m

  abbrev pub Over : ℤ → ℤ → Type 0
  Over n m = (pos 0 <ℤ E n m) × (pos 0 <ℤ Z n m) × (pos 0 <ℤ L n m)

  abbrev pub Comes : ℤ → ℤ → ℤ → ℤ → Type 0
  Comes n m n' m' = (E n m <ℤ pos 0) × (pos 0 <ℤ E n' m') × (pos 0 <ℤ ((E n' m' *ℤ L n m) +ℤ ((pos 0 -ℤ E n m) *ℤ L n' m')))

  pub record IsFree : Type 0 where
    pub free : (n m : ℤ) → IsInner n m → pos 0 ≤ℤ E n m → pos 0 ≤ℤ Z n m → L n m ≡ pos 0 → ⊥
    pub right_of_left : (n m : ℤ) → IsInner n m → E n m <ℤ pos 0 → pos 0 <ℤ Z n m
    pub left_of_right : (n m : ℤ) → IsInner n m → Z n m <ℤ pos 0 → pos 0 <ℤ E n m

module _ {e e' z z' l l' : ℤ} (f : IsFree e e' z z' l l') where
  -- the face passes the edge on one side of it
  pub same : (n m n' m' : ℤ) → IsInner n m → IsInner n' m'
      → pos 0 ≤ℤ E e e' z z' l l' n m → pos 0 ≤ℤ Z e e' z z' l l' n m → pos 0 <ℤ L e e' z z' l l' n m
      → pos 0 ≤ℤ E e e' z z' l l' n' m' → pos 0 ≤ℤ Z e e' z z' l l' n' m' → pos 0 <ℤ L e e' z z' l l' n' m'
  same n m n' m' p q e0 z0 l0 e1 z1 =
      by_lt_z (pos 0) (value_at l l' n' m') (λ h. h)
      (λ h.
      let i = up_weak _ h in
      absurd (f.free _ _ (inner_mixed n m n' m' _ _ p q i l0)
      (not_negative_at _ _ (mixed e e' n m n' m' _ _) (sum_nonneg _ _ (mul_nonneg _ _ i e0) (mul_nonneg _ _ (weak _ l0) e1)))
      (not_negative_at _ _ (mixed z z' n m n' m' _ _) (sum_nonneg _ _ (mul_nonneg _ _ i z0) (mul_nonneg _ _ (weak _ l0) z1)))
      (mixed l l' n m n' m' _ _
      ∙ ring (value_at l l' n m ∷ value_at l l' n' m' ∷ []) (((con (pos 0) ⊖ var 1) ⊗ var 0) ⊕ (var 0 ⊗ var 1)) (con (pos 0)) refl)))

module _ {e e' z z' l l' : ℤ} (f : IsFree e e' z z' l l') (n m n' m' : ℤ) (p : IsInner n m) (q : IsInner n' m') where
  abbrev E0 : ℤ
  E0 = value_at e e' n m

  abbrev E1 : ℤ
  E1 = value_at e e' n' m'

  abbrev Z0 : ℤ
  Z0 = value_at z z' n m

  abbrev Z1 : ℤ
  Z1 = value_at z z' n' m'

  -- the place where it comes, and the one where it goes
  module _ (below : E0 <ℤ pos 0) (above : pos 0 <ℤ E1) where
    abbrev pub come_n : ℤ
    come_n = (E1 *ℤ n) +ℤ ((pos 0 -ℤ E0) *ℤ n')

    abbrev pub come_m : ℤ
    come_m = (E1 *ℤ m) +ℤ ((pos 0 -ℤ E0) *ℤ m')

    pub come_inner : IsInner come_n come_m
    come_inner = inner_mixed n m n' m' _ _ p q (weak _ above) (up _ below)

    come_zero : value_at e e' come_n come_m ≡ pos 0
    come_zero = mixed e e' n m n' m' _ _ ∙ ring (E0 ∷ E1 ∷ []) ((var 1 ⊗ var 0) ⊕ ((con (pos 0) ⊖ var 0) ⊗ var 1)) (con (pos 0)) refl

    pub come_e : pos 0 ≤ℤ value_at e e' come_n come_m
    come_e = nonneg_of_zero _ come_zero

    pub come_z : pos 0 ≤ℤ value_at z z' come_n come_m
    come_z = by_lt_z _ (pos 0) (λ h. absurd (clash_zero _ (f.left_of_right _ _ come_inner h) come_zero)) (λ h. h)

  module _ (above : pos 0 <ℤ Z0) (below : Z1 <ℤ pos 0) where
    abbrev pub go_n : ℤ
    go_n = ((pos 0 -ℤ Z1) *ℤ n) +ℤ (Z0 *ℤ n')

    abbrev pub go_m : ℤ
    go_m = ((pos 0 -ℤ Z1) *ℤ m) +ℤ (Z0 *ℤ m')

    pub go_inner : IsInner go_n go_m
    go_inner = inner_mixed n m n' m' _ _ p q (weak _ (up _ below)) above

    go_zero : value_at z z' go_n go_m ≡ pos 0
    go_zero = mixed z z' n m n' m' _ _ ∙ ring (Z0 ∷ Z1 ∷ []) (((con (pos 0) ⊖ var 1) ⊗ var 0) ⊕ (var 0 ⊗ var 1)) (con (pos 0)) refl

    pub go_z : pos 0 ≤ℤ value_at z z' go_n go_m
    go_z = nonneg_of_zero _ go_zero

    pub go_e : pos 0 ≤ℤ value_at e e' go_n go_m
    go_e = by_lt_z _ (pos 0) (λ h. absurd (clash_zero _ (f.right_of_left _ _ go_inner h) go_zero)) (λ h. h)

  abbrev pub Goes : Type 0
  Goes = (pos 0 <ℤ Z0) × (Z1 <ℤ pos 0) × (pos 0 <ℤ (((pos 0 -ℤ Z1) *ℤ value_at l l' n m) +ℤ (Z0 *ℤ value_at l l' n' m')))

  -- a face that is over the later place was over the earlier one, or came
  pub was_or_came : (E0 <ℤ pos 0) ⊎ (pos 0 <ℤ E0) → (pos 0 <ℤ Z1 → pos 0 <ℤ Z0) → Over e e' z z' l l' n' m' → Over e e' z z' l l' n m ⊎ Comes e e' z z' l l' n m n' m'
  was_or_came (inr h) falls o = inl (h, falls o.1, same f n' m' n m q p (weak _ o.0) (weak _ o.1) o.2 (weak _ h) (weak _ (falls o.1)))
  was_or_came (inl h) falls o =
      inr (
        h,
        o.0,
        positive_at _ _ (sym (mixed l l' n m n' m' _ _))
            (same f n' m' _ _ q (come_inner h o.0) (weak _ o.0) (weak _ o.1) o.2 (come_e h o.0) (come_z h o.0)),
      )

  -- a face that goes was over the earlier place, or came
  pub went_from : (E0 <ℤ pos 0) ⊎ (pos 0 <ℤ E0) → Goes → Over e e' z z' l l' n m ⊎ Comes e e' z z' l l' n m n' m'
  went_from (inr h) g =
      inl (h, g.0, same f _ _ n m (go_inner g.0 g.1) p (go_e g.0 g.1) (go_z g.0 g.1) (positive_at _ _ (mixed l l' n m n' m' _ _) g.2) (weak _ h) (weak _ g.0))
  went_from (inl h) g =
      let up = f.left_of_right n' m' q g.1 in
      inr (
        h,
        up,
        positive_at _ _ (sym (mixed l l' n m n' m' _ _))
            (same f _ _ _ _ (go_inner g.0 g.1) (come_inner h up) (go_e g.0 g.1) (go_z g.0 g.1) (positive_at _ _ (mixed l l' n m n' m' _ _) g.2) (come_e h up) (come_z h up)),
      )

-- seen from the other end, coming is going
pub turned : {e e' z z' l l' : ℤ} → IsFree e e' z z' l l' → IsFree z z' e e' l l'
turned f = record {
  free = λ n m i p q. f.free n m i q p;
  right_of_left = f.left_of_right;
  left_of_right = f.right_of_left;
}

module _ {e e' z z' l l' : ℤ} (f : IsFree e e' z z' l l') (n m n' m' : ℤ) (p : IsInner n m) (q : IsInner n' m')
    (off : ((value_at e e' n m) <ℤ pos 0) ⊎ (pos 0 <ℤ (value_at e e' n m))) (off' : ((value_at z z' n' m') <ℤ pos 0) ⊎ (pos 0 <ℤ (value_at z z' n' m')))
    (rises : pos 0 <ℤ (value_at e e' n m) → pos 0 <ℤ (value_at e e' n' m')) (falls : pos 0 <ℤ (value_at z z' n' m') → pos 0 <ℤ (value_at z z' n m)) where
  abbrev pub Is : ℤ → ℤ → Type 0
  Is n m = Over e e' z z' l l' n m

  abbrev pub Came : Type 0
  Came = Comes e e' z z' l l' n m n' m'

  abbrev pub Went : Type 0
  Went = Goes f n m n' m' p q

  swapped : (x y : ℤ) → pos 0 <ℤ (x +ℤ y) → pos 0 <ℤ (y +ℤ x)
  swapped x y h = omega (arith, ints)

  over : Is n m → Is n' m' ⊎ Went
  over o = elim (was_or_came (turned f) n' m' n m q p off' rises (o.1, o.0, o.2)) [
    | inl r ↦ inl (r.1, r.0, r.2)
    | inr r ↦ inr (r.1, r.0, swapped (value_at z z' n m *ℤ value_at l l' n' m') ((pos 0 -ℤ value_at z z' n' m') *ℤ value_at l l' n m) r.2)
  ]

  came : Came → Is n' m' ⊎ Went
  came o = elim (went_from (turned f) n' m' n m q p off' (o.1, o.0, swapped (value_at e e' n' m' *ℤ value_at l l' n m) ((pos 0 -ℤ value_at e e' n m) *ℤ value_at l l' n' m') o.2)) [
    | inl r ↦ inl (r.1, r.0, r.2)
    | inr r ↦ inr (r.1, r.0, swapped (value_at z z' n m *ℤ value_at l l' n' m') ((pos 0 -ℤ value_at z z' n' m') *ℤ value_at l l' n m) r.2)
  ]

  not_both : Is n' m' → Went → ⊥
  not_both o w = clash_both _ o.1 w.1

  not_both_before : Is n m → Came → ⊥
  not_both_before o w = clash_both _ o.0 w.0

  neither : {P Q : Type 0} → ¬ P → ¬ Q → P ⊎ Q → ⊥
  neither a b (inl h) = a h
  neither a b (inr h) = b h

  -- the change between the places is what comes less what goes
  pub come_and_go : {before after come go : ℤ} → IsTally (Is n m) before → IsTally (Is n' m') after → IsTally Came come → IsTally Went go → after -ℤ before ≡ come -ℤ go
  come_and_go (yes b) (yes a) (yes c) g = absurd (not_both_before b c)
  come_and_go (yes b) (yes a) (no c) (yes g) = absurd (not_both a g)
  come_and_go (yes b) (yes a) (no c) (no g) = refl
  come_and_go (yes b) (no a) (yes c) g = absurd (not_both_before b c)
  come_and_go (yes b) (no a) (no c) (yes g) = refl
  come_and_go (yes b) (no a) (no c) (no g) = absurd (neither a g (over b))
  come_and_go (no b) (yes a) (yes c) (yes g) = absurd (not_both a g)
  come_and_go (no b) (yes a) (yes c) (no g) = refl
  come_and_go (no b) (yes a) (no c) g = absurd (neither b c (was_or_came f n m n' m' p q off falls a))
  come_and_go (no b) (no a) (yes c) (yes g) = refl
  come_and_go (no b) (no a) (yes c) (no g) = absurd (neither a g (came c))
  come_and_go (no b) (no a) (no c) (yes g) = absurd (neither b c (went_from f n m n' m' p q off g))
  come_and_go (no b) (no a) (no c) (no g) = refl
