-- What the plane leaves of an outline has its marks from the whole: it changes a mark only where the outline's corners do.
use Rattle.std.proofs.Common.{◌≡◌, ◌≢◌, ◌⊎◌, inl, inr, ℕ, zero, suc, ◌+◌, ◌<◌, Bool, true, false, refl, sym, ap, ◌∙◌, arith, cond, unsigned_abs}
use Rattle.std.specs.Prelude.{ℤ, pos, negsuc, ◌+ℤ◌, ◌-ℤ◌, ◌*ℤ◌, ◌≤ℤ◌, ◌<ℤ◌}
use Rattle.std.specs.Int.Signed.{lt_z}
use Rattle.std.proofs.lemmas.Int.{ints}
use Rattle.integers.proofs.Absolutes.{natural_not_negative, some_abs_of_positive, some_abs_of_negative}
use Rattle.integers.proofs.Comparisons.{sum_positive_first, sum_positive_last, sum_not_negative, not_negative_of_positive, not_positive_of_negative, times_zero, zero_times}
use Rattle.integers.proofs.Signs.{mul_nonneg, mul_pos, mul_neg}
use Rattle.lattice.specs.declared.points.Corner.{Corner}
use Rattle.lattice.specs.Triple.{Triple}
use Rattle.lattice.specs.Points.{point_of}
use Rattle.lattice.specs.Cuts.{Plane, toward_of, IsBeyond, IsBeforePlane}
use Rattle.geometry.specs.Cuts.{over_of, crossing_of}
use Rattle.geometry.specs.Faces.{edge_sum}
use Rattle.geometry.specs.Parts.{Part, Edge}
use Rattle.geometry.specs.Views.{face_sign}
use Rattle.geometry.proofs.Borders.{side_of_corner, over_beyond, over_before}
use Rattle.geometry.proofs.Shares.{edge_share}
use Rattle.hiding_laws.specs.Values.{side_of}
use Rattle.hiding_laws.proofs.CornerValues.{side_at}
use Rattle.hiding_laws.proofs.Values.{side-share}
use Rattle.geometry.specs.Counts.{Side, to_left, to_right, orientation_of}
use Rattle.geometry.specs.Shares.{mark, change_of, Changes}
use Rattle.cut_plane.proofs.Lies.{up_down}
use Rattle.cut_count_laws.specs.CutEnds.{cut_end, part_change}
use Rattle.cut_count_laws.specs.CutShares.{cut_change_of, CutChanges}

-- ---- marks of a sum
-- a sum with whole weights
abbrev mixed : ℕ → ℕ → ℤ → ℤ → ℤ
mixed i j x y = (pos i *ℤ x) +ℤ (pos j *ℤ y)

mixed_least : (i j : ℕ) (x y : ℤ) → pos 0 ≤ℤ x → pos 0 ≤ℤ y → pos 0 ≤ℤ mixed i j x y
mixed_least i j x y p q = sum_not_negative _ _ (mul_nonneg (pos i) x (natural_not_negative i) p) (mul_nonneg (pos j) y (natural_not_negative j) q)

mixed_up : (i j : ℕ) (x y : ℤ) → 0 < i + j → pos 0 <ℤ x → pos 0 <ℤ y → pos 0 <ℤ mixed i j x y
mixed_up zero zero x y some p q = absurd (omega arith)
mixed_up (suc i) j x y some p q = sum_positive_first _ _ (mul_pos (pos (suc i)) x (omega (arith, ints)) p) (mul_nonneg (pos j) y (natural_not_negative j) (not_negative_of_positive y q))
mixed_up zero (suc j) x y some p q = sum_positive_last _ _ (mul_nonneg (pos zero) x (natural_not_negative zero) (not_negative_of_positive x p)) (mul_pos (pos (suc j)) y (omega (arith, ints)) q)

mixed_most : (i j : ℕ) (x y : ℤ) → x ≤ℤ pos 0 → y ≤ℤ pos 0 → mixed i j x y ≤ℤ pos 0
mixed_most i j x y p q = go _ _ (up_down (pos i) x (natural_not_negative i) p) (up_down (pos j) y (natural_not_negative j) q)
  where
    go : (a b : ℤ) → a ≤ℤ pos 0 → b ≤ℤ pos 0 → (a +ℤ b) ≤ℤ pos 0
    go a b p q = omega (arith, ints)

mixed_down : (i j : ℕ) (x y : ℤ) → 0 < i + j → x <ℤ pos 0 → y <ℤ pos 0 → mixed i j x y <ℤ pos 0
mixed_down zero zero x y some p q = absurd (omega arith)
mixed_down (suc i) j x y some p q = go _ _ (mul_neg (pos (suc i)) x (omega (arith, ints)) p) (up_down (pos j) y (natural_not_negative j) (not_positive_of_negative y q))
  where
    go : (a b : ℤ) → a <ℤ pos 0 → b ≤ℤ pos 0 → (a +ℤ b) <ℤ pos 0
    go a b p q = omega (arith, ints)
mixed_down zero (suc j) x y some p q = go _ _ (up_down (pos zero) x (natural_not_negative zero) (not_positive_of_negative x p)) (mul_neg (pos (suc j)) y (omega (arith, ints)) q)
  where
    go : (a b : ℤ) → a ≤ℤ pos 0 → b <ℤ pos 0 → (a +ℤ b) <ℤ pos 0
    go a b p q = omega (arith, ints)

left_up : (z : ℤ) → pos 0 <ℤ z → mark to_left z ≡ pos 1
left_up (pos zero) h = absurd (omega (arith, ints))
left_up (pos (suc z)) h = refl
left_up (negsuc z) h = absurd (omega (arith, ints))

left_most : (z : ℤ) → z ≤ℤ pos 0 → mark to_left z ≡ pos 0
left_most (pos zero) h = refl
left_most (pos (suc z)) h = absurd (omega (arith, ints))
left_most (negsuc z) h = refl

right_least : (z : ℤ) → pos 0 ≤ℤ z → mark to_right z ≡ pos 1
right_least (pos z) h = refl
right_least (negsuc z) h = absurd (omega (arith, ints))

right_down : (z : ℤ) → z <ℤ pos 0 → mark to_right z ≡ pos 0
right_down (pos z) h = absurd (omega (arith, ints))
right_down (negsuc z) h = refl

one_not_none : pos 1 ≡ pos 0 → ⊥
one_not_none e = omega (arith, ints)

none_not_one : pos 0 ≡ pos 1 → ⊥
none_not_one e = omega (arith, ints)

-- numbers that are marked alike, and their sum with weights that are not all 0
pub mixed_mark : (k : Side) (i j : ℕ) (x y : ℤ) → 0 < i + j → mark k x ≡ mark k y → mark k (mixed i j x y) ≡ mark k y
mixed_mark to_left i j (pos zero) (pos zero) some e = left_most _ (mixed_most i j (pos zero) (pos zero) (omega (arith, ints)) (omega (arith, ints)))
mixed_mark to_left i j (pos zero) (negsuc y) some e = left_most _ (mixed_most i j (pos zero) (negsuc y) (omega (arith, ints)) (omega (arith, ints)))
mixed_mark to_left i j (negsuc x) (pos zero) some e = left_most _ (mixed_most i j (negsuc x) (pos zero) (omega (arith, ints)) (omega (arith, ints)))
mixed_mark to_left i j (negsuc x) (negsuc y) some e = left_most _ (mixed_most i j (negsuc x) (negsuc y) (omega (arith, ints)) (omega (arith, ints)))
mixed_mark to_left i j (pos (suc x)) (pos (suc y)) some e = left_up _ (mixed_up i j (pos (suc x)) (pos (suc y)) some (omega (arith, ints)) (omega (arith, ints)))
mixed_mark to_left i j (pos zero) (pos (suc y)) some e = absurd (none_not_one e)
mixed_mark to_left i j (negsuc x) (pos (suc y)) some e = absurd (none_not_one e)
mixed_mark to_left i j (pos (suc x)) (pos zero) some e = absurd (one_not_none e)
mixed_mark to_left i j (pos (suc x)) (negsuc y) some e = absurd (one_not_none e)
mixed_mark to_right i j (pos x) (pos y) some e = right_least _ (mixed_least i j (pos x) (pos y) (omega (arith, ints)) (omega (arith, ints)))
mixed_mark to_right i j (negsuc x) (negsuc y) some e = right_down _ (mixed_down i j (negsuc x) (negsuc y) some (omega (arith, ints)) (omega (arith, ints)))
mixed_mark to_right i j (pos x) (negsuc y) some e = absurd (one_not_none e)
mixed_mark to_right i j (negsuc x) (pos y) some e = absurd (none_not_one e)

-- ---- marks of what is left of an outline
-- the turn to a sum of two corners
pub side-sum : (d : Triple) (p q x y : Corner) (i j : ℕ) → side_of d p q (edge_sum x y i j) ≡ mixed i j (side_of d p q (point_of x)) (side_of d p q (point_of y))
side-sum d p q x y i j =
    ap (side_of d p q) (edge_share x y i j) ∙ side-share d x y (pos j) (pos (i + j)) p q
    ∙ (λ t. (less i j t *ℤ side_of d p q (point_of x)) +ℤ (pos j *ℤ side_of d p q (point_of y)))
  where
    less : (i j : ℕ) → pos (i + j) -ℤ pos j ≡ pos i
    less i j = omega (arith, ints)

module _ (k : Side) (c : Plane) (p q : Corner) where
  abbrev turn : Corner → ℤ
  turn x = side_of (toward_of c) p q (point_of x)

  -- an end of what is left is marked as the corners are, where these are marked alike
  end_mark : (x y : Corner) → mark k (turn x) ≡ mark k (turn y) → mark k (side_of (toward_of c) p q (cut_end c x y)) ≡ mark k (turn y)
  end_mark x y e = by (lt_z (over_of c x) (pos 0))
    where
      some : (x : Corner) (n : ℕ) → 0 < n + unsigned_abs (over_of c x)
      some x n = off (side_of_corner c x)
        where
          more : (n m : ℕ) → 0 < m → 0 < n + m
          more n m h = omega arith

          off : IsBeyond c (point_of x) ⊎ IsBeforePlane c (point_of x) → 0 < n + unsigned_abs (over_of c x)
          off (inl h) = more n _ (some_abs_of_negative (over_of c x) (over_beyond c x h))
          off (inr h) = more n _ (some_abs_of_positive (over_of c x) (over_before c x h))

      crossing : mark k (side_of (toward_of c) p q (crossing_of c x y)) ≡ mark k (turn y)
      crossing =
          ap (mark k) (side-sum (toward_of c) p q x y (unsigned_abs (over_of c y)) (unsigned_abs (over_of c x)))
          ∙ mixed_mark k (unsigned_abs (over_of c y)) (unsigned_abs (over_of c x)) (turn x) (turn y) (some x (unsigned_abs (over_of c y))) e

      by : (b : Bool) → mark k (side_of (toward_of c) p q (cond b (point_of x) (crossing_of c x y))) ≡ mark k (turn y)
      by true = e
      by false = crossing

  -- so the part changes nothing there
  pub part_unchanged : (x y : Corner) → mark k (turn x) ≡ mark k (turn y) → part_change k c p q x y ≡ pos 0
  part_unchanged x y e = (λ t. end_mark x y e t -ℤ end_mark y x (sym e) t) ∙ (λ t. mark k (turn y) -ℤ e t) ∙ none (mark k (turn y))
    where
      none : (z : ℤ) → z -ℤ z ≡ pos 0
      none z = omega (arith, ints)

-- ---- an outline of which what is left changes a count
-- marks are alike, or one is 1 and the other 0
alike_or : (k : Side) (x y : ℤ) → (mark k x ≡ mark k y) ⊎ (mark k x -ℤ mark k y ≡ pos 1) ⊎ (mark k x -ℤ mark k y ≡ negsuc 0)
alike_or to_left (pos zero) (pos zero) = inl refl
alike_or to_left (pos zero) (pos (suc y)) = inr (inr refl)
alike_or to_left (pos zero) (negsuc y) = inl refl
alike_or to_left (pos (suc x)) (pos zero) = inr (inl refl)
alike_or to_left (pos (suc x)) (pos (suc y)) = inl refl
alike_or to_left (pos (suc x)) (negsuc y) = inr (inl refl)
alike_or to_left (negsuc x) (pos zero) = inl refl
alike_or to_left (negsuc x) (pos (suc y)) = inr (inr refl)
alike_or to_left (negsuc x) (negsuc y) = inl refl
alike_or to_right (pos x) (pos y) = inl refl
alike_or to_right (pos x) (negsuc y) = inr (inl refl)
alike_or to_right (negsuc x) (pos y) = inr (inr refl)
alike_or to_right (negsuc x) (negsuc y) = inl refl

once : (f v : ℤ) → v ≡ pos 1 → f *ℤ v ≡ pos 0 → f ≡ pos 0
once f v e h = sym (times_one f) ∙ ap (λ z. f *ℤ z) (sym e) ∙ h
  where
    times_one : (f : ℤ) → f *ℤ pos 1 ≡ f
    times_one f = omega (arith, ints)

turned_once : (f v : ℤ) → v ≡ negsuc 0 → f *ℤ v ≡ pos 0 → f ≡ pos 0
turned_once f v e h = go f (ap (λ z. f *ℤ z) (sym e) ∙ h)
  where
    go : (f : ℤ) → f *ℤ negsuc 0 ≡ pos 0 → f ≡ pos 0
    go f h = omega (arith, ints)

module _ (c : Plane) {s : Part} (e o : Edge s) where
  abbrev signs : ℤ
  signs = face_sign (toward_of c) o.left -ℤ face_sign (toward_of c) o.right

  cut_change_none : (k : Side) → change_of k (toward_of c) e o ≡ pos 0 → cut_change_of k c e o ≡ pos 0
  cut_change_none k h = by (alike_or k (orientation_of (toward_of c) e.a e.b o.a) (orientation_of (toward_of c) e.a e.b o.b))
    where
      none : (f v : ℤ) → f ≡ pos 0 → f *ℤ v ≡ pos 0
      none f v h = ap (λ z. z *ℤ v) h ∙ zero_times v

      by : (mark k (orientation_of (toward_of c) e.a e.b o.a) ≡ mark k (orientation_of (toward_of c) e.a e.b o.b))
          ⊎ (mark k (orientation_of (toward_of c) e.a e.b o.a) -ℤ mark k (orientation_of (toward_of c) e.a e.b o.b) ≡ pos 1)
          ⊎ (mark k (orientation_of (toward_of c) e.a e.b o.a) -ℤ mark k (orientation_of (toward_of c) e.a e.b o.b) ≡ negsuc 0)
          → cut_change_of k c e o ≡ pos 0
      by (inl same) =
          ap (λ v. signs *ℤ v) (part_unchanged k c e.a e.b o.a o.b
          (ap (mark k) (sym (side_at (toward_of c) e.a e.b o.a)) ∙ same ∙ ap (mark k) (side_at (toward_of c) e.a e.b o.b)))
          ∙ times_zero signs
      by (inr (inl more)) = none signs _ (once signs _ more h)
      by (inr (inr less)) = none signs _ (turned_once signs _ less h)

  -- it changes the count of the plain view too, if it is all there
  pub changes_of_cut : CutChanges c e o → Changes (toward_of c) e o
  changes_of_cut h = record { passes = h.passes.passes; some = by h.some }
    where
      by : (cut_change_of to_left c e o ≢ pos 0) ⊎ (cut_change_of to_right c e o ≢ pos 0) → (change_of to_left (toward_of c) e o ≢ pos 0) ⊎ (change_of to_right (toward_of c) e o ≢ pos 0)
      by (inl n) = inl (λ z. n (cut_change_none to_left z))
      by (inr n) = inr (λ z. n (cut_change_none to_right z))
