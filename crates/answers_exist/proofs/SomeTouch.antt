-- It is decided whether an edge and a triangle have a common point, and whether an edge from a triangle's corner has another one.
use Rattle.std.proofs.Common.{◌≡◌, ◌⊎◌, inl, inr, ◌+◌, ◌*◌, ◌<◌, ◌≤◌, ◌^◌, [], ◌∷◌, refl, ap, ◌∙◌, arith}
use Rattle.std.specs.Prelude.{ℤ, pos, ◌+ℤ◌, ◌-ℤ◌, ◌*ℤ◌, ◌≤ℤ◌, ◌<ℤ◌, unsigned_abs}
use Rattle.std.proofs.lemmas.Int.{ints}
use Rattle.integers.proofs.Comparisons.{positive_not_zero}
use Rattle.integers.proofs.Ring.{var, con, ◌⊕◌, ◌⊖◌, ◌⊗◌, ring}
use Rattle.integers.proofs.Worth.{known, minus, size_of, below_of}
use Rattle.lattice.specs.declared.points.Corner.{Corner}
use Rattle.lattice.specs.Points.{difference}
use Rattle.lattice.specs.Triple.{Triple, dot, cross, det, IsZero, IsWithin}
use Rattle.lattice.proofs.VectorSizes.{cross_within, dot_reads}
use Rattle.geometry.specs.Faces.{normal, facing_of}
use Rattle.meeting.specs.Touching.{Touch, TouchBeyond}
use Rattle.meeting.specs.inner.Courses.{IsCourseOf}
use Rattle.meeting.specs.inner.Edges.{EdgesTouch, IsBetween, IsOneWay, IsShare, IsCrossing}
use Rattle.meeting.specs.inner.Heights.{height_of}
use Rattle.meeting.specs.inner.Places.{CoursePlace, IsLeftSomewhere, IsInOrder, Agree}
use Rattle.meeting.proofs.Beyond.{beyond, beyond-level}
use Rattle.meeting.proofs.CommonPoints.{place-of-touch, touch-of-place}
use Rattle.meeting.proofs.Crossing.{crossing}
use Rattle.meeting.proofs.FlatBeyond.{beyond-of-flat}
use Rattle.meeting.proofs.FlatTriangles.{touch-of-flat}
use Rattle.meeting.proofs.Fronts.{signs, sign-size, front-positive}
use Rattle.meeting.proofs.InPlane.{sum_pos, flat-place, not-above}
use Rattle.meeting.proofs.Parallel.{parallel-edges}
use Rattle.meeting.proofs.Through.{in_plane}
use Rattle.answers_exist.proofs.Decided.{Decided, decided_as, decided_by, decided_both, decided_three, decided_either, decided_implied, decided_same, decided_positive, decided_not_negative, decided_at_most, decided_less, Sign, sign_of}

-- ---- two edges
pub decided_zero : (t : Triple) → Decided (IsZero t)
decided_zero t =
    decided_as ((λ all. record { x = all.0; y = all.1; z = all.2 }), (λ h. (h.x, h.y, h.z)))
    (decided_three (decided_same t.x (pos 0)) (decided_same t.y (pos 0)) (decided_same t.z (pos 0)))

decided_between : (m p q : Corner) → Decided (IsBetween m p q)
decided_between m p q =
    decided_as ((λ both. record { in_line = both.0; opposed = both.1 }), (λ h. (h.in_line, h.opposed)))
    (decided_both (decided_zero (normal m p q)) (decided_at_most (dot (difference m p) (difference m q)) (pos 0)))

decided_share : (n m : ℤ) → Decided (IsShare n m)
decided_share n m = decided_as ((λ both. record { least = both.0; most = both.1 }), (λ h. (h.least, h.most))) (decided_both (decided_not_negative n) (decided_at_most n m))

decided_crossing : (e g w : Triple) → Decided (IsCrossing e g w)
decided_crossing e g w =
    decided_as ((λ all. record { level = all.0; first = all.1; second = all.2 }), (λ h. (h.level, h.first, h.second)))
    (decided_three (decided_same (det w e g) (pos 0)) (decided_share (dot (cross e g) (cross w g)) (dot (cross e g) (cross e g))) (decided_share (dot (cross e g) (cross w e)) (dot (cross e g) (cross e g))))

decided_edges : (a b p q : Corner) → Decided (EdgesTouch a b p q)
decided_edges a b p q = by (decided_zero (cross (difference a b) (difference p q)))
  where
    by : Decided (IsZero (cross (difference a b) (difference p q))) → Decided (EdgesTouch a b p q)
    by (inl parallel) = decided_by (parallel-edges a b p q parallel) (decided_either (decided_between p a b) (decided_either (decided_between a p q) (decided_between b p q)))
    by (inr apart) = decided_as (crossing a b p q (difference a b) (difference p q) (difference a p) refl refl refl apart) (decided_crossing (difference a b) (difference p q) (difference a p))

-- ---- an edge against a triangle
abbrev EachDecided : {C : Type 0} → (C → Type 0) → Type 0
EachDecided {C} P = (x : C) → Decided (P x)

abbrev EachTwoDecided : {C : Type 0} → (C → C → Type 0) → Type 0
EachTwoDecided {C} P = (x y : C) → Decided (P x y)

decided_somewhere : EachDecided IsLeftSomewhere
decided_somewhere x = decided_implied (decided_less x.start (pos 0)) (decided_not_negative x.end)

decided_order : EachTwoDecided IsInOrder
decided_order x y = decided_implied (decided_less x.start (pos 0)) (decided_implied (decided_less y.end (pos 0)) (decided_at_most (x.start *ℤ y.end) (x.end *ℤ y.start)))

decided_agree : EachTwoDecided Agree
decided_agree x y =
    decided_as ((λ all. record { somewhere = all.0; ahead = all.1; behind = all.2 }), (λ h. (h.somewhere, h.ahead, h.behind)))
    (decided_three (decided_somewhere x) (decided_order x y) (decided_order y x))

-- what the signs of the two heights tell
data Passing (s e : ℤ) : Type 0 where
  over : pos 0 <ℤ s → pos 0 <ℤ e → Passing s e
  under : s <ℤ pos 0 → e <ℤ pos 0 → Passing s e
  within : s ≡ pos 0 → e ≡ pos 0 → Passing s e
  through : ((s ≤ℤ pos 0) × (pos 0 ≤ℤ e) × (s <ℤ e)) ⊎ ((pos 0 ≤ℤ s) × (e ≤ℤ pos 0) × (e <ℤ s)) → Passing s e

passing : (s e : ℤ) → Sign s → Sign e → Passing s e
passing s e (inl low) (inl down) = under low down
passing s e (inl low) (inr (inl level)) = through (inl (omega (arith, ints, low), omega (arith, ints, level), omega (arith, ints, low, level)))
passing s e (inl low) (inr (inr up)) = through (inl (omega (arith, ints, low), omega (arith, ints, up), omega (arith, ints, low, up)))
passing s e (inr (inl flat)) (inl down) = through (inr (omega (arith, ints, flat), omega (arith, ints, down), omega (arith, ints, flat, down)))
passing s e (inr (inl flat)) (inr (inl level)) = within flat level
passing s e (inr (inl flat)) (inr (inr up)) = through (inl (omega (arith, ints, flat), omega (arith, ints, up), omega (arith, ints, flat, up)))
passing s e (inr (inr high)) (inl down) = through (inr (omega (arith, ints, high), omega (arith, ints, down), omega (arith, ints, high, down)))
passing s e (inr (inr high)) (inr (inl level)) = through (inr (omega (arith, ints, high), omega (arith, ints, level), omega (arith, ints, high, level)))
passing s e (inr (inr high)) (inr (inr up)) = over high up

opposite : (s : ℤ) → s <ℤ pos 0 → pos 0 <ℤ (pos 0 -ℤ s)
opposite s h = omega (arith, ints, h)

-- an edge below the plane has no place in it
sum_negative : (i j s e : ℤ) → pos 0 ≤ℤ i → pos 0 ≤ℤ j → pos 0 <ℤ (i +ℤ j) → s <ℤ pos 0 → e <ℤ pos 0 → (i *ℤ s) +ℤ (j *ℤ e) ≡ pos 0 → ⊥
sum_negative i j s e p q some h k level =
    positive_not_zero _ (sum_pos i j (pos 0 -ℤ s) (pos 0 -ℤ e) p q some (opposite s h) (opposite e k))
    (ring (i ∷ j ∷ s ∷ e ∷ []) ((var 0 ⊗ (con (pos 0) ⊖ var 2)) ⊕ (var 1 ⊗ (con (pos 0) ⊖ var 3))) (con (pos 0) ⊖ ((var 0 ⊗ var 2) ⊕ (var 1 ⊗ var 3))) refl
    ∙ ap (λ (z : ℤ). pos 0 -ℤ z) level)

decided_place : EachDecided CoursePlace
decided_place x = by (passing x.above.start x.above.end (sign_of x.above.start) (sign_of x.above.end))
  where
    by : Passing x.above.start x.above.end → Decided (CoursePlace x)
    by (over h k) = inr (not-above x h k)
    by (under h k) = inr (λ r. sum_negative r.i r.j x.above.start x.above.end r.i_least r.j_least r.some h k r.level)
    by (within h k) = decided_by (flat-place x h k) (decided_three (decided_agree x.bc x.ca) (decided_agree x.ca x.ab) (decided_agree x.ab x.bc))
    by (through h) = decided_by (in_plane x h) (decided_three (decided_not_negative _) (decided_not_negative _) (decided_not_negative _))

-- ---- sizes
corner_difference : (a b : Corner) → IsWithin (2 ^ 21) (difference a b)
corner_difference a b =
    let along = λ (x y : ℤ) (h : unsigned_abs x ≤ 2 ^ 20) (k : unsigned_abs y ≤ 2 ^ 20). size_of (2 ^ 21) (minus (known y (2 ^ 20) k) (known x (2 ^ 20) h)) tt in
    record { x = along a.x b.x a.x_in_range b.x_in_range; y = along a.y b.y a.y_in_range b.y_in_range; z = along a.z b.z a.z_in_range b.z_in_range }

normal_within : (a b c : Corner) → IsWithin (2 ^ 21 * 2 ^ 21 + 2 ^ 21 * 2 ^ 21) (normal a b c)
normal_within a b c = cross_within (2 ^ 21) (2 ^ 21) (difference a b) (difference a c) (corner_difference a b) (corner_difference a c)

height_size : (a b c p : Corner) → unsigned_abs (height_of a b c p) < 2 ^ 66
height_size a b c p = below_of (2 ^ 66) (dot_reads (2 ^ 21) (2 ^ 21 * 2 ^ 21 + 2 ^ 21 * 2 ^ 21) (difference a p) (normal a b c) (corner_difference a p) (normal_within a b c)) tt

signs_within : (s : Triple) → IsWithin 1 (signs s)
signs_within s = record { x = sign-size s.x; y = sign-size s.y; z = sign-size s.z }

facing_size : (s : Triple) (a b c : Corner) → unsigned_abs (facing_of (signs s) a b c) < 2 ^ 48
facing_size s a b c = below_of (2 ^ 48) (dot_reads 1 (2 ^ 21 * 2 ^ 21 + 2 ^ 21 * 2 ^ 21) (signs s) (normal a b c) (signs_within s) (normal_within a b c)) tt

-- ---- an edge and a triangle
-- for one thing of which P is true
for_one : {C Claim : Type 0} (P : C → Type 0) (x : C) → P x → ((x : C) → P x → Claim) → Claim
for_one P x p claim = claim x p

module _ (a b c p q : Corner) where
  abbrev front : Triple
  front = signs (normal a b c)

  touch_proper : ¬ IsZero (normal a b c) → Decided (Touch a b c p q)
  touch_proper proper =
      for_one (IsCourseOf front a b c p q)
      (record {
        above = record { start = height_of a b c p; end = height_of a b c q; start_small = height_size a b c p; end_small = height_size a b c q };
        bc = record { start = facing_of front b c p; end = facing_of front b c q; start_small = facing_size (normal a b c) b c p; end_small = facing_size (normal a b c) b c q };
        ca = record { start = facing_of front c a p; end = facing_of front c a q; start_small = facing_size (normal a b c) c a p; end_small = facing_size (normal a b c) c a q };
        ab = record { start = facing_of front a b p; end = facing_of front a b q; start_small = facing_size (normal a b c) a b p; end_small = facing_size (normal a b c) a b q };
      })
      (record {
        above = record { start = refl; end = refl };
        bc = record { start = refl; end = refl };
        ca = record { start = refl; end = refl };
        ab = record { start = refl; end = refl };
      })
      (λ x is.
      let ahead : pos 0 <ℤ facing_of front a b c = front-positive (normal a b c) proper in
      decided_as ((λ r. touch-of-place front a b c p q x is ahead r), (λ t. place-of-touch front a b c p q x is ahead t)) (decided_place x))

  touch_by : Decided (IsZero (normal a b c)) → Decided (Touch a b c p q)
  touch_by (inl flat) = decided_by (touch-of-flat a b c p q flat) (decided_either (decided_edges a b p q) (decided_edges a c p q))
  touch_by (inr proper) = touch_proper proper

  pub decided_touch : Decided (Touch a b c p q)
  decided_touch = touch_by (decided_zero (normal a b c))

-- ---- an edge from a corner of a triangle
decided_one_way : (a b q : Corner) → Decided (IsOneWay a b q)
decided_one_way a b q =
    decided_as ((λ both. record { in_line = both.0; ahead = both.1 }), (λ h. (h.in_line, h.ahead)))
    (decided_both (decided_zero (normal a b q)) (decided_positive (dot (difference a b) (difference a q))))

module _ (a b c q : Corner) where
  beyond_by : Decided (IsZero (normal a b c)) → height_of a b c q ≡ pos 0 → Decided (TouchBeyond a b c q)
  beyond_by (inl flat) level = decided_by (beyond-of-flat a b c q flat) (decided_either (decided_one_way a b q) (decided_one_way a c q))
  beyond_by (inr proper) level =
      let d = signs (normal a b c) in
      decided_by (beyond d a b c q (front-positive (normal a b c) proper) level) (decided_three (decided_not_negative _) (decided_not_negative _) (decided_positive _))

  beyond_at : Decided (height_of a b c q ≡ pos 0) → Decided (TouchBeyond a b c q)
  beyond_at (inl level) = beyond_by (decided_zero (normal a b c)) level
  beyond_at (inr apart) = inr (λ t. apart (beyond-level a b c q t))

  pub decided_beyond : Decided (TouchBeyond a b c q)
  decided_beyond = beyond_at (decided_same (height_of a b c q) (pos 0))
