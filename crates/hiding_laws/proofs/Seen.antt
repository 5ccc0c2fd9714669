-- What is counted of a part is what is counted of the part as it is seen along a direction.
use Rattle.std.proofs.Common.{◌≡◌, ◌⊎◌, zero, suc, inl, inr, [], ◌∷◌, refl, sym, ap, subst, ◌∙◌, arith}
use Rattle.std.specs.Prelude.{ℤ, pos, negsuc, ◌-ℤ◌, ◌*ℤ◌, ◌<ℤ◌}
use Rattle.std.proofs.lemmas.Int.{ints}
use Rattle.integers.proofs.Comparisons.{positive_at}
use Rattle.integers.proofs.Ring.{var, con, ◌⊖◌, ◌⊗◌, ring}
use Rattle.integers.proofs.Signs.{mul_pos, mul_neg, pos_of_mul, zero_of_mul}
use Rattle.lattice.specs.declared.points.Corner.{Corner}
use Rattle.lattice.specs.Triple.{Triple, dot, det, right_axis, up_axis}
use Rattle.lattice.specs.Points.{point_of, difference}
use Rattle.lattice.proofs.Vectors.{Letters, letters, dots, crosses}
use Rattle.lattice.proofs.SightLines.{right_axis-is}
use Rattle.geometry.specs.Faces.{share_point, facing_of, FaceHides}
use Rattle.geometry.specs.Parts.{Part, Face, Edge}
use Rattle.hiding_laws.proofs.Screens.{Screen, area_of, lead_of, Covers}
use Rattle.lattice.proofs.PointLetters.{ways}
use Rattle.hiding_laws.proofs.OnScreens.{seen, covers_of_hides, hides_of_covers}
use Rattle.hiding_laws.proofs.Readings.{dot-share}
use Rattle.hiding_laws.proofs.ScreenScale.{area_scale, lead_scale}
use Rattle.geometry.specs.Counts.{Side, to_left, to_right, orientation_of, StandsOn, ReachesTo, IsCounted}
use Rattle.geometry.specs.Shares.{mark}
use Rattle.hiding_laws.proofs.Places.{place_of}
use Rattle.hiding_laws.proofs.Shares.{numerator_of, denominator_of, depth_of, change_of, IsOnSide, Adds}
use Rattle.hiding_laws.proofs.ScreenLetters.{area}
use Rattle.hiding_laws.proofs.EdgeScreenLetters.{P, Q, A, B, flat_values, values, lead, numerator, depth}
use Rattle.hiding_laws.proofs.Signs.{neg_at}
use Rattle.hiding_laws.proofs.Sides.{denominator-areas}

-- the square of the right axis
abbrev pub scale : Triple → ℤ
scale d = dot (right_axis d) (right_axis d)

-- a corner as it is seen
abbrev pub on : Triple → Corner → Screen
on d c = seen d (point_of c)

pub scale_pos : (d : Triple) → pos 0 <ℤ scale d
scale_pos d = (right_axis-is d).square

-- ---- determinants
pub area_seen : (d : Triple) (a b c : Corner) → area_of (on d a) (on d b) (on d c) ≡ scale d *ℤ orientation_of d a b c
area_seen d a b c = area_scale d (right_axis d) (right_axis-is d).level a b c

numerator-area : (p a b : Screen) → numerator_of p a b ≡ area_of p a b
numerator-area p a b = ring (flat_values p a a b a (pos 0) (pos 0)) (numerator P A B) (area P A B) refl

depth-lead : (p q a b : Screen) → b.w ≡ pos 1 → depth_of p q a b ≡ lead_of p q a b
depth-lead p q a b bw =
    ring (values p q a b a) (depth P Q A B) (lead P Q A B) refl
    ∙ (λ t. lead_of p q a record { u = b.u; v = b.v; h = b.h; w = sym bw t })

abbrev D : Letters
D = letters 0

abbrev E : Letters
E = letters 3

abbrev F : Letters
F = letters 6

abbrev G : Letters
G = letters 9

abbrev H : Letters
H = letters 12

pub denominator_seen : (d : Triple) (p q a b : Corner) → denominator_of (on d p) (on d q) (on d a) (on d b) ≡ scale d *ℤ det d (difference p q) (difference a b)
denominator_seen d p q a b =
    denominator-areas (on d p) (on d q) (on d a) (on d b)
    ∙ (λ t. area_seen d p q b t -ℤ area_seen d p q a t)
    ∙ less (scale d) (orientation_of d p q b) (orientation_of d p q a)
    ∙ ap (λ v. scale d *ℤ v) (ring (d.x ∷ d.y ∷ d.z ∷ p.x ∷ p.y ∷ p.z ∷ q.x ∷ q.y ∷ q.z ∷ a.x ∷ a.y ∷ a.z ∷ b.x ∷ b.y ∷ b.z ∷ [])
    (dots D (crosses (ways E F) (ways E H)) ⊖ dots D (crosses (ways E F) (ways E G))) (dots D (crosses (ways E F) (ways G H))) refl)
  where
    less : (s x y : ℤ) → (s *ℤ x) -ℤ (s *ℤ y) ≡ s *ℤ (x -ℤ y)
    less s x y = ring (s ∷ x ∷ y ∷ []) ((var 0 ⊗ var 1) ⊖ (var 0 ⊗ var 2)) (var 0 ⊗ (var 1 ⊖ var 2)) refl

pub numerator_seen : (d : Triple) (p a b : Corner) → numerator_of (on d p) (on d a) (on d b) ≡ scale d *ℤ det d (difference p a) (difference a b)
numerator_seen d p a b =
    numerator-area (on d p) (on d a) (on d b)
    ∙ area_seen d p a b
    ∙ ap (λ v. scale d *ℤ v) (ring (d.x ∷ d.y ∷ d.z ∷ p.x ∷ p.y ∷ p.z ∷ a.x ∷ a.y ∷ a.z ∷ b.x ∷ b.y ∷ b.z ∷ [])
    (dots D (crosses (ways E F) (ways E G))) (dots D (crosses (ways E F) (ways F G))) refl)

pub depth_seen : (d : Triple) (p q a b : Corner)
    → depth_of (on d p) (on d q) (on d a) (on d b) ≡ (scale d *ℤ dot d d) *ℤ det (difference p q) (difference a b) (difference p a)
depth_seen d p q a b =
    depth-lead (on d p) (on d q) (on d a) (on d b) refl
    ∙ lead_scale d (right_axis d) (right_axis-is d).level p q a (point_of b)
    ∙ ring (scale d ∷ dot d d ∷ p.x ∷ p.y ∷ p.z ∷ q.x ∷ q.y ∷ q.z ∷ a.x ∷ a.y ∷ a.z ∷ b.x ∷ b.y ∷ b.z ∷ [])
    (var 0 ⊗ (var 1 ⊗ (con (pos 0) ⊖ dots (record { x = from.x; y = from.y; z = from.z }) (crosses (ways P' Q') (ways P' A')))))
    ((var 0 ⊗ var 1) ⊗ dots (ways P' Q') (crosses (ways A' B') (ways P' A'))) refl
  where
    P' : Letters
    P' = letters 2

    Q' : Letters
    Q' = letters 5

    A' : Letters
    A' = letters 8

    B' : Letters
    B' = letters 11

    from : Letters
    from = record { x = B'.x ⊖ (con (pos 1) ⊗ P'.x); y = B'.y ⊖ (con (pos 1) ⊗ P'.y); z = B'.z ⊖ (con (pos 1) ⊗ P'.z) }

-- ---- marks do not change with a scale
pub mark_pos : (k : Side) (z : ℤ) → pos 0 <ℤ z → mark k z ≡ pos 1
mark_pos to_left (pos zero) h = absurd (omega (arith, ints))
mark_pos to_left (pos (suc n)) h = refl
mark_pos to_left (negsuc n) h = absurd (omega (arith, ints))
mark_pos to_right (pos n) h = refl
mark_pos to_right (negsuc n) h = absurd (omega (arith, ints))

pub mark_neg : (k : Side) (z : ℤ) → z <ℤ pos 0 → mark k z ≡ pos 0
mark_neg to_left (pos n) h = absurd (omega (arith, ints))
mark_neg to_left (negsuc n) h = refl
mark_neg to_right (pos n) h = absurd (omega (arith, ints))
mark_neg to_right (negsuc n) h = refl

times_zero : (s : ℤ) → s *ℤ pos 0 ≡ pos 0
times_zero s = ring (s ∷ []) (var 0 ⊗ con (pos 0)) (con (pos 0)) refl

mark_scaled : (k : Side) (s z : ℤ) → pos 0 <ℤ s → mark k (s *ℤ z) ≡ mark k z
mark_scaled k s (pos zero) h = ap (mark k) (times_zero s)
mark_scaled k s (pos (suc n)) h = mark_pos k _ (mul_pos s (pos (suc n)) h (omega (arith, ints))) ∙ sym (mark_pos k (pos (suc n)) (omega (arith, ints)))
mark_scaled k s (negsuc n) h = mark_neg k _ (mul_neg s (negsuc n) h (omega (arith, ints))) ∙ sym (mark_neg k (negsuc n) (omega (arith, ints)))

neg_of_scaled : (s z : ℤ) → pos 0 <ℤ s → (s *ℤ z) <ℤ pos 0 → z <ℤ pos 0
neg_of_scaled s z h n = turned z (pos_of_mul s (pos 0 -ℤ z) h (positive_at _ _ (ring (s ∷ z ∷ []) (var 0 ⊗ (con (pos 0) ⊖ var 1)) (con (pos 0) ⊖ (var 0 ⊗ var 1)) refl) (flip _ n)))
  where
    flip : (x : ℤ) → x <ℤ pos 0 → pos 0 <ℤ (pos 0 -ℤ x)
    flip x h = omega (arith, ints)

    turned : (x : ℤ) → pos 0 <ℤ (pos 0 -ℤ x) → x <ℤ pos 0
    turned x h = omega (arith, ints)

pub change_seen : (d : Triple) (k : Side) (sign : ℤ) (p q a b : Corner)
    → change_of k sign (on d p) (on d q) (on d a) (on d b) ≡ sign *ℤ (mark k (orientation_of d p q a) -ℤ mark k (orientation_of d p q b))
change_seen d k sign p q a b = λ t.
    sign *ℤ ((ap (mark k) (area_seen d p q a) ∙ mark_scaled k (scale d) _ (scale_pos d)) t -ℤ (ap (mark k) (area_seen d p q b) ∙ mark_scaled k (scale d) _ (scale_pos d)) t)

-- ---- sides
pub on_side_of : (d : Triple) (k : Side) (p q c : Corner) → StandsOn k d p q c → IsOnSide k (on d p) (on d q) (on d c)
on_side_of d to_left p q c h = positive_at _ _ (area_seen d p q c) (mul_pos (scale d) _ (scale_pos d) h)
on_side_of d to_right p q c h = neg_at _ _ (area_seen d p q c) (mul_neg (scale d) _ (scale_pos d) h)

pub of_on_side : (d : Triple) (k : Side) (p q c : Corner) → IsOnSide k (on d p) (on d q) (on d c) → StandsOn k d p q c
of_on_side d to_left p q c h = pos_of_mul (scale d) _ (scale_pos d) (positive_at _ _ (sym (area_seen d p q c)) h)
of_on_side d to_right p q c h = neg_of_scaled (scale d) _ (scale_pos d) (neg_at _ _ (sym (area_seen d p q c)) h)

pub facing_some : (d : Triple) (a b c : Corner) → ¬ (facing_of d a b c ≡ pos 0) → ¬ (area_of (on d a) (on d b) (on d c) ≡ pos 0)
facing_some d a b c n e = n (zero_of_mul (scale d) _ (scale_pos d) (sym (area_seen d a b c) ∙ e))

pub area_some : (d : Triple) (a b c : Corner) → ¬ (area_of (on d a) (on d b) (on d c) ≡ pos 0) → ¬ (facing_of d a b c ≡ pos 0)
area_some d a b c n e = n (area_seen d a b c ∙ ap (λ v. scale d *ℤ v) e ∙ times_zero (scale d))

-- ---- places
pub place_seen : (d : Triple) (p q : Corner) (n m : ℤ) → seen d (share_point p q n m) ≡ place_of (on d p) (on d q) n m
place_seen d p q n m = λ t. record { u = dot-share (right_axis d) p q n m t; v = dot-share (up_axis d) p q n m t; h = dot-share d p q n m t; w = m }

pub covers_place : (d : Triple) (p q a b c : Corner) (n m : ℤ) → FaceHides d a b c (share_point p q n m) → Covers (on d a) (on d b) (on d c) (place_of (on d p) (on d q) n m)
covers_place d p q a b c n m h = subst (λ w. Covers (on d a) (on d b) (on d c) w) (place_seen d p q n m) (covers_of_hides d a b c (share_point p q n m) h)

pub hides_place : (d : Triple) (p q a b c : Corner) (n m : ℤ) → Covers (on d a) (on d b) (on d c) (place_of (on d p) (on d q) n m) → FaceHides d a b c (share_point p q n m)
hides_place d p q a b c n m h = hides_of_covers d a b c (share_point p q n m) (subst (λ w. Covers (on d a) (on d b) (on d c) w) (sym (place_seen d p q n m)) h)

-- ---- a face that is counted
module _ (k : Side) (d : Triple) {s : Part} (e : Edge s) (f : Face s) where
  pub reach_seen_of : ReachesTo k d e f → IsOnSide k (on d e.a) (on d e.b) (on d f.a) ⊎ IsOnSide k (on d e.a) (on d e.b) (on d f.b) ⊎ IsOnSide k (on d e.a) (on d e.b) (on d f.c)
  reach_seen_of (inl h) = inl (on_side_of d k e.a e.b f.a h)
  reach_seen_of (inr (inl h)) = inr (inl (on_side_of d k e.a e.b f.b h))
  reach_seen_of (inr (inr h)) = inr (inr (on_side_of d k e.a e.b f.c h))

  pub reach_of_seen : IsOnSide k (on d e.a) (on d e.b) (on d f.a) ⊎ IsOnSide k (on d e.a) (on d e.b) (on d f.b) ⊎ IsOnSide k (on d e.a) (on d e.b) (on d f.c) → ReachesTo k d e f
  reach_of_seen (inl h) = inl (of_on_side d k e.a e.b f.a h)
  reach_of_seen (inr (inl h)) = inr (inl (of_on_side d k e.a e.b f.b h))
  reach_of_seen (inr (inr h)) = inr (inr (of_on_side d k e.a e.b f.c h))

  module _ (n m : ℤ) where
    pub adds_of_counted : IsCounted k d e (share_point e.a e.b n m) f → Adds k (on d e.a) (on d e.b) (on d f.a) (on d f.b) (on d f.c) n m
    adds_of_counted c = (facing_some d f.a f.b f.c c.turned, (covers_place d e.a e.b f.a f.b f.c n m c.hides, reach_seen_of c.reaches))

    pub counted_of_adds : Adds k (on d e.a) (on d e.b) (on d f.a) (on d f.b) (on d f.c) n m → IsCounted k d e (share_point e.a e.b n m) f
    counted_of_adds (some, (covers, side)) = record { turned = area_some d f.a f.b f.c some; hides = hides_place d e.a e.b f.a f.b f.c n m covers; reaches = reach_of_seen side }
