-- Lines of a view along steps, and where two of them cross: what is seen on both is on the line of sight of that place.
use Rattle.std.proofs.Common.{◌≡◌, ℕ, zero, suc, ◌+◌, ◌*◌, ◌<◌, ◌≤◌, List, [], ◌∷◌, ◌++◌, All, Contains, length, flat_map, unsigned_abs, refl, sym, subst, ap, ◌∙◌, arith}
use Rattle.std.specs.Prelude.{ℤ, pos, negsuc, ◌+ℤ◌, ◌-ℤ◌, ◌*ℤ◌}
use Rattle.std.proofs.lemmas.Int.{ints}
use Rattle.std.proofs.lemmas.List.{length-append}
use Rattle.std.proofs.lemmas.List.Elements.{All-append, All-cons, All-nil, Contains-append_left, Contains-append_right}
use Rattle.integers.proofs.Comparisons.{twice_positive}
use Rattle.integers.proofs.Orders.{same_of_products, same_through}
use Rattle.integers.proofs.Ring.{Expr, var, con, ◌⊕◌, ◌⊖◌, ◌⊗◌, ring, by_one, by_two}
use Rattle.integers.proofs.Signs.{square_pos}
use Rattle.lattice.specs.Points.{Point, IsPoint, scaled, OnOneSight}
use Rattle.lattice.specs.Triple.{Triple, dot, cross, det, IsZero}
use Rattle.lattice.proofs.SightAxes.{agree_of_sight}
use Rattle.lattice.proofs.SightLines.{offset, nothing_along, sight_of_along, up_axis-level}
use Rattle.lattice.proofs.Vectors.{Letters, letters, dots, crosses}
use Rattle.geometry.proofs.TracePoints.{det_turned}
use Rattle.geometry.specs.Exceptions.{pairs_of, IsInSightOfOne}
use Rattle.geometry.proofs.Lists.{Contains-first, Contains-flat_map, All-flat_map, length-flat_map-few, pairs-suc}

-- ---- lines
-- along the step, through the points at which twice the determinant of direction, step and point is this number
pub record StepLine : Type 0 where
  pub step : Triple
  pub number : ℤ

-- p is a point of the plane through the direction and the line
abbrev pub IsOnStepLine : Triple → StepLine → Point → Type 0
IsOnStepLine d l p = pos 2 *ℤ det d l.step (scaled p) ≡ l.number *ℤ p.w

-- a point of the line is on the line of sight of p
abbrev pub IsSeenOn : Triple → StepLine → Point → Type 0
IsSeenOn d l p = (q : Point) × IsPoint q × IsOnStepLine d l q × OnOneSight d q p

-- ---- crossings
-- how much the steps of two lines cross, as they are seen
abbrev pub turn_of : Triple → StepLine → StepLine → ℤ
turn_of d l m = det d l.step m.step

-- the place where two lines cross, each of its numbers times k
abbrev place_by : ℤ → Triple → StepLine → StepLine → Point
place_by k d l m = record {
  x = k *ℤ ((l.number *ℤ m.step.x) -ℤ (m.number *ℤ l.step.x));
  y = k *ℤ ((l.number *ℤ m.step.y) -ℤ (m.number *ℤ l.step.y));
  z = k *ℤ ((l.number *ℤ m.step.z) -ℤ (m.number *ℤ l.step.z));
  w = pos 2 *ℤ (k *ℤ turn_of d l m);
}

abbrev unless_zero : ℤ → Point → List Point
unless_zero (pos zero) p = []
unless_zero (pos (suc n)) p = p ∷ []
unless_zero (negsuc n) p = p ∷ []

-- that place, where the lines are not seen parallel
abbrev pub crossing : Triple → StepLine → StepLine → List Point
crossing d l m = unless_zero (turn_of d l m) (place_by (turn_of d l m) d l m)

abbrev D : Letters
D = letters 0

abbrev S : Letters
S = letters 3

abbrev T : Letters
T = letters 6

module _ (d : Triple) (l m : StepLine) where
  abbrev values : ℤ → List ℤ
  values k = d.x ∷ d.y ∷ d.z ∷ l.step.x ∷ l.step.y ∷ l.step.z ∷ m.step.x ∷ m.step.y ∷ m.step.z ∷ l.number ∷ m.number ∷ k ∷ []

  abbrev mixed : Letters
  mixed = record {
    x = var 11 ⊗ ((var 9 ⊗ T.x) ⊖ (var 10 ⊗ S.x));
    y = var 11 ⊗ ((var 9 ⊗ T.y) ⊖ (var 10 ⊗ S.y));
    z = var 11 ⊗ ((var 9 ⊗ T.z) ⊖ (var 10 ⊗ S.z));
  }

  abbrev turn : Expr
  turn = dots D (crosses S T)

  -- it is on both lines
  place_on_first : (k : ℤ) → IsOnStepLine d l (place_by k d l m)
  place_on_first k = ring (values k) (con (pos 2) ⊗ dots D (crosses S mixed)) (var 9 ⊗ (con (pos 2) ⊗ (var 11 ⊗ turn))) refl

  place_on_second : (k : ℤ) → IsOnStepLine d m (place_by k d l m)
  place_on_second k = ring (values k) (con (pos 2) ⊗ dots D (crosses T mixed)) (var 10 ⊗ (con (pos 2) ⊗ (var 11 ⊗ turn))) refl

-- what is at right angles to d x s and to d x t is along d: det d s t times it is det e s t times d
module _ (d s t e : Triple) (first : dot (cross d s) e ≡ pos 0) (second : dot (cross d t) e ≡ pos 0) where
  abbrev all : List ℤ
  all = d.x ∷ d.y ∷ d.z ∷ s.x ∷ s.y ∷ s.z ∷ t.x ∷ t.y ∷ t.z ∷ e.x ∷ e.y ∷ e.z ∷ []

  abbrev E : Letters
  E = letters 9

  abbrev gap : Expr → Expr → Expr
  gap of_e of_d = (dots D (crosses S T) ⊗ of_e) ⊖ (dots E (crosses S T) ⊗ of_d)

  abbrev parts : Expr → Expr → Expr
  parts of_s of_t = ((dots (crosses D S) E ⊖ con (pos 0)) ⊗ of_t) ⊕ ((dots (crosses D T) E ⊖ con (pos 0)) ⊗ (con (pos 0) ⊖ of_s))

  along_x : det d s t *ℤ e.x ≡ det e s t *ℤ d.x
  along_x = by_two _ _ (dot (cross d s) e) (pos 0) t.x (dot (cross d t) e) (pos 0) (pos 0 -ℤ s.x) (ring all (gap E.x D.x) (parts S.x T.x) refl) first second

  along_y : det d s t *ℤ e.y ≡ det e s t *ℤ d.y
  along_y = by_two _ _ (dot (cross d s) e) (pos 0) t.y (dot (cross d t) e) (pos 0) (pos 0 -ℤ s.y) (ring all (gap E.y D.y) (parts S.y T.y) refl) first second

  along_z : det d s t *ℤ e.z ≡ det e s t *ℤ d.z
  along_z = by_two _ _ (dot (cross d s) e) (pos 0) t.z (dot (cross d t) e) (pos 0) (pos 0 -ℤ s.z) (ring all (gap E.z D.z) (parts S.z T.z) refl) first second

-- two points at each of which twice a value is the same number times w
pub one_number : (a b n v w : ℤ) → pos 2 *ℤ a ≡ n *ℤ v → pos 2 *ℤ b ≡ n *ℤ w → a *ℤ w ≡ b *ℤ v
one_number a b n v w e f =
    same_of_products (a *ℤ w) (b *ℤ v) (pos 2) (omega (arith, ints))
    (by_two _ _ (pos 2 *ℤ a) (n *ℤ v) w (pos 2 *ℤ b) (n *ℤ w) (pos 0 -ℤ v)
    (ring (a ∷ b ∷ n ∷ v ∷ w ∷ [])
    (((var 0 ⊗ var 4) ⊗ con (pos 2)) ⊖ ((var 1 ⊗ var 3) ⊗ con (pos 2)))
    ((((con (pos 2) ⊗ var 0) ⊖ (var 2 ⊗ var 3)) ⊗ var 4) ⊕ (((con (pos 2) ⊗ var 1) ⊖ (var 2 ⊗ var 4)) ⊗ (con (pos 0) ⊖ var 3))) refl) e f)

-- ---- points on a line
module _ (d : Triple) where
  det_is : (s t : Triple) → det d s t ≡ dot (cross d s) t
  det_is s t = ring (d.x ∷ d.y ∷ d.z ∷ s.x ∷ s.y ∷ s.z ∷ t.x ∷ t.y ∷ t.z ∷ []) (dots D (crosses S T)) (dots (crosses D S) T) refl

  -- the place's determinant agrees with that of what is seen on the line
  seen_level : (l : StepLine) (c p : Point) → ¬ IsZero d → IsOnStepLine d l c → IsSeenOn d l p → dot (cross d l.step) (scaled c) *ℤ p.w ≡ dot (cross d l.step) (scaled p) *ℤ c.w
  seen_level l c p somewhere on (q, positive, on_too, same) =
      same_through (dot (cross d l.step) (scaled c)) (dot (cross d l.step) (scaled q)) (dot (cross d l.step) (scaled p)) c.w q.w p.w positive
      (one_number (dot (cross d l.step) (scaled c)) (dot (cross d l.step) (scaled q)) l.number c.w q.w (of_det c on) (of_det q on_too))
      (agree_of_sight d (cross d l.step) q p somewhere (up_axis-level d l.step) same)
    where
      of_det : (r : Point) → IsOnStepLine d l r → pos 2 *ℤ dot (cross d l.step) (scaled r) ≡ l.number *ℤ r.w
      of_det r h = ap (λ (z : ℤ). pos 2 *ℤ z) (sym (det_is l.step (scaled r))) ∙ h

  somewhere_of_turn : (s t : Triple) → ¬ (det d s t ≡ pos 0) → ¬ IsZero d
  somewhere_of_turn s t turns nothing = turns ((λ i. (nothing.x i *ℤ (cross s t).x +ℤ nothing.y i *ℤ (cross s t).y) +ℤ nothing.z i *ℤ (cross s t).z) ∙ none (cross s t).x (cross s t).y (cross s t).z)
    where
      none : (a b c : ℤ) → (pos 0 *ℤ a +ℤ pos 0 *ℤ b) +ℤ pos 0 *ℤ c ≡ pos 0
      none a b c = omega (arith, ints)

counts : (z : ℤ) → ¬ (z ≡ pos 0) → 0 < unsigned_abs z
counts (pos zero) h = absurd (h refl)
counts (pos (suc n)) h = omega arith
counts (negsuc n) h = omega arith

-- ---- what is seen on two lines is on the line of sight of their crossing
module _ (d : Triple) (l m : StepLine) (turns : ¬ (turn_of d l m ≡ pos 0)) (c p : Point) (on_l : IsOnStepLine d l c) (on_m : IsOnStepLine d m c) (seen_l : IsSeenOn d l p) (seen_m : IsSeenOn d m p) where
  pub crossing_in_sight : OnOneSight d c p
  crossing_in_sight =
      let somewhere = somewhere_of_turn d l.step m.step turns in
      let level = nothing_along (cross d l.step) c p (seen_level d l c p somewhere on_l seen_l) in
      let level_too = nothing_along (cross d m.step) c p (seen_level d m c p somewhere on_m seen_m) in
      let k = turn_of d l m in
      let e = offset c p in
      sight_of_along d c p (record {
        n = k *ℤ det e l.step m.step;
        m = k *ℤ k;
        positive = square_pos k (counts k turns);
        x = by_factor k (det e l.step m.step) e.x d.x (along_x d l.step m.step e level level_too);
        y = by_factor k (det e l.step m.step) e.y d.y (along_y d l.step m.step e level level_too);
        z = by_factor k (det e l.step m.step) e.z d.z (along_z d l.step m.step e level level_too);
      })
    where
      by_factor : (k n a b : ℤ) → k *ℤ a ≡ n *ℤ b → (k *ℤ k) *ℤ a ≡ (k *ℤ n) *ℤ b
      by_factor k n a b e = by_one _ _ (k *ℤ a) (n *ℤ b) k (ring (k ∷ n ∷ a ∷ b ∷ []) (((var 0 ⊗ var 0) ⊗ var 2) ⊖ ((var 0 ⊗ var 1) ⊗ var 3)) (((var 0 ⊗ var 2) ⊖ (var 1 ⊗ var 3)) ⊗ var 0) refl) e

-- ---- the list with that place
place_is_point : (d : Triple) (l m : StepLine) → ¬ (turn_of d l m ≡ pos 0) → IsPoint (place_by (turn_of d l m) d l m)
place_is_point d l m turns = twice_positive (turn_of d l m *ℤ turn_of d l m) (square_pos (turn_of d l m) (counts (turn_of d l m) turns))

module _ (z : ℤ) (q : Point) where
  unless_zero-few : length (unless_zero z q) ≤ 1
  unless_zero-few = by z
    where
      by : (z : ℤ) → length (unless_zero z q) ≤ 1
      by (pos zero) = omega arith
      by (pos (suc n)) = omega arith
      by (negsuc n) = omega arith

  unless_zero-all : (P : Point → Type 0) → (¬ (z ≡ pos 0) → P q) → All P (unless_zero z q)
  unless_zero-all P = by z
    where
      by : (z : ℤ) → (¬ (z ≡ pos 0) → P q) → All P (unless_zero z q)
      by (pos zero) h = All-nil P
      by (pos (suc n)) h = All-cons P q [] (h (λ e. omega (arith, ints))) (All-nil P)
      by (negsuc n) h = All-cons P q [] (h (λ e. omega (arith, ints))) (All-nil P)

  Contains-unless_zero : ¬ (z ≡ pos 0) → Contains (unless_zero z q) q
  Contains-unless_zero = by z
    where
      by : (z : ℤ) → ¬ (z ≡ pos 0) → Contains (unless_zero z q) q
      by (pos zero) h = absurd (h refl)
      by (pos (suc n)) h = Contains-first q []
      by (negsuc n) h = Contains-first q []

module _ (d : Triple) (l m : StepLine) where
  abbrev k : ℤ
  k = turn_of d l m

  pub crossing-few : length (crossing d l m) ≤ 1
  crossing-few = unless_zero-few k (place_by k d l m)

  pub crossing-points : All IsPoint (crossing d l m)
  crossing-points = unless_zero-all k (place_by k d l m) IsPoint (place_is_point d l m)

  pub crossing-listed : (p : Point) → ¬ (k ≡ pos 0) → IsSeenOn d l p → IsSeenOn d m p → IsInSightOfOne d (crossing d l m) p
  crossing-listed p turns seen_l seen_m = (
    place_by k d l m,
    Contains-unless_zero k (place_by k d l m) turns,
    crossing_in_sight d l m turns (place_by k d l m) p (place_on_first d l m k) (place_on_second d l m k) seen_l seen_m,
  )

-- ---- the crossings of each two of some lines
abbrev pub crossings : Triple → List StepLine → List Point
crossings d [] = []
crossings d (l ∷ ls) = flat_map (crossing d l) ls ++ crossings d ls

module _ (d : Triple) where
  pub crossings-few : (ls : List StepLine) → length (crossings d ls) ≤ pairs_of (length ls)
  crossings-few [] = omega arith
  crossings-few (l ∷ ls) =
      sum (length ls) (pairs_of (length ls)) _ _ _ _ (length-append (flat_map (crossing d l) ls) (crossings d ls))
      (length-flat_map-few (crossing d l) 1 (crossing-few d l) ls) (crossings-few ls) (pairs-suc (length ls))
    where
      sum : (n m l k a b : ℕ) → l ≡ a + b → a ≤ 1 * n → b ≤ m → k ≡ n + m → l ≤ k
      sum n m l k a b e f g h = omega arith

  pub crossings-points : (ls : List StepLine) → All IsPoint (crossings d ls)
  crossings-points [] = All-nil IsPoint
  crossings-points (l ∷ ls) = All-append IsPoint (flat_map (crossing d l) ls) (crossings d ls) (All-flat_map (crossing d l) IsPoint (crossing-points d l) ls) (crossings-points ls)

  no_turn : (s : Triple) → det d s s ≡ pos 0
  no_turn s = ring (d.x ∷ d.y ∷ d.z ∷ s.x ∷ s.y ∷ s.z ∷ []) (dots D (crosses S S)) (con (pos 0)) refl

  of_first : (l m : StepLine) (ls : List StepLine) (p : Point) → Contains ls m → IsInSightOfOne d (crossing d l m) p → IsInSightOfOne d (crossings d (l ∷ ls)) p
  of_first l m ls p there (q, in_crossing, same) =
      (q, Contains-append_left (flat_map (crossing d l) ls) (crossings d ls) q (Contains-flat_map (crossing d l) ls m q there in_crossing), same)

  of_rest : (l : StepLine) (ls : List StepLine) (p : Point) → IsInSightOfOne d (crossings d ls) p → IsInSightOfOne d (crossings d (l ∷ ls)) p
  of_rest l ls p (q, in_rest, same) = (q, Contains-append_right (flat_map (crossing d l) ls) (crossings d ls) q in_rest, same)

  -- what is seen on two lines that aren't seen parallel is on the line of sight of one of them
  pub crossings-listed : (ls : List StepLine) (l m : StepLine) (p : Point) → Contains ls l → Contains ls m → ¬ (turn_of d l m ≡ pos 0) → IsSeenOn d l p → IsSeenOn d m p
      → IsInSightOfOne d (crossings d ls) p
  crossings-listed [] l m p (i, within, is) there turns seen_l seen_m = absurd (omega arith)
  crossings-listed (x ∷ xs) l m p (zero, within, is) (zero, within_too, is_too) turns seen_l seen_m =
      absurd (turns (subst (λ (y : StepLine). turn_of d y m ≡ pos 0) is (subst (λ (y : StepLine). turn_of d x y ≡ pos 0) is_too (no_turn x.step))))
  crossings-listed (x ∷ xs) l m p (zero, within, is) (suc j, within_too, is_too) turns seen_l seen_m =
      of_first x m xs p (j, omega arith, is_too) (subst (λ (y : StepLine). IsInSightOfOne d (crossing d y m) p) (sym is) (crossing-listed d l m p turns seen_l seen_m))
  crossings-listed (x ∷ xs) l m p (suc i, within, is) (zero, within_too, is_too) turns seen_l seen_m =
      of_first x l xs p (i, omega arith, is)
      (subst (λ (y : StepLine). IsInSightOfOne d (crossing d y l) p) (sym is_too) (crossing-listed d m l p (λ none. turns (det_turned d m.step l.step none)) seen_m seen_l))
  crossings-listed (x ∷ xs) l m p (suc i, within, is) (suc j, within_too, is_too) turns seen_l seen_m =
      of_rest x xs p (crossings-listed xs l m p (i, omega arith, is) (j, omega arith, is_too) turns seen_l seen_m)
