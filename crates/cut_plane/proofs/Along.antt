-- Along an edge, whether its points are in the section changes only where a border crosses it, as they are seen.
use Rattle.std.proofs.Common.{◌≡◌, ℕ, ◌+◌, ◌<◌, ◌⊎◌, inl, inr, All, length, [], ◌∷◌, refl, sym, subst, ap, ◌∙◌, arith, unsigned_abs}
use Rattle.std.specs.Prelude.{ℤ, pos, ◌+ℤ◌, ◌-ℤ◌, ◌*ℤ◌, ◌<ℤ◌, ◌≤ℤ◌, ◌↔◌}
use Rattle.std.proofs.lemmas.Int.{ints, by_lt_z}
use Rattle.geometry.proofs.FacePoints.{face_point-round}
use Rattle.integers.proofs.Absolutes.{natural_not_negative}
use Rattle.integers.proofs.Comparisons.{gap_of_at_most, at_most_by, zero_between, less_not_at_most}
use Rattle.integers.proofs.Ring.{Expr, var, con, ◌⊕◌, ◌⊖◌, ◌⊗◌, ring, by_two, same_of_gap}
use Rattle.integers.proofs.Signs.{mul_nonneg, mul_pos, mul_neg}
use Rattle.integers.proofs.Weighted.{sum_pos}
use Rattle.lattice.specs.declared.points.Corner.{Corner}
use Rattle.lattice.specs.Triangles.{IsBelow}
use Rattle.lattice.specs.Triple.{Triple, dot, cross, det, right_axis, up_axis}
use Rattle.lattice.specs.Points.{Point, scaled, OnOneSight}
use Rattle.lattice.specs.Cuts.{Plane, toward_of}
use Rattle.lattice.proofs.Vectors.{Letters, letters, dots}
use Rattle.geometry.specs.Faces.{difference, normal, share_point, IsPointOfFace}
use Rattle.geometry.specs.Parts.{Part, Face, Edge, IsClosed}
use Rattle.geometry.specs.Cuts.{over_of, IsInSection}
use Rattle.cut_plane.proofs.Sights.{Sight, sight_of, turn_of, crossing_sight}
use Rattle.cut_plane.specs.Crossings.{CrossesAt}
use Rattle.cut_plane.proofs.Lies.{IsAcross, up, down}
use Rattle.cut_plane.proofs.Planes.{IsClearOf}
use Rattle.cut_plane.proofs.LoneCorners.{IsAlone, before, beyond, border_sum, sum_on_plane, sum_there, above_sum, right_sum}
use Rattle.cut_plane.proofs.FaceBorders.{IsFaceClear, crossing_turned}
use Rattle.cut_plane.proofs.Sections.{section_alike}
use Rattle.cut_plane.proofs.Steps.{normal_turned, same_turns}
use Rattle.cut_plane.proofs.Meetings.{AreAcross, AreOneSum, clear_unless, meeting}

-- ---- sums of places
share_sum : (s : Triple) (a b : Corner) (n m n' m' g h : ℤ)
    → dot s (scaled (share_point a b ((g *ℤ n) +ℤ (h *ℤ n')) ((g *ℤ m) +ℤ (h *ℤ m')))) ≡ (g *ℤ dot s (scaled (share_point a b n m))) +ℤ (h *ℤ dot s (scaled (share_point a b n' m')))
share_sum s a b n m n' m' g h =
    ring (s.x ∷ s.y ∷ s.z ∷ a.x ∷ a.y ∷ a.z ∷ b.x ∷ b.y ∷ b.z ∷ n ∷ m ∷ n' ∷ m' ∷ g ∷ h ∷ [])
    (dots (letters 0) (shared ((var 13 ⊗ var 9) ⊕ (var 14 ⊗ var 11)) ((var 13 ⊗ var 10) ⊕ (var 14 ⊗ var 12))))
    ((var 13 ⊗ dots (letters 0) (shared (var 9) (var 10))) ⊕ (var 14 ⊗ dots (letters 0) (shared (var 11) (var 12)))) refl
  where
    shared : Expr → Expr → Letters
    shared n m = record { x = ((m ⊖ n) ⊗ var 3) ⊕ (n ⊗ var 6); y = ((m ⊖ n) ⊗ var 4) ⊕ (n ⊗ var 7); z = ((m ⊖ n) ⊗ var 5) ⊕ (n ⊗ var 8) }

vanishes : (i j k l x y u w : ℤ) → (i *ℤ k) +ℤ (j *ℤ l) ≡ u → (i *ℤ x) +ℤ (j *ℤ y) ≡ w → (i *ℤ ((k *ℤ w) -ℤ (u *ℤ x))) +ℤ (j *ℤ ((l *ℤ w) -ℤ (u *ℤ y))) ≡ pos 0
vanishes i j k l x y u w e g =
    by_two _ _ ((i *ℤ k) +ℤ (j *ℤ l)) u w ((i *ℤ x) +ℤ (j *ℤ y)) w (pos 0 -ℤ u)
    (ring (i ∷ j ∷ k ∷ l ∷ x ∷ y ∷ u ∷ w ∷ [])
    (((var 0 ⊗ ((var 2 ⊗ var 7) ⊖ (var 6 ⊗ var 4))) ⊕ (var 1 ⊗ ((var 3 ⊗ var 7) ⊖ (var 6 ⊗ var 5)))) ⊖ con (pos 0))
    (((((var 0 ⊗ var 2) ⊕ (var 1 ⊗ var 3)) ⊖ var 6) ⊗ var 7) ⊕ ((((var 0 ⊗ var 4) ⊕ (var 1 ⊗ var 5)) ⊖ var 7) ⊗ (con (pos 0) ⊖ var 6))) refl) e g

after_first : (n m n' m' g h : ℤ) → (n *ℤ m') ≤ℤ (n' *ℤ m) → pos 0 ≤ℤ h → (n *ℤ ((g *ℤ m) +ℤ (h *ℤ m'))) ≤ℤ (((g *ℤ n) +ℤ (h *ℤ n')) *ℤ m)
after_first n m n' m' g h order least =
    at_most_by _ _ (h *ℤ ((n' *ℤ m) -ℤ (n *ℤ m')))
    (ring (n ∷ m ∷ n' ∷ m' ∷ g ∷ h ∷ [])
    ((((var 4 ⊗ var 0) ⊕ (var 5 ⊗ var 2)) ⊗ var 1) ⊖ (var 0 ⊗ ((var 4 ⊗ var 1) ⊕ (var 5 ⊗ var 3)))) (var 5 ⊗ ((var 2 ⊗ var 1) ⊖ (var 0 ⊗ var 3))) refl)
    (mul_nonneg h _ least (gap_of_at_most _ _ order))

before_second : (n m n' m' g h : ℤ) → (n *ℤ m') ≤ℤ (n' *ℤ m) → pos 0 ≤ℤ g → (((g *ℤ n) +ℤ (h *ℤ n')) *ℤ m') ≤ℤ (n' *ℤ ((g *ℤ m) +ℤ (h *ℤ m')))
before_second n m n' m' g h order least =
    at_most_by _ _ (g *ℤ ((n' *ℤ m) -ℤ (n *ℤ m')))
    (ring (n ∷ m ∷ n' ∷ m' ∷ g ∷ h ∷ [])
    ((var 2 ⊗ ((var 4 ⊗ var 1) ⊕ (var 5 ⊗ var 3))) ⊖ (((var 4 ⊗ var 0) ⊕ (var 5 ⊗ var 2)) ⊗ var 3)) (var 4 ⊗ ((var 2 ⊗ var 1) ⊖ (var 0 ⊗ var 3))) refl)
    (mul_nonneg g _ least (gap_of_at_most _ _ order))

-- two sides that are apart and of one value are nothing
none_apart : (x x' m m' : ℤ) → pos 0 <ℤ m → pos 0 <ℤ m' → x *ℤ m' ≡ x' *ℤ m → IsAcross x x' → 0 < unsigned_abs x' + unsigned_abs x → ⊥
none_apart x x' m m' m_there m_there' e across some =
    by_lt_z (pos 0) x (λ p. no_up p across) (λ p. by_lt_z x (pos 0) (λ q. no_down q across) (λ q. by_lt_z (pos 0) x'
    (λ r. less _ _ e (mul_none x m' p q) (mul_pos x' m r m_there)) (λ r. by_lt_z x' (pos 0) (λ t. greater _ _ e (mul_none x m' p q) (lower x' m t m_there)) (λ t. nothing x x' p q r t some))))
  where
    swap : (a b : ℤ) → a *ℤ b ≡ b *ℤ a
    swap a b = ring (a ∷ b ∷ []) (var 0 ⊗ var 1) (var 1 ⊗ var 0) refl

    lower : (a b : ℤ) → a <ℤ pos 0 → pos 0 <ℤ b → (a *ℤ b) <ℤ pos 0
    lower a b p q = subst (λ (z : ℤ). z <ℤ pos 0) (swap b a) (mul_neg b a q p)

    mul_none : (a b : ℤ) → a ≤ℤ pos 0 → pos 0 ≤ℤ a → a *ℤ b ≡ pos 0
    mul_none a b p q = ap (λ z. z *ℤ b) (zero_between a q p) ∙ ring (b ∷ []) (con (pos 0) ⊗ var 0) (con (pos 0)) refl

    less : (a b : ℤ) → a ≡ b → a ≡ pos 0 → pos 0 <ℤ b → ⊥
    less a b e g h = omega (arith, ints)

    greater : (a b : ℤ) → a ≡ b → a ≡ pos 0 → b <ℤ pos 0 → ⊥
    greater a b e g h = omega (arith, ints)

    nothing : (x x' : ℤ) → x ≤ℤ pos 0 → pos 0 ≤ℤ x → x' ≤ℤ pos 0 → pos 0 ≤ℤ x' → 0 < unsigned_abs x' + unsigned_abs x → ⊥
    nothing x x' p q r t h = omega (arith, ints)

    clash_up : (a b : ℤ) → a ≡ b → pos 0 <ℤ a → b ≤ℤ pos 0 → ⊥
    clash_up a b e h g = omega (arith, ints)

    clash_down : (a b : ℤ) → a ≡ b → a <ℤ pos 0 → pos 0 ≤ℤ b → ⊥
    clash_down a b e h g = omega (arith, ints)

    no_up : pos 0 <ℤ x → IsAcross x x' → ⊥
    no_up p (up q r) = less_not_at_most (pos 0) x p q
    no_up p (down q r) = clash_up _ _ e (mul_pos x m' p m_there') (weak x' m r m_there)
      where
        back : (y z : ℤ) → y ≡ pos 0 -ℤ z → pos 0 ≤ℤ y → z ≤ℤ pos 0
        back y z e h = omega (arith, ints)

        weak : (a b : ℤ) → a ≤ℤ pos 0 → pos 0 <ℤ b → (a *ℤ b) ≤ℤ pos 0
        weak a b p q = back ((pos 0 -ℤ a) *ℤ b) (a *ℤ b) (ring (a ∷ b ∷ []) ((con (pos 0) ⊖ var 0) ⊗ var 1) (con (pos 0) ⊖ (var 0 ⊗ var 1)) refl) (mul_nonneg (pos 0 -ℤ a) b (omega (arith, ints)) (omega (arith, ints)))

    no_down : x <ℤ pos 0 → IsAcross x x' → ⊥
    no_down p (up q r) = clash_down _ _ e (lower x m' p m_there') (mul_nonneg x' m r (omega (arith, ints)))
    no_down p (down q r) = less_not_at_most x (pos 0) p q

module _ (c : Plane) (k l t : Corner) where
  pub crossings_there : IsAlone c k l t → (pos 0 <ℤ (crossing_sight c k l).w) × (pos 0 <ℤ (crossing_sight c k t).w)
  crossings_there (before p q r) = (there (over_of c k) (over_of c l) p, there (over_of c k) (over_of c t) p)
    where
      there : (x y : ℤ) → pos 0 <ℤ x → pos 0 <ℤ pos (unsigned_abs y + unsigned_abs x)
      there x y h = omega (arith, ints)
  crossings_there (beyond p q r) = (there (over_of c k) (over_of c l) p, there (over_of c k) (over_of c t) p)
    where
      there : (x y : ℤ) → x <ℤ pos 0 → pos 0 <ℤ pos (unsigned_abs y + unsigned_abs x)
      there x y h = omega (arith, ints)

-- ---- between two places of an edge
module _ (c : Plane) {s : Part} (e : Edge s) (f : Face s) (n m n' m' : ℤ) (m_there : pos 0 <ℤ m) (m_there' : pos 0 <ℤ m') (order : (n *ℤ m') ≤ℤ (n' *ℤ m))
    (none : (i j : ℤ) → pos 0 <ℤ j → (n *ℤ j) ≤ℤ (i *ℤ m) → (i *ℤ m') ≤ℤ (n' *ℤ j) → ¬ CrossesAt c f e i j) where
  abbrev d : Triple
  d = toward_of c

  abbrev P : Sight
  P = sight_of d (share_point e.a e.b n m)

  abbrev Q : Sight
  Q = sight_of d (share_point e.a e.b n' m')

  module _ (k l t : Corner) (alone : IsAlone c k l t) (of_face : (r : Point) → IsPointOfFace f.a f.b f.c r → IsPointOfFace k l t r) (on_face : (r : Point) → IsPointOfFace k l t r → IsPointOfFace f.a f.b f.c r)
      (same_normal : normal k l t ≡ normal f.a f.b f.c) where
    abbrev K : Sight
    K = crossing_sight c k l

    abbrev L : Sight
    L = crossing_sight c k t

    module _ (across : AreAcross (turn_of K L P) (turn_of K L Q) (turn_of P Q K) (turn_of P Q L)) (one : AreOneSum K L P Q (turn_of K L P) (turn_of K L Q)) where
      abbrev g : ℕ
      g = unsigned_abs (turn_of K L Q)

      abbrev h : ℕ
      h = unsigned_abs (turn_of K L P)

      -- where they meet
      abbrev place : ℤ
      place = (pos g *ℤ n) +ℤ (pos h *ℤ n')

      abbrev whole : ℤ
      whole = (pos g *ℤ m) +ℤ (pos h *ℤ m')

      abbrev z : Point
      z = share_point e.a e.b place whole

      abbrev r : Point
      r = border_sum c k l t alone one.i one.j

      one_sight : OnOneSight d r z
      one_sight = record {
        across = same_of_gap _ _ (right_sum c k l t alone z f of_face on_face one.i one.j
            ∙ vanishes (pos one.i) (pos one.j) K.u L.u K.w L.w (dot (right_axis d) (scaled z)) whole (one.u ∙ sym (share_sum (right_axis d) e.a e.b n m n' m' (pos g) (pos h))) one.w);
        upward = same_of_gap _ _ (above_sum c k l t alone z f of_face on_face one.i one.j
            ∙ vanishes (pos one.i) (pos one.j) K.v L.v K.w L.w (dot (up_axis d) (scaled z)) whole (one.v ∙ sym (share_sum (up_axis d) e.a e.b n m n' m' (pos g) (pos h))) one.w);
      }

      never : ⊥
      never = none place whole (sum_pos m m' g h m_there m_there' one.some_sights)
          (after_first n m n' m' (pos g) (pos h) order (natural_not_negative h))
          (before_second n m n' m' (pos g) (pos h) order (natural_not_negative g))
          (record {
            passes = (r, (on_face r (sum_there c k l t alone one.i one.j one.some_ends), sum_on_plane c k l t alone one.i one.j), one_sight);
            turns = λ parallel.
                none_apart (turn_of K L P) (turn_of K L Q) m m' m_there m_there'
                (same_turns c k l t alone e.a e.b n m n' m' (ap (λ v. det d (difference e.a e.b) (cross d v)) same_normal ∙ parallel)) across.first one.some_sights;
          })

    alone_clear : IsClearOf K L P Q
    alone_clear = by (clear_unless (turn_of K L P) (turn_of K L Q) (turn_of P Q K) (turn_of P Q L))
      where
        by : IsClearOf K L P Q ⊎ AreAcross (turn_of K L P) (turn_of K L Q) (turn_of P Q K) (turn_of P Q L) → IsClearOf K L P Q
        by (inl clear) = clear
        by (inr across) =
            let there = crossings_there c k l t alone in
            absurd (never across (meeting K L P Q there.0 there.1 m_there m_there' across))

    turned_clear : IsClearOf (crossing_sight c k l) (crossing_sight c t k) P Q
    turned_clear = subst (λ (x : Sight). IsClearOf K x P Q) (crossing_turned c k t) alone_clear

  pub face_clear : IsFaceClear c f.a f.b f.c P Q
  face_clear = record {
    first = λ alone. turned_clear f.a f.b f.c alone (λ r h. h) (λ r h. h) refl;
    second = λ alone. turned_clear f.b f.c f.a alone (face_point-round f.a f.b f.c) (λ r h. face_point-round f.c f.a f.b r (face_point-round f.b f.c f.a r h)) (normal_turned f.a f.b f.c);
    third = λ alone. turned_clear f.c f.a f.b alone (λ r h. face_point-round f.b f.c f.a r (face_point-round f.a f.b f.c r h)) (face_point-round f.c f.a f.b) (normal_turned f.b f.c f.a ∙ normal_turned f.a f.b f.c);
  }

-- With no border across the line of sight of any place from the one to the other, both points are in the section or both not.
pub section_along : (c : Plane) (s : Part) → IsClosed s → All (IsBelow (length s.corners)) s.triangles → (e : Edge s) (n m n' m' : ℤ) → pos 0 <ℤ m → pos 0 <ℤ m' → (n *ℤ m') ≤ℤ (n' *ℤ m)
    → ((f : Face s) (i j : ℤ) → pos 0 <ℤ j → (n *ℤ j) ≤ℤ (i *ℤ m) → (i *ℤ m') ≤ℤ (n' *ℤ j) → ¬ CrossesAt c f e i j)
    → IsInSection c s (share_point e.a e.b n m) ↔ IsInSection c s (share_point e.a e.b n' m')
section_along c s closed in_range e n m n' m' m_there m_there' order none =
    section_alike c s closed in_range e.a (share_point e.a e.b n m) (share_point e.a e.b n' m') m_there m_there' (λ f. face_clear c e f n m n' m' m_there m_there' order (none f))
