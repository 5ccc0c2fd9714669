-- What the plane leaves of a face is nearer over all places next to an edge's first end or over none of them, and they are clear of sides and borders.
use Rattle.std.proofs.Common.{◌≡◌, ◌≢◌, ℕ, zero, suc, ◌+◌, ◌≤◌, Option, Some, None, length, slice_get, [], ◌∷◌, refl, sym, ap, subst, ◌∙◌, arith}
use Rattle.std.specs.Prelude.{ℤ, pos, ◌+ℤ◌, ◌-ℤ◌, ◌*ℤ◌, ◌<ℤ◌, ◌≤ℤ◌, ◌↔◌, false}
use Rattle.std.proofs.lemmas.Int.{ints, by_lt_z}
use Rattle.std.proofs.lemmas.Option.{slice_get_within}
use Rattle.integers.proofs.Absolutes.{natural_not_negative, natural_positive}
use Rattle.integers.proofs.Comparisons.{one_less_not_negative, sum_positive_last, at_most_of_less}
use Rattle.integers.proofs.Ring.{Expr, var, con, ◌⊕◌, ◌⊖◌, ◌⊗◌, ring, by_two, less_by, gap_of_less}
use Rattle.integers.proofs.Signs.{mul_pos, mul_nonneg, mul_nonpos, zero_of_either}
use Rattle.lattice.specs.declared.points.Corner.{Corner}
use Rattle.lattice.specs.Triple.{Triple, right_axis, up_axis}
use Rattle.lattice.specs.Points.{Point, IsPoint, point_of, height_of, OnOneSight}
use Rattle.lattice.specs.Cuts.{Plane, toward_of, plane_height, IsBeforePlane}
use Rattle.geometry.specs.Cuts.{start_corner, end_corner, crossing_of, IsBorderOf}
use Rattle.geometry.specs.Faces.{face_sum, facing_of, share_point, IsPointOfFace}
use Rattle.geometry.specs.Parts.{Part, Face, Edge}
use Rattle.geometry.proofs.FacePoints.{dot-face_sum}
use Rattle.hiding_laws.proofs.OnScreens.{seen, raised, covers_of_sum, covers_of_hides, hides_of_covers}
use Rattle.hiding_laws.proofs.Readings.{dot-share}
use Rattle.hiding_laws.proofs.ScreenLetters.{A, B, C, P, I, J, K, area, turn, weighed, values}
use Rattle.hiding_laws.proofs.Screens.{Screen, area_of, turn_of, lead_of, Covers}
use Rattle.geometry.specs.Counts.{Side}
use Rattle.hiding_laws.proofs.AllCorner.{below_back}
use Rattle.hiding_laws.proofs.CornerLaws.{IsBelow, IsNear}
use Rattle.hiding_laws.proofs.NearFaces.{above_all, wider}
use Rattle.hiding_laws.proofs.NearPlace.{IsAbove, covers_near, clear_face_near}
use Rattle.hiding_laws.proofs.OneFace.{turn-reverse}
use Rattle.hiding_laws.proofs.Places.{place_of}
use Rattle.hiding_laws.proofs.Seen.{on, facing_some, place_seen}
use Rattle.hiding_laws.proofs.Shares.{IsClearOf}
use Rattle.cut_count_laws.specs.CutCovers.{RestHides, RestHidesNext, IsCutCoveredNext}
use Rattle.cut_count_laws.proofs.Laws.{NearLaw}
use Rattle.cut_count_laws.proofs.Rests.{RestCounts, IsClearOfRest, corner_with, first_with, second_with}

-- ---- the spot of a triangle
-- how much higher than x the sum of three corners is, by its weights, is told by the triangle's lead
module _ (a b c x : Screen) where
  abbrev higher : ℤ → ℤ → ℤ → ℤ
  higher i j k = ((((i *ℤ a.h) +ℤ (j *ℤ b.h)) +ℤ (k *ℤ c.h)) *ℤ x.w) -ℤ (x.h *ℤ ((i +ℤ j) +ℤ k))

  -- the sum is on the line of sight
  record AreAt (i j k : ℤ) : Type 0 where
    same_u : (((i *ℤ a.u) +ℤ (j *ℤ b.u)) +ℤ (k *ℤ c.u)) *ℤ x.w ≡ x.u *ℤ ((i +ℤ j) +ℤ k)
    same_v : (((i *ℤ a.v) +ℤ (j *ℤ b.v)) +ℤ (k *ℤ c.v)) *ℤ x.w ≡ x.v *ℤ ((i +ℤ j) +ℤ k)

  lead-weighed : (i j k : ℤ) → AreAt i j k → ((i +ℤ j) +ℤ k) *ℤ lead_of a b c x ≡ area_of a b c *ℤ higher i j k
  lead-weighed i j k at =
      by_two _ _ _ _ (pos 0 -ℤ ((((b.v -ℤ c.v) *ℤ a.h) +ℤ ((c.v -ℤ a.v) *ℤ b.h)) +ℤ ((a.v -ℤ b.v) *ℤ c.h))) _ _ ((((b.u -ℤ c.u) *ℤ a.h) +ℤ ((c.u -ℤ a.u) *ℤ b.h)) +ℤ ((a.u -ℤ b.u) *ℤ c.h))
      (ring (values a b c x i j k)
      ((S ⊗ ((((turn P B C ⊗ A.h) ⊕ (turn P C A ⊗ B.h)) ⊕ (turn P A B ⊗ C.h)) ⊖ (P.h ⊗ area A B C))) ⊖ (area A B C ⊗ ((weighed I J K A.h B.h C.h ⊗ P.w) ⊖ (P.h ⊗ S))))
      ((((weighed I J K A.u B.u C.u ⊗ P.w) ⊖ (P.u ⊗ S)) ⊗ (con (pos 0) ⊖ ((((B.v ⊖ C.v) ⊗ A.h) ⊕ ((C.v ⊖ A.v) ⊗ B.h)) ⊕ ((A.v ⊖ B.v) ⊗ C.h))))
      ⊕ (((weighed I J K A.v B.v C.v ⊗ P.w) ⊖ (P.v ⊗ S)) ⊗ ((((B.u ⊖ C.u) ⊗ A.h) ⊕ ((C.u ⊖ A.u) ⊗ B.h)) ⊕ ((A.u ⊖ B.u) ⊗ C.h)))) refl)
      at.same_u at.same_v
    where
      S : Expr
      S = (I ⊕ J) ⊕ K

  -- so it is the same for all weights, where the triangle is not edge-on
  one_spot : ¬ (area_of a b c ≡ pos 0) → (i j k l m n : ℤ) → AreAt i j k → AreAt l m n → pos 0 <ℤ ((i +ℤ j) +ℤ k) → pos 0 <ℤ ((l +ℤ m) +ℤ n) → pos 0 <ℤ higher i j k → higher l m n ≤ℤ pos 0 → ⊥
  one_spot some i j k l m n at at' first second high low =
      apart _ _ (mul_pos _ _ second high) (mul_nonpos _ _ first low)
      (zero_of_either (area_of a b c) (area_of a b c) _ (λ e f. some e) equal equal)
    where
      apart : (x y : ℤ) → pos 0 <ℤ x → y ≤ℤ pos 0 → x -ℤ y ≡ pos 0 → ⊥
      apart x y h l e = omega (arith, ints)

      equal : area_of a b c *ℤ ((((l +ℤ m) +ℤ n) *ℤ higher i j k) -ℤ (((i +ℤ j) +ℤ k) *ℤ higher l m n)) ≡ pos 0
      equal =
          by_two _ _ _ _ (pos 0 -ℤ ((l +ℤ m) +ℤ n)) _ _ ((i +ℤ j) +ℤ k)
          (ring (area_of a b c ∷ ((i +ℤ j) +ℤ k) ∷ ((l +ℤ m) +ℤ n) ∷ higher i j k ∷ higher l m n ∷ lead_of a b c x ∷ [])
          ((var 0 ⊗ ((var 2 ⊗ var 3) ⊖ (var 1 ⊗ var 4))) ⊖ con (pos 0))
          ((((var 1 ⊗ var 5) ⊖ (var 0 ⊗ var 3)) ⊗ (con (pos 0) ⊖ var 2)) ⊕ (((var 2 ⊗ var 5) ⊖ (var 0 ⊗ var 4)) ⊗ var 1)) refl)
          (lead-weighed i j k at) (lead-weighed l m n at')

-- ---- what the plane leaves of a face that is not edge-on
module _ (c : Plane) where
  abbrev d : Triple
  d = toward_of c

  -- heights twice as great, in which the plane's is whole
  abbrev pub twice : Corner → Screen
  twice k = raised (on d k) (pos 2 *ℤ height_of d (point_of k))

  -- on the plane, on the same line of sight
  abbrev pub level : Corner → Screen
  level k = raised (on d k) (plane_height c)

  abbrev level_at : Point → Screen
  level_at p = raised (seen d p) (plane_height c *ℤ p.w)

  level-place : (a b : Corner) (n m : ℤ) → level_at (share_point a b n m) ≡ place_of (level a) (level b) n m
  level-place a b n m = λ t. record {
    u = dot-share (right_axis d) a b n m t;
    v = dot-share (up_axis d) a b n m t;
    h = ring (plane_height c ∷ n ∷ m ∷ []) (var 0 ⊗ var 2) (((var 2 ⊖ var 1) ⊗ var 0) ⊕ (var 1 ⊗ var 0)) refl t;
    w = m;
  }

  module _ {s : Part} (f : Face s) (p : Point) (point : IsPoint p) where
    abbrev IsCovered : Type 0
    IsCovered = Covers (on d f.a) (on d f.b) (on d f.c) (seen d p)

    -- the face has a spot before the plane
    abbrev IsOver : Type 0
    IsOver = Covers (twice f.a) (twice f.b) (twice f.c) (level_at p)

    doubled : (i j k x y z : ℤ) → ((i *ℤ (pos 2 *ℤ x)) +ℤ (j *ℤ (pos 2 *ℤ y))) +ℤ (k *ℤ (pos 2 *ℤ z)) ≡ pos 2 *ℤ (((i *ℤ x) +ℤ (j *ℤ y)) +ℤ (k *ℤ z))
    doubled i j k x y z = ring (i ∷ j ∷ k ∷ x ∷ y ∷ z ∷ [])
        (((var 0 ⊗ (con (pos 2) ⊗ var 3)) ⊕ (var 1 ⊗ (con (pos 2) ⊗ var 4))) ⊕ (var 2 ⊗ (con (pos 2) ⊗ var 5)))
        (con (pos 2) ⊗ (((var 0 ⊗ var 3) ⊕ (var 1 ⊗ var 4)) ⊕ (var 2 ⊗ var 5))) refl

    over_of_before : (q : Point) → IsPointOfFace f.a f.b f.c q → OnOneSight d q p → IsBeforePlane c q → IsOver
    over_of_before q (i, j, k, some, is) same before =
        covers_of_sum d f.a f.b f.c p (twice f.a).h (twice f.b).h (twice f.c).h (plane_height c *ℤ p.w) i j k some (subst (λ t. OnOneSight d t p) is same)
        (subst (λ v. ((plane_height c *ℤ p.w) *ℤ pos (i + j + k)) <ℤ (v *ℤ p.w))
        (ap (λ v. pos 2 *ℤ v) (dot-face_sum d f.a f.b f.c i j k) ∙ sym (doubled (pos i) (pos j) (pos k) _ _ _))
        (scaled (plane_height c) (pos (i + j + k)) (height_of d (face_sum f.a f.b f.c i j k)) p.w point (subst (IsBeforePlane c) is before)))
      where
        scaled : (l t h w : ℤ) → pos 0 <ℤ w → (l *ℤ t) <ℤ (pos 2 *ℤ h) → ((l *ℤ w) *ℤ t) <ℤ ((pos 2 *ℤ h) *ℤ w)
        scaled l t h w positive less =
            less_by _ _ _ (ring (l ∷ t ∷ h ∷ w ∷ []) (((con (pos 2) ⊗ var 2) ⊗ var 3) ⊖ ((var 0 ⊗ var 3) ⊗ var 1)) (var 3 ⊗ ((con (pos 2) ⊗ var 2) ⊖ (var 0 ⊗ var 1))) refl)
            (mul_pos w _ positive (gap_of_less _ _ less))

    not_over : facing_of d f.a f.b f.c ≢ pos 0 → (q : Point) → IsPointOfFace f.a f.b f.c q → OnOneSight d q p → ¬ IsBeforePlane c q → ¬ IsOver
    not_over turned q (i, j, k, some, is) same left v =
        one_spot (twice f.a) (twice f.b) (twice f.c) (level_at p) (facing_some d f.a f.b f.c turned) v.i v.j v.k (pos i) (pos j) (pos k)
        (record { same_u = v.same_u; same_v = v.same_v }) (at (subst (λ t. OnOneSight d t p) is same)) v.some (natural_positive (i + j + k) some) (gap_of_less _ _ v.nearer)
        (low (subst (λ t. ¬ IsBeforePlane c t) is left))
      where
        at : OnOneSight d (face_sum f.a f.b f.c i j k) p → AreAt (twice f.a) (twice f.b) (twice f.c) (level_at p) (pos i) (pos j) (pos k)
        at same = record {
          same_u = ap (λ v. v *ℤ p.w) (sym (dot-face_sum (right_axis d) f.a f.b f.c i j k)) ∙ same.across;
          same_v = ap (λ v. v *ℤ p.w) (sym (dot-face_sum (up_axis d) f.a f.b f.c i j k)) ∙ same.upward;
        }

        scaled : (l t h w : ℤ) → pos 0 <ℤ w → (pos 2 *ℤ h) ≤ℤ (l *ℤ t) → (((pos 2 *ℤ h) *ℤ w) -ℤ ((l *ℤ w) *ℤ t)) ≤ℤ pos 0
        scaled l t h w positive least =
            at_most_at _ _ (ring (l ∷ t ∷ h ∷ w ∷ []) (((con (pos 2) ⊗ var 2) ⊗ var 3) ⊖ ((var 0 ⊗ var 3) ⊗ var 1)) (var 3 ⊗ ((con (pos 2) ⊗ var 2) ⊖ (var 0 ⊗ var 1))) refl)
            (mul_nonpos w _ positive (below_gap _ _ least))
          where
            at_most_at : (x y : ℤ) → x ≡ y → y ≤ℤ pos 0 → x ≤ℤ pos 0
            at_most_at x y e h = omega (arith, ints)

            below_gap : (x y : ℤ) → x ≤ℤ y → (x -ℤ y) ≤ℤ pos 0
            below_gap x y h = omega (arith, ints)

        low : ¬ IsBeforePlane c (face_sum f.a f.b f.c i j k) → higher (twice f.a) (twice f.b) (twice f.c) (level_at p) (pos i) (pos j) (pos k) ≤ℤ pos 0
        low left =
            subst (λ v. ((v *ℤ p.w) -ℤ ((plane_height c *ℤ p.w) *ℤ pos (i + j + k))) ≤ℤ pos 0)
            (ap (λ v. pos 2 *ℤ v) (dot-face_sum d f.a f.b f.c i j k) ∙ sym (doubled (pos i) (pos j) (pos k) _ _ _))
            (scaled (plane_height c) (pos (i + j + k)) (height_of d (face_sum f.a f.b f.c i j k)) p.w point
            (by_lt_z (plane_height c *ℤ pos (i + j + k)) (pos 2 *ℤ height_of d (face_sum f.a f.b f.c i j k)) (λ before. absurd (left before)) (λ most. most)))

    covered_of_rest : facing_of d f.a f.b f.c ≢ pos 0 → RestHides c f p → IsCovered × ¬ IsOver
    covered_of_rest turned h = (
      covers_of_hides d f.a f.b f.c p (record { point = h.point; on_face = h.on_face; same_sight = h.same_sight; nearer = h.nearer }),
      not_over turned h.point h.on_face h.same_sight h.not_before,
    )

    rest_of_covered : IsCovered → ¬ IsOver → RestHides c f p
    rest_of_covered covered below =
        let h = hides_of_covers d f.a f.b f.c p covered in
        record { point = h.point; on_face = h.on_face; not_before = λ before. below (over_of_before h.point h.on_face h.same_sight before); same_sight = h.same_sight; nearer = h.nearer }

-- ---- a number above all values of a part's corners

module _ (s : Part) where
  abbrev pub IsIn : Corner → Type 0
  IsIn x = (n : ℕ) × (slice_get s.corners n ≡ Some x)

  worth_of : (Corner → ℤ) → Option Corner → ℤ
  worth_of g (Some x) = g x
  worth_of g None = pos 0

  above_one : (g : Corner → ℤ) → (k : ℕ) × ((x : Corner) → IsIn x → IsBelow (pos k) (g x))
  unfolding worth_of
  above_one g =
      let r = above_all (λ n. worth_of g (slice_get s.corners n)) (length s.corners) in
      (r.0, λ x (n, at). subst (λ o. IsBelow (pos r.0) (worth_of g o)) at (r.1 n (slice_get_within s.corners n x at)))

  above_two : (g : Corner → Corner → ℤ) → (k : ℕ) × ((x y : Corner) → IsIn x → IsIn y → IsBelow (pos k) (g x y))
  above_two g =
      let r = above_one (λ x. pos (above_one (g x)).0) in
      (r.0, λ x y in_x in_y. wider (pos (above_one (g x)).0) (pos r.0) (g x y) (at_most_of_less _ _ (r.1 x in_x).most) ((above_one (g x)).1 y in_y))

  pub above_four : (g : Corner → Corner → Corner → Corner → ℤ) → (k : ℕ) × ((x y z w : Corner) → IsIn x → IsIn y → IsIn z → IsIn w → IsBelow (pos k) (g x y z w))
  above_four g =
      let r = above_two (λ x y. pos (above_two (g x y)).0) in
      (r.0, λ x y z w in_x in_y in_z in_w. wider (pos (above_two (g x y)).0) (pos r.0) (g x y z w) (at_most_of_less _ _ (r.1 x y in_x in_y).most) ((above_two (g x y)).1 z w in_z in_w))

-- ---- which places are near
-- a place before 1 / (k + 2) is near
before_near : (k i l : ℤ) → pos 0 ≤ℤ k → pos 0 <ℤ i → (i *ℤ (k +ℤ pos 2)) <ℤ (pos 1 *ℤ l) → IsNear k i l
before_near k i l k_least after h =
    let more = mul_nonneg i k (at_most_of_less _ _ after) k_least in
    let less = shown _ _ l (ring (i ∷ k ∷ []) (var 0 ⊗ (var 1 ⊕ con (pos 2))) ((var 0 ⊗ var 1) ⊕ (con (pos 2) ⊗ var 0)) refl) h in
    record { after = after; before = first i (i *ℤ k) l after more less; near = second i (i *ℤ k) l after less }
  where
    shown : (x y l : ℤ) → x ≡ y → x <ℤ (pos 1 *ℤ l) → y <ℤ l
    shown x y l e h = omega (arith, ints)

    first : (i p l : ℤ) → pos 0 <ℤ i → pos 0 ≤ℤ p → (p +ℤ (pos 2 *ℤ i)) <ℤ l → i <ℤ l
    first i p l h g f = omega (arith, ints)

    second : (i p l : ℤ) → pos 0 <ℤ i → (p +ℤ (pos 2 *ℤ i)) <ℤ l → p <ℤ l
    second i p l h f = omega (arith, ints)

-- 1 / (k + m + 1) is near, and before n / m
near_before : (k n m : ℤ) → pos 0 ≤ℤ k → pos 0 <ℤ n → pos 0 <ℤ m → IsNear k (pos 1) ((k +ℤ m) +ℤ pos 1) × ((pos 1 *ℤ m) <ℤ (n *ℤ ((k +ℤ m) +ℤ pos 1)))
near_before k n m k_least n_pos m_pos = (
  record { after = omega (arith, ints); before = omega (arith, ints); near = omega (arith, ints) },
  less_by _ _ _ (ring (k ∷ n ∷ m ∷ []) ((var 1 ⊗ ((var 0 ⊕ var 2) ⊕ con (pos 1))) ⊖ (con (pos 1) ⊗ var 2)) (((var 1 ⊖ con (pos 1)) ⊗ ((var 0 ⊕ var 2) ⊕ con (pos 1))) ⊕ (var 0 ⊕ con (pos 1))) refl)
      (sum_positive_last _ _ (mul_nonneg _ _ (one_less_not_negative n n_pos) (least k m k_least m_pos)) (one_more k k_least)),
)
  where
    one_more : (k : ℤ) → pos 0 ≤ℤ k → pos 0 <ℤ (k +ℤ pos 1)
    one_more k h = omega (arith, ints)

    least : (k m : ℤ) → pos 0 ≤ℤ k → pos 0 <ℤ m → pos 0 ≤ℤ ((k +ℤ m) +ℤ pos 1)
    least k m h l = omega (arith, ints)

-- ---- at near places
module _ (c : Plane) {s : Part} (e : Edge s) where
  -- how high a face's plane is over the edge's second end, by lead, and how high over the cut's plane there
  abbrev pub height_far : Corner → Corner → Corner → ℤ
  height_far x y z = lead_of (on (toward_of c) x) (on (toward_of c) y) (on (toward_of c) z) (on (toward_of c) e.b)

  abbrev pub rise_far : Corner → Corner → Corner → ℤ
  rise_far x y z = lead_of (twice c x) (twice c y) (twice c z) (level c e.b)

  -- the turn from that end to a side
  abbrev pub turn_far : Corner → Corner → ℤ
  turn_far x y = turn_of (on (toward_of c) e.b) (on (toward_of c) x) (on (toward_of c) y)

  -- and to the way between the points of two sides on the plane
  abbrev pub border_far : Corner → Corner → Corner → Corner → ℤ
  border_far x y z w = let p = crossing_of c x y in let q = crossing_of c z w in turn_of (corner_with c p q e.b) (first_with c p q) (second_with c p q)

  -- k is above all these values of the part's corners
  pub record IsAboveAll (k : ℤ) : Type 0 where
    pub turns : (x y : Corner) → IsIn s x → IsIn s y → IsBelow k (turn_far x y)
    pub heights : (x y z : Corner) → IsIn s x → IsIn s y → IsIn s z → IsBelow k (height_far x y z)
    pub rises : (x y z : Corner) → IsIn s x → IsIn s y → IsIn s z → IsBelow k (rise_far x y z)
    pub borders : (x y z w : Corner) → IsIn s x → IsIn s y → IsIn s z → IsIn s w → IsBelow k (border_far x y z w)

  pub above_far : (least : ℕ) → (k : ℕ) × (least ≤ k) × IsAboveAll (pos k)
  above_far least =
      let t = above_two s turn_far in
      let h = above_four s (λ x y z w. height_far x y z) in
      let r = above_four s (λ x y z w. rise_far x y z) in
      let b = above_four s border_far in
      let k = (((t.0 + h.0) + r.0) + b.0) + least in (
        k,
        last t.0 h.0 r.0 b.0,
        record {
          turns = λ x y in_x in_y. wider (pos t.0) (pos k) (turn_far x y) (first t.0 h.0 r.0 b.0) (t.1 x y in_x in_y);
          heights = λ x y z in_x in_y in_z. wider (pos h.0) (pos k) (height_far x y z) (second t.0 h.0 r.0 b.0) (h.1 x y z z in_x in_y in_z in_z);
          rises = λ x y z in_x in_y in_z. wider (pos r.0) (pos k) (rise_far x y z) (third t.0 h.0 r.0 b.0) (r.1 x y z z in_x in_y in_z in_z);
          borders = λ x y z w in_x in_y in_z in_w. wider (pos b.0) (pos k) (border_far x y z w) (fourth t.0 h.0 r.0 b.0) (b.1 x y z w in_x in_y in_z in_w);
        },
      )
    where
      first : (t h r b : ℕ) → pos t ≤ℤ pos ((((t + h) + r) + b) + least)
      first t h r b = omega (arith, ints)

      second : (t h r b : ℕ) → pos h ≤ℤ pos ((((t + h) + r) + b) + least)
      second t h r b = omega (arith, ints)

      third : (t h r b : ℕ) → pos r ≤ℤ pos ((((t + h) + r) + b) + least)
      third t h r b = omega (arith, ints)

      fourth : (t h r b : ℕ) → pos b ≤ℤ pos ((((t + h) + r) + b) + least)
      fourth t h r b = omega (arith, ints)

      last : (t h r b : ℕ) → least ≤ (((t + h) + r) + b) + least
      last t h r b = omega arith

  module _ (k : ℤ) (k_least : pos 0 ≤ℤ k) (above : IsAboveAll k) (f : Face s) where
    in_a : IsIn s f.a
    in_a = (f.tri.a, f.at_a)

    in_b : IsIn s f.b
    in_b = (f.tri.b, f.at_b)

    in_c : IsIn s f.c
    in_c = (f.tri.c, f.at_c)

    above_face : IsAbove (on (toward_of c) e.b) (on (toward_of c) f.a) (on (toward_of c) f.b) (on (toward_of c) f.c) k
    above_face = record { ab = above.turns f.a f.b in_a in_b; bc = above.turns f.b f.c in_b in_c; ca = above.turns f.c f.a in_c in_a; lead = above.heights f.a f.b f.c in_a in_b in_c }

    above_twice : IsAbove (level c e.b) (twice c f.a) (twice c f.b) (twice c f.c) k
    above_twice = record { ab = above.turns f.a f.b in_a in_b; bc = above.turns f.b f.c in_b in_c; ca = above.turns f.c f.a in_c in_a; lead = above.rises f.a f.b f.c in_a in_b in_c }

    -- ---- clear places
    start_in : (side : ℕ) → IsIn s (start_corner f side)
    start_in zero = in_a
    start_in (suc zero) = in_b
    start_in (suc (suc side)) = in_c

    end_in : (side : ℕ) → IsIn s (end_corner f side)
    end_in zero = in_b
    end_in (suc zero) = in_c
    end_in (suc (suc side)) = in_a

    module _ (n m : ℤ) (near : IsNear k n m) where
      clear_way : (p q a b : Screen) → p.w ≡ pos 1 → q.w ≡ pos 1 → IsBelow k (turn_of q a b) → IsClearOf p q a b n m
      clear_way p q a b pw qw small = (clear_face_near p q a b a k n m pw qw near (record {
        ab = small;
        bc = below_back k _ _ (turn-reverse q a b) small;
        ca = none _ (ring (q.u ∷ q.v ∷ q.w ∷ a.u ∷ a.v ∷ []) (((var 0 ⊗ (var 4 ⊖ var 4)) ⊖ (var 1 ⊗ (var 3 ⊖ var 3))) ⊕ (var 2 ⊗ ((var 3 ⊗ var 4) ⊖ (var 3 ⊗ var 4)))) (con (pos 0)) refl);
        lead = none _ (no_lead q a b);
      })).ab
        where
          none : (z : ℤ) → z ≡ pos 0 → IsBelow k z
          none z e = record { least = under k _ z small.least small.most e; most = over k _ z small.least small.most e }
            where
              under : (k t z : ℤ) → (pos 0 -ℤ k) <ℤ t → t <ℤ k → z ≡ pos 0 → (pos 0 -ℤ k) <ℤ z
              under k t z x y e = omega (arith, ints)

              over : (k t z : ℤ) → (pos 0 -ℤ k) <ℤ t → t <ℤ k → z ≡ pos 0 → z <ℤ k
              over k t z x y e = omega (arith, ints)

          no_lead : (q a b : Screen) → lead_of a b a q ≡ pos 0
          no_lead q a b = ring (values a b a q (pos 0) (pos 0) (pos 0))
              ((((turn P B A ⊗ A.h) ⊕ (turn P A A ⊗ B.h)) ⊕ (turn P A B ⊗ A.h)) ⊖ (P.h ⊗ area A B A)) (con (pos 0)) refl

      abbrev IsClearBetween : Point → Point → Type 0
      IsClearBetween p q = IsClearOf (corner_with c p q e.a) (corner_with c p q e.b) (first_with c p q) (second_with c p q) n m

      clear_crossings : (x y z w : Corner) → IsIn s x → IsIn s y → IsIn s z → IsIn s w → IsClearBetween (crossing_of c x y) (crossing_of c z w)
      clear_crossings x y z w in_x in_y in_z in_w =
          let p = crossing_of c x y in
          let q = crossing_of c z w in
          clear_way (corner_with c p q e.a) (corner_with c p q e.b) (first_with c p q) (second_with c p q) refl refl (above.borders x y z w in_x in_y in_z in_w)

      clear_border : (p q : Point) → IsBorderOf c f p q → IsClearBetween p q
      clear_border p q b =
          subst (λ t. IsClearBetween t q) (sym b.from)
          (subst (λ t. IsClearBetween (crossing_of c (start_corner f b.first) (end_corner f b.first)) t) (sym b.to)
          (clear_crossings (start_corner f b.first) (end_corner f b.first) (end_corner f b.second) (start_corner f b.second) (start_in b.first) (end_in b.first) (end_in b.second) (start_in b.second)))

      clear_rest : IsClearOfRest c e f n m
      clear_rest = record { sides = clear_face_near (on (toward_of c) e.a) (on (toward_of c) e.b) (on (toward_of c) f.a) (on (toward_of c) f.b) (on (toward_of c) f.c) k n m refl refl near above_face; border = clear_border }

    -- ---- the rest of the face
    module _ (turned : facing_of (toward_of c) f.a f.b f.c ≢ pos 0) where
      rest_near : (n m n' m' : ℤ) → IsNear k n m → IsNear k n' m' → RestHides c f (share_point e.a e.b n m) → RestHides c f (share_point e.a e.b n' m')
      rest_near n m n' m' near near' hides =
          let p = share_point e.a e.b n m in
          let q = share_point e.a e.b n' m' in
          let some = facing_some (toward_of c) f.a f.b f.c turned in
          let (covered, below) = covered_of_rest c f p (there n m near) turned hides in
          rest_of_covered c f q (there n' m' near')
          (subst (λ w. Covers (on (toward_of c) f.a) (on (toward_of c) f.b) (on (toward_of c) f.c) w) (sym (place_seen (toward_of c) e.a e.b n' m'))
          (covers_near (on (toward_of c) e.a) (on (toward_of c) e.b) k n m n' m' refl refl near near' (on (toward_of c) f.a) (on (toward_of c) f.b) (on (toward_of c) f.c) above_face some
          (subst (λ w. Covers (on (toward_of c) f.a) (on (toward_of c) f.b) (on (toward_of c) f.c) w) (place_seen (toward_of c) e.a e.b n m) covered)))
          (λ over. below (subst (λ w. Covers (twice c f.a) (twice c f.b) (twice c f.c) w) (sym (level-place c e.a e.b n m))
          (covers_near (level c e.a) (level c e.b) k n' m' n m refl refl near' near (twice c f.a) (twice c f.b) (twice c f.c) above_twice some
          (subst (λ w. Covers (twice c f.a) (twice c f.b) (twice c f.c) w) (level-place c e.a e.b n' m') over))))
        where
          there : (n m : ℤ) → IsNear k n m → pos 0 <ℤ m
          there n m near = positive n m near.after near.before
            where
              positive : (n m : ℤ) → pos 0 <ℤ n → n <ℤ m → pos 0 <ℤ m
              positive n m h l = omega (arith, ints)

      next_of_near : (n m : ℤ) → IsNear k n m → RestHides c f (share_point e.a e.b n m) → RestHidesNext c e false f
      next_of_near n m near hides = record {
        n = pos 1;
        m = k +ℤ pos 2;
        some = omega (arith, ints);
        within = one_within k k_least;
        over = λ i l after last h. rest_near n m i l near (before_near k i l k_least after h) hides;
      }
        where
          one_within : (k : ℤ) → pos 0 ≤ℤ k → pos 1 ≤ℤ (k +ℤ pos 2)
          one_within k h = omega (arith, ints)

      near_of_next : (n m : ℤ) → IsNear k n m → RestHidesNext c e false f → RestHides c f (share_point e.a e.b n m)
      near_of_next n m near x =
          let h : RestHidesNext c e false f = x in
          let l = (k +ℤ h.m) +ℤ pos 1 in
          let (first, before) = near_before k h.n h.m k_least h.some (divisor h.n h.m h.some h.within) in
          rest_near (pos 1) l n m first near (h.over (pos 1) l first.after (last l first.before) before)
        where
          divisor : (n m : ℤ) → pos 0 <ℤ n → n ≤ℤ m → pos 0 <ℤ m
          divisor n m h l = omega (arith, ints)

          last : (l : ℤ) → pos 1 <ℤ l → pos 0 <ℤ l
          last l h = omega (arith, ints)

    counts_next : (n m : ℤ) → IsNear k n m → (side : Side) → RestCounts side c e f n m ↔ IsCutCoveredNext side c e false f
    counts_next n m near side = (
      (λ x. record { turned = x.turned; hides = next_of_near x.turned n m near x.hides; reaches = x.reaches }),
      (λ x. record { turned = x.turned; hides = near_of_next x.turned n m near x.hides; reaches = x.reaches }),
    )

pub near_rests : NearLaw
near_rests c s e least =
    let (k, more, above) = above_far c e least in
    (k, more, λ n m near. record { counts = λ side f. counts_next c e (pos k) (natural_not_negative k) above f n m near side; clear = λ f. clear_rest c e (pos k) (natural_not_negative k) above f n m near })
