-- The last of the places at which an edge comes into a triangle's plane and over its sides is the first in the triangle.
use Rattle.std.proofs.Common.{◌≡◌, ◌⊎◌, inl, inr, ℕ, zero, suc, ◌+◌, ◌*◌, ◌<◌, ◌≤◌, [], ◌∷◌, unsigned_abs, refl, sym, subst, ap, ◌∙◌, arith}
use Rattle.std.specs.Prelude.{ℤ, pos, negsuc, ◌+ℤ◌, ◌-ℤ◌, ◌*ℤ◌, ◌<ℤ◌, ◌≤ℤ◌}
use Rattle.std.proofs.Math.Nat.{mul-le-mul_left}
use Rattle.std.proofs.lemmas.Int.{ints, by_lt_z}
use Rattle.integers.proofs.Absolutes.{natural_not_negative, abs_of_not_negative, abs_of_positive, some_abs_of_positive, pos-product}
use Rattle.integers.proofs.Comparisons.{not_negative_of_positive, not_negative_at, less_not_at_most, at_most_by}
use Rattle.integers.proofs.Ring.{Expr, var, con, ◌⊕◌, ◌⊖◌, ◌⊗◌, ring, by_two, by_three}
use Rattle.integers.proofs.Signs.{mul_nonneg}
use Rattle.lattice.specs.declared.points.Corner.{Corner}
use Rattle.lattice.specs.Triple.{Triple, dot}
use Rattle.lattice.specs.Points.{Point, difference, IsNearer}
use Rattle.lattice.proofs.PointLetters.{ways}
use Rattle.lattice.proofs.Vectors.{Letters, letters, dots}
use Rattle.geometry.specs.Faces.{facing_of, edge_sum, IsPointOfEdge, IsPointOfFace}
use Rattle.meeting.specs.Touching.{Touch}
use Rattle.meeting.specs.inner.Heights.{height_of}
use Rattle.meeting.proofs.Balance.{square-least}
use Rattle.meeting.proofs.CommonPoints.{weight-bc, weight-ca, weight-ab}
use Rattle.meeting.proofs.Weights.{weights-sum, weigh_x, weigh_y, weigh_z, level-at}
use Rattle.fault_place.specs.declared.weights.Along.{Along}
use Rattle.fault_place.specs.declared.weights.Weights.{Weights}
use Rattle.fault_place.specs.inner.Meetings.{AreHeights, AreOffsets, IsStart, IsCrossing, IsEntry, IsNoLater, IsLater, IsFirstAt}
use Rattle.fault_place.proofs.AlongEdges.{value, no_later_through, entry_no_later, not_below_behind, not_below_before, crossing_no_later, level_before, level_between}

-- ---- places that come of tests
abbrev NoLater : Weights → ℕ → ℕ → Type 0
NoLater w i j = IsNoLater w.first w.second i j

start_no_later : (w : Weights) (k l : ℕ) → IsStart w → NoLater w k l
start_no_later w k l is = let none = is.second in subst (λ (n : ℕ). n * k ≤ l * w.first) (sym none) (omega arith)

later_no_later : (v w r : Weights) (k l : ℕ) → IsLater v w r → NoLater v k l → NoLater w k l → NoLater r k l
later_no_later v w r k l is h g = by is.one
  where
    at : (x : Weights) → r.first ≡ x.first → r.second ≡ x.second → NoLater x k l → NoLater r k l
    at x e f n = subst (λ (m : ℕ). m * k ≤ l * r.first) (sym f) (subst (λ (m : ℕ). x.second * k ≤ l * m) (sym e) n)

    by : ((r.first ≡ v.first) × (r.second ≡ v.second)) ⊎ ((r.first ≡ w.first) × (r.second ≡ w.second)) → NoLater r k l
    by (inl (e, f)) = at v e f h
    by (inr (e, f)) = at w e f g

-- the places that tests say are level, and not below
module _ (f : Along) (w : Weights) (k l : ℕ) (some : 0 < k + l) where
  abbrev at : ℕ → ℕ → ℤ
  at i j = value f.start f.end i j

  named : w.first ≡ unsigned_abs f.end → w.second ≡ unsigned_abs f.start → (i j : ℕ) → NoLater w i j → IsNoLater (unsigned_abs f.end) (unsigned_abs f.start) i j
  named e h i j n = subst (λ (m : ℕ). m * i ≤ j * unsigned_abs f.end) h (subst (λ (m : ℕ). w.second * i ≤ j * m) e n)

  back : w.first ≡ unsigned_abs f.end → w.second ≡ unsigned_abs f.start → (i j : ℕ) → IsNoLater (unsigned_abs f.end) (unsigned_abs f.start) i j → NoLater w i j
  back e h i j n = subst (λ (m : ℕ). m * i ≤ j * w.first) (sym h) (subst (λ (m : ℕ). unsigned_abs f.start * i ≤ j * m) (sym e) n)

  entry_first : IsEntry f w → pos 0 ≤ℤ at k l → NoLater w k l
  entry_first is h =
      by_lt_z f.start (pos 0) (λ less. let there = is.later less in back there.first there.second k l (entry_no_later f.start f.end k l some less h))
      (λ least. start_no_later w k l (is.at_once least))

  entry_kept : IsEntry f w → pos 0 ≤ℤ at k l → (i j : ℕ) → NoLater w i j → IsNoLater i j k l → pos 0 ≤ℤ at i j
  entry_kept is h i j behind before =
      by_lt_z f.start (pos 0) (λ less. let there = is.later less in not_below_behind f.start f.end i j k l some less h (named there.first there.second i j behind))
      (λ least. not_below_before f.start f.end i j k l some least h before)

  by_zero : {P : Type 0} (z : ℤ) → (z ≡ pos 0 → P) → ((z ≡ pos 0 → ⊥) → P) → P
  by_zero (pos zero) here off = here refl
  by_zero (pos (suc n)) here off = off (λ e. omega (arith, ints))
  by_zero (negsuc n) here off = off (λ e. omega (arith, ints))

  crossing_first : IsCrossing f w → at k l ≡ pos 0 → NoLater w k l
  crossing_first is h =
      by_zero f.start (λ here. start_no_later w k l (is.at_once here))
      (λ off. let there = is.later off in back there.first there.second k l (crossing_no_later f.start f.end k l some h off))

  crossing_kept : IsCrossing f w → at k l ≡ pos 0 → (i j : ℕ) → NoLater w i j → IsNoLater i j k l → at i j ≡ pos 0
  crossing_kept is h i j behind before =
      by_zero f.start (λ here. level_before f.start f.end k l some h i j before here)
      (λ off. let there = is.later off in level_between f.start f.end k l some h i j before off (named there.first there.second i j behind))

-- ---- places of the edge in the triangle
module _ (d : Triple) (a b c p q : Corner) (front : pos 0 <ℤ facing_of d a b c) where
  abbrev height : ℕ → ℕ → ℤ
  height i j = value (height_of a b c p) (height_of a b c q) i j

  abbrev offset : Corner → Corner → ℕ → ℕ → ℤ
  offset k l i j = value (facing_of d k l p) (facing_of d k l q) i j

  -- in the plane, and to the right of no side
  record IsInside (i j : ℕ) : Type 0 where
    level : height i j ≡ pos 0
    bc : pos 0 ≤ℤ offset b c i j
    ca : pos 0 ≤ℤ offset c a i j
    ab : pos 0 ≤ℤ offset a b i j

  inside_of_common : (i j : ℕ) → IsPointOfFace a b c (edge_sum p q i j) → IsInside i j
  inside_of_common i j (k, l, m, some, same) =
      let least = λ (n : ℕ). mul_nonneg (pos n) (facing_of d a b c) (natural_not_negative n) (not_negative_of_positive _ front) in
      record {
        level = level-at a b c p q i j k l m same;
        bc = not_negative_at _ _ (weight-bc d a b c p q i j k l m same) (least k);
        ca = not_negative_at _ _ (weight-ca d a b c p q i j k l m same) (least l);
        ab = not_negative_at _ _ (weight-ab d a b c p q i j k l m same) (least m);
      }

  abbrev F : ℤ
  F = facing_of d a b c

  abbrev times : ℕ
  times = unsigned_abs F

  module _ (i j : ℕ) (is : IsInside i j) where
    scaled_by : (n : ℕ) → pos (times * n) ≡ F *ℤ pos n
    scaled_by n = pos-product times n ∙ ap (λ (z : ℤ). z *ℤ pos n) (abs_of_positive F front)

    -- one coordinate, as a sum of the triangle's corners
    coordinate : (f : Corner → ℤ) (n : ℤ)
        → ((facing_of d b c p *ℤ f a) +ℤ (facing_of d c a p *ℤ f b)) +ℤ (facing_of d a b p *ℤ f c) ≡ (F *ℤ f p) -ℤ (height_of a b c p *ℤ n)
        → ((facing_of d b c q *ℤ f a) +ℤ (facing_of d c a q *ℤ f b)) +ℤ (facing_of d a b q *ℤ f c) ≡ (F *ℤ f q) -ℤ (height_of a b c q *ℤ n)
        → (pos (times * i) *ℤ f p) +ℤ (pos (times * j) *ℤ f q)
        ≡ ((pos (unsigned_abs (offset b c i j)) *ℤ f a) +ℤ (pos (unsigned_abs (offset c a i j)) *ℤ f b)) +ℤ (pos (unsigned_abs (offset a b i j)) *ℤ f c)
    coordinate f n hp hq =
        (λ s. (scaled_by i s *ℤ f p) +ℤ (scaled_by j s *ℤ f q))
        ∙ spread (pos i) (pos j) F (f p) (f q) (facing_of d b c p) (facing_of d c a p) (facing_of d a b p) (facing_of d b c q) (facing_of d c a q) (facing_of d a b q) (f a) (f b) (f c) (height_of a b c p) (height_of a b c q) n hp hq is.level
        ∙ sym (λ s. ((abs_of_not_negative (offset b c i j) is.bc s *ℤ f a) +ℤ (abs_of_not_negative (offset c a i j) is.ca s *ℤ f b)) +ℤ (abs_of_not_negative (offset a b i j) is.ab s *ℤ f c))
      where
        spread : (i j f p q bp cp ap bq cq aq a b c rp rq r : ℤ) → ((bp *ℤ a) +ℤ (cp *ℤ b)) +ℤ (ap *ℤ c) ≡ (f *ℤ p) -ℤ (rp *ℤ r) → ((bq *ℤ a) +ℤ (cq *ℤ b)) +ℤ (aq *ℤ c) ≡ (f *ℤ q) -ℤ (rq *ℤ r)
            → (i *ℤ rp) +ℤ (j *ℤ rq) ≡ pos 0
            → ((f *ℤ i) *ℤ p) +ℤ ((f *ℤ j) *ℤ q) ≡ ((((i *ℤ bp) +ℤ (j *ℤ bq)) *ℤ a) +ℤ (((i *ℤ cp) +ℤ (j *ℤ cq)) *ℤ b)) +ℤ (((i *ℤ ap) +ℤ (j *ℤ aq)) *ℤ c)
        spread i j f p q bp cp ap bq cq aq a b c rp rq r hp hq level =
            by_three _ _ (((bp *ℤ a) +ℤ (cp *ℤ b)) +ℤ (ap *ℤ c)) ((f *ℤ p) -ℤ (rp *ℤ r)) (pos 0 -ℤ i) (((bq *ℤ a) +ℤ (cq *ℤ b)) +ℤ (aq *ℤ c)) ((f *ℤ q) -ℤ (rq *ℤ r)) (pos 0 -ℤ j) ((i *ℤ rp) +ℤ (j *ℤ rq)) (pos 0) r
            (ring (i ∷ j ∷ f ∷ p ∷ q ∷ bp ∷ cp ∷ ap ∷ bq ∷ cq ∷ aq ∷ a ∷ b ∷ c ∷ rp ∷ rq ∷ r ∷ [])
            ((((var 2 ⊗ var 0) ⊗ var 3) ⊕ ((var 2 ⊗ var 1) ⊗ var 4)) ⊖ (((((var 0 ⊗ var 5) ⊕ (var 1 ⊗ var 8)) ⊗ var 11) ⊕ (((var 0 ⊗ var 6) ⊕ (var 1 ⊗ var 9)) ⊗ var 12)) ⊕ (((var 0 ⊗ var 7) ⊕ (var 1 ⊗ var 10)) ⊗ var 13)))
            ((((((((var 5 ⊗ var 11) ⊕ (var 6 ⊗ var 12)) ⊕ (var 7 ⊗ var 13)) ⊖ ((var 2 ⊗ var 3) ⊖ (var 14 ⊗ var 16))) ⊗ (con (pos 0) ⊖ var 0))
            ⊕ (((((var 8 ⊗ var 11) ⊕ (var 9 ⊗ var 12)) ⊕ (var 10 ⊗ var 13)) ⊖ ((var 2 ⊗ var 4) ⊖ (var 15 ⊗ var 16))) ⊗ (con (pos 0) ⊖ var 1)))
            ⊕ ((((var 0 ⊗ var 14) ⊕ (var 1 ⊗ var 15)) ⊖ con (pos 0)) ⊗ var 16))) refl) hp hq level

    weight : pos (times * i) +ℤ pos (times * j) ≡ (pos (unsigned_abs (offset b c i j)) +ℤ pos (unsigned_abs (offset c a i j))) +ℤ pos (unsigned_abs (offset a b i j))
    weight =
        (λ s. scaled_by i s +ℤ scaled_by j s)
        ∙ total (pos i) (pos j) F (facing_of d b c p) (facing_of d c a p) (facing_of d a b p) (facing_of d b c q) (facing_of d c a q) (facing_of d a b q) (weights-sum d a b c p) (weights-sum d a b c q)
        ∙ sym (λ s. (abs_of_not_negative (offset b c i j) is.bc s +ℤ abs_of_not_negative (offset c a i j) is.ca s) +ℤ abs_of_not_negative (offset a b i j) is.ab s)
      where
        total : (i j f bp cp ap bq cq aq : ℤ) → (bp +ℤ cp) +ℤ ap ≡ f → (bq +ℤ cq) +ℤ aq ≡ f
            → (f *ℤ i) +ℤ (f *ℤ j) ≡ (((i *ℤ bp) +ℤ (j *ℤ bq)) +ℤ ((i *ℤ cp) +ℤ (j *ℤ cq))) +ℤ ((i *ℤ ap) +ℤ (j *ℤ aq))
        total i j f bp cp ap bq cq aq hp hq =
            by_two _ _ ((bp +ℤ cp) +ℤ ap) f (pos 0 -ℤ i) ((bq +ℤ cq) +ℤ aq) f (pos 0 -ℤ j)
            (ring (i ∷ j ∷ f ∷ bp ∷ cp ∷ ap ∷ bq ∷ cq ∷ aq ∷ [])
            (((var 2 ⊗ var 0) ⊕ (var 2 ⊗ var 1)) ⊖ ((((var 0 ⊗ var 3) ⊕ (var 1 ⊗ var 6)) ⊕ ((var 0 ⊗ var 4) ⊕ (var 1 ⊗ var 7))) ⊕ ((var 0 ⊗ var 5) ⊕ (var 1 ⊗ var 8))))
            (((((var 3 ⊕ var 4) ⊕ var 5) ⊖ var 2) ⊗ (con (pos 0) ⊖ var 0)) ⊕ ((((var 6 ⊕ var 7) ⊕ var 8) ⊖ var 2) ⊗ (con (pos 0) ⊖ var 1))) refl) hp hq

    module _ (some : 0 < i + j) where
      some_edge : 0 < times * i + times * j
      some_edge = product times i j (some_abs_of_positive F front) some
        where
          product : (m i j : ℕ) → 0 < m → 0 < i + j → 0 < m * i + m * j
          product zero i j h g = absurd (omega arith)
          product (suc m) i j h g = omega arith

      common_of_inside : IsPointOfFace a b c (edge_sum p q (times * i) (times * j))
      common_of_inside =
          let on_x = coordinate (λ k. k.x) d.x (weigh_x d a b c p) (weigh_x d a b c q) in
          let on_y = coordinate (λ k. k.y) d.y (weigh_y d a b c p) (weigh_y d a b c q) in
          let on_z = coordinate (λ k. k.z) d.z (weigh_z d a b c p) (weigh_z d a b c q) in
          (unsigned_abs (offset b c i j), unsigned_abs (offset c a i j), unsigned_abs (offset a b i j), as_many _ _ _ _ _ weight some_edge, λ s. record { x = on_x s; y = on_y s; z = on_z s; w = weight s })
        where
          as_many : (i j k l m : ℕ) → pos i +ℤ pos j ≡ (pos k +ℤ pos l) +ℤ pos m → 0 < i + j → 0 < k + l + m
          as_many i j k l m e h = omega (arith, ints)

-- ---- a place that isn't later isn't farther from the first corner
module _ (p q : Corner) where
  abbrev P : Letters
  P = letters 0

  abbrev Q : Letters
  Q = letters 3

  abbrev between : Expr → Expr → Letters
  between i j = record { x = (i ⊗ P.x) ⊕ (j ⊗ Q.x); y = (i ⊗ P.y) ⊕ (j ⊗ Q.y); z = (i ⊗ P.z) ⊕ (j ⊗ Q.z) }

  no_farther : (i j k l : ℕ) → IsNoLater i j k l → ¬ IsNearer (difference q p) (edge_sum p q k l) (edge_sum p q i j)
  no_farther i j k l h nearer =
      let way = difference q p in
      less_not_at_most _ _ nearer
      (at_most_by _ _ _
      (ring (p.x ∷ p.y ∷ p.z ∷ q.x ∷ q.y ∷ q.z ∷ pos i ∷ pos j ∷ pos k ∷ pos l ∷ [])
      ((dots (ways Q P) (between (var 6) (var 7)) ⊗ (var 8 ⊕ var 9)) ⊖ (dots (ways Q P) (between (var 8) (var 9)) ⊗ (var 6 ⊕ var 7)))
      (((var 9 ⊗ var 6) ⊖ (var 7 ⊗ var 8)) ⊗ dots (ways Q P) (ways Q P)) refl)
      (mul_nonneg ((pos l *ℤ pos i) -ℤ (pos j *ℤ pos k)) (dot way way) (gap i j k l h) (square-least way)))
    where
      gap : (i j k l : ℕ) → j * k ≤ l * i → pos 0 ≤ℤ ((pos l *ℤ pos i) -ℤ (pos j *ℤ pos k))
      gap i j k l h = omega (arith, ints, h)

-- ---- the first place
module _ (a b c p q : Corner) (d : Triple) (front : pos 0 <ℤ facing_of d a b c) (above over_bc over_ca over_ab : Along) (in_plane past_bc past_ca past_ab last_two first_two last : Weights) where
  module _ (heights : AreHeights a b c p q above) (at_bc : AreOffsets d b c p q over_bc) (at_ca : AreOffsets d c a p q over_ca) (at_ab : AreOffsets d a b p q over_ab)
      (crosses : IsCrossing above in_plane) (enters_bc : IsEntry over_bc past_bc) (enters_ca : IsEntry over_ca past_ca) (enters_ab : IsEntry over_ab past_ab)
      (first_is : IsLater in_plane past_bc first_two) (last_is : IsLater past_ca past_ab last_two) (is : IsLater first_two last_two last) where
    -- what is read is what is meant
    module _ (k l : ℕ) (inside : IsInside d a b c p q front k l) where
      level_read : value above.start above.end k l ≡ pos 0
      level_read = (λ i. value (heights.start i) (heights.end i) k l) ∙ inside.level

      bc_read : pos 0 ≤ℤ value over_bc.start over_bc.end k l
      bc_read = not_negative_at _ _ (λ i. value (at_bc.start i) (at_bc.end i) k l) inside.bc

      ca_read : pos 0 ≤ℤ value over_ca.start over_ca.end k l
      ca_read = not_negative_at _ _ (λ i. value (at_ca.start i) (at_ca.end i) k l) inside.ca

      ab_read : pos 0 ≤ℤ value over_ab.start over_ab.end k l
      ab_read = not_negative_at _ _ (λ i. value (at_ab.start i) (at_ab.end i) k l) inside.ab

      -- the last place is no later than one in the triangle
      least : 0 < k + l → NoLater last k l
      least some =
          later_no_later first_two last_two last k l is
          (later_no_later in_plane past_bc first_two k l first_is (crossing_first above in_plane k l some crosses level_read) (entry_first over_bc past_bc k l some enters_bc bc_read))
          (later_no_later past_ca past_ab last_two k l last_is (entry_first over_ca past_ca k l some enters_ca ca_read) (entry_first over_ab past_ab k l some enters_ab ab_read))

      -- and so it is in the triangle
      module _ (some : 0 < k + l) where
        before : IsNoLater last.first last.second k l
        before = least some

        after : (v w : Weights) → NoLater v w.first w.second → NoLater w last.first last.second → NoLater v last.first last.second
        after v w h g = no_later_through v.first v.second w.first w.second last.first last.second w.some h g

        last_inside : IsInside d a b c p q front last.first last.second
        last_inside = record {
          level = sym (λ i. value (heights.start i) (heights.end i) last.first last.second) ∙ crossing_kept above in_plane k l some crosses level_read last.first last.second (after in_plane first_two first_is.first is.first) before;
          bc = not_negative_at _ _ (sym (λ i. value (at_bc.start i) (at_bc.end i) last.first last.second)) (entry_kept over_bc past_bc k l some enters_bc bc_read last.first last.second (after past_bc first_two first_is.second is.first) before);
          ca = not_negative_at _ _ (sym (λ i. value (at_ca.start i) (at_ca.end i) last.first last.second)) (entry_kept over_ca past_ca k l some enters_ca ca_read last.first last.second (after past_ca last_two last_is.first is.second) before);
          ab = not_negative_at _ _ (sym (λ i. value (at_ab.start i) (at_ab.end i) last.first last.second)) (entry_kept over_ab past_ab k l some enters_ab ab_read last.first last.second (after past_ab last_two last_is.second is.second) before);
        }

    pub first_at : Touch a b c p q → IsFirstAt p q a b c last
    first_at touch =
        let (k, l, some, here) = touch.on_edge in
        let inside = inside_of_common d a b c p q front k l (subst (IsPointOfFace a b c) here touch.on_face) in
        let m = unsigned_abs (facing_of d a b c) in
        record {
          times = m;
          some = some_abs_of_positive _ front;
          there = record {
            on_edge = (m * last.first, m * last.second, some_edge d a b c p q front last.first last.second (last_inside k l inside some) last.some, refl);
            on_face = common_of_inside d a b c p q front last.first last.second (last_inside k l inside some) last.some;
            none_nearer = none_nearer m;
          };
        }
      where
        none_nearer : (m : ℕ) (other : Point) → IsPointOfEdge p q other → IsPointOfFace a b c other → ¬ IsNearer (difference q p) other (edge_sum p q (m * last.first) (m * last.second))
        none_nearer m other (i, j, some, here) on_face =
            let inside = inside_of_common d a b c p q front i j (subst (IsPointOfFace a b c) here on_face) in
            subst (λ (o : Point). ¬ IsNearer (difference q p) o (edge_sum p q (m * last.first) (m * last.second))) (sym here)
            (no_farther p q (m * last.first) (m * last.second) i j (times_no_later m last.first last.second i j (least i j inside some)))
          where
            times_no_later : (m i j k l : ℕ) → IsNoLater i j k l → IsNoLater (m * i) (m * j) k l
            times_no_later m i j k l h = omega (arith, mul-le-mul_left m h)
