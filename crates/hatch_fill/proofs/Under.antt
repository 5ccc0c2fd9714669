-- Borders under points: where segments have a point on the line of sight.
use Rattle.std.proofs.Common.{◌≡◌, ◌⊎◌, inl, inr, ℕ, ◌+◌, ◌<◌, ◌≤◌, List, [], ◌∷◌, Contains, refl, sym, ap, subst, ◌∙◌, unsigned_abs, arith}
use Rattle.std.specs.Prelude.{ℤ, pos, ◌+ℤ◌, ◌-ℤ◌, ◌*ℤ◌, ◌<ℤ◌, ◌≤ℤ◌}
use Rattle.std.specs.List.{All}
use Rattle.std.proofs.lemmas.Int.{ints}
use Rattle.std.proofs.lemmas.List.Elements.{All-contains, Contains-append_cases}
use Rattle.integers.proofs.Ring.{var, ◌⊕◌, ◌⊖◌, ◌⊗◌, ring}
use Rattle.integers.proofs.Signs.{pos_of_mul}
use Rattle.integers.proofs.Weighted.{HasWeights, weighted, sum_pos}
use Rattle.intervals.specs.declared.interval.Interval.{Interval}
use Rattle.lattice.specs.declared.points.Corner.{Corner}
use Rattle.lattice.specs.declared.points.Spot.{Spot}
use Rattle.lattice.specs.Triple.{Triple, dot, right_axis, up_axis}
use Rattle.lattice.specs.Points.{Point, IsPoint, of_spot, scaled, across_of, upward_of, OnOneSight}
use Rattle.lattice.specs.Lines.{IsOnLine}
use Rattle.lattice.specs.Cuts.{Plane, toward_of}
use Rattle.lattice.proofs.OnLines.{weighted_sum, product_of_sum}
use Rattle.geometry.specs.Faces.{IsPointOfFace}
use Rattle.geometry.specs.Parts.{Part, Face}
use Rattle.geometry.specs.Cuts.{IsOnBorder}
use Rattle.cut_plane.specs.declared.segments.Segment.{Segment}
use Rattle.cut_plane.specs.Loops.{IsSegmentOf, AreBorders}
use Rattle.cut_plane.proofs.BorderSums.{IsMixOf, AreEnds, border_ends}
use Rattle.cut_plane.proofs.FaceCorners.{have_same}
use Rattle.cut_plane.proofs.Lists.{segment_at, contains_first, contains_rest, contains_none}
use Rattle.cut_plane.proofs.Parities.{crossed_of_point}
use Rattle.cut_plane.proofs.RightOf.{sum_turned, first_alone, second_alone, first_on, second_on}
use Rattle.cut_plane.specs.Diagonals.{IsUnderBorder}
use Rattle.hatch_fill.specs.declared.places.HatchPlace.{HatchPlace}
use Rattle.hatch_fill.specs.inner.Parts.{AreJoined}
use Rattle.hatch_fill.specs.inner.Places.{IsNear}
use Rattle.hatch_fill.specs.inner.Crossings.{IsMeetingAmong, AreCrossings}
use Rattle.hatch_fill.specs.inner.Stretches.{IsPlaceOf, AreEndsAlong, IsStretchOf}
use Rattle.hatch_fill.proofs.Crossed.{same_sight, weight, weight', some_weight, mid_seen}
use Rattle.hatch_fill.proofs.Near.{near_same}
use Rattle.hatch_fill.proofs.Seen.{across_near, near_sum}
use Rattle.hatch_fill.proofs.SegmentCounts.{is_across}
use Rattle.hatch_fill.proofs.Turns.{IsAt}

-- ---- parts of a list
pub joined_part : {A B : Type 0} (R : A → List B → Type 0) (xs : List A) (all : List B) → AreJoined R xs all → (t : B) → Contains all t → (x : A) × Contains xs x × ((part : List B) × R x part × Contains part t)
joined_part {A} {B} R [] all e t there = absurd (contains_none t (subst (λ (ys : List B). Contains ys t) e there))
joined_part {A} {B} R (x ∷ xs) all (part, rest, e, r, more) t there =
    by (Contains-append_cases part rest t (subst (λ (ys : List B). Contains ys t) e there)) (joined_part R xs rest more t)
  where
    by : Contains part t ⊎ Contains rest t → (Contains rest t → (y : A) × Contains xs y × ((part : List B) × R y part × Contains part t)) → (y : A) × Contains (x ∷ xs) y × ((part : List B) × R y part × Contains part t)
    by (inl here) later = (x, contains_first xs x, (part, r, here))
    by (inr k) later = let (y, listed, rest) = later k in (y, contains_rest x xs y listed, rest)

-- ---- sums of two points
-- a sum of two points of a hatch line is on it
pub sum_at : (d : Triple) (i j diagonal : ℤ) (p q : Point) → IsAt d diagonal p → IsAt d diagonal q → IsAt d diagonal (weighted_sum i p j q)
sum_at d i j diagonal p q at_p at_q =
    (λ t. product_of_sum (right_axis d) i j p q t -ℤ product_of_sum (up_axis d) i j p q t)
    ∙ ring (i ∷ j ∷ across_of d p ∷ upward_of d p ∷ across_of d q ∷ upward_of d q ∷ [])
    (((var 0 ⊗ var 2) ⊕ (var 1 ⊗ var 4)) ⊖ ((var 0 ⊗ var 3) ⊕ (var 1 ⊗ var 5)))
    ((var 0 ⊗ (var 2 ⊖ var 3)) ⊕ (var 1 ⊗ (var 4 ⊖ var 5))) refl
    ∙ (λ t. (i *ℤ at_p t) +ℤ (j *ℤ at_q t))
    ∙ ring (i ∷ j ∷ diagonal ∷ p.w ∷ q.w ∷ []) ((var 0 ⊗ (var 2 ⊗ var 3)) ⊕ (var 1 ⊗ (var 2 ⊗ var 4))) (var 2 ⊗ ((var 0 ⊗ var 3) ⊕ (var 1 ⊗ var 4))) refl

-- a place after the first of two, and not after the second
pub weights_until : (n m n' m' k l : ℤ) → (n *ℤ l) <ℤ (k *ℤ m) → (k *ℤ m') ≤ℤ (n' *ℤ l) → HasWeights n m n' m' k l
weights_until n m n' m' k l after until =
    let u = (n' *ℤ l) -ℤ (k *ℤ m') in
    let v = (k *ℤ m) -ℤ (n *ℤ l) in
    record { i = unsigned_abs u; j = unsigned_abs v; some = some u v (less _ _ after); same = weighted n m n' m' k l (pos (unsigned_abs u)) (pos (unsigned_abs v)) (size u (most _ _ until)) (size v (least v (less _ _ after))) }
  where
    less : (a b : ℤ) → a <ℤ b → pos 0 <ℤ (b -ℤ a)
    less a b h = omega (arith, ints)

    most : (a b : ℤ) → a ≤ℤ b → pos 0 ≤ℤ (b -ℤ a)
    most a b h = omega (arith, ints)

    least : (a : ℤ) → pos 0 <ℤ a → pos 0 ≤ℤ a
    least a h = omega (arith, ints)

    size : (a : ℤ) → pos 0 ≤ℤ a → pos (unsigned_abs a) ≡ a
    size a h = omega (arith, ints)

    some : (a b : ℤ) → pos 0 <ℤ b → 0 < unsigned_abs a + unsigned_abs b
    some a b h = omega (arith, ints)

-- ---- one segment
module _ (c : Plane) (s : Part) (x : Segment) (h : IsSegmentOf c s x) where
  abbrev d : Triple
  d = toward_of c

  pub ends_of : AreEnds c h.face.a h.face.b h.face.c (of_spot x.a) (of_spot x.b)
  ends_of = border_ends c h.face (of_spot x.a) (of_spot x.b) h.border

  pub first_on_line : IsOnLine d x.line (of_spot x.a)
  first_on_line = first_on c s x h (of_spot x.a) x.a.positive

  pub second_on_line : IsOnLine d x.line (of_spot x.b)
  second_on_line = second_on c s x h (of_spot x.a) x.a.positive

  -- a point that is seen with a sum of the ends has the border under it
  pub sum_under : (i j : ℕ) → 0 < i + j → (p : Point) → OnOneSight d (weighted_sum (pos i) (of_spot x.a) (pos j) (of_spot x.b)) p → IsUnderBorder c s p
  sum_under i j some p sight = (h.face, (weighted_sum (pos i) (of_spot x.a) (pos j) (of_spot x.b), (ends_of.on_face i j some, ends_of.on_plane i j), sight))

  first_under : (p : Point) → OnOneSight d (of_spot x.a) p → IsUnderBorder c s p
  first_under p sight = sum_under 1 0 (omega arith) p (subst (λ (q : Point). OnOneSight d q p) (sym (first_alone (of_spot x.a) (of_spot x.b))) sight)

  second_under : (p : Point) → OnOneSight d (of_spot x.b) p → IsUnderBorder c s p
  second_under p sight = sum_under 0 1 (omega arith) p (subst (λ (q : Point). OnOneSight d q p) (sym (second_alone (of_spot x.a) (of_spot x.b))) sight)

-- ---- marks: places on hatch lines that are on borders
pub record IsMark (c : Plane) (s : Part) (spacing : ℕ) (t : HatchPlace) : Type 0 where
  pub number : ℤ
  pub line : t.diagonal ≡ number *ℤ pos spacing
  pub under : (p : Point) → IsAt (toward_of c) t.diagonal p → t.across.num *ℤ p.w ≡ across_of (toward_of c) p *ℤ t.across.den → IsUnderBorder c s p

module _ (c : Plane) (s : Part) (spacing : ℕ) (some : 1 ≤ spacing) where
  crossing_mark : (x : Segment) → IsSegmentOf c s x → (places : List HatchPlace) → AreCrossings (toward_of c) spacing x places → (t : HatchPlace) → Contains places t → IsMark c s spacing t
  crossing_mark x h places are t there = by (Contains-append_cases are.rising are.falling t (subst (λ (ts : List HatchPlace). Contains ts t) are.together there))
    where
      d : Triple
      d = toward_of c

      up : IsMeetingAmong x.line spacing are.a are.b t → IsMark c s spacing t
      up (j, least, below, is) = record {
        number = j;
        line = is.at;
        under = λ p at e.
            let across = is_across c x.line x.a x.b (first_on_line c s x h) (second_on_line c s x h) spacing some are.a are.b are.first are.second j least below in
            sum_under c s x h (weight d (of_spot x.a) (of_spot x.b) x.a.positive x.b.positive (j *ℤ pos spacing) across) (weight' d (of_spot x.a) (of_spot x.b) x.a.positive x.b.positive (j *ℤ pos spacing) across)
            (some_weight d (of_spot x.a) (of_spot x.b) x.a.positive x.b.positive (j *ℤ pos spacing) across) p
            (mid_seen d (of_spot x.a) (of_spot x.b) x.a.positive x.b.positive (j *ℤ pos spacing) across x.line (first_on_line c s x h) (second_on_line c s x h) t.across.num t.across.den t.across.positive is.on p
            (subst (λ (z : ℤ). IsAt d z p) is.at at) e);
      }

      down : IsMeetingAmong x.line spacing are.b are.a t → IsMark c s spacing t
      down (j, least, below, is) = record {
        number = j;
        line = is.at;
        under = λ p at e.
            let across = is_across c x.line x.b x.a (second_on_line c s x h) (first_on_line c s x h) spacing some are.b are.a are.second are.first j least below in
            let i = weight d (of_spot x.b) (of_spot x.a) x.b.positive x.a.positive (j *ℤ pos spacing) across in
            let k = weight' d (of_spot x.b) (of_spot x.a) x.b.positive x.a.positive (j *ℤ pos spacing) across in
            sum_under c s x h k i (other i k (some_weight d (of_spot x.b) (of_spot x.a) x.b.positive x.a.positive (j *ℤ pos spacing) across)) p
            (subst (λ (q : Point). OnOneSight d q p) (sum_turned (pos i) (pos k) (of_spot x.b) (of_spot x.a))
            (mid_seen d (of_spot x.b) (of_spot x.a) x.b.positive x.a.positive (j *ℤ pos spacing) across x.line (second_on_line c s x h) (first_on_line c s x h) t.across.num t.across.den t.across.positive is.on p
            (subst (λ (z : ℤ). IsAt d z p) is.at at) e));
      }
        where
          other : (i k : ℕ) → 0 < i + k → 0 < k + i
          other i k h = omega arith

      by : Contains are.rising t ⊎ Contains are.falling t → IsMark c s spacing t
      by (inl in_rising) = up (All-contains (IsMeetingAmong x.line spacing are.a are.b) are.rising t are.from_a.each in_rising)
      by (inr in_falling) = down (All-contains (IsMeetingAmong x.line spacing are.b are.a) are.falling t are.from_b.each in_falling)

  pub crossing_marks : (segments : List Segment) → All (IsSegmentOf c s) segments → (places : List HatchPlace) → AreJoined (AreCrossings (toward_of c) spacing) segments places → (t : HatchPlace) → Contains places t → IsMark c s spacing t
  crossing_marks segments each places joined t there =
      let (x, listed, (part, are, in_part)) = joined_part (AreCrossings (toward_of c) spacing) segments places joined t there in
      crossing_mark x (All-contains (IsSegmentOf c s) segments x each listed) part are t in_part

  -- ---- stretches
  module _ (x : Segment) (h : IsSegmentOf c s x) where
    seen_at : (p : Spot) (j : ℤ) (t : HatchPlace) → IsPlaceOf (toward_of c) (j *ℤ pos spacing) p t → (q : Point) → IsAt (toward_of c) t.diagonal q → t.across.num *ℤ q.w ≡ across_of (toward_of c) q *ℤ t.across.den → OnOneSight (toward_of c) (of_spot p) q
    seen_at p j t is q at e =
        same_sight (toward_of c) (of_spot p) q (j *ℤ pos spacing) is.on (subst (λ (z : ℤ). IsAt (toward_of c) z q) is.line at)
        ((λ i. sym is.num i *ℤ q.w) ∙ e ∙ (λ i. across_of (toward_of c) q *ℤ is.den i))

    first_mark : (j : ℤ) (t : HatchPlace) → IsPlaceOf (toward_of c) (j *ℤ pos spacing) x.a t → IsMark c s spacing t
    first_mark j t is = record { number = j; line = is.line; under = λ q at e. first_under c s x h q (seen_at x.a j t is q at e) }

    second_mark : (j : ℤ) (t : HatchPlace) → IsPlaceOf (toward_of c) (j *ℤ pos spacing) x.b t → IsMark c s spacing t
    second_mark j t is = record { number = j; line = is.line; under = λ q at e. second_under c s x h q (seen_at x.b j t is q at e) }

    pub stretch_marks : (i : Interval HatchPlace) → IsStretchOf (toward_of c) spacing x i → IsMark c s spacing i.from × IsMark c s spacing i.to × (i.from.diagonal ≡ i.to.diagonal)
    stretch_marks i is = by is.ends
      where
        by : AreEndsAlong (toward_of c) spacing x i.from i.to ⊎ AreEndsAlong (toward_of c) spacing x i.to i.from → IsMark c s spacing i.from × IsMark c s spacing i.to × (i.from.diagonal ≡ i.to.diagonal)
        by (inl e) = (first_mark e.number i.from e.first, second_mark e.number i.to e.second, e.first.line ∙ sym e.second.line)
        by (inr e) = (second_mark e.number i.from e.second, first_mark e.number i.to e.first, e.second.line ∙ sym e.first.line)

    -- a point between the ends of a stretch has the border under it
    pub stretch_under : (i : Interval HatchPlace) → IsStretchOf (toward_of c) spacing x i → (p : Point) → IsPoint p → IsAt (toward_of c) i.from.diagonal p
        → (i.from.across.num *ℤ p.w) <ℤ (across_of (toward_of c) p *ℤ i.from.across.den) → (across_of (toward_of c) p *ℤ i.to.across.den) ≤ℤ (i.to.across.num *ℤ p.w) → IsUnderBorder c s p
    stretch_under i is p positive at after until = by is.ends (weights_until i.from.across.num i.from.across.den i.to.across.num i.to.across.den (across_of (toward_of c) p) p.w after until)
      where
        d : Triple
        d = toward_of c

        sight : (q r : Spot) (j : ℤ) → IsPlaceOf d (j *ℤ pos spacing) q i.from → IsPlaceOf d (j *ℤ pos spacing) r i.to → (g : HasWeights i.from.across.num i.from.across.den i.to.across.num i.to.across.den (across_of d p) p.w)
            → OnOneSight d (weighted_sum (pos g.i) (of_spot q) (pos g.j) (of_spot r)) p
        sight q r j is_q is_r g =
            same_sight d (weighted_sum (pos g.i) (of_spot q) (pos g.j) (of_spot r)) p (j *ℤ pos spacing) (sum_at d (pos g.i) (pos g.j) (j *ℤ pos spacing) (of_spot q) (of_spot r) is_q.on is_r.on) (subst (λ (z : ℤ). IsAt d z p) is_q.line at)
            (ap (λ (z : ℤ). z *ℤ p.w) (product_of_sum (right_axis d) (pos g.i) (pos g.j) (of_spot q) (of_spot r)) ∙ (λ t. ((pos g.i *ℤ sym is_q.num t) +ℤ (pos g.j *ℤ sym is_r.num t)) *ℤ p.w) ∙ g.same
            ∙ (λ t. across_of d p *ℤ ((pos g.i *ℤ is_q.den t) +ℤ (pos g.j *ℤ is_r.den t))))

        swap : (m n : ℕ) → 0 < m + n → 0 < n + m
        swap m n h = omega arith

        by : AreEndsAlong d spacing x i.from i.to ⊎ AreEndsAlong d spacing x i.to i.from → HasWeights i.from.across.num i.from.across.den i.to.across.num i.to.across.den (across_of d p) p.w → IsUnderBorder c s p
        by (inl e) g = sum_under c s x h g.i g.j g.some p (sight x.a x.b e.number e.first e.second g)
        by (inr e) g = sum_under c s x h g.j g.i (swap g.i g.j g.some) p (subst (λ (q : Point). OnOneSight d q p) (sum_turned (pos g.i) (pos g.j) (of_spot x.b) (of_spot x.a)) (sight x.b x.a e.number e.second e.first g))

-- ---- borders by segments
-- the segment of a face: the points of its border are sums of the segment's ends
pub record IsSegmentFor (c : Plane) (s : Part) (segments : List Segment) (f : Face s) : Type 0 where
  pub x : Segment
  pub listed : Contains segments x
  pub is : IsSegmentOf c s x
  pub mixes : (q : Point) → IsOnBorder c f q → IsMixOf (of_spot x.a) (of_spot x.b) q

module _ (c : Plane) (s : Part) (segments : List Segment) (starts : List ℕ) (borders : AreBorders c s segments starts) where
  pub segment_for : (f : Face s) (r : Point) → IsOnBorder c f r → IsSegmentFor c s segments f
  segment_for f r there =
      let (x, listed, number) = segment_at segments f.number (borders.all f (crossed_of_point c f r there)) in
      let h = All-contains (IsSegmentOf c s) segments x borders.each listed in
      let same = have_same f h.face (sym number ∙ sym h.number) in
      record {
        x = x;
        listed = listed;
        is = h;
        mixes = λ q on. (ends_of c s x h).within q (subst (λ (k : Corner). IsPointOfFace h.face.a h.face.b k q) same.c (subst (λ (k : Corner). IsPointOfFace h.face.a k f.c q) same.b (subst (λ (k : Corner). IsPointOfFace k f.b f.c q) same.a on.0))) on.1;
      }

  -- it is seen with the sum
  pub mix_sight : (d : Triple) (p q r : Point) (m : IsMixOf p q r) → OnOneSight d (weighted_sum (pos m.i) p (pos m.j) q) r
  mix_sight d p q r m = record { across = by (right_axis d); upward = by (up_axis d) }
    where
      by : (o : Triple) → dot o (scaled (weighted_sum (pos m.i) p (pos m.j) q)) *ℤ r.w ≡ dot o (scaled r) *ℤ (weighted_sum (pos m.i) p (pos m.j) q).w
      by o =
          (λ t. dot o (record { x = m.x t; y = m.y t; z = m.z t }) *ℤ r.w)
          ∙ ring (o.x ∷ o.y ∷ o.z ∷ r.x ∷ r.y ∷ r.z ∷ r.w ∷ m.k ∷ [])
          ((((var 0 ⊗ (var 7 ⊗ var 3)) ⊕ (var 1 ⊗ (var 7 ⊗ var 4))) ⊕ (var 2 ⊗ (var 7 ⊗ var 5))) ⊗ var 6)
          ((((var 0 ⊗ var 3) ⊕ (var 1 ⊗ var 4)) ⊕ (var 2 ⊗ var 5)) ⊗ (var 7 ⊗ var 6)) refl
          ∙ (λ t. dot o (scaled r) *ℤ sym m.w t)

  pub mix_there : (p q r : Point) → IsPoint p → IsPoint q → IsMixOf p q r → IsPoint r
  mix_there p q r hp hq m = pos_of_mul m.k r.w m.positive (subst (λ (z : ℤ). pos 0 <ℤ z) m.w (sum_pos p.w q.w m.i m.j hp hq m.some))

  -- no border is further right than this
  pub border_near : (f : Face s) (q : Point) → IsOnBorder c f q → IsPoint q × IsNear (across_of (toward_of c) q) q.w
  border_near f q on =
      let d = toward_of c in
      let g = segment_for f q on in
      let a = of_spot g.x.a in
      let b = of_spot g.x.b in
      let m = g.mixes q on in
      let there = mix_there a b q g.x.a.positive g.x.b.positive m in
      let sum = weighted_sum (pos m.i) a (pos m.j) b in
      let near : IsNear (across_of d sum) sum.w = subst (λ (z : ℤ). IsNear z sum.w) (sym (product_of_sum (right_axis d) (pos m.i) (pos m.j) a b)) (near_sum m.i m.j (across_of d a) (across_of d b) g.x.a.w g.x.b.w g.x.a.positive g.x.b.positive (across_near c g.x.a) (across_near c g.x.b)) in
      (there, near_same (across_of d sum) sum.w (across_of d q) q.w (sum_pos g.x.a.w g.x.b.w m.i m.j g.x.a.positive g.x.b.positive m.some) (mix_sight d a b q m).across near)
