-- From one end to another at its corner: the rest and the turn make the rest, and with the triangles at the corner the counts. All are small.
use Rattle.std.proofs.Common.{◌≡◌, ℕ, ◌<◌, ◌≤◌, inl, inr, Bool, true, false, not, cond, List, All, Some, length, get_or, slice_get, refl, sym, subst, ap, ◌∙◌, arith}
use Rattle.std.specs.Prelude.{ℤ, pos, ◌+ℤ◌, ◌-ℤ◌, sum}
use Rattle.std.proofs.lemmas.Int.{ints}
use Rattle.std.proofs.lemmas.List.Sums.{sum_by-le}
use Rattle.std.proofs.lemmas.List.Elements.{length_all_zip, AllZip-get_or}
use Rattle.std.proofs.lemmas.Option.{slice_get-get_or}
use Rattle.geometry.specs.Parts.{Face, Edge, IsNumbered}
use Rattle.geometry.specs.Counts.{Side, to_left, to_right}
use Rattle.geometry.specs.inner.CountsNext.{AreCoversOf, AreCountedNext}
use Rattle.geometry.specs.Covers.{IsCountedNext, IsOneWhere}
use Rattle.geometry.specs.Turns.{number_at, corner_at}
use Rattle.solid_mesh.specs.Solids.{AreTrianglesAt}
use Rattle.hiding_laws.specs.Sums.{total}
use Rattle.hiding_laws.proofs.MeshCounts.{face_of}
use Rattle.hiding_laws.proofs.CountTurned.{count_turned}
use Rattle.hiding_laws.proofs.NextCounts.{counted_next}
use Rattle.cross_find.specs.declared.meter.End.{End}
use Rattle.cross_find.specs.Sights.{SightState, IsSeen}
use Rattle.span_count.specs.declared.step.Sides.{Sides}
use Rattle.span_count.specs.Carries.{IsSmall, AreSmall}
use Rattle.span_count.specs.inner.Rests.{IsCountNext, AreCountsNext, AreOwn, IsOwnCount, AreOwnCounts, IsRest, AreRests, IsTurnOver, AreTurnsOver}
use Rattle.span_count.specs.inner.Steps.{IsSeenEdge, AreListedOver}
use Rattle.span_count.proofs.Stars.{one_star, star_within, star_few, edge_at}

-- ---- sizes
one_most : {P : Type 0} (c : ℕ) → IsOneWhere P c → c ≤ 1
one_most c (inl h) = let e = h.0 in omega arith
one_most c (inr h) = let e = h.0 in omega arith

ones_few : (xs : List ℕ) → All (λ (c : ℕ). c ≤ 1) xs → sum xs ≤ length xs
ones_few xs h = let r = sum_by-le (λ (m : ℕ). m) 1 xs h in omega arith

count_is_small : (n : ℕ) (z : ℤ) → n ≤ 20000 → z ≡ pos n → IsSmall z
count_is_small n z few is = (omega (arith, ints), omega (arith, ints))

module _ (x : SightState) (seen : IsSeen x) (k : Side) (e : Edge x.part) (at_b : Bool) where
  counted_few : (n : ℕ) → AreCountedNext k x.direction e at_b n → n ≤ 20000
  counted_few n h = by n (sum h.covers) (length h.covers) (length x.part.triangles) h.all (ones_few h.covers each) h.next.long seen.few_triangles
    where
      by : (n s l t : ℕ) → n ≡ s → s ≤ l → l ≡ t → t ≤ 20000 → n ≤ 20000
      by n s l t p q r few = omega arith

      each : All (λ (c : ℕ). c ≤ 1) h.covers
      each i d within = one_most (get_or h.covers i d)
          (h.next.each i (get_or h.covers i d) (slice_get-get_or h.covers i d within) (face_of x.part seen.within i (subst (λ (m : ℕ). i < m) h.next.long within)) refl)

  abbrev OneAt : ℕ → ℕ → Type 0
  OneAt i c = (f : Face x.part) → f.number ≡ i → IsOneWhere (IsCountedNext k x.direction e at_b f) c

  own_few : (n : ℕ) → AreOwn k x.direction e at_b n → n ≤ 20000
  own_few n h = by n (sum h.covers) (length h.covers) (length h.star) (length x.part.triangles) h.all (ones_few h.covers each) same (star_few x.part (number_at e at_b) h.star h.at_corner) seen.few_triangles
    where
      by : (n s l m t : ℕ) → n ≡ s → s ≤ l → m ≡ l → m ≤ t → t ≤ 20000 → n ≤ 20000
      by n s l m t p q r u few = omega arith

      same : length h.star ≡ length h.covers
      same = length_all_zip OneAt h.star h.covers h.next

      each : All (λ (c : ℕ). c ≤ 1) h.covers
      each i d within =
          let short : i < length h.star = subst (λ (m : ℕ). i < m) (sym same) within in
          one_most (get_or h.covers i d) (AllZip-get_or OneAt h.star h.covers i 0 d h.next short (face_of x.part seen.within (get_or h.star i 0) (star_within x.part (number_at e at_b) h.star h.at_corner i 0 short)) refl)

  count_small : (z : ℤ) → IsCountNext k x.direction e at_b z → IsSmall z
  count_small z h = count_is_small h.count z (counted_few h.count h.counted) h.all

  rest_small : (z : ℤ) → IsRest k x.direction e at_b z → IsSmall z
  rest_small z h = by h.count h.own z (counted_few h.count h.counted) (own_few h.own h.of_corner) h.rest
    where
      by : (m n : ℕ) (z : ℤ) → m ≤ 20000 → n ≤ 20000 → z ≡ pos m -ℤ pos n → IsSmall z
      by m n z p q is = (omega (arith, ints), omega (arith, ints))

module _ (x : SightState) (seen : IsSeen x) (edge : ℕ) (within : edge < length x.halves) (at_b : Bool) (c : Sides) where
  pub counts_small : AreCountsNext x edge at_b c → AreSmall c
  counts_small h =
      let (e, at) = edge_at x seen edge within in
      record { left = count_small x seen to_left e at_b c.left (h.on_left e at); right = count_small x seen to_right e at_b c.right (h.on_right e at) }

  pub rests_small : AreRests x edge at_b c → AreSmall c
  rests_small h =
      let (e, at) = edge_at x seen edge within in
      record { left = rest_small x seen to_left e at_b c.left (h.on_left e at); right = rest_small x seen to_right e at_b c.right (h.on_right e at) }

-- ---- counts, less those at the corner
rest_of : (x : SightState) (k : Side) (e : Edge x.part) (at_b : Bool) (z o r : ℤ) → IsCountNext k x.direction e at_b z → IsOwnCount k x.direction e at_b o → r ≡ z -ℤ o → IsRest k x.direction e at_b r
rest_of x k e at_b z o r h g is = record { count = h.count; own = g.own; counted = h.counted; of_corner = g.of_corner; rest = by z o r (pos h.count) (pos g.own) is h.all g.all }
  where
    by : (z o r m n : ℤ) → r ≡ z -ℤ o → z ≡ m → o ≡ n → r ≡ m -ℤ n
    by z o r m n p q s = omega (arith, ints)

pub rests_of : (x : SightState) (edge : ℕ) (at_b : Bool) (c o r : Sides) → AreCountsNext x edge at_b c → AreOwnCounts x edge at_b o → r.left ≡ c.left -ℤ o.left → r.right ≡ c.right -ℤ o.right → AreRests x edge at_b r
rests_of x edge at_b c o r h g l r_is = record {
  on_left = λ e at. rest_of x to_left e at_b c.left o.left r.left (h.on_left e at) (g.on_left e at) l;
  on_right = λ e at. rest_of x to_right e at_b c.right o.right r.right (h.on_right e at) (g.on_right e at) r_is;
}

-- the rests at both ends, by the end that is come from
pub rests_first : (x : SightState) (edge : ℕ) (at_b : Bool) (here far given : Sides) → AreRests x edge at_b here → AreRests x edge (not at_b) far → given ≡ cond at_b far here → AreRests x edge false given
rests_first x edge false here far given h g is = subst (λ (c : Sides). AreRests x edge false c) (sym is) h
rests_first x edge true here far given h g is = subst (λ (c : Sides). AreRests x edge false c) (sym is) g

pub rests_second : (x : SightState) (edge : ℕ) (at_b : Bool) (here far given : Sides) → AreRests x edge at_b here → AreRests x edge (not at_b) far → given ≡ cond at_b here far → AreRests x edge true given
rests_second x edge false here far given h g is = subst (λ (c : Sides). AreRests x edge true c) (sym is) g
rests_second x edge true here far given h g is = subst (λ (c : Sides). AreRests x edge true c) (sym is) h

-- ---- the turn
module _ (x : SightState) (seen : IsSeen x) (from to : End) (on_from : IsSeenEdge x from.edge) (on_to : IsSeenEdge x to.edge)
    (e f : Edge x.part) (e_at : IsNumbered x.halves from.edge e) (f_at : IsNumbered x.halves to.edge f) (one : number_at e from.at_b ≡ number_at f to.at_b)
    (corner : ℕ) (corner_is : corner ≡ number_at f to.at_b) (outlines : List ℕ) (listed : AreListedOver x corner outlines) where
  corner_there : (b : Bool) → slice_get x.part.corners (number_at e b) ≡ Some (corner_at e b)
  corner_there false = e.at_m
  corner_there true = e.at_n

  here : AreListedOver x (number_at e from.at_b) outlines
  here = subst (λ (n : ℕ). AreListedOver x n outlines) (corner_is ∙ sym one) listed

  module _ (k : Side) (z t o : ℤ) (rest : IsRest k x.direction e from.at_b z) (turn : IsTurnOver k x e from.at_b f to.at_b outlines t) (own : IsOwnCount k x.direction f to.at_b o) where
    abbrev there : (n : ℕ) × AreCountedNext k x.direction f to.at_b n
    there = counted_next k x.direction x.part seen.within f to.at_b

    abbrev star : List ℕ
    star = rest.of_corner.star

    star_is : own.of_corner.star ≡ star
    star_is = one_star x.part (number_at e from.at_b) own.of_corner.star star (subst (λ (n : ℕ). AreTrianglesAt x.part n own.of_corner.star) (sym one) own.of_corner.at_corner) rest.of_corner.at_corner

    law : ((pos (sum rest.counted.covers) -ℤ pos (sum rest.of_corner.covers)) +ℤ total (λ (t : ℤ). t) turn.turns) +ℤ pos (sum own.of_corner.covers) ≡ pos (sum there.1.covers)
    law = count_turned x.direction seen.directed x.part seen.sound seen.within x.halves seen.edges outlines (λ i d l. (listed.outline i d l).0) listed.once (λ (t : ℤ). t) turn.turns
        star rest.of_corner.at_corner.ascending k e from.at_b f to.at_b one (on_from.seen e e_at) (on_to.seen f f_at) rest.of_corner.at_corner.exactly
        (λ i o at out over. here.passing (corner_at e from.at_b) o i (corner_there from.at_b) at out over) turn.each
        rest.counted.covers there.1.covers rest.of_corner.covers own.of_corner.covers rest.counted.next there.1.next rest.of_corner.next
        (subst (λ (xs : List ℕ). AreCoversOf k x.direction f to.at_b xs own.of_corner.covers) star_is own.of_corner.next)

    rest_is : (r : ℤ) → r ≡ z +ℤ t → r ≡ pos there.0 -ℤ pos own.own
    rest_is r is =
        by r z t (pos rest.count) (pos rest.own) (total (λ (t : ℤ). t) turn.turns) (pos own.own) (pos (sum rest.counted.covers)) (pos (sum rest.of_corner.covers)) (pos (sum own.of_corner.covers))
        (pos there.0) (pos (sum there.1.covers)) is rest.rest turn.all (ap (λ (n : ℕ). pos n) rest.counted.all) (ap (λ (n : ℕ). pos n) rest.of_corner.all)
        (ap (λ (n : ℕ). pos n) own.of_corner.all) (ap (λ (n : ℕ). pos n) there.1.all) law
      where
        by : (r z t m n s o m' n' o' c c' : ℤ) → r ≡ z +ℤ t → z ≡ m -ℤ n → t ≡ s → m ≡ m' → n ≡ n' → o ≡ o' → c ≡ c' → ((m' -ℤ n') +ℤ s) +ℤ o' ≡ c' → r ≡ c -ℤ o
        by r z t m n s o m' n' o' c c' a b d f g h i j = omega (arith, ints)

    turned_rest : (r : ℤ) → r ≡ z +ℤ t → IsRest k x.direction f to.at_b r
    turned_rest r is = record { count = there.0; own = own.own; counted = there.1; of_corner = own.of_corner; rest = rest_is r is }

    turned_count : (r c : ℤ) → r ≡ z +ℤ t → c ≡ r +ℤ o → IsCountNext k x.direction f to.at_b c
    turned_count r c is sum_is = record { count = there.0; counted = there.1; all = by c r o (pos there.0) (pos own.own) sum_is (rest_is r is) own.all }
      where
        by : (c r o n w : ℤ) → c ≡ r +ℤ o → r ≡ n -ℤ w → o ≡ w → c ≡ n
        by c r o n w p q s = omega (arith, ints)

-- on both sides
module _ (x : SightState) (seen : IsSeen x) (from to : End) (on_from : IsSeenEdge x from.edge) (on_to : IsSeenEdge x to.edge)
    (one : (e f : Edge x.part) → IsNumbered x.halves from.edge e → IsNumbered x.halves to.edge f → number_at e from.at_b ≡ number_at f to.at_b)
    (corner : ℕ) (corner_is : (f : Edge x.part) → IsNumbered x.halves to.edge f → corner ≡ number_at f to.at_b) (outlines : List ℕ) (listed : AreListedOver x corner outlines)
    (z t o r : Sides) (rests : AreRests x from.edge from.at_b z) (turns : AreTurnsOver x from to outlines t) (own : AreOwnCounts x to.edge to.at_b o)
    (left_is : r.left ≡ z.left +ℤ t.left) (right_is : r.right ≡ z.right +ℤ t.right) where
  start : (e : Edge x.part) × IsNumbered x.halves from.edge e
  start = edge_at x seen from.edge on_from.in_range

  pub rests_turned : AreRests x to.edge to.at_b r
  rests_turned = record {
    on_left = λ f at. turned_rest x seen from to on_from on_to start.0 f start.1 at (one start.0 f start.1 at) corner (corner_is f at) outlines listed to_left z.left t.left o.left
        (rests.on_left start.0 start.1) (turns.on_left start.0 f start.1 at) (own.on_left f at) r.left left_is;
    on_right = λ f at. turned_rest x seen from to on_from on_to start.0 f start.1 at (one start.0 f start.1 at) corner (corner_is f at) outlines listed to_right z.right t.right o.right
        (rests.on_right start.0 start.1) (turns.on_right start.0 f start.1 at) (own.on_right f at) r.right right_is;
  }

  pub counts_turned : (c : Sides) → c.left ≡ r.left +ℤ o.left → c.right ≡ r.right +ℤ o.right → AreCountsNext x to.edge to.at_b c
  counts_turned c l m = record {
    on_left = λ f at. turned_count x seen from to on_from on_to start.0 f start.1 at (one start.0 f start.1 at) corner (corner_is f at) outlines listed to_left z.left t.left o.left
        (rests.on_left start.0 start.1) (turns.on_left start.0 f start.1 at) (own.on_left f at) r.left c.left left_is l;
    on_right = λ f at. turned_count x seen from to on_from on_to start.0 f start.1 at (one start.0 f start.1 at) corner (corner_is f at) outlines listed to_right z.right t.right o.right
        (rests.on_right start.0 start.1) (turns.on_right start.0 f start.1 at) (own.on_right f at) r.right c.right right_is m;
  }
