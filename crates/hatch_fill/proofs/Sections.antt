-- A point of a hatch line is in the section exactly where an odd number of places are left of it, and each line has an even number of places.
use Rattle.std.proofs.Common.{◌≡◌, ◌↔◌, ◌⊎◌, inl, inr, ℕ, zero, suc, ◌+◌, ◌*◌, ◌%◌, ◌≤◌, ◌^◌, Bool, true, false, List, [], ◌∷◌, Contains, length, refl, sym, ap, subst, ◌∙◌, arith, unsigned_abs}
use Rattle.std.specs.Prelude.{ℤ, pos, ◌-ℤ◌, ◌*ℤ◌, ◌<ℤ◌, ◌≤ℤ◌, ◌&&◌}
use Rattle.std.specs.List.{All, AllPairs}
use Rattle.std.specs.List.Sorted.{IsPermutation, IsSorted}
use Rattle.std.specs.Cmp.{int_cmp_is}
use Rattle.std.specs.Ordering.{int_cmp, is_lt, ordering_reverse}
use Rattle.std.specs.declared.cmp.Ordering.{Ordering}
use Rattle.std.specs.declared.cmp.Ordering.TheVariants.{Less, Equal, Greater}
use Rattle.std.proofs.lemmas.Int.{ints}
use Rattle.std.proofs.lemmas.List.Elements.{All-contains}
use Rattle.std.proofs.lemmas.List.Sorted.{ranks_by, sorted_far, Contains-permutation, IsPermutation-sym}
use Rattle.integers.proofs.Comparisons.{at_most_of_same, at_most_of_less}
use Rattle.lattice.specs.declared.soup.Tri.{Tri}
use Rattle.lattice.specs.Triangles.{IsBelow}
use Rattle.lattice.specs.Triple.{Triple}
use Rattle.lattice.specs.Points.{Point, IsPoint, across_of}
use Rattle.lattice.specs.Cuts.{Plane, toward_of}
use Rattle.geometry.specs.Parts.{Part, IsClosed}
use Rattle.geometry.specs.Cuts.{IsCount, nothing, counted, skipped, IsInSection, HasBorderRightOf}
use Rattle.cut_plane.specs.declared.segments.Segment.{Segment}
use Rattle.cut_plane.specs.Loops.{IsSegmentOf, AreBorders}
use Rattle.cut_plane.proofs.Lists.{contains_first, contains_rest, pairs_first, pairs_rest}
use Rattle.cut_plane.specs.Diagonals.{IsUnderBorder}
use Rattle.hatch_fill.specs.declared.places.HatchPlace.{HatchPlace}
use Rattle.hatch_fill.proofs.PlaceOrders.{place_order_total}
use Rattle.hatch_fill.specs.inner.Parts.{AreJoined}
use Rattle.hatch_fill.specs.inner.Places.{place_order}
use Rattle.hatch_fill.specs.inner.Lines.{triple_along, point_over}
use Rattle.hatch_fill.specs.inner.Crossings.{AreCrossings}
use Rattle.cut_plane.proofs.Diagonals.{section_on_diagonal}
use Rattle.hatch_fill.proofs.Counts.{one_if, passing, passing_permuted, some_passes, joined_count}
use Rattle.hatch_fill.proofs.OddLeft.{SegmentCrosses, segment_count, odd_left}
use Rattle.hatch_fill.proofs.Paired.{is_on, is_left, on_of, Ascend, EvenLines}
use Rattle.hatch_fill.proofs.Seen.{across_seen, upward_seen}
use Rattle.hatch_fill.proofs.SegmentCounts.{crosses_once}
use Rattle.hatch_fill.proofs.Turns.{IsAt}
use Rattle.hatch_fill.proofs.Under.{first_on_line, second_on_line, IsMark, crossing_marks, border_near}

-- ---- lists
passing_same : {A : Type 0} (f g : A → Bool) (xs : List A) → ((x : A) → Contains xs x → f x ≡ g x) → passing f xs ≡ passing g xs
passing_same f g [] same = refl
passing_same f g (x ∷ xs) same = λ i. one_if (same x (contains_first xs x) i) + passing_same f g xs (λ y there. same y (contains_rest x xs y there)) i

-- an odd count counts something
counted_some : {A : Type 0} {P : A → Type 0} (xs : List A) (n : ℕ) → IsCount A P xs n → n % 2 ≡ 1 → (x : A) × P x
counted_some [] n nothing odd = absurd (omega arith)
counted_some (x ∷ xs) n (counted _ _ k p rest) odd = (x, p)
counted_some (x ∷ xs) n (skipped _ _ k p rest) odd = counted_some xs n rest odd

-- sorted places ascend
ascend_of : (xs : List HatchPlace) → AllPairs (λ (x y : HatchPlace). is_lt (place_order y x) ≡ false) xs → Ascend xs
ascend_of [] pairs = tt
ascend_of (x ∷ xs) pairs = (
  (λ y there up. not_less (place_order y x) (place_order_total.antisymm y x ∙ ap ordering_reverse up) (All-contains (λ (z : HatchPlace). is_lt (place_order z x) ≡ false) xs y (pairs_first (λ (x y : HatchPlace). is_lt (place_order y x) ≡ false) x xs pairs) there)),
  ascend_of xs (pairs_rest (λ (x y : HatchPlace). is_lt (place_order y x) ≡ false) x xs pairs),
)
  where
    not_less : (r : Ordering) → r ≡ Less → is_lt r ≡ false → ⊥
    not_less Less e f = cc
    not_less Equal e f = cc
    not_less Greater e f = cc

pub sorted_ascend : (xs : List HatchPlace) → IsSorted place_order xs → Ascend xs
sorted_ascend xs sorted = ascend_of xs (λ i j e less within. sorted_far (λ x y. is_lt (place_order x y)) (ranks_by place_order_total (λ (x : HatchPlace). x)) xs sorted i j e (omega arith) within)

module _ (c : Plane) (s : Part) (closed : IsClosed s) (below : All (IsBelow (length s.corners)) s.triangles) (segments : List Segment) (starts : List ℕ) (borders : AreBorders c s segments starts) (spacing : ℕ) (some : 1 ≤ spacing) (places : List HatchPlace)
    (joined : AreJoined (AreCrossings (toward_of c) spacing) segments places) where
  abbrev d : Triple
  d = toward_of c

  pub inside_where_odd : (number : ℤ) (p : Point) → IsPoint p → IsAt d (number *ℤ pos spacing) p → ¬ IsUnderBorder c s p → (passing (is_left (number *ℤ pos spacing) (across_of d p) p.w) places % 2 ≡ 1) ↔ IsInSection c s p
  inside_where_odd number p positive at off =
      let law = section_on_diagonal c s closed below p positive off in
      let (n, count) = segment_count c s segments starts borders p in
      let told = odd_left c s segments starts borders p n count in
      let same = same_number n count in (
        (λ odd. law.1 (told.0 (subst (λ (n : ℕ). n % 2 ≡ 1) same odd))),
        (λ within. subst (λ (n : ℕ). n % 2 ≡ 1) (sym same) (told.1 (law.0 within))),
      )
    where
      same_number : (n : ℕ) → IsCount Segment (SegmentCrosses c p) segments n → passing (is_left (number *ℤ pos spacing) (across_of d p) p.w) places ≡ n
      same_number n count =
          joined_count (AreCrossings d spacing) (SegmentCrosses c p) (is_left (number *ℤ pos spacing) (across_of d p) p.w) segments places joined
          (λ x listed part are.
          let h = All-contains (IsSegmentOf c s) segments x borders.each listed in
          crosses_once c x (first_on_line c s x h) (second_on_line c s x h) spacing some number p positive at part are) n count

  -- ---- far to the right
  module _ (number : ℤ) where
    abbrev D : ℤ
    D = number *ℤ pos spacing

    abbrev far : Point
    far = point_over (triple_along c.axis c.from_high (pos 4194304) (pos 4194304 -ℤ D) (pos 0)) (pos 1)

    far_across : across_of d far ≡ pos 4194304
    far_across = across_seen c.axis c.from_high (pos 4194304) (pos 4194304 -ℤ D) (pos 0) (pos 1)

    far_at : IsAt d D far
    far_at = (λ i. far_across i -ℤ upward_seen c.axis c.from_high (pos 4194304) (pos 4194304 -ℤ D) (pos 0) (pos 1) i) ∙ by D
      where
        by : (x : ℤ) → pos 4194304 -ℤ (pos 4194304 -ℤ x) ≡ x *ℤ pos 1
        by x = omega (arith, ints)

    far_there : IsPoint far
    far_there = omega (arith, ints)

    too_near : (n w : ℤ) → pos 0 <ℤ w → unsigned_abs n ≤ 2 ^ 21 * unsigned_abs w → (pos 4194304 *ℤ w) ≤ℤ (n *ℤ pos 1) → ⊥
    too_near n w h near l = omega (arith, ints, near)

    off_borders : ¬ IsUnderBorder c s far
    off_borders (f, (q, on, sight)) =
        let (there, near) = border_near c s segments starts borders f q on in
        too_near (across_of d q) q.w there near (at_most_of_same _ _ (sym (sight.across ∙ (λ i. far_across i *ℤ q.w))))

    outside : ¬ IsInSection c s far
    outside (n, count, odd) = by (counted_some s.triangles n count odd)
      where
        by : (t : Tri) × HasBorderRightOf c s far t → ⊥
        by (t, (f, is, left)) =
            let (there, near) = border_near c s segments starts borders f left.right left.right_on in
            too_near (across_of d left.right) left.right.w there near (at_most_of_less _ _ (subst (λ (z : ℤ). (z *ℤ left.right.w) <ℤ (across_of d left.right *ℤ pos 1)) far_across left.more_across))

    -- each place is left of it
    all_left : (t : HatchPlace) → is_left D (across_of d far) (pos 1) t ≡ is_on D t
    all_left t = by (is_on D t)
      where
        further : (t.across.num *ℤ pos 1) <ℤ (across_of d far *ℤ t.across.den)
        further = subst (λ (z : ℤ). (t.across.num *ℤ pos 1) <ℤ (z *ℤ t.across.den)) (sym far_across) (nearer t.across.num t.across.den t.across.positive t.across_near)
          where
            nearer : (n m : ℤ) → pos 0 <ℤ m → unsigned_abs n ≤ 2 ^ 21 * unsigned_abs m → (n *ℤ pos 1) <ℤ (pos 4194304 *ℤ m)
            nearer n m h near = omega (arith, ints, near)

        test : is_lt (int_cmp (t.across.num *ℤ pos 1) (across_of d far *ℤ t.across.den)) ≡ true
        test = ap is_lt (sym (int_cmp_is _ _ Less further))

        by : (b : Bool) → (b && is_lt (int_cmp (t.across.num *ℤ pos 1) (across_of d far *ℤ t.across.den))) ≡ b
        by true = test
        by false = refl

    even_line : passing (is_on D) places % 2 ≡ 0
    even_line = by (passing (is_on D) places) (λ odd. outside ((inside_where_odd number far far_there far_at off_borders).0 (subst (λ (n : ℕ). n % 2 ≡ 1) (sym (passing_same (is_left D (across_of d far) (pos 1)) (is_on D) places (λ t there. all_left t))) odd)))
      where
        by : (n : ℕ) → (n % 2 ≡ 1 → ⊥) → n % 2 ≡ 0
        by n h = cases (n % 2) refl
          where
            cases : (k : ℕ) → n % 2 ≡ k → n % 2 ≡ 0
            cases zero e = e
            cases (suc zero) e = absurd (h e)
            cases (suc (suc k)) e = absurd (omega arith)

  pub even_lines : EvenLines places
  even_lines diagonal = by (some_passes (is_on diagonal) places)
    where
      of_mark : (t : HatchPlace) → t.diagonal ≡ diagonal → IsMark c s spacing t → passing (is_on diagonal) places % 2 ≡ 0
      of_mark t e m = subst (λ (z : ℤ). passing (is_on z) places % 2 ≡ 0) (sym m.line ∙ e) (even_line m.number)

      none : (n : ℕ) → n ≡ 0 → n % 2 ≡ 0
      none n e = omega arith

      by : ((t : HatchPlace) × Contains places t × (is_on diagonal t ≡ true)) ⊎ (passing (is_on diagonal) places ≡ 0) → passing (is_on diagonal) places % 2 ≡ 0
      by (inl (t, there, on)) = of_mark t (on_of diagonal t on) (crossing_marks c s spacing some segments borders.each places joined t there)
      by (inr e) = none (passing (is_on diagonal) places) e

  -- the same of sorted places
  module _ (sorted : List HatchPlace) (moved : IsPermutation places sorted) where
    pub even_sorted : EvenLines sorted
    even_sorted diagonal = subst (λ (n : ℕ). n % 2 ≡ 0) (sym (passing_permuted (is_on diagonal) places sorted moved)) (even_lines diagonal)

    pub sorted_mark : (t : HatchPlace) → Contains sorted t → IsMark c s spacing t
    sorted_mark t there = crossing_marks c s spacing some segments borders.each places joined t (Contains-permutation sorted places t (IsPermutation-sym places sorted moved) there)

    pub inside_where_odd_sorted : (number : ℤ) (p : Point) → IsPoint p → IsAt d (number *ℤ pos spacing) p → ¬ IsUnderBorder c s p → (passing (is_left (number *ℤ pos spacing) (across_of d p) p.w) sorted % 2 ≡ 1) ↔ IsInSection c s p
    inside_where_odd_sorted number p positive at off =
        let h = inside_where_odd number p positive at off in
        let e = passing_permuted (is_left (number *ℤ pos spacing) (across_of d p) p.w) places sorted moved in
        ((λ odd. h.0 (subst (λ (n : ℕ). n % 2 ≡ 1) e odd)), (λ within. subst (λ (n : ℕ). n % 2 ≡ 1) (sym e) (h.1 within)))
