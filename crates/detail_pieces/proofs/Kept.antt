-- What is left of a strip between two borders, in a window, and of a list of strips.
use Rattle.std.proofs.Common.{◌≡◌, ◌⊎◌, inl, inr, List, [], ◌∷◌, ◌++◌, Contains, sym, ap, subst, ◌∙◌, arith}
use Rattle.std.specs.Prelude.{ℤ, pos, ◌-ℤ◌, ◌*ℤ◌, ◌<ℤ◌, ◌≤ℤ◌}
use Rattle.std.proofs.lemmas.Int.{ints}
use Rattle.std.proofs.lemmas.List.Elements.{Contains-append_left, Contains-push, Contains-push_cases}
use Rattle.lattice.specs.declared.lines.Line.{Line}
use Rattle.lattice.specs.declared.pieces.Strip.{Strip}
use Rattle.lattice.specs.declared.points.Spot.{Spot}
use Rattle.lattice.specs.Triple.{Triple}
use Rattle.lattice.specs.Points.{Point, IsPoint, of_spot, OnOneSight}
use Rattle.lattice.specs.Lines.{IsSameLine}
use Rattle.line_merge.specs.Merging.{AreStrips, LiesOnStrip}
use Rattle.detail_pieces.specs.declared.sides.Bound.TheVariants.{Least, Most}
use Rattle.detail_pieces.specs.declared.sides.Side.{Side}
use Rattle.detail_pieces.specs.declared.sides.ViewAxis.{ViewAxis}
use Rattle.detail_pieces.specs.declared.sides.ViewAxis.TheVariants.{Across, Upward}
use Rattle.detail_pieces.specs.declared.windows.Window.{Window}
use Rattle.detail_pieces.specs.Windows.{IsInside, IsWithinWindow, IsOnSide, IsEndOf, AreClipped}
use Rattle.detail_pieces.specs.inner.Sides.{seen_of, over_by, over_of, IsKeptOrCut, IsLeftOf, IsOut}
use Rattle.detail_pieces.specs.inner.Parts.{IsBetween, IsKeptOrOn, IsLeftBetween, IsOutBetween, IsPartIn, IsUnseen}

same_on : (k l m : Line) → IsSameLine k l → IsSameLine l m → IsSameLine k m
same_on k l m e f = record { a = e.a ∙ f.a; b = e.b ∙ f.b; c = e.c ∙ f.c }

same_back : (k l : Line) → IsSameLine k l → IsSameLine l k
same_back k l e = record { a = sym e.a; b = sym e.b; c = sym e.c }

-- ---- between two borders
at_least : (f s k : ℤ) → f ≡ s -ℤ k → pos 0 ≤ℤ f → k ≤ℤ s
at_least f s k e h = omega (arith, ints)

at_least_back : (f s k : ℤ) → f ≡ s -ℤ k → k ≤ℤ s → pos 0 ≤ℤ f
at_least_back f s k e h = omega (arith, ints)

less_back : (f s k : ℤ) → f ≡ s -ℤ k → k <ℤ s → pos 0 ≤ℤ f
less_back f s k e h = omega (arith, ints)

never : (f s k : ℤ) → f ≡ s -ℤ k → k <ℤ s → f ≤ℤ pos 0 → ⊥
never f s k e h l = omega (arith, ints)

on_it : (f s k : ℤ) → f ≡ s -ℤ k → f ≡ pos 0 → s ≡ k
on_it f s k e h = omega (arith, ints)

on_that : (f s k : ℤ) → f ≡ k -ℤ s → f ≡ pos 0 → s ≡ k
on_that f s k e h = omega (arith, ints)

above_is : (d : Triple) (u : ViewAxis) (least : ℤ) (h : Side) → h.axis ≡ u → h.at ≡ least → h.bound ≡ Least → (p : Point) → over_of d h p ≡ seen_of d u p -ℤ (least *ℤ p.w)
above_is d u least h e f g p = λ i. over_by (g i) (seen_of d (e i) p) (f i *ℤ p.w)

below_is : (d : Triple) (u : ViewAxis) (most : ℤ) (h : Side) → h.axis ≡ u → h.at ≡ most → h.bound ≡ Most → (p : Point) → over_of d h p ≡ (most *ℤ p.w) -ℤ seen_of d u p
below_is d u most h e f g p = λ i. over_by (g i) (seen_of d (e i) p) (f i *ℤ p.w)

pub out_first : (d : Triple) (u : ViewAxis) (least most : ℤ) (h : Side) → h.axis ≡ u → h.at ≡ least → h.bound ≡ Least → (r : Strip) → IsOut d h r → IsOutBetween d u least most r
out_first d u least most h e f g r out = record {
  none = λ p hp lies more less. never _ _ _ (above_is d u least h e f g p) more (out.none p hp lies);
  alone = λ p q hp hq k l. out.alone p q hp hq (k.0, at_least_back _ _ _ (above_is d u least h e f g p) k.1.0) (l.0, at_least_back _ _ _ (above_is d u least h e f g q) l.1.0);
}

module _ (d : Triple) (u : ViewAxis) (least most : ℤ) (h g : Side) (h-axis : h.axis ≡ u) (h-at : h.at ≡ least) (h-least : h.bound ≡ Least) (g-axis : g.axis ≡ u) (g-at : g.at ≡ most) (g-most : g.bound ≡ Most) where
  above : (p : Point) → over_of d h p ≡ seen_of d u p -ℤ (least *ℤ p.w)
  above p = above_is d u least h h-axis h-at h-least p

  below : (p : Point) → over_of d g p ≡ (most *ℤ p.w) -ℤ seen_of d u p
  below p = below_is d u most g g-axis g-at g-most p

  kept_or_on : (r s t : Spot) → IsKeptOrCut d h r s → IsKeptOrCut d g s t → IsKeptOrOn d u least most r t
  kept_or_on r s t (inl e) (inl f) = inl (f ∙ e)
  kept_or_on r s t (inr z) (inl f) = inr (inl (on_it _ _ _ (above (of_spot t)) (ap (over_of d h) f ∙ z)))
  kept_or_on r s t k (inr z) = inr (inr (on_that _ _ _ (below (of_spot t)) z))

  pub left_between : (r s t : Strip) → IsLeftOf d h r s → IsLeftOf d g s t → IsLeftBetween d u least most r t
  left_between r s t one two = record {
    line = same_on t.line s.line r.line two.line one.line;
    kind = two.kind ∙ one.kind;
    proper = two.proper;
    lies = λ p hp. (
      (λ k.
          let l = (two.lies p hp).0 k in
          let m = (one.lies p hp).0 l.0 in
          (m.0, (at_least _ _ _ (above p) m.1, at_least _ _ _ (below p) l.1))),
      (λ k. (two.lies p hp).1 ((one.lies p hp).1 (k.0, at_least_back _ _ _ (above p) k.1.0), at_least_back _ _ _ (below p) k.1.1)),
    );
    first = kept_or_on r.a s.a t.a one.first two.first;
    second = kept_or_on r.b s.b t.b one.second two.second;
  }

  pub out_second : (r s : Strip) → IsLeftOf d h r s → IsOut d g s → IsOutBetween d u least most r
  out_second r s one out = record {
    none = λ p hp lies more less. never _ _ _ (below p) less (out.none p hp ((one.lies p hp).1 (lies, less_back _ _ _ (above p) more)));
    alone = λ p q hp hq k l. out.alone p q hp hq (left p hp k) (left q hq l);
  }
    where
      left : (p : Point) → IsPoint p → LiesOnStrip d r p × IsBetween d u least most p → LiesOnStrip d s p × (pos 0 ≤ℤ over_of d g p)
      left p hp k = ((one.lies p hp).1 (k.0, at_least_back _ _ _ (above p) k.1.0), at_least_back _ _ _ (below p) k.1.1)

-- ---- in a window
module _ (d : Triple) (o : Window) where
  kept_or_side : (r s t : Spot) → IsKeptOrOn d Across o.u1 o.u2 r s → IsKeptOrOn d Upward o.v1 o.v2 s t → (of_spot t ≡ of_spot r) ⊎ IsOnSide d o (of_spot t)
  kept_or_side r s t (inl e) (inl f) = inl (f ∙ e)
  kept_or_side r s t (inr (inl z)) (inl f) = inr (inl (subst (λ (p : Point). seen_of d Across p ≡ o.u1 *ℤ p.w) (sym f) z))
  kept_or_side r s t (inr (inr z)) (inl f) = inr (inr (inl (subst (λ (p : Point). seen_of d Across p ≡ o.u2 *ℤ p.w) (sym f) z)))
  kept_or_side r s t k (inr (inl z)) = inr (inr (inr (inl z)))
  kept_or_side r s t k (inr (inr z)) = inr (inr (inr (inr z)))

  pub part_of : (r s t : Strip) → IsLeftBetween d Across o.u1 o.u2 r s → IsLeftBetween d Upward o.v1 o.v2 s t → IsPartIn d o r t
  part_of r s t one two = record {
    line = same_on t.line s.line r.line two.line one.line;
    kind = two.kind ∙ one.kind;
    proper = two.proper;
    lies = λ p hp. (
      (λ k.
          let l = (two.lies p hp).0 k in
          let m = (one.lies p hp).0 l.0 in
          (m.0, record { left = m.1.0; right = m.1.1; below = l.1.0; above = l.1.1 })),
      (λ k. (two.lies p hp).1 ((one.lies p hp).1 (k.0, (k.1.left, k.1.right)), (k.1.below, k.1.above))),
    );
    first = kept_or_side r.a s.a t.a one.first two.first;
    second = kept_or_side r.b s.b t.b one.second two.second;
  }

  pub unseen_first : (r : Strip) → IsOutBetween d Across o.u1 o.u2 r → IsUnseen d o r
  unseen_first r out = record {
    none = λ p hp lies inside. out.none p hp lies inside.left inside.right;
    alone = λ p q hp hq k l. out.alone p q hp hq (k.0, (k.1.left, k.1.right)) (l.0, (l.1.left, l.1.right));
  }

  pub unseen_second : (r s : Strip) → IsLeftBetween d Across o.u1 o.u2 r s → IsOutBetween d Upward o.v1 o.v2 s → IsUnseen d o r
  unseen_second r s one out = record {
    none = λ p hp lies inside. out.none p hp ((one.lies p hp).1 (lies, (at_most _ _ inside.left, at_most _ _ inside.right))) inside.below inside.above;
    alone = λ p q hp hq k l. out.alone p q hp hq (left p hp k) (left q hq l);
  }
    where
      left : (p : Point) → IsPoint p → LiesOnStrip d r p × IsWithinWindow d o p → LiesOnStrip d s p × IsBetween d Upward o.v1 o.v2 p
      left p hp k = ((one.lies p hp).1 (k.0, (k.1.left, k.1.right)), (k.1.below, k.1.above))

      at_most : (a b : ℤ) → a <ℤ b → a ≤ℤ b
      at_most a b h = omega (arith, ints)

  -- ---- lists
  -- the strip has a point inside, or two places in the window
  abbrev Enters : Strip → Type 0
  Enters s =
      ((p : Point) × IsPoint p × LiesOnStrip d s p × IsInside d o p)
      ⊎ ((p : Point) × (q : Point) × IsPoint p × IsPoint q × (¬ OnOneSight d p q) × (LiesOnStrip d s p × IsWithinWindow d o p) × (LiesOnStrip d s q × IsWithinWindow d o q))

  never_enters : (s : Strip) → IsUnseen d o s → ¬ Enters s
  never_enters s unseen (inl (p, hp, lies, inside)) = unseen.none p hp lies inside
  never_enters s unseen (inr (p, q, hp, hq, apart, k, l)) = apart (unseen.alone p q hp hq k l)

  -- each clipped strip is a part of a strip, and each strip that enters the window has its part
  pub record ArePartsIn (strips clipped : List Strip) : Type 0 where
    pub each : (t : Strip) → Contains clipped t → (s : Strip) × Contains strips s × IsPartIn d o s t
    pub all : (s : Strip) → Contains strips s → Enters s → (t : Strip) × Contains clipped t × IsPartIn d o s t

  pub parts_none : ArePartsIn [] []
  parts_none = record { each = λ t k. absurd (omega (arith, k.1)); all = λ s k. absurd (omega (arith, k.1)) }

  pub parts_more : (strips clipped : List Strip) (s t : Strip) → ArePartsIn strips clipped → IsPartIn d o s t → ArePartsIn (strips ++ s ∷ []) (clipped ++ t ∷ [])
  parts_more strips clipped s t parts part = record {
    each = λ x k. each x (Contains-push_cases clipped t x k);
    all = λ x k enters. all x enters (Contains-push_cases strips s x k);
  }
    where
      each : (x : Strip) → Contains clipped x ⊎ (t ≡ x) → (y : Strip) × Contains (strips ++ s ∷ []) y × IsPartIn d o y x
      each x (inl k) = let (y, there, is) = parts.each x k in (y, Contains-append_left strips (s ∷ []) y there, is)
      each x (inr e) = (s, Contains-push strips s, subst (IsPartIn d o s) e part)

      all : (x : Strip) → Enters x → Contains strips x ⊎ (s ≡ x) → (y : Strip) × Contains (clipped ++ t ∷ []) y × IsPartIn d o x y
      all x enters (inl k) = let (y, there, is) = parts.all x k enters in (y, Contains-append_left clipped (t ∷ []) y there, is)
      all x enters (inr e) = (t, Contains-push clipped t, subst (λ (y : Strip). IsPartIn d o y t) e part)

  pub parts_unseen : (strips clipped : List Strip) (s : Strip) → ArePartsIn strips clipped → IsUnseen d o s → ArePartsIn (strips ++ s ∷ []) clipped
  parts_unseen strips clipped s parts unseen = record {
    each = λ x k. let (y, there, is) = parts.each x k in (y, Contains-append_left strips (s ∷ []) y there, is);
    all = λ x k enters. all x enters (Contains-push_cases strips s x k);
  }
    where
      all : (x : Strip) → Enters x → Contains strips x ⊎ (s ≡ x) → (y : Strip) × Contains clipped y × IsPartIn d o x y
      all x enters (inl k) = parts.all x k enters
      all x enters (inr e) = absurd (never_enters x (subst (IsUnseen d o) e unseen) enters)

  -- the strips clipped
  pub clipped_of : (strips clipped : List Strip) → ArePartsIn strips clipped → AreStrips d clipped → AreClipped d o strips clipped
  clipped_of strips clipped parts proper = record {
    proper = proper;
    inside = λ p hp inside l kind. (
      (λ (t, there, same, of, lies).
          let (s, given, part) = parts.each t there in
          (s, given, same_on s.line t.line l (same_back t.line s.line part.line) same, sym part.kind ∙ of, ((part.lies p hp).0 lies).0)),
      (λ (s, given, same, of, lies).
          let (t, there, part) = parts.all s given (inl (p, hp, lies, inside)) in
          (t, there, same_on t.line s.line l part.line same, part.kind ∙ of, (part.lies p hp).1 (lies, within p inside))),
    );
    within = λ t there p hp lies.
        let (s, given, part) = parts.each t there in
        let k = (part.lies p hp).0 lies in
        (k.1, (s, given, same_back t.line s.line part.line, sym part.kind, k.0));
    along = λ s given p q hp hq apart lies lies_too k l.
        let (t, there, part) = parts.all s given (inr (p, q, hp, hq, apart, (lies, k), (lies_too, l))) in
        (t, there, part.line, part.kind, (part.lies p hp).1 (lies, k));
    first_end = λ t there. let (s, given, part) = parts.each t there in first s t given part.first;
    second_end = λ t there. let (s, given, part) = parts.each t there in second s t given part.second;
  }
    where
      within : (p : Point) → IsInside d o p → IsWithinWindow d o p
      within p k = record { left = at_most _ _ k.left; right = at_most _ _ k.right; below = at_most _ _ k.below; above = at_most _ _ k.above }
        where
          at_most : (a b : ℤ) → a <ℤ b → a ≤ℤ b
          at_most a b h = omega (arith, ints)

      first : (s t : Strip) → Contains strips s → (of_spot t.a ≡ of_spot s.a) ⊎ IsOnSide d o (of_spot t.a) → IsEndOf strips t.a ⊎ IsOnSide d o (of_spot t.a)
      first s t given (inl e) = inl (s, given, inl e)
      first s t given (inr k) = inr k

      second : (s t : Strip) → Contains strips s → (of_spot t.b ≡ of_spot s.b) ⊎ IsOnSide d o (of_spot t.b) → IsEndOf strips t.b ⊎ IsOnSide d o (of_spot t.b)
      second s t given (inl e) = inl (s, given, inr e)
      second s t given (inr k) = inr k
