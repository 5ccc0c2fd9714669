-- The ends at a place, as one more stroke is noted.
use Rattle.std.proofs.Common.{◌≡◌, ◌≢◌, ◌⊎◌, inl, inr, ℕ, zero, suc, ◌+◌, ◌&&◌, ◌++◌, Bool, true, false, cond, List, [], ◌∷◌, Some, length, slice_get, Result, Vec, Global, refl, sym, ap, subst, ◌∙◌, arith, nat_eq}
use Rattle.std.specs.Bool.{Decides}
use Rattle.std.specs.Option.{option_map_or}
use Rattle.std.specs.Ordering.{int_eq}
use Rattle.std.proofs.lemmas.Bool.{cases_eq, false≢true}
use Rattle.std.proofs.lemmas.Bool.Decides.{Decides-and, Decides-int_eq, Decides-eqb, Decides-like}
use Rattle.std.proofs.lemmas.Option.{same_Some}
use Rattle.std.proofs.lemmas.Result.{on_ok_weaker}
use Rattle.std.specs.Result.{OnOk}
use Rattle.std.specs.Map.{lookup}
use Rattle.indexmap.specs.IndexMap.{IndexMap, get}
use Rattle.sheet_plan.proofs.OneKinds.{mark_of_pen}
use Rattle.sheet_plan.specs.declared.sheet.Mark.{Mark}
use Rattle.sheet_plan.specs.declared.sheet.Mark.TheVariants.{Hatch}
use Rattle.sheet_plan.specs.declared.sheet.Stroke.{Stroke}
use Rattle.stroke_paths.specs.declared.corners.StrokePlace.{StrokePlace}
use Rattle.stroke_paths.specs.declared.path.End.{End}
use Rattle.stroke_paths.specs.declared.path.Point.{Point}
use Rattle.stroke_paths.specs.declared.path.Tip.{Tip}
use Rattle.stroke_paths.specs.declared.path.Tip.TheVariants.{First, Second}
use Rattle.stroke_paths.specs.Joints.{IsDot, point_of}
use Rattle.stroke_paths.specs.inner.Corners.{place_for, place_of, same_place, IsListed, AreEnds, EndsBelow, ends_in, AreCorners, IsNoted}
use Rattle.stroke_paths.specs.inner.Tables.{MayJoin}

-- ---- places
decides_point : (p q : Point) → Decides (int_eq p.x q.x && int_eq p.y q.y) (p ≡ q)
decides_point p q =
    Decides-like (int_eq p.x q.x && int_eq p.y q.y) (λ (a, b). λ i. record { x = a i; y = b i }) (λ e. (ap (λ (r : Point). r.x) e, ap (λ (r : Point). r.y) e))
    (Decides-and (int_eq p.x q.x) (int_eq p.y q.y) (Decides-int_eq p.x q.x) (Decides-int_eq p.y q.y))

decides_same : (p q : StrokePlace) → Decides (same_place p q) (p ≡ q)
decides_same p q =
    let points = int_eq p.point.x q.point.x && int_eq p.point.y q.point.y in
    Decides-like (same_place p q) (λ (a, (b, c)). λ i. record { view = a i; mark = b i; point = c i })
    (λ e. (ap (λ (s : StrokePlace). s.view) e, (ap (λ (s : StrokePlace). s.mark) e, ap (λ (s : StrokePlace). s.point) e)))
    (Decides-and (nat_eq p.view q.view) (nat_eq p.mark q.mark && points) (Decides-eqb p.view q.view)
    (Decides-and (nat_eq p.mark q.mark) points (Decides-eqb p.mark q.mark) (decides_point p.point q.point)))

-- a stroke's end is at this point, for the strokes of this view and mark
pub record IsAt (s : Stroke) (tip : Tip) (view : ℕ) (mark : Mark) (p : Point) : Type 0 where
  pub view_is : s.view ≡ view
  pub mark_is : s.mark ≡ mark
  pub at : point_of tip s ≡ p

at_of_same : (s : Stroke) (b : Tip) (view : ℕ) (mark : Mark) (p : Point) → same_place (place_of b s) (place_for view mark p) ≡ true → IsAt s b view mark p
at_of_same s b view mark p h =
    let e = (decides_same (place_of b s) (place_for view mark p)).0 h in
    record {
      view_is = ap (λ (q : StrokePlace). q.view) e;
      mark_is = mark_of_pen s.mark mark (ap (λ (q : StrokePlace). q.mark) e);
      at = ap (λ (q : StrokePlace). q.point) e;
    }

same_of_at : (s : Stroke) (b : Tip) (view : ℕ) (mark : Mark) (p : Point) → IsAt s b view mark p → same_place (place_of b s) (place_for view mark p) ≡ true
same_of_at s b view mark p h = (decides_same (place_of b s) (place_for view mark p)).1 (λ i. place_for (h.view_is i) (h.mark_is i) (h.at i))

-- ---- one more end that is listed
listed_later : (x : End) (xs : List End) (g : End) → IsListed xs g → IsListed (x ∷ xs) g
listed_later x xs g (k, h) = (suc k, h)

pub none_listed : (g : End) → IsListed [] g → ⊥
none_listed g (k, h) = cc

listed_before : (xs : List End) (e g : End) → IsListed xs g → IsListed (xs ++ e ∷ []) g
listed_before [] e g (k, h) = absurd (none_listed g (k, h))
listed_before (x ∷ xs) e g (zero, h) = (zero, h)
listed_before (x ∷ xs) e g (suc k, h) = listed_later x (xs ++ e ∷ []) g (listed_before xs e g (k, h))

listed_last : (xs : List End) (e : End) → IsListed (xs ++ e ∷ []) e
listed_last [] e = (zero, refl)
listed_last (x ∷ xs) e = listed_later x (xs ++ e ∷ []) e (listed_last xs e)

listed_parts : (xs : List End) (e g : End) → IsListed (xs ++ e ∷ []) g → IsListed xs g ⊎ (g ≡ e)
listed_parts [] e g (zero, h) = inr (sym (same_Some e g h))
listed_parts [] e g (suc k, h) = absurd (none_listed g (k, h))
listed_parts (x ∷ xs) e g (zero, h) = inl (zero, h)
listed_parts (x ∷ xs) e g (suc k, h) = by (listed_parts xs e g (k, h))
  where
    by : IsListed xs g ⊎ (g ≡ e) → IsListed (x ∷ xs) g ⊎ (g ≡ e)
    by (inl l) = inl (listed_later x xs g l)
    by (inr q) = inr q

-- ---- one more end that counts, or none
module _ (P Q : End → Type 0) (more : (g : End) → P g → Q g) where
  ends_same : ((g : End) → Q g → P g) → (xs : List End) → AreEnds P xs → AreEnds Q xs
  ends_same back xs h = record { each = λ g l. more g (h.each g l); all = λ g q. h.all g (back g q) }

  ends_more : (e : End) → Q e → ((g : End) → Q g → P g ⊎ (g ≡ e)) → (xs : List End) → AreEnds P xs → AreEnds Q (xs ++ e ∷ [])
  ends_more e here back xs h = record { each = λ g l. counted g (listed_parts xs e g l); all = λ g q. listed g (back g q) }
    where
      counted : (g : End) → IsListed xs g ⊎ (g ≡ e) → Q g
      counted g (inl l) = more g (h.each g l)
      counted g (inr same) = subst Q (sym same) here

      listed : (g : End) → P g ⊎ (g ≡ e) → IsListed (xs ++ e ∷ []) g
      listed g (inl q) = listed_before xs e g (h.all g q)
      listed g (inr same) = subst (IsListed (xs ++ e ∷ [])) (sym same) (listed_last xs e)

-- ---- one more stroke
module _ (strokes : List Stroke) (i : ℕ) (s : Stroke) (listed : slice_get strokes i ≡ Some s) where
  below_more : (view : ℕ) (mark : Mark) (p : Point) (g : End) → EndsBelow strokes i view mark p g → EndsBelow strokes (i + 1) view mark p g
  below_more view mark p g h = record { below = omega (arith, h.below); ends = h.ends }

  -- an end below i + 1 is below i, or an end of the stroke at i
  pub record IsEndHere (view : ℕ) (mark : Mark) (p : Point) (g : End) : Type 0 where
    pub here : g.stroke ≡ i
    pub at : IsAt s g.tip view mark p
    pub no_dot : IsDot s → ⊥

  below_parts : (view : ℕ) (mark : Mark) (p : Point) (g : End) → EndsBelow strokes (i + 1) view mark p g → EndsBelow strokes i view mark p g ⊎ IsEndHere view mark p g
  below_parts view mark p g h = by (cases_eq g.stroke i)
    where
      by : (g.stroke ≡ i) ⊎ (g.stroke ≡ i → ⊥) → EndsBelow strokes i view mark p g ⊎ IsEndHere view mark p g
      by (inl e) =
          let same : h.ends.stroke ≡ s = same_Some h.ends.stroke s (sym h.ends.listed ∙ ap (slice_get strokes) e ∙ listed) in
          inr
          (record {
            here = e;
            at = record {
              view_is = ap (λ (t : Stroke). t.view) (sym same) ∙ h.ends.view_is;
              mark_is = ap (λ (t : Stroke). t.mark) (sym same) ∙ h.ends.mark_is;
              at = ap (point_of g.tip) (sym same) ∙ h.ends.at;
            };
            no_dot = subst (λ (t : Stroke). IsDot t → ⊥) same h.ends.no_dot;
          })
      by (inr n) = inl (record { below = omega (arith, h.below, n); ends = h.ends })

  end_here : (b : Tip) (view : ℕ) (mark : Mark) (p : Point) → (IsDot s → ⊥) → IsAt s b view mark p → EndsBelow strokes (i + 1) view mark p (record { stroke = i; tip = b })
  end_here b view mark p no_dot at =
      record {
        below = omega arith;
        ends = record { stroke = s; listed = listed; no_dot = no_dot; view_is = at.view_is; mark_is = at.mark_is; at = at.at };
      }

  dot_of : (view : ℕ) (mark : Mark) (p : Point) → IsAt s First view mark p → IsAt s Second view mark p → IsDot s
  dot_of view mark p h k = h.at ∙ sym k.at

  module _ {S : Type 0} (old : IndexMap StrokePlace (Vec End Global) S) (so_far : AreCorners strokes i old) where
    -- a stroke that may not be joined leaves the table
    pub none_noted : (MayJoin s → ⊥) → AreCorners strokes (i + 1) old
    none_noted alone view mark p drawn =
        ends_same (EndsBelow strokes i view mark p) (EndsBelow strokes (i + 1) view mark p) (below_more view mark p) back (ends_in old (place_for view mark p)) (so_far view mark p drawn)
      where
        back : (g : End) → EndsBelow strokes (i + 1) view mark p g → EndsBelow strokes i view mark p g
        back g h = by (below_parts view mark p g h)
          where
            by : EndsBelow strokes i view mark p g ⊎ IsEndHere view mark p g → EndsBelow strokes i view mark p g
            by (inl k) = k
            by (inr k) = absurd (alone (record { no_dot = k.no_dot; no_hatch = λ e. drawn (sym k.at.mark_is ∙ e) }))

    -- one that may be is noted at its first end and at its second
    module _ (no_dot : IsDot s → ⊥) (middle after : IndexMap StrokePlace (Vec End Global) S) (first : IsNoted old middle (place_of First s) (record { stroke = i; tip = First }))
        (second : IsNoted middle after (place_of Second s) (record { stroke = i; tip = Second })) where
      module _ (view : ℕ) (mark : Mark) (p : Point) (drawn : mark ≢ Hatch) where
        abbrev Was : End → Type 0
        Was = EndsBelow strokes i view mark p

        abbrev Is : End → Type 0
        Is = EndsBelow strokes (i + 1) view mark p

        abbrev q : StrokePlace
        q = place_for view mark p

        told : (xs : List End) → xs ≡ ends_in old q → AreEnds Was xs
        told xs e = subst (AreEnds Was) (sym e) (so_far view mark p drawn)

        -- the end b alone is here
        one_here : (b : Tip) → IsAt s b view mark p → ((c : Tip) → IsAt s c view mark p → c ≡ b) → (xs : List End) → xs ≡ ends_in old q
            → AreEnds Is (xs ++ record { stroke = i; tip = b } ∷ [])
        one_here b at only xs e =
            ends_more Was Is (below_more view mark p) (record { stroke = i; tip = b }) (end_here b view mark p no_dot at) back xs (told xs e)
          where
            back : (g : End) → Is g → Was g ⊎ (g ≡ record { stroke = i; tip = b })
            back g h = by (below_parts view mark p g h)
              where
                by : Was g ⊎ IsEndHere view mark p g → Was g ⊎ (g ≡ record { stroke = i; tip = b })
                by (inl k) = inl k
                by (inr k) = inr (λ j. record { stroke = k.here j; tip = (only g.tip k.at) j })

        none_here : ((c : Tip) → IsAt s c view mark p → ⊥) → AreEnds Is (ends_in old q)
        none_here none = ends_same Was Is (below_more view mark p) back (ends_in old q) (so_far view mark p drawn)
          where
            back : (g : End) → Is g → Was g
            back g h = by (below_parts view mark p g h)
              where
                by : Was g ⊎ IsEndHere view mark p g → Was g
                by (inl k) = k
                by (inr k) = absurd (none g.tip k.at)

        not_at : (b : Tip) → same_place (place_of b s) q ≡ false → IsAt s b view mark p → ⊥
        not_at b h k = false≢true (sym h ∙ same_of_at s b view mark p k)

        other_differs : same_place (place_of Second s) q ≡ true → same_place (place_of First s) (place_of Second s) ≡ false
        other_differs h = by (same_place (place_of First s) (place_of Second s)) refl
          where
            by : (b : Bool) → same_place (place_of First s) (place_of Second s) ≡ b → b ≡ false
            by true e = absurd (no_dot ((at_of_same s First s.view s.mark (point_of Second s) e).at))
            by false e = refl

        at_place : (a b : Bool) → same_place (place_of First s) q ≡ a → same_place (place_of Second s) q ≡ b → AreEnds Is (ends_in after q)
        at_place a true h k =
            let here = at_of_same s Second view mark p k in
            let is : q ≡ place_of Second s = sym ((decides_same (place_of Second s) q).0 k) in
            let before : ends_in middle (place_of Second s) ≡ ends_in old q =
            first (place_of Second s) ∙ ap (λ c. cond c (ends_in old (place_of First s) ++ record { stroke = i; tip = First } ∷ []) (ends_in old (place_of Second s))) (other_differs k)
            ∙ ap (ends_in old) (sym is) in
            let now : ends_in after q ≡ (ends_in middle (place_of Second s) ++ record { stroke = i; tip = Second } ∷ []) =
            second q ∙ ap (λ c. cond c (ends_in middle (place_of Second s) ++ record { stroke = i; tip = Second } ∷ []) (ends_in middle q)) k in
            subst (AreEnds Is) (sym now) (one_here Second here only (ends_in middle (place_of Second s)) before)
          where
            only : (c : Tip) → IsAt s c view mark p → c ≡ Second
            only Second h' = refl
            only First h' = absurd (no_dot (dot_of view mark p h' (at_of_same s Second view mark p k)))
        at_place true false h k =
            let here = at_of_same s First view mark p h in
            let is : q ≡ place_of First s = sym ((decides_same (place_of First s) q).0 h) in
            let now : ends_in after q ≡ (ends_in old (place_of First s) ++ record { stroke = i; tip = First } ∷ []) =
            second q ∙ ap (λ c. cond c (ends_in middle (place_of Second s) ++ record { stroke = i; tip = Second } ∷ []) (ends_in middle q)) k
            ∙ first q ∙ ap (λ c. cond c (ends_in old (place_of First s) ++ record { stroke = i; tip = First } ∷ []) (ends_in old q)) h in
            subst (AreEnds Is) (sym now) (one_here First here only (ends_in old (place_of First s)) (ap (ends_in old) (sym is)))
          where
            only : (c : Tip) → IsAt s c view mark p → c ≡ First
            only Second h' = absurd (not_at Second k h')
            only First h' = refl
        at_place false false h k =
            let now : ends_in after q ≡ ends_in old q =
            second q ∙ ap (λ c. cond c (ends_in middle (place_of Second s) ++ record { stroke = i; tip = Second } ∷ []) (ends_in middle q)) k
            ∙ first q ∙ ap (λ c. cond c (ends_in old (place_of First s) ++ record { stroke = i; tip = First } ∷ []) (ends_in old q)) h in
            subst (AreEnds Is) (sym now) (none_here none)
          where
            none : (c : Tip) → IsAt s c view mark p → ⊥
            none Second = not_at Second k
            none First = not_at First h

      pub both_noted : AreCorners strokes (i + 1) after
      both_noted view mark p drawn = at_place view mark p drawn (same_place (place_of First s) (place_for view mark p)) (same_place (place_of Second s) (place_for view mark p)) refl refl

-- the same, by what the two calls say
pub both_noted_by : {S : Type 0} (strokes : List Stroke) (i : ℕ) (s : Stroke) → slice_get strokes i ≡ Some s → (old : IndexMap StrokePlace (Vec End Global) S) → AreCorners strokes i old → MayJoin s → (middle after : IndexMap StrokePlace (Vec End Global) S)
    (p q : StrokePlace) → p ≡ place_of First s → q ≡ place_of Second s → IsNoted old middle p (record { stroke = i; tip = First })
    → {E : Type 0} (r : Result (Unit {0}) E) → OnOk r (IsNoted middle after q (record { stroke = i; tip = Second })) → OnOk r (AreCorners strokes (i + 1) after)
both_noted_by strokes i s listed old so_far may middle after p q p_is q_is first r second =
    on_ok_weaker r
    (λ k.
    both_noted strokes i s listed old so_far may.no_dot middle after (subst (λ (x : StrokePlace). IsNoted old middle x (record { stroke = i; tip = First })) p_is first)
    (subst (λ (x : StrokePlace). IsNoted middle after x (record { stroke = i; tip = Second })) q_is k)) second

pub no_corners : {S : Type 0} (strokes : List Stroke) (corners : IndexMap StrokePlace (Vec End Global) S) → corners.entries ≡ [] → AreCorners strokes 0 corners
no_corners strokes corners empty view mark p drawn =
    subst (λ (es : List (StrokePlace × Vec End Global)). AreEnds (EndsBelow strokes 0 view mark p) (option_map_or (λ ends. ends.items) (lookup (same_place (place_for view mark p)) es) [])) (sym empty)
    (record { each = λ e l. absurd (none_listed e l); all = λ e h. absurd (omega (arith, h.below)) })

pub all_corners : {S : Type 0} (strokes : List Stroke) (i : ℕ) (corners : IndexMap StrokePlace (Vec End Global) S) → i ≡ length strokes → AreCorners strokes i corners → AreCorners strokes (length strokes) corners
all_corners strokes i corners e h = subst (λ (n : ℕ). AreCorners strokes n corners) e h

-- one more end at a place, by what a write of the place's ends says
pub noted_by : {S : Type 0} (old new : IndexMap StrokePlace (Vec End Global) S) (p : StrokePlace) (e : End) (ends : Vec End Global) → ((q : StrokePlace) → get same_place new q ≡ cond (same_place p q) (Some ends) (get same_place old q))
    → ends.items ≡ ends_in old p ++ e ∷ [] → IsNoted old new p e
noted_by old new p e ends written more q = ap (λ o. option_map_or (λ (v : Vec End Global). v.items) o []) (written q) ∙ by (same_place p q)
  where
    by : (b : Bool) → option_map_or (λ (v : Vec End Global). v.items) (cond b (Some ends) (get same_place old q)) [] ≡ cond b (ends_in old p ++ e ∷ []) (ends_in old q)
    by true = more
    by false = refl
