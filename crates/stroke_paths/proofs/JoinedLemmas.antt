-- What the ends at a place say of which are joined.
use Rattle.std.proofs.Common.{◌≡◌, inl, inr, ℕ, true, false, is_some, List, [], Option, None, Some, length, slice_get, Vec, Global, refl, sym, ap, subst, ◌∙◌}
use Rattle.std.specs.Option.{option_map_or}
use Rattle.std.proofs.lemmas.Option.{same_Some, slice_get_within}
use Rattle.indexmap.specs.IndexMap.{IndexMap, get, values}
use Rattle.sheet_plan.specs.declared.sheet.Mark.{Mark}
use Rattle.sheet_plan.specs.declared.sheet.Stroke.{Stroke}
use Rattle.stroke_paths.specs.declared.corners.StrokePlace.{StrokePlace}
use Rattle.stroke_paths.specs.declared.pairs.Pair.{Pair}
use Rattle.stroke_paths.specs.declared.path.End.{End}
use Rattle.stroke_paths.specs.declared.path.Point.{Point}
use Rattle.stroke_paths.specs.Joints.{point_of, IsDot, EndsAt, AreSame, AreJoined}
use Rattle.stroke_paths.specs.Routes.{IsLoose}
use Rattle.stroke_paths.specs.inner.Corners.{place_of, same_place, IsListed, AreEnds, EndsBelow, ends_in, AreCorners}
use Rattle.stroke_paths.specs.inner.Pairs.{TurnsLeast, IsOther, ArePairs}
use Rattle.stroke_paths.specs.inner.Tables.{MayJoin, IsJoint}
use Rattle.stroke_paths.proofs.CornerLemmas.{none_listed}
use Rattle.stroke_paths.proofs.PairLemmas.{least_same, least_one}

-- ---- options
some_of : {X : Type 0} (o : Option X) → true ≡ is_some o → (x : X) × (o ≡ Some x)
some_of None h = absurd cc
some_of (Some x) h = (x, refl)

none_of : {X : Type 0} (o : Option X) → false ≡ is_some o → o ≡ None
none_of None h = refl
none_of (Some x) h = absurd cc

-- ---- one stroke at a place
same_stroke : (strokes : List Stroke) (i : ℕ) (s t : Stroke) → slice_get strokes i ≡ Some s → slice_get strokes i ≡ Some t → s ≡ t
same_stroke strokes i s t h k = same_Some s t (sym h ∙ k)

-- an end at the point of another is at the point that the other's stroke says
moved : (strokes : List Stroke) (view : ℕ) (mark : Mark) (p : Point) (e f : End) (s : Stroke) → EndsAt strokes view mark p e → slice_get strokes e.stroke ≡ Some s → EndsAt strokes view mark p f
    → EndsAt strokes s.view s.mark (point_of e.tip s) f
moved strokes view mark p e f s h listed k =
    let same : h.stroke ≡ s = same_stroke strokes e.stroke h.stroke s h.listed listed in
    record {
      stroke = k.stroke;
      listed = k.listed;
      no_dot = k.no_dot;
      view_is = k.view_is ∙ sym h.view_is ∙ ap (λ (t : Stroke). t.view) same;
      mark_is = k.mark_is ∙ sym h.mark_is ∙ ap (λ (t : Stroke). t.mark) same;
      at = k.at ∙ sym h.at ∙ ap (point_of e.tip) same;
    }

-- ---- what is told of an end of a stroke
module _ (strokes : List Stroke) (e : End) (s : Stroke) (listed : slice_get strokes e.stroke ≡ Some s) where
  abbrev pub Counts : End → Type 0
  Counts = EndsBelow strokes (length strokes) s.view s.mark (point_of e.tip s)

  counts_self : (IsDot s → ⊥) → Counts e
  counts_self no_dot =
      record {
        below = slice_get_within strokes e.stroke s listed;
        ends = record { stroke = s; listed = listed; no_dot = no_dot; view_is = refl; mark_is = refl; at = refl };
      }

  counts_other : (f : End) → AreJoined strokes e f → Counts f
  counts_other f h =
      record {
        below = slice_get_within strokes f.stroke h.second.stroke h.second.listed;
        ends = moved strokes h.view h.mark h.point e f s h.first listed h.second;
      }

  first_is : (f : End) → (h : AreJoined strokes e f) → h.first.stroke ≡ s
  first_is f h = same_stroke strokes e.stroke h.first.stroke s h.first.listed listed

  no_dot_of : (f : End) → AreJoined strokes e f → IsDot s → ⊥
  no_dot_of f h = subst (λ (t : Stroke). IsDot t → ⊥) (first_is f h) h.first.no_dot

  -- a stroke that may not be joined has loose ends
  pub loose_alone : (MayJoin s → ⊥) → IsLoose strokes e
  loose_alone alone f h = alone (record { no_dot = no_dot_of f h; no_hatch = λ q. h.no_hatch (sym h.first.mark_is ∙ ap (λ (t : Stroke). t.mark) (first_is f h) ∙ q) })

  module _ (ends : List End) (told : AreEnds Counts ends) where
    -- what is joined to this end turns least, of the ends at its place
    joined_least : (f : End) → AreJoined strokes e f → TurnsLeast strokes ends e f
    joined_least f h =
        record {
          first_listed = told.all e (counts_self (no_dot_of f h));
          second_listed = told.all f (counts_other f h);
          goes_on = h.goes_on;
          least = λ g k g_listed k_listed other. h.least g k (there g g_listed) (there k k_listed) other;
        }
      where
        there : (g : End) → IsListed ends g → EndsAt strokes h.view h.mark h.point g
        there g listed_too =
            let k = (told.each g listed_too).ends in
            record {
              stroke = k.stroke;
              listed = k.listed;
              no_dot = k.no_dot;
              view_is = k.view_is ∙ ap (λ (t : Stroke). t.view) (sym (first_is f h)) ∙ h.first.view_is;
              mark_is = k.mark_is ∙ ap (λ (t : Stroke). t.mark) (sym (first_is f h)) ∙ h.first.mark_is;
              at = k.at ∙ ap (point_of e.tip) (sym (first_is f h)) ∙ h.first.at;
            }

    -- and what turns least is joined
    least_joined : MayJoin s → (f : End) → TurnsLeast strokes ends e f → AreJoined strokes e f
    least_joined may f t =
        record {
          view = s.view;
          mark = s.mark;
          point = point_of e.tip s;
          first = (counts_self may.no_dot).ends;
          second = (told.each f t.second_listed).ends;
          no_hatch = may.no_hatch;
          goes_on = t.goes_on;
          least = λ g h at there other. t.least g h (listed_at g at) (listed_at h there) other;
        }
      where
        listed_at : (g : End) → EndsAt strokes s.view s.mark (point_of e.tip s) g → IsListed ends g
        listed_at g at = told.all g (record { below = slice_get_within strokes g.stroke at.stroke at.listed; ends = at })

    -- with no pair at its place an end is loose
    pub loose_without : ((g h : End) → TurnsLeast strokes ends g h → ⊥) → IsLoose strokes e
    loose_without none f h = none e f (joined_least f h)

    -- with a pair it is joined to the other end of this, or is loose
    pub joint_by : MayJoin s → (x : Pair) → TurnsLeast strokes ends x.first x.second → (found : Option End) → IsOther x e found → IsJoint strokes e found
    joint_by may x least (Some f) same = least_joined may f (least_same strokes ends e f x.first x.second same least)
    joint_by may x least None differs = λ f h. by f (least_one strokes ends e f x.first x.second (joined_least f h) least)
      where
        by : (f : End) → AreSame e f x.first x.second → ⊥
        by f (inl (p, q)) = differs.0 (sym p)
        by f (inr (p, q)) = differs.1 (sym q)

-- ---- the same, by what the calls say
module _ {S : Type 0} (strokes : List Stroke) (corners : IndexMap StrokePlace (Vec End Global) S) (all : AreCorners strokes (length strokes) corners) (pairs : List (Option Pair)) (table : ArePairs strokes corners pairs)
    (e : End) (s : Stroke) (listed : slice_get strokes e.stroke ≡ Some s) (may : MayJoin s) (q : StrokePlace) (is : q ≡ place_of e.tip s) where
  told_here : AreEnds (Counts strokes e s listed) (ends_in corners q)
  told_here = subst (λ (x : StrokePlace). AreEnds (Counts strokes e s listed) (ends_in corners x)) (sym is) (all s.view s.mark (point_of e.tip s) may.no_hatch)

  -- no stroke ends at the place
  pub loose_nowhere : false ≡ is_some (get same_place corners q) → IsLoose strokes e
  loose_nowhere none =
      loose_without strokes e s listed (ends_in corners q) told_here
      (λ g h t. none_listed g (subst (λ (xs : List End). IsListed xs g) (ap (λ (o : Option (Vec End Global)). option_map_or (λ ends. ends.items) o []) (none_of (get same_place corners q) none)) t.first_listed))

  -- the place has a corner: its pair is the one that turns least
  module _ (n : ℕ) (value : slice_get (values corners) n ≡ get same_place corners q) (found : true ≡ is_some (get same_place corners q)) where
    there : (ends : Vec End Global) × (get same_place corners q ≡ Some ends)
    there = some_of (get same_place corners q) found

    told_ends : AreEnds (Counts strokes e s listed) there.0.items
    told_ends = subst (AreEnds (Counts strokes e s listed)) (ap (λ (o : Option (Vec End Global)). option_map_or (λ ends. ends.items) o []) there.1) told_here

    pub loose_here : slice_get pairs n ≡ Some None → IsLoose strokes e
    loose_here none = loose_without strokes e s listed there.0.items told_ends (table.each n there.0 None (value ∙ there.1) none)

    pub joint_here : (x : Pair) → slice_get pairs n ≡ Some (Some x) → (found : Option End) → IsOther x e found → IsJoint strokes e found
    joint_here x is_pair = joint_by strokes e s listed there.0.items told_ends may x (table.each n there.0 (Some x) (value ∙ there.1) is_pair)
