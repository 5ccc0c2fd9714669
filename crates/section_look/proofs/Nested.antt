-- Outer loops, by the loops before and after them, and their regions.
use Rattle.std.proofs.Common.{◌≡◌, ◌↔◌, inl, inr, ℕ, suc, ◌+◌, ◌<◌, Bool, List, [], ◌∷◌, ◌++◌, length, take, drop, get_or, Option, Some, None, slice_get, sym, ap, subst, ◌∙◌, arith, append_assoc, Vec, Global}
use Rattle.std.specs.Prelude.{IsTrue, MatchBool}
use Rattle.std.specs.List.{All}
use Rattle.std.proofs.lemmas.List.Elements.{All-append}
use Rattle.lattice.specs.Triple.{Triple}
use Rattle.cut_plane.specs.declared.segments.Segment.{Segment}
use Rattle.section_look.specs.Regions.{ArePicked, IsIn, IsInner, IsOuter, IsRegion, AreRegionsUntil, outer, inner, picked, passed, lists_of}
use Rattle.section_look.specs.declared.regions.Region.{Region}
use Rattle.section_look.specs.inner.Parts.{AreAddedIfIn, IsAddedIfIn, IsRegionAdded}
use Rattle.section_look.proofs.Lists.{all_left, all_right, lists_take, lists_drop, lists_get, picked_append}
use Rattle.section_look.proofs.Marks.{match_of}

-- what a Some holds
abbrev held : {A : Type 0} → A → Option A → A
held d None = d
held d (Some x) = x

one_of_some : {A : Type 0} (x y : A) → Some x ≡ Some y → x ≡ y
one_of_some x y e = ap (held x) e

module _ (d : Triple) (vs : List (Vec Segment Global)) (k : ℕ) (v : Vec Segment Global) (less : k < length vs) (is : v ≡ get_or vs k v) (this : List Segment) (value : this ≡ v.items) where
  abbrev Apart : List Segment → Type 0
  Apart other = ¬ IsIn d this other

  at : slice_get (lists_of vs) k ≡ Some this
  at = lists_get vs k v less is ∙ ap (λ (x : List Segment). Some x) (sym value)

  after : lists_of (drop (k + 1) vs) ≡ drop (suc k) (lists_of vs)
  after = lists_drop vs (k + 1) ∙ ap (λ (n : ℕ). drop n (lists_of vs)) (let e : k + 1 ≡ suc k = omega arith in e)

  -- it is in one of those before it
  pub inner_before : ¬ All Apart (lists_of (take k vs)) → (y : List Segment) × IsInner d (lists_of vs) k y
  inner_before some = (
    this,
    record { at = at; in_one = λ all. some (subst (All Apart) (sym (lists_take vs k)) (all_left Apart (take k (lists_of vs)) (drop (suc k) (lists_of vs)) all)) },
  )

  -- it is in none before it, so those after it decide
  pub after_decide : All Apart (lists_of (take k vs)) → (b : Bool) → IsTrue b ↔ All Apart (lists_of (drop (k + 1) vs)) → MatchBool b ((y : List Segment) × IsOuter d (lists_of vs) k y) ((y : List Segment) × IsInner d (lists_of vs) k y)
  after_decide front b told =
      match_of b (All Apart (lists_of (drop (k + 1) vs))) _ _ told
      (λ all. (this, record { at = at; in_none = All-append Apart (take k (lists_of vs)) (drop (suc k) (lists_of vs)) (subst (All Apart) (lists_take vs k) front) (subst (All Apart) after all) }))
      (λ some. (this, record { at = at; in_one = λ all. some (subst (All Apart) (sym after) (all_right Apart (take k (lists_of vs)) (drop (suc k) (lists_of vs)) all)) }))

  -- its region
  pub region_made : (first : List (List Segment)) → first ≡ this ∷ [] → (second third : List (List Segment)) → AreAddedIfIn d this (lists_of (take k vs)) first second → AreAddedIfIn d this (lists_of (drop (k + 1) vs)) second third
      → (loop : List Segment) → IsOuter d (lists_of vs) k loop → (region : Region) → lists_of region.loops.items ≡ third → IsRegion d (lists_of vs) k region
  region_made first begin second third front back loop is_outer region has = record {
    outer = this;
    is = subst (IsOuter d (lists_of vs) k) (one_of_some loop this (sym is_outer.at ∙ at)) is_outer;
    inside = front.added ++ back.added;
    picked = picked_append (λ other. IsIn d other this) (take k (lists_of vs)) front.added (drop (suc k) (lists_of vs)) back.added
        (subst (λ (xs : List (List Segment)). ArePicked (λ other. IsIn d other this) xs front.added) (lists_take vs k) front.right)
        (subst (λ (xs : List (List Segment)). ArePicked (λ other. IsIn d other this) xs back.added) after back.right);
    has = has ∙ back.grown ∙ (λ i. (front.grown ∙ (λ j. begin j ++ front.added)) i ++ back.added);
  }

-- one loop more
pub regions_more : (d : Triple) (loops : List (List Segment)) (k : ℕ) (old new : List Region) → AreRegionsUntil d loops k old → IsRegionAdded d loops k old new → AreRegionsUntil d loops (k + 1) new
regions_more d loops k old new h added = subst (λ (n : ℕ). AreRegionsUntil d loops n new) (let e : suc k ≡ k + 1 = omega arith in e) (by added)
  where
    by : IsRegionAdded d loops k old new → AreRegionsUntil d loops (suc k) new
    by (inl (region, is, e)) = subst (AreRegionsUntil d loops (suc k)) (sym e) (outer k old region h is)
    by (inr (loop, is, e)) = subst (AreRegionsUntil d loops (suc k)) (sym e) (inner k old loop h is)

-- one of the others more
pub inside_more : (d : Triple) (loop : List Segment) (others old new newer : List (List Segment)) (other : List Segment) → AreAddedIfIn d loop others old new → IsAddedIfIn d loop other new newer → AreAddedIfIn d loop (others ++ other ∷ []) old newer
inside_more d loop others old new newer other h (inl (there, e)) =
    record { added = h.added ++ other ∷ []; grown = e ∙ ap (λ (xs : List (List Segment)). xs ++ other ∷ []) h.grown ∙ append_assoc old h.added (other ∷ []); right = picked others h.added other h.right there }
inside_more d loop others old new newer other h (inr (not_there, e)) = record { added = h.added; grown = e ∙ h.grown; right = passed others h.added other h.right not_there }
