-- Pairs of ends: the one that turns least among those that were looked at, and of all.
use Rattle.std.proofs.Common.{◌≡◌, ◌≢◌, ◌⊎◌, inl, inr, ℕ, zero, suc, ◌+◌, ◌<◌, ◌≤◌, ◌++◌, List, [], ◌∷◌, Option, Some, None, Vec, Global, length, slice_get, refl, sym, subst, ap, ◌∙◌, arith}
use Rattle.std.proofs.lemmas.Bool.{cases_eq}
use Rattle.std.proofs.lemmas.List.{length-append}
use Rattle.std.proofs.lemmas.Option.{same_Some, slice_get_within}
use Rattle.indexmap.specs.IndexMap.{IndexMap, values}
use Rattle.sheet_plan.specs.declared.sheet.Stroke.{Stroke}
use Rattle.stroke_paths.specs.declared.corners.StrokePlace.{StrokePlace}
use Rattle.stroke_paths.specs.declared.pairs.Pair.{Pair}
use Rattle.stroke_paths.specs.declared.path.End.{End}
use Rattle.stroke_paths.specs.declared.turns.Turn.{Turn}
use Rattle.stroke_paths.specs.Joints.{TurnsLess, MayGoOn, turn_at, AreSame}
use Rattle.stroke_paths.specs.inner.Corners.{IsListed}
use Rattle.stroke_paths.specs.inner.Pairs.{IsPairOf, IsPair, TurnsLeast, IsLeastPair, IsLess, AreBefore, AreAfter, IsBest, IsLessThan, ArePairsBelow}
use Rattle.stroke_paths.proofs.Joined.{may_go_back, turn_at_back, turn_same_ends, not_both_less, same_back}

apart : (a b : ℕ) → (a ≡ b → ⊥) → (a < b) ⊎ (b < a)
apart zero zero differ = absurd (differ refl)
apart zero (suc b) differ = inl (omega arith)
apart (suc a) zero differ = inr (omega arith)
apart (suc a) (suc b) differ = by (apart a b (λ same. differ (ap suc same)))
  where
    by : (a < b) ⊎ (b < a) → (suc a < suc b) ⊎ (suc b < suc a)
    by (inl less) = inl (omega (arith, less))
    by (inr less) = inr (omega (arith, less))

-- ---- the same two ends
same_through : (e f x y g h : End) → AreSame e f x y → AreSame e f g h → AreSame x y g h
same_through e f x y g h (inl (p, q)) (inl (r, s)) = inl (r ∙ sym p, s ∙ sym q)
same_through e f x y g h (inl (p, q)) (inr (r, s)) = inr (r ∙ sym q, s ∙ sym p)
same_through e f x y g h (inr (p, q)) (inl (r, s)) = inr (r ∙ sym q, s ∙ sym p)
same_through e f x y g h (inr (p, q)) (inr (r, s)) = inl (r ∙ sym p, s ∙ sym q)

module _ (strokes : List Stroke) where
  turn_same_pair : (e f g h : End) → AreSame e f g h → (k : MayGoOn strokes e f) (l : MayGoOn strokes g h) → turn_at k ≡ turn_at l
  turn_same_pair e f g h (inl (p, q)) k l = turn_same_ends strokes e f g h p q k l
  turn_same_pair e f g h (inr (p, q)) k l = sym (turn_at_back strokes e f k) ∙ turn_same_ends strokes f e g h p q (may_go_back strokes e f k) l

  module _ (ends : List End) where
    least_back : (e f : End) → TurnsLeast strokes ends e f → TurnsLeast strokes ends f e
    least_back e f t =
        record {
          first_listed = t.second_listed;
          second_listed = t.first_listed;
          goes_on = may_go_back strokes e f t.goes_on;
          least = λ g h a b other. by g h other (t.least g h a b other);
        }
      where
        by : (g h : End) (other : MayGoOn strokes g h) → AreSame e f g h ⊎ TurnsLess (turn_at t.goes_on) (turn_at other)
            → AreSame f e g h ⊎ TurnsLess (turn_at (may_go_back strokes e f t.goes_on)) (turn_at other)
        by g h other (inl same) = inl (same_back e f g h same)
        by g h other (inr less) = inr (subst (λ (u : Turn). TurnsLess u (turn_at other)) (sym (turn_at_back strokes e f t.goes_on)) less)

    pub least_same : (e f g h : End) → AreSame e f g h → TurnsLeast strokes ends g h → TurnsLeast strokes ends e f
    least_same e f g h (inl (p, q)) t = subst (λ (x : End). TurnsLeast strokes ends x f) p (subst (λ (y : End). TurnsLeast strokes ends g y) q t)
    least_same e f g h (inr (p, q)) t = subst (λ (x : End). TurnsLeast strokes ends x f) q (subst (λ (y : End). TurnsLeast strokes ends h y) p (least_back g h t))

    pub least_one : (e f g h : End) → TurnsLeast strokes ends e f → TurnsLeast strokes ends g h → AreSame e f g h
    least_one e f g h t u = by (t.least g h u.first_listed u.second_listed u.goes_on) (u.least e f t.first_listed t.second_listed t.goes_on)
      where
        by : AreSame e f g h ⊎ TurnsLess (turn_at t.goes_on) (turn_at u.goes_on) → AreSame g h e f ⊎ TurnsLess (turn_at u.goes_on) (turn_at t.goes_on) → AreSame e f g h
        by (inl same) other = same
        by (inr less) (inl (inl (p, q))) = inl (sym p, sym q)
        by (inr less) (inl (inr (p, q))) = inr (sym q, sym p)
        by (inr less) (inr more) = absurd (not_both_less (turn_at t.goes_on) (turn_at u.goes_on) less more)

    -- ---- all pairs are looked at, in one order or the other
    orders : (e f : End) → IsListed ends e → IsListed ends f → e.stroke ≢ f.stroke → AreBefore ends (length ends) e f ⊎ AreBefore ends (length ends) f e
    orders e f (a, h) (b, k) two = by (cases_eq a b)
      where
        within_a : a < length ends
        within_a = slice_get_within ends a e h

        within_b : b < length ends
        within_b = slice_get_within ends b f k

        either : (a < b) ⊎ (b < a) → AreBefore ends (length ends) e f ⊎ AreBefore ends (length ends) f e
        either (inl less) = inl (record { a = a; b = b; before = less; below = within_a; first = h; second = k })
        either (inr less) = inr (record { a = b; b = a; before = less; below = within_b; first = k; second = h })

        by : (a ≡ b) ⊎ (a ≡ b → ⊥) → AreBefore ends (length ends) e f ⊎ AreBefore ends (length ends) f e
        by (inl same) = absurd (two (ap (λ (x : End). x.stroke) (same_Some e f (sym h ∙ ap (slice_get ends) same ∙ k))))
        by (inr differ) = either (apart a b differ)

    -- ---- the best so far
    pub best_weaker : (Seen Less : End → End → Type 0) → ((e f : End) → Less e f → Seen e f) → (best : Option Pair) → IsBest strokes ends Seen best → IsBest strokes ends Less best
    best_weaker Seen Less back best h = record { pair = h.pair; kept = λ e f seen t. h.kept e f (back e f seen) t }

    module _ (Was Is : End → End → Type 0) (e f : End) (e_listed : IsListed ends e) (f_listed : IsListed ends f) (back : (g h : End) → Is g h → Was g h ⊎ ((g ≡ e) × (h ≡ f))) where
      -- a pair that is new
      abbrev IsNew : Pair → Type 0
      IsNew y = (y.first ≡ e) × (y.second ≡ f) × (h : MayGoOn strokes e f) × (y.turn ≡ turn_at h)

      new_pair : (y : Pair) → IsNew y → IsPair strokes ends y
      new_pair y (p, q, h, r) =
          let goes : MayGoOn strokes y.first y.second = subst (λ (u : End). MayGoOn strokes u y.second) (sym p) (subst (MayGoOn strokes e) (sym q) h) in
          record {
            first_listed = subst (IsListed ends) (sym p) e_listed;
            second_listed = subst (IsListed ends) (sym q) f_listed;
            goes_on = goes;
            turn_is = r ∙ turn_same_ends strokes e f y.first y.second p q h goes;
          }

      abbrev IsTaken : Option Pair → End → End → Type 0
      IsTaken best g h = (x : Pair) × (best ≡ Some x) × AreSame g h x.first x.second

      -- the new pair is taken, if it turns least
      new_taken : (y : Pair) → IsNew y → (g h : End) → g ≡ e → h ≡ f → (result : Option Pair) → result ≡ Some y → IsTaken result g h
      new_taken y (p, q, k, r) g h a b result is = (y, is, inl (p ∙ sym a, q ∙ sym b))

      only_pair : (x y : Pair) (result : Option Pair) → IsPair strokes ends y → result ≡ Some y → result ≡ Some x → IsPair strokes ends x
      only_pair x y result h p q = subst (IsPair strokes ends) (same_Some y x (sym p ∙ q)) h

      pub one_more_pair : (best new result : Option Pair) → IsBest strokes ends Was best → IsPairOf strokes e f new → IsLess best new result → IsBest strokes ends Is result
      one_more_pair best None result h none is = record { pair = λ x q. h.pair x (sym is ∙ q); kept = λ g k seen t. by g k t (back g k seen) }
        where
          by : (g k : End) → TurnsLeast strokes ends g k → Was g k ⊎ ((g ≡ e) × (k ≡ f)) → IsTaken result g k
          by g k t (inl seen) = let (x, p, same) = h.kept g k seen t in (x, is ∙ p, same)
          by g k t (inr (a, b)) = absurd (none (subst (λ (u : End). MayGoOn strokes u f) a (subst (MayGoOn strokes g) b t.goes_on)))
      one_more_pair None (Some y) result h new is = record { pair = λ x q. only_pair x y result (new_pair y new) is q; kept = λ g k seen t. by g k t (back g k seen) }
        where
          by : (g k : End) → TurnsLeast strokes ends g k → Was g k ⊎ ((g ≡ e) × (k ≡ f)) → IsTaken result g k
          by g k t (inl seen) = absurd (let (x, p, same) = h.kept g k seen t in cc)
          by g k t (inr (a, b)) = new_taken y new g k a b result is
      one_more_pair (Some x) (Some y) result h new (inl (less, is)) = record { pair = λ z q. only_pair z y result (new_pair y new) is q; kept = λ g k seen t. by g k t (back g k seen) }
        where
          new_is : IsPair strokes ends y
          new_is = new_pair y new

          old_is : IsPair strokes ends x
          old_is = h.pair x refl

          -- the least pair was taken, and turns more than the new one: so both are one
          better : (g k : End) → (t : TurnsLeast strokes ends g k) → AreSame g k x.first x.second
              → AreSame g k y.first y.second ⊎ TurnsLess (turn_at t.goes_on) (turn_at new_is.goes_on) → AreSame g k y.first y.second
          better g k t same (inl also) = also
          better g k t same (inr more) =
              absurd
              (not_both_less y.turn x.turn less
              (subst (λ (u : Turn). TurnsLess u y.turn) (turn_same_pair g k x.first x.second same t.goes_on old_is.goes_on ∙ sym old_is.turn_is)
              (subst (TurnsLess (turn_at t.goes_on)) (sym new_is.turn_is) more)))

          by : (g k : End) → TurnsLeast strokes ends g k → Was g k ⊎ ((g ≡ e) × (k ≡ f)) → IsTaken result g k
          by g k t (inl seen) =
              let (z, p, same) = h.kept g k seen t in
              let same_x : AreSame g k x.first x.second = subst (λ (w : Pair). AreSame g k w.first w.second) (sym (same_Some x z p)) same in
              (y, is, better g k t same_x (t.least y.first y.second new_is.first_listed new_is.second_listed new_is.goes_on))
          by g k t (inr (a, b)) = new_taken y new g k a b result is
      one_more_pair (Some x) (Some y) result h new (inr (not_less, is)) = record { pair = λ z q. only_pair z x result old_is is q; kept = λ g k seen t. by g k t (back g k seen) }
        where
          old_is : IsPair strokes ends x
          old_is = h.pair x refl

          new_is : IsPair strokes ends y
          new_is = new_pair y new

          -- the new pair doesn't turn less than the old one: so it is the least only if both are one
          as_good : (g k : End) → (t : TurnsLeast strokes ends g k) → AreSame g k y.first y.second
              → AreSame g k x.first x.second ⊎ TurnsLess (turn_at t.goes_on) (turn_at old_is.goes_on) → AreSame g k x.first x.second
          as_good g k t same (inl also) = also
          as_good g k t same (inr less) =
              absurd
              (not_less
              (subst (λ (u : Turn). TurnsLess u x.turn) (turn_same_pair g k y.first y.second same t.goes_on new_is.goes_on ∙ sym new_is.turn_is)
              (subst (TurnsLess (turn_at t.goes_on)) (sym old_is.turn_is) less)))

          by : (g k : End) → TurnsLeast strokes ends g k → Was g k ⊎ ((g ≡ e) × (k ≡ f)) → IsTaken result g k
          by g k t (inl seen) = let (z, p, same) = h.kept g k seen t in (z, is ∙ p, same)
          by g k t (inr (a, b)) = (x, is, as_good g k t (inl (new.0 ∙ sym a, new.1 ∙ sym b)) (t.least x.first x.second old_is.first_listed old_is.second_listed old_is.goes_on))

    -- ---- the pair that turns least
    pub taken : (best : Option Pair) → IsBest strokes ends (AreBefore ends (length ends)) best → (e f : End) → TurnsLeast strokes ends e f → (x : Pair) × (best ≡ Some x) × AreSame e f x.first x.second
    taken best h e f t = by (orders e f t.first_listed t.second_listed t.goes_on.two)
      where
        by : AreBefore ends (length ends) e f ⊎ AreBefore ends (length ends) f e → (x : Pair) × (best ≡ Some x) × AreSame e f x.first x.second
        by (inl seen) = h.kept e f seen t
        by (inr seen) = let (x, p, same) = h.kept f e seen (least_back e f t) in (x, p, same_back f e x.first x.second same)

    pub least_alone : (x : Pair) → IsPair strokes ends x → ((g h : End) → AreBefore ends (length ends) g h → IsLessThan strokes x g h) → TurnsLeast strokes ends x.first x.second
    least_alone x is less =
        record { first_listed = is.first_listed; second_listed = is.second_listed; goes_on = is.goes_on; least = λ g h a b other. by g h other (orders g h a b other.two) }
      where
        of_turn : (g h : End) (u v : Turn) → u ≡ v → AreSame x.first x.second g h ⊎ TurnsLess x.turn u → AreSame x.first x.second g h ⊎ TurnsLess (turn_at is.goes_on) v
        of_turn g h u v e (inl same) = inl same
        of_turn g h u v e (inr more) = inr (subst (λ (w : Turn). TurnsLess w v) is.turn_is (subst (TurnsLess x.turn) e more))

        swapped : (g h : End) (u : Turn) → AreSame x.first x.second h g ⊎ TurnsLess x.turn u → AreSame x.first x.second g h ⊎ TurnsLess x.turn u
        swapped g h u (inl (inl (p, q))) = inl (inr (q, p))
        swapped g h u (inl (inr (p, q))) = inl (inl (q, p))
        swapped g h u (inr more) = inr more

        by : (g h : End) (other : MayGoOn strokes g h) → AreBefore ends (length ends) g h ⊎ AreBefore ends (length ends) h g → AreSame x.first x.second g h ⊎ TurnsLess (turn_at is.goes_on) (turn_at other)
        by g h other (inl seen) = of_turn g h (turn_at other) (turn_at other) refl (less g h seen other)
        by g h other (inr seen) =
            of_turn g h (turn_at (may_go_back strokes g h other)) (turn_at other) (turn_at_back strokes g h other)
            (swapped g h (turn_at (may_go_back strokes g h other)) (less h g seen (may_go_back strokes g h other)))

    pub alone_least : (x : Pair) → IsPair strokes ends x → (e f : End) → TurnsLeast strokes ends e f → AreSame e f x.first x.second → (g h : End) → AreBefore ends (length ends) g h → IsLessThan strokes x g h
    alone_least x is e f t same g h seen other = by (t.least g h (seen.a, seen.first) (seen.b, seen.second) other)
      where
        by : AreSame e f g h ⊎ TurnsLess (turn_at t.goes_on) (turn_at other) → AreSame x.first x.second g h ⊎ TurnsLess x.turn (turn_at other)
        by (inl also) = inl (same_through e f x.first x.second g h same also)
        by (inr less) = inr (subst (λ (u : Turn). TurnsLess u (turn_at other)) (turn_same_pair e f x.first x.second same t.goes_on is.goes_on ∙ sym is.turn_is) less)

    pub no_least : IsBest strokes ends (AreBefore ends (length ends)) None → (e f : End) → TurnsLeast strokes ends e f → ⊥
    no_least h e f t = let (x, p, same) = taken None h e f t in cc

    pub all_less : (x : Pair) → IsBest strokes ends (AreBefore ends (length ends)) (Some x) → (e f : End) → TurnsLeast strokes ends e f → (g h : End) → AreBefore ends (length ends) g h → IsLessThan strokes x g h
    all_less x best e f t =
        let (z, p, same) = taken (Some x) best e f t in
        alone_least x (best.pair x refl) e f t (subst (λ (w : Pair). AreSame e f w.first w.second) (sym (same_Some x z p)) same)

    -- ---- one more pair, and one more end, is looked at
    after_parts : (i j : ℕ) (e f : End) → slice_get ends i ≡ Some e → slice_get ends j ≡ Some f → (g h : End) → AreAfter ends i (j + 1) g h → AreAfter ends i j g h ⊎ ((g ≡ e) × (h ≡ f))
    after_parts i j e f at there g h seen = by (cases_eq seen.b j)
      where
        by : (seen.b ≡ j) ⊎ (seen.b ≡ j → ⊥) → AreAfter ends i j g h ⊎ ((g ≡ e) × (h ≡ f))
        by (inl same) = inr (same_Some g e (sym seen.first ∙ at), same_Some h f (sym seen.second ∙ ap (slice_get ends) same ∙ there))
        by (inr differ) = inl (record { b = seen.b; after = seen.after; below = omega (arith, seen.below, differ); first = seen.first; second = seen.second })

    before_parts : (i : ℕ) (g h : End) → AreBefore ends (i + 1) g h → AreBefore ends i g h ⊎ AreAfter ends i (length ends) g h
    before_parts i g h seen = by (cases_eq seen.a i)
      where
        by : (seen.a ≡ i) ⊎ (seen.a ≡ i → ⊥) → AreBefore ends i g h ⊎ AreAfter ends i (length ends) g h
        by (inl same) =
            inr
            (record {
              b = seen.b;
              after = omega (arith, seen.before, same);
              below = slice_get_within ends seen.b h seen.second;
              first = ap (slice_get ends) (sym same) ∙ seen.first;
              second = seen.second;
            })
        by (inr differ) = inl (record { a = seen.a; b = seen.b; before = seen.before; below = omega (arith, seen.below, differ); first = seen.first; second = seen.second })

    abbrev pub Seen : ℕ → ℕ → End → End → Type 0
    Seen i j g h = AreBefore ends i g h ⊎ AreAfter ends i j g h

    pub one_more_seen : (i j : ℕ) (e f : End) → slice_get ends i ≡ Some e → slice_get ends j ≡ Some f → (best new result : Option Pair) → IsBest strokes ends (Seen i j) best → IsPairOf strokes e f new
        → IsLess best new result → IsBest strokes ends (Seen i (j + 1)) result
    one_more_seen i j e f at there = one_more_pair (Seen i j) (Seen i (j + 1)) e f (i, at) (j, there) by
      where
        either : {A B C : Type 0} → B ⊎ C → (A ⊎ B) ⊎ C
        either (inl b) = inl (inr b)
        either (inr c) = inr c

        by : (g h : End) → Seen i (j + 1) g h → Seen i j g h ⊎ ((g ≡ e) × (h ≡ f))
        by g h (inl seen) = inl (inl seen)
        by g h (inr seen) = either (after_parts i j e f at there g h seen)

    pub all_seen : (i j : ℕ) (best : Option Pair) → length ends ≤ j → IsBest strokes ends (Seen i j) best → IsBest strokes ends (AreBefore ends (i + 1)) best
    all_seen i j best long = best_weaker (Seen i j) (AreBefore ends (i + 1)) (λ g h seen. by g h (before_parts i g h seen)) best
      where
        by : (g h : End) → AreBefore ends i g h ⊎ AreAfter ends i (length ends) g h → Seen i j g h
        by g h (inl seen) = inl seen
        by g h (inr seen) = inr (record { b = seen.b; after = seen.after; below = omega (arith, long, seen.below); first = seen.first; second = seen.second })

    -- ---- pairs that turn more, one by one
    module _ (x : Pair) where
      pub more_after : (i j : ℕ) (e f : End) → slice_get ends i ≡ Some e → slice_get ends j ≡ Some f → ((g h : End) → AreAfter ends i j g h → IsLessThan strokes x g h) → IsLessThan strokes x e f
          → (g h : End) → AreAfter ends i (j + 1) g h → IsLessThan strokes x g h
      more_after i j e f at there so_far less g h seen = by (after_parts i j e f at there g h seen)
        where
          by : AreAfter ends i j g h ⊎ ((g ≡ e) × (h ≡ f)) → IsLessThan strokes x g h
          by (inl before) = so_far g h before
          by (inr (p, q)) = subst (λ (u : End). IsLessThan strokes x u h) (sym p) (subst (IsLessThan strokes x e) (sym q) less)

      pub not_after : (i j : ℕ) (e f : End) → slice_get ends i ≡ Some e → slice_get ends j ≡ Some f → i < j → (IsLessThan strokes x e f → ⊥)
          → ((g h : End) → AreAfter ends i (length ends) g h → IsLessThan strokes x g h) → ⊥
      not_after i j e f at there after not_less all = not_less (all e f (record { b = j; after = after; below = slice_get_within ends j f there; first = at; second = there }))

      pub more_before : (i : ℕ) → ((g h : End) → AreBefore ends i g h → IsLessThan strokes x g h) → ((g h : End) → AreAfter ends i (length ends) g h → IsLessThan strokes x g h)
          → (g h : End) → AreBefore ends (i + 1) g h → IsLessThan strokes x g h
      more_before i so_far after g h seen = by (before_parts i g h seen)
        where
          by : AreBefore ends i g h ⊎ AreAfter ends i (length ends) g h → IsLessThan strokes x g h
          by (inl before) = so_far g h before
          by (inr here) = after g h here

-- ---- the pairs of the corners so far
push_parts : {X : Type 0} (xs : List X) (x : X) (k : ℕ) (y : X) → slice_get (xs ++ x ∷ []) k ≡ Some y → (slice_get xs k ≡ Some y) ⊎ ((k ≡ length xs) × (x ≡ y))
push_parts [] x zero y h = inr (refl, same_Some x y h)
push_parts [] x (suc k) y h = absurd cc
push_parts (z ∷ xs) x zero y h = inl h
push_parts {X} (z ∷ xs) x (suc k) y h = by (push_parts xs x k y h)
  where
    by : (slice_get xs k ≡ Some y) ⊎ ((k ≡ length xs) × (x ≡ y)) → (slice_get (z ∷ xs) (suc k) ≡ Some y) ⊎ ((suc k ≡ length (z ∷ xs)) × (x ≡ y))
    by (inl there) = inl there
    by (inr (p, q)) = inr (ap suc p, q)

module _ {S : Type 0} (strokes : List Stroke) (corners : IndexMap StrokePlace (Vec End Global) S) where
  pub one_more_corner : (n : ℕ) (pairs more : List (Option Pair)) (ends : Vec End Global) (items : List End) (found : Option Pair) → ArePairsBelow strokes corners n pairs → slice_get (values corners) n ≡ Some ends → items ≡ ends.items
      → IsLeastPair strokes items found → more ≡ pairs ++ found ∷ [] → ArePairsBelow strokes corners (n + 1) more
  one_more_corner n pairs more ends items found so_far at same least pushed =
      subst (ArePairsBelow strokes corners (n + 1)) (sym pushed)
      (record { as_many = omega (arith, so_far.as_many, length-append pairs (found ∷ [])); each = λ k v o v_at there. by k v o v_at (push_parts pairs found k o there) })
    where
      by : (k : ℕ) (v : Vec End Global) (o : Option Pair) → slice_get (values corners) k ≡ Some v → (slice_get pairs k ≡ Some o) ⊎ ((k ≡ length pairs) × (found ≡ o)) → IsLeastPair strokes v.items o
      by k v o v_at (inl there) = so_far.each k v o v_at there
      by k v o v_at (inr (last, is)) =
          let ends_is : ends ≡ v = same_Some ends v (sym at ∙ ap (slice_get (values corners)) (sym so_far.as_many ∙ sym last) ∙ v_at) in
          subst (λ (w : Vec End Global). IsLeastPair strokes w.items o) ends_is (subst (λ (xs : List End). IsLeastPair strokes xs o) same (subst (IsLeastPair strokes items) is least))
