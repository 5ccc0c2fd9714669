-- Two ends are joined exactly where a route continues from the one to the other.
use Rattle.std.proofs.Common.{◌≡◌, ◌⊎◌, ◌↔◌, inl, inr, Bool, true, false, List, [], ◌∷◌, ◌++◌, refl, sym, subst, ap, ◌∙◌}
use Rattle.std.specs.List.{Any}
use Rattle.sheet_plan.specs.declared.sheet.Stroke.{Stroke}
use Rattle.stroke_paths.specs.Joints.{other_tip, AreJoined}
use Rattle.stroke_paths.specs.Neighbours.{StepStandsBefore, IsNext, Continues}
use Rattle.stroke_paths.specs.Routes.{first_end, last_end, Follows, Route, steps_of, last_of, EachFollows, EndsAsItMust, IsRoute, AreRoutes}
use Rattle.stroke_paths.specs.declared.path.End.{End}
use Rattle.stroke_paths.specs.declared.path.Step.{Step}
use Rattle.stroke_paths.specs.declared.path.Tip.{Tip}
use Rattle.stroke_paths.specs.declared.path.Tip.TheVariants.{First, Second}
use Rattle.stroke_paths.proofs.Joined.{joined_back, joined_kept}
use Rattle.stroke_paths.proofs.Members.{Among, all_among, any_among, in_joined}
use Rattle.stroke_paths.proofs.RouteSteps.{one_after, before_too}
use Rattle.stroke_paths.proofs.Tips.{turned_from, from_end, to_end, from_that_end, to_that_end}

module _ (strokes : List Stroke) where
  -- ---- what follows a step comes next
  further : (x : Step) (steps : List Step) (s t : Step) → StepStandsBefore steps s t → StepStandsBefore (x ∷ steps) s t
  further x steps s t (before, after, same) = (x ∷ before, after, ap (λ (xs : List Step). x ∷ xs) same)

  stands_before : (x : Step) (rest : List Step) (s t : Step) → EachFollows strokes x rest → Among (x ∷ rest) s → Follows strokes s t → StepStandsBefore (x ∷ rest) s t ⊎ (last_of x rest ≡ s)
  stands_before x [] s t each (inl e) h = inr e
  stands_before x [] s t each (inr m) h = absurd m
  stands_before x (y ∷ rest) s t each (inl e) h =
      let next = one_after strokes x y t each.0 (subst (λ u. Follows strokes u t) (sym e) h) in
      inl ([], rest, λ i. e i ∷ next i ∷ rest)
  stands_before x (y ∷ rest) s t each (inr m) h =
      elim (stands_before y rest s t each.1 m h) [
        | inl stands ↦ inl (further x (y ∷ rest) s t stands)
        | inr e ↦ inr e
      ]

  comes_round : (closed : Bool) (first last t : Step) → EndsAsItMust strokes closed first last → Follows strokes last t → (closed ≡ true) × (first ≡ t)
  comes_round true first last t ends h = (refl, one_after strokes last first t ends h)
  comes_round false first last t ends h = absurd (ends.1 (first_end t) h)

  comes_next : (r : Route) → IsRoute strokes r → (s t : Step) → Among (steps_of r) s → Follows strokes s t → IsNext r s t
  comes_next r is s t m h =
      elim (stands_before r.first r.rest s t is.follow m h) [
        | inl stands ↦ inl stands
        | inr e ↦ let (closed, first) = comes_round r.closed r.first (last_of r.first r.rest) t is.ends (subst (λ u. Follows strokes u t) (sym e) h) in inr (closed, e, first)
      ]

  -- ---- what comes next follows
  AllFollow : List Step → Type 0
  AllFollow [] = Unit {0}
  AllFollow (s ∷ rest) = EachFollows strokes s rest

  after_first : (s : Step) (rest : List Step) → EachFollows strokes s rest → AllFollow rest
  unfolding AllFollow
  after_first s [] each = tt
  after_first s (t ∷ rest) each = each.1

  follow_at : (before after : List Step) (s t : Step) → AllFollow (before ++ s ∷ t ∷ after) → Follows strokes s t
  unfolding AllFollow
  follow_at [] after s t each = each.0
  follow_at (x ∷ before) after s t each = follow_at before after s t (after_first x (before ++ s ∷ t ∷ after) each)

  next_follows : (r : Route) → IsRoute strokes r → (s t : Step) → IsNext r s t → Follows strokes s t
  unfolding AllFollow
  next_follows r is s t (inl (before, after, same)) = follow_at before after s t (subst AllFollow same is.follow)
  next_follows r is s t (inr (closed, last, first)) =
      let ends = subst (λ b. EndsAsItMust strokes b r.first (last_of r.first r.rest)) closed is.ends in
      subst (λ u. Follows strokes u t) last (subst (Follows strokes (last_of r.first r.rest)) first ends)

  continues_joined : (r : Route) → IsRoute strokes r → (e f : End) → Continues r e f → AreJoined strokes e f
  continues_joined r is e f (s, t, next, to, from) =
      subst (λ g. AreJoined strokes g f) to (subst (AreJoined strokes (last_end s)) from (next_follows r is s t next))

  -- ---- both
  follows : (e f : End) → AreJoined strokes e f → Follows strokes (to_end e) (from_end f)
  follows e f j = subst (λ g. AreJoined strokes g (first_end (from_end f))) (sym (to_that_end e)) (subst (AreJoined strokes e) (sym (from_that_end f)) j)

  module _ (e f : End) (j : AreJoined strokes e f) where
    continues : (r : Route) → IsRoute strokes r → (s : Step) → Among (steps_of r) s → s.stroke ≡ e.stroke → Continues r e f ⊎ Continues r f e
    continues r is s m same = by s.turned e.tip refl refl
      where
        on : s.turned ≡ turned_from (other_tip e.tip) → Continues r e f ⊎ Continues r f e
        on way =
            let there = subst (Among (steps_of r)) (λ i. record { stroke = same i; turned = way i }) m in
            inl (to_end e, from_end f, comes_next r is (to_end e) (from_end f) there (follows e f j), to_that_end e, from_that_end f)

        back : s.turned ≡ turned_from e.tip → Continues r e f ⊎ Continues r f e
        back way =
            let there = subst (Among (steps_of r)) (λ i. record { stroke = same i; turned = way i }) m in
            let h = follows f e (joined_back strokes e f j) in
            let before = before_too strokes r is (to_end f) (from_end e) h there in
            inr (to_end f, from_end e, comes_next r is (to_end f) (from_end e) before h, to_that_end f, from_that_end e)

        by : (b : Bool) (t : Tip) → s.turned ≡ b → e.tip ≡ t → Continues r e f ⊎ Continues r f e
        by true Second p q = back (p ∙ ap turned_from (sym q))
        by true First p q = on (p ∙ ap (λ (x : Tip). turned_from (other_tip x)) (sym q))
        by false Second p q = on (p ∙ ap (λ (x : Tip). turned_from (other_tip x)) (sym q))
        by false First p q = back (p ∙ ap turned_from (sym q))

  joined_continues : (routes : List Route) → AreRoutes strokes routes → (e f : End) → AreJoined strokes e f → Any (λ r. Continues r e f ⊎ Continues r f e) routes
  joined_continues routes are e f j =
      let (r, n, s, m, same) = in_joined (λ (s : Step). s.stroke) steps_of routes e.stroke (are.all e.stroke (joined_kept strokes e f j)) in
      any_among (λ r. Continues r e f ⊎ Continues r f e) routes r n (continues e f j r (all_among (IsRoute strokes) routes are.each r n) s m same)

  -- ends are joined exactly where a route continues from the one to the other, in whichever direction
  pub neighbours : (routes : List Route) → AreRoutes strokes routes → (e f : End) → AreJoined strokes e f ↔ Any (λ r. Continues r e f ⊎ Continues r f e) routes
  neighbours routes are e f = (joined_continues routes are e f, back)
    where
      back : Any (λ r. Continues r e f ⊎ Continues r f e) routes → AreJoined strokes e f
      back (k, r, less, is, inl c) = continues_joined r (subst (IsRoute strokes) is (are.each k r less)) e f c
      back (k, r, less, is, inr c) = joined_back strokes f e (continues_joined r (subst (IsRoute strokes) is (are.each k r less)) f e c)
