-- Strokes have one list of routes, so that the list of their paths is one.
use Rattle.std.proofs.Common.{◌≡◌, ◌≢◌, inl, inr, ℕ, Bool, true, false, List, [], ◌∷◌, ◌++◌, map, Option, Some, None, slice_get, refl, sym, subst, ap, ◌∙◌, arith}
use Rattle.std.specs.Prelude.{IsSomeAnd, not}
use Rattle.std.specs.List.{AllPairs, AllZip}
use Rattle.std.proofs.lemmas.Bool.{false≢true}
use Rattle.std.proofs.lemmas.List.Elements.{All-head}
use Rattle.sheet_plan.specs.declared.sheet.Mark.{Mark}
use Rattle.sheet_plan.specs.declared.sheet.Stroke.{Stroke}
use Rattle.stroke_paths.specs.Joints.{IsKept}
use Rattle.stroke_paths.specs.Paths.{IsOf, IsPathOf, ArePaths, path_seen}
use Rattle.stroke_paths.specs.Routes.{first_end, last_end, Follows, Route, steps_of, last_of, EachFollows, EndsAsItMust, least_of, strokes_in, IsRoute, AreRoutes}
use Rattle.stroke_paths.specs.declared.path.Path.{Path}
use Rattle.stroke_paths.specs.declared.path.Step.{Step}
use Rattle.stroke_paths.specs.inner.Walks.{turn}
use Rattle.stroke_paths.proofs.Joined.{joined_back}
use Rattle.stroke_paths.proofs.Members.{Among, all_among, pairs_first, pairs_after, all_in_front, in_joined, one_ordered, same_of_options}
use Rattle.stroke_paths.proofs.RouteSteps.{turn-turn, least_step, same_least, one_after, before_in, after_last, all_too, all_turned}

module _ (strokes : List Stroke) where
  -- ---- routes of the same steps
  -- from one step on, as far as the steps go or as they come back to the first
  same_rest : (first s : Step) (xs ys : List Step) → EachFollows strokes s xs → EachFollows strokes s ys → ((t : Step) → Follows strokes (last_of s xs) t → first ≡ t) → ((t : Step) → Follows strokes (last_of s ys) t → first ≡ t)
      → (Among xs first → ⊥) → (Among ys first → ⊥) → xs ≡ ys
  same_rest first s [] [] p q end_x end_y not_x not_y = refl
  same_rest first s [] (y ∷ ys) p q end_x end_y not_x not_y = absurd (not_y (inl (sym (end_x y q.0))))
  same_rest first s (x ∷ xs) [] p q end_x end_y not_x not_y = absurd (not_x (inl (sym (end_y x p.0))))
  same_rest first s (x ∷ xs) (y ∷ ys) p q end_x end_y not_x not_y =
      let same = one_after strokes s x y p.0 q.0 in
      let rest = same_rest first x xs ys p.1 (subst (λ z. EachFollows strokes z ys) (sym same) q.1) end_x (subst (λ z. (t : Step) → Follows strokes (last_of z ys) t → first ≡ t) (sym same) end_y) (λ m. not_x (inr m)) (λ m. not_y (inr m)) in
      λ i. same i ∷ rest i

  -- each step of a closed route follows a step
  closed_before : (r : Route) → IsRoute strokes r → r.closed ≡ true → (t : Step) → Among (steps_of r) t → (s : Step) × Follows strokes s t
  closed_before r is closed t m =
      elim (before_in strokes r.first r.rest t is.follow m) [
        | inl e ↦ let ends = subst (λ b. EndsAsItMust strokes b r.first (last_of r.first r.rest)) closed is.ends in (last_of r.first r.rest, subst (Follows strokes (last_of r.first r.rest)) e ends)
        | inr (s, n, h) ↦ (s, h)
      ]

  -- the first step of an open route follows none
  open_first : (r : Route) → IsRoute strokes r → r.closed ≡ false → (s : Step) → Follows strokes s r.first → ⊥
  open_first r is loose s h =
      let ends = subst (λ b. EndsAsItMust strokes b r.first (last_of r.first r.rest)) loose is.ends in
      ends.0 (last_end s) (joined_back strokes (last_end s) (first_end r.first) h)

  module _ (p q : Route) (first : IsRoute strokes p) (second : IsRoute strokes q) (each : (s : Step) → Among (steps_of p) s → Among (steps_of q) s) (back : (s : Step) → Among (steps_of q) s → Among (steps_of p) s) where
    both_closed : p.closed ≡ q.closed
    both_closed = by p.closed q.closed refl refl
      where
        by : (b c : Bool) → p.closed ≡ b → q.closed ≡ c → b ≡ c
        by true true e f = refl
        by false false e f = refl
        by true false e f = absurd (let (s, h) = closed_before p first e q.first (back q.first (inl refl)) in open_first q second f s h)
        by false true e f = absurd (let (s, h) = closed_before q second f p.first (each p.first (inl refl)) in open_first p first e s h)

    same_first : p.first ≡ q.first
    same_first = by p.closed refl
      where
        by : (b : Bool) → p.closed ≡ b → p.first ≡ q.first
        by true e =
            let least = same_least p q (λ s. s) (λ s. refl) each back in
            let from_p = first.begins e in
            let from_q = second.begins (sym both_closed ∙ e) in
            let ahead_p = first.forward 0 p.first (omega arith) from_p in
            let ahead_q = second.forward 0 q.first (omega arith) from_q in
            λ i. record { stroke = (from_p ∙ (least ∙ sym from_q)) i; turned = (ahead_p ∙ sym ahead_q) i }
        by false e =
            elim (before_in strokes q.first q.rest p.first second.follow (each p.first (inl refl))) [
              | inl same ↦ sym same
              | inr (s, m, h) ↦ absurd (open_first p first e s h)
            ]

    pub of_same_steps : (Among p.rest p.first → ⊥) → (Among q.rest q.first → ⊥) → p ≡ q
    of_same_steps once_p once_q =
        let rest = same_rest p.first p.first p.rest q.rest first.follow (subst (λ s. EachFollows strokes s q.rest) (sym same_first) second.follow)
        (λ t h. after_last strokes p.closed p.first (last_of p.first p.rest) t first.ends h)
        (λ t h. same_first ∙ after_last strokes q.closed q.first (last_of q.first q.rest) t second.ends (subst (λ s. Follows strokes (last_of s q.rest) t) same_first h))
        once_p (subst (λ s. Among q.rest s → ⊥) (sym same_first) once_q) in
        λ i. record { closed = both_closed i; first = same_first i; rest = rest i }

  -- ---- routes over one stroke
  -- the least stroke of one is passed the same way by the other
  module _ (p q : Route) (first : IsRoute strokes p) (second : IsRoute strokes q) (s : Step) (in_p : Among (steps_of p) s) (least : s.stroke ≡ least_of p) where
    ahead : s.turned ≡ false
    ahead = all_among (λ (u : Step). u.stroke ≡ least_of p → u.turned ≡ false) (steps_of p) first.forward s in_p least

    not_turned : Among (steps_of q) (turn s) → ⊥
    not_turned m =
        let each = all_turned strokes p q first second s in_p m in
        let back = all_turned strokes q p second first (turn s) m (subst (Among (steps_of p)) (sym (turn-turn s)) in_p) in
        let same = same_least p q turn (λ u. refl) each back in
        let turned = all_among (λ (u : Step). u.stroke ≡ least_of q → u.turned ≡ false) (steps_of q) second.forward (turn s) m (least ∙ same) in
        false≢true (sym turned ∙ ap not ahead)

    passed : (t : Step) → Among (steps_of q) t → t.stroke ≡ s.stroke → Among (steps_of q) s
    passed t m same = by t.turned refl
      where
        by : (b : Bool) → t.turned ≡ b → Among (steps_of q) s
        by false e = subst (Among (steps_of q)) (λ i. record { stroke = same i; turned = (e ∙ sym ahead) i }) m
        by true e = absurd (not_turned (subst (Among (steps_of q)) (λ i. record { stroke = same i; turned = (e ∙ ap not (sym ahead)) i }) m))

    pub one_over : (t : Step) → Among (steps_of q) t → t.stroke ≡ s.stroke → (Among p.rest p.first → ⊥) → (Among q.rest q.first → ⊥) → p ≡ q
    one_over t m same =
        let in_q = passed t m same in
        of_same_steps p q first second (all_too strokes p q first second s in_p in_q) (all_too strokes q p second first s in_q in_p)

  -- ---- all routes
  -- no route passes the stroke of its first step again
  once_each : (routes : List Route) → AllPairs (λ i j. i ≢ j) (strokes_in routes) → (r : Route) → Among routes r → Among r.rest r.first → ⊥
  once_each [] once r m n = absurd m
  once_each (q ∷ routes) once r (inl e) n =
      subst (λ (r : Route). Among r.rest r.first → ⊥) e
      (λ k. all_in_front (λ (s : Step). s.stroke) (λ i. q.first.stroke ≢ i) q.rest (strokes_in routes) (pairs_first (λ i j. i ≢ j) q.first.stroke (map (λ s. s.stroke) q.rest ++ strokes_in routes) once) q.first k refl) n
  once_each (q ∷ routes) once r (inr m) n = once_each routes (pairs_after (λ i j. i ≢ j) (map (λ s. s.stroke) (steps_of q)) (strokes_in routes) once) r m n

  in_other : (a b : List Route) → AreRoutes strokes a → AreRoutes strokes b → (r : Route) → Among a r → Among b r
  in_other a b first second r m =
      let is = all_among (IsRoute strokes) a first.each r m in
      let (s, in_r, least) = least_step r in
      let (q, n, t, in_q, same) = in_joined (λ (s : Step). s.stroke) steps_of b s.stroke (second.all s.stroke (all_among (λ (u : Step). IsKept strokes u.stroke) (steps_of r) is.kept s in_r)) in
      let one = one_over r q is (all_among (IsRoute strokes) b second.each q n) s in_r least t in_q same (once_each a first.once r m) (once_each b second.once q n) in
      subst (Among b) (sym one) n

  -- strokes have one list of routes
  pub one_routes : (a b : List Route) → AreRoutes strokes a → AreRoutes strokes b → a ≡ b
  one_routes a b first second = one_ordered least_of a b first.in_order second.in_order (in_other a b first second) (in_other b a second first)

  -- ---- paths
  -- a stroke is of one view and mark
  one_mark : (i v w : ℕ) (m n : Mark) → IsOf strokes v m i → IsOf strokes w n i → (v ≡ w) × (m ≡ n)
  one_mark i v w m n = by (slice_get strokes i)
    where
      by : (o : Option Stroke) → IsSomeAnd o (λ s. (s.view ≡ v) × (s.mark ≡ m)) → IsSomeAnd o (λ s. (s.view ≡ w) × (s.mark ≡ n)) → (v ≡ w) × (m ≡ n)
      by None h k = absurd h
      by (Some s) h k = (sym h.0 ∙ k.0, sym h.1 ∙ k.1)

  one_path : (r : Route) (p q : Path) → IsPathOf strokes r p → IsPathOf strokes r q → path_seen p ≡ path_seen q
  one_path r p q first second =
      let marks = one_mark r.first.stroke p.view q.view p.mark q.mark (All-head (λ s. IsOf strokes p.view p.mark s.stroke) r.first r.rest first.marked) (All-head (λ s. IsOf strokes q.view q.mark s.stroke) r.first r.rest second.marked) in
      let closed = first.closed ∙ sym second.closed in
      let points = same_of_options p.points.items q.points.items (first.points ∙ sym second.points) in
      λ i. record { view = marks.0 i; mark = marks.1 i; closed = closed i; points = points i }

  each_path : (routes : List Route) (p q : List Path) → AllZip (IsPathOf strokes) routes p → AllZip (IsPathOf strokes) routes q → map path_seen p ≡ map path_seen q
  each_path [] [] [] h k = refl
  each_path [] [] (y ∷ q) h k = absurd k
  each_path [] (x ∷ p) q h k = absurd h
  each_path (r ∷ routes) [] q h k = absurd h
  each_path (r ∷ routes) (x ∷ p) [] h k = absurd k
  each_path (r ∷ routes) (x ∷ p) (y ∷ q) h k =
      let here = one_path r x y h.0 k.0 in
      let rest = each_path routes p q h.1 k.1 in
      λ i. here i ∷ rest i

  -- strokes have one list of paths, as far as paths are seen
  pub one_paths : (p q : List Path) → ArePaths strokes p → ArePaths strokes q → map path_seen p ≡ map path_seen q
  one_paths p q (a, first, of_p) (b, second, of_q) = each_path b p q (subst (λ routes. AllZip (IsPathOf strokes) routes p) (one_routes a b first second) of_p) of_q
