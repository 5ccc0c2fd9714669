-- The steps of whole routes: with one of them all of them, so that two routes over one stroke are one.
use Rattle.std.proofs.Common.{◌≡◌, ◌⊎◌, inl, inr, ℕ, ◌≤◌, min, Bool, true, false, List, [], ◌∷◌, refl, sym, subst, ap, ◌∙◌, arith}
use mathlib.Core.Bool.{not-not}
use Rattle.sheet_plan.specs.declared.sheet.Stroke.{Stroke}
use Rattle.stroke_paths.specs.Joints.{other_tip, AreJoined}
use Rattle.stroke_paths.specs.Routes.{first_end, last_end, start_of, Follows, Route, steps_of, last_of, EachFollows, EndsAsItMust, least_from, least_of, IsRoute}
use Rattle.stroke_paths.specs.declared.path.End.{End}
use Rattle.stroke_paths.specs.declared.path.Step.{Step}
use Rattle.stroke_paths.specs.inner.Walks.{turn}
use Rattle.stroke_paths.proofs.Joined.{joined_back, joined_one}
use Rattle.stroke_paths.proofs.Members.{Among}
use Rattle.stroke_paths.proofs.Tips.{other-other, first_turned, last_turned, turned_from, turned_of_start}

pub turn-turn : (s : Step) → turn (turn s) ≡ s
turn-turn s = λ i. record { stroke = s.stroke; turned = not-not s.turned i }

pub last_among : (s : Step) (rest : List Step) → Among (s ∷ rest) (last_of s rest)
last_among s [] = inl refl
last_among s (t ∷ rest) = inr (last_among t rest)

-- ---- the least stroke
least_below : (n : ℕ) (rest : List Step) → least_from n rest ≤ n
least_below n [] = omega arith
least_below n (s ∷ rest) = let h = least_below (min n s.stroke) rest in omega arith

least_below_each : (n : ℕ) (rest : List Step) (t : Step) → Among rest t → least_from n rest ≤ t.stroke
least_below_each n [] t m = absurd m
least_below_each n (s ∷ rest) t (inl e) = let h = least_below (min n s.stroke) rest in subst (λ (u : Step). least_from (min n s.stroke) rest ≤ u.stroke) e (omega arith)
least_below_each n (s ∷ rest) t (inr m) = least_below_each (min n s.stroke) rest t m

least_below_all : (r : Route) (t : Step) → Among (steps_of r) t → least_of r ≤ t.stroke
least_below_all r t (inl e) = subst (λ (u : Step). least_of r ≤ u.stroke) e (least_below r.first.stroke r.rest)
least_below_all r t (inr m) = least_below_each r.first.stroke r.rest t m

min_cases : (m n : ℕ) → (min m n ≡ m) ⊎ (min m n ≡ n)
min_cases m n = grind arith

least_is : (n : ℕ) (rest : List Step) → (least_from n rest ≡ n) ⊎ ((t : Step) × Among rest t × (t.stroke ≡ least_from n rest))
least_is n [] = inl refl
least_is n (s ∷ rest) =
    elim (least_is (min n s.stroke) rest) [
      | inl e ↦ elim (min_cases n s.stroke) [
        | inl first ↦ inl (e ∙ first)
        | inr here ↦ inr (s, inl refl, sym (e ∙ here))
      ]
      | inr (t, m, e) ↦ inr (t, inr m, e)
    ]

-- some step passes the least stroke
pub least_step : (r : Route) → (t : Step) × Among (steps_of r) t × (t.stroke ≡ least_of r)
least_step r =
    elim (least_is r.first.stroke r.rest) [
      | inl e ↦ (r.first, inl refl, sym e)
      | inr (t, m, e) ↦ (t, inr m, e)
    ]

-- routes of which each passes the strokes of the other have one least stroke
least_at_most : (p q : Route) (f : Step → Step) → ((s : Step) → (f s).stroke ≡ s.stroke) → ((s : Step) → Among (steps_of p) s → Among (steps_of q) (f s)) → least_of q ≤ least_of p
least_at_most p q f same each =
    let (s, m, e) = least_step p in
    let h = least_below_all q (f s) (each s m) in
    let k = same s in
    omega arith

pub same_least : (p q : Route) (f : Step → Step) → ((s : Step) → (f s).stroke ≡ s.stroke) → ((s : Step) → Among (steps_of p) s → Among (steps_of q) (f s)) → ((s : Step) → Among (steps_of q) s → Among (steps_of p) (f s))
    → least_of p ≡ least_of q
same_least p q f same each back =
    let down = least_at_most p q f same each in
    let up = least_at_most q p f same back in
    omega arith

-- ---- one step, and then the other
module _ (strokes : List Stroke) where
  -- a step by its first end, and by its last
  from_first : (s t : Step) → first_end s ≡ first_end t → s ≡ t
  from_first s t e = λ i. record { stroke = (e i).stroke; turned = (sym (turned_of_start s.turned) ∙ (ap (λ (f : End). turned_from f.tip) e ∙ turned_of_start t.turned)) i }

  from_last : (s t : Step) → last_end s ≡ last_end t → s ≡ t
  from_last s t e = from_first s t (λ i. record { stroke = (e i).stroke; tip = (sym (other-other (start_of s.turned)) ∙ (ap (λ (f : End). other_tip f.tip) e ∙ other-other (start_of t.turned))) i })

  pub one_after : (s t u : Step) → Follows strokes s t → Follows strokes s u → t ≡ u
  one_after s t u h k = from_first t u (joined_one strokes (last_end s) (first_end t) (first_end u) h k)

  pub one_before : (s t u : Step) → Follows strokes s u → Follows strokes t u → s ≡ t
  one_before s t u h k = from_last s t (joined_one strokes (first_end u) (last_end s) (last_end t) (joined_back strokes (last_end s) (first_end u) h) (joined_back strokes (last_end t) (first_end u) k))

  pub follow_back : (s t : Step) → Follows strokes s t → Follows strokes (turn t) (turn s)
  follow_back s t h =
      subst (λ e. AreJoined strokes e (first_end (turn s))) (sym (last_turned t)) (subst (AreJoined strokes (first_end t)) (sym (first_turned s)) (joined_back strokes (last_end s) (first_end t) h))

  -- ---- along a list of steps
  next_in : (x : Step) (rest : List Step) (s t : Step) → EachFollows strokes x rest → Among (x ∷ rest) s → Follows strokes s t → Among rest t ⊎ (last_of x rest ≡ s)
  next_in x [] s t each (inl e) h = inr e
  next_in x [] s t each (inr m) h = absurd m
  next_in x (y ∷ rest) s t each (inl e) h = inl (inl (one_after x y t each.0 (subst (λ z. Follows strokes z t) (sym e) h)))
  next_in x (y ∷ rest) s t each (inr m) h =
      elim (next_in y rest s t each.1 m h) [
        | inl n ↦ inl (inr n)
        | inr e ↦ inr e
      ]

  pub before_in : (x : Step) (rest : List Step) (t : Step) → EachFollows strokes x rest → Among (x ∷ rest) t → (x ≡ t) ⊎ ((s : Step) × Among (x ∷ rest) s × Follows strokes s t)
  before_in x rest t each (inl e) = inl e
  before_in x [] t each (inr m) = absurd m
  before_in x (y ∷ rest) t each (inr m) =
      elim (before_in y rest t each.1 m) [
        | inl e ↦ inr (x, inl refl, subst (Follows strokes x) e each.0)
        | inr (s, n, h) ↦ inr (s, inr n, h)
      ]

  -- what holds of one of the steps, and with each step of the next and of the one before, holds of all
  module _ (P : Step → Type 0) (on : (s t : Step) → Follows strokes s t → P s → P t) (back : (s t : Step) → Follows strokes s t → P t → P s) where
    to_first : (x : Step) (rest : List Step) → EachFollows strokes x rest → (t : Step) → Among (x ∷ rest) t → P t → P x
    to_first x rest each t (inl e) p = subst P (sym e) p
    to_first x [] each t (inr m) p = absurd m
    to_first x (y ∷ rest) each t (inr m) p = back x y each.0 (to_first y rest each.1 t m p)

    from_the_first : (x : Step) (rest : List Step) → EachFollows strokes x rest → P x → (t : Step) → Among (x ∷ rest) t → P t
    from_the_first x rest each p t (inl e) = subst P e p
    from_the_first x [] each p t (inr m) = absurd m
    from_the_first x (y ∷ rest) each p t (inr m) = from_the_first y rest each.1 (on x y each.0 p) t m

    pub spread : (x : Step) (rest : List Step) → EachFollows strokes x rest → (s : Step) → Among (x ∷ rest) s → P s → (t : Step) → Among (x ∷ rest) t → P t
    spread x rest each s m p = from_the_first x rest each (to_first x rest each s m p)

  -- ---- round a route
  pub after_last : (closed : Bool) (first last t : Step) → EndsAsItMust strokes closed first last → Follows strokes last t → first ≡ t
  after_last true first last t ends h = one_after last first t ends h
  after_last false first last t ends h = absurd (ends.1 (first_end t) h)

  before_first : (closed : Bool) (first last s : Step) → EndsAsItMust strokes closed first last → Follows strokes s first → last ≡ s
  before_first true first last s ends h = one_before last s first ends h
  before_first false first last s ends h = absurd (ends.0 (last_end s) (joined_back strokes (last_end s) (first_end first) h))

  module _ (r : Route) (is : IsRoute strokes r) where
    pub next_too : (s t : Step) → Follows strokes s t → Among (steps_of r) s → Among (steps_of r) t
    next_too s t h m =
        elim (next_in r.first r.rest s t is.follow m h) [
          | inl n ↦ inr n
          | inr e ↦ inl (after_last r.closed r.first (last_of r.first r.rest) t is.ends (subst (λ u. Follows strokes u t) (sym e) h))
        ]

    pub before_too : (s t : Step) → Follows strokes s t → Among (steps_of r) t → Among (steps_of r) s
    before_too s t h m =
        elim (before_in r.first r.rest t is.follow m) [
          | inl e ↦ subst (Among (steps_of r)) (before_first r.closed r.first (last_of r.first r.rest) s is.ends (subst (Follows strokes s) (sym e) h)) (last_among r.first r.rest)
          | inr (u, n, k) ↦ subst (Among (steps_of r)) (one_before u s t k h) n
        ]

  -- with one step a route has all steps of another route
  pub all_too : (p q : Route) → IsRoute strokes p → IsRoute strokes q → (s : Step) → Among (steps_of p) s → Among (steps_of q) s → (t : Step) → Among (steps_of p) t → Among (steps_of q) t
  all_too p q first second s m n = spread (Among (steps_of q)) (next_too q second) (before_too q second) p.first p.rest first.follow s m n

  pub all_turned : (p q : Route) → IsRoute strokes p → IsRoute strokes q → (s : Step) → Among (steps_of p) s → Among (steps_of q) (turn s) → (t : Step) → Among (steps_of p) t → Among (steps_of q) (turn t)
  all_turned p q first second s m n =
      spread (λ u. Among (steps_of q) (turn u)) (λ u v h. before_too q second (turn v) (turn u) (follow_back u v h)) (λ u v h. next_too q second (turn v) (turn u) (follow_back u v h)) p.first p.rest first.follow s m n
