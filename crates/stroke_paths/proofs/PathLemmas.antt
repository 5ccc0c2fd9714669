-- The paths so far, and one more: its route is one over the strokes, and its points are drawn.
use Rattle.std.proofs.Common.{◌≡◌, ◌⊎◌, inl, inr, ℕ, zero, suc, ◌+◌, ◌<◌, ◌≤◌, min, Bool, true, false, List, [], ◌∷◌, ◌++◌, All, Option, Some, None, map, length, get_or, replicate, slice_get, take, refl, sym, ap, subst, ◌∙◌, arith, if◌then◌else◌}
use Rattle.std.specs.List.{AllZip}
use Rattle.std.specs.Option.{IsSomeAnd}
use Rattle.std.proofs.lemmas.Bool.{cases_eq, cases_lt}
use Rattle.std.proofs.lemmas.List.{append-nil, length-replicate, map-append, map_push, take_all}
use Rattle.std.proofs.lemmas.List.Concat.{flat_map-append}
use Rattle.std.proofs.lemmas.List.Elements.{All-nil, All-cons, All-push, All-weaker, All-get_or, All-head, All-tail}
use Rattle.std.proofs.lemmas.List.Quantifiers.{all_pairs_push}
use Rattle.std.proofs.lemmas.Option.{same_Some, slice_get_within}
use Rattle.sheet_plan.specs.declared.sheet.Mark.{Mark}
use Rattle.sheet_plan.specs.declared.sheet.Stroke.{Stroke}
use Rattle.stroke_paths.specs.declared.joint.Joint.{Joint}
use Rattle.stroke_paths.specs.declared.path.End.{End}
use Rattle.stroke_paths.specs.declared.path.Path.{Path}
use Rattle.stroke_paths.specs.declared.path.Point.{Point}
use Rattle.stroke_paths.specs.declared.path.Step.{Step}
use Rattle.stroke_paths.specs.inner.Drawn.{ArePointsAlong, IsPathAlong, ArePathsBelow}
use Rattle.stroke_paths.specs.inner.Tables.{partner, AreJoints}
use Rattle.stroke_paths.specs.inner.Walks.{IsAmong, AreApart, strokes_of, IsVisited, AreLinked, EndByTable, IsRouteThrough}
use Rattle.stroke_paths.specs.Joints.{IsDot, IsKept, AreJoined}
use Rattle.stroke_paths.specs.Paths.{IsOf, IsPathOf, ArePaths, ends_from, point_at}
use Rattle.stroke_paths.specs.Routes.{Route, IsRoute, EachFollows, EndsAsItMust, first_end, last_end, last_of, least_from, least_of, steps_of, strokes_in}
use Rattle.stroke_paths.proofs.Numbers.{AllPairs-from_apart, Contains-from_among, among_left, among_parts, among_right, apart_append, not_both}
use Rattle.stroke_paths.proofs.TableLemmas.{joined_of, loose_of}

-- ---- the least of the strokes
least_is : (n : ℕ) (steps : List Step) (i : ℕ) → IsAmong (n ∷ strokes_of steps) i → ((j : ℕ) → IsAmong (n ∷ strokes_of steps) j → i ≤ j) → least_from n steps ≡ i
least_is n [] i (inl e) least = e
least_is n [] i (inr h) least = absurd h
least_is n (s ∷ rest) i there least = least_is (min n s.stroke) rest i (among there) bound
  where
    first : i ≤ n
    first = least n (inl refl)

    second : i ≤ s.stroke
    second = least s.stroke (inr (inl refl))

    among : IsAmong (n ∷ strokes_of (s ∷ rest)) i → IsAmong (min n s.stroke ∷ strokes_of rest) i
    among (inl e) = inl (omega (arith, e, second))
    among (inr (inl e)) = inl (omega (arith, e, first))
    among (inr (inr h)) = inr h

    bound : (j : ℕ) → IsAmong (min n s.stroke ∷ strokes_of rest) j → i ≤ j
    bound j (inl e) = omega (arith, e, first, second)
    bound j (inr h) = least j (inr (inr h))

-- ---- a step of a route, by its stroke
among_at : (steps : List Step) (k : ℕ) (d : Step) → k < length steps → IsAmong (strokes_of steps) (get_or steps k d).stroke
among_at [] k d h = absurd (omega (arith, h))
among_at (s ∷ rest) zero d h = inl refl
among_at (s ∷ rest) (suc k) d h = inr (among_at rest k d (omega (arith, h)))

-- ---- from the table to the strokes
module _ (strokes : List Stroke) (joints : List Joint) (table : AreJoints strokes joints) where
  follow_of : (s : Step) (rest : List Step) → AreLinked joints s rest → EachFollows strokes s rest
  follow_of s [] h = tt
  follow_of s (t ∷ rest) h = (joined_of strokes joints table (last_end s) (first_end t) h.0, follow_of t rest h.1)

  ends_of : (closed : Bool) (first last : Step) → EndByTable joints closed first last → EndsAsItMust strokes closed first last
  ends_of true first last h = joined_of strokes joints table (last_end last) (first_end first) h
  ends_of false first last h = (loose_of strokes joints table (first_end first) h.0, loose_of strokes joints table (last_end last) h.1)

  kept_along : (s : Step) (rest : List Step) → AreLinked joints s rest → IsKept strokes s.stroke → All (λ (t : Step). IsKept strokes t.stroke) (s ∷ rest)
  kept_along s [] h k = All-cons (λ (t : Step). IsKept strokes t.stroke) s [] k (All-nil (λ (t : Step). IsKept strokes t.stroke))
  kept_along s (t ∷ rest) h k =
      let j = joined_of strokes joints table (last_end s) (first_end t) h.0 in
      All-cons (λ (t : Step). IsKept strokes t.stroke) s (t ∷ rest) k (kept_along t rest h.1 (record { stroke = j.second.stroke; listed = j.second.listed; no_dot = j.second.no_dot }))

  first_kept : (s : Step) (rest : List Step) (i : ℕ) → AreLinked joints s rest → IsAmong (strokes_of (s ∷ rest)) i → IsKept strokes i → IsKept strokes s.stroke
  first_kept s [] i h (inl e) k = subst (IsKept strokes) (sym e) k
  first_kept s [] i h (inr a) k = absurd a
  first_kept s (t ∷ rest) i h a k =
      let j = joined_of strokes joints table (last_end s) (first_end t) h.0 in
      record { stroke = j.first.stroke; listed = j.first.listed; no_dot = j.first.no_dot }

  -- all strokes of a route are of the view and mark of its first
  of_next : (view : ℕ) (mark : Mark) (s t : Step) → partner joints (last_end s) ≡ Some (first_end t) → IsOf strokes view mark s.stroke → IsOf strokes view mark t.stroke
  of_next view mark s t h k = by (slice_get strokes s.stroke) refl k
    where
      j : AreJoined strokes (last_end s) (first_end t)
      j = joined_of strokes joints table (last_end s) (first_end t) h

      by : (o : Option Stroke) → slice_get strokes s.stroke ≡ o → IsSomeAnd o (λ x. (x.view ≡ view) × (x.mark ≡ mark)) → IsOf strokes view mark t.stroke
      by None q a = absurd a
      by (Some x) q a =
          let same : j.first.stroke ≡ x = same_Some j.first.stroke x (sym j.first.listed ∙ q) in
          subst (λ (o : Option Stroke). IsSomeAnd o (λ x. (x.view ≡ view) × (x.mark ≡ mark))) (sym j.second.listed)
          (j.second.view_is ∙ sym j.first.view_is ∙ ap (λ (z : Stroke). z.view) same ∙ a.0, j.second.mark_is ∙ sym j.first.mark_is ∙ ap (λ (z : Stroke). z.mark) same ∙ a.1)

  of_along : (view : ℕ) (mark : Mark) (s : Step) (rest : List Step) → AreLinked joints s rest → IsOf strokes view mark s.stroke → All (λ (t : Step). IsOf strokes view mark t.stroke) (s ∷ rest)
  of_along view mark s [] h k = All-cons (λ (t : Step). IsOf strokes view mark t.stroke) s [] k (All-nil (λ (t : Step). IsOf strokes view mark t.stroke))
  of_along view mark s (t ∷ rest) h k =
      All-cons (λ (t : Step). IsOf strokes view mark t.stroke) s (t ∷ rest) k (of_along view mark t rest h.1 (of_next view mark s t h.0 k))

  -- ---- one more path
  push_both : {A B : Type 0} (R : A → B → Type 0) (xs : List A) (ys : List B) (x : A) (y : B) → AllZip R xs ys → R x y → AllZip R (xs ++ x ∷ []) (ys ++ y ∷ [])
  push_both R [] [] x y h k = (k, tt)
  push_both R [] (z ∷ ys) x y h k = absurd h
  push_both R (w ∷ xs) [] x y h k = absurd h
  push_both R (w ∷ xs) (z ∷ ys) x y h k = (h.0, push_both R xs ys x y h.1 k)

  module _ (i : ℕ) (before after : List Bool) (paths : List Path) (path : Path) (steps : List Step) (closed : Bool) (so_far : ArePathsBelow strokes joints i before paths) (kept : IsKept strokes i)
      (through : IsRouteThrough joints before after i steps closed) (along : IsPathAlong strokes steps closed path) where
    abbrev route : Route
    route = record { closed = closed; first = through.first; rest = through.rest }

    all_kept : All (λ (s : Step). IsKept strokes s.stroke) (steps_of route)
    all_kept = kept_along through.first through.rest through.linked (first_kept through.first through.rest i through.linked through.among kept)

    least_here : (j : ℕ) → IsAmong (strokes_of (steps_of route)) j → i ≤ j
    least_here j a = by (cases_lt j i)
      where
        kept_at : (steps : List Step) → All (λ (s : Step). IsKept strokes s.stroke) steps → IsAmong (strokes_of steps) j → IsKept strokes j
        kept_at [] h a = absurd a
        kept_at (s ∷ rest) h (inl e) = subst (IsKept strokes) e (All-head (λ (s : Step). IsKept strokes s.stroke) s rest h)
        kept_at (s ∷ rest) h (inr a) = kept_at rest (All-tail (λ (s : Step). IsKept strokes s.stroke) s rest h) a

        by : (j < i) ⊎ (i ≤ j) → i ≤ j
        by (inl less) = absurd (not_both before j (through.visits.fresh j a) (so_far.all j less (kept_at (steps_of route) all_kept a)))
        by (inr k) = k

    least_is_i : least_of route ≡ i
    least_is_i = least_is through.first.stroke through.rest i through.among least_here

    is_route : IsRoute strokes route
    is_route =
        record {
          kept = all_kept;
          follow = follow_of through.first through.rest through.linked;
          ends = ends_of closed through.first (last_of through.first through.rest) through.ends;
          forward =
              All-weaker (λ (s : Step). s.stroke ≡ i → s.turned ≡ false) (λ (s : Step). s.stroke ≡ least_of route → s.turned ≡ false) (λ s h e. h (e ∙ least_is_i)) (steps_of route) through.forward;
          begins = λ e. through.begins e ∙ sym least_is_i;
        }

    is_path : IsPathOf strokes route path
    is_path =
        record {
          marked = of_along path.view path.mark through.first through.rest through.linked (along.marked through.first through.rest through.steps_are);
          closed = along.same;
          points = along.points through.first through.rest through.steps_are;
        }

    strokes_more : strokes_in (so_far.routes ++ route ∷ []) ≡ strokes_in so_far.routes ++ strokes_of (steps_of route)
    strokes_more =
        flat_map-append (λ (r : Route). map (λ (s : Step). s.stroke) (steps_of r)) so_far.routes (route ∷ []) ∙ ap (λ (ns : List ℕ). strokes_in so_far.routes ++ ns) (append-nil (strokes_of (steps_of route)))

    pub one_more_path : ArePathsBelow strokes joints (i + 1) after (paths ++ path ∷ [])
    one_more_path =
        record {
          routes = so_far.routes ++ route ∷ [];
          each = All-push (IsRoute strokes) so_far.routes route so_far.each is_route;
          once =
              subst AreApart (sym strokes_more)
              (apart_append (strokes_in so_far.routes) (strokes_of (steps_of route)) so_far.once through.visits.apart (λ j h k. not_both before j (through.visits.fresh j k) (so_far.visits j h)));
          in_order =
              all_pairs_push (λ (r q : Route). least_of r < least_of q) so_far.routes route so_far.in_order
              (λ k d less. omega (arith, All-get_or (λ (r : Route). least_of r < i) so_far.routes k d less so_far.below, least_is_i));
          below =
              All-push (λ (r : Route). least_of r < i + 1) so_far.routes route
              (All-weaker (λ (r : Route). least_of r < i) (λ (r : Route). least_of r < i + 1) (λ r h. omega (arith, h)) so_far.routes so_far.below) (omega (arith, least_is_i));
          all = λ j less k. all j k (cases_eq j i) less;
          passed = λ j h. subst (λ (ns : List ℕ). IsAmong ns j) (sym strokes_more) (passed j (through.visits.now j h));
          visits = λ j h. visits j (among_parts (strokes_in so_far.routes) (strokes_of (steps_of route)) j (subst (λ (ns : List ℕ). IsAmong ns j) strokes_more h));
          whole = through.whole;
          as_many = through.visits.as_many ∙ so_far.as_many;
          drawn = push_both (IsPathOf strokes) so_far.routes paths route path so_far.drawn is_path;
        }
      where
        all : (j : ℕ) → IsKept strokes j → (j ≡ i) ⊎ (j ≡ i → ⊥) → j < i + 1 → IsVisited after j
        all j k (inl e) less = subst (IsVisited after) (sym e) (through.visits.new i through.among)
        all j k (inr n) less = through.visits.still j (so_far.all j (omega (arith, less, n)) k)

        passed : (j : ℕ) → IsVisited before j ⊎ IsAmong (strokes_of (steps_of route)) j → IsAmong (strokes_in so_far.routes ++ strokes_of (steps_of route)) j
        passed j (inl h) = among_left (strokes_in so_far.routes) (strokes_of (steps_of route)) j (so_far.passed j h)
        passed j (inr h) = among_right (strokes_in so_far.routes) (strokes_of (steps_of route)) j h

        visits : (j : ℕ) → IsAmong (strokes_in so_far.routes) j ⊎ IsAmong (strokes_of (steps_of route)) j → IsVisited after j
        visits j (inl h) = through.visits.still j (so_far.visits j h)
        visits j (inr h) = through.visits.new j h

  -- a stroke that is a dot, or is in a path already
  pub no_more_path : (i : ℕ) (visited : List Bool) (paths : List Path) → ArePathsBelow strokes joints i visited paths → (IsKept strokes i → IsVisited visited i) → ArePathsBelow strokes joints (i + 1) visited paths
  no_more_path i visited paths so_far done =
      record {
        routes = so_far.routes;
        each = so_far.each;
        once = so_far.once;
        in_order = so_far.in_order;
        below = All-weaker (λ (r : Route). least_of r < i) (λ (r : Route). least_of r < i + 1) (λ r h. omega (arith, h)) so_far.routes so_far.below;
        all = λ j less k. all j k (cases_eq j i) less;
        passed = so_far.passed;
        visits = so_far.visits;
        whole = so_far.whole;
        as_many = so_far.as_many;
        drawn = so_far.drawn;
      }
    where
      all : (j : ℕ) → IsKept strokes j → (j ≡ i) ⊎ (j ≡ i → ⊥) → j < i + 1 → IsVisited visited j
      all j k (inl e) less = subst (IsVisited visited) (sym e) (done (subst (IsKept strokes) e k))
      all j k (inr n) less = so_far.all j (omega (arith, less, n)) k

-- ---- none, and all
none_visited : (n j : ℕ) → IsVisited (replicate n false) j → ⊥
none_visited zero j h = cc
none_visited (suc n) zero h = cc
none_visited (suc n) (suc j) h = none_visited n j h

pub no_paths : (strokes : List Stroke) (joints : List Joint) (visited : List Bool) (paths : List Path) → visited ≡ replicate (length strokes) false → paths ≡ [] → ArePathsBelow strokes joints 0 visited paths
no_paths strokes joints visited paths e none =
    record {
      routes = [];
      each = All-nil (IsRoute strokes);
      once = tt;
      in_order = λ j k d h l. absurd (omega (arith, l));
      below = All-nil (λ (r : Route). least_of r < 0);
      all = λ j less k. absurd (omega (arith, less));
      passed = λ j h. absurd (not_visited j h);
      visits = λ j h. absurd h;
      whole = λ x y q h. absurd (not_visited x.stroke h);
      as_many = ap length e ∙ length-replicate (length strokes) false;
      drawn = subst (λ (ps : List Path). AllZip (IsPathOf strokes) [] ps) (sym none) tt;
    }
  where
    not_visited : (j : ℕ) → IsVisited visited j → ⊥
    not_visited j h = none_visited (length strokes) j (subst (λ (vs : List Bool). IsVisited vs j) e h)

pub all_paths : (strokes : List Stroke) (joints : List Joint) (i : ℕ) (visited : List Bool) (paths : List Path) → i ≡ length strokes → ArePathsBelow strokes joints i visited paths → ArePaths strokes paths
all_paths strokes joints i visited paths end h = (
  h.routes,
  record {
    each = h.each;
    all = λ j k. Contains-from_among (strokes_in h.routes) j (h.passed j (h.all j (omega (arith, end, slice_get_within strokes j k.stroke k.listed)) k));
    once = AllPairs-from_apart (strokes_in h.routes) h.once;
    in_order = h.in_order;
  },
  h.drawn,
)

-- ---- the points along some steps
pub ends_are : (closed : Bool) (s : Step) (rest : List Step) → ends_from closed s rest ≡ map first_end (s ∷ rest) ++ (if closed then [] else last_end (last_of s rest) ∷ [])
ends_are true s [] = refl
ends_are false s [] = refl
ends_are true s (t ∷ rest) = ap (λ (es : List End). first_end s ∷ es) (ends_are true t rest)
ends_are false s (t ∷ rest) = ap (λ (es : List End). first_end s ∷ es) (ends_are false t rest)

last_is : (s : Step) (rest : List Step) (d : Step) → get_or (s ∷ rest) (length rest) d ≡ last_of s rest
last_is s [] d = refl
last_is s (t ∷ rest) d = last_is t rest d

-- the points at which the steps begin, and that at which the last one ends
begin_at : (strokes : List Stroke) (steps : List Step) → map (λ (s : Step). point_at strokes (first_end s)) steps ≡ map (point_at strokes) (map first_end steps)
begin_at strokes [] = refl
begin_at strokes (s ∷ rest) = ap (λ (ps : List (Option Point)). point_at strokes (first_end s) ∷ ps) (begin_at strokes rest)

module _ (strokes : List Stroke) (steps : List Step) (points : List Point) (begun : map Some points ≡ map (λ (s : Step). point_at strokes (first_end s)) steps) where
  pub points_closed : ArePointsAlong strokes steps true points
  points_closed first rest e =
      begun ∙ begin_at strokes steps ∙ ap (λ (ss : List Step). map (point_at strokes) (map first_end ss)) e
      ∙ ap (map (point_at strokes)) (sym (ends_are true first rest ∙ append-nil (map first_end (first ∷ rest))))

  pub points_open : (n : ℕ) (last : Step) (p : Point) (more : List Point) → n + 1 ≡ length steps → last ≡ get_or steps n last → Some p ≡ point_at strokes (last_end last) → more ≡ points ++ p ∷ []
      → ArePointsAlong strokes steps false more
  points_open n last p more count is at pushed first rest e =
      ap (map Some) pushed ∙ map_push Some points p ∙ (λ i. (begun ∙ begin_at strokes steps ∙ ap (λ (ss : List Step). map (point_at strokes) (map first_end ss)) e) i ++ (at ∙ ap (λ (s : Step). point_at strokes (last_end s)) last_same) i ∷ [])
      ∙ sym (map-append (point_at strokes) (map first_end (first ∷ rest)) (last_end (last_of first rest) ∷ [])) ∙ ap (map (point_at strokes)) (sym (ends_are false first rest))
    where
      last_same : last ≡ last_of first rest
      last_same =
          let k : n ≡ length rest = omega (arith, count, ap length e) in
          is ∙ (λ i. get_or (e i) (k i) last) ∙ last_is first rest last

-- ---- the same, by what the calls say
pub closed_by : (strokes : List Stroke) (steps : List Step) (k : ℕ) (closed : Bool) (points : List Point) → length steps ≤ k → closed ≡ true
    → map Some points ≡ map (λ (s : Step). point_at strokes (first_end s)) (take k steps) → ArePointsAlong strokes steps closed points
closed_by strokes steps k closed points all is begun =
    subst (λ (b : Bool). ArePointsAlong strokes steps b points) (sym is)
    (points_closed strokes steps points (begun ∙ ap (map (λ (s : Step). point_at strokes (first_end s))) (take_all k steps all)))

pub open_by : (strokes : List Stroke) (steps : List Step) (k : ℕ) (closed : Bool) (points : List Point) → length steps ≤ k → closed ≡ false
    → map Some points ≡ map (λ (s : Step). point_at strokes (first_end s)) (take k steps) → (n : ℕ) (last : Step) (e : End) (p : Point) (more : List Point) → n + 1 ≡ length steps → last ≡ get_or steps n last → e ≡ last_end last
    → Some p ≡ point_at strokes e → more ≡ points ++ p ∷ [] → ArePointsAlong strokes steps closed more
open_by strokes steps k closed points all is begun n last e p more count at end_is point_is pushed =
    subst (λ (b : Bool). ArePointsAlong strokes steps b more) (sym is)
    (points_open strokes steps points (begun ∙ ap (map (λ (s : Step). point_at strokes (first_end s))) (take_all k steps all)) n last p more count at (point_is ∙ ap (point_at strokes) end_is) pushed)

pub dot_not_kept : (strokes : List Stroke) (i : ℕ) (s : Stroke) → slice_get strokes i ≡ Some s → IsDot s → IsKept strokes i → ⊥
dot_not_kept strokes i s listed dot k = k.no_dot (subst IsDot (same_Some s k.stroke (sym listed ∙ k.listed)) dot)

pub kept_by : (strokes : List Stroke) (i : ℕ) (s : Stroke) → slice_get strokes i ≡ Some s → (IsDot s → ⊥) → IsKept strokes i
kept_by strokes i s listed no_dot = record { stroke = s; listed = listed; no_dot = no_dot }

pub listed_along : (strokes : List Stroke) (joints : List Joint) (before after : List Bool) (i : ℕ) (steps : List Step) (closed : Bool) → length before ≡ length strokes → IsRouteThrough joints before after i steps closed
    → All (λ (s : Step). s.stroke < length strokes) steps
listed_along strokes joints before after i steps closed as_many h =
    subst (All (λ (s : Step). s.stroke < length strokes)) (sym h.steps_are) listed
  where
    listed : All (λ (s : Step). s.stroke < length strokes) (h.first ∷ h.rest)
    listed k d less =
        let all = h.first ∷ h.rest in
        omega (arith, as_many, slice_get_within before (get_or all k d).stroke false (h.visits.fresh (get_or all k d).stroke (among_at all k d less)))

pub some_along : (joints : List Joint) (before after : List Bool) (i : ℕ) (steps : List Step) (closed : Bool) → IsRouteThrough joints before after i steps closed → 0 < length steps
some_along joints before after i steps closed h = omega (arith, ap length h.steps_are)
