-- Flips move a surface no farther than the bounds that are carried with its triangles.
use Rattle.std.proofs.Common.{◌≡◌, ℕ, ◌+◌, ◌≤◌, max, ◌⊎◌, inl, inr, List, All, Contains, Some, length, map, slice_get, slice_set, refl, sym, subst, ap, ◌∙◌, arith}
use Rattle.std.proofs.lemmas.Bool.Decides.{eqb_tells}
use Rattle.std.proofs.lemmas.List.{length-set}
use Rattle.std.proofs.lemmas.List.Elements.{All-contains, All-map, All-set}
use Rattle.std.proofs.lemmas.Option.{slice_get_within}
use Rattle.integers.proofs.Absolutes.{natural_positive}
use Rattle.lattice.specs.declared.points.Corner.{Corner}
use Rattle.lattice.specs.declared.soup.Tri.{Tri}
use Rattle.lattice.specs.Points.{Point, IsPoint}
use Rattle.lattice.specs.Triangles.{IsBelow}
use Rattle.geometry.specs.Faces.{IsPointOfFace}
use Rattle.geometry.specs.Parts.{Part, part_with}
use Rattle.geometry.proofs.Listed.{same_element}
use Rattle.flip_slivers.specs.declared.bounded.Bounded.{Bounded}
use Rattle.flip_slivers.specs.Near.{AreNear, IsOnSurface, AreNearSurfaces}
use Rattle.flip_slivers.specs.Heights.{Placed}
use Rattle.flip_slivers.specs.Flips.{first_of, second_of, IsFlip, AreFlips, unmoved, IsGreatestBound}
use Rattle.flip_slivers.specs.Flips.AreFlips.{none, more}
use Rattle.flip_slivers.proofs.Changed.{set_same, set_other, map_place, map_place_back, Contains-place}
use Rattle.flip_slivers.proofs.Nearness.{near-itself, near-wider, near-through}
use Rattle.flip_slivers.proofs.FlipTriangles.{IsOn, IsNearTriangle, sliver_near, neighbour_near, first_near, second_near, first_placed, second_placed}

point_positive : (a b c : Corner) (p : Point) → IsPointOfFace a b c p → IsPoint p
point_positive a b c p (i, j, k, some, is) = subst (λ (q : Point). IsPoint q) (sym is) (natural_positive (i + j + k) some)

on_positive : (corners : List Corner) (t : Tri) (p : Point) → IsOn corners t p → IsPoint p
on_positive corners t p h = point_positive h.placed.a h.placed.b h.placed.c p h.on_face

-- ---- the bounds that are carried
-- p has a point near it on one of the triangles, by that triangle's bound
record IsNearOne (corners : List Corner) (surface : List Bounded) (p : Point) : Type 0 where
  place : ℕ
  bounded : Bounded
  at : slice_get surface place ≡ Some bounded
  point : Point
  on : IsOn corners bounded.tri point
  near : AreNear bounded.bound p point

-- q has a point near it on the part
record IsNearPart (n : ℕ) (s : Part) (q : Point) : Type 0 where
  point : Point
  on : IsOnSurface s point
  near : AreNear n q point

record AreBounds (corners : List Corner) (given : Part) (surface : List Bounded) : Type 0 where
  there : (p : Point) → IsOnSurface given p → IsNearOne corners surface p
  back : (place : ℕ) (x : Bounded) → slice_get surface place ≡ Some x → (q : Point) → IsOn corners x.tri q → IsNearPart x.bound given q

surface_positive : (s : Part) (p : Point) → IsOnSurface s p → IsPoint p
surface_positive s p (f, on) = point_positive f.a f.b f.c p on

-- nothing is moved yet
at_first : (corners : List Corner) (given : List Tri) → AreBounds corners (part_with corners given) (map unmoved given)
at_first corners given = record {
  there = λ p on. record {
    place = on.0.number;
    bounded = unmoved on.0.tri;
    at = map_place unmoved given on.0.number on.0.tri on.0.listed;
    point = p;
    on = record { placed = record { a = on.0.a; b = on.0.b; c = on.0.c; at_a = on.0.at_a; at_b = on.0.at_b; at_c = on.0.at_c }; on_face = on.1 };
    near = near-itself 0 p;
  };
  back = λ place x at q on. by_place place x q on (map_place_back unmoved given place x at);
}
  where
    by_place : (place : ℕ) (x : Bounded) (q : Point) → IsOn corners x.tri q → (t : Tri) × (slice_get given place ≡ Some t) × (unmoved t ≡ x) → IsNearPart x.bound (part_with corners given) q
    by_place place x q on (t, at, is) = go (subst (λ (y : Bounded). IsOn corners y.tri q) (sym is) on)
      where
        go : IsOn corners t q → IsNearPart x.bound (part_with corners given) q
        go h = record {
          point = q;
          on = (record { number = place; tri = t; a = h.placed.a; b = h.placed.b; c = h.placed.c; listed = at; at_a = h.placed.at_a; at_b = h.placed.at_b; at_c = h.placed.at_c }, h.on_face);
          near = near-itself x.bound q;
        }

-- ---- one flip
-- the two triangles that stand there after it
abbrev first_new : {corners : List Corner} {most : ℕ} {old new : List Bounded} → IsFlip corners most old new → Bounded
first_new x = record { tri = first_of x.a x.b x.c x.d; bound = x.bound }

abbrev second_new : {corners : List Corner} {most : ℕ} {old new : List Bounded} → IsFlip corners most old new → Bounded
second_new x = record { tri = second_of x.a x.b x.c x.d; bound = x.bound }

module _ (corners : List Corner) (most : ℕ) (old new : List Bounded) (x : IsFlip corners most old new) where
  abbrev first : Bounded
  first = first_new x

  abbrev second : Bounded
  second = second_new x

  first_listed : slice_get new x.i ≡ Some first
  first_listed =
      ap (λ (s : List Bounded). slice_get s x.i) x.changed ∙ set_other (slice_set old x.i first) x.j x.i second x.different
      ∙ set_same old x.i x.sliver first x.at_sliver

  second_listed : slice_get new x.j ≡ Some second
  second_listed =
      ap (λ (s : List Bounded). slice_get s x.j) x.changed
      ∙ set_same (slice_set old x.i first) x.j x.neighbour second (set_other old x.i x.j first (λ e. x.different (sym e)) ∙ x.at_neighbour)

  others_stay : (place : ℕ) → (place ≡ x.i → ⊥) → (place ≡ x.j → ⊥) → slice_get new place ≡ slice_get old place
  others_stay place not_first not_second =
      ap (λ (s : List Bounded). slice_get s place) x.changed ∙ set_other (slice_set old x.i first) x.j place second not_second ∙ set_other old x.i place first not_first

  -- what stood at a place
  before : (place : ℕ) (y : Bounded) → slice_get old place ≡ Some y → (y ≡ x.sliver) ⊎ (y ≡ x.neighbour) ⊎ (slice_get new place ≡ Some y)
  before place y at = elim (eqb_tells place x.i) [
    | inl h ↦ inl (same_element old place x.i y x.sliver h.1 at x.at_sliver)
    | inr h ↦ elim (eqb_tells place x.j) [
      | inl k ↦ inr (inl (same_element old place x.j y x.neighbour k.1 at x.at_neighbour))
      | inr k ↦ inr (inr (others_stay place h.1 k.1 ∙ at))
    ]
  ]

  -- and what stands there now
  after : (place : ℕ) (y : Bounded) → slice_get new place ≡ Some y → (y ≡ first) ⊎ (y ≡ second) ⊎ (slice_get old place ≡ Some y)
  after place y at = elim (eqb_tells place x.i) [
    | inl h ↦ inl (same_element new place x.i y first h.1 at first_listed)
    | inr h ↦ elim (eqb_tells place x.j) [
      | inl k ↦ inr (inl (same_element new place x.j y second k.1 at second_listed))
      | inr k ↦ inr (inr (sym (others_stay place h.1 k.1) ∙ at))
    ]
  ]

  sliver_within : x.sliver.bound + x.rise ≤ x.bound
  sliver_within = greater x.sliver.bound x.neighbour.bound x.rise x.bound x.is_bound
    where
      greater : (m n k b : ℕ) → b ≡ max m n + k → m + k ≤ b
      greater m n k b e = omega arith

  neighbour_within : x.neighbour.bound + x.rise ≤ x.bound
  neighbour_within = greater x.sliver.bound x.neighbour.bound x.rise x.bound x.is_bound
    where
      greater : (m n k b : ℕ) → b ≡ max m n + k → n + k ≤ b
      greater m n k b e = omega arith

  -- from a point of an old triangle to one of a new
  onward : (p q : Point) (n : ℕ) → IsPoint p → IsPoint q → AreNear n p q → n + x.rise ≤ x.bound
      → IsNearTriangle corners x.rise first.tri q ⊎ IsNearTriangle corners x.rise second.tri q → IsNearOne corners new p
  onward p q n at_p at_q near within (inl (t, on, step)) = record {
    place = x.i;
    bounded = first;
    at = first_listed;
    point = t;
    on = on;
    near = near-wider p t at_p (on_positive corners first.tri t on) (n + x.rise) x.bound within (near-through n x.rise p q t at_p at_q (on_positive corners first.tri t on) near step);
  }
  onward p q n at_p at_q near within (inr (t, on, step)) = record {
    place = x.j;
    bounded = second;
    at = second_listed;
    point = t;
    on = on;
    near = near-wider p t at_p (on_positive corners second.tri t on) (n + x.rise) x.bound within (near-through n x.rise p q t at_p at_q (on_positive corners second.tri t on) near step);
  }

  one_there : (p : Point) → IsPoint p → IsNearOne corners old p → IsNearOne corners new p
  one_there p at_p r = go (before r.place r.bounded r.at)
    where
      positive : IsPoint r.point
      positive = on_positive corners r.bounded.tri r.point r.on

      go : (r.bounded ≡ x.sliver) ⊎ (r.bounded ≡ x.neighbour) ⊎ (slice_get new r.place ≡ Some r.bounded) → IsNearOne corners new p
      go (inl e) =
          onward p r.point x.sliver.bound at_p positive (subst (λ (y : Bounded). AreNear y.bound p r.point) e r.near) sliver_within
          (sliver_near corners most old new x r.point (subst (λ (y : Bounded). IsOn corners y.tri r.point) e r.on))
      go (inr (inl e)) =
          onward p r.point x.neighbour.bound at_p positive (subst (λ (y : Bounded). AreNear y.bound p r.point) e r.near) neighbour_within
          (neighbour_near corners most old new x r.point (subst (λ (y : Bounded). IsOn corners y.tri r.point) e r.on))
      go (inr (inr e)) = record { place = r.place; bounded = r.bounded; at = e; point = r.point; on = r.on; near = r.near }

  module _ (given : Part) (bounds : AreBounds corners given old) where
    -- from a point of a new triangle to one of the neighbour
    backward : (q : Point) → IsPoint q → IsNearTriangle corners x.rise x.neighbour.tri q → IsNearPart x.bound given q
    backward q at_q (t, on, step) = go (bounds.back x.j x.neighbour x.at_neighbour t on)
      where
        exchanged : (m n k : ℕ) → m + n ≤ k → n + m ≤ k
        exchanged m n k h = omega arith

        go : IsNearPart x.neighbour.bound given t → IsNearPart x.bound given q
        go r =
            let positive = surface_positive given r.point r.on in
            record {
              point = r.point;
              on = r.on;
              near = near-wider q r.point at_q positive (x.rise + x.neighbour.bound) x.bound (exchanged x.neighbour.bound x.rise x.bound neighbour_within)
                  (near-through x.rise x.neighbour.bound q t r.point at_q (on_positive corners x.neighbour.tri t on) positive step r.near);
            }

    one_back : (place : ℕ) (y : Bounded) → slice_get new place ≡ Some y → (q : Point) → IsOn corners y.tri q → IsNearPart y.bound given q
    one_back place y at q on = go (after place y at)
      where
        go : (y ≡ first) ⊎ (y ≡ second) ⊎ (slice_get old place ≡ Some y) → IsNearPart y.bound given q
        go (inl e) =
            subst (λ (z : Bounded). IsNearPart z.bound given q) (sym e)
            (backward q (on_positive corners y.tri q on) (first_near corners most old new x q (subst (λ (z : Bounded). IsOn corners z.tri q) e on)))
        go (inr (inl e)) =
            subst (λ (z : Bounded). IsNearPart z.bound given q) (sym e)
            (backward q (on_positive corners y.tri q on) (second_near corners most old new x q (subst (λ (z : Bounded). IsOn corners z.tri q) e on)))
        go (inr (inr e)) = bounds.back place y e q on

    one_more : AreBounds corners given new
    one_more = record {
      there = λ p on. one_there p (surface_positive given p on) (bounds.there p on);
      back = one_back;
    }

-- ---- any number of flips
bounds_after : (corners : List Corner) (most n : ℕ) (given : Part) (s t : List Bounded) → AreFlips corners most n s t → AreBounds corners given s → AreBounds corners given t
bounds_after corners most _ given _ _ (none s) bounds = bounds
bounds_after corners most _ given _ _ (more n s t u flips flip) bounds = one_more corners most t u flip given (bounds_after corners most n given s t flips bounds)

-- each point of the surface after flips is near one before them, and the other way about, by the greatest bound
pub flips_near : (corners : List Corner) (most n k : ℕ) (given : List Tri) (last : List Bounded) → AreFlips corners most n (map unmoved given) last → IsGreatestBound last k
    → AreNearSurfaces k (part_with corners given) (part_with corners (map (λ x. x.tri) last))
flips_near corners most n k given last flips greatest = record {
  there = λ p on. to_last p (surface_positive (part_with corners given) p on) (bounds.there p on);
  back = λ q on. to_given q on (map_place_back (λ (x : Bounded). x.tri) last on.0.number on.0.tri on.0.listed);
}
  where
    bounds : AreBounds corners (part_with corners given) last
    bounds = bounds_after corners most n (part_with corners given) (map unmoved given) last flips (at_first corners given)

    most_bound : (place : ℕ) (x : Bounded) → slice_get last place ≡ Some x → x.bound ≤ k
    most_bound place x at = greatest.0 x (Contains-place last place x at)

    to_last : (p : Point) → IsPoint p → IsNearOne corners last p → (q : Point) × IsOnSurface (part_with corners (map (λ x. x.tri) last)) q × AreNear k p q
    to_last p at_p r = (
      r.point,
      (
        record {
          number = r.place;
          tri = r.bounded.tri;
          a = r.on.placed.a;
          b = r.on.placed.b;
          c = r.on.placed.c;
          listed = map_place (λ (x : Bounded). x.tri) last r.place r.bounded r.at;
          at_a = r.on.placed.at_a;
          at_b = r.on.placed.at_b;
          at_c = r.on.placed.at_c;
        },
        r.on.on_face,
      ),
      near-wider p r.point at_p (on_positive corners r.bounded.tri r.point r.on) r.bounded.bound k (most_bound r.place r.bounded r.at) r.near,
    )

    to_given : (q : Point) (on : IsOnSurface (part_with corners (map (λ x. x.tri) last)) q) → (x : Bounded) × (slice_get last on.0.number ≡ Some x) × (x.tri ≡ on.0.tri)
        → (p : Point) × IsOnSurface (part_with corners given) p × AreNear k q p
    to_given q (f, face) (x, at, is) = go (bounds.back f.number x at q (subst (λ (t : Tri). IsOn corners t q) (sym is) here))
      where
        here : IsOn corners f.tri q
        here = record { placed = record { a = f.a; b = f.b; c = f.c; at_a = f.at_a; at_b = f.at_b; at_c = f.at_c }; on_face = face }

        go : IsNearPart x.bound (part_with corners given) q → (p : Point) × IsOnSurface (part_with corners given) p × AreNear k q p
        go r = (
          r.point,
          r.on,
          near-wider q r.point (point_positive f.a f.b f.c q face) (surface_positive (part_with corners given) r.point r.on) x.bound k (most_bound f.number x at) r.near,
        )

-- ---- what each flip keeps of all triangles
module _ (corners : List Corner) (most : ℕ) (P : Bounded → Type 0) where
  abbrev IsKept : Type 0
  IsKept = (old new : List Bounded) (x : IsFlip corners most old new) → P (first_new x) × P (second_new x)

  all_after : IsKept → (n : ℕ) (s t : List Bounded) → AreFlips corners most n s t → All P s → All P t
  all_after kept _ _ _ (none s) all = all
  all_after kept _ _ _ (more n s t u flips x) all =
      subst (λ (v : List Bounded). All P v) (sym x.changed)
      (All-set P (slice_set t x.i (first_new x)) x.j (second_new x) (kept t u x).1
      (All-set P t x.i (first_new x) (kept t u x).0 (all_after kept n s t flips all)))

-- the greatest bound is within what flips may reach
pub flips_within : (corners : List Corner) (most n k : ℕ) (given : List Tri) (last : List Bounded) → AreFlips corners most n (map unmoved given) last → IsGreatestBound last k → k ≤ most
flips_within corners most n k given last flips greatest = by_bound greatest.1
  where
    all : All (λ (x : Bounded). x.bound ≤ most) last
    all = all_after corners most (λ (x : Bounded). x.bound ≤ most) (λ old new x. (x.within, x.within)) n (map unmoved given) last flips (All-map (λ (x : Bounded). x.bound ≤ most) unmoved given (λ k d h. omega arith))

    by_bound : (k ≡ 0) ⊎ ((x : Bounded) × Contains last x × (x.bound ≡ k)) → k ≤ most
    by_bound (inl e) = omega arith
    by_bound (inr (x, listed, e)) = let within = All-contains (λ (y : Bounded). y.bound ≤ most) last x all listed in subst (λ (m : ℕ). m ≤ most) e within

-- there are as many triangles
pub flips_count : (corners : List Corner) (most n : ℕ) (first last : List Bounded) → AreFlips corners most n first last → length last ≡ length first
flips_count corners most _ _ _ (none s) = refl
flips_count corners most _ _ _ (more n s t u flips x) =
    ap length x.changed
    ∙ length-set (slice_set t x.i (first_new x)) x.j (second_new x)
    ∙ length-set t x.i (first_new x) ∙ flips_count corners most n s t flips

-- corner numbers stay in range
pub flips_in_range : (corners : List Corner) (most n : ℕ) (first last : List Bounded) → AreFlips corners most n first last
    → All (λ (x : Bounded). IsBelow (length corners) x.tri) first → All (λ (x : Bounded). IsBelow (length corners) x.tri) last
flips_in_range corners most n first last =
    all_after corners most (λ (x : Bounded). IsBelow (length corners) x.tri)
    (λ old new x. (below (first_of x.a x.b x.c x.d) (first_placed corners most old new x), below (second_of x.a x.b x.c x.d) (second_placed corners most old new x))) n first last
  where
    below : (t : Tri) → Placed corners t → IsBelow (length corners) t
    below t h = record {
      a = slice_get_within corners t.a h.a h.at_a;
      b = slice_get_within corners t.b h.b h.at_b;
      c = slice_get_within corners t.c h.c h.at_c;
    }
