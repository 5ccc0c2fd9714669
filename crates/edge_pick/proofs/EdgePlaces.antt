-- Drawn edges by their places: the corners that are handed to the search, and which edges lead to one another.
use Rattle.std.proofs.Common.{◌≡◌, ℕ, ◌<◌, ◌≤◌, ◌⊎◌, inl, inr, Bool, true, false, List, [], ◌∷◌, ◌++◌, Contains, Some, length, get_or, slice_get, refl, sym, subst, ap, ◌∙◌, arith, length-append}
use Rattle.std.specs.List.Sorted.{IsStrictlyIncreasing}
use Rattle.std.proofs.Math.ListN.{get_or-append}
use Rattle.std.proofs.Math.Seq.{get_or-append_seam}
use Rattle.std.proofs.lemmas.Bool.{cases_lt}
use Rattle.std.proofs.lemmas.List.Kept.{AllPairs-from_increasing}
use Rattle.std.proofs.lemmas.Option.{slice_get-get_or, slice_get_within, get_or_from_slice_get, same_Some}
use Rattle.integers.proofs.Lists.{some_element}
use Rattle.geometry.specs.Parts.{Part, Edge, IsNumbered}
use Rattle.geometry.specs.Runs.{ShareACorner, Leads, start, step}
use Rattle.geometry.proofs.Listed.{same_element}
use Rattle.solid_mesh.specs.declared.solid.Edge as given
use Rattle.solid_mesh.specs.Solids.{HasNumbers}
use Rattle.edge_pick.specs.declared.order.EdgeCorners.{EdgeCorners}
use Rattle.edge_pick.specs.Orders.{no_corners, corner_at, Meet, Reaches, begin, further}
use Rattle.edge_pick.specs.inner.Numberings.{AreCornersOf, HasEdge}

-- ---- the corners of drawn edges
-- one edge more
pub corners_more : (s : Part) (halves drawn : List ℕ) (edges : List EdgeCorners) (i : ℕ) (g : given.Edge) → AreCornersOf s halves drawn edges → slice_get drawn (length edges) ≡ Some i
    → ((e : Edge s) → IsNumbered halves i e → HasNumbers e g) → AreCornersOf s halves drawn (edges ++ record { a = g.a; b = g.b } ∷ [])
corners_more s halves drawn edges i g h at numbers = record { right = λ place j e below is numbered. right place j e (cases_lt place (length edges)) below is numbered }
  where
    right : (place j : ℕ) (e : Edge s) → (place < length edges) ⊎ (length edges ≤ place) → place < length (edges ++ record { a = g.a; b = g.b } ∷ []) → slice_get drawn place ≡ Some j → IsNumbered halves j e
        → (e.m ≡ corner_at (edges ++ record { a = g.a; b = g.b } ∷ []) place false) × (e.n ≡ corner_at (edges ++ record { a = g.a; b = g.b } ∷ []) place true)
    right place j e (inl l) below is numbered =
        let front : get_or (edges ++ record { a = g.a; b = g.b } ∷ []) place no_corners ≡ get_or edges place no_corners = get_or-append edges (record { a = g.a; b = g.b } ∷ []) no_corners place l in
        let r = h.right place j e l is numbered in
        (r.0 ∙ sym (ap (λ (c : EdgeCorners). c.a) front), r.1 ∙ sym (ap (λ (c : EdgeCorners). c.b) front))
    right place j e (inr l) below is numbered =
        let here : length edges ≡ place = omega (arith, below, length-append edges (record { a = g.a; b = g.b } ∷ [])) in
        let same : i ≡ j = same_Some i j (sym at ∙ subst (λ (k : ℕ). slice_get drawn k ≡ Some j) (sym here) is) in
        let r = numbers e (subst (λ (k : ℕ). IsNumbered halves k e) (sym same) numbered) in
        let last : get_or (edges ++ record { a = g.a; b = g.b } ∷ []) place no_corners ≡ record { a = g.a; b = g.b } =
        ap (λ (k : ℕ). get_or (edges ++ record { a = g.a; b = g.b } ∷ []) k no_corners) (sym here) ∙ get_or-append_seam edges (record { a = g.a; b = g.b }) [] no_corners in
        (r.a ∙ sym (ap (λ (c : EdgeCorners). c.a) last), r.b ∙ sym (ap (λ (c : EdgeCorners). c.b) last))

pub corners_none : (s : Part) (halves drawn : List ℕ) (edges : List EdgeCorners) → edges ≡ [] → AreCornersOf s halves drawn edges
corners_none s halves drawn edges empty = record { right = λ place i e below is numbered. absurd (omega (arith, below, ap (λ (xs : List EdgeCorners). length xs) empty)) }

-- ---- which edges lead to one another
-- a number of a rising list is at one place
one_place : (xs : List ℕ) → IsStrictlyIncreasing xs → (k l i : ℕ) → slice_get xs k ≡ Some i → slice_get xs l ≡ Some i → k ≡ l
one_place xs up k l i p q = by (cases_lt k l) (cases_lt l k)
  where
    far : (k l : ℕ) → slice_get xs k ≡ Some i → slice_get xs l ≡ Some i → k < l → ⊥
    far k l p q less =
        let m = AllPairs-from_increasing xs up k l 0 less (slice_get_within xs l i q) in
        omega (arith, m, get_or_from_slice_get xs k i 0 p, get_or_from_slice_get xs l i 0 q)

    by : (k < l) ⊎ (l ≤ k) → (l < k) ⊎ (k ≤ l) → k ≡ l
    by (inl m) h = absurd (far k l p q m)
    by (inr m) (inl h) = absurd (far l k q p h)
    by (inr m) (inr h) = omega arith

meet_back : (edges : List EdgeCorners) (i j : ℕ) → Meet edges i j → Meet edges j i
meet_back edges i j m = record { at_b = m.other_at_b; other_at_b = m.at_b; same = sym m.same }

pub reaches_on : (edges : List EdgeCorners) (i j k : ℕ) → Reaches edges i j → Reaches edges j k → Reaches edges i k
reaches_on edges i j k g (begin _) = g
reaches_on edges i j k g (further _ l _ h inside meet) = further i l k (reaches_on edges i j l g h) inside meet

pub reaches_back : (edges : List EdgeCorners) (i j : ℕ) → i < length edges → Reaches edges i j → Reaches edges j i
reaches_back edges i j within (begin _) = begin i
reaches_back edges i j within (further _ l _ g inside meet) =
    reaches_on edges j l i (further j j l (begin j) (reached_inside i l within g) (meet_back edges l j meet)) (reaches_back edges i l within g)
  where
    reached_inside : (i l : ℕ) → i < length edges → Reaches edges i l → l < length edges
    reached_inside i l within (begin _) = within
    reached_inside i l within (further _ _ _ _ inside _) = inside

module _ (s : Part) (halves drawn : List ℕ) (edges : List EdgeCorners) (long : length edges ≡ length drawn) (corners : AreCornersOf s halves drawn edges) where
  -- the number of the corner at an end
  abbrev pub end_of : Edge s → Bool → ℕ
  end_of e false = e.m
  end_of e true = e.n

  pub number_is : (place i : ℕ) (e : Edge s) (at_b : Bool) → slice_get drawn place ≡ Some i → IsNumbered halves i e → end_of e at_b ≡ corner_at edges place at_b
  number_is place i e at_b at numbered = by at_b
    where
      below : place < length edges
      below = omega (arith, slice_get_within drawn place i at, long)

      by : (at_b : Bool) → end_of e at_b ≡ corner_at edges place at_b
      by false = let r = corners.right place i e below at numbered in r.0
      by true = let r = corners.right place i e below at numbered in r.1

  meet_of : (k l i j : ℕ) → slice_get drawn k ≡ Some i → slice_get drawn l ≡ Some j → ShareACorner s halves i j → Meet edges k l
  meet_of k l i j at_i at_j share = by share.corner
    where
      meet : (p q : Bool) → end_of share.first p ≡ end_of share.second q → Meet edges k l
      meet p q e = record { at_b = p; other_at_b = q; same = sym (number_is k i share.first p at_i share.at_first) ∙ e ∙ number_is l j share.second q at_j share.at_second }

      by : (share.first.m ≡ share.second.m) ⊎ (share.first.m ≡ share.second.n) ⊎ (share.first.n ≡ share.second.m) ⊎ (share.first.n ≡ share.second.n) → Meet edges k l
      by (inl e) = meet false false e
      by (inr (inl e)) = meet false true e
      by (inr (inr (inl e))) = meet true false e
      by (inr (inr (inr e))) = meet true true e

  leads_drawn : (i j : ℕ) → Leads s halves drawn i j → Contains drawn j
  leads_drawn i j (start _ c) = c
  leads_drawn i j (step _ o _ g c share) = c

  pub reaches_of : IsStrictlyIncreasing drawn → (i j : ℕ) → Leads s halves drawn i j → (k l : ℕ) → slice_get drawn k ≡ Some i → slice_get drawn l ≡ Some j → Reaches edges k l
  reaches_of rising i j (start _ c) k l at_i at_j = subst (Reaches edges k) (one_place drawn rising k l i at_i at_j) (begin k)
  reaches_of rising i j (step _ o _ g c share) k l at_i at_j =
      let (q, within, is) = leads_drawn i o g in
      let at_o : slice_get drawn q ≡ Some o = slice_get-get_or drawn q o within ∙ ap (λ (n : ℕ). Some n) is in
      further k q l (reaches_of rising i o g k q at_i at_o) (omega (arith, slice_get_within drawn l j at_j, long)) (meet_of q l o j at_o at_j share)

  -- ---- and back, where each drawn number is that of an edge
  module _ (edge_at : (k i : ℕ) → slice_get drawn k ≡ Some i → HasEdge s halves i) where
    shares : (k l i j : ℕ) → slice_get drawn k ≡ Some i → slice_get drawn l ≡ Some j → Meet edges k l → ShareACorner s halves i j
    shares k l i j at_i at_j meet = record { first = first.edge; second = second.edge; at_first = first.numbered; at_second = second.numbered; corner = by meet.at_b meet.other_at_b meet.same }
      where
        first : HasEdge s halves i
        first = edge_at k i at_i

        second : HasEdge s halves j
        second = edge_at l j at_j

        same : (p q : Bool) → corner_at edges k p ≡ corner_at edges l q → end_of first.edge p ≡ end_of second.edge q
        same p q e = number_is k i first.edge p at_i first.numbered ∙ e ∙ sym (number_is l j second.edge q at_j second.numbered)

        by : (p q : Bool) → corner_at edges k p ≡ corner_at edges l q
            → (first.edge.m ≡ second.edge.m) ⊎ (first.edge.m ≡ second.edge.n) ⊎ (first.edge.n ≡ second.edge.m) ⊎ (first.edge.n ≡ second.edge.n)
        by false false e = inl (same false false e)
        by false true e = inr (inl (same false true e))
        by true false e = inr (inr (inl (same true false e)))
        by true true e = inr (inr (inr (same true true e)))

    listed : (k i : ℕ) → slice_get drawn k ≡ Some i → Contains drawn i
    listed k i at = (k, slice_get_within drawn k i at, get_or_from_slice_get drawn k i i at)

    reached_in : (k l : ℕ) → k < length edges → Reaches edges k l → l < length edges
    reached_in k l within (begin _) = within
    reached_in k l within (further _ _ _ _ inside _) = inside

    pub leads_of : (k l : ℕ) → Reaches edges k l → (i j : ℕ) → slice_get drawn k ≡ Some i → slice_get drawn l ≡ Some j → Leads s halves drawn i j
    leads_of k l (begin _) i j at_i at_j = subst (Leads s halves drawn i) (same_element drawn k k i j refl at_i at_j) (start i (listed k i at_i))
    leads_of k l (further _ q _ g inside meet) i j at_i at_j =
        let within = reached_in k q (omega (arith, slice_get_within drawn k i at_i, long)) g in
        let (o, at_o) = some_element drawn q (omega (arith, within, long)) in
        step i o j (leads_of k q g i o at_i at_o) (listed l j at_j) (shares q l o j at_o at_j meet)
