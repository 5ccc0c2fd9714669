-- The pairs of an edge, and of the edges up to one, that a search has gone over.
use Rattle.std.proofs.Common.{◌≡◌, ℕ, ◌+◌, ◌<◌, ◌≤◌, ◌⊎◌, inl, inr, true, false, List, Option, Some, None, length, slice_get, refl, sym, subst, ap, ◌∙◌, arith}
use Rattle.std.specs.Prelude.{IfSome}
use Rattle.std.specs.Option.{is_some}
use Rattle.std.proofs.lemmas.Bool.{cases_lt, true≢false}
use Rattle.std.proofs.lemmas.Option.{slice_get_within}
use Rattle.geometry.specs.Parts.{Part}
use Rattle.geometry.proofs.Listed.{same_element}
use Rattle.solid_mesh.specs.inner.Bounds.{BoundsMeet}
use Rattle.solid_mesh.specs.inner.Trees.{IsPlaced, AreAllPlaced, IsSubtree}
use Rattle.solid_mesh.specs.inner.Searches.{AtHalf, IsReachOf, IsApart, ComesBefore, IsPair, IsOfPlaces, IsOfEdge, Searched}
use Rattle.solid_mesh.specs.Meetings.{HaveCommonX, HaveCommonBox, MeetApart}
use Rattle.solid_mesh.specs.declared.placed.Placed.{Placed}
use Rattle.solid_mesh.specs.declared.subtrees.Subtree.{Subtree}
use Rattle.solid_mesh.specs.declared.search.Meeting.{Meeting}
use Rattle.solid_mesh.specs.declared.search.Reach.{Reach}
use Rattle.solid_mesh.specs.declared.search.SearchResult.{SearchResult}
use Rattle.solid_mesh.proofs.BoundLemmas.{bounds_of_apart, meet_around}
use Rattle.solid_mesh.proofs.CornerLemmas.{apart_by_bounds}
use Rattle.solid_mesh.proofs.Placing.{places_differ, place_there}
use Rattle.solid_mesh.proofs.Searching.{searched-apart, searched-as, searched-then, rises-as}

module _ (s : Part) (halves : List ℕ) where
  -- ---- an edge and the triangles at some places
  module _ (edge : ℕ) (placed : List Placed) where
    abbrev At : ℕ → ℕ → (ℕ × ℕ) → Type 0
    At first end p = IsOfPlaces s halves edge placed first end p

    pub places_none : (n : ℕ) (x : SearchResult) → Searched s halves (At n n) x x
    places_none n x = searched-apart s halves (At n n) (λ p (j, y, low, high, at, pair) meets. omega (arith, low, high)) x

    pub places_one : (k : ℕ) (x : Placed) → slice_get placed k ≡ Some x → (old new : SearchResult) → Searched s halves (IsPair s halves edge x.tri) old new → Searched s halves (At k (k + 1)) old new
    places_one k x at old new h =
        searched-as s halves (IsPair s halves edge x.tri) (At k (k + 1))
        (λ p pair. (k, x, omega arith, omega arith, at, pair))
        (λ p (j, y, low, high, there, pair). subst (λ (z : Placed). IsPair s halves edge z.tri p) (same_element placed j k y x (omega (arith, low, high)) there at) pair)
        old new h

    -- a subtree of which no triangle meets the edge
    pub places_apart : (k : ℕ) (t : Subtree) → ((j : ℕ) (x : Placed) → t.first ≤ j → j ≤ k → slice_get placed j ≡ Some x → AtHalf (MeetApart s) halves (edge, x.tri) → ⊥)
        → (x : SearchResult) → Searched s halves (At t.first (k + 1)) x x
    places_apart k t apart x =
        searched-apart s halves (At t.first (k + 1))
        (λ p (j, y, low, high, at, pair) meets. apart j y low (omega (arith, high)) at (subst (λ (q : ℕ × ℕ). AtHalf (MeetApart s) halves q) pair.0 meets)) x

    module _ (reach : Reach) (of_edge : IsReachOf s halves edge reach) (each : (x : Placed) (k : ℕ) → slice_get placed k ≡ Some x → IsPlaced s x) (k : ℕ) (t : Subtree) (subtree : IsSubtree placed k t) where
      -- one that the edge's bounds miss
      pub places_missed : (BoundsMeet t.around reach.bounds → ⊥) → (x : SearchResult) → Searched s halves (At t.first (k + 1)) x x
      places_missed miss = places_apart k t
          (λ j y low high at meets. miss (meet_around y.bounds t.around reach.bounds (subtree.around j y low high at) (bounds_of_apart s halves edge reach of_edge y (each y j at) meets)))

      -- one from which bounds tell that the edge is apart
      pub places_beside : (own : Placed) → slice_get placed k ≡ Some own → IsApart reach t.around t.corner own.at t.rim → (x : SearchResult) → Searched s halves (At t.first (k + 1)) x x
      places_beside own here apart = places_apart k t
          (λ j y low high at meets.
          apart_by_bounds s halves edge reach of_edge y (each y j at) t.around (subtree.around j y low high at) t.corner own.at
          (λ n common.
          let is : y.corner ≡ n = subtree.corner n common j y low high at in
          let own_is : own.corner ≡ n = subtree.corner n common k own subtree.first (omega arith) here in
          (is, same_element s.corners y.corner own.corner y.at own.at (is ∙ sym own_is) ((each y j at).at) ((each own k here).at)))
          t.rim (subtree.rim j y low high at) apart meets)

    pub places_more : AreAllPlaced s placed → (low middle high : ℕ) → low ≤ middle → middle ≤ high
        → (x y z : SearchResult) → Searched s halves (At middle high) x y → Searched s halves (At low middle) y z → Searched s halves (At low high) x z
    places_more all low middle high before after x y z =
        searched-then s halves (At middle high) (At low middle) (At low high)
        (λ p (j, a, from_j, to_j, at_j, pair) (k, b, from_k, to_k, at_k, other). places_differ s placed all k j b a (omega (arith, to_k, from_j)) at_k at_j (ap (λ (q : ℕ × ℕ). q.1) (sym other.0 ∙ pair.0)))
        (λ p (j, a, from_j, to_j, at_j, pair). (j, a, omega (arith, from_j, before), to_j, at_j, pair))
        (λ p (j, a, from_j, to_j, at_j, pair). (j, a, from_j, omega (arith, to_j, after), at_j, pair))
        either x y z
      where
        either : (p : ℕ × ℕ) → At low high p → At middle high p ⊎ At low middle p
        either p (j, a, from_j, to_j, at_j, pair) = elim (cases_lt j middle) [
          | inl less ↦ inr (j, a, from_j, less, at_j, pair)
          | inr more ↦ inl (j, a, more, to_j, at_j, pair)
        ]

    -- all places: the whole edge
    pub places_all : AreAllPlaced s placed → (n : ℕ) → n ≡ length placed → (x y : SearchResult) → Searched s halves (At 0 n) x y → Searched s halves (IsOfEdge s halves edge) x y
    places_all all n whole x y h = searched-as s halves (At 0 n) (IsOfEdge s halves edge) to back x y h
      where
        to : (p : ℕ × ℕ) → At 0 n p → IsOfEdge s halves edge p
        to p (j, a, from_j, to_j, at_j, pair) = (ap (λ (q : ℕ × ℕ). q.0) pair.0, pair.1)

        back : (p : ℕ × ℕ) → IsOfEdge s halves edge p → At 0 n p
        back p (here, (half, at, common)) =
            let within : p.1 < length s.triangles = subst (λ (k : ℕ). k < length s.triangles) common.numbered (slice_get_within s.triangles common.face.number common.face.tri common.face.listed) in
            let (k, a, there, number) = place_there s placed all p.1 within in
            let below : k < length placed = slice_get_within placed k a there in
            (k, a, omega arith, omega (arith, below, whole), there, ((λ i. (here i, sym number i)), (half, at, common)))

  -- ---- the edges below one
  abbrev Common : (ℕ × ℕ) → Type 0
  Common p = AtHalf (HaveCommonX s) halves p

  abbrev pub IsBelowEdge : ℕ → (ℕ × ℕ) → Type 0
  IsBelowEdge n p = (p.0 < n) × AtHalf (HaveCommonX s) halves p

  pub edges_none : (x : SearchResult) → Searched s halves (IsBelowEdge 0) x x
  edges_none x = searched-apart s halves (IsBelowEdge 0) (λ p (less, common) meets. omega (arith, less)) x

  pub edges_more : (n : ℕ) (x y z : SearchResult) → Searched s halves (IsBelowEdge n) x y → Searched s halves (IsOfEdge s halves n) y z → Searched s halves (IsBelowEdge (n + 1)) x z
  edges_more n x y z =
      searched-then s halves (IsBelowEdge n) (IsOfEdge s halves n) (IsBelowEdge (n + 1))
      (λ p (less, common) (here, other). omega (arith, less, here))
      (λ p (less, common). (omega (arith, less), common))
      (λ p (here, common). (omega (arith, here), common))
      (λ p (less, common). elim (cases_lt p.0 n) [ inl below ↦ inl (below, common) | inr above ↦ inr (omega (arith, less, above), common) ]) x y z

  pub edges_all : (n : ℕ) → n ≡ length halves → (x y : SearchResult) → Searched s halves (IsBelowEdge n) x y → Searched s halves Common x y
  edges_all n whole x y h = searched-as s halves (IsBelowEdge n) Common
      (λ p (less, common). common)
      (λ p (half, at, common). (omega (arith, whole, slice_get_within halves p.0 half at), (half, at, common))) x y h

  -- no later edge is before the one that was found
  pub edges_stopped : (n : ℕ) (x y : SearchResult) (m : Meeting) → y.first ≡ Some m → m.edge ≡ n → Searched s halves (IsBelowEdge (n + 1)) x y → Searched s halves Common x y
  edges_stopped n x y m is here h = record {
    boxes = rises-as (IsBelowEdge (n + 1)) Common (λ p q. q.1) _ _ h.boxes;
    pairs = rises-as (λ p. IsBelowEdge (n + 1) p × AtHalf (HaveCommonBox s) halves p) (λ p. Common p × AtHalf (HaveCommonBox s) halves p) (λ p (q, box). (q.1, box)) _ _ h.pairs;
    down = h.down;
    least = λ p common meets before. by p common meets before (cases_lt p.0 (n + 1));
    right = h.right;
  }
    where
      later : (p : ℕ × ℕ) → n + 1 ≤ p.0 → ((p.0 < m.edge) ⊎ ((p.0 ≡ m.edge) × (p.1 < m.tri))) → ⊥
      later p above (inl less) = omega (arith, above, less, here)
      later p above (inr (same, less)) = omega (arith, above, same, here)

      by : (p : ℕ × ℕ) → Common p → AtHalf (MeetApart s) halves p → ComesBefore p.0 p.1 y.first → ((p.0 < n + 1) ⊎ (n + 1 ≤ p.0)) → ⊥
      by p common meets before (inl less) = h.least p (less, common) meets before
      by p common meets before (inr above) = later p above (subst (ComesBefore p.0 p.1) is before)

  pub edges_found : (n : ℕ) (x y : SearchResult) → is_some y.first ≡ true → IfSome y.first (λ m. m.edge ≡ n) → Searched s halves (IsBelowEdge (n + 1)) x y → Searched s halves Common x y
  edges_found n x y some here h = by y.first refl
    where
      by : (first : Option Meeting) → y.first ≡ first → Searched s halves Common x y
      by None e = absurd (true≢false (sym some ∙ ap is_some e))
      by (Some m) e = edges_stopped n x y m e (subst (λ (first : Option Meeting). IfSome first (λ m. m.edge ≡ n)) e here) h

pub none_found : (first : Option Meeting) → is_some first ≡ false → first ≡ None
none_found None e = refl
none_found (Some m) e = absurd (true≢false e)
