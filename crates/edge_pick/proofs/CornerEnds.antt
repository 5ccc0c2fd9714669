-- The ends at each corner, edge by edge.
use Rattle.std.proofs.Common.{◌≡◌, ℕ, ◌+◌, ◌<◌, ◌≤◌, ◌⊎◌, inl, inr, Bool, true, false, List, [], ◌∷◌, ◌++◌, All, Contains, length, get_or, set, sym, subst, ap, ◌∙◌, arith}
use Rattle.std.proofs.Math.ListN.{length-set}
use Rattle.std.proofs.lemmas.Bool.{cases_eq, cases_lt}
use Rattle.std.proofs.lemmas.List.{length-map, get_or-set_same, get_or-set_other}
use Rattle.std.proofs.lemmas.List.Elements.{Contains-append_left, Contains-push, Contains-push_cases}
use Rattle.smallvec.specs.SmallVec.{SmallVec}
use Rattle.edge_pick.specs.declared.order.EdgeCorners.{EdgeCorners}
use Rattle.edge_pick.specs.declared.order.DrawnEnd.{DrawnEnd}
use Rattle.edge_pick.specs.Orders.{no_corners, corner_at, corner_of}
use Rattle.edge_pick.specs.inner.Searches.{AreBelow, AreEndsAt, lists_of}

abbrev pub end_at : ℕ → Bool → DrawnEnd
end_at place at_b = record { place = place; at_b = at_b }

pub long_lists : (lists : List (SmallVec DrawnEnd)) → length (lists_of lists) ≡ length lists
long_lists lists = length-map lists (λ (ends : SmallVec DrawnEnd). ends.items)

pub within_room : (edges : List EdgeCorners) (count place : ℕ) (at_b : Bool) → All (AreBelow count) edges → place < length edges → corner_at edges place at_b < count
within_room edges count place false room within = let l = room place no_corners within in l.0
within_room edges count place true room within = let l = room place no_corners within in l.1

pub room_at : (edges : List EdgeCorners) (count : ℕ) (lists : List (List DrawnEnd)) → AreEndsAt edges count lists → (place : ℕ) (at_b : Bool) → place < length edges → corner_at edges place at_b < length lists
room_at edges count lists h place at_b within = within_room edges (length lists) place at_b h.room within

-- the ends at each corner are those before, and one more at the corner c
pub record Adds (c : ℕ) (x : DrawnEnd) (old new : List (List DrawnEnd)) : Type 0 where
  pub long : length new ≡ length old
  pub kept : (m : ℕ) (y : DrawnEnd) → Contains (get_or old m []) y → Contains (get_or new m []) y
  pub added : Contains (get_or new c []) x
  pub right : (m : ℕ) (y : DrawnEnd) → Contains (get_or new m []) y → Contains (get_or old m []) y ⊎ ((c ≡ m) × (x ≡ y))

pub adds : (c : ℕ) (x : DrawnEnd) (old new : List (List DrawnEnd)) → c < length old → new ≡ set old c (get_or old c [] ++ x ∷ []) → Adds c x old new
adds c x old new within e = record {
  long = ap (λ (xs : List (List DrawnEnd)). length xs) e ∙ length-set old c (get_or old c [] ++ x ∷ []);
  kept = λ m y h. kept m y h (cases_eq m c);
  added = subst (λ (xs : List DrawnEnd). Contains xs x) (sym here) (Contains-push (get_or old c []) x);
  right = λ m y h. right m y h (cases_eq m c);
}
  where
    here : get_or new c [] ≡ get_or old c [] ++ x ∷ []
    here = ap (λ (xs : List (List DrawnEnd)). get_or xs c []) e ∙ get_or-set_same old c (get_or old c [] ++ x ∷ []) [] within

    elsewhere : (m : ℕ) → (m ≡ c → ⊥) → get_or new m [] ≡ get_or old m []
    elsewhere m apart = ap (λ (xs : List (List DrawnEnd)). get_or xs m []) e ∙ get_or-set_other old c m (get_or old c [] ++ x ∷ []) [] apart

    kept : (m : ℕ) (y : DrawnEnd) → Contains (get_or old m []) y → (m ≡ c) ⊎ (m ≡ c → ⊥) → Contains (get_or new m []) y
    kept m y h (inl same) = subst (λ (k : ℕ). Contains (get_or new k []) y) (sym same)
        (subst (λ (xs : List DrawnEnd). Contains xs y) (sym here) (Contains-append_left (get_or old c []) (x ∷ []) y (subst (λ (k : ℕ). Contains (get_or old k []) y) same h)))
    kept m y h (inr apart) = subst (λ (xs : List DrawnEnd). Contains xs y) (sym (elsewhere m apart)) h

    right : (m : ℕ) (y : DrawnEnd) → Contains (get_or new m []) y → (m ≡ c) ⊎ (m ≡ c → ⊥) → Contains (get_or old m []) y ⊎ ((c ≡ m) × (x ≡ y))
    right m y h (inl same) = either (Contains-push_cases (get_or old c []) x y (subst (λ (xs : List DrawnEnd). Contains xs y) here (subst (λ (k : ℕ). Contains (get_or new k []) y) same h)))
      where
        either : Contains (get_or old c []) y ⊎ (x ≡ y) → Contains (get_or old m []) y ⊎ ((c ≡ m) × (x ≡ y))
        either (inl k) = inl (subst (λ (j : ℕ). Contains (get_or old j []) y) (sym same) k)
        either (inr k) = inr (sym same, k)
    right m y h (inr apart) = inl (subst (λ (xs : List DrawnEnd). Contains xs y) (elsewhere m apart) h)

pub ends_none : (edges : List EdgeCorners) (lists : List (List DrawnEnd)) (count : ℕ) → length lists ≡ count → All (AreBelow count) edges → ((corner : ℕ) → get_or lists corner [] ≡ []) → AreEndsAt edges 0 lists
ends_none edges lists count long below empty = record {
  room = subst (λ (n : ℕ). All (AreBelow n) edges) (sym long) below;
  right = λ corner end h. absurd (none end (subst (λ (xs : List DrawnEnd). Contains xs end) (empty corner) h));
  listed = λ end h. absurd (omega arith);
}
  where
    none : (end : DrawnEnd) → Contains [] end → ⊥
    none end (k, within, is) = omega (arith, within)

-- one edge more
pub ends_more : (edges : List EdgeCorners) (old mid new : List (List DrawnEnd)) (k : ℕ) → k < length edges → AreEndsAt edges k old
    → Adds (corner_at edges k false) (end_at k false) old mid → Adds (corner_at edges k true) (end_at k true) mid new → AreEndsAt edges (k + 1) new
ends_more edges old mid new k within h one two = record {
  room = subst (λ (n : ℕ). All (AreBelow n) edges) (sym (two.long ∙ one.long)) h.room;
  right = λ corner end c. from corner end (two.right corner end c);
  listed = λ end below. listed end.place end.at_b (cases_lt end.place k) below;
}
  where
    this : (corner : ℕ) (at_b : Bool) (end : DrawnEnd) → corner_at edges k at_b ≡ corner → end_at k at_b ≡ end → (end.place < k + 1) × (corner_of edges end ≡ corner)
    this corner at_b end same is = (
      subst (λ (y : DrawnEnd). y.place < k + 1) is (omega arith),
      subst (λ (y : DrawnEnd). corner_of edges y ≡ corner) is same,
    )

    there : (corner : ℕ) (end : DrawnEnd) → Contains (get_or old corner []) end ⊎ ((corner_at edges k false ≡ corner) × (end_at k false ≡ end)) → (end.place < k + 1) × (corner_of edges end ≡ corner)
    there corner end (inl c) = let r = h.right corner end c in (omega (arith, r.0), r.1)
    there corner end (inr (same, is)) = this corner false end same is

    from : (corner : ℕ) (end : DrawnEnd) → Contains (get_or mid corner []) end ⊎ ((corner_at edges k true ≡ corner) × (end_at k true ≡ end)) → (end.place < k + 1) × (corner_of edges end ≡ corner)
    from corner end (inl c) = there corner end (one.right corner end c)
    from corner end (inr (same, is)) = this corner true end same is

    here : (at_b : Bool) → Contains (get_or new (corner_at edges k at_b) []) (end_at k at_b)
    here false = two.kept (corner_at edges k false) (end_at k false) one.added
    here true = two.added

    listed : (place : ℕ) (at_b : Bool) → (place < k) ⊎ (k ≤ place) → place < k + 1 → Contains (get_or new (corner_at edges place at_b) []) (end_at place at_b)
    listed place at_b (inl l) below =
        let c = corner_at edges place at_b in
        let end = end_at place at_b in
        two.kept c end (one.kept c end (h.listed end l))
    listed place at_b (inr l) below =
        let same : k ≡ place = omega arith in
        subst (λ (i : ℕ). Contains (get_or new (corner_at edges i at_b) []) (end_at i at_b)) same (here at_b)
