-- Places that wait.
use Rattle.std.proofs.Common.{◌≡◌, ◌≢◌, ℕ, ◌+◌, ◌<◌, ◌-◌, List, [], ◌∷◌, ◌++◌, length, get_or, set, Bool, true, false, Some, refl, sym, ap, ◌∙◌, subst, arith, inl, inr, ⊎_elim}
use Rattle.std.specs.Prelude.{slice_get, Contains, IsTrue}
use Rattle.std.specs.List.{All}
use Rattle.std.proofs.lemmas.Bool.{cases_eq, false≢true}
use Rattle.std.proofs.lemmas.List.{length-set, length-append, get_or_default}
use Rattle.std.proofs.lemmas.List.Elements.{All-nil, All-push, All-pop, Contains-push, Contains-push_cases, Contains-append_left}
use Rattle.std.proofs.lemmas.Option.{slice_get-get_or, slice_get_within, same_Some}
use Rattle.lattice.specs.declared.points.Corner.{Corner}
use Rattle.lattice.specs.declared.soup.Tri.{Tri}
use Rattle.geometry.specs.Parts.{IsCornerOf}
use Rattle.flip_slivers.specs.declared.bounded.Bounded.{Bounded}
use Rattle.flip_slivers.specs.Flips.{tri, IsRound}
use Rattle.flip_slivers.proofs.Changed.{set_same, set_other}
use Rattle.flip_slivers.specs.inner.Lists.{HasTriAt, IsListed, list_number, listed_at, triangles_of}
use Rattle.flip_slivers.specs.inner.Choices.{AreIdle, AreSettled, IsFuller, IsIdleAt, IsQueue, Waits}
use Rattle.flip_slivers.proofs.ListLemmas.{corner_listed}
use Rattle.flip_slivers.proofs.MeasureLemmas.{slice_get_pushed, slice_get_earlier}

-- ---- one place more
pub waits_there : (waits : List Bool) (place : ℕ) → place < length waits → Waits (set waits place true) place
waits_there waits place within = set_same waits place (get_or waits place true) true (slice_get-get_or waits place true within)

waits_still : (waits : List Bool) (place i : ℕ) → place < length waits → Waits waits i → Waits (set waits place true) i
waits_still waits place i within w = elim (cases_eq i place) [
  | inl e ↦ let P : ℕ → Type 0 = λ k. Waits (set waits place true) k in subst P (sym e) (waits_there waits place within)
  | inr d ↦ set_other waits place i true d ∙ w
]

pub fuller : (waits : List Bool) (places : List ℕ) (place : ℕ) → place < length waits → IsFuller waits (set waits place true) places (places ++ place ∷ [])
fuller waits places place within = record {
  count = length-set waits place true;
  kept = λ i w. waits_still waits place i within w;
  queue = λ count q. record {
    for_each = length-set waits place true ∙ q.for_each;
    within = let here : place < count = omega (arith, q.for_each) in All-push (λ i. i < count) places place q.within here;
    queued = λ i w. elim (cases_eq i place) [
      | inl e ↦ let P : ℕ → Type 0 = λ k. Contains (places ++ place ∷ []) k in subst P (sym e) (Contains-push places place)
      | inr d ↦ Contains-append_left places (place ∷ []) i (q.queued i (sym (set_other waits place i true d) ∙ w))
    ];
  };
}

pub as_full : (waits : List Bool) (places : List ℕ) → IsFuller waits waits places places
as_full waits places = record { count = refl; kept = λ i w. w; queue = λ count q. q }

pub fuller_then : (a b c : List Bool) (p q r : List ℕ) → IsFuller a b p q → IsFuller b c q r → IsFuller a c p r
fuller_then a b c p q r x y = record { count = y.count ∙ x.count; kept = λ i w. y.kept i (x.kept i w); queue = λ count s. y.queue count (x.queue count s) }

-- ---- all places
-- the first places wait, and are queued from the last one on
pub record IsQueueOfFirst (count i : ℕ) (waits : List Bool) (places : List ℕ) : Type 0 where
  pub for_each : length waits ≡ i
  pub all : (k : ℕ) → k < i → Waits waits k
  pub within : All (λ p. p < count) places
  pub queued : (k : ℕ) → k < i → Contains places (count - 1 - k)

pub none_first : (count : ℕ) (waits : List Bool) (places : List ℕ) → waits ≡ [] → places ≡ [] → IsQueueOfFirst count 0 waits places
none_first count waits places e f = record {
  for_each = ap length e;
  all = λ k below. absurd (omega arith);
  within = let P : List ℕ → Type 0 = λ xs. All (λ p. p < count) xs in subst P (sym f) (All-nil (λ p. p < count));
  queued = λ k below. absurd (omega arith);
}

pub more_first : (count i : ℕ) (waits new_waits : List Bool) (places new : List ℕ) → i < count → IsQueueOfFirst count i waits places → new_waits ≡ waits ++ true ∷ [] → new ≡ places ++ (count - 1 - i) ∷ []
    → IsQueueOfFirst count (i + 1) new_waits new
more_first count i waits new_waits places new below before e f = record {
  for_each = ap length e ∙ length-append waits (true ∷ []) ∙ ap (λ (n : ℕ). n + 1) before.for_each;
  all = λ k less. let P : List Bool → Type 0 = λ ws. Waits ws k in subst P (sym e) (elim (cases_eq k i) [
    | inl same ↦ let Q : ℕ → Type 0 = λ n. Waits (waits ++ true ∷ []) n in subst Q (before.for_each ∙ sym same) (slice_get_pushed waits true)
    | inr other ↦ let earlier : k < i = omega arith in slice_get_earlier waits true k (let h : k < i = earlier in omega (arith, before.for_each)) ∙ before.all k earlier
  ]);
  within = let P : List ℕ → Type 0 = λ xs. All (λ p. p < count) xs in subst P (sym f) (All-push (λ p. p < count) places (count - 1 - i) before.within (omega arith));
  queued = λ k less. let P : List ℕ → Type 0 = λ xs. Contains xs (count - 1 - k) in subst P (sym f) (elim (cases_eq k i) [
    | inl same ↦ let Q : ℕ → Type 0 = λ n. Contains (places ++ (count - 1 - i) ∷ []) (count - 1 - n) in subst Q (sym same) (Contains-push places (count - 1 - i))
    | inr other ↦ let earlier : k < i = omega arith in Contains-append_left places ((count - 1 - i) ∷ []) (count - 1 - k) (before.queued k earlier)
  ]);
}

pub all_first : (count i : ℕ) (waits : List Bool) (places : List ℕ) → i ≡ count → IsQueueOfFirst count i waits places → IsQueue count waits places
all_first count i waits places same first = record {
  for_each = first.for_each ∙ same;
  within = first.within;
  queued = λ k w.
      let below : k < length waits = slice_get_within waits k true w in
      let also : count - 1 - k < i = omega (arith, first.for_each) in
      let e : count - 1 - (count - 1 - k) ≡ k = omega (arith, first.for_each) in
      let P : ℕ → Type 0 = λ n. Contains places n in
      subst P e (first.queued (count - 1 - k) also);
}

-- ---- one place less
pub fewer_queued : (count : ℕ) (waits : List Bool) (places left : List ℕ) (place : ℕ) → IsQueue count waits places → places ≡ left ++ place ∷ [] → IsQueue count (set waits place false) left
fewer_queued count waits places left place q e = record {
  for_each = length-set waits place false ∙ q.for_each;
  within = (All-pop (λ i. i < count) places left (Some place) e q.within).0;
  queued = λ i w. elim (cases_eq i place) [
    | inl same ↦ absurd (gone i same w)
    | inr d ↦
        let C : List ℕ → Type 0 = λ xs. Contains xs i in
        ⊎_elim (λ h. h) (λ same. absurd (d (sym same))) (Contains-push_cases left place i (subst C e (q.queued i (sym (set_other waits place i false d) ∙ w))))
  ];
}
  where
    gone : (i : ℕ) → i ≡ place → Waits (set waits place false) i → ⊥
    gone i same w =
        let within : place < length waits = let h : place < count = (All-pop (λ i. i < count) places left (Some place) e q.within).1 in omega (arith, q.for_each) in
        false≢true (same_Some false true (sym (set_same waits place (get_or waits place true) false (slice_get-get_or waits place true within)) ∙ ap (slice_get (set waits place false)) (sym same) ∙ w))

pub popped_within : (count : ℕ) (waits : List Bool) (places left : List ℕ) (place : ℕ) → IsQueue count waits places → places ≡ left ++ place ∷ [] → place < count
popped_within count waits places left place q e = (All-pop (λ i. i < count) places left (Some place) e q.within).1

pub popped_length : (places left : List ℕ) (place : ℕ) → places ≡ left ++ place ∷ [] → length places ≡ length left + 1
popped_length places left place e = ap length e ∙ length-append left (place ∷ [])

pub queue_again : (count : ℕ) (waits : List Bool) (places left again : List ℕ) (place : ℕ) → IsQueue count waits places → places ≡ left ++ place ∷ [] → again ≡ left ++ place ∷ [] → IsQueue count waits again
queue_again count waits places left again place q e f = let P : List ℕ → Type 0 = λ xs. IsQueue count waits xs in subst P (e ∙ sym f) q

pub idle_without : (corners : List Corner) (most : ℕ) (surface : List Bounded) (waits : List Bool) (place : ℕ) → AreIdle corners most surface waits → IsIdleAt corners most surface waits place
    → AreIdle corners most surface (set waits place false)
idle_without corners most surface waits place idle here f x = ⊎_elim
    (λ w. elim (cases_eq f.sliver place) [
      | inl e ↦ inr (other f.neighbour (λ same. x.different (e ∙ sym same)) (here.as_sliver f e x))
      | inr d ↦ inl (other f.sliver d w)
    ])
    (λ w. elim (cases_eq f.neighbour place) [
      | inl e ↦ inl (other f.sliver (λ same. x.different (same ∙ sym e)) (here.as_neighbour f e x))
      | inr d ↦ inr (other f.neighbour d w)
    ]) (idle f x)
  where
    other : (i : ℕ) → i ≢ place → Waits waits i → Waits (set waits place false) i
    other i d w = set_other waits place i false d ∙ w

pub none_waits : (corners : List Corner) (most : ℕ) (surface : List Bounded) (count : ℕ) (waits : List Bool) (places : List ℕ) → AreIdle corners most surface waits → IsQueue count waits places → length places ≡ 0
    → AreSettled corners most surface
none_waits corners most surface count waits places idle q empty f x = ⊎_elim (λ w. nothing f.sliver (q.queued f.sliver w)) (λ w. nothing f.neighbour (q.queued f.neighbour w)) (idle f x)
  where
    nothing : (i : ℕ) → Contains places i → ⊥
    nothing i (k, below, is) = omega (arith, empty)

-- ---- triangles that face each other
pub faces_turned : (surface : List Bounded) (place corner other : ℕ) (x : Bounded) (result : Bool) → slice_get surface place ≡ Some x
    → ((j : ℕ) → x.tri.c ≡ corner → HasTriAt surface j x.tri.b x.tri.a other → IsTrue result) → ((j : ℕ) → x.tri.a ≡ corner → HasTriAt surface j x.tri.c x.tri.b other → IsTrue result)
    → ((j : ℕ) → x.tri.b ≡ corner → HasTriAt surface j x.tri.a x.tri.c other → IsTrue result)
    → (j m n : ℕ) → HasTriAt surface place m n corner → HasTriAt surface j n m other → IsTrue result
faces_turned surface place corner other x result at first second third j m n (y, at_y, round) there =
    let P : Bounded → Type 0 = λ z. IsRound z.tri (tri m n corner) in
    ⊎_elim (λ e. first j (sym (ap (λ (u : Tri). u.c) e)) (moved (ap (λ (u : Tri). u.a) e) (ap (λ (u : Tri). u.b) e)))
    (⊎_elim (λ e. second j (sym (ap (λ (u : Tri). u.c) e)) (moved (ap (λ (u : Tri). u.a) e) (ap (λ (u : Tri). u.b) e)))
    (λ e. third j (sym (ap (λ (u : Tri). u.c) e)) (moved (ap (λ (u : Tri). u.a) e) (ap (λ (u : Tri). u.b) e))))
    (subst P (same_Some y x (sym at_y ∙ at)) round)
  where
    moved : {p q : ℕ} → m ≡ p → n ≡ q → HasTriAt surface j q p other
    moved {p} {q} e f = let Q : ℕ → Type 0 = λ k. HasTriAt surface j k m other in let R : ℕ → Type 0 = λ k. HasTriAt surface j q k other in subst R e (subst Q f there)

-- all of those that are listed at the corner
pub all_around : (surface : List Bounded) (lists : List (List ℕ)) (places : List ℕ) (corner other : ℕ) (waits : List Bool) → IsListed (triangles_of surface) lists → places ≡ listed_at lists (list_number corner corner)
    → ((q : ℕ) → q < length places → (j m n : ℕ) → HasTriAt surface (get_or places q 0) m n corner → HasTriAt surface j n m other → Waits waits (get_or places q 0))
    → (i j m n : ℕ) → HasTriAt surface i m n corner → HasTriAt surface j n m other → Waits waits i
all_around surface lists places corner other waits listed is each i j m n (x, at, round) there =
    let C : List ℕ → Type 0 = λ xs. Contains xs i in
    let has = subst C (sym is) (corner_listed surface lists i corner x listed at (third_corner x.tri round)) in
    let e : get_or places has.0 0 ≡ i = get_or_default places has.0 0 i has.1 ∙ has.2 in
    let W : ℕ → Type 0 = λ k. Waits waits k in
    let T : ℕ → Type 0 = λ k. HasTriAt surface k m n corner in
    subst W e (each has.0 has.1 j m n (subst T (sym e) (x, at, round)) there)
  where
    third_corner : (t : Tri) → IsRound t (tri m n corner) → IsCornerOf t corner
    third_corner t = ⊎_elim (λ e. inr (inr (sym (ap (λ (u : Tri). u.c) e)))) (⊎_elim (λ e. inl (sym (ap (λ (u : Tri). u.c) e))) (λ e. inr (inl (sym (ap (λ (u : Tri). u.c) e)))))
