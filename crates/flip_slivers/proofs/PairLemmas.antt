-- Partners, and the triangles that are left.
use Rattle.std.proofs.Common.{◌≡◌, ◌≢◌, ℕ, zero, suc, ◌<◌, ◌≤◌, ◌+◌, ◌*◌, List, [], ◌∷◌, ◌++◌, length, get_or, drop, set, replicate, Option, Some, None, Bool, true, false, not, refl, sym, ap, ◌∙◌, subst, arith, inl, inr, ◌⊎◌, ⊎_elim, append_assoc}
use Rattle.std.specs.Prelude.{slice_get, Contains}
use Rattle.std.specs.List.{All}
use Rattle.std.specs.Option.{is_some}
use Rattle.std.proofs.lemmas.Bool.{cases_eq, false≢true}
use Rattle.std.proofs.lemmas.List.{drop_more, drop_all, length-set, get_or-replicate, length-replicate, append-nil}
use Rattle.std.proofs.lemmas.Option.{slice_get_within, slice_get_read, get_or_from_slice_get, same_Some, slice_get-get_or, none-some}
use Rattle.lattice.specs.declared.soup.Tri.{Tri}
use Rattle.flip_slivers.specs.Flips.{tri, HasSide}
use Rattle.flip_slivers.proofs.Changed.{set_same, set_other}
use Rattle.flip_slivers.specs.Pairs.{AreOpposite, AreOppositeAt, IsWithoutPairs, alone}
use Rattle.flip_slivers.specs.inner.Lists.{IsListed, list_number, listed_at}
use Rattle.flip_slivers.specs.inner.Partners.{ArePartners, IsFreePartner, IsAlone}
use Rattle.flip_slivers.proofs.ListLemmas.{nowhere}

-- ---- opposite triangles
pub opposite_back : (t u : Tri) → AreOpposite t u → AreOpposite u t
opposite_back t u = ⊎_elim
    (λ e. inl (back (ap (λ (v : Tri). v.a) e) (ap (λ (v : Tri). v.c) e) (ap (λ (v : Tri). v.b) e)))
    (⊎_elim
    (λ e. inr (inl (back (ap (λ (v : Tri). v.c) e) (ap (λ (v : Tri). v.b) e) (ap (λ (v : Tri). v.a) e))))
    (λ e. inr (inr (back (ap (λ (v : Tri). v.b) e) (ap (λ (v : Tri). v.a) e) (ap (λ (v : Tri). v.c) e)))))
  where
    back : {a b c x y z : ℕ} → a ≡ x → b ≡ y → c ≡ z → tri x y z ≡ tri a b c
    back p q r = cc

pub opposite_at_back : (triangles : List Tri) (i j : ℕ) → AreOppositeAt triangles i j → AreOppositeAt triangles j i
opposite_at_back triangles i j o = record {
  first = o.second;
  second = o.first;
  at_first = o.at_second;
  at_second = o.at_first;
  opposite = opposite_back o.first o.second o.opposite;
}

none_is_some : (l : ℕ) (o : Option (Option ℕ)) → o ≡ Some None → o ≡ Some (Some l) → ⊥
none_is_some l o none some = none-some l (same_Some None (Some l) (sym none ∙ some))

-- ---- one pair more
abbrev pub with_pair : List (Option ℕ) → ℕ → ℕ → List (Option ℕ)
with_pair partners i j = set (set partners i (Some j)) j (Some i)

pair_at_second : (partners : List (Option ℕ)) (i j : ℕ) → i ≢ j → slice_get partners j ≡ Some None → slice_get (with_pair partners i j) j ≡ Some (Some i)
pair_at_second partners i j differ free = set_same (set partners i (Some j)) j None (Some i) (set_other partners i j (Some j) (λ e. differ (sym e)) ∙ free)

pub pair_at_first : (partners : List (Option ℕ)) (i j : ℕ) → i ≢ j → slice_get partners i ≡ Some None → slice_get (with_pair partners i j) i ≡ Some (Some j)
pair_at_first partners i j differ alone = set_other (set partners i (Some j)) j i (Some i) differ ∙ set_same partners i None (Some j) alone

pair_elsewhere : (partners : List (Option ℕ)) (i j k : ℕ) → k ≢ i → k ≢ j → slice_get (with_pair partners i j) k ≡ slice_get partners k
pair_elsewhere partners i j k first second = set_other (set partners i (Some j)) j k (Some i) second ∙ set_other partners i k (Some j) first

-- with a partner at a place one less is alone
one_less : (triangles : List Tri) (partners : List (Option ℕ)) (i j : ℕ) → length partners ≡ length triangles → slice_get partners i ≡ Some None
    → length (alone triangles partners) ≡ length (alone triangles (set partners i (Some j))) + 1
one_less [] [] i j same at = absurd (none-some None at)
one_less [] (p ∷ partners) i j same at = absurd (omega arith)
one_less (t ∷ triangles) [] i j same at = absurd (omega arith)
one_less (t ∷ triangles) (None ∷ partners) zero j same at = omega arith
one_less (t ∷ triangles) (Some k ∷ partners) zero j same at = absurd (none_is_some k (Some (Some k)) at refl)
one_less (t ∷ triangles) (None ∷ partners) (suc i) j same at = let h = one_less triangles partners i j (omega arith) at in omega arith
one_less (t ∷ triangles) (Some k ∷ partners) (suc i) j same at = one_less triangles partners i j (omega arith) at

-- with a pair more two
two_less : (triangles : List Tri) (partners : List (Option ℕ)) (i j : ℕ) → length partners ≡ length triangles → i ≢ j → slice_get partners i ≡ Some None → slice_get partners j ≡ Some None
    → length (alone triangles partners) ≡ length (alone triangles (with_pair partners i j)) + 2
two_less triangles partners i j same differ alone_i alone_j =
    let first = one_less triangles partners i j same alone_i in
    let second = one_less triangles (set partners i (Some j)) j i (length-set partners i (Some j) ∙ same) (set_other partners i j (Some j) (λ e. differ (sym e)) ∙ alone_j) in
    omega (arith, first, second)

-- the partner at a place: one of the new pair, or as before
pair_cases : (partners : List (Option ℕ)) (i j k l : ℕ) → i ≢ j → slice_get partners i ≡ Some None → slice_get partners j ≡ Some None → slice_get (with_pair partners i j) k ≡ Some (Some l)
    → ((k ≡ i) × (l ≡ j)) ⊎ ((k ≡ j) × (l ≡ i)) ⊎ (slice_get partners k ≡ Some (Some l))
pair_cases partners i j k l differ alone free at = elim (cases_eq k i) [
  | inl e ↦ inl (e, same_Some l j (same_Some (Some l) (Some j) (sym at ∙ ap (slice_get (with_pair partners i j)) e ∙ pair_at_first partners i j differ alone)))
  | inr d ↦ elim (cases_eq k j) [
    | inl e ↦ inr (inl (e, same_Some l i (same_Some (Some l) (Some i) (sym at ∙ ap (slice_get (with_pair partners i j)) e ∙ pair_at_second partners i j differ free))))
    | inr n ↦ inr (inr (sym (pair_elsewhere partners i j k d n) ∙ at))
  ]
]

pub fewer_alone : (partners : List (Option ℕ)) (i j k : ℕ) → i ≢ j → slice_get partners i ≡ Some None → slice_get partners j ≡ Some None → slice_get (with_pair partners i j) k ≡ Some None
    → slice_get partners k ≡ Some None
fewer_alone partners i j k differ alone free at = elim (cases_eq k i) [
  | inl e ↦ ap (slice_get partners) e ∙ alone
  | inr d ↦ elim (cases_eq k j) [
    | inl e ↦ ap (slice_get partners) e ∙ free
    | inr n ↦ sym (pair_elsewhere partners i j k d n) ∙ at
  ]
]

pub paired : (triangles : List Tri) (partners : List (Option ℕ)) (i j : ℕ) → ArePartners triangles partners → slice_get partners i ≡ Some None → IsFreePartner triangles partners i j
    → ArePartners triangles (with_pair partners i j)
paired triangles partners i j before alone free = record {
  for_each = length-set (set partners i (Some j)) j (Some i) ∙ length-set partners i (Some j) ∙ before.for_each;
  both_ways = both_ways;
  different = different;
  opposite = opposite;
  pairs = before.pairs + 1;
  in_pairs = omega (arith, before.in_pairs, two_less triangles partners i j before.for_each free.different alone free.free);
}
  where
    both_ways : (k l : ℕ) → slice_get (with_pair partners i j) k ≡ Some (Some l) → slice_get (with_pair partners i j) l ≡ Some (Some k)
    both_ways k l at = ⊎_elim
        (λ (e, f). ap (slice_get (with_pair partners i j)) f ∙ pair_at_second partners i j free.different free.free ∙ ap (λ (n : ℕ). Some (Some n)) (sym e))
        (⊎_elim
        (λ (e, f). ap (slice_get (with_pair partners i j)) f ∙ pair_at_first partners i j free.different alone ∙ ap (λ (n : ℕ). Some (Some n)) (sym e))
        (λ old.
        let back : slice_get partners l ≡ Some (Some k) = before.both_ways k l old in
        pair_elsewhere partners i j l (λ e. none_is_some k (slice_get partners l) (ap (slice_get partners) e ∙ alone) back) (λ e. none_is_some k (slice_get partners l) (ap (slice_get partners) e ∙ free.free) back) ∙ back))
        (pair_cases partners i j k l free.different alone free.free at)

    different : (k l : ℕ) → slice_get (with_pair partners i j) k ≡ Some (Some l) → k ≢ l
    different k l at same = ⊎_elim (λ (e, f). free.different (sym e ∙ same ∙ f)) (⊎_elim (λ (e, f). free.different (sym f ∙ sym same ∙ e)) (λ old. before.different k l old same))
        (pair_cases partners i j k l free.different alone free.free at)

    opposite : (k l : ℕ) → slice_get (with_pair partners i j) k ≡ Some (Some l) → AreOppositeAt triangles k l
    opposite k l at = ⊎_elim
        (λ (e, f). let P : ℕ → Type 0 = λ n. AreOppositeAt triangles n l in let Q : ℕ → Type 0 = λ n. AreOppositeAt triangles i n in subst P (sym e) (subst Q (sym f) free.opposite))
        (⊎_elim
        (λ (e, f). let P : ℕ → Type 0 = λ n. AreOppositeAt triangles n l in let Q : ℕ → Type 0 = λ n. AreOppositeAt triangles j n in subst P (sym e) (subst Q (sym f) (opposite_at_back triangles i j free.opposite)))
        (λ old. before.opposite k l old))
        (pair_cases partners i j k l free.different alone free.free at)

-- at the start no triangle has a partner
none_has : (n i j : ℕ) → slice_get (replicate n None) i ≡ Some (Some j) → ⊥
none_has n i j at =
    let within : i < length (replicate n None) = slice_get_within (replicate n None) i (Some j) at in
    let below : i < n = omega (arith, length-replicate {A = Option ℕ} n None) in
    none_is_some j (slice_get (replicate n None) i) (slice_get-get_or (replicate n None) i None within ∙ ap Some (get_or-replicate n i None None below)) at

all_are_alone : (triangles : List Tri) → length (alone triangles (replicate (length triangles) None)) ≡ length triangles
all_are_alone [] = refl
all_are_alone (t ∷ triangles) = let h = all_are_alone triangles in omega arith

pub none_paired : (triangles : List Tri) (partners : List (Option ℕ)) → partners ≡ replicate (length triangles) None → ArePartners triangles partners
none_paired triangles partners e = let P : List (Option ℕ) → Type 0 = λ xs. ArePartners triangles xs in subst P (sym e) (record {
  for_each = length-replicate (length triangles) None;
  both_ways = λ i j at. absurd (none_has (length triangles) i j at);
  different = λ i j at. absurd (none_has (length triangles) i j at);
  opposite = λ i j at. absurd (none_has (length triangles) i j at);
  pairs = 0;
  in_pairs = omega (arith, all_are_alone triangles);
})

-- a triangle that is alone stays so
pub still_alone : (triangles : List Tri) (old new : List (Option ℕ)) (i : ℕ) → ((k : ℕ) → slice_get new k ≡ Some None → slice_get old k ≡ Some None) → IsAlone triangles old i → IsAlone triangles new i
still_alone triangles old new i fewer alone j free = alone j (record { different = free.different; free = fewer j free.free; opposite = free.opposite })

pub more_alone : (triangles : List Tri) (old new : List (Option ℕ)) (i : ℕ) → ((k : ℕ) → slice_get new k ≡ Some None → slice_get old k ≡ Some None)
    → ((k : ℕ) → k < i → slice_get old k ≡ Some None → IsAlone triangles old k) → (slice_get new i ≡ Some None → IsAlone triangles new i)
    → (k : ℕ) → k < i + 1 → slice_get new k ≡ Some None → IsAlone triangles new k
more_alone triangles old new i fewer before here k below at = elim (cases_eq k i) [
  | inl e ↦ let P : ℕ → Type 0 = λ n. slice_get new n ≡ Some None → IsAlone triangles new n in subst P (sym e) here at
  | inr d ↦ let earlier : k < i = omega arith in still_alone triangles old new k fewer (before k earlier (fewer k at))
]

-- ---- an opposite triangle has the first side the other way round
opposite_side : (t u : Tri) → AreOpposite t u → HasSide u t.b t.a
opposite_side t u = ⊎_elim
    (λ e. inr (inr (sym (ap (λ (v : Tri). v.c) e), sym (ap (λ (v : Tri). v.a) e))))
    (⊎_elim
    (λ e. inl (sym (ap (λ (v : Tri). v.c) e), sym (ap (λ (v : Tri). v.a) e)))
    (λ e. inr (inl (sym (ap (λ (v : Tri). v.c) e), sym (ap (λ (v : Tri). v.a) e)))))

pub opposite_listed : (triangles : List Tri) (lists : List (List ℕ)) (i j : ℕ) (t : Tri) → IsListed triangles lists → slice_get triangles i ≡ Some t → AreOppositeAt triangles i j
    → Contains (listed_at lists (list_number t.b t.a)) j
opposite_listed triangles lists i j t listed at o =
    let same : o.first ≡ t = same_Some o.first t (sym o.at_first ∙ at) in
    let P : Tri → Type 0 = λ v. AreOpposite v o.second in
    listed.holds j t.b t.a o.second o.at_second (inl (opposite_side t o.second (subst P same o.opposite)))

pub none_free : (triangles : List Tri) (partners : List (Option ℕ)) (lists : List (List ℕ)) (places : List ℕ) (i : ℕ) (t : Tri) → IsListed triangles lists → slice_get triangles i ≡ Some t
    → places ≡ listed_at lists (list_number t.b t.a) → ((q : ℕ) → q < length places → IsFreePartner triangles partners i (get_or places q 0) → ⊥) → IsAlone triangles partners i
none_free triangles partners lists places i t listed at e none j free =
    nowhere (λ k. IsFreePartner triangles partners i k) places (listed_at lists (list_number t.b t.a)) j e none (opposite_listed triangles lists i j t listed at free.opposite) free

pub listed_within : (triangles : List Tri) (lists : List (List ℕ)) (k : ℕ) (places : List ℕ) → IsListed triangles lists → places ≡ listed_at lists k → All (λ i. i < length triangles) places
listed_within triangles lists k places listed e =
    let Q : List ℕ → Type 0 = λ xs. All (λ i. i < length triangles) xs in
    subst Q (sym e) (listed.within k)

-- ---- the triangles that are left
pub alone_kept : (triangles : List Tri) (partners : List (Option ℕ)) (i : ℕ) (d : Tri) (left whole : List Tri) → i < length triangles → i < length partners → get_or partners i None ≡ None
    → left ++ alone (drop i triangles) (drop i partners) ≡ whole → (left ++ get_or triangles i d ∷ []) ++ alone (drop (i + 1) triangles) (drop (i + 1) partners) ≡ whole
alone_kept triangles partners i d left whole within also none before =
    let e : alone (drop i triangles) (drop i partners) ≡ get_or triangles i d ∷ alone (drop (i + 1) triangles) (drop (i + 1) partners) =
    ap (λ (ts : List Tri). alone ts (drop i partners)) (drop_more triangles i d within)
    ∙ ap (alone (get_or triangles i d ∷ drop (i + 1) triangles)) (drop_more partners i None also ∙ ap (λ (o : Option ℕ). o ∷ drop (i + 1) partners) none) in
    append_assoc left (get_or triangles i d ∷ []) (alone (drop (i + 1) triangles) (drop (i + 1) partners)) ∙ ap (λ (ts : List Tri). left ++ ts) (sym e) ∙ before

pub alone_dropped : (triangles : List Tri) (partners : List (Option ℕ)) (i : ℕ) (d : Tri) (j : ℕ) (left whole : List Tri) → i < length triangles → i < length partners → get_or partners i None ≡ Some j
    → left ++ alone (drop i triangles) (drop i partners) ≡ whole → left ++ alone (drop (i + 1) triangles) (drop (i + 1) partners) ≡ whole
alone_dropped triangles partners i d j left whole within also some before =
    let e : alone (drop i triangles) (drop i partners) ≡ alone (drop (i + 1) triangles) (drop (i + 1) partners) =
    ap (λ (ts : List Tri). alone ts (drop i partners)) (drop_more triangles i d within)
    ∙ ap (alone (get_or triangles i d ∷ drop (i + 1) triangles)) (drop_more partners i None also ∙ ap (λ (o : Option ℕ). o ∷ drop (i + 1) partners) some) in
    ap (λ (ts : List Tri). left ++ ts) (sym e) ∙ before

pub all_alone : (triangles : List Tri) (partners : List (Option ℕ)) (i : ℕ) (left whole : List Tri) → length triangles ≤ i → left ++ alone (drop i triangles) (drop i partners) ≡ whole → left ≡ whole
all_alone triangles partners i left whole past before =
    let e : alone (drop i triangles) (drop i partners) ≡ [] = ap (λ (ts : List Tri). alone ts (drop i partners)) (drop_all i triangles past) in
    sym (append-nil left) ∙ ap (λ (ts : List Tri). left ++ ts) (sym e) ∙ before

-- ---- all together
pub without : (triangles left : List Tri) (partners : List (Option ℕ)) → ArePartners triangles partners → ((i : ℕ) → slice_get partners i ≡ Some None → IsAlone triangles partners i)
    → left ≡ alone triangles partners → IsWithoutPairs triangles left
without triangles left partners are others e = record {
  partners = partners;
  for_each = are.for_each;
  both_ways = are.both_ways;
  different = are.different;
  opposite = are.opposite;
  is_left = e;
  pairs = are.pairs;
  in_pairs = are.in_pairs ∙ ap (λ (ts : List Tri). length ts + 2 * are.pairs) (sym e);
  none_left = λ i j first second differ opposite. others i first j (record { different = differ; free = second; opposite = opposite });
}

-- ---- what is read at places
none_of_test : (o : Option ℕ) → is_some o ≡ false → o ≡ None
none_of_test None e = refl
none_of_test (Some x) e = cc

pub not_some : (partners : List (Option ℕ)) (j : ℕ) → is_some (get_or partners j None) ≡ true → slice_get partners j ≡ Some None → ⊥
not_some partners j some at =
    let within : j < length partners = slice_get_within partners j None at in
    let e : get_or partners j None ≡ None = same_Some (get_or partners j None) None (sym (slice_get-get_or partners j None within) ∙ at) in
    false≢true (sym (ap is_some e) ∙ some)

pub none_at : (partners : List (Option ℕ)) (j : ℕ) → j < length partners → is_some (get_or partners j None) ≡ false → slice_get partners j ≡ Some None
none_at partners j within none = slice_get-get_or partners j None within ∙ ap Some (none_of_test (get_or partners j None) none)

pub none_read : (partners : List (Option ℕ)) (j : ℕ) (o : Option ℕ) → j < length partners → o ≡ get_or partners j o → is_some o ≡ false → slice_get partners j ≡ Some None
none_read partners j o within is none = slice_get_read partners (length partners) j o refl within is ∙ ap Some (none_of_test o none)

pub some_read : (partners : List (Option ℕ)) (j : ℕ) (o : Option ℕ) → j < length partners → o ≡ get_or partners j o → is_some o ≡ true → slice_get partners j ≡ Some None → ⊥
some_read partners j o within is some at =
    let e : o ≡ None = same_Some o None (sym (slice_get_read partners (length partners) j o refl within is) ∙ at) in
    false≢true (sym (ap is_some e) ∙ some)

pub free_partner : (triangles : List Tri) (partners : List (Option ℕ)) (i j : ℕ) (d e : Tri) → i < length triangles → j < length triangles → slice_get partners j ≡ Some None → i ≢ j
    → AreOpposite (get_or triangles i d) (get_or triangles j e) → IsFreePartner triangles partners i j
free_partner triangles partners i j d e first second free differ opposite = record {
  different = differ;
  free = free;
  opposite = record {
    first = get_or triangles i d;
    second = get_or triangles j e;
    at_first = slice_get-get_or triangles i d first;
    at_second = slice_get-get_or triangles j e second;
    opposite = opposite;
  };
}

pub opposite_there : (triangles : List Tri) (i j : ℕ) (d e : Tri) → AreOppositeAt triangles i j → AreOpposite (get_or triangles i d) (get_or triangles j e)
opposite_there triangles i j d e o =
    let P : Tri → Type 0 = λ t. AreOpposite t (get_or triangles j e) in
    let Q : Tri → Type 0 = λ u. AreOpposite o.first u in
    subst P (sym (get_or_from_slice_get triangles i o.first d o.at_first)) (subst Q (sym (get_or_from_slice_get triangles j o.second e o.at_second)) o.opposite)

pub same_free : (triangles : List Tri) (seen partners : List (Option ℕ)) (i j : ℕ) → seen ≡ partners → IsFreePartner triangles seen i j → IsFreePartner triangles partners i j
same_free triangles seen partners i j e = let P : List (Option ℕ) → Type 0 = λ xs. IsFreePartner triangles xs i j in subst P e

pub same_alone : (triangles : List Tri) (seen partners : List (Option ℕ)) (i : ℕ) → seen ≡ partners → IsAlone triangles seen i → IsAlone triangles partners i
same_alone triangles seen partners i e = let P : List (Option ℕ) → Type 0 = λ xs. IsAlone triangles xs i in subst P e

-- a test whether there is none
pub tested_none : (o : Option ℕ) (b : Bool) → is_some o ≡ not b → b ≡ true → o ≡ None
tested_none o b e h = none_of_test o (e ∙ ap not h)

pub tested_some : (o : Option ℕ) (b : Bool) → is_some o ≡ not b → b ≡ false → (j : ℕ) × (o ≡ Some j)
tested_some None b e h = absurd (false≢true (e ∙ ap not h))
tested_some (Some j) b e h = (j, refl)
