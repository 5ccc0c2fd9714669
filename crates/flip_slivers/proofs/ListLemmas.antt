-- Lists of places by sides and corners, and what is found by them.
use Rattle.std.proofs.Common.{◌≡◌, ℕ, ◌<◌, ◌≤◌, ◌+◌, ◌==◌, List, [], ◌∷◌, ◌++◌, length, filter, get_or, set, not, Bool, Some, refl, sym, ap, ◌∙◌, subst, arith, inl, inr, ⊎_elim, Vec, Global}
use Rattle.std.specs.Prelude.{slice_get, Contains}
use Rattle.std.specs.List.{All}
use Rattle.std.specs.Option.{option_map}
use Rattle.std.proofs.lemmas.Bool.{cases_eq, ne_eqb}
use Rattle.std.proofs.lemmas.List.{map-set, get_or_default, get_or-map, get_or-set_same, get_or-set_other, length-set, length-map}
use Rattle.std.proofs.lemmas.List.Elements.{All-nil, All-filter, Contains-append_left, Contains-push, All-push}
use Rattle.std.proofs.lemmas.Option.{slice_get-map, slice_get_within, slice_get-get_or, same_Some}
use Rattle.integers.proofs.Passing.{Contains-filter}
use Rattle.lattice.specs.declared.soup.Tri.{Tri}
use Rattle.flip_slivers.specs.declared.bounded.Bounded.{Bounded}
use Rattle.flip_slivers.specs.Flips.{tri, IsRound, HasSide, IsSideOf}
use Rattle.flip_slivers.proofs.Changed.{set_same, set_other}
use Rattle.geometry.specs.Parts.{IsCornerOf}
use Rattle.flip_slivers.specs.inner.Lists.{HasKey, HasSideAt, HasTriAt, IsListed, IsGrown, IsLess, IsMore, lists_of, list_number, listed_at, triangles_of}

-- ---- one list is changed
abbrev pub items_of : Vec ℕ Global → List ℕ
items_of list = list.items

pub listed_there : (lists : List (Vec ℕ Global)) (k : ℕ) (list : Vec ℕ Global) → k < length lists → list ≡ get_or lists k list → list.items ≡ listed_at (lists_of lists) k
listed_there lists k list within is = ap items_of is ∙ sym (get_or-map items_of lists k list [] within)

-- what holds of the new list in one place, and of the old one in the others
in_changed : (P : List ℕ → Type 0) (old : List (List ℕ)) (number k : ℕ) (xs : List ℕ) → number < length old → (P (listed_at old number) → P xs) → P (listed_at old k) → P (listed_at (set old number xs) k)
in_changed P old number k xs within mine before = elim (cases_eq k number) [
  | inl e ↦ subst P (sym (ap (listed_at (set old number xs)) e ∙ get_or-set_same old number xs [] within)) (mine (subst P (ap (listed_at old) e) before))
  | inr d ↦ subst P (sym (get_or-set_other old number k xs [] d)) before
]

pub grown : (old : List (List ℕ)) (number place : ℕ) → number < length old → IsGrown old (set old number (listed_at old number ++ place ∷ [])) number place
grown old number place within = let more : List ℕ = listed_at old number ++ place ∷ [] in record {
  long = length-set old number more;
  kept = λ k i. in_changed (λ xs. Contains xs i) old number k more within (Contains-append_left (listed_at old number) (place ∷ []) i);
  added = let P : List ℕ → Type 0 = λ xs. Contains xs place in subst P (sym (get_or-set_same old number more [] within)) (Contains-push (listed_at old number) place);
  within = λ n below all k. in_changed (λ xs. All (λ i. i < n) xs) old number k more within (λ before. All-push (λ i. i < n) (listed_at old number) place before below) (all k);
}

abbrev pub is_other : ℕ → ℕ → Bool
is_other place i = not (i == place)

pub lessened : (old : List (List ℕ)) (number place : ℕ) → number < length old → IsLess old (set old number (filter (is_other place) (listed_at old number))) place
lessened old number place within = record {
  long = length-set old number (filter (is_other place) (listed_at old number));
  kept = λ k i differ. in_changed (λ xs. Contains xs i) old number k (filter (is_other place) (listed_at old number)) within
      (λ has. Contains-filter (is_other place) (listed_at old number) i has (ap not (ne_eqb i place differ)));
  within = λ n all k. in_changed (λ xs. All (λ i. i < n) xs) old number k (filter (is_other place) (listed_at old number)) within
      (All-filter (is_other place) (λ i. i < n) (listed_at old number)) (all k);
}

-- the vector with this number is changed
changed : (lists : List (Vec ℕ Global)) (k : ℕ) (old new : Vec ℕ Global) (change : List ℕ → List ℕ) → k < length lists → old ≡ get_or lists k old → new.items ≡ change old.items
    → lists_of (set lists k new) ≡ set (lists_of lists) k (change (listed_at (lists_of lists) k))
changed lists k old new change within is e = map-set items_of lists k new ∙ ap (set (lists_of lists) k) (e ∙ ap change (listed_there lists k old within is))

pub pushed : (lists : List (Vec ℕ Global)) (k place : ℕ) (old new : Vec ℕ Global) → k < length lists → old ≡ get_or lists k old → new.items ≡ old.items ++ place ∷ []
    → IsGrown (lists_of lists) (lists_of (set lists k new)) k place
pushed lists k place old new within is e =
    let P : List (List ℕ) → Type 0 = λ after. IsGrown (lists_of lists) after k place in
    let long : k < length (lists_of lists) = omega (arith, length-map lists items_of) in
    subst P (sym (changed lists k old new (λ xs. xs ++ place ∷ []) within is e)) (grown (lists_of lists) k place long)

pub taken : (lists : List (Vec ℕ Global)) (k place : ℕ) (old new : Vec ℕ Global) → k < length lists → old ≡ get_or lists k old → new.items ≡ filter (is_other place) old.items
    → IsLess (lists_of lists) (lists_of (set lists k new)) place
taken lists k place old new within is e =
    let P : List (List ℕ) → Type 0 = λ after. IsLess (lists_of lists) after place in
    let long : k < length (lists_of lists) = omega (arith, length-map lists items_of) in
    subst P (sym (changed lists k old new (filter (is_other place)) within is e)) (lessened (lists_of lists) k place long)

-- how many lists there are, after a change that keeps that
pub same_count : (old new : List (Vec ℕ Global)) (count : ℕ) → length (lists_of new) ≡ length (lists_of old) → length old ≡ count → length new ≡ count
same_count old new count long e = sym (length-map new items_of) ∙ long ∙ length-map old items_of ∙ e

-- ---- all lists of a triangle
less_twice : (first second third : List (List ℕ)) (place : ℕ) → IsLess first second place → IsLess second third place → IsLess first third place
less_twice first second third place a b = record {
  long = b.long ∙ a.long;
  kept = λ k i differ has. b.kept k i differ (a.kept k i differ has);
  within = λ n all. b.within n (a.within n all);
}

pub less_six : (place : ℕ) (l0 l1 l2 l3 l4 l5 l6 : List (List ℕ)) → IsLess l0 l1 place → IsLess l1 l2 place → IsLess l2 l3 place → IsLess l3 l4 place → IsLess l4 l5 place → IsLess l5 l6 place → IsLess l0 l6 place
less_six place l0 l1 l2 l3 l4 l5 l6 a b c d e f =
    less_twice l0 l1 l6 place a (less_twice l1 l2 l6 place b (less_twice l2 l3 l6 place c (less_twice l3 l4 l6 place d (less_twice l4 l5 l6 place e f))))

-- the lists before some were added to, and after, whichever they were
pub record IsWider (old new : List (List ℕ)) (place : ℕ) : Type 0 where
  pub long : length new ≡ length old
  pub kept : (k i : ℕ) → Contains (listed_at old k) i → Contains (listed_at new k) i
  pub within : (n : ℕ) → place < n → ((k : ℕ) → All (λ i. i < n) (listed_at old k)) → (k : ℕ) → All (λ i. i < n) (listed_at new k)

abbrev pub wider : (old new : List (List ℕ)) (number place : ℕ) → IsGrown old new number place → IsWider old new place
wider old new number place a = record { long = a.long; kept = a.kept; within = a.within }

abbrev pub wider_twice : (first second third : List (List ℕ)) (place : ℕ) → IsWider first second place → IsWider second third place → IsWider first third place
wider_twice first second third place a b = record {
  long = b.long ∙ a.long;
  kept = λ k i has. b.kept k i (a.kept k i has);
  within = λ n below all. b.within n below (a.within n below all);
}

-- six lists, of which the first three are the sides'
pub all_more : (t : Tri) (place : ℕ) (l0 l1 l2 l3 l4 l5 l6 : List (List ℕ)) → IsGrown l0 l1 (list_number t.a t.b) place → IsGrown l1 l2 (list_number t.b t.c) place → IsGrown l2 l3 (list_number t.c t.a) place
    → IsGrown l3 l4 (list_number t.a t.a) place → IsGrown l4 l5 (list_number t.b t.b) place → IsGrown l5 l6 (list_number t.c t.c) place → IsMore l0 l6 t place
all_more t place l0 l1 l2 l3 l4 l5 l6 ab bc ca a b c = record {
  long = from0.long;
  kept = from0.kept;
  within = from0.within;
  added = λ m n. ⊎_elim
      (⊎_elim
      (λ (p, q). there t.a t.b m n p q (from1.kept (list_number t.a t.b) place ab.added))
      (⊎_elim
      (λ (p, q). there t.b t.c m n p q (from2.kept (list_number t.b t.c) place bc.added))
      (λ (p, q). there t.c t.a m n p q (from3.kept (list_number t.c t.a) place ca.added))))
      (λ (e, corner). ⊎_elim
      (λ p. there t.a t.a m n p (p ∙ e) (from4.kept (list_number t.a t.a) place a.added))
      (⊎_elim
      (λ p. there t.b t.b m n p (p ∙ e) (from5.kept (list_number t.b t.b) place b.added))
      (λ p. there t.c t.c m n p (p ∙ e) c.added)) corner);
}
  where
    from5 : IsWider l5 l6 place
    from5 = wider l5 l6 (list_number t.c t.c) place c

    from4 : IsWider l4 l6 place
    from4 = wider_twice l4 l5 l6 place (wider l4 l5 (list_number t.b t.b) place b) from5

    from3 : IsWider l3 l6 place
    from3 = wider_twice l3 l4 l6 place (wider l3 l4 (list_number t.a t.a) place a) from4

    from2 : IsWider l2 l6 place
    from2 = wider_twice l2 l3 l6 place (wider l2 l3 (list_number t.c t.a) place ca) from3

    from1 : IsWider l1 l6 place
    from1 = wider_twice l1 l2 l6 place (wider l1 l2 (list_number t.b t.c) place bc) from2

    from0 : IsWider l0 l6 place
    from0 = wider_twice l0 l1 l6 place (wider l0 l1 (list_number t.a t.b) place ab) from1

    there : (x y m n : ℕ) → x ≡ m → y ≡ n → Contains (listed_at l6 (list_number x y)) place → Contains (listed_at l6 (list_number m n)) place
    there x y m n p q = let P : ℕ → Type 0 = λ k. Contains (listed_at l6 k) place in subst P (ap (λ (z : ℕ). list_number z y) p ∙ ap (list_number m) q)

-- the number of a list under its other name
pub grown_at : (old new : List (List ℕ)) (k number place : ℕ) → k ≡ number → IsGrown old new k place → IsGrown old new number place
grown_at old new k number place e = let P : ℕ → Type 0 = λ n. IsGrown old new n place in subst P e

-- ---- a side and the triangle's third corner
pub side_of_round : (t : Tri) (m n d : ℕ) → IsRound t (tri m n d) → HasSide t m n
side_of_round t m n d = ⊎_elim (λ e. inl (sym (ap (λ (u : Tri). u.a) e), sym (ap (λ (u : Tri). u.b) e)))
    (⊎_elim (λ e. inr (inl (sym (ap (λ (u : Tri). u.a) e), sym (ap (λ (u : Tri). u.b) e)))) (λ e. inr (inr (sym (ap (λ (u : Tri). u.a) e), sym (ap (λ (u : Tri). u.b) e)))))

pub first_corner : (t : Tri) (m n : ℕ) → HasSide t m n → IsCornerOf t m
first_corner t m n = ⊎_elim (λ h. inl h.0) (⊎_elim (λ h. inr (inl h.0)) (λ h. inr (inr h.0)))

pub second_corner : (t : Tri) (m n : ℕ) → HasSide t m n → IsCornerOf t n
second_corner t m n = ⊎_elim (λ h. inr (inl h.1)) (⊎_elim (λ h. inr (inr h.1)) (λ h. inl h.1))

-- ---- the triangle at a place of a surface
pub tri_at : (surface : List Bounded) (i : ℕ) (x : Bounded) → slice_get surface i ≡ Some x → slice_get (triangles_of surface) i ≡ Some x.tri
tri_at surface i x at = slice_get-map (λ (y : Bounded). y.tri) surface i ∙ ap (option_map (λ (y : Bounded). y.tri)) at

-- ---- the first triangles are listed
pub record ListsFirst (triangles : List Tri) (count : ℕ) (lists : List (List ℕ)) : Type 0 where
  pub within : (k : ℕ) → All (λ i. i < length triangles) (listed_at lists k)
  pub holds : (i m n : ℕ) (t : Tri) → i < count → slice_get triangles i ≡ Some t → HasKey t m n → Contains (listed_at lists (list_number m n)) i

-- the lists with one triangle more
pub more_listed : (triangles : List Tri) (i : ℕ) (t : Tri) → slice_get triangles i ≡ Some t → (old new : List (List ℕ)) → ListsFirst triangles i old → IsMore old new t i → ListsFirst triangles (i + 1) new
more_listed triangles i t at old new before more = record {
  within = more.within (length triangles) (slice_get_within triangles i t at) before.within;
  holds = holds;
}
  where
    holds : (j m n : ℕ) (u : Tri) → j < i + 1 → slice_get triangles j ≡ Some u → HasKey u m n → Contains (listed_at new (list_number m n)) j
    holds j m n u less is has = elim (cases_eq j i) [
      | inl e ↦
          let same : u ≡ t = same_Some u t (sym is ∙ ap (slice_get triangles) e ∙ at) in
          let P : Tri → Type 0 = λ v. HasKey v m n in
          let Q : ℕ → Type 0 = λ k. Contains (listed_at new (list_number m n)) k in
          subst Q (sym e) (more.added m n (subst P same has))
      | inr d ↦
          let earlier : j < i = omega arith in
          more.kept (list_number m n) j (before.holds j m n u earlier is has)
    ]

pub all_listed : (triangles : List Tri) (count : ℕ) (lists : List (List ℕ)) → length triangles ≤ count → ListsFirst triangles count lists → IsListed triangles lists
all_listed triangles count lists all first = record {
  within = first.within;
  holds = λ i m n t at has. let below : i < length triangles = slice_get_within triangles i t at in first.holds i m n t (omega arith) at has;
}

pub none_listed : (triangles : List Tri) (lists : List (List ℕ)) → ((k : ℕ) → listed_at lists k ≡ []) → ListsFirst triangles 0 lists
none_listed triangles lists empty = record {
  within = λ k. let P : List ℕ → Type 0 = λ xs. All (λ i. i < length triangles) xs in subst P (sym (empty k)) (All-nil (λ i. i < length triangles));
  holds = λ i m n t none. absurd (omega arith);
}

-- ---- the lists once a triangle is another
pub relisted : (triangles : List Tri) (lists fewer more : List (List ℕ)) (i : ℕ) (old new : Tri) → slice_get triangles i ≡ Some old → IsListed triangles lists → IsLess lists fewer i → IsMore fewer more new i
    → IsListed (set triangles i new) more
relisted triangles lists fewer more i old new at before less grew = record {
  within = λ k. let P : ℕ → Type 0 = λ l. All (λ j. j < l) (listed_at more k) in
      subst P (sym (length-set triangles i new)) (grew.within (length triangles) (slice_get_within triangles i old at) (less.within (length triangles) before.within) k);
  holds = holds;
}
  where
    holds : (j m n : ℕ) (t : Tri) → slice_get (set triangles i new) j ≡ Some t → HasKey t m n → Contains (listed_at more (list_number m n)) j
    holds j m n t is has = elim (cases_eq j i) [
      | inl e ↦
          let same : t ≡ new = same_Some t new (sym is ∙ ap (slice_get (set triangles i new)) e ∙ set_same triangles i old new at) in
          let P : Tri → Type 0 = λ v. HasKey v m n in
          let Q : ℕ → Type 0 = λ k. Contains (listed_at more (list_number m n)) k in
          subst Q (sym e) (grew.added m n (subst P same has))
      | inr d ↦ grew.kept (list_number m n) j (less.kept (list_number m n) j d (before.holds j m n t (sym (set_other triangles i j new d) ∙ is) has))
    ]

-- ---- what is listed
pub place_listed : (surface : List Bounded) (lists : List (List ℕ)) (i m n : ℕ) → IsListed (triangles_of surface) lists → HasSideAt surface i m n → Contains (listed_at lists (list_number m n)) i
place_listed surface lists i m n listed (x, at, has) = listed.holds i m n x.tri (tri_at surface i x at) (inl has)

pub corner_listed : (surface : List Bounded) (lists : List (List ℕ)) (i k : ℕ) (x : Bounded) → IsListed (triangles_of surface) lists → slice_get surface i ≡ Some x → IsCornerOf x.tri k
    → Contains (listed_at lists (list_number k k)) i
corner_listed surface lists i k x listed at has = listed.holds i k k x.tri (tri_at surface i x at) (inr (refl, has))

pub places_within : (surface : List Bounded) (lists : List (List ℕ)) (k : ℕ) → IsListed (triangles_of surface) lists → All (λ i. i < length surface) (listed_at lists k)
places_within surface lists k listed = let P : ℕ → Type 0 = λ l. All (λ i. i < l) (listed_at lists k) in
    subst P (length-map surface (λ (x : Bounded). x.tri)) (listed.within k)

-- a place that was read from a list
pub read_within : (surface : List Bounded) (lists : List (List ℕ)) (k : ℕ) (places : List ℕ) → IsListed (triangles_of surface) lists → places ≡ listed_at lists k → All (λ i. i < length surface) places
read_within surface lists k places listed e = let P : List ℕ → Type 0 = λ xs. All (λ i. i < length surface) xs in subst P (sym e) (places_within surface lists k listed)

-- what holds at no place of a list holds at none that is in it
pub nowhere : (P : ℕ → Type 0) (places list : List ℕ) (i : ℕ) → places ≡ list → ((q : ℕ) → q < length places → P (get_or places q 0) → ⊥) → Contains list i → P i → ⊥
nowhere P places list i e none has holds =
    let C : List ℕ → Type 0 = λ xs. Contains xs i in
    let found : Contains places i = subst C (sym e) has in
    none found.0 found.1 (subst P (sym (get_or_default places found.0 0 i found.1 ∙ found.2)) holds)

-- ---- sides
side_place : (surface : List Bounded) (m n : ℕ) → IsSideOf surface m n → (i : ℕ) × HasSideAt surface i m n
side_place surface m n (x, (i, below, is), has) = (i, (x, slice_get-get_or surface i x below ∙ ap Some is, has))

-- none of the places has the side, so no triangle has it
pub no_side_found : (surface : List Bounded) (lists : List (List ℕ)) (m n : ℕ) (places : List ℕ) → IsListed (triangles_of surface) lists → places ≡ listed_at lists (list_number m n)
    → ((q : ℕ) → q < length places → HasSideAt surface (get_or places q 0) m n → ⊥) → ¬ IsSideOf surface m n
no_side_found surface lists m n places listed e none side =
    let found = side_place surface m n side in
    nowhere (λ i. HasSideAt surface i m n) places (listed_at lists (list_number m n)) found.0 e none (place_listed surface lists found.0 m n listed found.1) found.1

-- what is read at a place
pub side_read : (surface : List Bounded) (i m n : ℕ) (d : Bounded) → i < length surface → HasSide (get_or surface i d).tri m n → HasSideAt surface i m n
side_read surface i m n d below has = (get_or surface i d, slice_get-get_or surface i d below, has)

pub no_side_read : (surface : List Bounded) (i m n : ℕ) (d : Bounded) → i < length surface → (HasSide (get_or surface i d).tri m n → ⊥) → HasSideAt surface i m n → ⊥
no_side_read surface i m n d below none (y, at, has) =
    let P : Bounded → Type 0 = λ z. HasSide z.tri m n in
    none (subst P (same_Some y (get_or surface i d) (sym at ∙ slice_get-get_or surface i d below)) has)

pub side_of : (surface : List Bounded) (i m n : ℕ) (d : Bounded) → i < length surface → HasSide (get_or surface i d).tri m n → IsSideOf surface m n
side_of surface i m n d below has = (get_or surface i d, (i, below, get_or_default surface i (get_or surface i d) d below), has)

-- ---- triangles
pub no_tri_read : (surface : List Bounded) (i m n k : ℕ) (d : Bounded) → i < length surface → (IsRound (get_or surface i d).tri (tri m n k) → ⊥) → HasTriAt surface i m n k → ⊥
no_tri_read surface i m n k d below none (y, at, has) =
    let P : Bounded → Type 0 = λ z. IsRound z.tri (tri m n k) in
    none (subst P (same_Some y (get_or surface i d) (sym at ∙ slice_get-get_or surface i d below)) has)

pub no_tri_found : (surface : List Bounded) (lists : List (List ℕ)) (m n k : ℕ) (places : List ℕ) → IsListed (triangles_of surface) lists → places ≡ listed_at lists (list_number m n)
    → ((q : ℕ) → q < length places → HasTriAt surface (get_or places q 0) m n k → ⊥) → (i : ℕ) → HasTriAt surface i m n k → ⊥
no_tri_found surface lists m n k places listed e none i (x, at, has) =
    nowhere (λ j. HasTriAt surface j m n k) places (listed_at lists (list_number m n)) i e none
    (place_listed surface lists i m n listed (x, at, side_of_round x.tri m n k has)) (x, at, has)
