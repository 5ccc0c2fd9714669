-- Numbers in the order of their first use, and what each number that is given keeps.
use Rattle.std.proofs.Common.{◌≡◌, ℕ, ◌+◌, ◌<◌, ◌≤◌, ◌⊎◌, inl, inr, pos, List, [], ◌∷◌, ◌++◌, Contains, All, length, take, get_or, slice_get, Some, sym, ap, subst, ◌∙◌, arith, append_assoc}
use Rattle.std.proofs.lemmas.Bool.{cases_order}
use Rattle.std.proofs.lemmas.Grind.{flat_map-append}
use Rattle.std.proofs.lemmas.List.{length-append, take-append-le}
use Rattle.std.proofs.lemmas.List.Elements.{All-push, Contains-append_left, Contains-push}
use Rattle.std.proofs.lemmas.Option.{get_or_from_slice_get, slice_get-get_or, slice_get_within}
use Rattle.std.proofs.Math.ListN.{get_or-append}
use Rattle.std.proofs.Math.Seq.{get_or-append_seam, take-append_seam}
use Rattle.lattice.specs.declared.soup.Tri.{Tri}
use Rattle.lattice.specs.Triangles.{IsBelow}
use Rattle.lattice.specs.Triple.{Triple}
use Rattle.weld.specs.inner.Numbering.{Numbers, NumbersAll}
use Rattle.weld.specs.Welds.{vertex_at, placed, numbers_of}

-- the numbers below n are used, and each only once all before it were
pub record AreUsed (numbers : List ℕ) (n : ℕ) : Type 0 where
  pub used : (i : ℕ) → i < n → Contains numbers i
  pub in_order : (place j i : ℕ) → slice_get numbers place ≡ Some j → i < j → Contains (take place numbers) i

pub none_used : AreUsed [] 0
none_used = record { used = λ i h. absurd (omega arith); in_order = λ place j i at h. absurd (omega (arith, slice_get_within [] place j at)) }

front_read : (xs ys : List ℕ) (place j : ℕ) → place < length xs → slice_get (xs ++ ys) place ≡ Some j → slice_get xs place ≡ Some j
front_read xs ys place j h at = slice_get-get_or xs place j h ∙ ap Some (sym (get_or-append xs ys j place h) ∙ get_or_from_slice_get (xs ++ ys) place j j at)

-- one more use, of a number that was used or of the next one
module _ (numbers : List ℕ) (n m k : ℕ) (so_far : AreUsed numbers n) (within : k ≤ n) (more : m ≤ n + 1) (next : n < m → k ≡ n) where
  used_more : (i : ℕ) → i < m → Contains (numbers ++ k ∷ []) i
  used_more i h = by (cases_order i n)
    where
      by : (i ≡ n) ⊎ ((i < n) ⊎ (n < i)) → Contains (numbers ++ k ∷ []) i
      by (inl e) = let same : k ≡ i = next (omega arith) ∙ sym e in subst (Contains (numbers ++ k ∷ [])) same (Contains-push numbers k)
      by (inr (inl less)) = Contains-append_left numbers (k ∷ []) i (so_far.used i less)
      by (inr (inr above)) = absurd (omega arith)

  in_order_more : (place j i : ℕ) → slice_get (numbers ++ k ∷ []) place ≡ Some j → i < j → Contains (take place (numbers ++ k ∷ [])) i
  in_order_more place j i at h = by (cases_order place (length numbers))
    where
      front : (xs : List ℕ) → take place (numbers ++ k ∷ []) ≡ xs → Contains xs i → Contains (take place (numbers ++ k ∷ [])) i
      front xs e there = subst (λ (zs : List ℕ). Contains zs i) (sym e) there

      by : (place ≡ length numbers) ⊎ ((place < length numbers) ⊎ (length numbers < place)) → Contains (take place (numbers ++ k ∷ [])) i
      by (inl e) =
          let read : j ≡ k = sym (get_or_from_slice_get (numbers ++ k ∷ []) place j j at) ∙ ap (λ q. get_or (numbers ++ k ∷ []) q j) e ∙ get_or-append_seam numbers k [] j in
          front numbers (ap (λ q. take q (numbers ++ k ∷ [])) e ∙ take-append_seam numbers (k ∷ [])) (so_far.used i (omega arith))
      by (inr (inl less)) =
          let before : place ≤ length numbers = omega arith in
          front (take place numbers) (take-append-le place numbers (k ∷ []) before) (so_far.in_order place j i (front_read numbers (k ∷ []) place j less at) h)
      by (inr (inr above)) = absurd (omega (arith, slice_get_within (numbers ++ k ∷ []) place j at, length-append numbers (k ∷ [])))

  pub one_more : AreUsed (numbers ++ k ∷ []) m
  one_more = record { used = used_more; in_order = in_order_more }

-- how the list grows where p gets the number n
module _ (old new : List Triple) (p : Triple) (n : ℕ) (h : Numbers old new p n) where
  pub within : n < length new
  within = slice_get_within new n p h.at

  pub longer : (length new ≡ length old) ⊎ ((length new ≡ length old + 1) × (n ≡ length old))
  longer = by h.grown
    where
      by : (new ≡ old) ⊎ ((new ≡ old ++ p ∷ []) × (n ≡ length old)) → (length new ≡ length old) ⊎ ((length new ≡ length old + 1) × (n ≡ length old))
      by (inl e) = inl (ap length e)
      by (inr (e, last)) = inr (ap length e ∙ length-append old (p ∷ []), last)

  pub kept : (i : ℕ) (d : Triple) → i < length old → get_or new i d ≡ get_or old i d
  kept i d less = by h.grown
    where
      by : (new ≡ old) ⊎ ((new ≡ old ++ p ∷ []) × (n ≡ length old)) → get_or new i d ≡ get_or old i d
      by (inl e) = ap (λ (qs : List Triple). get_or qs i d) e
      by (inr (e, last)) = ap (λ (qs : List Triple). get_or qs i d) e ∙ get_or-append old (p ∷ []) d i less

  pub all_of : (P : Triple → Type 0) → All P old → P p → All P new
  all_of P each here = by h.grown
    where
      by : (new ≡ old) ⊎ ((new ≡ old ++ p ∷ []) × (n ≡ length old)) → All P new
      by (inl e) = subst (All P) (sym e) each
      by (inr (e, last)) = subst (All P) (sym e) (All-push P old p each here)

  pub used_of : (numbers : List ℕ) → AreUsed numbers (length old) → AreUsed (numbers ++ n ∷ []) (length new)
  used_of numbers so_far = by longer
    where
      by : (length new ≡ length old) ⊎ ((length new ≡ length old + 1) × (n ≡ length old)) → AreUsed (numbers ++ n ∷ []) (length new)
      by (inl e) = one_more numbers (length old) (length new) n so_far (omega (arith, within)) (omega arith) (λ less. absurd (omega arith))
      by (inr (e, last)) = one_more numbers (length old) (length new) n so_far (omega arith) (omega arith) (λ less. last)

  pub size_of : (length old ≤ length new) × (length new ≤ length old + 1)
  size_of = by longer
    where
      by : (length new ≡ length old) ⊎ ((length new ≡ length old + 1) × (n ≡ length old)) → (length old ≤ length new) × (length new ≤ length old + 1)
      by (inl e) = (omega arith, omega arith)
      by (inr (e, last)) = (omega arith, omega arith)

-- the same for the three places of a triangle
module _ (old new : List Triple) (t : Triple × Triple × Triple) (numbers : Tri) (h : NumbersAll old new t numbers) where
  pub size_of_all : (length old ≤ length new) × (length new ≤ length old + 3)
  size_of_all =
      let a = size_of old h.first t.0 numbers.a h.a in
      let b = size_of h.first h.second t.1 numbers.b h.b in
      let c = size_of h.second new t.2 numbers.c h.c in (
        omega arith,
        omega arith,
      )

  pub below_all : IsBelow (length new) numbers
  below_all =
      let b = size_of h.first h.second t.1 numbers.b h.b in
      let c = size_of h.second new t.2 numbers.c h.c in
      record {
        a = omega (arith, within old h.first t.0 numbers.a h.a);
        b = omega (arith, within h.first h.second t.1 numbers.b h.b);
        c = within h.second new t.2 numbers.c h.c;
      }

  pub kept_all : (i : ℕ) (d : Triple) → i < length old → get_or new i d ≡ get_or old i d
  kept_all i d less =
      let a = size_of old h.first t.0 numbers.a h.a in
      let b = size_of h.first h.second t.1 numbers.b h.b in
      kept h.second new t.2 numbers.c h.c i d (omega arith) ∙ kept h.first h.second t.1 numbers.b h.b i d (omega arith) ∙ kept old h.first t.0 numbers.a h.a i d less

  pub placed_all : placed new numbers ≡ t
  placed_all =
      let none : Triple = record { x = pos 0; y = pos 0; z = pos 0 } in
      let b = size_of h.first h.second t.1 numbers.b h.b in
      let on_second = kept h.second new t.2 numbers.c h.c in
      let on_first = kept h.first h.second t.1 numbers.b h.b in
      let a_within : numbers.a < length h.first = within old h.first t.0 numbers.a h.a in
      let a_here : vertex_at new numbers.a ≡ t.0 = on_second numbers.a none (omega arith) ∙ on_first numbers.a none a_within ∙ get_or_from_slice_get h.first numbers.a t.0 none h.a.at in
      let b_here : vertex_at new numbers.b ≡ t.1 = on_second numbers.b none (within h.first h.second t.1 numbers.b h.b) ∙ get_or_from_slice_get h.second numbers.b t.1 none h.b.at in
      let c_here : vertex_at new numbers.c ≡ t.2 = get_or_from_slice_get new numbers.c t.2 none h.c.at in
      λ i. (a_here i, b_here i, c_here i)

  pub all_of_all : (P : Triple → Type 0) → All P old → P t.0 → P t.1 → P t.2 → All P new
  all_of_all P each a b c =
      all_of h.second new t.2 numbers.c h.c P (all_of h.first h.second t.1 numbers.b h.b P (all_of old h.first t.0 numbers.a h.a P each a) b) c

  pub used_of_all : (triangles : List Tri) → AreUsed (numbers_of triangles) (length old) → AreUsed (numbers_of (triangles ++ numbers ∷ [])) (length new)
  used_of_all triangles so_far =
      let xs = numbers_of triangles in
      let apart : numbers_of (triangles ++ numbers ∷ []) ≡ ((xs ++ numbers.a ∷ []) ++ numbers.b ∷ []) ++ numbers.c ∷ [] =
      flat_map-append (λ (u : Tri). u.a ∷ u.b ∷ u.c ∷ []) triangles (numbers ∷ []) ∙ simp append_assoc in
      subst (λ (zs : List ℕ). AreUsed zs (length new)) (sym apart)
      (used_of h.second new t.2 numbers.c h.c ((xs ++ numbers.a ∷ []) ++ numbers.b ∷ [])
      (used_of h.first h.second t.1 numbers.b h.b (xs ++ numbers.a ∷ [])
      (used_of old h.first t.0 numbers.a h.a xs so_far)))
