-- It is decided which sides triangles share, which halves have no reverse, and which triangles have the same corners.
use Rattle.std.proofs.Common.{◌≡◌, ◌⊎◌, inl, inr, ◌↔◌, ℕ, ◌+◌, ◌*◌, ◌/◌, ◌%◌, ◌<◌, All, Some, None, length, slice_get, refl, sym, ap, subst, ◌∙◌, arith}
use Rattle.std.proofs.lemmas.Bool.{cases_order}
use Rattle.std.proofs.lemmas.Option.{none-some, same_Some, slice_get_within}
use Rattle.integers.proofs.Lists.{some_element}
use Rattle.lattice.specs.declared.soup.Tri.{Tri}
use Rattle.lattice.specs.Triangles.{IsBelow}
use Rattle.geometry.specs.Parts.{Part, IsHalf, HasNoFlatTriangle, HasNoSideTwice, IsClosed, IsCornerOf, AreDouble, start_of, end_of}
use Rattle.geometry.proofs.Listed.{same_element, face_at}
use Rattle.solid_mesh.specs.Faults.{ShareSide, SharesEarlier, IsUnpaired, DoublesEarlier}
use Rattle.solid_mesh.proofs.DoubleLemmas.{half_of}
use Rattle.solid_mesh.proofs.HalfLemmas.{half_within, start_of_half, end_of_half}
use Rattle.solid_mesh.proofs.Sharing.{starts_differ}
use Rattle.answers_exist.proofs.Decided.{Decided, decided_as, decided_both, decided_three, decided_either, decided_equal, decided_below, decided_some, by_option}

pub decided_corner : (t : Tri) (n : ℕ) → Decided (IsCornerOf t n)
decided_corner t n = decided_either (decided_equal t.a n) (decided_either (decided_equal t.b n) (decided_equal t.c n))

module _ (s : Part) where
  -- ---- halves
  module _ (half m n : ℕ) (t : Tri) (at : slice_get s.triangles (half / 3) ≡ Some t) where
    half_made : (start_of t (half % 3) ≡ m) × (end_of t (half % 3) ≡ n) → IsHalf s half m n
    half_made (start, end) = record { tri = t; at = at; start = start; end = end }

    half_read : IsHalf s half m n → (start_of t (half % 3) ≡ m) × (end_of t (half % 3) ≡ n)
    half_read h =
        let same : t ≡ h.tri = same_Some t h.tri (sym at ∙ h.at) in
        (ap (λ (u : Tri). start_of u (half % 3)) same ∙ h.start, ap (λ (u : Tri). end_of u (half % 3)) same ∙ h.end)

  decided_half : (half m n : ℕ) → Decided (IsHalf s half m n)
  decided_half half m n =
      by_option (slice_get s.triangles (half / 3)) (λ none. inr (λ h. none-some h.tri (sym none ∙ h.at)))
      (λ t at. decided_as (half_made half m n t at, half_read half m n t at) (decided_both (decided_equal (start_of t (half % 3)) m) (decided_equal (end_of t (half % 3)) n)))

  -- ---- sides that two triangles share
  abbrev SharesAt : Tri → Tri → ℕ → ℕ → Type 0
  SharesAt t u k l = ((k < 3) × (l < 3)) × ((start_of t k ≡ start_of u l) × (end_of t k ≡ end_of u l))

  decided_shares_at : (t u : Tri) (k l : ℕ) → Decided (SharesAt t u k l)
  decided_shares_at t u k l = decided_both (decided_both (decided_below k 3) (decided_below l 3)) (decided_both (decided_equal (start_of t k) (start_of u l)) (decided_equal (end_of t k) (end_of u l)))

  third_of : (i k : ℕ) → k < 3 → (3 * i + k) / 3 ≡ i
  third_of i k h = omega (arith, h)

  module _ (i j : ℕ) (t u : Tri) (at : slice_get s.triangles i ≡ Some t) (at_other : slice_get s.triangles j ≡ Some u) where
    share_made : (k : ℕ) × ((l : ℕ) × SharesAt t u k l) → ShareSide s i j
    share_made (k, (l, ((first, second), (start, end)))) = record {
      half = 3 * i + k;
      other = 3 * j + l;
      m = start_of t k;
      n = end_of t k;
      goes = half_of s t i k (3 * i + k) at first refl;
      goes_too = let g = half_of s u j l (3 * j + l) at_other second refl in record { tri = g.tri; at = g.at; start = g.start ∙ sym start; end = g.end ∙ sym end };
      of_first = third_of i k first;
      of_second = third_of j l second;
    }

    share_read : ShareSide s i j → (k : ℕ) × ((l : ℕ) × SharesAt t u k l)
    share_read h =
        let one : t ≡ h.goes.tri = same_element s.triangles i (h.half / 3) t h.goes.tri (sym h.of_first) at h.goes.at in
        let two : u ≡ h.goes_too.tri = same_element s.triangles j (h.other / 3) u h.goes_too.tri (sym h.of_second) at_other h.goes_too.at in
        let start : start_of t (h.half % 3) ≡ start_of u (h.other % 3) =
        ap (λ (v : Tri). start_of v (h.half % 3)) one ∙ h.goes.start ∙ sym (ap (λ (v : Tri). start_of v (h.other % 3)) two ∙ h.goes_too.start) in
        let end : end_of t (h.half % 3) ≡ end_of u (h.other % 3) =
        ap (λ (v : Tri). end_of v (h.half % 3)) one ∙ h.goes.end ∙ sym (ap (λ (v : Tri). end_of v (h.other % 3)) two ∙ h.goes_too.end) in
        (h.half % 3, (h.other % 3, ((omega arith, omega arith), (start, end))))

    decided_share_here : Decided (ShareSide s i j)
    decided_share_here =
        decided_as (share_made, share_read)
        (decided_some (λ k. (l : ℕ) × SharesAt t u k l) (λ k. decided_some (SharesAt t u k) (decided_shares_at t u k) 3 (λ l h. h.0.1)) 3 (λ k (l, h). h.0.0))

  first_there : (i j : ℕ) → ShareSide s i j → i < length s.triangles
  first_there i j h = subst (λ (k : ℕ). k < length s.triangles) h.of_first (slice_get_within s.triangles (h.half / 3) h.goes.tri h.goes.at)

  second_there : (i j : ℕ) → ShareSide s i j → j < length s.triangles
  second_there i j h = subst (λ (k : ℕ). k < length s.triangles) h.of_second (slice_get_within s.triangles (h.other / 3) h.goes_too.tri h.goes_too.at)

  past : (i : ℕ) → slice_get s.triangles i ≡ None → i < length s.triangles → ⊥
  past i none less = let (t, at) = some_element s.triangles i less in none-some t (sym none ∙ at)

  decided_share_side : (i j : ℕ) → Decided (ShareSide s i j)
  decided_share_side i j =
      by_option (slice_get s.triangles i) (λ none. inr (λ h. past i none (first_there i j h)))
      (λ t at. by_option (slice_get s.triangles j) (λ none. inr (λ h. past j none (second_there i j h))) (λ u at_other. decided_share_here i j t u at at_other))

  pub decided_shares_earlier : (j i : ℕ) → Decided (SharesEarlier s j i)
  decided_shares_earlier j i = decided_both (decided_below i j) (decided_share_side i j)

  pub sharing_within : (j i : ℕ) → SharesEarlier s j i → j < length s.triangles
  sharing_within j i h = second_there i j h.1

  pub shared_within : (j i : ℕ) → SharesEarlier s j i → i < length s.triangles
  shared_within j i h = first_there i j h.1

  shared_by : (half other m n : ℕ) → IsHalf s half m n → IsHalf s other m n → ShareSide s (half / 3) (other / 3)
  shared_by half other m n goes too = record { half = half; other = other; m = m; n = n; goes = goes; goes_too = too; of_first = refl; of_second = refl }

  -- where no triangle shares a side with an earlier one, and none is flat, no side is there twice
  module _ (in_range : All (IsBelow (length s.corners)) s.triangles) (flat : HasNoFlatTriangle s) (none : (j i : ℕ) → ¬ SharesEarlier s j i) where
    start_twice : (half other m n : ℕ) → IsHalf s half m n → IsHalf s other m n → half / 3 ≡ other / 3 → half % 3 < other % 3 → ⊥
    start_twice half other m n goes too same less =
        let f = face_at s in_range goes.tri (half / 3) goes.at in
        let one : goes.tri ≡ too.tri = same_element s.triangles (half / 3) (other / 3) goes.tri too.tri same goes.at too.at in
        starts_differ s f (flat f) (half % 3) (other % 3) less (omega arith) (goes.start ∙ sym (ap (λ (v : Tri). start_of v (other % 3)) one ∙ too.start))

    pub sides_once : HasNoSideTwice s
    sides_once half other m n goes too = by (cases_order (half / 3) (other / 3)) (cases_order (half % 3) (other % 3))
      where
        by : (half / 3 ≡ other / 3) ⊎ ((half / 3 < other / 3) ⊎ (other / 3 < half / 3)) → (half % 3 ≡ other % 3) ⊎ ((half % 3 < other % 3) ⊎ (other % 3 < half % 3)) → half ≡ other
        by (inr (inl less)) sides = absurd (none (other / 3) (half / 3) (less, shared_by half other m n goes too))
        by (inr (inr more)) sides = absurd (none (half / 3) (other / 3) (more, shared_by other half m n too goes))
        by (inl same) (inl e) = omega (arith, same, e)
        by (inl same) (inr (inl less)) = absurd (start_twice half other m n goes too same less)
        by (inl same) (inr (inr more)) = absurd (start_twice other half m n too goes (sym same) more)

  -- ---- halves without a reverse
  decided_back : (m n : ℕ) → Decided ((other : ℕ) × IsHalf s other n m)
  decided_back m n = decided_some (λ other. IsHalf s other n m) (λ other. decided_half other n m) (3 * length s.triangles) (λ other h. half_within s other h)

  unpaired_by : (half m n : ℕ) → IsHalf s half m n → Decided ((other : ℕ) × IsHalf s other n m) → Decided (IsUnpaired s half)
  unpaired_by half m n goes (inr none) = inl (record { m = m; n = n; goes = goes; alone = λ other back. none (other, back) })
  unpaired_by half m n goes (inl (other, back)) = inr apart
    where
      apart : IsUnpaired s half → ⊥
      apart u =
          let first : m ≡ u.m = sym (start_of_half s half goes) ∙ start_of_half s half u.goes in
          let last : n ≡ u.n = sym (end_of_half s half goes) ∙ end_of_half s half u.goes in
          u.alone other (subst (λ (k : ℕ). IsHalf s other k u.m) last (subst (λ (k : ℕ). IsHalf s other n k) first back))

  pub decided_unpaired : (half : ℕ) → Decided (IsUnpaired s half)
  decided_unpaired half =
      by_option (slice_get s.triangles (half / 3)) (λ none. inr (λ u. none-some u.goes.tri (sym none ∙ u.goes.at)))
      (λ t at. unpaired_by half (start_of t (half % 3)) (end_of t (half % 3)) (record { tri = t; at = at; start = refl; end = refl }) (decided_back (start_of t (half % 3)) (end_of t (half % 3))))

  pub unpaired_within : (half : ℕ) → IsUnpaired s half → half < 3 * length s.triangles
  unpaired_within half u = half_within s half u.goes

  pub closed_by : HasNoFlatTriangle s → HasNoSideTwice s → ((half : ℕ) → ¬ IsUnpaired s half) → IsClosed s
  closed_by flat once none = record { none_flat = flat; once = once; returns = λ half m n goes. by half m n goes (decided_back m n) }
    where
      by : (half m n : ℕ) → IsHalf s half m n → Decided ((other : ℕ) × IsHalf s other n m) → (other : ℕ) × IsHalf s other n m
      by half m n goes (inl back) = back
      by half m n goes (inr alone) = absurd (none half (record { m = m; n = n; goes = goes; alone = λ other back. alone (other, back) }))

  -- ---- triangles with the same corners
  abbrev HasCornersOf : Tri → Tri → Type 0
  HasCornersOf t u = IsCornerOf u t.a × IsCornerOf u t.b × IsCornerOf u t.c

  decided_has_corners : (t u : Tri) → Decided (HasCornersOf t u)
  decided_has_corners t u = decided_three (decided_corner u t.a) (decided_corner u t.b) (decided_corner u t.c)

  each_corner : (t u : Tri) → HasCornersOf t u → (n : ℕ) → IsCornerOf t n → IsCornerOf u n
  each_corner t u h n (inl e) = subst (IsCornerOf u) e h.0
  each_corner t u h n (inr (inl e)) = subst (IsCornerOf u) e h.1
  each_corner t u h n (inr (inr e)) = subst (IsCornerOf u) e h.2

  all_corners : (t u : Tri) → ((n : ℕ) → IsCornerOf t n → IsCornerOf u n) → HasCornersOf t u
  all_corners t u h = (h t.a (inl refl), h t.b (inr (inl refl)), h t.c (inr (inr refl)))

  module _ (i j : ℕ) (t u : Tri) (at : slice_get s.triangles i ≡ Some t) (at_other : slice_get s.triangles j ≡ Some u) where
    double_made : HasCornersOf t u × HasCornersOf u t → AreDouble s i j
    double_made (there, back) = record { first = t; second = u; at_first = at; at_second = at_other; same = λ n. (each_corner t u there n, each_corner u t back n) }

    double_read : AreDouble s i j → HasCornersOf t u × HasCornersOf u t
    double_read d =
        let one : d.first ≡ t = same_Some d.first t (sym d.at_first ∙ at) in
        let two : d.second ≡ u = same_Some d.second u (sym d.at_second ∙ at_other) in
        let same : (n : ℕ) → IsCornerOf t n ↔ IsCornerOf u n = subst (λ (v : Tri). (n : ℕ) → IsCornerOf v n ↔ IsCornerOf u n) one (subst (λ (v : Tri). (n : ℕ) → IsCornerOf d.first n ↔ IsCornerOf v n) two d.same) in
        (all_corners t u (λ n. (same n).0), all_corners u t (λ n. (same n).1))

  decided_double : (i j : ℕ) → Decided (AreDouble s i j)
  decided_double i j =
      by_option (slice_get s.triangles i) (λ none. inr (λ d. none-some d.first (sym none ∙ d.at_first)))
      (λ t at. by_option (slice_get s.triangles j) (λ none. inr (λ d. none-some d.second (sym none ∙ d.at_second)))
      (λ u at_other. decided_as (double_made i j t u at at_other, double_read i j t u at at_other) (decided_both (decided_has_corners t u) (decided_has_corners u t))))

  pub decided_doubles_earlier : (j i : ℕ) → Decided (DoublesEarlier s j i)
  decided_doubles_earlier j i = decided_both (decided_below i j) (decided_double i j)

  pub doubling_within : (j i : ℕ) → DoublesEarlier s j i → j < length s.triangles
  doubling_within j i h = slice_get_within s.triangles j h.1.second h.1.at_second

  pub doubled_within : (j i : ℕ) → DoublesEarlier s j i → i < length s.triangles
  doubled_within j i h = slice_get_within s.triangles i h.1.first h.1.at_first
