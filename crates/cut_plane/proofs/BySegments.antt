-- What holds of as many segments as triangles: an odd number of the one where it is an odd number of the other.
use Rattle.std.proofs.Common.{◌≡◌, ◌↔◌, ◌⊎◌, inl, inr, ℕ, ◌+◌, ◌%◌, ◌<◌, List, [], ◌∷◌, Contains, length, get_or, slice_get, Some, sym, subst, refl, ap, ◌∙◌, arith}
use Rattle.std.proofs.lemmas.Bool.{cases_eq}
use Rattle.std.proofs.lemmas.List.Elements.{All-contains}
use Rattle.std.proofs.lemmas.Option.{slice_get-get_or, slice_get_within, get_or_from_slice_get}
use Rattle.lattice.specs.declared.soup.Tri.{Tri}
use Rattle.lattice.specs.Cuts.{Plane}
use Rattle.geometry.specs.Parts.{Part, Face}
use Rattle.geometry.specs.Cuts.{IsCrossed, IsCount}
use Rattle.geometry.proofs.Counts.{count_of}
use Rattle.cut_plane.specs.declared.segments.Segment.{Segment}
use Rattle.cut_plane.specs.Loops.{IsSegmentOf, triangles_of, AreBorders}
use Rattle.cut_plane.proofs.FaceCorners.{have_same}
use Rattle.cut_plane.proofs.Counting.{count_map, distinct_of_pairs, count_same, places, places_distinct, place_within, count_places, count_of_places}
use Rattle.cut_plane.proofs.Lists.{segment_at, contains_first, contains_rest, contains_cases, contains_none}

-- P holds of a segment exactly where R holds of its face, and R holds of no face that isn't crossed
module _ (c : Plane) (s : Part) (segments : List Segment) (starts : List ℕ) (borders : AreBorders c s segments starts) (P : Segment → Type 0) (R : Face s → Type 0)
    (moved : (f g : Face s) → f.a ≡ g.a → f.b ≡ g.b → f.c ≡ g.c → R f → R g) (crossed : (f : Face s) → R f → IsCrossed c f)
    (of_face : (x : Segment) (h : IsSegmentOf c s x) → P x ↔ R h.face) (decide : (x : Segment) → P x ⊎ ¬ P x) where
  -- R holds of the triangle with this number
  abbrev HasNumber : ℕ → Type 0
  HasNumber i = (f : Face s) × (f.number ≡ i) × R f

  -- R holds of a face that is this triangle
  abbrev HasFace : Tri → Type 0
  HasFace t = (f : Face s) × (f.tri ≡ t) × R f

  of_segment : (x : Segment) → IsSegmentOf c s x → P x ↔ HasNumber x.tri
  of_segment x h = (
    (λ holds. (h.face, h.number, (of_face x h).0 holds)),
    (λ (f, number, r). let same = have_same f h.face (number ∙ sym h.number) in (of_face x h).1 (moved f h.face same.a same.b same.c r)),
  )

  of_triangle : (i : ℕ) (d : Tri) → i < length s.triangles → HasFace (get_or s.triangles i d) ↔ HasNumber (0 + i)
  of_triangle i d less = (
    (λ (f, tri, r). there f tri r),
    (λ (f, number, r). (f, sym (get_or_from_slice_get s.triangles f.number f.tri d f.listed) ∙ ap (λ (k : ℕ). get_or s.triangles k d) (number ∙ none i), r)),
  )
    where
      none : (i : ℕ) → 0 + i ≡ i
      none i = omega arith

      there : (f : Face s) → f.tri ≡ get_or s.triangles i d → R f → HasNumber (0 + i)
      there f tri r =
          let g : Face s = record {
            number = i;
            tri = f.tri;
            a = f.a;
            b = f.b;
            c = f.c;
            listed = subst (λ (t : Tri). slice_get s.triangles i ≡ Some t) (sym tri) (slice_get-get_or s.triangles i d less);
            at_a = f.at_a;
            at_b = f.at_b;
            at_c = f.at_c;
          } in
          (g, sym (none i), moved f g refl refl refl r)

  listed_number : (i : ℕ) → HasNumber i → Contains (triangles_of segments) i
  listed_number i (f, number, r) = subst (Contains (triangles_of segments)) number (borders.all f (crossed f r))

  decide_contains : (xs : List ℕ) (i : ℕ) → Contains xs i ⊎ ¬ Contains xs i
  decide_contains [] i = inr (contains_none i)
  decide_contains (x ∷ xs) i = by (cases_eq x i) (decide_contains xs i)
    where
      by : (x ≡ i) ⊎ (¬ (x ≡ i)) → Contains xs i ⊎ ¬ Contains xs i → Contains (x ∷ xs) i ⊎ ¬ Contains (x ∷ xs) i
      by (inl same) rest = inl (subst (Contains (x ∷ xs)) same (contains_first xs x))
      by (inr other) (inl there) = inl (contains_rest x xs i there)
      by (inr other) (inr none) = inr (λ there. neither (contains_cases x xs i there))
        where
          neither : (x ≡ i) ⊎ Contains xs i → ⊥
          neither (inl same) = other same
          neither (inr there) = none there

  decide_number : (i : ℕ) → HasNumber i ⊎ ¬ HasNumber i
  decide_number i = by (decide_contains (triangles_of segments) i)
    where
      from : (x : Segment) → Contains segments x → x.tri ≡ i → P x ⊎ ¬ P x → HasNumber i ⊎ ¬ HasNumber i
      from x there same (inl holds) = inl (subst HasNumber same ((of_segment x (All-contains (IsSegmentOf c s) segments x borders.each there)).0 holds))
      from x there same (inr none) = inr (λ h. none ((of_segment x (All-contains (IsSegmentOf c s) segments x borders.each there)).1 (subst HasNumber (sym same) h)))

      by : Contains (triangles_of segments) i ⊎ ¬ Contains (triangles_of segments) i → HasNumber i ⊎ ¬ HasNumber i
      by (inl there) = let (x, found, same) = segment_at segments i there in from x found same (decide x)
      by (inr none) = inr (λ h. none (listed_number i h))

  same_count : (n : ℕ) → IsCount Tri HasFace s.triangles n → (m : ℕ) → IsCount Segment P segments m → m ≡ n
  same_count n triangles m listed =
      count_same HasNumber (triangles_of segments) (places 0 s.triangles) m n (distinct_of_pairs (triangles_of segments) borders.once) (places_distinct 0 s.triangles)
      (λ i (f, number, r) there. subst (Contains (places 0 s.triangles)) (none f.number ∙ number) (place_within 0 s.triangles f.number (slice_get_within s.triangles f.number f.tri f.listed)))
      (λ i h there. listed_number i h)
      (count_map (λ (x : Segment). x.tri) segments m (λ x there. of_segment x (All-contains (IsSegmentOf c s) segments x borders.each there)) listed)
      (count_places HasFace HasNumber 0 s.triangles n of_triangle triangles)
    where
      none : (i : ℕ) → 0 + i ≡ i
      none i = omega arith

  pub odd_alike : (n : ℕ) → IsCount Segment P segments n → (n % 2 ≡ 1) ↔ ((m : ℕ) × IsCount Tri HasFace s.triangles m × (m % 2 ≡ 1))
  odd_alike n listed = (
    (λ odd. let (m, count) = triangle_count in (m, count, subst (λ (k : ℕ). k % 2 ≡ 1) (same_count m count n listed) odd)),
    (λ (m, count, odd). subst (λ (k : ℕ). k % 2 ≡ 1) (sym (same_count m count n listed)) odd),
  )
    where
      triangle_count : (m : ℕ) × IsCount Tri HasFace s.triangles m
      triangle_count =
          let (m, count) = count_of decide_number (places 0 s.triangles) in
          (m, count_of_places HasFace HasNumber 0 s.triangles m of_triangle count)
